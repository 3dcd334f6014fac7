-- When two trees are the same, as a truth value. Spans count where the first argument says so.
use Rattle.std.specs.Prelude.{Bool, true, false, not, ◌&&◌, ◌||◌, ◌==◌, List, Option, Some, None, bytes_eq}
use Rattle.std.specs.Cmp.Lexicographic.{pointwise}
use Rattle.std.specs.Ordering.{int_eq}
use Rattle.std.specs.Bool.{beq}
use Rattle.swc_ast.specs.Tree.{Text, same_name, Key, NameKey, TextKey, NumberKey, ItemKind, Plain, Spread, Hole, Label, Tree, node, Forest, ε, ◌⊳◌}
use Rattle.swc_ast.specs.Tree as tree
use Rattle.swc_ast.specs.Sorts as by_sort
use Rattle.swc_ast.specs.Sorts.{ExprLabel, PropLabel, PartLabel, SimpleLabel, HolderLabel, DeclLabel, ItemLabel}
use Rattle.swc_ast.specs.declared.Span.{Span}
use Rattle.swc_ast.specs.declared.UnaryOp.{UnaryOp}
use Rattle.swc_ast.specs.declared.UpdateOp.{UpdateOp}
use Rattle.swc_ast.specs.declared.BinaryOp.{BinaryOp}
use Rattle.swc_ast.specs.declared.AssignOp.{AssignOp}
use Rattle.swc_ast.specs.declared.VarDeclKind.{VarDeclKind}
use Rattle.swc_ast.specs.contracts.UnaryOpPartialEq.TheImpl as unary_ops
use Rattle.swc_ast.specs.contracts.UpdateOpPartialEq.TheImpl as update_ops
use Rattle.swc_ast.specs.contracts.BinaryOpPartialEq.TheImpl as binary_ops
use Rattle.swc_ast.specs.contracts.AssignOpPartialEq.TheImpl as assign_ops
use Rattle.swc_ast.specs.contracts.VarDeclKindPartialEq.TheImpl as kinds

-- operators and the words of declarations, by `==`
abbrev pub same_unary : UnaryOp → UnaryOp → Bool
same_unary a b = unary_ops.ghosts.eq a b

abbrev pub same_update : UpdateOp → UpdateOp → Bool
same_update a b = update_ops.ghosts.eq a b

abbrev pub same_binary : BinaryOp → BinaryOp → Bool
same_binary a b = binary_ops.ghosts.eq a b

abbrev pub same_assign : AssignOp → AssignOp → Bool
same_assign a b = assign_ops.ghosts.eq a b

abbrev pub same_kind : VarDeclKind → VarDeclKind → Bool
same_kind a b = kinds.ghosts.eq a b

-- both none, or both there and the same
abbrev pub same_option : {X : Type 0} → (X → X → Bool) → Option X → Option X → Bool
same_option f None None = true
same_option f (Some a) (Some b) = f a b
same_option f _ _ = false

-- keys as they were written
abbrev pub same_key : Key → Key → Bool
same_key (NameKey a) (NameKey b) = bytes_eq a b
same_key (TextKey a) (TextKey b) = bytes_eq a b
same_key (NumberKey a) (NumberKey b) = int_eq a b
same_key _ _ = false

-- kinds of items of an array
abbrev pub same_item : ItemKind → ItemKind → Bool
same_item Plain Plain = true
same_item Spread Spread = true
same_item Hole Hole = true
same_item _ _ = false

-- texts of a template, with their `tail`
abbrev pub same_quasi : Text × Bool → Text × Bool → Bool
same_quasi p q = bytes_eq p.0 q.0 && beq p.1 q.1

-- spans by their ends
abbrev pub same_span : Span → Span → Bool
same_span a b = (a.lo == b.lo) && (a.hi == b.hi)

-- the spans of two nodes, where they count
abbrev pub same_spans : Bool → List Span → List Span → Bool
same_spans count ss ts = pointwise same_span ss ts || not count

-- labels of one sort: of one kind, with the same in them
abbrev pub same_expr_label : ExprLabel → ExprLabel → Bool
same_expr_label (by_sort.NumLit a) (by_sort.NumLit b) = int_eq a b
same_expr_label (by_sort.StrLit a) (by_sort.StrLit b) = bytes_eq a b
same_expr_label (by_sort.BoolLit a) (by_sort.BoolLit b) = beq a b
same_expr_label by_sort.NullLit by_sort.NullLit = true
same_expr_label by_sort.This by_sort.This = true
same_expr_label by_sort.Invalid by_sort.Invalid = true
same_expr_label (by_sort.Read a) (by_sort.Read b) = same_name a b
same_expr_label (by_sort.Template a) (by_sort.Template b) = pointwise same_quasi a b
same_expr_label (by_sort.Array a) (by_sort.Array b) = pointwise same_item a b
same_expr_label by_sort.Object by_sort.Object = true
same_expr_label (by_sort.Fn a) (by_sort.Fn b) = same_option same_name a b
same_expr_label by_sort.Arrow by_sort.Arrow = true
same_expr_label (by_sort.Unary a) (by_sort.Unary b) = same_unary a b
same_expr_label (by_sort.TypeOfName a) (by_sort.TypeOfName b) = same_name a b
same_expr_label (by_sort.Binary a) (by_sort.Binary b) = same_binary a b
same_expr_label by_sort.Cond by_sort.Cond = true
same_expr_label by_sort.Seq by_sort.Seq = true
same_expr_label (by_sort.Dot a) (by_sort.Dot b) = bytes_eq a b
same_expr_label by_sort.Index by_sort.Index = true
same_expr_label by_sort.Call by_sort.Call = true
same_expr_label by_sort.New by_sort.New = true
same_expr_label (by_sort.CallEval a) (by_sort.CallEval b) = same_name a b
same_expr_label (by_sort.CallDot a) (by_sort.CallDot b) = bytes_eq a b
same_expr_label by_sort.CallIndex by_sort.CallIndex = true
same_expr_label (by_sort.Assign o a) (by_sort.Assign p b) = same_assign o p && same_name a b
same_expr_label (by_sort.AssignDot o a) (by_sort.AssignDot p b) = same_assign o p && bytes_eq a b
same_expr_label (by_sort.AssignIndex o) (by_sort.AssignIndex p) = same_assign o p
same_expr_label (by_sort.Update o c a) (by_sort.Update p d b) = (same_update o p && beq c d) && same_name a b
same_expr_label (by_sort.UpdateDot o c a) (by_sort.UpdateDot p d b) = (same_update o p && beq c d) && bytes_eq a b
same_expr_label (by_sort.UpdateIndex o c) (by_sort.UpdateIndex p d) = same_update o p && beq c d
same_expr_label _ _ = false

abbrev pub same_prop_label : PropLabel → PropLabel → Bool
same_prop_label by_sort.SpreadRecord by_sort.SpreadRecord = true
same_prop_label by_sort.KeyValue by_sort.KeyValue = true
same_prop_label (by_sort.Shorthand a) (by_sort.Shorthand b) = same_name a b
same_prop_label by_sort.Method by_sort.Method = true
same_prop_label (by_sort.PlainKey a) (by_sort.PlainKey b) = same_key a b
same_prop_label by_sort.ComputedKey by_sort.ComputedKey = true
same_prop_label _ _ = false

abbrev pub same_part_label : PartLabel → PartLabel → Bool
same_part_label by_sort.Params by_sort.Params = true
same_part_label by_sort.Body by_sort.Body = true
same_part_label (by_sort.Param a) (by_sort.Param b) = same_name a b
same_part_label by_sort.Absent by_sort.Absent = true
same_part_label by_sort.CaseBody by_sort.CaseBody = true
same_part_label (by_sort.Declarator k a) (by_sort.Declarator l b) = same_kind k l && same_name a b
same_part_label _ _ = false

abbrev pub same_simple_label : SimpleLabel → SimpleLabel → Bool
same_simple_label by_sort.Empty by_sort.Empty = true
same_simple_label by_sort.Throw by_sort.Throw = true
same_simple_label by_sort.ExprStmt by_sort.ExprStmt = true
same_simple_label by_sort.Return by_sort.Return = true
same_simple_label (by_sort.Break a) (by_sort.Break b) = same_option bytes_eq a b
same_simple_label (by_sort.Continue a) (by_sort.Continue b) = same_option bytes_eq a b
same_simple_label _ _ = false

abbrev pub same_holder_label : HolderLabel → HolderLabel → Bool
same_holder_label by_sort.Block by_sort.Block = true
same_holder_label by_sort.If by_sort.If = true
same_holder_label by_sort.While by_sort.While = true
same_holder_label by_sort.DoWhile by_sort.DoWhile = true
same_holder_label by_sort.For by_sort.For = true
same_holder_label (by_sort.Labeled a) (by_sort.Labeled b) = bytes_eq a b
same_holder_label (by_sort.Switch a) (by_sort.Switch b) = pointwise beq a b
same_holder_label (by_sort.Try a) (by_sort.Try b) = same_option (same_option same_name) a b
same_holder_label _ _ = false

abbrev pub same_decl_label : DeclLabel → DeclLabel → Bool
same_decl_label (by_sort.VarDecl a) (by_sort.VarDecl b) = same_kind a b
same_decl_label (by_sort.FnDecl a) (by_sort.FnDecl b) = same_name a b
same_decl_label _ _ = false

abbrev pub same_item_label : ItemLabel → ItemLabel → Bool
same_item_label by_sort.Module by_sort.Module = true
same_item_label by_sort.Script by_sort.Script = true
same_item_label (by_sort.Import a) (by_sort.Import b) = bytes_eq a b
same_item_label (by_sort.ImportNamed a k) (by_sort.ImportNamed b l) = same_name a b && same_option bytes_eq k l
same_item_label (by_sort.ImportDefault a) (by_sort.ImportDefault b) = same_name a b
same_item_label (by_sort.ImportStar a) (by_sort.ImportStar b) = same_name a b
same_item_label by_sort.ExportDecl by_sort.ExportDecl = true
same_item_label by_sort.ExportNamed by_sort.ExportNamed = true
same_item_label (by_sort.ExportSpecifier a k) (by_sort.ExportSpecifier b l) = same_name a b && same_option bytes_eq k l
same_item_label (by_sort.ExportDefaultFn a) (by_sort.ExportDefaultFn b) = same_option same_name a b
same_item_label by_sort.ExportDefaultExpr by_sort.ExportDefaultExpr = true
same_item_label _ _ = false

-- labels: of one sort and of one kind, with the same in them
unfoldable pub same_label : Label → Label → Bool
same_label (tree.expr a) (tree.expr b) = same_expr_label a b
same_label (tree.prop a) (tree.prop b) = same_prop_label a b
same_label (tree.part a) (tree.part b) = same_part_label a b
same_label (tree.simple a) (tree.simple b) = same_simple_label a b
same_label (tree.holder a) (tree.holder b) = same_holder_label a b
same_label (tree.decl a) (tree.decl b) = same_decl_label a b
same_label (tree.item a) (tree.item b) = same_item_label a b
same_label _ _ = false

unfoldable mutual
  -- labels, spans where they count, and children
  pub same : Bool → Tree → Tree → Bool
  same count (node l ss cs) (node m ts ds) = same_label l m && (same_spans count ss ts && same_forest count cs ds)

  pub same_forest : Bool → Forest → Forest → Bool
  same_forest count ε ε = true
  same_forest count ε (u ⊳ us) = false
  same_forest count (t ⊳ ts) ε = false
  same_forest count (t ⊳ ts) (u ⊳ us) = same count t u && same_forest count ts us
