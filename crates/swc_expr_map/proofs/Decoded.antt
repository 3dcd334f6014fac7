-- A label without contexts, read back from its code.
use Rattle.std.proofs.Common.{◌≡◌, ℕ, zero, suc, Bool, true, false, [], ◌∷◌, get_or, refl, ap}
use Rattle.std.specs.Prelude.{ℤ, pos, negsuc, List, map, Option, Some, None}
use Rattle.swc_ast.specs.Tree as tree
use Rattle.swc_ast.specs.Tree.{Text, Name, NameKey, TextKey, NumberKey, ItemKind, Plain, Spread, Hole, Label}
use Rattle.swc_ast.specs.declared.UnaryOp.{UnaryOp}
use Rattle.swc_ast.specs.declared.UnaryOp.TheVariants as unary
use Rattle.swc_ast.specs.declared.UpdateOp.{UpdateOp}
use Rattle.swc_ast.specs.declared.UpdateOp.TheVariants as update
use Rattle.swc_ast.specs.declared.BinaryOp.{BinaryOp}
use Rattle.swc_ast.specs.declared.BinaryOp.TheVariants as binary
use Rattle.swc_ast.specs.declared.AssignOp.{AssignOp}
use Rattle.swc_ast.specs.declared.AssignOp.TheVariants as assign
use Rattle.swc_ast.specs.declared.VarDeclKind.{VarDeclKind}
use Rattle.swc_ast.specs.declared.VarDeclKind.TheVariants as kind
use Rattle.swc_pass.specs.Inlined.{bare_label}
use Rattle.swc_expr_map.specs.Codes.{Row, Code, label_code, only_number, truth_number, item_number, quasi_entry, unary_number, binary_number, assign_number, update_number, word_number}

-- the parts of a code

abbrev natural : ℤ → ℕ
natural (pos n) = n
natural (negsuc n) = 0

abbrev truth : ℕ → Bool
truth zero = false
truth (suc n) = true

abbrev first : Row → Text
first [] = []
first (e ∷ es) = e.1

abbrev first_option : Row → Option Text
first_option [] = None
first_option (e ∷ es) = Some e.1

abbrev second_option : Row → Option Text
second_option [] = None
second_option (e ∷ es) = first_option es

-- a name of a context
abbrev name : ℕ → Text → Name
name c s = record { text = s; context = c }

abbrev name_option : ℕ → Option Text → Option Name
name_option c None = None
name_option c (Some s) = Some (name c s)

abbrev handler : ℕ → Row → Option (Option Name)
handler zero es = None
handler (suc n) es = Some (name_option 0 (first_option es))

-- operators by number

abbrev unary_of : ℕ → UnaryOp
unary_of n = get_or (unary.Minus ∷ unary.Plus ∷ unary.Bang ∷ unary.Tilde ∷ unary.TypeOf ∷ unary.Void ∷ unary.Delete ∷ []) n unary.Minus

abbrev binary_of : ℕ → BinaryOp
binary_of n = get_or (
    binary.EqEq ∷ binary.NotEq ∷ binary.EqEqEq ∷ binary.NotEqEq ∷ binary.Lt ∷ binary.LtEq ∷ binary.Gt ∷ binary.GtEq ∷ binary.LShift
    ∷ binary.RShift ∷ binary.ZeroFillRShift ∷ binary.Add ∷ binary.Sub ∷ binary.Mul ∷ binary.Div ∷ binary.Mod ∷ binary.Exp ∷ binary.BitOr
    ∷ binary.BitXor ∷ binary.BitAnd ∷ binary.LogicalOr ∷ binary.LogicalAnd ∷ binary.In ∷ binary.InstanceOf ∷ binary.NullishCoalescing ∷ []
    ) n binary.EqEq

abbrev assign_of : ℕ → AssignOp
assign_of n = get_or (
    assign.Assign ∷ assign.AddAssign ∷ assign.SubAssign ∷ assign.MulAssign ∷ assign.DivAssign ∷ assign.ModAssign ∷ assign.ExpAssign ∷ assign.LShiftAssign
    ∷ assign.RShiftAssign ∷ assign.ZeroFillRShiftAssign ∷ assign.BitOrAssign ∷ assign.BitXorAssign ∷ assign.BitAndAssign ∷ assign.AndAssign ∷ assign.OrAssign ∷ assign.NullishAssign ∷ []
    ) n assign.Assign

abbrev update_of : ℕ → UpdateOp
update_of n = get_or (update.PlusPlus ∷ update.PlusPlus ∷ update.MinusMinus ∷ []) n update.MinusMinus

abbrev prefix_of : ℕ → Bool
prefix_of n = get_or (true ∷ false ∷ true ∷ []) n false

abbrev word_of : ℕ → VarDeclKind
word_of n = get_or (kind.Var ∷ kind.Let ∷ kind.Const ∷ []) n kind.Var

abbrev item_of : ℕ → ItemKind
item_of n = get_or (Plain ∷ Spread ∷ Hole ∷ []) n Plain

unary_back : (op : UnaryOp) → unary_of (unary_number op) ≡ op
unary_back unary.Minus = refl
unary_back unary.Plus = refl
unary_back unary.Bang = refl
unary_back unary.Tilde = refl
unary_back unary.TypeOf = refl
unary_back unary.Void = refl
unary_back unary.Delete = refl

binary_back : (op : BinaryOp) → binary_of (binary_number op) ≡ op
binary_back binary.EqEq = refl
binary_back op = refl

assign_back : (op : AssignOp) → assign_of (assign_number op) ≡ op
assign_back assign.Assign = refl
assign_back op = refl

update_back : (op : UpdateOp) (b : Bool) → update_of (update_number op b) ≡ op
update_back update.PlusPlus true = refl
update_back update.PlusPlus false = refl
update_back update.MinusMinus true = refl
update_back update.MinusMinus false = refl

prefix_back : (op : UpdateOp) (b : Bool) → prefix_of (update_number op b) ≡ b
prefix_back update.PlusPlus true = refl
prefix_back update.PlusPlus false = refl
prefix_back update.MinusMinus true = refl
prefix_back update.MinusMinus false = refl

word_back : (k : VarDeclKind) → word_of (word_number k) ≡ k
word_back kind.Var = refl
word_back kind.Let = refl
word_back kind.Const = refl

truth_back : (b : Bool) → truth (truth_number b) ≡ b
truth_back false = refl
truth_back true = refl

-- rows

items_back : (ks : List ItemKind) → map (λ e. item_of e.0) (map (λ k. only_number (item_number k)) ks) ≡ ks
items_back [] = refl
items_back (Plain ∷ ks) = ap (λ js. Plain ∷ js) (items_back ks)
items_back (Spread ∷ ks) = ap (λ js. Spread ∷ js) (items_back ks)
items_back (Hole ∷ ks) = ap (λ js. Hole ∷ js) (items_back ks)

truths_back : (bs : List Bool) → map (λ e. truth e.0) (map (λ b. only_number (truth_number b)) bs) ≡ bs
truths_back [] = refl
truths_back (b ∷ bs) = λ i. truth_back b i ∷ truths_back bs i

quasis_back : (qs : List (Text × Bool)) → map (λ e. (e.1, truth e.0)) (map quasi_entry qs) ≡ qs
quasis_back [] = refl
quasis_back (q ∷ qs) = λ i. (q.0, truth_back q.1 i) ∷ quasis_back qs i

-- the label of a code by its rank
labels : List (ℤ → ℕ → Row → Label)
labels =
    (λ z c es. tree.NumLit z)
    ∷ (λ z c es. tree.StrLit (first es))
    ∷ (λ z c es. tree.BoolLit (truth (natural z)))
    ∷ (λ z c es. tree.NullLit)
    ∷ (λ z c es. tree.This)
    ∷ (λ z c es. tree.Invalid)
    ∷ (λ z c es. tree.Read (name 0 (first es)))
    ∷ (λ z c es. tree.Dot (first es))
    ∷ (λ z c es. tree.Index)
    ∷ (λ z c es. tree.Template (map (λ e. (e.1, truth e.0)) es))
    ∷ (λ z c es. tree.Array (map (λ e. item_of e.0) es))
    ∷ (λ z c es. tree.Object)
    ∷ (λ z c es. tree.SpreadRecord)
    ∷ (λ z c es. tree.KeyValue)
    ∷ (λ z c es. tree.Shorthand (name 0 (first es)))
    ∷ (λ z c es. tree.Method)
    ∷ (λ z c es. tree.ComputedKey)
    ∷ (λ z c es. tree.PlainKey (NameKey (first es)))
    ∷ (λ z c es. tree.PlainKey (TextKey (first es)))
    ∷ (λ z c es. tree.PlainKey (NumberKey z))
    ∷ (λ z c es. tree.Fn (name_option 0 (first_option es)))
    ∷ (λ z c es. tree.Arrow)
    ∷ (λ z c es. tree.Params)
    ∷ (λ z c es. tree.Body)
    ∷ (λ z c es. tree.Param (name 0 (first es)))
    ∷ (λ z c es. tree.Unary (unary_of (natural z)))
    ∷ (λ z c es. tree.TypeOfName (name 0 (first es)))
    ∷ (λ z c es. tree.Binary (binary_of (natural z)))
    ∷ (λ z c es. tree.Cond)
    ∷ (λ z c es. tree.Seq)
    ∷ (λ z c es. tree.Call)
    ∷ (λ z c es. tree.New)
    ∷ (λ z c es. tree.CallEval (name 0 (first es)))
    ∷ (λ z c es. tree.CallDot (first es))
    ∷ (λ z c es. tree.CallIndex)
    ∷ (λ z c es. tree.Assign (assign_of (natural z)) (name 0 (first es)))
    ∷ (λ z c es. tree.AssignDot (assign_of (natural z)) (first es))
    ∷ (λ z c es. tree.AssignIndex (assign_of (natural z)))
    ∷ (λ z c es. tree.Update (update_of (natural z)) (prefix_of (natural z)) (name 0 (first es)))
    ∷ (λ z c es. tree.UpdateDot (update_of (natural z)) (prefix_of (natural z)) (first es))
    ∷ (λ z c es. tree.UpdateIndex (update_of (natural z)) (prefix_of (natural z)))
    ∷ (λ z c es. tree.Block)
    ∷ (λ z c es. tree.Empty)
    ∷ (λ z c es. tree.Throw)
    ∷ (λ z c es. tree.ExprStmt)
    ∷ (λ z c es. tree.Return)
    ∷ (λ z c es. tree.If)
    ∷ (λ z c es. tree.While)
    ∷ (λ z c es. tree.DoWhile)
    ∷ (λ z c es. tree.For)
    ∷ (λ z c es. tree.Absent)
    ∷ (λ z c es. tree.Labeled (first es))
    ∷ (λ z c es. tree.Break (first_option es))
    ∷ (λ z c es. tree.Continue (first_option es))
    ∷ (λ z c es. tree.Switch (map (λ e. truth e.0) es))
    ∷ (λ z c es. tree.CaseBody)
    ∷ (λ z c es. tree.Try (handler (natural z) es))
    ∷ (λ z c es. tree.VarDecl (word_of (natural z)))
    ∷ (λ z c es. tree.Declarator (word_of (natural z)) (name 0 (first es)))
    ∷ (λ z c es. tree.FnDecl (name 0 (first es)))
    ∷ (λ z c es. tree.Module)
    ∷ (λ z c es. tree.Script)
    ∷ (λ z c es. tree.Import (first es))
    ∷ (λ z c es. tree.ImportNamed (name c (first es)) (second_option es))
    ∷ (λ z c es. tree.ImportDefault (name c (first es)))
    ∷ (λ z c es. tree.ImportStar (name c (first es)))
    ∷ (λ z c es. tree.ExportDecl)
    ∷ (λ z c es. tree.ExportNamed)
    ∷ (λ z c es. tree.ExportSpecifier (name c (first es)) (second_option es))
    ∷ (λ z c es. tree.ExportDefaultFn (name_option c (first_option es)))
    ∷ (λ z c es. tree.ExportDefaultExpr)
    ∷ []

pub label_of_code : Code → Label
label_of_code c = get_or labels c.rank (λ z c es. tree.Invalid) c.number c.context c.row

pub decoded : (l : Label) → label_of_code (label_code l) ≡ bare_label l
unfolding label_code label_of_code labels
decoded (tree.BoolLit b) = ap tree.BoolLit (truth_back b)
decoded (tree.Template qs) = ap tree.Template (quasis_back qs)
decoded (tree.Array ks) = ap tree.Array (items_back ks)
decoded (tree.PlainKey (NameKey s)) = refl
decoded (tree.PlainKey (TextKey s)) = refl
decoded (tree.PlainKey (NumberKey z)) = refl
decoded (tree.Fn None) = refl
decoded (tree.Fn (Some x)) = refl
decoded (tree.Unary op) = ap tree.Unary (unary_back op)
decoded (tree.Binary op) = ap tree.Binary (binary_back op)
decoded (tree.Assign op x) = ap (λ p. tree.Assign p (name 0 x.text)) (assign_back op)
decoded (tree.AssignDot op s) = ap (λ p. tree.AssignDot p s) (assign_back op)
decoded (tree.AssignIndex op) = ap tree.AssignIndex (assign_back op)
decoded (tree.Update op b x) = λ i. tree.Update (update_back op b i) (prefix_back op b i) (name 0 x.text)
decoded (tree.UpdateDot op b s) = λ i. tree.UpdateDot (update_back op b i) (prefix_back op b i) s
decoded (tree.UpdateIndex op b) = λ i. tree.UpdateIndex (update_back op b i) (prefix_back op b i)
decoded (tree.Break None) = refl
decoded (tree.Break (Some s)) = refl
decoded (tree.Continue None) = refl
decoded (tree.Continue (Some s)) = refl
decoded (tree.Switch bs) = ap tree.Switch (truths_back bs)
decoded (tree.Try None) = refl
decoded (tree.Try (Some None)) = refl
decoded (tree.Try (Some (Some x))) = refl
decoded (tree.VarDecl k) = ap tree.VarDecl (word_back k)
decoded (tree.Declarator k x) = ap (λ j. tree.Declarator j (name 0 x.text)) (word_back k)
decoded (tree.ImportNamed x None) = refl
decoded (tree.ImportNamed x (Some s)) = refl
decoded (tree.ExportSpecifier x None) = refl
decoded (tree.ExportSpecifier x (Some s)) = refl
decoded (tree.ExportDefaultFn None) = refl
decoded (tree.ExportDefaultFn (Some x)) = refl
decoded l = refl
