-- The label that a kind stands for.
use Rattle.std.specs.Prelude.{map, string_bytes}
use Rattle.swc_ast.specs.Tree as tree
use Rattle.swc_ast.specs.Parts.{ident_name, option_ident_name, word_text, option_word_text}
use Rattle.swc_ast.specs.Expressions.{item_kind, quasi_text}
use Rattle.swc_ast.specs.Statements.{is_default_case, handler_param}
use Rattle.swc_ast.specs.Views.{case_trees}
use Rattle.tree_visit.specs.declared.kind.Kind.{Kind}
use Rattle.tree_visit.specs.declared.kind.Kind.TheVariants as kind

abbrev pub kind_label : Kind → tree.Label
kind_label (kind.NumLit z) = tree.NumLit z
kind_label (kind.StrLit n) = tree.StrLit (string_bytes n.now.value)
kind_label (kind.BoolLit b) = tree.BoolLit b
kind_label kind.NullLit = tree.NullLit
kind_label kind.This = tree.This
kind_label kind.Invalid = tree.Invalid
kind_label (kind.Read n) = tree.Read (ident_name n.now)
kind_label (kind.Template qs) = tree.Template (map quasi_text qs.now)
kind_label (kind.Array xs) = tree.Array (map item_kind xs.now)
kind_label kind.Object = tree.Object
kind_label kind.SpreadRecord = tree.SpreadRecord
kind_label kind.KeyValue = tree.KeyValue
kind_label (kind.Shorthand n) = tree.Shorthand (ident_name n.now)
kind_label kind.Method = tree.Method
kind_label (kind.NameKey n) = tree.PlainKey (tree.NameKey (word_text n.now))
kind_label (kind.TextKey n) = tree.PlainKey (tree.TextKey (string_bytes n.now.value))
kind_label (kind.NumberKey z) = tree.PlainKey (tree.NumberKey z)
kind_label kind.ComputedKey = tree.ComputedKey
kind_label (kind.Fn n) = tree.Fn (option_ident_name n.now)
kind_label kind.Arrow = tree.Arrow
kind_label kind.Params = tree.Params
kind_label kind.Body = tree.Body
kind_label (kind.Param n) = tree.Param (ident_name n.now)
kind_label (kind.Unary op) = tree.Unary op
kind_label (kind.TypeOfName n) = tree.TypeOfName (ident_name n.now)
kind_label (kind.Binary op) = tree.Binary op
kind_label kind.Cond = tree.Cond
kind_label kind.Seq = tree.Seq
kind_label (kind.Dot n) = tree.Dot (word_text n.now)
kind_label kind.Index = tree.Index
kind_label kind.Call = tree.Call
kind_label kind.New = tree.New
kind_label (kind.CallEval n) = tree.CallEval (ident_name n.now)
kind_label (kind.CallDot n) = tree.CallDot (word_text n.now)
kind_label kind.CallIndex = tree.CallIndex
kind_label (kind.Assign op n) = tree.Assign op (ident_name n.now)
kind_label (kind.AssignDot op n) = tree.AssignDot op (word_text n.now)
kind_label (kind.AssignIndex op) = tree.AssignIndex op
kind_label (kind.Update op prefix n) = tree.Update op prefix (ident_name n.now)
kind_label (kind.UpdateDot op prefix n) = tree.UpdateDot op prefix (word_text n.now)
kind_label (kind.UpdateIndex op prefix) = tree.UpdateIndex op prefix
kind_label kind.Block = tree.Block
kind_label kind.Empty = tree.Empty
kind_label kind.Throw = tree.Throw
kind_label kind.ExprStmt = tree.ExprStmt
kind_label kind.Return = tree.Return
kind_label kind.If = tree.If
kind_label kind.While = tree.While
kind_label kind.DoWhile = tree.DoWhile
kind_label kind.For = tree.For
kind_label kind.Absent = tree.Absent
kind_label (kind.Labeled n) = tree.Labeled (word_text n.now)
kind_label (kind.Break n) = tree.Break (option_word_text n.now)
kind_label (kind.Continue n) = tree.Continue (option_word_text n.now)
kind_label (kind.Switch cs) = tree.Switch (map is_default_case (map case_trees cs.now))
kind_label kind.CaseBody = tree.CaseBody
kind_label (kind.Try h) = tree.Try (handler_param h.now)
kind_label (kind.VarDecl k) = tree.VarDecl k
kind_label (kind.Declarator k n) = tree.Declarator k (ident_name n.now)
kind_label (kind.FnDecl n) = tree.FnDecl (ident_name n.now)
kind_label kind.Module = tree.Module
kind_label kind.Script = tree.Script
kind_label (kind.Import n) = tree.Import (string_bytes n.now.value)
kind_label (kind.ImportNamed n) = tree.ImportNamed (ident_name n.now.local) (option_word_text n.now.imported)
kind_label (kind.ImportDefault n) = tree.ImportDefault (ident_name n.now)
kind_label (kind.ImportStar n) = tree.ImportStar (ident_name n.now)
kind_label kind.ExportDecl = tree.ExportDecl
kind_label kind.ExportNamed = tree.ExportNamed
kind_label (kind.ExportSpecifier n) = tree.ExportSpecifier (ident_name n.now.orig) (option_word_text n.now.exported)
kind_label (kind.ExportDefaultFn n) = tree.ExportDefaultFn (option_ident_name n.now)
kind_label kind.ExportDefaultExpr = tree.ExportDefaultExpr
