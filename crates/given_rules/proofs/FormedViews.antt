-- The views of the syntax tree are formed as the walk finds them: their nodes have their signatures.
use Rattle.std.proofs.Common.{◌≡◌, true, not, List, [], ◌∷◌, refl, sym, ap, ◌∙◌}
use Rattle.std.proofs.lemmas.Bool.{and_parts, and_from}
use Rattle.swc_ast.specs.declared.Span.{Span}
use Rattle.swc_ast.specs.declared.expressions.Expr.{Expr}
use Rattle.swc_ast.specs.declared.statements.Stmt.{Stmt}
use Rattle.swc_ast.specs.declared.modules.Module.{Module}
use Rattle.swc_ast.specs.declared.modules.Script.{Script}
use Rattle.swc_ast.specs.declared.UnaryOp.TheVariants.{TypeOf}
use Rattle.swc_ast.specs.Tree.{Label, Read, Shorthand, TypeOfName, Unary, Call, CallEval, CallDot, CallIndex, ExportSpecifier, Dot, Index, Absent, Tree, node, Forest, ε, ◌⊳◌}
use Rattle.swc_ast.specs.Views.{expr_tree, stmt_tree}
use Rattle.swc_ast.specs.Modules.{module_tree, script_tree}
use Rattle.static_proofs.specs.Shaped.{labels_of, holds}
use Rattle.static_proofs.specs.Signature as signature
use Rattle.static_proofs.specs.Signature.{signed, is_signed, are_signed, has_parts}
use Rattle.static_proofs.proofs.SignedViews.{expr_signed, stmt_signed, module_signed, script_signed}
use Rattle.given_shield.specs.Shield.{is_bare_callee}
use Rattle.given_rules.specs.Formed.{is_name, fine, formed, all_formed}
use Rattle.given_rules.proofs.FormedParts.{Fine}

bare_same : (t : Tree) → signature.is_bare_callee t ≡ is_bare_callee t
bare_same (node (Dot k) ss cs) = refl
bare_same (node _ ss cs) = refl

name_same : (t : Tree) → signature.is_name t ≡ is_name t
name_same (node (Read x) ss cs) = refl
name_same (node _ ss cs) = refl

fine_same : (l : Label) (ss : List Span) (cs : Forest) → signature.fine l ss cs ≡ fine l ss cs
fine_same (Read x) ss ε = refl
fine_same (Read x) ss (t ⊳ ts) = refl
fine_same (Shorthand x) ss ε = refl
fine_same (Shorthand x) ss (t ⊳ ts) = refl
fine_same (ExportSpecifier x i) ss ε = refl
fine_same (ExportSpecifier x i) ss (t ⊳ ts) = refl
fine_same (TypeOfName x) [] cs = refl
fine_same (TypeOfName x) (s ∷ ss) ε = refl
fine_same (TypeOfName x) (s ∷ ss) (t ⊳ ts) = refl
fine_same (CallDot k) [] cs = refl
fine_same (CallDot k) (s ∷ ss) cs = refl
fine_same CallIndex [] cs = refl
fine_same CallIndex (s ∷ ss) cs = refl
fine_same (CallEval x) [] cs = refl
fine_same (CallEval x) (s ∷ ss) cs = refl
fine_same Call [] cs = refl
fine_same Call (s ∷ []) ε = refl
fine_same Call (s ∷ []) (t ⊳ ts) = ap not (bare_same t)
fine_same Call (s ∷ r ∷ ss) cs = refl
fine_same (Unary TypeOf) [] cs = refl
fine_same (Unary TypeOf) (s ∷ []) ε = refl
fine_same (Unary TypeOf) (s ∷ []) (t ⊳ ε) = ap not (name_same t)
fine_same (Unary TypeOf) (s ∷ []) (t ⊳ u ⊳ ts) = refl
fine_same (Unary TypeOf) (s ∷ r ∷ ss) cs = refl
fine_same (Unary o) ss cs = refl
fine_same l ss cs = refl

mutual
  formed_of : (t : Tree) → is_signed t ≡ true → formed t ≡ true
  formed_of (node l ss cs) e =
      let p = and_parts (signed l ss cs) (are_signed cs) e in
      let q = and_parts (holds l (labels_of cs)) _ p.0 in
      and_from (fine l ss cs) (all_formed cs) (sym (fine_same l ss cs) ∙ (and_parts (signature.fine l ss cs) (has_parts l cs) q.1).0) (all_formed_of cs p.1)

  all_formed_of : (ts : Forest) → are_signed ts ≡ true → all_formed ts ≡ true
  all_formed_of ε e = refl
  all_formed_of (t ⊳ ts) e = let p = and_parts (is_signed t) (are_signed ts) e in and_from (formed t) (all_formed ts) (formed_of t p.0) (all_formed_of ts p.1)

pub expr_formed : (e : Expr) → Fine (expr_tree e)
expr_formed e = record { is = formed_of (expr_tree e) (expr_signed e).signed }

pub stmt_formed : (s : Stmt) → Fine (stmt_tree s)
stmt_formed s = record { is = formed_of (stmt_tree s) (stmt_signed s).signed }

pub module_formed : (m : Module) → formed (module_tree m) ≡ true
module_formed m = formed_of (module_tree m) (module_signed m)

pub script_formed : (s : Script) → formed (script_tree s) ≡ true
script_formed s = formed_of (script_tree s) (script_signed s)
