-- Trees that declare nothing may stand for one another; and expressions that do nothing but give a value, or leave the core.
use Rattle.std.proofs.Common.{◌≡◌, ℕ, ℤ, Bool, true, false, List, [], refl, sym, ap, ◌∙◌}
use Rattle.std.proofs.lemmas.Bool.{false≢true}
use Rattle.swc_ast.specs.declared.Span.{Span}
use Rattle.swc_ast.specs.declared.UnaryOp.TheVariants.{Void}
use Rattle.swc_ast.specs.Tree.{Text, Label, NumLit, StrLit, BoolLit, NullLit, Unary, Tree, node, ε, ◌⊳◌, label_of, expr, prop, simple, Absent}
use Rattle.swc_ast.specs.Value.{Value, Num, Text as TextValue, Truth, Null, Undefined, State, Done, and_then, Context}
use Rattle.swc_ast.specs.Operators.{unary_value}
use Rattle.swc_ast.specs.Scope.{has_name, found, is_found, vars, declared_by}
use Rattle.swc_ast.specs.Meaning.{Caller, act, eval, evals, copied_names}
use Rattle.meaning_proofs.specs.Names.{Names}
use Rattle.meaning_proofs.specs.Roles.{is_part, holds_function, Fits, changed}

-- neither a part, nor a declaration, nor a node that holds statements
abbrev pub declares_nothing : Label → Bool
declares_nothing (expr e) = true
declares_nothing (prop p) = true
declares_nothing (simple s) = true
declares_nothing Absent = true
declares_nothing _ = false

-- what such a tree declares
pub record Nothing (t : Tree) : Type 0 where
  pub is_no_part : is_part (label_of t) ≡ false
  pub vars : vars t ≡ []
  pub declares : declared_by t ≡ []
  pub copied : copied_names t ≡ []

pub nothing_of : (t : Tree) → declares_nothing (label_of t) ≡ true → Nothing t
nothing_of (node (expr l) ss cs) e = record { is_no_part = refl; vars = refl; declares = refl; copied = refl }
nothing_of (node (prop l) ss cs) e = record { is_no_part = refl; vars = refl; declares = refl; copied = refl }
nothing_of (node (simple l) ss cs) e = record { is_no_part = refl; vars = refl; declares = refl; copied = refl }
nothing_of (node Absent ss cs) e = record { is_no_part = refl; vars = refl; declares = refl; copied = refl }
nothing_of (node _ ss cs) e = absurd (false≢true e)

-- trees that declare nothing fit
pub fits_nothing : {N : Names} (t u : Tree) → declares_nothing (label_of t) ≡ true → declares_nothing (label_of u) ≡ true → Fits N t u
fits_nothing t u p q =
    let a = nothing_of t p in
    let b = nothing_of u q in
    changed a.is_no_part b.is_no_part (record {
      vars = λ x keeps z. ap (has_name x) (a.vars ∙ sym b.vars);
      guarded_vars = λ x g e. ap (has_name x) (sym (a.vars ∙ sym b.vars)) ∙ e;
      declares = λ x keeps. ap (found x) (a.declares ∙ sym b.declares);
      functions = λ x g e. ap (λ ps. holds_function (found x ps)) (a.declares ∙ sym b.declares) ∙ e;
      copied = λ x keeps. ap (is_found x) (a.copied ∙ sym b.copied);
    })

-- a literal, and its value
pub data Literal : Value → Tree → Type 0 where
  a_number : (z : ℤ) (ss : List Span) → Literal (Num z) (node (NumLit z) ss ε)
  a_text : (t : Text) (ss : List Span) → Literal (TextValue t) (node (StrLit t) ss ε)
  a_truth : (b : Bool) (ss : List Span) → Literal (Truth b) (node (BoolLit b) ss ε)
  a_null : (ss : List Span) → Literal Null (node NullLit ss ε)
  -- `void 0`
  a_void : (z : ℤ) (ss rs : List Span) → Literal Undefined (node (Unary Void) ss (node (NumLit z) rs ε ⊳ ε))

pub literal_runs : (mark n : ℕ) (call : Caller) {v : Value} {t : Tree} → Literal v t → (c : Context) (s : State) → eval mark n call t c s ≡ Done v s
unfolding eval act evals unary_value and_then
literal_runs mark n call (a_number z ss) c s = refl
literal_runs mark n call (a_text t ss) c s = refl
literal_runs mark n call (a_truth b ss) c s = refl
literal_runs mark n call (a_null ss) c s = refl
literal_runs mark n call (a_void z ss rs) c s = refl

pub literal_nothing : {v : Value} {t : Tree} → Literal v t → declares_nothing (label_of t) ≡ true
literal_nothing (a_number z ss) = refl
literal_nothing (a_text t ss) = refl
literal_nothing (a_truth b ss) = refl
literal_nothing (a_null ss) = refl
literal_nothing (a_void z ss rs) = refl
