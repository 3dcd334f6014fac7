-- Names that are known to hold a literal: reads of them become the literal, and their declarations may go.
use Rattle.std.proofs.Common.{◌≡◌, ℕ, zero, suc, true, false, ◌||◌, List, [], ◌++◌, Option, Some, None, refl, sym, ap, subst, ◌∙◌, slice_get}
use Rattle.swc_ast.specs.declared.Span.{Span}
use Rattle.swc_ast.specs.declared.VarDeclKind.{VarDeclKind}
use Rattle.swc_ast.specs.declared.VarDeclKind.TheVariants.{Var, Let, Const}
use Rattle.swc_ast.specs.Tree.{Name, Read, Declarator, Tree, node, ε, ◌⊳◌}
use Rattle.swc_ast.specs.Value.{Value, Undefined, Cell, State, Outcome, Done, Outside}
use Rattle.swc_ast.specs.Scope.{own_vars, has_name}
use Rattle.swc_ast.specs.Meaning.{is_unresolved, held_value, read_bound, in_core, initialise, eval, evals, act, declare}
use Rattle.meaning_proofs.specs.Names.{Names, empty, full, Guarded, no_cell, a_cell}
use Rattle.meaning_proofs.specs.Exact.{run_at, Trimmed, left_core, Trims, Idle}
use Rattle.meaning_proofs.specs.Roles.{Fits, DeclaresNone}
use Rattle.meaning_proofs.proofs.Names.{other_name}
use Rattle.meaning_proofs.proofs.Stores.{fits, bound_read}
use Rattle.meaning_proofs.proofs.Laws.{trimmed_path}
use Rattle.meaning_proofs.proofs.Quiet.{fits_nothing, Literal, literal_runs, literal_nothing}
use Rattle.meaning_proofs.proofs.ExpressionRules.{known_then}
use Rattle.meaning_proofs.proofs.Drops.{initialised}
use Rattle.meaning_proofs.proofs.Idles.{idle_trimmed}

-- a name that holds a value from when it holds any
pub record KnownName (N : Names) (mark : ℕ) (x : Name) (v : Value) : Type 0 where
  pub is_guarded : N.guarded x ≡ true
  pub guard : N.guard x ≡ Some v
  pub is_bound : is_unresolved mark x ≡ false

-- an outcome that gives a known value and does nothing else, or leaves the core
data Told (v : Value) (s : State) : Outcome Value → Type 0 where
  told : Told v s (Done v s)
  told_left : Told v s Outside

held_known : {g : Option Value} (v : Value) {cs : List Cell} → g ≡ Some v → Guarded g cs → (k : ℕ) (s : State) → Told v s (held_value (slice_get cs k) s)
held_known v e no_cell k s = told_left
held_known v e (a_cell (empty q) hs) zero s = subst (λ o. Told v s (in_core o s)) (sym q) told_left
held_known v e (a_cell (full q) hs) zero s = subst (λ o. Told v s (in_core o s)) (sym (q ∙ e)) told
held_known v e (a_cell h hs) (suc k) s = held_known v e hs k s

read_known : (x : Name) (v : Value) (o : Option ℕ) (s : State) {g : Option Value} → g ≡ Some v → Guarded g (s.store x) → Told v s (read_bound x o s)
read_known x v None s e h = told_left
read_known x v (Some k) s e h = held_known v e h k s

module _ {N : Names} where
  told_trims : {v : Value} {s : State} {o : Outcome Value} → Told v s o → Trimmed N o (Done v s)
  told_trims told = trimmed_path refl
  told_trims told_left = left_core _

  -- `x` to its literal
  pub inline : (mark : ℕ) (x : Name) (ss : List Span) {v : Value} {t : Tree} → KnownName N mark x v → Literal v t → Trims N (eval mark) (node (Read x) ss ε) t
  unfolding eval act evals
  inline mark x ss {v} {t} k l = record {
    by = λ n d c s g.
        subst (λ o. Trimmed N o (run_at (eval mark) n d t c s)) (sym (bound_read mark x c s k.is_bound))
        (subst (λ o. Trimmed N (read_bound x (c.env x) s) o) (sym (literal_runs mark n _ l c s)) (told_trims (read_known x v (c.env x) s k.guard (g.at x k.is_guarded))));
  }

  pub inline_fits : (x : Name) (ss : List Span) {v : Value} {t : Tree} → Literal v t → Fits N (node (Read x) ss ε) t
  inline_fits x ss {t = t} l = fits_nothing (node (Read x) ss ε) t refl (literal_nothing l)

  -- the declarator of a known name that is dropped
  pub idle_known : (mark : ℕ) (k : VarDeclKind) (x : Name) (ss : List Span) {v : Value} {r : Tree} → N.dropped x ≡ true → KnownName N mark x v → Literal v r → Idle N (eval mark) (node (Declarator k x) ss (r ⊳ ε))
  unfolding eval act evals declare
  idle_known mark Var x ss {v} d k l = record { by = λ n e c s g. idle_trimmed Undefined s (subst (λ o. Trimmed N o (Done Undefined s)) (sym (known_then (literal_runs mark n _ l c s) (λ v. initialise x v c))) (initialised x v c d (fits k.guard) s)) }
  idle_known mark Let x ss {v} d k l = record { by = λ n e c s g. idle_trimmed Undefined s (subst (λ o. Trimmed N o (Done Undefined s)) (sym (known_then (literal_runs mark n _ l c s) (λ v. initialise x v c))) (initialised x v c d (fits k.guard) s)) }
  idle_known mark Const x ss {v} d k l = record { by = λ n e c s g. idle_trimmed Undefined s (subst (λ o. Trimmed N o (Done Undefined s)) (sym (known_then (literal_runs mark n _ l c s) (λ v. initialise x v c))) (initialised x v c d (fits k.guard) s)) }

pub known_declares : {N : Names} (k : VarDeclKind) (x : Name) (ss : List Span) (r : Tree) → N.dropped x ≡ true → own_vars (Declarator k x) ≡ [] → DeclaresNone N (node (Declarator k x) ss (r ⊳ ε))
known_declares {N} k x ss r d e = record {
  is_no_export = refl;
  vars = λ y w. ap (λ xs. has_name y (xs ++ [])) e;
  declares = λ y keeps. refl;
  functions = λ y g. refl;
  is_no_declarator = λ y keeps. ap (λ b. b || false) (other_name N.dropped y x keeps d);
  is_no_import = λ y w. refl;
}
