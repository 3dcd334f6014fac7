-- What each rule does to a run.
use Rattle.std.proofs.Common.{◌≡◌, ℕ, Bool, true, false, List, refl, sym, ap, subst, ◌∙◌}
use Rattle.std.proofs.lemmas.Bool.{false≢true, or_from}
use Rattle.swc_ast.specs.declared.Span.{Span}
use Rattle.swc_ast.specs.Tree.{Name, ExprStmt, Tree, node, Forest, ε, ◌⊳◌, label_of}
use Rattle.swc_ast.specs.Value.{Value, Undefined, State, Outcome, Done, Jumps, Outside, Cut, and_then}
use Rattle.swc_ast.specs.Scope.{has_name, imported_name, specifier_names}
use Rattle.swc_ast.specs.Meaning.{gives, in_scope, in_list_scope, run_all, eval, evals, act}
use Rattle.swc_ast.specs.Call.{call_at}
use Rattle.swc_utils.specs.Pure.{pure}
use Rattle.swc_utils.specs.Holds.{Any, Quiet}
use Rattle.swc_utils.proofs.Pure.{pure_is_still}
use Rattle.meaning_proofs.specs.Names.{Names, Watched}
use Rattle.meaning_proofs.specs.Exact.{Apart, Idled, idled, idle_left, idle_cut, IdleAfter}
use Rattle.meaning_proofs.specs.Roles.{is_item, DeclaresNone}
use Rattle.meaning_proofs.specs.Rewrites.{no_more, keep, skip, Specifiers as Narrowed}
use Rattle.meaning_proofs.proofs.Finds.{has_append}
use Rattle.meaning_proofs.proofs.Laws.{apart_itself}
use Rattle.meaning_proofs.proofs.Drops.{other_var}
use Rattle.dce_proofs.proofs.Walked.{names, gone, Specifiers, no_more as none_more, stays, goes as name_goes, Nothing, empty_statement, empty_block}
use Rattle.dce_proofs.proofs.Names.{goes}

-- pure expressions as statements

module _ {N : Names} where
  idle_quiet : (o : Outcome Value) (s : State) → Quiet Any s o → Idled (Apart N) s (and_then o (λ v. gives Undefined))
  unfolding and_then
  idle_quiet (Done v t) s q = idled (subst (λ (r : State). Apart N r s) (sym q.0) (apart_itself s))
  idle_quiet (Jumps j t) s q = absurd q
  idle_quiet Outside s q = idle_left
  idle_quiet Cut s q = idle_cut

  pub pure_idle : (mark : ℕ) (ss : List Span) (q : Tree) → pure mark q ≡ true → IdleAfter N mark (node ExprStmt ss (q ⊳ ε))
  unfolding eval act evals
  pure_idle mark ss q p = record { by = λ n d c s. idle_quiet (eval mark n (call_at (eval mark n) d) q c s) s ((pure_is_still mark n d q p c).by s) }

  -- empty statements and blocks

  pub nothing_idle : (mark : ℕ) {u : Tree} → Nothing u → IdleAfter N mark u
  unfolding eval act evals run_all in_list_scope in_scope
  nothing_idle mark empty_statement = record { by = λ n d c s. idled (apart_itself s) }
  nothing_idle mark empty_block = record { by = λ n d c s. idled (apart_itself s) }

  pub nothing_declares : {u : Tree} → Nothing u → DeclaresNone N u
  nothing_declares empty_statement = record { is_no_export = refl; vars = λ y w. refl; declares = λ y keeps. refl; functions = λ y g. refl; is_no_declarator = λ y keeps. refl; is_no_import = λ y w. refl }
  nothing_declares empty_block = record { is_no_export = refl; vars = λ y w. refl; declares = λ y keeps. refl; functions = λ y g. refl; is_no_declarator = λ y keeps. refl; is_no_import = λ y w. refl }

pub nothing_item : {u : Tree} → Nothing u → is_item (label_of u) ≡ false
nothing_item empty_statement = refl
nothing_item empty_block = refl

-- imports

module _ (G K U : Name → Bool) where
  pub narrowed : {ts us : Forest} → Specifiers (gone G K) ts us → Narrowed (names G K U) ts us
  narrowed none_more = no_more
  narrowed (stays l h) = keep l (λ x g. absurd (false≢true g)) (narrowed h)
  narrowed (name_goes l {x} e d h) = skip l (λ y w. ap (has_name y) e ∙ other_var x (goes G K U d) y w) (narrowed h)

  pub none_left : {ts us : Forest} → Specifiers (gone G K) ts us → us ≡ ε → (y : Name) → Watched (names G K U) y → has_name y (specifier_names ts) ≡ false
  none_left none_more e y w = refl
  none_left (stays l h) e y w = cc
  none_left (name_goes l {x} {ts = ts} p d h) e y w = has_append y (imported_name l) (specifier_names ts) ∙ or_from _ _ (ap (has_name y) p ∙ other_var x (goes G K U d) y w) (none_left h e y w)
