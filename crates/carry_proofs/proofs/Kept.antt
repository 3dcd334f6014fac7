-- What propagation makes of a module or a script stays resolved, valid and in the core.
use Rattle.std.proofs.Common.{◌≡◌, ℕ, Bool, true, false, List, refl, sym, ◌∙◌, if◌then◌else◌}
use Rattle.std.proofs.lemmas.Bool.{and_parts, and_from, or_right, false≢true}
use Rattle.swc_ast.specs.declared.Span.{Span}
use Rattle.swc_ast.specs.Tree.{Name, Module, Script, Tree, node, Forest, ε, ◌⊳◌}
use Rattle.swc_ast.specs.Scope.{has_name, vars_all, list_binds, body_declares, import_names}
use Rattle.swc_ast.specs.Value.{Undefined}
use Rattle.swc_ast.specs.Valid.{valid}
use Rattle.swc_ast.specs.Resolved.{own_exports_bound, IsResolved}
use Rattle.swc_ast.specs.Core.{fits, IsCore}
use Rattle.link_proofs.specs.Links.{nothing, a_value}
use Rattle.carry_rules.specs.Carry.{Pass, constants, inlines, Facts, facts, Carried, starting, enter, after, written, written_all, reexported, propagated}
use Rattle.carry_rules.specs.Parted.{has_parts, is_parted, are_parted}
use Rattle.carry_proofs.specs.Laws.{IsWhole, a_module, a_script}
use Rattle.carry_proofs.proofs.Like.{Like, like_none, like_more, module_like}
use Rattle.carry_proofs.proofs.LikeKept.{valid_whole, core_whole, resolved_whole, module_exports}
use Rattle.carry_proofs.proofs.Fine.{Fit, Fine, nothing_fit, fine_entered, valid_below, fits_below, fine_after}
use Rattle.carry_proofs.proofs.Written.{written_like, reexported_like}

-- what is carried where a tree begins is fit to be put
module _ (V N : Type 0) where
  undefined_fit : Fit V N (a_value Undefined)
  undefined_fit = record { name = λ x e v. absurd (cc); number = λ z e n. absurd (cc) }

  starting_fine : (p : Pass) (F : Facts) → Fine V N (starting p F)
  starting_fine constants F = record { values = λ y. nothing_fit V N; settled = λ y. nothing_fit V N }
  starting_fine inlines F = record { values = λ y. by (F.unset y); settled = λ y. nothing_fit V N }
    where
      by : (b : Bool) → Fit V N (if b then a_value Undefined else nothing)
      by true = undefined_fit
      by false = nothing_fit V N

-- a tree and another that is made of it, in the words of passes
pub record Kept (t u : Tree) : Type 0 where
  pub resolved : (mark : ℕ) → IsResolved mark t → IsResolved mark u
  pub valid_too : valid t ≡ true → valid u ≡ true
  pub core : IsCore t → IsCore u

module _ (p : Pass) (S : Facts) where
  parts_like : (t : Tree) (s : Carried) (B : Name → Bool) → is_parted t ≡ true → Fine (valid t ≡ true) (fits t ≡ true) s → Like (valid t ≡ true) (fits t ≡ true) B (t ⊳ ε) (written p S s t ⊳ ε)
  parts_like t s B w h = written_like (valid t ≡ true) (fits t ≡ true) B p S s (t ⊳ ε) (and_from (is_parted t) true w refl) (λ e. and_from (valid t) true e refl) (λ e. and_from (fits t) true e refl) h

  written_kept : (t : Tree) (s : Carried) → is_parted t ≡ true → Fine (valid t ≡ true) (fits t ≡ true) s → (own_exports_bound t ≡ true → own_exports_bound (written p S s t) ≡ true) → Kept t (written p S s t)
  written_kept t s w h x = record {
    resolved = λ m r. resolved_whole (parts_like t s (λ y. false) w h) x r;
    valid_too = λ e. valid_whole e (parts_like t s (λ y. false) w h) e;
    core = λ c. core_whole c.is_valid c.fits_core (parts_like t s (λ y. false) w h) c;
  }

  items_like : (ss : List Span) (cs : Forest) (s : Carried) (B : Name → Bool) → is_parted (node Module ss cs) ≡ true → Fine (valid (node Module ss cs) ≡ true) (fits (node Module ss cs) ≡ true) s → Like (valid (node Module ss cs) ≡ true) (fits (node Module ss cs) ≡ true) B cs (written_all p S (enter p S Module ss cs s) cs)
  items_like ss cs s B w h = written_like (valid (node Module ss cs) ≡ true) (fits (node Module ss cs) ≡ true) B p S (enter p S Module ss cs s) cs (and_parts (has_parts Module cs) (are_parted cs) w).1
      (valid_below (valid (node Module ss cs) ≡ true) (fits (node Module ss cs) ≡ true) p S Module ss cs (λ e. e)) (fits_below (valid (node Module ss cs) ≡ true) (fits (node Module ss cs) ≡ true) p S Module ss cs (λ e. e)) (fine_entered (valid (node Module ss cs) ≡ true) (fits (node Module ss cs) ≡ true) p S Module ss cs s h)

  module_kept : (ss : List Span) (cs : Forest) (s : Carried) → is_parted (node Module ss cs) ≡ true → Fine (valid (node Module ss cs) ≡ true) (fits (node Module ss cs) ≡ true) s → Kept (node Module ss cs) (node Module ss (written_all p S (enter p S Module ss cs s) cs))
  module_kept ss cs s w h = written_kept (node Module ss cs) s w h (module_exports ss ss (items_like ss cs s (λ y. false) w h) (λ x e. absurd (false≢true e)))

  -- exports that name what names stand for
  exports_kept : (ss : List Span) (cs : Forest) (s : Carried) → is_parted (node Module ss cs) ≡ true → Fine (valid (node Module ss cs) ≡ true) (fits (node Module ss cs) ≡ true) s → Kept (node Module ss cs) (node Module ss (reexported (list_binds cs) (after p S s (node Module ss cs)).values (written_all p S (enter p S Module ss cs s) cs)))
  exports_kept ss cs s w h = record {
    resolved = λ m r. resolved_whole both (module_exports ss ss like (λ x e. sym (module_like x (items_like ss cs s (list_binds cs) w h)) ∙ or_right (has_name x (import_names cs)) (body_declares cs x) (or_right (has_name x (vars_all cs)) (list_binds cs x) e))) ((module_kept ss cs s w h).resolved m r);
    valid_too = λ e. valid_whole e both ((module_kept ss cs s w h).valid_too e);
    core = λ c. core_whole c.is_valid c.fits_core both ((module_kept ss cs s w h).core c);
  }
    where
      us : Forest
      us = written_all p S (enter p S Module ss cs s) cs

      like : Like (valid (node Module ss cs) ≡ true) (fits (node Module ss cs) ≡ true) (list_binds cs) us (reexported (list_binds cs) (after p S s (node Module ss cs)).values us)
      like = reexported_like (valid (node Module ss cs) ≡ true) (fits (node Module ss cs) ≡ true) (list_binds cs) (after p S s (node Module ss cs)).values (fine_after (valid (node Module ss cs) ≡ true) (fits (node Module ss cs) ≡ true) p S s (node Module ss cs) (λ e. e) (λ e. e) h).values us

      both : Like (valid (node Module ss cs) ≡ true) (fits (node Module ss cs) ≡ true) (list_binds cs) (node Module ss us ⊳ ε) (node Module ss (reexported (list_binds cs) (after p S s (node Module ss cs)).values us) ⊳ ε)
      both = like_more Module like like_none

pub propagation_kept : (p : Pass) (t : Tree) → IsWhole t → Kept t (propagated p t)
propagation_kept constants _ (a_module {ss} {cs} h w) = exports_kept constants (facts (node Module ss cs)) ss cs (starting constants (facts (node Module ss cs))) w.parted (starting_fine _ _ constants (facts (node Module ss cs)))
propagation_kept inlines _ (a_module {ss} {cs} h w) = module_kept inlines (facts (node Module ss cs)) ss cs (starting inlines (facts (node Module ss cs))) w.parted (starting_fine _ _ inlines (facts (node Module ss cs)))
propagation_kept constants _ (a_script {ss} {cs} h w) = written_kept constants (facts (node Script ss cs)) (node Script ss cs) (starting constants (facts (node Script ss cs))) w.parted (starting_fine _ _ constants (facts (node Script ss cs))) (λ e. refl)
propagation_kept inlines _ (a_script {ss} {cs} h w) = written_kept inlines (facts (node Script ss cs)) (node Script ss cs) (starting inlines (facts (node Script ss cs))) w.parted (starting_fine _ _ inlines (facts (node Script ss cs))) (λ e. refl)
