-- Whether a tree is resolved, from its parts.
use Rattle.std.proofs.Common.{◌≡◌, ℕ, ◌+◌, ◌≤◌, Bool, true, false, not, ◌&&◌, [], refl, sym, ap, ap₂, ◌∙◌, arith}
use Rattle.std.proofs.lemmas.Bool.{false≢true, and_parts}
use Rattle.std.specs.Bool.{MatchBool}
use Rattle.std.specs.Prelude.{◌↔◌, IsTrue}
use Rattle.swc_ast.specs.declared.expressions.Expr.{Expr}
use Rattle.swc_ast.specs.Tree.{Name, Label, Tree, Forest, label_of, children_of}
use Rattle.swc_ast.specs.Views.{expr_tree}
use Rattle.swc_ast.specs.Meaning.{is_unresolved}
use Rattle.swc_ast.specs.Resolved.{one_if, is_default, own_scopes, scopes, scopes_all, no_targets, below, aimed, apart, own_exports_bound, IsResolved}
use Rattle.swc_ast.specs.Core.{IsCore}
use Rattle.swc_ast.specs.Valid.{valid}
use Rattle.static_proofs.specs.Shaped.{IsShaped}
use Rattle.static_proofs.proofs.ShapedViews.{expr_shaped}
use Rattle.swc_resolved.specs.Names.{is_free}
use Rattle.swc_resolved.specs.Here.{core_here}
use Rattle.swc_resolved.specs.Scopes.{Binds, BindsWell}
use Rattle.swc_resolved.specs.Asked.{own_good, own_named, good, good_all, Passes, IsAsked}
use Rattle.swc_resolved.proofs.Binding.{scopes_as}
use Rattle.swc_resolved.proofs.Good.{split_as, named_well}
use Rattle.swc_resolved.proofs.Placed.{seen, unseen, resolved_here}

-- from what is bound

bound_early : (mark : ℕ) (old new : Name → Bool) (t : Tree) (l : Label) (cs : Forest) → label_of t ≡ l → children_of t ≡ cs → ((x : Name) → old x ≡ is_free mark x) → Binds false old new (λ x. own_scopes x l cs) → BindsWell mark t → ⊥
bound_early mark old new t l cs labelled held free twice well =
    let x = twice.0 in let all = scopes_as x t l cs labelled held in let least = twice.1 in let most = well.0 x in let same = ap one_if (free x) in
    omega (arith, all, least, most, same)

pub bound_late : (b : Bool) (mark : ℕ) (old mid new : Name → Bool) (t : Tree) (l : Label) (cs : Forest) → label_of t ≡ l → children_of t ≡ cs → ((x : Name) → old x ≡ is_free mark x) → Binds true old mid (λ x. own_scopes x l cs) → own_exports_bound t ≡ true → Binds b mid new (λ x. scopes_all x cs) → MatchBool b (BindsWell mark t) (BindsWell mark t → ⊥)
bound_late true mark old mid new t l cs labelled held free first exports rest =
    ((λ x. let all = scopes_as x t l cs labelled held in let f = first x in let r = rest x in let same = ap one_if (free x) in let small = at_most_one (new x) in omega (arith, all, f, r, same, small)), exports)
  where
    at_most_one : (b : Bool) → one_if b ≤ 1
    at_most_one true = omega arith
    at_most_one false = omega arith
bound_late false mark old mid new t l cs labelled held free first exports rest = λ well.
    let x = rest.0 in let all = scopes_as x t l cs labelled held in let f = first x in let least = rest.1 in let most = well.0 x in let same = ap one_if (free x) in
    omega (arith, all, f, least, most, same)

-- of all conditions

not_free : (u d : Bool) → u ≡ true → d ≡ false → (u && not d) ≡ true
not_free u d e f = ap₂ (λ a b. a && not b) e f

none_left : (b : Bool) (n : ℕ) → b ≡ true → one_if b + n ≤ 1 → n ≡ 0
none_left b n e h = let f = ap one_if e in omega (arith, f, h)

pub resolved : (mark : ℕ) (t : Tree) → BindsWell mark t → aimed no_targets t ≡ true → apart t ≡ true → IsResolved mark t
resolved mark t well jumps params = record {
  bound_once = λ x. let h = well.0 x in omega (arith, h);
  none_unresolved = λ x u d. none_left (is_free mark x) (scopes x t) (not_free (is_unresolved mark x) (is_default x) u d) (well.0 x);
  jumps_aimed = jumps;
  params_stand_apart = params;
  exports_are_bound = well.1;
}

none_free : (u d : Bool) (n : ℕ) → n ≤ 1 → (u ≡ true → d ≡ false → n ≡ 0) → one_if (u && not d) + n ≤ 1
none_free true true n h f = omega (arith, h)
none_free true false n h f = let e = f refl refl in omega (arith, e)
none_free false d n h f = omega (arith, h)

pub well_bound : (mark : ℕ) (t : Tree) → IsResolved mark t → BindsWell mark t
well_bound mark t r = ((λ x. none_free (is_unresolved mark x) (is_default x) (scopes x t) (r.bound_once x) (r.none_unresolved x)), r.exports_are_bound)

pub refused : {P : Type 0} → (P → ⊥) → IsTrue false ↔ P
refused f = ((λ h. absurd (false≢true h)), (λ p. absurd (f p)))

-- validity and the core too, where they are asked for

asked_resolved : (v : Bool) (mark : ℕ) (t : Tree) → IsAsked v mark t → IsResolved mark t
asked_resolved true mark t asked = asked.1
asked_resolved false mark t asked = asked

well_asked : (v : Bool) (mark : ℕ) (t : Tree) → IsAsked v mark t → BindsWell mark t
well_asked v mark t asked = well_bound mark t (asked_resolved v mark t asked)

jumps_and_params : (mark : ℕ) (t : Tree) → IsResolved mark t → (aimed no_targets t && apart t) ≡ true
jumps_and_params mark t r = ap₂ (λ a b. a && b) r.jumps_aimed r.params_stand_apart

asked_good : (v : Bool) (mark : ℕ) (t : Tree) → IsAsked v mark t → good v no_targets t ≡ true
asked_good true mark t asked = ap₂ (λ a b. a && b) asked.0 (jumps_and_params mark t asked.1)
asked_good false mark t asked = jumps_and_params mark t asked

all_asked : (v : Bool) (mark : ℕ) (t : Tree) → good v no_targets t ≡ true → BindsWell mark t → IsAsked v mark t
all_asked true mark t is well =
    let parts = and_parts (valid t && core_here t) (aimed no_targets t && apart t) is in let both = and_parts (aimed no_targets t) (apart t) parts.1 in
    (parts.0, resolved mark t well both.0 both.1)
all_asked false mark t is well = let both = and_parts (aimed no_targets t) (apart t) is in resolved mark t well both.0 both.1

pub badly_placed : (v : Bool) (mark : ℕ) (t : Tree) (l : Label) (cs : Forest) → label_of t ≡ l → children_of t ≡ cs → own_good v no_targets l cs ≡ false → IsTrue false ↔ IsAsked v mark t
badly_placed v mark t l cs labelled held own = refused (λ asked. false≢true (sym (split_as false v no_targets t l cs labelled held (ap (λ b. b && own_named v l cs) own)) ∙ asked_good v mark t asked))

-- a root with a scope that binds a taken name, or declares one twice where the core is asked for
pub badly_named : (v : Bool) (mark : ℕ) (old new : Name → Bool) (t : Tree) (l : Label) (cs : Forest) → label_of t ≡ l → children_of t ≡ cs → ((x : Name) → old x ≡ is_free mark x) → Passes false (own_named v l cs) old new (λ x. own_scopes x l cs) → IsTrue false ↔ IsAsked v mark t
badly_named v mark old new t l cs labelled held free fails = refused (λ asked. bound_early mark old new t l cs labelled held free (fails (named_well v no_targets t l cs labelled held (asked_good v mark t asked))) (well_asked v mark t asked))

pub badly_bound : (v : Bool) (mark : ℕ) (t : Tree) → (BindsWell mark t → ⊥) → IsTrue false ↔ IsAsked v mark t
badly_bound v mark t unbound = refused (λ asked. unbound (well_asked v mark t asked))

pub decided : (b v : Bool) (mark : ℕ) (old mid new : Name → Bool) (t : Tree) (l : Label) (cs : Forest) → label_of t ≡ l → children_of t ≡ cs → own_good v no_targets l cs ≡ true → ((x : Name) → old x ≡ is_free mark x) → Passes true (own_named v l cs) old mid (λ x. own_scopes x l cs) → own_exports_bound t ≡ true → Passes b (good_all v (below l no_targets) cs) mid new (λ x. scopes_all x cs) → IsTrue b ↔ IsAsked v mark t
decided true v mark old mid new t l cs labelled held own free first exports passes =
    ((λ is. all_asked v mark t (split_as true v no_targets t l cs labelled held (ap₂ (λ a c. a && c) own first.0) ∙ passes.0) (bound_late true mark old mid new t l cs labelled held free first.1 exports passes.1)), (λ asked. refl))
decided false v mark old mid new t l cs labelled held own free first exports passes =
    refused (λ asked. bound_late false mark old mid new t l cs labelled held free first.1 exports (passes (sym (split_as true v no_targets t l cs labelled held (ap₂ (λ a c. a && c) own first.0)) ∙ asked_good v mark t asked)) (well_asked v mark t asked))

-- a whole module or script, which is core where each of its nodes is so by itself
pub core_told : (b : Bool) (mark : ℕ) (t : Tree) → IsShaped t → seen t ≡ [] → (IsTrue b ↔ IsAsked true mark t) → IsTrue b ↔ IsCore t × IsResolved mark t
core_told b mark t shaped none told = (
  (λ is. let asked = told.0 is in let parts = and_parts (valid t) (core_here t) asked.0 in (record { is_valid = parts.0; fits_core = resolved_here mark t shaped.shaped none asked.1 ∙ parts.1 }, asked.1)),
  (λ both. told.1 (ap₂ (λ a c. a && c) both.0.is_valid (sym (resolved_here mark t shaped.shaped none both.1) ∙ both.0.fits_core), both.1)),
)

-- the same of an expression by itself
pub expr_told : (b : Bool) (mark : ℕ) (e : Expr) → (IsTrue b ↔ IsAsked true mark (expr_tree e)) → IsTrue b ↔ IsCore (expr_tree e) × IsResolved mark (expr_tree e)
expr_told b mark e = let good = expr_shaped e in core_told b mark (expr_tree e) (record { shaped = good.shaped }) (unseen (expr_tree e) good.stands)
