-- What is known holds of the module that is walked.
use Rattle.std.proofs.Common.{◌≡◌, Bool, true, false, not, ◌&&◌, ◌||◌, refl, sym, ap, subst, ◌∙◌}
use Rattle.std.proofs.lemmas.Bool.{false≢true}
use Rattle.swc_ast.specs.Meaning.{is_unresolved}
use Rattle.swc_ast.specs.Reach.{named_outside}
use Rattle.swc_ast.specs.Run.{has_text}
use Rattle.swc_ast.specs.Tree.{Name, Tree}
use Rattle.swc_utils.specs.Globals.{unresolved}
use Rattle.dce_rules.specs.Uses.{declared_in, read_outside, is_used_unnamed, free_to_go, is_unread}
use Rattle.dce_uses.specs.Tables.{Tells, is_free, is_held}
use Rattle.dce_code.specs.Knowledge.{may_go, is_inner, is_inward, shaker}
use Rattle.dce_code.specs.declared.known.Known.{Known}

neither : (a b : Bool) → (not a && not b) ≡ not (a || b)
neither true b = refl
neither false b = refl

both : (b : Bool) → b ≡ (b && true)
both true = refl
both false = refl

among_all : (a b c : Bool) → (not a && (b && c)) ≡ true → (not a && b) ≡ true
among_all true b c h = absurd (false≢true h)
among_all false true c h = refl
among_all false false c h = absurd (false≢true h)

-- what may go by what is told
free_told : (k : Known) (t : Tree) → Tells k.uses.now t → (x : Name) → (may_go k x && is_free k.uses.now x) ≡ free_to_go k.retained t x
free_told k t told x = ap (λ b. may_go k x && b) (told.free x) ∙ neither (has_text x.text k.retained) (named_outside x t || is_used_unnamed x t)

-- the names that go are free to
pub free_is : (k : Known) (t : Tree) → Tells k.uses.now t → (x : Name) → (shaker k).free x ≡ true → free_to_go k.retained t x ≡ true
free_is k t told x h = sym (free_told k t told x) ∙ among_all (has_text x.text k.retained) (is_free k.uses.now x) (is_inner k x) h

-- of the top level too, all that are free to go do
pub all_go : (k : Known) (t : Tree) → Tells k.uses.now t → k.top_level ≡ true → (x : Name) → (shaker k).free x ≡ free_to_go k.retained t x
all_go k t told top x =
    ap (λ b. may_go k x && (is_free k.uses.now x && (b || not (is_held k.uses.now x)))) top ∙ ap (λ b. may_go k x && b) (sym (both (is_free k.uses.now x))) ∙ free_told k t told x

unread_by : (a d r u i : Bool) → (not a && ((d && not r) && (not u && i))) ≡ true → (d && not (a || r)) ≡ true
unread_by true d r u i h = absurd (false≢true h)
unread_by false false r u i h = absurd (false≢true h)
unread_by false true true u i h = absurd (false≢true h)
unread_by false true false u i h = refl

bound_by : (a d u i : Bool) → (not a && (d && (not u && i))) ≡ true → u ≡ false
bound_by true d u i h = absurd (false≢true h)
bound_by false false u i h = absurd (false≢true h)
bound_by false true true i h = absurd (false≢true h)
bound_by false true false i h = refl

-- names whose assignments go are declared and unread
pub unread_is : (k : Known) (t : Tree) → Tells k.uses.now t → (x : Name) → (shaker k).unread x ≡ true → is_unread k.retained t x ≡ true
unread_is k t told x h =
    let a = has_text x.text k.retained in
    let u = is_unresolved (unresolved k.ctx) x in
    unread_by a (declared_in x t) (read_outside x t || is_used_unnamed x t) u (is_inward k x) (subst (λ b. (not a && (b && (not u && is_inward k x))) ≡ true) (told.unread x) h)

-- and not unresolved
pub unread_bound : (k : Known) (x : Name) → (shaker k).unread x ≡ true → is_unresolved (unresolved k.ctx) x ≡ false
unread_bound k x h = bound_by _ _ (is_unresolved (unresolved k.ctx) x) _ h
