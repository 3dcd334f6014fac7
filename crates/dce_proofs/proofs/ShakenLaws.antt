-- What follows for the walks of the tree shaker: what is resolved and in the core stays so, a change is lighter, and where
-- nothing changed the tree is the same.
use Rattle.std.proofs.Common.{◌≡◌, ℕ, ◌<◌, Bool, true, false, not, ◌||◌, List, [], ◌∷◌, refl, sym, ap, ◌∙◌}
use Rattle.std.proofs.lemmas.Bool.{false≢true, true≢false, or_left, or_right}
use Rattle.swc_ast.specs.declared.Span.{Span}
use Rattle.swc_ast.specs.Core.{IsCore}
use Rattle.swc_ast.specs.Reach.{named_outside, outside_in}
use Rattle.swc_ast.specs.Resolved.{IsResolved}
use Rattle.swc_ast.specs.Run.{has_text}
use Rattle.swc_ast.specs.Scope.{has_name}
use Rattle.swc_ast.specs.Tree.{Text, Name, Label, ExportNamed, ExportSpecifier, Module, Tree, node, Forest, ε, ◌⊳◌}
use Rattle.swc_ast.specs.Weight.{weight}
use Rattle.static_proofs.specs.Spares.{export_name, export_names, exports_by, exports_all, exports_of}
use Rattle.static_proofs.proofs.Names.{has_name_append}
use Rattle.tree_walk.specs.Walks.{Whole}
use Rattle.walk_proofs.proofs.Static.{whole_resolved, whole_core, whole_falls}
use Rattle.dce_rules.specs.Shakes.{Shaker, shake_pass}
use Rattle.dce_rules.specs.Uses.{is_used_unnamed, free_to_go}
use Rattle.dce_proofs.specs.Laws.{Knows}
use Rattle.dce_proofs.proofs.Owes.{Stays, owes}

-- what is exported by a specifier is named

specifier_named : (x : Name) (l : Label) (ss : List Span) (cs : Forest) → has_name x (export_name l) ≡ true → named_outside x (node l ss cs) ≡ true
specifier_named x (ExportSpecifier y i) ss cs h = or_left (has_name x (y ∷ [])) (outside_in x cs) h
specifier_named x l ss cs h = absurd (false≢true h)

either : (a b c d : Bool) → (a ≡ true → c ≡ true) → (b ≡ true → d ≡ true) → (a || b) ≡ true → (c || d) ≡ true
either true b c d h g e = or_left c d (h refl)
either false b c d h g e = or_right c d (g e)

specifiers_named : (x : Name) (cs : Forest) → has_name x (export_names cs) ≡ true → outside_in x cs ≡ true
specifiers_named x ε h = h
specifiers_named x (node l ss cs ⊳ ts) h = either (has_name x (export_name l)) (has_name x (export_names ts)) (named_outside x (node l ss cs)) (outside_in x ts) (specifier_named x l ss cs) (specifiers_named x ts) (sym (has_name_append x (export_name l) (export_names ts)) ∙ h)

export_named : (x : Name) (l : Label) (ss : List Span) (cs : Forest) → has_name x (exports_by l cs) ≡ true → named_outside x (node l ss cs) ≡ true
export_named x ExportNamed ss cs h = specifiers_named x cs h
export_named x l ss cs h = absurd (false≢true h)

exports_named : (x : Name) (ts : Forest) → has_name x (exports_all ts) ≡ true → outside_in x ts ≡ true
exports_named x ε h = h
exports_named x (node l ss cs ⊳ ts) h = either (has_name x (exports_by l cs)) (has_name x (exports_all ts)) (named_outside x (node l ss cs)) (outside_in x ts) (export_named x l ss cs) (exports_named x ts) (sym (has_name_append x (exports_by l cs) (exports_all ts)) ∙ h)

module_named : (x : Name) (t : Tree) → has_name x (exports_of t) ≡ true → named_outside x t ≡ true
module_named x (node Module ss items) h = exports_named x items h
module_named x (node l ss cs) h = absurd (false≢true h)

-- a name that is named is not free to go
named_not_free : (retained : List Text) (t : Tree) (x : Name) → named_outside x t ≡ true → free_to_go retained t x ≡ false
named_not_free retained t x e = ap not (or_right (has_text x.text retained) (named_outside x t || is_used_unnamed x t) (or_left (named_outside x t) (is_used_unnamed x t) e))

exports_stay : {S : Shaker} {retained : List Text} {t : Tree} → Knows S retained t → (x : Name) → has_name x (exports_of t) ≡ true → Stays S x
exports_stay {S} {retained} {t} k x h = by_case (S.free x) refl
  where
    by_case : (b : Bool) → S.free x ≡ b → b ≡ false
    by_case false e = refl
    by_case true e = absurd (true≢false (sym (k.free_are x e) ∙ named_not_free retained t x (module_named x t h)))

pub shaken_resolved : {S : Shaker} {retained : List Text} {mark : ℕ} {c : Bool} {t u : Tree} → Knows S retained t → Whole (shake_pass S) c t u → IsResolved mark t → IsResolved mark u
shaken_resolved k w r = whole_resolved owes (exports_stay k) w r

pub shaken_core : {S : Shaker} {c : Bool} {t u : Tree} → Whole (shake_pass S) c t u → IsCore t → IsCore u
shaken_core w r = whole_core owes w r

pub shaken_falls : {S : Shaker} {t u : Tree} → Whole (shake_pass S) true t u → weight u < weight t
shaken_falls w = whole_falls (λ b f n. absurd n) (λ a b d. (owes a b d).lowers) w
