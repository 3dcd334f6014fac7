-- A walk of the tree shaker keeps what a module or a script does, where the names whose declarations go are such names, and
-- those of which a declaration is left are bound as before.
use Rattle.std.proofs.Common.{◌≡◌, Bool, true, not, List, subst}
use Rattle.std.proofs.lemmas.Bool.{false≢true}
use Rattle.swc_ast.specs.declared.Span.{Span}
use Rattle.swc_ast.specs.Run.{Same}
use Rattle.swc_ast.specs.Tree.{Text, Name, Label, Module, Script, node, Forest}
use Rattle.meaning_proofs.specs.Roles.{SameSlack}
use Rattle.static_proofs.specs.Shaped.{are_shaped}
use Rattle.swc_ast.specs.Labels.{is_whole}
use Rattle.tree_walk.specs.Walks.{ListMade}
use Rattle.dce_rules.specs.Shakes.{Shaker, shake_pass}
use Rattle.dce_proofs.specs.Laws.{Knows}
use Rattle.dce_proofs.proofs.Walked.{names, Items, module_shaken, script_shaken}
use Rattle.dce_proofs.proofs.Went.{Fair, AllStandIn, AllBound, made_went}
use Rattle.dce_proofs.proofs.Maps.{list_mapped}
use Rattle.dce_proofs.proofs.SameModules.{shaken_same}

-- what has to hold of the names of a walked list
pub record Settled (S : Shaker) (G K : Name → Bool) {l : Label} {c : Bool} {ts us : Forest} (m : ListMade (shake_pass S) l c ts us) : Type 0 where
  pub shaped : are_shaped ts ≡ true
  pub stand : AllStandIn G K us
  pub bound : AllBound G K ts us
  pub fair : Fair G K (made_went S m)
  pub slack : SameSlack (names G K S.unread) ts us

-- a module or a script whose list was walked
pub settled_same : (S : Shaker) (G K : Name → Bool) (retained : List Text) (loads : Bool) (l : Label) (ss : List Span) {c : Bool} {ts us : Forest} → is_whole l ≡ true → S.drops_imports ≡ not loads → Knows S retained (node l ss ts) → ((x : Name) → G x ≡ true → S.free x ≡ true) → (m : ListMade (shake_pass S) l c ts us) → Settled S G K m → Same S.mark loads (node l ss ts) (node l ss us)
settled_same S G K retained loads Module ss {ts = ts} {us = us} i e k g m h = shaken_same retained loads S.mark G K S.unread (module_shaken (subst (λ d. Items G K S.unread S.mark d ts us) e (list_mapped S G K k.unread_bound m h.shaped h.stand h.bound h.fair)) h.slack) (λ x d. k.free_are x (g x d)) k.unread_are
settled_same S G K retained loads Script ss {ts = ts} {us = us} i e k g m h = shaken_same retained loads S.mark G K S.unread (script_shaken (subst (λ d. Items G K S.unread S.mark d ts us) e (list_mapped S G K k.unread_bound m h.shaped h.stand h.bound h.fair)) h.slack) (λ x d. k.free_are x (g x d)) k.unread_are
settled_same S G K retained loads l ss i e k g m h = absurd (false≢true i)
