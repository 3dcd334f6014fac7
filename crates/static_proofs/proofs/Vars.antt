-- A walk by steps that lose no `var` name loses none.
use Rattle.std.proofs.Common.{◌≡◌, false, List, [], refl, sym, subst}
use Rattle.std.proofs.lemmas.Bool.{false≢true}
use Rattle.swc_ast.specs.Labels.{is_whole}
use Rattle.swc_ast.specs.declared.Span.{Span}
use Rattle.swc_ast.specs.Tree.{Label, Module, Script, Tree, node, Forest, ε, ◌⊳◌, label_of}
use Rattle.swc_ast.specs.Scope.{vars_all, own_vars, holds_statements}
use Rattle.static_proofs.specs.Names.{Within}
use Rattle.static_proofs.specs.Spares.{Spares}
use Rattle.static_proofs.specs.Vars.{body_vars, LosesNoVar}
use Rattle.static_proofs.specs.Walks.{Walks, AllWalk, inside, then, early, nothing, both}
use Rattle.static_proofs.proofs.Names.{within_same, within_none, within_append, within_trans}
use Rattle.static_proofs.proofs.Choices.{within_if}

pub no_body : (t : Tree) → is_whole (label_of t) ≡ false → body_vars t ≡ []
no_body (node Module ss cs) h = absurd (false≢true (sym h))
no_body (node Script ss cs) h = absurd (false≢true (sym h))
no_body (node l ss cs) h = refl

-- a step below the top that spares every `var` name
pub loses_none : {t u : Tree} → is_whole (label_of t) ≡ false → Spares (λ x. Unit {0}) t u → LosesNoVar t u
loses_none {t} {u} h k = record { vars_there = record { by = λ x i. k.vars_spared.by x tt i }; body_there = subst (λ xs. Within xs (body_vars u)) (sym (no_body t h)) (within_none (body_vars u)) }

pub loses_then : {a b c : Tree} → LosesNoVar a b → LosesNoVar b c → LosesNoVar a c
loses_then h i = record { vars_there = within_trans h.vars_there i.vars_there; body_there = within_trans h.body_there i.body_there }

pub data AllLoseNone : Forest → Forest → Type 0 where
  none_lost : AllLoseNone ε ε
  more_lost : {t u : Tree} {ts us : Forest} → LosesNoVar t u → AllLoseNone ts us → AllLoseNone (t ⊳ ts) (u ⊳ us)

all_vars_there : {ts us : Forest} → AllLoseNone ts us → Within (vars_all ts) (vars_all us)
all_vars_there none_lost = within_same []
all_vars_there (more_lost k ks) = within_append k.vars_there (all_vars_there ks)

body_inside : (l : Label) (ss : List Span) {ts us : Forest} → AllLoseNone ts us → Within (body_vars (node l ss ts)) (body_vars (node l ss us))
body_inside Module ss ks = all_vars_there ks
body_inside Script ss ks = all_vars_there ks
body_inside l ss ks = within_same []

pub loses_inside : (l : Label) (ss : List Span) {ts us : Forest} → AllLoseNone ts us → LosesNoVar (node l ss ts) (node l ss us)
loses_inside l ss {ts} {us} ks = record { vars_there = within_append (within_same (own_vars l)) (within_if (holds_statements l) (vars_all ts) (vars_all us) (all_vars_there ks)); body_there = body_inside l ss ks }

mutual
  pub walk_loses_none : {X : Tree → Tree → Type 0} {t u : Tree} → ((a b : Tree) → X a b → LosesNoVar a b) → Walks X t u → LosesNoVar t u
  walk_loses_none f (inside {l = l} {ss = ss} h) = loses_inside l ss (all_walk_loses_none f h)
  walk_loses_none f (then {b = b} {c = c} h x) = loses_then (walk_loses_none f h) (f b c x)
  walk_loses_none f (early {a = a} {b = b} x h) = loses_then (f a b x) (walk_loses_none f h)

  pub all_walk_loses_none : {X : Tree → Tree → Type 0} {ts us : Forest} → ((a b : Tree) → X a b → LosesNoVar a b) → AllWalk X ts us → AllLoseNone ts us
  all_walk_loses_none f nothing = none_lost
  all_walk_loses_none f (both h hs) = more_lost (walk_loses_none f h) (all_walk_loses_none f hs)
