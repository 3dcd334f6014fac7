-- What the removal of dead branches makes of `switch`: the statements of the cases that are taken, in a block.
use Rattle.std.specs.Prelude.{◌<◌, ◌≤◌, ◌≡◌, Bool, true, false, List, []}
use Rattle.swc_ast.specs.declared.Span.{Span}
use Rattle.swc_ast.specs.Tree.{Block, Switch, CaseBody, Tree, node, Forest, ε, ◌⊳◌}
use Rattle.swc_ast.specs.Scope.{vars, vars_all, joined}
use Rattle.swc_ast.specs.Weight.{weight, weight_all, unreached}
use Rattle.static_proofs.specs.Jumps.{jumps_out, any_jumps_out}
use Rattle.branch_proofs.proofs.ListForms.{Hoists}
use Rattle.branch_proofs.proofs.BranchForms.{Tested}
use Rattle.branch_rules.specs.Statements.{as_statement}

-- items that stay and items that go
pub data Parts : Forest → Forest → Forest → Type 0 where
  no_parts : Parts ε ε ε
  part_in : {t : Tree} {ts us vs : Forest} → Parts ts us vs → Parts (t ⊳ ts) (t ⊳ us) vs
  part_out : {t : Tree} {ts us vs : Forest} → Parts ts us vs → Parts (t ⊳ ts) us (t ⊳ vs)

-- Of the tests and lists of cases: the statements that are taken, and what goes.
pub data Takes : Forest → Forest → Forest → Type 0 where
  takes_none : Takes ε ε ε
  test_out : {t : Tree} {cs ws ds : Forest} → vars t ≡ [] → Takes cs ws ds → Takes (t ⊳ cs) ws ds
  case_in : {ss : List Span} {is us vs cs ws ds : Forest} → Parts is us vs → Takes cs ws ds → Takes (node CaseBody ss is ⊳ cs) (joined us ws) (joined vs ds)

pub data SwitchStep : Tree → Tree → Type 0 where
  -- the statements that are taken, behind what the discriminant does and the `var` names of the others
  taken : {kinds : List Bool} {ss : List Span} {d : Tree} {cs ws ds : Forest} (rs : List Span) (es hs : Forest) → vars d ≡ [] → jumps_out true false d ≡ false → Takes cs ws ds → any_jumps_out true false ws ≡ false → Tested (node (Switch kinds) ss (d ⊳ cs)) d es → Hoists ds hs → unreached ws ≡ 0 → SwitchStep (node (Switch kinds) ss (d ⊳ cs)) (node Block rs (joined es (joined hs ws)))
  -- no case is taken
  none_taken : {kinds : List Bool} {ss : List Span} {d : Tree} {cs ds : Forest} (rs : List Span) (es hs : Forest) → vars d ≡ [] → jumps_out true false d ≡ false → Takes cs ε ds → Tested (node (Switch kinds) ss (d ⊳ cs)) d es → Hoists ds hs → SwitchStep (node (Switch kinds) ss (d ⊳ cs)) (as_statement rs (joined es hs))
  -- cases that do nothing
  no_cases : {kinds : List Bool} {ss : List Span} {d : Tree} {cs : Forest} → vars_all cs ≡ [] → 1 ≤ weight_all cs → SwitchStep (node (Switch kinds) ss (d ⊳ cs)) (node (Switch []) ss (d ⊳ ε))
  -- the statements that are taken in a block of their own, behind what the discriminant does
  taken_apart : {kinds : List Bool} {ss : List Span} {d : Tree} {cs ws ds : Forest} (rs qs : List Span) (es hs : Forest) → vars d ≡ [] → jumps_out true false d ≡ false → Takes cs ws ds → any_jumps_out true false ws ≡ false → Tested (node (Switch kinds) ss (d ⊳ cs)) d es → Hoists ds hs → unreached ws ≡ 0 → SwitchStep (node (Switch kinds) ss (d ⊳ cs)) (node Block rs (joined es (node Block qs (joined hs ws) ⊳ ε)))
  -- leading cases go, and their `var` names stand in front, where this makes it lighter
  cases_gone : {kinds : List Bool} {ss : List Span} {d : Tree} (us : List Span) (gone cs ds : Forest) (rest : List Bool) (rs : List Span) (hs : Forest) → Takes gone ε ds → Hoists ds hs → weight (as_statement rs (joined hs (node (Switch rest) us (d ⊳ cs) ⊳ ε))) < weight (node (Switch kinds) ss (d ⊳ joined gone cs)) → SwitchStep (node (Switch kinds) ss (d ⊳ joined gone cs)) (as_statement rs (joined hs (node (Switch rest) us (d ⊳ cs) ⊳ ε)))
