-- What the removal of dead branches makes of a list of statements: idle statements go, blocks that declare nothing are
-- flattened, and of what stands behind the first direct stopper declarations stay, and `var` names in front of it.
use Rattle.std.specs.Prelude.{◌≤◌, ◌≡◌, Bool, true, false, ◌&&◌, ◌||◌, List, [], length}
use Rattle.swc_ast.specs.Labels.{is_var_declaration}
use Rattle.swc_ast.specs.declared.Span.{Span}
use Rattle.swc_ast.specs.declared.VarDeclKind.TheVariants.{Var}
use Rattle.swc_ast.specs.Tree.{Label, Block, VarDecl, Declarator, Tree, node, Forest, ε, ◌⊳◌, label_of}
use Rattle.swc_ast.specs.Scope.{vars, vars_all, declarator_names, joined}
use Rattle.swc_ast.specs.Valid.{count}
use Rattle.swc_ast.specs.Weight.{is_list, is_stopper, stays_behind}
use Rattle.static_proofs.specs.Names.{Within}
use Rattle.static_proofs.specs.Drawn.{is_plain_statement}
use Rattle.branch_rules.specs.Lists.{all_bare, staying, going}
use Rattle.static_proofs.specs.Together.{is_module}

-- a statement, no function and no module declaration
abbrev pub may_go : Tree → Bool
may_go t = is_plain_statement (label_of t) || is_var_declaration (label_of t)

-- each statement that may go is one
abbrev pub all_may_go : Forest → Bool
all_may_go ε = true
all_may_go (t ⊳ ts) = (stays_behind t || may_go t) && all_may_go ts

-- idle statements go, and blocks are flattened
pub data Sweeps : Forest → Forest → Type 0 where
  swept : Sweeps ε ε
  kept_item : {t : Tree} {ts us : Forest} → Sweeps ts us → Sweeps (t ⊳ ts) (t ⊳ us)
  idle_item : {t : Tree} {ts us : Forest} → is_plain_statement (label_of t) ≡ true → is_stopper t ≡ false → vars t ≡ [] → Sweeps ts us → Sweeps (t ⊳ ts) us
  flat_item : {ss : List Span} {cs ts us : Forest} → all_bare cs ≡ true → Sweeps ts us → Sweeps (node Block ss cs ⊳ ts) (joined cs us)

-- declarators of `var` without first values
abbrev pub are_bare : Forest → Bool
are_bare ε = true
are_bare (node (Declarator Var x) ss ε ⊳ ts) = are_bare ts
are_bare (t ⊳ ts) = false

-- the `var` names of statements that go, in one declaration
pub data Hoists (ts : Forest) : Forest → Type 0 where
  no_vars : vars_all ts ≡ [] → Hoists ts ε
  some_vars : {ss : List Span} {ds : Forest} → are_bare ds ≡ true → Within (declarator_names ds) (vars_all ts) → Within (vars_all ts) (declarator_names ds) → 1 ≤ count ds → count ds ≤ length (vars_all ts) → Hoists ts (node (VarDecl Var) ss ds ⊳ ε)

pub data Cuts : Forest → Forest → Type 0 where
  uncut : Cuts ε ε
  past_item : {t : Tree} {ts us : Forest} → is_stopper t ≡ false → Cuts ts us → Cuts (t ⊳ ts) (t ⊳ us)
  cut_at : {t : Tree} {ts hs : Forest} → is_stopper t ≡ true → Hoists (going ts) hs → Cuts (t ⊳ ts) (joined hs (t ⊳ staying ts))

-- The step of a list that no module holds, or in which no other name has to be kept; something changes.
pub record Tidies (ts vs : Forest) : Type 0 where
  pub between : Forest
  pub sweeps : Sweeps ts between
  pub statements : all_may_go between ≡ true
  pub cuts : Cuts between vs
  pub changes : vs ≡ ts → ⊥

pub data ListStep : Tree → Tree → Type 0 where
  tidy : {l : Label} {ss : List Span} {ts vs : Forest} → is_list l ≡ true → is_module l ≡ false → Tidies ts vs → ListStep (node l ss ts) (node l ss vs)
