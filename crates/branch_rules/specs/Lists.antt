-- What a list of statements becomes, once its items are walked: empty statements go and blocks that declare nothing are
-- flattened, once each; then, behind the first direct stopper, only functions and module declarations stay, and the `var` names
-- of the rest stand in front of it.
use Rattle.std.specs.Prelude.{◌≡◌, Bool, true, false, ◌&&◌, ◌||◌, if◌then◌else◌, List}
use Rattle.swc_ast.specs.declared.Span.{Span}
use Rattle.swc_ast.specs.Tree.{Name, Label, Empty, Block, VarDecl, Module, Tree, node, Forest, ε, ◌⊳◌}
use Rattle.swc_ast.specs.Reach.{is_exported}
use Rattle.swc_ast.specs.Run.{exported}
use Rattle.swc_ast.specs.Scope.{joined}
use Rattle.swc_ast.specs.Weight.{is_stopper, stays_behind}
use Rattle.static_proofs.specs.Shaped.{is_lexical, is_declarator_of, labels_of, all_labels}
use Rattle.branch_rules.specs.Statements.{is_plain}
use Rattle.branch_rules.specs.Vars.{NamesOf}

-- a statement that declares nothing: a plain one, or `let` or `const` of no name
abbrev pub is_bare : Tree → Bool
is_bare (node (VarDecl k) ss ε) = true
is_bare t = is_plain t

-- the same of each of some statements
abbrev pub all_bare : Forest → Bool
all_bare ε = true
all_bare (t ⊳ ts) = is_bare t && all_bare ts

-- empty statements go, and blocks that declare nothing are flattened
pub data Swept : Forest → Forest → Type 0 where
  none_swept : Swept ε ε
  item_stays : (t : Tree) {ts us : Forest} → Swept ts us → Swept (t ⊳ ts) (t ⊳ us)
  empty_goes : (ss : List Span) {ts us : Forest} → Swept ts us → Swept (node Empty ss ε ⊳ ts) us
  block_opens : (ss : List Span) (cs : Forest) {ts us : Forest} → all_bare cs ≡ true → Swept ts us → Swept (node Block ss cs ⊳ ts) (joined cs us)

-- function declarations and module declarations among some statements
abbrev pub staying : Forest → Forest
staying ε = ε
staying (t ⊳ ts) = if stays_behind t then t ⊳ staying ts else staying ts

-- the same of all others
abbrev pub going : Forest → Forest
going ε = ε
going (t ⊳ ts) = if stays_behind t then going ts else t ⊳ going ts

-- what stands behind the first stopper goes, off what stays there; the names that have to be kept stand in front of it
pub data Cut (kept : Name → Bool) : Forest → Forest → Type 0 where
  uncut : Cut kept ε ε
  past_item : (t : Tree) {ts us : Forest} → is_stopper t ≡ false → Cut kept ts us → Cut kept (t ⊳ ts) (t ⊳ us)
  cut_at : (t : Tree) (ts : Forest) {vs : Forest} → is_stopper t ≡ true → NamesOf kept (going ts) vs → Cut kept (t ⊳ ts) (joined vs (t ⊳ staying ts))

-- a statement that is no function declaration; one of `let` or `const` holds declarators of its kind alone
abbrev pub is_statement : Tree → Bool
is_statement (node (VarDecl k) ss ds) = if is_lexical k then all_labels (is_declarator_of k) (labels_of ds) else true
is_statement t = is_plain t

-- each item that may go is one
abbrev pub all_statements : Forest → Bool
all_statements ε = true
all_statements (t ⊳ ts) = (stays_behind t || is_statement t) && all_statements ts

-- A list that changes. Kept are names of `let` and `const` that must stay bound.
pub record Tidied (kept : Name → Bool) (ts vs : Forest) : Type 0 where
  pub between : Forest
  pub sweeps : Swept ts between
  pub statements : all_statements ts ≡ true
  pub cuts : Cut kept between vs
  pub changes : vs ≡ ts → ⊥

-- the names of `let` and `const` that stay bound where they are not reached: in a module those that it exports
abbrev pub kept_names : Label → Forest → Name → Bool
kept_names Module ts x = is_exported x (exported ts)
kept_names l ts x = false
