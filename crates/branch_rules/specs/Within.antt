-- What a loop becomes whose body holds a `do` that runs its body once, where no `continue` in that is aimed at the `do`. Blocks,
-- conditions, labels, `try` and `switch` may stand between the two; a `continue` with another label than those goes on with a loop
-- further out.
use Rattle.std.specs.Prelude.{ℕ, Bool, true, false, ◌||◌, if◌then◌else◌, List, [], ◌∷◌, Option}
use Rattle.swc_ast.specs.declared.Span.{Span}
use Rattle.swc_ast.specs.Tree.{Text, Name, Block, If, While, DoWhile, For, Labeled, Switch, CaseBody, Try, Tree, node, Forest, ε, ◌⊳◌}
use Rattle.swc_ast.specs.Weight.{is_stopper}
use Rattle.branch_rules.specs.Jumps.{only}
use Rattle.branch_rules.specs.Once.{DoStep}
use Rattle.branch_rules.specs.Statements.{as_statement}

-- a statement that doesn't end its list, which is tidied already: a block round one that does
abbrev pub unstopped : List Span → Tree → Tree
unstopped rs t = if is_stopper t then node Block rs (t ⊳ ε) else t

module _ (mark : ℕ) where
  mutual
    -- a statement of the body, behind the labels between it and the loop; the truth value says whether it is another one
    pub data Within : List Text → Bool → Tree → Tree → Type 0 where
      stays : {ls : List Text} (t : Tree) → Within ls false t t
      runs : {ls : List Text} (rs qs : List Span) {t : Tree} {us : Forest} → DoStep mark (only ls) t us → Within ls true t (unstopped qs (as_statement rs us))
      of_part : {ls : List Text} {c : Bool} {t u : Tree} → PartWithin ls c t u → Within ls c t u
      in_if : {ls : List Text} {c : Bool} (ss : List Span) (t : Tree) {ts us : Forest} → AllWithin ls c ts us → Within ls c (node If ss (t ⊳ ts)) (node If ss (t ⊳ us))
      in_label : {ls : List Text} {c : Bool} (l : Text) (ss : List Span) {t u : Tree} → Within (l ∷ ls) c t u → Within ls c (node (Labeled l) ss (t ⊳ ε)) (node (Labeled l) ss (u ⊳ ε))
      in_try : {ls : List Text} {c : Bool} (p : Option (Option Name)) (ss : List Span) {ts us : Forest} → PartsWithin ls c ts us → Within ls c (node (Try p) ss ts) (node (Try p) ss us)
      in_switch : {ls : List Text} {c : Bool} (ds : List Bool) (ss : List Span) {ts us : Forest} → PartsWithin ls c ts us → Within ls c (node (Switch ds) ss ts) (node (Switch ds) ss us)

    -- the same of several
    pub data AllWithin : List Text → Bool → Forest → Forest → Type 0 where
      none_within : {ls : List Text} → AllWithin ls false ε ε
      one_within : {ls : List Text} {c d : Bool} {t u : Tree} {ts us : Forest} → Within ls c t u → AllWithin ls d ts us → AllWithin ls (c || d) (t ⊳ ts) (u ⊳ us)

    -- the same of a block, the body of a case, or a part that is as it was
    pub data PartWithin : List Text → Bool → Tree → Tree → Type 0 where
      same_part : {ls : List Text} (t : Tree) → PartWithin ls false t t
      in_block : {ls : List Text} {c : Bool} (ss : List Span) {ts us : Forest} → AllWithin ls c ts us → PartWithin ls c (node Block ss ts) (node Block ss us)
      in_case : {ls : List Text} {c : Bool} (ss : List Span) {ts us : Forest} → AllWithin ls c ts us → PartWithin ls c (node CaseBody ss ts) (node CaseBody ss us)

    -- the same of several
    pub data PartsWithin : List Text → Bool → Forest → Forest → Type 0 where
      none_parts : {ls : List Text} → PartsWithin ls false ε ε
      one_part : {ls : List Text} {c d : Bool} {t u : Tree} {ts us : Forest} → PartWithin ls c t u → PartsWithin ls d ts us → PartsWithin ls (c || d) (t ⊳ ts) (u ⊳ us)

  -- no label counts that stands in front of the loop: it is none of the `do`
  pub data WithinStep : Tree → Forest → Type 0 where
    while_within : (ss rs : List Span) (t : Tree) {b u : Tree} → Within [] true b u → WithinStep (node While ss (t ⊳ b ⊳ ε)) (node While rs (t ⊳ u ⊳ ε) ⊳ ε)
    do_within : (ss rs : List Span) (t : Tree) {b u : Tree} → Within [] true b u → WithinStep (node DoWhile ss (b ⊳ t ⊳ ε)) (node DoWhile rs (u ⊳ t ⊳ ε) ⊳ ε)
    for_within : (ss rs : List Span) (i t v : Tree) {b u : Tree} → Within [] true b u → WithinStep (node For ss (i ⊳ t ⊳ v ⊳ b ⊳ ε)) (node For rs (i ⊳ t ⊳ v ⊳ u ⊳ ε) ⊳ ε)
