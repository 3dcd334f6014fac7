-- Trees that are drawn from a tree: parts of it that don't overlap, in their order. And which nodes declare nothing.
use Rattle.std.specs.Prelude.{◌≡◌, Bool, true, false, List}
use Rattle.swc_ast.specs.declared.Span.{Span}
use Rattle.swc_ast.specs.declared.VarDeclKind.TheVariants.{Var}
use Rattle.swc_ast.specs.Tree.{Label, While, DoWhile, For, Labeled, Switch, VarDecl, Tree, node, Forest, ε, ◌⊳◌, simple, holder}
use Rattle.swc_ast.specs.Scope.{joined}

-- a node that no jump inside it goes to
abbrev pub lets_jumps_out : Label → Bool
lets_jumps_out (Labeled t) = false
lets_jumps_out While = false
lets_jumps_out DoWhile = false
lets_jumps_out For = false
lets_jumps_out (Switch ds) = false
lets_jumps_out _ = true

mutual
  pub data Drawn : Tree → Forest → Type 0 where
    nothing_of : {t : Tree} → Drawn t ε
    all_of : {t : Tree} → Drawn t (t ⊳ ε)
    part_of : {l : Label} {ss : List Span} {cs us : Forest} → lets_jumps_out l ≡ true → AllDrawn cs us → Drawn (node l ss cs) us

  pub data AllDrawn : Forest → Forest → Type 0 where
    none_drawn : AllDrawn ε ε
    more_drawn : {t : Tree} {ts us vs : Forest} → Drawn t us → AllDrawn ts vs → AllDrawn (t ⊳ ts) (joined us vs)

-- a statement that declares neither `let`, `const` nor a function
abbrev pub is_plain_statement : Label → Bool
is_plain_statement (simple s) = true
is_plain_statement (holder h) = true
is_plain_statement (VarDecl Var) = true
is_plain_statement _ = false
