-- Lists that are tidied.
use Rattle.std.specs.Prelude.{◌≡◌, Bool, true, false}
use Rattle.swc_ast.specs.Redex.{list_redex}
use Rattle.swc_ast.specs.Tree.{Name, Forest}
use Rattle.branch_rules.specs.Lists.{Tidied}

-- no name of `let` or `const` is kept
abbrev pub nothing_kept : Name → Bool
nothing_kept x = false

-- a list that was tidied, or one in which there is nothing to tidy
abbrev pub ListTidied : (Name → Bool) → Bool → Forest → Forest → Type 0
ListTidied kept true ts us = Tidied kept ts us
ListTidied kept false ts us = (us ≡ ts) × (list_redex us ≡ false)
