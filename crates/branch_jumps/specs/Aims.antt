-- Jumps that are looked for, as the kinds of a rule.
use Rattle.std.specs.Borrow.{Bor}
use Rattle.std.specs.Prelude.{List, [], ◌∷◌, Option, Some, None}
use Rattle.swc_ast.specs.Tree.{Text}
use Rattle.branch_rules.specs.Jumps as rules
use Rattle.branch_rules.specs.Jumps.{Kinds, every, only}
use Rattle.branch_jumps.specs.declared.aims.Jumps.{Jumps}
use Rattle.branch_jumps.specs.declared.aims.Sought.{Sought}
use Rattle.branch_jumps.specs.declared.aims.Sought.TheVariants.{Every, Only}
use Rattle.branch_jumps.specs.declared.aims.Labels.{Labels, Labels', Held-Labels-others, None', Some'}

-- labels, the innermost first
abbrev mutual
  pub label_texts : Labels → List Text
  label_texts (Labels' label others) = label.now ∷ other_texts others

  pub other_texts : Held-Labels-others → List Text
  other_texts None' = []
  other_texts (Some' p labels) = label_texts labels

-- those that are given, if any are
abbrev pub texts : Option (Bor Labels) → List Text
texts None = []
texts (Some labels) = label_texts labels.now

-- the labels with which `continue` is looked for, in the words of the rules
abbrev pub sought : Sought → rules.Sought
sought Every = every
sought (Only labels) = only (texts labels)

-- the same of the jumps
abbrev pub kinds : Jumps → Kinds
kinds j = record { breaks = j.breaks; continues = j.continues; labelled = sought j.labelled; inside = texts j.inside }
