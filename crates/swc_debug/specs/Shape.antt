-- What validity asks of the children of a node, by what it asks.
use Rattle.std.specs.Prelude.{Bool, true, false, not, map, nat_le}
use Rattle.swc_ast.specs.Expressions.{quasi_text}
use Rattle.swc_ast.specs.Tree.{Forest}
use Rattle.swc_ast.specs.Valid.{good_texts, count, is_last_absent, none_listed, last_not_listed}
use Rattle.swc_debug.specs.declared.shapes.Shape.{Shape}
use Rattle.swc_debug.specs.declared.shapes.Shape.TheVariants.{Any, Never, Texts, One, Two, LastThere, NoneListed, LastNotListed}

-- children are what is asked
abbrev pub fits : Shape → Forest → Bool
fits Any cs = true
fits Never cs = false
fits (Texts qs) cs = good_texts (map quasi_text qs.now) cs
fits One cs = nat_le 1 (count cs)
fits Two cs = nat_le 2 (count cs)
fits LastThere cs = not (is_last_absent cs)
fits NoneListed cs = none_listed cs
fits LastNotListed cs = last_not_listed cs
