-- What jumps may go to, as texts that are borrowed.
use Rattle.std.specs.Prelude.{Bool, true, false, map}
use Rattle.swc_ast.specs.Tree.{Label, Labeled, While, DoWhile, For}
use Rattle.swc_ast.specs.Resolved as resolved
use Rattle.swc_resolved.specs.declared.jumps.Targets.{Targets}

-- the targets that a place has
abbrev pub targets : Targets → resolved.Targets
targets g = record { labels = map (λ t. t.now) g.labels.now; loops = map (λ t. t.now) g.loops.now; can_break = g.can_break; can_continue = g.can_continue; own = map (λ t. t.now) g.own.now }

-- a node that adds to what jumps inside may go to
abbrev pub adds_targets : Label → Bool
adds_targets (Labeled t) = true
adds_targets While = true
adds_targets DoWhile = true
adds_targets For = true
adds_targets l = false
