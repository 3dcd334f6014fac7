use Rattle.std.proofs.Common.{sym, ap, ◌∙◌}
use Rattle.std.specs.Prelude.{not}
use Rattle.swc_ast.specs.Scope.{has_name}
use Rattle.swc_ast.specs.Tree.{same_name}
use Rattle.swc_resolved.specs.Names.{name, members, is_free, is_taken}
use Rattle.swc_resolved.proofs.Sets.{or_behind, free_taken, taken_still, new_taken}
use Rattle.swc_resolved.proofs.names.Taken.add.Goals as goal

pub returns-then-is_free-clause-added : goal.returns-then-is_free-clause-added
returns-then-is_free-clause-added c = ap not (sym (free_taken _ (has_name (name c.args.x) (members c.args.self.now.names)) (sym c.is_free.ensures ∙ c.if-is_free.true)))

pub returns-then-is_free-clause-names : goal.returns-then-is_free-clause-names
returns-then-is_free-clause-names c = λ y. taken_still (is_taken c.args.self.now) (name c.args.x) y (free_taken _ (has_name (name c.args.x) (members c.args.self.now.names)) (sym c.is_free.ensures ∙ c.if-is_free.true))

pub returns-clause-added : goal.returns-clause-added
returns-clause-added c = c.in_ok-is_new.ensures.added ∙ ap not (new_taken _ (has_name (name c.args.x) (members c.args.self.now.names)) (sym c.is_free.ensures ∙ c.if-is_free.false))

pub returns-clause-names : goal.returns-clause-names
returns-clause-names c = λ y. or_behind (is_free c.args.self.now.unresolved_mark.0 y) (has_name y (members c.insert.new.self)) (has_name y (members c.args.self.now.names)) (same_name y (name c.args.x)) (c.in_ok-is_new.ensures.names y)
