use Rattle.std.proofs.Common.{sym, ◌∙◌}
use Rattle.std.proofs.lemmas.Bool.{not-true}
use Rattle.swc_ast.specs.Scope.{has_name}
use Rattle.swc_resolved.specs.Names.{name}
use Rattle.core_trees.specs.Inside.{members}
use Rattle.core_trees.proofs.Names.{not_false, put_new, put_again}
use Rattle.core_trees.proofs.declared.Declared.add.Goals as goal

pub returns-then-not-branch-clause-outside : goal.returns-then-not-branch-clause-outside
returns-then-not-branch-clause-outside c = put_again c.args.x (members c.args.self.now) (members c.insert.new.self) c.args.new.now.items (not_false (has_name (name c.args.x) (members c.args.self.now)) (sym c.in_ok-insert.ensures.added ∙ c.if-not-branch.true)) c.in_ok-insert.ensures.names

pub returns-clause-outside : goal.returns-clause-outside
returns-clause-outside c = put_new c.args.x (members c.args.self.now) (members c.insert.new.self) c.args.new.now.items c.push.new.self.items (not-true (has_name (name c.args.x) (members c.args.self.now)) (sym c.in_ok-insert.ensures.added ∙ c.if-not-branch.false)) c.in_ok-insert.ensures.names c.in_ok-push.ensures.items
