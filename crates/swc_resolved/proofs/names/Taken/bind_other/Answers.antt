use Rattle.std.proofs.Common.{sym, ◌∙◌}
use Rattle.std.proofs.lemmas.Bool.{not-true}
use Rattle.swc_ast.specs.Scope.{has_name}
use Rattle.swc_resolved.specs.Names.{name, members, is_taken}
use Rattle.swc_resolved.proofs.Fresh.{passed_by, bound_other}
use Rattle.swc_resolved.proofs.Sets.{not_false}
use Rattle.swc_resolved.proofs.names.Taken.bind_other.Goals as goal

pub returns-then-not-branch-clause-binds : goal.returns-then-not-branch-clause-binds
returns-then-not-branch-clause-binds c = passed_by (is_taken c.args.self.now) (name c.args.x) (members c.args.own.now) (not_false (has_name (name c.args.x) (members c.args.own.now)) (sym c.if-not-branch.true ∙ c.in_ok-insert.ensures.added))

pub returns-clause-binds : goal.returns-clause-binds
returns-clause-binds c = bound_other c.in_ok-is_new.is_new (is_taken c.args.self.now) (is_taken c.add.new.self) (name c.args.x) (members c.args.own.now) c.in_ok-is_new.ensures.added c.in_ok-is_new.ensures.names (not-true (has_name (name c.args.x) (members c.args.own.now)) (sym c.in_ok-insert.ensures.added ∙ c.if-not-branch.false))
