use Rattle.std.proofs.Common.{sym, ◌∙◌}
use Rattle.swc_ast.specs.Scope.{has_name}
use Rattle.swc_resolved.specs.Names.{name, members, is_free}
use Rattle.swc_resolved.proofs.Sets.{has_kept}
use Rattle.swc_resolved.proofs.names.Taken.contains.Goals as goal

pub returns-else-is_free : goal.returns-else-is_free
returns-else-is_free c = has_kept (is_free c.args.self.now.unresolved_mark.0 (name c.args.x)) c.contains.result (has_name (name c.args.x) (members c.args.self.now.names)) (sym c.is_free.ensures ∙ c.if-is_free.false) c.contains.ensures
