use Rattle.std.proofs.Common.{not, refl, ap, ◌∙◌}
use Rattle.std.specs.Prelude.{map, string_bytes}
use Rattle.swc_ast.specs.Run.{has_text}
use Rattle.dce_code.specs.declared.known.Known.{Known}
use Rattle.swc_dce.proofs.Made.{made}
use Rattle.swc_dce.proofs.shaker.TreeShaker.rules.Goals as goal

pub returns-clause-made : goal.returns-clause-made
returns-clause-made c =
    let mark = c.args.self.now.unresolved_mark in let config = c.args.self.now.config in
    let known : Known = record { uses = c.args.uses; retained = c.in_ok-of.field-0; ctx = c.ctx.result; top_level = config.top_level; drops_imports = not config.preserve_imports_with_side_effects } in
    made known mark config c.args.uses.now refl c.ctx.ensures (λ t. c.in_ok-of.ensures t ∙ ap (λ xs. has_text t (map string_bytes xs)) c.deref.ensures.value) refl refl
