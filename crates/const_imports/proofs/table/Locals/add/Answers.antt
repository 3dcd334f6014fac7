use Rattle.std.proofs.Common.{ap, ◌∙◌, bytes_eq}
use Rattle.std.specs.Prelude.{if◌then◌else◌}
use Rattle.const_imports.specs.Views.{locals_of, group_of}
use Rattle.const_imports.proofs.Grouped.{one_added}
use Rattle.const_imports.proofs.table.Locals.add.Goals as goal

pub returns : goal.returns
returns c = λ t. one_added (group_of c.args.self.now) c.args.local.name.now.sym c.as_str-text.result.now t (group_of c.take-group.new.self t) (group_of c.put.new.self t) c.take-group.result.items c.args.local
    c.as_str-text.ensures.value (c.take-group.ensures.others t)
    (c.in_ok-put.ensures t ∙ ap (λ xs. if bytes_eq c.as_str-text.result.now t then locals_of xs else group_of c.take-group.new.self t) c.in_ok-push.ensures.items)
    c.take-group.ensures.group
