use Rattle.std.proofs.Common.{sym, ◌∙◌}
use Rattle.std.proofs.lemmas.List.Sorted.{list_any-IsPermutation}
use Rattle.swc_ast.specs.Tree.{same_name}
use Rattle.swc_resolved.specs.Names.{name}
use Rattle.swc_resolved.proofs.Sets.{has_key}
use Rattle.swc_resolved.proofs.names.NameSet.make_room.Goals as goal

pub returns : goal.returns
returns c = λ y. let before = c.args.self.now.names.keys in let after = c.reserve-made.new.self.keys in
    sym (has_key y after) ∙ sym (list_any-IsPermutation (λ k. same_name y (name k)) before after c.reserve-made.ensures.keys.0) ∙ has_key y before
