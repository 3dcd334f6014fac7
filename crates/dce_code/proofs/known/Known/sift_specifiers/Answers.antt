use Rattle.std.proofs.Common.{rules, refl}
use Rattle.std.proofs.lemmas.Fn.{filter_same}
use Rattle.swc_ast.specs.Modules.{import_specifier_tree}
use Rattle.dce_rules.specs.Shakes.{goes_plainly}
use Rattle.dce_code.specs.Knowledge.{shaker}
use Rattle.dce_code.proofs.Sifted.{sifted_by}
use Rattle.dce_code.proofs.known.Known.sift_specifiers.Goals as goal

pub returns : goal.returns
returns c =
    sifted_by import_specifier_tree (goes_plainly (shaker c.args.self.now)) _ c.args.specifiers.now.items c.retain.new.self.items c.len.result c.len-before.result
    (filter_same _ _ _ (λ x b f' k. search rules) _ _ c.retain.ensures.filtered) (search rules) (search rules) refl
