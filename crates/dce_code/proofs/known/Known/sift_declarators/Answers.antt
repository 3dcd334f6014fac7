use Rattle.std.proofs.Common.{rules, refl, ◌∙◌}
use Rattle.std.proofs.lemmas.Fn.{filter_same}
use Rattle.swc_ast.specs.Statements.{declarator_tree}
use Rattle.swc_ast.specs.Views.{expr_tree}
use Rattle.dce_rules.specs.Shakes.{goes_plainly}
use Rattle.dce_code.specs.Knowledge.{shaker}
use Rattle.dce_code.proofs.Declared.{filters_alike}
use Rattle.dce_code.proofs.Sifted.{sifted_by}
use Rattle.dce_code.proofs.known.Known.sift_declarators.Goals as goal

pub returns : goal.returns
returns c = λ k.
    sifted_by (declarator_tree expr_tree k) (goes_plainly (shaker c.args.self.now)) _ c.args.decls.now.items c.retain.new.self.items c.len.result c.len-before.result
    (filter_same _ _ _ (λ x b f' h. search rules) _ _ c.retain.ensures.filtered ∙ filters_alike (shaker c.args.self.now) k c.args.decls.now.items) (search rules) (search rules) refl
