use Rattle.std.proofs.Common.{rules, refl}
use Rattle.std.proofs.lemmas.Fn.{filter_same}
use Rattle.swc_ast.specs.Modules.{item_tree}
use Rattle.dce_rules.specs.Shakes.{item_goes}
use Rattle.dce_code.specs.Knowledge.{shaker}
use Rattle.dce_code.proofs.Sifted.{sifted_by, list_shaken, kept_sifted}
use Rattle.dce_code.proofs.known.Known.drop_items.Goals as goal

pub returns-clause-shaken : goal.returns-clause-shaken
returns-clause-shaken g c =
    list_shaken (shaker c.args.self.now) _ _ _
    (sifted_by (λ x. item_tree (g.T.StmtLike.item x)) (item_goes (shaker c.args.self.now)) _ c.args.items.now.items c.retain.new.self.items c.len.result c.len-before.result
    (filter_same _ _ _ (λ x b f' k. search rules) _ _ c.retain.ensures.filtered) (search rules) (search rules) refl)

pub returns-clause-kept : goal.returns-clause-kept
returns-clause-kept g c =
    kept_sifted g.T.StmtLike.made (λ x. item_tree (g.T.StmtLike.item x)) (item_goes (shaker c.args.self.now)) c.args.items.now.items c.retain.new.self.items
    (filter_same _ _ _ (λ x b f' k. search rules) _ _ c.retain.ensures.filtered)
