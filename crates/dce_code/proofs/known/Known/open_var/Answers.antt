use Rattle.std.proofs.Common.{subst}
use Rattle.swc_ast.specs.Parts.{list_trees}
use Rattle.swc_ast.specs.Statements.{declarator_tree}
use Rattle.swc_ast.specs.Views.{expr_tree}
use Rattle.dce_rules.specs.Shakes.{goes_early}
use Rattle.dce_code.specs.Knowledge.{shaker}
use Rattle.dce_code.specs.Lists.{Sifted}
use Rattle.dce_code.proofs.Declared.{left_alike}
use Rattle.dce_code.proofs.Depths.{sifted_shallower}
use Rattle.dce_code.proofs.Opening.{early_sifted, early_stays, early_less, early_gone}
use Rattle.dce_code.proofs.known.Known.open_var.Goals as goal

pub returns-then-not-sift_early-clause-opens : goal.returns-then-not-sift_early-clause-opens
returns-then-not-sift_early-clause-opens c =
    let S = shaker c.args.self.now in
    let k = c.args.n.now.kind in
    early_stays S k _ _ _ (subst (λ b. Sifted (goes_early S) b (list_trees (declarator_tree expr_tree k) c.args.n.now.decls.items) (list_trees (declarator_tree expr_tree k) c.sift_early.new.decls.items)) c.if-not-sift_early.true (early_sifted S k _ _ _ c.sift_early.ensures.kept c.sift_early.ensures.fewer))

pub returns-then-not-sift_early-clause-no_deeper : goal.returns-then-not-sift_early-clause-no_deeper
returns-then-not-sift_early-clause-no_deeper c = sifted_shallower _ c.args.n.now _ c.sift_early.ensures.kept

pub returns-then-is_nothing-clause-opens : goal.returns-then-is_nothing-clause-opens
returns-then-is_nothing-clause-opens c =
    let S = shaker c.args.self.now in
    let k = c.args.n.now.kind in
    early_gone S k _ _ _ (subst (λ b. Sifted (goes_early S) b (list_trees (declarator_tree expr_tree k) c.args.n.now.decls.items) (list_trees (declarator_tree expr_tree k) c.sift_early.new.decls.items)) c.if-not-sift_early.false (early_sifted S k _ _ _ c.sift_early.ensures.kept c.sift_early.ensures.fewer))
    (left_alike k _ _ _ _ c.deref.ensures.value c.is_nothing.ensures c.if-is_nothing.true)

pub returns-then-is_nothing-clause-no_deeper : goal.returns-then-is_nothing-clause-no_deeper
returns-then-is_nothing-clause-no_deeper c = sifted_shallower _ c.args.n.now _ c.sift_early.ensures.kept

pub returns-clause-opens : goal.returns-clause-opens
returns-clause-opens c =
    let S = shaker c.args.self.now in
    let k = c.args.n.now.kind in
    early_less S k _ _ _ (subst (λ b. Sifted (goes_early S) b (list_trees (declarator_tree expr_tree k) c.args.n.now.decls.items) (list_trees (declarator_tree expr_tree k) c.sift_early.new.decls.items)) c.if-not-sift_early.false (early_sifted S k _ _ _ c.sift_early.ensures.kept c.sift_early.ensures.fewer))
    (left_alike k _ _ _ _ c.deref.ensures.value c.is_nothing.ensures c.if-is_nothing.false)

pub returns-clause-no_deeper : goal.returns-clause-no_deeper
returns-clause-no_deeper c = sifted_shallower _ c.args.n.now _ c.sift_early.ensures.kept
