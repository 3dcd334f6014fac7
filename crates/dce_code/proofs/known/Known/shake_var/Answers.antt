use Rattle.std.proofs.Common.{subst}
use Rattle.swc_ast.specs.Parts.{list_trees}
use Rattle.swc_ast.specs.Statements.{declarator_tree}
use Rattle.swc_ast.specs.Views.{expr_tree}
use Rattle.dce_rules.specs.Shakes.{goes_plainly}
use Rattle.dce_code.specs.Knowledge.{shaker}
use Rattle.dce_code.specs.Lists.{Sifted}
use Rattle.dce_code.proofs.Declared.{declaration_stays, declaration_less, declaration_gone, left_alike}
use Rattle.dce_code.proofs.known.Known.shake_var.Goals as goal

pub returns-then-not-sift_declarators : goal.returns-then-not-sift_declarators
returns-then-not-sift_declarators c =
    let S = shaker c.args.self.now in
    let k = c.args.n.now.kind in
    declaration_stays S k _ _ _ (subst (λ b. Sifted (goes_plainly S) b (list_trees (declarator_tree expr_tree k) c.args.n.now.decls.items) (list_trees (declarator_tree expr_tree k) c.sift_declarators.new.decls.items)) c.if-not-sift_declarators.true (c.sift_declarators.ensures k))

pub returns-then-is_nothing : goal.returns-then-is_nothing
returns-then-is_nothing c =
    let S = shaker c.args.self.now in
    let k = c.args.n.now.kind in
    declaration_gone S k _ _ _ (subst (λ b. Sifted (goes_plainly S) b (list_trees (declarator_tree expr_tree k) c.args.n.now.decls.items) (list_trees (declarator_tree expr_tree k) c.sift_declarators.new.decls.items)) c.if-not-sift_declarators.false (c.sift_declarators.ensures k))
    (left_alike k _ _ _ _ c.deref.ensures.value c.is_nothing.ensures c.if-is_nothing.true)

pub returns : goal.returns
returns c =
    let S = shaker c.args.self.now in
    let k = c.args.n.now.kind in
    declaration_less S k _ _ _ (subst (λ b. Sifted (goes_plainly S) b (list_trees (declarator_tree expr_tree k) c.args.n.now.decls.items) (list_trees (declarator_tree expr_tree k) c.sift_declarators.new.decls.items)) c.if-not-sift_declarators.false (c.sift_declarators.ensures k))
    (left_alike k _ _ _ _ c.deref.ensures.value c.is_nothing.ensures c.if-is_nothing.false)
