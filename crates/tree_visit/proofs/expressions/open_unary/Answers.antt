use Rattle.std.proofs.Common.{rules, ap}
use Rattle.swc_ast.specs.Views.{expr_tree}
use Rattle.tree_visit.proofs.Parts.{hides, whole_hides, member_hides, opens_operand, opens_typeof}
use Rattle.tree_visit.proofs.expressions.open_unary.Goals as goal

pub returns-in-Name : goal.returns-in-Name
returns-in-Name c = opens_typeof c.args.n.now c.in-Name.i.now c.leaf.result c.in-TypeOf.is (search rules) (search rules) (search rules)

pub returns-in-Member : goal.returns-in-Member
returns-in-Member c = opens_operand c.args.n.now c.operand.result (member_hides _ _ c.in-Member.field-0.now (search rules)) c.operand.ensures

pub returns-in-Whole : goal.returns-in-Whole
returns-in-Whole c = opens_operand c.args.n.now c.operand-in-Whole.result (whole_hides _ _ (search rules)) c.operand-in-Whole.ensures

pub returns-in-Minus : goal.returns-in-Minus
returns-in-Minus c = opens_operand c.args.n.now c.operand-in-Minus.result (ap (λ o. hides o (expr_tree c.args.n.now.arg.value)) c.in-Minus.is) c.operand-in-Minus.ensures

pub returns-in-Plus : goal.returns-in-Plus
returns-in-Plus c = opens_operand c.args.n.now c.operand-in-Plus.result (ap (λ o. hides o (expr_tree c.args.n.now.arg.value)) c.in-Plus.is) c.operand-in-Plus.ensures

pub returns-in-Bang : goal.returns-in-Bang
returns-in-Bang c = opens_operand c.args.n.now c.operand-in-Bang.result (ap (λ o. hides o (expr_tree c.args.n.now.arg.value)) c.in-Bang.is) c.operand-in-Bang.ensures

pub returns-in-Tilde : goal.returns-in-Tilde
returns-in-Tilde c = opens_operand c.args.n.now c.operand-in-Tilde.result (ap (λ o. hides o (expr_tree c.args.n.now.arg.value)) c.in-Tilde.is) c.operand-in-Tilde.ensures

pub returns-in-Void : goal.returns-in-Void
returns-in-Void c = opens_operand c.args.n.now c.operand-in-Void.result (ap (λ o. hides o (expr_tree c.args.n.now.arg.value)) c.in-Void.is) c.operand-in-Void.ensures

pub returns-in-Delete : goal.returns-in-Delete
returns-in-Delete c = opens_operand c.args.n.now c.operand-in-Delete.result (ap (λ o. hides o (expr_tree c.args.n.now.arg.value)) c.in-Delete.is) c.operand-in-Delete.ensures
