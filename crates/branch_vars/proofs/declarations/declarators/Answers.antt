use Rattle.std.proofs.Common.{sym, ap, ◌∙◌}
use Rattle.swc_ast.specs.Parts.{ident_name, list_trees}
use Rattle.swc_ast.specs.Scope.{joined}
use Rattle.swc_ast.specs.Statements.{declarator_tree}
use Rattle.swc_ast.specs.Tree.{ε, ◌⊳◌}
use Rattle.swc_ast.specs.Views.{expr_tree}
use Rattle.swc_ast.specs.declared.VarDeclKind.TheVariants.{Var}
use Rattle.swc_utils.proofs.Chains.{pushed}
use Rattle.branch_vars.specs.Names.{names_of}
use Rattle.branch_vars.proofs.Once.{named, to_declare, seen_on, new_on, not_true, not_false, first_left, all_done}
use Rattle.branch_vars.proofs.declarations.declarators.Goals as goal

pub loop-left-preserved-in_ok-push : goal.loop-left-preserved-in_ok-push
loop-left-preserved-in_ok-push c =
    let n = c.name-item.result in
    let i = c.in_ok-to_id.field-0 in
    let ks = c.loop-left.seen.keys in
    let trees = list_trees (declarator_tree expr_tree Var) in
    let d = trees c.loop-left.decls.items in
    new_on ks c.insert.new.self.keys i (ident_name n.now) _ d _ _
    (named i n.now c.in_ok-to_id.ensures.text c.in_ok-to_id.ensures.context)
    c.in_ok-insert.ensures.keys
    (not_true _ (sym c.in_ok-insert.ensures.added ∙ c.if-branch.true))
    (ap trees c.in_ok-push.ensures.items ∙ pushed (declarator_tree expr_tree Var) c.loop-left.decls.items c.in_ok-declarator.field-0 ∙ ap (λ t. joined d (t ⊳ ε)) c.in_ok-declarator.ensures)
    (ap (λ l. joined d (to_declare ks (names_of l))) (sym (first_left c.loop-left.left.now n c.in-len1-up.len_at_least c.name-item.is)) ∙ c.loop-left.invariant)

pub loop-left-preserved : goal.loop-left-preserved
loop-left-preserved c =
    let n = c.name-item.result in
    let i = c.in_ok-to_id.field-0 in
    let ks = c.loop-left.seen.keys in
    let d = list_trees (declarator_tree expr_tree Var) c.loop-left.decls.items in
    seen_on ks c.insert.new.self.keys i (ident_name n.now) _ d _
    (named i n.now c.in_ok-to_id.ensures.text c.in_ok-to_id.ensures.context)
    c.in_ok-insert.ensures.keys
    (not_false _ (sym c.in_ok-insert.ensures.added ∙ c.if-branch.false))
    (ap (λ l. joined d (to_declare ks (names_of l))) (sym (first_left c.loop-left.left.now n c.in-len1-up.len_at_least c.name-item.is)) ∙ c.loop-left.invariant)

pub returns : goal.returns
returns c = all_done c.loop-left.seen.keys c.loop-left.left.now _ _ c.in_default.len_below c.loop-left.invariant
