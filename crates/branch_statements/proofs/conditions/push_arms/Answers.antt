use Rattle.std.proofs.Common.{[], ◌∷◌, ◌++◌, ap, subst, ◌∙◌}
use Rattle.swc_ast.specs.Parts.{list_trees}
use Rattle.swc_ast.specs.Views.{stmt_tree}
use Rattle.swc_ast.specs.Tree.{ε, ◌⊳◌}
use Rattle.branch_parts.specs.Behind.{VarsBehind}
use Rattle.branch_statements.proofs.Turned.{alt_behind, cons_behind, lone_behind, none_behind}
use Rattle.branch_statements.proofs.conditions.push_arms.Goals.{in-Some+in_ok-push_vars, in_default}
use Rattle.branch_statements.proofs.conditions.push_arms.Goals as goal

pub returns-then-known : goal.returns-then-known
returns-then-known c =
    elim c.match-n.branch [
      | in-Some+in_ok-push_vars w ↦ cons_behind c.args.known c.args.n.now.cons.value c.args.n.now.alt c.args.out.now.items c.push.new.self.items w.in-Some.alt w.push_vars.new.out.items c.take_stmt.result c.if-known.true w.in-Some.is
          (subst (λ s. VarsBehind (stmt_tree s ⊳ ε) (list_trees stmt_tree c.args.out.now.items) (list_trees stmt_tree w.push_vars.new.out.items)) w.deref.ensures w.in_ok-push_vars.ensures)
          (c.in_ok-push.ensures.items ∙ ap (λ o. o.items ++ c.take_stmt.result ∷ []) w.out-is) (c.take_stmt.ensures ∙ ap stmt_tree c.deref_mut.ensures.value)
      | in_default w ↦ lone_behind c.args.known c.args.n.now.cons.value c.args.n.now.alt c.args.out.now.items c.push.new.self.items c.take_stmt.result c.if-known.true w.in_default.is
          (c.in_ok-push.ensures.items ∙ ap (λ o. o.items ++ c.take_stmt.result ∷ []) w.out-is) (c.take_stmt.ensures ∙ ap stmt_tree c.deref_mut.ensures.value)
    ]

pub returns-in_ok-push-2 : goal.returns-in_ok-push-2
returns-in_ok-push-2 c =
    alt_behind c.args.known c.args.n.now.cons.value c.args.n.now.alt c.args.out.now.items c.push-in-Some-alt.new.self.items c.in-Some-alt.alt c.push_vars-2.new.out.items c.take_stmt-in-Some-alt.result c.if-known.false c.in-Some-alt.is
    (subst (λ s. VarsBehind (stmt_tree s ⊳ ε) (list_trees stmt_tree c.args.out.now.items) (list_trees stmt_tree c.push_vars-2.new.out.items)) c.deref-2.ensures c.in_ok-push_vars-2.ensures)
    c.in_ok-push-2.ensures.items (c.take_stmt-in-Some-alt.ensures ∙ ap stmt_tree c.deref_mut-in-Some-alt.ensures.value)

pub returns-in_default-alt : goal.returns-in_default-alt
returns-in_default-alt c =
    none_behind c.args.known c.args.n.now.cons.value c.args.n.now.alt c.args.out.now.items c.push_vars-2.new.out.items c.if-known.false c.in_default-alt.is
    (subst (λ s. VarsBehind (stmt_tree s ⊳ ε) (list_trees stmt_tree c.args.out.now.items) (list_trees stmt_tree c.push_vars-2.new.out.items)) c.deref-2.ensures c.in_ok-push_vars-2.ensures)
