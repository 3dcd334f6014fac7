use Rattle.std.proofs.Common.{[], ◌∷◌, refl, sym, ap, ◌∙◌}
use Rattle.swc_ast.specs.Tree.{label_of, children_of}
use Rattle.swc_ast.specs.Views.{expr_tree}
use Rattle.tree_visit.specs.Kinds.{kind_label}
use Rattle.tree_visit.specs.Nodes.{children_forest}
use Rattle.carry_parts.specs.Carries.{pass_of, is_read_tree}
use Rattle.carry_reads.specs.States.{state_of}
use Rattle.carry_reads.proofs.Initialising.{other_init}
use Rattle.carry_reads.proofs.reader.Reader.initial.Goals as goal

pub returns-in-None : goal.returns-in-None
returns-in-None c =
    let r = c.args.self.now in let n = c.args.n.now in
    c.leaf.ensures ∙ other_init (pass_of r.pass) (state_of r c.args.tables.now c.args.place) (n.span ∷ n.name.span ∷ []) n.init c.in-Some.init (kind_label c.open_expr-opened.result.kind) (children_forest c.open_expr-opened.result.children) c.in-Some.is
    (ap (λ e. is_read_tree (expr_tree e)) (sym c.deref.ensures) ∙ c.in-None.ensures.other refl)
    (ap (λ e. label_of (expr_tree e)) (sym c.deref-in-None.ensures) ∙ c.open_expr-opened.ensures.0)
    (ap (λ e. children_of (expr_tree e)) (sym c.deref-in-None.ensures) ∙ c.open_expr-opened.ensures.1)
