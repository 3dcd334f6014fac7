use Rattle.std.proofs.Common.{◌≡◌, inl, inr, ap, subst, ◌∙◌}
use Rattle.swc_ast.specs.declared.VarDeclKind.TheVariants.{Var, Let, Const}
use Rattle.swc_ast.specs.Statements.{declarator_tree}
use Rattle.swc_ast.specs.Views.{expr_tree}
use Rattle.tree_visit.specs.Nodes.{node_tree}
use Rattle.carry_reads.specs.Declarations.{IsDeclared}
use Rattle.carry_reads.proofs.Walking.{call_steps}
use Rattle.carry_reads.proofs.reader.Reader.behind.Goals as goal

pub returns-in-Var : goal.returns-in-Var
returns-in-Var c =
    let n = c.in-One.n.now in
    let is : node_tree c.args.n ≡ declarator_tree expr_tree c.in-One.kind n = subst (λ d. IsDeclared d (node_tree c.args.n)) c.in-One.is c.declaration.ensures in
    call_steps c.settle.result c.args.self.now c.args.place c.args.tables.now c.settle.new.tables (node_tree c.args.n) (declarator_tree expr_tree Var n) (is ∙ ap (λ k. declarator_tree expr_tree k n) c.in-Var.is) c.settle.ensures

pub returns-in-Let : goal.returns-in-Let
returns-in-Let c =
    let n = c.in-One.n.now in
    let is : node_tree c.args.n ≡ declarator_tree expr_tree c.in-One.kind n = subst (λ d. IsDeclared d (node_tree c.args.n)) c.in-One.is c.declaration.ensures in
    elim c.in-Let.is [
      | inl e ↦ call_steps c.carry.result c.args.self.now c.args.place c.args.tables.now c.carry.new.tables (node_tree c.args.n) (declarator_tree expr_tree Let n) (is ∙ ap (λ k. declarator_tree expr_tree k n) e) c.carry.ensures
      | inr e ↦ call_steps c.carry.result c.args.self.now c.args.place c.args.tables.now c.carry.new.tables (node_tree c.args.n) (declarator_tree expr_tree Const n) (is ∙ ap (λ k. declarator_tree expr_tree k n) e) c.carry.ensures
    ]
