use Rattle.std.proofs.Common.{refl, ap, ◌∙◌}
use Rattle.swc_ast.proofs.Equations.{expr_tree-Lit}
use Rattle.swc_ast.specs.Views.{expr_tree}
use Rattle.swc_ast.specs.declared.expressions.Expr.TheVariants as in_expr
use Rattle.swc_ast.specs.declared.literals.Lit.{Lit}
use Rattle.swc_ast.specs.declared.literals.Lit.TheVariants as lit
use Rattle.shake_given.specs.Reads.{literal}
use Rattle.shake_given.proofs.Texts.{told}
use Rattle.shake_given.proofs.given.Given.set_env.Goals as goal

pub returns : goal.returns
returns c =
    let n : Lit = lit.Str (record { span = record { lo = 0; hi = 0 }; value = c.in_ok-from_str.field-0 }) in
    record {
      envs = told expr_tree c.args.self.now.names.envs c.insert.new.self c.in_ok-key.key (in_expr.Lit n) (literal c.args.text.now) c.args.key.now c.in_ok-key.ensures.ok (expr_tree-Lit n ∙ ap literal c.in_ok-from_str.ensures.ok) c.in_ok-insert.ensures.updates;
      exprs = refl;
      typeofs = refl;
      modules = refl;
    }
