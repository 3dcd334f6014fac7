use Rattle.std.proofs.Common.{sym, ◌∙◌}
use Rattle.std.proofs.lemmas.Bool.{not-true}
use Rattle.swc_ast.specs.Parts.{ident_name}
use Rattle.expr_operators.proofs.Beside.{name_step, type_step}
use Rattle.expr_operators.proofs.names.beside_itself.Goals as goal

pub returns-then-is_same_name : goal.returns-then-is_same_name
returns-then-is_same_name c = name_step _ _ _ _ (ident_name c.in-Some-Some.a.now) (ident_name c.in-Some-Some.b.now) _ c.in-Some-Some.ensures c.in-Some-Some.ensures' (c.is_same_name.ensures c.if-is_same_name.true) (not-true _ (sym c.is_bound.ensures ∙ c.if-is_bound.true)) c.value_beside_itself.ensures

pub returns-then-is_same_name-2 : goal.returns-then-is_same_name-2
returns-then-is_same_name-2 c = type_step _ _ _ _ (ident_name c.in-Some-Some-2.a.now) (ident_name c.in-Some-Some-2.b.now) _ c.in-Some-Some-2.ensures c.in-Some-Some-2.ensures' (c.is_same_name-then-is_bound-2.ensures c.if-is_same_name-2.true) (not-true _ (sym c.is_bound-in-Some-Some-2.ensures ∙ c.if-is_bound-2.true)) c.text_beside_itself.ensures
