-- What an answer of a pass says.
use Rattle.swc_ast.specs.Views.{expr_tree}
use Rattle.tree_put.specs.declared.rules.Put.{Put}
use Rattle.tree_put.specs.declared.rules.Put.TheVariants as in_put
use Rattle.tree_put.specs.Puts.{Answer, enter, stay, become}

abbrev pub answer_of : Put → Answer
answer_of in_put.Enter = enter
answer_of in_put.Stay = stay
answer_of (in_put.Become v) = become (expr_tree v)
