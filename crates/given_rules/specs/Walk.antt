-- What a pass answers to the walk that puts: first it gathers which values are met, and then it puts what is given.
use Rattle.std.specs.Prelude.{ℕ, List, [], ◌∷◌, ◌++◌, Option, Some, None}
use Rattle.swc_ast.specs.Tree.{Read, Dot, Index, Tree, node}
use Rattle.swc_pass.specs.Given.{Found, nothing, a_value, a_plain, Answers}
use Rattle.tree_put.specs.Puts as walk
use Rattle.tree_put.specs.Puts.{Answer, enter, stay, become}
use Rattle.tree_put.specs.declared.rules.Spot.{Spot}
use Rattle.given_shield.specs.Shield.{shield}
use Rattle.given_rules.specs.Worked.{Finished, put_expression}

abbrev pub answer : Option Tree → Answer
answer None = enter
answer (Some v) = become v

-- what is put for what is given, once its values are walked
abbrev pub put_answer : Answers × Finished → Spot → Tree → Answer
put_answer k p t = answer (put_expression k.0 shield k.1 p t)

-- what is given for an expression that is read
abbrev pub found_at : Answers → Tree → Found
found_at a (node (Read x) ss cs) = a.found (node (Read x) ss cs)
found_at a (node (Dot k) ss cs) = a.found (node (Dot k) ss cs)
found_at a (node Index ss cs) = a.found (node Index ss cs)
found_at a t = nothing

-- what is given stays, and the number of a value is told
abbrev pub gathered : Answers → Found → List ℕ → Answer × (Answers × List ℕ)
gathered a nothing is = (enter, (a, is))
gathered a (a_value i) is = (stay, (a, is ++ i ∷ []))
gathered a (a_plain t) is = (stay, (a, is))

abbrev pub gathering : walk.Puts (Answers × List ℕ)
gathering = record {
  expression = λ s p t. gathered s.0 (found_at s.0 t) s.1;
  opens = λ s l ts. s;
  closes = λ s. s;
  declares = λ s t. s;
  exports = λ s t. (t, s);
}
