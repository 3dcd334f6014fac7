-- What the walk makes of a module without imports of given modules.
use Rattle.std.proofs.Common.{◌≡◌, [], true, sym, ap, ◌∙◌}
use Rattle.swc_ast.specs.Tree.{Text, Tree, Forest}
use Rattle.swc_ast.specs.Views.{expr_tree}
use Rattle.swc_pass.specs.Constants.{constants}
use Rattle.swc_pass.specs.Given.{Answers}
use Rattle.tree_put.specs.Put as walk
use Rattle.tree_put.specs.Still.{still}
use Rattle.tree_put.specs.Walks.{Makes}
use Rattle.given_shield.specs.Shield.{shield}
use Rattle.given_rules.specs.Formed.{formed}
use Rattle.given_rules.specs.Put.{here, put}
use Rattle.given_rules.specs.Walk.{put_answer}
use Rattle.given_rules.specs.Worked.{Finished, finished, puts}
use Rattle.given_rules.proofs.ByWalk.{put_by_walk}
use Rattle.given_rules.proofs.Instances.{constants_spanless}
use Rattle.const_imports.specs.Locals.{locals}
use Rattle.const_imports.specs.Views.{is_given, constants_of, of_text, group_of}
use Rattle.const_imports.proofs.Constants.{table_constant, table_member}
use Rattle.const_pass.specs.Rules.{constant, member, answers, state}
use Rattle.const_pass.specs.declared.rules.Constants as rust
use Rattle.const_pass.proofs.Found.{same_answers}

module _ (r : rust.Constants) (items : Forest) (h : (x : Text) → group_of r.locals x ≡ of_text x (locals (is_given r.given.now) items)) where
  rules_answer : answers (constant r) (member r) ≡ constants (constants_of expr_tree r.given.now) items
  rules_answer = same_answers (constants_of expr_tree r.given.now) items (constant r) (member r) (table_constant expr_tree r.given.now r.locals items h) (table_member expr_tree r.given.now r.locals items h)

  pub walked : (t u : Tree) (s : Answers × Finished) → formed t ≡ true → Makes (still put_answer) t (state r) here u s → u ≡ put (puts (constants (constants_of expr_tree r.given.now) items) shield (finished [])) here t
  walked t u s f w =
      let k = constants_of expr_tree r.given.now in
      sym (ap (λ q. q.0) w.is) ∙ ap (λ a. (walk.put (still put_answer) t (a, finished []) here).0) rules_answer ∙ ap (λ q. q.0) (put_by_walk (constants k items) (constants_spanless k items) (finished []) t here f)
