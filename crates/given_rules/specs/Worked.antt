-- What is put for what is given: a value once what is met in it is put in its places, and other expressions as they are.
use Rattle.std.specs.Prelude.{ℕ, ◌≡◌, Bool, true, ◌==◌, if◌then◌else◌, List, [], ◌∷◌, Option, Some, None, is_some}
use Rattle.swc_ast.specs.declared.Span.{Span}
use Rattle.swc_ast.specs.Tree.{Text, StrLit, Read, TypeOfName, Dot, Index, Tree, node, ε}
use Rattle.swc_pass.specs.Given.{Found, nothing, a_value, a_plain, Answers, value_at}
use Rattle.given_rules.specs.Met.{met, covers}
use Rattle.tree_put.specs.declared.rules.Spot.{Spot}
use Rattle.given_rules.specs.Put.{here, Puts, front, put}

-- values by their numbers, with what is put for them
abbrev pub Finals : Type 0
Finals = List (ℕ × Tree)

abbrev pub final : ℕ → Finals → Option Tree
final i [] = None
final i (f ∷ fs) = if f.0 == i then Some f.1 else final i fs

abbrev pub has_final : Finals → ℕ → Bool
has_final fs i = is_some (final i fs)

-- what is put for the number of a value
abbrev pub Finished : Type 0
Finished = ℕ → Option Tree

abbrev pub finished : Finals → Finished
finished fs i = final i fs

module _ (a : Answers) (shield : Spot → Tree → Tree) where
  abbrev pub shielded : Spot → Option Tree → Option Tree
  shielded p None = None
  shielded p (Some t) = Some (shield p t)

  abbrev pub put_found : Finished → Spot → Found → Option Tree
  put_found h p nothing = None
  put_found h p (a_value i) = shielded p (h i)
  put_found h p (a_plain t) = Some (shield p t)

  -- `typeof` of a name for which nothing is given
  abbrev pub put_text : Found → Option Text → List Span → Option Tree
  put_text nothing (Some t) ss = Some (node (StrLit t) (front ss) ε)
  put_text f o ss = None

  abbrev pub put_expression : Finished → Spot → Tree → Option Tree
  put_expression h p (node (Read x) ss cs) = put_found h p (a.found (node (Read x) ss cs))
  put_expression h p (node (Dot k) ss cs) = put_found h p (a.found (node (Dot k) ss cs))
  put_expression h p (node Index ss cs) = put_found h p (a.found (node Index ss cs))
  put_expression h p (node (TypeOfName x) ss cs) = put_text (a.found (node (Read x) [] ε)) (a.text x) ss
  put_expression h p t = None

  abbrev pub puts : Finished → Puts
  puts h = record { expression = put_expression h; property = λ x. put_found h here (a.found (node (Read x) [] ε)) }

  -- Each value was walked with what is put for those that are met in it.
  pub data Worked : Finals → Type 0 where
    none_worked : Worked []
    one_worked : {i : ℕ} {fs : Finals} → Worked fs → covers (has_final fs) (met a (value_at a.values i)) ≡ true → Worked ((i, put (puts (finished fs)) here (value_at a.values i)) ∷ fs)
