-- What the rules put is what is put for what is given.
use Rattle.std.proofs.Common.{◌≡◌, List, [], Option, Some, None, option_map, refl, sym, ap, ap₂, ◌∙◌}
use mathlib.Core.Path.{fun_ext}
use Rattle.swc_ast.specs.declared.Span.{Span}
use Rattle.swc_ast.specs.Tree.{Text, Name, StrLit, Read, TypeOfName, Dot, Index, Tree, node, Forest, ε, ◌⊳◌}
use Rattle.swc_pass.specs.Constants.{constant_at, constants}
use Rattle.swc_pass.specs.Constants as given
use Rattle.swc_pass.specs.Given.{Found, nothing, a_value, a_plain, Answers}
use Rattle.swc_pass.specs.Inlined.{by_plain}
use Rattle.tree_put.specs.declared.rules.Spot.{Spot}
use Rattle.given_shield.specs.Shield.{shield}
use Rattle.tree_put.specs.Answers.{answer_of}
use Rattle.tree_put.specs.Puts.{Answer}
use Rattle.tree_put.specs.declared.rules.Put.{Put}
use Rattle.given_rules.specs.Walk.{answer, put_answer}
use Rattle.given_rules.specs.Worked.{Finished, finished, put_found, put_text, put_expression}
use Rattle.const_pass.specs.Rules.{name_read, member_of, value_at, answers, constant, member, value, state}
use Rattle.const_pass.specs.declared.rules.Constants.{Constants}

module _ (c : Name → Option Tree) (m : Name → Text → Option Tree) where
  abbrev A : Answers
  A = answers c m

  plain_put : (h : Finished) (p : Spot) (o : Option Tree) → put_found A shield h p (by_plain o) ≡ option_map (shield p) o
  plain_put h p None = refl
  plain_put h p (Some t) = refl

  no_text : (f : Found) (ss : List Span) → put_text A shield f None ss ≡ None
  no_text nothing ss = refl
  no_text (a_value i) ss = refl
  no_text (a_plain t) ss = refl

  pub put_value : (h : Finished) (p : Spot) (t : Tree) → put_expression A shield h p t ≡ option_map (shield p) (value_at c m t)
  put_value h p (node (Read x) ss cs) = plain_put h p (c x)
  put_value h p (node (Dot k) ss cs) = plain_put h p (value_at c m (node (Dot k) ss cs))
  put_value h p (node Index ss cs) = plain_put h p (value_at c m (node Index ss cs))
  put_value h p (node (TypeOfName x) ss cs) = no_text (A.found (node (Read x) [] ε)) ss
  put_value h p (node l ss cs) = refl

-- the answers of a module

module _ (k : given.Constants) (items : Forest) where
  dot_same : (o : Tree) (n : Text) → member_of (given.constant k items) (given.member k items) (name_read o) (Some n) ≡ given.member_of k items o n
  dot_same (node (Read x) ss cs) n = refl
  dot_same (node l ss cs) n = refl

  no_text_read : (o : Option Name) → member_of (given.constant k items) (given.member k items) o None ≡ None
  no_text_read None = refl
  no_text_read (Some x) = refl

  value_same : (t : Tree) → value_at (given.constant k items) (given.member k items) t ≡ constant_at k items t
  value_same (node (Read x) ss cs) = refl
  value_same (node (Dot n) ss ε) = refl
  value_same (node (Dot n) ss (o ⊳ ε)) = dot_same o n
  value_same (node (Dot n) ss (o ⊳ p ⊳ ts)) = refl
  value_same (node Index ss ε) = refl
  value_same (node Index ss (o ⊳ ε)) = refl
  value_same (node Index ss (o ⊳ node (StrLit n) rs ds ⊳ ε)) = dot_same o n
  value_same (node Index ss (o ⊳ node l rs ds ⊳ ε)) = no_text_read (name_read o)
  value_same (node Index ss (o ⊳ node (StrLit n) rs ds ⊳ p ⊳ ts)) = refl
  value_same (node Index ss (o ⊳ node l rs ds ⊳ p ⊳ ts)) = refl
  value_same (node l ss cs) = refl

  abbrev with_found : (Tree → Found) → Answers
  with_found f = record { found = f; text = λ x. None; values = [] }

  pub same_answers : (c : Name → Option Tree) (m : Name → Text → Option Tree) → ((x : Name) → c x ≡ given.constant k items x) → ((x : Name) (n : Text) → m x n ≡ given.member k items x n) → answers c m ≡ constants k items
  same_answers c m e f = ap₂ answers (fun_ext e) (fun_ext (λ x. fun_ext (f x))) ∙ ap with_found (fun_ext (λ t. ap by_plain (value_same t)))

-- what the rules answer to the walk

abbrev with_state : Constants → Answer → Answer × (Answers × Finished)
with_state r b = (b, state r)

pub answers_walk : (r : Constants) (p : Spot) (t : Tree) (a : Put) (o : Option Tree) → answer_of a ≡ answer (option_map (shield p) o) → o ≡ value r t → ◌≡◌ {A = Answer × (Answers × Finished)} (put_answer (state r) p t, state r) (answer_of a, state r)
answers_walk r p t a o e h = ap (with_state r) (ap answer (put_value (constant r) (member r) (finished []) p t ∙ ap (option_map (shield p)) (sym h)) ∙ sym e)
