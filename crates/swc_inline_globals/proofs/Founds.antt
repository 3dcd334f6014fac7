-- What the walks ask of what is given.
use Rattle.std.proofs.Common.{◌≡◌, ℕ, true, false, List, [], ◌∷◌, Option, Some, None, Result, Ok, Err, IfOk, refl, sym, ap, ◌∙◌}
use Rattle.std.proofs.lemmas.Bool.{true≢false, false≢true}
use Rattle.swc_ast.specs.declared.Span.{Span}
use Rattle.swc_ast.specs.declared.UnaryOp.{UnaryOp}
use Rattle.swc_ast.specs.declared.UnaryOp.TheVariants.{Minus, Plus, Bang, Tilde, Void, TypeOf, Delete}
use Rattle.swc_ast.specs.declared.names.Ident.{Ident}
use Rattle.swc_ast.specs.Expressions.{unary_node}
use Rattle.swc_ast.specs.Parts.{ident_name, ident_tree}
use Rattle.tree_put.specs.Puts.{enter}
use Rattle.given_globals.specs.declared.found.Found as in_found
use Rattle.given_globals.specs.declared.found.Found.TheVariants as found
use Rattle.swc_inline_globals.specs.Slots.{types}
use Rattle.swc_inline_globals.proofs.Forms.{is_name, is_type}
use Rattle.swc_ast.specs.Tree.{Text, Read, TypeOfName, Dot, Index, Tree, node, ε}
use Rattle.swc_pass.specs.Given.{Found, nothing, a_value, a_plain}
use Rattle.tree_put.specs.declared.rules.Spot.{Spot}
use Rattle.given_shield.specs.Shield.{shield}
use Rattle.given_rules.specs.Walk.{answer, found_at, gathered}
use Rattle.given_rules.specs.Worked.{Finished, put_found, put_text, put_expression}
use Rattle.given_rules.proofs.Covered.{Spanless}
use Rattle.given_rules.proofs.Instances.{inlined_spanless}
use Rattle.given_shield.specs.Names.{mark_of}
use Rattle.given_globals.specs.Globals.{given_of, answers_of}
use Rattle.given_globals.specs.Rows.{found_of}
use Rattle.given_globals.specs.declared.settings.Settings.{Settings}
use Rattle.given_globals.proofs.Founds.{found_none}

-- what holds of an answer, through another
pub ok_map : {A E : Type 0} {P Q : A → Type 0} (r : Result A E) → ((x : A) → P x → Q x) → IfOk r P → IfOk r Q
ok_map (Ok x) f h = f x h
ok_map (Err e) f h = h

pub type_operator : (o : UnaryOp) → types o ≡ true → o ≡ TypeOf
type_operator TypeOf e = refl
type_operator Minus e = absurd (false≢true e)
type_operator Plus e = absurd (false≢true e)
type_operator Bang e = absurd (false≢true e)
type_operator Tilde e = absurd (false≢true e)
type_operator Void e = absurd (false≢true e)
type_operator Delete e = absurd (false≢true e)

module _ (s : Settings) where
  pub at_found : (t : Tree) → found_at (answers_of s) t ≡ (answers_of s).found t
  at_found (node (Read x) ss cs) = refl
  at_found (node (Dot k) ss cs) = refl
  at_found (node Index ss cs) = refl
  at_found (node l ss cs) = found_none s (node l ss cs) refl

  -- spans of a read don't matter
  pub given_spanless : Spanless (answers_of s)
  unfolding answers_of
  given_spanless = inlined_spanless (given_of s) (mark_of s.mark)

  -- what is put for an expression that is no `typeof` of a name
  pub put_read : (h : Finished) (p : Spot) (t : Tree) → is_type t ≡ false → put_found (answers_of s) shield h p ((answers_of s).found t) ≡ put_expression (answers_of s) shield h p t
  put_read h p (node (Read x) ss cs) e = refl
  put_read h p (node (Dot k) ss cs) e = refl
  put_read h p (node Index ss cs) e = refl
  put_read h p (node (TypeOfName x) ss cs) e = absurd (true≢false e)
  put_read h p (node l ss cs) e = ap (put_found (answers_of s) shield h p) (sym (found_none s (node l ss cs) refl))

  -- `typeof` and other operators

  pub other_enters : (h : Finished) (p : Spot) (o : UnaryOp) (m : Span) (t : Tree) → types o ≡ false → enter ≡ answer (put_expression (answers_of s) shield h p (unary_node o m t))
  unfolding unary_node
  other_enters h p TypeOf m t e = absurd (true≢false e)
  other_enters h p Minus m t e = refl
  other_enters h p Plus m t e = refl
  other_enters h p Bang m t e = refl
  other_enters h p Tilde m t e = refl
  other_enters h p Void m t e = refl
  other_enters h p Delete m t e = refl

  pub type_enters : (h : Finished) (p : Spot) (m : Span) (t : Tree) → is_name t ≡ false → enter ≡ answer (put_expression (answers_of s) shield h p (unary_node TypeOf m t))
  unfolding unary_node
  type_enters h p m (node (Read x) ss cs) e = absurd (true≢false e)
  type_enters h p m (node l ss cs) e = refl

  -- `typeof` of a name
  pub type_put : (h : Finished) (p : Spot) (m : Span) (x : Ident) → put_text (answers_of s) shield ((answers_of s).found (ident_tree x)) ((answers_of s).text (ident_name x)) (m ∷ []) ≡ put_expression (answers_of s) shield h p (unary_node TypeOf m (ident_tree x))
  unfolding unary_node
  type_put h p m x = ap (λ f. put_text (answers_of s) shield f ((answers_of s).text (ident_name x)) (m ∷ [])) (given_spanless.root (Read (ident_name x)) (x.span ∷ []) ε) ∙ front_only ((answers_of s).found (node (Read (ident_name x)) [] ε)) ((answers_of s).text (ident_name x)) (x.span ∷ [])
    where
      front_only : (f : Found) (o : Option Text) (ss : List Span) → put_text (answers_of s) shield f o (m ∷ []) ≡ put_text (answers_of s) shield f o (m ∷ ss)
      front_only nothing None ss = refl
      front_only nothing (Some t) ss = refl
      front_only (a_value i) o ss = refl
      front_only (a_plain t) o ss = refl

  pub type_given : (f : in_found.Found) (o : Option Text) (ss : List Span) → (f ≡ found.Nothing → ⊥) → enter ≡ answer (put_text (answers_of s) shield (found_of f) o ss)
  type_given found.Nothing o ss n = absurd (n refl)
  type_given (found.Value i) o ss n = refl
  type_given (found.Plain e) o ss n = refl

  -- what is gathered of an expression, by what is found for it
  pub gathered_found : (t : Tree) (f : Found) (is : List ℕ) → f ≡ (answers_of s).found t → gathered (answers_of s) (found_at (answers_of s) t) is ≡ gathered (answers_of s) f is
  gathered_found t f is e = ap (λ g. gathered (answers_of s) g is) (at_found t ∙ sym e)
