-- Where the given expressions bind no name and are valid and in the core, so is what is put for them.
use Rattle.std.proofs.Common.{◌≡◌, ℕ, arith, Bool, true, false, if◌then◌else◌, ◌==◌, inl, inr, List, [], ◌∷◌, Option, Some, None, is_some, slice_get, refl, ap, subst}
use Rattle.std.proofs.lemmas.Bool.{false≢true}
use Rattle.std.proofs.lemmas.Bool.Decides.{eqb_tells}
use Rattle.swc_ast.specs.declared.Span.{Span}
use Rattle.swc_ast.specs.Resolved.{own_scopes, below}
use Rattle.swc_ast.specs.Expressions.{unary_node}
use Rattle.swc_ast.specs.Tree.{Text, Label, StrLit, Read, TypeOfName, Dot, Index, CallEval, CallDot, CallIndex, Shorthand, Unary, Seq, Import, Tree, node, Forest, ε, ◌⊳◌, label_of}
use Rattle.swc_ast.specs.declared.UnaryOp.TheVariants.{Minus, Plus, Bang, Tilde, Void, TypeOf, Delete}
use Rattle.swc_pass.specs.Given.{Found, nothing, a_value, a_plain, Answers, or_invalid, value_at}
use Rattle.tree_put.specs.declared.rules.Spot.{Spot}
use Rattle.swc_ast.specs.Labels.{is_expression}
use Rattle.static_proofs.proofs.Kept.{walk_keeps}
use Rattle.given_shield.specs.Shield.{is_bare, guarded, shield}
use Rattle.given_rules.specs.Put.{here, callee, operand, Puts, or_parts, called, of_type, first_spot, around, put, put_all}
use Rattle.given_rules.specs.Worked.{Finals, Finished, final, has_final, finished, shielded, put_found, put_text, put_expression, puts, Worked, none_worked, one_worked}
use Rattle.given_rules.specs.Givable.{IsGivable, AllGivable}
use Rattle.given_rules.proofs.Kept.{PutsGivable, did_keeps, both_true, put_walks}

text_givable : (ss : List Span) (t : Text) → IsGivable (node (StrLit t) ss ε)
unfolding own_scopes
text_givable ss t = record { expression = refl; binds_none = λ x. refl; is_valid = refl; in_core = refl; jumps = λ g. refl; stands_apart = refl }

-- `(0, t)`
guarded_givable : (t : Tree) → IsGivable t → IsGivable (guarded t)
unfolding own_scopes
guarded_givable t g = record {
  expression = refl;
  binds_none = λ x. omega (arith, g.binds_none x);
  is_valid = both_true g.is_valid refl;
  in_core = both_true g.in_core refl;
  jumps = λ j. both_true (g.jumps (below Seq j)) refl;
  stands_apart = both_true g.stands_apart refl;
}

shield_givable : (p : Spot) (t : Tree) → IsGivable t → IsGivable (shield p t)
shield_givable p t g = by (is_bare p t)
  where
    by : (b : Bool) → IsGivable (if b then guarded t else t)
    by true = guarded_givable t g
    by false = g

module _ {a : Answers} (g : AllGivable a) where
  -- values that are walked may be put
  abbrev Ready : Finished → Type 0
  Ready h = (i : ℕ) (v : Tree) → h i ≡ Some v → IsGivable v

  module _ (h : Finished) (ready : Ready h) where
    some_givable : (p : Spot) (o : Option Tree) (v : Tree) → ((w : Tree) → o ≡ Some w → IsGivable w) → shielded a shield p o ≡ Some v → IsGivable v
    some_givable p None v f e = cc
    some_givable p (Some w) v f e = subst IsGivable (some_same e) (shield_givable p w (f w refl))
      where
        some_same : {v w : Tree} → Some v ≡ Some w → v ≡ w
        some_same e = cc

    found_givable : (p : Spot) (t : Tree) (f : Found) (v : Tree) → a.found t ≡ f → put_found a shield h p f ≡ Some v → IsGivable v
    found_givable p t nothing v q e = cc
    found_givable p t (a_value i) v q e = some_givable p (h i) v (λ w r. ready i w r) e
    found_givable p t (a_plain u) v q e = some_givable p (Some u) v (λ w r. subst IsGivable (some_same r) (g.plain_ones t u q)) e
      where
        some_same : {v w : Tree} → Some v ≡ Some w → v ≡ w
        some_same e = cc

    typed_givable : (f : Found) (t : Option Text) (ss : List Span) (v : Tree) → put_text a shield f t ss ≡ Some v → IsGivable v
    typed_givable nothing None ss v e = cc
    typed_givable nothing (Some t) ss v e = subst IsGivable (some_same e) (text_givable _ t)
      where
        some_same : {v w : Tree} → Some v ≡ Some w → v ≡ w
        some_same e = cc
    typed_givable (a_value i) t ss v e = cc
    typed_givable (a_plain u) t ss v e = cc

    pub puts_givable : PutsGivable (puts a shield h)
    puts_givable = record { expressions = expressions; properties = λ x v e. found_givable here (node (Read x) [] ε) (a.found (node (Read x) [] ε)) v refl e }
      where
        expressions : (p : Spot) (l : Label) (ss : List Span) (cs : Forest) (v : Tree) → put_expression a shield h p (node l ss cs) ≡ Some v → (is_expression l ≡ true) × IsGivable v
        expressions p (Read x) ss cs v e = (refl, found_givable p (node (Read x) ss cs) (a.found (node (Read x) ss cs)) v refl e)
        expressions p (Dot k) ss cs v e = (refl, found_givable p (node (Dot k) ss cs) (a.found (node (Dot k) ss cs)) v refl e)
        expressions p Index ss cs v e = (refl, found_givable p (node Index ss cs) (a.found (node Index ss cs)) v refl e)
        expressions p (TypeOfName x) ss cs v e = (refl, typed_givable (a.found (node (Read x) [] ε)) (a.text x) ss v e)
        expressions p l ss cs v e = cc

-- an expression stays one, once something is put in its places

called_expression : (o : Option Tree) (ss : List Span) (us : Forest) (t : Tree) → is_expression (label_of t) ≡ true → is_expression (label_of (called o ss us t)) ≡ true
called_expression None ss us t e = e
called_expression (Some v) ss us t e = refl

type_expression : (o : Option Tree) (ss : List Span) (t : Tree) → is_expression (label_of t) ≡ true → is_expression (label_of (of_type o ss t)) ≡ true
unfolding unary_node
type_expression None ss t e = e
type_expression (Some v) [] t e = refl
type_expression (Some (node (Read x) rs cs)) (s ∷ ss) t e = refl
type_expression (Some (node l rs cs)) (s ∷ ss) t e = refl

around_expression : (X : Puts) (l : Label) (ss : List Span) (cs us : Forest) → is_expression l ≡ true → is_expression (label_of (around X l ss cs us)) ≡ true
around_expression X (CallDot m) ss ε us e = refl
around_expression X (CallDot m) ss (o ⊳ cs) ε e = refl
around_expression X (CallDot m) ss (o ⊳ cs) (u ⊳ us) e = called_expression (X.expression callee (node (Dot m) _ (o ⊳ ε))) ss us _ refl
around_expression X CallIndex ss ε us e = refl
around_expression X CallIndex ss (o ⊳ ε) us e = refl
around_expression X CallIndex ss (o ⊳ j ⊳ cs) ε e = refl
around_expression X CallIndex ss (o ⊳ j ⊳ cs) (u ⊳ ε) e = refl
around_expression X CallIndex ss (o ⊳ j ⊳ cs) (u ⊳ v ⊳ us) e = called_expression (X.expression callee (node Index _ (o ⊳ j ⊳ ε))) ss us _ refl
around_expression X (CallEval x) ss cs us e = called_expression (X.expression callee (node (Read x) _ ε)) ss us _ refl
around_expression X (TypeOfName x) ss cs us e = type_expression (X.expression operand (node (Read x) _ ε)) ss _ refl
around_expression X (Unary TypeOf) ss ε us e = refl
around_expression X (Unary TypeOf) ss (t ⊳ ε) us e = type_expression (X.expression operand t) ss _ refl
around_expression X (Unary TypeOf) ss (t ⊳ u ⊳ cs) us e = refl
around_expression X (Unary Minus) ss cs us e = refl
around_expression X (Unary Plus) ss cs us e = refl
around_expression X (Unary Bang) ss cs us e = refl
around_expression X (Unary Tilde) ss cs us e = refl
around_expression X (Unary Void) ss cs us e = refl
around_expression X (Unary Delete) ss cs us e = refl
around_expression X (Shorthand x) ss cs us e = absurd (false≢true e)
around_expression X (Import src) ss cs us e = absurd (false≢true e)
around_expression X l ss cs us e = e

put_is_expression : {X : Puts} → PutsGivable X → (p : Spot) (t : Tree) → is_expression (label_of t) ≡ true → is_expression (label_of (put X p t)) ≡ true
unfolding put
put_is_expression {X} g p (node l ss cs) e = by (X.expression p (node l ss cs)) refl
  where
    by : (o : Option Tree) → X.expression p (node l ss cs) ≡ o → is_expression (label_of (or_parts o (around X l ss cs (put_all X (first_spot l) cs)))) ≡ true
    by None q = around_expression X l ss cs (put_all X (first_spot l) cs) e
    by (Some v) q = (g.expressions p l ss cs v q).1.expression

-- what may be put stays so
put_givable : {X : Puts} → PutsGivable X → (p : Spot) (t : Tree) → IsGivable t → IsGivable (put X p t)
put_givable {X} g p t h =
    let k = walk_keeps did_keeps (put_walks g p t) in
    record {
      expression = put_is_expression g p t h.expression;
      binds_none = λ x. omega (arith, k.scopes_kept x, h.binds_none x);
      is_valid = k.valid_kept h.is_valid;
      in_core = k.fits_kept h.in_core;
      jumps = λ j. k.aimed_kept j (h.jumps j);
      stands_apart = k.apart_kept h.stands_apart;
    }

same_number : (i : ℕ) → (i == i) ≡ true
same_number i = elim (eqb_tells i i) [ inl e ↦ e.0 | inr e ↦ absurd (e.1 refl) ]

-- a value that is there
there_givable : {a : Answers} → AllGivable a → (i : ℕ) (o : Option Tree) → slice_get a.values i ≡ o → is_some o ≡ true → IsGivable (or_invalid o)
there_givable g i None e h = absurd (false≢true h)
there_givable g i (Some t) e h = g.values i t e

later_known : (i : ℕ) (u : Tree) (fs : Finals) (j : ℕ) → has_final fs j ≡ true → has_final ((i, u) ∷ fs) j ≡ true
later_known i u fs j h = by (i == j)
  where
    by : (b : Bool) → is_some (if b then Some u else final j fs) ≡ true
    by true = refl
    by false = h

-- what is put for the values that are there may be put
pub walked_givable : {a : Answers} → AllGivable a → (fs : Finals) → Worked a shield fs → ((i : ℕ) → has_final fs i ≡ true → is_some (slice_get a.values i) ≡ true) → (i : ℕ) (v : Tree) → finished fs i ≡ Some v → IsGivable v
walked_givable g [] none_worked known j v e = cc
walked_givable {a} g ((i, u) ∷ fs) (one_worked w c) known j v e =
    let before = λ (k : ℕ) (h : has_final fs k ≡ true). known k (later_known i u fs k h) in
    let here_known : is_some (slice_get a.values i) ≡ true = known i (ap (λ b. is_some (if b then Some u else final i fs)) (same_number i)) in
    by (i == j) e (λ q. walked_givable g fs w before j v q) (put_givable (puts_givable g (finished fs) (walked_givable g fs w before)) here (value_at a.values i) (there_givable g i (slice_get a.values i) refl here_known))
  where
    by : {u : Tree} (b : Bool) → (if b then Some u else final j fs) ≡ Some v → (final j fs ≡ Some v → IsGivable v) → IsGivable u → IsGivable v
    by true q f h = subst IsGivable (some_same q) h
      where
        some_same : {v w : Tree} → Some v ≡ Some w → v ≡ w
        some_same e = cc
    by false q f h = f q
