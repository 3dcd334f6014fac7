-- What is known of an expression's truth, number and text holds of each value that it gives.
use Rattle.std.proofs.Common.{◌≡◌, ℕ, zero, suc, ℤ, pos, negsuc, Bool, true, false, not, ◌&&◌, ◌||◌, if◌then◌else◌, List, [], ◌∷◌, ◌++◌, Option, Some, None, refl, sym, ap, ap₂, subst, ◌∙◌, IfSome, nat_le, nat_abs}
use Rattle.std.proofs.lemmas.Bool.{false≢true, not-true, not-false}
use Rattle.std.proofs.lemmas.Option.{none-some, same_Some}
use Rattle.swc_ast.specs.declared.UnaryOp.{UnaryOp}
use Rattle.swc_ast.specs.declared.UnaryOp.TheVariants.{Minus, Bang, Void, Delete}
use Rattle.swc_ast.specs.declared.BinaryOp.{BinaryOp}
use Rattle.swc_ast.specs.declared.BinaryOp.TheVariants.{LogicalOr, LogicalAnd}
use Rattle.swc_ast.specs.declared.AssignOp.TheVariants.{Assign as PlainAssign}
use Rattle.swc_ast.specs.declared.Span.{Span}
use Rattle.swc_ast.specs.Tree.{Name, Label, NumLit, StrLit, BoolLit, NullLit, Read, Template, Array, Object, Seq, Fn, Arrow, Unary, Binary, Assign, AssignDot, AssignIndex, Tree, node, Forest, ε, ◌⊳◌}
use Rattle.swc_ast.specs.Value.{Value, Undefined, NaN, Truth, Num, Text, Reads, Writes, Sets, Cell, Run, Context, Meaning}
use Rattle.swc_ast.specs.Meaning.{◌>>=◌, gives, leaves, in_core, ask, hand, throws_type_error, read, read_bound, cell_at, is_initialised, write_cell, write_bound, write, put, put_at, token_text, is_unresolved, Caller, shape0, in_turn, operate, assign, template_text, act, eval, evals}
use Rattle.swc_ast.specs.Operators.{truthy, to_text, to_number, Numeric, NotANumber, Whole, number_value, unary_value, negated, on_number, core_number, greatest, is_nullish}
use Rattle.swc_utils.specs.Pure.{no_trees, pure, pure_all}
use Rattle.swc_utils.specs.Known.{literal, unary_known, of_value, minus, unary_number, unary_truth, or_truth, and_truth, binary_truth, is_filled, some_filled, template_truth, joined_texts, template_known, truth, last_truth, number, text}
use Rattle.swc_utils.proofs.Ends.{yields_then, yields_gives, yields_leaves, yields_in_core, yields_if, yields_map, yields_same, yields_shortened, any}
use Rattle.swc_utils.specs.Holds.{Is, HasTruth, HasNumber, HasText, Yields}

pub yields0 : {f : Meaning} {P : Value → Type 0} (ms : List Meaning) → ((c : Context) → Yields P (f c)) → (c : Context) → Yields P (shape0 f ms c)
yields0 [] h c = h c
yields0 (m ∷ ms) h c = yields_leaves

pub yields_throw : {A : Type 0} {P : A → Type 0} → Yields P throws_type_error
yields_throw = record { by = λ s. tt }

-- writes give the value that is written

written_cell : (x : Name) (k : ℕ) (v : Value) (o : Option Cell) → Yields (Is v) (write_cell x k v o)
written_cell x k v None = yields_leaves
written_cell x k v (Some cell) = yields_if (cell.writable && is_initialised cell.held) (record { by = λ s. refl }) yields_leaves

written_bound : (x : Name) (v : Value) (o : Option ℕ) → Yields (Is v) (write_bound x v o)
written_bound x v None = yields_leaves
written_bound x v (Some k) = record { by = λ s. (written_cell x k v (cell_at s x k)).by s }

pub written : (mark : ℕ) (x : Name) (v : Value) (c : Context) → Yields (Is v) (write mark x v c)
unfolding write
written mark x v c = yields_if (is_unresolved mark x) (yields_if _ yields_leaves (yields_then (any (hand v)) (λ w _. yields_then (any (ask (Writes x.text w))) (λ r _. yields_gives v refl)))) (written_bound x v (c.env x))

pub put_gives : (o : Value) (k : List ℕ) (v : Value) → Yields (Is v) (put o k v)
unfolding put
put_gives o k v = yields_if (token_text o) (yields_then (any (hand v)) (λ w _. yields_then (any (ask (Sets o k w))) (λ r _. yields_gives v refl))) (yields_if (is_nullish o) yields_throw yields_leaves)

pub put_at_gives : (o k : Value) (v : Value) → Yields (Is v) (put_at o k v)
unfolding put_at
put_at_gives o k v = yields_if (is_nullish o) yields_throw (yields_then (any (in_core (to_text k))) (λ t _. put_gives o t v))

-- literals

constant_read : (host m : Run Value) (u a b g : Bool) (w : Value) → (if u then (if a then Some Undefined else (if b then Some NaN else None)) else None) ≡ Some w → Yields (Is w) (if u then (if a then gives Undefined else (if b then gives NaN else (if g then leaves else host))) else m)
constant_read host m false a b g w h = absurd (none-some w h)
constant_read host m true true b g w h = yields_gives _ (same_Some _ _ h)
constant_read host m true false true g w h = yields_gives _ (same_Some _ _ h)
constant_read host m true false false g w h = absurd (none-some w h)

pub of_value_some : {A : Type 0} (f : Value → Option A) (o : Option Value) (a : A) → of_value f o ≡ Some a → (w : Value) × (o ≡ Some w) × (f w ≡ Some a)
of_value_some f None a h = absurd (none-some a h)
of_value_some f (Some w) a h = (w, refl, h)

unary_known_gives : (op : UnaryOp) (is_pure : Bool) (known : Option Bool) (w : Value) (m : Run Value) → unary_known op is_pure known ≡ Some w → ((b : Bool) → known ≡ Some b → Yields (λ v. truthy v ≡ b) m) → Yields (Is w) (m >>= λ v. in_core (unary_value op v))
unfolding unary_value
unary_known_gives Void true known w m h hm = yields_then (any m) (λ v _. yields_gives _ (same_Some _ _ h))
unary_known_gives Bang true (Some b) w m h hm = yields_then (hm b refl) (λ v e. yields_gives _ (ap (λ x. Truth (not x)) e ∙ same_Some _ _ h))
unary_known_gives _ _ _ w m h hm = absurd (none-some w h)

-- operators

if_some : {A : Type 0} (P : A → Type 0) (b : Bool) (a : A) → P a → IfSome (if b then Some a else None) P
if_some P true a p = p
if_some P false a p = tt

-- a number, unless it lies outside the core
pub core_some : (P : Value → Type 0) (z : ℤ) → P (Num z) → IfSome (core_number z) P
core_some P z p = if_some P (nat_le (nat_abs z) greatest) (Num z) p

-- the operator on the number of a value
on_known_number : {P : Value → Type 0} (f : Numeric → Option Value) (k : Numeric) (m : Run Value) → Yields (HasNumber k) m → IfSome (f k) P → Yields P (m >>= λ v. in_core (on_number f (to_number v)))
on_known_number {P} f k m hm h = yields_then hm (λ v e. subst (λ o. Yields P (in_core (on_number f o))) (sym e) (yields_in_core (f k) h))

negated_truth : (k : Numeric) → IfSome (negated k) (HasTruth (truthy (number_value k)))
negated_truth NotANumber = refl
negated_truth (Whole (pos zero)) = tt
negated_truth (Whole (pos (suc i))) = core_some (HasTruth true) (negsuc i) refl
negated_truth (Whole (negsuc i)) = core_some (HasTruth true) (pos (suc i)) refl

unary_truth_holds : (op : UnaryOp) (t : Option Bool) (k : Option Numeric) (b : Bool) (m : Run Value) → unary_truth op t k ≡ Some b → ((x : Bool) → t ≡ Some x → Yields (HasTruth x) m) → ((x : Numeric) → k ≡ Some x → Yields (HasNumber x) m) → Yields (HasTruth b) (m >>= λ v. in_core (unary_value op v))
unfolding unary_value
unary_truth_holds Void t k b m h ht hk = yields_then (any m) (λ v _. yields_gives _ (same_Some _ _ h))
unary_truth_holds Bang (Some x) k b m h ht hk = yields_then (ht x refl) (λ v e. yields_gives _ (ap not e ∙ same_Some _ _ h))
unary_truth_holds Minus t (Some x) b m h ht hk = yields_map (on_known_number negated x m (hk x refl) (negated_truth x)) (λ v e. e ∙ same_Some _ _ h)
unary_truth_holds _ _ _ b m h ht hk = absurd (none-some b h)

-- a number is in the core as a value where it is as a number
whole_number : (in_range : Bool) (z : ℤ) (x : Numeric) → (if in_range then Some (Whole z) else None) ≡ Some x → IfSome (if in_range then Some (Num z) else None) (HasNumber x)
whole_number true z x h = h
whole_number false z x h = tt

minus_number : (k : Numeric) (x : Numeric) → minus (Some k) ≡ Some x → IfSome (negated k) (HasNumber x)
minus_number NotANumber x h = h
minus_number (Whole (pos zero)) x h = tt
minus_number (Whole (pos (suc i))) x h = whole_number _ (negsuc i) x h
minus_number (Whole (negsuc i)) x h = whole_number _ (pos (suc i)) x h

unary_value_holds : {A : Type 0} (f : Value → Option A) (op : UnaryOp) (is_pure : Bool) (t : Option Bool) (a : A) (m : Run Value) → of_value f (unary_known op is_pure t) ≡ Some a → ((b : Bool) → t ≡ Some b → Yields (HasTruth b) m) → Yields (λ v. f v ≡ Some a) (m >>= λ v. in_core (unary_value op v))
unary_value_holds f op is_pure t a m h ht = let w = of_value_some f (unary_known op is_pure t) a h in yields_map (unary_known_gives op is_pure t w.0 m w.1 ht) (λ v e. ap f e ∙ w.2)

unary_number_holds : (op : UnaryOp) (is_pure : Bool) (t : Option Bool) (k : Option Numeric) (x : Numeric) (m : Run Value) → unary_number op k (unary_known op is_pure t) ≡ Some x → ((b : Bool) → t ≡ Some b → Yields (HasTruth b) m) → ((y : Numeric) → k ≡ Some y → Yields (HasNumber y) m) → Yields (HasNumber x) (m >>= λ v. in_core (unary_value op v))
unfolding unary_value
unary_number_holds Minus is_pure t None x m h ht hk = absurd (none-some x h)
unary_number_holds Minus is_pure t (Some k) x m h ht hk = on_known_number negated k m (hk k refl) (minus_number k x h)
unary_number_holds op is_pure t k x m h ht hk = unary_value_holds to_number op is_pure t x m h ht

-- `||` and `&&`: what the left side's truth leaves of the answer
abbrev Knows : Option Bool → Value → Type 0
Knows o v = IfSome o (λ b. truthy v ≡ b)

knows : (o : Option Bool) (m : Run Value) → ((b : Bool) → o ≡ Some b → Yields (HasTruth b) m) → Yields (Knows o) m
knows None m h = any m
knows (Some b) m h = h b refl

or_left : (a b : Option Bool) (r : Bool) (v : Value) → Knows a v → or_truth a b ≡ Some r → truthy v ≡ true → truthy v ≡ r
or_left (Some true) b r v k h t = k ∙ same_Some _ _ h
or_left (Some false) b r v k h t = absurd (false≢true (sym k ∙ t))
or_left None (Some true) r v k h t = t ∙ same_Some _ _ h
or_left None (Some false) r v k h t = absurd (none-some r h)
or_left None None r v k h t = absurd (none-some r h)

or_right : (a b : Option Bool) (r : Bool) (v : Value) → Knows a v → or_truth a b ≡ Some r → truthy v ≡ false → b ≡ Some r
or_right (Some true) b r v k h t = absurd (false≢true (sym t ∙ k))
or_right (Some false) (Some true) r v k h t = h
or_right (Some false) (Some false) r v k h t = h
or_right None (Some true) r v k h t = h
or_right _ _ r v k h t = absurd (none-some r h)

and_left : (a b : Option Bool) (r : Bool) (v : Value) → Knows a v → and_truth a b ≡ Some r → truthy v ≡ false → truthy v ≡ r
and_left (Some false) b r v k h t = k ∙ same_Some _ _ h
and_left (Some true) b r v k h t = absurd (false≢true (sym t ∙ k))
and_left None (Some false) r v k h t = t ∙ same_Some _ _ h
and_left None (Some true) r v k h t = absurd (none-some r h)
and_left None None r v k h t = absurd (none-some r h)

and_right : (a b : Option Bool) (r : Bool) (v : Value) → Knows a v → and_truth a b ≡ Some r → truthy v ≡ true → b ≡ Some r
and_right (Some false) b r v k h t = absurd (false≢true (sym k ∙ t))
and_right (Some true) (Some true) r v k h t = h
and_right (Some true) (Some false) r v k h t = h
and_right None (Some false) r v k h t = h
and_right _ _ r v k h t = absurd (none-some r h)

binary_truth_holds : (op : BinaryOp) (a b : Option Bool) (r : Bool) (left right : Run Value) → binary_truth op a b ≡ Some r → ((x : Bool) → a ≡ Some x → Yields (HasTruth x) left) → ((x : Bool) → b ≡ Some x → Yields (HasTruth x) right) → Yields (HasTruth r) (left >>= λ v. operate op v right)
unfolding operate
binary_truth_holds LogicalOr a b r left right h ha hb = yields_then (knows a left ha) (λ v k. yields_shortened _ (truthy v) (λ t. yields_gives v (or_left a b r v k h t)) (λ t. hb r (or_right a b r v k h t)))
binary_truth_holds LogicalAnd a b r left right h ha hb = yields_then (knows a left ha) (λ v k. yields_shortened _ (not (truthy v)) (λ t. yields_gives v (and_left a b r v k h (not-true _ t))) (λ t. hb r (and_right a b r v k h (not-false _ t))))
binary_truth_holds _ a b r left right h ha hb = absurd (none-some r h)

-- templates

joined_parts : (i j : Option (List ℕ)) (s : List ℕ) → joined_texts i j ≡ Some s → (x y : List ℕ) × (i ≡ Some x) × (j ≡ Some y) × (x ++ y ≡ s)
joined_parts (Some x) (Some y) s h = (x, y, refl, refl, same_Some _ _ h)
joined_parts (Some x) None s h = absurd (none-some s h)
joined_parts None j s h = absurd (none-some s h)

filled_truth : (t : List ℕ) → truthy (Text t) ≡ is_filled t
filled_truth [] = refl
filled_truth (c ∷ cs) = refl

filled_left : (s t : List ℕ) → is_filled s ≡ true → is_filled (s ++ t) ≡ true
filled_left [] t h = absurd (false≢true h)
filled_left (c ∷ s) t h = refl

filled_right : (s t : List ℕ) → is_filled t ≡ true → is_filled (s ++ t) ≡ true
filled_right [] t h = h
filled_right (c ∷ s) t h = refl

abbrev Filled : Bool → List ℕ → Type 0
Filled b t = is_filled t ≡ b

module _ (mark n : ℕ) (call : Caller) where
  template_filled : (qs : List (List ℕ × Bool)) (ts : Forest) → some_filled qs ts ≡ true → (c : Context) → Yields (Filled true) (template_text qs (evals mark n call ts) c)
  unfolding template_text evals
  template_filled [] ts h c = absurd (false≢true h)
  template_filled (q ∷ []) ε h c = yields_gives q.0 h
  template_filled (q ∷ r ∷ qs) ε h c = yields_leaves
  template_filled (q ∷ qs) (t ⊳ ts) h c = by_first (is_filled q.0) refl h (λ i. template_filled qs ts i c)
    where
      by_first : (b : Bool) → is_filled q.0 ≡ b → (b || some_filled qs ts) ≡ true → (some_filled qs ts ≡ true → Yields (Filled true) (template_text qs (evals mark n call ts) c)) → Yields (Filled true) (eval mark n call t c >>= λ v. in_core (to_text v) >>= λ u. template_text qs (evals mark n call ts) c >>= λ rest. gives (q.0 ++ u ++ rest))
      by_first true e h' next = yields_then (any _) (λ v _. yields_then (any _) (λ u _. yields_then (any _) (λ rest _. yields_gives _ (filled_left (q.0 ++ u) rest (filled_left q.0 u e)))))
      by_first false e h' next = yields_then (any _) (λ v _. yields_then (any _) (λ u _. yields_then (next h') (λ rest f. yields_gives _ (filled_right (q.0 ++ u) rest f))))

  template_empty : (qs : List (List ℕ × Bool)) (ts : Forest) → some_filled qs ts ≡ false → no_trees ts ≡ true → (c : Context) → Yields (Filled false) (template_text qs (evals mark n call ts) c)
  unfolding template_text evals
  template_empty [] ε h i c = yields_leaves
  template_empty (q ∷ []) ε h i c = yields_gives q.0 h
  template_empty (q ∷ r ∷ qs) ε h i c = yields_leaves
  template_empty qs (t ⊳ ts) h i c = absurd (false≢true i)

  template_truth_holds : (qs : List (List ℕ × Bool)) (ts : Forest) (b : Bool) → template_truth qs ts ≡ Some b → (c : Context) → Yields (HasTruth b) (template_text qs (evals mark n call ts) c >>= λ t. gives (Text t))
  template_truth_holds qs ts b h c = by_filled (some_filled qs ts) (no_trees ts) refl refl h
    where
      by_filled : (f e : Bool) → some_filled qs ts ≡ f → no_trees ts ≡ e → (if f then Some true else (if e then Some false else None)) ≡ Some b → Yields (HasTruth b) (template_text qs (evals mark n call ts) c >>= λ t. gives (Text t))
      by_filled true e ef ee h' = yields_then (template_filled qs ts ef c) (λ t g. yields_gives _ (filled_truth t ∙ g ∙ same_Some _ _ h'))
      by_filled false true ef ee h' = yields_then (template_empty qs ts ef ee c) (λ t g. yields_gives _ (filled_truth t ∙ g ∙ same_Some _ _ h'))
      by_filled false false ef ee h' = absurd (none-some b h')

module _ (mark n : ℕ) (call : Caller) where
  pub literal_gives : (l : Label) (ss : List Span) (ts : Forest) (w : Value) → literal mark l ≡ Some w → (c : Context) → Yields (Is w) (eval mark n call (node l ss ts) c)
  unfolding eval act read
  literal_gives (Read x) ss ts w h c = yields0 (evals mark n call ts) (λ d. constant_read (ask (Reads x.text)) (read_bound x (d.env x)) (is_unresolved mark x) _ _ _ w h) _
  literal_gives (NumLit z) ss ts w h c = yields0 (evals mark n call ts) (λ d. yields_gives _ (same_Some _ _ h)) _
  literal_gives (StrLit t) ss ts w h c = yields0 (evals mark n call ts) (λ d. yields_gives _ (same_Some _ _ h)) _
  literal_gives (BoolLit b) ss ts w h c = yields0 (evals mark n call ts) (λ d. yields_gives _ (same_Some _ _ h)) _
  literal_gives NullLit ss ts w h c = yields0 (evals mark n call ts) (λ d. yields_gives _ (same_Some _ _ h)) _
  literal_gives _ ss ts w h c = absurd (none-some w h)

  -- what is known of a literal by its value
  pub literal_holds : {A : Type 0} (f : Value → Option A) (l : Label) (ss : List Span) (ts : Forest) (a : A) → of_value f (literal mark l) ≡ Some a → (c : Context) → Yields (λ v. f v ≡ Some a) (eval mark n call (node l ss ts) c)
  literal_holds f l ss ts a h c = let w = of_value_some f (literal mark l) a h in yields_map (literal_gives l ss ts w.0 w.1 c) (λ v e. ap f e ∙ w.2)

  mutual
    unfolding eval act assign in_turn

    pub truth_holds : (t : Tree) (b : Bool) → truth mark t ≡ Some b → (c : Context) → Yields (HasTruth b) (eval mark n call t c)
    truth_holds (node (Fn o) ss ts) b h c = yields_gives _ (same_Some _ _ h)
    truth_holds (node Arrow ss ts) b h c = yields_gives _ (same_Some _ _ h)
    truth_holds (node (Array ks) ss ts) b h c = yields_then (any _) (λ vs _. yields_gives _ (same_Some _ _ h))
    truth_holds (node Object ss ts) b h c = yields_then (any _) (λ fs _. yields_gives _ (same_Some _ _ h))
    truth_holds (node (Template qs) ss ts) b h c = template_truth_holds mark n call qs ts b h c
    truth_holds (node (Assign PlainAssign x) ss (r ⊳ ε)) b h c = yields_same (truth_holds r b h _) (λ v. written mark x v _)
    truth_holds (node (AssignDot PlainAssign k) ss (o ⊳ r ⊳ ε)) b h c = yields_then (any _) (λ v _. yields_same (truth_holds r b h _) (λ w. put_gives v k w))
    truth_holds (node (AssignIndex PlainAssign) ss (o ⊳ k ⊳ r ⊳ ε)) b h c = yields_then (any _) (λ v _. yields_then (any _) (λ w _. yields_same (truth_holds r b h _) (λ u. put_at_gives v w u)))
    truth_holds (node (Unary Delete) ss (a ⊳ ε)) b h c = yields_leaves
    truth_holds (node (Unary op) ss (a ⊳ ε)) b h c = unary_truth_holds op (truth mark a) (number mark a) b _ h (λ x e. truth_holds a x e _) (λ x e. number_holds a x e _)
    truth_holds (node (Binary op) ss (a ⊳ b ⊳ ε)) r h c = binary_truth_holds op (truth mark a) (truth mark b) r _ _ h (λ x e. truth_holds a x e _) (λ x e. truth_holds b x e _)
    truth_holds (node Seq ss ts) b h c = last_holds ts b h _
    truth_holds (node l ss ts) b h c = yields_map (literal_holds (λ v. Some (truthy v)) l ss ts b h c) (λ v e. same_Some _ _ e)

    last_holds : (ts : Forest) (b : Bool) → last_truth mark ts ≡ Some b → (c : Context) → Yields (HasTruth b) (in_turn (evals mark n call ts) c)
    last_holds ε b h c = absurd (none-some b h)
    last_holds (t ⊳ ε) b h c = truth_holds t b h c
    last_holds (t ⊳ u ⊳ ts) b h c = yields_then (any _) (λ v _. last_holds (u ⊳ ts) b h c)

    pub number_holds : (t : Tree) (k : Numeric) → number mark t ≡ Some k → (c : Context) → Yields (HasNumber k) (eval mark n call t c)
    number_holds (node (Unary Delete) ss (a ⊳ ε)) k h c = yields_leaves
    number_holds (node (Unary op) ss (a ⊳ ε)) k h c = unary_number_holds op (pure mark a) (truth mark a) (number mark a) k _ h (λ x e. truth_holds a x e _) (λ x e. number_holds a x e _)
    number_holds (node l ss ts) k h c = literal_holds to_number l ss ts k h c

  mutual
    unfolding eval act evals template_text

    pub text_holds : (t : Tree) (s : List ℕ) → text mark t ≡ Some s → (c : Context) → Yields (HasText s) (eval mark n call t c)
    text_holds (node (Unary Delete) ss (a ⊳ ε)) s h c = yields_leaves
    text_holds (node (Unary op) ss (a ⊳ ε)) s h c = unary_value_holds to_text op (pure mark a) (truth mark a) s _ h (λ x e. truth_holds a x e c)
    text_holds (node (Template qs) ss ts) s h c = yields_then (template_holds qs ts s h c) (λ t e. yields_gives _ (ap Some e))
    text_holds (node l ss ts) s h c = literal_holds to_text l ss ts s h c

    template_holds : (qs : List (List ℕ × Bool)) (ts : Forest) (s : List ℕ) → template_known mark qs ts ≡ Some s → (c : Context) → Yields (Is s) (template_text qs (evals mark n call ts) c)
    template_holds [] ts s h c = yields_leaves
    template_holds (q ∷ []) ε s h c = yields_gives q.0 (same_Some _ _ h)
    template_holds (q ∷ r ∷ qs) ε s h c = yields_leaves
    template_holds (q ∷ qs) (t ⊳ ts) s h c =
        let p = joined_parts (joined_texts (Some q.0) (text mark t)) (template_known mark qs ts) s h in
        let r = joined_parts (Some q.0) (text mark t) p.0 p.2 in
        yields_then (text_holds t r.1 r.3 c) (λ v e. subst (λ o. Yields (Is s) (in_core o >>= λ u. template_text qs (evals mark n call ts) c >>= λ rest. gives (q.0 ++ u ++ rest))) (sym e)
        (yields_then {P = Is r.1} (yields_gives r.1 refl) (λ u g. yields_then (template_holds qs ts p.1 p.3 c) (λ rest i. yields_gives _ (ap₂ ◌++◌ (ap₂ ◌++◌ (same_Some _ _ r.2) g ∙ r.4) i ∙ p.4)))))

-- what has a known number or text is pure

pub constant_pure : (u a b i : Bool) (w : Value) → (if u then (if a then Some Undefined else (if b then Some NaN else None)) else None) ≡ Some w → not (u && not (a || (b || i))) ≡ true
constant_pure false a b i w h = refl
constant_pure true true b i w h = refl
constant_pure true false true i w h = refl
constant_pure true false false i w h = absurd (none-some w h)

literal_pure : (mark : ℕ) (l : Label) (ss : List Span) (ts : Forest) (w : Value) → literal mark l ≡ Some w → pure mark (node l ss ts) ≡ true
literal_pure mark (Read x) ss ts w h = constant_pure (is_unresolved mark x) _ _ _ w h
literal_pure mark (NumLit z) ss ts w h = refl
literal_pure mark (StrLit t) ss ts w h = refl
literal_pure mark (BoolLit b) ss ts w h = refl
literal_pure mark NullLit ss ts w h = refl
literal_pure mark _ ss ts w h = absurd (none-some w h)

unary_pure : (op : UnaryOp) (is_pure : Bool) (t : Option Bool) (w : Value) → unary_known op is_pure t ≡ Some w → is_pure ≡ true
unary_pure Void true t w h = refl
unary_pure Bang true t w h = refl
unary_pure _ _ _ w h = absurd (none-some w h)

unary_number_pure : (op : UnaryOp) (is_pure : Bool) (t : Option Bool) (k : Option Numeric) (x : Numeric) → unary_number op k (unary_known op is_pure t) ≡ Some x → ((y : Numeric) → k ≡ Some y → is_pure ≡ true) → is_pure ≡ true
unary_number_pure Minus is_pure t None x h hk = absurd (none-some x h)
unary_number_pure Minus is_pure t (Some k) x h hk = hk k refl
unary_number_pure op is_pure t k x h hk = let w = of_value_some to_number (unary_known op is_pure t) x h in unary_pure op is_pure t w.0 w.1

pub number_pure : (mark : ℕ) (t : Tree) (k : Numeric) → number mark t ≡ Some k → pure mark t ≡ true
number_pure mark (node (Unary Delete) ss (a ⊳ ε)) k h = absurd (none-some k h)
number_pure mark (node (Unary op) ss (a ⊳ ε)) k h = ap (λ p. p && true) (unary_number_pure op (pure mark a) (truth mark a) (number mark a) k h (λ x e. number_pure mark a x e))
number_pure mark (node l ss ts) k h = let w = of_value_some to_number (literal mark l) k h in literal_pure mark l ss ts w.0 w.1

mutual
  pub text_pure : (mark : ℕ) (t : Tree) (s : List ℕ) → text mark t ≡ Some s → pure mark t ≡ true
  text_pure mark (node (Unary Delete) ss (a ⊳ ε)) s h = absurd (none-some s h)
  text_pure mark (node (Unary op) ss (a ⊳ ε)) s h = let w = of_value_some to_text (unary_known op (pure mark a) (truth mark a)) s h in ap (λ p. p && true) (unary_pure op (pure mark a) (truth mark a) w.0 w.1)
  text_pure mark (node (Template qs) ss ts) s h = template_pure mark qs ts s h
  text_pure mark (node l ss ts) s h = let w = of_value_some to_text (literal mark l) s h in literal_pure mark l ss ts w.0 w.1

  template_pure : (mark : ℕ) (qs : List (List ℕ × Bool)) (ts : Forest) (s : List ℕ) → template_known mark qs ts ≡ Some s → pure_all mark ts ≡ true
  template_pure mark qs ε s h = refl
  template_pure mark [] (t ⊳ ts) s h = absurd (none-some s h)
  template_pure mark (q ∷ qs) (t ⊳ ts) s h =
      let p = joined_parts (joined_texts (Some q.0) (text mark t)) (template_known mark qs ts) s h in
      let r = joined_parts (Some q.0) (text mark t) p.0 p.2 in
      ap₂ ◌&&◌ (text_pure mark t r.1 r.3) (template_pure mark qs ts p.1 p.3)
