-- What is left of a tree by its effects, and by literals in its place.
use Rattle.std.proofs.Common.{◌≡◌, ℕ, zero, ℤ, pos, ◌≤◌, Bool, true, false, ◌&&◌, if◌then◌else◌, List, refl, sym, subst, arith, codes}
use Rattle.std.proofs.lemmas.Bool.{and_parts, le-leb}
use Rattle.swc_ast.specs.declared.Span.{Span}
use Rattle.swc_ast.specs.declared.UnaryOp.TheVariants.{Void, Delete}
use Rattle.swc_ast.specs.declared.BinaryOp.{BinaryOp}
use Rattle.swc_ast.specs.Tree.{Name, Label, ItemKind, NumLit, StrLit, BoolLit, Read, Template, Array, Object, KeyValue, Shorthand, Method, ComputedKey, Unary, Binary, Seq, Tree, node, Forest, ε, ◌⊳◌}
use Rattle.swc_ast.specs.Operators.{Numeric, NotANumber, Whole}
use Rattle.swc_ast.specs.Scope.{joined}
use Rattle.swc_ast.specs.Valid.{is_identifier, count, valid, valid_all}
use Rattle.swc_ast.specs.Resolved.{own_scopes}
use Rattle.swc_ast.specs.Core.{in_range}
use Rattle.static_proofs.specs.Over.{Makes}
use Rattle.static_proofs.proofs.Drawn.{valid_below}
use Rattle.swc_utils.specs.Pure.{pure, has_spread}
use Rattle.swc_utils.specs.Globals.{is_host_name}
use Rattle.swc_utils.specs.Effects.{is_strict, has_record_spread, unless_pure, effects, effects_all, preserve}
use Rattle.swc_utils.proofs.Chains.{joined_assoc, joined_none}
use Rattle.pass_rules.specs.Leaves.{text_tree, void_tree, number_tree, truth_tree}
use Rattle.pass_proofs.proofs.Remains.{Remains, goes, stays, opened, made}

-- a number of the core
abbrev pub Fits : Numeric → Type 0
Fits NotANumber = Unit {0}
Fits (Whole z) = in_range z ≡ true

-- new nodes

count_end : (fs : Forest) (u : Tree) → 1 ≤ count (joined fs (u ⊳ ε))
count_end ε u = omega arith
count_end (f ⊳ fs) u = omega arith

nan_identifier : is_identifier (codes "NaN") ≡ true
unfolding is_identifier
nan_identifier = refl

parts_valid : {V : Type 0} (l : Label) (ss : List Span) (ts : Forest) → (V → valid (node l ss ts) ≡ true) → V → valid_all ts ≡ true
parts_valid l ss ts h v = valid_below l ss ts (h v)

module _ {V F : Type 0} where
  text_stands : (t : List ℕ) → Makes V F (StrLit t) ε
  unfolding own_scopes
  text_stands t = record { names = λ v. refl; shape = λ v. refl; numbers = λ f. refl; scope = λ f. refl; opens_none = λ x. refl; out = refl; no_function = refl; no_jump = λ g. refl }

  truth_stands : (b : Bool) → Makes V F (BoolLit b) ε
  unfolding own_scopes
  truth_stands b = record { names = λ v. refl; shape = λ v. refl; numbers = λ f. refl; scope = λ f. refl; opens_none = λ x. refl; out = refl; no_function = refl; no_jump = λ g. refl }

  number_stands : (z : ℤ) → (F → in_range z ≡ true) → Makes V F (NumLit z) ε
  unfolding own_scopes
  number_stands z h = record { names = λ v. refl; shape = λ v. refl; numbers = h; scope = λ f. refl; opens_none = λ x. refl; out = refl; no_function = refl; no_jump = λ g. refl }

  name_stands : (x : Name) → (V → is_identifier x.text ≡ true) → Makes V F (Read x) ε
  unfolding own_scopes
  name_stands x h = record { names = h; shape = λ v. refl; numbers = λ f. refl; scope = λ f. refl; opens_none = λ x. refl; out = refl; no_function = refl; no_jump = λ g. refl }

  void_stands : (a : Tree) → Makes V F (Unary Void) (a ⊳ ε)
  unfolding own_scopes
  void_stands a = record { names = λ v. refl; shape = λ v. refl; numbers = λ f. refl; scope = λ f. refl; opens_none = λ x. refl; out = refl; no_function = refl; no_jump = λ g. refl }

  pub operator_stands : (op : BinaryOp) (cs : Forest) → Makes V F (Binary op) cs
  unfolding own_scopes
  operator_stands op cs = record { names = λ v. refl; shape = λ v. refl; numbers = λ f. refl; scope = λ f. refl; opens_none = λ x. refl; out = refl; no_function = refl; no_jump = λ g. refl }

  pub array_stands : (ks : List ItemKind) (cs : Forest) → Makes V F (Array ks) cs
  unfolding own_scopes
  array_stands ks cs = record { names = λ v. refl; shape = λ v. refl; numbers = λ f. refl; scope = λ f. refl; opens_none = λ x. refl; out = refl; no_function = refl; no_jump = λ g. refl }

  pub object_stands : (cs : Forest) → Makes V F Object cs
  unfolding own_scopes
  object_stands cs = record { names = λ v. refl; shape = λ v. refl; numbers = λ f. refl; scope = λ f. refl; opens_none = λ x. refl; out = refl; no_function = refl; no_jump = λ g. refl }

  sequence_stands : (cs : Forest) → 2 ≤ count cs → Makes V F Seq cs
  unfolding own_scopes
  sequence_stands cs h = record { names = λ v. refl; shape = λ v. le-leb 2 (count cs) h; numbers = λ f. refl; scope = λ f. refl; opens_none = λ x. refl; out = refl; no_function = refl; no_jump = λ g. refl }

  -- literals, NaN and `void 0` in front of what is left

  pub text_made : (rs : List Span) (t : List ℕ) {ts us : Forest} → Remains V F ts us → Remains V F ts (text_tree rs t ⊳ us)
  text_made rs t r = made (StrLit t) rs ε (text_stands t) r

  pub truth_made : (rs : List Span) (b : Bool) {ts us : Forest} → Remains V F ts us → Remains V F ts (truth_tree rs b ⊳ us)
  truth_made rs b r = made (BoolLit b) rs ε (truth_stands b) r

  pub whole_made : (rs : List Span) (z : ℤ) {ts us : Forest} → (F → in_range z ≡ true) → Remains V F ts us → Remains V F ts (node (NumLit z) rs ε ⊳ us)
  whole_made rs z h r = made (NumLit z) rs ε (number_stands z h) r

  pub number_made : (mark : ℕ) (rs : List Span) (k : Numeric) {ts us : Forest} → (F → Fits k) → Remains V F ts us → Remains V F ts (number_tree mark rs k ⊳ us)
  number_made mark rs NotANumber h r = made (Read (record { text = codes "NaN"; context = mark })) rs ε (name_stands _ (λ v. nan_identifier)) r
  number_made mark rs (Whole z) h r = whole_made rs z h r

  pub zero_made : (zs : List Span) {ts us : Forest} → Remains V F ts us → Remains V F ts (node (NumLit (pos zero)) zs ε ⊳ us)
  zero_made zs r = whole_made zs (pos zero) (λ f. refl) r

  pub void_made : (rs zs : List Span) {ts us : Forest} → Remains V F ts us → Remains V F ts (void_tree rs zs ⊳ us)
  void_made rs zs r = made (Unary Void) rs (node (NumLit (pos zero)) zs ε ⊳ ε) (void_stands (node (NumLit (pos zero)) zs ε)) (zero_made zs r)

  -- sequences

  pub two_made : (rs : List Span) (t u : Tree) {ts us : Forest} → Remains V F ts (t ⊳ u ⊳ us) → Remains V F ts (node Seq rs (t ⊳ u ⊳ ε) ⊳ us)
  two_made rs t u r = made Seq rs (t ⊳ u ⊳ ε) (sequence_stands (t ⊳ u ⊳ ε) (omega arith)) r

  pub sequence_made : (rs : List Span) (t u : Tree) (vs : Forest) {ts us : Forest} → Remains V F ts (joined (t ⊳ u ⊳ vs) us) → Remains V F ts (node Seq rs (t ⊳ u ⊳ vs) ⊳ us)
  sequence_made rs t u vs r = made Seq rs (t ⊳ u ⊳ vs) (sequence_stands (t ⊳ u ⊳ vs) (omega arith)) r

  pub preserve_made : (rs : List Span) (fs : Forest) (u : Tree) {ts : Forest} → Remains V F ts (joined fs (u ⊳ ε)) → Remains V F ts (preserve rs fs u ⊳ ε)
  preserve_made rs ε u r = r
  preserve_made rs (f ⊳ fs) u {ts} r = made Seq rs (joined (f ⊳ fs) (u ⊳ ε)) (sequence_stands (joined (f ⊳ fs) (u ⊳ ε)) (omega (arith, count_end fs u))) (subst (Remains V F ts) (sym (joined_none (joined (f ⊳ fs) (u ⊳ ε)))) r)

  -- effects

  unless_left : (t : Tree) (b : Bool) {rest us : Forest} → Remains V F rest us → Remains V F (t ⊳ rest) (joined (if b then ε else t ⊳ ε) us)
  unless_left t true r = goes t r
  unless_left t false r = stays t r

  either_left : (t : Tree) (us vs : Forest) (b : Bool) (rest ws : Forest) → Remains V F (t ⊳ rest) (joined us ws) → Remains V F (t ⊳ rest) (joined vs ws) → Remains V F (t ⊳ rest) (joined (if b then us else vs) ws)
  either_left t us vs true rest ws h i = h
  either_left t us vs false rest ws h i = i

  mutual
    pub effects_left : (mark : ℕ) (t : Tree) {rest us : Forest} → (V → valid t ≡ true) → Remains V F rest us → Remains V F (t ⊳ rest) (joined (effects mark t) us)
    effects_left mark (node (Unary Delete) ss ts) v r = stays _ r
    effects_left mark (node (Unary op) ss ts) v r = opened (Unary op) ss ts refl (effects_all_left mark ts (parts_valid (Unary op) ss ts v) r)
    effects_left mark (node (Binary op) ss ts) {rest} {us} v r = either_left (node (Binary op) ss ts) (effects_all mark ts) (unless_pure mark (node (Binary op) ss ts)) (is_strict op) rest us (opened (Binary op) ss ts refl (effects_all_left mark ts (parts_valid (Binary op) ss ts v) r)) (unless_left (node (Binary op) ss ts) (pure mark (node (Binary op) ss ts)) r)
    effects_left mark (node (Template qs) ss ts) v r = opened (Template qs) ss ts refl (effects_all_left mark ts (parts_valid (Template qs) ss ts v) r)
    effects_left mark (node (Array ks) ss ts) {rest} {us} v r = either_left (node (Array ks) ss ts) (node (Array ks) ss ts ⊳ ε) (effects_all mark ts) (has_spread ks) rest us (stays _ r) (opened (Array ks) ss ts refl (effects_all_left mark ts (parts_valid (Array ks) ss ts v) r))
    effects_left mark (node Object ss ts) {rest} {us} v r = either_left (node Object ss ts) (node Object ss ts ⊳ ε) (effects_all mark ts) (has_record_spread ts) rest us (stays _ r) (opened Object ss ts refl (effects_all_left mark ts (parts_valid Object ss ts v) r))
    effects_left mark (node KeyValue ss ts) v r = opened KeyValue ss ts refl (effects_all_left mark ts (parts_valid KeyValue ss ts v) r)
    effects_left mark (node ComputedKey ss ts) v r = opened ComputedKey ss ts refl (effects_all_left mark ts (parts_valid ComputedKey ss ts v) r)
    effects_left mark (node Method ss (k ⊳ p ⊳ b ⊳ ε)) v r = opened Method ss (k ⊳ p ⊳ b ⊳ ε) refl (effects_left mark k (λ i. (and_parts (valid k) (valid_all (p ⊳ b ⊳ ε)) (parts_valid Method ss (k ⊳ p ⊳ b ⊳ ε) v i)).0) (goes p (goes b r)))
    effects_left mark (node (Shorthand x) ss ts) {rest} {us} v r = either_left (node (Shorthand x) ss ts) (node (Read x) ss ε ⊳ ε) ε (is_host_name mark x) rest us (made (Read x) ss ε (name_stands x (λ i. (and_parts (is_identifier x.text) true (and_parts (is_identifier x.text && true) (valid_all ts) (v i)).0).0)) (goes _ r)) (goes _ r)
    effects_left mark (node Seq ss ts) v r = opened Seq ss ts refl (effects_all_left mark ts (parts_valid Seq ss ts v) r)
    effects_left mark (node l ss ts) v r = unless_left (node l ss ts) (pure mark (node l ss ts)) r

    pub effects_all_left : (mark : ℕ) (ts : Forest) {rest us : Forest} → (V → valid_all ts ≡ true) → Remains V F rest us → Remains V F (joined ts rest) (joined (effects_all mark ts) us)
    effects_all_left mark ε v r = r
    effects_all_left mark (t ⊳ ts) {rest} {us} v r =
        subst (Remains V F (t ⊳ joined ts rest)) (sym (joined_assoc (effects mark t) (effects_all mark ts) us)) (effects_left mark t (λ i. (and_parts (valid t) (valid_all ts) (v i)).0) (effects_all_left mark ts (λ i. (and_parts (valid t) (valid_all ts) (v i)).1) r))
