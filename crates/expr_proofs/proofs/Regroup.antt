-- `(a op b) op c` with known numbers b and c is exactly `a op d`, where d is `b op c`.
use Rattle.std.specs.Int.Bits.{xor_assoc}
use Rattle.std.proofs.Common.{◌≡◌, ℕ, zero, suc, ℤ, pos, negsuc, ◌-◌, ◌*◌, ◌%◌, ◌^◌, ◌<◌, ◌≤◌, Bool, true, false, not, ◌&&◌, if◌then◌else◌, List, Option, Some, None, refl, sym, ap, ap₂, subst, ◌∙◌, arith, IfSome, nat_le, nat_lt, nat_abs, bit_and, bit_or, bit_xor}
use Rattle.std.proofs.Math.Nat.{mod-eq_of_lt, mul_assoc}
use Rattle.std.proofs.lemmas.Bool.{false≢true, leb-true, le-leb}
use Rattle.std.proofs.lemmas.Option.{none-some, same_Some}
use Rattle.std.proofs.lemmas.Nat.{and_assoc, and_le_l, or_lt, xor_lt, mod_below}
use Rattle.std.proofs.lemmas.Nat.Bits.{bit_at_or, same_from_bits}
use Rattle.swc_ast.specs.declared.BinaryOp.{BinaryOp}
use Rattle.swc_ast.specs.declared.BinaryOp.TheVariants.{Mul, BitOr, BitXor, BitAnd}
use Rattle.swc_ast.specs.declared.Span.{Span}
use Rattle.swc_ast.specs.Tree.{Binary, Tree, node, ε, ◌⊳◌}
use Rattle.swc_ast.specs.Value.{Value, NaN, Num, and_then, Context}
use Rattle.swc_ast.specs.Meaning.{◌>>=◌, in_core, compute, operate, act, eval}
use Rattle.swc_ast.specs.Operators.{Prim, prim, prim_number, Numeric, NotANumber, Whole, number_value, both, xor, is_negative, core_number, greatest, nonzero_sign, times, arith as on_whole, to_u32, as_i32, bits, binary_prim, binary_value}
use Rattle.swc_ast.specs.Call.{call_at}
use Rattle.meaning_proofs.specs.Exact.{Refines, Exact}
use Rattle.swc_utils.specs.Known.{number, of_value}
use Rattle.swc_utils.specs.Types.{is_numeric_op}
use Rattle.swc_utils.proofs.Known.{of_value_some}
use Rattle.swc_utils.proofs.Refines.{refines_same, refines_then, refines_drop, refines_trans, refines_assoc, refines_leaves}
use Rattle.expr_rules.specs.Arithmetic.{regroups, as_numeric, divides, is_zero, computed, fold_numbers}
use Rattle.pass_rules.specs.Leaves.{number_tree}
use Rattle.pass_proofs.proofs.Refines.{refines_path}
use Rattle.expr_proofs.proofs.Rewrites.{number_keeps, operate_numeric, numeric_by_number, number_back, as_numeric_back, number_tree_gives, if_gives}
use Rattle.pass_proofs.proofs.Runs.{done_first}

-- a free grouping of f, where it stays in the core

or_assoc : (a b c : ℕ) → bit_or (bit_or a b) c ≡ bit_or a (bit_or b c)
or_assoc a b c = same_from_bits _ _ (λ i. omega (arith, bit_at_or (bit_or a b) c i, bit_at_or a b i, bit_at_or a (bit_or b c) i, bit_at_or b c i))

-- what 32 bits hold
pub u32_below : (k : Numeric) → to_u32 k < 2 ^ 32
u32_below NotANumber = omega arith
u32_below (Whole (pos n)) = mod_below n (2 ^ 32) (omega arith)
u32_below (Whole (negsuc n)) = omega arith

u32_back : (n : ℕ) → n < 2 ^ 32 → to_u32 (Whole (as_i32 n)) ≡ n
u32_back n h = by_sign (nat_lt n (2 ^ 31)) refl
  where
    by_sign : (b : Bool) → nat_lt n (2 ^ 31) ≡ b → to_u32 (Whole (if b then pos n else negsuc (2 ^ 32 - 1 - n))) ≡ n
    by_sign true e = mod-eq_of_lt h
    by_sign false e = let m : (2 ^ 32 - 1 - n) % 2 ^ 32 ≡ 2 ^ 32 - 1 - n = mod-eq_of_lt (omega arith) in omega (arith, m)

-- the grouping of f is free where both groupings stay in the core
abbrev Regroups : (Numeric → Numeric → Option Value) → Type 0
Regroups f = (i j k r : Numeric) (v : Value) → f j k ≡ Some (number_value r) → f i j ≡ Some v → (m : Numeric) × (prim_number (prim v) ≡ Some m) × IfSome (f m k) (λ y. f i r ≡ Some y)

whole_value : (r : Numeric) (z : ℤ) → number_value r ≡ Num z → r ≡ Whole z
whole_value NotANumber z h = cc
whole_value (Whole y) z h = cc

nan_value : (r : Numeric) → number_value r ≡ NaN → r ≡ NotANumber
nan_value NotANumber h = refl
nan_value (Whole y) h = cc

-- bits

bits_regroup : (g : ℕ → ℕ → ℕ) → ((a b c : ℕ) → g (g a b) c ≡ g a (g b c)) → ((a b : ℕ) → a < 2 ^ 32 → b < 2 ^ 32 → g a b < 2 ^ 32) → Regroups (bits g)
bits_regroup g chain below i j k r v h e =
    let w : Whole (as_i32 (g (to_u32 j) (to_u32 k))) ≡ r = sym (whole_value r _ (sym (same_Some _ _ h))) in
    let left : to_u32 (Whole (as_i32 (g (to_u32 i) (to_u32 j)))) ≡ g (to_u32 i) (to_u32 j) = u32_back _ (below _ _ (u32_below i) (u32_below j)) in
    let right : to_u32 r ≡ g (to_u32 j) (to_u32 k) = ap to_u32 (sym w) ∙ u32_back _ (below _ _ (u32_below j) (u32_below k)) in (
      Whole (as_i32 (g (to_u32 i) (to_u32 j))),
      ap (λ x. prim_number (prim x)) (sym (same_Some _ _ e)),
      ap (λ x. Some (Num (as_i32 x))) (ap (g (to_u32 i)) right ∙ sym (chain (to_u32 i) (to_u32 j) (to_u32 k)) ∙ ap (λ x. g x (to_u32 k)) (sym left)),
    )

-- products

xor_chain : (a b c : Bool) → xor (xor a b) c ≡ xor a (xor b c)
xor_chain true true true = refl
xor_chain true true false = refl
xor_chain true false true = refl
xor_chain true false false = refl
xor_chain false b c = refl

core_is : (z : ℤ) (v : Value) → core_number z ≡ Some v → (v ≡ Num z) × (nat_abs z ≤ greatest)
core_is z v h = by_size (nat_le (nat_abs z) greatest) refl h
  where
    by_size : (b : Bool) → nat_le (nat_abs z) greatest ≡ b → (if b then Some (Num z) else None) ≡ Some v → (v ≡ Num z) × (nat_abs z ≤ greatest)
    by_size true e h' = (sym (same_Some _ _ h'), leb-true _ _ e)
    by_size false e h' = absurd (none-some v h')

core_from : (z : ℤ) → nat_abs z ≤ greatest → core_number z ≡ Some (Num z)
core_from z h = ap (λ b. if b then Some (Num z) else None) (le-leb (nat_abs z) greatest h)

-- a number with a sign and a size
record Signed (s : Bool) (n : ℕ) (z : ℤ) : Type 0 where
  sign : is_negative z ≡ s
  size : nat_abs z ≡ n
  fits : n ≤ greatest

sign_is : (s : Bool) (n : ℕ) (v : Value) → nonzero_sign s n ≡ Some v → (z : ℤ) × (v ≡ Num z) × Signed s n z
sign_is true zero v h = absurd (none-some v h)
sign_is true (suc n) v h = let p = core_is (negsuc n) v h in (negsuc n, p.0, record { sign = refl; size = refl; fits = p.1 })
sign_is false n v h = let p = core_is (pos n) v h in (pos n, p.0, record { sign = refl; size = refl; fits = p.1 })

sign_from : (z : ℤ) → nat_abs z ≤ greatest → nonzero_sign (is_negative z) (nat_abs z) ≡ Some (Num z)
sign_from (pos n) h = core_from (pos n) h
sign_from (negsuc n) h = core_from (negsuc n) h

times_regroup : (a b c q : ℤ) (v : Value) → times b c ≡ Some (Num q) → times a b ≡ Some v → (m : Numeric) × (prim_number (prim v) ≡ Some m) × IfSome (on_whole times m (Whole c)) (λ y. times a q ≡ Some y)
times_regroup a b c q v h e =
    let p = sign_is (xor (is_negative a) (is_negative b)) (nat_abs a * nat_abs b) v e in
    let s = sign_is (xor (is_negative b) (is_negative c)) (nat_abs b * nat_abs c) (Num q) h in
    (Whole p.0, ap (λ x. prim_number (prim x)) p.1, whole p.0 p.2 s.0 (number s.0 s.1) s.2 (times p.0 c) refl)
  where
    number : (z : ℤ) → Num q ≡ Num z → q ≡ z
    number z g = cc

    whole : (z : ℤ) → Signed (xor (is_negative a) (is_negative b)) (nat_abs a * nat_abs b) z → (y : ℤ) → q ≡ y → Signed (xor (is_negative b) (is_negative c)) (nat_abs b * nat_abs c) y → (o : Option Value) → times z c ≡ o → IfSome o (λ y. times a q ≡ Some y)
    whole z sz y g sy None i = tt
    whole z sz y g sy (Some w) i =
        let t = sign_is (xor (is_negative z) (is_negative c)) (nat_abs z * nat_abs c) w i in
        let same_sign : xor (is_negative a) (is_negative q) ≡ is_negative t.0 = ap (λ x. xor (is_negative a) (is_negative x)) g ∙ ap (xor (is_negative a)) sy.sign ∙ sym (xor_chain (is_negative a) (is_negative b) (is_negative c)) ∙ ap (λ x. xor x (is_negative c)) (sym sz.sign) ∙ sym t.2.sign in
        let same_size : nat_abs a * nat_abs q ≡ nat_abs t.0 = ap (λ x. nat_abs a * nat_abs x) g ∙ ap (λ x. nat_abs a * x) sy.size ∙ sym (mul_assoc (nat_abs a) (nat_abs b) (nat_abs c)) ∙ ap (λ x. x * nat_abs c) (sym sz.size) ∙ sym t.2.size in
        let small : nat_abs t.0 ≤ greatest = subst (λ x. x ≤ greatest) (sym t.2.size) t.2.fits in
        ap₂ nonzero_sign same_sign same_size ∙ sign_from t.0 small ∙ ap Some (sym t.1)

product_regroup : Regroups (on_whole times)
product_regroup NotANumber j k r v h e = (NotANumber, ap (λ x. prim_number (prim x)) (sym (same_Some _ _ e)), refl)
product_regroup (Whole a) NotANumber k r v h e = (NotANumber, ap (λ x. prim_number (prim x)) (sym (same_Some _ _ e)), ap (on_whole times (Whole a)) (nan_value r (sym (same_Some _ _ h))))
product_regroup (Whole a) (Whole b) NotANumber r v h e =
    let p = sign_is (xor (is_negative a) (is_negative b)) (nat_abs a * nat_abs b) v e in
    (Whole p.0, ap (λ x. prim_number (prim x)) p.1, ap (on_whole times (Whole a)) (nan_value r (sym (same_Some _ _ h))))
product_regroup (Whole a) (Whole b) (Whole c) NotANumber v h e = absurd (no_nan (sign_is (xor (is_negative b) (is_negative c)) (nat_abs b * nat_abs c) NaN h))
  where
    no_nan : (z : ℤ) × (NaN ≡ Num z) × Signed (xor (is_negative b) (is_negative c)) (nat_abs b * nat_abs c) z → ⊥
    no_nan p = let e : NaN ≡ Num p.0 = p.1 in cc
product_regroup (Whole a) (Whole b) (Whole c) (Whole q) v h e = times_regroup a b c q v h e

-- the operators

abbrev applied : BinaryOp → Numeric → Numeric → Option Value
applied Mul = on_whole times
applied BitAnd = bits bit_and
applied BitOr = bits bit_or
applied BitXor = bits bit_xor
applied _ = λ i j. None

applied_regroups : (op : BinaryOp) → regroups op ≡ true → Regroups (applied op)
applied_regroups Mul h = product_regroup
applied_regroups BitAnd h = bits_regroup bit_and (λ a b c. and_assoc c a b) (λ a b x y. omega (arith, and_le_l a b))
applied_regroups BitOr h = bits_regroup bit_or or_assoc (λ a b x y. or_lt 32 a b x y)
applied_regroups BitXor h = bits_regroup bit_xor xor_assoc (λ a b x y. xor_lt 32 a b x y)
applied_regroups _ h = absurd (false≢true h)

applies : (op : BinaryOp) (p q : Prim) → regroups op ≡ true → binary_prim op p q ≡ both (applied op) (prim_number p) (prim_number q)
unfolding binary_prim
applies Mul p q h = refl
applies BitAnd p q h = refl
applies BitOr p q h = refl
applies BitXor p q h = refl
applies _ p q h = absurd (false≢true h)

numeric : (op : BinaryOp) → regroups op ≡ true → is_numeric_op op ≡ true
numeric Mul h = refl
numeric BitAnd h = refl
numeric BitOr h = refl
numeric BitXor h = refl
numeric _ h = absurd (false≢true h)

core_runs : (o q : Option Value) → IfSome o (λ y. q ≡ Some y) → Refines (in_core o) (in_core q)
core_runs None q h = refines_leaves
core_runs (Some y) q h = refines_path (ap in_core (sym h))

module _ (op : BinaryOp) (g : regroups op ≡ true) (u w x : Value) (j k r : Numeric) (ej : prim_number (prim w) ≡ Some j) (ek : prim_number (prim x) ≡ Some k) (known : applied op j k ≡ Some (number_value r)) where
  -- both operators on values, and the one that is left
  values_regroup : Refines (compute op u w >>= λ v. compute op v x) (compute op u (number_value r))
  unfolding and_then
  values_regroup = by_left (prim_number (prim u)) refl
    where
      first : (o : Option Numeric) → prim_number (prim u) ≡ o → binary_value op u w ≡ both (applied op) o (Some j)
      first o e = applies op (prim u) (prim w) g ∙ ap₂ (both (applied op)) e ej

      second : (i : Numeric) → prim_number (prim u) ≡ Some i → binary_value op u (number_value r) ≡ applied op i r
      second i e = applies op (prim u) (prim (number_value r)) g ∙ ap₂ (both (applied op)) e (number_back r)

      by_middle : (i : Numeric) (o : Option Value) → prim_number (prim u) ≡ Some i → applied op i j ≡ o → Refines (in_core o >>= λ v. compute op v x) (compute op u (number_value r))
      by_middle i None e m = refines_leaves
      by_middle i (Some v) e m =
          let p = applied_regroups op g i j k r v known m in
          core_runs (binary_value op v x) (binary_value op u (number_value r)) (subst (λ q. IfSome q (λ y. binary_value op u (number_value r) ≡ Some y)) (sym (applies op (prim v) (prim x) g ∙ ap₂ (both (applied op)) p.1 ek)) (subst (λ q. IfSome (applied op p.0 k) (λ y. q ≡ Some y)) (sym (second i e)) p.2))

      by_left : (o : Option Numeric) → prim_number (prim u) ≡ o → Refines (compute op u w >>= λ v. compute op v x) (compute op u (number_value r))
      by_left None e = subst (λ q. Refines (in_core q >>= λ v. compute op v x) (compute op u (number_value r))) (sym (first None e)) refines_leaves
      by_left (Some i) e = subst (λ q. Refines (in_core q >>= λ v. compute op v x) (compute op u (number_value r))) (sym (first (Some i) e)) (by_middle i (applied op i j) e refl)

-- the number that two known numbers give
known_parts : (op : BinaryOp) (i j : Option Numeric) (r : Numeric) → regroups op ≡ true → computed op i j ≡ Some r → (x : Numeric) × (y : Numeric) × (i ≡ Some x) × (j ≡ Some y) × (applied op x y ≡ Some (number_value r))
known_parts op (Some x) (Some y) r g h =
    let p = if_gives (is_numeric_op op && not (divides op && is_zero y)) (of_value as_numeric (binary_value op (number_value x) (number_value y))) r h in
    let q = of_value_some as_numeric (binary_value op (number_value x) (number_value y)) r p.1 in
    (x, y, refl, refl, ap₂ (both (applied op)) (sym (number_back x)) (sym (number_back y)) ∙ sym (applies op (prim (number_value x)) (prim (number_value y)) g) ∙ q.1 ∙ ap Some (as_numeric_back q.0 r q.2))
known_parts op (Some x) None r g h = absurd (none-some r h)
known_parts op None j r g h = absurd (none-some r h)

pub regroup_exact : (mark : ℕ) (op : BinaryOp) (ss is rs ns : List Span) (a b c : Tree) (r : Numeric) → regroups op ≡ true → fold_numbers mark op b c ≡ Some r → Exact mark (node (Binary op) ss (node (Binary op) is (a ⊳ b ⊳ ε) ⊳ c ⊳ ε)) (node (Binary op) rs (a ⊳ number_tree mark ns r ⊳ ε))
unfolding eval act
regroup_exact mark op ss is rs ns a b c r g h =
    let p = known_parts op (number mark b) (number mark c) r g h in
    record {
      by = λ n d e. refines_assoc (eval mark n (call_at (eval mark n) d) a e) (λ u. operate op u (eval mark n (call_at (eval mark n) d) b e)) (λ v. operate op v (eval mark n (call_at (eval mark n) d) c e))
          (refines_then (refines_same _) (λ u.
          subst (λ m. Refines (m >>= λ v. operate op v (eval mark n (call_at (eval mark n) d) c e)) (operate op u (eval mark n (call_at (eval mark n) d) (number_tree mark ns r) e))) (sym (operate_numeric op u (eval mark n (call_at (eval mark n) d) b e) (numeric op g)))
          (refines_assoc (eval mark n (call_at (eval mark n) d) b e) (λ w. compute op u w) (λ v. operate op v (eval mark n (call_at (eval mark n) d) c e))
          (refines_drop (number_keeps mark n d b p.0 p.2 e) (λ w hw.
          refines_trans (refines_then (refines_same (compute op u w)) (λ v. refines_trans (refines_path (operate_numeric op v (eval mark n (call_at (eval mark n) d) c e) (numeric op g))) (refines_drop (number_keeps mark n d c p.1 p.3 e) (λ x hx. refines_path (right_known v x p.1 hx)))))
          (refines_trans (values_regroup op g u w (number_value p.1) p.0 p.1 r hw (number_back p.1) p.4)
          (refines_path (sym (gives_number n d u e)))))))));
    }
  where
    right_known : (v x : Value) (k : Numeric) → prim_number (prim x) ≡ Some k → compute op v x ≡ compute op v (number_value k)
    right_known v x k e = ap in_core (numeric_by_number op (prim v) (prim v) (prim x) (prim (number_value k)) (numeric op g) refl (e ∙ sym (number_back k)))

    gives_number : (n d : ℕ) (u : Value) (e : Context) → operate op u (eval mark n (call_at (eval mark n) d) (number_tree mark ns r) e) ≡ compute op u (number_value r)
    gives_number n d u e = operate_numeric op u (eval mark n (call_at (eval mark n) d) (number_tree mark ns r) e) (numeric op g) ∙ done_first (eval mark n (call_at (eval mark n) d) (number_tree mark ns r) e) (number_value r) (λ w. compute op u w) (number_tree_gives mark n (call_at (eval mark n) d) ns r e)
