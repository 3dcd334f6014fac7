-- Powers of small bases, and powers that 64 bits don't hold.
use Rattle.std.proofs.Common.{◌≡◌, ℕ, zero, suc, ◌*◌, ◌^◌, ◌≤◌, ◌<◌, refl, ap, ◌∙◌, arith}
use Rattle.std.proofs.Math.Nat.{pow-le-pow_left, pow-le-pow_right, pow-suc}

one_power : (e : ℕ) → 1 ^ e ≡ 1
one_power zero = refl
one_power (suc e) = pow-suc 1 e ∙ ap (λ k. k * 1) (one_power e)

zero_power : (e : ℕ) → 0 ^ suc e ≡ 0
zero_power e = pow-suc 0 e ∙ omega arith

pub small_base : (b e : ℕ) → b < 2 → 0 < e → b ^ e ≡ b
small_base zero zero h k = absurd (omega (arith, k))
small_base zero (suc e) h k = zero_power e
small_base (suc zero) e h k = one_power e
small_base (suc (suc b)) e h k = absurd (omega (arith, h))

pub large_power : (b e : ℕ) → 2 ≤ b → 64 ≤ e → b ^ e < 2 ^ 64 → ⊥
large_power b e h k l =
    let p = pow-le-pow_left {n = 2} {m = b} h e in
    let q = pow-le-pow_right {n = 2} (omega arith) {i = 64} {j = e} k in
    omega (arith, p, q, l)
