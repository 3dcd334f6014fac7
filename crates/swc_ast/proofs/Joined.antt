-- What a node's parts tell together, in the order in which `same` asks.
use Rattle.std.proofs.Common.{◌≡◌, refl, ap, ◌∙◌, Bool, true, false, ◌&&◌}

-- nothing more follows
pub ends : (a : Bool) → a ≡ (a && true)
ends true = refl
ends false = refl

pub joined-1 : {a a' : Bool} → a ≡ a' → a ≡ (a' && true)
joined-1 {a = a} p = ends a ∙ ap (λ x. x && true) p

two : (a b : Bool) → (a && b) ≡ (a && (b && true))
two a true = refl
two true false = refl
two false false = refl

three : (a b c : Bool) → ((a && b) && c) ≡ (a && (b && (c && true)))
three true b c = two b c
three false b c = refl

four : (a b c d : Bool) → (((a && b) && c) && d) ≡ (a && (b && (c && (d && true))))
four true b c d = three b c d
four false b c d = refl

pub joined-2 : {a a' b b' : Bool} → a ≡ a' → b ≡ b' → (a && b) ≡ (a' && (b' && true))
joined-2 {a = a} {b = b} p q = two a b ∙ (cc)

pub joined-3 : {a a' b b' c c' : Bool} → a ≡ a' → b ≡ b' → c ≡ c' → ((a && b) && c) ≡ (a' && (b' && (c' && true)))
joined-3 {a = a} {b = b} {c = c} p q r = three a b c ∙ (cc)

pub joined-4 : {a a' b b' c c' d d' : Bool} → a ≡ a' → b ≡ b' → c ≡ c' → d ≡ d' → (((a && b) && c) && d) ≡ (a' && (b' && (c' && (d' && true))))
joined-4 {a = a} {b = b} {c = c} {d = d} p q r s = four a b c d ∙ (cc)
