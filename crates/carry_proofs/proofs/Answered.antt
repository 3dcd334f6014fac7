-- What is propagated, up to spans, is an answer: late reads and `void 0` are told by labels alone.
use Rattle.std.proofs.Common.{◌≡◌, not, ◌&&◌, ◌||◌, refl, sym, ap, ap₂, ◌∙◌}
use Rattle.swc_ast.specs.declared.UnaryOp.TheVariants.{TypeOf, Void}
use Rattle.swc_ast.specs.Tree.{Name, same_name, Label, Read, Shorthand, KeyValue, TypeOfName, Unary, Tree, node, Forest, ε, ◌⊳◌, bare, bares}
use Rattle.carry_rules.specs.Carry.{Pass, constants, inlines, declares_lexical, is_exempt, propagated}
use Rattle.carry_rules.specs.Late.{reads_name, reads_in, reads_in_all, declares_in, declares_in_all, is_late, is_late_all}
use Rattle.carry_rules.specs.Voids.{is_void, is_type_of_void, is_void_field, is_put, is_voided, is_voided_all}
use Rattle.carry_proofs.specs.Laws.{IsWhole}
use Rattle.carry_proofs.specs.Propagation.{VoidsAreUnset, Propagates}
use Rattle.carry_proofs.proofs.Same.{propagated_early}
use Rattle.carry_proofs.proofs.Voids.{propagated_voids}

-- late reads, spans aside

module _ (p : Pass) (x : Name) where
  mutual
    reads_bare : (t : Tree) → reads_in p x (bare t) ≡ reads_in p x t
    reads_bare (node l ss cs) = ap (λ b. not (is_exempt p l) && (reads_name p x l || b)) (reads_all_bare cs)

    reads_all_bare : (ts : Forest) → reads_in_all p x (bares ts) ≡ reads_in_all p x ts
    reads_all_bare ε = refl
    reads_all_bare (t ⊳ ts) = ap₂ ◌||◌ (reads_bare t) (reads_all_bare ts)

  mutual
    declares_bare : (t : Tree) → declares_in p x (bare t) ≡ declares_in p x t
    declares_bare (node l ss cs) = ap (λ b. not (is_exempt p l) && (declares_lexical x l || b)) (declares_all_bare cs)

    declares_all_bare : (ts : Forest) → declares_in_all p x (bares ts) ≡ declares_in_all p x ts
    declares_all_bare ε = refl
    declares_all_bare (t ⊳ ts) = ap₂ ◌||◌ (declares_bare t) (declares_all_bare ts)

  mutual
    late_bare : (t : Tree) → is_late p x (bare t) ≡ is_late p x t
    late_bare (node l ss cs) = ap (λ b. not (is_exempt p l) && b) (late_all_bare cs)

    late_all_bare : (ts : Forest) → is_late_all p x (bares ts) ≡ is_late_all p x ts
    late_all_bare ε = refl
    late_all_bare (t ⊳ ts) = ap₂ ◌||◌ (late_bare t) (ap₂ ◌||◌ (ap₂ ◌&&◌ (declares_bare t) (reads_all_bare ts)) (late_all_bare ts))

-- where `void 0` is put, spans aside

void_bare : (u : Tree) → is_void (bare u) ≡ is_void u
void_bare (node (Unary Void) ss cs) = refl
void_bare (node l ss cs) = refl

type_bare : (u : Tree) → is_type_of_void (bare u) ≡ is_type_of_void u
type_bare (node (Unary TypeOf) ss (t ⊳ ε)) = void_bare t
type_bare (node (Unary TypeOf) ss (t ⊳ u ⊳ us)) = refl
type_bare (node (Unary TypeOf) ss ε) = refl
type_bare (node l ss cs) = refl

field_bare : (u : Tree) → is_void_field (bare u) ≡ is_void_field u
field_bare (node KeyValue ss (k ⊳ t ⊳ ε)) = void_bare t
field_bare (node KeyValue ss (k ⊳ t ⊳ u ⊳ us)) = refl
field_bare (node KeyValue ss (k ⊳ ε)) = refl
field_bare (node KeyValue ss ε) = refl
field_bare (node l ss cs) = refl

put_bare : (x : Name) (l : Label) (u : Tree) → is_put x l (bare u) ≡ is_put x l u
put_bare x (Read y) u = ap (λ b. same_name x y && b) (void_bare u)
put_bare x (TypeOfName y) u = ap (λ b. same_name x y && b) (type_bare u)
put_bare x (Shorthand y) u = ap (λ b. same_name x y && b) (field_bare u)
put_bare x l u = refl

mutual
  voided_bare : (x : Name) (t u : Tree) → is_voided x t (bare u) ≡ is_voided x t u
  voided_bare x (node l ss cs) (node m rs ds) = ap₂ ◌||◌ (put_bare x l (node m rs ds)) (voided_all_bare x cs ds)

  voided_all_bare : (x : Name) (ts us : Forest) → is_voided_all x ts (bares us) ≡ is_voided_all x ts us
  voided_all_bare x ε us = refl
  voided_all_bare x (t ⊳ ts) ε = refl
  voided_all_bare x (t ⊳ ts) (u ⊳ us) = ap₂ ◌||◌ (voided_bare x t u) (voided_all_bare x ts us)

voids_are : (p : Pass) (t u : Tree) → IsWhole t → bare u ≡ bare (propagated p t) → VoidsAreUnset p t u
voids_are constants t u w e = tt
voids_are inlines t u w e = λ x h. propagated_voids t w x (sym (voided_bare x t (propagated inlines t)) ∙ ap (λ v. is_voided x t v) (sym e) ∙ voided_bare x t u ∙ h)

pub answered : (p : Pass) (t u : Tree) → IsWhole t → bare u ≡ bare (propagated p t) → Propagates p t u
answered p t u w e = record {
  whole = w;
  is = e;
  literals = λ mark r o x k h. sym (late_bare p x u) ∙ ap (λ v. is_late p x v) e ∙ late_bare p x (propagated p t) ∙ propagated_early p t w r o x k h;
  voids = voids_are p t u w e;
}
