-- What waits in a list is a name of `let` or `const`.
use Rattle.std.proofs.Common.{◌≡◌, Bool, true, ◌&&◌, ap, ◌∙◌, ◌⊎◌, inl, inr}
use Rattle.std.proofs.lemmas.Bool.{and_parts, or_cases, false≢true}
use Rattle.swc_ast.specs.declared.VarDeclKind.TheVariants.{Var, Let, Const}
use Rattle.swc_ast.specs.Tree.{Name, Label, Declarator, Tree, node, Forest, ε, ◌⊳◌}
use Rattle.static_proofs.proofs.Names.{same_name_path}
use Rattle.link_proofs.specs.Links.{is_group}
use Rattle.carry_rules.specs.Carry.{Facts, declares_lexical}
use Rattle.carry_rules.proofs.Sound.{waits_in, waits_all, Sits, every, every_all}

module _ (F : Facts) (lex : Name → Bool) (x : Name) where
  own_lexical : (l : Label) → Sits F lex l → declares_lexical x l ≡ true → lex x ≡ true
  own_lexical (Declarator Let y) s e = ap lex (same_name_path x y e) ∙ s.1
  own_lexical (Declarator Const y) s e = ap lex (same_name_path x y e) ∙ s
  own_lexical (Declarator Var y) s e = absurd (false≢true e)
  own_lexical l s e = absurd (false≢true e)

  mutual
    in_lexical : (t : Tree) → every F lex t → waits_in t x ≡ true → lex x ≡ true
    in_lexical (node l ss cs) s e = by (or_cases (declares_lexical x l) (is_group l && waits_all cs x) e) (λ f. waits_lexical cs s.1 f)
      where
        by : (declares_lexical x l ≡ true) ⊎ ((is_group l && waits_all cs x) ≡ true) → (waits_all cs x ≡ true → lex x ≡ true) → lex x ≡ true
        by (inl f) g = own_lexical l s.0 f
        by (inr f) g = g (and_parts (is_group l) (waits_all cs x) f).1

    pub waits_lexical : (ts : Forest) → every_all F lex ts → waits_all ts x ≡ true → lex x ≡ true
    waits_lexical ε s e = absurd (false≢true e)
    waits_lexical (t ⊳ ts) s e = by (or_cases (waits_in t x) (waits_all ts x) e) (λ f. in_lexical t s.0 f) (λ f. waits_lexical ts s.1 f)
      where
        by : (waits_in t x ≡ true) ⊎ (waits_all ts x ≡ true) → (waits_in t x ≡ true → lex x ≡ true) → (waits_all ts x ≡ true → lex x ≡ true) → lex x ≡ true
        by (inl e) f g = f e
        by (inr e) f g = g e
