-- Names that are never set: what declares them has no first value.
use Rattle.std.proofs.Common.{◌≡◌, ℕ, zero, suc, refl, ◌+◌, ◌≤◌, true, false, not, ◌&&◌, ◌||◌, ◌==◌, Some, sym, ◌∙◌, arith, ◌⊎◌, inl, inr}
use Rattle.std.proofs.lemmas.Bool.{and_parts, or_cases, false≢true, true≢false, not-true, eqb-true, eq-eqb, false_from_ne_true}
use Rattle.swc_ast.specs.declared.VarDeclKind.TheVariants.{Var, Let, Const}
use Rattle.swc_ast.specs.Tree.{Name, same_name, Label, Fn, Param, Try, Declarator, FnDecl, ImportNamed, ImportDefault, ImportStar, ExportDefaultFn, Tree, Forest, ε, ◌⊳◌}
use Rattle.swc_ast.specs.Scope.{default_name}
use Rattle.swc_ast.specs.Resolved.{is_default}
use Rattle.static_proofs.proofs.Names.{same_name_itself}
use Rattle.carry_rules.specs.Carry.{facts, writes, declares_lexical, declares_unset, imports, declares_other, declares, one, how_many}
use Rattle.carry_rules.specs.Voids.{declares_set}
use Rattle.carry_proofs.proofs.Steady.{steady_shows}
use Rattle.carry_proofs.proofs.Counts.{at, both, one_or, with_variables, with_imports}

unset_other : (x : Name) (l : Label) (cs : Forest) → one (declares_unset x l cs) + one (declares_other x l) ≤ one (declares x l)
unset_other x (Declarator Let y) ε = omega (arith, one_or (same_name x y) false)
unset_other x (Declarator Var y) ε = omega (arith, one_or (same_name x y) false)
unset_other x (Param y) cs = omega arith
unset_other x (Fn o) cs = omega arith
unset_other x (FnDecl y) cs = omega arith
unset_other x (ExportDefaultFn o) cs = omega arith
unset_other x (Try (Some o)) cs = omega arith
unset_other x l cs = omega arith

unset_import : (x : Name) (l : Label) (cs : Forest) → one (declares_unset x l cs) + one (imports x l) ≤ one (declares x l)
unset_import x (Declarator Let y) ε = omega (arith, one_or (same_name x y) false)
unset_import x (Declarator Var y) ε = omega (arith, one_or (same_name x y) false)
unset_import x (ImportNamed y o) cs = omega (arith, one_or (same_name x y) false)
unset_import x (ImportDefault y) cs = omega (arith, one_or (same_name x y) false)
unset_import x (ImportStar y) cs = omega (arith, one_or (same_name x y) false)
unset_import x l cs = omega arith

unset_set : (x : Name) (l : Label) (cs : Forest) → one (declares_unset x l cs) + one (declares_set x l cs) ≤ one (declares x l)
unset_set x (Declarator Let y) ε = omega (arith, one_or (same_name x y) false)
unset_set x (Declarator Var y) ε = omega (arith, one_or (same_name x y) false)
unset_set x (Declarator Const y) ε = omega arith
unset_set x (Declarator Let y) (t ⊳ ts) = omega (arith, one_or (same_name x y) false)
unset_set x (Declarator Var y) (t ⊳ ts) = omega (arith, one_or (same_name x y) false)
unset_set x (Declarator Const y) (t ⊳ ts) = omega (arith, one_or (same_name x y) false)
unset_set x l cs = omega arith

-- a name that is never set
pub record Unset (t : Tree) (x : Name) : Type 0 where
  pub not_default : is_default x ≡ false
  pub some : 1 ≤ how_many (at declares x) t
  pub unwritten : how_many (at writes x) t ≡ 0
  pub all : how_many (at declares x) t ≡ how_many (declares_unset x) t
  pub alone : (how_many (at declares x) t ≡ 1) ⊎ (how_many (at declares_lexical x) t ≡ 0)

module _ (t : Tree) (x : Name) where
  pub unset_says : (facts t).unset x ≡ true → Unset t x
  unfolding facts
  unset_says e =
      let p = and_parts (not (is_default x)) ((how_many (at writes x) t == 0) && ((not (how_many (declares_unset x) t == 0) && (how_many (at declares x) t == how_many (declares_unset x) t)) && ((how_many (at declares x) t == 1) || (how_many (at declares_lexical x) t == 0)))) e in
      let r = and_parts (how_many (at writes x) t == 0) ((not (how_many (declares_unset x) t == 0) && (how_many (at declares x) t == how_many (declares_unset x) t)) && ((how_many (at declares x) t == 1) || (how_many (at declares_lexical x) t == 0))) p.1 in
      let s = and_parts (not (how_many (declares_unset x) t == 0) && (how_many (at declares x) t == how_many (declares_unset x) t)) ((how_many (at declares x) t == 1) || (how_many (at declares_lexical x) t == 0)) r.1 in
      let n = and_parts (not (how_many (declares_unset x) t == 0)) (how_many (at declares x) t == how_many (declares_unset x) t) s.0 in
      record {
        not_default = not-true (is_default x) p.0;
        some = some (how_many (declares_unset x) t) refl (not-true (how_many (declares_unset x) t == 0) n.0) (eqb-true (how_many (at declares x) t) (how_many (declares_unset x) t) n.1);
        unwritten = eqb-true (how_many (at writes x) t) 0 r.0;
        all = eqb-true (how_many (at declares x) t) (how_many (declares_unset x) t) n.1;
        alone = by (or_cases (how_many (at declares x) t == 1) (how_many (at declares_lexical x) t == 0) s.1);
      }
    where
      some : (n : ℕ) → how_many (declares_unset x) t ≡ n → (how_many (declares_unset x) t == 0) ≡ false → how_many (at declares x) t ≡ how_many (declares_unset x) t → 1 ≤ how_many (at declares x) t
      some zero i e f = absurd (false≢true (sym e ∙ eq-eqb (how_many (declares_unset x) t) 0 i))
      some (suc n) i e f = omega (arith, i, f)

      by : ((how_many (at declares x) t == 1) ≡ true) ⊎ ((how_many (at declares_lexical x) t == 0) ≡ true) → (how_many (at declares x) t ≡ 1) ⊎ (how_many (at declares_lexical x) t ≡ 0)
      by (inl i) = inl (eqb-true (how_many (at declares x) t) 1 i)
      by (inr i) = inr (eqb-true (how_many (at declares_lexical x) t) 0 i)

  -- nodes that no such name has

  pub written_set : 1 ≤ how_many (at writes x) t → (facts t).unset x ≡ false
  written_set h = false_from_ne_true ((facts t).unset x) (λ e. omega (arith, h, (unset_says e).unwritten))

  pub other_set : 1 ≤ how_many (at declares_other x) t → (facts t).unset x ≡ false
  other_set h = false_from_ne_true ((facts t).unset x) (λ e. omega (arith, h, (unset_says e).all, both (declares_unset x) (at declares_other x) (at declares x) (unset_other x) t))

  pub import_set : 1 ≤ how_many (at imports x) t → (facts t).unset x ≡ false
  import_set h = false_from_ne_true ((facts t).unset x) (λ e. omega (arith, h, (unset_says e).all, both (declares_unset x) (at imports x) (at declares x) (unset_import x) t))

  pub valued_set : 1 ≤ how_many (declares_set x) t → (facts t).unset x ≡ false
  valued_set h = false_from_ne_true ((facts t).unset x) (λ e. omega (arith, h, (unset_says e).all, both (declares_unset x) (declares_set x) (at declares x) (unset_set x) t))

  -- one that a `let` declares is declared by that alone
  pub unset_steady : (facts t).unset x ≡ true → 1 ≤ how_many (at declares_lexical x) t → (facts t).steady x ≡ true
  unset_steady e h = steady_shows t x (record {
    sole = record { not_default = u.not_default; once = once };
    unwritten = u.unwritten;
    no_variable = omega (arith, h, once, with_variables x t);
    no_import = omega (arith, h, once, with_imports x t);
  })
    where
      u : Unset t x
      u = unset_says e

      by : (how_many (at declares x) t ≡ 1) ⊎ (how_many (at declares_lexical x) t ≡ 0) → how_many (at declares x) t ≡ 1
      by (inl i) = i
      by (inr i) = absurd (omega (arith, h, i))

      once : how_many (at declares x) t ≡ 1
      once = by u.alone

pub default_set : (t : Tree) → (facts t).unset default_name ≡ false
default_set t = false_from_ne_true ((facts t).unset default_name) (λ e. true≢false (sym (same_name_itself default_name) ∙ (unset_says t default_name e).not_default))
