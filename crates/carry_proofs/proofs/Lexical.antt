-- In a resolved module or script of the core one node alone declares a name of `let` or `const`.
use Rattle.std.proofs.Common.{◌≡◌, ℕ, zero, suc, ◌+◌, ◌≤◌, Bool, true, false, ◌&&◌, ◌||◌, if◌then◌else◌, List, [], ◌∷◌, Some, None, refl, sym, ap, ◌∙◌, arith}
use Rattle.std.proofs.lemmas.Bool.{and_parts, false≢true, true≢false, false_from_ne_true}
use Rattle.swc_ast.specs.declared.Span.{Span}
use Rattle.swc_ast.specs.declared.VarDeclKind.TheVariants.{Var, Let, Const}
use Rattle.swc_ast.specs.Tree.{Name, same_name, Label, Fn, Param, Try, Declarator, FnDecl, ImportNamed, ImportDefault, ImportStar, ExportDefaultFn, Tree, node, Forest, ε, ◌⊳◌}
use Rattle.swc_ast.specs.Scope.{has_name, option_name, default_name}
use Rattle.swc_ast.specs.Valid.{is_identifier, good_names, good_shape, valid, valid_all}
use Rattle.swc_ast.specs.Resolved.{is_default, one_if, own_scopes, scopes, scopes_all}
use Rattle.swc_ast.specs.Core.{times_in, fits}
use Rattle.static_proofs.specs.Shaped.{is_shaped}
use Rattle.swc_ast.specs.Labels.{is_whole}
use Rattle.static_proofs.proofs.Names.{same_name_path}
use Rattle.carry_rules.specs.Carry.{declares_lexical, declares, one, how_many, how_many_in}
use Rattle.carry_proofs.proofs.Counts.{at, with_variables}
use Rattle.carry_proofs.proofs.Steady.{Sole}
use Rattle.carry_proofs.proofs.Declaring.{declares_by, times, times_all}
use Rattle.carry_proofs.proofs.Once.{list_scopes, listed, listed_all, none_declared, one_declared}

-- a function's own name, or that of a handler
abbrev own_name : Name → Label → Bool
own_name x (Fn o) = has_name x (option_name o)
own_name x (Try (Some o)) = has_name x (option_name o)
own_name x l = false

abbrev own_at : Name → Label → Forest → Bool
own_at x l cs = own_name x l

-- what stands among one name
one_time : (x y : Name) → times_in x (y ∷ []) ≡ one (same_name x y)
one_time x y = by (same_name x y)
  where
    by : (b : Bool) → (if b then 1 else 0) ≡ one b
    by true = refl
    by false = refl

or_one : (b : Bool) → one (b || false) ≡ one b
or_one true = refl
or_one false = refl

-- what declares a name does so for a list or among parameters, or it is the name's own
declares_times : (x : Name) (l : Label) → one (declares x l) ≤ times_in x (declares_by l false) + times_in x (declares_by l true) + one (own_name x l)
declares_times x (Declarator Var y) = omega (arith, one_time x y, or_one (same_name x y))
declares_times x (Declarator Let y) = omega (arith, one_time x y, or_one (same_name x y))
declares_times x (Declarator Const y) = omega (arith, one_time x y, or_one (same_name x y))
declares_times x (Param y) = omega (arith, one_time x y, or_one (same_name x y))
declares_times x (FnDecl y) = omega (arith, one_time x y, or_one (same_name x y))
declares_times x (ExportDefaultFn None) = omega arith
declares_times x (ExportDefaultFn (Some y)) = omega (arith, one_time x y, or_one (same_name x y))
declares_times x (ImportNamed y o) = omega (arith, one_time x y, or_one (same_name x y))
declares_times x (ImportDefault y) = omega (arith, one_time x y, or_one (same_name x y))
declares_times x (ImportStar y) = omega (arith, one_time x y, or_one (same_name x y))
declares_times x (Fn o) = omega arith
declares_times x (Try (Some o)) = omega arith
declares_times x l = omega arith

lexical_times : (x : Name) (l : Label) → one (declares_lexical x l) ≤ times_in x (declares_by l true)
lexical_times x (Declarator Let y) = omega (arith, one_time x y)
lexical_times x (Declarator Const y) = omega (arith, one_time x y)
lexical_times x l = omega arith

mutual
  all_times : (x : Name) (t : Tree) → how_many (at declares x) t ≤ times false x t + times true x t + how_many (own_at x) t
  all_times x (node l ss cs) = omega (arith, declares_times x l, each_times x cs)

  each_times : (x : Name) (ts : Forest) → how_many_in (at declares x) ts ≤ times_all false x ts + times_all true x ts + how_many_in (own_at x) ts
  each_times x ε = omega arith
  each_times x (t ⊳ ts) = omega (arith, all_times x t, each_times x ts)

mutual
  all_lexical : (x : Name) (t : Tree) → how_many (at declares_lexical x) t ≤ times true x t
  all_lexical x (node l ss cs) = omega (arith, lexical_times x l, each_lexical x cs)

  each_lexical : (x : Name) (ts : Forest) → how_many_in (at declares_lexical x) ts ≤ times_all true x ts
  each_lexical x ε = omega arith
  each_lexical x (t ⊳ ts) = omega (arith, all_lexical x t, each_lexical x ts)

-- own names have scopes of their own

one_same : (b : Bool) → one b ≡ one_if b
one_same true = refl
one_same false = refl

own_scoped : (x : Name) (l : Label) (cs : Forest) → list_scopes x l cs + one (own_name x l) ≤ own_scopes x l cs
unfolding own_scopes
own_scoped x (Fn o) cs = omega (arith, one_same (has_name x (option_name o)))
own_scoped x (Try None) cs = omega arith
own_scoped x (Try (Some o)) cs = omega (arith, one_same (has_name x (option_name o)))
own_scoped x l cs = omega arith

mutual
  all_scoped : (x : Name) (t : Tree) → listed x t + how_many (own_at x) t ≤ scopes x t
  all_scoped x (node l ss cs) = omega (arith, own_scoped x l cs, each_scoped x cs)

  each_scoped : (x : Name) (ts : Forest) → listed_all x ts + how_many_in (own_at x) ts ≤ scopes_all x ts
  each_scoped x ε = omega arith
  each_scoped x (t ⊳ ts) = omega (arith, all_scoped x t, each_scoped x ts)

-- names of declarators are identifiers

own_identifier : (x : Name) (l : Label) → good_names l ≡ true → declares_lexical x l ≡ true → is_identifier x.text ≡ true
own_identifier x (Declarator Let y) g e = ap (λ z. is_identifier z.text) (same_name_path x y e) ∙ g
own_identifier x (Declarator Const y) g e = ap (λ z. is_identifier z.text) (same_name_path x y e) ∙ g
own_identifier x (Declarator Var y) g e = absurd (false≢true e)
own_identifier x l g e = absurd (false≢true e)

mutual
  lexical_identifier : (x : Name) (t : Tree) → valid t ≡ true → 1 ≤ how_many (at declares_lexical x) t → is_identifier x.text ≡ true
  lexical_identifier x (node l ss cs) v h = by (declares_lexical x l) refl h (each_identifier x cs (and_parts (good_names l && good_shape l cs) (valid_all cs) v).1)
    where
      by : (b : Bool) → declares_lexical x l ≡ b → 1 ≤ one b + how_many_in (at declares_lexical x) cs → (1 ≤ how_many_in (at declares_lexical x) cs → is_identifier x.text ≡ true) → is_identifier x.text ≡ true
      by true e h f = own_identifier x l (and_parts (good_names l) (good_shape l cs) (and_parts (good_names l && good_shape l cs) (valid_all cs) v).0).0 e
      by false e h f = f (omega (arith, h))

  each_identifier : (x : Name) (ts : Forest) → valid_all ts ≡ true → 1 ≤ how_many_in (at declares_lexical x) ts → is_identifier x.text ≡ true
  each_identifier x ε v h = absurd (omega (arith, h))
  each_identifier x (t ⊳ ts) v h = let q = and_parts (valid t) (valid_all ts) v in by (how_many (at declares_lexical x) t) refl (lexical_identifier x t q.0) (each_identifier x ts q.1)
    where
      by : (n : ℕ) → how_many (at declares_lexical x) t ≡ n → (1 ≤ how_many (at declares_lexical x) t → is_identifier x.text ≡ true) → (1 ≤ how_many_in (at declares_lexical x) ts → is_identifier x.text ≡ true) → is_identifier x.text ≡ true
      by zero e f g = g (omega (arith, h, e))
      by (suc n) e f g = f (omega (arith, e))

-- a name that a node declares is bound by a scope
pub declared_bound : (l : Label) (ss : List Span) (cs : Forest) → is_whole l ≡ true → is_shaped (node l ss cs) ≡ true → valid (node l ss cs) ≡ true → fits (node l ss cs) ≡ true → (x : Name) → 1 ≤ how_many (at declares x) (node l ss cs) → scopes x (node l ss cs) ≡ 0 → ⊥
declared_bound l ss cs i a v f x h e = omega (arith, h, all_times x (node l ss cs), none_declared x l ss cs i a v f (omega (arith, e, all_scoped x (node l ss cs))), all_scoped x (node l ss cs), e)

default_word : is_identifier default_name.text ≡ false
unfolding is_identifier
default_word = refl

pub lexical_sole : (x : Name) (l : Label) (ss : List Span) (cs : Forest) → is_whole l ≡ true → is_shaped (node l ss cs) ≡ true → valid (node l ss cs) ≡ true → fits (node l ss cs) ≡ true → scopes x (node l ss cs) ≤ 1 → 1 ≤ how_many (at declares_lexical x) (node l ss cs) → Sole (node l ss cs) x
lexical_sole x l ss cs i a v f b h = record {
  not_default = false_from_ne_true (is_default x) (λ e. true≢false (sym (lexical_identifier x t v h) ∙ ap (λ z. is_identifier z.text) (same_name_path x default_name e) ∙ default_word));
  once = omega (arith, h, with_variables x t, all_times x t, all_lexical x t, one_declared x l ss cs i a v f (omega (arith, b, all_scoped x t)) (omega (arith, h, all_lexical x t)), unnamed);
}
  where
    t : Tree
    t = node l ss cs

    none : (n : ℕ) → listed x t ≡ n → n ≡ 0 → ⊥
    none n e z = omega (arith, h, all_lexical x t, none_declared x l ss cs i a v f (omega (arith, e, z)))

    -- no function and no handler has the name
    unnamed : how_many (own_at x) t ≡ 0
    unnamed = by (listed x t) refl
      where
        by : (n : ℕ) → listed x t ≡ n → how_many (own_at x) t ≡ 0
        by zero e = absurd (none zero e refl)
        by (suc n) e = omega (arith, b, e, all_scoped x t)
