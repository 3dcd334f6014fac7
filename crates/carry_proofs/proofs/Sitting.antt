-- Each node of a tree sits as the facts of the tree say.
use Rattle.std.proofs.Common.{◌≡◌, ◌≤◌, Bool, true, not, ◌==◌, [], Some, None, refl, sym, ◌∙◌, arith}
use Rattle.std.proofs.lemmas.Bool.{true≢false}
use Rattle.swc_ast.specs.declared.VarDeclKind.TheVariants.{Var, Let, Const}
use Rattle.swc_ast.specs.Tree.{Name, Label, Fn, Param, Assign, Update, Try, Declarator, FnDecl, ImportNamed, ImportDefault, ImportStar, ExportDefaultFn, Tree, node, Forest, ε, ◌⊳◌}
use Rattle.carry_rules.specs.Carry.{facts, writes, declares_lexical, declares_variable, imports, declares_other, one, how_many, how_many_in}
use Rattle.carry_rules.proofs.Sound.{Last, Sits, every, every_all, Stays, all_stay, each_stays}
use Rattle.carry_rules.proofs.Agreeing.{Bare, all_bare, each_bare}
use Rattle.carry_proofs.proofs.Counts.{at, declares_let, one_itself, one_among}
use Rattle.carry_proofs.proofs.Steady.{is_lexical, written_unsteady, let_no_constant, variable_unfixed, import_unfixed, other_other, written_moves, lexical_moves, import_moves, other_moves}
use Rattle.carry_rules.specs.Voids.{declares_set}
use Rattle.carry_proofs.proofs.Unset.{written_set, other_set, import_set, valued_set, unset_steady}

module _ (t : Tree) where
  -- names of `let` and `const`
  abbrev pub lex : Name → Bool
  lex x = not (how_many (at declares_lexical x) t == 0)

  -- no test of labels holds of more nodes of a tree than of nodes of this one
  abbrev pub Under : Tree → Type 0
  Under u = (q : Label → Bool) → how_many (λ l cs. q l) u ≤ how_many (λ l cs. q l) t

  own_sits : (l : Label) → ((q : Label → Bool) → one (q l) ≤ how_many (λ m cs. q m) t) → Sits (facts t) lex l
  own_sits (Assign op x) b = written_unsteady t x (omega (arith, b (writes x), one_itself x))
  own_sits (Update op prefix x) b = written_unsteady t x (omega (arith, b (writes x), one_itself x))
  own_sits (Declarator Var x) b = variable_unfixed t x (omega (arith, b (declares_variable x), one_itself x))
  own_sits (Declarator Let x) b = (let_no_constant t x (omega (arith, b (declares_let x), one_itself x)), is_lexical t x (omega (arith, b (declares_lexical x), one_itself x)))
  own_sits (Declarator Const x) b = is_lexical t x (omega (arith, b (declares_lexical x), one_itself x))
  own_sits (Param x) b = (other_other t x (omega (arith, b (declares_other x), one_itself x)), other_set t x (omega (arith, b (declares_other x), one_itself x)))
  own_sits (FnDecl x) b = (other_other t x (omega (arith, b (declares_other x), one_itself x)), other_set t x (omega (arith, b (declares_other x), one_itself x)))
  own_sits (Fn None) b = tt
  own_sits (Fn (Some x)) b = (other_other t x (omega (arith, b (declares_other x), one_among x [])), other_set t x (omega (arith, b (declares_other x), one_among x [])))
  own_sits (ExportDefaultFn None) b = tt
  own_sits (ExportDefaultFn (Some x)) b = (other_other t x (omega (arith, b (declares_other x), one_among x [])), other_set t x (omega (arith, b (declares_other x), one_among x [])))
  own_sits (Try None) b = tt
  own_sits (Try (Some None)) b = tt
  own_sits (Try (Some (Some x))) b = (other_other t x (omega (arith, b (declares_other x), one_among x [])), other_set t x (omega (arith, b (declares_other x), one_among x [])))
  own_sits (ImportNamed x o) b = import_unfixed t x (omega (arith, b (imports x), one_itself x))
  own_sits (ImportDefault x) b = import_unfixed t x (omega (arith, b (imports x), one_itself x))
  own_sits (ImportStar x) b = import_unfixed t x (omega (arith, b (imports x), one_itself x))
  own_sits l b = tt

  own_stays : (l : Label) → ((q : Label → Bool) → one (q l) ≤ how_many (λ m cs. q m) t) → Stays (facts t) l
  own_stays (Assign op x) b = (written_moves t x (omega (arith, b (writes x), one_itself x)), written_set t x (omega (arith, b (writes x), one_itself x)))
  own_stays (Update op prefix x) b = (written_moves t x (omega (arith, b (writes x), one_itself x)), written_set t x (omega (arith, b (writes x), one_itself x)))
  own_stays (Declarator Let x) b = (lexical_moves t x (omega (arith, b (declares_lexical x), one_itself x)), λ u. unset_steady t x u (omega (arith, b (declares_lexical x), one_itself x)))
  own_stays (Declarator Const x) b = (lexical_moves t x (omega (arith, b (declares_lexical x), one_itself x)), λ u. unset_steady t x u (omega (arith, b (declares_lexical x), one_itself x)))
  own_stays (Param x) b = other_moves t x (omega (arith, b (declares_other x), one_itself x))
  own_stays (ImportNamed x o) b = (import_moves t x (omega (arith, b (imports x), one_itself x)), import_set t x (omega (arith, b (imports x), one_itself x)))
  own_stays (ImportDefault x) b = (import_moves t x (omega (arith, b (imports x), one_itself x)), import_set t x (omega (arith, b (imports x), one_itself x)))
  own_stays (ImportStar x) b = (import_moves t x (omega (arith, b (imports x), one_itself x)), import_set t x (omega (arith, b (imports x), one_itself x)))
  own_stays l b = tt

  mutual
    pub all_sit : (u : Tree) → Under u → every (facts t) lex u
    all_sit (node l ss cs) b = (own_sits l (λ q. omega (arith, b q)), each_sits cs (λ q. omega (arith, b q)))

    each_sits : (us : Forest) → ((q : Label → Bool) → how_many_in (λ l cs. q l) us ≤ how_many (λ l cs. q l) t) → every_all (facts t) lex us
    each_sits ε b = tt
    each_sits (u ⊳ us) b = (all_sit u (λ q. omega (arith, b q)), each_sits us (λ q. omega (arith, b q)))

  mutual
    pub all_stays : (u : Tree) → Under u → all_stay (facts t) u
    all_stays (node l ss cs) b = (own_stays l (λ q. omega (arith, b q)), each_stay cs (λ q. omega (arith, b q)))

    each_stay : (us : Forest) → ((q : Label → Bool) → how_many_in (λ l cs. q l) us ≤ how_many (λ l cs. q l) t) → each_stays (facts t) us
    each_stay ε b = tt
    each_stay (u ⊳ us) b = (all_stays u (λ q. omega (arith, b q)), each_stay us (λ q. omega (arith, b q)))

  pub under_itself : Under t
  under_itself q = omega arith

  -- declarators of names that are never set have no first values
  module _ (E : Last) (unset : (x : Name) → E.idle x ≡ true → (facts t).unset x ≡ true) where
    own_bare : (l : Label) (cs : Forest) → ((q : Label → Forest → Bool) → one (q l cs) ≤ how_many q t) → Bare E l cs
    own_bare (Declarator k x) ε b = λ e. refl
    own_bare (Declarator k x) (c ⊳ cs) b = λ e. absurd (true≢false (sym (unset x e) ∙ valued_set t x (omega (arith, b (declares_set x), one_itself x))))
    own_bare l cs b = tt

    mutual
      below_bare : (u : Tree) → ((q : Label → Forest → Bool) → how_many q u ≤ how_many q t) → all_bare E u
      below_bare (node l ss cs) b = (own_bare l cs (λ q. omega (arith, b q)), each_below_bare cs (λ q. omega (arith, b q)))

      each_below_bare : (us : Forest) → ((q : Label → Forest → Bool) → how_many_in q us ≤ how_many q t) → each_bare E us
      each_below_bare ε b = tt
      each_below_bare (u ⊳ us) b = (below_bare u (λ q. omega (arith, b q)), each_below_bare us (λ q. omega (arith, b q)))

    pub all_are_bare : all_bare E t
    all_are_bare = below_bare t (λ q. omega arith)
