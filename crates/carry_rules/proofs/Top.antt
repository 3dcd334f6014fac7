-- A whole tree, from where nothing is carried but of names that are never set: modules and scripts do the same, by facts of names alone.
use Rattle.std.proofs.Common.{◌≡◌, ℕ, ◌≤◌, Bool, true, false, List, refl, sym, subst, ◌∙◌, ◌⊎◌, inl, inr, if◌then◌else◌}
use Rattle.std.proofs.lemmas.Bool.{false≢true, true≢false}
use Rattle.std.specs.Prelude.{pos}
use Rattle.swc_ast.specs.declared.Span.{Span}
use Rattle.swc_ast.specs.Tree.{Name, Module, Script, Switch, Tree, node, Forest}
use Rattle.swc_ast.specs.Scope.{has_name, vars, list_binds}
use Rattle.swc_ast.specs.Value.{Value, Undefined}
use Rattle.swc_ast.specs.Run.{Same}
use Rattle.static_proofs.specs.Shaped.{labels_of}
use Rattle.link_proofs.specs.Links.{nothing, a_value, Ground, empty_ground, PutTree, put_void, Proper, Good}
use Rattle.carry_rules.specs.Carry.{Pass, constants, inlines, Facts, how_many, Carried, or_put, starting, may_carry, may_settle, enter, after, marks, value_tree, written, written_all, facts, propagated}
use Rattle.carry_rules.specs.Late.{is_late, declares_literal}
use Rattle.carry_rules.specs.Parted.{is_switched, is_parted}
use Rattle.carry_rules.proofs.Sound.{Last, nothing≢value, links, waits_in, Sure, SoundTree, agrees}
use Rattle.carry_rules.proofs.Holding.{Here, Below}
use Rattle.carry_rules.proofs.Each.{Rest}
use Rattle.carry_rules.proofs.Others.{method_good, try_good}
use Rattle.carry_rules.proofs.Loops.{for_good}
use Rattle.carry_rules.proofs.Settling.{variable_at, settled_in, settles_of, settled_never}
use Rattle.carry_rules.proofs.Agreeing.{lexical_at, all_bare, agrees_after, never_after}
use Rattle.carry_rules.proofs.Valued.{Has, BothHave, after_have, settled_have, both_has}
use Rattle.carry_rules.proofs.Literals.{literal_early, reexported_early}
use Rattle.carry_rules.proofs.Final.{module_same, script_same}

-- names that a pass takes for undefined from the start
abbrev pub idle : Pass → Facts → Name → Bool
idle constants F x = false
idle inlines F x = F.unset x

-- what is carried in the end
abbrev pub carried_last : Pass → Facts → Tree → Last
carried_last p F t = record { values = (after p F (starting p F) t).values; settled = settled_in p F (starting p F) t; idle = idle p F }

-- what the facts of a tree's names have to say
pub record Founded (p : Pass) (F : Facts) (lex : Name → Bool) (mark : ℕ) (t : Tree) : Type 0 where
  pub sure : Sure p F (carried_last p F t) lex
  pub sound : SoundTree F lex empty_ground (marks p F (starting p F) t)
  pub once : (x : Name) → may_carry p F x ≡ true → how_many (lexical_at x) t ≤ 1
  pub settled_once : (x : Name) → may_settle p F p x ≡ true → how_many (variable_at x) t ≤ 1
  pub bare : all_bare (carried_last p F t) t
  pub proper : Proper (links F (carried_last p F t)) mark
  pub parted : is_parted t ≡ true

-- nothing else is carried at the start
pub starts_idle : (p : Pass) (F : Facts) (x : Name) → idle p F x ≡ false → (starting p F).values x ≡ nothing
starts_idle constants F x e = refl
starts_idle inlines F x e = by (F.unset x) e
  where
    by : (b : Bool) → b ≡ false → (if b then a_value Undefined else nothing) ≡ nothing
    by false e = refl
    by true e = absurd (true≢false e)

pub starts_settled : (p : Pass) (F : Facts) (x : Name) → (starting p F).settled x ≡ nothing
starts_settled constants F x = refl
starts_settled inlines F x = refl

pub starts_ready : (p : Pass) (F : Facts) (x : Name) → (starting p F).ready x ≡ true → ⊥
starts_ready constants F x e = false≢true e
starts_ready inlines F x e = false≢true e

starts_loud : (p : Pass) (F : Facts) → (starting p F).quiet ≡ false
starts_loud constants F = refl
starts_loud inlines F = refl

pub undefined_at : (p : Pass) (F : Facts) (x : Name) → idle p F x ≡ true → (starting p F).values x ≡ a_value Undefined
undefined_at constants F x e = absurd (false≢true e)
undefined_at inlines F x e = by (F.unset x) e
  where
    by : (b : Bool) → b ≡ true → (if b then a_value Undefined else nothing) ≡ a_value Undefined
    by true e = refl
    by false e = absurd (false≢true e)

pub starts_valued : (p : Pass) (F : Facts) (x : Name) (v : Value) → (starting p F).values x ≡ a_value v → Has v
starts_valued p F x v e = by (idle p F x) refl
  where
    value_same : {a b : Value} → a_value a ≡ a_value b → a ≡ b
    value_same e = cc

    by : (b : Bool) → idle p F x ≡ b → Has v
    by true i = subst Has (value_same (sym (undefined_at p F x i) ∙ e)) (λ ss. put_void (pos 0))
    by false i = absurd (nothing≢value v (sym (starts_idle p F x i) ∙ e))

-- the one kind of node that is not shown to be good yet
abbrev pub SwitchGood : {p : Pass} {F : Facts} {E : Last} {lex : Name → Bool} → Sure p F E lex → Type 0
SwitchGood {p} {F} {E} {lex} sure = (s : Carried) (G : Ground) (ds : List Bool) (ss : List Span) (cs : Forest) → is_switched (labels_of cs) ≡ true → Below sure cs → Here p F E lex s G (node (Switch ds) ss cs) → Good (links F E) G (marks p F s (node (Switch ds) ss cs))

pub rest_of : {p : Pass} {F : Facts} {E : Last} {lex : Name → Bool} (sure : Sure p F E lex) → SwitchGood sure → Rest sure
rest_of sure w = record { for_good = for_good sure; switch_good = w; try_good = try_good sure; method_good = method_good sure }

module _ {p : Pass} {F : Facts} {lex : Name → Bool} {mark : ℕ} where
  agreed : (t : Tree) → Founded p F lex mark t → agrees p F (carried_last p F t) (starting p F) t
  agreed t f = agrees_after p F (carried_last p F t) (λ x n i. never_after p F x n (starting p F) t ∙ starts_idle p F x i) f.sure.idle_value (starting p F) t (record { once = λ x e n. f.once x e; unset = λ x e n i. starts_idle p F x n; ends = λ x e n i. refl }) f.bare
      (settles_of p F (settled_in p F (starting p F) t) (λ x n. settled_never p F (starting p F) t x n) (starting p F) t (record { once = f.settled_once; is = λ x e i. refl }))

  pub starts_right : (t : Tree) → Founded p F lex mark t → (x : Name) → ((starting p F).values x ≡ nothing) ⊎ ((starting p F).values x ≡ (carried_last p F t).values x)
  starts_right t f x = by (idle p F x) refl
    where
      by : (b : Bool) → idle p F x ≡ b → ((starting p F).values x ≡ nothing) ⊎ ((starting p F).values x ≡ (carried_last p F t).values x)
      by false e = inl (starts_idle p F x e)
      by true e = inr (undefined_at p F x e ∙ sym (f.sure.idle_value x e))

  pub here_of : (t : Tree) → Founded p F lex mark t → ((x : Name) → waits_in t x ≡ false) → ((x : Name) → has_name x (vars (marks p F (starting p F) t)) ≡ false) → Here p F (carried_last p F t) lex (starting p F) empty_ground t
  here_of t f w v = record {
    names = λ x. false;
    more = λ x e. e;
    stands = record { ready = λ x e. absurd (starts_ready p F x e); right = λ x. starts_right t f x; settled = λ x. inl (starts_settled p F x) };
    agree = agreed t f;
    firm = record { closed = λ y x e n. absurd (false≢true n); settled_named = λ x e. absurd (false≢true e); settled_closed = λ y x e i. absurd (false≢true e); sets_named = λ x e. absurd (false≢true e) };
    sound = f.sound;
    within = λ x g e. absurd (false≢true (sym (w x) ∙ e));
    sets = λ x g h e. absurd (false≢true (sym (v x) ∙ e));
  }

  -- a value that is carried is one that a literal has, or undefined
  pub valued : (t : Tree) → Founded p F lex mark t → (y : Name) (v : Value) (ss : List Span) → or_put ((carried_last p F t).values y) ((carried_last p F t).settled y) ≡ a_value v → PutTree v (value_tree v ss)
  valued t f y v ss e = both_has p F (carried_last p F t) (after_have p F (starting p F) t have).0 (settled_have p F (starting p F) t have) y v e ss
    where
      have : BothHave p F (starting p F)
      have = (λ z w i. starts_valued p F z w i, λ z w i. absurd (nothing≢value w (sym (starts_settled p F z) ∙ i)))

  pub module_carried : (loads : Bool) (ss : List Span) (cs : Forest) (f : Founded p F lex mark (node Module ss cs)) → SwitchGood f.sure → Same mark loads (node Module ss cs) (written p F (starting p F) (node Module ss cs))
  module_carried loads ss cs f w = module_same f.sure (rest_of f.sure w) (valued (node Module ss cs) f) f.proper loads (starting p F) ss cs (here_of (node Module ss cs) f (λ x. refl) (λ x. refl)) f.parted

  pub script_carried : (loads : Bool) (ss : List Span) (cs : Forest) (f : Founded p F lex mark (node Script ss cs)) → SwitchGood f.sure → Same mark loads (node Script ss cs) (written p F (starting p F) (node Script ss cs))
  script_carried loads ss cs f w = script_same f.sure (rest_of f.sure w) (valued (node Script ss cs) f) f.proper loads (starting p F) ss cs (here_of (node Script ss cs) f (λ x. refl) (λ x. refl)) f.parted

  -- no read of a name that is declared with a literal stands later than its declaration
  pub literals_early : (t : Tree) → Founded p F lex mark t → (x : Name) → may_carry p F x ≡ true → 1 ≤ how_many (declares_literal p x) t → is_late p x (written p F (starting p F) t) ≡ false
  literals_early t f x c h = literal_early f.sure f.proper x c (starting p F) t (agreed t f) (record { loud = starts_loud p F; right = λ y. starts_right t f y; laid = λ y. inl (starts_settled p F y) }) (f.once x c) h

-- so it is in what becomes of a module or a script
pub module_early : (p : Pass) (lex : Name → Bool) (mark : ℕ) (ss : List Span) (cs : Forest) → Founded p (facts (node Module ss cs)) lex mark (node Module ss cs) → (x : Name) → may_carry p (facts (node Module ss cs)) x ≡ true → 1 ≤ how_many (declares_literal p x) (node Module ss cs) → is_late p x (propagated p (node Module ss cs)) ≡ false
module_early constants lex mark ss cs f x c h =
    let t : Tree = node Module ss cs in
    let s : Carried = starting constants (facts t) in
    reexported_early constants x (list_binds cs) (after constants (facts t) s t).values ss (written_all constants (facts t) (enter constants (facts t) Module ss cs s) cs) (literals_early t f x c h)
module_early inlines lex mark ss cs f x c h = literals_early (node Module ss cs) f x c h

pub script_early : (p : Pass) (lex : Name → Bool) (mark : ℕ) (ss : List Span) (cs : Forest) → Founded p (facts (node Script ss cs)) lex mark (node Script ss cs) → (x : Name) → may_carry p (facts (node Script ss cs)) x ≡ true → 1 ≤ how_many (declares_literal p x) (node Script ss cs) → is_late p x (propagated p (node Script ss cs)) ≡ false
script_early constants lex mark ss cs f x c h = literals_early (node Script ss cs) f x c h
script_early inlines lex mark ss cs f x c h = literals_early (node Script ss cs) f x c h
