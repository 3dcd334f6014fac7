-- Parameters of functions, where they are called.
use Rattle.std.proofs.Common.{◌≡◌, ℕ, ◌+◌, ◌≤◌, Bool, true, false, ◌&&◌, ◌||◌, List, ◌++◌, Option, Some, None, refl, sym, ap, subst, ◌∙◌, arith, ◌⊎◌, inl, inr}
use Rattle.std.proofs.lemmas.Bool.{and_parts, and_from, or_cases, or_left, or_right, false≢true, true≢false}
use Rattle.swc_ast.specs.Labels.{is_param}
use Rattle.swc_ast.specs.declared.Span.{Span}
use Rattle.swc_ast.specs.Tree.{Name, same_name, Label, Param, Tree, node, Forest, ε, ◌⊳◌}
use Rattle.swc_ast.specs.Scope.{has_name, param_name, param_names}
use Rattle.swc_ast.specs.Value.{Value}
use Rattle.static_proofs.specs.Shaped.{is_inner, labels_of, all_labels}
use Rattle.static_proofs.proofs.Names.{same_name_path, same_name_itself}
use Rattle.link_proofs.specs.Links.{Ground, empty_ground, Splits, OpensParams, Opens, ParamFits, no_fixed, waits, GoodParams, no_params, a_param}
use Rattle.carry_rules.specs.Carry.{Pass, Facts, declares, one, how_many, how_many_in, Carried, read_put, mark_of, enter, after, marks_all}
use Rattle.carry_rules.proofs.Sound.{Last, link_of, known_of, fixed, links, waits_all, declares_at, Sure, Other, every_all}
use Rattle.carry_rules.proofs.Shown.{no_params as are_no_params}
use Rattle.carry_rules.proofs.Places.{alone, inner_alone, all_are, loose}
use Rattle.carry_rules.proofs.Holding.{HereAll, head_here, tail_here, Known, Below, none_below, more_below, below_known, link_fixed, link_lexical, known_is, Knows, knows_lexical, knows_unset, fixed_link, constant_is_fixed}
use Rattle.carry_rules.proofs.Simple.{holds_here, simple_goods}

pub params_same : (p : Pass) (F : Facts) (s : Carried) (ts : Forest) → param_names (marks_all p F s ts) ≡ param_names ts
params_same p F s ε = refl
params_same p F s (node l ss cs ⊳ ts) = ap (λ xs. param_name l ++ xs) (params_same p F (after p F s (node l ss cs)) ts)

pub params_wait : (ts : Forest) (x : Name) → all_labels is_param (labels_of ts) ≡ true → waits_all ts x ≡ false
params_wait ε x a = refl
params_wait (node l ss cs ⊳ ts) x a = let q = and_parts (is_param l) (all_labels is_param (labels_of ts)) a in by l q.0 (params_wait ts x q.1)
  where
    by : (l : Label) → is_param l ≡ true → waits_all ts x ≡ false → waits_all (node l ss cs ⊳ ts) x ≡ false
    by (Param y) i h = h
    by l i h = absurd (false≢true i)

param_counted : (x y : Name) → same_name x y ≡ true → 1 ≤ one (declares x (Param y))
param_counted x y e = subst (λ b. 1 ≤ one b) (sym e) (omega arith)

pub params_counted : (ts : Forest) (x : Name) → has_name x (param_names ts) ≡ true → 1 ≤ how_many_in (declares_at x) ts
params_counted ε x e = absurd (false≢true e)
params_counted (node (Param y) ss cs ⊳ ts) x e = by (or_cases (same_name x y) (has_name x (param_names ts)) e) (params_counted ts x)
  where
    by : (same_name x y ≡ true) ⊎ (has_name x (param_names ts) ≡ true) → (has_name x (param_names ts) ≡ true → 1 ≤ how_many_in (declares_at x) ts) → 1 ≤ how_many_in (declares_at x) (node (Param y) ss cs ⊳ ts)
    by (inl f) g = omega (arith, param_counted x y f)
    by (inr f) g = omega (arith, g f)
params_counted (node l ss cs ⊳ ts) x e = rest x ts (how_many (declares_at x) (node l ss cs)) (params_counted ts x e)
  where
    rest : (x : Name) (ts : Forest) (n : ℕ) → 1 ≤ how_many_in (declares_at x) ts → 1 ≤ n + how_many_in (declares_at x) ts
    rest x ts n h = omega (arith, h)

pub params_other : (F : Facts) (lex : Name → Bool) (ts : Forest) (x : Name) → every_all F lex ts → has_name x (param_names ts) ≡ true → Other F lex x
params_other F lex ε x s e = absurd (false≢true e)
params_other F lex (node (Param y) ss cs ⊳ ts) x s e = by (or_cases (same_name x y) (has_name x (param_names ts)) e) (params_other F lex ts x s.1)
  where
    by : (same_name x y ≡ true) ⊎ (has_name x (param_names ts) ≡ true) → (has_name x (param_names ts) ≡ true → Other F lex x) → Other F lex x
    by (inl f) g = subst (Other F lex) (sym (same_name_path x y f)) s.0.0
    by (inr f) g = g f
params_other F lex (node l ss cs ⊳ ts) x s e = params_other F lex ts x s.1 e

module _ {p : Pass} {F : Facts} {E : Last} {lex : Name → Bool} (sure : Sure p F E lex) where
  -- a name of a parameter, a function or a `catch` stands for nothing
  pub other_unlinked : (x : Name) → Other F lex x → link_of (E.values x) ≡ None
  other_unlinked x h = by (link_of (E.values x)) refl
    where
      by : (o : Option Name) → link_of (E.values x) ≡ o → o ≡ None
      by None e = refl
      by (Some y) e = absurd (true≢false (sym (link_lexical sure x y e) ∙ h.0 (link_fixed sure x y e)))

  pub other_unknown : (x : Name) → Other F lex x → known_of (E.values x) ≡ None
  other_unknown x h = by (known_of (E.values x)) refl
    where
      by : (o : Option Value) → known_of (E.values x) ≡ o → o ≡ None
      by None e = refl
      by (Some v) e = absurd (at v (known_is sure x v e))
        where
          at : (v : Value) → Knows sure x v → ⊥
          at v (knows_lexical f l) = true≢false (sym l ∙ h.0 f)
          at v (knows_unset u i) = true≢false (sym u ∙ h.1)

  pub other_no_constant : (x : Name) → Other F lex x → F.constant x ≡ false
  other_no_constant x h = by (F.constant x) refl
    where
      by : (b : Bool) → F.constant x ≡ b → b ≡ false
      by false e = refl
      by true e = absurd (true≢false (sym (sure.constant_lexical x e) ∙ h.0 (constant_is_fixed sure x e)))

  abbrev pub waits_param : List Name → Name → Bool
  waits_param P x = fixed F x && has_name x P

  pub opens_params : {G : Ground} (ts : Forest) → every_all F lex ts → Opens (links F E) G (λ x. has_name x (param_names ts)) → OpensParams (links F E) G (waits_param (param_names ts)) (param_names ts)
  opens_params {G} ts s o = record {
    opens = o;
    waiting = λ x e. (and_parts (fixed F x) (has_name x (param_names ts)) e).1;
    waiting_fixed = λ x e. fixed_link sure x (and_parts (fixed F x) (has_name x (param_names ts)) e).0;
    unlinked = λ y x e. none y (λ h. absurd (some≢none (sym e ∙ other_unlinked y h)));
    unknown = λ y v e. none y (λ h. absurd (some≢none (sym e ∙ other_unknown y h)));
    no_constant = λ x e. none x (λ h. absurd (true≢false (sym e ∙ other_no_constant x h)));
  }
    where
      some≢none : {A : Type 0} {a : A} → Some a ≡ None → ⊥
      some≢none e = cc

      none : (y : Name) → (Other F lex y → ⊥) → has_name y (param_names ts) ≡ false
      none y f = by (has_name y (param_names ts)) refl
        where
          by : (b : Bool) → has_name y (param_names ts) ≡ b → b ≡ false
          by false e = refl
          by true e = absurd (f (params_other F lex ts y s e))

  param_splits : (x : Name) (ss : List Span) (cs ts : Forest) → ((y : Name) → fixed F y ≡ true → how_many_in (declares_at y) (node (Param x) ss cs ⊳ ts) ≤ 1) → Splits (waits_param (param_names (node (Param x) ss cs ⊳ ts))) (λ y. fixed F y && same_name y x) (waits_param (param_names ts))
  param_splits x ss cs ts h = record {
    first = λ y e. let q = and_parts (fixed F y) (same_name y x) e in and_from (fixed F y) (same_name y x || has_name y (param_names ts)) q.0 (or_left (same_name y x) (has_name y (param_names ts)) q.1);
    second = λ y e. let q = and_parts (fixed F y) (has_name y (param_names ts)) e in and_from (fixed F y) (same_name y x || has_name y (param_names ts)) q.0 (or_right (same_name y x) (has_name y (param_names ts)) q.1);
    apart = λ y e f. let q = and_parts (fixed F y) (same_name y x) e in let r = and_parts (fixed F y) (has_name y (param_names ts)) f in absurd (omega (arith, h y q.0, param_counted y x q.1, params_counted ts y r.1));
  }

  param_fits : (x : Name) → F.variable x ≡ false → F.unset x ≡ false → ParamFits (links F E) (λ y. fixed F y && same_name y x) x
  param_fits x v u = by (fixed F x) refl
    where
      by : (b : Bool) → fixed F x ≡ b → ParamFits (links F E) (λ y. fixed F y && same_name y x) x
      by true e = waits (and_from (fixed F x) (same_name x x) e (same_name_itself x))
      by false e = no_fixed (loose sure empty_ground x e u) v

  pub good_params : {ts : Forest} → Below sure ts → (s : Carried) (G : Ground) → HereAll p F E lex s G ts → all_labels is_param (labels_of ts) ≡ true → GoodParams (links F E) G (waits_param (param_names (marks_all p F s ts))) (marks_all p F s ts)
  good_params none_below s G h a = no_params
  good_params (more_below {t} {ts} k b) s G h a = by t k h a (λ n i. good_params b (after p F s t) G (tail_here sure n h) i)
    where
      by : (t : Tree) → Known sure t → HereAll p F E lex s G (t ⊳ ts) → all_labels is_param (labels_of (t ⊳ ts)) ≡ true
          → (all_labels are_no_params (labels_of (t ⊳ ε)) ≡ true → all_labels is_param (labels_of ts) ≡ true → GoodParams (links F E) G (waits_param (param_names (marks_all p F (after p F s t) ts))) (marks_all p F (after p F s t) ts)) → GoodParams (links F E) G (waits_param (param_names (marks_all p F s (t ⊳ ts)))) (marks_all p F s (t ⊳ ts))
      by (node l ss cs) k h a rest = at l (and_parts (is_param l) (all_labels is_param (labels_of ts)) a) k h rest
        where
          at : (l : Label) → (is_param l ≡ true) × (all_labels is_param (labels_of ts) ≡ true) → Known sure (node l ss cs) → HereAll p F E lex s G (node l ss cs ⊳ ts)
              → (all_labels are_no_params (labels_of (node l ss cs ⊳ ε)) ≡ true → all_labels is_param (labels_of ts) ≡ true → GoodParams (links F E) G (waits_param (param_names (marks_all p F (after p F s (node l ss cs)) ts))) (marks_all p F (after p F s (node l ss cs)) ts)) → GoodParams (links F E) G (waits_param (param_names (marks_all p F s (node l ss cs ⊳ ts)))) (marks_all p F s (node l ss cs ⊳ ts))
          at (Param x) q k h rest =
              a_param x (λ y. fixed F y && same_name y x) (waits_param (param_names (marks_all p F (after p F s (node (Param x) ss cs)) ts))) (param_splits x (mark_of (read_put p s (Param x))) (marks_all p F (enter p F (Param x) ss cs s) cs) (marks_all p F (after p F s (node (Param x) ss cs)) ts) h.list.sound.once)
              (other_unlinked x h.list.sound.sits.0.0) (other_unknown x h.list.sound.sits.0.0) (param_fits x h.list.sound.stays.0.0 h.list.sound.sits.0.0.1)
              (simple_goods sure (Param x) ss cs (below_known sure k) (head_here sure h) (λ x e. false≢true e) refl (inr refl) (all_are is_inner alone inner_alone (labels_of cs) (holds_here sure (Param x) ss cs (head_here sure h)))) (rest refl q.1)
          at l q k h rest = absurd (false≢true q.0)
