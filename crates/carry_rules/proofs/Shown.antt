-- Names that are ready behind a tree were so before, or are declared there.
use Rattle.std.proofs.Common.{◌≡◌, Bool, true, false, not, ◌&&◌, ◌||◌, List, [], ◌∷◌, refl, sym, ◌∙◌, ◌⊎◌, inl, inr, if◌then◌else◌}
use Rattle.std.proofs.lemmas.Bool.{and_parts, and_from, or_cases, or_left, or_right, false≢true, true≢false, not-true}
use Rattle.swc_ast.specs.Labels.{is_params, is_declaration}
use Rattle.swc_ast.specs.declared.Span.{Span}
use Rattle.swc_ast.specs.declared.VarDeclKind.{VarDeclKind}
use Rattle.swc_ast.specs.declared.VarDeclKind.TheVariants.{Var, Let, Const}
use Rattle.swc_ast.specs.Tree.{Name, same_name, Label, Params, CaseBody, VarDecl, Declarator, ExportDecl, Tree, node, Forest, ε, ◌⊳◌}
use Rattle.swc_ast.specs.Scope.{has_name, param_names}
use Rattle.static_proofs.specs.Shaped.{is_statement, is_declarator_of, is_one_declaration, labels_of, all_labels, holds, is_shaped, are_shaped}
use Rattle.static_proofs.proofs.Names.{same_name_swap}
use Rattle.link_proofs.specs.Links.{is_group}
use Rattle.carry_rules.specs.Carry.{Pass, Facts, declares_lexical, Carried, keeps_names, enter, leave, behind, after, after_all, ready_at}
use Rattle.carry_rules.proofs.Sound.{waits_in, waits_all}

-- names that are ready behind a node
abbrev mutual
  pub shown : Tree → Name → Bool
  shown (node l ss cs) x = declares_lexical x l || ((is_params l && has_name x (param_names cs)) || (keeps_names l && shown_all cs x))

  pub shown_all : Forest → Name → Bool
  shown_all ε x = false
  shown_all (t ⊳ ts) x = shown t x || shown_all ts x

-- those behind a node that is no list of parameters wait for their values

abbrev pub no_params : Label → Bool
no_params l = not (is_params l)

statement_no_params : (l : Label) → is_statement l ≡ true → no_params l ≡ true
statement_no_params Params e = absurd (false≢true e)
statement_no_params l e = refl

declared_no_params : (l : Label) → is_declaration l ≡ true → no_params l ≡ true
declared_no_params Params e = absurd (false≢true e)
declared_no_params l e = refl

params_no_declarator : (k : VarDeclKind) → is_declarator_of k Params ≡ true → ⊥
params_no_declarator Var e = false≢true e
params_no_declarator Let e = false≢true e
params_no_declarator Const e = false≢true e

declarator_no_params : (k : VarDeclKind) (l : Label) → is_declarator_of k l ≡ true → no_params l ≡ true
declarator_no_params k Params e = absurd (params_no_declarator k e)
declarator_no_params k l e = refl

all_no_params : (q : Label → Bool) → ((l : Label) → q l ≡ true → no_params l ≡ true) → (ls : List Label) → all_labels q ls ≡ true → all_labels no_params ls ≡ true
all_no_params q f [] e = refl
all_no_params q f (l ∷ ls) e = let r = and_parts (q l) (all_labels q ls) e in and_from (no_params l) (all_labels no_params ls) (f l r.0) (all_no_params q f ls r.1)

one_no_params : (ls : List Label) → is_one_declaration ls ≡ true → all_labels no_params ls ≡ true
one_no_params [] e = absurd (false≢true e)
one_no_params (l ∷ []) e = and_from (no_params l) true (declared_no_params l e) refl
one_no_params (l ∷ m ∷ ls) e = absurd (false≢true e)

kept_group : (l : Label) → keeps_names l ≡ true → no_params l ≡ true → is_group l ≡ true
kept_group Params e n = absurd (false≢true n)
kept_group (VarDecl k) e n = refl
kept_group ExportDecl e n = refl
kept_group CaseBody e n = refl
kept_group l e n = absurd (false≢true e)

kept_children : (l : Label) (ls : List Label) → keeps_names l ≡ true → no_params l ≡ true → holds l ls ≡ true → all_labels no_params ls ≡ true
kept_children Params ls e n h = absurd (false≢true n)
kept_children (VarDecl k) ls e n h = all_no_params (is_declarator_of k) (declarator_no_params k) ls h
kept_children ExportDecl ls e n h = one_no_params ls h
kept_children CaseBody ls e n h = all_no_params is_statement statement_no_params ls h
kept_children l ls e n h = absurd (false≢true e)

mutual
  pub shown_waits : (t : Tree) (x : Name) → is_shaped t ≡ true → all_labels no_params (labels_of (t ⊳ ε)) ≡ true → shown t x ≡ true → waits_in t x ≡ true
  shown_waits (node l ss cs) x h i e = first (or_cases (declares_lexical x l) ((is_params l && has_name x (param_names cs)) || (keeps_names l && shown_all cs x)) e) (λ f g. shown_all_waits cs x f g)
    where
      none : no_params l ≡ true
      none = (and_parts (no_params l) true i).0

      first : (declares_lexical x l ≡ true) ⊎ (((is_params l && has_name x (param_names cs)) || (keeps_names l && shown_all cs x)) ≡ true) → (are_shaped cs ≡ true → all_labels no_params (labels_of cs) ≡ true → shown_all cs x ≡ true → waits_all cs x ≡ true) → waits_in (node l ss cs) x ≡ true
      first (inl f) g = or_left (declares_lexical x l) (is_group l && waits_all cs x) f
      first (inr f) g = second (or_cases (is_params l && has_name x (param_names cs)) (keeps_names l && shown_all cs x) f)
        where
          second : ((is_params l && has_name x (param_names cs)) ≡ true) ⊎ ((keeps_names l && shown_all cs x) ≡ true) → waits_in (node l ss cs) x ≡ true
          second (inl f) = absurd (true≢false (sym (and_parts (is_params l) (has_name x (param_names cs)) f).0 ∙ not-true (is_params l) none))
          second (inr f) =
              let q = and_parts (keeps_names l) (shown_all cs x) f in
              let r = and_parts (holds l (labels_of cs)) (are_shaped cs) h in
              or_right (declares_lexical x l) (is_group l && waits_all cs x) (and_from (is_group l) (waits_all cs x) (kept_group l q.0 none) (g r.1 (kept_children l (labels_of cs) q.0 none r.0) q.1))

  pub shown_all_waits : (ts : Forest) (x : Name) → are_shaped ts ≡ true → all_labels no_params (labels_of ts) ≡ true → shown_all ts x ≡ true → waits_all ts x ≡ true
  shown_all_waits ε x h i e = e
  shown_all_waits (node l ss cs ⊳ ts) x h i e =
      let q = and_parts (is_shaped (node l ss cs)) (are_shaped ts) h in
      let r = and_parts (no_params l) (all_labels no_params (labels_of ts)) i in
      by (or_cases (shown (node l ss cs) x) (shown_all ts x) e) (λ f. shown_waits (node l ss cs) x q.0 (and_from (no_params l) true r.0 refl) f) (λ f. shown_all_waits ts x q.1 r.1 f)
    where
      by : (shown (node l ss cs) x ≡ true) ⊎ (shown_all ts x ≡ true) → (shown (node l ss cs) x ≡ true → waits_in (node l ss cs) x ≡ true) → (shown_all ts x ≡ true → waits_all ts x ≡ true) → waits_all (node l ss cs ⊳ ts) x ≡ true
      by (inl f) g h = or_left (waits_in (node l ss cs) x) (waits_all ts x) (g f)
      by (inr f) g h = or_right (waits_in (node l ss cs) x) (waits_all ts x) (h f)

module _ (p : Pass) (F : Facts) where
  -- what is ready behind a tree was ready before, or is shown
  abbrev pub Was : Carried → Name → Bool → Type 0
  Was s x b = (s.ready x ≡ true) ⊎ ((b ≡ true) × (F.steady x ≡ true))

  own_ready : (s : Carried) (x y : Name) → (s.ready x || (same_name y x && F.steady x)) ≡ true → Was s x (same_name x y)
  own_ready s x y e = by (or_cases (s.ready x) (same_name y x && F.steady x) e)
    where
      by : (s.ready x ≡ true) ⊎ ((same_name y x && F.steady x) ≡ true) → Was s x (same_name x y)
      by (inl f) = inl f
      by (inr f) = let q = and_parts (same_name y x) (F.steady x) f in inr (sym (same_name_swap y x) ∙ q.0, q.1)

  behind_ready : (l : Label) (ss : List Span) (cs : Forest) (s : Carried) (x : Name) → (behind p F l ss cs s).ready x ≡ true → Was s x (declares_lexical x l)
  behind_ready (Declarator Var y) ss cs s x e = inl e
  behind_ready (Declarator Let y) ss cs s x e = own_ready s x y e
  behind_ready (Declarator Const y) ss cs s x e = own_ready s x y e
  behind_ready l ss cs s x e = inl e

  kept_ready : (l : Label) (cs : Forest) (x : Name) → keeps_names l ≡ true → ready_at l cs x ≡ true → (is_params l && has_name x (param_names cs)) ≡ true
  kept_ready Params cs x e f = f
  kept_ready (VarDecl k) cs x e f = absurd (false≢true f)
  kept_ready ExportDecl cs x e f = absurd (false≢true f)
  kept_ready CaseBody cs x e f = absurd (false≢true f)
  kept_ready l cs x e f = absurd (false≢true e)

  abbrev Inner : Label → Forest → Name → Bool
  Inner l cs x = (is_params l && has_name x (param_names cs)) || (keeps_names l && shown_all cs x)

  left_ready : (l : Label) (ss : List Span) (cs : Forest) (s t : Carried) (x : Name) → Was (enter p F l ss cs s) x (shown_all cs x) ⊎ (keeps_names l ≡ false) → keeps_names l ≡ true → Was s x (Inner l cs x)
  left_ready l ss cs s t x (inr f) k = absurd (true≢false (sym k ∙ f))
  left_ready l ss cs s t x (inl (inr f)) k = inr (or_right (is_params l && has_name x (param_names cs)) (keeps_names l && shown_all cs x) (and_from (keeps_names l) (shown_all cs x) k f.0), f.1)
  left_ready l ss cs s t x (inl (inl f)) k = by (or_cases (s.ready x) (ready_at l cs x && F.steady x) f)
    where
      by : (s.ready x ≡ true) ⊎ ((ready_at l cs x && F.steady x) ≡ true) → Was s x (Inner l cs x)
      by (inl f) = inl f
      by (inr f) = let q = and_parts (ready_at l cs x) (F.steady x) f in inr (or_left (is_params l && has_name x (param_names cs)) (keeps_names l && shown_all cs x) (kept_ready l cs x k q.0), q.1)

  chosen_ready : (l : Label) (ss : List Span) (cs : Forest) (s t : Carried) (x : Name) → (t.ready x ≡ true → Was (enter p F l ss cs s) x (shown_all cs x)) → (leave p F l s t).ready x ≡ true → Was s x (Inner l cs x)
  chosen_ready l ss cs s t x g = by (keeps_names l) refl
    where
      by : (b : Bool) → keeps_names l ≡ b → (if b then t.ready else s.ready) x ≡ true → Was s x (Inner l cs x)
      by true k e = left_ready l ss cs s t x (inl (g e)) k
      by false k e = inl e

  joined_ready : (l : Label) (cs : Forest) (s r : Carried) (x : Name) → Was r x (declares_lexical x l) → (r.ready x ≡ true → Was s x (Inner l cs x)) → Was s x (declares_lexical x l || Inner l cs x)
  joined_ready l cs s r x (inr f) g = inr (or_left (declares_lexical x l) (Inner l cs x) f.0, f.1)
  joined_ready l cs s r x (inl f) g = by (g f)
    where
      by : Was s x (Inner l cs x) → Was s x (declares_lexical x l || Inner l cs x)
      by (inl h) = inl h
      by (inr h) = inr (or_right (declares_lexical x l) (Inner l cs x) h.0, h.1)

  more_ready : (s r : Carried) (x : Name) (a b : Bool) → Was r x b → (r.ready x ≡ true → Was s x a) → Was s x (a || b)
  more_ready s r x a b (inr f) g = inr (or_right a b f.0, f.1)
  more_ready s r x a b (inl f) g = by (g f)
    where
      by : Was s x a → Was s x (a || b)
      by (inl h) = inl h
      by (inr h) = inr (or_left a b h.0, h.1)

  mutual
    pub ready_after : (s : Carried) (t : Tree) (x : Name) → (after p F s t).ready x ≡ true → Was s x (shown t x)
    ready_after s (node l ss cs) x e =
        joined_ready l cs s (leave p F l s (after_all p F (enter p F l ss cs s) cs)) x (behind_ready l ss cs (leave p F l s (after_all p F (enter p F l ss cs s) cs)) x e)
        (λ f. chosen_ready l ss cs s (after_all p F (enter p F l ss cs s) cs) x (λ g. ready_all_after (enter p F l ss cs s) cs x g) f)

    pub ready_all_after : (s : Carried) (ts : Forest) (x : Name) → (after_all p F s ts).ready x ≡ true → Was s x (shown_all ts x)
    ready_all_after s ε x e = inl e
    ready_all_after s (t ⊳ ts) x e = more_ready s (after p F s t) x (shown t x) (shown_all ts x) (ready_all_after (after p F s t) ts x e) (λ f. ready_after s t x f)
