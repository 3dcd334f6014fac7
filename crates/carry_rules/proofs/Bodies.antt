-- Functions may be called.
use Rattle.std.proofs.Common.{◌≡◌, ◌+◌, ◌≤◌, Bool, true, false, not, ◌&&◌, ◌||◌, List, [], refl, sym, ap, ◌∙◌, arith, ◌⊎◌, inl, inr, if◌then◌else◌}
use Rattle.std.proofs.lemmas.Bool.{and_parts, and_from, or_cases, or_left, or_right, false≢true, true≢false}
use Rattle.swc_ast.specs.Labels.{is_params}
use Rattle.swc_ast.specs.declared.Span.{Span}
use Rattle.swc_ast.specs.Tree.{Name, Label, Params, Body, node, Forest, ε, ◌⊳◌}
use Rattle.swc_ast.specs.Scope.{vars_all, has_name, param_names, list_binds, body_declares}
use Rattle.swc_ast.specs.Call.{body_binds, statements_of}
use Rattle.swc_ast.specs.Resolved.{one_if, scopes_all, function_scopes, body_of, has_default}
use Rattle.swc_ast.specs.Valid.{valid, valid_all, good_names, good_shape}
use Rattle.static_proofs.specs.Shaped.{is_inner, is_statement, is_whole_item, is_body_or_inner, are_parts, labels_of, all_labels, holds, is_shaped, are_shaped}
use Rattle.link_proofs.specs.Links.{Ground, is_body, body_list, body_expression, Callable}
use Rattle.carry_rules.specs.Carry.{Pass, Facts, Carried, enter, marks, marks_all, read_put, mark_of}
use Rattle.carry_rules.proofs.Sound.{Last, fixed, links, waits_in, waits_all, waits_all_same, Sure, Stands, wide}
use Rattle.carry_rules.proofs.Standing.{labels_same, are_shaped_same, shaped_same, stands_entered, stands_wider}
use Rattle.carry_rules.proofs.Alike.{marks_alike, binds_alike, function_bound}
use Rattle.carry_rules.proofs.Places.{alone, begins, all_are, item_begins, inner_alone, all_alone_wait}
use Rattle.carry_rules.proofs.Varying.{bare_vars, inner_bare}
use Rattle.carry_rules.proofs.Bounds.{waits_bound, bound_waits}
use Rattle.carry_rules.proofs.Holding.{Here, HereList, firm_wider, Below, more_below, below_known, holds_known, link_fixed, link_lexical}
use Rattle.carry_rules.proofs.Opening.{firm_opened, some_link}
use Rattle.carry_rules.proofs.Simple.{statement_item, inner_flat}
use Rattle.carry_rules.proofs.Listing.{Walked, list_walk}
use Rattle.carry_rules.proofs.Functions.{Binds, in_body, Ps, s3, G1, N1, G2, N2, more1, firm1, free1, stands3, free2, list_bound, made}

module _ {p : Pass} {F : Facts} {E : Last} {lex : Name → Bool} (sure : Sure p F E lex) (s : Carried) (K : Ground) (rs : List Span) (ps : Forest) (N : Name → Bool) where
  -- a body of statements
  module _ (us : List Span) (ts : Forest) (h : HereList p F E lex s N K (node Params rs ps ⊳ node Body us ts ⊳ ε))
      (around : (x : Name) → Binds (param_names (Ps sure s K rs ps (node Body us ts))) (statements_of (marks p F (s3 sure s K rs ps (node Body us ts)) (node Body us ts))) x → (N x ≡ false) × (scopes_all x (marks_all p F s (node Params rs ps ⊳ node Body us ts ⊳ ε)) ≡ 0)) where
    abbrev r3 : Carried
    r3 = s3 sure s K rs ps (node Body us ts)

    abbrev s4 : Carried
    s4 = enter p F Body us ts r3

    abbrev T : Forest
    T = marks_all p F s4 ts

    abbrev P : List Name
    P = param_names (Ps sure s K rs ps (node Body us ts))

    body_shaped : (all_labels is_statement (labels_of T) ≡ true) × (are_shaped T ≡ true)
    body_shaped = and_parts (holds Body (labels_of T)) (are_shaped T) (and_parts (is_shaped (node Body [] T)) true (and_parts (is_shaped (node Params [] (Ps sure s K rs ps (node Body us ts)))) (are_shaped (node Body [] T ⊳ ε)) h.sound.shaped).1).0

    whole_marks : all_labels is_whole_item (labels_of T) ≡ true
    whole_marks = all_are is_statement is_whole_item statement_item (labels_of T) body_shaped.0

    whole : all_labels is_whole_item (labels_of ts) ≡ true
    whole = ap (all_labels is_whole_item) (sym (labels_same p F s4 ts)) ∙ whole_marks

    starts : all_labels begins (labels_of ts) ≡ true
    starts = all_are is_whole_item begins item_begins (labels_of ts) whole

    abbrev H : Ground
    H = G2 sure s K rs ps (node Body us ts) N h around T refl h.sound.sits.1.0.1 body_shaped.1 whole_marks

    abbrev NH : Name → Bool
    NH = N2 sure s K rs ps (node Body us ts) N h around T refl h.sound.sits.1.0.1 body_shaped.1 whole_marks

    abbrev NP : Name → Bool
    NP = N1 sure s K rs ps (node Body us ts) N h around

    list_inside : (x : Name) → list_binds T x ≡ true → NH x ≡ true
    list_inside x e = in_body (has_name x P) (body_declares T x) (N x) (or_right (has_name x (vars_all T)) (list_binds T x) e)

    within : (x : Name) → fixed F x ≡ true → waits_all ts x ≡ true → NH x ≡ true
    within x f e = list_inside x (waits_bound T x whole_marks body_shaped.1 (waits_all_same p F s4 ts x ∙ e))

    stands4 : Stands E (wide NH H) s4
    stands4 = stands_entered sure Body us ts (λ x e. list_inside x (binds_alike x (marks_alike p F s4 ts) ∙ function_bound x ts e)) (stands_wider sure {G = wide NP (G1 sure s K rs ps (node Body us ts))} (λ x e. or_right (body_binds P T x) (NP x) e) (λ x e. e) (stands3 sure s K rs ps (node Body us ts) N h around))

    here4 : HereList p F E lex s4 NH H ts
    here4 = record {
      more = λ x e. more x (or_cases (body_binds P T x) ((G1 sure s K rs ps (node Body us ts)).names x) e);
      stands = stands4;
      agree = h.agree.1.0.0;
      firm = firm_opened sure {G = wide NP (G1 sure s K rs ps (node Body us ts))} (body_binds P T) ts s4 (firm1 sure s K rs ps (node Body us ts) N h around) (λ y x e n. sym (waits_all_same p F s4 ts y) ∙ bound_waits sure y (link_fixed sure y x (some_link sure y x e)) (link_lexical sure y x (some_link sure y x e)) T h.sound.sits.1.0.1 body_shaped.1 (list_bound sure s K rs ps (node Body us ts) N h around T refl h.sound.sits.1.0.1 body_shaped.1 whole_marks y (link_fixed sure y x (some_link sure y x e)) n)) stands4 h.agree.1.0.0 (sym (are_shaped_same p F s4 ts) ∙ body_shaped.1) starts within;
      sound = record {
        sits = h.sound.sits.1.0.1;
        stays = h.sound.stays.1.0.1;
        sole = λ x f. omega (arith, h.sound.sole x f);
        once = λ x f. omega (arith, h.sound.once x f);
        free = λ x e. omega (arith, free2 sure s K rs ps (node Body us ts) N h around T refl h.sound.sits.1.0.1 body_shaped.1 whole_marks x e);
        bound = λ x. omega (arith, h.sound.bound x);
        shaped = body_shaped.1;
        valid = (and_parts (good_names Body && good_shape Body T) (valid_all T) (and_parts (valid (node Body [] T)) true (and_parts (valid (node Params [] (Ps sure s K rs ps (node Body us ts)))) (valid_all (node Body [] T ⊳ ε)) h.sound.valid).1).0).1;
      };
      within = within;
      sets = λ x v f e. in_body (has_name x P) (body_declares T x) (K.sets x) (or_left (has_name x (vars_all T)) (list_binds T x) e);
    }
      where
        more : (x : Name) → (body_binds P T x ≡ true) ⊎ ((G1 sure s K rs ps (node Body us ts)).names x ≡ true) → NH x ≡ true
        more x (inl e) = or_left (body_binds P T x) (NP x) e
        more x (inr e) = or_right (body_binds P T x) (NP x) (more1 sure s K rs ps (node Body us ts) N h around x e)

    pub body_callable : Below sure (node Params rs ps ⊳ node Body us ts ⊳ ε) → Callable (links F E) K (marks_all p F s (node Params rs ps ⊳ node Body us ts ⊳ ε))
    body_callable (more_below k (more_below kb n)) =
        let w : Walked sure s4 H ts = list_walk sure (below_known sure kb) s4 NH H here4 whole in
        made sure s K rs ps (node Body us ts) N h around T refl h.sound.sits.1.0.1 body_shaped.1 whole_marks w.1 k (body_list w.0)

  -- an expression
  module _ (l : Label) (us : List Span) (cs : Forest) (h : HereList p F E lex s N K (node Params rs ps ⊳ node l us cs ⊳ ε))
      (around : (x : Name) → Binds (param_names (Ps sure s K rs ps (node l us cs))) (statements_of (marks p F (s3 sure s K rs ps (node l us cs)) (node l us cs))) x → (N x ≡ false) × (scopes_all x (marks_all p F s (node Params rs ps ⊳ node l us cs ⊳ ε)) ≡ 0))
      (none : (ss : List Span) (ds : Forest) → statements_of (node l ss ds) ≡ ε) (no : (ss : List Span) (ds : Forest) → is_body (node l ss ds) ≡ false) (i : is_inner l ≡ true) where
    abbrev q3 : Carried
    q3 = s3 sure s K rs ps (node l us cs)

    abbrev Q : List Name
    Q = param_names (Ps sure s K rs ps (node l us cs))

    is_none : statements_of (marks p F q3 (node l us cs)) ≡ ε
    is_none = none (mark_of (read_put p q3 l)) (marks_all p F (enter p F l us cs q3) cs)

    abbrev J : Ground
    J = G2 sure s K rs ps (node l us cs) N h around ε is_none tt refl refl

    binds_none : (x : Name) → body_binds Q ε x ≡ false
    binds_none x = by (has_name x Q)
      where
        by : (c : Bool) → (not c && false) ≡ false
        by true = refl
        by false = refl

    abbrev NQ : Name → Bool
    NQ = N1 sure s K rs ps (node l us cs) N h around

    abbrev NJ : Name → Bool
    NJ x = body_binds Q ε x || NQ x

    no_name : (x : Name) → NJ x ≡ true → NQ x ≡ true
    no_name x e = by (or_cases (body_binds Q ε x) (NQ x) e)
      where
        by : (body_binds Q ε x ≡ true) ⊎ (NQ x ≡ true) → NQ x ≡ true
        by (inl n) = absurd (true≢false (sym n ∙ binds_none x))
        by (inr n) = n

    more_name : (x : Name) → NQ x ≡ true → NJ x ≡ true
    more_name x e = or_right (body_binds Q ε x) (NQ x) e

    shaped_b : is_shaped (marks p F q3 (node l us cs)) ≡ true
    shaped_b = (and_parts (is_shaped (marks p F q3 (node l us cs))) true (and_parts (is_shaped (node Params [] (Ps sure s K rs ps (node l us cs)))) (are_shaped (marks p F q3 (node l us cs) ⊳ ε)) h.sound.shaped).1).0

    here_b : Here p F E lex q3 J (node l us cs)
    here_b = record {
      names = NJ;
      more = λ x e. more x (or_cases (body_binds Q ε x) ((G1 sure s K rs ps (node l us cs)).names x) e);
      stands = stands_wider sure {G = wide NQ (G1 sure s K rs ps (node l us cs))} more_name (λ x e. e) (stands3 sure s K rs ps (node l us cs) N h around);
      agree = h.agree.1.0;
      firm = firm_wider sure {G = wide NQ (G1 sure s K rs ps (node l us cs))} (body_binds Q ε) (firm1 sure s K rs ps (node l us cs) N h around) (λ y x e n. absurd (true≢false (sym n ∙ binds_none y)));
      sound = record {
        sits = h.sound.sits.1.0;
        stays = h.sound.stays.1.0;
        sole = λ x f. omega (arith, h.sound.sole x f);
        once = λ x f. omega (arith, h.sound.once x f);
        free = λ x e. omega (arith, free1 sure s K rs ps (node l us cs) N h around x (no_name x e));
        bound = λ x. omega (arith, h.sound.bound x);
        shaped = shaped_b;
        valid = (and_parts (valid (marks p F q3 (node l us cs))) true (and_parts (valid (node Params [] (Ps sure s K rs ps (node l us cs)))) (valid_all (marks p F q3 (node l us cs) ⊳ ε)) h.sound.valid).1).0;
      };
      within = λ x f e. absurd (true≢false (sym (or_left (waits_in (node l us cs) x) false e) ∙ all_alone_wait (node l us cs ⊳ ε) x (and_from (alone l) true (inner_alone l i) refl) (and_from (is_shaped (node l us cs)) true (sym (shaped_same p F q3 (node l us cs)) ∙ shaped_b) refl)));
      sets = λ x v f e. absurd (true≢false (sym e ∙ ap (has_name x) (bare_vars l (mark_of (read_put p q3 l)) (marks_all p F (enter p F l us cs q3) cs) (inner_bare l i))));
    }
      where
        more : (x : Name) → (body_binds Q ε x ≡ true) ⊎ ((G1 sure s K rs ps (node l us cs)).names x ≡ true) → NJ x ≡ true
        more x (inl e) = or_left (body_binds Q ε x) (NQ x) e
        more x (inr e) = or_right (body_binds Q ε x) (NQ x) (more1 sure s K rs ps (node l us cs) N h around x e)

    pub expression_callable : Below sure (node Params rs ps ⊳ node l us cs ⊳ ε) → Callable (links F E) K (marks_all p F s (node Params rs ps ⊳ node l us cs ⊳ ε))
    expression_callable (more_below k (more_below kb n)) = made sure s K rs ps (node l us cs) N h around ε is_none tt refl refl tt k (body_expression (no (mark_of (read_put p q3 l)) (marks_all p F (enter p F l us cs q3) cs)) ((holds_known sure kb).good q3 J here_b (inl (inner_flat l i)) (inner_alone l i)))

-- parameters and a body that are shaped as such
data BodyIs : Label → Type 0 where
  a_body : BodyIs Body
  no_body : {l : Label} → ((ss : List Span) (ds : Forest) → statements_of (node l ss ds) ≡ ε) → ((ss : List Span) (ds : Forest) → is_body (node l ss ds) ≡ false) → (is_body_or_inner l ≡ true → is_inner l ≡ true) → BodyIs l

body_is : (l : Label) → BodyIs l
body_is Body = a_body
body_is l = no_body (λ ss ds. refl) (λ ss ds. refl) (λ e. e)

body_same : (l : Label) (ss : List Span) (cs : Forest) → body_of (node l ss cs ⊳ ε) ≡ statements_of (node l ss cs)
body_same Body ss cs = refl
body_same l ss cs = refl

scoped : (d a b : Bool) → (a ≡ true) ⊎ (b ≡ true) → 1 ≤ (if d then one_if a + one_if b else one_if (a || b))
scoped true true b h = omega arith
scoped true false true h = omega arith
scoped false true b h = omega arith
scoped false false true h = omega arith
scoped true false false (inl e) = absurd (false≢true e)
scoped true false false (inr e) = absurd (false≢true e)
scoped false false false (inl e) = absurd (false≢true e)
scoped false false false (inr e) = absurd (false≢true e)

module _ {p : Pass} {F : Facts} {E : Last} {lex : Name → Bool} (sure : Sure p F E lex) where
  parts_around : (s : Carried) (N : Name → Bool) (K : Ground) (rs us : List Span) (ps cs : Forest) (l : Label)
      → ((x : Name) → 1 ≤ function_scopes x (marks_all p F s (node Params rs ps ⊳ node l us cs ⊳ ε)) → (N x ≡ false) × (scopes_all x (marks_all p F s (node Params rs ps ⊳ node l us cs ⊳ ε)) ≡ 0))
      → (x : Name) → Binds (param_names (Ps sure s K rs ps (node l us cs))) (statements_of (marks p F (s3 sure s K rs ps (node l us cs)) (node l us cs))) x → (N x ≡ false) × (scopes_all x (marks_all p F s (node Params rs ps ⊳ node l us cs ⊳ ε)) ≡ 0)
  parts_around s N K rs us ps cs l f x n = f x (scoped (has_default (Ps sure s K rs ps (node l us cs))) (has_name x (param_names (Ps sure s K rs ps (node l us cs)))) (body_declares (body_of (marks p F (s3 sure s K rs ps (node l us cs)) (node l us cs) ⊳ ε)) x) (at n))
    where
      at : Binds (param_names (Ps sure s K rs ps (node l us cs))) (statements_of (marks p F (s3 sure s K rs ps (node l us cs)) (node l us cs))) x → (has_name x (param_names (Ps sure s K rs ps (node l us cs))) ≡ true) ⊎ (body_declares (body_of (marks p F (s3 sure s K rs ps (node l us cs)) (node l us cs) ⊳ ε)) x ≡ true)
      at (inl e) = inl e
      at (inr e) = inr (ap (λ T. body_declares T x) (body_same l (mark_of (read_put p (s3 sure s K rs ps (node l us cs)) l)) (marks_all p F (enter p F l us cs (s3 sure s K rs ps (node l us cs))) cs)) ∙ e)

  parts_callable : (s : Carried) (N : Name → Bool) (K : Ground) (rs us : List Span) (ps cs : Forest) (l : Label) → BodyIs l → Below sure (node Params rs ps ⊳ node l us cs ⊳ ε) → HereList p F E lex s N K (node Params rs ps ⊳ node l us cs ⊳ ε) → is_body_or_inner l ≡ true
      → ((x : Name) → 1 ≤ function_scopes x (marks_all p F s (node Params rs ps ⊳ node l us cs ⊳ ε)) → (N x ≡ false) × (scopes_all x (marks_all p F s (node Params rs ps ⊳ node l us cs ⊳ ε)) ≡ 0)) → Callable (links F E) K (marks_all p F s (node Params rs ps ⊳ node l us cs ⊳ ε))
  parts_callable s N K rs us ps cs l (no_body n m k) b h i f = expression_callable sure s K rs ps N l us cs h (parts_around s N K rs us ps cs l f) n m (k i) b
  parts_callable s N K rs us ps cs _ a_body b h i f = body_callable sure s K rs ps N us cs h (parts_around s N K rs us ps cs Body f) b

  pub function_callable : (q : Label → Bool) → ((l : Label) → q l ≡ true → is_body_or_inner l ≡ true) → (cs : Forest) → Below sure cs → (s : Carried) (N : Name → Bool) (K : Ground) → HereList p F E lex s N K cs → are_parts q (labels_of cs) ≡ true
      → ((x : Name) → 1 ≤ function_scopes x (marks_all p F s cs) → (N x ≡ false) × (scopes_all x (marks_all p F s cs) ≡ 0)) → Callable (links F E) K (marks_all p F s cs)
  function_callable q g ε b s N K h i f = absurd (false≢true i)
  function_callable q g (node l rs ps ⊳ ε) b s N K h i f = absurd (false≢true i)
  function_callable q g (node l rs ps ⊳ node m us cs ⊳ node o vs ds ⊳ ts) b s N K h i f = absurd (false≢true i)
  function_callable q g (node l rs ps ⊳ node m us cs ⊳ ε) b s N K h i f = by l (and_parts (is_params l) (q m) i) b h f
    where
      by : (l : Label) → (is_params l ≡ true) × (q m ≡ true) → Below sure (node l rs ps ⊳ node m us cs ⊳ ε) → HereList p F E lex s N K (node l rs ps ⊳ node m us cs ⊳ ε) → ((x : Name) → 1 ≤ function_scopes x (marks_all p F s (node l rs ps ⊳ node m us cs ⊳ ε)) → (N x ≡ false) × (scopes_all x (marks_all p F s (node l rs ps ⊳ node m us cs ⊳ ε)) ≡ 0))
          → Callable (links F E) K (marks_all p F s (node l rs ps ⊳ node m us cs ⊳ ε))
      by Params e b h f = parts_callable s N K rs us ps cs m (body_is m) b h (g m e.1) f
      by l e b h f = absurd (false≢true e.0)
