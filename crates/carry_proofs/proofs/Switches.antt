-- A `switch` that holds what it switches on and then tests and bodies by turns.
use Rattle.std.proofs.Common.{◌≡◌, ◌≤◌, Bool, true, false, ◌&&◌, ◌||◌, List, [], ◌∷◌, ◌++◌, refl, sym, ap, subst, ◌∙◌, arith, ◌⊎◌, inl, inr}
use Rattle.std.proofs.lemmas.Bool.{and_parts, and_from, or_cases, or_left, or_right, false≢true, true≢false}
use Rattle.swc_ast.specs.Labels.{is_declaration}
use Rattle.swc_ast.specs.declared.Span.{Span}
use Rattle.swc_ast.specs.Tree.{Name, Label, Switch, CaseBody, Tree, node, Forest, ε, ◌⊳◌, label_of}
use Rattle.swc_ast.specs.Scope.{has_name, vars_all, declared, declared_by, found, list_binds, joined, body_statements, case_statements}
use Rattle.swc_ast.specs.Resolved.{own_scopes}
use Rattle.static_proofs.specs.Shaped.{is_inner, is_holder, is_statement, is_whole_item, is_case_or_inner, labels_of, all_labels, holds, is_shaped, are_shaped}
use Rattle.link_proofs.specs.Links.{Ground, beside, Splits, IsLexical, OpensList, Good, good_switch, Cases, no_cases, a_case}
use Rattle.carry_rules.specs.Carry.{Pass, Facts, Carried, enter, ready_at, after, marks, marks_all, read_put, mark_of}
use Rattle.carry_rules.specs.Parted.{is_case, are_cases, is_switched}
use Rattle.carry_rules.proofs.Sound.{Last, fixed, links, waits_in, waits_all, waits_all_same, waiting, waiting_in, splits, Sure, every_all, head_sound, Stands, wide}
use Rattle.carry_rules.proofs.Shown.{no_params}
use Rattle.carry_rules.proofs.Standing.{flows, settled_after, labels_same, are_shaped_same, stands_entered, stands_wider}
use Rattle.carry_rules.proofs.Alike.{function_bound, Rights, rights_append, is_lexical, is_constant, no_function}
use Rattle.carry_rules.proofs.Places.{alone, begins, inner_alone, statement_begins, all_are, begins_no_params, all_alone_wait}
use Rattle.carry_rules.proofs.Bounds.{waits_bound, bound_waits}
use Rattle.carry_rules.proofs.Waiting.{waits_lexical}
use Rattle.carry_rules.proofs.Varying.{vars_inside, head_vars}
use Rattle.carry_rules.proofs.Holding.{Here, HereList, list_head, list_tail, inner_sound, Known, Below, none_below, more_below, holds_known, below_known, functions_of, link_fixed, link_lexical, known_no_function, fixed_link, constant_is_fixed, opens}
use Rattle.carry_rules.proofs.Opening.{firm_opened, some_link}
use Rattle.carry_rules.proofs.Simple.{M, holds_marked, holds_here, group_here, statement_item, one_bound, inner_flat}
use Rattle.carry_rules.proofs.Listing.{sound_names, list_walk}
use Rattle.carry_proofs.proofs.Others.{every_case}
use Rattle.carry_proofs.proofs.Like.{binds_like, cases_like}
use Rattle.carry_proofs.proofs.Marks.{marks_like}

-- cases, and other trees
data Case : Label → Type 0 where
  a_body : Case CaseBody
  no_body : {l : Label} → is_inner l ≡ true → ((cs : Forest) → body_statements l cs ≡ ε) → Case l

case_of : (l : Label) → is_case_or_inner l ≡ true → Case l
case_of CaseBody e = a_body
case_of l e = no_body e (λ cs. refl)

inner_case : (l : Label) → is_inner l ≡ true → is_case_or_inner l ≡ true
inner_case CaseBody e = refl
inner_case l e = e

case_case : (l : Label) → is_case l ≡ true → l ≡ CaseBody
case_case CaseBody e = refl
case_case l e = absurd (false≢true e)

case_begins : (l : Label) → is_case_or_inner l ≡ true → begins l ≡ true
case_begins CaseBody e = refl
case_begins l e = statement_begins l (or_left (is_inner l) (is_holder l || is_declaration l) e)

case_flat : (l : Label) → is_case_or_inner l ≡ true → flows l ≡ false
case_flat CaseBody e = refl
case_flat l e = inner_flat l e

case_no_params : (l : Label) → is_case_or_inner l ≡ true → no_params l ≡ true
case_no_params l e = begins_no_params l (case_begins l e)

inner_waits : (l : Label) (ss : List Span) (cs : Forest) (x : Name) → is_inner l ≡ true → is_shaped (node l ss cs) ≡ true → waits_in (node l ss cs) x ≡ false
inner_waits l ss cs x i h = or_none (waits_in (node l ss cs) x) (all_alone_wait (node l ss cs ⊳ ε) x (and_from (alone l) true (inner_alone l i) refl) (and_from (is_shaped (node l ss cs)) true h refl))
  where
    or_none : (b : Bool) → (b || false) ≡ false → b ≡ false
    or_none false e = refl
    or_none true e = absurd (true≢false e)

-- lists in a row

labels_joined : (q : Label → Bool) (ts us : Forest) → all_labels q (labels_of ts) ≡ true → all_labels q (labels_of us) ≡ true → all_labels q (labels_of (joined ts us)) ≡ true
labels_joined q ε us a b = b
labels_joined q (node l ss cs ⊳ ts) us a b = let r = and_parts (q l) (all_labels q (labels_of ts)) a in and_from (q l) (all_labels q (labels_of (joined ts us))) r.0 (labels_joined q ts us r.1 b)

shaped_joined : (ts us : Forest) → are_shaped ts ≡ true → are_shaped us ≡ true → are_shaped (joined ts us) ≡ true
shaped_joined ε us a b = b
shaped_joined (t ⊳ ts) us a b = let r = and_parts (is_shaped t) (are_shaped ts) a in and_from (is_shaped t) (are_shaped (joined ts us)) r.0 (shaped_joined ts us r.1 b)

waits_joined : (ts us : Forest) (x : Name) → waits_all (joined ts us) x ≡ (waits_all ts x || waits_all us x)
waits_joined ε us x = refl
waits_joined (t ⊳ ts) us x = ap (λ b. waits_in t x || b) (waits_joined ts us x) ∙ swap (waits_in t x) (waits_all ts x) (waits_all us x)
  where
    swap : (a b c : Bool) → (a || (b || c)) ≡ ((a || b) || c)
    swap true b c = refl
    swap false b c = refl

declared_joined : (ts us : Forest) → declared (joined ts us) ≡ declared ts ++ declared us
declared_joined ε us = refl
declared_joined (t ⊳ ts) us = ap (λ ps. declared_by t ++ ps) (declared_joined ts us) ∙ swap (declared_by t) (declared ts) (declared us)
  where
    swap : {A : Type 0} (xs ys zs : List A) → xs ++ (ys ++ zs) ≡ (xs ++ ys) ++ zs
    swap [] ys zs = refl
    swap (x ∷ xs) ys zs = ap (λ ws. x ∷ ws) (swap xs ys zs)

-- the statements of cases

cases_labels : (ts : Forest) → all_labels is_case_or_inner (labels_of ts) ≡ true → are_shaped ts ≡ true → all_labels is_statement (labels_of (case_statements ts)) ≡ true
cases_labels ε a h = refl
cases_labels (node l ss cs ⊳ ts) a h =
    let q = and_parts (is_case_or_inner l) (all_labels is_case_or_inner (labels_of ts)) a in
    let r = and_parts (is_shaped (node l ss cs)) (are_shaped ts) h in
    by l (case_of l q.0) r.0 (cases_labels ts q.1 r.1)
  where
    by : (l : Label) → Case l → is_shaped (node l ss cs) ≡ true → all_labels is_statement (labels_of (case_statements ts)) ≡ true → all_labels is_statement (labels_of (joined (body_statements l cs) (case_statements ts))) ≡ true
    by _ a_body h g = labels_joined is_statement cs (case_statements ts) (and_parts (holds CaseBody (labels_of cs)) (are_shaped cs) h).0 g
    by l (no_body i e) h g = subst (λ us. all_labels is_statement (labels_of (joined us (case_statements ts))) ≡ true) (sym (e cs)) g

cases_shaped : (ts : Forest) → all_labels is_case_or_inner (labels_of ts) ≡ true → are_shaped ts ≡ true → are_shaped (case_statements ts) ≡ true
cases_shaped ε a h = refl
cases_shaped (node l ss cs ⊳ ts) a h =
    let q = and_parts (is_case_or_inner l) (all_labels is_case_or_inner (labels_of ts)) a in
    let r = and_parts (is_shaped (node l ss cs)) (are_shaped ts) h in
    by l (case_of l q.0) r.0 (cases_shaped ts q.1 r.1)
  where
    by : (l : Label) → Case l → is_shaped (node l ss cs) ≡ true → are_shaped (case_statements ts) ≡ true → are_shaped (joined (body_statements l cs) (case_statements ts)) ≡ true
    by _ a_body h g = shaped_joined cs (case_statements ts) (and_parts (holds CaseBody (labels_of cs)) (are_shaped cs) h).1 g
    by l (no_body i e) h g = subst (λ us. are_shaped (joined us (case_statements ts)) ≡ true) (sym (e cs)) g

cases_wait : (ts : Forest) (x : Name) → all_labels is_case_or_inner (labels_of ts) ≡ true → are_shaped ts ≡ true → waits_all (case_statements ts) x ≡ waits_all ts x
cases_wait ε x a h = refl
cases_wait (node l ss cs ⊳ ts) x a h =
    let q = and_parts (is_case_or_inner l) (all_labels is_case_or_inner (labels_of ts)) a in
    let r = and_parts (is_shaped (node l ss cs)) (are_shaped ts) h in
    by l (case_of l q.0) r.0 (cases_wait ts x q.1 r.1)
  where
    by : (l : Label) → Case l → is_shaped (node l ss cs) ≡ true → waits_all (case_statements ts) x ≡ waits_all ts x → waits_all (joined (body_statements l cs) (case_statements ts)) x ≡ waits_all (node l ss cs ⊳ ts) x
    by _ a_body h g = waits_joined cs (case_statements ts) x ∙ ap (λ b. waits_all cs x || b) g
    by l (no_body i e) h g = ap (λ us. waits_all (joined us (case_statements ts)) x) (e cs) ∙ g ∙ sym (ap (λ b. b || waits_all ts x) (inner_waits l ss cs x i h))

cases_are : (ls : List Label) → are_cases ls ≡ true → all_labels is_case_or_inner ls ≡ true
cases_are [] e = refl
cases_are (t ∷ []) e = absurd (false≢true e)
cases_are (t ∷ b ∷ ls) e =
    let q = and_parts (is_inner t) (is_case b && are_cases ls) e in
    let r = and_parts (is_case b) (are_cases ls) q.1 in
    and_from (is_case_or_inner t) _ (inner_case t q.0) (and_from (is_case_or_inner b) (all_labels is_case_or_inner ls) (ap is_case_or_inner (case_case b r.0)) (cases_are ls r.1))

module _ {p : Pass} {F : Facts} {E : Last} {lex : Name → Bool} (sure : Sure p F E lex) where
  head_case : (t : Tree) (ts : Forest) → all_labels is_case_or_inner (labels_of (t ⊳ ts)) ≡ true → is_case_or_inner (label_of t) ≡ true
  head_case (node l ss cs) ts a = (and_parts (is_case_or_inner l) (all_labels is_case_or_inner (labels_of ts)) a).0

  rest_cases : (t : Tree) (ts : Forest) → all_labels is_case_or_inner (labels_of (t ⊳ ts)) ≡ true → all_labels is_case_or_inner (labels_of ts) ≡ true
  rest_cases (node l ss cs) ts a = (and_parts (is_case_or_inner l) (all_labels is_case_or_inner (labels_of ts)) a).1

  single_label : (t : Tree) → is_case_or_inner (label_of t) ≡ true → all_labels no_params (labels_of (t ⊳ ε)) ≡ true
  single_label (node l ss cs) e = and_from (no_params l) true (case_no_params l e) refl

  rest_here : {s : Carried} {N : Name → Bool} {G : Ground} (t : Tree) (ts : Forest) → all_labels is_case_or_inner (labels_of (t ⊳ ts)) ≡ true → HereList p F E lex s N G (t ⊳ ts) → HereList p F E lex (after p F s t) N G ts
  rest_here {s} t ts a h = list_tail sure (single_label t (head_case t ts a)) (settled_after p F s t (inl (case_flat (label_of t) (head_case t ts a)))) h

  -- what the statements of cases declare
  cases_rights : {ts : Forest} → Below sure ts → (s : Carried) (N : Name → Bool) (G : Ground) → HereList p F E lex s N G ts → all_labels is_case_or_inner (labels_of ts) ≡ true → Rights (links F E) F lex G (declared (case_statements (marks_all p F s ts)))
  cases_rights none_below s N G h a = tt
  cases_rights (more_below {t = node l ss cs} {ts = ts} k b) s N G h a = by l (case_of l (head_case (node l ss cs) ts a)) k (list_head h) (cases_rights b (after p F s (node l ss cs)) N G (rest_here (node l ss cs) ts a h) (rest_cases (node l ss cs) ts a))
    where
      T : Forest
      T = case_statements (marks_all p F (after p F s (node l ss cs)) ts)

      by : (l : Label) → Case l → Known sure (node l ss cs) → Here p F E lex s G (node l ss cs) → Rights (links F E) F lex G (declared T) → Rights (links F E) F lex G (declared (joined (body_statements l (M sure l ss cs s)) T))
      by _ a_body k h g = subst (Rights (links F E) F lex G) (sym (declared_joined (M sure CaseBody ss cs s) T)) (rights_append (links F E) F lex G (declared (M sure CaseBody ss cs s)) (declared T) (list_walk sure (below_known sure k) (enter p F CaseBody ss cs s) h.names G (group_here sure CaseBody ss cs refl h) (all_are is_statement is_whole_item statement_item (labels_of cs) (holds_here sure CaseBody ss cs h))).1 g)
      by l (no_body i e) k h g = subst (λ us. Rights (links F E) F lex G (declared (joined us T))) (sym (e (M sure l ss cs s))) g

  -- tests and bodies
  case_splits : {C₁ C₂ : Name → Bool} (t : Tree) (ts : Forest) → Splits (waiting F ts) C₁ C₂ → Splits (waiting F (t ⊳ ts)) C₁ C₂
  case_splits t ts h = record { first = λ x e. wider x (h.first x e); second = λ x e. wider x (h.second x e); apart = h.apart }
    where
      wider : (x : Name) → waiting F ts x ≡ true → waiting F (t ⊳ ts) x ≡ true
      wider x e = let q = and_parts (fixed F x) (waits_all ts x) e in and_from (fixed F x) (waits_in t x || waits_all ts x) q.0 (or_right (waits_in t x) (waits_all ts x) q.1)

  cases_good : {ts : Forest} → Below sure ts → (s : Carried) (N : Name → Bool) (G : Ground) → HereList p F E lex s N G ts → are_cases (labels_of ts) ≡ true → Cases (links F E) G (waiting F (marks_all p F s ts)) (marks_all p F s ts)
  cases_good none_below s N G h a = no_cases
  cases_good (more_below {t = node l ss cs} k none_below) s N G h a = absurd (false≢true a)
  cases_good (more_below {t = node l ss cs} k (more_below {t = node m rs ds} {ts = ts} j b)) s N G h a =
      let q = and_parts (is_inner l) (is_case m && are_cases (labels_of ts)) a in
      let r = and_parts (is_case m) (are_cases (labels_of ts)) q.1 in
      let all : all_labels is_case_or_inner (l ∷ m ∷ labels_of ts) ≡ true = cases_are (l ∷ m ∷ labels_of ts) a in
      let s2 : Carried = after p F s (node l ss cs) in
      let h2 : HereList p F E lex s2 N G (node m rs ds ⊳ ts) = rest_here (node l ss cs) (node m rs ds ⊳ ts) all h in
      let h3 : HereList p F E lex (after p F s2 (node m rs ds)) N G ts = rest_here (node m rs ds) ts (rest_cases (node l ss cs) (node m rs ds ⊳ ts) all) h2 in
      a_case (waiting_in F (marks p F s2 (node m rs ds))) (waiting F (marks_all p F (after p F s2 (node m rs ds)) ts))
      (case_splits (marks p F s (node l ss cs)) (marks p F s2 (node m rs ds) ⊳ marks_all p F (after p F s2 (node m rs ds)) ts) (splits F (marks p F s2 (node m rs ds)) (marks_all p F (after p F s2 (node m rs ds)) ts) h2.sound.once))
      ((holds_known sure k).good s G (list_head h) (inl (inner_flat l q.0)) (inner_alone l q.0)) ((holds_known sure j).begun s2 G (list_head h2) (inl (ap flows (case_case m r.0))) (ap begins (case_case m r.0))) (cases_good b (after p F s2 (node m rs ds)) N G h3 r.1)

  module _ (s : Carried) (G : Ground) (ds : List Bool) (ss is : List Span) (l : Label) (ks ts : Forest) (h : Here p F E lex s G (node (Switch ds) ss (node l is ks ⊳ ts))) (i : is_inner l ≡ true) (a : are_cases (labels_of ts) ≡ true) where
    abbrev cs : Forest
    cs = node l is ks ⊳ ts

    abbrev s1 : Carried
    s1 = enter p F (Switch ds) ss cs s

    abbrev T : Forest
    T = M sure (Switch ds) ss cs s

    -- the statements of all cases
    abbrev S : Forest
    S = case_statements T

    abbrev H : Ground
    H = beside (list_binds S) G

    abbrev N : Name → Bool
    N x = list_binds S x || h.names x

    all : all_labels is_case_or_inner (labels_of cs) ≡ true
    all = and_from (is_case_or_inner l) (all_labels is_case_or_inner (labels_of ts)) (inner_case l i) (cases_are (labels_of ts) a)

    all_marks : all_labels is_case_or_inner (labels_of T) ≡ true
    all_marks = ap (all_labels is_case_or_inner) (labels_same p F s1 cs) ∙ all

    shaped : are_shaped T ≡ true
    shaped = (and_parts (holds (Switch ds) (labels_of T)) (are_shaped T) h.sound.shaped).1

    shaped_cases : are_shaped S ≡ true
    shaped_cases = cases_shaped T all_marks shaped

    item_cases : all_labels is_whole_item (labels_of S) ≡ true
    item_cases = all_are is_statement is_whole_item statement_item (labels_of S) (cases_labels T all_marks shaped)

    sits_cases : every_all F lex S
    sits_cases = every_case F lex sure.default_free sure.default_set T h.sound.sits.1

    starts : all_labels begins (labels_of cs) ≡ true
    starts = all_are is_case_or_inner begins case_begins (labels_of cs) all

    own : (x : Name) → list_binds S x ≡ true → 1 ≤ own_scopes x (Switch ds) T
    unfolding own_scopes
    own x e = one_bound (list_binds S x) e

    waits_cases : (x : Name) → waits_all S x ≡ waits_all cs x
    waits_cases x = cases_wait T x all_marks shaped ∙ waits_all_same p F s1 cs x

    within : (x : Name) → fixed F x ≡ true → waits_all cs x ≡ true → N x ≡ true
    within x f e = or_left (list_binds S x) (h.names x) (waits_bound S x item_cases shaped_cases (waits_cases x ∙ e))

    ready : (x : Name) → ready_at (Switch ds) cs x ≡ true → N x ≡ true
    ready x e = or_left (list_binds S x) (h.names x) (sym (binds_like x (cases_like (marks_like (Unit {0}) (Unit {0}) (λ y. false) p F s1 cs))) ∙ function_bound x (case_statements cs) e)

    stands1 : Stands E (wide N H) s1
    stands1 = stands_entered sure (Switch ds) ss cs ready (stands_wider sure {G = wide h.names G} (λ x e. or_right (list_binds S x) (h.names x) e) (λ x e. e) h.stands)

    -- variables that are declared here
    sets : (x : Name) → F.variable x ≡ true → fixed F x ≡ false → has_name x (vars_all T) ≡ true → G.sets x ≡ true
    sets x v f e = h.sets x v f (vars_inside (Switch ds) (mark_of (read_put p s (Switch ds))) T x refl (holds_marked sure (Switch ds) ss cs h) e)

    here : HereList p F E lex s1 N H cs
    here = record {
      more = λ x e. more x (or_cases (list_binds S x) (G.names x) e);
      stands = stands1;
      agree = h.agree.0;
      firm = firm_opened sure {G = wide h.names G} (list_binds S) cs s1 h.firm (λ y x e n. sym (waits_cases y) ∙ bound_waits sure y (link_fixed sure y x (some_link sure y x e)) (link_lexical sure y x (some_link sure y x e)) S sits_cases shaped_cases n) stands1 h.agree.0 (sym (are_shaped_same p F s1 cs) ∙ shaped) starts within;
      sound = inner_sound {G = wide h.names G} (Switch ds) (mark_of (read_put p s (Switch ds))) T h.sound (λ x e. by x (or_cases (list_binds S x) (h.names x) e));
      within = within;
      sets = λ x v f e. or_right (list_binds S x) (G.sets x) (sets x v f e);
    }
      where
        more : (x : Name) → (list_binds S x ≡ true) ⊎ (G.names x ≡ true) → N x ≡ true
        more x (inl e) = or_left (list_binds S x) (h.names x) e
        more x (inr e) = or_right (list_binds S x) (h.names x) (h.more x e)

        by : (x : Name) → (list_binds S x ≡ true) ⊎ (h.names x ≡ true) → (h.names x ≡ true) ⊎ (1 ≤ own_scopes x (Switch ds) T)
        by x (inl e) = inr (own x e)
        by x (inr e) = inl e

    nothing_around : (x : Name) → list_binds S x ≡ true → h.names x ≡ false
    nothing_around x e = by (h.names x) refl
      where
        by : (b : Bool) → h.names x ≡ b → b ≡ false
        by false j = refl
        by true j = absurd (omega (arith, h.sound.free x j, own x e))

    -- what is switched on runs in front of the scope
    first_here : Here p F E lex s1 G (node l is ks)
    first_here = record {
      names = N;
      more = λ x e. or_right (list_binds S x) (h.names x) (h.more x e);
      stands = stands_wider sure {G = wide N H} (λ x e. e) (λ x e. e) stands1;
      agree = h.agree.0.0;
      firm = record { closed = here.firm.closed; settled_named = here.firm.settled_named; settled_closed = here.firm.settled_closed; sets_named = λ x e. here.firm.sets_named x (or_right (list_binds S x) (G.sets x) e) };
      sound = head_sound (sound_names {G = wide N H} {H = wide N G} (λ x e. e) here.sound);
      within = λ x f e. within x f (or_left (waits_in (node l is ks) x) (waits_all ts x) e);
      sets = λ x v f e. sets x v f (head_vars (marks p F s1 (node l is ks)) (marks_all p F (after p F s1 (node l is ks)) ts) x e);
    }

    abbrev R : Forest
    R = marks_all p F (after p F s1 (node l is ks)) ts

    first_waits : (x : Name) → waits_all R x ≡ waits_all S x
    first_waits x = sym (ap (λ b. b || waits_all R x) (inner_waits l (mark_of (read_put p s1 l)) (marks_all p F (enter p F l is ks s1) ks) x i (and_parts (is_shaped (marks p F s1 (node l is ks))) (are_shaped R) shaped).0)) ∙ sym (cases_wait T x all_marks shaped)

    switched : Known sure (node l is ks) → Below sure ts → Good (links F E) G (marks p F s (node (Switch ds) ss cs))
    switched k b =
        let r : Rights (links F E) F lex H (declared S) = cases_rights (more_below k b) s1 N H here all in
        good_switch ds (waiting F R) ((holds_known sure k).good s1 G first_here (inl (inner_flat l i)) (inner_alone l i)) (cases_open r) (functions_of sure S r) (cases_good b (after p F s1 (node l is ks)) N H (rest_here (node l is ks) ts all here) a)
      where
        cases_open : Rights (links F E) F lex H (declared S) → OpensList (links F E) G (waiting F R) S
        cases_open r = record {
          opens = opens sure h.names h.more (list_binds S) h.firm nothing_around;
          waiting = λ x e. let q = and_parts (fixed F x) (waits_all R x) e in lexical_of x q.0 (sym (first_waits x) ∙ q.1);
          waiting_fixed = λ x e. fixed_link sure x (and_parts (fixed F x) (waits_all R x) e).0;
          no_function = λ y x e. no_function (links F E) F lex H (declared S) r y (link_fixed sure y x e) (link_lexical sure y x e);
          no_known = λ y v e. known_no_function sure H (declared S) r y v e;
          constants = λ x c b. is_constant (links F E) F lex H (declared S) r x c (is_lexical (links F E) F lex H (declared S) r x b (constant_is_fixed sure x c) (sure.constant_lexical x c));
        }
          where
            lexical_of : (x : Name) → fixed F x ≡ true → waits_all S x ≡ true → IsLexical (found x (declared S))
            lexical_of x f w = is_lexical (links F E) F lex H (declared S) r x (waits_bound S x item_cases shaped_cases w) f (waits_lexical F lex x S sits_cases w)

  pub switch_good : (s : Carried) (G : Ground) (ds : List Bool) (ss : List Span) (cs : Forest) → is_switched (labels_of cs) ≡ true → Below sure cs → Here p F E lex s G (node (Switch ds) ss cs) → Good (links F E) G (marks p F s (node (Switch ds) ss cs))
  switch_good s G ds ss ε w b h = absurd (false≢true w)
  switch_good s G ds ss (node l is ks ⊳ ts) w (more_below k b) h = let q = and_parts (is_inner l) (are_cases (labels_of ts)) w in switched s G ds ss is l ks ts h q.0 q.1 k b
