-- Methods and `try`.
use Rattle.std.proofs.Common.{◌≡◌, ◌≤◌, Bool, true, false, ◌||◌, List, [], Option, Some, None, refl, sym, ap, ap₂, ◌∙◌, arith, ◌⊎◌, inl, inr}
use Rattle.std.proofs.lemmas.Bool.{and_parts, and_from, or_cases, or_left, or_right, false≢true, true≢false}
use Rattle.swc_ast.specs.Labels.{is_body as body_label}
use Rattle.swc_ast.specs.declared.Span.{Span}
use Rattle.swc_ast.specs.Tree.{Name, Label, Method, Params, Body, Block, Try, Tree, node, Forest, ε, ◌⊳◌, label_of}
use Rattle.swc_ast.specs.Scope.{has_name, vars_all, option_name}
use Rattle.swc_ast.specs.Resolved.{one_if, scopes_all, own_scopes, function_scopes, catch_name}
use Rattle.static_proofs.specs.Shaped.{is_inner, is_body_or_inner, is_block_or_inner, are_parts, labels_of, all_labels}
use Rattle.link_proofs.specs.Links.{nothing, a_name, Ground, beside, calm, handler_names, UnlinkedHandler, Good, good_method, good_try, good_try_bad}
use Rattle.carry_rules.specs.Carry.{Pass, Facts, Carried, enter, after, marks, marks_all, ready_at, read_put, mark_of}
use Rattle.carry_rules.proofs.Sound.{Last, links, waits_all, Sure, Sits, Other, Firm, wide}
use Rattle.carry_rules.proofs.Shown.{no_params}
use Rattle.carry_rules.proofs.Standing.{settled_after, listed_after, labels_same, stands_entered, stands_wider, stands_calm}
use Rattle.carry_rules.proofs.Places.{alone, inner_alone, all_are, alone_no_params}
use Rattle.carry_rules.proofs.Varying.{vars_inside, bare_all, body_bare, parts_bare}
use Rattle.carry_rules.proofs.Holding.{Here, HereList, inner_sound, firm_wider, firm_calm, list_head, list_tail, Known, Below, none_below, more_below, holds_known, link_fixed, link_lexical, opens}
use Rattle.carry_rules.proofs.Opening.{some_link}
use Rattle.carry_rules.proofs.Simple.{M, holds_marked, holds_here, inner_flat, same_here, none_wait}
use Rattle.carry_rules.proofs.Listing.{sound_names}
use Rattle.carry_rules.proofs.Bodies.{function_callable}
use Rattle.carry_rules.proofs.Each.{parts_wait, part_waits, body_or_inner, own_plain, own_named, named_own, own_other, one_true}

inner_parts : (x : Name) (l : Label) (ss : List Span) (cs ts : Forest) → is_inner l ≡ true → function_scopes x (node l ss cs ⊳ ts) ≡ function_scopes x ts
inner_parts x Params ss cs ts e = absurd (false≢true e)
inner_parts x Body ss cs ts e = absurd (false≢true e)
inner_parts x l ss cs ts e = refl

inner_is_part : (l : Label) → is_inner l ≡ true → is_body_or_inner l ≡ true
inner_is_part Body e = refl
inner_is_part l e = e

block_alone : (l : Label) → is_block_or_inner l ≡ true → alone l ≡ true
block_alone Block e = refl
block_alone l e = inner_alone l e

module _ {p : Pass} {F : Facts} {E : Last} {lex : Name → Bool} (sure : Sure p F E lex) where
  calm_here : {s : Carried} {N : Name → Bool} {G : Ground} {ts : Forest} → ((x : Name) → waits_all ts x ≡ false) → ((x : Name) → s.settled x ≡ nothing) → vars_all (marks_all p F s ts) ≡ [] → HereList p F E lex s N G ts → HereList p F E lex s N (calm G) ts
  calm_here {s} {N} {G} w n v h = record {
    more = h.more;
    stands = stands_calm sure {G = wide N G} (λ x e. e) n h.stands;
    agree = h.agree;
    firm = firm_calm sure N G h.firm;
    sound = sound_names {G = wide N G} (λ x e. e) h.sound;
    within = λ x f e. absurd (true≢false (sym e ∙ w x));
    sets = λ x q f e. absurd (true≢false (sym e ∙ ap (has_name x) v));
  }

  pub method_good : (s : Carried) (G : Ground) (ss : List Span) (cs : Forest) → Below sure cs → Here p F E lex s G (node Method ss cs) → Good (links F E) G (marks p F s (node Method ss cs))
  unfolding own_scopes
  method_good s G ss ε b h = absurd (false≢true (holds_here sure Method ss ε h))
  method_good s G ss (node l rs ks ⊳ ts) (more_below k b) h = good_method ((holds_known sure k).good s1 G (list_head here) (inl (inner_flat l i.0)) (inner_alone l i.0)) (function_callable sure body_label body_or_inner ts b s2 h.names (calm G) (calm_here (λ x. parts_wait body_label body_or_inner ts x i.1) (λ x. flat x) (bare_all (marks_all p F s2 ts) (parts_bare body_label body_bare (labels_of (marks_all p F s2 ts)) (ap (are_parts body_label) (labels_same p F s2 ts) ∙ i.1))) rest) i.1 around)
    where
      s1 : Carried
      s1 = enter p F Method ss (node l rs ks ⊳ ts) s

      s2 : Carried
      s2 = after p F s1 (node l rs ks)

      i : (is_inner l ≡ true) × (are_parts body_label (labels_of ts) ≡ true)
      i = and_parts (is_inner l) (are_parts body_label (labels_of ts)) (holds_here sure Method ss (node l rs ks ⊳ ts) h)

      flat : (x : Name) → s2.settled x ≡ nothing
      flat x = settled_after p F s1 (node l rs ks) (inl (inner_flat l i.0)) x

      none : (x : Name) → waits_all (node l rs ks ⊳ ts) x ≡ false
      none x = ap₂ ◌||◌ (part_waits l rs ks x (inner_is_part l i.0)) (parts_wait body_label body_or_inner ts x i.1)

      here : HereList p F E lex s1 h.names G (node l rs ks ⊳ ts)
      here = same_here sure Method ss (node l rs ks ⊳ ts) (λ x e. false≢true e) refl h (λ x f e. absurd (true≢false (sym e ∙ none x)))

      rest : HereList p F E lex s2 h.names G ts
      rest = list_tail sure (and_from (no_params l) true (alone_no_params l (inner_alone l i.0)) refl) (settled_after p F s1 (node l rs ks) (inl (inner_flat l i.0))) here

      same : (x : Name) → function_scopes x (M sure Method ss (node l rs ks ⊳ ts) s) ≡ function_scopes x (marks_all p F s2 ts)
      same x = inner_parts x l (mark_of (read_put p s1 l)) (marks_all p F (enter p F l rs ks s1) ks) (marks_all p F s2 ts) i.0

      around : (x : Name) → 1 ≤ function_scopes x (marks_all p F s2 ts) → (h.names x ≡ false) × (scopes_all x (marks_all p F s2 ts) ≡ 0)
      around x e = (by (h.names x) refl, omega (arith, h.sound.bound x, same x, e))
        where
          by : (c : Bool) → h.names x ≡ c → c ≡ false
          by false j = refl
          by true j = absurd (omega (arith, h.sound.free x j, same x, e))

  -- a handler's name
  handler_plain : (o : Option (Option Name)) → Sits F lex (Try o) → UnlinkedHandler (links F E) o
  handler_plain None h = tt
  handler_plain (Some o) h = own_plain sure o h

  handler_counted : (o : Option (Option Name)) (x : Name) → handler_names o x ≡ true → 1 ≤ one_if (has_name x (catch_name o))
  handler_counted None x e = absurd (false≢true e)
  handler_counted (Some o) x e = one_true sure (has_name x (option_name o)) (own_named sure o x e)

  handler_other : (o : Option (Option Name)) (x : Name) → Sits F lex (Try o) → handler_names o x ≡ true → Other F lex x
  handler_other None x h e = absurd (false≢true e)
  handler_other (Some o) x h e = own_other sure o x h e

  -- a name that a handler makes ready
  ready_handler : (o : Option (Option Name)) (cs : Forest) (x : Name) → ready_at (Try o) cs x ≡ true → handler_names o x ≡ true
  ready_handler None cs x e = absurd (false≢true e)
  ready_handler (Some o) cs x e = named_own sure o x e

  module _ (s : Carried) (G : Ground) (o : Option (Option Name)) (ss : List Span) (t u v : Tree) (h : Here p F E lex s G (node (Try o) ss (t ⊳ u ⊳ v ⊳ ε))) (a : all_labels alone (labels_of (t ⊳ u ⊳ v ⊳ ε)) ≡ true) where
    abbrev cs : Forest
    cs = t ⊳ u ⊳ v ⊳ ε

    abbrev s1 : Carried
    s1 = enter p F (Try o) ss cs s

    abbrev s2 : Carried
    s2 = after p F s1 t

    abbrev s3 : Carried
    s3 = after p F s2 u

    abbrev H : Ground
    H = beside (handler_names o) G

    -- the handler's name is in scope in the handler alone
    abbrev N : Name → Bool
    N x = handler_names o x || h.names x

    own : (x : Name) → handler_names o x ≡ true → 1 ≤ own_scopes x (Try o) (M sure (Try o) ss cs s)
    unfolding own_scopes
    own x e = handler_counted o x e

    free : (x : Name) → handler_names o x ≡ true → h.names x ≡ false
    free x e = by (h.names x) refl
      where
        by : (c : Bool) → h.names x ≡ c → c ≡ false
        by false j = refl
        by true j = absurd (omega (arith, h.sound.free x j, own x e))

    unlinked : (y x : Name) → E.values y ≡ a_name x → handler_names o y ≡ true → ⊥
    unlinked y x e n = true≢false (sym (link_lexical sure y x (some_link sure y x e)) ∙ (handler_other o y h.sound.sits.0 n).0 (link_fixed sure y x (some_link sure y x e)))

    firm : Firm E (wide N G)
    firm = firm_names (firm_wider sure {G = wide h.names G} (handler_names o) h.firm (λ y x e n. absurd (unlinked y x e n)))
      where
        firm_names : Firm E (wide N H) → Firm E (wide N G)
        firm_names k = record { closed = k.closed; settled_named = k.settled_named; settled_closed = k.settled_closed; sets_named = λ x e. or_right (handler_names o x) (h.names x) (h.firm.sets_named x e) }

    here : HereList p F E lex s1 N G cs
    here = record {
      more = λ x e. or_right (handler_names o x) (h.names x) (h.more x e);
      stands = stands_entered sure {G = wide N G} (Try o) ss cs (λ x e. or_left (handler_names o x) (h.names x) (ready_handler o cs x e)) (stands_wider sure {G = wide h.names G} (λ x e. or_right (handler_names o x) (h.names x) e) (λ x e. e) h.stands);
      agree = h.agree.0;
      firm = firm;
      sound = inner_sound {G = wide h.names G} (Try o) (mark_of (read_put p s (Try o))) (M sure (Try o) ss cs s) h.sound (λ x e. by x (or_cases (handler_names o x) (h.names x) e));
      within = λ x f e. absurd (true≢false (sym e ∙ none_wait sure (Try o) ss cs a h x));
      sets = λ x q f e. h.sets x q f (vars_inside (Try o) (mark_of (read_put p s (Try o))) (M sure (Try o) ss cs s) x refl (holds_marked sure (Try o) ss cs h) e);
    }
      where
        by : (x : Name) → (handler_names o x ≡ true) ⊎ (h.names x ≡ true) → (h.names x ≡ true) ⊎ (1 ≤ own_scopes x (Try o) (M sure (Try o) ss cs s))
        by x (inl e) = inr (own x e)
        by x (inr e) = inl e

    handler : HereList p F E lex s2 N G (u ⊳ v ⊳ ε) → HereList p F E lex s2 N H (u ⊳ v ⊳ ε)
    handler g = record {
      more = λ x e. more x (or_cases (handler_names o x) (G.names x) e);
      stands = stands_wider sure {G = wide N G} (λ x e. e) (λ x e. e) g.stands;
      agree = g.agree;
      firm = firm_wider sure {G = wide h.names G} (handler_names o) h.firm (λ y x e n. absurd (unlinked y x e n));
      sound = sound_names {G = wide N G} (λ x e. e) g.sound;
      within = g.within;
      sets = λ x q f e. or_right (handler_names o x) (G.sets x) (g.sets x q f e);
    }
      where
        more : (x : Name) → (handler_names o x ≡ true) ⊎ (G.names x ≡ true) → N x ≡ true
        more x (inl e) = or_left (handler_names o x) (h.names x) e
        more x (inr e) = or_right (handler_names o x) (h.names x) (h.more x e)

  head_label : (t : Tree) (ts : Forest) → all_labels alone (labels_of (t ⊳ ts)) ≡ true → (alone (label_of t) ≡ true) × (all_labels alone (labels_of ts) ≡ true)
  head_label (node l ss us) ts e = and_parts (alone l) (all_labels alone (labels_of ts)) e

  first_no_params : (t : Tree) → alone (label_of t) ≡ true → all_labels no_params (labels_of (t ⊳ ε)) ≡ true
  first_no_params (node l ss us) e = and_from (no_params l) true (alone_no_params l e) refl

  three_good : (s : Carried) (G : Ground) (o : Option (Option Name)) (ss : List Span) (t u v : Tree) → Known sure t → Known sure u → Known sure v → (h : Here p F E lex s G (node (Try o) ss (t ⊳ u ⊳ v ⊳ ε))) → all_labels alone (labels_of (t ⊳ u ⊳ v ⊳ ε)) ≡ true → Good (links F E) G (marks p F s (node (Try o) ss (t ⊳ u ⊳ v ⊳ ε)))
  three_good s G o ss t u v kt ku kv h a =
      let g1 : HereList p F E lex (s1 s G o ss t u v h a) (N s G o ss t u v h a) G (t ⊳ u ⊳ v ⊳ ε) = here s G o ss t u v h a in
      let a1 : (alone (label_of t) ≡ true) × (all_labels alone (labels_of (u ⊳ v ⊳ ε)) ≡ true) = head_label t (u ⊳ v ⊳ ε) a in
      let g2 : HereList p F E lex (s2 s G o ss t u v h a) (N s G o ss t u v h a) G (u ⊳ v ⊳ ε) = list_tail sure (first_no_params t a1.0) (settled_after p F (s1 s G o ss t u v h a) t (inr refl)) g1 in
      let a2 : (alone (label_of u) ≡ true) × (all_labels alone (labels_of (v ⊳ ε)) ≡ true) = head_label u (v ⊳ ε) a1.1 in
      let l2 : (s2 s G o ss t u v h a).listed ≡ false = listed_after p F (s1 s G o ss t u v h a) t in
      let l3 : (s3 s G o ss t u v h a).listed ≡ false = listed_after p F (s2 s G o ss t u v h a) u ∙ l2 in
      let g3 : HereList p F E lex (s3 s G o ss t u v h a) (N s G o ss t u v h a) G (v ⊳ ε) = list_tail sure (first_no_params u a2.0) (settled_after p F (s2 s G o ss t u v h a) u (inr l2)) g2 in
      good_try o ((holds_known sure kt).good (s1 s G o ss t u v h a) G (list_head g1) (inr refl) a1.0) (opens sure h.names h.more (handler_names o) h.firm (free s G o ss t u v h a)) (handler_plain o h.sound.sits.0)
      ((holds_known sure ku).good (s2 s G o ss t u v h a) (H s G o ss t u v h a) (list_head (handler s G o ss t u v h a g2)) (inr l2) a2.0) ((holds_known sure kv).good (s3 s G o ss t u v h a) G (list_head g3) (inr l3) (head_label v ε a2.1).0)

  pub try_good : (s : Carried) (G : Ground) (o : Option (Option Name)) (ss : List Span) (cs : Forest) → Below sure cs → Here p F E lex s G (node (Try o) ss cs) → Good (links F E) G (marks p F s (node (Try o) ss cs))
  try_good s G o ss _ none_below h = good_try_bad o refl
  try_good s G o ss _ (more_below k none_below) h = good_try_bad o refl
  try_good s G o ss _ (more_below k (more_below l none_below)) h = good_try_bad o refl
  try_good s G o ss _ (more_below {t} k (more_below {t = u} l (more_below {t = v} m none_below))) h = three_good s G o ss t u v k l m h (all_are is_block_or_inner alone block_alone (labels_of (t ⊳ u ⊳ v ⊳ ε)) (holds_here sure (Try o) ss (t ⊳ u ⊳ v ⊳ ε) h))
  try_good s G o ss _ (more_below k (more_below l (more_below m (more_below n b)))) h = good_try_bad o refl
