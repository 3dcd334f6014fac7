-- `for`.
use Rattle.std.proofs.Common.{◌≡◌, ◌≤◌, Bool, true, false, ◌&&◌, ◌||◌, List, [], ◌∷◌, Some, refl, sym, ap, ◌∙◌, arith, ◌⊎◌, inl, inr}
use Rattle.std.proofs.lemmas.Bool.{and_parts, and_from, or_cases, or_left, or_right, false≢true, true≢false}
use Rattle.swc_ast.specs.Labels.{is_declaration}
use Rattle.swc_ast.specs.declared.Span.{Span}
use Rattle.swc_ast.specs.declared.VarDeclKind.TheVariants.{Var, Let, Const}
use Rattle.swc_ast.specs.Tree.{Name, Label, For, VarDecl, Tree, node, Forest, ε, ◌⊳◌}
use Rattle.swc_ast.specs.Scope.{has_name, vars, vars_all, declared, is_found, list_binds}
use Rattle.swc_ast.specs.Meaning.{copied_names}
use Rattle.swc_ast.specs.Resolved.{own_scopes}
use Rattle.swc_ast.specs.Valid.{valid, valid_all, good_names, good_shape}
use Rattle.static_proofs.specs.Shaped.{is_holder, is_inner, is_head, is_statement, is_whole_item, labels_of, all_labels, holds, is_shaped, are_shaped}
use Rattle.static_proofs.proofs.Names.{has_name_append}
use Rattle.link_proofs.specs.Links.{Ground, beside, Opens, OpensList, Good, good_for}
use Rattle.carry_rules.specs.Carry.{Pass, Facts, Carried, enter, after, marks, marks_all, read_put, mark_of}
use Rattle.carry_rules.proofs.Sound.{Last, link_of, linked, fixed, links, waits_in, waits_all, waits_same, waiting_in, Sure, Stands, wide}
use Rattle.carry_rules.proofs.Shown.{no_params}
use Rattle.carry_rules.proofs.Standing.{settled_after, listed_after, are_shaped_same, stands_entered, stands_wider}
use Rattle.carry_rules.proofs.Alike.{Rights, is_lexical, is_constant, no_function}
use Rattle.carry_rules.proofs.Places.{alone, begins, inner_alone, statement_alone, statement_begins, begins_no_params, all_alone_wait}
use Rattle.carry_rules.proofs.Varying.{vars_inside, head_vars}
use Rattle.carry_rules.proofs.Bounds.{waits_bound, bound_waits}
use Rattle.carry_rules.proofs.Waiting.{waits_lexical}
use Rattle.carry_rules.proofs.Holding.{Here, HereList, list_head, list_tail, inner_sound, Known, Below, none_below, more_below, holds_known, rights, functions_of, link_fixed, link_lexical, known_no_function, fixed_link, constant_is_fixed, opens}
use Rattle.carry_rules.proofs.Opening.{firm_opened, some_link}
use Rattle.carry_rules.proofs.Simple.{M, holds_marked, holds_here, statement_item, one_bound}

inner_statement : (l : Label) → is_inner l ≡ true → is_statement l ≡ true
inner_statement l e = or_left (is_inner l) (is_holder l || is_declaration l) e

inner_begins : (l : Label) → is_inner l ≡ true → begins l ≡ true
inner_begins l e = statement_begins l (inner_statement l e)

inner_item : (l : Label) → is_inner l ≡ true → is_whole_item l ≡ true
inner_item l e = statement_item l (inner_statement l e)

head_begins : (l : Label) → is_head l ≡ true → begins l ≡ true
head_begins (VarDecl k) e = refl
head_begins l e = inner_begins l e

head_item : (l : Label) → is_head l ≡ true → is_whole_item l ≡ true
head_item (VarDecl k) e = refl
head_item l e = inner_item l e

copied_all : (t : Tree) (x : Name) → is_found x (copied_names t) ≡ true → copied_names t ≡ declared (t ⊳ ε)
copied_all (node (VarDecl Let) ss cs) x e = refl
copied_all (node (VarDecl Var) ss cs) x e = absurd (false≢true e)
copied_all (node (VarDecl Const) ss cs) x e = absurd (false≢true e)
copied_all (node l ss cs) x e = absurd (false≢true e)

or_false : (b : Bool) → (b || false) ≡ true → b ≡ true
or_false true e = refl
or_false false e = e

module _ {p : Pass} {F : Facts} {E : Last} {lex : Name → Bool} (sure : Sure p F E lex) where
  single_here : {s : Carried} {N : Name → Bool} {G : Ground} {t : Tree} {ts : Forest} → HereList p F E lex s N G (t ⊳ ts) → HereList p F E lex s N G (t ⊳ ε)
  single_here {s} {N} {G} {t} {ts} h = record {
    more = h.more;
    stands = h.stands;
    agree = (h.agree.0, tt);
    firm = h.firm;
    sound = record { sits = (h.sound.sits.0, tt); stays = (h.sound.stays.0, tt); sole = λ x f. omega (arith, h.sound.sole x f); once = λ x f. omega (arith, h.sound.once x f); free = λ x e. omega (arith, h.sound.free x e); bound = λ x. omega (arith, h.sound.bound x); shaped = and_from (is_shaped (marks p F s t)) true (and_parts (is_shaped (marks p F s t)) _ h.sound.shaped).0 refl; valid = and_from (valid (marks p F s t)) true (and_parts (valid (marks p F s t)) _ h.sound.valid).0 refl };
    within = λ x f e. h.within x f (or_left (waits_in t x) (waits_all ts x) (or_false (waits_in t x) e));
    sets = λ x v f e. h.sets x v f (head_vars (marks p F s t) (marks_all p F (after p F s t) ts) x (none x e));
  }
    where
      none : (x : Name) → has_name x (vars_all (marks p F s t ⊳ ε)) ≡ true → has_name x (vars (marks p F s t)) ≡ true
      none x e = or_false (has_name x (vars (marks p F s t))) (sym (has_name_append x (vars (marks p F s t)) []) ∙ e)

  module _ (s : Carried) (G : Ground) (ss is ts us bs : List Span) (li lt lu lb : Label) (ci ct cu cb : Forest) (h : Here p F E lex s G (node For ss (node li is ci ⊳ node lt ts ct ⊳ node lu us cu ⊳ node lb bs cb ⊳ ε)))
      (hi : is_head li ≡ true) (hs : all_labels alone (lt ∷ lu ∷ lb ∷ []) ≡ true) (ht : is_inner lt ≡ true) (hu : is_inner lu ≡ true) (hb : is_statement lb ≡ true) where
    abbrev cs : Forest
    cs = node li is ci ⊳ node lt ts ct ⊳ node lu us cu ⊳ node lb bs cb ⊳ ε

    abbrev s1 : Carried
    s1 = enter p F For ss cs s

    abbrev I : Tree
    I = marks p F s1 (node li is ci)

    abbrev H : Ground
    H = beside (list_binds (I ⊳ ε)) G

    shaped : are_shaped (M sure For ss cs s) ≡ true
    shaped = (and_parts (holds For (labels_of (M sure For ss cs s))) (are_shaped (M sure For ss cs s)) h.sound.shaped).1

    shaped_cs : are_shaped cs ≡ true
    shaped_cs = sym (are_shaped_same p F s1 cs) ∙ shaped

    head_shaped : are_shaped (I ⊳ ε) ≡ true
    head_shaped = and_from (is_shaped I) true (and_parts (is_shaped I) _ shaped).0 refl

    item : all_labels is_whole_item (labels_of (I ⊳ ε)) ≡ true
    item = and_from (is_whole_item li) true (head_item li hi) refl

    starts : all_labels begins (labels_of cs) ≡ true
    starts = and_from (begins li) _ (head_begins li hi) (and_from (begins lt) _ (inner_begins lt ht) (and_from (begins lu) _ (inner_begins lu hu) (and_from (begins lb) true (statement_begins lb hb) refl)))

    own : (x : Name) → list_binds (I ⊳ ε) x ≡ true → 1 ≤ own_scopes x For (M sure For ss cs s)
    unfolding own_scopes
    own x e = one_bound (list_binds (I ⊳ ε) x) e

    abbrev N : Name → Bool
    N x = list_binds (I ⊳ ε) x || h.names x

    within : (x : Name) → fixed F x ≡ true → waits_all cs x ≡ true → N x ≡ true
    within x f e = by (or_cases (waits_in (node li is ci) x) (waits_all (node lt ts ct ⊳ node lu us cu ⊳ node lb bs cb ⊳ ε) x) e)
      where
        by : (waits_in (node li is ci) x ≡ true) ⊎ (waits_all (node lt ts ct ⊳ node lu us cu ⊳ node lb bs cb ⊳ ε) x ≡ true) → N x ≡ true
        by (inl w) = or_left (list_binds (I ⊳ ε) x) (h.names x) (waits_bound (I ⊳ ε) x item head_shaped (or_left (waits_in I x) false (waits_same p F s1 (node li is ci) x ∙ w)))
        by (inr w) = absurd (true≢false (sym w ∙ all_alone_wait (node lt ts ct ⊳ node lu us cu ⊳ node lb bs cb ⊳ ε) x hs (and_parts (is_shaped (node li is ci)) (are_shaped (node lt ts ct ⊳ node lu us cu ⊳ node lb bs cb ⊳ ε)) shaped_cs).1))

    stands1 : Stands E (wide N H) s1
    stands1 = stands_entered sure For ss cs (λ x e. absurd (false≢true e)) (stands_wider sure {G = wide h.names G} (λ x e. or_right (list_binds (I ⊳ ε) x) (h.names x) e) (λ x e. e) h.stands)

    here : HereList p F E lex s1 N H cs
    here = record {
      more = λ x e. more x (or_cases (list_binds (I ⊳ ε) x) (G.names x) e);
      stands = stands1;
      agree = h.agree.0;
      firm = firm_opened sure {G = wide h.names G} (list_binds (I ⊳ ε)) cs s1 h.firm (λ y x e n. or_left (waits_in (node li is ci) y) _ (sym (waits_same p F s1 (node li is ci) y) ∙ or_false (waits_in I y) (bound_waits sure y (link_fixed sure y x (some_link sure y x e)) (link_lexical sure y x (some_link sure y x e)) (I ⊳ ε) (h.sound.sits.1.0, tt) head_shaped n))) stands1 h.agree.0 shaped_cs starts within;
      sound = inner_sound For (mark_of (read_put p s For)) (M sure For ss cs s) h.sound (λ x e. by x (or_cases (list_binds (I ⊳ ε) x) (h.names x) e));
      within = within;
      sets = λ x v f e. or_right (list_binds (I ⊳ ε) x) (G.sets x) (h.sets x v f (vars_inside For (mark_of (read_put p s For)) (M sure For ss cs s) x refl (holds_marked sure For ss cs h) e));
    }
      where
        by : (x : Name) → (list_binds (I ⊳ ε) x ≡ true) ⊎ (h.names x ≡ true) → (h.names x ≡ true) ⊎ (1 ≤ own_scopes x For (M sure For ss cs s))
        by x (inl e) = inr (own x e)
        by x (inr e) = inl e

        more : (x : Name) → (list_binds (I ⊳ ε) x ≡ true) ⊎ (G.names x ≡ true) → N x ≡ true
        more x (inl e) = or_left (list_binds (I ⊳ ε) x) (h.names x) e
        more x (inr e) = or_right (list_binds (I ⊳ ε) x) (h.names x) (h.more x e)

    nothing_around : (x : Name) → list_binds (I ⊳ ε) x ≡ true → h.names x ≡ false
    nothing_around x e = by (h.names x) refl
      where
        by : (c : Bool) → h.names x ≡ c → c ≡ false
        by false j = refl
        by true j = absurd (omega (arith, h.sound.free x j, own x e))

    copies_open : Opens (links F E) H (λ x. is_found x (copied_names I))
    copies_open = record {
      apart = λ y x l b c. by y x l b c (H.names y) refl;
      settled = λ y e. none y (h.firm.settled_named y e);
      settled_target = λ y x e i. none x (h.firm.settled_closed y x e i);
    }
      where
        none : (x : Name) → h.names x ≡ true → is_found x (copied_names I) ≡ false
        none x e = at (is_found x (copied_names I)) refl
          where
            at : (c : Bool) → is_found x (copied_names I) ≡ c → c ≡ false
            at false b = refl
            at true b = absurd (true≢false (sym e ∙ nothing_around x (ap (is_found x) (sym (copied_all I x b)) ∙ b)))

        at : (y x : Name) → link_of (E.values y) ≡ Some x → is_found x (copied_names I) ≡ true → is_found y (copied_names I) ≡ false → (list_binds (I ⊳ ε) y ≡ true) ⊎ (G.names y ≡ true) → ⊥
        at y x l b c (inl e) = true≢false (sym e ∙ ap (is_found y) (sym (copied_all I x b)) ∙ c)
        at y x l b c (inr e) = true≢false (sym (h.firm.closed y x (linked (E.values y) x l) (h.more y e)) ∙ nothing_around x (ap (is_found x) (sym (copied_all I x b)) ∙ b))

        by : (y x : Name) → link_of (E.values y) ≡ Some x → is_found x (copied_names I) ≡ true → is_found y (copied_names I) ≡ false → (d : Bool) → H.names y ≡ d → d ≡ false
        by y x l b c false e = refl
        by y x l b c true e = absurd (at y x l b c (or_cases (list_binds (I ⊳ ε) y) (G.names y) e))

    four_good : Known sure (node li is ci) → Known sure (node lt ts ct) → Known sure (node lu us cu) → Known sure (node lb bs cb) → Good (links F E) G (marks p F s (node For ss cs))
    four_good ki kt ku kb =
        let g1 : HereList p F E lex s1 N H cs = here in
        let r : Rights (links F E) F lex H (declared (I ⊳ ε)) = rights sure (more_below ki none_below) s1 H (record { names = N; list = single_here g1; flat = inr refl }) (and_from (begins li) true (head_begins li hi) refl) in
        let s2 : Carried = after p F s1 (node li is ci) in
        let s3 : Carried = after p F s2 (node lt ts ct) in
        let s4 : Carried = after p F s3 (node lu us cu) in
        let l2 : s2.listed ≡ false = listed_after p F s1 (node li is ci) in
        let h2 : HereList p F E lex s2 N H (node lt ts ct ⊳ node lu us cu ⊳ node lb bs cb ⊳ ε) = list_tail sure (and_from (no_params li) true (begins_no_params li (head_begins li hi)) refl) (settled_after p F s1 (node li is ci) (inr refl)) g1 in
        let l3 : s3.listed ≡ false = listed_after p F s2 (node lt ts ct) ∙ l2 in
        let h3 : HereList p F E lex s3 N H (node lu us cu ⊳ node lb bs cb ⊳ ε) = list_tail sure (and_from (no_params lt) true (begins_no_params lt (inner_begins lt ht)) refl) (settled_after p F s2 (node lt ts ct) (inr l2)) h2 in
        let l4 : s4.listed ≡ false = listed_after p F s3 (node lu us cu) ∙ l3 in
        let h4 : HereList p F E lex s4 N H (node lb bs cb ⊳ ε) = list_tail sure (and_from (no_params lu) true (begins_no_params lu (inner_begins lu hu)) refl) (settled_after p F s3 (node lu us cu) (inr l3)) h3 in
        good_for (waiting_in F I) (list_opens r) (functions_of sure (I ⊳ ε) r) copies_open ((holds_known sure ki).begun s1 H (list_head g1) (inr refl) (head_begins li hi)) ((holds_known sure kt).good s2 H (list_head h2) (inr l2) (inner_alone lt ht)) ((holds_known sure ku).good s3 H (list_head h3) (inr l3) (inner_alone lu hu))
        ((holds_known sure kb).good s4 H (list_head h4) (inr l4) (and_parts (alone lb) true (and_parts (alone lu) _ (and_parts (alone lt) _ hs).1).1).0)
      where
        list_opens : Rights (links F E) F lex H (declared (I ⊳ ε)) → OpensList (links F E) G (waiting_in F I) (I ⊳ ε)
        list_opens r = record {
          opens = opens sure h.names h.more (list_binds (I ⊳ ε)) h.firm nothing_around;
          waiting = λ x e. let q = and_parts (fixed F x) (waits_in I x) e in is_lexical (links F E) F lex H (declared (I ⊳ ε)) r x (waits_bound (I ⊳ ε) x item head_shaped (or_left (waits_in I x) false q.1)) q.0 (waits_lexical F lex x (I ⊳ ε) (h.sound.sits.1.0, tt) (or_left (waits_in I x) false q.1));
          waiting_fixed = λ x e. fixed_link sure x (and_parts (fixed F x) (waits_in I x) e).0;
          no_function = λ y x e. no_function (links F E) F lex H (declared (I ⊳ ε)) r y (link_fixed sure y x e) (link_lexical sure y x e);
          no_known = λ y v e. known_no_function sure H (declared (I ⊳ ε)) r y v e;
          constants = λ x c b. is_constant (links F E) F lex H (declared (I ⊳ ε)) r x c (is_lexical (links F E) F lex H (declared (I ⊳ ε)) r x b (constant_is_fixed sure x c) (sure.constant_lexical x c));
        }

  pub for_good : (s : Carried) (G : Ground) (ss : List Span) (cs : Forest) → Below sure cs → Here p F E lex s G (node For ss cs) → Good (links F E) G (marks p F s (node For ss cs))
  for_good s G ss ε b h = absurd (false≢true (holds_here sure For ss ε h))
  for_good s G ss (node li is ci ⊳ ε) b h = absurd (false≢true (holds_here sure For ss (node li is ci ⊳ ε) h))
  for_good s G ss (node li is ci ⊳ node lt ts ct ⊳ ε) b h = absurd (false≢true (holds_here sure For ss (node li is ci ⊳ node lt ts ct ⊳ ε) h))
  for_good s G ss (node li is ci ⊳ node lt ts ct ⊳ node lu us cu ⊳ ε) b h = absurd (false≢true (holds_here sure For ss (node li is ci ⊳ node lt ts ct ⊳ node lu us cu ⊳ ε) h))
  for_good s G ss (node li is ci ⊳ node lt ts ct ⊳ node lu us cu ⊳ node lb bs cb ⊳ node lw ws cw ⊳ vs) b h = absurd (false≢true (holds_here sure For ss (node li is ci ⊳ node lt ts ct ⊳ node lu us cu ⊳ node lb bs cb ⊳ node lw ws cw ⊳ vs) h))
  for_good s G ss (node li is ci ⊳ node lt ts ct ⊳ node lu us cu ⊳ node lb bs cb ⊳ ε) (more_below ki (more_below kt (more_below ku (more_below kb n)))) h =
      let q = and_parts (is_head li) (is_inner lt && (is_inner lu && is_statement lb)) (holds_here sure For ss (node li is ci ⊳ node lt ts ct ⊳ node lu us cu ⊳ node lb bs cb ⊳ ε) h) in
      let r = and_parts (is_inner lt) (is_inner lu && is_statement lb) q.1 in
      let w = and_parts (is_inner lu) (is_statement lb) r.1 in
      let g = (and_parts (good_names For) (good_shape For (M sure For ss (node li is ci ⊳ node lt ts ct ⊳ node lu us cu ⊳ node lb bs cb ⊳ ε) s)) (and_parts (good_names For && good_shape For (M sure For ss (node li is ci ⊳ node lt ts ct ⊳ node lu us cu ⊳ node lb bs cb ⊳ ε) s)) (valid_all (M sure For ss (node li is ci ⊳ node lt ts ct ⊳ node lu us cu ⊳ node lb bs cb ⊳ ε) s)) h.sound.valid).0).1 in
      four_good s G ss is ts us bs li lt lu lb ci ct cu cb h q.0 (and_from (alone lt) _ (inner_alone lt r.0) (and_from (alone lu) _ (inner_alone lu w.0) (and_from (alone lb) true (statement_alone lb _ _ w.1 g) refl))) r.0 w.0 w.1 ki kt ku kb
