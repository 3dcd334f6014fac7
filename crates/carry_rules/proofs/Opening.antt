-- Where a scope opens for a list.
use Rattle.std.proofs.Common.{◌≡◌, ◌≤◌, Bool, true, false, ◌||◌, List, Some, refl, sym, ap, ◌∙◌, arith, ◌⊎◌, inl, inr}
use Rattle.std.proofs.lemmas.Bool.{and_parts, or_cases, or_left, or_right}
use Rattle.swc_ast.specs.declared.Span.{Span}
use Rattle.swc_ast.specs.Tree.{Name, Label, node, Forest}
use Rattle.swc_ast.specs.Scope.{declared, found, list_binds}
use Rattle.swc_ast.specs.Resolved.{own_scopes}
use Rattle.static_proofs.specs.Shaped.{is_whole_item, labels_of, all_labels, holds, are_shaped}
use Rattle.link_proofs.specs.Links.{a_name, Ground, beside, OpensList, IsLexical}
use Rattle.carry_rules.specs.Carry.{Pass, Facts, Carried, enter, ready_at, read_put, mark_of, marks_all}
use Rattle.carry_rules.proofs.Sound.{Last, link_of, fixed, links, waits_all, waits_all_same, waiting, Sure, Firm, Stands, wide, agrees_all}
use Rattle.carry_rules.proofs.Standing.{labels_same, are_shaped_same, stands_entered, stands_wider}
use Rattle.carry_rules.proofs.Alike.{Rights, is_lexical, is_constant, no_function}
use Rattle.carry_rules.proofs.Places.{begins, all_are, item_begins}
use Rattle.carry_rules.proofs.Bounds.{waits_bound, bound_waits}
use Rattle.carry_rules.proofs.Targets.{targets}
use Rattle.carry_rules.proofs.Waiting.{waits_lexical}
use Rattle.carry_rules.proofs.Varying.{is_root, vars_inside}
use Rattle.carry_rules.proofs.Holding.{Here, HereList, inner_sound, firm_wider, link_fixed, link_lexical, known_no_function, fixed_link, constant_is_fixed, opens}

module _ {p : Pass} {F : Facts} {E : Last} {lex : Name → Bool} (sure : Sure p F E lex) where
  -- what a name that is carried stands for is in scope, where a scope opens
  pub firm_opened : {G : Ground} (B : Name → Bool) (ts : Forest) (s : Carried) → Firm E G → ((y x : Name) → E.values y ≡ a_name x → B y ≡ true → waits_all ts y ≡ true) → Stands E (beside B G) s → agrees_all p F E s ts → are_shaped ts ≡ true → all_labels begins (labels_of ts) ≡ true → ((z : Name) → fixed F z ≡ true → waits_all ts z ≡ true → (B z || G.names z) ≡ true) → Firm E (beside B G)
  firm_opened {G} B ts s h w st a i b f = firm_wider sure B h (λ y x e n. targets p F E (λ z. B z || G.names z) ts s st.ready a i b f y x (w y x e n) e)

  pub some_link : (y x : Name) → E.values y ≡ a_name x → link_of (E.values y) ≡ Some x
  some_link y x e = ap link_of e

  -- a list whose scope binds what it declares
  module _ {G : Ground} {s : Carried} (l : Label) (ss : List Span) (cs : Forest) (h : Here p F E lex s G (node l ss cs)) (own : (x : Name) → list_binds (marks_all p F (enter p F l ss cs s) cs) x ≡ true → 1 ≤ own_scopes x l (marks_all p F (enter p F l ss cs s) cs))
      (ready : (x : Name) → ready_at l cs x ≡ true → list_binds (marks_all p F (enter p F l ss cs s) cs) x ≡ true) (whole : all_labels is_whole_item (labels_of cs) ≡ true) where
    abbrev M : Forest
    M = marks_all p F (enter p F l ss cs s) cs

    abbrev H : Ground
    H = beside (list_binds M) G

    abbrev pub opened_names : Name → Bool
    opened_names x = list_binds M x || h.names x

    shaped_marks : are_shaped M ≡ true
    shaped_marks = (and_parts (holds l (labels_of M)) (are_shaped M) h.sound.shaped).1

    whole_marks : all_labels is_whole_item (labels_of M) ≡ true
    whole_marks = ap (all_labels is_whole_item) (labels_same p F (enter p F l ss cs s) cs) ∙ whole

    within : (z : Name) → fixed F z ≡ true → waits_all cs z ≡ true → opened_names z ≡ true
    within z f e = or_left (list_binds M z) (h.names z) (waits_bound M z whole_marks shaped_marks (waits_all_same p F (enter p F l ss cs s) cs z ∙ e))

    stands_inside : Stands E (wide opened_names H) (enter p F l ss cs s)
    stands_inside = stands_entered sure l ss cs (λ x e. or_left (list_binds M x) (h.names x) (ready x e)) (stands_wider sure {G = wide h.names G} (λ x e. or_right (list_binds M x) (h.names x) e) (λ x e. e) h.stands)

    pub list_here : is_root l ≡ false → HereList p F E lex (enter p F l ss cs s) opened_names H cs
    list_here r = record {
      more = λ x e. more x (or_cases (list_binds M x) (G.names x) e);
      stands = stands_inside;
      agree = h.agree.0;
      firm = firm_opened {G = wide h.names G} (list_binds M) cs (enter p F l ss cs s) h.firm (λ y x e n. sym (waits_all_same p F (enter p F l ss cs s) cs y) ∙ bound_waits sure y (link_fixed sure y x (some_link y x e)) (link_lexical sure y x (some_link y x e)) M h.sound.sits.1 shaped_marks n) stands_inside h.agree.0 (sym (are_shaped_same p F (enter p F l ss cs s) cs) ∙ shaped_marks) (all_are is_whole_item begins item_begins (labels_of cs) whole) within;
      sound = inner_sound l (mark_of (read_put p s l)) M h.sound (λ x e. by x (or_cases (list_binds M x) (h.names x) e));
      within = within;
      sets = λ x v f e. or_right (list_binds M x) (G.sets x) (h.sets x v f (vars_inside l (mark_of (read_put p s l)) M x r (and_parts (holds l (labels_of M)) (are_shaped M) h.sound.shaped).0 e));
    }
      where
        by : (x : Name) → (list_binds M x ≡ true) ⊎ (h.names x ≡ true) → (h.names x ≡ true) ⊎ (1 ≤ own_scopes x l M)
        by x (inl e) = inr (own x e)
        by x (inr e) = inl e

        more : (x : Name) → (list_binds M x ≡ true) ⊎ (G.names x ≡ true) → opened_names x ≡ true
        more x (inl e) = or_left (list_binds M x) (h.names x) e
        more x (inr e) = or_right (list_binds M x) (h.names x) (h.more x e)

    pub nothing_around : (x : Name) → list_binds M x ≡ true → h.names x ≡ false
    nothing_around x e = by (h.names x) refl
      where
        by : (b : Bool) → h.names x ≡ b → b ≡ false
        by false i = refl
        by true i = absurd (omega (arith, h.sound.free x i, own x e))

    pub list_opens : Rights (links F E) F lex H (declared M) → OpensList (links F E) G (waiting F M) M
    list_opens r = record {
      opens = opens sure h.names h.more (list_binds M) h.firm nothing_around;
      waiting = λ x e. let q = and_parts (fixed F x) (waits_all M x) e in lexical_of x q.0 q.1;
      waiting_fixed = λ x e. fixed_link sure x (and_parts (fixed F x) (waits_all M x) e).0;
      no_function = λ y x e. no_function (links F E) F lex H (declared M) r y (link_fixed sure y x e) (link_lexical sure y x e);
      no_known = λ y v e. known_no_function sure H (declared M) r y v e;
      constants = λ x c b. is_constant (links F E) F lex H (declared M) r x c (is_lexical (links F E) F lex H (declared M) r x b (constant_is_fixed sure x c) (sure.constant_lexical x c));
    }
      where
        lexical_of : (x : Name) → fixed F x ≡ true → waits_all M x ≡ true → IsLexical (found x (declared M))
        lexical_of x f w = is_lexical (links F E) F lex H (declared M) r x (waits_bound M x whole_marks shaped_marks w) f (waits_lexical F lex x M h.sound.sits.1 w)
