-- Parameters and a body, where they are called.
use Rattle.std.proofs.Common.{◌≡◌, Bool, true, false, not, ◌&&◌, ◌||◌, List, [], refl, sym, ap, ap₂, subst, ◌∙◌, arith, ◌⊎◌, inl, inr}
use Rattle.std.proofs.lemmas.Bool.{and_parts, and_from, or_cases, or_left, or_right, false≢true, true≢false, not-true}
use Rattle.swc_ast.specs.Labels.{is_param}
use Rattle.swc_ast.specs.declared.Span.{Span}
use Rattle.swc_ast.specs.Tree.{Name, Label, Params, Tree, node, Forest, ε, ◌⊳◌}
use Rattle.swc_ast.specs.Scope.{has_name, param_names, vars_all, declared, found, list_binds, body_declares}
use Rattle.swc_ast.specs.Call.{body_binds, statements_of}
use Rattle.swc_ast.specs.Resolved.{scopes_all}
use Rattle.swc_ast.specs.Valid.{valid, valid_all, good_names, good_shape}
use Rattle.static_proofs.specs.Shaped.{is_whole_item, labels_of, all_labels, holds, is_shaped, are_shaped}
use Rattle.link_proofs.specs.Links.{nothing, a_name, Ground, beside, IsLexical, OpensParams, OpensBody, Functions, BodyGood, Callable, callable}
use Rattle.carry_rules.specs.Carry.{Pass, Facts, Carried, enter, after, marks, marks_all}
use Rattle.carry_rules.proofs.Sound.{Last, fixed, links, waits_all, waiting, Sure, every_all, Firm, Stands, wide}
use Rattle.carry_rules.proofs.Shown.{no_params, shown_all, shown_all_waits, Was, ready_after}
use Rattle.carry_rules.proofs.Standing.{labels_same, are_shaped_same, settled_after, right_after, stands_entered, stands_wider}
use Rattle.carry_rules.proofs.Alike.{Rights, is_lexical, is_constant}
use Rattle.carry_rules.proofs.Places.{all_are}
use Rattle.carry_rules.proofs.Varying.{bare, bare_all, param_bare}
use Rattle.carry_rules.proofs.Bounds.{waits_bound, all_unfixed}
use Rattle.carry_rules.proofs.Waiting.{waits_lexical}
use Rattle.carry_rules.proofs.Holding.{HereList, HereAll, firm_wider, Known, below_known, functions_of, link_fixed, link_lexical, known_birth, fixed_link, constant_is_fixed, opens}
use Rattle.carry_rules.proofs.Opening.{some_link}
use Rattle.carry_rules.proofs.Parameters.{params_same, params_wait, params_other, waits_param, opens_params, good_params}

param_no_params : (l : Label) → is_param l ≡ true → no_params l ≡ true
param_no_params Params e = absurd (false≢true e)
param_no_params l e = refl

-- a parameter or what the body declares
abbrev pub Binds : List Name → Forest → Name → Type 0
Binds P T x = (has_name x P ≡ true) ⊎ (body_declares T x ≡ true)

pub in_body : (a b c : Bool) → b ≡ true → ((not a && b) || (a || c)) ≡ true
in_body true b c e = or_right (not true && b) (true || c) refl
in_body false b c e = or_left (not false && b) (false || c) (and_from true b refl e)

module _ {p : Pass} {F : Facts} {E : Last} {lex : Name → Bool} (sure : Sure p F E lex) where
  module _ (s : Carried) (K : Ground) (rs : List Span) (ps : Forest) (b : Tree) where
    abbrev pub sp : Carried
    sp = enter p F Params rs ps s

    abbrev pub Ps : Forest
    Ps = marks_all p F sp ps

    abbrev pub s3 : Carried
    s3 = after p F s (node Params rs ps)

    abbrev pub G1 : Ground
    G1 = beside (λ x. has_name x (param_names Ps)) K

    module _ (N : Name → Bool) (h : HereList p F E lex s N K (node Params rs ps ⊳ b ⊳ ε)) (around : (x : Name) → Binds (param_names Ps) (statements_of (marks p F s3 b)) x → (N x ≡ false) × (scopes_all x (marks_all p F s (node Params rs ps ⊳ b ⊳ ε)) ≡ 0)) where
      pub params_shaped : (all_labels is_param (labels_of Ps) ≡ true) × (are_shaped Ps ≡ true)
      params_shaped = and_parts (holds Params (labels_of Ps)) (are_shaped Ps) (and_parts (is_shaped (node Params [] Ps)) (are_shaped (marks p F s3 b ⊳ ε)) h.sound.shaped).0

      pub params_are : all_labels is_param (labels_of ps) ≡ true
      params_are = ap (all_labels is_param) (sym (labels_same p F sp ps)) ∙ params_shaped.0

      param_free : (y x : Name) → E.values y ≡ a_name x → has_name y (param_names Ps) ≡ true → ⊥
      param_free y x e n = true≢false (sym (link_lexical sure y x (some_link sure y x e)) ∙ (params_other F lex Ps y h.sound.sits.0.1 n).0 (link_fixed sure y x (some_link sure y x e)))

      abbrev pub N1 : Name → Bool
      N1 x = has_name x (param_names Ps) || N x

      pub firm1 : Firm E (wide N1 G1)
      firm1 = firm_wider sure {G = wide N K} (λ x. has_name x (param_names Ps)) h.firm (λ y x e n. absurd (param_free y x e n))

      pub wider1 : (x : Name) → N x ≡ true → N1 x ≡ true
      wider1 x e = or_right (has_name x (param_names Ps)) (N x) e

      pub more1 : (x : Name) → G1.names x ≡ true → N1 x ≡ true
      more1 x e = by (or_cases (has_name x (param_names Ps)) (K.names x) e)
        where
          by : (has_name x (param_names Ps) ≡ true) ⊎ (K.names x ≡ true) → N1 x ≡ true
          by (inl n) = or_left (has_name x (param_names Ps)) (N x) n
          by (inr n) = wider1 x (h.more x n)

      pub free1 : (x : Name) → N1 x ≡ true → scopes_all x (marks_all p F s (node Params rs ps ⊳ b ⊳ ε)) ≡ 0
      free1 x e = by (or_cases (has_name x (param_names Ps)) (N x) e)
        where
          by : (has_name x (param_names Ps) ≡ true) ⊎ (N x ≡ true) → scopes_all x (marks_all p F s (node Params rs ps ⊳ b ⊳ ε)) ≡ 0
          by (inl n) = (around x (inl n)).1
          by (inr n) = h.sound.free x n

      params_here : HereAll p F E lex sp G1 ps
      params_here = record {
        names = N1;
        list = record {
          more = more1;
          stands = stands_entered sure Params rs ps (λ x e. or_left (has_name x (param_names Ps)) (N x) (ap (has_name x) (params_same p F sp ps) ∙ e)) (stands_wider sure {G = wide N K} wider1 (λ x e. e) h.stands);
          agree = h.agree.0.0;
          firm = firm1;
          sound = record {
            sits = h.sound.sits.0.1;
            stays = h.sound.stays.0.1;
            sole = λ x f. omega (arith, h.sound.sole x f);
            once = λ x f. omega (arith, h.sound.once x f);
            free = λ x f. omega (arith, free1 x f);
            bound = λ x. omega (arith, h.sound.bound x);
            shaped = params_shaped.1;
            valid = (and_parts (good_names Params && good_shape Params Ps) (valid_all Ps) (and_parts (valid (node Params [] Ps)) (valid_all (marks p F s3 b ⊳ ε)) h.sound.valid).0).1;
          };
          within = λ x f e. absurd (true≢false (sym e ∙ params_wait ps x params_are));
          sets = λ x v f e. absurd (true≢false (sym e ∙ ap (has_name x) (bare_all Ps (all_are is_param bare param_bare (labels_of Ps) params_shaped.0))));
        };
        flat = inr refl;
      }

      pub stands3 : Stands E (wide N1 G1) s3
      stands3 = record { ready = λ x e. by x (ready_after p F s (node Params rs ps) x e); right = right_after p F E s (node Params rs ps) h.agree.0 h.stands.right; settled = λ x. laid x (settled_after p F s (node Params rs ps) (inl refl) x) (h.stands.settled x) }
        where
          laid : (x : Name) → s3.settled x ≡ s.settled x → (s.settled x ≡ nothing) ⊎ ((s.settled x ≡ E.settled x) × (K.settled x ≡ true)) → (s3.settled x ≡ nothing) ⊎ ((s3.settled x ≡ E.settled x) × (K.settled x ≡ true))
          laid x e (inl g) = inl (e ∙ g)
          laid x e (inr g) = inr (e ∙ g.0, g.1)

          shaped : are_shaped ps ≡ true
          shaped = sym (are_shaped_same p F sp ps) ∙ params_shaped.1

          by : (x : Name) → Was p F s x (has_name x (param_names ps) || shown_all ps x) → N1 x ≡ true
          by x (inl e) = wider1 x (h.stands.ready x e)
          by x (inr e) = at (or_cases (has_name x (param_names ps)) (shown_all ps x) e.0)
            where
              at : (has_name x (param_names ps) ≡ true) ⊎ (shown_all ps x ≡ true) → N1 x ≡ true
              at (inl e) = or_left (has_name x (param_names Ps)) (N x) (ap (has_name x) (params_same p F sp ps) ∙ e)
              at (inr e) = absurd (true≢false (sym (shown_all_waits ps x shaped (all_are is_param no_params param_no_params (labels_of ps) params_are) e) ∙ params_wait ps x params_are))

      opens_ps : OpensParams (links F E) K (waits_param sure (param_names Ps)) (param_names Ps)
      opens_ps = opens_params sure Ps h.sound.sits.0.1 (opens sure N h.more (λ x. has_name x (param_names Ps)) h.firm (λ x e. (around x (inl e)).0))

      -- the names that a body binds
      module _ (T : Forest) (is : statements_of (marks p F s3 b) ≡ T) (sits : every_all F lex T) (shaped : are_shaped T ≡ true) (whole : all_labels is_whole_item (labels_of T) ≡ true) where
        abbrev pub G2 : Ground
        G2 = beside (body_binds (param_names Ps) T) G1

        abbrev pub N2 : Name → Bool
        N2 x = body_binds (param_names Ps) T x || N1 x

        pub inside : (x : Name) → body_binds (param_names Ps) T x ≡ true → body_declares T x ≡ true
        inside x e = (and_parts (not (has_name x (param_names Ps))) (body_declares T x) e).1

        pub outside : (x : Name) → body_binds (param_names Ps) T x ≡ true → N1 x ≡ false
        outside x e = ap₂ ◌||◌ (not-true (has_name x (param_names Ps)) (and_parts (not (has_name x (param_names Ps))) (body_declares T x) e).0) (around x (inr (subst (λ T. body_declares T x ≡ true) (sym is) (inside x e)))).0

        pub free2 : (x : Name) → N2 x ≡ true → scopes_all x (marks_all p F s (node Params rs ps ⊳ b ⊳ ε)) ≡ 0
        free2 x e = by (or_cases (body_binds (param_names Ps) T x) (N1 x) e)
          where
            by : (body_binds (param_names Ps) T x ≡ true) ⊎ (N1 x ≡ true) → scopes_all x (marks_all p F s (node Params rs ps ⊳ b ⊳ ε)) ≡ 0
            by (inl n) = (around x (inr (subst (λ T. body_declares T x ≡ true) (sym is) (inside x n)))).1
            by (inr n) = free1 x n

        pub list_bound : (x : Name) → fixed F x ≡ true → body_binds (param_names Ps) T x ≡ true → list_binds T x ≡ true
        list_bound x f e = by (or_cases (has_name x (vars_all T)) (list_binds T x) (inside x e))
          where
            by : (has_name x (vars_all T) ≡ true) ⊎ (list_binds T x ≡ true) → list_binds T x ≡ true
            by (inl e) = absurd (true≢false (sym f ∙ all_unfixed F lex x T sits e))
            by (inr e) = e

        module _ (r : Rights (links F E) F lex G2 (declared T)) where
          found_lexical : (x : Name) → fixed F x ≡ true → lex x ≡ true → body_binds (param_names Ps) T x ≡ true → IsLexical (found x (declared T))
          found_lexical x f l e = is_lexical (links F E) F lex G2 (declared T) r x (list_bound x f e) f l

          not_param : (x : Name) → fixed F x ≡ true → waits_all T x ≡ true → has_name x (param_names Ps) ≡ false
          not_param x f w = by (has_name x (param_names Ps)) refl
            where
              by : (c : Bool) → has_name x (param_names Ps) ≡ c → c ≡ false
              by false e = refl
              by true e = absurd (true≢false (sym (waits_lexical F lex x T sits w) ∙ (params_other F lex Ps x h.sound.sits.0.1 e).0 f))

          not_of : (c : Bool) → c ≡ false → not c ≡ true
          not_of false e = refl
          not_of true e = absurd (true≢false e)

          pub opens_body : OpensBody (links F E) G1 (waiting F T) (param_names Ps) T
          opens_body = record {
            opens = opens sure N1 more1 (body_binds (param_names Ps) T) firm1 outside;
            waiting = λ x e. let q = and_parts (fixed F x) (waits_all T x) e in is_lexical (links F E) F lex G2 (declared T) r x (waits_bound T x whole shaped q.1) q.0 (waits_lexical F lex x T sits q.1);
            waiting_bound = λ x e. let q = and_parts (fixed F x) (waits_all T x) e in and_from (not (has_name x (param_names Ps))) (body_declares T x) (not_of (has_name x (param_names Ps)) (not_param x q.0 q.1)) (or_right (has_name x (vars_all T)) (list_binds T x) (waits_bound T x whole shaped q.1));
            waiting_fixed = λ x e. fixed_link sure x (and_parts (fixed F x) (waits_all T x) e).0;
            no_variable = λ y x e n. found_lexical y (link_fixed sure y x e) (link_lexical sure y x e) n;
            constants = λ x c n. is_constant (links F E) F lex G2 (declared T) r x c (found_lexical x (constant_is_fixed sure x c) (sure.constant_lexical x c) n);
            known_variable = λ y v e n. known_birth sure G2 (declared T) r y v e (λ f l. found_lexical y f l n);
          }

          pub made : (k : Known sure (node Params rs ps)) → BodyGood (links F E) G2 (waiting F T) (marks p F s3 b) → Callable (links F E) K (marks_all p F s (node Params rs ps ⊳ b ⊳ ε))
          made k g = callable (waits_param sure (param_names Ps)) (waiting F T) opens_ps (good_params sure (below_known sure k) sp G1 params_here params_are)
              (subst (λ U. OpensBody (links F E) G1 (waiting F T) (param_names Ps) U) (sym is) opens_body)
              (subst (λ U. Functions (links F E) (beside (body_binds (param_names Ps) U) G1) U) (sym is) (functions_of sure T r))
              (subst (λ U. BodyGood (links F E) (beside (body_binds (param_names Ps) U) G1) (waiting F T) (marks p F s3 b)) (sym is) g)
