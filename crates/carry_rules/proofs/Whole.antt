-- Modules and scripts are good.
use Rattle.std.proofs.Common.{◌≡◌, ◌≤◌, Bool, true, false, ◌||◌, List, refl, sym, ap, ◌∙◌, ◌⊎◌, inl, inr}
use Rattle.std.proofs.lemmas.Bool.{and_parts, or_cases, or_left, or_right, false≢true, true≢false}
use Rattle.swc_ast.specs.declared.Span.{Span}
use Rattle.swc_ast.specs.Tree.{Name, same_name, Label, Import, ImportNamed, ImportDefault, ImportStar, Module, Script, node, Forest, ε, ◌⊳◌}
use Rattle.swc_ast.specs.Scope.{has_name, vars_all, declared, found, list_binds, body_declares, imported_name, specifier_names, import_names_of, import_names, module_binds}
use Rattle.swc_ast.specs.Resolved.{own_scopes}
use Rattle.static_proofs.specs.Shaped.{is_statement, is_whole_item, labels_of, all_labels, holds, are_shaped}
use Rattle.static_proofs.proofs.Names.{same_name_path, has_name_append}
use Rattle.link_proofs.specs.Links.{Ground, empty_ground, beside, IsLexical, OpensWhole, Functions, Items, GoodWhole, good_module, good_script}
use Rattle.carry_rules.specs.Carry.{Pass, Facts, Carried, enter, ready_at, marks, read_put, mark_of}
use Rattle.carry_rules.proofs.Sound.{Last, fixed, links, waits_all, waits_all_same, waiting, Sure, Sits, Stays, each_stays, every_all, Stands, wide}
use Rattle.carry_rules.proofs.Standing.{labels_same, are_shaped_same, stands_entered, stands_wider}
use Rattle.carry_rules.proofs.Alike.{marks_alike, binds_alike, function_bound, Rights, is_lexical, is_constant}
use Rattle.carry_rules.proofs.Places.{begins, all_are, item_begins, loose as loose_link}
use Rattle.carry_rules.proofs.Bounds.{waits_bound, bound_waits, all_unfixed}
use Rattle.carry_rules.proofs.Waiting.{waits_lexical}
use Rattle.carry_rules.proofs.Holding.{Here, HereList, inner_sound, Below, functions_of, link_fixed, link_lexical, known_birth, fixed_link, constant_is_fixed}
use Rattle.carry_rules.proofs.Opening.{firm_opened, some_link}
use Rattle.carry_rules.proofs.Simple.{M, holds_here, statement_item, one_bound}
use Rattle.carry_rules.proofs.Listing.{Walked, list_walk}

-- an import is not fixed, and may change
module _ (F : Facts) (lex : Name → Bool) (x : Name) where
  or_false : (b : Bool) → (b || false) ≡ true → b ≡ true
  or_false true e = refl
  or_false false e = e

  abbrev Loose : Type 0
  Loose = (fixed F x ≡ false) × ((F.variable x ≡ false) × (F.unset x ≡ false))

  loose : (y : Name) → same_name x y ≡ true → fixed F y ≡ false → (F.variable y ≡ false) × (F.unset y ≡ false) → Loose
  loose y e f g = (ap (fixed F) (same_name_path x y e) ∙ f, (ap F.variable (same_name_path x y e) ∙ g.0, ap F.unset (same_name_path x y e) ∙ g.1))

  own_import : (l : Label) → Sits F lex l → Stays F l → has_name x (imported_name l) ≡ true → Loose
  own_import (ImportNamed y o) s t e = loose y (or_false (same_name x y) e) s t
  own_import (ImportDefault y) s t e = loose y (or_false (same_name x y) e) s t
  own_import (ImportStar y) s t e = loose y (or_false (same_name x y) e) s t
  own_import l s t e = absurd (false≢true e)

  specifier_loose : (cs : Forest) → every_all F lex cs → each_stays F cs → has_name x (specifier_names cs) ≡ true → Loose
  specifier_loose ε s t e = absurd (false≢true e)
  specifier_loose (node l ss cs ⊳ ts) s t e = by (or_cases (has_name x (imported_name l)) (has_name x (specifier_names ts)) (sym (has_name_append x (imported_name l) (specifier_names ts)) ∙ e)) (specifier_loose ts s.1 t.1)
    where
      by : (has_name x (imported_name l) ≡ true) ⊎ (has_name x (specifier_names ts) ≡ true) → (has_name x (specifier_names ts) ≡ true → Loose) → Loose
      by (inl f) g = own_import l s.0.0 t.0.0 f
      by (inr f) g = g f

  of_import : (l : Label) (cs : Forest) → every_all F lex cs → each_stays F cs → has_name x (import_names_of l cs) ≡ true → Loose
  of_import (Import src) cs s t e = specifier_loose cs s t e
  of_import l cs s t e = absurd (false≢true e)

  pub import_loose : (ts : Forest) → every_all F lex ts → each_stays F ts → has_name x (import_names ts) ≡ true → Loose
  import_loose ε s t e = absurd (false≢true e)
  import_loose (node l ss cs ⊳ ts) s t e = by (or_cases (has_name x (import_names_of l cs)) (has_name x (import_names ts)) (sym (has_name_append x (import_names_of l cs) (import_names ts)) ∙ e)) (import_loose ts s.1 t.1)
    where
      by : (has_name x (import_names_of l cs) ≡ true) ⊎ (has_name x (import_names ts) ≡ true) → (has_name x (import_names ts) ≡ true → Loose) → Loose
      by (inl f) g = of_import l cs s.0.1 t.0.1 f
      by (inr f) g = g f

module _ {p : Pass} {F : Facts} {E : Last} {lex : Name → Bool} (sure : Sure p F E lex) where
  module _ (s : Carried) (l : Label) (ss : List Span) (cs : Forest) (binds : Name → Bool) (b : Below sure cs) (h : Here p F E lex s empty_ground (node l ss cs)) (list_in : (x : Name) → list_binds (M sure l ss cs s) x ≡ true → binds x ≡ true)
      (own : (x : Name) → binds x ≡ true → 1 ≤ own_scopes x l (M sure l ss cs s)) (list_bound : (x : Name) → fixed F x ≡ true → binds x ≡ true → list_binds (M sure l ss cs s) x ≡ true)
      (ready : (x : Name) → ready_at l cs x ≡ true → list_binds (M sure l ss cs s) x ≡ true) (vars_in : (x : Name) → has_name x (vars_all (M sure l ss cs s)) ≡ true → binds x ≡ true) (whole : all_labels is_whole_item (labels_of cs) ≡ true) where
    abbrev T : Forest
    T = M sure l ss cs s

    abbrev H : Ground
    H = beside binds empty_ground

    shaped_marks : are_shaped T ≡ true
    shaped_marks = (and_parts (holds l (labels_of T)) (are_shaped T) h.sound.shaped).1

    whole_marks : all_labels is_whole_item (labels_of T) ≡ true
    whole_marks = ap (all_labels is_whole_item) (labels_same p F (enter p F l ss cs s) cs) ∙ whole

    starts : all_labels begins (labels_of cs) ≡ true
    starts = all_are is_whole_item begins item_begins (labels_of cs) whole

    abbrev N : Name → Bool
    N x = binds x || h.names x

    within : (x : Name) → fixed F x ≡ true → waits_all cs x ≡ true → N x ≡ true
    within x f e = or_left (binds x) (h.names x) (list_in x (waits_bound T x whole_marks shaped_marks (waits_all_same p F (enter p F l ss cs s) cs x ∙ e)))

    stands_inside : Stands E (wide N H) (enter p F l ss cs s)
    stands_inside = stands_entered sure l ss cs (λ x e. or_left (binds x) (h.names x) (list_in x (ready x e))) (stands_wider sure {G = wide h.names empty_ground} (λ x e. or_right (binds x) (h.names x) e) (λ x e. e) h.stands)

    whole_here : HereList p F E lex (enter p F l ss cs s) N H cs
    whole_here = record {
      more = λ x e. or_left (binds x) (h.names x) (by (binds x) e);
      stands = stands_inside;
      agree = h.agree.0;
      firm = firm_opened sure {G = wide h.names empty_ground} binds cs (enter p F l ss cs s) h.firm (λ y x e n. sym (waits_all_same p F (enter p F l ss cs s) cs y) ∙ bound_waits sure y (link_fixed sure y x (some_link sure y x e)) (link_lexical sure y x (some_link sure y x e)) T h.sound.sits.1 shaped_marks (list_bound y (link_fixed sure y x (some_link sure y x e)) n)) stands_inside h.agree.0 (sym (are_shaped_same p F (enter p F l ss cs s) cs) ∙ shaped_marks) starts within;
      sound = inner_sound l (mark_of (read_put p s l)) T h.sound (λ x e. at x (or_cases (binds x) (h.names x) e));
      within = within;
      sets = λ x v f e. or_left (binds x) false (vars_in x e);
    }
      where
        by : (c : Bool) → (c || false) ≡ true → c ≡ true
        by true e = refl
        by false e = e

        at : (x : Name) → (binds x ≡ true) ⊎ (h.names x ≡ true) → (h.names x ≡ true) ⊎ (1 ≤ own_scopes x l T)
        at x (inl e) = inr (own x e)
        at x (inr e) = inl e

    walked : Walked sure (enter p F l ss cs s) H cs
    walked = list_walk sure b (enter p F l ss cs s) N H whole_here whole

    pub whole_rights : Rights (links F E) F lex H (declared T)
    whole_rights = walked.1

    found_lexical : (x : Name) → fixed F x ≡ true → lex x ≡ true → binds x ≡ true → IsLexical (found x (declared T))
    found_lexical x f v e = is_lexical (links F E) F lex H (declared T) whole_rights x (list_bound x f e) f v

    pub opens_whole : OpensWhole (links F E) (waiting F T) binds T
    opens_whole = record {
      waiting = λ x e. let q = and_parts (fixed F x) (waits_all T x) e in is_lexical (links F E) F lex H (declared T) whole_rights x (waits_bound T x whole_marks shaped_marks q.1) q.0 (waits_lexical F lex x T h.sound.sits.1 q.1);
      waiting_bound = λ x e. let q = and_parts (fixed F x) (waits_all T x) e in list_in x (waits_bound T x whole_marks shaped_marks q.1);
      waiting_fixed = λ x e. fixed_link sure x (and_parts (fixed F x) (waits_all T x) e).0;
      no_variable = λ y x e n. found_lexical y (link_fixed sure y x e) (link_lexical sure y x e) n;
      constants = λ x c n. is_constant (links F E) F lex H (declared T) whole_rights x c (found_lexical x (constant_is_fixed sure x c) (sure.constant_lexical x c) n);
      known_variable = λ y v e n. known_birth sure H (declared T) whole_rights y v e (λ f l. found_lexical y f l n);
    }

    pub whole_functions : Functions (links F E) H T
    whole_functions = functions_of sure T whole_rights

    pub whole_items : Items (links F E) H (waiting F T) T
    whole_items = walked.0

  body_bound : (T : Forest) → every_all F lex T → (x : Name) → fixed F x ≡ true → body_declares T x ≡ true → list_binds T x ≡ true
  body_bound T s x f e = by (or_cases (has_name x (vars_all T)) (list_binds T x) e)
    where
      by : (has_name x (vars_all T) ≡ true) ⊎ (list_binds T x ≡ true) → list_binds T x ≡ true
      by (inl e) = absurd (true≢false (sym f ∙ all_unfixed F lex x T s e))
      by (inr e) = e

  pub module_good : (s : Carried) (ss : List Span) (cs : Forest) → Below sure cs → Here p F E lex s empty_ground (node Module ss cs) → GoodWhole (links F E) (marks p F s (node Module ss cs))
  unfolding own_scopes
  module_good s ss cs b h = good_module (waiting F T) (opens_whole s Module ss cs (module_binds T) b h list_in own bound ready inside whole) (λ x e. let r = import_loose F lex x T h.sound.sits.1 h.sound.stays.1 e in (loose_link sure empty_ground x r.0 r.1.1, r.1.0)) (whole_functions s Module ss cs (module_binds T) b h list_in own bound ready inside whole) (whole_items s Module ss cs (module_binds T) b h list_in own bound ready inside whole)
    where
      T : Forest
      T = M sure Module ss cs s

      whole : all_labels is_whole_item (labels_of cs) ≡ true
      whole = holds_here sure Module ss cs h

      list_in : (x : Name) → list_binds T x ≡ true → module_binds T x ≡ true
      list_in x e = or_right (has_name x (import_names T)) (body_declares T x) (or_right (has_name x (vars_all T)) (list_binds T x) e)

      own : (x : Name) → module_binds T x ≡ true → 1 ≤ own_scopes x Module T
      own x e = one_bound (module_binds T x) e

      bound : (x : Name) → fixed F x ≡ true → module_binds T x ≡ true → list_binds T x ≡ true
      bound x f e = by (or_cases (has_name x (import_names T)) (body_declares T x) e)
        where
          by : (has_name x (import_names T) ≡ true) ⊎ (body_declares T x ≡ true) → list_binds T x ≡ true
          by (inl e) = absurd (true≢false (sym f ∙ (import_loose F lex x T h.sound.sits.1 h.sound.stays.1 e).0))
          by (inr e) = body_bound T h.sound.sits.1 x f e

      ready : (x : Name) → ready_at Module cs x ≡ true → list_binds T x ≡ true
      ready x e = binds_alike x (marks_alike p F (enter p F Module ss cs s) cs) ∙ function_bound x cs e

      inside : (x : Name) → has_name x (vars_all T) ≡ true → module_binds T x ≡ true
      inside x e = or_right (has_name x (import_names T)) (body_declares T x) (or_left (has_name x (vars_all T)) (list_binds T x) e)

  pub script_good : (s : Carried) (ss : List Span) (cs : Forest) → Below sure cs → Here p F E lex s empty_ground (node Script ss cs) → GoodWhole (links F E) (marks p F s (node Script ss cs))
  unfolding own_scopes
  script_good s ss cs b h = good_script (waiting F T) (opens_whole s Script ss cs (body_declares T) b h list_in own bound ready inside whole) (whole_functions s Script ss cs (body_declares T) b h list_in own bound ready inside whole) (whole_items s Script ss cs (body_declares T) b h list_in own bound ready inside whole)
    where
      T : Forest
      T = M sure Script ss cs s

      whole : all_labels is_whole_item (labels_of cs) ≡ true
      whole = all_are is_statement is_whole_item statement_item (labels_of cs) (holds_here sure Script ss cs h)

      list_in : (x : Name) → list_binds T x ≡ true → body_declares T x ≡ true
      list_in x e = or_right (has_name x (vars_all T)) (list_binds T x) e

      own : (x : Name) → body_declares T x ≡ true → 1 ≤ own_scopes x Script T
      own x e = one_bound (body_declares T x) e

      bound : (x : Name) → fixed F x ≡ true → body_declares T x ≡ true → list_binds T x ≡ true
      bound x f e = body_bound T h.sound.sits.1 x f e

      ready : (x : Name) → ready_at Script cs x ≡ true → list_binds T x ≡ true
      ready x e = binds_alike x (marks_alike p F (enter p F Script ss cs s) cs) ∙ function_bound x cs e

      inside : (x : Name) → has_name x (vars_all T) ≡ true → body_declares T x ≡ true
      inside x e = or_left (has_name x (vars_all T)) (list_binds T x) e
