-- What holds of each tree.
use Rattle.std.proofs.Common.{◌≡◌, ◌≤◌, Bool, true, false, ◌||◌, List, Option, Some, None, refl, sym, ap, ap₂, subst, ◌∙◌, arith, ◌⊎◌, inl, inr, if◌then◌else◌}
use Rattle.std.proofs.lemmas.Bool.{and_parts, or_cases, or_left, or_right, false≢true, true≢false}
use Rattle.swc_ast.specs.Labels.{is_params, is_body as body_label}
use Rattle.swc_ast.specs.declared.Span.{Span}
use Rattle.swc_ast.specs.Tree.{Name, same_name, Label, Method, Fn, Arrow, Params, Body, Block, For, Switch, CaseBody, Try, VarDecl, Declarator, ExportDecl, FnDecl, ExportDefaultFn, Tree, node, Forest, ε, ◌⊳◌}
use Rattle.swc_ast.specs.Scope.{is_function, has_name, holds_statements, option_name}
use Rattle.swc_ast.specs.Meaning.{is_param}
use Rattle.swc_ast.specs.Resolved.{one_if, scopes_all, own_scopes, function_scopes}
use Rattle.static_proofs.specs.Shaped.{is_body_or_inner, are_parts, labels_of}
use Rattle.static_proofs.proofs.Names.{same_name_path, same_name_swap}
use Rattle.link_proofs.specs.Links.{nothing, a_name, Ground, beside, calm, is_simple, Good, good_fn, good_arrow, good_declared, good_default, Unlinked}
use Rattle.carry_rules.specs.Carry.{Pass, Facts, Carried, enter, ready_at, marks, read_put, mark_of}
use Rattle.carry_rules.specs.Parted.{is_switched, has_parts, is_parted, are_parted}
use Rattle.carry_rules.proofs.Sound.{Last, links, waits_in, waits_all, Sure, Other, OtherOption, wide}
use Rattle.carry_rules.proofs.Standing.{Flat, stands_entered, stands_wider, stands_calm}
use Rattle.carry_rules.proofs.Places.{alone}
use Rattle.carry_rules.proofs.Holding.{Here, HereList, firm_wider, firm_calm, inner_sound, Holds, Known, known, Below, none_below, more_below, link_fixed, link_lexical, opens}
use Rattle.carry_rules.proofs.Opening.{some_link}
use Rattle.carry_rules.proofs.Varying.{is_root, bare_all, bare_children}
use Rattle.carry_rules.proofs.Simple.{M, holds_marked, holds_here, simple_good}
use Rattle.carry_rules.proofs.Nodes.{Calls, block_good, start, begun_step, declares_of, right_step}
use Rattle.carry_rules.proofs.Parameters.{other_unlinked, other_unknown, other_no_constant}
use Rattle.carry_rules.proofs.Bodies.{function_callable}

-- parts of a function show no name
pub part_waits : (l : Label) (ss : List Span) (cs : Forest) (x : Name) → is_body_or_inner l ≡ true → waits_in (node l ss cs) x ≡ false
part_waits (Declarator k y) ss cs x e = absurd (false≢true e)
part_waits (VarDecl k) ss cs x e = absurd (false≢true e)
part_waits ExportDecl ss cs x e = absurd (false≢true e)
part_waits CaseBody ss cs x e = absurd (false≢true e)
part_waits l ss cs x e = refl

params_waits : (l : Label) (ss : List Span) (cs : Forest) (x : Name) → is_params l ≡ true → waits_in (node l ss cs) x ≡ false
params_waits Params ss cs x e = refl
params_waits l ss cs x e = absurd (false≢true e)

pub parts_wait : (q : Label → Bool) → ((l : Label) → q l ≡ true → is_body_or_inner l ≡ true) → (cs : Forest) (x : Name) → are_parts q (labels_of cs) ≡ true → waits_all cs x ≡ false
parts_wait q g ε x i = refl
parts_wait q g (node l rs ps ⊳ ε) x i = absurd (false≢true i)
parts_wait q g (node l rs ps ⊳ node m us cs ⊳ ε) x i = let r = and_parts (is_params l) (q m) i in ap₂ ◌||◌ (params_waits l rs ps x r.0) (ap (λ b. b || false) (part_waits m us cs x (g m r.1)))
parts_wait q g (node l rs ps ⊳ node m us cs ⊳ node o vs ds ⊳ ts) x i = absurd (false≢true i)

pub body_or_inner : (l : Label) → body_label l ≡ true → is_body_or_inner l ≡ true
body_or_inner Body e = refl
body_or_inner l e = absurd (false≢true e)

itself : (l : Label) → is_body_or_inner l ≡ true → is_body_or_inner l ≡ true
itself l e = e

module _ {p : Pass} {F : Facts} {E : Last} {lex : Name → Bool} (sure : Sure p F E lex) where
  -- a function without a name of its own
  function_here : {s : Carried} {G : Ground} (l : Label) (ss : List Span) (cs : Forest) → is_function l ≡ true → is_root l ≡ false → ((x : Name) → ready_at l cs x ≡ true → ⊥) → ((x : Name) → waits_all cs x ≡ false) → (h : Here p F E lex s G (node l ss cs)) → holds_statements l ≡ false → HereList p F E lex (enter p F l ss cs s) h.names (calm G) cs
  function_here {s} {G} l ss cs f r n w h k = record {
    more = h.more;
    stands = stands_calm sure {G = wide h.names G} (λ x e. e) (λ x. none x (is_function l) f) (stands_entered sure l ss cs (λ x e. absurd (n x e)) h.stands);
    agree = h.agree.0;
    firm = firm_calm sure h.names G h.firm;
    sound = inner_sound {G = wide h.names G} l (mark_of (read_put p s l)) (M sure l ss cs s) h.sound (λ x e. inl e);
    within = λ x f e. absurd (true≢false (sym e ∙ w x));
    sets = λ x v f e. absurd (true≢false (sym e ∙ ap (has_name x) (bare_all (M sure l ss cs s) (bare_children l (labels_of (M sure l ss cs s)) k r (holds_marked sure l ss cs h)))));
  }
    where
      none : (x : Name) (b : Bool) → b ≡ true → (if b then (λ (y : Name). nothing) else s.settled) x ≡ nothing
      none x true e = refl
      none x false e = absurd (false≢true e)

  function_around : {s : Carried} {G : Ground} (l : Label) (ss : List Span) (cs : Forest) → ((x : Name) → function_scopes x (M sure l ss cs s) ≤ own_scopes x l (M sure l ss cs s)) → (h : Here p F E lex s G (node l ss cs))
      → (x : Name) → 1 ≤ function_scopes x (M sure l ss cs s) → (h.names x ≡ false) × (scopes_all x (M sure l ss cs s) ≡ 0)
  function_around {s} {G} l ss cs o h x e = (by (h.names x) refl, omega (arith, h.sound.bound x, o x, e))
    where
      by : (b : Bool) → h.names x ≡ b → b ≡ false
      by false i = refl
      by true i = absurd (omega (arith, h.sound.free x i, o x, e))

  arrow_calls : (ss : List Span) (cs : Forest) → Below sure cs → Calls sure Arrow ss cs
  unfolding own_scopes
  arrow_calls ss cs b s G h = function_callable sure is_body_or_inner itself cs b (enter p F Arrow ss cs s) h.names (calm G) (function_here Arrow ss cs refl refl (λ x e. false≢true e) (λ x. parts_wait is_body_or_inner itself cs x (holds_here sure Arrow ss cs h)) h refl) (holds_here sure Arrow ss cs h) (function_around Arrow ss cs (λ x. omega arith) h)

  declared_calls : (y : Name) (ss : List Span) (cs : Forest) → Below sure cs → Calls sure (FnDecl y) ss cs
  unfolding own_scopes
  declared_calls y ss cs b s G h = function_callable sure body_label body_or_inner cs b (enter p F (FnDecl y) ss cs s) h.names (calm G) (function_here (FnDecl y) ss cs refl refl (λ x e. false≢true e) (λ x. parts_wait body_label body_or_inner cs x (holds_here sure (FnDecl y) ss cs h)) h refl) (holds_here sure (FnDecl y) ss cs h) (function_around (FnDecl y) ss cs (λ x. omega arith) h)

  default_calls : (o : Option Name) (ss : List Span) (cs : Forest) → Below sure cs → Calls sure (ExportDefaultFn o) ss cs
  unfolding own_scopes
  default_calls o ss cs b s G h = function_callable sure body_label body_or_inner cs b (enter p F (ExportDefaultFn o) ss cs s) h.names (calm G) (function_here (ExportDefaultFn o) ss cs refl refl (λ x e. false≢true e) (λ x. parts_wait body_label body_or_inner cs x (holds_here sure (ExportDefaultFn o) ss cs h)) h refl) (holds_here sure (ExportDefaultFn o) ss cs h) (function_around (ExportDefaultFn o) ss cs (λ x. omega arith) h)

  -- a function with a name of its own, if it has one
  pub own_plain : (o : Option Name) → OtherOption F lex o → Unlinked (links F E) o
  own_plain None h = tt
  own_plain (Some x) h = record { unlinked = other_unlinked sure x h; unknown = other_unknown sure x h; no_constant = other_no_constant sure x h }

  pub own_named : (o : Option Name) (x : Name) → is_param o x ≡ true → has_name x (option_name o) ≡ true
  own_named None x e = e
  own_named (Some y) x e = or_left (same_name x y) false (same_name_swap x y ∙ e)

  pub named_own : (o : Option Name) (x : Name) → has_name x (option_name o) ≡ true → is_param o x ≡ true
  named_own None x e = e
  named_own (Some y) x e = by (or_cases (same_name x y) false e)
    where
      by : (same_name x y ≡ true) ⊎ (false ≡ true) → same_name y x ≡ true
      by (inl f) = same_name_swap y x ∙ f
      by (inr f) = absurd (false≢true f)

  pub own_other : (o : Option Name) (x : Name) → OtherOption F lex o → is_param o x ≡ true → Other F lex x
  own_other None x h e = absurd (false≢true e)
  own_other (Some y) x h e = subst (Other F lex) (same_name_path y x e) h

  pub one_true : (b : Bool) → b ≡ true → 1 ≤ one_if b
  one_true true e = omega arith
  one_true false e = absurd (false≢true e)

  fn_good : {s : Carried} {G : Ground} (o : Option Name) (ss : List Span) (cs : Forest) → Below sure cs → Here p F E lex s G (node (Fn o) ss cs) → Good (links F E) G (marks p F s (node (Fn o) ss cs))
  unfolding own_scopes
  fn_good {s} {G} o ss cs b h = good_fn o (opens sure h.names h.more (is_param o) (firm_calm sure h.names G h.firm) free) (own_plain o h.sound.sits.0) (function_callable sure body_label body_or_inner cs b (enter p F (Fn o) ss cs s) N (beside (is_param o) (calm G)) here (holds_here sure (Fn o) ss cs h) around)
    where
      N : Name → Bool
      N x = is_param o x || h.names x

      counted : (x : Name) → is_param o x ≡ true → 1 ≤ one_if (has_name x (option_name o))
      counted x e = one_true (has_name x (option_name o)) (own_named o x e)

      free : (x : Name) → is_param o x ≡ true → h.names x ≡ false
      free x e = by (h.names x) refl
        where
          by : (b : Bool) → h.names x ≡ b → b ≡ false
          by false i = refl
          by true i = absurd (omega (arith, h.sound.free x i, counted x e))

      unlinked : (y x : Name) → E.values y ≡ a_name x → is_param o y ≡ true → ⊥
      unlinked y x e n = true≢false (sym (link_lexical sure y x (some_link sure y x e)) ∙ (own_other o y h.sound.sits.0 n).0 (link_fixed sure y x (some_link sure y x e)))

      scoped : (x : Name) → (is_param o x ≡ true) ⊎ (h.names x ≡ true) → (h.names x ≡ true) ⊎ (1 ≤ own_scopes x (Fn o) (M sure (Fn o) ss cs s))
      scoped x (inl n) = inr (omega (arith, counted x n))
      scoped x (inr n) = inl n

      more : (x : Name) → (is_param o x ≡ true) ⊎ (G.names x ≡ true) → N x ≡ true
      more x (inl e) = or_left (is_param o x) (h.names x) e
      more x (inr e) = or_right (is_param o x) (h.names x) (h.more x e)

      here : HereList p F E lex (enter p F (Fn o) ss cs s) N (beside (is_param o) (calm G)) cs
      here = record {
        more = λ x e. more x (or_cases (is_param o x) (G.names x) e);
        stands = stands_calm sure {G = wide N (beside (is_param o) G)} (λ x e. e) (λ x. refl) (stands_entered sure {G = wide N (beside (is_param o) G)} (Fn o) ss cs (λ x e. or_left (is_param o x) (h.names x) (named_own o x e)) (stands_wider sure {G = wide h.names G} (λ x e. or_right (is_param o x) (h.names x) e) (λ x e. e) h.stands));
        agree = h.agree.0;
        firm = firm_wider sure {G = wide h.names (calm G)} (is_param o) (firm_calm sure h.names G h.firm) (λ y x e n. absurd (unlinked y x e n));
        sound = inner_sound {G = wide h.names G} (Fn o) (mark_of (read_put p s (Fn o))) (M sure (Fn o) ss cs s) h.sound (λ x e. scoped x (or_cases (is_param o x) (h.names x) e));
        within = λ x f e. absurd (true≢false (sym e ∙ parts_wait body_label body_or_inner cs x (holds_here sure (Fn o) ss cs h)));
        sets = λ x v f e. absurd (true≢false (sym e ∙ ap (has_name x) (bare_all (M sure (Fn o) ss cs s) (bare_children (Fn o) (labels_of (M sure (Fn o) ss cs s)) refl refl (holds_marked sure (Fn o) ss cs h)))));
      }

      around : (x : Name) → 1 ≤ function_scopes x (M sure (Fn o) ss cs s) → (N x ≡ false) × (scopes_all x (M sure (Fn o) ss cs s) ≡ 0)
      around x e = (by (is_param o x) (h.names x) refl refl, omega (arith, h.sound.bound x, e))
        where
          by : (a c : Bool) → is_param o x ≡ a → h.names x ≡ c → (a || c) ≡ false
          by false false i j = refl
          by true c i j = absurd (omega (arith, h.sound.bound x, counted x i, e))
          by false true i j = absurd (omega (arith, h.sound.free x j, e))

  -- what is left to show, of nodes that are no functions
  pub record Rest : Type 0 where
    pub for_good : (s : Carried) (G : Ground) (ss : List Span) (cs : Forest) → Below sure cs → Here p F E lex s G (node For ss cs) → Good (links F E) G (marks p F s (node For ss cs))
    pub switch_good : (s : Carried) (G : Ground) (ds : List Bool) (ss : List Span) (cs : Forest) → is_switched (labels_of cs) ≡ true → Below sure cs → Here p F E lex s G (node (Switch ds) ss cs) → Good (links F E) G (marks p F s (node (Switch ds) ss cs))
    pub try_good : (s : Carried) (G : Ground) (o : Option (Option Name)) (ss : List Span) (cs : Forest) → Below sure cs → Here p F E lex s G (node (Try o) ss cs) → Good (links F E) G (marks p F s (node (Try o) ss cs))
    pub method_good : (s : Carried) (G : Ground) (ss : List Span) (cs : Forest) → Below sure cs → Here p F E lex s G (node Method ss cs) → Good (links F E) G (marks p F s (node Method ss cs))

  data Kind : Label → Type 0 where
    simple : {l : Label} → is_simple l ≡ true → Kind l
    a_block : Kind Block
    a_body : Kind Body
    a_for : Kind For
    a_switch : (ds : List Bool) → Kind (Switch ds)
    a_try : (o : Option (Option Name)) → Kind (Try o)
    a_fn : (o : Option Name) → Kind (Fn o)
    an_arrow : Kind Arrow
    a_method : Kind Method
    a_declared : (x : Name) → Kind (FnDecl x)
    a_default : (o : Option Name) → Kind (ExportDefaultFn o)

  kind : (l : Label) → Kind l
  kind Block = a_block
  kind Body = a_body
  kind For = a_for
  kind (Switch ds) = a_switch ds
  kind (Try o) = a_try o
  kind (Fn o) = a_fn o
  kind Arrow = an_arrow
  kind Method = a_method
  kind (FnDecl x) = a_declared x
  kind (ExportDefaultFn o) = a_default o
  kind l = simple refl

  good_step : (r : Rest) (l : Label) (ss : List Span) (cs : Forest) → Kind l → has_parts l cs ≡ true → Below sure cs → (s : Carried) (G : Ground) → Here p F E lex s G (node l ss cs) → Flat l s.listed → alone l ≡ true → Good (links F E) G (marks p F s (node l ss cs))
  good_step r l ss cs (simple i) w b s G h f a = simple_good sure l ss cs i a b h f
  good_step r _ ss cs a_block w b s G h f a = block_good sure ss cs b h
  good_step r _ ss cs a_body w b s G h f a = absurd (false≢true a)
  good_step r _ ss cs a_for w b s G h f a = r.for_good s G ss cs b h
  good_step r _ ss cs (a_switch ds) w b s G h f a = r.switch_good s G ds ss cs w b h
  good_step r _ ss cs (a_try o) w b s G h f a = r.try_good s G o ss cs b h
  good_step r _ ss cs (a_fn o) w b s G h f a = fn_good o ss cs b h
  good_step r _ ss cs an_arrow w b s G h f a = good_arrow (arrow_calls ss cs b s G h)
  good_step r _ ss cs a_method w b s G h f a = r.method_good s G ss cs b h
  good_step r _ ss cs (a_declared x) w b s G h f a = good_declared x (declared_calls x ss cs b s G h)
  good_step r _ ss cs (a_default o) w b s G h f a = good_default o (default_calls o ss cs b s G h)

  node_step : Rest → (l : Label) (ss : List Span) (cs : Forest) → has_parts l cs ≡ true → Below sure cs → Holds sure (node l ss cs)
  node_step r l ss cs w b = record {
    good = good_step r l ss cs (kind l) w b;
    begun = λ s G h f i. begun_step sure l ss cs (start sure l) b (good_step r l ss cs (kind l) w b) h f i;
    right = λ s G h f i. right_step sure l ss cs (declares_of sure l) b (λ x e. declared_calls x ss cs b) (λ o e. default_calls o ss cs b) h f;
  }

  mutual
    pub each : Rest → (t : Tree) → is_parted t ≡ true → Known sure t
    each r (node l ss cs) w = let q = and_parts (has_parts l cs) (are_parted cs) w in known (all_below r cs q.1) (node_step r l ss cs q.0 (all_below r cs q.1))

    pub all_below : Rest → (ts : Forest) → are_parted ts ≡ true → Below sure ts
    all_below r ε w = none_below
    all_below r (t ⊳ ts) w = let q = and_parts (is_parted t) (are_parted ts) w in more_below (each r t q.0) (all_below r ts q.1)
