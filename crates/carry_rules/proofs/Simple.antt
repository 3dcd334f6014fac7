-- A node without a scope is good, where the trees below it are.
use Rattle.std.proofs.Common.{◌≡◌, ◌≤◌, Bool, true, false, ◌||◌, ◌&&◌, List, refl, sym, ap, ◌∙◌, arith, ◌⊎◌, inl, inr}
use Rattle.std.proofs.lemmas.Bool.{and_parts, and_from, or_right, false≢true, true≢false}
use Rattle.swc_ast.specs.declared.Span.{Span}
use Rattle.swc_ast.specs.declared.VarDeclKind.TheVariants.{Var, Let, Const}
use Rattle.swc_ast.specs.Tree.{Name, same_name, Label, Import, Body, Module, Script, VarDecl, Declarator, ExportDecl, ExportDefaultFn, ExportDefaultExpr, node, Forest, ε, ◌⊳◌}
use Rattle.swc_ast.specs.Scope.{has_name, own_vars}
use Rattle.swc_ast.specs.Resolved.{one_if}
use Rattle.swc_ast.specs.Valid.{valid_all, good_names, good_shape}
use Rattle.static_proofs.specs.Shaped.{is_inner, is_statement, is_whole_item, labels_of, all_labels, holds, are_shaped}
use Rattle.static_proofs.proofs.Names.{same_name_path}
use Rattle.link_proofs.specs.Links.{Ground, is_simple, is_group, Good, good, good_variable, Goods}
use Rattle.carry_rules.specs.Carry.{Pass, Facts, declares_lexical, lists, Carried, read_put, mark_of, enter, ready_at, marks, marks_all}
use Rattle.carry_rules.proofs.Sound.{Last, fixed, links, waits_all, Sure}
use Rattle.carry_rules.proofs.Standing.{flows, Flat, labels_same, are_shaped_same, stands_entered}
use Rattle.carry_rules.proofs.Placing.{all_placed}
use Rattle.carry_rules.proofs.Places.{alone, simple_children, simple_ready, simple_unlisted, group_ready, all_are, all_alone_wait, simple_calm}
use Rattle.carry_rules.proofs.Varying.{is_root, vars_inside, own_inside}
use Rattle.carry_rules.proofs.Holding.{still, Here, HereList, HereAll, inner_sound, Below, goods}

pub statement_item : (l : Label) → is_statement l ≡ true → is_whole_item l ≡ true
statement_item ExportDecl e = refl
statement_item (ExportDefaultFn o) e = refl
statement_item ExportDefaultExpr e = refl
statement_item (Import src) e = refl
statement_item l e = e

pub one_bound : (b : Bool) → b ≡ true → 1 ≤ one_if b
one_bound true e = omega arith
one_bound false e = absurd (false≢true e)

pub inner_flat : (l : Label) → is_inner l ≡ true → flows l ≡ false
inner_flat (VarDecl k) e = absurd (false≢true e)
inner_flat ExportDecl e = absurd (false≢true e)
inner_flat (Declarator k x) e = absurd (false≢true e)
inner_flat l e = refl

inner_still : (l : Label) → is_inner l ≡ true → still l ≡ true
inner_still (VarDecl k) e = absurd (false≢true e)
inner_still ExportDecl e = absurd (false≢true e)
inner_still (Declarator k x) e = absurd (false≢true e)
inner_still l e = refl

pub inners_still : (ls : List Label) → all_labels is_inner ls ≡ true → all_labels still ls ≡ true
inners_still ls e = all_are is_inner still inner_still ls e

simple_root : (l : Label) → is_simple l ≡ true → alone l ≡ true → is_root l ≡ false
simple_root Body i a = absurd (false≢true a)
simple_root Module i a = absurd (false≢true a)
simple_root Script i a = absurd (false≢true a)
simple_root l i a = refl

group_root : (l : Label) → is_group l ≡ true → is_root l ≡ false
group_root Body i = absurd (false≢true i)
group_root Module i = absurd (false≢true i)
group_root Script i = absurd (false≢true i)
group_root l i = refl

module _ {p : Pass} {F : Facts} {E : Last} {lex : Name → Bool} (sure : Sure p F E lex) where
  abbrev pub M : Label → List Span → Forest → Carried → Forest
  M l ss cs s = marks_all p F (enter p F l ss cs s) cs

  pub holds_marked : {s : Carried} {G : Ground} (l : Label) (ss : List Span) (cs : Forest) → Here p F E lex s G (node l ss cs) → holds l (labels_of (M l ss cs s)) ≡ true
  holds_marked {s} l ss cs h = (and_parts (holds l (labels_of (M l ss cs s))) (are_shaped (M l ss cs s)) h.sound.shaped).0

  pub holds_here : {s : Carried} {G : Ground} (l : Label) (ss : List Span) (cs : Forest) → Here p F E lex s G (node l ss cs) → holds l (labels_of cs) ≡ true
  holds_here {s} l ss cs h = ap (holds l) (sym (labels_same p F (enter p F l ss cs s) cs)) ∙ holds_marked l ss cs h

  -- the children of a node that has no scope
  pub same_here : {s : Carried} {G : Ground} (l : Label) (ss : List Span) (cs : Forest) → ((x : Name) → ready_at l cs x ≡ true → ⊥) → is_root l ≡ false → (h : Here p F E lex s G (node l ss cs)) → ((x : Name) → fixed F x ≡ true → waits_all cs x ≡ true → h.names x ≡ true) → HereList p F E lex (enter p F l ss cs s) h.names G cs
  same_here {s} {G} l ss cs n r h w = record {
    more = h.more;
    stands = stands_entered sure l ss cs (λ x e. absurd (n x e)) h.stands;
    agree = h.agree.0;
    firm = h.firm;
    sound = inner_sound l (mark_of (read_put p s l)) (M l ss cs s) h.sound (λ x e. inl e);
    within = w;
    sets = λ x v f e. h.sets x v f (vars_inside l (mark_of (read_put p s l)) (M l ss cs s) x r (holds_marked l ss cs h) e);
  }

  pub none_wait : {s : Carried} {G : Ground} (l : Label) (ss : List Span) (cs : Forest) → all_labels alone (labels_of cs) ≡ true → Here p F E lex s G (node l ss cs) → (x : Name) → waits_all cs x ≡ false
  none_wait {s} l ss cs a h x = all_alone_wait cs x a (sym (are_shaped_same p F (enter p F l ss cs s) cs) ∙ (and_parts (holds l (labels_of (M l ss cs s))) (are_shaped (M l ss cs s)) h.sound.shaped).1)

  pub alone_here : {s : Carried} {G : Ground} (l : Label) (ss : List Span) (cs : Forest) → ((x : Name) → ready_at l cs x ≡ true → ⊥) → is_root l ≡ false → (all_labels still (labels_of cs) ≡ true) ⊎ (lists l s.listed ≡ false) → all_labels alone (labels_of cs) ≡ true → Here p F E lex s G (node l ss cs) → HereAll p F E lex (enter p F l ss cs s) G cs
  alone_here {s} l ss cs n r f a h = record { names = h.names; list = same_here l ss cs n r h (λ x f e. absurd (true≢false (sym e ∙ none_wait l ss cs a h x))); flat = f }

  pub simple_goods : {s : Carried} {G : Ground} (l : Label) (ss : List Span) (cs : Forest) → Below sure cs → Here p F E lex s G (node l ss cs) → ((x : Name) → ready_at l cs x ≡ true → ⊥) → is_root l ≡ false → (all_labels still (labels_of cs) ≡ true) ⊎ (lists l s.listed ≡ false) → all_labels alone (labels_of cs) ≡ true → Goods (links F E) G (M l ss cs s)
  simple_goods {s} {G} l ss cs b h n r f a = goods sure b (enter p F l ss cs s) G (alone_here l ss cs n r f a h) a

  alone_children : {s : Carried} {G : Ground} (l : Label) (ss : List Span) (cs : Forest) → is_simple l ≡ true → alone l ≡ true → Here p F E lex s G (node l ss cs) → all_labels alone (labels_of cs) ≡ true
  alone_children {s} l ss cs i a h =
      ap (all_labels alone) (sym (labels_same p F (enter p F l ss cs s) cs)) ∙ simple_children l (M l ss cs s) i a (and_parts (holds l (labels_of (M l ss cs s))) (are_shaped (M l ss cs s)) h.sound.shaped).0 (and_parts (good_names l) (good_shape l (M l ss cs s)) (and_parts (good_names l && good_shape l (M l ss cs s)) (valid_all (M l ss cs s)) h.sound.valid).0).1

  -- a variable that is never set
  pub idle_good : {G : Ground} (s : Carried) (y : Name) (ss : List Span) (cs : Forest) → cs ≡ ε → Good (links F E) G (marks p F s (node (Declarator Var y) ss cs))
  idle_good s y ss ε e = good_variable y
  idle_good s y ss (t ⊳ ts) e = absurd (cc)

  calm_good : {s : Carried} {G : Ground} (l : Label) (ss : List Span) (cs : Forest) → is_simple l ≡ true → alone l ≡ true → Below sure cs → Here p F E lex s G (node l ss cs) → Flat l s.listed → ((x : Name) → has_name x (own_vars l) ≡ true → E.idle x ≡ false) → Good (links F E) G (marks p F s (node l ss cs))
  calm_good {s} {G} l ss cs i a b h f d =
      good l i (simple_calm sure G l a h.sound.sits.0 h.sound.stays.0 (λ x e v g. h.sets x v g (own_inside l (mark_of (read_put p s l)) (M l ss cs s) x e)) d) (all_placed sure G s h.stands.right h.stands.settled l)
      (simple_goods l ss cs b h (λ x e. simple_ready l cs x i a e) (simple_root l i a) (inr (simple_unlisted l s.listed i a f)) (alone_children l ss cs i a h))

  -- a variable, or a node that declares none
  data Varies : Label → Type 0 where
    a_variable : (y : Name) → Varies (Declarator Var y)
    no_variable : {l : Label} → ((x : Name) → has_name x (own_vars l) ≡ true → ⊥) → Varies l

  varies : (l : Label) → Varies l
  varies (Declarator Var y) = a_variable y
  varies (Declarator Let y) = no_variable (λ x e. false≢true e)
  varies (Declarator Const y) = no_variable (λ x e. false≢true e)
  varies l = no_variable (λ x e. false≢true e)

  pub simple_good : {s : Carried} {G : Ground} (l : Label) (ss : List Span) (cs : Forest) → is_simple l ≡ true → alone l ≡ true → Below sure cs → Here p F E lex s G (node l ss cs) → Flat l s.listed → Good (links F E) G (marks p F s (node l ss cs))
  simple_good {s} {G} l ss cs i a b h f = by l (varies l) i a h f
    where
      by : (l : Label) → Varies l → is_simple l ≡ true → alone l ≡ true → Here p F E lex s G (node l ss cs) → Flat l s.listed → Good (links F E) G (marks p F s (node l ss cs))
      by l (no_variable n) i a h f = calm_good l ss cs i a b h f (λ x e. absurd (n x e))
      by _ (a_variable y) i a h f = at (E.idle y) refl
        where
          same : (x : Name) → (same_name x y || false) ≡ true → x ≡ y
          same x e = same_name_path x y (go (same_name x y) e)
            where
              go : (b : Bool) → (b || false) ≡ true → b ≡ true
              go true e = refl
              go false e = e

          at : (c : Bool) → E.idle y ≡ c → Good (links F E) G (marks p F s (node (Declarator Var y) ss cs))
          at true k = idle_good s y ss cs (h.agree.1.1 k)
          at false k = calm_good (Declarator Var y) ss cs i a b h f (λ x e. ap E.idle (same x e) ∙ k)

  -- what stands below a declaration or in a case
  pub group_here : {s : Carried} {G : Ground} (l : Label) (ss : List Span) (cs : Forest) → is_group l ≡ true → (h : Here p F E lex s G (node l ss cs)) → HereList p F E lex (enter p F l ss cs s) h.names G cs
  group_here l ss cs g h = same_here l ss cs (λ x e. group_ready l cs x g e) (group_root l g) h (λ x f e. h.within x f (or_right (declares_lexical x l) (is_group l && waits_all cs x) (and_from (is_group l) (waits_all cs x) g e)))
