-- What holds of a node, where it holds of all trees below it: blocks and declarations.
use Rattle.std.proofs.Common.{◌≡◌, ◌≤◌, Bool, true, false, List, [], Option, Some, None, refl, sym, ap, subst, ◌∙◌, inl, inr}
use Rattle.std.proofs.lemmas.Bool.{and_parts, and_from, or_left, false≢true, true≢false}
use Rattle.swc_ast.specs.Labels.{is_declaration}
use Rattle.swc_ast.specs.declared.Span.{Span}
use Rattle.swc_ast.specs.declared.VarDeclKind.{VarDeclKind}
use Rattle.swc_ast.specs.declared.VarDeclKind.TheVariants.{Var, Let, Const}
use Rattle.swc_ast.specs.Tree.{Name, same_name, Label, Block, CaseBody, VarDecl, Declarator, FnDecl, ExportDecl, ExportDefaultFn, ExportDefaultExpr, node, Forest, ε, ◌⊳◌}
use Rattle.swc_ast.specs.Scope.{default_name, declared_by, declared_by_label, declarator_names, list_binds}
use Rattle.swc_ast.specs.Resolved.{own_scopes}
use Rattle.static_proofs.specs.Shaped.{is_inner, is_statement, is_whole_item, is_declarator_of, labels_of, all_labels}
use Rattle.static_proofs.proofs.Names.{same_name_itself}
use Rattle.link_proofs.specs.Links.{Ground, beside, calm, is_group, moves, Good, good, good_block, Callable, invoked_declared, invoked_default, Goods, Begins, begins_good, begins_group}
use Rattle.carry_rules.specs.Carry.{Pass, Facts, declares_lexical, groups, lists, Carried, read_put, mark_of, enter, leave, after_all, ready_at, marks}
use Rattle.carry_rules.proofs.Sound.{Last, fixed, links, waits_in, waiting_in, Sure, Other, Enters}
use Rattle.carry_rules.proofs.Standing.{flows, Flat, labels_same}
use Rattle.carry_rules.proofs.Alike.{marks_alike, binds_alike, function_bound, Rights}
use Rattle.carry_rules.proofs.Born.{born}
use Rattle.carry_rules.proofs.Places.{alone, begins, inner_alone, all_are, group_children, loose}
use Rattle.carry_rules.proofs.Holding.{Here, HereAll, list_head, Below, more_below, holds_known, items, functions_of}
use Rattle.carry_rules.proofs.Opening.{opened_names, list_here, list_opens}
use Rattle.carry_rules.proofs.Simple.{M, statement_item, one_bound, holds_here, inners_still, simple_goods, group_here}
use Rattle.carry_rules.proofs.Listing.{let_rights, const_rights, Walked, list_walk}

module _ {p : Pass} {F : Facts} {E : Last} {lex : Name → Bool} (sure : Sure p F E lex) where
  pub block_good : {s : Carried} {G : Ground} (ss : List Span) (cs : Forest) → Below sure cs → Here p F E lex s G (node Block ss cs) → Good (links F E) G (marks p F s (node Block ss cs))
  unfolding own_scopes
  block_good {s} {G} ss cs b h =
      let whole : all_labels is_whole_item (labels_of cs) ≡ true = all_are is_statement is_whole_item statement_item (labels_of cs) (holds_here sure Block ss cs h) in
      let own : (x : Name) → list_binds (M sure Block ss cs s) x ≡ true → 1 ≤ own_scopes x Block (M sure Block ss cs s) = λ x e. one_bound (list_binds (M sure Block ss cs s) x) e in
      let ready : (x : Name) → ready_at Block cs x ≡ true → list_binds (M sure Block ss cs s) x ≡ true = λ x e. binds_alike x (marks_alike p F (enter p F Block ss cs s) cs) ∙ function_bound x cs e in
      let w : Walked sure (enter p F Block ss cs s) (beside (list_binds (M sure Block ss cs s)) G) cs = list_walk sure b (enter p F Block ss cs s) (opened_names sure Block ss cs h own ready whole) (beside (list_binds (M sure Block ss cs s)) G) (list_here sure Block ss cs h own ready whole refl) whole in
      good_block _ (list_opens sure Block ss cs h own ready whole w.1) (functions_of sure (M sure Block ss cs s) w.1) w.0

  -- what a function's parts are called with
  abbrev pub Calls : Label → List Span → Forest → Type 0
  Calls l ss cs = (s : Carried) (G : Ground) → Here p F E lex s G (node l ss cs) → Callable (links F E) (calm G) (M sure l ss cs s)

  -- how a label begins
  pub data Start : Label → Type 0 where
    a_variable : (k : VarDeclKind) → Start (VarDecl k)
    an_export : Start ExportDecl
    a_case : Start CaseBody
    a_let : (x : Name) → Start (Declarator Let x)
    a_const : (x : Name) → Start (Declarator Const x)
    other : {l : Label} → (begins l ≡ true → alone l ≡ true) → Start l

  pub start : (l : Label) → Start l
  start (VarDecl k) = a_variable k
  start ExportDecl = an_export
  start CaseBody = a_case
  start (Declarator Let x) = a_let x
  start (Declarator Const x) = a_const x
  start l = other (λ e. e)

  declarator_begun : {s : Carried} {G : Ground} (k : VarDeclKind) (x : Name) (ss : List Span) (cs : Forest) → all_labels is_inner (labels_of cs) ≡ true → Below sure cs → Here p F E lex s G (node (Declarator k x) ss cs) → ((y : Name) → same_name y x ≡ true → declares_lexical y (Declarator k x) ≡ true)
      → (F.variable x ≡ false) × (F.unset x ≡ true → F.steady x ≡ true) → Enters p F E (leave p F (Declarator k x) s (after_all p F (enter p F (Declarator k x) ss cs s) cs)) x ss cs → Begins (links F E) G (waiting_in F (marks p F s (node (Declarator k x) ss cs))) (marks p F s (node (Declarator k x) ss cs))
  declarator_begun {s} {G} k x ss cs i b h d v e = by (fixed F x) refl
    where
      below : Goods (links F E) G (M sure (Declarator k x) ss cs s)
      below = simple_goods sure (Declarator k x) ss cs b h (λ x e. false≢true e) refl (inl (inners_still (labels_of cs) i)) (all_are is_inner alone inner_alone (labels_of cs) i)

      set : (c : Bool) → F.unset x ≡ c → fixed F x ≡ false → c ≡ false
      set false u f = refl
      set true u f = absurd (true≢false (sym (or_left (F.steady x) (F.constant x) (v.1 u)) ∙ f))

      by : (f : Bool) → fixed F x ≡ f → Begins (links F E) G (waiting_in F (marks p F s (node (Declarator k x) ss cs))) (marks p F s (node (Declarator k x) ss cs))
      by false f = begins_good (good (Declarator k x) refl (moves (loose sure G x f (set (F.unset x) refl f)) v.0) tt below)
      by true f = born sure k x ss s (and_from (fixed F x) (waits_in (marks p F s (node (Declarator k x) ss cs)) x) f (or_left (declares_lexical x (Declarator k x)) false (d x (same_name_itself x)))) cs h.stands.right h.stands.settled e below

  -- declarators outside lists
  unlisted : (l : Label) (b : Bool) → flows l ≡ true → groups l ≡ true → Flat l b → lists l b ≡ false
  unlisted (VarDecl k) b f g (inl e) = absurd (true≢false e)
  unlisted (VarDecl k) b f g (inr e) = e
  unlisted ExportDecl b f g (inl e) = absurd (true≢false e)
  unlisted ExportDecl b f g (inr e) = e
  unlisted (Declarator k x) b f g e = absurd (false≢true g)
  unlisted l b f g e = absurd (false≢true f)

  flat_group : {s : Carried} {G : Ground} (l : Label) (ss : List Span) (cs : Forest) → is_group l ≡ true → flows l ≡ true → groups l ≡ true → Flat l s.listed → Here p F E lex s G (node l ss cs) → HereAll p F E lex (enter p F l ss cs s) G cs
  flat_group {s} l ss cs i f g k h = record { names = h.names; list = group_here sure l ss cs i h; flat = inr (unlisted l s.listed f g k) }

  pub begun_step : {s : Carried} {G : Ground} (l : Label) (ss : List Span) (cs : Forest) → Start l → Below sure cs → ((s : Carried) (G : Ground) → Here p F E lex s G (node l ss cs) → Flat l s.listed → alone l ≡ true → Good (links F E) G (marks p F s (node l ss cs))) → Here p F E lex s G (node l ss cs) → Flat l s.listed → begins l ≡ true
      → Begins (links F E) G (waiting_in F (marks p F s (node l ss cs))) (marks p F s (node l ss cs))
  begun_step {s} {G} _ ss cs (a_variable k) b g h f i = begins_group (VarDecl k) refl (items sure b (enter p F (VarDecl k) ss cs s) G (flat_group (VarDecl k) ss cs refl refl refl f h) (group_children (VarDecl k) (labels_of cs) refl (holds_here sure (VarDecl k) ss cs h)))
  begun_step {s} {G} _ ss cs an_export b g h f i = begins_group ExportDecl refl (items sure b (enter p F ExportDecl ss cs s) G (flat_group ExportDecl ss cs refl refl refl f h) (group_children ExportDecl (labels_of cs) refl (holds_here sure ExportDecl ss cs h)))
  begun_step {s} {G} _ ss cs a_case b g h f i = begins_group CaseBody refl (list_walk sure b (enter p F CaseBody ss cs s) h.names G (group_here sure CaseBody ss cs refl h) (all_are is_statement is_whole_item statement_item (labels_of cs) (holds_here sure CaseBody ss cs h))).0
  begun_step _ ss cs (a_let x) b g h f i = declarator_begun Let x ss cs (holds_here sure (Declarator Let x) ss cs h) b h (λ y e. e) h.sound.stays.0 h.agree.1
  begun_step _ ss cs (a_const x) b g h f i = declarator_begun Const x ss cs (holds_here sure (Declarator Const x) ss cs h) b h (λ y e. e) h.sound.stays.0 h.agree.1
  begun_step {s} {G} l ss cs (other k) b g h f i = begins_good (g s G h f (k i))

  -- what a node declares
  declared_label : (l : Label) (ss : List Span) (cs : Forest) → is_declaration l ≡ true → declared_by (node l ss cs) ≡ declared_by_label l ss cs
  declared_label (VarDecl k) ss cs i = refl
  declared_label (FnDecl x) ss cs i = refl
  declared_label l ss cs i = absurd (false≢true i)

  pub data Declares : Label → Type 0 where
    declares_let : Declares (VarDecl Let)
    declares_const : Declares (VarDecl Const)
    declares_function : (x : Name) → Declares (FnDecl x)
    declares_default : (o : Option Name) → Declares (ExportDefaultFn o)
    declares_expression : Declares ExportDefaultExpr
    declares_export : Declares ExportDecl
    declares_none : {l : Label} → ((ss : List Span) (cs : Forest) → declared_by (node l ss cs) ≡ []) → Declares l

  pub declares_of : (l : Label) → Declares l
  declares_of (VarDecl Let) = declares_let
  declares_of (VarDecl Const) = declares_const
  declares_of (VarDecl Var) = declares_none (λ ss cs. refl)
  declares_of (FnDecl x) = declares_function x
  declares_of (ExportDefaultFn o) = declares_default o
  declares_of ExportDefaultExpr = declares_expression
  declares_of ExportDecl = declares_export
  declares_of l = declares_none (λ ss cs. refl)

  default_other : Other F lex default_name
  default_other = (λ e. absurd (true≢false (sym e ∙ sure.default_free)), sure.default_set)

  child_flat : (l : Label) {b : Bool} → Flat ExportDecl b → Flat l (lists ExportDecl b)
  child_flat l (inl e) = absurd (true≢false e)
  child_flat l (inr e) = inr e

  export_rights : {s : Carried} {G : Ground} (ss : List Span) (cs : Forest) → Below sure cs → Here p F E lex s G (node ExportDecl ss cs) → Flat ExportDecl s.listed → Rights (links F E) F lex G (declared_by (marks p F s (node ExportDecl ss cs)))
  export_rights ss ε b h f = tt
  export_rights {s} {G} ss (node l rs ds ⊳ ε) (more_below k n) h f = subst (Rights (links F E) F lex G) (declared_label l _ _ (holds_here sure ExportDecl ss (node l rs ds ⊳ ε) h)) ((holds_known sure k).right (enter p F ExportDecl ss (node l rs ds ⊳ ε) s) G (list_head (group_here sure ExportDecl ss (node l rs ds ⊳ ε) refl h)) (child_flat l f) (and_parts (begins l) true (group_children ExportDecl (labels_of (node l rs ds ⊳ ε)) refl (holds_here sure ExportDecl ss (node l rs ds ⊳ ε) h))).0)
  export_rights ss (node l rs ds ⊳ node m us es ⊳ ts) b h f = absurd (false≢true (holds_here sure ExportDecl ss (node l rs ds ⊳ node m us es ⊳ ts) h))

  pub right_step : {s : Carried} {G : Ground} (l : Label) (ss : List Span) (cs : Forest) → Declares l → Below sure cs → ((x : Name) → l ≡ FnDecl x → Calls (FnDecl x) ss cs) → ((o : Option Name) → l ≡ ExportDefaultFn o → Calls (ExportDefaultFn o) ss cs) → Here p F E lex s G (node l ss cs) → Flat l s.listed → Rights (links F E) F lex G (declared_by (marks p F s (node l ss cs)))
  right_step {s} {G} _ ss cs declares_let b f d h k = let_rights sure G (M sure (VarDecl Let) ss cs s) h.sound.sits.1 (ap (all_labels (is_declarator_of Let)) (labels_same p F (enter p F (VarDecl Let) ss cs s) cs) ∙ holds_here sure (VarDecl Let) ss cs h)
  right_step {s} {G} _ ss cs declares_const b f d h k = const_rights sure G (declarator_names (M sure (VarDecl Const) ss cs s))
  right_step {s} {G} _ ss cs (declares_function x) b f d h k = ((h.sound.sits.0, invoked_declared x (f x refl s G h)), tt)
  right_step {s} {G} _ ss cs (declares_default None) b f d h k = ((default_other, invoked_default None (d None refl s G h)), tt)
  right_step {s} {G} _ ss cs (declares_default (Some x)) b f d h k = ((h.sound.sits.0, invoked_default (Some x) (d (Some x) refl s G h)), tt)
  right_step _ ss cs declares_expression b f d h k = (λ c. refl, tt)
  right_step _ ss cs declares_export b f d h k = export_rights ss cs b h k
  right_step {s} {G} l ss cs (declares_none e) b f d h k = subst (Rights (links F E) F lex G) (sym (e (mark_of (read_put p s l)) (M sure l ss cs s))) tt
