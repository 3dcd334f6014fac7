-- Names of `let` and `const` that wait in a list are those that it binds.
use Rattle.std.proofs.Common.{◌≡◌, Bool, true, false, ◌||◌, List, [], Some, None, refl, sym, ap, ap₂, ◌∙◌, ◌⊎◌, inl, inr, if◌then◌else◌}
use Rattle.std.proofs.lemmas.Bool.{and_parts, and_from, or_cases, or_left, or_right, false≢true, true≢false}
use Rattle.swc_ast.specs.Labels.{is_declaration}
use Rattle.swc_ast.specs.declared.Span.{Span}
use Rattle.swc_ast.specs.declared.VarDeclKind.{VarDeclKind}
use Rattle.swc_ast.specs.declared.VarDeclKind.TheVariants.{Var, Let, Const}
use Rattle.swc_ast.specs.Tree.{Name, same_name, Label, CaseBody, VarDecl, Declarator, FnDecl, ExportDecl, ExportDefaultFn, ExportDefaultExpr, Tree, node, Forest, ε, ◌⊳◌}
use Rattle.swc_ast.specs.Scope.{default_name, has_name, vars, vars_all, own_vars, holds_statements, declarator_names, as_lexicals, declared_by_label, declared_by, declared, is_found, list_binds}
use Rattle.static_proofs.specs.Shaped.{is_whole_item, is_declarator_of, labels_of, all_labels, holds, is_shaped, are_shaped}
use Rattle.static_proofs.proofs.Names.{same_name_path, same_name_swap, has_name_append}
use Rattle.carry_rules.specs.Carry.{Pass, Facts}
use Rattle.carry_rules.proofs.Sound.{Last, fixed, waits_in, waits_all, Sure, Sits, Other, every, every_all}
use Rattle.carry_rules.proofs.Alike.{found_append}
use Rattle.carry_rules.proofs.Places.{variables_wait}

-- declarators of one kind
is_let : (l : Label) (x : Name) (ss : List Span) (cs ds : Forest) (w : Bool) → is_declarator_of Let l ≡ true → (waits_all ds x ≡ is_found x (as_lexicals w (declarator_names ds))) → waits_all (node l ss cs ⊳ ds) x ≡ is_found x (as_lexicals w (declarator_names (node l ss cs ⊳ ds)))
is_let (Declarator Let y) x ss cs ds w e h = ap₂ ◌||◌ (or_false (same_name x y) ∙ same_name_swap x y) h
  where
    or_false : (b : Bool) → (b || false) ≡ b
    or_false true = refl
    or_false false = refl
is_let l x ss cs ds w e h = absurd (false≢true e)

is_const : (l : Label) (x : Name) (ss : List Span) (cs ds : Forest) (w : Bool) → is_declarator_of Const l ≡ true → (waits_all ds x ≡ is_found x (as_lexicals w (declarator_names ds))) → waits_all (node l ss cs ⊳ ds) x ≡ is_found x (as_lexicals w (declarator_names (node l ss cs ⊳ ds)))
is_const (Declarator Const y) x ss cs ds w e h = ap₂ ◌||◌ (or_false (same_name x y) ∙ same_name_swap x y) h
  where
    or_false : (b : Bool) → (b || false) ≡ b
    or_false true = refl
    or_false false = refl
is_const l x ss cs ds w e h = absurd (false≢true e)

lets_wait : (ds : Forest) (x : Name) (w : Bool) → all_labels (is_declarator_of Let) (labels_of ds) ≡ true → waits_all ds x ≡ is_found x (as_lexicals w (declarator_names ds))
lets_wait ε x w e = refl
lets_wait (node l ss cs ⊳ ds) x w e = let q = and_parts (is_declarator_of Let l) (all_labels (is_declarator_of Let) (labels_of ds)) e in is_let l x ss cs ds w q.0 (lets_wait ds x w q.1)

consts_wait : (ds : Forest) (x : Name) (w : Bool) → all_labels (is_declarator_of Const) (labels_of ds) ≡ true → waits_all ds x ≡ is_found x (as_lexicals w (declarator_names ds))
consts_wait ε x w e = refl
consts_wait (node l ss cs ⊳ ds) x w e = let q = and_parts (is_declarator_of Const l) (all_labels (is_declarator_of Const) (labels_of ds)) e in is_const l x ss cs ds w q.0 (consts_wait ds x w q.1)

-- what waits is bound
label_bound : (l : Label) (ss : List Span) (cs : Forest) (x : Name) → is_declaration l ≡ true → holds l (labels_of cs) ≡ true → waits_in (node l ss cs) x ≡ true → is_found x (declared_by_label l ss cs) ≡ true
label_bound (VarDecl Var) ss cs x i h e = absurd (true≢false (sym e ∙ variables_wait cs x h))
label_bound (VarDecl Let) ss cs x i h e = sym (lets_wait cs x true h) ∙ e
label_bound (VarDecl Const) ss cs x i h e = sym (consts_wait cs x false h) ∙ e
label_bound (FnDecl y) ss cs x i h e = absurd (false≢true e)
label_bound l ss cs x i h e = absurd (false≢true i)

or_false : (b : Bool) → (b || false) ≡ true → b ≡ true
or_false true e = refl
or_false false e = e

tree_bound : (t : Tree) (x : Name) → all_labels is_whole_item (labels_of (t ⊳ ε)) ≡ true → is_shaped t ≡ true → waits_in t x ≡ true → is_found x (declared_by t) ≡ true
tree_bound (node ExportDecl ss ε) x i h e = absurd (false≢true e)
tree_bound (node ExportDecl ss (node l rs cs ⊳ ε)) x i h e =
    let q = and_parts (is_declaration l) (are_shaped (node l rs cs ⊳ ε)) h in
    let r = and_parts (is_shaped (node l rs cs)) true q.1 in
    label_bound l rs cs x q.0 (and_parts (holds l (labels_of cs)) (are_shaped cs) r.0).0 (or_false (waits_in (node l rs cs) x) e)
tree_bound (node ExportDecl ss (node l rs cs ⊳ node m us ds ⊳ ts)) x i h e = absurd (false≢true h)
tree_bound (node (VarDecl k) ss cs) x i h e = by k h e
  where
    by : (k : VarDeclKind) → is_shaped (node (VarDecl k) ss cs) ≡ true → waits_in (node (VarDecl k) ss cs) x ≡ true → is_found x (declared_by (node (VarDecl k) ss cs)) ≡ true
    by Var h e = label_bound (VarDecl Var) ss cs x refl (and_parts (holds (VarDecl Var) (labels_of cs)) (are_shaped cs) h).0 e
    by Let h e = label_bound (VarDecl Let) ss cs x refl (and_parts (holds (VarDecl Let) (labels_of cs)) (are_shaped cs) h).0 e
    by Const h e = label_bound (VarDecl Const) ss cs x refl (and_parts (holds (VarDecl Const) (labels_of cs)) (are_shaped cs) h).0 e
tree_bound (node CaseBody ss cs) x i h e = absurd (false≢true i)
tree_bound (node (Declarator k y) ss cs) x i h e = absurd (false≢true i)
tree_bound (node l ss cs) x i h e = absurd (false≢true e)

head_is : (q : Label → Bool) (t : Tree) (ts : Forest) → all_labels q (labels_of (t ⊳ ts)) ≡ true → (all_labels q (labels_of (t ⊳ ε)) ≡ true) × (all_labels q (labels_of ts) ≡ true)
head_is q (node l ss cs) ts e = let r = and_parts (q l) (all_labels q (labels_of ts)) e in (and_from (q l) true r.0 refl, r.1)

pub waits_bound : (ts : Forest) (x : Name) → all_labels is_whole_item (labels_of ts) ≡ true → are_shaped ts ≡ true → waits_all ts x ≡ true → list_binds ts x ≡ true
waits_bound ε x i h e = absurd (false≢true e)
waits_bound (t ⊳ ts) x i h e =
    let q = head_is is_whole_item t ts i in
    let r = and_parts (is_shaped t) (are_shaped ts) h in
    found_append x (declared_by t) (declared ts) ∙ by (or_cases (waits_in t x) (waits_all ts x) e) (tree_bound t x q.0 r.0) (waits_bound ts x q.1 r.1)
  where
    by : (waits_in t x ≡ true) ⊎ (waits_all ts x ≡ true) → (waits_in t x ≡ true → is_found x (declared_by t) ≡ true) → (waits_all ts x ≡ true → is_found x (declared ts) ≡ true) → (is_found x (declared_by t) || is_found x (declared ts)) ≡ true
    by (inl e) f g = or_left (is_found x (declared_by t)) (is_found x (declared ts)) (f e)
    by (inr e) f g = or_right (is_found x (declared_by t)) (is_found x (declared ts)) (g e)

-- what is bound waits, if it is fixed and declared by `let` or `const`
module _ {p : Pass} {F : Facts} {E : Last} {lex : Name → Bool} (sure : Sure p F E lex) (x : Name) (f : fixed F x ≡ true) (v : lex x ≡ true) where
  no_other : (y : Name) → Other F lex y → same_name y x ≡ true → ⊥
  no_other y h e = true≢false (sym v ∙ ap lex (sym (same_name_path y x e)) ∙ h.0 (ap (fixed F) (same_name_path y x e) ∙ f))

  no_default : same_name default_name x ≡ true → ⊥
  no_default e = true≢false (sym f ∙ ap (fixed F) (sym (same_name_path default_name x e)) ∙ sure.default_free)

  label_waits : (l : Label) (ss : List Span) (cs : Forest) → Sits F lex l → holds l (labels_of cs) ≡ true → is_found x (declared_by_label l ss cs) ≡ true → waits_in (node l ss cs) x ≡ true
  label_waits (VarDecl Var) ss cs s h e = absurd (false≢true e)
  label_waits (VarDecl Let) ss cs s h e = lets_wait cs x true h ∙ e
  label_waits (VarDecl Const) ss cs s h e = consts_wait cs x false h ∙ e
  label_waits (FnDecl y) ss cs s h e = absurd (no_other y s (or_false (same_name y x) e))
  label_waits (ExportDefaultFn None) ss cs s h e = absurd (no_default (or_false (same_name default_name x) e))
  label_waits (ExportDefaultFn (Some y)) ss cs s h e = absurd (no_other y s (or_false (same_name y x) e))
  label_waits ExportDefaultExpr ss cs s h e = absurd (no_default (or_false (same_name default_name x) e))
  label_waits l ss cs s h e = absurd (false≢true e)

  by_waits : (l : Label) (ss : List Span) (cs : Forest) → every F lex (node l ss cs) → is_shaped (node l ss cs) ≡ true → is_found x (declared_by (node l ss cs)) ≡ true → waits_in (node l ss cs) x ≡ true
  by_waits ExportDecl ss ε s h e = absurd (false≢true e)
  by_waits ExportDecl ss (node l rs cs ⊳ ts) s h e =
      let q = and_parts (holds ExportDecl (labels_of (node l rs cs ⊳ ts))) (are_shaped (node l rs cs ⊳ ts)) h in
      let r = and_parts (is_shaped (node l rs cs)) (are_shaped ts) q.1 in
      or_left (waits_in (node l rs cs) x) (waits_all ts x) (label_waits l rs cs s.1.0.0 (and_parts (holds l (labels_of cs)) (are_shaped cs) r.0).0 e)
  by_waits l ss cs s h e = label_waits l ss cs s.0 (and_parts (holds l (labels_of cs)) (are_shaped cs) h).0 e

  pub bound_waits : (ts : Forest) → every_all F lex ts → are_shaped ts ≡ true → list_binds ts x ≡ true → waits_all ts x ≡ true
  bound_waits ε s h e = absurd (false≢true e)
  bound_waits (node l ss cs ⊳ ts) s h e =
      let r = and_parts (is_shaped (node l ss cs)) (are_shaped ts) h in
      by (or_cases (is_found x (declared_by (node l ss cs))) (is_found x (declared ts)) (sym (found_append x (declared_by (node l ss cs)) (declared ts)) ∙ e)) (by_waits l ss cs s.0 r.0) (bound_waits ts s.1 r.1)
    where
      by : (is_found x (declared_by (node l ss cs)) ≡ true) ⊎ (is_found x (declared ts) ≡ true) → (is_found x (declared_by (node l ss cs)) ≡ true → waits_in (node l ss cs) x ≡ true) → (is_found x (declared ts) ≡ true → waits_all ts x ≡ true) → waits_all (node l ss cs ⊳ ts) x ≡ true
      by (inl e) f g = or_left (waits_in (node l ss cs) x) (waits_all ts x) (f e)
      by (inr e) f g = or_right (waits_in (node l ss cs) x) (waits_all ts x) (g e)

-- a `var` is not fixed
module _ (F : Facts) (lex : Name → Bool) (x : Name) where
  own_unfixed : (l : Label) → Sits F lex l → has_name x (own_vars l) ≡ true → fixed F x ≡ false
  own_unfixed (Declarator Var y) s e = ap (fixed F) (same_name_path x y (or_false (same_name x y) e)) ∙ s
  own_unfixed (Declarator Let y) s e = absurd (false≢true e)
  own_unfixed (Declarator Const y) s e = absurd (false≢true e)
  own_unfixed l s e = absurd (false≢true e)

  mutual
    vars_unfixed : (t : Tree) → every F lex t → has_name x (vars t) ≡ true → fixed F x ≡ false
    vars_unfixed (node l ss cs) s e = by (or_cases (has_name x (own_vars l)) (has_name x (if holds_statements l then vars_all cs else [])) (sym (has_name_append x (own_vars l) (if holds_statements l then vars_all cs else [])) ∙ e)) (λ g. all_unfixed cs s.1 g)
      where
        below : (b : Bool) → has_name x (if b then vars_all cs else []) ≡ true → has_name x (vars_all cs) ≡ true
        below true e = e
        below false e = absurd (false≢true e)

        by : (has_name x (own_vars l) ≡ true) ⊎ (has_name x (if holds_statements l then vars_all cs else []) ≡ true) → (has_name x (vars_all cs) ≡ true → fixed F x ≡ false) → fixed F x ≡ false
        by (inl e) g = own_unfixed l s.0 e
        by (inr e) g = g (below (holds_statements l) e)

    pub all_unfixed : (ts : Forest) → every_all F lex ts → has_name x (vars_all ts) ≡ true → fixed F x ≡ false
    all_unfixed ε s e = absurd (false≢true e)
    all_unfixed (t ⊳ ts) s e = by (or_cases (has_name x (vars t)) (has_name x (vars_all ts)) (sym (has_name_append x (vars t) (vars_all ts)) ∙ e)) (vars_unfixed t s.0) (all_unfixed ts s.1)
      where
        by : (has_name x (vars t) ≡ true) ⊎ (has_name x (vars_all ts) ≡ true) → (has_name x (vars t) ≡ true → fixed F x ≡ false) → (has_name x (vars_all ts) ≡ true → fixed F x ≡ false) → fixed F x ≡ false
        by (inl e) f g = f e
        by (inr e) f g = g e
