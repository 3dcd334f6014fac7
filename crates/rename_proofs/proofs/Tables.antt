-- A table of new names is part of a renaming of all names: each new name changes places with what has become of the old one.
use Rattle.std.proofs.Common.{◌≡◌, ℕ, Bool, true, false, not, ◌||◌, ◌==◌, List, [], ◌∷◌, Option, Some, None, refl, sym, ap, ap₂, subst, cond, ◌∙◌, if◌then◌else◌}
use Rattle.std.proofs.lemmas.Bool.{true≢false, false≢true, and_parts, and_from, not-true}
use Rattle.swc_ast.specs.declared.Span.{Span}
use Rattle.swc_ast.specs.Sorts as by_sort
use Rattle.swc_ast.specs.Tree.{Text, Name, same_name, NameKey, Label, prop, Read, Shorthand, PlainKey, Fn, Param, TypeOfName, CallEval, Assign, Update, Try, VarDecl, Declarator, FnDecl, Module, ImportNamed, ImportDefault, ImportStar, ExportDecl, ExportSpecifier, ExportDefaultFn, Tree, node, Forest, ε, ◌⊳◌}
use Rattle.swc_ast.specs.Scope.{has_name, found, is_found, declarator_names}
use Rattle.swc_ast.specs.Meaning.{is_unresolved}
use Rattle.swc_ast.specs.Run.{imported_text, export_text, own_texts, declared_exports, Same}
use Rattle.rename_rules.specs.Renamed.{with_word, new_spans, IsRenaming, new_option, new_label, new_children, renamed, renamed_all, all_stay, export_stays, exports_stay, own_exports_stay}
use Rattle.rename_rules.specs.Tables.{Table, with_text, new_name, targets, all_apart, none_host, option_named, label_named, all_named, all_named_in, is_known, Fits}
use Rattle.rename_proofs.proofs.Names.{same_name_eq, same_itself, same_name_turned}
use Rattle.rename_proofs.proofs.Runs.{same}

-- two names change places
abbrev pub swap : Name → Name → Name → Name
swap a b x = if same_name x a then b else (if same_name x b then a else x)

not_same : (x y : Name) → (x ≡ y → ⊥) → same_name x y ≡ false
not_same x y n = go (same_name x y) refl
  where
    go : (b : Bool) → same_name x y ≡ b → b ≡ false
    go false e = refl
    go true e = absurd (n (same_name_eq x y e))

swap_first : (a b : Name) → swap a b a ≡ b
swap_first a b = ap (λ (c : Bool). if c then b else (if same_name a b then a else a)) (same_itself a)

swap_other : (a b x : Name) → same_name x a ≡ false → same_name x b ≡ false → swap a b x ≡ x
swap_other a b x e q = ap (λ (c : Bool). if c then b else (if same_name x b then a else x)) e ∙ ap (λ (c : Bool). if c then a else x) q

-- the second becomes the first, also where they are one
swap_second : (a b : Name) → swap a b b ≡ a
swap_second a b = go (same_name b a) refl
  where
    go : (c : Bool) → same_name b a ≡ c → (if c then b else (if same_name b b then a else b)) ≡ a
    go true e = same_name_eq b a e
    go false e = ap (λ (c : Bool). if c then a else b) (same_itself b)

pub swap_twice : (a b x : Name) → swap a b (swap a b x) ≡ x
swap_twice a b x = go (same_name x a) refl
  where
    second : (c : Bool) → same_name x a ≡ false → same_name x b ≡ c → swap a b (if c then a else x) ≡ x
    second true e q = swap_first a b ∙ sym (same_name_eq x b q)
    second false e q = swap_other a b x e q

    go : (c : Bool) → same_name x a ≡ c → swap a b (if c then b else (if same_name x b then a else x)) ≡ x
    go true e = swap_second a b ∙ sym (same_name_eq x a e)
    go false e = second (same_name x b) e refl

swap_context : (a b x : Name) → a.context ≡ b.context → (swap a b x).context ≡ x.context
swap_context a b x e = go (same_name x a) refl
  where
    second : (c : Bool) → same_name x b ≡ c → (if c then a else x).context ≡ x.context
    second true q = e ∙ ap (λ (z : Name). z.context) (sym (same_name_eq x b q))
    second false q = refl

    go : (c : Bool) → same_name x a ≡ c → (if c then b else (if same_name x b then a else x)).context ≡ x.context
    go true q = sym e ∙ ap (λ (z : Name). z.context) (sym (same_name_eq x a q))
    go false q = second (same_name x b) refl

-- the new name of an entry
abbrev pub target : Name × Text → Name
target p = record { text = p.1; context = p.0.context }

-- all names, by a table
abbrev pub extended : Table → Name → Name
extended [] x = x
extended (p ∷ ps) x = swap (extended ps p.0) (target p) (extended ps x)

extended_one : (ps : Table) (x y : Name) → extended ps x ≡ extended ps y → x ≡ y
extended_one [] x y e = e
extended_one (p ∷ ps) x y e = extended_one ps x y (sym (swap_twice (extended ps p.0) (target p) (extended ps x)) ∙ ap (swap (extended ps p.0) (target p)) e ∙ swap_twice (extended ps p.0) (target p) (extended ps y))

extended_context : (ps : Table) (x : Name) → (extended ps x).context ≡ x.context
extended_context [] x = refl
extended_context (p ∷ ps) x = swap_context (extended ps p.0) (target p) (extended ps x) (extended_context ps p.0) ∙ extended_context ps x

module _ (mark : ℕ) where
  unresolved_by : (x y : Name) → x.context ≡ y.context → is_unresolved mark x ≡ is_unresolved mark y
  unresolved_by x y e = ap (λ (k : ℕ). (k == 0) || (k == mark)) e

  apart_by : (x y : Name) → is_unresolved mark x ≡ true → is_unresolved mark y ≡ false → same_name x y ≡ false
  apart_by x y e q = not_same x y (λ p. true≢false (sym e ∙ ap (is_unresolved mark) p ∙ q))

  extended_host : (ps : Table) → none_host mark ps ≡ true → (x : Name) → is_unresolved mark x ≡ true → extended ps x ≡ x
  extended_host [] h x e = refl
  extended_host (p ∷ ps) h x e =
      let q = and_parts (not (is_unresolved mark p.0)) (none_host mark ps) h in
      let n : is_unresolved mark p.0 ≡ false = not-true (is_unresolved mark p.0) q.0 in
      ap (swap (extended ps p.0) (target p)) (extended_host ps q.1 x e)
      ∙ swap_other (extended ps p.0) (target p) x (apart_by x (extended ps p.0) e (unresolved_by (extended ps p.0) p.0 (extended_context ps p.0) ∙ n)) (apart_by x (target p) e n)

  pub extended_is : (ps : Table) → none_host mark ps ≡ true → IsRenaming mark (extended ps)
  extended_is ps h = record { one_to_one = extended_one ps; keeps_context = extended_context ps; hosts_stay = extended_host ps h }

-- what is in the table has its new name

or_false : (a b : Bool) → (a || b) ≡ false → (a ≡ false) × (b ≡ false)
or_false false b e = (refl, e)
or_false true b e = absurd (true≢false e)

not_target : (y : Name) (ps : Table) → has_name y (targets ps) ≡ false → (x : Name) (t : Text) → found x ps ≡ Some t → same_name (record { text = t; context = x.context }) y ≡ false
not_target y [] h x t e = cc
not_target y (p ∷ ps) h x t e = go (same_name p.0 x) refl e (not_target y ps (or_false (same_name y (target p)) (has_name y (targets ps)) h).1 x t)
  where
    go : (b : Bool) → same_name p.0 x ≡ b → cond b (Some p.1) (found x ps) ≡ Some t → (found x ps ≡ Some t → same_name (record { text = t; context = x.context }) y ≡ false) → same_name (record { text = t; context = x.context }) y ≡ false
    go true q i rest =
        let s : target p ≡ record { text = t; context = x.context } = λ k. record { text = some_text i k; context = (same_name_eq p.0 x q k).context } in
        ap (λ (z : Name). same_name z y) (sym s) ∙ same_name_turned (target p) y ∙ (or_false (same_name y (target p)) (has_name y (targets ps)) h).0
      where
        some_text : {a b : Text} → Some a ≡ Some b → a ≡ b
        some_text e = cc
    go false q i rest = rest i

pub extended_found : (ps : Table) → all_apart (targets ps) ≡ true → (x : Name) (t : Text) → found x ps ≡ Some t → extended ps x ≡ record { text = t; context = x.context }
extended_found [] h x t e = cc
extended_found (p ∷ ps) h x t e = go (same_name p.0 x) refl e (extended_found ps (and_parts (not (has_name (target p) (targets ps))) (all_apart (targets ps)) h).1 x t)
  where
    parts : (has_name (target p) (targets ps) ≡ false) × (all_apart (targets ps) ≡ true)
    parts = let q = and_parts (not (has_name (target p) (targets ps))) (all_apart (targets ps)) h in (not-true (has_name (target p) (targets ps)) q.0, q.1)

    go : (b : Bool) → same_name p.0 x ≡ b → cond b (Some p.1) (found x ps) ≡ Some t → (found x ps ≡ Some t → extended ps x ≡ record { text = t; context = x.context }) → extended (p ∷ ps) x ≡ record { text = t; context = x.context }
    go true q i rest =
        ap (λ (z : Name). swap (extended ps p.0) (target p) (extended ps z)) (sym (same_name_eq p.0 x q)) ∙ swap_first (extended ps p.0) (target p)
        ∙ (λ k. record { text = some_text i k; context = (same_name_eq p.0 x q k).context })
      where
        some_text : {a b : Text} → Some a ≡ Some b → a ≡ b
        some_text e = cc
    go false q i rest =
        let r : extended ps x ≡ record { text = t; context = x.context } = rest i in
        ap (swap (extended ps p.0) (target p)) r
        ∙ swap_other (extended ps p.0) (target p) (record { text = t; context = x.context })
        (ap (λ (z : Name). same_name z (extended ps p.0)) (sym r) ∙ not_same (extended ps x) (extended ps p.0) (λ s. false≢true (sym q ∙ ap (λ (z : Name). same_name z x) (sym (extended_one ps x p.0 s)) ∙ same_itself x)))
        (not_target (target p) ps parts.0 x t i)

-- trees under two renamings that agree on their names

module _ (f g : Name → Name) where
  abbrev pub agree : Name → Bool
  agree x = same_name (f x) (g x)

  agreed : (x : Name) → agree x ≡ true → f x ≡ g x
  agreed x e = same_name_eq (f x) (g x) e

  option_agrees : (o : Option Name) → option_named agree o ≡ true → new_option f o ≡ new_option g o
  option_agrees None e = refl
  option_agrees (Some x) e = ap Some (agreed x e)

  label_agrees : (l : Label) → label_named agree l ≡ true → new_label f l ≡ new_label g l
  label_agrees (Read x) e = ap Read (agreed x e)
  label_agrees (Shorthand x) e = ap (λ (z : Name). prop (if same_name z x then by_sort.Shorthand x else by_sort.KeyValue)) (agreed x e)
  label_agrees (Fn o) e = ap Fn (option_agrees o e)
  label_agrees (Param x) e = ap Param (agreed x e)
  label_agrees (TypeOfName x) e = ap TypeOfName (agreed x e)
  label_agrees (CallEval x) e = ap CallEval (agreed x e)
  label_agrees (Assign op x) e = ap (Assign op) (agreed x e)
  label_agrees (Update op prefix x) e = ap (Update op prefix) (agreed x e)
  label_agrees (Try None) e = refl
  label_agrees (Try (Some o)) e = ap (λ o. Try (Some o)) (option_agrees o e)
  label_agrees (Declarator kind x) e = ap (Declarator kind) (agreed x e)
  label_agrees (FnDecl x) e = ap FnDecl (agreed x e)
  label_agrees (ImportNamed x i) e = ap (λ (z : Name). ImportNamed z (if same_name z x then i else Some (imported_text x i))) (agreed x e)
  label_agrees (ImportDefault x) e = ap ImportDefault (agreed x e)
  label_agrees (ImportStar x) e = ap ImportStar (agreed x e)
  label_agrees (ExportSpecifier x o) e = ap (λ (z : Name). ExportSpecifier z (if same_name z x then o else Some (export_text x o))) (agreed x e)
  label_agrees (ExportDefaultFn o) e = ap ExportDefaultFn (option_agrees o e)
  label_agrees _ e = refl

  spans_agree : (l : Label) (ss : List Span) → label_named agree l ≡ true → new_spans f l ss ≡ new_spans g l ss
  spans_agree (Shorthand x) ss e = ap (λ (z : Name). if same_name z x then ss else []) (agreed x e)
  spans_agree (ImportNamed x None) ss e = ap (λ (z : Name). if same_name z x then ss else with_word ss) (agreed x e)
  spans_agree (ImportNamed x (Some t)) ss e = refl
  spans_agree (ExportSpecifier x None) ss e = ap (λ (z : Name). if same_name z x then ss else with_word ss) (agreed x e)
  spans_agree (ExportSpecifier x (Some t)) ss e = refl
  spans_agree _ ss e = refl

  children_agree : (l : Label) (ss : List Span) (cs us : Forest) → label_named agree l ≡ true → cs ≡ us → new_children f l ss cs ≡ new_children g l ss us
  children_agree (Shorthand x) ss cs us e h = ap₂ (λ (z : Name) (cs : Forest). if same_name z x then cs else (node (PlainKey (NameKey x.text)) ss ε ⊳ node (Read z) ss ε ⊳ cs)) (agreed x e) h
  children_agree _ ss cs us e h = h

  mutual
    unfolding renamed

    pub trees_agree : (t : Tree) → all_named agree t ≡ true → renamed f t ≡ renamed g t
    trees_agree (node l ss cs) e =
        let p = and_parts (label_named agree l) (all_named_in agree cs) e in
        λ i. node (label_agrees l p.0 i) (spans_agree l ss p.0 i) (children_agree l ss (renamed_all f cs) (renamed_all g cs) p.0 (forests_agree cs p.1) i)

    forests_agree : (ts : Forest) → all_named_in agree ts ≡ true → renamed_all f ts ≡ renamed_all g ts
    forests_agree ε e = refl
    forests_agree (t ⊳ ts) e = let p = and_parts (all_named agree t) (all_named_in agree ts) e in ap₂ ◌⊳◌ (trees_agree t p.0) (forests_agree ts p.1)

  -- what stays under the one stays under the other

  one_stays : (x : Name) → agree x ≡ true → same_name (f x) x ≡ true → same_name (g x) x ≡ true
  one_stays x e h = ap (λ (z : Name). same_name z x) (sym (agreed x e)) ∙ h

  declarators_stay : (ts : Forest) → all_named_in agree ts ≡ true → all_stay f (own_texts (declarator_names ts)) ≡ true → all_stay g (own_texts (declarator_names ts)) ≡ true
  declarators_stay ε e h = refl
  declarators_stay (node (Declarator kind x) ss cs ⊳ ts) e h =
      let p = and_parts (all_named agree (node (Declarator kind x) ss cs)) (all_named_in agree ts) e in
      let q = and_parts (same_name (f x) x) (all_stay f (own_texts (declarator_names ts))) h in
      and_from (same_name (g x) x) (all_stay g (own_texts (declarator_names ts))) (one_stays x (and_parts (agree x) (all_named_in agree cs) p.0).0 q.0) (declarators_stay ts p.1 q.1)
  declarators_stay (node l ss cs ⊳ ts) e h = declarators_stay ts (and_parts (all_named agree (node l ss cs)) (all_named_in agree ts) e).1 h

  declared_stay : (l : Label) (cs : Forest) → label_named agree l ≡ true → all_named_in agree cs ≡ true → all_stay f (declared_exports l cs) ≡ true → all_stay g (declared_exports l cs) ≡ true
  declared_stay (VarDecl kind) cs e i h = declarators_stay cs i h
  declared_stay (FnDecl x) cs e i h = and_from (same_name (g x) x) true (one_stays x e (and_parts (same_name (f x) x) true h).0) refl
  declared_stay _ cs e i h = refl

  item_stays : (l : Label) (cs : Forest) → all_named_in agree cs ≡ true → export_stays f l cs ≡ true → export_stays g l cs ≡ true
  item_stays ExportDecl ε e h = refl
  item_stays ExportDecl (node l ss cs ⊳ ts) e h =
      let p = and_parts (label_named agree l) (all_named_in agree cs) (and_parts (all_named agree (node l ss cs)) (all_named_in agree ts) e).0 in
      declared_stay l cs p.0 p.1 h
  item_stays _ cs e h = refl

  items_stay : (ts : Forest) → all_named_in agree ts ≡ true → exports_stay f ts ≡ true → exports_stay g ts ≡ true
  items_stay ε e h = refl
  items_stay (node l ss cs ⊳ ts) e h =
      let p = and_parts (all_named agree (node l ss cs)) (all_named_in agree ts) e in
      let q = and_parts (export_stays f l cs) (exports_stay f ts) h in
      and_from (export_stays g l cs) (exports_stay g ts) (item_stays l cs (and_parts (label_named agree l) (all_named_in agree cs) p.0).1 q.0) (items_stay ts p.1 q.1)

  pub exports_agree : (t : Tree) → all_named agree t ≡ true → own_exports_stay f t ≡ true → own_exports_stay g t ≡ true
  exports_agree (node Module ss ts) e h = items_stay ts e h
  exports_agree (node _ ss ts) e h = refl

-- what holds of each name of a tree implies what it implies of the name

module _ (f g : Name → Bool) (h : (x : Name) → f x ≡ true → g x ≡ true) where
  option_implies : (o : Option Name) → option_named f o ≡ true → option_named g o ≡ true
  option_implies None e = refl
  option_implies (Some x) e = h x e

  label_implies : (l : Label) → label_named f l ≡ true → label_named g l ≡ true
  label_implies (Read x) e = h x e
  label_implies (Shorthand x) e = h x e
  label_implies (Fn o) e = option_implies o e
  label_implies (Param x) e = h x e
  label_implies (TypeOfName x) e = h x e
  label_implies (CallEval x) e = h x e
  label_implies (Assign op x) e = h x e
  label_implies (Update op prefix x) e = h x e
  label_implies (Try None) e = refl
  label_implies (Try (Some o)) e = option_implies o e
  label_implies (Declarator kind x) e = h x e
  label_implies (FnDecl x) e = h x e
  label_implies (ImportNamed x i) e = h x e
  label_implies (ImportDefault x) e = h x e
  label_implies (ImportStar x) e = h x e
  label_implies (ExportSpecifier x o) e = h x e
  label_implies (ExportDefaultFn o) e = option_implies o e
  label_implies _ e = refl

  mutual
    pub named_implies : (t : Tree) → all_named f t ≡ true → all_named g t ≡ true
    named_implies (node l ss cs) e =
        let p = and_parts (label_named f l) (all_named_in f cs) e in
        and_from (label_named g l) (all_named_in g cs) (label_implies l p.0) (named_in_implies cs p.1)

    named_in_implies : (ts : Forest) → all_named_in f ts ≡ true → all_named_in g ts ≡ true
    named_in_implies ε e = refl
    named_in_implies (t ⊳ ts) e =
        let p = and_parts (all_named f t) (all_named_in f ts) e in
        and_from (all_named g t) (all_named_in g ts) (named_implies t p.0) (named_in_implies ts p.1)

-- a table and its renaming agree

not_found_host : (mark : ℕ) (ps : Table) → none_host mark ps ≡ true → (x : Name) → is_unresolved mark x ≡ true → found x ps ≡ None
not_found_host mark [] h x e = refl
not_found_host mark (p ∷ ps) h x e =
    let q = and_parts (not (is_unresolved mark p.0)) (none_host mark ps) h in
    let n : same_name p.0 x ≡ false = same_name_turned p.0 x ∙ apart_by mark x p.0 e (not-true (is_unresolved mark p.0) q.0) in
    ap (λ (b : Bool). cond b (Some p.1) (found x ps)) n ∙ not_found_host mark ps q.1 x e

is_some : (x : Name) (ps : Table) → is_found x ps ≡ true → (t : Text) × (found x ps ≡ Some t)
is_some x [] e = absurd (false≢true e)
is_some x (p ∷ ps) e = go (same_name p.0 x) e (is_some x ps)
  where
    go : (b : Bool) → (b || is_found x ps) ≡ true → (is_found x ps ≡ true → (t : Text) × (found x ps ≡ Some t)) → (t : Text) × (cond b (Some p.1) (found x ps) ≡ Some t)
    go true i rest = (p.1, refl)
    go false i rest = rest i

pub known_agrees : (mark : ℕ) (ps : Table) → none_host mark ps ≡ true → all_apart (targets ps) ≡ true → (x : Name) → is_known mark ps x ≡ true → same_name (new_name ps x) (extended ps x) ≡ true
known_agrees mark ps n a x e = go (is_unresolved mark x) refl e
  where
    equal : new_name ps x ≡ extended ps x → same_name (new_name ps x) (extended ps x) ≡ true
    equal e = ap (same_name (new_name ps x)) (sym e) ∙ same_itself (new_name ps x)

    go : (b : Bool) → is_unresolved mark x ≡ b → (b || is_found x ps) ≡ true → same_name (new_name ps x) (extended ps x) ≡ true
    go true u i = equal (ap (with_text x) (not_found_host mark ps n x u) ∙ sym (extended_host mark ps n x u))
    go false u i = let t = is_some x ps i in equal (ap (with_text x) t.1 ∙ sym (extended_found ps a x t.0 t.1))

pub same_by_table : (mark : ℕ) (loads : Bool) (ps : Table) (t : Tree) → Fits mark ps t → Same mark loads t (renamed (new_name ps) t)
same_by_table mark loads ps t h =
    let n : all_named (agree (new_name ps) (extended ps)) t ≡ true = named_implies (is_known mark ps) (agree (new_name ps) (extended ps)) (known_agrees mark ps h.no_host h.apart) t h.covers in
    subst (Same mark loads t) (sym (trees_agree (new_name ps) (extended ps) t n))
    (same (record { mark = mark; to = extended ps; is = extended_is mark ps h.no_host }) loads t (exports_agree (new_name ps) (extended ps) t n h.exports))
