-- Whether new names change a tree.
use Rattle.std.proofs.Common.{◌≡◌, Bool, true, false, List, [], Option, Some, None, refl, sym, ap, ap₂, ◌∙◌, if◌then◌else◌}
use Rattle.std.proofs.lemmas.Bool.{and_parts, and_from}
use Rattle.swc_ast.specs.declared.Span.{Span}
use Rattle.swc_ast.specs.Sorts as by_sort
use Rattle.swc_ast.specs.Tree.{Name, same_name, NameKey, Label, prop, Read, Shorthand, PlainKey, Fn, Param, TypeOfName, CallEval, Assign, Update, Try, Declarator, FnDecl, ImportNamed, ImportDefault, ImportStar, ExportSpecifier, ExportDefaultFn, Tree, node, Forest, ε, ◌⊳◌, bare, bares}
use Rattle.swc_ast.specs.Run.{imported_text, export_text}
use Rattle.rename_rules.specs.Renamed.{with_word, new_option, new_label, new_spans, new_children, renamed, renamed_all}
use Rattle.rename_rules.specs.Tables.{option_named, label_named, all_named, all_named_in}
use Rattle.rename_proofs.proofs.Names.{same_name_eq, same_itself}

module _ (to : Name → Name) where
  abbrev pub stays : Name → Bool
  stays x = same_name (to x) x

  name_stays : (x : Name) → stays x ≡ true → to x ≡ x
  name_stays x e = same_name_eq (to x) x e

  is_same : (x : Name) → to x ≡ x → stays x ≡ true
  is_same x e = ap (λ (z : Name). same_name z x) e ∙ same_itself x

  -- where each name stays, so does the tree

  option_stays : (o : Option Name) → option_named stays o ≡ true → new_option to o ≡ o
  option_stays None e = refl
  option_stays (Some x) e = ap Some (name_stays x e)

  label_stays : (l : Label) → label_named stays l ≡ true → new_label to l ≡ l
  label_stays (Read x) e = ap Read (name_stays x e)
  label_stays (Shorthand x) e = ap (λ (b : Bool). prop (if b then by_sort.Shorthand x else by_sort.KeyValue)) e
  label_stays (Fn o) e = ap Fn (option_stays o e)
  label_stays (Param x) e = ap Param (name_stays x e)
  label_stays (TypeOfName x) e = ap TypeOfName (name_stays x e)
  label_stays (CallEval x) e = ap CallEval (name_stays x e)
  label_stays (Assign op x) e = ap (Assign op) (name_stays x e)
  label_stays (Update op prefix x) e = ap (Update op prefix) (name_stays x e)
  label_stays (Try None) e = refl
  label_stays (Try (Some o)) e = ap (λ o. Try (Some o)) (option_stays o e)
  label_stays (Declarator kind x) e = ap (Declarator kind) (name_stays x e)
  label_stays (FnDecl x) e = ap FnDecl (name_stays x e)
  label_stays (ImportNamed x i) e = ap₂ (λ (z : Name) (b : Bool). ImportNamed z (if b then i else Some (imported_text x i))) (name_stays x e) e
  label_stays (ImportDefault x) e = ap ImportDefault (name_stays x e)
  label_stays (ImportStar x) e = ap ImportStar (name_stays x e)
  label_stays (ExportSpecifier x o) e = ap₂ (λ (z : Name) (b : Bool). ExportSpecifier z (if b then o else Some (export_text x o))) (name_stays x e) e
  label_stays (ExportDefaultFn o) e = ap ExportDefaultFn (option_stays o e)
  label_stays _ e = refl

  spans_stay : (l : Label) (ss : List Span) → label_named stays l ≡ true → new_spans to l ss ≡ ss
  spans_stay (Shorthand x) ss e = ap (λ (b : Bool). if b then ss else []) e
  spans_stay (ImportNamed x None) ss e = ap (λ (b : Bool). if b then ss else with_word ss) e
  spans_stay (ImportNamed x (Some t)) ss e = refl
  spans_stay (ExportSpecifier x None) ss e = ap (λ (b : Bool). if b then ss else with_word ss) e
  spans_stay (ExportSpecifier x (Some t)) ss e = refl
  spans_stay _ ss e = refl

  children_stay : (l : Label) (ss : List Span) (us : Forest) → label_named stays l ≡ true → new_children to l ss us ≡ us
  children_stay (Shorthand x) ss us e = ap (λ (b : Bool). if b then us else (node (PlainKey (NameKey x.text)) ss ε ⊳ node (Read (to x)) ss ε ⊳ us)) e
  children_stay _ ss us e = refl

  mutual
    unfolding renamed

    pub tree_stays : (t : Tree) → all_named stays t ≡ true → renamed to t ≡ t
    tree_stays (node l ss cs) e =
        let p = and_parts (label_named stays l) (all_named_in stays cs) e in
        λ i. node (label_stays l p.0 i) (spans_stay l ss p.0 i) ((children_stay l ss (renamed_all to cs) p.0 ∙ forest_stays cs p.1) i)

    forest_stays : (ts : Forest) → all_named_in stays ts ≡ true → renamed_all to ts ≡ ts
    forest_stays ε e = refl
    forest_stays (t ⊳ ts) e = let p = and_parts (all_named stays t) (all_named_in stays ts) e in ap₂ ◌⊳◌ (tree_stays t p.0) (forest_stays ts p.1)

  -- where the tree stays up to spans, so does each name

  option_back : (o : Option Name) → new_option to o ≡ o → option_named stays o ≡ true
  option_back None e = refl
  option_back (Some x) e = is_same x (some_same e)
    where
      some_same : {a b : Name} → Some a ≡ Some b → a ≡ b
      some_same e = cc

  label_back : (l : Label) → new_label to l ≡ l → label_named stays l ≡ true
  label_back (Read x) e = is_same x cc
  label_back (Shorthand x) e = go (stays x) e
    where
      go : (b : Bool) → prop (if b then by_sort.Shorthand x else by_sort.KeyValue) ≡ Shorthand x → b ≡ true
      go true e = refl
      go false e = cc
  label_back (Fn o) e = option_back o cc
  label_back (Param x) e = is_same x cc
  label_back (TypeOfName x) e = is_same x cc
  label_back (CallEval x) e = is_same x cc
  label_back (Assign op x) e = is_same x cc
  label_back (Update op prefix x) e = is_same x cc
  label_back (Try None) e = refl
  label_back (Try (Some o)) e = option_back o cc
  label_back (Declarator kind x) e = is_same x cc
  label_back (FnDecl x) e = is_same x cc
  label_back (ImportNamed x i) e = is_same x cc
  label_back (ImportDefault x) e = is_same x cc
  label_back (ImportStar x) e = is_same x cc
  label_back (ExportSpecifier x o) e = is_same x cc
  label_back (ExportDefaultFn o) e = option_back o cc
  label_back _ e = refl

  own_label : {l m : Label} {cs us : Forest} → node l [] cs ≡ node m [] us → l ≡ m
  own_label e = cc

  own_children : {l m : Label} {cs us : Forest} → node l [] cs ≡ node m [] us → cs ≡ us
  own_children e = cc

  head_is : {t u : Tree} {ts us : Forest} → (t ⊳ ts) ≡ (u ⊳ us) → t ≡ u
  head_is e = cc

  rest_is : {t u : Tree} {ts us : Forest} → (t ⊳ ts) ≡ (u ⊳ us) → ts ≡ us
  rest_is e = cc

  mutual
    unfolding renamed

    pub names_stay : (t : Tree) → bare (renamed to t) ≡ bare t → all_named stays t ≡ true
    names_stay (node l ss cs) e =
        let p : label_named stays l ≡ true = label_back l (own_label e) in
        and_from (label_named stays l) (all_named_in stays cs) p (all_names_stay cs (ap bares (sym (children_stay l ss (renamed_all to cs) p)) ∙ own_children e))

    all_names_stay : (ts : Forest) → bares (renamed_all to ts) ≡ bares ts → all_named_in stays ts ≡ true
    all_names_stay ε e = refl
    all_names_stay (t ⊳ ts) e = and_from (all_named stays t) (all_named_in stays ts) (names_stay t (head_is e)) (all_names_stay ts (rest_is e))
