-- A renamed tree is valid, where the new texts are identifiers.
use Rattle.std.proofs.Common.{◌≡◌, suc, Bool, true, false, not, ◌&&◌, List, [], ◌∷◌, Option, Some, None, refl, ap, ap₂, ◌∙◌, if◌then◌else◌, nat_le}
use Rattle.std.proofs.lemmas.Bool.{and_parts, and_from}
use Rattle.swc_ast.specs.declared.Span.{Span}
use Rattle.swc_ast.specs.declared.VarDeclKind.TheVariants.{Var, Let, Const}
use Rattle.swc_ast.specs.Sorts as by_sort
use Rattle.swc_ast.specs.Tree.{Text, Name, same_name, NameKey, Label, prop, Invalid, Read, CallEval, Template, Shorthand, PlainKey, Fn, Param, TypeOfName, Seq, Assign, Update, If, While, DoWhile, For, Labeled, Try, Absent, VarDecl, Declarator, FnDecl, ImportNamed, ImportDefault, ImportStar, ExportSpecifier, ExportDefaultFn, Tree, node, Forest, ε, ◌⊳◌}
use Rattle.swc_ast.specs.Operators.{is_among}
use Rattle.swc_ast.specs.Valid.{is_word, reserved_words, is_identifier, is_optional_word, is_optional_name, good_names, count, is_absent, is_last_absent, good_texts, is_listed, none_listed, last_not_listed, good_shape, valid, valid_all}
use Rattle.swc_ast.specs.Run.{imported_text, export_text}
use Rattle.rename_rules.specs.Renamed.{new_option, new_text, new_label, new_children, renamed, renamed_all}
use Rattle.rename_rules.specs.Tables.{option_named, label_named, all_named, all_named_in}

identifier_is_word : (t : Text) → is_identifier t ≡ true → is_word t ≡ true
unfolding is_identifier
identifier_is_word t e = (and_parts (is_word t) (not (is_among t reserved_words)) e).0

module _ (to : Name → Name) where
  abbrev pub is_named : Name → Bool
  is_named x = is_identifier (to x).text

  option_good : (o : Option Name) → option_named is_named o ≡ true → is_optional_name (new_option to o) ≡ true
  option_good None e = refl
  option_good (Some x) e = e

  -- a text of outside is a word
  import_word : (x : Name) (o : Option Text) (b : Bool) → is_identifier x.text ≡ true → is_optional_word o ≡ true → is_optional_word (if b then o else Some (imported_text x o)) ≡ true
  import_word x o true e h = h
  import_word x None false e h = identifier_is_word x.text e
  import_word x (Some t) false e h = h

  export_word : (x : Name) (o : Option Text) (b : Bool) → is_identifier x.text ≡ true → is_optional_word o ≡ true → is_optional_word (if b then o else Some (export_text x o)) ≡ true
  export_word x o true e h = h
  export_word x None false e h = identifier_is_word x.text e
  export_word x (Some t) false e h = h

  names_good : (l : Label) → label_named is_named l ≡ true → good_names l ≡ true → good_names (new_label to l) ≡ true
  names_good (Read x) e h = e
  names_good (CallEval x) e h = e
  names_good (Shorthand x) e h = at_field (same_name (to x) x)
    where
      at_field : (b : Bool) → good_names (prop (if b then by_sort.Shorthand x else by_sort.KeyValue)) ≡ true
      at_field true = h
      at_field false = refl
  names_good (Fn o) e h = option_good o e
  names_good (Param x) e h = e
  names_good (TypeOfName x) e h = e
  names_good (Assign op x) e h = e
  names_good (Update op prefix x) e h = e
  names_good (Try None) e h = refl
  names_good (Try (Some o)) e h = option_good o e
  names_good (Declarator kind x) e h = e
  names_good (FnDecl x) e h = e
  names_good (ImportNamed x o) e h = let p = and_parts (is_identifier x.text) (is_optional_word o) h in and_from (is_identifier (to x).text) (is_optional_word (new_text to x o (imported_text x o))) e (import_word x o (same_name (to x) x) p.0 p.1)
  names_good (ImportDefault x) e h = e
  names_good (ImportStar x) e h = e
  names_good (ExportSpecifier x o) e h = let p = and_parts (is_identifier x.text) (is_optional_word o) h in and_from (is_identifier (to x).text) (is_optional_word (new_text to x o (export_text x o))) e (export_word x o (same_name (to x) x) p.0 p.1)
  names_good (ExportDefaultFn o) e h = option_good o e
  names_good _ e h = h

  -- shapes

  count_new : (ts : Forest) → count (renamed_all to ts) ≡ count ts
  unfolding renamed
  count_new ε = refl
  count_new (t ⊳ ts) = ap suc (count_new ts)

  absent_new : (t : Tree) → is_absent (renamed to t) ≡ is_absent t
  unfolding renamed
  absent_new (node Absent ss cs) = refl
  absent_new (node _ ss cs) = refl

  last_absent_new : (ts : Forest) → is_last_absent (renamed_all to ts) ≡ is_last_absent ts
  unfolding renamed
  last_absent_new ε = refl
  last_absent_new (t ⊳ ε) = absent_new t
  last_absent_new (t ⊳ u ⊳ ts) = last_absent_new (u ⊳ ts)

  listed_new : (t : Tree) → is_listed (renamed to t) ≡ is_listed t
  unfolding renamed
  listed_new (node (VarDecl Var) ss cs) = refl
  listed_new (node (VarDecl Let) ss cs) = refl
  listed_new (node (VarDecl Const) ss cs) = refl
  listed_new (node (FnDecl x) ss cs) = refl
  listed_new (node _ ss cs) = refl

  none_listed_new : (ts : Forest) → none_listed (renamed_all to ts) ≡ none_listed ts
  unfolding renamed
  none_listed_new ε = refl
  none_listed_new (t ⊳ ts) = ap₂ (λ (a b : Bool). not a && b) (listed_new t) (none_listed_new ts)

  last_listed_new : (ts : Forest) → last_not_listed (renamed_all to ts) ≡ last_not_listed ts
  unfolding renamed
  last_listed_new ε = refl
  last_listed_new (t ⊳ ε) = ap not (listed_new t)
  last_listed_new (t ⊳ u ⊳ ts) = last_listed_new (u ⊳ ts)

  texts_new : (qs : List (Text × Bool)) (ts : Forest) → good_texts qs (renamed_all to ts) ≡ good_texts qs ts
  unfolding renamed
  texts_new [] ts = refl
  texts_new (q ∷ []) ε = refl
  texts_new (q ∷ []) (t ⊳ ts) = refl
  texts_new (q ∷ r ∷ qs) ε = refl
  texts_new (q ∷ r ∷ qs) (t ⊳ ts) = ap (λ (b : Bool). not q.1 && b) (texts_new (r ∷ qs) ts)

  shape_new : (l : Label) (ss : List Span) (cs : Forest) → good_shape (new_label to l) (new_children to l ss (renamed_all to cs)) ≡ good_shape l cs
  shape_new Invalid ss cs = refl
  shape_new (Template qs) ss cs = texts_new qs cs
  shape_new Seq ss cs = ap (nat_le 2) (count_new cs)
  shape_new (VarDecl kind) ss cs = ap (nat_le 1) (count_new cs)
  shape_new (Try None) ss cs = ap not (last_absent_new cs)
  shape_new (Try (Some o)) ss cs = refl
  shape_new If ss cs = none_listed_new cs
  shape_new While ss cs = none_listed_new cs
  shape_new DoWhile ss cs = none_listed_new cs
  shape_new (Labeled l) ss cs = none_listed_new cs
  shape_new For ss cs = last_listed_new cs
  shape_new _ ss cs = refl

  field_valid : (x : Name) (ss : List Span) (us : Forest) (b : Bool) → is_identifier x.text ≡ true → is_named x ≡ true → valid_all us ≡ true → valid_all (if b then us else (node (PlainKey (NameKey x.text)) ss ε ⊳ node (Read (to x)) ss ε ⊳ us)) ≡ true
  field_valid x ss us true e i h = h
  field_valid x ss us false e i h =
      ap₂ (λ (a b : Bool). ((a && true) && true) && (((b && true) && true) && valid_all us)) (identifier_is_word x.text e) i ∙ h

  children_valid : (l : Label) (ss : List Span) (us : Forest) → label_named is_named l ≡ true → good_names l ≡ true → valid_all us ≡ true → valid_all (new_children to l ss us) ≡ true
  children_valid (Shorthand x) ss us e g h = field_valid x ss us (same_name (to x) x) g e h
  children_valid _ ss us e g h = h

  mutual
    unfolding renamed

    pub valid_new : (t : Tree) → all_named is_named t ≡ true → valid t ≡ true → valid (renamed to t) ≡ true
    valid_new (node l ss cs) e h =
        let n = and_parts (label_named is_named l) (all_named_in is_named cs) e in
        let p = and_parts (good_names l && good_shape l cs) (valid_all cs) h in
        let q = and_parts (good_names l) (good_shape l cs) p.0 in
        and_from (good_names (new_label to l) && good_shape (new_label to l) (new_children to l ss (renamed_all to cs))) (valid_all (new_children to l ss (renamed_all to cs)))
        (and_from (good_names (new_label to l)) (good_shape (new_label to l) (new_children to l ss (renamed_all to cs))) (names_good l n.0 q.0) (shape_new l ss cs ∙ q.1))
        (children_valid l ss (renamed_all to cs) n.0 q.0 (valid_all_new cs n.1 p.1))

    valid_all_new : (ts : Forest) → all_named_in is_named ts ≡ true → valid_all ts ≡ true → valid_all (renamed_all to ts) ≡ true
    valid_all_new ε e h = refl
    valid_all_new (t ⊳ ts) e h =
        let n = and_parts (all_named is_named t) (all_named_in is_named ts) e in
        let p = and_parts (valid t) (valid_all ts) h in
        and_from (valid (renamed to t)) (valid_all (renamed_all to ts)) (valid_new t n.0 p.0) (valid_all_new ts n.1 p.1)
