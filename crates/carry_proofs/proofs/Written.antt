-- What a pass makes of a tree is the same but for leaves, and but for exports.
use Rattle.std.proofs.Common.{◌≡◌, ℤ, Bool, true, false, not, ◌&&◌, List, Option, Some, None, refl, sym, ap, subst, arith, if◌then◌else◌}
use Rattle.std.proofs.lemmas.Bool.{and_parts, and_from, false≢true}
use Rattle.swc_ast.specs.declared.Span.{Span}
use Rattle.swc_ast.specs.declared.UnaryOp.TheVariants.{TypeOf}
use Rattle.swc_ast.specs.Tree.{Name, Text, Label, Read, Shorthand, KeyValue, Unary, TypeOfName, ExportNamed, ExportSpecifier, Tree, node, Forest, ε, ◌⊳◌, label_of}
use Rattle.swc_ast.specs.Operators.{is_among}
use Rattle.swc_ast.specs.Run.{export_text}
use Rattle.swc_ast.specs.Value.{Value, Null, Truth, Num, Text as TextValue}
use Rattle.swc_ast.specs.Resolved.{own_scopes, scopes, Targets, below, aimed, apart}
use Rattle.swc_ast.specs.Valid.{is_word, is_identifier, is_optional_word, reserved_words, valid, valid_all}
use Rattle.swc_ast.specs.Core.{in_range, fits, fits_all}
use Rattle.tree_put.specs.Keys.{IsKey}
use Rattle.tree_put.proofs.Keys.{key_is, key_binds, key_aimed, key_apart, key_fits, key_valid}
use Rattle.link_proofs.specs.Links.{Put, nothing, a_name, a_value}
use Rattle.carry_rules.specs.Carry.{Pass, constants, inlines, Facts, Carried, read_put, enter, after, value_tree, rebuilt, written, written_all, exported_put, respecified, reexported}
use Rattle.carry_rules.specs.Parted.{has_parts, is_parted, are_parted}
use Rattle.carry_rules.proofs.Puts.{ReadView, is_read, is_type, is_shorthand, is_import, is_other, read_view}
use Rattle.carry_proofs.proofs.Like.{is_blank, Leaf, Like, like_none, like_more, like_leaf, like_export, like_itself}
use Rattle.carry_proofs.proofs.Fine.{Fit, Fine, nothing_fit, carried_fit, fine_entered, valid_below, fits_below, fine_after}

-- an identifier is a word
word_of : (t : Text) → is_identifier t ≡ true → is_word t ≡ true
unfolding is_identifier
word_of t h = (and_parts (is_word t) (not (is_among t reserved_words)) h).0

module _ (V N : Type 0) where
  -- an expression that may be put for a name
  record Puttable (u : Tree) : Type 0 where
    pub blank : is_blank (label_of u) ≡ true
    pub binds_none : (x : Name) → scopes x u ≡ 0
    pub is_aimed : (g : Targets) → aimed g u ≡ true
    pub stands_apart : apart u ≡ true
    pub is_valid : V → valid u ≡ true
    pub in_core : N → fits u ≡ true

  name_puttable : (x : Name) (ss : List Span) → (V → is_identifier x.text ≡ true) → Puttable (node (Read x) ss ε)
  unfolding own_scopes
  name_puttable x ss f = record { blank = refl; binds_none = λ y. refl; is_aimed = λ g. refl; stands_apart = refl; is_valid = λ v. and_from (is_identifier x.text && true) true (and_from (is_identifier x.text) true (f v) refl) refl; in_core = λ n. refl }

  value_puttable : (v : Value) (ss : List Span) → ((z : ℤ) → v ≡ Num z → N → in_range z ≡ true) → Puttable (value_tree v ss)
  unfolding own_scopes
  value_puttable (Num z) ss f = record { blank = refl; binds_none = λ y. refl; is_aimed = λ g. refl; stands_apart = refl; is_valid = λ v. refl; in_core = λ n. and_from (in_range z) true (f z refl n) refl }
  value_puttable (TextValue t) ss f = record { blank = refl; binds_none = λ y. refl; is_aimed = λ g. refl; stands_apart = refl; is_valid = λ v. refl; in_core = λ n. refl }
  value_puttable (Truth b) ss f = record { blank = refl; binds_none = λ y. refl; is_aimed = λ g. refl; stands_apart = refl; is_valid = λ v. refl; in_core = λ n. refl }
  value_puttable Null ss f = record { blank = refl; binds_none = λ y. refl; is_aimed = λ g. refl; stands_apart = refl; is_valid = λ v. refl; in_core = λ n. refl }
  value_puttable v ss f = record { blank = refl; binds_none = λ y. refl; is_aimed = λ g. refl; stands_apart = refl; is_valid = λ v. refl; in_core = λ n. refl }

  type_puttable : (u : Tree) (ss : List Span) → Puttable u → Puttable (node (Unary TypeOf) ss (u ⊳ ε))
  unfolding own_scopes
  type_puttable u ss h = record {
    blank = refl;
    binds_none = λ y. omega (arith, h.binds_none y);
    is_aimed = λ g. and_from (aimed (below (Unary TypeOf) g) u) true (h.is_aimed (below (Unary TypeOf) g)) refl;
    stands_apart = and_from (apart u) true h.stands_apart refl;
    is_valid = λ v. and_from (valid u) true (h.is_valid v) refl;
    in_core = λ n. and_from (fits u) true (h.in_core n) refl;
  }

  leaf : {t u : Tree} → ((x : Name) → scopes x t ≡ 0) → Puttable u → Leaf V N t u
  leaf f h = record { before = f; behind = h.binds_none; aimed_too = h.is_aimed; apart_too = h.stands_apart; valid_too = λ v e. h.is_valid v; fits_too = λ n e. h.in_core n }

  property_leaf : (y : Name) (ss : List Span) {k : Tree} (u : Tree) → IsKey y.text k → Puttable u → Leaf V N (node (Shorthand y) ss ε) (node KeyValue ss (k ⊳ u ⊳ ε))
  unfolding own_scopes
  property_leaf y ss {k} u i h = record {
    before = λ x. refl;
    behind = λ x. omega (arith, key_binds i x, h.binds_none x);
    aimed_too = λ g. and_from (aimed (below KeyValue g) k) (aimed (below KeyValue g) u && true) (key_aimed i (below KeyValue g)) (and_from (aimed (below KeyValue g) u) true (h.is_aimed (below KeyValue g)) refl);
    apart_too = and_from (apart k) (apart u && true) (key_apart i) (and_from (apart u) true h.stands_apart refl);
    valid_too = λ v e. and_from (valid k) (valid u && true) (key_valid i (word_of y.text (and_parts (is_identifier y.text) true (and_parts (is_identifier y.text && true) true e).0).0)) (and_from (valid u) true (h.is_valid v) refl);
    fits_too = λ n e. and_from (fits k) (fits u && true) (key_fits i) (and_from (fits u) true (h.in_core n) refl);
  }

  module _ (B : Name → Bool) where
    as_leaf : (l : Label) {ss : List Span} {cs ts us : Forest} (u : Tree) → is_blank l ≡ true → is_blank (label_of u) ≡ true → Leaf V N (node l ss cs) u → Like V N B ts us → Like V N B (node l ss cs ⊳ ts) (u ⊳ us)
    as_leaf l (node m rs ds) a b h k = like_leaf l m a b h k

    putting : (l : Label) {ss : List Span} {ts us : Forest} (u : Tree) → is_blank l ≡ true → ((x : Name) → scopes x (node l ss ε) ≡ 0) → Puttable u → Like V N B ts us → Like V N B (node l ss ε ⊳ ts) (u ⊳ us)
    putting l u a f h k = as_leaf l u a h.blank (leaf f h) k

    fit_value : (v : Value) → Fit V N (a_value v) → (z : ℤ) → v ≡ Num z → N → in_range z ≡ true
    fit_value v h z e n = h.number z (ap a_value e) n

    read_like : (y : Name) (ss : List Span) (q : Put) {ts us : Forest} → Fit V N q → Like V N B ts us → Like V N B (node (Read y) ss ε ⊳ ts) (rebuilt q (Read y) ss ε ⊳ us)
    unfolding own_scopes
    read_like y ss nothing h k = like_more (Read y) like_none k
    read_like y ss (a_name x) h k = putting (Read y) (node (Read x) ss ε) refl (λ z. refl) (name_puttable x ss (h.name x refl)) k
    read_like y ss (a_value v) h k = putting (Read y) (value_tree v ss) refl (λ z. refl) (value_puttable v ss (fit_value v h)) k

    type_like : (y : Name) (ss : List Span) (q : Put) {ts us : Forest} → Fit V N q → Like V N B ts us → Like V N B (node (TypeOfName y) ss ε ⊳ ts) (rebuilt q (TypeOfName y) ss ε ⊳ us)
    unfolding own_scopes
    type_like y ss nothing h k = like_more (TypeOfName y) like_none k
    type_like y ss (a_name x) h k = like_leaf (TypeOfName y) (TypeOfName x) refl refl (record { before = λ z. refl; behind = λ z. refl; aimed_too = λ g. refl; apart_too = refl; valid_too = λ v e. and_from (is_identifier x.text && true) true (and_from (is_identifier x.text) true (h.name x refl v) refl) refl; fits_too = λ n e. refl }) k
    type_like y ss (a_value v) h k = putting (TypeOfName y) (node (Unary TypeOf) ss (value_tree v ss ⊳ ε)) refl (λ z. refl) (type_puttable (value_tree v ss) ss (value_puttable v ss (fit_value v h))) k

    short_like : (y : Name) (ss : List Span) (q : Put) {ts us : Forest} → Fit V N q → Like V N B ts us → Like V N B (node (Shorthand y) ss ε ⊳ ts) (rebuilt q (Shorthand y) ss ε ⊳ us)
    short_like y ss nothing h k = like_more (Shorthand y) like_none k
    short_like y ss (a_name x) h k = like_leaf (Shorthand y) KeyValue refl refl (property_leaf y ss (node (Read x) ss ε) (key_is y.text ss) (name_puttable x ss (h.name x refl))) k
    short_like y ss (a_value v) h k = like_leaf (Shorthand y) KeyValue refl refl (property_leaf y ss (value_tree v ss) (key_is y.text ss) (value_puttable v ss (fit_value v h))) k

    module _ (p : Pass) (S : Facts) where
      short_fit : (q : Pass) (s : Carried) (y : Name) → Fine V N s → Fit V N (read_put q s (Shorthand y))
      short_fit constants s y h = carried_fit V N s h y
      short_fit inlines s y h = nothing_fit V N

      node_like : (s : Carried) (l : Label) (ss : List Span) (cs : Forest) {ts us : Forest} → ReadView l → Fine V N s → has_parts l cs ≡ true → Like V N B cs (written_all p S (enter p S l ss cs s) cs) → Like V N B ts us → Like V N B (node l ss cs ⊳ ts) (rebuilt (read_put p s l) l ss (written_all p S (enter p S l ss cs s) cs) ⊳ us)
      node_like s _ ss ε (is_read y) h w c k = read_like y ss (read_put p s (Read y)) (carried_fit V N s h y) k
      node_like s _ ss ε (is_type y) h w c k = type_like y ss (read_put p s (TypeOfName y)) (carried_fit V N s h y) k
      node_like s _ ss ε (is_shorthand y) h w c k = short_like y ss (read_put p s (Shorthand y)) (short_fit p s y h) k
      node_like s _ ss (t ⊳ ts) (is_read y) h w c k = absurd (false≢true w)
      node_like s _ ss (t ⊳ ts) (is_type y) h w c k = absurd (false≢true w)
      node_like s _ ss (t ⊳ ts) (is_shorthand y) h w c k = absurd (false≢true w)
      node_like s _ ss cs (is_import src) h w c k = like_more _ c k
      node_like s l ss cs {ts} {us} (is_other e o n m) h w c k = subst (λ q. Like V N B (node l ss cs ⊳ ts) (rebuilt q l ss (written_all p S (enter p S l ss cs s) cs) ⊳ us)) (sym (e p s)) (like_more l c k)

      mutual
        pub written_in : (s : Carried) (t : Tree) {ts us : Forest} → is_parted t ≡ true → (V → valid t ≡ true) → (N → fits t ≡ true) → Fine V N s → Like V N B ts us → Like V N B (t ⊳ ts) (written p S s t ⊳ us)
        written_in s (node l ss cs) w v f h k = let q = and_parts (has_parts l cs) (are_parted cs) w in node_like s l ss cs (read_view l) h q.0 (written_like (enter p S l ss cs s) cs q.1 (valid_below V N p S l ss cs v) (fits_below V N p S l ss cs f) (fine_entered V N p S l ss cs s h)) k

        pub written_like : (s : Carried) (ts : Forest) → are_parted ts ≡ true → (V → valid_all ts ≡ true) → (N → fits_all ts ≡ true) → Fine V N s → Like V N B ts (written_all p S s ts)
        written_like s ε w v f h = like_none
        written_like s (t ⊳ ts) w v f h =
            let q = and_parts (is_parted t) (are_parted ts) w in
            written_in s t q.0 (λ a. (and_parts (valid t) (valid_all ts) (v a)).0) (λ b. (and_parts (fits t) (fits_all ts) (f b)).0) h
            (written_like (after p S s t) ts q.1 (λ a. (and_parts (valid t) (valid_all ts) (v a)).1) (λ b. (and_parts (fits t) (fits_all ts) (f b)).1) (fine_after V N p S s t (λ a. (and_parts (valid t) (valid_all ts) (v a)).0) (λ b. (and_parts (fits t) (fits_all ts) (f b)).0) h))

    -- exports that name what a name stands for

    export_word : (y : Name) (o : Option Text) → is_identifier y.text ≡ true → is_optional_word o ≡ true → is_word (export_text y o) ≡ true
    export_word y None e f = word_of y.text e
    export_word y (Some t) e f = f

    specifier_like : (y : Name) (o : Option Text) (q : Put) {ss : List Span} {cs ts us : Forest} → Fit V N q → Like V N B ts us → Like V N B (node (ExportSpecifier y o) ss cs ⊳ ts) (node (exported_put B q (ExportSpecifier y o)) ss cs ⊳ us)
    specifier_like y o nothing {cs = cs} h k = like_more (ExportSpecifier y o) (like_itself cs) k
    specifier_like y o (a_value v) {cs = cs} h k = like_more (ExportSpecifier y o) (like_itself cs) k
    specifier_like y o (a_name x) {ss} {cs} {ts} {us} h k = by (B x) refl
      where
        by : (b : Bool) → B x ≡ b → Like V N B (node (ExportSpecifier y o) ss cs ⊳ ts) (node (if b then ExportSpecifier x (Some (export_text y o)) else ExportSpecifier y o) ss cs ⊳ us)
        by true e = like_export y x o (export_text y o) e (λ v i. h.name x refl v) (λ v i j. export_word y o i j) (like_itself cs) k
        by false e = like_more (ExportSpecifier y o) (like_itself cs) k

    module _ (values : Name → Put) (fit : (y : Name) → Fit V N (values y)) where
      respecified_like : (ts : Forest) → Like V N B ts (respecified B values ts)
      respecified_like ε = like_none
      respecified_like (node (ExportSpecifier y o) ss cs ⊳ ts) = specifier_like y o (values y) (fit y) (respecified_like ts)
      respecified_like (node l ss cs ⊳ ts) = like_more l (like_itself cs) (respecified_like ts)

      pub reexported_like : (ts : Forest) → Like V N B ts (reexported B values ts)
      reexported_like ε = like_none
      reexported_like (node ExportNamed ss cs ⊳ ts) = like_more ExportNamed (respecified_like cs) (reexported_like ts)
      reexported_like (node l ss cs ⊳ ts) = like_more l (like_itself cs) (reexported_like ts)
