-- What stays of a tree under the new names of a table.
use Rattle.std.proofs.Common.{◌≡◌, ℕ, Bool, true, false, ◌&&◌, [], ◌∷◌, Option, Some, None, refl, sym, ap, subst, cond, ◌∙◌}
use Rattle.std.proofs.lemmas.Bool.{and_parts, and_from}
use Rattle.swc_ast.specs.Tree.{Name, same_name, Label, Read, CallEval, Shorthand, Fn, Param, TypeOfName, Assign, Update, Try, Declarator, FnDecl, ImportNamed, ImportDefault, ImportStar, ExportSpecifier, ExportDefaultFn, Tree, node, Forest, ε, ◌⊳◌}
use Rattle.swc_ast.specs.Scope.{found}
use Rattle.swc_ast.specs.Valid.{is_identifier, is_optional_word, is_optional_name, good_names, good_shape, valid, valid_all}
use Rattle.swc_ast.specs.Resolved.{apart, IsResolved}
use Rattle.swc_ast.specs.Core.{fits, IsCore}
use Rattle.rename_rules.specs.Renamed.{renamed}
use Rattle.rename_rules.specs.Tables.{Table, with_text, new_name, option_named, label_named, all_named, all_named_in, is_known, all_identifiers, Fits}
use Rattle.rename_proofs.proofs.Relation.{Pairing}
use Rattle.rename_proofs.proofs.Tables.{swap, swap_twice, target, extended, extended_is, agree, trees_agree, named_implies, known_agrees}
use Rattle.rename_proofs.proofs.Valid.{is_named, valid_new}
use Rattle.rename_proofs.proofs.Resolved.{resolved_new}
use Rattle.rename_proofs.proofs.Core.{fits_new}

-- the names of a valid tree are identifiers

abbrev pub is_spelled : Name → Bool
is_spelled x = is_identifier x.text

option_spelled : (o : Option Name) → is_optional_name o ≡ true → option_named is_spelled o ≡ true
option_spelled None e = refl
option_spelled (Some x) e = e

label_spelled : (l : Label) → good_names l ≡ true → label_named is_spelled l ≡ true
label_spelled (Read x) e = e
label_spelled (CallEval x) e = e
label_spelled (Shorthand x) e = e
label_spelled (Fn o) e = option_spelled o e
label_spelled (Param x) e = e
label_spelled (TypeOfName x) e = e
label_spelled (Assign op x) e = e
label_spelled (Update op prefix x) e = e
label_spelled (Try None) e = refl
label_spelled (Try (Some o)) e = option_spelled o e
label_spelled (Declarator kind x) e = e
label_spelled (FnDecl x) e = e
label_spelled (ImportNamed x o) e = (and_parts (is_identifier x.text) (is_optional_word o) e).0
label_spelled (ImportDefault x) e = e
label_spelled (ImportStar x) e = e
label_spelled (ExportSpecifier x o) e = (and_parts (is_identifier x.text) (is_optional_word o) e).0
label_spelled (ExportDefaultFn o) e = option_spelled o e
label_spelled _ e = refl

mutual
  spelled : (t : Tree) → valid t ≡ true → all_named is_spelled t ≡ true
  spelled (node l ss cs) e =
      let p = and_parts (good_names l && good_shape l cs) (valid_all cs) e in
      and_from (label_named is_spelled l) (all_named_in is_spelled cs) (label_spelled l (and_parts (good_names l) (good_shape l cs) p.0).0) (all_spelled cs p.1)

  all_spelled : (ts : Forest) → valid_all ts ≡ true → all_named_in is_spelled ts ≡ true
  all_spelled ε e = refl
  all_spelled (t ⊳ ts) e =
      let p = and_parts (valid t) (valid_all ts) e in
      and_from (all_named is_spelled t) (all_named_in is_spelled ts) (spelled t p.0) (all_spelled ts p.1)

-- so are the new ones
new_spelled : (ps : Table) → all_identifiers ps ≡ true → (x : Name) → is_spelled x ≡ true → is_named (new_name ps) x ≡ true
new_spelled [] h x e = e
new_spelled (p ∷ ps) h x e = let q = and_parts (is_identifier p.1) (all_identifiers ps) h in go (same_name p.0 x) q.0 (new_spelled ps q.1 x e)
  where
    go : (b : Bool) → is_identifier p.1 ≡ true → is_identifier (new_name ps x).text ≡ true → is_identifier (with_text x (cond b (Some p.1) (found x ps))).text ≡ true
    go true q rest = q
    go false q rest = rest

pub valid_by_table : (ps : Table) (t : Tree) → all_identifiers ps ≡ true → valid t ≡ true → valid (renamed (new_name ps) t) ≡ true
valid_by_table ps t h e = valid_new (new_name ps) t (named_implies is_spelled (is_named (new_name ps)) (new_spelled ps h) t (spelled t e)) e

-- each name is a new name
onto : (ps : Table) (y : Name) → (x : Name) × (extended ps x ≡ y)
onto [] y = (y, refl)
onto (p ∷ ps) y =
    let o = onto ps (swap (extended ps p.0) (target p) y) in
    (o.0, ap (swap (extended ps p.0) (target p)) o.1 ∙ swap_twice (extended ps p.0) (target p) y)

module _ (mark : ℕ) (ps : Table) (t : Tree) (f : Fits mark ps t) where
  abbrev pairing : Pairing
  pairing = record { mark = mark; to = extended ps; is = extended_is mark ps f.no_host }

  same_tree : renamed (new_name ps) t ≡ renamed (extended ps) t
  same_tree = trees_agree (new_name ps) (extended ps) t (named_implies (is_known mark ps) (agree (new_name ps) (extended ps)) (known_agrees mark ps f.no_host f.apart) t f.covers)

  pub core_by_table : all_identifiers ps ≡ true → IsCore t → IsCore (renamed (new_name ps) t)
  core_by_table h c = record { is_valid = valid_by_table ps t h c.is_valid; fits_core = ap fits same_tree ∙ fits_new pairing t ∙ c.fits_core }

  pub resolved_by_table : apart (renamed (new_name ps) t) ≡ true → IsResolved mark t → IsResolved mark (renamed (new_name ps) t)
  resolved_by_table a r = subst (IsResolved mark) (sym same_tree) (resolved_new pairing (onto ps) t (ap apart (sym same_tree) ∙ a) r)
