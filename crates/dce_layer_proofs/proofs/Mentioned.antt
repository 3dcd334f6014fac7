-- What an item keeps stands in it.
use Rattle.std.proofs.Common.{◌≡◌, Bool, true, false, ◌&&◌, ◌||◌, if◌then◌else◌, List, [], ◌∷◌, ◌++◌, Some, None, refl, sym, ap, ◌∙◌}
use Rattle.std.proofs.lemmas.Bool.{false≢true, or_left, or_right, and_parts}
use Rattle.swc_ast.specs.Tree as tree
use Rattle.swc_ast.specs.Tree.{Name, Label, same_name, Tree, node, Forest, ε, ◌⊳◌}
use Rattle.swc_ast.specs.Reach.{named_by, declares, named_outside, outside_in, is_exported}
use Rattle.swc_ast.specs.Resolved.{params_of}
use Rattle.swc_ast.specs.Run.{own_texts, declared_exports, specifier_export, specifier_exports, item_exports, exported}
use Rattle.swc_ast.specs.Scope.{has_name, default_name, declarator_name, declarator_names, param_name, param_names, is_function}
use Rattle.static_proofs.proofs.Names.{has_name_append}
use Rattle.dce_rules.specs.Uses.{has_arguments, any_arguments, any_eval, declared_by_node, declared_in, declared_among, is_argument, argument_among, seen_by_eval, eval_among}
use Rattle.dce_layer_proofs.specs.Goers.{own_mention, mentions, mentions_among}
use Rattle.dce_layer_proofs.specs.Layers.{notes}
use Rattle.dce_layer_proofs.proofs.Kept.{notes_by, exported_append}

-- among the first or the rest of some names

in_left : (x : Name) (xs ys : List Name) → has_name x xs ≡ true → has_name x (xs ++ ys) ≡ true
in_left x xs ys h = has_name_append x xs ys ∙ or_left (has_name x xs) (has_name x ys) h

in_right : (x : Name) (xs ys : List Name) → has_name x ys ≡ true → has_name x (xs ++ ys) ≡ true
in_right x xs ys h = has_name_append x xs ys ∙ or_right (has_name x xs) (has_name x ys) h

in_either : {A : Type 0} {a b : Bool} → (a || b) ≡ true → (a ≡ true → A) → (b ≡ true → A) → A
in_either {a = true} h f g = f refl
in_either {a = false} h f g = g h

declared_here : (x : Name) (l : Label) (cs : Forest) → has_name x (declared_by_node l) ≡ true → has_name x (own_mention l ++ mentions_among cs) ≡ true
declared_here x l cs h = in_left x (own_mention l) (mentions_among cs) (in_right x (named_by l) (declared_by_node l) h)

below : (x : Name) (l : Label) (cs : Forest) → has_name x (mentions_among cs) ≡ true → has_name x (own_mention l ++ mentions_among cs) ≡ true
below x l cs h = in_right x (own_mention l) (mentions_among cs) h

-- names that are declared

mutual
  declared_stands : (x : Name) (t : Tree) → declared_in x t ≡ true → has_name x (mentions t) ≡ true
  declared_stands x (node l ss cs) h = in_either h (declared_here x l cs) (λ k. below x l cs (declared_among_stands x cs k))

  declared_among_stands : (x : Name) (ts : Forest) → declared_among x ts ≡ true → has_name x (mentions_among ts) ≡ true
  declared_among_stands x ε h = absurd (false≢true h)
  declared_among_stands x (t ⊳ ts) h = in_either h (λ k. in_left x (mentions t) (mentions_among ts) (declared_stands x t k)) (λ k. in_right x (mentions t) (mentions_among ts) (declared_among_stands x ts k))

-- names outside the declarations of functions of that name

if_not : (b c : Bool) → (if b then false else c) ≡ true → c ≡ true
if_not true c h = absurd (false≢true h)
if_not false c h = h

mutual
  named_stands : (x : Name) (t : Tree) → named_outside x t ≡ true → has_name x (mentions t) ≡ true
  named_stands x (node l ss cs) h =
      in_either (if_not (declares x l) (has_name x (named_by l) || outside_in x cs) h) (λ k. in_left x (own_mention l) (mentions_among cs) (in_left x (named_by l) (declared_by_node l) k)) (λ k. below x l cs (named_among_stands x cs k))

  named_among_stands : (x : Name) (ts : Forest) → outside_in x ts ≡ true → has_name x (mentions_among ts) ≡ true
  named_among_stands x ε h = absurd (false≢true h)
  named_among_stands x (t ⊳ ts) h = in_either h (λ k. in_left x (mentions t) (mentions_among ts) (named_stands x t k)) (λ k. in_right x (mentions t) (mentions_among ts) (named_among_stands x ts k))

-- parameters

param_declared : (x : Name) (l : Label) → has_name x (param_name l) ≡ true → has_name x (declared_by_node l) ≡ true
param_declared x (tree.Param y) h = h
param_declared x l h = absurd (false≢true h)

params_declared : (x : Name) (ps : Forest) → has_name x (param_names ps) ≡ true → declared_among x ps ≡ true
params_declared x ε h = absurd (false≢true h)
params_declared x (node l ss cs ⊳ ts) h =
    in_either (sym (has_name_append x (param_name l) (param_names ts)) ∙ h)
    (λ k. or_left (has_name x (declared_by_node l) || declared_among x cs) (declared_among x ts) (or_left (has_name x (declared_by_node l)) (declared_among x cs) (param_declared x l k)))
    (λ k. or_right (has_name x (declared_by_node l) || declared_among x cs) (declared_among x ts) (params_declared x ts k))

own_declared : (x : Name) (cs : Forest) → has_name x (param_names (params_of cs)) ≡ true → declared_among x cs ≡ true
own_declared x ε h = absurd (false≢true h)
own_declared x (node tree.Params ss ps ⊳ ts) h = or_left (declared_among x ps) (declared_among x ts) (params_declared x ps h)
own_declared x (t ⊳ ts) h = or_right (declared_in x t) (declared_among x ts) (own_declared x ts h)

mutual
  argument_stands : (x : Name) (t : Tree) → is_argument x t ≡ true → has_name x (mentions t) ≡ true
  argument_stands x (node l ss cs) h =
      in_either h
      (λ k. below x l cs (declared_among_stands x cs (own_declared x cs ((and_parts (any_arguments cs) (has_name x (param_names (params_of cs))) ((and_parts (has_arguments l) (any_arguments cs && has_name x (param_names (params_of cs))) k).1)).1))))
      (λ k. below x l cs (argument_among_stands x cs k))

  argument_among_stands : (x : Name) (ts : Forest) → argument_among x ts ≡ true → has_name x (mentions_among ts) ≡ true
  argument_among_stands x ε h = absurd (false≢true h)
  argument_among_stands x (t ⊳ ts) h = in_either h (λ k. in_left x (mentions t) (mentions_among ts) (argument_stands x t k)) (λ k. in_right x (mentions t) (mentions_among ts) (argument_among_stands x ts k))

-- what `eval` sees

mutual
  eval_stands : (x : Name) (t : Tree) → seen_by_eval x t ≡ true → has_name x (mentions t) ≡ true
  eval_stands x (node l ss cs) h =
      in_either h
      (λ k. below x l cs (declared_among_stands x cs ((and_parts (any_eval cs) (declared_among x cs) ((and_parts (is_function l) (any_eval cs && declared_among x cs) k).1)).1)))
      (λ k. below x l cs (eval_among_stands x cs k))

  eval_among_stands : (x : Name) (ts : Forest) → eval_among x ts ≡ true → has_name x (mentions_among ts) ≡ true
  eval_among_stands x ε h = absurd (false≢true h)
  eval_among_stands x (t ⊳ ts) h = in_either h (λ k. in_left x (mentions t) (mentions_among ts) (eval_stands x t k)) (λ k. in_right x (mentions t) (mentions_among ts) (eval_among_stands x ts k))

-- exports

texts_named : (x : Name) (ns : List Name) → is_exported x (own_texts ns) ≡ true → has_name x ns ≡ true
texts_named x [] h = absurd (false≢true h)
texts_named x (y ∷ ys) h = in_either h (λ k. or_left (same_name x y) (has_name x ys) k) (λ k. or_right (same_name x y) (has_name x ys) (texts_named x ys k))

declarator_declared : (x : Name) (l : Label) → has_name x (declarator_name l) ≡ true → has_name x (declared_by_node l) ≡ true
declarator_declared x (tree.Declarator k y) h = h
declarator_declared x l h = absurd (false≢true h)

declarators_declared : (x : Name) (ds : Forest) → has_name x (declarator_names ds) ≡ true → declared_among x ds ≡ true
declarators_declared x ε h = absurd (false≢true h)
declarators_declared x (node l ss cs ⊳ ts) h =
    in_either (sym (has_name_append x (declarator_name l) (declarator_names ts)) ∙ h)
    (λ k. or_left (has_name x (declared_by_node l) || declared_among x cs) (declared_among x ts) (or_left (has_name x (declared_by_node l)) (declared_among x cs) (declarator_declared x l k)))
    (λ k. or_right (has_name x (declared_by_node l) || declared_among x cs) (declared_among x ts) (declarators_declared x ts k))

declaration_declared : (x : Name) (l : Label) (cs : Forest) → is_exported x (declared_exports l cs) ≡ true → (has_name x (declared_by_node l) || declared_among x cs) ≡ true
declaration_declared x (tree.VarDecl k) cs h = declarators_declared x cs (texts_named x (declarator_names cs) h)
declaration_declared x (tree.FnDecl f) cs h = or_left (same_name x f || false) (declared_among x cs) h
declaration_declared x l cs h = absurd (false≢true h)

specifier_named : (x : Name) (l : Label) → is_exported x (specifier_export l) ≡ true → has_name x (own_mention l) ≡ true
specifier_named x (tree.ExportSpecifier y t) h = h
specifier_named x l h = absurd (false≢true h)

specifiers_named : (x : Name) (cs : Forest) → is_exported x (specifier_exports cs) ≡ true → has_name x (mentions_among cs) ≡ true
specifiers_named x ε h = absurd (false≢true h)
specifiers_named x (node l ss cs ⊳ ts) h =
    in_either (sym (exported_append x (specifier_export l) (specifier_exports ts)) ∙ h)
    (λ k. in_left x (own_mention l ++ mentions_among cs) (mentions_among ts) (in_left x (own_mention l) (mentions_among cs) (specifier_named x l k)))
    (λ k. in_right x (own_mention l ++ mentions_among cs) (mentions_among ts) (specifiers_named x ts k))

default_none : (x : Name) {A : Type 0} → same_name x default_name ≡ false → (same_name x default_name || false) ≡ true → A
default_none x e h = absurd (false≢true (sym (ap (λ b. b || false) e) ∙ h))

item_stands : (x : Name) (l : Label) (cs : Forest) → same_name x default_name ≡ false → is_exported x (item_exports l cs) ≡ true → has_name x (own_mention l ++ mentions_among cs) ≡ true
item_stands x tree.ExportDecl ε e h = absurd (false≢true h)
item_stands x tree.ExportDecl (node l ss cs ⊳ ts) e h = declared_among_stands x (node l ss cs ⊳ ts) (or_left (has_name x (declared_by_node l) || declared_among x cs) (declared_among x ts) (declaration_declared x l cs h))
item_stands x tree.ExportNamed cs e h = specifiers_named x cs h
item_stands x (tree.ExportDefaultFn None) cs e h = default_none x e h
item_stands x (tree.ExportDefaultFn (Some f)) cs e h = in_left x (f ∷ []) (mentions_among cs) h
item_stands x tree.ExportDefaultExpr cs e h = default_none x e h
item_stands x l cs e h = absurd (false≢true h)

exported_stands : (x : Name) (t : Tree) → same_name x default_name ≡ false → is_exported x (exported (t ⊳ ε)) ≡ true → has_name x (mentions t) ≡ true
exported_stands x (node l ss cs) e h = in_either (sym (exported_append x (item_exports l cs) []) ∙ h) (λ k. item_stands x l cs e k) (λ k. absurd (false≢true k))

-- an item by itself

only : (b : Bool) → (b || false) ≡ true → b ≡ true
only true h = refl
only false h = h

pub noted_stands : (x : Name) (t : Tree) → same_name x default_name ≡ false → notes x t ≡ true → has_name x (mentions t) ≡ true
noted_stands x t e h =
    in_either (sym (notes_by x t) ∙ h) (λ k. named_stands x t (only (named_outside x t) k))
    (λ k. in_either k (exported_stands x t e) (λ m. in_either m (λ n. argument_stands x t (only (is_argument x t) n)) (λ n. eval_stands x t (only (seen_by_eval x t) n))))
