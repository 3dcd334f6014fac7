-- What the locals of a module tell of names and members is what is given for them.
use Rattle.std.proofs.Common.{◌≡◌, Bool, true, false, List, [], ◌∷◌, ◌++◌, if◌then◌else◌, Option, Some, None, option_map, refl, ap, ap₂, ◌∙◌, codes}
use Rattle.swc_ast.specs.Run.{imported_text}
use Rattle.swc_ast.specs.Tree.{Text, Name, same_name, Label, Import, ImportNamed, ImportDefault, ImportStar, Tree, node, Forest, ε, ◌⊳◌}
use Rattle.swc_pass.specs.Constants.{Constants, or_expression, by_specifier, by_namespace, in_specifiers, in_item, constant, member}
use Rattle.const_imports.specs.Locals.{Local, export_name, specifier_locals, specifiers_locals, item_locals, locals}
use Rattle.const_imports.specs.Views.{is_given, value_of, constants_of, group_of, of_text, or_value, value_at, member_at, constant_in, member_in}
use Rattle.const_imports.specs.declared.given.GivenModules.{GivenModules}
use Rattle.const_imports.specs.declared.table.Locals.{Locals}
use Rattle.const_imports.proofs.Grouped.{constant_grouped, member_grouped}

or_assoc : {V : Type 0} (a b c : Option V) → or_value a (or_value b c) ≡ or_value (or_value a b) c
or_assoc None b c = refl
or_assoc (Some v) b c = refl

or_none : {V : Type 0} (a : Option V) → or_value a None ≡ a
or_none None = refl
or_none (Some v) = refl

or_mapped : {V : Type 0} (f : V → Tree) (a b : Option V) → option_map f (or_value a b) ≡ or_expression (option_map f a) (option_map f b)
or_mapped f None b = refl
or_mapped f (Some v) b = refl

if_mapped : {V : Type 0} (f : V → Tree) (b : Bool) (o : Option V) → option_map f (or_value (if b then o else None) None) ≡ (if b then option_map f o else None)
if_mapped f true o = ap (option_map f) (or_none o)
if_mapped f false o = refl

if_none : {V : Type 0} (f : V → Tree) (b : Bool) → option_map f (or_value (if b then None else None) None) ≡ None
if_none f true = refl
if_none f false = refl

module _ {V : Type 0} (value : Text → Text → Option V) where
  constant_append : (xs ys : List Local) (x : Name) → constant_in value (xs ++ ys) x ≡ or_value (constant_in value xs x) (constant_in value ys x)
  constant_append [] ys x = refl
  constant_append (l ∷ xs) ys x =
      let own = if same_name l.name x then value_at value l.source (export_name l.imported) else None in
      ap (or_value own) (constant_append xs ys x) ∙ or_assoc own (constant_in value xs x) (constant_in value ys x)

  member_append : (xs ys : List Local) (x : Name) (m : Text) → member_in value (xs ++ ys) x m ≡ or_value (member_in value xs x m) (member_in value ys x m)
  member_append [] ys x m = refl
  member_append (l ∷ xs) ys x m =
      let own = if same_name l.name x then member_at value l.source l.imported m else None in
      ap (or_value own) (member_append xs ys x m) ∙ or_assoc own (member_in value xs x m) (member_in value ys x m)

module _ {V : Type 0} (tree : V → Tree) (g : GivenModules V) where
  abbrev K : Constants
  K = constants_of tree g

  -- names

  specifier_constant : (src : Text) (l : Label) (x : Name) → option_map tree (constant_in (value_of g) (specifier_locals src l) x) ≡ by_specifier K src l x
  specifier_constant src (ImportNamed y i) x = if_mapped tree (same_name y x) (value_of g src (imported_text y i))
  specifier_constant src (ImportDefault y) x = if_mapped tree (same_name y x) (value_of g src (codes "default"))
  specifier_constant src (ImportStar y) x = if_none tree (same_name y x)
  specifier_constant src l x = refl

  specifiers_constant : (src : Text) (ts : Forest) (x : Name) → option_map tree (constant_in (value_of g) (specifiers_locals src ts) x) ≡ in_specifiers K (λ s l. by_specifier K s l x) src ts
  specifiers_constant src ε x = refl
  specifiers_constant src (node l ss cs ⊳ ts) x =
      let v = value_of g in
      ap (option_map tree) (constant_append v (specifier_locals src l) (specifiers_locals src ts) x) ∙ or_mapped tree (constant_in v (specifier_locals src l) x) (constant_in v (specifiers_locals src ts) x)
      ∙ ap₂ or_expression (specifier_constant src l x) (specifiers_constant src ts x)

  item_constant : (l : Label) (cs : Forest) (x : Name) → option_map tree (constant_in (value_of g) (item_locals (is_given g) l cs) x) ≡ in_item K (λ s l. by_specifier K s l x) l cs
  item_constant (Import src) cs x = by (is_given g src)
    where
      by : (b : Bool) → option_map tree (constant_in (value_of g) (if b then specifiers_locals src cs else []) x) ≡ (if b then in_specifiers K (λ s l. by_specifier K s l x) src cs else None)
      by true = specifiers_constant src cs x
      by false = refl
  item_constant l cs x = refl

  pub constant_is : (items : Forest) (x : Name) → option_map tree (constant_in (value_of g) (locals (is_given g) items) x) ≡ constant K items x
  constant_is ε x = refl
  constant_is (node l ss cs ⊳ ts) x =
      let v = value_of g in
      ap (option_map tree) (constant_append v (item_locals (is_given g) l cs) (locals (is_given g) ts) x) ∙ or_mapped tree (constant_in v (item_locals (is_given g) l cs) x) (constant_in v (locals (is_given g) ts) x)
      ∙ ap₂ or_expression (item_constant l cs x) (constant_is ts x)

  -- members of names

  specifier_member : (src : Text) (l : Label) (x : Name) (m : Text) → option_map tree (member_in (value_of g) (specifier_locals src l) x m) ≡ by_namespace K src l x m
  specifier_member src (ImportNamed y i) x m = if_none tree (same_name y x)
  specifier_member src (ImportDefault y) x m = if_none tree (same_name y x)
  specifier_member src (ImportStar y) x m = if_mapped tree (same_name y x) (value_of g src m)
  specifier_member src l x m = refl

  specifiers_member : (src : Text) (ts : Forest) (x : Name) (m : Text) → option_map tree (member_in (value_of g) (specifiers_locals src ts) x m) ≡ in_specifiers K (λ s l. by_namespace K s l x m) src ts
  specifiers_member src ε x m = refl
  specifiers_member src (node l ss cs ⊳ ts) x m =
      let v = value_of g in
      ap (option_map tree) (member_append v (specifier_locals src l) (specifiers_locals src ts) x m) ∙ or_mapped tree (member_in v (specifier_locals src l) x m) (member_in v (specifiers_locals src ts) x m)
      ∙ ap₂ or_expression (specifier_member src l x m) (specifiers_member src ts x m)

  item_member : (l : Label) (cs : Forest) (x : Name) (m : Text) → option_map tree (member_in (value_of g) (item_locals (is_given g) l cs) x m) ≡ in_item K (λ s l. by_namespace K s l x m) l cs
  item_member (Import src) cs x m = by (is_given g src)
    where
      by : (b : Bool) → option_map tree (member_in (value_of g) (if b then specifiers_locals src cs else []) x m) ≡ (if b then in_specifiers K (λ s l. by_namespace K s l x m) src cs else None)
      by true = specifiers_member src cs x m
      by false = refl
  item_member l cs x m = refl

  pub member_is : (items : Forest) (x : Name) (m : Text) → option_map tree (member_in (value_of g) (locals (is_given g) items) x m) ≡ member K items x m
  member_is ε x m = refl
  member_is (node l ss cs ⊳ ts) x m =
      let v = value_of g in
      ap (option_map tree) (member_append v (item_locals (is_given g) l cs) (locals (is_given g) ts) x m) ∙ or_mapped tree (member_in v (item_locals (is_given g) l cs) x m) (member_in v (locals (is_given g) ts) x m)
      ∙ ap₂ or_expression (item_member l cs x m) (member_is ts x m)

  -- by a table of the locals

  module _ (t : Locals) (items : Forest) (h : (y : Text) → group_of t y ≡ of_text y (locals (is_given g) items)) where
    pub table_constant : (x : Name) → option_map tree (constant_in (value_of g) (group_of t x.text) x) ≡ constant K items x
    table_constant x = ap (λ ls. option_map tree (constant_in (value_of g) ls x)) (h x.text) ∙ ap (option_map tree) (constant_grouped (value_of g) (locals (is_given g) items) x) ∙ constant_is items x

    pub table_member : (x : Name) (m : Text) → option_map tree (member_in (value_of g) (group_of t x.text) x m) ≡ member K items x m
    table_member x m = ap (λ ls. option_map tree (member_in (value_of g) ls x m)) (h x.text) ∙ ap (option_map tree) (member_grouped (value_of g) (locals (is_given g) items) x m) ∙ member_is items x m
