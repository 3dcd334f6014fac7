-- Items of a module, noted one after another.
use Rattle.std.proofs.Common.{◌≡◌, ◌≤◌, ◌<◌, ◌-◌, Bool, ◌||◌, ◌&&◌, List, [], ◌∷◌, length, take, drop, get_or, refl, sym, ap, ap₂, subst, ◌∙◌, arith}
use Rattle.std.proofs.lemmas.List.{nil_from_length}
use Rattle.swc_ast.specs.declared.Span.{Span}
use Rattle.swc_ast.specs.Modules.{item_tree, module_tree}
use Rattle.swc_ast.specs.Parts.{list_trees}
use Rattle.swc_ast.specs.declared.modules.Module.{Module}
use Rattle.swc_ast.specs.declared.modules.ModuleItem.{ModuleItem}
use Rattle.swc_ast.specs.Tree as tree
use Rattle.swc_ast.specs.Tree.{Name, Label, same_name, Tree, node, Forest, ε, ◌⊳◌, label_of, children_of}
use Rattle.swc_ast.specs.Scope.{has_name, default_name}
use Rattle.dce_uses.specs.declared.tally.Fact.{Fact}
use Rattle.dce_uses.specs.declared.tally.Fact.TheVariants as fact
use Rattle.dce_uses.specs.declared.table.Table.{Table}
use Rattle.dce_uses.specs.declared.uses.Uses.{Uses}
use Rattle.dce_uses.specs.Noted.{is_hiding, noted, noted_among, at_top}
use Rattle.dce_uses.specs.Exports.{item_names, exported_names, is_nameless_export, any_nameless}
use Rattle.dce_uses.specs.Items.{item_says, IsUnused, NotesItem}
use Rattle.dce_uses.specs.Tables.{IsNumbered, Notes, Tells, fact_of}
use Rattle.dce_uses.proofs.Adding.{next, or_false, or_grouped, and_false, noted_apart}
use Rattle.dce_uses.proofs.Counting.{alone}
use Rattle.dce_uses.proofs.Retaining.{first_left}
use Rattle.dce_uses.proofs.Telling.{or_mix}
use Rattle.dce_uses.proofs.Told.{exported_as, tells}

-- what items say of a name
abbrev pub items_say : Forest → Fact → Name → Bool
items_say ts f x = noted_among f x at_top ts || alone is_hiding (exported_names ts) f x

-- what was noted, with what the items that are left say, is what all of them say
pub record NotedSo (u : Uses) (left all : Forest) : Type 0 where
  pub numbered : IsNumbered u.table
  pub facts : (f : Fact) (x : Name) → (fact_of u.table f x || items_say left f x) ≡ items_say all f x
  pub default : (u.exports_default || any_nameless left) ≡ any_nameless all

-- nothing was noted
pub begins : (u : Uses) (all : Forest) → IsUnused u → NotedSo u all all
begins u all none = record {
  numbered = none.table.numbered;
  facts = λ f x. ap (λ b. b || items_say all f x) (none.table.facts f x);
  default = ap (λ b. b || any_nameless all) none.default;
}

-- what the first of some items says, and what the others say
items_split : (f : Fact) (x : Name) (t : Tree) (ts us cs : Forest) (l : Label) → us ≡ t ⊳ ts → label_of t ≡ l → children_of t ≡ cs → items_say us f x ≡ (item_says l cs f x || items_say ts f x)
items_split f x (node k ss ds) ts us cs l is labelled held =
    ap (λ vs. items_say vs f x) is
    ∙ ap (λ b. (noted f x at_top (node k ss ds) || noted_among f x at_top ts) || b) (noted_apart is_hiding f x (item_names k ds) (exported_names ts))
    ∙ or_mix (noted f x at_top (node k [] ds)) (noted_among f x at_top ts) (alone is_hiding (item_names k ds) f x) (alone is_hiding (exported_names ts) f x)
    ∙ ap₂ (λ m vs. item_says m vs f x || items_say ts f x) labelled held

-- default exports without a name, the first item apart
nameless_split : (t : Tree) (ts us : Forest) (l : Label) → us ≡ t ⊳ ts → label_of t ≡ l → any_nameless us ≡ (is_nameless_export l || any_nameless ts)
nameless_split (node k ss cs) ts us l is labelled = ap any_nameless is ∙ ap (λ m. is_nameless_export m || any_nameless ts) labelled

-- one item more
pub goes_on : (u v : Uses) (t : Tree) (ts us all cs : Forest) (l : Label) → us ≡ t ⊳ ts → label_of t ≡ l → children_of t ≡ cs → NotesItem u v l cs → NotedSo u us all → NotedSo v ts all
goes_on u v t ts us all cs l is labelled held notes h = record {
  numbered = notes.table.numbered h.numbered;
  facts = λ f x.
      ap (λ b. b || items_say ts f x) (notes.table.facts h.numbered f x) ∙ or_grouped (fact_of u.table f x) (item_says l cs f x) (items_say ts f x)
      ∙ ap (λ b. fact_of u.table f x || b) (sym (items_split f x t ts us cs l is labelled held)) ∙ h.facts f x;
  default =
      ap (λ b. b || any_nameless ts) notes.default ∙ or_grouped u.exports_default (is_nameless_export l) (any_nameless ts)
      ∙ ap (λ b. u.exports_default || b) (sym (nameless_split t ts us l is labelled)) ∙ h.default;
}

-- an item by itself: what its parts say, and what it exports
pub item_noted : (u v : Uses) (counted : Table) (l : Label) (cs : Forest) → Notes u.table counted (λ f x. noted f x at_top (node l [] cs)) → Notes counted v.table (alone is_hiding (item_names l cs)) → v.exports_default ≡ (u.exports_default || is_nameless_export l) → NotesItem u v l cs
item_noted u v counted l cs counts exports nameless = record {
  table = next u.table counted v.table (λ f x. noted f x at_top (node l [] cs)) (alone is_hiding (item_names l cs)) counts exports;
  default = nameless;
}

-- a module says by itself nothing
in_module : (f : Fact) (x : Name) (ss : List Span) (ts : Forest) → noted f x at_top (node tree.Module ss ts) ≡ noted_among f x at_top ts
in_module fact.Used x ss ts = or_false _
in_module fact.Written x ss ts = or_false _
in_module fact.Abroad x ss ts = or_false _
in_module fact.Declared x ss ts = or_false _
in_module fact.Held x ss ts = or_false _
in_module fact.Hidden x ss ts = or_false _

-- no item is left
pub ends : (u : Uses) (left all : Forest) → left ≡ ε → NotedSo u left all → (ss : List Span) → Tells u (node tree.Module ss all)
ends u left all none h ss =
    tells u (node tree.Module ss all) (λ x. has_name x (exported_names all))
    (λ f x. sym (ap (λ vs. fact_of u.table f x || items_say vs f x) none ∙ ap (λ b. fact_of u.table f x || b) (and_false (is_hiding f)) ∙ or_false (fact_of u.table f x)) ∙ h.facts f x
    ∙ ap (λ b. b || alone is_hiding (exported_names all) f x) (sym (in_module f x ss all)))
    (λ x. exported_as x all ∙ ap (λ b. has_name x (exported_names all) || (b && same_name x default_name)) (sym unnamed))
  where
    unnamed : u.exports_default ≡ any_nameless all
    unnamed = sym (ap (λ vs. u.exports_default || any_nameless vs) none ∙ or_false u.exports_default) ∙ h.default

-- what stands for items, in a list

pub item_past : {X : Type 0} (f : X → ModuleItem) (u v : Uses) (left : List X) (x : X) (all : Forest) (l : Label) (cs : Forest) → 1 ≤ length left → x ≡ get_or left 0 x → label_of (item_tree (f x)) ≡ l → children_of (item_tree (f x)) ≡ cs → NotesItem u v l cs
    → NotedSo u (list_trees (λ y. item_tree (f y)) left) all → NotedSo v (list_trees (λ y. item_tree (f y)) (take (length left - 1) (drop 1 left))) all
item_past f u v left x all l cs some is labelled held notes h =
    let rest = take (length left - 1) (drop 1 left) in
    goes_on u v (item_tree (f x)) (list_trees (λ y. item_tree (f y)) rest) (list_trees (λ y. item_tree (f y)) left) all cs l (ap (list_trees (λ y. item_tree (f y))) (first_left left x some is)) labelled held notes h

pub items_past : {X : Type 0} (f : X → ModuleItem) (u : Uses) (left : List X) (all : Forest) → length left < 1 → NotedSo u (list_trees (λ y. item_tree (f y)) left) all → (ss : List Span) → Tells u (node tree.Module ss all)
items_past f u left all none h ss = ends u (list_trees (λ y. item_tree (f y)) left) all (ap (list_trees (λ y. item_tree (f y))) (nil_from_length left (omega (arith, none)))) h ss

-- the items of a module
pub module_told : (u : Uses) (m : Module) (xs : List ModuleItem) → xs ≡ m.body.items → ((ss : List Span) → Tells u (node tree.Module ss (list_trees item_tree xs))) → Tells u (module_tree m)
module_told u m xs is h = subst (λ ys. Tells u (node tree.Module (m.span ∷ []) (list_trees item_tree ys))) is (h (m.span ∷ []))

-- an item by itself
pub item_told : (u v : Uses) (t : Tree) (l : Label) (cs : Forest) → IsUnused u → label_of t ≡ l → children_of t ≡ cs → NotesItem u v l cs → Tells v (node tree.Module [] (t ⊳ ε))
item_told u v t l cs none labelled held notes = ends v ε (t ⊳ ε) refl (goes_on u v t ε (t ⊳ ε) (t ⊳ ε) cs l refl labelled held notes (begins u (t ⊳ ε) none)) []
