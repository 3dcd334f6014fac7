-- Names that stand in lists.
use Rattle.std.proofs.Common.{◌≡◌, Bool, List, [], ◌++◌, sym, ap, ◌∙◌}
use Rattle.swc_ast.specs.Tree.{Name, Label, Tree, node, Forest, ε, ◌⊳◌, label_of, children_of}
use Rattle.dce_uses.specs.declared.tally.Fact.{Fact}
use Rattle.dce_uses.specs.declared.listed.Part.{Part}
use Rattle.dce_uses.specs.declared.table.Table.{Table}
use Rattle.dce_uses.specs.Listed.{listed_name, listed}
use Rattle.dce_uses.specs.Exports.{declaration_names, first_names}
use Rattle.dce_uses.specs.Tables.{Notes}
use Rattle.dce_uses.proofs.Adding.{Going, noted_apart, none_named, goes_on, ends}
use Rattle.dce_uses.proofs.Counting.{alone}

-- names in a row: the first of them were noted

-- what is left to note
abbrev pub Left : Table → Table → (Fact → Bool) → List Name → List Name → Type 0
Left u v g all left = Going u v (alone g all) (alone g left)

pub more_names : (u v w : Table) (g : Fact → Bool) (all left here rest : List Name) → left ≡ here ++ rest → Notes v w (alone g here) → Left u v g all left → Left u w g all rest
more_names u v w g all left here rest split h k = goes_on u v w (alone g all) (alone g here) (alone g rest) (alone g left) (λ f x. ap (λ xs. alone g xs f x) split ∙ noted_apart g f x here rest) h k

pub no_more_names : (u v : Table) (g : Fact → Bool) (all left : List Name) → left ≡ [] → Left u v g all left → Notes u v (alone g all)
no_more_names u v g all left none k = ends u v (alone g all) (alone g left) (λ f x. none_named g f x left none) k

-- lists

pub listed_split : (p : Part) (t : Tree) (ts us : Forest) (l : Label) (xs : List Name) → us ≡ t ⊳ ts → label_of t ≡ l → xs ≡ listed_name p l → listed p us ≡ xs ++ listed p ts
listed_split p (node l ss cs) ts us k xs is labelled named = ap (listed p) is ∙ ap (λ m. listed_name p m ++ listed p ts) labelled ∙ ap (λ ys. ys ++ listed p ts) (sym named)

pub listed_none : (p : Part) (us : Forest) → us ≡ ε → listed p us ≡ []
listed_none p us is = ap (listed p) is

-- the declaration of an item

pub first_as : (t : Tree) (ts us cs : Forest) (l : Label) → us ≡ t ⊳ ts → label_of t ≡ l → children_of t ≡ cs → first_names us ≡ declaration_names l cs
first_as (node l ss cs) ts us ds k is labelled held = ap first_names is ∙ ap (λ m. declaration_names m cs) labelled ∙ ap (declaration_names k) held
