-- Exports by name, by what a node is and its children.
use Rattle.std.proofs.Common.{◌≡◌, ℕ, ◌+◌, Bool, true, false, not, ◌&&◌, refl, sym, ap, ap₂, ◌∙◌, arith}
use Rattle.std.proofs.lemmas.Bool.{false≢true}
use Rattle.swc_ast.specs.Tree as tree
use Rattle.swc_ast.specs.Tree.{Name, Label, Tree, node, Forest, ε, ◌⊳◌, label_of, children_of}
use Rattle.swc_ast.specs.Scope.{module_binds}
use Rattle.swc_ast.specs.Resolved.{one_if, own_scopes, specifier_bound, exports_bound, own_exports_bound}
use Rattle.swc_resolved.specs.Names.{is_free}
use Rattle.swc_resolved.specs.Exports.{label_bound, is_export_named, item_bound, own_exports}

-- items and specifiers, one by one

first_item : (f : Name → Bool) (t : Tree) (ts : Forest) → exports_bound f (t ⊳ ts) ≡ (item_bound f t && exports_bound f ts)
first_item f (node tree.ExportNamed ss cs) ts = refl
first_item f (node l ss cs) ts = refl

first_specifier : (f : Name → Bool) (t : Tree) (ts : Forest) → specifier_bound f (t ⊳ ts) ≡ (label_bound f (label_of t) && specifier_bound f ts)
first_specifier f (node (tree.ExportSpecifier x o) ss cs) ts = refl
first_specifier f (node l ss cs) ts = refl

pub item_refused : (f : Name → Bool) (t : Tree) (ts us : Forest) (g : Bool) → us ≡ t ⊳ ts → item_bound f t ≡ false → exports_bound f us ≡ g → false ≡ g
item_refused f t ts us g is h e = sym (ap (exports_bound f) is ∙ first_item f t ts ∙ ap (λ b. b && exports_bound f ts) h) ∙ e

pub items_behind : (f : Name → Bool) (t : Tree) (ts us : Forest) (g : Bool) → us ≡ t ⊳ ts → item_bound f t ≡ true → exports_bound f us ≡ g → exports_bound f ts ≡ g
items_behind f t ts us g is h e = sym (ap (exports_bound f) is ∙ first_item f t ts ∙ ap (λ b. b && exports_bound f ts) h) ∙ e

pub specifier_refused : (f : Name → Bool) (t : Tree) (l : Label) (ts us : Forest) (g : Bool) → us ≡ t ⊳ ts → label_of t ≡ l → label_bound f l ≡ false → specifier_bound f us ≡ g → false ≡ g
specifier_refused f t l ts us g is labelled h e = sym (ap (specifier_bound f) is ∙ first_specifier f t ts ∙ ap (λ b. b && specifier_bound f ts) (ap (label_bound f) labelled ∙ h)) ∙ e

pub specifiers_behind : (f : Name → Bool) (t : Tree) (l : Label) (ts us : Forest) (g : Bool) → us ≡ t ⊳ ts → label_of t ≡ l → label_bound f l ≡ true → specifier_bound f us ≡ g → specifier_bound f ts ≡ g
specifiers_behind f t l ts us g is labelled h e = sym (ap (specifier_bound f) is ∙ first_specifier f t ts ∙ ap (λ b. b && specifier_bound f ts) (ap (label_bound f) labelled ∙ h)) ∙ e

-- an item

exporting : (f : Name → Bool) (t : Tree) → is_export_named (label_of t) ≡ true → specifier_bound f (children_of t) ≡ item_bound f t
exporting f (node tree.ExportNamed ss cs) h = refl
exporting f (node l ss cs) h = absurd (false≢true h)

other_item : (f : Name → Bool) (t : Tree) → is_export_named (label_of t) ≡ false → true ≡ item_bound f t
other_item f (node tree.ExportNamed ss cs) h = absurd (false≢true (sym h))
other_item f (node l ss cs) h = refl

pub item_exports : (f : Name → Bool) (t : Tree) (l : Label) (cs : Forest) → label_of t ≡ l → children_of t ≡ cs → is_export_named l ≡ true → specifier_bound f cs ≡ item_bound f t
item_exports f t l cs labelled held is = sym (ap (specifier_bound f) held) ∙ exporting f t (ap is_export_named labelled ∙ is)

pub item_plain : (f : Name → Bool) (t : Tree) (l : Label) → label_of t ≡ l → is_export_named l ≡ false → true ≡ item_bound f t
item_plain f t l labelled is = other_item f t (ap is_export_named labelled ∙ is)

-- what a module binds, as its own scope leaves it

same_specifiers : (f g : Name → Bool) → ((x : Name) → f x ≡ g x) → (ts : Forest) → specifier_bound f ts ≡ specifier_bound g ts
same_specifiers f g e ε = refl
same_specifiers f g e (node (tree.ExportSpecifier x o) ss cs ⊳ ts) = ap₂ ◌&&◌ (e x) (same_specifiers f g e ts)
same_specifiers f g e (node l ss cs ⊳ ts) = same_specifiers f g e ts

same_exports : (f g : Name → Bool) → ((x : Name) → f x ≡ g x) → (ts : Forest) → exports_bound f ts ≡ exports_bound g ts
same_exports f g e ε = refl
same_exports f g e (node tree.ExportNamed ss cs ⊳ ts) = ap₂ ◌&&◌ (same_specifiers f g e cs) (same_exports f g e ts)
same_exports f g e (node l ss cs ⊳ ts) = same_exports f g e ts

bound_here : (t f b : Bool) → one_if t ≡ one_if f + one_if b → (t && not f) ≡ b
bound_here true true true h = absurd (omega (arith, h))
bound_here true true false h = refl
bound_here true false true h = refl
bound_here true false false h = absurd (omega (arith, h))
bound_here false true b h = absurd (omega (arith, h))
bound_here false false true h = absurd (omega (arith, h))
bound_here false false false h = refl

module_scope : (x : Name) (cs : Forest) → own_scopes x tree.Module cs ≡ one_if (module_binds cs x)
unfolding own_scopes
module_scope x cs = refl

as_module : (f : Name → Bool) (t : Tree) → ((cs : Forest) → label_of t ≡ tree.Module → exports_bound f (children_of t) ≡ exports_bound (module_binds (children_of t)) (children_of t)) → own_exports f (label_of t) (children_of t) ≡ own_exports_bound t
as_module f (node tree.Module ss cs) h = h cs refl
as_module f (node l ss cs) h = refl

pub exports_are : (mark : ℕ) (old new : Name → Bool) (t : Tree) (l : Label) (cs : Forest) → label_of t ≡ l → children_of t ≡ cs → ((x : Name) → old x ≡ is_free mark x) → ((x : Name) → one_if (new x) ≡ one_if (old x) + own_scopes x l cs) → own_exports (λ x. new x && not (is_free mark x)) l cs ≡ own_exports_bound t
exports_are mark old new t l cs labelled held free bound =
    let f : Name → Bool = λ x. new x && not (is_free mark x) in
    sym (ap₂ (own_exports f) labelled held) ∙ as_module f t (λ ds is. same_exports f (module_binds (children_of t)) (λ x.
    bound_here (new x) (is_free mark x) (module_binds (children_of t) x)
    (bound x ∙ ap₂ (λ (b : Bool) (n : ℕ). one_if b + n) (free x) (sym (ap₂ (own_scopes x) labelled held) ∙ ap (λ k. own_scopes x k (children_of t)) is ∙ module_scope x (children_of t)))) (children_of t))
