-- The parameters and the body of a function, as a walk over its children finds them.
use Rattle.std.proofs.Common.{◌≡◌, Bool, true, false, refl, sym, ap, ◌∙◌}
use Rattle.std.specs.Prelude.{◌||◌, if◌then◌else◌}
use Rattle.swc_ast.specs.Tree as tree
use Rattle.swc_ast.specs.Tree.{Label, Tree, node, Forest, ε, ◌⊳◌, label_of, children_of}
use Rattle.swc_ast.specs.Resolved.{has_default}
use Rattle.swc_resolved.specs.declared.functions.Half.{Half}
use Rattle.swc_resolved.specs.declared.functions.Half.TheVariants as half
use Rattle.swc_resolved.specs.Scopes.{half_of, is_half, is_defaulted}

first_half : (h : Half) (t : Tree) (ts : Forest) → half_of h (t ⊳ ts) ≡ (if is_half h (label_of t) then children_of t else half_of h ts)
first_half half.Params (node tree.Params ss cs) ts = refl
first_half half.Params (node l ss cs) ts = refl
first_half half.Body (node tree.Body ss cs) ts = refl
first_half half.Body (node l ss cs) ts = refl

half_as : (h : Half) (b : Bool) (t : Tree) (ts us cs : Forest) (l : Label) → us ≡ t ⊳ ts → label_of t ≡ l → children_of t ≡ cs → is_half h l ≡ b → half_of h us ≡ (if b then cs else half_of h ts)
half_as h b t ts us cs l is labelled held test = ap (half_of h) is ∙ first_half h t ts ∙ cc (labelled, held, test)

pub half_here : (h : Half) (t : Tree) (ts us cs : Forest) (l : Label) (g : Forest) → us ≡ t ⊳ ts → label_of t ≡ l → children_of t ≡ cs → is_half h l ≡ true → half_of h us ≡ g → cs ≡ g
half_here h t ts us cs l g is labelled held test e = sym (half_as h true t ts us cs l is labelled held test) ∙ e

pub half_behind : (h : Half) (t : Tree) (ts us : Forest) (l : Label) (g : Forest) → us ≡ t ⊳ ts → label_of t ≡ l → is_half h l ≡ false → half_of h us ≡ g → half_of h ts ≡ g
half_behind h t ts us l g is labelled test e = sym (half_as h false t ts us (children_of t) l is labelled refl test) ∙ e

half_of_none : (h : Half) → half_of h ε ≡ ε
half_of_none half.Params = refl
half_of_none half.Body = refl

pub no_half : (h : Half) (us g : Forest) → us ≡ ε → half_of h us ≡ g → us ≡ g
no_half h us g is e = is ∙ sym (half_of_none h) ∙ sym (ap (half_of h) is) ∙ e

first_default : (t : Tree) (ts : Forest) → has_default (t ⊳ ts) ≡ (is_defaulted (label_of t) (children_of t) || has_default ts)
first_default (node (tree.Param x) ss (d ⊳ ds)) ts = refl
first_default (node (tree.Param x) ss ε) ts = refl
first_default (node l ss cs) ts = refl

default_as : (b : Bool) (t : Tree) (ts us cs : Forest) (l : Label) → us ≡ t ⊳ ts → label_of t ≡ l → children_of t ≡ cs → is_defaulted l cs ≡ b → has_default us ≡ (b || has_default ts)
default_as b t ts us cs l is labelled held test = ap has_default is ∙ first_default t ts ∙ cc (labelled, held, test)

pub default_here : (t : Tree) (ts us cs : Forest) (l : Label) (g : Bool) → us ≡ t ⊳ ts → label_of t ≡ l → children_of t ≡ cs → is_defaulted l cs ≡ true → has_default us ≡ g → true ≡ g
default_here t ts us cs l g is labelled held test e = sym (default_as true t ts us cs l is labelled held test) ∙ e

pub default_behind : (t : Tree) (ts us cs : Forest) (l : Label) (g : Bool) → us ≡ t ⊳ ts → label_of t ≡ l → children_of t ≡ cs → is_defaulted l cs ≡ false → has_default us ≡ g → has_default ts ≡ g
default_behind t ts us cs l g is labelled held test e = sym (default_as false t ts us cs l is labelled held test) ∙ e
