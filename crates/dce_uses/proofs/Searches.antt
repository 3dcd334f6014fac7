-- A function's parameters, looked for among its children.
use Rattle.std.proofs.Common.{◌≡◌, ℕ, ◌<◌, ◌≤◌, true, false, refl, sym, ap, ◌∙◌, arith}
use Rattle.std.specs.Prelude.{if◌then◌else◌}
use Rattle.swc_ast.specs.Tree.{Label, Params, Tree, node, Forest, ε, ◌⊳◌, label_of, children_of}
use Rattle.swc_ast.specs.Resolved.{params_of}
use Rattle.swc_ast.specs.Labels.{is_params}
use Rattle.tree_visit.proofs.Caps.{forest_size, opened_smaller}

-- how large what is left is

pub inner_falls : (t : Tree) (ts us cs : Forest) (n : ℕ) → us ≡ t ⊳ ts → children_of t ≡ cs → forest_size us ≤ n → forest_size cs < n
inner_falls t ts us cs n is held h = let smaller = opened_smaller t cs held in omega (arith, smaller, ap forest_size is, h)

pub rest_within : (t : Tree) (ts us : Forest) (n : ℕ) → us ≡ t ⊳ ts → forest_size us ≤ n → forest_size ts ≤ n
rest_within t ts us n is h = omega (arith, ap forest_size is, h)

-- parameters

params_split : (t : Tree) (ts us cs : Forest) (l : Label) → us ≡ t ⊳ ts → label_of t ≡ l → children_of t ≡ cs → params_of us ≡ (if is_params l then cs else params_of ts)
params_split (node Params ss cs) ts us ds k is labelled held = ap params_of is ∙ cc (labelled, held)
params_split (node l ss cs) ts us ds k is labelled held = ap params_of is ∙ ap (λ m. if is_params m then ds else params_of ts) labelled

pub params_here : (t : Tree) (ts us cs : Forest) (l : Label) (g : Forest) → us ≡ t ⊳ ts → label_of t ≡ l → children_of t ≡ cs → is_params l ≡ true → params_of us ≡ g → cs ≡ g
params_here t ts us cs l g is labelled held found h = sym (params_split t ts us cs l is labelled held ∙ ap (λ b. if b then cs else params_of ts) found) ∙ h

pub params_behind : (t : Tree) (ts us : Forest) (l : Label) (g : Forest) → us ≡ t ⊳ ts → label_of t ≡ l → is_params l ≡ false → params_of us ≡ g → params_of ts ≡ g
params_behind t ts us l g is labelled none h = sym (params_split t ts us (children_of t) l is labelled refl ∙ ap (λ b. if b then children_of t else params_of ts) none) ∙ h

pub no_params : (us g : Forest) → us ≡ ε → params_of us ≡ g → us ≡ g
no_params us g is h = is ∙ sym (ap params_of is) ∙ h
