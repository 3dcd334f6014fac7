-- The names of nodes and of lists, one by one.
use Rattle.std.proofs.Common.{◌≡◌, true, List, [], ◌++◌, refl, sym, ap, ◌∙◌}
use Rattle.std.proofs.lemmas.List.{append_assoc}
use Rattle.std.specs.Prelude.{if◌then◌else◌}
use Rattle.swc_ast.specs.declared.VarDeclKind.TheVariants.{Var, Let, Const}
use Rattle.swc_ast.specs.Tree as tree
use Rattle.swc_ast.specs.Tree.{Name, Label, Tree, node, Forest, ε, ◌⊳◌}
use Rattle.swc_ast.specs.Scope.{vars, vars_all, own_vars, holds_statements}
use Rattle.swc_names.specs.declared.gather.Choice.{Choice}
use Rattle.swc_names.specs.declared.gather.Choice.TheVariants as choice
use Rattle.swc_names.specs.Names.{front_names, behind_names, enters, opened_names, names_in, names_among}

-- the first child is still to be read
pub starts : (c : Choice) (l : Label) (cs : Forest) (xs new : List Name) → new ≡ xs ++ front_names c l → enters c l ≡ true → new ++ names_among c (behind_names c l) cs ≡ xs ++ opened_names c l cs
starts c l cs xs new made is = ap (λ ys. ys ++ names_among c (behind_names c l) cs) made ∙ append_assoc xs (front_names c l) (names_among c (behind_names c l) cs) ∙ ap (λ b. xs ++ (front_names c l ++ (if b then names_among c (behind_names c l) cs else []))) (sym is)

-- no child is left
pub ends : (c : Choice) (us : Forest) (w xs g : List Name) → us ≡ ε → xs ++ names_among c w us ≡ g → xs ++ w ≡ g
ends c us w xs g is h = sym (ap (λ vs. xs ++ names_among c w vs) is) ∙ h

-- sizes

-- `var` names, as the scopes of functions have them

asked : (l : Label) → front_names choice.Vars l ≡ own_vars l
asked (tree.Declarator Var x) = refl
asked (tree.Declarator Let x) = refl
asked (tree.Declarator Const x) = refl
asked l = refl

mutual
  vars_in : (t : Tree) → names_in choice.Vars t ≡ vars t
  vars_in (node l ss cs) = cc (asked l, ap (λ xs. if holds_statements l then xs else []) (vars_among cs))

  pub vars_among : (ts : Forest) → names_among choice.Vars [] ts ≡ vars_all ts
  vars_among ε = refl
  vars_among (t ⊳ ts) = cc (vars_in t, vars_among ts)
