-- A module without the imports of given modules, item by item.
use Rattle.std.proofs.Common.{◌≡◌, ◌<◌, Bool, true, false, List, [], ◌∷◌, ◌++◌, length, if◌then◌else◌, refl, sym, ap, ◌∙◌, arith}
use Rattle.swc_ast.specs.Modules.{item_tree}
use Rattle.swc_ast.specs.Parts.{list_trees}
use Rattle.swc_ast.specs.Scope.{joined}
use Rattle.swc_ast.specs.Tree.{Text, Label, Import, Module, Tree, node, Forest, ε, ◌⊳◌, label_of}
use Rattle.swc_ast.specs.declared.Span.{Span}
use Rattle.swc_ast.specs.declared.modules.ModuleItem.{ModuleItem}
use Rattle.swc_pass.specs.Constants.{Constants, is_given_import, without_given}
use Rattle.const_imports.specs.Locals.{given_label}

joined_end : (ts : Forest) → joined ts ε ≡ ts
joined_end ε = refl
joined_end (t ⊳ ts) = ap (λ us. t ⊳ us) (joined_end ts)

-- one item more
pushed : (xs : List ModuleItem) (x : ModuleItem) (us : Forest) → joined (list_trees item_tree (xs ++ x ∷ [])) us ≡ joined (list_trees item_tree xs) (item_tree x ⊳ us)
pushed [] x us = refl
pushed (y ∷ xs) x us = ap (λ ts. item_tree y ⊳ ts) (pushed xs x us)

module _ (k : Constants) (f : Text → Bool) (same : k.is_given ≡ f) where
  label_same : (l : Label) → is_given_import k l ≡ given_label f l
  label_same (Import src) = ap (λ g. g src) same
  label_same l = refl

  split : (t : Tree) (ts : Forest) → without_given k (t ⊳ ts) ≡ (if given_label f (label_of t) then without_given k ts else t ⊳ without_given k ts)
  split (node l ss cs) ts = ap (λ b. if b then without_given k ts else node l ss cs ⊳ without_given k ts) (label_same l)

  taken : (t : Tree) (ts : Forest) (b : Bool) → given_label f (label_of t) ≡ b → without_given k (t ⊳ ts) ≡ (if b then without_given k ts else t ⊳ without_given k ts)
  taken t ts b e = split t ts ∙ ap (λ c. if c then without_given k ts else t ⊳ without_given k ts) e

  -- an item that stays, and one that goes
  pub kept : (xs ys : List ModuleItem) (x : ModuleItem) (t : Tree) (ts : Forest) → false ≡ given_label f (label_of t) → item_tree x ≡ t → ys ≡ xs ++ x ∷ [] → joined (list_trees item_tree ys) (without_given k ts) ≡ joined (list_trees item_tree xs) (without_given k (t ⊳ ts))
  kept xs ys x t ts e copy made =
      ap (λ zs. joined (list_trees item_tree zs) (without_given k ts)) made ∙ pushed xs x (without_given k ts)
      ∙ ap (λ u. joined (list_trees item_tree xs) (u ⊳ without_given k ts)) copy ∙ ap (joined (list_trees item_tree xs)) (sym (taken t ts false (sym e)))

  pub gone : (xs : List ModuleItem) (t : Tree) (ts : Forest) → true ≡ given_label f (label_of t) → joined (list_trees item_tree xs) (without_given k ts) ≡ joined (list_trees item_tree xs) (without_given k (t ⊳ ts))
  gone xs t ts e = ap (joined (list_trees item_tree xs)) (sym (taken t ts true (sym e)))

-- no item is left
pub all_taken : (k : Constants) (ss : List Span) (xs left : List ModuleItem) (g : Forest) → length left < 1 → joined (list_trees item_tree xs) (without_given k (list_trees item_tree left)) ≡ g → node Module ss (list_trees item_tree xs) ≡ node Module ss g
all_taken k ss xs [] g none h = ap (node Module ss) (sym (joined_end (list_trees item_tree xs)) ∙ h)
all_taken k ss xs (x ∷ left) g none h = absurd (omega (arith, none))
