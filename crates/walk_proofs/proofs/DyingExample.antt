-- `function f() { return; let x = 1; function g() { return x; } }` does the same without the declaration of x.
use Rattle.std.proofs.Common.{ℕ, pos, true, [], ◌∷◌, refl, codes}
use Rattle.swc_ast.specs.declared.VarDeclKind.TheVariants.{Let}
use Rattle.swc_ast.specs.Tree.{Name, FnDecl, Params, Body, Return, VarDecl, Declarator, NumLit, Read, Script, Tree, node, Forest, ε, ◌⊳◌}
use Rattle.swc_ast.specs.Core.{IsCore}
use Rattle.swc_ast.specs.Resolved.{IsResolved}
use Rattle.swc_ast.specs.Run.{Same}
use Rattle.swc_ast.specs.Valid.{is_identifier}
use Rattle.meaning_proofs.proofs.DeadCode.{ends_return, ends_stops}
use Rattle.meaning_proofs.proofs.Laws.{list_exact_itself, same_lists_itself}
use Rattle.static_proofs.specs.Shaped.{IsShaped}
use Rattle.tree_walk.specs.Pass.{Pass}
use Rattle.tree_walk.specs.Walks.{closed, passes, plain, block, listed, tidied, Whole, whole, nothing, both}
use Rattle.walk_proofs.specs.Plain.{NodeRight}
use Rattle.walk_proofs.specs.Dying.{sheds_none, item_stays, item_stops, item_goes, ListRight, OpenRight, DyingRight}
use Rattle.walk_proofs.proofs.Dying.{dying_same}

-- a pass that may take each right step
abbrev any_pass : ℕ → Pass
any_pass mark = record { opens = OpenRight mark; steps = NodeRight mark; rests = λ t. Unit {0}; tidies = ListRight mark; tidy = λ l ts. Unit {0}; skips = λ t. Unit {0} }

any_right : (mark : ℕ) → DyingRight (any_pass mark) mark
any_right mark = record { open_right = λ t u s. s; node_right = λ t u s. s; list_right = λ l ts vs m. m }

abbrev f : Name
f = record { text = codes "f"; context = 2 }

abbrev g : Name
g = record { text = codes "g"; context = 3 }

abbrev x : Name
x = record { text = codes "x"; context = 3 }

abbrev returns : Tree
returns = node Return [] ε

abbrev declares_x : Tree
declares_x = node (VarDecl Let) [] (node (Declarator Let x) [] (node (NumLit (pos 1)) [] ε ⊳ ε) ⊳ ε)

abbrev function_g : Tree
function_g = node (FnDecl g) [] (node Params [] ε ⊳ node Body [] (node Return [] (node (Read x) [] ε ⊳ ε) ⊳ ε) ⊳ ε)

abbrev function_f : Forest → Tree
function_f ts = node Script [] (node (FnDecl f) [] (node Params [] ε ⊳ node Body [] ts ⊳ ε) ⊳ ε)

abbrev before : Tree
before = function_f (returns ⊳ declares_x ⊳ function_g ⊳ ε)

abbrev after : Tree
after = function_f (returns ⊳ function_g ⊳ ε)

without_x : ListRight 1 Body (returns ⊳ declares_x ⊳ function_g ⊳ ε) (returns ⊳ function_g ⊳ ε)
without_x = record {
  names = x ∷ [];
  between = returns ⊳ function_g ⊳ ε;
  sheds = item_stops (ends_stops 1 (ends_return 1 [] ε)) (item_goes refl refl (item_stays sheds_none));
  exact = list_exact_itself 1 (returns ⊳ function_g ⊳ ε);
  declares = same_lists_itself (returns ⊳ function_g ⊳ ε);
  items = λ e. refl;
}

walk : Whole (any_pass 1) true before after
walk = whole refl (listed (both (passes refl (plain refl (both (closed tt) (both (passes refl (block refl (tidied (both (closed tt) (both (closed tt) (both (closed tt) nothing))) without_x))) nothing)))) nothing) tt)

core : IsCore before
unfolding is_identifier
core = record { is_valid = refl; fits_core = refl }

shaped : IsShaped before
shaped = record { shaped = refl }

example : IsResolved 1 before → Same 1 true before after
example r = dying_same 1 (any_right 1) true r core shaped walk
