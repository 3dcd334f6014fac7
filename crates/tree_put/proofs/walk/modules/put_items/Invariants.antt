use Rattle.std.proofs.Common.{◌≡◌, ℕ, ◌≤◌, length, get_or, take}
use Rattle.swc_ast.specs.Modules.{item_tree}
use Rattle.swc_ast.specs.declared.modules.ModuleItem.{ModuleItem}
use Rattle.tree_put.specs.Walks.{EachGoes}
use Rattle.tree_put.proofs.walk.modules.put_items.Given as goal

abbrev pub invariant-loop-i : goal.invariant-loop-i
invariant-loop-i g l = ((length l.items.items ≡ length l.initial.items.items) × ((k : ℕ) (d : ModuleItem) → l.i ≤ k → get_or l.items.items k d ≡ get_or l.initial.items.items k d)) × EachGoes (g.P.Puts.puts) item_tree (g.P.Puts.state l.initial.rules) (take l.i l.initial.items.items) (take l.i l.items.items) (g.P.Puts.state l.rules)
