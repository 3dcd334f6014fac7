use Rattle.std.proofs.Common.{rules, subst, ◌≡◌, ◌∷◌, ◌++◌}
use Rattle.std.specs.declared.cmp.Ordering.TheVariants.{Less, Equal, Greater}
use Rattle.swc_ast.specs.Views.{expr_tree}
use Rattle.swc_expr_map.specs.Order.{key_cmp}
use Rattle.swc_expr_map.specs.Entries.{key_of, IsSorted}
use Rattle.swc_expr_map.proofs.Rising.{round_in, shorter}
use Rattle.swc_expr_map.proofs.Found.{found_left, found_here, found_right}
use Rattle.swc_expr_map.proofs.search_tree.SearchTree.+get.Goals as goal

pub get-requires-in-Greater : goal.get-requires-in-Greater
get-requires-in-Greater t c =
    let b = c.in-Some.branch.value in
    let is : c.args.self.now ≡ b.left ++ b.entry ∷ b.right = cc (c.self.view_is, c.in-Some.is) in
    let round = round_in b.left b.entry b.right is c.requires in
    let less = shorter b.left b.entry b.right is in
    let at : b.right ≡ c.deref-in-Greater.result.now.right = cc (c.deref-in-Greater.ensures) in
    (search rules, subst IsSorted at round.right)

pub returns-in-Less : goal.returns-in-Less
returns-in-Less t c =
    let b = c.in-Some.branch.value in
    let is : c.args.self.now ≡ b.left ++ b.entry ∷ b.right = cc (c.self.view_is, c.in-Some.is) in
    let round = round_in b.left b.entry b.right is c.requires in
    let less : key_cmp (expr_tree c.args.key.now) (key_of b.entry) ≡ Less = cc (c.compare.ensures, c.in-Less.is, c.deref.ensures) in
    cc (found_left (expr_tree c.args.key.now) b.left b.entry b.right round less, is, c.get.ensures, c.deref-in-Less.ensures)

pub returns-in-Equal : goal.returns-in-Equal
returns-in-Equal t c =
    let b = c.in-Some.branch.value in
    let is : c.args.self.now ≡ b.left ++ b.entry ∷ b.right = cc (c.self.view_is, c.in-Some.is) in
    let round = round_in b.left b.entry b.right is c.requires in
    let equal : key_cmp (expr_tree c.args.key.now) (key_of b.entry) ≡ Equal = cc (c.compare.ensures, c.in-Equal.is, c.deref.ensures) in
    cc (found_here (expr_tree c.args.key.now) b.left b.entry b.right round equal, is, c.deref-in-Equal.ensures)

pub returns-in-Greater : goal.returns-in-Greater
returns-in-Greater t c =
    let b = c.in-Some.branch.value in
    let is : c.args.self.now ≡ b.left ++ b.entry ∷ b.right = cc (c.self.view_is, c.in-Some.is) in
    let round = round_in b.left b.entry b.right is c.requires in
    let greater : key_cmp (expr_tree c.args.key.now) (key_of b.entry) ≡ Greater = cc (c.compare.ensures, c.in-Greater.is, c.deref.ensures) in
    cc (found_right (expr_tree c.args.key.now) b.left b.entry b.right round greater, is, c.get-in-Greater.ensures, c.deref-in-Greater.ensures)
