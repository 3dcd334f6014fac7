use Rattle.std.proofs.Common.{rules, subst, ◌≡◌, ◌+◌, suc, ◌∷◌, ◌++◌, length, Some, None, option_map, sym, ap, ◌∙◌, arith, length-append}
use Rattle.std.specs.declared.cmp.Ordering.TheVariants.{Less, Equal, Greater}
use Rattle.swc_ast.specs.Views.{expr_tree}
use Rattle.swc_expr_map.specs.Order.{key_cmp}
use Rattle.swc_expr_map.specs.Entries.{key_of, number_of, IsSorted}
use Rattle.swc_expr_map.proofs.Rising.{round_in, shorter}
use Rattle.swc_expr_map.proofs.Found.{number_left, number_here, number_right}
use Rattle.swc_expr_map.proofs.search_tree.SearchTree.+number.Goals as goal

pub number-requires-in-Greater : goal.number-requires-in-Greater
number-requires-in-Greater t c =
    let b = c.in-Some.branch.value in
    let is : c.args.self.now ≡ b.left ++ b.entry ∷ b.right = cc (c.self.view_is, c.in-Some.is) in
    let round = round_in b.left b.entry b.right is c.requires in
    let less = shorter b.left b.entry b.right is in
    let at : b.right ≡ c.deref-in-Greater.result.now.right = cc (c.deref-in-Greater.ensures) in
    (search rules, subst IsSorted at round.right)

pub returns-in-Less : goal.returns-in-Less
returns-in-Less t c =
    let b = c.in-Some.branch.value in
    let is : c.args.self.now ≡ b.left ++ b.entry ∷ b.right = cc (c.self.view_is, c.in-Some.is) in
    let round = round_in b.left b.entry b.right is c.requires in
    let less : key_cmp (expr_tree c.args.key.now) (key_of b.entry) ≡ Less = cc (c.compare.ensures, c.in-Less.is, c.deref.ensures) in
    cc (number_left (expr_tree c.args.key.now) b.left b.entry b.right round less, is, c.number.ensures, c.deref-in-Less.ensures)

pub returns-in-Equal : goal.returns-in-Equal
returns-in-Equal t c =
    let b = c.in-Some.branch.value in
    let is : c.args.self.now ≡ b.left ++ b.entry ∷ b.right = cc (c.self.view_is, c.in-Some.is) in
    let round = round_in b.left b.entry b.right is c.requires in
    let equal : key_cmp (expr_tree c.args.key.now) (key_of b.entry) ≡ Equal = cc (c.compare.ensures, c.in-Equal.is, c.deref.ensures) in
    cc (number_here (expr_tree c.args.key.now) b.left b.entry b.right round equal, is, c.len.ensures, c.deref-in-Equal.ensures)

pub returns-in-None-number : goal.returns-in-None-number
returns-in-None-number t c =
    let b = c.in-Some.branch.value in
    let is : c.args.self.now ≡ b.left ++ b.entry ∷ b.right = cc (c.self.view_is, c.in-Some.is) in
    let round = round_in b.left b.entry b.right is c.requires in
    let greater : key_cmp (expr_tree c.args.key.now) (key_of b.entry) ≡ Greater = cc (c.compare.ensures, c.in-Greater.is, c.deref.ensures) in
    let none : None ≡ number_of (expr_tree c.args.key.now) b.right = cc (c.in-None-number.is, c.number-in-Greater.ensures, c.deref-in-Greater.ensures) in
    ap (λ o. option_map (λ k. length b.left + k) (option_map suc o)) none
    ∙ sym (number_right (expr_tree c.args.key.now) b.left b.entry b.right round greater)
    ∙ ap (number_of (expr_tree c.args.key.now)) (sym is)

pub returns-in-Some-number : goal.returns-in-Some-number
returns-in-Some-number t c =
    let b = c.in-Some.branch.value in
    let is : c.args.self.now ≡ b.left ++ b.entry ∷ b.right = cc (c.self.view_is, c.in-Some.is) in
    let round = round_in b.left b.entry b.right is c.requires in
    let greater : key_cmp (expr_tree c.args.key.now) (key_of b.entry) ≡ Greater = cc (c.compare.ensures, c.in-Greater.is, c.deref.ensures) in
    let n = c.in-Some-number.number in
    let some : Some n ≡ number_of (expr_tree c.args.key.now) b.right = cc (c.in-Some-number.is, c.number-in-Greater.ensures, c.deref-in-Greater.ensures) in
    let all : c.len-in-Some-number.result ≡ length b.left + suc (length b.right) = c.len-in-Some-number.ensures ∙ ap length is ∙ length-append b.left (b.entry ∷ b.right) in
    let behind : c.len-in-Some-number-2.result ≡ length b.right = c.len-in-Some-number-2.ensures ∙ ap (λ d. length d.right) c.deref-in-Some-number.ensures in
    ap Some (omega (arith, all, behind))
    ∙ ap (λ o. option_map (λ k. length b.left + k) (option_map suc o)) some
    ∙ sym (number_right (expr_tree c.args.key.now) b.left b.entry b.right round greater)
    ∙ ap (number_of (expr_tree c.args.key.now)) (sym is)
