use Rattle.std.proofs.Common.{rules, ◌≡◌, suc, ◌+◌, ◌^◌, ◌<◌, ◌∷◌, ◌++◌, length, sym, ap, ◌∙◌, arith, length-append}
use Rattle.std.proofs.lemmas.Result.{on_ok_weaker}
use Rattle.std.specs.declared.cmp.Ordering.TheVariants.{Less, Equal, Greater}
use Rattle.swc_expr_map.specs.declared.entry.Entry.{Entry}
use Rattle.swc_expr_map.specs.Order.{key_cmp}
use Rattle.swc_expr_map.specs.Entries.{key_of, put}
use Rattle.swc_expr_map.proofs.Rising.{round_in, shorter}
use Rattle.swc_expr_map.proofs.Placed.{over, put_left, put_here, put_right, at_most_one_more, on_ok_as}
use Rattle.swc_expr_map.proofs.search_tree.SearchTree.+insert.Goals as goal
use Rattle.swc_expr_map.proofs.search_tree.SearchTree.+insert.Goals.{in-Less, in-Equal, in-Greater}

pub insert-answer-requires-in-Greater : goal.insert-answer-requires-in-Greater
insert-answer-requires-in-Greater t c =
    let is : c.args.self.now ≡ c.in-Some.left ++ c.in-Some.top.value.entry ∷ c.in-Some.right = cc (c.replace.ensures.value, c.in-Some.ensures.some) in
    let round = round_in c.in-Some.left c.in-Some.top.value.entry c.in-Some.right is c.requires.sorted in
    let less = shorter c.in-Some.left c.in-Some.top.value.entry c.in-Some.right is in
    (search rules, (round.right, omega (arith, less.1, c.requires.fits)))

-- a side has at most one entry more
pub balanced-requires : goal.balanced-requires
balanced-requires t c =
    let l = c.in-Some.left in
    let r = c.in-Some.right in
    let is : c.args.self.now ≡ l ++ c.in-Some.top.value.entry ∷ r = cc (c.replace.ensures.value, c.in-Some.ensures.some) in
    let fits : length l + suc (length r) < 2 ^ 60 = omega (arith, c.requires.fits, ap length is, length-append l (c.in-Some.top.value.entry ∷ r)) in
    let e : Entry = record { key = c.args.key; value = c.args.value } in
    elim c.match-compare.branch [
      | in-Less w ↦ let more = at_most_one_more w.insert-answer.result e l w.insert-answer.new.self w.insert-answer.ensures.put w.insert-answer.ensures.unchanged in omega (arith, fits, more, ap length w.left-is, ap length w.right-is)
      | in-Equal w ↦ omega (arith, fits, ap length w.left-is, ap length w.right-is)
      | in-Greater w ↦ let more = at_most_one_more w.insert-answer-in-Greater.result e r w.insert-answer-in-Greater.new.self w.insert-answer-in-Greater.ensures.put w.insert-answer-in-Greater.ensures.unchanged in omega (arith, fits, more, ap length w.left-is, ap length w.right-is)
    ]

pub returns-clause-put : goal.returns-clause-put
returns-clause-put t c =
    let l = c.in-Some.left in
    let d = c.in-Some.top.value.entry in
    let r = c.in-Some.right in
    let is : c.args.self.now ≡ l ++ d ∷ r = cc (c.replace.ensures.value, c.in-Some.ensures.some) in
    let round = round_in l d r is c.requires.sorted in
    let e : Entry = record { key = c.args.key; value = c.args.value } in
    let old = ap (put e) (sym is) in
    let made = c.balanced-2.view_is ∙ c.balanced.ensures in
    elim c.match-compare.branch [
      | in-Less w ↦
          let less : key_cmp (key_of e) (key_of d) ≡ Less = cc (c.compare.ensures, w.in-Less.is, c.deref.ensures) in
          on_ok_as _ w.answer-is (on_ok_weaker w.insert-answer.result (λ (p : w.insert-answer.new.self ≡ put e l). made ∙ (λ i. w.left-is i ++ (w.top-is i).value.entry ∷ w.right-is i) ∙ ap (λ xs. xs ++ d ∷ r) p ∙ put_left e l d r round less ∙ old) w.insert-answer.ensures.put)
      | in-Equal w ↦
          let equal : key_cmp (key_of e) (key_of d) ≡ Equal = cc (c.compare.ensures, w.in-Equal.is, c.deref.ensures) in
          on_ok_as _ w.answer-is (made ∙ (λ i. w.left-is i ++ (w.top-is i).value.entry ∷ w.right-is i) ∙ ap (λ k. l ++ over e k ∷ r) (ap (λ b. b.entry) w.deref_mut.ensures.value) ∙ put_here e l d r round equal ∙ old)
      | in-Greater w ↦
          let greater : key_cmp (key_of e) (key_of d) ≡ Greater = cc (c.compare.ensures, w.in-Greater.is, c.deref.ensures) in
          on_ok_as _ w.answer-is (on_ok_weaker w.insert-answer-in-Greater.result (λ (p : w.insert-answer-in-Greater.new.self ≡ put e r). made ∙ (λ i. w.left-is i ++ (w.top-is i).value.entry ∷ w.right-is i) ∙ ap (λ xs. l ++ d ∷ xs) p ∙ put_right e l d r round greater ∙ old) w.insert-answer-in-Greater.ensures.put)
    ]
