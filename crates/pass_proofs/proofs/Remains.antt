-- What is left of trees: parts that are drawn from them, and trees that are built of these.
use Rattle.std.proofs.Common.{◌≡◌, ◌≤◌, ◌<◌, true, List, refl, sym, ap, subst, ◌∙◌, arith}
use Rattle.swc_ast.specs.declared.Span.{Span}
use Rattle.swc_ast.specs.Tree.{Label, Tree, node, Forest, ε, ◌⊳◌}
use Rattle.swc_ast.specs.Scope.{joined}
use Rattle.swc_ast.specs.Weight.{weight, weight_all}
use Rattle.static_proofs.specs.Drawn.{lets_jumps_out, Drawn, AllDrawn, nothing_of, all_of, part_of, none_drawn, more_drawn}
use Rattle.static_proofs.specs.Over.{Makes, Over, over_none, over_piece, over_made}
use Rattle.static_proofs.proofs.Drawn.{weight_joined}
use Rattle.swc_utils.proofs.Chains.{joined_assoc, joined_none}

-- what is drawn from two lists

record DrawnApart (ts us ds : Forest) : Type 0 where
  first : Forest
  second : Forest
  together : ds ≡ joined first second
  of_first : AllDrawn ts first
  of_second : AllDrawn us second

drawn_apart : (ts us : Forest) {ds : Forest} → AllDrawn (joined ts us) ds → DrawnApart ts us ds
drawn_apart ε us {ds} d = record { first = ε; second = ds; together = refl; of_first = none_drawn; of_second = d }
drawn_apart (t ⊳ ts) us (more_drawn {us = xs} d ds) =
    let r = drawn_apart ts us ds in
    record { first = joined xs r.first; second = r.second; together = ap (joined xs) r.together ∙ sym (joined_assoc xs r.first r.second); of_first = more_drawn d r.of_first; of_second = r.of_second }

none_of : (ts : Forest) → AllDrawn ts ε
none_of ε = none_drawn
none_of (t ⊳ ts) = more_drawn nothing_of (none_of ts)

-- what two lists are built of

record BuiltApart (V F : Type 0) (ds us vs : Forest) : Type 0 where
  first : Forest
  second : Forest
  together : ds ≡ joined first second
  of_first : Over V F first us
  of_second : Over V F second vs

-- the second trees are built of parts of the first; new nodes are good ones where V holds, and in range where F holds
pub record Remains (V F : Type 0) (ts us : Forest) : Type 0 where
  pub parts : Forest
  pub drawn : AllDrawn ts parts
  pub built : Over V F parts us

module _ {V F : Type 0} where
  built_apart : (us : Forest) {ds vs : Forest} → Over V F ds (joined us vs) → BuiltApart V F ds us vs
  built_apart ε {ds} o = record { first = ε; second = ds; together = refl; of_first = over_none; of_second = o }
  built_apart (u ⊳ us) (over_piece o) =
      let r = built_apart us o in
      record { first = u ⊳ r.first; second = r.second; together = ap (λ x. u ⊳ x) r.together; of_first = over_piece r.of_first; of_second = r.of_second }
  built_apart (u ⊳ us) (over_made {us = xs} m o os) =
      let r = built_apart us os in
      record { first = joined xs r.first; second = r.second; together = ap (joined xs) r.together ∙ sym (joined_assoc xs r.first r.second); of_first = over_made m o r.of_first; of_second = r.of_second }

  -- how something is left

  pub nothing : Remains V F ε ε
  nothing = record { parts = ε; drawn = none_drawn; built = over_none }

  pub goes : (t : Tree) {ts us : Forest} → Remains V F ts us → Remains V F (t ⊳ ts) us
  goes t r = record { parts = r.parts; drawn = more_drawn nothing_of r.drawn; built = r.built }

  pub stays : (t : Tree) {ts us : Forest} → Remains V F ts us → Remains V F (t ⊳ ts) (t ⊳ us)
  stays t r = record { parts = t ⊳ r.parts; drawn = more_drawn all_of r.drawn; built = over_piece r.built }

  -- a node gives way to its children
  pub opened : (l : Label) (ss : List Span) (cs : Forest) {ts us : Forest} → lets_jumps_out l ≡ true → Remains V F (joined cs ts) us → Remains V F (node l ss cs ⊳ ts) us
  opened l ss cs {ts} {us} e r =
      let d = drawn_apart cs ts r.drawn in
      record { parts = joined d.first d.second; drawn = more_drawn (part_of e d.of_first) d.of_second; built = subst (λ ds. Over V F ds us) d.together r.built }

  -- a new node stands round what is left
  pub made : (l : Label) (ss : List Span) (cs : Forest) {ts us : Forest} → Makes V F l cs → Remains V F ts (joined cs us) → Remains V F ts (node l ss cs ⊳ us)
  made l ss cs {ts} {us} m r =
      let b = built_apart cs r.built in
      record { parts = r.parts; drawn = r.drawn; built = subst (λ ds. Over V F ds (node l ss cs ⊳ us)) (sym b.together) (over_made m b.of_first b.of_second) }

  pub all_go : (ts : Forest) {rest us : Forest} → Remains V F rest us → Remains V F (joined ts rest) us
  all_go ε r = r
  all_go (t ⊳ ts) r = goes t (all_go ts r)

  pub all_stay : (ts : Forest) {rest us : Forest} → Remains V F rest us → Remains V F (joined ts rest) (joined ts us)
  all_stay ε r = r
  all_stay (t ⊳ ts) r = stays t (all_stay ts r)

  -- what is left of a node that is lighter than the node is left of its children

  over_weight : {us vs : Forest} → Over V F us vs → weight_all us ≤ weight_all vs
  over_weight over_none = omega arith
  over_weight (over_piece o) = omega (arith, over_weight o)
  over_weight (over_made {us = us} {ts = ts} m o os) = omega (arith, over_weight o, over_weight os, weight_joined us ts)

  from_node : {l : Label} {ss : List Span} {cs ds : Forest} {u : Tree} → weight u < weight (node l ss cs) → Drawn (node l ss cs) ds → Over V F ds (u ⊳ ε) → Remains V F cs (u ⊳ ε)
  from_node {cs = cs} w nothing_of o = record { parts = ε; drawn = none_of cs; built = o }
  from_node w all_of o = absurd (omega (arith, w, over_weight o))
  from_node w (part_of {us = us} e d) o = record { parts = us; drawn = d; built = o }

  pub remains_below : {l : Label} {ss : List Span} {cs : Forest} {u : Tree} → weight u < weight (node l ss cs) → Remains V F (node l ss cs ⊳ ε) (u ⊳ ε) → Remains V F cs (u ⊳ ε)
  remains_below {l} {ss} {cs} {u} w r = by_parts r.drawn r.built
    where
      by_parts : {ds : Forest} → AllDrawn (node l ss cs ⊳ ε) ds → Over V F ds (u ⊳ ε) → Remains V F cs (u ⊳ ε)
      by_parts (more_drawn {us = us} d none_drawn) o = from_node w d (subst (λ ds. Over V F ds (u ⊳ ε)) (joined_none us) o)
