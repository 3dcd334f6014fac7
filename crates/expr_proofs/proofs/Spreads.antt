-- An array with an array literal spread in it is exactly the array with the items of both.
use Rattle.std.proofs.Common.{◌≡◌, ℕ, List, [], ◌∷◌, ◌++◌, refl, sym, ap, ◌∙◌}
use Rattle.swc_ast.specs.declared.Span.{Span}
use Rattle.swc_ast.specs.Tree.{ItemKind, Plain, Spread, Hole, Array, Tree, node, Forest, ε, ◌⊳◌}
use Rattle.swc_ast.specs.Value.{Value, Items, Values, ∅, ◌▹◌, Run, and_then, Context}
use Rattle.swc_ast.specs.Scope.{joined}
use Rattle.swc_ast.specs.Meaning.{◌>>=◌, gives, Caller, spread_items, item_values, array_items, act, eval, evals}
use Rattle.swc_ast.specs.Operators.{values_append}
use Rattle.meaning_proofs.specs.Exact.{Refines, Exact}
use Rattle.swc_utils.proofs.Refines.{refines_same, refines_then, refines_trans, refines_assoc, refines_chain, refines_leaves}
use Rattle.expr_rules.specs.Spreads.{filled_kinds, filled_items, spread_kinds, spread_trees, opened_kinds, opened_items}
use Rattle.pass_proofs.proofs.Refines.{refines_path}
use Rattle.pass_proofs.proofs.Runs.{bind_chain, bind_same, bind_end}

append_chain : (us vs ws : Values) → values_append (values_append us vs) ws ≡ values_append us (values_append vs ws)
append_chain ∅ vs ws = refl
append_chain (u ▹ us) vs ws = ap (λ x. u ▹ x) (append_chain us vs ws)

-- values, and then those of what follows
abbrev before : Values → Run Values → Run Values
before vs rest = rest >>= λ ws. gives (values_append vs ws)

before_both : (us vs : Values) (rest : Run Values) → before (values_append us vs) rest ≡ (before vs rest >>= λ ws. gives (values_append us ws))
unfolding and_then
before_both us vs rest = bind_same rest (λ ws. ap gives (append_chain us vs ws)) ∙ sym (bind_chain rest (λ ws. gives (values_append vs ws)) (λ ws. gives (values_append us ws)))

-- an item, and what follows it
abbrev item : ItemKind → Run Value → Run Values → Run Values
item k m rest = m >>= λ v. item_values k v >>= λ vs. before vs rest

item_same : (k : ItemKind) (m : Run Value) (rest more : Run Values) → Refines rest more → Refines (item k m rest) (item k m more)
item_same k m rest more h = refines_then (refines_same m) (λ v. refines_then (refines_same (item_values k v)) (λ vs. refines_then h (λ ws. refines_same _)))

item_then : (k : ItemKind) (m : Run Value) (inner rest more : Run Values) → Refines (inner >>= λ vs. before vs rest) more → Refines (item k m inner >>= λ vs. before vs rest) (item k m more)
unfolding and_then
item_then k m inner rest more h =
    refines_assoc m (λ v. item_values k v >>= λ vs. before vs inner) (λ vs. before vs rest) (refines_then (refines_same m) (λ v.
    refines_assoc (item_values k v) (λ vs. before vs inner) (λ vs. before vs rest) (refines_then (refines_same (item_values k v)) (λ us.
    refines_assoc inner (λ ws. gives (values_append us ws)) (λ vs. before vs rest) (refines_trans (refines_then (refines_same inner) (λ vs. refines_path (before_both us vs rest)))
    (refines_trans (refines_chain inner (λ vs. before vs rest) (λ ws. gives (values_append us ws)) (refines_same _)) (refines_then h (λ ws. refines_same _))))))))

module _ (mark n : ℕ) (call : Caller) (w : Tree) (c : Context) where
  inner_items : (is ks : List ItemKind) (us ts : Forest) (rest : Run Values) → Refines rest (array_items ks (evals mark n call ts) c) → Refines (array_items is (evals mark n call us) c >>= λ vs. before vs rest) (array_items (filled_kinds is ++ ks) (evals mark n call (joined (filled_items w is us) ts)) c)
  unfolding array_items evals and_then
  inner_items [] ks ε ts rest h = refines_trans (refines_path (bind_end rest)) h
  inner_items [] ks (u ⊳ us) ts rest h = refines_leaves
  inner_items (Hole ∷ is) ks us ts rest h = refines_leaves
  inner_items (Plain ∷ is) ks ε ts rest h = refines_leaves
  inner_items (Spread ∷ is) ks ε ts rest h = refines_leaves
  inner_items (Plain ∷ is) ks (u ⊳ us) ts rest h = item_then Plain (eval mark n call u c) _ rest _ (inner_items is ks us ts rest h)
  inner_items (Spread ∷ is) ks (u ⊳ us) ts rest h = item_then Spread (eval mark n call u c) _ rest _ (inner_items is ks us ts rest h)

  spread_item : (t : Tree) (ks : List ItemKind) (ts : Forest) (rest : Run Values) → Refines rest (array_items ks (evals mark n call ts) c) → Refines (item Spread (eval mark n call t c) rest) (array_items (spread_kinds t ++ ks) (evals mark n call (joined (spread_trees w t) ts)) c)
  unfolding array_items eval act evals and_then
  spread_item (node (Array is) ss us) ks ts rest h = refines_assoc (array_items is (evals mark n call us) c) (λ vs. gives (Items vs)) (λ v. spread_items v >>= λ vs. before vs rest) (inner_items is ks us ts rest h)
  spread_item t ks ts rest h = item_same Spread (eval mark n call t c) rest (array_items ks (evals mark n call ts) c) h

  items_opened : (ks : List ItemKind) (ts : Forest) → Refines (array_items ks (evals mark n call ts) c) (array_items (opened_kinds ks ts) (evals mark n call (opened_items w ks ts)) c)
  unfolding array_items evals
  items_opened [] ts = refines_same _
  items_opened (Hole ∷ ks) ts = refines_leaves
  items_opened (Plain ∷ ks) ε = refines_same _
  items_opened (Spread ∷ ks) ε = refines_same _
  items_opened (Plain ∷ ks) (t ⊳ ts) = item_same Plain (eval mark n call t c) _ _ (items_opened ks ts)
  items_opened (Spread ∷ ks) (t ⊳ ts) = spread_item t (opened_kinds ks ts) (opened_items w ks ts) _ (items_opened ks ts)

pub spread_array_exact : (mark : ℕ) (w : Tree) (ss rs : List Span) (ks : List ItemKind) (ts : Forest) → Exact mark (node (Array ks) ss ts) (node (Array (opened_kinds ks ts)) rs (opened_items w ks ts))
unfolding eval act
spread_array_exact mark w ss rs ks ts = record { by = λ n d c. refines_then (items_opened mark n _ w c ks ts) (λ vs. refines_same _) }
