-- A renamed tree means what the tree means.
use Rattle.std.proofs.Common.{[], ◌≡◌, ℕ, Bool, true, false, List, ◌∷◌, refl, sym, ap, subst, if◌then◌else◌}
use Rattle.swc_ast.specs.declared.Span.{Span}
use Rattle.swc_ast.specs.Sorts as by_sort
use Rattle.swc_ast.specs.Tree.{Name, same_name, NameKey, Label, prop, Read, Shorthand, Method, PlainKey, Fn, Arrow, Block, For, Switch, Tree, node, Forest, ε, ◌⊳◌}
use Rattle.swc_ast.specs.Value.{Context, and_then}
use Rattle.swc_ast.specs.Meaning.{◌>>=◌, read, one_field, first_tree, act, eval, evals, Caller}
use Rattle.swc_ast.specs.Call.{each_of}
use Rattle.rename_rules.specs.Renamed.{new_spans, renamed, renamed_all}
use Rattle.rename_proofs.proofs.Relation.{Pairing, Each, none, more, V, C, Ran, M}
use Rattle.rename_proofs.proofs.Names.{same_name_eq}
use Rattle.rename_proofs.proofs.Combine.{bind}
use Rattle.rename_proofs.proofs.Stores.{read_sim}
use Rattle.rename_proofs.proofs.Parts.{K, one_field_sim, bad_sim}
use Rattle.rename_proofs.proofs.Shapes.{shape0_sim}
use Rattle.rename_proofs.proofs.Statements.{SameHead}
use Rattle.rename_proofs.proofs.Acts.{act_sim}
use Rattle.rename_proofs.proofs.Declared.{same_list, same_head, same_cases, first_new}

pub evals_each : (mark n : ℕ) (call : Caller) (ts : Forest) → evals mark n call ts ≡ each_of (eval mark n call) ts
unfolding eval
evals_each mark n call ε = refl
evals_each mark n call (t ⊳ ts) = ap (λ ms. eval mark n call t ∷ ms) (evals_each mark n call ts)

module _ (P : Pairing) where
  head_side : (ts : Forest) → SameHead P (first_tree ts) (first_tree (renamed_all P.to ts))
  head_side ts = subst (SameHead P (first_tree ts)) (sym (first_new P ts)) (same_head P (first_tree ts))

  module _ (n : ℕ) {call call' : Caller} (hk : K P call call') where
    -- a property `x`
    field_sim : (x : Name) {c d : Context} → C P c d → Ran P (V P) (read P.mark x c >>= λ v. one_field x.text v) (read P.mark (P.to x) d >>= λ v. one_field x.text v)
    field_sim x hc = bind (read_sim x hc) (λ v w r. one_field_sim x.text r)

    stays_sim : (x : Name) → P.to x ≡ x → {c d : Context} → C P c d → Ran P (V P) (read P.mark x c >>= λ v. one_field x.text v) (read P.mark x d >>= λ v. one_field x.text v)
    stays_sim x e {c} {d} hc = subst (λ (z : Name). Ran P (V P) (read P.mark x c >>= λ v. one_field x.text v) (read P.mark z d >>= λ v. one_field x.text v)) e (field_sim x hc)

    shorthand_sim : (b : Bool) (x : Name) → same_name (P.to x) x ≡ b → (ss : List Span) (cs : Forest) → Each (M P) (evals P.mark n call cs) (evals P.mark n call' (renamed_all P.to cs))
        → M P (eval P.mark n call (node (Shorthand x) ss cs)) (eval P.mark n call' (node (prop (if b then by_sort.Shorthand x else by_sort.KeyValue)) (if b then ss else []) (if b then renamed_all P.to cs else (node (PlainKey (NameKey x.text)) ss ε ⊳ node (Read (P.to x)) ss ε ⊳ renamed_all P.to cs))))
    unfolding eval act and_then renamed
    shorthand_sim true x e ss cs hs = shape0_sim (record { at = λ c d hc. stays_sim x (same_name_eq (P.to x) x e) hc }) hs
    shorthand_sim false x e ss ε hs = record { at = λ c d hc. field_sim x hc }
    shorthand_sim false x e ss (t ⊳ ts) hs = bad_sim _

    node_sim : (l : Label) (ss : List Span) (cs : Forest) → Each (M P) (evals P.mark n call cs) (evals P.mark n call' (renamed_all P.to cs)) → M P (eval P.mark n call (node l ss cs)) (eval P.mark n call' (renamed P.to (node l ss cs)))
    unfolding eval renamed
    node_sim (Shorthand x) ss cs hs = shorthand_sim (same_name (P.to x) x) x refl ss cs hs
    node_sim (Fn o) ss cs hs = act_sim n hk (Fn o) ss ss cs (renamed_all P.to cs) (record { is = refl }) hs
    node_sim Arrow ss cs hs = act_sim n hk Arrow ss ss cs (renamed_all P.to cs) (record { is = refl }) hs
    node_sim Method ss cs hs = act_sim n hk Method ss ss cs (renamed_all P.to cs) (record { is = refl }) hs
    node_sim Block ss cs hs = act_sim n hk Block ss ss cs (renamed_all P.to cs) (same_list P cs) hs
    node_sim For ss cs hs = act_sim n hk For ss ss cs (renamed_all P.to cs) (head_side cs) hs
    node_sim (Switch ds) ss cs hs = act_sim n hk (Switch ds) ss ss cs (renamed_all P.to cs) (same_cases P cs) hs
    node_sim l ss cs hs = act_sim n hk l ss (new_spans P.to l ss) cs (renamed_all P.to cs) tt hs

    mutual
      unfolding eval renamed

      pub tree_sim : (t : Tree) → M P (eval P.mark n call t) (eval P.mark n call' (renamed P.to t))
      tree_sim (node l ss cs) = node_sim l ss cs (all_sim cs)

      pub all_sim : (ts : Forest) → Each (M P) (evals P.mark n call ts) (evals P.mark n call' (renamed_all P.to ts))
      all_sim ε = none
      all_sim (t ⊳ ts) = more (tree_sim t) (all_sim ts)

    pub each_sim : (ts : Forest) → Each (M P) (each_of (eval P.mark n call) ts) (each_of (eval P.mark n call') (renamed_all P.to ts))
    each_sim ts = subst (λ ms. Each (M P) ms (each_of (eval P.mark n call') (renamed_all P.to ts))) (evals_each P.mark n call ts) (subst (Each (M P) (evals P.mark n call ts)) (evals_each P.mark n call' (renamed_all P.to ts)) (all_sim ts))
