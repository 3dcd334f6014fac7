-- What items keep by themselves, a module of them keeps.
use Rattle.std.proofs.Common.{◌≡◌, Bool, true, false, not, ◌||◌, List, [], ◌∷◌, ◌++◌, refl, sym, ap, ap₂, ◌∙◌}
use Rattle.swc_ast.specs.Reach.{named_outside, outside_in, is_exported}
use Rattle.swc_ast.specs.Run.{item_exports, exported}
use Rattle.swc_ast.specs.Tree.{Text, Name, same_name, Tree, node, Forest, ε, ◌⊳◌}
use Rattle.dce_rules.specs.Uses.{is_argument, argument_among, seen_by_eval, eval_among}
use Rattle.dce_layer_proofs.specs.Layers.{notes}

-- whether items keep a name
abbrev pub keeps : Name → Forest → Bool
keeps x ts = outside_in x ts || (is_exported x (exported ts) || (argument_among x ts || eval_among x ts))

not_not : (b : Bool) → not (not b) ≡ b
not_not true = refl
not_not false = refl

pub notes_by : (x : Name) (t : Tree) → notes x t ≡ keeps x (t ⊳ ε)
notes_by x t = not_not (keeps x (t ⊳ ε))

or_none : (a : Bool) → (a || false) ≡ a
or_none true = refl
or_none false = refl

or_mix : (a b c d : Bool) → ((a || b) || (c || d)) ≡ ((a || c) || (b || d))
or_mix true b c d = refl
or_mix false true true d = refl
or_mix false true false d = refl
or_mix false false c d = refl

pub exported_append : (x : Name) (ps qs : List (Text × Name)) → is_exported x (ps ++ qs) ≡ (is_exported x ps || is_exported x qs)
exported_append x [] qs = refl
exported_append x (p ∷ ps) qs = by (same_name x p.1) (exported_append x ps qs)
  where
    by : (b : Bool) → is_exported x (ps ++ qs) ≡ (is_exported x ps || is_exported x qs) → (b || is_exported x (ps ++ qs)) ≡ ((b || is_exported x ps) || is_exported x qs)
    by true h = refl
    by false h = h

exported_split : (x : Name) (t : Tree) (ts : Forest) → is_exported x (exported (t ⊳ ts)) ≡ (is_exported x (exported (t ⊳ ε)) || is_exported x (exported ts))
exported_split x (node l ss cs) ts = exported_append x (item_exports l cs) (exported ts) ∙ ap (λ b. b || is_exported x (exported ts)) (sym (exported_append x (item_exports l cs) [] ∙ or_none (is_exported x (item_exports l cs))))

-- eight in four, and in two
apart : (a b e f g h v w : Bool) → ((a || b) || ((e || f) || ((g || h) || (v || w)))) ≡ (((a || false) || (e || ((g || false) || (v || false)))) || (b || (f || (h || w))))
apart a b e f g h v w =
    ap (λ c. (a || b) || ((e || f) || c)) (or_mix g h v w) ∙ ap (λ c. (a || b) || c) (or_mix e f (g || v) (h || w)) ∙ or_mix a b (e || (g || v)) (f || (h || w))
    ∙ ap₂ (λ c d. (c || (e || d)) || (b || (f || (h || w)))) (sym (or_none a)) (ap₂ (λ c d. c || d) (sym (or_none g)) (sym (or_none v)))

pub keeps_split : (x : Name) (t : Tree) (ts : Forest) → keeps x (t ⊳ ts) ≡ (notes x t || keeps x ts)
keeps_split x t ts =
    ap (λ b. outside_in x (t ⊳ ts) || (b || (argument_among x (t ⊳ ts) || eval_among x (t ⊳ ts)))) (exported_split x t ts)
    ∙ apart (named_outside x t) (outside_in x ts) (is_exported x (exported (t ⊳ ε))) (is_exported x (exported ts)) (is_argument x t) (argument_among x ts) (seen_by_eval x t) (eval_among x ts) ∙ ap (λ b. b || keeps x ts) (sym (notes_by x t))
