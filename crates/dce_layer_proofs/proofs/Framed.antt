-- Which names are free to go in a module that has items in layers somewhere: those that are if they stand in its own list.
use Rattle.std.proofs.Common.{ℕ, ◌+◌, ◌≤◌, ◌≡◌, Bool, true, false, not, ◌&&◌, ◌||◌, if◌then◌else◌, List, [], ◌∷◌, ◌++◌, refl, sym, ap, ap₂, ◌∙◌, arith}
use Rattle.std.specs.Prelude.{nat_lt}
use Rattle.std.proofs.lemmas.Bool.{false≢true, or_parts, or_from, ltb-true, ltb-false}
use Rattle.swc_ast.specs.Reach.{outside_in, is_exported}
use Rattle.swc_ast.specs.Run.{has_text, item_exports, exported}
use Rattle.swc_ast.specs.Scope.{joined}
use Rattle.swc_ast.specs.Tree.{Text, Name, Params, Body, Module, Tree, node, Forest, ε, ◌⊳◌}
use Rattle.dce_rules.specs.Uses.{any_arguments, argument_among, calls_eval, any_eval, declared_among, eval_among, free_to_go}
use Rattle.dce_layer_proofs.specs.Frames.{Wrapper, wrapped, Frame, own, wrapper, within, outer, FitsIn}
use Rattle.dce_layer_proofs.specs.Layers.{Layers, items, live, notes, AllStay, has_layer}
use Rattle.dce_layer_proofs.proofs.Kept.{keeps, notes_by, keeps_split}

-- what two lists keep

or_row : (a b c : Bool) → (a || (b || c)) ≡ ((a || b) || c)
or_row true b c = refl
or_row false b c = refl

keeps_joined : (x : Name) (ts us : Forest) → keeps x (joined ts us) ≡ (keeps x ts || keeps x us)
keeps_joined x ε us = refl
keeps_joined x (t ⊳ ts) us = keeps_split x t (joined ts us) ∙ ap (λ b. notes x t || b) (keeps_joined x ts us) ∙ or_row (notes x t) (keeps x ts) (keeps x us) ∙ ap (λ b. b || keeps x us) (sym (keeps_split x t ts))

-- what a wrapper keeps

-- of what stands in four lists of one
in_four : (a : Bool) → ((((a || false) || false) || false) || false) ≡ a
in_four true = refl
in_four false = refl

of_no_params : (c a : Bool) → (((((c && false) || (a || false)) || false) || false) || false) ≡ a
of_no_params true true = refl
of_no_params true false = refl
of_no_params false true = refl
of_no_params false false = refl

without_eval : (e d a : Bool) → e ≡ false → ((((((e || false) && d) || (a || false)) || false) || false) || false) ≡ a
without_eval true d a h = absurd (false≢true (sym h))
without_eval false d true h = refl
without_eval false d false h = refl

-- a wrapper of each kind; spans don't matter
abbrev bare_wrapper : Bool → Wrapper
bare_wrapper b = record { is_arrow = b; statement = []; call = []; function = []; params = []; body = [] }

outside_wrapped : (x : Name) (w : Wrapper) (ts : Forest) → outside_in x (wrapped w ts ⊳ ε) ≡ outside_in x ts
outside_wrapped x w ts = by w.is_arrow
  where
    by : (b : Bool) → outside_in x (wrapped (bare_wrapper b) ts ⊳ ε) ≡ outside_in x ts
    by true = in_four (outside_in x ts)
    by false = in_four (outside_in x ts)

argument_wrapped : (x : Name) (w : Wrapper) (ts : Forest) → argument_among x (wrapped w ts ⊳ ε) ≡ argument_among x ts
argument_wrapped x w ts = by w.is_arrow
  where
    by : (b : Bool) → argument_among x (wrapped (bare_wrapper b) ts ⊳ ε) ≡ argument_among x ts
    by true = in_four (argument_among x ts)
    by false = of_no_params (any_arguments (node Params [] ε ⊳ node Body [] ts ⊳ ε)) (argument_among x ts)

eval_wrapped : (x : Name) (w : Wrapper) (ts : Forest) → any_eval ts ≡ false → eval_among x (wrapped w ts ⊳ ε) ≡ eval_among x ts
eval_wrapped x w ts h = by w.is_arrow
  where
    by : (b : Bool) → eval_among x (wrapped (bare_wrapper b) ts ⊳ ε) ≡ eval_among x ts
    by true = without_eval (any_eval ts) (declared_among x (node Params [] ε ⊳ node Body [] ts ⊳ ε)) (eval_among x ts) h
    by false = without_eval (any_eval ts) (declared_among x (node Params [] ε ⊳ node Body [] ts ⊳ ε)) (eval_among x ts) h

notes_wrapped : (x : Name) (w : Wrapper) (ts : Forest) → any_eval ts ≡ false → exported ts ≡ [] → notes x (wrapped w ts) ≡ keeps x ts
notes_wrapped x w ts e f =
    notes_by x (wrapped w ts) ∙ ap₂ (λ a b. a || b) (outside_wrapped x w ts) (ap₂ (λ a b. a || b) (sym (ap (is_exported x) f)) (ap₂ (λ a b. a || b) (argument_wrapped x w ts) (eval_wrapped x w ts e)))

-- what a module with items keeps

or_turned : (a b c : Bool) → (a || (c || b)) ≡ ((a || b) || c)
or_turned true b c = refl
or_turned false true true = refl
or_turned false true false = refl
or_turned false false true = refl
or_turned false false false = refl

keeps_around : (x : Name) (before : Forest) (w : Wrapper) (behind ts : Forest) → any_eval ts ≡ false → exported ts ≡ [] → keeps x (joined before (wrapped w ts ⊳ behind)) ≡ keeps x (joined (joined before behind) ts)
keeps_around x before w behind ts e f =
    keeps_joined x before (wrapped w ts ⊳ behind) ∙ ap (λ b. keeps x before || b) (keeps_split x (wrapped w ts) behind ∙ ap (λ b. b || keeps x behind) (notes_wrapped x w ts e f)) ∙ or_turned (keeps x before) (keeps x behind) (keeps x ts)
    ∙ ap (λ b. b || keeps x ts) (sym (keeps_joined x before behind)) ∙ sym (keeps_joined x (joined before behind) ts)

free_within : (retained : List Text) (F : Frame) (ts : Forest) (x : Name) → FitsIn F ts → free_to_go retained (within F ts) x ≡ free_to_go retained (node Module [] (joined (outer F) ts)) x
free_within retained (own ss) ts x h = refl
free_within retained (wrapper ss before w behind) ts x h = ap (λ b. not (has_text x.text retained || b)) (keeps_around x before w behind ts h.0 h.1)

-- what is left of items fits where they did

eval_left : (r : ℕ) (ps : Layers) → any_eval (items ps) ≡ false → any_eval (live r ps) ≡ false
eval_left r [] h = refl
eval_left r (p ∷ ps) h = let k = or_parts (calls_eval p.0) (any_eval (items ps)) h in by (nat_lt p.1 r) k.0 (eval_left r ps k.1)
  where
    by : (b : Bool) → calls_eval p.0 ≡ false → any_eval (live r ps) ≡ false → any_eval (if b then live r ps else (p.0 ⊳ live r ps)) ≡ false
    by true e k = k
    by false e k = or_from (calls_eval p.0) (any_eval (live r ps)) e k

none_first : {A : Type 0} (xs ys : List A) → xs ++ ys ≡ [] → (xs ≡ []) × (ys ≡ [])
none_first [] ys h = (refl, h)
none_first (x ∷ xs) ys h = absurd (cons_none x (xs ++ ys) h)
  where
    is_some : {A : Type 0} → List A → Bool
    is_some [] = false
    is_some (x ∷ xs) = true

    cons_none : {A : Type 0} (x : A) (xs : List A) → (x ∷ xs) ≡ [] → ⊥
    cons_none x xs e = false≢true (sym (ap is_some e))

exported_next : (t : Tree) (ts : Forest) → exported (t ⊳ ts) ≡ [] → (exported ts ≡ []) × ((us : Forest) → exported us ≡ [] → exported (t ⊳ us) ≡ [])
exported_next (node l ss cs) ts h = let k = none_first (item_exports l cs) (exported ts) h in (k.1, λ us e. ap₂ (λ xs ys. xs ++ ys) k.0 e)

exported_left : (r : ℕ) (ps : Layers) → exported (items ps) ≡ [] → exported (live r ps) ≡ []
exported_left r [] h = refl
exported_left r (p ∷ ps) h = let k = exported_next p.0 (items ps) h in by (nat_lt p.1 r) (k.1 (live r ps)) (exported_left r ps k.0)
  where
    by : (b : Bool) → (exported (live r ps) ≡ [] → exported (p.0 ⊳ live r ps) ≡ []) → exported (live r ps) ≡ [] → exported (if b then live r ps else (p.0 ⊳ live r ps)) ≡ []
    by true f k = k
    by false f k = f k

fits_left : (F : Frame) (r : ℕ) (ps : Layers) → FitsIn F (items ps) → FitsIn F (live r ps)
fits_left (own ss) r ps h = tt
fits_left (wrapper ss before w behind) r ps h = (eval_left r ps h.0, exported_left r ps h.1)

-- beside items that stay

live_behind : (rounds r : ℕ) (os ps : Layers) → r ≤ rounds + 1 → AllStay rounds os → live r (os ++ ps) ≡ joined (items os) (live r ps)
live_behind rounds r [] ps m h = refl
live_behind rounds r (o ∷ os) ps m h = by (nat_lt o.1 r) refl (live_behind rounds r os ps m h.1)
  where
    by : (b : Bool) → nat_lt o.1 r ≡ b → live r (os ++ ps) ≡ joined (items os) (live r ps) → (if b then live r (os ++ ps) else (o.0 ⊳ live r (os ++ ps))) ≡ o.0 ⊳ joined (items os) (live r ps)
    by true e k = absurd (omega (arith, ltb-true o.1 r e, h.0, m))
    by false e k = ap (λ ts. o.0 ⊳ ts) k

pub layer_behind : (rounds r : ℕ) (os ps : Layers) → r ≤ rounds → AllStay rounds os → has_layer r (os ++ ps) ≡ has_layer r ps
layer_behind rounds r [] ps m h = refl
layer_behind rounds r (o ∷ os) ps m h = by (nat_lt o.1 r) refl (nat_lt r o.1) refl (layer_behind rounds r os ps m h.1)
  where
    by : (b : Bool) → nat_lt o.1 r ≡ b → (c : Bool) → nat_lt r o.1 ≡ c → has_layer r (os ++ ps) ≡ has_layer r ps → (if b then has_layer r (os ++ ps) else (if c then has_layer r (os ++ ps) else true)) ≡ has_layer r ps
    by true e c f k = k
    by false e true f k = k
    by false e false f k = absurd (omega (arith, ltb-false r o.1 f, h.0, m))

-- So a name is free to go in the module if it is in one of all items.
pub free_at : (retained : List Text) (F : Frame) (rounds r : ℕ) (os ps : Layers) (x : Name) → r ≤ rounds + 1 → items os ≡ outer F → AllStay rounds os → FitsIn F (items ps) → free_to_go retained (within F (live r ps)) x ≡ free_to_go retained (node Module [] (live r (os ++ ps))) x
free_at retained F rounds r os ps x m e s h =
    free_within retained F (live r ps) x (fits_left F r ps h) ∙ ap (λ ts. free_to_go retained (node Module [] ts) x) (sym (live_behind rounds r os ps m s ∙ ap (λ ts. joined ts (live r ps)) e))
