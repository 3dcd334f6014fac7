-- What the walk makes of a tree is resolved, valid and core where the tree is.
use Rattle.std.proofs.Common.{◌≡◌, ℕ, Bool, true, false, ◌&&◌, if◌then◌else◌, List, [], ◌∷◌, Option, Some, None, refl, sym, ap, subst}
use Rattle.std.proofs.lemmas.Bool.{false≢true, and_parts}
use Rattle.swc_ast.specs.Labels.{is_expression}
use Rattle.swc_ast.specs.Core.{fits, IsCore}
use Rattle.swc_ast.specs.Expressions.{is_eval, call_node, unary_node}
use Rattle.swc_ast.specs.Parts.{then_all}
use Rattle.swc_ast.specs.Resolved.{own_scopes, IsResolved}
use Rattle.swc_ast.specs.Scope.{vars, joined}
use Rattle.swc_ast.specs.Tree as tree
use Rattle.swc_ast.specs.Tree.{Text, Name, Label, Tree, node, Forest, ε, ◌⊳◌, label_of}
use Rattle.swc_ast.specs.Valid.{valid, valid_all, good_names, good_shape, is_word, is_identifier}
use Rattle.swc_ast.specs.declared.Span.{Span}
use Rattle.swc_ast.specs.declared.UnaryOp.TheVariants as op
use Rattle.static_proofs.specs.Drawn.{AllDrawn, nothing_of, all_of, part_of, none_drawn, more_drawn}
use Rattle.static_proofs.specs.Keeps.{Keeps}
use Rattle.static_proofs.specs.Names.{Within}
use Rattle.static_proofs.specs.Over.{Makes, Over, over_none, over_piece, over_made}
use Rattle.static_proofs.specs.Spares.{Spared, Spares}
use Rattle.static_proofs.specs.Walks.{Walks, AllWalk, inside, then, early, nothing, both}
use Rattle.static_proofs.proofs.Expressions.{expression_quiet}
use Rattle.static_proofs.proofs.Kept.{walk_keeps}
use Rattle.static_proofs.proofs.Names.{within_none}
use Rattle.static_proofs.proofs.Over.{built_keeps}
use Rattle.static_proofs.proofs.Plain.{expression_plain, spares_plain}
use Rattle.static_proofs.proofs.Spared.{walk_spares, spared_none}
use Rattle.static_proofs.proofs.Walked.{walks_itself}
use Rattle.static_proofs.proofs.Whole.{resolved_kept, core_kept}
use Rattle.tree_put.specs.Put as put
use Rattle.tree_put.specs.Put.{Step, steps, around, in_turn, chosen}
use Rattle.tree_put.specs.Puts.{enter, become}
use Rattle.tree_put.specs.Still.{still}
use Rattle.tree_put.specs.declared.rules.Spot.{Spot}
use Rattle.tree_put.specs.declared.rules.Spot.TheVariants as spot
use Rattle.swc_json_parse.specs.JsonText.{json_text}
use Rattle.swc_json_parse.specs.Parsing.{literal_span, first_span, is_list_literal, is_long, call_for, parse_call, parsing, parsed}

-- An expression that is built of parts of an expression.
data Did : Tree → Tree → Type 0 where
  rebuilt : {l : Label} {ss : List Span} {cs us : Forest} {u : Tree} → is_expression l ≡ true → is_expression (label_of u) ≡ true → AllDrawn cs us → Over (valid (node l ss cs) ≡ true) (fits (node l ss cs) ≡ true) us (u ⊳ ε) → Did (node l ss cs) u

did_keeps : (t u : Tree) → Did t u → Keeps t u
did_keeps t u (rebuilt p q d k) = built_keeps (expression_quiet t p).out (expression_plain t p) (expression_plain u q) (subst (λ xs. Within xs (vars t)) (sym (expression_quiet u q).no_vars) (within_none (vars t))) d k

did_spares : {P : Name → Type 0} (t u : Tree) → Did t u → Spares P t u
did_spares {P} t u (rebuilt p q d k) = spares_plain (expression_plain t p) (expression_plain u q) (subst (λ xs. Spared P xs (vars u)) (sym (expression_quiet t p).no_vars) (spared_none (vars u)))

all_parts : (ts : Forest) → AllDrawn ts ts
all_parts ε = none_drawn
all_parts (t ⊳ ts) = more_drawn all_of (all_parts ts)

no_parts : (ts : Forest) → AllDrawn ts ε
no_parts ε = none_drawn
no_parts (t ⊳ ts) = more_drawn nothing_of (no_parts ts)

joined_none : (ts : Forest) → joined ts ε ≡ ts
joined_none ε = refl
joined_none (t ⊳ ts) = ap (λ us. t ⊳ us) (joined_none ts)

over_same : {V F : Type 0} (ts : Forest) → Over V F ts ts
over_same ε = over_none
over_same (t ⊳ ts) = over_piece (over_same ts)

-- one node over all parts
over_all : {V F : Type 0} {l : Label} {ss : List Span} {us ws : Forest} → Makes V F l ws → Over V F us ws → Over V F us (node l ss ws ⊳ ε)
over_all {V} {F} {l} {ss} {us} {ws} m o = subst (λ k. Over V F k (node l ss ws ⊳ ε)) (joined_none us) (over_made m o over_none)

-- the nodes that are built
module _ {V F : Type 0} where
  call_made : (ws : Forest) → Makes V F tree.Call ws
  unfolding own_scopes
  call_made ws = record { names = λ v. refl; shape = λ v. refl; numbers = λ f. refl; scope = λ f. refl; opens_none = λ x. refl; out = refl; no_function = refl; no_jump = λ g. refl }

  type_made : (ws : Forest) → Makes V F (tree.Unary op.TypeOf) ws
  unfolding own_scopes
  type_made ws = record { names = λ v. refl; shape = λ v. refl; numbers = λ f. refl; scope = λ f. refl; opens_none = λ x. refl; out = refl; no_function = refl; no_jump = λ g. refl }

  index_made : (ws : Forest) → Makes V F tree.Index ws
  unfolding own_scopes
  index_made ws = record { names = λ v. refl; shape = λ v. refl; numbers = λ f. refl; scope = λ f. refl; opens_none = λ x. refl; out = refl; no_function = refl; no_jump = λ g. refl }

  index_called : (ws : Forest) → Makes V F tree.CallIndex ws
  unfolding own_scopes
  index_called ws = record { names = λ v. refl; shape = λ v. refl; numbers = λ f. refl; scope = λ f. refl; opens_none = λ x. refl; out = refl; no_function = refl; no_jump = λ g. refl }

  text_made : (t : Text) (ws : Forest) → Makes V F (tree.StrLit t) ws
  unfolding own_scopes
  text_made t ws = record { names = λ v. refl; shape = λ v. refl; numbers = λ f. refl; scope = λ f. refl; opens_none = λ x. refl; out = refl; no_function = refl; no_jump = λ g. refl }

  dot_made : (k : Text) (ws : Forest) → (V → is_word k ≡ true) → Makes V F (tree.Dot k) ws
  unfolding own_scopes
  dot_made k ws h = record { names = h; shape = λ v. refl; numbers = λ f. refl; scope = λ f. refl; opens_none = λ x. refl; out = refl; no_function = refl; no_jump = λ g. refl }

  dot_called : (k : Text) (ws : Forest) → (V → is_word k ≡ true) → Makes V F (tree.CallDot k) ws
  unfolding own_scopes
  dot_called k ws h = record { names = h; shape = λ v. refl; numbers = λ f. refl; scope = λ f. refl; opens_none = λ x. refl; out = refl; no_function = refl; no_jump = λ g. refl }

  name_made : (x : Name) (ws : Forest) → (V → is_identifier x.text ≡ true) → Makes V F (tree.Read x) ws
  unfolding own_scopes
  name_made x ws h = record { names = h; shape = λ v. refl; numbers = λ f. refl; scope = λ f. refl; opens_none = λ x. refl; out = refl; no_function = refl; no_jump = λ g. refl }

  name_called : (x : Name) (ws : Forest) → (V → is_identifier x.text ≡ true) → Makes V F (tree.CallEval x) ws
  unfolding own_scopes
  name_called x ws h = record { names = h; shape = λ v. refl; numbers = λ f. refl; scope = λ f. refl; opens_none = λ x. refl; out = refl; no_function = refl; no_jump = λ g. refl }

  name_typed : (x : Name) (ws : Forest) → (V → is_identifier x.text ≡ true) → Makes V F (tree.TypeOfName x) ws
  unfolding own_scopes
  name_typed x ws h = record { names = h; shape = λ v. refl; numbers = λ f. refl; scope = λ f. refl; opens_none = λ x. refl; out = refl; no_function = refl; no_jump = λ g. refl }

-- the names of a valid node, and of its first child
own_names_good : (l : Label) (ss : List Span) (cs : Forest) → valid (node l ss cs) ≡ true → good_names l ≡ true
own_names_good l ss cs h = (and_parts (good_names l) (good_shape l cs) (and_parts (good_names l && good_shape l cs) (valid_all cs) h).0).0

first_names_good : (l k : Label) (ss rs : List Span) (ds ts : Forest) → valid (node l ss (node k rs ds ⊳ ts)) ≡ true → good_names k ≡ true
first_names_good l k ss rs ds ts h = own_names_good k rs ds (and_parts (valid (node k rs ds)) (valid_all ts) (and_parts (good_names l && good_shape l (node k rs ds ⊳ ts)) (valid_all (node k rs ds ⊳ ts)) h).1).0

-- the call in a literal's place
literal_expression : (l : Label) → is_list_literal l ≡ true → is_expression l ≡ true
literal_expression (tree.Array ks) h = refl
literal_expression tree.Object h = refl
literal_expression _ h = absurd (false≢true h)

parsed_step : (l : Label) (ss : List Span) (cs : Forest) (s : Span) (x : Text) → is_list_literal l ≡ true → Did (node l ss cs) (parse_call s x)
unfolding is_identifier
parsed_step l ss cs s x h = rebuilt (literal_expression l h) refl (no_parts cs) (over_made (dot_called _ _ (λ v. refl)) (over_made (name_made _ ε (λ v. refl)) over_none (over_made (text_made x ε) over_none over_none)) over_none)

-- what is part of a call's or an operator's label becomes a node of its own
dot_apart : (k : Text) (ss rs : List Span) (o : Tree) (ts : Forest) → Did (node (tree.CallDot k) ss (o ⊳ ts)) (node tree.Call [] (node (tree.Dot k) rs (o ⊳ ε) ⊳ ts))
dot_apart k ss rs o ts = rebuilt refl refl (all_parts (o ⊳ ts)) (over_all (call_made _) (over_made (dot_made k (o ⊳ ε) (own_names_good (tree.CallDot k) ss (o ⊳ ts))) (over_same (o ⊳ ε)) (over_same ts)))

index_apart : (ss rs : List Span) (o i : Tree) (ts : Forest) → Did (node tree.CallIndex ss (o ⊳ i ⊳ ts)) (node tree.Call [] (node tree.Index rs (o ⊳ i ⊳ ε) ⊳ ts))
index_apart ss rs o i ts = rebuilt refl refl (all_parts (o ⊳ i ⊳ ts)) (over_all (call_made _) (over_made (index_made (o ⊳ i ⊳ ε)) (over_same (o ⊳ i ⊳ ε)) (over_same ts)))

name_apart : (x : Name) (ss qs rs : List Span) (ts : Forest) → Did (node (tree.CallEval x) ss ts) (node tree.Call qs (node (tree.Read x) rs ε ⊳ ts))
name_apart x ss qs rs ts = rebuilt refl refl (all_parts ts) (over_all (call_made _) (over_made (name_made x ε (own_names_good (tree.CallEval x) ss ts)) over_none (over_same ts)))

typed_apart : (x : Name) (ss rs : List Span) (ts : Forest) → Did (node (tree.TypeOfName x) ss ts) (node (tree.Unary op.TypeOf) [] (node (tree.Read x) rs ts ⊳ ε))
typed_apart x ss rs ts = rebuilt refl refl (all_parts ts) (over_all (type_made _) (over_all (name_made x ts (own_names_good (tree.TypeOfName x) ss ts)) (over_same ts)))

-- a member of a node's first child, and the others
first_parts : (k : Label) (rs : List Span) (ds ts : Forest) → is_expression k ≡ true → AllDrawn (node k rs ds ⊳ ts) (joined ds ts)
first_parts k rs ds ts e = more_drawn (part_of (expression_quiet (node k rs ds) e).out (all_parts ds)) (all_parts ts)

over_then : {V F : Type 0} (ds ts : Forest) → Over V F (joined ds ts) (then_all ds ts)
over_then ε ts = over_same ts
over_then (t ⊳ ds) ts = over_piece (over_then ds ts)

-- what is called, or stands under `typeof`, becomes part of the label
called_step : (r : Span) (rs : List Span) (t : Tree) (ts : Forest) → Did (node tree.Call rs (t ⊳ ts)) (call_node r t ts)
unfolding call_node
called_step r rs (node (tree.Dot k) qs ds) ts = rebuilt refl refl (first_parts (tree.Dot k) qs ds ts refl) (over_all (dot_called k _ (first_names_good tree.Call (tree.Dot k) rs qs ds ts)) (over_then ds ts))
called_step r rs (node tree.Index qs ds) ts = rebuilt refl refl (first_parts tree.Index qs ds ts refl) (over_all (index_called _) (over_then ds ts))
called_step r rs (node (tree.Read x) qs ds) ts = by_eval (is_eval x)
  where
    by_eval : (b : Bool) → Did (node tree.Call rs (node (tree.Read x) qs ds ⊳ ts)) (if b then node (tree.CallEval x) (r ∷ qs) ts else node tree.Call (r ∷ []) (node (tree.Read x) qs ds ⊳ ts))
    by_eval true = rebuilt refl refl (more_drawn nothing_of (all_parts ts)) (over_all (name_called x ts (first_names_good tree.Call (tree.Read x) rs qs ds ts)) (over_same ts))
    by_eval false = rebuilt refl refl (all_parts (node (tree.Read x) qs ds ⊳ ts)) (over_all (call_made _) (over_same (node (tree.Read x) qs ds ⊳ ts)))
called_step r rs t ts = rebuilt refl refl (all_parts (t ⊳ ts)) (over_all (call_made _) (over_same (t ⊳ ts)))

typed_step : (r : Span) (rs : List Span) (t : Tree) → Did (node (tree.Unary op.TypeOf) rs (t ⊳ ε)) (unary_node op.TypeOf r t)
unfolding unary_node
typed_step r rs (node (tree.Read x) qs ds) = rebuilt refl refl (subst (λ k. AllDrawn (node (tree.Read x) qs ds ⊳ ε) k) (joined_none ds) (first_parts (tree.Read x) qs ds ε refl)) (over_all (name_typed x ds (first_names_good (tree.Unary op.TypeOf) (tree.Read x) rs qs ds ε)) (over_same ds))
typed_step r rs t = rebuilt refl refl (all_parts (t ⊳ ε)) (over_all (type_made _) (over_same (t ⊳ ε)))

-- trees in a row that are walked
data Going : Forest → List (Step ℕ) → Type 0 where
  no_more : Going ε []
  and_more : {t : Tree} {f : Step ℕ} {ts : Forest} {fs : List (Step ℕ)} → ((s : ℕ) (p : Spot) → Walks Did t (f s p).0) → Going ts fs → Going (t ⊳ ts) (f ∷ fs)

all_go : {ts : Forest} {fs : List (Step ℕ)} → Going ts fs → (s : ℕ) → AllWalk Did ts (in_turn fs s).0
all_go no_more s = nothing
all_go (and_more h rest) s = both (h s spot.Here) (all_go rest _)

if_walks : {S : Type 0} (t : Tree) (b : Bool) (x y : Tree × S) → Walks Did t x.0 → Walks Did t y.0 → Walks Did t (if b then x else y).0
if_walks t true x y h k = h
if_walks t false x y h k = k

around_walks : (s : ℕ) (l : Label) (ss : List Span) (ts : Forest) {fs : List (Step ℕ)} → Going ts fs → Walks Did (node l ss ts) (around (still parsing) s l ss ts fs).0
unfolding around call_node unary_node
around_walks s (tree.CallDot k) [] (o ⊳ ts) (and_more h rest) = early (dot_apart k [] [] o ts) (inside (both (inside (both (h s spot.Here) nothing)) (all_go rest _)))
around_walks s (tree.CallDot k) (r ∷ rs) (o ⊳ ts) (and_more h rest) = inside (both (h s spot.Here) (all_go rest _))
around_walks s tree.CallIndex [] (o ⊳ i ⊳ ts) (and_more h (and_more k rest)) = early (index_apart [] [] o i ts) (inside (both (inside (both (h s spot.Here) (both (k _ spot.Here) nothing))) (all_go rest _)))
around_walks s tree.CallIndex (r ∷ rs) (o ⊳ i ⊳ ts) (and_more h (and_more k rest)) = inside (both (h s spot.Here) (both (k _ spot.Here) (all_go rest _)))
around_walks s (tree.CallEval x) [] ts h = early (name_apart x [] [] [] ts) (inside (both (inside nothing) (all_go h _)))
around_walks s (tree.CallEval x) (r ∷ rs) ts {fs} h = by_eval (is_eval x)
  where
    by_eval : (b : Bool) → Walks Did (node (tree.CallEval x) (r ∷ rs) ts) (if b then node (tree.CallEval x) (r ∷ rs) (in_turn fs s).0 else node tree.Call (r ∷ []) (node (tree.Read x) rs ε ⊳ (in_turn fs s).0))
    by_eval true = inside (all_go h s)
    by_eval false = early (name_apart x (r ∷ rs) (r ∷ []) rs ts) (inside (both (inside nothing) (all_go h s)))
around_walks s tree.Call [] (t ⊳ ts) (and_more h rest) = inside (both (h s spot.Callee) (all_go rest _))
around_walks s tree.Call (r ∷ rs) (t ⊳ ts) (and_more h rest) = (then) (inside (both (h s spot.Callee) (all_go rest _))) (called_step r (r ∷ rs) _ _)
around_walks s (tree.TypeOfName x) [] ts h = early (typed_apart x [] [] ts) (inside (both (inside (all_go h s)) nothing))
around_walks s (tree.TypeOfName x) (r ∷ rs) ts h = inside (all_go h s)
around_walks s (tree.Unary op.TypeOf) [] (t ⊳ ε) (and_more h no_more) = inside (both (h s spot.Operand) nothing)
around_walks s (tree.Unary op.TypeOf) (r ∷ rs) (t ⊳ ε) (and_more h no_more) = (then) (inside (both (h s spot.Operand) nothing)) (typed_step r (r ∷ rs) _)
around_walks s (tree.Unary op.Delete) ss ts h = walks_itself Did _
around_walks s (tree.Import src) ss ts h = walks_itself Did _
around_walks s (tree.Shorthand x) ss ts h = walks_itself Did _
around_walks s tree.Method ss (t ⊳ ts) (and_more h rest) = inside (both (h s spot.Here) (all_go rest _))
around_walks s (tree.Switch ds) ss (t ⊳ ts) (and_more h rest) = inside (both (h s spot.Here) (all_go rest _))
around_walks s (tree.Try (Some o)) ss (b ⊳ t ⊳ e ⊳ ε) (and_more h (and_more i (and_more j no_more))) = inside (both (h s spot.Here) (both (i _ spot.Here) (both (j _ spot.Here) nothing)))
around_walks s (tree.ExportSpecifier x i) ss ts h = walks_itself Did _
around_walks s tree.Absent ss ts h = inside (all_go h _)
around_walks s (tree.FnDecl x0) ss ts h = inside (all_go h _)
around_walks s l ss ts h = inside (all_go h _)

-- what is chosen at a node
chosen_walks : (s : ℕ) (l : Label) (ss : List Span) (cs : Forest) (x : Tree × ℕ) → Walks Did (node l ss cs) x.0 → Walks Did (node l ss cs) (chosen (call_for s (literal_span (node l ss cs)) (json_text (node l ss cs)), s) (node l ss cs) x).0
chosen_walks s l ss cs x w = by_label (is_list_literal l) refl
  where
    by_length : (b : Bool) (t : Text) → is_list_literal l ≡ true → Walks Did (node l ss cs) (chosen (if b then become (parse_call (first_span ss) t) else enter, s) (node l ss cs) x).0
    by_length true t e = early (parsed_step l ss cs (first_span ss) t e) (walks_itself Did _)
    by_length false t e = w

    by_text : (q : Option Text) → is_list_literal l ≡ true → Walks Did (node l ss cs) (chosen (call_for s (Some (first_span ss)) q, s) (node l ss cs) x).0
    by_text None e = w
    by_text (Some t) e = by_length (is_long s t) t e

    by_label : (b : Bool) → is_list_literal l ≡ b → Walks Did (node l ss cs) (chosen (call_for s (if b then Some (first_span ss) else None) (json_text (node l ss cs)), s) (node l ss cs) x).0
    by_label true e = by_text (json_text (node l ss cs)) e
    by_label false e = w

mutual
  unfolding put.put steps

  put_walks : (t : Tree) (s : ℕ) (p : Spot) → Walks Did t (put.put (still parsing) t s p).0
  put_walks (node l ss cs) s p =
      let w : Walks Did (node l ss cs) (around (still parsing) s l ss cs (steps (still parsing) cs)).0 = around_walks s l ss cs (steps_go cs) in
      if_walks (node l ss cs) (is_expression l) _ _ (chosen_walks s l ss cs (around (still parsing) s l ss cs (steps (still parsing) cs)) w) w

  steps_go : (ts : Forest) → Going ts (steps (still parsing) ts)
  steps_go ε = no_more
  steps_go (t ⊳ ts) = and_more (λ s p. put_walks t s p) (steps_go ts)

parsed_walks : (least : ℕ) (t : Tree) → Walks Did t (parsed least t)
parsed_walks least t = put_walks t least spot.Here

pub parsed_resolved : (least mark : ℕ) (t : Tree) → IsResolved mark t → IsResolved mark (parsed least t)
parsed_resolved least mark t r = resolved_kept {P = λ x. Unit {0}} (walk_keeps did_keeps (parsed_walks least t)) (walk_spares did_spares (parsed_walks least t)) (λ x e. tt) r

pub parsed_core : (least : ℕ) (t : Tree) → IsCore t → IsCore (parsed least t)
parsed_core least t c = core_kept (walk_keeps did_keeps (parsed_walks least t)) c

pub parsed_valid : (least : ℕ) (t : Tree) → valid t ≡ true → valid (parsed least t) ≡ true
parsed_valid least t h = (walk_keeps did_keeps (parsed_walks least t)).valid_kept h
