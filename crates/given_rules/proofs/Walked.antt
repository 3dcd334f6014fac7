-- What the walk makes of a tree is what is put in its places.
use Rattle.std.proofs.Common.{◌≡◌, Bool, true, false, not, if◌then◌else◌, List, [], ◌∷◌, Option, Some, None, refl, sym, ap, ◌∙◌}
use Rattle.std.proofs.lemmas.Bool.{and_parts, false≢true, true≢false}
use Rattle.swc_ast.specs.Labels.{is_expression}
use Rattle.swc_ast.specs.declared.Span.{Span}
use Rattle.swc_ast.specs.declared.UnaryOp.TheVariants as op
use Rattle.swc_ast.specs.Expressions.{is_eval, call_node, unary_node}
use Rattle.swc_ast.specs.Tree as tree
use Rattle.swc_ast.specs.Tree.{Name, Label, Tree, node, Forest, ε, ◌⊳◌}
use Rattle.tree_put.specs.Put as walk
use Rattle.tree_put.specs.Put.{chosen, expanded, under, in_turn, steps}
use Rattle.tree_put.specs.Puts.{Answer}
use Rattle.tree_put.specs.Still.{still}
use Rattle.tree_put.specs.declared.rules.Spot.{Spot}
use Rattle.tree_put.specs.declared.rules.Spot.TheVariants as spot
use Rattle.given_shield.specs.Shield.{is_bare_callee}
use Rattle.given_rules.specs.Formed.{is_name, fine, formed, all_formed}
use Rattle.given_rules.specs.Put.{here, callee, operand, Puts, or_parts, called, of_type, as_property, first_spot, around, put, put_all}
use Rattle.given_rules.specs.Walk.{answer}

-- what is put stands alone where it is called, and only expressions take places
pub record Told (X : Puts) : Type 0 where
  pub property : (x : Name) (ss : List Span) → X.expression spot.Property (node (tree.Read x) ss ε) ≡ X.property x
  pub others : (p : Spot) (l : Label) (ss : List Span) (cs : Forest) → is_expression l ≡ false → X.expression p (node l ss cs) ≡ None
  pub alone : (t v : Tree) → X.expression callee t ≡ Some v → is_bare_callee v ≡ false

pub not_true : (b : Bool) → not b ≡ true → b ≡ false
not_true true e = absurd (false≢true e)
not_true false e = refl

-- each tree in a row
pub data Each (P : Tree → Type 0) : Forest → Type 0 where
  none : Each P ε
  more : {t : Tree} {ts : Forest} → P t → Each P ts → Each P (t ⊳ ts)

-- a call of what stands alone
pub call_alone : (s : Span) (v : Tree) (args : Forest) → is_bare_callee v ≡ false → call_node s v args ≡ node tree.Call (s ∷ []) (v ⊳ args)
unfolding call_node
call_alone s (node (tree.Dot k) ss cs) args e = absurd (true≢false e)
call_alone s (node tree.Index ss cs) args e = absurd (true≢false e)
call_alone s (node (tree.Read x) ss cs) args e = ap (λ b. if b then node (tree.CallEval x) (s ∷ ss) args else node tree.Call (s ∷ []) (node (tree.Read x) ss cs ⊳ args)) e
call_alone s (node l ss cs) args e = refl

pub call_dot : (s : Span) (k : List _) (rs : List Span) (o : Tree) (args : Forest) → call_node s (node (tree.Dot k) rs (o ⊳ ε)) args ≡ node (tree.CallDot k) (s ∷ rs) (o ⊳ args)
unfolding call_node
call_dot s k rs o args = refl

pub call_index : (s : Span) (rs : List Span) (o j : Tree) (args : Forest) → call_node s (node tree.Index rs (o ⊳ j ⊳ ε)) args ≡ node tree.CallIndex (s ∷ rs) (o ⊳ j ⊳ args)
unfolding call_node
call_index s rs o j args = refl

pub call_eval : (s : Span) (x : Name) (rs : List Span) (args : Forest) → is_eval x ≡ true → call_node s (node (tree.Read x) rs ε) args ≡ node (tree.CallEval x) (s ∷ rs) args
unfolding call_node
call_eval s x rs args e = ap (λ b. if b then node (tree.CallEval x) (s ∷ rs) args else node tree.Call (s ∷ []) (node (tree.Read x) rs ε ⊳ args)) e

-- `typeof` of a name, and of another operand
pub type_name : (s : Span) (x : Name) (rs : List Span) → unary_node op.TypeOf s (node (tree.Read x) rs ε) ≡ node (tree.TypeOfName x) (s ∷ rs) ε
unfolding unary_node
type_name s x rs = refl

pub type_alone : (s : Span) (v : Tree) → is_name v ≡ false → unary_node op.TypeOf s v ≡ node (tree.Unary op.TypeOf) (s ∷ []) (v ⊳ ε)
unfolding unary_node
type_alone s (node (tree.Read x) ss cs) e = absurd (true≢false e)
type_alone s (node l ss cs) e = refl

-- `typeof` is neither a member nor a name
typed_callee : (ss : List Span) (v : Tree) → is_bare_callee (walk.of_type ss v) ≡ false
unfolding unary_node
typed_callee [] v = refl
typed_callee (s ∷ ss) (node (tree.Read x) rs cs) = refl
typed_callee (s ∷ ss) (node l rs cs) = refl

typed_name : (ss : List Span) (v : Tree) → is_name (walk.of_type ss v) ≡ false
unfolding unary_node
typed_name [] v = refl
typed_name (s ∷ ss) (node (tree.Read x) rs cs) = refl
typed_name (s ∷ ss) (node l rs cs) = refl

module _ {X : Puts} (told : Told X) where
  called_bare : (o : Option Tree) (ss : List Span) (us : Forest) (t : Tree) → is_bare_callee t ≡ false → is_bare_callee (called o ss us t) ≡ false
  called_bare None ss us t e = e
  called_bare (Some v) ss us t e = refl

  called_name : (o : Option Tree) (ss : List Span) (us : Forest) (t : Tree) → is_name t ≡ false → is_name (called o ss us t) ≡ false
  called_name None ss us t e = e
  called_name (Some v) ss us t e = refl

  type_bare : (o : Option Tree) (ss : List Span) (t : Tree) → is_bare_callee t ≡ false → is_bare_callee (of_type o ss t) ≡ false
  type_bare None ss t e = e
  type_bare (Some v) ss t e = typed_callee ss v

  type_no_name : (o : Option Tree) (ss : List Span) (t : Tree) → is_name t ≡ false → is_name (of_type o ss t) ≡ false
  type_no_name None ss t e = e
  type_no_name (Some v) ss t e = typed_name ss v

  property_bare : (o : Option Tree) (x : Name) (ss : List Span) (t : Tree) → is_bare_callee t ≡ false → is_bare_callee (as_property o x ss t) ≡ false
  property_bare None x ss t e = e
  property_bare (Some v) x ss t e = refl

  property_name : (o : Option Tree) (x : Name) (ss : List Span) (t : Tree) → is_name t ≡ false → is_name (as_property o x ss t) ≡ false
  property_name None x ss t e = e
  property_name (Some v) x ss t e = refl

  -- a node that may be called bare may still be
  around_bare : (l : Label) (ss : List Span) (cs us : Forest) → is_bare_callee (node l ss cs) ≡ false → is_bare_callee (around X l ss cs us) ≡ false
  around_bare (tree.Dot k) ss cs us e = absurd (true≢false e)
  around_bare tree.Index ss cs us e = absurd (true≢false e)
  around_bare (tree.Read x) ss cs us e = e
  around_bare (tree.CallDot k) ss ε us e = refl
  around_bare (tree.CallDot k) ss (o ⊳ cs) ε e = refl
  around_bare (tree.CallDot k) ss (o ⊳ cs) (u ⊳ us) e = called_bare (X.expression callee (node (tree.Dot k) _ (o ⊳ ε))) ss us _ refl
  around_bare tree.CallIndex ss ε us e = refl
  around_bare tree.CallIndex ss (o ⊳ ε) us e = refl
  around_bare tree.CallIndex ss (o ⊳ j ⊳ cs) ε e = refl
  around_bare tree.CallIndex ss (o ⊳ j ⊳ cs) (u ⊳ ε) e = refl
  around_bare tree.CallIndex ss (o ⊳ j ⊳ cs) (u ⊳ v ⊳ us) e = called_bare (X.expression callee (node tree.Index _ (o ⊳ j ⊳ ε))) ss us _ refl
  around_bare (tree.CallEval x) ss cs us e = called_bare (X.expression callee (node (tree.Read x) _ ε)) ss us _ refl
  around_bare (tree.TypeOfName x) ss cs us e = type_bare (X.expression operand (node (tree.Read x) _ ε)) ss _ refl
  around_bare (tree.Unary op.TypeOf) ss ε us e = refl
  around_bare (tree.Unary op.TypeOf) ss (t ⊳ ε) us e = type_bare (X.expression operand t) ss _ refl
  around_bare (tree.Unary op.TypeOf) ss (t ⊳ u ⊳ cs) us e = refl
  around_bare (tree.Unary op.Minus) ss cs us e = refl
  around_bare (tree.Unary op.Plus) ss cs us e = refl
  around_bare (tree.Unary op.Bang) ss cs us e = refl
  around_bare (tree.Unary op.Tilde) ss cs us e = refl
  around_bare (tree.Unary op.Void) ss cs us e = refl
  around_bare (tree.Unary op.Delete) ss cs us e = refl
  around_bare (tree.Shorthand x) ss cs us e = property_bare (X.property x) x ss _ refl
  around_bare tree.ExportNamed ss cs us e = refl
  around_bare l ss cs us e = refl

  around_name : (l : Label) (ss : List Span) (cs us : Forest) → is_name (node l ss cs) ≡ false → is_name (around X l ss cs us) ≡ false
  around_name (tree.Read x) ss cs us e = absurd (true≢false e)
  around_name (tree.CallDot k) ss ε us e = refl
  around_name (tree.CallDot k) ss (o ⊳ cs) ε e = refl
  around_name (tree.CallDot k) ss (o ⊳ cs) (u ⊳ us) e = called_name (X.expression callee (node (tree.Dot k) _ (o ⊳ ε))) ss us _ refl
  around_name tree.CallIndex ss ε us e = refl
  around_name tree.CallIndex ss (o ⊳ ε) us e = refl
  around_name tree.CallIndex ss (o ⊳ j ⊳ cs) ε e = refl
  around_name tree.CallIndex ss (o ⊳ j ⊳ cs) (u ⊳ ε) e = refl
  around_name tree.CallIndex ss (o ⊳ j ⊳ cs) (u ⊳ v ⊳ us) e = called_name (X.expression callee (node tree.Index _ (o ⊳ j ⊳ ε))) ss us _ refl
  around_name (tree.CallEval x) ss cs us e = called_name (X.expression callee (node (tree.Read x) _ ε)) ss us _ refl
  around_name (tree.TypeOfName x) ss cs us e = type_no_name (X.expression operand (node (tree.Read x) _ ε)) ss _ refl
  around_name (tree.Unary op.TypeOf) ss ε us e = refl
  around_name (tree.Unary op.TypeOf) ss (t ⊳ ε) us e = type_no_name (X.expression operand t) ss _ refl
  around_name (tree.Unary op.TypeOf) ss (t ⊳ u ⊳ cs) us e = refl
  around_name (tree.Unary op.Minus) ss cs us e = refl
  around_name (tree.Unary op.Plus) ss cs us e = refl
  around_name (tree.Unary op.Bang) ss cs us e = refl
  around_name (tree.Unary op.Tilde) ss cs us e = refl
  around_name (tree.Unary op.Void) ss cs us e = refl
  around_name (tree.Unary op.Delete) ss cs us e = refl
  around_name (tree.Shorthand x) ss cs us e = property_name (X.property x) x ss _ refl
  around_name tree.ExportNamed ss cs us e = refl
  around_name l ss cs us e = refl

  -- what may be called bare may still be, once something is put in its places
  put_bare : (t : Tree) → is_bare_callee t ≡ false → is_bare_callee (put X callee t) ≡ false
  unfolding put
  put_bare (node l ss cs) e = by (X.expression callee (node l ss cs)) refl
    where
      by : (o : Option Tree) → X.expression callee (node l ss cs) ≡ o → is_bare_callee (or_parts o (around X l ss cs (put_all X (first_spot l) cs))) ≡ false
      by None q = around_bare l ss cs (put_all X (first_spot l) cs) e
      by (Some v) q = told.alone (node l ss cs) v q

  -- an operand for which nothing stands is no name where it was none
  put_operand : (s : Span) (t : Tree) (o : Option Tree) → X.expression operand t ≡ o → is_name t ≡ false → walk.of_type (s ∷ []) (put X operand t) ≡ of_type o (s ∷ []) (node (tree.Unary op.TypeOf) (s ∷ []) (put X operand t ⊳ ε))
  unfolding put
  put_operand s (node l ss cs) (Some v) q e = ap (λ o. unary_node op.TypeOf s (or_parts o (around X l ss cs (put_all X (first_spot l) cs)))) q
  put_operand s (node l ss cs) None q e = type_alone s (put X operand (node l ss cs)) (ap (λ o. is_name (or_parts o (around X l ss cs (put_all X (first_spot l) cs)))) q ∙ around_name l ss cs (put_all X (first_spot l) cs) e)

  -- a call, by what takes the place of a part
  called_at : (s : Span) (ss : List Span) (p t w : Tree) (o : Option Tree) (us : Forest) → X.expression callee t ≡ o → call_node s p us ≡ w → call_node s (or_parts o p) us ≡ called o (s ∷ ss) us w
  called_at s ss p t w None us q e = e
  called_at s ss p t w (Some v) us q e = call_alone s v us (told.alone t v q)

  typed_at : (s : Span) (rs : List Span) (x : Name) (o : Option Tree) → unary_node op.TypeOf s (or_parts o (node (tree.Read x) rs ε)) ≡ of_type o (s ∷ rs) (node (tree.TypeOfName x) (s ∷ rs) ε)
  typed_at s rs x None = type_name s x rs
  typed_at s rs x (Some v) = refl

  module _ {K : Type 0} (A : K → Spot → Tree → Answer) (k : K) (is : (p : Spot) (t : Tree) → A k p t ≡ answer (X.expression p t)) where
    choose : (o : Option Tree) (t g : Tree) (r : Tree × K) → r ≡ (g, k) → chosen (answer o, k) t r ≡ (or_parts o g, k)
    choose None t g r e = e
    choose (Some v) t g r e = refl

    chosen_at : (p : Spot) (t g : Tree) (r : Tree × K) → r ≡ (g, k) → chosen (A k p t, k) t r ≡ (or_parts (X.expression p t) g, k)
    chosen_at p t g r e = ap (λ a. chosen (a, k) t r) (is p t) ∙ choose (X.expression p t) t g r e

    expand : (o : Option Tree) (x : Name) (ss : List Span) (t : Tree) → expanded (answer o, k) x ss t ≡ (as_property o x ss t, k)
    expand None x ss t = refl
    expand (Some v) x ss t = refl

    expanded_at : (x : Name) (ss : List Span) (t : Tree) → expanded (A k spot.Property (node (tree.Read x) ss ε), k) x ss t ≡ (as_property (X.property x) x ss t, k)
    expanded_at x ss t = ap (λ a. expanded (a, k) x ss t) (is spot.Property (node (tree.Read x) ss ε) ∙ ap answer (told.property x ss)) ∙ expand (X.property x) x ss t

    -- a node by what becomes of it where nothing takes its place
    node_at : (l : Label) (ss : List Span) (cs : Forest) (p : Spot) → walk.around (still A) k l ss cs (steps (still A) cs) ≡ (around X l ss cs (put_all X (first_spot l) cs), k) → walk.put (still A) (node l ss cs) k p ≡ (put X p (node l ss cs), k)
    unfolding walk.put put
    node_at l ss cs p e = by (is_expression l) refl
      where
        by : (b : Bool) → is_expression l ≡ b → (if b then chosen (A k p (node l ss cs), k) (node l ss cs) (walk.around (still A) k l ss cs (steps (still A) cs)) else walk.around (still A) k l ss cs (steps (still A) cs)) ≡ (or_parts (X.expression p (node l ss cs)) (around X l ss cs (put_all X (first_spot l) cs)), k)
        by true q = chosen_at p (node l ss cs) _ _ e
        by false q = e ∙ ap (λ o. (or_parts o (around X l ss cs (put_all X (first_spot l) cs)), k)) (sym (told.others p l ss cs q))

    -- a tree, wherever it stands
    abbrev W : Tree → Type 0
    W t = (p : Spot) → walk.put (still A) t k p ≡ (put X p t, k)

    turn : {ts : Forest} → Each W ts → in_turn (steps (still A) ts) k ≡ (put_all X here ts, k)
    unfolding steps put_all
    turn none = refl
    turn (more {t} {ts} h w) = ap (λ a. let b = in_turn (steps (still A) ts) a.1 in (a.0 ⊳ b.0, b.1)) (h here) ∙ ap (λ b. (put X here t ⊳ b.0, b.1)) (turn w)

    parts_walked : (l : Label) (ss : List Span) (cs : Forest) → fine l ss cs ≡ true → Each W cs → walk.around (still A) k l ss cs (steps (still A) cs) ≡ (around X l ss cs (put_all X (first_spot l) cs), k)
    unfolding steps put_all walk.around
    parts_walked (tree.CallDot m) [] cs e w = absurd (false≢true e)
    parts_walked (tree.CallDot m) (s ∷ rs) ε e w = refl
    parts_walked (tree.CallDot m) (s ∷ rs) (o ⊳ ts) e (more h w) =
        let t : Tree = node (tree.Dot m) rs (o ⊳ ε) in
        let g : Tree = node (tree.Dot m) rs (put X here o ⊳ ε) in
        ap (λ c. let d = in_turn (steps (still A) ts) c.1 in (walk.called (s ∷ rs) c.0 d.0, d.1)) (chosen_at callee t g _ (ap (λ b. (node (tree.Dot m) rs (b.0 ⊳ ε), b.1)) (h here)))
        ∙ ap (λ d. (walk.called (s ∷ rs) (or_parts (X.expression callee t) g) d.0, d.1)) (turn w)
        ∙ ap (λ u. (u, k)) (called_at s rs g t _ (X.expression callee t) (put_all X here ts) refl (call_dot s m rs (put X here o) (put_all X here ts)))
    parts_walked tree.CallIndex [] cs e w = absurd (false≢true e)
    parts_walked tree.CallIndex (s ∷ rs) ε e w = refl
    parts_walked tree.CallIndex (s ∷ rs) (o ⊳ ε) e w = ap (under tree.CallIndex (s ∷ rs)) (turn w)
    parts_walked tree.CallIndex (s ∷ rs) (o ⊳ j ⊳ ts) e (more h (more i w)) =
        let t : Tree = node tree.Index rs (o ⊳ j ⊳ ε) in
        let g : Tree = node tree.Index rs (put X here o ⊳ put X here j ⊳ ε) in
        ap (λ c. let d = in_turn (steps (still A) ts) c.1 in (walk.called (s ∷ rs) c.0 d.0, d.1)) (chosen_at callee t g _ (ap (λ b. let i = walk.put (still A) j b.1 here in (node tree.Index rs (b.0 ⊳ i.0 ⊳ ε), i.1)) (h here) ∙ ap (λ i. (node tree.Index rs (put X here o ⊳ i.0 ⊳ ε), i.1)) (i here)))
        ∙ ap (λ d. (walk.called (s ∷ rs) (or_parts (X.expression callee t) g) d.0, d.1)) (turn w)
        ∙ ap (λ u. (u, k)) (called_at s rs g t _ (X.expression callee t) (put_all X here ts) refl (call_index s rs (put X here o) (put X here j) (put_all X here ts)))
    parts_walked (tree.CallEval x) [] ts e w = absurd (false≢true e)
    parts_walked (tree.CallEval x) (s ∷ rs) ts e w =
        let t : Tree = node (tree.Read x) rs ε in
        ap (λ c. let d = in_turn (steps (still A) ts) c.1 in (walk.called (s ∷ rs) c.0 d.0, d.1)) (chosen_at callee t t _ refl)
        ∙ ap (λ d. (walk.called (s ∷ rs) (or_parts (X.expression callee t) t) d.0, d.1)) (turn w)
        ∙ ap (λ u. (u, k)) (called_at s rs t t _ (X.expression callee t) (put_all X here ts) refl (call_eval s x rs (put_all X here ts) e))
    parts_walked tree.Call [] cs e w = absurd (false≢true e)
    parts_walked tree.Call (s ∷ r ∷ rs) cs e w = absurd (false≢true e)
    parts_walked tree.Call (s ∷ []) ε e w = absurd (false≢true e)
    parts_walked tree.Call (s ∷ []) (t ⊳ ts) e (more h w) =
        ap (λ c. let d = in_turn (steps (still A) ts) c.1 in (walk.called (s ∷ []) c.0 d.0, d.1)) (h callee)
        ∙ ap (λ d. (walk.called (s ∷ []) (put X callee t) d.0, d.1)) (turn w)
        ∙ ap (λ u. (u, k)) (call_alone s (put X callee t) (put_all X here ts) (put_bare t (not_true (is_bare_callee t) e)))
    parts_walked (tree.TypeOfName x) [] cs e w = absurd (false≢true e)
    parts_walked (tree.TypeOfName x) (s ∷ rs) (t ⊳ ts) e w = absurd (false≢true e)
    parts_walked (tree.TypeOfName x) (s ∷ rs) ε e w =
        let t : Tree = node (tree.Read x) rs ε in
        ap (λ c. (walk.of_type (s ∷ rs) c.0, c.1)) (chosen_at operand t t _ refl) ∙ ap (λ u. (u, k)) (typed_at s rs x (X.expression operand t))
    parts_walked (tree.Unary op.TypeOf) [] cs e w = absurd (false≢true e)
    parts_walked (tree.Unary op.TypeOf) (s ∷ r ∷ rs) cs e w = absurd (false≢true e)
    parts_walked (tree.Unary op.TypeOf) (s ∷ []) ε e w = absurd (false≢true e)
    parts_walked (tree.Unary op.TypeOf) (s ∷ []) (t ⊳ u ⊳ ts) e w = absurd (false≢true e)
    parts_walked (tree.Unary op.TypeOf) (s ∷ []) (t ⊳ ε) e (more h w) =
        ap (λ c. (walk.of_type (s ∷ []) c.0, c.1)) (h operand) ∙ ap (λ u. (u, k)) (put_operand s t (X.expression operand t) refl (not_true (is_name t) e))
    parts_walked (tree.Unary op.Minus) ss cs e w = ap (under (tree.Unary op.Minus) ss) (turn w)
    parts_walked (tree.Unary op.Plus) ss cs e w = ap (under (tree.Unary op.Plus) ss) (turn w)
    parts_walked (tree.Unary op.Bang) ss cs e w = ap (under (tree.Unary op.Bang) ss) (turn w)
    parts_walked (tree.Unary op.Tilde) ss cs e w = ap (under (tree.Unary op.Tilde) ss) (turn w)
    parts_walked (tree.Unary op.Void) ss cs e w = ap (under (tree.Unary op.Void) ss) (turn w)
    parts_walked (tree.Unary op.Delete) ss cs e w = refl
    parts_walked (tree.Import src) ss cs e w = refl
    parts_walked (tree.Shorthand x) ss (t ⊳ ts) e w = absurd (false≢true e)
    parts_walked (tree.Shorthand x) ss ε e w = expanded_at x ss (node (tree.Shorthand x) ss ε)
    parts_walked (tree.ExportSpecifier x i) ss (t ⊳ ts) e w = absurd (false≢true e)
    parts_walked (tree.ExportSpecifier x i) ss ε e w = refl
    parts_walked tree.Method ss ε e w = refl
    parts_walked tree.Method ss (t ⊳ ts) e (more h w) =
        ap (λ a. let b = in_turn (steps (still A) ts) a.1 in (node tree.Method ss (a.0 ⊳ b.0), b.1)) (h here) ∙ ap (λ b. (node tree.Method ss (put X here t ⊳ b.0), b.1)) (turn w)
    parts_walked (tree.Switch ds) ss ε e w = refl
    parts_walked (tree.Switch ds) ss (t ⊳ ts) e (more h w) =
        ap (λ a. let b = in_turn (steps (still A) ts) a.1 in (node (tree.Switch ds) ss (a.0 ⊳ b.0), b.1)) (h here) ∙ ap (λ b. (node (tree.Switch ds) ss (put X here t ⊳ b.0), b.1)) (turn w)
    parts_walked (tree.Try (Some o)) ss (a ⊳ b ⊳ c ⊳ ε) e w = ap (under (tree.Try (Some o)) ss) (turn w)
    parts_walked (tree.Try o) ss cs e w = ap (under (tree.Try o) ss) (turn w)
    parts_walked (tree.Declarator j x) ss cs e w = ap (under (tree.Declarator j x) ss) (turn w)
    parts_walked (tree.Fn o) ss cs e w = ap (under (tree.Fn o) ss) (turn w)
    parts_walked (tree.FnDecl x) ss cs e w = ap (under (tree.FnDecl x) ss) (turn w)
    parts_walked (tree.ExportDefaultFn o) ss cs e w = ap (under (tree.ExportDefaultFn o) ss) (turn w)
    parts_walked tree.Arrow ss cs e w = ap (under tree.Arrow ss) (turn w)
    parts_walked tree.Block ss cs e w = ap (under tree.Block ss) (turn w)
    parts_walked tree.Body ss cs e w = ap (under tree.Body ss) (turn w)
    parts_walked tree.CaseBody ss cs e w = ap (under tree.CaseBody ss) (turn w)
    parts_walked tree.For ss cs e w = ap (under tree.For ss) (turn w)
    parts_walked tree.Module ss cs e w = ap (under tree.Module ss) (turn w)
    parts_walked tree.Script ss cs e w = ap (under tree.Script ss) (turn w)
    parts_walked l ss cs e w = ap (under l ss) (turn w)

    mutual
      pub walked : (t : Tree) (p : Spot) → formed t ≡ true → walk.put (still A) t k p ≡ (put X p t, k)
      walked (node l ss cs) p f = node_at l ss cs p (parts_walked l ss cs (and_parts (fine l ss cs) (all_formed cs) f).0 (each_walked cs (and_parts (fine l ss cs) (all_formed cs) f).1))

      each_walked : (ts : Forest) → all_formed ts ≡ true → Each W ts
      each_walked ε f = none
      each_walked (t ⊳ ts) f = more (λ p. walked t p (and_parts (formed t) (all_formed ts) f).0) (each_walked ts (and_parts (formed t) (all_formed ts) f).1)
