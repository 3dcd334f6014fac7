-- What is put keeps a tree resolved, valid and in the core.
use Rattle.std.proofs.Common.{◌≡◌, ◌≤◌, ℕ, arith, Bool, true, not, ◌&&◌, if◌then◌else◌, List, [], ◌∷◌, Option, Some, None, refl, sym, ap, subst, ◌∙◌}
use Rattle.std.proofs.lemmas.Bool.{and_parts}
use Rattle.swc_ast.specs.declared.Span.{Span}
use Rattle.swc_ast.specs.declared.UnaryOp.TheVariants.{Minus, Plus, Bang, Tilde, Void, TypeOf, Delete}
use Rattle.swc_ast.specs.Expressions.{unary_node}
use Rattle.swc_ast.specs.Tree.{Text, Name, Label, Read, KeyValue, Shorthand, TypeOfName, Unary, Dot, Index, Call, CallEval, CallDot, CallIndex, Import, Tree, node, Forest, ε, ◌⊳◌, label_of}
use Rattle.swc_ast.specs.Scope.{is_function, vars}
use Rattle.swc_ast.specs.Operators.{is_among}
use Rattle.swc_ast.specs.Valid.{is_identifier, is_word, reserved_words, good_names, good_shape, valid, valid_all}
use Rattle.swc_ast.specs.Resolved.{own_scopes, scopes, scopes_all, Targets, below, jump_is_aimed, params_apart, aimed, aimed_all, apart, apart_all, IsResolved}
use Rattle.swc_ast.specs.Core.{numbers_fit, good_scope, fits, fits_all, IsCore}
use Rattle.static_proofs.specs.Names.{Within}
use Rattle.static_proofs.specs.Keeps.{Keeps}
use Rattle.swc_ast.specs.Labels.{is_expression}
use Rattle.static_proofs.specs.Spares.{Spared, Spares}
use Rattle.static_proofs.specs.Walks.{Walks, AllWalk, inside, early, nothing, both}
use Rattle.static_proofs.proofs.Expressions.{expression_quiet}
use Rattle.static_proofs.proofs.Kept.{walk_keeps}
use Rattle.static_proofs.proofs.Names.{within_none}
use Rattle.static_proofs.proofs.Plain.{Plain, expression_plain, keeps_plain, spares_plain}
use Rattle.static_proofs.proofs.Spared.{walk_spares, spared_none}
use Rattle.static_proofs.proofs.Walked.{walks_itself}
use Rattle.static_proofs.proofs.Whole.{resolved_kept, core_kept}
use Rattle.tree_put.specs.Put as walk
use Rattle.tree_put.specs.Keys.{IsKey}
use Rattle.tree_put.specs.declared.rules.Spot.{Spot}
use Rattle.given_rules.specs.Givable.{IsGivable}
use Rattle.tree_put.proofs.Keys.{key_is, key_binds, key_aimed, key_apart, key_fits, key_valid}
use Rattle.given_rules.specs.Put.{here, callee, operand, Puts, behind, or_parts, called, of_type, as_property, first_spot, around, put, put_all}

-- what happens at a node in front of its parts
pub data Did : Tree → Tree → Type 0 where
  taken : {t v : Tree} → is_expression (label_of t) ≡ true → IsGivable v → Did t v
  dot_called : {k : Text} {ss rs : List Span} {o v : Tree} {ts : Forest} → IsGivable v → Did (node (CallDot k) ss (o ⊳ ts)) (node Call rs (v ⊳ ts))
  index_called : {ss rs : List Span} {o j v : Tree} {ts : Forest} → IsGivable v → Did (node CallIndex ss (o ⊳ j ⊳ ts)) (node Call rs (v ⊳ ts))
  name_called : {x : Name} {ss rs : List Span} {v : Tree} {ts : Forest} → IsGivable v → Did (node (CallEval x) ss ts) (node Call rs (v ⊳ ts))
  valued : {x : Name} {ss : List Span} {cs : Forest} {c v : Tree} → IsKey x.text c → IsGivable v → Did (node (Shorthand x) ss cs) (node KeyValue [] (c ⊳ v ⊳ ε))

-- two expressions of which the second holds no more
expression_keeps : {t u : Tree} → is_expression (label_of t) ≡ true → is_expression (label_of u) ≡ true → ((x : Name) → scopes x u ≤ scopes x t) → (valid t ≡ true → valid u ≡ true) → ((g : Targets) → aimed g t ≡ true → aimed g u ≡ true) → (apart t ≡ true → apart u ≡ true) → (fits t ≡ true → fits u ≡ true) → Keeps t u
expression_keeps {t} {u} p q s h a i f = keeps_plain (expression_plain t p) (expression_plain u q) s (subst (λ xs. Within xs (vars t)) (sym (expression_quiet u q).no_vars) (within_none (vars t))) h a i f

pub both_true : {b c : Bool} → b ≡ true → c ≡ true → (b && c) ≡ true
both_true {b} {c} p q = ap (λ d. d && c) p ∙ q

valid_children : (l : Label) (ss : List Span) (cs : Forest) → valid (node l ss cs) ≡ true → valid_all cs ≡ true
valid_children l ss cs h = (and_parts (good_names l && good_shape l cs) (valid_all cs) h).1

aimed_children : (g : Targets) (l : Label) (ss : List Span) (cs : Forest) → aimed g (node l ss cs) ≡ true → aimed_all (below l g) cs ≡ true
aimed_children g l ss cs h = (and_parts (jump_is_aimed l g) (aimed_all (below l g) cs) h).1

apart_children : (l : Label) (ss : List Span) (cs : Forest) → apart (node l ss cs) ≡ true → apart_all cs ≡ true
apart_children l ss cs h = (and_parts (if is_function l then params_apart cs else true) (apart_all cs) h).1

fits_children : (l : Label) (ss : List Span) (cs : Forest) → fits (node l ss cs) ≡ true → fits_all cs ≡ true
fits_children l ss cs h = (and_parts (good_scope l cs) (fits_all cs) (and_parts (numbers_fit l) (good_scope l cs && fits_all cs) h).1).1

valid_rest : (t : Tree) (ts : Forest) → valid_all (t ⊳ ts) ≡ true → valid_all ts ≡ true
valid_rest t ts h = (and_parts (valid t) (valid_all ts) h).1

aimed_rest : (g : Targets) (t : Tree) (ts : Forest) → aimed_all g (t ⊳ ts) ≡ true → aimed_all g ts ≡ true
aimed_rest g t ts h = (and_parts (aimed g t) (aimed_all g ts) h).1

apart_rest : (t : Tree) (ts : Forest) → apart_all (t ⊳ ts) ≡ true → apart_all ts ≡ true
apart_rest t ts h = (and_parts (apart t) (apart_all ts) h).1

fits_rest : (t : Tree) (ts : Forest) → fits_all (t ⊳ ts) ≡ true → fits_all ts ≡ true
fits_rest t ts h = (and_parts (fits t) (fits_all ts) h).1

-- a call of what was put, with arguments of which as much holds as before
called_keeps : (l : Label) (ss rs : List Span) (cs ts : Forest) (v : Tree) → is_expression l ≡ true → IsGivable v → ((x : Name) → scopes_all x ts ≤ scopes x (node l ss cs)) → (valid (node l ss cs) ≡ true → valid_all ts ≡ true) → ((g : Targets) → aimed g (node l ss cs) ≡ true → aimed_all (below Call g) ts ≡ true)
    → (apart (node l ss cs) ≡ true → apart_all ts ≡ true) → (fits (node l ss cs) ≡ true → fits_all ts ≡ true) → Keeps (node l ss cs) (node Call rs (v ⊳ ts))
unfolding own_scopes
called_keeps l ss rs cs ts v e g s h a i f = expression_keeps e refl (λ x. omega (arith, g.binds_none x, s x)) (λ p. both_true g.is_valid (h p)) (λ j p. both_true (g.jumps (below Call j)) (a j p)) (λ p. both_true g.stands_apart (i p)) (λ p. both_true g.in_core (f p))

short_plain : (x : Name) (ss : List Span) (cs : Forest) → Plain (node (Shorthand x) ss cs)
short_plain x ss cs = record { no_names = refl; no_own = refl; no_frame = refl; not_listed = refl; no_exports = refl; exports_hold = refl }

value_plain : (ss : List Span) (cs : Forest) → Plain (node KeyValue ss cs)
value_plain ss cs = record { no_names = refl; no_own = refl; no_frame = refl; not_listed = refl; no_exports = refl; exports_hold = refl }

-- an identifier is a word
word_of : (t : Text) → is_identifier t ≡ true → is_word t ≡ true
unfolding is_identifier
word_of t h = (and_parts (is_word t) (not (is_among t reserved_words)) h).0

short_word : (x : Name) (ss : List Span) (cs : Forest) → valid (node (Shorthand x) ss cs) ≡ true → is_word x.text ≡ true
short_word x ss cs h = word_of x.text (and_parts (is_identifier x.text) true (and_parts (is_identifier x.text && true) (valid_all cs) h).0).0

pub did_keeps : (t u : Tree) → Did t u → Keeps t u
unfolding own_scopes
did_keeps t u (valued {x} {ss} {cs} {c} {v} k g) = keeps_plain (short_plain x ss cs) (value_plain [] (c ⊳ v ⊳ ε)) (λ y. omega (arith, key_binds k y, g.binds_none y)) (within_none [])
    (λ h. both_true (key_valid k (short_word x ss cs h)) (both_true g.is_valid refl)) (λ j h. both_true (key_aimed k (below KeyValue j)) (both_true (g.jumps (below KeyValue j)) refl)) (λ h. both_true (key_apart k) (both_true g.stands_apart refl)) (λ h. both_true (key_fits k) (both_true g.in_core refl))
did_keeps t u (taken p g) = expression_keeps p g.expression (λ x. omega (arith, g.binds_none x)) (λ h. g.is_valid) (λ j h. g.jumps j) (λ h. g.stands_apart) (λ h. g.in_core)
did_keeps t u (dot_called {k} {ss} {rs} {o} {v} {ts} g) = called_keeps (CallDot k) ss rs (o ⊳ ts) ts v refl g (λ x. omega arith) (λ h. valid_rest o ts (valid_children (CallDot k) ss (o ⊳ ts) h)) (λ j h. aimed_rest (below (CallDot k) j) o ts (aimed_children j (CallDot k) ss (o ⊳ ts) h)) (λ h. apart_rest o ts (apart_children (CallDot k) ss (o ⊳ ts) h)) (λ h. fits_rest o ts (fits_children (CallDot k) ss (o ⊳ ts) h))
did_keeps t u (index_called {ss} {rs} {o} {j} {v} {ts} g) = called_keeps CallIndex ss rs (o ⊳ j ⊳ ts) ts v refl g (λ x. omega arith) (λ h. valid_rest j ts (valid_rest o (j ⊳ ts) (valid_children CallIndex ss (o ⊳ j ⊳ ts) h))) (λ i h. aimed_rest (below CallIndex i) j ts (aimed_rest (below CallIndex i) o (j ⊳ ts) (aimed_children i CallIndex ss (o ⊳ j ⊳ ts) h))) (λ h. apart_rest j ts (apart_rest o (j ⊳ ts) (apart_children CallIndex ss (o ⊳ j ⊳ ts) h))) (λ h. fits_rest j ts (fits_rest o (j ⊳ ts) (fits_children CallIndex ss (o ⊳ j ⊳ ts) h)))
did_keeps t u (name_called {x} {ss} {rs} {v} {ts} g) = called_keeps (CallEval x) ss rs ts ts v refl g (λ y. omega arith) (λ h. valid_children (CallEval x) ss ts h) (λ j h. aimed_children j (CallEval x) ss ts h) (λ h. apart_children (CallEval x) ss ts h) (λ h. fits_children (CallEval x) ss ts h)

did_spares : {P : Name → Type 0} (t u : Tree) → Did t u → Spares P t u
did_spares t u (valued {x} {ss} {cs} {c} {v} k g) = spares_plain (short_plain x ss cs) (value_plain [] (c ⊳ v ⊳ ε)) (spared_none [])
did_spares {P} t u (taken p g) = spares_plain (expression_plain t p) (expression_plain u g.expression) (subst (λ xs. Spared P xs (vars u)) (sym (expression_quiet t p).no_vars) (spared_none (vars u)))
did_spares t u (dot_called {k} {ss} {rs} {o} {v} {ts} g) = spares_plain (expression_plain (node (CallDot k) ss (o ⊳ ts)) refl) (expression_plain (node Call rs (v ⊳ ts)) refl) (spared_none [])
did_spares t u (index_called {ss} {rs} {o} {j} {v} {ts} g) = spares_plain (expression_plain (node CallIndex ss (o ⊳ j ⊳ ts)) refl) (expression_plain (node Call rs (v ⊳ ts)) refl) (spared_none [])
did_spares t u (name_called {x} {ss} {rs} {v} {ts} g) = spares_plain (expression_plain (node (CallEval x) ss ts) refl) (expression_plain (node Call rs (v ⊳ ts)) refl) (spared_none [])

operator_givable : (rs : List Span) (v : Tree) → IsGivable v → IsGivable (node (Unary TypeOf) rs (v ⊳ ε))
unfolding own_scopes
operator_givable rs v g = record {
  expression = refl;
  binds_none = λ x. omega (arith, g.binds_none x);
  is_valid = both_true g.is_valid refl;
  in_core = both_true g.in_core refl;
  jumps = λ j. both_true (g.jumps (below (Unary TypeOf) j)) refl;
  stands_apart = both_true g.stands_apart refl;
}

-- `typeof` of such an expression is one
pub type_givable : (ss : List Span) (v : Tree) → IsGivable v → IsGivable (walk.of_type ss v)
unfolding own_scopes unary_node
type_givable [] v g = operator_givable [] v g
type_givable (s ∷ ss) (node (Read x) rs cs) g = record { expression = refl; binds_none = g.binds_none; is_valid = g.is_valid; in_core = g.in_core; jumps = g.jumps; stands_apart = g.stands_apart }
type_givable (s ∷ ss) (node l rs cs) g = operator_givable (s ∷ []) (node l rs cs) g

-- what is put are such expressions, in places of expressions
pub record PutsGivable (X : Puts) : Type 0 where
  pub expressions : (p : Spot) (l : Label) (ss : List Span) (cs : Forest) (v : Tree) → X.expression p (node l ss cs) ≡ Some v → (is_expression l ≡ true) × IsGivable v
  pub properties : (x : Name) (v : Tree) → X.property x ≡ Some v → IsGivable v

module _ {X : Puts} (g : PutsGivable X) where
  or_walks : (p : Spot) (l : Label) (ss : List Span) (cs : Forest) (u : Tree) (o : Option Tree) → X.expression p (node l ss cs) ≡ o → Walks Did (node l ss cs) u → Walks Did (node l ss cs) (or_parts o u)
  or_walks p l ss cs u None e w = w
  or_walks p l ss cs u (Some v) e w = let q = g.expressions p l ss cs v e in early (taken q.0 q.1) (walks_itself Did v)

  dot_walks : (k : Text) (ss : List Span) (o : Tree) (ts us : Forest) (w : Tree) (m : Option Tree) → X.expression callee (node (Dot k) (behind ss) (o ⊳ ε)) ≡ m → AllWalk Did ts us → Walks Did (node (CallDot k) ss (o ⊳ ts)) w → Walks Did (node (CallDot k) ss (o ⊳ ts)) (called m ss us w)
  dot_walks k ss o ts us w None e a b = b
  dot_walks k ss o ts us w (Some v) e a b = early (dot_called (g.expressions callee (Dot k) (behind ss) (o ⊳ ε) v e).1) (inside (both (walks_itself Did v) a))

  index_walks : (ss : List Span) (o j : Tree) (ts us : Forest) (w : Tree) (m : Option Tree) → X.expression callee (node Index (behind ss) (o ⊳ j ⊳ ε)) ≡ m → AllWalk Did ts us → Walks Did (node CallIndex ss (o ⊳ j ⊳ ts)) w → Walks Did (node CallIndex ss (o ⊳ j ⊳ ts)) (called m ss us w)
  index_walks ss o j ts us w None e a b = b
  index_walks ss o j ts us w (Some v) e a b = early (index_called (g.expressions callee Index (behind ss) (o ⊳ j ⊳ ε) v e).1) (inside (both (walks_itself Did v) a))

  name_walks : (x : Name) (ss : List Span) (ts us : Forest) (w : Tree) (m : Option Tree) → X.expression callee (node (Read x) (behind ss) ε) ≡ m → AllWalk Did ts us → Walks Did (node (CallEval x) ss ts) w → Walks Did (node (CallEval x) ss ts) (called m ss us w)
  name_walks x ss ts us w None e a b = b
  name_walks x ss ts us w (Some v) e a b = early (name_called (g.expressions callee (Read x) (behind ss) ε v e).1) (inside (both (walks_itself Did v) a))

  type_walks : (x : Name) (ss : List Span) (cs : Forest) (w : Tree) (m : Option Tree) → X.expression operand (node (Read x) (behind ss) ε) ≡ m → Walks Did (node (TypeOfName x) ss cs) w → Walks Did (node (TypeOfName x) ss cs) (of_type m ss w)
  type_walks x ss cs w None e b = b
  type_walks x ss cs w (Some v) e b = early (taken refl (type_givable ss v (g.expressions operand (Read x) (behind ss) ε v e).1)) (walks_itself Did (walk.of_type ss v))

  operator_walks : (ss : List Span) (t w : Tree) (m : Option Tree) → X.expression operand t ≡ m → Walks Did (node (Unary TypeOf) ss (t ⊳ ε)) w → Walks Did (node (Unary TypeOf) ss (t ⊳ ε)) (of_type m ss w)
  operator_walks ss t w None e b = b
  operator_walks ss (node l rs ds) w (Some v) e b = early (taken refl (type_givable ss v (g.expressions operand l rs ds v e).1)) (walks_itself Did (walk.of_type ss v))

  short_walks : (x : Name) (ss : List Span) (cs : Forest) (w : Tree) (m : Option Tree) → X.property x ≡ m → Walks Did (node (Shorthand x) ss cs) w → Walks Did (node (Shorthand x) ss cs) (as_property m x ss w)
  short_walks x ss cs w None e b = b
  short_walks x ss cs w (Some v) e b = early (valued (key_is x.text ss) (g.properties x v e)) (walks_itself Did (walk.as_property x ss v))

  mutual
    unfolding put put_all

    pub put_walks : (p : Spot) (t : Tree) → Walks Did t (put X p t)
    put_walks p (node (CallDot k) ss ε) = or_walks p (CallDot k) ss ε (node (CallDot k) ss ε) (X.expression p (node (CallDot k) ss ε)) refl (inside nothing)
    put_walks p (node (CallDot k) ss (o ⊳ ts)) = or_walks p (CallDot k) ss (o ⊳ ts) (around X (CallDot k) ss (o ⊳ ts) (put_all X here (o ⊳ ts))) (X.expression p (node (CallDot k) ss (o ⊳ ts))) refl
        (dot_walks k ss o ts (put_all X here ts) (node (CallDot k) ss (put X here o ⊳ put_all X here ts)) (X.expression callee (node (Dot k) (behind ss) (o ⊳ ε))) refl (all_put_walk here ts) (inside (both (put_walks here o) (all_put_walk here ts))))
    put_walks p (node CallIndex ss ε) = or_walks p CallIndex ss ε (node CallIndex ss ε) (X.expression p (node CallIndex ss ε)) refl (inside nothing)
    put_walks p (node CallIndex ss (o ⊳ ε)) = or_walks p CallIndex ss (o ⊳ ε) (node CallIndex ss (put X here o ⊳ ε)) (X.expression p (node CallIndex ss (o ⊳ ε))) refl (inside (both (put_walks here o) nothing))
    put_walks p (node CallIndex ss (o ⊳ j ⊳ ts)) = or_walks p CallIndex ss (o ⊳ j ⊳ ts) (around X CallIndex ss (o ⊳ j ⊳ ts) (put_all X here (o ⊳ j ⊳ ts))) (X.expression p (node CallIndex ss (o ⊳ j ⊳ ts))) refl
        (index_walks ss o j ts (put_all X here ts) (node CallIndex ss (put X here o ⊳ put X here j ⊳ put_all X here ts)) (X.expression callee (node Index (behind ss) (o ⊳ j ⊳ ε))) refl (all_put_walk here ts) (inside (both (put_walks here o) (both (put_walks here j) (all_put_walk here ts)))))
    put_walks p (node (CallEval x) ss ts) = or_walks p (CallEval x) ss ts (around X (CallEval x) ss ts (put_all X here ts)) (X.expression p (node (CallEval x) ss ts)) refl
        (name_walks x ss ts (put_all X here ts) (node (CallEval x) ss (put_all X here ts)) (X.expression callee (node (Read x) (behind ss) ε)) refl (all_put_walk here ts) (inside (all_put_walk here ts)))
    put_walks p (node (TypeOfName x) ss cs) = or_walks p (TypeOfName x) ss cs (around X (TypeOfName x) ss cs (put_all X here cs)) (X.expression p (node (TypeOfName x) ss cs)) refl
        (type_walks x ss cs (node (TypeOfName x) ss (put_all X here cs)) (X.expression operand (node (Read x) (behind ss) ε)) refl (inside (all_put_walk here cs)))
    put_walks p (node (Shorthand x) ss cs) = or_walks p (Shorthand x) ss cs (around X (Shorthand x) ss cs (put_all X here cs)) (X.expression p (node (Shorthand x) ss cs)) refl
        (short_walks x ss cs (node (Shorthand x) ss (put_all X here cs)) (X.property x) refl (inside (all_put_walk here cs)))
    put_walks p (node (Unary Minus) ss cs) = or_walks p (Unary Minus) ss cs (node (Unary Minus) ss (put_all X here cs)) (X.expression p (node (Unary Minus) ss cs)) refl (inside (all_put_walk here cs))
    put_walks p (node (Unary Plus) ss cs) = or_walks p (Unary Plus) ss cs (node (Unary Plus) ss (put_all X here cs)) (X.expression p (node (Unary Plus) ss cs)) refl (inside (all_put_walk here cs))
    put_walks p (node (Unary Bang) ss cs) = or_walks p (Unary Bang) ss cs (node (Unary Bang) ss (put_all X here cs)) (X.expression p (node (Unary Bang) ss cs)) refl (inside (all_put_walk here cs))
    put_walks p (node (Unary Tilde) ss cs) = or_walks p (Unary Tilde) ss cs (node (Unary Tilde) ss (put_all X here cs)) (X.expression p (node (Unary Tilde) ss cs)) refl (inside (all_put_walk here cs))
    put_walks p (node (Unary Void) ss cs) = or_walks p (Unary Void) ss cs (node (Unary Void) ss (put_all X here cs)) (X.expression p (node (Unary Void) ss cs)) refl (inside (all_put_walk here cs))
    put_walks p (node (Unary TypeOf) ss ε) = or_walks p (Unary TypeOf) ss ε (node (Unary TypeOf) ss ε) (X.expression p (node (Unary TypeOf) ss ε)) refl (inside nothing)
    put_walks p (node (Unary TypeOf) ss (t ⊳ ε)) = or_walks p (Unary TypeOf) ss (t ⊳ ε) (around X (Unary TypeOf) ss (t ⊳ ε) (put X operand t ⊳ ε)) (X.expression p (node (Unary TypeOf) ss (t ⊳ ε))) refl
        (operator_walks ss t (node (Unary TypeOf) ss (put X operand t ⊳ ε)) (X.expression operand t) refl (inside (both (put_walks operand t) nothing)))
    put_walks p (node (Unary TypeOf) ss (t ⊳ u ⊳ cs)) = or_walks p (Unary TypeOf) ss (t ⊳ u ⊳ cs) (node (Unary TypeOf) ss (put_all X operand (t ⊳ u ⊳ cs))) (X.expression p (node (Unary TypeOf) ss (t ⊳ u ⊳ cs))) refl (inside (all_put_walk operand (t ⊳ u ⊳ cs)))
    put_walks p (node (Unary Delete) ss cs) = or_walks p (Unary Delete) ss cs (node (Unary Delete) ss cs) (X.expression p (node (Unary Delete) ss cs)) refl (walks_itself Did (node (Unary Delete) ss cs))
    put_walks p (node (Import src) ss cs) = or_walks p (Import src) ss cs (node (Import src) ss cs) (X.expression p (node (Import src) ss cs)) refl (walks_itself Did (node (Import src) ss cs))
    put_walks p (node l ss cs) = or_walks p l ss cs (node l ss (put_all X (first_spot l) cs)) (X.expression p (node l ss cs)) refl (inside (all_put_walk (first_spot l) cs))

    all_put_walk : (p : Spot) (ts : Forest) → AllWalk Did ts (put_all X p ts)
    all_put_walk p ε = nothing
    all_put_walk p (t ⊳ ts) = both (put_walks p t) (all_put_walk here ts)

  -- a module or a script stays resolved, valid and in the core
  pub put_resolved : (mark : ℕ) (l : Label) (ss : List Span) (cs : Forest) → IsResolved mark (node l ss cs) → IsResolved mark (node l ss (put_all X here cs))
  put_resolved mark l ss cs r = resolved_kept {P = λ x. Unit {0}} (walk_keeps did_keeps (inside (all_put_walk here cs))) (walk_spares did_spares (inside (all_put_walk here cs))) (λ x e. tt) r

  pub put_core : (l : Label) (ss : List Span) (cs : Forest) → IsCore (node l ss cs) → IsCore (node l ss (put_all X here cs))
  put_core l ss cs c = core_kept (walk_keeps did_keeps (inside (all_put_walk here cs))) c

  pub put_valid : (l : Label) (ss : List Span) (cs : Forest) → valid (node l ss cs) ≡ true → valid (node l ss (put_all X here cs)) ≡ true
  put_valid l ss cs h = (walk_keeps did_keeps (inside {l = l} {ss = ss} (all_put_walk here cs))).valid_kept h
