-- What the comparison of parts says of the nodes that they make up.
use Rattle.std.proofs.Common.{◌≡◌, refl, sym, ap, ◌∙◌, Bool, true, false, ◌&&◌, List, [], ◌∷◌, map, length, ◌<◌, ◌≤◌, ◌+◌, drop, get_or, subst}
use Rattle.std.proofs.lemmas.List.{drop_more, drop_all}
use Rattle.std.specs.Prelude.{ℕ, not, Option, Some, None, bytes_eq}
use Rattle.std.specs.Cmp.Lexicographic.{pointwise}
use Rattle.swc_ast.specs.Tree as tree
use Rattle.swc_ast.specs.Tree.{Name, same_name, Tree, node, Forest, ε, ◌⊳◌}
use Rattle.swc_ast.specs.Parts.{leaf, absent, list_trees, optional_trees, lit_tree, ident_name, ident_tree, word_text, option_ident_name, option_ident_spans}
use Rattle.swc_ast.specs.declared.UnaryOp.{UnaryOp}
use Rattle.swc_ast.specs.declared.UnaryOp.TheVariants as op
use Rattle.swc_ast.specs.Expressions.{unary_node, element_node, target_tree, member_node, member_update, member_assign, assign_node, update_node, key_tree, spread_kind, with_span, item_kind, item_spans, item_trees, element_tree, quasi_text, quasi_span}
use Rattle.swc_ast.specs.Statements.{declarator_tree, block_tree, option_block_tree, handler_param, handler_spans, handler_tree}
use Rattle.swc_ast.specs.Nodes.{key_of_member, init_node, option_handler_node}
use Rattle.swc_ast.proofs.Joined.{joined-2, joined-3}
use Rattle.swc_ast.proofs.Truths.{typeof-name, spans-both, never-then, never, member-dot, member-index, assign-name, assign-dot, assign-index, update-name, update-dot, update-index, try-plain, try-handler, array-parts, item-plain, item-spread, quasi-more, tpl-parts}
use Rattle.swc_ast.specs.Same.{same, same_forest, same_label, same_spans, same_span, same_assign, same_update, same_unary, same_kind, same_item, same_quasi, same_option}
use Rattle.std.specs.Bool.{beq}
use Rattle.swc_ast.specs.SameLaws.{impossible}
use Rattle.swc_ast.specs.declared.Span.{Span}
use Rattle.swc_ast.specs.declared.literals.Lit.{Lit}
use Rattle.swc_ast.specs.declared.literals.Lit.TheVariants as lit
use Rattle.swc_ast.specs.declared.AssignOp.{AssignOp}
use Rattle.swc_ast.specs.declared.UpdateOp.{UpdateOp}
use Rattle.swc_ast.specs.declared.VarDeclKind.{VarDeclKind}
use Rattle.swc_ast.specs.declared.VarDeclKind.TheVariants as kind
use Rattle.swc_ast.specs.declared.names.Ident.{Ident}
use Rattle.swc_ast.specs.declared.expressions.AssignTarget.{AssignTarget}
use Rattle.swc_ast.specs.declared.expressions.AssignTarget.TheVariants as target
use Rattle.swc_ast.specs.declared.expressions.ExprOrSpread.{ExprOrSpread}
use Rattle.swc_ast.specs.declared.expressions.TplElement.{TplElement}
use Rattle.swc_ast.specs.declared.expressions.PropName.{PropName}
use Rattle.swc_ast.specs.declared.expressions.PropName.TheVariants as key
use Rattle.swc_ast.specs.declared.declarations.VarDeclarator.{VarDeclarator}
use Rattle.swc_ast.specs.declared.statements.BlockStmt.{BlockStmt}
use Rattle.swc_ast.specs.declared.statements.CatchClause.{CatchClause}
use Rattle.swc_ast.specs.declared.statements.VarDeclOrExpr.{VarDeclOrExpr}
use Rattle.swc_ast.specs.declared.statements.VarDeclOrExpr.TheVariants as init
use Rattle.swc_ast.specs.declared.expressions.MemberProp.{MemberProp}
use Rattle.swc_ast.specs.declared.expressions.MemberProp.TheVariants as prop

-- a function of two values that are known
pub two-at : {A B C : Type 0} (F : A → B → C) {a x : A} {b y : B} → a ≡ x → b ≡ y → F x y ≡ F a b
two-at F p q = cc

-- a conjunction in order
pub both : {a a' b b' : Bool} → a ≡ a' → b ≡ b' → (a && b) ≡ (a' && b')
both p q = cc

grouped : (a b c : Bool) → ((a && b) && c) ≡ (a && (b && c))
grouped true b c = refl
grouped false b c = refl

pub all-three : {a a' b b' c c' : Bool} → a ≡ a' → b ≡ b' → c ≡ c' → ((a && b) && c) ≡ (a' && (b' && c'))
all-three {a = a} {b = b} {c = c} p q r = grouped a b c ∙ (cc)

-- an item of an array that is no hole, and a hole
pub element-hole : (o : Option Span) (t : Tree) (s : Bool) → false ≡ same s (element_node o t) (node (tree.Array (tree.Hole ∷ [])) [] ε)
unfolding same same_label
element-hole None t s = refl
element-hole (Some p) t s = refl

pub hole-element : (o : Option Span) (t : Tree) (s : Bool) → false ≡ same s (node (tree.Array (tree.Hole ∷ [])) [] ε) (element_node o t)
unfolding same same_label
hole-element None t s = refl
hole-element (Some p) t s = refl

-- literals of two kinds
pub other_lit-Str : (s : Bool) (a b : Lit) (x : _) → a ≡ lit.Str x → ((y : _) → b ≡ lit.Str y → ⊥) → false ≡ same s (lit_tree a) (lit_tree b)
unfolding same same_label
other_lit-Str s a (lit.Str y) x is others = absurd (others y refl)
other_lit-Str s a (lit.Bool y) x is others = ap (λ o. same s (lit_tree o) (lit_tree (lit.Bool y))) (sym is)
other_lit-Str s a (lit.Null y) x is others = ap (λ o. same s (lit_tree o) (lit_tree (lit.Null y))) (sym is)
other_lit-Str s a (lit.Num y) x is others = ap (λ o. same s (lit_tree o) (lit_tree (lit.Num y))) (sym is)

pub other_lit-Bool : (s : Bool) (a b : Lit) (x : _) → a ≡ lit.Bool x → ((y : _) → b ≡ lit.Bool y → ⊥) → false ≡ same s (lit_tree a) (lit_tree b)
unfolding same same_label
other_lit-Bool s a (lit.Str y) x is others = ap (λ o. same s (lit_tree o) (lit_tree (lit.Str y))) (sym is)
other_lit-Bool s a (lit.Bool y) x is others = absurd (others y refl)
other_lit-Bool s a (lit.Null y) x is others = ap (λ o. same s (lit_tree o) (lit_tree (lit.Null y))) (sym is)
other_lit-Bool s a (lit.Num y) x is others = ap (λ o. same s (lit_tree o) (lit_tree (lit.Num y))) (sym is)

pub other_lit-Null : (s : Bool) (a b : Lit) (x : _) → a ≡ lit.Null x → ((y : _) → b ≡ lit.Null y → ⊥) → false ≡ same s (lit_tree a) (lit_tree b)
unfolding same same_label
other_lit-Null s a (lit.Str y) x is others = ap (λ o. same s (lit_tree o) (lit_tree (lit.Str y))) (sym is)
other_lit-Null s a (lit.Bool y) x is others = ap (λ o. same s (lit_tree o) (lit_tree (lit.Bool y))) (sym is)
other_lit-Null s a (lit.Null y) x is others = absurd (others y refl)
other_lit-Null s a (lit.Num y) x is others = ap (λ o. same s (lit_tree o) (lit_tree (lit.Num y))) (sym is)

pub other_lit-Num : (s : Bool) (a b : Lit) (x : _) → a ≡ lit.Num x → ((y : _) → b ≡ lit.Num y → ⊥) → false ≡ same s (lit_tree a) (lit_tree b)
unfolding same same_label
other_lit-Num s a (lit.Str y) x is others = ap (λ o. same s (lit_tree o) (lit_tree (lit.Str y))) (sym is)
other_lit-Num s a (lit.Bool y) x is others = ap (λ o. same s (lit_tree o) (lit_tree (lit.Bool y))) (sym is)
other_lit-Num s a (lit.Null y) x is others = ap (λ o. same s (lit_tree o) (lit_tree (lit.Null y))) (sym is)
other_lit-Num s a (lit.Num y) x is others = absurd (others y refl)

-- the first span by itself
pub first_span : (s : Bool) (p q : Span) (ps qs : List Span) → same_spans s (p ∷ ps) (q ∷ qs) ≡ (same_spans s (p ∷ []) (q ∷ []) && same_spans s ps qs)
first_span s p q ps qs = spans-both (same_span p q) (pointwise same_span ps qs) (not s)

-- a member by its object and its key
pub member-same : {X : Type 0} (f : X → Tree) (s : Bool) (a b : Span) (o u : X) (p q : MemberProp X) → ((same_spans s (a ∷ []) (b ∷ []) && same s (f o) (f u)) && same s (key_of_member f p) (key_of_member f q)) ≡ same s (member_node f a o p) (member_node f b u q)
unfolding same same_label
member-same f s a b o u (prop.Ident i) (prop.Ident j) = member-dot (same_spans s (a ∷ []) (b ∷ [])) (same s (f o) (f u)) (bytes_eq (word_text i) (word_text j)) (same_spans s (i.span ∷ []) (j.span ∷ [])) ∙ ap (λ x. bytes_eq (word_text i) (word_text j) && (x && (same s (f o) (f u) && true))) (sym (first_span s a b (i.span ∷ []) (j.span ∷ [])))
member-same f s a b o u (prop.Ident i) (prop.Computed d) = sym (never (same_spans s (a ∷ []) (b ∷ []) && same s (f o) (f u)))
member-same f s a b o u (prop.Computed c) (prop.Ident j) = sym (never (same_spans s (a ∷ []) (b ∷ []) && same s (f o) (f u)))
member-same f s a b o u (prop.Computed c) (prop.Computed d) = member-index (same_spans s (a ∷ []) (b ∷ [])) (same s (f o) (f u)) (same_spans s (c.span ∷ []) (d.span ∷ [])) (same s (f c.expr.value) (f d.expr.value)) ∙ ap (λ x. x && (same s (f o) (f u) && (same s (f c.expr.value) (f d.expr.value) && true))) (sym (first_span s a b (c.span ∷ []) (d.span ∷ [])))

-- a name and a member as targets
pub name-member : {X : Type 0} (f : X → Tree) (s : Bool) (x : Ident) (b : Span) (u : X) (q : MemberProp X) → false ≡ same s (ident_tree x) (member_node f b u q)
unfolding same same_label
name-member f s x b u (prop.Ident j) = refl
name-member f s x b u (prop.Computed d) = refl

pub member-name : {X : Type 0} (f : X → Tree) (s : Bool) (x : Ident) (b : Span) (u : X) (q : MemberProp X) → false ≡ same s (member_node f b u q) (ident_tree x)
unfolding same same_label
member-name f s x b u (prop.Ident j) = refl
member-name f s x b u (prop.Computed d) = refl

-- a list of declarators, whatever the word before them, which is the same
pub of-kind : {X : Type 0} (f : X → Tree) (s : Bool) (k l : VarDeclKind) (xs ys : List (VarDeclarator X)) → same_kind k l ≡ true → same_forest s (list_trees (declarator_tree f kind.Var) xs) (list_trees (declarator_tree f kind.Var) ys) ≡ same_forest s (list_trees (declarator_tree f k) xs) (list_trees (declarator_tree f l) ys)
unfolding same same_label
of-kind f s k l [] [] e = refl
of-kind f s k l [] (y ∷ ys) e = refl
of-kind f s k l (x ∷ xs) [] e = refl
of-kind f s k l (x ∷ xs) (y ∷ ys) e = two-at (λ a r. ((a && same_name (ident_name x.name) (ident_name y.name)) && (same_spans s (x.span ∷ x.name.span ∷ []) (y.span ∷ y.name.span ∷ []) && same_forest s (optional_trees f x.init) (optional_trees f y.init))) && r) e (sym (of-kind f s k l xs ys e))

-- the first part of a `for`, and none
pub init-absent : {X : Type 0} (f : X → Tree) (s : Bool) (i : VarDeclOrExpr X) → false ≡ same s (init_node f i) absent
unfolding same same_label
init-absent f s (init.VarDecl v) = refl
init-absent f s (init.Expr e) = refl

pub absent-init : {X : Type 0} (f : X → Tree) (s : Bool) (i : VarDeclOrExpr X) → false ≡ same s absent (init_node f i)
unfolding same same_label
absent-init f s (init.VarDecl v) = refl
absent-init f s (init.Expr e) = refl

-- keys of two kinds
pub other_key-Ident : {X : Type 0} (f : X → Tree) (s : Bool) (a b : PropName X) (x : _) → a ≡ key.Ident x → ((y : _) → b ≡ key.Ident y → ⊥) → false ≡ same s (key_tree f a) (key_tree f b)
unfolding same same_label
other_key-Ident f s a (key.Ident y) x is others = absurd (others y refl)
other_key-Ident f s a (key.Str y) x is others = ap (λ o. same s (key_tree f o) (key_tree f (key.Str y))) (sym is)
other_key-Ident f s a (key.Num y) x is others = ap (λ o. same s (key_tree f o) (key_tree f (key.Num y))) (sym is)
other_key-Ident f s a (key.Computed y) x is others = ap (λ o. same s (key_tree f o) (key_tree f (key.Computed y))) (sym is)

pub other_key-Str : {X : Type 0} (f : X → Tree) (s : Bool) (a b : PropName X) (x : _) → a ≡ key.Str x → ((y : _) → b ≡ key.Str y → ⊥) → false ≡ same s (key_tree f a) (key_tree f b)
unfolding same same_label
other_key-Str f s a (key.Ident y) x is others = ap (λ o. same s (key_tree f o) (key_tree f (key.Ident y))) (sym is)
other_key-Str f s a (key.Str y) x is others = absurd (others y refl)
other_key-Str f s a (key.Num y) x is others = ap (λ o. same s (key_tree f o) (key_tree f (key.Num y))) (sym is)
other_key-Str f s a (key.Computed y) x is others = ap (λ o. same s (key_tree f o) (key_tree f (key.Computed y))) (sym is)

pub other_key-Num : {X : Type 0} (f : X → Tree) (s : Bool) (a b : PropName X) (x : _) → a ≡ key.Num x → ((y : _) → b ≡ key.Num y → ⊥) → false ≡ same s (key_tree f a) (key_tree f b)
unfolding same same_label
other_key-Num f s a (key.Ident y) x is others = ap (λ o. same s (key_tree f o) (key_tree f (key.Ident y))) (sym is)
other_key-Num f s a (key.Str y) x is others = ap (λ o. same s (key_tree f o) (key_tree f (key.Str y))) (sym is)
other_key-Num f s a (key.Num y) x is others = absurd (others y refl)
other_key-Num f s a (key.Computed y) x is others = ap (λ o. same s (key_tree f o) (key_tree f (key.Computed y))) (sym is)

pub other_key-Computed : {X : Type 0} (f : X → Tree) (s : Bool) (a b : PropName X) (x : _) → a ≡ key.Computed x → ((y : _) → b ≡ key.Computed y → ⊥) → false ≡ same s (key_tree f a) (key_tree f b)
unfolding same same_label
other_key-Computed f s a (key.Ident y) x is others = ap (λ o. same s (key_tree f o) (key_tree f (key.Ident y))) (sym is)
other_key-Computed f s a (key.Str y) x is others = ap (λ o. same s (key_tree f o) (key_tree f (key.Str y))) (sym is)
other_key-Computed f s a (key.Num y) x is others = ap (λ o. same s (key_tree f o) (key_tree f (key.Num y))) (sym is)
other_key-Computed f s a (key.Computed y) x is others = absurd (others y refl)

-- an assignment by its target, as if that was read, and its value
pub assign-same : {X : Type 0} (f : X → Tree) (s : Bool) (o p : AssignOp) (a b : Span) (t u : AssignTarget X) (v w : Tree) → (((same_assign o p && same_spans s (a ∷ []) (b ∷ [])) && same s (target_tree f t) (target_tree f u)) && same s v w) ≡ same s (assign_node f o a t v) (assign_node f p b u w)
unfolding same same_label
assign-same f s o p a b (target.Ident x) (target.Ident y) v w = assign-name (same_assign o p) (same_spans s (a ∷ []) (b ∷ [])) (same_name (ident_name x) (ident_name y)) (same_spans s (x.span ∷ []) (y.span ∷ [])) (same s v w) ∙ ap (λ z. (same_assign o p && same_name (ident_name x) (ident_name y)) && (z && (same s v w && true))) (sym (first_span s a b (x.span ∷ []) (y.span ∷ [])))
assign-same {X = X} f s o p a b (target.Ident x) (target.Member n) v w = other n.span n.obj.value n.prop
  where
    other : (c : Span) (u : X) (q : MemberProp X) → (((same_assign o p && same_spans s (a ∷ []) (b ∷ [])) && same s (ident_tree x) (member_node f c u q)) && same s v w) ≡ same s (node (tree.Assign o (ident_name x)) (a ∷ x.span ∷ []) (v ⊳ ε)) (member_assign f p b c u q w)
    other c u (prop.Ident j) = sym (never-then (same_assign o p && same_spans s (a ∷ []) (b ∷ [])) (same s v w))
    other c u (prop.Computed d) = sym (never-then (same_assign o p && same_spans s (a ∷ []) (b ∷ [])) (same s v w))
assign-same {X = X} f s o p a b (target.Member m) (target.Ident y) v w = other m.span m.obj.value m.prop
  where
    other : (c : Span) (u : X) (q : MemberProp X) → (((same_assign o p && same_spans s (a ∷ []) (b ∷ [])) && same s (member_node f c u q) (ident_tree y)) && same s v w) ≡ same s (member_assign f o a c u q v) (node (tree.Assign p (ident_name y)) (b ∷ y.span ∷ []) (w ⊳ ε))
    other c u (prop.Ident j) = sym (never-then (same_assign o p && same_spans s (a ∷ []) (b ∷ [])) (same s v w))
    other c u (prop.Computed d) = sym (never-then (same_assign o p && same_spans s (a ∷ []) (b ∷ [])) (same s v w))
assign-same {X = X} f s o p a b (target.Member m) (target.Member n) v w = members m.span n.span m.obj.value n.obj.value m.prop n.prop
  where
    members : (c d : Span) (t u : X) (q r : MemberProp X) → (((same_assign o p && same_spans s (a ∷ []) (b ∷ [])) && same s (member_node f c t q) (member_node f d u r)) && same s v w) ≡ same s (member_assign f o a c t q v) (member_assign f p b d u r w)
    members c d t u (prop.Ident i) (prop.Ident j) = assign-dot (same_assign o p) (same_spans s (a ∷ []) (b ∷ [])) (bytes_eq (word_text i) (word_text j)) (same_spans s (c ∷ i.span ∷ []) (d ∷ j.span ∷ [])) (same s (f t) (f u)) (same s v w) ∙ ap (λ z. (same_assign o p && bytes_eq (word_text i) (word_text j)) && (z && (same s (f t) (f u) && (same s v w && true)))) (sym (first_span s a b (c ∷ i.span ∷ []) (d ∷ j.span ∷ [])))
    members c d t u (prop.Ident i) (prop.Computed j) = sym (never-then (same_assign o p && same_spans s (a ∷ []) (b ∷ [])) (same s v w))
    members c d t u (prop.Computed i) (prop.Ident j) = sym (never-then (same_assign o p && same_spans s (a ∷ []) (b ∷ [])) (same s v w))
    members c d t u (prop.Computed i) (prop.Computed j) = assign-index (same_assign o p) (same_spans s (a ∷ []) (b ∷ [])) (same_spans s (c ∷ i.span ∷ []) (d ∷ j.span ∷ [])) (same s (f t) (f u)) (same s (f i.expr.value) (f j.expr.value)) (same s v w) ∙ ap (λ z. same_assign o p && (z && (same s (f t) (f u) && (same s (f i.expr.value) (f j.expr.value) && (same s v w && true))))) (sym (first_span s a b (c ∷ i.span ∷ []) (d ∷ j.span ∷ [])))

-- lists of children: of one length, and one by one
rest : (a b : Bool) → (a && b) ≡ true → b ≡ true
rest true b e = e
rest false b e = impossible e

lengths : {X : Type 0} (f : X → Tree) (s : Bool) (xs ys : List X) → same_forest s (list_trees f xs) (list_trees f ys) ≡ true → length xs ≡ length ys
unfolding same
lengths f s [] [] e = refl
lengths f s [] (y ∷ ys) e = impossible e
lengths f s (x ∷ xs) [] e = impossible e
lengths f s (x ∷ xs) (y ∷ ys) e = cc (lengths f s xs ys (rest (same s (f x) (f y)) (same_forest s (list_trees f xs) (list_trees f ys)) e))

not-true : (b : Bool) → (b ≡ true → ⊥) → false ≡ b
not-true true never' = absurd (never' refl)
not-true false never' = refl

pub lengths-differ : {X : Type 0} (f : X → Tree) (s : Bool) (xs ys : List X) → (length xs ≡ length ys → ⊥) → false ≡ same_forest s (list_trees f xs) (list_trees f ys)
lengths-differ f s xs ys other = not-true _ (λ e. other (lengths f s xs ys e))

pub next-child : {X : Type 0} (f : X → Tree) (s : Bool) (xs ys : List X) (i n : ℕ) (x y : X) → n ≡ length xs → length xs ≡ length ys → i < n → x ≡ get_or xs i x → y ≡ get_or ys i y → same_forest s (list_trees f (drop i xs)) (list_trees f (drop i ys)) ≡ (same s (f x) (f y) && same_forest s (list_trees f (drop (i + 1) xs)) (list_trees f (drop (i + 1) ys)))
unfolding same
next-child f s xs ys i n x y long alike below atx aty = sym (two-at (λ p q. same_forest s (list_trees f p) (list_trees f q)) (drop_more xs i x (subst (λ m. i < m) long below) ∙ ap (λ z. z ∷ drop (i + 1) xs) (sym atx)) (drop_more ys i y (subst (λ m. i < m) (long ∙ alike) below) ∙ ap (λ z. z ∷ drop (i + 1) ys) (sym aty)))

pub no-child : {X : Type 0} (f : X → Tree) (s : Bool) (xs ys : List X) (i n : ℕ) → n ≡ length xs → length xs ≡ length ys → n ≤ i → same_forest s (list_trees f (drop i xs)) (list_trees f (drop i ys)) ≡ true
unfolding same
no-child f s xs ys i n long alike above = sym (two-at (λ p q. same_forest s (list_trees f p) (list_trees f q)) (drop_all i xs (subst (λ m. m ≤ i) long above)) (drop_all i ys (subst (λ m. m ≤ i) (long ∙ alike) above)))

-- a declaration by its word, its span, and its declarators under one word
pub var-same : {X : Type 0} (f : X → Tree) (s : Bool) (k l : VarDeclKind) (a b : Span) (xs ys : List (VarDeclarator X)) → ((same_kind k l && same_spans s (a ∷ []) (b ∷ [])) && same_forest s (list_trees (declarator_tree f kind.Var) xs) (list_trees (declarator_tree f kind.Var) ys)) ≡ (same_kind k l && (same_spans s (a ∷ []) (b ∷ []) && same_forest s (list_trees (declarator_tree f k) xs) (list_trees (declarator_tree f l) ys)))
var-same {X = X} f s k l a b xs ys = by (same_kind k l) refl
  where
    by : (e : Bool) → same_kind k l ≡ e → ((same_kind k l && same_spans s (a ∷ []) (b ∷ [])) && same_forest s (list_trees (declarator_tree f kind.Var) xs) (list_trees (declarator_tree f kind.Var) ys)) ≡ (same_kind k l && (same_spans s (a ∷ []) (b ∷ []) && same_forest s (list_trees (declarator_tree f k) xs) (list_trees (declarator_tree f l) ys)))
    by true is = ap (λ r. (same_kind k l && same_spans s (a ∷ []) (b ∷ [])) && r) (of-kind f s k l xs ys is) ∙ grouped (same_kind k l) (same_spans s (a ∷ []) (b ∷ [])) (same_forest s (list_trees (declarator_tree f k) xs) (list_trees (declarator_tree f l) ys))
    by false is = ap (λ e. (e && same_spans s (a ∷ []) (b ∷ [])) && same_forest s (list_trees (declarator_tree f kind.Var) xs) (list_trees (declarator_tree f kind.Var) ys)) is ∙ sym (ap (λ e. e && (same_spans s (a ∷ []) (b ∷ []) && same_forest s (list_trees (declarator_tree f k) xs) (list_trees (declarator_tree f l) ys))) is)

-- an update by its target, as if that was read
pub update-same : {X : Type 0} (f : X → Tree) (s : Bool) (o p : UpdateOp) (h k : Bool) (a b : Span) (t u : AssignTarget X) → (((same_update o p && beq h k) && same_spans s (a ∷ []) (b ∷ [])) && same s (target_tree f t) (target_tree f u)) ≡ same s (update_node f o h a t) (update_node f p k b u)
unfolding same same_label
update-same f s o p h k a b (target.Ident x) (target.Ident y) = update-name (same_update o p && beq h k) (same_spans s (a ∷ []) (b ∷ [])) (same_name (ident_name x) (ident_name y)) (same_spans s (x.span ∷ []) (y.span ∷ [])) ∙ ap (λ z. ((same_update o p && beq h k) && same_name (ident_name x) (ident_name y)) && (z && true)) (sym (first_span s a b (x.span ∷ []) (y.span ∷ [])))
update-same {X = X} f s o p h k a b (target.Ident x) (target.Member n) = other n.span n.obj.value n.prop
  where
    other : (c : Span) (u : X) (q : MemberProp X) → (((same_update o p && beq h k) && same_spans s (a ∷ []) (b ∷ [])) && same s (ident_tree x) (member_node f c u q)) ≡ same s (node (tree.Update o h (ident_name x)) (a ∷ x.span ∷ []) ε) (member_update f p k b c u q)
    other c u (prop.Ident j) = sym (never ((same_update o p && beq h k) && same_spans s (a ∷ []) (b ∷ [])))
    other c u (prop.Computed d) = sym (never ((same_update o p && beq h k) && same_spans s (a ∷ []) (b ∷ [])))
update-same {X = X} f s o p h k a b (target.Member m) (target.Ident y) = other m.span m.obj.value m.prop
  where
    other : (c : Span) (u : X) (q : MemberProp X) → (((same_update o p && beq h k) && same_spans s (a ∷ []) (b ∷ [])) && same s (member_node f c u q) (ident_tree y)) ≡ same s (member_update f o h a c u q) (node (tree.Update p k (ident_name y)) (b ∷ y.span ∷ []) ε)
    other c u (prop.Ident j) = sym (never ((same_update o p && beq h k) && same_spans s (a ∷ []) (b ∷ [])))
    other c u (prop.Computed d) = sym (never ((same_update o p && beq h k) && same_spans s (a ∷ []) (b ∷ [])))
update-same {X = X} f s o p h k a b (target.Member m) (target.Member n) = members m.span n.span m.obj.value n.obj.value m.prop n.prop
  where
    members : (c d : Span) (t u : X) (q r : MemberProp X) → (((same_update o p && beq h k) && same_spans s (a ∷ []) (b ∷ [])) && same s (member_node f c t q) (member_node f d u r)) ≡ same s (member_update f o h a c t q) (member_update f p k b d u r)
    members c d t u (prop.Ident i) (prop.Ident j) = update-dot (same_update o p && beq h k) (same_spans s (a ∷ []) (b ∷ [])) (bytes_eq (word_text i) (word_text j)) (same_spans s (c ∷ i.span ∷ []) (d ∷ j.span ∷ [])) (same s (f t) (f u)) ∙ ap (λ z. ((same_update o p && beq h k) && bytes_eq (word_text i) (word_text j)) && (z && (same s (f t) (f u) && true))) (sym (first_span s a b (c ∷ i.span ∷ []) (d ∷ j.span ∷ [])))
    members c d t u (prop.Ident i) (prop.Computed j) = sym (never ((same_update o p && beq h k) && same_spans s (a ∷ []) (b ∷ [])))
    members c d t u (prop.Computed i) (prop.Ident j) = sym (never ((same_update o p && beq h k) && same_spans s (a ∷ []) (b ∷ [])))
    members c d t u (prop.Computed i) (prop.Computed j) = update-index (same_update o p && beq h k) (same_spans s (a ∷ []) (b ∷ [])) (same_spans s (c ∷ i.span ∷ []) (d ∷ j.span ∷ [])) (same s (f t) (f u)) (same s (f i.expr.value) (f j.expr.value)) ∙ ap (λ z. (same_update o p && beq h k) && (z && (same s (f t) (f u) && (same s (f i.expr.value) (f j.expr.value) && true)))) (sym (first_span s a b (c ∷ i.span ∷ []) (d ∷ j.span ∷ [])))

-- the texts of a template, by all of their labels and all of their spans
pub quasis-same : (s : Bool) (xs ys : List TplElement) → same_forest s (list_trees (λ n. leaf (tree.Template (quasi_text n ∷ [])) n.span) xs) (list_trees (λ n. leaf (tree.Template (quasi_text n ∷ [])) n.span) ys) ≡ (pointwise same_quasi (map quasi_text xs) (map quasi_text ys) && same_spans s (map quasi_span xs) (map quasi_span ys))
unfolding same same_label
quasis-same s [] [] = refl
quasis-same s [] (y ∷ ys) = refl
quasis-same s (x ∷ xs) [] = refl
quasis-same s (x ∷ xs) (y ∷ ys) = ap (λ r. ((same_quasi (quasi_text x) (quasi_text y) && true) && (same_spans s (x.span ∷ []) (y.span ∷ []) && true)) && r) (quasis-same s xs ys) ∙ quasi-more (same_quasi (quasi_text x) (quasi_text y)) (same_spans s (x.span ∷ []) (y.span ∷ [])) (pointwise same_quasi (map quasi_text xs) (map quasi_text ys)) (same_spans s (map quasi_span xs) (map quasi_span ys)) ∙ ap (λ z. (same_quasi (quasi_text x) (quasi_text y) && pointwise same_quasi (map quasi_text xs) (map quasi_text ys)) && z) (sym (first_span s x.span y.span (map quasi_span xs) (map quasi_span ys)))

-- a template by its span, its texts and its expressions
pub tpl-same : (s : Bool) (a b : Span) (xs ys : List TplElement) (ts us : Forest) → ((same_spans s (a ∷ []) (b ∷ []) && same_forest s (list_trees (λ n. leaf (tree.Template (quasi_text n ∷ [])) n.span) xs) (list_trees (λ n. leaf (tree.Template (quasi_text n ∷ [])) n.span) ys)) && same_forest s ts us) ≡ (pointwise same_quasi (map quasi_text xs) (map quasi_text ys) && (same_spans s (a ∷ map quasi_span xs) (b ∷ map quasi_span ys) && same_forest s ts us))
tpl-same s a b xs ys ts us = ap (λ r. (same_spans s (a ∷ []) (b ∷ []) && r) && same_forest s ts us) (quasis-same s xs ys) ∙ tpl-parts (same_spans s (a ∷ []) (b ∷ [])) (pointwise same_quasi (map quasi_text xs) (map quasi_text ys)) (same_spans s (map quasi_span xs) (map quasi_span ys)) (same_forest s ts us) ∙ ap (λ z. pointwise same_quasi (map quasi_text xs) (map quasi_text ys) && (z && same_forest s ts us)) (sym (first_span s a b (map quasi_span xs) (map quasi_span ys)))

-- a `try` by its blocks and its handler
pub try-same : {X : Type 0} (f : X → Tree) (s : Bool) (a b : Span) (m n : BlockStmt X) (h k : Option (CatchClause X)) (d e : Option (BlockStmt X)) → (((same_spans s (a ∷ []) (b ∷ []) && same s (block_tree f m) (block_tree f n)) && same s (option_handler_node f h) (option_handler_node f k)) && same s (option_block_tree f d) (option_block_tree f e)) ≡ same s (node (tree.Try (handler_param h)) (a ∷ handler_spans h) (block_tree f m ⊳ handler_tree f h ⊳ option_block_tree f d ⊳ ε)) (node (tree.Try (handler_param k)) (b ∷ handler_spans k) (block_tree f n ⊳ handler_tree f k ⊳ option_block_tree f e ⊳ ε))
unfolding same same_label
try-same f s a b m n None None d e = try-plain (same_spans s (a ∷ []) (b ∷ [])) (same s (block_tree f m) (block_tree f n)) (same s (option_block_tree f d) (option_block_tree f e))
try-same f s a b m n None (Some k) d e = sym (never-then (same_spans s (a ∷ []) (b ∷ []) && same s (block_tree f m) (block_tree f n)) (same s (option_block_tree f d) (option_block_tree f e)))
try-same f s a b m n (Some h) None d e = sym (never-then (same_spans s (a ∷ []) (b ∷ []) && same s (block_tree f m) (block_tree f n)) (same s (option_block_tree f d) (option_block_tree f e)))
try-same f s a b m n (Some h) (Some k) d e = try-handler (same_spans s (a ∷ []) (b ∷ [])) (same s (block_tree f m) (block_tree f n)) (same_option same_name (option_ident_name h.param) (option_ident_name k.param)) (same_spans s (h.span ∷ option_ident_spans h.param) (k.span ∷ option_ident_spans k.param)) (same s (block_tree f h.body) (block_tree f k.body)) (same s (option_block_tree f d) (option_block_tree f e)) ∙ ap (λ z. same_option same_name (option_ident_name h.param) (option_ident_name k.param) && (z && (same s (block_tree f m) (block_tree f n) && (same s (block_tree f h.body) (block_tree f k.body) && (same s (option_block_tree f d) (option_block_tree f e) && true))))) (sym (first_span s a b (h.span ∷ option_ident_spans h.param) (k.span ∷ option_ident_spans k.param)))

-- the items of an array one by one, and all of their kinds, spans and children
pub items-same : {X : Type 0} (f : X → Tree) (s : Bool) (xs ys : List (Option (ExprOrSpread X))) → same_forest s (list_trees (element_tree f) xs) (list_trees (element_tree f) ys) ≡ (pointwise same_item (map item_kind xs) (map item_kind ys) && (same_spans s (item_spans xs) (item_spans ys) && same_forest s (item_trees f xs) (item_trees f ys)))
unfolding same same_label
items-same f s [] [] = refl
items-same f s [] (y ∷ ys) = refl
items-same f s (x ∷ xs) [] = refl
items-same f s (None ∷ xs) (None ∷ ys) = items-same f s xs ys
items-same f s (None ∷ xs) (Some n ∷ ys) = holes n.spread (f n.expr.value)
  where
    holes : (o : Option Span) (u : Tree) → (same s (node (tree.Array (tree.Hole ∷ [])) [] ε) (element_node o u) && same_forest s (list_trees (element_tree f) xs) (list_trees (element_tree f) ys)) ≡ ((same_item tree.Hole (spread_kind o) && pointwise same_item (map item_kind xs) (map item_kind ys)) && (same_spans s (item_spans xs) (with_span o (item_spans ys)) && same_forest s (item_trees f xs) (u ⊳ item_trees f ys)))
    holes None u = refl
    holes (Some p) u = refl
items-same f s (Some m ∷ xs) (None ∷ ys) = holes m.spread (f m.expr.value)
  where
    holes : (o : Option Span) (u : Tree) → (same s (element_node o u) (node (tree.Array (tree.Hole ∷ [])) [] ε) && same_forest s (list_trees (element_tree f) xs) (list_trees (element_tree f) ys)) ≡ ((same_item (spread_kind o) tree.Hole && pointwise same_item (map item_kind xs) (map item_kind ys)) && (same_spans s (with_span o (item_spans xs)) (item_spans ys) && same_forest s (u ⊳ item_trees f xs) (item_trees f ys)))
    holes None u = refl
    holes (Some p) u = refl
items-same f s (Some m ∷ xs) (Some n ∷ ys) = some m.spread n.spread (f m.expr.value) (f n.expr.value) (items-same f s xs ys)
  where
    some : (o p : Option Span) (t u : Tree) → same_forest s (list_trees (element_tree f) xs) (list_trees (element_tree f) ys) ≡ (pointwise same_item (map item_kind xs) (map item_kind ys) && (same_spans s (item_spans xs) (item_spans ys) && same_forest s (item_trees f xs) (item_trees f ys))) → (same s (element_node o t) (element_node p u) && same_forest s (list_trees (element_tree f) xs) (list_trees (element_tree f) ys)) ≡ ((same_item (spread_kind o) (spread_kind p) && pointwise same_item (map item_kind xs) (map item_kind ys)) && (same_spans s (with_span o (item_spans xs)) (with_span p (item_spans ys)) && (same s t u && same_forest s (item_trees f xs) (item_trees f ys))))
    some None None t u is = ap (λ r. (same s t u && true) && r) is ∙ item-plain (same s t u) (pointwise same_item (map item_kind xs) (map item_kind ys)) (same_spans s (item_spans xs) (item_spans ys)) (same_forest s (item_trees f xs) (item_trees f ys))
    some None (Some p) t u is = refl
    some (Some o) None t u is = refl
    some (Some o) (Some p) t u is = ap (λ r. (same_spans s (o ∷ []) (p ∷ []) && (same s t u && true)) && r) is ∙ item-spread (same_spans s (o ∷ []) (p ∷ [])) (same s t u) (pointwise same_item (map item_kind xs) (map item_kind ys)) (same_spans s (item_spans xs) (item_spans ys)) (same_forest s (item_trees f xs) (item_trees f ys)) ∙ ap (λ z. pointwise same_item (map item_kind xs) (map item_kind ys) && (z && (same s t u && same_forest s (item_trees f xs) (item_trees f ys)))) (sym (first_span s o p (item_spans xs) (item_spans ys)))

pub array-same : {X : Type 0} (f : X → Tree) (s : Bool) (a b : Span) (xs ys : List (Option (ExprOrSpread X))) → (same_spans s (a ∷ []) (b ∷ []) && same_forest s (list_trees (element_tree f) xs) (list_trees (element_tree f) ys)) ≡ (pointwise same_item (map item_kind xs) (map item_kind ys) && (same_spans s (a ∷ item_spans xs) (b ∷ item_spans ys) && same_forest s (item_trees f xs) (item_trees f ys)))
array-same f s a b xs ys = ap (λ r. same_spans s (a ∷ []) (b ∷ []) && r) (items-same f s xs ys) ∙ array-parts (same_spans s (a ∷ []) (b ∷ [])) (pointwise same_item (map item_kind xs) (map item_kind ys)) (same_spans s (item_spans xs) (item_spans ys)) (same_forest s (item_trees f xs) (item_trees f ys)) ∙ ap (λ z. pointwise same_item (map item_kind xs) (map item_kind ys) && (z && same_forest s (item_trees f xs) (item_trees f ys))) (sym (first_span s a b (item_spans xs) (item_spans ys)))

-- whether a tree is a name that is read
is_read : Tree → Bool
is_read (node (tree.Read x) ss cs) = true
is_read _ = false

read-other : (s : Bool) (x : Name) (ss : List Span) (cs : Forest) (u : Tree) → is_read u ≡ false → same s (node (tree.Read x) ss cs) u ≡ false
unfolding same same_label is_read
read-other s x ss cs (node (tree.Read y) ts ds) e = impossible (sym e)
read-other s x ss cs (node _ ts ds) e = refl

other-read : (s : Bool) (x : Name) (ss : List Span) (cs : Forest) (u : Tree) → is_read u ≡ false → same s u (node (tree.Read x) ss cs) ≡ false
unfolding same same_label is_read
other-read s x ss cs (node (tree.Read y) ts ds) e = impossible (sym e)
other-read s x ss cs (node _ ts ds) e = refl

typeof-other : (a : Span) (t : Tree) → is_read t ≡ false → unary_node op.TypeOf a t ≡ node (tree.Unary op.TypeOf) (a ∷ []) (t ⊳ ε)
unfolding unary_node is_read
typeof-other a (node (tree.Read y) ts ds) e = impossible (sym e)
typeof-other a (node _ ts ds) e = refl

data Operand : Tree → Type 0 where
  name : (x : Name) (ss : List Span) (cs : Forest) → Operand (node (tree.Read x) ss cs)
  other : (t : Tree) → is_read t ≡ false → Operand t

operand : (t : Tree) → Operand t
unfolding is_read
operand (node (tree.Read x) ss cs) = name x ss cs
operand (node l ss cs) = other (node l ss cs) refl

-- `typeof` of two operands
typeof-same : (s : Bool) (a b : Span) (t u : Tree) → (same_spans s (a ∷ []) (b ∷ []) && same s t u) ≡ same s (unary_node op.TypeOf a t) (unary_node op.TypeOf b u)
unfolding same same_label unary_node
typeof-same s a b t u = by t u (operand t) (operand u)
  where
    by : (t u : Tree) → Operand t → Operand u → (same_spans s (a ∷ []) (b ∷ []) && same s t u) ≡ same s (unary_node op.TypeOf a t) (unary_node op.TypeOf b u)
    by t u (name x ss cs) (name y ts ds) = typeof-name (same_spans s (a ∷ []) (b ∷ [])) (same_name x y) (same_spans s ss ts) (same_forest s cs ds) ∙ ap (λ z. same_name x y && (z && same_forest s cs ds)) (sym (first_span s a b ss ts))
    by t _ (name x ss cs) (other u unread) = ap (λ z. same_spans s (a ∷ []) (b ∷ []) && z) (read-other s x ss cs u unread) ∙ sym (never (same_spans s (a ∷ []) (b ∷ []))) ∙ sym (ap (λ z. same s (node (tree.TypeOfName x) (a ∷ ss) cs) z) (typeof-other b u unread))
    by _ u (other t unread) (name y ts ds) = ap (λ z. same_spans s (a ∷ []) (b ∷ []) && z) (other-read s y ts ds t unread) ∙ sym (never (same_spans s (a ∷ []) (b ∷ []))) ∙ sym (ap (λ z. same s z (node (tree.TypeOfName y) (b ∷ ts) ds)) (typeof-other a t unread))
    by _ _ (other t unread) (other u unread2) = joined-2 refl refl ∙ two-at (λ p q. same s p q) (typeof-other a t unread) (typeof-other b u unread2)

typeof-left : (s : Bool) (p : UnaryOp) (a b : Span) (t u : Tree) → same_unary op.TypeOf p ≡ false → false ≡ same s (unary_node op.TypeOf a t) (node (tree.Unary p) (b ∷ []) (u ⊳ ε))
unfolding same same_label unary_node
typeof-left s p a b t u differ = by t (operand t)
  where
    by : (t : Tree) → Operand t → false ≡ same s (unary_node op.TypeOf a t) (node (tree.Unary p) (b ∷ []) (u ⊳ ε))
    by _ (name x ss cs) = refl
    by _ (other t unread) = sym (ap (λ z. z && (same_spans s (a ∷ []) (b ∷ []) && (same s t u && true))) differ) ∙ sym (ap (λ z. same s z (node (tree.Unary p) (b ∷ []) (u ⊳ ε))) (typeof-other a t unread))

typeof-right : (s : Bool) (o : UnaryOp) (a b : Span) (t u : Tree) → same_unary o op.TypeOf ≡ false → false ≡ same s (node (tree.Unary o) (a ∷ []) (t ⊳ ε)) (unary_node op.TypeOf b u)
unfolding same same_label unary_node
typeof-right s o a b t u differ = by u (operand u)
  where
    by : (u : Tree) → Operand u → false ≡ same s (node (tree.Unary o) (a ∷ []) (t ⊳ ε)) (unary_node op.TypeOf b u)
    by _ (name x ss cs) = refl
    by _ (other u unread) = sym (ap (λ z. z && (same_spans s (a ∷ []) (b ∷ []) && (same s t u && true))) differ) ∙ sym (ap (λ z. same s (node (tree.Unary o) (a ∷ []) (t ⊳ ε)) z) (typeof-other b u unread))

-- an operator in front of two operands
pub unary-same : (s : Bool) (o p : UnaryOp) (a b : Span) (t u : Tree) → ((same_unary o p && same_spans s (a ∷ []) (b ∷ [])) && same s t u) ≡ same s (unary_node o a t) (unary_node p b u)
unfolding same same_label unary_node
unary-same s op.TypeOf op.TypeOf a b t u = typeof-same s a b t u
unary-same s op.TypeOf op.Minus a b t u = typeof-left s op.Minus a b t u refl
unary-same s op.TypeOf op.Plus a b t u = typeof-left s op.Plus a b t u refl
unary-same s op.TypeOf op.Bang a b t u = typeof-left s op.Bang a b t u refl
unary-same s op.TypeOf op.Tilde a b t u = typeof-left s op.Tilde a b t u refl
unary-same s op.TypeOf op.Void a b t u = typeof-left s op.Void a b t u refl
unary-same s op.TypeOf op.Delete a b t u = typeof-left s op.Delete a b t u refl
unary-same s op.Minus op.TypeOf a b t u = typeof-right s op.Minus a b t u refl
unary-same s op.Plus op.TypeOf a b t u = typeof-right s op.Plus a b t u refl
unary-same s op.Bang op.TypeOf a b t u = typeof-right s op.Bang a b t u refl
unary-same s op.Tilde op.TypeOf a b t u = typeof-right s op.Tilde a b t u refl
unary-same s op.Void op.TypeOf a b t u = typeof-right s op.Void a b t u refl
unary-same s op.Delete op.TypeOf a b t u = typeof-right s op.Delete a b t u refl
unary-same s o p a b t u = joined-3 {a = same_unary o p} {b = same_spans s (a ∷ []) (b ∷ [])} {c = same s t u} refl refl refl
