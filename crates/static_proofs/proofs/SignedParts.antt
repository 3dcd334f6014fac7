-- Trees whose nodes have their signature, by their parts.
use Rattle.std.proofs.Common.{◌≡◌, ℕ, ◌+◌, ◌≤◌, Bool, true, ◌&&◌, ◌||◌, List, [], ◌∷◌, refl, sym, ap, ◌∙◌, arith}
use Rattle.std.specs.Prelude.{Option, Some, None}
use Rattle.std.specs.declared.alloc.Global.{Global}
use Rattle.std.specs.declared.boxed.Box.{Box}
use Rattle.std.proofs.lemmas.Bool.{and_parts, and_from, or_left, or_right, false≢true}
use Rattle.swc_ast.specs.declared.Span.{Span}
use Rattle.swc_ast.specs.Tree.{Label, TypeOfName, CallDot, CallIndex, Method, For, Tree, node, Forest, ε, ◌⊳◌, Body, Import, ExportDecl, ExportDefaultFn, ExportDefaultExpr, label_of}
use Rattle.swc_ast.specs.Parts.{then_all, list_trees, optional_trees, tree_or_absent}
use Rattle.swc_ast.specs.Labels.{is_declaration, is_params, is_body}
use Rattle.static_proofs.specs.Shaped.{is_inner, is_holder, is_statement, is_head, are_parts, labels_of, all_labels, holds, is_whole_item, is_body_or_inner}
use Rattle.static_proofs.specs.Signature.{fine, has_parts, signed, is_signed, are_signed}
use Rattle.static_proofs.proofs.ShapedParts.{nodes, nodes_all, nodes_then}
use Rattle.static_proofs.proofs.Thinned.{labels_cons}

-- a signed tree with one of some labels
pub record Good (p : Label → Bool) (t : Tree) : Type 0 where
  pub stands : p (label_of t) ≡ true
  pub signed : is_signed t ≡ true

pub record AllGood (p : Label → Bool) (ts : Forest) : Type 0 where
  pub all_stand : all_labels p (labels_of ts) ≡ true
  pub all_signed : are_signed ts ≡ true

pub widened : {p q : Label → Bool} → ((l : Label) → p l ≡ true → q l ≡ true) → {t : Tree} → Good p t → Good q t
widened f {t} g = record { stands = f (label_of t) g.stands; signed = g.signed }

pub no_tree : (p : Label → Bool) → AllGood p ε
no_tree p = record { all_stand = refl; all_signed = refl }

pub good_cons : {p : Label → Bool} {t : Tree} {ts : Forest} → Good p t → AllGood p ts → AllGood p (t ⊳ ts)
good_cons {p} {t} {ts} g h = record { all_stand = ap (all_labels p) (labels_cons t ts) ∙ and_from (p (label_of t)) (all_labels p (labels_of ts)) g.stands h.all_stand; all_signed = and_from (is_signed t) (are_signed ts) g.signed h.all_signed }

pub good_one : {p : Label → Bool} {t : Tree} → Good p t → AllGood p (t ⊳ ε)
good_one {p} g = good_cons g (no_tree p)

-- a node of a label whose children may all be of some labels
pub made : {p q : Label → Bool} (l : Label) (ss : List Span) {cs : Forest} → p l ≡ true → holds l (labels_of cs) ≡ all_labels q (labels_of cs) → fine l ss cs ≡ true → has_parts l cs ≡ true → AllGood q cs → Good p (node l ss cs)
made l ss {cs} e f a b h = record { stands = e; signed = and_from (signed l ss cs) (are_signed cs) (and_from (holds l (labels_of cs)) _ (f ∙ h.all_stand) (and_from (fine l ss cs) (has_parts l cs) a b)) h.all_signed }

-- the children of such a node
pub unmade : {p q : Label → Bool} (l : Label) (ss : List Span) {cs : Forest} → holds l (labels_of cs) ≡ all_labels q (labels_of cs) → Good p (node l ss cs) → AllGood q cs
unmade l ss {cs} f g = let r = and_parts (signed l ss cs) (are_signed cs) g.signed in let q = and_parts (holds l (labels_of cs)) _ r.0 in record { all_stand = sym f ∙ q.0; all_signed = r.1 }

-- what such a node has of its own
pub own_parts : {p : Label → Bool} (l : Label) (ss : List Span) {cs : Forest} → Good p (node l ss cs) → has_parts l cs ≡ true
own_parts l ss {cs} g = let r = and_parts (signed l ss cs) (are_signed cs) g.signed in let q = and_parts (holds l (labels_of cs)) _ r.0 in (and_parts (fine l ss cs) (has_parts l cs) q.1).1

-- lists of views

pub each_good : {X : Type 0} (f : X → Tree) {p : Label → Bool} (n : ℕ) → ((x : X) → nodes (f x) ≤ n → Good p (f x)) → (xs : List X) → nodes_all (list_trees f xs) ≤ n → AllGood p (list_trees f xs)
each_good f {p} n g [] b = no_tree p
each_good f n g (x ∷ xs) b = good_cons (g x (omega (arith, b))) (each_good f n g xs (omega (arith, b)))

pub option_good : {X : Type 0} (f : X → Tree) {p : Label → Bool} (n : ℕ) → ((x : X) → nodes (f x) ≤ n → Good p (f x)) → (o : Option (Box X Global)) → nodes_all (optional_trees f o) ≤ n → AllGood p (optional_trees f o)
option_good f {p} n g None b = no_tree p
option_good f n g (Some x) b = good_one (g x.value (omega (arith, b)))

pub absent_good : {X : Type 0} (f : X → Tree) (n : ℕ) → ((x : X) → nodes (f x) ≤ n → Good is_inner (f x)) → (o : Option (Box X Global)) → nodes (tree_or_absent f o) ≤ n → Good is_inner (tree_or_absent f o)
absent_good f n g None b = record { stands = refl; signed = refl }
absent_good f n g (Some x) b = g x.value b

pub good_then : {p : Label → Bool} (ts : Forest) {us : Forest} → AllGood p ts → AllGood p us → AllGood p (then_all ts us)
good_then ε h i = i
good_then {p} (node l ss cs ⊳ ts) h i =
    let q = and_parts (p l) (all_labels p (labels_of ts)) h.all_stand in
    let r = and_parts (is_signed (node l ss cs)) (are_signed ts) h.all_signed in
    good_cons (record { stands = q.0; signed = r.0 }) (good_then ts (record { all_stand = q.1; all_signed = r.1 }) i)

-- functions, methods and loops

pub parts_good : {q : Label → Bool} {a b : Tree} → Good is_params a → Good q b → (are_parts q (labels_of (a ⊳ b ⊳ ε)) ≡ true) × (are_signed (a ⊳ b ⊳ ε) ≡ true)
parts_good {q = q} {a = node l ss cs} {b = node m rs ds} g h = (and_from (is_params l) (q m) g.stands h.stands, and_from (is_signed (node l ss cs)) _ g.signed (and_from (is_signed (node m rs ds)) true h.signed refl))

pub function_good : {p q : Label → Bool} (l : Label) (ss : List Span) {a b : Tree} → p l ≡ true → holds l (labels_of (a ⊳ b ⊳ ε)) ≡ are_parts q (labels_of (a ⊳ b ⊳ ε)) → fine l ss (a ⊳ b ⊳ ε) ≡ true → has_parts l (a ⊳ b ⊳ ε) ≡ true → Good is_params a → Good q b → Good p (node l ss (a ⊳ b ⊳ ε))
function_good l ss {a} {b} e f k n g h = let r = parts_good g h in record { stands = e; signed = and_from (signed l ss (a ⊳ b ⊳ ε)) (are_signed (a ⊳ b ⊳ ε)) (and_from (holds l (labels_of (a ⊳ b ⊳ ε))) _ (f ∙ r.0) (and_from (fine l ss (a ⊳ b ⊳ ε)) (has_parts l (a ⊳ b ⊳ ε)) k n)) r.1 }

pub method_good : (ss : List Span) {k a b : Tree} → Good is_inner k → Good is_params a → Good is_body b → Good is_inner (node Method ss (k ⊳ a ⊳ b ⊳ ε))
method_good ss {k = node l rs cs} {a = a} {b = b} g h i =
    let r = parts_good h i in
    record { stands = refl; signed = and_from (signed Method ss (node l rs cs ⊳ a ⊳ b ⊳ ε)) _ (and_from (holds Method (l ∷ labels_of (a ⊳ b ⊳ ε))) true (and_from (is_inner l) (are_parts is_body (labels_of (a ⊳ b ⊳ ε))) g.stands r.0) refl) (and_from (is_signed (node l rs cs)) _ g.signed r.1) }

pub loop_good : (ss : List Span) {i t u b : Tree} → Good is_head i → Good is_inner t → Good is_inner u → Good is_statement b → Good is_statement (node For ss (i ⊳ t ⊳ u ⊳ b ⊳ ε))
loop_good ss {i = node i is si} {t = node t ts st} {u = node u us su} {b = node b bs sb} g h j k = record {
  stands = refl;
  signed = and_from ((is_head i && (is_inner t && (is_inner u && is_statement b))) && true) _
      (and_from (is_head i && (is_inner t && (is_inner u && is_statement b))) true (and_from (is_head i) _ g.stands (and_from (is_inner t) _ h.stands (and_from (is_inner u) (is_statement b) j.stands k.stands))) refl)
      (and_from (is_signed (node i is si)) _ g.signed (and_from (is_signed (node t ts st)) _ h.signed (and_from (is_signed (node u us su)) _ j.signed (and_from (is_signed (node b bs sb)) true k.signed refl))));
}
