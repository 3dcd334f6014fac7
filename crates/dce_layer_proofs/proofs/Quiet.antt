-- A tree rests where none of its names goes and nothing in its lists goes in any case.
use Rattle.std.proofs.Common.{◌≡◌, Bool, true, false, not, ◌&&◌, ◌||◌, if◌then◌else◌, List, [], ◌∷◌, ◌++◌, refl, sym, ap, ap₂, ◌∙◌}
use Rattle.std.proofs.lemmas.Bool.{false≢true, or_left, or_right, and_parts}
use Rattle.swc_ast.specs.declared.Span.{Span}
use Rattle.swc_ast.specs.Reach.{is_for, is_closed, begins_with_asm}
use Rattle.swc_ast.specs.Scope.{has_name}
use Rattle.swc_ast.specs.Tree.{Name, same_name, Label, Block, Body, CaseBody, VarDecl, Declarator, FnDecl, Module, Script, Import, ImportNamed, ImportDefault, ImportStar, ExportDecl, For, Empty, Tree, node, Forest, ε, ◌⊳◌, label_of}
use Rattle.swc_ast.specs.Weight.{is_list}
use Rattle.static_proofs.proofs.Names.{same_name_itself, has_name_append}
use Rattle.static_proofs.specs.Names.{is_some_tree}
use Rattle.tree_walk.specs.Pass.{only_head}
use Rattle.tree_walk.specs.Walks.{Walks, closed, passes, stands, Entered, plain, exported, head_shut, imports, block, listed, AllWalk, nothing, both}
use Rattle.tree_walk.proofs.Walked.{none_of}
use Rattle.dce_rules.specs.Left.{any_of, declared_plainly, is_plain_value}
use Rattle.dce_rules.specs.Shakes.{Shaker, goes_plainly, some_go, all_go, import_goes, item_goes, some_item_goes, is_shut, is_head_alone, shake_pass}
use Rattle.dce_layer_proofs.specs.Goers.{own_goer, is_closed_label, is_head_label, goers, goers_among, is_void_item, is_one_declaration, is_sound, tight, tight_among}

-- none of some names goes
pub record Quiet (S : Shaker) (xs : List Name) : Type 0 where
  pub still : (x : Name) → has_name x xs ≡ true → S.free x ≡ false

pub quiet_left : {S : Shaker} (xs ys : List Name) → Quiet S (xs ++ ys) → Quiet S xs
quiet_left xs ys q = record { still = λ x h. q.still x (has_name_append x xs ys ∙ or_left (has_name x xs) (has_name x ys) h) }

pub quiet_right : {S : Shaker} (xs ys : List Name) → Quiet S (xs ++ ys) → Quiet S ys
quiet_right xs ys q = record { still = λ x h. q.still x (has_name_append x xs ys ∙ or_right (has_name x xs) (has_name x ys) h) }

and_none : (b : Bool) → (b && false) ≡ false
and_none true = refl
and_none false = refl

-- a node

first_still : {S : Shaker} (x : Name) (xs : List Name) → Quiet S (x ∷ xs) → S.free x ≡ false
first_still x xs q = q.still x (or_left (same_name x x) (has_name x xs) (same_name_itself x))

value_still : {S : Shaker} (b : Bool) (x : Name) → Quiet S (x ∷ []) → any_of S.free (if b then x ∷ [] else []) ≡ false
value_still true x q = ap (λ c. c || false) (first_still x [] q)
value_still false x q = refl

plain_still : {S : Shaker} (l : Label) (cs : Forest) → Quiet S (own_goer l) → any_of S.free (declared_plainly l cs) ≡ false
plain_still (FnDecl x) cs q = ap (λ c. c || false) (first_still x [] q)
plain_still (ImportNamed x i) cs q = ap (λ c. c || false) (first_still x [] q)
plain_still (ImportDefault x) cs q = ap (λ c. c || false) (first_still x [] q)
plain_still (ImportStar x) cs q = ap (λ c. c || false) (first_still x [] q)
plain_still (Declarator k x) ε q = ap (λ c. c || false) (first_still x [] q)
plain_still (Declarator k x) (r ⊳ ε) q = value_still (is_plain_value r) x q
plain_still l cs q = refl

goes_still : {S : Shaker} (t : Tree) → Quiet S (own_goer (label_of t)) → goes_plainly S t ≡ false
goes_still (node l ss cs) q = plain_still l cs q

-- nodes in a row

first_of : {S : Shaker} (t : Tree) (ts : Forest) → Quiet S (goers_among false (t ⊳ ts)) → Quiet S (own_goer (label_of t) ++ goers t)
first_of t ts q = quiet_left (own_goer (label_of t) ++ goers t) (goers_among false ts) q

rest_of : {S : Shaker} (t : Tree) (ts : Forest) → Quiet S (goers_among false (t ⊳ ts)) → Quiet S (goers_among false ts)
rest_of t ts q = quiet_right (own_goer (label_of t) ++ goers t) (goers_among false ts) q

some_still : {S : Shaker} (ts : Forest) → Quiet S (goers_among false ts) → some_go S ts ≡ false
some_still ε q = refl
some_still (t ⊳ ts) q = ap₂ (λ a b. a || b) (goes_still t (quiet_left (own_goer (label_of t)) (goers t) (first_of t ts q))) (some_still ts (rest_of t ts q))

import_still : {S : Shaker} (cs : Forest) → Quiet S (goers_among false cs) → import_goes S cs ≡ false
import_still {S} ε q = and_none S.drops_imports
import_still {S} (t ⊳ ts) q = ap (λ b. S.drops_imports && (is_some_tree (t ⊳ ts) && (b && all_go S ts))) (goes_still t (quiet_left (own_goer (label_of t)) (goers t) (first_of t ts q))) ∙ ap (λ b. S.drops_imports && b) (and_none (is_some_tree (t ⊳ ts))) ∙ and_none S.drops_imports

-- the function that a label declares doesn't go
abbrev pub Held : Shaker → Label → Type 0
Held S (FnDecl x) = S.free x ≡ false
Held S l = Unit {0}

held_by : {S : Shaker} (l : Label) → Quiet S (own_goer l) → Held S l
held_by (FnDecl x) q = first_still x [] q
held_by l q = tt

pub item_still : {S : Shaker} (t : Tree) → is_void_item t ≡ false → Held S (label_of t) → Quiet S (goers t) → item_goes S t ≡ false
item_still (node (FnDecl x) ss cs) v k q = k
item_still (node (Import src) ss cs) v k q = import_still cs q
item_still (node Empty ss ε) v k q = absurd (false≢true (sym v))
item_still (node Block ss ε) v k q = absurd (false≢true (sym v))
item_still (node l ss cs) v k q = refl

-- a list

first_tight : (one : Bool) (t : Tree) (ts : Forest) → tight_among false one (t ⊳ ts) ≡ true → (not (one && is_void_item t) && tight t) ≡ true
first_tight one t ts h = (and_parts (not (one && is_void_item t) && tight t) (tight_among false one ts) h).0

rest_tight : (one : Bool) (t : Tree) (ts : Forest) → tight_among false one (t ⊳ ts) ≡ true → tight_among false one ts ≡ true
rest_tight one t ts h = (and_parts (not (one && is_void_item t) && tight t) (tight_among false one ts) h).1

items_still : {S : Shaker} (ts : Forest) → tight_among false true ts ≡ true → Quiet S (goers_among false ts) → some_item_goes S ts ≡ false
items_still ε h q = refl
items_still (t ⊳ ts) h q =
    ap₂ (λ a b. a || b) (item_still t (none_of (is_void_item t) (and_parts (not (is_void_item t)) (tight t) (first_tight true t ts h)).0) (held_by (label_of t) (quiet_left (own_goer (label_of t)) (goers t) (first_of t ts q))) (quiet_right (own_goer (label_of t)) (goers t) (first_of t ts q))) (items_still ts (rest_tight true t ts h) (rest_of t ts q))

-- heads

head_skips : (t : Tree) → is_head_label true (label_of t) ≡ true → is_shut (only_head t) ≡ true
head_skips (node (VarDecl k) ss ds) h = refl
head_skips (node l ss cs) h = absurd (false≢true h)

-- what is known of the children of a node, by its label

abbrev pub Every : Shaker → Forest → Type 0
Every S cs = (one : Bool) → tight_among false one cs ≡ true → Quiet S (goers_among false cs) → AllWalk (shake_pass S) false cs cs

abbrev pub Heads : Shaker → List Span → Forest → Type 0
Heads S ss cs = tight_among true false cs ≡ true → Quiet S (goers_among true cs) → Entered (shake_pass S) false (node For ss cs) (node For ss cs)

abbrev pub Exports : Shaker → List Span → Forest → Type 0
Exports S ss cs = is_one_declaration cs ≡ true → tight_among false false cs ≡ true → Quiet S (goers_among false cs) → Entered (shake_pass S) false (node ExportDecl ss cs) (node ExportDecl ss cs)

module _ (S : Shaker) where
  -- a node that is entered
  inside : (l : Label) (ss : List Span) (cs : Forest) → Every S cs → Heads S ss cs → Exports S ss cs → is_sound l cs ≡ true → tight_among (is_for l) (is_list l) cs ≡ true → Quiet S (goers_among (is_for l) cs) → Walks (shake_pass S) false (node l ss cs) (node l ss cs)
  inside Block ss cs e f g s h q = passes refl (block refl (listed (e true h q) (items_still cs h q)))
  inside Body ss cs e f g s h q = passes refl (block refl (listed (e true h q) (items_still cs h q)))
  inside CaseBody ss cs e f g s h q = passes refl (block refl (listed (e true h q) (items_still cs h q)))
  inside (VarDecl k) ss cs e f g s h q = stands (plain refl (e false h q)) (ap not (some_still cs q))
  inside (Import src) ss cs e f g s h q = stands (imports s) (or_right (import_goes S cs) (not (some_go S cs)) (ap not (some_still cs q)))
  inside ExportDecl ss cs e f g s h q = stands (g s h q) refl
  inside Module ss cs e f g s h q = absurd (false≢true s)
  inside Script ss cs e f g s h q = absurd (false≢true s)
  inside For ss cs e f g s h q = stands (f h q) refl
  inside l ss cs e f g s h q = stands (plain refl (e false h q)) refl

  at : (l : Label) (ss : List Span) (cs : Forest) (b : Bool) → is_closed_label l ≡ b → Every S cs → Heads S ss cs → Exports S ss cs → (if b then true else (is_sound l cs && tight_among (is_for l) (is_list l) cs)) ≡ true → Quiet S (if b then [] else goers_among (is_for l) cs) → Walks (shake_pass S) false (node l ss cs) (node l ss cs)
  at l ss cs true is e f g h q = closed (or_left (is_closed l cs) (is_head_alone l cs) (or_right (begins_with_asm l cs) (is_closed_label l) is))
  at l ss cs false is e f g h q = let p = and_parts (is_sound l cs) (tight_among (is_for l) (is_list l) cs) h in inside l ss cs e f g p.0 p.1 q

  -- the first child of a `for`, and the others
  first_head : (ss : List Span) (t : Tree) (ts : Forest) (b : Bool) → is_head_label true (label_of t) ≡ b → (tight t ≡ true → Quiet S (goers t) → Walks (shake_pass S) false t t) → Every S ts → ((if b then true else (not (false && is_void_item t) && tight t)) && tight_among false false ts) ≡ true → Quiet S ((if b then [] else (own_goer (label_of t) ++ goers t)) ++ goers_among false ts) → Entered (shake_pass S) false (node For ss (t ⊳ ts)) (node For ss (t ⊳ ts))
  first_head ss t ts true is w e h q = head_shut (head_skips t is) (e false h q)
  first_head ss t ts false is w e h q =
      let p = and_parts (tight t) (tight_among false false ts) h in
      plain refl (both (w p.0 (quiet_right (own_goer (label_of t)) (goers t) (quiet_left (own_goer (label_of t) ++ goers t) (goers_among false ts) q))) (e false p.1 (quiet_right (own_goer (label_of t) ++ goers t) (goers_among false ts) q)))

  mutual
    pub walks : (t : Tree) → tight t ≡ true → Quiet S (goers t) → Walks (shake_pass S) false t t
    walks (node l ss cs) h q = at l ss cs (is_closed_label l) refl (λ one i p. all one cs i p) (λ i p. headed ss cs i p) (λ d i p. exporting ss cs d i p) h q

    headed : (ss : List Span) (cs : Forest) → tight_among true false cs ≡ true → Quiet S (goers_among true cs) → Entered (shake_pass S) false (node For ss cs) (node For ss cs)
    headed ss ε h q = plain refl nothing
    headed ss (t ⊳ ts) h q = first_head ss t ts (is_head_label true (label_of t)) refl (λ i p. walks t i p) (λ one i p. all one ts i p) h q

    exporting : (ss : List Span) (cs : Forest) → is_one_declaration cs ≡ true → tight_among false false cs ≡ true → Quiet S (goers_among false cs) → Entered (shake_pass S) false (node ExportDecl ss cs) (node ExportDecl ss cs)
    exporting ss ε d h q = absurd (false≢true d)
    exporting ss (node (VarDecl k) rs ds ⊳ ε) d h q = exported refl (all false ds (and_parts true (tight (node (VarDecl k) rs ds)) (first_tight false (node (VarDecl k) rs ds) ε h)).1 (quiet_right [] (goers (node (VarDecl k) rs ds)) (first_of (node (VarDecl k) rs ds) ε q)))
    exporting ss (node (FnDecl x) rs ds ⊳ ε) d h q = exported refl (all false ds (and_parts true (tight (node (FnDecl x) rs ds)) (first_tight false (node (FnDecl x) rs ds) ε h)).1 (quiet_right (x ∷ []) (goers (node (FnDecl x) rs ds)) (first_of (node (FnDecl x) rs ds) ε q)))
    exporting ss (node l rs ds ⊳ ε) d h q = absurd (false≢true d)
    exporting ss (node l rs ds ⊳ u ⊳ ts) d h q = absurd (false≢true d)

    all : (one : Bool) (ts : Forest) → tight_among false one ts ≡ true → Quiet S (goers_among false ts) → AllWalk (shake_pass S) false ts ts
    all one ε h q = nothing
    all one (t ⊳ ts) h q =
        both (walks t (and_parts (not (one && is_void_item t)) (tight t) (first_tight one t ts h)).1 (quiet_right (own_goer (label_of t)) (goers t) (first_of t ts q))) (all one ts (rest_tight one t ts h) (rest_of t ts q))
