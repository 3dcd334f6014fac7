-- Where the tree shaker's walk changes nothing, nothing is left that goes plainly, outside places that aren't entered.
use Rattle.std.proofs.Common.{◌≡◌, Bool, true, false, not, ◌&&◌, ◌||◌, if◌then◌else◌, List, [], ◌∷◌, ◌++◌, refl, sym, ap, ◌∙◌}
use Rattle.std.proofs.lemmas.Bool.{false≢true, true≢false, and_parts, or_parts, or_from, or_left, or_right, not-true}
use Rattle.swc_ast.specs.Labels.{is_export_declaration, is_block, is_declaration}
use Rattle.swc_ast.specs.declared.Span.{Span}
use Rattle.swc_ast.specs.declared.VarDeclKind.{VarDeclKind}
use Rattle.swc_ast.specs.declared.VarDeclKind.TheVariants.{Var, Let, Const}
use Rattle.swc_ast.specs.Reach.{is_closed, is_for, is_exported, named_outside}
use Rattle.swc_ast.specs.Run.{own_texts, declared_exports, item_exports, exported, has_text}
use Rattle.swc_ast.specs.Scope.{has_name, declarator_names}
use Rattle.swc_ast.specs.Tree.{Name, Text, same_name, Label, Module, Script, Block, Body, CaseBody, For, VarDecl, Declarator, FnDecl, Import, ImportNamed, ImportDefault, ImportStar, ExportDecl, Tree, node, Forest, ε, ◌⊳◌}
use Rattle.swc_ast.specs.Valid.{good_names, good_shape, valid, valid_all}
use Rattle.static_proofs.specs.Shaped.{is_statement, is_whole_item, is_declarator_of, is_specifier, labels_of, all_labels, holds, is_shaped, are_shaped, IsShaped}
use Rattle.tree_walk.specs.Pass.{walks_each, may_pass, is_unvisited, are_unvisited}
use Rattle.static_proofs.proofs.Names.{same_name_itself}
use Rattle.tree_walk.specs.Walks as walk
use Rattle.tree_walk.specs.Walks.{Walks, Entered as Went, Whole, AllWalk, nothing, both}
use Rattle.dce_rules.specs.Uses.{is_argument, seen_by_eval, calls_eval, is_export_of, is_used_unnamed, free_to_go}
use Rattle.dce_rules.specs.Left.{any_of, is_plain_value, declared_plainly, is_head, left_in, left_among, Entered, speaks_of_arguments, is_kept}
use Rattle.dce_proofs.specs.Laws.{Knows}
use Rattle.dce_proofs.proofs.LeftOver.{left_kept}
use Rattle.dce_rules.specs.Shakes.{Shaker, goes_plainly, some_go, import_goes, item_goes, some_item_goes, node_rests, is_shut, is_head_alone, shake_pass}
use Rattle.dce_proofs.proofs.Quiet.{is_open, some_open, all_shut, plain_quiet}

or_l : (a b : Bool) → (a || b) ≡ false → a ≡ false
or_l a b h = (or_parts a b h).0

or_r : (a b : Bool) → (a || b) ≡ false → b ≡ false
or_r a b h = (or_parts a b h).1

skip_if : (b e : Bool) → e ≡ false → (if b then false else e) ≡ false
skip_if true e p = refl
skip_if false e p = p

-- what is closed declares nothing plainly that goes
open_own : (S : Shaker) (l : Label) (ss : List Span) (cs : Forest) → is_open S (node l ss cs) ≡ false → any_of S.free (declared_plainly l cs) ≡ false
open_own S (FnDecl x) ss cs e = or_from (S.free x) false e refl
open_own S (Import src) ss cs e = refl
open_own S ExportDecl ss cs e = absurd (true≢false e)
open_own S l ss cs e = e

node_left : (S : Shaker) (l : Label) (ss : List Span) (cs : Forest) → is_open S (node l ss cs) ≡ false → left_among S.free (is_for l) cs ≡ false → left_in S.free (node l ss cs) ≡ false
node_left S l ss cs e h = or_from (any_of S.free (declared_plainly l cs)) (if is_closed l cs then false else left_among S.free (is_for l) cs) (open_own S l ss cs e) (skip_if (is_closed l cs) (left_among S.free (is_for l) cs) h)

-- what is not entered
shut_below : (S : Shaker) (l : Label) (cs : Forest) → (is_closed l cs || is_head_alone l cs) ≡ true → (if is_closed l cs then false else left_among S.free (is_for l) cs) ≡ false
shut_below S l cs h = by_case (is_closed l cs) refl
  where
    alone : (l : Label) (cs : Forest) → is_head_alone l cs ≡ true → left_among S.free (is_for l) cs ≡ false
    alone For (node (VarDecl k) ss ds ⊳ ε) e = refl
    alone l cs e = absurd (false≢true e)

    by_case : (b : Bool) → is_closed l cs ≡ b → (if b then false else left_among S.free (is_for l) cs) ≡ false
    by_case true e = refl
    by_case false e = alone l cs (sym (ap (λ b. b || is_head_alone l cs) e) ∙ h)

-- what is known of the children of a node

declarators_shut : (S : Shaker) (k : VarDeclKind) (ts : Forest) → all_labels (is_declarator_of k) (labels_of ts) ≡ true → some_go S ts ≡ false → some_open S ts ≡ false
declarators_shut S k ε a g = refl
declarators_shut S Var (node (Declarator Var x) ss cs ⊳ ts) a g = or_from (goes_plainly S (node (Declarator Var x) ss cs)) (some_open S ts) (or_l (goes_plainly S (node (Declarator Var x) ss cs)) (some_go S ts) g) (declarators_shut S Var ts a (or_r (goes_plainly S (node (Declarator Var x) ss cs)) (some_go S ts) g))
declarators_shut S Let (node (Declarator Let x) ss cs ⊳ ts) a g = or_from (goes_plainly S (node (Declarator Let x) ss cs)) (some_open S ts) (or_l (goes_plainly S (node (Declarator Let x) ss cs)) (some_go S ts) g) (declarators_shut S Let ts a (or_r (goes_plainly S (node (Declarator Let x) ss cs)) (some_go S ts) g))
declarators_shut S Const (node (Declarator Const x) ss cs ⊳ ts) a g = or_from (goes_plainly S (node (Declarator Const x) ss cs)) (some_open S ts) (or_l (goes_plainly S (node (Declarator Const x) ss cs)) (some_go S ts) g) (declarators_shut S Const ts a (or_r (goes_plainly S (node (Declarator Const x) ss cs)) (some_go S ts) g))
declarators_shut S k (node l ss cs ⊳ ts) a g = absurd (false≢true a)

specifier_shut : (S : Shaker) (l : Label) (ss : List Span) (cs : Forest) → is_specifier l ≡ true → goes_plainly S (node l ss cs) ≡ false → is_open S (node l ss cs) ≡ false
specifier_shut S (ImportNamed x i) ss cs e g = g
specifier_shut S (ImportDefault x) ss cs e g = g
specifier_shut S (ImportStar x) ss cs e g = g
specifier_shut S l ss cs e g = absurd (false≢true e)

specifiers_shut : (S : Shaker) (ts : Forest) → all_labels is_specifier (labels_of ts) ≡ true → some_go S ts ≡ false → some_open S ts ≡ false
specifiers_shut S ε a g = refl
specifiers_shut S (node l ss cs ⊳ ts) a g =
    let p = and_parts (is_specifier l) (all_labels is_specifier (labels_of ts)) a in
    or_from (is_open S (node l ss cs)) (some_open S ts) (specifier_shut S l ss cs p.0 (or_l (goes_plainly S (node l ss cs)) (some_go S ts) g)) (specifiers_shut S ts p.1 (or_r (goes_plainly S (node l ss cs)) (some_go S ts) g))

item_shut : (S : Shaker) (l : Label) (ss : List Span) (cs : Forest) → is_statement l ≡ true → item_goes S (node l ss cs) ≡ false → is_open S (node l ss cs) ≡ false
item_shut S (FnDecl x) ss cs e g = g
item_shut S (Import src) ss cs e g = absurd (false≢true e)
item_shut S ExportDecl ss cs e g = absurd (false≢true e)
item_shut S (Declarator k x) ss cs e g = absurd (false≢true e)
item_shut S (ImportNamed x i) ss cs e g = absurd (false≢true e)
item_shut S (ImportDefault x) ss cs e g = absurd (false≢true e)
item_shut S (ImportStar x) ss cs e g = absurd (false≢true e)
item_shut S l ss cs e g = refl

statements_shut : (S : Shaker) (ts : Forest) → all_labels is_statement (labels_of ts) ≡ true → some_item_goes S ts ≡ false → some_open S ts ≡ false
statements_shut S ε a g = refl
statements_shut S (node l ss cs ⊳ ts) a g =
    let p = and_parts (is_statement l) (all_labels is_statement (labels_of ts)) a in
    or_from (is_open S (node l ss cs)) (some_open S ts) (item_shut S l ss cs p.0 (or_l (item_goes S (node l ss cs)) (some_item_goes S ts) g)) (statements_shut S ts p.1 (or_r (item_goes S (node l ss cs)) (some_item_goes S ts) g))

pass_rests : (S : Shaker) (l : Label) (cs : Forest) → may_pass l ≡ true → node_rests S l cs ≡ true
pass_rests S (VarDecl k) cs e = absurd (false≢true e)
pass_rests S (Import src) cs e = absurd (false≢true e)
pass_rests S l cs e = refl

not_false : (b : Bool) → not b ≡ true → b ≡ false
not_false false h = refl
not_false true h = absurd (false≢true h)

import_rests : (g b : Bool) → g ≡ false → (g || not b) ≡ true → b ≡ false
import_rests false b e h = not_false b h
import_rests true b e h = absurd (true≢false e)

-- the children of a node whose children are walked one by one
children_shut : (S : Shaker) (l : Label) (ss : List Span) (cs : Forest) → walks_each l ≡ true → is_shaped (node l ss cs) ≡ true → valid (node l ss cs) ≡ true → node_rests S l cs ≡ true → some_open S cs ≡ false
children_shut S (VarDecl k) ss cs p a v r = declarators_shut S k cs (and_parts (holds (VarDecl k) (labels_of cs)) (are_shaped cs) a).0 (not_false (some_go S cs) r)
children_shut S l ss cs p a v r = all_shut S cs (plain_quiet l cs p refl (and_parts (holds l (labels_of cs)) (are_shaped cs) a).0 (and_parts (good_names l) (good_shape l cs) (and_parts (good_names l && good_shape l cs) (valid_all cs) v).0).1)

block_labels : (l : Label) (cs : Forest) → is_block l ≡ true → holds l (labels_of cs) ≡ true → all_labels is_statement (labels_of cs) ≡ true
block_labels Block cs e a = a
block_labels Body cs e a = a
block_labels CaseBody cs e a = a
block_labels l cs e a = absurd (false≢true e)

head_alone : (S : Shaker) (h : Tree) (ts : Forest) → is_shut (node For [] (h ⊳ ε)) ≡ true → left_among S.free false ts ≡ false → left_among S.free true (h ⊳ ts) ≡ false
head_alone S (node (VarDecl k) ss ds) ts e g = g
head_alone S (node l ss ds) ts e g = absurd (false≢true e)

below_shaped : (l : Label) (ss : List Span) (cs : Forest) → is_shaped (node l ss cs) ≡ true → are_shaped cs ≡ true
below_shaped l ss cs a = (and_parts (holds l (labels_of cs)) (are_shaped cs) a).1

below_valid : (l : Label) (ss : List Span) (cs : Forest) → valid (node l ss cs) ≡ true → valid_all cs ≡ true
below_valid l ss cs v = (and_parts (good_names l && good_shape l cs) (valid_all cs) v).1

-- nodes that no rule sees
module _ (S : Shaker) where
  mutual
    one_unvisited_left : (t : Tree) → is_unvisited t ≡ true → is_shaped t ≡ true → valid t ≡ true → is_open S t ≡ false → left_in S.free t ≡ false
    one_unvisited_left (node l ss cs) i a v o =
        let p = and_parts (walks_each l) (may_pass l && are_unvisited cs) i in
        let q = and_parts (may_pass l) (are_unvisited cs) p.1 in
        node_left S l ss cs o (unvisited_left cs q.1 (below_shaped l ss cs a) (below_valid l ss cs v) (children_shut S l ss cs p.0 a v (pass_rests S l cs q.0)) (is_for l))

    unvisited_left : (ts : Forest) → are_unvisited ts ≡ true → are_shaped ts ≡ true → valid_all ts ≡ true → some_open S ts ≡ false → (head : Bool) → left_among S.free head ts ≡ false
    unvisited_left ε i a v o head = refl
    unvisited_left (t ⊳ ts) i a v o head =
        let p = and_parts (is_shaped t) (are_shaped ts) a in
        let q = and_parts (valid t) (valid_all ts) v in
        let j = and_parts (is_unvisited t) (are_unvisited ts) i in
        or_from (if is_head head t then false else left_in S.free t) (left_among S.free false ts) (skip_if (is_head head t) (left_in S.free t) (one_unvisited_left t j.0 p.0 q.0 (or_l (is_open S t) (some_open S ts) o))) (unvisited_left ts j.1 p.1 q.1 (or_r (is_open S t) (some_open S ts) o) false)

module _ (S : Shaker) where
  mutual
    pub walks_left : {c : Bool} {t u : Tree} → Walks (shake_pass S) c t u → c ≡ false → is_shaped u ≡ true → valid u ≡ true → is_open S u ≡ false → left_in S.free u ≡ false
    walks_left (walk.closed {t = node l ss cs} s) n a v o = or_from (any_of S.free (declared_plainly l cs)) (if is_closed l cs then false else left_among S.free (is_for l) cs) (open_own S l ss cs o) (shut_below S l cs s)
    walks_left (walk.opened o w) n a v q = absurd (true≢false n)
    walks_left (walk.passes {l = l} {us = us} i e) n a v o = entered_left e n a v (pass_rests S l us i) o
    walks_left (walk.stands {b = node l ss us} e r) n a v o = entered_left e n a v r o
    walks_left (walk.stepped e s) n a v o = absurd (true≢false n)

    entered_left : {c : Bool} {t : Tree} {l : Label} {ss : List Span} {us : Forest} → Went (shake_pass S) c t (node l ss us) → c ≡ false → is_shaped (node l ss us) ≡ true → valid (node l ss us) ≡ true → node_rests S l us ≡ true → is_open S (node l ss us) ≡ false → left_in S.free (node l ss us) ≡ false
    entered_left (walk.plain {l = l} {ss = ss} {us = us} p ws) n a v r o = node_left S l ss us o (all_left ws n (below_shaped l ss us a) (below_valid l ss us v) (children_shut S l ss us p a v r) (is_for l))
    entered_left (walk.exported d ws) n a v r o = absurd (true≢false o)
    entered_left (walk.headed {c = c} {d = d} {k = k} {ss = ss} {rs = rs} {es = es} {us = us} ds ws) n a v r o = node_left S For ss (node (VarDecl k) rs es ⊳ us) o (all_left ws (or_r c d n) (and_parts (is_shaped (node (VarDecl k) rs es)) (are_shaped us) (below_shaped For ss (node (VarDecl k) rs es ⊳ us) a)).1 (and_parts (valid (node (VarDecl k) rs es)) (valid_all us) (below_valid For ss (node (VarDecl k) rs es ⊳ us) v)).1 (or_r (is_open S (node (VarDecl k) rs es)) (some_open S us) (children_shut S For ss (node (VarDecl k) rs es ⊳ us) refl a v refl)) false)
    entered_left (walk.head_shut {h = h} {ss = ss} {us = us} s ws) n a v r o = node_left S For ss (h ⊳ us) o (head_alone S h us s (all_left ws n (and_parts (is_shaped h) (are_shaped us) (below_shaped For ss (h ⊳ us) a)).1 (and_parts (valid h) (valid_all us) (below_valid For ss (h ⊳ us) v)).1 (or_r (is_open S h) (some_open S us) (children_shut S For ss (h ⊳ us) refl a v refl)) false))
    entered_left (walk.imports {src = src} {ss = ss} {ts = ts} u) n a v r o = node_left S (Import src) ss ts o (unvisited_left S ts u (below_shaped (Import src) ss ts a) (below_valid (Import src) ss ts v) (specifiers_shut S ts (and_parts (holds (Import src) (labels_of ts)) (are_shaped ts) a).0 (import_rests (import_goes S ts) (some_go S ts) o r)) false)
    entered_left (walk.block {l = l} {ss = ss} b (walk.listed {us = us} ws t)) n a v r o = node_left S l ss us o (all_left ws n (below_shaped l ss us a) (below_valid l ss us v) (statements_shut S us (block_labels l us b (and_parts (holds l (labels_of us)) (are_shaped us) a).0) t) (is_for l))
    entered_left (walk.block b (walk.tidied ws t)) n a v r o = absurd (true≢false n)

    pub all_left : {c : Bool} {ts us : Forest} → AllWalk (shake_pass S) c ts us → c ≡ false → are_shaped us ≡ true → valid_all us ≡ true → some_open S us ≡ false → (head : Bool) → left_among S.free head us ≡ false
    all_left nothing n a v o head = refl
    all_left (both {c = c} {d = d} {u = u} {us = us} w ws) n a v o head =
        let p = and_parts (is_shaped u) (are_shaped us) a in
        let q = and_parts (valid u) (valid_all us) v in
        or_from (if is_head head u then false else left_in S.free u) (left_among S.free false us) (skip_if (is_head head u) (left_in S.free u) (walks_left w (or_l c d n) p.0 q.0 (or_l (is_open S u) (some_open S us) o))) (all_left ws (or_r c d n) p.1 q.1 (or_r (is_open S u) (some_open S us) o) false)

-- exported declarations

exported_names : (x : Name) (xs : List Name) → is_exported x (own_texts xs) ≡ has_name x xs
exported_names x [] = refl
exported_names x (y ∷ ys) = ap (λ b. same_name x y || b) (exported_names x ys)

declarator_stays : (S : Shaker) (k : VarDeclKind) (x : Name) (ss : List Span) (cs : Forest) → S.free x ≡ false → goes_plainly S (node (Declarator k x) ss cs) ≡ false
declarator_stays S k x ss ε e = or_from (S.free x) false e refl
declarator_stays S k x ss (r ⊳ ε) e = by_value (is_plain_value r)
  where
    by_value : (b : Bool) → any_of S.free (if b then x ∷ [] else []) ≡ false
    by_value true = or_from (S.free x) false e refl
    by_value false = refl
declarator_stays S k x ss (r ⊳ q ⊳ cs) e = refl

declarators_stay : (S : Shaker) (k : VarDeclKind) (ts : Forest) → all_labels (is_declarator_of k) (labels_of ts) ≡ true → ((x : Name) → has_name x (declarator_names ts) ≡ true → S.free x ≡ false) → some_open S ts ≡ false
declarators_stay S k ε a f = refl
declarators_stay S Var (node (Declarator Var x) ss cs ⊳ ts) a f = or_from (goes_plainly S (node (Declarator Var x) ss cs)) (some_open S ts) (declarator_stays S Var x ss cs (f x (or_left (same_name x x) (has_name x (declarator_names ts)) (same_name_itself x)))) (declarators_stay S Var ts a (λ y h. f y (or_right (same_name y x) (has_name y (declarator_names ts)) h)))
declarators_stay S Let (node (Declarator Let x) ss cs ⊳ ts) a f = or_from (goes_plainly S (node (Declarator Let x) ss cs)) (some_open S ts) (declarator_stays S Let x ss cs (f x (or_left (same_name x x) (has_name x (declarator_names ts)) (same_name_itself x)))) (declarators_stay S Let ts a (λ y h. f y (or_right (same_name y x) (has_name y (declarator_names ts)) h)))
declarators_stay S Const (node (Declarator Const x) ss cs ⊳ ts) a f = or_from (goes_plainly S (node (Declarator Const x) ss cs)) (some_open S ts) (declarator_stays S Const x ss cs (f x (or_left (same_name x x) (has_name x (declarator_names ts)) (same_name_itself x)))) (declarators_stay S Const ts a (λ y h. f y (or_right (same_name y x) (has_name y (declarator_names ts)) h)))
declarators_stay S k (node l ss cs ⊳ ts) a f = absurd (false≢true a)

whole_item_shut : (S : Shaker) (l : Label) (ss : List Span) (cs : Forest) → is_whole_item l ≡ true → is_export_declaration l ≡ false → item_goes S (node l ss cs) ≡ false → is_open S (node l ss cs) ≡ false
whole_item_shut S (FnDecl x) ss cs e n g = g
whole_item_shut S (Import src) ss cs e n g = g
whole_item_shut S ExportDecl ss cs e n g = absurd (true≢false n)
whole_item_shut S (Declarator k x) ss cs e n g = absurd (false≢true e)
whole_item_shut S (ImportNamed x i) ss cs e n g = absurd (false≢true e)
whole_item_shut S (ImportDefault x) ss cs e n g = absurd (false≢true e)
whole_item_shut S (ImportStar x) ss cs e n g = absurd (false≢true e)
whole_item_shut S l ss cs e n g = refl

module _ (S : Shaker) where
  -- a declaration that is exported
  declaration_left : (l : Label) (rs : List Span) {c : Bool} {ts us : Forest} → is_declaration l ≡ true → AllWalk (shake_pass S) c ts us → c ≡ false → is_shaped (node l rs us) ≡ true → valid (node l rs us) ≡ true → ((x : Name) → is_exported x (declared_exports l us) ≡ true → S.free x ≡ false) → left_in S.free (node l rs us) ≡ false
  declaration_left (VarDecl k) rs {us = us} d ws n a v f = or_from false (if is_closed (VarDecl k) us then false else left_among S.free false us) refl (skip_if (is_closed (VarDecl k) us) (left_among S.free false us) (all_left S ws n (below_shaped (VarDecl k) rs us a) (below_valid (VarDecl k) rs us v) (declarators_stay S k us (and_parts (holds (VarDecl k) (labels_of us)) (are_shaped us) a).0 (λ x h. f x (exported_names x (declarator_names us) ∙ h))) false))
  declaration_left (FnDecl x) rs {us = us} d ws n a v f = node_left S (FnDecl x) rs us (f x (or_left (same_name x x) false (same_name_itself x))) (all_left S ws n (below_shaped (FnDecl x) rs us a) (below_valid (FnDecl x) rs us v) (children_shut S (FnDecl x) rs us refl a v refl) false)
  declaration_left l rs d ws n a v f = absurd (false≢true d)

  export_left : {c : Bool} {t : Tree} {ss : List Span} {cs : Forest} → Walks (shake_pass S) c t (node ExportDecl ss cs) → c ≡ false → is_shaped (node ExportDecl ss cs) ≡ true → valid (node ExportDecl ss cs) ≡ true → ((x : Name) → is_exported x (item_exports ExportDecl cs) ≡ true → S.free x ≡ false) → left_in S.free (node ExportDecl ss cs) ≡ false
  export_left {cs = cs} (walk.closed s) n a v f = or_from false (if is_closed ExportDecl cs then false else left_among S.free false cs) refl (shut_below S ExportDecl cs s)
  export_left (walk.opened o w) n a v f = absurd (true≢false n)
  export_left (walk.passes i e) n a v f = absurd (false≢true i)
  export_left (walk.stands (walk.plain p ws) r) n a v f = absurd (false≢true p)
  export_left (walk.stands (walk.exported {l = l} {ss = ss} {rs = rs} {us = us} d ws) r) n a v f = or_from false (left_in S.free (node l rs us) || false) refl (or_from (left_in S.free (node l rs us)) false (declaration_left l rs d ws n (and_parts (is_shaped (node l rs us)) true (below_shaped ExportDecl ss (node l rs us ⊳ ε) a)).0 (and_parts (valid (node l rs us)) true (below_valid ExportDecl ss (node l rs us ⊳ ε) v)).0 f) refl)
  export_left (walk.stands (walk.block b m) r) n a v f = absurd (false≢true b)
  export_left (walk.stepped e s) n a v f = absurd (true≢false n)

  -- items of a module, of which what is exported stays

  stays_by : (b : Bool) {d : Bool} → (b ≡ true → d ≡ false) → d ≡ true → b ≡ false
  stays_by false f h = refl
  stays_by true f h = absurd (true≢false (sym h ∙ f refl))

  either : (a b c d : Bool) → (a ≡ true → c ≡ true) → (b ≡ true → d ≡ true) → (a || b) ≡ true → (c || d) ≡ true
  either true b c d h g e = or_left c d (h refl)
  either false b c d h g e = or_right c d (g e)

  -- what is not entered declares nothing by itself
  shut_own : (l : Label) (cs : Forest) → (is_closed l cs || is_head_alone l cs) ≡ true → any_of S.free (declared_plainly l cs) ≡ false
  shut_own (FnDecl x) ε s = absurd (false≢true s)
  shut_own (FnDecl x) (t ⊳ ts) s = absurd (false≢true s)
  shut_own (Declarator k x) ε s = absurd (false≢true s)
  shut_own (Declarator k x) (t ⊳ ts) s = absurd (false≢true s)
  shut_own (ImportNamed x i) ε s = absurd (false≢true s)
  shut_own (ImportNamed x i) (t ⊳ ts) s = absurd (false≢true s)
  shut_own (ImportDefault x) ε s = absurd (false≢true s)
  shut_own (ImportDefault x) (t ⊳ ts) s = absurd (false≢true s)
  shut_own (ImportStar x) ε s = absurd (false≢true s)
  shut_own (ImportStar x) (t ⊳ ts) s = absurd (false≢true s)
  shut_own l cs s = refl

  item_left : {c : Bool} {t : Tree} (l : Label) (ss : List Span) (cs : Forest) → Walks (shake_pass S) c t (node l ss cs) → c ≡ false → is_whole_item l ≡ true → is_shaped (node l ss cs) ≡ true → valid (node l ss cs) ≡ true → item_goes S (node l ss cs) ≡ false → ((x : Name) → is_exported x (item_exports l cs) ≡ true → S.free x ≡ false) → left_in S.free (node l ss cs) ≡ false
  item_left ExportDecl ss cs w n e a v g f = export_left w n a v f
  item_left l ss cs w n e a v g f = walks_left S w n a v (whole_item_shut S l ss cs e refl g)

  exported_first : (x : Name) (ps qs : List (Text × Name)) → is_exported x ps ≡ true → is_exported x (ps ++ qs) ≡ true
  exported_first x [] qs h = absurd (false≢true h)
  exported_first x (p ∷ ps) qs h = either (same_name x p.1) (is_exported x ps) (same_name x p.1) (is_exported x (ps ++ qs)) (λ e. e) (exported_first x ps qs) h

  exported_rest : (x : Name) (ps qs : List (Text × Name)) → is_exported x qs ≡ true → is_exported x (ps ++ qs) ≡ true
  exported_rest x [] qs h = h
  exported_rest x (p ∷ ps) qs h = or_right (same_name x p.1) (is_exported x (ps ++ qs)) (exported_rest x ps qs h)

  items_left : {c : Bool} {ts us : Forest} → AllWalk (shake_pass S) c ts us → c ≡ false → all_labels is_whole_item (labels_of us) ≡ true → are_shaped us ≡ true → valid_all us ≡ true → some_item_goes S us ≡ false → ((x : Name) → is_exported x (exported us) ≡ true → S.free x ≡ false) → left_among S.free false us ≡ false
  items_left nothing n e a v g f = refl
  items_left (both {c = c} {d = d} {u = node l ss cs} {us = us} w ws) n e a v g f =
      let p = and_parts (is_shaped (node l ss cs)) (are_shaped us) a in
      let q = and_parts (valid (node l ss cs)) (valid_all us) v in
      let j = and_parts (is_whole_item l) (all_labels is_whole_item (labels_of us)) e in
      or_from (left_in S.free (node l ss cs)) (left_among S.free false us)
      (item_left l ss cs w (or_l c d n) j.0 p.0 q.0 (or_l (item_goes S (node l ss cs)) (some_item_goes S us) g) (λ x h. f x (exported_first x (item_exports l cs) (exported us) h)))
      (items_left ws (or_r c d n) j.1 p.1 q.1 (or_r (item_goes S (node l ss cs)) (some_item_goes S us) g) (λ x h. f x (exported_rest x (item_exports l cs) (exported us) h)))

  -- a module or a script that didn't change
  pub whole_left : {c : Bool} {t u : Tree} → Whole (shake_pass S) c t u → c ≡ false → is_shaped u ≡ true → valid u ≡ true → ((x : Name) → S.free x ≡ true → is_export_of x u ≡ false) → left_in S.free u ≡ false
  whole_left (walk.shut {t = node l ss cs} s) n a v f = or_from (any_of S.free (declared_plainly l cs)) (if is_closed l cs then false else left_among S.free (is_for l) cs) (shut_own l cs s) (shut_below S l cs s)
  whole_left (walk.whole {l = Module} {ss = ss} i (walk.listed {us = us} ws t)) n a v f = or_from false (if is_closed Module us then false else left_among S.free false us) refl (skip_if (is_closed Module us) (left_among S.free false us) (items_left ws n (and_parts (holds Module (labels_of us)) (are_shaped us) a).0 (below_shaped Module ss us a) (below_valid Module ss us v) t (λ x h. stays_by (S.free x) (f x) h)))
  whole_left (walk.whole {l = Script} {ss = ss} i (walk.listed {us = us} ws t)) n a v f = node_left S Script ss us refl (all_left S ws n (below_shaped Script ss us a) (below_valid Script ss us v) (statements_shut S us (and_parts (holds Script (labels_of us)) (are_shaped us) a).0 t) false)
  whole_left (walk.whole {l = l} i (walk.listed ws t)) n a v f = absurd (false≢true i)
  whole_left (walk.whole i (walk.tidied ws t)) n a v f = absurd (true≢false n)

-- what is free to go is not exported
pub free_unexported : {S : Shaker} {retained : List Text} {t : Tree} → Knows S retained t → (x : Name) → S.free x ≡ true → is_export_of x t ≡ false
free_unexported {S} {retained} {t} k x e = or_l (is_export_of x t) (is_argument x t || seen_by_eval x t) (or_r (named_outside x t) (is_used_unnamed x t) (or_r (has_text x.text retained) (named_outside x t || is_used_unnamed x t) (not-true (has_text x.text retained || (named_outside x t || is_used_unnamed x t)) (k.free_are x e))))

-- Where nothing changed, what entered nodes declare plainly is exported, retained or named outside functions of its name.
pub unchanged_kept : (S : Shaker) (retained : List Text) (t : Tree) → Knows S retained t → ((x : Name) → free_to_go retained t x ≡ true → S.free x ≡ true) → IsShaped t → valid t ≡ true → calls_eval t ≡ false → speaks_of_arguments t ≡ false → Whole (shake_pass S) false t t
    → (l : Label) (ss : List Span) (cs : Forest) → Entered (node l ss cs) t → (x : Name) (xs : List Name) → declared_plainly l cs ≡ x ∷ xs → is_kept retained t x ≡ true
unchanged_kept S retained t k all h v e a w l ss cs i x xs q = left_kept retained t e a S.free all (whole_left S w refl h.shaped v (free_unexported k)) i x xs q
