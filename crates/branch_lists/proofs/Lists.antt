-- A list that is swept and cut is tidied.
use Rattle.std.proofs.Common.{◌≡◌, ◌≤◌, ◌<◌, ◌+◌, ℕ, suc, Bool, true, false, ◌||◌, ◌&&◌, if◌then◌else◌, nat_lt, List, [], ◌∷◌, ◌++◌, refl, sym, ap, ap₂, subst, ◌∙◌, arith}
use Rattle.std.specs.declared.alloc.Global.{Global}
use Rattle.std.specs.declared.vec.Vec.{Vec}
use Rattle.swc_ast.specs.Tree as tree
use Rattle.swc_ast.specs.Tree.{Name, Label, Tree, node, Forest, ε, ◌⊳◌}
use Rattle.swc_ast.specs.Modules.{item_tree}
use Rattle.swc_ast.specs.Parts.{list_trees}
use Rattle.swc_ast.specs.Redex.{is_loose, any_loose, list_redex}
use Rattle.swc_ast.specs.Run.{exported}
use Rattle.swc_ast.specs.SameLaws.{impossible}
use Rattle.swc_ast.specs.Scope.{joined, has_name}
use Rattle.swc_ast.specs.Statements.{declarator_tree}
use Rattle.swc_ast.specs.Views.{expr_tree, stmt_tree}
use Rattle.swc_ast.specs.Weight.{is_stopper, stays_behind, movable, unreached}
use Rattle.swc_ast.specs.declared.Span.{Span}
use Rattle.swc_ast.specs.declared.VarDeclKind.{VarDeclKind}
use Rattle.swc_ast.specs.declared.VarDeclKind.TheVariants.{Var, Let, Const}
use Rattle.swc_ast.specs.declared.declarations.VarDeclarator.{VarDeclarator}
use Rattle.swc_ast.specs.declared.expressions.Expr.{Expr}
use Rattle.swc_ast.specs.declared.modules.ModuleItem.{ModuleItem}
use Rattle.swc_ast.specs.declared.modules.ModuleItem.TheVariants as items
use Rattle.swc_ast.specs.declared.statements.Stmt.{Stmt}
use Rattle.static_proofs.specs.Shaped.{is_declarator_of, labels_of, all_labels}
use Rattle.branch_rules.specs.Lists.{Swept, none_swept, item_stays, empty_goes, block_opens, going, staying, Cut, uncut, past_item, cut_at, is_statement, all_statements, Tidied, kept_names}
use Rattle.branch_rules.specs.Vars.{NamesOf, Unset, no_more, one_more, Declares, none_declared, some_declared}
use Rattle.swc_utils.proofs.Chains.{joined_none, joined_assoc}
use Rattle.branch_lists.specs.Cuts.{CutsOnto}
use Rattle.branch_lists.specs.Exports.{Id, ids, among, exported_names}
use Rattle.branch_lists.specs.Swept.{trees, contents, swept_item, swept}
use Rattle.branch_lists.proofs.Exported.{names_on, no_names, is_among}
use Rattle.branch_lists.proofs.Items.{loose_decl, stays_at}
use Rattle.branch_lists.proofs.Shapes.{Shape, rest, block, empty, function, variables, is_rest, shape, Loose, loose_empty, loose_block, loose_stmt}

-- sweeping

loose_item : (x : ModuleItem) → is_loose (item_tree x) ≡ true → Loose (item_tree x)
loose_item (items.ModuleDecl d) h = impossible (sym (loose_decl d) ∙ h)
loose_item (items.Stmt s) h = loose_stmt s h

opened : (t : Tree) {ts us : Forest} → Loose t → Swept ts us → Swept (t ⊳ ts) (joined (contents t) us)
opened _ (loose_empty ss) h = empty_goes ss h
opened _ (loose_block ss cs b) h = block_opens ss cs b h

swept_on : (t : Tree) {ts us : Forest} (b : Bool) → (b ≡ true → Loose t) → Swept ts us → Swept (t ⊳ ts) (joined (if b then contents t else t ⊳ ε) us)
swept_on t true loose h = opened t (loose refl) h
swept_on t false loose h = item_stays t h

pub swept_is : {X : Type 0} (f : X → ModuleItem) (xs : List X) → Swept (trees f xs) (swept (trees f xs))
swept_is f [] = none_swept
swept_is f (x ∷ xs) = swept_on (item_tree (f x)) (is_loose (item_tree (f x))) (loose_item (f x)) (swept_is f xs)

-- how many blocks and empty statements there are

abbrev one : Label → ℕ
one tree.Block = 1
one tree.Empty = 1
one _ = 0

abbrev mutual
  loose_in : Tree → ℕ
  loose_in (node l ss cs) = one l + loose_among cs

  loose_among : Forest → ℕ
  loose_among ε = 0
  loose_among (t ⊳ ts) = loose_in t + loose_among ts

abbrev one_if : Bool → ℕ
one_if true = 1
one_if false = 0

among_joined : (ts us : Forest) → loose_among (joined ts us) ≡ loose_among ts + loose_among us
among_joined ε us = omega arith
among_joined (t ⊳ ts) us = omega (arith, among_joined ts us)

fewer : (t : Tree) → is_loose t ≡ true → loose_among (contents t) < loose_in t
fewer (node tree.Block ss cs) h = omega arith
fewer (node tree.Empty ss cs) h = omega arith
fewer (node _ ss cs) h = impossible h

sweeps : (ts : Forest) → loose_among (swept ts) + one_if (any_loose ts) ≤ loose_among ts
sweeps ε = omega arith
sweeps (t ⊳ ts) = by (is_loose t) refl (sweeps ts)
  where
    by : (b : Bool) → is_loose t ≡ b → loose_among (swept ts) + one_if (any_loose ts) ≤ loose_among ts → loose_among (joined (if b then contents t else t ⊳ ε) (swept ts)) + one_if (b || any_loose ts) ≤ loose_in t + loose_among ts
    by true is h = omega (arith, among_joined (contents t) (swept ts), fewer t is, h)
    by false is h = omega (arith, h)

-- cutting

unset_none : {xs : List Name} {ds : Forest} → Unset xs ds → loose_among ds ≡ 0
unset_none no_more = refl
unset_none (one_more x ss h) = omega (arith, unset_none h)

declares_none : {xs : List Name} {vs : Forest} → Declares xs vs → loose_among vs ≡ 0
declares_none none_declared = refl
declares_none (some_declared ss h) = omega (arith, unset_none h)

staying_fewer : (ts : Forest) → loose_among (staying ts) ≤ loose_among ts
staying_fewer ε = omega arith
staying_fewer (t ⊳ ts) = by (stays_behind t) (staying_fewer ts)
  where
    by : (b : Bool) → loose_among (staying ts) ≤ loose_among ts → loose_among (if b then t ⊳ staying ts else staying ts) ≤ loose_in t + loose_among ts
    by true h = omega (arith, h)
    by false h = omega (arith, h)

cut_fewer : (kept : Name → Bool) {ts us : Forest} → Cut kept ts us → loose_among us ≤ loose_among ts
cut_fewer kept uncut = omega arith
cut_fewer kept (past_item t stop h) = omega (arith, cut_fewer kept h)
cut_fewer kept (cut_at t ts {vs = vs} stop names) = omega (arith, among_joined vs (t ⊳ staying ts), declares_none names, staying_fewer ts)

none_moves : (ts : Forest) → movable (staying ts) ≡ 0
none_moves ε = refl
none_moves (t ⊳ ts) = by (stays_behind t) refl (none_moves ts)
  where
    by : (b : Bool) → stays_behind t ≡ b → movable (staying ts) ≡ 0 → movable (if b then t ⊳ staying ts else staying ts) ≡ 0
    by true is h = ap (λ b. if b then movable (staying ts) else suc (movable (staying ts))) is ∙ h
    by false is h = h

declares_first : {xs : List Name} {vs : Forest} (us : Forest) → Declares xs vs → unreached (joined vs us) ≡ unreached us
declares_first us none_declared = refl
declares_first us (some_declared ss h) = refl

cut_reached : (kept : Name → Bool) {ts us : Forest} → Cut kept ts us → unreached us ≡ 0
cut_reached kept uncut = refl
cut_reached kept (past_item t {us = us} stop h) = ap (λ b. if b then movable us else unreached us) stop ∙ cut_reached kept h
cut_reached kept (cut_at t ts stop names) = declares_first (t ⊳ staying ts) names ∙ ap (λ b. if b then movable (staying ts) else unreached (staying ts)) stop ∙ none_moves ts

-- items that may go are statements

lets_alone : (ds : List (VarDeclarator Expr)) → all_labels (is_declarator_of Let) (labels_of (list_trees (declarator_tree expr_tree Let) ds)) ≡ true
lets_alone [] = refl
lets_alone (d ∷ ds) = lets_alone ds

consts_alone : (ds : List (VarDeclarator Expr)) → all_labels (is_declarator_of Const) (labels_of (list_trees (declarator_tree expr_tree Const) ds)) ≡ true
consts_alone [] = refl
consts_alone (d ∷ ds) = consts_alone ds

abbrev IsOne : Tree → Type 0
IsOne t = (stays_behind t || is_statement t) ≡ true

rest_one : (l : Label) (ss : List Span) (cs : Forest) → is_rest l ≡ true → IsOne (node l ss cs)
rest_one tree.Throw ss cs h = refl
rest_one tree.ExprStmt ss cs h = refl
rest_one tree.Return ss cs h = refl
rest_one tree.If ss cs h = refl
rest_one tree.While ss cs h = refl
rest_one tree.DoWhile ss cs h = refl
rest_one tree.For ss cs h = refl
rest_one (tree.Labeled t) ss cs h = refl
rest_one (tree.Break o) ss cs h = refl
rest_one (tree.Continue o) ss cs h = refl
rest_one (tree.Switch ds) ss cs h = refl
rest_one (tree.Try o) ss cs h = refl
rest_one _ ss cs h = impossible h

var_one : (k : VarDeclKind) (ss : List Span) (ds : List (VarDeclarator Expr)) → IsOne (node (tree.VarDecl k) ss (list_trees (declarator_tree expr_tree k) ds))
var_one Var ss ds = refl
var_one Let ss ds = lets_alone ds
var_one Const ss ds = consts_alone ds

one_at : (t : Tree) → Shape t → IsOne t
one_at _ (rest l ss cs h) = rest_one l ss cs h
one_at _ (block ss xs) = refl
one_at _ (empty ss) = refl
one_at _ (function x ss cs) = refl
one_at _ (variables k ss ds) = var_one k ss ds

item_one : (x : ModuleItem) → IsOne (item_tree x)
item_one (items.ModuleDecl d) = ap (λ b. b || is_statement (item_tree (items.ModuleDecl d))) (stays_at d)
item_one (items.Stmt s) = one_at (stmt_tree s) (shape s)

-- statements by themselves
pub statements_alone : (xs : List Stmt) → all_statements (list_trees stmt_tree xs) ≡ true
statements_alone [] = refl
statements_alone (x ∷ xs) = ap₂ (λ a b. a && b) (one_at (stmt_tree x) (shape x)) (statements_alone xs)

all_one : {X : Type 0} (f : X → ModuleItem) (xs : List X) → all_statements (trees f xs) ≡ true
all_one f [] = refl
all_one f (x ∷ xs) = ap₂ (λ a b. a && b) (item_one (f x)) (all_one f xs)

-- the whole

changed : (ts us : Forest) → list_redex ts ≡ true → loose_among us + one_if (any_loose ts) ≤ loose_among ts → unreached us ≡ 0 → us ≡ ts → ⊥
changed ts us redex fewer_left reached same = by (any_loose ts) refl
  where
    by : (b : Bool) → any_loose ts ≡ b → ⊥
    by true is = omega (arith, fewer_left, ap one_if is, ap loose_among same)
    by false is = impossible (sym (ap (λ n. nat_lt 0 n || false) (sym (ap unreached same) ∙ reached)) ∙ ap (λ b. nat_lt 0 (unreached ts) || b) (sym is) ∙ redex)

counted : (a b c k : ℕ) → a ≤ b → b + k ≤ c → a + k ≤ c
counted a b c k h g = omega (arith, h, g)

pub tidied : {X : Type 0} (f : X → ModuleItem) (xs : List X) (kept : Name → Bool) (us : Forest) → list_redex (trees f xs) ≡ true → Cut kept (swept (trees f xs)) us → Tidied kept (trees f xs) us
tidied f xs kept us redex cut = record {
  between = swept (trees f xs);
  sweeps = swept_is f xs;
  statements = all_one f xs;
  cuts = cut;
  changes = changed (trees f xs) us redex (counted (loose_among us) (loose_among (swept (trees f xs))) (loose_among (trees f xs)) (one_if (any_loose (trees f xs))) (cut_fewer kept cut) (sweeps (trees f xs))) (cut_reached kept cut);
}

-- the names that are kept

kept_are : (ks : List Id) (ts : Forest) → ids ks ≡ exported_names ts → (x : Name) → among ks x ≡ kept_names tree.Module ts x
kept_are ks ts is x = ap (has_name x) is ∙ is_among x (exported ts)

pub cut_kept : (ks : List Id) (ts us vs : Forest) → ids ks ≡ exported_names ts → Cut (among ks) us vs → Cut (kept_names tree.Module ts) us vs
cut_kept ks ts us vs is cut = subst (λ (kept : Name → Bool). Cut kept us vs) (λ i x. kept_are ks ts is x i) cut

none_exported : (ss : List Stmt) → exported_names (list_trees stmt_tree ss) ≡ []
none_exported [] = refl
none_exported (s ∷ ss) = names_on (stmt_tree s) (list_trees stmt_tree ss) ∙ ap₂ (λ xs ys. xs ++ ys) (no_names s) (none_exported ss)

none_kept : (ss : List Stmt) (x : Name) → kept_names tree.Module (list_trees stmt_tree ss) x ≡ false
none_kept ss x = sym (is_among x (exported (list_trees stmt_tree ss))) ∙ ap (has_name x) (none_exported ss)

-- statements export nothing
pub statements_keep : (ss : List Stmt) → kept_names tree.Module (list_trees stmt_tree ss) ≡ (λ x. false)
statements_keep ss = λ i x. none_kept ss x i

-- steps of the loop that cuts

pub staying_on : (t : Tree) (ts : Forest) → staying (t ⊳ ts) ≡ joined (staying (t ⊳ ε)) (staying ts)
staying_on t ts = by (stays_behind t)
  where
    by : (b : Bool) → (if b then t ⊳ staying ts else staying ts) ≡ joined (if b then t ⊳ ε else ε) (staying ts)
    by true = refl
    by false = refl

pub swept_first : (t : Tree) (ts : Forest) → swept (t ⊳ ts) ≡ joined (swept (t ⊳ ε)) (swept ts)
swept_first t ts = ap (λ us. joined us (swept ts)) (sym (joined_none (swept_item t)))

pub cut_past : (kept : Name → Bool) (all others left out new : Forest) (t : Tree) → is_stopper t ≡ false → left ≡ t ⊳ others → new ≡ joined out (t ⊳ ε) → ((us : Forest) → Cut kept left us → Cut kept all (joined out us)) → (us : Forest) → Cut kept others us → Cut kept all (joined new us)
cut_past kept all others left out new t stop is pushed h us cut =
    subst (Cut kept all) (sym (ap (λ e. joined e us) pushed ∙ joined_assoc out (t ⊳ ε) us)) (h (t ⊳ us) (subst (λ ts. Cut kept ts (t ⊳ us)) (sym is) (past_item t stop cut)))

pub cut_end : (kept : Name → Bool) (all left out : Forest) → left ≡ ε → ((us : Forest) → Cut kept left us → Cut kept all (joined out us)) → Cut kept all out
cut_end kept all left out is h = subst (Cut kept all) (joined_none out) (h ε (subst (λ ts. Cut kept ts ε) (sym is) uncut))

pub cuts_onto : (kept : Name → Bool) (t : Tree) (ts vs old mid next new : Forest) → is_stopper t ≡ true → NamesOf kept (going ts) vs → mid ≡ joined old vs → next ≡ joined mid (t ⊳ ε) → new ≡ joined next (staying ts) → CutsOnto kept (t ⊳ ts) old new
cuts_onto kept t ts vs old mid next new stop names a b c = record {
  left = joined vs (t ⊳ staying ts);
  cuts = cut_at t ts stop names;
  is = c ∙ ap (λ e. joined e (staying ts)) (b ∙ ap (λ e. joined e (t ⊳ ε)) a) ∙ joined_assoc (joined old vs) (t ⊳ ε) (staying ts) ∙ joined_assoc old vs (t ⊳ staying ts);
}

pub tidied_by : (X : Type 0) (f : X → ModuleItem) (old taken : Vec X Global) (a b middle new : List X) (ks ls : List Id) → a ≡ old.items → b ≡ old.items → taken ≡ old → list_redex (trees f a) ≡ true → ids ls ≡ exported_names (trees f b) → ks ≡ ls → trees f middle ≡ swept (trees f taken.items) → Cut (among ks) (trees f middle) (trees f new) → Tidied (kept_names tree.Module (trees f old.items)) (trees f old.items) (trees f new)
tidied_by X f old taken a b middle new ks ls a_is b_is is redex named kept made cut =
    tidied f old.items (kept_names tree.Module (trees f old.items)) (trees f new) (ap (λ xs. list_redex (trees f xs)) (sym a_is) ∙ redex)
    (subst (λ ts. Cut (kept_names tree.Module (trees f old.items)) ts (trees f new)) (made ∙ ap (λ (v : Vec X Global). swept (trees f v.items)) is)
    (cut_kept ks (trees f old.items) (trees f middle) (trees f new) (ap ids kept ∙ named ∙ ap (λ xs. exported_names (trees f xs)) b_is) cut))
