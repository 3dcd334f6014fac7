-- Where the tree shaker's walk changes nothing, nothing is left that goes plainly, outside places that aren't entered.
use Rattle.std.proofs.Common.{◌≡◌, Bool, true, false, not, ◌&&◌, ◌||◌, List, [], ◌∷◌, refl}
use Rattle.std.proofs.lemmas.Bool.{false≢true, true≢false, and_parts, and_from, or_from}
use Rattle.swc_ast.specs.Labels.{is_var_declaration, is_body, is_params, is_param}
use Rattle.swc_ast.specs.declared.Span.{Span}
use Rattle.swc_ast.specs.Tree.{Label, Fn, Arrow, Method, Params, Body, Block, If, While, DoWhile, For, Labeled, Switch, CaseBody, Try, VarDecl, Declarator, FnDecl, Module, Script, Import, ImportNamed, ImportDefault, ImportStar, ExportDecl, ExportDefaultFn, Tree, node, Forest, ε, ◌⊳◌}
use Rattle.swc_ast.specs.Valid.{is_listed, none_listed, last_not_listed, good_shape}
use Rattle.static_proofs.specs.Shaped.{is_inner, is_head as may_be_head, is_statement, is_block_or_inner, is_case_or_inner, is_body_or_inner, are_parts, are_method_parts, are_loop_parts, labels_of, all_labels, holds}
use Rattle.tree_walk.specs.Pass.{walks_each}
use Rattle.dce_rules.specs.Shakes.{Shaker, goes_plainly, import_goes}

-- a label that declares nothing plainly, and is neither an import nor an exported declaration
abbrev pub is_quiet : Label → Bool
is_quiet (FnDecl x) = false
is_quiet (Declarator k x) = false
is_quiet (ImportNamed x i) = false
is_quiet (ImportDefault x) = false
is_quiet (ImportStar x) = false
is_quiet (Import src) = false
is_quiet ExportDecl = false
is_quiet l = true

-- whether a tree declares a name that goes, or is an import that goes or an exported declaration
abbrev pub is_open : Shaker → Tree → Bool
is_open S (node (FnDecl x) ss cs) = S.free x
is_open S (node (Import src) ss cs) = import_goes S cs
is_open S (node ExportDecl ss cs) = true
is_open S t = goes_plainly S t

abbrev pub some_open : Shaker → Forest → Bool
some_open S ε = false
some_open S (t ⊳ ts) = is_open S t || some_open S ts

quiet_shut : (S : Shaker) (l : Label) (ss : List Span) (cs : Forest) → is_quiet l ≡ true → is_open S (node l ss cs) ≡ false
quiet_shut S (FnDecl x) ss cs e = absurd (false≢true e)
quiet_shut S (Declarator k x) ss cs e = absurd (false≢true e)
quiet_shut S (ImportNamed x i) ss cs e = absurd (false≢true e)
quiet_shut S (ImportDefault x) ss cs e = absurd (false≢true e)
quiet_shut S (ImportStar x) ss cs e = absurd (false≢true e)
quiet_shut S (Import src) ss cs e = absurd (false≢true e)
quiet_shut S ExportDecl ss cs e = absurd (false≢true e)
quiet_shut S l ss cs e = refl

pub all_shut : (S : Shaker) (ts : Forest) → all_labels is_quiet (labels_of ts) ≡ true → some_open S ts ≡ false
all_shut S ε a = refl
all_shut S (node l ss cs ⊳ ts) a = let p = and_parts (is_quiet l) (all_labels is_quiet (labels_of ts)) a in or_from (is_open S (node l ss cs)) (some_open S ts) (quiet_shut S l ss cs p.0) (all_shut S ts p.1)

all_by : (p : Label → Bool) → ((l : Label) → p l ≡ true → is_quiet l ≡ true) → (ls : List Label) → all_labels p ls ≡ true → all_labels is_quiet ls ≡ true
all_by p f [] a = refl
all_by p f (l ∷ ls) a = let q = and_parts (p l) (all_labels p ls) a in and_from (is_quiet l) (all_labels is_quiet ls) (f l q.0) (all_by p f ls q.1)

inner_quiet : (l : Label) → is_inner l ≡ true → is_quiet l ≡ true
inner_quiet (FnDecl x) e = absurd (false≢true e)
inner_quiet (Declarator k x) e = absurd (false≢true e)
inner_quiet (ImportNamed x i) e = absurd (false≢true e)
inner_quiet (ImportDefault x) e = absurd (false≢true e)
inner_quiet (ImportStar x) e = absurd (false≢true e)
inner_quiet (Import src) e = absurd (false≢true e)
inner_quiet ExportDecl e = absurd (false≢true e)
inner_quiet l e = refl

block_quiet : (l : Label) → is_block_or_inner l ≡ true → is_quiet l ≡ true
block_quiet (FnDecl x) e = absurd (false≢true e)
block_quiet (Declarator k x) e = absurd (false≢true e)
block_quiet (ImportNamed x i) e = absurd (false≢true e)
block_quiet (ImportDefault x) e = absurd (false≢true e)
block_quiet (ImportStar x) e = absurd (false≢true e)
block_quiet (Import src) e = absurd (false≢true e)
block_quiet ExportDecl e = absurd (false≢true e)
block_quiet l e = refl

case_quiet : (l : Label) → is_case_or_inner l ≡ true → is_quiet l ≡ true
case_quiet (FnDecl x) e = absurd (false≢true e)
case_quiet (Declarator k x) e = absurd (false≢true e)
case_quiet (ImportNamed x i) e = absurd (false≢true e)
case_quiet (ImportDefault x) e = absurd (false≢true e)
case_quiet (ImportStar x) e = absurd (false≢true e)
case_quiet (Import src) e = absurd (false≢true e)
case_quiet ExportDecl e = absurd (false≢true e)
case_quiet l e = refl

body_quiet : (l : Label) → is_body_or_inner l ≡ true → is_quiet l ≡ true
body_quiet (FnDecl x) e = absurd (false≢true e)
body_quiet (Declarator k x) e = absurd (false≢true e)
body_quiet (ImportNamed x i) e = absurd (false≢true e)
body_quiet (ImportDefault x) e = absurd (false≢true e)
body_quiet (ImportStar x) e = absurd (false≢true e)
body_quiet (Import src) e = absurd (false≢true e)
body_quiet ExportDecl e = absurd (false≢true e)
body_quiet l e = refl

only_body_quiet : (l : Label) → is_body l ≡ true → is_quiet l ≡ true
only_body_quiet (FnDecl x) e = absurd (false≢true e)
only_body_quiet (Declarator k x) e = absurd (false≢true e)
only_body_quiet (ImportNamed x i) e = absurd (false≢true e)
only_body_quiet (ImportDefault x) e = absurd (false≢true e)
only_body_quiet (ImportStar x) e = absurd (false≢true e)
only_body_quiet (Import src) e = absurd (false≢true e)
only_body_quiet ExportDecl e = absurd (false≢true e)
only_body_quiet l e = refl

params_quiet : (l : Label) → is_params l ≡ true → is_quiet l ≡ true
params_quiet (FnDecl x) e = absurd (false≢true e)
params_quiet (Declarator k x) e = absurd (false≢true e)
params_quiet (ImportNamed x i) e = absurd (false≢true e)
params_quiet (ImportDefault x) e = absurd (false≢true e)
params_quiet (ImportStar x) e = absurd (false≢true e)
params_quiet (Import src) e = absurd (false≢true e)
params_quiet ExportDecl e = absurd (false≢true e)
params_quiet l e = refl

param_quiet : (l : Label) → is_param l ≡ true → is_quiet l ≡ true
param_quiet (FnDecl x) e = absurd (false≢true e)
param_quiet (Declarator k x) e = absurd (false≢true e)
param_quiet (ImportNamed x i) e = absurd (false≢true e)
param_quiet (ImportDefault x) e = absurd (false≢true e)
param_quiet (ImportStar x) e = absurd (false≢true e)
param_quiet (Import src) e = absurd (false≢true e)
param_quiet ExportDecl e = absurd (false≢true e)
param_quiet l e = refl

head_quiet : (l : Label) → may_be_head l ≡ true → is_quiet l ≡ true
head_quiet (FnDecl x) e = absurd (false≢true e)
head_quiet (Declarator k x) e = absurd (false≢true e)
head_quiet (ImportNamed x i) e = absurd (false≢true e)
head_quiet (ImportDefault x) e = absurd (false≢true e)
head_quiet (ImportStar x) e = absurd (false≢true e)
head_quiet (Import src) e = absurd (false≢true e)
head_quiet ExportDecl e = absurd (false≢true e)
head_quiet l e = refl

-- a statement that stands outside lists
unlisted_quiet : (l : Label) (ss : List Span) (cs : Forest) → is_statement l ≡ true → not (is_listed (node l ss cs)) ≡ true → is_quiet l ≡ true
unlisted_quiet (FnDecl x) ss cs e n = absurd (false≢true n)
unlisted_quiet (Declarator k x) ss cs e n = absurd (false≢true e)
unlisted_quiet (ImportNamed x i) ss cs e n = absurd (false≢true e)
unlisted_quiet (ImportDefault x) ss cs e n = absurd (false≢true e)
unlisted_quiet (ImportStar x) ss cs e n = absurd (false≢true e)
unlisted_quiet (Import src) ss cs e n = absurd (false≢true e)
unlisted_quiet ExportDecl ss cs e n = absurd (false≢true e)
unlisted_quiet l ss cs e n = refl

all_unlisted : (ts : Forest) → all_labels is_statement (labels_of ts) ≡ true → none_listed ts ≡ true → all_labels is_quiet (labels_of ts) ≡ true
all_unlisted ε a n = refl
all_unlisted (node l ss cs ⊳ ts) a n =
    let p = and_parts (is_statement l) (all_labels is_statement (labels_of ts)) a in
    let q = and_parts (not (is_listed (node l ss cs))) (none_listed ts) n in
    and_from (is_quiet l) (all_labels is_quiet (labels_of ts)) (unlisted_quiet l ss cs p.0 q.0) (all_unlisted ts p.1 q.1)

parts_quiet : (body : Label → Bool) → ((l : Label) → body l ≡ true → is_quiet l ≡ true) → (ls : List Label) → are_parts body ls ≡ true → all_labels is_quiet ls ≡ true
parts_quiet body f (p ∷ b ∷ []) a = let q = and_parts (is_params p) (body b) a in and_from (is_quiet p) (is_quiet b && true) (params_quiet p q.0) (and_from (is_quiet b) true (f b q.1) refl)
parts_quiet body f [] a = absurd (false≢true a)
parts_quiet body f (p ∷ []) a = absurd (false≢true a)
parts_quiet body f (p ∷ b ∷ c ∷ ls) a = absurd (false≢true a)

method_quiet : (ls : List Label) → are_method_parts ls ≡ true → all_labels is_quiet ls ≡ true
method_quiet [] a = absurd (false≢true a)
method_quiet (k ∷ ls) a = let q = and_parts (is_inner k) (are_parts is_body ls) a in and_from (is_quiet k) (all_labels is_quiet ls) (inner_quiet k q.0) (parts_quiet is_body only_body_quiet ls q.1)

loop_quiet : (ts : Forest) → are_loop_parts (labels_of ts) ≡ true → last_not_listed ts ≡ true → all_labels is_quiet (labels_of ts) ≡ true
loop_quiet (node i is js ⊳ node t ts us ⊳ node u vs ws ⊳ node b xs ys ⊳ ε) a n =
    let p = and_parts (may_be_head i) (is_inner t && (is_inner u && is_statement b)) a in
    let q = and_parts (is_inner t) (is_inner u && is_statement b) p.1 in
    let r = and_parts (is_inner u) (is_statement b) q.1 in
    and_from (is_quiet i) (is_quiet t && (is_quiet u && (is_quiet b && true))) (head_quiet i p.0) (and_from (is_quiet t) (is_quiet u && (is_quiet b && true)) (inner_quiet t q.0) (and_from (is_quiet u) (is_quiet b && true) (inner_quiet u r.0) (and_from (is_quiet b) true (unlisted_quiet b xs ys r.1 n) refl)))
loop_quiet ε a n = absurd (false≢true a)
loop_quiet (node i is js ⊳ ε) a n = absurd (false≢true a)
loop_quiet (node i is js ⊳ node t ts us ⊳ ε) a n = absurd (false≢true a)
loop_quiet (node i is js ⊳ node t ts us ⊳ node u vs ws ⊳ ε) a n = absurd (false≢true a)
loop_quiet (node i is js ⊳ node t ts us ⊳ node u vs ws ⊳ node b xs ys ⊳ node c zs es ⊳ rs) a n = absurd (false≢true a)

-- the children of a node that are walked one by one
pub plain_quiet : (l : Label) (cs : Forest) → walks_each l ≡ true → is_var_declaration l ≡ false → holds l (labels_of cs) ≡ true → good_shape l cs ≡ true → all_labels is_quiet (labels_of cs) ≡ true
plain_quiet (VarDecl k) cs p d a v = absurd (true≢false d)
plain_quiet Block cs p d a v = absurd (false≢true p)
plain_quiet Body cs p d a v = absurd (false≢true p)
plain_quiet CaseBody cs p d a v = absurd (false≢true p)
plain_quiet Script cs p d a v = absurd (false≢true p)
plain_quiet Module cs p d a v = absurd (false≢true p)
plain_quiet ExportDecl cs p d a v = absurd (false≢true p)
plain_quiet (Import src) cs p d a v = absurd (false≢true p)
plain_quiet If cs p d a v = all_unlisted cs a v
plain_quiet While cs p d a v = all_unlisted cs a v
plain_quiet DoWhile cs p d a v = all_unlisted cs a v
plain_quiet (Labeled l) cs p d a v = all_unlisted cs a v
plain_quiet For cs p d a v = loop_quiet cs a v
plain_quiet (Switch ds) cs p d a v = all_by is_case_or_inner case_quiet (labels_of cs) a
plain_quiet (Try o) cs p d a v = all_by is_block_or_inner block_quiet (labels_of cs) a
plain_quiet (Fn o) cs p d a v = parts_quiet is_body only_body_quiet (labels_of cs) a
plain_quiet (FnDecl x) cs p d a v = parts_quiet is_body only_body_quiet (labels_of cs) a
plain_quiet (ExportDefaultFn o) cs p d a v = parts_quiet is_body only_body_quiet (labels_of cs) a
plain_quiet Arrow cs p d a v = parts_quiet is_body_or_inner body_quiet (labels_of cs) a
plain_quiet Method cs p d a v = method_quiet (labels_of cs) a
plain_quiet Params cs p d a v = all_by is_param param_quiet (labels_of cs) a
plain_quiet l cs p d a v = all_by is_inner inner_quiet (labels_of cs) a
