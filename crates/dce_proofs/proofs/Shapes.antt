-- A walk of the tree shaker leaves each node where it may stand.
use Rattle.std.proofs.Common.{◌≡◌, Bool, true, ◌&&◌, ◌||◌, List, [], ◌∷◌, None, refl, sym, ◌∙◌}
use Rattle.std.proofs.lemmas.Bool.{and_parts, and_from, or_left, false≢true}
use Rattle.swc_ast.specs.declared.Span.{Span}
use Rattle.swc_ast.specs.declared.AssignOp.TheVariants.{Assign as Plain}
use Rattle.swc_ast.specs.declared.VarDeclKind.{VarDeclKind}
use Rattle.swc_ast.specs.declared.VarDeclKind.TheVariants.{Var, Let, Const}
use Rattle.swc_ast.specs.Tree.{Label, Fn, Arrow, Method, FnDecl, ExportDecl, ExportDefaultFn, ExportDefaultExpr, Import, If, While, DoWhile, For, Labeled, Try, Params, Body, Param, Block, Switch, CaseBody, VarDecl, Declarator, Module, Script, Assign, Call, Seq, Object, Return, Empty, ExprStmt, Tree, node, Forest, ε, ◌⊳◌, label_of}
use Rattle.swc_ast.specs.Labels.{is_declaration, is_params, is_body, is_param, is_block, is_whole}
use Rattle.static_proofs.specs.Shaped.{is_inner, is_holder, is_statement, is_whole_item, is_block_or_inner, is_case_or_inner, is_head, is_body_or_inner, is_declarator_of, is_specifier, are_loop_parts, are_parts, are_method_parts, labels_of, all_labels, holds, is_shaped, are_shaped}
use Rattle.walk_proofs.specs.Meant.{Sifts}
use Rattle.tree_walk.specs.Pass.{walks_each}
use Rattle.tree_walk.specs.Walks as walk
use Rattle.tree_walk.specs.Walks.{Walks, Entered, ListMade, AllWalk, nothing, both}
use Rattle.dce_rules.specs.Shakes as rules
use Rattle.dce_rules.specs.Shakes.{Shaker, Opens, Leaves, as_statement, Shakes, items_go, shake_pass}
use Rattle.dce_proofs.proofs.Maps.{shape_here, shape_below, shape_first, shape_rest, sift_labels, sift_shaped, inner_expression}

-- what a label becomes: it stays, or is one that shows no name, if it was one, or one of variables
abbrev may_change : Label → Bool
may_change (VarDecl k) = true
may_change l = is_inner l

data Becomes (l : Label) : Label → Type 0 where
  stays : Becomes l l
  shows_none : (m : Label) → may_change l ≡ true → is_inner m ≡ true → Becomes l m

then_becomes : {l m n : Label} → Becomes l m → Becomes m n → Becomes l n
then_becomes stays c = c
then_becomes (shows_none m e i) stays = shows_none m e i
then_becomes (shows_none m e i) (shows_none n f j) = shows_none n e j

-- labels that may stand where such a label stood

-- which hold with each label that shows no name
abbrev Wide : (Label → Bool) → Type 0
Wide p = (l : Label) → is_inner l ≡ true → p l ≡ true

-- which never hold where a label may change
abbrev Narrow : (Label → Bool) → Type 0
Narrow p = (l : Label) → may_change l ≡ true → p l ≡ true → ⊥

abbrev Lasts : (Label → Bool) → Type 0
Lasts p = (l m : Label) → Becomes l m → p l ≡ true → p m ≡ true

wide_lasts : (p : Label → Bool) → Wide p → Lasts p
wide_lasts p f l m stays e = e
wide_lasts p f l m (shows_none n i j) e = f n j

narrow_lasts : (p : Label → Bool) → Narrow p → Lasts p
narrow_lasts p f l m stays e = e
narrow_lasts p f l m (shows_none n i j) e = absurd (f l i e)

wide_statement : Wide is_statement
wide_statement l e = or_left (is_inner l) (is_holder l || is_declaration l) e

wide_item : Wide is_whole_item
wide_item (Import src) e = refl
wide_item ExportDecl e = refl
wide_item (ExportDefaultFn o) e = refl
wide_item ExportDefaultExpr e = refl
wide_item l e = or_left (is_inner l) (is_holder l || is_declaration l) e

wide_block : Wide is_block_or_inner
wide_block Block e = refl
wide_block l e = e

wide_case : Wide is_case_or_inner
wide_case CaseBody e = refl
wide_case l e = e

wide_head : Wide is_head
wide_head (VarDecl k) e = refl
wide_head l e = e

wide_body : Wide is_body_or_inner
wide_body Body e = refl
wide_body l e = e

narrow_params : Narrow is_params
narrow_params Params i e = false≢true i
narrow_params l i e = false≢true e

narrow_body : Narrow is_body
narrow_body Body i e = false≢true i
narrow_body l i e = false≢true e

narrow_param : Narrow is_param
narrow_param (Param x) i e = false≢true i
narrow_param l i e = false≢true e

narrow_declarator : (k : VarDeclKind) → Narrow (is_declarator_of k)
narrow_declarator k (Declarator j x) i e = false≢true i
narrow_declarator Var l i e = false≢true e
narrow_declarator Let l i e = false≢true e
narrow_declarator Const l i e = false≢true e

-- labels in a row

data AllBecome : List Label → List Label → Type 0 where
  none_becomes : AllBecome [] []
  more_become : {l m : Label} {ls ms : List Label} → Becomes l m → AllBecome ls ms → AllBecome (l ∷ ls) (m ∷ ms)

all_last : (p : Label → Bool) → Lasts p → {ls ms : List Label} → AllBecome ls ms → all_labels p ls ≡ true → all_labels p ms ≡ true
all_last p f none_becomes a = a
all_last p f (more_become {l = l} {m = m} {ls = ls} {ms = ms} b bs) a =
    let q = and_parts (p l) (all_labels p ls) a in
    and_from (p m) (all_labels p ms) (f l m b q.0) (all_last p f bs q.1)

parts_last : (body : Label → Bool) → Lasts body → {ls ms : List Label} → AllBecome ls ms → are_parts body ls ≡ true → are_parts body ms ≡ true
parts_last body f none_becomes a = a
parts_last body f (more_become b none_becomes) a = absurd (false≢true a)
parts_last body f (more_become {l = l} {m = m} b (more_become {l = j} {m = k} c none_becomes)) a =
    let q = and_parts (is_params l) (body j) a in
    and_from (is_params m) (body k) (narrow_lasts is_params narrow_params l m b q.0) (f j k c q.1)
parts_last body f (more_become b (more_become c (more_become d bs))) a = absurd (false≢true a)

method_lasts : {ls ms : List Label} → AllBecome ls ms → are_method_parts ls ≡ true → are_method_parts ms ≡ true
method_lasts none_becomes a = a
method_lasts (more_become {l = l} {m = m} {ls = ls} {ms = ms} b bs) a =
    let q = and_parts (is_inner l) (are_parts is_body ls) a in
    and_from (is_inner m) (are_parts is_body ms) (wide_lasts is_inner (λ n e. e) l m b q.0) (parts_last is_body (narrow_lasts is_body narrow_body) bs q.1)

loop_lasts : {ls ms : List Label} → AllBecome ls ms → are_loop_parts ls ≡ true → are_loop_parts ms ≡ true
loop_lasts (more_become {l = i} {m = j} b (more_become {l = t} {m = v} c (more_become {l = u} {m = w} d (more_become {l = y} {m = z} e none_becomes)))) a =
    let p = and_parts (is_head i) (is_inner t && (is_inner u && is_statement y)) a in
    let q = and_parts (is_inner t) (is_inner u && is_statement y) p.1 in
    let r = and_parts (is_inner u) (is_statement y) q.1 in
    and_from (is_head j) _ (wide_lasts is_head wide_head i j b p.0) (and_from (is_inner v) _ (wide_lasts is_inner (λ n e. e) t v c q.0) (and_from (is_inner w) (is_statement z) (wide_lasts is_inner (λ n e. e) u w d r.0) (wide_lasts is_statement wide_statement y z e r.1)))
loop_lasts none_becomes a = absurd (false≢true a)
loop_lasts (more_become b none_becomes) a = absurd (false≢true a)
loop_lasts (more_become b (more_become c none_becomes)) a = absurd (false≢true a)
loop_lasts (more_become b (more_become c (more_become d none_becomes))) a = absurd (false≢true a)
loop_lasts (more_become b (more_become c (more_become d (more_become e (more_become f bs))))) a = absurd (false≢true a)

-- a node whose children are walked one by one
holds_last : (l : Label) {ls ms : List Label} → walks_each l ≡ true → AllBecome ls ms → holds l ls ≡ true → holds l ms ≡ true
holds_last Block p b a = absurd (false≢true p)
holds_last Body p b a = absurd (false≢true p)
holds_last CaseBody p b a = absurd (false≢true p)
holds_last Script p b a = absurd (false≢true p)
holds_last Module p b a = absurd (false≢true p)
holds_last (Import src) p b a = absurd (false≢true p)
holds_last ExportDecl p b a = absurd (false≢true p)
holds_last If p b a = all_last is_statement (wide_lasts is_statement wide_statement) b a
holds_last While p b a = all_last is_statement (wide_lasts is_statement wide_statement) b a
holds_last DoWhile p b a = all_last is_statement (wide_lasts is_statement wide_statement) b a
holds_last (Labeled t) p b a = all_last is_statement (wide_lasts is_statement wide_statement) b a
holds_last For p b a = loop_lasts b a
holds_last (Switch ds) p b a = all_last is_case_or_inner (wide_lasts is_case_or_inner wide_case) b a
holds_last (Try o) p b a = all_last is_block_or_inner (wide_lasts is_block_or_inner wide_block) b a
holds_last (VarDecl k) p b a = all_last (is_declarator_of k) (narrow_lasts (is_declarator_of k) (narrow_declarator k)) b a
holds_last (Fn o) p b a = parts_last is_body (narrow_lasts is_body narrow_body) b a
holds_last (FnDecl x) p b a = parts_last is_body (narrow_lasts is_body narrow_body) b a
holds_last (ExportDefaultFn o) p b a = parts_last is_body (narrow_lasts is_body narrow_body) b a
holds_last Arrow p b a = parts_last is_body_or_inner (wide_lasts is_body_or_inner wide_body) b a
holds_last Method p b a = method_lasts b a
holds_last Params p b a = all_last is_param (narrow_lasts is_param narrow_param) b a
holds_last l p b a = all_last is_inner (wide_lasts is_inner (λ n e. e)) b a

-- what a tree becomes

record Fit (t u : Tree) : Type 0 where
  pub label : Becomes (label_of t) (label_of u)
  pub shaped : is_shaped u ≡ true

record AllFit (ts us : Forest) : Type 0 where
  pub labels : AllBecome (labels_of ts) (labels_of us)
  pub shaped : are_shaped us ≡ true

then_fit : {t u v : Tree} → Fit t u → Fit u v → Fit t v
then_fit f g = record { label = then_becomes f.label g.label; shaped = g.shaped }

sifted_node : (l : Label) (p : Label → Bool) (ss : List Span) {H : Tree → Type 0} {ts us : Forest} → ((ls : List Label) → holds l ls ≡ all_labels p ls) → Sifts H ts us → is_shaped (node l ss ts) ≡ true → is_shaped (node l ss us) ≡ true
sifted_node l p ss {ts = ts} {us = us} e h a = and_from (holds l (labels_of us)) (are_shaped us) (e (labels_of us) ∙ sift_labels p h (sym (e (labels_of ts)) ∙ shape_here l ss ts a)) (sift_shaped h (shape_below l ss ts a))

opened_fit : {S : Shaker} {t u : Tree} → Opens S t u → is_shaped t ≡ true → Fit t u
opened_fit (rules.value {x = x} {ss = ss} {r = r} u e p) a = record { label = shows_none (label_of r) refl (inner_expression (label_of r) e); shaped = shape_first r ε (shape_below (Assign Plain x) ss (r ⊳ ε) a) }
opened_fit (rules.shielded {x = x} {ss = ss} {r = node l rs cs} u e p) a = record { label = shows_none Seq refl refl; shaped = and_from (is_inner l && true) (is_shaped (node l rs cs) && true) (and_from (is_inner l) true (inner_expression l e) refl) (shape_below (Assign Plain x) ss (node l rs cs ⊳ ε) a) }
opened_fit (rules.value_of_value {x = x} {ss = ss} {r = r} u e o) a = then_fit (record { label = shows_none (label_of r) refl (inner_expression (label_of r) e); shaped = shape_first r ε (shape_below (Assign Plain x) ss (r ⊳ ε) a) }) (opened_fit o (shape_first r ε (shape_below (Assign Plain x) ss (r ⊳ ε) a)))
opened_fit (rules.declarators_open {k = k} {ss = ss} h c n) a = record { label = stays; shaped = sifted_node (VarDecl k) (is_declarator_of k) ss (λ ls. refl) h a }
opened_fit (rules.declaration_opens c h) a = record { label = shows_none Empty refl refl; shaped = refl }

-- first values that are left
record Values (qs : Forest) : Type 0 where
  pub inner : all_labels is_inner (labels_of qs) ≡ true
  pub shaped : are_shaped qs ≡ true

left_values : {S : Shaker} {ds qs : Forest} → Leaves S ds qs → are_shaped ds ≡ true → Values qs
left_values rules.nothing_left a = record { inner = refl; shaped = refl }
left_values (rules.goes_with_value {t = t} {ts = ts} g h) a = left_values h (shape_rest t ts a)
left_values (rules.value_left {k = k} {x = x} {ss = ss} {r = node l rs cs} {ts = ts} {qs = qs} f h) a =
    let d = shape_first (node (Declarator k x) ss (node l rs cs ⊳ ε)) ts a in
    let v = left_values h (shape_rest (node (Declarator k x) ss (node l rs cs ⊳ ε)) ts a) in
    record {
      inner = and_from (is_inner l) (all_labels is_inner (labels_of qs)) (and_parts (is_inner l) true (shape_here (Declarator k x) ss (node l rs cs ⊳ ε) d)).0 v.inner;
      shaped = and_from (is_shaped (node l rs cs)) (are_shaped qs) (shape_first (node l rs cs) ε (shape_below (Declarator k x) ss (node l rs cs ⊳ ε) d)) v.shaped;
    }

statement_fit : {l : Label} {ss : List Span} {cs : Forest} (rs vs : List Span) (qs : Forest) → may_change l ≡ true → Values qs → Fit (node l ss cs) (as_statement rs vs qs)
statement_fit rs vs ε m v = record { label = shows_none Empty m refl; shaped = refl }
statement_fit rs vs (q ⊳ ε) m v = record { label = shows_none ExprStmt m refl; shaped = and_from (all_labels is_inner (labels_of (q ⊳ ε))) (are_shaped (q ⊳ ε)) v.inner v.shaped }
statement_fit rs vs (q ⊳ r ⊳ qs) m v = record { label = shows_none ExprStmt m refl; shaped = and_from (is_shaped (node Seq vs (q ⊳ r ⊳ qs))) true (and_from (all_labels is_inner (labels_of (q ⊳ r ⊳ qs))) (are_shaped (q ⊳ r ⊳ qs)) v.inner v.shaped) refl }

shaken_fit : {S : Shaker} {t u : Tree} → Shakes S t u → is_shaped t ≡ true → Fit t u
shaken_fit (rules.declarators_go {k = k} {ss = ss} h c n) a = record { label = stays; shaped = sifted_node (VarDecl k) (is_declarator_of k) ss (λ ls. refl) h a }
shaken_fit (rules.declaration_goes {k = k} {ss = ss} {ds = ds} rs vs qs c h) a = statement_fit rs vs qs refl (left_values h (shape_below (VarDecl k) ss ds a))
shaken_fit (rules.specifiers_go {src = src} {ss = ss} h n) a = record { label = stays; shaped = sifted_node (Import src) is_specifier ss (λ ls. refl) h a }
shaken_fit (rules.call_gives {ss = ss} {fs = fs} {ps = ps} {bs = bs} {rs = rs} {os = os} {props = props} n) a = record { label = shows_none Object refl refl; shaped = at_body (shape_first (node Body bs (node Return rs (node Object os props ⊳ ε) ⊳ ε)) ε (shape_rest (node Params ps ε) (node Body bs (node Return rs (node Object os props ⊳ ε) ⊳ ε) ⊳ ε) (shape_below (Fn None) fs (node Params ps ε ⊳ node Body bs (node Return rs (node Object os props ⊳ ε) ⊳ ε) ⊳ ε) (shape_first (node (Fn None) fs (node Params ps ε ⊳ node Body bs (node Return rs (node Object os props ⊳ ε) ⊳ ε) ⊳ ε)) ε (shape_below Call ss (node (Fn None) fs (node Params ps ε ⊳ node Body bs (node Return rs (node Object os props ⊳ ε) ⊳ ε) ⊳ ε) ⊳ ε) a))))) }
  where
    at_body : is_shaped (node Body bs (node Return rs (node Object os props ⊳ ε) ⊳ ε)) ≡ true → is_shaped (node Object os props) ≡ true
    at_body b = shape_first (node Object os props) ε (shape_below Return rs (node Object os props ⊳ ε) (shape_first (node Return rs (node Object os props ⊳ ε)) ε (shape_below Body bs (node Return rs (node Object os props ⊳ ε) ⊳ ε) b)))

declaration_plain : (l : Label) → is_declaration l ≡ true → walks_each l ≡ true
declaration_plain (VarDecl k) d = refl
declaration_plain (FnDecl x) d = refl
declaration_plain l d = absurd (false≢true d)

plain_shaped : (l : Label) (ss : List Span) {ts us : Forest} → walks_each l ≡ true → is_shaped (node l ss ts) ≡ true → AllFit ts us → is_shaped (node l ss us) ≡ true
plain_shaped l ss {ts} {us} p a f = and_from (holds l (labels_of us)) (are_shaped us) (holds_last l p f.labels (shape_here l ss ts a)) f.shaped

all_fit : {t u : Tree} {ts us : Forest} → Fit t u → AllFit ts us → AllFit (t ⊳ ts) (u ⊳ us)
all_fit {t = node l ss cs} {u = node m rs ds} {us = us} f g = record { labels = more_become f.label g.labels; shaped = and_from (is_shaped (node m rs ds)) (are_shaped us) f.shaped g.shaped }

-- what a list becomes: labels of a kind stay of that kind
record ListFit (ts us : Forest) : Type 0 where
  pub labels : (p : Label → Bool) → Lasts p → all_labels p (labels_of ts) ≡ true → all_labels p (labels_of us) ≡ true
  pub shaped : are_shaped us ≡ true

block_shaped : (l : Label) (ss : List Span) {ts us : Forest} → is_block l ≡ true → is_shaped (node l ss ts) ≡ true → ListFit ts us → is_shaped (node l ss us) ≡ true
block_shaped Block ss {ts} {us} b a f = and_from (all_labels is_statement (labels_of us)) (are_shaped us) (f.labels is_statement (wide_lasts is_statement wide_statement) (shape_here Block ss ts a)) f.shaped
block_shaped Body ss {ts} {us} b a f = and_from (all_labels is_statement (labels_of us)) (are_shaped us) (f.labels is_statement (wide_lasts is_statement wide_statement) (shape_here Body ss ts a)) f.shaped
block_shaped CaseBody ss {ts} {us} b a f = and_from (all_labels is_statement (labels_of us)) (are_shaped us) (f.labels is_statement (wide_lasts is_statement wide_statement) (shape_here CaseBody ss ts a)) f.shaped
block_shaped l ss b a f = absurd (false≢true b)

module _ {S : Shaker} where
  mutual
    walked_fit : {c : Bool} {t u : Tree} → Walks (shake_pass S) c t u → is_shaped t ≡ true → Fit t u
    walked_fit (walk.closed s) a = record { label = stays; shaped = a }
    walked_fit (walk.opened o w) a = let f = opened_fit o a in then_fit f (walked_fit w f.shaped)
    walked_fit (walk.passes i e) a = entered_fit e a
    walked_fit (walk.stands e r) a = entered_fit e a
    walked_fit (walk.stepped e s) a = let f = entered_fit e a in then_fit f (shaken_fit s f.shaped)

    entered_fit : {c : Bool} {t u : Tree} → Entered (shake_pass S) c t u → is_shaped t ≡ true → Fit t u
    entered_fit (walk.plain {l = l} {ss = ss} {ts = ts} p ws) a = record { label = stays; shaped = plain_shaped l ss p a (all_walked_fit ws (shape_below l ss ts a)) }
    entered_fit (walk.exported {l = l} {ss = ss} {rs = rs} {ts = ts} {us = us} d ws) a =
        let b = shape_first (node l rs ts) ε (shape_below ExportDecl ss (node l rs ts ⊳ ε) a) in
        record { label = stays; shaped = and_from (is_declaration l) (are_shaped (node l rs us ⊳ ε)) (shape_here ExportDecl ss (node l rs ts ⊳ ε) a) (and_from (is_shaped (node l rs us)) true (plain_shaped l rs (declaration_plain l d) b (all_walked_fit ws (shape_below l rs ts b))) refl) }
    entered_fit (walk.headed {k = k} {ss = ss} {rs = rs} {ds = ds} {es = es} {ts = ts} hs ws) a =
        let b = shape_below For ss (node (VarDecl k) rs ds ⊳ ts) a in
        let c = shape_first (node (VarDecl k) rs ds) ts b in
        record { label = stays; shaped = plain_shaped For ss refl a (all_fit {t = node (VarDecl k) rs ds} {u = node (VarDecl k) rs es} (record { label = stays; shaped = plain_shaped (VarDecl k) rs refl c (all_walked_fit hs (shape_below (VarDecl k) rs ds c)) }) (all_walked_fit ws (shape_rest (node (VarDecl k) rs ds) ts b))) }
    entered_fit (walk.head_shut {h = h} {ss = ss} {ts = ts} s ws) a =
        let b = shape_below For ss (h ⊳ ts) a in
        record { label = stays; shaped = plain_shaped For ss refl a (all_fit {t = h} {u = h} (record { label = stays; shaped = shape_first h ts b }) (all_walked_fit ws (shape_rest h ts b))) }
    entered_fit (walk.imports u) a = record { label = stays; shaped = a }
    entered_fit (walk.block {l = l} {ss = ss} {ts = ts} b m) a = record { label = stays; shaped = block_shaped l ss b a (list_fit m (shape_below l ss ts a)) }

    list_fit : {l : Label} {c : Bool} {ts us : Forest} → ListMade (shake_pass S) l c ts us → are_shaped ts ≡ true → ListFit ts us
    list_fit (walk.listed ws t) a = let f = all_walked_fit ws a in record { labels = λ p h. all_last p h f.labels; shaped = f.shaped }
    list_fit (walk.tidied ws (items_go h n)) a = let f = all_walked_fit ws a in record { labels = λ p g e. sift_labels p h (all_last p g f.labels e); shaped = sift_shaped h f.shaped }

    all_walked_fit : {c : Bool} {ts us : Forest} → AllWalk (shake_pass S) c ts us → are_shaped ts ≡ true → AllFit ts us
    all_walked_fit nothing a = record { labels = none_becomes; shaped = refl }
    all_walked_fit (both {t = t} {ts = ts} w ws) a = all_fit (walked_fit w (shape_first t ts a)) (all_walked_fit ws (shape_rest t ts a))

  -- so does the walk of a module or a script
  pub whole_shaped : (l : Label) (ss : List Span) {c : Bool} {ts us : Forest} → is_whole l ≡ true → ListMade (shake_pass S) l c ts us → is_shaped (node l ss ts) ≡ true → is_shaped (node l ss us) ≡ true
  whole_shaped Module ss {ts = ts} {us = us} i m a = let f = list_fit m (shape_below Module ss ts a) in and_from (all_labels is_whole_item (labels_of us)) (are_shaped us) (f.labels is_whole_item (wide_lasts is_whole_item wide_item) (shape_here Module ss ts a)) f.shaped
  whole_shaped Script ss {ts = ts} {us = us} i m a = let f = list_fit m (shape_below Script ss ts a) in and_from (all_labels is_statement (labels_of us)) (are_shaped us) (f.labels is_statement (wide_lasts is_statement wide_statement) (shape_here Script ss ts a)) f.shaped
  whole_shaped l ss i m a = absurd (false≢true i)
