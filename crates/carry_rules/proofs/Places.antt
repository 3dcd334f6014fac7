-- Where labels may stand, and what that says of them.
use Rattle.std.proofs.Common.{◌≡◌, Bool, true, false, not, ◌||◌, List, [], ◌∷◌, refl, sym, ap₂, ◌∙◌, inl, inr}
use Rattle.std.proofs.lemmas.Bool.{and_parts, and_from, or_left, false≢true, true≢false}
use Rattle.swc_ast.specs.Labels.{is_params, is_declaration}
use Rattle.swc_ast.specs.declared.Span.{Span}
use Rattle.swc_ast.specs.declared.VarDeclKind.{VarDeclKind}
use Rattle.swc_ast.specs.declared.VarDeclKind.TheVariants.{Var, Let, Const}
use Rattle.swc_ast.specs.Tree.{Name, same_name, Label, Assign, Update, Method, Fn, Arrow, Params, Body, Param, Block, If, While, DoWhile, For, Labeled, Switch, CaseBody, Try, VarDecl, Declarator, FnDecl, Module, Script, Import, ImportNamed, ImportDefault, ImportStar, ExportDecl, ExportDefaultFn, ExportDefaultExpr, Tree, node, Forest, ε, ◌⊳◌}
use Rattle.swc_ast.specs.Scope.{default_name, has_name, own_vars}
use Rattle.swc_ast.specs.Valid.{good_shape, is_listed, none_listed}
use Rattle.static_proofs.specs.Shaped.{is_inner, is_statement, is_whole_item, is_declarator_of, is_one_declaration, is_specifier, labels_of, all_labels, holds, is_shaped, are_shaped}
use Rattle.static_proofs.proofs.Names.{same_name_itself}
use Rattle.link_proofs.specs.Links.{Ground, is_simple, is_group, Calm, Written, may_write, never_writes, Declares, moves, sets_it}
use Rattle.carry_rules.specs.Carry.{Pass, Facts, lists, ready_at}
use Rattle.carry_rules.proofs.Sound.{Last, fixed, links, waits_in, waits_all, Sure, Sits, Stays}
use Rattle.carry_rules.proofs.Standing.{Flat}

-- what may stand outside lists
abbrev pub alone : Label → Bool
alone Body = false
alone Params = false
alone (Param x) = false
alone (VarDecl Let) = false
alone (VarDecl Const) = false
alone (Declarator Let x) = false
alone (Declarator Const x) = false
alone ExportDecl = false
alone CaseBody = false
alone Module = false
alone Script = false
alone _ = true

-- what may stand in lists
abbrev pub begins : Label → Bool
begins Body = false
begins Params = false
begins (Param x) = false
begins Module = false
begins Script = false
begins _ = true

pub inner_alone : (l : Label) → is_inner l ≡ true → alone l ≡ true
inner_alone Body e = absurd (false≢true e)
inner_alone Params e = absurd (false≢true e)
inner_alone (Param x) e = absurd (false≢true e)
inner_alone (VarDecl k) e = absurd (false≢true e)
inner_alone (Declarator k x) e = absurd (false≢true e)
inner_alone ExportDecl e = absurd (false≢true e)
inner_alone CaseBody e = absurd (false≢true e)
inner_alone Module e = absurd (false≢true e)
inner_alone Script e = absurd (false≢true e)
inner_alone l e = refl

pub statement_alone : (l : Label) (ss : List Span) (cs : Forest) → is_statement l ≡ true → not (is_listed (node l ss cs)) ≡ true → alone l ≡ true
statement_alone Body ss cs e n = absurd (false≢true e)
statement_alone Params ss cs e n = absurd (false≢true e)
statement_alone (Param x) ss cs e n = absurd (false≢true e)
statement_alone (VarDecl Var) ss cs e n = refl
statement_alone (VarDecl Let) ss cs e n = absurd (false≢true n)
statement_alone (VarDecl Const) ss cs e n = absurd (false≢true n)
statement_alone (Declarator k x) ss cs e n = absurd (false≢true e)
statement_alone ExportDecl ss cs e n = absurd (false≢true e)
statement_alone CaseBody ss cs e n = absurd (false≢true e)
statement_alone Module ss cs e n = absurd (false≢true e)
statement_alone Script ss cs e n = absurd (false≢true e)
statement_alone l ss cs e n = refl

pub statement_begins : (l : Label) → is_statement l ≡ true → begins l ≡ true
statement_begins Body e = absurd (false≢true e)
statement_begins Params e = absurd (false≢true e)
statement_begins (Param x) e = absurd (false≢true e)
statement_begins Module e = absurd (false≢true e)
statement_begins Script e = absurd (false≢true e)
statement_begins l e = refl

pub item_begins : (l : Label) → is_whole_item l ≡ true → begins l ≡ true
item_begins Body e = absurd (false≢true e)
item_begins Params e = absurd (false≢true e)
item_begins (Param x) e = absurd (false≢true e)
item_begins Module e = absurd (false≢true e)
item_begins Script e = absurd (false≢true e)
item_begins l e = refl

no_declarator : (k : VarDeclKind) (l : Label) → ((k : VarDeclKind) → is_declarator_of k l ≡ false) → is_declarator_of k l ≡ true → ⊥
no_declarator k l f e = true≢false (sym e ∙ f k)

none_of : (l : Label) → is_declarator_of Var l ≡ false → is_declarator_of Let l ≡ false → is_declarator_of Const l ≡ false → (k : VarDeclKind) → is_declarator_of k l ≡ false
none_of l a b c Var = a
none_of l a b c Let = b
none_of l a b c Const = c

declarator_begins : (k : VarDeclKind) (l : Label) → is_declarator_of k l ≡ true → begins l ≡ true
declarator_begins k Body e = absurd (no_declarator k Body (none_of Body refl refl refl) e)
declarator_begins k Params e = absurd (no_declarator k Params (none_of Params refl refl refl) e)
declarator_begins k (Param x) e = absurd (no_declarator k (Param x) (none_of (Param x) refl refl refl) e)
declarator_begins k Module e = absurd (no_declarator k Module (none_of Module refl refl refl) e)
declarator_begins k Script e = absurd (no_declarator k Script (none_of Script refl refl refl) e)
declarator_begins k l e = refl

declared_begins : (l : Label) → is_declaration l ≡ true → begins l ≡ true
declared_begins (VarDecl k) e = refl
declared_begins (FnDecl x) e = refl
declared_begins l e = absurd (false≢true e)

variable_alone : (l : Label) → is_declarator_of Var l ≡ true → alone l ≡ true
variable_alone (Declarator Var x) e = refl
variable_alone l e = absurd (false≢true e)

specifier_alone : (l : Label) → is_specifier l ≡ true → alone l ≡ true
specifier_alone (ImportNamed x o) e = refl
specifier_alone (ImportDefault x) e = refl
specifier_alone (ImportStar x) e = refl
specifier_alone l e = absurd (false≢true e)

pub all_are : (p q : Label → Bool) → ((l : Label) → p l ≡ true → q l ≡ true) → (ls : List Label) → all_labels p ls ≡ true → all_labels q ls ≡ true
all_are p q f [] e = refl
all_are p q f (l ∷ ls) e = let r = and_parts (p l) (all_labels p ls) e in and_from (q l) (all_labels q ls) (f l r.0) (all_are p q f ls r.1)

one_begins : (ls : List Label) → is_one_declaration ls ≡ true → all_labels begins ls ≡ true
one_begins [] e = absurd (false≢true e)
one_begins (l ∷ []) e = and_from (begins l) true (declared_begins l e) refl
one_begins (l ∷ m ∷ ls) e = absurd (false≢true e)

listed_alone : (cs : Forest) → all_labels is_statement (labels_of cs) ≡ true → none_listed cs ≡ true → all_labels alone (labels_of cs) ≡ true
listed_alone ε e n = refl
listed_alone (node l ss cs ⊳ ts) e n =
    let q = and_parts (is_statement l) (all_labels is_statement (labels_of ts)) e in
    let r = and_parts (not (is_listed (node l ss cs))) (none_listed ts) n in
    and_from (alone l) (all_labels alone (labels_of ts)) (statement_alone l ss cs q.0 r.0) (listed_alone ts q.1 r.1)

-- what stands below a node that has no scope and is no declaration
pub simple_children : (l : Label) (cs : Forest) → is_simple l ≡ true → alone l ≡ true → holds l (labels_of cs) ≡ true → good_shape l cs ≡ true → all_labels alone (labels_of cs) ≡ true
simple_children Block cs i a h g = absurd (false≢true i)
simple_children Body cs i a h g = absurd (false≢true i)
simple_children CaseBody cs i a h g = absurd (false≢true a)
simple_children Script cs i a h g = absurd (false≢true a)
simple_children Module cs i a h g = absurd (false≢true a)
simple_children For cs i a h g = absurd (false≢true i)
simple_children (Switch ds) cs i a h g = absurd (false≢true i)
simple_children (Try o) cs i a h g = absurd (false≢true i)
simple_children (Fn o) cs i a h g = absurd (false≢true i)
simple_children (FnDecl x) cs i a h g = absurd (false≢true i)
simple_children (ExportDefaultFn o) cs i a h g = absurd (false≢true i)
simple_children Arrow cs i a h g = absurd (false≢true i)
simple_children Method cs i a h g = absurd (false≢true i)
simple_children Params cs i a h g = absurd (false≢true a)
simple_children ExportDecl cs i a h g = absurd (false≢true a)
simple_children (VarDecl Let) cs i a h g = absurd (false≢true a)
simple_children (VarDecl Const) cs i a h g = absurd (false≢true a)
simple_children (VarDecl Var) cs i a h g = all_are (is_declarator_of Var) alone variable_alone (labels_of cs) h
simple_children (Import src) cs i a h g = all_are is_specifier alone specifier_alone (labels_of cs) h
simple_children If cs i a h g = listed_alone cs h g
simple_children While cs i a h g = listed_alone cs h g
simple_children DoWhile cs i a h g = listed_alone cs h g
simple_children (Labeled t) cs i a h g = listed_alone cs h g
simple_children l cs i a h g = all_are is_inner alone inner_alone (labels_of cs) h

-- what stands below a declaration, or in a case
pub group_children : (l : Label) (ls : List Label) → is_group l ≡ true → holds l ls ≡ true → all_labels begins ls ≡ true
group_children (VarDecl k) ls i h = all_are (is_declarator_of k) begins (declarator_begins k) ls h
group_children ExportDecl ls i h = one_begins ls h
group_children CaseBody ls i h = all_are is_statement begins statement_begins ls h
group_children l ls i h = absurd (false≢true i)

-- a node that has no scope makes no name ready
pub simple_ready : (l : Label) (cs : Forest) (x : Name) → is_simple l ≡ true → alone l ≡ true → ready_at l cs x ≡ true → ⊥
simple_ready (Fn o) cs x i a e = false≢true i
simple_ready Params cs x i a e = false≢true a
simple_ready Body cs x i a e = false≢true i
simple_ready Block cs x i a e = false≢true i
simple_ready Module cs x i a e = false≢true a
simple_ready Script cs x i a e = false≢true a
simple_ready (Switch ds) cs x i a e = false≢true i
simple_ready (Try o) cs x i a e = false≢true i
simple_ready l cs x i a e = false≢true e

-- its children stand in no list
pub simple_unlisted : (l : Label) (b : Bool) → is_simple l ≡ true → alone l ≡ true → Flat l b → lists l b ≡ false
simple_unlisted Block b i a f = absurd (false≢true i)
simple_unlisted Body b i a f = absurd (false≢true i)
simple_unlisted CaseBody b i a f = absurd (false≢true a)
simple_unlisted Module b i a f = absurd (false≢true a)
simple_unlisted Script b i a f = absurd (false≢true a)
simple_unlisted ExportDecl b i a f = absurd (false≢true a)
simple_unlisted (VarDecl Let) b i a f = absurd (false≢true a)
simple_unlisted (VarDecl Const) b i a f = absurd (false≢true a)
simple_unlisted (VarDecl Var) b i a (inl e) = absurd (true≢false e)
simple_unlisted (VarDecl Var) b i a (inr e) = e
simple_unlisted (Declarator Let x) b i a f = absurd (false≢true a)
simple_unlisted (Declarator Const x) b i a f = absurd (false≢true a)
simple_unlisted (Declarator Var x) b i a (inl e) = absurd (true≢false e)
simple_unlisted (Declarator Var x) b i a (inr e) = e
simple_unlisted l b i a f = refl

pub group_ready : (l : Label) (cs : Forest) (x : Name) → is_group l ≡ true → ready_at l cs x ≡ true → ⊥
group_ready (VarDecl k) cs x i e = false≢true e
group_ready ExportDecl cs x i e = false≢true e
group_ready CaseBody cs x i e = false≢true e
group_ready l cs x i e = false≢true i

-- what stands alone shows no name
pub variables_wait : (ts : Forest) (x : Name) → all_labels (is_declarator_of Var) (labels_of ts) ≡ true → waits_all ts x ≡ false
variables_wait ε x e = refl
variables_wait (node l ss cs ⊳ ts) x e =
    let q = and_parts (is_declarator_of Var l) (all_labels (is_declarator_of Var) (labels_of ts)) e in
    by l q.0 (variables_wait ts x q.1)
  where
    by : (l : Label) → is_declarator_of Var l ≡ true → waits_all ts x ≡ false → waits_all (node l ss cs ⊳ ts) x ≡ false
    by (Declarator Var y) e h = h
    by l e h = absurd (false≢true e)

alone_waits : (t : Tree) (x : Name) → all_labels alone (labels_of (t ⊳ ε)) ≡ true → is_shaped t ≡ true → waits_in t x ≡ false
alone_waits (node (VarDecl Var) ss cs) x a h = variables_wait cs x (and_parts (holds (VarDecl Var) (labels_of cs)) (are_shaped cs) h).0
alone_waits (node (VarDecl Let) ss cs) x a h = absurd (false≢true a)
alone_waits (node (VarDecl Const) ss cs) x a h = absurd (false≢true a)
alone_waits (node (Declarator Let y) ss cs) x a h = absurd (false≢true a)
alone_waits (node (Declarator Const y) ss cs) x a h = absurd (false≢true a)
alone_waits (node ExportDecl ss cs) x a h = absurd (false≢true a)
alone_waits (node CaseBody ss cs) x a h = absurd (false≢true a)
alone_waits (node l ss cs) x a h = refl

pub all_alone_wait : (ts : Forest) (x : Name) → all_labels alone (labels_of ts) ≡ true → are_shaped ts ≡ true → waits_all ts x ≡ false
all_alone_wait ε x a h = refl
all_alone_wait (node l ss cs ⊳ ts) x a h =
    let q = and_parts (alone l) (all_labels alone (labels_of ts)) a in
    let r = and_parts (is_shaped (node l ss cs)) (are_shaped ts) h in
    ap₂ ◌||◌ (alone_waits (node l ss cs) x (and_from (alone l) true q.0 refl) r.0) (all_alone_wait ts x q.1 r.1)

pub alone_no_params : (l : Label) → alone l ≡ true → not (is_params l) ≡ true
alone_no_params Params e = absurd (false≢true e)
alone_no_params l e = refl

pub begins_no_params : (l : Label) → begins l ≡ true → not (is_params l) ≡ true
begins_no_params Params e = absurd (false≢true e)
begins_no_params l e = refl

module _ {p : Pass} {F : Facts} {E : Last} {lex : Name → Bool} (sure : Sure p F E lex) (G : Ground) where
  pub loose : (x : Name) → fixed F x ≡ false → F.unset x ≡ false → (fixed F x || E.idle x) ≡ false
  loose x e u = ap₂ ◌||◌ e (by (E.idle x) refl)
    where
      by : (b : Bool) → E.idle x ≡ b → b ≡ false
      by false i = refl
      by true i = absurd (true≢false (sym (sure.idle_unset x i) ∙ u))

  written_calm : (x : Name) → F.steady x ≡ false → (F.variable x ≡ false) × (F.unset x ≡ false) → Written (links F E) x
  written_calm x e v = by (F.constant x) refl
    where
      by : (b : Bool) → F.constant x ≡ b → Written (links F E) x
      by true c = never_writes c
      by false c = may_write (loose x (ap₂ ◌||◌ e c) v.1) v.0

  -- a variable takes a value
  pub variable_calm : (x : Name) → fixed F x ≡ false → E.idle x ≡ false → (F.variable x ≡ true → G.sets x ≡ true) → Declares (links F E) G x
  variable_calm x e i g = by (F.variable x) refl
    where
      by : (b : Bool) → F.variable x ≡ b → Declares (links F E) G x
      by true v = sets_it (ap₂ ◌||◌ e i) (g v)
      by false v = moves (ap₂ ◌||◌ e i) v

  -- no fixed name is set
  pub simple_calm : (l : Label) → alone l ≡ true → Sits F lex l → Stays F l → ((x : Name) → has_name x (own_vars l) ≡ true → F.variable x ≡ true → fixed F x ≡ false → G.sets x ≡ true) → ((x : Name) → has_name x (own_vars l) ≡ true → E.idle x ≡ false) → Calm (links F E) G l
  simple_calm (Assign op x) a h k g i = written_calm x h k
  simple_calm (Update op prefix x) a h k g i = written_calm x h k
  simple_calm (Declarator Var x) a h k g i = variable_calm x h (i x (or_left (same_name x x) false (same_name_itself x))) (λ v. g x (or_left (same_name x x) false (same_name_itself x)) v h)
  simple_calm (Declarator Let x) a h k g i = absurd (false≢true a)
  simple_calm (Declarator Const x) a h k g i = absurd (false≢true a)
  simple_calm ExportDefaultExpr a h k g i = moves (loose default_name sure.default_free sure.default_set) sure.default_moves
  simple_calm l a h k g i = tt
