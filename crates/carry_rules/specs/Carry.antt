-- What is carried from declarations to the reads behind them, as functions on trees in text order: what a tree becomes, and what
-- is carried behind it. Two passes do it: one carries constants, one inlines names of `let`, `const` and `var`.
use Rattle.std.specs.Prelude.{ℕ, ◌+◌, Bool, true, false, not, ◌&&◌, ◌||◌, ◌==◌, if◌then◌else◌, List, [], ◌∷◌, ◌++◌, Some, pos}
use Rattle.swc_ast.specs.declared.Span.{Span}
use Rattle.swc_ast.specs.declared.UnaryOp.TheVariants.{TypeOf, Void, Delete}
use Rattle.swc_ast.specs.declared.VarDeclKind.TheVariants.{Var, Let, Const}
use Rattle.swc_ast.specs.Tree.{Name, same_name, Label, NumLit, StrLit, BoolLit, NullLit, Read, Shorthand, KeyValue, Fn, Params, Param, Unary, TypeOfName, Assign, AssignDot, AssignIndex, Update, UpdateDot, UpdateIndex, Block, Body, CaseBody, Switch, Try, Module, Script, VarDecl, Declarator, FnDecl, Import, ImportNamed, ImportDefault, ImportStar, ExportDecl, ExportNamed, ExportSpecifier, ExportDefaultFn, Tree, node, Forest, ε, ◌⊳◌}
use Rattle.swc_ast.specs.Value.{Value, Undefined, Null, Truth, Num, Text as TextValue}
use Rattle.swc_ast.specs.Scope.{is_function, has_name, option_name, param_names, list_binds, case_statements}
use Rattle.swc_ast.specs.Redex.{is_dummy}
use Rattle.swc_ast.specs.Expressions.{is_eval}
use Rattle.swc_ast.specs.Resolved.{is_default}
use Rattle.swc_ast.specs.Run.{export_text}
use Rattle.tree_put.specs.Keys.{property_key}
use Rattle.link_proofs.specs.Links.{Put, nothing, a_name, a_value, literal_value, put_known}

-- the pass that carries constants, and the one that inlines
pub data Pass : Type 0 where
  constants inlines : Pass

-- Facts of the whole input.

-- an assignment or an update has a name for its target
abbrev pub writes : Name → Label → Bool
writes x (Assign op y) = same_name x y
writes x (Update op prefix y) = same_name x y
writes x _ = false

-- a declarator of `const`; of `let` or `const`; of `var`
abbrev pub declares_const : Name → Label → Bool
declares_const x (Declarator Const y) = same_name x y
declares_const x _ = false

abbrev pub declares_lexical : Name → Label → Bool
declares_lexical x (Declarator Let y) = same_name x y
declares_lexical x (Declarator Const y) = same_name x y
declares_lexical x _ = false

abbrev pub declares_variable : Name → Label → Bool
declares_variable x (Declarator Var y) = same_name x y
declares_variable x _ = false

-- a specifier of an import
abbrev pub imports : Name → Label → Bool
imports x (ImportNamed y o) = same_name x y
imports x (ImportDefault y) = same_name x y
imports x (ImportStar y) = same_name x y
imports x _ = false

-- a parameter, a function or a `catch` that has the name
abbrev pub declares_other : Name → Label → Bool
declares_other x (Param y) = same_name x y
declares_other x (Fn o) = has_name x (option_name o)
declares_other x (FnDecl y) = same_name x y
declares_other x (ExportDefaultFn o) = has_name x (option_name o)
declares_other x (Try (Some o)) = has_name x (option_name o)
declares_other x _ = false

-- a node declares a name
abbrev pub declares : Name → Label → Bool
declares x l = declares_lexical x l || (declares_variable x l || (imports x l || declares_other x l))

abbrev pub one : Bool → ℕ
one true = 1
one false = 0

-- a declarator without an initialiser
abbrev pub declares_unset : Name → Label → Forest → Bool
declares_unset x (Declarator Let y) ε = same_name x y
declares_unset x (Declarator Var y) ε = same_name x y
declares_unset x l cs = false

abbrev mutual
  -- how many nodes hold
  pub how_many : (Label → Forest → Bool) → Tree → ℕ
  how_many p (node l ss cs) = one (p l cs) + how_many_in p cs

  pub how_many_in : (Label → Forest → Bool) → Forest → ℕ
  how_many_in p ε = 0
  how_many_in p (t ⊳ ts) = how_many p t + how_many_in p ts

pub record Facts : Type 0 where
  -- names that stand for what they hold once they hold it: declared by one node, which is no `var` and no import, never written
  pub steady : Name → Bool
  -- names of one `const`
  pub constant : Name → Bool
  -- names that one node declares, a `var`, never written
  pub variable : Name → Bool
  -- names that one `let` or some `var`s declare without initialisers, and nothing else does, never written
  pub unset : Name → Bool

unfoldable pub facts : Tree → Facts
facts t =
    let many : (Name → Label → Bool) → Name → ℕ = λ q x. how_many (λ l cs. q x l) t in
    let unwritten : Name → Bool = λ x. many writes x == 0 in
    let sole : Name → Bool = λ x. not (is_default x) && (many declares x == 1) in
    let still : Name → Bool = λ x. sole x && unwritten x in
    record {
      steady = λ x. still x && ((many declares_variable x == 0) && (many imports x == 0));
      constant = λ x. sole x && (many declares_const x == 1);
      variable = λ x. still x && (many declares_variable x == 1);
      unset = λ x. not (is_default x) && (unwritten x && ((not (how_many (declares_unset x) t == 0) && (many declares x == how_many (declares_unset x) t)) && ((many declares x == 1) || (many declares_lexical x == 0))));
    }

-- What is carried where a tree stands.
pub record Carried : Type 0 where
  -- for names of `let` and `const`
  pub values : Name → Put
  -- for variables among the statements that follow
  pub settled : Name → Put
  -- steady names that may stand for others: in scope, and declared before where by `let` or `const`
  pub ready : Name → Bool
  -- the declaration around stands nowhere in a text
  pub dummy : Bool
  -- a list stands around
  pub listed : Bool
  -- nothing is put here
  pub quiet : Bool

abbrev pub nothing_carried : Carried
nothing_carried = record { values = λ x. nothing; settled = λ x. nothing; ready = λ x. false; dummy = false; listed = false; quiet = false }

abbrev pub or_put : Put → Put → Put
or_put nothing q = q
or_put (a_name x) q = a_name x
or_put (a_value v) q = a_value v

abbrev pub put_unless : Bool → Put → Put
put_unless true q = nothing
put_unless false q = q

-- what is carried of a name
abbrev pub carried : Carried → Name → Put
carried s y = put_unless s.quiet (or_put (s.values y) (s.settled y))

-- what is put for a name that is a key too
abbrev pub shorthand_put : Pass → Carried → Name → Put
shorthand_put constants s y = carried s y
shorthand_put p s y = nothing

-- what is put for the name that a node reads
abbrev pub read_put : Pass → Carried → Label → Put
read_put p s (Read y) = carried s y
read_put p s (TypeOfName y) = carried s y
read_put p s (Shorthand y) = shorthand_put p s y
read_put p s l = nothing

-- nodes in which nothing is put
abbrev pub is_exempt : Pass → Label → Bool
is_exempt p (Unary Delete) = true
is_exempt p (Import src) = true
is_exempt constants (Assign op y) = true
is_exempt constants (AssignDot op k) = true
is_exempt constants (AssignIndex op) = true
is_exempt constants (Update op prefix y) = true
is_exempt constants (UpdateDot op prefix k) = true
is_exempt constants (UpdateIndex op prefix) = true
is_exempt p l = false

-- functions that a list declares are ready at once, parameters are in their function, and the name of a handler is in its `try`
abbrev pub function_name : Label → List Name
function_name (FnDecl f) = f ∷ []
function_name (ExportDefaultFn o) = option_name o
function_name l = []

abbrev pub item_function : Tree → List Name
item_function (node ExportDecl ss (node l ts cs ⊳ us)) = function_name l
item_function (node l ss cs) = function_name l

abbrev pub list_functions : Forest → List Name
list_functions ε = []
list_functions (t ⊳ ts) = item_function t ++ list_functions ts

abbrev pub ready_at : Label → Forest → Name → Bool
ready_at (Fn o) cs x = has_name x (option_name o)
ready_at (Try (Some o)) cs x = has_name x (option_name o)
ready_at Params cs x = has_name x (param_names cs)
ready_at Body cs x = has_name x (list_functions cs)
ready_at Block cs x = has_name x (list_functions cs)
ready_at Module cs x = has_name x (list_functions cs)
ready_at Script cs x = has_name x (list_functions cs)
ready_at (Switch ds) cs x = has_name x (list_functions (case_statements cs))
ready_at l cs x = false

abbrev pub is_nowhere : List Span → Bool
is_nowhere [] = false
is_nowhere (s ∷ ss) = is_dummy s

abbrev pub second_nowhere : List Span → Bool
second_nowhere [] = false
second_nowhere (s ∷ ss) = is_nowhere ss

abbrev pub is_declaring : Label → Bool
is_declaring (VarDecl kind) = true
is_declaring (Declarator kind x) = true
is_declaring ExportDecl = true
is_declaring _ = false

-- children that stand in a list
abbrev pub lists : Label → Bool → Bool
lists Block b = true
lists Body b = true
lists CaseBody b = true
lists Module b = true
lists Script b = true
lists l b = is_declaring l && b

-- a declaration, of which the declarators are no lists
abbrev pub groups : Label → Bool
groups (VarDecl kind) = true
groups ExportDecl = true
groups _ = false

-- names that are ready stay so behind the node
abbrev pub keeps_names : Label → Bool
keeps_names Params = true
keeps_names CaseBody = true
keeps_names l = groups l

-- the first of two
abbrev pub with_put : Name → Put → (Name → Put) → Name → Put
with_put x q f y = if same_name x y then or_put (f y) q else f y

-- what a carried initialiser carries: a value that has a literal, or a name that is in scope here
abbrev pub passed_on : Carried → Put → Put → Put
passed_on s nothing q = q
passed_on s (a_name x) q = put_unless (not (s.ready x)) (a_name x)
passed_on s (a_value Undefined) q = nothing
passed_on s (a_value v) q = a_value v

-- which literals are carried
abbrev pub literal_put : Pass → Label → Put
literal_put constants (StrLit t) = nothing
literal_put p l = put_known (literal_value l) nothing

-- which names may stand for a name: a call of the name `eval` would be another call
abbrev pub name_put : Pass → Carried → Bool → Name → Put
name_put constants s dummy a = put_unless (is_eval a || not (s.ready a && dummy)) (a_name a)
name_put inlines s dummy a = put_unless (is_eval a || not (s.ready a)) (a_name a)

abbrev pub first_put : Pass → Carried → List Span → Forest → Put
first_put p s ss (node (Read a) rs ε ⊳ ε) = passed_on s (carried s a) (name_put p s (second_nowhere ss || (s.dummy || is_nowhere rs)) a)
first_put p s ss (node l rs ε ⊳ ε) = literal_put p l
first_put p s ss _ = nothing

module _ (p : Pass) (F : Facts) where
  -- names of `let` and `const` of which something may be carried
  abbrev pub may_carry : Name → Bool
  may_carry x = carries p
    where
      carries : Pass → Bool
      carries constants = F.constant x
      carries inlines = F.steady x

  -- variables of which something may be carried among the statements that follow
  abbrev pub may_settle : Pass → Name → Bool
  may_settle constants x = false
  may_settle inlines x = F.variable x

  -- what is carried of a declarator
  abbrev pub entry : Carried → Name → List Span → Forest → Put
  entry s x ss cs = put_unless (s.quiet || not (may_carry x)) (first_put p s ss cs)

  abbrev pub settling : Carried → Name → List Span → Forest → Put
  settling s x ss cs = put_unless (s.quiet || not (s.listed && may_settle p x)) (first_put p s ss cs)

  -- at the head of a node
  abbrev pub enter : Label → List Span → Forest → Carried → Carried
  enter l ss cs s = record {
    values = s.values;
    settled = if is_function l then (λ x. nothing) else s.settled;
    ready = λ x. s.ready x || (ready_at l cs x && F.steady x);
    dummy = (groups l && is_nowhere ss) || (is_declaring l && s.dummy);
    listed = lists l s.listed;
    quiet = s.quiet || is_exempt p l;
  }

  -- behind it, by what was carried at its head and is carried at its end
  abbrev pub leave : Label → Carried → Carried → Carried
  leave l s t = record {
    values = t.values;
    settled = if groups l && s.listed then t.settled else s.settled;
    ready = if keeps_names l then t.ready else s.ready;
    dummy = s.dummy;
    listed = s.listed;
    quiet = s.quiet;
  }

  -- behind a declarator
  abbrev pub behind : Label → List Span → Forest → Carried → Carried
  behind (Declarator Var x) ss cs s = record s { settled = with_put x (settling s x ss cs) s.settled }
  behind (Declarator kind x) ss cs s = record s { values = with_put x (entry s x ss cs) s.values; ready = λ y. s.ready y || (same_name x y && F.steady y) }
  behind l ss cs s = s

  abbrev mutual
    -- what is carried behind a tree
    pub after : Carried → Tree → Carried
    after s (node l ss cs) = behind l ss cs (leave l s (after_all (enter l ss cs s) cs))

    pub after_all : Carried → Forest → Carried
    after_all s ε = s
    after_all s (t ⊳ ts) = after_all (after s t) ts

-- an expression that gives a value
abbrev pub value_tree : Value → List Span → Tree
value_tree (Num z) ss = node (NumLit z) ss ε
value_tree (TextValue t) ss = node (StrLit t) ss ε
value_tree (Truth b) ss = node (BoolLit b) ss ε
value_tree Null ss = node NullLit ss ε
value_tree _ ss = node (Unary Void) ss (node (NumLit (pos 0)) ss ε ⊳ ε)

abbrev pub put_tree : Name → Put → List Span → Tree
put_tree y nothing ss = node (Read y) ss ε
put_tree y (a_name x) ss = node (Read x) ss ε
put_tree y (a_value v) ss = value_tree v ss

-- a node, or what is put in its place
abbrev pub rebuilt : Put → Label → List Span → Forest → Tree
rebuilt nothing l ss cs = node l ss cs
rebuilt q (Read y) ss cs = put_tree y q ss
rebuilt (a_name x) (TypeOfName y) ss cs = node (TypeOfName x) ss ε
rebuilt (a_value v) (TypeOfName y) ss cs = node (Unary TypeOf) ss (value_tree v ss ⊳ ε)
rebuilt q (Shorthand y) ss cs = node KeyValue ss (property_key y.text ss ⊳ put_tree y q ss ⊳ ε)
rebuilt q l ss cs = node l ss cs

module _ (p : Pass) (F : Facts) where
  abbrev mutual
    -- what a tree becomes
    pub written : Carried → Tree → Tree
    written s (node l ss cs) = rebuilt (read_put p s l) l ss (written_all (enter p F l ss cs s) cs)

    pub written_all : Carried → Forest → Forest
    written_all s ε = ε
    written_all s (t ⊳ ts) = written s t ⊳ written_all (after p F s t) ts

-- exports that name what a name stands for, where a list declares that: the module's own
abbrev pub exported_put : (Name → Bool) → Put → Label → Label
exported_put binds (a_name x) (ExportSpecifier y o) = if binds x then ExportSpecifier x (Some (export_text y o)) else ExportSpecifier y o
exported_put binds q l = l

abbrev pub exported_name : (Name → Put) → Label → Put
exported_name values (ExportSpecifier y o) = values y
exported_name values l = nothing

module _ (binds : Name → Bool) (values : Name → Put) where
  abbrev pub respecified : Forest → Forest
  respecified ε = ε
  respecified (node l ss cs ⊳ ts) = node (exported_put binds (exported_name values l) l) ss cs ⊳ respecified ts

  abbrev pub reexported : Forest → Forest
  reexported ε = ε
  reexported (node ExportNamed ss cs ⊳ ts) = node ExportNamed ss (respecified cs) ⊳ reexported ts
  reexported (t ⊳ ts) = t ⊳ reexported ts

-- what is carried where a tree begins: names that are never set
abbrev pub starting : Pass → Facts → Carried
starting constants F = nothing_carried
starting inlines F = record nothing_carried { values = λ x. if F.unset x then a_value Undefined else nothing }

-- what a pass makes of a whole tree
abbrev pub propagated : Pass → Tree → Tree
propagated inlines t = written inlines (facts t) (starting inlines (facts t)) t
propagated constants (node Module ss cs) =
    let s = starting constants (facts (node Module ss cs)) in
    node Module ss (reexported (list_binds cs) (after constants (facts (node Module ss cs)) s (node Module ss cs)).values (written_all constants (facts (node Module ss cs)) (enter constants (facts (node Module ss cs)) Module ss cs s) cs))
propagated constants t = written constants (facts t) (starting constants (facts t)) t

-- the same tree where each span is left out but those of reads at which something is put
abbrev pub mark_of : Put → List Span
mark_of nothing = []
mark_of q = record { lo = 0; hi = 0 } ∷ []

module _ (p : Pass) (F : Facts) where
  abbrev mutual
    pub marks : Carried → Tree → Tree
    marks s (node l ss cs) = node l (mark_of (read_put p s l)) (marks_all (enter p F l ss cs s) cs)

    pub marks_all : Carried → Forest → Forest
    marks_all s ε = ε
    marks_all s (t ⊳ ts) = marks s t ⊳ marks_all (after p F s t) ts
