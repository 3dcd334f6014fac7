-- Rows of the two passes, computed.
use Rattle.std.proofs.Common.{◌≡◌, codes, [], ◌∷◌, None, Some, refl}
use Rattle.std.specs.Prelude.{ℕ, pos, List}
use Rattle.swc_ast.specs.declared.Span.{Span}
use Rattle.swc_ast.specs.declared.UnaryOp.TheVariants.{Void}
use Rattle.swc_ast.specs.declared.AssignOp.TheVariants as assign
use Rattle.swc_ast.specs.declared.VarDeclKind.TheVariants.{Var, Let, Const}
use Rattle.swc_ast.specs.Tree.{Name, NameKey, Label, NumLit, StrLit, Read, Object, Shorthand, KeyValue, PlainKey, Params, Body, Unary, Assign, Call, Block, Absent, If, Return, Try, ExprStmt, VarDecl, Declarator, FnDecl, Import, ImportNamed, ExportDecl, ExportNamed, ExportSpecifier, Module, Tree, node, Forest, ε, ◌⊳◌}
use Rattle.swc_ast.specs.Resolved.{own_scopes}
use Rattle.carry_rules.specs.Carry.{constants, inlines, facts, propagated}

abbrev name : ℕ → Name
name n = record { text = n ∷ []; context = n }

abbrev a : Name
a = name 97

abbrev b : Name
b = name 98

abbrev f : Name
f = record { text = codes "f"; context = 1 }

abbrev here : List Span
here = record { lo = 1; hi = 2 } ∷ record { lo = 1; hi = 2 } ∷ []

abbrev nowhere : List Span
nowhere = record { lo = 0; hi = 0 } ∷ record { lo = 0; hi = 0 } ∷ []

abbrev leaf : Label → Tree
leaf l = node l here ε

abbrev one : Label → Tree → Tree
one l t = node l here (t ⊳ ε)

abbrev calls : Tree → Tree
calls t = one ExprStmt (node Call here (leaf (Read f) ⊳ t ⊳ ε))

abbrev const_is : Name → Tree → Tree
const_is x t = one (VarDecl Const) (one (Declarator Const x) t)

abbrev let_is : Name → Tree → Tree
let_is x t = one (VarDecl Let) (one (Declarator Let x) t)

abbrev var_is : Name → Tree → Tree
var_is x t = one (VarDecl Var) (one (Declarator Var x) t)

abbrev items : Forest → Tree
items ts = node Module here ts

abbrev number : Tree
number = leaf (NumLit (pos 1))

abbrev text : Tree
text = leaf (StrLit (codes "x"))

-- const a = 1; f(a); x = a;
writes_stay : propagated constants (items (const_is a number ⊳ calls (leaf (Read a)) ⊳ one ExprStmt (one (Assign assign.Assign b) (leaf (Read a))) ⊳ ε)) ≡ items (const_is a number ⊳ calls number ⊳ one ExprStmt (one (Assign assign.Assign b) (leaf (Read a))) ⊳ ε)
unfolding facts own_scopes
writes_stay = refl

-- let a = 'x'; f(a); if (c) { var v = 1; } f(v);
variables_stay : propagated inlines (items (let_is a text ⊳ calls (leaf (Read a)) ⊳ node If here (leaf (Read f) ⊳ one Block (var_is b number) ⊳ ε) ⊳ calls (leaf (Read b)) ⊳ ε)) ≡ items (let_is a text ⊳ calls text ⊳ node If here (leaf (Read f) ⊳ one Block (var_is b number) ⊳ ε) ⊳ calls (leaf (Read b)) ⊳ ε)
unfolding facts own_scopes
variables_stay = refl

-- const a = 'x'; f(a);
texts_stay : propagated constants (items (const_is a text ⊳ calls (leaf (Read a)) ⊳ ε)) ≡ items (const_is a text ⊳ calls (leaf (Read a)) ⊳ ε)
unfolding facts own_scopes
texts_stay = refl

-- const a = 1; f({a}); export {a};
shorthands : propagated constants (items (const_is a number ⊳ calls (one Object (leaf (Shorthand a))) ⊳ one ExportNamed (leaf (ExportSpecifier a None)) ⊳ ε)) ≡ items (const_is a number ⊳ calls (one Object (node KeyValue here (leaf (PlainKey (NameKey a.text)) ⊳ number ⊳ ε))) ⊳ one ExportNamed (leaf (ExportSpecifier a None)) ⊳ ε)
unfolding facts own_scopes
shorthands = refl

-- var u; f(u);
never_set : propagated inlines (items (one (VarDecl Var) (leaf (Declarator Var a)) ⊳ calls (leaf (Read a)) ⊳ ε)) ≡ items (one (VarDecl Var) (leaf (Declarator Var a)) ⊳ calls (node (Unary Void) here (node (NumLit (pos 0)) here ε ⊳ ε)) ⊳ ε)
unfolding facts own_scopes
never_set = refl

-- let p = 1; p = 2; f(p);
written_stay : propagated inlines (items (let_is a number ⊳ one ExprStmt (one (Assign assign.Assign a) number) ⊳ calls (leaf (Read a)) ⊳ ε)) ≡ items (let_is a number ⊳ one ExprStmt (one (Assign assign.Assign a) number) ⊳ calls (leaf (Read a)) ⊳ ε)
unfolding facts own_scopes
written_stay = refl

-- let b = 1; let a = b; f(a);
chains : propagated inlines (items (let_is b number ⊳ let_is a (leaf (Read b)) ⊳ calls (leaf (Read a)) ⊳ ε)) ≡ items (let_is b number ⊳ let_is a number ⊳ calls number ⊳ ε)
unfolding facts own_scopes
chains = refl

-- var b = 1; f(b);
variables : propagated inlines (items (var_is b number ⊳ calls (leaf (Read b)) ⊳ ε)) ≡ items (var_is b number ⊳ calls number ⊳ ε)
unfolding facts own_scopes
variables = refl

-- let b = 1; export function k() { return b; }
abbrev returns : Tree → Tree
returns t = one ExportDecl (node (FnDecl f) here (node Params here ε ⊳ one Body (one Return t) ⊳ ε))

in_functions : propagated inlines (items (let_is b number ⊳ returns (leaf (Read b)) ⊳ ε)) ≡ items (let_is b number ⊳ returns number ⊳ ε)
unfolding facts own_scopes
in_functions = refl

-- import {i} from 'm'; let a = i; f(a);
imports_stay : propagated inlines (items (one (Import (codes "m")) (leaf (ImportNamed b None)) ⊳ let_is a (leaf (Read b)) ⊳ calls (leaf (Read a)) ⊳ ε)) ≡ items (one (Import (codes "m")) (leaf (ImportNamed b None)) ⊳ let_is a (leaf (Read b)) ⊳ calls (leaf (Read a)) ⊳ ε)
unfolding facts own_scopes
imports_stay = refl

-- import {i} from 'm'; const a = i; f(a);   which stand nowhere
imports_stay_too : propagated constants (items (one (Import (codes "m")) (leaf (ImportNamed b None)) ⊳ node (VarDecl Const) nowhere (node (Declarator Const a) nowhere (node (Read b) nowhere ε ⊳ ε) ⊳ ε) ⊳ calls (leaf (Read a)) ⊳ ε)) ≡ items (one (Import (codes "m")) (leaf (ImportNamed b None)) ⊳ node (VarDecl Const) nowhere (node (Declarator Const a) nowhere (node (Read b) nowhere ε ⊳ ε) ⊳ ε) ⊳ calls (leaf (Read a)) ⊳ ε)
unfolding facts own_scopes
imports_stay_too = refl

-- const a = b; const b = 1; f(a);   which stand nowhere
abbrev nowhere_is : Name → Tree → Tree
nowhere_is x t = node (VarDecl Const) nowhere (node (Declarator Const x) nowhere (t ⊳ ε) ⊳ ε)

later_stay : propagated constants (items (nowhere_is a (node (Read b) nowhere ε) ⊳ nowhere_is b number ⊳ calls (leaf (Read a)) ⊳ ε)) ≡ items (nowhere_is a (node (Read b) nowhere ε) ⊳ nowhere_is b number ⊳ calls (leaf (Read a)) ⊳ ε)
unfolding facts own_scopes
later_stay = refl

-- const b = f(); const a = b; f(a); export {a};   which stand nowhere
aliases : propagated constants (items (nowhere_is b (one Call (leaf (Read f))) ⊳ nowhere_is a (node (Read b) nowhere ε) ⊳ calls (leaf (Read a)) ⊳ one ExportNamed (leaf (ExportSpecifier a None)) ⊳ ε)) ≡ items (nowhere_is b (one Call (leaf (Read f))) ⊳ nowhere_is a (node (Read b) nowhere ε) ⊳ calls (leaf (Read b)) ⊳ one ExportNamed (leaf (ExportSpecifier b (Some a.text))) ⊳ ε)
unfolding facts own_scopes
aliases = refl

-- var a; var a; f(a);
never_set_twice : propagated inlines (items (one (VarDecl Var) (leaf (Declarator Var a)) ⊳ one (VarDecl Var) (leaf (Declarator Var a)) ⊳ calls (leaf (Read a)) ⊳ ε)) ≡ items (one (VarDecl Var) (leaf (Declarator Var a)) ⊳ one (VarDecl Var) (leaf (Declarator Var a)) ⊳ calls (node (Unary Void) here (node (NumLit (pos 0)) here ε ⊳ ε)) ⊳ ε)
unfolding facts own_scopes
never_set_twice = refl

-- var a; f(a); var a = 1;
once_set : propagated inlines (items (one (VarDecl Var) (leaf (Declarator Var a)) ⊳ calls (leaf (Read a)) ⊳ var_is a number ⊳ ε)) ≡ items (one (VarDecl Var) (leaf (Declarator Var a)) ⊳ calls (leaf (Read a)) ⊳ var_is a number ⊳ ε)
unfolding facts own_scopes
once_set = refl

-- export var b = 1; f(b);
exported_variables : propagated inlines (items (one ExportDecl (var_is b number) ⊳ calls (leaf (Read b)) ⊳ ε)) ≡ items (one ExportDecl (var_is b number) ⊳ calls number ⊳ ε)
unfolding facts own_scopes
exported_variables = refl

-- try {} catch (a) { let b = a; f(b); }
abbrev handled : Tree → Tree
handled t = node (Try (Some (Some a))) here (node Block here ε ⊳ node Block here (let_is b (leaf (Read a)) ⊳ calls t ⊳ ε) ⊳ leaf Absent ⊳ ε)

handlers : propagated inlines (items (handled (leaf (Read b)) ⊳ ε)) ≡ items (handled (leaf (Read a)) ⊳ ε)
unfolding facts own_scopes
handlers = refl

-- var b = 1; export function k() { return b; }
functions_stay : propagated inlines (items (var_is b number ⊳ returns (leaf (Read b)) ⊳ ε)) ≡ items (var_is b number ⊳ returns (leaf (Read b)) ⊳ ε)
unfolding facts own_scopes
functions_stay = refl

-- var b = 1, a = b; f(a);
declarators : propagated inlines (items (node (VarDecl Var) here (one (Declarator Var b) number ⊳ one (Declarator Var a) (leaf (Read b)) ⊳ ε) ⊳ calls (leaf (Read a)) ⊳ ε)) ≡ items (node (VarDecl Var) here (one (Declarator Var b) number ⊳ one (Declarator Var a) number ⊳ ε) ⊳ calls number ⊳ ε)
unfolding facts own_scopes
declarators = refl

-- let a = f(); var b = a; f(b);
variable_names : propagated inlines (items (let_is a (one Call (leaf (Read f))) ⊳ var_is b (leaf (Read a)) ⊳ calls (leaf (Read b)) ⊳ ε)) ≡ items (let_is a (one Call (leaf (Read f))) ⊳ var_is b (leaf (Read a)) ⊳ calls (leaf (Read a)) ⊳ ε)
unfolding facts own_scopes
variable_names = refl
