-- Runs that the definitions compute: for each program, written above it, what is seen of it where the host gives these replies
-- in turn. A host's object is a token: its number, and whether it is a function.
use Rattle.std.specs.Prelude.{ℕ, zero, pos, negsuc, ◌≡◌, refl, true, false, if◌then◌else◌, bytes_eq, List, [], ◌∷◌, Some, None, codes}
use Rattle.swc_ast.specs.declared.UnaryOp.TheVariants.{Minus, Tilde, TypeOf as TypeOfOperator}
use Rattle.swc_ast.specs.declared.UpdateOp.TheVariants.{PlusPlus}
use Rattle.swc_ast.specs.declared.BinaryOp.{BinaryOp}
use Rattle.swc_ast.specs.declared.BinaryOp.TheVariants.{EqEq, EqEqEq, Lt, LShift, ZeroFillRShift, Add, Sub, Mul, Mod, Exp, BitAnd, LogicalOr, LogicalAnd, NullishCoalescing}
use Rattle.swc_ast.specs.declared.AssignOp.{AssignOp}
use Rattle.swc_ast.specs.declared.AssignOp.TheVariants.{Assign as Plain, AddAssign}
use Rattle.swc_ast.specs.declared.VarDeclKind.{VarDeclKind}
use Rattle.swc_ast.specs.declared.VarDeclKind.TheVariants.{Var, Let}
use Rattle.swc_ast.specs.Tree.{Text, Name, NameKey, ItemKind, Plain as PlainItem, Spread as SpreadItem, Label, NumLit, StrLit, BoolLit, NullLit, This, Read, Template, Array, Object, SpreadRecord, KeyValue, Method, PlainKey, ComputedKey, Fn, Arrow, Params, Body, Param, Unary, TypeOfName, Binary, Cond, Seq, Dot, Index, Call, New, CallEval, CallDot, Assign, AssignDot, Update, UpdateDot, Block, Empty, Throw, ExprStmt, Return, If, While, DoWhile, For, Absent, Labeled, Break, Continue, Switch, CaseBody, Try, VarDecl, Declarator, FnDecl, Module, Script, Import, ImportNamed, ExportDecl, ExportNamed, ExportSpecifier, ExportDefaultFn, ExportDefaultExpr, Tree, node, Forest, ε, ◌⊳◌}
use Rattle.swc_ast.specs.Value.{Value, Undefined, TypeError, Truth, Num, Text as TextValue, Items, Record, Token, Own, Values, ∅, ◌▹◌, nofield, field, Load, Reads, TypeOf as TypeOfEvent, Writes, Gets, Sets, Calls, Makes, Returns, Fails, Event, Reply, Gives, Throws, Back, Natives, Lists, Numbers}
use Rattle.swc_ast.specs.Run.{World, LaterCall, Observed, Sees, LeftCore, Unfinished, Ending, Finished, Threw, Answered, Failed, OwnFunction, Datum, Export, Handed, observe}

-- trees: unresolved names have the context 1, and those of the k-th scope the context 1 + k

abbrev name : Text → ℕ → Name
name t k = record { text = t; context = k }

abbrev leaf : Label → Tree
leaf l = node l [] ε

abbrev one : Label → Tree → Tree
one l t = node l [] (t ⊳ ε)

abbrev two : Label → Tree → Tree → Tree
two l t u = node l [] (t ⊳ u ⊳ ε)

abbrev three : Label → Tree → Tree → Tree → Tree
three l t u v = node l [] (t ⊳ u ⊳ v ⊳ ε)

abbrev host : Text → Tree
host t = leaf (Read (name t 1))

abbrev own : Text → ℕ → Tree
own t k = leaf (Read (name t k))

abbrev number : ℕ → Tree
number n = leaf (NumLit (pos n))

abbrev text : Text → Tree
text t = leaf (StrLit t)

abbrev binary : BinaryOp → Tree → Tree → Tree
binary op a b = two (Binary op) a b

abbrev plain_items : Forest → List ItemKind
plain_items ε = []
plain_items (t ⊳ ts) = PlainItem ∷ plain_items ts

abbrev array : Forest → Tree
array ts = node (Array (plain_items ts)) [] ts

abbrev does : Tree → Tree
does t = one ExprStmt t

abbrev declares : VarDeclKind → Text → ℕ → Tree → Tree
declares kind t k init = one (VarDecl kind) (one (Declarator kind (name t k)) init)

-- a declaration without a first value
abbrev names : VarDeclKind → Text → ℕ → Tree
names kind t k = one (VarDecl kind) (leaf (Declarator kind (name t k)))

abbrev assigns : AssignOp → Text → ℕ → Tree → Tree
assigns op t k value = one (Assign op (name t k)) value

abbrev property : Text → Tree → Tree
property t value = two KeyValue (leaf (PlainKey (NameKey t))) value

abbrev exports : Text → ℕ → Tree
exports t k = one ExportNamed (leaf (ExportSpecifier (name t k) None))

abbrev program : Forest → Tree
program items = node Module [] items

abbrev script : Forest → Tree
script items = node Script [] items

-- the module `export let r = t;`
abbrev result : Tree → Tree
result t = program (one ExportDecl (declares Let (codes "r") 2 t) ⊳ ε)

-- runs: at most 9 turns of each loop, and calls to a depth of at most 9

-- what values inherit: lists and numbers a function each
abbrev natively : Natives → List ℕ → Value
natively Lists k = if bytes_eq k (codes "map") then Token 7 true else Undefined
natively Numbers k = if bytes_eq k (codes "toFixed") then Token 8 true else Undefined
natively _ k = Undefined

abbrev offering : Value → List Value → List Reply → World
offering v vs rs = record { replies = rs; natives = natively; imports = λ m x. record { first = v; later = vs }; namespaces = λ m. Token 0 false }

abbrev given : List Reply → World
given rs = offering Undefined [] rs

abbrev silent : World
silent = given []

abbrev later : Text → Values → LaterCall
later t vs = record { callee = Export t; arguments = vs }

abbrev handler : ℕ → Values → LaterCall
handler k vs = record { callee = Handed k Undefined; arguments = vs }

abbrev run : World → List LaterCall → Tree → Observed
run w calls t = observe 1 9 9 w calls t

abbrev sees : List Event → Ending → Observed
sees es e = Sees (record { events = es; ending = e })

-- no event, and `r` is exported with this value
abbrev answer : Value → Observed
answer v = sees [] (Finished ((codes "r", Datum v) ∷ []) [])

-- what runs compute by
unfoldable runs : ℕ
unfolding Rattle.swc_ast.specs.Value.and_then Rattle.swc_ast.specs.Operators.units Rattle.swc_ast.specs.Operators.binary_prim Rattle.swc_ast.specs.Operators.unary_value Rattle.swc_ast.specs.Operators.is_inherited Rattle.swc_ast.specs.Operators.index_of Rattle.swc_ast.specs.Operators.own_property Rattle.swc_ast.specs.Meaning.ask Rattle.swc_ast.specs.Meaning.tell Rattle.swc_ast.specs.Meaning.hand Rattle.swc_ast.specs.Meaning.hand_all Rattle.swc_ast.specs.Meaning.hand_fields Rattle.swc_ast.specs.Meaning.call_handed Rattle.swc_ast.specs.Meaning.replies_to_call Rattle.swc_ast.specs.Meaning.ask_call Rattle.swc_ast.specs.Meaning.read Rattle.swc_ast.specs.Meaning.write Rattle.swc_ast.specs.Meaning.initialise Rattle.swc_ast.specs.Meaning.in_scope Rattle.swc_ast.specs.Meaning.get Rattle.swc_ast.specs.Meaning.put Rattle.swc_ast.specs.Meaning.call_value Rattle.swc_ast.specs.Meaning.make_value Rattle.swc_ast.specs.Meaning.get_at Rattle.swc_ast.specs.Meaning.put_at Rattle.swc_ast.specs.Meaning.all_values Rattle.swc_ast.specs.Meaning.in_turn Rattle.swc_ast.specs.Meaning.run_all Rattle.swc_ast.specs.Meaning.array_items Rattle.swc_ast.specs.Meaning.object_fields Rattle.swc_ast.specs.Meaning.operate Rattle.swc_ast.specs.Meaning.assign Rattle.swc_ast.specs.Meaning.update Rattle.swc_ast.specs.Meaning.in_list_scope Rattle.swc_ast.specs.Meaning.turn Rattle.swc_ast.specs.Meaning.turns Rattle.swc_ast.specs.Meaning.do_turns Rattle.swc_ast.specs.Meaning.copies Rattle.swc_ast.specs.Meaning.at_label Rattle.swc_ast.specs.Meaning.at_break Rattle.swc_ast.specs.Meaning.at_return Rattle.swc_ast.specs.Meaning.selected Rattle.swc_ast.specs.Meaning.switch Rattle.swc_ast.specs.Meaning.try_catch Rattle.swc_ast.specs.Meaning.declare Rattle.swc_ast.specs.Meaning.for_loop Rattle.swc_ast.specs.Meaning.template_text Rattle.swc_ast.specs.Meaning.type_of_name Rattle.swc_ast.specs.Meaning.act Rattle.swc_ast.specs.Meaning.eval Rattle.swc_ast.specs.Meaning.evals Rattle.swc_ast.specs.Call.bind_params Rattle.swc_ast.specs.Call.run_function Rattle.swc_ast.specs.Call.invoke Rattle.swc_ast.specs.Call.call_at Rattle.swc_ast.specs.Run.show_exports Rattle.swc_ast.specs.Run.answers Rattle.swc_ast.specs.Run.run_items Rattle.swc_ast.specs.Run.run_statements Rattle.swc_ast.specs.Run.observe_by
runs = zero

-- values and operators

-- export let r = [1 + 2 * 3, 7 % 4, 2 ** 5, 'a' + null, -'7'];
arithmetic :
    run silent [] (result (array (
    binary Add (number 1) (binary Mul (number 2) (number 3))
    ⊳ binary Mod (number 7) (number 4)
    ⊳ binary Exp (number 2) (number 5)
    ⊳ binary Add (text (codes "a")) (leaf NullLit)
    ⊳ one (Unary Minus) (text (codes "7"))
    ⊳ ε)))
    ≡ answer (Items (Num (pos 7) ▹ Num (pos 3) ▹ Num (pos 32) ▹ TextValue (codes "anull") ▹ Num (negsuc 6) ▹ ∅))
unfolding runs
arithmetic = refl

-- export let r = [null == undefined, NaN === NaN, '1' == 1, 2 < 10];
comparisons :
    run silent [] (result (array (
    binary EqEq (leaf NullLit) (host (codes "undefined"))
    ⊳ binary EqEqEq (host (codes "NaN")) (host (codes "NaN"))
    ⊳ binary EqEq (text (codes "1")) (number 1)
    ⊳ binary Lt (number 2) (number 10)
    ⊳ ε)))
    ≡ answer (Items (Truth true ▹ Truth false ▹ Truth true ▹ Truth true ▹ ∅))
unfolding runs
comparisons = refl

-- export let r = [6 & 3, ~0, 1 << 31, -1 >>> 28];
bits :
    run silent [] (result (array (
    binary BitAnd (number 6) (number 3)
    ⊳ one (Unary Tilde) (number 0)
    ⊳ binary LShift (number 1) (number 31)
    ⊳ binary ZeroFillRShift (one (Unary Minus) (number 1)) (number 28)
    ⊳ ε)))
    ≡ answer (Items (Num (pos 2) ▹ Num (negsuc 0) ▹ Num (negsuc 2147483647) ▹ Num (pos 15) ▹ ∅))
unfolding runs
bits = refl

-- export let r = [0 || 'a', null ?? 2, '' && f(), (1, 0) ? 3 : 4];
short_circuits :
    run silent [] (result (array (
    binary LogicalOr (number 0) (text (codes "a"))
    ⊳ binary NullishCoalescing (leaf NullLit) (number 2)
    ⊳ binary LogicalAnd (text []) (one Call (host (codes "f")))
    ⊳ three Cond (two Seq (number 1) (number 0)) (number 3) (number 4)
    ⊳ ε)))
    ≡ answer (Items (TextValue (codes "a") ▹ Num (pos 2) ▹ TextValue [] ▹ Num (pos 4) ▹ ∅))
unfolding runs
short_circuits = refl

-- export let r = `a${true}b${null}`;
templates :
    run silent [] (result (two (Template ((codes "a", false) ∷ (codes "b", false) ∷ ([], true) ∷ [])) (leaf (BoolLit true)) (leaf NullLit)))
    ≡ answer (TextValue (codes "atruebnull"))
unfolding runs
templates = refl

-- export let r = [[...[1, 2], 3], [4, 5].length];
arrays :
    run silent [] (result (array (
    two (Array (SpreadItem ∷ PlainItem ∷ [])) (array (number 1 ⊳ number 2 ⊳ ε)) (number 3)
    ⊳ one (Dot (codes "length")) (array (number 4 ⊳ number 5 ⊳ ε))
    ⊳ ε)))
    ≡ answer (Items (Items (Num (pos 1) ▹ Num (pos 2) ▹ Num (pos 3) ▹ ∅) ▹ Num (pos 2) ▹ ∅))
unfolding runs
arrays = refl

-- export let r = {a: 1, b: 2, ...{a: 3, c: 4}, ['b']: 5};
objects :
    run silent [] (result (node Object [] (
    property (codes "a") (number 1)
    ⊳ property (codes "b") (number 2)
    ⊳ one SpreadRecord (two Object (property (codes "a") (number 3)) (property (codes "c") (number 4)))
    ⊳ two KeyValue (one ComputedKey (text (codes "b"))) (number 5)
    ⊳ ε)))
    ≡ answer (Record (field (codes "a") (Num (pos 3)) (field (codes "b") (Num (pos 5)) (field (codes "c") (Num (pos 4)) nofield))))
unfolding runs
objects = refl

-- export let r = [{a: 1}.a, {a: 1}['b']];
members :
    run silent [] (result (array (
    one (Dot (codes "a")) (one Object (property (codes "a") (number 1)))
    ⊳ two Index (one Object (property (codes "a") (number 1))) (text (codes "b"))
    ⊳ ε)))
    ≡ answer (Items (Num (pos 1) ▹ Undefined ▹ ∅))
unfolding runs
members = refl

-- what the host sees

-- f(x, typeof y);
operand_order :
    run (given (Gives (Token 1 true) ∷ Gives (Num (pos 3)) ∷ Gives (TextValue (codes "number")) ∷ Gives Undefined ∷ [])) [] (program (
    does (three Call (host (codes "f")) (host (codes "x")) (leaf (TypeOfName (name (codes "y") 1)))) ⊳ ε))
    ≡ sees (
    Reads (codes "f") ∷ Reads (codes "x") ∷ TypeOfEvent (codes "y")
    ∷ Calls (Token 1 true) Undefined (Num (pos 3) ▹ TextValue (codes "number") ▹ ∅) ∷ []) (Finished [] [])
unfolding runs
operand_order = refl

-- g.m(1); (0, g.m)(2);
receivers :
    run
    (given (
    Gives (Token 1 false) ∷ Gives (Token 2 true) ∷ Gives Undefined ∷ Gives (Token 1 false) ∷ Gives (Token 2 true) ∷ Gives Undefined
    ∷ [])) []
    (program (
    does (two (CallDot (codes "m")) (host (codes "g")) (number 1))
    ⊳ does (two Call (two Seq (number 0) (one (Dot (codes "m")) (host (codes "g")))) (number 2))
    ⊳ ε))
    ≡ sees (
    Reads (codes "g") ∷ Gets (Token 1 false) (codes "m") ∷ Calls (Token 2 true) (Token 1 false) (Num (pos 1) ▹ ∅) ∷ Reads (codes "g")
    ∷ Gets (Token 1 false) (codes "m") ∷ Calls (Token 2 true) Undefined (Num (pos 2) ▹ ∅) ∷ []) (Finished [] [])
unfolding runs
receivers = refl

-- export default new f(1).x;
made_objects :
    run (given (Gives (Token 1 true) ∷ Gives (Token 2 false) ∷ Gives (Num (pos 5)) ∷ [])) [] (program (
    one ExportDefaultExpr (one (Dot (codes "x")) (two New (host (codes "f")) (number 1))) ⊳ ε))
    ≡ sees (Reads (codes "f") ∷ Makes (Token 1 true) (Num (pos 1) ▹ ∅) ∷ Gets (Token 2 false) (codes "x") ∷ []) (Finished (
    (codes "default", Datum (Num (pos 5))) ∷ []) [])
unfolding runs
made_objects = refl

-- x = 1; x += 2;
host_writes :
    run (given (Gives Undefined ∷ Gives (Num (pos 4)) ∷ Gives Undefined ∷ [])) [] (program (
    does (assigns Plain (codes "x") 1 (number 1)) ⊳ does (assigns AddAssign (codes "x") 1 (number 2)) ⊳ ε))
    ≡ sees (Writes (codes "x") (Num (pos 1)) ∷ Reads (codes "x") ∷ Writes (codes "x") (Num (pos 6)) ∷ []) (Finished [] [])
unfolding runs
host_writes = refl

-- g.a = true; export default g.b++;
member_writes :
    run (given (Gives (Token 1 false) ∷ Gives Undefined ∷ Gives (Token 1 false) ∷ Gives (Num (pos 7)) ∷ Gives Undefined ∷ [])) [] (program (
    does (two (AssignDot Plain (codes "a")) (host (codes "g")) (leaf (BoolLit true)))
    ⊳ one ExportDefaultExpr (one (UpdateDot PlusPlus false (codes "b")) (host (codes "g")))
    ⊳ ε))
    ≡ sees (
    Reads (codes "g") ∷ Sets (Token 1 false) (codes "a") (Truth true) ∷ Reads (codes "g") ∷ Gets (Token 1 false) (codes "b")
    ∷ Sets (Token 1 false) (codes "b") (Num (pos 8)) ∷ []) (Finished (
    (codes "default", Datum (Num (pos 7))) ∷ []) [])
unfolding runs
member_writes = refl

-- names and functions

-- let a = 1; var b; { let a = 2; b = a; } export {a}; export {b};
block_scopes :
    run silent [] (program (
    declares Let (codes "a") 2 (number 1)
    ⊳ names Var (codes "b") 2
    ⊳ two Block (declares Let (codes "a") 3 (number 2)) (does (assigns Plain (codes "b") 2 (own (codes "a") 3)))
    ⊳ exports (codes "a") 2
    ⊳ exports (codes "b") 2
    ⊳ ε))
    ≡ sees [] (Finished ((codes "a", Datum (Num (pos 1))) ∷ (codes "b", Datum (Num (pos 2))) ∷ []) [])
unfolding runs
block_scopes = refl

-- var a = [b(), a]; function b() { return 1; } export {a};
hoisting :
    run silent [] (program (
    declares Var (codes "a") 2 (array (one Call (own (codes "b") 2) ⊳ own (codes "a") 2 ⊳ ε))
    ⊳ two (FnDecl (name (codes "b") 2)) (leaf Params) (one Body (one Return (number 1)))
    ⊳ exports (codes "a") 2
    ⊳ ε))
    ≡ sees [] (Finished ((codes "a", Datum (Items (Num (pos 1) ▹ Undefined ▹ ∅))) ∷ []) [])
unfolding runs
hoisting = refl

-- function k(a, b = a) { return [a, b]; } export let x = k(1), y = k(1, 2);
defaults :
    run silent [] (program (
    two (FnDecl (name (codes "k") 2))
    (two Params (leaf (Param (name (codes "a") 3))) (one (Param (name (codes "b") 3)) (own (codes "a") 3)))
    (one Body (one Return (array (own (codes "a") 3 ⊳ own (codes "b") 3 ⊳ ε))))
    ⊳ one ExportDecl (two (VarDecl Let) (one (Declarator Let (name (codes "x") 2)) (two Call (own (codes "k") 2) (number 1))) (one
    (Declarator Let (name (codes "y") 2))
    (three Call (own (codes "k") 2) (number 1) (number 2))))
    ⊳ ε))
    ≡ sees [] (Finished (
    (codes "x", Datum (Items (Num (pos 1) ▹ Num (pos 1) ▹ ∅))) ∷ (codes "y", Datum (Items (Num (pos 1) ▹ Num (pos 2) ▹ ∅))) ∷ []) [])
unfolding runs
defaults = refl

-- export let r = (function k(n) { return n ? n + k(n - 1) : 0; })(3);
own_name :
    run silent [] (result (two Call
    (two (Fn (Some (name (codes "k") 3))) (one Params (leaf (Param (name (codes "n") 4)))) (one Body (one Return (three Cond
    (own (codes "n") 4)
    (binary Add (own (codes "n") 4) (two Call (own (codes "k") 3) (binary Sub (own (codes "n") 4) (number 1))))
    (number 0)))))
    (number 3)))
    ≡ answer (Num (pos 6))
unfolding runs
own_name = refl

-- export let r = {v: 1, m() { return (() => this.v)(); }}.m();
receiver_in_arrow :
    run silent [] (result (one (CallDot (codes "m")) (two Object (property (codes "v") (number 1)) (three Method
    (leaf (PlainKey (NameKey (codes "m"))))
    (leaf Params)
    (one Body (one Return (one Call (two Arrow (leaf Params) (one (Dot (codes "v")) (leaf This))))))))))
    ≡ answer (Num (pos 1))
unfolding runs
receiver_in_arrow = refl

-- statements

-- let p, q; for (let i = 0; i < 2; i++) { if (i) q = () => i; else p = () => i; } export let x = p(), y = q();
closures_of_turns :
    run silent [] (program (
    two (VarDecl Let) (leaf (Declarator Let (name (codes "p") 2))) (leaf (Declarator Let (name (codes "q") 2)))
    ⊳ node For [] (
    declares Let (codes "i") 3 (number 0)
    ⊳ binary Lt (own (codes "i") 3) (number 2)
    ⊳ leaf (Update PlusPlus false (name (codes "i") 3))
    ⊳ one Block (three If (own (codes "i") 3) (does (assigns Plain (codes "q") 2 (two Arrow (leaf Params) (own (codes "i") 3)))) (does (assigns Plain
    (codes "p") 2
    (two Arrow (leaf Params) (own (codes "i") 3)))))
    ⊳ ε)
    ⊳ one ExportDecl (two (VarDecl Let) (one (Declarator Let (name (codes "x") 2)) (one Call (own (codes "p") 2))) (one
    (Declarator Let (name (codes "y") 2))
    (one Call (own (codes "q") 2))))
    ⊳ ε))
    ≡ sees [] (Finished ((codes "x", Datum (Num (pos 0))) ∷ (codes "y", Datum (Num (pos 1))) ∷ []) [])
unfolding runs
closures_of_turns = refl

-- let n = 0; while (true) { n++; if (n < 3) continue; break; } do n += 2; while (n < 6); export {n};
loops :
    run silent [] (program (
    declares Let (codes "n") 2 (number 0)
    ⊳ two While (leaf (BoolLit true)) (three Block (does (leaf (Update PlusPlus false (name (codes "n") 2))))
    (two If (binary Lt (own (codes "n") 2) (number 3)) (leaf (Continue None)))
    (leaf (Break None)))
    ⊳ two DoWhile (does (assigns AddAssign (codes "n") 2 (number 2))) (binary Lt (own (codes "n") 2) (number 6))
    ⊳ exports (codes "n") 2
    ⊳ ε))
    ≡ sees [] (Finished ((codes "n", Datum (Num (pos 7))) ∷ []) [])
unfolding runs
loops = refl

-- let n = 0; a: for (let i = 0; i < 2; i++) { for (;;) { n++; continue a; } } export {n};
labels :
    run silent [] (program (
    declares Let (codes "n") 2 (number 0)
    ⊳ one (Labeled (codes "a")) (node For [] (
    declares Let (codes "i") 3 (number 0)
    ⊳ binary Lt (own (codes "i") 3) (number 2)
    ⊳ leaf (Update PlusPlus false (name (codes "i") 3))
    ⊳ one Block (node For [] (
    leaf Absent
    ⊳ leaf Absent
    ⊳ leaf Absent
    ⊳ two Block (does (leaf (Update PlusPlus false (name (codes "n") 2)))) (leaf (Continue (Some (codes "a"))))
    ⊳ ε))
    ⊳ ε))
    ⊳ exports (codes "n") 2
    ⊳ ε))
    ≡ sees [] (Finished ((codes "n", Datum (Num (pos 2))) ∷ []) [])
unfolding runs
labels = refl

-- let t = ''; switch (2) { case 1: t += 'a'; default: t += 'b'; case 3: t += 'c'; break; case 4: t += 'd'; } export {t};
switches :
    run silent [] (program (
    declares Let (codes "t") 2 (text [])
    ⊳ node (Switch (false ∷ true ∷ false ∷ false ∷ [])) [] (
    number 2
    ⊳ number 1
    ⊳ one CaseBody (does (assigns AddAssign (codes "t") 2 (text (codes "a"))))
    ⊳ leaf Absent
    ⊳ one CaseBody (does (assigns AddAssign (codes "t") 2 (text (codes "b"))))
    ⊳ number 3
    ⊳ two CaseBody (does (assigns AddAssign (codes "t") 2 (text (codes "c")))) (leaf (Break None))
    ⊳ number 4
    ⊳ one CaseBody (does (assigns AddAssign (codes "t") 2 (text (codes "d"))))
    ⊳ ε)
    ⊳ exports (codes "t") 2
    ⊳ ε))
    ≡ sees [] (Finished ((codes "t", Datum (TextValue (codes "bc"))) ∷ []) [])
unfolding runs
switches = refl

-- let t; try { null.x; } catch (e) { t = e; } finally { t = [t]; } export {t};
exceptions :
    run silent [] (program (
    names Let (codes "t") 2
    ⊳ three (Try (Some (Some (name (codes "e") 4)))) (one Block (does (one (Dot (codes "x")) (leaf NullLit))))
    (one Block (does (assigns Plain (codes "t") 2 (own (codes "e") 4))))
    (one Block (does (assigns Plain (codes "t") 2 (array (own (codes "t") 2 ⊳ ε)))))
    ⊳ exports (codes "t") 2
    ⊳ ε))
    ≡ sees [] (Finished ((codes "t", Datum (Items (TypeError ▹ ∅))) ∷ []) [])
unfolding runs
exceptions = refl

-- export function k() { try { return 1; } finally { return 2; } }
final_blocks :
    run silent (later (codes "k") ∅ ∷ []) (program (
    one ExportDecl (two (FnDecl (name (codes "k") 2)) (leaf Params) (one Body (three (Try None) (one Block (one Return (number 1)))
    (leaf Absent)
    (one Block (one Return (number 2))))))
    ⊳ ε))
    ≡ sees [] (Finished ((codes "k", OwnFunction) ∷ []) (Answered (Num (pos 2)) ((codes "k", OwnFunction) ∷ []) ∷ []))
unfolding runs
final_blocks = refl

-- f; g;
uncaught :
    run (given (Throws (Num (pos 7)) ∷ [])) [] (program (does (host (codes "f")) ⊳ does (host (codes "g")) ⊳ ε))
    ≡ sees (Reads (codes "f") ∷ []) (Threw (Num (pos 7)))
unfolding runs
uncaught = refl

-- functions that are handed to the host

-- let n = 0; f(function (d) { n += d; return n; }); export {n};
called_back :
    run (given (Gives (Token 1 true) ∷ Back 0 Undefined (Num (pos 3) ▹ ∅) ∷ Back 0 Undefined (Num (pos 4) ▹ ∅) ∷ Gives Undefined ∷ [])) [] (program (
    declares Let (codes "n") 2 (number 0)
    ⊳ does (two Call (host (codes "f")) (two (Fn None) (one Params (leaf (Param (name (codes "d") 3)))) (two Body
    (does (assigns AddAssign (codes "n") 2 (own (codes "d") 3)))
    (one Return (own (codes "n") 2)))))
    ⊳ exports (codes "n") 2
    ⊳ ε))
    ≡ sees (Reads (codes "f") ∷ Calls (Token 1 true) Undefined (Own 0 ▹ ∅) ∷ Returns (Num (pos 3)) ∷ Returns (Num (pos 7)) ∷ []) (
    Finished ((codes "n", Datum (Num (pos 7))) ∷ []) [])
unfolding runs
called_back = refl

-- let n = 0; f([() => { n += 1; throw n; }], n); export {n}; where the host calls the arrow during the call, and again later
handlers :
    run (given (Gives (Token 1 true) ∷ Back 0 Undefined ∅ ∷ Throws (Num (pos 1)) ∷ [])) (handler 0 ∅ ∷ []) (program (
    declares Let (codes "n") 2 (number 0)
    ⊳ three (Try (Some None)) (one Block (does (three Call (host (codes "f")) (array (two Arrow (leaf Params) (two Body
    (does (assigns AddAssign (codes "n") 2 (number 1)))
    (one Throw (own (codes "n") 2))) ⊳ ε))
    (own (codes "n") 2))))
    (leaf Block)
    (leaf Absent)
    ⊳ exports (codes "n") 2
    ⊳ ε))
    ≡ sees (Reads (codes "f") ∷ Calls (Token 1 true) Undefined (Items (Own 0 ▹ ∅) ▹ Num (pos 0) ▹ ∅) ∷ Fails (Num (pos 1)) ∷ []) (
    Finished ((codes "n", Datum (Num (pos 1))) ∷ []) (Failed (Num (pos 2)) ((codes "n", Datum (Num (pos 2))) ∷ []) ∷ []))
unfolding runs
handlers = refl

-- var n = 0; f(() => { n += 1; return n; }); as a script, where the host calls the arrow later, twice
handlers_of_scripts :
    run (given (Gives (Token 1 true) ∷ Gives Undefined ∷ [])) (handler 0 ∅ ∷ handler 0 ∅ ∷ []) (script (
    declares Var (codes "n") 2 (number 0)
    ⊳ does (two Call (host (codes "f")) (two Arrow (leaf Params) (two Body
    (does (assigns AddAssign (codes "n") 2 (number 1)))
    (one Return (own (codes "n") 2)))))
    ⊳ ε))
    ≡ sees (Reads (codes "f") ∷ Calls (Token 1 true) Undefined (Own 0 ▹ ∅) ∷ []) (Finished [] (Answered (Num (pos 1)) [] ∷ Answered (Num (pos 2)) [] ∷ []))
unfolding runs
handlers_of_scripts = refl

-- members that values inherit from the host

-- export let r = [1, 2].map(x => x + 1);
mapped :
    run (given (Back 0 Undefined (Num (pos 1) ▹ ∅) ∷ Back 0 Undefined (Num (pos 2) ▹ ∅) ∷ Gives (Items (Num (pos 2) ▹ Num (pos 3) ▹ ∅)) ∷ [])) [] (result (
    two (CallDot (codes "map")) (array (number 1 ⊳ number 2 ⊳ ε)) (two Arrow (one Params (leaf (Param (name (codes "x") 3)))) (binary Add (own (codes "x") 3) (number 1)))))
    ≡ sees (Calls (Token 7 true) (Items (Num (pos 1) ▹ Num (pos 2) ▹ ∅)) (Own 0 ▹ ∅) ∷ Returns (Num (pos 2)) ∷ Returns (Num (pos 3)) ∷ []) (
    Finished ((codes "r", Datum (Items (Num (pos 2) ▹ Num (pos 3) ▹ ∅))) ∷ []) [])
unfolding runs
mapped = refl

-- export let r = [typeof 5 .toFixed, 'abc'.none, [5].length];
inherited :
    run silent [] (result (array (
    one (Unary TypeOfOperator) (one (Dot (codes "toFixed")) (number 5))
    ⊳ one (Dot (codes "none")) (text (codes "abc"))
    ⊳ one (Dot (codes "length")) (array (number 5 ⊳ ε))
    ⊳ ε)))
    ≡ answer (Items (TextValue (codes "function") ▹ Undefined ▹ Num (pos 1) ▹ ∅))
unfolding runs
inherited = refl

-- [1].push(2);
changed : run silent [] (program (does (two (CallDot (codes "push")) (array (number 1 ⊳ ε)) (number 2)) ⊳ ε)) ≡ LeftCore
unfolding runs
changed = refl

-- modules and scripts

-- import {a} from 'm'; let b = a; export function k() { return [b, a]; } export {a as c};
imports :
    run (offering (Num (pos 1)) (Num (pos 2) ∷ []) []) (later (codes "k") ∅ ∷ []) (program (
    one (Import (codes "m")) (leaf (ImportNamed (name (codes "a") 2) None))
    ⊳ declares Let (codes "b") 2 (own (codes "a") 2)
    ⊳ one ExportDecl (two (FnDecl (name (codes "k") 2)) (leaf Params) (one Body (one Return (array (
    own (codes "b") 2 ⊳ own (codes "a") 2 ⊳ ε)))))
    ⊳ one ExportNamed (leaf (ExportSpecifier (name (codes "a") 2) (Some (codes "c"))))
    ⊳ ε))
    ≡ sees (Load (codes "m") ∷ []) (Finished ((codes "k", OwnFunction) ∷ (codes "c", Datum (Num (pos 1))) ∷ []) (
    Answered (Items (Num (pos 1) ▹ Num (pos 2) ▹ ∅)) ((codes "k", OwnFunction) ∷ (codes "c", Datum (Num (pos 2))) ∷ []) ∷ []))
unfolding runs
imports = refl

-- let n = 0; export default function (d) { n += d; return n; } export {n};
later_calls :
    run silent (later (codes "default") (Num (pos 3) ▹ ∅) ∷ later (codes "default") (Num (pos 4) ▹ ∅) ∷ []) (program (
    declares Let (codes "n") 2 (number 0)
    ⊳ two (ExportDefaultFn None) (one Params (leaf (Param (name (codes "d") 3)))) (two Body
    (does (assigns AddAssign (codes "n") 2 (own (codes "d") 3)))
    (one Return (own (codes "n") 2)))
    ⊳ exports (codes "n") 2
    ⊳ ε))
    ≡ sees [] (Finished ((codes "default", OwnFunction) ∷ (codes "n", Datum (Num (pos 0))) ∷ []) (
    Answered (Num (pos 3)) ((codes "default", OwnFunction) ∷ (codes "n", Datum (Num (pos 3))) ∷ [])
    ∷ Answered (Num (pos 7)) ((codes "default", OwnFunction) ∷ (codes "n", Datum (Num (pos 7))) ∷ []) ∷ []))
unfolding runs
later_calls = refl

-- var a = x; throw a;
statements_of_scripts :
    run (given (Gives (Num (pos 7)) ∷ [])) [] (script (declares Var (codes "a") 2 (host (codes "x")) ⊳ one Throw (own (codes "a") 2) ⊳ ε))
    ≡ sees (Reads (codes "x") ∷ []) (Threw (Num (pos 7)))
unfolding runs
statements_of_scripts = refl

-- runs that leave the core, and one that is cut

-- a; let a = 1;
uninitialised : run silent [] (program (does (own (codes "a") 2) ⊳ declares Let (codes "a") 2 (number 1) ⊳ ε)) ≡ LeftCore
unfolding runs
uninitialised = refl

-- eval('1');
direct_eval : run silent [] (program (does (one (CallEval (name (codes "eval") 1)) (text (codes "1"))) ⊳ ε)) ≡ LeftCore
unfolding runs
direct_eval = refl

-- for (;;) ;
endless : run silent [] (program (node For [] (leaf Absent ⊳ leaf Absent ⊳ leaf Absent ⊳ leaf Empty ⊳ ε) ⊳ ε)) ≡ Unfinished
unfolding runs
endless = refl
