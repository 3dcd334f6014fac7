-- Runs in the world with answers that the definitions compute: for each program, written above it, what is seen of it.
use Rattle.std.specs.Prelude.{ℕ, zero, pos, ◌≡◌, refl, true, false, if◌then◌else◌, List, [], ◌∷◌, Option, Some, None, bytes_eq, codes}
use Rattle.swc_ast.specs.declared.VarDeclKind.TheVariants.{Let}
use Rattle.swc_ast.specs.Tree.{Text, Name, NameKey, Label, NumLit, StrLit, Read, Object, KeyValue, Shorthand, PlainKey, Arrow, Params, TypeOfName, Dot, Index, Call, ExprStmt, VarDecl, Declarator, Module, Import, ImportNamed, ImportStar, ExportDecl, Tree, node, Forest, ε, ◌⊳◌}
use Rattle.swc_ast.specs.Value.{Value, Undefined, Num, Text as TextValue, Record, Token, ∅, nofield, field, Load, Reads, Gets, Calls, Event, Reply, Gives}
use Rattle.swc_ast.specs.Run.{World, Observed, Sees, LeftCore, Ending, Finished, Datum}
use Rattle.swc_pass.specs.Given.{Answers, observe_given}
use Rattle.swc_pass.specs.Inlined.{inlined}
use Rattle.swc_pass.specs.Constants.{Constants, unloaded, constants, items_of}

-- trees: unresolved names have the context 1, those of the module's own scope the context 2

abbrev name : Text → ℕ → Name
name t k = record { text = t; context = k }

abbrev leaf : Label → Tree
leaf l = node l [] ε

abbrev host : Text → Tree
host t = leaf (Read (name t 1))

abbrev own : Text → Tree
own t = leaf (Read (name t 2))

abbrev number : ℕ → Tree
number n = leaf (NumLit (pos n))

abbrev dot : Tree → Text → Tree
dot o k = node (Dot k) [] (o ⊳ ε)

abbrev does : Tree → Tree
does t = node ExprStmt [] (t ⊳ ε)

abbrev program : Forest → Tree
program items = node Module [] items

-- export let r = t;
abbrev result : Tree → Tree
result t = node ExportDecl [] (node (VarDecl Let) [] (node (Declarator Let (name (codes "r") 2)) [] (t ⊳ ε) ⊳ ε) ⊳ ε)

-- what is given

-- the number of a name
abbrev one : Text → ℕ → Text → Option ℕ
one x i y = if bytes_eq x y then Some i else None

abbrev two : Text → Text → Text → Option ℕ
two x y z = if bytes_eq x z then Some 0 else one y 1 z

abbrev globals : (Text → Option ℕ) → List Tree → Answers
globals g vs = inlined (record { values = vs; global = g; expression = λ t. None; type_text = λ x. None; env = λ k. None }) 1

-- runs

abbrev replying : List Reply → World
replying rs = record { replies = rs; natives = λ n k. Undefined; imports = λ m x. record { first = Undefined; later = [] }; namespaces = λ m. Token 0 false }

abbrev run : Answers → List Reply → Tree → Observed
run a rs t = observe_given a 1 9 9 (replying rs) [] t

abbrev sees : List Event → Ending → Observed
sees es e = Sees (record { events = es; ending = e })

abbrev ends_with : List Event → Value → Observed
ends_with es v = sees es (Finished ((codes "r", Datum v) ∷ []) [])

unfoldable runs : ℕ
unfolding Rattle.swc_pass.specs.Given.act_given Rattle.swc_pass.specs.Given.eval_inside Rattle.swc_pass.specs.Given.evals_inside Rattle.swc_pass.specs.Given.eval_within Rattle.swc_ast.specs.Value.and_then Rattle.swc_ast.specs.Operators.units Rattle.swc_ast.specs.Operators.binary_prim Rattle.swc_ast.specs.Operators.unary_value Rattle.swc_ast.specs.Operators.is_inherited Rattle.swc_ast.specs.Operators.index_of Rattle.swc_ast.specs.Operators.own_property Rattle.swc_ast.specs.Meaning.ask Rattle.swc_ast.specs.Meaning.tell Rattle.swc_ast.specs.Meaning.hand Rattle.swc_ast.specs.Meaning.hand_all Rattle.swc_ast.specs.Meaning.hand_fields Rattle.swc_ast.specs.Meaning.call_handed Rattle.swc_ast.specs.Meaning.replies_to_call Rattle.swc_ast.specs.Meaning.ask_call Rattle.swc_ast.specs.Meaning.read Rattle.swc_ast.specs.Meaning.write Rattle.swc_ast.specs.Meaning.initialise Rattle.swc_ast.specs.Meaning.in_scope Rattle.swc_ast.specs.Meaning.get Rattle.swc_ast.specs.Meaning.put Rattle.swc_ast.specs.Meaning.call_value Rattle.swc_ast.specs.Meaning.make_value Rattle.swc_ast.specs.Meaning.get_at Rattle.swc_ast.specs.Meaning.put_at Rattle.swc_ast.specs.Meaning.all_values Rattle.swc_ast.specs.Meaning.in_turn Rattle.swc_ast.specs.Meaning.run_all Rattle.swc_ast.specs.Meaning.array_items Rattle.swc_ast.specs.Meaning.object_fields Rattle.swc_ast.specs.Meaning.operate Rattle.swc_ast.specs.Meaning.assign Rattle.swc_ast.specs.Meaning.update Rattle.swc_ast.specs.Meaning.in_list_scope Rattle.swc_ast.specs.Meaning.at_return Rattle.swc_ast.specs.Meaning.declare Rattle.swc_ast.specs.Meaning.type_of_name Rattle.swc_ast.specs.Meaning.act Rattle.swc_ast.specs.Meaning.eval Rattle.swc_ast.specs.Meaning.evals Rattle.swc_ast.specs.Call.bind_params Rattle.swc_ast.specs.Call.run_function Rattle.swc_ast.specs.Call.invoke Rattle.swc_ast.specs.Call.call_at Rattle.swc_ast.specs.Run.show_exports Rattle.swc_ast.specs.Run.answers Rattle.swc_ast.specs.Run.run_items Rattle.swc_ast.specs.Run.run_statements Rattle.swc_ast.specs.Run.observe_by
runs = zero

-- x = a.b: x(); the call hands on no receiver
no_receiver :
    run (globals (one (codes "x") 0) (dot (host (codes "a")) (codes "b") ∷ [])) (Gives (Token 1 false) ∷ Gives (Token 2 true) ∷ Gives (Num (pos 7)) ∷ [])
    (program (result (node Call [] (host (codes "x") ⊳ ε)) ⊳ ε))
    ≡ ends_with (Reads (codes "a") ∷ Gets (Token 1 false) (codes "b") ∷ Calls (Token 2 true) Undefined ∅ ∷ []) (Num (pos 7))
unfolding runs
no_receiver = refl

-- x = 1: export let r = {x};
shorthand :
    run (globals (one (codes "x") 0) (number 1 ∷ [])) [] (program (result (node Object [] (leaf (Shorthand (name (codes "x") 1)) ⊳ ε)) ⊳ ε))
    ≡ ends_with [] (Record (field (codes "x") (Num (pos 1)) nofield))
unfolding runs
shorthand = refl

-- x = 1: let x = 2; export let r = x; a name that is bound is none that is given
bound :
    run (globals (one (codes "x") 0) (number 1 ∷ [])) [] (program (node (VarDecl Let) [] (node (Declarator Let (name (codes "x") 2)) [] (number 2 ⊳ ε) ⊳ ε) ⊳ result (own (codes "x")) ⊳ ε))
    ≡ ends_with [] (Num (pos 2))
unfolding runs
bound = refl

-- x = y, y = 3: export let r = x;
value_in_value :
    run (globals (two (codes "x") (codes "y")) (host (codes "y") ∷ number 3 ∷ [])) [] (program (result (host (codes "x")) ⊳ ε))
    ≡ ends_with [] (Num (pos 3))
unfolding runs
value_in_value = refl

-- x = y, y = x: x;
in_itself_leaves :
    run (globals (two (codes "x") (codes "y")) (host (codes "y") ∷ host (codes "x") ∷ [])) [] (program (does (host (codes "x")) ⊳ ε)) ≡ LeftCore
unfolding runs
in_itself_leaves = refl

-- typeofs x = object, global y = z: export let r = [typeof x] .. typeof y reads z
types :
    run (inlined (record { values = host (codes "z") ∷ []; global = one (codes "y") 0; expression = λ t. None; type_text = λ x. Some (codes "object"); env = λ k. None }) 1) (Gives (Num (pos 4)) ∷ [])
    (program (result (node Object [] (node KeyValue [] (leaf (PlainKey (NameKey (codes "a"))) ⊳ leaf (TypeOfName (name (codes "x") 1)) ⊳ ε) ⊳ node KeyValue [] (leaf (PlainKey (NameKey (codes "b"))) ⊳ leaf (TypeOfName (name (codes "y") 1)) ⊳ ε) ⊳ ε)) ⊳ ε))
    ≡ ends_with (Reads (codes "z") ∷ []) (Record (field (codes "a") (TextValue (codes "object")) (field (codes "b") (TextValue (codes "number")) nofield)))
unfolding runs
types = refl

-- env K = () => y, global y = 1: export let r = process.env['K'](); the function reads the host's y, wherever it is called
plain_function :
    run (inlined (record { values = number 1 ∷ []; global = one (codes "y") 0; expression = λ t. None; type_text = λ x. None; env = λ k. Some (node Arrow [] (leaf Params ⊳ host (codes "y") ⊳ ε)) }) 1) (Gives (Num (pos 5)) ∷ [])
    (program (result (node Call [] (node Index [] (dot (host (codes "process")) (codes "env") ⊳ leaf (StrLit (codes "K")) ⊳ ε) ⊳ ε)) ⊳ ε))
    ≡ ends_with (Reads (codes "y") ∷ []) (Num (pos 5))
unfolding runs
plain_function = refl

-- modules env: A = true
abbrev env : Constants
env = record { is_given = bytes_eq (codes "env"); export = λ m x. if bytes_eq x (codes "A") then Some (number 1) else None }

abbrev run_constants : Tree → Observed
run_constants t = run (constants env (items_of t)) [] (unloaded env t)

-- import {A as b} from 'env'; export let r = b;
constant_name :
    run_constants (program (node (Import (codes "env")) [] (leaf (ImportNamed (name (codes "b") 2) (Some (codes "A"))) ⊳ ε) ⊳ result (own (codes "b")) ⊳ ε))
    ≡ ends_with [] (Num (pos 1))
unfolding runs
constant_name = refl

-- import * as n from 'env'; import 'm'; export let r = n.A;
constant_member :
    run_constants (program (node (Import (codes "env")) [] (leaf (ImportStar (name (codes "n") 2)) ⊳ ε) ⊳ node (Import (codes "m")) [] ε ⊳ result (dot (own (codes "n")) (codes "A")) ⊳ ε))
    ≡ ends_with (Load (codes "m") ∷ []) (Num (pos 1))
unfolding runs
constant_member = refl
