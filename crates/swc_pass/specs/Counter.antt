-- Why an import of a given module binds nothing in the world with answers: with the import left in, this run ends inside the core ..
use Rattle.std.specs.Prelude.{ℕ, zero, pos, ◌≡◌, refl, true, false, [], ◌∷◌, Some, bytes_eq, codes}
use Rattle.swc_ast.specs.declared.AssignOp.TheVariants.{AddAssign}
use Rattle.swc_ast.specs.Tree.{Name, NumLit, Read, Assign, Call, ExprStmt, Module, Import, ImportNamed, Tree, node, ε, ◌⊳◌}
use Rattle.swc_ast.specs.Value.{Undefined, Num, Token, ∅, Load, Reads, Calls, Gives, Throws}
use Rattle.swc_ast.specs.Run.{World, Sees, LeftCore, Threw, observe}
use Rattle.swc_pass.specs.Given.{observe_given}
use Rattle.swc_pass.specs.Constants.{Constants, constants, items_of}

abbrev b : Name
b = record { text = codes "b"; context = 2 }

-- b += g();
abbrev adds : Tree
adds = node ExprStmt [] (node (Assign AddAssign b) [] (node Call [] (node (Read (record { text = codes "g"; context = 1 })) [] ε ⊳ ε) ⊳ ε) ⊳ ε)

abbrev before : Tree
before = node Module [] (node (Import (codes "env")) [] (node (ImportNamed b (Some (codes "A"))) [] ε ⊳ ε) ⊳ adds ⊳ ε)

abbrev env : Constants
env = record { is_given = bytes_eq (codes "env"); export = λ m x. Some (node (NumLit (pos 1)) [] ε) }

-- g throws
abbrev world : World
world = record { replies = Gives (Token 1 true) ∷ Throws (Num (pos 7)) ∷ []; natives = λ n k. Undefined; imports = λ m x. record { first = Num (pos 3); later = [] }; namespaces = λ m. Token 0 false }

unfoldable runs : ℕ
unfolding Rattle.swc_pass.specs.Given.act_given Rattle.swc_pass.specs.Given.eval_inside Rattle.swc_pass.specs.Given.evals_inside Rattle.swc_pass.specs.Given.eval_within Rattle.swc_ast.specs.Value.and_then Rattle.swc_ast.specs.Operators.binary_prim Rattle.swc_ast.specs.Meaning.ask Rattle.swc_ast.specs.Meaning.tell Rattle.swc_ast.specs.Meaning.hand Rattle.swc_ast.specs.Meaning.hand_all Rattle.swc_ast.specs.Meaning.hand_fields Rattle.swc_ast.specs.Meaning.call_handed Rattle.swc_ast.specs.Meaning.replies_to_call Rattle.swc_ast.specs.Meaning.ask_call Rattle.swc_ast.specs.Meaning.read Rattle.swc_ast.specs.Meaning.write Rattle.swc_ast.specs.Meaning.in_scope Rattle.swc_ast.specs.Meaning.call_value Rattle.swc_ast.specs.Meaning.all_values Rattle.swc_ast.specs.Meaning.run_all Rattle.swc_ast.specs.Meaning.operate Rattle.swc_ast.specs.Meaning.assign Rattle.swc_ast.specs.Meaning.act Rattle.swc_ast.specs.Meaning.eval Rattle.swc_ast.specs.Meaning.evals Rattle.swc_ast.specs.Call.call_at Rattle.swc_ast.specs.Run.show_exports Rattle.swc_ast.specs.Run.answers Rattle.swc_ast.specs.Run.run_items Rattle.swc_ast.specs.Run.observe_by
runs = zero

left_in : observe_given (constants env (items_of before)) 1 9 9 world [] before ≡ Sees (record { events = Load (codes "env") ∷ Reads (codes "g") ∷ Calls (Token 1 true) Undefined ∅ ∷ []; ending = Threw (Num (pos 7)) })
unfolding runs
left_in = refl

-- .. but the answer's leaves it, as `b` is bound by none
answered : observe 1 9 9 world [] (node Module [] (adds ⊳ ε)) ≡ LeftCore
unfolding runs
answered = refl
