-- A statement gives no value.
use Rattle.std.proofs.Common.{◌≡◌, ℕ, zero, suc, Bool, true, false, if◌then◌else◌, List, [], ◌∷◌, Option, Some, None, refl, bytes_eq}
use Rattle.std.proofs.lemmas.Bool.{false≢true, and_parts}
use Rattle.swc_ast.specs.Tree.{Name, Block, Empty, Throw, ExprStmt, Return, If, While, DoWhile, For, Labeled, Break, Continue, Switch, Try, VarDecl, FnDecl, Tree, node, ε, ◌⊳◌}
use Rattle.swc_ast.specs.Value.{Value, Undefined, Jump, Broken, Continued, Returned, Thrown, State, Outcome, Done, Jumps, Outside, Cut, Run, Context, Meaning}
use Rattle.swc_ast.specs.Operators.{truthy}
use Rattle.swc_ast.specs.Meaning.{◌>>=◌, gives, Caller, in_scope, run_all, in_list_scope, turn, turns, do_turns, at_label, at_break, handled, resume, finally, try_catch, selected, switch, for_loop, copies, copied_names, first_tree, plain, shape_return, act, eval, evals}
use Rattle.swc_utils.specs.Holds.{Is, Where, Yields}
use Rattle.swc_utils.proofs.Ends.{any, yields_then, yields_gives, yields_leaves, yields_if}
use Rattle.branch_rules.specs.Statements.{gives_nothing}

-- it is done with no value
abbrev pub Nothing : Run Value → Type 0
Nothing m = Yields (Is Undefined) m

pub run_all_nothing : (ms : List Meaning) (c : Context) → Nothing (run_all ms c)
unfolding run_all
run_all_nothing [] c = yields_gives Undefined refl
run_all_nothing (m ∷ ms) c = yields_then (any (m c)) (λ v _. run_all_nothing ms c)

jump_nothing : (j : Jump) → Nothing (λ s. Jumps j s)
jump_nothing j = record { by = λ s. tt }

cut_nothing : Nothing (λ s. Cut)
cut_nothing = record { by = λ s. tt }

turns_nothing : (n : ℕ) (test body : Meaning) (next : Context → Run Context) (update : Meaning) (c : Context) → Nothing (turns n test body next update c)
unfolding turns
turns_nothing zero test body next update c = yields_then (any (test (plain c))) (λ v _. yields_if (truthy v) cut_nothing (yields_gives Undefined refl))
turns_nothing (suc n) test body next update c = yields_then (any (test (plain c))) (λ v _. yields_if (truthy v) (yields_then (any (λ s. turn c.labels (body (plain c) s))) (λ b _. yields_if b (yields_then (any (next c)) (λ d _. yields_then (any (update (plain d))) (λ w _. turns_nothing n test body next update d))) (yields_gives Undefined refl))) (yields_gives Undefined refl))

do_turns_nothing : (n : ℕ) (body test : Meaning) (c : Context) → Nothing (do_turns n body test c)
unfolding do_turns
do_turns_nothing zero body test c = cut_nothing
do_turns_nothing (suc n) body test c = yields_then (any (λ s. turn c.labels (body (plain c) s))) (λ b _. yields_if b (yields_then (any (test (plain c))) (λ v _. yields_if (truthy v) (do_turns_nothing n body test c) (yields_gives Undefined refl))) (yields_gives Undefined refl))

label_if : (b : Bool) (m : List ℕ) (s : State) → Where (Is Undefined) (if b then Done Undefined s else Jumps (Broken (Some m)) s)
label_if true m s = refl
label_if false m s = tt

at_label_nothing : (l : List ℕ) (o : Outcome Value) → Where (Is Undefined) o → Where (Is Undefined) (at_label l o)
unfolding at_label
at_label_nothing l (Done v s) h = h
at_label_nothing l (Jumps (Broken (Some m)) s) h = label_if (bytes_eq l m) m s
at_label_nothing l (Jumps (Broken None) s) h = tt
at_label_nothing l (Jumps (Continued m) s) h = tt
at_label_nothing l (Jumps (Returned v) s) h = tt
at_label_nothing l (Jumps (Thrown v) s) h = tt
at_label_nothing l Outside h = tt
at_label_nothing l Cut h = tt

at_break_nothing : (o : Outcome Value) → Where (Is Undefined) o → Where (Is Undefined) (at_break o)
unfolding at_break
at_break_nothing (Done v s) h = h
at_break_nothing (Jumps (Broken None) s) h = refl
at_break_nothing (Jumps (Broken (Some m)) s) h = tt
at_break_nothing (Jumps (Continued m) s) h = tt
at_break_nothing (Jumps (Returned v) s) h = tt
at_break_nothing (Jumps (Thrown v) s) h = tt
at_break_nothing Outside h = tt
at_break_nothing Cut h = tt

handled_nothing : (p : Option (Option Name)) (m : Meaning) (c : Context) (o : Outcome Value) → ((q : Option Name) → p ≡ Some q → (d : Context) → Nothing (m d)) → Where (Is Undefined) o → Where (Is Undefined) (handled p m c o)
unfolding in_scope
handled_nothing None m c o h i = i
handled_nothing (Some q) m c (Jumps (Thrown v) s) h i = (h q refl _).by _
handled_nothing (Some q) m c (Jumps (Broken l) s) h i = tt
handled_nothing (Some q) m c (Jumps (Continued l) s) h i = tt
handled_nothing (Some q) m c (Jumps (Returned v) s) h i = tt
handled_nothing (Some q) m c (Done v s) h i = i
handled_nothing (Some q) m c Outside h i = tt
handled_nothing (Some q) m c Cut h i = tt

resumed : (v : Value) (s : State) (p : Outcome Value) → v ≡ Undefined → Where (Is Undefined) (resume (Done v s) p)
resumed v s (Done w t) e = e
resumed v s (Jumps j t) e = tt
resumed v s Outside e = tt
resumed v s Cut e = tt

jump_resumed : (j : Jump) (s : State) (p : Outcome Value) → Where (Is Undefined) (resume (Jumps j s) p)
jump_resumed j s (Done w t) = tt
jump_resumed j s (Jumps k t) = tt
jump_resumed j s Outside = tt
jump_resumed j s Cut = tt

pub finally_nothing : (m : Meaning) (c : Context) (o : Outcome Value) → Where (Is Undefined) o → Where (Is Undefined) (finally m c o)
finally_nothing m c (Done v s) h = resumed v s (m c s) h
finally_nothing m c (Jumps j s) h = jump_resumed j s (m c s)
finally_nothing m c Outside h = tt
finally_nothing m c Cut h = tt

return_nothing : (ms : List Meaning) (c : Context) → Nothing (shape_return ms c)
return_nothing [] c = jump_nothing (Returned Undefined)
return_nothing (m ∷ []) c = yields_then (any (m c)) (λ v _. jump_nothing (Returned v))
return_nothing (m ∷ k ∷ ms) c = yields_leaves

discard_nothing : (m : Run Value) → Nothing (m >>= λ v. gives Undefined)
discard_nothing m = yields_then (any m) (λ v _. yields_gives Undefined refl)

for_nothing : (n : ℕ) (head : Tree) (i t u b : Meaning) (c : Context) → Nothing (for_loop n head i t u b c)
unfolding for_loop in_scope
for_nothing n head i t u b c = record { by = λ s. (inner _).by _ }
  where
    inner : (d : Context) → Nothing (i (plain d) >>= λ v. copies (copied_names head) d >>= λ d1. turns n t b (copies (copied_names head)) u d1)
    inner d = yields_then (any (i (plain d))) (λ v _. yields_then (any (copies (copied_names head) d)) (λ d1 _. turns_nothing n t b (copies (copied_names head)) u d1))

module _ (mark n : ℕ) (call : Caller) where
  mutual
    unfolding eval act evals in_list_scope in_scope switch try_catch

    pub statement_nothing : (t : Tree) → gives_nothing t ≡ true → (c : Context) → Nothing (eval mark n call t c)
    statement_nothing (node Block ss cs) h c = record { by = λ s. (run_all_nothing (evals mark n call cs) _).by _ }
    statement_nothing (node Empty ss ε) h c = yields_gives Undefined refl
    statement_nothing (node Empty ss (t ⊳ ts)) h c = yields_leaves
    statement_nothing (node Throw ss ε) h c = yields_leaves
    statement_nothing (node Throw ss (t ⊳ ε)) h c = yields_then (any (eval mark n call t c)) (λ v _. jump_nothing (Thrown v))
    statement_nothing (node Throw ss (t ⊳ u ⊳ ts)) h c = yields_leaves
    statement_nothing (node ExprStmt ss ε) h c = yields_leaves
    statement_nothing (node ExprStmt ss (t ⊳ ε)) h c = discard_nothing (eval mark n call t c)
    statement_nothing (node ExprStmt ss (t ⊳ u ⊳ ts)) h c = yields_leaves
    statement_nothing (node Return ss cs) h c = return_nothing (evals mark n call cs) c
    statement_nothing (node While ss ε) h c = yields_leaves
    statement_nothing (node While ss (t ⊳ ε)) h c = yields_leaves
    statement_nothing (node While ss (t ⊳ b ⊳ ε)) h c = turns_nothing n (eval mark n call t) (eval mark n call b) gives (λ d. gives Undefined) c
    statement_nothing (node While ss (t ⊳ b ⊳ u ⊳ ts)) h c = yields_leaves
    statement_nothing (node DoWhile ss ε) h c = yields_leaves
    statement_nothing (node DoWhile ss (b ⊳ ε)) h c = yields_leaves
    statement_nothing (node DoWhile ss (b ⊳ t ⊳ ε)) h c = do_turns_nothing n (eval mark n call b) (eval mark n call t) c
    statement_nothing (node DoWhile ss (b ⊳ t ⊳ u ⊳ ts)) h c = yields_leaves
    statement_nothing (node For ss (i ⊳ t ⊳ u ⊳ b ⊳ ε)) h c = for_nothing n (first_tree (i ⊳ t ⊳ u ⊳ b ⊳ ε)) (eval mark n call i) (eval mark n call t) (eval mark n call u) (eval mark n call b) c
    statement_nothing (node For ss _) h c = yields_leaves
    statement_nothing (node (Break l) ss ε) h c = jump_nothing (Broken l)
    statement_nothing (node (Break l) ss (t ⊳ ts)) h c = yields_leaves
    statement_nothing (node (Continue l) ss ε) h c = jump_nothing (Continued l)
    statement_nothing (node (Continue l) ss (t ⊳ ts)) h c = yields_leaves
    statement_nothing (node (Switch ds) ss ε) h c = yields_leaves
    statement_nothing (node (Switch ds) ss (t ⊳ ts)) h c = yields_then (any (eval mark n call t c)) (λ v _. record { by = λ s. at_break_nothing _ ((yields_then {Q = Is Undefined} (any (selected _ _ v _)) (λ bodies _. run_all_nothing bodies _)).by _) })
    statement_nothing (node (VarDecl kind) ss cs) h c = run_all_nothing (evals mark n call cs) c
    statement_nothing (node (FnDecl x) ss cs) h c = yields_gives Undefined refl
    statement_nothing (node If ss (t ⊳ ε)) h c = yields_leaves
    statement_nothing (node If ss (t ⊳ a ⊳ ε)) h c = let p = and_parts (gives_nothing a) _ h in yields_then (any (eval mark n call t c)) (λ v _. yields_if (truthy v) (statement_nothing a p.0 c) (yields_gives Undefined refl))
    statement_nothing (node If ss (t ⊳ a ⊳ b ⊳ ε)) h c = let p = and_parts (gives_nothing a) _ h in let q = and_parts (gives_nothing b) _ p.1 in yields_then (any (eval mark n call t c)) (λ v _. yields_if (truthy v) (statement_nothing a p.0 c) (statement_nothing b q.0 c))
    statement_nothing (node If ss (t ⊳ a ⊳ b ⊳ u ⊳ ts)) h c = yields_leaves
    statement_nothing (node (Labeled l) ss ε) h c = yields_leaves
    statement_nothing (node (Labeled l) ss (t ⊳ ε)) h c = let p = and_parts (gives_nothing t) _ h in record { by = λ s. at_label_nothing l _ ((statement_nothing t p.0 _).by s) }
    statement_nothing (node (Labeled l) ss (t ⊳ u ⊳ ts)) h c = yields_leaves
    statement_nothing (node (Try None) ss (b ⊳ k ⊳ f ⊳ ε)) h c = record { by = λ s. finally_nothing (eval mark n call f) c _ ((statement_nothing b h c).by s) }
    statement_nothing (node (Try None) ss (b ⊳ _)) h c = yields_leaves
    statement_nothing (node (Try (Some p)) ss (b ⊳ k ⊳ f ⊳ ε)) h c = let q = and_parts (gives_nothing b) _ h in record { by = λ s. finally_nothing (eval mark n call f) c _ (handled_nothing (Some p) (eval mark n call k) c _ (λ _ _ d. statement_nothing k q.1 d) ((statement_nothing b q.0 c).by s)) }
    statement_nothing (node (Try (Some p)) ss (b ⊳ k ⊳ _)) h c = yields_leaves
    statement_nothing _ h c = absurd (false≢true h)
