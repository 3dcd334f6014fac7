-- A tree from which no such jump escapes ends by none.
use Rattle.std.proofs.Common.{◌≡◌, ℕ, zero, suc, Bool, true, false, List, ◌∷◌, Some, None, refl}
use Rattle.std.proofs.lemmas.Bool.{false≢true}
use Rattle.swc_ast.specs.declared.Span.{Span}
use Rattle.swc_ast.specs.declared.UnaryOp.TheVariants.{Delete}
use Rattle.swc_ast.specs.Tree.{Text, Label, NumLit, StrLit, BoolLit, NullLit, This, Read, Template, Array, Object, SpreadRecord, KeyValue, Shorthand, Method, PlainKey, ComputedKey, Fn, Arrow, Body, Unary, TypeOfName, Binary, Cond, Seq, Dot, Index, Call, New, CallEval, CallDot, CallIndex, Assign, AssignDot, AssignIndex, Update, UpdateDot, UpdateIndex, Block, Empty, Throw, ExprStmt, Return, If, While, DoWhile, For, Absent, Labeled, Break, Continue, Switch, CaseBody, Try, VarDecl, Declarator, FnDecl, ExportDecl, Import, ExportNamed, ExportDefaultFn, ExportDefaultExpr, Tree, node, Forest, ε, ◌⊳◌}
use Rattle.swc_ast.specs.Value.{Value, Undefined, Values, nofield, Broken, Continued, Returned, Thrown, Outcome, Done, Jumps, Outside, Cut, Context, Meaning}
use Rattle.swc_ast.specs.Operators.{truthy, to_text}
use Rattle.swc_ast.specs.Meaning.{gives, is_unresolved, read, get, Caller, get_at, run_all, operator_of, first_tree, act, eval, evals}
use Rattle.swc_ast.specs.Call.{Evaluator, at_call, call_at}
use Rattle.branch_rules.specs.Jumps.{Kinds, in_loop, in_switch, escapes_behind, escapes, some_escape}
use Rattle.branch_proofs.proofs.Leaving.{Stays, Keeps}
use Rattle.branch_proofs.proofs.Relabelled.{gives_follow, Covered, covered_itself, covered_label}
use Rattle.branch_proofs.proofs.JumpParts.{or_left, or_right, keeps_then, keeps_gives, keeps_leaves, keeps_thrown, keeps_core, keeps_if, read_keeps, write_keeps, initialise_keeps, get_keeps, put_keeps, get_at_keeps, put_at_keeps, call_keeps, make_keeps, this_keeps, zero_keeps, one_keeps, two_keep, three_keep, some_keep, more_keep, values_keep, turn_keeps, all_keep, items_keep, fields_keep, field_keeps, template_keeps, operate_keeps, assign_keeps, update_keeps, type_keeps, at_label_stays, try_keeps, declare_keeps, if_keeps, return_keeps, list_scope_keeps, turns_keep, do_turns_keep, for_keeps, switch_keeps, Each}

-- a call ends by no such jump

call_stays : (g : Kinds) (o : Outcome Value) → Stays g (at_call o)
call_stays g (Done v s) = tt
call_stays g (Jumps (Thrown v) s) = refl
call_stays g (Jumps (Broken l) s) = tt
call_stays g (Jumps (Continued l) s) = tt
call_stays g (Jumps (Returned v) s) = tt
call_stays g Outside = tt
call_stays g Cut = tt

pub calls_keep : (g : Kinds) (does : Evaluator) (d : ℕ) (f this : Value) (args : Values) → Keeps g (call_at does d f this args)
unfolding call_at
calls_keep g does zero f this args = record { by = λ s. tt }
calls_keep g does (suc d) f this args = record { by = λ s. call_stays g _ }

-- which labels pass on the jumps of all their children, and no other
abbrev pub passes : Label → Bool
passes (Break l) = false
passes (Continue l) = false
passes While = false
passes DoWhile = false
passes For = false
passes (Switch ds) = false
passes (Fn o) = false
passes Arrow = false
passes (FnDecl x) = false
passes (ExportDefaultFn o) = false
passes Method = false
passes _ = true

module _ (mark n : ℕ) (call : Caller) (kept : (g : Kinds) (f this : Value) (args : Values) → Keeps g (call f this args)) where
  act_keeps : (l : Label) (ss : List Span) (cs : Forest) (g : Kinds) (ms : List Meaning) → Each g ms → passes l ≡ true → (c : Context) → Keeps g (act mark n call l ss cs ms c)
  unfolding act
  act_keeps (NumLit z) ss cs g ms hs e c = zero_keeps g ms (λ d. keeps_gives g _) c
  act_keeps (StrLit t) ss cs g ms hs e c = zero_keeps g ms (λ d. keeps_gives g _) c
  act_keeps (BoolLit b) ss cs g ms hs e c = zero_keeps g ms (λ d. keeps_gives g _) c
  act_keeps NullLit ss cs g ms hs e c = zero_keeps g ms (λ d. keeps_gives g _) c
  act_keeps This ss cs g ms hs e c = zero_keeps g ms (λ d. this_keeps g d.this) c
  act_keeps (Read x) ss cs g ms hs e c = zero_keeps g ms (read_keeps g mark x) c
  act_keeps (Template qs) ss cs g ms hs e c = keeps_then g (template_keeps g qs ms hs c) (λ t. keeps_gives g _)
  act_keeps (Array ks) ss cs g ms hs e c = keeps_then g (items_keep g ks ms hs c) (λ vs. keeps_gives g _)
  act_keeps SpreadRecord ss cs g ms hs e c = one_keeps g ms hs (λ m hm. hm) c
  act_keeps Object ss cs g ms hs e c = keeps_then g (fields_keep g ms nofield hs c) (λ fs. keeps_gives g _)
  act_keeps KeyValue ss cs g ms hs e c = two_keep g ms hs (λ k m hk hm d. keeps_then g (hk d) (λ w. keeps_then g (keeps_core g (to_text w)) (λ t. keeps_then g (hm d) (λ v. field_keeps g t v)))) c
  act_keeps (Shorthand x) ss cs g ms hs e c = zero_keeps g ms (λ d. keeps_then g (read_keeps g mark x d) (λ v. field_keeps g x.text v)) c
  act_keeps (PlainKey k) ss cs g ms hs e c = zero_keeps g ms (λ d. keeps_gives g _) c
  act_keeps ComputedKey ss cs g ms hs e c = one_keeps g ms hs (λ m hm. hm) c
  act_keeps Body ss cs g ms hs e c = all_keep g ms hs c
  act_keeps (Unary Delete) ss cs g ms hs e c = keeps_leaves g
  act_keeps (Unary op) ss cs g ms hs e c = one_keeps g ms hs (λ m hm d. keeps_then g (hm d) (λ v. keeps_core g _)) c
  act_keeps (TypeOfName x) ss cs g ms hs e c = zero_keeps g ms (type_keeps g mark x) c
  act_keeps (Binary op) ss cs g ms hs e c = two_keep g ms hs (λ a b ha hb d. keeps_then g (ha d) (λ v. operate_keeps g op v (b d) (hb d))) c
  act_keeps Cond ss cs g ms hs e c = three_keep g ms hs (λ t a b ht ha hb d. keeps_then g (ht d) (λ v. keeps_if g (truthy v) (ha d) (hb d))) c
  act_keeps Seq ss cs g ms hs e c = turn_keeps g ms hs c
  act_keeps (Dot k) ss cs g ms hs e c = one_keeps g ms hs (λ o ho d. keeps_then g (ho d) (λ v. get_keeps g v k)) c
  act_keeps Index ss cs g ms hs e c = two_keep g ms hs (λ o k ho hk d. keeps_then g (ho d) (λ v. keeps_then g (hk d) (λ w. get_at_keeps g v w))) c
  act_keeps Call ss cs g ms hs e c = some_keep g ms hs (λ f ks hf hks d. keeps_then g (hf d) (λ v. keeps_then g (values_keep g ks hks d) (λ vs. call_keeps g call (kept g) v Undefined vs))) c
  act_keeps (CallEval x) ss cs g ms hs e c = keeps_if g (is_unresolved mark x) (keeps_leaves g) (keeps_then g (read_keeps g mark x c) (λ v. keeps_then g (values_keep g ms hs c) (λ vs. call_keeps g call (kept g) v Undefined vs)))
  act_keeps New ss cs g ms hs e c = some_keep g ms hs (λ f ks hf hks d. keeps_then g (hf d) (λ v. keeps_then g (values_keep g ks hks d) (λ vs. make_keeps g call (kept g) v vs))) c
  act_keeps (CallDot k) ss cs g ms hs e c = some_keep g ms hs (λ o ks ho hks d. keeps_then g (ho d) (λ v. keeps_then g (get_keeps g v k) (λ f. keeps_then g (values_keep g ks hks d) (λ vs. call_keeps g call (kept g) f v vs)))) c
  act_keeps CallIndex ss cs g ms hs e c = more_keep g ms hs (λ o k ks ho hk hks d. keeps_then g (ho d) (λ v. keeps_then g (hk d) (λ w. keeps_then g (get_at_keeps g v w) (λ f. keeps_then g (values_keep g ks hks d) (λ vs. call_keeps g call (kept g) f v vs))))) c
  act_keeps (Assign op x) ss cs g ms hs e c = one_keeps g ms hs (λ m hm d. assign_keeps g (operator_of op) (read mark x d) (m d) _ (read_keeps g mark x d) (hm d) (λ v. write_keeps g mark x v d)) c
  act_keeps (AssignDot op k) ss cs g ms hs e c = two_keep g ms hs (λ o m ho hm d. keeps_then g (ho d) (λ v. assign_keeps g (operator_of op) (get v k) (m d) _ (get_keeps g v k) (hm d) (λ w. put_keeps g v k w))) c
  act_keeps (AssignIndex op) ss cs g ms hs e c = three_keep g ms hs (λ o k m ho hk hm d. keeps_then g (ho d) (λ v. keeps_then g (hk d) (λ w. assign_keeps g (operator_of op) (get_at v w) (m d) _ (get_at_keeps g v w) (hm d) (λ x. put_at_keeps g v w x)))) c
  act_keeps (Update op prefix x) ss cs g ms hs e c = zero_keeps g ms (λ d. update_keeps g op prefix (read mark x d) _ (read_keeps g mark x d) (λ v. write_keeps g mark x v d)) c
  act_keeps (UpdateDot op prefix k) ss cs g ms hs e c = one_keeps g ms hs (λ o ho d. keeps_then g (ho d) (λ v. update_keeps g op prefix (get v k) _ (get_keeps g v k) (λ w. put_keeps g v k w))) c
  act_keeps (UpdateIndex op prefix) ss cs g ms hs e c = two_keep g ms hs (λ o k ho hk d. keeps_then g (ho d) (λ v. keeps_then g (hk d) (λ w. update_keeps g op prefix (get_at v w) _ (get_at_keeps g v w) (λ x. put_at_keeps g v w x)))) c
  act_keeps Block ss cs g ms hs e c = list_scope_keeps g cs (run_all ms) (all_keep g ms hs) c
  act_keeps Empty ss cs g ms hs e c = zero_keeps g ms (λ d. keeps_gives g _) c
  act_keeps Throw ss cs g ms hs e c = one_keeps g ms hs (λ m hm d. keeps_then g (hm d) (λ v. keeps_thrown g v)) c
  act_keeps ExprStmt ss cs g ms hs e c = one_keeps g ms hs (λ m hm d. keeps_then g (hm d) (λ v. keeps_gives g Undefined)) c
  act_keeps Return ss cs g ms hs e c = return_keeps g ms hs c
  act_keeps If ss cs g ms hs e c = if_keeps g ms hs c
  act_keeps Absent ss cs g ms hs e c = zero_keeps g ms (λ d. keeps_gives g _) c
  act_keeps (Labeled l) ss cs g ms hs e c = one_keeps g ms hs (λ m hm d. record { by = λ s. at_label_stays g l _ ((hm _).by s) }) c
  act_keeps CaseBody ss cs g ms hs e c = all_keep g ms hs c
  act_keeps (Try p) ss cs g ms hs e c = three_keep g ms hs (λ b h f hb hh hf d. try_keeps g p b h f hb hh hf d) c
  act_keeps (VarDecl kind) ss cs g ms hs e c = all_keep g ms hs c
  act_keeps (Declarator kind x) ss cs g ms hs e c = declare_keeps g kind x ms hs c
  act_keeps ExportDecl ss cs g ms hs e c = all_keep g ms hs c
  act_keeps (Import src) ss cs g ms hs e c = keeps_gives g Undefined
  act_keeps ExportNamed ss cs g ms hs e c = keeps_gives g Undefined
  act_keeps ExportDefaultExpr ss cs g ms hs e c = one_keeps g ms hs (λ m hm d. keeps_then g (hm d) (λ v. initialise_keeps g _ v d)) c
  act_keeps (Break l) ss cs g ms hs e c = absurd (false≢true e)
  act_keeps (Continue l) ss cs g ms hs e c = absurd (false≢true e)
  act_keeps While ss cs g ms hs e c = absurd (false≢true e)
  act_keeps DoWhile ss cs g ms hs e c = absurd (false≢true e)
  act_keeps For ss cs g ms hs e c = absurd (false≢true e)
  act_keeps (Switch ds) ss cs g ms hs e c = absurd (false≢true e)
  act_keeps (Fn o) ss cs g ms hs e c = absurd (false≢true e)
  act_keeps Arrow ss cs g ms hs e c = absurd (false≢true e)
  act_keeps (FnDecl x) ss cs g ms hs e c = absurd (false≢true e)
  act_keeps (ExportDefaultFn o) ss cs g ms hs e c = absurd (false≢true e)
  act_keeps Method ss cs g ms hs e c = absurd (false≢true e)
  act_keeps _ ss cs g ms hs e c = keeps_leaves g

  mutual
    unfolding eval evals act

    pub behind_keeps : (t : Tree) (near : List Text) (g : Kinds) → escapes_behind near g t ≡ false → (c : Context) → Covered near g.inside c.labels → Keeps g (eval mark n call t c)
    behind_keeps (node (Break None) ss ε) near g e c h = record { by = λ s. e }
    behind_keeps (node (Break None) ss (t ⊳ ts)) near g e c h = keeps_leaves g
    behind_keeps (node (Break (Some l)) ss ε) near g e c h = record { by = λ s. refl }
    behind_keeps (node (Break (Some l)) ss (t ⊳ ts)) near g e c h = keeps_leaves g
    behind_keeps (node (Continue None) ss ε) near g e c h = record { by = λ s. e }
    behind_keeps (node (Continue None) ss (t ⊳ ts)) near g e c h = keeps_leaves g
    behind_keeps (node (Continue (Some l)) ss ε) near g e c h = record { by = λ s. e }
    behind_keeps (node (Continue (Some l)) ss (t ⊳ ts)) near g e c h = keeps_leaves g
    behind_keeps (node (Fn o) ss cs) near g e c h = keeps_gives g _
    behind_keeps (node Arrow ss cs) near g e c h = keeps_gives g _
    behind_keeps (node (FnDecl x) ss cs) near g e c h = keeps_gives g Undefined
    behind_keeps (node (ExportDefaultFn o) ss cs) near g e c h = keeps_gives g Undefined
    behind_keeps (node Method ss (k ⊳ p ⊳ b ⊳ ε)) near g e c h = keeps_then g (behind_keeps k g.inside g e c (covered_itself g.inside c.labels)) (λ w. keeps_then g (keeps_core g (to_text w)) (λ t. field_keeps g t _))
    behind_keeps (node Method ss _) near g e c h = keeps_leaves g
    behind_keeps (node While ss (t ⊳ b ⊳ ε)) near g e c h = turns_keep g near n (eval mark n call t) (eval mark n call b) (λ d. gives Undefined) gives (λ k. behind_keeps t g.inside g (or_left _ _ e) k (covered_itself g.inside k.labels)) (λ d. behind_keeps b near (in_loop near g) (or_right _ _ e) d (covered_itself near d.labels)) (λ d. keeps_gives g d) gives_follow (λ d. keeps_gives g Undefined) c.labels h c
    behind_keeps (node While ss _) near g e c h = keeps_leaves g
    behind_keeps (node DoWhile ss (b ⊳ t ⊳ ε)) near g e c h = do_turns_keep g near n (eval mark n call b) (eval mark n call t) (λ d. behind_keeps b near (in_loop near g) (or_left _ _ e) d (covered_itself near d.labels)) (λ k. behind_keeps t g.inside g (or_right _ _ e) k (covered_itself g.inside k.labels)) c h
    behind_keeps (node DoWhile ss _) near g e c h = keeps_leaves g
    behind_keeps (node For ss (i ⊳ t ⊳ u ⊳ b ⊳ ε)) near g e c h = for_keeps g near n (first_tree (i ⊳ t ⊳ u ⊳ b ⊳ ε)) (eval mark n call i) (eval mark n call t) (eval mark n call u) (eval mark n call b) (λ k. behind_keeps i g.inside g (or_left _ _ e) k (covered_itself g.inside k.labels)) (λ k. behind_keeps t g.inside g (or_left _ _ (or_right _ _ e)) k (covered_itself g.inside k.labels)) (λ k. behind_keeps u g.inside g (or_left (escapes g u) _ (or_right (escapes g t) _ (or_right (escapes g i) _ e))) k (covered_itself g.inside k.labels)) (λ d. behind_keeps b near (in_loop near g) (or_right (escapes g u) _ (or_right (escapes g t) _ (or_right (escapes g i) _ e))) d (covered_itself near d.labels)) c h
    behind_keeps (node For ss _) near g e c h = keeps_leaves g
    behind_keeps (node (Labeled l) ss (t ⊳ ε)) near g e c h = record { by = λ s. at_label_stays g l _ ((behind_keeps t (l ∷ near) g e (record c { labels = l ∷ c.labels }) (covered_label l h)).by s) }
    behind_keeps (node (Labeled l) ss _) near g e c h = keeps_leaves g
    behind_keeps (node (Switch ds) ss ε) near g e c h = keeps_leaves g
    behind_keeps (node (Switch ds) ss (d ⊳ cs)) near g e c h = switch_keeps g (d ⊳ cs) ds (evals mark n call cs) (eval mark n call d) (λ k. behind_keeps d g.inside g (or_left _ _ e) k (covered_itself g.inside k.labels)) (trees_keep cs (in_switch g) (or_right _ _ e)) c
    behind_keeps (node l ss cs) near g e c h = act_keeps l ss cs g (evals mark n call cs) (trees_keep cs g e) refl c

    pub trees_keep : (ts : Forest) (g : Kinds) → some_escape g ts ≡ false → Each g (evals mark n call ts)
    trees_keep ε g e = tt
    trees_keep (t ⊳ ts) g e = ((λ k. behind_keeps t g.inside g (or_left _ _ e) k (covered_itself g.inside k.labels)), trees_keep ts g (or_right _ _ e))

  pub tree_keeps : (t : Tree) (g : Kinds) → escapes g t ≡ false → (c : Context) → Keeps g (eval mark n call t c)
  tree_keeps t g e c = behind_keeps t g.inside g e c (covered_itself g.inside c.labels)
