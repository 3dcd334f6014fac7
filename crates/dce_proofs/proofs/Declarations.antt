-- Declarations of which declarators go: each first value becomes a declaration of its own, and statements one statement.
use Rattle.std.proofs.Common.{◌≡◌, ℕ, Bool, true, false, ◌||◌, List, [], ◌∷◌, ◌++◌, Some, None, refl, sym, ap, ap₂, subst, ◌∙◌, cond, append-nil}
use mathlib.Core.Path.{fun_ext}
use Rattle.std.proofs.lemmas.Bool.{true≢false, false≢true}
use Rattle.swc_ast.specs.declared.Span.{Span}
use Rattle.swc_ast.specs.declared.VarDeclKind.{VarDeclKind}
use Rattle.swc_ast.specs.declared.VarDeclKind.TheVariants.{Var, Let, Const}
use Rattle.swc_ast.specs.Tree.{Name, ExprStmt, VarDecl, Declarator, Tree, node, Forest, ε, ◌⊳◌}
use Rattle.swc_ast.specs.Value.{Value, Undefined, State, Outcome, Done, Jumps, Outside, Cut, Run, and_then, Context}
use Rattle.swc_ast.specs.Scope.{Lexical, has_name, found, is_found, vars, vars_all, declarator_name, declarator_names, as_lexicals}
use Rattle.swc_ast.specs.Meaning.{gives, Caller, in_turn, run_all, eval, evals, act}
use Rattle.swc_ast.specs.Call.{call_at, each_of}
use Rattle.swc_utils.specs.Pure.{pure}
use Rattle.swc_utils.specs.Holds.{Any, Quiet}
use Rattle.swc_utils.proofs.Pure.{pure_is_still}
use Rattle.meaning_proofs.specs.Names.{Names}
use Rattle.meaning_proofs.specs.Exact.{Exact, Idle, Idled, idled, idle_left, idle_cut, Off, Trimmed, same_value, same_jump, left_core, was_cut, run_at}
use Rattle.meaning_proofs.specs.Roles.{DeclaresNone, holds_function, SameNames, Fits, changed}
use Rattle.meaning_proofs.proofs.Names.{other_name, same_name_turned}
use Rattle.meaning_proofs.proofs.Finds.{found_lexical, has_append}
use Rattle.meaning_proofs.proofs.Laws.{exact_path, first}
use Rattle.meaning_proofs.proofs.Making.{rebuilt}
use Rattle.meaning_proofs.proofs.Drops.{Unread, declare_only, declare_fits, other_counted, other_than, lexical_or_not}
use Rattle.meaning_proofs.proofs.Idles.{idle_unset}
use Rattle.meaning_proofs.proofs.Slack.{declare_slack, slack_fits, idle_slack, slack_declares}
use Rattle.meaning_proofs.specs.Rewrites.{Rewrites, nil, cons}
use Rattle.meaning_proofs.proofs.Quiet.{Nothing}
use Rattle.meaning_proofs.proofs.Trees.{evals_are}
use Rattle.dce_proofs.proofs.Walked.{Declarators, no_declarator, declarator, unset_goes, early_goes, value_goes, value_left, statements, gone, names, Goes, no_more_of, fewer_of}
use Rattle.dce_rules.specs.Shakes.{as_statement}
use Rattle.dce_proofs.proofs.Names.{goes, slackened}

-- a declaration in a declaration, for a first value
abbrev pub alone : VarDeclKind → List Span → Name → Forest → Tree
alone k ss x rs = node (VarDecl k) [] (node (Declarator k x) ss rs ⊳ ε)

alone_then : (o : Outcome Value) (m : Run Value) → and_then o (λ v. m) ≡ and_then (and_then o (λ v. gives Undefined)) (λ v. m)
unfolding and_then
alone_then (Done v s) m = refl
alone_then (Jumps j s) m = refl
alone_then Outside m = refl
alone_then Cut m = refl

alone_runs : (mark n : ℕ) (call : Caller) (k : VarDeclKind) (ss : List Span) (x : Name) (rs : Forest) (c : Context) (s : State) (m : Run Value) → and_then (eval mark n call (node (Declarator k x) ss rs) c s) (λ v. m) ≡ and_then (eval mark n call (alone k ss x rs) c s) (λ v. m)
unfolding eval act evals run_all
alone_runs mark n call k ss x rs c s m = alone_then (eval mark n call (node (Declarator k x) ss rs) c s) m

alone_vars : (k : VarDeclKind) (ss : List Span) (x : Name) (rs : Forest) → vars (node (Declarator k x) ss rs) ≡ vars (alone k ss x rs)
alone_vars Var ss x rs = refl
alone_vars Let ss x rs = refl
alone_vars Const ss x rs = refl

abbrev is_var : VarDeclKind → Bool
is_var Var = true
is_var _ = false

all_gone : {G K : Name → Bool} (k : VarDeclKind) (x : Name) → is_var k ≡ false → Goes G K k x → gone G K x ≡ true
all_gone k x v (no_more_of e) = e
all_gone Var x v (fewer_of e) = absurd (true≢false v)

module _ {G K U : Name → Bool} {mark : ℕ} {drops : Bool} where
  -- the declarators, those with first values that go by themselves
  unfoldable pub parted : {k : VarDeclKind} {b : Bool} {cs us : Forest} → Declarators G K U mark drops k b cs us → Forest
  parted no_declarator = ε
  parted (declarator {t} w h) = t ⊳ parted h
  parted (unset_goes k x {ss = ss} d h) = alone k ss x ε ⊳ parted h
  parted (value_goes k x {ss = ss} {r} d w p h) = alone k ss x (r ⊳ ε) ⊳ parted h
  parted (early_goes k x {ss = ss} {r} d p h) = alone k ss x (r ⊳ ε) ⊳ parted h
  parted (value_left k x {ss = ss} {r} d w h) = alone k ss x (r ⊳ ε) ⊳ parted h

  -- what they do

  module _ (n : ℕ) (call : Caller) where
    parted_runs : {k : VarDeclKind} {b : Bool} {cs us : Forest} (h : Declarators G K U mark drops k b cs us) (c : Context) (s : State) → run_all (each_of (eval mark n call) cs) c s ≡ run_all (each_of (eval mark n call) (parted h)) c s
    unfolding run_all parted
    parted_runs no_declarator c s = refl
    parted_runs (declarator {t} w h) c s = ap (λ (m : Run Value). and_then (eval mark n call t c s) (λ v. m)) (fun_ext (λ s. parted_runs h c s))
    parted_runs (unset_goes k x {ss = ss} d h) c s = ap (λ (m : Run Value). and_then (eval mark n call (node (Declarator k x) ss ε) c s) (λ v. m)) (fun_ext (λ s. parted_runs h c s)) ∙ alone_runs mark n call k ss x ε c s _
    parted_runs (value_goes k x {ss = ss} {r} d w p h) c s = ap (λ (m : Run Value). and_then (eval mark n call (node (Declarator k x) ss (r ⊳ ε)) c s) (λ v. m)) (fun_ext (λ s. parted_runs h c s)) ∙ alone_runs mark n call k ss x (r ⊳ ε) c s _
    parted_runs (early_goes k x {ss = ss} {r} d p h) c s = ap (λ (m : Run Value). and_then (eval mark n call (node (Declarator k x) ss (r ⊳ ε)) c s) (λ v. m)) (fun_ext (λ s. parted_runs h c s)) ∙ alone_runs mark n call k ss x (r ⊳ ε) c s _
    parted_runs (value_left k x {ss = ss} {r} d w h) c s = ap (λ (m : Run Value). and_then (eval mark n call (node (Declarator k x) ss (r ⊳ ε)) c s) (λ v. m)) (fun_ext (λ s. parted_runs h c s)) ∙ alone_runs mark n call k ss x (r ⊳ ε) c s _

  pub parted_exact : (k : VarDeclKind) (ss : List Span) {b : Bool} {cs us : Forest} (h : Declarators G K U mark drops k b cs us) → Exact mark (node (VarDecl k) ss cs) (node (VarDecl k) ss (parted h))
  unfolding eval act
  parted_exact k ss {cs = cs} h = exact_path mark (λ n call c s. ap (λ ms. run_all ms c s) (evals_are mark n call cs) ∙ parted_runs n call h c s ∙ sym (ap (λ ms. run_all ms c s) (evals_are mark n call (parted h))))

  -- what they declare

  parted_vars : {k : VarDeclKind} {b : Bool} {cs us : Forest} (h : Declarators G K U mark drops k b cs us) → vars_all cs ≡ vars_all (parted h)
  unfolding parted
  parted_vars no_declarator = refl
  parted_vars (declarator {t} w h) = ap (λ xs. vars t ++ xs) (parted_vars h)
  parted_vars (unset_goes k x {ss = ss} d h) = ap₂ ◌++◌ (alone_vars k ss x ε) (parted_vars h)
  parted_vars (value_goes k x {ss = ss} {r} d w p h) = ap₂ ◌++◌ (alone_vars k ss x (r ⊳ ε)) (parted_vars h)
  parted_vars (early_goes k x {ss = ss} {r} d p h) = ap₂ ◌++◌ (alone_vars k ss x (r ⊳ ε)) (parted_vars h)
  parted_vars (value_left k x {ss = ss} {r} d w h) = ap₂ ◌++◌ (alone_vars k ss x (r ⊳ ε)) (parted_vars h)

  parted_names : {k : VarDeclKind} {b : Bool} {cs us : Forest} (h : Declarators G K U mark drops k b cs us) → is_var k ≡ false → (y : Name) → gone G K y ≡ false → has_name y (declarator_names cs) ≡ has_name y (declarator_names (parted h))
  unfolding parted
  parted_names no_declarator v y e = refl
  parted_names (declarator {t = node l ss cs} {ts = ts} w h) v y e = has_append y (declarator_name l) (declarator_names ts) ∙ ap (λ b. has_name y (declarator_name l) || b) (parted_names h v y e) ∙ sym (has_append y (declarator_name l) (declarator_names (parted h)))
  parted_names (unset_goes k x {ts = ts} d h) v y e = ap (λ b. b || has_name y (declarator_names ts)) (other_name (gone G K) y x e (all_gone k x v d)) ∙ parted_names h v y e
  parted_names (value_goes k x {ts = ts} d w p h) v y e = ap (λ b. b || has_name y (declarator_names ts)) (other_name (gone G K) y x e (all_gone k x v d)) ∙ parted_names h v y e
  parted_names (early_goes k x {ts = ts} d p h) v y e = ap (λ b. b || has_name y (declarator_names ts)) (other_name (gone G K) y x e (all_gone k x v d)) ∙ parted_names h v y e
  parted_names (value_left k x {ts = ts} d w h) v y e = ap (λ b. b || has_name y (declarator_names ts)) (other_name (gone G K) y x e (all_gone k x v d)) ∙ parted_names h v y e

found_has : (y : Name) (w : Bool) (xs zs : List Name) → has_name y xs ≡ has_name y zs → found y (as_lexicals w xs) ≡ found y (as_lexicals w zs)
found_has y w xs zs e = found_lexical y w xs ∙ ap (λ (b : Bool). cond b (Some (Lexical w)) None) e ∙ sym (found_lexical y w zs)

is_found_lexical : (y : Name) (w : Bool) (xs : List Name) → is_found y (as_lexicals w xs) ≡ has_name y xs
is_found_lexical y w [] = refl
is_found_lexical y w (x ∷ xs) = ap₂ ◌||◌ (same_name_turned x y) (is_found_lexical y w xs)

is_found_has : (y : Name) (w : Bool) (xs zs : List Name) → has_name y xs ≡ has_name y zs → is_found y (as_lexicals w xs ++ []) ≡ is_found y (as_lexicals w zs ++ [])
is_found_has y w xs zs e = ap (is_found y) (append-nil (as_lexicals w xs)) ∙ is_found_lexical y w xs ∙ e ∙ sym (is_found_lexical y w zs) ∙ sym (ap (is_found y) (append-nil (as_lexicals w zs)))

-- declarations of one kind, with the same names off those that are dropped
declarations_fit : {N : Names} (k : VarDeclKind) (ss rs : List Span) (cs us : Forest) → ((y : Name) → N.guarded y ≡ false) → vars_all cs ≡ vars_all us → (is_var k ≡ false → (y : Name) → N.dropped y ≡ false → has_name y (declarator_names cs) ≡ has_name y (declarator_names us)) → SameNames N (node (VarDecl k) ss cs) (node (VarDecl k) rs us)
declarations_fit Var ss rs cs us f e h = record { guarded_vars = λ y g v. absurd (false≢true (sym (f y) ∙ g)); vars = λ y keeps z. ap (has_name y) e; declares = λ y keeps. refl; functions = λ y g q. refl; copied = λ y keeps. refl }
declarations_fit Let ss rs cs us f e h = record { guarded_vars = λ y g v. absurd (false≢true (sym (f y) ∙ g)); vars = λ y keeps z. ap (has_name y) e; declares = λ y keeps. found_has y true _ _ (h refl y keeps); functions = λ y g q. absurd (false≢true (sym (f y) ∙ g)); copied = λ y keeps. is_found_has y true _ _ (h refl y keeps) }
declarations_fit Const ss rs cs us f e h = record { guarded_vars = λ y g v. absurd (false≢true (sym (f y) ∙ g)); vars = λ y keeps z. ap (has_name y) e; declares = λ y keeps. found_has y false _ _ (h refl y keeps); functions = λ y g q. absurd (false≢true (sym (f y) ∙ g)); copied = λ y keeps. refl }

pub parted_fits : {G K U : Name → Bool} {mark : ℕ} {drops : Bool} (k : VarDeclKind) (ss : List Span) {b : Bool} {cs us : Forest} (h : Declarators G K U mark drops k b cs us) → Fits (names G K U) (node (VarDecl k) ss cs) (node (VarDecl k) ss (parted h))
parted_fits k ss h = changed refl refl (declarations_fit k ss ss _ _ (λ y. refl) (parted_vars h) (λ v y e. parted_names h v y e))

-- declarations of one name that goes

-- what a step makes idle was idle
idle_from : {N : Names} {s : State} {o p : Outcome Value} → Trimmed N o p → Idled (λ t r. t ≡ r) s p → Idled (Off N) s o
idle_from {N} (same_value {s = t} h) (idled e) = idled (subst (λ (r : State). Off N t r) e h)
idle_from (same_jump h) i = elim i [ ]
idle_from (left_core p) i = idle_left
idle_from (was_cut p) i = idle_cut

still_end : (o : Outcome Value) (s : State) → Quiet Any s o → Idled (λ t r. t ≡ r) s (and_then o (λ v. gives Undefined))
unfolding and_then
still_end (Done v t) s q = idled q.0
still_end (Jumps j t) s q = absurd q
still_end Outside s q = idle_left
still_end Cut s q = idle_cut

statement_still : (mark : ℕ) (ss : List Span) (r : Tree) → pure mark r ≡ true → (n d : ℕ) (c : Context) (s : State) → Idled (λ t r. t ≡ r) s (run_at (eval mark) n d (node ExprStmt ss (r ⊳ ε)) c s)
unfolding eval act evals
statement_still mark ss r p n d c s = still_end (eval mark n (call_at (eval mark n) d) r c s) s ((pure_is_still mark n d r p c).by s)

idled_end : {R : State → State → Type 0} {s : State} {o : Outcome Value} → Idled R s o → Idled R s (and_then o (λ v. gives Undefined))
unfolding and_then
idled_end (idled h) = idled h
idled_end idle_left = idle_left
idled_end idle_cut = idle_cut

module _ (G K U : Name → Bool) (mark : ℕ) where
  pub alone_rewrites : {k : VarDeclKind} {x : Name} (ss : List Span) {r q : Tree} → Goes G K k x → Rewrites (names G K U) mark (eval mark) r q → Rewrites (names G K U) mark (eval mark) (alone k ss x (r ⊳ ε)) (node ExprStmt [] (q ⊳ ε))
  alone_rewrites {k} {x} ss {r} (no_more_of e) h = first (declare_only mark k x [] ss [] r (goes G K U e)) (declare_fits x (goes G K U e) k [] ss [] (r ⊳ ε) (r ⊳ ε)) (rebuilt ExprStmt [] [] refl tt tt tt (cons h nil))
  alone_rewrites {x = x} ss {r} (fewer_of e) h = first (declare_slack mark x [] ss [] r (slackened G K U e)) (slack_fits x [] ss [] (r ⊳ ε) (r ⊳ ε) (slackened G K U e)) (rebuilt ExprStmt [] [] refl tt tt tt (cons h nil))

  pub alone_idle : {k : VarDeclKind} {x : Name} (ss : List Span) → Goes G K k x → Idle (names G K U) (eval mark) (alone k ss x ε)
  unfolding eval act evals run_all
  alone_idle {k} {x} ss (no_more_of e) = record { by = λ n d c s g. idled_end ((idle_unset mark k x ss (goes G K U e)).by n d c s g) }
  alone_idle ss (fewer_of {x} e) = record { by = λ n d c s g. (idle_slack mark x [] ss).by n d c s g }

  -- a first value that is pure goes with its name
  pub alone_value_idle : {k : VarDeclKind} {x : Name} (ss : List Span) {r : Tree} → Goes G K k x → pure mark r ≡ true → Idle (names G K U) (eval mark) (alone k ss x (r ⊳ ε))
  alone_value_idle {k} {x} ss {r} (no_more_of e) p = record { by = λ n d c s g. idle_from ((declare_only mark k x [] ss [] r (goes G K U e)).by n d c s g) (statement_still mark [] r p n d c s) }
  alone_value_idle ss {r} (fewer_of {x} e) p = record { by = λ n d c s g. idle_from ((declare_slack mark x [] ss [] r (slackened G K U e)).by n d c s g) (statement_still mark [] r p n d c s) }

  gone_declares : (k : VarDeclKind) (x : Name) (ss : List Span) (cs : Forest) → Unread (names G K U) x → DeclaresNone (names G K U) (alone k ss x cs)
  gone_declares Var x ss cs u = record { is_no_export = refl; vars = λ y w. other_counted x u y w; declares = λ y keeps. refl; functions = λ y g. refl; is_no_declarator = λ y keeps. refl; is_no_import = λ y w. refl }
  gone_declares Let x ss cs u = record { is_no_export = refl; vars = λ y w. refl; declares = λ y keeps. ap (λ b. b || false) (other_than x u y keeps); functions = λ y g. lexical_or_not x u y true; is_no_declarator = λ y keeps. refl; is_no_import = λ y w. refl }
  gone_declares Const x ss cs u = record { is_no_export = refl; vars = λ y w. refl; declares = λ y keeps. ap (λ b. b || false) (other_than x u y keeps); functions = λ y g. lexical_or_not x u y false; is_no_declarator = λ y keeps. refl; is_no_import = λ y w. refl }

  pub alone_declares : {k : VarDeclKind} {x : Name} (ss : List Span) → Goes G K k x → DeclaresNone (names G K U) (alone k ss x ε)
  alone_declares {k} {x} ss (no_more_of e) = gone_declares k x ss ε (goes G K U e)
  alone_declares ss (fewer_of {x} e) = slack_declares x [] ss (slackened G K U e)

  pub alone_value_declares : {k : VarDeclKind} {x : Name} (ss : List Span) (r : Tree) → Goes G K k x → DeclaresNone (names G K U) (alone k ss x (r ⊳ ε))
  alone_value_declares {k} {x} ss r (no_more_of e) = gone_declares k x ss (r ⊳ ε) (goes G K U e)
  alone_value_declares ss r (fewer_of {x} e) =
      let h = slack_declares x [] ss (slackened G K U e) in
      record { is_no_export = refl; vars = h.vars; declares = λ y keeps. refl; functions = λ y g. refl; is_no_declarator = λ y keeps. refl; is_no_import = λ y w. refl }

-- statements as one statement

discarded : (o : Outcome Value) → and_then (and_then o (λ v. gives Undefined)) (λ v. gives Undefined) ≡ and_then o (λ v. gives Undefined)
unfolding and_then
discarded (Done v s) = refl
discarded (Jumps j s) = refl
discarded Outside = refl
discarded Cut = refl

discard_then : (o : Outcome Value) (m k : Run Value) → ((s : State) → m s ≡ and_then (k s) (λ v. gives Undefined)) → and_then (and_then o (λ v. gives Undefined)) (λ v. m) ≡ and_then (and_then o (λ v. k)) (λ v. gives Undefined)
unfolding and_then
discard_then (Done v s) m k h = h s
discard_then (Jumps j s) m k h = refl
discard_then Outside m k h = refl
discard_then Cut m k h = refl

module _ (mark n : ℕ) (call : Caller) where
  statements_run : (q : Tree) (qs : Forest) (c : Context) (s : State) → run_all (evals mark n call (statements (q ⊳ qs))) c s ≡ and_then (in_turn (evals mark n call (q ⊳ qs)) c s) (λ v. gives Undefined)
  unfolding eval act evals run_all in_turn
  statements_run q ε c s = discarded (eval mark n call q c s)
  statements_run q (r ⊳ qs) c s = discard_then (eval mark n call q c s) _ (in_turn (evals mark n call (r ⊳ qs)) c) (λ t. statements_run r qs c t)

pub one_statement : (mark : ℕ) (k : VarDeclKind) (ss rs vs : List Span) (qs : Forest) → Exact mark (node (VarDecl k) ss (statements qs)) (as_statement rs vs qs)
unfolding eval act evals run_all
one_statement mark k ss rs vs ε = exact_path mark (λ n call c s. refl)
one_statement mark k ss rs vs (q ⊳ ε) = exact_path mark (λ n call c s. discarded (eval mark n call q c s))
one_statement mark k ss rs vs (q ⊳ r ⊳ qs) = exact_path mark (λ n call c s. statements_run mark n call q (r ⊳ qs) c s)

statements_vars : (qs : Forest) → vars_all (statements qs) ≡ []
statements_vars ε = refl
statements_vars (q ⊳ qs) = statements_vars qs

statements_names : (qs : Forest) → declarator_names (statements qs) ≡ []
statements_names ε = refl
statements_names (q ⊳ qs) = statements_names qs

statements_fit : {N : Names} (k : VarDeclKind) (ss : List Span) (qs : Forest) (u : Tree) → Nothing u → Fits N (node (VarDecl k) ss (statements qs)) u
statements_fit Var ss qs u e = changed refl e.is_no_part (record {
  guarded_vars = λ y g v. absurd (false≢true (sym (ap (has_name y) (statements_vars qs)) ∙ v));
  vars = λ y keeps z. ap (has_name y) (statements_vars qs ∙ sym e.vars);
  declares = λ y keeps. sym (ap (found y) e.declares);
  functions = λ y g q. refl;
  copied = λ y keeps. sym (ap (is_found y) e.copied);
})
statements_fit Let ss qs u e = changed refl e.is_no_part (record {
  guarded_vars = λ y g v. absurd (false≢true (sym (ap (has_name y) (statements_vars qs)) ∙ v));
  vars = λ y keeps z. ap (has_name y) (statements_vars qs ∙ sym e.vars);
  declares = λ y keeps. ap (λ xs. found y (as_lexicals true xs)) (statements_names qs) ∙ sym (ap (found y) e.declares);
  functions = λ y g q. ap (λ xs. holds_function (found y (as_lexicals true xs))) (statements_names qs);
  copied = λ y keeps. ap (λ xs. is_found y (as_lexicals true xs ++ [])) (statements_names qs) ∙ sym (ap (is_found y) e.copied);
})
statements_fit Const ss qs u e = changed refl e.is_no_part (record {
  guarded_vars = λ y g v. absurd (false≢true (sym (ap (has_name y) (statements_vars qs)) ∙ v));
  vars = λ y keeps z. ap (has_name y) (statements_vars qs ∙ sym e.vars);
  declares = λ y keeps. ap (λ xs. found y (as_lexicals false xs)) (statements_names qs) ∙ sym (ap (found y) e.declares);
  functions = λ y g q. ap (λ xs. holds_function (found y (as_lexicals false xs))) (statements_names qs);
  copied = λ y keeps. sym (ap (is_found y) e.copied);
})

as_nothing : (rs vs : List Span) (qs : Forest) → Nothing (as_statement rs vs qs)
as_nothing rs vs ε = record { is_no_part = refl; vars = refl; declares = refl; copied = refl }
as_nothing rs vs (q ⊳ ε) = record { is_no_part = refl; vars = refl; declares = refl; copied = refl }
as_nothing rs vs (q ⊳ r ⊳ qs) = record { is_no_part = refl; vars = refl; declares = refl; copied = refl }

pub one_statement_fits : {N : Names} (k : VarDeclKind) (ss rs vs : List Span) (qs : Forest) → Fits N (node (VarDecl k) ss (statements qs)) (as_statement rs vs qs)
one_statement_fits k ss rs vs qs = statements_fit k ss qs (as_statement rs vs qs) (as_nothing rs vs qs)
