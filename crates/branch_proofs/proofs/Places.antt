-- Statements that become others may stand for one another, in a list and by themselves.
use Rattle.std.proofs.Common.{◌≡◌, ℕ, true, false, List, [], ◌++◌, refl, sym, ap, ◌∙◌, append-nil}
use Rattle.std.proofs.lemmas.Bool.{false≢true, and_parts}
use Rattle.swc_ast.specs.declared.Span.{Span}
use Rattle.swc_ast.specs.declared.VarDeclKind.TheVariants.{Let}
use Rattle.swc_ast.specs.Tree.{Block, VarDecl, Tree, node, Forest, ε, ◌⊳◌, label_of, simple, holder, decl}
use Rattle.swc_ast.specs.Value.{Value, Undefined, Outcome, Done, Jumps, Outside, Cut, Run, and_then, Context}
use Rattle.swc_ast.specs.Scope.{has_name, found, is_found, vars, vars_all, declared_by, declared, list_binds, Declared}
use Rattle.swc_ast.specs.Meaning.{◌>>=◌, gives, run_all, Caller, list_cells, in_list_scope, copied_names, act, eval, evals}
use Rattle.swc_ast.specs.Call.{call_at}
use Rattle.meaning_proofs.specs.Exact.{Exact}
use Rattle.swc_utils.specs.Holds.{Is, Where}
use Rattle.swc_utils.proofs.Refines.{refines_trans}
use Rattle.pass_proofs.proofs.Refines.{refines_path}
use Rattle.meaning_proofs.specs.Names.{Names}
use Rattle.meaning_proofs.specs.Roles.{is_part, holds_function, Fits, changed}
use Rattle.meaning_proofs.proofs.ListRules.{in_nothing}
use Rattle.branch_proofs.proofs.Becoming.{Becomes, SameVars}
use Rattle.branch_rules.specs.Statements.{gives_nothing, all_give_nothing, as_statement}
use Rattle.branch_proofs.proofs.Undefined.{Nothing, statement_nothing}
use mathlib.Core.Path.{fun_ext}

ended : (r : Outcome Value) → Where (Is Undefined) r → and_then r (λ v. gives Undefined) ≡ r
unfolding and_then
ended (Done v s) h = ap (λ w. Done w s) (sym h)
ended (Jumps j s) h = refl
ended Outside h = refl
ended Cut h = refl

-- a run that gives no value may be followed by none
pub discarded : {m : Run Value} → Nothing m → (m >>= λ v. gives Undefined) ≡ m
discarded {m} h = fun_ext (λ s. ended (m s) (h.by s))

-- a block that declares nothing in its own scope
pub open_block : (mark n : ℕ) (call : Caller) (ss : List Span) (ts : Forest) → declared ts ≡ [] → (c : Context) → eval mark n call (node Block ss ts) c ≡ run_all (evals mark n call ts) c
unfolding eval act in_list_scope
open_block mark n call ss ts e c = fun_ext (λ s. in_nothing (list_binds ts) (list_cells ts c.this) (run_all (evals mark n call ts)) c s (λ x. ap (λ (ps : List Declared). is_found x ps) e))

module _ (mark : ℕ) (rs : List Span) where
  pub standing : (us : Forest) → all_give_nothing us ≡ true → declared us ≡ [] → (n d : ℕ) (c : Context) → run_all (evals mark n (call_at (eval mark n) d) us) c ≡ eval mark n (call_at (eval mark n) d) (as_statement rs us) c
  unfolding run_all eval act evals
  standing ε h e n d c = refl
  standing (t ⊳ ε) h e n d c = discarded (statement_nothing mark n (call_at (eval mark n) d) t (and_parts (gives_nothing t) true h).0 c)
  standing (t ⊳ u ⊳ ts) h e n d c = sym (open_block mark n (call_at (eval mark n) d) rs (t ⊳ u ⊳ ts) e c)

  -- a tree that gives no value and becomes statements is exactly the statement of them
  pub becomes_exact : (t : Tree) (us : Forest) → ((n d : ℕ) (c : Context) → Nothing (eval mark n (call_at (eval mark n) d) t c)) → all_give_nothing us ≡ true → declared us ≡ [] → Becomes mark (t ⊳ ε) us → Exact mark t (as_statement rs us)
  unfolding run_all evals
  becomes_exact t us h g e b = record {
    by = λ n d c. refines_trans (refines_path (sym (discarded (h n d c)))) (refines_trans (b.by n d c) (refines_path (standing us g e n d c)));
  }

-- names

statement_no_part : (t : Tree) → gives_nothing t ≡ true → is_part (label_of t) ≡ false
statement_no_part (node (simple s) ss cs) h = refl
statement_no_part (node (holder l) ss cs) h = refl
statement_no_part (node (decl d) ss cs) h = refl
statement_no_part _ h = absurd (false≢true h)

pub no_copies : (t : Tree) → declared_by t ≡ [] → copied_names t ≡ []
no_copies (node (VarDecl Let) ss cs) h = ap (λ ps. ps ++ []) h
no_copies _ h = refl

pub as_no_part : (rs : List Span) (us : Forest) → all_give_nothing us ≡ true → is_part (label_of (as_statement rs us)) ≡ false
as_no_part rs ε h = refl
as_no_part rs (t ⊳ ε) h = statement_no_part t (and_parts (gives_nothing t) true h).0
as_no_part rs (t ⊳ u ⊳ ts) h = refl

pub as_vars : (rs : List Span) (us : Forest) → vars_all us ≡ vars (as_statement rs us)
as_vars rs ε = refl
as_vars rs (t ⊳ ε) = append-nil (vars t)
as_vars rs (t ⊳ u ⊳ ts) = refl

pub as_declares : (rs : List Span) (us : Forest) → declared us ≡ [] → declared_by (as_statement rs us) ≡ []
as_declares rs ε h = refl
as_declares rs (t ⊳ ε) h = sym (append-nil (declared_by t)) ∙ h
as_declares rs (t ⊳ u ⊳ ts) h = refl

module _ {N : Names} where
  pub statement_fits : (rs : List Span) (t : Tree) (us : Forest) → is_part (label_of t) ≡ false → is_part (label_of (as_statement rs us)) ≡ false → SameVars t us → Fits N t (as_statement rs us)
  statement_fits rs t us h g e =
      let d = as_declares rs us e.behind in
      changed h g (record {
        guarded_vars = λ x q v. sym (e.vars x ∙ ap (has_name x) (as_vars rs us)) ∙ v;
        vars = λ x w z. e.vars x ∙ ap (has_name x) (as_vars rs us);
        declares = λ x keeps. ap (found x) (e.before ∙ sym d);
        functions = λ x q v. ap (λ ps. holds_function (found x ps)) (e.before ∙ sym d) ∙ v;
        copied = λ x keeps. ap (is_found x) (no_copies t e.before ∙ sym (no_copies (as_statement rs us) d));
      })
