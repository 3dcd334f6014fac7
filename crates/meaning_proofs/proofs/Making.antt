-- How a pass makes its rewrites: a node with its children rewritten, and then a step.
use Rattle.std.proofs.Common.{◌≡◌, ℕ, Bool, true, false, List, [], Option, refl, sym, ◌∙◌, not, ◌&&◌, ◌||◌, ◌∷◌, subst}
use Rattle.std.proofs.lemmas.Bool.{true≢false, false≢true, and_parts, not-true}
use Rattle.swc_ast.specs.Labels.{is_block}
use Rattle.swc_ast.specs.declared.Span.{Span}
use Rattle.swc_ast.specs.declared.VarDeclKind.{VarDeclKind}
use Rattle.swc_ast.specs.Tree.{Name, Text, Label, Fn, Arrow, Method, FnDecl, ExportDefaultFn, VarDecl, Import, Module, Script, Tree, node, Forest, ε, ◌⊳◌, Param, Switch, same_name}
use Rattle.swc_ast.specs.Value.{Value}
use Rattle.swc_ast.specs.Scope.{case_statements}
use Rattle.swc_ast.specs.Meaning.{eval}
use Rattle.swc_ast.specs.Run.{sources, once, exported, Same}
use Rattle.meaning_proofs.specs.Names.{Names, Exported, stays}
use Rattle.meaning_proofs.specs.Sameness.{heeded, ignoring}
use Rattle.meaning_proofs.specs.Exact.{CasesTrim, Discriminant, GivesUndefined}
use Rattle.meaning_proofs.specs.Roles.{FunctionOf, Clean, SameScope, SameSlack, SameVars, Scoped, rewrites_each}
use Rattle.meaning_proofs.specs.Rewrites.{SameExports, is_exported, Specifiers, kept, kept_list, kept_declarators, kept_import, kept_default, kept_switch, unseen, Rewrites, All, Listed, modules, scripts}
use Rattle.meaning_proofs.proofs.Names.{same_name_eq}
use Rattle.meaning_proofs.proofs.Trees.{eval_unfolds}
use Rattle.meaning_proofs.proofs.Laws.{only_either, only_kept, list_trims_itself, same_lists_itself, list_exact_itself}
use Rattle.meaning_proofs.proofs.Runs.{same}

-- where no name is declared at fewer places
pub firm_scoped : (N : Names) → ((x : Name) → N.slack x ≡ false) → (l : Label) (cs us : Forest) → Scoped N l cs us
firm_scoped N f (Fn o) cs us = record { binds = λ x z e. absurd (true≢false (sym z ∙ f x)) }
firm_scoped N f Arrow cs us = record { binds = λ x z e. absurd (true≢false (sym z ∙ f x)) }
firm_scoped N f Method cs us = record { binds = λ x z e. absurd (true≢false (sym z ∙ f x)) }
firm_scoped N f (FnDecl y) cs us = record { binds = λ x z e. absurd (true≢false (sym z ∙ f x)) }
firm_scoped N f (ExportDefaultFn o) cs us = record { binds = λ x z e. absurd (true≢false (sym z ∙ f x)) }
firm_scoped N f _ cs us = tt

pub firm_slack : (N : Names) → ((x : Name) → N.slack x ≡ false) → (ts us : Forest) → SameSlack N ts us
firm_slack N f ts us = record { binds = λ x z. absurd (true≢false (sym z ∙ f x)) }

-- no exported name is dropped or loose, as a test
abbrev pub keeps_exports : Names → List (Text × Name) → Bool
keeps_exports N [] = true
keeps_exports N (p ∷ ps) = not (N.dropped p.1) && (not (N.loose p.1) && keeps_exports N ps)

exported_or : (N : Names) (p : Text × Name) (ps : List (Text × Name)) (x : Name) (b : Bool) → same_name p.1 x ≡ b → keeps_exports N (p ∷ ps) ≡ true → (keeps_exports N ps ≡ true → is_exported x ps ≡ true → Exported N x) → (b || is_exported x ps) ≡ true → Exported N x
exported_or N p ps x true q e f g =
    let a = and_parts (not (N.dropped p.1)) (not (N.loose p.1) && keeps_exports N ps) e in
    let b = and_parts (not (N.loose p.1)) (keeps_exports N ps) a.1 in
    subst (Exported N) (same_name_eq p.1 x q) (stays (not-true (N.dropped p.1) a.0) (not-true (N.loose p.1) b.0))
exported_or N p ps x false q e f g =
    let a = and_parts (not (N.dropped p.1)) (not (N.loose p.1) && keeps_exports N ps) e in
    f ((and_parts (not (N.loose p.1)) (keeps_exports N ps) a.1).1) g

pub exports_tested : (N : Names) (ps : List (Text × Name)) → keeps_exports N ps ≡ true → (x : Name) → is_exported x ps ≡ true → Exported N x
exports_tested N [] e x g = absurd (false≢true g)
exports_tested N (p ∷ ps) e x g = exported_or N p ps x (same_name p.1 x) refl e (λ a b. exports_tested N ps a x b) g

module _ {N : Names} {mark : ℕ} where
  -- a node whose children are rewritten one by one
  pub rebuilt : (l : Label) (ss rs : List Span) {cs us : Forest} → rewrites_each l ≡ true → Clean N mark l → SameExports l cs us → Scoped N l cs us → All N mark (eval mark) false cs us → Rewrites N mark (eval mark) (node l ss cs) (node l rs us)
  rebuilt l ss rs {cs} p c e sc h = only_kept (kept l p (eval_unfolds mark (node l ss cs)) c e sc h)

  -- a node whose children are a list of statements
  pub rebuilt_list : (l : Label) (ss rs : List Span) {cs us : Forest} → is_block l ≡ true → Listed N mark (eval mark) cs us → Rewrites N mark (eval mark) (node l ss cs) (node l rs us)
  rebuilt_list l ss rs {cs} p h = only_kept (kept_list l p (eval_unfolds mark (node l ss cs)) h)

  -- a declaration, of whose declarators some may go
  pub rebuilt_declarators : (k : VarDeclKind) (ss rs : List Span) {cs us : Forest} → All N mark (eval mark) true cs us → Rewrites N mark (eval mark) (node (VarDecl k) ss cs) (node (VarDecl k) rs us)
  rebuilt_declarators k ss rs {cs} h = only_kept (kept_declarators k (eval_unfolds mark (node (VarDecl k) ss cs)) h)

  -- an import, of whose specifiers some may go
  pub rebuilt_import : (src : Text) (ss rs : List Span) {cs us : Forest} → Specifiers N cs us → Rewrites N mark (eval mark) (node (Import src) ss cs) (node (Import src) rs us)
  rebuilt_import src ss rs {cs} h = only_kept (kept_import src (eval_unfolds mark (node (Import src) ss cs)) h)

  -- a parameter whose default goes
  pub without_default : (x : Name) (ss rs : List Span) {t u : Tree} → N.dropped x ≡ false → N.guarded x ≡ false → Rewrites N mark (eval mark) t u → GivesUndefined mark u → Rewrites N mark (eval mark) (node (Param x) ss (t ⊳ ε)) (node (Param x) rs ε)
  without_default x ss rs {t} d g r y = only_kept (kept_default (eval_unfolds mark (node (Param x) ss (t ⊳ ε))) d g r y)

  -- a switch with other cases
  pub other_cases : (ds es : List Bool) (ss rs : List Span) {t u : Tree} {cs vs us : Forest} {known : Option Value} → Rewrites N mark (eval mark) t u → Discriminant mark u known → CasesTrim N (eval mark) known ds cs es vs
      → SameScope N (case_statements (t ⊳ cs)) (case_statements (t ⊳ vs)) → SameVars N (t ⊳ cs) (t ⊳ vs) → All N mark (eval mark) false vs us → Rewrites N mark (eval mark) (node (Switch ds) ss (t ⊳ cs)) (node (Switch es) rs (u ⊳ us))
  other_cases ds es ss rs {t} {cs = cs} r k a e i h = only_kept (kept_switch (eval_unfolds mark (node (Switch ds) ss (t ⊳ cs))) r k a e i h)

  -- a function of a name that nothing reads: its body never runs
  pub other_function : {x : Name} (l : Label) (ss rs : List Span) {cs us : Forest} → FunctionOf x l → N.loose x ≡ true → N.guarded x ≡ false → Rewrites N mark (eval mark) (node l ss cs) (node l rs us)
  other_function l ss rs {cs} d e g = only_either (unseen d (eval_unfolds mark (node l ss cs)) e g)

  -- a whole module, rewritten item by item
  pub module_same : (loads : Bool) (ss rs : List Span) {ts us : Forest} → All N mark (eval mark) true ts us → ((x : Name) → is_exported x (exported ts) ≡ true → Exported N x)
      → heeded (ignoring loads) (once [] (sources ts)) ≡ heeded (ignoring loads) (once [] (sources us)) → SameSlack N ts us → Same mark loads (node Module ss ts) (node Module rs us)
  module_same loads ss rs {ts} {us} h k l sl = same loads (modules {ss = ss} {rs = rs} (list_trims_itself ts) (same_lists_itself ts) h (list_exact_itself mark us) (same_lists_itself us) refl refl k l sl)

  pub script_same : (loads : Bool) (ss rs : List Span) {ts us : Forest} → Listed N mark (eval mark) ts us → SameSlack N ts us → Same mark loads (node Script ss ts) (node Script rs us)
  script_same loads ss rs h sl = same loads (scripts {ss = ss} {rs = rs} h sl)
