-- Names that are declared at fewer places, and initialised less: what is left of their declarations.
use Rattle.std.proofs.Common.{◌≡◌, ℕ, zero, suc, Bool, true, false, ◌||◌, List, [], ◌∷◌, Option, Some, None, refl, sym, ap, ◌∙◌, cond, slice_set}
use Rattle.std.proofs.lemmas.Bool.{true≢false}
use Rattle.swc_ast.specs.declared.Span.{Span}
use Rattle.swc_ast.specs.declared.VarDeclKind.TheVariants.{Var}
use Rattle.swc_ast.specs.Tree.{Name, same_name, ExprStmt, VarDecl, Declarator, Tree, node, Forest, ε, ◌⊳◌}
use Rattle.swc_ast.specs.Value.{Value, Undefined, Cell, State, Done, Context, and_then}
use Rattle.swc_ast.specs.Scope.{has_name}
use Rattle.swc_ast.specs.Meaning.{cell_at, set_cell, initialise, initialise_bound, initialise_cell, declare, run_all, eval, evals, act}
use Rattle.meaning_proofs.specs.Names.{Names, Counted, is_firm, is_known}
use Rattle.meaning_proofs.specs.Exact.{run_at, AlikeCells, none_alike, one_any, Off, Trimmed, same_value, left_core, Trims, Idle, idled}
use Rattle.meaning_proofs.specs.Roles.{DeclaresNone, Fits, changed}
use Rattle.meaning_proofs.proofs.Names.{same_name_eq, other_name, other_name'}
use Rattle.meaning_proofs.proofs.Stores.{free, guard_set}
use Rattle.meaning_proofs.proofs.Laws.{alike_itself, off_itself}
use Rattle.meaning_proofs.proofs.Drops.{trimmed_unit}

pub record SlackName (N : Names) (x : Name) : Type 0 where
  pub is_slack : N.slack x ≡ true
  pub is_loose : N.loose x ≡ true
  pub is_free : N.guarded x ≡ false

set_any : {b : Bool} → b ≡ true → (cs : List Cell) (k : ℕ) (c : Cell) → AlikeCells b (slice_set cs k c) cs
set_any e [] k c = none_alike
set_any e (d ∷ cs) zero c = one_any e (alike_itself cs)
set_any e (d ∷ cs) (suc k) c = one_any e (set_any e cs k c)

module _ {N : Names} where
  off_slack : (x : Name) (k : ℕ) (c : Cell) (v : Value) → SlackName N x → (s : State) → Off N (set_cell s x k (record c { held = Some v })) s
  off_slack x k c v u s = record {
    apart = record {
      events = refl;
      replies = refl;
      handed = refl;
      natives = refl;
      store = λ y keeps l. ap (λ b. cond b (slice_set (s.store y) k (record c { held = Some v })) (s.store y)) (other_name' N.loose x y u.is_loose l);
      loosely = λ y keeps l. go y (same_name x y) refl;
    };
    guards = λ g. record { at = λ y h. guard_set N s x y k c v (free u.is_free) h (g.at y h) };
  }
    where
      go : (y : Name) (b : Bool) → same_name x y ≡ b → AlikeCells (N.slack y) (cond b (slice_set (s.store y) k (record c { held = Some v })) (s.store y)) (s.store y)
      go y false q = alike_itself (s.store y)
      go y true q = set_any (sym (ap N.slack (same_name_eq x y q)) ∙ u.is_slack) (s.store y) k (record c { held = Some v })

  slack_cell : (x : Name) (k : ℕ) (v : Value) (o : Option Cell) → SlackName N x → (s : State) → Trimmed N (initialise_cell x k v o s) (Done Undefined s)
  slack_cell x k v None u s = left_core _
  slack_cell x k v (Some c) u s = same_value (off_slack x k c v u s)

  slack_bound : (x : Name) (v : Value) (o : Option ℕ) → SlackName N x → (s : State) → Trimmed N (initialise_bound x v o s) (Done Undefined s)
  slack_bound x v None u s = left_core _
  slack_bound x v (Some k) u s = slack_cell x k v (cell_at s x k) u s

  slack_set : (x : Name) (v : Value) (c : Context) → SlackName N x → (s : State) → Trimmed N (initialise x v c s) (Done Undefined s)
  unfolding initialise
  slack_set x v c u s = slack_bound x v (c.env x) u s

  -- `var x = r;` to `r;`
  pub declare_slack : (mark : ℕ) (x : Name) (ss rs us : List Span) (r : Tree) → SlackName N x → Trims N (eval mark) (node (VarDecl Var) ss (node (Declarator Var x) rs (r ⊳ ε) ⊳ ε)) (node ExprStmt us (r ⊳ ε))
  unfolding eval act evals run_all declare
  declare_slack mark x ss rs us r u = record { by = λ n d c s g. trimmed_unit (run_at (eval mark) n d r c s) _ (λ v s. slack_set x v c u s) }

  firm_other : (x y : Name) → SlackName N x → N.slack y ≡ false → has_name y (x ∷ []) ≡ false
  firm_other x y u z = ap (λ b. b || false) (other_name N.slack y x z u.is_slack)

  known_other : (x y : Name) → SlackName N x → N.guarded y ≡ true → has_name y (x ∷ []) ≡ false
  known_other x y u g = ap (λ b. b || false) (other_name' N.guarded y x g u.is_free)

  pub slack_fits : (x : Name) (ss rs us : List Span) (cs ds : Forest) → SlackName N x → Fits N (node (VarDecl Var) ss (node (Declarator Var x) rs cs ⊳ ε)) (node ExprStmt us ds)
  slack_fits x ss rs us cs ds u = changed refl refl (record {
    guarded_vars = λ y g e. absurd (true≢false (sym e ∙ known_other x y u g));
    vars = λ y keeps z. firm_other x y u z;
    declares = λ y keeps. refl;
    functions = λ y g e. refl;
    copied = λ y keeps. refl;
  })

  -- `var x;`
  pub idle_slack : (mark : ℕ) (x : Name) (ss rs : List Span) → Idle N (eval mark) (node (VarDecl Var) ss (node (Declarator Var x) rs ε ⊳ ε))
  unfolding eval act evals run_all declare and_then
  idle_slack mark x ss rs = record { by = λ n d c s g. idled (off_itself s) }

  pub slack_declares : (x : Name) (ss rs : List Span) → SlackName N x → DeclaresNone N (node (VarDecl Var) ss (node (Declarator Var x) rs ε ⊳ ε))
  slack_declares x ss rs u = record { is_no_export = refl; vars = λ y w. of y w; declares = λ y keeps. refl; functions = λ y g. refl; is_no_declarator = λ y keeps. refl; is_no_import = λ y w. refl }
    where
      of : (y : Name) → Counted N y → has_name y (x ∷ []) ≡ false
      of y (is_firm keeps z) = firm_other x y u z
      of y (is_known g) = known_other x y u g
