-- Names that nothing reads: what is left of their declarations and assignments.
use Rattle.std.proofs.Common.{◌≡◌, ℕ, Bool, true, false, ◌||◌, List, [], ◌∷◌, Option, Some, None, refl, sym, ap, subst, ◌∙◌, cond, slice_set}
use Rattle.std.proofs.lemmas.Bool.{true≢false}
use Rattle.swc_ast.specs.declared.Span.{Span}
use Rattle.swc_ast.specs.declared.VarDeclKind.{VarDeclKind}
use Rattle.swc_ast.specs.declared.VarDeclKind.TheVariants.{Var, Let, Const}
use Rattle.swc_ast.specs.Tree.{Name, same_name, ExprStmt, VarDecl, Declarator, Tree, node, Forest, ε, ◌⊳◌}
use Rattle.swc_ast.specs.Value.{Value, Undefined, Cell, State, Outcome, Done, Jumps, Outside, Cut, Run, and_then, Context}
use Rattle.swc_ast.specs.Scope.{Lexical, has_name}
use Rattle.swc_ast.specs.Meaning.{gives, cell_at, set_cell, initialise, initialise_bound, initialise_cell, eval, evals, act, run_all, declare}
use Rattle.meaning_proofs.specs.Names.{Names, Counted, is_firm, is_known, Watched, is_kept, is_guarded}
use Rattle.meaning_proofs.specs.Exact.{AlikeCells, run_at, Off, Trimmed, same_value, left_core, was_cut, Trims}
use Rattle.meaning_proofs.specs.Roles.{holds_function, Fits, changed, SameNames}
use Rattle.meaning_proofs.proofs.Names.{other_name, other_name'}
use Rattle.meaning_proofs.proofs.Stores.{Puts, free, guard_set}
use Rattle.meaning_proofs.proofs.Laws.{alike_itself, trimmed_itself}

-- a name that nothing reads
pub record Unread (N : Names) (x : Name) : Type 0 where
  pub is_dropped : N.dropped x ≡ true
  pub is_free : N.guarded x ≡ false

module _ {N : Names} where
  -- a write to a dropped name is no change that counts, where a guarded name takes what it may
  pub off_set : (x : Name) (k : ℕ) (c : Cell) (v : Value) → N.dropped x ≡ true → Puts N x v → (s : State) → Off N (set_cell s x k (record c { held = Some v })) s
  off_set x k c v d q s = record {
    apart = record { events = refl; replies = refl; handed = refl; natives = refl; store = λ y keeps l. ap (λ b. cond b (slice_set (s.store y) k (record c { held = Some v })) (s.store y)) (other_name' N.dropped x y d keeps); loosely = λ y keeps l. subst (λ b. AlikeCells (N.slack y) (cond b (slice_set (s.store y) k (record c { held = Some v })) (s.store y)) (s.store y)) (sym (other_name' N.dropped x y d keeps)) (alike_itself (s.store y)) };
    guards = λ g. record { at = λ y h. guard_set N s x y k c v q h (g.at y h) };
  }

  pub trimmed_end : (o : Outcome Value) (f : Value → Run Value) → ((v : Value) (s : State) → Trimmed N (f v s) (Done v s)) → Trimmed N (and_then o f) o
  unfolding and_then
  trimmed_end (Done v s) f h = h v s
  trimmed_end (Jumps j s) f h = trimmed_itself _
  trimmed_end Outside f h = left_core _
  trimmed_end Cut f h = was_cut _

  -- what an initialisation does
  set_at : (x : Name) (k : ℕ) (v : Value) (o : Option Cell) → N.dropped x ≡ true → Puts N x v → (s : State) → Trimmed N (initialise_cell x k v o s) (Done Undefined s)
  set_at x k v None d q s = left_core _
  set_at x k v (Some c) d q s = same_value (off_set x k c v d q s)

  set_bound : (x : Name) (v : Value) (o : Option ℕ) → N.dropped x ≡ true → Puts N x v → (s : State) → Trimmed N (initialise_bound x v o s) (Done Undefined s)
  set_bound x v None d q s = left_core _
  set_bound x v (Some k) d q s = set_at x k v (cell_at s x k) d q s

  pub initialised : (x : Name) (v : Value) (c : Context) → N.dropped x ≡ true → Puts N x v → (s : State) → Trimmed N (initialise x v c s) (Done Undefined s)
  unfolding initialise
  initialised x v c d q s = set_bound x v (c.env x) d q s

  pub trimmed_unit : (o : Outcome Value) (f : Value → Run Value) → ((v : Value) (s : State) → Trimmed N (f v s) (Done Undefined s)) → Trimmed N (and_then (and_then o f) (λ v. gives Undefined)) (and_then o (λ v. gives Undefined))
  unfolding and_then
  trimmed_unit (Done v s) f h = again (h v s)
    where
      again : {o : Outcome Value} → Trimmed N o (Done Undefined s) → Trimmed N (and_then o (λ v. gives Undefined)) (Done Undefined s)
      again (same_value h) = same_value h
      again (left_core o) = left_core _
      again (was_cut o) = was_cut _
  trimmed_unit (Jumps j s) f h = trimmed_itself _
  trimmed_unit Outside f h = left_core _
  trimmed_unit Cut f h = was_cut _

  -- `let x = r;` to `r;`
  pub declare_only : (mark : ℕ) (k : VarDeclKind) (x : Name) (ss rs us : List Span) (r : Tree) → Unread N x → Trims N (eval mark) (node (VarDecl k) ss (node (Declarator k x) rs (r ⊳ ε) ⊳ ε)) (node ExprStmt us (r ⊳ ε))
  unfolding eval act evals run_all declare
  declare_only mark Var x ss rs us r u = record { by = λ n d c s g. trimmed_unit (run_at (eval mark) n d r c s) _ (λ v s. initialised x v c u.is_dropped (free u.is_free) s) }
  declare_only mark Let x ss rs us r u = record { by = λ n d c s g. trimmed_unit (run_at (eval mark) n d r c s) _ (λ v s. initialised x v c u.is_dropped (free u.is_free) s) }
  declare_only mark Const x ss rs us r u = record { by = λ n d c s g. trimmed_unit (run_at (eval mark) n d r c s) _ (λ v s. initialised x v c u.is_dropped (free u.is_free) s) }

-- the statement that is left declares none but the dropped name

module _ {N : Names} (x : Name) (u : Unread N x) where
  pub other_var : (y : Name) → Watched N y → has_name y (x ∷ []) ≡ false
  other_var y (is_kept keeps) = ap (λ b. b || false) (other_name N.dropped y x keeps u.is_dropped)
  other_var y (is_guarded g) = ap (λ b. b || false) (other_name' N.guarded y x g u.is_free)

  pub other_counted : (y : Name) → Counted N y → has_name y (x ∷ []) ≡ false
  other_counted y (is_firm keeps z) = other_var y (is_kept keeps)
  other_counted y (is_known g) = other_var y (is_guarded g)

  pub other_than : (y : Name) → N.dropped y ≡ false → same_name x y ≡ false
  other_than y keeps = other_name' N.dropped x y u.is_dropped keeps

  pub lexical_or_not : (y : Name) (w : Bool) → holds_function (cond (same_name x y) (Some (Lexical w)) None) ≡ false
  lexical_or_not y w = go (same_name x y)
    where
      go : (b : Bool) → holds_function (cond b (Some (Lexical w)) None) ≡ false
      go true = refl
      go false = refl

  declare_names : (k : VarDeclKind) (ss rs us : List Span) (cs ds : Forest) → SameNames N (node (VarDecl k) ss (node (Declarator k x) rs cs ⊳ ε)) (node ExprStmt us ds)
  declare_names Var ss rs us cs ds = record { guarded_vars = λ y g e. absurd (true≢false (sym e ∙ other_var y (is_guarded g))); vars = λ y keeps z. other_var y (is_kept keeps); declares = λ y keeps. refl; functions = λ y g e. refl; copied = λ y keeps. refl }
  declare_names Let ss rs us cs ds = record { guarded_vars = λ y g e. e; vars = λ y keeps z. refl; declares = λ y keeps. ap (λ b. cond b (Some (Lexical true)) None) (other_than y keeps); functions = λ y g e. lexical_or_not y true; copied = λ y keeps. ap (λ b. b || false) (other_than y keeps) }
  declare_names Const ss rs us cs ds = record { guarded_vars = λ y g e. e; vars = λ y keeps z. refl; declares = λ y keeps. ap (λ b. cond b (Some (Lexical false)) None) (other_than y keeps); functions = λ y g e. lexical_or_not y false; copied = λ y keeps. refl }

  pub declare_fits : (k : VarDeclKind) (ss rs us : List Span) (cs ds : Forest) → Fits N (node (VarDecl k) ss (node (Declarator k x) rs cs ⊳ ε)) (node ExprStmt us ds)
  declare_fits k ss rs us cs ds = changed refl refl (declare_names k ss rs us cs ds)
