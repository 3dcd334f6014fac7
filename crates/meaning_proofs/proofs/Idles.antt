-- Statements and declarators that go: they do nothing but write to dropped names.
use Rattle.std.proofs.Common.{◌≡◌, ℕ, false, ◌||◌, List, Some, None, refl, ap, cond}
use Rattle.swc_ast.specs.declared.Span.{Span}
use Rattle.swc_ast.specs.declared.VarDeclKind.{VarDeclKind}
use Rattle.swc_ast.specs.declared.VarDeclKind.TheVariants.{Var, Let, Const}
use Rattle.swc_ast.specs.Tree.{Name, Text, ExprStmt, VarDecl, Declarator, FnDecl, Import, node, Forest, ε}
use Rattle.swc_ast.specs.Value.{Value, Undefined, State, Outcome, Done}
use Rattle.swc_ast.specs.Scope.{Function, has_name, specifier_names}
use Rattle.swc_ast.specs.Meaning.{eval, evals, act, run_all, declare}
use Rattle.meaning_proofs.specs.Names.{Names, Watched}
use Rattle.meaning_proofs.specs.Exact.{Off, Trimmed, same_value, left_core, was_cut, Idled, idled, idle_left, idle_cut, Idle, IdleAfter}
use Rattle.meaning_proofs.specs.Roles.{holds_function, DeclaresNone}
use Rattle.meaning_proofs.proofs.Names.{other_name}
use Rattle.meaning_proofs.proofs.Stores.{free}
use Rattle.meaning_proofs.proofs.Laws.{off_itself, apart_itself}
use Rattle.meaning_proofs.proofs.Drops.{Unread, initialised, other_than}

module _ {N : Names} where
  -- where what was done is trimmed to nothing
  pub idle_trimmed : {o : Outcome Value} (v : Value) (s : State) → Trimmed N o (Done v s) → Idled (Off N) s o
  idle_trimmed v s (same_value h) = idled h
  idle_trimmed v s (left_core o) = idle_left
  idle_trimmed v s (was_cut o) = idle_cut

  module _ (mark : ℕ) where
    -- a function's declaration
    pub idle_function : (x : Name) (ss : List Span) (cs : Forest) → Idle N (eval mark) (node (FnDecl x) ss cs)
    unfolding eval act
    idle_function x ss cs = record { by = λ n d c s g. idled (off_itself s) }

    -- an import
    pub idle_import : (src : Text) (ss : List Span) (cs : Forest) → Idle N (eval mark) (node (Import src) ss cs)
    unfolding eval act
    idle_import src ss cs = record { by = λ n d c s g. idled (off_itself s) }

    -- a declarator without a first value
    pub idle_unset : (k : VarDeclKind) (x : Name) (ss : List Span) → Unread N x → Idle N (eval mark) (node (Declarator k x) ss ε)
    unfolding eval act evals declare
    idle_unset Var x ss u = record { by = λ n d c s g. idled (off_itself s) }
    idle_unset Let x ss u = record { by = λ n d c s g. idle_trimmed Undefined s (initialised x Undefined c u.is_dropped (free u.is_free) s) }
    idle_unset Const x ss u = record { by = λ n d c s g. idle_trimmed Undefined s (initialised x Undefined c u.is_dropped (free u.is_free) s) }

  -- what they declare

  pub function_declares : (x : Name) (ss : List Span) (cs : Forest) → Unread N x → DeclaresNone N (node (FnDecl x) ss cs)
  function_declares x ss cs u = record {
    is_no_export = refl;
    vars = λ y w. refl;
    declares = λ y keeps. ap (λ b. b || false) (other_than x u y keeps);
    functions = λ y g. ap (λ b. holds_function (cond b (Some (Function (node (FnDecl x) ss cs))) None)) (other_name N.guarded x y u.is_free g);
    is_no_declarator = λ y keeps. refl;
    is_no_import = λ y w. refl;
  }

  -- a declaration of which no declarator is left
  pub none_left_declares : (k : VarDeclKind) (ss : List Span) → DeclaresNone N (node (VarDecl k) ss ε)
  none_left_declares Var ss = record { is_no_export = refl; vars = λ y w. refl; declares = λ y keeps. refl; functions = λ y g. refl; is_no_declarator = λ y keeps. refl; is_no_import = λ y w. refl }
  none_left_declares Let ss = record { is_no_export = refl; vars = λ y w. refl; declares = λ y keeps. refl; functions = λ y g. refl; is_no_declarator = λ y keeps. refl; is_no_import = λ y w. refl }
  none_left_declares Const ss = record { is_no_export = refl; vars = λ y w. refl; declares = λ y keeps. refl; functions = λ y g. refl; is_no_declarator = λ y keeps. refl; is_no_import = λ y w. refl }

  pub none_left_idle : (mark : ℕ) (k : VarDeclKind) (ss : List Span) → IdleAfter N mark (node (VarDecl k) ss ε)
  unfolding eval act evals run_all
  none_left_idle mark k ss = record { by = λ n d c s. idled (apart_itself s) }

  pub import_declares : (src : Text) (ss : List Span) (cs : Forest) → ((x : Name) → Watched N x → has_name x (specifier_names cs) ≡ false) → DeclaresNone N (node (Import src) ss cs)
  import_declares src ss cs h = record { is_no_export = refl; vars = λ y w. refl; declares = λ y keeps. refl; functions = λ y g. refl; is_no_declarator = λ y keeps. refl; is_no_import = h }

  pub expression_declares : (ss : List Span) (cs : Forest) → DeclaresNone N (node ExprStmt ss cs)
  expression_declares ss cs = record { is_no_export = refl; vars = λ y w. refl; declares = λ y keeps. refl; functions = λ y g. refl; is_no_declarator = λ y keeps. refl; is_no_import = λ y w. refl }
