-- What the pass answers, by what the walk made.
use Rattle.std.proofs.Common.{◌≡◌, ◌⊎◌, ℕ, true, List, [], Option, Some, None, option_map, refl, sym, ap, subst, ◌∙◌}
use Rattle.std.specs.Prelude.{is_some}
use Rattle.swc_ast.specs.declared.Span.{Span}
use Rattle.swc_ast.specs.declared.errors.PassError.{PassError}
use Rattle.swc_ast.specs.declared.errors.PassError.TheVariants as error
use Rattle.swc_ast.specs.declared.expressions.Expr.{Expr}
use Rattle.swc_ast.specs.Core.{IsCore}
use Rattle.swc_ast.specs.Resolved.{IsResolved}
use Rattle.swc_ast.specs.Run.{Sees, Same}
use Rattle.swc_ast.specs.Tree.{Text, Name, StrLit, Read, Dot, Index, Tree, node, Forest, ε, ◌⊳◌, bare, label_of}
use Rattle.swc_ast.specs.Tree as tree
use Rattle.swc_ast.specs.Modules.{item_tree, module_tree}
use Rattle.swc_ast.specs.Parts.{list_trees}
use Rattle.swc_ast.specs.declared.modules.Module.{Module}
use Rattle.swc_ast.specs.Valid.{valid}
use Rattle.swc_ast.specs.Views.{expr_tree}
use Rattle.meaning_proofs.proofs.Quiet.{declares_nothing}
use Rattle.meaning_proofs.proofs.Spans.{same_bare}
use Rattle.swc_pass.specs.Chain.{GivesBack, input, other}
use Rattle.swc_pass.specs.Constants.{Constants, constant_at, member_of, without_given, unloaded, constants}
use Rattle.swc_pass.specs.Constants as given
use Rattle.swc_pass.specs.Given.{Answers, SameGiven}
use Rattle.given_shield.specs.Shield.{shield}
use Rattle.given_rules.specs.Givable.{AllGivable}
use Rattle.given_rules.specs.Put.{here, Puts, put}
use Rattle.tree_put.specs.Still.{still}
use Rattle.tree_put.specs.Walks.{Makes}
use Rattle.given_rules.specs.Walk.{put_answer}
use Rattle.given_rules.specs.Worked.{Finished, finished, puts}
use Rattle.given_rules.proofs.FormedViews.{module_formed}
use Rattle.given_rules.proofs.Givable.{puts_givable}
use Rattle.given_rules.proofs.Instances.{constant_same}
use Rattle.given_rules.proofs.Kept.{PutsGivable, put_resolved, put_core, put_valid}
use mathlib.Core.Path.{fun_ext}
use Rattle.const_imports.specs.Faults.{faults}
use Rattle.const_imports.specs.Locals.{locals}
use Rattle.const_imports.specs.Views.{is_given, value_of, has_value, constants_of, of_text, group_of, IsFirst, constant_in, member_in}
use Rattle.const_imports.specs.declared.given.GivenModules.{GivenModules}
use Rattle.const_imports.proofs.Constants.{constant_is, member_is}
use Rattle.const_imports.proofs.Keeping.{unloaded_valid, unloaded_core, unloaded_resolved}
use Rattle.const_pass.specs.Replaced.{has_export, IsPut, Replaced}
use Rattle.const_pass.specs.Rules.{state}
use Rattle.const_pass.specs.declared.rules.Constants as rust
use Rattle.const_pass.proofs.Expressions.{expr_declares_nothing}
use Rattle.const_pass.proofs.Walked.{walked}

some_same : {A : Type 0} {v w : A} → Some v ≡ Some w → v ≡ w
some_same e = cc

-- what is given is an expression

mapped : (o : Option Expr) (v : Tree) → option_map expr_tree o ≡ Some v → declares_nothing (label_of v) ≡ true
mapped None v e = cc
mapped (Some x) v e = subst (λ u. declares_nothing (label_of u) ≡ true) (some_same e) (expr_declares_nothing x)

module _ (g : GivenModules Expr) (items : Forest) where
  abbrev K : Constants
  K = constants_of expr_tree g

  by_name : (x : Name) (v : Tree) → given.constant K items x ≡ Some v → declares_nothing (label_of v) ≡ true
  by_name x v e = mapped (constant_in (value_of g) (locals (is_given g) items) x) v (constant_is expr_tree g items x ∙ e)

  by_member : (o : Tree) (m : Text) (v : Tree) → member_of K items o m ≡ Some v → declares_nothing (label_of v) ≡ true
  by_member (node (Read x) ss cs) m v e = mapped (member_in (value_of g) (locals (is_given g) items) x m) v (member_is expr_tree g items x m ∙ e)
  by_member (node l ss cs) m v e = cc

  pub are_expressions : (t v : Tree) → constant_at K items t ≡ Some v → declares_nothing (label_of v) ≡ true
  are_expressions (node (Read x) ss cs) v e = by_name x v e
  are_expressions (node (Dot m) ss ε) v e = cc
  are_expressions (node (Dot m) ss (o ⊳ ε)) v e = by_member o m v e
  are_expressions (node (Dot m) ss (o ⊳ p ⊳ ts)) v e = cc
  are_expressions (node Index ss ε) v e = cc
  are_expressions (node Index ss (o ⊳ ε)) v e = cc
  are_expressions (node Index ss (o ⊳ node (StrLit m) rs ds ⊳ ε)) v e = by_member o m v e
  are_expressions (node Index ss (o ⊳ node l rs ds ⊳ ε)) v e = cc
  are_expressions (node Index ss (o ⊳ node (StrLit m) rs ds ⊳ p ⊳ ts)) v e = cc
  are_expressions (node Index ss (o ⊳ node l rs ds ⊳ p ⊳ ts)) v e = cc
  are_expressions (node l ss cs) v e = cc

  -- what is put

  put_same : (mark : ℕ) (ss : List Span) (cs : Forest) → SameGiven (constants K items) mark (node tree.Module ss cs) (put (puts (constants K items) shield (finished [])) here (node tree.Module ss cs))
  unfolding put
  put_same mark ss cs = constant_same K items mark are_expressions tree.Module ss cs

  may_put : AllGivable (constants K items) → PutsGivable (puts (constants K items) shield (finished []))
  may_put a = puts_givable a (finished []) (λ i v e. cc)

-- a tree that is equal up to spans does the same
pub up_to_spans : (a : Answers) (mark : ℕ) (t u v : Tree) → SameGiven a mark t u → bare u ≡ bare v → SameGiven a mark t v
unfolding SameGiven Same
up_to_spans a mark t u v s e n d w calls o sees = let p = same_bare mark true u v e n d w calls o (s n d w calls o sees) in p.1 ∙ ap Sees p.2

-- an answer on a module

module _ (g : GivenModules Expr) (ss : List Span) (items : Forest) where
  abbrev X : Puts
  X = puts (constants (K g items) items) shield (finished [])

  abbrev W : Tree
  W = node tree.Module ss (without_given (K g items) items)

  valid_put : AllGivable (constants (K g items) items) → valid (node tree.Module ss items) ≡ true → valid (put X here W) ≡ true
  unfolding put
  valid_put a h = put_valid (may_put g items a) tree.Module ss (without_given (K g items) items) (unloaded_valid (K g items) ss items h)

  resolved_put : AllGivable (constants (K g items) items) → faults (is_given g) (has_export (K g items)) items ≡ [] → (mark : ℕ) → IsResolved mark (node tree.Module ss items) → IsResolved mark (put X here W)
  unfolding put
  resolved_put a e mark r = put_resolved (may_put g items a) mark tree.Module ss (without_given (K g items) items) (unloaded_resolved (K g items) ss items (has_export (K g items)) mark e r)

  core_put : AllGivable (constants (K g items) items) → IsCore (node tree.Module ss items) → IsCore (put X here W)
  unfolding put
  core_put a c = put_core (may_put g items a) tree.Module ss (without_given (K g items) items) (unloaded_core (K g items) ss items c)

  -- it differs from the module, or it doesn't but for spans
  pub replaced : (u v : Tree) → IsPut (constants_of expr_tree g) (node tree.Module ss items) u → GivesBack (node tree.Module ss items) u v → Replaced (constants_of expr_tree g) (node tree.Module ss items) v
  replaced u v p (other d) = record {
    same = λ mark. subst (SameGiven (constants (K g items) items) mark W) (sym p.is) (put_same g items mark ss (without_given (K g items) items));
    faultless = p.faultless;
    valid = λ a h. subst (λ w. valid w ≡ true) (sym p.is) (valid_put a h);
    resolved = λ a mark r. subst (IsResolved mark) (sym p.is) (resolved_put a p.faultless mark r);
    core = λ a c. subst IsCore (sym p.is) (core_put a c);
  }
  replaced u v p (input e) = record {
    same = λ mark. up_to_spans (constants (K g items) items) mark W u (node tree.Module ss items) (subst (SameGiven (constants (K g items) items) mark W) (sym p.is) (put_same g items mark ss (without_given (K g items) items))) e;
    faultless = p.faultless;
    valid = λ a h. h;
    resolved = λ a mark r. r;
    core = λ a c. c;
  }

-- what given modules have is what their trees tell
is_some_mapped : {A : Type 0} {B : Type 0} (f : A → B) (o : Option A) → is_some o ≡ is_some (option_map f o)
is_some_mapped f None = refl
is_some_mapped f (Some x) = refl

pub has_same : (g : GivenModules Expr) → has_value g ≡ has_export (constants_of expr_tree g)
has_same g = fun_ext (λ s. fun_ext (λ m. is_some_mapped expr_tree (value_of g s m)))

-- what the walk makes of a copy without imports of given modules
pub is_put : (r : rust.Constants) (m copy : Module) (u : Tree) (s : Answers × Finished) → ((x : Text) → group_of r.locals x ≡ of_text x (locals (is_given r.given.now) (list_trees item_tree m.body.items))) → faults (is_given r.given.now) (has_value r.given.now) (list_trees item_tree m.body.items) ≡ []
    → ((k : Constants) → k.is_given ≡ is_given r.given.now → module_tree copy ≡ unloaded k (module_tree m)) → Makes (still put_answer) (module_tree copy) (state r) here u s → IsPut (constants_of expr_tree r.given.now) (module_tree m) u
is_put r m copy u s groups none same w =
    let g = r.given.now in
    let items = list_trees item_tree m.body.items in record {
      faultless = sym (ap (λ h. faults (is_given g) h items) (has_same g)) ∙ none;
      is = walked r items groups (module_tree copy) u s (module_formed copy) w ∙ ap (put (puts (constants (constants_of expr_tree g) items) shield (finished [])) here) (same (constants_of expr_tree g) refl);
    }

-- a refusal tells the same of both
pub told_same : (g : GivenModules Expr) (items : Forest) (e : PassError) → (e ≡ error.OutOfMemory) ⊎ IsFirst (faults (is_given g) (has_value g) items) e → (e ≡ error.OutOfMemory) ⊎ IsFirst (faults (is_given g) (has_export (constants_of expr_tree g)) items) e
told_same g items e h = subst (λ has. (e ≡ error.OutOfMemory) ⊎ IsFirst (faults (is_given g) has items) e) (has_same g) h
