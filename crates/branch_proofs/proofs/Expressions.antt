-- Each step of an expression is exact.
use Rattle.std.proofs.Common.{◌≡◌, ℕ, Bool, true, false, ◌&&◌, if◌then◌else◌, List, [], ◌∷◌, ◌++◌, refl, sym, ap, subst, ◌∙◌, codes, bytes_eq}
use Rattle.std.proofs.lemmas.Bool.{false≢true}
use Rattle.swc_ast.specs.declared.UnaryOp.TheVariants.{Void}
use Rattle.swc_ast.specs.declared.Span.{Span}
use Rattle.swc_ast.specs.Tree.{NumLit, StrLit, BoolLit, NullLit, Read, Unary, Tree, node, ε, ◌⊳◌}
use Rattle.swc_ast.specs.Value.{Value, Undefined, NaN, State, Done, Run, and_then, Context, Meaning, Reads}
use Rattle.swc_ast.specs.Operators.{truthy, unary_value}
use Rattle.swc_ast.specs.Meaning.{◌>>=◌, gives, leaves, ask, is_unresolved, read, read_bound, in_turn, run_all, act, eval, evals}
use Rattle.swc_ast.specs.Call.{call_at}
use Rattle.pass_rules.specs.Defaults.{is_void}
use Rattle.meaning_proofs.specs.Exact.{Refined, Refines, Exact}
use Rattle.swc_utils.proofs.Preserved.{preserve_kept}
use Rattle.pass_proofs.proofs.Defaults.{void_is_undefined}
use Rattle.pass_proofs.proofs.Guarded.{guarded_exact}
use Rattle.meaning_proofs.proofs.Laws.{exact_trans}
use Rattle.swc_utils.proofs.RunEffects.{evals_joined}
use Rattle.swc_utils.proofs.Pure.{pure_is_still}
use Rattle.swc_utils.proofs.Refines.{refines_same, refines_then, refines_drop, refines_trans}
use Rattle.pass_proofs.proofs.Refines.{refines_path}
use Rattle.pass_proofs.proofs.Runs.{bind_chain, bind_same}
use Rattle.branch_rules.specs.Expressions.{always_void, is_literal_leaf, ExpressionStep, front, itself, same_arms, in_guard}
use Rattle.branch_proofs.proofs.Ignore.{ignores_all_run}
use Rattle.branch_proofs.proofs.Itself.{itself_exact}

-- a sequence is its front and then its last item
turn_cons : (m k : Meaning) (ms : List Meaning) (c : Context) → in_turn (m ∷ (ms ++ k ∷ [])) c ≡ (m c >>= λ v. in_turn (ms ++ k ∷ []) c)
unfolding in_turn
turn_cons m k [] c = refl
turn_cons m k (n ∷ ms) c = refl

turn_front : (ms : List Meaning) (k : Meaning) (c : Context) → in_turn (ms ++ k ∷ []) c ≡ (run_all ms c >>= λ v. k c)
unfolding in_turn run_all and_then
turn_front [] k c = refl
turn_front (m ∷ ms) k c = turn_cons m k ms c ∙ bind_same (m c) (λ v. turn_front ms k c) ∙ sym (bind_chain (m c) (λ v. run_all ms c) (λ v. k c))

undefined_read : (host m : Run Value) (u a b g : Bool) (s : State) → (u && a) ≡ true → (if u then (if a then gives Undefined else (if b then gives NaN else (if g then leaves else host))) else m) s ≡ Done Undefined s
undefined_read host m true true b g s h = refl
undefined_read host m true false b g s h = absurd (false≢true h)
undefined_read host m false a b g s h = absurd (false≢true h)

module _ (mark n d : ℕ) where
  -- `void` of a literal
  literal_void : (a : Tree) (ss : List Span) (c : Context) → is_literal_leaf a ≡ true → (s : State) → eval mark n (call_at (eval mark n) d) (node (Unary Void) ss (a ⊳ ε)) c s ≡ Done Undefined s
  unfolding eval act evals unary_value and_then
  literal_void (node (NumLit z) rs ε) ss c h s = refl
  literal_void (node (StrLit t) rs ε) ss c h s = refl
  literal_void (node (BoolLit b) rs ε) ss c h s = refl
  literal_void (node NullLit rs ε) ss c h s = refl
  literal_void _ ss c h s = absurd (false≢true h)

  -- what is always undefined
  void_gives : (u : Tree) (c : Context) → always_void mark u ≡ true → (s : State) → eval mark n (call_at (eval mark n) d) u c s ≡ Done Undefined s
  unfolding eval act evals read
  void_gives (node (Unary Void) ss (a ⊳ ε)) c h s = literal_void a ss c h s
  void_gives (node (Read x) ss ε) c h s = undefined_read (ask (Reads x.text)) (read_bound x (c.env x)) (is_unresolved mark x) (bytes_eq x.text (codes "undefined")) _ _ s h
  void_gives _ c h s = absurd (false≢true h)

  arm_run : (b : Bool) (u v : Tree) (c : Context) → always_void mark u ≡ true → is_void mark v ≡ true → Refines (if b then eval mark n (call_at (eval mark n) d) u c else eval mark n (call_at (eval mark n) d) v c) (eval mark n (call_at (eval mark n) d) u c)
  arm_run true u v c h i = refines_same _
  arm_run false u v c h i = record { by = λ s. subst (Refined (eval mark n (call_at (eval mark n) d) v c s)) (sym (void_gives u c h s)) ((void_is_undefined mark v i).by n d c s) }

pub expression_exact : {mark : ℕ} {t u : Tree} → ExpressionStep mark t u → Exact mark t u
unfolding eval act evals
expression_exact {mark} (front ss rs fs us t r) = record {
  by = λ n d c.
      refines_trans (refines_path (ap (λ ms. in_turn ms c) (evals_joined mark n (call_at (eval mark n) d) fs (t ⊳ ε)) ∙ turn_front (evals mark n (call_at (eval mark n) d) fs) (eval mark n (call_at (eval mark n) d) t) c))
      (refines_trans (refines_then (ignores_all_run mark n d r c) (λ v. refines_same (eval mark n (call_at (eval mark n) d) t c)))
      (preserve_kept mark n (call_at (eval mark n) d) rs us t c));
}
expression_exact {mark} (itself ss is rs x e) = itself_exact mark x ss is rs e
expression_exact {mark} (in_guard {u = u} rs zs s l) = exact_trans mark (expression_exact s) (guarded_exact mark rs zs u)
expression_exact {mark} (same_arms ss c u v p h i) = record { by = λ n d e. refines_drop (pure_is_still mark n d c p e) (λ w _. arm_run mark n d (truthy w) u v e h i) }
