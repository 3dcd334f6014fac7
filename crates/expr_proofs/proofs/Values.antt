-- Operators on known values are exact.
use Rattle.std.proofs.Common.{◌≡◌, ℕ, true, List, Option, Some, None, refl, sym, ap, ap₂, subst, ◌∙◌, IfSome}
use Rattle.std.proofs.lemmas.Bool.{false≢true}
use Rattle.std.proofs.lemmas.Option.{none-some, same_Some}
use Rattle.swc_ast.specs.declared.Span.{Span}
use Rattle.swc_ast.specs.declared.UnaryOp.TheVariants.{TypeOf}
use Rattle.swc_ast.specs.declared.BinaryOp.{BinaryOp}
use Rattle.swc_ast.specs.declared.BinaryOp.TheVariants.{LogicalOr, LogicalAnd, In, InstanceOf, NullishCoalescing}
use Rattle.swc_ast.specs.Tree.{Array, Object, Fn, Arrow, Unary, Binary, Tree, node, ε, ◌⊳◌}
use Rattle.swc_ast.specs.Value.{Value, Undefined, Text, Run, Context}
use Rattle.swc_ast.specs.Meaning.{◌>>=◌, gives, leaves, in_core, Caller, run_all, compute, operate, act, eval, evals}
use Rattle.swc_ast.specs.Operators.{type_name, unary_value, binary_prim, binary_value}
use Rattle.swc_ast.specs.Call.{call_at}
use Rattle.meaning_proofs.specs.Exact.{Refines, Exact}
use Rattle.swc_utils.specs.Effects.{is_strict, has_no_meaning, effects, effects_all, preserve}
use Rattle.swc_utils.specs.Holds.{Is, Yields}
use Rattle.swc_utils.proofs.Ends.{yields_then, yields_gives, yields_map, yields_in_core, any}
use Rattle.swc_utils.proofs.Refines.{refines_same, refines_then, refines_trans, refines_chain, refines_leaves}
use Rattle.swc_utils.proofs.RunEffects.{all_kept}
use Rattle.swc_utils.proofs.Preserved.{preserve_kept}
use Rattle.pass_rules.specs.Values.{value_of}
use Rattle.expr_rules.specs.TypeNames.{name_of, typeof_known}
use Rattle.pass_rules.specs.Leaves.{text_tree}
use Rattle.pass_proofs.proofs.Refines.{refines_path}
use Rattle.expr_proofs.proofs.Constant.{Gives, constant_exact}
use Rattle.pass_proofs.proofs.Values.{value_holds}
use Rattle.expr_proofs.proofs.Folds.{text_gives}

-- operators on known values

operate_strict : (op : BinaryOp) (v : Value) (right : Run Value) → is_strict op ≡ true → operate op v right ≡ (right >>= λ w. compute op v w)
unfolding operate
operate_strict LogicalOr v right h = absurd (false≢true h)
operate_strict LogicalAnd v right h = absurd (false≢true h)
operate_strict NullishCoalescing v right h = absurd (false≢true h)
operate_strict In v right h = absurd (false≢true h)
operate_strict InstanceOf v right h = absurd (false≢true h)
operate_strict op v right h = refl

core_gives : (o : Option Value) (x : Value) → o ≡ Some x → Yields (Is x) (in_core o)
core_gives o x h = yields_in_core o (subst (λ q. IfSome q (Is x)) (sym h) refl)

-- a binary operator on two known values: the effects of both, and the value
pub known_binary_exact : (mark : ℕ) (op : BinaryOp) (ss rs : List Span) (a b u : Tree) (v w x : Value) → is_strict op ≡ true → value_of mark a ≡ Some v → value_of mark b ≡ Some w → binary_value op v w ≡ Some x → Gives mark u x → Exact mark (node (Binary op) ss (a ⊳ b ⊳ ε)) (preserve rs (effects mark (node (Binary op) ss (a ⊳ b ⊳ ε))) u)
unfolding eval act
known_binary_exact mark op ss rs a b u v w x k ha hb h hu = constant_exact mark rs (node (Binary op) ss (a ⊳ b ⊳ ε)) u x
    (λ n call c. yields_then (value_holds mark n call a v c ha) (λ i ei. subst (Yields (Is x)) (sym (operate_strict op i (eval mark n call b c) k)) (yields_then (value_holds mark n call b w c hb) (λ j ej. core_gives _ x (ap₂ (binary_value op) ei ej ∙ h)))))
    hu

-- `typeof`

module _ (mark n : ℕ) (call : Caller) where
  named_value : (t : Tree) (s : List ℕ) (o : Option Value) → value_of mark t ≡ o → name_of o ≡ Some s → (c : Context) → Yields (λ v. type_name v ≡ s) (eval mark n call t c)
  named_value t s None e h c = absurd (none-some s h)
  named_value t s (Some w) e h c = yields_map (value_holds mark n call t w c e) (λ v i. ap type_name i ∙ same_Some _ _ h)

  pub typeof_holds : (t : Tree) (s : List ℕ) → typeof_known mark t ≡ Some s → (c : Context) → Yields (λ v. type_name v ≡ s) (eval mark n call t c)
  unfolding eval act
  typeof_holds (node (Fn o) ss ts) s h c = yields_gives _ (same_Some _ _ h)
  typeof_holds (node Arrow ss ts) s h c = yields_gives _ (same_Some _ _ h)
  typeof_holds (node (Array ks) ss ts) s h c = yields_then (any _) (λ vs _. yields_gives _ (same_Some _ _ h))
  typeof_holds (node Object ss ts) s h c = yields_then (any _) (λ fs _. yields_gives _ (same_Some _ _ h))
  typeof_holds t s h c = named_value t s (value_of mark t) refl h c

pub typeof_exact : (mark : ℕ) (ss rs ts : List Span) (a : Tree) (s : List ℕ) → typeof_known mark a ≡ Some s → Exact mark (node (Unary TypeOf) ss (a ⊳ ε)) (preserve rs (effects mark (node (Unary TypeOf) ss (a ⊳ ε))) (text_tree ts s))
unfolding eval act unary_value
typeof_exact mark ss rs ts a s h = constant_exact mark rs (node (Unary TypeOf) ss (a ⊳ ε)) (text_tree ts s) (Text s)
    (λ n call c. yields_then (typeof_holds mark n call a s h c) (λ v e. yields_gives _ (ap Text e)))
    (text_gives mark ts s)

-- `in` and `instanceof` leave the core behind their sides

operate_leaves : (op : BinaryOp) (v : Value) (right : Run Value) → has_no_meaning op ≡ true → operate op v right ≡ (right >>= λ w. leaves)
unfolding operate binary_prim
operate_leaves In v right h = refl
operate_leaves InstanceOf v right h = refl
operate_leaves _ v right h = absurd (false≢true h)

-- both sides run, and then nothing is asked of what follows
then_leaves : (m k h : Run Value) → Refines (m >>= λ v. k >>= λ w. leaves) ((m >>= λ v. k >>= λ w. gives Undefined) >>= λ v. h)
then_leaves m k h = refines_chain m (λ v. k >>= λ w. gives Undefined) (λ v. h) (refines_then (refines_same m) (λ v. refines_chain k (λ w. gives Undefined) (λ x. h) (refines_then (refines_same k) (λ w. refines_leaves))))

sides_run : (mark n : ℕ) (call : Caller) (op : BinaryOp) (a b u : Tree) → has_no_meaning op ≡ true → (c : Context) → Refines (eval mark n call a c >>= λ v. operate op v (eval mark n call b c)) (run_all (evals mark n call (a ⊳ b ⊳ ε)) c >>= λ v. eval mark n call u c)
unfolding run_all evals
sides_run mark n call op a b u h c = refines_trans (refines_then (refines_same (eval mark n call a c)) (λ v. refines_path (operate_leaves op v (eval mark n call b c) h))) (then_leaves (eval mark n call a c) (eval mark n call b c) (eval mark n call u c))

-- the effects of both sides, and any value
pub no_meaning_exact : (mark : ℕ) (op : BinaryOp) (ss rs : List Span) (a b u : Tree) → has_no_meaning op ≡ true → Exact mark (node (Binary op) ss (a ⊳ b ⊳ ε)) (preserve rs (effects_all mark (a ⊳ b ⊳ ε)) u)
unfolding eval act
no_meaning_exact mark op ss rs a b u h = record { by = λ n d c. refines_trans (sides_run mark n (call_at (eval mark n) d) op a b u h c) (refines_trans (refines_then (all_kept mark n d (a ⊳ b ⊳ ε) c) (λ v. refines_same (eval mark n (call_at (eval mark n) d) u c))) (preserve_kept mark n (call_at (eval mark n) d) rs (effects_all mark (a ⊳ b ⊳ ε)) u c)) }
