-- A default that is undefined anyway gives undefined, and does nothing else.
use Rattle.std.proofs.Common.{◌≡◌, ℕ, true, ◌&&◌, if◌then◌else◌, List, Some, None, refl, ap, ◌∙◌, codes, bytes_eq}
use Rattle.std.proofs.lemmas.Bool.{false≢true, and_parts}
use Rattle.std.specs.Cmp.Lexicographic.{bytes_decides}
use Rattle.swc_ast.specs.declared.UnaryOp.TheVariants.{Void}
use Rattle.swc_ast.specs.declared.Span.{Span}
use Rattle.swc_ast.specs.Tree.{Name, Read, Unary, Tree, node, Forest, ε, ◌⊳◌}
use Rattle.swc_ast.specs.Value.{Value, Undefined, State, Outcome, Done, Jumps, Outside, Cut, Context}
use Rattle.swc_ast.specs.Meaning.{is_unresolved, act, eval}
use Rattle.swc_ast.specs.Operators.{unary_value}
use Rattle.swc_ast.specs.Call.{call_at}
use Rattle.meaning_proofs.specs.Exact.{GivesUndefined, Refined}
use Rattle.swc_utils.specs.Globals.{constant, name_value}
use Rattle.swc_utils.specs.Holds.{Is, Quiet, Keeps}
use Rattle.swc_utils.proofs.Ends.{keeps_yields, yields_then, yields_gives, any}
use Rattle.swc_utils.proofs.Known.{literal_gives, constant_pure}
use Rattle.swc_utils.proofs.Pure.{pure_is_still}
use Rattle.pass_rules.specs.Defaults.{is_void}

name_undefined : (mark : ℕ) (x : Name) → (is_unresolved mark x && bytes_eq x.text (codes "undefined")) ≡ true → name_value mark x ≡ Some Undefined
name_undefined mark x h = let p = and_parts (is_unresolved mark x) _ h in ap (λ u. if u then constant x.text else None) p.0 ∙ ap constant ((bytes_decides x.text (codes "undefined")).0 p.1)

module _ (mark n d : ℕ) where
  name_keeps : (x : Name) (ss : List Span) (ts : Forest) (c : Context) → (is_unresolved mark x && bytes_eq x.text (codes "undefined")) ≡ true → Keeps (Is Undefined) (eval mark n (call_at (eval mark n) d) (node (Read x) ss ts) c)
  name_keeps x ss ts c h = keeps_yields (pure_is_still mark n d (node (Read x) ss ts) (constant_pure (is_unresolved mark x) _ _ _ Undefined (name_undefined mark x h)) c) (literal_gives mark n (call_at (eval mark n) d) (Read x) ss ts Undefined (name_undefined mark x h) c)

  void_keeps : (t : Tree) (c : Context) → is_void mark t ≡ true → Keeps (Is Undefined) (eval mark n (call_at (eval mark n) d) t c)
  unfolding eval act unary_value
  void_keeps (node (Unary Void) ss (a ⊳ ε)) c h = keeps_yields (pure_is_still mark n d (node (Unary Void) ss (a ⊳ ε)) (ap (λ p. p && true) h) c) (yields_then (any _) (λ v _. yields_gives Undefined refl))
  void_keeps (node (Read x) ss ts) c h = name_keeps x ss ts c h
  void_keeps _ c h = absurd (false≢true h)

quiet_undefined : (o : Outcome Value) (s : State) → Quiet (Is Undefined) s o → Refined o (Done Undefined s)
quiet_undefined (Done a t) s q = cc (q.0, q.1)
quiet_undefined (Jumps j t) s q = absurd q
quiet_undefined Outside s q = tt
quiet_undefined Cut s q = tt

pub void_is_undefined : (mark : ℕ) (d : Tree) → is_void mark d ≡ true → GivesUndefined mark d
void_is_undefined mark t h = record { by = λ n d c s. quiet_undefined _ s ((void_keeps mark n d t c h).by s) }
