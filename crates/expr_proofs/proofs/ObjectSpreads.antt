-- An object with an object literal spread in it is exactly the object with the properties of both.
use Rattle.std.proofs.Common.{◌≡◌, ℕ, Bool, true, false, if◌then◌else◌, List, [], ◌∷◌, ◌++◌, refl, sym, ap, ◌∙◌}
use Rattle.swc_ast.specs.declared.Span.{Span}
use Rattle.swc_ast.specs.Tree.{Object, SpreadRecord, Tree, node, Forest, ε, ◌⊳◌}
use Rattle.swc_ast.specs.Value.{Value, Record, Fields, nofield, Run, and_then, Context, Meaning}
use Rattle.swc_ast.specs.Meaning.{◌>>=◌, gives, Caller, merged, object_fields, act, eval, evals}
use Rattle.swc_ast.specs.Operators.{put_fields}
use Rattle.meaning_proofs.specs.Exact.{Exact}
use Rattle.swc_utils.proofs.RunEffects.{evals_joined}
use Rattle.expr_rules.specs.Spreads.{opens, opened_property, opened_properties}
use Rattle.expr_proofs.proofs.Merges.{Apart, puts_apart, puts_chain}
use Rattle.pass_proofs.proofs.Refines.{refines_path}
use Rattle.pass_proofs.proofs.Runs.{bind_chain, bind_same, bind_end}

-- what is merged next
next_same : {A : Type 0} (fs : Fields) (v : Value) (k h : Fields → Run A) → ((gs : Fields) → v ≡ Record gs → k (put_fields fs gs) ≡ h (put_fields fs gs)) → (merged fs v >>= k) ≡ (merged fs v >>= h)
unfolding and_then
next_same fs (Record gs) k h e = e gs refl
next_same fs _ k h e = refl

-- properties, and then more
fields_joined : (ms ks : List Meaning) (fs : Fields) (c : Context) → object_fields (ms ++ ks) fs c ≡ (object_fields ms fs c >>= λ gs. object_fields ks gs c)
unfolding object_fields and_then
fields_joined [] ks fs c = refl
fields_joined (m ∷ ms) ks fs c =
    bind_same (m c) (λ v. next_same fs v _ _ (λ gs e. fields_joined ms ks (put_fields fs gs) c) ∙ sym (bind_chain (merged fs v) (λ gs. object_fields ms gs c) (λ hs. object_fields ks hs c)))
    ∙ sym (bind_chain (m c) (λ v. merged fs v >>= λ gs. object_fields ms gs c) (λ hs. object_fields ks hs c))

-- a record made first and then put, or put as it is made
merged_parts : (fs gs : Fields) (v : Value) (k : Fields → Run Fields) → Apart gs → (merged gs v >>= λ hs. k (put_fields fs hs)) ≡ (merged (put_fields fs gs) v >>= k)
unfolding and_then
merged_parts fs gs (Record hs) k h = ap k (puts_chain fs gs hs h)
merged_parts fs gs _ k h = refl

merged_apart : (gs : Fields) (v : Value) (k h : Fields → Run Fields) → Apart gs → ((hs : Fields) → Apart hs → k hs ≡ h hs) → (merged gs v >>= k) ≡ (merged gs v >>= h)
merged_apart gs v k h a e = next_same gs v k h (λ hs _. e (put_fields gs hs) (puts_apart gs hs a))

parts_put : (ms : List Meaning) (fs gs : Fields) (c : Context) → Apart gs → (object_fields ms gs c >>= λ hs. gives (put_fields fs hs)) ≡ object_fields ms (put_fields fs gs) c
unfolding object_fields and_then
parts_put [] fs gs c a = refl
parts_put (m ∷ ms) fs gs c a =
    bind_chain (m c) (λ v. merged gs v >>= λ hs. object_fields ms hs c) (λ hs. gives (put_fields fs hs))
    ∙ bind_same (m c) (λ v.
    bind_chain (merged gs v) (λ hs. object_fields ms hs c) (λ hs. gives (put_fields fs hs))
    ∙ merged_apart gs v (λ hs. object_fields ms hs c >>= λ ys. gives (put_fields fs ys)) (λ hs. object_fields ms (put_fields fs hs) c) a (λ hs b. parts_put ms fs hs c b)
    ∙ merged_parts fs gs v (λ hs. object_fields ms hs c) a)

module _ (mark n : ℕ) (call : Caller) (c : Context) where
  -- an object that is spread is its properties
  spread_same : (us : Forest) (ss rs : List Span) (fs : Fields) → (eval mark n call (node SpreadRecord ss (node Object rs us ⊳ ε)) c >>= λ v. merged fs v) ≡ object_fields (evals mark n call us) fs c
  unfolding eval act evals and_then
  spread_same us ss rs fs = bind_chain (object_fields (evals mark n call us) nofield c) (λ gs. gives (Record gs)) (λ v. merged fs v) ∙ parts_put (evals mark n call us) fs nofield c tt

  one_property : (t : Tree) (fs : Fields) → (eval mark n call t c >>= λ v. merged fs v) ≡ object_fields (evals mark n call (t ⊳ ε)) fs c
  unfolding evals object_fields
  one_property t fs = bind_same (eval mark n call t c) (λ v. sym (bind_end (merged fs v)))

  property_same : (t : Tree) (fs : Fields) → (eval mark n call t c >>= λ v. merged fs v) ≡ object_fields (evals mark n call (opened_property t)) fs c
  property_same (node SpreadRecord ss (node Object rs us ⊳ ε)) fs = by_kind (opens us)
    where
      by_kind : (b : Bool) → (eval mark n call (node SpreadRecord ss (node Object rs us ⊳ ε)) c >>= λ v. merged fs v) ≡ object_fields (evals mark n call (if b then us else node SpreadRecord ss (node Object rs us ⊳ ε) ⊳ ε)) fs c
      by_kind true = spread_same us ss rs fs
      by_kind false = one_property (node SpreadRecord ss (node Object rs us ⊳ ε)) fs
  property_same t fs = one_property t fs

  properties_same : (ts : Forest) (fs : Fields) → object_fields (evals mark n call ts) fs c ≡ object_fields (evals mark n call (opened_properties ts)) fs c
  unfolding evals object_fields
  properties_same ε fs = refl
  properties_same (t ⊳ ts) fs =
      sym (bind_chain (eval mark n call t c) (λ v. merged fs v) (λ gs. object_fields (evals mark n call ts) gs c))
      ∙ ap (λ m. m >>= λ gs. object_fields (evals mark n call ts) gs c) (property_same t fs)
      ∙ bind_same (object_fields (evals mark n call (opened_property t)) fs c) (λ gs. properties_same ts gs)
      ∙ sym (fields_joined (evals mark n call (opened_property t)) (evals mark n call (opened_properties ts)) fs c)
      ∙ ap (λ ms. object_fields ms fs c) (sym (evals_joined mark n call (opened_property t) (opened_properties ts)))

pub spread_object_exact : (mark : ℕ) (ss rs : List Span) (ts : Forest) → Exact mark (node Object ss ts) (node Object rs (opened_properties ts))
unfolding eval act
spread_object_exact mark ss rs ts = record { by = λ n d c. refines_path (ap (λ m. m >>= λ fs. gives (Record fs)) (properties_same mark n _ c ts nofield)) }
