-- What stands for names of imports are values of exports.
use Rattle.std.proofs.Common.{◌≡◌, Bool, true, false, if◌then◌else◌, Option, Some, None}
use Rattle.swc_ast.specs.Run.{imported_text}
use Rattle.swc_ast.specs.Tree.{Text, Name, same_name, Label, StrLit, Read, Dot, Index, Import, ImportNamed, ImportDefault, ImportStar, Tree, node, Forest, ε, ◌⊳◌}
use Rattle.swc_pass.specs.Given.{a_plain}
use Rattle.swc_pass.specs.Inlined.{by_plain}
use Rattle.swc_pass.specs.Constants.{Constants, or_expression, by_specifier, by_namespace, in_specifiers, in_item, in_items, member_of, constant_at, constants}
use Rattle.given_rules.specs.Givable.{IsGivable, AllGivable}

same : {v w : Tree} → Some v ≡ Some w → v ≡ w
same e = cc

none : {v : Tree} → None ≡ Some v → IsGivable v
none e = cc

-- the expression that a test lets through
tested : (b : Bool) {o : Option Tree} {v : Tree} → (o ≡ Some v → IsGivable v) → (if b then o else None) ≡ Some v → IsGivable v
tested true f e = f e
tested false f e = none e

-- one of two expressions
one_of : (o p : Option Tree) {v : Tree} → (o ≡ Some v → IsGivable v) → (p ≡ Some v → IsGivable v) → or_expression o p ≡ Some v → IsGivable v
one_of None p f g e = g e
one_of (Some t) p f g e = f e

module _ (k : Constants) (exports : (s x : Text) (v : Tree) → k.export s x ≡ Some v → IsGivable v) where
  module _ (by : Text → Label → Option Tree) (all : (s : Text) (l : Label) (v : Tree) → by s l ≡ Some v → IsGivable v) where
    specifiers : (s : Text) (ts : Forest) (v : Tree) → in_specifiers k by s ts ≡ Some v → IsGivable v
    specifiers s ε v e = none e
    specifiers s (node l ss cs ⊳ ts) v e = one_of (by s l) (in_specifiers k by s ts) (all s l v) (specifiers s ts v) e

    item : (l : Label) (cs : Forest) (v : Tree) → in_item k by l cs ≡ Some v → IsGivable v
    item (Import s) cs v e = tested (k.is_given s) (specifiers s cs v) e
    item l cs v e = none e

    items : (ts : Forest) (v : Tree) → in_items k by ts ≡ Some v → IsGivable v
    items ε v e = none e
    items (node l ss cs ⊳ ts) v e = one_of (in_item k by l cs) (in_items k by ts) (item l cs v) (items ts v) e

  specified : (x : Name) (s : Text) (l : Label) (v : Tree) → by_specifier k s l x ≡ Some v → IsGivable v
  specified x s (ImportNamed y i) v e = tested (same_name y x) (exports s (imported_text y i) v) e
  specified x s (ImportDefault y) v e = tested (same_name y x) (exports s _ v) e
  specified x s l v e = none e

  spaced : (x : Name) (m s : Text) (l : Label) (v : Tree) → by_namespace k s l x m ≡ Some v → IsGivable v
  spaced x m s (ImportStar y) v e = tested (same_name y x) (exports s m v) e
  spaced x m s l v e = none e

  module _ (ts : Forest) where
    a_member : (o : Tree) (m : Text) (v : Tree) → member_of k ts o m ≡ Some v → IsGivable v
    a_member (node (Read x) ss cs) m v e = items (λ s l. by_namespace k s l x m) (spaced x m) ts v e
    a_member t m v e = none e

    at : (t v : Tree) → constant_at k ts t ≡ Some v → IsGivable v
    at (node (Read x) ss cs) v e = items (λ s l. by_specifier k s l x) (specified x) ts v e
    at (node (Dot m) ss (o ⊳ ε)) v e = a_member o m v e
    at (node Index ss (o ⊳ node (StrLit m) rs cs ⊳ ε)) v e = a_member o m v e
    at t v e = none e

    plain : (o : Option Tree) (v : Tree) → (o ≡ Some v → IsGivable v) → by_plain o ≡ a_plain v → IsGivable v
    plain None v f e = cc
    plain (Some w) v f e = f (put e)
      where
        put : a_plain w ≡ a_plain v → Some w ≡ Some v
        put e = cc

    -- so what is given of modules may be put
    pub constants_givable : AllGivable (constants k ts)
    constants_givable = record { values = λ i t e. cc; plain_ones = λ t v e. plain (constant_at k ts t) v (at t v) e }
