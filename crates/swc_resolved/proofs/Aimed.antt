-- What jumps in the children of a node may go to.
use Rattle.std.proofs.Common.{◌≡◌, false, [], refl, sym}
use Rattle.std.proofs.lemmas.Bool.{false≢true}
use Rattle.swc_ast.specs.Resolved.{Targets, below}
use Rattle.tree_visit.specs.Kinds.{kind_label}
use Rattle.tree_visit.specs.declared.kind.Kind.{Kind}
use Rattle.tree_visit.specs.declared.kind.Kind.TheVariants as kind
use Rattle.swc_resolved.specs.Jumps.{adds_targets}

-- a node that is no label and no loop
pub adds_none : (k : Kind) → ((n : _) → k ≡ kind.Labeled n → ⊥) → (k ≡ kind.While → ⊥) → (k ≡ kind.DoWhile → ⊥) → (k ≡ kind.For → ⊥) → adds_targets (kind_label k) ≡ false
adds_none (kind.Labeled n) a b c d = absurd (a n refl)
adds_none kind.While a b c d = absurd (b refl)
adds_none kind.DoWhile a b c d = absurd (c refl)
adds_none kind.For a b c d = absurd (d refl)
adds_none k a b c d = refl

abbrev plain : Targets → Targets
plain g = record { labels = g.labels; loops = g.loops; can_break = g.can_break; can_continue = g.can_continue; own = [] }

-- one that is no function and no target either
pub plain_below : (k : Kind) (g : Targets) → adds_targets (kind_label k) ≡ false → ((n : _) → k ≡ kind.Switch n → ⊥) → ((n : _) → k ≡ kind.Fn n → ⊥) → (k ≡ kind.Arrow → ⊥) → (k ≡ kind.Method → ⊥) → ((n : _) → k ≡ kind.FnDecl n → ⊥) → ((n : _) → k ≡ kind.ExportDefaultFn n → ⊥) → plain g ≡ below (kind_label k) g
plain_below (kind.Labeled n) g h e f i j l m = absurd (false≢true (sym h))
plain_below kind.While g h e f i j l m = absurd (false≢true (sym h))
plain_below kind.DoWhile g h e f i j l m = absurd (false≢true (sym h))
plain_below kind.For g h e f i j l m = absurd (false≢true (sym h))
plain_below (kind.Switch n) g h e f i j l m = absurd (e n refl)
plain_below (kind.Fn n) g h e f i j l m = absurd (f n refl)
plain_below kind.Arrow g h e f i j l m = absurd (i refl)
plain_below kind.Method g h e f i j l m = absurd (j refl)
plain_below (kind.FnDecl n) g h e f i j l m = absurd (l n refl)
plain_below (kind.ExportDefaultFn n) g h e f i j l m = absurd (m n refl)
plain_below k g h e f i j l m = refl
