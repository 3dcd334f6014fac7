-- The trees of known values, and small trees round others. The spans of a new node are the caller's.
use Rattle.std.specs.Fmt.{signed_decimal}
use Rattle.std.specs.Prelude.{Bool, List, None, Option, Some, codes, pos, zero, ℕ}
use Rattle.swc_ast.specs.Operators.{NotANumber, Numeric, Whole}
use Rattle.swc_ast.specs.Tree.{BoolLit, Forest, NumLit, Read, Seq, StrLit, Tree, Unary, node, ε, ◌⊳◌}
use Rattle.swc_ast.specs.declared.Span.{Span}
use Rattle.swc_ast.specs.declared.UnaryOp.TheVariants.{Void}

-- a number as a tree; NaN is written as the unresolved name
abbrev pub number_tree : ℕ → List Span → Numeric → Tree
number_tree mark rs NotANumber = node (Read (record { text = codes "NaN"; context = mark })) rs ε
number_tree mark rs (Whole z) = node (NumLit z) rs ε

-- a truth as a tree
abbrev pub truth_tree : List Span → Bool → Tree
truth_tree rs b = node (BoolLit b) rs ε

-- a text as a tree
abbrev pub text_tree : List Span → List ℕ → Tree
text_tree rs t = node (StrLit t) rs ε

-- `void 0`
abbrev pub void_tree : List Span → List Span → Tree
void_tree rs zs = node (Unary Void) rs (node (NumLit (pos zero)) zs ε ⊳ ε)

-- `(0, e)`
abbrev pub guarded : List Span → List Span → Tree → Tree
guarded rs zs t = node Seq rs (node (NumLit (pos zero)) zs ε ⊳ t ⊳ ε)

-- one item as itself, more as a sequence
abbrev pub as_sequence : List Span → Forest → Tree
as_sequence rs (t ⊳ ε) = t
as_sequence rs ts = node Seq rs ts

-- the text of a key that is a literal
abbrev pub key_text_of : Tree → Option (List ℕ)
key_text_of (node (StrLit t) ss ε) = Some t
key_text_of (node (NumLit z) ss ε) = Some (signed_decimal z)
key_text_of _ = None
