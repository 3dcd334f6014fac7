-- The key of a property that was only a name is its text, in brackets or not, and binds nothing.
use Rattle.std.proofs.Common.{◌≡◌, Bool, true, false, ◌&&◌, List, [], ◌∷◌, refl, sym, ap, ap₂, ◌∙◌, if◌then◌else◌}
use Rattle.std.specs.Prelude.{string_bytes}
use Rattle.swc_ast.specs.declared.Span.{Span}
use Rattle.swc_ast.specs.Core.{fits}
use Rattle.swc_ast.specs.Resolved.{own_scopes, scopes, Targets, aimed, apart}
use Rattle.swc_ast.specs.Tree.{Text, Name, NameKey, StrLit, PlainKey, ComputedKey, Tree, node, ε, ◌⊳◌}
use Rattle.swc_ast.specs.Valid.{is_word, valid}
use Rattle.swc_ast.specs.Views.{expr_tree}
use Rattle.swc_ast.specs.declared.expressions.Expr.{Expr}
use Rattle.swc_ast.specs.declared.expressions.Expr.TheVariants as in_expr
use Rattle.swc_ast.specs.declared.literals.Lit.TheVariants as lit
use Rattle.swc_ast.specs.declared.literals.Str.{Str}
use Rattle.swc_ast.proofs.Equations.{expr_tree-Lit}
use Rattle.tree_put.specs.Keys.{is_proto, property_key, IsKey, plain_key, text_key}

pub key_is : (k : Text) (ss : List Span) → IsKey k (property_key k ss)
key_is k ss = by (is_proto k)
  where
    by : (b : Bool) → IsKey k (if b then node ComputedKey ss (node (StrLit k) ss ε ⊳ ε) else node (PlainKey (NameKey k)) ss ε)
    by true = text_key
    by false = plain_key

-- the text literal in brackets
pub bracketed : (k : Text) (s : Span) (e : Expr) (n : Str) → e ≡ in_expr.Lit (lit.Str n) → n.span ≡ s → string_bytes n.value ≡ k → is_proto k ≡ true → node ComputedKey (s ∷ []) (expr_tree e ⊳ ε) ≡ property_key k (s ∷ [])
bracketed k s e n is at text h =
    ap (λ t. node ComputedKey (s ∷ []) (t ⊳ ε)) (ap expr_tree is ∙ expr_tree-Lit (lit.Str n) ∙ ap₂ (λ t r. node (StrLit t) (r ∷ []) ε) text at)
    ∙ ap (λ b. if b then node ComputedKey (s ∷ []) (node (StrLit k) (s ∷ []) ε ⊳ ε) else node (PlainKey (NameKey k)) (s ∷ []) ε) (sym h)

pub key_binds : {k : Text} {t : Tree} → IsKey k t → (x : Name) → scopes x t ≡ 0
unfolding own_scopes
key_binds plain_key x = refl
key_binds text_key x = refl

pub key_aimed : {k : Text} {t : Tree} → IsKey k t → (g : Targets) → aimed g t ≡ true
key_aimed plain_key g = refl
key_aimed text_key g = refl

pub key_apart : {k : Text} {t : Tree} → IsKey k t → apart t ≡ true
key_apart plain_key = refl
key_apart text_key = refl

pub key_fits : {k : Text} {t : Tree} → IsKey k t → fits t ≡ true
key_fits plain_key = refl
key_fits text_key = refl

-- the text of a name is a word
pub key_valid : {k : Text} {t : Tree} → IsKey k t → is_word k ≡ true → valid t ≡ true
key_valid plain_key h = ap (λ b. (b && true) && true) h
key_valid text_key h = refl
