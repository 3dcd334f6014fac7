-- Expressions that are literals throughout.
use Rattle.std.specs.Prelude.{Bool, true, false, ◌&&◌, List, [], ◌∷◌}
use Rattle.swc_ast.specs.Tree.{ItemKind, Plain, NumLit, StrLit, BoolLit, NullLit, Template, Array, Object, KeyValue, PlainKey, Tree, node, Forest, ε, ◌⊳◌}
use Rattle.swc_ast.specs.declared.expressions.Expr.{Expr}
use Rattle.swc_ast.specs.declared.expressions.PropName.{PropName}
use Rattle.swc_ast.specs.declared.expressions.PropName.TheVariants as key
use Rattle.swc_utils.specs.Pure.{no_trees}

-- neither holes nor spreads
abbrev pub all_plain : List ItemKind → Bool
all_plain [] = true
all_plain (Plain ∷ ks) = all_plain ks
all_plain (k ∷ ks) = false

-- a key that is not computed
abbrev pub is_plain_key : PropName Expr → Bool
is_plain_key (key.Computed n) = false
is_plain_key _ = true

abbrev mutual
  -- number, text, truth and null literals; templates without expressions; arrays without hole or spread and objects
  -- of `key: value` without computed keys, of such
  pub is_literal : Tree → Bool
  is_literal (node (NumLit z) ss ts) = true
  is_literal (node (StrLit t) ss ts) = true
  is_literal (node (BoolLit b) ss ts) = true
  is_literal (node NullLit ss ts) = true
  is_literal (node (Template qs) ss ts) = no_trees ts
  is_literal (node (Array ks) ss ts) = all_plain ks && all_literal ts
  is_literal (node Object ss ts) = literal_properties ts
  is_literal _ = false

  -- the same of several
  pub all_literal : Forest → Bool
  all_literal ε = true
  all_literal (t ⊳ ts) = is_literal t && all_literal ts

  -- a property with a key that is not computed, and such a value
  pub literal_property : Tree → Bool
  literal_property (node KeyValue ss (node (PlainKey k) rs ε ⊳ t ⊳ ε)) = is_literal t
  literal_property _ = false

  -- the same of several
  pub literal_properties : Forest → Bool
  literal_properties ε = true
  literal_properties (t ⊳ ts) = literal_property t && literal_properties ts
