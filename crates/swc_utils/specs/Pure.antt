-- Expressions whose runs change nothing, ask nothing and throw nothing.
use Rattle.std.specs.Prelude.{ℕ, Bool, true, false, not, ◌&&◌, ◌||◌, List, [], ◌∷◌, None}
use Rattle.swc_ast.specs.declared.UnaryOp.TheVariants.{Delete}
use Rattle.swc_ast.specs.declared.BinaryOp.TheVariants.{In, InstanceOf}
use Rattle.swc_ast.specs.Tree.{ItemKind, Spread, Label, NumLit, StrLit, BoolLit, NullLit, This, Read, Template, Array, Object, KeyValue, Shorthand, Method, PlainKey, ComputedKey, Fn, Arrow, Params, Body, Unary, TypeOfName, Binary, Cond, Seq, Call, Tree, node, Forest, ε, ◌⊳◌}
use Rattle.swc_utils.specs.Globals.{is_host_name}

-- whether there are no trees
abbrev pub no_trees : Forest → Bool
no_trees ε = true
no_trees (t ⊳ ts) = false

-- an empty list of parameters
abbrev pub is_no_params : Tree → Bool
is_no_params (node Params ss ts) = no_trees ts
is_no_params _ = false

-- an empty block as a body
abbrev pub is_empty_body : Tree → Bool
is_empty_body (node Body ss ts) = no_trees ts
is_empty_body _ = false

-- a function without a name, or an arrow
abbrev pub is_nameless : Label → Bool
is_nameless (Fn None) = true
is_nameless Arrow = true
is_nameless _ = false

-- no parameters, and an empty block for a body
abbrev pub does_nothing : Forest → Bool
does_nothing (p ⊳ b ⊳ ε) = is_no_params p && is_empty_body b
does_nothing _ = false

-- a nameless function or arrow without parameters and with an empty block body
abbrev pub is_pure_callee : Tree → Bool
is_pure_callee (node l ss ts) = is_nameless l && does_nothing ts

-- an item with dots in front
abbrev pub is_spread : ItemKind → Bool
is_spread Spread = true
is_spread _ = false

-- whether an item of an array is a spread
abbrev pub has_spread : List ItemKind → Bool
has_spread [] = false
has_spread (k ∷ ks) = is_spread k || has_spread ks

abbrev mutual
  -- a run of the expression changes nothing, asks nothing and throws nothing
  pub pure : ℕ → Tree → Bool
  pure mark (node (NumLit z) ss ts) = true
  pure mark (node (StrLit t) ss ts) = true
  pure mark (node (BoolLit b) ss ts) = true
  pure mark (node NullLit ss ts) = true
  pure mark (node This ss ts) = true
  pure mark (node (Fn o) ss ts) = true
  pure mark (node Arrow ss ts) = true
  pure mark (node (Read x) ss ts) = not (is_host_name mark x)
  pure mark (node (TypeOfName x) ss ts) = not (is_host_name mark x)
  pure mark (node (Template qs) ss ts) = pure_all mark ts
  pure mark (node (Array ks) ss ts) = not (has_spread ks) && pure_all mark ts
  pure mark (node Object ss ts) = pure_all mark ts
  pure mark (node KeyValue ss ts) = pure_all mark ts
  pure mark (node Method ss (k ⊳ p ⊳ b ⊳ ε)) = pure mark k
  pure mark (node (Shorthand x) ss ts) = not (is_host_name mark x)
  pure mark (node (PlainKey k) ss ts) = true
  pure mark (node ComputedKey ss ts) = pure_all mark ts
  pure mark (node (Unary Delete) ss ts) = false
  pure mark (node (Unary op) ss ts) = pure_all mark ts
  pure mark (node (Binary In) ss ts) = false
  pure mark (node (Binary InstanceOf) ss ts) = false
  pure mark (node (Binary op) ss ts) = pure_all mark ts
  pure mark (node Cond ss ts) = pure_all mark ts
  pure mark (node Seq ss ts) = pure_all mark ts
  pure mark (node Call ss (f ⊳ ts)) = is_pure_callee f && pure_all mark ts
  pure mark _ = false

  -- the same of several
  pub pure_all : ℕ → Forest → Bool
  pure_all mark ε = true
  pure_all mark (t ⊳ ts) = pure mark t && pure_all mark ts
