-- What is given once flags are read, one after another: the last one of a key counts.
use Rattle.std.specs.Prelude.{◌≡◌, ◌<◌, ◌^◌, Bool, true, false, ◌&&◌, ◌||◌, if◌then◌else◌, List, [], ◌∷◌, ◌++◌, length, Option, Some, option_map, string_bytes, bytes_eq}
use Rattle.std.specs.BTreeMap.{get_by_text}
use Rattle.swc_ast.specs.Core.{IsCore}
use Rattle.swc_ast.specs.Marks.{mark_number}
use Rattle.swc_ast.specs.Resolved.{IsResolved}
use Rattle.swc_ast.specs.Tree.{Text, StrLit, Read, Dot, Index, Tree, node, ε, ◌⊳◌}
use Rattle.swc_ast.specs.Views.{expr_tree}
use Rattle.swc_ast.specs.declared.names.Mark.{Mark}
use Rattle.swc_expr_map.specs.Entries.{found}
use Rattle.swc_expr_map.specs.Order.{same_key}
use Rattle.given_rules.specs.Givable.{IsGivable}
use Rattle.const_imports.specs.Views.{is_given, value_of}
use Rattle.shake_options.specs.Flags.{FlagText, defined, an_env, a_type, a_const}
use Rattle.shake_given.specs.declared.given.Given.{Given}

abbrev pub is_text : Tree → Bool
is_text (node (StrLit t) ss cs) = true
is_text t = false

-- a name, or a chain of members that begins with one, and whose keys are names and texts
abbrev pub is_chain : Tree → Bool
is_chain (node (Read x) ss cs) = true
is_chain (node (Dot k) ss (o ⊳ ε)) = is_chain o
is_chain (node Index ss (o ⊳ k ⊳ ε)) = is_text k && is_chain o
is_chain t = false

abbrev pub IsChain : Tree → Type 0
IsChain t = is_chain t ≡ true

-- a text as a literal
abbrev pub literal : Text → Tree
literal t = node (StrLit t) (record { lo = 0; hi = 0 } ∷ []) ε

-- what the reader tells of a text that it reads as an expression; its contract doesn't say which expression
pub record IsRead (text : Text) (mark : Mark) (t : Tree) : Type 0 where
  pub short : length text < 2 ^ 31
  pub resolved : IsResolved (mark_number mark) t
  pub core : IsCore t

-- a text that is read as an expression of which something holds
pub record ReadAs (text : Text) (mark : Mark) (P : Tree → Type 0) : Type 0 where
  pub tree : Tree
  pub read : IsRead text mark tree
  pub holds : P tree

-- what is given for a read, by the maps
abbrev pub env_of : Given → Text → Option Tree
env_of g k = option_map expr_tree (get_by_text g.names.envs k)

abbrev pub type_of : Given → Text → Option Text
type_of g x = option_map string_bytes (get_by_text g.names.typeofs x)

abbrev pub export_of : Given → Text → Text → Option Tree
export_of g m x = option_map expr_tree (value_of g.modules m x)

-- nothing is given
pub record IsNothing (g : Given) : Type 0 where
  pub exprs : g.names.exprs ≡ []
  pub envs : g.names.envs.entries ≡ []
  pub typeofs : g.names.typeofs.entries ≡ []
  pub modules : g.modules.modules.entries ≡ []

-- a value at a chain, as their texts are read
pub record Defines (k v : Text) (mark : Mark) (g h : Given) : Type 0 where
  pub key : ReadAs k mark IsChain
  pub value : ReadAs v mark IsGivable
  pub exprs : (t : Tree) → found t h.names.exprs ≡ (if same_key t key.tree then Some value.tree else found t g.names.exprs)
  pub envs : h.names.envs ≡ g.names.envs
  pub typeofs : h.names.typeofs ≡ g.names.typeofs
  pub modules : h.modules ≡ g.modules

-- a text at a member of `process.env`
pub record SetsEnv (k t : Text) (g h : Given) : Type 0 where
  pub envs : (x : Text) → env_of h x ≡ (if bytes_eq k x then Some (literal t) else env_of g x)
  pub exprs : h.names.exprs ≡ g.names.exprs
  pub typeofs : h.names.typeofs ≡ g.names.typeofs
  pub modules : h.modules ≡ g.modules

-- a text at `typeof` of a name
pub record SetsType (k t : Text) (g h : Given) : Type 0 where
  pub typeofs : (x : Text) → type_of h x ≡ (if bytes_eq k x then Some t else type_of g x)
  pub exprs : h.names.exprs ≡ g.names.exprs
  pub envs : h.names.envs ≡ g.names.envs
  pub modules : h.modules ≡ g.modules

-- a value at an export of a module
pub record SetsExport (m k : Text) (value : Tree) (g h : Given) : Type 0 where
  pub modules : (s : Text) → is_given h.modules s ≡ (bytes_eq m s || is_given g.modules s)
  pub exports : (s x : Text) → export_of h s x ≡ (if bytes_eq m s && bytes_eq k x then Some value else export_of g s x)
  pub names : h.names ≡ g.names

-- the same, as its text is read
pub record Exports (m k v : Text) (mark : Mark) (g h : Given) : Type 0 where
  pub value : ReadAs v mark IsGivable
  pub sets : SetsExport m k value.tree g h

-- what was given, and what is given once a flag is read
abbrev pub Takes : FlagText → Mark → Given → Given → Type 0
Takes (defined k v) mark g h = Defines k v mark g h
Takes (an_env k t) mark g h = SetsEnv k t g h
Takes (a_type x t) mark g h = SetsType x t g h
Takes (a_const m x v) mark g h = Exports m x v mark g h

-- what is given once flags are read in their order
pub data Reads (mark : Mark) : List FlagText → Given → Type 0 where
  no_flags : {g : Given} → IsNothing g → Reads mark [] g
  one_more : (fs : List FlagText) (f : FlagText) (g : Given) {h : Given} → Reads mark fs g → Takes f mark g h → Reads mark (fs ++ f ∷ []) h
