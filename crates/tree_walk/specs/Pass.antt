-- What a pass may do: which steps it takes at a node before its children are walked, at one whose children are walked, and
-- at the list of statements that a node holds; what is known of nodes and lists that it leaves as they are; and of nodes that
-- it doesn't enter.
use Rattle.std.specs.Prelude.{Bool, true, false, not, ◌&&◌, []}
use Rattle.swc_ast.specs.Tree.{Label, SpreadRecord, KeyValue, Shorthand, Method, PlainKey, ComputedKey, Params, Body, Param, Block, Absent, CaseBody, VarDecl, Declarator, FnDecl, Module, Script, For, Import, ImportNamed, ImportDefault, ImportStar, ExportDecl, ExportSpecifier, Tree, node, Forest, ε, ◌⊳◌}
use Rattle.swc_ast.specs.Weight.{is_list}

pub record Pass : Type 1 where
  -- what a node becomes before its children are walked
  pub opens : Tree → Tree → Type 0
  -- what a node becomes behind that
  pub steps : Tree → Tree → Type 0
  -- a node that stays, as no rule fits it
  pub rests : Tree → Type 0
  -- what the children of a node of a label become, where they are a list of statements
  pub tidies : Label → Forest → Forest → Type 0
  -- a list that stays, as no rule fits it
  pub tidy : Label → Forest → Type 0
  -- a node that is not entered
  pub skips : Tree → Type 0

-- A label whose nodes each go through the rules. A block, a declaration of variables and one of a function do where they
-- are statements: the block of a `try` is none, and neither is what is exported or stands in the head of a loop.
abbrev pub is_visited : Label → Bool
is_visited SpreadRecord = false
is_visited KeyValue = false
is_visited (Shorthand x) = false
is_visited Method = false
is_visited (PlainKey k) = false
is_visited ComputedKey = false
is_visited Params = false
is_visited Body = false
is_visited (Param x) = false
is_visited Block = false
is_visited Absent = false
is_visited CaseBody = false
is_visited (VarDecl k) = false
is_visited (Declarator k x) = false
is_visited (FnDecl x) = false
is_visited Module = false
is_visited Script = false
is_visited (ImportNamed x i) = false
is_visited (ImportDefault x) = false
is_visited (ImportStar x) = false
is_visited (ExportSpecifier x i) = false
is_visited _ = true

-- A label whose nodes may go unseen. A declaration of variables may not: where it stands in the head of a loop, or is exported,
-- that is told with the node round it.
abbrev pub may_pass : Label → Bool
may_pass (VarDecl k) = false
may_pass l = not (is_visited l)

-- an import, or a declaration that is exported
abbrev pub is_apart : Label → Bool
is_apart ExportDecl = true
is_apart (Import src) = true
is_apart _ = false

-- a node whose children are walked one by one: neither a list of statements, nor an import, nor an exported declaration
abbrev pub walks_each : Label → Bool
walks_each l = not (is_list l) && not (is_apart l)

-- a `for` of which only the head is there, to say of a head that it is not entered
abbrev pub only_head : Tree → Tree
only_head h = node For [] (h ⊳ ε)

-- no node of a forest goes through the rules
abbrev mutual
  pub is_unvisited : Tree → Bool
  is_unvisited (node l ss cs) = walks_each l && (may_pass l && are_unvisited cs)

  pub are_unvisited : Forest → Bool
  are_unvisited ε = true
  are_unvisited (t ⊳ ts) = is_unvisited t && are_unvisited ts

-- the same of the nodes below one
abbrev pub is_shallow : Tree → Bool
is_shallow (node l ss cs) = walks_each l && are_unvisited cs
