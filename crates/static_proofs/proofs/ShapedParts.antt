-- Trees whose nodes stand where they may, by their parts; and how many nodes a tree has.
use Rattle.std.proofs.Common.{◌≡◌, ℕ, ◌+◌, ◌≤◌, Bool, true, ◌&&◌, ◌||◌, List, [], ◌∷◌, refl, sym, ap, ◌∙◌, arith}
use Rattle.std.specs.Prelude.{Option, Some, None}
use Rattle.std.specs.declared.alloc.Global.{Global}
use Rattle.std.specs.declared.boxed.Box.{Box}
use Rattle.std.proofs.lemmas.Bool.{and_parts, and_from, or_left, or_right, false≢true}
use Rattle.swc_ast.specs.declared.Span.{Span}
use Rattle.swc_ast.specs.Tree.{Label, TypeOfName, CallDot, CallIndex, Method, For, Tree, node, Forest, ε, ◌⊳◌, Body, Import, ExportDecl, ExportDefaultFn, ExportDefaultExpr, label_of}
use Rattle.swc_ast.specs.Parts.{then_all, list_trees, optional_trees, tree_or_absent}
use Rattle.swc_ast.specs.Labels.{is_declaration, is_params, is_body}
use Rattle.static_proofs.specs.Shaped.{is_inner, is_holder, is_statement, is_head, are_parts, labels_of, all_labels, holds, is_shaped, are_shaped, is_whole_item, is_body_or_inner}
use Rattle.static_proofs.proofs.Thinned.{labels_cons}

-- a node, and more where the view of a node takes another one up
abbrev own_size : Label → ℕ
own_size (TypeOfName x) = 2
own_size (CallDot k) = 2
own_size CallIndex = 2
own_size _ = 1

abbrev mutual
  pub nodes : Tree → ℕ
  nodes (node l ss cs) = own_size l + nodes_all cs

  pub nodes_all : Forest → ℕ
  nodes_all ε = 0
  nodes_all (t ⊳ ts) = nodes t + nodes_all ts

pub some_node : (t : Tree) → 1 ≤ nodes t
some_node (node l ss cs) = omega (arith, own l)
  where
    own : (l : Label) → 1 ≤ own_size l
    own (TypeOfName x) = omega arith
    own (CallDot k) = omega arith
    own CallIndex = omega arith
    own l = omega arith

-- a shaped tree with one of some labels
pub record Good (p : Label → Bool) (t : Tree) : Type 0 where
  pub stands : p (label_of t) ≡ true
  pub shaped : is_shaped t ≡ true

pub inner_statement : (l : Label) → is_inner l ≡ true → is_statement l ≡ true
inner_statement l e = or_left (is_inner l) _ e

pub declared_statement : (l : Label) → is_declaration l ≡ true → is_statement l ≡ true
declared_statement l e = or_right (is_inner l) (is_holder l || is_declaration l) (or_right (is_holder l) (is_declaration l) e)

pub statement_item : (l : Label) → is_statement l ≡ true → is_whole_item l ≡ true
statement_item (Import src) e = refl
statement_item ExportDecl e = refl
statement_item (ExportDefaultFn o) e = refl
statement_item ExportDefaultExpr e = refl
statement_item l e = e

pub a_body : (l : Label) → is_body l ≡ true → is_body_or_inner l ≡ true
a_body Body e = refl
a_body l e = absurd (false≢true e)

pub nodes_then : (ts us : Forest) → nodes_all (then_all ts us) ≡ nodes_all ts + nodes_all us
nodes_then ε us = omega arith
nodes_then (t ⊳ ts) us = omega (arith, nodes_then ts us)
