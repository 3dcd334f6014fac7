-- What a node declares.
use Rattle.std.specs.Prelude.{◌≡◌, true, false}
use Rattle.swc_ast.specs.Redex.{is_dummy}
use Rattle.swc_ast.specs.Statements.{declarator_tree}
use Rattle.swc_ast.specs.Tree.{Label, Tree, Forest, ε, ◌⊳◌, label_of, spans_of}
use Rattle.swc_ast.specs.Views.{expr_tree}
use Rattle.link_proofs.specs.Links.{Put, nothing}
use Rattle.carry_rules.specs.Carry.{Pass, groups, is_declaring, is_nowhere, literal_put}
use Rattle.carry_reads.specs.declared.declaration.Declares.{Declares}
use Rattle.carry_reads.specs.declared.declaration.Declares.TheVariants as a

abbrev pub IsDeclared : Declares → Tree → Type 0
IsDeclared (a.Group s) t = (groups (label_of t) ≡ true) × (is_nowhere (spans_of t) ≡ is_dummy s)
IsDeclared (a.One k n) t = t ≡ declarator_tree expr_tree k n.now
IsDeclared a.Other t = is_declaring (label_of t) ≡ false

-- the literal that a node is, with its children
abbrev pub leaf_put : Pass → Label → Forest → Put
leaf_put p l ε = literal_put p l
leaf_put p l (t ⊳ ts) = nothing
