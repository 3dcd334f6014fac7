-- What is put at reads, one after another, as the walk that puts asks for it.
use Rattle.std.specs.Prelude.{Bool, true, false, not, ◌&&◌, if◌then◌else◌, List, [], ◌∷◌}
use Rattle.swc_ast.specs.declared.Span.{Span}
use Rattle.swc_ast.specs.declared.UnaryOp.TheVariants.{TypeOf}
use Rattle.swc_ast.specs.Expressions.{is_eval}
use Rattle.swc_ast.specs.Tree.{Name, Label, Read, Shorthand, TypeOfName, Unary, Assign, AssignDot, AssignIndex, Update, UpdateDot, UpdateIndex, Tree, node, Forest, ε, ◌⊳◌}
use Rattle.link_proofs.specs.Links.{Put, nothing, a_name, a_value}
use Rattle.carry_rules.specs.Carry.{Pass, constants, inlines, Facts, Carried, read_put, value_tree, put_tree, enter, after}
use Rattle.tree_put.specs.Put.{behind, as_property}
use Rattle.tree_put.specs.Puts.{Answer, enter as entered, stay, become, Puts}
use Rattle.tree_put.specs.declared.rules.Spot.{Spot}
use Rattle.tree_put.specs.declared.rules.Spot.TheVariants as spot
use Rattle.given_rules.specs.Put.{front}

-- something may be put for a name at a spot: not where `eval` is called by its name
abbrev pub is_asked : Pass → Spot → Name → Bool
is_asked p spot.Callee y = not (is_eval y)
is_asked constants spot.Property y = true
is_asked inlines spot.Property y = false
is_asked p o y = true

abbrev pub put_answer : Name → List Span → Put → Answer
put_answer y ss nothing = entered
put_answer y ss q = become (put_tree y q ss)

-- what is put next
abbrev pub taken : Pass → Name → List Span → List Put → Answer × (Pass × List Put)
taken p y ss [] = (entered, (p, []))
taken p y ss (q ∷ qs) = (put_answer y ss q, (p, qs))

-- an expression in which nothing is put
abbrev pub is_written : Label → Bool
is_written (Assign op y) = true
is_written (AssignDot op k) = true
is_written (AssignIndex op) = true
is_written (Update op prefix y) = true
is_written (UpdateDot op prefix k) = true
is_written (UpdateIndex op prefix) = true
is_written l = false

abbrev pub is_constants : Pass → Bool
is_constants constants = true
is_constants inlines = false

abbrev pub stays : Pass → Label → Bool
stays p l = is_written l && is_constants p

abbrev pub stays_or_enters : Pass → Label → Answer
stays_or_enters p l = if stays p l then stay else entered

abbrev pub put_expression : Pass × List Put → Spot → Tree → Answer × (Pass × List Put)
put_expression k o (node (Read y) ss cs) = if is_asked k.0 o y then taken k.0 y ss k.1 else (entered, k)
put_expression k o (node l ss cs) = (stays_or_enters k.0 l, k)

-- what is left to put is carried in the order of the text
abbrev pub putting : Puts (Pass × List Put)
putting = record {
  expression = put_expression;
  opens = λ k l ts. k;
  closes = λ k. k;
  declares = λ k t. k;
  exports = λ k t. (t, k);
}

-- a node, or what is put in its place
abbrev pub replaced : Put → Label → List Span → Forest → Tree
replaced nothing l ss cs = node l ss cs
replaced q (Read y) ss cs = put_tree y q ss
replaced (a_name x) (TypeOfName y) ss cs = node (TypeOfName x) ss ε
replaced (a_value v) (TypeOfName y) ss cs = node (Unary TypeOf) (front ss) (value_tree v (behind ss) ⊳ ε)
replaced q (Shorthand y) ss cs = as_property y ss (put_tree y q ss)
replaced q l ss cs = node l ss cs

module _ (p : Pass) (F : Facts) where
  abbrev mutual
    -- what a tree becomes
    pub placed : Carried → Tree → Tree
    placed s (node l ss cs) = replaced (read_put p s l) l ss (placed_all (enter p F l ss cs s) cs)

    pub placed_all : Carried → Forest → Forest
    placed_all s ε = ε
    placed_all s (t ⊳ ts) = placed s t ⊳ placed_all (after p F s t) ts
