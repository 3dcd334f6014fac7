-- What the walk makes is what is written, up to spans.
use Rattle.std.proofs.Common.{◌≡◌, true, false, List, [], Result, Ok, Err, IfOk, OnOk, refl, sym, ap, ap₂, ◌∙◌}
use Rattle.std.proofs.lemmas.List.{append-nil}
use Rattle.swc_ast.specs.declared.Span.{Span}
use Rattle.swc_ast.specs.declared.UnaryOp.TheVariants.{TypeOf}
use Rattle.swc_ast.specs.Tree.{Name, Label, Read, TypeOfName, Shorthand, Unary, Tree, node, Forest, ε, ◌⊳◌, bare, bares}
use Rattle.swc_ast.specs.Value.{Value, Null, Truth, Num, Text as TextValue}
use Rattle.link_proofs.specs.Links.{Put, nothing, a_name, a_value}
use Rattle.carry_rules.specs.Carry.{Pass, constants, inlines, Facts, facts, Carried, read_put, value_tree, rebuilt, enter, after, starting, written, written_all}
use Rattle.tree_put.specs.Put as walk
use Rattle.tree_put.specs.Put.{behind}
use Rattle.tree_put.specs.Walks.{Makes}
use Rattle.given_rules.specs.Formed.{formed}
use Rattle.given_rules.specs.Put.{here}
use Rattle.carry_parts.specs.Reads.{reads}
use Rattle.carry_puts.specs.Placed.{putting, replaced, placed, placed_all}
use Rattle.carry_puts.specs.Values.{IsPut}
use Rattle.carry_puts.proofs.Clear.{starting_clear}
use Rattle.carry_puts.proofs.Consumed.{consumes, stands_here}

bare_value : (v : Value) (ss rs : List Span) → bare (value_tree v ss) ≡ bare (value_tree v rs)
bare_value (Num z) ss rs = refl
bare_value (TextValue t) ss rs = refl
bare_value (Truth b) ss rs = refl
bare_value Null ss rs = refl
bare_value v ss rs = refl

read_same : (x : Name) (ss : List Span) (us ws : Forest) (q : Put) → bares us ≡ bares ws → bare (replaced q (Read x) ss us) ≡ bare (rebuilt q (Read x) ss ws)
read_same x ss us ws nothing e = ap (node (Read x) []) e
read_same x ss us ws (a_name z) e = refl
read_same x ss us ws (a_value v) e = refl

type_same : (x : Name) (ss : List Span) (us ws : Forest) (q : Put) → bares us ≡ bares ws → bare (replaced q (TypeOfName x) ss us) ≡ bare (rebuilt q (TypeOfName x) ss ws)
type_same x ss us ws nothing e = ap (node (TypeOfName x) []) e
type_same x ss us ws (a_name z) e = refl
type_same x ss us ws (a_value v) e = ap (λ t. node (Unary TypeOf) [] (t ⊳ ε)) (bare_value v (behind ss) ss)

short_same : (x : Name) (ss : List Span) (us ws : Forest) (q : Put) → bares us ≡ bares ws → bare (replaced q (Shorthand x) ss us) ≡ bare (rebuilt q (Shorthand x) ss ws)
short_same x ss us ws nothing e = ap (node (Shorthand x) []) e
short_same x ss us ws (a_name z) e = refl
short_same x ss us ws (a_value v) e = refl

module _ (p : Pass) (F : Facts) where
  node_same : (s : Carried) (l : Label) (ss : List Span) (us ws : Forest) → bares us ≡ bares ws → bare (replaced (read_put p s l) l ss us) ≡ bare (rebuilt (read_put p s l) l ss ws)
  node_same s (Read x) ss us ws e = read_same x ss us ws (read_put p s (Read x)) e
  node_same s (TypeOfName x) ss us ws e = type_same x ss us ws (read_put p s (TypeOfName x)) e
  node_same s (Shorthand x) ss us ws e = short_same x ss us ws (read_put p s (Shorthand x)) e
  node_same s l ss us ws e = ap (node l []) e

  mutual
    pub placed_written : (s : Carried) (t : Tree) → bare (placed p F s t) ≡ bare (written p F s t)
    placed_written s (node l ss cs) = node_same s l ss (placed_all p F (enter p F l ss cs s) cs) (written_all p F (enter p F l ss cs s) cs) (all_written (enter p F l ss cs s) cs)

    all_written : (s : Carried) (ts : Forest) → bares (placed_all p F s ts) ≡ bares (written_all p F s ts)
    all_written s ε = refl
    all_written s (t ⊳ ts) = ap₂ ◌⊳◌ (placed_written s t) (all_written (after p F s t) ts)

starting_loud : (p : Pass) (F : Facts) → (starting p F).quiet ≡ false
starting_loud constants F = refl
starting_loud inlines F = refl

-- a whole tree
pub whole_put : (p : Pass) (qs : List Put) (t u : Tree) (r : Pass × List Put) → formed t ≡ true → Makes putting t (p, qs) here u r → IsPut p qs t u
whole_put p qs t u r f m e =
    let s = starting p (facts t) in
    ap (λ k. bare k.0) (sym m.is ∙ ap (λ k. walk.put putting t (p, k) here) (e ∙ sym (append-nil (reads p (facts t) s t))) ∙ consumes p (facts t) t f s [] here (starting_clear p (facts t) p) (starting_loud p (facts t)) (stands_here p t))
    ∙ placed_written p (facts t) s t

-- the same of a call
pub call_put : {A E : Type 0} (k : Result A E) (p : Pass) (qs : List Put) (t u : Tree) (r : Pass × List Put) → formed t ≡ true → IfOk k (λ x. Makes putting t (p, qs) here u r) → OnOk k (IsPut p qs t u)
call_put (Ok x) p qs t u r f m = whole_put p qs t u r f m
call_put (Err e) p qs t u r f m = m
