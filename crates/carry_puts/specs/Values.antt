-- What the walk puts.
use Rattle.std.specs.Prelude.{ℤ, ◌≡◌, List, map, drop}
use Rattle.swc_ast.specs.declared.Span.{Span}
use Rattle.swc_ast.specs.declared.expressions.Expr.{Expr}
use Rattle.swc_ast.specs.declared.expressions.Expr.TheVariants as in_expr
use Rattle.swc_ast.specs.declared.literals.Lit.TheVariants as lit
use Rattle.swc_ast.specs.Tree.{Tree, bare}
use Rattle.link_proofs.specs.Links.{Put}
use Rattle.carry_rules.specs.Carry.{Pass, facts, starting, written}
use Rattle.carry_parts.specs.Carries.{pass_of, puts_of}
use Rattle.carry_parts.specs.Reads.{reads}
use Rattle.carry_puts.specs.declared.putting.Putting.{Putting}

abbrev pub number : Span → ℤ → Expr
number s z = in_expr.Lit (lit.Num (record { span = s; value = z }))

-- what is still to be put
abbrev pub state_of : Putting → Pass × List Put
state_of p = (pass_of p.pass, map puts_of (drop p.at p.reads.now.items))

-- where what is carried is put at each read, a tree becomes what is written, up to spans
abbrev pub IsPut : Pass → List Put → Tree → Tree → Type 0
IsPut p qs t u = qs ≡ reads p (facts t) (starting p (facts t)) t → bare u ≡ bare (written p (facts t) (starting p (facts t)) t)
