-- Names that are declared with literals are carried in resolved modules and scripts of the core.
use Rattle.std.proofs.Common.{◌≡◌, ℕ, ◌+◌, ◌≤◌, Bool, true, false, ◌&&◌, List, arith}
use Rattle.swc_ast.specs.declared.Span.{Span}
use Rattle.swc_ast.specs.Tree.{Name, Label, Tree, node, Forest, ε, ◌⊳◌}
use Rattle.swc_ast.specs.Resolved.{IsResolved}
use Rattle.swc_ast.specs.Core.{IsCore}
use Rattle.static_proofs.specs.Shaped.{IsShaped}
use Rattle.swc_ast.specs.Labels.{is_whole}
use Rattle.carry_rules.specs.Carry.{Pass, constants, inlines, facts, declares_lexical, one, how_many, may_carry}
use Rattle.carry_rules.specs.Late.{is_carried, declares_literal}
use Rattle.carry_proofs.specs.Laws.{Stays}
use Rattle.carry_proofs.proofs.Counts.{at, both, with_variables, with_imports, of_lexical}
use Rattle.carry_proofs.proofs.Steady.{Sole, steady_shows, constant_shows}
use Rattle.carry_proofs.proofs.Lexical.{lexical_sole}

one_and : (a b : Bool) → one (a && b) ≤ one a
one_and true true = omega arith
one_and true false = omega arith
one_and false b = omega arith

literal_lexical : (p : Pass) (x : Name) (l : Label) (cs : Forest) → one (declares_literal p x l cs) + one false ≤ one (at declares_lexical x l cs)
literal_lexical p x l (node m ss ε ⊳ ε) = omega (arith, one_and (declares_lexical x l) (is_carried p m))
literal_lexical p x l ε = omega arith
literal_lexical p x l (node m ss (c ⊳ cs) ⊳ ts) = omega arith
literal_lexical p x l (node m ss ε ⊳ t ⊳ ts) = omega arith

lexical : (p : Pass) (x : Name) (t : Tree) → how_many (declares_literal p x) t ≤ how_many (at declares_lexical x) t
lexical p x t = omega (arith, both (declares_literal p x) (λ l cs. false) (at declares_lexical x) (literal_lexical p x) t)

kept : (p : Pass) (x : Name) (t : Tree) → Sole t x → Stays p x t → 1 ≤ how_many (at declares_lexical x) t → may_carry p (facts t) x ≡ true
kept constants x t s k h = constant_shows t x (record { sole = s; once = omega (arith, k, s.once, of_lexical x t, with_variables x t) })
kept inlines x t s k h = steady_shows t x (record { sole = s; unwritten = k; no_variable = omega (arith, h, s.once, with_variables x t); no_import = omega (arith, h, s.once, with_imports x t) })

pub literal_carried : (p : Pass) {mark : ℕ} (l : Label) (ss : List Span) (cs : Forest) → is_whole l ≡ true → IsShaped (node l ss cs) → IsResolved mark (node l ss cs) → IsCore (node l ss cs) → (x : Name) → Stays p x (node l ss cs) → 1 ≤ how_many (declares_literal p x) (node l ss cs) → may_carry p (facts (node l ss cs)) x ≡ true
literal_carried p l ss cs i a r c x k h = kept p x (node l ss cs) (lexical_sole x l ss cs i a.shaped c.is_valid c.fits_core (r.bound_once x) some) k some
  where
    some : 1 ≤ how_many (at declares_lexical x) (node l ss cs)
    some = omega (arith, h, lexical p x (node l ss cs))
