-- Where nothing is put: a tree stays, and nothing is asked for.
use Rattle.std.proofs.Common.{◌≡◌, true, ◌||◌, if◌then◌else◌, List, [], ◌++◌, refl, ap, ap₂, ◌∙◌}
use Rattle.swc_ast.specs.declared.Span.{Span}
use Rattle.swc_ast.specs.declared.VarDeclKind.TheVariants.{Var, Let, Const}
use Rattle.swc_ast.specs.Tree.{Name, Label, Read, TypeOfName, Shorthand, Declarator, Tree, node, Forest, ε, ◌⊳◌}
use Rattle.link_proofs.specs.Links.{nothing}
use Rattle.carry_rules.specs.Carry.{Pass, constants, inlines, Facts, Carried, put_unless, or_put, shorthand_put, read_put, is_exempt, enter, leave, behind, after, after_all}
use Rattle.carry_parts.specs.Reads.{asked, put_each, reads, reads_all}
use Rattle.carry_puts.specs.Placed.{replaced, placed, placed_all}

module _ (p : Pass) (F : Facts) where
  behind_quiet : (l : Label) (ss : List Span) (cs : Forest) (s : Carried) → (behind p F l ss cs s).quiet ≡ s.quiet
  behind_quiet (Declarator Var x) ss cs s = refl
  behind_quiet (Declarator Let x) ss cs s = refl
  behind_quiet (Declarator Const x) ss cs s = refl
  behind_quiet l ss cs s = refl

  pub after_quiet : (s : Carried) (t : Tree) → (after p F s t).quiet ≡ s.quiet
  after_quiet s (node l ss cs) = behind_quiet l ss cs (leave p F l s (after_all p F (enter p F l ss cs s) cs))

  pub entered_quiet : (s : Carried) (l : Label) (ss : List Span) (cs : Forest) → s.quiet ≡ true → (enter p F l ss cs s).quiet ≡ true
  entered_quiet s l ss cs q = ap (λ b. b || is_exempt p l) q

  -- nothing is put
  quiet_shorthand : (r : Pass) (s : Carried) (y : Name) → s.quiet ≡ true → shorthand_put r s y ≡ nothing
  quiet_shorthand constants s y q = ap (λ b. put_unless b (or_put (s.values y) (s.settled y))) q
  quiet_shorthand inlines s y q = refl

  quiet_put : (r : Pass) (s : Carried) (l : Label) → s.quiet ≡ true → read_put r s l ≡ nothing
  quiet_put r s (Read y) q = ap (λ b. put_unless b (or_put (s.values y) (s.settled y))) q
  quiet_put r s (TypeOfName y) q = ap (λ b. put_unless b (or_put (s.values y) (s.settled y))) q
  quiet_put r s (Shorthand y) q = quiet_shorthand r s y q
  quiet_put r s l q = refl

  mutual
    quiet_stays : (s : Carried) (t : Tree) → s.quiet ≡ true → placed p F s t ≡ t
    quiet_stays s (node l ss cs) q = ap (λ r. replaced r l ss (placed_all p F (enter p F l ss cs s) cs)) (quiet_put p s l q) ∙ ap (node l ss) (quiet_all_stay (enter p F l ss cs s) cs (entered_quiet s l ss cs q))

    pub quiet_all_stay : (s : Carried) (ts : Forest) → s.quiet ≡ true → placed_all p F s ts ≡ ts
    quiet_all_stay s ε q = refl
    quiet_all_stay s (t ⊳ ts) q = ap₂ ◌⊳◌ (quiet_stays s t q) (quiet_all_stay (after p F s t) ts (after_quiet s t ∙ q))

  mutual
    quiet_reads : (s : Carried) (t : Tree) → s.quiet ≡ true → reads p F s t ≡ []
    quiet_reads s (node l ss cs) q = ap₂ ◌++◌ (ap (λ b. if b then [] else put_each s (asked p l)) q) (quiet_all_reads (enter p F l ss cs s) cs (entered_quiet s l ss cs q))

    pub quiet_all_reads : (s : Carried) (ts : Forest) → s.quiet ≡ true → reads_all p F s ts ≡ []
    quiet_all_reads s ε q = refl
    quiet_all_reads s (t ⊳ ts) q = ap₂ ◌++◌ (quiet_reads s t q) (quiet_all_reads (after p F s t) ts (after_quiet s t ∙ q))
