use Rattle.std.proofs.Common.{◌≡◌, sym, ap, subst, [], ◌∷◌, ◌∙◌}
use Rattle.swc_ast.specs.Parts.{ident_name, optional_trees}
use Rattle.swc_ast.specs.Tree.{Name}
use Rattle.swc_ast.specs.Views.{expr_tree}
use Rattle.link_proofs.specs.Links.{Put}
use Rattle.carry_rules.specs.Carry.{with_put}
use Rattle.carry_parts.specs.Carries.{pass_of, puts_of}
use Rattle.carry_reads.specs.Settles.{settled_of}
use Rattle.carry_reads.specs.States.{state_of}
use Rattle.carry_reads.proofs.Carrying.{settling_there}
use Rattle.carry_reads.proofs.Walking.{settled_steps}
use Rattle.carry_reads.proofs.reader.Reader.settle.Goals as goal

pub add-requires-clause-named : goal.add-requires-clause-named
add-requires-clause-named c =
    let r = c.args.self.now in let n = c.args.n.now in
    c.requires.fits.settled (ident_name n.name) (settling_there (pass_of r.pass) r.vars (state_of r c.args.tables.now c.args.place) (ident_name n.name) (n.span ∷ n.name.span ∷ []) (optional_trees expr_tree n.init) c.in-Some.carry (sym (ap puts_of c.in-Some.is) ∙ c.settling.ensures))

pub returns-in_ok-add-in-Some : goal.returns-in_ok-add-in-Some
returns-in_ok-add-in-Some c =
    let n = c.args.n.now in let u = c.args.tables.now in
    settled_steps c.args.self.now c.args.place u c.add.new.self n
    (subst (λ (p : Put). (x : Name) → settled_of c.add.new.self c.args.place.base x ≡ with_put (ident_name n.name) p (settled_of u.settled c.args.place.base) x) (sym (ap puts_of c.in-Some.is) ∙ c.settling.ensures) c.in_ok-add-in-Some.ensures.settles)
    c.in_ok-add-in-Some.ensures.grows
