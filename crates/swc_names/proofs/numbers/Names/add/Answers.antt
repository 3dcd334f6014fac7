use Rattle.std.proofs.Common.{◌≡◌, true, refl, sym, ap, subst, ◌∙◌, position}
use Rattle.swc_ast.specs.Parts.{ident_name}
use Rattle.swc_ast.specs.Tree.{same_name}
use Rattle.swc_names.specs.Ids.{key_name}
use Rattle.swc_names.specs.Names.{with_name}
use Rattle.swc_names.proofs.Distinct.{named, there, put}
use Rattle.swc_names.proofs.Numbered.{by_name, stored_at}
use Rattle.swc_names.proofs.numbers.Names.add.Goals as goal

pub returns-in-Some-clause-names : goal.returns-in-Some-clause-names
returns-in-Some-clause-names c =
    let x = ident_name c.args.name.now in
    subst (λ ns. ns ≡ with_name ns x) c.self.view_is (there x (key_name c.of.result) c.self.inside.set.keys true c.of.ensures c.in-Some.ensures.found refl)

pub returns-in-Some-clause-number : goal.returns-in-Some-clause-number
returns-in-Some-clause-number c =
    let k = key_name c.of.result in
    sym (c.in-Some.ensures.index ∙ by_name k c.self.inside.set.keys ∙ ap (position (same_name k)) c.self.view_is ∙ ap (λ x. position (same_name x) c.args.self.now) c.of.ensures)

pub returns-clause-names : goal.returns-clause-names
returns-clause-names c =
    let i = c.in_ok-to_id.field-0 in let n = c.args.name.now in
    put n i c.self.inside.set.keys c.insert_full.new.self.keys (named i n c.in_ok-to_id.ensures.text c.in_ok-to_id.ensures.context) c.in_ok-number.ensures.keys
    ∙ ap (λ ns. with_name ns (ident_name n)) c.self.view_is

pub returns-clause-number : goal.returns-clause-number
returns-clause-number c =
    let i = c.in_ok-to_id.field-0 in let n = c.args.name.now in let at = c.in_ok-number.ensures.stored in
    stored_at (ident_name n) i at.0 c.insert_full.new.self.keys _ (named i n c.in_ok-to_id.ensures.text c.in_ok-to_id.ensures.context) c.insert_full.ensures.unique at.1 at.2
