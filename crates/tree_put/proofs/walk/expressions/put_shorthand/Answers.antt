use Rattle.std.proofs.Common.{refl, ap, ◌∙◌, [], ◌∷◌}
use Rattle.tree_put.specs.Keys.{property_key}
use Rattle.tree_put.specs.declared.rules.Put.TheVariants as in_put
use Rattle.tree_put.proofs.Putting.{told}
use Rattle.tree_put.proofs.FunctionArms.{shorthand_enters, shorthand_stays, shorthand_becomes_at}
use Rattle.tree_put.proofs.walk.expressions.put_shorthand.Goals as goal

pub returns-in-Enter : goal.returns-in-Enter
returns-in-Enter g c = (refl, shorthand_enters c.args.n.now (told c.in_ok-property.field-0 in_put.Enter c.in-Enter.is c.in_ok-property.ensures))

pub returns-in-Stay : goal.returns-in-Stay
returns-in-Stay g c = (refl, shorthand_stays c.args.n.now (told c.in_ok-property.field-0 in_put.Stay c.in-Stay.is c.in_ok-property.ensures))

pub returns-in_ok-value-in-Become : goal.returns-in_ok-value-in-Become
returns-in_ok-value-in-Become g c = shorthand_becomes_at c.args.n.now (record { key = c.in_ok-key-in-Become.key; value = c.in_ok-value-in-Become.value }) (told c.in_ok-property.field-0 (in_put.Become c.in-Become.value) c.in-Become.is c.in_ok-property.ensures) (c.in_ok-key-in-Become.ensures ∙ ap (λ x. property_key x (c.args.n.now.span ∷ [])) c.replace-sym.ensures.value) c.in_ok-value-in-Become.ensures.ok
