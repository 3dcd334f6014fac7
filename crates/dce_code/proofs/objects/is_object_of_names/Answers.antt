use Rattle.dce_code.proofs.Given.{object_returned}
use Rattle.dce_code.proofs.objects.is_object_of_names.Goals as goal

pub returns-in-Object : goal.returns-in-Object
returns-in-Object c = λ h rs. object_returned c.args.e.now c.in-Object.n c.deref.result.now c.in-Object.is c.deref.ensures.value (c.all_name.ensures h) rs
