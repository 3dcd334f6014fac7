use Rattle.dce_code.proofs.Given.{name_value}
use Rattle.dce_code.proofs.objects.is_name.Goals as goal

pub returns-in-Ident : goal.returns-in-Ident
returns-in-Ident c = λ _ k rs ts only. name_value c.args.e.now c.in-Ident.field-0 c.in-Ident.is k rs ts only
