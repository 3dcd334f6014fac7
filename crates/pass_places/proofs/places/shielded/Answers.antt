use Rattle.swc_ast.specs.Views.{expr_tree}
use Rattle.pass_places.proofs.Views.{shielded_at}
use Rattle.pass_places.proofs.places.shielded.Goals as goal

pub returns : goal.returns
returns c = shielded_at c.args.place (expr_tree c.args.e) _ (cc (c.fits.ensures, c.if-fits.ensures, c.if-fits.false)) c.in_ok-guarded.ensures.tree
