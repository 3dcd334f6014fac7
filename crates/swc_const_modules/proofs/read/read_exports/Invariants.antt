use Rattle.std.proofs.Common.{◌≡◌, ◌||◌, is_some}
use Rattle.std.specs.BTreeMap.{get_by_text}
use Rattle.swc_ast.specs.Marks.{mark_number}
use Rattle.swc_ast.specs.Tree.{Text}
use Rattle.swc_const_modules.specs.Texts.{AreValues}
use Rattle.swc_const_modules.proofs.Maps.{at_text}
use Rattle.swc_const_modules.proofs.read.read_exports.Given as goal

abbrev pub invariant-loop-name : goal.invariant-loop-name
invariant-loop-name l = record {
  texts : (x : Text) → (is_some (get_by_text l.values x) || is_some (at_text x l.name-iterator)) ≡ is_some (get_by_text l.texts x);
  values : AreValues (mark_number l.mark) l.values;
}
