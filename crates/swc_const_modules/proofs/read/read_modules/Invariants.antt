use Rattle.std.specs.BTreeMap.{get_by_text}
use Rattle.swc_ast.specs.Marks.{mark_number}
use Rattle.swc_ast.specs.Tree.{Text}
use Rattle.swc_const_modules.specs.Texts.{AreValues}
use Rattle.swc_const_modules.proofs.Maps.{at_text, Each}
use Rattle.swc_const_modules.proofs.Given.{Rest}
use Rattle.swc_const_modules.proofs.read.read_modules.Given as goal

abbrev pub invariant-loop-source : goal.invariant-loop-source
invariant-loop-source l = record {
  texts : (x : Text) → Rest (get_by_text l.modules x) (at_text x l.source-iterator) (get_by_text l.globals x);
  values : Each (AreValues (mark_number l.mark)) l.modules;
}
