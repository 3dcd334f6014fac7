use Rattle.std.proofs.Common.{is_some}
use Rattle.tree_captures.specs.Views.{known_of, binds}
use Rattle.tree_captures.proofs.Tables.{text_step, name_step, texts_end, names_end}
use Rattle.tree_captures.proofs.table.Table.put_in.Goals as goal

pub loop-left-preserved : goal.loop-left-preserved
loop-left-preserved c = (
  λ t. text_step c.loop-left.left.now (is_some (known_of c.loop-left.self t)) (is_some (known_of c.bind.new.self t)) _ t c.in-len1-up.len_at_least (c.in_ok-bind.ensures.texts t) (c.loop-left.invariant.0 t),
  λ y. name_step c.loop-left.left.now (binds c.loop-left.self y) (binds c.bind.new.self y) _ y c.in-len1-up.len_at_least (c.in_ok-bind.ensures.names y) (c.loop-left.invariant.1 y),
)

pub returns-clause-texts : goal.returns-clause-texts
returns-clause-texts c = λ t. texts_end (is_some (known_of c.loop-left.self t)) t c.loop-left.left.now _ c.in_default.len_below (c.loop-left.invariant.0 t)

pub returns-clause-names : goal.returns-clause-names
returns-clause-names c = λ y. names_end (binds c.loop-left.self y) y c.loop-left.left.now _ c.in_default.len_below (c.loop-left.invariant.1 y)
