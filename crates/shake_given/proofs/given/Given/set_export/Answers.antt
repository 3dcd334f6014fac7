use Rattle.std.proofs.Common.{◌≡◌, refl}
use Rattle.std.specs.BTreeMap.{get_by_text}
use Rattle.swc_ast.specs.Tree.{Text}
use Rattle.swc_ast.specs.Views.{expr_tree}
use Rattle.const_imports.specs.Views.{in_exports}
use Rattle.shake_given.proofs.Texts.{given_after, exports_after, had, had_none}
use Rattle.shake_given.proofs.given.Given.set_export.Goals.{in-Some, in-None}
use Rattle.shake_given.proofs.given.Given.set_export.Goals as goal

pub returns : goal.returns
returns c =
    let was : (y : Text) → get_by_text c.match-remove.exports y ≡ in_exports (get_by_text c.args.self.now.modules.modules c.args.source.now) y = elim c.match-remove.branch [
      | in-Some w ↦ had c.args.self.now.modules.modules c.remove.result c.args.source.now c.match-remove.exports w.in-Some.exports c.remove.ensures.value w.exports-is w.in-Some.is
      | in-None w ↦ had_none c.args.self.now.modules.modules c.remove.result c.args.source.now c.match-remove.exports w.new-exports.result c.remove.ensures.value w.exports-is w.in-None.is w.new-exports.ensures.empty
    ] in
    record {
      modules = given_after c.args.self.now.modules.modules c.remove.new.self c.insert-2.new.self c.match-remove.exports c.insert.new.self c.in_ok-source.source c.in_ok-name.name c.args.value c.args.source.now c.args.name.now c.in_ok-source.ensures.ok c.in_ok-name.ensures.ok c.remove.ensures.updates c.in_ok-insert.ensures.updates c.in_ok-insert-2.ensures.updates;
      exports = exports_after c.args.self.now.modules.modules c.remove.new.self c.insert-2.new.self c.match-remove.exports c.insert.new.self c.in_ok-source.source c.in_ok-name.name c.args.value c.args.source.now c.args.name.now c.in_ok-source.ensures.ok c.in_ok-name.ensures.ok c.remove.ensures.updates c.in_ok-insert.ensures.updates c.in_ok-insert-2.ensures.updates was expr_tree;
      names = refl;
    }
