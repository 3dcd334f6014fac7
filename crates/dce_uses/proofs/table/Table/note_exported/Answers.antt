use Rattle.std.proofs.Common.{◌≡◌, [], ap, ◌∙◌}
use Rattle.std.proofs.lemmas.Result.{on_ok_weaker}
use Rattle.tree_visit.specs.Kinds.{kind_label}
use Rattle.tree_visit.specs.Nodes.{children_forest}
use Rattle.swc_names.specs.Ids.{optional}
use Rattle.dce_uses.specs.Noted.{is_hiding}
use Rattle.dce_uses.specs.Exports.{item_names}
use Rattle.dce_uses.proofs.Adding.{said, nothing, none_named}
use Rattle.dce_uses.proofs.Counting.{alone}
use Rattle.dce_uses.proofs.Unexported.{no_item, default_named}
use Rattle.dce_uses.proofs.table.Table.note_exported.Goals as goal

pub returns-in_default : goal.returns-in_default
returns-in_default c =
    let xs = item_names (kind_label c.args.kind) (children_forest c.args.children) in
    let none : xs ≡ [] = no_item c.args.kind (children_forest c.args.children) c.in_default.not-ExportDecl c.in_default.not-ExportNamed c.in_default.not-ExportDefaultFn in
    nothing c.args.self.now (alone is_hiding xs) (λ f x. none_named is_hiding f x xs none)

pub returns-in-ExportDefaultFn : goal.returns-in-ExportDefaultFn
returns-in-ExportDefaultFn c =
    let k = c.args.kind in let cs = children_forest c.args.children in
    let xs = item_names (kind_label k) cs in
    let same : optional c.function_name.result ≡ xs = c.function_name.ensures ∙ default_named k cs c.in-ExportDefaultFn.is in
    on_ok_weaker c.hide.result
    (said c.args.self.now c.hide.new.self (alone is_hiding (optional c.function_name.result)) (alone is_hiding xs) (λ f x. ap (λ ys. alone is_hiding ys f x) same))
    c.hide.ensures
