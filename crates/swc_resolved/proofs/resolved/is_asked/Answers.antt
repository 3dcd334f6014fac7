use Rattle.std.proofs.Common.{◌≡◌, true, sym, ap, subst, ◌∙◌}
use Rattle.std.proofs.lemmas.Bool.{false≢true}
use Rattle.swc_ast.specs.Marks.{mark_number}
use Rattle.swc_ast.specs.Resolved.{no_targets, below, own_scopes, scopes_all, own_exports_bound}
use Rattle.tree_visit.specs.Kinds.{kind_label}
use Rattle.tree_visit.specs.Nodes.{node_tree, children_forest}
use Rattle.swc_resolved.specs.Names.{is_taken}
use Rattle.swc_resolved.specs.Asked.{own_good, own_named, good_all, Passes}
use Rattle.swc_resolved.proofs.Specifiers.{exports_are}
use Rattle.swc_resolved.proofs.Verdict.{badly_named, badly_bound, decided}
use Rattle.swc_resolved.proofs.resolved.is_asked.Goals as goal

pub returns-then-not-is_bound : goal.returns-then-not-is_bound
returns-then-not-is_bound c =
    let l = kind_label c.open-opened.result.kind in let cs = children_forest c.open-opened.result.children in let mark = mark_number c.args.unresolved_mark in
    let fails = subst (λ b. Passes b (own_named c.args.core_too l cs) (is_taken c.new-taken.result) (is_taken c.bind_named.new.self) (λ x. own_scopes x l cs)) c.if-not-is_bound.true c.in_ok-is_bound.ensures in
    badly_named c.args.core_too mark (is_taken c.new-taken.result) (is_taken c.bind_named.new.self) (node_tree c.args.n) l cs c.open-opened.ensures.0 c.open-opened.ensures.1 c.new-taken.ensures fails

pub returns-then-not-own_exports_bound : goal.returns-then-not-own_exports_bound
returns-then-not-own_exports_bound c = badly_bound c.args.core_too (mark_number c.args.unresolved_mark) (node_tree c.args.n) (λ well.
    let l = kind_label c.open-opened.result.kind in let cs = children_forest c.open-opened.result.children in
    let first = subst (λ b. Passes b (own_named c.args.core_too l cs) (is_taken c.new-taken.result) (is_taken c.bind_named.new.self) (λ x. own_scopes x l cs)) c.if-not-is_bound.false c.in_ok-is_bound.ensures in
    let same = exports_are (mark_number c.args.unresolved_mark) (is_taken c.new-taken.result) (is_taken c.bind_named.new.self) (node_tree c.args.n) l cs c.open-opened.ensures.0 c.open-opened.ensures.1 c.new-taken.ensures first.1 in
    false≢true (sym c.if-not-own_exports_bound.true ∙ c.own_exports_bound.ensures ∙ same ∙ well.1))

pub returns : goal.returns
returns c =
    let l = kind_label c.open-opened.result.kind in let cs = children_forest c.open-opened.result.children in let v = c.args.core_too in
    let first = subst (λ b. Passes b (own_named c.args.core_too l cs) (is_taken c.new-taken.result) (is_taken c.bind_named.new.self) (λ x. own_scopes x l cs)) c.if-not-is_bound.false c.in_ok-is_bound.ensures in
    let same = exports_are (mark_number c.args.unresolved_mark) (is_taken c.new-taken.result) (is_taken c.bind_named.new.self) (node_tree c.args.n) l cs c.open-opened.ensures.0 c.open-opened.ensures.1 c.new-taken.ensures first.1 in
    let exports : own_exports_bound (node_tree c.args.n) ≡ true = sym same ∙ sym c.own_exports_bound.ensures ∙ c.if-not-own_exports_bound.false in
    let own : own_good v no_targets l cs ≡ true = ap (λ g. own_good v g l cs) (sym c.none-none.ensures) ∙ sym c.in_ok-is_own_good.ensures ∙ c.if-not-branch.false in
    let passes = subst (λ g. Passes c.in_ok-passes.passes (good_all v (below l g) cs) (is_taken c.bind_named.new.self) (is_taken c.walk_below.new.self) (λ x. scopes_all x cs)) c.none-none.ensures c.in_ok-passes.ensures in
    decided c.in_ok-passes.passes v (mark_number c.args.unresolved_mark) (is_taken c.new-taken.result) (is_taken c.bind_named.new.self) (is_taken c.walk_below.new.self) (node_tree c.args.n) l cs c.open-opened.ensures.0 c.open-opened.ensures.1 own c.new-taken.ensures first exports passes
