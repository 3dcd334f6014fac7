use Rattle.std.proofs.Common.{◌≡◌, ◌++◌, OnOk, sym, ap, subst, ◌∙◌, arith}
use Rattle.tree_visit.specs.Kinds.{kind_label}
use Rattle.tree_visit.specs.Nodes.{children_forest, next_forest}
use Rattle.swc_names.specs.Ids.{idents, optional}
use Rattle.swc_names.specs.Names.{names_among}
use Rattle.swc_names.proofs.Gathered.{starts, ends}
use Rattle.swc_names.proofs.gather.+add_names.Goals as goal

pub loop-child-init : goal.loop-child-init
loop-child-init t c =
    let l = kind_label c.args.opened.kind in
    let cs = children_forest c.args.opened.children in (
      ap (λ ys. idents c.add_optional.new.names.items ++ names_among c.args.choice ys cs) c.behind-waiting.ensures
          ∙ starts c.args.choice l cs (idents c.args.names.now.items) (idents c.add_optional.new.names.items) (c.in_ok-add_optional.ensures ∙ ap (λ ys. idents c.args.names.now.items ++ ys) c.front.ensures) (sym c.enters.ensures ∙ c.if-not-enters.false),
      omega arith,
    )

pub returns : goal.returns
returns t c =
    subst (λ ys. OnOk c.add_optional-2.result (idents c.add_optional-2.new.names.items ≡ ys))
    (ends c.args.choice (children_forest c.loop-child.left) (optional c.loop-child.waiting) (idents c.loop-child.names.items) _ (c.next.ensures ∙ ap next_forest c.in_default.is) c.loop-child.invariant.0)
    c.add_optional-2.ensures
