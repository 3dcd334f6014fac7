use Rattle.std.proofs.Common.{sym, ap, drop, take, ◌∙◌}
use Rattle.std.proofs.lemmas.List.{take-map, take_rest, drop-map}
use Rattle.std.specs.Prelude.{◌&&◌}
use Rattle.swc_ast.specs.Core.{none_in}
use Rattle.swc_resolved.specs.Here.{distinct}
use Rattle.swc_resolved.specs.Names.{name, names}
use Rattle.swc_resolved.proofs.Lists.{first_false, first_true, two_lists}
use Rattle.swc_resolved.proofs.distinct.stand_apart.Goals as goal

pub returns-then-not-branch : goal.returns-then-not-branch
returns-then-not-branch c =
    let ks = c.args.names.now in let n = c.args.loose in let xs = names ks in
    first_false (distinct (drop n xs) && none_in (drop n xs) (take n xs)) (distinct (take c.args.strict xs)) (sym (c.in_ok-are_apart.ensures ∙ two_lists _ (drop n xs) (names (take n ks)) (take n xs) (ap names (take_rest ks n) ∙ sym (drop-map name n ks)) (sym (take-map name n ks))) ∙ c.if-not-branch.true)

pub returns : goal.returns
returns c =
    let ks = c.args.names.now in let n = c.args.loose in let xs = names ks in
    c.in_ok-is_good.ensures ∙ ap distinct (sym (take-map name c.args.strict ks))
    ∙ first_true (distinct (drop n xs) && none_in (drop n xs) (take n xs)) (distinct (take c.args.strict xs)) (sym (c.in_ok-are_apart.ensures ∙ two_lists _ (drop n xs) (names (take n ks)) (take n xs) (ap names (take_rest ks n) ∙ sym (drop-map name n ks)) (sym (take-map name n ks))) ∙ c.if-not-branch.false)
