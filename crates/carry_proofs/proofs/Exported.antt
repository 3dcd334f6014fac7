-- A module in which what is carried is put, and whose exports name what names stand for, does the same.
use Rattle.std.proofs.Common.{◌≡◌, ℕ, Bool, true, List, [], sym, ap}
use Rattle.std.proofs.lemmas.Bool.{and_parts}
use Rattle.swc_ast.specs.declared.Span.{Span}
use Rattle.swc_ast.specs.Tree.{Name, Module, node, Forest}
use Rattle.swc_ast.specs.Value.{Value}
use Rattle.swc_ast.specs.Run.{Same}
use Rattle.link_proofs.specs.Links.{a_value, empty_ground, PutTree, PutsAll, Proper, GoodWhole}
use Rattle.link_proofs.proofs.Puts.{reexported_same}
use Rattle.meaning_proofs.proofs.Spans.{same_bare}
use Rattle.meaning_proofs.proofs.Observations.{same_trans}
use Rattle.carry_rules.specs.Carry.{Pass, Facts, Carried, or_put, enter, marks_all, value_tree, written_all, reexported}
use Rattle.carry_rules.specs.Parted.{has_parts, is_parted, are_parted}
use Rattle.carry_rules.proofs.Sound.{Last, links, link_of, Sure}
use Rattle.carry_rules.proofs.Standing.{laid_entered}
use Rattle.carry_rules.proofs.Placing.{laid_at}
use Rattle.carry_rules.proofs.Holding.{Here}
use Rattle.carry_rules.proofs.Each.{Rest, all_below}
use Rattle.carry_rules.proofs.Whole.{module_good}
use Rattle.carry_rules.proofs.Puts.{bare_marks, rewritten_all, each_put}
use Rattle.carry_rules.proofs.Final.{bare_written_all}
use Rattle.carry_proofs.proofs.Reexported.{reexports, reexported_puts, reexported_bare}

module _ {p : Pass} {F : Facts} {E : Last} {lex : Name → Bool} (sure : Sure p F E lex) (rest : Rest sure) (valued : (y : Name) (v : Value) (ss : List Span) → or_put (E.values y) (E.settled y) ≡ a_value v → PutTree v (value_tree v ss)) {mark : ℕ} (proper : Proper (links F E) mark) where
  pub exported_same : (loads : Bool) (s : Carried) (ss : List Span) (cs : Forest) (B : Name → Bool) → Here p F E lex s empty_ground (node Module ss cs) → is_parted (node Module ss cs) ≡ true → Same mark loads (node Module ss cs) (node Module ss (reexported B E.values (written_all p F (enter p F Module ss cs s) cs)))
  exported_same loads s ss cs B h v =
      same_trans mark loads (node Module ss cs) (node Module [] ms) (node Module ss (reexported B E.values us)) (same_bare mark loads (node Module ss cs) (node Module [] ms) (sym (bare_marks p F s (node Module ss cs))))
      (same_trans mark loads (node Module [] ms) (node Module ss (reexported B E.values ws)) (node Module ss (reexported B E.values us)) (reexported_same proper loads [] ss good (reexports (links F E) B E.values (λ y x e. ap link_of e) ms) (reexported_puts (links F E) B E.values puts))
      (same_bare mark loads (node Module ss (reexported B E.values ws)) (node Module ss (reexported B E.values us)) (ap (node Module []) (reexported_bare B E.values ws us (bare_written_all p F s1 cs)))))
    where
      s1 : Carried
      s1 = enter p F Module ss cs s

      ms : Forest
      ms = marks_all p F s1 cs

      ws : Forest
      ws = rewritten_all p F s1 cs

      us : Forest
      us = written_all p F s1 cs

      parts : are_parted cs ≡ true
      parts = (and_parts (has_parts Module cs) (are_parted cs) v).1

      good : GoodWhole (links F E) (node Module [] ms)
      good = module_good sure s ss cs (all_below sure rest cs parts) h

      puts : PutsAll (links F E) ms ws
      puts = each_put sure valued s1 cs h.stands.right (laid_entered p F E s Module ss cs (λ x. laid_at E empty_ground s x (h.stands.settled x))) h.agree.0 parts
