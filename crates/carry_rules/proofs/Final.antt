-- A module or a script in which what is carried is put does the same.
use Rattle.std.proofs.Common.{◌≡◌, ℕ, Bool, true, List, [], refl, sym, ap, ap₂, subst, ◌∙◌}
use Rattle.std.proofs.lemmas.Bool.{and_parts, or_left, or_right}
use Rattle.swc_ast.specs.declared.Span.{Span}
use Rattle.swc_ast.specs.Tree.{Name, Text, Label, Read, TypeOfName, Shorthand, Import, Module, Script, Tree, node, Forest, ε, ◌⊳◌, bare, bares}
use Rattle.swc_ast.specs.Value.{Value}
use Rattle.swc_ast.specs.Run.{Same}
use Rattle.link_proofs.specs.Links.{Put, nothing, a_name, a_value, empty_ground, PutTree, Proper, GoodWhole}
use Rattle.meaning_proofs.proofs.Spans.{same_bare}
use Rattle.meaning_proofs.proofs.Observations.{same_trans}
use Rattle.link_proofs.proofs.Puts.{puts_same}
use Rattle.carry_rules.specs.Carry.{Pass, constants, inlines, Facts, Carried, carried, put_unless, or_put, read_put, enter, after, marks, marks_all, value_tree, rebuilt, written, written_all}
use Rattle.carry_rules.specs.Parted.{has_parts, is_parted, are_parted}
use Rattle.carry_rules.proofs.Sound.{Last, links, Sure}
use Rattle.carry_rules.proofs.Standing.{quiet_after}
use Rattle.carry_rules.proofs.Placing.{laid_at}
use Rattle.carry_rules.proofs.Holding.{Here}
use Rattle.carry_rules.proofs.Each.{Rest, all_below}
use Rattle.carry_rules.proofs.Whole.{module_good, script_good}
use Rattle.carry_rules.proofs.Puts.{bare_marks, bare_marks_all, imported, rewritten, rewritten_all, ReadView, is_read, is_type, is_shorthand, is_import, is_other, read_view, all_put}

module _ (p : Pass) (F : Facts) where
  -- where nothing is put, a tree stays
  quiet_carried : (s : Carried) (y : Name) → s.quiet ≡ true → carried s y ≡ nothing
  quiet_carried s y q = ap (λ b. put_unless b (or_put (s.values y) (s.settled y))) q

  quiet_shorthand : (c : Pass) (s : Carried) (y : Name) → s.quiet ≡ true → read_put c s (Shorthand y) ≡ nothing
  quiet_shorthand constants s y q = quiet_carried s y q
  quiet_shorthand inlines s y q = refl

  quiet_read : (s : Carried) (l : Label) → ReadView l → s.quiet ≡ true → read_put p s l ≡ nothing
  quiet_read s _ (is_read y) q = quiet_carried s y q
  quiet_read s _ (is_type y) q = quiet_carried s y q
  quiet_read s _ (is_shorthand y) q = quiet_shorthand p s y q
  quiet_read s _ (is_import src) q = refl
  quiet_read s l (is_other e o n m) q = e p s

  mutual
    quiet_written : (s : Carried) (t : Tree) → s.quiet ≡ true → bare (written p F s t) ≡ bare t
    quiet_written s (node l ss cs) q = ap (λ w. bare (rebuilt w l ss (written_all p F (enter p F l ss cs s) cs))) (quiet_read s l (read_view l) q) ∙ ap (node l []) (quiet_written_all (enter p F l ss cs s) cs (or_left s.quiet _ q))

    quiet_written_all : (s : Carried) (ts : Forest) → s.quiet ≡ true → bares (written_all p F s ts) ≡ bares ts
    quiet_written_all s ε q = refl
    quiet_written_all s (t ⊳ ts) q = ap₂ ◌⊳◌ (quiet_written s t q) (quiet_written_all (after p F s t) ts (quiet_after p F s t ∙ q))

  -- a tree with marks becomes what the tree becomes, but for spans
  bare_rebuilt : (q : Put) (l : Label) (ss : List Span) (xs ys : Forest) → bares xs ≡ bares ys → bare (rebuilt q l ss xs) ≡ bare (rebuilt q l ss ys)
  bare_rebuilt nothing l ss xs ys e = ap (node l []) e
  bare_rebuilt (a_name x) (Read y) ss xs ys e = refl
  bare_rebuilt (a_name x) (TypeOfName y) ss xs ys e = refl
  bare_rebuilt (a_name x) (Shorthand y) ss xs ys e = refl
  bare_rebuilt (a_name x) l ss xs ys e = ap (node l []) e
  bare_rebuilt (a_value v) (Read y) ss xs ys e = refl
  bare_rebuilt (a_value v) (TypeOfName y) ss xs ys e = refl
  bare_rebuilt (a_value v) (Shorthand y) ss xs ys e = refl
  bare_rebuilt (a_value v) l ss xs ys e = ap (node l []) e

  imported_bare : (l : Label) (ms ws us : Forest) → bares ws ≡ bares us → ((src : Text) → l ≡ Import src → bares ms ≡ bares us) → bares (imported l ms ws) ≡ bares us
  imported_bare (Import src) ms ws us e g = g src refl
  imported_bare l ms ws us e g = e

  import_quiet : (s : Carried) (l : Label) (ss : List Span) (cs : Forest) (src : Text) → l ≡ Import src → (enter p F l ss cs s).quiet ≡ true
  import_quiet s l ss cs src e = subst (λ l. (enter p F l ss cs s).quiet ≡ true) (sym e) (or_right s.quiet true refl)

  mutual
    bare_written : (s : Carried) (t : Tree) → bare (rewritten p F s t) ≡ bare (written p F s t)
    bare_written s (node l ss cs) = bare_rebuilt (read_put p s l) l ss (imported l (marks_all p F (enter p F l ss cs s) cs) (rewritten_all p F (enter p F l ss cs s) cs)) (written_all p F (enter p F l ss cs s) cs)
        (imported_bare l (marks_all p F (enter p F l ss cs s) cs) (rewritten_all p F (enter p F l ss cs s) cs) (written_all p F (enter p F l ss cs s) cs) (bare_written_all (enter p F l ss cs s) cs) (λ src e. bare_marks_all p F (enter p F l ss cs s) cs ∙ sym (quiet_written_all (enter p F l ss cs s) cs (import_quiet s l ss cs src e))))

    pub bare_written_all : (s : Carried) (ts : Forest) → bares (rewritten_all p F s ts) ≡ bares (written_all p F s ts)
    bare_written_all s ε = refl
    bare_written_all s (t ⊳ ts) = ap₂ ◌⊳◌ (bare_written s t) (bare_written_all (after p F s t) ts)

module _ {p : Pass} {F : Facts} {E : Last} {lex : Name → Bool} (sure : Sure p F E lex) (rest : Rest sure) (valued : (y : Name) (v : Value) (ss : List Span) → or_put (E.values y) (E.settled y) ≡ a_value v → PutTree v (value_tree v ss)) {mark : ℕ} (proper : Proper (links F E) mark) where
  whole_same : (loads : Bool) (s : Carried) (t : Tree) → GoodWhole (links F E) (marks p F s t) → Here p F E lex s empty_ground t → is_parted t ≡ true → Same mark loads t (written p F s t)
  whole_same loads s t g h v =
      same_trans mark loads t (marks p F s t) (written p F s t) (same_bare mark loads t (marks p F s t) (sym (bare_marks p F s t)))
      (same_trans mark loads (marks p F s t) (rewritten p F s t) (written p F s t) (puts_same proper loads g (all_put sure valued s t h.stands.right (λ x. laid_at E empty_ground s x (h.stands.settled x)) h.agree v)) (same_bare mark loads (rewritten p F s t) (written p F s t) (bare_written p F s t)))

  pub module_same : (loads : Bool) (s : Carried) (ss : List Span) (cs : Forest) → Here p F E lex s empty_ground (node Module ss cs) → is_parted (node Module ss cs) ≡ true → Same mark loads (node Module ss cs) (written p F s (node Module ss cs))
  module_same loads s ss cs h v = whole_same loads s (node Module ss cs) (module_good sure s ss cs (all_below sure rest cs (and_parts (has_parts Module cs) (are_parted cs) v).1) h) h v

  pub script_same : (loads : Bool) (s : Carried) (ss : List Span) (cs : Forest) → Here p F E lex s empty_ground (node Script ss cs) → is_parted (node Script ss cs) ≡ true → Same mark loads (node Script ss cs) (written p F s (node Script ss cs))
  script_same loads s ss cs h v = whole_same loads s (node Script ss cs) (script_good sure s ss cs (all_below sure rest cs (and_parts (has_parts Script cs) (are_parted cs) v).1) h) h v
