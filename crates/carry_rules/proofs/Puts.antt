-- Where what is carried is put, the tree is the same but for reads.
use Rattle.std.proofs.Common.{◌≡◌, Bool, true, List, [], None, refl, sym, ap, ap₂, subst, ◌∙◌, inl, inr}
use Rattle.std.proofs.lemmas.Bool.{and_parts, false≢true}
use Rattle.swc_ast.specs.declared.Span.{Span}
use Rattle.swc_ast.specs.Tree.{Name, Text, Label, Read, TypeOfName, Shorthand, Import, Tree, node, Forest, ε, ◌⊳◌, bare, bares}
use Rattle.swc_ast.specs.Value.{Value}
use Rattle.swc_ast.specs.Run.{source_of}
use Rattle.link_proofs.specs.Links.{Put, nothing, a_name, a_value, reads, ReadsNone, PutTree, Puts, puts_read, puts_type, puts_shorthand, puts_value, puts_value_type, puts_value_shorthand, puts_node, puts_import, PutsAll, puts_end, puts_more}
use Rattle.tree_put.proofs.Keys.{key_is}
use Rattle.carry_rules.specs.Carry.{Pass, constants, inlines, Facts, Carried, carried, or_put, read_put, enter, after, mark_of, marks, marks_all, value_tree, rebuilt}
use Rattle.carry_rules.specs.Parted.{has_parts, is_parted, are_parted}
use Rattle.carry_rules.proofs.Sound.{Last, links, put_is, Sure, agrees, agrees_all}
use Rattle.carry_rules.proofs.Standing.{right_after, laid_entered, laid_after}
use Rattle.carry_rules.proofs.Placing.{Fits, Valued, Laid, carried_fits}

module _ (p : Pass) (F : Facts) where
  mutual
    -- a tree with its reads marked is the same but for spans
    pub bare_marks : (s : Carried) (t : Tree) → bare (marks p F s t) ≡ bare t
    bare_marks s (node l ss cs) = ap (node l []) (bare_marks_all (enter p F l ss cs s) cs)

    pub bare_marks_all : (s : Carried) (ts : Forest) → bares (marks_all p F s ts) ≡ bares ts
    bare_marks_all s ε = refl
    bare_marks_all s (t ⊳ ts) = ap₂ ◌⊳◌ (bare_marks s t) (bare_marks_all (after p F s t) ts)

-- the children of an import stay as they are
abbrev pub imported : Label → Forest → Forest → Forest
imported (Import src) ms ws = ms
imported l ms ws = ws

module _ (p : Pass) (F : Facts) where
  abbrev mutual
    -- what a tree with marks becomes
    pub rewritten : Carried → Tree → Tree
    rewritten s (node l ss cs) = rebuilt (read_put p s l) l ss (imported l (marks_all p F (enter p F l ss cs s) cs) (rewritten_all (enter p F l ss cs s) cs))

    pub rewritten_all : Carried → Forest → Forest
    rewritten_all s ε = ε
    rewritten_all s (t ⊳ ts) = rewritten s t ⊳ rewritten_all (after p F s t) ts

-- labels that read a name, that import, and others
pub data ReadView : Label → Type 0 where
  is_read : (y : Name) → ReadView (Read y)
  is_type : (y : Name) → ReadView (TypeOfName y)
  is_shorthand : (y : Name) → ReadView (Shorthand y)
  is_import : (src : Text) → ReadView (Import src)
  is_other : {l : Label} → ((p : Pass) (s : Carried) → read_put p s l ≡ nothing) → source_of l ≡ [] → reads l ≡ None → ((ms ws : Forest) → imported l ms ws ≡ ws) → ReadView l

pub read_view : (l : Label) → ReadView l
read_view (Read y) = is_read y
read_view (TypeOfName y) = is_type y
read_view (Shorthand y) = is_shorthand y
read_view (Import src) = is_import src
read_view l = is_other (λ p s. refl) refl refl (λ ms ws. refl)

module _ {p : Pass} {F : Facts} {E : Last} {lex : Name → Bool} (sure : Sure p F E lex) (valued : (y : Name) (v : Value) (ss : List Span) → or_put (E.values y) (E.settled y) ≡ a_value v → PutTree v (value_tree v ss)) where
  name_is : (y x : Name) → Fits E y (a_name x) → or_put (E.values y) (E.settled y) ≡ a_name x
  name_is y x (inl e) = absurd (cc)
  name_is y x (inr e) = sym e

  value_is : (y : Name) (v : Value) → Fits E y (a_value v) → or_put (E.values y) (E.settled y) ≡ a_value v
  value_is y v (inl e) = absurd (cc)
  value_is y v (inr e) = sym e

  read_puts : (y : Name) (ss : List Span) (q : Put) → Fits E y q → Puts (links F E) (node (Read y) (mark_of q) ε) (rebuilt q (Read y) ss ε)
  read_puts y ss nothing f = puts_node (Read y) refl refl puts_end
  read_puts y ss (a_name x) f = puts_read y x (put_is (E.values y) (E.settled y) ∙ name_is y x f)
  read_puts y ss (a_value v) f = puts_value y (put_is (E.values y) (E.settled y) ∙ value_is y v f) (valued y v ss (value_is y v f))

  type_puts : (y : Name) (ss : List Span) (q : Put) → Fits E y q → Puts (links F E) (node (TypeOfName y) (mark_of q) ε) (rebuilt q (TypeOfName y) ss ε)
  type_puts y ss nothing f = puts_node (TypeOfName y) refl refl puts_end
  type_puts y ss (a_name x) f = puts_type y x (put_is (E.values y) (E.settled y) ∙ name_is y x f)
  type_puts y ss (a_value v) f = puts_value_type y (put_is (E.values y) (E.settled y) ∙ value_is y v f) (valued y v ss (value_is y v f))

  shorthand_puts : (y : Name) (ss : List Span) (q : Put) → Fits E y q → Puts (links F E) (node (Shorthand y) (mark_of q) ε) (rebuilt q (Shorthand y) ss ε)
  shorthand_puts y ss nothing f = puts_node (Shorthand y) refl refl puts_end
  shorthand_puts y ss (a_name x) f = puts_shorthand y x (put_is (E.values y) (E.settled y) ∙ name_is y x f) (key_is y.text ss)
  shorthand_puts y ss (a_value v) f = puts_value_shorthand y (put_is (E.values y) (E.settled y) ∙ value_is y v f) (valued y v ss (value_is y v f)) (key_is y.text ss)

  shorthand_fits : (q : Pass) (s : Carried) (y : Name) → Fits E y (carried s y) → Fits E y (read_put q s (Shorthand y))
  shorthand_fits constants s y f = f
  shorthand_fits inlines s y f = inl refl

  reads_none : (l : Label) (ss : List Span) → reads l ≡ None → ReadsNone (links F E) (reads l) ss
  reads_none l ss e = subst (λ o. ReadsNone (links F E) o ss) (sym e) tt

  node_puts : (s : Carried) (l : Label) (ss : List Span) (cs : Forest) → ReadView l → ((y : Name) → Fits E y (carried s y)) → has_parts l cs ≡ true → PutsAll (links F E) (marks_all p F (enter p F l ss cs s) cs) (rewritten_all p F (enter p F l ss cs s) cs) → Puts (links F E) (marks p F s (node l ss cs)) (rewritten p F s (node l ss cs))
  node_puts s _ ss ε (is_read y) f i h = read_puts y ss (carried s y) (f y)
  node_puts s _ ss ε (is_type y) f i h = type_puts y ss (carried s y) (f y)
  node_puts s _ ss ε (is_shorthand y) f i h = shorthand_puts y ss (read_put p s (Shorthand y)) (shorthand_fits p s y (f y))
  node_puts s _ ss (t ⊳ ts) (is_read y) f i h = absurd (false≢true i)
  node_puts s _ ss (t ⊳ ts) (is_type y) f i h = absurd (false≢true i)
  node_puts s _ ss (t ⊳ ts) (is_shorthand y) f i h = absurd (false≢true i)
  node_puts s _ ss cs (is_import src) f i h = puts_import src
  node_puts s l ss cs (is_other e o n m) f i h = subst (λ q. Puts (links F E) (marks p F s (node l ss cs)) (rebuilt q l ss (imported l (marks_all p F (enter p F l ss cs s) cs) (rewritten_all p F (enter p F l ss cs s) cs)))) (sym (e p s)) (puts_node l o (reads_none l (mark_of (read_put p s l)) n) (subst (PutsAll (links F E) (marks_all p F (enter p F l ss cs s) cs)) (sym (m (marks_all p F (enter p F l ss cs s) cs) (rewritten_all p F (enter p F l ss cs s) cs))) h))

  mutual
    pub all_put : (s : Carried) (t : Tree) → ((x : Name) → Valued E s x) → ((x : Name) → Laid E s x) → agrees p F E s t → is_parted t ≡ true → Puts (links F E) (marks p F s t) (rewritten p F s t)
    all_put s (node l ss cs) r n a v = let q = and_parts (has_parts l cs) (are_parted cs) v in node_puts s l ss cs (read_view l) (λ y. carried_fits sure s y (r y) (n y)) q.0 (each_put (enter p F l ss cs s) cs r (laid_entered p F E s l ss cs n) a.0 q.1)

    pub each_put : (s : Carried) (ts : Forest) → ((x : Name) → Valued E s x) → ((x : Name) → Laid E s x) → agrees_all p F E s ts → are_parted ts ≡ true → PutsAll (links F E) (marks_all p F s ts) (rewritten_all p F s ts)
    each_put s ε r n a v = puts_end
    each_put s (t ⊳ ts) r n a v = let q = and_parts (is_parted t) (are_parted ts) v in puts_more (all_put s t r n a.0 q.0) (each_put (after p F s t) ts (right_after p F E s t a.0 r) (laid_after p F E s t a.0 n) a.1 q.1)
