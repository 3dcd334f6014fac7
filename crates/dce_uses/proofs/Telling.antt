-- What was noted in one walk is what a tree says of its names.
use Rattle.std.proofs.Common.{◌≡◌, Bool, true, false, not, ◌||◌, ◌&&◌, ◌⊎◌, inl, inr, Some, None, refl, sym, ap, ap₂, ◌∙◌}
use Rattle.std.specs.Prelude.{if◌then◌else◌}
use Rattle.std.proofs.lemmas.Bool.{or_parts, or_cases, or_left, or_right, and_parts}
use Rattle.swc_ast.specs.declared.AssignOp.{AssignOp}
use Rattle.swc_ast.specs.declared.AssignOp.TheVariants.{Assign as Plain}
use Rattle.swc_ast.specs.Tree as tree
use Rattle.swc_ast.specs.Tree.{Name, Label, same_name, Tree, node, Forest, ε, ◌⊳◌}
use Rattle.swc_ast.specs.Scope.{is_function, has_name}
use Rattle.swc_ast.specs.Reach.{named_by, declares, named_outside, outside_in}
use Rattle.dce_rules.specs.Uses.{target_read, read_by, read_outside, outside_among, declared_by_node, declared_in, declared_among, is_eval, calls_eval, any_eval, is_argument, argument_among, seen_by_eval, eval_among}
use Rattle.dce_uses.specs.declared.place.Place.{Place}
use Rattle.dce_uses.specs.declared.tally.Fact.TheVariants as fact
use Rattle.dce_uses.specs.Noted.{function_name, is_plain_assignment, reads, writes, is_own_argument, below, noted, noted_among}
use Rattle.dce_uses.proofs.Adding.{or_false, or_true, or_swap, and_false}

-- truth values

pub or_mix : (a b c d : Bool) → ((a || b) || (c || d)) ≡ ((a || c) || (b || d))
or_mix true b c d = refl
or_mix false true true d = refl
or_mix false true false d = refl
or_mix false false c d = refl

or_again : (a : Bool) → a ≡ (a || a)
or_again true = refl
or_again false = refl

-- reads

target_read_as : (x y : Name) (op : AssignOp) → (not (is_plain_assignment op) && (same_name x y || false)) ≡ has_name x (target_read op y)
target_read_as x y Plain = refl
target_read_as x y op = refl

read_as : (x : Name) (l : Label) → (reads l && has_name x (named_by l)) ≡ has_name x (read_by l)
read_as x (tree.Assign op y) = target_read_as x y op
read_as x l = refl

own_function : (x : Name) (l : Label) → has_name x (function_name l) ≡ declares x l
own_function x (tree.FnDecl f) = or_false (same_name x f)
own_function x (tree.ExportDefaultFn (Some f)) = or_false (same_name x f)
own_function x (tree.ExportDefaultFn None) = refl
own_function x l = refl

one_read : (b r used outside : Bool) → used ≡ outside → (if b then false else (((r || false) || used) || false)) ≡ (if b then false else (r || outside))
one_read true r used outside rest = refl
one_read false r used outside rest = or_false ((r || false) || used) ∙ ap₂ (λ a b. a || b) (or_false r) rest

-- reads outside the declarations of functions of that name
mutual
  pub readings : (x : Name) (p : Place) (t : Tree) → noted fact.Used x p t ≡ read_outside x t
  readings x p (node l ss cs) =
      one_read (has_name x (function_name l)) (reads l && has_name x (named_by l)) (noted_among fact.Used x (below p l) cs) (outside_among x cs) (readings_among x (below p l) cs)
      ∙ ap₂ (λ b r. if b then false else (r || outside_among x cs)) (own_function x l) (read_as x l)

  readings_among : (x : Name) (p : Place) (ts : Forest) → noted_among fact.Used x p ts ≡ outside_among x ts
  readings_among x p ε = refl
  readings_among x p (t ⊳ ts) = ap₂ (λ a b. a || b) (readings x p t) (readings_among x p ts)

-- declarations
mutual
  pub declarations : (x : Name) (p : Place) (t : Tree) → noted fact.Declared x p t ≡ declared_in x t
  declarations x p (node l ss cs) = or_false (has_name x (declared_by_node l) || noted_among fact.Declared x (below p l) cs) ∙ ap (λ b. has_name x (declared_by_node l) || b) (declarations_among x (below p l) cs)

  declarations_among : (x : Name) (p : Place) (ts : Forest) → noted_among fact.Declared x p ts ≡ declared_among x ts
  declarations_among x p ε = refl
  declarations_among x p (t ⊳ ts) = ap₂ (λ a b. a || b) (declarations x p t) (declarations_among x p ts)

-- names outside the declarations of functions of that name

target_named : (b c : Bool) → c ≡ ((b && c) || (true && c))
target_named true c = or_again c
target_named false c = refl

named_split : (x : Name) (l : Label) → has_name x (named_by l) ≡ ((reads l && has_name x (named_by l)) || (writes l && has_name x (named_by l)))
named_split x (tree.Assign op y) = target_named (not (is_plain_assignment op)) (same_name x y || false)
named_split x (tree.Update op prefix y) = or_again (same_name x y || false)
named_split x l = sym (or_false (has_name x (named_by l)))

joined : (b r w n used wrote outside : Bool) → n ≡ (r || w) → (used || wrote) ≡ outside → ((if b then false else (((r || false) || used) || false)) || (if b then false else (((w || false) || wrote) || false))) ≡ (if b then false else (n || outside))
joined true r w n used wrote outside split rest = refl
joined false r w n used wrote outside split rest =
    ap₂ (λ a b. a || b) (or_false ((r || false) || used)) (or_false ((w || false) || wrote)) ∙ ap₂ (λ a b. (a || used) || (b || wrote)) (or_false r) (or_false w) ∙ or_mix r used w wrote ∙ ap₂ (λ a b. a || b) (sym split) rest

mutual
  pub namings : (x : Name) (p : Place) (t : Tree) → (noted fact.Used x p t || noted fact.Written x p t) ≡ named_outside x t
  namings x p (node l ss cs) =
      joined (has_name x (function_name l)) (reads l && has_name x (named_by l)) (writes l && has_name x (named_by l)) (has_name x (named_by l)) (noted_among fact.Used x (below p l) cs) (noted_among fact.Written x (below p l) cs) (outside_in x cs) (named_split x l) (namings_among x (below p l) cs)
      ∙ ap (λ b. if b then false else (has_name x (named_by l) || outside_in x cs)) (own_function x l)

  namings_among : (x : Name) (p : Place) (ts : Forest) → (noted_among fact.Used x p ts || noted_among fact.Written x p ts) ≡ outside_in x ts
  namings_among x p ε = refl
  namings_among x p (t ⊳ ts) = or_mix (noted fact.Used x p t) (noted_among fact.Used x p ts) (noted fact.Written x p t) (noted_among fact.Written x p ts) ∙ ap₂ (λ a b. a || b) (namings x p t) (namings_among x p ts)

-- inside a function only parameters of functions that name `arguments` are hidden

mutual
  inside : (x : Name) (p : Place) (t : Tree) → p.is_inside ≡ true → noted fact.Hidden x p t ≡ is_argument x t
  inside x p (node l ss cs) is =
      ap₂ (λ b o. b || (is_own_argument x l cs || (not o && (is_function l && (any_eval cs && declared_among x cs))))) (inside_among x (below p l) cs (ap (λ b. is_function l || b) is ∙ or_true (is_function l))) is
      ∙ ap (λ b. argument_among x cs || b) (or_false (is_own_argument x l cs)) ∙ or_swap (argument_among x cs) (is_own_argument x l cs)

  inside_among : (x : Name) (p : Place) (ts : Forest) → p.is_inside ≡ true → noted_among fact.Hidden x p ts ≡ argument_among x ts
  inside_among x p ε is = refl
  inside_among x p (t ⊳ ts) is = ap₂ (λ a b. a || b) (inside x p t is) (inside_among x p ts is)

-- what `eval` sees

mutual
  unseen : (x : Name) (t : Tree) → calls_eval t ≡ false → seen_by_eval x t ≡ false
  unseen x (node l ss cs) h =
      let none : any_eval cs ≡ false = (or_parts (is_eval l) (any_eval cs) h).1 in
      ap₂ (λ a b. (is_function l && (a && declared_among x cs)) || b) none (unseen_among x cs none) ∙ or_false (is_function l && false) ∙ and_false (is_function l)

  unseen_among : (x : Name) (ts : Forest) → any_eval ts ≡ false → eval_among x ts ≡ false
  unseen_among x ε h = refl
  unseen_among x (t ⊳ ts) h =
      let p = or_parts (calls_eval t) (any_eval ts) h in
      ap₂ (λ a b. a || b) (unseen x t p.0) (unseen_among x ts p.1)

mutual
  seen_declared : (x : Name) (t : Tree) → seen_by_eval x t ≡ true → declared_in x t ≡ true
  seen_declared x (node l ss cs) h = or_right (has_name x (declared_by_node l)) (declared_among x cs) (by (or_cases (is_function l && (any_eval cs && declared_among x cs)) (eval_among x cs) h) (seen_among x cs))
    where
      by : ((is_function l && (any_eval cs && declared_among x cs)) ≡ true) ⊎ (eval_among x cs ≡ true) → (eval_among x cs ≡ true → declared_among x cs ≡ true) → declared_among x cs ≡ true
      by (inl here) rest = (and_parts (any_eval cs) (declared_among x cs) ((and_parts (is_function l) (any_eval cs && declared_among x cs) here).1)).1
      by (inr below) rest = rest below

  seen_among : (x : Name) (ts : Forest) → eval_among x ts ≡ true → declared_among x ts ≡ true
  seen_among x ε h = h
  seen_among x (t ⊳ ts) h = by (or_cases (seen_by_eval x t) (eval_among x ts) h) (seen_declared x t) (seen_among x ts)
    where
      by : (seen_by_eval x t ≡ true) ⊎ (eval_among x ts ≡ true) → (seen_by_eval x t ≡ true → declared_in x t ≡ true) → (eval_among x ts ≡ true → declared_among x ts ≡ true) → (declared_in x t || declared_among x ts) ≡ true
      by (inl first) one rest = or_left (declared_in x t) (declared_among x ts) (one first)
      by (inr later) one rest = or_right (declared_in x t) (declared_among x ts) (rest later)

absorbed : (d e : Bool) → (e ≡ true → d ≡ true) → d ≡ (d || e)
absorbed true e h = refl
absorbed false true h = h refl
absorbed false false h = refl

turned : (a g d : Bool) → (a || (g || d)) ≡ ((g || a) || d)
turned true true d = refl
turned true false d = refl
turned false true d = refl
turned false false d = refl

regrouped : (a e g : Bool) → ((a || e) || (g || false)) ≡ ((g || a) || e)
regrouped true e true = refl
regrouped true e false = refl
regrouped false true true = refl
regrouped false false true = refl
regrouped false true false = refl
regrouped false false false = refl

-- a function that stands in no other, or a node that is none
outermost : (a d e g : Bool) (function eval : Bool) (below : Bool) → (e ≡ true → d ≡ true) → (eval ≡ false → e ≡ false) → below ≡ (if function then a else (a || e)) → (below || (g || (function && (eval && d)))) ≡ ((g || a) || ((function && (eval && d)) || e))
outermost a d e g true true below within none is = ap (λ b. b || (g || d)) is ∙ turned a g d ∙ ap (λ b. (g || a) || b) (absorbed d e within)
outermost a d e g true false below within none is = ap (λ b. b || (g || false)) is ∙ turned a g false ∙ ap (λ b. (g || a) || b) (sym (none refl))
outermost a d e g false eval below within none is = ap (λ b. b || (g || false)) is ∙ regrouped a e g

hidings_by : (x : Name) (p : Place) (ts : Forest) (function : Bool) → p.is_inside ≡ function → (p.is_inside ≡ false → noted_among fact.Hidden x p ts ≡ (argument_among x ts || eval_among x ts)) → noted_among fact.Hidden x p ts ≡ (if function then argument_among x ts else (argument_among x ts || eval_among x ts))
hidings_by x p ts true is rest = inside_among x p ts is
hidings_by x p ts false is rest = rest is

mutual
  pub hidings : (x : Name) (p : Place) (t : Tree) → p.is_inside ≡ false → noted fact.Hidden x p t ≡ (is_argument x t || seen_by_eval x t)
  hidings x p (node l ss cs) is =
      ap (λ o. noted_among fact.Hidden x (below p l) cs || (is_own_argument x l cs || (not o && (is_function l && (any_eval cs && declared_among x cs))))) is
      ∙ outermost (argument_among x cs) (declared_among x cs) (eval_among x cs) (is_own_argument x l cs) (is_function l) (any_eval cs) (noted_among fact.Hidden x (below p l) cs) (seen_among x cs) (unseen_among x cs)
      (hidings_by x (below p l) cs (is_function l) (ap (λ b. is_function l || b) is ∙ or_false (is_function l)) (λ q. hidings_among x (below p l) cs q))

  hidings_among : (x : Name) (p : Place) (ts : Forest) → p.is_inside ≡ false → noted_among fact.Hidden x p ts ≡ (argument_among x ts || eval_among x ts)
  hidings_among x p ε is = refl
  hidings_among x p (t ⊳ ts) is = ap₂ (λ a b. a || b) (hidings x p t is) (hidings_among x p ts is) ∙ or_mix (is_argument x t) (seen_by_eval x t) (argument_among x ts) (eval_among x ts)
