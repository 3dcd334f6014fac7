-- What the walk gathers of a tree: the tree stays, and the numbers that are met are told.
use Rattle.std.proofs.Common.{◌≡◌, ℕ, Bool, true, false, if◌then◌else◌, List, [], ◌∷◌, ◌++◌, Some, refl, sym, ap, ◌∙◌}
use Rattle.std.proofs.lemmas.Bool.{and_parts, false≢true, true≢false}
use Rattle.std.proofs.lemmas.List.{append-nil, append_assoc}
use Rattle.swc_ast.specs.Labels.{is_expression}
use Rattle.swc_ast.specs.declared.Span.{Span}
use Rattle.swc_ast.specs.declared.UnaryOp.TheVariants as op
use Rattle.swc_ast.specs.Tree as tree
use Rattle.swc_ast.specs.Tree.{Name, Label, Tree, node, Forest, ε, ◌⊳◌}
use Rattle.swc_pass.specs.Given.{Found, nothing, a_value, a_plain, Answers}
use Rattle.tree_put.specs.Put as walk
use Rattle.tree_put.specs.Put.{chosen, expanded, under, in_turn, steps}
use Rattle.tree_put.specs.declared.rules.Spot.{Spot}
use Rattle.given_shield.specs.Shield.{is_bare_callee}
use Rattle.given_rules.specs.Formed.{is_name, fine, formed, all_formed}
use Rattle.given_rules.specs.Met.{joined, met_open, met, met_each}
use Rattle.given_rules.specs.Put.{here, callee, operand}
use Rattle.given_rules.specs.Walk.{found_at, gathered, gathering}
use Rattle.given_rules.proofs.Covered.{Spanless}
use Rattle.given_rules.proofs.Walked.{Each, none, more, not_true, call_alone, call_dot, call_index, call_eval, type_name, type_alone}

-- what is met in a part, for which something may be given, and behind whose own parts some are met
abbrev part_met : Found → List ℕ → List ℕ
part_met nothing m = m
part_met (a_value i) m = i ∷ []
part_met (a_plain t) m = []

expanded_at : (a : Answers) (f : Found) (is : List ℕ) (x : Name) (ss : List Span) (t : Tree) → expanded (gathered a f is) x ss t ≡ (t, (a, is ++ part_met f []))
expanded_at a nothing is x ss t = ap (λ js. (t, (a, js))) (sym (append-nil is))
expanded_at a (a_value i) is x ss t = refl
expanded_at a (a_plain v) is x ss t = ap (λ js. (t, (a, js))) (sym (append-nil is))

read_met : (x : Name) (f : Found) → met_open (tree.Read x) f [] ≡ part_met f []
read_met x nothing = refl
read_met x (a_value i) = refl
read_met x (a_plain t) = refl

type_met : (x : Name) (f : Found) → met_open (tree.TypeOfName x) f [] ≡ part_met f []
type_met x nothing = refl
type_met x (a_value i) = refl
type_met x (a_plain t) = refl

short_met : (x : Name) (f : Found) → met_open (tree.Shorthand x) f [] ≡ part_met f []
short_met x nothing = refl
short_met x (a_value i) = refl
short_met x (a_plain t) = refl

dot_met : (k : List ℕ) (f : Found) (ms : List (List ℕ)) → met_open (tree.Dot k) f ms ≡ part_met f (joined ms)
dot_met k nothing ms = refl
dot_met k (a_value i) ms = refl
dot_met k (a_plain t) ms = refl

index_met : (f : Found) (ms : List (List ℕ)) → met_open tree.Index f ms ≡ part_met f (joined ms)
index_met nothing ms = refl
index_met (a_value i) ms = refl
index_met (a_plain t) ms = refl

call_dot_met : (k : List ℕ) (f : Found) (m : List ℕ) (ms : List (List ℕ)) → met_open (tree.CallDot k) f (m ∷ ms) ≡ part_met f m ++ joined ms
call_dot_met k nothing m ms = refl
call_dot_met k (a_value i) m ms = refl
call_dot_met k (a_plain t) m ms = refl

call_index_met : (f : Found) (m j : List ℕ) (ms : List (List ℕ)) → met_open tree.CallIndex f (m ∷ j ∷ ms) ≡ part_met f (m ++ j) ++ joined ms
call_index_met nothing m j ms = sym (append_assoc m j (joined ms))
call_index_met (a_value i) m j ms = refl
call_index_met (a_plain t) m j ms = refl

call_eval_met : (x : Name) (f : Found) (ms : List (List ℕ)) → met_open (tree.CallEval x) f ms ≡ part_met f [] ++ joined ms
call_eval_met x nothing ms = refl
call_eval_met x (a_value i) ms = refl
call_eval_met x (a_plain t) ms = refl

module _ {a : Answers} (sp : Spanless a) where
  -- a node that is not read
  abbrev Rest : Label → List Span → Forest → Type 0
  Rest l ss cs = (is : List ℕ) → walk.around gathering (a, is) l ss cs (steps gathering cs) ≡ (node l ss cs, (a, is ++ met a (node l ss cs)))

  abbrev is_read : Label → Bool
  is_read (tree.Read x) = true
  is_read (tree.Dot k) = true
  is_read tree.Index = true
  is_read l = false

  not_read : (l : Label) (ss : List Span) (cs : Forest) → is_read l ≡ false → found_at a (node l ss cs) ≡ nothing
  not_read (tree.Read x) ss cs e = absurd (true≢false e)
  not_read (tree.Dot k) ss cs e = absurd (true≢false e)
  not_read tree.Index ss cs e = absurd (true≢false e)
  not_read l ss cs e = refl

  node_at : (l : Label) (ss : List Span) (cs : Forest) → is_read l ≡ false → Rest l ss cs → (is : List ℕ) (p : Spot) → walk.put gathering (node l ss cs) (a, is) p ≡ (node l ss cs, (a, is ++ met a (node l ss cs)))
  unfolding walk.put
  node_at l ss cs e r is p = by (is_expression l)
    where
      by : (b : Bool) → (if b then (let q = gathered a (found_at a (node l ss cs)) is in chosen q (node l ss cs) (walk.around gathering q.1 l ss cs (steps gathering cs))) else walk.around gathering (a, is) l ss cs (steps gathering cs)) ≡ (node l ss cs, (a, is ++ met a (node l ss cs)))
      by true = ap (λ f. let q = gathered a f is in chosen q (node l ss cs) (walk.around gathering q.1 l ss cs (steps gathering cs))) (not_read l ss cs e) ∙ r is
      by false = r is

  -- a node that is read
  read_at : (l : Label) (ss : List Span) (cs : Forest) → is_expression l ≡ true → (m : List ℕ) → met a (node l ss cs) ≡ part_met (found_at a (node l ss cs)) m → ((is : List ℕ) → walk.around gathering (a, is) l ss cs (steps gathering cs) ≡ (node l ss cs, (a, is ++ m))) → (is : List ℕ) (p : Spot) → walk.put gathering (node l ss cs) (a, is) p ≡ (node l ss cs, (a, is ++ met a (node l ss cs)))
  unfolding walk.put
  read_at l ss cs e m q r is p =
      ap (λ b. if b then (let q = gathered a (found_at a (node l ss cs)) is in chosen q (node l ss cs) (walk.around gathering q.1 l ss cs (steps gathering cs))) else walk.around gathering (a, is) l ss cs (steps gathering cs)) e
      ∙ by (found_at a (node l ss cs)) ∙ ap (λ js. (node l ss cs, (a, is ++ js))) (sym q)
    where
      by : (f : Found) → (let q = gathered a f is in chosen q (node l ss cs) (walk.around gathering q.1 l ss cs (steps gathering cs))) ≡ (node l ss cs, (a, is ++ part_met f m))
      by nothing = r is
      by (a_value i) = refl
      by (a_plain t) = ap (λ js. (node l ss cs, (a, js))) (sym (append-nil is))

  -- a part of a label, whose own parts are walked where nothing is given for it
  part_at : (f : Found) (is m : List ℕ) (t : Tree) (g : Answers × List ℕ → Tree × (Answers × List ℕ)) → ((js : List ℕ) → g (a, js) ≡ (t, (a, js ++ m))) → (let q = gathered a f is in chosen q t (g q.1)) ≡ (t, (a, is ++ part_met f m))
  part_at nothing is m t g e = e is
  part_at (a_value i) is m t g e = refl
  part_at (a_plain v) is m t g e = ap (λ js. (t, (a, js))) (sym (append-nil is))

  together : (is m n : List ℕ) (t : Tree) → ◌≡◌ {A = Tree × (Answers × List ℕ)} (t, (a, is ++ m ++ n)) (t, (a, is ++ (m ++ n)))
  together is m n t = ap (λ js. (t, (a, js))) (append_assoc is m n)

  -- a tree, wherever it stands
  abbrev G : Tree → Type 0
  G t = (is : List ℕ) (p : Spot) → walk.put gathering t (a, is) p ≡ (t, (a, is ++ met a t))

  turn : {ts : Forest} → Each G ts → (is : List ℕ) → in_turn (steps gathering ts) (a, is) ≡ (ts, (a, is ++ joined (met_each a ts)))
  unfolding steps
  turn none is = ap (λ js. (ε, (a, js))) (sym (append-nil is))
  turn (more {t} {ts} h w) is = ap (λ z. let b = in_turn (steps gathering ts) z.1 in (z.0 ⊳ b.0, b.1)) (h is here) ∙ ap (λ b. (t ⊳ b.0, b.1)) (turn w (is ++ met a t)) ∙ ap (λ js. (t ⊳ ts, (a, js))) (append_assoc is (met a t) (joined (met_each a ts)))

  read_again : (l : Label) (ss : List Span) (cs : Forest) (is : List ℕ) (p : Spot) → is_read l ≡ true → fine l ss cs ≡ true → Each G cs → walk.put gathering (node l ss cs) (a, is) p ≡ (node l ss cs, (a, is ++ met a (node l ss cs)))
  unfolding steps walk.around
  read_again (tree.Read x) ss (t ⊳ ts) is p r e w = absurd (false≢true e)
  read_again (tree.Read x) ss ε is p r e w = read_at (tree.Read x) ss ε refl [] (read_met x (a.found (node (tree.Read x) [] ε)) ∙ ap (λ g. part_met g []) (sym (sp.root (tree.Read x) ss ε))) (λ js. ap (λ ks. (node (tree.Read x) ss ε, (a, ks))) (sym (append-nil js))) is p
  read_again (tree.Dot k) ss cs is p r e w =
      read_at (tree.Dot k) ss cs refl (joined (met_each a cs)) (dot_met k (a.found (node (tree.Dot k) [] cs)) (met_each a cs) ∙ ap (λ g. part_met g (joined (met_each a cs))) (sym (sp.root (tree.Dot k) ss cs))) (λ js. ap (under (tree.Dot k) ss) (turn w js)) is p
  read_again tree.Index ss cs is p r e w =
      read_at tree.Index ss cs refl (joined (met_each a cs)) (index_met (a.found (node tree.Index [] cs)) (met_each a cs) ∙ ap (λ g. part_met g (joined (met_each a cs))) (sym (sp.root tree.Index ss cs))) (λ js. ap (under tree.Index ss) (turn w js)) is p
  read_again l ss cs is p r e w = absurd (false≢true r)

  parts_gather : (l : Label) (ss : List Span) (cs : Forest) (is : List ℕ) → is_read l ≡ false → fine l ss cs ≡ true → Each G cs → walk.around gathering (a, is) l ss cs (steps gathering cs) ≡ (node l ss cs, (a, is ++ met a (node l ss cs)))
  unfolding steps walk.around
  parts_gather (tree.Read x) ss cs is r e w = absurd (true≢false r)
  parts_gather (tree.Dot k) ss cs is r e w = absurd (true≢false r)
  parts_gather tree.Index ss cs is r e w = absurd (true≢false r)
  parts_gather (tree.CallDot m) [] cs is r e w = absurd (false≢true e)
  parts_gather (tree.CallDot m) (s ∷ rs) ε is r e w = ap (under (tree.CallDot m) (s ∷ rs)) (turn w is)
  parts_gather (tree.CallDot m) (s ∷ rs) (o ⊳ ts) is r e (more h w) =
      let t : Tree = node (tree.Dot m) rs (o ⊳ ε) in
      let g : Found = a.found t in
      ap (λ c. let d = in_turn (steps gathering ts) c.1 in (walk.called (s ∷ rs) c.0 d.0, d.1)) (part_at g is (met a o) t (λ z. let b = walk.put gathering o z here in (node (tree.Dot m) rs (b.0 ⊳ ε), b.1)) (λ js. ap (λ b. (node (tree.Dot m) rs (b.0 ⊳ ε), b.1)) (h js here)))
      ∙ ap (λ d. (walk.called (s ∷ rs) t d.0, d.1)) (turn w (is ++ part_met g (met a o)))
      ∙ ap (λ u. (u, (a, is ++ part_met g (met a o) ++ joined (met_each a ts)))) (call_dot s m rs o ts)
      ∙ together is (part_met g (met a o)) (joined (met_each a ts)) (node (tree.CallDot m) (s ∷ rs) (o ⊳ ts))
      ∙ ap (λ js. (node (tree.CallDot m) (s ∷ rs) (o ⊳ ts), (a, is ++ js))) (ap (λ h. part_met h (met a o) ++ joined (met_each a ts)) (sp.root (tree.Dot m) rs (o ⊳ ε)) ∙ sym (call_dot_met m (a.found (node (tree.Dot m) [] (o ⊳ ε))) (met a o) (met_each a ts)))
  parts_gather tree.CallIndex [] cs is r e w = absurd (false≢true e)
  parts_gather tree.CallIndex (s ∷ rs) ε is r e w = ap (under tree.CallIndex (s ∷ rs)) (turn w is)
  parts_gather tree.CallIndex (s ∷ rs) (o ⊳ ε) is r e w = ap (under tree.CallIndex (s ∷ rs)) (turn w is)
  parts_gather tree.CallIndex (s ∷ rs) (o ⊳ j ⊳ ts) is r e (more h (more i w)) =
      let t : Tree = node tree.Index rs (o ⊳ j ⊳ ε) in
      let g : Found = a.found t in
      ap (λ c. let d = in_turn (steps gathering ts) c.1 in (walk.called (s ∷ rs) c.0 d.0, d.1))
      (part_at g is (met a o ++ met a j) t (λ z. let b = walk.put gathering o z here in let i = walk.put gathering j b.1 here in (node tree.Index rs (b.0 ⊳ i.0 ⊳ ε), i.1))
      (λ js. ap (λ b. let i = walk.put gathering j b.1 here in (node tree.Index rs (b.0 ⊳ i.0 ⊳ ε), i.1)) (h js here) ∙ ap (λ i. (node tree.Index rs (o ⊳ i.0 ⊳ ε), i.1)) (i (js ++ met a o) here) ∙ together js (met a o) (met a j) t))
      ∙ ap (λ d. (walk.called (s ∷ rs) t d.0, d.1)) (turn w (is ++ part_met g (met a o ++ met a j)))
      ∙ ap (λ u. (u, (a, is ++ part_met g (met a o ++ met a j) ++ joined (met_each a ts)))) (call_index s rs o j ts)
      ∙ together is (part_met g (met a o ++ met a j)) (joined (met_each a ts)) (node tree.CallIndex (s ∷ rs) (o ⊳ j ⊳ ts))
      ∙ ap (λ js. (node tree.CallIndex (s ∷ rs) (o ⊳ j ⊳ ts), (a, is ++ js))) (ap (λ h. part_met h (met a o ++ met a j) ++ joined (met_each a ts)) (sp.root tree.Index rs (o ⊳ j ⊳ ε)) ∙ sym (call_index_met (a.found (node tree.Index [] (o ⊳ j ⊳ ε))) (met a o) (met a j) (met_each a ts)))
  parts_gather (tree.CallEval x) [] ts is r e w = absurd (false≢true e)
  parts_gather (tree.CallEval x) (s ∷ rs) ts is r e w =
      let t : Tree = node (tree.Read x) rs ε in
      let g : Found = a.found t in
      ap (λ c. let d = in_turn (steps gathering ts) c.1 in (walk.called (s ∷ rs) c.0 d.0, d.1)) (part_at g is [] t (λ z. (t, z)) (λ js. ap (λ ks. (t, (a, ks))) (sym (append-nil js))))
      ∙ ap (λ d. (walk.called (s ∷ rs) t d.0, d.1)) (turn w (is ++ part_met g []))
      ∙ ap (λ u. (u, (a, is ++ part_met g [] ++ joined (met_each a ts)))) (call_eval s x rs ts e)
      ∙ together is (part_met g []) (joined (met_each a ts)) (node (tree.CallEval x) (s ∷ rs) ts)
      ∙ ap (λ js. (node (tree.CallEval x) (s ∷ rs) ts, (a, is ++ js))) (ap (λ h. part_met h [] ++ joined (met_each a ts)) (sp.root (tree.Read x) rs ε) ∙ sym (call_eval_met x (a.found (node (tree.Read x) [] ε)) (met_each a ts)))
  parts_gather tree.Call [] cs is r e w = absurd (false≢true e)
  parts_gather tree.Call (s ∷ q ∷ rs) cs is r e w = absurd (false≢true e)
  parts_gather tree.Call (s ∷ []) ε is r e w = absurd (false≢true e)
  parts_gather tree.Call (s ∷ []) (t ⊳ ts) is r e (more h w) =
      ap (λ c. let d = in_turn (steps gathering ts) c.1 in (walk.called (s ∷ []) c.0 d.0, d.1)) (h is callee)
      ∙ ap (λ d. (walk.called (s ∷ []) t d.0, d.1)) (turn w (is ++ met a t))
      ∙ ap (λ u. (u, (a, is ++ met a t ++ joined (met_each a ts)))) (call_alone s t ts (not_true (is_bare_callee t) e))
      ∙ together is (met a t) (joined (met_each a ts)) (node tree.Call (s ∷ []) (t ⊳ ts))
  parts_gather (tree.TypeOfName x) [] cs is r e w = absurd (false≢true e)
  parts_gather (tree.TypeOfName x) (s ∷ rs) (t ⊳ ts) is r e w = absurd (false≢true e)
  parts_gather (tree.TypeOfName x) (s ∷ rs) ε is r e w =
      let t : Tree = node (tree.Read x) rs ε in
      let g : Found = a.found t in
      ap (λ c. (walk.of_type (s ∷ rs) c.0, c.1)) (part_at g is [] t (λ z. (t, z)) (λ js. ap (λ ks. (t, (a, ks))) (sym (append-nil js))))
      ∙ ap (λ u. (u, (a, is ++ part_met g []))) (type_name s x rs)
      ∙ ap (λ js. (node (tree.TypeOfName x) (s ∷ rs) ε, (a, is ++ js))) (ap (λ h. part_met h []) (sp.root (tree.Read x) rs ε) ∙ sym (type_met x (a.found (node (tree.Read x) [] ε))))
  parts_gather (tree.Unary op.TypeOf) [] cs is r e w = absurd (false≢true e)
  parts_gather (tree.Unary op.TypeOf) (s ∷ q ∷ rs) cs is r e w = absurd (false≢true e)
  parts_gather (tree.Unary op.TypeOf) (s ∷ []) ε is r e w = absurd (false≢true e)
  parts_gather (tree.Unary op.TypeOf) (s ∷ []) (t ⊳ u ⊳ ts) is r e w = absurd (false≢true e)
  parts_gather (tree.Unary op.TypeOf) (s ∷ []) (t ⊳ ε) is r e (more h w) =
      ap (λ c. (walk.of_type (s ∷ []) c.0, c.1)) (h is operand)
      ∙ ap (λ u. (u, (a, is ++ met a t))) (type_alone s t (not_true (is_name t) e))
      ∙ ap (λ js. (node (tree.Unary op.TypeOf) (s ∷ []) (t ⊳ ε), (a, is ++ js))) (sym (append-nil (met a t)))
  parts_gather (tree.Unary op.Minus) ss cs is r e w = ap (under (tree.Unary op.Minus) ss) (turn w is)
  parts_gather (tree.Unary op.Plus) ss cs is r e w = ap (under (tree.Unary op.Plus) ss) (turn w is)
  parts_gather (tree.Unary op.Bang) ss cs is r e w = ap (under (tree.Unary op.Bang) ss) (turn w is)
  parts_gather (tree.Unary op.Tilde) ss cs is r e w = ap (under (tree.Unary op.Tilde) ss) (turn w is)
  parts_gather (tree.Unary op.Void) ss cs is r e w = ap (under (tree.Unary op.Void) ss) (turn w is)
  parts_gather (tree.Unary op.Delete) ss cs is r e w = ap (λ js. (node (tree.Unary op.Delete) ss cs, (a, js))) (sym (append-nil is))
  parts_gather (tree.Import src) ss cs is r e w = ap (λ js. (node (tree.Import src) ss cs, (a, js))) (sym (append-nil is))
  parts_gather (tree.Shorthand x) ss (t ⊳ ts) is r e w = absurd (false≢true e)
  parts_gather (tree.Shorthand x) ss ε is r e w =
      expanded_at a (a.found (node (tree.Read x) ss ε)) is x ss (node (tree.Shorthand x) ss ε)
      ∙ ap (λ js. (node (tree.Shorthand x) ss ε, (a, is ++ js))) (ap (λ h. part_met h []) (sp.root (tree.Read x) ss ε) ∙ sym (short_met x (a.found (node (tree.Read x) [] ε))))
  parts_gather (tree.ExportSpecifier x i) ss (t ⊳ ts) is r e w = absurd (false≢true e)
  parts_gather (tree.ExportSpecifier x i) ss ε is r e w = ap (λ js. (node (tree.ExportSpecifier x i) ss ε, (a, js))) (sym (append-nil is))
  parts_gather tree.Method ss ε is r e w = ap (under tree.Method ss) (turn w is)
  parts_gather tree.Method ss (t ⊳ ts) is r e w = ap (λ b. (node tree.Method ss b.0, b.1)) (turn w is)
  parts_gather (tree.Switch ds) ss ε is r e w = ap (under (tree.Switch ds) ss) (turn w is)
  parts_gather (tree.Switch ds) ss (t ⊳ ts) is r e w = ap (λ b. (node (tree.Switch ds) ss b.0, b.1)) (turn w is)
  parts_gather (tree.Try (Some o)) ss (b ⊳ c ⊳ d ⊳ ε) is r e w = ap (under (tree.Try (Some o)) ss) (turn w is)
  parts_gather (tree.Try o) ss cs is r e w = ap (under (tree.Try o) ss) (turn w is)
  parts_gather tree.Absent ss cs is r e w = ap (under tree.Absent ss) (turn w is)
  parts_gather (tree.FnDecl x0) ss cs is r e w = ap (under (tree.FnDecl x0) ss) (turn w is)
  parts_gather l ss cs is r e w = ap (under l ss) (turn w is)

  one_gather : (l : Label) (ss : List Span) (cs : Forest) → fine l ss cs ≡ true → Each G cs → G (node l ss cs)
  one_gather l ss cs e w is p = by (is_read l) refl
    where
      by : (b : Bool) → is_read l ≡ b → walk.put gathering (node l ss cs) (a, is) p ≡ (node l ss cs, (a, is ++ met a (node l ss cs)))
      by true r = read_again l ss cs is p r e w
      by false r = node_at l ss cs r (λ js. parts_gather l ss cs js r e w) is p

  mutual
    pub gathers : (t : Tree) (is : List ℕ) (p : Spot) → formed t ≡ true → walk.put gathering t (a, is) p ≡ (t, (a, is ++ met a t))
    gathers (node l ss cs) is p f = one_gather l ss cs (and_parts (fine l ss cs) (all_formed cs) f).0 (each_gathers cs (and_parts (fine l ss cs) (all_formed cs) f).1) is p

    each_gathers : (ts : Forest) → all_formed ts ≡ true → Each G ts
    each_gathers ε f = none
    each_gathers (t ⊳ ts) f = more (λ is p. gathers t is p (and_parts (formed t) (all_formed ts) f).0) (each_gathers ts (and_parts (formed t) (all_formed ts) f).1)
