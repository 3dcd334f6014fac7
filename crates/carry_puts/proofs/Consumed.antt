-- The walk that puts takes what is put at reads one after another, in the order in which it was carried there.
use Rattle.std.proofs.Common.{◌≡◌, Bool, true, false, not, ◌&&◌, if◌then◌else◌, List, [], ◌∷◌, ◌++◌, Some, refl, sym, ap, ◌∙◌}
use Rattle.std.proofs.lemmas.Bool.{and_parts, or_from, or_right, false≢true, true≢false}
use Rattle.std.proofs.lemmas.List.{append_assoc}
use Rattle.swc_ast.specs.Labels.{is_name as is_read, is_expression}
use Rattle.swc_ast.specs.declared.Span.{Span}
use Rattle.swc_ast.specs.declared.UnaryOp.TheVariants as op
use Rattle.swc_ast.specs.Expressions.{unary_node}
use Rattle.swc_ast.specs.Tree as tree
use Rattle.swc_ast.specs.Tree.{Name, Label, Tree, node, Forest, ε, ◌⊳◌}
use Rattle.swc_ast.specs.Value.{Value, Null, Truth, Num, Text as TextValue}
use Rattle.link_proofs.specs.Links.{Put, nothing, a_name, a_value}
use Rattle.carry_rules.specs.Carry.{Pass, constants, inlines, Facts, Carried, carried, is_exempt, read_put, value_tree, enter, after}
use Rattle.tree_put.specs.Put as walk
use Rattle.tree_put.specs.Put.{chosen, expanded, under, in_turn, steps}
use Rattle.tree_put.specs.Puts.{enter as entered, stay}
use Rattle.tree_put.specs.declared.rules.Spot.{Spot}
use Rattle.given_shield.specs.Shield.{is_bare_callee}
use Rattle.given_rules.specs.Formed.{is_name, fine, formed, all_formed}
use Rattle.given_rules.specs.Put.{here, callee, operand}
use Rattle.given_rules.proofs.Walked.{Each, none, more, not_true, call_alone, call_dot, call_index, call_eval, type_name, type_alone}
use Rattle.carry_parts.specs.Reads.{asked, put_each, own_reads, reads, reads_all}
use Rattle.carry_puts.specs.Placed.{is_asked, is_written, put_answer, taken, stays, stays_or_enters, putting, replaced, placed, placed_all}
use Rattle.carry_puts.proofs.Clear.{Clear, clear_entered, clear_after, placed_alone, placed_unnamed}
use Rattle.carry_puts.proofs.Quiet.{after_quiet, quiet_all_stay, quiet_all_reads}

-- a tree that the walk may ask for at a spot
abbrev pub stands : Pass → Spot → Tree → Bool
stands p o (node (tree.Read y) ss cs) = is_asked p o y
stands p o t = true

pub stands_here : (p : Pass) (t : Tree) → stands p here t ≡ true
stands_here p (node (tree.Read y) ss cs) = refl
stands_here p (node l ss cs) = refl

stands_operand : (p : Pass) (t : Tree) → stands p operand t ≡ true
stands_operand p (node (tree.Read y) ss cs) = refl
stands_operand p (node l ss cs) = refl

stands_callee : (p : Pass) (t : Tree) → is_bare_callee t ≡ false → stands p callee t ≡ true
stands_callee p (node (tree.Read y) ss cs) e = ap not e
stands_callee p (node l ss cs) e = refl

-- a node at which nothing is asked for
abbrev asks_nothing : Label → Bool
asks_nothing (tree.Read x) = false
asks_nothing (tree.TypeOfName x) = false
asks_nothing (tree.Shorthand x) = false
asks_nothing l = true

asks_none : (p : Pass) (l : Label) → asks_nothing l ≡ true → asked p l ≡ []
asks_none p (tree.Read x) e = absurd (false≢true e)
asks_none p (tree.TypeOfName x) e = absurd (false≢true e)
asks_none p (tree.Shorthand x) e = absurd (false≢true e)
asks_none constants l e = refl
asks_none inlines l e = refl

puts_none : (p : Pass) (s : Carried) (l : Label) → asks_nothing l ≡ true → read_put p s l ≡ nothing
puts_none p s (tree.Read x) e = absurd (false≢true e)
puts_none p s (tree.TypeOfName x) e = absurd (false≢true e)
puts_none p s (tree.Shorthand x) e = absurd (false≢true e)
puts_none p s l e = refl

-- what an exempt node is asked for, and that it stays

exempt_asks : (p : Pass) (l : Label) → is_exempt p l ≡ true → asks_nothing l ≡ true
exempt_asks p (tree.Read x) e = absurd (false≢true e)
exempt_asks p (tree.TypeOfName x) e = absurd (false≢true e)
exempt_asks p (tree.Shorthand x) e = absurd (false≢true e)
exempt_asks p l e = refl

enters : (p : Pass) (l : Label) → is_exempt p l ≡ false → stays p l ≡ false
enters constants (tree.Assign o x) e = absurd (true≢false e)
enters constants (tree.AssignDot o k) e = absurd (true≢false e)
enters constants (tree.AssignIndex o) e = absurd (true≢false e)
enters constants (tree.Update o b x) e = absurd (true≢false e)
enters constants (tree.UpdateDot o b k) e = absurd (true≢false e)
enters constants (tree.UpdateIndex o b) e = absurd (true≢false e)
enters constants l e = refl
enters inlines l e = never (is_written l)
  where
    never : (b : Bool) → (b && false) ≡ false
    never true = refl
    never false = refl

exempt_stays : (p : Pass) (l : Label) (ss : List Span) (cs : Forest) (k : List Put) (o : Spot) → is_exempt p l ≡ true → walk.put putting (node l ss cs) (p, k) o ≡ (node l ss cs, (p, k))
unfolding walk.put walk.around
exempt_stays constants (tree.Unary op.Delete) ss cs k o e = refl
exempt_stays inlines (tree.Unary op.Delete) ss cs k o e = refl
exempt_stays constants (tree.Import src) ss cs k o e = refl
exempt_stays inlines (tree.Import src) ss cs k o e = refl
exempt_stays constants (tree.Assign x y) ss cs k o e = refl
exempt_stays constants (tree.AssignDot x y) ss cs k o e = refl
exempt_stays constants (tree.AssignIndex x) ss cs k o e = refl
exempt_stays constants (tree.Update x b y) ss cs k o e = refl
exempt_stays constants (tree.UpdateDot x b y) ss cs k o e = refl
exempt_stays constants (tree.UpdateIndex x b) ss cs k o e = refl
exempt_stays p l ss cs k o e = absurd (false≢true e)

-- what is put at a read

read_becomes : (x : Name) (ss : List Span) (us : Forest) (k : Pass × List Put) (q : Put) → chosen (put_answer x ss q, k) (node (tree.Read x) ss ε) (node (tree.Read x) ss ε, k) ≡ (replaced q (tree.Read x) ss ε, k)
read_becomes x ss us k nothing = refl
read_becomes x ss us k (a_name z) = refl
read_becomes x ss us k (a_value v) = refl

value_type : (z : Span) (v : Value) (rs : List Span) → walk.of_type (z ∷ rs) (value_tree v rs) ≡ node (tree.Unary op.TypeOf) (z ∷ []) (value_tree v rs ⊳ ε)
unfolding unary_node
value_type z (Num n) rs = refl
value_type z (TextValue t) rs = refl
value_type z (Truth b) rs = refl
value_type z Null rs = refl
value_type z v rs = refl

abbrev typed : Span → List Span → Tree × (Pass × List Put) → Tree × (Pass × List Put)
typed z rs c = (walk.of_type (z ∷ rs) c.0, c.1)

type_becomes : (x : Name) (z : Span) (rs : List Span) (k : Pass × List Put) (q : Put) → typed z rs (chosen (put_answer x rs q, k) (node (tree.Read x) rs ε) (node (tree.Read x) rs ε, k)) ≡ (replaced q (tree.TypeOfName x) (z ∷ rs) ε, k)
type_becomes x z rs k nothing = ap (λ u. (u, k)) (type_name z x rs)
type_becomes x z rs k (a_name y) = ap (λ u. (u, k)) (type_name z y rs)
type_becomes x z rs k (a_value v) = ap (λ u. (u, k)) (value_type z v rs)

short_becomes : (x : Name) (ss : List Span) (k : Pass × List Put) (q : Put) → expanded (put_answer x ss q, k) x ss (node (tree.Shorthand x) ss ε) ≡ (replaced q (tree.Shorthand x) ss ε, k)
short_becomes x ss k nothing = refl
short_becomes x ss k (a_name y) = refl
short_becomes x ss k (a_value v) = refl

module _ (p : Pass) (F : Facts) where
  none_either : (b : Bool) → ◌≡◌ {A = List Put} (if b then [] else []) []
  none_either true = refl
  none_either false = refl

  no_reads : (s : Carried) (l : Label) → asks_nothing l ≡ true → own_reads p F s l ≡ []
  no_reads s l e = ap (λ ys. if s.quiet then [] else put_each s ys) (asks_none p l e) ∙ none_either s.quiet

  -- a tree, wherever it stands
  abbrev pub G : Tree → Type 0
  G t = (s : Carried) (rest : List Put) (o : Spot) → Clear s → s.quiet ≡ false → stands p o t ≡ true → walk.put putting t (p, reads p F s t ++ rest) o ≡ (placed p F s t, (p, rest))

  turn : {ts : Forest} → Each G ts → (s : Carried) (rest : List Put) → Clear s → s.quiet ≡ false → in_turn (steps putting ts) (p, reads_all p F s ts ++ rest) ≡ (placed_all p F s ts, (p, rest))
  unfolding steps
  turn none s rest c q = refl
  turn (more {t} {ts} h w) s rest c q =
      ap (λ qs. in_turn (steps putting (t ⊳ ts)) (p, qs)) (append_assoc (reads p F s t) (reads_all p F (after p F s t) ts) rest)
      ∙ ap (λ z. let b = in_turn (steps putting ts) z.1 in (z.0 ⊳ b.0, b.1)) (h s (reads_all p F (after p F s t) ts ++ rest) here c q (stands_here p t))
      ∙ ap (λ b. (placed p F s t ⊳ b.0, b.1)) (turn w (after p F s t) rest (clear_after p F s t c) (after_quiet p F s t ∙ q))

  -- the first of some trees, and what is put behind it
  first_of : (s : Carried) (t : Tree) (ts : Forest) (rest : List Put) → (reads_all p F s (t ⊳ ts)) ++ rest ≡ reads p F s t ++ (reads_all p F (after p F s t) ts ++ rest)
  first_of s t ts rest = append_assoc (reads p F s t) (reads_all p F (after p F s t) ts) rest

  node_enters : (l : Label) (ss : List Span) (cs : Forest) (k : List Put) (o : Spot) → is_read l ≡ false → stays p l ≡ false → walk.put putting (node l ss cs) (p, k) o ≡ walk.around putting (p, k) l ss cs (steps putting cs)
  unfolding walk.put
  node_enters (tree.Read y) ss cs k o e i = absurd (true≢false e)
  node_enters l ss cs k o e i = by (is_expression l)
    where
      by : (b : Bool) → (if b then chosen (stays_or_enters p l, (p, k)) (node l ss cs) (walk.around putting (p, k) l ss cs (steps putting cs)) else walk.around putting (p, k) l ss cs (steps putting cs)) ≡ walk.around putting (p, k) l ss cs (steps putting cs)
      by true = ap (λ c. chosen ((if c then stay else entered), (p, k)) (node l ss cs) (walk.around putting (p, k) l ss cs (steps putting cs))) i
      by false = refl

  -- the parts of a node in which something may be put, at which nothing is asked for
  parts_put : (l : Label) (ss : List Span) (cs : Forest) → asks_nothing l ≡ true → is_exempt p l ≡ false → fine l ss cs ≡ true → Each G cs → (s : Carried) (rest : List Put) → Clear s → s.quiet ≡ false → walk.around putting (p, reads_all p F s cs ++ rest) l ss cs (steps putting cs) ≡ (node l ss (placed_all p F s cs), (p, rest))
  unfolding steps walk.around
  parts_put (tree.Read x) ss cs r i e w s rest c q = absurd (false≢true r)
  parts_put (tree.TypeOfName x) ss cs r i e w s rest c q = absurd (false≢true r)
  parts_put (tree.CallDot m) [] cs r i e w s rest c q = absurd (false≢true e)
  parts_put (tree.CallDot m) (z ∷ rs) ε r i e w s rest c q = ap (under (tree.CallDot m) (z ∷ rs)) (turn w s rest c q)
  parts_put (tree.CallDot m) (z ∷ rs) (o ⊳ ts) r i e (more h w) s rest c q =
      ap (λ qs. let b = walk.put putting o (p, qs) here in let d = in_turn (steps putting ts) b.1 in (walk.called (z ∷ rs) (node (tree.Dot m) rs (b.0 ⊳ ε)) d.0, d.1)) (first_of s o ts rest)
      ∙ ap (λ b. let d = in_turn (steps putting ts) b.1 in (walk.called (z ∷ rs) (node (tree.Dot m) rs (b.0 ⊳ ε)) d.0, d.1)) (h s (reads_all p F (after p F s o) ts ++ rest) here c q (stands_here p o))
      ∙ ap (λ d. (walk.called (z ∷ rs) (node (tree.Dot m) rs (placed p F s o ⊳ ε)) d.0, d.1)) (turn w (after p F s o) rest (clear_after p F s o c) (after_quiet p F s o ∙ q))
      ∙ ap (λ u. (u, (p, rest))) (call_dot z m rs (placed p F s o) (placed_all p F (after p F s o) ts))
  parts_put tree.CallIndex [] cs r i e w s rest c q = absurd (false≢true e)
  parts_put tree.CallIndex (z ∷ rs) ε r i e w s rest c q = ap (under tree.CallIndex (z ∷ rs)) (turn w s rest c q)
  parts_put tree.CallIndex (z ∷ rs) (o ⊳ ε) r i e w s rest c q = ap (under tree.CallIndex (z ∷ rs)) (turn w s rest c q)
  parts_put tree.CallIndex (z ∷ rs) (o ⊳ j ⊳ ts) r i e (more h (more g w)) s rest c q =
      let s2 : Carried = after p F s o in
      let s3 : Carried = after p F s2 j in
      let c2 : Clear s2 = clear_after p F s o c in
      let q2 : s2.quiet ≡ false = after_quiet p F s o ∙ q in
      ap (λ qs. let b = walk.put putting o (p, qs) here in let k = walk.put putting j b.1 here in let d = in_turn (steps putting ts) k.1 in (walk.called (z ∷ rs) (node tree.Index rs (b.0 ⊳ k.0 ⊳ ε)) d.0, d.1)) (first_of s o (j ⊳ ts) rest)
      ∙ ap (λ b. let k = walk.put putting j b.1 here in let d = in_turn (steps putting ts) k.1 in (walk.called (z ∷ rs) (node tree.Index rs (b.0 ⊳ k.0 ⊳ ε)) d.0, d.1)) (h s (reads_all p F s2 (j ⊳ ts) ++ rest) here c q (stands_here p o))
      ∙ ap (λ qs. let k = walk.put putting j (p, qs) here in let d = in_turn (steps putting ts) k.1 in (walk.called (z ∷ rs) (node tree.Index rs (placed p F s o ⊳ k.0 ⊳ ε)) d.0, d.1)) (first_of s2 j ts rest)
      ∙ ap (λ k. let d = in_turn (steps putting ts) k.1 in (walk.called (z ∷ rs) (node tree.Index rs (placed p F s o ⊳ k.0 ⊳ ε)) d.0, d.1)) (g s2 (reads_all p F s3 ts ++ rest) here c2 q2 (stands_here p j))
      ∙ ap (λ d. (walk.called (z ∷ rs) (node tree.Index rs (placed p F s o ⊳ placed p F s2 j ⊳ ε)) d.0, d.1)) (turn w s3 rest (clear_after p F s2 j c2) (after_quiet p F s2 j ∙ q2))
      ∙ ap (λ u. (u, (p, rest))) (call_index z rs (placed p F s o) (placed p F s2 j) (placed_all p F s3 ts))
  parts_put (tree.CallEval x) [] ts r i e w s rest c q = absurd (false≢true e)
  parts_put (tree.CallEval x) (z ∷ rs) ts r i e w s rest c q =
      ap (λ b. let a = (if not b then taken p x rs (reads_all p F s ts ++ rest) else (entered, (p, reads_all p F s ts ++ rest))) in let k = chosen a (node (tree.Read x) rs ε) (node (tree.Read x) rs ε, a.1) in let d = in_turn (steps putting ts) k.1 in (walk.called (z ∷ rs) k.0 d.0, d.1)) e
      ∙ ap (λ d. (walk.called (z ∷ rs) (node (tree.Read x) rs ε) d.0, d.1)) (turn w s rest c q)
      ∙ ap (λ u. (u, (p, rest))) (call_eval z x rs (placed_all p F s ts) e)
  parts_put tree.Call [] cs r i e w s rest c q = absurd (false≢true e)
  parts_put tree.Call (z ∷ y ∷ rs) cs r i e w s rest c q = absurd (false≢true e)
  parts_put tree.Call (z ∷ []) ε r i e w s rest c q = absurd (false≢true e)
  parts_put tree.Call (z ∷ []) (t ⊳ ts) r i e (more h w) s rest c q =
      let alone : is_bare_callee t ≡ false = not_true (is_bare_callee t) e in
      ap (λ qs. let k = walk.put putting t (p, qs) callee in let d = in_turn (steps putting ts) k.1 in (walk.called (z ∷ []) k.0 d.0, d.1)) (first_of s t ts rest)
      ∙ ap (λ k. let d = in_turn (steps putting ts) k.1 in (walk.called (z ∷ []) k.0 d.0, d.1)) (h s (reads_all p F (after p F s t) ts ++ rest) callee c q (stands_callee p t alone))
      ∙ ap (λ d. (walk.called (z ∷ []) (placed p F s t) d.0, d.1)) (turn w (after p F s t) rest (clear_after p F s t c) (after_quiet p F s t ∙ q))
      ∙ ap (λ u. (u, (p, rest))) (call_alone z (placed p F s t) (placed_all p F (after p F s t) ts) (placed_alone p F s t c alone))
  parts_put (tree.Unary op.TypeOf) [] cs r i e w s rest c q = absurd (false≢true e)
  parts_put (tree.Unary op.TypeOf) (z ∷ y ∷ rs) cs r i e w s rest c q = absurd (false≢true e)
  parts_put (tree.Unary op.TypeOf) (z ∷ []) ε r i e w s rest c q = absurd (false≢true e)
  parts_put (tree.Unary op.TypeOf) (z ∷ []) (t ⊳ u ⊳ ts) r i e w s rest c q = absurd (false≢true e)
  parts_put (tree.Unary op.TypeOf) (z ∷ []) (t ⊳ ε) r i e (more h w) s rest c q =
      ap (λ qs. let k = walk.put putting t (p, qs) operand in (walk.of_type (z ∷ []) k.0, k.1)) (first_of s t ε rest)
      ∙ ap (λ k. (walk.of_type (z ∷ []) k.0, k.1)) (h s rest operand c q (stands_operand p t))
      ∙ ap (λ u. (u, (p, rest))) (type_alone z (placed p F s t) (placed_unnamed p F s t (not_true (is_name t) e)))
  parts_put (tree.Unary op.Minus) ss cs r i e w s rest c q = ap (under (tree.Unary op.Minus) ss) (turn w s rest c q)
  parts_put (tree.Unary op.Plus) ss cs r i e w s rest c q = ap (under (tree.Unary op.Plus) ss) (turn w s rest c q)
  parts_put (tree.Unary op.Bang) ss cs r i e w s rest c q = ap (under (tree.Unary op.Bang) ss) (turn w s rest c q)
  parts_put (tree.Unary op.Tilde) ss cs r i e w s rest c q = ap (under (tree.Unary op.Tilde) ss) (turn w s rest c q)
  parts_put (tree.Unary op.Void) ss cs r i e w s rest c q = ap (under (tree.Unary op.Void) ss) (turn w s rest c q)
  parts_put (tree.Unary op.Delete) ss cs r i e w s rest c q = absurd (true≢false i)
  parts_put (tree.Import src) ss cs r i e w s rest c q = absurd (true≢false i)
  parts_put (tree.Shorthand x) ss cs r i e w s rest c q = absurd (false≢true r)
  parts_put (tree.ExportSpecifier x o) ss (t ⊳ ts) r i e w s rest c q = absurd (false≢true e)
  parts_put (tree.ExportSpecifier x o) ss ε r i e w s rest c q = refl
  parts_put tree.Method ss ε r i e w s rest c q = ap (under tree.Method ss) (turn w s rest c q)
  parts_put tree.Method ss (t ⊳ ts) r i e w s rest c q = ap (λ b. (node tree.Method ss b.0, b.1)) (turn w s rest c q)
  parts_put (tree.Switch ds) ss ε r i e w s rest c q = ap (under (tree.Switch ds) ss) (turn w s rest c q)
  parts_put (tree.Switch ds) ss (t ⊳ ts) r i e w s rest c q = ap (λ b. (node (tree.Switch ds) ss b.0, b.1)) (turn w s rest c q)
  parts_put (tree.Try (Some o)) ss (b ⊳ h ⊳ f ⊳ ε) r i e w s rest c q = ap (under (tree.Try (Some o)) ss) (turn w s rest c q)
  parts_put (tree.Try o) ss cs r i e w s rest c q = ap (under (tree.Try o) ss) (turn w s rest c q)
  parts_put tree.Absent ss cs r i e w s rest c q = ap (under tree.Absent ss) (turn w s rest c q)
  parts_put (tree.FnDecl x) ss cs r i e w s rest c q = ap (under (tree.FnDecl x) ss) (turn w s rest c q)
  parts_put l ss cs r i e w s rest c q = ap (under l ss) (turn w s rest c q)

  -- nodes

  asked_read : (x : Name) (ss : List Span) (s : Carried) (rest : List Put) (o : Spot) → s.quiet ≡ false → is_asked p o x ≡ true → walk.put putting (node (tree.Read x) ss ε) (p, reads p F s (node (tree.Read x) ss ε) ++ rest) o ≡ (placed p F s (node (tree.Read x) ss ε), (p, rest))
  unfolding walk.put walk.around steps
  asked_read x ss s rest o q e =
      ap (λ b. let k = ((if b then [] else carried s x ∷ []) ++ []) ++ rest in let a = (if is_asked p o x then taken p x ss k else (entered, (p, k))) in chosen a (node (tree.Read x) ss ε) (node (tree.Read x) ss ε, a.1)) q
      ∙ ap (λ b. let a = (if b then taken p x ss (carried s x ∷ rest) else (entered, (p, carried s x ∷ rest))) in chosen a (node (tree.Read x) ss ε) (node (tree.Read x) ss ε, a.1)) e
      ∙ read_becomes x ss ε (p, rest) (carried s x)

  asked_type : (x : Name) (z : Span) (rs : List Span) (s : Carried) (rest : List Put) (o : Spot) → s.quiet ≡ false → walk.put putting (node (tree.TypeOfName x) (z ∷ rs) ε) (p, reads p F s (node (tree.TypeOfName x) (z ∷ rs) ε) ++ rest) o ≡ (placed p F s (node (tree.TypeOfName x) (z ∷ rs) ε), (p, rest))
  unfolding walk.around steps
  asked_type x z rs s rest o q =
      node_enters (tree.TypeOfName x) (z ∷ rs) ε (reads p F s (node (tree.TypeOfName x) (z ∷ rs) ε) ++ rest) o refl (enters p (tree.TypeOfName x) refl)
      ∙ ap (λ b. let k = ((if b then [] else carried s x ∷ []) ++ []) ++ rest in let a = taken p x rs k in let c = chosen a (node (tree.Read x) rs ε) (node (tree.Read x) rs ε, a.1) in (walk.of_type (z ∷ rs) c.0, c.1)) q
      ∙ type_becomes x z rs (p, rest) (carried s x)

-- a property that is only a name
asked_short : (p : Pass) (F : Facts) (x : Name) (ss : List Span) (s : Carried) (rest : List Put) (o : Spot) → s.quiet ≡ false → walk.put putting (node (tree.Shorthand x) ss ε) (p, reads p F s (node (tree.Shorthand x) ss ε) ++ rest) o ≡ (placed p F s (node (tree.Shorthand x) ss ε), (p, rest))
unfolding walk.put walk.around
asked_short constants F x ss s rest o q =
    ap (λ b. expanded (taken constants x ss (((if b then [] else carried s x ∷ []) ++ []) ++ rest)) x ss (node (tree.Shorthand x) ss ε)) q
    ∙ short_becomes x ss (constants, rest) (carried s x)
asked_short inlines F x ss s rest o q = ap (λ b. expanded (entered, (inlines, ((if b then [] else []) ++ []) ++ rest)) x ss (node (tree.Shorthand x) ss ε)) q

module _ (p : Pass) (F : Facts) where
  -- a node at which nothing is asked for
  other_put : (l : Label) (ss : List Span) (cs : Forest) → asks_nothing l ≡ true → is_exempt p l ≡ false → fine l ss cs ≡ true → Each (G p F) cs → (s : Carried) (rest : List Put) (o : Spot) → Clear s → s.quiet ≡ false → walk.put putting (node l ss cs) (p, reads p F s (node l ss cs) ++ rest) o ≡ (placed p F s (node l ss cs), (p, rest))
  other_put l ss cs r i e w s rest o c q =
      ap (λ k. walk.put putting (node l ss cs) (p, (k ++ reads_all p F (enter p F l ss cs s) cs) ++ rest) o) (no_reads p F s l r)
      ∙ node_enters p F l ss cs (reads_all p F (enter p F l ss cs s) cs ++ rest) o (unread l r) (enters p l i)
      ∙ parts_put p F l ss cs r i e w (enter p F l ss cs s) rest (clear_entered p F s l ss cs c) (or_from s.quiet (is_exempt p l) q i)
      ∙ ap (λ g. (replaced g l ss (placed_all p F (enter p F l ss cs s) cs), (p, rest))) (sym (puts_none p s l r))
    where
      unread : (l : Label) → asks_nothing l ≡ true → is_read l ≡ false
      unread (tree.Read x) e = absurd (false≢true e)
      unread l e = refl

  -- a node in which nothing is put
  exempt_put : (l : Label) (ss : List Span) (cs : Forest) → is_exempt p l ≡ true → (s : Carried) (rest : List Put) (o : Spot) → walk.put putting (node l ss cs) (p, reads p F s (node l ss cs) ++ rest) o ≡ (placed p F s (node l ss cs), (p, rest))
  exempt_put l ss cs i s rest o =
      let r = exempt_asks p l i in
      let quiet : (enter p F l ss cs s).quiet ≡ true = or_right s.quiet (is_exempt p l) i in
      ap (λ k. walk.put putting (node l ss cs) (p, (k ++ reads_all p F (enter p F l ss cs s) cs) ++ rest) o) (no_reads p F s l r)
      ∙ ap (λ k. walk.put putting (node l ss cs) (p, k ++ rest) o) (quiet_all_reads p F (enter p F l ss cs s) cs quiet)
      ∙ exempt_stays p l ss cs rest o i
      ∙ ap (λ us. (node l ss us, (p, rest))) (sym (quiet_all_stay p F (enter p F l ss cs s) cs quiet))
      ∙ ap (λ g. (replaced g l ss (placed_all p F (enter p F l ss cs s) cs), (p, rest))) (sym (puts_none p s l r))

  node_put : (l : Label) (ss : List Span) (cs : Forest) → fine l ss cs ≡ true → Each (G p F) cs → G p F (node l ss cs)
  node_put (tree.Read x) ss (t ⊳ ts) e w s rest o c q i = absurd (false≢true e)
  node_put (tree.Read x) ss ε e w s rest o c q i = asked_read p F x ss s rest o q i
  node_put (tree.TypeOfName x) [] cs e w s rest o c q i = absurd (false≢true e)
  node_put (tree.TypeOfName x) (z ∷ rs) (t ⊳ ts) e w s rest o c q i = absurd (false≢true e)
  node_put (tree.TypeOfName x) (z ∷ rs) ε e w s rest o c q i = asked_type p F x z rs s rest o q
  node_put (tree.Shorthand x) ss (t ⊳ ts) e w s rest o c q i = absurd (false≢true e)
  node_put (tree.Shorthand x) ss ε e w s rest o c q i = asked_short p F x ss s rest o q
  node_put l ss cs e w s rest o c q i = by (is_exempt p l) refl
    where
      by : (b : Bool) → is_exempt p l ≡ b → walk.put putting (node l ss cs) (p, reads p F s (node l ss cs) ++ rest) o ≡ (placed p F s (node l ss cs), (p, rest))
      by true x = exempt_put l ss cs x s rest o
      by false x = other_put l ss cs refl x e w s rest o c q

  mutual
    pub consumes : (t : Tree) → formed t ≡ true → G p F t
    consumes (node l ss cs) f = node_put l ss cs (and_parts (fine l ss cs) (all_formed cs) f).0 (each_consumes cs (and_parts (fine l ss cs) (all_formed cs) f).1)

    each_consumes : (ts : Forest) → all_formed ts ≡ true → Each (G p F) ts
    each_consumes ε f = none
    each_consumes (t ⊳ ts) f = more (consumes t (and_parts (formed t) (all_formed ts) f).0) (each_consumes ts (and_parts (formed t) (all_formed ts) f).1)
