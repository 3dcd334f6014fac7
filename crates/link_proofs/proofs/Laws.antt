-- A read of a name that stands for another may become a read of the other, and modules rewritten so do the same.
use Rattle.std.proofs.Common.{◌≡◌, ℕ, Bool, true, false, List, [], ◌∷◌, Option, Some, None, refl, sym, ap, subst, ◌∙◌}
use Rattle.swc_ast.specs.declared.Span.{Span}
use Rattle.swc_ast.specs.declared.UnaryOp.TheVariants.{TypeOf}
use Rattle.swc_ast.specs.Tree.{Text, Name, Label, Unary, Read, TypeOfName, Shorthand, KeyValue, Tree, node, Forest, ε, ◌⊳◌, label_of, spans_of}
use Rattle.swc_ast.specs.Value.{Value, State, Outcome, Done, Outside, Run, and_then, Context, Meaning}
use Rattle.swc_ast.specs.Operators.{unary_value}
use Rattle.swc_ast.specs.Meaning.{◌>>=◌, gives, in_core, act, read, read_bound, held_value, cell_at, type_of_name, one_field, is_unresolved, Caller}
use Rattle.swc_ast.specs.Call.{each_of}
use Rattle.swc_ast.specs.Run.{Same}
use Rattle.meaning_proofs.specs.Names.{Names}
use Rattle.meaning_proofs.specs.Exact.{run_at, Trimmed, left_core, Trims}
use Rattle.meaning_proofs.specs.Sameness.{ignoring, SameIn}
use Rattle.meaning_proofs.specs.Roles.{Unfolds}
use Rattle.meaning_proofs.specs.Rewrites.{Related}
use Rattle.link_proofs.specs.Links.{Links, Ground, settled_here, Proper, Put, nothing, a_name, a_value, PutTree, put_number, put_text, put_truth, put_null, put_void, reads, ReadsNone, put_at, through, linked_act, linked_eval, linked_evals, GoodWhole}
use Rattle.tree_put.specs.Keys.{IsKey, plain_key, text_key}
use Rattle.meaning_proofs.proofs.Laws.{trimmed_itself}
use Rattle.meaning_proofs.proofs.Endings.{as_counted}
use Rattle.meaning_proofs.proofs.Runs.{same_in}
use Rattle.link_proofs.proofs.Fors.{bound_read}
use Rattle.link_proofs.proofs.Acts.{NamedBy, by_link, by_settling, ValuedBy, by_known, by_settled, put_is, put_value_is, puts_none}
use Rattle.link_proofs.proofs.Runs.{whole_linked}

linked_evals_are : (L : Links) (mark n : ℕ) (call : Caller) (ts : Forest) → linked_evals L mark n call ts ≡ each_of (linked_eval L mark n call) ts
unfolding linked_evals
linked_evals_are L mark n call ε = refl
linked_evals_are L mark n call (t ⊳ ts) = ap (λ ms. linked_eval L mark n call t ∷ ms) (linked_evals_are L mark n call ts)

through_none : (mark : ℕ) (x : Name) (o : Put) (m : Meaning) (k : Name → Meaning) (f : Value → Run Value) → o ≡ nothing → through mark x o m k f ≡ m
through_none mark x o m k f e = ap (λ (o : Put). through mark x o m k f) e

through_some : (mark : ℕ) (y x : Name) (o : Put) (m : Meaning) (k : Name → Meaning) (f : Value → Run Value) → o ≡ a_name x → through mark y o m k f ≡ (λ c. read mark y c >>= λ v. k x c)
through_some mark y x o m k f e = ap (λ (o : Put). through mark y o m k f) e

through_value : (mark : ℕ) (y : Name) (u : Value) (o : Put) (m : Meaning) (k : Name → Meaning) (f : Value → Run Value) → o ≡ a_value u → through mark y o m k f ≡ (λ c. read mark y c >>= λ v. f u)
through_value mark y u o m k f e = ap (λ (o : Put). through mark y o m k f) e

module _ (L : Links) (mark : ℕ) where
  act_is : (n : ℕ) (call : Caller) (l : Label) (ss : List Span) (cs : Forest) (ms : List Meaning) → ReadsNone L (reads l) ss → linked_act L mark n call l ss cs ms ≡ act mark n call l ss cs ms
  unfolding linked_act act
  act_is n call (Read x) ss cs [] q = through_none mark x (put_at L x ss) _ _ _ q
  act_is n call (Read x) ss cs (m ∷ ms) q = refl
  act_is n call (TypeOfName x) ss cs [] q = through_none mark x (put_at L x ss) _ _ _ q
  act_is n call (TypeOfName x) ss cs (m ∷ ms) q = refl
  act_is n call (Shorthand x) ss cs [] q = through_none mark x (put_at L x ss) _ _ _ q
  act_is n call (Shorthand x) ss cs (m ∷ ms) q = refl
  act_is n call _ ss cs ms q = refl

  -- off reads of linked names the evaluation does what labels say
  pub linked_unfolds : (t : Tree) → ReadsNone L (reads (label_of t)) (spans_of t) → Unfolds mark (linked_eval L mark) t
  unfolding linked_eval
  linked_unfolds (node l ss cs) q = record { by = λ n call. ap (linked_act L mark n call l ss cs) (linked_evals_are L mark n call cs) ∙ act_is n call l ss cs (each_of (linked_eval L mark n call) cs) q }

-- what is put for names stands for none itself
pub record Ends (L : Links) (x : Name) : Type 0 where
  pub unlinked : L.link x ≡ None
  pub unknown : L.known x ≡ None
  pub unsettled : L.settles x ≡ nothing

pub record Target (L : Links) (mark : ℕ) (y x : Name) : Type 0 where
  pub bound : is_unresolved mark y ≡ false
  pub ends : Ends L x

everywhere : Ground
everywhere = record { names = λ x. true; settled = λ x. true; sets = λ x. true }

pub target : {L : Links} {mark : ℕ} → Proper L mark → (y : Name) (ss : List Span) (x : Name) → put_at L y ss ≡ a_name x → Target L mark y x
unfolding everywhere
target {L} {mark} P y ss x e = go (put_is L everywhere y ss (settled_here refl) x e)
  where
    go : NamedBy L everywhere y x → Target L mark y x
    go (by_link l) = record { bound = P.linked_bound y x l; ends = record { unlinked = P.target_ends y x l; unknown = P.target_unknown y x l; unsettled = P.target_settles y x l } }
    go (by_settling l g) = let q = P.settled_ends y x l in record { bound = (P.settled_bound y x l).0; ends = record { unlinked = q.0; unknown = q.1; unsettled = q.2 } }

pub value_bound : {L : Links} {mark : ℕ} → Proper L mark → (y : Name) (ss : List Span) (v : Value) → put_at L y ss ≡ a_value v → is_unresolved mark y ≡ false
unfolding everywhere
value_bound {L} {mark} P y ss v e = go (put_value_is L everywhere y ss (settled_here refl) v e)
  where
    go : ValuedBy L everywhere y v → is_unresolved mark y ≡ false
    go (by_known l) = P.known_bound y v l
    go (by_settled l g) = P.settled_value y v l

-- a read of a name that is bound gives a value and does nothing else, or leaves the core
data JustReads (s : State) : Outcome Value → Type 0 where
  gave : (v : Value) → JustReads s (Done v s)
  left : JustReads s Outside

just_reads : (x : Name) (o : Option ℕ) (s : State) → JustReads s (read_bound x o s)
just_reads x None s = left
just_reads x (Some k) s = go (cell_at s x k)
  where
    value : (o : Option Value) → JustReads s (in_core o s)
    value None = left
    value (Some v) = gave v

    go : (o : Option _) → JustReads s (held_value o s)
    go None = left
    go (Some c) = value c.held

module _ (L : Links) (mark : ℕ) where
  value_read_is : (n : ℕ) (call : Caller) (y : Name) (u : Value) (ss : List Span) → put_at L y ss ≡ a_value u → linked_eval L mark n call (node (Read y) ss ε) ≡ (λ c. read mark y c >>= λ v. gives u)
  unfolding linked_eval linked_evals linked_act
  value_read_is n call y u ss l = through_value mark y u (put_at L y ss) _ _ _ l

  value_type_is : (n : ℕ) (call : Caller) (y : Name) (u : Value) (ss : List Span) → put_at L y ss ≡ a_value u → linked_eval L mark n call (node (TypeOfName y) ss ε) ≡ (λ c. read mark y c >>= λ v. in_core (unary_value TypeOf u))
  unfolding linked_eval linked_evals linked_act
  value_type_is n call y u ss l = through_value mark y u (put_at L y ss) _ _ _ l

  value_short_is : (n : ℕ) (call : Caller) (y : Name) (u : Value) (ss : List Span) → put_at L y ss ≡ a_value u → linked_eval L mark n call (node (Shorthand y) ss ε) ≡ (λ c. read mark y c >>= λ v. one_field y.text u)
  unfolding linked_eval linked_evals linked_act
  value_short_is n call y u ss l = through_value mark y u (put_at L y ss) _ _ _ l

  put_gives : (n : ℕ) (call : Caller) {t : Tree} {u : Value} → PutTree u t → (c : Context) (s : State) → linked_eval L mark n call t c s ≡ Done u s
  unfolding linked_eval linked_evals linked_act act and_then unary_value
  put_gives n call (put_number z) c s = refl
  put_gives n call (put_text t) c s = refl
  put_gives n call (put_truth b) c s = refl
  put_gives n call put_null c s = refl
  put_gives n call (put_void z) c s = refl

  type_gives : (n : ℕ) (call : Caller) {t : Tree} {u : Value} (rs : List Span) → PutTree u t → (c : Context) (s : State) → linked_eval L mark n call (node (Unary TypeOf) rs (t ⊳ ε)) c s ≡ in_core (unary_value TypeOf u) s
  unfolding linked_eval linked_evals linked_act act and_then
  type_gives n call rs p c s = ap (λ (o : Outcome Value). and_then o (λ v. in_core (unary_value TypeOf v))) (put_gives n call p c s)

  -- a property with such a key has its value for the text
  keyed_is : (n : ℕ) (call : Caller) {x : Text} {k : Tree} (t : Tree) (rs : List Span) → IsKey x k → (c : Context) (s : State) → linked_eval L mark n call (node KeyValue rs (k ⊳ t ⊳ ε)) c s ≡ and_then (linked_eval L mark n call t c s) (λ v. one_field x v)
  unfolding linked_eval linked_evals linked_act act and_then
  keyed_is n call t rs plain_key c s = refl
  keyed_is n call t rs text_key c s = refl

  short_gives : (n : ℕ) (call : Caller) (y : Name) {k t : Tree} {u : Value} (rs : List Span) → PutTree u t → IsKey y.text k → (c : Context) (s : State) → linked_eval L mark n call (node KeyValue rs (k ⊳ t ⊳ ε)) c s ≡ one_field y.text u s
  unfolding and_then
  short_gives n call y {t = t} rs p j c s = keyed_is n call t rs j c s ∙ ap (λ (o : Outcome Value). and_then o (λ v. one_field y.text v)) (put_gives n call p c s)

  linked_read_is : (n : ℕ) (call : Caller) (y x : Name) (ss : List Span) → put_at L y ss ≡ a_name x → linked_eval L mark n call (node (Read y) ss ε) ≡ (λ c. read mark y c >>= λ v. read mark x c)
  unfolding linked_eval linked_evals linked_act
  linked_read_is n call y x ss l = through_some mark y x (put_at L y ss) _ _ _ l

  plain_read_is : (n : ℕ) (call : Caller) (x : Name) (ss : List Span) → Ends L x → linked_eval L mark n call (node (Read x) ss ε) ≡ read mark x
  unfolding linked_eval linked_evals linked_act
  plain_read_is n call x ss l = through_none mark x (put_at L x ss) _ _ _ (puts_none L x ss l.unlinked l.unknown l.unsettled)

  linked_type_is : (n : ℕ) (call : Caller) (y x : Name) (ss : List Span) → put_at L y ss ≡ a_name x → linked_eval L mark n call (node (TypeOfName y) ss ε) ≡ (λ c. read mark y c >>= λ v. type_of_name mark x c)
  unfolding linked_eval linked_evals linked_act
  linked_type_is n call y x ss l = through_some mark y x (put_at L y ss) _ _ _ l

  plain_type_is : (n : ℕ) (call : Caller) (x : Name) (ss : List Span) → Ends L x → linked_eval L mark n call (node (TypeOfName x) ss ε) ≡ type_of_name mark x
  unfolding linked_eval linked_evals linked_act
  plain_type_is n call x ss l = through_none mark x (put_at L x ss) _ _ _ (puts_none L x ss l.unlinked l.unknown l.unsettled)

  linked_short_is : (n : ℕ) (call : Caller) (y x : Name) (ss : List Span) → put_at L y ss ≡ a_name x → linked_eval L mark n call (node (Shorthand y) ss ε) ≡ (λ c. read mark y c >>= λ v. (read mark x c >>= λ u. one_field y.text u))
  unfolding linked_eval linked_evals linked_act
  linked_short_is n call y x ss l = through_some mark y x (put_at L y ss) _ _ _ l

  short_is : (n : ℕ) (call : Caller) (y x : Name) {k : Tree} (rs vs : List Span) → Ends L x → IsKey y.text k → (c : Context) (s : State) → linked_eval L mark n call (node KeyValue rs (k ⊳ node (Read x) vs ε ⊳ ε)) c s ≡ and_then (read mark x c s) (λ u. one_field y.text u)
  short_is n call y x rs vs l j c s = keyed_is n call (node (Read x) vs ε) rs j c s ∙ ap (λ (m : Meaning). and_then (m c s) (λ u. one_field y.text u)) (plain_read_is n call x vs l)

module _ {L : Links} {mark : ℕ} (P : Proper L mark) {N : Names} where
  -- the same, where what goes on begins in the state behind the read
  read_step : (y : Name) (c : Context) (s : State) → is_unresolved mark y ≡ false → (m : Run Value) → Trimmed N (and_then (read mark y c s) (λ v. m)) (m s)
  unfolding and_then
  read_step y c s u m = subst (λ (p : Outcome Value). Trimmed N (and_then p (λ v. m)) (m s)) (sym (bound_read mark y c s u)) (go (just_reads y (c.env y) s))
    where
      go : {p : Outcome Value} → JustReads s p → Trimmed N (and_then p (λ v. m)) (m s)
      go (gave v) = trimmed_itself (m s)
      go left = left_core (m s)

  -- `y` to `x`
  pub link_trims : (y x : Name) (ss rs : List Span) → put_at L y ss ≡ a_name x → Trims N (linked_eval L mark) (node (Read y) ss ε) (node (Read x) rs ε)
  link_trims y x ss rs l = record {
    by = λ n d c s g.
        subst (λ (m : Meaning). Trimmed N (m c s) (run_at (linked_eval L mark) n d (node (Read x) rs ε) c s)) (sym (linked_read_is L mark n _ y x ss l))
        (subst (λ (m : Meaning). Trimmed N ((read mark y c >>= λ v. read mark x c) s) (m c s)) (sym (plain_read_is L mark n _ x rs (target P y ss x l).ends)) (read_step y c s (target P y ss x l).bound (read mark x c)));
  }

  -- `typeof y` to `typeof x`
  pub link_type_trims : (y x : Name) (ss rs : List Span) → put_at L y ss ≡ a_name x → Trims N (linked_eval L mark) (node (TypeOfName y) ss ε) (node (TypeOfName x) rs ε)
  link_type_trims y x ss rs l = record {
    by = λ n d c s g.
        subst (λ (m : Meaning). Trimmed N (m c s) (run_at (linked_eval L mark) n d (node (TypeOfName x) rs ε) c s)) (sym (linked_type_is L mark n _ y x ss l))
        (subst (λ (m : Meaning). Trimmed N ((read mark y c >>= λ v. type_of_name mark x c) s) (m c s)) (sym (plain_type_is L mark n _ x rs (target P y ss x l).ends)) (read_step y c s (target P y ss x l).bound (type_of_name mark x c)));
  }

  pub link_shorthand_trims : (y x : Name) {k : Tree} (ss rs vs : List Span) → put_at L y ss ≡ a_name x → IsKey y.text k → Trims N (linked_eval L mark) (node (Shorthand y) ss ε) (node KeyValue rs (k ⊳ node (Read x) vs ε ⊳ ε))
  link_shorthand_trims y x {k} ss rs vs l j = record {
    by = λ n d c s g.
        subst (λ (m : Meaning). Trimmed N (m c s) (run_at (linked_eval L mark) n d (node KeyValue rs (k ⊳ node (Read x) vs ε ⊳ ε)) c s)) (sym (linked_short_is L mark n _ y x ss l))
        (subst (λ (o : Outcome Value). Trimmed N ((read mark y c >>= λ v. (read mark x c >>= λ u. one_field y.text u)) s) o) (sym (short_is L mark n _ y x rs vs (target P y ss x l).ends j c s)) (read_step y c s (target P y ss x l).bound (λ s. and_then (read mark x c s) (λ u. one_field y.text u))));
  }

  -- `y` to the value that it is known to hold
  pub value_trims : (y : Name) {u : Value} {t : Tree} (ss : List Span) → put_at L y ss ≡ a_value u → PutTree u t → Trims N (linked_eval L mark) (node (Read y) ss ε) t
  value_trims y {u} {t} ss e i = record {
    by = λ n d c s g.
        subst (λ (m : Meaning). Trimmed N (m c s) (run_at (linked_eval L mark) n d t c s)) (sym (value_read_is L mark n _ y u ss e))
        (subst (λ (o : Outcome Value). Trimmed N ((read mark y c >>= λ v. gives u) s) o) (sym (put_gives L mark n _ i c s)) (read_step y c s (value_bound P y ss u e) (gives u)));
  }

  pub value_type_trims : (y : Name) {u : Value} {t : Tree} (ss rs : List Span) → put_at L y ss ≡ a_value u → PutTree u t → Trims N (linked_eval L mark) (node (TypeOfName y) ss ε) (node (Unary TypeOf) rs (t ⊳ ε))
  value_type_trims y {u} {t} ss rs e i = record {
    by = λ n d c s g.
        subst (λ (m : Meaning). Trimmed N (m c s) (run_at (linked_eval L mark) n d (node (Unary TypeOf) rs (t ⊳ ε)) c s)) (sym (value_type_is L mark n _ y u ss e))
        (subst (λ (o : Outcome Value). Trimmed N ((read mark y c >>= λ v. in_core (unary_value TypeOf u)) s) o) (sym (type_gives L mark n _ rs i c s)) (read_step y c s (value_bound P y ss u e) (in_core (unary_value TypeOf u))));
  }

  pub value_shorthand_trims : (y : Name) {u : Value} {k t : Tree} (ss rs : List Span) → put_at L y ss ≡ a_value u → PutTree u t → IsKey y.text k → Trims N (linked_eval L mark) (node (Shorthand y) ss ε) (node KeyValue rs (k ⊳ t ⊳ ε))
  value_shorthand_trims y {u} {k} {t} ss rs e i j = record {
    by = λ n d c s g.
        subst (λ (m : Meaning). Trimmed N (m c s) (run_at (linked_eval L mark) n d (node KeyValue rs (k ⊳ t ⊳ ε)) c s)) (sym (value_short_is L mark n _ y u ss e))
        (subst (λ (o : Outcome Value). Trimmed N ((read mark y c >>= λ v. one_field y.text u) s) o) (sym (short_gives L mark n _ y rs i j c s)) (read_step y c s (value_bound P y ss u e) (one_field y.text u)));
  }

module _ {L : Links} {mark : ℕ} (P : Proper L mark) {N : Names} where
  -- Modules and scripts, rewritten with names put for names, do the same.
  pub same_linked : (loads : Bool) {t u : Tree} → GoodWhole L t → Related N mark (linked_eval L mark) (ignoring loads) t u → Same mark loads t u
  unfolding Same SameIn
  same_linked loads g h n d w calls o e =
      let p = same_in h n d w calls o (whole_linked P g n d w calls o e) in
      (p.0, p.1, as_counted loads p.0 o p.2)
