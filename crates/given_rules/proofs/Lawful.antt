-- What the walked values put is what stands there; so a module does what it does in the world with answers.
use Rattle.std.proofs.Common.{◌≡◌, ℕ, suc, Bool, true, false, ◌==◌, if◌then◌else◌, List, [], ◌∷◌, ◌++◌, length, Option, Some, None, is_some, eqb-true, refl, sym, ap, ap₂, subst, ◌∙◌}
use Rattle.std.proofs.lemmas.Bool.{false≢true, true≢false}
use Rattle.swc_ast.specs.declared.Span.{Span}
use Rattle.swc_ast.specs.Tree.{Text, Name, Label, Read, TypeOfName, Dot, Index, Module, Script, Tree, node, Forest, ε, label_of}
use Rattle.swc_ast.specs.Meaning.{eval}
use Rattle.swc_ast.specs.Run.{Sees, observe_by, sources, source_of, once}
use Rattle.meaning_proofs.specs.Exact.{Exact}
use Rattle.meaning_proofs.specs.Names.{stays}
use Rattle.swc_ast.specs.Labels.{is_member_or_name}
use Rattle.meaning_proofs.specs.Sameness.{ignoring, heeded, SameIn}
use Rattle.meaning_proofs.specs.Walks.{no_names}
use Rattle.meaning_proofs.specs.Rewrites.{All, nil, cons, Related, modules, scripts}
use Rattle.meaning_proofs.proofs.Declared.{view, same_label}
use Rattle.meaning_proofs.proofs.Endings.{as_counted}
use Rattle.meaning_proofs.proofs.Laws.{only_listed, list_trims_itself, same_lists_itself, list_exact_itself}
use Rattle.meaning_proofs.proofs.Making.{firm_slack}
use Rattle.meaning_proofs.proofs.Quiet.{declares_nothing}
use Rattle.meaning_proofs.proofs.Runs.{same_in}
use Rattle.meaning_proofs.proofs.Walking.{sources_of, other_source}
use Rattle.swc_pass.specs.Given.{Owners, value, is_within, is_as_written, owned, all_owned, Found, nothing, a_value, a_plain, Answers, as_written, in_itself, stands, stand, value_at, for_read, for_type, room, SameGiven}
use Rattle.given_rules.specs.Met.{joined, own_found, met, met_each, covers, is_known}
use Rattle.tree_put.specs.declared.rules.Spot.{Spot}
use Rattle.given_shield.specs.Shield.{is_bare_operand}
use Rattle.given_rules.specs.Put.{here, operand, put, put_all}
use Rattle.given_rules.specs.Worked.{Finals, final, has_final, finished, shielded, put_found, put_text, put_expression, puts, Worked, none_worked, one_worked}
use Rattle.given_rules.proofs.Standing.{does, all_room}
use Rattle.given_rules.proofs.Plain.{Leaves, plain_rewrites}
use Rattle.given_rules.proofs.Covered.{Spanless, known_at}
use Rattle.given_rules.proofs.Putting.{may_go, its_own, a_value as is_value, R, PutFor, nothing_put, any_put, value_put, TypePut, no_text, no_need, text_put, Lawful}
use Rattle.given_rules.proofs.Whole.{put_nothing, put_rewrites, all_put}

-- nothing stands in code that is read as it is written
leaves_all : (a : Answers) → Leaves a
leaves_all a = record { no_read = λ os t. refl; no_type = λ os x. refl }

-- what is given are expressions, and shielding one means the same
pub record Sound (mark : ℕ) (a : Answers) (shield : Spot → Tree → Tree) : Type 0 where
  pub spanless : Spanless a
  pub values : (i : ℕ) → declares_nothing (label_of (value_at a.values i)) ≡ true
  pub plain_ones : (t v : Tree) → a.found t ≡ a_plain v → declares_nothing (label_of v) ≡ true
  pub shield_exact : (p : Spot) (t : Tree) → Exact mark t (shield p t)
  pub shield_nothing : (p : Spot) (t : Tree) → declares_nothing (label_of t) ≡ true → declares_nothing (label_of (shield p t)) ≡ true
  pub shield_operand : (t : Tree) → is_bare_operand (shield operand t) ≡ false

module _ {mark : ℕ} {a : Answers} {shield : Spot → Tree → Tree} (g : Sound mark a shield) where
  -- the walked value of a number is right in code of any owners
  abbrev Right : Finals → Type 0
  Right fs = (i : ℕ) (w : Tree) → final i fs ≡ Some w → (declares_nothing (label_of w) ≡ true) × ((k : ℕ) (os : Owners) → is_as_written os ≡ false → room (all_room a mark) os ≡ suc k → R a mark (owned os (value_at a.values i)) w)

  module _ (fs : Finals) (right : Right fs) (os : Owners) (np : is_as_written os ≡ false) where
    by_within : (p : Spot) (i : ℕ) (w : Tree) → final i fs ≡ Some w → (b : Bool) → PutFor a mark os (if b then in_itself else stands (value i ∷ os) (value_at a.values i)) (Some (shield p w))
    by_within p i w e true = any_put (g.shield_nothing p w (right i w e).0)
    by_within p i w e false = value_put (g.values i) (right i w e).0 (g.shield_nothing p w (right i w e).0) (g.shield_exact p w) (λ k r. (right i w e).1 k (value i ∷ os) refl r)

    by_final : (p : Spot) (i : ℕ) (o : Option Tree) → final i fs ≡ o → is_some o ≡ true → PutFor a mark os (stand a.values os (a_value i)) (shielded a shield p o)
    by_final p i None e k = absurd (false≢true k)
    by_final p i (Some w) e k = by_within p i w e (is_within i os)

    put_for : (p : Spot) (f : Found) → ((v : Tree) → f ≡ a_plain v → declares_nothing (label_of v) ≡ true) → is_known (has_final fs) f ≡ true → PutFor a mark os (stand a.values os f) (put_found a shield (finished fs) p f)
    put_for p nothing q k = nothing_put
    put_for p (a_value i) q k = by_final p i (final i fs) refl k
    put_for p (a_plain v) q k = value_put (q v refl) (q v refl) (g.shield_nothing p v (q v refl)) (g.shield_exact p v) (λ j r. plain_rewrites (leaves_all a) mark j os r v)

    -- in code that is not read as it is written
    stood : (l : Label) (cs : Forest) → stand a.values os (a.found (node l [] cs)) ≡ for_read a os (node l os (all_owned os cs))
    stood l cs = ap (stand a.values os) (sym (g.spanless.by l os os cs)) ∙ ap (λ b. if b then as_written else stand a.values os (a.found (node l os (all_owned os cs)))) (sym np)

    read_put : (p : Spot) (l : Label) (ss : List Span) (cs : Forest) → is_known (has_final fs) (a.found (node l [] cs)) ≡ true → PutFor a mark os (for_read a os (node l os (all_owned os cs))) (put_found a shield (finished fs) p (a.found (node l ss cs)))
    read_put p l ss cs k = subst (λ s. PutFor a mark os s (put_found a shield (finished fs) p (a.found (node l ss cs)))) (stood l cs) (subst (λ f. PutFor a mark os (stand a.values os (a.found (node l [] cs))) (put_found a shield (finished fs) p f)) (sym (g.spanless.root l ss cs)) (put_for p (a.found (node l [] cs)) (λ v e. g.plain_ones (node l [] cs) v e) k))

    typed_as : (f : Found) (t : Option Text) (ss : List Span) → TypePut a mark (stand a.values os f) t (put_text a shield f t ss)
    typed_as nothing None ss = no_text
    typed_as nothing (Some t) ss = text_put
    typed_as (a_value i) t ss = by_bool (is_within i os)
      where
        by_bool : (b : Bool) → TypePut a mark (if b then in_itself else stands (value i ∷ os) (value_at a.values i)) t None
        by_bool true = no_need its_own
        by_bool false = no_need is_value
    typed_as (a_plain v) t ss = no_need is_value

    text_put_as : (x : Name) (ss : List Span) → TypePut a mark (for_read a os (node (Read x) os ε)) (for_type a os x) (put_text a shield (a.found (node (Read x) [] ε)) (a.text x) ss)
    text_put_as x ss = subst (λ s. TypePut a mark s (for_type a os x) (put_text a shield (a.found (node (Read x) [] ε)) (a.text x) ss)) (stood (Read x) ε)
        (subst (λ o. TypePut a mark (stand a.values os (a.found (node (Read x) [] ε))) o (put_text a shield (a.found (node (Read x) [] ε)) (a.text x) ss)) (ap (λ b. if b then None else a.text x) (sym np)) (typed_as (a.found (node (Read x) [] ε)) (a.text x) ss))

    lawful : Lawful a mark (has_final fs) os (puts a shield (finished fs))
    lawful = record { reads = reads; properties = λ x k. read_put here (Read x) [] ε k; types = λ p x ss cs. text_put_as x ss; others = others; operands = operands }
      where
        some_final : (o : Option Tree) (z : Tree) → shielded a shield operand o ≡ Some z → is_bare_operand z ≡ false
        some_final None z e = cc
        some_final (Some t) z e = subst (λ v. is_bare_operand v ≡ false) (some_same e) (g.shield_operand t)
          where
            some_same : {v w : Tree} → Some v ≡ Some w → v ≡ w
            some_same e = cc

        some_found : (f : Found) (z : Tree) → put_found a shield (finished fs) operand f ≡ Some z → is_bare_operand z ≡ false
        some_found nothing z e = cc
        some_found (a_value i) z e = some_final (final i fs) z e
        some_found (a_plain t) z e = some_final (Some t) z e

        some_text : (f : Found) (t : Option Text) (ss : List Span) (z : Tree) → put_text a shield f t ss ≡ Some z → is_bare_operand z ≡ false
        some_text nothing None ss z e = cc
        some_text nothing (Some t) ss z e = subst (λ v. is_bare_operand v ≡ false) (text_same e) refl
          where
            text_same : {v w : Tree} → Some v ≡ Some w → v ≡ w
            text_same e = cc
        some_text (a_value i) t ss z e = cc
        some_text (a_plain v) t ss z e = cc

        operands : (t z : Tree) → put_expression a shield (finished fs) operand t ≡ Some z → is_bare_operand z ≡ false
        operands (node (Read x) ss cs) z e = some_found (a.found (node (Read x) ss cs)) z e
        operands (node (Dot m) ss cs) z e = some_found (a.found (node (Dot m) ss cs)) z e
        operands (node Index ss cs) z e = some_found (a.found (node Index ss cs)) z e
        operands (node (TypeOfName x) ss cs) z e = some_text (a.found (node (Read x) [] ε)) (a.text x) ss z e
        operands (node l ss cs) z e = cc

        reads : (p : Spot) (l : Label) (ss : List Span) (cs : Forest) → is_member_or_name l ≡ true → is_known (has_final fs) (own_found a l cs) ≡ true → PutFor a mark os (for_read a os (node l os (all_owned os cs))) (put_expression a shield (finished fs) p (node l ss cs))
        reads p (Read x) ss cs i k = read_put p (Read x) ss cs k
        reads p (Dot m) ss cs i k = read_put p (Dot m) ss cs k
        reads p Index ss cs i k = read_put p Index ss cs k
        reads p l ss cs i k = absurd (false≢true i)

        others : (p : Spot) (l : Label) (ss : List Span) (cs : Forest) → may_go l ≡ false → put_expression a shield (finished fs) p (node l ss cs) ≡ None
        others p (Read x) ss cs m = absurd (true≢false m)
        others p (Dot n) ss cs m = absurd (true≢false m)
        others p Index ss cs m = absurd (true≢false m)
        others p (TypeOfName x) ss cs m = absurd (true≢false m)
        others p l ss cs m = refl

  -- walked values are right

  found_more : (i j : ℕ) (v w : Tree) (fs : Finals) (b : Bool) → (i == j) ≡ b → (if b then Some v else final j fs) ≡ Some w → ((final j fs ≡ Some w) → (declares_nothing (label_of w) ≡ true) × ((k : ℕ) (os : Owners) → is_as_written os ≡ false → room (all_room a mark) os ≡ suc k → R a mark (owned os (value_at a.values j)) w))
      → (declares_nothing (label_of v) ≡ true) × ((k : ℕ) (os : Owners) → is_as_written os ≡ false → room (all_room a mark) os ≡ suc k → R a mark (owned os (value_at a.values i)) v)
      → (declares_nothing (label_of w) ≡ true) × ((k : ℕ) (os : Owners) → is_as_written os ≡ false → room (all_room a mark) os ≡ suc k → R a mark (owned os (value_at a.values j)) w)
  found_more i j v w fs false q e h m = h e
  found_more i j v w fs true q e h m =
      subst (λ n. (declares_nothing (label_of w) ≡ true) × ((k : ℕ) (os : Owners) → is_as_written os ≡ false → room (all_room a mark) os ≡ suc k → R a mark (owned os (value_at a.values n)) w)) (eqb-true i j q)
      (subst (λ t. (declares_nothing (label_of t) ≡ true) × ((k : ℕ) (os : Owners) → is_as_written os ≡ false → room (all_room a mark) os ≡ suc k → R a mark (owned os (value_at a.values i)) t)) (some_same v w e) m)
    where
      some_same : (v w : Tree) → Some v ≡ Some w → v ≡ w
      some_same v w e = cc

  walked_nothing : (fs : Finals) → Right fs → (t : Tree) → declares_nothing (label_of t) ≡ true → covers (has_final fs) (met a t) ≡ true → declares_nothing (label_of (put (puts a shield (finished fs)) here t)) ≡ true
  walked_nothing fs r (node l ss cs) d c = put_nothing mark (leaves_all a) (suc (length a.values)) [] refl refl g.spanless (has_final fs) (puts a shield (finished fs)) (lawful fs r [] refl) here l ss cs (known_at (has_final fs) a l cs (met_each a cs) c) d

  pub right_of : (fs : Finals) → Worked a shield fs → Right fs
  right_of [] none_worked = λ i w e. cc
  right_of ((i, v) ∷ fs) (one_worked h c) =
      let r = right_of fs h in
      λ j w e. found_more i j v w fs (i == j) refl e (r j w)
      (walked_nothing fs r (value_at a.values i) (g.values i) c, λ k os np q. put_rewrites mark (leaves_all a) k os q np g.spanless (has_final fs) (puts a shield (finished fs)) (lawful fs r os np) here (value_at a.values i) c)

  -- whole modules and scripts

  same_sources : {ts us : Forest} → All no_names mark (does a mark) false ts us → sources ts ≡ sources us
  same_sources nil = refl
  same_sources (cons {t = t} {u} {ts} {us} r rs) = sources_of t ts ∙ ap₂ ◌++◌ (same_label source_of [] other_source (view r)) (same_sources rs) ∙ sym (sources_of u us)

  related_same : (t u : Tree) → Related no_names mark (does a mark) (ignoring true) (owned [] t) u → SameGiven a mark t u
  unfolding SameGiven SameIn
  related_same t u r n d w calls o e =
      let p = same_in r n d w calls o e in
      subst (λ q. observe_by (eval mark n) d w calls u ≡ Sees q) (as_counted true p.0 o p.2) p.1

  -- what is put in the places of a module or a script does what that does in the world with answers
  pub put_same : (fs : Finals) → Worked a shield fs → (l : Label) (ss : List Span) (cs : Forest) → covers (has_final fs) (joined (met_each a cs)) ≡ true → SameGiven a mark (node l ss cs) (node l ss (put_all (puts a shield (finished fs)) here cs))
  unfolding SameGiven observe_by
  put_same fs h Module ss cs c =
      let all : (b : Bool) → All no_names mark (does a mark) b (all_owned [] cs) (put_all (puts a shield (finished fs)) here cs) = all_put mark (leaves_all a) (suc (length a.values)) [] refl refl g.spanless (has_final fs) (puts a shield (finished fs)) (lawful fs (right_of fs h) [] refl) here cs c in
      related_same (node Module ss cs) (node Module ss (put_all (puts a shield (finished fs)) here cs)) (modules {ss = []} {rs = ss} (list_trims_itself (all_owned [] cs)) (same_lists_itself (all_owned [] cs)) (all true) (list_exact_itself mark (put_all (puts a shield (finished fs)) here cs)) (same_lists_itself (put_all (puts a shield (finished fs)) here cs)) refl refl (λ x e. stays refl refl) (ap (λ xs. heeded (ignoring true) (once [] xs)) (same_sources (all false))) (firm_slack no_names (λ x. refl) (all_owned [] cs) (put_all (puts a shield (finished fs)) here cs)))
  put_same fs h Script ss cs c =
      related_same (node Script ss cs) (node Script ss (put_all (puts a shield (finished fs)) here cs)) (scripts {ss = []} {rs = ss} (only_listed (all_put mark (leaves_all a) (suc (length a.values)) [] refl refl g.spanless (has_final fs) (puts a shield (finished fs)) (lawful fs (right_of fs h) [] refl) here cs c true)) (firm_slack no_names (λ x. refl) (all_owned [] cs) (put_all (puts a shield (finished fs)) here cs)))
  put_same fs h l ss cs c = λ n d w calls o q. cc
