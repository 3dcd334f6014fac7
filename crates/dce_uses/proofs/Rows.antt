-- Rows that are noted, and rows that are taken.
use Rattle.std.proofs.Common.{◌≡◌, ℕ, ◌<◌, ◌≤◌, Bool, true, false, ◌||◌, ◌&&◌, List, [], ◌∷◌, ◌++◌, length, vec_len, position, slice_index_or, append-nil, append_assoc, refl, sym, ap, ap₂, subst, ◌∙◌, arith}
use Rattle.std.specs.Prelude.{if◌then◌else◌, option_map, unwrap_or, nat_eq}
use Rattle.std.proofs.lemmas.Bool.{or_parts, not-true, eqb-true, eq-eqb, false_from_ne_true, false≢true}
use Rattle.std.proofs.lemmas.Option.{slice_get_read}
use Rattle.swc_ast.specs.Tree.{Name, same_name}
use Rattle.dce_uses.specs.declared.tally.Fact.{Fact}
use Rattle.dce_uses.specs.declared.tally.Fact.TheVariants as fact
use Rattle.dce_uses.specs.declared.tally.Tally.{Tally}
use Rattle.dce_uses.specs.declared.said.Row.{Row}
use Rattle.dce_uses.specs.declared.table.Table.{Table}
use Rattle.dce_uses.specs.Said.{AreNumbered, is_number, row_says, rows_say}
use Rattle.dce_uses.specs.Tables.{Extends, IsNumbered, Notes, Touches, fact_at, fact_of, has_number, holds, is_blank}
use Rattle.dce_uses.proofs.Adding.{Going, or_false, or_grouped, or_swap, and_false, ends}
use Rattle.dce_uses.proofs.Extending.{extends_as, longer}
use Rattle.dce_uses.proofs.Numbering.{Changes, and_true, changed_at, changed_of, fact_in, has_append, more_told, past, same_among, same_facts, stays_numbered, told_before}

-- rows where more names stand behind those of before

row_behind : (ns ms : List Name) (r : Row) (f : Fact) (x : Name) → Extends ns ms → r.number < length ns → row_says ms r f x ≡ row_says ns r f x
row_behind ns ms r f x e low =
    ap (λ b. holds r.tally f && b)
    (same_among x ns ms (λ o. unwrap_or (option_map (nat_eq r.number) o) false) e refl
    (λ n high. false_from_ne_true (nat_eq r.number n) (λ same. let is = eqb-true r.number n same in absurd (omega (arith, low, high, is)))))

pub rows_behind : (ns ms : List Name) (rs : List Row) (f : Fact) (x : Name) → Extends ns ms → AreNumbered ns rs → rows_say ms rs f x ≡ rows_say ns rs f x
rows_behind ns ms [] f x e low = refl
rows_behind ns ms (r ∷ rs) f x e low = ap₂ (λ a b. a || b) (row_behind ns ms r f x e low.0) (rows_behind ns ms rs f x e low.1)

pub numbered_behind : (ns ms : List Name) (rs : List Row) → Extends ns ms → AreNumbered ns rs → AreNumbered ms rs
numbered_behind ns ms [] e low = tt
numbered_behind ns ms (r ∷ rs) e low = (let below = low.0 in let more = longer ns ms e in omega (arith, below, more), numbered_behind ns ms rs e low.1)

-- a row is noted

pub row_noted : (u v w : Table) (r : Row) (t s : Tally) → Touches u v r.number → Changes v w r.number t s → ((f : Fact) → holds s f ≡ (holds t f || holds r.tally f)) → Notes u w (row_says u.names r)
row_noted u v w r t s touch h with_more = record {
  names = extends_as u.names w.names (h.names ∙ touch.names);
  numbered = λ k. stays_numbered v w r.number t s h (touch.touched k) (touch.numbered k);
  facts = λ k f x.
      more_told v w r.number t s (holds r.tally) h with_more f x
      ∙ ap₂ (λ a ns. a || (holds r.tally f && is_number ns x r.number)) (same_facts u v r.number touch f x) touch.names;
}

-- rows are noted, one after another

-- what is left to note
pub record RowsLeft (u v : Table) (all left : List Row) : Type 0 where
  pub going : Going u v (rows_say u.names all) (rows_say u.names left)
  pub names : v.names ≡ u.names
  pub numbers : AreNumbered v.names left

pub no_more_rows : (u v : Table) (all left : List Row) → left ≡ [] → RowsLeft u v all left → Notes u v (rows_say u.names all)
no_more_rows u v all left none h = ends u v (rows_say u.names all) (rows_say u.names left) (λ f x. ap (λ rs. rows_say u.names rs f x) none) h.going

-- rows are taken, one after another

-- what is still noted, with what rows tell, is what was noted
pub record Taking (u v : Table) (rs : List Row) : Type 0 where
  pub names : v.names ≡ u.names
  pub numbered : IsNumbered v
  pub numbers : AreNumbered u.names rs
  pub facts : (f : Fact) (x : Name) → (fact_of v f x || rows_say u.names rs f x) ≡ fact_of u f x

-- the same of rows behind others
pub record TakingBehind (u v : Table) (old new : List Row) : Type 0 where
  pub more : List Row
  pub is : new ≡ old ++ more
  pub taking : Taking u v more

pub one_behind : (u v w : Table) (old rs qs : List Row) (r : Row) → qs ≡ rs ++ r ∷ [] → (h : TakingBehind u v old rs) → (Taking u v h.more → Taking u w (h.more ++ r ∷ [])) → TakingBehind u w old qs
one_behind u v w old rs qs r pushed h go = record { more = h.more ++ r ∷ []; is = pushed ∙ ap (λ ps. ps ++ r ∷ []) h.is ∙ append_assoc old h.more (r ∷ []); taking = go h.taking }

pub none_behind : (u v w : Table) (old rs : List Row) → (h : TakingBehind u v old rs) → (Taking u v h.more → Taking u w h.more) → TakingBehind u w old rs
none_behind u v w old rs h go = record { more = h.more; is = h.is; taking = go h.taking }

-- at first all is still noted
pub takes_none : (u : Table) → IsNumbered u → Taking u u []
takes_none u k = record { names = refl; numbered = k; numbers = tt; facts = λ f x. or_false (fact_of u f x) }

pub none_taken : (u : Table) (old : List Row) → Taking u u [] → TakingBehind u u old old
none_taken u old h = record { more = []; is = sym (append-nil old); taking = h }

-- A table where nothing is noted any more at the last number that was touched.
record Emptied (v w : Table) (n : ℕ) : Type 0 where
  names : w.names ≡ v.names
  touched : v.touched.items ≡ w.touched.items ++ n ∷ []
  length : length w.tallies.items ≡ length v.tallies.items
  facts : (f : Fact) (m : ℕ) → fact_at w.tallies.items f m ≡ (if nat_eq n m then false else fact_at v.tallies.items f m)

still_numbered : (v w : Table) (n : ℕ) → Emptied v w n → IsNumbered v → IsNumbered w
still_numbered v w n h k = record {
  within = omega (arith, h.length, k.within, ap (λ ns. length ns) h.names);
  touched = λ f m is. by f m (nat_eq n m) refl (sym (h.facts f m) ∙ is);
}
  where
    apart : (m : ℕ) → nat_eq n m ≡ false → has_number m v.touched.items ≡ true → has_number m w.touched.items ≡ true
    apart m other is =
        sym (or_false (has_number m w.touched.items))
        ∙ ap (λ b. has_number m w.touched.items || b) (sym (ap (λ b. b || false) (false_from_ne_true (nat_eq m n) (λ same. false≢true (sym other ∙ eq-eqb n m (sym (eqb-true m n same)))))))
        ∙ sym (has_append m w.touched.items (n ∷ [])) ∙ sym (ap (has_number m) h.touched) ∙ is

    by : (f : Fact) (m : ℕ) (b : Bool) → nat_eq n m ≡ b → (if nat_eq n m then false else fact_at v.tallies.items f m) ≡ true → has_number m w.touched.items ≡ true
    by f m true same is = absurd (false≢true (sym (ap (λ b. if b then false else fact_at v.tallies.items f m) same) ∙ is))
    by f m false other is = apart m other (k.touched f m (sym (ap (λ b. if b then false else fact_at v.tallies.items f m) other) ∙ is))

-- at a number at which nothing was noted
pub skipped : (u v w : Table) (n : ℕ) (rs : List Row) → w.names ≡ v.names → w.tallies.items ≡ v.tallies.items → v.touched.items ≡ w.touched.items ++ n ∷ [] → ((f : Fact) → fact_at v.tallies.items f n ≡ false) → Taking u v rs → Taking u w rs
skipped u v w n rs names tallies touched none h = record {
  names = names ∙ h.names;
  numbered = still_numbered v w n (record { names = names; touched = touched; length = ap (λ ts. length ts) tallies; facts = λ f m. ap (λ ts. fact_at ts f m) tallies ∙ by f m (nat_eq n m) refl }) h.numbered;
  numbers = h.numbers;
  facts = λ f x. ap₂ (λ ts ns. fact_in ts (position (same_name x) ns) f || rows_say u.names rs f x) tallies names ∙ h.facts f x;
}
  where
    by : (f : Fact) (m : ℕ) (b : Bool) → nat_eq n m ≡ b → fact_at v.tallies.items f m ≡ (if nat_eq n m then false else fact_at v.tallies.items f m)
    by f m true same = ap (λ k. fact_at v.tallies.items f k) (sym (eqb-true n m same)) ∙ none f ∙ sym (ap (λ b. if b then false else fact_at v.tallies.items f m) same)
    by f m false other = sym (ap (λ b. if b then false else fact_at v.tallies.items f m) other)

-- no tally is there
pub past_all : (u v w : Table) (n m : ℕ) (rs : List Row) → w.names ≡ v.names → w.tallies.items ≡ v.tallies.items → v.touched.items ≡ w.touched.items ++ n ∷ [] → m ≤ n → m ≡ vec_len v.tallies → Taking u v rs → Taking u w rs
past_all u v w n m rs names tallies touched high len h = skipped u v w n rs names tallies touched (λ f. past v.tallies.items f n (omega (arith, high, len, v.tallies.ok.0))) h

-- one row more

one_more : (ns : List Name) (rs : List Row) (r : Row) (f : Fact) (x : Name) → rows_say ns (rs ++ r ∷ []) f x ≡ (rows_say ns rs f x || row_says ns r f x)
one_more ns [] r f x = or_false (row_says ns r f x)
one_more ns (q ∷ rs) r f x = ap (λ b. row_says ns q f x || b) (one_more ns rs r f x) ∙ sym (or_grouped (row_says ns q f x) (rows_say ns rs f x) (row_says ns r f x))

one_numbered : (ns : List Name) (rs : List Row) (r : Row) → AreNumbered ns rs → r.number < length ns → AreNumbered ns (rs ++ r ∷ [])
one_numbered ns [] r h low = (low, tt)
one_numbered ns (q ∷ rs) r h low = (h.0, one_numbered ns rs r h.1 low)

-- what was noted of one name goes to a row
moved : (noted now row rows all is : Bool) (told : Bool) → now ≡ (if is then false else noted) → (is ≡ true → noted ≡ told) → row ≡ (told && is) → (noted || rows) ≡ all → (now || (rows || row)) ≡ all
moved noted now row rows all true told left before said h = ap₂ (λ a b. a || (rows || b)) left (said ∙ and_true told ∙ sym (before refl)) ∙ or_swap rows noted ∙ h
moved noted now row rows all false told left before said h = ap₂ (λ a b. a || (rows || b)) left (said ∙ and_false told) ∙ ap (λ b. noted || b) (or_false rows) ∙ h

pub taken : (u v p w : Table) (n m : ℕ) (t e : Tally) (r : Row) (rs qs : List Row) → p.names ≡ v.names → p.tallies.items ≡ v.tallies.items → v.touched.items ≡ p.touched.items ++ n ∷ [] → n < m → m ≡ vec_len p.tallies → Changes p w n t e → ((f : Fact) → holds e f ≡ false) → r.number ≡ n → r.tally ≡ t → qs ≡ rs ++ r ∷ [] → Taking u v rs → Taking u w qs
taken u v p w n m t e r rs qs names tallies touched low len h none numbered tally pushed k = record {
  names = h.names ∙ names ∙ k.names;
  numbered = still_numbered v w n (record {
    names = h.names ∙ names;
    touched = touched ∙ ap (λ ms. ms ++ n ∷ []) (sym h.touched);
    length = h.length ∙ ap (λ ts. length ts) tallies;
    facts = λ f i. changed_at p w n t e h f i ∙ ap₂ (λ b ts. if nat_eq n i then b else fact_at ts f i) (none f) tallies;
  }) k.numbered;
  numbers = subst (AreNumbered u.names) (sym pushed) (one_numbered u.names rs r k.numbers
      (omega (arith, low, len, numbered, p.tallies.ok.0, ap (λ ts. length ts) tallies, k.numbered.within, ap (λ ns. length ns) k.names)));
  facts = λ f x.
      ap (λ b. fact_of w f x || b) (ap (λ ps. rows_say u.names ps f x) pushed ∙ one_more u.names rs r f x)
      ∙ moved (fact_of v f x) (fact_of w f x) (row_says u.names r f x) (rows_say u.names rs f x) (fact_of u f x) (is_number p.names x n) (holds t f)
      (changed_of p w n t e h f x ∙ ap₂ (λ a b. if is_number p.names x n then a else b) (none f) (same f x))
      (λ is. sym (same f x) ∙ told_before p w n t e h f x is)
      (ap₂ (λ a i. holds a f && is_number u.names x i) tally numbered ∙ ap (λ ns. holds t f && is_number ns x n) (sym (names ∙ k.names)))
      (k.facts f x);
}
  where
    same : (f : Fact) (x : Name) → fact_of p f x ≡ fact_of v f x
    same f x = ap₂ (λ ts ns. fact_in ts (position (same_name x) ns) f) tallies names

-- nothing was noted in a tally without facts
pub blank_tally : (t : Tally) → is_blank t ≡ true → (f : Fact) → holds t f ≡ false
blank_tally t is f =
    let a = or_parts ((((holds t fact.Used || holds t fact.Written) || holds t fact.Abroad) || holds t fact.Declared) || holds t fact.Held) (holds t fact.Hidden) (not-true _ is) in
    let b = or_parts (((holds t fact.Used || holds t fact.Written) || holds t fact.Abroad) || holds t fact.Declared) (holds t fact.Held) a.0 in
    let c = or_parts ((holds t fact.Used || holds t fact.Written) || holds t fact.Abroad) (holds t fact.Declared) b.0 in
    let d = or_parts (holds t fact.Used || holds t fact.Written) (holds t fact.Abroad) c.0 in
    let e = or_parts (holds t fact.Used) (holds t fact.Written) d.0 in
    by f e.0 e.1 d.1 c.1 b.1 a.1
  where
    by : (f : Fact) → holds t fact.Used ≡ false → holds t fact.Written ≡ false → holds t fact.Abroad ≡ false → holds t fact.Declared ≡ false → holds t fact.Held ≡ false → holds t fact.Hidden ≡ false → holds t f ≡ false
    by fact.Used used written abroad declared held hidden = used
    by fact.Written used written abroad declared held hidden = written
    by fact.Abroad used written abroad declared held hidden = abroad
    by fact.Declared used written abroad declared held hidden = declared
    by fact.Held used written abroad declared held hidden = held
    by fact.Hidden used written abroad declared held hidden = hidden

-- something was noted in any other
pub some_fact : (t : Tally) → is_blank t ≡ false → (f : Fact) × (holds t f ≡ true)
some_fact t is = by (holds t fact.Used) refl (holds t fact.Written) refl (holds t fact.Abroad) refl (holds t fact.Declared) refl (holds t fact.Held) refl (holds t fact.Hidden) refl
  where
    by : (a : Bool) → holds t fact.Used ≡ a → (b : Bool) → holds t fact.Written ≡ b → (c : Bool) → holds t fact.Abroad ≡ c → (d : Bool) → holds t fact.Declared ≡ d → (e : Bool) → holds t fact.Held ≡ e → (g : Bool) → holds t fact.Hidden ≡ g → (f : Fact) × (holds t f ≡ true)
    by true p b q c r d s e v g w = (fact.Used, p)
    by false p true q c r d s e v g w = (fact.Written, q)
    by false p false q true r d s e v g w = (fact.Abroad, r)
    by false p false q false r true s e v g w = (fact.Declared, s)
    by false p false q false r false s true v g w = (fact.Held, v)
    by false p false q false r false s false v true w = (fact.Hidden, w)
    by false p false q false r false s false v false w = absurd (false≢true (sym is ∙ cc (p, q, r, s, v, w)))

-- what was noted at a number that has a tally
pub told_there : (v : Table) (n m : ℕ) (t : Tally) (f : Fact) → n < m → m ≡ vec_len v.tallies → t ≡ slice_index_or v.tallies.items n t → fact_at v.tallies.items f n ≡ holds t f
told_there v n m t f low len read =
    ap (λ o. unwrap_or (option_map (λ s. holds s f) o) false)
    (slice_get_read v.tallies.items (length v.tallies.items) n t refl (omega (arith, low, len, v.tallies.ok.0)) read)
