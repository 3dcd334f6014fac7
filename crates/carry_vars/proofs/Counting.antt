-- Counters of what is told, node by node.
use Rattle.std.proofs.Common.{◌≡◌, ℕ, zero, suc, ◌+◌, ◌*◌, ◌<◌, ◌≤◌, Bool, true, false, ◌||◌, ◌&&◌, [], ◌∷◌, Option, Some, None, refl, sym, ap, ap₂, ◌∙◌, arith}
use Rattle.std.specs.Prelude.{option_map, if◌then◌else◌}
use Rattle.swc_ast.specs.Tree.{Name, same_name, Label, Tree, node, Forest, ε, ◌⊳◌, label_of, children_of}
use Rattle.swc_ast.specs.Scope.{has_name}
use Rattle.carry_rules.specs.Carry.{one, how_many, how_many_in}
use Rattle.tree_visit.proofs.Caps.{tree_size, forest_size, opened_smaller}
use Rattle.static_proofs.proofs.Names.{same_name_path, same_name_swap}
use Rattle.carry_tables.specs.Tables.{at}
use Rattle.carry_tables.specs.declared.table.NameTable.{NameTable}
use Rattle.carry_vars.specs.declared.count.Count.{Count}
use Rattle.carry_vars.specs.declared.count.Count.TheVariants as of
use Rattle.carry_vars.specs.declared.tally.Fact.{Fact}
use Rattle.carry_vars.specs.declared.tally.Tally.{Tally}
use Rattle.carry_vars.specs.Counts.{count_if, plus, counted}
use Rattle.carry_vars.specs.Told.{holds, told_name, tells, tells_of, counted_if, count_at, Notes}

plus_none : (c : Count) → plus c of.Zero ≡ c
plus_none of.Zero = refl
plus_none of.One = refl
plus_none of.More = refl

plus_grouped : (a b c : Count) → plus (plus a b) c ≡ plus a (plus b c)
plus_grouped of.Zero b c = refl
plus_grouped of.One of.Zero c = refl
plus_grouped of.One of.One of.Zero = refl
plus_grouped of.One of.One of.One = refl
plus_grouped of.One of.One of.More = refl
plus_grouped of.One of.More of.Zero = refl
plus_grouped of.One of.More of.One = refl
plus_grouped of.One of.More of.More = refl
plus_grouped of.More of.Zero c = refl
plus_grouped of.More of.One of.Zero = refl
plus_grouped of.More of.One of.One = refl
plus_grouped of.More of.One of.More = refl
plus_grouped of.More of.More of.Zero = refl
plus_grouped of.More of.More of.One = refl
plus_grouped of.More of.More of.More = refl

more_than_one : (n : ℕ) → of.More ≡ plus of.One (counted (suc n))
more_than_one zero = refl
more_than_one (suc n) = refl

more_than_more : (n : ℕ) → of.More ≡ plus of.More (counted n)
more_than_more zero = refl
more_than_more (suc zero) = refl
more_than_more (suc (suc n)) = refl

pub counted_sum : (m n : ℕ) → counted (m + n) ≡ plus (counted m) (counted n)
counted_sum zero n = let e : zero + n ≡ n = omega arith in ap counted e
counted_sum (suc zero) zero = refl
counted_sum (suc zero) (suc n) = let e : suc zero + suc n ≡ suc (suc n) = omega arith in ap counted e ∙ more_than_one n
counted_sum (suc (suc m)) n = let e : suc (suc m) + n ≡ suc (suc (m + n)) = omega arith in ap counted e ∙ more_than_more n

counted_one : (b : Bool) → counted (one b) ≡ count_if b
counted_one true = refl
counted_one false = refl

-- tables

kept : {A : Type 0} (o : Option A) → o ≡ option_map (λ c. c) o
kept None = refl
kept (Some c) = refl

pub said : (u v : NameTable Tally) (a b : Fact → Name → Count) → ((f : Fact) (x : Name) → a f x ≡ b f x) → Notes u v a → Notes u v b
said u v a b same h = λ f x. h f x ∙ ap (λ c. option_map (λ d. plus d c) (count_at u f x)) (same f x)

pub next : (u v w : NameTable Tally) (a b : Fact → Name → Count) → Notes u v a → Notes v w b → Notes u w (λ f x. plus (a f x) (b f x))
next u v w a b h k = λ f x. k f x ∙ ap (option_map (λ c. plus c (b f x))) (h f x) ∙ both (count_at u f x) (a f x) (b f x)
  where
    both : (o : Option Count) (p q : Count) → option_map (λ c. plus c q) (option_map (λ c. plus c p) o) ≡ option_map (λ c. plus c (plus p q)) o
    both None p q = refl
    both (Some c) p q = ap (λ d. Some d) (plus_grouped c p q)

pub nothing : (u : NameTable Tally) (a : Fact → Name → Count) → ((f : Fact) (x : Name) → a f x ≡ of.Zero) → Notes u u a
nothing u a none = λ f x. same (count_at u f x) ∙ ap (λ c. option_map (λ d. plus d c) (count_at u f x)) (sym (none f x))
  where
    same : (o : Option Count) → o ≡ option_map (λ d. plus d of.Zero) o
    same None = refl
    same (Some c) = ap (λ d. Some d) (sym (plus_none c))

-- a node by itself

none_told : (f : Fact) (x : Name) (l : Label) (cs : Forest) → [] ≡ told_name l → counted (one (tells_of f x l cs)) ≡ of.Zero
none_told f x l cs e = ap (λ ys. counted (one (has_name x ys && tells f l cs))) (sym e)

one_told : (f : Fact) (x y : Name) (l : Label) (cs : Forest) (c : Count) → y ∷ [] ≡ told_name l → c ≡ count_if (tells f l cs) → counted_if (same_name x y) c ≡ counted (one (tells_of f x l cs))
one_told f x y l cs c e is = by (same_name x y) ∙ ap (λ ys. counted (one (has_name x ys && tells f l cs))) e
  where
    by : (b : Bool) → counted_if b c ≡ counted (one ((b || false) && tells f l cs))
    by true = is ∙ sym (counted_one (tells f l cs))
    by false = refl

-- a whole node

whole : (q : Label → Forest → Bool) (t : Tree) (l : Label) (cs : Forest) → label_of t ≡ l → children_of t ≡ cs → how_many q t ≡ one (q l cs) + how_many_in q cs
whole q (node m ss ds) l cs e h = ap₂ (λ k us. one (q k us) + how_many_in q us) e h

counted_whole : (f : Fact) (x : Name) (t : Tree) (l : Label) (cs : Forest) → label_of t ≡ l → children_of t ≡ cs → plus (counted (one (tells_of f x l cs))) (counted (how_many_in (tells_of f x) cs)) ≡ counted (how_many (tells_of f x) t)
counted_whole f x t l cs e h = sym (counted_sum (one (tells_of f x l cs)) (how_many_in (tells_of f x) cs)) ∙ ap counted (sym (whole (tells_of f x) t l cs e h))

pub some_noted : (u v : NameTable Tally) (l : Label) (cs : Forest) (y : Name) (m : Tally) → y ∷ [] ≡ told_name l → ((f : Fact) → holds m f ≡ count_if (tells f l cs)) → Notes u v (λ f x. counted_if (same_name x y) (holds m f)) → Notes u v (λ f x. counted (one (tells_of f x l cs)))
some_noted u v l cs y m named tallied own = said u v (λ f x. counted_if (same_name x y) (holds m f)) (λ f x. counted (one (tells_of f x l cs))) (λ f x. one_told f x y l cs (holds m f) named (tallied f)) own

pub none_noted : (u : NameTable Tally) (l : Label) (cs : Forest) → [] ≡ told_name l → Notes u u (λ f x. counted (one (tells_of f x l cs)))
none_noted u l cs named = nothing u (λ f x. counted (one (tells_of f x l cs))) (λ f x. none_told f x l cs named)

pub whole_noted : (u v w : NameTable Tally) (t : Tree) (l : Label) (cs : Forest) → label_of t ≡ l → children_of t ≡ cs → Notes u v (λ f x. counted (one (tells_of f x l cs))) → Notes v w (λ f x. counted (how_many_in (tells_of f x) cs)) → Notes u w (λ f x. counted (how_many (tells_of f x) t))
whole_noted u v w t l cs e h own inner =
    said u w (λ f x. plus (counted (one (tells_of f x l cs))) (counted (how_many_in (tells_of f x) cs))) (λ f x. counted (how_many (tells_of f x) t)) (λ f x. counted_whole f x t l cs e h)
    (next u v w (λ f x. counted (one (tells_of f x l cs))) (λ f x. counted (how_many_in (tells_of f x) cs)) own inner)

-- children, one after another

abbrev pub Left : NameTable Tally → NameTable Tally → Forest → Forest → Type 0
Left u v us cs = (f : Fact) (x : Name) → option_map (λ c. plus c (counted (how_many_in (tells_of f x) us))) (count_at v f x) ≡ option_map (λ c. plus c (counted (how_many_in (tells_of f x) cs))) (count_at u f x)

pub one_less : (u v w : NameTable Tally) (t : Tree) (ts us cs : Forest) → us ≡ t ⊳ ts → Notes v w (λ f x. counted (how_many (tells_of f x) t)) → Left u v us cs → Left u w ts cs
one_less u v w t ts us cs is h k f x = ap (option_map (λ c. plus c (counted (how_many_in (tells_of f x) ts)))) (h f x) ∙ both (count_at v f x) ∙ k f x
  where
    split : plus (counted (how_many (tells_of f x) t)) (counted (how_many_in (tells_of f x) ts)) ≡ counted (how_many_in (tells_of f x) us)
    split = sym (counted_sum (how_many (tells_of f x) t) (how_many_in (tells_of f x) ts)) ∙ ap (λ zs. counted (how_many_in (tells_of f x) zs)) (sym is)

    both : (o : Option Count) → option_map (λ c. plus c (counted (how_many_in (tells_of f x) ts))) (option_map (λ c. plus c (counted (how_many (tells_of f x) t))) o) ≡ option_map (λ c. plus c (counted (how_many_in (tells_of f x) us))) o
    both None = refl
    both (Some c) = ap (λ d. Some d) (plus_grouped c (counted (how_many (tells_of f x) t)) (counted (how_many_in (tells_of f x) ts)) ∙ ap (plus c) split)

pub none_left : (u v : NameTable Tally) (us cs : Forest) → us ≡ ε → Left u v us cs → Notes u v (λ f x. counted (how_many_in (tells_of f x) cs))
none_left u v us cs is k f x = same (count_at v f x) ∙ ap (λ zs. option_map (λ c. plus c (counted (how_many_in (tells_of f x) zs))) (count_at v f x)) (sym is) ∙ k f x
  where
    same : (o : Option Count) → o ≡ option_map (λ c. plus c (counted 0)) o
    same None = refl
    same (Some c) = ap (λ d. Some d) (sym (plus_none c))

pub children_fall : (t : Tree) (cs : Forest) → children_of t ≡ cs → forest_size cs * 2 + 1 < tree_size t * 2
children_fall t cs is = let smaller = opened_smaller t cs is in omega (arith, smaller)

pub child_falls : (t : Tree) (ts us cs : Forest) → us ≡ t ⊳ ts → forest_size us ≤ forest_size cs → tree_size t * 2 < forest_size cs * 2 + 1
child_falls t ts us cs is h = omega (arith, ap forest_size is, h)

pub rest_within : (t : Tree) (ts us cs : Forest) → us ≡ t ⊳ ts → forest_size us ≤ forest_size cs → forest_size ts ≤ forest_size cs
rest_within t ts us cs is h = omega (arith, ap forest_size is, h)

-- more is told of one name
pub one_noted : (u v : NameTable Tally) (y : Name) (t w m : Tally) → at u y ≡ Some t → ((f : Fact) → holds w f ≡ plus (holds t f) (holds m f)) → ((x : Name) → at v x ≡ option_map (λ k. if same_name y x then w else k) (at u x)) → Notes u v (λ f x. counted_if (same_name x y) (holds m f))
one_noted u v y t w m is and_more made f x =
    ap (option_map (λ k. holds k f)) (made x) ∙ by (same_name y x) refl ∙ ap (λ b. option_map (λ c. plus c (counted_if b (holds m f))) (count_at u f x)) (same_name_swap y x)
  where
    same : (o : Option Tally) → option_map (λ k. holds k f) (option_map (λ k. k) o) ≡ option_map (λ c. plus c of.Zero) (option_map (λ k. holds k f) o)
    same None = refl
    same (Some k) = ap (λ c. Some c) (sym (plus_none (holds k f)))

    by : (b : Bool) → same_name y x ≡ b → option_map (λ k. holds k f) (option_map (λ k. if b then w else k) (at u x)) ≡ option_map (λ c. plus c (counted_if b (holds m f))) (count_at u f x)
    by true e =
        let here : at u x ≡ Some t = ap (at u) (sym (same_name_path y x e)) ∙ is in
        ap (λ o. option_map (λ k. holds k f) (option_map (λ k. w) o)) here ∙ ap (λ c. Some c) (and_more f) ∙ sym (ap (λ o. option_map (λ c. plus c (holds m f)) (option_map (λ k. holds k f) o)) here)
    by false e = same (at u x)
