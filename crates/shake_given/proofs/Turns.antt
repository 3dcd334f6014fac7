-- What is given by the flags that came, one after another.
use Rattle.std.proofs.Common.{◌≡◌, ℕ, suc, ◌+◌, ◌<◌, ◌≤◌, List, [], ◌∷◌, ◌++◌, map, take, drop, drop-cons, get_or, length, sym, ap, subst, ◌∙◌, refl}
use Rattle.std.proofs.lemmas.List.{take_all, take_more, take-append-drop, map-append, map_push}
use Rattle.swc_ast.specs.declared.names.Mark.{Mark}
use Rattle.shake_options.specs.Flags.{FlagText, flag_texts}
use Rattle.shake_options.specs.declared.flags.Flag.{Flag}
use Rattle.shake_given.specs.declared.given.Given.{Given}
use Rattle.shake_given.specs.declared.error.GivenError.{GivenError}
use Rattle.shake_given.specs.Reads.{IsNothing, Takes, Reads, no_flags, one_more}
use Rattle.shake_given.specs.Refusals.{Refuses, FlagRefused}

-- the flags in front of a place
abbrev pub came : List Flag → ℕ → List FlagText
came fs i = map flag_texts (take i fs)

nothing_came : (fs : List Flag) → [] ≡ came fs 0
nothing_came [] = refl
nothing_came (f ∷ fs) = refl

module _ (mark : Mark) (fs : List Flag) where
  pub none_read : {g : Given} → IsNothing g → Reads mark (came fs 0) g
  none_read {g} n = subst (λ ts. Reads mark ts g) (nothing_came fs) (no_flags n)

  pub one_read : (i : ℕ) (f : Flag) {g h : Given} → i < length fs → Reads mark (came fs i) g → Takes (flag_texts (get_or fs i f)) mark g h → Reads mark (came fs (i + 1)) h
  one_read i f {g} {h} l r t =
      subst (λ ts. Reads mark ts h) (sym (ap (map flag_texts) (take_more fs i f l) ∙ map_push flag_texts (take i fs) (get_or fs i f)))
      (one_more (came fs i) (flag_texts (get_or fs i f)) g r t)

  pub all_read : (i : ℕ) {g : Given} → length fs ≤ i → Reads mark (came fs i) g → Reads mark (map flag_texts fs) g
  all_read i {g} l r = subst (λ xs. Reads mark (map flag_texts xs) g) (take_all i fs l) r

  -- a flag that is refused, in front of those that are still to come
  pub one_refused : (i : ℕ) (f : Flag) {g : Given} {e : GivenError} → i < length fs → Reads mark (came fs i) g → Refuses (flag_texts (get_or fs i f)) mark e → FlagRefused (map flag_texts fs) mark e
  one_refused i f {g} l r refuses = record {
    front = came fs i;
    flag = flag_texts (get_or fs i f);
    behind = map flag_texts (drop (suc i) fs);
    order = ap (map flag_texts) (sym (take-append-drop i fs)) ∙ map-append flag_texts (take i fs) (drop i fs) ∙ ap (λ xs. came fs i ++ map flag_texts xs) (drop-cons fs i f l);
    taken = g;
    reads = r;
    refused = refuses;
  }
