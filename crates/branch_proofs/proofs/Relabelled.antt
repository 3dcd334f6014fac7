-- Labels of a context: a loop goes on under the labels that it began with, and they cover the label in front of it.
use Rattle.std.proofs.Common.{◌≡◌, Bool, true, false, not, ◌&&◌, ◌||◌, List, ◌∷◌, ℕ, refl, ap, ◌∙◌, bytes_eq}
use Rattle.std.proofs.lemmas.Bool.{or_right, true≢false}
use Rattle.swc_ast.specs.Tree.{Text}
use Rattle.swc_ast.specs.Value.{Value, Run, and_then, Context}
use Rattle.swc_ast.specs.Scope.{Declared}
use Rattle.swc_ast.specs.Meaning.{◌>>=◌, gives, in_scope, copies, has_label}
use Rattle.pass_proofs.proofs.Runs.{bind_same, bind_chain}
use Rattle.branch_proofs.proofs.Loops.{given}

abbrev pub relabel : List (List ℕ) → Context → Context
relabel ls c = record c { labels = ls }

-- the context of the next turn has the same labels
abbrev pub Follows : (Context → Run Context) → Type 0
Follows next = (ls : List (List ℕ)) (c : Context) → next (relabel ls c) ≡ (next c >>= λ d. gives (relabel ls d))

pub copies_follow : (names : List Declared) → Follows (copies names)
unfolding copies in_scope and_then
copies_follow names ls c = refl

pub gives_follow : Follows gives
unfolding and_then
gives_follow ls c = refl

-- what runs behind that runs under them
pub followed : (next : Context → Run Context) → Follows next → (ls : List (List ℕ)) (c : Context) (k : Context → Run Value) → (next (relabel ls c) >>= k) ≡ (next c >>= λ d. k (relabel ls d))
followed next h ls c k = ap (λ (m : Run Context). m >>= k) (h ls c) ∙ bind_chain (next c) (λ d. gives (relabel ls d)) k ∙ bind_same (next c) (λ d. given (relabel ls d) k)

-- labels that stand in front of a loop are among the context's, or they are those of loops round it which are looked into
pub record Covered (near inside : List Text) (ls : List (List ℕ)) : Type 0 where
  pub by : (l : Text) → has_label l near ≡ true → (has_label l ls || has_label l inside) ≡ true

pub covered_itself : (near : List Text) (ls : List (List ℕ)) → Covered near near ls
covered_itself near ls = record { by = λ l h. or_right (has_label l ls) (has_label l near) h }

either_covered : (a n b i : Bool) → (n ≡ true → (b || i) ≡ true) → (a || n) ≡ true → ((a || b) || i) ≡ true
either_covered true n b i f h = refl
either_covered false n b i f h = f h

pub covered_label : (l : Text) {near inside : List Text} {ls : List (List ℕ)} → Covered near inside ls → Covered (l ∷ near) inside (l ∷ ls)
covered_label l {near} {inside} {ls} k = record { by = λ m h. either_covered (bytes_eq m l) (has_label m near) (has_label m ls) (has_label m inside) (k.by m) h }

-- a `continue` that leaves a loop isn't aimed at one round it which is looked into
pub no_nearer : (k b n i : Bool) → (n ≡ true → (b || i) ≡ true) → (k && not n) ≡ false → b ≡ false → (k && not i) ≡ false
no_nearer false b n i f h e = refl
no_nearer true true n i f h e = absurd (true≢false e)
no_nearer true false false i f h e = absurd (true≢false h)
no_nearer true false true i f h e = ap not (f refl)

pub not_not : (b : Bool) → not b ≡ false → b ≡ true
not_not true h = refl
not_not false h = absurd (true≢false h)
