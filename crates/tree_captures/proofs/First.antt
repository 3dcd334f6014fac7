-- The first captured name and validity, of a node and of nodes in a row.
use Rattle.std.proofs.Common.{◌≡◌, ◌+◌, ◌*◌, ◌<◌, ◌≤◌, arith, Bool, true, false, ◌&&◌, List, [], ◌∷◌, ◌++◌, Option, Some, None, is_some, refl, sym, ap, ap₂, ◌∙◌}
use Rattle.std.proofs.Math.Bool.{and-true}
use Rattle.std.proofs.lemmas.Bool.{false≢true}
use Rattle.std.specs.Borrow.{Bor}
use Rattle.swc_ast.specs.Parts.{ident_name}
use Rattle.swc_ast.specs.Tree.{Name, Label, Tree, node, Forest, ε, ◌⊳◌, label_of, children_of}
use Rattle.swc_ast.specs.Valid.{good_names, good_shape, valid, valid_all}
use Rattle.swc_ast.specs.declared.names.Ident.{Ident}
use Rattle.swc_debug.proofs.Whole.{split_as as valid_split}
use Rattle.swc_resolved.specs.Scopes.{own_names}
use Rattle.tree_visit.proofs.Caps.{tree_size, forest_size, opened_smaller}
use Rattle.tree_captures.specs.Captured.{Scopes, Inside, Sight, Caught, Sound, no_scope, with_scope, spelled, if_captured, reach, each, behind_first, within, inside, captured, captured_in, first_of, seen}
use Rattle.tree_captures.specs.Views.{told, sight, sight_of}
use Rattle.tree_captures.specs.declared.captures.Seen.{Seen}
use Rattle.tree_captures.specs.declared.reach.Reach.TheVariants.{Each}

-- what is seen of some names

abbrev is_caught : Sight → Bool
is_caught (Caught x) = true
is_caught (Sound v) = false

abbrev is_sound : Sight → Bool
is_sound (Caught x) = false
is_sound (Sound v) = v

abbrev pub if_some : Option Name → Sight
if_some None = Sound false
if_some (Some x) = Caught x

abbrev caught_name : Sight → Option Name
caught_name (Caught x) = Some x
caught_name (Sound v) = None

pub nothing : (o : Option (Bor Ident)) (xs : List Name) → told o ≡ first_of xs → is_some o ≡ false → xs ≡ []
nothing None [] e h = refl
nothing None (x ∷ xs) e h = absurd (false≢true (ap is_some e))
nothing (Some n) xs e h = absurd (false≢true (sym h))

something : (o : Option (Bor Ident)) (v w : Bool) (xs ys : List Name) → told o ≡ first_of xs → is_some o ≡ true → sight_of o v ≡ seen (xs ++ ys) w
something None v w xs ys e h = absurd (false≢true h)
something (Some n) v w [] ys e h = absurd (false≢true (sym (ap is_some e)))
something (Some n) v w (x ∷ xs) ys e h = ap if_some e

stops : (o : Option (Bor Ident)) (v a b : Bool) (xs ys : List Name) → sight_of o v ≡ seen xs a → is_some o ≡ true → sight_of o v ≡ seen (xs ++ ys) b
stops None v a b xs ys e h = absurd (false≢true h)
stops (Some n) v a b [] ys e h = absurd (false≢true (sym (ap is_caught e)))
stops (Some n) v a b (x ∷ xs) ys e h = e

passes : (o : Option (Bor Ident)) (v a : Bool) (xs : List Name) → sight_of o v ≡ seen xs a → is_some o ≡ false → (xs ≡ []) × (v ≡ a)
passes None v a [] e h = (refl, ap is_sound e)
passes None v a (x ∷ xs) e h = absurd (false≢true (ap is_caught e))
passes (Some n) v a xs e h = absurd (false≢true (sym h))

-- the fault in what is seen

pub caught : (s : Seen) (n : Bor Ident) (xs : List Name) (v : Bool) → s.captured ≡ Some n → sight s ≡ seen xs v → first_of xs ≡ Some (ident_name n.now)
caught s n xs v is e = named xs (sym (ap (λ o. sight_of o s.is_valid) is) ∙ e)
  where
    named : (xs : List Name) → Caught (ident_name n.now) ≡ seen xs v → first_of xs ≡ Some (ident_name n.now)
    named [] h = absurd (false≢true (sym (ap is_caught h)))
    named (x ∷ xs) h = sym (ap caught_name h)

pub uncaught : (s : Seen) (xs : List Name) (v : Bool) → s.captured ≡ None → sight s ≡ seen xs v → (xs ≡ []) × (v ≡ s.is_valid)
uncaught s xs v is e = let both = passes None s.is_valid v xs (sym (ap (λ o. sight_of o s.is_valid) is) ∙ e) refl in (both.0, sym both.1)

-- a node

split : (e : Scopes) (t : Tree) → captured e t ≡ if_captured e (spelled (label_of t)) ++ captured_in (inside (label_of t) (children_of t) e) (children_of t)
split e (node l ss cs) = refl

split_as : (e : Scopes) (t : Tree) (l : Label) (cs : Forest) → label_of t ≡ l → children_of t ≡ cs → captured e t ≡ if_captured e (spelled l) ++ captured_in (inside l cs e) cs
split_as e t l cs labelled held = split e t ∙ ap₂ (λ k ts. if_captured e (spelled k) ++ captured_in (inside k ts e) ts) labelled held

pub found_here : (e : Scopes) (t : Tree) (l : Label) (cs : Forest) (o : Option (Bor Ident)) (v w : Bool) → label_of t ≡ l → children_of t ≡ cs → told o ≡ first_of (if_captured e (spelled l)) → is_some o ≡ true → sight_of o v ≡ seen (captured e t) w
found_here e t l cs o v w labelled held own is = something o v w (if_captured e (spelled l)) (captured_in (inside l cs e) cs) own is ∙ ap (λ xs. seen xs w) (sym (split_as e t l cs labelled held))

two_of : (v a b : Bool) → ((v && a) && b) ≡ (v && (a && b))
two_of true a b = refl
two_of false a b = refl

valid_of : (t : Tree) (l : Label) (cs : Forest) (v : Bool) → label_of t ≡ l → children_of t ≡ cs → (v && ((good_names l && good_shape l cs) && valid_all cs)) ≡ (v && valid t)
valid_of t l cs v labelled held = ap (λ b. v && b) (sym (valid_split t l cs labelled held))

valid_below : (t : Tree) (l : Label) (cs : Forest) (v g : Bool) → label_of t ≡ l → children_of t ≡ cs → g ≡ (v && (good_names l && good_shape l cs)) → (g && valid_all cs) ≡ (v && valid t)
valid_below t l cs v g labelled held good = ap (λ b. b && valid_all cs) good ∙ (two_of v (good_names l && good_shape l cs) (valid_all cs) ∙ valid_of t l cs v labelled held)

pub found_below : (e : Scopes) (t : Tree) (l : Label) (cs : Forest) (i : Inside) (v g : Bool) → label_of t ≡ l → children_of t ≡ cs → if_captured e (spelled l) ≡ [] → i ≡ inside l cs e → g ≡ (v && (good_names l && good_shape l cs)) → seen (captured_in i cs) (g && valid_all cs) ≡ seen (captured e t) (v && valid t)
found_below e t l cs i v g labelled held free is good = ap₂ seen
    (sym (split_as e t l cs labelled held ∙ ap₂ (λ xs j. xs ++ captured_in j cs) free (sym is)))
    (valid_below t l cs v g labelled held good)

-- a node that no scope is round, and whose own scope is round each child

unscoped : (o : Option Name) → if_captured no_scope o ≡ []
unscoped None = refl
unscoped (Some x) = refl

inside_each : (l : Label) (cs : Forest) (e f : Scopes) → reach l ≡ Each → f ≡ with_scope (own_names l cs) e → each f ≡ inside l cs e
inside_each l cs e f whole is = ap each is ∙ sym (ap (λ r. within r cs e (with_scope (own_names l cs) e)) whole)

pub found_in_whole : (t : Tree) (l : Label) (cs : Forest) (f : Scopes) (w : Scopes → Inside) (g : Bool) → label_of t ≡ l → children_of t ≡ cs → reach (label_of t) ≡ Each → f ≡ with_scope (own_names l cs) no_scope → w ≡ each → g ≡ (good_names l && good_shape l cs) → seen (captured_in (w f) cs) (g && valid_all cs) ≡ seen (captured no_scope t) (valid t)
found_in_whole t l cs f w g labelled held whole own is good = found_below no_scope t l cs (w f) true g labelled held (unscoped (spelled l)) (ap (λ v. v f) is ∙ inside_each l cs no_scope f (sym (ap reach labelled) ∙ whole) own) good

-- nodes in a row

pub found_among : (i : Inside) (t : Tree) (ts us : Forest) (s : Seen) (v w : Bool) (g : Sight) → us ≡ t ⊳ ts → sight s ≡ seen (captured i.first t) v → is_some s.captured ≡ true → seen (captured_in i us) w ≡ g → sight s ≡ g
found_among i t ts us s v w g is own found h = stops s.captured s.is_valid v w (captured i.first t) (captured_in (behind_first i) ts) own found ∙ sym (ap (λ vs. seen (captured_in i vs) w) is) ∙ h

first_then : (i : Inside) (t : Tree) (ts : Forest) (o : Option (Bor Ident)) (u v : Bool) → sight_of o u ≡ seen (captured i.first t) (v && valid t) → is_some o ≡ false → seen (captured_in (behind_first i) ts) (u && valid_all ts) ≡ seen (captured_in i (t ⊳ ts)) (v && valid_all (t ⊳ ts))
first_then i t ts o u v own found = both (passes o u (v && valid t) (captured i.first t) own found)
  where
    both : (captured i.first t ≡ []) × (u ≡ (v && valid t)) → seen (captured_in (behind_first i) ts) (u && valid_all ts) ≡ seen (captured_in i (t ⊳ ts)) (v && valid_all (t ⊳ ts))
    both p = ap₂ seen (sym (ap (λ xs. xs ++ captured_in (behind_first i) ts) p.0)) (ap (λ b. b && valid_all ts) p.1 ∙ two_of v (valid t) (valid_all ts))

pub goes_on : (i j : Inside) (t : Tree) (ts us : Forest) (s : Seen) (v : Bool) (g : Sight) → us ≡ t ⊳ ts → sight s ≡ seen (captured i.first t) (v && valid t) → is_some s.captured ≡ false → j ≡ behind_first i → seen (captured_in i us) (v && valid_all us) ≡ g → seen (captured_in j ts) (s.is_valid && valid_all ts) ≡ g
goes_on i j t ts us s v g is own found moved h = ap (λ k. seen (captured_in k ts) (s.is_valid && valid_all ts)) moved ∙ (first_then i t ts s.captured s.is_valid v own found ∙ (sym (ap (λ vs. seen (captured_in i vs) (v && valid_all vs)) is) ∙ h))

pub ends : (i : Inside) (us : Forest) (v : Bool) (g : Sight) → us ≡ ε → seen (captured_in i us) (v && valid_all us) ≡ g → Sound v ≡ g
ends i us v g is h = ap Sound (sym (and-true v)) ∙ sym (ap (λ vs. seen (captured_in i vs) (v && valid_all vs)) is) ∙ h

pub nobody : {A : Type 0} (o : Option A) → is_some o ≡ false → o ≡ None
nobody None h = refl
nobody (Some x) h = absurd (false≢true (sym h))

-- how deep the walk is

pub children_fall : (t : Tree) (cs : Forest) → children_of t ≡ cs → forest_size cs * 3 + 2 < tree_size t * 3 + 1
children_fall t cs is = let smaller = opened_smaller t cs is in omega (arith, smaller)

pub child_falls : (t : Tree) (ts us cs : Forest) → us ≡ t ⊳ ts → forest_size us ≤ forest_size cs → tree_size t * 3 + 2 < forest_size cs * 3 + 2
child_falls t ts us cs is h = omega (arith, ap forest_size is, h)
