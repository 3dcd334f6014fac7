-- What the walk that puts makes of a module or a script does what that does in the world with answers.
use Rattle.std.proofs.Common.{◌≡◌, ℕ, Bool, true, false, if◌then◌else◌, List, [], Option, Some, None, refl, sym, ap, subst, ◌∙◌}
use Rattle.std.proofs.lemmas.Bool.{true≢false}
use Rattle.swc_ast.specs.declared.Span.{Span}
use Rattle.swc_ast.specs.Tree.{Text, Label, Read, Dot, Index, TypeOfName, Module, Script, Tree, node, Forest, ε}
use Rattle.swc_pass.specs.Given.{Found, nothing, a_value, a_plain, Answers, SameGiven}
use Rattle.swc_pass.specs.Inlined.{Given, inlined}
use Rattle.tree_put.specs.Put as walk
use Rattle.swc_ast.specs.Labels.{is_expression}
use Rattle.tree_put.specs.Still.{still}
use Rattle.tree_put.specs.declared.rules.Spot.{Spot}
use Rattle.tree_put.specs.declared.rules.Spot.TheVariants as spot
use Rattle.given_shield.specs.Shield.{is_bare_callee, guarded, shield}
use Rattle.given_rules.specs.Formed.{formed}
use Rattle.given_rules.specs.Met.{met, covers}
use Rattle.given_rules.specs.Put.{here, callee, put}
use Rattle.given_rules.specs.Walk.{put_answer}
use Rattle.given_rules.specs.Worked.{Finals, Finished, finished, has_final, shielded, put_found, put_text, put_expression, puts, Worked}
use Rattle.given_rules.proofs.Instances.{AreExpressions, inlined_spanless, inline_same}
use Rattle.given_rules.proofs.Covered.{Spanless}
use Rattle.given_rules.proofs.Walked.{Told, walked}

-- a module or a script
pub data IsWhole : Tree → Type 0 where
  a_module : {ss : List Span} {cs : Forest} → IsWhole (node Module ss cs)
  a_script : {ss : List Span} {cs : Forest} → IsWhole (node Script ss cs)

shield_callee : (t : Tree) → is_bare_callee (shield spot.Callee t) ≡ false
shield_callee t = by_bare (is_bare_callee t) refl
  where
    by_bare : (b : Bool) → is_bare_callee t ≡ b → is_bare_callee (if b then guarded t else t) ≡ false
    by_bare true e = refl
    by_bare false e = e

module _ (a : Answers) (sp : Spanless a) (h : Finished) where
  here_property : (o : Option Tree) → shielded a shield spot.Property o ≡ shielded a shield here o
  here_property None = refl
  here_property (Some t) = refl

  found_property : (f : Found) → put_found a shield h spot.Property f ≡ put_found a shield h here f
  found_property nothing = refl
  found_property (a_value i) = here_property (h i)
  found_property (a_plain t) = refl

  some_alone : (o : Option Tree) (v : Tree) → shielded a shield callee o ≡ Some v → is_bare_callee v ≡ false
  some_alone None v e = cc
  some_alone (Some t) v e = subst (λ w. is_bare_callee w ≡ false) (some_same e) (shield_callee t)
    where
      some_same : {v w : Tree} → Some v ≡ Some w → v ≡ w
      some_same e = cc

  found_alone : (f : Found) (v : Tree) → put_found a shield h callee f ≡ Some v → is_bare_callee v ≡ false
  found_alone nothing v e = cc
  found_alone (a_value i) v e = some_alone (h i) v e
  found_alone (a_plain t) v e = some_alone (Some t) v e

  text_alone : (f : Found) (t : Option Text) (ss : List Span) (v : Tree) → put_text a shield f t ss ≡ Some v → is_bare_callee v ≡ false
  text_alone nothing None ss v e = cc
  text_alone nothing (Some t) ss v e = subst (λ w. is_bare_callee w ≡ false) (text_same e) refl
    where
      text_same : {v w : Tree} → Some v ≡ Some w → v ≡ w
      text_same e = cc
  text_alone (a_value i) t ss v e = cc
  text_alone (a_plain u) t ss v e = cc

  -- what is put by the walk is what is put
  pub puts_told : Told (puts a shield h)
  puts_told = record { property = λ x ss. found_property (a.found (node (Read x) ss ε)) ∙ ap (put_found a shield h here) (sp.root (Read x) ss ε); others = others; alone = alone }
    where
      others : (p : Spot) (l : Label) (ss : List Span) (cs : Forest) → is_expression l ≡ false → put_expression a shield h p (node l ss cs) ≡ None
      others p (Read x) ss cs e = absurd (true≢false e)
      others p (Dot k) ss cs e = absurd (true≢false e)
      others p Index ss cs e = absurd (true≢false e)
      others p (TypeOfName x) ss cs e = absurd (true≢false e)
      others p l ss cs e = refl

      alone : (t v : Tree) → put_expression a shield h callee t ≡ Some v → is_bare_callee v ≡ false
      alone (node (Read x) ss cs) v e = found_alone (a.found (node (Read x) ss cs)) v e
      alone (node (Dot k) ss cs) v e = found_alone (a.found (node (Dot k) ss cs)) v e
      alone (node Index ss cs) v e = found_alone (a.found (node Index ss cs)) v e
      alone (node (TypeOfName x) ss cs) v e = text_alone (a.found (node (Read x) [] ε)) (a.text x) ss v e
      alone (node l ss cs) v e = cc

  pub put_by_walk : (t : Tree) (p : Spot) → formed t ≡ true → walk.put (still put_answer) t (a, h) p ≡ (put (puts a shield h) p t, (a, h))
  put_by_walk t p f = walked puts_told put_answer (a, h) (λ q u. refl) t p f

-- names and chains

module _ {given : Given} (x : AreExpressions given) (mark : ℕ) where
  abbrev A : Answers
  A = inlined given mark

  -- what the second walk puts
  pub same_by_walk : (run : ℕ) (fs : Finals) → Worked A shield fs → (t u : Tree) → IsWhole t → formed t ≡ true → covers (has_final fs) (met A t) ≡ true → walk.put (still put_answer) t (A, finished fs) here ≡ (u, (A, finished fs)) → SameGiven A run t u
  unfolding put
  same_by_walk run fs w t u i f c e = subst (SameGiven A run t) (sym (ap (λ r. r.0) (put_by_walk A (inlined_spanless given mark) (finished fs) t here f)) ∙ ap (λ r. r.0) e) (by i c)
    where
      by : {t : Tree} → IsWhole t → covers (has_final fs) (met A t) ≡ true → SameGiven A run t (put (puts A shield (finished fs)) here t)
      by (a_module {ss} {cs}) c = inline_same x mark run fs w Module ss cs c
      by (a_script {ss} {cs}) c = inline_same x mark run fs w Script ss cs c
