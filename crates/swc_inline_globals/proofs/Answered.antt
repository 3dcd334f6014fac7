-- What the pass answers, by what the walks made.
use Rattle.std.proofs.Common.{◌≡◌, ℕ, Bool, true, Option, Some, None, sym, ap, subst, ◌∙◌}
use Rattle.swc_ast.specs.Core.{IsCore}
use Rattle.swc_ast.specs.Resolved.{IsResolved}
use Rattle.swc_ast.specs.Run.{Sees, Same}
use Rattle.swc_ast.specs.Tree.{Module, Script, Tree, bare}
use Rattle.swc_ast.specs.Valid.{valid}
use Rattle.meaning_proofs.proofs.Spans.{same_bare}
use Rattle.swc_pass.specs.Chain.{GivesBack, input, other}
use Rattle.swc_pass.specs.Given.{Answers, SameGiven}
use Rattle.swc_pass.specs.Pass.{TellsChange}
use Rattle.given_shield.specs.Shield.{shield}
use Rattle.given_rules.specs.Givable.{AllGivable}
use Rattle.given_rules.specs.Met.{met, covers}
use Rattle.given_rules.specs.Put.{here, put}
use Rattle.given_rules.specs.Worked.{Finals, finished, has_final, puts, Worked}
use Rattle.given_rules.proofs.ByWalk.{IsWhole, a_module, a_script}
use Rattle.given_rules.proofs.Cycles.{no_cycle}
use Rattle.given_rules.proofs.Givable.{puts_givable, walked_givable}
use Rattle.given_rules.proofs.Instances.{inline_same}
use Rattle.given_rules.proofs.Kept.{PutsGivable, put_resolved, put_valid, put_core}
use Rattle.given_shield.specs.Names.{mark_of}
use Rattle.given_globals.specs.Globals.{answers_of}
use Rattle.given_globals.specs.declared.settings.Settings.{Settings}
use Rattle.swc_inline_globals.specs.Answers.{Inlined}
use Rattle.swc_inline_globals.specs.Made.{IsMade, WalkGives}
use Rattle.swc_inline_globals.proofs.Expressions.{given_are_expressions}

-- the law of what is put, of a module or a script
put_keeps_meaning : (s : Settings) (mark : ℕ) (fs : Finals) → Worked (answers_of s) shield fs → {t : Tree} → IsWhole t → covers (has_final fs) (met (answers_of s) t) ≡ true → SameGiven (answers_of s) mark t (put (puts (answers_of s) shield (finished fs)) here t)
unfolding put answers_of
put_keeps_meaning s mark fs w (a_module {ss} {cs}) c = inline_same (given_are_expressions s) (mark_of s.mark) mark fs w Module ss cs c
put_keeps_meaning s mark fs w (a_script {ss} {cs}) c = inline_same (given_are_expressions s) (mark_of s.mark) mark fs w Script ss cs c

module _ (a : Answers) (fs : Finals) (g : PutsGivable (puts a shield (finished fs))) where
  whole_valid : {t : Tree} → IsWhole t → valid t ≡ true → valid (put (puts a shield (finished fs)) here t) ≡ true
  unfolding put
  whole_valid (a_module {ss} {cs}) h = put_valid g Module ss cs h
  whole_valid (a_script {ss} {cs}) h = put_valid g Script ss cs h

  whole_resolved : {t : Tree} → IsWhole t → (mark : ℕ) → IsResolved mark t → IsResolved mark (put (puts a shield (finished fs)) here t)
  unfolding put
  whole_resolved (a_module {ss} {cs}) mark h = put_resolved g mark Module ss cs h
  whole_resolved (a_script {ss} {cs}) mark h = put_resolved g mark Script ss cs h

  whole_core : {t : Tree} → IsWhole t → IsCore t → IsCore (put (puts a shield (finished fs)) here t)
  unfolding put
  whole_core (a_module {ss} {cs}) h = put_core g Module ss cs h
  whole_core (a_script {ss} {cs}) h = put_core g Script ss cs h

-- an input that is equal up to spans to what does the same does it itself
bare_same_given : (a : Answers) (mark : ℕ) (t v : Tree) → bare v ≡ bare t → SameGiven a mark t v → SameGiven a mark t t
unfolding SameGiven Same
bare_same_given a mark t v e h n d w calls o q = let r = same_bare mark true v t e n d w calls o (h n d w calls o q) in r.1 ∙ ap Sees r.2

module _ (s : Settings) {t v : Tree} (whole : IsWhole t) (m : IsMade s t v) where
  made_givable : AllGivable (answers_of s) → PutsGivable (puts (answers_of s) shield (finished m.finals))
  made_givable g = puts_givable g (finished m.finals) (walked_givable g m.finals m.worked m.known)

  made_same : (mark : ℕ) → SameGiven (answers_of s) mark t v
  made_same mark = subst (SameGiven (answers_of s) mark t) (sym m.is) (put_keeps_meaning s mark m.finals m.worked whole m.covered)

  -- what the walks made is answered, or the input where the two are equal up to spans
  pub made_inlined : (u : Tree) → GivesBack t v u → Inlined s t u
  made_inlined u (input e) = record {
    same = λ mark. bare_same_given (answers_of s) mark t v e (made_same mark);
    put = record { finals = m.finals; worked = m.worked; covered = m.covered; gives = subst (λ w. GivesBack t w t) m.is (input e) };
    valid = λ g h. h;
    resolved = λ g mark h. h;
    core = λ g h. h;
    acyclic = no_cycle m.finals m.worked t m.covered;
  }
  made_inlined u (other n) = record {
    same = made_same;
    put = record { finals = m.finals; worked = m.worked; covered = m.covered; gives = subst (λ w. GivesBack t w v) m.is (other n) };
    valid = λ g h. subst (λ w. valid w ≡ true) (sym m.is) (whole_valid (answers_of s) m.finals (made_givable g) whole h);
    resolved = λ g mark h. subst (IsResolved mark) (sym m.is) (whole_resolved (answers_of s) m.finals (made_givable g) whole mark h);
    core = λ g h. subst IsCore (sym m.is) (whole_core (answers_of s) m.finals (made_givable g) whole h);
    acyclic = no_cycle m.finals m.worked t m.covered;
  }

-- the same by what a walk gives

pub some_inlined : {W : Type 0} (f : W → Tree) (s : Settings) (t : Tree) → IsWhole t → (o : Option W) (w : W) (b : Bool) → WalkGives s f t o b → o ≡ Some w → Inlined s t (f w)
some_inlined f s t whole o w b h is = let g : WalkGives s f t (Some w) b = subst (λ q. WalkGives s f t q b) is h in made_inlined s whole g.0 (f w) (other g.1)

pub none_inlined : {W : Type 0} (f : W → Tree) (s : Settings) (t u : Tree) → IsWhole t → (o : Option W) (b : Bool) → WalkGives s f t o b → o ≡ None → u ≡ t → Inlined s t u
none_inlined f s t u whole o b h none is = let g : WalkGives s f t None b = subst (λ q. WalkGives s f t q b) none h in subst (Inlined s t) (sym is) (made_inlined s whole g.1 t (input g.2))

pub some_tells : {W : Type 0} (f : W → Tree) (s : Settings) (t : Tree) (o : Option W) (w : W) (b : Bool) → WalkGives s f t o b → o ≡ Some w → TellsChange b t (f w)
some_tells f s t o w b h is = let g : WalkGives s f t (Some w) b = subst (λ q. WalkGives s f t q b) is h in subst (λ c. TellsChange c t (f w)) (sym g.2) g.1

pub none_tells : {W : Type 0} (f : W → Tree) (s : Settings) (t u : Tree) (o : Option W) (b : Bool) → WalkGives s f t o b → o ≡ None → u ≡ t → TellsChange b t u
none_tells f s t u o b h none is = let g : WalkGives s f t None b = subst (λ q. WalkGives s f t q b) none h in subst (λ c. TellsChange c t u) (sym g.3) is
