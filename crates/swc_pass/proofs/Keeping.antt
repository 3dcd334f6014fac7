-- What the laws of a pass say of one answer.
use Rattle.std.proofs.Common.{◌≡◌, Bool, subst, IfOk, Result, Ok, Err}
use Rattle.std.proofs.lemmas.Result.{IfOk-weaker}
use Rattle.swc_ast.specs.Tree.{Tree}
use Rattle.swc_pass.specs.Pass.{PassSpec, IsLawful, Keeps, TellsChange, Folds}

keeps : {p : PassSpec} {t u : Tree} → IsLawful p → p.answers t u → Keeps p t u
keeps {t = t} {u = u} h a = record {
  same = λ n f r c. h.same n t u f a r c;
  resolved = λ n f r. h.resolved n t u f a r;
  valid = λ n f r v. h.valid n t u f a r v;
  core = λ n f r c. h.core n t u f a r c;
  lighter = λ l. h.lighter t u l a;
}

-- an answer of which it is known whether it is a change, of what the input equals
pub folded : {A E : Type 0} {p : PassSpec} (b : Bool) (t : Tree) (f : A → Tree) (r : Result A E) → IsLawful p → IfOk r (λ x. p.answers t (f x)) → IfOk r (λ x. TellsChange b t (f x)) → IfOk r (λ x. Folds p b t (f x))
folded b t f (Ok x) h a c = record { answer = a; kept = keeps h a; told = c }
folded b t f (Err e) h a c = tt

-- the same of what is made of a clone
pub clone_folded : {A E : Type 0} {p : PassSpec} (b : Bool) {s t : Tree} (f : A → Tree) (r : Result A E) → IsLawful p → s ≡ t → IfOk r (λ x. p.answers s (f x)) → IfOk r (λ x. TellsChange b s (f x)) → IfOk r (λ x. Folds p b t (f x))
clone_folded {p = p} b {s = s} f r h e a c = subst (λ t. IfOk r (λ x. Folds p b t (f x))) e (folded b s f r h a c)

-- what a run gives is an answer
pub folded_answers : {A E : Type 0} (p : PassSpec) (b : Bool) (t : Tree) (f : A → Tree) (r : Result A E) → IfOk r (λ x. Folds p b t (f x)) → IfOk r (λ x. p.answers t (f x))
folded_answers p b t f r a = IfOk-weaker r _ _ (λ x k. k.answer) a

-- and keeps what the laws say
pub folded_keeps : {A E : Type 0} (p : PassSpec) (b : Bool) (t : Tree) (f : A → Tree) (r : Result A E) → IfOk r (λ x. Folds p b t (f x)) → IfOk r (λ x. Keeps p t (f x))
folded_keeps p b t f r a = IfOk-weaker r _ _ (λ x k. k.kept) a
