-- Why flags aren't read, and why what they give isn't put.
use Rattle.std.proofs.Common.{◌≡◌, ◌≢◌, ◌↔◌, ◌≤◌, ◌^◌, ◌⊎◌, inl, inr, ℕ, Bool, false, List, [], ◌∷◌, length, Result, Ok, Err, IfErr, IsErrAnd, IsErrOf, IsTrue, refl, sym, ap, subst, ◌∙◌}
use Rattle.std.proofs.lemmas.Bool.{false≢true}
use Rattle.std.proofs.lemmas.Result.{IfErr-weaker}
use Rattle.swc_ast.specs.Tree.{Text, Tree}
use Rattle.swc_ast.specs.declared.errors.PassError.{PassError}
use Rattle.swc_ast.specs.declared.errors.PassError.TheVariants as pass
use Rattle.swc_ast.specs.declared.expressions.Expr.{Expr}
use Rattle.swc_ast.specs.declared.modules.Module.{Module}
use Rattle.swc_ast.specs.declared.names.Mark.{Mark}
use Rattle.swc_text.specs.declared.error.ReadError.{ReadError}
use Rattle.swc_text.specs.declared.error.ReadError.TheVariants as read
use Rattle.const_imports.specs.Faults.{Fault}
use Rattle.const_imports.specs.Views.{error_fault}
use Rattle.const_imports.specs.Views as views
use Rattle.const_imports.specs.declared.given.GivenModules.{GivenModules}
use Rattle.const_pass.specs.Replaced.{faults_in}
use Rattle.given_globals.specs.declared.settings.Settings.{Settings}
use Rattle.swc_inline_globals.specs.Answers as inline
use Rattle.shake_options.specs.Flags.{FlagText}
use Rattle.shake_given.specs.declared.error.GivenError.{GivenError}
use Rattle.shake_given.specs.declared.error.GivenError.TheVariants.{OutOfMemory}
use Rattle.shake_given.specs.declared.given.Given.{Given}
use Rattle.shake_given.specs.declared.given.GivenNames.{GivenNames}
use Rattle.shake_given.specs.Prepared.{AreSettings, Replaces, most_levels}
use Rattle.shake_given.specs.Reads.{Reads}
use Rattle.shake_given.specs.Refusals.{IsUnread}
use Rattle.shake_given.specs.Refused.{of_pass, fault_of, IsFirst, ImportRefused, NamesRefused, no_memory_for_names, nested, cyclic, Refused, no_memory, by_import, by_cycle, too_deep}
use Rattle.shake_given.proofs.Deep.{is_counted_deep}

-- the error that a `?` returns
pub returned : {T E : Type 0} (r : Result T E) (P : E → Type 0) (x : E) → IsErrAnd r (λ e. e ≡ x) → P x → IfErr r P
returned (Ok y) P x is p = tt
returned (Err y) P x is p = subst P (sym is) p

-- what the reader tells of a text that it refuses
pub is_unread : {T : Type 0} (r : Result T ReadError) (text : Text) (fault : ReadError) → r ≡ Err fault → (IsErrOf r read.TooLong ↔ 2 ^ 31 ≤ length text) → fault ≢ read.OutOfMemory → IsUnread text fault
is_unread {T} r text fault is long other = record { too_long = ((λ e. long.0 (is ∙ ap (λ f. Err f) e)), λ l. same (Err fault) (sym is ∙ long.1 l) refl); other = other }
  where
    same : (q : Result T ReadError) → q ≡ Err read.TooLong → q ≡ Err fault → fault ≡ read.TooLong
    same q e f = cc

-- what a test that fails tells
pub untrue : (b : Bool) {P : Type 0} → (IsTrue b ↔ P) → b ≡ false → P → ⊥
untrue b decides is p = false≢true (sym is ∙ decides.1 p)

-- imports

same_fault : (p : PassError) → fault_of (of_pass p) ≡ error_fault p
same_fault (pass.CyclicGlobals name) = refl
same_fault (pass.MissingExport m export) = refl
same_fault (pass.MissingDefault m) = refl
same_fault (pass.BareNamespace name) = refl
same_fault (pass.ReExported name) = refl
same_fault (pass.UnreadableValue m export at) = refl
same_fault pass.OutOfMemory = refl

first_told : (fs : List Fault) (p : PassError) → views.IsFirst fs p → IsFirst fs (of_pass p)
first_told [] p f = f
first_told (f ∷ fs) p is = same_fault p ∙ is

-- the first fault that a pass tells
pub import_told : (g h : GivenModules Expr) → h ≡ g → (t : Tree) (p : PassError) → (p ≡ pass.OutOfMemory) ⊎ views.IsFirst (faults_in h t) p → (of_pass p ≡ OutOfMemory) ⊎ ImportRefused g t (of_pass p)
import_told g h is t p (inl e) = inl (ap of_pass e)
import_told g h is t p (inr f) = inr (subst (λ m. ImportRefused m t (of_pass p)) is (first_told (faults_in h t) p f))

-- the value that leads back to itself
pub cycle_told : (g : GivenNames) (mark : Mark) (most : ℕ) (s : Settings) → AreSettings g mark s → (t : Tree) (p : PassError) → inline.Refused s t p → NamesRefused g mark most t (of_pass p)
cycle_told g mark most s are t p inline.no_memory = no_memory_for_names
cycle_told g mark most s are t p (inline.cyclic i c told) = cyclic (record { settings = s; are = are; number = i; cycle = c; told = told })

-- what is refused once flags are read
module _ (fs : List FlagText) (mark : Mark) (t : Tree) (g : Given) (reads : Reads mark fs g) where
  pub import_refused : (e : GivenError) → (e ≡ OutOfMemory) ⊎ ImportRefused g.modules t e → Refused fs mark t e
  import_refused e (inl m) = subst (Refused fs mark t) (sym m) no_memory
  import_refused e (inr i) = by_import g reads i

  module _ (constant : Tree) (replaces : Replaces g.modules t constant) (most : ℕ) (is : most ≡ most_levels t) where
    names_refused : (e : GivenError) → NamesRefused g.names mark most constant e → Refused fs mark t e
    names_refused e no_memory_for_names = no_memory
    names_refused e (nested n) = too_deep (is_counted_deep fs mark most t is (record { given = g; read = reads; constant = constant; replaces = replaces; holds = n }))
    names_refused e (cyclic c) = by_cycle (record { given = g; read = reads; constant = constant; replaces = replaces; holds = c })

    pub put_refused : (r : Result Module GivenError) → IfErr r (NamesRefused g.names mark most constant) → IfErr r (Refused fs mark t)
    put_refused r = IfErr-weaker r (NamesRefused g.names mark most constant) (Refused fs mark t) names_refused
