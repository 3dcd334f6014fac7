-- What is valid, resolved or core stays so, by what flags put.
use Rattle.std.proofs.Common.{◌≡◌, List, Result, IfOk, sym, subst}
use Rattle.std.proofs.lemmas.Result.{IfOk-weaker}
use Rattle.swc_ast.specs.Modules.{module_tree}
use Rattle.swc_ast.specs.Tree.{Tree}
use Rattle.swc_ast.specs.declared.modules.Module.{Module}
use Rattle.swc_ast.specs.declared.names.Mark.{Mark}
use Rattle.swc_expr_map.specs.Entries.{IsSorted}
use Rattle.swc_pass.specs.Constants.{items_of}
use Rattle.const_pass.specs.Replaced.{constants_in}
use Rattle.shake_options.specs.Flags.{FlagText}
use Rattle.shake_given.specs.declared.error.GivenError.{GivenError}
use Rattle.shake_given.specs.declared.given.Given.{Given}
use Rattle.shake_given.specs.Prepared.{Replaces, no_modules, replaced, Puts, no_names, put, Flagged, Prepared, flagged, Stays}
use Rattle.shake_given.specs.Reads.{Reads}
use Rattle.shake_given.proofs.Constants.{constants_givable}
use Rattle.shake_given.proofs.Kept.{MayBePut, may_be_put}
use Rattle.shake_given.proofs.Names.{settings_givable}

pub stays_itself : {t u : Tree} → u ≡ t → Stays t u
stays_itself is = subst (Stays _) (sym is) (record { valid = λ e. e; resolved = λ n r. r; core = λ c. c })

stays_on : {t u v : Tree} → Stays t u → Stays u v → Stays t v
stays_on a b = record { valid = λ e. b.valid (a.valid e); resolved = λ n r. b.resolved n (a.resolved n r); core = λ c. b.core (a.core c) }

module _ (g : Given) (p : MayBePut g) where
  -- the module with the values of imports
  constant_stays : {t u : Tree} → Replaces g.modules t u → Stays t u
  constant_stays (no_modules e is) = stays_itself is
  constant_stays {t} (replaced r) =
      let a = constants_givable (constants_in g.modules) p.exports (items_of t) in
      record { valid = r.valid a; resolved = r.resolved a; core = r.core a }

  -- the module with what is given for names
  named_stays : IsSorted g.names.exprs → (mark : Mark) {t u : Tree} → Puts g.names mark t u → Stays t u
  named_stays sorted mark (no_names e is) = stays_itself is
  named_stays sorted mark (put s are i) =
      let a = settings_givable g.names mark s are sorted p.exprs p.envs in
      record { valid = i.valid a; resolved = i.resolved a; core = i.core a }

pub flagged_stays : (fs : List FlagText) (mark : Mark) {t u : Tree} (f : Flagged fs mark t u) → IsSorted f.given.names.exprs → Stays t u
flagged_stays fs mark f sorted =
    let p = may_be_put mark f.read in
    stays_on (constant_stays f.given p f.replaces) (named_stays f.given p sorted mark f.holds)

-- what the last step puts is what flags make of the module
module _ (fs : List FlagText) (mark : Mark) (t constant : Tree) (g : Given) (read : Reads mark fs g) (replaces : Replaces g.modules t constant) (r : Result Module GivenError) (puts : IfOk r (λ m. Puts g.names mark constant (module_tree m))) where
  abbrev flags_put : (u : Tree) → Puts g.names mark constant u → Flagged fs mark t u
  flags_put u p = record { given = g; read = read; constant = constant; replaces = replaces; holds = p }

  pub put_prepared : IfOk r (λ m. Prepared fs mark t (module_tree m))
  put_prepared = IfOk-weaker r (λ m. Puts g.names mark constant (module_tree m)) (λ m. Prepared fs mark t (module_tree m)) (λ m p. flagged (flags_put (module_tree m) p)) puts

  pub put_stays : IsSorted g.names.exprs → IfOk r (λ m. Stays t (module_tree m))
  put_stays sorted = IfOk-weaker r (λ m. Puts g.names mark constant (module_tree m)) (λ m. Stays t (module_tree m)) (λ m p. flagged_stays fs mark (flags_put (module_tree m) p) sorted) puts
