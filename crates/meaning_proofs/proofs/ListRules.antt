-- Rewrites of lists of statements.
use Rattle.std.proofs.Common.{◌≡◌, Bool, true, false, ◌||◌, List, [], Option, Some, None, refl, sym, ap, ◌∙◌}
use mathlib.Core.Path.{fun_ext}
use Rattle.swc_ast.specs.declared.Span.{Span}
use Rattle.swc_ast.specs.Tree.{Name, Block, Tree, node, Forest, ◌⊳◌, label_of}
use Rattle.swc_ast.specs.Value.{Env, State, Run, Context}
use Rattle.swc_ast.specs.Scope.{Declaration, has_name, found, vars, vars_all, declared_by, declared, joined}
use Rattle.swc_ast.specs.Meaning.{Scope, in_scope}
use Rattle.meaning_proofs.specs.Names.{Names}
use Rattle.meaning_proofs.specs.Roles.{holds_function, SameLists}
use Rattle.meaning_proofs.proofs.Finds.{or_else, found_cons, has_cons, found_joined, has_joined}
use Rattle.meaning_proofs.proofs.Quiet.{declares_nothing, nothing_of}

-- names

pub holds_else : (o p q : Option Declaration) → (holds_function q ≡ false → holds_function p ≡ false) → holds_function (or_else o q) ≡ false → holds_function (or_else o p) ≡ false
holds_else None p q h e = h e
holds_else (Some d) p q h e = e

or_later : (a b c : Bool) → (b ≡ true → c ≡ true) → (a || b) ≡ true → (a || c) ≡ true
or_later true b c h e = refl
or_later false b c h e = h e

-- two lists of which the same is told
pub told_alike : {N : Names} (ts us : Forest) → ((x : Name) → has_name x (vars_all ts) ≡ has_name x (vars_all us)) → ((x : Name) → found x (declared ts) ≡ found x (declared us)) → SameLists N ts us
told_alike ts us h g = record {
  vars = λ x keeps z. h x;
  guarded_vars = λ x q e. sym (h x) ∙ e;
  declares = λ x keeps. g x;
  functions = λ x q e. ap holds_function (g x) ∙ e;
}

module _ {N : Names} where
  -- a rule for the rest of a list is a rule for the list
  pub same_lists_cons : (t : Tree) (ts us : Forest) → SameLists N ts us → SameLists N (t ⊳ ts) (t ⊳ us)
  same_lists_cons t ts us h = record {
    vars = λ x keeps z. has_cons x t ts ∙ ap (λ b. has_name x (vars t) || b) (h.vars x keeps z) ∙ sym (has_cons x t us);
    guarded_vars = λ x g e. has_cons x t us ∙ or_later (has_name x (vars t)) _ _ (h.guarded_vars x g) (sym (has_cons x t ts) ∙ e);
    declares = λ x keeps. found_cons x t ts ∙ ap (or_else (found x (declared_by t))) (h.declares x keeps) ∙ sym (found_cons x t us);
    functions = λ x g e. ap holds_function (found_cons x t ts) ∙ holds_else (found x (declared_by t)) _ _ (h.functions x g) (sym (ap holds_function (found_cons x t us)) ∙ e);
  }

  -- a statement that declares nothing
  pub same_lists_without : (t : Tree) (ts : Forest) → declares_nothing (label_of t) ≡ true → SameLists N (t ⊳ ts) ts
  same_lists_without t ts e =
      let n = nothing_of t e in
      told_alike (t ⊳ ts) ts (λ x. has_cons x t ts ∙ ap (λ xs. has_name x xs || has_name x (vars_all ts)) n.vars) (λ x. found_cons x t ts ∙ ap (λ ps. or_else (found x ps) (found x (declared ts))) n.declares)

  -- `{ ts }` where `ts` declares nothing in its own scope
  pub same_lists_flat : (ss : List Span) (ts us : Forest) → declared ts ≡ [] → SameLists N (node Block ss ts ⊳ us) (joined ts us)
  same_lists_flat ss ts us e =
      told_alike (node Block ss ts ⊳ us) (joined ts us) (λ x. has_cons x (node Block ss ts) us ∙ sym (has_joined x ts us)) (λ x. sym (found_joined x ts us ∙ ap (λ ps. or_else (found x ps) (found x (declared us))) e))

-- runs

-- a scope that binds nothing
pub in_nothing : {A : Type 0} (binds : Name → Bool) (cells : Env → Scope) (body : Context → Run A) (c : Context) (s : State) → ((x : Name) → binds x ≡ false) → in_scope binds cells body c s ≡ body c s
unfolding in_scope
in_nothing binds cells body c s h = ap (λ (b : Name → Bool). in_scope b cells body c s) (fun_ext {f = binds} {g = λ x. false} h)
