-- What flags give may be put wherever one is read.
use Rattle.std.proofs.Common.{◌≡◌, Bool, true, false, ◌&&◌, if◌then◌else◌, List, Option, Some, None, option_map, string_bytes, refl, sym, ap, subst, ◌∙◌, bytes_eq}
use Rattle.std.specs.BTreeMap.{get_by_text, is_at}
use Rattle.std.specs.Cmp.Lexicographic.{slice_cmp}
use Rattle.std.specs.Map.{lookup}
use Rattle.std.specs.Ordering.{nat_cmp}
use Rattle.std.specs.declared.alloc.Global.{Global}
use Rattle.std.specs.declared.string.String.{String}
use Rattle.swc_ast.specs.Resolved.{own_scopes}
use Rattle.swc_ast.specs.Tree.{Text, Tree}
use Rattle.swc_ast.specs.Views.{expr_tree}
use Rattle.swc_ast.specs.declared.names.Mark.{Mark}
use Rattle.swc_expr_map.specs.Entries.{found}
use Rattle.swc_expr_map.specs.Order.{same_key}
use Rattle.given_rules.specs.Givable.{IsGivable}
use Rattle.const_imports.specs.Views.{in_exports, value_of}
use Rattle.shake_options.specs.Flags.{FlagText, defined, an_env, a_type, a_const}
use Rattle.shake_given.specs.Reads.{env_of, export_of, literal, IsNothing, Takes, Reads, no_flags, one_more}
use Rattle.shake_given.specs.declared.given.Given.{Given}

-- all that is given may be put
pub record MayBePut (g : Given) : Type 0 where
  pub exprs : (t v : Tree) → found t g.names.exprs ≡ Some v → IsGivable v
  pub envs : (k : Text) (v : Tree) → env_of g k ≡ Some v → IsGivable v
  pub exports : (s x : Text) (v : Tree) → export_of g s x ≡ Some v → IsGivable v

same : {v w : Tree} → Some v ≡ Some w → v ≡ w
same e = cc

no_value : {v : Tree} → None ≡ Some v → IsGivable v
no_value e = cc

-- a text may be put
text_givable : (t : Text) → IsGivable (literal t)
unfolding own_scopes
text_givable t = record { expression = refl; binds_none = λ x. refl; is_valid = refl; in_core = refl; jumps = λ g. refl; stands_apart = refl }

-- what is new may be put, and what was there before
either : (b : Bool) {v w : Tree} {o : Option Tree} → IsGivable v → (o ≡ Some w → IsGivable w) → (if b then Some v else o) ≡ Some w → IsGivable w
either true g f e = subst IsGivable (same e) g
either false g f e = f e

-- what entries have at a text
abbrev at_text : {X : Type 0} → Text → List (String Global × X) → Option X
at_text x es = lookup (is_at (λ k. slice_cmp nat_cmp x (string_bytes k))) es

nothing_put : (g : Given) → IsNothing g → MayBePut g
nothing_put g n = record {
  exprs = λ t v e. no_value (sym (ap (found t) n.exprs) ∙ e);
  envs = λ k v e. no_value (sym (ap (λ es. option_map expr_tree (at_text k es)) n.envs) ∙ e);
  exports = λ s x v e. no_value (sym (ap (λ es. option_map expr_tree (in_exports (at_text s es) x)) n.modules) ∙ e);
}

module _ (g h : Given) (p : MayBePut g) where
  same_exprs : h.names.exprs ≡ g.names.exprs → (t v : Tree) → found t h.names.exprs ≡ Some v → IsGivable v
  same_exprs is t v e = p.exprs t v (sym (ap (found t) is) ∙ e)

  same_envs : h.names.envs ≡ g.names.envs → (k : Text) (v : Tree) → env_of h k ≡ Some v → IsGivable v
  same_envs is k v e = p.envs k v (sym (ap (λ m. option_map expr_tree (get_by_text m k)) is) ∙ e)

  same_exports : h.modules ≡ g.modules → (s x : Text) (v : Tree) → export_of h s x ≡ Some v → IsGivable v
  same_exports is s x v e = p.exports s x v (sym (ap (λ m. option_map expr_tree (value_of m s x)) is) ∙ e)

  taken_put : (f : FlagText) (mark : Mark) → Takes f mark g h → MayBePut h
  taken_put (defined k v) mark d = record { exprs = λ t w e. either (same_key t d.key.tree) d.value.holds (p.exprs t w) (sym (d.exprs t) ∙ e); envs = same_envs d.envs; exports = same_exports d.modules }
  taken_put (an_env k t) mark d = record { exprs = same_exprs d.exprs; envs = λ x w e. either (bytes_eq k x) (text_givable t) (p.envs x w) (sym (d.envs x) ∙ e); exports = same_exports d.modules }
  taken_put (a_type k t) mark d = record { exprs = same_exprs d.exprs; envs = same_envs d.envs; exports = same_exports d.modules }
  taken_put (a_const m k v) mark d = record {
    exprs = same_exprs (ap (λ n. n.exprs) d.sets.names);
    envs = same_envs (ap (λ n. n.envs) d.sets.names);
    exports = λ s x w e. either (bytes_eq m s && bytes_eq k x) d.value.holds (p.exports s x w) (sym (d.sets.exports s x) ∙ e);
  }

pub may_be_put : (mark : Mark) {fs : List FlagText} {g : Given} → Reads mark fs g → MayBePut g
may_be_put mark (no_flags n) = nothing_put _ n
may_be_put mark (one_more fs f g r t) = taken_put g _ (may_be_put mark r) f mark t
