-- A parameter without its default keeps what is static, and is lighter.
use Rattle.std.proofs.Common.{true, ◌&&◌, List, [], refl, arith}
use Rattle.std.proofs.lemmas.Bool.{false≢true, and_parts, and_from}
use Rattle.swc_ast.specs.declared.Span.{Span}
use Rattle.swc_ast.specs.Tree.{Name, Param, Tree, node, ε, ◌⊳◌}
use Rattle.swc_ast.specs.Resolved.{own_scopes}
use Rattle.swc_ast.specs.Valid.{valid, is_identifier}
use Rattle.swc_ast.specs.Weight.{own_weight}
use Rattle.static_proofs.specs.Keeps.{Keeps}
use Rattle.static_proofs.specs.Spares.{Spares}
use Rattle.static_proofs.specs.Step.{Step}
use Rattle.static_proofs.proofs.Names.{within_same, fewer_same}
use Rattle.static_proofs.proofs.Spared.{spared_same}

default_keeps : (x : Name) (ss rs : List Span) (t : Tree) → Keeps (node (Param x) ss (t ⊳ ε)) (node (Param x) rs ε)
unfolding own_scopes
default_keeps x ss rs t = record {
  scopes_kept = λ y. omega arith;
  vars_kept = within_same [];
  names_kept = fewer_same [];
  own_kept = fewer_same [];
  frame_kept = refl;
  part_kept = λ e. absurd (false≢true e);
  listed_kept = λ e. e;
  valid_kept = λ v. and_from (is_identifier x.text && true) true (and_parts (is_identifier x.text && true) (valid t && true) v).0 refl;
  aimed_kept = λ g v. refl;
  apart_kept = λ v. refl;
  fits_kept = λ v. refl;
}

default_spares : {P : Name → Type 0} (x : Name) (ss rs : List Span) (t : Tree) → Spares P (node (Param x) ss (t ⊳ ε)) (node (Param x) rs ε)
default_spares x ss rs t = record { vars_spared = spared_same []; names_spared = spared_same []; own_spared = spared_same []; frame_spared = refl; part_spared = tt; exports_kept = within_same []; exports_bound_kept = λ p i. refl }

pub default_owes : {N : Type 0} {P : Name → Type 0} (x : Name) (ss rs : List Span) (t : Tree) → Step N P (node (Param x) ss (t ⊳ ε)) (node (Param x) rs ε)
unfolding own_weight
default_owes x ss rs t = record {
  keeps = default_keeps x ss rs t;
  spares = default_spares x ss rs t;
  lowers = record { lower = omega arith; lower_list = λ n. omega arith; truth_kept = λ i. absurd (false≢true i); stopper_paid = λ i. absurd (false≢true i); stay_paid = λ i. absurd (false≢true i) };
}
