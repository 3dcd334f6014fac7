-- The nodes of views have the parts of their signatures.
use Rattle.std.proofs.Common.{◌≡◌, true, refl}
use Rattle.std.proofs.lemmas.Bool.{and_parts, and_from}
use Rattle.swc_ast.specs.Tree.{Tree, node, Forest, ε, ◌⊳◌}
use Rattle.swc_ast.specs.Modules.{module_tree, script_tree}
use Rattle.swc_ast.specs.declared.modules.Module.{Module}
use Rattle.swc_ast.specs.declared.modules.Script.{Script}
use Rattle.static_proofs.specs.Shaped.{labels_of, holds}
use Rattle.static_proofs.specs.Signature.{fine, signed, is_signed, are_signed}
use Rattle.static_proofs.proofs.SignedViews.{module_signed, script_signed}
use Rattle.carry_rules.specs.Parted.{has_parts, is_parted, are_parted, IsParted}

mutual
  parted_of : (t : Tree) → is_signed t ≡ true → is_parted t ≡ true
  parted_of (node l ss cs) e =
      let p = and_parts (signed l ss cs) (are_signed cs) e in
      let q = and_parts (holds l (labels_of cs)) _ p.0 in
      and_from (has_parts l cs) (are_parted cs) (and_parts (fine l ss cs) (has_parts l cs) q.1).1 (all_parted_of cs p.1)

  all_parted_of : (ts : Forest) → are_signed ts ≡ true → are_parted ts ≡ true
  all_parted_of ε e = refl
  all_parted_of (t ⊳ ts) e = let p = and_parts (is_signed t) (are_signed ts) e in and_from (is_parted t) (are_parted ts) (parted_of t p.0) (all_parted_of ts p.1)

pub module_parted : (m : Module) → IsParted (module_tree m)
module_parted m = record { parted = parted_of (module_tree m) (module_signed m) }

pub script_parted : (s : Script) → IsParted (script_tree s)
script_parted s = record { parted = parted_of (script_tree s) (script_signed s) }
