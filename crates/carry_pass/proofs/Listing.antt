-- The names that a module's own list declares, as a set has them.
use Rattle.std.proofs.Common.{◌≡◌, List, [], ◌++◌, sym, ap, ◌∙◌}
use Rattle.swc_ast.specs.Scope.{has_name, declared, list_binds}
use Rattle.swc_ast.specs.Tree.{Name, Forest}
use Rattle.static_proofs.proofs.Names.{found_first}
use Rattle.swc_resolved.specs.Names.{names}
use Rattle.swc_resolved.specs.Parts.{forest_names}
use Rattle.swc_resolved.specs.declared.declared.Part.TheVariants as part
use Rattle.swc_resolved.specs.declared.names.Name as key
use Rattle.swc_resolved.proofs.Binding.{gathered_one}

pub listed : (x : Name) (ms : List Name) (old new lent : List key.Name) (ts us : Forest) → has_name x ms ≡ has_name x (names lent) → lent ≡ new → old ≡ [] → names new ≡ names old ++ forest_names part.Declarations us → us ≡ ts → has_name x ms ≡ list_binds ts x
listed x ms old new lent ts us put same none gathered is = put ∙ ap (λ ks. has_name x (names ks)) same ∙ ap (λ ns. has_name x ns) (gathered_one old (names new) (forest_names part.Declarations us) none gathered) ∙ ap (λ vs. has_name x (forest_names part.Declarations vs)) is ∙ sym (found_first x (declared ts))
