-- What a configuration tells the tree shaker.
use Rattle.std.specs.Prelude.{◌≡◌, map, string_bytes}
use Rattle.swc_ast.specs.declared.names.Mark.{Mark}
use Rattle.swc_dce.specs.declared.config.Config.{Config}
use Rattle.swc_dce.specs.Shaken.{Told}

-- what the shaker is told; the mark of modules is read by nothing
abbrev pub told : Mark → Config → Told
told mark c = record { mark = mark; top_level = c.top_level; retained = map string_bytes c.top_retain.items; keeps_imports = c.preserve_imports_with_side_effects }

-- a copy: the fields are equal, texts by their bytes
pub record IsCopy (c d : Config) : Type 0 where
  pub module_mark : d.module_mark ≡ c.module_mark
  pub top_level : d.top_level ≡ c.top_level
  pub top_retain : map string_bytes d.top_retain.items ≡ map string_bytes c.top_retain.items
  pub imports : d.preserve_imports_with_side_effects ≡ c.preserve_imports_with_side_effects
