-- A module that is taken apart.
use Rattle.std.specs.Prelude.{List}
use Rattle.swc_ast.specs.declared.Span.{Span}
use Rattle.swc_ast.specs.declared.modules.ModuleItem.{ModuleItem}

-- a module, as its items
pub record Held : Type 0 where
  pub span : Span
  pub items : List ModuleItem
