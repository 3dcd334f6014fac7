-- What nodes export, by what they are and what they are not.
use Rattle.std.proofs.Common.{◌≡◌, [], refl, sym, ap, ◌∙◌}
use Rattle.swc_ast.specs.Tree.{Forest}
use Rattle.tree_visit.specs.Kinds.{kind_label}
use Rattle.tree_visit.specs.declared.kind.Kind.{Kind}
use Rattle.tree_visit.specs.declared.kind.Kind.TheVariants as kind
use Rattle.dce_uses.specs.Noted.{function_name}
use Rattle.dce_uses.specs.Exports.{declaration_names, item_names}

pub no_item : (k : Kind) (cs : Forest) → (k ≡ kind.ExportDecl → ⊥) → (k ≡ kind.ExportNamed → ⊥) → ((n : _) → k ≡ kind.ExportDefaultFn n → ⊥) → item_names (kind_label k) cs ≡ []
no_item kind.ExportDecl cs a b c = absurd (a refl)
no_item kind.ExportNamed cs a b c = absurd (b refl)
no_item (kind.ExportDefaultFn n) cs a b c = absurd (c n refl)
no_item k cs a b c = refl

pub no_declaration : (k : Kind) (cs : Forest) → ((n : _) → k ≡ kind.VarDecl n → ⊥) → ((n : _) → k ≡ kind.FnDecl n → ⊥) → declaration_names (kind_label k) cs ≡ []
no_declaration (kind.VarDecl n) cs a b = absurd (a n refl)
no_declaration (kind.FnDecl n) cs a b = absurd (b n refl)
no_declaration k cs a b = refl

-- a function that is exported as default exports its own name
pub default_named : (k : Kind) (cs : Forest) {n : _} → k ≡ kind.ExportDefaultFn n → function_name (kind_label k) ≡ item_names (kind_label k) cs
default_named k cs is = ap (λ j. function_name (kind_label j)) is ∙ sym (ap (λ j. item_names (kind_label j) cs) is)
