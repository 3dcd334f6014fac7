-- What the codes and texts of the program stand for.
use Rattle.std.specs.Prelude.{ℕ, [], ◌∷◌, map, Option, Some, None}
use Rattle.std.specs.Borrow.{Bor}
use Rattle.swc_ast.specs.Tree.{Text}
use Rattle.swc_ast.specs.Expressions.{item_kind, quasi_text}
use Rattle.swc_ast.specs.Statements.{is_default_case}
use Rattle.swc_ast.specs.Views.{case_trees}
use Rattle.swc_expr_map.specs.Codes.{Row, only_number, truth_number, item_number, quasi_entry, one_text}
use Rattle.swc_expr_map.specs.Codes as of
use Rattle.swc_expr_map.specs.declared.code.Code.{Code}
use Rattle.swc_expr_map.specs.declared.texts.Texts.{Texts}
use Rattle.swc_expr_map.specs.declared.texts.Texts.TheVariants as some

abbrev pub row_of : Texts → Row
row_of some.None = []
row_of (some.One s) = one_text s.now
row_of (some.Two s t) = (0, s.now) ∷ one_text t.now
row_of (some.Quasis qs) = map quasi_entry (map quasi_text qs.now)
row_of (some.Items xs) = map (λ k. only_number (item_number k)) (map item_kind xs.now)
row_of (some.Cases cs) = map (λ b. only_number (truth_number b)) (map is_default_case (map case_trees cs.now))

-- the first text and those behind it
abbrev pub next_row : Option (ℕ × Bor Text × Texts) → Row
next_row None = []
next_row (Some p) = (p.0, p.1.now) ∷ row_of p.2

abbrev pub code_of : Code → of.Code
code_of c = record { rank = c.rank; number = c.number; context = c.context.0; row = row_of c.texts }
