-- What a tree tells of a name, and how often.
use Rattle.std.specs.Prelude.{◌≡◌, Bool, true, false, not, ◌&&◌, List, [], ◌∷◌, Option, option_map}
use Rattle.swc_ast.specs.declared.VarDeclKind.{VarDeclKind}
use Rattle.swc_ast.specs.declared.VarDeclKind.TheVariants.{Var, Const}
use Rattle.swc_ast.specs.Tree.{Name, Label, Fn, Param, Assign, Update, Try, Declarator, FnDecl, ImportNamed, ImportDefault, ImportStar, ExportDefaultFn, Forest, ε, ◌⊳◌}
use Rattle.swc_ast.specs.Scope.{has_name, option_name}
use Rattle.swc_ast.specs.Resolved.{catch_name}
use Rattle.carry_tables.specs.Tables.{at}
use Rattle.carry_tables.specs.declared.table.NameTable.{NameTable}
use Rattle.carry_vars.specs.declared.count.Count.{Count}
use Rattle.carry_vars.specs.declared.count.Count.TheVariants as of
use Rattle.carry_vars.specs.declared.tally.Fact.{Fact}
use Rattle.carry_vars.specs.declared.tally.Fact.TheVariants as fact
use Rattle.carry_vars.specs.declared.tally.Tally.{Tally}
use Rattle.carry_vars.specs.Counts.{plus}

-- how often it was told
abbrev pub holds : Tally → Fact → Count
holds t fact.Written = t.written
holds t fact.Declared = t.declared
holds t fact.Constant = t.constant
holds t fact.Lexical = t.lexical
holds t fact.Variable = t.variable
holds t fact.Imported = t.imported
holds t fact.Unset = t.unset
holds t fact.Set = t.set

abbrev pub is_const : VarDeclKind → Bool
is_const Const = true
is_const k = false

abbrev pub is_var : VarDeclKind → Bool
is_var Var = true
is_var k = false

abbrev pub is_none : Forest → Bool
is_none ε = true
is_none (t ⊳ ts) = false

-- what a declarator tells of its name
abbrev pub declarator_tells : Fact → VarDeclKind → Forest → Bool
declarator_tells fact.Declared k cs = true
declarator_tells fact.Constant k cs = is_const k
declarator_tells fact.Lexical k cs = not (is_var k)
declarator_tells fact.Variable k cs = is_var k
declarator_tells fact.Unset k cs = is_none cs && not (is_const k)
declarator_tells fact.Set k cs = not (is_none cs && not (is_const k))
declarator_tells f k cs = false

abbrev pub is_writing : Fact → Bool
is_writing fact.Written = true
is_writing f = false

abbrev pub is_declaring : Fact → Bool
is_declaring fact.Declared = true
is_declaring fact.Set = true
is_declaring f = false

abbrev pub is_importing : Fact → Bool
is_importing fact.Imported = true
is_importing f = is_declaring f

-- what a node tells of the name that it has
abbrev pub tells : Fact → Label → Forest → Bool
tells f (Assign op y) cs = is_writing f
tells f (Update op prefix y) cs = is_writing f
tells f (Declarator k y) cs = declarator_tells f k cs
tells f (ImportNamed y o) cs = is_importing f
tells f (ImportDefault y) cs = is_importing f
tells f (ImportStar y) cs = is_importing f
tells f (Param y) cs = is_declaring f
tells f (Fn o) cs = is_declaring f
tells f (FnDecl y) cs = is_declaring f
tells f (ExportDefaultFn o) cs = is_declaring f
tells f (Try o) cs = is_declaring f
tells f l cs = false

-- the name that a node writes or declares
abbrev pub told_name : Label → List Name
told_name (Assign op y) = y ∷ []
told_name (Update op prefix y) = y ∷ []
told_name (Declarator k y) = y ∷ []
told_name (ImportNamed y o) = y ∷ []
told_name (ImportDefault y) = y ∷ []
told_name (ImportStar y) = y ∷ []
told_name (Param y) = y ∷ []
told_name (Fn o) = option_name o
told_name (FnDecl y) = y ∷ []
told_name (ExportDefaultFn o) = option_name o
told_name (Try o) = catch_name o
told_name l = []

-- a node tells it of a name
abbrev pub tells_of : Fact → Name → Label → Forest → Bool
tells_of f x l cs = has_name x (told_name l) && tells f l cs

-- how often it was told of a name, if the tree has the name
abbrev pub count_at : NameTable Tally → Fact → Name → Option Count
count_at u f x = option_map (λ t. holds t f) (at u x)

-- what is told of one name alone
abbrev pub counted_if : Bool → Count → Count
counted_if true c = c
counted_if false c = of.Zero

-- A table becomes another by what is told.
abbrev pub Notes : NameTable Tally → NameTable Tally → (Fact → Name → Count) → Type 0
Notes u v more = (f : Fact) (x : Name) → count_at v f x ≡ option_map (λ c. plus c (more f x)) (count_at u f x)
