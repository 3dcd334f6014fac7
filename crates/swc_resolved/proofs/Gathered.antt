-- The names that a node gives, by what it is and its children.
use Rattle.std.proofs.Common.{◌≡◌, ◌+◌, ◌*◌, ◌<◌, Bool, true, false, List, [], ◌∷◌, ◌++◌, refl, sym, ap, ap₂, ◌∙◌, arith}
use Rattle.std.proofs.lemmas.Bool.{false≢true}
use Rattle.std.proofs.lemmas.List.{append_assoc, append-nil}
use Rattle.std.specs.Prelude.{if◌then◌else◌}
use Rattle.swc_ast.specs.declared.Span.{Span}
use Rattle.swc_ast.specs.declared.VarDeclKind.TheVariants.{Var, Let, Const}
use Rattle.swc_ast.specs.Tree as tree
use Rattle.swc_ast.specs.Tree.{Name, Label, Tree, node, Forest, ε, ◌⊳◌, label_of, children_of}
use Rattle.swc_ast.specs.Scope.{vars, vars_all, own_vars, holds_statements, declared, declared_by, declared_by_label, as_lexicals, declarator_name, declarator_names, param_name, imported_name, specifier_names, import_names_of, body_statements, case_statements, joined}
use Rattle.swc_ast.specs.Resolved.{first_names}
use Rattle.static_proofs.proofs.Names.{first_names_append}
use Rattle.tree_visit.proofs.Caps.{tree_size, forest_size}
use Rattle.swc_resolved.specs.declared.declared.Part.{Part}
use Rattle.swc_resolved.specs.declared.declared.Part.TheVariants as part
use Rattle.swc_resolved.specs.Parts.{tree_names, forest_names, label_names, is_lexical, is_import, is_case_body, is_export, declaring}

-- lists of trees, one by one

declared_joined : (ts us : Forest) → declared (joined ts us) ≡ declared ts ++ declared us
declared_joined ε us = refl
declared_joined (t ⊳ ts) us = ap (λ ps. declared_by t ++ ps) (declared_joined ts us) ∙ sym (append_assoc (declared_by t) (declared ts) (declared us))

first_joined : (ts us : Forest) → first_names (declared (joined ts us)) ≡ first_names (declared ts) ++ first_names (declared us)
first_joined ts us = ap first_names (declared_joined ts us) ∙ first_names_append (declared ts) (declared us)

vars_joined : (ts us : Forest) → vars_all (joined ts us) ≡ vars_all ts ++ vars_all us
vars_joined ε us = refl
vars_joined (t ⊳ ts) us = ap (λ xs. vars t ++ xs) (vars_joined ts us) ∙ sym (append_assoc (vars t) (vars_all ts) (vars_all us))

one_by_one : (p : Part) (t : Tree) (ts : Forest) → forest_names p (t ⊳ ts) ≡ tree_names p t ++ forest_names p ts
one_by_one part.Vars t ts = refl
one_by_one part.Declarations t ts = first_names_append (declared_by t) (declared ts)
one_by_one part.Declarators (node l ss cs) ts = refl
one_by_one part.Params (node l ss cs) ts = refl
one_by_one part.Imports (node l ss cs) ts = refl
one_by_one part.Specifiers (node l ss cs) ts = refl
one_by_one part.Cases (node l ss cs) ts = first_joined (body_statements l cs) (case_statements ts)
one_by_one part.CaseVars (node l ss cs) ts = vars_joined (body_statements l cs) (case_statements ts)

none_given : (p : Part) → forest_names p ε ≡ []
none_given part.Vars = refl
none_given part.Declarations = refl
none_given part.Declarators = refl
none_given part.Params = refl
none_given part.Imports = refl
none_given part.Specifiers = refl
none_given part.Cases = refl
none_given part.CaseVars = refl

pub goes_on : (p : Part) (t : Tree) (ts us : Forest) (xs new g : List Name) → us ≡ t ⊳ ts → new ≡ xs ++ tree_names p t → xs ++ forest_names p us ≡ g → new ++ forest_names p ts ≡ g
goes_on p t ts us xs new g is grown h = ap (λ ys. ys ++ forest_names p ts) grown ∙ append_assoc xs (tree_names p t) (forest_names p ts) ∙ sym (ap (λ ys. xs ++ ys) (ap (forest_names p) is ∙ one_by_one p t ts)) ∙ h

pub passes_by : (p : Part) (t : Tree) (ts us : Forest) (xs g : List Name) → us ≡ t ⊳ ts → tree_names p t ≡ [] → xs ++ forest_names p us ≡ g → xs ++ forest_names p ts ≡ g
passes_by p t ts us xs g is none h = ap (λ ys. xs ++ (ys ++ forest_names p ts)) (sym none) ∙ sym (ap (λ ys. xs ++ ys) (ap (forest_names p) is ∙ one_by_one p t ts)) ∙ h

pub ends : (p : Part) (us : Forest) (xs g : List Name) → us ≡ ε → xs ++ forest_names p us ≡ g → xs ≡ g
ends p us xs g is h = sym (ap (λ ys. xs ++ ys) (ap (forest_names p) is ∙ none_given p) ∙ append-nil xs) ∙ h

pub nothing_more : (xs ys : List Name) → [] ≡ ys → xs ≡ xs ++ ys
nothing_more xs ys is = sym (ap (λ zs. xs ++ zs) (sym is) ∙ append-nil xs)

-- `var` declarations

holders_no_vars : (l : Label) → holds_statements l ≡ true → own_vars l ≡ []
holders_no_vars (tree.Declarator k x) h = absurd (false≢true h)
holders_no_vars l h = refl

vars_of : (t : Tree) → vars t ≡ own_vars (label_of t) ++ (if holds_statements (label_of t) then vars_all (children_of t) else [])
vars_of (node l ss cs) = refl

vars_as : (t : Tree) (l : Label) (cs : Forest) (b : Bool) → label_of t ≡ l → children_of t ≡ cs → holds_statements l ≡ b → vars t ≡ own_vars l ++ (if b then vars_all cs else [])
vars_as t l cs b labelled held is = vars_of t ∙ cc (labelled, held, is)

pub vars_below : (p : Part) (t : Tree) (l : Label) (cs : Forest) → p ≡ part.Vars → label_of t ≡ l → children_of t ≡ cs → holds_statements l ≡ true → forest_names part.Vars cs ≡ tree_names p t
vars_below p t l cs whole labelled held is = sym (ap (λ q. tree_names q t) whole ∙ vars_as t l cs true labelled held is ∙ ap (λ xs. xs ++ vars_all cs) (holders_no_vars l is))

pub vars_alone : (p : Part) (t : Tree) (l : Label) → p ≡ part.Vars → label_of t ≡ l → holds_statements l ≡ false → own_vars l ≡ tree_names p t
vars_alone p t l whole labelled is = sym (ap (λ q. tree_names q t) whole ∙ vars_as t l (children_of t) false labelled refl is ∙ append-nil (own_vars l))

-- declarations

lexical_names : (b : Bool) (xs : List Name) → first_names (as_lexicals b xs) ≡ xs
lexical_names b [] = refl
lexical_names b (x ∷ xs) = ap (λ ys. x ∷ ys) (lexical_names b xs)

lexical_label : (l : Label) (cs : Forest) → is_lexical l ≡ true → label_names l cs ≡ declarator_names cs
lexical_label (tree.VarDecl Let) cs h = lexical_names true (declarator_names cs)
lexical_label (tree.VarDecl Const) cs h = lexical_names false (declarator_names cs)
lexical_label (tree.VarDecl Var) cs h = absurd (false≢true h)
lexical_label l cs h = absurd (false≢true h)

lone_label : (l : Label) (cs : Forest) → is_lexical l ≡ false → label_names l ε ≡ label_names l cs
lone_label (tree.VarDecl Let) cs h = absurd (false≢true (sym h))
lone_label (tree.VarDecl Const) cs h = absurd (false≢true (sym h))
lone_label (tree.VarDecl Var) cs h = refl
lone_label tree.ExportNamed cs h = refl
lone_label l cs h = refl

without_spans : (l : Label) (ss : List Span) (cs : Forest) → first_names (declared_by_label l ss cs) ≡ label_names l cs
without_spans (tree.VarDecl Let) ss cs = refl
without_spans (tree.VarDecl Const) ss cs = refl
without_spans (tree.VarDecl Var) ss cs = refl
without_spans tree.ExportNamed ss cs = refl
without_spans l ss cs = refl

by_declaration : (t : Tree) → first_names (declared_by t) ≡ label_names (label_of (declaring t)) (children_of (declaring t))
by_declaration (node tree.ExportDecl ss (node l rs cs ⊳ ts)) = without_spans l rs cs
by_declaration (node l ss cs) = without_spans l ss cs

declared_as : (p : Part) (t : Tree) (l : Label) (cs : Forest) → p ≡ part.Declarations → label_of (declaring t) ≡ l → children_of (declaring t) ≡ cs → tree_names p t ≡ label_names l cs
declared_as p t l cs whole labelled held = ap (λ q. tree_names q t) whole ∙ by_declaration t ∙ cc (labelled, held)

pub declarators : (p : Part) (t : Tree) (l : Label) (cs : Forest) → p ≡ part.Declarations → label_of (declaring t) ≡ l → children_of (declaring t) ≡ cs → is_lexical l ≡ true → forest_names part.Declarators cs ≡ tree_names p t
declarators p t l cs whole labelled held is = sym (declared_as p t l cs whole labelled held ∙ lexical_label l cs is)

pub lone : (p : Part) (t : Tree) (l : Label) → p ≡ part.Declarations → label_of (declaring t) ≡ l → is_lexical l ≡ false → label_names l ε ≡ tree_names p t
lone p t l whole labelled is = lone_label l (children_of (declaring t)) is ∙ sym (declared_as p t l (children_of (declaring t)) whole labelled refl)

-- under `export`

under_export : (t u : Tree) (us : Forest) → label_of t ≡ tree.ExportDecl → children_of t ≡ u ⊳ us → declaring t ≡ u
under_export (node l ss cs) u us labelled held = ap₂ (λ k ds. declaring (node k ss ds)) labelled held

export_label : (l : Label) → is_export l ≡ true → l ≡ tree.ExportDecl
export_label tree.ExportDecl h = refl
export_label l h = absurd (false≢true h)

pub exported : (t u : Tree) (l : Label) (cs us : Forest) → label_of t ≡ l → children_of t ≡ cs → is_export l ≡ true → cs ≡ u ⊳ us → declaring t ≡ u
exported t u l cs us labelled held is has = under_export t u us (labelled ∙ export_label l is) (held ∙ has)

nothing_under : (t : Tree) → children_of t ≡ ε → declaring t ≡ t
nothing_under (node tree.ExportDecl ss (u ⊳ us)) h = absurd (no_pair h)
  where
    no_pair : u ⊳ us ≡ ε → ⊥
    no_pair h = false≢true (ap (λ ts. elim ts [ ε ↦ true | v ⊳ vs ↦ false ]) h)
nothing_under (node tree.ExportDecl ss ε) h = refl
nothing_under (node l ss cs) h = refl

pub export_alone : (t : Tree) (cs : Forest) → children_of t ≡ cs → cs ≡ ε → declaring t ≡ t
export_alone t cs held is = nothing_under t (held ∙ is)

plain_item : (t : Tree) → is_export (label_of t) ≡ false → declaring t ≡ t
plain_item (node tree.ExportDecl ss cs) h = absurd (false≢true (sym h))
plain_item (node l ss cs) h = refl

pub no_export : (t : Tree) (l : Label) → label_of t ≡ l → is_export l ≡ false → declaring t ≡ t
no_export t l labelled is = plain_item t (ap is_export labelled ∙ is)

declaring_smaller : (t : Tree) → forest_size (children_of (declaring t)) < tree_size t
declaring_smaller (node tree.ExportDecl ss (node l rs cs ⊳ ts)) = omega arith
declaring_smaller (node tree.ExportDecl ss ε) = omega arith
declaring_smaller (node l ss cs) = omega arith

pub declaration_falls : (t : Tree) (cs : Forest) → children_of (declaring t) ≡ cs → forest_size cs * 2 + 1 < tree_size t * 2
declaration_falls t cs held = let h = declaring_smaller t in omega (arith, h, ap forest_size held)

-- nodes that give their own names

own_declarator : (t : Tree) → declarator_name (label_of t) ≡ tree_names part.Declarators t
own_declarator (node l ss cs) = refl

own_param : (t : Tree) → param_name (label_of t) ≡ tree_names part.Params t
own_param (node l ss cs) = refl

own_imported : (t : Tree) → imported_name (label_of t) ≡ tree_names part.Specifiers t
own_imported (node l ss cs) = refl

pub declarator : (p : Part) (t : Tree) (l : Label) → p ≡ part.Declarators → label_of t ≡ l → declarator_name l ≡ tree_names p t
declarator p t l whole labelled = sym (ap declarator_name labelled) ∙ own_declarator t ∙ ap (λ q. tree_names q t) (sym whole)

pub param : (p : Part) (t : Tree) (l : Label) → p ≡ part.Params → label_of t ≡ l → param_name l ≡ tree_names p t
param p t l whole labelled = sym (ap param_name labelled) ∙ own_param t ∙ ap (λ q. tree_names q t) (sym whole)

pub imported : (p : Part) (t : Tree) (l : Label) → p ≡ part.Specifiers → label_of t ≡ l → imported_name l ≡ tree_names p t
imported p t l whole labelled = sym (ap imported_name labelled) ∙ own_imported t ∙ ap (λ q. tree_names q t) (sym whole)

-- imports and cases

own_imports : (t : Tree) → tree_names part.Imports t ≡ import_names_of (label_of t) (children_of t)
own_imports (node l ss cs) = refl

imports_as : (p : Part) (t : Tree) (l : Label) (cs : Forest) → p ≡ part.Imports → label_of t ≡ l → children_of t ≡ cs → tree_names p t ≡ import_names_of l cs
imports_as p t l cs whole labelled held = ap (λ q. tree_names q t) whole ∙ own_imports t ∙ cc (labelled, held)

import_label : (l : Label) (cs : Forest) → is_import l ≡ true → import_names_of l cs ≡ specifier_names cs
import_label (tree.Import src) cs h = refl
import_label l cs h = absurd (false≢true h)

other_label : (l : Label) (cs : Forest) → is_import l ≡ false → import_names_of l cs ≡ []
other_label (tree.Import src) cs h = absurd (false≢true (sym h))
other_label l cs h = refl

pub specifiers : (p : Part) (t : Tree) (l : Label) (cs : Forest) → p ≡ part.Imports → label_of t ≡ l → children_of t ≡ cs → is_import l ≡ true → forest_names part.Specifiers cs ≡ tree_names p t
specifiers p t l cs whole labelled held is = sym (imports_as p t l cs whole labelled held ∙ import_label l cs is)

pub no_import : (p : Part) (t : Tree) (l : Label) → p ≡ part.Imports → label_of t ≡ l → is_import l ≡ false → [] ≡ tree_names p t
no_import p t l whole labelled is = sym (imports_as p t l (children_of t) whole labelled refl ∙ other_label l (children_of t) is)

own_cases : (t : Tree) → tree_names part.Cases t ≡ first_names (declared (body_statements (label_of t) (children_of t)))
own_cases (node l ss cs) = refl

cases_as : (p : Part) (t : Tree) (l : Label) (cs : Forest) → p ≡ part.Cases → label_of t ≡ l → children_of t ≡ cs → tree_names p t ≡ first_names (declared (body_statements l cs))
cases_as p t l cs whole labelled held = ap (λ q. tree_names q t) whole ∙ own_cases t ∙ cc (labelled, held)

case_label : (l : Label) (cs : Forest) → is_case_body l ≡ true → body_statements l cs ≡ cs
case_label tree.CaseBody cs h = refl
case_label l cs h = absurd (false≢true h)

no_case_label : (l : Label) (cs : Forest) → is_case_body l ≡ false → body_statements l cs ≡ ε
no_case_label tree.CaseBody cs h = absurd (false≢true (sym h))
no_case_label l cs h = refl

pub case_below : (p : Part) (t : Tree) (l : Label) (cs : Forest) → p ≡ part.Cases → label_of t ≡ l → children_of t ≡ cs → is_case_body l ≡ true → forest_names part.Declarations cs ≡ tree_names p t
case_below p t l cs whole labelled held is = sym (cases_as p t l cs whole labelled held ∙ ap (λ ts. first_names (declared ts)) (case_label l cs is))

pub no_case : (p : Part) (t : Tree) (l : Label) → p ≡ part.Cases → label_of t ≡ l → is_case_body l ≡ false → [] ≡ tree_names p t
no_case p t l whole labelled is = sym (cases_as p t l (children_of t) whole labelled refl ∙ ap (λ ts. first_names (declared ts)) (no_case_label l (children_of t) is))

own_case_vars : (t : Tree) → tree_names part.CaseVars t ≡ vars_all (body_statements (label_of t) (children_of t))
own_case_vars (node l ss cs) = refl

case_vars_as : (p : Part) (t : Tree) (l : Label) (cs : Forest) → p ≡ part.CaseVars → label_of t ≡ l → children_of t ≡ cs → tree_names p t ≡ vars_all (body_statements l cs)
case_vars_as p t l cs whole labelled held = ap (λ q. tree_names q t) whole ∙ own_case_vars t ∙ cc (labelled, held)

pub case_vars_below : (p : Part) (t : Tree) (l : Label) (cs : Forest) → p ≡ part.CaseVars → label_of t ≡ l → children_of t ≡ cs → is_case_body l ≡ true → forest_names part.Vars cs ≡ tree_names p t
case_vars_below p t l cs whole labelled held is = sym (case_vars_as p t l cs whole labelled held ∙ ap vars_all (case_label l cs is))

pub no_case_vars : (p : Part) (t : Tree) (l : Label) → p ≡ part.CaseVars → label_of t ≡ l → is_case_body l ≡ false → [] ≡ tree_names p t
no_case_vars p t l whole labelled is = sym (case_vars_as p t l (children_of t) whole labelled refl ∙ ap vars_all (no_case_label l (children_of t) is))

-- what several parts give
