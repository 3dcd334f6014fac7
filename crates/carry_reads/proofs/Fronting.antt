-- Names that are ready at the head of a node.
use Rattle.std.proofs.Common.{◌≡◌, Bool, true, false, ◌||◌, List, ◌++◌, Result, Ok, Err, OnOk, refl, sym, ap, ap₂, ◌∙◌}
use Rattle.std.proofs.lemmas.Bool.{true≢false}
use Rattle.swc_ast.specs.declared.Span.{Span}
use Rattle.swc_ast.specs.Scope.{has_name, param_name, param_names, joined, body_statements, case_statements}
use Rattle.swc_ast.specs.Tree as tree
use Rattle.swc_ast.specs.Tree.{Name, Label, Tree, node, Forest, ε, ◌⊳◌, label_of, children_of}
use Rattle.carry_rules.specs.Carry.{function_name, item_function, list_functions}
use Rattle.static_proofs.proofs.Names.{has_name_append}
use Rattle.tree_visit.specs.Kinds.{kind_label}
use Rattle.swc_ast.specs.Labels.{is_export_declaration}
use Rattle.tree_visit.specs.declared.kind.Kind.{Kind}
use Rattle.tree_visit.specs.declared.kind.Kind.TheVariants as kind
use Rattle.carry_tables.specs.declared.scoped.Scoped.{Scoped}
use Rattle.carry_vars.specs.declared.vars.Vars.{Vars}
use Rattle.carry_reads.specs.Fronts.{Adds}
use Rattle.carry_reads.proofs.Readying.{adds_as, adds_none}

-- a call that makes such names ready
pub call_adds : {A E : Type 0} (v : Vars) (u w : Scoped) (more most : Name → Bool) (k : Result A E) → ((x : Name) → more x ≡ most x) → OnOk k (Adds v u w more) → OnOk k (Adds v u w most)
call_adds v u w more most (Ok a) same h = adds_as same h
call_adds v u w more most (Err e) same h = h

-- parameters, one after another
pub param_split : (xs : List Name) (l : Label) (t : Tree) (ts us : Forest) → us ≡ t ⊳ ts → label_of t ≡ l → xs ≡ param_name l → (x : Name) → (has_name x xs || has_name x (param_names ts)) ≡ has_name x (param_names us)
param_split xs l (node m ss ds) ts us is labelled named x =
    sym (has_name_append x xs (param_names ts)) ∙ ap (λ ys. has_name x (ys ++ param_names ts)) (named ∙ ap param_name (sym labelled)) ∙ ap (λ zs. has_name x (param_names zs)) (sym is)

pub no_params : (us : Forest) → us ≡ ε → (x : Name) → has_name x (param_names us) ≡ false
no_params us is x = ap (λ zs. has_name x (param_names zs)) is

-- items of a list
pub item_split : (xs : List Name) (t : Tree) (ts us : Forest) → us ≡ t ⊳ ts → xs ≡ item_function t → (x : Name) → (has_name x xs || has_name x (list_functions ts)) ≡ has_name x (list_functions us)
item_split xs t ts us is named x =
    sym (has_name_append x xs (list_functions ts)) ∙ ap (λ ys. has_name x (ys ++ list_functions ts)) named ∙ ap (λ zs. has_name x (list_functions zs)) (sym is)

pub no_items : (us : Forest) → us ≡ ε → (x : Name) → has_name x (list_functions us) ≡ false
no_items us is x = ap (λ zs. has_name x (list_functions zs)) is

-- cases of a `switch`
functions_joined : (ts us : Forest) (x : Name) → has_name x (list_functions (joined ts us)) ≡ (has_name x (list_functions ts) || has_name x (list_functions us))
functions_joined ε us x = refl
functions_joined (t ⊳ ts) us x =
    has_name_append x (item_function t) (list_functions (joined ts us))
    ∙ ap (λ b. has_name x (item_function t) || b) (functions_joined ts us x)
    ∙ grouped (has_name x (item_function t)) (has_name x (list_functions ts)) (has_name x (list_functions us))
    ∙ ap (λ b. b || has_name x (list_functions us)) (sym (has_name_append x (item_function t) (list_functions ts)))
  where
    grouped : (a b c : Bool) → (a || (b || c)) ≡ ((a || b) || c)
    grouped true b c = refl
    grouped false b c = refl

pub case_split : (t : Tree) (ts us : Forest) → us ≡ t ⊳ ts → (x : Name) → (has_name x (list_functions (body_statements (label_of t) (children_of t))) || has_name x (list_functions (case_statements ts))) ≡ has_name x (list_functions (case_statements us))
case_split (node l ss cs) ts us is x = sym (functions_joined (body_statements l cs) (case_statements ts) x) ∙ ap (λ zs. has_name x (list_functions (case_statements zs))) (sym is)

pub no_cases : (us : Forest) → us ≡ ε → (x : Name) → has_name x (list_functions (case_statements us)) ≡ false
no_cases us is x = ap (λ zs. has_name x (list_functions (case_statements zs))) is

-- the statements of a case

pub case_body : (t : Tree) (l : Label) (cs : Forest) → label_of t ≡ l → children_of t ≡ cs → l ≡ tree.CaseBody → (x : Name) → has_name x (list_functions cs) ≡ has_name x (list_functions (body_statements (label_of t) (children_of t)))
case_body t l cs labelled held is x = ap₂ (λ m ds. has_name x (list_functions (body_statements m ds))) (sym (labelled ∙ is)) (sym held)

no_body : (k : Kind) (cs : Forest) → (k ≡ kind.CaseBody → ⊥) → body_statements (kind_label k) cs ≡ ε
no_body kind.CaseBody cs h = absurd (h refl)
no_body k cs h = refl

pub no_case : (v : Vars) (u : Scoped) (t : Tree) (k : Kind) → label_of t ≡ kind_label k → (k ≡ kind.CaseBody → ⊥) → Adds v u u (λ x. has_name x (list_functions (body_statements (label_of t) (children_of t))))
no_case v u t k labelled h = adds_none v u _ (λ x. ap (λ zs. has_name x (list_functions zs)) (ap (λ l. body_statements l (children_of t)) labelled ∙ no_body k (children_of t) h))

-- an item that isn't exported

unexported : (k : Kind) → (k ≡ kind.ExportDecl → ⊥) → is_export_declaration (kind_label k) ≡ false
unexported kind.ExportDecl h = absurd (h refl)
unexported k h = refl

label_item : (l : Label) (ss : List Span) (cs : Forest) → is_export_declaration l ≡ false → function_name l ≡ item_function (node l ss cs)
label_item tree.ExportDecl ss cs e = absurd (true≢false e)
label_item l ss cs e = refl

pub plain_item : (t : Tree) (k : Kind) → (k ≡ kind.ExportDecl → ⊥) → label_of t ≡ kind_label k → function_name (kind_label k) ≡ item_function t
plain_item (node l ss cs) k h labelled = ap function_name (sym labelled) ∙ label_item l ss cs (ap is_export_declaration labelled ∙ unexported k h)
