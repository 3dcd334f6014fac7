-- What a table tells at the end.
use Rattle.std.proofs.Common.{◌≡◌, Bool, true, false, not, ◌||◌, ◌&&◌, List, [], ◌∷◌, ◌++◌, Some, None, refl, sym, ap, ap₂, ◌∙◌}
use Rattle.swc_ast.specs.Tree as tree
use Rattle.swc_ast.specs.declared.Span.{Span}
use Rattle.swc_ast.specs.Tree.{Text, Name, Label, same_name, Tree, node, Forest, ε, ◌⊳◌}
use Rattle.swc_ast.specs.Scope.{has_name, default_name, declarator_name, declarator_names}
use Rattle.swc_ast.specs.Run.{own_texts, specifier_exports, item_exports, exported}
use Rattle.swc_ast.specs.Reach.{is_exported}
use Rattle.static_proofs.proofs.Names.{has_name_append}
use Rattle.dce_rules.specs.Uses.{is_argument, seen_by_eval, is_export_of, is_used_unnamed}
use Rattle.dce_uses.specs.declared.listed.Part.TheVariants as part
use Rattle.dce_uses.specs.declared.tally.Fact.{Fact}
use Rattle.dce_uses.specs.declared.tally.Fact.TheVariants as fact
use Rattle.dce_uses.specs.declared.table.Table.{Table}
use Rattle.dce_uses.specs.declared.uses.Uses.{Uses}
use Rattle.dce_uses.specs.Noted.{is_hiding, noted, at_top}
use Rattle.dce_uses.specs.Listed.{listed}
use Rattle.dce_uses.specs.Exports.{first_names, item_names, exported_names, is_nameless_export, any_nameless}
use Rattle.dce_uses.specs.Tables.{IsBlank, Notes, Tells, fact_of, is_default, is_hidden}
use Rattle.dce_uses.proofs.Adding.{or_false, or_true, or_grouped, or_swap, and_false}
use Rattle.dce_uses.proofs.Telling.{readings, declarations, namings, hidings}

-- what is exported

own_exported : (x : Name) (ns : List Name) → is_exported x (own_texts ns) ≡ has_name x ns
own_exported x [] = refl
own_exported x (y ∷ ys) = ap (λ b. same_name x y || b) (own_exported x ys)

listed_declarators : (ds : Forest) → listed part.Declarators ds ≡ declarator_names ds
listed_declarators ε = refl
listed_declarators (node l ss cs ⊳ ts) = ap (λ xs. declarator_name l ++ xs) (listed_declarators ts)

exported_append : (x : Name) (ps qs : List (Text × Name)) → is_exported x (ps ++ qs) ≡ (is_exported x ps || is_exported x qs)
exported_append x [] qs = refl
exported_append x (p ∷ ps) qs = ap (λ b. same_name x p.1 || b) (exported_append x ps qs) ∙ sym (or_grouped (same_name x p.1) (is_exported x ps) (is_exported x qs))

specifiers_exported : (x : Name) (cs : Forest) → is_exported x (specifier_exports cs) ≡ has_name x (listed part.Specifiers cs)
specifiers_exported x ε = refl
specifiers_exported x (node (tree.ExportSpecifier y o) ss cs ⊳ ts) = ap (λ b. same_name x y || b) (specifiers_exported x ts)
specifiers_exported x (node l ss cs ⊳ ts) = specifiers_exported x ts

first_exported : (x : Name) (cs : Forest) → is_exported x (item_exports tree.ExportDecl cs) ≡ has_name x (first_names cs)
first_exported x ε = refl
first_exported x (node (tree.VarDecl kind) ss ds ⊳ ts) = own_exported x (declarator_names ds) ∙ sym (ap (has_name x) (listed_declarators ds))
first_exported x (node (tree.FnDecl f) ss cs ⊳ ts) = refl
first_exported x (node l ss cs ⊳ ts) = refl

item_exported : (x : Name) (l : Label) (cs : Forest) → is_exported x (item_exports l cs) ≡ (has_name x (item_names l cs) || (is_nameless_export l && same_name x default_name))
item_exported x tree.ExportDecl cs = first_exported x cs ∙ sym (or_false (has_name x (first_names cs)))
item_exported x tree.ExportNamed cs = specifiers_exported x cs ∙ sym (or_false (has_name x (listed part.Specifiers cs)))
item_exported x (tree.ExportDefaultFn None) cs = or_false (same_name x default_name)
item_exported x (tree.ExportDefaultFn (Some f)) cs = sym (or_false (same_name x f || false))
item_exported x tree.ExportDefaultExpr cs = or_false (same_name x default_name)
item_exported x l cs = refl

spread : (a b c d e : Bool) → ((a || (b && e)) || (c || (d && e))) ≡ ((a || c) || ((b || d) && e))
spread true b c d e = refl
spread false b true d e = or_true (b && e)
spread false true false d true = refl
spread false true false d false = and_false d
spread false false false d e = refl

pub exported_as : (x : Name) (ts : Forest) → is_exported x (exported ts) ≡ (has_name x (exported_names ts) || (any_nameless ts && same_name x default_name))
exported_as x ε = refl
exported_as x (node l ss cs ⊳ ts) =
    exported_append x (item_exports l cs) (exported ts) ∙ ap₂ (λ a b. a || b) (item_exported x l cs) (exported_as x ts)
    ∙ spread (has_name x (item_names l cs)) (is_nameless_export l) (has_name x (exported_names ts)) (any_nameless ts) (same_name x default_name)
    ∙ ap (λ b. b || ((is_nameless_export l || any_nameless ts) && same_name x default_name)) (sym (has_name_append x (item_names l cs) (exported_names ts)))

-- a table tells what a tree says

hidden_as : (h e d s : Bool) → s ≡ (e || d) → ((h || (true && e)) || d) ≡ (s || h)
hidden_as h e d s is = or_grouped h e d ∙ ap (λ b. h || b) (sym is) ∙ or_swap h s

pub tells : (u : Uses) (t : Tree) (exports : Name → Bool) → ((f : Fact) (x : Name) → fact_of u.table f x ≡ (noted f x at_top t || (is_hiding f && exports x))) → ((x : Name) → is_export_of x t ≡ (exports x || is_default u x)) → Tells u t
tells u t exports facts said = record {
  free = λ x. ap₂ (λ a b. not (a || b)) (ap₂ (λ a b. a || b) (facts fact.Used x ∙ or_false _) (facts fact.Written x ∙ or_false _) ∙ namings x at_top t) (hidden x);
  unread = λ x. ap₂ (λ a b. a && b) (facts fact.Declared x ∙ or_false _ ∙ declarations x at_top t) (ap₂ (λ a b. not (a || b)) (facts fact.Used x ∙ or_false _ ∙ readings x at_top t) (hidden x));
  held = λ x. facts fact.Held x ∙ or_false _;
  abroad = λ x. facts fact.Abroad x ∙ or_false _;
}
  where
    hidden : (x : Name) → is_hidden u x ≡ is_used_unnamed x t
    hidden x = ap (λ b. b || is_default u x) (facts fact.Hidden x ∙ ap (λ b. b || (true && exports x)) (hidings x at_top t refl)) ∙ hidden_as (is_argument x t || seen_by_eval x t) (exports x) (is_default u x) (is_export_of x t) (said x)

-- facts of a table in which nothing was noted before
pub known : (u w : Table) (more : Fact → Name → Bool) → IsBlank u → Notes u w more → (f : Fact) (x : Name) → fact_of w f x ≡ more f x
known u w more blank notes f x = notes.facts blank.numbered f x ∙ ap (λ b. b || more f x) (blank.facts f x)

-- a script

pub script_told : (u : Uses) (start : Table) (ss : List Span) (stmts : Forest) → IsBlank start → Notes start u.table (λ f x. noted f x at_top (node tree.Script ss stmts)) → u.exports_default ≡ false → Tells u (node tree.Script ss stmts)
script_told u start ss stmts blank counts unnamed =
    let t = node tree.Script ss stmts in
    tells u t (λ x. false)
    (λ f x. known start u.table (λ f x. noted f x at_top t) blank counts f x ∙ sym (ap (λ b. noted f x at_top t || b) (and_false (is_hiding f)) ∙ or_false (noted f x at_top t)))
    (λ x. sym (ap (λ b. b && same_name x default_name) unnamed))
