-- Declarations, and nodes that are none.
use Rattle.std.proofs.Common.{◌≡◌, ℕ, true, false, List, [], ◌∷◌, drop, refl, ap, subst, ◌∙◌}
use Rattle.std.proofs.lemmas.Bool.{false≢true}
use Rattle.swc_ast.specs.declared.declarations.Decl.{Decl}
use Rattle.swc_ast.specs.declared.declarations.Decl.TheOpen as Open
use Rattle.swc_ast.specs.declared.declarations.Decl.TheViews.{roll-Stmt, out-Stmt, roll-out-Stmt, roll-Prop, out-Prop, roll-out-Prop, roll-PropOrSpread, out-PropOrSpread, roll-out-PropOrSpread}
use Rattle.swc_ast.specs.declared.expressions.Expr.{Expr}
use Rattle.swc_ast.specs.declared.expressions.Prop.{Prop}
use Rattle.swc_ast.specs.declared.expressions.Prop.TheVariants as in_prop
use Rattle.swc_ast.specs.declared.expressions.PropOrSpread.{PropOrSpread}
use Rattle.swc_ast.specs.declared.expressions.PropOrSpread.TheVariants as in_prop_or_spread
use Rattle.swc_ast.specs.declared.expressions.PropName.{PropName}
use Rattle.swc_ast.specs.declared.expressions.PropName.TheVariants as key
use Rattle.swc_ast.specs.declared.declarations.Pat.{Pat}
use Rattle.swc_ast.specs.declared.declarations.Pat.TheVariants as pat
use Rattle.swc_ast.specs.declared.modules.ImportSpecifier.{ImportSpecifier}
use Rattle.swc_ast.specs.declared.modules.ImportSpecifier.TheVariants as imports
use Rattle.swc_ast.specs.declared.statements.Stmt.{Stmt}
use Rattle.swc_ast.specs.declared.statements.Stmt.TheVariants as in_stmt
use Rattle.swc_ast.proofs.ApartProps.{PropForm, PropOrSpreadForm}
use Rattle.swc_ast.proofs.ApartStatements.{StmtForm}
use Rattle.swc_ast.proofs.Equations.{stmt_tree-Block, stmt_tree-Empty, stmt_tree-Return, stmt_tree-Labeled, stmt_tree-Break, stmt_tree-Continue, stmt_tree-If, stmt_tree-Switch, stmt_tree-Throw, stmt_tree-Try, stmt_tree-While, stmt_tree-DoWhile, stmt_tree-For, stmt_tree-Expr, if_tree-is, switch_tree-is, for_tree-is, prop_or_spread_tree-Spread, prop_or_spread_tree-Prop, prop_tree-Shorthand, prop_tree-KeyValue, prop_tree-Method, method_tree-is}
use Rattle.swc_ast.specs.Tree as tree
use Rattle.swc_ast.specs.Tree.{Label, Tree, label_of}
use Rattle.swc_ast.specs.Views.{expr_tree, stmt_tree, prop_tree, prop_or_spread_tree, case_trees}
use Rattle.swc_ast.specs.Expressions.{key_tree, param_tree}
use Rattle.swc_ast.specs.Modules.{import_specifier_tree, export_specifier_tree}
use Rattle.carry_rules.specs.Carry.{is_declaring}
use Rattle.static_proofs.specs.Shaped.{is_inner}
use Rattle.static_proofs.proofs.ShapedViews.{expr_shaped}
use Rattle.tree_visit.specs.declared.node.Node.{Node}
use Rattle.tree_visit.specs.declared.node.Node.TheVariants as a
use Rattle.tree_visit.specs.declared.lists.NodeList.{NodeList}
use Rattle.tree_visit.specs.declared.lists.NodeList.TheVariants as list
use Rattle.tree_visit.specs.Nodes.{head_tree, node_at, node_tree}
use Rattle.tree_visit.proofs.Cases.{case_body}

inner_none : (l : Label) → is_inner l ≡ true → is_declaring l ≡ false
inner_none (tree.VarDecl k) e = absurd (false≢true e)
inner_none (tree.Declarator k x) e = absurd (false≢true e)
inner_none tree.ExportDecl e = absurd (false≢true e)
inner_none l e = refl

-- an expression declares nothing
pub expr_none : (e : Expr) → is_declaring (label_of (expr_tree e)) ≡ false
expr_none e = inner_none (label_of (expr_tree e)) (expr_shaped e).stands

-- a statement that is no declaration declares nothing
viewed : {t u : Tree} → t ≡ u → is_declaring (label_of t) ≡ is_declaring (label_of u)
viewed is = ap (λ v. is_declaring (label_of v)) is

pub stmt_none : (s : Stmt) → ((d : Decl) → s ≡ in_stmt.Decl d → ⊥) → is_declaring (label_of (stmt_tree s)) ≡ false
stmt_none s = subst (λ q. ((d : Decl) → q ≡ in_stmt.Decl d → ⊥) → is_declaring (label_of (stmt_tree q)) ≡ false) (roll-out-Stmt s) (by (out-Stmt s))
  where
    by : (o : StmtForm) → ((d : Decl) → roll-Stmt o ≡ in_stmt.Decl d → ⊥) → is_declaring (label_of (stmt_tree (roll-Stmt o))) ≡ false
    by (Open.Block s) other = viewed (ap stmt_tree (in_stmt.rolls-Block s) ∙ stmt_tree-Block s)
    by (Open.Empty s) other = viewed (ap stmt_tree (in_stmt.rolls-Empty s) ∙ stmt_tree-Empty s)
    by (Open.Return s) other = viewed (ap stmt_tree (in_stmt.rolls-Return s) ∙ stmt_tree-Return s)
    by (Open.Labeled s) other = viewed (ap stmt_tree (in_stmt.rolls-Labeled s) ∙ stmt_tree-Labeled s)
    by (Open.Break s) other = viewed (ap stmt_tree (in_stmt.rolls-Break s) ∙ stmt_tree-Break s)
    by (Open.Continue s) other = viewed (ap stmt_tree (in_stmt.rolls-Continue s) ∙ stmt_tree-Continue s)
    by (Open.If s) other = viewed (ap stmt_tree (in_stmt.rolls-If s) ∙ stmt_tree-If s ∙ if_tree-is s)
    by (Open.Switch s) other = viewed (ap stmt_tree (in_stmt.rolls-Switch s) ∙ stmt_tree-Switch s ∙ switch_tree-is s)
    by (Open.Throw s) other = viewed (ap stmt_tree (in_stmt.rolls-Throw s) ∙ stmt_tree-Throw s)
    by (Open.Try s) other = viewed (ap stmt_tree (in_stmt.rolls-Try s) ∙ stmt_tree-Try s)
    by (Open.While s) other = viewed (ap stmt_tree (in_stmt.rolls-While s) ∙ stmt_tree-While s)
    by (Open.DoWhile s) other = viewed (ap stmt_tree (in_stmt.rolls-DoWhile s) ∙ stmt_tree-DoWhile s)
    by (Open.For s) other = viewed (ap stmt_tree (in_stmt.rolls-For s) ∙ stmt_tree-For s ∙ for_tree-is s.value)
    by (Open.Decl d) other = absurd (other d (in_stmt.rolls-Decl d))
    by (Open.Stmt::Expr s) other = viewed (ap stmt_tree (in_stmt.rolls-Expr s) ∙ stmt_tree-Expr s)

-- a property declares nothing

prop_none : (p : Prop) → is_declaring (label_of (prop_tree p)) ≡ false
prop_none p = subst (λ q. is_declaring (label_of (prop_tree q)) ≡ false) (roll-out-Prop p) (by (out-Prop p))
  where
    by : (o : PropForm) → is_declaring (label_of (prop_tree (roll-Prop o))) ≡ false
    by (Open.Shorthand i) = viewed (ap prop_tree (in_prop.rolls-Shorthand i) ∙ prop_tree-Shorthand i)
    by (Open.KeyValue k) = viewed (ap prop_tree (in_prop.rolls-KeyValue k) ∙ prop_tree-KeyValue k)
    by (Open.Method m) = viewed (ap prop_tree (in_prop.rolls-Method m) ∙ prop_tree-Method m ∙ method_tree-is m)

entry_none : (p : PropOrSpread) → is_declaring (label_of (prop_or_spread_tree p)) ≡ false
entry_none p = subst (λ q. is_declaring (label_of (prop_or_spread_tree q)) ≡ false) (roll-out-PropOrSpread p) (by (out-PropOrSpread p))
  where
    by : (o : PropOrSpreadForm) → is_declaring (label_of (prop_or_spread_tree (roll-PropOrSpread o))) ≡ false
    by (Open.Spread s) = viewed (ap prop_or_spread_tree (in_prop_or_spread.rolls-Spread s) ∙ prop_or_spread_tree-Spread s)
    by (Open.Prop q) = viewed (ap prop_or_spread_tree (in_prop_or_spread.rolls-Prop q) ∙ prop_or_spread_tree-Prop q) ∙ prop_none q

-- nor do other nodes of lists

import_none : (s : ImportSpecifier) → is_declaring (label_of (import_specifier_tree s)) ≡ false
import_none (imports.Named n) = refl
import_none (imports.Default n) = refl
import_none (imports.Namespace n) = refl

param_none : (n : Pat Expr) → is_declaring (label_of (param_tree expr_tree n)) ≡ false
param_none (pat.Ident n) = refl
param_none (pat.Assign n) = refl

head_none : {A : Type 0} (f : A → Tree) → ((x : A) → is_declaring (label_of (f x)) ≡ false) → (xs : List A) → is_declaring (label_of (head_tree f xs)) ≡ false
head_none f h [] = refl
head_none f h (x ∷ xs) = h x

pub list_none : (xs : NodeList) (i : ℕ) → ((ys : _) → xs ≡ list.ModuleItems ys → ⊥) → ((k : _) → (ys : _) → xs ≡ list.Declarators k ys → ⊥) → ((ys : _) → xs ≡ list.Stmts ys → ⊥) → is_declaring (label_of (node_at xs i)) ≡ false
list_none (list.ModuleItems xs) i a b c = absurd (a xs refl)
list_none (list.ImportSpecifiers xs) i a b c = head_none import_specifier_tree import_none (drop i xs.now.items)
list_none (list.ExportSpecifiers xs) i a b c = head_none export_specifier_tree (λ n. refl) (drop i xs.now.items)
list_none (list.Declarators k xs) i a b c = absurd (b k xs refl)
list_none (list.Stmts xs) i a b c = absurd (c xs refl)
list_none (list.Exprs xs) i a b c = head_none expr_tree expr_none (drop i xs.now.items)
list_none (list.Props xs) i a b c = head_none prop_or_spread_tree entry_none (drop i xs.now.items)
list_none (list.Params xs) i a b c = head_none (param_tree expr_tree) param_none (drop i xs.now.items)

key_none : (k : PropName Expr) → is_declaring (label_of (key_tree expr_tree k)) ≡ false
key_none (key.Ident n) = refl
key_none (key.Str n) = refl
key_none (key.Num n) = refl
key_none (key.Computed n) = refl

pub node_none : (n : Node) → ((xs : _) → (i : _) → n ≡ a.At xs i → ⊥) → ((d : _) → n ≡ a.Decl d → ⊥) → ((d : _) → n ≡ a.VarDecl d → ⊥) → ((s : _) → n ≡ a.Stmt s → ⊥) → is_declaring (label_of (node_tree n)) ≡ false
node_none (a.Module n) f g h k = refl
node_none (a.Script n) f g h k = refl
node_none (a.At xs i) f g h k = absurd (f xs i refl)
node_none (a.Decl n) f g h k = absurd (g n refl)
node_none (a.VarDecl n) f g h k = absurd (h n refl)
node_none (a.Stmt n) f g h k = absurd (k n refl)
node_none (a.Block n) f g h k = refl
node_none (a.CaseBody xs i) f g h k = head_none (λ n. (case_trees n).body) (λ n. ap (λ t. is_declaring (label_of t)) (case_body n)) (drop i xs.now.items)
node_none (a.Expr n) f g h k = expr_none n.now.value
node_none (a.Key n) f g h k = key_none n.now
node_none (a.Params xs) f g h k = refl
node_none (a.Body n) f g h k = refl
node_none a.Absent f g h k = refl
