-- Exports that name what their names stand for, one after another.
use Rattle.std.proofs.Common.{◌≡◌, ◌≤◌, Bool, true, false, List, [], Option, Some, None, refl, sym, ap, ap₂, ◌∙◌, subst, arith, if◌then◌else◌}
use Rattle.std.specs.declared.alloc.Global.{Global}
use Rattle.std.specs.declared.vec.Vec.{Vec}
use Rattle.swc_ast.specs.Modules.{export_specifier_tree, item_tree, module_decl_tree}
use Rattle.swc_ast.specs.Parts.{ident_name, list_trees, option_word_text}
use Rattle.swc_ast.specs.Run.{export_text}
use Rattle.swc_ast.specs.Tree.{Name, Text, Label, ExportNamed, ExportSpecifier, Tree, node, Forest, ε, ◌⊳◌, bare, bares, label_of}
use Rattle.swc_ast.specs.Views.{stmt_tree}
use Rattle.swc_ast.specs.declared.declarations.Decl.TheOpen as Open
use Rattle.swc_ast.specs.declared.declarations.Decl.TheViews.{out-Stmt, roll-out-Stmt}
use Rattle.swc_ast.specs.declared.modules.ExportNamedSpecifier.{ExportNamedSpecifier}
use Rattle.swc_ast.specs.declared.modules.ModuleDecl.{ModuleDecl}
use Rattle.swc_ast.specs.declared.modules.ModuleDecl.TheVariants as decls
use Rattle.swc_ast.specs.declared.modules.ModuleItem.{ModuleItem}
use Rattle.swc_ast.specs.declared.modules.ModuleItem.TheVariants as items
use Rattle.swc_ast.specs.declared.modules.NamedExport.{NamedExport}
use Rattle.swc_ast.specs.declared.statements.Stmt.{Stmt}
use Rattle.swc_ast.proofs.ApartStatements.{StmtForm, stmt_form, stmt_number, stmt_at}
use Rattle.link_proofs.specs.Links.{Put, nothing, a_name, a_value}
use Rattle.carry_rules.specs.Carry.{exported_put, respecified, reexported}
use Rattle.tree_put.specs.Walks.{Each, none, more}
use Rattle.carry_pass.specs.Exports.{bound_name, renamed, reexported_item, specifier_label}

module _ (B : Name → Bool) where
  -- a label_of that exports another name, if there is one
  abbrev as_label : Option Name → Name → Option Text → Label
  as_label None y o = ExportSpecifier y o
  as_label (Some x) y o = ExportSpecifier x (Some (export_text y o))

  put_is : (q : Put) (y : Name) (o : Option Text) → exported_put B q (ExportSpecifier y o) ≡ as_label (bound_name B q) y o
  put_is nothing y o = refl
  put_is (a_value v) y o = refl
  put_is (a_name x) y o = by (B x)
    where
      by : (b : Bool) → (if b then ExportSpecifier x (Some (export_text y o)) else ExportSpecifier y o) ≡ as_label (if b then Some x else None) y o
      by true = refl
      by false = refl

module _ (B : Name → Bool) (V : Name → Put) where
  -- a specifier stays, or names another name

  pub renamed_none : (n : ExportNamedSpecifier) → None ≡ bound_name B (V (ident_name n.orig)) → renamed B V (specifier_label n) ≡ specifier_label n
  renamed_none n e = put_is B (V (ident_name n.orig)) (ident_name n.orig) (option_word_text n.exported) ∙ ap (λ o. as_label B o (ident_name n.orig) (option_word_text n.exported)) (sym e)

  pub renamed_some : (n : ExportNamedSpecifier) (x : Name) (l : Label) → Some x ≡ bound_name B (V (ident_name n.orig)) → l ≡ ExportSpecifier x (Some (export_text (ident_name n.orig) (option_word_text n.exported))) → renamed B V (specifier_label n) ≡ l
  renamed_some n x l e is = put_is B (V (ident_name n.orig)) (ident_name n.orig) (option_word_text n.exported) ∙ ap (λ o. as_label B o (ident_name n.orig) (option_word_text n.exported)) (sym e) ∙ sym is

  -- specifiers

  abbrev pub Renames : Unit {0} → ExportNamedSpecifier → ExportNamedSpecifier → Unit {0} → Type 0
  Renames s x y t = renamed B V (specifier_label x) ≡ specifier_label y

  pub all_renamed : {s t : Unit {0}} {xs ys : List ExportNamedSpecifier} → Each Renames s xs ys t → bares (respecified B V (list_trees export_specifier_tree xs)) ≡ bares (list_trees export_specifier_tree ys)
  all_renamed none = refl
  all_renamed (more h rest) = ap₂ (λ l us. node l [] ε ⊳ us) h (all_renamed rest)

  -- items

  abbrev pub Exported : Unit {0} → ModuleItem → ModuleItem → Unit {0} → Type 0
  Exported s x y t = bare (reexported_item B V (item_tree x)) ≡ bare (item_tree y)

  item_more : (t : Tree) (ts : Forest) → reexported B V (t ⊳ ts) ≡ (reexported_item B V t ⊳ reexported B V ts)
  item_more (node ExportNamed ss cs) ts = refl
  item_more (node l ss cs) ts = refl

  pub all_exported : {s t : Unit {0}} {xs ys : List ModuleItem} → Each Exported s xs ys t → bares (reexported B V (list_trees item_tree xs)) ≡ bares (list_trees item_tree ys)
  all_exported none = refl
  all_exported (more {x = x} {xs = xs} h rest) = ap bares (item_more (item_tree x) (list_trees item_tree xs)) ∙ ap₂ ◌⊳◌ h (all_exported rest)

  pub named_arm : {e : ModuleDecl} {n : NamedExport} (ys : Vec ExportNamedSpecifier Global) → e ≡ decls.ExportNamed n → bares (respecified B V (list_trees export_specifier_tree n.specifiers.items)) ≡ bares (list_trees export_specifier_tree ys.items) → bare (reexported_item B V (module_decl_tree e)) ≡ bare (module_decl_tree (decls.ExportNamed (record n { specifiers = ys })))
  named_arm ys is h = ap (λ k. bare (reexported_item B V (module_decl_tree k))) is ∙ ap (λ us. node ExportNamed [] us) h

  pub decl_arm : {e : ModuleItem} {n : ModuleDecl} (a : ModuleDecl) → e ≡ items.ModuleDecl n → bare (reexported_item B V (module_decl_tree n)) ≡ bare (module_decl_tree a) → bare (reexported_item B V (item_tree e)) ≡ bare (item_tree (items.ModuleDecl a))
  decl_arm a is h = ap (λ k. bare (reexported_item B V (item_tree k))) is ∙ h

  -- a statement is no export

  numbered : (o : StmtForm) → 1 ≤ stmt_number o
  numbered (Open.Block n) = omega arith
  numbered _ = omega arith

  stmt_formed : (s : Stmt) → 1 ≤ stmt_form (label_of (stmt_tree s))
  stmt_formed s = subst (λ x. 1 ≤ stmt_form (label_of (stmt_tree x))) (roll-out-Stmt s) (subst (λ n. 1 ≤ n) (sym (stmt_at (out-Stmt s))) (numbered (out-Stmt s)))

  formed_kept : (t : Tree) → 1 ≤ stmt_form (label_of t) → reexported_item B V t ≡ t
  formed_kept (node ExportNamed ss cs) h = absurd (omega (arith, h))
  formed_kept (node l ss cs) h = refl

  pub stmt_arm : {e : ModuleItem} {s : Stmt} → e ≡ items.Stmt s → bare (reexported_item B V (item_tree e)) ≡ bare (item_tree e)
  stmt_arm {e} {s} is = subst (λ k. bare (reexported_item B V (item_tree k)) ≡ bare (item_tree k)) (sym is) (ap bare (formed_kept (stmt_tree s) (stmt_formed s)))
