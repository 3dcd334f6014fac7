-- Where what is carried is put, a resolved module or script of the core does the same.
use Rattle.std.proofs.Common.{◌≡◌, ℕ, ◌≤◌, Bool, true, false, List, refl}
use Rattle.swc_ast.specs.declared.Span.{Span}
use Rattle.swc_ast.specs.declared.modules.Module.{Module as ModuleView}
use Rattle.swc_ast.specs.declared.modules.Script.{Script as ScriptView}
use Rattle.swc_ast.specs.Modules.{module_tree, script_tree}
use Rattle.swc_ast.specs.Tree.{Name, Label, Module, Script, Tree, node, Forest}
use Rattle.swc_ast.specs.Scope.{list_binds}
use Rattle.swc_ast.specs.Resolved.{IsResolved}
use Rattle.swc_ast.specs.Core.{IsCore}
use Rattle.swc_ast.specs.Run.{Same}
use Rattle.static_proofs.specs.Shaped.{IsShaped}
use Rattle.static_proofs.proofs.ShapedViews.{module_shaped, script_shaped}
use Rattle.carry_rules.specs.Carry.{Pass, constants, inlines, facts, how_many, starting, enter, written, written_all, reexported, propagated}
use Rattle.carry_rules.specs.Late.{is_late, declares_literal}
use Rattle.carry_rules.specs.Parted.{IsParted}
use Rattle.carry_rules.proofs.Top.{carried_last, Founded, rest_of, here_of, valued, module_carried, script_carried, module_early, script_early}
use Rattle.carry_proofs.specs.Laws.{IsWhole, a_module, a_script, Stays}
use Rattle.carry_proofs.proofs.Sitting.{lex}
use Rattle.carry_proofs.proofs.Carried.{literal_carried}
use Rattle.carry_proofs.proofs.Found.{founded}
use Rattle.carry_proofs.proofs.Lexical.{declared_bound}
use Rattle.swc_ast.specs.Labels.{is_whole}
use Rattle.carry_proofs.proofs.Switches.{switch_good}
use Rattle.carry_proofs.proofs.Exported.{exported_same}
use Rattle.carry_proofs.proofs.PartedViews.{module_parted, script_parted}

module _ (p : Pass) {mark : ℕ} (loads : Bool) where
  found : (l : Label) (ss : List Span) (cs : Forest) → is_whole l ≡ true → IsResolved mark (node l ss cs) → IsCore (node l ss cs) → IsShaped (node l ss cs) → IsParted (node l ss cs) → Founded p (facts (node l ss cs)) (lex (node l ss cs)) mark (node l ss cs)
  found l ss cs i r c s w = founded p (node l ss cs) r (declared_bound l ss cs i s.shaped c.is_valid c.fits_core) s c.is_valid w.parted

  pub written_module : (ss : List Span) (cs : Forest) → IsResolved mark (node Module ss cs) → IsCore (node Module ss cs) → IsShaped (node Module ss cs) → IsParted (node Module ss cs) → Same mark loads (node Module ss cs) (written p (facts (node Module ss cs)) (starting p (facts (node Module ss cs))) (node Module ss cs))
  written_module ss cs r c s w = let f = found Module ss cs refl r c s w in module_carried loads ss cs f (switch_good f.sure)

  pub written_script : (ss : List Span) (cs : Forest) → IsResolved mark (node Script ss cs) → IsCore (node Script ss cs) → IsShaped (node Script ss cs) → IsParted (node Script ss cs) → Same mark loads (node Script ss cs) (written p (facts (node Script ss cs)) (starting p (facts (node Script ss cs))) (node Script ss cs))
  written_script ss cs r c s w = let f = found Script ss cs refl r c s w in script_carried loads ss cs f (switch_good f.sure)

  -- exports name what names stand for, too
  pub exported_module : (ss : List Span) (cs : Forest) (B : Name → Bool) → IsResolved mark (node Module ss cs) → IsCore (node Module ss cs) → IsShaped (node Module ss cs) → IsParted (node Module ss cs)
      → Same mark loads (node Module ss cs) (node Module ss (reexported B (carried_last p (facts (node Module ss cs)) (node Module ss cs)).values (written_all p (facts (node Module ss cs)) (enter p (facts (node Module ss cs)) Module ss cs (starting p (facts (node Module ss cs)))) cs)))
  exported_module ss cs B r c s w =
      let t : Tree = node Module ss cs in
      let f = found Module ss cs refl r c s w in
      exported_same f.sure (rest_of f.sure (switch_good f.sure)) (valued t f) f.proper loads (starting p (facts t)) ss cs B (here_of t f (λ x. refl) (λ x. refl)) w.parted

pub propagated_same : (p : Pass) {mark : ℕ} (loads : Bool) (t : Tree) → IsWhole t → IsResolved mark t → IsCore t → Same mark loads t (propagated p t)
propagated_same constants loads _ (a_module {ss} {cs} s w) r c = exported_module constants loads ss cs (list_binds cs) r c s w
propagated_same constants loads _ (a_script {ss} {cs} s w) r c = written_script constants loads ss cs r c s w
propagated_same inlines loads _ (a_module {ss} {cs} s w) r c = written_module inlines loads ss cs r c s w
propagated_same inlines loads _ (a_script {ss} {cs} s w) r c = written_script inlines loads ss cs r c s w

-- views are whole
pub module_whole : (m : ModuleView) → IsWhole (module_tree m)
module_whole m = a_module (module_shaped m) (module_parted m)

pub script_whole : (s : ScriptView) → IsWhole (script_tree s)
script_whole s = a_script (script_shaped s) (script_parted s)

-- what becomes of reads of names that are declared with literals
pub propagated_early : (p : Pass) {mark : ℕ} (t : Tree) → IsWhole t → IsResolved mark t → IsCore t → (x : Name) → Stays p x t → 1 ≤ how_many (declares_literal p x) t → is_late p x (propagated p t) ≡ false
propagated_early p {mark} _ (a_module {ss} {cs} s w) r c x k h = module_early p (lex (node Module ss cs)) mark ss cs (found p false Module ss cs refl r c s w) x (literal_carried p Module ss cs refl s r c x k h) h
propagated_early p {mark} _ (a_script {ss} {cs} s w) r c x k h = script_early p (lex (node Script ss cs)) mark ss cs (found p false Script ss cs refl r c s w) x (literal_carried p Script ss cs refl s r c x k h) h
