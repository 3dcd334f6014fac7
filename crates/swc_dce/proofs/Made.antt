-- What is known of a module is made of the configuration and the module, and so a walk's answer is one of the shaker's.
use Rattle.std.proofs.Common.{◌≡◌, Bool, not, ◌&&◌, ◌||◌, sym, ap, subst, ◌∙◌}
use Rattle.std.specs.Prelude.{map, string_bytes}
use Rattle.swc_ast.specs.Marks.{mark_number}
use Rattle.swc_ast.specs.Modules.{module_tree, script_tree}
use Rattle.swc_ast.specs.Reach.{named_outside}
use Rattle.swc_ast.specs.Run.{has_text}
use Rattle.swc_ast.specs.Tree.{Text, Name, Tree}
use Rattle.swc_ast.specs.declared.modules.Module.{Module}
use Rattle.swc_ast.specs.declared.modules.Script.{Script}
use Rattle.swc_ast.specs.declared.names.Mark.{Mark}
use Rattle.static_proofs.proofs.ShapedViews.{module_shaped, script_shaped}
use Rattle.swc_utils.specs.Globals.{unresolved}
use Rattle.tree_walk.specs.Walks.{Whole}
use Rattle.dce_rules.specs.Shakes.{Shaker, shake_pass}
use Rattle.dce_rules.specs.Uses.{declared_in, read_outside, is_used_unnamed, free_to_go}
use Rattle.dce_uses.specs.Tables.{Tells}
use Rattle.dce_uses.specs.declared.uses.Uses.{Uses}
use Rattle.dce_code.specs.Knowledge.{shaker}
use Rattle.dce_code.specs.declared.known.Known.{Known}
use Rattle.dce_code.proofs.Knowing.{free_is, all_go, unread_is, unread_bound}
use Rattle.swc_dce.specs.Configured.{told}
use Rattle.swc_dce.specs.Shaken.{Told, MadeFor, Shaken}
use Rattle.swc_dce.specs.declared.config.Config.{Config}
use Rattle.swc_dce.proofs.ShakeLaw.{shaken}

module _ (k : Known) (mark : Mark) (c : Config) (u : Uses) (uses : k.uses.now ≡ u) (marked : unresolved k.ctx ≡ mark_number mark) (kept : (t : Text) → has_text t k.retained ≡ has_text t (map string_bytes c.top_retain.items)) (top : k.top_level ≡ c.top_level) (drops : k.drops_imports ≡ not c.preserve_imports_with_side_effects) where
  -- names that may go are told by texts that are the same
  may_go : (t : Tree) (x : Name) → free_to_go k.retained t x ≡ free_to_go (map string_bytes c.top_retain.items) t x
  may_go t x = ap (λ b. not (b || (named_outside x t || is_used_unnamed x t))) (kept x.text)

  pub made : (t : Tree) → Tells u t → MadeFor (told mark c) (shaker k) t
  made t tells =
      let tells' = subst (λ v. Tells v t) (sym uses) tells in
      record {
        marked = marked;
        imports = drops;
        knows = record {
          free_are = λ x h. sym (may_go t x) ∙ free_is k t tells' x h;
          unread_are = λ x h. ap (λ b. declared_in x t && not (b || (read_outside x t || is_used_unnamed x t))) (sym (kept x.text)) ∙ unread_is k t tells' x h;
          unread_bound = unread_bound k;
        };
        all_go = λ e x h. all_go k t tells' (top ∙ e) x ∙ may_go t x ∙ h;
      }

-- a walk by such rules
pub shaken_module : (told : Told) (S : Shaker) (u : Uses) (m r : Module) (b : Bool) → ((t : Tree) → Tells u t → MadeFor told S t) → Tells u (module_tree m) → Whole (shake_pass S) b (module_tree m) (module_tree r) → Shaken told (module_tree m) (module_tree r)
shaken_module told S u m r b made tells w = shaken told S b (module_tree m) (module_tree r) (made (module_tree m) tells) (module_shaped m) w

pub shaken_script : (told : Told) (S : Shaker) (u : Uses) (m r : Script) (b : Bool) → ((t : Tree) → Tells u t → MadeFor told S t) → Tells u (script_tree m) → Whole (shake_pass S) b (script_tree m) (script_tree r) → Shaken told (script_tree m) (script_tree r)
shaken_script told S u m r b made tells w = shaken told S b (script_tree m) (script_tree r) (made (script_tree m) tells) (script_shaped m) w
