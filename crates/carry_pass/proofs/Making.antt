-- What is made of a module or a script is what is propagated in it, up to spans.
use Rattle.std.proofs.Common.{◌≡◌, Bool, [], sym, ap, ◌∙◌, subst, map}
use Rattle.swc_ast.specs.declared.modules.Module.{Module}
use Rattle.swc_ast.specs.Modules.{item_tree, module_tree}
use Rattle.swc_ast.specs.Parts.{list_trees}
use Rattle.swc_ast.specs.Scope.{list_binds}
use Rattle.swc_ast.specs.Tree as tree
use Rattle.swc_ast.specs.Tree.{Name, Label, Tree, node, Forest, bare, bares}
use Rattle.link_proofs.specs.Links.{Put}
use Rattle.carry_rules.specs.Carry.{Pass, constants, inlines, facts, starting, enter, after, written, written_all, reexported, propagated}
use Rattle.carry_proofs.specs.Laws.{IsWhole, a_module, a_script}
use Rattle.carry_proofs.specs.Propagation.{Propagates}
use Rattle.carry_proofs.proofs.Answered.{answered}
use Rattle.carry_proofs.proofs.Reexported.{reexported_bare}
use Rattle.swc_pass.specs.Chain.{GivesBack, input, other}
use Rattle.carry_parts.specs.Carries.{puts_of}
use Rattle.carry_puts.specs.Values.{IsPut}
use Rattle.carry_reads.specs.Readings.{Tells, value_of}
use Rattle.carry_reads.specs.declared.reading.Reading.{Reading}
use Rattle.carry_pass.specs.Made.{exported}

label_is : {l m : Label} {cs ds : Forest} → node l [] cs ≡ node m [] ds → l ≡ m
label_is e = cc

children_are : {l m : Label} {cs ds : Forest} → node l [] cs ≡ node m [] ds → cs ≡ ds
children_are e = cc

-- what is written in a tree
abbrev written_in : Pass → Tree → Tree
written_in p t = written p (facts t) (starting p (facts t)) t

-- what is carried of names at its end
abbrev values_in : Pass → Tree → Name → Put
values_in p t = (after p (facts t) (starting p (facts t)) t).values

made_is : (p : Pass) (t u v : Tree) (V : Name → Put) → IsWhole t → bare u ≡ bare (written_in p t) → ((x : Name) → V x ≡ values_in p t x) → bare (exported p V t u) ≡ bare v → bare v ≡ bare (propagated p t)
made_is inlines t u v V w put same ex = sym ex ∙ put
made_is constants _ u v V (a_script {ss} {cs} s k) put same ex = sym ex ∙ put
made_is constants _ (node m rs ds) v V (a_module {ss} {cs} s k) put same ex =
    let t : Tree = node tree.Module ss cs in
    let ws : Forest = written_all constants (facts t) (enter constants (facts t) tree.Module ss cs (starting constants (facts t))) cs in
    let named : bare (exported constants V t (node tree.Module rs ds)) ≡ bare v = subst (λ l. bare (exported constants V t (node l rs ds)) ≡ bare v) (label_is put) ex in
    sym named ∙ ap (λ us. node tree.Module [] us) (reexported_bare (list_binds cs) V ds ws (children_are put) ∙ (λ i. bares (reexported (list_binds cs) (λ x. same x i) ws)))

-- what is put at the reads of a copy, and exports that name what names stand for, are an answer
pub made : (p : Pass) (t s u v : Tree) (r : Reading) → IsWhole t → Tells p r t → s ≡ t → IsPut p (map puts_of r.reads.items) s u → bare (exported p (value_of r) t u) ≡ bare v → Propagates p t v
made p t s u v r w tells same put ex = answered p t v w (made_is p t u v (value_of r) w (subst (λ k. IsPut p (map puts_of r.reads.items) k u) same put tells.reads) tells.values ex)

-- so is the input where it is equal to that up to spans
pub settled : {p : Pass} {t u v : Tree} → GivesBack t u v → Propagates p t u → Propagates p t v
settled {p} {t} (input e) a = answered p t t a.whole (sym e ∙ a.is)
settled (other e) a = a

-- exports of a module that name what names stand for
pub module_exported : {p : Pass} (m n : Module) (B : Name → Bool) {V W : Name → Put} {us : Forest} → p ≡ constants → ((x : Name) → B x ≡ list_binds (list_trees item_tree m.body.items) x) → V ≡ W → bares (reexported B V (list_trees item_tree n.body.items)) ≡ us → bare (exported p W (module_tree m) (module_tree n)) ≡ node tree.Module [] us
module_exported m n B {V} {W} is binds same h = ap (λ q. bare (exported q W (module_tree m) (module_tree n))) is ∙ ap (λ vs. node tree.Module [] vs) ((λ i. bares (reexported (λ x. sym (binds x) i) (sym same i) (list_trees item_tree n.body.items))) ∙ h)
