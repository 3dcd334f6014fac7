-- What items say, by numbers.
use Rattle.std.proofs.Common.{◌≡◌, ◌≤◌, ◌-◌, ◌||◌, ◌++◌, IfSome, List, Option, None, length, take, drop, get_or, refl, sym, ap, ap₂, subst, ◌∙◌, arith}
use Rattle.std.proofs.lemmas.List.{length-append}
use Rattle.std.proofs.lemmas.Option.{IfSome_then}
use Rattle.stmt_like.specs.Kept.{IsIn, is_first, is_later}
use Rattle.swc_ast.specs.Modules.{item_tree}
use Rattle.swc_ast.specs.Parts.{list_trees}
use Rattle.swc_ast.specs.declared.modules.ModuleItem.{ModuleItem}
use Rattle.swc_ast.specs.Tree.{Label, Tree, Forest, label_of, children_of}
use Rattle.dce_uses.specs.declared.said.Said.{Said}
use Rattle.dce_uses.specs.declared.uses.Uses.{Uses}
use Rattle.dce_uses.specs.Exports.{is_nameless_export}
use Rattle.dce_uses.specs.Items.{IsUnused, NotesItem, NotesTree, item_says}
use Rattle.dce_uses.specs.Said.{AllSaid, AreNumbered, Grows, Register, Says, TakesBehind, register_of, rows_of, rows_say}
use Rattle.dce_uses.specs.Tables.{names_of}
use Rattle.dce_uses.proofs.Extending.{extends_as, extends_more, grows_itself, grows_more, put_behind, same_rows, still_within}
use Rattle.dce_uses.proofs.Items.{NotedSo, begins, item_past}
use Rattle.dce_uses.proofs.Retaining.{first_left}
use Rattle.dce_uses.proofs.Rows.{numbered_behind, rows_behind}
use Rattle.dce_uses.proofs.Told.{known}

-- where more stands behind what was known before

pub says_behind : (g h : Register) (s : Said) (t : Tree) → Says g s t → Grows g h → Says h s t
says_behind g h s t k e =
    let same = same_rows g h s e k.within in
    record {
      within = still_within g h s e k.within;
      numbers = subst (AreNumbered h.names) (sym same) (numbered_behind g.names h.names (rows_of g s) e.names k.numbers);
      facts = λ f x. ap (λ rs. rows_say h.names rs f x) same ∙ rows_behind g.names h.names (rows_of g s) f x e.names k.numbers ∙ k.facts f x;
      default = k.default;
    }

pub all_behind : {X : Type 0} (g h : Register) (item : X → ModuleItem) (tells : X → Option Said) (zs : List X) → AllSaid g item tells zs → Grows g h → AllSaid h item tells zs
all_behind g h item tells zs k e = λ x at. IfSome_then (tells x) (k x at) (λ s told. says_behind g h s (item_tree (item x)) told e)

-- of the items of a module nothing is known
pub untold : (g : Register) (xs : List ModuleItem) → AllSaid g (λ x. x) (λ _. None) xs
untold g xs x at = tt

-- an item is counted, and its rows are taken
pub item_said : (u v w : Uses) (s : Said) (t : Tree) (l : Label) (cs : Forest) → IsUnused u → label_of t ≡ l → children_of t ≡ cs → NotesItem u v l cs → TakesBehind v.table w.table v.rows.items w.rows.items → s.start ≡ length v.rows.items → s.end ≡ length w.rows.items → s.exports_default ≡ v.exports_default → Says (register_of w) s t
item_said u v w s t l cs none labelled held notes behind start end same =
    let takes = behind.takes in
    let rows = put_behind v.rows.items behind.more w.rows.items s.start s.end behind.is start end in
    record {
      within = record { ordered = omega (arith, start, end, ap (λ rs. length rs) behind.is, length-append v.rows.items behind.more); within = omega (arith, end) };
      numbers = subst (AreNumbered (names_of w)) (sym rows) (subst (λ ns. AreNumbered ns behind.more) (sym takes.names) takes.numbers);
      facts = λ f x.
          ap (λ rs. rows_say (names_of w) rs f x) rows ∙ ap (λ ns. rows_say ns behind.more f x) takes.names ∙ takes.facts f x ∙ known u.table v.table (item_says l cs) none.table notes.table f x
          ∙ sym (ap₂ (λ m ts. item_says m ts f x) labelled held);
      default = same ∙ notes.default ∙ ap (λ b. b || is_nameless_export l) none.default ∙ sym (ap is_nameless_export labelled);
    }

-- what was known stays, with more behind it
pub said_grows : (u v w : Uses) (l : Label) (cs : Forest) → NotesItem u v l cs → v.rows ≡ u.rows → TakesBehind v.table w.table v.rows.items w.rows.items → Grows (register_of u) (register_of w)
said_grows u v w l cs notes same behind = record {
  names = extends_more (names_of u) (names_of v) (names_of w) notes.table.names (extends_as (names_of v) (names_of w) behind.takes.names);
  rows = record { more = behind.more; is = behind.is ∙ ap (λ rs. rs.items ++ behind.more) same };
}

-- items, one after another

-- Some items were noted, and the others are left.
pub record TellsSo {X : Type 0} (item : X → ModuleItem) (tells : X → Option Said) (g : Register) (u : Uses) (left all : List X) : Type 0 where
  pub noted : NotedSo u (list_trees (λ x. item_tree (item x)) left) (list_trees (λ x. item_tree (item x)) all)
  pub grows : Grows g (register_of u)
  pub said : AllSaid (register_of u) item tells left

pub tell_begins : {X : Type 0} (item : X → ModuleItem) (tells : X → Option Said) (u v : Uses) (all : List X) → IsUnused v → register_of v ≡ register_of u → AllSaid (register_of u) item tells all → TellsSo item tells (register_of v) v all all
tell_begins item tells u v all none same h = record {
  noted = begins v (list_trees (λ x. item_tree (item x)) all) none;
  grows = grows_itself (register_of v);
  said = subst (λ g. AllSaid g item tells all) (sym same) h;
}

-- the first of what is left
pub first_said : {X : Type 0} (item : X → ModuleItem) (tells : X → Option Said) (g : Register) (left : List X) (x : X) → 1 ≤ length left → x ≡ get_or left 0 x → AllSaid g item tells left → IfSome (tells x) (λ s. Says g s (item_tree (item x)))
first_said item tells g left x some is h = h x (subst (IsIn x) (sym (first_left left x some is)) is_first)

-- an item is noted, of which nothing new is known
noted_grows : (u v : Uses) (t : Tree) → NotesTree u v t → v.rows ≡ u.rows → Grows (register_of u) (register_of v)
noted_grows u v t notes same = record { names = notes.table.names; rows = extends_as u.rows.items v.rows.items (ap (λ rs. rs.items) same) }

pub tell_goes_on : {X : Type 0} (item : X → ModuleItem) (tells : X → Option Said) (g : Register) (u v : Uses) (left all : List X) (x : X) → 1 ≤ length left → x ≡ get_or left 0 x → NotesTree u v (item_tree (item x)) → v.rows ≡ u.rows → TellsSo item tells g u left all → TellsSo item tells g v (take (length left - 1) (drop 1 left)) all
tell_goes_on item tells g u v left all x some is notes same h =
    let rest = take (length left - 1) (drop 1 left) in
    let t = item_tree (item x) in
    let more = noted_grows u v t notes same in
    record {
      noted = item_past item u v left x (list_trees (λ y. item_tree (item y)) all) (label_of t) (children_of t) some is refl refl notes h.noted;
      grows = grows_more g (register_of u) (register_of v) h.grows more;
      said = all_behind (register_of u) (register_of v) item tells rest (λ y at. h.said y (subst (IsIn y) (sym (first_left left x some is)) (is_later at))) more;
    }
