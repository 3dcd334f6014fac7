-- A walk by steps that do the same and declare the same keeps what a module or a script does.
use Rattle.std.proofs.Common.{◌≡◌, ℕ, Bool, false, refl}
use Rattle.swc_ast.specs.Tree.{Module, Tree, Forest, ε, ◌⊳◌, label_of}
use Rattle.swc_ast.specs.Run.{Same}
use Rattle.meaning_proofs.specs.Exact.{Exact, ListExact}
use Rattle.meaning_proofs.specs.Names.{Names}
use Rattle.meaning_proofs.specs.Roles.{is_item, Fits, unchanged, changed, SameLists}
use Rattle.meaning_proofs.specs.Walks.{no_names, StepsRight}
use Rattle.meaning_proofs.proofs.Laws.{exact_itself, list_exact_itself, same_lists_itself, exact_trims, list_exact_trims}
use Rattle.meaning_proofs.proofs.Imports.{part_imports_none}
use Rattle.meaning_proofs.proofs.Spans.{living_clean, no_dead, none_dead}
use Rattle.tree_walk.specs.Pass.{Pass}
use Rattle.tree_walk.specs.Walks.{Whole}
use Rattle.walk_proofs.specs.Meant.{Sifts, sifted, stays_there, Meant, NodeStep, sifts_then, items_then, alone, of_default}
use Rattle.walk_proofs.specs.Plain.{NodeRight, does_same, default_goes, PlainRight, Moves, unmoved, moved, ListMoves, unmoved_list, moved_list, plain_steps}
use Rattle.walk_proofs.proofs.Meant.{plain_same, unused_idle, unused_declares}

sifts_itself : (G : Tree → Type 0) (ts : Forest) → Sifts G ts ts
sifts_itself G ε = sifted
sifts_itself G (t ⊳ ts) = stays_there (sifts_itself G ts)

-- where a node that is no import and no export may stand, none does
no_item_of : {N : Names} {t u : Tree} → Fits N t u → is_item (label_of t) ≡ false → is_item (label_of u) ≡ false
no_item_of unchanged i = i
no_item_of {u = u} (changed p q s) i = part_imports_none (label_of u) q

right_step : (X : Pass) {mark : ℕ} {t u : Tree} → NodeRight mark t u → NodeStep no_names mark (plain_steps mark X) t u
right_step X (does_same e f i) = alone i (no_item_of f i) (moved (e, f))
right_step X (default_goes y) = of_default y

plain_meant : {X : Pass} {mark : ℕ} → PlainRight X mark → (loads : Bool) → Meant X no_names mark loads (plain_steps mark X)
plain_meant {X} {mark} p loads = record {
  open_step = λ t u s. s;
  open_no_item = λ t u s. no_item_of (p.open_fits t u s) (p.open_no_item t u s);
  open_clean = λ t u s k. living_clean (none_dead mark) u (no_dead u);
  node_step = λ t u s. right_step X (p.node_right t u s);
  list_step = λ l ts us i s. sifts_then (sifts_itself (λ t. ⊥) ts) (moved_list l s);
  items_step = λ ts us s. items_then (sifts_itself _ ts) (moved_list Module s) (p.items_stay ts us s);
  unused_goes = λ t u. u;
  node_stays = λ t. unmoved;
  list_stays = λ ts. unmoved_list;
  before_stays = λ ts. unmoved_list;
}

plain_steps_right : {X : Pass} {mark : ℕ} → PlainRight X mark → StepsRight no_names mark (plain_steps mark X)
plain_steps_right {X} {mark} p = record {
  firm = λ x. refl;
  early_trims = λ t u s. exact_trims (p.open_exact t u s);
  early_fits = p.open_fits;
  node_exact = λ t u f. exact f;
  node_fits = λ t u f. fit f;
  before_trims = λ ts us f. list_exact_trims (before f);
  before_declares = λ ts us f. before_declares f;
  behind_exact = λ ts us f. list f;
  behind_declares = λ ts us f. declares f;
  goes_idle = λ t u. unused_idle mark u;
  goes_declares = λ t u. unused_declares u;
  goes_behind_idle = λ t e. elim e [ ];
  goes_behind_declares = λ t e. elim e [ ];
  goes_behind_no_item = λ t e. elim e [ ];
}
  where
    exact : {t u : Tree} → Moves (λ t u. Exact mark t u × Fits no_names t u) t u → Exact mark t u
    exact {t} unmoved = exact_itself mark t
    exact (moved s) = s.0

    fit : {t u : Tree} → Moves (λ t u. Exact mark t u × Fits no_names t u) t u → Fits no_names t u
    fit unmoved = unchanged
    fit (moved s) = s.1

    before : {ts us : Forest} → ListMoves (λ l ts us. ⊥) ts us → ListExact mark ts us
    before {ts} unmoved_list = list_exact_itself mark ts
    before (moved_list l e) = absurd e

    before_declares : {ts us : Forest} → ListMoves (λ l ts us. ⊥) ts us → SameLists no_names ts us
    before_declares {ts} unmoved_list = same_lists_itself ts
    before_declares (moved_list l e) = absurd e

    list : {ts us : Forest} → ListMoves X.tidies ts us → ListExact mark ts us
    list {ts} unmoved_list = list_exact_itself mark ts
    list {ts} {us} (moved_list l s) = p.list_exact l ts us s

    declares : {ts us : Forest} → ListMoves X.tidies ts us → SameLists no_names ts us
    declares {ts} unmoved_list = same_lists_itself ts
    declares {ts} {us} (moved_list l s) = p.list_declares l ts us s

pub right_same : {X : Pass} {mark : ℕ} → PlainRight X mark → (loads : Bool) {c : Bool} {t u : Tree} → Whole X c t u → Same mark loads t u
right_same p loads w = plain_same loads (plain_meant p loads) (plain_steps_right p) w
