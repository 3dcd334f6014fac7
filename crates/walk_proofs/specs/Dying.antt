-- A pass that takes away what no run comes to, behind a statement that never ends normally or in a case of a `switch`: declarations
-- of `let` and `const` go there with their names, which nothing ever finds initialised.
use Rattle.std.specs.Prelude.{ℕ, ◌≡◌, Bool, true, false, List, [], ◌++◌}
use Rattle.swc_ast.specs.declared.Span.{Span}
use Rattle.swc_ast.specs.declared.VarDeclKind.{VarDeclKind}
use Rattle.swc_ast.specs.Meaning.{eval}
use Rattle.swc_ast.specs.Tree.{Name, Label, VarDecl, CaseBody, Switch, Tree, node, Forest, ε, ◌⊳◌}
use Rattle.swc_ast.specs.Scope.{has_name, declarator_names}
use Rattle.swc_ast.specs.Value.{Value, is_data, State, Done, Context}
use Rattle.meaning_proofs.specs.Exact.{run_at, ListExact, Stops, cases_at}
use Rattle.meaning_proofs.specs.Roles.{module_items, SameLists}
use Rattle.meaning_proofs.specs.Walks.{dead_names}
use Rattle.static_proofs.specs.Shaped.{is_lexical, is_declarator_of, labels_of, all_labels}
use Rattle.static_proofs.specs.Together.{is_module}
use Rattle.tree_walk.specs.Pass.{Pass, walks_each}
use Rattle.walk_proofs.specs.Plain.{NodeRight}

-- Items of a list that go, and their names: declarations of `let` and `const` behind an item that never ends normally. The truth
-- value says whether such an item stands in front.
pub data Sheds (mark : ℕ) : Bool → Forest → Forest → List Name → Type 0 where
  sheds_none : {b : Bool} → Sheds mark b ε ε []
  item_stays : {b : Bool} {t : Tree} {ts us : Forest} {xs : List Name} → Sheds mark b ts us xs → Sheds mark b (t ⊳ ts) (t ⊳ us) xs
  item_stops : {b : Bool} {t : Tree} {ts us : Forest} {xs : List Name} → Stops mark t → Sheds mark true ts us xs → Sheds mark b (t ⊳ ts) (t ⊳ us) xs
  item_goes : {k : VarDeclKind} {ss : List Span} {d : Tree} {ds ts us : Forest} {xs : List Name} → is_lexical k ≡ true → all_labels (is_declarator_of k) (labels_of (d ⊳ ds)) ≡ true → Sheds mark true ts us xs → Sheds mark true (node (VarDecl k) ss (d ⊳ ds) ⊳ ts) us (declarator_names (d ⊳ ds) ++ xs)

-- What a list becomes: some declarations go, and what takes the place of the rest does the same, and declares the same but for
-- the names that went.
pub record ListRight (mark : ℕ) (l : Label) (ts vs : Forest) : Type 0 where
  pub names : List Name
  pub between : Forest
  pub sheds : Sheds mark false ts between names
  pub exact : ListExact mark between vs
  pub declares : SameLists (dead_names (λ x. has_name x names)) between vs
  pub items : is_module l ≡ true → module_items between ≡ module_items vs

-- Tests and lists of cases, of which some lists lose declarations as what stands behind an item that never ends normally does,
-- and the names of these.
pub data CasesShed (mark : ℕ) : Forest → Forest → List Name → Type 0 where
  no_tree : CasesShed mark ε ε []
  tree_stays : {t : Tree} {cs us : Forest} {xs : List Name} → CasesShed mark cs us xs → CasesShed mark (t ⊳ cs) (t ⊳ us) xs
  body_sheds : {ss : List Span} {ts vs cs us : Forest} {xs ys : List Name} → Sheds mark true ts vs xs → CasesShed mark cs us ys → CasesShed mark (node CaseBody ss ts ⊳ cs) (node CaseBody ss vs ⊳ us) (xs ++ ys)

-- a leaf that gives a value in each run, as a literal does
pub data Gives (mark : ℕ) (v : Value) : Tree → Type 0 where
  leaf_gives : (l : Label) {ss : List Span} → walks_each l ≡ true → is_data v ≡ true → ((n d : ℕ) (c : Context) (s : State) → run_at (eval mark) n d (node l ss ε) c s ≡ Done v s) → Gives mark v (node l ss ε)

-- What a node becomes in front of its children: a `switch` loses such declarations in lists that are not run for the value which
-- its discriminant gives.
pub data OpenRight (mark : ℕ) : Tree → Tree → Type 0 where
  cases_shed : {ds : List Bool} {ss : List Span} {t : Tree} {cs us : Forest} {xs : List Name} (v : Value) → Gives mark v t → CasesShed mark cs us xs → ((n d : ℕ) (c : Context) (s : State) → cases_at (eval mark) n d ds cs v c s ≡ cases_at (eval mark) n d ds us v c s) → OpenRight mark (node (Switch ds) ss (t ⊳ cs)) (node (Switch ds) ss (t ⊳ us))

-- each step of a pass does the same and declares the same, but for names that go where no run comes
pub record DyingRight (X : Pass) (mark : ℕ) : Type 0 where
  pub open_right : (t u : Tree) → X.opens t u → OpenRight mark t u
  pub node_right : (t u : Tree) → X.steps t u → NodeRight mark t u
  pub list_right : (l : Label) (ts vs : Forest) → X.tidies l ts vs → ListRight mark l ts vs
