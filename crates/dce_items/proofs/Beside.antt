-- Layers of a body's items beside those of the module's other items.
use Rattle.std.proofs.Common.{ℕ, zero, suc, ◌+◌, ◌-◌, ◌≡◌, ◌<◌, ◌≤◌, Bool, true, false, if◌then◌else◌, List, [], ◌∷◌, ◌++◌, Option, Some, IfSome, Vec, Global, All, length, take, drop, nat_lt, refl, sym, ap, ap₂, subst, ◌∙◌, arith}
use Rattle.std.proofs.lemmas.Bool.{false≢true, ltb-false}
use Rattle.swc_ast.specs.declared.Span.{Span}
use Rattle.swc_ast.specs.declared.declarations.Decl.TheOpen as Open
use Rattle.swc_ast.specs.declared.declarations.Decl.TheViews.{out-Stmt, roll-out-Stmt}
use Rattle.swc_ast.specs.declared.statements.Stmt.{Stmt}
use Rattle.swc_ast.specs.declared.modules.Module.{Module}
use Rattle.swc_ast.specs.Modules.{item_tree}
use Rattle.swc_ast.specs.Parts.{list_trees}
use Rattle.swc_ast.specs.Run.{exported, has_text}
use Rattle.swc_ast.specs.Scope.{joined}
use Rattle.swc_ast.specs.Tree.{Text, Name, ExportDecl, ExportNamed, ExportDefaultFn, ExportDefaultExpr, Tree, node, Forest, ε, ◌⊳◌, label_of}
use Rattle.swc_ast.specs.Views.{stmt_tree}
use Rattle.swc_ast.proofs.ApartStatements.{StmtForm, stmt_form, stmt_number, stmt_at}
use Rattle.tree_visit.specs.declared.node.Node.{Node}
use Rattle.tree_visit.specs.Nodes.{node_tree}
use Rattle.dce_rules.specs.Uses.{any_eval}
use Rattle.dce_peel.specs.declared.item.Item.{Item}
use Rattle.dce_peel.specs.Rounds as rounds
use Rattle.dce_peel.specs.Rounds.{AreLayers, Fits}
use Rattle.dce_layer_proofs.specs.Frames.{Wrapper, wrapper}
use Rattle.dce_layer_proofs.specs.Layers.{Layers, items, top, AllPlaced, AllStay, has_layer}
use Rattle.dce_items.specs.declared.inside.Inside.{Inside}
use Rattle.dce_items.specs.Described.{AllDescribed, layered, IsLayered}
use Rattle.dce_items.specs.Wrapped.{WrapperAt, LayeredInside}
use Rattle.dce_items.proofs.Laying.{whole, top_as, all_placed, reaches, retold}

-- statements export nothing

numbered : (o : StmtForm) → 1 ≤ stmt_number o
numbered (Open.Block n) = omega arith
numbered _ = omega arith

stmt_formed : (s : Stmt) → 1 ≤ stmt_form (label_of (stmt_tree s))
stmt_formed s = subst (λ x. 1 ≤ stmt_form (label_of (stmt_tree x))) (roll-out-Stmt s) (subst (λ n. 1 ≤ n) (sym (stmt_at (out-Stmt s))) (numbered (out-Stmt s)))

formed_exports : (t : Tree) (ts : Forest) → 1 ≤ stmt_form (label_of t) → exported (t ⊳ ts) ≡ exported ts
formed_exports (node ExportDecl ss cs) ts h = absurd (omega (arith, h))
formed_exports (node ExportNamed ss cs) ts h = absurd (omega (arith, h))
formed_exports (node (ExportDefaultFn o) ss cs) ts h = absurd (omega (arith, h))
formed_exports (node ExportDefaultExpr ss cs) ts h = absurd (omega (arith, h))
formed_exports (node l ss cs) ts h = refl

pub none_exported : (xs : List Stmt) → exported (list_trees stmt_tree xs) ≡ []
none_exported [] = refl
none_exported (x ∷ xs) = formed_exports (stmt_tree x) (list_trees stmt_tree xs) (stmt_formed x) ∙ none_exported xs

-- how many trees there are
abbrev pub count : Forest → ℕ
count ε = 0
count (t ⊳ ts) = suc (count ts)

count_joined : (ts us : Forest) → count (joined ts us) ≡ count ts + count us
count_joined ε us = omega arith
count_joined (t ⊳ ts) us = let k = count_joined ts us in omega (arith, k)

count_list : {X : Type 0} (f : X → Tree) (xs : List X) → count (list_trees f xs) ≡ length xs
count_list f [] = refl
count_list f (x ∷ xs) = ap suc (count_list f xs)

-- of a list with one item left out
beside_length : {X : Type 0} (xs : List X) (i : ℕ) → i < length xs → length (take i xs) + length (drop (suc i) xs) ≡ length xs - 1
beside_length [] i h = absurd (omega (arith, h))
beside_length (x ∷ xs) zero h = omega arith
beside_length (x ∷ xs) (suc i) h = let k = beside_length xs i (omega (arith, h)) in omega (arith, k, h)

pub count_beside : {X : Type 0} (f : X → Tree) (xs : List X) (i n : ℕ) → i < length xs → n ≡ length xs - 1 → count (joined (list_trees f (take i xs)) (list_trees f (drop (i + 1) xs))) ≡ n
count_beside f xs i n h is = count_joined (list_trees f (take i xs)) (list_trees f (drop (i + 1) xs)) ∙ ap₂ (λ a b. a + b) (count_list f (take i xs)) (count_list f (drop (i + 1) xs) ∙ ap (λ k. length (drop k xs)) (sym (next i))) ∙ beside_length xs i h ∙ sym is
  where
    next : (k : ℕ) → suc k ≡ k + 1
    next k = omega arith

some_none : (t : Tree) (ts : Forest) → ε ≡ (t ⊳ ts) → ⊥
some_none t ts e = false≢true (ap is_some e)
  where
    is_some : Forest → Bool
    is_some ε = false
    is_some (u ⊳ us) = true

abbrev behind : Forest → Forest
behind ε = ε
behind (t ⊳ ts) = ts

-- layers of two lists in a row, where each item has one
pub record Parted (ts us : Forest) (rs : List ℕ) : Type 0 where
  pub is : layered (joined ts us) rs ≡ layered ts (take (count ts) rs) ++ layered us (drop (count ts) rs)
  pub front : items (layered ts (take (count ts) rs)) ≡ ts
  pub back : items (layered us (drop (count ts) rs)) ≡ us

parted : (ts us : Forest) (rs : List ℕ) → items (layered (joined ts us) rs) ≡ joined ts us → Parted ts us rs
parted ε us rs h = record { is = refl; front = refl; back = h }
parted (t ⊳ ts) us [] h = absurd (some_none t (joined ts us) h)
parted (t ⊳ ts) us (r ∷ rs) h = let p = parted ts us rs (ap behind h) in record { is = ap (λ ps. (t, r) ∷ ps) p.is; front = ap (λ vs. t ⊳ vs) p.front; back = p.back }

-- the layers of those in front are greater than a number
stays_beside : (ends : ℕ) (ts : Forest) (rs : List ℕ) → All (λ r. ends < r) rs → AllStay ends (layered ts rs)
stays_beside ends ε rs h = tt
stays_beside ends (t ⊳ ts) [] h = tt
stays_beside ends (t ⊳ ts) (r ∷ rs) h = (h 0 0 (omega arith), stays_beside ends ts rs (λ k d l. h (suc k) d (omega (arith, l))))

-- then one that has that number is behind them
reaches_behind : (ends : ℕ) (os ps : Layers) → AllStay ends os → has_layer ends (os ++ ps) ≡ true → has_layer ends ps ≡ true
reaches_behind ends [] ps h e = e
reaches_behind ends (o ∷ os) ps h e = by (λ k. reaches_behind ends os ps h.1 k) (nat_lt o.1 ends) refl (nat_lt ends o.1) refl e
  where
    by : (has_layer ends (os ++ ps) ≡ true → has_layer ends ps ≡ true) → (a : Bool) → nat_lt o.1 ends ≡ a → (b : Bool) → nat_lt ends o.1 ≡ b → (if a then has_layer ends (os ++ ps) else (if b then has_layer ends (os ++ ps) else true)) ≡ true → has_layer ends ps ≡ true
    by rest true f b g k = rest k
    by rest false f true g k = rest k
    by rest false f false g k = absurd (omega (arith, h.0, ltb-false ends o.1 g))

-- layers that are right by numbers, of the other items and those of the body, are right in the wrapper
pub laid_beside : (mark : ℕ) (retained : List Text) (names : List Name) (ss : List Span) (before behind : Forest) (w : Wrapper) (ts : Forest) (is : List Item) (ends n : ℕ) (rs : List ℕ) → 0 < ends → AllDescribed mark retained names (joined (joined before behind) ts) is → AreLayers is ends rs → count (joined before behind) ≡ n → All (λ r. ends < r) (take n rs) → any_eval ts ≡ false → exported ts ≡ [] → IsLayered mark retained ends (wrapper ss before w behind) ts (drop n rs)
laid_beside mark retained names ss before behind w ts is ends n rs some d l counted stay quiet bare =
    let os = joined before behind in
    let us = joined os ts in
    let all = layered us rs in
    let p = parted os ts rs (whole mark retained names (Fits (rounds.top is rs) ends) us is rs d l.fit) in
    let front : take (count os) rs ≡ take n rs = ap (λ m. take m rs) counted in
    let back : drop (count os) rs ≡ drop n rs = ap (λ m. drop m rs) counted in
    let parts : all ≡ layered os (take n rs) ++ layered ts (drop n rs) = p.is ∙ ap₂ (λ a b. layered os a ++ layered ts b) front back in
    let stays = stays_beside ends os (take n rs) stay in
    let here : items (layered ts (drop n rs)) ≡ ts = sym (ap (λ a. items (layered ts a)) back) ∙ p.back in
    record {
      whole = here;
      others = layered os (take n rs);
      peels = record {
        outside = sym (ap (λ a. items (layered os a)) front) ∙ p.front;
        fits = (ap any_eval here ∙ quiet, ap exported here ∙ bare);
        stay = stays;
        placed = subst (λ (ps : Layers). AllPlaced mark retained ps ends ps) parts (all_placed mark retained names all (rounds.top is rs) (λ x m q. top_as mark retained names x m us is rs q d) ends us is rs (λ x. omega arith) d l.fit);
        reaches = reaches_behind ends (layered os (take n rs)) (layered ts (drop n rs)) stays (sym (ap (has_layer ends) parts) ∙ reaches mark retained names (Fits (rounds.top is rs) ends) ends us is rs d l.fit (l.reaches some));
      };
    }

-- what describes nodes, by what the code finds
pub described_nodes : (mark : ℕ) (told : List Text) (names : List Name) (o : Option (Vec Item Global)) (v : Vec Item Global) (xs ys : List Node) → o ≡ Some v → xs ≡ ys → IfSome o (λ w. AllDescribed mark told names (list_trees node_tree xs) w.items) → AllDescribed mark told names (list_trees node_tree ys) v.items
described_nodes mark told names o v xs ys is same h = subst (λ (ns : List Node). AllDescribed mark told names (list_trees node_tree ns) v.items) same (subst (λ p. IfSome p (λ w. AllDescribed mark told names (list_trees node_tree xs) w.items)) is h)

-- the same by what the code finds
pub laid_inside : (mark : ℕ) (told retained : List Text) (names : List Name) (m : Module) (i : Inside) (n : ℕ) (ts us : Forest) (is : List Item) (all : List ℕ) → ((t : Text) → has_text t told ≡ has_text t retained) → WrapperAt m.body.items i.at ts → n ≡ length m.body.items - 1 → us ≡ joined (joined (list_trees item_tree (take i.at m.body.items)) (list_trees item_tree (drop (i.at + 1) m.body.items))) ts → AllDescribed mark told names us is → AreLayers is i.rounds all → 0 < i.rounds → All (λ r. i.rounds < r) (take n all) → any_eval ts ≡ false → exported ts ≡ [] → i.layers.items ≡ drop n all → LayeredInside mark retained m i
laid_inside mark told retained names m i n ts us is all kept stands counted whole_is d l some stay quiet bare rest =
    let before = list_trees item_tree (take i.at m.body.items) in
    let after = list_trees item_tree (drop (i.at + 1) m.body.items) in
    record {
      body = ts;
      stands = stands;
      some = some;
      layered = subst (λ (rs : List ℕ). IsLayered mark retained i.rounds (wrapper (m.span ∷ []) before stands.is.parts after) ts rs) (sym rest)
          (laid_beside mark retained names (m.span ∷ []) before after stands.is.parts ts is i.rounds n all some
          (subst (λ (vs : Forest). AllDescribed mark retained names vs is) whole_is (retold told retained kept mark names us is d)) l (count_beside item_tree m.body.items i.at n stands.there counted) stay quiet bare);
    }
