-- A list that is tidied: first the declarations of `let` and `const` go that stand behind what never ends normally, with their
-- names. What is left is swept and cut to the same list, which does the same and declares the same but for those names.
use Rattle.std.proofs.Common.{◌≡◌, ℕ, Bool, true, false, ◌||◌, if◌then◌else◌, List, [], ◌++◌, refl, sym, ap, subst, ◌∙◌}
use Rattle.std.proofs.lemmas.Bool.{and_parts, false≢true}
use Rattle.swc_ast.specs.declared.Span.{Span}
use Rattle.swc_ast.specs.declared.VarDeclKind.TheVariants.{Var, Let, Const}
use Rattle.swc_ast.specs.Tree.{Name, Label, Empty, Block, VarDecl, Import, ExportDecl, ExportNamed, ExportDefaultFn, ExportDefaultExpr, Tree, node, Forest, ε, ◌⊳◌}
use Rattle.swc_ast.specs.Scope.{has_name, joined}
use Rattle.swc_ast.specs.Weight.{is_stopper, stays_behind}
use Rattle.meaning_proofs.specs.Roles.{is_item, module_items}
use Rattle.meaning_proofs.proofs.DeadCode.{HasEnd, ends_here, ends_later, ends_block, ends_stops}
use Rattle.meaning_proofs.proofs.Laws.{same_lists_trans}
use Rattle.walk_proofs.specs.Dying as dying
use Rattle.walk_proofs.specs.Dying.{Sheds, sheds_none, item_stops, ListRight, DyingRight}
use Rattle.branch_rules.specs.Lists.{is_bare, all_bare, Swept, none_swept, item_stays, empty_goes, block_opens, staying, Cut, uncut, past_item, cut_at, is_statement, all_statements, Tidied}
use Rattle.branch_rules.specs.Removes.{remove_pass}
use Rattle.branch_rules.specs.Switches.{is_shed, unlet}
use Rattle.branch_rules.specs.Vars.{Declares, none_declared, some_declared}
use Rattle.branch_proofs.proofs.Becomes.{becomes_trans, becomes_list}
use Rattle.branch_proofs.proofs.ListsExact.{swept_becomes}
use Rattle.branch_proofs.proofs.ShedNames.{shed_names, let_names, cut_names, cut_same}
use Rattle.branch_proofs.proofs.Shedding.{cut_between, cut_exact}
use Rattle.branch_proofs.proofs.ShedRuns.{shed_right}
use Rattle.branch_proofs.proofs.Steps.{removes_right}
use Rattle.branch_proofs.proofs.Stoppers.{stopper_ends}
use Rattle.branch_proofs.proofs.SweptSame.{swept_same}
use Rattle.branch_proofs.proofs.TidiedOwe.{swept_statements}
use Rattle.branch_proofs.proofs.Unlet.{unlet_sheds}

-- what declares nothing doesn't go so

bare_stays : (t : Tree) → is_bare t ≡ true → is_shed t ≡ false
bare_stays (node (VarDecl k) ss ε) h = refl
bare_stays (node (VarDecl Var) ss (d ⊳ ds)) h = refl
bare_stays (node (VarDecl Let) ss (d ⊳ ds)) h = absurd (false≢true h)
bare_stays (node (VarDecl Const) ss (d ⊳ ds)) h = absurd (false≢true h)
bare_stays t h = refl

bare_names : (t : Tree) → is_bare t ≡ true → shed_names t ≡ []
bare_names (node (VarDecl Var) ss ds) h = refl
bare_names (node (VarDecl Let) ss ε) h = refl
bare_names (node (VarDecl Const) ss ε) h = refl
bare_names (node (VarDecl Let) ss (d ⊳ ds)) h = absurd (false≢true h)
bare_names (node (VarDecl Const) ss (d ⊳ ds)) h = absurd (false≢true h)
bare_names t h = refl

bare_item : (l : Label) (ss : List Span) (cs : Forest) → is_bare (node l ss cs) ≡ true → is_item l ≡ false
bare_item (Import src) ss cs h = absurd (false≢true h)
bare_item ExportDecl ss cs h = absurd (false≢true h)
bare_item ExportNamed ss cs h = absurd (false≢true h)
bare_item (ExportDefaultFn o) ss cs h = absurd (false≢true h)
bare_item ExportDefaultExpr ss cs h = absurd (false≢true h)
bare_item l ss cs h = refl

bares_stay : (cs us : Forest) → all_bare cs ≡ true → unlet (joined cs us) ≡ joined cs (unlet us)
bares_stay ε us h = refl
bares_stay (c ⊳ cs) us h = let p = and_parts (is_bare c) (all_bare cs) h in ap (λ b. if b then unlet (joined cs us) else c ⊳ unlet (joined cs us)) (bare_stays c p.0) ∙ ap (λ z. c ⊳ z) (bares_stay cs us p.1)

bares_names : (cs us : Forest) → all_bare cs ≡ true → let_names (joined cs us) ≡ let_names us
bares_names ε us h = refl
bares_names (c ⊳ cs) us h = let p = and_parts (is_bare c) (all_bare cs) h in ap (λ xs. xs ++ let_names (joined cs us)) (bare_names c p.0) ∙ bares_names cs us p.1

-- what is swept is so without them

unlet_swept : {ts us : Forest} → Swept ts us → Swept (unlet ts) (unlet us)
unlet_swept none_swept = none_swept
unlet_swept (item_stays t {ts} {us} s) = by_shed (is_shed t) (unlet_swept s)
  where
    by_shed : (b : Bool) → Swept (unlet ts) (unlet us) → Swept (if b then unlet ts else t ⊳ unlet ts) (if b then unlet us else t ⊳ unlet us)
    by_shed true k = k
    by_shed false k = item_stays t k
unlet_swept (empty_goes ss s) = empty_goes ss (unlet_swept s)
unlet_swept (block_opens ss cs {ts} {us} b s) = subst (λ z. Swept (node Block ss cs ⊳ unlet ts) z) (sym (bares_stay cs us b)) (block_opens ss cs b (unlet_swept s))

swept_names : {ts us : Forest} → Swept ts us → let_names us ≡ let_names ts
swept_names none_swept = refl
swept_names (item_stays t s) = ap (λ xs. shed_names t ++ xs) (swept_names s)
swept_names (empty_goes ss s) = swept_names s
swept_names (block_opens ss cs {ts} {us} b s) = bares_names cs us b ∙ swept_names s

-- The cut of a list that begins with the statements of a block that was opened: it is behind them, or behind one of them.
data Opened (mark : ℕ) (cs us : Forest) {kept : Name → Bool} {vs : Forest} (c : Cut kept (joined cs us) vs) : Type 0 where
  cut_behind : {ws : Forest} (e : Cut kept us ws) → cut_between c ≡ joined cs (cut_between e) → cut_names c ≡ cut_names e → Opened mark cs us c
  cut_inside : HasEnd mark cs → cut_between c ≡ joined cs (unlet us) → cut_names c ≡ let_names us → Opened mark cs us c

opened_past : {mark : ℕ} {kept : Name → Bool} (t : Tree) (cs us : Forest) {vs : Forest} (h : is_stopper t ≡ false) (c : Cut kept (joined cs us) vs) → Opened mark cs us c → Opened mark (t ⊳ cs) us (past_item t h c)
opened_past t cs us h c (cut_behind e p q) = cut_behind e (ap (λ z. t ⊳ z) p) q
opened_past t cs us h c (cut_inside g p q) = cut_inside (ends_later g) (ap (λ z. t ⊳ z) p) q

opened : (mark : ℕ) {kept : Name → Bool} (cs us : Forest) → all_bare cs ≡ true → {vs : Forest} (c : Cut kept (joined cs us) vs) → Opened mark cs us c
opened mark ε us b c = cut_behind c refl refl
opened mark (t ⊳ cs) us b (past_item _ h c) = opened_past t cs us h c (opened mark cs us (and_parts (is_bare t) (all_bare cs) b).1 c)
opened mark (t ⊳ cs) us b (cut_at _ ts h o) = let p = (and_parts (is_bare t) (all_bare cs) b).1 in cut_inside (ends_here (stopper_ends mark t h)) (ap (λ z. t ⊳ z) (bares_stay cs us p)) (bares_names cs us p)

-- what a list is without the declarations that go where it is swept and then cut
record Shed (mark : ℕ) (ts : Forest) {kept : Name → Bool} {us vs : Forest} (c : Cut kept us vs) : Type 0 where
  pub names : List Name
  pub between : Forest
  pub sheds : Sheds mark false ts between names
  pub sweeps : Swept between (cut_between c)
  pub covers : cut_names c ≡ names

module _ (mark : ℕ) {kept : Name → Bool} where
  shed_block : (ss : List Span) (cs : Forest) {ts us vs : Forest} → all_bare cs ≡ true → Swept ts us → all_statements ts ≡ true → ((ws : Forest) (e : Cut kept us ws) → Shed mark ts e) → {c : Cut kept (joined cs us) vs} → Opened mark cs us c → Shed mark (node Block ss cs ⊳ ts) c
  shed_block ss cs {ts} b s m f (cut_behind {ws} e p q) =
      let k = f ws e in
      record {
        names = k.names;
        between = node Block ss cs ⊳ k.between;
        sheds = dying.item_stays k.sheds;
        sweeps = subst (λ z. Swept (node Block ss cs ⊳ k.between) z) (sym p) (block_opens ss cs b k.sweeps);
        covers = q ∙ k.covers;
      }
  shed_block ss cs {ts} b s m f (cut_inside g p q) = record {
    names = let_names ts;
    between = node Block ss cs ⊳ unlet ts;
    sheds = item_stops (ends_stops mark (ends_block mark ss cs g)) (unlet_sheds ts m);
    sweeps = subst (λ z. Swept (node Block ss cs ⊳ unlet ts) z) (sym p) (block_opens ss cs b (unlet_swept s));
    covers = q ∙ swept_names s;
  }

  shed : {ts us vs : Forest} → Swept ts us → all_statements ts ≡ true → (c : Cut kept us vs) → Shed mark ts c
  shed none_swept m uncut = record { names = []; between = ε; sheds = sheds_none; sweeps = none_swept; covers = refl }
  shed (item_stays t {ts} s) m (past_item _ h c) =
      let k = shed s (and_parts (stays_behind t || is_statement t) (all_statements ts) m).1 c in
      record { names = k.names; between = t ⊳ k.between; sheds = dying.item_stays k.sheds; sweeps = item_stays t k.sweeps; covers = k.covers }
  shed (item_stays t {ts} s) m (cut_at _ us h o) = record {
    names = let_names ts;
    between = t ⊳ unlet ts;
    sheds = item_stops (ends_stops mark (stopper_ends mark t h)) (unlet_sheds ts (and_parts (stays_behind t || is_statement t) (all_statements ts) m).1);
    sweeps = item_stays t (unlet_swept s);
    covers = swept_names s;
  }
  shed (empty_goes ss {ts} s) m c =
      let k = shed s m c in
      record { names = k.names; between = node Empty ss ε ⊳ k.between; sheds = dying.item_stays k.sheds; sweeps = empty_goes ss k.sweeps; covers = k.covers }
  shed (block_opens ss cs {ts} {us} b s) m c = shed_block ss cs b s m (λ ws e. shed s m e) (opened mark cs us b c)

-- imports and exports stay

items_cons : (t : Tree) (ts us : Forest) → module_items ts ≡ module_items us → module_items (t ⊳ ts) ≡ module_items (t ⊳ us)
items_cons (node l ss cs) ts us e = ap (λ z. if is_item l then node l ss cs ⊳ z else z) e

bares_items : (cs us : Forest) → all_bare cs ≡ true → module_items (joined cs us) ≡ module_items us
bares_items ε us h = refl
bares_items (node l ss ds ⊳ cs) us h = let p = and_parts (is_bare (node l ss ds)) (all_bare cs) h in ap (λ b. if b then node l ss ds ⊳ module_items (joined cs us) else module_items (joined cs us)) (bare_item l ss ds p.0) ∙ bares_items cs us p.1

swept_items : {ts us : Forest} → Swept ts us → module_items ts ≡ module_items us
swept_items none_swept = refl
swept_items (item_stays t s) = items_cons t _ _ (swept_items s)
swept_items (empty_goes ss s) = swept_items s
swept_items (block_opens ss cs {ts} {us} b s) = swept_items s ∙ sym (bares_items cs us b)

item_items : (t : Tree) (us vs : Forest) → module_items us ≡ module_items vs → module_items (if is_shed t then us else t ⊳ us) ≡ module_items (if stays_behind t then t ⊳ vs else vs)
item_items (node (VarDecl k) ss ε) us vs e = e
item_items (node (VarDecl Var) ss (d ⊳ ds)) us vs e = e
item_items (node (VarDecl Let) ss (d ⊳ ds)) us vs e = e
item_items (node (VarDecl Const) ss (d ⊳ ds)) us vs e = e
item_items (node (Import src) ss cs) us vs e = ap (λ z. node (Import src) ss cs ⊳ z) e
item_items (node ExportDecl ss cs) us vs e = ap (λ z. node ExportDecl ss cs ⊳ z) e
item_items (node ExportNamed ss cs) us vs e = ap (λ z. node ExportNamed ss cs ⊳ z) e
item_items (node (ExportDefaultFn o) ss cs) us vs e = ap (λ z. node (ExportDefaultFn o) ss cs ⊳ z) e
item_items (node ExportDefaultExpr ss cs) us vs e = ap (λ z. node ExportDefaultExpr ss cs ⊳ z) e
item_items t us vs e = e

unlet_items : (ts : Forest) → module_items (unlet ts) ≡ module_items (staying ts)
unlet_items ε = refl
unlet_items (t ⊳ ts) = item_items t (unlet ts) (staying ts) (unlet_items ts)

declared_items : {xs : List Name} {vs : Forest} (us : Forest) → Declares xs vs → module_items (joined vs us) ≡ module_items us
declared_items us none_declared = refl
declared_items us (some_declared ss u) = refl

cut_items : {kept : Name → Bool} {ts vs : Forest} (c : Cut kept ts vs) → module_items (cut_between c) ≡ module_items vs
cut_items uncut = refl
cut_items (past_item t h c) = items_cons t _ _ (cut_items c)
cut_items (cut_at t ts h o) = items_cons t _ _ (unlet_items ts) ∙ sym (declared_items (t ⊳ staying ts) o)

-- the step of a list, and the pass

tidied_right : (mark : ℕ) {kept : Name → Bool} (l : Label) {ts vs : Forest} → Tidied kept ts vs → ListRight mark l ts vs
tidied_right mark l d =
    let k = shed mark d.sweeps d.statements d.cuts in
    record {
      names = k.names;
      between = k.between;
      sheds = k.sheds;
      exact = becomes_list (becomes_trans (swept_becomes k.sweeps) (cut_exact d.cuts));
      declares = same_lists_trans (swept_same k.sweeps) (cut_same (λ x. has_name x k.names) d.cuts (swept_statements d.sweeps d.statements) (λ x e. ap (has_name x) (sym k.covers) ∙ e));
      items = λ e. swept_items k.sweeps ∙ cut_items d.cuts;
    }

pub removes_die : (mark : ℕ) → DyingRight (remove_pass mark) mark
removes_die mark = record { open_right = λ t u s. shed_right mark s; node_right = λ t u r. removes_right r; list_right = λ l ts vs d. tidied_right mark l d }
