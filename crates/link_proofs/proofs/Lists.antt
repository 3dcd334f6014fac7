-- Lists, switch, try, declarations, parameters and `for`, in a run in which names stand for names.
use Rattle.std.proofs.Common.{◌≡◌, ℕ, zero, suc, Bool, true, false, ◌||◌, List, [], ◌∷◌, Option, Some, None, refl, sym, ap, subst, length, slice_get, cond, ◌∙◌}
use Rattle.std.proofs.lemmas.Bool.{false≢true, true≢false}
use Rattle.swc_ast.specs.declared.VarDeclKind.{VarDeclKind}
use Rattle.swc_ast.specs.declared.VarDeclKind.TheVariants.{Var, Let, Const}
use Rattle.swc_ast.specs.Tree.{Name, Forest}
use Rattle.swc_ast.specs.Value.{Env, Value, Undefined, Function as FunctionValue, Cell, State, Outcome, Done, Jumps, Outside, Cut, Run, and_then, Context, Meaning}
use Rattle.swc_ast.specs.Scope.{Declaration, Lexical, Function as DeclaredFunction, Declared, found, is_found, declared, list_binds}
use Rattle.swc_ast.specs.Meaning.{in_scope, cell_of_declared, list_cells, in_list_scope, declare, run_all, initialise, gives}
use Rattle.meaning_proofs.specs.Roles.{holds_function}
use Rattle.link_proofs.specs.Links.{Links, Ground, Proper, Functions, functions, OpensList, IsLexical, lexical, IsConstant, constant, Splits, beside}
use Rattle.link_proofs.proofs.State.{World, Fine, fine_up, FineEnv, FineContext, context_up, calmed, Behind, FineState, later_freer, Nothing, Ends, done, jump, outside, cut, Runs, Safe, after, freer, gives_safe}
use Rattle.link_proofs.proofs.Stores.{at_first, initialise_safe}
use Rattle.link_proofs.proofs.Scopes.{Own, Pend, SomeCell, EmptyCell, NewCells, in_scope_safe, pend_later, pend_calm, pend_fewer}
use Rattle.link_proofs.proofs.Parts.{Both, none, more}

-- What two parts of a list do: they set the names that wait, which are B, and no other cell of a fixed name.
pub record Sets (L : Links) (G : Ground) (B : Name → Bool) (m n : Meaning) : Type 0 where
  pub at : (w : World) (c : Context) → FineContext L w G c → (s : State) → Pend L B c.env s → FineState L w s → Ends L (Own B c.env) (Fine L) w s (m c s) (n c s)

some_index : {a b : ℕ} → Some a ≡ Some b → a ≡ b
some_index e = cc

some_cell : {a b : Cell} → Some a ≡ Some b → a ≡ b
some_cell e = cc

none_is_value : {v : Value} → None ≡ Some v → ⊥
none_is_value e = cc

none_is_declaration : {d : Declaration} → None ≡ Some d → ⊥
none_is_declaration e = cc

look_cond : (b : Bool) (d : Declaration) (o : Option Declaration) (r : Bool) → (b || r) ≡ true → (r ≡ true → (d : Declaration) × o ≡ Some d) → (e : Declaration) × cond b (Some d) o ≡ Some e
look_cond true d o r e h = (d, refl)
look_cond false d o r e h = h e

look : (x : Name) (ps : List Declared) → is_found x ps ≡ true → (d : Declaration) × found x ps ≡ Some d
look x [] e = absurd (false≢true e)
look x (p ∷ ps) e = look_cond _ p.1 (found x ps) (is_found x ps) e (look x ps)

-- cells of what a list declares
declared_there : (e : Env) (t : Value) (o : Option Declaration) (d : Declaration) → o ≡ Some d → SomeCell (cell_of_declared e t o)
declared_there e t None d p = absurd (none_is_declaration p)
declared_there e t (Some (Lexical w)) d p = record { cell = record { writable = w; held = None }; is = refl }
declared_there e t (Some (DeclaredFunction f)) d p = record { cell = record { writable = true; held = Some (FunctionValue f e t) }; is = refl }

lexical_empty : (e : Env) (t : Value) {o : Option Declaration} → IsLexical o → EmptyCell (cell_of_declared e t o)
lexical_empty e t (lexical w) = record { cell = record { writable = w; held = None }; is = refl; empty = refl }

no_function_holds : (e : Env) (t : Value) (o : Option Declaration) → holds_function o ≡ false → (c : Cell) (v : Value) → cell_of_declared e t o ≡ Some c → c.held ≡ Some v → ⊥
no_function_holds e t None h c v p q = cc
no_function_holds e t (Some (Lexical w)) h c v p q = none_is_value (ap (λ (c : Cell). c.held) (some_cell p) ∙ q)
no_function_holds e t (Some (DeclaredFunction f)) h c v p q = true≢false h

lexical_found : (x : Name) (ps : List Declared) (w : Bool) → found x ps ≡ Some (Lexical w) → is_found x ps ≡ true
lexical_found x [] w e = absurd (none_is_declaration e)
lexical_found x (p ∷ ps) w e = lexical_cond _ p.1 (found x ps) (is_found x ps) w e (lexical_found x ps w)
  where
    lexical_cond : (b : Bool) (d : Declaration) (o : Option Declaration) (r w : Bool) → cond b (Some d) o ≡ Some (Lexical w) → (o ≡ Some (Lexical w) → r ≡ true) → (b || r) ≡ true
    lexical_cond true d o r w e h = refl
    lexical_cond false d o r w e h = h e

pub lexical_bound : (x : Name) (ps : List Declared) → IsLexical (found x ps) → is_found x ps ≡ true
lexical_bound x ps q = go q refl
  where
    go : {o : Option Declaration} → IsLexical o → found x ps ≡ o → is_found x ps ≡ true
    go (lexical w) e = lexical_found x ps w e

pub constant_cell : (e : Env) (t : Value) {o : Option Declaration} → IsConstant o → (c : Cell) → cell_of_declared e t o ≡ Some c → c.writable ≡ false
constant_cell e t constant c p = sym (ap (λ (c : Cell). c.writable) (some_cell p))

-- places of two lists of one length
pub same_place : {A B : Type 0} (xs : List A) (ys : List B) (k : ℕ) (a : A) → length xs ≡ length ys → slice_get xs k ≡ Some a → (b : B) × slice_get ys k ≡ Some b
same_place [] ys k a e p = cc
same_place (x ∷ xs) [] k a e p = cc
same_place (x ∷ xs) (y ∷ ys) zero a e p = (y, refl)
same_place (x ∷ xs) (y ∷ ys) (suc k) a e p = same_place xs ys k a (suc_same e) p
  where
    suc_same : {m n : ℕ} → suc m ≡ suc n → m ≡ n
    suc_same e = cc

-- what a part gives is dropped
dropped : (o : Outcome Value) (k : Run Value) → and_then (and_then o (λ v. gives Undefined)) (λ v. k) ≡ and_then o (λ v. k)
unfolding and_then
dropped (Done v s) k = refl
dropped (Jumps j s) k = refl
dropped Outside k = refl
dropped Cut k = refl

module _ {L : Links} where
  pub calm_sets : {G : Ground} {B : Name → Bool} {m n : Meaning} → Safe L G m n → Sets L G B m n
  calm_sets h = record { at = λ w c hc s p hs. freer (λ x k e. absurd e) (h.at w c hc s hs) }

  pub sets_more : {G : Ground} {B D : Name → Bool} {m n : Meaning} → ((x : Name) → D x ≡ true → B x ≡ true) → Sets L G D m n → Sets L G B m n
  sets_more q h = record { at = λ w c hc s p hs. freer (λ x k e. (q x e.0, e.1)) (h.at w c hc s (pend_fewer q p) hs) }

  pub sets_nil : {G : Ground} {B : Name → Bool} → Sets L G B (run_all []) (run_all [])
  unfolding run_all
  sets_nil = record { at = λ w c hc s p hs. gives_safe Undefined tt s hs }

  pub sets_cons : {G : Ground} {B B₁ B₂ : Name → Bool} {m n : Meaning} (ms ns : List Meaning) → Splits B B₁ B₂ → Sets L G B₁ m n → Sets L G B₂ (run_all ms) (run_all ns) → Sets L G B (run_all (m ∷ ms)) (run_all (n ∷ ns))
  unfolding run_all and_then
  sets_cons {G} {B} {B₁} {B₂} {m} {n} ms ns q h hs = record { at = λ w c hc s p k. go w c hc s p (h.at w c hc s (pend_fewer q.first p) k) }
    where
      go : (w : World) (c : Context) → FineContext L w G c → (s : State) → Pend L B c.env s → {o r : Outcome Value} → Ends L (Own B₁ c.env) (Fine L) w s o r → Ends L (Own B c.env) (Fine L) w s (and_then o (λ v. run_all ms c)) (and_then r (λ v. run_all ns c))
      go w c hc s p (done {t = t} l k r) = after (later_freer (λ x i e. (q.first x e.0, e.1)) l) (freer (λ x i e. (q.second x e.0, e.1)) (hs.at _ c (context_up l.worlds hc) t (pend_later (pend_fewer q.second p) q.apart l) k))
      go w c hc s p (jump l k r) = jump (later_freer (λ x i e. (q.first x e.0, e.1)) l) k r
      go w c hc s p (outside o) = outside _
      go w c hc s p (cut o) = cut _

  -- an item that is exported, in front of others
  pub export_sets : {G : Ground} {B : Name → Bool} (m n e f : Meaning) (ms ns : List Meaning) → ((c : Context) (s : State) → e c s ≡ run_all (m ∷ []) c s) → ((c : Context) (s : State) → f c s ≡ run_all (n ∷ []) c s) → Sets L G B (run_all (m ∷ ms)) (run_all (n ∷ ns)) → Sets L G B (run_all (e ∷ ms)) (run_all (f ∷ ns))
  unfolding run_all
  export_sets {G} {B} m n e f ms ns i j h = record {
    at = λ w c hc s p k.
        subst (λ (o : Outcome Value). Ends L (Own B c.env) (Fine L) w s o (and_then (f c s) (λ v. run_all ns c))) (sym (alone c s m e ms (i c s)))
        (subst (λ (o : Outcome Value). Ends L (Own B c.env) (Fine L) w s (and_then (m c s) (λ v. run_all ms c)) o) (sym (alone c s n f ns (j c s))) (h.at w c hc s p k));
  }
    where
      alone : (c : Context) (s : State) (m e : Meaning) (ms : List Meaning) → e c s ≡ and_then (m c s) (λ v. gives Undefined) → and_then (e c s) (λ v. run_all ms c) ≡ and_then (m c s) (λ v. run_all ms c)
      alone c s m e ms i = ap (λ (o : Outcome Value). and_then o (λ v. run_all ms c)) i ∙ dropped (m c s) (run_all ms c)

module _ {L : Links} {mark : ℕ} (P : Proper L mark) where
  -- the scope of a list

  list_new : {G : Ground} {B : Name → Bool} {ts : Forest} → OpensList L G B ts → Functions L (beside (list_binds ts) G) ts → (v : World) (e : Env) (t : Value) (s : State) → FineEnv L v (beside (list_binds ts) G) e → Fine L v t
      → NewCells L v e s (list_binds ts) (list_cells ts t e)
  list_new {G} {B} {ts} op (functions hf) v e t s he ht = record {
    there = λ x f b. let d = look x (declared ts) b in declared_there e t (found x (declared ts)) d.0 d.1;
    fine = λ x b c u p q. fine x (found x (declared ts)) refl c u p q;
    linked = λ y x l b c u p q. absurd (no_function_holds e t (found y (declared ts)) (op.no_function y x l) c u p q);
    known = λ y a l b c u p q. absurd (no_function_holds e t (found y (declared ts)) (op.no_known y a l) c u p q);
    frozen = λ x f b c p. constant_cell e t (op.constants x f b) c p;
  }
    where
      fine : (x : Name) (o : Option Declaration) → found x (declared ts) ≡ o → (c : Cell) (u : Value) → cell_of_declared e t o ≡ Some c → c.held ≡ Some u → Fine L v u
      fine x None d c u p q = cc
      fine x (Some (Lexical w)) d c u p q = absurd (none_is_value (ap (λ (c : Cell). c.held) (some_cell p) ∙ q))
      fine x (Some (DeclaredFunction f)) d c u p q = subst (Fine L v) (some_value (ap (λ (c : Cell). c.held) (some_cell p) ∙ q)) (record { ground = beside (list_binds ts) G; env = calmed he; body = hf x f d }, ht)
        where
          some_value : {a b : Value} → Some a ≡ Some b → a ≡ b
          some_value e = cc

  -- what runs in the scope of a list's own
  pub list_scope_safe : {G : Ground} {B : Name → Bool} {ts : Forest} → OpensList L G B ts → Functions L (beside (list_binds ts) G) ts → {A : Type 0} {R : World → A → Type 0} {body body' : Context → Run A} (w : World) (c : Context) → FineContext L w G c
      → ((v : World) (d : Context) (s : State) → FineContext L v (beside (list_binds ts) G) d → Pend L B d.env s → FineState L v s → Ends L (Own B d.env) R v s (body d s) (body' d s))
      → Runs L Nothing R w (in_scope (list_binds ts) (list_cells ts c.this) body c) (in_scope (list_binds ts) (list_cells ts c.this) body' c)
  list_scope_safe {G} {B} {ts} op hf w c hc hb =
      in_scope_safe P G B (list_binds ts) (list_cells ts c.this) w c hc op.opens (λ x b. (lexical_bound x (declared ts) (op.waiting x b), op.waiting_fixed x b))
      (λ e x b. lexical_empty e c.this (op.waiting x b))
      (λ s h v e g he next others. list_new op hf v e c.this _ he (fine_up L g c.this hc.this))
      (λ v d s g hd p h. hb v d s hd p h)

  pub list_safe : {G : Ground} {B : Name → Bool} {ts : Forest} → OpensList L G B ts → Functions L (beside (list_binds ts) G) ts → {m n : Meaning} → Sets L (beside (list_binds ts) G) B m n → Safe L G (in_list_scope ts m) (in_list_scope ts n)
  unfolding in_list_scope
  list_safe op hf h = record { at = λ w c hc. list_scope_safe op hf w c hc (λ v d s hd p k. h.at v d hd s p k) }

  -- first values

  -- a name that waits takes a value
  pub first_safe : {G : Ground} {B : Name → Bool} (w : World) (x : Name) (v : Value) (c : Context) → FineContext L w G c → Fine L w v → B x ≡ true → (s : State) → Pend L B c.env s → FineState L w s → ((k : ℕ) → c.env x ≡ Some k → (y : Name) → L.link x ≡ Some y → Behind w s x y k v) → ((u : Value) → L.known x ≡ Some u → v ≡ u)
      → Ends L (Own B c.env) (Fine L) w s (initialise x v c s) (initialise x v c s)
  first_safe {G} {B} w x v c hc r b s p h q i = initialise_safe P w x v c r s h (λ k d e t. (at_first (empty k d e t) (λ y l. q k e y l) i, λ f. (b, e)))
    where
      empty : (k : ℕ) (d : Cell) → c.env x ≡ Some k → slice_get (s.store x) k ≡ Some d → d.held ≡ None
      empty k d e t = let a = (p.at x b).1 in ap (λ (c : Cell). c.held) (some_cell (sym t ∙ ap (slice_get (s.store x)) (some_index (sym e ∙ a.is_at)) ∙ a.there)) ∙ a.empty

  pub no_value : (x : Name) (v : Value) → L.known x ≡ None → (u : Value) → L.known x ≡ Some u → v ≡ u
  no_value x v n u e = cc

  pub unlinked_behind : {w : World} {s : State} (x : Name) (v : Value) → L.link x ≡ None → (k : ℕ) (y : Name) → L.link x ≡ Some y → Behind w s x y k v
  unlinked_behind x v n k y l = absurd (none_is_name (sym n ∙ l))
    where
      none_is_name : {y : Name} → None ≡ Some y → ⊥
      none_is_name e = cc

  -- a name that waits takes the value of an expression
  value_first : {G : Ground} {B : Name → Bool} (x : Name) → L.link x ≡ None → L.known x ≡ None → B x ≡ true → (w : World) (c : Context) → FineContext L w G c → (s : State) → Pend L B c.env s → {o r : Outcome Value} → Ends L Nothing (Fine L) w s o r
      → Ends L (Own B c.env) (Fine L) w s (and_then o (λ v. initialise x v c)) (and_then r (λ v. initialise x v c))
  unfolding and_then
  value_first x n i b w c hc s p (done {a} {v} {t} l h r) = after (later_freer (λ x k e. absurd e) l) (first_safe v x a c (context_up l.worlds hc) r b t (pend_calm p l) h (λ k e. unlinked_behind x a n k) (no_value x a i))
  value_first x n i b w c hc s p (jump l h r) = jump (later_freer (λ x k e. absurd e) l) h r
  value_first x n i b w c hc s p (outside o) = outside _
  value_first x n i b w c hc s p (cut o) = cut _

  pub declare_first : {G : Ground} {B : Name → Bool} (k : VarDeclKind) (x : Name) → L.link x ≡ None → L.known x ≡ None → B x ≡ true → {ms ns : List Meaning} → Both (Safe L G) ms ns → Sets L G B (declare k x ms) (declare k x ns)
  unfolding declare
  declare_first Var x n i b none = record { at = λ w c hc s p h. gives_safe Undefined tt s h }
  declare_first Let x n i b none = record { at = λ w c hc s p h. first_safe w x Undefined c hc tt b s p h (λ k e. unlinked_behind x Undefined n k) (no_value x Undefined i) }
  declare_first Const x n i b none = record { at = λ w c hc s p h. first_safe w x Undefined c hc tt b s p h (λ k e. unlinked_behind x Undefined n k) (no_value x Undefined i) }
  declare_first {G} {B} Var x n i b (more hm hs) = record { at = λ w c hc s p h. value_first x n i b w c hc s p (hm.at w c hc s h) }
  declare_first Let x n i b (more hm hs) = record { at = λ w c hc s p h. value_first x n i b w c hc s p (hm.at w c hc s h) }
  declare_first Const x n i b (more hm hs) = record { at = λ w c hc s p h. value_first x n i b w c hc s p (hm.at w c hc s h) }

  -- a name takes the value that it is known to hold
  pub declare_known : {G : Ground} {B : Name → Bool} (k : VarDeclKind) (y : Name) (v : Value) → L.link y ≡ None → L.known y ≡ Some v → ((w : World) → Fine L w v) → B y ≡ true → (m m' : Meaning) → ((c : Context) (s : State) → m c s ≡ Done v s) → ((c : Context) (s : State) → m' c s ≡ Done v s) → Sets L G B (declare k y (m ∷ [])) (declare k y (m' ∷ []))
  unfolding declare and_then
  declare_known {G} {B} k y v n i r b m m' e e' = kinds k
    where
      some_value : {a b : Value} → Some a ≡ Some b → a ≡ b
      some_value e = cc

      at : (w : World) (c : Context) → FineContext L w G c → (s : State) → Pend L B c.env s → FineState L w s → Ends L (Own B c.env) (Fine L) w s (and_then (m c s) (λ u. initialise y u c)) (and_then (m' c s) (λ u. initialise y u c))
      at w c hc s p h =
          subst (λ (o : Outcome Value). Ends L (Own B c.env) (Fine L) w s (and_then o (λ u. initialise y u c)) (and_then (m' c s) (λ u. initialise y u c))) (sym (e c s))
          (subst (λ (o : Outcome Value). Ends L (Own B c.env) (Fine L) w s (initialise y v c s) (and_then o (λ u. initialise y u c))) (sym (e' c s)) (first_safe w y v c hc (r w) b s p h (λ k e. unlinked_behind y v n k) (λ u l. some_value (sym i ∙ l))))

      kinds : (k : VarDeclKind) → Sets L G B (declare k y (m ∷ [])) (declare k y (m' ∷ []))
      kinds Var = record { at = at }
      kinds Let = record { at = at }
      kinds Const = record { at = at }

  pub declare_unset : {G : Ground} {B : Name → Bool} (k : VarDeclKind) (y : Name) → L.link y ≡ None → L.known y ≡ Some Undefined → B y ≡ true → Sets L G B (declare k y []) (declare k y [])
  unfolding declare
  declare_unset Var y n i b = record { at = λ w c hc s p h. gives_safe Undefined tt s h }
  declare_unset Let y n i b = record { at = λ w c hc s p h. first_safe w y Undefined c hc tt b s p h (λ k e. unlinked_behind y Undefined n k) (λ u l. undefined_is u (sym i ∙ l)) }
    where
      undefined_is : (u : Value) → Some Undefined ≡ Some u → Undefined ≡ u
      undefined_is u e = cc
  declare_unset Const y n i b = record { at = λ w c hc s p h. first_safe w y Undefined c hc tt b s p h (λ k e. unlinked_behind y Undefined n k) (λ u l. undefined_is u (sym i ∙ l)) }
    where
      undefined_is : (u : Value) → Some Undefined ≡ Some u → Undefined ≡ u
      undefined_is u e = cc

  -- a variable without a first value
  pub variable_safe : {G : Ground} (y : Name) → Safe L G (declare Var y []) (declare Var y [])
  unfolding declare
  variable_safe y = record { at = λ w c hc. gives_safe Undefined tt }
