-- What is given of names, and of modules, is sound: so what is put for it is right.
use Rattle.std.proofs.Common.{◌≡◌, ℕ, Bool, true, false, ◌&&◌, if◌then◌else◌, List, [], Option, Some, None, refl, sym, ap, ap₂, ◌∙◌, bytes_eq, codes}
use Rattle.swc_ast.specs.declared.Span.{Span}
use Rattle.swc_ast.specs.Tree.{Text, Label, StrLit, Read, Shorthand, TypeOfName, Dot, Index, CallEval, CallDot, CallIndex, Tree, node, Forest, ε, ◌⊳◌, label_of}
use Rattle.swc_ast.specs.Value.{and_then}
use Rattle.swc_ast.specs.Meaning.{is_unresolved, eval, evals, act, in_turn}
use Rattle.meaning_proofs.specs.Exact.{Exact}
use Rattle.meaning_proofs.proofs.Laws.{exact_itself, exact_path}
use Rattle.meaning_proofs.proofs.Quiet.{declares_nothing}
use Rattle.swc_pass.specs.Given.{Owners, owned, all_owned, Found, nothing, a_value, a_plain, value_at, SameGiven}
use Rattle.swc_pass.specs.Inlined.{Given, shape, shapes, bare_label, leads_outside, is_nothing, or_else, by_value, by_plain, by_expression, by_name, is_env, by_env, by_key, by_part, inlined}
use Rattle.swc_pass.specs.Constants.{Constants, constants, constant_at, member_of}
use Rattle.given_rules.specs.Met.{joined, own_found, met_each, covers}
use Rattle.tree_put.specs.declared.rules.Spot.{Spot}
use Rattle.tree_put.specs.declared.rules.Spot.TheVariants as spot
use Rattle.given_shield.specs.Shield.{is_bare_operand, is_bare, guarded, shield}
use Rattle.given_rules.specs.Put.{here, put_all}
use Rattle.given_rules.specs.Worked.{Finals, has_final, finished, puts, Worked, none_worked}
use Rattle.given_rules.proofs.Covered.{Spanless}
use Rattle.given_rules.proofs.Lawful.{Sound, put_same}
use Rattle.given_rules.proofs.Uncounted.{each_covered}

mutual
  shape_owned : (os : Owners) (t : Tree) → shape (owned os t) ≡ shape t
  shape_owned os (node l ss cs) = ap (node (bare_label l) []) (shapes_owned os cs)

  shapes_owned : (os : Owners) (ts : Forest) → shapes (all_owned os ts) ≡ shapes ts
  shapes_owned os ε = refl
  shapes_owned os (t ⊳ ts) = ap₂ ◌⊳◌ (shape_owned os t) (shapes_owned os ts)

mutual
  one_twice : (os : Owners) (t : Tree) → owned [] (owned os t) ≡ owned [] t
  one_twice os (node l ss cs) = ap (node l []) (twice os cs)

  twice : (os : Owners) (ts : Forest) → all_owned [] (all_owned os ts) ≡ all_owned [] ts
  twice os ε = refl
  twice os (t ⊳ ts) = ap₂ ◌⊳◌ (one_twice os t) (twice os ts)

leads_owned : (mark : ℕ) (os : Owners) (t : Tree) → leads_outside mark (owned os t) ≡ leads_outside mark t
leads_owned mark os (node (Read x) ss cs) = refl
leads_owned mark os (node (Dot k) ss ε) = refl
leads_owned mark os (node (Dot k) ss (o ⊳ ε)) = leads_owned mark os o
leads_owned mark os (node (Dot k) ss (o ⊳ p ⊳ ts)) = refl
leads_owned mark os (node Index ss ε) = refl
leads_owned mark os (node Index ss (o ⊳ ε)) = refl
leads_owned mark os (node Index ss (o ⊳ k ⊳ ε)) = leads_owned mark os o
leads_owned mark os (node Index ss (o ⊳ k ⊳ p ⊳ ts)) = refl
leads_owned mark os (node l ss cs) = refl

module _ (given : Given) (mark : ℕ) where
  expression_owned : (os : Owners) (t : Tree) → by_expression given mark (owned os t) ≡ by_expression given mark t
  expression_owned os t = ap₂ (λ b f. if b then by_value (given.expression f) else nothing) (leads_owned mark os t) (shape_owned os t)

  env_owned : (os : Owners) (t : Tree) → is_env given mark (owned os t) ≡ is_env given mark t
  env_owned os (node (Dot e) ss (node (Read p) rs cs ⊳ ε)) =
      ap₂ (λ f g. is_unresolved mark p && (bytes_eq p.text (codes "process") && (bytes_eq e (codes "env") && (is_nothing f && (is_nothing g && is_nothing (by_name given mark p))))))
      (expression_owned os (node (Dot e) ss (node (Read p) rs cs ⊳ ε))) (expression_owned os (node (Read p) rs cs))
  env_owned os (node (Dot e) ss ε) = refl
  env_owned os (node (Dot e) ss (node l rs cs ⊳ ε)) = refl
  env_owned os (node (Dot e) ss (node (Read p) rs cs ⊳ u ⊳ ts)) = refl
  env_owned os (node (Dot e) ss (node l rs cs ⊳ u ⊳ ts)) = refl
  env_owned os (node l ss cs) = refl

  key_owned : (os : Owners) (o k : Tree) → by_key given mark (owned os o) (owned os k) ≡ by_key given mark o k
  key_owned os o (node (StrLit t) ss cs) = ap (λ b. if b then by_plain (given.env t) else nothing) (env_owned os o)
  key_owned os o (node l ss cs) = refl

  part_owned : (os : Owners) (t : Tree) → by_part given mark (owned os t) ≡ by_part given mark t
  part_owned os (node (Read x) ss cs) = refl
  part_owned os (node (Dot k) ss ε) = refl
  part_owned os (node (Dot k) ss (o ⊳ ε)) = ap (λ b. if b then by_plain (given.env k) else nothing) (env_owned os o)
  part_owned os (node (Dot k) ss (o ⊳ p ⊳ ts)) = refl
  part_owned os (node Index ss ε) = refl
  part_owned os (node Index ss (o ⊳ ε)) = refl
  part_owned os (node Index ss (o ⊳ k ⊳ ε)) = key_owned os o k
  part_owned os (node Index ss (o ⊳ k ⊳ p ⊳ ts)) = refl
  part_owned os (node l ss cs) = refl

  found_owned : (os : Owners) (t : Tree) → (inlined given mark).found (owned os t) ≡ (inlined given mark).found t
  found_owned os t = ap₂ or_else (expression_owned os t) (part_owned os t)

  -- spans of a read don't matter: each tree is found as without any
  pub inlined_spanless : Spanless (inlined given mark)
  inlined_spanless = record {
    root = λ l ss cs. sym (found_owned [] (node l ss cs)) ∙ found_owned [] (node l [] cs);
    by = λ l ss os cs. sym (found_owned [] (node l ss (all_owned os cs))) ∙ ap (inlined given mark).found (all_bare os l cs) ∙ found_owned [] (node l [] cs);
  }
    where
      all_bare : (os : Owners) (l : Label) (cs : Forest) → owned [] (node l [] (all_owned os cs)) ≡ owned [] (node l [] cs)
      all_bare os l cs = ap (node l []) (twice os cs)

shield_exact : (run : ℕ) (p : Spot) (t : Tree) → Exact run t (shield p t)
unfolding eval evals act in_turn and_then
shield_exact run p (node l ss cs) = by_bare (is_bare p (node l ss cs))
  where
    by_bare : (b : Bool) → Exact run (node l ss cs) (if b then guarded (node l ss cs) else node l ss cs)
    by_bare true = exact_path run (λ n call c s. refl)
    by_bare false = exact_itself run (node l ss cs)

-- what is given as it is written is one of the expressions of `process.env`

plain_some : (o : Option Tree) (v : Tree) → by_plain o ≡ a_plain v → o ≡ Some v
plain_some None v e = cc
plain_some (Some t) v e = cc

value_not_plain : {A : Type 0} (o : Option ℕ) (v : Tree) → by_value o ≡ a_plain v → A
value_not_plain None v e = cc
value_not_plain (Some i) v e = cc

if_value : {A : Type 0} (b : Bool) (o : Option ℕ) (v : Tree) → (if b then by_value o else nothing) ≡ a_plain v → A
if_value true o v e = value_not_plain o v e
if_value false o v e = cc

if_plain : (b : Bool) (o : Option Tree) (v : Tree) → (if b then by_plain o else nothing) ≡ a_plain v → o ≡ Some v
if_plain true o v e = plain_some o v e
if_plain false o v e = cc

second : (f g : Found) (v : Tree) → ((f ≡ a_plain v) → g ≡ a_plain v) → or_else f g ≡ a_plain v → g ≡ a_plain v
second nothing g v h e = e
second (a_value i) g v h e = cc
second (a_plain t) g v h e = h e

shield_nothing : (p : Spot) (t : Tree) → declares_nothing (label_of t) ≡ true → declares_nothing (label_of (shield p t)) ≡ true
shield_nothing p (node l ss cs) d = by_bare (is_bare p (node l ss cs))
  where
    by_bare : (b : Bool) → declares_nothing (label_of (if b then guarded (node l ss cs) else node l ss cs)) ≡ true
    by_bare true = refl
    by_bare false = d

-- what is shielded may stand bare
shield_operand : (t : Tree) → is_bare_operand (shield spot.Operand t) ≡ false
shield_operand t = by_bare (is_bare_operand t) refl
  where
    by_bare : (b : Bool) → is_bare_operand t ≡ b → is_bare_operand (if b then guarded t else t) ≡ false
    by_bare true e = refl
    by_bare false e = e

-- the expressions that are given are expressions
pub record AreExpressions (given : Given) : Type 0 where
  pub values : (i : ℕ) → declares_nothing (label_of (value_at given.values i)) ≡ true
  pub envs : (k : Text) (t : Tree) → given.env k ≡ Some t → declares_nothing (label_of t) ≡ true

module _ {given : Given} (x : AreExpressions given) (mark : ℕ) where
  env_plain : (o : Tree) (k : Text) (v : Tree) → by_env given mark o k ≡ a_plain v → declares_nothing (label_of v) ≡ true
  env_plain o k v e = x.envs k v (if_plain (is_env given mark o) (given.env k) v e)

  key_plain : (o k v : Tree) → by_key given mark o k ≡ a_plain v → declares_nothing (label_of v) ≡ true
  key_plain o (node (StrLit t) ss cs) v e = env_plain o t v e
  key_plain o (node l ss cs) v e = cc

  part_plain : (t v : Tree) → by_part given mark t ≡ a_plain v → declares_nothing (label_of v) ≡ true
  part_plain (node (Read y) ss cs) v e = if_value (is_unresolved mark y) (given.global y.text) v e
  part_plain (node (Dot k) ss ε) v e = cc
  part_plain (node (Dot k) ss (o ⊳ ε)) v e = env_plain o k v e
  part_plain (node (Dot k) ss (o ⊳ p ⊳ ts)) v e = cc
  part_plain (node Index ss ε) v e = cc
  part_plain (node Index ss (o ⊳ ε)) v e = cc
  part_plain (node Index ss (o ⊳ k ⊳ ε)) v e = key_plain o k v e
  part_plain (node Index ss (o ⊳ k ⊳ p ⊳ ts)) v e = cc
  part_plain (node l ss cs) v e = cc

  -- so what is put for them is right, for every mark of a run
  pub inlined_sound : (run : ℕ) → Sound run (inlined given mark) shield
  inlined_sound run = record {
    spanless = inlined_spanless given mark;
    values = x.values;
    plain_ones = λ t v e. part_plain t v (second (by_expression given mark t) (by_part given mark t) v (λ f. if_value (leads_outside mark t) (given.expression (shape t)) v f) e);
    shield_exact = shield_exact run;
    shield_nothing = shield_nothing;
    shield_operand = shield_operand;
  }

-- Names and members for which something is given are put in the places of a module or a script: it does what it does in the world
-- with answers.
pub inline_same : {given : Given} → AreExpressions given → (mark run : ℕ) (fs : Finals) → Worked (inlined given mark) shield fs → (l : Label) (ss : List Span) (cs : Forest)
    → covers (has_final fs) (joined (met_each (inlined given mark) cs)) ≡ true → SameGiven (inlined given mark) run (node l ss cs) (node l ss (put_all (puts (inlined given mark) shield (finished fs)) here cs))
inline_same x mark run fs w l ss cs c = put_same (inlined_sound x mark run) fs w l ss cs c

-- modules

module _ (k : Constants) (items : Forest) where
  member_owned : (os : Owners) (o : Tree) (m : Text) → member_of k items (owned os o) m ≡ member_of k items o m
  member_owned os (node (Read x) ss cs) m = refl
  member_owned os (node l ss cs) m = refl

  index_owned : (os : Owners) (l : Label) (rs : List Span) (ss : List Span) (o t : Tree) → constant_at k items (node Index rs (owned os o ⊳ owned os t ⊳ ε)) ≡ constant_at k items (node Index ss (o ⊳ t ⊳ ε))
  index_owned os l rs ss o (node (StrLit m) qs ds) = member_owned os o m
  index_owned os l rs ss o (node n qs ds) = refl

  constant_owned : (os : Owners) (l : Label) (rs ss : List Span) (cs : Forest) → constant_at k items (node l rs (all_owned os cs)) ≡ constant_at k items (node l ss cs)
  constant_owned os (Read x) rs ss cs = refl
  constant_owned os (Dot m) rs ss ε = refl
  constant_owned os (Dot m) rs ss (o ⊳ ε) = member_owned os o m
  constant_owned os (Dot m) rs ss (o ⊳ p ⊳ ts) = refl
  constant_owned os Index rs ss ε = refl
  constant_owned os Index rs ss (o ⊳ ε) = refl
  constant_owned os Index rs ss (o ⊳ t ⊳ ε) = index_owned os Index rs ss o t
  constant_owned os Index rs ss (o ⊳ node (StrLit m) qs ds ⊳ p ⊳ ts) = refl
  constant_owned os Index rs ss (o ⊳ node n qs ds ⊳ p ⊳ ts) = refl
  constant_owned os l rs ss cs = refl

  constant_root : (l : Label) (ss : List Span) (cs : Forest) → constant_at k items (node l ss cs) ≡ constant_at k items (node l [] cs)
  constant_root l ss cs = sym (constant_owned [] l [] ss cs) ∙ constant_owned [] l [] [] cs

  pub constants_spanless : Spanless (constants k items)
  constants_spanless = record { root = λ l ss cs. ap by_plain (constant_root l ss cs); by = λ l ss os cs. ap by_plain (constant_owned os l ss [] cs) }

  -- what stands for a constant is an expression, where each export of a given module is
  constants_sound : (run : ℕ) → ((t v : Tree) → constant_at k items t ≡ Some v → declares_nothing (label_of v) ≡ true) → Sound run (constants k items) shield
  constants_sound run x = record {
    spanless = constants_spanless;
    values = λ i. refl;
    plain_ones = λ t v e. x t v (plain_some (constant_at k items t) v e);
    shield_exact = shield_exact run;
    shield_nothing = shield_nothing;
    shield_operand = shield_operand;
  }

  plain_no_value : (o : Option Tree) (i : ℕ) → by_plain o ≡ a_value i → ⊥
  plain_no_value None i e = cc
  plain_no_value (Some t) i e = cc

  -- no constant has a number
  no_values : (l : Label) (cs : Forest) (i : ℕ) → own_found (constants k items) l cs ≡ a_value i → ⊥
  no_values (Read x) cs i e = plain_no_value (constant_at k items (node (Read x) [] cs)) i e
  no_values (Dot m) cs i e = plain_no_value (constant_at k items (node (Dot m) [] cs)) i e
  no_values Index cs i e = plain_no_value (constant_at k items (node Index [] cs)) i e
  no_values (CallDot m) ε i e = cc
  no_values (CallDot m) (o ⊳ ts) i e = plain_no_value (constant_at k items (node (Dot m) [] (o ⊳ ε))) i e
  no_values CallIndex ε i e = cc
  no_values CallIndex (o ⊳ ε) i e = cc
  no_values CallIndex (o ⊳ t ⊳ ts) i e = plain_no_value (constant_at k items (node Index [] (o ⊳ t ⊳ ε))) i e
  no_values (CallEval x) ts i e = plain_no_value (constant_at k items (node (Read x) [] ε)) i e
  no_values (Shorthand x) ts i e = plain_no_value (constant_at k items (node (Read x) [] ε)) i e
  no_values (TypeOfName x) ts i e = plain_no_value (constant_at k items (node (Read x) [] ε)) i e
  no_values l cs i e = cc

  -- Constants are put in the places of a module: it does what it does in the world with answers.
  pub constant_same : (run : ℕ) → ((t v : Tree) → constant_at k items t ≡ Some v → declares_nothing (label_of v) ≡ true) → (l : Label) (ss : List Span) (cs : Forest)
      → SameGiven (constants k items) run (node l ss cs) (node l ss (put_all (puts (constants k items) shield (finished [])) here cs))
  constant_same run x l ss cs = put_same (constants_sound run x) [] none_worked l ss cs (each_covered (has_final []) (constants k items) (λ m ds i e. absurd (no_values m ds i e)) cs)
