-- Good trees are safe, where calls are.
use Rattle.std.proofs.Common.{◌≡◌, ℕ, Bool, true, false, List, [], ◌∷◌, Option, Some, None, refl, sym, ap, subst}
use Rattle.swc_ast.specs.declared.Span.{Span}
use Rattle.swc_ast.specs.declared.VarDeclKind.{VarDeclKind}
use Rattle.swc_ast.specs.declared.VarDeclKind.TheVariants.{Var}
use Rattle.swc_ast.specs.Tree.{Name, Label, NumLit, StrLit, BoolLit, NullLit, Read, Method, Fn, Arrow, FnDecl, ExportDefaultFn, Block, For, Switch, Try, VarDecl, Declarator, ExportDecl, CaseBody, Tree, node, Forest, ε, ◌⊳◌}
use Rattle.swc_ast.specs.Value.{Value, State, Done, and_then, Undefined, Function as FunctionValue, Context, Meaning}
use Rattle.swc_ast.specs.Meaning.{gives, initialise, act, eval, evals, run_all, in_list_scope, for_loop, switch, try_catch, declare, cases_of, read, Caller}
use Rattle.std.proofs.lemmas.Bool.{false≢true, true≢false}
use Rattle.link_proofs.specs.Links.{Links, Ground, Proper, Put, nothing, a_name, a_value, put_at, through, linked_act, linked_eval, linked_evals, is_group, Good, good, good_block, good_for, good_switch, good_try, good_switch_none, good_try_bad, is_three, good_fn, good_arrow, good_method, good_declared, good_default, good_variable, Goods, no_good, more_good, callable, Invoked, invoked_fn, invoked_arrow, invoked_method, Items, no_items, a_declaration, an_export, an_item, Chain, chain_end, chain_item, chain_settles, Begins, begins_good, begins_first, begins_linked, begins_copy, begins_value, PlacedAt, begins_known, begins_unset, literal_value, begins_group, Cases, no_cases, last_case, a_case}
use Rattle.link_proofs.proofs.State.{World, Fine, context_up, calmed, Safe, SafeCalls, gives_safe, bind}
use Rattle.link_proofs.proofs.Parts.{bad_safe, Both, none, more, key_text_safe, one_field_safe}
use Rattle.link_proofs.proofs.Lists.{Sets, calm_sets, sets_nil, sets_more, sets_cons, list_safe, declare_first, declare_known, declare_unset, variable_safe, export_sets}
use Rattle.link_proofs.proofs.Fors.{declare_linked, for_safe, try_safe, CasesMean, no_case, a_default, a_test, switch_safe}
use Rattle.link_proofs.proofs.Copies.{declare_copy, declare_value}
use Rattle.link_proofs.proofs.Chains.{ChainSets, chain_nil, chain_cons, chain_settle, declaration_sets, init_inits}
use Rattle.link_proofs.proofs.Acts.{put_is, put_value_is, puts_none, act_safe}

through_none : (mark : ℕ) (x : Name) (o : Put) → o ≡ nothing → through mark x o (read mark x) (λ z. read mark z) (λ v. gives v) ≡ read mark x
through_none mark x nothing e = refl
through_none mark x (a_name z) e = cc
through_none mark x (a_value v) e = cc

some_same : {A : Type 0} {a b : A} → Some a ≡ Some b → a ≡ b
some_same e = cc

none_is_some : {A : Type 0} {a : A} → None ≡ Some a → ⊥
none_is_some e = cc

module _ {L : Links} {mark : ℕ} (P : Proper L mark) (n : ℕ) (call call' : Caller) where
  block_act : {G : Ground} (ss : List Span) (cs : Forest) (ms ns : List Meaning) → Safe L G (in_list_scope cs (run_all ms)) (in_list_scope cs (run_all ns)) → Safe L G (act mark n call Block ss cs ms) (linked_act L mark n call' Block ss cs ns)
  unfolding act linked_act
  block_act ss cs ms ns h = h

  for_act : {G : Ground} (i t u b : Tree) (ss : List Span) (mi mt mu mb ni nt nu nb : Meaning) → Safe L G (for_loop n i mi mt mu mb) (for_loop n i ni nt nu nb) → Safe L G (act mark n call For ss (i ⊳ t ⊳ u ⊳ b ⊳ ε) (mi ∷ mt ∷ mu ∷ mb ∷ [])) (linked_act L mark n call' For ss (i ⊳ t ⊳ u ⊳ b ⊳ ε) (ni ∷ nt ∷ nu ∷ nb ∷ []))
  unfolding act linked_act
  for_act i t u b ss mi mt mu mb ni nt nu nb h = h

  switch_act : {G : Ground} (ds : List Bool) (t : Tree) (cs : Forest) (ss : List Span) (m m' : Meaning) (ms ns : List Meaning) → Safe L G (switch (t ⊳ cs) (cases_of ds ms) m) (switch (t ⊳ cs) (cases_of ds ns) m') → Safe L G (act mark n call (Switch ds) ss (t ⊳ cs) (m ∷ ms)) (linked_act L mark n call' (Switch ds) ss (t ⊳ cs) (m' ∷ ns))
  unfolding act linked_act
  switch_act ds t cs ss m m' ms ns h = h

  try_act : {G : Ground} (p : Option (Option Name)) (cs : Forest) (ss : List Span) (b h f b' h' f' : Meaning) → Safe L G (try_catch p b h f) (try_catch p b' h' f') → Safe L G (act mark n call (Try p) ss cs (b ∷ h ∷ f ∷ [])) (linked_act L mark n call' (Try p) ss cs (b' ∷ h' ∷ f' ∷ []))
  unfolding act linked_act
  try_act p cs ss b h f b' h' f' k = k

  switch_none : {G : Ground} (ds : List Bool) (ss : List Span) → Safe L G (act mark n call (Switch ds) ss ε []) (linked_act L mark n call' (Switch ds) ss ε [])
  unfolding act linked_act
  switch_none ds ss = bad_safe P _

  try_bad : {G : Ground} (p : Option (Option Name)) (ss : List Span) (cs : Forest) → is_three cs ≡ false → Safe L G (act mark n call (Try p) ss cs (evals mark n call cs)) (linked_act L mark n call' (Try p) ss cs (linked_evals L mark n call' cs))
  unfolding act linked_act evals linked_evals
  try_bad p ss ε e = bad_safe P _
  try_bad p ss (a ⊳ ε) e = bad_safe P _
  try_bad p ss (a ⊳ b ⊳ ε) e = bad_safe P _
  try_bad p ss (a ⊳ b ⊳ c ⊳ ε) e = absurd (true≢false e)
  try_bad p ss (a ⊳ b ⊳ c ⊳ d ⊳ cs) e = bad_safe P _

  fn_act : {G : Ground} (o : Option Name) (ss : List Span) (cs : Forest) (ms ns : List Meaning) → Invoked L G (node (Fn o) ss cs) → Safe L G (act mark n call (Fn o) ss cs ms) (linked_act L mark n call' (Fn o) ss cs ns)
  unfolding act linked_act
  fn_act {G} o ss cs ms ns h = record { at = λ w c hc. gives_safe (FunctionValue (node (Fn o) ss cs) c.env Undefined) (record { ground = G; env = calmed hc.env; body = h }, tt) }

  arrow_act : {G : Ground} (ss : List Span) (cs : Forest) (ms ns : List Meaning) → Invoked L G (node Arrow ss cs) → Safe L G (act mark n call Arrow ss cs ms) (linked_act L mark n call' Arrow ss cs ns)
  unfolding act linked_act
  arrow_act {G} ss cs ms ns h = record { at = λ w c hc. gives_safe (FunctionValue (node Arrow ss cs) c.env c.this) (record { ground = G; env = calmed hc.env; body = h }, hc.this) }

  method_act : {G : Ground} (ss : List Span) (cs : Forest) {m m' : Meaning} (p b q d : Meaning) → Invoked L G (node Method ss cs) → Safe L G m m' → Safe L G (act mark n call Method ss cs (m ∷ p ∷ b ∷ [])) (linked_act L mark n call' Method ss cs (m' ∷ q ∷ d ∷ []))
  unfolding act linked_act
  method_act {G} ss cs p b q d h hm = record {
    at = λ w c hc. bind (hm.at w c hc) (λ u g v r. bind (key_text_safe P u v) (λ x j t z. let hx = context_up j (context_up g hc) in one_field_safe P x t (FunctionValue (node Method ss cs) c.env Undefined) (record { ground = G; env = calmed hx.env; body = h }, tt)));
  }

  declared_act : {G : Ground} (x : Name) (ss : List Span) (cs : Forest) (ms ns : List Meaning) → Safe L G (act mark n call (FnDecl x) ss cs ms) (linked_act L mark n call' (FnDecl x) ss cs ns)
  unfolding act linked_act
  declared_act x ss cs ms ns = record { at = λ w c hc. gives_safe Undefined tt }

  default_act : {G : Ground} (o : Option Name) (ss : List Span) (cs : Forest) (ms ns : List Meaning) → Safe L G (act mark n call (ExportDefaultFn o) ss cs ms) (linked_act L mark n call' (ExportDefaultFn o) ss cs ns)
  unfolding act linked_act
  default_act o ss cs ms ns = record { at = λ w c hc. gives_safe Undefined tt }

  variable_act : {G : Ground} (y : Name) (ss : List Span) → Safe L G (act mark n call (Declarator Var y) ss ε []) (linked_act L mark n call' (Declarator Var y) ss ε [])
  unfolding act linked_act
  variable_act y ss = variable_safe P y

  declarator_act : {G : Ground} {B : Name → Bool} (k : VarDeclKind) (x : Name) (ss : List Span) (cs : Forest) (ms ns : List Meaning) → Sets L G B (declare k x ms) (declare k x ns) → Sets L G B (act mark n call (Declarator k x) ss cs ms) (linked_act L mark n call' (Declarator k x) ss cs ns)
  unfolding act linked_act
  declarator_act k x ss cs ms ns h = h

  group_act : {G : Ground} {B : Name → Bool} (l : Label) (ss : List Span) (cs : Forest) → is_group l ≡ true → (ms ns : List Meaning) → Sets L G B (run_all ms) (run_all ns) → Sets L G B (act mark n call l ss cs ms) (linked_act L mark n call' l ss cs ns)
  unfolding act linked_act
  group_act (VarDecl k) ss cs e ms ns h = h
  group_act ExportDecl ss cs e ms ns h = h
  group_act CaseBody ss cs e ms ns h = h
  group_act _ ss cs e ms ns h = absurd (false≢true e)

  read_eval : (x : Name) (ss : List Span) → eval mark n call (node (Read x) ss ε) ≡ read mark x
  unfolding eval evals act
  read_eval x ss = refl

  read_linked : (x : Name) (ss : List Span) → L.link x ≡ None → L.known x ≡ None → L.settles x ≡ nothing → linked_eval L mark n call' (node (Read x) ss ε) ≡ read mark x
  unfolding linked_eval linked_evals linked_act
  read_linked x ss e i j = through_none mark x (put_at L x ss) (puts_none L x ss e i j)

  linked_declare : {G : Ground} {B : Name → Bool} (k : VarDeclKind) (y x : Name) (rs : List Span) → L.link y ≡ Some x → L.known y ≡ None → B y ≡ true → Sets L G B (declare k y (eval mark n call (node (Read x) rs ε) ∷ [])) (declare k y (linked_eval L mark n call' (node (Read x) rs ε) ∷ []))
  linked_declare {G} {B} k y x rs l u b =
      subst (λ (m : Meaning). Sets L G B (declare k y (m ∷ [])) (declare k y (linked_eval L mark n call' (node (Read x) rs ε) ∷ []))) (sym (read_eval x rs))
      (subst (λ (m : Meaning). Sets L G B (declare k y (read mark x ∷ [])) (declare k y (m ∷ []))) (sym (read_linked x rs (P.target_ends y x l) (P.target_unknown y x l) (P.target_settles y x l))) (declare_linked P k y x l u b))

  copied_declare : {G : Ground} {B : Name → Bool} (k : VarDeclKind) (y x a : Name) (rs : List Span) → L.link y ≡ Some x → L.known y ≡ None → B y ≡ true → PlacedAt L G a rs → put_at L a rs ≡ a_name x → Sets L G B (declare k y (eval mark n call (node (Read a) rs ε) ∷ [])) (declare k y (linked_eval L mark n call' (node (Read a) rs ε) ∷ []))
  unfolding eval evals linked_eval linked_evals linked_act act
  copied_declare {G} {B} k y x a rs l u b q e =
      subst (λ (o : Put). Sets L G B (declare k y (read mark a ∷ [])) (declare k y (through mark a o (read mark a) (λ z. read mark z) (λ v. gives v) ∷ []))) (sym e) (declare_copy P k y x a l u b (put_is L G a rs q x e))

  valued_declare : {G : Ground} {B : Name → Bool} (k : VarDeclKind) (y a : Name) (v : Value) (rs : List Span) → L.link y ≡ None → L.known y ≡ Some v → B y ≡ true → PlacedAt L G a rs → put_at L a rs ≡ a_value v → Sets L G B (declare k y (eval mark n call (node (Read a) rs ε) ∷ [])) (declare k y (linked_eval L mark n call' (node (Read a) rs ε) ∷ []))
  unfolding eval evals linked_eval linked_evals linked_act act
  valued_declare {G} {B} k y a v rs l u b q e =
      subst (λ (o : Put). Sets L G B (declare k y (read mark a ∷ [])) (declare k y (through mark a o (read mark a) (λ z. read mark z) (λ v. gives v) ∷ []))) (sym e) (declare_value P k y a v l u b (put_value_is L G a rs q v e))

  variable_runs : (k : VarDeclKind) (ss : List Span) (ds : Forest) (c : Context) (s : State) → eval mark n call (node (VarDecl k) ss ds) c s ≡ run_all (evals mark n call ds) c s
  unfolding eval act
  variable_runs k ss ds c s = refl

  variable_linked : (k : VarDeclKind) (ss : List Span) (ds : Forest) (c : Context) (s : State) → linked_eval L mark n call' (node (VarDecl k) ss ds) c s ≡ run_all (linked_evals L mark n call' ds) c s
  unfolding linked_eval linked_act act
  variable_linked k ss ds c s = refl

  export_runs : (ss : List Span) (d : Tree) (c : Context) (s : State) → eval mark n call (node ExportDecl ss (d ⊳ ε)) c s ≡ run_all (eval mark n call d ∷ []) c s
  unfolding eval evals act
  export_runs ss d c s = refl

  export_linked : (ss : List Span) (d : Tree) (c : Context) (s : State) → linked_eval L mark n call' (node ExportDecl ss (d ⊳ ε)) c s ≡ run_all (linked_eval L mark n call' d ∷ []) c s
  unfolding linked_eval linked_evals linked_act act
  export_linked ss d c s = refl

  declarator_runs : (y : Name) (ss : List Span) (t : Tree) (c : Context) (s : State) → eval mark n call (node (Declarator Var y) ss (t ⊳ ε)) c s ≡ and_then (eval mark n call t c s) (λ v. initialise y v c)
  unfolding eval evals act declare
  declarator_runs y ss t c s = refl

  declarator_linked : (y : Name) (ss : List Span) (t : Tree) (c : Context) (s : State) → linked_eval L mark n call' (node (Declarator Var y) ss (t ⊳ ε)) c s ≡ and_then (linked_eval L mark n call' t c s) (λ v. initialise y v c)
  unfolding linked_eval linked_evals linked_act act declare
  declarator_linked y ss t c s = refl

  -- literals
  literal_fine : (l : Label) (v : Value) → literal_value l ≡ Some v → (w : World) → Fine L w v
  literal_fine (NumLit z) v e w = subst (Fine L w) (some_same e) tt
  literal_fine (StrLit t) v e w = subst (Fine L w) (some_same e) tt
  literal_fine (BoolLit b) v e w = subst (Fine L w) (some_same e) tt
  literal_fine NullLit v e w = subst (Fine L w) (some_same e) tt
  literal_fine _ v e w = absurd (none_is_some e)

  literal_runs : (l : Label) (v : Value) (rs : List Span) → literal_value l ≡ Some v → (c : Context) (s : State) → eval mark n call (node l rs ε) c s ≡ Done v s
  unfolding eval evals act
  literal_runs (NumLit z) v rs e c s = ap (λ (v : Value). Done v s) (some_same e)
  literal_runs (StrLit t) v rs e c s = ap (λ (v : Value). Done v s) (some_same e)
  literal_runs (BoolLit b) v rs e c s = ap (λ (v : Value). Done v s) (some_same e)
  literal_runs NullLit v rs e c s = ap (λ (v : Value). Done v s) (some_same e)
  literal_runs _ v rs e c s = absurd (none_is_some e)

  literal_linked : (l : Label) (v : Value) (rs : List Span) → literal_value l ≡ Some v → (c : Context) (s : State) → linked_eval L mark n call' (node l rs ε) c s ≡ Done v s
  unfolding linked_eval linked_evals linked_act act
  literal_linked (NumLit z) v rs e c s = ap (λ (v : Value). Done v s) (some_same e)
  literal_linked (StrLit t) v rs e c s = ap (λ (v : Value). Done v s) (some_same e)
  literal_linked (BoolLit b) v rs e c s = ap (λ (v : Value). Done v s) (some_same e)
  literal_linked NullLit v rs e c s = ap (λ (v : Value). Done v s) (some_same e)
  literal_linked _ v rs e c s = absurd (none_is_some e)

  module _ (hk : SafeCalls L call call') where
    mutual
      unfolding eval evals linked_eval linked_evals

      pub good_safe : {G : Ground} {t : Tree} → Good L G t → Safe L G (eval mark n call t) (linked_eval L mark n call' t)
      good_safe (good l {ss} {cs} e q placed hs) = act_safe P n hk l ss cs e q placed (goods_both hs)
      good_safe (good_block {ss = ss} {cs} B op hf hs) = block_act ss cs _ _ (list_safe P op hf (items_sets hs))
      good_safe (good_for {ss = ss} {i} {t} {u} {b} B op hf oc hi ht hu hb) = for_act i t u b ss _ _ _ _ _ _ _ _ (for_safe P n i op hf oc _ _ _ _ _ _ _ _ (begins_sets hi) (good_safe ht) (good_safe hu) (good_safe hb))
      good_safe (good_switch ds {ss} {t} {cs} B ht op hf hs) = switch_act ds t cs ss _ _ _ _ (switch_safe P (t ⊳ cs) op hf (cases_mean ds hs) (good_safe ht))
      good_safe (good_try p hb op u hh hf) = try_act p _ _ _ _ _ _ _ _ (try_safe P p op u _ _ _ _ _ _ (good_safe hb) (good_safe hh) (good_safe hf))
      good_safe (good_switch_none ds {ss}) = switch_none ds ss
      good_safe (good_try_bad p {ss} {cs} e) = try_bad p ss cs e
      good_safe (good_fn o {ss} {cs} op u h) = fn_act o ss cs _ _ (invoked_fn o op u h)
      good_safe (good_arrow {ss = ss} {cs} h) = arrow_act ss cs _ _ (invoked_arrow h)
      good_safe (good_method {ss = ss} {k} hk' (callable {ps = ps} {b} B D op hp ob hf h)) = method_act ss _ _ _ _ _ (invoked_method (callable B D op hp ob hf h)) (good_safe hk')
      good_safe (good_declared x {ss} {cs} h) = declared_act x ss cs _ _
      good_safe (good_default o {ss} {cs} h) = default_act o ss cs _ _
      good_safe (good_variable y {ss}) = variable_act y ss

      pub goods_both : {G : Ground} {ts : Forest} → Goods L G ts → Both (Safe L G) (evals mark n call ts) (linked_evals L mark n call' ts)
      goods_both no_good = none
      goods_both (more_good h hs) = more (good_safe h) (goods_both hs)

      pub items_sets : {G : Ground} {B : Name → Bool} {ts : Forest} → Items L G B ts → Sets L G B (run_all (evals mark n call ts)) (run_all (linked_evals L mark n call' ts))
      items_sets no_items = sets_nil
      items_sets (a_declaration k {ss} {ds} {ts} h) = declaration_sets P _ _ (evals mark n call ds) (linked_evals L mark n call' ds) _ _ (variable_runs k ss ds) (variable_linked k ss ds) (chain_sets h)
      items_sets (an_export D {ss} {d} {ts} i h) = sets_more i (export_sets (eval mark n call d) (linked_eval L mark n call' d) _ _ _ _ (export_runs ss d) (export_linked ss d) (items_sets h))
      items_sets (an_item {t = t} {ts} B₁ B₂ q h hs) = sets_cons _ _ q (begins_sets h) (items_sets hs)

      chain_sets : {G : Ground} {B : Name → Bool} {ds ts : Forest} → Chain L G B ds ts → ChainSets L G B (evals mark n call ds) (linked_evals L mark n call' ds) (evals mark n call ts) (linked_evals L mark n call' ts)
      chain_sets (chain_end h) = chain_nil P _ _ (items_sets h)
      chain_sets (chain_item {d = d} {ds} {ts} B₁ B₂ q h hs) = chain_cons P _ _ _ _ _ _ q (begins_sets h) (chain_sets hs)
      chain_sets (chain_settles y p {ss} {t} {ds} {ts} e g i hs) = chain_settle P y p _ _ (eval mark n call t) (linked_eval L mark n call' t) _ _ _ _ e g (init_inits P n call call' y e i) (declarator_runs y ss t) (declarator_linked y ss t) (chain_sets hs)

      pub begins_sets : {G : Ground} {B : Name → Bool} {t : Tree} → Begins L G B t → Sets L G B (eval mark n call t) (linked_eval L mark n call' t)
      begins_sets (begins_good h) = calm_sets (good_safe h)
      begins_sets (begins_first k x {ss} {cs} l u b hs) = declarator_act k x ss cs _ _ (declare_first P k x l u b (goods_both hs))
      begins_sets (begins_copy k y x a {ss} {rs} l u b q e) = declarator_act k y ss (node (Read a) rs ε ⊳ ε) _ _ (copied_declare k y x a rs l u b q e)
      begins_sets (begins_value k y a {v} {ss} {rs} l u b q e) = declarator_act k y ss (node (Read a) rs ε ⊳ ε) _ _ (valued_declare k y a v rs l u b q e)
      begins_sets (begins_known k y {v} l {ss} {rs} i u b e) = declarator_act k y ss (node l rs ε ⊳ ε) _ _ (declare_known P k y v i u (literal_fine l v e) b _ _ (literal_runs l v rs e) (literal_linked l v rs e))
      begins_sets (begins_unset k y {ss} i u b) = declarator_act k y ss ε _ _ (declare_unset P k y i u b)
      begins_sets (begins_linked k y x {ss} {rs} l u b) = declarator_act k y ss (node (Read x) rs ε ⊳ ε) _ _ (linked_declare k y x rs l u b)
      begins_sets (begins_group l {ss} {cs} e hs) = group_act l ss cs e _ _ (items_sets hs)

      cases_mean : {G : Ground} {B : Name → Bool} {cs : Forest} (ds : List Bool) → Cases L G B cs → CasesMean P G B (cases_of ds (evals mark n call cs)) (cases_of ds (linked_evals L mark n call' cs))
      cases_mean [] no_cases = no_case
      cases_mean (d ∷ ds) no_cases = no_case
      cases_mean [] last_case = no_case
      cases_mean (d ∷ ds) last_case = no_case
      cases_mean [] (a_case B₁ B₂ q ht hb hs) = no_case
      cases_mean (true ∷ ds) (a_case B₁ B₂ q ht hb hs) = a_default B₁ B₂ q (begins_sets hb) (cases_mean ds hs)
      cases_mean (false ∷ ds) (a_case B₁ B₂ q ht hb hs) = a_test B₁ B₂ q (good_safe ht) (begins_sets hb) (cases_mean ds hs)
