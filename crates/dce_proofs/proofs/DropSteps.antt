-- Each step of the tree shaker owes nothing.
use Rattle.std.proofs.Common.{◌≡◌, ◌≤◌, ◌<◌, Bool, true, false, nat_le, List, [], ◌∷◌, refl, sym, ap, subst, ◌∙◌, arith, ◌⊎◌, inl, inr}
use Rattle.std.proofs.lemmas.Bool.{and_from, false≢true, le-leb}
use Rattle.swc_ast.specs.declared.Span.{Span}
use Rattle.swc_ast.specs.declared.VarDeclKind.{VarDeclKind}
use Rattle.swc_ast.specs.declared.VarDeclKind.TheVariants.{Var, Let, Const}
use Rattle.swc_ast.specs.Tree.{Name, Text, Label, Block, Body, CaseBody, Module, Script, VarDecl, Import, Empty, ExprStmt, Tree, node, Forest, ε, ◌⊳◌}
use Rattle.swc_ast.specs.Scope.{vars_all, declarator_names, as_lexicals, joined}
use Rattle.swc_ast.specs.Valid.{valid_all, count, is_listed}
use Rattle.swc_ast.specs.Resolved.{first_names, own_scopes}
use Rattle.swc_ast.specs.Weight.{own_weight, weight, weight_all, is_list, is_stopper}
use Rattle.static_proofs.specs.Names.{Within, Fewer, own_names}
use Rattle.static_proofs.specs.Keeps.{Keeps}
use Rattle.static_proofs.specs.Spares.{Spared, Spares}
use Rattle.static_proofs.specs.Lighter.{Lowers}
use Rattle.static_proofs.specs.Step.{Step}
use Rattle.static_proofs.specs.Together.{SparesAll}
use Rattle.static_proofs.specs.Drawn.{AllDrawn, nothing_of, all_of, part_of, none_drawn, more_drawn}
use Rattle.static_proofs.specs.Over.{Makes, Over, over_none, over_piece, over_made}
use Rattle.static_proofs.proofs.Names.{within_same, within_none, fewer_same}
use Rattle.static_proofs.proofs.Spared.{spared_same}
use Rattle.static_proofs.proofs.Drawn.{valid_below}
use Rattle.static_proofs.proofs.Plain.{Plain, statement_plain}
use Rattle.static_proofs.proofs.Over.{built_keeps_from}
use Rattle.static_proofs.proofs.Expressions.{expression_step}
use Rattle.static_proofs.proofs.Together.{list_keeps, list_spares, module_spares_all}
use Rattle.static_proofs.proofs.ListNode.{fewer_lowers}
use Rattle.dce_proofs.proofs.Dropping.{Thins, DropStep, drop_items, drop_declarators, only_values, no_values, drop_specifiers, only_value, call_object}
use Rattle.dce_proofs.proofs.Thinned.{thins_keep, thins_declarators, thins_specifiers, thins_weight, drops_keep, drops_spare, Dropped, same_items, lighter_items, drops_weight}

joined_none : (ts : Forest) → joined ts ε ≡ ts
joined_none ε = refl
joined_none (t ⊳ ts) = ap (λ z. t ⊳ z) (joined_none ts)

no_tree : (ts : Forest) → AllDrawn ts ε
no_tree ε = none_drawn
no_tree (t ⊳ ts) = more_drawn nothing_of (no_tree ts)

-- items of a list

list_spares_all : {P : Name → Type 0} (l : Label) (ss : List Span) {ts us : Forest} → is_list l ≡ true → SparesAll P ts us → Spares P (node l ss ts) (node l ss us)
list_spares_all Block ss e k = list_spares Block ss refl refl k.vars_spared
list_spares_all Body ss e k = list_spares Body ss refl refl k.vars_spared
list_spares_all CaseBody ss e k = list_spares CaseBody ss refl refl k.vars_spared
list_spares_all Script ss e k = list_spares Script ss refl refl k.vars_spared
list_spares_all Module ss e k = module_spares_all ss k
list_spares_all l ss e k = absurd (false≢true e)

items_lower : (l : Label) (ss : List Span) (ts us : Forest) → is_list l ≡ true → (us ≡ ts → ⊥) → Dropped ts us → Lowers ⊥ (node l ss ts) (node l ss us)
items_lower l ss ts us e n (same_items q) = absurd (n q)
items_lower l ss ts us e n (lighter_items a b c) = fewer_lowers l ss ts us e a c

-- declarations

lexical_names : (b : Bool) (xs : List Name) → first_names (as_lexicals b xs) ≡ xs
lexical_names b [] = refl
lexical_names b (x ∷ xs) = ap (λ ys. x ∷ ys) (lexical_names b xs)

declared_fewer : (kind : VarDeclKind) (ss : List Span) (ds es : Forest) → Fewer (declarator_names es) (declarator_names ds) → Fewer (own_names (node (VarDecl kind) ss es)) (own_names (node (VarDecl kind) ss ds))
declared_fewer Var ss ds es f = fewer_same []
declared_fewer Let ss ds es f = subst (λ xs. Fewer xs (own_names (node (VarDecl Let) ss ds))) (sym (lexical_names true (declarator_names es))) (subst (λ xs. Fewer (declarator_names es) xs) (sym (lexical_names true (declarator_names ds))) f)
declared_fewer Const ss ds es f = subst (λ xs. Fewer xs (own_names (node (VarDecl Const) ss ds))) (sym (lexical_names false (declarator_names es))) (subst (λ xs. Fewer (declarator_names es) xs) (sym (lexical_names false (declarator_names ds))) f)

declared_spared : {P : Name → Type 0} (kind : VarDeclKind) (ss : List Span) (ds es : Forest) → Spared P (declarator_names ds) (declarator_names es) → Spared P (own_names (node (VarDecl kind) ss ds)) (own_names (node (VarDecl kind) ss es))
declared_spared Var ss ds es f = spared_same []
declared_spared {P} Let ss ds es f = subst (λ xs. Spared P xs (own_names (node (VarDecl Let) ss es))) (sym (lexical_names true (declarator_names ds))) (subst (λ xs. Spared P (declarator_names ds) xs) (sym (lexical_names true (declarator_names es))) f)
declared_spared {P} Const ss ds es f = subst (λ xs. Spared P xs (own_names (node (VarDecl Const) ss es))) (sym (lexical_names false (declarator_names ds))) (subst (λ xs. Spared P (declarator_names ds) xs) (sym (lexical_names false (declarator_names es))) f)

none_spared : {P : Name → Type 0} (kind : VarDeclKind) (ss : List Span) (ds : Forest) → Spared P (declarator_names ds) [] → Spared P (own_names (node (VarDecl kind) ss ds)) []
none_spared Var ss ds f = spared_same []
none_spared {P} Let ss ds f = subst (λ xs. Spared P xs []) (sym (lexical_names true (declarator_names ds))) f
none_spared {P} Const ss ds f = subst (λ xs. Spared P xs []) (sym (lexical_names false (declarator_names ds))) f

same_listed : (kind : VarDeclKind) (ss : List Span) (ds es : Forest) → is_listed (node (VarDecl kind) ss es) ≡ is_listed (node (VarDecl kind) ss ds)
same_listed Var ss ds es = refl
same_listed Let ss ds es = refl
same_listed Const ss ds es = refl

declarators_keep : (kind : VarDeclKind) (ss : List Span) (ds es : Forest) → Thins ds es → 1 ≤ count es → Keeps (node (VarDecl kind) ss ds) (node (VarDecl kind) ss es)
unfolding own_scopes
declarators_keep kind ss ds es h n =
    let k = thins_keep h in
    record {
      scopes_kept = λ x. omega (arith, k.scopes_kept x);
      vars_kept = k.list_kept.vars_kept;
      names_kept = declared_fewer kind ss ds es (thins_declarators h);
      own_kept = declared_fewer kind ss ds es (thins_declarators h);
      frame_kept = refl;
      part_kept = tt;
      listed_kept = λ e. sym (same_listed kind ss ds es) ∙ e;
      valid_kept = λ v. and_from (nat_le 1 (count es)) (valid_all es) (le-leb 1 (count es) n) (k.valid_kept (valid_below (VarDecl kind) ss ds v));
      aimed_kept = λ g v. k.aimed_kept g v;
      apart_kept = λ v. k.apart_kept v;
      fits_kept = λ v. k.fits_kept v;
    }

expression_made : (V F : Type 0) (ws : Forest) → Makes V F ExprStmt ws
unfolding own_scopes
expression_made V F ws = record { names = λ v. refl; shape = λ v. refl; numbers = λ f. refl; scope = λ f. refl; opens_none = λ x. refl; out = refl; no_function = refl; no_jump = λ g. refl }

empty_made : (V F : Type 0) → Makes V F Empty ε
unfolding own_scopes
empty_made V F = record { names = λ v. refl; shape = λ v. refl; numbers = λ f. refl; scope = λ f. refl; opens_none = λ x. refl; out = refl; no_function = refl; no_jump = λ g. refl }

declaration_lowers : (kind : VarDeclKind) (ss : List Span) (ds : Forest) (u : Tree) → weight u < weight (node (VarDecl kind) ss ds) → is_stopper u ≡ false → Lowers ⊥ (node (VarDecl kind) ss ds) u
declaration_lowers kind ss ds u h s = record { lower = h; lower_list = λ i. absurd i; truth_kept = λ i. absurd (false≢true i); stopper_paid = λ i. absurd (false≢true (sym s ∙ i)); stay_paid = λ i. absurd (false≢true i) }

-- a declaration whose names need not be kept becomes a plain statement
gone_spares : {P : Name → Type 0} (kind : VarDeclKind) (ss : List Span) (ds : Forest) (u : Tree) → Plain u → Spared P (declarator_names ds) [] → Spared P (vars_all ds) [] → Spares P (node (VarDecl kind) ss ds) u
gone_spares {P} kind ss ds u q f g = record {
  vars_spared = record { by = λ x p h. absurd (false≢true (g.by x p h)) };
  names_spared = record { by = λ x p h. absurd (false≢true ((none_spared kind ss ds f).by x p h)) };
  own_spared = record { by = λ x p h. absurd (false≢true ((none_spared kind ss ds f).by x p h)) };
  frame_spared = q.no_frame;
  part_spared = tt;
  exports_kept = subst (λ xs. Within xs []) (sym q.no_exports) (within_same []);
  exports_bound_kept = λ e i. q.exports_hold;
}

over_behind : {V F : Type 0} {us ws : Forest} {l : Label} (rs : List Span) → Makes V F l ws → Over V F us ws → Over V F us (node l rs ws ⊳ ε)
over_behind {V} {F} {us} {ws} {l} rs m o = subst (λ z. Over V F z (node l rs ws ⊳ ε)) (joined_none us) (over_made m o over_none)

-- import specifiers

specifiers_keep : (src : Text) (ss : List Span) (ts us : Forest) → Thins ts us → Keeps (node (Import src) ss ts) (node (Import src) ss us)
unfolding own_scopes
specifiers_keep src ss ts us h =
    let k = thins_keep h in
    record {
      scopes_kept = λ x. omega (arith, k.scopes_kept x);
      vars_kept = within_same [];
      names_kept = fewer_same [];
      own_kept = fewer_same [];
      frame_kept = refl;
      part_kept = thins_specifiers h;
      listed_kept = λ e. e;
      valid_kept = λ v. k.valid_kept (valid_below (Import src) ss ts v);
      aimed_kept = λ g v. k.aimed_kept g v;
      apart_kept = λ v. k.apart_kept v;
      fits_kept = λ v. k.fits_kept v;
    }

specifiers_lower : (src : Text) (ss : List Span) (ts us : Forest) → (us ≡ ts → ⊥) → (us ≡ ts) ⊎ (weight_all us < weight_all ts) → Lowers ⊥ (node (Import src) ss ts) (node (Import src) ss us)
unfolding own_weight
specifiers_lower src ss ts us n (inl e) = absurd (n e)
specifiers_lower src ss ts us n (inr h) = record { lower = omega arith; lower_list = λ i. absurd i; truth_kept = λ i. absurd (false≢true i); stopper_paid = λ i. absurd (false≢true i); stay_paid = λ i. inl i }

declarators_lower : (kind : VarDeclKind) (ss : List Span) (ds es : Forest) → (es ≡ ds → ⊥) → (es ≡ ds) ⊎ (weight_all es < weight_all ds) → Lowers ⊥ (node (VarDecl kind) ss ds) (node (VarDecl kind) ss es)
unfolding own_weight
declarators_lower kind ss ds es n (inl e) = absurd (n e)
declarators_lower kind ss ds es n (inr h) = declaration_lowers kind ss ds (node (VarDecl kind) ss es) (omega arith) refl

pub drop_step : {P : Name → Type 0} (t u : Tree) → DropStep P t u → Step ⊥ P t u
unfolding own_weight
drop_step t u (drop_items {l = l} {ss = ss} {ts = ts} {us = us} e h n) = record { keeps = list_keeps l ss e (drops_keep h); spares = list_spares_all l ss e (drops_spare h); lowers = items_lower l ss ts us e n (drops_weight h) }
drop_step t u (drop_declarators {kind = kind} {ss = ss} {ds = ds} {es = es} h f g c n) = record {
  keeps = declarators_keep kind ss ds es h c;
  spares = record { vars_spared = g; names_spared = declared_spared kind ss ds es f; own_spared = declared_spared kind ss ds es f; frame_spared = refl; part_spared = tt; exports_kept = within_same []; exports_bound_kept = λ p i. refl };
  lowers = declarators_lower kind ss ds es n (thins_weight h);
}
drop_step t u (only_values {kind = kind} {ss = ss} {rs = rs} {ds = ds} {parts = parts} {e = e} f g d o w) = record {
  keeps = built_keeps_from refl refl (statement_plain (node ExprStmt rs (e ⊳ ε)) refl) (within_none _) d (over_behind rs (expression_made _ _ (e ⊳ ε)) o);
  spares = gone_spares kind ss ds (node ExprStmt rs (e ⊳ ε)) (statement_plain (node ExprStmt rs (e ⊳ ε)) refl) f g;
  lowers = declaration_lowers kind ss ds (node ExprStmt rs (e ⊳ ε)) (omega (arith, w)) refl;
}
drop_step t u (no_values {kind = kind} {ss = ss} {rs = rs} {ds = ds} f g) = record {
  keeps = built_keeps_from refl refl (statement_plain (node Empty rs ε) refl) (within_none _) (no_tree ds) (over_made (empty_made _ _) over_none over_none);
  spares = gone_spares kind ss ds (node Empty rs ε) (statement_plain (node Empty rs ε) refl) f g;
  lowers = declaration_lowers kind ss ds (node Empty rs ε) (omega arith) refl;
}
drop_step t u (drop_specifiers {src = src} {ss = ss} {ts = ts} {us = us} h f n) = record {
  keeps = specifiers_keep src ss ts us h;
  spares = record { vars_spared = spared_same []; names_spared = spared_same []; own_spared = spared_same []; frame_spared = refl; part_spared = f; exports_kept = within_same []; exports_bound_kept = λ p i. refl };
  lowers = specifiers_lower src ss ts us n (thins_weight h);
}
drop_step t u (only_value h) = expression_step refl h refl (more_drawn all_of none_drawn) (over_piece over_none) (omega arith)
drop_step t u (call_object h) = expression_step refl h refl (more_drawn (part_of refl (more_drawn nothing_of (more_drawn (part_of refl (more_drawn (part_of refl (more_drawn all_of none_drawn)) none_drawn)) none_drawn))) none_drawn) (over_piece over_none) (omega arith)
