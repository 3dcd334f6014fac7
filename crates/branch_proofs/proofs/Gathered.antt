-- Statements as_statement into one.
use Rattle.std.proofs.Common.{◌≡◌, ◌+◌, ◌*◌, ◌≤◌, true, ◌&&◌, List, [], ◌++◌, refl, sym, ap, subst, ◌∙◌, arith, append-nil}
use Rattle.std.proofs.lemmas.Bool.{and_parts, or_left, or_right, false≢true, le-leb}
use Rattle.swc_ast.specs.declared.Span.{Span}
use Rattle.swc_ast.specs.declared.VarDeclKind.TheVariants.{Var}
use Rattle.swc_ast.specs.Tree.{Name, same_name, Block, Empty, ExprStmt, VarDecl, Declarator, node, Forest, ε, ◌⊳◌, label_of}
use Rattle.swc_ast.specs.Scope.{has_name, vars, vars_all, declarator_names, joined}
use Rattle.swc_ast.specs.Valid.{count, is_identifier, valid_all}
use Rattle.swc_ast.specs.Resolved.{one_if, own_scopes}
use Rattle.swc_ast.specs.Core.{once_each, none_in}
use Rattle.swc_ast.specs.Weight.{own_weight, weight, weight_all, unreached}
use Rattle.static_proofs.specs.Drawn.{is_plain_statement}
use Rattle.static_proofs.specs.Over.{Makes, Over, over_none, over_piece, over_made}
use Rattle.static_proofs.proofs.Names.{same_name_itself, found_first}
use Rattle.branch_rules.specs.Statements.{all_plain}
use Rattle.branch_proofs.proofs.ListForms.{are_bare, Hoists, no_vars, some_vars}
use Rattle.branch_rules.specs.Statements.{as_statement}
use Rattle.branch_proofs.proofs.PlainNames.{plain_names}
use Rattle.branch_proofs.proofs.Hoists.{all_var_identifiers}

-- joined lists

pub joined_none : (ts : Forest) → joined ts ε ≡ ts
joined_none ε = refl
joined_none (t ⊳ ts) = ap (λ z. t ⊳ z) (joined_none ts)

pub joined_assoc : (ts us vs : Forest) → joined (joined ts us) vs ≡ joined ts (joined us vs)
joined_assoc ε us vs = refl
joined_assoc (t ⊳ ts) us vs = ap (λ z. t ⊳ z) (joined_assoc ts us vs)

pub over_joined : {V F : Type 0} {us vs ps qs : Forest} → Over V F us vs → Over V F ps qs → Over V F (joined us ps) (joined vs qs)
over_joined over_none k = k
over_joined (over_piece o) k = over_piece (over_joined o k)
over_joined {V} {F} {us = us} {vs = vs} {ps = ps} {qs = qs} (over_made {l = l} {ss = ss} {us = es} {ws = ws} {ts = bs} {vs = cs} m o os) k = subst (λ z. Over V F z (node l ss ws ⊳ joined cs qs)) (sym (joined_assoc es bs ps)) (over_made m o (over_joined os k))

pub over_itself : {V F : Type 0} (ts : Forest) → Over V F ts ts
over_itself ε = over_none
over_itself (t ⊳ ts) = over_piece (over_itself ts)

-- new statements

pub expression_made : (V F : Type 0) (ws : Forest) → Makes V F ExprStmt ws
unfolding own_scopes
expression_made V F ws = record { names = λ v. refl; shape = λ v. refl; numbers = λ f. refl; scope = λ f. refl; opens_none = λ x. refl; out = refl; no_function = refl; no_jump = λ g. refl }

pub empty_made : (V F : Type 0) (ws : Forest) → Makes V F Empty ws
unfolding own_scopes
empty_made V F ws = record { names = λ v. refl; shape = λ v. refl; numbers = λ f. refl; scope = λ f. refl; opens_none = λ x. refl; out = refl; no_function = refl; no_jump = λ g. refl }

pub block_made : (V F : Type 0) (ws : Forest) → all_plain ws ≡ true → Makes V F Block ws
unfolding own_scopes
block_made V F ws h = record { names = λ v. refl; shape = λ v. refl; numbers = λ f. refl; scope = λ f. ap (λ xs. once_each xs xs && none_in xs (vars_all ws)) (plain_names ws h); opens_none = λ x. ap one_if (found_first x _ ∙ ap (has_name x) (plain_names ws h)); out = refl; no_function = refl; no_jump = λ g. refl }

declarator_made : (V F : Type 0) (x : Name) → (V → is_identifier x.text ≡ true) → Makes V F (Declarator Var x) ε
unfolding own_scopes
declarator_made V F x h = record { names = h; shape = λ v. refl; numbers = λ f. refl; scope = λ f. refl; opens_none = λ y. refl; out = refl; no_function = refl; no_jump = λ g. refl }

vars_made : (V F : Type 0) (ds : Forest) → 1 ≤ count ds → Makes V F (VarDecl Var) ds
unfolding own_scopes
vars_made V F ds h = record { names = λ v. refl; shape = λ v. le-leb 1 (count ds) h; numbers = λ f. refl; scope = λ f. refl; opens_none = λ y. refl; out = refl; no_function = refl; no_jump = λ g. refl }

bare_over : (V F : Type 0) (ds : Forest) → are_bare ds ≡ true → (V → (x : Name) → has_name x (declarator_names ds) ≡ true → is_identifier x.text ≡ true) → Over V F ε ds
bare_over V F ε h f = over_none
bare_over V F (node (Declarator Var y) ss ε ⊳ ds) h f = over_made (declarator_made V F y (λ v. f v y (or_left (same_name y y) (has_name y (declarator_names ds)) (same_name_itself y)))) over_none (bare_over V F ds h (λ v x i. f v x (or_right (same_name x y) (has_name x (declarator_names ds)) i)))
bare_over V F (t ⊳ ds) h f = absurd (false≢true h)

pub hoists_over : (V F : Type 0) {ts hs : Forest} → (V → valid_all ts ≡ true) → Hoists ts hs → Over V F ε hs
hoists_over V F v (no_vars h) = over_none
hoists_over V F {ts} v (some_vars {ss = ss} {ds = ds} b f g n m) = over_made (vars_made V F ds n) (bare_over V F ds b (λ i x e. all_var_identifiers x ts (v i) (f.by x e))) over_none

-- as_statement statements

pub gathered_over : {V F : Type 0} (rs : List Span) (us ws : Forest) → all_plain ws ≡ true → Over V F us ws → Over V F us (as_statement rs ws ⊳ ε)
gathered_over {V} {F} rs us ε h o = empty_over us o
  where
    empty_over : (us : Forest) → Over V F us ε → Over V F us (node Empty rs ε ⊳ ε)
    empty_over us over_none = over_made (empty_made V F ε) over_none over_none
gathered_over {V} {F} rs us (w ⊳ ε) h o = o
gathered_over {V} {F} rs us (w ⊳ v ⊳ ws) h o = subst (λ z. Over V F z (node Block rs (w ⊳ v ⊳ ws) ⊳ ε)) (joined_none us) (over_made (block_made V F (w ⊳ v ⊳ ws) h) o over_none)

pub gathered_vars : (rs : List Span) (ws : Forest) → vars (as_statement rs ws) ++ [] ≡ vars_all ws
gathered_vars rs ε = refl
gathered_vars rs (w ⊳ ε) = refl
gathered_vars rs (w ⊳ v ⊳ ws) = append-nil (vars_all (w ⊳ v ⊳ ws))

pub gathered_plain : (rs : List Span) (ws : Forest) → all_plain ws ≡ true → is_plain_statement (label_of (as_statement rs ws)) ≡ true
gathered_plain rs ε h = refl
gathered_plain rs (w ⊳ ε) h = (and_parts (is_plain_statement (label_of w)) true h).0
gathered_plain rs (w ⊳ v ⊳ ws) h = refl

-- 3 for a block, and 4 for each statement in it that stands behind a stopper
pub gathered_weight : (rs : List Span) (ws : Forest) → weight (as_statement rs ws) ≤ 3 + 4 * unreached ws + weight_all ws
unfolding own_weight
gathered_weight rs ε = omega arith
gathered_weight rs (w ⊳ ε) = omega arith
gathered_weight rs (w ⊳ v ⊳ ws) = omega arith
