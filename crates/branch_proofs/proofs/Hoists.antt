-- A declaration of `var` names that were declared already declares nothing new.
use Rattle.std.proofs.Common.{◌≡◌, ◌+◌, ◌*◌, ◌≤◌, Bool, true, false, ◌&&◌, if◌then◌else◌, nat_le, [], ◌∷◌, ◌++◌, length, refl, sym, ap, subst, ◌∙◌, arith, ◌⊎◌, inl, inr, append-nil}
use Rattle.std.proofs.lemmas.Bool.{and_parts, and_from, or_cases, or_left, or_right, false≢true, le-leb}
use Rattle.swc_ast.specs.declared.VarDeclKind.TheVariants.{Var}
use Rattle.swc_ast.specs.Tree.{Name, same_name, Label, Declarator, Tree, node, Forest, ε, ◌⊳◌}
use Rattle.swc_ast.specs.Scope.{has_name, vars, vars_all, own_vars, holds_statements, declarator_names, import_names, joined}
use Rattle.swc_ast.specs.Valid.{count, is_identifier, good_names, good_shape, valid, valid_all}
use Rattle.swc_ast.specs.Resolved.{own_scopes, scopes_all, Targets, aimed_all, apart_all}
use Rattle.swc_ast.specs.Core.{list_names, fits_all}
use Rattle.swc_ast.specs.Weight.{own_weight, weight_all}
use Rattle.static_proofs.specs.Names.{Within, Fewer}
use Rattle.static_proofs.specs.Together.{without_own, KeepsAll}
use Rattle.static_proofs.proofs.Names.{same_name_path, same_name_itself, has_name_append, within_none, within_both}
use Rattle.static_proofs.proofs.Parts.{vars_joined, names_joined}
use Rattle.static_proofs.proofs.Drawn.{scopes_joined, valid_joined, aimed_joined, apart_joined, fits_joined}
use Rattle.static_proofs.proofs.Together.{imports_joined}
use Rattle.branch_proofs.proofs.ListForms.{are_bare, Hoists, no_vars, some_vars}

-- `var` names of a valid tree are identifiers

mutual
  pub var_identifier : (x : Name) (t : Tree) → valid t ≡ true → has_name x (vars t) ≡ true → is_identifier x.text ≡ true
  var_identifier x (node l ss cs) v h =
      let p = and_parts (good_names l && good_shape l cs) (valid_all cs) v in
      sides l (and_parts (good_names l) (good_shape l cs) p.0).0 (all_var_identifiers x cs p.1) (or_cases (has_name x (own_vars l)) (has_name x (if holds_statements l then vars_all cs else [])) (sym (has_name_append x (own_vars l) (if holds_statements l then vars_all cs else [])) ∙ h))
    where
      inner : (b : Bool) → (has_name x (vars_all cs) ≡ true → is_identifier x.text ≡ true) → has_name x (if b then vars_all cs else []) ≡ true → is_identifier x.text ≡ true
      inner true f e = f e
      inner false f e = absurd (false≢true e)

      own : (l : Label) → good_names l ≡ true → has_name x (own_vars l) ≡ true → is_identifier x.text ≡ true
      own (Declarator Var y) g e = declared y g (or_cases (same_name x y) false e)
        where
          declared : (y : Name) → is_identifier y.text ≡ true → (same_name x y ≡ true) ⊎ (false ≡ true) → is_identifier x.text ≡ true
          declared y g (inl i) = subst (λ z. is_identifier z.text ≡ true) (sym (same_name_path x y i)) g
          declared y g (inr i) = absurd (false≢true i)
      own l g e = absurd (false≢true e)

      sides : (l : Label) → good_names l ≡ true → (has_name x (vars_all cs) ≡ true → is_identifier x.text ≡ true) → (has_name x (own_vars l) ≡ true) ⊎ (has_name x (if holds_statements l then vars_all cs else []) ≡ true) → is_identifier x.text ≡ true
      sides l g f (inl e) = own l g e
      sides l g f (inr e) = inner (holds_statements l) f e

  pub all_var_identifiers : (x : Name) (ts : Forest) → valid_all ts ≡ true → has_name x (vars_all ts) ≡ true → is_identifier x.text ≡ true
  all_var_identifiers x ε v h = absurd (false≢true h)
  all_var_identifiers x (t ⊳ ts) v h =
      let p = and_parts (valid t) (valid_all ts) v in
      sides (var_identifier x t p.0) (all_var_identifiers x ts p.1) (or_cases (has_name x (vars t)) (has_name x (vars_all ts)) (sym (has_name_append x (vars t) (vars_all ts)) ∙ h))
    where
      sides : (has_name x (vars t) ≡ true → is_identifier x.text ≡ true) → (has_name x (vars_all ts) ≡ true → is_identifier x.text ≡ true) → (has_name x (vars t) ≡ true) ⊎ (has_name x (vars_all ts) ≡ true) → is_identifier x.text ≡ true
      sides f g (inl e) = f e
      sides f g (inr e) = g e

-- bare declarators

pub bare_vars : (ds : Forest) → are_bare ds ≡ true → vars_all ds ≡ declarator_names ds
bare_vars ε h = refl
bare_vars (node (Declarator Var x) ss ε ⊳ ds) h = ap (λ xs. x ∷ xs) (bare_vars ds h)
bare_vars (t ⊳ ds) h = absurd (false≢true h)

pub bare_scopes : (x : Name) (ds : Forest) → are_bare ds ≡ true → scopes_all x ds ≡ 0
unfolding own_scopes
bare_scopes x ε h = refl
bare_scopes x (node (Declarator Var y) ss ε ⊳ ds) h = omega (arith, bare_scopes x ds h)
bare_scopes x (t ⊳ ds) h = absurd (false≢true h)

pub bare_aimed : (g : Targets) (ds : Forest) → are_bare ds ≡ true → aimed_all g ds ≡ true
bare_aimed g ε h = refl
bare_aimed g (node (Declarator Var y) ss ε ⊳ ds) h = bare_aimed g ds h
bare_aimed g (t ⊳ ds) h = absurd (false≢true h)

pub bare_apart : (ds : Forest) → are_bare ds ≡ true → apart_all ds ≡ true
bare_apart ε h = refl
bare_apart (node (Declarator Var y) ss ε ⊳ ds) h = bare_apart ds h
bare_apart (t ⊳ ds) h = absurd (false≢true h)

pub bare_fit : (ds : Forest) → are_bare ds ≡ true → fits_all ds ≡ true
bare_fit ε h = refl
bare_fit (node (Declarator Var y) ss ε ⊳ ds) h = bare_fit ds h
bare_fit (t ⊳ ds) h = absurd (false≢true h)

pub bare_valid : (ds : Forest) → are_bare ds ≡ true → ((x : Name) → has_name x (declarator_names ds) ≡ true → is_identifier x.text ≡ true) → valid_all ds ≡ true
bare_valid ε h f = refl
bare_valid (node (Declarator Var y) ss ε ⊳ ds) h f = and_from ((is_identifier y.text && true) && true) (valid_all ds) (ap (λ b. (b && true) && true) (f y (or_left (same_name y y) (has_name y (declarator_names ds)) (same_name_itself y)))) (bare_valid ds h (λ x i. f x (or_right (same_name x y) (has_name x (declarator_names ds)) i)))
bare_valid (t ⊳ ds) h f = absurd (false≢true h)

pub bare_weight : (ds : Forest) → are_bare ds ≡ true → weight_all ds ≡ 4 * count ds
unfolding own_weight
bare_weight ε h = refl
bare_weight (node (Declarator Var y) ss ε ⊳ ds) h = omega (arith, bare_weight ds h)
bare_weight (t ⊳ ds) h = absurd (false≢true h)

-- What stands beside a list and adds nothing to it.
pub record Beside (ts hs : Forest) : Type 0 where
  pub opens_none : (x : Name) → scopes_all x hs ≡ 0
  pub vars_there : Within (vars_all hs) (vars_all ts)
  pub no_names : list_names hs ≡ []
  pub no_imports : import_names hs ≡ []
  pub valid_too : valid_all ts ≡ true → valid_all hs ≡ true
  pub aims : (g : Targets) → aimed_all g hs ≡ true
  pub stands_apart : apart_all hs ≡ true
  pub fits_too : fits_all hs ≡ true

pub hoists_beside : {ts hs : Forest} → Hoists ts hs → Beside ts hs
unfolding own_scopes
hoists_beside {ts} (no_vars h) = record { opens_none = λ x. refl; vars_there = within_none (vars_all ts); no_names = refl; no_imports = refl; valid_too = λ v. refl; aims = λ g. refl; stands_apart = refl; fits_too = refl }
hoists_beside {ts} (some_vars {ss = ss} {ds = ds} b f g n m) = record {
  opens_none = λ x. omega (arith, bare_scopes x ds b);
  vars_there = subst (λ xs. Within xs (vars_all ts)) (sym (append-nil (vars_all ds) ∙ bare_vars ds b)) f;
  no_names = refl;
  no_imports = refl;
  valid_too = λ v. and_from (nat_le 1 (count ds) && valid_all ds) true (and_from (nat_le 1 (count ds)) (valid_all ds) (le-leb 1 (count ds) n) (bare_valid ds b (λ x i. all_var_identifiers x ts v (f.by x i)))) refl;
  aims = λ g. and_from (aimed_all _ ds) true (bare_aimed _ ds b) refl;
  stands_apart = and_from (apart_all ds) true (bare_apart ds b) refl;
  fits_too = and_from (fits_all ds) true (bare_fit ds b) refl;
}

pub hoists_weight : {ts hs : Forest} → Hoists ts hs → weight_all hs ≤ 4 * length (vars_all ts) + 3
unfolding own_weight
hoists_weight (no_vars h) = omega arith
hoists_weight (some_vars {ss = ss} {ds = ds} b f g n m) = omega (arith, bare_weight ds b)

pub kept_beside : {ts us hs : Forest} → Beside ts hs → KeepsAll ts us → KeepsAll ts (joined hs us)
kept_beside {ts} {us} {hs} b k = record {
  scopes_kept = λ x. omega (arith, scopes_joined x hs us, b.opens_none x, k.scopes_kept x);
  list_kept = record {
    vars_kept = subst (λ xs. Within xs (vars_all ts)) (sym (vars_joined hs us)) (within_both b.vars_there k.list_kept.vars_kept);
    names_kept = subst (λ xs. Fewer xs (list_names ts)) (sym (names_joined hs us ∙ ap (λ xs. xs ++ list_names us) b.no_names)) k.list_kept.names_kept;
  };
  imports_kept = subst (λ xs. Fewer xs (import_names ts)) (sym (imports_joined hs us ∙ ap (λ xs. xs ++ import_names us) b.no_imports)) k.imports_kept;
  valid_kept = λ v. valid_joined hs us (b.valid_too v) (k.valid_kept v);
  aimed_kept = λ g h. aimed_joined (without_own g) hs us (b.aims (without_own g)) (k.aimed_kept g h);
  apart_kept = λ h. apart_joined hs us b.stands_apart (k.apart_kept h);
  fits_kept = λ h. fits_joined hs us b.fits_too (k.fits_kept h);
}
