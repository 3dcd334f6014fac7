-- Steps between nodes that declare nothing.
use Rattle.std.proofs.Common.{◌≡◌, ◌≤◌, true, false, [], Option, None, refl, sym, subst, ◌∙◌}
use Rattle.std.proofs.lemmas.Bool.{false≢true}
use Rattle.swc_ast.specs.Labels.{is_expression}
use Rattle.swc_ast.specs.declared.VarDeclKind.TheVariants.{Var}
use Rattle.swc_ast.specs.Tree.{Name, Label, VarDecl, Tree, node, Forest, label_of, children_of, expr, simple, holder}
use Rattle.swc_ast.specs.Scope.{vars}
use Rattle.swc_ast.specs.Valid.{valid, is_listed}
use Rattle.swc_ast.specs.Resolved.{scopes, Targets, aimed, apart, own_exports_bound}
use Rattle.swc_ast.specs.Core.{fits}
use Rattle.static_proofs.specs.Names.{Within, Fewer, names_of, own_names, frame, KeptPart}
use Rattle.static_proofs.specs.Keeps.{Keeps}
use Rattle.static_proofs.specs.Spares.{Spared, SparedPart, Spares, exports_of}
use Rattle.static_proofs.specs.Drawn.{is_plain_statement}
use Rattle.static_proofs.proofs.Names.{within_none, fewer_none}
use Rattle.static_proofs.proofs.Spared.{spared_none}

-- a node that declares nothing and is no part that a parent looks for
pub record Plain (t : Tree) : Type 0 where
  pub no_names : names_of t ≡ []
  pub no_own : own_names t ≡ []
  pub no_frame : frame t ≡ None
  pub not_listed : is_listed t ≡ false
  pub no_exports : exports_of t ≡ []
  pub exports_hold : own_exports_bound t ≡ true

plain : {t : Tree} → names_of t ≡ [] → own_names t ≡ [] → frame t ≡ None → is_listed t ≡ false → exports_of t ≡ [] → own_exports_bound t ≡ true → Plain t
plain a b c d e f = record { no_names = a; no_own = b; no_frame = c; not_listed = d; no_exports = e; exports_hold = f }

pub expression_plain : (t : Tree) → is_expression (label_of t) ≡ true → Plain t
expression_plain (node (expr e) ss cs) h = plain refl refl refl refl refl refl
expression_plain (node l ss cs) h = absurd (false≢true h)

pub statement_plain : (t : Tree) → is_plain_statement (label_of t) ≡ true → Plain t
statement_plain (node (simple s) ss cs) h = plain refl refl refl refl refl refl
statement_plain (node (holder l) ss cs) h = plain refl refl refl refl refl refl
statement_plain (node (VarDecl Var) ss cs) h = plain refl refl refl refl refl refl
statement_plain (node l ss cs) h = absurd (false≢true h)

no_part : (f : Option Label) (ts us : Forest) → f ≡ None → KeptPart f ts us
no_part f ts us e = subst (λ g. KeptPart g ts us) (sym e) tt

-- what declares nothing may take the place of any node that is no part
pub keeps_to_plain : {t u : Tree} → frame t ≡ None → Plain u → ((x : Name) → scopes x u ≤ scopes x t) → Within (vars u) (vars t) → (valid t ≡ true → valid u ≡ true) → ((g : Targets) → aimed g t ≡ true → aimed g u ≡ true) → (apart t ≡ true → apart u ≡ true) → (fits t ≡ true → fits u ≡ true) → Keeps t u
keeps_to_plain {t} {u} p q s v h a i f = record {
  scopes_kept = s;
  vars_kept = v;
  names_kept = subst (λ xs. Fewer xs (names_of t)) (sym q.no_names) (fewer_none (names_of t));
  own_kept = subst (λ xs. Fewer xs (own_names t)) (sym q.no_own) (fewer_none (own_names t));
  frame_kept = q.no_frame ∙ sym p;
  part_kept = no_part (frame t) (children_of t) (children_of u) p;
  listed_kept = λ e. absurd (false≢true (sym q.not_listed ∙ e));
  valid_kept = h;
  aimed_kept = a;
  apart_kept = i;
  fits_kept = f;
}

pub keeps_plain : {t u : Tree} → Plain t → Plain u → ((x : Name) → scopes x u ≤ scopes x t) → Within (vars u) (vars t) → (valid t ≡ true → valid u ≡ true) → ((g : Targets) → aimed g t ≡ true → aimed g u ≡ true) → (apart t ≡ true → apart u ≡ true) → (fits t ≡ true → fits u ≡ true) → Keeps t u
keeps_plain p q s v h a i f = keeps_to_plain p.no_frame q s v h a i f

no_spared_part : (P : Name → Type 0) (f : Option Label) (ts us : Forest) → f ≡ None → SparedPart P f ts us
no_spared_part P f ts us e = subst (λ g. SparedPart P g ts us) (sym e) tt

pub spares_plain : {P : Name → Type 0} {t u : Tree} → Plain t → Plain u → Spared P (vars t) (vars u) → Spares P t u
spares_plain {P} {t} {u} p q v = record {
  vars_spared = v;
  names_spared = subst (λ xs. Spared P xs (names_of u)) (sym p.no_names) (spared_none (names_of u));
  own_spared = subst (λ xs. Spared P xs (own_names u)) (sym p.no_own) (spared_none (own_names u));
  frame_spared = q.no_frame ∙ sym p.no_frame;
  part_spared = no_spared_part P (frame t) (children_of t) (children_of u) p.no_frame;
  exports_kept = subst (λ xs. Within xs (exports_of t)) (sym q.no_exports) (within_none (exports_of t));
  exports_bound_kept = λ e i. q.exports_hold;
}
