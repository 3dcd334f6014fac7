-- What is given for a chain as a whole, for a name, and for a member of `process.env`.
use Rattle.std.proofs.Common.{◌≡◌, ℕ, Bool, true, false, ◌&&◌, if◌then◌else◌, List, [], ◌∷◌, Option, Some, None, is_some, is_none, not, option_map, refl, sym, ap, ap₂, ◌∙◌, string_bytes, bytes_eq, codes}
use Rattle.std.proofs.lemmas.Bool.{true≢false}
use Rattle.std.specs.BTreeMap.{get_by_text}
use Rattle.swc_ast.specs.declared.Span.{Span}
use Rattle.swc_ast.specs.declared.expressions.Expr.{Expr}
use Rattle.swc_ast.specs.declared.expressions.MemberProp.{MemberProp}
use Rattle.swc_ast.specs.declared.expressions.MemberProp.TheVariants as prop
use Rattle.swc_ast.specs.declared.names.Ident.{Ident}
use Rattle.swc_ast.specs.declared.names.IdentName.{IdentName}
use Rattle.swc_ast.specs.Expressions.{member_node}
use Rattle.swc_ast.specs.Meaning.{is_unresolved}
use Rattle.swc_ast.specs.Parts.{ident_name, ident_tree}
use Rattle.swc_ast.specs.Tree.{Text, StrLit, Read, Dot, Index, Tree, node, ε, ◌⊳◌}
use Rattle.swc_ast.specs.Views.{expr_tree}
use Rattle.swc_expr_map.specs.Entries.{number_of}
use Rattle.swc_expr_map.proofs.Shaped.{number_of_shape}
use Rattle.swc_pass.specs.Given.{Found, nothing, a_value}
use Rattle.swc_pass.specs.Inlined.{shape, leads_outside, is_nothing, or_else, by_value, by_plain, by_expression, by_name, is_env, by_env, by_key, by_part}
use Rattle.given_shield.specs.Names.{mark_of}
use Rattle.given_globals.specs.Globals.{expressions, global_number, given_of, answers_of}
use Rattle.given_globals.specs.Rows.{key_of_tree, written_key, is_read}
use Rattle.given_globals.specs.declared.settings.Settings.{Settings}
use Rattle.given_globals.proofs.Forms.{is_name, is_member}

-- the name that a member begins with is that of its object
pub leads_member : (mark : ℕ) (s : Span) (o : Expr) (p : MemberProp Expr) → leads_outside mark (member_node expr_tree s o p) ≡ leads_outside mark (expr_tree o)
leads_member mark s o (prop.Ident n) = refl
leads_member mark s o (prop.Computed n) = refl

-- no other expression begins with a name
pub leads_other : (mark : ℕ) (t : Tree) → is_read t ≡ false → false ≡ leads_outside mark t
leads_other mark (node (Read x) ss cs) e = absurd (true≢false e)
leads_other mark (node (Dot k) ss cs) e = absurd (true≢false e)
leads_other mark (node Index ss cs) e = absurd (true≢false e)
leads_other mark (node l ss cs) e = refl

module _ (s : Settings) where
  -- a chain as a whole

  pub chain_found : (t : Tree) (o : Option ℕ) → o ≡ number_of t (expressions s) → leads_outside (mark_of s.mark) t ≡ true → by_value o ≡ by_expression (given_of s) (mark_of s.mark) t
  unfolding given_of
  chain_found t o e l = ap by_value (e ∙ sym (number_of_shape t (expressions s))) ∙ sym (ap (λ b. if b then by_value (number_of (shape t) (expressions s)) else nothing) l)

  pub chain_unknown : (t : Tree) → None ≡ number_of t (expressions s) → nothing ≡ by_expression (given_of s) (mark_of s.mark) t
  unfolding given_of
  chain_unknown t e = by (leads_outside (mark_of s.mark) t)
    where
      by : (b : Bool) → nothing ≡ (if b then by_value (number_of (shape t) (expressions s)) else nothing)
      by true = ap by_value (e ∙ sym (number_of_shape t (expressions s)))
      by false = refl

  -- a name

  pub name_found : (x : Ident) (o : Option ℕ) → o ≡ global_number s x.sym → is_unresolved (mark_of s.mark) (ident_name x) ≡ true → by_value o ≡ by_name (given_of s) (mark_of s.mark) (ident_name x)
  unfolding given_of
  name_found x o e u = ap by_value e ∙ sym (ap (λ b. if b then by_value (global_number s x.sym) else nothing) u)

  -- a member

  abbrev by_written : Option Text → Tree → Found
  by_written None o = nothing
  by_written (Some k) o = by_env (given_of s) (mark_of s.mark) o k

  key_written : (o t : Tree) → by_key (given_of s) (mark_of s.mark) o t ≡ by_written (key_of_tree t) o
  key_written o (node (StrLit k) ss cs) = refl
  key_written o (node l ss cs) = refl

  member_written : (m : Span) (o : Expr) (p : MemberProp Expr) → by_part (given_of s) (mark_of s.mark) (member_node expr_tree m o p) ≡ by_written (written_key p) (expr_tree o)
  member_written m o (prop.Ident n) = refl
  member_written m o (prop.Computed n) = key_written (expr_tree o) (expr_tree n.expr.value)

  -- it is a member of `process.env`
  pub member_env : (m : Span) (o : Expr) (p : MemberProp Expr) (k : Text) (v : Option Tree) → Some k ≡ written_key p → is_env (given_of s) (mark_of s.mark) (expr_tree o) ≡ true → v ≡ option_map expr_tree (get_by_text s.envs.now k) → by_plain v ≡ by_part (given_of s) (mark_of s.mark) (member_node expr_tree m o p)
  unfolding given_of
  member_env m o p k v e b f = ap by_plain f ∙ sym (ap (λ c. if c then by_plain (option_map expr_tree (get_by_text s.envs.now k)) else nothing) b) ∙ ap (λ q. by_written q (expr_tree o)) e ∙ sym (member_written m o p)

  -- what is found: a chain as a whole, or else its part

  pub found_chain : (t : Tree) (i : ℕ) → a_value i ≡ by_expression (given_of s) (mark_of s.mark) t → a_value i ≡ (answers_of s).found t
  unfolding answers_of
  found_chain t i e = ap (λ f. or_else f (by_part (given_of s) (mark_of s.mark) t)) e

  pub found_part : (t : Tree) (f : Found) → nothing ≡ by_expression (given_of s) (mark_of s.mark) t → f ≡ by_part (given_of s) (mark_of s.mark) t → f ≡ (answers_of s).found t
  unfolding answers_of
  found_part t f e p = p ∙ ap (λ g. or_else g (by_part (given_of s) (mark_of s.mark) t)) e

  -- no other expression is looked up
  pub found_none : (t : Tree) → is_read t ≡ false → nothing ≡ (answers_of s).found t
  unfolding answers_of
  found_none (node (Read x) ss cs) e = absurd (true≢false e)
  found_none (node (Dot k) ss cs) e = absurd (true≢false e)
  found_none (node Index ss cs) e = absurd (true≢false e)
  found_none (node l ss cs) e = refl

  -- the text of a name under `typeof`

  pub type_bound : (x : Ident) → is_unresolved (mark_of s.mark) (ident_name x) ≡ false → None ≡ (answers_of s).text (ident_name x)
  unfolding answers_of
  type_bound x u = sym (ap (λ b. if b then (given_of s).type_text x.sym else None) u)

  pub type_found : (x : Ident) → is_unresolved (mark_of s.mark) (ident_name x) ≡ true → option_map string_bytes (get_by_text s.typeofs.now x.sym) ≡ (answers_of s).text (ident_name x)
  unfolding answers_of given_of
  type_found x u = sym (ap (λ b. if b then option_map string_bytes (get_by_text s.typeofs.now x.sym) else None) u)

  -- whether an object is `process.env`

  pub env_other : (t : Tree) → is_member t ≡ false → false ≡ is_env (given_of s) (mark_of s.mark) t
  env_other (node (Dot k) ss cs) e = absurd (true≢false e)
  env_other (node Index ss cs) e = absurd (true≢false e)
  env_other (node l ss cs) e = refl

  dot_other : (k : Text) (ss : List Span) (o : Tree) → is_name o ≡ false → false ≡ is_env (given_of s) (mark_of s.mark) (node (Dot k) ss (o ⊳ ε))
  dot_other k ss (node (Read x) rs cs) e = absurd (true≢false e)
  dot_other k ss (node l rs cs) e = refl

  pub env_no_name : (t : Tree) (m : Span) (o : Expr) (k : IdentName) → t ≡ member_node expr_tree m o (prop.Ident k) → is_name (expr_tree o) ≡ false → false ≡ is_env (given_of s) (mark_of s.mark) t
  env_no_name t m o k e n = dot_other k.sym (m ∷ k.span ∷ []) (expr_tree o) n ∙ ap (is_env (given_of s) (mark_of s.mark)) (sym e)

  pub is_none_nothing : (o : Option ℕ) → is_none o ≡ is_nothing (by_value o)
  is_none_nothing None = refl
  is_none_nothing (Some i) = refl

  -- by what is found for it and in it
  pub env_dot : (t : Tree) (m : Span) (o : Expr) (k : IdentName) (x : Ident) → t ≡ member_node expr_tree m o (prop.Ident k) → expr_tree o ≡ ident_tree x
      → (is_unresolved (mark_of s.mark) (ident_name x) && (bytes_eq x.sym (codes "process") && (bytes_eq k.sym (codes "env") && (is_nothing (by_expression (given_of s) (mark_of s.mark) t) && (is_nothing (by_expression (given_of s) (mark_of s.mark) (expr_tree o)) && is_nothing (by_name (given_of s) (mark_of s.mark) (ident_name x))))))) ≡ is_env (given_of s) (mark_of s.mark) t
  env_dot t m o k x e f =
      ap₂ (λ u v. is_unresolved (mark_of s.mark) (ident_name x) && (bytes_eq x.sym (codes "process") && (bytes_eq k.sym (codes "env") && (is_nothing (by_expression (given_of s) (mark_of s.mark) u) && (is_nothing (by_expression (given_of s) (mark_of s.mark) v) && is_nothing (by_name (given_of s) (mark_of s.mark) (ident_name x))))))) shape_of f
      ∙ ap (is_env (given_of s) (mark_of s.mark)) (sym shape_of)
    where
      shape_of : t ≡ node (Dot k.sym) (m ∷ k.span ∷ []) (ident_tree x ⊳ ε)
      shape_of = e ∙ ap (λ u. node (Dot k.sym) (m ∷ k.span ∷ []) (u ⊳ ε)) f

-- a conjunction, part by part

pub and_stops : (a r : Bool) → a ≡ false → false ≡ (a && r)
and_stops a r e = sym (ap (λ b. b && r) e)

pub and_goes : (a r x : Bool) → a ≡ true → x ≡ r → x ≡ (a && r)
and_goes a r x e f = f ∙ sym (ap (λ b. b && r) e)

-- what `is_none` answers
pub none_told : (o : Option ℕ) (b : Bool) → is_some o ≡ not b → b ≡ is_none o
none_told None true e = refl
none_told None false e = e
none_told (Some i) true e = e
none_told (Some i) false e = refl
