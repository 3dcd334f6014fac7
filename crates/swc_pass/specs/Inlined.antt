-- What is given of names and members that no scope binds.
use Rattle.std.specs.Prelude.{ℕ, Bool, true, false, ◌&&◌, if◌then◌else◌, List, [], [], Option, Some, None, bytes_eq, codes}
use Rattle.swc_ast.specs.Tree.{Text, Name, Label, StrLit, Read, Shorthand, TypeOfName, Fn, Param, Dot, Index, Assign, Update, CallEval, Try, Declarator, FnDecl, Tree, node, Forest, ε, ◌⊳◌}
use Rattle.swc_ast.specs.Meaning.{is_unresolved}
use Rattle.swc_pass.specs.Given.{Found, nothing, a_value, a_plain, Answers}

-- The values, and their numbers, by name and by a chain of members without spans and contexts; texts that `typeof` gives of
-- names; and expressions for the members of `process.env`.
pub record Given : Type 0 where
  pub values : List Tree
  pub global : Text → Option ℕ
  pub expression : Tree → Option ℕ
  pub type_text : Text → Option Text
  pub env : Text → Option Tree

-- trees without spans and contexts

abbrev pub bare_name : Name → Name
bare_name x = record { text = x.text; context = 0 }

abbrev pub bare_option : Option Name → Option Name
bare_option None = None
bare_option (Some x) = Some (bare_name x)

abbrev pub bare_handler : Option (Option Name) → Option (Option Name)
bare_handler None = None
bare_handler (Some o) = Some (bare_option o)

-- an expression holds no import and no export
abbrev pub bare_label : Label → Label
bare_label (Read x) = Read (bare_name x)
bare_label (Shorthand x) = Shorthand (bare_name x)
bare_label (Fn o) = Fn (bare_option o)
bare_label (Param x) = Param (bare_name x)
bare_label (TypeOfName x) = TypeOfName (bare_name x)
bare_label (CallEval x) = CallEval (bare_name x)
bare_label (Assign op x) = Assign op (bare_name x)
bare_label (Update op prefix x) = Update op prefix (bare_name x)
bare_label (Try o) = Try (bare_handler o)
bare_label (Declarator kind x) = Declarator kind (bare_name x)
bare_label (FnDecl x) = FnDecl (bare_name x)
bare_label l = l

abbrev mutual
  pub shape : Tree → Tree
  shape (node l ss cs) = node (bare_label l) [] (shapes cs)

  pub shapes : Forest → Forest
  shapes ε = ε
  shapes (t ⊳ ts) = shape t ⊳ shapes ts

-- whether the name that a chain of members begins with is unresolved
abbrev pub leads_outside : ℕ → Tree → Bool
leads_outside mark (node (Read x) ss cs) = is_unresolved mark x
leads_outside mark (node (Dot k) ss (o ⊳ ε)) = leads_outside mark o
leads_outside mark (node Index ss (o ⊳ k ⊳ ε)) = leads_outside mark o
leads_outside mark t = false

-- what is given for a read

abbrev pub is_nothing : Found → Bool
is_nothing nothing = true
is_nothing f = false

abbrev pub or_else : Found → Found → Found
or_else nothing other = other
or_else f other = f

abbrev pub by_value : Option ℕ → Found
by_value None = nothing
by_value (Some i) = a_value i

abbrev pub by_plain : Option Tree → Found
by_plain None = nothing
by_plain (Some t) = a_plain t

module _ (given : Given) (mark : ℕ) where
  -- a chain as a whole
  abbrev pub by_expression : Tree → Found
  by_expression t = if leads_outside mark t then by_value (given.expression (shape t)) else nothing

  -- a name
  abbrev pub by_name : Name → Found
  by_name x = if is_unresolved mark x then by_value (given.global x.text) else nothing

  -- whether an object is `process.env`, with nothing given for it or in it
  abbrev pub is_env : Tree → Bool
  is_env (node (Dot e) ss (node (Read p) rs cs ⊳ ε)) =
      is_unresolved mark p && (bytes_eq p.text (codes "process") && (bytes_eq e (codes "env")
      && (is_nothing (by_expression (node (Dot e) ss (node (Read p) rs cs ⊳ ε)))
      && (is_nothing (by_expression (node (Read p) rs cs)) && is_nothing (by_name p)))))
  is_env t = false

  -- a member by its object and its key
  abbrev pub by_env : Tree → Text → Found
  by_env o k = if is_env o then by_plain (given.env k) else nothing

  abbrev pub by_key : Tree → Tree → Found
  by_key o (node (StrLit k) ss cs) = by_env o k
  by_key o t = nothing

  -- what is given where no chain as a whole is
  abbrev pub by_part : Tree → Found
  by_part (node (Read x) ss cs) = by_name x
  by_part (node (Dot k) ss (o ⊳ ε)) = by_env o k
  by_part (node Index ss (o ⊳ k ⊳ ε)) = by_key o k
  by_part t = nothing

  abbrev pub type_text : Name → Option Text
  type_text x = if is_unresolved mark x then given.type_text x.text else None

abbrev pub inlined : Given → ℕ → Answers
inlined given mark = record { found = λ t. or_else (by_expression given mark t) (by_part given mark t); text = type_text given mark; values = given.values }
