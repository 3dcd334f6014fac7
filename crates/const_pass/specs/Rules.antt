-- What the rules of the walk put for an expression that is read.
use Rattle.std.specs.Prelude.{[], Option, Some, None, option_map}
use Rattle.swc_ast.specs.Tree.{Text, Name, StrLit, Read, Dot, Index, Tree, node, ε, ◌⊳◌}
use Rattle.swc_ast.specs.Parts.{word_text}
use Rattle.swc_ast.specs.Views.{expr_tree}
use Rattle.swc_ast.specs.declared.expressions.Expr.{Expr}
use Rattle.swc_ast.specs.declared.expressions.MemberProp.{MemberProp}
use Rattle.swc_ast.specs.declared.expressions.MemberProp.TheVariants as prop
use Rattle.swc_pass.specs.Given.{Answers}
use Rattle.swc_pass.specs.Inlined.{by_plain}
use Rattle.given_rules.specs.Worked.{Finished, finished}
use Rattle.const_imports.specs.Views.{group_of, value_of, constant_in, member_in}
use Rattle.const_pass.specs.declared.rules.Constants.{Constants}

-- the name that an expression reads, and the text that it is
abbrev pub name_read : Tree → Option Name
name_read (node (Read x) ss cs) = Some x
name_read t = None

abbrev pub text_read : Tree → Option Text
text_read (node (StrLit m) ss cs) = Some m
text_read t = None

-- the text of a key, if the program's text tells it
abbrev pub key_text : MemberProp Expr → Option Text
key_text (prop.Ident w) = Some (word_text w)
key_text (prop.Computed k) = text_read (expr_tree k.expr.value)

module _ (constant : Name → Option Tree) (member : Name → Text → Option Tree) where
  -- the value of a member of a name
  abbrev pub member_of : Option Name → Option Text → Option Tree
  member_of (Some x) (Some m) = member x m
  member_of (Some x) None = None
  member_of None o = None

  abbrev pub value_at : Tree → Option Tree
  value_at (node (Read x) ss cs) = constant x
  value_at (node (Dot m) ss (o ⊳ ε)) = member_of (name_read o) (Some m)
  value_at (node Index ss (o ⊳ k ⊳ ε)) = member_of (name_read o) (text_read k)
  value_at t = None

  abbrev pub answers : Answers
  answers = record { found = λ t. by_plain (value_at t); text = λ x. None; values = [] }

-- the value of a name, and of a member of a name
abbrev pub constant : Constants → Name → Option Tree
constant r x = option_map expr_tree (constant_in (value_of r.given.now) (group_of r.locals x.text) x)

abbrev pub member : Constants → Name → Text → Option Tree
member r x m = option_map expr_tree (member_in (value_of r.given.now) (group_of r.locals x.text) x m)

abbrev pub value : Constants → Tree → Option Tree
value r t = value_at (constant r) (member r) t

-- what is given, and no numbered values
abbrev pub state : Constants → Answers × Finished
state r = (answers (constant r) (member r), finished [])
