-- What names tell without running them.
use Rattle.std.specs.Prelude.{ℕ, Bool, true, false, not, ◌&&◌, ◌||◌, if◌then◌else◌, List, Option, Some, None, bytes_eq, codes}
use Rattle.swc_ast.specs.Tree.{Name, Read, Dot, Index, Tree, node}
use Rattle.swc_ast.specs.Value.{Value, Undefined, NaN}
use Rattle.swc_ast.specs.Meaning.{is_unresolved}
use Rattle.swc_ast.specs.Marks.{context_number}
use Rattle.swc_utils.specs.declared.context.Constant.{Constant}
use Rattle.swc_utils.specs.declared.context.Constant.TheVariants.{Undefined as ConstantUndefined, NaN as ConstantNaN}
use Rattle.swc_utils.specs.declared.context.ExprCtx.{ExprCtx}

-- the number of the context of unresolved names
abbrev pub unresolved : ExprCtx → ℕ
unresolved c = context_number c.unresolved_ctxt

-- the value that the host's name of a text stands for, in each world
abbrev pub constant : List ℕ → Option Value
constant x = if bytes_eq x (codes "undefined") then Some Undefined else (if bytes_eq x (codes "NaN") then Some NaN else None)

-- the value of a name that stands for one
abbrev pub name_value : ℕ → Name → Option Value
name_value mark x = if is_unresolved mark x then constant x.text else None

-- a name that the host may be asked about; unresolved `arguments` is one, though a run that reads it leaves the core
abbrev pub is_host_name : ℕ → Name → Bool
is_host_name mark x = is_unresolved mark x && not (bytes_eq x.text (codes "undefined") || (bytes_eq x.text (codes "NaN") || bytes_eq x.text (codes "Infinity")))

-- whether a name is the unresolved one of a text
abbrev pub is_global : ℕ → List ℕ → Name → Bool
is_global mark text x = is_unresolved mark x && bytes_eq x.text text

-- whether an expression is the unresolved name of a text
abbrev pub is_global_ref_to : ℕ → List ℕ → Tree → Bool
is_global_ref_to mark text (node (Read x) ss ts) = is_global mark text x
is_global_ref_to mark text _ = false

-- whether an expression is the unresolved `undefined`
abbrev pub is_undefined : ℕ → Tree → Bool
is_undefined mark t = is_global_ref_to mark (codes "undefined") t

-- whether an expression is the unresolved `NaN`
abbrev pub is_nan : ℕ → Tree → Bool
is_nan mark t = is_global_ref_to mark (codes "NaN") t

-- whether an expression means something else as a callee: a member hands on its object, and `eval` is direct
abbrev pub directness_matters : ℕ → Tree → Bool
directness_matters mark (node (Dot k) ss ts) = true
directness_matters mark (node Index ss ts) = true
directness_matters mark t = is_global_ref_to mark (codes "eval") t

-- the value of a constant of the host
abbrev pub constant_value : Constant → Value
constant_value ConstantUndefined = Undefined
constant_value ConstantNaN = NaN

-- the same where there may be none
abbrev pub option_value : Option Constant → Option Value
option_value None = None
option_value (Some c) = Some (constant_value c)
