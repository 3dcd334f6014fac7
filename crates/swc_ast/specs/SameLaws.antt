-- What `same` says: with spans that two trees are equal, without them that they are equal up to spans.
use Rattle.std.proofs.Common.{◌≡◌, refl, sym, ap, ◌∙◌, Bool, true, false, ◌&&◌, ◌||◌, ◌==◌, List, [], ◌∷◌}
use Rattle.std.specs.Prelude.{ℕ, Option, Some, None, bytes_eq}
use Rattle.std.specs.Bool.{Decides, beq}
use Rattle.std.specs.Ordering.{int_eq}
use Rattle.std.specs.Cmp.{booleans_Decides, unsigned_Decides, signed_Decides, IsPartialEquivalence, IsEquivalence}
use Rattle.std.specs.Cmp.Lexicographic.{pointwise}
use Rattle.std.proofs.lemmas.Slice.Eq.{bytes_eq-Decides}
use Rattle.swc_ast.specs.Tree.{Text, Name, same_name, Key, NameKey, TextKey, NumberKey, ItemKind, Plain, Spread, Hole, Label, Tree, node, Forest, ε, ◌⊳◌, bare, bares}
use Rattle.swc_ast.specs.Tree as tree
use Rattle.swc_ast.specs.Same.{same_unary, same_update, same_binary, same_assign, same_kind, same_option, same_key, same_item, same_quasi, same_span, same_label, same, same_forest}
use Rattle.swc_ast.specs.declared.Span.{Span}
use Rattle.swc_ast.specs.declared.UnaryOp.{UnaryOp}
use Rattle.swc_ast.specs.declared.UnaryOp.TheVariants as unary
use Rattle.swc_ast.specs.declared.UpdateOp.{UpdateOp}
use Rattle.swc_ast.specs.declared.UpdateOp.TheVariants as update
use Rattle.swc_ast.specs.declared.BinaryOp.{BinaryOp}
use Rattle.swc_ast.specs.declared.BinaryOp.TheVariants as binary
use Rattle.swc_ast.specs.declared.AssignOp.{AssignOp}
use Rattle.swc_ast.specs.declared.AssignOp.TheVariants as assign
use Rattle.swc_ast.specs.declared.VarDeclKind.{VarDeclKind}
use Rattle.swc_ast.specs.declared.VarDeclKind.TheVariants as kind

pub impossible : {P : Type 0} → false ≡ true → P
impossible e = absurd (cc)

-- both of a conjunction
pub left-of : (a b : Bool) → (a && b) ≡ true → a ≡ true
left-of true b e = refl
left-of false b e = e

pub right-of : (a b : Bool) → (a && b) ≡ true → b ≡ true
right-of true b e = e
right-of false b e = impossible e

pub both-of : (a b : Bool) → a ≡ true → b ≡ true → (a && b) ≡ true
both-of true b e f = f
both-of false b e f = e

ap2 : {A B C : Type 0} (f : A → B → C) {a b : A} {c d : B} → a ≡ b → c ≡ d → f a c ≡ f b d
ap2 f p q = cc

ap3 : {A B C D : Type 0} (f : A → B → C → D) {a b : A} {c d : B} {e g : C} → a ≡ b → c ≡ d → e ≡ g → f a c e ≡ f b d g
ap3 f p q r = cc

-- spans where they count, and where they don't
or-no : (a : Bool) → (a || false) ≡ true → a ≡ true
or-no true e = refl
or-no false e = e

or-yes : (a b : Bool) → a ≡ true → (a || b) ≡ true
or-yes true b e = refl
or-yes false b e = impossible e

or-true : (a : Bool) → (a || true) ≡ true
or-true true = refl
or-true false = refl

-- a test that tells nothing but equal values alike, and all of these
record Exact {X : Type 0} (f : X → X → Bool) : Type 0 where
  pub is : (a b : X) → f a b ≡ true → a ≡ b
  pub self : (a : X) → f a a ≡ true

by_decides : {X : Type 0} {f : X → X → Bool} → ((a b : X) → Decides (f a b) (a ≡ b)) → Exact f
by_decides d = record { is = λ a b. (d a b).0; self = λ a. (d a a).1 refl }

texts : Exact bytes_eq
texts = by_decides bytes_eq-Decides

truths : Exact beq
truths = by_decides booleans_Decides

integers : Exact int_eq
integers = by_decides signed_Decides

naturals : Exact ◌==◌
naturals = by_decides unsigned_Decides

lists-is : {X : Type 0} (f : X → X → Bool) → Exact f → (a b : List X) → pointwise f a b ≡ true → a ≡ b
lists-is f h [] [] e = refl
lists-is f h [] (y ∷ ys) e = impossible e
lists-is f h (x ∷ xs) [] e = impossible e
lists-is f h (x ∷ xs) (y ∷ ys) e = ap2 ◌∷◌ (h.is x y (left-of _ _ e)) (lists-is f h xs ys (right-of _ _ e))

lists-self : {X : Type 0} (f : X → X → Bool) → Exact f → (a : List X) → pointwise f a a ≡ true
lists-self f h [] = refl
lists-self f h (x ∷ xs) = both-of _ _ (h.self x) (lists-self f h xs)

lists : {X : Type 0} {f : X → X → Bool} → Exact f → Exact (pointwise f)
lists {f = f} h = record { is = lists-is f h; self = lists-self f h }

options-is : {X : Type 0} (f : X → X → Bool) → Exact f → (a b : Option X) → same_option f a b ≡ true → a ≡ b
options-is f h None None e = refl
options-is f h None (Some y) e = impossible e
options-is f h (Some x) None e = impossible e
options-is f h (Some x) (Some y) e = ap Some (h.is x y e)

options-self : {X : Type 0} (f : X → X → Bool) → Exact f → (a : Option X) → same_option f a a ≡ true
options-self f h None = refl
options-self f h (Some x) = h.self x

options : {X : Type 0} {f : X → X → Bool} → Exact f → Exact (same_option f)
options {f = f} h = record { is = options-is f h; self = options-self f h }

unary-is : (a b : UnaryOp) → same_unary a b ≡ true → a ≡ b
unary-is unary.Minus unary.Minus e = refl
unary-is unary.Plus unary.Plus e = refl
unary-is unary.Bang unary.Bang e = refl
unary-is unary.Tilde unary.Tilde e = refl
unary-is unary.TypeOf unary.TypeOf e = refl
unary-is unary.Void unary.Void e = refl
unary-is unary.Delete unary.Delete e = refl
unary-is _ _ e = impossible e

unary-self : (a : UnaryOp) → same_unary a a ≡ true
unary-self unary.Minus = refl
unary-self unary.Plus = refl
unary-self unary.Bang = refl
unary-self unary.Tilde = refl
unary-self unary.TypeOf = refl
unary-self unary.Void = refl
unary-self unary.Delete = refl

update-is : (a b : UpdateOp) → same_update a b ≡ true → a ≡ b
update-is update.PlusPlus update.PlusPlus e = refl
update-is update.MinusMinus update.MinusMinus e = refl
update-is _ _ e = impossible e

update-self : (a : UpdateOp) → same_update a a ≡ true
update-self update.PlusPlus = refl
update-self update.MinusMinus = refl

binary-is : (a b : BinaryOp) → same_binary a b ≡ true → a ≡ b
binary-is binary.EqEq binary.EqEq e = refl
binary-is binary.NotEq binary.NotEq e = refl
binary-is binary.EqEqEq binary.EqEqEq e = refl
binary-is binary.NotEqEq binary.NotEqEq e = refl
binary-is binary.Lt binary.Lt e = refl
binary-is binary.LtEq binary.LtEq e = refl
binary-is binary.Gt binary.Gt e = refl
binary-is binary.GtEq binary.GtEq e = refl
binary-is binary.LShift binary.LShift e = refl
binary-is binary.RShift binary.RShift e = refl
binary-is binary.ZeroFillRShift binary.ZeroFillRShift e = refl
binary-is binary.Add binary.Add e = refl
binary-is binary.Sub binary.Sub e = refl
binary-is binary.Mul binary.Mul e = refl
binary-is binary.Div binary.Div e = refl
binary-is binary.Mod binary.Mod e = refl
binary-is binary.Exp binary.Exp e = refl
binary-is binary.BitOr binary.BitOr e = refl
binary-is binary.BitXor binary.BitXor e = refl
binary-is binary.BitAnd binary.BitAnd e = refl
binary-is binary.LogicalOr binary.LogicalOr e = refl
binary-is binary.LogicalAnd binary.LogicalAnd e = refl
binary-is binary.In binary.In e = refl
binary-is binary.InstanceOf binary.InstanceOf e = refl
binary-is binary.NullishCoalescing binary.NullishCoalescing e = refl
binary-is _ _ e = impossible e

binary-self : (a : BinaryOp) → same_binary a a ≡ true
binary-self binary.EqEq = refl
binary-self binary.NotEq = refl
binary-self binary.EqEqEq = refl
binary-self binary.NotEqEq = refl
binary-self binary.Lt = refl
binary-self binary.LtEq = refl
binary-self binary.Gt = refl
binary-self binary.GtEq = refl
binary-self binary.LShift = refl
binary-self binary.RShift = refl
binary-self binary.ZeroFillRShift = refl
binary-self binary.Add = refl
binary-self binary.Sub = refl
binary-self binary.Mul = refl
binary-self binary.Div = refl
binary-self binary.Mod = refl
binary-self binary.Exp = refl
binary-self binary.BitOr = refl
binary-self binary.BitXor = refl
binary-self binary.BitAnd = refl
binary-self binary.LogicalOr = refl
binary-self binary.LogicalAnd = refl
binary-self binary.In = refl
binary-self binary.InstanceOf = refl
binary-self binary.NullishCoalescing = refl

assign-is : (a b : AssignOp) → same_assign a b ≡ true → a ≡ b
assign-is assign.Assign assign.Assign e = refl
assign-is assign.AddAssign assign.AddAssign e = refl
assign-is assign.SubAssign assign.SubAssign e = refl
assign-is assign.MulAssign assign.MulAssign e = refl
assign-is assign.DivAssign assign.DivAssign e = refl
assign-is assign.ModAssign assign.ModAssign e = refl
assign-is assign.ExpAssign assign.ExpAssign e = refl
assign-is assign.LShiftAssign assign.LShiftAssign e = refl
assign-is assign.RShiftAssign assign.RShiftAssign e = refl
assign-is assign.ZeroFillRShiftAssign assign.ZeroFillRShiftAssign e = refl
assign-is assign.BitOrAssign assign.BitOrAssign e = refl
assign-is assign.BitXorAssign assign.BitXorAssign e = refl
assign-is assign.BitAndAssign assign.BitAndAssign e = refl
assign-is assign.AndAssign assign.AndAssign e = refl
assign-is assign.OrAssign assign.OrAssign e = refl
assign-is assign.NullishAssign assign.NullishAssign e = refl
assign-is _ _ e = impossible e

assign-self : (a : AssignOp) → same_assign a a ≡ true
assign-self assign.Assign = refl
assign-self assign.AddAssign = refl
assign-self assign.SubAssign = refl
assign-self assign.MulAssign = refl
assign-self assign.DivAssign = refl
assign-self assign.ModAssign = refl
assign-self assign.ExpAssign = refl
assign-self assign.LShiftAssign = refl
assign-self assign.RShiftAssign = refl
assign-self assign.ZeroFillRShiftAssign = refl
assign-self assign.BitOrAssign = refl
assign-self assign.BitXorAssign = refl
assign-self assign.BitAndAssign = refl
assign-self assign.AndAssign = refl
assign-self assign.OrAssign = refl
assign-self assign.NullishAssign = refl

kind-is : (a b : VarDeclKind) → same_kind a b ≡ true → a ≡ b
kind-is kind.Var kind.Var e = refl
kind-is kind.Let kind.Let e = refl
kind-is kind.Const kind.Const e = refl
kind-is _ _ e = impossible e

kind-self : (a : VarDeclKind) → same_kind a a ≡ true
kind-self kind.Var = refl
kind-self kind.Let = refl
kind-self kind.Const = refl

names-is : (a b : Name) → same_name a b ≡ true → a ≡ b
names-is a b e = parts _ _ _ _ (texts.is _ _ (left-of _ _ e)) (naturals.is _ _ (right-of _ _ e))
  where
    parts : (t u : Text) (c d : ℕ) → t ≡ u → c ≡ d → (let n : Name = record { text = t; context = c } in n) ≡ record { text = u; context = d }
    parts t u c d p q = cc

names-self : (a : Name) → same_name a a ≡ true
names-self a = both-of _ _ (texts.self a.text) (naturals.self a.context)

names : Exact same_name
names = record { is = names-is; self = names-self }

keys-is : (a b : Key) → same_key a b ≡ true → a ≡ b
keys-is (NameKey a) (NameKey b) e = ap NameKey (texts.is a b e)
keys-is (TextKey a) (TextKey b) e = ap TextKey (texts.is a b e)
keys-is (NumberKey a) (NumberKey b) e = ap NumberKey (integers.is a b e)
keys-is _ _ e = impossible e

keys-self : (a : Key) → same_key a a ≡ true
keys-self (NameKey a) = texts.self a
keys-self (TextKey a) = texts.self a
keys-self (NumberKey a) = integers.self a

items-is : (a b : ItemKind) → same_item a b ≡ true → a ≡ b
items-is Plain Plain e = refl
items-is Spread Spread e = refl
items-is Hole Hole e = refl
items-is _ _ e = impossible e

items-self : (a : ItemKind) → same_item a a ≡ true
items-self Plain = refl
items-self Spread = refl
items-self Hole = refl

quasis-is : (a b : Text × Bool) → same_quasi a b ≡ true → a ≡ b
quasis-is a b e = parts _ _ _ _ (texts.is _ _ (left-of _ _ e)) (truths.is _ _ (right-of _ _ e))
  where
    parts : (t u : Text) (c d : Bool) → t ≡ u → c ≡ d → (let n : Text × Bool = (t, c) in n) ≡ (u, d)
    parts t u c d p q = cc

quasis-self : (a : Text × Bool) → same_quasi a a ≡ true
quasis-self a = both-of _ _ (texts.self a.0) (truths.self a.1)

spans-is : (a b : Span) → same_span a b ≡ true → a ≡ b
spans-is a b e = parts _ _ _ _ (naturals.is _ _ (left-of _ _ e)) (naturals.is _ _ (right-of _ _ e))
  where
    parts : (t u c d : ℕ) → t ≡ u → c ≡ d → (let n : Span = record { lo = t; hi = c } in n) ≡ record { lo = u; hi = d }
    parts t u c d p q = cc

spans-self : (a : Span) → same_span a a ≡ true
spans-self a = both-of _ _ (naturals.self a.lo) (naturals.self a.hi)

spans : Exact same_span
spans = record { is = spans-is; self = spans-self }

unaries : Exact same_unary
unaries = record { is = unary-is; self = unary-self }

updates : Exact same_update
updates = record { is = update-is; self = update-self }

binaries : Exact same_binary
binaries = record { is = binary-is; self = binary-self }

assigns : Exact same_assign
assigns = record { is = assign-is; self = assign-self }

kinds : Exact same_kind
kinds = record { is = kind-is; self = kind-self }

keys : Exact same_key
keys = record { is = keys-is; self = keys-self }

items : Exact same_item
items = record { is = items-is; self = items-self }

quasis : Exact same_quasi
quasis = record { is = quasis-is; self = quasis-self }

labels-is : (a b : Label) → same_label a b ≡ true → a ≡ b
unfolding same_label
labels-is (tree.NumLit a) (tree.NumLit b) e = ap tree.NumLit (integers.is a b e)
labels-is (tree.StrLit a) (tree.StrLit b) e = ap tree.StrLit (texts.is a b e)
labels-is (tree.BoolLit a) (tree.BoolLit b) e = ap tree.BoolLit (truths.is a b e)
labels-is (tree.Read a) (tree.Read b) e = ap tree.Read (names.is a b e)
labels-is (tree.Template a) (tree.Template b) e = ap tree.Template ((lists quasis).is a b e)
labels-is (tree.Array a) (tree.Array b) e = ap tree.Array ((lists items).is a b e)
labels-is (tree.Shorthand a) (tree.Shorthand b) e = ap tree.Shorthand (names.is a b e)
labels-is (tree.PlainKey a) (tree.PlainKey b) e = ap tree.PlainKey (keys.is a b e)
labels-is (tree.Fn a) (tree.Fn b) e = ap tree.Fn ((options names).is a b e)
labels-is (tree.Param a) (tree.Param b) e = ap tree.Param (names.is a b e)
labels-is (tree.Unary a) (tree.Unary b) e = ap tree.Unary (unaries.is a b e)
labels-is (tree.TypeOfName a) (tree.TypeOfName b) e = ap tree.TypeOfName (names.is a b e)
labels-is (tree.Binary a) (tree.Binary b) e = ap tree.Binary (binaries.is a b e)
labels-is (tree.Dot a) (tree.Dot b) e = ap tree.Dot (texts.is a b e)
labels-is (tree.CallEval a) (tree.CallEval b) e = ap tree.CallEval (names.is a b e)
labels-is (tree.CallDot a) (tree.CallDot b) e = ap tree.CallDot (texts.is a b e)
labels-is (tree.AssignIndex a) (tree.AssignIndex b) e = ap tree.AssignIndex (assigns.is a b e)
labels-is (tree.Labeled a) (tree.Labeled b) e = ap tree.Labeled (texts.is a b e)
labels-is (tree.Break a) (tree.Break b) e = ap tree.Break ((options texts).is a b e)
labels-is (tree.Continue a) (tree.Continue b) e = ap tree.Continue ((options texts).is a b e)
labels-is (tree.Switch a) (tree.Switch b) e = ap tree.Switch ((lists truths).is a b e)
labels-is (tree.Try a) (tree.Try b) e = ap tree.Try ((options (options names)).is a b e)
labels-is (tree.VarDecl a) (tree.VarDecl b) e = ap tree.VarDecl (kinds.is a b e)
labels-is (tree.FnDecl a) (tree.FnDecl b) e = ap tree.FnDecl (names.is a b e)
labels-is (tree.Import a) (tree.Import b) e = ap tree.Import (texts.is a b e)
labels-is (tree.ImportDefault a) (tree.ImportDefault b) e = ap tree.ImportDefault (names.is a b e)
labels-is (tree.ImportStar a) (tree.ImportStar b) e = ap tree.ImportStar (names.is a b e)
labels-is (tree.ExportDefaultFn a) (tree.ExportDefaultFn b) e = ap tree.ExportDefaultFn ((options names).is a b e)
labels-is (tree.Assign a k) (tree.Assign b l) e = ap2 tree.Assign (assigns.is a b (left-of _ _ e)) (names.is k l (right-of _ _ e))
labels-is (tree.AssignDot a k) (tree.AssignDot b l) e = ap2 tree.AssignDot (assigns.is a b (left-of _ _ e)) (texts.is k l (right-of _ _ e))
labels-is (tree.UpdateIndex a k) (tree.UpdateIndex b l) e = ap2 tree.UpdateIndex (updates.is a b (left-of _ _ e)) (truths.is k l (right-of _ _ e))
labels-is (tree.Declarator a k) (tree.Declarator b l) e = ap2 tree.Declarator (kinds.is a b (left-of _ _ e)) (names.is k l (right-of _ _ e))
labels-is (tree.ImportNamed a k) (tree.ImportNamed b l) e = ap2 tree.ImportNamed (names.is a b (left-of _ _ e)) ((options texts).is k l (right-of _ _ e))
labels-is (tree.ExportSpecifier a k) (tree.ExportSpecifier b l) e = ap2 tree.ExportSpecifier (names.is a b (left-of _ _ e)) ((options texts).is k l (right-of _ _ e))
labels-is (tree.Update a c k) (tree.Update b d l) e = ap3 tree.Update (updates.is a b (left-of _ _ (left-of _ _ e))) (truths.is c d (right-of _ _ (left-of _ _ e))) (names.is k l (right-of _ _ e))
labels-is (tree.UpdateDot a c k) (tree.UpdateDot b d l) e = ap3 tree.UpdateDot (updates.is a b (left-of _ _ (left-of _ _ e))) (truths.is c d (right-of _ _ (left-of _ _ e))) (texts.is k l (right-of _ _ e))
labels-is tree.NullLit tree.NullLit e = refl
labels-is tree.This tree.This e = refl
labels-is tree.Invalid tree.Invalid e = refl
labels-is tree.Object tree.Object e = refl
labels-is tree.SpreadRecord tree.SpreadRecord e = refl
labels-is tree.KeyValue tree.KeyValue e = refl
labels-is tree.Method tree.Method e = refl
labels-is tree.ComputedKey tree.ComputedKey e = refl
labels-is tree.Arrow tree.Arrow e = refl
labels-is tree.Params tree.Params e = refl
labels-is tree.Body tree.Body e = refl
labels-is tree.Cond tree.Cond e = refl
labels-is tree.Seq tree.Seq e = refl
labels-is tree.Index tree.Index e = refl
labels-is tree.Call tree.Call e = refl
labels-is tree.New tree.New e = refl
labels-is tree.CallIndex tree.CallIndex e = refl
labels-is tree.Block tree.Block e = refl
labels-is tree.Empty tree.Empty e = refl
labels-is tree.Throw tree.Throw e = refl
labels-is tree.ExprStmt tree.ExprStmt e = refl
labels-is tree.Return tree.Return e = refl
labels-is tree.If tree.If e = refl
labels-is tree.While tree.While e = refl
labels-is tree.DoWhile tree.DoWhile e = refl
labels-is tree.For tree.For e = refl
labels-is tree.Absent tree.Absent e = refl
labels-is tree.CaseBody tree.CaseBody e = refl
labels-is tree.Module tree.Module e = refl
labels-is tree.Script tree.Script e = refl
labels-is tree.ExportDecl tree.ExportDecl e = refl
labels-is tree.ExportNamed tree.ExportNamed e = refl
labels-is tree.ExportDefaultExpr tree.ExportDefaultExpr e = refl
labels-is _ _ e = impossible e

labels-self : (a : Label) → same_label a a ≡ true
unfolding same_label
labels-self (tree.NumLit a) = integers.self a
labels-self (tree.StrLit a) = texts.self a
labels-self (tree.BoolLit a) = truths.self a
labels-self (tree.Read a) = names.self a
labels-self (tree.Template a) = (lists quasis).self a
labels-self (tree.Array a) = (lists items).self a
labels-self (tree.Shorthand a) = names.self a
labels-self (tree.PlainKey a) = keys.self a
labels-self (tree.Fn a) = (options names).self a
labels-self (tree.Param a) = names.self a
labels-self (tree.Unary a) = unaries.self a
labels-self (tree.TypeOfName a) = names.self a
labels-self (tree.Binary a) = binaries.self a
labels-self (tree.Dot a) = texts.self a
labels-self (tree.CallEval a) = names.self a
labels-self (tree.CallDot a) = texts.self a
labels-self (tree.AssignIndex a) = assigns.self a
labels-self (tree.Labeled a) = texts.self a
labels-self (tree.Break a) = (options texts).self a
labels-self (tree.Continue a) = (options texts).self a
labels-self (tree.Switch a) = (lists truths).self a
labels-self (tree.Try a) = (options (options names)).self a
labels-self (tree.VarDecl a) = kinds.self a
labels-self (tree.FnDecl a) = names.self a
labels-self (tree.Import a) = texts.self a
labels-self (tree.ImportDefault a) = names.self a
labels-self (tree.ImportStar a) = names.self a
labels-self (tree.ExportDefaultFn a) = (options names).self a
labels-self (tree.Assign a k) = both-of _ _ (assigns.self a) (names.self k)
labels-self (tree.AssignDot a k) = both-of _ _ (assigns.self a) (texts.self k)
labels-self (tree.UpdateIndex a k) = both-of _ _ (updates.self a) (truths.self k)
labels-self (tree.Declarator a k) = both-of _ _ (kinds.self a) (names.self k)
labels-self (tree.ImportNamed a k) = both-of _ _ (names.self a) ((options texts).self k)
labels-self (tree.ExportSpecifier a k) = both-of _ _ (names.self a) ((options texts).self k)
labels-self (tree.Update a c k) = both-of _ _ (both-of _ _ (updates.self a) (truths.self c)) (names.self k)
labels-self (tree.UpdateDot a c k) = both-of _ _ (both-of _ _ (updates.self a) (truths.self c)) (texts.self k)
labels-self tree.NullLit = refl
labels-self tree.This = refl
labels-self tree.Invalid = refl
labels-self tree.Object = refl
labels-self tree.SpreadRecord = refl
labels-self tree.KeyValue = refl
labels-self tree.Method = refl
labels-self tree.ComputedKey = refl
labels-self tree.Arrow = refl
labels-self tree.Params = refl
labels-self tree.Body = refl
labels-self tree.Cond = refl
labels-self tree.Seq = refl
labels-self tree.Index = refl
labels-self tree.Call = refl
labels-self tree.New = refl
labels-self tree.CallIndex = refl
labels-self tree.Block = refl
labels-self tree.Empty = refl
labels-self tree.Throw = refl
labels-self tree.ExprStmt = refl
labels-self tree.Return = refl
labels-self tree.If = refl
labels-self tree.While = refl
labels-self tree.DoWhile = refl
labels-self tree.For = refl
labels-self tree.Absent = refl
labels-self tree.CaseBody = refl
labels-self tree.Module = refl
labels-self tree.Script = refl
labels-self tree.ExportDecl = refl
labels-self tree.ExportNamed = refl
labels-self tree.ExportDefaultExpr = refl

mutual
  unfolding same

  trees-is : (t u : Tree) → same true t u ≡ true → t ≡ u
  trees-is (node l ss cs) (node m ts ds) e = ap3 node (labels-is l m (left-of _ _ e)) (lists-is same_span spans ss ts (or-no _ (left-of _ _ (right-of _ _ e)))) (forests-is cs ds (right-of _ _ (right-of _ _ e)))

  forests-is : (ts us : Forest) → same_forest true ts us ≡ true → ts ≡ us
  forests-is ε ε e = refl
  forests-is ε (u ⊳ us) e = impossible e
  forests-is (t ⊳ ts) ε e = impossible e
  forests-is (t ⊳ ts) (u ⊳ us) e = ap2 ◌⊳◌ (trees-is t u (left-of _ _ e)) (forests-is ts us (right-of _ _ e))

mutual
  unfolding same

  trees-self : (t : Tree) → same true t t ≡ true
  trees-self (node l ss cs) = both-of _ _ (labels-self l) (both-of _ _ (or-yes _ _ (lists-self same_span spans ss)) (forests-self cs))

  forests-self : (ts : Forest) → same_forest true ts ts ≡ true
  forests-self ε = refl
  forests-self (t ⊳ ts) = both-of _ _ (trees-self t) (forests-self ts)

mutual
  unfolding same

  without_spans : (t u : Tree) → same false t u ≡ same true (bare t) (bare u)
  without_spans (node l ss cs) (node m ts ds) = ap2 (λ a b. same_label l m && (a && b)) (or-true (pointwise same_span ss ts)) (forests-without cs ds)

  forests-without : (ts us : Forest) → same_forest false ts us ≡ same_forest true (bares ts) (bares us)
  forests-without ε ε = refl
  forests-without ε (u ⊳ us) = refl
  forests-without (t ⊳ ts) ε = refl
  forests-without (t ⊳ ts) (u ⊳ us) = ap2 ◌&&◌ (without_spans t u) (forests-without ts us)

-- with spans: the trees are equal
pub same-is : (t u : Tree) → same true t u ≡ true → t ≡ u
same-is = trees-is

pub is-same : (t u : Tree) → t ≡ u → same true t u ≡ true
is-same t u e = ap (same true t) (sym e) ∙ trees-self t

-- without them: they are equal up to spans
pub same-bare : (t u : Tree) → same false t u ≡ true → bare t ≡ bare u
same-bare t u e = same-is (bare t) (bare u) (sym (without_spans t u) ∙ e)

pub bare-same : (t u : Tree) → bare t ≡ bare u → same false t u ≡ true
bare-same t u e = without_spans t u ∙ is-same (bare t) (bare u) e

symmetric-at : (t u : Tree) (b c : Bool) → same true t u ≡ b → same true u t ≡ c → b ≡ c
symmetric-at t u true true p q = refl
symmetric-at t u false false p q = refl
symmetric-at t u true false p q = sym (is-same u t (sym (same-is t u p))) ∙ q
symmetric-at t u false true p q = sym p ∙ is-same t u (sym (same-is u t q))

-- `==` by the trees of two values is an equivalence
pub equivalence-by : {X : Type 0} (f : X → Tree) → IsEquivalence (λ x y. same true (f x) (f y))
equivalence-by f = record {
  refl = λ x. trees-self (f x);
  symm = λ x y. symmetric-at (f x) (f y) _ _ refl refl;
  congr = λ x y z p. ap (λ t. same true t (f z)) (same-is (f x) (f y) p);
}

pub partial-by : {X : Type 0} (f : X → Tree) → IsPartialEquivalence (λ x y. same true (f x) (f y))
partial-by f = record {
  symm = λ x y. symmetric-at (f x) (f y) _ _ refl refl;
  trans = λ x y z p q. is-same (f x) (f z) (same-is (f x) (f y) p ∙ same-is (f y) (f z) q);
}
