-- How what the walk makes of a tree is put together.
use Rattle.std.proofs.Common.{◌≡◌, ℕ, ◌+◌, ◌<◌, ◌≤◌, ◌++◌, length, Bool, true, false, refl, sym, ap, ◌∙◌, subst, List, [], ◌∷◌, take, get_or, set, arith}
use Rattle.std.proofs.lemmas.Bool.{false≢true}
use Rattle.std.proofs.lemmas.List.{take_all, take_more, take_more_set}
use Rattle.std.specs.Prelude.{if◌then◌else◌, Some}
use Rattle.swc_ast.specs.Labels.{is_expression}
use Rattle.swc_ast.specs.Tree as tree
use Rattle.swc_ast.specs.Tree.{Label, Tree, node, Forest, ε, ◌⊳◌, label_of}
use Rattle.swc_ast.specs.Parts.{list_trees}
use Rattle.swc_ast.specs.declared.Span.{Span}
use Rattle.swc_ast.specs.declared.UnaryOp.TheVariants as op
use Rattle.tree_put.specs.Put.{put, put_all, put_parts, steps, around, under, chosen}
use Rattle.tree_put.specs.Answers.{answer_of}
use Rattle.tree_put.specs.declared.rules.Put.{Put}
use Rattle.tree_put.specs.Puts.{Puts, Answer, enter, stay, become}
use Rattle.tree_put.specs.Walks.{Makes, MakesParts, MakesAll, MakesScope, Each, none, more, EachGoes}
use Rattle.tree_put.specs.declared.rules.Spot.{Spot}
use Rattle.tree_put.specs.declared.rules.Spot.TheVariants as spot

-- trees in a row
pub nothing : {S : Type 0} {X : Puts S} {s : S} → MakesAll X ε s ε s
unfolding steps
nothing = record { is = refl }

pub both : {S : Type 0} {X : Puts S} {s t u : S} {a b : Tree} {cs ds : Forest} → Makes X a s spot.Here b t → MakesAll X cs t ds u → MakesAll X (a ⊳ cs) s (b ⊳ ds) u
unfolding steps
both {S} {X} {s} {t} {u} {a} {b} {cs} {ds} h k = record { is = ap (λ p. let q = put_all X cs p.1 in (p.0 ⊳ q.0, q.1)) h.is ∙ ap (λ q. (b ⊳ q.0, q.1)) k.is }

pub one : {S : Type 0} {X : Puts S} {s t : S} {a b : Tree} → Makes X a s spot.Here b t → MakesAll X (a ⊳ ε) s (b ⊳ ε) t
one h = both h nothing

-- an expression is told to the pass, another node is not
pub asked : {S : Type 0} (X : Puts S) (t : Tree) (s : S) (p : Spot) → is_expression (label_of t) ≡ true → put X t s p ≡ chosen (X.expression s p t) t (put_parts X t (X.expression s p t).1)
unfolding put
asked X (node l ss cs) s p h = ap (λ b. if b then chosen (X.expression s p (node l ss cs)) (node l ss cs) (around X (X.expression s p (node l ss cs)).1 l ss cs (steps X cs)) else around X s l ss cs (steps X cs)) h

pub passed : {S : Type 0} (X : Puts S) (t : Tree) (s : S) (p : Spot) → is_expression (label_of t) ≡ false → put X t s p ≡ put_parts X t s
unfolding put
passed X (node l ss cs) s p h = ap (λ b. if b then chosen (X.expression s p (node l ss cs)) (node l ss cs) (around X (X.expression s p (node l ss cs)).1 l ss cs (steps X cs)) else around X s l ss cs (steps X cs)) h

pub entered : {S : Type 0} {X : Puts S} {t u : Tree} {s r v : S} {p : Spot} → is_expression (label_of t) ≡ true → X.expression s p t ≡ (enter, r) → MakesParts X t r u v → Makes X t s p u v
entered {S} {X} {t} {u} {s} {r} {v} {p} i h k = record { is = asked X t s p i ∙ ap (λ a. chosen a t (put_parts X t a.1)) h ∙ k.is }

pub stayed : {S : Type 0} {X : Puts S} {t : Tree} {s r : S} {p : Spot} → is_expression (label_of t) ≡ true → X.expression s p t ≡ (stay, r) → Makes X t s p t r
stayed {S} {X} {t} {s} {r} {p} i h = record { is = asked X t s p i ∙ ap (λ a. chosen a t (put_parts X t a.1)) h }

pub became : {S : Type 0} {X : Puts S} {t u : Tree} {s r : S} {p : Spot} → is_expression (label_of t) ≡ true → X.expression s p t ≡ (become u, r) → Makes X t s p u r
became {S} {X} {t} {u} {s} {r} {p} i h = record { is = asked X t s p i ∙ ap (λ a. chosen a t (put_parts X t a.1)) h }

-- what an answer says, where it is known
pub told : {S : Type 0} {v : Answer × S} {r : S} (a b : Put) → a ≡ b → v ≡ (answer_of a, r) → v ≡ (answer_of b, r)
told {S} {v} {r} a b is h = h ∙ ap (λ k. (answer_of k, r)) is

-- the labels whose nodes' children are walked one by one, at no spots of their own and in no scope
abbrev pub puts_each : Label → Bool
puts_each (tree.CallDot k) = false
puts_each tree.CallIndex = false
puts_each (tree.CallEval x) = false
puts_each tree.Call = false
puts_each (tree.TypeOfName x) = false
puts_each (tree.Unary op.TypeOf) = false
puts_each (tree.Unary op.Delete) = false
puts_each (tree.Import src) = false
puts_each (tree.Shorthand x) = false
puts_each tree.Method = false
puts_each (tree.Switch ds) = false
puts_each (tree.Try (Some o)) = false
puts_each (tree.Declarator k x) = false
puts_each (tree.ExportSpecifier x i) = false
puts_each (tree.Fn o) = false
puts_each (tree.FnDecl x) = false
puts_each (tree.ExportDefaultFn o) = false
puts_each tree.Arrow = false
puts_each tree.Block = false
puts_each tree.Body = false
puts_each tree.CaseBody = false
puts_each tree.For = false
puts_each tree.Module = false
puts_each tree.Script = false
puts_each _ = true

pub plain_is : {S : Type 0} (X : Puts S) (l : Label) (ss : List Span) (ts : Forest) (s : S) → puts_each l ≡ true → put_parts X (node l ss ts) s ≡ under l ss (put_all X ts s)
unfolding around
plain_is X (tree.CallDot k) ss ts s h = absurd (false≢true h)
plain_is X tree.CallIndex ss ts s h = absurd (false≢true h)
plain_is X (tree.CallEval x) ss ts s h = absurd (false≢true h)
plain_is X tree.Call ss ts s h = absurd (false≢true h)
plain_is X (tree.TypeOfName x) ss ts s h = absurd (false≢true h)
plain_is X (tree.Unary op.TypeOf) ss ts s h = absurd (false≢true h)
plain_is X (tree.Unary op.Delete) ss ts s h = absurd (false≢true h)
plain_is X (tree.Import src) ss ts s h = absurd (false≢true h)
plain_is X (tree.Shorthand x) ss ts s h = absurd (false≢true h)
plain_is X tree.Method ss ts s h = absurd (false≢true h)
plain_is X (tree.Switch ds) ss ts s h = absurd (false≢true h)
plain_is X (tree.Try (Some o)) ss ts s h = absurd (false≢true h)
plain_is X (tree.Declarator k x) ss ts s h = absurd (false≢true h)
plain_is X (tree.ExportSpecifier x i) ss ts s h = absurd (false≢true h)
plain_is X (tree.Fn o) ss ts s h = absurd (false≢true h)
plain_is X (tree.FnDecl x) ss ts s h = absurd (false≢true h)
plain_is X (tree.ExportDefaultFn o) ss ts s h = absurd (false≢true h)
plain_is X tree.Arrow ss ts s h = absurd (false≢true h)
plain_is X tree.Block ss ts s h = absurd (false≢true h)
plain_is X tree.Body ss ts s h = absurd (false≢true h)
plain_is X tree.CaseBody ss ts s h = absurd (false≢true h)
plain_is X tree.For ss ts s h = absurd (false≢true h)
plain_is X tree.Module ss ts s h = absurd (false≢true h)
plain_is X tree.Script ss ts s h = absurd (false≢true h)
plain_is X l ss ts s h = refl

pub parts : {S : Type 0} {X : Puts S} {l : Label} {ss : List Span} {ts us : Forest} {s t : S} → puts_each l ≡ true → MakesAll X ts s us t → MakesParts X (node l ss ts) s (node l ss us) t
parts {S} {X} {l} {ss} {ts} {us} {s} {t} i h = record { is = plain_is X l ss ts s i ∙ ap (under l ss) h.is }

-- a node that is no expression
pub whole : {S : Type 0} {X : Puts S} {t u : Tree} {s r : S} {p : Spot} → is_expression (label_of t) ≡ false → MakesParts X t s u r → Makes X t s p u r
whole {S} {X} {t} {u} {s} {r} {p} e h = record { is = passed X t s p e ∙ h.is }

pub plain : {S : Type 0} {X : Puts S} {l : Label} {ss : List Span} {ts us : Forest} {s t : S} {p : Spot} → is_expression l ≡ false → puts_each l ≡ true → MakesAll X ts s us t → Makes X (node l ss ts) s p (node l ss us) t
plain e i h = whole e (parts i h)

-- the same of trees that are told otherwise
pub parts_at : {S : Type 0} {X : Puts S} {a b x y : Tree} {s t : S} → a ≡ x → b ≡ y → MakesParts X x s y t → MakesParts X a s b t
parts_at {S} {X} {a} {b} {x} {y} {s} {t} p q h = subst (λ k. MakesParts X k s b t) (sym p) (subst (λ k. MakesParts X x s k t) (sym q) h)

pub put_at : {S : Type 0} {X : Puts S} {a b x y : Tree} {s t : S} {o : Spot} → a ≡ x → b ≡ y → Makes X x s o y t → Makes X a s o b t
put_at {S} {X} {a} {b} {x} {y} {s} {t} {o} p q h = subst (λ k. Makes X k s o b t) (sym p) (subst (λ k. Makes X x s o k t) (sym q) h)

-- and of states
pub parts_then : {S : Type 0} {X : Puts S} {a b : Tree} {s t u : S} → MakesParts X a s b t → t ≡ u → MakesParts X a s b u
parts_then {S} {X} {a} {b} {s} {t} {u} h e = subst (λ k. MakesParts X a s b k) e h

pub put_then : {S : Type 0} {X : Puts S} {a b : Tree} {s t u : S} {o : Spot} → Makes X a s o b t → t ≡ u → Makes X a s o b u
put_then {S} {X} {a} {b} {s} {t} {u} {o} h e = subst (λ k. Makes X a s o b k) e h

pub all_then : {S : Type 0} {X : Puts S} {a b : Forest} {s t u : S} → MakesAll X a s b t → t ≡ u → MakesAll X a s b u
all_then {S} {X} {a} {b} {s} {t} {u} h e = subst (λ k. MakesAll X a s b k) e h

pub all_from : {S : Type 0} {X : Puts S} {a b : Forest} {s t u : S} → s ≡ t → MakesAll X a t b u → MakesAll X a s b u
all_from {S} {X} {a} {b} {s} {t} {u} e h = subst (λ k. MakesAll X a k b u) (sym e) h

-- trees in a scope
pub in_scope : {S : Type 0} {X : Puts S} {l : Label} {ts us : Forest} {s t u v : S} → X.opens s l ts ≡ t → MakesAll X ts t us u → X.closes u ≡ v → MakesScope X l ts s us v
in_scope {S} {X} {l} {ts} {us} {s} {t} {u} {v} o h c = record { is = ap (λ k. let a = put_all X ts k in (a.0, X.closes a.1)) o ∙ ap (λ a. (a.0, X.closes a.1)) h.is ∙ ap (λ k. (us, k)) c }

-- a list of nodes
pub each_list : {S N : Type 0} {X : Puts S} {f : N → Tree} {s t : S} {xs ys : List N} → EachGoes X f s xs ys t → MakesAll X (list_trees f xs) s (list_trees f ys) t
each_list none = nothing
each_list (more w rest) = both w (each_list rest)

each_append : {S N : Type 0} {P : S → N → N → S → Type 0} {s t u : S} {xs ys : List N} {x y : N} → Each P s xs ys t → P t x y u → Each P s (xs ++ x ∷ []) (ys ++ y ∷ []) u
each_append none p = more p none
each_append (more q rest) p = more q (each_append rest p)

-- one more turn of a loop that walks a list in place
pub each_more : {S N : Type 0} {P : S → N → N → S → Type 0} {s t u : S} (xs ys : List N) (i : ℕ) (x y : N) → i < length xs → length ys ≡ length xs → x ≡ get_or xs i x → P t x y u → Each P s (take i xs) (take i ys) t → Each P s (take (i + 1) xs) (take (i + 1) (set ys i y)) u
each_more {S} {N} {P} {s} {t} {u} xs ys i x y lt same at p h =
    let inner : i < length ys = omega (arith, same, lt) in
    subst (λ k. Each P s k (take (i + 1) (set ys i y)) u) (sym (take_more xs i x lt ∙ ap (λ k. take i xs ++ k ∷ []) (sym at))) (subst (λ k. Each P s (take i xs ++ x ∷ []) k u) (sym (take_more_set ys i y inner)) (each_append h p))

-- a loop that has walked the whole list
pub each_all : {S N : Type 0} {P : S → N → N → S → Type 0} {s t : S} (xs ys : List N) (i : ℕ) → length xs ≤ i → length ys ≡ length xs → Each P s (take i xs) (take i ys) t → Each P s xs ys t
each_all {S} {N} {P} {s} {t} xs ys i all same h =
    let inner : length ys ≤ i = omega (arith, same, all) in
    subst (λ k. Each P s k ys t) (take_all i xs all) (subst (λ k. Each P s (take i xs) k t) (take_all i ys inner) h)
