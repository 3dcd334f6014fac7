-- What stays of statements that are taken out of a `switch` is what the rules ask for.
use Rattle.std.proofs.Common.{◌≡◌, Bool, true, false, not, ◌||◌, if◌then◌else◌, List, [], ◌∷◌, ◌++◌, None, refl, sym, ap, ap₂, subst, ◌∙◌}
use Rattle.std.proofs.lemmas.Bool.{and_parts, and_from, false≢true}
use Rattle.std.proofs.lemmas.List.{append_assoc}
use Rattle.swc_ast.specs.declared.Span.{Span}
use Rattle.swc_ast.specs.declared.VarDeclKind.TheVariants.{Var}
use Rattle.swc_ast.specs.Tree as tree
use Rattle.swc_ast.specs.Tree.{Break, FnDecl, Tree, node, Forest, ε, ◌⊳◌}
use Rattle.swc_ast.specs.Scope.{joined, declared_by, declared}
use Rattle.swc_ast.specs.Weight.{is_stopper, movable, unreached}
use Rattle.branch_rules.specs.Jumps.{escapes}
use Rattle.branch_rules.specs.Statements.{is_plain, all_plain}
use Rattle.branch_rules.specs.Switches.{Clause, breaking, bodies_of, is_break, functions_of, others_of, Unbroken, no_break, break_goes, stops_before}
use Rattle.branch_switch.specs.Clauses.{plain_bodies}
use Rattle.branch_switch.specs.Kept.{stopped_by, stopped_by_all, stays, goes, only_if, kept, gone, fits, all_fit, bodies_fit, none_goes}

-- statements that declare nothing

pub plain_declares : (t : Tree) → is_plain t ≡ true → declared_by t ≡ []
plain_declares (node tree.Block ss cs) e = refl
plain_declares (node tree.Empty ss cs) e = refl
plain_declares (node tree.Throw ss cs) e = refl
plain_declares (node tree.ExprStmt ss cs) e = refl
plain_declares (node tree.Return ss cs) e = refl
plain_declares (node tree.If ss cs) e = refl
plain_declares (node tree.While ss cs) e = refl
plain_declares (node tree.DoWhile ss cs) e = refl
plain_declares (node tree.For ss cs) e = refl
plain_declares (node (tree.Labeled l) ss cs) e = refl
plain_declares (node (tree.Break o) ss cs) e = refl
plain_declares (node (tree.Continue o) ss cs) e = refl
plain_declares (node (tree.Switch ds) ss cs) e = refl
plain_declares (node (tree.Try o) ss cs) e = refl
plain_declares (node (tree.VarDecl Var) ss cs) e = refl
plain_declares _ e = absurd (false≢true e)

pub plain_declared : (ts : Forest) → all_plain ts ≡ true → declared ts ≡ []
plain_declared ε e = refl
plain_declared (t ⊳ ts) e = let p = and_parts (is_plain t) (all_plain ts) e in ap₂ (λ xs ys. xs ++ ys) (plain_declares t p.0) (plain_declared ts p.1)

declared_joined : (ts us : Forest) → declared (joined ts us) ≡ declared ts ++ declared us
declared_joined ε us = refl
declared_joined (t ⊳ ts) us = ap (λ xs. declared_by t ++ xs) (declared_joined ts us) ∙ sym (append_assoc (declared_by t) (declared ts) (declared us))

pub plain_bodies_declare : (ks : List Clause) → plain_bodies ks ≡ true → declared (bodies_of ks) ≡ []
plain_bodies_declare [] e = refl
plain_bodies_declare (k ∷ ks) e =
    let p = and_parts (all_plain k.body) (plain_bodies ks) e in
    declared_joined k.body (bodies_of ks) ∙ ap₂ (λ xs ys. xs ++ ys) (plain_declared k.body p.0) (plain_bodies_declare ks p.1)

-- behind statements that declare nothing
pub declared_behind : (ts us vs : Forest) → declared ts ≡ [] → declared us ≡ declared vs → declared us ≡ declared (joined ts vs)
declared_behind ts us vs e f = f ∙ sym (declared_joined ts vs ∙ ap (λ xs. xs ++ declared vs) e)

-- behind a stopper functions stay, and all others go

kept_functions : (ts : Forest) → kept true ts ≡ functions_of ts
kept_functions ε = refl
kept_functions (node (FnDecl x) ss cs ⊳ ts) = ap (λ us. node (FnDecl x) ss cs ⊳ us) (kept_functions ts)
kept_functions (node l ss cs ⊳ ts) = kept_functions ts

gone_others : (ts : Forest) → gone true ts ≡ others_of ts
gone_others ε = refl
gone_others (node (FnDecl x) ss cs ⊳ ts) = gone_others ts
gone_others (node l ss cs ⊳ ts) = ap (λ us. node l ss cs ⊳ us) (gone_others ts)

-- a statement in front
in_front : {t : Tree} {ts us vs : Forest} → escapes breaking t ≡ false → Unbroken ts us vs → Unbroken (t ⊳ ts) (t ⊳ us) vs
in_front {t} e (no_break ts f) = no_break (t ⊳ ts) (ap₂ (λ a b. a || b) e f)
in_front {t} e (break_goes ts ss us f) = break_goes (t ⊳ ts) ss us (ap₂ (λ a b. a || b) e f)
in_front {t} e (stops_before ts u us f g h) = stops_before (t ⊳ ts) u us (ap₂ (λ a b. a || b) e f) g h

-- an unlabelled `break`
record IsBreak (t : Tree) : Type 0 where
  spans : List Span
  is : t ≡ node (Break None) spans ε

a_break : (t : Tree) → is_break t ≡ true → IsBreak t
a_break (node (Break None) ss ε) e = record { spans = ss; is = refl }
a_break _ e = absurd (false≢true e)

opposite : (b : Bool) → not b ≡ true → b ≡ false
opposite false e = refl
opposite true e = absurd (false≢true e)

pub unbroken : (ts : Forest) → all_fit false ts ≡ true → Unbroken ts (kept false ts) (gone false ts)
unbroken ε e = no_break ε refl
unbroken (t ⊳ ts) e = by (λ f. unbroken ts f) (is_break t) (is_stopper t) refl refl (and_parts (fits false t) (all_fit (stopped_by false t) ts) e).0 (and_parts (fits false t) (all_fit (stopped_by false t) ts) e).1
  where
    by : (all_fit false ts ≡ true → Unbroken ts (kept false ts) (gone false ts)) → (b s : Bool) → is_break t ≡ b → is_stopper t ≡ s → fits false t ≡ true → all_fit (stopped_by false t) ts ≡ true → Unbroken (t ⊳ ts) (kept false (t ⊳ ts)) (gone false (t ⊳ ts))
    by rest true s b i f h =
        let r = a_break t b in
        subst (λ u. Unbroken (u ⊳ ts) (kept false (u ⊳ ts)) (gone false (u ⊳ ts))) (sym r.is)
        (subst (λ us. Unbroken (node (Break None) r.spans ε ⊳ ts) us (gone true ts)) (sym (kept_functions ts))
        (subst (λ vs. Unbroken (node (Break None) r.spans ε ⊳ ts) (functions_of ts) vs) (sym (gone_others ts)) (break_goes ε r.spans ts refl)))
    by rest false true b i f h =
        let inside = opposite (escapes breaking t) (sym (ap (λ x. x || not (escapes breaking t)) b) ∙ f) in
        subst (λ p. Unbroken (t ⊳ ts) (joined (only_if (not p) t) (kept (stopped_by false t) ts)) (gone (stopped_by false t) ts)) (sym b)
        (subst (λ p. Unbroken (t ⊳ ts) (t ⊳ kept p ts) (gone p ts)) (sym i)
        (subst (λ us. Unbroken (t ⊳ ts) (t ⊳ us) (gone true ts)) (sym (kept_functions ts))
        (subst (λ vs. Unbroken (t ⊳ ts) (t ⊳ functions_of ts) vs) (sym (gone_others ts)) (stops_before ε t ts refl i inside))))
    by rest false false b i f h =
        let inside = opposite (escapes breaking t) (sym (ap (λ x. x || not (escapes breaking t)) b) ∙ f) in
        subst (λ p. Unbroken (t ⊳ ts) (joined (only_if (not p) t) (kept (stopped_by false t) ts)) (gone (stopped_by false t) ts)) (sym b)
        (subst (λ p. Unbroken (t ⊳ ts) (t ⊳ kept p ts) (gone p ts)) (sym i)
        (in_front inside (rest (subst (λ p. all_fit p ts ≡ true) i h))))

-- what stays declares the same

one_declared : (b : Bool) (t : Tree) (us : Forest) → (b ≡ false → declared_by t ≡ []) → declared (joined (only_if b t) us) ≡ declared_by t ++ declared us
one_declared true t us f = refl
one_declared false t us f = sym (ap (λ xs. xs ++ declared us) (f refl))

not_kept : (b : Bool) (t : Tree) → fits b t ≡ true → stays b t ≡ false → declared_by t ≡ []
not_kept true t f s = plain_declares t (sym (ap (λ x. x || is_plain t) s) ∙ f)
not_kept false t f s = a_break_declares (a_break t (reverse (is_break t) s))
  where
    reverse : (b : Bool) → not b ≡ false → b ≡ true
    reverse true e = refl
    reverse false e = sym e

    a_break_declares : IsBreak t → declared_by t ≡ []
    a_break_declares r = ap declared_by r.is

pub kept_declared : (b : Bool) (ts : Forest) → all_fit b ts ≡ true → declared (kept b ts) ≡ declared ts
kept_declared b ε e = refl
kept_declared b (t ⊳ ts) e =
    let p = and_parts (fits b t) (all_fit (stopped_by b t) ts) e in
    one_declared (stays b t) t (kept (stopped_by b t) ts) (not_kept b t p.0) ∙ ap (λ xs. declared_by t ++ xs) (kept_declared (stopped_by b t) ts p.1)

-- nothing but functions stands behind a stopper that stays

functions_stay : (ts : Forest) → movable (functions_of ts) ≡ 0
functions_stay ε = refl
functions_stay (node (FnDecl x) ss cs ⊳ ts) = functions_stay ts
functions_stay (node l ss cs ⊳ ts) = functions_stay ts

functions_reached : (ts : Forest) → unreached (functions_of ts) ≡ 0
functions_reached ε = refl
functions_reached (node (FnDecl x) ss cs ⊳ ts) = functions_reached ts
functions_reached (node l ss cs ⊳ ts) = functions_reached ts

pub kept_reached : (ts : Forest) → unreached (kept false ts) ≡ 0
kept_reached ε = refl
kept_reached (t ⊳ ts) = by (kept_reached ts) (is_break t) (is_stopper t) refl refl
  where
    by : unreached (kept false ts) ≡ 0 → (b s : Bool) → is_break t ≡ b → is_stopper t ≡ s → unreached (kept false (t ⊳ ts)) ≡ 0
    by rest true s b i =
        let r = a_break t b in
        ap (λ u. unreached (kept false (u ⊳ ts))) r.is ∙ (ap unreached (kept_functions ts) ∙ functions_reached ts)
    by rest false true b i =
        ap (λ p. unreached (joined (only_if (not p) t) (kept (stopped_by false t) ts))) b
        ∙ (ap (λ p. if p then movable (kept p ts) else unreached (kept p ts)) i ∙ (ap movable (kept_functions ts) ∙ functions_stay ts))
    by rest false false b i =
        ap (λ p. unreached (joined (only_if (not p) t) (kept (stopped_by false t) ts))) b
        ∙ (ap (λ p. if p then movable (kept p ts) else unreached (kept p ts)) i ∙ rest)

-- where nothing goes, no `var` does
pub none_gone : (b : Bool) (ts : Forest) → none_goes b ts ≡ true → gone b ts ≡ ε
none_gone b ε e = refl
none_gone b (t ⊳ ts) e =
    let p = and_parts (not (goes b t)) (none_goes (stopped_by b t) ts) e in
    ap (λ x. joined (only_if x t) (gone (stopped_by b t) ts)) (opposite (goes b t) p.0) ∙ none_gone (stopped_by b t) ts p.1

-- the statements of cases one behind another

fit_joined : (b : Bool) (ts us : Forest) → all_fit b ts ≡ true → all_fit (stopped_by_all b ts) us ≡ true → all_fit b (joined ts us) ≡ true
fit_joined b ε us e f = f
fit_joined b (t ⊳ ts) us e f =
    let p = and_parts (fits b t) (all_fit (stopped_by b t) ts) e in
    and_from (fits b t) (all_fit (stopped_by b t) (joined ts us)) p.0 (fit_joined (stopped_by b t) ts us p.1 f)

pub bodies_fit_all : (b : Bool) (ks : List Clause) → bodies_fit b ks ≡ true → all_fit b (bodies_of ks) ≡ true
bodies_fit_all b [] e = refl
bodies_fit_all b (k ∷ ks) e =
    let p = and_parts (all_fit b k.body) (bodies_fit (stopped_by_all b k.body) ks) e in
    fit_joined b k.body (bodies_of ks) p.0 (bodies_fit_all (stopped_by_all b k.body) ks p.1)

-- what stays doesn't go
pub staying_not_going : (b : Bool) (t : Tree) → stays b t ≡ true → goes b t ≡ false
staying_not_going true t e = ap not e
staying_not_going false t e = refl
