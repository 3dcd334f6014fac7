-- What a walk makes of a tree: a step in front, if any, then its children are walked, then the list that they are, and then a
-- step is taken at the node, or it stands, as no rule fits it. The truth value says whether a step was taken anywhere.
use Rattle.std.specs.Prelude.{Bool, true, false, ◌||◌, ◌≡◌, IsFalse, List, [], ◌∷◌}
use Rattle.swc_ast.specs.Labels.{is_name, is_block, is_whole, is_declaration}
use Rattle.swc_ast.specs.Tree.{Text, Label, Dot, Index, Read, For, VarDecl, Import, ExportDecl, Tree, node, Forest, ε, ◌⊳◌}
use Rattle.swc_ast.specs.Expressions.{is_eval}
use Rattle.swc_ast.specs.declared.Span.{Span}
use Rattle.swc_ast.specs.declared.VarDeclKind.{VarDeclKind}
use Rattle.tree_walk.specs.Pass.{Pass, may_pass, walks_each, are_unvisited, only_head}
use Rattle.tree_walk.specs.declared.rules.Place.{Place}
use Rattle.tree_walk.specs.declared.rules.Place.TheVariants as place

mutual
  pub data Walks (X : Pass) : Bool → Tree → Tree → Type 0 where
    -- a node that is not entered
    closed : {t : Tree} → X.skips t → Walks X false t t
    -- a node that took a step before it was walked
    opened : {c : Bool} {t u v : Tree} → X.opens t u → Walks X c u v → Walks X true t v
    -- a node that no rule sees
    passes : {c : Bool} {l : Label} {ss : List Span} {t : Tree} {us : Forest} → may_pass l ≡ true → Entered X c t (node l ss us) → Walks X c t (node l ss us)
    -- a node that no rule fits
    stands : {c : Bool} {a b : Tree} → Entered X c a b → X.rests b → Walks X c a b
    stepped : {c : Bool} {a b d : Tree} → Entered X c a b → X.steps b d → Walks X true a d

  -- a node whose children are walked, and the list of them
  pub data Entered (X : Pass) : Bool → Tree → Tree → Type 0 where
    plain : {c : Bool} {l : Label} {ss : List Span} {ts us : Forest} → walks_each l ≡ true → AllWalk X c ts us → Entered X c (node l ss ts) (node l ss us)
    exported : {c : Bool} {l : Label} {ss rs : List Span} {ts us : Forest} → is_declaration l ≡ true → AllWalk X c ts us → Entered X c (node ExportDecl ss (node l rs ts ⊳ ε)) (node ExportDecl ss (node l rs us ⊳ ε))
    -- the head of a `for`: a declaration, which is entered or not
    headed : {c d : Bool} {k : VarDeclKind} {ss rs : List Span} {ds es ts us : Forest} → AllWalk X c ds es → AllWalk X d ts us → Entered X (c || d) (node For ss (node (VarDecl k) rs ds ⊳ ts)) (node For ss (node (VarDecl k) rs es ⊳ us))
    head_shut : {c : Bool} {h : Tree} {ss : List Span} {ts us : Forest} → X.skips (only_head h) → AllWalk X c ts us → Entered X c (node For ss (h ⊳ ts)) (node For ss (h ⊳ us))
    imports : {src : Text} {ss : List Span} {ts : Forest} → are_unvisited ts ≡ true → Entered X false (node (Import src) ss ts) (node (Import src) ss ts)
    block : {c : Bool} {l : Label} {ss : List Span} {ts us : Forest} → is_block l ≡ true → ListMade X l c ts us → Entered X c (node l ss ts) (node l ss us)

  -- a list whose statements are walked, and then the list
  pub data ListMade (X : Pass) : Label → Bool → Forest → Forest → Type 0 where
    listed : {c : Bool} {l : Label} {ts us : Forest} → AllWalk X c ts us → X.tidy l us → ListMade X l c ts us
    tidied : {c : Bool} {l : Label} {ts us vs : Forest} → AllWalk X c ts us → X.tidies l us vs → ListMade X l true ts vs

  pub data AllWalk (X : Pass) : Bool → Forest → Forest → Type 0 where
    nothing : AllWalk X false ε ε
    both : {c d : Bool} {t u : Tree} {ts us : Forest} → Walks X c t u → AllWalk X d ts us → AllWalk X (c || d) (t ⊳ ts) (u ⊳ us)

-- a module or a script
pub data Whole (X : Pass) : Bool → Tree → Tree → Type 0 where
  -- one that is not entered
  shut : {t : Tree} → X.skips t → Whole X false t t
  whole : {c : Bool} {l : Label} {ss : List Span} {ts us : Forest} → is_whole l ≡ true → ListMade X l c ts us → Whole X c (node l ss ts) (node l ss us)

-- a walk of a module or a script, and whether it changed it
abbrev pub WholeMade : Pass → Tree → Tree → Bool → Type 0
WholeMade X a b c = Whole X c a b

-- a walk of one tree, and whether it changed it
abbrev pub Made : Pass → Tree → Tree → Bool → Type 0
Made X a b c = Walks X c a b

-- the same of a node that was entered, and of which no rule was asked yet
abbrev pub Ready : Pass → Tree → Tree → Bool → Type 0
Ready X a b c = Entered X c a b

-- what a rule did in front of a node's children: a step, or nothing
abbrev pub Opened : Pass → Bool → Tree → Tree → Type 0
Opened X true a b = X.opens a b
Opened X false a b = b ≡ a

-- what a rule did at a node that the other rules don't see: a step, or nothing
abbrev pub Stepped : Pass → Bool → Tree → Tree → Type 0
Stepped X true a b = X.steps a b
Stepped X false a b = b ≡ a

-- what a rule did: a step, or nothing
abbrev pub Became : Pass → Bool → Tree → Tree → Type 0
Became X true a b = X.steps a b
Became X false a b = (b ≡ a) × X.rests b

-- a node whose children were walked, and are no list of statements
pub data Inside (X : Pass) : Bool → Tree → Tree → Type 0 where
  parts : {c : Bool} {l : Label} {ss : List Span} {ts us : Forest} → walks_each l ≡ true → AllWalk X c ts us → Inside X c (node l ss ts) (node l ss us)

-- what a callee gives to the label of the call: a member, or the name `eval`
abbrev pub is_part_of_call : Label → Bool
is_part_of_call (Dot k) = true
is_part_of_call Index = true
is_part_of_call (Read x) = is_eval x
is_part_of_call l = false

-- a member
abbrev pub is_member : Label → Bool
is_member (Dot k) = true
is_member Index = true
is_member l = false

-- A tree that is a node of its own where it stands: its label is no part of the label of the node round it.
abbrev pub Fits : Place → Tree → Type 0
Fits place.Callee (node l ss ts) = IsFalse (is_part_of_call l)
Fits place.TypeOf (node l ss ts) = IsFalse (is_name l)
Fits place.Delete (node l ss ts) = IsFalse (is_member l)
Fits place.Value t = Unit {0}
Fits place.Statement t = Unit {0}
Fits place.Part t = Unit {0}

-- a walk of one tree that keeps it fitting where it stands
abbrev pub Placed : Pass → Place → Tree → Tree → Bool → Type 0
Placed X p a b c = Walks X c a b × (Fits p a → Fits p b)

-- the same of each item of a list
pub data Each {N : Type 0} (P : N → N → Bool → Type 0) : List N → List N → Bool → Type 0 where
  none : Each P [] [] false
  more : {x y : N} {xs ys : List N} {c d : Bool} → P x y c → Each P xs ys d → Each P (x ∷ xs) (y ∷ ys) (c || d)
