-- What one walk of the tree shaker may do to a tree. Some names go, with what declares them; of others, which nothing
-- reads, plain assignments go.
use Rattle.std.specs.Prelude.{ℕ, ◌≡◌, Bool, true, false, not, ◌&&◌, ◌||◌, List, [], ◌∷◌, None}
use Rattle.swc_ast.specs.declared.Span.{Span}
use Rattle.swc_ast.specs.declared.AssignOp.TheVariants.{Assign as Plain}
use Rattle.swc_ast.specs.declared.VarDeclKind.{VarDeclKind}
use Rattle.swc_ast.specs.declared.VarDeclKind.TheVariants.{Var}
use Rattle.swc_ast.specs.Tree.{Text, Name, Label, Assign, Object, Empty, Block, ExprStmt, Param, VarDecl, Declarator, FnDecl, Import, ExportDefaultFn, ExportDefaultExpr, Module, Script, Tree, node, Forest, ε, ◌⊳◌, label_of}
use Rattle.swc_ast.specs.Scope.{name_or_default, default_name, imported_name}
use Rattle.swc_ast.specs.Meaning.{is_unresolved}
use Rattle.swc_utils.specs.Pure.{pure}
use Rattle.swc_ast.specs.Labels.{is_expression, is_block}
use Rattle.meaning_proofs.specs.Roles.{rewrites_each, Scoped, SameSlack}
use Rattle.meaning_proofs.specs.Names.{Names}
use Rattle.meaning_proofs.specs.Rewrites.{SameExports}
use Rattle.pass_rules.specs.Leaves.{guarded}
use Rattle.dce_rules.specs.Shakes.{NamesOnly, object_call, as_statement}

-- names that go (G) of which no declaration is left (K)
abbrev pub gone : (Name → Bool) → (Name → Bool) → Name → Bool
gone G K x = G x && not (K x)

-- names that go, but are still declared
abbrev pub is_left : (Name → Bool) → (Name → Bool) → Name → Bool
is_left G K x = G x && K x

-- what is known of names: G go where they can, of K a declaration is left, and nothing reads U
abbrev pub names : (Name → Bool) → (Name → Bool) → (Name → Bool) → Names
names G K U = record { dropped = gone G K; loose = λ x. U x || is_left G K x; slack = is_left G K; guarded = λ x. false; guard = λ x. None }

-- what a node that stays declares, stays
abbrev pub Stands : (Name → Bool) → (Name → Bool) → Label → Type 0
Stands G K (Declarator kind x) = gone G K x ≡ false
Stands G K (Param x) = gone G K x ≡ false
Stands G K (FnDecl x) = G x ≡ false
Stands G K (ExportDefaultFn o) = G (name_or_default o) ≡ false
Stands G K ExportDefaultExpr = G default_name ≡ false
Stands G K _ = Unit {0}

-- a declarator that may go: of a name of which nothing is left, or of a variable
pub data Goes (G K : Name → Bool) : VarDeclKind → Name → Type 0 where
  no_more_of : {k : VarDeclKind} {x : Name} → gone G K x ≡ true → Goes G K k x
  fewer_of : {x : Name} → is_left G K x ≡ true → Goes G K Var x

-- an empty statement or an empty block
pub data Nothing : Tree → Type 0 where
  empty_statement : {ss : List Span} → Nothing (node Empty ss ε)
  empty_block : {ss : List Span} → Nothing (node Block ss ε)

-- expressions, each as a statement
abbrev pub statements : Forest → Forest
statements ε = ε
statements (q ⊳ qs) = node ExprStmt [] (q ⊳ ε) ⊳ statements qs

-- specifiers of an import: some go
pub data Specifiers (D : Name → Bool) : Forest → Forest → Type 0 where
  no_more : Specifiers D ε ε
  stays : (l : Label) {ss rs : List Span} {cs ts us : Forest} → Specifiers D ts us → Specifiers D (node l ss cs ⊳ ts) (node l rs cs ⊳ us)
  goes : (l : Label) {x : Name} {ss : List Span} {cs ts us : Forest} → imported_name l ≡ x ∷ [] → D x ≡ true → Specifiers D ts us → Specifiers D (node l ss cs ⊳ ts) us

-- `x = r` to `r`, or to `(0, r)`
pub data Moves (U : Name → Bool) (mark : ℕ) : Tree → Tree → Type 0 where
  value_alone : (x : Name) {ss : List Span} {r : Tree} → U x ≡ true → is_unresolved mark x ≡ false → is_expression (label_of r) ≡ true → Moves U mark (node (Assign Plain x) ss (r ⊳ ε)) r
  value_guarded : (x : Name) {ss rs zs : List Span} {r : Tree} → U x ≡ true → is_unresolved mark x ≡ false → is_expression (label_of r) ≡ true → Moves U mark (node (Assign Plain x) ss (r ⊳ ε)) (guarded rs zs r)

-- G: names that go; K: names of which a declaration is left; U: names that nothing reads; whether imports of which nothing
-- is left go
module _ (G K U : Name → Bool) (mark : ℕ) (drops_imports : Bool) where
  mutual
    pub data Walked : Tree → Tree → Type 0 where
      same_node : (l : Label) {ss rs : List Span} {cs us : Forest} → rewrites_each l ≡ true → Stands G K l → SameExports l cs us → Scoped (names G K U) l cs us → Each cs us → Walked (node l ss cs) (node l rs us)
      same_list : (l : Label) {ss rs : List Span} {cs us : Forest} → is_block l ≡ true → Items cs us → Walked (node l ss cs) (node l rs us)
      same_import : (src : Text) {ss rs : List Span} {cs us : Forest} → Specifiers (gone G K) cs us → Walked (node (Import src) ss cs) (node (Import src) rs us)
      -- some declarators go
      declaration : (k : VarDeclKind) {ss rs : List Span} {cs us : Forest} → Declarators k false cs us → Walked (node (VarDecl k) ss cs) (node (VarDecl k) rs us)
      -- all names go; what is left of first values
      first_values : (k : VarDeclKind) (rs vs : List Span) (qs : Forest) {ss : List Span} {cs : Forest} → Declarators k true cs (statements qs) → Walked (node (VarDecl k) ss cs) (as_statement rs vs qs)
      -- a step in front of the walk
      opened : {t u q : Tree} → Moves U mark t u → Walked u q → Walked t q
      -- a function that is called at once and returns an object of names
      called : {ss fs ps bs rs os : List Span} {t : Tree} {props : Forest} → NamesOnly props → Walked t (object_call ss fs ps bs rs os props) → Walked t (node Object os props)

    pub data Each : Forest → Forest → Type 0 where
      none : Each ε ε
      more : {t u : Tree} {ts us : Forest} → Walked t u → Each ts us → Each (t ⊳ ts) (u ⊳ us)

    -- statements and items
    pub data Items : Forest → Forest → Type 0 where
      no_item : Items ε ε
      item : {t u : Tree} {ts us : Forest} → Walked t u → Items ts us → Items (t ⊳ ts) (u ⊳ us)
      function_goes : (x : Name) {ss : List Span} {cs ts us : Forest} → gone G K x ≡ true → Items ts us → Items (node (FnDecl x) ss cs ⊳ ts) us
      nothing_goes : {t u : Tree} {ts us : Forest} → Walked t u → Nothing u → Items ts us → Items (t ⊳ ts) us
      import_goes : (src : Text) {ss : List Span} {cs ts us : Forest} → drops_imports ≡ true → Specifiers (gone G K) cs ε → Items ts us → Items (node (Import src) ss cs ⊳ ts) us

    -- declarators, all of which go or not
    pub data Declarators : VarDeclKind → Bool → Forest → Forest → Type 0 where
      no_declarator : {k : VarDeclKind} {b : Bool} → Declarators k b ε ε
      declarator : {k : VarDeclKind} {t u : Tree} {ts us : Forest} → Walked t u → Declarators k false ts us → Declarators k false (t ⊳ ts) (u ⊳ us)
      unset_goes : (k : VarDeclKind) (x : Name) {b : Bool} {ss : List Span} {ts us : Forest} → Goes G K k x → Declarators k b ts us → Declarators k b (node (Declarator k x) ss ε ⊳ ts) us
      early_goes : (k : VarDeclKind) (x : Name) {b : Bool} {ss : List Span} {r : Tree} {ts us : Forest} → Goes G K k x → pure mark r ≡ true → Declarators k b ts us → Declarators k b (node (Declarator k x) ss (r ⊳ ε) ⊳ ts) us
      value_goes : (k : VarDeclKind) (x : Name) {b : Bool} {ss : List Span} {r q : Tree} {ts us : Forest} → Goes G K k x → Walked r q → pure mark q ≡ true → Declarators k b ts us → Declarators k b (node (Declarator k x) ss (r ⊳ ε) ⊳ ts) us
      value_left : (k : VarDeclKind) (x : Name) {ss : List Span} {r q : Tree} {ts us : Forest} → Goes G K k x → Walked r q → Declarators k true ts us → Declarators k true (node (Declarator k x) ss (r ⊳ ε) ⊳ ts) (node ExprStmt [] (q ⊳ ε) ⊳ us)

  -- what a walk may do to a module or a script
  pub data Shaken : Tree → Tree → Type 0 where
    module_shaken : {ss rs : List Span} {ts us : Forest} → Items ts us → SameSlack (names G K U) ts us → Shaken (node Module ss ts) (node Module rs us)
    script_shaken : {ss rs : List Span} {ts us : Forest} → Items ts us → SameSlack (names G K U) ts us → Shaken (node Script ss ts) (node Script rs us)
