-- Names that go and names that nothing reads: what nodes that stay ask of them.
use Rattle.std.proofs.Common.{◌≡◌, ℕ, Bool, true, false, not, ◌&&◌, ◌||◌, List, Some, None, refl, sym, ap, subst, ◌∙◌, if◌then◌else◌}
use Rattle.std.proofs.lemmas.Bool.{true≢false, or_parts, or_left, or_right, or_from, and_left}
use Rattle.swc_ast.specs.declared.Span.{Span}
use Rattle.swc_ast.specs.declared.VarDeclKind.{VarDeclKind}
use Rattle.swc_ast.specs.declared.AssignOp.TheVariants.{Assign as Plain}
use Rattle.swc_ast.specs.Tree.{Name, same_name, Label, Read, CallEval, Shorthand, TypeOfName, Assign, Update, Fn, Try, Param, Declarator, FnDecl, ExportDefaultFn, ExportDefaultExpr, Tree, node, Forest, ε, ◌⊳◌}
use Rattle.swc_ast.specs.Scope.{has_name, default_name}
use Rattle.swc_ast.specs.Reach.{named_by, declares, named_outside, outside_in}
use Rattle.meaning_proofs.specs.Names.{Seen, Settable, shown, may_set, set_and_read, only_set}
use Rattle.meaning_proofs.specs.Roles.{FunctionOf, of_declaration, of_default, Clean, no_name, free_name}
use Rattle.meaning_proofs.proofs.Names.{same_itself, other_name'}
use Rattle.meaning_proofs.proofs.Drops.{Unread}
use Rattle.meaning_proofs.proofs.Loose.{LooseName}
use Rattle.meaning_proofs.proofs.Slack.{SlackName}
use Rattle.pass_rules.specs.Leaves.{guarded}
use Rattle.dce_rules.specs.Uses.{read_by, read_outside, outside_among}
use Rattle.dce_proofs.proofs.Walked.{Stands, gone, is_left, names}

-- names that go are neither used nor written, but in functions of that name; others are not read, but there
pub record Unused (G U : Name → Bool) (t : Tree) : Type 0 where
  pub unnamed : (x : Name) → G x ≡ true → named_outside x t ≡ false
  pub unread : (x : Name) → U x ≡ true → read_outside x t ≡ false

pub record AllUnused (G U : Name → Bool) (ts : Forest) : Type 0 where
  pub unnamed : (x : Name) → G x ≡ true → outside_in x ts ≡ false
  pub unread : (x : Name) → U x ≡ true → outside_among x ts ≡ false

-- a node that declares no function of a name that nothing reads
abbrev pub DeclaresRead : (Name → Bool) → Label → Type 0
DeclaresRead U (FnDecl f) = U f ≡ false
DeclaresRead U (ExportDefaultFn (Some f)) = U f ≡ false
DeclaresRead U _ = Unit {0}

-- a node declares none, or one
pub data ReadOrUnseen (U : Name → Bool) : Label → Type 0 where
  declares_read : {l : Label} → DeclaresRead U l → ReadOrUnseen U l
  declares_unseen : {x : Name} {l : Label} → FunctionOf x l → U x ≡ true → ReadOrUnseen U l

function_read_or_unseen : (U : Name → Bool) {l : Label} (x : Name) → FunctionOf x l → (U x ≡ false → DeclaresRead U l) → (b : Bool) → U x ≡ b → ReadOrUnseen U l
function_read_or_unseen U x d f true e = declares_unseen d e
function_read_or_unseen U x d f false e = declares_read (f e)

pub read_or_unseen : (U : Name → Bool) (l : Label) → ReadOrUnseen U l
read_or_unseen U (FnDecl x) = function_read_or_unseen U x of_declaration (λ e. e) (U x) refl
read_or_unseen U (ExportDefaultFn (Some x)) = function_read_or_unseen U x of_default (λ e. e) (U x) refl
read_or_unseen U _ = declares_read tt

read_apart : (U : Name → Bool) (l : Label) (x : Name) → DeclaresRead U l → U x ≡ true → declares x l ≡ false
read_apart U (FnDecl f) x s d = other_name' U x f d s
read_apart U (ExportDefaultFn (Some f)) x s d = other_name' U x f d s
read_apart U _ x s d = refl

stands_apart : (G K : Name → Bool) (l : Label) (x : Name) → Stands G K l → G x ≡ true → declares x l ≡ false
stands_apart G K (FnDecl f) x s d = other_name' G x f d s
stands_apart G K (ExportDefaultFn (Some f)) x s d = other_name' G x f d s
stands_apart G K _ x s d = refl

not_else : (b n o : Bool) → b ≡ false → (if b then false else (n || o)) ≡ false → (n || o) ≡ false
not_else b n o e h = subst (λ b. (if b then false else (n || o)) ≡ false) e h

named_itself : (x : Name) → (same_name x x || false) ≡ true
named_itself x = ap (λ b. b || false) (same_itself x)

left_false : {a : Bool} (b : Bool) → a ≡ false → (a && b) ≡ false
left_false {a} b e = and_left a b e

module _ (G K U : Name → Bool) where
  pub goes : {x : Name} → gone G K x ≡ true → Unread (names G K U) x
  goes e = record { is_dropped = e; is_free = refl }

  pub loosened : {x : Name} → U x ≡ true → LooseName (names G K U) x
  loosened {x} e = record { is_loose = or_left (U x) (is_left G K x) e; is_free = refl }

  pub slackened : {x : Name} → is_left G K x ≡ true → SlackName (names G K U) x
  slackened {x} e = record { is_slack = e; is_loose = or_right (U x) (is_left G K x) e; is_free = refl }

module _ {G U : Name → Bool} where
  -- parts

  pub first_unused : {t : Tree} {ts : Forest} → AllUnused G U (t ⊳ ts) → Unused G U t
  first_unused h = record { unnamed = λ x d. (or_parts _ _ (h.unnamed x d)).0; unread = λ x d. (or_parts _ _ (h.unread x d)).0 }

  pub rest_unused : {t : Tree} {ts : Forest} → AllUnused G U (t ⊳ ts) → AllUnused G U ts
  rest_unused h = record { unnamed = λ x d. (or_parts _ _ (h.unnamed x d)).1; unread = λ x d. (or_parts _ _ (h.unread x d)).1 }

  pub below : (K : Name → Bool) (l : Label) {ss : List Span} {cs : Forest} → Stands G K l → DeclaresRead U l → Unused G U (node l ss cs) → AllUnused G U cs
  below K l {cs = cs} s r h = record {
    unnamed = λ x d. (or_parts (has_name x (named_by l)) (outside_in x cs) (not_else (declares x l) (has_name x (named_by l)) (outside_in x cs) (stands_apart G K l x s d) (h.unnamed x d))).1;
    unread = λ x d. (or_parts (has_name x (read_by l)) (outside_among x cs) (not_else (declares x l) (has_name x (read_by l)) (outside_among x cs) (read_apart U l x r d) (h.unread x d))).1;
  }

  -- `(0, r)`
  pub guarded_unused : {rs zs : List Span} {r : Tree} → Unused G U r → Unused G U (guarded rs zs r)
  guarded_unused {r = r} h = record { unnamed = λ x d. or_from (named_outside x r) false (h.unnamed x d) refl; unread = λ x d. or_from (read_outside x r) false (h.unread x d) refl }

  -- the first value of a declarator
  pub value_unused : {k : VarDeclKind} {x : Name} {ss : List Span} {r : Tree} {ts : Forest} → AllUnused G U (node (Declarator k x) ss (r ⊳ ε) ⊳ ts) → Unused G U r
  value_unused h = record {
    unnamed = λ y d. (or_parts _ false (or_parts _ _ (h.unnamed y d)).0).0;
    unread = λ y d. (or_parts _ false (or_parts _ _ (h.unread y d)).0).0;
  }

  -- what a node names

  not_dropped : (x : Name) (l : Label) {ss : List Span} {cs : Forest} → declares x l ≡ false → has_name x (named_by l) ≡ true → Unused G U (node l ss cs) → G x ≡ false
  not_dropped x l {cs = cs} e n h = go (G x) refl
    where
      go : (b : Bool) → G x ≡ b → G x ≡ false
      go false p = p
      go true p = absurd (true≢false (sym n ∙ (or_parts (has_name x (named_by l)) (outside_in x cs) (not_else (declares x l) (has_name x (named_by l)) (outside_in x cs) e (h.unnamed x p))).0))

  not_loose : (x : Name) (l : Label) {ss : List Span} {cs : Forest} → declares x l ≡ false → has_name x (read_by l) ≡ true → Unused G U (node l ss cs) → U x ≡ false
  not_loose x l {cs = cs} e n h = go (U x) refl
    where
      go : (b : Bool) → U x ≡ b → U x ≡ false
      go false p = p
      go true p = absurd (true≢false (sym n ∙ (or_parts (has_name x (read_by l)) (outside_among x cs) (not_else (declares x l) (has_name x (read_by l)) (outside_among x cs) e (h.unread x p))).0))

module _ (G K U : Name → Bool) (mark : ℕ) where
  kept_name : (x : Name) → G x ≡ false → gone G K x ≡ false
  kept_name x e = left_false (not (K x)) e

  firm_name : (x : Name) → G x ≡ false → is_left G K x ≡ false
  firm_name x e = left_false (K x) e

  read_name : (x : Name) → G x ≡ false → U x ≡ false → (U x || is_left G K x) ≡ false
  read_name x e u = or_from (U x) (is_left G K x) u (firm_name x e)

  seen : (x : Name) → G x ≡ false → U x ≡ false → Seen (names G K U) mark x
  seen x e u = shown (kept_name x e) (read_name x e u)

  set : (x : Name) → G x ≡ false → U x ≡ false → Settable (names G K U) mark x
  set x e u = may_set (kept_name x e) (read_name x e u) refl

pub clean : {G U : Name → Bool} (K : Name → Bool) (mark : ℕ) (l : Label) {ss : List Span} {cs : Forest} → Stands G K l → Unused G U (node l ss cs) → Clean (names G K U) mark l
clean {G} {U} K mark (Read x) s h = seen G K U mark x (not_dropped x (Read x) refl (named_itself x) h) (not_loose x (Read x) refl (named_itself x) h)
clean {G} {U} K mark (CallEval x) s h = seen G K U mark x (not_dropped x (CallEval x) refl (named_itself x) h) (not_loose x (CallEval x) refl (named_itself x) h)
clean {G} {U} K mark (Shorthand x) s h = seen G K U mark x (not_dropped x (Shorthand x) refl (named_itself x) h) (not_loose x (Shorthand x) refl (named_itself x) h)
clean {G} {U} K mark (TypeOfName x) s h = seen G K U mark x (not_dropped x (TypeOfName x) refl (named_itself x) h) (not_loose x (TypeOfName x) refl (named_itself x) h)
clean {G} {U} K mark (Assign Plain x) s h = let e : G x ≡ false = not_dropped x (Assign Plain x) refl (named_itself x) h in only_set (kept_name G K U mark x e) (firm_name G K U mark x e) refl
clean {G} {U} K mark (Assign op x) s h = set_and_read (set G K U mark x (not_dropped x (Assign op x) refl (named_itself x) h) (not_loose x (Assign op x) refl (named_itself x) h))
clean {G} {U} K mark (Update op prefix x) s h = set G K U mark x (not_dropped x (Update op prefix x) refl (named_itself x) h) (not_loose x (Update op prefix x) refl (named_itself x) h)
clean {G} {U} K mark (Declarator kind x) s h = (s, refl)
clean {G} {U} K mark (Param x) s h = (s, refl)
clean {G} {U} K mark (FnDecl x) s h = refl
clean {G} {U} K mark (Fn None) s h = no_name
clean {G} {U} K mark (Fn (Some x)) s h = free_name refl
clean {G} {U} K mark (Try (Some None)) s h = no_name
clean {G} {U} K mark (Try (Some (Some x))) s h = free_name refl
clean {G} {U} K mark (ExportDefaultFn o) s h = free_name refl
clean {G} {U} K mark ExportDefaultExpr s h = (kept_name G K U mark default_name s, refl)
clean {G} {U} K mark _ s h = tt
