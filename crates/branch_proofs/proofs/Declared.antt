-- What statements become declares the same `var`s, and nothing else.
use Rattle.std.proofs.Common.{◌≡◌, ℕ, Bool, true, false, ◌&&◌, ◌||◌, List, [], ◌++◌, Option, Some, None, refl, sym, ap, ap₂, ◌∙◌}
use Rattle.std.proofs.lemmas.Bool.{and_parts}
use Rattle.swc_ast.specs.declared.Span.{Span}
use Rattle.swc_ast.specs.Tree.{Name, BoolLit, Empty, Block, If, While, For, Absent, Try, Tree, node, Forest, ε, ◌⊳◌}
use Rattle.swc_ast.specs.Scope.{has_name, vars, vars_all, declared_by, declared, joined}
use Rattle.meaning_proofs.proofs.Finds.{has_cons, has_joined}
use Rattle.branch_rules.specs.Statements.{as_statement, is_plain, all_plain, Chooses, only_arm, no_arm, then_arm, else_arm, StatementStep, expression, choose, else_goes, branch_goes, while_true, while_false, while_never, for_first, for_update, for_true, for_false, for_no_update, for_no_body, for_never, do_true, label_empty, label_left, block_empty, block_one, try_inside, try_beside, try_alone, try_block}
use Rattle.branch_proofs.proofs.Becoming.{SameVars}
use Rattle.branch_rules.specs.Vars.{VarsOf}
use Rattle.branch_proofs.proofs.Places.{as_vars}
use Rattle.branch_proofs.proofs.Tests.{none_declared, one_declares, alone_vars, alone_declares}
use Rattle.branch_proofs.proofs.Labelled.{expression_vars, optional_vars, part_vars, plain_declares}
use Rattle.branch_proofs.proofs.Vars.{or_nothing, has_alone, vars_kept, vars_declare}

module _ (x : Name) where
  abbrev V : Tree → Bool
  V t = has_name x (vars t)

  abbrev A : Forest → Bool
  A ts = has_name x (vars_all ts)

  pub one : (a : Tree) → A (a ⊳ ε) ≡ V a
  one a = has_alone x (vars a)

  two : (a b : Tree) → A (a ⊳ b ⊳ ε) ≡ (V a || V b)
  two a b = has_cons x a (b ⊳ ε) ∙ ap (λ z. V a || z) (one b)

  three : (a b d : Tree) → A (a ⊳ b ⊳ d ⊳ ε) ≡ (V a || (V b || V d))
  three a b d = has_cons x a (b ⊳ d ⊳ ε) ∙ ap (λ z. V a || z) (two b d)

  four : (a b d e : Tree) → A (a ⊳ b ⊳ d ⊳ e ⊳ ε) ≡ (V a || (V b || (V d || V e)))
  four a b d e = has_cons x a (b ⊳ d ⊳ e ⊳ ε) ∙ ap (λ z. V a || z) (three b d e)

  no_vars : (a : Tree) → vars a ≡ [] → V a ≡ false
  no_vars a h = ap (has_name x) h

  placed : (rs : List Span) (us : Forest) → V (as_statement rs us) ≡ A us
  placed rs us = ap (has_name x) (sym (as_vars rs us))

  -- a statement of which `var`s are left
  stood : (rs : List Span) (b : Tree) {vs : Forest} → VarsOf (b ⊳ ε) vs → V (as_statement rs vs) ≡ V b
  stood rs b {vs} h = placed rs vs ∙ vars_kept (b ⊳ ε) h x ∙ one b

pub or_last : (a b : Bool) → a ≡ false → (a || b) ≡ b
or_last true b e = cc
or_last false b e = refl

or_swapped : (a b : Bool) → (a || b) ≡ (b || a)
or_swapped true true = refl
or_swapped true false = refl
or_swapped false true = refl
or_swapped false false = refl

-- `var`s of a tree that goes in front of another
front_vars : (x : Name) (a b : Tree) {vs : Forest} → VarsOf (a ⊳ ε) vs → has_name x (vars_all (joined vs (b ⊳ ε))) ≡ (has_name x (vars a) || has_name x (vars b))
front_vars x a b {vs} h = has_joined x vs (b ⊳ ε) ∙ ap₂ ◌||◌ (vars_kept (a ⊳ ε) h x ∙ one x a) (one x b)

pub none_first : (x : Name) (es us : Forest) → vars_all es ≡ [] → has_name x (vars_all (joined es us)) ≡ has_name x (vars_all us)
none_first x es us h = has_joined x es us ∙ or_last _ _ (ap (has_name x) h)

-- the arms of a condition
arm_vars : (x : Name) {known : Bool} {arms kept gone : Forest} → Chooses known arms kept gone → (has_name x (vars_all gone) || has_name x (vars_all kept)) ≡ has_name x (vars_all arms)
arm_vars x (only_arm a) = refl
arm_vars x (no_arm a) = or_nothing (has_name x (vars_all (a ⊳ ε)))
arm_vars x (then_arm a b) = ap₂ ◌||◌ (one x b) (one x a) ∙ or_swapped (has_name x (vars b)) (has_name x (vars a)) ∙ sym (two x a b)
arm_vars x (else_arm a b) = ap₂ ◌||◌ (one x a) (one x b) ∙ sym (two x a b)

pub all_declare : (ts : Forest) → all_plain ts ≡ true → declared ts ≡ []
all_declare ε h = refl
all_declare (t ⊳ ts) h = let p = and_parts (is_plain t) (all_plain ts) h in ap₂ ◌++◌ (plain_declares t p.0) (all_declare ts p.1)

arm_declares : {known : Bool} {arms kept gone : Forest} → Chooses known arms kept gone → all_plain arms ≡ true → declared kept ≡ []
arm_declares (only_arm a) h = all_declare (a ⊳ ε) h
arm_declares (no_arm a) h = refl
arm_declares (then_arm a b) h = one_declares a (plain_declares a (and_parts (is_plain a) (is_plain b && true) h).0)
arm_declares (else_arm a b) h = all_declare (b ⊳ ε) (and_parts (is_plain a) (is_plain b && true) h).1

-- a loop whose parts declare the same
for_vars : (x : Name) (ss us : List Span) (i t u b i' t' u' b' : Tree) → has_name x (vars i) ≡ has_name x (vars i') → has_name x (vars t) ≡ has_name x (vars t') → has_name x (vars u) ≡ has_name x (vars u') → has_name x (vars b) ≡ has_name x (vars b') → has_name x (vars (node For ss (i ⊳ t ⊳ u ⊳ b ⊳ ε))) ≡ has_name x (vars_all (node For us (i' ⊳ t' ⊳ u' ⊳ b' ⊳ ε) ⊳ ε))
for_vars x ss us i t u b i' t' u' b' hi ht hu hb = four x i t u b ∙ ap₂ ◌||◌ hi (ap₂ ◌||◌ ht (ap₂ ◌||◌ hu hb)) ∙ sym (one x (node For us (i' ⊳ t' ⊳ u' ⊳ b' ⊳ ε)) ∙ four x i' t' u' b')

-- a part that declares nothing
gone_vars : (x : Name) (a b : Tree) → vars a ≡ [] → vars b ≡ [] → has_name x (vars a) ≡ has_name x (vars b)
gone_vars x a b h g = ap (has_name x) (h ∙ sym g)

-- `try`
try_vars : (x : Name) (p : Option (Option Name)) (ss bs : List Span) (h f : Tree) → has_name x (vars (node (Try p) ss (node Block bs ε ⊳ h ⊳ f ⊳ ε))) ≡ (has_name x (vars h) || has_name x (vars f))
try_vars x None ss bs h f = two x h f
try_vars x (Some o) ss bs h f = two x h f

plain_one : (t : Tree) (us : Forest) → ((x : Name) → has_name x (vars t) ≡ has_name x (vars_all us)) → declared_by t ≡ [] → declared us ≡ [] → SameVars t us
plain_one t us h b d = record { vars = h; before = b; behind = d }

pub statement_vars : {mark : ℕ} {t : Tree} {us : Forest} → StatementStep mark t us → SameVars t us
statement_vars (expression ss a e w h) = plain_one _ _ (λ x. ap (has_name x) (sym (alone_vars h))) refl (alone_declares h)
statement_vars (choose ss t known arms kept gone {es} {vs} e k r p g h v) =
    plain_one _ _ (λ x. has_cons x t arms ∙ or_last _ _ (no_vars x t (expression_vars t e)) ∙ sym (none_first x es (joined vs kept) (alone_vars h) ∙ has_joined x vs kept ∙ ap (λ z. z || has_name x (vars_all kept)) (vars_kept gone v x) ∙ arm_vars x r)) refl
    (none_declared es (joined vs kept) (alone_declares h) (none_declared vs kept (vars_declare v) (arm_declares r p)))
statement_vars (else_goes ss rs us t a e p) = plain_one _ _ (λ x. three x t a (node Empty rs ε) ∙ ap (λ z. has_name x (vars t) || z) (or_nothing (has_name x (vars a))) ∙ sym (one x (node If us (t ⊳ a ⊳ ε)) ∙ two x t a)) refl refl
statement_vars (branch_goes ss rs t e h) = plain_one _ _ (λ x. two x t (node Empty rs ε) ∙ or_last _ _ (no_vars x t (expression_vars t e)) ∙ sym (ap (has_name x) (alone_vars h))) refl (alone_declares h)
statement_vars (while_true ss rs us t b q l p e) = plain_one _ _ (λ x. two x t b ∙ or_last _ _ (no_vars x t (expression_vars t q)) ∙ sym (one x (node While us (node (BoolLit true) rs ε ⊳ b ⊳ ε)) ∙ one x b)) refl refl
statement_vars (while_false ss rs us t b {vs} q e h w) = plain_one _ _ (λ x. two x t b ∙ ap (λ z. has_name x (vars t) || z) (sym (stood x rs b h)) ∙ sym (one x (node While us (t ⊳ as_statement rs vs ⊳ ε)) ∙ two x t (as_statement rs vs))) refl refl
statement_vars (while_never ss t b q p e h) = plain_one _ _ (λ x. two x t b ∙ or_last _ _ (no_vars x t (expression_vars t q)) ∙ sym (vars_kept (b ⊳ ε) h x ∙ one x b)) refl (vars_declare h)
statement_vars (for_first ss us i j t u b q r) = plain_one _ _ (λ x. for_vars x ss us i t u b j t u b (gone_vars x i j (expression_vars i q) (part_vars r)) refl refl refl) refl refl
statement_vars (for_update ss us i t u v b q r) = plain_one _ _ (λ x. for_vars x ss us i t u b i t v b refl refl (gone_vars x u v (expression_vars u q) (part_vars r)) refl) refl refl
statement_vars (for_true ss rs us i t u b q p e) = plain_one _ _ (λ x. for_vars x ss us i t u b i (node Absent rs ε) u b refl (ap (has_name x) (expression_vars t q)) refl refl) refl refl
statement_vars (for_false ss rs us i t u b q l p e) = plain_one _ _ (λ x. for_vars x ss us i t u b i (node (BoolLit false) rs ε) u b refl (ap (has_name x) (expression_vars t q)) refl refl) refl refl
statement_vars (for_no_update ss ws us i t u b q r z p e) = plain_one _ _ (λ x. for_vars x ss us i t u b i t (node Absent ws ε) b refl refl (ap (has_name x) (expression_vars u r)) refl) refl refl
statement_vars (for_no_body ss bs us i t u b {vs} q p e h w) = plain_one _ _ (λ x. for_vars x ss us i t u b i t u (as_statement bs vs) refl refl refl (sym (stood x bs b h))) refl refl
statement_vars (for_never ss is t u b q o p e h) = plain_one _ _ (λ x. four x (node Absent is ε) t u b ∙ or_last _ _ (no_vars x t (expression_vars t q)) ∙ or_last _ _ (no_vars x u (optional_vars u o)) ∙ sym (vars_kept (b ⊳ ε) h x ∙ one x b)) refl (vars_declare h)
statement_vars (do_true ss ks ls ms us b t q p e) = plain_one _ _ (λ x. two x b t ∙ or_swapped (has_name x (vars b)) (has_name x (vars t)) ∙ or_last _ _ (no_vars x t (expression_vars t q)) ∙ sym (one x (node For us (node Absent ks ε ⊳ node Absent ls ε ⊳ node Absent ms ε ⊳ b ⊳ ε)) ∙ one x b)) refl refl
statement_vars (label_empty l ss rs) = plain_one _ _ (λ x. refl) refl refl
statement_vars (label_left l m ss rs e) = plain_one _ _ (λ x. refl) refl refl
statement_vars (block_empty ss) = plain_one _ _ (λ x. refl) refl refl
statement_vars (block_one ss t p q g) = plain_one _ _ (λ x. refl) refl (one_declares t (plain_declares t p))
statement_vars (try_inside p ss bs fs us h cs {vs} a q) = plain_one _ _ (λ x. try_vars x p ss bs h (node Block fs cs) ∙ ap (λ z. z || has_name x (vars_all cs)) (sym (vars_kept (h ⊳ ε) q x ∙ one x h)) ∙ sym (one x (node Block us (joined vs cs)) ∙ has_joined x vs cs)) refl refl
statement_vars (try_beside p ss bs fs h cs {vs} q) = plain_one _ _ (λ x. try_vars x p ss bs h (node Block fs cs) ∙ sym (front_vars x h (node Block fs cs) q)) refl (none_declared vs (node Block fs cs ⊳ ε) (vars_declare q) refl)
statement_vars (try_alone p ss bs fs h q) = plain_one _ _ (λ x. try_vars x p ss bs h (node Absent fs ε) ∙ sym (vars_kept (h ⊳ ε) q x ∙ one x h ∙ sym (or_nothing (has_name x (vars h))))) refl (vars_declare q)
statement_vars (try_block ss bs hs fs cs) = plain_one _ _ (λ x. two x (node Block bs cs) (node Absent hs ε) ∙ or_nothing (has_name x (vars_all cs)) ∙ sym (one x (node Block bs cs))) refl refl
