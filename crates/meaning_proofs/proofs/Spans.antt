-- Modules that differ in their spans alone do the same.
use Rattle.std.proofs.Common.{◌≡◌, ℕ, Bool, true, false, List, [], ◌++◌, Some, None, refl, sym, ap, subst, ◌∙◌, ◌&&◌, ◌||◌, Option, ap₂}
use Rattle.std.proofs.lemmas.Bool.{false≢true, and_parts, not-true}
use Rattle.swc_ast.specs.declared.Span.{Span}
use Rattle.swc_ast.specs.Tree.{Name, Label, Read, CallEval, Shorthand, TypeOfName, Assign, Update, Fn, Param, Block, Body, CaseBody, Try, VarDecl, Declarator, FnDecl, Module, Script, Import, ExportDecl, ExportNamed, ExportDefaultFn, ExportDefaultExpr, Tree, node, Forest, ε, ◌⊳◌, bare, bares, ImportNamed, ImportDefault, ImportStar, label_of, children_of}
use Rattle.swc_ast.specs.Scope.{default_name, name_or_default, has_name, imported_name, declarator_name, declarator_names}
use Rattle.swc_ast.specs.Meaning.{is_unresolved, eval}
use Rattle.swc_ast.specs.Run.{sources, source_of, once, own_texts, declared_exports, specifier_export, specifier_exports, item_exports, observe_by, Same}
use Rattle.meaning_proofs.specs.Names.{Seen, shown, gone, Settable, may_set, never, set_and_read, stays, Names}
use Rattle.meaning_proofs.specs.Sameness.{heeded, ignoring}
use Rattle.meaning_proofs.specs.Walks.{dead_names, no_names, option_lives, binds_living, all_living, all_living_in, ImportsFree, AllClean, AllCleanIn}
use Rattle.meaning_proofs.specs.Roles.{Clean, Free, no_name, free_name}
use Rattle.meaning_proofs.specs.Rewrites.{SameExports, Specifiers, no_more, keep, Kept, kept, kept_list, kept_declarators, kept_import, Rewrites, All, nil, cons, modules, scripts}
use Rattle.meaning_proofs.proofs.Names.{other_name'}
use Rattle.meaning_proofs.proofs.Trees.{eval_unfolds}
use Rattle.meaning_proofs.proofs.Laws.{only_kept, only_listed, list_trims_itself, same_lists_itself, list_exact_itself}
use Rattle.meaning_proofs.proofs.Runs.{same}
use Rattle.meaning_proofs.proofs.Making.{firm_scoped, firm_slack}

-- no dead name is unresolved
pub record Bound (dead : Name → Bool) (mark : ℕ) : Type 0 where
  pub at : (x : Name) → dead x ≡ true → is_unresolved mark x ≡ false

module _ {dead : Name → Bool} {mark : ℕ} (h : Bound dead mark) where
  seen_name : (x : Name) → Seen (dead_names dead) mark x
  seen_name x = go (dead x) refl
    where
      go : (b : Bool) → dead x ≡ b → Seen (dead_names dead) mark x
      go false e = shown e refl
      go true e = gone e refl (h.at x e)

  set_name : (x : Name) → Settable (dead_names dead) mark x
  set_name x = go (dead x) refl
    where
      go : (b : Bool) → dead x ≡ b → Settable (dead_names dead) mark x
      go false e = may_set e refl e
      go true e = never e refl (h.at x e)

  option_free : (o : Option Name) → option_lives dead o ≡ true → Free (dead_names dead) o
  option_free None e = no_name
  option_free (Some x) e = free_name (not-true (dead x) e)

  -- a label_of that binds no dead name is clean
  pub all_clean : (l : Label) → binds_living dead l ≡ true → Clean (dead_names dead) mark l
  all_clean (Read x) e = seen_name x
  all_clean (CallEval x) e = seen_name x
  all_clean (Shorthand x) e = seen_name x
  all_clean (TypeOfName x) e = seen_name x
  all_clean (Assign op x) e = set_and_read (set_name x)
  all_clean (Update op prefix x) e = set_name x
  all_clean (Declarator kind x) e = (not-true (dead x) e, not-true (dead x) e)
  all_clean (Param x) e = (not-true (dead x) e, not-true (dead x) e)
  all_clean (FnDecl x) e = not-true (dead x) e
  all_clean (Fn o) e = option_free o e
  all_clean (Try (Some o)) e = option_free o e
  all_clean (ExportDefaultFn o) e = free_name (not-true (dead (name_or_default o)) e)
  all_clean ExportDefaultExpr e = (not-true (dead default_name) e, not-true (dead default_name) e)
  all_clean _ e = tt

-- an import binds no guarded name
free_import : (N : Names) (l : Label) → ImportsFree N l → (x : Name) → N.guarded x ≡ true → has_name x (imported_name l) ≡ false
free_import N (ImportNamed y i) e x g = ap (λ b. b || false) (other_name' N.guarded x y g e)
free_import N (ImportDefault y) e x g = ap (λ b. b || false) (other_name' N.guarded x y g e)
free_import N (ImportStar y) e x g = ap (λ b. b || false) (other_name' N.guarded x y g e)
free_import N _ e x g = refl

-- what spans do not change

declarators_bare : (ts : Forest) → declarator_names ts ≡ declarator_names (bares ts)
declarators_bare ε = refl
declarators_bare (node l ss cs ⊳ ts) = ap (λ xs. declarator_name l ++ xs) (declarators_bare ts)

specifiers_bare : (ts : Forest) → specifier_exports ts ≡ specifier_exports (bares ts)
specifiers_bare ε = refl
specifiers_bare (node l ss cs ⊳ ts) = ap (λ xs. specifier_export l ++ xs) (specifiers_bare ts)

sources_bare : (ts : Forest) → sources ts ≡ sources (bares ts)
sources_bare ε = refl
sources_bare (node l ss cs ⊳ ts) = ap (λ xs. source_of l ++ xs) (sources_bare ts)

declared_bare : (l : Label) (cs : Forest) → declared_exports l cs ≡ declared_exports l (bares cs)
declared_bare (VarDecl kind) cs = ap own_texts (declarators_bare cs)
declared_bare (FnDecl x) cs = refl
declared_bare _ cs = refl

export_bare : (ts : Forest) → item_exports ExportDecl ts ≡ item_exports ExportDecl (bares ts)
export_bare ε = refl
export_bare (node l ss cs ⊳ ts) = declared_bare l cs

pub same_exports : (l : Label) (cs us : Forest) → bares cs ≡ bares us → SameExports l cs us
same_exports ExportDecl cs us e = export_bare cs ∙ ap (item_exports ExportDecl) e ∙ sym (export_bare us)
same_exports ExportNamed cs us e = specifiers_bare cs ∙ ap specifier_exports e ∙ sym (specifiers_bare us)
same_exports _ cs us e = tt

first_of : Forest → Tree → Tree
first_of ε t = t
first_of (t ⊳ ts) u = t

rest_of : Forest → Forest
rest_of ε = ε
rest_of (t ⊳ ts) = ts

no_child : {A : Type 0} (t : Tree) (ts : Forest) → (t ⊳ ts) ≡ ε → A
no_child t ts e = cc

pub head_bare : (t u : Tree) (ts us : Forest) → (bare t ⊳ bares ts) ≡ (bare u ⊳ bares us) → bare t ≡ bare u
unfolding first_of
head_bare t u ts us e = ap (λ (ws : Forest). first_of ws (bare t)) e

pub tail_bare : (t u : Tree) (ts us : Forest) → (bare t ⊳ bares ts) ≡ (bare u ⊳ bares us) → bares ts ≡ bares us
unfolding rest_of
tail_bare t u ts us e = ap rest_of e

specifiers_same : (N : Names) (mark : ℕ) (ts us : Forest) → AllCleanIn N mark ts → bares ts ≡ bares us → Specifiers N ts us
specifiers_same N mark ε ε a e = no_more
specifiers_same N mark ε (u ⊳ us) a e = no_child (bare u) (bares us) (sym e)
specifiers_same N mark (t ⊳ ts) ε a e = no_child (bare t) (bares ts) e
specifiers_same N mark (node l ss cs ⊳ ts) (node m rs ds ⊳ us) a e =
    subst (λ m. Specifiers N (node l ss cs ⊳ ts) (node m rs ds ⊳ us)) (ap label_of (head_bare (node l ss cs) (node m rs ds) ts us e))
    (keep l (free_import N l a.0.1.0) (specifiers_same N mark ts us a.1 (tail_bare (node l ss cs) (node m rs ds) ts us e)))

module _ {N : Names} {mark : ℕ} (firm : (x : Name) → N.slack x ≡ false) where
  one_kept : (l : Label) (ss rs : List Span) (cs us : Forest) → Clean N mark l → AllCleanIn N mark cs → bares cs ≡ bares us → All N mark (eval mark) false cs us → All N mark (eval mark) true cs us → Kept N mark (eval mark) (node l ss cs) (node l rs us)
  one_kept Block ss rs cs us a d e f g = kept_list Block refl (eval_unfolds mark _) (only_listed g)
  one_kept Body ss rs cs us a d e f g = kept_list Body refl (eval_unfolds mark _) (only_listed g)
  one_kept CaseBody ss rs cs us a d e f g = kept_list CaseBody refl (eval_unfolds mark _) (only_listed g)
  one_kept (VarDecl k) ss rs cs us a d e f g = kept_declarators k (eval_unfolds mark _) g
  one_kept (Import src) ss rs cs us a d e f g = kept_import src (eval_unfolds mark _) (specifiers_same N mark cs us d e)
  one_kept l ss rs cs us a d e f g = kept l refl (eval_unfolds mark _) a (same_exports l cs us e) (firm_scoped N firm l cs us) f

  mutual
    pub respanned : (t u : Tree) → AllClean N mark t → bare t ≡ bare u → Rewrites N mark (eval mark) t u
    respanned (node l ss cs) (node m rs us) a e =
        subst (λ m. Rewrites N mark (eval mark) (node l ss cs) (node m rs us)) (ap label_of e)
        (only_kept (one_kept l ss rs cs us a.0 a.1.1 (ap children_of e) (all_respanned cs us a.1.1 (ap children_of e) false) (all_respanned cs us a.1.1 (ap children_of e) true)))

    pub all_respanned : (ts us : Forest) → AllCleanIn N mark ts → bares ts ≡ bares us → (b : Bool) → All N mark (eval mark) b ts us
    all_respanned ε ε a e b = nil
    all_respanned ε (u ⊳ us) a e b = no_child (bare u) (bares us) (sym e)
    all_respanned (t ⊳ ts) ε a e b = no_child (bare t) (bares ts) e
    all_respanned (t ⊳ ts) (u ⊳ us) a e b = cons (respanned t u a.0 (head_bare t u ts us e)) (all_respanned ts us a.1 (tail_bare t u ts us e) b)

-- where no node binds a dead name

living_imports : (dead : Name → Bool) (l : Label) → binds_living dead l ≡ true → ImportsFree (dead_names dead) l
living_imports dead (ImportNamed x i) e = not-true (dead x) e
living_imports dead (ImportDefault x) e = not-true (dead x) e
living_imports dead (ImportStar x) e = not-true (dead x) e
living_imports dead _ e = tt

module _ {dead : Name → Bool} {mark : ℕ} (h : Bound dead mark) where
  mutual
    pub living_clean : (t : Tree) → all_living dead t ≡ true → AllClean (dead_names dead) mark t
    living_clean (node l ss cs) e = let p = and_parts (binds_living dead l) (all_living_in dead cs) e in (all_clean h l p.0, (living_imports dead l p.0, living_clean_in cs p.1))

    pub living_clean_in : (ts : Forest) → all_living_in dead ts ≡ true → AllCleanIn (dead_names dead) mark ts
    living_clean_in ε e = tt
    living_clean_in (t ⊳ ts) e = let p = and_parts (all_living dead t) (all_living_in dead ts) e in (living_clean t p.0, living_clean_in ts p.1)

-- where no name is dead

pub no_dead_label : (l : Label) → binds_living (λ x. false) l ≡ true
no_dead_label (Declarator kind x) = refl
no_dead_label (Param x) = refl
no_dead_label (FnDecl x) = refl
no_dead_label (Fn None) = refl
no_dead_label (Fn (Some x)) = refl
no_dead_label (Try (Some None)) = refl
no_dead_label (Try (Some (Some x))) = refl
no_dead_label (ExportDefaultFn o) = refl
no_dead_label ExportDefaultExpr = refl
no_dead_label (ImportNamed x i) = refl
no_dead_label (ImportDefault x) = refl
no_dead_label (ImportStar x) = refl
no_dead_label _ = refl

mutual
  pub no_dead : (t : Tree) → all_living (λ x. false) t ≡ true
  no_dead (node l ss cs) = ap₂ ◌&&◌ (no_dead_label l) (no_dead_in cs)

  pub no_dead_in : (ts : Forest) → all_living_in (λ x. false) ts ≡ true
  no_dead_in ε = refl
  no_dead_in (t ⊳ ts) = ap₂ ◌&&◌ (no_dead t) (no_dead_in ts)

pub none_dead : (mark : ℕ) → Bound (λ x. false) mark
none_dead mark = record { at = λ x e. absurd (false≢true e) }

module _ (mark : ℕ) where
  of_modules : (loads : Bool) (l : Label) (ss rs : List Span) (cs us : Forest) → bares cs ≡ bares us → Same mark loads (node l ss cs) (node l rs us)
  unfolding Same observe_by
  of_modules loads Module ss rs cs us e =
      same loads (modules {ss = ss} {rs = rs} (list_trims_itself cs) (same_lists_itself cs) (all_respanned (λ x. refl) cs us (living_clean_in (none_dead mark) cs (no_dead_in cs)) e true) (list_exact_itself mark us) (same_lists_itself us) refl refl (λ x e. stays refl refl) (ap (λ xs. heeded (ignoring loads) (once [] xs)) (sources_bare cs ∙ ap sources e ∙ sym (sources_bare us))) (firm_slack no_names (λ x. refl) cs us))
  of_modules loads Script ss rs cs us e = same loads (scripts {ss = ss} {rs = rs} (only_listed (all_respanned (λ x. refl) cs us (living_clean_in (none_dead mark) cs (no_dead_in cs)) e true)) (firm_slack no_names (λ x. refl) cs us))
  of_modules loads _ ss rs cs us e = λ n d w calls o q. cc

  pub same_bare : (loads : Bool) (t u : Tree) → bare t ≡ bare u → Same mark loads t u
  same_bare loads (node l ss cs) (node m rs us) e = subst (λ m. Same mark loads (node l ss cs) (node m rs us)) (ap label_of e) (of_modules loads l ss rs cs us (ap children_of e))
