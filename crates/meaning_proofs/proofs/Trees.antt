-- Rewritten trees mean what the trees meant, where calls do.
use Rattle.std.proofs.Common.{◌≡◌, ℕ, Bool, true, false, List, [], ◌∷◌, Some, None, refl, sym, ap, subst, ◌∙◌, append-nil, Option}
use Rattle.std.proofs.lemmas.Bool.{false≢true, true≢false}
use Rattle.swc_ast.specs.Labels.{is_block}
use Rattle.swc_ast.specs.declared.Span.{Span}
use Rattle.swc_ast.specs.declared.VarDeclKind.{VarDeclKind}
use Rattle.swc_ast.specs.declared.VarDeclKind.TheVariants.{Var, Let, Const}
use Rattle.swc_ast.specs.Tree.{Name, Text, Label, Param, Read, CallEval, TypeOfName, Assign, Update, Shorthand, Declarator, ExportDefaultExpr, Fn, Arrow, Method, Block, Body, CaseBody, For, Switch, Try, VarDecl, Import, Tree, node, Forest, ε, ◌⊳◌, label_of, spans_of, children_of}
use Rattle.swc_ast.specs.Value.{Value, Undefined, Context, Meaning}
use Rattle.swc_ast.specs.Scope.{found, declared, declared_by, joined, body_statements, case_statements}
use Rattle.swc_ast.specs.Meaning.{Caller, act, eval, evals, run_all, switch, declare, head_names, first_tree}
use Rattle.swc_ast.specs.Call.{each_of, call_at}
use Rattle.meaning_proofs.specs.Names.{Names}
use Rattle.meaning_proofs.specs.Exact.{Evaluation, run_at, list_at, Idle, IdleAfter, Among, Discriminant, any_value, one_value, CasesTrim, Stops}
use Rattle.meaning_proofs.specs.Roles.{SameScope, is_part, rewrites_each, holds_function, FunctionOf, of_declaration, of_default, Clean, Unfolds}
use Rattle.meaning_proofs.specs.Rewrites.{Kept, kept, kept_list, kept_declarators, kept_import, kept_known, kept_unset, kept_default, kept_switch, drop_own, KeptOrUnseen, as_kept, unseen, Rewrites, step, All, nil, cons, drop, drop_rewritten, stop, Listed, listed}
use Rattle.meaning_proofs.proofs.Relation.{Pairing, Each, none, more, Maybe, neither, V, undefined, function, C, Ran, M, SameDeclaration}
use Rattle.meaning_proofs.proofs.Combine.{gives_sim, leaves_sim, bind}
use Rattle.meaning_proofs.proofs.Stores.{fits, initialise_sim}
use Rattle.meaning_proofs.proofs.Parts.{K, run_all_sim}
use Rattle.meaning_proofs.proofs.Statements.{SameList, SameHead, cases_sim, default_sim, selected_sim, in_list_scope_sim}
use Rattle.meaning_proofs.proofs.Loops.{at_break_sim}
use Rattle.meaning_proofs.proofs.Acts.{Side, act_sim}
use Rattle.meaning_proofs.proofs.Finds.{or_else, or_else_sim, found_joined}
use Rattle.meaning_proofs.proofs.Declared.{pairing, Role, ListRole, View, part, a_function, other, view, rewrites_role, listed_role, or_else_fresh}
use Rattle.meaning_proofs.proofs.Steps.{Known, refined_sim, trimmed_sim, idle_sim, idle_after_sim, stopped_sim, weaker_sim, known_sim}

-- the plain evaluation does what labels say

pub evals_are : (mark n : ℕ) (call : Caller) (ts : Forest) → evals mark n call ts ≡ each_of (eval mark n call) ts
unfolding evals
evals_are mark n call ε = refl
evals_are mark n call (t ⊳ ts) = ap (λ ms. eval mark n call t ∷ ms) (evals_are mark n call ts)

pub eval_unfolds : (mark : ℕ) (t : Tree) → Unfolds mark (eval mark) t
unfolding eval
eval_unfolds mark (node l ss cs) = record { by = λ n call. ap (act mark n call l ss cs) (evals_are mark n call cs) }

-- both are related, and the first is among the values that are known
abbrev Given : Pairing → Option Value → Value → Value → Type 0
Given P known v w = V P v w × Among known v

-- lists and heads

module _ {P : Pairing} where
  pub same_list : {ts us : Forest} → ListRole P ts us → SameList P ts us
  same_list h = record { declares = h.declares; fresh = h.fresh }

  empty_list : SameList P ε ε
  empty_list = record { declares = λ x keeps. neither; fresh = λ x g. refl }

  joined_list : (cs us ts ws : Forest) → SameList P cs us → SameList P ts ws → SameList P (joined cs ts) (joined us ws)
  joined_list cs us ts ws h g = record {
    declares = λ x keeps.
        subst (λ o. Maybe (SameDeclaration P x) o (found x (declared (joined us ws)))) (sym (found_joined x cs ts))
        (subst (λ o. Maybe (SameDeclaration P x) (or_else (found x (declared cs)) (found x (declared ts))) o) (sym (found_joined x us ws))
        (or_else_sim (h.declares x keeps) (g.declares x keeps)));
    fresh = λ x e. ap holds_function (found_joined x cs ts) ∙ or_else_fresh (found x (declared cs)) (found x (declared ts)) (h.fresh x e) (g.fresh x e);
  }

  same_head : {t u : Tree} → Role P t u → SameHead P t u
  same_head {t} {u} h = record {
    names = λ x keeps.
        subst (λ ps. Maybe (SameDeclaration P x) (found x ps) (found x (head_names u))) (sym (append-nil (declared_by t)))
        (subst (λ ps. Maybe (SameDeclaration P x) (found x (declared_by t)) (found x ps)) (sym (append-nil (declared_by u))) (h.declares x keeps));
    copied = h.copied;
    fresh = λ x g. ap (λ ps. holds_function (found x ps)) (append-nil (declared_by t)) ∙ h.fresh x g;
  }

no_statements : (l : Label) (cs : Forest) → is_part l ≡ false → body_statements l cs ≡ ε
no_statements CaseBody cs e = absurd (true≢false e)
no_statements _ cs e = refl

module _ {N : Names} {mark : ℕ} {does : Evaluation} {ignores : Text → Bool} where
  one_case : (l m : Label) {ss rs : List Span} {cs us : Forest} → View N mark does (node l ss cs) (node m rs us) → SameList (pairing N mark does ignores) (body_statements l cs) (body_statements m us)
  one_case l m {cs = cs} {us} (other p q) =
      subst (λ ts. SameList (pairing N mark does ignores) ts (body_statements m us)) (sym (no_statements l cs p)) (subst (λ ts. SameList (pairing N mark does ignores) ε ts) (sym (no_statements m us q)) empty_list)
  one_case l m {cs = cs} {us} (a_function d) = of_function d cs us
    where
      of_function : {x : Name} {l : Label} → FunctionOf x l → (cs us : Forest) → SameList (pairing N mark does ignores) (body_statements l cs) (body_statements l us)
      of_function of_declaration cs us = empty_list
      of_function of_default cs us = empty_list
  one_case l m (part k e) = of_kept k
    where
      plain_case : (l : Label) (cs us : Forest) → rewrites_each l ≡ true → SameList (pairing N mark does ignores) (body_statements l cs) (body_statements l us)
      plain_case CaseBody cs us p = absurd (false≢true p)
      plain_case _ cs us p = empty_list

      list_case : (l : Label) {cs us : Forest} → is_block l ≡ true → Listed N mark does cs us → SameList (pairing N mark does ignores) (body_statements l cs) (body_statements l us)
      list_case CaseBody p h = same_list (listed_role h)
      list_case Block p h = empty_list
      list_case Body p h = empty_list
      list_case _ p h = absurd (false≢true p)

      of_kept : {l m : Label} {ss rs : List Span} {cs us : Forest} → Kept N mark does (node l ss cs) (node m rs us) → SameList (pairing N mark does ignores) (body_statements l cs) (body_statements m us)
      of_kept (kept l p q c o sc h) = plain_case l _ _ p
      of_kept (kept_list l p q h) = list_case l p h
      of_kept (kept_declarators k q h) = empty_list
      of_kept (kept_import src q h) = empty_list
      of_kept (kept_known k q v e g y a r) = empty_list
      of_kept (kept_unset k q d g) = empty_list
      of_kept (kept_default q d g r y) = empty_list
      of_kept (kept_switch q r k a b i h) = empty_list
      of_kept (drop_own q d g sc h) = empty_list

  statements_same : {ts us : Forest} → All N mark does false ts us → SameList (pairing N mark does ignores) (case_statements ts) (case_statements us)
  statements_same nil = empty_list
  statements_same (cons {t = node l ss cs} {u = node m rs ds} {ts} {us} r rest) = joined_list (body_statements l cs) (body_statements m ds) (case_statements ts) (case_statements us) (one_case l m (view r)) (statements_same rest)

  first_same : {ts us : Forest} → All N mark does false ts us → SameHead (pairing N mark does ignores) (first_tree ts) (first_tree us)
  first_same nil = record { names = λ x keeps. neither; copied = λ x keeps. refl; fresh = λ x g. refl }
  first_same (cons r rs) = same_head (rewrites_role r)

module _ {N : Names} {mark : ℕ} {does : Evaluation} (ignores : Text → Bool) where
  side_of : (l : Label) {ss rs : List Span} {cs us : Forest} → rewrites_each l ≡ true → Clean N mark l → All N mark does false cs us → Kept N mark does (node l ss cs) (node l rs us) → Side (pairing N mark does ignores) mark l ss rs cs us
  side_of (Read x) p c h k = c
  side_of (CallEval x) p c h k = c
  side_of (TypeOfName x) p c h k = c
  side_of (Assign op x) p c h k = c
  side_of (Update op prefix x) p c h k = c
  side_of (Shorthand x) p c h k = c
  side_of (Declarator kind x) p c h k = c
  side_of ExportDefaultExpr p c h k = c
  side_of (Fn o) p c h k = k
  side_of Arrow p c h k = k
  side_of Method p c h k = k
  side_of Block p c h k = absurd (false≢true p)
  side_of For p c h k = first_same h
  side_of (Switch ds) p c h k = statements_same h
  side_of (Try None) p c h k = tt
  side_of (Try (Some o)) p c h k = c
  side_of _ p c h k = tt

module _ {N : Names} {mark : ℕ} {does : Evaluation} {ignores : Text → Bool} where
  scope_list : {ts us vs : Forest} → SameScope N ts us → SameList (pairing N mark does ignores) us vs → SameList (pairing N mark does ignores) ts vs
  scope_list {vs = vs} e h = record {
    declares = λ x keeps. subst (λ o. Maybe (SameDeclaration (pairing N mark does ignores) x) o (found x (declared vs))) (sym (e.declares x keeps)) (h.declares x keeps);
    fresh = λ x g. e.functions x g (h.fresh x g);
  }

  list_act_sim : (n : ℕ) (call call' : Caller) (l : Label) → is_block l ≡ true → (ss rs : List Span) {cs us : Forest} → SameList (pairing N mark does ignores) cs us → (ms ns : List Meaning) → M (pairing N mark does ignores) (run_all ms) (run_all ns) → M (pairing N mark does ignores) (act mark n call l ss cs ms) (act mark n call' l rs us ns)
  unfolding act
  list_act_sim n call call' Block e ss rs q ms ns h = in_list_scope_sim q h
  list_act_sim n call call' Body e ss rs q ms ns h = h
  list_act_sim n call call' CaseBody e ss rs q ms ns h = h
  list_act_sim n call call' _ e ss rs q ms ns h = absurd (false≢true e)

  declarators_act_sim : (n : ℕ) (call call' : Caller) (k : VarDeclKind) (ss rs : List Span) (cs us : Forest) (ms ns : List Meaning) → M (pairing N mark does ignores) (run_all ms) (run_all ns) → M (pairing N mark does ignores) (act mark n call (VarDecl k) ss cs ms) (act mark n call' (VarDecl k) rs us ns)
  unfolding act
  declarators_act_sim n call call' k ss rs cs us ms ns h = h

  module _ (n d : ℕ) (hk : K (pairing N mark does ignores) (call_at (does n) d) (call_at (eval mark n) d)) where
    node_sim : {t : Tree} (u : Tree) → Unfolds mark does t
        → M (pairing N mark does ignores) (act mark n (call_at (does n) d) (label_of t) (spans_of t) (children_of t) (each_of (run_at does n d) (children_of t))) (act mark n (call_at (eval mark n) d) (label_of u) (spans_of u) (children_of u) (each_of (run_at (eval mark) n d) (children_of u)))
        → M (pairing N mark does ignores) (run_at does n d t) (run_at (eval mark) n d u)
    node_sim {t} u q h =
        let e = eval_unfolds mark u in
        subst (λ m. M (pairing N mark does ignores) m (run_at (eval mark) n d u)) (sym (q.by n (call_at (does n) d)))
        (subst (λ m. M (pairing N mark does ignores) (act mark n (call_at (does n) d) (label_of t) (spans_of t) (children_of t) (each_of (run_at does n d) (children_of t))) m) (sym (e.by n (call_at (eval mark n) d))) h)

    list_cons : (t u : Tree) (ts us : Forest) → M (pairing N mark does ignores) (run_at does n d t) (run_at (eval mark) n d u) → M (pairing N mark does ignores) (list_at does n d ts) (list_at (eval mark) n d us) → M (pairing N mark does ignores) (list_at does n d (t ⊳ ts)) (list_at (eval mark) n d (u ⊳ us))
    unfolding run_all
    list_cons t u ts us h hs = record { at = λ c d hc. bind (h.at c d hc) (λ v w r. hs.at c d hc) }

    list_nil : M (pairing N mark does ignores) (list_at does n d ε) (list_at (eval mark) n d ε)
    unfolding run_all
    list_nil = record { at = λ c d hc. gives_sim undefined }

    list_drop : {t : Tree} (ts : Forest) {m : Meaning} → Idle N does t → M (pairing N mark does ignores) (list_at does n d ts) m → M (pairing N mark does ignores) (list_at does n d (t ⊳ ts)) m
    unfolding run_all
    list_drop ts i h = record { at = λ c e hc s t hs. idle_sim (i.by n d c s hs.guards) hs (λ v r hr. h.at c e hc r t hr) }

    list_drop_after : {t u : Tree} (ts : Forest) {m : Meaning} → M (pairing N mark does ignores) (run_at does n d t) (run_at (eval mark) n d u) → IdleAfter N mark u → M (pairing N mark does ignores) (list_at does n d ts) m → M (pairing N mark does ignores) (list_at does n d (t ⊳ ts)) m
    unfolding run_all
    list_drop_after ts h i hs = record { at = λ c e hc s t k. idle_after_sim (h.at c e hc s t k) (i.by n d e t) (λ v r hr. hs.at c e hc r t hr) }

    list_stop : (t u : Tree) (ts us : Forest) → M (pairing N mark does ignores) (run_at does n d t) (run_at (eval mark) n d u) → Stops mark u → M (pairing N mark does ignores) (list_at does n d (t ⊳ ts)) (list_at (eval mark) n d (u ⊳ us))
    unfolding run_all
    list_stop t u ts us h i = record { at = λ c e hc s r k. stopped_sim _ _ (h.at c e hc s r k) (i.by n d e r) }

    known_init : (k : VarDeclKind) (x : Name) {v : Value} (ss rs : List Span) (cs us : Forest) → N.dropped x ≡ false → N.guard x ≡ Some v → {m m' : Meaning} → ((c c' : Context) → C (pairing N mark does ignores) c c' → Ran (pairing N mark does ignores) (Known (pairing N mark does ignores) v) (m c) (m' c'))
        → M (pairing N mark does ignores) (act mark n (call_at (does n) d) (Declarator k x) ss cs (m ∷ [])) (act mark n (call_at (eval mark n) d) (Declarator k x) rs us (m' ∷ []))
    unfolding act declare
    known_init Var x ss rs cs us e g h = record { at = λ c c' hc. bind (h c c' hc) (λ a b p. initialise_sim x e (fits (g ∙ ap Some (sym p.1))) p.0 hc) }
    known_init Let x ss rs cs us e g h = record { at = λ c c' hc. bind (h c c' hc) (λ a b p. initialise_sim x e (fits (g ∙ ap Some (sym p.1))) p.0 hc) }
    known_init Const x ss rs cs us e g h = record { at = λ c c' hc. bind (h c c' hc) (λ a b p. initialise_sim x e (fits (g ∙ ap Some (sym p.1))) p.0 hc) }

    unset_init : (k : VarDeclKind) (x : Name) (ss rs : List Span) → N.dropped x ≡ false → N.guard x ≡ Some Undefined → M (pairing N mark does ignores) (act mark n (call_at (does n) d) (Declarator k x) ss ε []) (act mark n (call_at (eval mark n) d) (Declarator k x) rs ε [])
    unfolding act declare
    unset_init Var x ss rs e g = record { at = λ c c' hc. gives_sim undefined }
    unset_init Let x ss rs e g = record { at = λ c c' hc. initialise_sim x e (fits g) undefined hc }
    unset_init Const x ss rs e g = record { at = λ c c' hc. initialise_sim x e (fits g) undefined hc }

    param_sim : (x : Name) (ss rs : List Span) (cs us : Forest) (ms : List Meaning) → M (pairing N mark does ignores) (act mark n (call_at (does n) d) (Param x) ss cs ms) (act mark n (call_at (eval mark n) d) (Param x) rs us (each_of (run_at (eval mark) n d) us))
    unfolding act
    param_sim x ss rs cs us ms = record { at = λ c c' hc. leaves_sim _ }

    -- a value of the discriminant, as far as it is known
    discriminant_sim : {known : Option Value} {t u : Tree} → M (pairing N mark does ignores) (run_at does n d t) (run_at (eval mark) n d u) → Discriminant mark u known → {c c' : Context} → C (pairing N mark does ignores) c c' → Ran (pairing N mark does ignores) (Given (pairing N mark does ignores) known) (run_at does n d t c) (run_at (eval mark) n d u c')
    discriminant_sim h any_value hc = λ s s' hs. weaker_sim (λ v w r. (r, tt)) (h.at _ _ hc s s' hs)
    discriminant_sim h (one_value q y) {c' = c'} hc = λ s s' hs. known_sim q (h.at _ _ hc s s' hs) (y.by n d c' s')

    cases_trim_sim : (ds es : List Bool) (ss rs : List Span) {t u : Tree} (cs us : Forest) {vs : Forest} {known : Option Value} → M (pairing N mark does ignores) (run_at does n d t) (run_at (eval mark) n d u) → Discriminant mark u known → CasesTrim N does known ds cs es vs
        → SameList (pairing N mark does ignores) (case_statements (t ⊳ cs)) (case_statements (u ⊳ us)) → Each (M (pairing N mark does ignores)) (each_of (run_at does n d) vs) (each_of (run_at (eval mark) n d) us)
        → M (pairing N mark does ignores) (act mark n (call_at (does n) d) (Switch ds) ss (t ⊳ cs) (each_of (run_at does n d) (t ⊳ cs))) (act mark n (call_at (eval mark n) d) (Switch es) rs (u ⊳ us) (each_of (run_at (eval mark) n d) (u ⊳ us)))
    unfolding act switch
    cases_trim_sim ds es ss rs cs us h k a l hs = record {
      at = λ c c' hc.
          bind {RA = Given (pairing N mark does ignores) _} (discriminant_sim h k hc) (λ v w r.
          (in_list_scope_sim l (record {
            at = λ e e' he s s' h'.
                trimmed_sim (a.by n d v e s r.1 h'.guards) (at_break_sim (bind (selected_sim (cases_sim es hs) (default_sim (cases_sim es hs)) r.0 he) (λ xs ys hx. (run_all_sim hx).at e e' he) s s' h'));
          })).at c c' hc);
    }

    import_sim : (src : Text) (ss rs : List Span) (cs us : Forest) → M (pairing N mark does ignores) (act mark n (call_at (does n) d) (Import src) ss cs (each_of (run_at does n d) cs)) (act mark n (call_at (eval mark n) d) (Import src) rs us (each_of (run_at (eval mark) n d) us))
    unfolding act
    import_sim src ss rs cs us = record { at = λ c c' hc. gives_sim undefined }

    own_sim : {x : Name} {ss rs : List Span} {cs us : Forest} → Kept N mark does (node (Fn (Some x)) ss cs) (node (Fn None) rs us) → M (pairing N mark does ignores) (act mark n (call_at (does n) d) (Fn (Some x)) ss cs (each_of (run_at does n d) cs)) (act mark n (call_at (eval mark n) d) (Fn None) rs us (each_of (run_at (eval mark) n d) us))
    unfolding act
    own_sim k = record { at = λ c c' hc. gives_sim (function k hc.env undefined) }

    unseen_sim : {x : Name} {l : Label} → FunctionOf x l → (ss rs : List Span) (cs us : Forest) (ms ns : List Meaning) → M (pairing N mark does ignores) (act mark n (call_at (does n) d) l ss cs ms) (act mark n (call_at (eval mark n) d) l rs us ns)
    unfolding act
    unseen_sim of_declaration ss rs cs us ms ns = record { at = λ c c' hc. gives_sim undefined }
    unseen_sim of_default ss rs cs us ms ns = record { at = λ c c' hc. gives_sim undefined }

    mutual
      pub kept_sim : {t u : Tree} → Kept N mark does t u → M (pairing N mark does ignores) (run_at does n d t) (run_at (eval mark) n d u)
      kept_sim (kept l p q c o sc h) = node_sim _ q (act_sim mark n hk l _ _ _ _ (side_of ignores l p c h (kept l p q c o sc h)) (all_sim h))
      kept_sim (kept_list l p q h) = node_sim _ q (list_act_sim n _ _ l p _ _ (same_list (listed_role h)) _ _ (listed_sim h))
      kept_sim (kept_declarators k q h) = node_sim _ q (declarators_act_sim n _ _ k _ _ _ _ _ _ (list_sim h))
      kept_sim (kept_import src {cs = cs} {us} q h) = node_sim _ q (import_sim src _ _ cs us)
      kept_sim (kept_known k q v e g y a r) = node_sim _ q (known_init k _ _ _ _ _ e g (λ c c' hc s t hs. known_sim y ((rewrites_sim r).at c c' hc s t hs) (a.by n d c' t)))
      kept_sim (kept_unset k q e g) = node_sim _ q (unset_init k _ _ _ e g)
      kept_sim (kept_default {x} {ss} {rs} {t} q e g r y) = node_sim _ q (param_sim x ss rs (t ⊳ ε) ε _)
      kept_sim (kept_switch {ds} {es} {ss} {rs} {cs = cs} {us = us} q r k a e i h) = node_sim _ q (cases_trim_sim ds es ss rs cs us (rewrites_sim r) k a (scope_list e (statements_same (cons r h))) (all_sim h))
      kept_sim (drop_own q e g sc h) = node_sim _ q (own_sim (drop_own q e g sc h))

      either_sim : {t u : Tree} → KeptOrUnseen N mark does t u → M (pairing N mark does ignores) (run_at does n d t) (run_at (eval mark) n d u)
      either_sim (as_kept k) = kept_sim k
      either_sim (unseen {ss = ss} {rs} {cs} {us} h q l g) = node_sim _ q (unseen_sim h ss rs cs us _ _)

      pub rewrites_sim : {t u : Tree} → Rewrites N mark does t u → M (pairing N mark does ignores) (run_at does n d t) (run_at (eval mark) n d u)
      rewrites_sim (step a f k e g) = record { at = λ c c' hc s t hs. refined_sim (trimmed_sim (a.by n d c s hs.guards) ((either_sim k).at c c' hc s t hs)) ((e.by n d c').by t) }

      pub all_sim : {ts us : Forest} → All N mark does false ts us → Each (M (pairing N mark does ignores)) (each_of (run_at does n d) ts) (each_of (run_at (eval mark) n d) us)
      all_sim nil = none
      all_sim (cons r rs) = more (rewrites_sim r) (all_sim rs)

      pub list_sim : {b : Bool} {ts us : Forest} → All N mark does b ts us → M (pairing N mark does ignores) (list_at does n d ts) (list_at (eval mark) n d us)
      list_sim nil = list_nil
      list_sim (cons r rs) = list_cons _ _ _ _ (rewrites_sim r) (list_sim rs)
      list_sim (drop {ts = ts} i e rs) = list_drop ts i (list_sim rs)
      list_sim (drop_rewritten {ts = ts} r i q e rs) = list_drop_after ts (rewrites_sim r) i (list_sim rs)
      list_sim (stop r i rs) = list_stop _ _ _ _ (rewrites_sim r) i

      pub listed_sim : {ts us : Forest} → Listed N mark does ts us → M (pairing N mark does ignores) (list_at does n d ts) (list_at (eval mark) n d us)
      listed_sim (listed a f h e g) = record { at = λ c c' hc s t hs. refined_sim (trimmed_sim (a.by n d c s hs.guards) ((list_sim h).at c c' hc s t hs)) ((e.by n d c').by t) }
