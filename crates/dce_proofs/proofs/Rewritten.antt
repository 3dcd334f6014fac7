-- A walk is a rewrite, for the names that go and those that nothing reads.
use Rattle.std.proofs.Common.{◌≡◌, ℕ, Bool, true, false, [], List, refl}
use Rattle.std.proofs.lemmas.Bool.{false≢true}
use Rattle.swc_ast.specs.declared.Span.{Span}
use Rattle.swc_ast.specs.declared.VarDeclKind.{VarDeclKind}
use Rattle.swc_ast.specs.declared.AssignOp.TheVariants.{Assign as Plain}
use Rattle.swc_ast.specs.Tree.{Name, Label, Object, Assign, Block, Body, CaseBody, VarDecl, Tree, node, Forest, ε, ◌⊳◌, label_of, expr}
use Rattle.swc_ast.specs.Meaning.{eval, evals, act, in_turn}
use Rattle.swc_ast.specs.Value.{and_then}
use Rattle.swc_ast.specs.Labels.{is_expression, is_block}
use Rattle.meaning_proofs.specs.Exact.{Exact, Trims}
use Rattle.meaning_proofs.specs.Roles.{rewrites_each, Fits, Scoped}
use Rattle.meaning_proofs.specs.Rewrites.{SameExports, Rewrites, All, nil, cons, drop, drop_rewritten}
use Rattle.meaning_proofs.proofs.Laws.{first, last, exact_trims, trims_trans, only_listed}
use Rattle.meaning_proofs.proofs.Making.{rebuilt, rebuilt_list, rebuilt_declarators, rebuilt_import, other_function}
use Rattle.meaning_proofs.proofs.Quiet.{declares_nothing, fits_nothing}
use Rattle.meaning_proofs.proofs.Loose.{assign_loose}
use Rattle.meaning_proofs.proofs.Idles.{idle_function, idle_import, function_declares, import_declares, expression_declares}
use Rattle.swc_utils.proofs.Refines.{refines_same}
use Rattle.pass_rules.specs.Leaves.{guarded}
use Rattle.dce_rules.specs.Shakes.{object_call}
use Rattle.dce_proofs.proofs.Walked.{names, Stands, Moves, value_alone, value_guarded, Walked, same_node, same_list, same_import, declaration, first_values, opened, called, Each, none, more, Items, no_item, item, function_goes, nothing_goes, import_goes, Declarators, no_declarator, declarator, unset_goes, early_goes, value_goes, value_left}
use Rattle.dce_proofs.proofs.Names.{Unused, AllUnused, goes, loosened, first_unused, rest_unused, value_unused, guarded_unused, below, clean, DeclaresRead, ReadOrUnseen, declares_read, declares_unseen, read_or_unseen}
use Rattle.dce_proofs.proofs.Rules.{pure_idle, nothing_idle, nothing_declares, nothing_item, narrowed, none_left}
use Rattle.dce_proofs.proofs.Declarations.{alone_rewrites, alone_idle, alone_value_idle, alone_value_declares, alone_declares, parted, parted_exact, parted_fits, one_statement, one_statement_fits}
use Rattle.dce_proofs.proofs.Objects.{called_exact}

expression_nothing : (l : Label) → is_expression l ≡ true → declares_nothing l ≡ true
expression_nothing (expr l) e = refl
expression_nothing _ e = absurd (false≢true e)

-- `(0, r)` is `r`
guarded_exact : (mark : ℕ) (rs zs : List Span) (r : Tree) → Exact mark r (guarded rs zs r)
unfolding eval act evals in_turn and_then
guarded_exact mark rs zs r = record { by = λ n d c. refines_same _ }

stands_list : (G K : Name → Bool) (l : Label) → is_block l ≡ true → Stands G K l
stands_list G K Block e = tt
stands_list G K Body e = tt
stands_list G K CaseBody e = tt
stands_list G K _ e = absurd (false≢true e)

list_read : (U : Name → Bool) (l : Label) → is_block l ≡ true → DeclaresRead U l
list_read U Block e = tt
list_read U Body e = tt
list_read U CaseBody e = tt
list_read U _ e = absurd (false≢true e)

module _ (G K U : Name → Bool) (mark : ℕ) where
  moves_trim : {t u : Tree} → Moves U mark t u → Trims (names G K U) (eval mark) t u
  moves_trim (value_alone x {ss} {r} u b e) = assign_loose mark x ss r b (loosened G K U u)
  moves_trim (value_guarded x {ss} {rs} {zs} {r} u b e) = trims_trans (assign_loose mark x ss r b (loosened G K U u)) (exact_trims (guarded_exact mark rs zs r))

  moves_fit : {t u : Tree} → Moves U mark t u → Fits (names G K U) t u
  moves_fit (value_alone x {ss} {r} u b e) = fits_nothing (node (Assign Plain x) ss (r ⊳ ε)) r refl (expression_nothing (label_of r) e)
  moves_fit (value_guarded x {ss} {rs} {zs} {r} u b e) = fits_nothing (node (Assign Plain x) ss (r ⊳ ε)) (guarded rs zs r) refl refl

  moves_unused : {t u : Tree} → Moves U mark t u → Unused G U t → Unused G U u
  moves_unused (value_alone x u b e) q = first_unused (below K (Assign Plain x) tt tt q)
  moves_unused (value_guarded x u b e) q = guarded_unused (first_unused (below K (Assign Plain x) tt tt q))

  -- a node of which only the children change; what becomes of a function's that nothing reads doesn't matter
  node_rewrites : (l : Label) (ss rs : List Span) {cs us : Forest} → ReadOrUnseen U l → rewrites_each l ≡ true → Stands G K l → SameExports l cs us → Scoped (names G K U) l cs us → (AllUnused G U cs → All (names G K U) mark (eval mark) false cs us) → Unused G U (node l ss cs) → Rewrites (names G K U) mark (eval mark) (node l ss cs) (node l rs us)
  node_rewrites l ss rs (declares_read r) p s e sc h q = rebuilt l ss rs p (clean K mark l s q) e sc (h (below K l s r q))
  node_rewrites l ss rs (declares_unseen d u) p s e sc h q = let o = loosened G K U u in other_function l ss rs d o.is_loose o.is_free

module _ {G K U : Name → Bool} {mark : ℕ} {drops : Bool} where
  mutual
    unfolding parted

    pub rewrites : {t u : Tree} → Walked G K U mark drops t u → Unused G U t → Rewrites (names G K U) mark (eval mark) t u
    rewrites (same_node l {ss} {rs} p s e sc h) q = node_rewrites G K U mark l ss rs (read_or_unseen U l) p s e sc (rewrites_all h) q
    rewrites (same_list l {ss} {rs} p h) q = rebuilt_list l ss rs p (only_listed (rewrites_items h (below K l (stands_list G K l p) (list_read U l p) q)))
    rewrites (same_import src {ss} {rs} h) q = rebuilt_import src ss rs (narrowed G K U h)
    rewrites (declaration k {ss} {rs} h) q = first (exact_trims (parted_exact k ss h)) (parted_fits k ss h) (rebuilt_declarators k ss rs (rewrites_declarators h (below K (VarDecl k) tt tt q)))
    rewrites (first_values k rs vs qs {ss} h) q =
        last (first (exact_trims (parted_exact k ss h)) (parted_fits k ss h) (rebuilt_declarators k ss ss (rewrites_declarators h (below K (VarDecl k) tt tt q))))
        (one_statement mark k ss rs vs qs) (one_statement_fits k ss rs vs qs)
    rewrites (opened m h) q = first (moves_trim G K U mark m) (moves_fit G K U mark m) (rewrites h (moves_unused G K U mark m q))
    rewrites (called {ss} {fs} {ps} {bs} {rs} {os} {t} {props} n h) q = last (rewrites h q) (called_exact mark ss fs ps bs rs os n) (fits_nothing (object_call ss fs ps bs rs os props) (node Object os props) refl refl)

    rewrites_all : {ts us : Forest} → Each G K U mark drops ts us → AllUnused G U ts → All (names G K U) mark (eval mark) false ts us
    rewrites_all none q = nil
    rewrites_all (more h hs) q = cons (rewrites h (first_unused q)) (rewrites_all hs (rest_unused q))

    pub rewrites_items : {ts us : Forest} → Items G K U mark drops ts us → AllUnused G U ts → All (names G K U) mark (eval mark) true ts us
    rewrites_items no_item q = nil
    rewrites_items (item h hs) q = cons (rewrites h (first_unused q)) (rewrites_items hs (rest_unused q))
    rewrites_items (function_goes x {ss} {cs} d hs) q = drop (idle_function mark x ss cs) (function_declares x ss cs (goes G K U d)) (rewrites_items hs (rest_unused q))
    rewrites_items (nothing_goes h e hs) q = drop_rewritten (rewrites h (first_unused q)) (nothing_idle mark e) (nothing_item e) (nothing_declares e) (rewrites_items hs (rest_unused q))
    rewrites_items (import_goes src {ss} {cs} b h hs) q = drop (idle_import mark src ss cs) (import_declares src ss cs (none_left G K U h refl)) (rewrites_items hs (rest_unused q))

    rewrites_declarators : {k : VarDeclKind} {b : Bool} {cs us : Forest} (h : Declarators G K U mark drops k b cs us) → AllUnused G U cs → All (names G K U) mark (eval mark) true (parted h) us
    rewrites_declarators no_declarator q = nil
    rewrites_declarators (declarator h hs) q = cons (rewrites h (first_unused q)) (rewrites_declarators hs (rest_unused q))
    rewrites_declarators (unset_goes k x {ss = ss} d hs) q = drop (alone_idle G K U mark ss d) (alone_declares G K U mark ss d) (rewrites_declarators hs (rest_unused q))
    rewrites_declarators (early_goes k x {ss = ss} {r} d p hs) q = drop (alone_value_idle G K U mark ss d p) (alone_value_declares G K U mark ss r d) (rewrites_declarators hs (rest_unused q))
    rewrites_declarators (value_goes k x {ss = ss} {r} {q = v} d h p hs) q = drop_rewritten (alone_rewrites G K U mark ss d (rewrites h (value_unused q))) (pure_idle mark [] v p) refl (expression_declares [] (v ⊳ ε)) (rewrites_declarators hs (rest_unused q))
    rewrites_declarators (value_left k x {ss = ss} {r} {q = v} d h hs) q = cons (alone_rewrites G K U mark ss d (rewrites h (value_unused q))) (rewrites_declarators hs (rest_unused q))
