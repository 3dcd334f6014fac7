-- Shaken modules and scripts do the same.
use Rattle.std.proofs.Common.{◌≡◌, ℕ, Bool, true, false, not, ◌||◌, List, [], ◌∷◌, ◌++◌, refl, sym, ap, ap₂, ◌∙◌}
use Rattle.std.proofs.lemmas.Bool.{true≢false, false≢true, and_parts, or_parts, or_from, and_left, not-true}
use Rattle.swc_ast.specs.declared.Span.{Span}
use Rattle.swc_ast.specs.Tree.{Text, Name, Label, Import, Module, Script, Tree, node, Forest, ε, ◌⊳◌, label_of}
use Rattle.swc_ast.specs.Run.{exported, has_text, source_of, sources, once, Same}
use Rattle.swc_ast.specs.Reach.{named_outside, is_exported}
use Rattle.swc_ast.specs.Labels.{is_expression}
use Rattle.dce_rules.specs.Shakes.{as_statement}
use Rattle.meaning_proofs.specs.Names.{stays}
use Rattle.meaning_proofs.specs.Sameness.{heeded, ignoring}
use Rattle.meaning_proofs.specs.Rewrites.{is_exported as exports}
use Rattle.meaning_proofs.proofs.Names.{same_name_turned}
use Rattle.meaning_proofs.proofs.Laws.{only_listed}
use Rattle.meaning_proofs.proofs.Making.{module_same, script_same}
use Rattle.dce_rules.specs.Uses.{read_outside, declared_in, is_export_of, is_used_unnamed, free_to_go, is_unread}
use Rattle.dce_proofs.proofs.Walked.{is_left, Nothing, empty_statement, empty_block, Moves, value_alone, value_guarded, Walked, same_node, same_list, same_import, declaration, first_values, opened, called, Items, no_item, item, function_goes, nothing_goes, import_goes, Shaken, module_shaken, script_shaken}
use Rattle.dce_proofs.proofs.Names.{Unused, below}
use Rattle.dce_proofs.proofs.Rewritten.{rewrites_items}

-- loads

none_heeded : (ts : List Text) → heeded (ignoring false) ts ≡ []
none_heeded [] = refl
none_heeded (t ∷ ts) = none_heeded ts

statement_source : (rs vs : List Span) (qs : Forest) → source_of (label_of (as_statement rs vs qs)) ≡ []
statement_source rs vs ε = refl
statement_source rs vs (q ⊳ ε) = refl
statement_source rs vs (q ⊳ r ⊳ qs) = refl

nothing_source : {u : Tree} → Nothing u → source_of (label_of u) ≡ []
nothing_source empty_statement = refl
nothing_source empty_block = refl

expression_source : (l : Label) → is_expression l ≡ true → source_of l ≡ []
expression_source (Import src) e = absurd (false≢true e)
expression_source l e = refl

moves_source : {U : Name → Bool} {mark : ℕ} {t u : Tree} → Moves U mark t u → source_of (label_of t) ≡ source_of (label_of u)
moves_source (value_alone x {r = node l ss cs} u b e) = sym (expression_source l e)
moves_source (value_guarded x u b e) = refl

module _ {G K U : Name → Bool} {mark : ℕ} {drops : Bool} where
  walked_source : {t u : Tree} → Walked G K U mark drops t u → source_of (label_of t) ≡ source_of (label_of u)
  walked_source (same_node l p s e sc h) = refl
  walked_source (same_list l p h) = refl
  walked_source (same_import src h) = refl
  walked_source (declaration k h) = refl
  walked_source (first_values k rs vs qs h) = sym (statement_source rs vs qs)
  walked_source (opened m h) = moves_source m ∙ walked_source h
  walked_source (called n h) = walked_source h

  walked_sources : {ts us : Forest} → drops ≡ false → Items G K U mark drops ts us → sources ts ≡ sources us
  walked_sources e no_item = refl
  walked_sources e (item {t = node l ss cs} {u = node m rs ds} h hs) = ap₂ (λ (xs ys : List Text). xs ++ ys) (walked_source h) (walked_sources e hs)
  walked_sources e (function_goes x d hs) = walked_sources e hs
  walked_sources e (nothing_goes {t = node l ss cs} {ts = ts} h z hs) = ap (λ (xs : List Text). xs ++ sources ts) (walked_source h ∙ nothing_source z) ∙ walked_sources e hs
  walked_sources e (import_goes src b h hs) = absurd (true≢false (sym b ∙ e))

loaded_alike : (loads : Bool) {G K U : Name → Bool} {mark : ℕ} {ts us : Forest} → Items G K U mark (not loads) ts us → heeded (ignoring loads) (once [] (sources ts)) ≡ heeded (ignoring loads) (once [] (sources us))
loaded_alike true h = ap (λ ts. heeded (ignoring true) (once [] ts)) (walked_sources refl h)
loaded_alike false {ts = ts} {us} h = none_heeded (once [] (sources ts)) ∙ sym (none_heeded (once [] (sources us)))

-- uses

exports_turned : (x : Name) (ps : List (Text × Name)) → exports x ps ≡ is_exported x ps
exports_turned x [] = refl
exports_turned x (p ∷ ps) = ap₂ ◌||◌ (same_name_turned p.1 x) (exports_turned x ps)

not_any : (a b c : Bool) → not (a || (b || c)) ≡ true → (b ≡ false) × (c ≡ false)
not_any a b c e = or_parts b c (or_parts a (b || c) (not-true (a || (b || c)) e)).1

module _ (retained : List Text) (t : Tree) where
  free_parts : (x : Name) → free_to_go retained t x ≡ true → (named_outside x t ≡ false) × (is_used_unnamed x t ≡ false)
  free_parts x e = not_any (has_text x.text retained) (named_outside x t) (is_used_unnamed x t) e

  unread_parts : (x : Name) → is_unread retained t x ≡ true → (read_outside x t ≡ false) × (is_used_unnamed x t ≡ false)
  unread_parts x e = not_any (has_text x.text retained) (read_outside x t) (is_used_unnamed x t) (and_parts (declared_in x t) _ e).1

  not_exported : (x : Name) → is_used_unnamed x t ≡ false → is_export_of x t ≡ false
  not_exported x e = (or_parts (is_export_of x t) _ e).0

-- where a name of a set is exported by none
apart_of : (b d : Bool) → (b ≡ true → d ≡ false) → d ≡ true → b ≡ false
apart_of true d h e = absurd (true≢false (sym e ∙ h refl))
apart_of false d h e = refl

module _ (retained : List Text) (loads : Bool) (mark : ℕ) (G K U : Name → Bool) where
  all_unused : (t : Tree) → ((x : Name) → G x ≡ true → free_to_go retained t x ≡ true) → ((x : Name) → U x ≡ true → is_unread retained t x ≡ true) → Unused G U t
  all_unused t free unread = record { unnamed = λ x d. (free_parts retained t x (free x d)).0; unread = λ x d. (unread_parts retained t x (unread x d)).0 }

  -- A module of which only names go that are free to go, and only assignments to names that nothing reads, does the same.
  pub shaken_same : {t u : Tree} → Shaken G K U mark (not loads) t u → ((x : Name) → G x ≡ true → free_to_go retained t x ≡ true) → ((x : Name) → U x ≡ true → is_unread retained t x ≡ true) → Same mark loads t u
  shaken_same (module_shaken {ss} {rs} {ts} {us} h sl) free unread = module_same loads ss rs (rewrites_items h (below K Module tt tt (all_unused (node Module ss ts) free unread)))
      (λ x e.
      let g : G x ≡ false = apart_of (G x) (exports x (exported ts)) (λ d. exports_turned x (exported ts) ∙ not_exported retained (node Module ss ts) x (free_parts retained (node Module ss ts) x (free x d)).1) e in
      let u : U x ≡ false = apart_of (U x) (exports x (exported ts)) (λ d. exports_turned x (exported ts) ∙ not_exported retained (node Module ss ts) x (unread_parts retained (node Module ss ts) x (unread x d)).1) e in
      stays (and_left (G x) (not (K x)) g) (or_from (U x) (is_left G K x) u (and_left (G x) (K x) g)))
      (loaded_alike loads h) sl
  shaken_same (script_shaken {ss} {rs} {ts} {us} h sl) free unread = script_same loads ss rs (only_listed (rewrites_items h (below K Script tt tt (all_unused (node Script ss ts) free unread)))) sl
