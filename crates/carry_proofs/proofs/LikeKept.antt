-- What is kept between such trees: scopes, jumps, parameters, exports, validity, and that a tree is in the core.
use Rattle.std.proofs.Common.{◌≡◌, ℕ, suc, ◌+◌, Bool, true, not, ◌&&◌, ◌||◌, nat_le, List, [], ◌∷◌, ◌++◌, Some, None, refl, sym, ap, ap₂, ◌∙◌, arith, if◌then◌else◌}
use Rattle.std.proofs.lemmas.Bool.{and_parts, and_from}
use Rattle.swc_ast.specs.declared.Span.{Span}
use Rattle.swc_ast.specs.declared.VarDeclKind.TheVariants.{Let, Const}
use Rattle.swc_ast.specs.Tree.{Name, Text, Label, Invalid, Template, Seq, Fn, Arrow, Method, FnDecl, ExportDefaultFn, Block, If, While, DoWhile, For, Labeled, Switch, Try, Absent, VarDecl, Module, Script, ExportNamed, ExportSpecifier, Tree, node, Forest, ε, ◌⊳◌}
use Rattle.swc_ast.specs.Scope.{is_function, has_name, option_name, module_binds}
use Rattle.swc_ast.specs.Resolved.{one_if, function_scopes, own_scopes, scopes_all, Targets, no_targets, below, jump_is_aimed, aimed, aimed_all, declared_names, none_declared, params_apart, apart, apart_all, specifier_bound, exports_bound, own_exports_bound, IsResolved}
use Rattle.swc_ast.specs.Valid.{is_identifier, is_word, is_optional_word, good_names, count, is_absent, is_last_absent, good_texts, is_listed, none_listed, last_not_listed, good_shape, valid, valid_all}
use Rattle.swc_ast.specs.Core.{numbers_fit, once_each, none_in, good_list, good_body, good_scope, fits, fits_all, IsCore}
use Rattle.carry_proofs.proofs.Like.{blank_of, Like, like_none, like_more, like_leaf, like_export, vars_like, params_like, imports_like, names_like, binds_like, body_like, module_like, params_of_like, body_of_like, default_like, cases_like, first_like}

absent_like : (l : Label) (ss rs : List Span) (cs ds : Forest) → is_absent (node l ss cs) ≡ is_absent (node l rs ds)
absent_like Absent ss rs cs ds = refl
absent_like l ss rs cs ds = refl

listed_like : (l : Label) (ss rs : List Span) (cs ds : Forest) → is_listed (node l ss cs) ≡ is_listed (node l rs ds)
listed_like (VarDecl Let) ss rs cs ds = refl
listed_like (VarDecl Const) ss rs cs ds = refl
listed_like (FnDecl x) ss rs cs ds = refl
listed_like l ss rs cs ds = refl

one : (b : Bool) → b ≡ true → (b && true) ≡ true
one b e = and_from b true e refl

of_one : (b : Bool) → (b && true) ≡ true → b ≡ true
of_one b e = (and_parts b true e).0

module _ {V F : Type 0} {B : Name → Bool} where
  -- scopes

  function_like : (x : Name) {ts us : Forest} → Like V F B ts us → function_scopes x ts ≡ function_scopes x us
  function_like x {ts} {us} h = by (default_like (params_of_like h)) (ap (has_name x) (params_like (params_of_like h))) (body_like x (body_of_like h))
    where
      by : {c d a b e f : Bool} → c ≡ d → a ≡ b → e ≡ f → (if c then one_if a + one_if e else one_if (a || e)) ≡ (if d then one_if b + one_if f else one_if (b || f))
      by p q r = cc

  own_like : (x : Name) (l : Label) {ts us : Forest} → Like V F B ts us → own_scopes x l ts ≡ own_scopes x l us
  unfolding own_scopes
  own_like x (Fn o) h = ap (λ n. one_if (has_name x (option_name o)) + n) (function_like x h)
  own_like x Arrow h = function_like x h
  own_like x Method h = function_like x h
  own_like x (FnDecl f) h = function_like x h
  own_like x (ExportDefaultFn o) h = function_like x h
  own_like x Block h = ap one_if (binds_like x h)
  own_like x For h = ap one_if (binds_like x (first_like h))
  own_like x (Switch ds) h = ap one_if (binds_like x (cases_like h))
  own_like x Module h = ap one_if (module_like x h)
  own_like x Script h = ap one_if (body_like x h)
  own_like x l h = refl

  pub scopes_like : (x : Name) {ts us : Forest} → Like V F B ts us → scopes_all x ts ≡ scopes_all x us
  unfolding own_scopes
  scopes_like x like_none = refl
  scopes_like x (like_more l h k) = ap₂ ◌+◌ (ap₂ ◌+◌ (own_like x l h) (scopes_like x h)) (scopes_like x k)
  scopes_like x (like_leaf l m a b p k) = ap₂ ◌+◌ (p.before x ∙ sym (p.behind x)) (scopes_like x k)
  scopes_like x (like_export y z o w b v i h k) = omega (arith, scopes_like x h, scopes_like x k)

  -- jumps

  pub aimed_like : (g : Targets) {ts us : Forest} → Like V F B ts us → aimed_all g ts ≡ true → aimed_all g us ≡ true
  aimed_like g like_none e = refl
  aimed_like g (like_more l {ss} {rs} {cs} {ds} {ts} {us} h k) e =
      let q = and_parts (aimed g (node l ss cs)) (aimed_all g ts) e in
      let r = and_parts (jump_is_aimed l g) (aimed_all (below l g) cs) q.0 in
      and_from (aimed g (node l rs ds)) (aimed_all g us) (and_from (jump_is_aimed l g) (aimed_all (below l g) ds) r.0 (aimed_like (below l g) h r.1)) (aimed_like g k q.1)
  aimed_like g (like_leaf l m {ss} {rs} {cs} {ds} {ts} {us} a b p k) e = and_from (aimed g (node m rs ds)) (aimed_all g us) (p.aimed_too g) (aimed_like g k (and_parts (aimed g (node l ss cs)) (aimed_all g ts) e).1)
  aimed_like g (like_export y x o w {ss} {rs} {cs} {ds} {ts} {us} b v i h k) e =
      let q = and_parts (aimed g (node (ExportSpecifier y o) ss cs)) (aimed_all g ts) e in
      and_from (aimed g (node (ExportSpecifier x (Some w)) rs ds)) (aimed_all g us) (aimed_like (below (ExportSpecifier y o) g) h q.0) (aimed_like g k q.1)

  -- parameters beside a default

  declared_names_like : {ts us : Forest} → Like V F B ts us → declared_names ts ≡ declared_names us
  declared_names_like h = ap₂ ◌++◌ (vars_like h) (names_like h)

  params_apart_like : {ts us : Forest} → Like V F B ts us → params_apart ts ≡ params_apart us
  params_apart_like {ts} {us} h = by (default_like (params_of_like h)) (ap₂ none_declared (params_like (params_of_like h)) (declared_names_like (body_of_like h)))
    where
      by : {c d a b : Bool} → c ≡ d → a ≡ b → (if c then a else true) ≡ (if d then b else true)
      by p q = cc

  pub apart_like : {ts us : Forest} → Like V F B ts us → apart_all ts ≡ true → apart_all us ≡ true
  apart_like like_none e = refl
  apart_like (like_more l {ss} {rs} {cs} {ds} {ts} {us} h k) e =
      let q = and_parts (apart (node l ss cs)) (apart_all ts) e in
      let r = and_parts (if is_function l then params_apart cs else true) (apart_all cs) q.0 in
      and_from (apart (node l rs ds)) (apart_all us) (and_from (if is_function l then params_apart ds else true) (apart_all ds) (sym (ap (λ b. if is_function l then b else true) (params_apart_like h)) ∙ r.0) (apart_like h r.1)) (apart_like k q.1)
  apart_like (like_leaf l m {ss} {rs} {cs} {ds} {ts} {us} a b p k) e = and_from (apart (node m rs ds)) (apart_all us) p.apart_too (apart_like k (and_parts (apart (node l ss cs)) (apart_all ts) e).1)
  apart_like (like_export y x o w {ss} {rs} {cs} {ds} {ts} {us} b v i h k) e =
      let q = and_parts (apart (node (ExportSpecifier y o) ss cs)) (apart_all ts) e in
      and_from (apart (node (ExportSpecifier x (Some w)) rs ds)) (apart_all us) (apart_like h q.0) (apart_like k q.1)

  -- exports

  specifier_like : (b c : Name → Bool) → ((x : Name) → b x ≡ true → c x ≡ true) → ((x : Name) → B x ≡ true → c x ≡ true) → {ts us : Forest} → Like V F B ts us → specifier_bound b ts ≡ true → specifier_bound c us ≡ true
  specifier_like b c f g like_none e = refl
  specifier_like b c f g (like_more (ExportSpecifier x o) {ts = ts} {us} h k) e = let q = and_parts (b x) (specifier_bound b ts) e in and_from (c x) (specifier_bound c us) (f x q.0) (specifier_like b c f g k q.1)
  specifier_like b c f g (like_more l h k) e = specifier_like b c f g k e
  specifier_like b c f g (like_leaf l m {ss} {rs} {cs} {ds} {ts} {us} i j p k) e = (blank_of m j).no_specifier c rs ds us ∙ specifier_like b c f g k (sym ((blank_of l i).no_specifier b ss cs ts) ∙ e)
  specifier_like b c f g (like_export y x o w {ts = ts} {us} d v i h k) e = let q = and_parts (b y) (specifier_bound b ts) e in and_from (c x) (specifier_bound c us) (g x d) (specifier_like b c f g k q.1)

  exports_like : (b c : Name → Bool) → ((x : Name) → b x ≡ true → c x ≡ true) → ((x : Name) → B x ≡ true → c x ≡ true) → {ts us : Forest} → Like V F B ts us → exports_bound b ts ≡ true → exports_bound c us ≡ true
  exports_like b c f g like_none e = refl
  exports_like b c f g (like_more ExportNamed {cs = cs} {ds} {ts} {us} h k) e = let q = and_parts (specifier_bound b cs) (exports_bound b ts) e in and_from (specifier_bound c ds) (exports_bound c us) (specifier_like b c f g h q.0) (exports_like b c f g k q.1)
  exports_like b c f g (like_more l h k) e = exports_like b c f g k e
  exports_like b c f g (like_leaf l m {ss} {rs} {cs} {ds} {ts} {us} i j p k) e = (blank_of m j).no_exports c rs ds us ∙ exports_like b c f g k (sym ((blank_of l i).no_exports b ss cs ts) ∙ e)
  exports_like b c f g (like_export y x o w d v i h k) e = exports_like b c f g k e

  -- shapes

  count_like : {ts us : Forest} → Like V F B ts us → count ts ≡ count us
  count_like like_none = refl
  count_like (like_more l h k) = ap suc (count_like k)
  count_like (like_leaf l m a b p k) = ap suc (count_like k)
  count_like (like_export y x o w b v i h k) = ap suc (count_like k)

  texts_like : (qs : List (Text × Bool)) {ts us : Forest} → Like V F B ts us → good_texts qs ts ≡ good_texts qs us
  texts_like [] h = refl
  texts_like (q ∷ []) like_none = refl
  texts_like (q ∷ []) (like_more l h k) = refl
  texts_like (q ∷ []) (like_leaf l m a b p k) = refl
  texts_like (q ∷ []) (like_export y x o w b v i h k) = refl
  texts_like (q ∷ r ∷ qs) like_none = refl
  texts_like (q ∷ r ∷ qs) (like_more l h k) = ap (λ b. not q.1 && b) (texts_like (r ∷ qs) k)
  texts_like (q ∷ r ∷ qs) (like_leaf l m a b p k) = ap (λ b. not q.1 && b) (texts_like (r ∷ qs) k)
  texts_like (q ∷ r ∷ qs) (like_export y x o w b v i h k) = ap (λ b. not q.1 && b) (texts_like (r ∷ qs) k)

  -- the last tree

  last_one : {ts us : Forest} → Like V F B ts us → (is_last_absent ts ≡ is_last_absent us) × (last_not_listed ts ≡ last_not_listed us)
  last_one like_none = (refl, refl)
  last_one (like_more l {ss} {rs} {cs} {ds} h like_none) = (absent_like l ss rs cs ds, ap not (listed_like l ss rs cs ds))
  last_one (like_more l h (like_more m i k)) = last_one (like_more m i k)
  last_one (like_more l h (like_leaf m o c d p k)) = last_one (like_leaf m o c d p k)
  last_one (like_more l h (like_export y x o w {ss} {rs} c v i j k)) = last_one (like_export y x o w {ss = ss} {rs = rs} c v i j k)
  last_one (like_leaf l m {ss} {rs} {cs} {ds} c d p like_none) = ((blank_of l c).not_absent ss cs ∙ sym ((blank_of m d).not_absent rs ds), ap not ((blank_of l c).not_listed ss cs ∙ sym ((blank_of m d).not_listed rs ds)))
  last_one (like_leaf l m c d p (like_more n i k)) = last_one (like_more n i k)
  last_one (like_leaf l m c d p (like_leaf n o e f q k)) = last_one (like_leaf n o e f q k)
  last_one (like_leaf l m c d p (like_export y x o w {ss} {rs} e v i j k)) = last_one (like_export y x o w {ss = ss} {rs = rs} e v i j k)
  last_one (like_export y x o w c v i h like_none) = (refl, refl)
  last_one (like_export y x o w c v i h (like_more n j k)) = last_one (like_more n j k)
  last_one (like_export y x o w c v i h (like_leaf m n e f q k)) = last_one (like_leaf m n e f q k)
  last_one (like_export y x o w c v i h (like_export z u n t {ss} {rs} e s j l k)) = last_one (like_export z u n t {ss = ss} {rs = rs} e s j l k)

  none_listed_like : {ts us : Forest} → Like V F B ts us → none_listed ts ≡ none_listed us
  none_listed_like like_none = refl
  none_listed_like (like_more l {ss} {rs} {cs} {ds} h k) = ap₂ (λ b c. not b && c) (listed_like l ss rs cs ds) (none_listed_like k)
  none_listed_like (like_leaf l m {ss} {rs} {cs} {ds} a b p k) = ap₂ (λ b c. not b && c) ((blank_of l a).not_listed ss cs ∙ sym ((blank_of m b).not_listed rs ds)) (none_listed_like k)
  none_listed_like (like_export y x o w b v i h k) = none_listed_like k

  shape_like : (l : Label) {ts us : Forest} → Like V F B ts us → good_shape l ts ≡ good_shape l us
  shape_like Invalid h = refl
  shape_like (Template qs) h = texts_like qs h
  shape_like Seq h = ap (nat_le 2) (count_like h)
  shape_like (VarDecl kind) h = ap (nat_le 1) (count_like h)
  shape_like (Try None) h = ap not (last_one h).0
  shape_like If h = none_listed_like h
  shape_like While h = none_listed_like h
  shape_like DoWhile h = none_listed_like h
  shape_like (Labeled l) h = none_listed_like h
  shape_like For h = (last_one h).1
  shape_like l h = refl

  pub valid_like : V → {ts us : Forest} → Like V F B ts us → valid_all ts ≡ true → valid_all us ≡ true
  valid_like a like_none e = refl
  valid_like a (like_more l {ss} {rs} {cs} {ds} {ts} {us} h k) e =
      let q = and_parts (valid (node l ss cs)) (valid_all ts) e in
      let r = and_parts (good_names l && good_shape l cs) (valid_all cs) q.0 in
      and_from (valid (node l rs ds)) (valid_all us) (and_from (good_names l && good_shape l ds) (valid_all ds) (sym (ap (λ b. good_names l && b) (shape_like l h)) ∙ r.0) (valid_like a h r.1)) (valid_like a k q.1)
  valid_like a (like_leaf l m {ss} {rs} {cs} {ds} {ts} {us} c d p k) e = let q = and_parts (valid (node l ss cs)) (valid_all ts) e in and_from (valid (node m rs ds)) (valid_all us) (p.valid_too a q.0) (valid_like a k q.1)
  valid_like a (like_export y x o w {ss} {rs} {cs} {ds} {ts} {us} b v i h k) e =
      let q = and_parts (valid (node (ExportSpecifier y o) ss cs)) (valid_all ts) e in
      let r = and_parts ((is_identifier y.text && is_optional_word o) && true) (valid_all cs) q.0 in
      let n = and_parts (is_identifier y.text) (is_optional_word o) (and_parts (is_identifier y.text && is_optional_word o) true r.0).0 in
      and_from (valid (node (ExportSpecifier x (Some w)) rs ds)) (valid_all us) (and_from ((is_identifier x.text && is_word w) && true) (valid_all ds) (and_from (is_identifier x.text && is_word w) true (and_from (is_identifier x.text) (is_word w) (v a n.0) (i a n.0 n.1)) refl) (valid_like a h r.1)) (valid_like a k q.1)

  -- the core

  list_like : {ts us : Forest} → Like V F B ts us → good_list ts ≡ good_list us
  list_like h = ap₂ (λ xs ys. once_each xs xs && none_in xs ys) (names_like h) (vars_like h)

  good_body_like : {xs ys : List Name} {ts us : Forest} → xs ≡ ys → Like V F B ts us → good_body xs ts ≡ good_body ys us
  good_body_like p h = ap₂ ◌&&◌ (list_like h) (ap₂ (λ zs xs. once_each xs xs && none_in zs xs) (names_like h) p)

  scope_like : (l : Label) {ts us : Forest} → Like V F B ts us → good_scope l ts ≡ good_scope l us
  scope_like Block h = list_like h
  scope_like (Switch ds) h = list_like (cases_like h)
  scope_like For h = ap₂ (λ xs ys. once_each xs xs && none_in xs ys) (names_like (first_like h)) (vars_like h)
  scope_like Module h = ap₂ ◌&&◌ (good_body_like (imports_like h) h) (ap₂ none_in (imports_like h) (vars_like h))
  scope_like Script h = list_like h
  scope_like (Try (Some o)) h = ap (none_in (option_name o)) (vars_like h)
  scope_like l h = ap (λ b. if is_function l then b else true) (good_body_like (params_like (params_of_like h)) (body_of_like h))

  pub fits_like : F → {ts us : Forest} → Like V F B ts us → fits_all ts ≡ true → fits_all us ≡ true
  fits_like a like_none e = refl
  fits_like a (like_more l {ss} {rs} {cs} {ds} {ts} {us} h k) e =
      let q = and_parts (fits (node l ss cs)) (fits_all ts) e in
      let r = and_parts (numbers_fit l) (good_scope l cs && fits_all cs) q.0 in
      let n = and_parts (good_scope l cs) (fits_all cs) r.1 in
      and_from (fits (node l rs ds)) (fits_all us) (and_from (numbers_fit l) (good_scope l ds && fits_all ds) r.0 (and_from (good_scope l ds) (fits_all ds) (sym (scope_like l h) ∙ n.0) (fits_like a h n.1))) (fits_like a k q.1)
  fits_like a (like_leaf l m {ss} {rs} {cs} {ds} {ts} {us} c d p k) e = let q = and_parts (fits (node l ss cs)) (fits_all ts) e in and_from (fits (node m rs ds)) (fits_all us) (p.fits_too a q.0) (fits_like a k q.1)
  fits_like a (like_export y x o w {ss} {rs} {cs} {ds} {ts} {us} b v i h k) e =
      let q = and_parts (fits (node (ExportSpecifier y o) ss cs)) (fits_all ts) e in
      and_from (fits (node (ExportSpecifier x (Some w)) rs ds)) (fits_all us) (fits_like a h q.0) (fits_like a k q.1)

  -- whole trees

  pub valid_whole : V → {t u : Tree} → Like V F B (t ⊳ ε) (u ⊳ ε) → valid t ≡ true → valid u ≡ true
  valid_whole a {t} {u} h e = of_one (valid u) (valid_like a h (one (valid t) e))

  pub core_whole : V → F → {t u : Tree} → Like V F B (t ⊳ ε) (u ⊳ ε) → IsCore t → IsCore u
  core_whole a b {t} {u} h c = record { is_valid = valid_whole a h c.is_valid; fits_core = of_one (fits u) (fits_like b h (one (fits t) c.fits_core)) }

  pub resolved_whole : {mark : ℕ} {t u : Tree} → Like V F B (t ⊳ ε) (u ⊳ ε) → (own_exports_bound t ≡ true → own_exports_bound u ≡ true) → IsResolved mark t → IsResolved mark u
  resolved_whole {mark} {t} {u} h w r = record {
    bound_once = λ x. omega (arith, scopes_like x h, r.bound_once x);
    none_unresolved = λ x e i. omega (arith, scopes_like x h, r.none_unresolved x e i);
    jumps_aimed = of_one (aimed no_targets u) (aimed_like no_targets h (one (aimed no_targets t) r.jumps_aimed));
    params_stand_apart = of_one (apart u) (apart_like h (one (apart t) r.params_stand_apart));
    exports_are_bound = w r.exports_are_bound;
  }

  -- a module whose own scope binds what exports name now
  pub module_exports : (ss rs : List Span) {cs ds : Forest} → Like V F B cs ds → ((x : Name) → B x ≡ true → module_binds cs x ≡ true) → own_exports_bound (node Module ss cs) ≡ true → own_exports_bound (node Module rs ds) ≡ true
  module_exports ss rs {cs} {ds} h g e = exports_like (module_binds cs) (module_binds ds) (λ x i. sym (module_like x h) ∙ i) (λ x i. sym (module_like x h) ∙ g x i) h e
