-- A pass whose answers are what is propagated, up to spans, is lawful.
use Rattle.std.proofs.Common.{◌≡◌, true, false, [], refl, sym, ap, subst}
use Rattle.std.proofs.lemmas.Bool.{false≢true}
use Rattle.swc_ast.specs.Tree.{Label, Module, Tree, node, Forest, ε, ◌⊳◌, bare, bares}
use Rattle.swc_ast.specs.Resolved.{own_exports_bound}
use Rattle.meaning_proofs.proofs.Spans.{same_bare}
use Rattle.meaning_proofs.proofs.Observations.{same_trans}
use Rattle.swc_pass.specs.Pass.{IsLawful}
use Rattle.carry_rules.specs.Carry.{Pass, propagated}
use Rattle.carry_proofs.specs.Propagation.{propagation_spec}
use Rattle.carry_proofs.proofs.Like.{Like, like_none, like_more}
use Rattle.carry_proofs.proofs.LikeKept.{valid_whole, core_whole, resolved_whole, module_exports}
use Rattle.carry_proofs.proofs.Reexported.{label_is, children_are, rest_is}
use Rattle.carry_proofs.proofs.Kept.{Kept, propagation_kept}
use Rattle.carry_proofs.proofs.Same.{propagated_same}

-- trees that are the same up to spans

bare_like : (ts us : Forest) → bares ts ≡ bares us → Like (Unit {0}) (Unit {0}) (λ x. false) ts us
bare_like ε ε e = like_none
bare_like ε (u ⊳ us) e = absurd (cc)
bare_like (t ⊳ ts) ε e = absurd (cc)
bare_like (node l ss cs ⊳ ts) (node m rs ds ⊳ us) e = subst (λ m. Like (Unit {0}) (Unit {0}) (λ x. false) (node l ss cs ⊳ ts) (node m rs ds ⊳ us)) (label_is e) (like_more l (bare_like cs ds (children_are e)) (bare_like ts us (rest_is e)))

own_label : {l m : Label} {cs ds : Forest} → node l [] cs ≡ node m [] ds → l ≡ m
own_label e = cc

own_children : {l m : Label} {cs ds : Forest} → node l [] cs ≡ node m [] ds → cs ≡ ds
own_children e = cc

bare_exports : (t u : Tree) → bare t ≡ bare u → own_exports_bound t ≡ true → own_exports_bound u ≡ true
bare_exports (node Module ss cs) (node m rs ds) e h = subst (λ m. own_exports_bound (node m rs ds) ≡ true) (own_label e) (module_exports ss rs (bare_like cs ds (own_children e)) (λ x i. absurd (false≢true i)) h)
bare_exports (node l ss cs) (node m rs ds) e h = subst (λ m. own_exports_bound (node m rs ds) ≡ true) (own_label e) refl

whole_like : (t u : Tree) → bare t ≡ bare u → Like (Unit {0}) (Unit {0}) (λ x. false) (t ⊳ ε) (u ⊳ ε)
whole_like t u e = bare_like (t ⊳ ε) (u ⊳ ε) (ap (λ v. v ⊳ ε) e)

bare_kept : (t u : Tree) → bare t ≡ bare u → Kept t u
bare_kept t u e = record {
  resolved = λ m r. resolved_whole (whole_like t u e) (bare_exports t u e) r;
  valid_too = λ v. valid_whole tt (whole_like t u e) v;
  core = λ c. core_whole tt tt (whole_like t u e) c;
}

pub propagation_lawful : (p : Pass) → IsLawful (propagation_spec p)
propagation_lawful p = record {
  same = λ n t u f a r c. same_trans n true t (propagated p t) u (propagated_same p true t a.whole r c) (same_bare n true (propagated p t) u (sym a.is));
  resolved = λ n t u f a r. (bare_kept (propagated p t) u (sym a.is)).resolved n ((propagation_kept p t a.whole).resolved n r);
  valid = λ n t u f a r v. (bare_kept (propagated p t) u (sym a.is)).valid_too ((propagation_kept p t a.whole).valid_too v);
  core = λ n t u f a r c. (bare_kept (propagated p t) u (sym a.is)).core ((propagation_kept p t a.whole).core c);
  lighter = λ t u l a. absurd (false≢true l);
}
