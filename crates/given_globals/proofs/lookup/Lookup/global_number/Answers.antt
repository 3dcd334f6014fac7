use Rattle.std.proofs.Common.{rules, Some, None, drop, length, sym, ap, subst, ◌∙◌}
use Rattle.std.specs.Result.{result_ok}
use Rattle.std.specs.List.Sorted.{IsSearchInRange, IsBinarySearchResult}
use Rattle.std.specs.Cmp.Lexicographic.{slice_cmp}
use Rattle.std.specs.Ordering.{nat_cmp}
use Rattle.std.proofs.lemmas.Fn.{always_returns_same}
use Rattle.given_globals.proofs.Numbers.{names_rise, number_by_place}
use Rattle.given_globals.proofs.Places.{placed, rest_of}
use Rattle.given_globals.proofs.lookup.Lookup.global_number.Goals as goal

pub returns-in-Ok : goal.returns-in-Ok
returns-in-Ok c =
    let w = c.args.self.now in
    let t = c.args.name.now in
    let r = c.binary_search_by-found.result in
    let facts = c.binary_search_by-found.ensures in
    let by_name = facts.position (λ m. slice_cmp nat_cmp m.now t) (always_returns_same _ _ _ (λ a r f' called. search rules)) in
    let rest = rest_of w.names.items c.deref.result.now w.first_global c.deref.ensures.value in
    let p = placed (λ m. m.now) (drop w.first_global w.names.items) (names_rise w.settings w.names.items w.first_global w.listed w.first w.ordered) t r (subst (λ xs. IsSearchInRange r (length xs)) rest facts.bound) (subst (λ xs. IsBinarySearchResult (λ m. slice_cmp nat_cmp m.now t) xs r) rest by_name) in
    number_by_place w.settings w.names.items w.first_global w.listed w.first t (Some c.in-Ok.place) (ap result_ok (sym c.in-Ok.is) ∙ p)

pub returns-in-Err : goal.returns-in-Err
returns-in-Err c =
    let w = c.args.self.now in
    let t = c.args.name.now in
    let r = c.binary_search_by-found.result in
    let facts = c.binary_search_by-found.ensures in
    let by_name = facts.position (λ m. slice_cmp nat_cmp m.now t) (always_returns_same _ _ _ (λ a r f' called. search rules)) in
    let rest = rest_of w.names.items c.deref.result.now w.first_global c.deref.ensures.value in
    let p = placed (λ m. m.now) (drop w.first_global w.names.items) (names_rise w.settings w.names.items w.first_global w.listed w.first w.ordered) t r (subst (λ xs. IsSearchInRange r (length xs)) rest facts.bound) (subst (λ xs. IsBinarySearchResult (λ m. slice_cmp nat_cmp m.now t) xs r) rest by_name) in
    number_by_place w.settings w.names.items w.first_global w.listed w.first t None (ap result_ok (sym c.in-Err.is) ∙ p)
