-- A node that no rule takes, and whose list is tidy, holds nothing to remove itself; in a valid tree nothing else counts.
use Rattle.std.proofs.Common.{◌≡◌, ℕ, ◌*◌, Bool, true, false, not, ◌&&◌, if◌then◌else◌, nat_lt, List, refl, sym, arith}
use Rattle.std.proofs.lemmas.Bool.{and_parts, false≢true, ltb-false}
use Rattle.swc_ast.specs.Redex.{own_redex, list_redex, any_loose, is_delete}
use Rattle.swc_ast.specs.declared.Span.{Span}
use Rattle.swc_ast.specs.Tree.{Label, SpreadRecord, KeyValue, Shorthand, Method, PlainKey, ComputedKey, Params, Body, Param, Block, Absent, CaseBody, VarDecl, Declarator, FnDecl, Module, Script, ImportNamed, ImportDefault, ImportStar, ExportSpecifier, Tree, node, Forest, ε, ◌⊳◌}
use Rattle.swc_ast.specs.Valid.{good_names, good_shape, valid, valid_all}
use Rattle.swc_ast.specs.Weight.{is_list, unreached}
use Rattle.static_proofs.specs.Free.{is_folded, branch_redex, has_kind, any_kind, kind_at}
use Rattle.static_proofs.specs.Lighter.{is_settled}
use Rattle.tree_walk.specs.Pass.{is_visited}
use Rattle.walk_proofs.specs.Finished.{Finished}
use Rattle.branch_rules.specs.Removes.{statement_redex, remove_pass}
use Rattle.branch_proofs.specs.Laws.{left_redex}
use Rattle.branch_proofs.proofs.Escapes.{neither, both_false}

unvisited_none : (l : Label) (cs : Forest) → is_visited l ≡ false → own_redex l cs ≡ false
unvisited_none SpreadRecord cs h = refl
unvisited_none KeyValue cs h = refl
unvisited_none (Shorthand x) cs h = refl
unvisited_none Method cs h = refl
unvisited_none (PlainKey k) cs h = refl
unvisited_none ComputedKey cs h = refl
unvisited_none Params cs h = refl
unvisited_none Body cs h = refl
unvisited_none (Param x) cs h = refl
unvisited_none Block cs h = refl
unvisited_none Absent cs h = refl
unvisited_none CaseBody cs h = refl
unvisited_none (VarDecl k) cs h = refl
unvisited_none (Declarator k x) cs h = refl
unvisited_none (FnDecl x) cs h = refl
unvisited_none Module cs h = refl
unvisited_none Script cs h = refl
unvisited_none (ImportNamed x i) cs h = refl
unvisited_none (ImportDefault x) cs h = refl
unvisited_none (ImportStar x) cs h = refl
unvisited_none (ExportSpecifier x i) cs h = refl
unvisited_none l cs h = absurd (false≢true (sym h))

no_and : (a b : Bool) → b ≡ false → (a && b) ≡ false
no_and true b h = h
no_and false b h = refl

and_left_true : (a b : Bool) → a ≡ true → (a && b) ≡ false → b ≡ false
and_left_true true b e h = h
and_left_true false b e h = absurd (false≢true e)

module _ {mark : ℕ} where
  statement_free : (b : Tree) → Finished (remove_pass mark) b → kind_at statement_redex b ≡ false
  statement_free (node l ss cs) f = by_visit (is_visited l) refl
    where
      by_visit : (v : Bool) → is_visited l ≡ v → statement_redex l cs ≡ false
      by_visit true e = f.rests_there e
      by_visit false e = no_and (good_shape l cs) (not (is_folded l) && own_redex l cs) (no_and (not (is_folded l)) (own_redex l cs) (unvisited_none l cs e))

  list_free : (l : Label) (ss : List Span) (cs : Forest) → Finished (remove_pass mark) (node l ss cs) → (is_list l && list_redex cs) ≡ false
  list_free l ss cs f = by_list (is_list l) refl
    where
      by_list : (v : Bool) → is_list l ≡ v → (v && list_redex cs) ≡ false
      by_list true e = f.tidy_there e
      by_list false e = refl

  pub finished_free : (b : Tree) → Finished (remove_pass mark) b → kind_at left_redex b ≡ false
  finished_free (node l ss cs) f = both_false (statement_redex l cs) (is_list l && list_redex cs) (statement_free (node l ss cs) f) (list_free l ss cs f)

  pub finished_settled : (b : Tree) → Finished (remove_pass mark) b → is_settled b
  finished_settled (node l ss cs) f = by_list (is_list l) refl
    where
      by_list : (v : Bool) → is_list l ≡ v → (if v then 4 * unreached cs else 0) ≡ 0
      by_list true e = omega (arith, ltb-false 0 (unreached cs) (neither (nat_lt 0 (unreached cs)) (any_loose cs) (f.tidy_there e)).0)
      by_list false e = refl

-- in a valid tree each node has the shape that its label asks

here_free : (l : Label) (cs : Forest) → good_shape l cs ≡ true → left_redex l cs ≡ false → branch_redex l cs ≡ false
here_free l cs g h = let p = neither (statement_redex l cs) (is_list l && list_redex cs) h in both_false (not (is_folded l) && own_redex l cs) (is_list l && list_redex cs) (and_left_true (good_shape l cs) (not (is_folded l) && own_redex l cs) g p.0) p.1

below_free : (b : Bool) (cs : Forest) → (any_kind left_redex cs ≡ false → any_kind branch_redex cs ≡ false) → (if b then false else any_kind left_redex cs) ≡ false → (if b then false else any_kind branch_redex cs) ≡ false
below_free true cs f h = refl
below_free false cs f h = f h

mutual
  pub valid_free : (t : Tree) → valid t ≡ true → has_kind left_redex t ≡ false → has_kind branch_redex t ≡ false
  valid_free (node l ss cs) v h =
      let p = and_parts (good_names l && good_shape l cs) (valid_all cs) v in
      let q = neither (left_redex l cs) (if is_delete l then false else any_kind left_redex cs) h in
      both_false (branch_redex l cs) (if is_delete l then false else any_kind branch_redex cs) (here_free l cs (and_parts (good_names l) (good_shape l cs) p.0).1 q.0) (below_free (is_delete l) cs (all_free cs p.1) q.1)

  all_free : (ts : Forest) → valid_all ts ≡ true → any_kind left_redex ts ≡ false → any_kind branch_redex ts ≡ false
  all_free ε v h = refl
  all_free (t ⊳ ts) v h = let p = and_parts (valid t) (valid_all ts) v in let q = neither (has_kind left_redex t) (any_kind left_redex ts) h in both_false (has_kind branch_redex t) (any_kind branch_redex ts) (valid_free t p.0 q.0) (all_free ts p.1 q.1)
