-- Jumps that may leave statements.
use Rattle.std.proofs.Common.{◌≡◌, Bool, true, false, not, ◌&&◌, ◌||◌, List, [], ◌∷◌, Some, None, refl, sym}
use Rattle.std.proofs.lemmas.Bool.{false≢true}
use Rattle.swc_ast.specs.Tree.{Text, Fn, Arrow, Method, FnDecl, ExportDefaultFn, While, DoWhile, For, Labeled, Switch, Break, Continue, Tree, node, Forest, ε, ◌⊳◌}
use Rattle.swc_ast.specs.Meaning.{has_label}
use Rattle.swc_ast.specs.Scope.{joined}
use Rattle.branch_rules.specs.Jumps.{is_sought, Kinds, in_loop, in_switch, escapes_behind, escapes, some_escape}
use Rattle.branch_rules.specs.Switches.{breaking}
use Rattle.static_proofs.specs.Jumps.{jumps_out, any_jumps_out}
use Rattle.branch_rules.specs.Once.{all_functions}

-- neither of two
pub neither : (a b : Bool) → (a || b) ≡ false → (a ≡ false) × (b ≡ false)
neither true b h = absurd (false≢true (sym h))
neither false b h = (refl, h)

pub both_false : (a b : Bool) → a ≡ false → b ≡ false → (a || b) ≡ false
both_false true b h i = h
both_false false b h i = i

-- where none of some kinds escapes, no labelled `continue` does

abbrev only_labelled : Kinds → Kinds
only_labelled g = in_loop g.inside g

mutual
  behind_less : (near : List Text) (g : Kinds) (t : Tree) → escapes_behind near g t ≡ false → escapes_behind near (only_labelled g) t ≡ false
  behind_less near g (node (Break None) ss cs) h = let p = neither (some_escape g cs) g.breaks h in both_false (some_escape (only_labelled g) cs) false (some_less g cs p.0) refl
  behind_less near g (node (Continue None) ss cs) h = let p = neither (some_escape g cs) g.continues h in both_false (some_escape (only_labelled g) cs) false (some_less g cs p.0) refl
  behind_less near g (node (Continue (Some l)) ss cs) h = let p = neither (some_escape g cs) (is_sought g.labelled l && not (has_label l g.inside)) h in both_false (some_escape (only_labelled g) cs) (is_sought g.labelled l && not (has_label l g.inside)) (some_less g cs p.0) p.1
  behind_less near g (node (Fn o) ss cs) h = refl
  behind_less near g (node Arrow ss cs) h = refl
  behind_less near g (node (FnDecl x) ss cs) h = refl
  behind_less near g (node (ExportDefaultFn o) ss cs) h = refl
  behind_less near g (node Method ss (k ⊳ cs)) h = behind_less g.inside g k h
  behind_less near g (node (Labeled l) ss (t ⊳ ε)) h = behind_less (l ∷ near) g t h
  behind_less near g (node (Labeled l) ss cs) h = some_less g cs h
  behind_less near g (node While ss (t ⊳ b ⊳ ε)) h = let p = neither (escapes g t) (escapes (in_loop near g) b) h in both_false (escapes (only_labelled g) t) (escapes (in_loop near g) b) (behind_less g.inside g t p.0) p.1
  behind_less near g (node DoWhile ss (b ⊳ t ⊳ ε)) h = let p = neither (escapes (in_loop near g) b) (escapes g t) h in both_false (escapes (in_loop near g) b) (escapes (only_labelled g) t) p.0 (behind_less g.inside g t p.1)
  behind_less near g (node For ss (i ⊳ t ⊳ u ⊳ b ⊳ ε)) h =
      let p = neither (escapes g i) (escapes g t || (escapes g u || escapes (in_loop near g) b)) h in
      let q = neither (escapes g t) (escapes g u || escapes (in_loop near g) b) p.1 in
      let r = neither (escapes g u) (escapes (in_loop near g) b) q.1 in
      both_false (escapes (only_labelled g) i) _ (behind_less g.inside g i p.0) (both_false (escapes (only_labelled g) t) _ (behind_less g.inside g t q.0) (both_false (escapes (only_labelled g) u) (escapes (in_loop near g) b) (behind_less g.inside g u r.0) r.1))
  behind_less near g (node (Switch ds) ss (d ⊳ cs)) h = let p = neither (escapes g d) (some_escape (in_switch g) cs) h in both_false (escapes (only_labelled g) d) (some_escape (only_labelled g) cs) (behind_less g.inside g d p.0) (some_less (in_switch g) cs p.1)
  behind_less near g (node l ss cs) h = some_less g cs h

  pub some_less : (g : Kinds) (ts : Forest) → some_escape g ts ≡ false → some_escape (in_loop g.inside g) ts ≡ false
  some_less g ε h = refl
  some_less g (t ⊳ ts) h = let p = neither (escapes g t) (some_escape g ts) h in both_false (escapes (only_labelled g) t) (some_escape (only_labelled g) ts) (behind_less g.inside g t p.0) (some_less g ts p.1)

pub escapes_less : (g : Kinds) (t : Tree) → escapes g t ≡ false → escapes (in_loop g.inside g) t ≡ false
escapes_less g t h = behind_less g.inside g t h

pub functions_stay : (g : Kinds) (ts : Forest) → all_functions ts ≡ true → some_escape g ts ≡ false
functions_stay g ε h = refl
functions_stay g (node (FnDecl x) ss cs ⊳ ts) h = functions_stay g ts h
functions_stay g (t ⊳ ts) h = absurd (false≢true h)

pub none_behind : (g : Kinds) (ts us : Forest) → some_escape g ts ≡ false → some_escape g us ≡ false → some_escape g (joined ts us) ≡ false
none_behind g ε us h i = i
none_behind g (t ⊳ ts) us h i = let p = neither (escapes g t) (some_escape g ts) h in both_false (escapes g t) _ p.0 (none_behind g ts us p.1 i)

-- where no `break` escapes, none goes out

mutual
  none_out : (t : Tree) → jumps_out false false t ≡ false
  none_out (node (Break None) ss cs) = none_out_all cs
  none_out (node (Continue None) ss cs) = none_out_all cs
  none_out (node l ss cs) = none_out_all cs

  pub none_out_all : (ts : Forest) → any_jumps_out false false ts ≡ false
  none_out_all ε = refl
  none_out_all (t ⊳ ts) = both_false (jumps_out false false t) (any_jumps_out false false ts) (none_out t) (none_out_all ts)

mutual
  behind_out : (near : List Text) (t : Tree) → escapes_behind near breaking t ≡ false → jumps_out true false t ≡ false
  behind_out near (node (Break None) ss cs) h = absurd (false≢true (sym (neither (some_escape breaking cs) true h).1))
  behind_out near (node (Continue None) ss cs) h = breaks_out cs (neither (some_escape breaking cs) false h).0
  behind_out near (node (Continue (Some l)) ss cs) h = breaks_out cs (neither (some_escape breaking cs) false h).0
  behind_out near (node (Fn o) ss cs) h = none_out_all cs
  behind_out near (node Arrow ss cs) h = none_out_all cs
  behind_out near (node (FnDecl x) ss cs) h = none_out_all cs
  behind_out near (node (ExportDefaultFn o) ss cs) h = none_out_all cs
  behind_out near (node Method ss cs) h = none_out_all cs
  behind_out near (node (Labeled l) ss (t ⊳ ε)) h = both_false (jumps_out true false t) false (behind_out (l ∷ near) t h) refl
  behind_out near (node (Labeled l) ss cs) h = breaks_out cs h
  behind_out near (node While ss cs) h = none_out_all cs
  behind_out near (node DoWhile ss cs) h = none_out_all cs
  behind_out near (node For ss cs) h = none_out_all cs
  behind_out near (node (Switch ds) ss cs) h = none_out_all cs
  behind_out near (node l ss cs) h = breaks_out cs h

  pub breaks_out : (ts : Forest) → some_escape breaking ts ≡ false → any_jumps_out true false ts ≡ false
  breaks_out ε h = refl
  breaks_out (t ⊳ ts) h = let p = neither (escapes breaking t) (some_escape breaking ts) h in both_false (jumps_out true false t) (any_jumps_out true false ts) (behind_out [] t p.0) (breaks_out ts p.1)

pub break_out : (t : Tree) → escapes breaking t ≡ false → jumps_out true false t ≡ false
break_out t h = behind_out [] t h
