-- What the rules of statements and of lists do, as the walk asks for it.
use Rattle.std.proofs.Common.{◌≡◌, ℕ, Bool, true, false, List, [], Option, Some, None, Ok, Err, IfOk, refl, sym, subst, ◌∙◌}
use Rattle.std.specs.Prelude.{IsNone}
use Rattle.std.specs.declared.alloc.AllocError.{AllocError}
use Rattle.std.specs.declared.result.Result.{Result}
use Rattle.swc_ast.specs.Parts.{list_trees}
use Rattle.swc_ast.specs.Tree.{Tree, label_of}
use Rattle.swc_ast.specs.Views.{stmt_tree}
use Rattle.swc_ast.specs.declared.statements.Stmt.{Stmt}
use Rattle.swc_ast.specs.Weight.{is_list}
use Rattle.tree_walk.specs.Lists.{ListBecame}
use Rattle.tree_walk.specs.Walks.{Became}
use Rattle.tree_walk.specs.declared.rules.ListPlace.{ListPlace}
use Rattle.tree_walk.specs.declared.rules.ListPlace.TheVariants as place
use Rattle.branch_lists.specs.Tidy.{ListTidied, nothing_kept}
use Rattle.branch_rules.specs.Removes.{within, Removes, followed, of_statement, Rests, remove_pass}
use Rattle.branch_loops.specs.Runs.{RunsWithin, runs_within, as_before}
use Rattle.branch_rules.specs.Turns.{Turns, as_it_was, by_rule}

-- what a rule made of a statement
turned : {mark : ℕ} {t u : Tree} {s : Stmt} → Turns mark t u (Some s) → Removes mark t (stmt_tree s)
turned {mark} {t} (by_rule rs r e) = subst (Removes mark t) (sym e) (of_statement rs r)

pub turned_at : (mark : ℕ) (t u : Tree) (o : Option Stmt) (s : Stmt) → o ≡ Some s → Turns mark t u o → Removes mark t (stmt_tree s)
turned_at mark t u o s is h = turned (subst (Turns mark t u) is h)

-- where no rule took it, it is as it was
pub unturned_at : (mark : ℕ) (t u : Tree) (o : Option Stmt) → o ≡ None → Turns mark t u o → u ≡ t
unturned_at mark t u o is h = by (subst (Turns mark t u) is h)
  where
    by : Turns mark t u None → u ≡ t
    by (as_it_was e) = e

-- a rule behind others
pub followed_at : (mark : ℕ) (x u : Tree) (o : Option Stmt) (s : Stmt) → o ≡ Some s → Turns mark x u o → (t : Tree) → is_list (label_of t) ≡ false → Removes mark t x → Removes mark t (stmt_tree s)
followed_at mark x u o s is h t n r = followed n r (turned_at mark x u o s is h)

-- a rule behind what became of the body of a loop
pub within_then : (mark : ℕ) (t u v : Tree) (c : Bool) (o : Option Stmt) (s : Stmt) → is_list (label_of t) ≡ false → RunsWithin mark t u c → o ≡ Some s → Turns mark u v o → Removes mark t (stmt_tree s)
within_then mark t u v c o s n (runs_within w) is h = followed n (of_statement [] (within w)) (turned_at mark u v o s is h)
within_then mark t u v c o s n (as_before e) is h = subst (λ x. Removes mark x (stmt_tree s)) e (turned_at mark u v o s is h)

-- and no rule
pub within_left : (mark : ℕ) (t u v : Tree) (c : Bool) (o : Option Stmt) → RunsWithin mark t u c → o ≡ None → Turns mark u v o → (IsNone o → Rests v) → Became (remove_pass mark) c t v
within_left mark t u v c o (runs_within w) is h f = subst (Removes mark t) (sym (unturned_at mark u v o is h)) (of_statement [] (within w))
within_left mark t u v c o (as_before e) is h f = (unturned_at mark u v o is h ∙ e, subst (λ z. IsNone z → Rests v) is f refl)

-- lists
list_became : (mark : ℕ) (p : ListPlace) (c : Bool) (xs ys : List Stmt) → ListTidied nothing_kept c (list_trees stmt_tree xs) (list_trees stmt_tree ys) → ListBecame (remove_pass mark) p c xs ys
list_became mark place.Block true xs ys h = h
list_became mark place.Body true xs ys h = h
list_became mark place.Case true xs ys h = h
list_became mark place.Script true xs ys h = h
list_became mark p false xs ys h = h

pub list_becomes : (mark : ℕ) (p : ListPlace) (r : Result Bool AllocError) (xs ys : List Stmt) → IfOk r (λ c. ListTidied nothing_kept c (list_trees stmt_tree xs) (list_trees stmt_tree ys)) → IfOk r (λ c. ListBecame (remove_pass mark) p c xs ys)
list_becomes mark p (Ok c) xs ys h = list_became mark p c xs ys h
list_becomes mark p (Err e) xs ys h = tt
