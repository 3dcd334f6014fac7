-- A list that is swept, without the declarations of `let` and `const` that go behind its stopper: to cut it does the same, and
-- declares the same but for names of those.
use Rattle.std.proofs.Common.{◌≡◌, ℕ, Bool, true, false, ◌||◌, if◌then◌else◌, ◌++◌, refl, sym, ap, ap₂, ◌∙◌}
use Rattle.std.proofs.lemmas.Bool.{and_parts}
use Rattle.swc_ast.specs.declared.VarDeclKind.TheVariants.{Var, Let, Const}
use Rattle.swc_ast.specs.Tree.{Name, VarDecl, Tree, node, Forest, ε, ◌⊳◌}
use Rattle.swc_ast.specs.Scope.{vars, vars_all, declared_by, declared}
use Rattle.swc_ast.specs.Weight.{stays_behind}
use Rattle.pass_proofs.proofs.Refines.{refines_path}
use Rattle.branch_rules.specs.Lists.{staying, Cut, uncut, past_item, cut_at, is_statement, all_statements}
use Rattle.branch_rules.specs.Switches.{is_shed, unlet}
use Rattle.branch_proofs.proofs.Becoming.{Becomes}
use Rattle.branch_proofs.proofs.Becomes.{becomes_same, becomes_first}
use Rattle.branch_proofs.proofs.Labelled.{plain_declares}
use Rattle.branch_proofs.proofs.Modules.{lets_hold_none, consts_hold_none}
use Rattle.branch_proofs.proofs.Statements.{vars_first}
use Rattle.branch_proofs.proofs.Tests.{declared_behind}
use Rattle.branch_proofs.proofs.Unbroken.{stopped_run}
use Rattle.branch_proofs.proofs.Vars.{vars_declare}

-- a list that is cut, with what goes but for those
abbrev pub cut_between : {kept : Name → Bool} {ts vs : Forest} → Cut kept ts vs → Forest
cut_between uncut = ε
cut_between (past_item t h c) = t ⊳ cut_between c
cut_between (cut_at t ts h o) = t ⊳ unlet ts

pub cut_exact : {mark : ℕ} {kept : Name → Bool} {ts vs : Forest} (c : Cut kept ts vs) → Becomes mark (cut_between c) vs
cut_exact {mark} uncut = becomes_same mark ε
cut_exact {mark} (past_item t {ts} {us} h c) = becomes_first mark t (t ⊳ ε) (cut_between c) us (becomes_same mark (t ⊳ ε)) (cut_exact c)
cut_exact {mark} (cut_at t ts h o) = record { by = λ n d c. refines_path (stopped_run mark n d ε t (unlet ts) (staying ts) c h ∙ vars_first mark n d (t ⊳ staying ts) c o) }

-- what stays declares what the rest declares

item_declares : (t : Tree) (us vs : Forest) → (stays_behind t || is_statement t) ≡ true → declared us ≡ declared vs → declared (if is_shed t then us else t ⊳ us) ≡ declared (if stays_behind t then t ⊳ vs else vs)
item_declares (node (VarDecl Var) ss ε) us vs h e = e
item_declares (node (VarDecl Var) ss (d ⊳ ds)) us vs h e = e
item_declares (node (VarDecl Let) ss ε) us vs h e = e
item_declares (node (VarDecl Let) ss (d ⊳ ds)) us vs h e = e
item_declares (node (VarDecl Const) ss ε) us vs h e = e
item_declares (node (VarDecl Const) ss (d ⊳ ds)) us vs h e = e
item_declares (node l ss cs) us vs h e = by_stay (stays_behind (node l ss cs)) h
  where
    by_stay : (b : Bool) → (b || is_statement (node l ss cs)) ≡ true → declared (node l ss cs ⊳ us) ≡ declared (if b then node l ss cs ⊳ vs else vs)
    by_stay true i = ap (λ ps. declared_by (node l ss cs) ++ ps) e
    by_stay false i = ap₂ ◌++◌ (plain_declares (node l ss cs) i) e

unlet_declares : (ts : Forest) → all_statements ts ≡ true → declared (unlet ts) ≡ declared (staying ts)
unlet_declares ε h = refl
unlet_declares (t ⊳ ts) h = let p = and_parts (stays_behind t || is_statement t) (all_statements ts) h in item_declares t (unlet ts) (staying ts) p.0 (unlet_declares ts p.1)

pub cut_declares : {kept : Name → Bool} {ts vs : Forest} (c : Cut kept ts vs) → all_statements ts ≡ true → declared (cut_between c) ≡ declared vs
cut_declares uncut m = refl
cut_declares (past_item t {ts} h c) m = ap (λ ps. declared_by t ++ ps) (cut_declares c (and_parts (stays_behind t || is_statement t) (all_statements ts) m).1)
cut_declares (cut_at t ts {vs} h o) m =
    ap (λ ps. declared_by t ++ ps) (unlet_declares ts (and_parts (stays_behind t || is_statement t) (all_statements ts) m).1)
    ∙ sym (declared_behind vs (t ⊳ staying ts) ∙ ap (λ ps. ps ++ declared (t ⊳ staying ts)) (vars_declare o))

-- no `var` goes with them

item_vars : (t : Tree) (us vs : Forest) → (stays_behind t || is_statement t) ≡ true → vars_all us ≡ vars_all vs → vars_all (if is_shed t then us else t ⊳ us) ≡ vars t ++ vars_all vs
item_vars (node (VarDecl Var) ss ε) us vs h e = e
item_vars (node (VarDecl Var) ss (d ⊳ ds)) us vs h e = ap (λ xs. vars (node (VarDecl Var) ss (d ⊳ ds)) ++ xs) e
item_vars (node (VarDecl Let) ss ε) us vs h e = e
item_vars (node (VarDecl Let) ss (d ⊳ ds)) us vs h e = e ∙ ap (λ xs. xs ++ vars_all vs) (sym (lets_hold_none (d ⊳ ds) h))
item_vars (node (VarDecl Const) ss ε) us vs h e = e
item_vars (node (VarDecl Const) ss (d ⊳ ds)) us vs h e = e ∙ ap (λ xs. xs ++ vars_all vs) (sym (consts_hold_none (d ⊳ ds) h))
item_vars (node l ss cs) us vs h e = ap (λ xs. vars (node l ss cs) ++ xs) e

pub unlet_vars : (ts : Forest) → all_statements ts ≡ true → vars_all (unlet ts) ≡ vars_all ts
unlet_vars ε h = refl
unlet_vars (t ⊳ ts) h = let p = and_parts (stays_behind t || is_statement t) (all_statements ts) h in item_vars t (unlet ts) ts p.0 (unlet_vars ts p.1)
