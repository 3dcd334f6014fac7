-- A module whose exported declarations are opened does the same: both runs are equal.
use Rattle.std.proofs.Common.{◌≡◌, ℕ, suc, Bool, ◌||◌, List, [], ◌∷◌, ◌++◌, None, refl, sym, ap, ◌∙◌, if◌then◌else◌}
use Rattle.swc_ast.specs.declared.Span.{Span}
use Rattle.swc_ast.specs.declared.VarDeclKind.TheVariants.{Var, Let, Const}
use Rattle.swc_ast.specs.Tree.{Name, Label, VarDecl, FnDecl, Module, ExportDecl, Tree, node, Forest, ε, ◌⊳◌}
use Rattle.swc_ast.specs.Value.{Value, Undefined, Outcome, Done, Jumps, Outside, Cut, Run, Context, and_then}
use Rattle.swc_ast.specs.Scope.{has_name, vars, vars_all, declared_by, declared, found, is_found, declarator_names, import_names_of, import_names}
use Rattle.swc_ast.specs.Meaning.{◌>>=◌, gives, Caller, in_scope, act, eval, run_all}
use Rattle.swc_ast.specs.Call.{each_of, var_cell, in_env, call_at}
use Rattle.swc_ast.specs.Meaning.{cell_of_declared}
use Rattle.swc_ast.specs.Run.{World, LaterCall, Finished, LeftCore, once, source_of, sources, item_imports, imports_at, all_are_data, import_cell, own_texts, specifier_exports, item_exports, exported, show_exports, answer_to, at_moment, answers, ends, start, finish, run_items, observe_by, Same}
use Rattle.rename_rules.specs.Opened.{specifiers_for, opened_item, opened_items, opened}

append_nothing : {A : Type 0} (xs : List A) → xs ++ [] ≡ xs
append_nothing [] = refl
append_nothing (x ∷ xs) = ap (λ ys. x ∷ ys) (append_nothing xs)

-- what items declare, import, load and export

declared_item : (l : Label) (ss : List Span) (cs ts : Forest) → declared (opened_item l ss cs ts) ≡ declared_by (node l ss cs) ++ declared ts
declared_item ExportDecl ss (node (VarDecl Var) rs ds ⊳ ε) ts = refl
declared_item ExportDecl ss (node (VarDecl Let) rs ds ⊳ ε) ts = refl
declared_item ExportDecl ss (node (VarDecl Const) rs ds ⊳ ε) ts = refl
declared_item ExportDecl ss (node (FnDecl x) rs cs ⊳ ε) ts = refl
declared_item l ss cs ts = refl

pub declared_opened : (ts : Forest) → declared (opened_items ts) ≡ declared ts
declared_opened ε = refl
declared_opened (node l ss cs ⊳ ts) = declared_item l ss cs (opened_items ts) ∙ ap (λ ps. declared_by (node l ss cs) ++ ps) (declared_opened ts)

vars_item : (l : Label) (ss : List Span) (cs ts : Forest) → vars_all (opened_item l ss cs ts) ≡ vars (node l ss cs) ++ vars_all ts
vars_item ExportDecl ss (node (VarDecl k) rs ds ⊳ ε) ts = ap (λ xs. xs ++ vars_all ts) (sym (append_nothing (vars (node (VarDecl k) rs ds))))
vars_item ExportDecl ss (node (FnDecl x) rs cs ⊳ ε) ts = refl
vars_item l ss cs ts = refl

pub vars_opened : (ts : Forest) → vars_all (opened_items ts) ≡ vars_all ts
vars_opened ε = refl
vars_opened (node l ss cs ⊳ ts) = vars_item l ss cs (opened_items ts) ∙ ap (λ xs. vars (node l ss cs) ++ xs) (vars_opened ts)

names_item : (l : Label) (ss : List Span) (cs ts : Forest) → import_names (opened_item l ss cs ts) ≡ import_names_of l cs ++ import_names ts
names_item ExportDecl ss (node (VarDecl k) rs ds ⊳ ε) ts = refl
names_item ExportDecl ss (node (FnDecl x) rs cs ⊳ ε) ts = refl
names_item l ss cs ts = refl

pub names_opened : (ts : Forest) → import_names (opened_items ts) ≡ import_names ts
names_opened ε = refl
names_opened (node l ss cs ⊳ ts) = names_item l ss cs (opened_items ts) ∙ ap (λ xs. import_names_of l cs ++ xs) (names_opened ts)

sources_item : (l : Label) (ss : List Span) (cs ts : Forest) → sources (opened_item l ss cs ts) ≡ source_of l ++ sources ts
sources_item ExportDecl ss (node (VarDecl k) rs ds ⊳ ε) ts = refl
sources_item ExportDecl ss (node (FnDecl x) rs cs ⊳ ε) ts = refl
sources_item l ss cs ts = refl

sources_opened : (ts : Forest) → sources (opened_items ts) ≡ sources ts
sources_opened ε = refl
sources_opened (node l ss cs ⊳ ts) = sources_item l ss cs (opened_items ts) ∙ ap (λ xs. source_of l ++ xs) (sources_opened ts)

module _ (w : World) (k : ℕ) where
  imports_item : (l : Label) (ss : List Span) (cs ts : Forest) → imports_at w k (opened_item l ss cs ts) ≡ item_imports w k l cs ++ imports_at w k ts
  imports_item ExportDecl ss (node (VarDecl q) rs ds ⊳ ε) ts = refl
  imports_item ExportDecl ss (node (FnDecl x) rs cs ⊳ ε) ts = refl
  imports_item l ss cs ts = refl

  imports_opened : (ts : Forest) → imports_at w k (opened_items ts) ≡ imports_at w k ts
  imports_opened ε = refl
  imports_opened (node l ss cs ⊳ ts) = imports_item l ss cs (opened_items ts) ∙ ap (λ xs. item_imports w k l cs ++ xs) (imports_opened ts)

exports_for : (ss : List Span) (xs : List Name) → specifier_exports (specifiers_for ss xs) ≡ own_texts xs
exports_for ss [] = refl
exports_for ss (x ∷ xs) = ap (λ ps. (x.text, x) ∷ ps) (exports_for ss xs)

exports_item : (l : Label) (ss : List Span) (cs ts : Forest) → exported (opened_item l ss cs ts) ≡ item_exports l cs ++ exported ts
exports_item ExportDecl ss (node (VarDecl k) rs ds ⊳ ε) ts = ap (λ ps. ps ++ exported ts) (exports_for ss (declarator_names ds))
exports_item ExportDecl ss (node (FnDecl x) rs cs ⊳ ε) ts = refl
exports_item l ss cs ts = refl

exports_opened : (ts : Forest) → exported (opened_items ts) ≡ exported ts
exports_opened ε = refl
exports_opened (node l ss cs ⊳ ts) = exports_item l ss cs (opened_items ts) ∙ ap (λ ps. item_exports l cs ++ ps) (exports_opened ts)

-- what items do

after_nothing : (o : Outcome Value) (k : Run Value) → and_then o (λ v. k) ≡ and_then (and_then o (λ v. gives Undefined)) (λ v. k)
unfolding and_then
after_nothing (Done v s) k = refl
after_nothing (Jumps j s) k = refl
after_nothing Outside k = refl
after_nothing Cut k = refl

module _ (mark n : ℕ) (call : Caller) where
  does_item : (l : Label) (ss : List Span) (cs ts : Forest) (c : Context) → run_all (each_of (eval mark n call) (opened_item l ss cs ts)) c ≡ (eval mark n call (node l ss cs) c >>= λ v. run_all (each_of (eval mark n call) ts) c)
  unfolding eval act run_all and_then
  does_item ExportDecl ss (node (VarDecl k) rs ds ⊳ ε) ts c = λ i s. after_nothing (eval mark n call (node (VarDecl k) rs ds) c s) (run_all (each_of (eval mark n call) ts) c) i
  does_item ExportDecl ss (node (FnDecl x) rs cs ⊳ ε) ts c = λ i s. after_nothing (eval mark n call (node (FnDecl x) rs cs) c s) (run_all (each_of (eval mark n call) ts) c) i
  does_item l ss cs ts c = refl

  does_opened : (ts : Forest) (c : Context) → run_all (each_of (eval mark n call) (opened_items ts)) c ≡ run_all (each_of (eval mark n call) ts) c
  unfolding run_all
  does_opened ε c = refl
  does_opened (node l ss cs ⊳ ts) c = does_item l ss cs (opened_items ts) c ∙ (λ i. eval mark n call (node l ss cs) c >>= λ v. does_opened ts c i)

  answers_opened : (w : World) (ts : Forest) (k : ℕ) (ls : List LaterCall) (c : Context) → answers call w (opened_items ts) k ls c ≡ answers call w ts k ls c
  unfolding answers
  answers_opened w ts k [] c = refl
  answers_opened w ts k (l ∷ ls) c = λ i. at_moment (imports_opened w k ts i) (answer_to call (exports_opened ts i) l c >>= λ a. answers_opened w ts (suc k) ls c i >>= λ rest. gives (a ∷ rest))

  finish_opened : (w : World) (ts : Forest) (ls : List LaterCall) (c : Context) → finish call w (opened_items ts) ls c ≡ finish call w ts ls c
  finish_opened w ts ls c = λ i. show_exports (exports_opened ts i) c >>= λ shows. answers_opened w ts 1 ls c i >>= λ given. gives (Finished shows given)

module _ (mark n d : ℕ) (w : World) (calls : List LaterCall) where
  items_opened : (ts : Forest) → run_items (eval mark n) d w calls (opened_items ts) ≡ run_items (eval mark n) d w calls ts
  unfolding run_items
  items_opened ts = λ i.
      ends (in_scope
      (λ x. has_name x (names_opened ts i) || (has_name x (vars_opened ts i) || is_found x (declared_opened ts i)))
      (λ e x. import_cell (found x (imports_opened w 0 ts i)) (var_cell (cell_of_declared e Undefined (found x (declared_opened ts i)))))
      (λ c. does_opened mark n (call_at (eval mark n) d) ts c i >>= λ v. finish_opened mark n (call_at (eval mark n) d) w ts calls c i)
      (in_env (λ x. None) Undefined) (start (once [] (sources_opened ts i)) w))

  module_opened : (ss : List Span) (ts : Forest) → observe_by (eval mark n) d w calls (node Module ss (opened_items ts)) ≡ observe_by (eval mark n) d w calls (node Module ss ts)
  unfolding observe_by
  module_opened ss ts = λ i. if all_are_data (imports_opened w 0 ts i) then items_opened ts i else LeftCore

  tree_opened : (t : Tree) → observe_by (eval mark n) d w calls (opened t) ≡ observe_by (eval mark n) d w calls t
  tree_opened (node Module ss ts) = module_opened ss ts
  tree_opened (node _ ss ts) = refl

pub opened_same : (mark : ℕ) (loads : Bool) (t : Tree) → Same mark loads t (opened t)
unfolding Same
opened_same mark loads t n d w calls o e = (o, tree_opened mark n d w calls t ∙ e, refl)
