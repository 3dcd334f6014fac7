-- To run a list is to run what it becomes by tidying.
use Rattle.std.proofs.Common.{◌≡◌, ℕ, Bool, true, List, [], ◌++◌, refl, ap, ap₂, ◌∙◌}
use Rattle.std.proofs.lemmas.Bool.{and_parts}
use Rattle.swc_ast.specs.declared.Span.{Span}
use Rattle.swc_ast.specs.declared.VarDeclKind.TheVariants.{Var, Let, Const}
use Rattle.swc_ast.specs.Tree.{Name, Empty, Block, VarDecl, Tree, node, Forest, ε, ◌⊳◌}
use Rattle.swc_ast.specs.Value.{and_then}
use Rattle.swc_ast.specs.Scope.{declared_by, declared}
use Rattle.swc_ast.specs.Meaning.{run_all, act, eval, evals}
use Rattle.swc_ast.specs.Call.{call_at}
use Rattle.meaning_proofs.specs.Exact.{ListExact}
use Rattle.swc_utils.proofs.Refines.{refines_same}
use Rattle.swc_utils.proofs.RunEffects.{drop}
use Rattle.pass_proofs.proofs.Refines.{refines_path}
use Rattle.branch_rules.specs.Lists.{is_bare, all_bare, Swept, none_swept, item_stays, empty_goes, block_opens, staying, Cut, uncut, past_item, cut_at, Tidied}
use Rattle.branch_proofs.proofs.Becoming.{Becomes}
use Rattle.branch_proofs.proofs.Becomes.{becomes_same, becomes_first, becomes_trans, becomes_list}
use Rattle.branch_proofs.proofs.Labelled.{plain_declares}
use Rattle.branch_proofs.proofs.Places.{open_block, discarded}
use Rattle.branch_proofs.proofs.Statements.{vars_first}
use Rattle.branch_proofs.proofs.Unbroken.{stopped_run}
use Rattle.branch_proofs.proofs.Undefined.{run_all_nothing}

bare_declares : (t : Tree) → is_bare t ≡ true → declared_by t ≡ []
bare_declares (node (VarDecl Let) ss ε) h = refl
bare_declares (node (VarDecl Const) ss ε) h = refl
bare_declares (node (VarDecl Var) ss ε) h = refl
bare_declares t h = plain_declares t h

pub bares_declare : (ts : Forest) → all_bare ts ≡ true → declared ts ≡ []
bares_declare ε h = refl
bares_declare (t ⊳ ts) h = let p = and_parts (is_bare t) (all_bare ts) h in ap₂ ◌++◌ (bare_declares t p.0) (bares_declare ts p.1)

empty_becomes : (mark : ℕ) (ss : List Span) → Becomes mark (node Empty ss ε ⊳ ε) ε
unfolding run_all eval evals act and_then
empty_becomes mark ss = record { by = λ n d c. refines_same _ }

block_becomes : (mark : ℕ) (ss : List Span) (cs : Forest) → declared cs ≡ [] → Becomes mark (node Block ss cs ⊳ ε) cs
unfolding run_all evals
block_becomes mark ss cs e = record {
  by = λ n d c. refines_path (ap drop (open_block mark n (call_at (eval mark n) d) ss cs e c) ∙ discarded (run_all_nothing (evals mark n (call_at (eval mark n) d) cs) c));
}

pub swept_becomes : {mark : ℕ} {ts us : Forest} → Swept ts us → Becomes mark ts us
swept_becomes {mark} none_swept = becomes_same mark ε
swept_becomes {mark} (item_stays t {ts} {us} s) = becomes_first mark t (t ⊳ ε) ts us (becomes_same mark (t ⊳ ε)) (swept_becomes s)
swept_becomes {mark} (empty_goes ss {ts} {us} s) = becomes_first mark (node Empty ss ε) ε ts us (empty_becomes mark ss) (swept_becomes s)
swept_becomes {mark} (block_opens ss cs {ts} {us} b s) = becomes_first mark (node Block ss cs) cs ts us (block_becomes mark ss cs (bares_declare cs b)) (swept_becomes s)

cut_becomes : {mark : ℕ} {kept : Name → Bool} {ts us : Forest} → Cut kept ts us → Becomes mark ts us
cut_becomes {mark} uncut = becomes_same mark ε
cut_becomes {mark} (past_item t {ts} {us} h c) = becomes_first mark t (t ⊳ ε) ts us (becomes_same mark (t ⊳ ε)) (cut_becomes c)
cut_becomes {mark} (cut_at t ts h o) = record {
  by = λ n d c. refines_path (stopped_run mark n d ε t ts (staying ts) c h ∙ vars_first mark n d (t ⊳ staying ts) c o);
}

pub tidied_becomes : {mark : ℕ} {kept : Name → Bool} {ts us : Forest} → Tidied kept ts us → Becomes mark ts us
tidied_becomes d = becomes_trans (swept_becomes d.sweeps) (cut_becomes d.cuts)

-- a list that is tidied does exactly what it did
pub tidied_exact : {mark : ℕ} {kept : Name → Bool} {ts us : Forest} → Tidied kept ts us → ListExact mark ts us
tidied_exact d = becomes_list (tidied_becomes d)
