use Rattle.std.proofs.Common.{subst}
use Rattle.swc_ast.specs.Resolved.{own_scopes}
use Rattle.tree_visit.specs.Kinds.{kind_label}
use Rattle.tree_visit.specs.Nodes.{children_forest}
use Rattle.swc_resolved.specs.Here.{named_once}
use Rattle.swc_resolved.specs.Names.{is_taken}
use Rattle.swc_resolved.specs.Scopes.{BindsNamed}
use Rattle.swc_resolved.proofs.Good.{passes_once, passes_again}
use Rattle.swc_resolved.proofs.names.Taken.bind_named.Goals as goal

pub returns-in-Once : goal.returns-in-Once
returns-in-Once c =
    let l = kind_label c.args.kind in let cs = children_forest c.args.children in let old = is_taken c.args.self.now in let new = is_taken c.bind_own.new.self in
    passes_once c.args.core_too l cs old new (λ x. own_scopes x l cs) (subst (λ b. BindsNamed b old new (λ x. own_scopes x l cs) (named_once l cs)) c.in-Once.is c.in_ok-bind_own.ensures)

pub returns-in-Again : goal.returns-in-Again
returns-in-Again c =
    let l = kind_label c.args.kind in let cs = children_forest c.args.children in let old = is_taken c.args.self.now in let new = is_taken c.bind_own.new.self in
    passes_again c.args.core_too l cs old new (λ x. own_scopes x l cs) (subst (λ b. BindsNamed b old new (λ x. own_scopes x l cs) (named_once l cs)) c.in-Again.is c.in_ok-bind_own.ensures)

pub returns-in-Taken : goal.returns-in-Taken
returns-in-Taken c =
    let l = kind_label c.args.kind in let cs = children_forest c.args.children in let old = is_taken c.args.self.now in let new = is_taken c.bind_own.new.self in
    λ good. subst (λ b. BindsNamed b old new (λ x. own_scopes x l cs) (named_once l cs)) c.in-Taken.is c.in_ok-bind_own.ensures
