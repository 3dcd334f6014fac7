use Rattle.std.proofs.Common.{◌++◌, ◌∷◌, [], Some, ap, sym, ◌∙◌, bytes_eq}
use Rattle.std.proofs.lemmas.Map.Text.{hash_map_updates_str}
use Rattle.tree_captures.specs.Views.{contexts_of}
use Rattle.tree_captures.proofs.Tables.{after, text_added, context_added}
use Rattle.tree_captures.proofs.table.Table.bind.Goals as goal

pub returns-in_default-clause-texts : goal.returns-in_default-clause-texts
returns-in_default-clause-texts c = λ t. text_added (bytes_eq c.args.x.text.now t) _ _ _ (hash_map_updates_str c.args.x.text.now c.args.self.now.known c.insert.new.self (Some _) c.in_ok-before.ensures.updates t)

pub returns-in_default-clause-names : goal.returns-in_default-clause-names
returns-in_default-clause-names c = λ y. context_added c.args.self.now.known c.args.x.text.now y.text y.context c.args.x.context _ _
    (ap (λ ks. c.args.x.context ∷ ks) c.new.ensures.items ∙ ap (λ o. contexts_of o ++ c.args.x.context ∷ []) (sym c.in_default.is ∙ c.in_ok-before.ensures.old))
    (hash_map_updates_str c.args.x.text.now c.args.self.now.known c.insert.new.self (Some _) c.in_ok-before.ensures.updates y.text)

pub returns-in_ok-insert-clause-texts : goal.returns-in_ok-insert-clause-texts
returns-in_ok-insert-clause-texts c = λ t. text_added (bytes_eq c.args.x.text.now t) _ _ _ (after c.args.self.now.known c.insert.new.self c.insert-in-Some.new.self c.args.x.text.now t _ _ c.in_ok-before.ensures.updates c.in_ok-insert.ensures.updates)

pub returns-in_ok-insert-clause-names : goal.returns-in_ok-insert-clause-names
returns-in_ok-insert-clause-names c = λ y. context_added c.args.self.now.known c.args.x.text.now y.text y.context c.args.x.context _ _
    (ap (λ ks. c.in-Some.before.first ∷ ks) c.in_ok-push.ensures.items ∙ ap (λ o. contexts_of o ++ c.args.x.context ∷ []) (sym c.in-Some.is ∙ c.in_ok-before.ensures.old))
    (after c.args.self.now.known c.insert.new.self c.insert-in-Some.new.self c.args.x.text.now y.text _ _ c.in_ok-before.ensures.updates c.in_ok-insert.ensures.updates)
