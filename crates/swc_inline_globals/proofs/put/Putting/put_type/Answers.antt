use Rattle.std.proofs.Common.{◌≡◌, false, [], ◌∷◌, option_map, sym, ap, ap₂, subst, ◌∙◌}
use Rattle.swc_ast.specs.Expressions.{unary_node}
use Rattle.swc_ast.specs.Parts.{ident_name}
use Rattle.swc_ast.specs.Views.{expr_tree}
use Rattle.swc_ast.proofs.Equations.{expr_tree-Ident, expr_tree-Lit}
use Rattle.swc_ast.specs.Tree.{StrLit, node, ε}
use Rattle.tree_put.specs.Puts.{become}
use Rattle.given_shield.specs.Shield.{shield}
use Rattle.given_rules.specs.Walk.{answer}
use Rattle.given_rules.specs.Worked.{put_text, put_expression}
use Rattle.given_globals.specs.Globals.{answers_of}
use Rattle.given_globals.specs.Rows.{found_of}
use Rattle.swc_inline_globals.specs.Slots.{slots}
use Rattle.swc_inline_globals.proofs.Forms.{is_name, other_name}
use Rattle.swc_inline_globals.proofs.Founds.{type_operator, other_enters, type_enters, type_put, type_given}
use Rattle.swc_inline_globals.proofs.put.Putting.put_type.Goals as goal

pub returns-then-not-is_type_of : goal.returns-then-not-is_type_of
returns-then-not-is_type_of c = λ p.
    let w = c.args.self.now in
    let n = c.args.n.now in
    other_enters w.lookup.now.settings (slots w.finals.now) p n.op n.span (expr_tree n.arg.value) (sym c.is_type_of.ensures ∙ c.if-not-is_type_of.true)

pub returns-in_default : goal.returns-in_default
returns-in_default c = λ p.
    let w = c.args.self.now in
    let s = w.lookup.now.settings in
    let n = c.args.n.now in
    type_enters s (slots w.finals.now) p n.span (expr_tree n.arg.value) (subst (λ x. is_name (expr_tree x) ≡ false) c.deref.ensures (other_name c.deref.result.now c.in_default.not-Ident))
    ∙ ap (λ o. answer (put_expression (answers_of s) shield (slots w.finals.now) p (unary_node o n.span (expr_tree n.arg.value)))) (sym (type_operator n.op (sym c.is_type_of.ensures ∙ c.if-not-is_type_of.false)))

pub returns-in_default-found : goal.returns-in_default-found
returns-in_default-found c = λ p.
    let w = c.args.self.now in
    let s = w.lookup.now.settings in
    let n = c.args.n.now in
    let x = c.in-Ident.name in
    let f = ap expr_tree (sym c.deref.ensures ∙ c.in-Ident.is) ∙ expr_tree-Ident x in
    let d = c.found.ensures ∙ ap (λ y. (answers_of s).found (expr_tree y)) c.deref-2.ensures ∙ ap (answers_of s).found f in
    let whole = ap answer (type_put s (slots w.finals.now) p n.span x ∙ ap₂ (λ o t. put_expression (answers_of s) shield (slots w.finals.now) p (unary_node o n.span t)) (sym (type_operator n.op (sym c.is_type_of.ensures ∙ c.if-not-is_type_of.false))) (sym f)) in
    type_given s c.found.result ((answers_of s).text (ident_name x)) (n.span ∷ []) c.in_default-found.not-Nothing
    ∙ ap (λ g. answer (put_text (answers_of s) shield g ((answers_of s).text (ident_name x)) (n.span ∷ []))) d
    ∙ whole

pub returns-in_default-type_text : goal.returns-in_default-type_text
returns-in_default-type_text c = λ p.
    let w = c.args.self.now in
    let s = w.lookup.now.settings in
    let n = c.args.n.now in
    let x = c.in-Ident.name in
    let f = ap expr_tree (sym c.deref.ensures ∙ c.in-Ident.is) ∙ expr_tree-Ident x in
    let d = c.found.ensures ∙ ap (λ y. (answers_of s).found (expr_tree y)) c.deref-2.ensures ∙ ap (answers_of s).found f in
    let whole = ap answer (type_put s (slots w.finals.now) p n.span x ∙ ap₂ (λ o t. put_expression (answers_of s) shield (slots w.finals.now) p (unary_node o n.span t)) (sym (type_operator n.op (sym c.is_type_of.ensures ∙ c.if-not-is_type_of.false))) (sym f)) in
    ap₂ (λ g o. answer (put_text (answers_of s) shield g o (n.span ∷ []))) (ap found_of (sym c.in-Nothing.is) ∙ d) (ap (option_map (λ t. t.now)) (sym c.in_default-type_text.is) ∙ c.type_text.ensures)
    ∙ whole

pub returns : goal.returns
returns c = λ p.
    let w = c.args.self.now in
    let s = w.lookup.now.settings in
    let n = c.args.n.now in
    let x = c.in-Ident.name in
    let f = ap expr_tree (sym c.deref.ensures ∙ c.in-Ident.is) ∙ expr_tree-Ident x in
    let d = c.found.ensures ∙ ap (λ y. (answers_of s).found (expr_tree y)) c.deref-2.ensures ∙ ap (answers_of s).found f in
    let whole = ap answer (type_put s (slots w.finals.now) p n.span x ∙ ap₂ (λ o t. put_expression (answers_of s) shield (slots w.finals.now) p (unary_node o n.span t)) (sym (type_operator n.op (sym c.is_type_of.ensures ∙ c.if-not-is_type_of.false))) (sym f)) in
    ap become (expr_tree-Lit _ ∙ ap (λ t. node (StrLit t) (n.span ∷ []) ε) c.in_ok-from_str.ensures.ok)
    ∙ ap₂ (λ g o. answer (put_text (answers_of s) shield g o (n.span ∷ []))) (ap found_of (sym c.in-Nothing.is) ∙ d) (ap (option_map (λ t. t.now)) (sym c.in-Some.is) ∙ c.type_text.ensures)
    ∙ whole
