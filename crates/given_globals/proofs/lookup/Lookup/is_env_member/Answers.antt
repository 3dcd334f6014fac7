use Rattle.std.proofs.Common.{◌≡◌, false, bytes_eq, codes, refl, sym, ap, subst, ◌∙◌}
use Rattle.swc_ast.specs.Expressions.{member_node}
use Rattle.swc_ast.specs.Views.{expr_tree}
use Rattle.swc_ast.proofs.Equations.{expr_tree-Ident}
use Rattle.swc_pass.specs.Inlined.{is_nothing, by_expression}
use Rattle.given_shield.specs.Names.{mark_of}
use Rattle.given_globals.specs.Globals.{given_of}
use Rattle.given_globals.proofs.Forms.{is_name, other_name}
use Rattle.given_globals.proofs.Founds.{none_told, is_none_nothing, env_no_name, env_dot, and_stops, and_goes}
use Rattle.given_globals.proofs.lookup.Lookup.is_env_member.Goals as goal

pub returns-then-is_none-2 : goal.returns-then-is_none-2
returns-then-is_none-2 c =
    let s = c.args.self.now.settings in
    let n = c.args.n.now in
    let e = c.requires ∙ ap (member_node expr_tree n.span n.obj.value) c.in-Ident.is in
    let f = ap expr_tree (sym c.deref.ensures ∙ c.in-Ident-deref.is) ∙ expr_tree-Ident c.in-Ident-deref.object in
    none_told c.global.result c.is_none-then-is_none-2.result c.is_none-then-is_none-2.ensures ∙ is_none_nothing s c.global.result ∙ ap is_nothing c.global.ensures
    ∙ and_goes _ _ _ (sym c.is_unresolved.ensures ∙ c.if-is_unresolved.true)
    (and_goes _ _ _ (ap (λ t. bytes_eq t (codes "process")) (sym c.as_str.ensures.value) ∙ sym c.eq.ensures ∙ c.if-eq.true)
    (and_goes _ _ _ (ap (λ t. bytes_eq t (codes "env")) (sym c.as_str-then-eq.ensures.value) ∙ sym c.eq-then-eq.ensures ∙ c.if-eq-2.true)
    (and_goes _ _ _ (sym (is_none_nothing s c.expression.result ∙ ap is_nothing c.expression.ensures) ∙ sym (none_told c.expression.result c.is_none.result c.is_none.ensures) ∙ c.if-is_none.true)
    (and_goes _ _ _ (ap (λ x. is_nothing (by_expression (given_of s) (mark_of s.mark) (expr_tree x))) (sym c.deref-then-is_none.ensures) ∙ sym (is_none_nothing s c.expression-then-is_none.result ∙ ap is_nothing c.expression-then-is_none.ensures) ∙ sym (none_told c.expression-then-is_none.result c.is_none-then-is_none.result c.is_none-then-is_none.ensures) ∙ c.if-is_none-2.true) refl))))
    ∙ env_dot s (expr_tree c.args.e.now) n.span n.obj.value c.in-Ident.key c.in-Ident-deref.object e f

pub returns-else-eq : goal.returns-else-eq
returns-else-eq c =
    let s = c.args.self.now.settings in
    let n = c.args.n.now in
    let e = c.requires ∙ ap (member_node expr_tree n.span n.obj.value) c.in-Ident.is in
    let f = ap expr_tree (sym c.deref.ensures ∙ c.in-Ident-deref.is) ∙ expr_tree-Ident c.in-Ident-deref.object in
    c.if-eq.false
    ∙ and_goes _ _ _ (sym c.is_unresolved.ensures ∙ c.if-is_unresolved.true) (and_stops _ _ (ap (λ t. bytes_eq t (codes "process")) (sym c.as_str.ensures.value) ∙ sym c.eq.ensures ∙ c.if-eq.false))
    ∙ env_dot s (expr_tree c.args.e.now) n.span n.obj.value c.in-Ident.key c.in-Ident-deref.object e f

pub returns-else-is_unresolved : goal.returns-else-is_unresolved
returns-else-is_unresolved c =
    let s = c.args.self.now.settings in
    let n = c.args.n.now in
    let e = c.requires ∙ ap (member_node expr_tree n.span n.obj.value) c.in-Ident.is in
    let f = ap expr_tree (sym c.deref.ensures ∙ c.in-Ident-deref.is) ∙ expr_tree-Ident c.in-Ident-deref.object in
    c.if-is_unresolved.false
    ∙ and_stops _ _ (sym c.is_unresolved.ensures ∙ c.if-is_unresolved.false)
    ∙ env_dot s (expr_tree c.args.e.now) n.span n.obj.value c.in-Ident.key c.in-Ident-deref.object e f

pub returns-in_default : goal.returns-in_default
returns-in_default c =
    let s = c.args.self.now.settings in
    let n = c.args.n.now in
    let e = c.requires ∙ ap (member_node expr_tree n.span n.obj.value) c.in-Ident.is in
    env_no_name s (expr_tree c.args.e.now) n.span n.obj.value c.in-Ident.key e (subst (λ x. is_name (expr_tree x) ≡ false) c.deref.ensures (other_name c.deref.result.now c.in_default.not-Ident))
