-- To do the same is an order on modules: it goes from one to the next.
use Rattle.std.proofs.Common.{ℕ, Bool, true, false, refl, ap, ◌∙◌}
use Rattle.swc_ast.specs.Tree.{Tree}
use Rattle.swc_ast.specs.Run.{counted, Same}

pub same_itself : (mark : ℕ) (loads : Bool) (t : Tree) → Same mark loads t t
unfolding Same
same_itself mark loads t n d w calls o e = (o, e, refl)

pub same_trans : (mark : ℕ) (loads : Bool) (t u v : Tree) → Same mark loads t u → Same mark loads u v → Same mark loads t v
unfolding Same
same_trans mark loads t u v h i n d w calls o e =
    let p = h n d w calls o e in
    let q = i n d w calls p.0 p.1 in
    (q.0, q.1, q.2 ∙ p.2)

-- where loads count, the same is seen where they do not
pub same_weaker : (mark : ℕ) (t u : Tree) → Same mark true t u → Same mark false t u
unfolding Same
same_weaker mark t u h n d w calls o e =
    let p = h n d w calls o e in
    (p.0, p.1, ap (counted false) p.2)
