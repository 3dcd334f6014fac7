-- What is left where a list stood in a node of a wrapper, by the layers of its items.
use Rattle.std.specs.Prelude.{◌+◌, ◌≡◌}
use Rattle.swc_ast.specs.Tree.{Body, Tree, node, Forest}
use Rattle.dce_layer_proofs.specs.Frames.{Wrapper}
use Rattle.dce_layer_proofs.specs.Layers.{items, live}
use Rattle.dce_items.specs.Described.{layered}
use Rattle.dce_items.specs.declared.inside.Inside.{Inside}

-- Of a list each of whose items has a layer, what stays is left.
abbrev pub Remains : Inside → Forest → Forest → Type 0
Remains g ts us = items (layered ts g.layers.items) ≡ ts → us ≡ live (g.rounds + 1) (layered ts g.layers.items)

-- the body of a wrapper's function
abbrev pub wrapped_body : Wrapper → Forest → Tree
wrapped_body w ts = node Body w.body ts

-- The same where the list stands in a node of a wrapper.
abbrev pub RemainsIn : (Wrapper → Forest → Tree) → Inside → Tree → Tree → Type 0
RemainsIn form g t u = (w : Wrapper) (ts : Forest) → t ≡ form w ts → items (layered ts g.layers.items) ≡ ts → u ≡ form w (live (g.rounds + 1) (layered ts g.layers.items))
