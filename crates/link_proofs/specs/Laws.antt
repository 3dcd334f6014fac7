-- What is proved of modules in which names, or values, are put for names.
use Rattle.std.specs.Prelude.{ℕ, Bool, List}
use Rattle.swc_ast.specs.declared.Span.{Span}
use Rattle.swc_ast.specs.Tree.{Module, Tree, node, Forest}
use Rattle.swc_ast.specs.Run.{Same}
use Rattle.link_proofs.specs.Links.{Links, Proper, GoodWhole, Puts, PutsAll, Reexports}

-- where names, or values, are put for names that stand for them, a module or a script does the same
abbrev pub NamesArePut : Type 0
NamesArePut = (loads : Bool) (L : Links) (mark : ℕ) (t u : Tree) → Proper L mark → GoodWhole L t → Puts L t u → Same mark loads t u

-- so does a module whose exports name what names stand for
abbrev pub NamesAreExported : Type 0
NamesAreExported = (loads : Bool) (L : Links) (mark : ℕ) (ss rs : List Span) (ts us vs : Forest) → Proper L mark → GoodWhole L (node Module ss ts) → Reexports L ts us → PutsAll L us vs → Same mark loads (node Module ss ts) (node Module rs vs)
