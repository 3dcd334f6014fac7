-- Names that are read, and literals: what their trees say of names.
use Rattle.std.proofs.Common.{◌≡◌, Bool, false, not, refl, sym, ap, ap₂, ◌∙◌}
use Rattle.std.specs.Prelude.{◌&&◌, ◌||◌, if◌then◌else◌, string_bytes}
use Rattle.swc_ast.specs.declared.literals.Lit.{Lit}
use Rattle.swc_ast.specs.declared.literals.Lit.TheVariants as lit
use Rattle.swc_ast.specs.declared.names.Ident.{Ident}
use Rattle.swc_ast.specs.Parts.{ident_name, ident_tree, lit_tree}
use Rattle.swc_ast.specs.Tree.{Name, Label, Read, StrLit, BoolLit, NullLit, NumLit, ε}
use Rattle.dce_uses.specs.declared.place.Place.{Place}
use Rattle.dce_uses.specs.declared.seen.Seen.{Seen}
use Rattle.dce_uses.specs.declared.table.Table.{Table}
use Rattle.dce_uses.specs.declared.tally.Fact.{Fact}
use Rattle.dce_uses.specs.Noted.{naming, declaring, is_counted, is_hiding, by_naming, noted}
use Rattle.dce_uses.specs.Sights.{Sees, IsWith}
use Rattle.dce_uses.specs.Tables.{Notes}
use Rattle.dce_uses.proofs.Adding.{or_false, and_false, nothing, said}
use Rattle.dce_uses.proofs.Seeing.{seen_at, seen_as}

-- what a node without children says, that declares nothing and is no function: what it says by naming
by_itself : (c a d h i : Bool) → (if c && false then false else (((a || (d && false)) || false) || ((h && false) || (h && (i && false))))) ≡ a
by_itself c a d h i =
    ap (λ b. if b then false else (((a || (d && false)) || false) || ((h && false) || (h && (i && false))))) (and_false c)
    ∙ ap₂ ◌||◌ (or_false (a || (d && false)) ∙ ap (λ b. a || b) (and_false d) ∙ or_false a) (ap₂ ◌||◌ (and_false h) (ap (λ b. h && b) (and_false i) ∙ and_false h))
    ∙ or_false a

read_says : (f : Fact) (x : Name) (p : Place) (n : Ident) → noted f x p (ident_tree n) ≡ by_naming f x p (Read (ident_name n))
read_says f x p n = by_itself (is_counted f) (by_naming f x p (Read (ident_name n))) (declaring f p (Read (ident_name n))) (is_hiding f) (not p.is_inside)

-- a literal names nothing
nothing_said : (f : Fact) (p : Place) (l : Label) → (if is_counted f && false then false else ((((naming f p l && false) || (declaring f p l && false)) || false) || ((is_hiding f && false) || (is_hiding f && (not p.is_inside && false))))) ≡ false
nothing_said f p l = by_itself (is_counted f) (naming f p l && false) (declaring f p l) (is_hiding f) (not p.is_inside) ∙ and_false (naming f p l)

literal_says : (f : Fact) (x : Name) (p : Place) (l : Lit) → noted f x p (lit_tree l) ≡ false
literal_says f x p (lit.Str n) = nothing_said f p (StrLit (string_bytes n.value))
literal_says f x p (lit.Bool n) = nothing_said f p (BoolLit n.value)
literal_says f x p (lit.Null n) = nothing_said f p NullLit
literal_says f x p (lit.Num n) = nothing_said f p (NumLit n.value)

pub name_noted : (u v : Table) (p : Place) (n : Ident) → Notes u v (λ f x. by_naming f x p (Read (ident_name n))) → Notes u v (λ f x. noted f x p (ident_tree n))
name_noted u v p n = said u v (λ f x. by_naming f x p (Read (ident_name n))) (λ f x. noted f x p (ident_tree n)) (λ f x. sym (read_says f x p n))

pub literal_noted : (u : Table) (p : Place) (l : Lit) → Notes u u (λ f x. noted f x p (lit_tree l))
literal_noted u p l = nothing u (λ f x. noted f x p (lit_tree l)) (λ f x. literal_says f x p l)

-- what is seen in them

pub name_seen : (n : Ident) (inside s : Seen) → inside.eval ≡ false → inside.arguments ≡ false → IsWith inside (Read (ident_name n)) s → Sees s (ident_tree n)
name_seen n inside s no_eval no_arguments sees = seen_as (ident_tree n) (Read (ident_name n)) ε s refl refl (seen_at (Read (ident_name n)) ε inside s (record { eval = no_eval; arguments = no_arguments }) sees)

pub literal_seen : (l : Lit) (s : Seen) → s.eval ≡ false → s.arguments ≡ false → Sees s (lit_tree l)
literal_seen (lit.Str n) s no_eval no_arguments = record { eval = no_eval; arguments = no_arguments }
literal_seen (lit.Bool n) s no_eval no_arguments = record { eval = no_eval; arguments = no_arguments }
literal_seen (lit.Null n) s no_eval no_arguments = record { eval = no_eval; arguments = no_arguments }
literal_seen (lit.Num n) s no_eval no_arguments = record { eval = no_eval; arguments = no_arguments }
