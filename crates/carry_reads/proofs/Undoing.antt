-- Tables that become what they were.
use Rattle.std.proofs.Common.{◌≡◌, ℕ, Bool, Option, Some, None, refl, sym, ap, ◌∙◌, arith}
use Rattle.std.specs.Prelude.{is_some, option_map, if◌then◌else◌}
use Rattle.std.proofs.Math.Seq.{drop-length}
use Rattle.swc_ast.specs.Tree.{Name, same_name}
use Rattle.carry_tables.specs.Tables.{item_of, height, item_before, undone, Keeps, Rewinds}
use Rattle.carry_tables.specs.declared.scoped.Scoped.{Scoped}
use Rattle.carry_reads.specs.Fronts.{names_in}

-- an item in front of no changes
item_now : (u : Scoped) (x : Name) → item_before u (height u) x ≡ item_of u x
item_now u x = ap (λ cs. undone cs (item_of u x) x) (drop-length u.log.items)

pub keeps_itself : (u : Scoped) → Keeps u u
keeps_itself u = record { higher = omega arith; before = λ h i x. refl }

pub keeps_on : {u v w : Scoped} → Keeps u v → Keeps v w → Keeps u w
keeps_on {u} {v} {w} a b = record { higher = omega (arith, a.higher, b.higher); before = λ h i x. b.before h (omega (arith, a.higher, i)) x ∙ a.before h i x }

-- a table that was made what it was
pub undone_items : (u v w : Scoped) → Keeps u v → Rewinds (height u) v w → (x : Name) → item_of w x ≡ item_of u x
undone_items u v w k r x =
    let h : ℕ = height u in
    sym (item_now w x)
    ∙ ap (λ n. item_before w n x) (r.lower k.higher)
    ∙ r.before h (omega arith) k.higher x
    ∙ k.before h (omega arith) x
    ∙ item_now u x

pub undone_keeps : (u v w : Scoped) → Keeps u v → Rewinds (height u) v w → Keeps u w
undone_keeps u v w k r = record { higher = omega (arith, r.lower k.higher); before = λ h i x. r.before h i k.higher x ∙ k.before h i x }

-- a changed item is an item
pub named_alike : {A : Type 0} (b : Bool) (o : Option A) (w : A) → is_some (option_map (λ t. if b then w else t) o) ≡ is_some o
named_alike b None w = refl
named_alike b (Some t) w = refl

pub changed_names : (u w : Scoped) (y : Name) (n : ℕ) → ((x : Name) → item_of w x ≡ option_map (λ t. if same_name y x then n else t) (item_of u x)) → (x : Name) → names_in w x ≡ names_in u x
changed_names u w y n made x = ap is_some (made x) ∙ named_alike (same_name y x) (item_of u x) n
