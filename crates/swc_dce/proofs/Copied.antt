-- Copies of configurations.
use Rattle.std.proofs.Common.{◌≡◌, List, [], ◌∷◌, refl, ap₂}
use Rattle.std.specs.List.{AllZip}
use Rattle.std.specs.Prelude.{map, string_bytes}
use Rattle.swc_dce.specs.Configured.{IsCopy}
use Rattle.swc_dce.specs.declared.config.Config.{Config}

-- what is equal place by place under a function
maps_same : {A B : Type 0} (f : A → B) (xs ys : List A) → AllZip (λ x y. f y ≡ f x) xs ys → map f ys ≡ map f xs
maps_same f [] [] h = refl
maps_same f [] (y ∷ ys) h = absurd h
maps_same f (x ∷ xs) [] h = absurd h
maps_same f (x ∷ xs) (y ∷ ys) h = ap₂ (λ a bs. a ∷ bs) h.0 (maps_same f xs ys h.1)

pub copied : (c d : Config) → d.module_mark ≡ c.module_mark → d.top_level ≡ c.top_level → AllZip (λ x y. string_bytes y ≡ string_bytes x) c.top_retain.items d.top_retain.items → d.preserve_imports_with_side_effects ≡ c.preserve_imports_with_side_effects → IsCopy c d
copied c d mark top texts imports = record { module_mark = mark; top_level = top; top_retain = maps_same string_bytes c.top_retain.items d.top_retain.items texts; imports = imports }
