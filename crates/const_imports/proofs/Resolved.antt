-- What is wrong with a module, by a table of its locals.
use Rattle.std.proofs.Common.{◌≡◌, ◌⊎◌, inl, inr, Bool, List, [], ◌++◌, Option, Some, None, sym, ap, ap₂, ◌∙◌}
use Rattle.swc_ast.specs.Tree.{Text, Forest}
use Rattle.swc_ast.specs.declared.errors.PassError.{PassError}
use Rattle.swc_ast.specs.declared.errors.PassError.TheVariants as error
use Rattle.const_imports.specs.Faults.{Has, import_faults, joined, each_faults, faults}
use Rattle.const_imports.specs.Locals.{locals}
use Rattle.const_imports.specs.Views.{locals_of, of_text, group_of, roles_of, told, first_of, fault_of, error_fault, IsFirst}
use Rattle.const_imports.specs.declared.faults.Fault as rust_fault
use Rattle.const_imports.specs.declared.imports.Local as rust
use Rattle.const_imports.specs.declared.table.Locals.{Locals}
use Rattle.const_imports.proofs.Firsts.{tells, none_first}
use Rattle.const_imports.proofs.Grouped.{roles_are}

module _ (is_given : Text → Bool) (has : Has) (items : Forest) (t : Locals) (ls : List rust.Local) (e : locals_of ls ≡ locals is_given items) (h : (y : Text) → group_of t y ≡ of_text y (locals_of ls)) where
  same_faults : import_faults has (locals_of ls) ++ joined (each_faults has (roles_of t) items) ≡ faults is_given has items
  same_faults = ap₂ (λ xs r. import_faults has xs ++ joined (each_faults has r items)) e (roles_are t (locals is_given items) (λ y. h y ∙ ap (of_text y) e))

  pub refused : (o : Option rust_fault.Fault) (f : rust_fault.Fault) (r : PassError) → told o ≡ first_of (import_faults has (locals_of ls) ++ joined (each_faults has (roles_of t) items)) → o ≡ Some f → (r ≡ error.OutOfMemory) ⊎ (error_fault r ≡ Some (fault_of f)) → (r ≡ error.OutOfMemory) ⊎ IsFirst (faults is_given has items) r
  refused o f r first is (inl m) = inl m
  refused o f r first is (inr m) = inr (tells (faults is_given has items) f r (sym (ap told is) ∙ first ∙ ap first_of same_faults) m)

  pub faultless : (o : Option rust_fault.Fault) → told o ≡ first_of (import_faults has (locals_of ls) ++ joined (each_faults has (roles_of t) items)) → o ≡ None → faults is_given has items ≡ []
  faultless o first is = none_first (faults is_given has items) (sym (ap told is) ∙ first ∙ ap first_of same_faults)
