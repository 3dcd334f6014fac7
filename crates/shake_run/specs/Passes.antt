-- What the pass may answer that a command line asks for.
use Rattle.std.specs.Prelude.{ℕ, true, false, List, None}
use Rattle.swc_ast.specs.Tree.{Text}
use Rattle.swc_ast.specs.declared.names.Mark.{Mark}
use Rattle.swc_pass.specs.Pass.{PassSpec}
use Rattle.carry_rules.specs.Carry.{constants, inlines}
use Rattle.carry_proofs.specs.Propagation.{propagation_spec}
use Rattle.swc_expr.specs.Simplified.{simplify_spec}
use Rattle.swc_branch.specs.Removed.{remove_spec}
use Rattle.swc_dce.specs.Shaken.{Told, shake_spec}
use Rattle.swc_json_parse.specs.Answers.{Parsed}
use Rattle.swc_optimization.specs.Optimizer.{optimize_spec}
use Rattle.swc_optimization.specs.Simplifier.{rounds_spec}
use Rattle.shake_options.specs.declared.options.Options.{Options}
use Rattle.shake_options.specs.declared.options.PassName.{PassName}
use Rattle.shake_options.specs.declared.options.PassName.TheVariants.{Expr, Branch, Dce, Simplify, Optimize, Const, Inline, Json}

-- what the options tell the tree shaker of modules whose unresolved names bear this mark; names of these texts stay
abbrev pub told_by : Mark → Options → List Text → Told
told_by mark o retained = record { mark = mark; top_level = o.top_level; retained = retained; keeps_imports = o.preserve_imports_with_side_effects }

-- literals that are JSON, of so many bytes at least, become calls
abbrev pub json_spec : ℕ → PassSpec
json_spec least = record { mark = None; loads = true; lowers = false; answers = Parsed least }

-- the pass of this name: what it is told, how many rounds it has at most, and how many bytes of JSON it takes at least
abbrev pub pass_of : PassName → Told → ℕ → ℕ → PassSpec
pass_of Expr told most least = simplify_spec told.mark
pass_of Branch told most least = remove_spec told.mark
pass_of Dce told most least = shake_spec told
pass_of Simplify told most least = rounds_spec told most
pass_of Optimize told most least = optimize_spec told most
pass_of Const told most least = propagation_spec constants
pass_of Inline told most least = propagation_spec inlines
pass_of Json told most least = json_spec least

-- the pass that these options name
abbrev pub pass_by : Mark → Options → List Text → PassSpec
pass_by mark o retained = pass_of o.pass (told_by mark o retained) o.max_rounds o.min_cost
