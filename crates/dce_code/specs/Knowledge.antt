-- What the rules take for known.
use Rattle.std.specs.Prelude.{Bool, not, ◌&&◌, ◌||◌}
use Rattle.swc_ast.specs.Meaning.{is_unresolved}
use Rattle.swc_ast.specs.Run.{has_text}
use Rattle.swc_ast.specs.Tree.{Name}
use Rattle.swc_utils.specs.Globals.{unresolved}
use Rattle.dce_rules.specs.Shakes.{Shaker}
use Rattle.dce_uses.specs.Tables.{is_free, is_unused, is_held, is_abroad}
use Rattle.dce_code.specs.declared.known.Known.{Known}

-- names whose texts aren't retained
abbrev pub may_go : Known → Name → Bool
may_go k x = not (has_text x.text k.retained)

-- names declared below the top level, or all of them
abbrev pub is_inner : Known → Name → Bool
is_inner k x = k.top_level || not (is_held k.uses.now x)

-- Names that only declarations of functions speak of, or all of them. Assignments in such a declaration stand inside a block,
-- as which a function counts.
abbrev pub is_inward : Known → Name → Bool
is_inward k x = k.top_level || not (is_abroad k.uses.now x)

-- what goes
abbrev pub shaker : Known → Shaker
shaker k = record { mark = unresolved k.ctx; free = λ x. may_go k x && (is_free k.uses.now x && is_inner k x); unread = λ x. may_go k x && (is_unused k.uses.now x && (not (is_unresolved (unresolved k.ctx) x) && is_inward k x)); drops_imports = k.drops_imports }
