-- A script as a core without anything that scripts don't have (5.1 edition, 10.5 and 14): one part, with the names that the script
-- declares, whose functions are made before its statements run.
use Rattle.std.specs.Prelude.{List, Some, [], false, map, true, ◌++◌, ◌∷◌}
use Rattle.es5_ast.specs.declared.tree.Script.{Script}
use Rattle.script_lowering.specs.declared.sites.Sites.{Sites}
use Rattle.script_lowering.specs.Expressions.{closure}
use Rattle.script_lowering.specs.Reading.{Taken, nothing_gathered}
use Rattle.script_lowering.specs.Nodes.{stat_read}
use Rattle.script_lowering.specs.Statements.{all_stats}
use Rattle.core_ast.specs.Made.{act, linked}
use Rattle.core_ast.specs.declared.parts.CoreOp.TheVariants as op
use Rattle.core_ast.specs.declared.parts.ScopedName.{ScopedName}
use Rattle.core_ast.specs.declared.parts.Var.{Var}
use Rattle.core_ast.specs.declared.tree.CoreStat.{CoreStat}
use Rattle.core_ast.specs.declared.tree.CoreStat.TheVariants as stat
use Rattle.core_ast.specs.declared.whole.Core.{Core}
use Rattle.core_ast.specs.declared.whole.CorePart.{CorePart}
use Rattle.core_ast.specs.declared.whole.Declared.{Declared}

abbrev pub script_name : Var → ScopedName
script_name x = record { var = x; shared = false; mutable = true }

abbrev pub made_at_start : Declared → CoreStat
made_at_start d = stat.Do (linked (closure d.function) (act (op.Init d.var)))

abbrev pub part_of : Taken (List CoreStat) → CorePart
part_of t = record {
  names = map (λ d. script_name d.var) t.after.declared ++ map script_name t.after.vars;
  instantiate = map made_at_start t.after.declared;
  body = t.value;
}

abbrev pub core_with : Taken (List CoreStat) → Core
core_with t = record {
  functions = t.after.functions;
  parts = part_of t ∷ [];
  order = 0 ∷ [];
  fresh = record { hints = map (λ n. Some n) t.after.names };
}

abbrev pub core_of : Sites → Script → Core
core_of sites script = core_with (all_stats (map (stat_read sites) script.statements) nothing_gathered)
