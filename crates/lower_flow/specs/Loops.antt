-- Parts of loops.
use Rattle.std.specs.Prelude.{ℕ, List, [], ◌∷◌, ◌++◌, Option}
use Rattle.core_ast.specs.declared.parts.ScopedName.{ScopedName}
use Rattle.core_ast.specs.declared.parts.Var.{Var}
use Rattle.core_ast.specs.declared.tree.CoreStat.{CoreStat}
use Rattle.lowering_rules.specs.declared.naming.Iteration.{Iteration}
use Rattle.lowering_rules.specs.Iteration.{for_of}
use Rattle.lowering_rules.specs.declared.statement_rules.statements.ForTurns.{ForTurns}
use Rattle.lowering_rules.specs.statement_rules.Statements.{exit_label}
use Rattle.module_lowering.specs.Expressions.{optional, valued}
use Rattle.module_lowering.specs.Lowering.{Lowering, asks, each_by, option, pure, within, ◌>>=◌}
use Rattle.module_lowering.specs.Names.{scoped_names}
use Rattle.module_lowering.specs.Nodes.{Expressed, ForTargeted, Stated}
use Rattle.module_lowering.specs.Statements.{dead_name, in_subject, stand_ins, under}
use Rattle.lower_flow.specs.declared.for_of.Subject.{Subject}

-- what the turns of a `for` that begins at a place do
abbrev pub for_turns : ℕ → Option Expressed → Option Expressed → Stated → Lowering ForTurns
for_turns at test update body = do
  t ← option (optional test)
  u ← option (optional update)
  ss ← under body
  pure (record { label = exit_label at; test = t; update = u; body = ss })

-- ---- for-of, with these names in its head

abbrev pub begun_with : List ScopedName → Expressed → Lowering Subject
begun_with names subject = do
  dead ← each_by dead_name names
  x ← within (in_subject dead) (valued subject)
  pure (record { dead = stand_ins names dead; value = x })

abbrev pub turn_of : ForTargeted → Stated → Var → Lowering (List CoreStat)
turn_of target body v = do
  bound ← target.bound v
  ss ← under body
  pure (bound ++ ss)

abbrev pub for_of_made : ℕ → Iteration → List ScopedName → Subject → List CoreStat → List CoreStat
for_of_made at i names subject turn = for_of i (record {
  dead = subject.dead;
  subject = subject.value;
  labels = exit_label at ∷ [];
  names = names;
  turn = turn;
})

abbrev pub for_of_with : ℕ → Iteration → ForTargeted → Expressed → Stated → Lowering (List CoreStat)
for_of_with at i target subject body = do
  names ← asks (scoped_names target.lexicals)
  begun ← begun_with names subject
  turn ← turn_of target body i.value
  pure (for_of_made at i names begun turn)
