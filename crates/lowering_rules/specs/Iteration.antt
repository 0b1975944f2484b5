-- Iterators and for-of (ECMA-262, 6th edition, 7.4 and 13.7.5). An iterator is open from behind a value on, and during a step it
-- isn't: where a step or its value fails, it isn't closed.
use Rattle.std.specs.Prelude.{Bool, true, false, List, [], ◌∷◌, ◌++◌, None, Some}
use Rattle.core_ast.specs.declared.parts.Primitive.TheVariants.{IterClose, IterStart, IterStep, IterValue}
use Rattle.core_ast.specs.declared.parts.ScopedName.{ScopedName}
use Rattle.core_ast.specs.declared.tree.CoreExpr.{CoreExpr}
use Rattle.core_ast.specs.declared.tree.CoreStat.{CoreStat}
use Rattle.core_ast.specs.declared.tree.CoreStat.TheVariants as stat
use Rattle.core_ast.specs.Made.{variable}
use Rattle.lowering_rules.specs.declared.naming.Iteration.{Iteration}
use Rattle.lowering_rules.specs.declared.patterns.ForOf.{ForOf}
use Rattle.lowering_rules.specs.Making.{differs, flag, number, scoped, set, stored, then, through, through_with, when}

-- ---- the operations of iterators

-- GetIterator (7.4.1)
abbrev pub iterator_of : CoreExpr → CoreExpr
iterator_of x = through_with x IterStart (number 0)

-- IteratorStep (7.4.5): the result object, or false
abbrev pub stepped : Iteration → CoreExpr
stepped i = stored i.result (through (variable i.iterator) IterStep)

abbrev pub has_result : Iteration → CoreExpr
has_result i = differs (variable i.result) (flag false)

-- IteratorValue (7.4.4)
abbrev pub value_of : Iteration → CoreExpr
value_of i = through (variable i.result) IterValue

-- IteratorClose (7.4.6); whether a throw is under way
abbrev pub closed : Iteration → Bool → CoreStat
closed i throws = stat.Do (through_with (variable i.iterator) IterClose (flag throws))

-- ---- closing: an open iterator is closed when the statements are left, by a throw, by a jump or return, or at their end

abbrev pub closed_by_throw : Iteration → List CoreStat
closed_by_throw i =
    when (variable i.is_open) (set i.is_open (flag false) ∷ closed i true ∷ []) ∷ stat.Throw (variable i.thrown) ∷ []

abbrev pub closing : Iteration → List CoreStat → CoreStat
closing i body = stat.TryFinally
    (stat.TryCatch body i.thrown [] (closed_by_throw i) ∷ [])
    (when (variable i.is_open) (closed i false ∷ []) ∷ [])

-- ---- for-of

-- the names of the head are uninitialized while the subject is evaluated (13.7.5.12)
abbrev pub begun : Iteration → List ScopedName → CoreExpr → List CoreStat
begun i dead subject = scoped dead (set i.iterator (iterator_of subject) ∷ [])

abbrev pub next_turn : Iteration → CoreExpr
next_turn i = then (then (stored i.is_open (flag false)) (stepped i)) (has_result i)

-- each turn has names of its own (13.7.5.13)
abbrev pub turn : Iteration → List ScopedName → List CoreStat → List CoreStat
turn i names body = set i.value (value_of i) ∷ set i.is_open (flag true) ∷ scoped names body

abbrev pub for_of : Iteration → ForOf → List CoreStat
for_of i f = begun i f.dead f.subject
    ++ set i.is_open (flag false)
    ∷ closing i (stat.Loop f.labels (Some (next_turn i)) None (turn i f.names f.turn) ∷ [])
    ∷ []
