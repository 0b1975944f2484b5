-- Statements and declarations (ECMA-262, 6th edition, 13). Each gives a list of statements, or one.
use Rattle.std.specs.Prelude.{ℕ, ◌+◌, ◌*◌, Bool, false, cond, List, [], ◌∷◌, ◌++◌, map, Option, None, Some}
use Rattle.core_ast.specs.declared.parts.CoreHead.TheVariants as head
use Rattle.core_ast.specs.declared.parts.CoreOp.TheVariants as op
use Rattle.core_ast.specs.declared.parts.Label.{Label}
use Rattle.core_ast.specs.declared.parts.ScopedName.{ScopedName}
use Rattle.core_ast.specs.declared.parts.Unary.TheVariants.{Not}
use Rattle.core_ast.specs.declared.parts.Var.{Var}
use Rattle.core_ast.specs.declared.tree.CoreCase.{CoreCase, roll-CoreCase}
use Rattle.core_ast.specs.declared.tree.CoreExpr.{CoreExpr}
use Rattle.core_ast.specs.declared.tree.CoreStat.{CoreStat}
use Rattle.core_ast.specs.declared.tree.CoreStat.TheVariants as stat
use Rattle.core_ast.specs.declared.whole.Declared.{Declared}
use Rattle.core_ast.specs.Lawful.{is_empty}
use Rattle.core_ast.specs.Made.{act, expression, linked, undefined, variable}
use Rattle.lowering_rules.specs.declared.statement_rules.statements.ForLoop.{ForLoop}
use Rattle.lowering_rules.specs.declared.statement_rules.statements.ForTurns.{ForTurns}
use Rattle.lowering_rules.specs.declared.statement_rules.statements.Handler.{Handler}
use Rattle.lowering_rules.specs.declared.statement_rules.statements.SwitchParts.{SwitchParts}
use Rattle.lowering_rules.specs.Classes.{closure}
use Rattle.lowering_rules.specs.Making.{initialize, scoped, set, then, when}

-- ---- blocks: BlockDeclarationInstantiation (13.2.14) initializes the functions before any statement runs

abbrev pub hoisted : Declared → CoreStat
hoisted d = initialize d.var (closure d.function)

abbrev pub block : List ScopedName → List Declared → List CoreStat → List CoreStat
block names functions body = scoped names (map hoisted functions ++ body)

-- ---- declarations

-- `let x;` initializes with undefined (13.3.1.4)
unfoldable pub lexical : Var → Option CoreExpr → CoreStat
lexical x None = initialize x undefined
lexical x (Some e) = initialize x e

-- `var x;` does nothing (13.3.2.4)
unfoldable pub assigned_var : Var → Option CoreExpr → List CoreStat
assigned_var x None = []
assigned_var x (Some e) = set x e ∷ []

-- a class declaration (14.5.15): the statements that make the class, and then its outer name
abbrev pub class_declared : Var → Var → List CoreStat → List CoreStat
class_declared x class stats = stats ++ initialize x (variable class) ∷ []

-- ---- labels: those of the statement that begins at this place, for a break out of it, and for a break out of its body alone

abbrev pub exit_label : ℕ → Label
exit_label at = record { 0 = 2 * at }

abbrev pub body_label : ℕ → Label
body_label at = record { 0 = 2 * at + 1 }

-- 13.8, 13.9: to the next turn of the loop with this label, or out of the statement with it
abbrev pub jump : Bool → Label → CoreStat
jump goes_on l = stat.Jump goes_on (Some l)

-- 13.13, of a statement that is no loop
abbrev pub labelled : Label → List CoreStat → CoreStat
labelled l body = stat.Labelled l body

-- ---- if (13.6): the first case whose test holds, and else the last, which has none

abbrev pub branch : CoreExpr → List CoreStat → CoreCase
branch test body = roll-CoreCase (record { test = Some test; body = body })

unfoldable pub otherwise : Option (List CoreStat) → List CoreCase
otherwise None = []
otherwise (Some body) = roll-CoreCase (record { test = None; body = body }) ∷ []

abbrev pub if_chain : CoreCase → List CoreCase → Option (List CoreStat) → CoreStat
if_chain first more other = stat.If (first ∷ more ++ otherwise other)

-- ---- loops (13.7)

abbrev pub negated : CoreExpr → CoreExpr
negated x = linked x (act (op.Unary Not))

-- 13.7.3.6
abbrev pub while_loop : Label → CoreExpr → List CoreStat → CoreStat
while_loop l test body = stat.Loop (l ∷ []) (Some test) None body

-- 13.7.2.6: the test stands behind the body, and a continue leaves the body alone
abbrev pub do_while : Label → Label → List CoreStat → CoreExpr → CoreStat
do_while exit inside body test =
    stat.Loop (exit ∷ []) None None (labelled inside body ∷ when (negated test) (jump false exit ∷ []) ∷ [])

-- CreatePerIterationEnvironment (13.7.4.9): before the first turn and behind each, the let names of the head get bindings of their
-- own; those of a const don't (13.7.4.7)
abbrev pub turn_names : List ScopedName → List Var
turn_names [] = []
turn_names (n ∷ ns) = cond n.mutable (n.var ∷ turn_names ns) (turn_names ns)

abbrev pub copied : List Var → CoreExpr
copied xs = expression None (head.Copy xs) []

unfoldable pub followed : CoreExpr → Option CoreExpr → CoreExpr
followed x None = x
followed x (Some y) = then x y

abbrev pub turns : ForTurns → Option CoreExpr → CoreStat
turns t update = stat.Loop (t.label ∷ []) t.test update t.body

abbrev pub copying_turns : ForTurns → List Var → CoreStat
copying_turns t xs = turns t (Some (followed (copied xs) t.update))

abbrev pub own_turns : ForTurns → List Var → List CoreStat
own_turns t xs = stat.Do (copied xs) ∷ copying_turns t xs ∷ []

abbrev pub all_turns : ForTurns → List Var → List CoreStat
all_turns t xs = cond (is_empty xs) (turns t t.update ∷ []) (own_turns t xs)

-- 13.7.4.7
abbrev pub for_loop : ForLoop → List CoreStat
for_loop f = scoped f.names (f.first ++ all_turns f.turns (turn_names f.names))

-- ---- switch (13.12.11): the subject is evaluated outside the scope of the cases, and their functions are there before any test

abbrev pub chosen : Var → List ScopedName → List Declared → List CoreCase → List CoreStat
chosen x names functions cases = block names functions (stat.Switch (variable x) cases ∷ [])

abbrev pub switch : SwitchParts → List CoreStat
switch s = set s.kept s.subject ∷ labelled s.label (chosen s.kept s.names s.functions s.cases) ∷ []

-- ---- return (13.10) and throw (13.14): a return hands its value out as it is, in constructors and generators too

unfoldable pub returned : Option CoreExpr → CoreStat
returned None = stat.Return undefined
returned (Some x) = stat.Return x

-- ---- try (13.15.8): what is thrown is bound to the pattern before the handler's block is entered (13.15.7)

abbrev pub handled : List CoreStat → Handler → CoreStat
handled stats h = stat.TryCatch stats h.thrown h.names (h.bound ++ h.block)

unfoldable pub caught : List CoreStat → Option Handler → List CoreStat
caught stats None = stats
caught stats (Some h) = handled stats h ∷ []

unfoldable pub ended : List CoreStat → Option (List CoreStat) → List CoreStat
ended stats None = stats
ended stats (Some last) = stat.TryFinally stats last ∷ []

abbrev pub attempt : List CoreStat → Option Handler → Option (List CoreStat) → List CoreStat
attempt stats handler last = ended (caught stats handler) last
