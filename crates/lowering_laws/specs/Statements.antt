-- Statements of lawful parts are lawful, and so is a for-of; and the labels of places differ.
use Rattle.std.specs.Prelude.{◌≡◌, ℕ, ◌&&◌, true, false, List, [], ◌∷◌, map, Option, None, Some, IsTrue}
use Rattle.std.specs.List.{list_all}
use Rattle.core_ast.specs.declared.parts.Label.{Label}
use Rattle.core_ast.specs.declared.parts.ScopedName.{ScopedName}
use Rattle.core_ast.specs.declared.parts.Var.{Var}
use Rattle.core_ast.specs.declared.tree.CoreCase.{CoreCase}
use Rattle.core_ast.specs.declared.tree.CoreExpr.{CoreExpr}
use Rattle.core_ast.specs.declared.tree.CoreStat.{CoreStat}
use Rattle.core_ast.specs.declared.whole.Declared.{Declared}
use Rattle.core_ast.specs.Lawful.{Round, all_differ, has_label, in_loop, is_new, names_drawn, under}
use Rattle.lowering_laws.specs.InRound.{AreLawful, CasesAreLawful, Drawn, IsLawful, IsLawfulIfThere, IsLawfulStat, case_lawful, declared_lawful}
use Rattle.lowering_rules.specs.Iteration.{for_of}
use Rattle.lowering_rules.specs.declared.naming.Iteration.{Iteration}
use Rattle.lowering_rules.specs.declared.patterns.ForOf.{ForOf}
use Rattle.lowering_rules.specs.declared.statement_rules.statements.ForLoop.{ForLoop}
use Rattle.lowering_rules.specs.declared.statement_rules.statements.Handler.{Handler}
use Rattle.lowering_rules.specs.declared.statement_rules.statements.SwitchParts.{SwitchParts}
use Rattle.lowering_rules.specs.statement_rules.Statements.{assigned_var, attempt, block, body_label, branch, do_while, exit_label, for_loop, if_chain, jump, labelled, lexical, returned, switch, while_loop}

abbrev pub BlocksAreLawful : Type 0
BlocksAreLawful = (r : Round) (names : List ScopedName) (functions : List Declared) (body : List CoreStat)
    → IsTrue (names_drawn names r) → IsTrue (list_all (declared_lawful r) functions) → AreLawful r body
    → AreLawful r (block names functions body)

abbrev pub DeclarationsAreLawful : Type 0
DeclarationsAreLawful = (r : Round) (x : Var) (value : Option CoreExpr)
    → Drawn r x → IsLawfulIfThere r value → IsLawfulStat r (lexical x value) × AreLawful r (assigned_var x value)

-- a jump to the next turn has a loop's label
abbrev pub JumpsAreLawful : Type 0
JumpsAreLawful = (r : Round) (l : Label)
    → (IsTrue (has_label l r.loops) → IsLawfulStat r (jump true l)) × (IsTrue (has_label l r.labels) → IsLawfulStat r (jump false l))

abbrev pub LabelledAreLawful : Type 0
LabelledAreLawful = (r : Round) (l : Label) (body : List CoreStat)
    → IsTrue (is_new r l) → AreLawful (under l r) body → IsLawfulStat r (labelled l body)

-- the statements of an else, if there are some
abbrev pub ElseIsLawful : Round → Option (List CoreStat) → Type 0
ElseIsLawful r None = true ≡ true
ElseIsLawful r (Some body) = AreLawful r body

abbrev pub ChoicesAreLawful : Type 0
ChoicesAreLawful = (r : Round) (first : CoreCase) (more : List CoreCase) (other : Option (List CoreStat))
    → CasesAreLawful r (first ∷ more) → ElseIsLawful r other → IsLawfulStat r (if_chain first more other)

abbrev pub BranchesAreLawful : Type 0
BranchesAreLawful = (r : Round) (test : CoreExpr) (body : List CoreStat)
    → IsLawful r test → AreLawful r body → IsTrue (case_lawful (branch test body) r)

abbrev pub WhileIsLawful : Type 0
WhileIsLawful = (r : Round) (l : Label) (test : CoreExpr) (body : List CoreStat)
    → IsTrue (is_new r l) → IsLawful r test → AreLawful (in_loop (l ∷ []) r) body → IsLawfulStat r (while_loop l test body)

abbrev pub DoWhileIsLawful : Type 0
DoWhileIsLawful = (r : Round) (exit inside : Label) (body : List CoreStat) (test : CoreExpr)
    → let round = in_loop (exit ∷ []) r in
    IsTrue (is_new r exit) → IsTrue (is_new round inside) → AreLawful (under inside round) body → IsLawful round test
    → IsLawfulStat r (do_while exit inside body test)

abbrev pub ForIsLawful : Type 0
ForIsLawful = (r : Round) (f : ForLoop)
    → IsTrue (names_drawn f.names r) → AreLawful r f.first → IsTrue (is_new r f.turns.label)
    → IsLawfulIfThere r f.turns.test → IsLawfulIfThere r f.turns.update → AreLawful (in_loop (f.turns.label ∷ []) r) f.turns.body
    → AreLawful r (for_loop f)

abbrev pub SwitchesAreLawful : Type 0
SwitchesAreLawful = (r : Round) (s : SwitchParts)
    → Drawn r s.kept → IsLawful r s.subject → IsTrue (is_new r s.label) → IsTrue (names_drawn s.names r)
    → IsTrue (list_all (declared_lawful r) s.functions) → CasesAreLawful (under s.label r) s.cases → AreLawful r (switch s)

abbrev pub ReturnsAreLawful : Type 0
ReturnsAreLawful = (r : Round) (value : Option CoreExpr)
    → IsTrue r.returns → IsLawfulIfThere r value → IsLawfulStat r (returned value)

abbrev pub HandlerIsLawful : Round → Option Handler → Type 0
HandlerIsLawful r None = true ≡ true
HandlerIsLawful r (Some h) =
    Drawn r h.thrown × IsTrue (names_drawn h.names r) × AreLawful r h.bound × AreLawful r h.block

abbrev pub TriesAreLawful : Type 0
TriesAreLawful = (r : Round) (stats : List CoreStat) (handler : Option Handler) (last : Option (List CoreStat))
    → AreLawful r stats → HandlerIsLawful r handler → ElseIsLawful r last → AreLawful r (attempt stats handler last)

-- ---- for-of

abbrev pub IterationIsDrawn : Round → Iteration → Type 0
IterationIsDrawn r i = Drawn r i.iterator × Drawn r i.is_open × Drawn r i.result × Drawn r i.value × Drawn r i.thrown

abbrev pub ForOfIsLawful : Type 0
ForOfIsLawful = (r : Round) (i : Iteration) (f : ForOf)
    → IterationIsDrawn r i → IsTrue (names_drawn f.dead r) → IsLawful r f.subject
    → IsTrue (list_all (is_new r) f.labels && all_differ (map (λ (l : Label). l.0) f.labels))
    → IsTrue (names_drawn f.names r) → AreLawful (in_loop f.labels r) f.turn → AreLawful r (for_of i f)

-- ---- labels: those of a place are those of no other, and its two differ

abbrev pub PlacesDiffer : Type 0
PlacesDiffer = (a b : ℕ)
    → ((exit_label a).0 ≡ (exit_label b).0 → a ≡ b) × ((body_label a).0 ≡ (body_label b).0 → a ≡ b)
    × ((exit_label a).0 ≡ (body_label b).0 → ⊥)
