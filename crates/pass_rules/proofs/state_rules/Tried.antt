-- Machines of small bodies, as they are computed from what the fold gives of their statements: a yield, a yield in a block with a
-- finally that yields too, and a break that a finally is told of.
use Rattle.std.proofs.Common.{◌≡◌, List, [], ◌∷◌, false, None, Some, refl}
use Rattle.core_ast.specs.declared.naming.Fresh.{Fresh}
use Rattle.core_ast.specs.declared.tree.CoreLink.TheOpen as layer
use Rattle.core_ast.specs.Made.{undefined}
use Rattle.pass_rules.specs.yield_rules.Yields.{case_of, number}
use Rattle.pass_rules.specs.declared.state_rules.states.Registers.{Registers}
use Rattle.pass_rules.specs.state_rules.States.{given, goes, handed_on, last_row, machine_of, moved, moves, outermost, pair, set_number, stat_step, unwinds, Part}

abbrev pub yields : List Part
yields = stat_step (layer.Yield (number 7) None (record { 0 = 5 })) ∷ []

-- the first state hands 7 out, the second takes what comes back, and returns
pub yields_once : (r : Registers) (fresh : Fresh) → (machine_of r yields fresh).states ≡
    case_of (Some (number 0)) (set_number r.state 1 ∷ given 0 (number 7) ∷ [])
    ∷ case_of (Some (number 1)) (handed_on (outermost r) r.resumption ∷ moved (record { 0 = 5 }) r.resumption.value
    ∷ unwinds (outermost r) 2 undefined)
    ∷ []
yields_once r fresh = refl

abbrev pub yields_at_last : List Part
yields_at_last = stat_step (layer.TryFinally yields yields) ∷ []

-- the states of the last statements and behind them are 1 and 2; what is kept is handed on behind their yield
pub keeps_across_yields : (r : Registers) (fresh : Fresh) → (machine_of r yields_at_last fresh).states ≡
    case_of (Some (number 0)) (set_number r.region 1 ∷ set_number r.state 3 ∷ given 0 (number 7) ∷ [])
    ∷ case_of (Some (number 3)) (handed_on (outermost r) r.resumption ∷ moved (record { 0 = 5 }) r.resumption.value
    ∷ set_number (pair fresh).kind 0 ∷ moves (outermost r) 0 1)
    ∷ case_of (Some (number 1)) (set_number r.state 4 ∷ given 0 (number 7) ∷ [])
    ∷ case_of (Some (number 4)) (handed_on (outermost r) r.resumption ∷ moved (record { 0 = 5 }) r.resumption.value
    ∷ handed_on (outermost r) (pair fresh) ∷ goes (outermost r) 2)
    ∷ case_of (Some (number 2)) (unwinds (outermost r) 2 undefined)
    ∷ []
keeps_across_yields r fresh = refl

-- its region keeps a completion in the pair, and goes on with the last statements
pub keeps_completions : (r : Registers) (fresh : Fresh) → (machine_of r yields_at_last fresh).rows ≡
    last_row r
    ∷ case_of (Some (number 1)) (moved (pair fresh).kind r.ending.kind ∷ moved (pair fresh).value r.ending.value
    ∷ set_number r.ending.kind 0 ∷ moves (outermost r) 0 1)
    ∷ []
keeps_completions r fresh = refl

abbrev pub jumps : List Part
jumps = stat_step (layer.Jump false (Some (record { 0 = 0 }))) ∷ []

abbrev pub breaks : List Part
breaks = stat_step (layer.Labelled (record { 0 = 0 }) (stat_step (layer.TryFinally jumps yields) ∷ [])) ∷ []

-- the break is a completion of the kind 3, a jump in the function's own region, to the state 1 behind the label
pub breaks_through : (r : Registers) (fresh : Fresh) → (machine_of r breaks fresh).states ≡
    case_of (Some (number 0)) (set_number r.region 1 ∷ unwinds (outermost r) 3 (number 1))
    ∷ case_of (Some (number 2)) (set_number r.state 4 ∷ given 0 (number 7) ∷ [])
    ∷ case_of (Some (number 4)) (handed_on (outermost r) r.resumption ∷ moved (record { 0 = 5 }) r.resumption.value
    ∷ handed_on (outermost r) (pair fresh) ∷ goes (outermost r) 3)
    ∷ case_of (Some (number 3)) (goes (outermost r) 1)
    ∷ case_of (Some (number 1)) (unwinds (outermost r) 2 undefined)
    ∷ []
breaks_through r fresh = refl
