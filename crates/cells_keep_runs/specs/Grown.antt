-- What belongs together belongs together where there are more records.
use Rattle.std.specs.Prelude.{◌≡◌, List, ◌++◌, length, ℕ}
use Rattle.core_ast.specs.declared.parts.Var.{Var}
use Rattle.core_meaning.specs.Marks.{CoreWork, Mark}
use Rattle.core_meaning.specs.State.{Environment, Frame}
use Rattle.cells_keep_runs.specs.Places.{Below}
use Rattle.cells_keep_runs.specs.Related.{Frames, Seats, cell_along, images}

-- An environment that has none of the new records has the images and the cells that it had.
abbrev pub EnvironmentsStay : Type 0
EnvironmentsStay = (seats more : Seats) (e : Environment) → Below (length seats) e → images (seats ++ more) e ≡ images seats e

abbrev pub CellsStay : Type 0
CellsStay = (seats more : Seats) (e : Environment) (x : Var)
    → Below (length seats) e → cell_along (seats ++ more) e x ≡ cell_along seats e x

-- Frames that are related stay related.
abbrev pub FramesStay : Type 0
FramesStay = (owners : List ℕ) (seats more : Seats) (e : Environment) (fs gs : List (Frame Mark CoreWork))
    → Below (length seats) e → Frames owners seats e fs gs → Frames owners (seats ++ more) e fs gs
