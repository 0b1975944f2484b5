-- What is read where one construct more may open.
use Rattle.std.proofs.Common.{◌≡◌, ℕ, suc, ◌+◌, refl, arith}
use Rattle.es6_ast.specs.declared.settings.Flags.{Flags}
use Rattle.es6_ast.specs.declared.settings.Stand.{Stand}
use Rattle.es6_reading.specs.Parser.{Input}
use Rattle.es6_reading.specs.Expressions.{assignment}
use Rattle.es6_reading.specs.Modules.{readers}
use Rattle.es6_reading.specs.Statements.{statement}
use Rattle.es6_cursor.specs.Readers.{inner}

pub assignment_next : (room : ℕ) (f : Flags) (c : Input) → (inner (room + 1)).assignment f c ≡ assignment (inner room) f c
unfolding readers
assignment_next room f c =
    let e : room + 1 ≡ suc room = omega arith in
    rw e refl

pub statement_next : (room : ℕ) (f : Flags) (stand : Stand) (c : Input) → (inner (room + 1)).statement f stand c ≡ statement (inner room) f stand c
unfolding readers
statement_next room f stand c =
    let e : room + 1 ≡ suc room = omega arith in
    rw e refl
