-- What stands in a construct further out.
use Rattle.std.proofs.Common.{◌≡◌, ℕ, suc, ◌+◌, refl, arith}
use Rattle.es6_ast.specs.declared.settings.Flags.{Flags}
use Rattle.es6_reading.specs.Parser.{Input}
use Rattle.es6_reading.specs.Expressions.{sequence}
use Rattle.es6_reading.specs.Modules.{readers}
use Rattle.es6_cursor.specs.Readers.{inner}

pub sequence_next : (room : ℕ) (f : Flags) (c : Input) → (inner (room + 1)).sequence f c ≡ sequence (inner room) f c
unfolding readers
sequence_next room f c =
    let e : room + 1 ≡ suc room = omega arith in
    rw e refl
