-- The readers tied into one another read the same where loops have more turns. So where one of them stops for depth, it stops there with
-- any more turns, too.
use Rattle.std.proofs.Common.{◌≡◌, ℕ, zero, suc, Bool, List, refl}
use Rattle.es6_ast.specs.declared.settings.Role.TheVariants.{Among, Heritage, Callee}
use Rattle.es6_ast.specs.declared.settings.Stop.TheVariants.{Depth}
use Rattle.es6_ast.specs.Tokens.{Filled}
use Rattle.es6_reading.specs.Modules.{readers}
use Rattle.es6_reading.specs.Parser.{Inner, Outcome, Fault}
use Rattle.es6_reading.proofs.Follows.{plus}
use Rattle.es6_reading.proofs.Locality.{turns-plus}
use Rattle.es6_reading_laws.proofs.es6_viability.Longer.{Later, same, gave_up}
use Rattle.es6_reading_laws.proofs.es6_viability.LongerExpressions as x'
use Rattle.es6_reading_laws.proofs.es6_viability.LongerExpressions.{Longer}
use Rattle.es6_reading_laws.proofs.es6_viability.LongerModules as m'

module _ (mode : Bool) (fuel l : ℕ) where
  pub longer : (room : ℕ) → Longer l (readers mode fuel room) (readers mode (plus fuel l) room)
  unfolding readers
  longer zero = record {
    mode = refl;
    fuel = turns-plus fuel l;
    opens = refl;
    sequence = λ f s. same;
    assignment = λ f s. same;
    power = λ f s. same;
    unary = λ f s. same;
    callee = λ f s. same;
    heritage = λ f s. same;
    block = λ f s. same;
    property = λ f s. same;
    target = λ f s. same;
    part = λ f s. same;
    object_part = λ f s. same;
    variable = λ f s. same;
    member = λ f s. same;
    statement = λ f stand s. same;
  }
  longer (suc room) =
      let i : Inner = readers mode fuel room in
      let j : Inner = readers mode (plus fuel l) room in
      let deeper : Longer l i j = longer room in
      record {
        mode = refl;
        fuel = turns-plus fuel l;
        opens = refl;
        sequence = x'.sequence i j deeper;
        assignment = x'.assignment i j deeper;
        power = λ f s. x'.power i j deeper f Among s;
        unary = x'.unary i j deeper;
        callee = λ f s. x'.chain i j deeper f Callee s;
        heritage = λ f s. x'.chain i j deeper f Heritage s;
        block = x'.block i j deeper;
        property = x'.property i j deeper;
        target = x'.binding i j deeper;
        part = x'.one_part i j deeper;
        object_part = x'.object_part i j deeper;
        variable = λ f s. x'.initialized i j deeper f f s;
        member = x'.member i j deeper;
        statement = λ f stand s. m'.statement i j deeper f stand s;
      }

pub depth-stays : {A : Type 0} {o o' : Outcome A} {ts : List Filled} → Later o o' → o ≡ Fault Depth ts → o' ≡ Fault Depth ts
depth-stays same e = e
depth-stays gave_up e = absurd (cc)
