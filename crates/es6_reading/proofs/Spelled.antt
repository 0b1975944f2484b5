-- If every module that is derived is read without inserting semicolons, what is read with insertion is spelled, and no tokens derive
-- two modules.
use Rattle.std.proofs.Common.{◌≡◌, ℕ, ◌+◌, ◌≤◌, List, arith}
use Rattle.es6_lexer.specs.declared.token.Token.{Token}
use Rattle.es6_ast.specs.declared.module.Module.{Module}
use Rattle.es6_ast.specs.Tokens.{Filled}
use Rattle.es6_ast.specs.Modules.{IsModule}
use Rattle.es6_ast.specs.Semicolons.{Fills, done, keeps, inserts}
use Rattle.es6_reading.specs.Parser.{Input, Outcome, Took}
use Rattle.es6_reading.specs.Modules.{most_open}
use Rattle.es6_reading.specs.Laws.{IsReadAlone, IsComplete, AreSpelled, IsUnambiguous}
use Rattle.es6_reading.proofs.Filled.{inserting}

-- a semicolon that stands where no row of the one kind goes on stands where none of fewer rows does
fills-less : {Full Less : List Filled → Type 0} → ((row : List Filled) → Less row → Full row) → {before filled : List Filled} {ts us : List Token} → Fills Full before ts filled us → Fills Less before ts filled us
fills-less f done = done
fills-less f (keeps g) = keeps (fills-less f g)
fills-less f (inserts d n m g) = inserts d (λ b. n (b.0, f _ b.1)) m (fills-less f g)

more : (n l : ℕ) → l ≤ n + l
more n l = omega arith

derived-alone : (complete : IsComplete) (fuel room : ℕ) (row : List Filled) → (n : Module) × IsModule row n → IsReadAlone fuel room row
derived-alone complete fuel room row (n, d) =
    let c = complete row n d in
    let r = c.1 (fuel + c.0) (room + c.0) 0 (more fuel c.0) (more room c.0) in
    (c.0, n, r.0, r.1)

pub spelled : IsComplete → AreSpelled
spelled complete fuel tokens m after e =
    let r = inserting fuel tokens m after e in
    record { filled = r.filled; fills = fills-less (derived-alone complete fuel most_open) r.fills; spelled = r.derived }

-- ## One module alone

took-one : {m n : Module} {c d : Input} {o : Outcome Module} → o ≡ Took m c → o ≡ Took n d → m ≡ n
took-one h k = cc

pub unambiguous : IsComplete → IsUnambiguous
unambiguous complete tokens m n d e =
    let c = complete tokens m d in
    let b = complete tokens n e in
    let bound = c.0 + b.0 in
    took-one (c.1 bound bound 0 (less c.0 b.0) (less c.0 b.0)).1 (b.1 bound bound 0 (more c.0 b.0) (more c.0 b.0)).1
  where
    less : (k l : ℕ) → k ≤ k + l
    less k l = omega arith
