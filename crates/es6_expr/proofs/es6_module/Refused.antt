-- What is answered where the model stops.
use Rattle.std.proofs.Common.{◌≡◌, ℕ, List, map, sym, ap, ◌∙◌}
use Rattle.es6_lexer.specs.declared.token.Token.{Token}
use Rattle.es6_ast.specs.declared.settings.Stop.{Stop}
use Rattle.es6_ast.specs.Tokens.{read}
use Rattle.es6_reading.specs.Modules.{read_module, whole_module}
use Rattle.es6_reading.specs.Parser.{Input, Fault}
use Rattle.es6_cursor.specs.Readers.{inner, turns}
use Rattle.es6_cursor.specs.Reads.{Halts}
use Rattle.es6_cursor.specs.declared.halt.Halt.{Halt}
use Rattle.es6_cursor.specs.declared.halt.Halt.TheVariants.{Stopped, OutOfMemory}
use Rattle.es6_expr.specs.declared.fault.ParseFault.{ParseFault}
use Rattle.es6_expr.specs.Faults.{fault_of, place_of}
use Rattle.es6_expr.specs.es6_module.Parsed.{Refuses, stopped}

pub refuses : (tokens rest : List Token) (c d : Input) (halt : Halt) (stop : Stop) (at : ℕ) (fault : ParseFault) → c ≡ record { tokens = map read tokens; last = 0 } → Halts (whole_module (inner 256) c) halt d.tokens → halt ≡ Stopped stop → map read rest ≡ d.tokens → at ≡ place_of (map read tokens) (map read rest) → fault ≡ fault_of stop at
    → Refuses tokens (read_module turns (map read tokens)) fault
unfolding read_module
refuses tokens rest c d (Stopped other) stop at fault begin halts same left place is =
    let e : other ≡ stop = cc in
    stopped stop d.tokens
    (ap (whole_module (inner 256)) (sym begin) ∙ halts ∙ ap (λ s. Fault s d.tokens) e)
    (is ∙ ap (fault_of stop) (place ∙ ap (place_of (map read tokens)) left))
refuses tokens rest c d OutOfMemory stop at fault begin halts same left place is = absurd (cc)
