-- What the readers of statements give where the model has records of its own.
use Rattle.std.specs.Prelude.{List, ◌++◌}
use Rattle.es5_ast.specs.declared.tree.Condition5.{Condition5}
use Rattle.es5_reading.specs.Parser.{Outcome5, Took, Fault}
use Rattle.es5_reading.specs.Statements.{Otherwise5, Header5}
use Rattle.es5_read_statements.specs.declared.compound.Alternatives.{Alternatives}
use Rattle.es5_read_statements.specs.declared.iteration.Header.{Header}

abbrev pub otherwise_of : Alternatives → Otherwise5
otherwise_of x = record { more = x.more; last = x.last }

abbrev pub header_of : Header → Header5
header_of h = record { first = h.first; test = h.test; update = h.update }

-- the conditions that were read before, and then what comes of the rest
abbrev pub before_more : List Condition5 → Outcome5 Otherwise5 → Outcome5 Otherwise5
before_more front (Took r c) = Took (record { more = front ++ r.more; last = r.last }) c
before_more front (Fault stop tokens) = Fault stop tokens
