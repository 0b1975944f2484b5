-- Variables, and what the readers of statements give where the model has records of its own.
use Rattle.std.specs.Prelude.{ℕ, List, ◌++◌, Option, Some, None, codes}
use Rattle.es6_ast.specs.declared.tree.Condition.{Condition}
use Rattle.es6_ast.specs.declared.tree.Expression.{Expression}
use Rattle.es6_ast.specs.declared.tree.ForFirst.{ForFirst}
use Rattle.es6_ast.specs.declared.tree.ForTarget.{ForTarget}
use Rattle.es6_ast.specs.declared.tree.Part.{Part}
use Rattle.es6_ast.specs.declared.tree.Statement.{Statement}
use Rattle.es6_ast.specs.declared.settings.Flags.{Flags}
use Rattle.es6_ast.specs.declared.settings.Stand.{Stand}
use Rattle.es6_reading.specs.Parser.{Inner, Parser, Reading, Outcome, Took, Fault, returns, on, word, choose, refused}
use Rattle.es6_reading.specs.Statements.{is_whole, Otherwise, Header as Header', ForHeader, OfHeader, return_statement, on_more, plain_statement}
use Rattle.es6_read_statements.specs.declared.conditions.Alternatives.{Alternatives}
use Rattle.es6_read_statements.specs.declared.loops.Header.{Header}
use Rattle.es6_read_statements.specs.declared.loops.Header.TheVariants as header

-- a variable that was read (13.3): a pattern has an initializer
abbrev pub whole_variable : Part → Parser Part
whole_variable q = choose (is_whole q) (returns q) refused

-- the expression that is seen in what was read
abbrev pub value_of : {R : Type 0} → (R → Reading) → R → Expression
value_of seen x = (seen x).value

abbrev pub last_of : {S : Type 0} → (S → Statement) → Option S → Option Statement
last_of seen None = None
last_of seen (Some s) = Some (seen s)

-- the conditions and the statement that are seen in what follows the first condition
abbrev pub otherwise_of : {C S : Type 0} → (C → List Condition) → (S → Statement) → Alternatives C S → Otherwise
otherwise_of conditions statement x = record { more = conditions x.more; last = last_of statement x.last }

-- the parts that are seen in a header
abbrev pub header_of : {F O T R : Type 0} → (F → ForFirst) → (O → Option Expression) → (T → ForTarget) → (R → Reading) → Header F O T R → Header'
header_of first optional target reading (header.ForHeader x test update) = ForHeader (first x) (optional test) (optional update)
header_of first optional target reading (header.OfHeader x subject) = OfHeader (target x) (reading subject).value

-- the conditions that were read before, and then what comes of the rest
abbrev pub before_more : List Condition → Outcome Otherwise → Outcome Otherwise
before_more front (Took r c) = Took (record { more = front ++ r.more; last = r.last }) c
before_more front (Fault stop tokens) = Fault stop tokens

-- what follows the words of the other jumps: a `return` in a function, and what else may stand there
abbrev pub return_or_more : Inner → Flags → Stand → ℕ → Parser Statement
return_or_more i f stand at = choose f.has_return (on (word (codes "return")) (λ _. return_statement i f at) (on_more i f stand at (plain_statement i f at))) (on_more i f stand at (plain_statement i f at))
