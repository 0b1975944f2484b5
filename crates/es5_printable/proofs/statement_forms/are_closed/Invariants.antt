use Rattle.std.proofs.Common.{◌≡◌, drop, map}
use Rattle.es5_printable.specs.Parts.{are_closed}
use Rattle.es5_printable.specs.Printable.{condition_fit}
use Rattle.es5_printable.proofs.statement_forms.are_closed.Given as goal

abbrev pub invariant-loop-condition : goal.invariant-loop-condition
invariant-loop-condition l = are_closed (condition_fit l.last) (map condition_fit (drop l.condition-index l.more)) l.has_else ≡ are_closed (condition_fit l.first) (map condition_fit l.more) l.has_else
