-- How far a chain of accesses and calls has come.
use Rattle.lower_chains.specs.declared.chained.Chained.{Chained}
use Rattle.module_lowering.specs.Nodes as nodes

-- as it is said of a link what it makes of the chain before it
abbrev pub chained_of : Chained → nodes.Chained
chained_of c = record { reached = c.reached; sited = c.sited }
