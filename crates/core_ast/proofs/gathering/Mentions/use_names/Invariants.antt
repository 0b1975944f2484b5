use Rattle.std.proofs.Common.{◌≡◌, drop}
use Rattle.core_ast.specs.Mentions.{uses}
use Rattle.core_ast.proofs.gathering.Mentions.use_names.Given as goal

abbrev pub invariant-loop-var : goal.invariant-loop-var
invariant-loop-var l = uses (drop l.var-index l.vars) l.self ≡ uses l.vars l.initial.self
