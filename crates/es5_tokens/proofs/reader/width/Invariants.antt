use Rattle.std.proofs.Common.{◌≡◌, take}
use Rattle.es5_ast.specs.Lexical.{width}
use Rattle.es5_tokens.proofs.reader.width.Given as goal

abbrev pub invariant-loop-c : goal.invariant-loop-c
invariant-loop-c l = l.total ≡ width (take l.c-index l.text)
