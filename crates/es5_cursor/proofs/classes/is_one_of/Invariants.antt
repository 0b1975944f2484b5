use Rattle.std.proofs.Common.{◌≡◌, map, drop}
use Rattle.es5_ast.specs.Lexical.{is_one_of}
use Rattle.es5_cursor.proofs.classes.is_one_of.Given as goal

abbrev pub invariant-loop-word : goal.invariant-loop-word
invariant-loop-word l = is_one_of l.name (map (λ w. w.now) (drop l.word-index l.words)) ≡ is_one_of l.name (map (λ w. w.now) l.words)
