-- What a part with a default says of expressions among parameters.
use Rattle.std.proofs.Common.{◌≡◌, ◌||◌, is_some, rules}
use Rattle.es6_ast.specs.declared.tree.Argument.TheFolds.{the_lemmas}
use Rattle.es6_ast.specs.declared.tree.Part.{Part, out-Part}
use Rattle.scope_rules.specs.Marks.{part_marked, pattern_marked}

pub part_has_out : (x : Part) → (part_marked x).has_expression ≡ (pattern_marked (out-Part x).pattern).has_expression || is_some (out-Part x).default
part_has_out x = search (rules, the_lemmas)
