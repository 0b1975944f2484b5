-- What the pass leaves as it is.
use Rattle.std.specs.Prelude.{Bool, not, List}
use Rattle.std.specs.List.{list_all}
use Rattle.core_ast.specs.declared.whole.Core.{Core}
use Rattle.core_ast.specs.declared.whole.CoreFunction.{CoreFunction}
use Rattle.core_ast.specs.Lawful.{is_generator}

abbrev pub are_no_generators : List CoreFunction → Bool
are_no_generators fs = list_all (λ f. not (is_generator f.kind)) fs

abbrev pub has_no_generator : Core → Bool
has_no_generator core = are_no_generators core.functions
