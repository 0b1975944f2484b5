-- Array patterns as code goes along them: where the iterator is done, parts without a target ask for nothing.
use Rattle.std.specs.Prelude.{Bool, List, [], false, if◌then◌else◌, true, ◌&&◌, ◌∷◌}
use Rattle.es6_ast.specs.Spans.{Open}
use Rattle.es6_ast.specs.declared.tree.Argument.TheOpen as layer
use Rattle.es6_ast.specs.declared.tree.Argument.TheOpen.{ArrayPart-F}
use Rattle.es6_ast.specs.declared.tree.ArrayPart.{ArrayPart, out-ArrayPart}
use Rattle.es6_ast.specs.declared.tree.Part.{Part, out-Part}
use Rattle.es6_ast.specs.declared.tree.Pattern.{out-Pattern}
use Rattle.source_meaning.specs.Patterns.{element_of, iterator_step, rest_of, target_first}
use Rattle.source_meaning.specs.State.{SkipStep, State, Taking}
use Rattle.source_meaning.specs.Steps.{Next}

abbrev pub is_skipped : Open ArrayPart-F → Bool
is_skipped layer.SkippedPart = true
is_skipped p = false

-- the parts from the first that asks for something
abbrev pub parts_from : Bool → List ArrayPart → List ArrayPart
parts_from done [] = []
parts_from done (p ∷ ps) = if done && is_skipped (out-ArrayPart p) then parts_from done ps else p ∷ ps

abbrev pub single_part : Bool → Taking → State → Part → Next
single_part done t st p =
    element_of done (out-Part p).pattern (out-Part p).default t st (target_first t.binds (out-Pattern (out-Part p).pattern))

-- what such a part begins
abbrev pub part_begun : Bool → Taking → State → Open ArrayPart-F → Next
part_begun done t st layer.SkippedPart = iterator_step (SkipStep t) t.iterator st
part_begun done t st (layer.SinglePart p) = single_part done t st p
part_begun done t st (layer.RestPart span p) = rest_of done p t st (target_first t.binds (out-Pattern p))
