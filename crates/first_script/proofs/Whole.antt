-- What is written is the module's script.
use Rattle.std.proofs.Common.{ℕ, List, ◌∷◌}
use Rattle.first_trees.specs.declared.Module.{Module}
use Rattle.first_forms.specs.WellFormed.{IsWellFormed}
use Rattle.first_script.specs.Pieces.{text_of, script_pieces}
use Rattle.first_script.specs.Suffix.{suffix_for}
use Rattle.first_script.specs.Script.{IsScriptOf}
use Rattle.first_script.proofs.Fresh.{suffix_is_fresh}
use Rattle.first_script.proofs.Related.{directive}
use Rattle.first_script.proofs.Started.{does_the_same}
use Rattle.first_script.proofs.Spelled.{script_spelled}

pub written_script : (hosts : List (List ℕ)) (m : Module) → IsWellFormed hosts m → IsScriptOf hosts m (text_of (script_pieces (suffix_for hosts) m))
written_script hosts m i =
    let s = script_spelled hosts m i in
    record {
      script = s.script;
      spelled = s.spells;
      part = record { statements = directive 0 ∷ s.stats };
      is_part = s.is_part;
      same = does_the_same (suffix_for hosts) hosts (suffix_is_fresh hosts) m s.stats 0 i s.low;
    }
