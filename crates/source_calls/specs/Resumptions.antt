-- Resumptions of a generator whose context was taken out (ECMA-262, 6th edition, 25.3.3.3).
use Rattle.std.specs.Prelude.{ℕ}
use Rattle.es_calls.specs.declared.call.Resumption.{Resumption}
use Rattle.es_value.specs.declared.value.Value.{Value}
use Rattle.source_meaning.specs.Generators.{resume_by, with_generator}
use Rattle.source_meaning.specs.State.{Generator, State}
use Rattle.source_meaning.specs.Steps.{Next}

-- as if it still had its number
abbrev pub resume_taken : ℕ → Resumption → Value → Generator → State → Next
resume_taken n kind v g st = resume_by n kind v (with_generator n g st) g
