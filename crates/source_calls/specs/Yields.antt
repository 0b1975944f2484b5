-- Yields, as code finds the generator that yields (ECMA-262, 6th edition, 25.3.3.5).
use Rattle.std.specs.Prelude.{Bool, None, Option, Some, ℕ}
use Rattle.es_value.specs.declared.value.Value.{Value}
use Rattle.source_meaning.specs.Generators.{handed_out, saved_with, with_generator, yield_by}
use Rattle.source_meaning.specs.State.{AtYield, Context, Generates, State, Work}
use Rattle.source_meaning.specs.Steps.{Next}

-- the generator that runs above a context whose top work this is
abbrev pub generator_in : Work → Option ℕ
generator_in (Generates n) = Some n
generator_in w = None

-- the caller was taken from the callers, and its top work from its frames
abbrev pub yields_above : Work → Bool → Value → State → Context → Work → Next
yields_above w wraps v st k x = yield_by w wraps v st k st.callers k.frames x

-- the context of the generator is saved, and this one goes on
abbrev pub yielded_to : ℕ → Work → Bool → Value → Context → State → Next
yielded_to n w wraps v k st =
    handed_out wraps v (record (with_generator n (AtYield (saved_with w st)) st) { context = k })
