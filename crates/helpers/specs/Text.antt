-- The bytes of the helpers' text.
use Rattle.std.specs.Prelude.{ℕ, List}
use Rattle.helpers.specs.declared.text.TheConstants.{TEXT}

unfoldable pub text_bytes : List ℕ
text_bytes = TEXT.now
