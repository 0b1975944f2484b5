-- Where one is among scopes, as a number: 0 outside each one that has `arguments` of its own, else how many are open from that one on.
use Rattle.std.specs.Prelude.{Bool, None, Option, Some, codes, cond, false, suc, zero, ℕ}
use Rattle.std.specs.Str.{bytes_eq}
use Rattle.scope_rules.specs.declared.mark.Mark.{Mark}
use Rattle.scope_rules.specs.declared.mark.Mark.TheVariants as mark
use Rattle.source_meaning.specs.Trees.{is_arguments}

abbrev pub inside : ℕ → Option ℕ
inside zero = None
inside (suc n) = Some n

abbrev pub told : ℕ → Mark → Bool
told zero (mark.Refers name at) = bytes_eq (codes "arguments") name
told n m = false

abbrev pub behind_outside : Mark → ℕ
behind_outside (mark.Declares k name at end) = cond (is_arguments k) 1 0
behind_outside m = 0

abbrev pub before : ℕ → ℕ
before zero = 0
before (suc n) = n

abbrev pub behind_within : ℕ → Mark → ℕ
behind_within n (mark.ScopeBegins k at) = suc n
behind_within n mark.ScopeEnds = before n
behind_within n m = n

abbrev pub behind_mark : ℕ → Mark → ℕ
behind_mark zero m = behind_outside m
behind_mark (suc n) m = behind_within (suc n) m
