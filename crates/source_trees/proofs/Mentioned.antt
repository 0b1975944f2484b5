-- What one mark says of `arguments`, and the marks behind it.
use Rattle.std.proofs.Common.{◌≡◌, ℕ, zero, suc, Bool, true, false, ◌||◌, List, ◌∷◌, cond, Some, None, refl}
use Rattle.scope_rules.specs.declared.kinds.Kind.{Kind}
use Rattle.scope_rules.specs.declared.mark.Mark.{Mark}
use Rattle.scope_rules.specs.declared.mark.Mark.TheVariants as mark
use Rattle.source_meaning.specs.Trees.{is_arguments, mentions}
use Rattle.source_trees.specs.Mentions.{behind_mark, inside, told}

declared_step : (b : Bool) (ms : List Mark) → mentions (cond b (Some 0) None) ms ≡ mentions (inside (cond b 1 0)) ms
declared_step true ms = refl
declared_step false ms = refl

pub mentions_step : (n : ℕ) (m : Mark) (ms : List Mark) → mentions (inside n) (m ∷ ms) ≡ (told n m || mentions (inside (behind_mark n m)) ms)
mentions_step zero (mark.ScopeBegins k at) ms = refl
mentions_step zero mark.ScopeEnds ms = refl
mentions_step zero mark.LoopBegins ms = refl
mentions_step zero mark.LoopEnds ms = refl
mentions_step zero mark.HeadBegins ms = refl
mentions_step zero mark.HeadEnds ms = refl
mentions_step zero (mark.Declares k name at end) ms = declared_step (is_arguments k) ms
mentions_step zero (mark.Refers name at) ms = refl
mentions_step (suc n) (mark.ScopeBegins k at) ms = refl
mentions_step (suc zero) mark.ScopeEnds ms = refl
mentions_step (suc (suc n)) mark.ScopeEnds ms = refl
mentions_step (suc n) mark.LoopBegins ms = refl
mentions_step (suc n) mark.LoopEnds ms = refl
mentions_step (suc n) mark.HeadBegins ms = refl
mentions_step (suc n) mark.HeadEnds ms = refl
mentions_step (suc n) (mark.Declares k name at end) ms = refl
mentions_step (suc n) (mark.Refers name at) ms = refl
