-- The evaluation without recursion: the modules whose requests are under way stand on a stack, each with the place of its next
-- request.
use Rattle.std.specs.Prelude.{ℕ, ◌+◌, cond, slice_get, List, [], ◌∷◌, ◌++◌, Option, None, Some}
use Rattle.module_order.specs.declared.walk.Frame.{Frame}
use Rattle.module_order.specs.declared.walk.Walk.{Walk}
use Rattle.module_order.specs.Order.{is_marked, marked, nothing, ran, requests_of}

abbrev pub frame : ℕ → ℕ → Frame
frame m next = record { number = m; next = next }

abbrev pub pushed : Frame → Walk → Walk
pushed f w = record w { stack = w.stack ++ f ∷ [] }

abbrev pub begun : ℕ → Walk
begun count = record { evaluation = nothing count; stack = [] }

abbrev pub begins : ℕ → Walk → Walk
begins m w = record { evaluation = marked m w.evaluation; stack = w.stack ++ frame m 0 ∷ [] }

-- a module is reached
abbrev pub entered : ℕ → Walk → Walk
entered m w = cond (is_marked m w.evaluation) w (begins m w)

-- the module on the top goes on with its next request, or runs
unfoldable pub continued : Frame → Option ℕ → Walk → Walk
continued f None w = record w { evaluation = ran f.number w.evaluation }
continued f (Some m) w = entered m (pushed (frame f.number (f.next + 1)) w)

abbrev pub gone_on : List (List ℕ) → Frame → Walk → Walk
gone_on graph f w = continued f (slice_get (requests_of graph f.number) f.next) w
