-- From what both runs show to what comes of them.
use Rattle.std.proofs.Common.{◌≡◌, ℕ, List, Option, Result, Ok, Err, IfOk, subst, sym}
use Rattle.std.specs.Str.{chars}
use Rattle.es_outside.specs.declared.events.Ending.{Ending}
use Rattle.es_outside.specs.declared.events.Event.{Event}
use Rattle.es5_ast.specs.declared.tree.Script.{Script}
use Rattle.es6_ast.specs.declared.graph.Graph.{Graph}
use Rattle.script_runs.specs.Scripts.{AreScript, IsUnread}
use Rattle.script_runs.specs.declared.unread.Unread.{Unread as NoScript}
use Rattle.script_runs.specs.declared.unread.Unread.TheVariants as no_script
use Rattle.sample_runs.specs.Comparing.{AfterGraph, AfterScript, ComesOfUnread, IsCompared, IsComparedRead, IsComparedWith, Shows5, Shows6, of_fault, of_runs}
use Rattle.sample_runs.specs.declared.comparison.Comparison.{Comparison}

module _ {E : Type 0} (g : Graph) (hosts : List (List ℕ)) (bytes : List ℕ) (script : Script) (text : List ℕ) where
  pub graph_shown : (source : List Event) (over : Option Ending) (r : Result Comparison E) → Shows6 g source over → IfOk r (AfterGraph g hosts bytes script text source over) → IfOk r (IsComparedRead g hosts bytes script text)
  graph_shown source over (Ok comparison) shows after = record { source = source; over = over; shows = shows; after = after }
  graph_shown source over (Err error) shows after = tt

  pub script_shown : (source events : List Event) (over : Option Ending) (r : Result Comparison E) → Shows5 hosts script events over → IfOk r (AfterScript g bytes text source events over) → IfOk r (IsComparedWith g hosts bytes script text source)
  script_shown source events over (Ok comparison) shows after = record { events = events; over = over; shows = shows; after = after }
  script_shown source events over (Err error) shows after = tt

  pub read_compared : (r : Result Comparison E) → AreScript bytes script → text ≡ chars bytes → IfOk r (IsComparedRead g hosts bytes script text) → IfOk r (IsCompared g hosts bytes)
  read_compared (Ok comparison) is_script lines h =
      of_runs (record { script = script; is_script = is_script; compared = subst (λ (t : List ℕ). IsComparedRead g hosts bytes script t comparison) lines h })
  read_compared (Err error) is_script lines h = tt

pub unread_compared : {E : Type 0} (g : Graph) (hosts : List (List ℕ)) (bytes : List ℕ) (unread : NoScript) (r : Result Comparison E) → IsUnread bytes unread → IfOk r (ComesOfUnread unread) → IfOk r (IsCompared g hosts bytes)
unread_compared g hosts bytes unread (Err error) has is = tt
unread_compared g hosts bytes (no_script.Refused fault) (Ok comparison) has is = subst (IsCompared g hosts bytes) (sym is) (of_fault has)
unread_compared g hosts bytes no_script.OutOfMemory (Ok comparison) has is = absurd is
