-- Events of a script and of the modules that it is compiled from, that are the same up to the script's map.
use Rattle.std.specs.Prelude.{◌≡◌, ℕ, List, length, Option, None, Some, slice_get}
use Rattle.es_text.specs.declared.Place.{Place}
use Rattle.es_outside.specs.declared.events.Event.{Event}
use Rattle.program_runs.specs.Outcomes.{Sites}
use Rattle.run_parts.specs.Places.{place_in}
use Rattle.source_map.specs.Maps.{target_at}
use Rattle.source_map.specs.declared.map.Segment.{Segment}
use Rattle.source_map.specs.declared.map.Target.{Target}

-- a target is this place of the module with this number
abbrev pub LeadsTo : Option Target → ℕ → Place → Type 0
LeadsTo None number place = ⊥
LeadsTo (Some target) number place = (target.source ≡ number) × (target.place ≡ place)

-- Host and arguments are equal, and the map takes the place of the script's call to that of the modules'.
pub record IsSameEvent (segments : List Segment) (text : List ℕ) (sites : Sites) (script source : Event) : Type 0 where
  pub host : script.host ≡ source.host
  pub args : script.args ≡ source.args
  pub mapped : LeadsTo (target_at segments (place_in text script.site.at)) source.site.«module» (sites.place source.site)

-- two lists of as many, with equal elements at each position
pub record AreEqual {A : Type 0} (xs ys : List A) : Type 0 where
  pub size : length xs ≡ length ys
  pub each : (at : ℕ) (x y : A) → slice_get xs at ≡ Some x → slice_get ys at ≡ Some y → x ≡ y

-- There are as many of both, and those at one position are the same.
pub record AreSameEvents (segments : List Segment) (text : List ℕ) (sites : Sites) (script source : List Event) : Type 0 where
  pub size : length script ≡ length source
  pub each : (at : ℕ) (e f : Event) → slice_get script at ≡ Some e → slice_get source at ≡ Some f → IsSameEvent segments text sites e f
