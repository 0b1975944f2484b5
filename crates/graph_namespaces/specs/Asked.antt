-- Which names are asked of a module: those that the modules export which are reached from it by stars.
use Rattle.std.specs.Prelude.{◌≡◌, ℕ, ◌⊎◌, ◌++◌, List, [], length, map, slice_get, Some}
use Rattle.std.specs.List.{Contains}
use Rattle.module_endings.specs.declared.place.Home.{Home}
use Rattle.module_endings.specs.declared.place.Home.TheVariants.{Module}
use Rattle.module_endings.specs.declared.place.Place.{Place}
use Rattle.module_endings.specs.declared.summary.Export.{Export}
use Rattle.module_endings.specs.declared.summary.Summary.{Summary}
use Rattle.module_endings.specs.Places.{at_place}

abbrev pub KeepsAll : List ℕ → List ℕ → Type 0
KeepsAll old new = (k x : ℕ) → slice_get old k ≡ Some x → slice_get new k ≡ Some x

-- the modules of these stars are added
pub record KeepsKeys (stars : List Home) (old new : List ℕ) : Type 0 where
  pub kept : KeepsAll old new
  pub there : (j : ℕ) → Contains stars (Module j) → Contains new j

abbrev pub name_at : ℕ → Export → Place
name_at index e = at_place (Module index) e.name

abbrev pub asked_names : ℕ → List Place → List Export → List Place
asked_names index ps exports = ps ++ map (name_at index) exports

-- the names and the stars of the module with a number are added
pub record Visits (known : List Summary) (number index : ℕ) (old_keys : List ℕ) (old_names : List Place) (new_keys : List ℕ) (new_names : List Place) : Type 0 where
  pub kept : KeepsAll old_keys new_keys
  pub stays : (p : Place) → Contains old_names p → Contains new_names p
  pub homes : (p : Place) → Contains new_names p → Contains old_names p ⊎ (p.home ≡ Module index)
  pub stars : (s : Summary) (j : ℕ) → slice_get known number ≡ Some s → Contains s.stars (Module j) → Contains new_keys j
  pub exports : (s : Summary) (x : Export) → slice_get known number ≡ Some s → Contains s.exports x → Contains new_names (name_at index x)

-- all these names are asked of one module, and all that the modules export which are reached from it by stars are among them
pub record Asks (known : List Summary) (index : ℕ) (ps : List Place) : Type 0 where
  pub homes : (p : Place) → Contains ps p → p.home ≡ Module index
  pub keys : List ℕ
  pub first : Contains keys index
  pub stars : (i j : ℕ) (s : Summary) → Contains keys i → slice_get known i ≡ Some s → Contains s.stars (Module j) → Contains keys j
  pub exports : (i : ℕ) (s : Summary) (x : Export) → Contains keys i → slice_get known i ≡ Some s → Contains s.exports x → Contains ps (name_at index x)

-- a summary that exports nothing, and wants what is asked of the module with this number
pub record IsAsk (known : List Summary) (index : ℕ) (s : Summary) : Type 0 where
  pub no_exports : s.exports ≡ []
  pub no_stars : s.stars ≡ []
  pub asks : Asks known index s.wants

pub record AskAll (known asked : List Summary) : Type 0 where
  pub size : length asked ≡ length known
  pub each : (i : ℕ) (s : Summary) → slice_get asked i ≡ Some s → IsAsk known i s
