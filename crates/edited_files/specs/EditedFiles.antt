-- What contracts see of files with edits: the files that are lent, and the edit of each path.
use Rattle.std.specs.Prelude.{◌≡◌, ℕ, ◌≤◌, List, Option, String, Vec, option_map}
use Rattle.std.specs.BTreeMap.{BTreeMap}
use Rattle.std.specs.Global.{Global}
use Rattle.std.specs.Borrow.{MutBor}
use Rattle.edited_files.specs.declared.edited_files.EditedFiles.{EditedFiles}
use Rattle.edited_files.specs.Edits.{edit_at, edited}

-- the files that are lent
abbrev pub base_of : {F : _} → EditedFiles F → MutBor F
base_of files = files.base

-- the edits by path
abbrev pub edits_of : {F : _} → EditedFiles F → BTreeMap (String Global) (Option (Vec ℕ Global))
edits_of files = files.edits

-- the edit of a path, if there is one
abbrev pub edit_of : {F : _} → EditedFiles F → List ℕ → Option (Option (List ℕ))
edit_of files path = edit_at (edits_of files) path

-- what the files that are lent tell, with the edits
abbrev pub told_of : {F : Type 0} → (F → Option (List ℕ → Option (List ℕ))) → EditedFiles F → Option (List ℕ → Option (List ℕ))
told_of told files = option_map (edited (edit_of files)) (told (base_of files).now)

-- how often reading has failed
abbrev pub faults_of : {F : Type 0} → (F → ℕ) → EditedFiles F → ℕ
faults_of faults files = faults (base_of files).now

-- The same files are lent, which tell what they told, with the same edits; reading may have failed since.
pub record StillLends {F : Type 0} (told : F → Option (List ℕ → Option (List ℕ))) (faults : F → ℕ) (old new : EditedFiles F) : Type 0 where
  pub edits : edits_of new ≡ edits_of old
  pub files : told (base_of new).now ≡ told (base_of old).now
  pub no_fall : faults (base_of old).now ≤ faults (base_of new).now
  pub same_base : (base_of new).ghost_name ≡ (base_of old).ghost_name
