-- Edits that are done in order, and what the builds among them write.
use Rattle.std.specs.Prelude.{◌≡◌, ℕ, List, [], ◌∷◌, ◌++◌, Option, Some, None, option_map, Result, Ok, Err, string_bytes}
use Rattle.edited_files.specs.Edits.{edited, with_edit}
use Rattle.module_loading.specs.Files.{Told}
use Rattle.listed_builds.specs.declared.fault.BuildFault.{BuildFault}
use Rattle.listed_builds.specs.declared.fault.BuildFault.TheVariants.{Unread, OutOfMemory}
use Rattle.listed_builds.specs.declared.taken.Taken.{Taken}
use Rattle.listed_builds.specs.declared.taken.Taken.TheVariants.{Put, Drop, Build}

-- one edit: bytes are put at a path, nothing stands there any more, or a graph is built
pub data Step : Type 0 where
  put : List ℕ → List ℕ → Step
  dropped : List ℕ → Step
  build : Step

abbrev pub step_of : Taken → Step
step_of (Put path bytes) = put (string_bytes path) bytes.items
step_of (Drop path) = dropped (string_bytes path)
step_of Build = build

-- the bytes of each path that has some
abbrev pub Map : Type 0
Map = List ℕ → Option (List ℕ)

-- the edit of each path that has one
abbrev pub Edits : Type 0
Edits = List ℕ → Option (Option (List ℕ))

-- the edits so far, after one more
abbrev pub IsEdited : Step → Edits → Edits → Type 0
IsEdited (put path bytes) edits after = (other : List ℕ) → after other ≡ with_edit path (Some bytes) edits other
IsEdited (dropped path) edits after = (other : List ℕ) → after other ≡ with_edit path None edits other
IsEdited build edits after = (other : List ℕ) → after other ≡ edits other

-- a read that failed, of the file at a path of which this holds
abbrev pub IfUnread : {A : Type 0} → Result A BuildFault → (List ℕ → Type 0) → Type 0
IfUnread (Ok it) P = Unit {0}
IfUnread (Err (Unread path)) P = P path
IfUnread (Err OutOfMemory) P = Unit {0}

abbrev pub IsUnread : {A : Type 0} → Result A BuildFault → Type 0
IsUnread result = (path : List ℕ) × (result ≡ Err (Unread path))

-- What a build of these files writes is as `writes` says, by what was kept before it and is kept after it.
module _ (writes : Told → Map → Map → List ℕ → Type 0) (base : Told) where
  -- what one edit does to what is kept, and what is written of it
  abbrev pub Adds : Step → Edits → Map → Map → List ℕ → Type 0
  Adds (put path bytes) edits kept after more = (after ≡ kept) × (more ≡ [])
  Adds (dropped path) edits kept after more = (after ≡ kept) × (more ≡ [])
  Adds build edits kept after more = writes (option_map (edited edits) base) kept after more

  -- the same, with what it does to the edits so far, where the text is written behind another
  abbrev pub Does : Step → Edits → Map → List ℕ → Edits → Map → List ℕ → Type 0
  Does step edits kept text edits_new kept_new text_new =
      IsEdited step edits edits_new × ((more : List ℕ) × Adds step edits kept kept_new more × (text_new ≡ text ++ more))

  -- What the builds among these edits write, after the edits so far.
  pub data Writes : List Step → Edits → Map → List ℕ → Type 0 where
    ended : {edits : Edits} {kept : Map} → Writes [] edits kept []
    goes : {step : Step} {steps : List Step} {edits : Edits} {kept : Map} {rest : List ℕ} (after : Edits) (kept_after : Map) (more : List ℕ) → IsEdited step edits after → Adds step edits kept kept_after more
        → Writes steps after kept_after rest → Writes (step ∷ steps) edits kept (more ++ rest)

  -- the same from the first edit on
  pub record WritesAll (kept : Map) (steps : List Step) (text : List ℕ) : Type 0 where
    pub edits : Edits
    pub none : (path : List ℕ) → edits path ≡ None
    pub are_written : Writes steps edits kept text

-- Which file a build of these files reads is as `reads` says.
module _ (reads : Told → List ℕ → Type 0) (base : Told) where
  -- this edit is a build that reads the file at this path
  abbrev pub ReadsAt : Step → Edits → List ℕ → Type 0
  ReadsAt (put path bytes) edits read = ⊥
  ReadsAt (dropped path) edits read = ⊥
  ReadsAt build edits read = reads (option_map (edited edits) base) read

  -- One of these edits is a build that reads the file at this path.
  pub data Reads : List Step → Edits → List ℕ → Type 0 where
    here : {step : Step} {steps : List Step} {edits : Edits} {read : List ℕ} → ReadsAt step edits read → Reads (step ∷ steps) edits read
    later : {step : Step} {steps : List Step} {edits : Edits} {read : List ℕ} (after : Edits) → IsEdited step edits after → Reads steps after read → Reads (step ∷ steps) edits read

  -- the same from the first edit on
  pub record ReadsIn (steps : List Step) (read : List ℕ) : Type 0 where
    pub edits : Edits
    pub none : (path : List ℕ) → edits path ≡ None
    pub is_read : Reads steps edits read
