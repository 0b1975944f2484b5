-- One edit, and what the edits after it write and read.
use Rattle.std.proofs.Common.{◌≡◌, ℕ, List, ◌∷◌, ◌++◌, Result, Err, refl, sym, ap, ◌∙◌, subst, append_assoc}
use Rattle.module_loading.specs.Files.{Told}
use Rattle.listed_builds.specs.declared.fault.BuildFault.{BuildFault}
use Rattle.listed_builds.specs.declared.fault.BuildFault.TheVariants.{Unread, OutOfMemory}
use Rattle.listed_builds.specs.Doing.{Does, Edits, IfUnread, IsEdited, Map, Reads, ReadsAt, Step, Writes, goes, here, later}

module _ (writes : Told → Map → Map → List ℕ → Type 0) (base : Told) where
  -- what the edits after it write, behind what is written with it, is what all write
  done : (step : Step) (steps : List Step) (edits after : Edits) (kept kept_after : Map) (text more rest : List ℕ) → Does writes base step edits kept text after kept_after more
      → Writes writes base steps after kept_after rest → (tail : List ℕ) × Writes writes base (step ∷ steps) edits kept tail × (text ++ tail ≡ more ++ rest)
  done step steps edits after kept kept_after text more rest does written =
      let line : List ℕ = does.1.0 in
      (line ++ rest, goes after kept_after line does.0 does.1.1 written, sym (append_assoc text line rest) ∙ ap (λ t. t ++ rest) (sym does.1.2))

  -- of the edits that are left one more is done
  pub one_more : (all left rest : List Step) (step : Step) (edits_first edits after : Edits) (kept_first kept kept_after : Map) (text more : List ℕ) → left ≡ step ∷ rest
      → Does writes base step edits kept text after kept_after more
      → ((tail : List ℕ) → Writes writes base left edits kept tail → Writes writes base all edits_first kept_first (text ++ tail))
      → (tail : List ℕ) → Writes writes base rest after kept_after tail → Writes writes base all edits_first kept_first (more ++ tail)
  one_more all left rest step edits_first edits after kept_first kept kept_after text more same does before tail written =
      let d = done step rest edits after kept kept_after text more tail does written in
      subst (λ (t : List ℕ). Writes writes base all edits_first kept_first t) d.2 (before d.0 (subst (λ (l : List Step). Writes writes base l edits kept d.0) (sym same) d.1))

module _ (reads : Told → List ℕ → Type 0) (base : Told) where
  pub one_later : (all left rest : List Step) (step : Step) (edits_first edits after : Edits) → left ≡ step ∷ rest → IsEdited step edits after
      → ((read : List ℕ) → Reads reads base left edits read → Reads reads base all edits_first read) → (read : List ℕ) → Reads reads base rest after read → Reads reads base all edits_first read
  one_later all left rest step edits_first edits after same edited before read is =
      before read (subst (λ (l : List Step). Reads reads base l edits read) (sym same) (later after edited is))

  -- a read that failed is one of the edits that are left
  pub unread_there : (A : Type 0) {B : Type 0} (all left rest : List Step) (step : Step) (edits_first edits : Edits) (fault : BuildFault) (result : Result B BuildFault) → left ≡ step ∷ rest → result ≡ Err fault
      → ((read : List ℕ) → Reads reads base left edits read → Reads reads base all edits_first read) → IfUnread {A = A} (Err fault) (ReadsAt reads base step edits) → IfUnread result (Reads reads base all edits_first)
  unread_there A {B} all left rest step edits_first edits (Unread path) result is same before reading =
      subst (λ (r : Result B BuildFault). IfUnread r (Reads reads base all edits_first)) (sym same) (before path (subst (λ (l : List Step). Reads reads base l edits path) (sym is) (here reading)))
  unread_there A {B} all left rest step edits_first edits OutOfMemory result is same before reading =
      subst (λ (r : Result B BuildFault). IfUnread r (Reads reads base all edits_first)) (sym same) tt
