-- Files with edits lend what they lent before, and go on doing so.
use Rattle.std.specs.Prelude.{◌≡◌, ℕ, List, Option, refl}
use Rattle.std.proofs.Common.{◌∙◌}
use Rattle.std.proofs.Math.Nat.{le_refl, le_trans}
use Rattle.edited_files.specs.declared.edited_files.EditedFiles.{EditedFiles}
use Rattle.edited_files.specs.EditedFiles.{StillLends, base_of}

module _ {F : Type 0} (told : F → Option (List ℕ → Option (List ℕ))) (faults : F → ℕ) where
  pub lends_still : (it : EditedFiles F) → StillLends told faults it it
  lends_still it = record { edits = refl; files = refl; no_fall = le_refl (faults (base_of it).now); same_base = refl }

  pub lends_on : (a b c : EditedFiles F) → StillLends told faults a b → StillLends told faults b c → StillLends told faults a c
  lends_on a b c p q = record { edits = q.edits ∙ p.edits; files = q.files ∙ p.files; no_fall = le_trans p.no_fall q.no_fall; same_base = q.same_base ∙ p.same_base }
