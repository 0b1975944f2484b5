-- Modules that were read of files, the last of both.
use Rattle.std.proofs.Common.{◌≡◌, ℕ, List, [], ◌∷◌, ◌++◌, subst, sym}
use Rattle.rebuild.specs.Files.{AreReadOf, File}

module _ {M : Type 0} (reads : List ℕ → List ℕ → M → Type 0) where
  no-module : (files : List File) (file : File) → AreReadOf reads (files ++ file ∷ []) [] → ⊥
  no-module [] file read = read
  no-module (other ∷ files) file read = read

  no-file : (modules : List M) (made : M) → AreReadOf reads [] (modules ++ made ∷ []) → ⊥
  no-file [] made read = read
  no-file (other ∷ modules) made read = read

  last : (files : List File) (modules : List M) (file : File) (made : M) → AreReadOf reads (files ++ file ∷ []) (modules ++ made ∷ []) → AreReadOf reads files modules × reads file.0 file.1 made
  last [] [] file made read = (tt, read.0)
  last [] (other ∷ modules) file made read = absurd (no-file modules made read.1)
  last (other ∷ files) [] file made read = absurd (no-module files file read.1)
  last (other ∷ files) (one ∷ modules) file made read =
      let rest = last files modules file made read.1 in
      ((read.0, rest.0), rest.1)

  pub last-read : (all files : List File) (every modules : List M) (file : File) (made : M) → all ≡ files ++ file ∷ [] → every ≡ modules ++ made ∷ [] → AreReadOf reads all every
      → AreReadOf reads files modules × reads file.0 file.1 made
  last-read all files every modules file made e f read =
      let A : List File → Type 0 = λ list. AreReadOf reads list every in
      let E : List M → Type 0 = λ list. AreReadOf reads (files ++ file ∷ []) list in
      last files modules file made (subst E f (subst A e read))

  pub none-left : (all files : List File) (every : List M) (file : File) → all ≡ files ++ file ∷ [] → every ≡ [] → AreReadOf reads all every → ⊥
  none-left all files every file e f read =
      let A : List File → Type 0 = λ list. AreReadOf reads list every in
      let E : List M → Type 0 = λ list. AreReadOf reads (files ++ file ∷ []) list in
      no-module files file (subst E f (subst A e read))
