-- Files in memory of which no call fails: the bytes of each path.
use Rattle.std.specs.Prelude.{ℕ, List, Option}
use Rattle.es_outside.specs.Stores.{file_at}
use Rattle.sure_outside.specs.declared.sure_files.SureFiles.{SureFiles}

-- the bytes of the file with this path
abbrev pub sure_file_at : SureFiles → List ℕ → Option (List ℕ)
sure_file_at files path = file_at files.store path
