-- The line of the two runs of a sample.
use Rattle.std.specs.Prelude.{ℕ, ◌+◌, List, [], ◌++◌, codes}
use Rattle.std.specs.Fmt.{decimal}
use Rattle.run_lines.specs.Endings.{left_line, still_line, threw_line}
use Rattle.sample_runs.specs.Comparing.{most_steps}
use Rattle.sample_runs.specs.declared.comparison.Comparison.{Comparison}
use Rattle.sample_runs.specs.declared.comparison.Comparison.TheVariants.{Left, Same, Spent, Threw, Unlike, Unread}

-- of so many modules beside the entry, where both runs had the same events, so many
abbrev pub same_line : ℕ → ℕ → List ℕ
same_line count events =
    (codes "sample " ++ decimal count) ++ ((codes ": modules " ++ decimal (count + 1)) ++ ((codes ", events " ++ decimal events) ++ codes ", same\n"))

-- what is written of the comparison; of runs whose events differ and of what is no script there is nothing
abbrev pub sample_line : ℕ → Comparison → List ℕ
sample_line count (Same events) = same_line count events
sample_line count (Threw seen) = threw_line seen
sample_line count (Left exit path place) = left_line exit path place
sample_line count Spent = still_line most_steps
sample_line count Unlike = []
sample_line count (Unread fault) = []
