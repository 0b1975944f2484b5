use Rattle.cells_keep_runs.proofs.Apart.{functions_apart, kept_foreign, modules_apart, none_declared}
use Rattle.cells_keep_runs.proofs.lawful_names_are_apart.Goals as goal

pub returns : goal.returns
returns c = record { modules = modules_apart; functions = functions_apart; declared = none_declared; kept = kept_foreign }
