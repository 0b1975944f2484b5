-- From the run of a loaded graph to that of an entry's.
use Rattle.std.proofs.Common.{ℕ, List, Option, Result, Ok, Err}
use Rattle.es6_ast.specs.declared.graph.Graph.{Graph}
use Rattle.graph_refusals.specs.declared.fault.GraphFault.{GraphFault}
use Rattle.program_runs.specs.Around.{Around}
use Rattle.program_runs.specs.declared.end.RunEnd.{RunEnd}
use Rattle.module_linker.specs.Loading.{IsGraphOf}
use Rattle.module_linker.specs.graph_checks.Runs.{RunsGraph, RunsLoaded}
use Rattle.module_linker.proofs.graph_checks.Told.{link_fault}

pub ran_checked : (hosts : List (List ℕ)) (told : Option (List ℕ → Option (List ℕ))) (entry : List ℕ) (faults_old faults_new steps : ℕ) (old new : Around) (g : Graph) (r : Result RunEnd GraphFault)
    → IsGraphOf told entry g → RunsLoaded g hosts steps old new r → RunsGraph hosts told faults_old faults_new entry steps old new r
ran_checked hosts told entry faults_old faults_new steps old new g (Ok e) loads h =
    record { graph = g; loads = loads; linked = h.linked; relinked = h.relinked; outcome = h.outcome }
ran_checked hosts told entry faults_old faults_new steps old new g (Err answer) loads h =
    (link_fault told hosts entry faults_old faults_new h.fault answer (record { graph = g; loads = loads; refused = h.refused }) h.told, h.untouched)
