-- What the entry of a graph is refused for by itself.
use Rattle.std.proofs.Common.{ℕ, ◌<◌, ◌≤◌, List, [], Option, Some, None, refl, length, arith}
use Rattle.std.specs.Str.{IsValidUpTo}
use Rattle.es_outside.specs.Counts.{CountRose}
use Rattle.module_linker.specs.declared.module_checks.fault.ModuleFault.TheVariants as modules
use Rattle.module_loading.specs.Files.{Holds}
use Rattle.es6_ast.specs.declared.graph.LoadedModule.{LoadedModule}
use Rattle.module_loading.specs.Loading.{Fits, FollowsFile, the_entry}
use Rattle.module_loading.specs.declared.fault.LoadFault.TheVariants as loads
use Rattle.graph_refusals.specs.declared.fault.FileFault.TheVariants.{Missing, ReadFailed, FileTooLong, NotUtf8}
use Rattle.module_linker.specs.module_checks.Reading.{IsRead}
use Rattle.module_linker.specs.Loading.{asked}
use Rattle.module_linker.specs.graph_checks.Checks.{IsRefusedFor, Refuses, by_reading, unloaded}

entry_next : (told : Option (List ℕ → Option (List ℕ))) (entry : List ℕ) → FollowsFile told IsRead asked entry [] entry
entry_next told entry = record { rest = []; wait = None; next = the_entry }

pub entry_missing : (told : Option (List ℕ → Option (List ℕ))) (hosts : List (List ℕ)) (entry : List ℕ) → Holds told entry None → Refuses told hosts entry (record { path = entry; fault = Missing })
entry_missing told hosts entry none = unloaded loads.EntryMissing none tt refl

pub entry_too_long : (told : Option (List ℕ → Option (List ℕ))) (hosts : List (List ℕ)) (entry bytes : List ℕ) → Holds told entry (Some bytes) → 4194304 < length bytes → Refuses told hosts entry (record { path = entry; fault = FileTooLong })
entry_too_long told hosts entry bytes holds long =
    unloaded (loads.FileTooLong entry) (record { modules = []; next = entry_next told entry; bytes = bytes; holds = holds; long = long }) tt refl

pub entry_no_text : (told : Option (List ℕ → Option (List ℕ))) (hosts : List (List ℕ)) (entry bytes : List ℕ) (at : ℕ) → Holds told entry (Some bytes) → length bytes ≤ 4194304 → IsValidUpTo bytes at → Refuses told hosts entry (record { path = entry; fault = NotUtf8 at })
entry_no_text told hosts entry bytes at holds short fault =
    let fits : Fits {M = LoadedModule} told [] entry bytes = record { holds = holds; short = short; within = omega arith } in
    unloaded (loads.InModule entry (modules.NotUtf8 at)) (record { modules = []; next = entry_next told entry; bytes = bytes; fits = fits; refused = (short, fault) }) tt refl

pub entry_unread : (told : Option (List ℕ → Option (List ℕ))) (hosts : List (List ℕ)) (entry : List ℕ) (old new : ℕ) → CountRose old new → IsRefusedFor told hosts entry old new (record { path = entry; fault = ReadFailed })
entry_unread told hosts entry old new rose = by_reading rose (record { modules = []; next = entry_next told entry })
