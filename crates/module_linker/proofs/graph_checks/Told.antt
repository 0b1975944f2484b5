-- From what loading and linking answer to what is told.
use Rattle.std.proofs.Common.{◌≡◌, ℕ, List, Option, Result, Err, refl, sym, ap, subst, ◌∙◌}
use Rattle.es_outside.specs.Counts.{CountRose}
use Rattle.module_linker.specs.declared.module_checks.fault.ModuleFault.{ModuleFault}
use Rattle.module_loading.specs.declared.fault.LoadFault.{LoadFault}
use Rattle.module_loading.specs.declared.fault.LoadFault.TheVariants as loads
use Rattle.module_links.specs.declared.fault.LinkFault.{LinkFault}
use Rattle.module_linker.specs.declared.checking.CheckFault.{CheckFault}
use Rattle.module_linker.specs.declared.checking.CheckFault.TheVariants.{Load, Link}
use Rattle.module_linker.specs.Checking.{HasCheckFault, HasFailedRead, IsUnlinked}
use Rattle.module_linker.specs.Loading.{IsFaultOf}
use Rattle.graph_refusals.specs.declared.fault.GraphFault.{GraphFault}
use Rattle.graph_refusals.specs.declared.fault.GraphFault.TheVariants.{Refused, OutOfMemory}
use Rattle.graph_refusals.specs.declared.fault.FileFault.TheVariants.{ReadFailed}
use Rattle.graph_refusals.specs.declared.fault.Refusal.{Refusal}
use Rattle.module_linker.specs.graph_checks.Checks.{HasGraphFault, IsRefusedFor, by_files, by_reading, unlinked, unloaded}
use Rattle.module_linker.specs.graph_checks.Telling.{OrNoMemory, told_link, told_load}

same_refusal : (a b : Refusal) → Refused a ≡ Refused b → a ≡ b
same_refusal a b e = cc

-- what is told with a copy of the entry's path
pub told_with : (entry path : List ℕ) (fault : LoadFault ModuleFault) (answer : GraphFault) → path ≡ entry → answer ≡ told_load path fault → OrNoMemory (told_load entry fault) answer
told_with entry path fault (Refused refusal) e f = ap (λ (p : List ℕ). told_load p fault) (sym e) ∙ sym f
told_with entry path fault OutOfMemory e f = tt

abbrev failed_by : {A : Type 0} → CheckFault → Result A CheckFault
failed_by fault = Err fault

module _ (told : Option (List ℕ → Option (List ℕ))) (hosts : List (List ℕ)) (entry : List ℕ) (old new : ℕ) where
  refused_load : (fault : LoadFault ModuleFault) (refusal : Refusal) → IsFaultOf told entry fault → ((path : List ℕ) → fault ≡ loads.ReadFault path → CountRose old new) → told_load entry fault ≡ Refused refusal → IsRefusedFor told hosts entry old new refusal
  refused_load (loads.BadSpecifier path place specifier) r f rose e = by_files (unloaded (loads.BadSpecifier path place specifier) f tt e)
  refused_load (loads.TooManyModules path place) r f rose e = by_files (unloaded (loads.TooManyModules path place) f tt e)
  refused_load (loads.ReadFault path) r f rose e =
      let unread : Refusal = record { path = path; fault = ReadFailed } in
      let same : unread ≡ r = same_refusal unread r e in
      subst (λ (x : Refusal). IsRefusedFor told hosts entry old new x) same (by_reading (rose path refl) (record { modules = f.0; next = f.1 }))
  refused_load loads.EntryMissing r f rose e = by_files (unloaded loads.EntryMissing f tt e)
  refused_load (loads.Missing path place specifier) r f rose e = by_files (unloaded (loads.Missing path place specifier) f tt e)
  refused_load (loads.FileTooLong path) r f rose e = by_files (unloaded (loads.FileTooLong path) f tt e)
  refused_load (loads.GraphTooLong path) r f rose e = by_files (unloaded (loads.GraphTooLong path) f tt e)
  refused_load (loads.InModule path fault) r f rose e = by_files (unloaded (loads.InModule path fault) f tt e)
  refused_load loads.OutOfMemory r f rose e = by_files (unloaded loads.OutOfMemory f tt e)

  pub load_fault : (fault : LoadFault ModuleFault) (answer : GraphFault) → IsFaultOf told entry fault → ((path : List ℕ) → fault ≡ loads.ReadFault path → CountRose old new) → OrNoMemory (told_load entry fault) answer → HasGraphFault told hosts entry old new answer
  load_fault fault (Refused refusal) f rose e = refused_load fault refusal f rose e
  load_fault fault OutOfMemory f rose e = tt

  pub link_fault : (fault : LinkFault) (answer : GraphFault) → IsUnlinked told entry hosts fault → answer ≡ told_link fault → HasGraphFault told hosts entry old new answer
  link_fault fault (Refused refusal) l e = by_files (unlinked l.graph fault l.loads l.refused (sym e))
  link_fault fault OutOfMemory l e = tt

  pub check_load : {A : Type 0} (failed : CheckFault) (fault : LoadFault ModuleFault) (answer : GraphFault) → failed ≡ Load fault → HasCheckFault told entry hosts failed → (HasFailedRead (failed_by {A = A} failed) → CountRose old new) → OrNoMemory (told_load entry fault) answer → HasGraphFault told hosts entry old new answer
  check_load failed fault answer e h rose o =
      load_fault fault answer (subst (λ (x : CheckFault). HasCheckFault told entry hosts x) e h) (λ path f. rose (path, ap failed_by (e ∙ ap Load f))) o

  pub check_link : (failed : CheckFault) (fault : LinkFault) (answer : GraphFault) → failed ≡ Link fault → HasCheckFault told entry hosts failed → answer ≡ told_link fault → HasGraphFault told hosts entry old new answer
  check_link failed fault answer e h f = link_fault fault answer (subst (λ (x : CheckFault). HasCheckFault told entry hosts x) e h) f
