-- What is written of a build, from what the build and its telling answer.
use Rattle.std.proofs.Common.{◌≡◌, ◌≢◌, ℕ, List, length, map, Option, Some, None, Result, Ok, Err, IfOk, Vec, refl, sym, ap, ◌∙◌, subst}
use Rattle.std.specs.Global.{Global}
use Rattle.std.proofs.lemmas.List.{length-map}
use Rattle.std.specs.Prelude.{String, string_bytes}
use Rattle.es6_ast.specs.declared.graph.Graph.{Graph}
use Rattle.es6_ast.specs.declared.graph.LoadedModule.{LoadedModule}
use Rattle.es6_static_semantics.specs.Graphs.{IsLinked}
use Rattle.graph_refusals.specs.declared.fault.GraphFault.{GraphFault}
use Rattle.graph_refusals.specs.declared.fault.GraphFault.TheVariants as graph_fault
use Rattle.listed_builds.specs.Doing as listed
use Rattle.listed_builds.specs.Doing.{IfUnread, IsUnread, Map, Step}
use Rattle.listed_builds.specs.declared.fault.BuildFault.{BuildFault}
use Rattle.listed_builds.specs.declared.fault.BuildFault.TheVariants.{Unread, OutOfMemory}
use Rattle.module_links.specs.Links.{IsRefusal}
use Rattle.module_links.specs.declared.fault.LinkFault.{LinkFault}
use Rattle.module_loading.specs.Files.{Told}
use Rattle.module_loading.specs.Supplying.{StopsWhere}
use Rattle.module_loading.specs.declared.fault.LoadFault.{LoadFault}
use Rattle.module_loading.specs.declared.fault.LoadFault.TheVariants as loads
use Rattle.rebuild.specs.Building as rebuild
use Rattle.rebuild.specs.Building.{HasFailedRead, Keeps}
use Rattle.rebuild.specs.declared.fault.RebuildFault.{RebuildFault}
use Rattle.rebuild.specs.declared.fault.RebuildFault.TheVariants as build_fault
use Rattle.module_linker.specs.declared.module_checks.fault.ModuleFault.{ModuleFault}
use Rattle.module_linker.specs.graph_checks.Builds.{IsLoadTold, IsRefusedAs, IsRefusedText, IsTextOf, IsToldAs, ReadsNext, Writes, WritesAll, accepted, unloaded, unlinked}
use Rattle.module_linker.specs.graph_checks.Checks.{IsOfFiles}
use Rattle.module_linker.specs.graph_checks.Telling.{OrNoMemory, told_link, told_load}
use Rattle.module_linker.specs.module_checks.Reading.{IsRead}
use Rattle.module_linker.specs.Loading.{asked, refuses, shows, with_requests}
use Rattle.module_linker.specs.Rebuilding.{LinksTo}

same_some : {A : Type 0} {x y : A} → Some x ≡ Some y → x ≡ y
same_some e = cc

-- ---- telling

-- what is written of the fault that is told is written of what was to be told
pub as_told : (told answer : GraphFault) (result : Result (Vec ℕ Global) BuildFault) → OrNoMemory told answer → IsRefusedAs answer result → IsRefusedAs told result
as_told told answer (Ok text) or refused = record {
  refusal = refused.refusal;
  told_is = subst (λ (a : GraphFault). OrNoMemory told a) refused.told_is or;
  text_is = refused.text_is;
}
as_told told answer (Err (Unread path)) or refused = absurd refused
as_told told answer (Err OutOfMemory) or refused = tt

pub load_told : (entry : List ℕ) (fault : LoadFault ModuleFault) (result : Result (Vec ℕ Global) BuildFault) → ((path : List ℕ) → fault ≡ loads.ReadFault path → ⊥) → IsRefusedAs (told_load entry fault) result → IsLoadTold entry fault result
load_told entry (loads.ReadFault path) result other refused = absurd (other path refl)
load_told entry (loads.BadSpecifier path place specifier) result other refused = refused
load_told entry (loads.TooManyModules path place) result other refused = refused
load_told entry loads.EntryMissing result other refused = refused
load_told entry (loads.Missing path place specifier) result other refused = refused
load_told entry (loads.FileTooLong path) result other refused = refused
load_told entry (loads.GraphTooLong path) result other refused = refused
load_told entry (loads.InModule path fault) result other refused = refused
load_told entry loads.OutOfMemory result other refused = refused

-- ---- builds

-- what a build of modules answers
abbrev BuildsTo : Told → List ℕ → List (List ℕ) → Map → Map → Option Graph → Result (Vec (String Global) Global) (RebuildFault ModuleFault LinkFault) → Type 0
BuildsTo told entry hosts before after graph result =
    rebuild.BuildsTo IsRead asked shows refuses with_requests (λ (modules : List LoadedModule). record { modules = modules }) LinksTo IsRefusal told entry hosts before after graph result

module _ (is_text : Graph → List (List ℕ) → List ℕ → Type 0) (told : Told) (entry : List ℕ) (hosts : List (List ℕ)) (before after : Map) where
  pub built_writes : (parsed : Vec (String Global) Global) (count : ℕ) (found : Option Graph) (graph : Graph) (text : List ℕ)
      → BuildsTo told entry hosts before after found (Ok parsed)
      → count ≡ length parsed.items → found ≡ Some graph → IsTextOf is_text hosts graph count text → Writes is_text entry hosts told before after text
  built_writes parsed count found graph text a size is written =
      let same : graph ≡ a.linked = same_some (sym is ∙ a.graph_is) in
      let many = size ∙ sym (length-map parsed.items string_bytes) ∙ ap length a.parsed_are in
      accepted (record {
        graph = record { modules = a.loaded };
        loads = a.is_graph;
        linked = a.linked;
        relinked = a.links_to.0;
        keeps = a.keeps;
        is_text_of = subst (λ (n : ℕ). IsTextOf is_text hosts a.linked n text) many (subst (λ (g : Graph). IsTextOf is_text hosts g count text) same written);
      })

  unloaded_writes : (fault : LoadFault ModuleFault) (result : Result (Vec ℕ Global) BuildFault) → (fault ≡ loads.OutOfMemory → ⊥) → StopsWhere IsRead asked shows refuses told entry (λ modules. Keeps before after modules) fault
      → IsOfFiles fault → IsRefusedAs (told_load entry fault) result → IfOk result (λ text. Writes is_text entry hosts told before after text.items)
  unloaded_writes fault (Ok text) some stops of_files refused = unloaded (record { fault = fault; of_files = of_files; stops = stops; refused = refused })
  unloaded_writes fault (Err unread) some stops of_files refused = tt

  unlinked_writes : (fault : LinkFault) (result : Result (Vec ℕ Global) BuildFault) → rebuild.IsUnlinked IsRead asked shows refuses with_requests (λ (modules : List LoadedModule). record { modules = modules }) LinksTo IsRefusal told entry hosts before after fault
      → IsRefusedAs (told_link fault) result → IfOk result (λ text. Writes is_text entry hosts told before after text.items)
  unlinked_writes fault (Ok text) u refused = unlinked (record { graph = record { modules = u.loaded }; loads = u.is_graph; fault = fault; refusal = u.refused; keeps = u.keeps; refused = refused })
  unlinked_writes fault (Err unread) u refused = tt

  pub refused_writes : (fault : RebuildFault ModuleFault LinkFault) (found : Option Graph) (result : Result (Vec ℕ Global) BuildFault)
      → BuildsTo told entry hosts before after found (Err fault)
      → IsToldAs entry fault result → IfOk result (λ text. Writes is_text entry hosts told before after text.items)
  refused_writes (build_fault.Link fault) found result u refused = unlinked_writes fault result u refused
  refused_writes build_fault.OutOfMemory found (Ok text) u refused = absurd (cc)
  refused_writes build_fault.OutOfMemory found (Err fault) u refused = tt
  refused_writes (build_fault.Load (loads.ReadFault path)) found (Ok text) u refused = absurd (cc)
  refused_writes (build_fault.Load (loads.ReadFault path)) found (Err fault) u refused = tt
  refused_writes (build_fault.Load (loads.BadSpecifier path place specifier)) found result u refused = unloaded_writes (loads.BadSpecifier path place specifier) result u.0 u.1 tt refused
  refused_writes (build_fault.Load (loads.TooManyModules path place)) found result u refused = unloaded_writes (loads.TooManyModules path place) result u.0 u.1 tt refused
  refused_writes (build_fault.Load loads.EntryMissing) found result u refused = unloaded_writes loads.EntryMissing result u.0 u.1 tt refused
  refused_writes (build_fault.Load (loads.Missing path place specifier)) found result u refused = unloaded_writes (loads.Missing path place specifier) result u.0 u.1 tt refused
  refused_writes (build_fault.Load (loads.FileTooLong path)) found result u refused = unloaded_writes (loads.FileTooLong path) result u.0 u.1 tt refused
  refused_writes (build_fault.Load (loads.GraphTooLong path)) found result u refused = unloaded_writes (loads.GraphTooLong path) result u.0 u.1 tt refused
  refused_writes (build_fault.Load (loads.InModule path fault)) found result u refused = unloaded_writes (loads.InModule path fault) result u.0 u.1 tt refused
  refused_writes (build_fault.Load loads.OutOfMemory) found result u refused = absurd (u.0 refl)

  -- a fault that isn't of a read that failed is told as another
  refused_reads : (told_as : GraphFault) (result : Result (Vec ℕ Global) BuildFault) (P : List ℕ → Type 0) → IsRefusedAs told_as result → IfUnread result P
  refused_reads told_as (Ok text) P refused = tt
  refused_reads told_as (Err (Unread path)) P refused = absurd refused
  refused_reads told_as (Err OutOfMemory) P refused = tt

  pub build_reads : (fault : RebuildFault ModuleFault LinkFault) (found : Option Graph) (result : Result (Vec ℕ Global) BuildFault)
      → BuildsTo told entry hosts before after found (Err fault)
      → IsToldAs entry fault result → IfUnread result (ReadsNext entry told)
  build_reads (build_fault.Link fault) found result u refused = refused_reads (told_link fault) result (ReadsNext entry told) refused
  build_reads build_fault.OutOfMemory found result u refused = subst (λ (r : Result (Vec ℕ Global) BuildFault). IfUnread r (ReadsNext entry told)) (sym refused) tt
  build_reads (build_fault.Load (loads.ReadFault path)) found result u refused =
      subst (λ (r : Result (Vec ℕ Global) BuildFault). IfUnread r (ReadsNext entry told)) (sym refused) (record { modules = u.1.is.0; next = u.1.is.1 })
  build_reads (build_fault.Load (loads.BadSpecifier path place specifier)) found result u refused = refused_reads (told_load entry (loads.BadSpecifier path place specifier)) result (ReadsNext entry told) refused
  build_reads (build_fault.Load (loads.TooManyModules path place)) found result u refused = refused_reads (told_load entry (loads.TooManyModules path place)) result (ReadsNext entry told) refused
  build_reads (build_fault.Load loads.EntryMissing) found result u refused = refused_reads (told_load entry loads.EntryMissing) result (ReadsNext entry told) refused
  build_reads (build_fault.Load (loads.Missing path place specifier)) found result u refused = refused_reads (told_load entry (loads.Missing path place specifier)) result (ReadsNext entry told) refused
  build_reads (build_fault.Load (loads.FileTooLong path)) found result u refused = refused_reads (told_load entry (loads.FileTooLong path)) result (ReadsNext entry told) refused
  build_reads (build_fault.Load (loads.GraphTooLong path)) found result u refused = refused_reads (told_load entry (loads.GraphTooLong path)) result (ReadsNext entry told) refused
  build_reads (build_fault.Load (loads.InModule path fault)) found result u refused = refused_reads (told_load entry (loads.InModule path fault)) result (ReadsNext entry told) refused
  build_reads (build_fault.Load loads.OutOfMemory) found result u refused = refused_reads (told_load entry loads.OutOfMemory) result (ReadsNext entry told) refused

-- a read that failed is the build's own
refused_fails : (told_as : GraphFault) (result : Result (Vec ℕ Global) BuildFault) → IsRefusedAs told_as result → IsUnread result → ⊥
refused_fails told_as result refused unread = subst (λ (r : Result (Vec ℕ Global) BuildFault). IsRefusedAs told_as r) unread.1 refused

pub build_failed : {A : Type 0} (entry : List ℕ) (fault : RebuildFault ModuleFault LinkFault) (answer : Result A (RebuildFault ModuleFault LinkFault)) (result : Result (Vec ℕ Global) BuildFault)
    → answer ≡ Err fault → IsToldAs entry fault result → IsUnread result → HasFailedRead answer
build_failed entry (build_fault.Link fault) answer result is refused unread = absurd (refused_fails (told_link fault) result refused unread)
build_failed entry build_fault.OutOfMemory answer result is refused unread = absurd (let both = sym refused ∙ unread.1 in cc)
build_failed entry (build_fault.Load (loads.ReadFault path)) answer result is refused unread = (path, is)
build_failed entry (build_fault.Load (loads.BadSpecifier path place specifier)) answer result is refused unread = absurd (refused_fails (told_load entry (loads.BadSpecifier path place specifier)) result refused unread)
build_failed entry (build_fault.Load (loads.TooManyModules path place)) answer result is refused unread = absurd (refused_fails (told_load entry (loads.TooManyModules path place)) result refused unread)
build_failed entry (build_fault.Load loads.EntryMissing) answer result is refused unread = absurd (refused_fails (told_load entry loads.EntryMissing) result refused unread)
build_failed entry (build_fault.Load (loads.Missing path place specifier)) answer result is refused unread = absurd (refused_fails (told_load entry (loads.Missing path place specifier)) result refused unread)
build_failed entry (build_fault.Load (loads.FileTooLong path)) answer result is refused unread = absurd (refused_fails (told_load entry (loads.FileTooLong path)) result refused unread)
build_failed entry (build_fault.Load (loads.GraphTooLong path)) answer result is refused unread = absurd (refused_fails (told_load entry (loads.GraphTooLong path)) result refused unread)
build_failed entry (build_fault.Load (loads.InModule path fault)) answer result is refused unread = absurd (refused_fails (told_load entry (loads.InModule path fault)) result refused unread)
build_failed entry (build_fault.Load loads.OutOfMemory) answer result is refused unread = absurd (refused_fails (told_load entry loads.OutOfMemory) result refused unread)

-- the builds among edits begin with nothing kept
pub all_written : (is_text : Graph → List (List ℕ) → List ℕ → Type 0) (entry : List ℕ) (hosts : List (List ℕ)) (told : Told) (steps : List Step) (kept : Map) → ((path : List ℕ) → kept path ≡ None)
    → (result : Result (Vec ℕ Global) BuildFault) → IfOk result (λ text. listed.WritesAll (Writes is_text entry hosts) told kept steps text.items) → IfOk result (λ text. WritesAll is_text entry hosts told steps text.items)
all_written is_text entry hosts told steps kept none (Ok text) written = record { kept = kept; none = none; are_written = written }
all_written is_text entry hosts told steps kept none (Err fault) written = tt
