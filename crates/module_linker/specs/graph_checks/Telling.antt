-- What is told of the faults of loading and of linking.
use Rattle.std.specs.Prelude.{◌≡◌, ℕ, List}
use Rattle.es_text.specs.declared.Place.{Place}
use Rattle.es6_expr.specs.declared.fault.ParseFault.{ParseFault}
use Rattle.es6_expr.specs.declared.fault.ParseFault.TheVariants as parses
use Rattle.module_linker.specs.declared.module_checks.fault.ModuleFault.{ModuleFault}
use Rattle.module_linker.specs.declared.module_checks.fault.ModuleFault.TheVariants as modules
use Rattle.module_loading.specs.declared.fault.LoadFault.{LoadFault}
use Rattle.module_loading.specs.declared.fault.LoadFault.TheVariants as loads
use Rattle.module_links.specs.declared.fault.LinkFault.{LinkFault}
use Rattle.module_links.specs.declared.fault.LinkFault.TheVariants as links
use Rattle.graph_refusals.specs.declared.fault.GraphFault.{GraphFault}
use Rattle.graph_refusals.specs.declared.fault.GraphFault.TheVariants.{Refused, OutOfMemory}
use Rattle.graph_refusals.specs.declared.fault.FileFault.{FileFault}
use Rattle.graph_refusals.specs.declared.fault.FileFault.TheVariants.{Missing, ReadFailed, FileTooLong, GraphTooLong, NotUtf8, At}
use Rattle.graph_refusals.specs.declared.fault.PlacedFault.{PlacedFault}
use Rattle.graph_refusals.specs.declared.fault.PlacedFault.TheVariants as placed

abbrev pub refused : List ℕ → FileFault → GraphFault
refused path fault = Refused (record { path = path; fault = fault })

abbrev pub refused_at : List ℕ → Place → PlacedFault → GraphFault
refused_at path place fault = refused path (At place fault)

abbrev pub told_parse : List ℕ → Place → ParseFault → GraphFault
told_parse path place (parses.Syntax at) = refused_at path place placed.Syntax
told_parse path place (parses.Lexical at kind) = refused_at path place (placed.Lexical kind)
told_parse path place (parses.Outside rule at) = refused_at path place (placed.Outside rule)
told_parse path place (parses.Depth at) = refused_at path place placed.TooDeep
told_parse path place parses.OutOfMemory = OutOfMemory

abbrev pub told_module : List ℕ → ModuleFault → GraphFault
told_module path modules.FileTooLong = refused path FileTooLong
told_module path (modules.NotUtf8 at) = refused path (NotUtf8 at)
told_module path (modules.Parse place fault) = told_parse path place fault
told_module path (modules.Early place rule) = refused_at path place (placed.Early rule)
told_module path (modules.Outside place rule) = refused_at path place (placed.Outside rule)
told_module path modules.OutOfMemory = OutOfMemory

abbrev pub told_load : List ℕ → LoadFault ModuleFault → GraphFault
told_load entry (loads.BadSpecifier path place specifier) = refused_at path place (placed.BadSpecifier specifier)
told_load entry (loads.TooManyModules path place) = refused_at path place placed.TooManyModules
told_load entry (loads.ReadFault path) = refused path ReadFailed
told_load entry loads.EntryMissing = refused entry Missing
told_load entry (loads.Missing path place specifier) = refused_at path place (placed.MissingModule specifier)
told_load entry (loads.FileTooLong path) = refused path FileTooLong
told_load entry (loads.GraphTooLong path) = refused path GraphTooLong
told_load entry (loads.InModule path fault) = told_module path fault
told_load entry loads.OutOfMemory = OutOfMemory

abbrev pub told_link : LinkFault → GraphFault
told_link (links.Unresolved path place name) = refused_at path place (placed.Unresolved name)
told_link (links.Ambiguous path place name) = refused_at path place (placed.Ambiguous name)
told_link links.OutOfMemory = OutOfMemory

-- the path of the entry is copied, for which memory may run out
abbrev pub OrNoMemory : GraphFault → GraphFault → Type 0
OrNoMemory told (Refused refusal) = told ≡ Refused refusal
OrNoMemory told OutOfMemory = Unit {0}
