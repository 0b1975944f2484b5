-- Where files tell what stands at each path, a graph passes every check, or is refused, for faults that are all of a limit, or none is.
use Rattle.std.proofs.Common.{◌≡◌, ℕ, Bool, false, List, Option, Some, refl, sym, ap, subst, ◌∙◌}
use Rattle.es6_ast.specs.declared.graph.Graph.{Graph}
use Rattle.es6_ast.specs.declared.graph.LoadedModule.{LoadedModule}
use Rattle.es6_expr.specs.declared.fault.ParseFault.{ParseFault}
use Rattle.es6_expr.specs.declared.fault.ParseFault.TheVariants as parses
use Rattle.module_linker.specs.declared.module_checks.fault.ModuleFault.{ModuleFault}
use Rattle.module_linker.specs.declared.module_checks.fault.ModuleFault.TheVariants as modules
use Rattle.module_linker.specs.module_checks.Reading.{IsRead}
use Rattle.module_loading.specs.declared.fault.LoadFault.{LoadFault}
use Rattle.module_loading.specs.declared.fault.LoadFault.TheVariants as loads
use Rattle.module_links.specs.Links.{IsRefusal}
use Rattle.module_links.specs.declared.fault.LinkFault.{LinkFault}
use Rattle.module_links.specs.declared.fault.LinkFault.TheVariants as links
use Rattle.graph_refusals.specs.Lines.{is_limit}
use Rattle.graph_refusals.specs.declared.fault.GraphFault.{GraphFault}
use Rattle.graph_refusals.specs.declared.fault.GraphFault.TheVariants.{Refused, OutOfMemory}
use Rattle.graph_refusals.specs.declared.fault.FileFault.TheVariants.{ReadFailed}
use Rattle.graph_refusals.specs.declared.fault.Refusal.{Refusal}
use Rattle.module_linker.specs.Loading.{IsFaultOf, IsGraphOf, asked, refuses, shows, with_requests}
use Rattle.module_linker.specs.graph_checks.Checks.{IsOfFiles, Passes, Refuses, unlinked, unloaded}
use Rattle.module_linker.specs.graph_checks.Telling.{told_link, told_load, told_module, told_parse}
use Rattle.module_linker.proofs.graph_checks.Linked.{IsKnownLink, linked_or_refused}
use Rattle.module_loading.proofs.OneLoad.{IsSure, graph_or_fault, limit_of, one_fault_limit, one_graph}
use Rattle.module_linker.proofs.graph_checks.OneReading.{is_module_limit, one_way}

-- a fault that is told isn't want of memory
is_told : GraphFault → Type 0
is_told (Refused refusal) = Unit {0}
is_told OutOfMemory = ⊥

refusal_told : (fault : GraphFault) (refusal : Refusal) → fault ≡ Refused refusal → is_told fault
unfolding is_told
refusal_told fault refusal e = subst is_told (sym e) tt

load_sure : (entry : List ℕ) (fault : LoadFault ModuleFault) → is_told (told_load entry fault) → IsOfFiles fault → IsSure fault
unfolding is_told
load_sure entry (loads.BadSpecifier path place specifier) t o = tt
load_sure entry (loads.TooManyModules path place) t o = tt
load_sure entry (loads.ReadFault path) t o = o
load_sure entry loads.EntryMissing t o = tt
load_sure entry (loads.Missing path place specifier) t o = tt
load_sure entry (loads.FileTooLong path) t o = tt
load_sure entry (loads.GraphTooLong path) t o = tt
load_sure entry (loads.InModule path fault) t o = tt
load_sure entry loads.OutOfMemory t o = t

-- whether a fault is one of a limit, as it is told
limit_told : GraphFault → Bool
limit_told (Refused refusal) = is_limit refusal.fault
limit_told OutOfMemory = false

parse_limit : (path : List ℕ) (place : _) (fault : ParseFault) → limit_told (told_parse path place fault) ≡ is_module_limit (modules.Parse place fault)
unfolding limit_told
parse_limit path place (parses.Syntax at) = refl
parse_limit path place (parses.Lexical at kind) = refl
parse_limit path place (parses.Outside rule at) = refl
parse_limit path place (parses.Depth at) = refl
parse_limit path place parses.OutOfMemory = refl

module_limit : (path : List ℕ) (fault : ModuleFault) → limit_told (told_module path fault) ≡ is_module_limit fault
unfolding limit_told
module_limit path modules.FileTooLong = refl
module_limit path (modules.NotUtf8 at) = refl
module_limit path (modules.Parse place fault) = parse_limit path place fault
module_limit path (modules.Early place rule) = refl
module_limit path (modules.Outside place rule) = refl
module_limit path modules.OutOfMemory = refl

load_limit : (entry : List ℕ) (fault : LoadFault ModuleFault) → limit_told (told_load entry fault) ≡ limit_of is_module_limit fault
unfolding limit_told
load_limit entry (loads.BadSpecifier path place specifier) = refl
load_limit entry (loads.TooManyModules path place) = refl
load_limit entry (loads.ReadFault path) = refl
load_limit entry loads.EntryMissing = refl
load_limit entry (loads.Missing path place specifier) = refl
load_limit entry (loads.FileTooLong path) = refl
load_limit entry (loads.GraphTooLong path) = refl
load_limit entry (loads.InModule path fault) = module_limit path fault
load_limit entry loads.OutOfMemory = refl

load_refusal_limit : (entry : List ℕ) (fault : LoadFault ModuleFault) (refusal : Refusal) → told_load entry fault ≡ Refused refusal → is_limit refusal.fault ≡ limit_of is_module_limit fault
unfolding limit_told
load_refusal_limit entry fault refusal e = ap limit_told (sym e) ∙ load_limit entry fault

link_refusal_limit : (fault : LinkFault) (refusal : Refusal) → told_link fault ≡ Refused refusal → is_limit refusal.fault ≡ false
unfolding limit_told
link_refusal_limit fault refusal e = ap limit_told (sym e) ∙ by_fault fault
  where
    by_fault : (fault : LinkFault) → limit_told (told_link fault) ≡ false
    by_fault (links.Unresolved path place name) = refl
    by_fault (links.Ambiguous path place name) = refl
    by_fault links.OutOfMemory = refl

link_known : (fault : LinkFault) → is_told (told_link fault) → IsKnownLink fault
unfolding is_told
link_known (links.Unresolved path place name) t = tt
link_known (links.Ambiguous path place name) t = tt
link_known links.OutOfMemory t = t

-- what files are refused for is no read that failed
is_no_read : GraphFault → Type 0
is_no_read (Refused refusal) = refusal.fault ≡ ReadFailed → ⊥
is_no_read OutOfMemory = Unit {0}

parse_no_read : (path : List ℕ) (place : _) (fault : ParseFault) → is_no_read (told_parse path place fault)
unfolding is_no_read
parse_no_read path place (parses.Syntax at) = λ e. cc
parse_no_read path place (parses.Lexical at kind) = λ e. cc
parse_no_read path place (parses.Outside rule at) = λ e. cc
parse_no_read path place (parses.Depth at) = λ e. cc
parse_no_read path place parses.OutOfMemory = tt

module_no_read : (path : List ℕ) (fault : ModuleFault) → is_no_read (told_module path fault)
unfolding is_no_read
module_no_read path modules.FileTooLong = λ e. cc
module_no_read path (modules.NotUtf8 at) = λ e. cc
module_no_read path (modules.Parse place fault) = parse_no_read path place fault
module_no_read path (modules.Early place rule) = λ e. cc
module_no_read path (modules.Outside place rule) = λ e. cc
module_no_read path modules.OutOfMemory = tt

load_no_read : (entry : List ℕ) (fault : LoadFault ModuleFault) → IsOfFiles fault → is_no_read (told_load entry fault)
unfolding is_no_read
load_no_read entry (loads.BadSpecifier path place specifier) o = λ e. cc
load_no_read entry (loads.TooManyModules path place) o = λ e. cc
load_no_read entry (loads.ReadFault path) o = absurd o
load_no_read entry loads.EntryMissing o = λ e. cc
load_no_read entry (loads.Missing path place specifier) o = λ e. cc
load_no_read entry (loads.FileTooLong path) o = λ e. cc
load_no_read entry (loads.GraphTooLong path) o = λ e. cc
load_no_read entry (loads.InModule path fault) o = module_no_read path fault
load_no_read entry loads.OutOfMemory o = tt

link_no_read : (fault : LinkFault) → is_no_read (told_link fault)
unfolding is_no_read
link_no_read (links.Unresolved path place name) = λ e. cc
link_no_read (links.Ambiguous path place name) = λ e. cc
link_no_read links.OutOfMemory = tt

pub refuses_no_read : (told : Option (List ℕ → Option (List ℕ))) (hosts : List (List ℕ)) (entry : List ℕ) (refusal : Refusal) → Refuses told hosts entry refusal → refusal.fault ≡ ReadFailed → ⊥
unfolding is_no_read
refuses_no_read told hosts entry refusal (unloaded fault f o e) = subst is_no_read e (load_no_read entry fault o)
refuses_no_read told hosts entry refusal (unlinked graph fault a f e) = subst is_no_read e (link_no_read fault)

module _ (file : List ℕ → Option (List ℕ)) (hosts : List (List ℕ)) (entry : List ℕ) where
  same_graph : (g h : Graph) → IsGraphOf (Some file) entry g → IsGraphOf (Some file) entry h → g ≡ h
  same_graph g h a b = ap (λ (ms : List LoadedModule). record { modules = ms }) (one_graph file IsRead refuses asked entry is_module_limit one_way with_requests g.modules h.modules a b)

  loaded_or_not : (g : Graph) (fault : LoadFault ModuleFault) (refusal : Refusal) → IsGraphOf (Some file) entry g → IsFaultOf (Some file) entry fault → IsOfFiles fault → told_load entry fault ≡ Refused refusal → ⊥
  loaded_or_not g fault refusal a f o e =
      let told = refusal_told (told_load entry fault) refusal e in
      graph_or_fault file IsRead refuses asked entry is_module_limit one_way with_requests shows g.modules fault (load_sure entry fault told o) a f

  pub passes_or_refused : (refusal : Refusal) → Passes (Some file) hosts entry → Refuses (Some file) hosts entry refusal → ⊥
  passes_or_refused refusal p (unloaded fault f o e) = loaded_or_not p.graph fault refusal p.loaded f o e
  passes_or_refused refusal p (unlinked graph fault a f e) =
      let known = link_known fault (refusal_told (told_link fault) refusal e) in
      let same : graph ≡ p.graph = same_graph graph p.graph a p.loaded in
      linked_or_refused p.graph hosts p.endings fault known p.linked (subst (λ (g : Graph). IsRefusal g hosts fault) same f)

  pub one_limit_refused : (a b : Refusal) → Refuses (Some file) hosts entry a → Refuses (Some file) hosts entry b → is_limit a.fault ≡ is_limit b.fault
  one_limit_refused a b (unloaded f fa oa ea) (unloaded g fb ob eb) =
      let ta = refusal_told (told_load entry f) a ea in
      let tb = refusal_told (told_load entry g) b eb in
      load_refusal_limit entry f a ea
      ∙ one_fault_limit file IsRead refuses asked entry is_module_limit one_way shows f g (load_sure entry f ta oa) (load_sure entry g tb ob) fa fb
      ∙ sym (load_refusal_limit entry g b eb)
  one_limit_refused a b (unloaded f fa oa ea) (unlinked h g lb fb eb) = absurd (loaded_or_not h f a lb fa oa ea)
  one_limit_refused a b (unlinked h f la fa ea) (unloaded g fb ob eb) = absurd (loaded_or_not h g b la fb ob eb)
  one_limit_refused a b (unlinked h f la fa ea) (unlinked k g lb fb eb) = link_refusal_limit f a ea ∙ sym (link_refusal_limit g b eb)
