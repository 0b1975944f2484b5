-- What is kept once a graph is loaded or refused, and that this is what a build answers.
use Rattle.std.proofs.Common.{◌≡◌, ℕ, List, [], map, Option, Result, Ok, Err, Vec, String, refl, sym, ap, ◌∙◌, subst}
use Rattle.std.specs.Global.{Global}
use Rattle.es_text.specs.declared.Place.{Place}
use Rattle.es6_ast.specs.declared.graph.Request.{Request}
use Rattle.module_loading.specs.Files.{Told}
use Rattle.module_loading.specs.Loading.{Comes, FollowsFile, IsFault, IsFirst, IsGraph, IsNext, Loaded, the_entry, the_requested}
use Rattle.module_loading.specs.Supplying.{AreOut, HandsOut, HoldsBefore, LoadsFrom, StopsWhere}
use Rattle.module_loading.specs.declared.fault.LoadFault.{LoadFault}
use Rattle.module_loading.specs.declared.fault.LoadFault.TheVariants as fault
use Rattle.rebuild.specs.declared.fault.RebuildFault.{RebuildFault}
use Rattle.rebuild.specs.declared.fault.RebuildFault.TheVariants.{Load, Link, OutOfMemory}
use Rattle.rebuild.specs.declared.shelf.Shelf.{Shelf}
use Rattle.rebuild.specs.Building.{BuildsTo, Keeps}
use Rattle.rebuild.specs.Files.{AreReadOf, Map, file_of, with_files}
use Rattle.rebuild.specs.Keeping.{Accepts, IsCleared, KeepsOut, Refuses, UnlessNoMemory}
use Rattle.rebuild.specs.Shelves.{HandsOver, shelved}
use Rattle.rebuild.proofs.Chain.{AreNew, IsOut, comes-are-read, comes-new, handed, with-others}

-- what is known of the modules that pass
record IsReached {M : Type 0} (reads : List ℕ → List ℕ → M → Type 0) (modules : List (Loaded M)) : Type 0 where
  are_new : AreNew [] modules
  are_read : AreReadOf reads (map file_of modules) (map (λ m. m.made) modules)

pub unless : {F : Type 0} (P : Type 0) (f : LoadFault F) → UnlessNoMemory f P → (f ≡ fault.OutOfMemory → ⊥) → P
unless P (fault.BadSpecifier base place specifier) p memory = p
unless P (fault.TooManyModules base place) p memory = p
unless P (fault.ReadFault path) p memory = p
unless P fault.EntryMissing p memory = p
unless P (fault.Missing base place specifier) p memory = p
unless P (fault.FileTooLong path) p memory = p
unless P (fault.GraphTooLong path) p memory = p
unless P (fault.InModule path f) p memory = p
unless P fault.OutOfMemory p memory = absurd (memory refl)

module _ {M F : Type 0} (reads : List ℕ → List ℕ → M → Type 0) (requests : M → List Request) (shows : M → ℕ → Place → Type 0) (refuses : List ℕ → List ℕ → F → Type 0) (told : Told) (entry : List ℕ) where
  reached : {modules : List (Loaded M)} {waiting : _} → Comes told reads requests entry modules waiting → IsReached reads modules
  reached comes = record { are_new = comes-new told reads requests comes; are_read = comes-are-read told reads requests comes }

  next-reached : {modules : List (Loaded M)} {rest : _} {wait : _} {path : List ℕ} → IsNext told reads requests entry modules rest wait path → IsReached reads modules
  next-reached the_entry = record { are_new = tt; are_read = tt }
  next-reached (the_requested comes is_of names room) = reached comes

  known : (P Q : List (Loaded M) → Type 0) → ((modules : List (Loaded M)) → IsReached reads modules → P modules → Q modules) → (f : LoadFault F) (is : IsFault told reads requests entry shows refuses f)
      → HoldsBefore reads requests shows refuses told entry P f is → HoldsBefore reads requests shows refuses told entry Q f is
  known P Q so (fault.BadSpecifier base place specifier) is h = so is.modules (reached is.first.comes) h
  known P Q so (fault.TooManyModules base place) is h = so is.modules (reached is.first.comes) h
  known P Q so (fault.ReadFault path) is h = so is.0 (next-reached is.1.next) h
  known P Q so fault.EntryMissing is h = so [] (record { are_new = tt; are_read = tt }) h
  known P Q so (fault.Missing base place specifier) is h = so is.modules (reached is.first.comes) h
  known P Q so (fault.FileTooLong path) is h = so is.modules (next-reached is.next.next) h
  known P Q so (fault.GraphTooLong path) is h = so is.modules (next-reached is.next.next) h
  known P Q so (fault.InModule path f) is h = so is.modules (next-reached is.next.next) h
  known P Q so fault.OutOfMemory is h = tt

  said : (K : Type 0) (f : LoadFault F) (is : IsFault told reads requests entry shows refuses f) → HoldsBefore reads requests shows refuses told entry (λ modules. K) f is → UnlessNoMemory f K
  said K (fault.BadSpecifier base place specifier) is h = h
  said K (fault.TooManyModules base place) is h = h
  said K (fault.ReadFault path) is h = h
  said K fault.EntryMissing is h = h
  said K (fault.Missing base place specifier) is h = h
  said K (fault.FileTooLong path) is h = h
  said K (fault.GraphTooLong path) is h = h
  said K (fault.InModule path f) is h = h
  said K fault.OutOfMemory is h = tt

  module _ {R : Type 0} (before : Map) (start now : Shelf R M F) (cleared : IsCleared before start) (there : List M) where
    Out : List (Loaded M) → Type 0
    Out modules = AreOut (λ old path bytes new. HandsOver old path bytes new) start there now modules

    is-out : (modules : List (Loaded M)) → IsReached reads modules → HandsOut (λ old path bytes new. HandsOver old path bytes new) start modules now → IsOut before now modules
    is-out modules at hands = handed before start cleared.keeps cleared.out_is cleared.parsed_is hands at.are_new

    keeps-out : (after : Map) (modules : List (Loaded M)) → IsOut before now modules → KeepsOut now after → Keeps before after modules
    keeps-out after modules is keeps = λ path.
        keeps path ∙ ap (λ files. with_files files (shelved now) path) is.out_is ∙ with-others (shelved now) before modules path (is.others path)

    read-out : (made : List M) (modules : List (Loaded M)) → IsReached reads modules → IsOut before now modules → made ≡ map (λ m. m.made) modules → AreReadOf reads now.out made
    read-out made modules at is same =
        let A : _ → Type 0 = λ files. AreReadOf reads files made in
        let B : List M → Type 0 = λ list. AreReadOf reads (map file_of modules) list in
        subst A (sym is.out_is) (subst B (sym same) at.are_read)

    -- the modules that pass before a fault were read of the files that are out
    pub stopped-read : (f : LoadFault F) → StopsWhere reads requests shows refuses told entry (λ modules. AreOut (λ old path bytes new. HandsOver old path bytes new) start there now modules) f
        → UnlessNoMemory f (AreReadOf reads now.out there)
    stopped-read f stops =
        said (AreReadOf reads now.out there) f stops.is
        (known (λ modules. AreOut (λ old path bytes new. HandsOver old path bytes new) start there now modules) (λ modules. AreReadOf reads now.out there)
        (λ modules at out. read-out there modules at (is-out modules at out.handed) out.modules_are) f stops.is stops.holds)

    module _ {G L : Type 0} (requested : M → List Request → M) (graph_of : List M → G) (links : G → List (List ℕ) → G → Type 0) (unlinked : G → List (List ℕ) → L → Type 0) (hosts : List (List ℕ)) (after : Map) (graph : Option G) where
      pub refused : (f : LoadFault F) (result : Result (Vec (String Global) Global) (RebuildFault F L))
          → StopsWhere reads requests shows refuses told entry (λ modules. AreOut (λ old path bytes new. HandsOver old path bytes new) start there now modules) f → Refuses f now after result
          → BuildsTo reads requests shows refuses requested graph_of links unlinked told entry hosts before after graph result
      refused f (Ok parsed) stops is = absurd is
      refused f (Err (Load g)) stops is =
          let P : LoadFault F → Type 0 = λ h. (h ≡ fault.OutOfMemory → ⊥) × StopsWhere reads requests shows refuses told entry (λ modules. Keeps before after modules) h in
          subst P (sym is.0) (
            is.1,
            record {
              is = stops.is;
              holds = known (λ modules. AreOut (λ old path bytes new. HandsOver old path bytes new) start there now modules) (λ modules. Keeps before after modules)
                  (λ modules at out. keeps-out after modules (is-out modules at out.handed) is.2) f stops.is stops.holds;
            },
          )
      refused f (Err (Link g)) stops is = absurd is
      refused f (Err OutOfMemory) stops is = tt

      pub accepted : (is_graph : IsGraph told reads requests entry requested there) (result : Result (Vec (String Global) Global) (RebuildFault F L))
          → HandsOut (λ old path bytes new. HandsOver old path bytes new) start is_graph.modules now → Accepts links unlinked (graph_of there) hosts now after graph result
          → BuildsTo reads requests shows refuses requested graph_of links unlinked told entry hosts before after graph result
      accepted is_graph (Ok parsed) hands is =
          let out = is-out is_graph.modules (reached is_graph.ends) hands in record {
            loaded = there;
            is_graph = is_graph;
            linked = is.linked;
            links_to = is.links_to;
            graph_is = is.graph_is;
            parsed_are = is.parsed_is ∙ out.parsed_is;
            keeps = keeps-out after is_graph.modules out is.keeps_out;
          }
      accepted is_graph (Err (Load f)) hands is = absurd is
      accepted is_graph (Err (Link f)) hands is = record {
        loaded = there;
        is_graph = is_graph;
        refused = is.0;
        keeps = keeps-out after is_graph.modules (is-out is_graph.modules (reached is_graph.ends) hands) is.1;
      }
      accepted is_graph (Err OutOfMemory) hands is = tt

    -- the modules of a graph that is loaded were read of the files that are out
    pub loaded-read : (requested : M → List Request → M) (made : List M) (is_graph : IsGraph told reads requests entry requested there)
        → HandsOut (λ old path bytes new. HandsOver old path bytes new) start is_graph.modules now → made ≡ map (λ m. m.made) is_graph.modules → AreReadOf reads now.out made
    loaded-read requested made is_graph hands same =
        let at = reached is_graph.ends in
        read-out made is_graph.modules at (is-out is_graph.modules at hands) same
