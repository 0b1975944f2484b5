-- The modules of a graph, loaded or linked, are those that were read but for the numbers of their requests and their endings.
use Rattle.std.proofs.Common.{◌≡◌, ℕ, zero, suc, List, [], ◌∷◌, length, map, Some, refl, sym, ap, ◌∙◌, arith, slice_get}
use Rattle.es6_ast.specs.declared.graph.EndOf.{EndOf}
use Rattle.es6_ast.specs.declared.graph.Graph.{Graph}
use Rattle.es6_ast.specs.declared.graph.LoadedModule.{LoadedModule}
use Rattle.es6_ast.specs.declared.graph.Request.{Request}
use Rattle.es6_ast.specs.declared.module.Specifier.{Specifier}
use Rattle.es6_static_semantics.specs.Graphs.{specifiers}
use Rattle.module_links.specs.Links.{linked_with}
use Rattle.module_links.specs.Zips.{zipped}
use Rattle.module_loading.specs.Files.{Told}
use Rattle.module_loading.specs.Loading.{IsGraph, Loaded, paths_of}
use Rattle.module_loading.specs.Requests.{numbered, renumbered}
use Rattle.module_loading.proofs.Ended.{comes-read}
use Rattle.module_requests.specs.Requests.{open_request}
use Rattle.rebuild.specs.Opening.{opened_request}
use Rattle.module_linker.specs.module_checks.Reading.{IsRead}
use Rattle.module_linker.specs.Linking.{IsRelinked}
use Rattle.module_linker.specs.Loading.{asked, with_requests}
use Rattle.module_linker.specs.Rebuilding.{opened}

open-opened : (ss : List Specifier) → map opened_request (map open_request ss) ≡ map open_request ss
open-opened [] = refl
open-opened (s ∷ ss) = ap (λ rest. open_request s ∷ rest) (open-opened ss)

numbered-opened : (paths : List (List ℕ)) (base : List ℕ) (rs : List Request) → map opened_request (map (numbered paths base) rs) ≡ map opened_request rs
numbered-opened paths base [] = refl
numbered-opened paths base (r ∷ rs) = ap (λ rest. opened_request r ∷ rest) (numbered-opened paths base rs)

-- a module that is read is open
read-opened : (path bytes : List ℕ) (m : LoadedModule) → IsRead path bytes m → opened m ≡ m
read-opened path bytes m read =
    let same : map opened_request m.requests ≡ m.requests = ap (λ rs. map opened_request rs) read.requests_are ∙ open-opened (specifiers m.tree) ∙ sym read.requests_are in
    ap (λ rs. record m { requests = rs; endings = [] }) same ∙ ap (λ ends. record m { endings = ends }) (sym read.unlinked)

all-opened : (paths : List (List ℕ)) (ms : List (Loaded LoadedModule)) → ((i : ℕ) (m : Loaded LoadedModule) → slice_get ms i ≡ Some m → IsRead m.path m.bytes m.made)
    → map opened (map (λ (m : Loaded LoadedModule). renumbered asked with_requests paths m.made m.path) ms) ≡ map (λ (m : Loaded LoadedModule). m.made) ms
all-opened paths [] each = refl
all-opened paths (m ∷ ms) each =
    let one : opened (renumbered asked with_requests paths m.made m.path) ≡ m.made
    = ap (λ rs. record m.made { requests = rs; endings = [] }) (numbered-opened paths m.path m.made.requests) ∙ read-opened m.path m.bytes m.made (each zero m refl) in
    ap (λ first. first ∷ map opened (map (λ (n : Loaded LoadedModule). renumbered asked with_requests paths n.made n.path) ms)) one
    ∙ ap (λ rest. m.made ∷ rest) (all-opened paths ms (λ i n at. each (suc i) n at))

pub loaded_opened : (told : Told) (entry : List ℕ) (modules : List LoadedModule) (graph : IsGraph told IsRead asked entry with_requests modules)
    → map opened modules ≡ map (λ (m : Loaded LoadedModule). m.made) graph.modules
loaded_opened told entry modules graph =
    ap (λ list. map opened list) graph.graph_is ∙ all-opened (paths_of graph.modules) graph.modules (λ i m at. (comes-read told IsRead asked graph.ends i m at).read)

zipped-opened : (ms : List LoadedModule) (all : List (List EndOf)) → length all ≡ length ms → map opened (zipped linked_with ms all) ≡ map opened ms
zipped-opened [] all size = refl
zipped-opened (m ∷ ms) [] size = absurd (omega (arith, size))
zipped-opened (m ∷ ms) (ends ∷ all) size = ap (λ rest. opened m ∷ rest) (zipped-opened ms all (omega (arith, size)))

pub linked_opened : (graph linked : Graph) (hosts : List (List ℕ)) → IsRelinked graph hosts linked → map opened linked.modules ≡ map opened graph.modules
linked_opened graph linked hosts links = ap (λ list. map opened list) links.put ∙ zipped-opened graph.modules links.endings links.ends.size
