-- A graph that is loaded from files is a loaded graph.
use Rattle.std.proofs.Common.{◌≡◌, ℕ, zero, suc, ◌+◌, ◌≤◌, true, List, [], ◌∷◌, codes, length, map, sum_by, Option, Some, refl, sym, ap, ◌∙◌, subst, inl, inr, arith, All, AllPairs, slice_get, chars}
use Rattle.std.proofs.lemmas.List.{length-map}
use Rattle.std.proofs.lemmas.List.Elements.{All-cons, All-nil}
use Rattle.std.proofs.lemmas.List.Sums.{sum_by-cons}
use Rattle.std.proofs.lemmas.Slice.Eq.{bytes_eq-Decides}
use Rattle.es6_ast.specs.declared.graph.LoadedModule.{LoadedModule}
use Rattle.es6_ast.specs.declared.graph.Request.{Request}
use Rattle.es6_ast.specs.declared.module.Specifier.{Specifier}
use Rattle.es6_reading.proofs.Ordered.{order}
use Rattle.es6_static_semantics.specs.Graphs.{AreLoaded, no_module, one_module, IsLoaded, IsLoadedModule, IsRequest, IsText, request_place, specifier_place, specifiers}
use Rattle.module_linker.specs.module_checks.Reading.{IsRead}
use Rattle.module_loading.proofs.Coming.{comes-few}
use Rattle.module_loading.proofs.Ended.{IsSettled, comes-distinct, comes-read, comes-size, comes-some, ended-settled, settled-number}
use Rattle.module_loading.specs.Files.{Told}
use Rattle.module_loading.specs.Loading.{IsGraph, Loaded, paths_of, size_of}
use Rattle.module_loading.specs.Requests.{is_host, numbered, renumbered}
use Rattle.module_requests.specs.Requests.{open_request}
use Rattle.module_linker.specs.Loading.{asked, with_requests}

-- ## Requests

is-request : (paths : List (List ℕ)) (base : List ℕ) (r : Request) → IsSettled paths base r → IsRequest (length paths) (numbered paths base r)
is-request paths base r settled =
    let P : Option ℕ → Type 0 = λ o. IsRequest (length paths) (record r { «module» = o }) in
    elim (settled-number paths base r settled) [
      | inl none ↦ subst P (sym none.1) ((bytes_eq-Decides r.specifier (codes "host")).0 none.0)
      | inr one ↦ subst P (sym one.2) (one.3, λ e. (let host : is_host r ≡ true = (bytes_eq-Decides r.specifier (codes "host")).1 e in absurd (cc (host, one.1))))
    ]

are-requests : (paths : List (List ℕ)) (base : List ℕ) (rs : List Request) → ((j : ℕ) (r : Request) → slice_get rs j ≡ Some r → IsSettled paths base r) → All (IsRequest (length paths)) (map (numbered paths base) rs)
are-requests paths base [] each = All-nil (IsRequest (length paths))
are-requests paths base (r ∷ rs) each =
    All-cons (IsRequest (length paths)) (numbered paths base r) (map (numbered paths base) rs) (is-request paths base r (each zero r refl))
    (are-requests paths base rs (λ j q at. each (suc j) q at))

-- numbers change no place
placed : (paths : List (List ℕ)) (base : List ℕ) (ss : List Specifier) → map request_place (map (numbered paths base) (map open_request ss)) ≡ map specifier_place ss
placed paths base [] = refl
placed paths base (s ∷ ss) = ap (λ rest. specifier_place s ∷ rest) (placed paths base ss)

-- ## Modules

is-text : (path bytes : List ℕ) (m : LoadedModule) (rs : List Request) → IsRead path bytes m → IsText bytes (with_requests m rs)
is-text path bytes m rs r = record {
  within = r.spelled.lexed.short;
  utf8 = r.spelled.lexed.utf8;
  lines = r.lines_are;
  tokens = r.spelled.tokens;
  lexed = r.spelled.lexed.lexed;
  spelled = r.spelled.parsed.spelled;
  shallow = r.spelled.parsed.shallow (order (chars bytes) r.spelled.tokens r.spelled.lexed.lexed);
}

-- a module with the numbers of those that it requests
abbrev made_of : List (List ℕ) → Loaded LoadedModule → LoadedModule
made_of paths m = renumbered asked with_requests paths m.made m.path

is-loaded : (paths : List (List ℕ)) (m : Loaded LoadedModule) → IsRead m.path m.bytes m.made → ((j : ℕ) (r : Request) → slice_get m.made.requests j ≡ Some r → IsSettled paths m.path r) → IsLoadedModule (length paths) m.bytes (made_of paths m)
is-loaded paths m read done = record {
  text = is-text m.path m.bytes m.made (map (numbered paths m.path) m.made.requests) read;
  legal = read.legal;
  inside = read.inside;
  specified = ap (λ rs. map request_place (map (numbered paths m.path) rs)) read.requests_are ∙ placed paths m.path (specifiers m.made.tree);
  requested = are-requests paths m.path m.made.requests done;
}

are-loaded : (count : ℕ) (paths : List (List ℕ)) (ms : List (Loaded LoadedModule)) → ((i : ℕ) (m : Loaded LoadedModule) → slice_get ms i ≡ Some m → IsLoadedModule count m.bytes (made_of paths m)) → AreLoaded count (map (λ (m : Loaded LoadedModule). m.bytes) ms) (map (made_of paths) ms)
are-loaded count paths [] each = no_module
are-loaded count paths (m ∷ ms) each = one_module (each zero m refl) (are-loaded count paths ms (λ i n at. each (suc i) n at))

same-paths : (paths : List (List ℕ)) (ms : List (Loaded LoadedModule)) → ((i : ℕ) (m : Loaded LoadedModule) → slice_get ms i ≡ Some m → IsRead m.path m.bytes m.made) → map (λ (m : LoadedModule). m.path) (map (made_of paths) ms) ≡ paths_of ms
same-paths paths [] each = refl
same-paths paths (m ∷ ms) each =
    ap (λ rest. m.made.path ∷ rest) (same-paths paths ms (λ i n at. each (suc i) n at)) ∙ ap (λ path. path ∷ paths_of ms) (each zero m refl).path_is

unlinked : (paths : List (List ℕ)) (ms : List (Loaded LoadedModule)) → ((i : ℕ) (m : Loaded LoadedModule) → slice_get ms i ≡ Some m → IsRead m.path m.bytes m.made) → All (λ (m : LoadedModule). m.endings ≡ []) (map (made_of paths) ms)
unlinked paths [] each = All-nil (λ (m : LoadedModule). m.endings ≡ [])
unlinked paths (m ∷ ms) each =
    All-cons (λ (m : LoadedModule). m.endings ≡ []) (made_of paths m) (map (made_of paths) ms) (each zero m refl).unlinked
    (unlinked paths ms (λ i n at. each (suc i) n at))

same-size : (ms : List (Loaded LoadedModule)) → sum_by length (map (λ (m : Loaded LoadedModule). m.bytes) ms) ≡ size_of ms
same-size [] = refl
same-size (m ∷ ms) =
    sum_by-cons length m.bytes (map (λ (m : Loaded LoadedModule). m.bytes) ms) ∙ ap (λ n. length m.bytes + n) (same-size ms)
    ∙ sym (sum_by-cons (λ (m : Loaded LoadedModule). length m.bytes) m ms)

module _ (told : Told) (entry : List ℕ) where
  whole : (graph : List LoadedModule) → IsGraph told IsRead asked entry with_requests graph → IsLoaded (record { modules = graph })
  whole graph g =
      let ms = g.modules in
      let paths = paths_of ms in
      let each : (i : ℕ) (m : Loaded LoadedModule) → slice_get ms i ≡ Some m → IsRead m.path m.bytes m.made = λ i m at. (comes-read told IsRead asked g.ends i m at).read in
      let some : 1 ≤ length ms = comes-some told IsRead asked g.ends in
      let few : length ms ≤ 1024 = comes-few told IsRead asked g.ends in
      let short : size_of ms ≤ 16777216 = comes-size told IsRead asked g.ends in
      let count : length paths ≡ length ms = length-map ms (λ (m : Loaded LoadedModule). m.path) in
      let size : length (map (made_of paths) ms) ≡ length ms = length-map ms (made_of paths) in
      let done : (i : ℕ) (m : Loaded LoadedModule) → slice_get ms i ≡ Some m → (j : ℕ) (r : Request) → slice_get m.made.requests j ≡ Some r → IsSettled paths m.path r
      = λ i m at j r is. ended-settled told IsRead asked g.ends i j m r at is in
      let all : AreLoaded (length paths) (map (λ (m : Loaded LoadedModule). m.bytes) ms) (map (made_of paths) ms)
      = are-loaded (length paths) paths ms (λ i m at. is-loaded paths m (each i m at) (done i m at)) in
      let D : List (List ℕ) → Type 0 = λ ps. AllPairs (λ p q. p ≡ q → ⊥) ps in
      let A : ℕ → Type 0 = λ n. AreLoaded n (map (λ (m : Loaded LoadedModule). m.bytes) ms) (map (made_of paths) ms) in
      let G : List LoadedModule → Type 0 = λ list. IsLoaded (record { modules = list }) in
      let made : IsLoaded (record { modules = map (made_of paths) ms }) = record {
        sound = record {
          some = omega (arith, size, some);
          few = omega (arith, size, few);
          distinct = subst D (sym (same-paths paths ms each)) (comes-distinct told IsRead asked g.ends);
          texts = map (λ (m : Loaded LoadedModule). m.bytes) ms;
          within = omega (arith, same-size ms, short);
          loaded = subst A (count ∙ sym size) all;
        };
        unlinked = unlinked paths ms each;
      } in
      subst G (sym g.graph_is) made

pub loaded : (told : Told) (entry : List ℕ) (graph : List LoadedModule) → IsGraph told IsRead asked entry with_requests graph → IsLoaded (record { modules = graph })
loaded = whole
