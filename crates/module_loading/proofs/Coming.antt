-- What holds wherever loading comes: no more modules than a graph may have, and what waits is a request of one.
use Rattle.std.proofs.Common.{◌≡◌, ℕ, zero, suc, ◌≤◌, false, List, [], ◌∷◌, ◌++◌, length, map, Option, Some, refl, sym, ap, ◌∙◌, subst, arith}
use Rattle.std.specs.Prelude.{All, slice_get}
use Rattle.std.proofs.lemmas.List.{append-nil}
use Rattle.std.proofs.lemmas.List.Elements.{All-append, All-nil, All-push, All-tail, All-weaker}
use Rattle.es6_ast.specs.declared.graph.Request.{Request}
use Rattle.module_loading.specs.declared.waiting.Wait.{Wait}
use Rattle.module_loading.specs.Loading.{Comes, Fits, Goes, IsNext, Loaded, begins, goes, loads, past_host, past_loaded, paths_of, the_entry, the_requested}
use Rattle.module_loading.specs.Requests.{is_listed, waits}
use Rattle.module_loading.specs.States.{IsWithin}
use Rattle.module_loading.proofs.Lists.{get-last, get-left, length-push, map-push}

module _ {M : Type 0} (told : Option (List ℕ → Option (List ℕ))) (reads : List ℕ → List ℕ → M → Type 0) (requests : M → List Request) where
  goes-few : {ms ns : List (Loaded M)} {ws vs : List Wait} → Goes told reads requests ms ws ns vs → length ms ≤ 1024 → length ns ≤ 1024
  goes-few (past_host is_of host) few = few
  goes-few (past_loaded is_of names listed) few = few
  goes-few (loads {modules = modules} {path = path} {bytes = bytes} {made = made} is_of names room fits read) few =
      let grown : length (modules ++ record { path = path; bytes = bytes; made = made } ∷ []) ≡ suc (length modules) = length-push modules _ in
      omega (arith, grown, room)

  pub comes-few : {entry : List ℕ} {ms : List (Loaded M)} {ws : List Wait} → Comes told reads requests entry ms ws → length ms ≤ 1024
  comes-few (begins fits read) = omega arith
  comes-few (goes comes step) = goes-few step (comes-few comes)

  -- the module that comes next is added
  pub next-comes : {entry : List ℕ} {ms : List (Loaded M)} {rest : List Wait} {wait : Option Wait} {path : List ℕ} (bytes : List ℕ) (made : M) → IsNext told reads requests entry ms rest wait path
      → Fits told ms path bytes → reads path bytes made
      → Comes told reads requests entry (ms ++ record { path = path; bytes = bytes; made = made } ∷ []) (waits (length ms) (length (requests made)) ++ rest)
  next-comes {entry} bytes made the_entry fits read =
      let P : List Wait → Type 0 = λ ws. Comes told reads requests entry (record { path = entry; bytes = bytes; made = made } ∷ []) ws in
      subst P (sym (append-nil (waits 0 (length (requests made))))) (begins fits read)
  next-comes bytes made (the_requested comes is_of names room) fits read = goes comes (loads is_of names room fits read)

  pub next-new : {entry : List ℕ} {ms : List (Loaded M)} {rest : List Wait} {wait : Option Wait} {path : List ℕ} → IsNext told reads requests entry ms rest wait path → is_listed path (paths_of ms) ≡ false
  next-new the_entry = refl
  next-new (the_requested comes is_of names room) = names.is_new

-- the requests of a module that stands there are requests of one
waits-within : {M : Type 0} (requests : M → List Request) (modules : List M) (importer : ℕ) (made : M) (count : ℕ) → slice_get modules importer ≡ Some made → count ≤ length (requests made)
    → All (IsWithin requests modules) (waits importer count)
waits-within requests modules importer made zero there fits = All-nil (IsWithin requests modules)
waits-within requests modules importer made (suc count) there fits =
    All-push (IsWithin requests modules) (waits importer count) (record { importer = importer; index = count })
    (waits-within requests modules importer made count there (omega arith)) (record { made = made; stands = there; within = omega arith })

within-more : {M : Type 0} (requests : M → List Request) (modules more : List M) (ws : List Wait) → All (IsWithin requests modules) ws → All (IsWithin requests (modules ++ more)) ws
within-more requests modules more ws all =
    All-weaker (IsWithin requests modules) (IsWithin requests (modules ++ more)) (λ w p. record { made = p.made; stands = get-left modules more w.importer p.made p.stands; within = p.within }) ws all

module _ {M : Type 0} (told : Option (List ℕ → Option (List ℕ))) (reads : List ℕ → List ℕ → M → Type 0) (requests : M → List Request) where
  goes-within : {ms ns : List (Loaded M)} {ws vs : List Wait} → Goes told reads requests ms ws ns vs → All (IsWithin requests (map (λ m. m.made) ms)) ws → All (IsWithin requests (map (λ m. m.made) ns)) vs
  goes-within (past_host {modules = modules} {wait = wait} {rest = rest} is_of host) all = All-tail (IsWithin requests (map (λ m. m.made) modules)) wait rest all
  goes-within (past_loaded {modules = modules} {wait = wait} {rest = rest} is_of names listed) all = All-tail (IsWithin requests (map (λ m. m.made) modules)) wait rest all
  goes-within (loads {modules = modules} {wait = wait} {rest = rest} {path = path} {bytes = bytes} {made = made} is_of names room fits read) all =
      let old : List M = map (λ m. m.made) modules in
      let own : All (IsWithin requests (old ++ made ∷ [])) (waits (length modules) (length (requests made)))
      = waits-within requests (old ++ made ∷ []) (length modules) made (length (requests made)) (ap (λ i. slice_get (old ++ made ∷ []) i) (sym (length-map modules)) ∙ get-last old made) (omega arith) in
      let more : All (IsWithin requests (old ++ made ∷ [])) rest = within-more requests old (made ∷ []) rest (All-tail (IsWithin requests old) wait rest all) in
      let P : List M → Type 0 = λ list. All (IsWithin requests list) (waits (length modules) (length (requests made)) ++ rest) in
      subst P (sym (map-push (λ m. m.made) modules (record { path = path; bytes = bytes; made = made })))
      (All-append (IsWithin requests (old ++ made ∷ [])) (waits (length modules) (length (requests made))) rest own more)
    where
      length-map : (ms : List (Loaded M)) → length (map (λ m. m.made) ms) ≡ length ms
      length-map [] = refl
      length-map (m ∷ ms) = ap suc (length-map ms)

  pub comes-within : {entry : List ℕ} {ms : List (Loaded M)} {ws : List Wait} → Comes told reads requests entry ms ws → All (IsWithin requests (map (λ m. m.made) ms)) ws
  comes-within (begins {bytes = bytes} {made = made} fits read) = waits-within requests (made ∷ []) 0 made (length (requests made)) refl (omega arith)
  comes-within (goes comes step) = goes-within step (comes-within comes)
