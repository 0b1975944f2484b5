-- What holds of the modules that are loaded, and that each request names one where loading ends.
use Rattle.std.proofs.Common.{◌≡◌, ℕ, zero, suc, ◌+◌, ◌<◌, ◌≤◌, ◌⊎◌, inl, inr, Bool, true, false, cond, not, ◌||◌, List, [], ◌∷◌, ◌++◌, get_or, length, Option, Some, None, refl, sym, ap, ◌∙◌, subst, arith}
use Rattle.std.specs.Prelude.{AllPairs, option_and_then, position, slice_get}
use Rattle.std.specs.List.{position_or_len}
use Rattle.std.specs.Str.{bytes_eq}
use Rattle.std.proofs.lemmas.Bool.{lt-ltb}
use Rattle.std.proofs.lemmas.List.Folds.{list_any-append, list_any_at}
use Rattle.std.proofs.lemmas.List.Quantifiers.{all_pairs_push}
use Rattle.std.proofs.lemmas.List.Sums.{sum_by-append}
use Rattle.std.proofs.lemmas.Option.{slice_get_within}
use Rattle.std.proofs.lemmas.Slice.Eq.{bytes_eq-Decides}
use Rattle.es6_ast.specs.declared.graph.Request.{Request}
use Rattle.module_paths.specs.Paths.{path_from}
use Rattle.module_loading.specs.declared.waiting.Wait.{Wait}
use Rattle.module_loading.specs.Files.{Holds}
use Rattle.module_loading.specs.Loading.{Comes, Goes, IsOf, Loaded, begins, goes, loads, past_host, past_loaded, paths_of, size_of}
use Rattle.module_loading.specs.Requests.{Names, is_host, is_listed, number_of, waits}
use Rattle.module_loading.proofs.Asked.{one-asked}
use Rattle.module_loading.proofs.Lists.{length-push, map-push, some-same}

pub get-push_cases : {A : Type 0} (xs : List A) (y : A) (k : ℕ) (x : A) → slice_get (xs ++ y ∷ []) k ≡ Some x → slice_get xs k ≡ Some x ⊎ ((k ≡ length xs) × (x ≡ y))
get-push_cases [] y zero x e = inr (refl, sym (some-same e))
get-push_cases [] y (suc k) x e = absurd (cc)
get-push_cases (z ∷ xs) y zero x e = inl e
get-push_cases (z ∷ xs) y (suc k) x e = elim (get-push_cases xs y k x e) [
  | inl old ↦ inl old
  | inr p ↦ inr (ap suc p.0, p.1)
]

bytes_eq-self : (path : List ℕ) → bytes_eq path path ≡ true
bytes_eq-self path = (bytes_eq-Decides path path).1 refl

-- the path of a module that was added is listed, and those before it are still
listed-last : (paths : List (List ℕ)) (path : List ℕ) → is_listed path (paths ++ path ∷ []) ≡ true
listed-last paths path =
    list_any-append (bytes_eq path) paths (path ∷ []) ∙ ap (λ b. is_listed path paths || (b || false)) (bytes_eq-self path) ∙ or-true (is_listed path paths)
  where
    or-true : (b : Bool) → (b || (true || false)) ≡ true
    or-true true = refl
    or-true false = refl

listed-more : (paths : List (List ℕ)) (path one : List ℕ) → is_listed path paths ≡ true → is_listed path (paths ++ one ∷ []) ≡ true
listed-more paths path one e = list_any-append (bytes_eq path) paths (one ∷ []) ∙ ap (λ b. b || is_listed path (one ∷ [])) e

-- a file that was read, and is no longer than a module may be
pub record WasRead {M : Type 0} (told : Option (List ℕ → Option (List ℕ))) (reads : List ℕ → List ℕ → M → Type 0) (m : Loaded M) : Type 0 where
  pub holds : Holds told m.path (Some m.bytes)
  pub short : length m.bytes ≤ 4194304
  pub read : reads m.path m.bytes m.made

-- the request is the host's, or that of a module with one of these paths
abbrev pub IsSettled : List (List ℕ) → List ℕ → Request → Type 0
IsSettled paths base request = (is_host request ≡ true) ⊎ ((path : List ℕ) × Names base request path × (is_listed path paths ≡ true))

settled-more : (paths : List (List ℕ)) (one base : List ℕ) (request : Request) → IsSettled paths base request → IsSettled (paths ++ one ∷ []) base request
settled-more paths one base request (inl host) = inl host
settled-more paths one base request (inr p) = inr (p.0, p.1, listed-more paths p.0 one p.2)

-- a listed path stands somewhere
prefix-listed : (path : List ℕ) (paths : List (List ℕ)) → is_listed path paths ≡ true → position_or_len (bytes_eq path) paths < length paths
prefix-listed path [] e = absurd (cc)
prefix-listed path (one ∷ paths) e = first (bytes_eq path one) e (λ f. prefix-listed path paths f)
  where
    first : (b : Bool) → (b || is_listed path paths) ≡ true → (is_listed path paths ≡ true → position_or_len (bytes_eq path) paths < length paths)
        → cond (not b) (1 + position_or_len (bytes_eq path) paths) 0 < length (one ∷ paths)
    first true f later = omega arith
    first false f later = omega (arith, later f)

pub listed-position : (path : List ℕ) (paths : List (List ℕ)) → is_listed path paths ≡ true → (k : ℕ) × (position (bytes_eq path) paths ≡ Some k) × (k < length paths)
listed-position path paths e =
    let k : ℕ = position_or_len (bytes_eq path) paths in
    let within : k < length paths = prefix-listed path paths e in
    (k, ap (λ b. cond b (Some k) None) (lt-ltb k (length paths) within), within)

data Waits : Wait → List Wait → Type 0 where
  here : {w : Wait} {ws : List Wait} → Waits w (w ∷ ws)
  there : {w v : Wait} {ws : List Wait} → Waits w ws → Waits w (v ∷ ws)

waits-left : {w : Wait} {ws : List Wait} (vs : List Wait) → Waits w ws → Waits w (ws ++ vs)
waits-left vs here = here
waits-left vs (there p) = there (waits-left vs p)

waits-right : {w : Wait} (ws : List Wait) {vs : List Wait} → Waits w vs → Waits w (ws ++ vs)
waits-right [] p = p
waits-right (v ∷ ws) p = there (waits-right ws p)

waits-all : (importer count index : ℕ) → index < count → Waits (record { importer = importer; index = index }) (waits importer count)
waits-all importer zero index within = absurd (omega (arith, within))
waits-all importer (suc count) index within = elim (last count index within) [
  | inl before ↦ waits-left (record { importer = importer; index = count } ∷ []) (waits-all importer count index before)
  | inr is ↦ (let P : ℕ → Type 0 = λ i. Waits (record { importer = importer; index = i }) (waits importer (suc count)) in subst P (sym is) (waits-right (waits importer count) here))
]
  where
    last : (count index : ℕ) → index < suc count → (index < count) ⊎ (index ≡ count)
    last zero zero within = inr refl
    last zero (suc index) within = absurd (omega (arith, within))
    last (suc count) zero within = inl (omega arith)
    last (suc count) (suc index) within = elim (last count index (omega (arith, within))) [
      | inl before ↦ inl (omega (arith, before))
      | inr is ↦ inr (ap suc is)
    ]

waits-first : {w v : Wait} {ws : List Wait} → Waits w (v ∷ ws) → (w ≡ v) ⊎ Waits w ws
waits-first here = inl refl
waits-first (there p) = inr p

module _ {M : Type 0} (told : Option (List ℕ → Option (List ℕ))) (reads : List ℕ → List ℕ → M → Type 0) (requests : M → List Request) where
  goes-read : {ms ns : List (Loaded M)} {ws vs : List Wait} → Goes told reads requests ms ws ns vs → ((i : ℕ) (m : Loaded M) → slice_get ms i ≡ Some m → WasRead told reads m)
      → (i : ℕ) (m : Loaded M) → slice_get ns i ≡ Some m → WasRead told reads m
  goes-read (past_host is_of host) each = each
  goes-read (past_loaded is_of names listed) each = each
  goes-read (loads {modules = modules} {path = path} {bytes = bytes} {made = made} is_of names room fits read) each = λ i m e. elim (get-push_cases modules (record { path = path; bytes = bytes; made = made }) i m e) [
    | inl old ↦ each i m old
    | inr p ↦
        let P : Loaded M → Type 0 = λ z. WasRead told reads z in
        let one : WasRead told reads (record { path = path; bytes = bytes; made = made }) = record { holds = fits.holds; short = fits.short; read = read } in
        subst P (sym p.1) one
  ]

  -- each module was read of what stands at its path
  pub comes-read : {entry : List ℕ} {ms : List (Loaded M)} {ws : List Wait} → Comes told reads requests entry ms ws → (i : ℕ) (m : Loaded M) → slice_get ms i ≡ Some m → WasRead told reads m
  comes-read {entry} (begins {bytes = bytes} {made = made} fits read) = one
    where
      one : (i : ℕ) (m : Loaded M) → slice_get (record { path = entry; bytes = bytes; made = made } ∷ []) i ≡ Some m → WasRead told reads m
      one zero m e =
          let P : Loaded M → Type 0 = λ z. WasRead told reads z in
          let is : WasRead told reads (record { path = entry; bytes = bytes; made = made }) = record { holds = fits.holds; short = fits.short; read = read } in
          subst P (some-same e) is
      one (suc i) m e = absurd (cc)
  comes-read (goes comes step) = goes-read step (comes-read comes)

  goes-size : {ms ns : List (Loaded M)} {ws vs : List Wait} → Goes told reads requests ms ws ns vs → size_of ms ≤ 16777216 → size_of ns ≤ 16777216
  goes-size (past_host is_of host) small = small
  goes-size (past_loaded is_of names listed) small = small
  goes-size (loads {modules = modules} {path = path} {bytes = bytes} {made = made} is_of names room fits read) small =
      let grown : size_of (modules ++ record { path = path; bytes = bytes; made = made } ∷ []) ≡ size_of modules + (0 + length bytes) = sum_by-append (λ m. length m.bytes) modules (record { path = path; bytes = bytes; made = made } ∷ []) in
      omega (arith, grown, fits.within)

  -- together they are no longer than a graph may be
  pub comes-size : {entry : List ℕ} {ms : List (Loaded M)} {ws : List Wait} → Comes told reads requests entry ms ws → size_of ms ≤ 16777216
  comes-size (begins fits read) = omega (arith, fits.within)
  comes-size (goes comes step) = goes-size step (comes-size comes)

  goes-some : {ms ns : List (Loaded M)} {ws vs : List Wait} → Goes told reads requests ms ws ns vs → 1 ≤ length ms → 1 ≤ length ns
  goes-some (past_host is_of host) some = some
  goes-some (past_loaded is_of names listed) some = some
  goes-some (loads {modules = modules} {path = path} {bytes = bytes} {made = made} is_of names room fits read) some =
      let grown : length (modules ++ record { path = path; bytes = bytes; made = made } ∷ []) ≡ suc (length modules) = length-push modules _ in
      omega (arith, grown)

  pub comes-some : {entry : List ℕ} {ms : List (Loaded M)} {ws : List Wait} → Comes told reads requests entry ms ws → 1 ≤ length ms
  comes-some (begins fits read) = omega arith
  comes-some (goes comes step) = goes-some step (comes-some comes)

  goes-distinct : {ms ns : List (Loaded M)} {ws vs : List Wait} → Goes told reads requests ms ws ns vs → AllPairs (λ p q. p ≡ q → ⊥) (paths_of ms) → AllPairs (λ p q. p ≡ q → ⊥) (paths_of ns)
  goes-distinct (past_host is_of host) apart = apart
  goes-distinct (past_loaded is_of names listed) apart = apart
  goes-distinct (loads {modules = modules} {path = path} {bytes = bytes} {made = made} is_of names room fits read) apart =
      let P : List (List ℕ) → Type 0 = λ paths. AllPairs (λ p q. p ≡ q → ⊥) paths in
      subst P (sym (map-push (λ m. m.path) modules (record { path = path; bytes = bytes; made = made }))) (all_pairs_push (λ p q. p ≡ q → ⊥) (paths_of modules) path apart others)
    where
      others : (k : ℕ) (d : List ℕ) → k < length (paths_of modules) → get_or (paths_of modules) k d ≡ path → ⊥
      others k d within same =
          let found : is_listed path (paths_of modules) ≡ true = list_any_at (bytes_eq path) (paths_of modules) k d within (ap (bytes_eq path) same ∙ bytes_eq-self path) in
          absurd (cc (found, names.is_new))

  -- no two have one path
  pub comes-distinct : {entry : List ℕ} {ms : List (Loaded M)} {ws : List Wait} → Comes told reads requests entry ms ws → AllPairs (λ p q. p ≡ q → ⊥) (paths_of ms)
  comes-distinct (begins fits read) = λ i j d before within. absurd (omega (arith, before, within))
  comes-distinct (goes comes step) = goes-distinct step (comes-distinct comes)

  -- each request of a module waits, or is settled
  abbrev Follows : List (Loaded M) → List Wait → Type 0
  Follows ms ws = (wait : Wait) (m : Loaded M) (request : Request) → IsOf requests ms wait m request → Waits wait ws ⊎ IsSettled (paths_of ms) m.path request

  passed : (ms : List (Loaded M)) (w : Wait) (ws : List Wait) (m : Loaded M) (request : Request) → IsOf requests ms w m request → IsSettled (paths_of ms) m.path request → Follows ms (w ∷ ws) → Follows ms ws
  passed ms w ws m request is_of done all = λ v n own p. elim (all v n own p) [
    | inl waiting ↦ elim (waits-first waiting) [
      | inl is ↦
          let I : Wait → Type 0 = λ z. IsOf requests ms z n own in
          let same = one-asked requests ms w m n request own is_of (subst I is p) in
          let S : Request → Type 0 = λ r. IsSettled (paths_of ms) m.path r in
          let T : Loaded M → Type 0 = λ z. IsSettled (paths_of ms) z.path own in
          inr (subst T same.0 (subst S same.1 done))
      | inr later ↦ inl later
    ]
    | inr settled ↦ inr settled
  ]

  loaded : (ms : List (Loaded M)) (w : Wait) (ws : List Wait) (m : Loaded M) (request : Request) (path bytes : List ℕ) (made : M) → IsOf requests ms w m request → Names m.path request path → Follows ms (w ∷ ws)
      → Follows (ms ++ record { path = path; bytes = bytes; made = made } ∷ []) (waits (length ms) (length (requests made)) ++ ws)
  loaded ms w ws m request path bytes made is_of names all v n own p =
      let one : Loaded M = record { path = path; bytes = bytes; made = made } in
      let L : List (List ℕ) → Type 0 = λ paths. IsSettled paths n.path own in
      let more : paths_of (ms ++ one ∷ []) ≡ paths_of ms ++ path ∷ [] = map-push (λ z. z.path) ms one in
      elim (get-push_cases ms one v.importer n p.stands) [
        | inl old ↦
            let q : IsOf requests ms v n own = record { stands = old; asked = p.asked } in
            elim (all v n own q) [
              | inl waiting ↦ elim (waits-first waiting) [
                | inl is ↦
                    let I : Wait → Type 0 = λ z. IsOf requests ms z n own in
                    let same = one-asked requests ms w m n request own is_of (subst I is q) in
                    let R : Request → Type 0 = λ r. Names m.path r path in
                    let N : Loaded M → Type 0 = λ z. Names z.path own path in
                    inr (subst L (sym more) (inr (path, subst N same.0 (subst R same.1 names), listed-last (paths_of ms) path)))
                | inr later ↦ inl (waits-right (waits (length ms) (length (requests made))) later)
              ]
              | inr settled ↦ inr (subst L (sym more) (settled-more (paths_of ms) path n.path own settled))
            ]
        | inr last ↦
            let A : Loaded M → Type 0 = λ z. slice_get (requests z.made) v.index ≡ Some own in
            let within : v.index < length (requests made) = slice_get_within (requests made) v.index own (subst A last.1 p.asked) in
            let W : ℕ → Type 0 = λ i. Waits (record { importer = i; index = v.index }) (waits (length ms) (length (requests made)) ++ ws) in
            inl (subst W (sym last.0) (waits-left ws (waits-all (length ms) (length (requests made)) v.index within)))
      ]

  goes-follows : {ms ns : List (Loaded M)} {ws vs : List Wait} → Goes told reads requests ms ws ns vs → Follows ms ws → Follows ns vs
  goes-follows (past_host {modules = modules} {wait = wait} {rest = rest} {m = m} {request = request} is_of host) all = passed modules wait rest m request is_of (inl host) all
  goes-follows (past_loaded {modules = modules} {wait = wait} {rest = rest} {m = m} {request = request} {path = path} is_of names listed) all =
      passed modules wait rest m request is_of (inr (path, names, listed)) all
  goes-follows (loads {modules = modules} {wait = wait} {rest = rest} {m = m} {request = request} {path = path} {bytes = bytes} {made = made} is_of names room fits read) all =
      loaded modules wait rest m request path bytes made is_of names.names all

  begins-follows : (entry bytes : List ℕ) (made : M) → Follows (record { path = entry; bytes = bytes; made = made } ∷ []) (waits 0 (length (requests made)))
  begins-follows entry bytes made v n own p =
      let one : Loaded M = record { path = entry; bytes = bytes; made = made } in
      elim (get-push_cases [] one v.importer n p.stands) [
        | inl none ↦ absurd (cc)
        | inr last ↦
            let A : Loaded M → Type 0 = λ z. slice_get (requests z.made) v.index ≡ Some own in
            let within : v.index < length (requests made) = slice_get_within (requests made) v.index own (subst A last.1 p.asked) in
            let W : ℕ → Type 0 = λ i. Waits (record { importer = i; index = v.index }) (waits 0 (length (requests made))) in
            inl (subst W (sym last.0) (waits-all 0 (length (requests made)) v.index within))
      ]

  comes-follows : {entry : List ℕ} {ms : List (Loaded M)} {ws : List Wait} → Comes told reads requests entry ms ws → Follows ms ws
  comes-follows {entry} (begins {bytes = bytes} {made = made} fits read) = begins-follows entry bytes made
  comes-follows (goes comes step) = goes-follows step (comes-follows comes)

  -- where nothing waits, each request is settled
  pub ended-settled : {entry : List ℕ} {ms : List (Loaded M)} → Comes told reads requests entry ms [] → (i k : ℕ) (m : Loaded M) (request : Request) → slice_get ms i ≡ Some m
      → slice_get (requests m.made) k ≡ Some request → IsSettled (paths_of ms) m.path request
  ended-settled comes i k m request stands wanted = elim (comes-follows comes (record { importer = i; index = k }) m request (record { stands = stands; asked = wanted })) [
    | inl waiting ↦ absurd (none waiting)
    | inr settled ↦ settled
  ]
    where
      none : {w : Wait} → Waits w [] → ⊥
      none p = elim p [ ]

-- the number that a settled request has: none for the host, and else that of a module
pub settled-number : (paths : List (List ℕ)) (base : List ℕ) (request : Request) → IsSettled paths base request
    → ((is_host request ≡ true) × (number_of paths base request ≡ None)) ⊎ ((k : ℕ) × (is_host request ≡ false) × (number_of paths base request ≡ Some k) × (k < length paths))
settled-number paths base request (inl host) = inl (host, ap (λ b. cond b None (option_and_then (λ path. position (bytes_eq path) paths) (path_from base request.specifier))) host)
settled-number paths base request (inr p) =
    let found = listed-position p.0 paths p.2 in
    inr (
      found.0,
      p.1.no_host,
      ap (λ b. cond b None (option_and_then (λ path. position (bytes_eq path) paths) (path_from base request.specifier))) p.1.no_host
          ∙ ap (λ o. option_and_then (λ path. position (bytes_eq path) paths) o) p.1.path_is ∙ found.1,
      found.2,
    )
