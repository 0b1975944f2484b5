-- Where files tell what stands at each path, and the bytes of a file are read in one way, a graph is loaded in one way: loading comes to
-- one graph, or to one fault.
use Rattle.std.proofs.Common.{◌≡◌, ℕ, ◌+◌, ◌<◌, ◌≤◌, Bool, true, false, cond, List, [], ◌∷◌, ◌++◌, Option, Some, None, refl, sym, ap, subst, ◌∙◌, ◌⊎◌, inl, inr, length, map}
use Rattle.std.specs.Prelude.{nat_lt, slice_get}
use Rattle.std.proofs.lemmas.Bool.{lt-ltb, le-ltb}
use Rattle.es_text.specs.declared.Place.{Place}
use Rattle.es6_ast.specs.declared.graph.Request.{Request}
use Rattle.module_paths.specs.Paths.{path_from}
use Rattle.module_loading.specs.declared.fault.LoadFault.{LoadFault}
use Rattle.module_loading.specs.declared.fault.LoadFault.TheVariants as fault
use Rattle.module_loading.specs.declared.waiting.Wait.{Wait}
use Rattle.module_loading.specs.Requests.{Names, NamesNew, NamesNone, is_host, is_listed, renumbered, waits}
use Rattle.module_loading.specs.Loading.{Loaded, paths_of, size_of, IsOf, Fits, Goes, past_host, past_loaded, loads, Comes, begins, goes, IsNext, the_entry, the_requested, IsGraph, IsFirst, FollowsFile, IsFault}

same_some : {A : Type 0} {x y : A} → Some x ≡ Some y → x ≡ y
same_some e = cc

-- what is found of a request or of a file before it is read: nothing to do, the first check that fails, or bytes to be read
data Check : Type 0 where
  Passes : Check
  Bad : Check
  TooMany : Check
  NoFile : Check
  TooLong : Check
  GraphLong : Check
  Reads : List ℕ → List ℕ → Check

-- whether the check is one of a limit
is_limit_check : Check → Bool
is_limit_check TooMany = true
is_limit_check TooLong = true
is_limit_check GraphLong = true
is_limit_check _ = false

IsPlain : Check → Type 0
IsPlain (Reads path bytes) = ⊥
IsPlain _ = Unit {0}

-- whether a fault is one of a limit
abbrev pub limit_of : {F : Type 0} → (F → Bool) → LoadFault F → Bool
limit_of limit (fault.BadSpecifier base place specifier) = false
limit_of limit (fault.TooManyModules base place) = true
limit_of limit (fault.ReadFault path) = false
limit_of limit fault.EntryMissing = false
limit_of limit (fault.Missing base place specifier) = false
limit_of limit (fault.FileTooLong path) = true
limit_of limit (fault.GraphTooLong path) = true
limit_of limit (fault.InModule path f) = limit f
limit_of limit fault.OutOfMemory = false

-- a fault that rests on the files alone
abbrev pub IsSure : {F : Type 0} → LoadFault F → Type 0
IsSure (fault.ReadFault path) = ⊥
IsSure fault.OutOfMemory = ⊥
IsSure _ = Unit {0}

-- The bytes of a file are read in one way: as one module, or with faults that are all of a limit, or none is.
pub record IsOneWay {M F : Type 0} (reads : List ℕ → List ℕ → M → Type 0) (refuses : List ℕ → List ℕ → F → Type 0) (limit : F → Bool) : Type 0 where
  pub one_module : (path bytes : List ℕ) (a b : M) → reads path bytes a → reads path bytes b → a ≡ b
  pub no_fault : (path bytes : List ℕ) (a : M) (f : F) → reads path bytes a → refuses path bytes f → ⊥
  pub one_fault : (path bytes : List ℕ) (f g : F) → refuses path bytes f → refuses path bytes g → limit f ≡ limit g

module _ {M F : Type 0} (file : List ℕ → Option (List ℕ)) (reads : List ℕ → List ℕ → M → Type 0) (refuses : List ℕ → List ℕ → F → Type 0) (requests : M → List Request) (entry : List ℕ) where
  check_bytes : List (Loaded M) → List ℕ → List ℕ → Check
  check_bytes modules path bytes = cond (nat_lt 4194304 (length bytes)) TooLong (cond (nat_lt 16777216 (size_of modules + length bytes)) GraphLong (Reads path bytes))

  check_file : List (Loaded M) → List ℕ → Option (List ℕ) → Check
  check_file modules path None = NoFile
  check_file modules path (Some bytes) = check_bytes modules path bytes

  check_new : List (Loaded M) → List ℕ → Check
  check_new modules path = cond (nat_lt (length modules) 1024) (check_file modules path (file path)) TooMany

  check_named : List (Loaded M) → Option (List ℕ) → Check
  check_named modules None = Bad
  check_named modules (Some path) = cond (is_listed path (paths_of modules)) Passes (check_new modules path)

  check_request : List (Loaded M) → List ℕ → Request → Check
  check_request modules base request = cond (is_host request) Passes (check_named modules (path_from base request.specifier))

  check_asked : List (Loaded M) → List ℕ → Option Request → Check
  check_asked modules base None = Passes
  check_asked modules base (Some request) = check_request modules base request

  check_wait : List (Loaded M) → Wait → Option (Loaded M) → Check
  check_wait modules wait None = Passes
  check_wait modules wait (Some m) = check_asked modules m.path (slice_get (requests m.made) wait.index)

  -- of the request that comes first, and of the entry
  check : List (Loaded M) → List Wait → Check
  check modules [] = Passes
  check modules (wait ∷ rest) = check_wait modules wait (slice_get modules wait.importer)

  check_entry : Check
  check_entry = check_file [] entry (file entry)

  -- what is found, by what the definitions say
  of_request : (modules : List (Loaded M)) (wait : Wait) (rest : List Wait) (m : Loaded M) (request : Request) → IsOf requests modules wait m request → check modules (wait ∷ rest) ≡ check_request modules m.path request
  unfolding check check_wait check_asked
  of_request modules wait rest m request is = ap (check_wait modules wait) is.stands ∙ ap (check_asked modules m.path) is.asked

  of_names : (modules : List (Loaded M)) (base : List ℕ) (request : Request) (path : List ℕ) → Names base request path → check_request modules base request ≡ cond (is_listed path (paths_of modules)) Passes (check_new modules path)
  unfolding check_request check_named
  of_names modules base request path n = ap (λ b. cond b Passes (check_named modules (path_from base request.specifier))) n.no_host ∙ ap (check_named modules) n.path_is

  of_none : (modules : List (Loaded M)) (base : List ℕ) (request : Request) → NamesNone base request → check_request modules base request ≡ Bad
  unfolding check_request check_named
  of_none modules base request n = ap (λ b. cond b Passes (check_named modules (path_from base request.specifier))) n.no_host ∙ ap (check_named modules) n.no_path

  of_host : (modules : List (Loaded M)) (base : List ℕ) (request : Request) → is_host request ≡ true → check_request modules base request ≡ Passes
  unfolding check_request
  of_host modules base request e = ap (λ b. cond b Passes (check_named modules (path_from base request.specifier))) e

  of_listed : (modules : List (Loaded M)) (base : List ℕ) (request : Request) (path : List ℕ) → Names base request path → is_listed path (paths_of modules) ≡ true → check_request modules base request ≡ Passes
  of_listed modules base request path n e = of_names modules base request path n ∙ ap (λ b. cond b Passes (check_new modules path)) e

  of_new : (modules : List (Loaded M)) (base : List ℕ) (request : Request) (path : List ℕ) → NamesNew (paths_of modules) base request path → check_request modules base request ≡ check_new modules path
  of_new modules base request path n = of_names modules base request path n.names ∙ ap (λ b. cond b Passes (check_new modules path)) n.is_new

  of_room : (modules : List (Loaded M)) (path : List ℕ) → length modules < 1024 → check_new modules path ≡ check_file modules path (file path)
  unfolding check_new
  of_room modules path room = ap (λ b. cond b (check_file modules path (file path)) TooMany) (lt-ltb (length modules) 1024 room)

  of_full : (modules : List (Loaded M)) (path : List ℕ) → 1024 ≤ length modules → check_new modules path ≡ TooMany
  unfolding check_new
  of_full modules path full = ap (λ b. cond b (check_file modules path (file path)) TooMany) (le-ltb (length modules) 1024 full)

  of_missing : (modules : List (Loaded M)) (path : List ℕ) → file path ≡ None → check_file modules path (file path) ≡ NoFile
  unfolding check_file
  of_missing modules path e = ap (check_file modules path) e

  of_long : (modules : List (Loaded M)) (path bytes : List ℕ) → file path ≡ Some bytes → 4194304 < length bytes → check_file modules path (file path) ≡ TooLong
  unfolding check_file check_bytes
  of_long modules path bytes e long = ap (check_file modules path) e ∙ ap (λ b. cond b TooLong (cond (nat_lt 16777216 (size_of modules + length bytes)) GraphLong (Reads path bytes))) (lt-ltb 4194304 (length bytes) long)

  of_short : (modules : List (Loaded M)) (path bytes : List ℕ) → file path ≡ Some bytes → length bytes ≤ 4194304 → check_file modules path (file path) ≡ cond (nat_lt 16777216 (size_of modules + length bytes)) GraphLong (Reads path bytes)
  unfolding check_file check_bytes
  of_short modules path bytes e short = ap (check_file modules path) e ∙ ap (λ b. cond b TooLong (cond (nat_lt 16777216 (size_of modules + length bytes)) GraphLong (Reads path bytes))) (le-ltb 4194304 (length bytes) short)

  of_too_much : (modules : List (Loaded M)) (path bytes : List ℕ) → file path ≡ Some bytes → length bytes ≤ 4194304 → 16777216 < size_of modules + length bytes → check_file modules path (file path) ≡ GraphLong
  of_too_much modules path bytes e short long = of_short modules path bytes e short ∙ ap (λ b. cond b GraphLong (Reads path bytes)) (lt-ltb 16777216 (size_of modules + length bytes) long)

  of_fits : (modules : List (Loaded M)) (path bytes : List ℕ) → Fits (Some file) modules path bytes → check_file modules path (file path) ≡ Reads path bytes
  of_fits modules path bytes f = of_short modules path bytes f.holds f.short ∙ ap (λ b. cond b GraphLong (Reads path bytes)) (le-ltb 16777216 (size_of modules + length bytes) f.within)

  -- What a step does, by what is found.
  data StepOf (modules : List (Loaded M)) (waiting : List Wait) (after : List (Loaded M)) (more : List Wait) : Type 0 where
    stays : (wait : Wait) (rest : List Wait) → waiting ≡ wait ∷ rest → check modules waiting ≡ Passes → after ≡ modules → more ≡ rest → StepOf modules waiting after more
    adds : (wait : Wait) (rest : List Wait) (path bytes : List ℕ) (made : M) → waiting ≡ wait ∷ rest → check modules waiting ≡ Reads path bytes → reads path bytes made
        → after ≡ modules ++ record { path = path; bytes = bytes; made = made } ∷ [] → more ≡ waits (length modules) (length (requests made)) ++ rest → StepOf modules waiting after more

  step_of : {modules after : List (Loaded M)} {waiting more : List Wait} → Goes (Some file) reads requests modules waiting after more → StepOf modules waiting after more
  step_of (past_host {modules = ms} {wait = w} {rest = r} {m = m} {request = q} is host) = stays w r refl (of_request ms w r m q is ∙ of_host ms m.path q host) refl refl
  step_of (past_loaded {modules = ms} {wait = w} {rest = r} {m = m} {request = q} {path = p} is names listed) = stays w r refl (of_request ms w r m q is ∙ of_listed ms m.path q p names listed) refl refl
  step_of (loads {modules = ms} {wait = w} {rest = r} {m = m} {request = q} {path = p} {bytes = b} {made = made} is names room fits read) =
      adds w r p b made refl (of_request ms w r m q is ∙ of_new ms m.path q p names ∙ of_room ms p room ∙ of_fits ms p b fits) read refl refl

  -- a fault that goes with what is found
  Says : LoadFault F → Check → Type 0
  Says (fault.BadSpecifier base place specifier) c = c ≡ Bad
  Says (fault.TooManyModules base place) c = c ≡ TooMany
  Says (fault.ReadFault path) c = ⊥
  Says fault.EntryMissing c = c ≡ NoFile
  Says (fault.Missing base place specifier) c = c ≡ NoFile
  Says (fault.FileTooLong path) c = c ≡ TooLong
  Says (fault.GraphTooLong path) c = c ≡ GraphLong
  Says (fault.InModule path f) c = (bytes : List ℕ) × (c ≡ Reads path bytes) × refuses path bytes f
  Says fault.OutOfMemory c = ⊥

  -- a fault of the entry, or of the request that comes first
  data Stands (f : LoadFault F) : Type 0 where
    at_entry : Says f check_entry → Stands f
    at_request : {modules : List (Loaded M)} {waiting : List Wait} → Comes (Some file) reads requests entry modules waiting → Says f (check modules waiting) → Stands f

  -- what is found of the file that comes next
  next_stands : (f : LoadFault F) (modules : List (Loaded M)) (path : List ℕ) → FollowsFile (Some file) reads requests entry modules path → Says f (check_file modules path (file path)) → Stands f
  next_stands f modules path n = of_next n.next
    where
      of_next : {ms : List (Loaded M)} {rest : List Wait} {wait : Option Wait} {p : List ℕ} → IsNext (Some file) reads requests entry ms rest wait p → Says f (check_file ms p (file p)) → Stands f
      of_next the_entry s = at_entry (unfold check_entry in s)
      of_next (the_requested {modules = ms} {wait = w} {rest = r} {m = m} {request = q} {path = p} comes is names room) s =
          let found : check ms (w ∷ r) ≡ check_file ms p (file p) = of_request ms w r m q is ∙ of_new ms m.path q p names ∙ of_room ms p room in
          at_request comes (subst (Says f) (sym found) s)

  module _ (shows : M → ℕ → Place → Type 0) where
    -- what is found of the request that comes first, whose module has this path
    first_is : {modules : List (Loaded M)} {request : Request} {base : List ℕ} {place : Place} (first : IsFirst (Some file) reads requests entry shows modules request base place) → check modules (first.wait ∷ first.rest) ≡ check_request modules base request
    first_is {modules = ms} {request = q} first = of_request ms first.wait first.rest first.m q first.is_of ∙ ap (λ b. check_request ms b q) (sym first.base_is)

    fault_stands : (f : LoadFault F) → IsSure f → IsFault (Some file) reads requests entry shows refuses f → Stands f
    unfolding Says
    fault_stands (fault.BadSpecifier base place specifier) sure b = at_request b.first.comes (first_is b.first ∙ of_none b.modules base b.request b.names)
    fault_stands (fault.TooManyModules base place) sure b = at_request b.first.comes (first_is b.first ∙ of_new b.modules base b.request b.path b.names ∙ of_full b.modules b.path b.full)
    fault_stands (fault.ReadFault path) sure b = absurd sure
    fault_stands fault.EntryMissing sure b = at_entry (unfold check_entry in of_missing [] entry b)
    fault_stands (fault.Missing base place specifier) sure b = at_request b.first.comes (first_is b.first ∙ of_new b.modules base b.request b.path b.names ∙ of_room b.modules b.path b.room ∙ of_missing b.modules b.path b.missing)
    fault_stands (fault.FileTooLong path) sure b = next_stands (fault.FileTooLong path) b.modules path b.next (of_long b.modules path b.bytes b.holds b.long)
    fault_stands (fault.GraphTooLong path) sure b = next_stands (fault.GraphTooLong path) b.modules path b.next (of_too_much b.modules path b.bytes b.holds b.short b.long)
    fault_stands (fault.InModule path f) sure b = next_stands (fault.InModule path f) b.modules path b.next (b.bytes, of_fits b.modules path b.bytes b.fits, b.refused)
    fault_stands fault.OutOfMemory sure b = absurd sure

  -- steps, one after another
  data Leads : List (Loaded M) → List Wait → List (Loaded M) → List Wait → Type 0 where
    there : {modules : List (Loaded M)} {waiting : List Wait} → Leads modules waiting modules waiting
    further : {modules middle after : List (Loaded M)} {waiting between more : List Wait} → StepOf modules waiting middle between → Leads middle between after more → Leads modules waiting after more

  once_more : {modules middle after : List (Loaded M)} {waiting between more : List Wait} → Leads modules waiting middle between → StepOf middle between after more → Leads modules waiting after more
  once_more there s = further s there
  once_more (further first g) s = further first (once_more g s)

  module _ (limit : F → Bool) (one : IsOneWay reads refuses limit) where
    -- one step at the most goes on
    one_step : (modules a b : List (Loaded M)) (waiting u v : List Wait) → StepOf modules waiting a u → StepOf modules waiting b v → (a ≡ b) × (u ≡ v)
    one_step ms a b ws u v (stays w r e c f g) (stays w2 r2 e2 c2 f2 g2) = let same : w ∷ r ≡ w2 ∷ r2 = sym e ∙ e2 in (f ∙ sym f2, cc)
    one_step ms a b ws u v (stays w r e c f g) (adds w2 r2 p2 b2 m2 e2 c2 d2 f2 g2) = absurd (let bad : Passes ≡ Reads p2 b2 = sym c ∙ c2 in cc)
    one_step ms a b ws u v (adds w r p x m e c d f g) (stays w2 r2 e2 c2 f2 g2) = absurd (let bad : Passes ≡ Reads p x = sym c2 ∙ c in cc)
    one_step ms a b ws u v (adds w r p x m e c d f g) (adds w2 r2 p2 x2 m2 e2 c2 d2 f2 g2) =
        let same : w ∷ r ≡ w2 ∷ r2 = sym e ∙ e2 in
        let found : Reads p x ≡ Reads p2 x2 = sym c ∙ c2 in
        let path_is : p2 ≡ p = cc in
        let bytes_is : x2 ≡ x = cc in
        let made_is : m ≡ m2 = one.one_module p x m m2 d (subst (λ (z : List ℕ). reads p z m2) bytes_is (subst (λ (z : List ℕ). reads z x2 m2) path_is d2)) in
        let rest_is : r ≡ r2 = cc in
        let after_is : a ≡ b = f ∙ ap (λ (z : List ℕ). ms ++ record { path = z; bytes = x; made = m } ∷ []) (sym path_is) ∙ ap (λ (z : List ℕ). ms ++ record { path = p2; bytes = z; made = m } ∷ []) (sym bytes_is) ∙ ap (λ (z : M). ms ++ record { path = p2; bytes = x2; made = z } ∷ []) made_is ∙ sym f2 in
        (after_is, g ∙ ap (λ (z : M). waits (length ms) (length (requests z)) ++ r) made_is ∙ ap (λ (z : List Wait). waits (length ms) (length (requests m2)) ++ z) rest_is ∙ sym g2)

    -- of two states that are reached from one, one is reached from the other
    in_a_line : {modules a b : List (Loaded M)} {waiting u v : List Wait} → Leads modules waiting a u → Leads modules waiting b v → Leads a u b v ⊎ Leads b v a u
    in_a_line there g = inl g
    in_a_line (further s h) there = inr (further s h)
    in_a_line {b = b} {v = v} (further {modules = ms} {middle = x} {waiting = ws} {between = y} s h) (further {middle = x2} {between = y2} t k) =
        let same = one_step ms x x2 ws y y2 s t in
        in_a_line h (subst (λ (z : List Wait). Leads x z b v) (sym same.1) (subst (λ (z : List (Loaded M)). Leads z y2 b v) (sym same.0) k))

    -- how loading begins
    record Begun : Type 0 where
      bytes : List ℕ
      made : M
      fits : Fits {M = M} (Some file) [] entry bytes
      read : reads entry bytes made

    first_of : Begun → List (Loaded M)
    first_of b = record { path = entry; bytes = b.bytes; made = b.made } ∷ []

    begun : {modules : List (Loaded M)} {waiting : List Wait} → Comes (Some file) reads requests entry modules waiting → Begun
    begun (begins {bytes = b} {made = m} fits read) = record { bytes = b; made = m; fits = fits; read = read }
    begun (goes c g) = begun c

    same_begin : (a b : Begun) → first_of a ≡ first_of b
    unfolding first_of
    same_begin a b =
        let bytes_is : a.bytes ≡ b.bytes = same_some (sym a.fits.holds ∙ b.fits.holds) in
        let made_is : a.made ≡ b.made = one.one_module entry b.bytes a.made b.made (subst (λ (z : List ℕ). reads entry z a.made) bytes_is a.read) b.read in
        ap (λ (z : List ℕ). record { path = entry; bytes = z; made = a.made } ∷ []) bytes_is ∙ ap (λ (z : M). record { path = entry; bytes = b.bytes; made = z } ∷ []) made_is

    first_waits : List (Loaded M) → List Wait
    first_waits [] = []
    first_waits (m ∷ ms) = waits 0 (length (requests m.made))

    -- each state is reached from the beginning
    from_begin : (a : Begun) {modules : List (Loaded M)} {waiting : List Wait} → Comes (Some file) reads requests entry modules waiting → Leads (first_of a) (first_waits (first_of a)) modules waiting
    unfolding first_of first_waits
    from_begin a (begins {bytes = b} {made = m} fits read) =
        let c : Begun = record { bytes = b; made = m; fits = fits; read = read } in
        subst (λ (z : List (Loaded M)). Leads z (first_waits z) (first_of c) (first_waits (first_of c))) (same_begin c a) there
    from_begin a (goes c g) = once_more (from_begin a c) (step_of g)

    -- a fault that goes with what is found stops there
    stuck : (f : LoadFault F) (modules after : List (Loaded M)) (waiting more : List Wait) → Says f (check modules waiting) → StepOf modules waiting after more → ⊥
    unfolding Says
    stuck (fault.BadSpecifier base place specifier) ms a ws u s (stays w r e c f g) = let bad : Passes ≡ Bad = sym c ∙ s in cc
    stuck (fault.BadSpecifier base place specifier) ms a ws u s (adds w r p b m e c d f g) = let bad : Reads p b ≡ Bad = sym c ∙ s in cc
    stuck (fault.TooManyModules base place) ms a ws u s (stays w r e c f g) = let bad : Passes ≡ TooMany = sym c ∙ s in cc
    stuck (fault.TooManyModules base place) ms a ws u s (adds w r p b m e c d f g) = let bad : Reads p b ≡ TooMany = sym c ∙ s in cc
    stuck (fault.ReadFault path) ms a ws u s t = s
    stuck fault.EntryMissing ms a ws u s (stays w r e c f g) = let bad : Passes ≡ NoFile = sym c ∙ s in cc
    stuck fault.EntryMissing ms a ws u s (adds w r p b m e c d f g) = let bad : Reads p b ≡ NoFile = sym c ∙ s in cc
    stuck (fault.Missing base place specifier) ms a ws u s (stays w r e c f g) = let bad : Passes ≡ NoFile = sym c ∙ s in cc
    stuck (fault.Missing base place specifier) ms a ws u s (adds w r p b m e c d f g) = let bad : Reads p b ≡ NoFile = sym c ∙ s in cc
    stuck (fault.FileTooLong path) ms a ws u s (stays w r e c f g) = let bad : Passes ≡ TooLong = sym c ∙ s in cc
    stuck (fault.FileTooLong path) ms a ws u s (adds w r p b m e c d f g) = let bad : Reads p b ≡ TooLong = sym c ∙ s in cc
    stuck (fault.GraphTooLong path) ms a ws u s (stays w r e c f g) = let bad : Passes ≡ GraphLong = sym c ∙ s in cc
    stuck (fault.GraphTooLong path) ms a ws u s (adds w r p b m e c d f g) = let bad : Reads p b ≡ GraphLong = sym c ∙ s in cc
    stuck (fault.InModule path x) ms a ws u s (stays w r e c f g) = let bad : Passes ≡ Reads path s.0 = sym c ∙ s.1 in cc
    stuck (fault.InModule path x) ms a ws u s (adds w r p b m e c d f g) =
        let found : Reads p b ≡ Reads path s.0 = sym c ∙ s.1 in
        let path_is : p ≡ path = cc in
        let bytes_is : b ≡ s.0 = cc in
        one.no_fault path s.0 m x (subst (λ (z : List ℕ). reads path z m) bytes_is (subst (λ (z : List ℕ). reads z b m) path_is d)) s.2
    stuck fault.OutOfMemory ms a ws u s t = s

    -- nor does it stand at an entry that is read
    entry_found : (b : Begun) → check_entry ≡ Reads entry b.bytes
    unfolding check_entry
    entry_found b = of_fits [] entry b.bytes b.fits

    entry_read : (f : LoadFault F) → Begun → Says f check_entry → ⊥
    unfolding Says
    entry_read f b s = by_fault f (subst (Says f) (entry_found b) s)
      where
        by_fault : (f : LoadFault F) → Says f (Reads entry b.bytes) → ⊥
        by_fault (fault.BadSpecifier base place specifier) e = cc
        by_fault (fault.TooManyModules base place) e = cc
        by_fault (fault.ReadFault path) e = e
        by_fault fault.EntryMissing e = cc
        by_fault (fault.Missing base place specifier) e = cc
        by_fault (fault.FileTooLong path) e = cc
        by_fault (fault.GraphTooLong path) e = cc
        by_fault (fault.InModule path x) e =
            let found : Reads entry b.bytes ≡ Reads path e.0 = e.1 in
            let path_is : entry ≡ path = cc in
            let bytes_is : b.bytes ≡ e.0 = cc in
            one.no_fault path e.0 b.made x (subst (λ (z : List ℕ). reads path z b.made) bytes_is (subst (λ (z : List ℕ). reads z b.bytes b.made) path_is b.read)) e.2
        by_fault fault.OutOfMemory e = e

    -- a fault is one of a limit, by what is found
    plain_limit : (f : LoadFault F) (c : Check) → IsPlain c → Says f c → limit_of limit f ≡ is_limit_check c
    unfolding Says IsPlain is_limit_check
    plain_limit (fault.BadSpecifier base place specifier) c plain e = ap is_limit_check (sym e)
    plain_limit (fault.TooManyModules base place) c plain e = ap is_limit_check (sym e)
    plain_limit (fault.ReadFault path) c plain e = absurd e
    plain_limit fault.EntryMissing c plain e = ap is_limit_check (sym e)
    plain_limit (fault.Missing base place specifier) c plain e = ap is_limit_check (sym e)
    plain_limit (fault.FileTooLong path) c plain e = ap is_limit_check (sym e)
    plain_limit (fault.GraphTooLong path) c plain e = ap is_limit_check (sym e)
    plain_limit (fault.InModule path x) c plain e = absurd (subst IsPlain e.1 plain)
    plain_limit fault.OutOfMemory c plain e = absurd e

    read_limit : (f : LoadFault F) (path bytes : List ℕ) → Says f (Reads path bytes) → (x : F) × refuses path bytes x × (limit_of limit f ≡ limit x)
    unfolding Says
    read_limit (fault.BadSpecifier base place specifier) p b e = absurd (cc)
    read_limit (fault.TooManyModules base place) p b e = absurd (cc)
    read_limit (fault.ReadFault path) p b e = absurd e
    read_limit fault.EntryMissing p b e = absurd (cc)
    read_limit (fault.Missing base place specifier) p b e = absurd (cc)
    read_limit (fault.FileTooLong path) p b e = absurd (cc)
    read_limit (fault.GraphTooLong path) p b e = absurd (cc)
    read_limit (fault.InModule path x) p b e =
        let found : Reads p b ≡ Reads path e.0 = e.1 in
        let path_is : path ≡ p = cc in
        let bytes_is : e.0 ≡ b = cc in
        (x, subst (λ (z : List ℕ). refuses p z x) bytes_is (subst (λ (z : List ℕ). refuses z e.0 x) path_is e.2), refl)
    read_limit fault.OutOfMemory p b e = absurd e

    one_limit : (f g : LoadFault F) (c : Check) → Says f c → Says g c → limit_of limit f ≡ limit_of limit g
    unfolding IsPlain
    one_limit f g Passes s t = plain_limit f Passes tt s ∙ sym (plain_limit g Passes tt t)
    one_limit f g Bad s t = plain_limit f Bad tt s ∙ sym (plain_limit g Bad tt t)
    one_limit f g TooMany s t = plain_limit f TooMany tt s ∙ sym (plain_limit g TooMany tt t)
    one_limit f g NoFile s t = plain_limit f NoFile tt s ∙ sym (plain_limit g NoFile tt t)
    one_limit f g TooLong s t = plain_limit f TooLong tt s ∙ sym (plain_limit g TooLong tt t)
    one_limit f g GraphLong s t = plain_limit f GraphLong tt s ∙ sym (plain_limit g GraphLong tt t)
    one_limit f g (Reads p b) s t =
        let x = read_limit f p b s in
        let y = read_limit g p b t in
        x.2 ∙ one.one_fault p b x.0 y.0 x.1 y.1 ∙ sym y.2

    -- two states at which faults stand are one
    met : {a b : List (Loaded M)} {u v : List Wait} (f g : LoadFault F) → Says f (check a u) → Says g (check b v) → Leads a u b v → limit_of limit f ≡ limit_of limit g
    met {a = a} {u = u} f g s t there = one_limit f g (check a u) s t
    met {a = a} {u = u} f g s t (further {middle = x} {between = y} d h) = absurd (stuck f a x u y s d)

    stands_once : (f g : LoadFault F) → Stands f → Stands g → limit_of limit f ≡ limit_of limit g
    stands_once f g (at_entry s) (at_entry t) = one_limit f g check_entry s t
    stands_once f g (at_entry s) (at_request c t) = absurd (entry_read f (begun c) s)
    stands_once f g (at_request c s) (at_entry t) = absurd (entry_read g (begun c) t)
    stands_once f g (at_request {modules = a} {waiting = u} c s) (at_request {modules = b} {waiting = v} d t) = by_line (in_a_line (from_begin (begun c) c) (from_begin (begun c) d))
      where
        by_line : Leads a u b v ⊎ Leads b v a u → limit_of limit f ≡ limit_of limit g
        by_line (inl h) = met f g s t h
        by_line (inr h) = sym (met g f t s h)

    -- the graph is loaded, and no fault stands
    no_step : (modules after : List (Loaded M)) (more : List Wait) → StepOf modules [] after more → ⊥
    no_step ms a u (stays w r e c f g) = cc
    no_step ms a u (adds w r p b m e c d f g) = cc

    at_end : (f : LoadFault F) (modules : List (Loaded M)) → Says f (check modules []) → ⊥
    unfolding Says check
    at_end (fault.BadSpecifier base place specifier) ms e = cc
    at_end (fault.TooManyModules base place) ms e = cc
    at_end (fault.ReadFault path) ms e = e
    at_end fault.EntryMissing ms e = cc
    at_end (fault.Missing base place specifier) ms e = cc
    at_end (fault.FileTooLong path) ms e = cc
    at_end (fault.GraphTooLong path) ms e = cc
    at_end (fault.InModule path x) ms e = let bad : Passes ≡ Reads path e.0 = e.1 in cc
    at_end fault.OutOfMemory ms e = e

    ends_or_stands : (f : LoadFault F) (modules : List (Loaded M)) → Comes (Some file) reads requests entry modules [] → Stands f → ⊥
    ends_or_stands f ms c (at_entry s) = entry_read f (begun c) s
    ends_or_stands f ms c (at_request {modules = a} {waiting = u} d s) = by_line (in_a_line (from_begin (begun c) c) (from_begin (begun c) d))
      where
        from_end : {b : List (Loaded M)} {v : List Wait} → Leads ms [] b v → Says f (check b v) → ⊥
        from_end there t = at_end f ms t
        from_end (further {middle = x} {between = y} h g) t = no_step ms x y h

        to_end : {b : List (Loaded M)} {v : List Wait} → Leads b v ms [] → Says f (check b v) → ⊥
        to_end there t = at_end f ms t
        to_end {b = b} {v = v} (further {middle = x} {between = y} h g) t = stuck f b x v y t h

        by_line : Leads ms [] a u ⊎ Leads a u ms [] → ⊥
        by_line (inl h) = from_end h s
        by_line (inr h) = to_end h s

    one_end : (a b : List (Loaded M)) → Comes (Some file) reads requests entry a [] → Comes (Some file) reads requests entry b [] → a ≡ b
    one_end a b c d = by_line (in_a_line (from_begin (begun c) c) (from_begin (begun c) d))
      where
        ends : {x y : List (Loaded M)} → Leads x [] y [] → x ≡ y
        ends there = refl
        ends {x = x} (further {middle = m} {between = n} h g) = absurd (no_step x m n h)

        by_line : Leads a [] b [] ⊎ Leads b [] a [] → a ≡ b
        by_line (inl h) = ends h
        by_line (inr h) = sym (ends h)

    -- THE LAWS. Of one entry there is one graph; no graph and a fault besides; and two faults are both of a limit, or neither is.
    pub one_graph : (requested : M → List Request → M) (g h : List M) → IsGraph (Some file) reads requests entry requested g → IsGraph (Some file) reads requests entry requested h → g ≡ h
    one_graph requested g h a b =
        let same : a.modules ≡ b.modules = one_end a.modules b.modules a.ends b.ends in
        a.graph_is ∙ ap (λ (z : List (Loaded M)). map (λ m. renumbered requests requested (paths_of z) m.made m.path) z) same ∙ sym b.graph_is

    pub graph_or_fault : (requested : M → List Request → M) (shows : M → ℕ → Place → Type 0) (g : List M) (f : LoadFault F) → IsSure f → IsGraph (Some file) reads requests entry requested g → IsFault (Some file) reads requests entry shows refuses f → ⊥
    graph_or_fault requested shows g f sure a b = ends_or_stands f a.modules a.ends (fault_stands shows f sure b)

    pub one_fault_limit : (shows : M → ℕ → Place → Type 0) (f g : LoadFault F) → IsSure f → IsSure g → IsFault (Some file) reads requests entry shows refuses f → IsFault (Some file) reads requests entry shows refuses g → limit_of limit f ≡ limit_of limit g
    one_fault_limit shows f g sure sure2 a b = stands_once f g (fault_stands shows f sure a) (fault_stands shows g sure2 b)
