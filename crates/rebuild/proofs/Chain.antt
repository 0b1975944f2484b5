-- What a shelf has handed out once a graph is loaded of it.
use Rattle.std.proofs.Common.{◌≡◌, ℕ, suc, Bool, true, false, ◌||◌, cond, List, [], ◌∷◌, ◌++◌, map, Some, refl, sym, ap, ◌∙◌, subst, append_assoc}
use Rattle.std.specs.Prelude.{slice_get}
use Rattle.std.specs.Str.{bytes_eq}
use Rattle.std.proofs.lemmas.List.{append-nil}
use Rattle.std.proofs.lemmas.List.Folds.{list_any-append}
use Rattle.std.proofs.lemmas.Slice.Eq.{bytes_eq-Decides}
use Rattle.es6_ast.specs.declared.graph.Request.{Request}
use Rattle.module_loading.specs.Files.{Told}
use Rattle.module_loading.specs.Loading.{Comes, Goes, Loaded, begins, goes, loads, past_host, past_loaded, paths_of}
use Rattle.module_loading.specs.Requests.{is_listed}
use Rattle.module_loading.specs.Supplying.{HandsOut, nothing, one_more}
use Rattle.module_loading.proofs.Ended.{comes-read}
use Rattle.module_loading.proofs.Lists.{map-push}
use Rattle.rebuild.specs.declared.shelf.Shelf.{Shelf}
use Rattle.rebuild.specs.Files.{AreReadOf, File, Map, changed, file_of, has, if_changed, is_same, kept_in, with_files}
use Rattle.rebuild.specs.Shelves.{HandsOver, read_paths, shelved}

-- ## Paths

bytes-turned : (xs ys : List ℕ) → bytes_eq xs ys ≡ false → bytes_eq ys xs ≡ false
bytes-turned xs ys e = by-test (bytes_eq ys xs) refl
  where
    by-test : (b : Bool) → bytes_eq ys xs ≡ b → b ≡ false
    by-test false f = refl
    by-test true f = absurd (let same : bytes_eq xs ys ≡ true = (bytes_eq-Decides xs ys).1 (sym ((bytes_eq-Decides ys xs).0 f)) in cc)

or-false : (a b : Bool) → (a || b) ≡ false → (a ≡ false) × (b ≡ false)
or-false false b e = (refl, e)
or-false true b e = absurd (cc)

-- a path that is none of these nor of those
unlisted : (q : List ℕ) (paths more : List (List ℕ)) → is_listed q (paths ++ more) ≡ false → (is_listed q paths ≡ false) × (is_listed q more ≡ false)
unlisted q paths more e = or-false (is_listed q paths) (is_listed q more) (sym (list_any-append (bytes_eq q) paths more) ∙ e)

-- the paths of these modules are new, each beside those before it and the ones seen already
abbrev pub AreNew : {M : Type 0} → List (List ℕ) → List (Loaded M) → Type 0
AreNew seen [] = Unit {0}
AreNew seen (m ∷ modules) = (is_listed m.path seen ≡ false) × AreNew (seen ++ m.path ∷ []) modules

new-push : {M : Type 0} (seen : List (List ℕ)) (modules : List (Loaded M)) (m : Loaded M) → AreNew seen modules → is_listed m.path (seen ++ paths_of modules) ≡ false → AreNew seen (modules ++ m ∷ [])
new-push seen [] m are new =
    let P : List (List ℕ) → Type 0 = λ list. is_listed m.path list ≡ false in
    (subst P (append-nil seen) new, tt)
new-push seen (n ∷ modules) m are new =
    let P : List (List ℕ) → Type 0 = λ list. is_listed m.path list ≡ false in
    (are.0, new-push (seen ++ n.path ∷ []) modules m are.1 (subst P (sym (append_assoc seen (n.path ∷ []) (paths_of modules))) new))

new-last : {M : Type 0} (seen : List (List ℕ)) (modules : List (Loaded M)) (m : Loaded M) → AreNew seen (modules ++ m ∷ []) → AreNew seen modules × (is_listed m.path (seen ++ paths_of modules) ≡ false)
new-last seen [] m are =
    let P : List (List ℕ) → Type 0 = λ list. is_listed m.path list ≡ false in
    (tt, subst P (sym (append-nil seen)) are.0)
new-last seen (n ∷ modules) m are =
    let P : List (List ℕ) → Type 0 = λ list. is_listed m.path list ≡ false in
    let rest = new-last (seen ++ n.path ∷ []) modules m are.1 in
    ((are.0, rest.0), subst P (append_assoc seen (n.path ∷ []) (paths_of modules)) rest.1)

module _ {M : Type 0} (told : Told) (reads : List ℕ → List ℕ → M → Type 0) (requests : M → List Request) where
  goes-new : {ms ns : List (Loaded M)} {ws vs : _} → Goes told reads requests ms ws ns vs → AreNew [] ms → AreNew [] ns
  goes-new (past_host is_of host) are = are
  goes-new (past_loaded is_of names listed) are = are
  goes-new (loads {modules = modules} {path = path} {bytes = bytes} {made = made} is_of names room fits read) are =
      new-push [] modules (record { path = path; bytes = bytes; made = made }) are names.is_new

  pub comes-new : {entry : List ℕ} {ms : List (Loaded M)} {ws : _} → Comes told reads requests entry ms ws → AreNew [] ms
  comes-new (begins fits read) = (refl, tt)
  comes-new (goes comes step) = goes-new step (comes-new comes)

  -- the modules were read of their files
  are-read : (ms : List (Loaded M)) → ((i : ℕ) (m : Loaded M) → slice_get ms i ≡ Some m → reads m.path m.bytes m.made) → AreReadOf reads (map file_of ms) (map (λ m. m.made) ms)
  are-read [] each = tt
  are-read (m ∷ ms) each = (each 0 m refl, are-read ms (λ i n at. each (suc i) n at))

  pub comes-are-read : {entry : List ℕ} {ms : List (Loaded M)} {ws : _} → Comes told reads requests entry ms ws → AreReadOf reads (map file_of ms) (map (λ m. m.made) ms)
  comes-are-read {ms = ms} comes = are-read ms (λ i m at. (comes-read told reads requests comes i m at).read)

-- ## Files that have changed

changed-push : (kept : Map) (files : List File) (file : File) → changed kept (files ++ file ∷ []) ≡ changed kept files ++ if_changed kept file
changed-push kept [] file = append-nil (if_changed kept file)
changed-push kept (other ∷ files) file =
    ap (λ rest. if_changed kept other ++ rest) (changed-push kept files file) ∙ sym (append_assoc (if_changed kept other) (changed kept files) (if_changed kept file))

one-same : (kept other : Map) (file : File) → kept file.0 ≡ other file.0 → if_changed kept file ≡ if_changed other file
one-same kept other file same = ap (λ there. cond (is_same there file.1) [] (file.0 ∷ [])) same

pub changed-same : (kept other : Map) (files : List File) → ((path : List ℕ) → kept path ≡ other path) → changed kept files ≡ changed other files
changed-same kept other [] same = refl
changed-same kept other (file ∷ files) same =
    ap (λ first. first ++ changed kept files) (one-same kept other file (same file.0)) ∙ ap (λ rest. if_changed other file ++ rest) (changed-same kept other files same)

-- a map with files, which rests on the map only at other paths than theirs
pub with-others : {M : Type 0} (kept other : Map) (modules : List (Loaded M)) (path : List ℕ) → (is_listed path (paths_of modules) ≡ false → kept path ≡ other path)
    → with_files (map file_of modules) kept path ≡ with_files (map file_of modules) other path
with-others kept other [] path same = same refl
with-others kept other (m ∷ modules) path same = by-test (bytes_eq m.path path) refl (λ rest. with-others kept other modules path rest)
  where
    by-test : (b : Bool) → bytes_eq m.path path ≡ b
        → ((is_listed path (paths_of modules) ≡ false → kept path ≡ other path) → with_files (map file_of modules) kept path ≡ with_files (map file_of modules) other path)
        → cond b (Some m.bytes) (with_files (map file_of modules) kept path) ≡ cond b (Some m.bytes) (with_files (map file_of modules) other path)
    by-test true e behind = refl
    by-test false e behind = behind (λ rest. same (ap (λ b. b || is_listed path (paths_of modules)) (bytes-turned m.path path e) ∙ rest))

-- ## The shelf

-- the modules that are out, and what is kept still
pub record IsOut {R A B M : Type 0} (before : Map) (shelf : Shelf R A B) (modules : List (Loaded M)) : Type 0 where
  pub out_is : shelf.out ≡ map file_of modules
  pub parsed_is : read_paths shelf ≡ changed before (map file_of modules)
  pub others : (path : List ℕ) → is_listed path (paths_of modules) ≡ false → shelved shelf path ≡ before path

module _ {R A B M : Type 0} (before : Map) (start : Shelf R A B) (same : (path : List ℕ) → shelved start path ≡ before path) (out : start.out ≡ []) (parsed : read_paths start ≡ []) where
  pub handed : {now : Shelf R A B} {modules : List (Loaded M)} → HandsOut (λ old path bytes new. HandsOver old path bytes new) start modules now → AreNew [] modules → IsOut before now modules
  handed nothing are = record { out_is = out; parsed_is = parsed; others = λ path unlisted. same path }
  handed (one_more {modules = modules} m {now = now} {next = next} hands step) are =
      let last = new-last [] modules m are in
      let is = handed hands last.0 in record {
        out_is = step.out_is ∙ ap (λ files. files ++ file_of m ∷ []) is.out_is ∙ sym (map-push file_of modules m);
        parsed_is = step.parsed_is ∙ ap (λ paths. paths ++ if_changed (shelved now) (file_of m)) is.parsed_is
            ∙ ap (λ one. changed before (map file_of modules) ++ one) (one-same (shelved now) before (file_of m) (is.others m.path last.1))
            ∙ sym (changed-push before (map file_of modules) (file_of m)) ∙ ap (λ files. changed before files) (sym (map-push file_of modules m));
        others = λ path none. (let P : List (List ℕ) → Type 0 = λ list. is_listed path list ≡ false in
            let both = unlisted path (paths_of modules) (m.path ∷ []) (subst P (map-push (λ one. one.path) modules m) none) in
            step.others path (bytes-turned path m.path (or-false (bytes_eq path m.path) false both.1).0) ∙ is.others path both.0);
      }
