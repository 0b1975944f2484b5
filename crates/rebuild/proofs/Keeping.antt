-- What is kept, and what a file that is put in or taken out changes of it.
use Rattle.std.proofs.Common.{◌≡◌, ℕ, Bool, true, false, ◌&&◌, cond, nat_cmp, List, [], ◌∷◌, ◌++◌, Option, Some, None, refl, sym, ap, ◌∙◌, subst}
use Rattle.std.proofs.lemmas.List.{append-nil}
use Rattle.std.proofs.lemmas.Map.Text.{btree_map_updates_text}
use Rattle.std.proofs.lemmas.Slice.Eq.{bytes_eq-Decides}
use Rattle.std.specs.BTreeMap.{BTreeMap, UpdatesBy, get_by_text}
use Rattle.std.specs.Cmp.Lexicographic.{slice_cmp}
use Rattle.std.specs.Prelude.{String, string_bytes, option_and_then}
use Rattle.std.specs.String.{string_cmp}
use Rattle.std.specs.Str.{bytes_eq}
use Rattle.rebuild.specs.Files.{File, Map, has, if_changed, is_same, kept_in}

bytes-same : (xs ys : List ℕ) → bytes_eq xs ys ≡ true → xs ≡ ys
bytes-same xs ys e = (bytes_eq-Decides xs ys).0 e

-- a file at its own path
own : List ℕ → File → Option (List ℕ)
own path file = cond (bytes_eq file.0 path) (Some file.1) None

kept-own : {A : Type 0} (map : BTreeMap (String A) File) (path : List ℕ) (file : File) → get_by_text map path ≡ Some file → kept_in map path ≡ own path file
unfolding own
kept-own map path file there = ap (λ found. option_and_then (λ f. cond (bytes_eq f.0 path) (Some f.1) None) found) there

own-same : (path bytes : List ℕ) (file : File) → is_same (own path file) bytes ≡ (bytes_eq file.0 path && bytes_eq file.1 bytes)
unfolding own
own-same path bytes file = by-test (bytes_eq file.0 path)
  where
    by-test : (b : Bool) → is_same (cond b (Some file.1) None) bytes ≡ (b && bytes_eq file.1 bytes)
    by-test true = refl
    by-test false = refl

pub has-found : {A : Type 0} (map : BTreeMap (String A) File) (path bytes : List ℕ) (file : File) → get_by_text map path ≡ Some file → has (kept_in map) path bytes ≡ (bytes_eq file.0 path && bytes_eq file.1 bytes)
has-found map path bytes file there = ap (λ found. is_same found bytes) (kept-own map path file there) ∙ own-same path bytes file

pub has-none : {A : Type 0} (map : BTreeMap (String A) File) (path bytes : List ℕ) → get_by_text map path ≡ None → has (kept_in map) path bytes ≡ false
has-none map path bytes none = ap (λ found. is_same (option_and_then (λ f. cond (bytes_eq f.0 path) (Some f.1) None) found) bytes) none

both-true : (a b : Bool) → (a && b) ≡ true → (a ≡ true) × (b ≡ true)
both-true true b e = (refl, e)
both-true false b e = absurd (cc)

-- what is kept with these bytes is the file of the path
pub has-file : {A : Type 0} (map : BTreeMap (String A) File) (path bytes : List ℕ) (file : File) → get_by_text map path ≡ Some file → has (kept_in map) path bytes ≡ true → (file.0 ≡ path) × (file.1 ≡ bytes)
has-file map path bytes file there same =
    let both = both-true (bytes_eq file.0 path) (bytes_eq file.1 bytes) (sym (has-found map path bytes file there) ∙ same) in
    (bytes-same file.0 path both.0, bytes-same file.1 bytes both.1)

-- what is put in at a path changes what is kept there
pub kept-put : {A : Type 0} (key : List ℕ) (value file : File) (m n : BTreeMap (String A) File) → UpdatesBy string_cmp (λ k. slice_cmp nat_cmp key (string_bytes k)) m n (Some value) → key ≡ file.0 → value ≡ file
    → (path : List ℕ) → kept_in n path ≡ cond (bytes_eq file.0 path) (Some file.1) (kept_in m path)
kept-put {A} key value file m n updates key_is value_is path =
    let at : List ℕ → File → Option File → Option (List ℕ) = λ k v found. option_and_then (λ f. cond (bytes_eq f.0 path) (Some f.1) None) (cond (bytes_eq k path) (Some v) found) in
    ap (λ found. option_and_then (λ f. cond (bytes_eq f.0 path) (Some f.1) None) found) (btree_map_updates_text key m n (Some value) updates path)
    ∙ ap (λ k. at k value (get_by_text m path)) key_is ∙ ap (λ v. at file.0 v (get_by_text m path)) value_is ∙ by-test (bytes_eq file.0 path) refl
  where
    by-test : (b : Bool) → bytes_eq file.0 path ≡ b → option_and_then (λ f. cond (bytes_eq f.0 path) (Some f.1) None) (cond b (Some file) (get_by_text m path)) ≡ cond b (Some file.1) (kept_in m path)
    by-test true e = ap (λ b. cond b (Some file.1) None) e
    by-test false e = refl

-- what is taken out at a path changes nothing at another
pub kept-taken : {A : Type 0} (path : List ℕ) (m n : BTreeMap (String A) File) → UpdatesBy string_cmp (λ k. slice_cmp nat_cmp path (string_bytes k)) m n None → (other : List ℕ) → bytes_eq path other ≡ false
    → kept_in n other ≡ kept_in m other
kept-taken path m n updates other differs =
    let find : Option File → Option (List ℕ) = λ found. option_and_then (λ f. cond (bytes_eq f.0 other) (Some f.1) None) found in
    ap find (btree_map_updates_text path m n None updates other) ∙ ap (λ b. find (cond b None (get_by_text m other))) differs

pub unchanged : (kept : Map) (file : File) (paths : List (List ℕ)) → has kept file.0 file.1 ≡ true → paths ≡ paths ++ if_changed kept file
unchanged kept file paths same = sym (ap (λ b. paths ++ cond b [] (file.0 ∷ [])) same ∙ append-nil paths)

pub is-changed : (kept : Map) (file : File) (paths : List (List ℕ)) → has kept file.0 file.1 ≡ false → paths ++ file.0 ∷ [] ≡ paths ++ if_changed kept file
is-changed kept file paths other = sym (ap (λ b. paths ++ cond b [] (file.0 ∷ [])) other)

pub pair-same : {A B : Type 0} {a c : A} {b d : B} → a ≡ c → b ≡ d → ◌≡◌ {A = A × B} (a, b) (c, d)
pair-same {c = c} {b = b} e f = ap (λ x. (x, b)) e ∙ ap (λ y. (c, y)) f
