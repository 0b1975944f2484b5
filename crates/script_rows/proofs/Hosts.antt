-- The names of hosts beside their functions, from a number on.
use Rattle.std.proofs.Common.{◌≡◌, ℕ, ◌+◌, ◌<◌, ◌≤◌, List, [], ◌∷◌, length, get_or, drop, refl, ◌∙◌, zero, suc, None, Some, true, false, if◌then◌else◌, add-one}
use Rattle.std.proofs.lemmas.Option.{slice_get_past}
use Rattle.std.proofs.Math.Seq.{drop-cons}
use Rattle.std.specs.List.{slice_get}
use Rattle.std.specs.Str.{bytes_eq}
use Rattle.core_ast.specs.declared.parts.Var.{Var}
use Rattle.es_value.specs.declared.value.ObjId.{ObjId}
use Rattle.es_value.specs.declared.value.Value.TheVariants as value
use Rattle.script_core.specs.Meaning.{host_binding, user_binding}

none_left : {A : Type 0} (xs : List A) (n : ℕ) → slice_get xs n ≡ None → drop n xs ≡ []
none_left [] zero e = refl
none_left [] (suc n) e = refl
none_left (x ∷ xs) zero e = cc
none_left (x ∷ xs) (suc n) e = none_left xs n e

some_left : {A : Type 0} (xs : List A) (n : ℕ) (x : A) → slice_get xs n ≡ Some x → drop n xs ≡ x ∷ drop (suc n) xs
some_left [] zero x e = cc
some_left [] (suc n) x e = cc
some_left (y ∷ xs) zero x e = cc
some_left (y ∷ xs) (suc n) x e = some_left xs n x e

-- no host has this number
pub no_host : (x : Var) (name : List ℕ) (hosts : List (List ℕ)) (functions : List ObjId) (n : ℕ) → slice_get hosts n ≡ None → host_binding x name (drop n hosts) (drop n functions) ≡ []
no_host x name hosts functions n e = rw (none_left hosts n e) refl

alone : (x : Var) (name : List ℕ) (hosts : List (List ℕ)) → host_binding x name hosts [] ≡ []
alone x name [] = refl
alone x name (h ∷ hosts) = refl

-- no function has it
pub no_function : (x : Var) (name : List ℕ) (hosts : List (List ℕ)) (functions : List ObjId) (n : ℕ) → length functions ≤ n → host_binding x name (drop n hosts) (drop n functions) ≡ []
no_function x name hosts functions n past = rw (none_left functions n (slice_get_past functions n past)) (alone x name (drop n hosts))

host_next : (x : Var) (name h : List ℕ) (hosts : List (List ℕ)) (functions : List ObjId) (n : ℕ) (d : ObjId) → slice_get hosts n ≡ Some h → n < length functions
    → host_binding x name (drop n hosts) (drop n functions) ≡ (if bytes_eq name h then user_binding x (value.Object (get_or functions n d)) true ∷ [] else host_binding x name (drop (suc n) hosts) (drop (suc n) functions))
host_next x name h hosts functions n d e within = rw (some_left hosts n h e, drop-cons functions n d within) refl

-- the host of this number has the name
pub host_found : (x : Var) (name h : List ℕ) (hosts : List (List ℕ)) (functions : List ObjId) (n : ℕ) (d : ObjId) → slice_get hosts n ≡ Some h → n < length functions → bytes_eq name h ≡ true
    → host_binding x name (drop n hosts) (drop n functions) ≡ user_binding x (value.Object (get_or functions n d)) true ∷ []
host_found x name h hosts functions n d e within same = host_next x name h hosts functions n d e within ∙ rw same refl

-- or one behind it may
pub host_passed : (x : Var) (name h : List ℕ) (hosts : List (List ℕ)) (functions : List ObjId) (n : ℕ) → slice_get hosts n ≡ Some h → n < length functions → bytes_eq name h ≡ false
    → host_binding x name (drop n hosts) (drop n functions) ≡ host_binding x name (drop (n + 1) hosts) (drop (n + 1) functions)
host_passed x name h hosts functions n e within differs =
    let d : ObjId = record { 0 = 0 } in
    host_next x name h hosts functions n d e within ∙ rw (differs, add-one) refl
