-- The suffix makes names that no host and no global has.
use Rattle.std.proofs.Common.{◌≡◌, ℕ, zero, suc, ◌+◌, ◌≤◌, Bool, true, false, ◌||◌, ◌&&◌, not, List, [], ◌∷◌, ◌++◌, refl, sym, ◌∙◌, ap, subst, ◌⊎◌, inl, inr, arith, max, add-one}
use Rattle.std.specs.Prelude.{replicate, ◌==◌, if◌then◌else◌}
use Rattle.std.specs.Str.{bytes_eq}
use Rattle.std.specs.List.{list_any, list_all}
use Rattle.std.specs.Prelude.{codes}
use Rattle.first_target.specs.Names.{known_globals, kept_globals, left_out_globals}
use Rattle.es5_ast.specs.Lexical.{is_identifier_name, is_identifier_part, is_identifier_start, reserved_words}
use Rattle.es5_ast.specs.Grammar.{is_identifier}
use Rattle.es5_ast.specs.Early.{is_restricted}
use Rattle.first_forms.specs.Names.{is_one_of, unbindable_names, IsBindable}
use Rattle.first_script.specs.Suffix.{trailing_dollars, most_dollars, suffix_for}
use Rattle.first_script.proofs.Names.{same_names, bool_cases, true_not_false, or_cases, or_right}
use Rattle.first_script.proofs.Started.{IsFresh}

-- a name that a script may bind and refer to
pub record IsUsable (name : List ℕ) : Type 0 where
  pub identifier : is_identifier_name name ≡ true
  pub free : is_identifier name ≡ true
  pub unrestricted : is_restricted name ≡ false

function_is_reserved : is_identifier (codes "function") ≡ false
unfolding reserved_words
function_is_reserved = refl

-- it is not this reserved word, and not `eval`
pub usable_not_function : (name : List ℕ) → IsUsable name → bytes_eq name (codes "function") ≡ false
usable_not_function name u = by_name (bool_cases (bytes_eq name (codes "function")))
  where
    by_name : (bytes_eq name (codes "function") ≡ true) ⊎ (bytes_eq name (codes "function") ≡ false) → bytes_eq name (codes "function") ≡ false
    by_name (inl e) = absurd (true_not_false (is_identifier name) u.free (ap is_identifier (same_names name (codes "function") e) ∙ function_is_reserved))
    by_name (inr e) = e

pub usable_not_eval : (name : List ℕ) → IsUsable name → bytes_eq name (codes "eval") ≡ false
usable_not_eval name u = first (bytes_eq name (codes "eval")) (bytes_eq name (codes "arguments") || false) u.unrestricted
  where
    first : (a b : Bool) → (a || b) ≡ false → a ≡ false
    first true b e = e
    first false b e = refl

trailing-replicate : (k n : ℕ) → trailing_dollars n (replicate k 36) ≡ n + k
trailing-replicate zero n = omega arith
trailing-replicate (suc k) n = trailing-replicate k (n + 1) ∙ omega arith

trailing_after : (k n : ℕ) (x : List ℕ) → k ≤ trailing_dollars n (x ++ replicate k 36)
trailing_after k n [] = omega (arith, trailing-replicate k n)
trailing_after k n (b ∷ bs) = trailing_after k (if b == 36 then n + 1 else 0) bs

most_of : (f : List ℕ) (hosts : List (List ℕ)) → is_one_of f hosts ≡ true → trailing_dollars 0 f ≤ most_dollars hosts
most_of f [] m = absurd (true_not_false false m refl)
most_of f (h ∷ hs) m = by_case (or_cases (bytes_eq f h) (is_one_of f hs) m) (λ e. most_of f hs e)
  where
    by_case : (bytes_eq f h ≡ true) ⊎ (is_one_of f hs ≡ true) → (is_one_of f hs ≡ true → trailing_dollars 0 f ≤ most_dollars hs) → trailing_dollars 0 f ≤ max (trailing_dollars 0 h) (most_dollars hs)
    by_case (inl e) later = let same : trailing_dollars 0 f ≡ trailing_dollars 0 h = ap (trailing_dollars 0) (same_names f h e) in omega arith
    by_case (inr e) later = let below : trailing_dollars 0 f ≤ most_dollars hs = later e in omega arith

-- a name with `$` in it
abbrev has_dollar : List ℕ → Bool
has_dollar name = list_any (λ b. b == 36) name

has_dollar-append : (x rest : List ℕ) → has_dollar (x ++ 36 ∷ rest) ≡ true
has_dollar-append [] rest = refl
has_dollar-append (b ∷ bs) rest = or_right (b == 36) (has_dollar (bs ++ 36 ∷ rest)) (has_dollar-append bs rest)

suffix_begins : (hosts : List (List ℕ)) → suffix_for hosts ≡ 36 ∷ replicate (most_dollars hosts) 36
suffix_begins hosts = ap (λ n. replicate n 36) (add-one (most_dollars hosts))

pub has_dollar-suffix : (hosts : List (List ℕ)) (x : List ℕ) → has_dollar (x ++ suffix_for hosts) ≡ true
has_dollar-suffix hosts x = ap (λ s. has_dollar (x ++ s)) (suffix_begins hosts) ∙ has_dollar-append x (replicate (most_dollars hosts) 36)

-- a name with `$` is not one of names without
not_among : (y : List ℕ) (names : List (List ℕ)) → list_all (λ n. not (has_dollar n)) names ≡ true → has_dollar y ≡ true → is_one_of y names ≡ false
not_among y [] all d = refl
not_among y (n ∷ names) all d = by_case (bool_cases (bytes_eq y n)) (λ rest. not_among y names rest d)
  where
    both : (a b : Bool) → (a && b) ≡ true → (a ≡ true) × (b ≡ true)
    both true b e = (refl, e)
    both false b e = absurd (true_not_false false e refl)

    by_case : (bytes_eq y n ≡ true) ⊎ (bytes_eq y n ≡ false) → (list_all (λ m. not (has_dollar m)) names ≡ true → is_one_of y names ≡ false) → is_one_of y (n ∷ names) ≡ false
    by_case (inl e) later =
        let dollar : has_dollar n ≡ true = ap has_dollar (sym (same_names y n e)) ∙ d in
        absurd (true_not_false (not (has_dollar n)) (both (not (has_dollar n)) _ all).0 (ap not dollar))
    by_case (inr e) later = ap (λ b. b || is_one_of y names) e ∙ later (both (not (has_dollar n)) _ all).1

globals_without : list_all (λ n. not (has_dollar n)) known_globals ≡ true
unfolding known_globals kept_globals left_out_globals
globals_without = refl

reserved_without : list_all (λ n. not (has_dollar n)) reserved_words ≡ true
unfolding reserved_words
reserved_without = refl

pub suffix_is_fresh : (hosts : List (List ℕ)) → IsFresh (suffix_for hosts) hosts
suffix_is_fresh hosts = record {
  no_host = λ x f m e.
      let below : trailing_dollars 0 f ≤ most_dollars hosts = most_of f hosts m in
      let above : most_dollars hosts + 1 ≤ trailing_dollars 0 f = subst (λ y. most_dollars hosts + 1 ≤ trailing_dollars 0 y) e (trailing_after (most_dollars hosts + 1) 0 x) in
      omega arith;
  no_global = λ x. not_among (x ++ suffix_for hosts) known_globals globals_without (has_dollar-suffix hosts x);
}

parts_after : (bs : List ℕ) (k : ℕ) → list_all is_identifier_part bs ≡ true → list_all is_identifier_part (bs ++ replicate k 36) ≡ true
parts_after [] zero h = refl
parts_after [] (suc k) h = parts_after [] k h
parts_after (b ∷ bs) k h = by_head (is_identifier_part b) (list_all is_identifier_part bs) (list_all is_identifier_part (bs ++ replicate k 36)) h (λ e. parts_after bs k e)
  where
    by_head : (a b c : Bool) → (a && b) ≡ true → (b ≡ true → c ≡ true) → (a && c) ≡ true
    by_head true b c e f = f e
    by_head false b c e f = e

identifier_after : (hosts : List (List ℕ)) (x : List ℕ) → is_identifier_name x ≡ true → is_identifier_name (x ++ suffix_for hosts) ≡ true
identifier_after hosts [] h = absurd (true_not_false false h refl)
identifier_after hosts (b ∷ bs) h = by_head (is_identifier_start b) (list_all is_identifier_part bs) (list_all is_identifier_part (bs ++ suffix_for hosts)) h (λ e. parts_after bs (most_dollars hosts + 1) e)
  where
    by_head : (a b c : Bool) → (a && b) ≡ true → (b ≡ true → c ≡ true) → (a && c) ≡ true
    by_head true b c e f = f e
    by_head false b c e f = e

-- a declared name with the suffix is an identifier of the script
pub usable_with_suffix : (hosts : List (List ℕ)) (x : List ℕ) → IsBindable x → IsUsable (x ++ suffix_for hosts)
usable_with_suffix hosts x b = record {
  identifier = identifier_after hosts x b.identifier;
  free = ap not (not_among (x ++ suffix_for hosts) reserved_words reserved_without (has_dollar-suffix hosts x));
  unrestricted = not_among (x ++ suffix_for hosts) (codes "eval" ∷ codes "arguments" ∷ []) refl (has_dollar-suffix hosts x);
}

-- every reserved word is unbindable in a module, and so are `eval` and `arguments`
all_unbindable : list_all (λ n. is_one_of n unbindable_names) reserved_words ≡ true
unfolding reserved_words unbindable_names
all_unbindable = refl

restricted_unbindable : list_all (λ n. is_one_of n unbindable_names) (codes "eval" ∷ codes "arguments" ∷ []) ≡ true
unfolding unbindable_names
restricted_unbindable = refl

among_all : (y : List ℕ) (names others : List (List ℕ)) → list_all (λ n. is_one_of n others) names ≡ true → is_one_of y others ≡ false → is_one_of y names ≡ false
among_all y [] others all f = refl
among_all y (n ∷ names) others all f = by_case (bool_cases (bytes_eq y n)) (λ rest. among_all y names others rest f)
  where
    both : (a b : Bool) → (a && b) ≡ true → (a ≡ true) × (b ≡ true)
    both true b e = (refl, e)
    both false b e = absurd (true_not_false false e refl)

    by_case : (bytes_eq y n ≡ true) ⊎ (bytes_eq y n ≡ false) → (list_all (λ m. is_one_of m others) names ≡ true → is_one_of y names ≡ false) → is_one_of y (n ∷ names) ≡ false
    by_case (inl e) later = absurd (true_not_false (is_one_of y others) (ap (λ m. is_one_of m others) (same_names y n e) ∙ (both (is_one_of n others) _ all).0) f)
    by_case (inr e) later = ap (λ b. b || is_one_of y names) e ∙ later (both (is_one_of n others) _ all).1

-- a bindable name of a module is an identifier of the script
pub usable : (x : List ℕ) → IsBindable x → IsUsable x
usable x b = record {
  identifier = b.identifier;
  free = ap not (among_all x reserved_words unbindable_names all_unbindable b.free);
  unrestricted = among_all x (codes "eval" ∷ codes "arguments" ∷ []) unbindable_names restricted_unbindable b.free;
}
