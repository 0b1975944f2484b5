-- Modules that are wanted, one by one.
use Rattle.std.proofs.Common.{◌≡◌, ℕ, ◌+◌, ◌||◌, Bool, true, false, List, [], ◌∷◌, ◌++◌, drop, Option, Some, refl, sym, ap, ◌∙◌}
use Rattle.std.specs.Prelude.{slice_get}
use Rattle.std.specs.List.{list_any}
use Rattle.std.proofs.lemmas.List.Folds.{list_any-append}
use Rattle.es6_static_semantics.specs.Findings.{joined}
use Rattle.module_lowering.specs.Modules.{ImportedSpace, is_module}
use Rattle.lower_walk.proofs.lower_names.Lists.{drop_read}

or-assoc : (a b c : Bool) → ((a || b) || c) ≡ (a || (b || c))
or-assoc true b c = refl
or-assoc false b c = refl

-- whether one of these spaces is of a module
abbrev pub any_of : ℕ → List ImportedSpace → Bool
any_of n ss = list_any (λ s. is_module n s.home) ss

pub space_more : (before after whole : ℕ → Bool) (ss : List ImportedSpace) (i : ℕ) (s : ImportedSpace) (home : Option ℕ) → slice_get ss i ≡ Some s → home ≡ s.home
    → ((n : ℕ) → after n ≡ (before n || is_module n home))
    → ((n : ℕ) → (before n || any_of n (drop i ss)) ≡ whole n)
    → (n : ℕ) → (after n || any_of n (drop (i + 1) ss)) ≡ whole n
space_more before after whole ss i s home there named grown known n =
    let rest : Bool = any_of n (drop (i + 1) ss) in
    ap (λ (b : Bool). b || rest) (grown n)
    ∙ ap (λ (h : Option ℕ). (before n || is_module n h) || rest) named
    ∙ or-assoc (before n) (is_module n s.home) rest
    ∙ ap (λ (l : List ImportedSpace). before n || any_of n l) (sym (drop_read ss i s there))
    ∙ known n

-- the same of the spaces of one module more
pub spaces_more : (before after whole : ℕ → Bool) (all : List (List ImportedSpace)) (i : ℕ) (ss : List ImportedSpace) (one : List ImportedSpace) → slice_get all i ≡ Some one → ss ≡ one
    → ((n : ℕ) → after n ≡ (before n || any_of n ss))
    → ((n : ℕ) → (before n || any_of n (joined (λ (l : List ImportedSpace). l) (drop i all))) ≡ whole n)
    → (n : ℕ) → (after n || any_of n (joined (λ (l : List ImportedSpace). l) (drop (i + 1) all))) ≡ whole n
spaces_more before after whole all i ss one there named grown known n =
    let rest : List ImportedSpace = joined (λ (l : List ImportedSpace). l) (drop (i + 1) all) in
    ap (λ (b : Bool). b || any_of n rest) (grown n)
    ∙ ap (λ (l : List ImportedSpace). (before n || any_of n l) || any_of n rest) named
    ∙ or-assoc (before n) (any_of n one) (any_of n rest)
    ∙ ap (λ (b : Bool). before n || b) (sym (list_any-append (λ s. is_module n s.home) one rest))
    ∙ ap (λ (l : List (List ImportedSpace)). before n || any_of n (joined (λ (k : List ImportedSpace). k) l)) (sym (drop_read all i one there))
    ∙ known n
