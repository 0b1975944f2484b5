-- Findings: a rule of a table and the place where it stands, an offset in bytes. The least one is reported.
use Rattle.std.specs.Prelude.{◌≡◌, ℕ, Bool, true, false, ◌&&◌, ◌||◌, ◌==◌, nat_lt, List, [], ◌∷◌, ◌++◌, cond, fold, Option, Some, None, Contains, All, max}
use Rattle.std.specs.List.{list_any}
use Rattle.std.specs.Str.{bytes_eq}
use Rattle.es6_ast.specs.declared.tree.Identifier.{Identifier}

pub record Pair : Type 0 where
  pub rule : ℕ
  pub at : ℕ

abbrev pub when : Bool → ℕ → ℕ → List Pair
when test rule at = cond test (record { rule = rule; at = at } ∷ []) []

abbrev pub joined : {A B : Type 0} → (A → List B) → List A → List B
joined f [] = []
joined f (x ∷ xs) = f x ++ joined f xs

abbrev pub maybe : {A B : Type 0} → (A → List B) → Option A → List B
maybe f None = []
maybe f (Some x) = f x

abbrev pub is_name_of : List ℕ → List Identifier → Bool
is_name_of name xs = list_any (λ x. bytes_eq x.name name) xs

-- the rule at each name that stands before it
abbrev pub repeated : ℕ → List Identifier → List Identifier → List Pair
repeated rule before [] = []
repeated rule before (x ∷ xs) = when (is_name_of x.name before) rule x.span.begin ++ repeated rule (before ++ x ∷ []) xs

-- the rule at each name of the second list that stands in the first
abbrev pub shared : ℕ → List Identifier → List Identifier → List Pair
shared rule others xs = joined (λ x. when (is_name_of x.name others) rule x.span.begin) xs

-- where a name first stands in a list
abbrev pub first_place : List ℕ → List Identifier → Option ℕ
first_place name [] = None
first_place name (x ∷ xs) = cond (bytes_eq x.name name) (Some x.span.begin) (first_place name xs)

-- the rule at each name of the first list that stands in the second: at the later of the name and the first there
abbrev pub clashes : ℕ → List Identifier → List Identifier → List Pair
clashes rule xs ys = joined (λ x. maybe (λ at. when true rule (max x.span.begin at)) (first_place x.name ys)) xs

-- Which of two pairs comes first: by place, then by rule.
abbrev pub comes_first : Pair → Pair → Bool
comes_first p q = nat_lt p.at q.at || ((p.at == q.at) && nat_lt p.rule q.rule)

abbrev pub earlier : Option Pair → Pair → Option Pair
earlier None p = Some p
earlier (Some q) p = Some (cond (comes_first p q) p q)

-- the pair that is reported of these: the one that comes first, or none where there is none
abbrev pub least_pair : List Pair → Option Pair
least_pair pairs = fold earlier None pairs

-- the pair is one of these, and none of them comes before it
abbrev pub IsFirst : Pair → List Pair → Type 0
IsFirst p pairs = Contains pairs p × All (λ q. comes_first q p ≡ false) pairs
