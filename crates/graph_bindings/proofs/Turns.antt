-- The bindings of a module, one by one.
use Rattle.std.proofs.Common.{◌≡◌, ℕ, zero, suc, ◌+◌, ◌≤◌, List, [], ◌∷◌, length, drop, Option, Some, None, refl, ◌∙◌, arith}
use Rattle.std.specs.Prelude.{slice_get}
use Rattle.scope_rules.specs.declared.scope_tables.binding.Binding.{Binding}
use Rattle.scope_analysis.specs.declared.tables.ModuleScopes.{ModuleScopes}
use Rattle.scope_analysis.specs.Answers.{binding_in}
use Rattle.lower_walk.specs.lower_names.Names.{names_in}
use Rattle.lower_walk.proofs.lower_names.Lists.{drop_none, drop_read}

read_in : (m : Option ModuleScopes) (n : ℕ) → slice_get (names_in m) n ≡ binding_in n m
read_in None n = refl
read_in (Some m) n = refl

pub next_binding : (m : Option ModuleScopes) (n : ℕ) (b : Binding) → binding_in n m ≡ Some b → drop n (names_in m) ≡ b ∷ drop (n + 1) (names_in m)
next_binding m n b e = drop_read (names_in m) n b (read_in m n ∙ e)

pub no_binding : (m : Option ModuleScopes) (n : ℕ) → binding_in n m ≡ None → drop n (names_in m) ≡ []
no_binding m n e = drop_none (names_in m) n (read_in m n ∙ e)

past : {A : Type 0} (xs : List A) (n : ℕ) → slice_get xs n ≡ None → length xs ≤ n
past [] n e = omega arith
past (x ∷ xs) zero e = absurd (cc)
past (x ∷ xs) (suc n) e =
    let h : length xs ≤ n = past xs n e in
    omega (arith, h)

-- all are counted
pub all_counted : (m : Option ModuleScopes) (n : ℕ) → binding_in n m ≡ None → n ≤ length (names_in m) → n ≡ length (names_in m)
all_counted m n e within =
    let h : length (names_in m) ≤ n = past (names_in m) n (read_in m n ∙ e) in
    omega (arith, within, h)
