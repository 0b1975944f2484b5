-- The search for the number of a name.
use Rattle.std.proofs.Common.{◌≡◌, ℕ, ◌+◌, ◌-◌, ◌<◌, ◌&&◌, Bool, cond, nat_eq, List, [], ◌∷◌, length, drop, Option, Some, None, refl, sym, ap, ◌∙◌, arith}
use Rattle.std.specs.Str.{bytes_eq}
use Rattle.std.specs.Prelude.{slice_get}
use Rattle.std.proofs.lemmas.Option.{slice_get_within}
use Rattle.scope_rules.specs.declared.scope_tables.binding.Binding.{Binding}
use Rattle.scope_rules.specs.scope_tables.Scoping.{is_of, number_from}
use Rattle.scope_analysis.specs.declared.tables.ModuleScopes.{ModuleScopes}
use Rattle.scope_analysis.specs.Answers.{binding_in}
use Rattle.lower_walk.specs.lower_names.Names.{names_in}
use Rattle.lower_walk.proofs.lower_names.Lists.{drop_none, drop_read}

read_in : (m : Option ModuleScopes) (n : ℕ) → slice_get (names_in m) n ≡ binding_in n m
read_in None n = refl
read_in (Some m) n = refl

pub number_step : (m : Option ModuleScopes) (n : ℕ) (name : List ℕ) (b : Binding) → binding_in n m ≡ Some b → number_from n 0 name (drop n (names_in m)) ≡ cond (is_of 0 name b) (Some n) (number_from (n + 1) 0 name (drop (n + 1) (names_in m)))
number_step m n name b e = ap (λ bs. number_from n 0 name bs) (drop_read (names_in m) n b (read_in m n ∙ e))

pub number_end : (m : Option ModuleScopes) (n : ℕ) (name : List ℕ) → binding_in n m ≡ None → number_from n 0 name (drop n (names_in m)) ≡ None
number_end m n name e = ap (λ bs. number_from n 0 name bs) (drop_none (names_in m) n (read_in m n ∙ e))

pub number_within : (m : Option ModuleScopes) (n : ℕ) (b : Binding) → binding_in n m ≡ Some b → n < length (names_in m)
number_within m n b e = slice_get_within (names_in m) n b (read_in m n ∙ e)

pub falls : (whole n next : ℕ) → next ≡ n + 1 → n < whole → whole - next < whole - n
falls whole n next e h = omega arith

-- a test of scope and name, by its parts
pub tested : (name : List ℕ) (b : Binding) (bytes : List ℕ) (eq t : Bool) → bytes ≡ b.name → eq ≡ bytes_eq name bytes → (nat_eq 0 b.scope && eq) ≡ t → is_of 0 name b ≡ t
tested name b bytes eq t named equal e =
    ap (λ (n : List ℕ). nat_eq 0 b.scope && bytes_eq name n) (sym named) ∙ ap (λ (r : Bool). nat_eq 0 b.scope && r) (sym equal) ∙ e
