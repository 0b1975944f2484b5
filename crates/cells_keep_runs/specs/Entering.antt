-- What comes once in its activation: no record of the activation has such a name where a scope that declares it is entered, since code declares it once.
use Rattle.std.specs.Prelude.{◌≡◌, Bool, true, false, ◌&&◌, ◌||◌, if◌then◌else◌, List, [], ◌∷◌, ◌++◌, Option, None, Some, length, nat_eq, slice_get, ℕ}
use Rattle.core_ast.specs.declared.parts.ScopedName.{ScopedName}
use Rattle.core_ast.specs.declared.parts.Var.{Var}
use Rattle.core_ast.specs.declared.tree.CoreStat.{CoreStat}
use Rattle.core_meaning.specs.Marks.{AtStart, AtYield, CoreState, CoreWork, Generator, Mark, Own}
use Rattle.core_meaning.specs.State.{Context, Environment, Run}
use Rattle.pass_rules.specs.Cells.{is_among, is_shared}
use Rattle.pass_rules.specs.Scopes.{vars}
use Rattle.cells_keep_runs.specs.Alike.{Config}
use Rattle.cells_keep_runs.specs.Counted.{AllFits, Contexts1, Limit, OthersFit, bottom, counted, generator_counted, total}
use Rattle.cells_keep_runs.specs.Declares.{declares}
use Rattle.cells_keep_runs.specs.MayBeFlattened.{Whole}
use Rattle.cells_keep_runs.specs.Memory.{Seat, Seats, is_scoped}
use Rattle.cells_keep_runs.specs.Places.{Below}
use Rattle.cells_keep_runs.specs.Recounted.{AllHave}
use Rattle.cells_keep_runs.specs.Rounds.{activation_at, grouped, once}

-- a record of this activation has the name as a scope's
abbrev pub entered : Whole → Seats → ℕ → Var → Bool
entered whole [] a x = false
entered whole (seat ∷ seats) a x = (nat_eq (grouped whole seat.home) a && is_scoped seat x) || entered whole seats a x

abbrev pub entered_in : Whole → Seats → Option ℕ → Var → Bool
entered_in whole seats None x = false
entered_in whole seats (Some a) x = entered whole seats a x

abbrev pub is_this : Option ℕ → ℕ → Bool
is_this None a = false
is_this (Some b) a = nat_eq b a

-- A context may declare the name once yet, if none of its records has it; and those of this activation count.
abbrev pub limit_of : Whole → Seats → Var → ℕ → Limit
limit_of whole seats x a = record {
  most = λ (e : Environment). if entered_in whole seats (activation_at whole seats e) x then 0 else 1;
  counts = λ (e : Environment). if is_this (activation_at whole seats e) a then 1 else 0;
}

-- so it is of each name that comes once, and for each activation
abbrev pub AllOnce : Whole → Seats → Config → Type 0
AllOnce whole seats s = (x : Var) (a : ℕ) → is_shared whole.owners x ≡ false → once whole x ≡ true → AllFits (declares x) (limit_of whole seats x a) s

-- and where so much is used up of what the present context may declare
abbrev pub AllOnceBut : Whole → Seats → List ScopedName → Config → Type 0
AllOnceBut whole seats names s =
    (x : Var) (a : ℕ) → is_shared whole.owners x ≡ false → once whole x ≡ true → AllHave (declares x) (limit_of whole seats x a) ((declares x).names names) s

-- the environments that contexts end with have records
abbrev pub EndsBelow : ℕ → Context Mark Own CoreWork → Type 0
EndsBelow n k = Below n (bottom k.environment k.frames)

abbrev pub AllEndBelow : ℕ → Contexts1 → Type 0
AllEndBelow n [] = Unit {0}
AllEndBelow n (k ∷ ks) = EndsBelow n k × AllEndBelow n ks

abbrev pub GeneratorEndsBelow : ℕ → Generator → Type 0
GeneratorEndsBelow n (AtStart k) = EndsBelow n k
GeneratorEndsBelow n (AtYield k) = EndsBelow n k
GeneratorEndsBelow n g = Unit {0}

abbrev pub AllGeneratorsEndBelow : ℕ → List Generator → Type 0
AllGeneratorsEndBelow n [] = Unit {0}
AllGeneratorsEndBelow n (g ∷ gs) = GeneratorEndsBelow n g × AllGeneratorsEndBelow n gs

abbrev pub StateEndsBelow : ℕ → CoreState → Type 0
StateEndsBelow n st = EndsBelow n st.context × AllEndBelow n st.callers × AllGeneratorsEndBelow n st.store.generators

-- Where a scope or a handler is entered none of the activation's records has such a name;
abbrev pub NoneEntered : Type 0
NoneEntered = (whole : Whole) (seats : Seats) (names : List ScopedName) (s : Config) (h : ℕ)
    → activation_at whole seats (bottom s.state.context.environment s.state.context.frames) ≡ Some (grouped whole h)
    → AllOnceBut whole seats names s
    → (x : Var) (n : ℕ) (here : Seat) → is_shared whole.owners x ≡ false → once whole x ≡ true → is_among x (vars names) ≡ true
    → slice_get seats n ≡ Some here → here.home ≡ h → is_scoped here x ≡ false

-- and what is left to declare is right with the new record.
abbrev pub OnceEntered : Type 0
OnceEntered = (whole : Whole) (seats : Seats) (new : Seat) (names : List ScopedName) (s : Config) (stats : List CoreStat)
    → s.control ≡ Run stats → new.scoped ≡ vars names
    → activation_at whole seats (bottom s.state.context.environment s.state.context.frames) ≡ Some (grouped whole new.home)
    → StateEndsBelow (length seats) s.state → AllOnceBut whole seats names s → AllOnce whole (seats ++ new ∷ []) s

-- ---- where the new record has no such name

-- What is left to declare is right with it too.
abbrev pub OnceStays : Type 0
OnceStays = (whole : Whole) (seats : Seats) (new : Seat) (x : Var) (a : ℕ) (s : Config)
    → is_scoped new x ≡ false → StateEndsBelow (length seats) s.state
    → AllFits (declares x) (limit_of whole seats x a) s → AllFits (declares x) (limit_of whole (seats ++ new ∷ []) x a) s

-- ---- contexts of other activations

abbrev pub AllElsewhere : Whole → Seats → ℕ → Contexts1 → Type 0
AllElsewhere whole seats a [] = Unit {0}
AllElsewhere whole seats a (k ∷ ks) = (activation_at whole seats (bottom k.environment k.frames) ≡ Some a → ⊥) × AllElsewhere whole seats a ks

abbrev pub GeneratorElsewhere : Whole → Seats → ℕ → Generator → Type 0
GeneratorElsewhere whole seats a (AtStart k) = activation_at whole seats (bottom k.environment k.frames) ≡ Some a → ⊥
GeneratorElsewhere whole seats a (AtYield k) = activation_at whole seats (bottom k.environment k.frames) ≡ Some a → ⊥
GeneratorElsewhere whole seats a g = Unit {0}

abbrev pub AllGeneratorsElsewhere : Whole → Seats → ℕ → List Generator → Type 0
AllGeneratorsElsewhere whole seats a [] = Unit {0}
AllGeneratorsElsewhere whole seats a (g ∷ gs) = GeneratorElsewhere whole seats a g × AllGeneratorsElsewhere whole seats a gs

-- Where the present context counts, all others are of other activations;
abbrev pub OthersAreElsewhere : Type 0
OthersAreElsewhere = (whole : Whole) (seats : Seats) (x : Var) (a : ℕ) (st : CoreState)
    → activation_at whole seats (bottom st.context.environment st.context.frames) ≡ Some a
    → OthersFit (declares x) (limit_of whole seats x a) (counted (limit_of whole seats x a) st.context) st
    → AllElsewhere whole seats a st.callers × AllGeneratorsElsewhere whole seats a st.store.generators

-- and a call's is another than all.
abbrev pub NoneCounts : Type 0
NoneCounts = (whole : Whole) (seats : Seats) (x : Var) (a : ℕ) (ks : Contexts1) (gs : List Generator)
    → ((n : ℕ) (here : Seat) → slice_get seats n ≡ Some here → grouped whole here.home ≡ a → ⊥)
    → (total (counted (limit_of whole seats x a)) ks ≡ 0) × (total (generator_counted (limit_of whole seats x a)) gs ≡ 0)

pub record NamesComeOnce : Type 0 where
  pub none : NoneEntered
  pub entered : OnceEntered
  pub stays : OnceStays
  pub elsewhere : OthersAreElsewhere
  pub counts : NoneCounts
