-- Names (ECMA-262, 6th edition, 8.1 and 12.1.6; 5.1 edition, 8.7, 10.2 and 11.1.2).
use Rattle.std.specs.Prelude.{Bool, List, None, Option, Some, [], codes, false, if◌then◌else◌, nat_eq, slice_index_or, slice_set, true, ℕ, ◌∷◌}
use Rattle.es_value.specs.declared.value.Value.TheVariants as value
use Rattle.es_realm.specs.declared.errors.ErrorKind.TheVariants.{ReferenceError, TypeError}
use Rattle.es_operators.specs.Primitives.{type_name}
use Rattle.core_ast.specs.declared.parts.Var.{Var}
use Rattle.core_ast.specs.declared.tree.CoreLink.{CoreLink}
use Rattle.core_meaning.specs.Rows.{Next, Rows, goes, has, leaves, raises, with_user}
use Rattle.core_meaning.specs.State.{Binding, CoreValue, Environment, EnvironmentRecord, Has, Sorts, State}

abbrev pub is_of : {M : Type 0} → Var → Binding M → Bool
is_of x b = nat_eq b.var.0 x.0

abbrev pub binding_in : {M : Type 0} → EnvironmentRecord M → Var → Option (Binding M)
binding_in [] x = None
binding_in (b ∷ bs) x = if is_of x b then Some b else binding_in bs x

-- a name, and the record that has it
pub record Resolved (M : Type 0) : Type 0 where
  pub at : ℕ
  pub binding : Binding M

abbrev pub or_outer : {M : Type 0} → ℕ → Option (Binding M) → Option (Resolved M) → Option (Resolved M)
or_outer n None outer = outer
or_outer n (Some b) outer = Some (record { at = n; binding = b })

abbrev pub record_at : {M : Type 0} → List (EnvironmentRecord M) → ℕ → EnvironmentRecord M
record_at records n = slice_index_or records n []

-- GetIdentifierReference (8.1.2.1): the innermost record that has the name
abbrev pub resolved : {M : Type 0} → List (EnvironmentRecord M) → Environment → Var → Option (Resolved M)
resolved records [] x = None
resolved records (n ∷ ns) x = or_outer n (binding_in (record_at records n) x) (resolved records ns x)

unfoldable pub resolve : {s : Sorts} {S : Type 0} → State s S → Var → Option (Resolved s.Mark)
resolve st x = resolved st.records st.context.environment x

abbrev pub by_exit : {s : Sorts} {S : Type 0} → Option ℕ → State s S → Next s S
by_exit None st = raises ReferenceError st
by_exit (Some n) st = leaves n st

abbrev pub not_bound : {s : Sorts} {S : Type 0} → Rows s S → Var → State s S → Next s S
not_bound rows x st = by_exit (rows.unbound x) st

-- ---- reading (8.1.1.1.6)

abbrev pub read_found : {s : Sorts} {S : Type 0} → Rows s S → Var → List CoreLink → State s S → Option (Resolved s.Mark) → Next s S
read_found rows x links st None = not_bound rows x st
read_found rows x links st (Some r) = goes (Has r.binding.value) links st

abbrev pub read : {s : Sorts} {S : Type 0} → Rows s S → Var → List CoreLink → State s S → Next s S
read rows x links st = read_found rows x links st (resolve st x)

-- `typeof` of a name that nothing binds (12.5.6.1; 5.1 edition, 11.4.3)
abbrev pub type_unbound : {s : Sorts} {S : Type 0} → Option ℕ → List CoreLink → State s S → Next s S
type_unbound None links st = has (value.Text (codes "undefined")) links st
type_unbound (Some n) links st = leaves n st

abbrev pub type_found : {s : Sorts} {S : Type 0} → Rows s S → Var → List CoreLink → State s S → Option (Resolved s.Mark) → Next s S
type_found rows x links st None = type_unbound (rows.unbound x) links st
type_found rows x links st (Some r) =
    with_user r.binding.value st (λ v. has (value.Text (type_name st.heap v)) links st)

abbrev pub type_of : {s : Sorts} {S : Type 0} → Rows s S → Var → List CoreLink → State s S → Next s S
type_of rows x links st = type_found rows x links st (resolve st x)

-- ---- writing (8.1.1.1.5; 5.1 edition, 10.2.1.1.3)

abbrev pub with_value : {M : Type 0} → EnvironmentRecord M → Var → CoreValue M → EnvironmentRecord M
with_value [] x v = []
with_value (b ∷ bs) x v = if is_of x b then record b { value = v } ∷ bs else b ∷ with_value bs x v

abbrev pub stored_at : {s : Sorts} {S : Type 0} → ℕ → Var → CoreValue s.Mark → State s S → State s S
stored_at n x v st = record st { records = slice_set st.records n (with_value (record_at st.records n) x v) }

abbrev pub if_mutable : {s : Sorts} {S : Type 0} → Bool → State s S → Next s S → Next s S
if_mutable true st next = next
if_mutable false st next = raises TypeError st

-- the name takes the first value, and the second goes on
abbrev pub write_found : {s : Sorts} {S : Type 0} → Rows s S → Var → CoreValue s.Mark → CoreValue s.Mark → List CoreLink → State s S → Option (Resolved s.Mark) → Next s S
write_found rows x v w links st None = not_bound rows x st
write_found rows x v w links st (Some r) = if_mutable r.binding.mutable st (goes (Has w) links (stored_at r.at x v st))

unfoldable pub write : {s : Sorts} {S : Type 0} → Rows s S → Var → CoreValue s.Mark → CoreValue s.Mark → List CoreLink → State s S → Next s S
write rows x v w links st = write_found rows x v w links st (resolve st x)

-- InitializeBinding (8.1.1.1.4)
abbrev pub initialize_found : {s : Sorts} {S : Type 0} → Var → CoreValue s.Mark → State s S → Option (Resolved s.Mark) → State s S
initialize_found x v st None = st
initialize_found x v st (Some r) = stored_at r.at x v st

unfoldable pub initialized : {s : Sorts} {S : Type 0} → Var → CoreValue s.Mark → State s S → State s S
initialized x v st = initialize_found x v st (resolve st x)
