-- What a call answers, beside what it is to answer.
use Rattle.std.specs.Prelude.{◌≡◌, ℕ, Option, Some, None, Result, Ok, Err, ⊤}
use Rattle.source_map.specs.declared.fault.MapFault.{MapFault}
use Rattle.source_map.specs.declared.fault.MapFault.TheVariants.{NoMap, BadBase64, BadJson, BadVersion, BadDigit, BadFields, BadIndex, OutOfMemory}

abbrev pub Fails : {A : Type 0} → MapFault → Result A MapFault → Type 0
Fails OutOfMemory outcome = ⊤
Fails NoMap outcome = outcome ≡ Err NoMap
Fails BadBase64 outcome = outcome ≡ Err BadBase64
Fails BadJson outcome = outcome ≡ Err BadJson
Fails BadVersion outcome = outcome ≡ Err BadVersion
Fails (BadDigit at) outcome = outcome ≡ Err (BadDigit at)
Fails (BadFields at) outcome = outcome ≡ Err (BadFields at)
Fails (BadIndex at) outcome = outcome ≡ Err (BadIndex at)

-- the call gives the outcome, unless memory ran out
abbrev pub Gives : {A : Type 0} → Result A MapFault → Result A MapFault → Type 0
Gives (Ok x) outcome = outcome ≡ Ok x
Gives (Err e) outcome = Fails e outcome

-- the same of what a value is by a view
abbrev pub GivesBy : {A B : Type 0} → (A → B) → Result A MapFault → Result B MapFault → Type 0
GivesBy view (Ok x) outcome = outcome ≡ Ok (view x)
GivesBy view (Err e) outcome = Fails e outcome

-- what it left is the outcome, unless memory ran out
abbrev pub Leaves : {A B : Type 0} → Result A MapFault → B → Result B MapFault → Type 0
Leaves (Ok x) left outcome = outcome ≡ Ok left
Leaves (Err e) left outcome = Fails e outcome

infixl 10 ◌>>=◌
abbrev pub ◌>>=◌ : {A B : Type 0} → Result A MapFault → (A → Result B MapFault) → Result B MapFault
(Ok x) >>= f = f x
(Err e) >>= f = Err e

abbrev pub or_bad_index : ℕ → Option ℕ → Result ℕ MapFault
or_bad_index at None = Err (BadIndex at)
or_bad_index at (Some value) = Ok value
