-- Names along a scope from its outermost record in, and bindings in a record.
use Rattle.std.proofs.Common.{◌≡◌, ℕ, ◌<◌, List, [], ◌∷◌, ◌++◌, length, get_or, take, drop, reverse, refl, sym, ap, ◌∙◌, subst, zero, suc, true, arith, None, Option, Some, slice_set}
use Rattle.std.proofs.lemmas.List.{reverse-append}
use Rattle.std.proofs.Math.Seq.{drop-cons, take-suc}
use Rattle.std.specs.Option.{option_map}
use Rattle.std.specs.Str.{bytes_eq}
use Rattle.es_value.specs.declared.value.Value.{Value}
use Rattle.source_meaning.specs.Environments.{Resolved, binding_in, or_outer, read_found, read_global, record_at, resolved, with_held, write_found, write_held}
use Rattle.source_meaning.specs.State.{Binding, EnvironmentRecord, Held, Holds, Imported, OfHost, State, Uninitialized}
use Rattle.source_meaning.specs.Steps.{Next, raises}
use Rattle.es_realm.specs.declared.errors.ErrorKind.TheVariants.{ReferenceError}
use Rattle.source_moves.specs.Names.{found_held, holder_of, written_at}
use Rattle.es_realm.specs.Globals.{global_of}
use Rattle.source_moves.specs.declared.assignment.Holder.{Holder}

-- one record more from outside
pub resolved_take : (records : List EnvironmentRecord) (ns : List ℕ) (k c n : ℕ) (x : List ℕ) → k < length ns → n ≡ get_or ns k n → suc k ≡ c → resolved records (reverse (take c ns)) x ≡ or_outer n (binding_in (record_at records n).bindings x) (resolved records (reverse (take k ns)) x)
resolved_take records ns k c n x h is e =
    let P : ℕ → Type 0 = λ i. resolved records (reverse (take i ns)) x ≡ or_outer n (binding_in (record_at records n).bindings x) (resolved records (reverse (take k ns)) x) in
    subst P e (rw (take-suc ns k n h, reverse-append, ← is) refl)

-- an entry is set between those before and those behind it
set_split : {A : Type 0} (bs : List A) (n : ℕ) (y : A) → n < length bs → take n bs ++ (y ∷ drop (suc n) bs) ≡ slice_set bs n y
set_split [] n y h = absurd (omega arith)
set_split (b ∷ bs) zero y h = refl
set_split (b ∷ bs) (suc n) y h = ap (λ r. b ∷ r) (set_split bs n y (omega arith))

-- the first binding of a name holds the value where it stands
pub with_held_at : (bs : List Binding) (x : List ℕ) (v : Value) (n : ℕ) (b : Binding) → n < length bs → b ≡ get_or bs n b → bytes_eq b.name x ≡ true → take n bs ++ with_held (drop n bs) x v ≡ slice_set bs n (record b { held = Holds v })
with_held_at bs x v n b h is same =
    let first : with_held (b ∷ drop (suc n) bs) x v ≡ record b { held = Holds v } ∷ drop (suc n) bs = rw same refl in
    rw (drop-cons bs n b h, ← is, first) (set_split bs n (record b { held = Holds v }) h)

-- a write by what is held there
write_by : (r : Resolved) (x : List ℕ) (v : Value) (st : State) (next : State → Next) (h : Held) → r.binding.held ≡ h → write_held r x v st next h ≡ written_at (holder_of r) x v st next
write_by r x v st next Uninitialized e = rw e refl
write_by r x v st next (Holds w) e = rw e refl
write_by r x v st next (Imported n y) e = rw e refl
write_by r x v st next (OfHost n) e = rw e refl

pub written_none : (x : List ℕ) (v : Value) (st : State) (next : State → Next) (o : Option Resolved) → None ≡ option_map holder_of o → write_found x v st next o ≡ raises ReferenceError st
written_none x v st next None e = refl
written_none x v st next (Some r) e = cc

pub written_some : (x : List ℕ) (v : Value) (st : State) (next : State → Next) (h : Holder) (o : Option Resolved) → Some h ≡ option_map holder_of o → write_found x v st next o ≡ written_at h x v st next
written_some x v st next h None e = cc
written_some x v st next h (Some r) e =
    let is : h ≡ holder_of r = cc in
    write_by r x v st next r.binding.held refl ∙ ap (λ k. written_at k x v st next) (sym is)

-- a read of a name that nothing binds
pub read_none : (x : List ℕ) (st : State) (o : Option Resolved) → None ≡ option_map (found_held st) o → read_found x st o ≡ read_global (global_of x) st
read_none x st None e = refl
read_none x st (Some r) e = cc
