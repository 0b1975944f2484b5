-- The generator that yields, as code finds it.
use Rattle.std.proofs.Common.{◌≡◌, ℕ, Bool, List, None, Some, refl}
use Rattle.es_value.specs.declared.value.Value.{Value}
use Rattle.source_calls.specs.Yields.{generator_in, yielded_to}
use Rattle.source_meaning.specs.Generators.{yield_by}
use Rattle.source_meaning.specs.State.{Context, Frame, Generates, State, Work}
use Rattle.source_meaning.specs.Steps.{impossible}

pub yield_none : (w : Work) (wraps : Bool) (v : Value) (st : State) (k : Context) (ks : List Context) (fs : List Frame) (x : Work) → generator_in x ≡ None → yield_by w wraps v st k ks fs x ≡ impossible st
yield_none w wraps v st k ks fs (Generates n) e = cc
yield_none w wraps v st k ks fs other e = refl

pub yield_some : (w : Work) (wraps : Bool) (v : Value) (st : State) (k : Context) (ks : List Context) (fs : List Frame) (x : Work) (n : ℕ) → generator_in x ≡ Some n → yield_by w wraps v st k ks fs x ≡ yielded_to n w wraps v (record k { frames = fs }) (record st { callers = ks })
yield_some w wraps v st k ks fs (Generates m) n e =
    let same : m ≡ n = cc in
    rw same refl
yield_some w wraps v st k ks fs other n e = cc

-- the caller is taken from the callers, and its top frame from its frames
pub yield_taken : (w : Work) (wraps : Bool) (v : Value) (st : State) (k : Context) (ks : List Context) (fs : List Frame) (x : Work) → yield_by w wraps v st k ks fs x ≡ yield_by w wraps v (record st { callers = ks }) (record k { frames = fs }) ks fs x
yield_taken w wraps v st k ks fs (Generates n) = refl
yield_taken w wraps v st k ks fs other = refl
