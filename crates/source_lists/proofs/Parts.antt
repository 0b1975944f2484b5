-- Parts of a list, as a loop takes them.
use Rattle.std.proofs.Common.{◌≡◌, Bool, List, None, Option, Some, ◌∷◌, false, is_none, refl, true}
use Rattle.es_value.specs.declared.value.Value.{Value}
use Rattle.es6_ast.specs.declared.tree.Argument.{Argument}
use Rattle.source_lists.specs.Collecting.{collected_with, part_begun, state_with}
use Rattle.source_meaning.specs.Lists.{hole_added, list_on, list_valued, spread_step, spread_valued, with_added}
use Rattle.source_meaning.specs.State.{Collected, Listing, OfArguments, OfArray, State}
use Rattle.source_meaning.specs.Steps.{Next}

hole_skipped : (c : Collected) (part : Option Argument) (xs : List (Option Argument)) (st : State) → is_none part ≡ true → list_on c xs (hole_added c st) ≡ list_on c (part ∷ xs) st
hole_skipped c None xs st e = refl
hole_skipped c (Some x) xs st e = cc

part_taken : (c : Collected) (part : Option Argument) (xs : List (Option Argument)) (st : State) → is_none part ≡ false → part_begun (record { collected = c; rest = xs }) st part ≡ list_on c (part ∷ xs) st
part_taken c None xs st e = cc
part_taken c (Some x) xs st e = refl

pub hole_step : (c : Collected) (left : List (Option Argument)) (part : Option Argument) (xs : List (Option Argument)) (st : State) → left ≡ part ∷ xs → is_none part ≡ true → list_on c xs (hole_added c st) ≡ list_on c left st
hole_step c left part xs st h e = rw h (hole_skipped c part xs st e)

pub part_step : (c : Collected) (left : List (Option Argument)) (part : Option Argument) (xs : List (Option Argument)) (st : State) → left ≡ part ∷ xs → is_none part ≡ false → part_begun (record { collected = c; rest = xs }) st part ≡ list_on c left st
part_step c left part xs st h e = rw h (part_taken c part xs st e)

added : (c : Collected) (v : Value) (st : State) (f : Collected → State → Next) → with_added c v st f ≡ f (collected_with c v) (state_with c v st)
added (OfArray id) v st f = refl
added (OfArguments use_ args) v st f = refl

pub valued : (l : Listing) (st : State) (v : Value) → list_valued l st v ≡ list_on (collected_with l.collected v) l.rest (state_with l.collected v st)
valued l st v = added l.collected v st (λ c after. list_on c l.rest after)

pub spread : (l : Listing) (iterator : Value) (st : State) (v : Value) → spread_valued l iterator st v ≡ spread_step (record { collected = collected_with l.collected v; rest = l.rest }) iterator (state_with l.collected v st)
spread l iterator st v = added l.collected v st (λ c after. spread_step (record l { collected = c }) iterator after)
