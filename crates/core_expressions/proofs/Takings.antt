-- A strict link at a reference, by the links with that one.
use Rattle.std.proofs.Common.{◌≡◌, List, ◌∷◌, refl, ap}
use Rattle.es_value.specs.declared.value.Value.{Value}
use Rattle.es_heap.specs.declared.key.Key.{Key}
use Rattle.core_ast.specs.declared.tree.CoreLink.{CoreLink}
use Rattle.core_ast.specs.declared.whole.Core.{Core}
use Rattle.core_meaning.specs.Properties.{reads}
use Rattle.core_meaning.specs.Rows.{Rows}
use Rattle.core_meaning.specs.State.{After, Sorts, State, Strict}
use Rattle.core_meaning.specs.Step.{AsPlace, AsValue, Taking, WithValue, take}
use Rattle.core_expressions.specs.Links.{take_whole}

pub take_by : {s : Sorts} {S : Type 0} (rows : Rows s S) (core : Core) (base : Value) (k : Key) (p : Strict s.Mark) (l : CoreLink) (whole : List CoreLink) (st : State s S) (t : Taking) → whole ≡ l ∷ p.links → take_whole rows core base k p whole st t ≡ take rows core base k p l st t
take_by rows core base k p l whole st AsPlace e = refl
take_by rows core base k p l whole st WithValue e = refl
take_by rows core base k p l whole st AsValue e = ap (λ (ls : List CoreLink). reads (After ls) base k st) e
