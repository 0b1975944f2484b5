-- How a strict link takes a reference, by the links with that one.
use Rattle.std.specs.Prelude.{List}
use Rattle.es_value.specs.declared.value.Value.{Value}
use Rattle.es_heap.specs.declared.key.Key.{Key}
use Rattle.core_ast.specs.declared.tree.CoreLink.{CoreLink}
use Rattle.core_ast.specs.declared.whole.Core.{Core}
use Rattle.core_meaning.specs.Properties.{reads}
use Rattle.core_meaning.specs.Rows.{Next, Rows}
use Rattle.core_meaning.specs.State.{After, Fetch, Sorts, State, Strict}
use Rattle.core_meaning.specs.Step.{AsPlace, AsValue, Taking, WithValue, parts}

abbrev pub take_whole : {s : Sorts} {S : Type 0} → Rows s S → Core → Value → Key → Strict s.Mark → List CoreLink → State s S → Taking → Next s S
take_whole rows core base k p whole st AsPlace = parts rows core p st
take_whole rows core base k p whole st WithValue = reads (Fetch base k p) base k st
take_whole rows core base k p whole st AsValue = reads (After whole) base k st
