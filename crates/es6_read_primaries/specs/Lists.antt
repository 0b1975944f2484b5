-- What readers of lists give, where the model has records of its own.
use Rattle.std.specs.Prelude.{List, [], ◌∷◌, ◌++◌}
use Rattle.es6_ast.specs.declared.tree.Element.{Element}
use Rattle.es6_ast.specs.declared.tree.Expression.{Expression}
use Rattle.es6_reading.specs.Parser.{Outcome, Took, Fault, Reading}
use Rattle.es6_reading.specs.Expressions.{Listing as Listing', Held as Held'}
use Rattle.es6_read_primaries.specs.declared.lists.Listing.{Listing}
use Rattle.es6_read_primaries.specs.declared.cover.Held.{Held}

abbrev pub listing_of : {L : Type 0} → (L → List Element) → Listing L → Listing'
listing_of seen l = record { elements = seen l.elements; ends_in_comma = l.ends_in_comma }

-- the elements that were read before, and then what comes of the rest
abbrev pub before_listing : List Element → Outcome Listing' → Outcome Listing'
before_listing front (Took l c) = Took (record { elements = front ++ l.elements; ends_in_comma = l.ends_in_comma }) c
before_listing front (Fault stop tokens) = Fault stop tokens

abbrev pub held_of : {R L : Type 0} → (R → Reading) → (L → List Expression) → Held R L → Held'
held_of seen seen_list h = record { first = (seen h.first).value; more = seen_list h.more; end = h.end; before_rest = h.before_rest }

abbrev pub joined : List Expression → Held' → Held'
joined [] h = h
joined (x ∷ xs) h = record { first = x; more = xs ++ h.first ∷ h.more; end = h.end; before_rest = h.before_rest }

-- the same for the parts of a group
abbrev pub before_held : List Expression → Outcome Held' → Outcome Held'
before_held front (Took h c) = Took (joined front h) c
before_held front (Fault stop tokens) = Fault stop tokens
