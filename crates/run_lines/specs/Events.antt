-- The lines of events, and values as lines show them.
use Rattle.std.specs.Prelude.{ℕ, true, false, List, [], ◌∷◌, ◌++◌, codes}
use Rattle.std.specs.Fmt.{signed_decimal}
use Rattle.es_outside.specs.declared.primitive.Primitive.{Primitive}
use Rattle.es_outside.specs.declared.primitive.Primitive.TheVariants as prim
use Rattle.graph_refusals.specs.Quoted.{quoted}

abbrev pub value_text : Primitive → List ℕ
value_text prim.Undefined = codes "undefined"
value_text prim.Null = codes "null"
value_text (prim.Bool true) = codes "true"
value_text (prim.Bool false) = codes "false"
value_text (prim.Number number) = signed_decimal number
value_text (prim.Text units) = quoted units

-- each value behind a comma and a space
abbrev pub more_values : List Primitive → List ℕ
more_values [] = []
more_values (value ∷ values) = (codes ", " ++ value_text value) ++ more_values values

-- values with a comma and a space between two
abbrev pub values_text : List Primitive → List ℕ
values_text [] = []
values_text (value ∷ values) = value_text value ++ more_values values

-- the line of a call of the host with this name
abbrev pub event_line : List ℕ → List Primitive → List ℕ
event_line name args = name ++ (codes "(" ++ (values_text args ++ (codes ")" ++ 10 ∷ [])))
