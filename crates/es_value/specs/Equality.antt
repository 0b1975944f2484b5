-- Equality of values (ECMA-262, 6th edition, 7.2.13). No number is NaN or -0 here, so SameValue (7.2.9) is the same test.
use Rattle.std.specs.Prelude.{Bool, true, false, nat_eq}
use Rattle.std.specs.Cmp.Lexicographic.{pointwise}
use Rattle.std.specs.Ordering.{int_eq}
use Rattle.es_value.specs.declared.value.ObjId.{ObjId}
use Rattle.es_value.specs.declared.value.Value.{Value}
use Rattle.es_value.specs.declared.value.Value.TheVariants.{Undefined, Null, Bool as Truth, Number, Text, Object}

abbrev pub same_truth : Bool → Bool → Bool
same_truth true b = b
same_truth false true = false
same_truth false false = true

abbrev pub same_value : Value → Value → Bool
same_value Undefined Undefined = true
same_value Null Null = true
same_value (Truth a) (Truth b) = same_truth a b
same_value (Number a) (Number b) = int_eq a b
same_value (Text a) (Text b) = pointwise nat_eq a b
same_value (Object a) (Object b) = nat_eq a.0 b.0
same_value _ _ = false
