-- Conversion of an object to a primitive (ECMA-262, 6th edition, 7.1.1): the two methods are tried in the order of the hint, and
-- the first primitive that one gives is the result. What is to be called or read next is data; the caller does it.
use Rattle.std.specs.Prelude.{ℕ, Bool, true, false, if◌then◌else◌, List, Option, None, Some, codes}
use Rattle.es_value.specs.declared.value.ObjId.{ObjId}
use Rattle.es_value.specs.declared.value.Value.{Value}
use Rattle.es_value.specs.declared.value.Value.TheVariants as value
use Rattle.es_heap.specs.declared.key.Key.TheVariants.{Text}
use Rattle.es_heap.specs.Heaps.{Heap}
use Rattle.es_realm.specs.declared.edition.Edition.{Edition}
use Rattle.es_realm.specs.declared.access.Read.{Read}
use Rattle.es_realm.specs.declared.access.Read.TheVariants as read
use Rattle.es_realm.specs.Access.{read_object}
use Rattle.es_operators.specs.declared.conversion.Hint.{Hint}
use Rattle.es_operators.specs.declared.conversion.Hint.TheVariants as hint
use Rattle.es_operators.specs.declared.conversion.Tried.{Tried}
use Rattle.es_operators.specs.declared.conversion.Tried.TheVariants.{Nothing, First, Both}
use Rattle.es_operators.specs.declared.conversion.Conversion.{Conversion}
use Rattle.es_operators.specs.declared.conversion.Need.{Need}
use Rattle.es_operators.specs.declared.conversion.Need.TheVariants as need
use Rattle.es_operators.specs.Primitives.{is_callable}

-- the names of the methods, in the order of the hint
abbrev pub first_name : Hint → List ℕ
first_name hint.Text = codes "toString"
first_name hint.Number = codes "valueOf"

abbrev pub second_name : Hint → List ℕ
second_name hint.Text = codes "valueOf"
second_name hint.Number = codes "toString"

-- what a method's value asks for; one that can't be called is passed over
abbrev pub need_of_method : Heap → Value → Need
need_of_method heap v = if is_callable heap v then need.Call v else need.Skip

abbrev pub need_of_read : Heap → Read → Need
need_of_read heap (read.Have v) = need_of_method heap v
need_of_read heap (read.Getter g) = need.Getter g
need_of_read heap (read.Binding id) = need.Binding id
need_of_read heap read.NoObject = need.Skip
need_of_read heap (read.Leaves x) = need.Leaves x

abbrev pub need_of_name : Edition → Heap → ObjId → List ℕ → Need
need_of_name edition heap id name = need_of_read heap (read_object edition heap id (Text name))

-- a conversion, and what it asks for
pub record Attempt : Type 0 where
  pub conversion : Conversion
  pub need : Need

abbrev pub attempt : Conversion → Tried → Need → Attempt
attempt c tried n = record { conversion = record c { tried = tried }; need = n }

-- after both methods it is a TypeError
abbrev pub or_fails : Need → Need
or_fails need.Skip = need.Fails
or_fails (need.Call v) = need.Call v
or_fails (need.Getter g) = need.Getter g
or_fails (need.Binding id) = need.Binding id
or_fails need.Fails = need.Fails
or_fails (need.Leaves x) = need.Leaves x

abbrev pub try_second : Edition → Heap → Conversion → Attempt
try_second edition heap c = attempt c Both (or_fails (need_of_name edition heap c.object (second_name c.hint)))

abbrev pub unless_skipped : Edition → Heap → Conversion → Need → Attempt
unless_skipped edition heap c need.Skip = try_second edition heap c
unless_skipped edition heap c (need.Call v) = attempt c First (need.Call v)
unless_skipped edition heap c (need.Getter g) = attempt c First (need.Getter g)
unless_skipped edition heap c (need.Binding id) = attempt c First (need.Binding id)
unless_skipped edition heap c need.Fails = attempt c First need.Fails
unless_skipped edition heap c (need.Leaves x) = attempt c First (need.Leaves x)

abbrev pub next_by : Edition → Heap → Conversion → Tried → Attempt
next_by edition heap c Nothing = unless_skipped edition heap c (need_of_name edition heap c.object (first_name c.hint))
next_by edition heap c First = try_second edition heap c
next_by edition heap c Both = attempt c Both need.Fails

-- the next method of a conversion
abbrev pub next_method : Edition → Heap → Conversion → Attempt
next_method edition heap c = next_by edition heap c c.tried

-- once a getter or a namespace gave a method's value
abbrev pub method_given : Edition → Heap → Conversion → Value → Attempt
method_given edition heap c v = if is_callable heap v then attempt c c.tried (need.Call v) else next_method edition heap c

-- the name that is read next out of a namespace: that of the method that is being tried
abbrev pub name_tried : Tried → Hint → List ℕ
name_tried Both hint = second_name hint
name_tried First hint = first_name hint
name_tried Nothing hint = first_name hint

abbrev pub begun : ObjId → Hint → Conversion
begun id hint = record { object = id; hint = hint; tried = Nothing }
