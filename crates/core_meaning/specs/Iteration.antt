-- Iterators and spread parts in expressions (ECMA-262, 6th edition, 7.4, 12.2.5.2 and 12.3.6.1).
use Rattle.std.specs.Ordering.{int_eq}
use Rattle.std.specs.Prelude.{Bool, List, [], if◌then◌else◌, nat_eq, pos, ℕ, ℤ, ◌++◌, ◌∷◌}
use Rattle.es_value.specs.declared.value.Value.{Value}
use Rattle.es_value.specs.declared.value.Value.TheVariants as value
use Rattle.es_calls.specs.Calls.{number_in}
use Rattle.es_operations.specs.Numbers as number
use Rattle.core_ast.specs.declared.tree.CoreLink.{CoreLink}
use Rattle.core_meaning.specs.Expressions.{with_current, with_two}
use Rattle.core_meaning.specs.Functions.{grown, list_current, whole, with_hole}
use Rattle.core_meaning.specs.Marks.{CoreList, CoreNext, CoreState, CoreStrict, OfArguments, OfArray, SpreadStart, SpreadStep, SpreadValue, truth_in, Mark}
use Rattle.core_meaning.specs.Properties.{add_element}
use Rattle.core_meaning.specs.Rows.{operates, unlawful, with_heap, with_option}
use Rattle.core_meaning.specs.State.{After, CoreValue, User, Work}

-- the iterator of a value, or where the constant is 1 only its method
abbrev pub start_number : ℤ → ℕ
start_number n = if int_eq n (pos 0) then number.get_iterator_number else number.iterator_method_number

abbrev pub iter_start : CoreStrict → CoreState → CoreNext
iter_start p st = with_two p st (λ v mode. operates (After p.links) (start_number (number_in mode)) v [] st)

abbrev pub operate_on : ℕ → CoreStrict → CoreState → CoreNext
operate_on n p st = with_current p.current st (λ v. operates (After p.links) n v [] st)

-- IteratorClose; whether a throw is under way
abbrev pub close_number : Bool → ℕ
close_number thrown = if thrown then number.iterator_close_thrown_number else number.iterator_close_number

abbrev pub iter_close : CoreStrict → CoreState → CoreNext
iter_close p st = operate_on (close_number (truth_in p.values)) p st

-- ---- spread parts: one step after the other, and no close

abbrev pub spread_by : CoreList → Value → ℤ → CoreStrict → CoreState → CoreNext
spread_by list v (pos n) p st =
    if nat_eq n 0 then grown list v p.links st
    else if nat_eq n 2 then with_hole list p.links st
    else operates (Work (SpreadStart list p.links)) number.get_iterator_number v [] st
spread_by list v n p st = unlawful st

abbrev pub spread_of : CoreStrict → CoreState → List (CoreValue Mark) → CoreNext
spread_of p st (User v ∷ User (value.Number n) ∷ []) =
    with_option (list_current p.current) st (λ list. spread_by list v n p st)
spread_of p st vs = unlawful st

abbrev pub spread_list : CoreStrict → CoreState → CoreNext
spread_list p st = spread_of p st p.values

abbrev pub spread_step : CoreList → Value → List CoreLink → CoreState → CoreNext
spread_step list iterator links st = operates (Work (SpreadStep list iterator links)) number.iterator_step_number iterator [] st

-- a step gives false behind the last value
abbrev pub spread_stepped : CoreList → Value → List CoreLink → CoreState → Value → CoreNext
spread_stepped list iterator links st (value.Object result) =
    operates (Work (SpreadValue list iterator links)) number.iterator_value_number (value.Object result) [] st
spread_stepped list iterator links st v = whole list links st

abbrev pub with_one : CoreList → Value → CoreState → (CoreList → CoreState → CoreNext) → CoreNext
with_one (OfArray id) v st f = f (OfArray id) (with_heap (add_element st.heap id v) st)
with_one (OfArguments vs) v st f = f (OfArguments (vs ++ v ∷ [])) st

abbrev pub spread_value : CoreList → Value → List CoreLink → CoreState → Value → CoreNext
spread_value list iterator links st v = with_one list v st (λ more st. spread_step more iterator links st)
