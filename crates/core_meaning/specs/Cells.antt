-- Uninitialized names, scopes and cells (ECMA-262, 6th edition, 8.1.1, 13.2.14, 13.7.4.9).
use Rattle.std.specs.Prelude.{List, Option, [], length, map, slice_get, slice_set, ℕ, ◌++◌, ◌∷◌}
use Rattle.es_value.specs.declared.value.Value.{Value}
use Rattle.es_value.specs.declared.value.Value.TheVariants as value
use Rattle.es_realm.specs.declared.errors.ErrorKind.TheVariants.{ReferenceError}
use Rattle.core_ast.specs.declared.parts.ScopedName.{ScopedName}
use Rattle.core_ast.specs.declared.tree.CoreLink.{CoreLink}
use Rattle.core_ast.specs.declared.tree.CoreStat.{CoreStat}
use Rattle.core_meaning.specs.Marks.{Cell, CoreNext, CoreState, CoreStrict, Empty, empty, value_in, value_or_empty, with_store, Mark}
use Rattle.core_meaning.specs.Names.{record_at}
use Rattle.core_meaning.specs.Rows.{controls, goes, has, pushed, raises, unlawful, with_option, with_record, within}
use Rattle.core_meaning.specs.State.{Binding, CoreValue, Current, Environment, EnvironmentRecord, Extra, Has, Restore, Run, User}

-- ---- scopes (13.2.14): a record of their names, which aren't initialized

abbrev pub uninitialized : List ScopedName → List (Binding Mark)
uninitialized names = map (λ n. record { var = n.var; value = empty; mutable = n.mutable }) names

abbrev pub enter_scope : List ScopedName → List CoreStat → CoreState → CoreNext
enter_scope names body st =
    controls (Run body) (with_record (uninitialized names) (pushed (Restore st.context.environment) st))

-- CreatePerIterationEnvironment (13.7.4.9): the innermost record gives way to a copy, whose names have the values of now. Only
-- names of this record are copied.
abbrev pub innermost : CoreState → Environment → EnvironmentRecord Mark
innermost st [] = []
innermost st (n ∷ ns) = record_at st.records n

abbrev pub outer : Environment → Environment
outer [] = []
outer (n ∷ ns) = ns

abbrev pub copied : CoreState → CoreState
copied st =
    let e = st.context.environment in
    with_record (innermost st e) (within (outer e) st)

abbrev pub copy : List CoreLink → CoreState → CoreNext
copy links st = has value.Undefined links (copied st)

-- ---- checks (8.1.1.1.6)

abbrev pub check_ready : CoreStrict → CoreState → Current Mark → CoreNext
check_ready p st (Has (User v)) = has v p.links st
check_ready p st (Has (Extra Empty)) = raises ReferenceError st
check_ready p st c = unlawful st

-- ---- cells: a name that closures of several turns share holds one

abbrev pub cell_made : List CoreLink → CoreState → Option Value → CoreNext
cell_made links st v =
    goes (Has (Extra (Cell (length st.store.cells)))) links
    (with_store (record st.store { cells = st.store.cells ++ v ∷ [] }) st)

abbrev pub cell_make : CoreStrict → CoreState → Current Mark → CoreNext
cell_make p st (Has v) = cell_made p.links st (value_in v)
cell_make p st c = unlawful st

abbrev pub content : CoreStrict → CoreState → Current Mark → CoreNext
content p st (Has (Extra (Cell n))) =
    with_option (slice_get st.store.cells n) st (λ v. goes (Has (value_or_empty v)) p.links st)
content p st c = unlawful st

abbrev pub with_cell : ℕ → Option Value → CoreState → CoreState
with_cell n v st = with_store (record st.store { cells = slice_set st.store.cells n v }) st

abbrev pub set_content : CoreStrict → CoreState → Current Mark → List (CoreValue Mark) → CoreNext
set_content p st (Has (Extra (Cell n))) (v ∷ []) = goes (Has v) p.links (with_cell n (value_in v) st)
set_content p st c vs = unlawful st
