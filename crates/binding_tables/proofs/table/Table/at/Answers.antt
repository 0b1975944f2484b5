use Rattle.std.proofs.Common.{◌≡◌, ℕ, List, drop, take, length, ap, subst, ◌∙◌, arith}
use Rattle.std.proofs.lemmas.List.{length-map}
use Rattle.binding_tables.proofs.Searching.{bindings_of, sliced}
use Rattle.binding_tables.specs.declared.ids.BindingId.{BindingId}
use Rattle.binding_tables.specs.declared.ids.Row.{Row}
use Rattle.binding_tables.specs.Rows.{rows_of}
use Rattle.binding_tables.specs.Sorted.{IsRange}
use Rattle.binding_tables.proofs.table.Table.at.Goals as goal

pub split_at-requires : goal.split_at-requires
split_at-requires c =
    let rows : length c.as_slice.result.now ≡ length c.self.inside.rows.items = ap length c.as_slice.ensures.value in
    let bindings : length c.as_slice-2.result.now ≡ length (bindings_of c.self.inside.rows.items) = ap length (c.as_slice-2.ensures.value ∙ c.self.invariant.bindings_are) in
    let same : length (bindings_of c.self.inside.rows.items) ≡ length c.self.inside.rows.items = search length-map in
    omega (arith, rows, bindings, same, c.range_of-begin.ensures.within)

pub split_at-requires-2 : goal.split_at-requires-2
split_at-requires-2 c = omega (arith, c.range_of-begin.ensures.in_order, c.split_at.ensures.front_len)

pub returns : goal.returns
returns c =
    let ids : c.as_slice-2.result.now ≡ bindings_of c.self.inside.rows.items = c.as_slice-2.ensures.value ∙ c.self.invariant.bindings_are in
    let lo : ℕ = c.range_of-begin.result.0 in
    let hi : ℕ = c.range_of-begin.result.1 in
    let range : IsRange c.self.inside.rows.items c.args.key lo hi = subst (λ (rows : List Row). IsRange rows c.args.key lo hi) c.as_slice.ensures.value c.range_of-begin.ensures in
    c.split_at-2.ensures.back
    ∙ ap (λ (bs : List BindingId). drop lo bs) (c.split_at.ensures.front ∙ ap (λ (bs : List BindingId). take hi bs) ids)
    ∙ sliced c.self.inside.rows.items c.args.key lo hi range
    ∙ ap (λ (rows : List Row). rows_of c.args.key rows) c.self.view_is
