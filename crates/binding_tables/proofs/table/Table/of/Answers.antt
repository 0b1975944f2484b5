use Rattle.std.proofs.Common.{rules, List, ap, ◌∙◌}
use Rattle.std.proofs.lemmas.List.Sorted.{IsNonDecreasingBy-from_sort_by_key, answers_always}
use Rattle.binding_tables.proofs.Searching.{bindings_of, stable_rows}
use Rattle.binding_tables.specs.declared.ids.Row.{Row}
use Rattle.binding_tables.proofs.table.Table.of.Goals as goal

pub invariant_of-result : goal.invariant_of-result
invariant_of-result c = record {
  sorted = IsNonDecreasingBy-from_sort_by_key (λ r. r.key) _ c.in_ok-sort_by_key.ensures.sorted (λ a r q k. search rules);
  bindings_are = c.in_ok-bindings.ensures ∙ ap (λ (rows : List Row). bindings_of rows) c.as_slice.ensures.value;
}

pub returns : goal.returns
returns c = λ key. stable_rows key c.args.rows.items c.sort_by_key.new.self.items (c.sort_by_key.ensures.stable (λ r. r.key) (answers_always _ _ _ (λ f a r g h. search rules)))
