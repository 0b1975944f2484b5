use Rattle.std.proofs.Common.{◌≡◌, ℕ, List, count_by, arith, ap, ◌∙◌}
use Rattle.es5_early.specs.Counts.{count_of, is_name}
use Rattle.es5_early.proofs.Stacks.{counted, popped, holds_unless}
use Rattle.es5_early.proofs.names.Names.pop.Goals as goal

pub overflow_sub-count : goal.overflow_sub-count
overflow_sub-count c =
    let counts = c.self.inside.counts in
    let before = λ (name : List ℕ). c.self.invariant name ∙ ap (count_by (is_name name)) c.in-Some.ensures.items in
    let here : c.count_of-count.result ≡ count_of counts c.in-Some.name.items =
    c.count_of-count.ensures ∙ ap (count_of counts) c.as_slice.ensures.value in
    let some = counted (count_of counts) c.pop.new.self.items c.in-Some.name before in
    omega (arith, here, some)

pub invariant_of-self-2 : goal.invariant_of-self-2
invariant_of-self-2 c = λ name.
    let counts = c.self.inside.counts in
    let before = λ (name : List ℕ). c.self.invariant name ∙ ap (count_by (is_name name)) c.in-Some.ensures.items in
    let here : c.count_of-count.result ≡ count_of counts c.in-Some.name.items =
    c.count_of-count.ensures ∙ ap (count_of counts) c.as_slice.ensures.value in
    let some = counted (count_of counts) c.pop.new.self.items c.in-Some.name before in
    holds_unless c.set_count.result _ _ c.set_count.ensures.ok c.set_count.ensures.absent some name
    ∙ popped (count_of counts) c.pop.new.self.items c.in-Some.name c.count_of-count.result before here name
