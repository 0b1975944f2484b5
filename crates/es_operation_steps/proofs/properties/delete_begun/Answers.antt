use Rattle.std.proofs.Common.{◌≡◌, ◌∙◌, ap, subst}
use Rattle.es_heap.specs.Heaps.{Heap}
use Rattle.es_heap.specs.declared.key.Key.{Key}
use Rattle.es_realm.specs.Access.{Written, delete_value}
use Rattle.es_calls.specs.Calls.{arg}
use Rattle.es_operations.specs.Properties.{after_deletion}
use Rattle.es_operations.specs.Turning.{operand_key}
use Rattle.es_operation_steps.specs.Asks.{Acts}
use Rattle.es_operation_steps.proofs.properties.delete_begun.Goals as goal

pub returns : goal.returns
returns c =
    let call = c.args.call.now in
    let after : Heap = c.delete_value.new.heap in
    let deleted : Key → Written = λ k. delete_value c.args.edition c.args.heap.now call.this_value k in
    let is_key : c.in_ok-key.key ≡ operand_key (arg call 0) = c.in_ok-key.ensures ∙ ap operand_key c.in_ok-operand.ensures in
    let is_answer : c.in_ok-answer.answer ≡ (deleted (operand_key (arg call 0))).answer =
    c.in_ok-answer.ensures.0 ∙ ap (λ k. (deleted k).answer) is_key in
    let is_after : after ≡ (deleted (operand_key (arg call 0))).after = c.in_ok-answer.ensures.1 ∙ ap (λ k. (deleted k).after) is_key in
    subst (λ a. Acts c.after_deletion.result c.after_deletion.new.call after (after_deletion (deleted (operand_key (arg call 0))).after call a)) is_answer
    (subst (λ h. Acts c.after_deletion.result c.after_deletion.new.call after (after_deletion h call c.in_ok-answer.answer)) is_after
    (c.after_deletion.ensures after))
