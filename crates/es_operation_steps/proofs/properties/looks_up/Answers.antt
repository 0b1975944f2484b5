use Rattle.std.proofs.Common.{◌≡◌, ◌∙◌, ap, subst}
use Rattle.es_value.specs.Convert.{text_of}
use Rattle.es_heap.specs.declared.key.Key.TheVariants.{Text}
use Rattle.es_realm.specs.Look.{look_up}
use Rattle.es_calls.specs.Calls.{arg, object_in}
use Rattle.es_operations.specs.Properties.{found_in}
use Rattle.es_operation_steps.specs.Asks.{Acts}
use Rattle.es_operation_steps.proofs.properties.looks_up.Goals as goal

pub returns : goal.returns
returns c =
    let call = c.args.call.now in
    let heap = c.args.heap.now in
    let text = c.in_ok-text.text in
    let is_text : text ≡ text_of call.input = c.in_ok-text.ensures in
    let is_object : c.object_in.result ≡ object_in (arg call 0) = c.object_in.ensures ∙ ap object_in c.in_ok-object.ensures in
    subst (λ t. Acts c.found_in.result c.found_in.new.call heap (found_in heap call (Text t) (look_up c.args.edition heap (object_in (arg call 0)) (Text t)))) is_text
    (subst (λ o. Acts c.found_in.result c.found_in.new.call heap (found_in heap call (Text text) (look_up c.args.edition heap o (Text text)))) is_object
    (subst (λ l. Acts c.found_in.result c.found_in.new.call heap (found_in heap call (Text text) l)) c.look_up-found.ensures
    (c.found_in.ensures heap)))
