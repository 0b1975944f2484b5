-- Each turn is one rule.
use Rattle.std.proofs.Common.{◌≡◌, ◌+◌, ◌++◌, false, List, [], ◌∷◌, take, sym, ap, subst, ◌∙◌, arith, append_assoc, append-nil}
use Rattle.std.specs.Prelude.{None, Some}
use Rattle.std.specs.Char.{len_utf8}
use Rattle.std.proofs.lemmas.List.Sums.{sum_by-take-drop}
use Rattle.es5_ast.specs.Lexical.{width}
use Rattle.es5_tokens.specs.declared.token.Token.{Token}
use Rattle.es5_tokens.specs.declared.shape.Element.TheVariants.{Finished, Skip, Take, Stop}
use Rattle.es5_tokens.specs.Elements.{element}
use Rattle.es5_tokens.specs.Lexes.{LexesFrom, finished}
use Rattle.es5_tokens.proofs.Lexing.{step_stop, step_skip, step_take}
use Rattle.es5_tokens.proofs.Reading.{reads}
use Rattle.es5_tokens.proofs.reader.tokens5.Goals as goal

pub returns-in-Finished : goal.returns-in-Finished
returns-in-Finished c =
    let e : element c.loop-list.rest.now ≡ Finished = sym c.in_ok-element.ensures.value ∙ c.in-Finished.is in
    let exact : LexesFrom false 0 c.args.text.now c.loop-list.list.items c.loop-list.offset None =
    subst (λ x. LexesFrom false 0 c.args.text.now x c.loop-list.offset None) (append-nil c.loop-list.list.items)
    (c.loop-list.invariant.lexes [] c.loop-list.offset None (finished c.loop-list.after_line c.loop-list.offset c.loop-list.rest.now e)) in
    record { exact = exact; tokens = reads c.args.text.now c.loop-list.list.items c.loop-list.offset None exact }

pub returns-in-Stop : goal.returns-in-Stop
returns-in-Stop c =
    let e : element c.loop-list.rest.now ≡ Stop c.in-Stop.fault c.in-Stop.at = sym c.in_ok-element.ensures.value ∙ c.in-Stop.is in
    let size : c.width.result ≡ width (take c.in-Stop.at c.loop-list.rest.now) = c.width.ensures in
    let end = c.loop-list.offset + c.width.result in
    let exact : LexesFrom false 0 c.args.text.now c.loop-list.list.items end (Some c.in-Stop.fault) =
    subst (λ x. LexesFrom false 0 c.args.text.now x end (Some c.in-Stop.fault)) (append-nil c.loop-list.list.items)
    (c.loop-list.invariant.lexes [] end (Some c.in-Stop.fault)
    (step_stop c.loop-list.after_line c.loop-list.offset c.loop-list.rest.now c.in-Stop.fault c.in-Stop.at c.width.result e size)) in
    record { exact = exact; tokens = reads c.args.text.now c.loop-list.list.items end (Some c.in-Stop.fault) exact }

pub loop-list-preserved-in-Skip : goal.loop-list-preserved-in-Skip
loop-list-preserved-in-Skip c =
    let rest = c.loop-list.rest.now in
    let n = c.in-Skip.length in
    let e : element rest ≡ Skip n c.in-Skip.line = sym c.in_ok-element.ensures.value ∙ c.in-Skip.is in
    let size : c.width-offset.result ≡ width (take n rest) = c.width-offset.ensures ∙ ap width c.split_at.ensures.front in
    record {
      lexes = λ tokens end fault d. c.loop-list.invariant.lexes tokens end fault
          (step_skip c.loop-list.after_line c.loop-list.offset rest n c.in-Skip.line c.width-offset.result c.split_at.result.1.now tokens end fault e size c.split_at.ensures.back d);
      size = omega (arith, size, ap width c.split_at.ensures.back, sum_by-take-drop len_utf8 rest n, c.loop-list.invariant.size);
    }

pub loop-list-preserved : goal.loop-list-preserved
loop-list-preserved c =
    let rest = c.loop-list.rest.now in
    let items = c.loop-list.list.items in
    let n = c.in-Take.length in
    let w = c.width-in-Take.result in
    let e : element rest ≡ Take c.in-Take.kind n = sym c.in_ok-element.ensures.value ∙ c.in-Take.is in
    let size : w ≡ width (take n rest) = c.width-in-Take.ensures ∙ ap width c.split_at-in-Take.ensures.front in
    record {
      lexes = λ tokens end fault d.
          subst (λ (x : List Token). LexesFrom false 0 c.args.text.now x end fault)
          (sym (append_assoc items (c.token.result ∷ []) tokens) ∙ ap (λ x. x ++ tokens) (sym c.in_ok-push-in-Take.ensures.items))
          (c.loop-list.invariant.lexes (c.token.result ∷ tokens) end fault
          (step_take c.loop-list.after_line c.loop-list.offset rest c.in-Take.kind n w c.split_at-in-Take.result.1.now c.token.result tokens end fault e size c.split_at-in-Take.ensures.back c.token.ensures d));
      size = omega (arith, size, ap width c.split_at-in-Take.ensures.back, sum_by-take-drop len_utf8 rest n, c.loop-list.invariant.size);
    }
