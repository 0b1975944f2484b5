-- Each turn is one rule.
use Rattle.std.proofs.Common.{◌≡◌, ℕ, ◌+◌, ◌++◌, List, [], ◌∷◌, length, take, drop, refl, sym, ap, subst, ◌∙◌, arith, append_assoc}
use Rattle.std.specs.Str.{encode_utf8_all}
use Rattle.es6_lexer.specs.declared.token.Token.{Token}
use Rattle.es6_lexer.specs.Lexes.{Lexes, LexesFrom}
use Rattle.es6_lexer.proofs.Spans.{sizes, front_bytes, after_bytes}
use Rattle.es6_lexer.proofs.Lexing.{step_skip, step_take, step_end, step_stop}
use Rattle.es6_lexer.proofs.lexer.tokens_of.Goals as goal

pub returns-in-Finished : goal.returns-in-Finished
returns-in-Finished c =
    subst (λ (x : List Token). Lexes c.args.text.now x) (sym c.in_ok-push-in-Finished.ensures.items)
    (c.loop-tokens.invariant.lexes (c.token.result ∷ [])
    (step_end c.loop-tokens.braces c.loop-tokens.newline c.loop-tokens.offset c.loop-tokens.rest.now c.closes_template.result c.token.result c.in-Finished.ensures.value c.closes_template.ensures c.token.ensures))

pub returns-in-Stop : goal.returns-in-Stop
returns-in-Stop c =
    subst (λ (x : List Token). Lexes c.args.text.now x) (sym c.in_ok-push-in-Stop.ensures.items)
    (c.loop-tokens.invariant.lexes (c.fault.result ∷ [])
    (step_stop c.loop-tokens.braces c.loop-tokens.newline c.loop-tokens.offset c.loop-tokens.rest.now c.in-Stop.kind c.in-Stop.at c.closes_template.result c.fault.result c.in-Stop.ensures.value c.closes_template.ensures c.fault.ensures))

pub split_bytes-requires-clause-fits : goal.split_bytes-requires-clause-fits
split_bytes-requires-clause-fits c =
    omega (arith, sizes c.loop-tokens.rest.now c.in-Skip.length, ap (λ x. length (encode_utf8_all x)) c.split_at.ensures.front, ap length c.loop-tokens.invariant.bytes)

pub loop-tokens-preserved-in-Skip : goal.loop-tokens-preserved-in-Skip
loop-tokens-preserved-in-Skip c =
    let rest = c.loop-tokens.rest.now in
    let n = c.in-Skip.length in
    let front = c.split_at.ensures.front in
    let others = c.split_bytes.ensures.others ∙ ap (λ x. drop (length (encode_utf8_all x)) c.loop-tokens.left.now) front ∙ after_bytes c.loop-tokens.left.now rest n c.loop-tokens.invariant.bytes in
    record {
      lexes = λ tokens d. c.loop-tokens.invariant.lexes tokens
          (step_skip c.loop-tokens.braces c.loop-tokens.newline c.loop-tokens.offset rest n c.in-Skip.line c.closes_template.result (length c.split_bytes.result.0.now) c.split_at.result.0.now c.split_at.result.1.now tokens
          c.in-Skip.ensures.value c.closes_template.ensures c.split_bytes.ensures.size front c.split_at.ensures.back d);
      bytes = others ∙ ap encode_utf8_all (sym c.split_at.ensures.back);
      size = omega (arith, sizes rest n, ap length c.loop-tokens.invariant.bytes, c.loop-tokens.invariant.size, c.split_bytes.ensures.size, ap (λ x. length (encode_utf8_all x)) front, ap length others);
    }

pub split_bytes-requires-in-Take-clause-fits : goal.split_bytes-requires-in-Take-clause-fits
split_bytes-requires-in-Take-clause-fits c =
    omega (arith, sizes c.loop-tokens.rest.now c.in-Take.length, ap (λ x. length (encode_utf8_all x)) c.split_at-in-Take.ensures.front, ap length c.loop-tokens.invariant.bytes)

pub kind_of-requires : goal.kind_of-requires
kind_of-requires c =
    let rest = c.loop-tokens.rest.now in
    let front = c.split_at-in-Take.ensures.front in
    c.split_bytes-in-Take.ensures.front ∙ ap (λ x. take (length (encode_utf8_all x)) c.loop-tokens.left.now) front ∙ front_bytes c.loop-tokens.left.now rest c.in-Take.length c.loop-tokens.invariant.bytes ∙ ap encode_utf8_all (sym front)

pub loop-tokens-preserved : goal.loop-tokens-preserved
loop-tokens-preserved c =
    let rest = c.loop-tokens.rest.now in
    let n = c.in-Take.length in
    let items = c.loop-tokens.tokens.items in
    let front = c.split_at-in-Take.ensures.front in
    let others = c.split_bytes-in-Take.ensures.others ∙ ap (λ x. drop (length (encode_utf8_all x)) c.loop-tokens.left.now) front ∙ after_bytes c.loop-tokens.left.now rest n c.loop-tokens.invariant.bytes in
    record {
      lexes = λ tokens d.
          let step = step_take c.loop-tokens.braces c.follow.new.braces c.loop-tokens.newline c.loop-tokens.offset rest c.in-Take.shape n c.closes_template.result (length c.split_bytes-in-Take.result.0.now)
          (c.loop-tokens.offset + length c.split_bytes-in-Take.result.0.now) c.split_at-in-Take.result.0.now c.split_at-in-Take.result.1.now c.in_ok-kind-in-Take.kind c.token-in-Take.result tokens
          c.in-Take.ensures.value c.closes_template.ensures c.split_bytes-in-Take.ensures.size front c.split_at-in-Take.ensures.back
          c.in_ok-kind-in-Take.ensures c.in_ok-follow-in-Take.ensures c.token-in-Take.ensures refl d in
          subst (λ (x : List Token). Lexes c.args.text.now x)
          (ap (λ x. items ++ x) step.1 ∙ sym (append_assoc items (c.token-in-Take.result ∷ []) tokens) ∙ ap (λ x. x ++ tokens) (sym c.in_ok-push-in-Take.ensures.items))
          (c.loop-tokens.invariant.lexes step.0 step.2);
      bytes = others ∙ ap encode_utf8_all (sym c.split_at-in-Take.ensures.back);
      size = omega (arith, sizes rest n, ap length c.loop-tokens.invariant.bytes, c.loop-tokens.invariant.size, c.split_bytes-in-Take.ensures.size, ap (λ x. length (encode_utf8_all x)) front, ap length others);
    }
