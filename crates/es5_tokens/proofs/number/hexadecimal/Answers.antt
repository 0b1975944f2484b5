use Rattle.std.proofs.Common.{◌≡◌, ◌∙◌, ◌+◌, ◌-◌, sym, ap, take, drop, arith}
use Rattle.std.specs.Prelude.{eqb}
use Rattle.std.specs.List.{prefix_len}
use Rattle.std.specs.Char.{is_ascii_hexdigit}
use Rattle.std.proofs.lemmas.Bool.{cond-false, ne_eqb}
use Rattle.std.proofs.lemmas.List.{take_rest}
use Rattle.es5_tokens.specs.Numbers.{hexadecimal, ended, digits_value}
use Rattle.es5_tokens.proofs.number.hexadecimal.Goals as goal

pub returns : goal.returns
unfolding hexadecimal
returns c =
    let rest = c.args.rest.now in
    let n = c.hexadecimal_run-digits.result in
    let all = prefix_len is_ascii_hexdigit (drop 2 rest) in
    let same : 2 + n - 2 ≡ n = omega arith in
    let is_all : n ≡ all = c.hexadecimal_run-digits.ensures.value ∙ ap (prefix_len is_ascii_hexdigit) (take_rest rest 2) in
    c.ended.ensures ∙ ap (λ k. ended rest (2 + n) (digits_value 16 (take k (drop 2 rest)))) same ∙ ap (λ k. ended rest (2 + k) (digits_value 16 (take k (drop 2 rest)))) is_all
    ∙ sym (cond-false (eqb all 0) _ _ (ne_eqb all 0 (λ z. c.if-digits-eq0.false (is_all ∙ z))))
