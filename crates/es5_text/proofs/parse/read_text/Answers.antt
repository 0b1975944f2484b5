-- The tokens of the text are read, and what is read of them is its script or says where it is none.
use Rattle.std.proofs.Common.{◌≡◌, ◌∙◌, length, [], map, ap, arith}
use Rattle.std.proofs.lemmas.Result.{err_from_is_err_and}
use Rattle.es5_ast.specs.Lexical.{width}
use Rattle.es5_ast.specs.Grammar.{across}
use Rattle.es5_tokens.specs.Tokens.{token5}
use Rattle.es5_tokens.proofs.Widths.{width_chars}
use Rattle.es5_text.specs.Faults.{Lexed5}
use Rattle.es5_text.specs.Read.{IsRefused, paired}
use Rattle.es5_text.proofs.Answered.{lexed_of, not_text, refused}
use Rattle.es5_text.proofs.parse.read_text.Goals as goal

pub tokens5-requires : goal.tokens5-requires
tokens5-requires c =
    let size : width c.as_slice.result.now ≡ length c.args.bytes.now = ap width (c.as_slice.ensures.value ∙ c.in_ok-text.ensures.0) ∙ width_chars c.args.bytes.now c.in_ok-text.ensures.1 in
    record { limit = omega (arith, size, c.requires) }

pub returns-in_err-text : goal.returns-in_err-text
returns-in_err-text c =
    let p = err_from_is_err_and c.from_residual.result c.from_residual.ensures.1 in
    rw (p.1, p.2) (not_text c.args.bytes.now c.in_err-text.field-0.0 c.in_err-text.ensures)

pub returns-in_err-statements : goal.returns-in_err-statements
returns-in_err-statements c =
    let t = c.in_ok-tokens.tokens in
    let lexed : Lexed5 c.args.bytes.now = lexed_of c.args.bytes.now c.as_slice.result.now t.list.items t.end t.fault c.in_ok-text.ensures.1 (c.as_slice.ensures.value ∙ c.in_ok-text.ensures.0) c.in_ok-tokens.ensures.exact c.in_ok-tokens.ensures.tokens in
    let fault : IsRefused c.args.bytes.now c.in_err-statements.field-0.0 = refused c.args.bytes.now lexed c.in_err-statements.field-0.0 c.in_err-statements.ensures in
    let p = err_from_is_err_and c.from_residual-in_err-statements.result c.from_residual-in_err-statements.ensures.1 in
    rw (p.1, p.2) fault

pub returns-in-Some : goal.returns-in-Some
returns-in-Some c =
    let t = c.in_ok-tokens.tokens in
    let lexed : Lexed5 c.args.bytes.now = lexed_of c.args.bytes.now c.as_slice.result.now t.list.items t.end t.fault c.in_ok-text.ensures.1 (c.as_slice.ensures.value ∙ c.in_ok-text.ensures.0) c.in_ok-tokens.ensures.exact c.in_ok-tokens.ensures.tokens in
    paired lexed c.in_ok-statements.statements c.in-Some.pair c.in_ok-statements.ensures (rw c.in-Some.is at c.in_ok-pair.ensures.first) c.from.ensures

pub returns : goal.returns
returns c =
    let t = c.in_ok-tokens.tokens in
    let lexed : Lexed5 c.args.bytes.now = lexed_of c.args.bytes.now c.as_slice.result.now t.list.items t.end t.fault c.in_ok-text.ensures.1 (c.as_slice.ensures.value ∙ c.in_ok-text.ensures.0) c.in_ok-tokens.ensures.exact c.in_ok-tokens.ensures.tokens in
    record {
      lexed = lexed;
      read = c.in_ok-statements.ensures;
      span = c.whole_span.ensures ∙ ap (λ list. across (map token5 list) []) c.as_slice-2.ensures.value;
      legal = c.in_ok-pair.ensures.none.0 c.in-None.is;
    }
