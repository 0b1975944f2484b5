use Rattle.std.proofs.Common.{◌≡◌, ◌-◌, length, map, sym, ap, ◌∙◌}
use Rattle.es6_ast.specs.Tokens.{read}
use Rattle.es6_reading.specs.Expressions.{sequence}
use Rattle.es6_reading.specs.Parser.{Took, Fault}
use Rattle.es6_cursor.specs.Readers.{inner}
use Rattle.es6_expr.specs.Faults.{fault_of, place_of}
use Rattle.es6_expr.specs.Parsed.{flags_in, input_at, took, stopped}
use Rattle.es6_expr.proofs.LastToken.{to_the_end}
use Rattle.es6_expr.proofs.parse.read_expression.Goals as goal

pub returns-in-Ok : goal.returns-in-Ok
returns-in-Ok c =
    let all = c.args.tokens.now in
    let room = 256 - c.args.context.depth in
    let flags = flags_in c.args.context in
    let whole = to_the_end all c.args.from in
    let start : c.new-cursor.result ≡ input_at all c.args.from = cc in
    let e : sequence (inner room) flags (input_at all c.args.from) ≡ Took c.in-Ok.reading c.sequence.new.cursor =
    ap (λ r. sequence (inner r) flags (input_at all c.args.from)) (sym c.room.ensures)
    ∙ ap (λ f. sequence (inner c.room.result) f (input_at all c.args.from)) (sym c.flags.ensures)
    ∙ ap (λ s. sequence (inner c.room.result) c.flags.result s) (sym start)
    ∙ c.in-Ok.ensures in
    let at : c.taken.result ≡ length all - length c.sequence.new.cursor.tokens = c.taken.ensures ∙ ap (λ l. length all - length l) c.rest.ensures in
    took c.in-Ok.reading c.sequence.new.cursor e c.into_value.ensures at

pub returns-in-Err-Stopped : goal.returns-in-Err-Stopped
returns-in-Err-Stopped c =
    let all = c.args.tokens.now in
    let room = 256 - c.args.context.depth in
    let flags = flags_in c.args.context in
    let whole = to_the_end all c.args.from in
    let start : c.new-cursor.result ≡ input_at all c.args.from = cc in
    let e : sequence (inner room) flags (input_at all c.args.from) ≡ Fault (c.in-Err-Stopped.stop) c.sequence.new.cursor.tokens =
    ap (λ r. sequence (inner r) flags (input_at all c.args.from)) (sym c.room.ensures)
    ∙ ap (λ f. sequence (inner c.room.result) f (input_at all c.args.from)) (sym c.flags.ensures)
    ∙ ap (λ s. sequence (inner c.room.result) c.flags.result s) (sym start)
    ∙ (rw c.in-Err-Stopped.field-0-is at c.in-Err-Stopped.ensures) in
    let place : c.place_of.result ≡ place_of (map read all) c.sequence.new.cursor.tokens = c.place_of.ensures ∙ ap (λ l. place_of (map read all) l) c.rest-in-Err-Stopped.ensures in
    stopped (c.in-Err-Stopped.stop) c.sequence.new.cursor.tokens e (c.fault_of.ensures ∙ ap (λ at. fault_of (c.in-Err-Stopped.stop) at) place)
