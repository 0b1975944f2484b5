use Rattle.std.proofs.Common.{◌≡◌, ◌-◌, length, map, sym, ap, ◌∙◌, refl}
use Rattle.es6_ast.specs.declared.settings.Stand.TheVariants.{Listed}
use Rattle.es6_ast.specs.Tokens.{read}
use Rattle.es6_reading.specs.Statements.{statement}
use Rattle.es6_reading.specs.Parser.{Took, Fault}
use Rattle.es6_cursor.specs.Readers.{inner}
use Rattle.es6_expr.specs.Faults.{fault_of, place_of}
use Rattle.es6_expr.specs.Parsed.{flags_in, input_at, took, stopped}
use Rattle.es6_expr.proofs.LastToken.{to_the_end}
use Rattle.es6_expr.proofs.parse.read_statement.Goals as goal

pub returns-in-Ok : goal.returns-in-Ok
returns-in-Ok c =
    let all = c.args.tokens.now in
    let room = 256 - c.args.context.depth in
    let flags = flags_in c.args.context in
    let whole = to_the_end all c.args.from in
    let start : c.new-cursor.result ≡ input_at all c.args.from = cc in
    let e : statement (inner room) flags Listed (input_at all c.args.from) ≡ Took c.in-Ok.statement c.statement.new.cursor =
    ap (λ r. statement (inner r) flags Listed (input_at all c.args.from)) (sym c.room.ensures)
    ∙ ap (λ f. statement (inner c.room.result) f Listed (input_at all c.args.from)) (sym c.flags.ensures)
    ∙ ap (λ s. statement (inner c.room.result) c.flags.result Listed s) (sym start)
    ∙ c.in-Ok.ensures in
    let at : c.taken.result ≡ length all - length c.statement.new.cursor.tokens = c.taken.ensures ∙ ap (λ l. length all - length l) c.rest.ensures in
    took c.in-Ok.statement c.statement.new.cursor e refl at

pub returns-in-Err-Stopped : goal.returns-in-Err-Stopped
returns-in-Err-Stopped c =
    let all = c.args.tokens.now in
    let room = 256 - c.args.context.depth in
    let flags = flags_in c.args.context in
    let whole = to_the_end all c.args.from in
    let start : c.new-cursor.result ≡ input_at all c.args.from = cc in
    let e : statement (inner room) flags Listed (input_at all c.args.from) ≡ Fault (c.in-Err-Stopped.stop) c.statement.new.cursor.tokens =
    ap (λ r. statement (inner r) flags Listed (input_at all c.args.from)) (sym c.room.ensures)
    ∙ ap (λ f. statement (inner c.room.result) f Listed (input_at all c.args.from)) (sym c.flags.ensures)
    ∙ ap (λ s. statement (inner c.room.result) c.flags.result Listed s) (sym start)
    ∙ (rw c.in-Err-Stopped.field-0-is at c.in-Err-Stopped.ensures) in
    let place : c.place_of.result ≡ place_of (map read all) c.statement.new.cursor.tokens = c.place_of.ensures ∙ ap (λ l. place_of (map read all) l) c.rest-in-Err-Stopped.ensures in
    stopped (c.in-Err-Stopped.stop) c.statement.new.cursor.tokens e (c.fault_of.ensures ∙ ap (λ at. fault_of (c.in-Err-Stopped.stop) at) place)
