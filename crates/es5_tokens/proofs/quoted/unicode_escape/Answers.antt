use Rattle.std.proofs.Common.{◌≡◌, ◌∙◌, sym, ap, ◌<◌, length, refl, arith}
use Rattle.std.specs.Prelude.{slice_index, true, ◌&&◌}
use Rattle.std.specs.Char.{is_ascii_hexdigit}
use Rattle.std.proofs.lemmas.Bool.{and_parts}
use Rattle.es5_tokens.proofs.Within.{is_there_by}
use Rattle.es5_tokens.proofs.quoted.unicode_escape.Goals as goal

pub returns-then-front-is_ascii_hexdigit-clause-within : goal.returns-then-front-is_ascii_hexdigit-clause-within
returns-then-front-is_ascii_hexdigit-clause-within c =
    let last : is_ascii_hexdigit (slice_index c.args.rest.now 4) ≡ true =
    ap is_ascii_hexdigit (sym c.peek-d.ensures) ∙ sym c.is_ascii_hexdigit-4.ensures.value ∙ (and_parts (c.is_ascii_hexdigit.result && c.is_ascii_hexdigit-2.result && c.is_ascii_hexdigit-3.result) c.is_ascii_hexdigit-4.result c.if-front-is_ascii_hexdigit.true).1 in
    let there : 4 < length c.args.rest.now = is_there_by is_ascii_hexdigit c.args.rest.now 4 refl last in
    (omega arith, omega arith, there)
