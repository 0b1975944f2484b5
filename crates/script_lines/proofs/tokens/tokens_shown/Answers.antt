use Rattle.std.proofs.Common.{◌≡◌, ap, length, ◌∙◌, arith}
use Rattle.es5_ast.specs.Lexical.{width}
use Rattle.es5_tokens.proofs.Widths.{width_chars}
use Rattle.script_lines.proofs.tokens.tokens_shown.Goals as goal

pub tokens5-requires : goal.tokens5-requires
tokens5-requires c =
    let size : width c.deref.result.now ≡ length c.args.text.now = ap width (c.deref.ensures.value ∙ c.in-Ok.ensures.0) ∙ width_chars c.args.text.now c.in-Ok.ensures.1 in
    record { limit = omega (arith, size, c.requires) }
