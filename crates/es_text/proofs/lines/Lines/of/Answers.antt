-- The characters of a text are its bytes again.
use Rattle.std.proofs.Common.{◌≡◌, ap, ◌∙◌, arith, length}
use Rattle.std.specs.Str.{encode_utf8_all}
use Rattle.std.proofs.lemmas.Str.{encodes-chars}
use Rattle.es_text.proofs.lines.Lines.of.Goals as goal

pub marks_of-requires : goal.marks_of-requires
marks_of-requires c =
    let e : encode_utf8_all c.deref.result.now ≡ c.args.bytes.now =
    ap encode_utf8_all (c.deref.ensures.value ∙ c.in_ok-text.ensures.0) ∙ encodes-chars _ (c.in_ok-text.ensures.1) in
    omega (arith, ap length e, c.requires)

pub invariant_of-result : goal.invariant_of-result
invariant_of-result c =
    let e : encode_utf8_all c.in_ok-text.text.items ≡ c.args.bytes.now =
    ap encode_utf8_all (c.in_ok-text.ensures.0) ∙ encodes-chars _ (c.in_ok-text.ensures.1) in
    (omega (arith, ap length e, c.requires), rw (← c.deref.ensures.value) c.in_ok-marks.ensures)
