use Rattle.std.proofs.Common.{ap}
use Rattle.std.proofs.lemmas.Str.{IsUtf8-string_bytes}
use Rattle.source_map.proofs.MapsBack.{laid_out, reads_back}
use Rattle.source_map.proofs.print.write_map.Goals as goal

pub returns-clause-layout : goal.returns-clause-layout
returns-clause-layout c =
    laid_out c.args.map.now _ _ _ _ _ c.requires c.as_slice.ensures c.in_ok-mappings.ensures c.as_str.ensures.value c.in_ok-text.ensures (ap (λ v. v.items) c.into_bytes.ensures.value)

pub returns-clause-reads_back : goal.returns-clause-reads_back
returns-clause-reads_back c =
    let given = ap (λ v. v.items) c.into_bytes.ensures.value in
    reads_back c.args.map.now _ _ (IsUtf8-string_bytes c.in_ok-text.text) given
    (laid_out c.args.map.now _ _ _ _ _ c.requires c.as_slice.ensures c.in_ok-mappings.ensures c.as_str.ensures.value c.in_ok-text.ensures given)
