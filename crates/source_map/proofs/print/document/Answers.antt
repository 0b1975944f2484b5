use Rattle.std.proofs.Common.{ap}
use Rattle.source_map.specs.Written.{document_text, list_text}
use Rattle.source_map.proofs.Spelling.{pushed}
use Rattle.source_map.proofs.print.document.Goals as goal

pub returns : goal.returns
unfolding document_text
returns c =
    pushed _ _ _ _ _ _ _ _ _ _ _ _ _ _ _ _ _ c.new-out.ensures.bytes c.in_ok-push_str.ensures.bytes c.in_ok-push_texts.ensures (ap list_text c.as_slice.ensures) c.in_ok-push_str-2.ensures.bytes
    c.in_ok-push_texts-2.ensures (ap list_text c.as_slice-2.ensures) c.in_ok-push_str-3.ensures.bytes c.in_ok-push_quoted.ensures c.in_ok-push_str-4.ensures.bytes
