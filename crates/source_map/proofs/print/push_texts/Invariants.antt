use Rattle.std.proofs.Common.{◌≡◌, ◌++◌, drop, false}
use Rattle.std.specs.Prelude.{string_bytes}
use Rattle.source_map.specs.Written.{texts_text}
use Rattle.source_map.proofs.print.push_texts.Given as goal

-- what is written, and then the texts that are left
abbrev pub invariant-loop-text : goal.invariant-loop-text
invariant-loop-text l = string_bytes l.out ++ texts_text l.later (drop l.text-index l.texts) ≡ string_bytes l.fn.out ++ texts_text false l.texts
