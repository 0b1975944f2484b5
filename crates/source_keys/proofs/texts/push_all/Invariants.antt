use Rattle.std.proofs.Common.{◌≡◌, ◌<◌, ◌++◌, drop}
use Rattle.source_keys.specs.Texts.{led_by, limit, units_after}
use Rattle.source_keys.proofs.texts.push_all.Given as goal

abbrev pub invariant-loop-byte : goal.invariant-loop-byte
invariant-loop-byte l = record {
  units : l.units.items ++ units_after l.begun (drop l.byte-index l.rest) ≡ l.initial.units.items ++ units_after (led_by l.fn.first) l.rest;
  within : l.begun.code < limit l.begun.left;
}
