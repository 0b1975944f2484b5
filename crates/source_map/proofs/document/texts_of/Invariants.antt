use Rattle.std.proofs.Common.{◌≡◌, drop, ◌++◌, option_map}
use Rattle.serde_json.specs.View.{items_view}
use Rattle.source_map.specs.Document.{texts}
use Rattle.source_map.proofs.document.texts_of.Given as goal

-- the texts so far, before those of what is left, are those of all
abbrev pub invariant-loop-value : goal.invariant-loop-value
invariant-loop-value l = option_map (λ ts. l.texts ++ ts) (texts (items_view (drop l.value-index l.list))) ≡ texts (items_view l.list)
