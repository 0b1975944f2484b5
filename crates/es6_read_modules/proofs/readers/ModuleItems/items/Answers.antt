use Rattle.std.proofs.Common.{◌∙◌, sym, true, arith}
use Rattle.es6_cursor.proofs.Loops.{turns_is}
use Rattle.es6_read_modules.proofs.ItemLists.{items_end}
use Rattle.es6_read_modules.proofs.readers.ModuleItems.items.Goals as goal

pub returns-then-next_is_end : goal.returns-then-next_is_end
returns-then-next_is_end g c = c.loop-turn.invariant ∙ items_end _ _ _ _ (omega (arith, turns_is)) (sym c.next_is_end.ensures ∙ c.if-next_is_end.true)
