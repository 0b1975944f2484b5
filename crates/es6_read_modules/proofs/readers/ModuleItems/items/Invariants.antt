use Rattle.std.proofs.Common.{◌≡◌, ◌-◌}
use Rattle.es6_reading.specs.Modules.{items}
use Rattle.es6_cursor.specs.Readers.{inner, turns, before}
use Rattle.es6_read_modules.proofs.readers.ModuleItems.items.Given as goal

abbrev pub invariant-loop-turn : goal.invariant-loop-turn
invariant-loop-turn g l = items (inner l.self.here.room) (inner l.self.here.room).fuel l.initial.cursor ≡ before (g.G.MakesModules.seen_items l.list) (items (inner l.self.here.room) (turns - l.turn) l.cursor)
