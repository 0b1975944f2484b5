-- What is round a statement, as the walk has it.
use Rattle.std.specs.Prelude.{take}
use Rattle.es5_early.specs.declared.labels.Labels.{Labels}
use Rattle.es5_early.specs.declared.labels.Place.{Place}
use Rattle.es5_ast.specs.Early.{Round5}

abbrev pub round : Labels → Place → Round5
round labels place =
    record { inside = place.inside; labels = labels.all; loops = labels.loops; before = take place.before labels.all; in_loop = place.in_loop; in_switch = place.in_switch }
