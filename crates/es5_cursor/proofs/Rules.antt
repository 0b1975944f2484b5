-- What the readers' proofs go by.
use Rattle.es5_cursor.proofs.Choices.{choices}
use Rattle.es5_cursor.proofs.Groups.{on_open, off_open, shut_open, entered, refused}
use Rattle.es5_cursor.proofs.Rooms.{fuel_is, parameters_are}
use Rattle.es5_cursor.proofs.Loops.{turns_is, none_before, one_before, no_turn}

pub ruleset groups = (choices, on_open, off_open, shut_open, entered, refused, parameters_are)

pub ruleset lists = (choices, turns_is, none_before, one_before, no_turn, fuel_is)
