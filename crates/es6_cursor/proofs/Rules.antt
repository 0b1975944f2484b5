-- What the readers' proofs go by.
use Rattle.es6_cursor.proofs.Choices.{choices}
use Rattle.es6_cursor.proofs.Groups.{on_open, off_open, shut_open, entered, refused}
use Rattle.es6_cursor.proofs.Openings.{opens_as, opens_none, opens_fault}
use Rattle.es6_cursor.proofs.Rooms.{fuel_is, fuel_turns, semicolon_is, semicolon_of_do_while_is}
use Rattle.es6_cursor.proofs.Loops.{turns_is, none_before, one_before, no_turn}

-- at choices, and at marks that open a construct
pub ruleset groups = (choices, on_open, off_open, shut_open, entered, refused)

-- at templates
pub ruleset templates = (choices, opens_as, opens_none, opens_fault)

-- in loops over lists
pub ruleset lists = (choices, turns_is, none_before, one_before, no_turn, fuel_is)

-- at the ends of statements
pub ruleset statements = (groups, semicolon_is, semicolon_of_do_while_is)
