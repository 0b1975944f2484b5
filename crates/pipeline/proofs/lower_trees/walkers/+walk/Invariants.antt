use Rattle.pipeline.proofs.lower_trees.walkers.+walk.Given as goal

abbrev pub decreases-walk_expression : goal.decreases-walk_expression
decreases-walk_expression l = l.around.room

abbrev pub decreases-walk_pattern : goal.decreases-walk_pattern
decreases-walk_pattern l = l.around.room

abbrev pub decreases-walk_statement : goal.decreases-walk_statement
decreases-walk_statement l = l.around.room

abbrev pub decreases-walk_function : goal.decreases-walk_function
decreases-walk_function l = l.around.room
