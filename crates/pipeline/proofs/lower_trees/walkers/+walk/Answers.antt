use Rattle.pipeline.proofs.lower_trees.Falls.{falls}
use Rattle.pipeline.proofs.lower_trees.walkers.+walk.Goals as goal

pub walk_expression-lower_reached-requires-clause-expressions : goal.walk_expression-lower_reached-requires-clause-expressions
walk_expression-lower_reached-requires-clause-expressions t c = record {
  callable = λ a x s h. (falls c.args.around c.inner.result a.room t c.inner.ensures c.if-around-eq0.false c.decreases h, tt);
  walks = λ a x s y u h p. p.1;
}

pub walk_expression-lower_reached-requires-clause-patterns : goal.walk_expression-lower_reached-requires-clause-patterns
walk_expression-lower_reached-requires-clause-patterns t c = record {
  callable = λ a x r e s h. (falls c.args.around c.inner.result a.room t c.inner.ensures c.if-around-eq0.false c.decreases h, tt);
  walks = λ a x r e s y u h p. p.3;
}

pub walk_expression-lower_reached-requires-clause-statements : goal.walk_expression-lower_reached-requires-clause-statements
walk_expression-lower_reached-requires-clause-statements t c = record {
  callable = λ a x s h. (falls c.args.around c.inner.result a.room t c.inner.ensures c.if-around-eq0.false c.decreases h, tt);
  walks = λ a x s y u h p. p.1;
}

pub walk_expression-lower_reached-requires-clause-functions : goal.walk_expression-lower_reached-requires-clause-functions
walk_expression-lower_reached-requires-clause-functions t c = record {
  callable = λ a x f s h. (falls c.args.around c.inner.result a.room t c.inner.ensures c.if-around-eq0.false c.decreases h, tt);
  walks = λ a x f s y u h p. p.2;
}

pub walk_pattern-lower_bound-requires-clause-expressions : goal.walk_pattern-lower_bound-requires-clause-expressions
walk_pattern-lower_bound-requires-clause-expressions t c = record {
  callable = λ a x s h. (falls c.args.around c.inner.result a.room t c.inner.ensures c.if-around-eq0.false c.decreases h, tt);
  walks = λ a x s y u h p. p.1;
}

pub walk_pattern-lower_bound-requires-clause-patterns : goal.walk_pattern-lower_bound-requires-clause-patterns
walk_pattern-lower_bound-requires-clause-patterns t c = record {
  callable = λ a x r e s h. (falls c.args.around c.inner.result a.room t c.inner.ensures c.if-around-eq0.false c.decreases h, tt);
  walks = λ a x r e s y u h p. p.3;
}

pub walk_statement-lower_statement-requires-clause-expressions : goal.walk_statement-lower_statement-requires-clause-expressions
walk_statement-lower_statement-requires-clause-expressions t c = record {
  callable = λ a x s h. (falls c.args.around c.inner.result a.room t c.inner.ensures c.if-around-eq0.false c.decreases h, tt);
  walks = λ a x s y u h p. p.1;
}

pub walk_statement-lower_statement-requires-clause-patterns : goal.walk_statement-lower_statement-requires-clause-patterns
walk_statement-lower_statement-requires-clause-patterns t c = record {
  callable = λ a x r e s h. (falls c.args.around c.inner.result a.room t c.inner.ensures c.if-around-eq0.false c.decreases h, tt);
  walks = λ a x r e s y u h p. p.3;
}

pub walk_statement-lower_statement-requires-clause-statements : goal.walk_statement-lower_statement-requires-clause-statements
walk_statement-lower_statement-requires-clause-statements t c = record {
  callable = λ a x s h. (falls c.args.around c.inner.result a.room t c.inner.ensures c.if-around-eq0.false c.decreases h, tt);
  walks = λ a x s y u h p. p.1;
}

pub walk_statement-lower_statement-requires-clause-functions : goal.walk_statement-lower_statement-requires-clause-functions
walk_statement-lower_statement-requires-clause-functions t c = record {
  callable = λ a x f s h. (falls c.args.around c.inner.result a.room t c.inner.ensures c.if-around-eq0.false c.decreases h, tt);
  walks = λ a x f s y u h p. p.2;
}

pub walk_function-lower_function-requires-clause-expressions : goal.walk_function-lower_function-requires-clause-expressions
walk_function-lower_function-requires-clause-expressions t c = record {
  callable = λ a x s h. (falls c.args.around c.inner.result a.room t c.inner.ensures c.if-around-eq0.false c.decreases h, tt);
  walks = λ a x s y u h p. p.1;
}

pub walk_function-lower_function-requires-clause-patterns : goal.walk_function-lower_function-requires-clause-patterns
walk_function-lower_function-requires-clause-patterns t c = record {
  callable = λ a x r e s h. (falls c.args.around c.inner.result a.room t c.inner.ensures c.if-around-eq0.false c.decreases h, tt);
  walks = λ a x r e s y u h p. p.3;
}

pub walk_function-lower_function-requires-clause-statements : goal.walk_function-lower_function-requires-clause-statements
walk_function-lower_function-requires-clause-statements t c = record {
  callable = λ a x s h. (falls c.args.around c.inner.result a.room t c.inner.ensures c.if-around-eq0.false c.decreases h, tt);
  walks = λ a x s y u h p. p.1;
}

pub walk_function-lower_function-requires-clause-functions : goal.walk_function-lower_function-requires-clause-functions
walk_function-lower_function-requires-clause-functions t c = record {
  callable = λ a x f s h. (falls c.args.around c.inner.result a.room t c.inner.ensures c.if-around-eq0.false c.decreases h, tt);
  walks = λ a x f s y u h p. p.2;
}
