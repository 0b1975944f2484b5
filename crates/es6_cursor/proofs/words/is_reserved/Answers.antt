use Rattle.es_outside.specs.HostNames.{reserved_words}
use Rattle.es6_cursor.proofs.words.is_reserved.Goals as goal

pub returns : goal.returns
unfolding reserved_words
returns c = c.is_among.ensures
