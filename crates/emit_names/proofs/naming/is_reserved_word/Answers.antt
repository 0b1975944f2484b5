use Rattle.es_outside.specs.HostNames.{reserved_words}
use Rattle.emit_names.proofs.naming.is_reserved_word.Goals as goal

pub returns : goal.returns
unfolding reserved_words
returns c = c.is_among.ensures
