use Rattle.es_outside.specs.HostNames.{reserved_words}
use Rattle.es_outside.proofs.host_names.is_reserved_word.Goals as goal

pub returns : goal.returns
unfolding reserved_words
returns c = c.is_among.ensures
