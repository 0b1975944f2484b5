use Rattle.es_text.proofs.lines.Lines.place.Goals as goal

pub returns-clause-place : goal.returns-clause-place
returns-clause-place c = rw (← c.self.view_is, ← c.deref.ensures.value) c.place_of.ensures.place
