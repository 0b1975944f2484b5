use Rattle.es_text.proofs.lines.Lines.offset.Goals as goal

pub returns : goal.returns
returns c = rw (← c.self.view_is, ← c.deref.ensures.value) c.offset_of.ensures
