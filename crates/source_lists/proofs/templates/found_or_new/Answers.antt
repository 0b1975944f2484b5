use Rattle.source_lists.proofs.TemplateObjects.{absent}
use Rattle.source_lists.proofs.templates.found_or_new.Goals as goal

pub returns-in-None : goal.returns-in-None
returns-in-None g c = absent g.W.PendingWork.seen _ _ _ _ _ c.in-None.is c.new_template.ensures
