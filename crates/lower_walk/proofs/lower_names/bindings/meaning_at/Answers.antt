use Rattle.module_lowering.specs.declared.meaning.Meaning.TheVariants.{Itself}
use Rattle.lower_walk.proofs.lower_names.Gets.{default_read, item_read}
use Rattle.lower_walk.proofs.lower_names.bindings.meaning_at.Goals as goal

pub returns-in-None : goal.returns-in-None
returns-in-None c = default_read c.args.meanings.now c.args.var Itself c.in-None.ensures

pub returns-in-Some : goal.returns-in-Some
returns-in-Some c = item_read c.args.meanings.now c.args.var c.in-Some.meaning.now Itself c.in-Some.ensures
