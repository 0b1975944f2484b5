use Rattle.es5_printer.proofs.operators.print_binary.Goals as goal

pub returns-in-InstanceOf : goal.returns-in-InstanceOf
returns-in-InstanceOf c = rw c.in-InstanceOf.is c.word.ensures
