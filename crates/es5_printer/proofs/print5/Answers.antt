use Rattle.es5_printer.proofs.Whole.{printed_result}
use Rattle.es5_printer.proofs.print5.Goals as goal

pub returns : goal.returns
returns c = printed_result c.args.script.now c.requires c.write5.result (λ out. out.0.items) (λ out. out.1.items) c.write5.ensures.bytes c.write5.ensures.marks
