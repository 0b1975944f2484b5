use Rattle.module_endings.proofs.Placing.{wanted-more}
use Rattle.module_endings.proofs.wanted.Wanted.want_one.Goals as goal

pub returns-clause-wanted : goal.returns-clause-wanted
returns-clause-wanted c = λ before are. wanted-more before c.args.place c.in_ok-number.number c.args.self.now _ are c.in_ok-number.ensures c.in_ok-push.ensures.ok
