use Rattle.std.proofs.Common.{refl}
use Rattle.module_paths.proofs.Joins.{above-last}
use Rattle.module_paths.proofs.segments.leave.Goals as goal

pub returns-in_ok-push-in-Some-2 : goal.returns-in_ok-push-in-Some-2
returns-in_ok-push-in-Some-2 c =
    above-last (λ s. s.now) c.args.absolute c.args.kept.now.items c.pop.new.self.items c.push-in-Some.new.self.items c.push-in-Some-2.new.self.items
    c.in-Some.last _ c.in-Some.ensures.items c.in_ok-push-in-Some.ensures.items c.in_ok-push-in-Some-2.ensures.items (cc) refl
