use Rattle.std.proofs.Common.{◌<◌, length, arith}
use Rattle.module_endings.proofs.Covering.{covered-all, covered-more}
use Rattle.module_endings.proofs.Reaching.{get-some}
use Rattle.module_endings.proofs.cover.cover_all.Goals as goal

pub loop-at-preserved : goal.loop-at-preserved
loop-at-preserved c =
    let inside : c.loop-at.at < length c.loop-at.web.places.keys = omega arith in
    let x = get-some c.loop-at.web.places.keys c.loop-at.at inside in (
      c.in_ok-cover.ensures.size,
      λ modules are said. covered-more modules c.args.hosts.now c.loop-at.at x.0 c.args.web.now c.loop-at.web c.cover.new.web (c.loop-at.invariant.1 modules are said) x.1
          (c.in_ok-cover.ensures.covers modules x.0 are x.1),
    )

pub returns-clause-covered : goal.returns-clause-covered
returns-clause-covered c = λ modules are said.
    covered-all modules c.args.hosts.now c.loop-at.at c.args.web.now c.loop-at.web (c.loop-at.invariant.1 modules are said) (omega arith)
