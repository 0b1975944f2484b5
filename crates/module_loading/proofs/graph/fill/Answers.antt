use Rattle.std.proofs.Common.{◌∙◌, arith}
use Rattle.std.proofs.lemmas.Result.{err_from_is_err_and}
use Rattle.module_loading.proofs.Arrived.{arrived-within, as-told, step-arrives, step-ends, step-stops}
use Rattle.module_loading.proofs.graph.fill.Goals as goal

pub step-requires : goal.step-requires
step-requires g c =
    let r = g.R.ReadsModules in
    let at = c.loop.invariant.3 in
    arrived-within (g.W.FindsFiles.files c.args.files.now) r.reads r.requests c.args.entry.now at.modules at.waiting c.loop.loading at.comes at.kept

pub returns-in_err-step-clause-fills : goal.returns-in_err-step-clause-fills
returns-in_err-step-clause-fills g c =
    let p = err_from_is_err_and c.from_residual-in_err-step.result c.from_residual-in_err-step.ensures.1 in
    let r = g.R.ReadsModules in
    let told = g.W.FindsFiles.files c.args.files.now in
    let other = g.W.FindsFiles.files c.loop.files in
    let start = c.args.supply.now in
    let hands = g.S.SuppliesModules.hands_out in
    let same = c.loop.invariant.0 in
    rw (p.1, p.2) (step-stops r.reads r.requests r.shows r.refuses hands told other c.args.entry.now start same c.step.new.loading c.step.new.supply c.in_err-step.field-0.0
    (c.in_err-step.ensures.steps c.args.entry.now start (as-told r.reads r.requests r.shows r.refuses hands told other c.args.entry.now start same c.loop.loading c.loop.supply c.loop.invariant.3)))

pub loop-preserved : goal.loop-preserved
loop-preserved g c =
    let r = g.R.ReadsModules in
    let told = g.W.FindsFiles.files c.args.files.now in
    let other = g.W.FindsFiles.files c.loop.files in
    let start = c.args.supply.now in
    let hands = g.S.SuppliesModules.hands_out in
    let same = c.loop.invariant.0 in (
      c.in_ok-step.ensures.unchanged ∙ same,
      omega (arith, c.loop.invariant.1, c.in_ok-step.ensures.no_fall),
      g.met.W.FindsFiles.and_on c.args.files.now c.loop.files c.step.new.files c.loop.invariant.2 c.in_ok-step.ensures.stays,
      step-arrives r.reads r.requests r.shows r.refuses hands told other c.args.entry.now start same c.step.new.loading c.step.new.supply c.in_ok-step.field-0 c.if-branch.true
          (c.in_ok-step.ensures.steps c.args.entry.now start (as-told r.reads r.requests r.shows r.refuses hands told other c.args.entry.now start same c.loop.loading c.loop.supply c.loop.invariant.3)),
    )

pub returns-clause-fills : goal.returns-clause-fills
returns-clause-fills g c =
    let r = g.R.ReadsModules in
    let told = g.W.FindsFiles.files c.args.files.now in
    let other = g.W.FindsFiles.files c.loop.files in
    let start = c.args.supply.now in
    let hands = g.S.SuppliesModules.hands_out in
    let same = c.loop.invariant.0 in
    step-ends r.reads r.requests r.shows r.refuses hands told other c.args.entry.now start same c.step.new.loading c.step.new.supply c.in_ok-step.field-0 c.if-branch.false
    (c.in_ok-step.ensures.steps c.args.entry.now start (as-told r.reads r.requests r.shows r.refuses hands told other c.args.entry.now start same c.loop.loading c.loop.supply c.loop.invariant.3))

pub returns-clause-stays : goal.returns-clause-stays
returns-clause-stays g c = g.met.W.FindsFiles.and_on c.args.files.now c.loop.files c.step.new.files c.loop.invariant.2 c.in_ok-step.ensures.stays

pub returns-in_err-step-clause-stays : goal.returns-in_err-step-clause-stays
returns-in_err-step-clause-stays g c = g.met.W.FindsFiles.and_on c.args.files.now c.loop.files c.step.new.files c.loop.invariant.2 c.in_err-step.ensures.stays
