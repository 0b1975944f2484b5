use Rattle.std.proofs.Common.{◌+◌, List, [], ◌∷◌, ◌++◌, take, sym, ap, subst, ◌∙◌}
use Rattle.split_emit.specs.declared.scripts.SplitScript.{SplitScript}
use Rattle.split_emit.specs.Split.{AreScriptsFrom}
use Rattle.split_emit.proofs.Lists.{more}
use Rattle.split_emit.proofs.splitting.all_written.Goals as goal

pub loop-script-preserved : goal.loop-script-preserved
loop-script-preserved c =
    let modules = c.args.modules.now in
    let scripts = c.args.scripts.now in
    let i = c.loop-script.script-index in
    let made = c.loop-script.made.items in
    let s = c.in_ok-script_at.field-0 in
    let written : AreScriptsFrom modules 0 (take (i + 1) scripts) (made ++ s ∷ []) =
    more modules scripts made i c.loop-script.place c.script-item.result s c.loop-script-test.true c.script-item.is c.loop-script.invariant.1 c.loop-script.invariant.0 c.in_ok-script_at.ensures in
    (subst (λ (ss : List SplitScript). AreScriptsFrom modules 0 (take (i + 1) scripts) ss) (sym c.in_ok-push.ensures.items) written, c.in_ok-place.ensures ∙ ap (λ n. n + 1) c.loop-script.invariant.1)
