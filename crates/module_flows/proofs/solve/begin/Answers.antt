use Rattle.std.proofs.Common.{List, ℕ, sym, subst, take, get_or}
use Rattle.std.proofs.lemmas.List.{take_more}
use Rattle.std.proofs.lemmas.List.Elements.{Contains-get_or}
use Rattle.module_flows.specs.Steps.{Holds}
use Rattle.module_flows.proofs.Kept.{holds-none, holds-begin}
use Rattle.module_flows.proofs.solve.begin.Goals as goal

pub loop-end-init : goal.loop-end-init
loop-end-init c = holds-none c.args.users.now c.args.ends.now c.in_ok-nothing.field-0 c.new.result c.in_ok-nothing.ensures c.new.ensures

pub loop-end-preserved : goal.loop-end-preserved
loop-end-preserved c =
    let ends : List ℕ = c.args.ends.now in
    let i : ℕ = c.loop-end.end-index in
    let P : List ℕ → Type 0 = λ begun. Holds c.args.users.now ends begun c.raise.new.self in
    subst P (sym (take_more ends i 0 c.loop-end-test.true))
    (holds-begin c.args.users.now ends (take i ends) (get_or ends i 0) c.loop-end.flow c.raise.new.self c.loop-end.invariant
    (Contains-get_or ends i 0 c.loop-end-test.true) (c.requires i 0 c.loop-end-test.true) c.in_ok-raise.ensures)
