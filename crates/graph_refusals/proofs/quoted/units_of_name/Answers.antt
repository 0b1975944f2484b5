use Rattle.std.proofs.Common.{◌≡◌, ℕ, List, IfOk, subst}
use Rattle.graph_refusals.proofs.Names.{of_text, of_bytes}
use Rattle.graph_refusals.proofs.quoted.units_of_name.Goals as goal

pub returns-in-Ok : goal.returns-in-Ok
returns-in-Ok c =
    let same = of_text c.args.name.now c.bytes.result.now c.in-Ok.text.now c.bytes.ensures c.in-Ok.ensures.cases.0 c.in-Ok.ensures.cases.1 in
    subst (λ (u : List ℕ). IfOk c.of.result (λ units. units ≡ u)) same c.of.ensures

pub returns-in-Err : goal.returns-in-Err
returns-in-Err c =
    let same = of_bytes c.args.name.now c.bytes.result.now c.bytes-in-Err.result.now c.bytes.ensures c.bytes-in-Err.ensures c.in-Err.ensures.cases.0 in
    subst (λ (u : List ℕ). IfOk c.units_of_bytes.result (λ units. units ≡ u)) same c.units_of_bytes.ensures
