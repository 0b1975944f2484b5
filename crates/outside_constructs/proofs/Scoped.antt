-- A scope that is entered round two parts and left after them.
use Rattle.std.proofs.Common.{◌≡◌, ◌∙◌, ℕ, ◌++◌, List, Option, false, length, map, ap, sym}
use Rattle.early_findings.specs.Pairs.{least_with}
use Rattle.es6_ast.specs.declared.tree.Identifier.{Identifier}
use Rattle.es6_static_semantics.specs.Findings.{Pair, earlier}
use Rattle.es6_static_semantics.specs.Outside.{Inside, Known, Scope, declaring, knows}
use Rattle.outside_constructs.proofs.Walking.{drop_back, fold_append}
use Rattle.outside_constructs.specs.Walked.{entered, left, meets}
use Rattle.outside_constructs.specs.declared.walk.Walk.{Walk}

left_again : (names : List Identifier) (p q : Inside) (w : Walk) → left (length w.environment.known) (meets q (meets p (entered names w))) ≡ meets (λ scope. p (declaring names scope) ++ q (declaring names scope)) w
left_again names p q w =
    let inside : Scope = declaring names w.environment in
    let met : Option Pair = least_with (least_with w.finder (p inside)) (q inside) in
    ap (λ (known : List Known). record w { finder = met; environment = record w.environment { known = known } }) (drop_back (map (knows false) names) w.environment.known)
    ∙ ap (λ (least : Option Pair). record w { finder = least }) (sym (fold_append earlier w.finder (p inside) (q inside)))

pub scoped : (names : List Identifier) (p q : Inside) (outer entry first second exit : Walk) (mark : ℕ) → entry ≡ entered names outer → mark ≡ length outer.environment.known → first ≡ meets p entry → second ≡ meets q first → exit ≡ left mark second
    → exit ≡ meets (λ scope. p (declaring names scope) ++ q (declaring names scope)) outer
scoped names p q outer entry first second exit mark enters marks meets_p meets_q leaves =
    let inner : second ≡ meets q (meets p (entered names outer)) = meets_q ∙ ap (meets q) (meets_p ∙ ap (meets p) enters) in
    leaves ∙ ap (λ (k : ℕ). left k second) marks ∙ ap (left (length outer.environment.known)) inner ∙ left_again names p q outer
