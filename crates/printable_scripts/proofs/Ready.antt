-- Statements of a script that may be printed may stand in a function, so helpers may; so the script of a core may be printed.
use Rattle.std.specs.Prelude.{filter}
use Rattle.std.proofs.Common.{◌≡◌, Bool, true, false, length, List, [], ◌∷◌, map, refl, sym, subst}
use Rattle.std.proofs.lemmas.Bool.{false≢true}
use Rattle.es5_ast.specs.declared.tree.Stat5.{Stat5}
use Rattle.es5_ast.specs.Early as e
use Rattle.es5_ast.specs.Early.{Pair5}
use Rattle.es5_printable.specs.Printable as p
use Rattle.es5_printable.specs.Printable.{stat_fit}
use Rattle.es5_printable.proofs.Printed.{tree_printable}
use Rattle.pass_rules.proofs.pass_laws.Within.{left, right, both, either}
use Rattle.emission_laws.specs.Laws.{MayStandInside}
use Rattle.emission_laws.proofs.Good.{first_none, none, second_none}
use Rattle.emission_laws.proofs.Script.{emitted_are_printable}
use Rattle.writable_passes.proofs.All.{ready_may_be_emitted}
use Rattle.writable_passes.proofs.Drawn.{names_will_fit}
use Rattle.printable_scripts.specs.Laws.{HelpedArePrintable, HelpersMayStandInside, ReadyArePrintable, StatementsMayStandInside, behind_passes}
use Rattle.printable_scripts.proofs.Inside.{stat_every}

kept_fit : (test : Stat5 → Bool) (ss : List Stat5) → p.stats_fit false true (map stat_fit ss) ≡ true → p.stats_fit true true (map stat_fit (filter test ss)) ≡ true
kept_fit test [] h = refl
kept_fit test (s ∷ ss) h =
    let rest = kept_fit test ss (right _ _ h) in
    either (λ zs. p.stats_fit true true (map stat_fit zs) ≡ true) (test s) {x = s ∷ filter test ss} {y = filter test ss} (both ((stat_every s).fits true (left _ _ h)) rest) rest

abbrev Legal : Bool → List Stat5 → Type 0
Legal inside ss = e.joined (λ s. e.stat_pairs s (e.of_function inside)) ss ≡ []

kept_legal : (test : Stat5 → Bool) (ss : List Stat5) → Legal false ss → Legal true (filter test ss)
kept_legal test [] h = refl
kept_legal test (s ∷ ss) h =
    let rest = kept_legal test ss (second_none (e.stat_pairs s (e.of_function false)) _ h) in
    either (Legal true) (test s) {x = s ∷ filter test ss} {y = filter test ss} (none ((stat_every s).pairs (e.of_function true) (first_none (e.stat_pairs s (e.of_function false)) _ h)) rest) rest

none_are : (ps : List Pair5) → p.are_none ps ≡ true → ps ≡ []
none_are [] h = refl
none_are (q ∷ ps) h = absurd (false≢true h)

pub statements_may_stand_inside : StatementsMayStandInside
statements_may_stand_inside script test h = record {
  fit = kept_fit test script.statements (right _ _ (left _ _ h));
  legal = kept_legal test script.statements (none_are (e.script_pairs script.statements) (right _ _ h));
}

pub helpers_may_stand_inside : HelpersMayStandInside
helpers_may_stand_inside names helpers d = subst MayStandInside (sym d.taken) (statements_may_stand_inside d.script _ (tree_printable d.script d.parsed.tree))

pub ready_are_printable : ReadyArePrintable
ready_are_printable core hosts helpers q room a k =
    let fit = names_will_fit (length hosts) core q.lawful q.without_cells q.labels room in
    let after = ready_may_be_emitted (length hosts) core q fit in
    emitted_are_printable (behind_passes core) hosts helpers after.0 after.1 a k

pub helped_are_printable : HelpedArePrintable
helped_are_printable core hosts names helpers q room a d = ready_are_printable core hosts helpers q room a (helpers_may_stand_inside names helpers d)
