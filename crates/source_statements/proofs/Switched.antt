-- The next case of a switch that has a test.
use Rattle.std.proofs.Common.{◌≡◌, List, None, Option, Some, [], ◌∷◌, refl, if◌then◌else◌, is_some}
use Rattle.es_value.specs.declared.value.Value.{Value}
use Rattle.es6_ast.specs.declared.tree.Case.{Case, out-Case}
use Rattle.es6_ast.specs.declared.tree.Expression.{Expression}
use Rattle.source_meaning.specs.State.{State}
use Rattle.source_meaning.specs.Statements.{match_case, match_next}
use Rattle.source_statements.specs.Cases.{match_from, next_tested}

one_case : (v : Value) (all : List Case) (c : Case) (cs : List Case) (st : State) (o : Option Expression) → (out-Case c).test ≡ o → match_next v all cs st ≡ match_from v all (next_tested cs) st → match_case v all (c ∷ cs) st (match_next v all cs st) o ≡ match_from v all (if is_some o then c ∷ cs else next_tested cs) st
one_case v all c cs st None e ih = ih
one_case v all c cs st (Some x) e ih = rw e refl

match_next_by : (v : Value) (all cs : List Case) (st : State) → match_next v all cs st ≡ match_from v all (next_tested cs) st
match_next_by v all [] st = refl
match_next_by v all (c ∷ cs) st = one_case v all c cs st (out-Case c).test refl (match_next_by v all cs st)

pub match_tested : (v : Value) (all cs ds : List Case) (st : State) → ds ≡ next_tested cs → match_next v all cs st ≡ match_from v all ds st
match_tested v all cs ds st e = rw e (match_next_by v all cs st)
