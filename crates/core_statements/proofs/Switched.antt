-- The next case of a switch that has a test.
use Rattle.std.proofs.Common.{◌≡◌, List, None, Option, Some, [], ◌∷◌, refl, if◌then◌else◌, is_some}
use Rattle.es_value.specs.declared.value.Value.{Value}
use Rattle.core_ast.specs.declared.tree.CoreCase.{CoreCase, out-CoreCase}
use Rattle.core_ast.specs.declared.tree.CoreExpr.{CoreExpr}
use Rattle.core_meaning.specs.State.{Sorts, State}
use Rattle.core_meaning.specs.Statements.{match_case, match_next}
use Rattle.core_statements.specs.Cases.{match_from, next_tested}

one_case : {s : Sorts} {S : Type 0} (v : Value) (all : List CoreCase) (c : CoreCase) (cs : List CoreCase) (st : State s S) (o : Option CoreExpr) → (out-CoreCase c).test ≡ o → match_next v all cs st ≡ match_from v all (next_tested cs) st → match_case v all (c ∷ cs) st (match_next v all cs st) o ≡ match_from v all (if is_some o then c ∷ cs else next_tested cs) st
one_case v all c cs st None e ih = ih
one_case v all c cs st (Some x) e ih = rw e refl

pub match_next_by : {s : Sorts} {S : Type 0} (v : Value) (all cs : List CoreCase) (st : State s S) → match_next v all cs st ≡ match_from v all (next_tested cs) st
match_next_by v all [] st = refl
match_next_by v all (c ∷ cs) st = one_case v all c cs st (out-CoreCase c).test refl (match_next_by v all cs st)
