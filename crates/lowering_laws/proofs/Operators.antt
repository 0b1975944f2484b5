-- Operations on lawful values are lawful.
use Rattle.std.proofs.Common.{◌≡◌, ◌+◌, true, [], ◌∷◌, None, Some, refl, ap, arith, subst, ◌∙◌}
use Rattle.core_ast.specs.declared.parts.CoreHead.TheVariants as head
use Rattle.core_ast.specs.declared.parts.CoreOp.TheVariants as op
use Rattle.core_ast.specs.declared.parts.Primitive.TheVariants.{NewTarget, Power}
use Rattle.core_ast.specs.declared.tree.CoreExpr.{CoreExpr}
use Rattle.core_ast.specs.declared.tree.CoreLink.{CoreLink}
use Rattle.core_ast.specs.declared.tree.CoreLink.TheVariants as link
use Rattle.core_ast.specs.declared.tree.CoreLink.TheOpen as layer
use Rattle.core_ast.specs.declared.tree.CoreStat.TheVariants as stat
use Rattle.core_ast.specs.Lawful as lawful
use Rattle.core_ast.specs.Lawful.{Joint, Round}
use Rattle.core_ast.specs.Made.{linked}
use Rattle.lawful_passes.proofs.Far.{SoFar, do_is, done_is, joint, lazy_one, lazy_two, linked_far, more_sites, rolled_is, site_count}
use Rattle.lawful_passes.proofs.Spilling.{Sound}
use Rattle.lawful_passes.proofs.Stepping.{sound_whole}
use Rattle.lowering_laws.specs.Operators.{ConditionsAreLawful, ConstantsAreLawful, EvaluationsAreLawful, OperatorsAreLawful, YieldsAreLawful}
use Rattle.lowering_laws.proofs.Expressions.{acted, behind, list_is, plainly}
use Rattle.lowering_laws.proofs.Statements.{initialize_is, set_is, then_is}
use Rattle.pass_rules.proofs.pass_laws.Within.{both}

pub constants_are_lawful : ConstantsAreLawful
constants_are_lawful r c h = (list_is r (head.Constant c) [] refl h tt, list_is r (head.Primitive NewTarget) [] refl refl tt)

pub operators_are_lawful : OperatorsAreLawful
operators_are_lawful r x y o b h = (
  acted r (op.Unary o) x plainly refl refl refl h,
  λ k. (
    behind r (op.Operator b) (y ∷ []) x plainly refl refl refl (both k refl) h,
    behind r (op.Primitive Power) (y ∷ []) x plainly refl refl refl (both k refl) h,
    then_is r x y h k,
  ),
)

-- what has no operation of its own may stand behind any value
lazily : (r : Round) (x : CoreExpr) (k : CoreLink) (test : lawful.Test) → joint k ≡ record { ends = None; site = None; lawful = test } → test r ≡ true → Sound r x → Sound r (linked x k)
lazily r x k test j t h =
    let w = sound_whole r x h in
    let far = linked_far r w.at 1 x k w.far (ap (λ (i : Joint). lawful.behind w.at i.ends) j ∙ plainly w.at w.plain) (ap (λ (i : Joint). i.lawful r) j ∙ t) in
    done_is r lawful.Plain _ (more_sites r lawful.Plain (1 + 0) 1 _ (omega arith) (subst (λ (i : Joint). SoFar r (lawful.after i.ends) (1 + site_count i.site) (linked x k)) j far)) refl

pub conditions_are_lawful : ConditionsAreLawful
conditions_are_lawful r x y w None h k m = lazily r x (link.Lazy w y None) _ (lazy_one w y) (both k refl) h
conditions_are_lawful r x y w (Some z) h k m = lazily r x (link.Lazy w y (Some z)) _ (lazy_two w y z) (both k m) h

pub yields_are_lawful : YieldsAreLawful
yields_are_lawful r x y h = (acted r op.Yield x plainly refl refl y h, acted r op.Delegate x plainly refl refl y h)

pub evaluations_are_lawful : EvaluationsAreLawful
evaluations_are_lawful r x v h = (do_is r x h, rolled_is r _ (layer.Throw x) (stat.rolls-Throw x) h, λ d. (set_is r v x d h, initialize_is r v x d h))
