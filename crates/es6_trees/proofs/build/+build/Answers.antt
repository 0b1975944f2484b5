use Rattle.std.proofs.Common.{◌≡◌, ◌-◌, suc, Some, None, sym, ap, subst, ◌∙◌, rules, arith}
use Rattle.es6_ast.specs.declared.tree.Argument.TheVariants as argument
use Rattle.es6_ast.specs.declared.tree.ArrayPart.TheVariants.{SinglePart, RestPart}
use Rattle.es6_ast.specs.declared.tree.Element.{Element}
use Rattle.es6_ast.specs.declared.tree.Element.TheVariants as element
use Rattle.es6_ast.specs.declared.tree.Expression.{out-Expression}
use Rattle.es6_ast.specs.declared.tree.ObjectPart.TheVariants.{KeyedPart, NamedPart}
use Rattle.es6_ast.specs.declared.tree.Pattern.{out-Pattern}
use Rattle.es6_ast.specs.declared.tree.Pattern.TheVariants as pattern
use Rattle.es6_ast.specs.Grammar.{name_alone, name_target}
use Rattle.es6_reading.specs.Refine.{made_part}
use Rattle.es6_trees.specs.Built.{IsPatternOf, IsPartOf, IsTargetOf, IsArrayPartOf, AreArrayPartsOf, IsObjectPartOf, AreObjectPartsOf}
use Rattle.es6_trees.proofs.Becoming.{IsAlone, IsLiteral, array_pattern_is, object_pattern_is, alone_pattern_is, target_is, literal_is, defaulted_is, alone_part_is, hole_is, single_is, spread_is, no_array_parts, more_array_parts, keyed_is, shorthand_is, initialized_is, no_object_parts, more_object_parts}
use Rattle.es6_trees.proofs.Putting.{put_together, still_ok, was_added}
use Rattle.es6_trees.proofs.Taking.{none_taken, one_added}
use Rattle.es6_trees.proofs.build.+build.Goals as goal

pub array_part_of-returns-in-Hole : goal.array_part_of-returns-in-Hole
array_part_of-returns-in-Hole t c = hole_is c.args.depth c.in-Hole.is

pub array_part_of-returns-in-Present-Single : goal.array_part_of-returns-in-Present-Single
array_part_of-returns-in-Present-Single t c =
    let x = c.in-Present-Single.value in
    let k : ◌≡◌ {A = Element} c.args.element (element.Present (argument.Single x)) = cc in
    put_together (λ q. SinglePart q) c.part_of.result c.single_part.result (λ q. IsPartOf c.args.depth x q) (λ a. IsArrayPartOf c.args.depth c.args.element a) c.single_part.ensures c.part_of.ensures (λ q h. single_is k h)

pub array_part_of-returns-in-Present-Spread : goal.array_part_of-returns-in-Present-Spread
array_part_of-returns-in-Present-Spread t c =
    let span = c.in-Present-Spread.span in
    let x = c.in-Present-Spread.value in
    let k : ◌≡◌ {A = Element} c.args.element (element.Present (argument.Spread span x)) = cc in
    put_together (λ p. RestPart span p) c.pattern_of.result c.rest_part.result (λ p. IsPatternOf c.args.depth x p) (λ a. IsArrayPartOf c.args.depth c.args.element a) c.rest_part.ensures c.pattern_of.ensures (λ p h. spread_is k h)

pub array_parts_of-taking-init : goal.array_parts_of-taking-init
array_parts_of-taking-init t c =
    none_taken (AreArrayPartsOf c.args.depth) c.args.elements c.new-parts.result.items c.new-parts.ensures.items (no_array_parts c.args.depth)

pub array_parts_of-taking-preserved : goal.array_parts_of-taking-preserved
array_parts_of-taking-preserved t c =
    one_added (IsArrayPartOf c.args.depth) (λ es b bs h hs. more_array_parts h hs) c.taking.invariant c.in-Some.ensures (was_added (IsArrayPartOf c.args.depth c.in-Some.element) c.taking.parts.items c.array_part_of.result c.add.new.list.items c.in_ok-add.ensures c.array_part_of.ensures)

pub object_part_of-returns-in-Plain : goal.object_part_of-returns-in-Plain
object_part_of-returns-in-Plain t c =
    let span = c.in-Plain.span in
    let key = c.in-Plain.key in
    put_together (λ q. KeyedPart span key q) c.part_of.result c.keyed_part.result (λ q. IsPartOf c.args.depth c.in-Plain.value q) (λ o. IsObjectPartOf c.args.depth c.args.property o) c.keyed_part.ensures c.part_of.ensures (λ q h. keyed_is span key c.in-Plain.is h)

pub object_part_of-returns-in-Shorthand : goal.object_part_of-returns-in-Shorthand
object_part_of-returns-in-Shorthand t c =
    let part = NamedPart (name_alone (record { span = c.in-Shorthand.span; name = c.in-Shorthand.name })) in
    still_ok c.named.result (λ o. o ≡ part) (λ o. IsObjectPartOf c.args.depth c.args.property o) c.named.ensures (λ o e. subst (λ p. IsObjectPartOf c.args.depth c.args.property p) (sym e) (shorthand_is c.args.depth c.in-Shorthand.is))

pub object_part_of-returns-in-Initialized : goal.object_part_of-returns-in-Initialized
object_part_of-returns-in-Initialized t c =
    let part = NamedPart (made_part c.in-Initialized.span (Some c.in-Initialized.value) (name_target c.in-Initialized.name)) in
    still_ok c.named-in-Initialized.result (λ o. o ≡ part) (λ o. IsObjectPartOf c.args.depth c.args.property o) c.named-in-Initialized.ensures
    (λ o e. subst (λ p. IsObjectPartOf c.args.depth c.args.property p) (sym e) (initialized_is c.args.depth c.in-Initialized.value c.in-Initialized.is))

pub object_parts_of-taking-init : goal.object_parts_of-taking-init
object_parts_of-taking-init t c =
    none_taken (AreObjectPartsOf c.args.depth) c.args.properties c.new-parts.result.items c.new-parts.ensures.items (no_object_parts c.args.depth)

pub object_parts_of-taking-preserved : goal.object_parts_of-taking-preserved
object_parts_of-taking-preserved t c =
    one_added (IsObjectPartOf c.args.depth) (λ es b bs h hs. more_object_parts h hs) c.taking.invariant c.in-Some.ensures (was_added (IsObjectPartOf c.args.depth c.in-Some.property) c.taking.parts.items c.object_part_of.result c.add.new.list.items c.in_ok-add.ensures c.object_part_of.ensures)

pub part_of-returns-in-Defaulted : goal.part_of-returns-in-Defaulted
part_of-returns-in-Defaulted t c =
    let span = c.in-Defaulted.span in
    let value = c.in-Defaulted.value in
    put_together (λ q. made_part span (Some value) q) c.target_of.result c.part.result (λ q. IsTargetOf c.args.depth c.in-Defaulted.target q) (λ q. IsPartOf c.args.depth c.args.expression q) c.part.ensures c.target_of.ensures
    (λ q h. defaulted_is value c.in-Defaulted.ensures h)

pub part_of-returns-in-Alone : goal.part_of-returns-in-Alone
part_of-returns-in-Alone t c =
    let y = c.in-Alone.expression in
    put_together (λ p. made_part c.span-span.result None p) c.pattern_of.result c.part-in-Alone.result (λ p. IsPatternOf c.args.depth y p) (λ q. IsPartOf c.args.depth c.args.expression q) c.part-in-Alone.ensures c.pattern_of.ensures
    (λ p h. alone_part_is c.args.depth c.args.expression y c.span-span.result p c.in-Alone.ensures c.span-span.ensures h)

pub pattern_of-returns-in-ArrayList : goal.pattern_of-returns-in-ArrayList
pattern_of-returns-in-ArrayList t c =
    let n = c.args.depth - 1 in
    let deep : c.args.depth ≡ suc (c.args.depth - 1) = omega arith in
    put_together (λ parts. pattern.ArrayPattern c.in-ArrayList.span parts) c.array_parts_of.result c.array_pattern.result (λ parts. AreArrayPartsOf n c.in-ArrayList.elements parts) (λ p. IsPatternOf c.args.depth c.args.expression p) c.array_pattern.ensures c.array_parts_of.ensures (λ parts h. array_pattern_is c.args.depth n deep c.in-ArrayList.is h)

pub pattern_of-returns-in-ObjectList : goal.pattern_of-returns-in-ObjectList
pattern_of-returns-in-ObjectList t c =
    let n = c.args.depth - 1 in
    let deep : c.args.depth ≡ suc (c.args.depth - 1) = omega arith in
    put_together (λ parts. pattern.ObjectPattern c.in-ObjectList.span parts) c.object_parts_of.result c.object_pattern.result (λ parts. AreObjectPartsOf n c.in-ObjectList.properties parts) (λ p. IsPatternOf c.args.depth c.args.expression p) c.object_pattern.ensures c.object_parts_of.ensures (λ parts h. object_pattern_is c.args.depth n deep c.in-ObjectList.is h)

pub pattern_of-returns-in_default : goal.pattern_of-returns-in_default
pattern_of-returns-in_default t c =
    let x = c.args.expression in
    let deep : c.args.depth ≡ suc (c.args.depth - 1) = omega arith in
    let alone : IsAlone (out-Expression c.args.expression) = search rules in
    still_ok c.target_alone.result (λ p. p ≡ pattern.Target x) (λ p. IsPatternOf c.args.depth x p) c.target_alone.ensures (λ p e. alone_pattern_is c.args.depth (c.args.depth - 1) x p deep alone e)

pub target_of-returns-in-Target : goal.target_of-returns-in-Target
target_of-returns-in-Target t c =
    let x = c.into_inner.result in
    still_ok c.pattern_of.result (λ q. IsPatternOf c.args.depth x q) (λ q. IsTargetOf c.args.depth c.args.pattern q) c.pattern_of.ensures (λ q h. target_is c.args.depth (c.in-Target.is ∙ ap (λ y. pattern.Target y) (sym c.into_inner.ensures)) h)

pub target_of-returns-in_default : goal.target_of-returns-in_default
target_of-returns-in_default t c =
    let literal : IsLiteral (out-Pattern c.args.pattern) = search rules in
    literal_is c.args.depth c.args.pattern literal
