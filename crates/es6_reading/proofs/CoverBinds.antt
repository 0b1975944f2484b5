-- A pattern that binds is also one that is assigned, and binds names.
use Rattle.std.proofs.Common.{◌≡◌, true, false, List, refl, arith}
use Rattle.es6_ast.specs.declared.tree.Identifier.{Identifier}
use Rattle.es6_ast.specs.declared.tree.Expression.TheVariants as expr
use Rattle.es6_ast.specs.declared.tree.Pattern.{Pattern, out-Pattern}
use Rattle.es6_ast.specs.declared.tree.Pattern.TheVariants as pattern
use Rattle.es6_ast.specs.declared.tree.ArrayPart.{ArrayPart, out-ArrayPart}
use Rattle.es6_ast.specs.declared.tree.ArrayPart.TheVariants as array_part
use Rattle.es6_ast.specs.declared.tree.ObjectPart.{ObjectPart, out-ObjectPart}
use Rattle.es6_ast.specs.declared.tree.ObjectPart.TheVariants as object_part
use Rattle.es6_ast.specs.declared.tree.Part.{Part}
use Rattle.es6_ast.specs.declared.settings.Flags.{Flags}
use Rattle.es6_ast.specs.Tokens.{Filled}
use Rattle.es6_ast.specs.Targets.{is_simple}
use Rattle.es6_ast.specs.Grammar as g
use Rattle.es6_ast.specs.Grammar.{level_left_hand_side, level_primary, IsName, IsExpression, IsPattern, IsTarget, IsPart, IsRest, IsObjectPart, AreArrayParts, AreObjectParts}
use Rattle.es6_reading.specs.Refine.{binds_names, all_bind, array_part_binds, object_part_binds, rest_binds}
use Rattle.es6_reading.proofs.RefineTargetOf.{as_target-is}
use Rattle.es6_reading.proofs.Enough.{Sure, sure-now, sure-next, sure-then, sure-both, sure-within, then-refined}

-- ## Names

pub name-expression : {f : Flags} {ts us : List Filled} {n : Identifier} → IsName ts n us → IsExpression f level_left_hand_side ts (expr.Name n.span n.name) us
name-expression {n = n} d = g.at_level level_primary _ (omega arith) (g.reference n _ d refl)

pub name-is-simple : (n : Identifier) → is_simple (expr.Name n.span n.name) ≡ true
name-is-simple n = rw (is_simple, as_target-is (expr.Name n.span n.name), expr.outs-Name) refl

-- ## Assigned

mutual
  pub free-target : {f : Flags} {ts us : List Filled} {p : Pattern} → IsTarget f true ts p us → IsTarget f false ts p us
  free-target (g.bound_name n x d e) = g.simple_target _ x (name-expression d) (name-is-simple n) e
  free-target (g.nested_pattern x d) = g.nested_pattern x (free-pattern d)

  pub free-pattern : {f : Flags} {ts us : List Filled} {p : Pattern} → IsPattern f true ts p us → IsPattern f false ts p us
  free-pattern (g.array_pattern parts x h d e) = g.array_pattern parts x h (free-array d) e
  free-pattern (g.object_pattern parts x h d e) = g.object_pattern parts x h (free-object d) e

  free-array : {f : Flags} {ts us : List Filled} {parts : List ArrayPart} → AreArrayParts f true ts parts us → AreArrayParts f false ts parts us
  free-array (g.no_array_part h) = g.no_array_part h
  free-array (g.skipped_part e es h k d) = g.skipped_part e es h k (free-array d)
  free-array (g.rest_part x e h d k q) = g.rest_part x e h (free-rest d) k q
  free-array (g.last_array_part q e d h k) = g.last_array_part q e (free-part d) h k
  free-array (g.next_array_part q e es d h k ds) = g.next_array_part q e es (free-part d) h k (free-array ds)

  free-rest : {f : Flags} {ts us : List Filled} {p : Pattern} → IsRest f true ts p us → IsRest f false ts p us
  free-rest (g.bound_rest n x d e) = g.assigned_rest x (g.simple_target _ x (name-expression d) (name-is-simple n) e)

  free-part : {f : Flags} {ts us : List Filled} {q : Part} → IsPart f true ts q us → IsPart f false ts q us
  free-part (g.part_alone x q d e) = g.part_alone x q (free-target d) e
  free-part (g.part_with_default x value q d h v e) = g.part_with_default x value q (free-target d) h v e

  free-object : {f : Flags} {ts us : List Filled} {parts : List ObjectPart} → AreObjectParts f true ts parts us → AreObjectParts f false ts parts us
  free-object (g.no_object_part h) = g.no_object_part h
  free-object (g.last_object_part e d h) = g.last_object_part e (free-property d) h
  free-object (g.next_object_part e es d h ds) = g.next_object_part e es (free-property d) h (free-object ds)

  free-property : {f : Flags} {ts us : List Filled} {e : ObjectPart} → IsObjectPart f true ts e us → IsObjectPart f false ts e us
  free-property (g.named_part n e d k) = g.named_part n e d k
  free-property (g.named_part_with_default n value e d h v k) = g.named_part_with_default n value e d h v k
  free-property (g.keyed_part k q e d h p j) = g.keyed_part k q e d h (free-part p) j

-- ## Names for all targets

mutual
  pub names-bound : {f : Flags} {ts us : List Filled} {p : Pattern} → IsTarget f true ts p us → Sure (λ n. binds_names n p) tt
  names-bound (g.bound_name n x d e) = sure-next (λ m. rw (e, pattern.outs-Target, expr.outs-Name) refl)
  names-bound (g.nested_pattern x (g.array_pattern parts x' h d e)) = sure-within (names-in-array d) (λ m k. rw (e, pattern.outs-ArrayPattern) k)
  names-bound (g.nested_pattern x (g.object_pattern parts x' h d e)) = sure-within (names-in-object d) (λ m k. rw (e, pattern.outs-ObjectPattern) k)

  names-in-array : {f : Flags} {ts us : List Filled} {parts : List ArrayPart} → AreArrayParts f true ts parts us → Sure (λ n. all_bind (λ e. array_part_binds (binds_names n) (out-ArrayPart e)) parts) tt
  names-in-array (g.no_array_part h) = sure-now (λ n. refl)
  names-in-array (g.skipped_part e es h k d) = sure-then (names-in-array d) (λ n j. rw (k, array_part.outs-SkippedPart) j)
  names-in-array (g.rest_part x e h d k q) = sure-then (names-in-rest d) (λ n j. rw (q, array_part.outs-RestPart) (then-refined j refl))
  names-in-array (g.last_array_part q e d h k) = sure-then (names-in-part d) (λ n j. rw (k, array_part.outs-SinglePart) (then-refined j refl))
  names-in-array (g.next_array_part q e es d h k ds) = sure-both (names-in-part d) (names-in-array ds) (λ n i j. rw (k, array_part.outs-SinglePart) (then-refined i j))

  names-in-rest : {f : Flags} {ts us : List Filled} {p : Pattern} → IsRest f true ts p us → Sure (λ n. rest_binds (out-Pattern p)) tt
  names-in-rest (g.bound_rest n x d e) = sure-now (λ m. rw (e, pattern.outs-Target, expr.outs-Name) refl)

  names-in-part : {f : Flags} {ts us : List Filled} {q : Part} → IsPart f true ts q us → Sure (λ n. binds_names n q.pattern) tt
  names-in-part (g.part_alone x q d e) = rw e (names-bound d)
  names-in-part (g.part_with_default x value q d h v e) = rw e (names-bound d)

  names-in-object : {f : Flags} {ts us : List Filled} {parts : List ObjectPart} → AreObjectParts f true ts parts us → Sure (λ n. all_bind (λ e. object_part_binds (binds_names n) (out-ObjectPart e)) parts) tt
  names-in-object (g.no_object_part h) = sure-now (λ n. refl)
  names-in-object (g.last_object_part e d h) = sure-then (names-in-property d) (λ n j. then-refined j refl)
  names-in-object (g.next_object_part e es d h ds) = sure-both (names-in-property d) (names-in-object ds) (λ n i j. then-refined i j)

  names-in-property : {f : Flags} {ts us : List Filled} {e : ObjectPart} → IsObjectPart f true ts e us → Sure (λ n. object_part_binds (binds_names n) (out-ObjectPart e)) tt
  names-in-property (g.named_part n e d k) = sure-now (λ m. rw (k, object_part.outs-NamedPart) refl)
  names-in-property (g.named_part_with_default n value e d h v k) = sure-now (λ m. rw (k, object_part.outs-NamedPart) refl)
  names-in-property (g.keyed_part k q e d h p j) = sure-then (names-in-part p) (λ n i. rw (j, object_part.outs-KeyedPart) i)
