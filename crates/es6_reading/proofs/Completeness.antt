-- What the grammar derives is read exactly so, if loops have turns enough and constructs enough may open. No semicolon is
-- inserted.
use Rattle.std.proofs.Common.{◌≡◌, ℕ, zero, suc, ◌≤◌, Bool, true, false, List, [], ◌∷◌, Option, refl, arith}
use Rattle.es6_lexer.specs.declared.token.Punctuator.TheVariants as marks
use Rattle.es6_ast.specs.declared.operators.AssignOperator.{AssignOperator}
use Rattle.es6_ast.specs.declared.operators.VariableKind.TheVariants.{Var}
use Rattle.es6_ast.specs.declared.tree.Expression.{Expression}
use Rattle.es6_ast.specs.declared.tree.Statement.{Statement}
use Rattle.es6_ast.specs.declared.tree.Pattern.{Pattern}
use Rattle.es6_ast.specs.declared.tree.ArrayPart.{ArrayPart}
use Rattle.es6_ast.specs.declared.tree.ObjectPart.{ObjectPart}
use Rattle.es6_ast.specs.declared.tree.Part.{Part}
use Rattle.es6_ast.specs.declared.tree.Parameter.{Parameter}
use Rattle.es6_ast.specs.declared.tree.Parameter.TheVariants.{SingleParameter}
use Rattle.es6_ast.specs.declared.tree.Element.{Element}
use Rattle.es6_ast.specs.declared.tree.Argument.{Argument}
use Rattle.es6_ast.specs.declared.tree.Link.{Link}
use Rattle.es6_ast.specs.declared.tree.Operand.{Operand}
use Rattle.es6_ast.specs.declared.tree.Template.{Template}
use Rattle.es6_ast.specs.declared.tree.TemplatePart.{TemplatePart}
use Rattle.es6_ast.specs.declared.tree.Property.{Property}
use Rattle.es6_ast.specs.declared.tree.Key.{Key}
use Rattle.es6_ast.specs.declared.tree.Method.{Method}
use Rattle.es6_ast.specs.declared.tree.Function.{Function}
use Rattle.es6_ast.specs.declared.tree.Class.{Class}
use Rattle.es6_ast.specs.declared.tree.ClassMember.{ClassMember}
use Rattle.es6_ast.specs.declared.tree.ArrowBody.{ArrowBody}
use Rattle.es6_ast.specs.declared.tree.Block.{Block}
use Rattle.es6_ast.specs.declared.tree.Case.{Case}
use Rattle.es6_ast.specs.declared.tree.Catch.{Catch}
use Rattle.es6_ast.specs.declared.tree.Condition.{Condition}
use Rattle.es6_ast.specs.declared.tree.ForFirst.{ForFirst}
use Rattle.es6_ast.specs.declared.tree.ForTarget.{ForTarget}
use Rattle.es6_ast.specs.declared.settings.Flags.{Flags}
use Rattle.es6_ast.specs.declared.settings.Stand.{Stand}
use Rattle.es6_ast.specs.declared.settings.Stand.TheVariants.{Listed, Under, Labelled}
use Rattle.es6_ast.specs.Tokens.{Filled, IsMark, IsOnLine}
use Rattle.es6_ast.specs.Grammar as g
use Rattle.es6_ast.specs.Grammar.{with_in, of_function, IsExpression, IsNode, IsSuperCall, IsNewCallee, AreElements, IsArgument, AreArguments, AreLinks, AreOperands, AreMore, IsTemplate, AreTemplateParts, AreProperties, IsProperty, IsKey, IsAssigned, IsPattern, IsTarget, IsPart, AreArrayParts, IsRest, AreObjectParts, IsObjectPart, AreParameters, AreArrowParameters, IsArrowBody, IsFunction, IsSignature, IsMethod, IsClass, IsClassTail, AreMembers, AreStatements, IsListed, IsDeclaration, AreVariables, IsVariable, IsStatement, IsBlock, IsIf, IsCondition, IsForFirst, IsForTarget, IsOptional, AreCases, AreInCase, IsCatch}
use Rattle.es6_reading.specs.Parts.{template_parts}
use Rattle.es6_reading.proofs.Reading.{Eventually}
use Rattle.es6_reading.proofs.Exactly.{ReadsExactly}
use Rattle.es6_reading.specs.Laws.{IsComplete}
use Rattle.es6_reading.proofs.CompleteImports.{R}
use Rattle.es6_reading.proofs.CompleteClaims.{Claim}
use Rattle.es6_reading.proofs.CompleteLists.{ArgumentClaim, single-claim, spread-claim, more-last, more-next, TemplateClaim, whole_claim, parted_claim, template-last, template-next}
use Rattle.es6_reading.proofs.CompleteOperators.{unary-claim, before-claim, power-claim, OperandsClaim, no-operands, operand-claim, conditional-claim}
use Rattle.es6_reading.proofs.CompletePrimary.{this-claim, name-claim, literal-claim, array-claim, super-member-claim}
use Rattle.es6_reading.proofs.CompleteChains.{super-index-claim, new-target-claim, new-call-claim, CalleeClaim, callee-member, LinksClaim, links-end, links-member, links-index, links-tag, links-call, chain-claim}
use Rattle.es6_reading.proofs.CompleteAssignments.{ParametersClaim, BodyClaim, block_claim, value_claim, arrow-claim, yield-claim, yield-value-claim, delegate-claim}
use Rattle.es6_reading.proofs.CompleteGroups.{template-claim}
use Rattle.es6_reading.proofs.CompleteParts.{PartsClaim, last_part, next_part, group-of}
use Rattle.es6_reading.proofs.CompleteObjects as objects
use Rattle.es6_reading.proofs.CompleteObjects.{PropertyClaim, shorthand-claim, PropertiesRead, properties-none, properties-last, properties-next, object-claim}
use Rattle.es6_reading.proofs.CompleteKeys as keys
use Rattle.es6_reading.proofs.CompleteKeys.{KeyClaim, word_claim, text_claim, integer_claim, computed_claim, SignatureClaim}
use Rattle.es6_reading.proofs.CompleteStatements as statements
use Rattle.es6_reading.proofs.CompleteStatements.{StatementClaim, BlockClaim, block-claim, block-statement, VariableClaim, bare-claim, VariableItems, item_last, item_next, variables-reads, ConditionClaim, condition-claim, IfClaim, no-else, last-else, else-if, if-claim, var-claim, do-claim, while-claim, for-claim, switch-claim, try-claim, continue-claim, break-claim, throw-claim, debugger-claim, return-claim}
use Rattle.es6_reading.proofs.CompleteLoops.{do-reads, while-reads, label-of, continue-reads, break-reads, return-bare-reads, return-value-reads, throw-reads, debugger-reads}
use Rattle.es6_reading.proofs.CompletePlain.{left-brace, expression-claim, empty-claim}
use Rattle.es6_reading.proofs.CompleteDeclarations.{labelled-claim, DeclarationClaim, lexical_claim, declaration-claim}
use Rattle.es6_reading.proofs.CompleteSwitches.{CasesRead, cases-none, case-reads, default-reads, cases-begin, switch-reads, CatchClaim, catch-claim, try-catch-reads, try-finally-reads, try-both-reads}
use Rattle.es6_reading.proofs.CompleteFor.{OptionalClaim, absent_claim, present_claim, FirstRead, first-variables, first-expression, for-header, for-reads}
use Rattle.es6_reading.proofs.CompleteFunctions.{signature-claim, body-reads, FunctionClaim, function_read, function-named, function-unnamed}
use Rattle.es6_reading.proofs.CompleteMethods.{AccessorClaim, getter-tail, setter-tail, MethodClaim, plain-method, generator-method, accessor-method}
use Rattle.es6_reading.proofs.CompleteClasses.{MembersRead, members-none, members-semicolon, members-instance, members-static, ClassTailClaim, base-class, derived-class, ClassClaim, class_read, class-named, class-unnamed}
use Rattle.es6_reading.proofs.CompleteDeclared.{function-expression, class-expression, function-declared, class-declared, function-under-label}
use Rattle.es6_reading.proofs.CompleteParameters.{parameter-claim}
use Rattle.es6_reading.proofs.CompletePatterns.{simple-target-read}
use Rattle.es6_reading.proofs.CompleteArrows.{name-parameter, list-parameters}
use Rattle.es6_reading.proofs.CompleteModules.{PartsAreRead, modules-are-read}
use Rattle.es6_reading.proofs.CompleteForms as form
use Rattle.es6_reading.proofs.CompleteForms.{NodeClaim, ExpressionClaim, SuperClaim, ElementsClaim, ArgumentsClaim, AssignedClaim, TargetBoth, PartBoth, ArrayBoth, RestBoth, ObjectBoth, PropertyBoth, ParametersBoth, StatementsClaim, InCaseClaim, TurnClaim}

mutual
  -- ## Expressions

  expressionC : {f : Flags} {least : ℕ} {ts us : List Filled} {x : Expression} → IsExpression f least ts x us → ExpressionClaim f least ts us x
  expressionC (g.at_level zero x h d) = form.lowest _ _ h (nodeC d)
  expressionC (g.at_level (suc level) x h d) = form.higher _ _ level h d (nodeC d)

  nodeC : {f : Flags} {level : ℕ} {ts us : List Filled} {x : Expression} → IsNode f level ts x us → NodeClaim f level ts us x
  nodeC (g.this x w e) = form.high-node _ 19 (omega arith) (this-claim _ w e)
  nodeC (g.reference n x d e) = form.high-node _ 19 (omega arith) (name-claim _ d e)
  nodeC (g.literal value x h e) = form.high-node _ 19 (omega arith) (literal-claim _ value h e)
  nodeC (g.array es x p d e) = form.high-node _ 19 (omega arith) (array-claim _ p (elementsC d).reads e)
  nodeC (g.object qs x p d e) = form.high-node _ 19 (omega arith) (object-claim _ p (propertiesC d) e)
  nodeC (g.template m x d e) = form.high-node _ 19 (omega arith) (template-claim _ (templateC d) e)
  nodeC (g.group held x p d q e) = form.high-node _ 19 (omega arith) (group-of _ p (expressionC d).split q e)
  nodeC (g.function h x d e) = form.high-node _ 19 (omega arith) (function-expression _ (functionC d) e)
  nodeC (g.class c x d e) = form.high-node _ 19 (omega arith) (class-expression _ (classC d) e)
  nodeC (g.super_member n x w p d e) = form.high-node _ 19 (omega arith) (super-member-claim _ w p d e)
  nodeC (g.super_index y x w p d q e) = form.high-node _ 19 (omega arith) (super-index-claim _ w p (expressionC d).claim q e)
  nodeC (g.new_target x w p v e) = form.high-node _ 19 (omega arith) (new-target-claim _ w p v e)
  nodeC (g.new_call callee as_ x w d p ds e) = form.high-node _ 19 (omega arith) (new-call-claim _ w (expressionC d).claim p (argumentsC ds).reads e)
  nodeC (g.new_bare callee x w d e) = form.new-node _ w (calleeC d) e
  nodeC (g.super_call_alone x d) = form.high-node _ 17 (omega arith) (superC d).claim
  nodeC (g.chain {calls = calls} y l ls x d ds e) = form.chain-node _ calls (chain-claim _ calls (expressionC d).claim (linksC ds) e)
  nodeC (g.super_chain y l ls x d ds e) = form.high-node _ 17 (omega arith) ((superC d).chain _ _ l ls x (linksC ds) e)
  nodeC (g.update_after op y x b d h o e) = form.after-node _ op b (expressionC d).claim h o e
  nodeC (g.update_before op y x b h d e) = form.low-node _ 15 (omega arith) (omega arith) (before-claim _ op b h (expressionC d).claim e)
  nodeC (g.unary op y x h d e) = form.low-node _ 14 (omega arith) (omega arith) (unary-claim _ op h (expressionC d).claim e)
  nodeC (g.power y z x d h d' e) = form.low-node _ 13 (omega arith) (omega arith) (power-claim _ (expressionC d).claim h (expressionC d').claim e)
  nodeC (g.binary_chain {level = level} y o os x d ds e) = let l = form.operands-level ds in form.binary-node _ level l (expressionC d).claim (operandsC l.1 ds) e
  nodeC (g.conditional y z w x d p d' q d'' e) = form.low-node _ 2 (omega arith) (omega arith) (conditional-claim _ (expressionC d).claim p (expressionC d').claim q (expressionC d'').claim e)
  nodeC (g.assignment op y value x d h v e) = form.assignment-node _ op (assignedC d) h (expressionC v).claim e
  nodeC (g.arrow es body x d h o b e) = form.low-node _ 1 (omega arith) (omega arith) (arrow-claim _ (arrowC d h o) h o (bodyC b) e)
  nodeC (g.yield x h w e) = form.low-node _ 1 (omega arith) (omega arith) (yield-claim _ h w e)
  nodeC (g.yield_value y x h w o d e) = form.low-node _ 1 (omega arith) (omega arith) (yield-value-claim _ h w o (expressionC d).claim e)
  nodeC (g.delegate y x h w p o d e) = form.low-node _ 1 (omega arith) (omega arith) (delegate-claim _ h w p o (expressionC d).claim e)
  nodeC (g.sequence y z rest x d ds e) = form.sequence-node _ (partsC (expressionC d).claim ds) e

  superC : {f : Flags} {ts us : List Filled} {x : Expression} → IsSuperCall f ts x us → SuperClaim f ts us x
  superC (g.super_call as_ x w p d e) = form.super-claim _ w p (argumentsC d).reads e

  calleeC : {f : Flags} {ts us : List Filled} {x : Expression} → IsNewCallee f ts x us → CalleeClaim f ts us x
  calleeC (g.another_new x d) = (nodeC d).callee refl
  calleeC (g.member_callee x d) = callee-member _ (expressionC d).claim

  elementsC : {f : Flags} {comma : Bool} {ts us : List Filled} {es : List Element} → AreElements f comma ts es us → ElementsClaim f comma ts es us
  elementsC (g.no_element h) = form.no-elements _ h
  elementsC (g.hole e es h k d) = form.a-hole _ h k (elementsC d)
  elementsC (g.last_element e a d h k) = form.last-element _ (argumentC d) h k
  elementsC (g.comma_element e a d m h k) = form.comma-element _ (argumentC d) m h k
  elementsC (g.next_element e e' es a d m k ds) = form.next-element _ (argumentC d) m k (elementsC ds)

  argumentC : {f : Flags} {ts us : List Filled} {a : Argument} → IsArgument f ts a us → ArgumentClaim f ts us a
  argumentC (g.single_argument y a d e) = single-claim _ (expressionC d).claim e
  argumentC (g.spread_argument y a h d e) = spread-claim _ h (expressionC d).claim e

  argumentsC : {f : Flags} {ts us : List Filled} {as_ : List Argument} → AreArguments f ts as_ us → ArgumentsClaim f ts as_ us
  argumentsC (g.no_argument h) = form.no-arguments _ h
  argumentsC (g.last_argument a d h) = form.some-arguments _ (more-last _ (argumentC d) h)
  argumentsC (g.next_argument a b as_ d m ds) = form.some-arguments _ (more-next _ (argumentC d) m ((argumentsC ds).more tt))

  linksC : {f : Flags} {calls : Bool} {ts us : List Filled} {ls : List Link} → AreLinks f calls ts ls us → LinksClaim f calls ts us ls
  linksC g.no_link = links-end _ _
  linksC (g.member_link n l ls h d e ds) = links-member _ h d e (linksC ds)
  linksC (g.index_link y l ls p d q e ds) = links-index _ p (expressionC d).claim q e (linksC ds)
  linksC (g.tag_link m l ls d e ds) = links-tag _ (templateC d) e (linksC ds)
  linksC (g.call_link as_ l ls p d e ds) = links-call _ p (argumentsC d).reads e (linksC ds)

  operandsC : {f : Flags} {level : ℕ} {ts us : List Filled} {os : List Operand} → level ≤ 12 → AreOperands f level ts os us → OperandsClaim f level ts os us
  operandsC h g.no_operand = no-operands _ _ _ h
  operandsC h (g.next_operand op y o os l n k d e ds) = operand-claim _ _ op l n k (expressionC d).claim e (operandsC h ds)

  partsC : {f : Flags} {ts us vs : List Filled} {first : Expression} {rest : List Expression} → Claim f 1 ts us first → AreMore f us rest vs → PartsClaim f ts first rest vs
  partsC c g.no_more_parts = last_part c
  partsC c (g.one_more_part y rest h d ds) = next_part c h (partsC (expressionC d).claim ds)

  templateC : {f : Flags} {ts us : List Filled} {m : Template} → IsTemplate f ts m us → TemplateClaim f ts m us
  templateC (g.whole_template cooked raw m h e) = whole_claim cooked raw h e
  templateC (g.parted_template cooked raw ms m h d e) = parted_claim cooked raw h e (templatePartsC d)

  templatePartsC : {f : Flags} {ts us : List Filled} {ms : List TemplatePart} → AreTemplateParts f ts ms us → Eventually (λ n k r. ReadsExactly (template_parts (R k r) f n) ms ts us)
  templatePartsC (g.last_template_part y cooked raw m d h e) = template-last _ cooked raw (expressionC d).claim h e
  templatePartsC (g.next_template_part y cooked raw m ms d h e ds) = template-next _ cooked raw (expressionC d).claim h e (templatePartsC ds)

  -- ## Object literals

  propertiesC : {f : Flags} {ts us : List Filled} {qs : List Property} → AreProperties f ts qs us → PropertiesRead f ts qs us
  propertiesC (g.no_property h) = properties-none _ h
  propertiesC (g.last_property q d h) = properties-last _ (propertyC d) h
  propertiesC (g.next_property q qs d h ds) = properties-next _ (propertyC d) h (propertiesC ds)

  propertyC : {f : Flags} {ts us : List Filled} {q : Property} → IsProperty f ts q us → PropertyClaim f ts us q
  propertyC (g.plain_property k y q d h v e) = keys.plain-claim _ (keyC d) h (expressionC v).claim e
  propertyC (g.shorthand_property n q d e) = shorthand-claim _ d e
  propertyC (g.initialized_property n y q d h v e) = objects.initialized-claim _ d h (expressionC v).claim e
  propertyC (g.method_property m q d e) = (methodC d).property q e

  keyC : {f : Flags} {ts us : List Filled} {k : Key} → IsKey f ts k us → KeyClaim f ts k us
  keyC (g.word_key word k h e) = word_claim word h e
  keyC (g.text_key units k h e) = text_claim units h e
  keyC (g.integer_key value k h e) = integer_claim value h e
  keyC (g.computed_key y k p d q e) = computed_claim p (expressionC d).claim q e

  -- ## Patterns

  assignedC : {f : Flags} {op : AssignOperator} {ts us : List Filled} {y : Pattern} → IsAssigned f op ts y us → AssignedClaim f op ts us y
  assignedC (g.assigned_pattern y d) = form.pattern-assigned _ (patternC d).read
  assignedC (g.assigned_target x y d h e) = form.itself-assigned _ d (expressionC d).claim h e
  assignedC (g.updated_target op x y h d e) = form.updated-assigned _ op h (expressionC d).claim e

  patternC : {f : Flags} {b : Bool} {ts us : List Filled} {y : Pattern} → IsPattern f b ts y us → TargetBoth b f ts us y
  patternC (g.array_pattern {f = f} es y h d e) = form.array-both _ f h (arrayC f d) e
  patternC (g.object_pattern {f = f} es y h d e) = form.object-both _ f h (objectC f d) e

  targetC : {f : Flags} {b : Bool} {ts us : List Filled} {y : Pattern} → IsTarget f b ts y us → TargetBoth b f ts us y
  targetC (g.bound_name n y d e) = form.bound-target _ d e
  targetC (g.simple_target x y d h e) = form.simple-target _ (simple-target-read _ d (expressionC d).claim h e)
  targetC (g.nested_pattern y d) = patternC d

  partC : (f : Flags) {b : Bool} {ts us : List Filled} {q : Part} → IsPart (with_in f) b ts q us → PartBoth b f ts us q
  partC f (g.part_alone y q d e) = form.alone-both _ f (targetC d) e
  partC f (g.part_with_default y value q d h v e) = form.default-both _ f d (targetC d) h (expressionC v).claim e

  arrayC : (f : Flags) {b : Bool} {ts us : List Filled} {es : List ArrayPart} → AreArrayParts (with_in f) b ts es us → ArrayBoth b f ts es us
  arrayC f (g.no_array_part h) = form.no-array-part _ f h
  arrayC f (g.skipped_part e es h k d) = form.skipped-part _ f h k (arrayC f d)
  arrayC f (g.rest_part y e h d q k) = form.rest-array-part _ f h (restC d) q k
  arrayC f (g.last_array_part q e d h k) = form.last-array-part _ f (partC f d) h k
  arrayC f (g.next_array_part q e es d h k ds) = form.next-array-part _ f (partC f d) h k (arrayC f ds)

  restC : {f : Flags} {b : Bool} {ts us : List Filled} {y : Pattern} → IsRest f b ts y us → RestBoth b f ts us y
  restC (g.bound_rest n y d e) = form.bound-rest _ d e
  restC (g.assigned_rest y d) = form.assigned-rest _ (targetC d)

  objectC : (f : Flags) {b : Bool} {ts us : List Filled} {es : List ObjectPart} → AreObjectParts (with_in f) b ts es us → ObjectBoth b f ts es us
  objectC f (g.no_object_part h) = form.no-object-part _ f h
  objectC f (g.last_object_part e d h) = form.last-object-part _ f (objectPartC f d) h
  objectC f (g.next_object_part e es d h ds) = form.next-object-part _ f (objectPartC f d) h (objectC f ds)

  objectPartC : (f : Flags) {b : Bool} {ts us : List Filled} {e : ObjectPart} → IsObjectPart (with_in f) b ts e us → PropertyBoth b f ts us e
  objectPartC f (g.named_part n e d k) = form.named-both _ f d k
  objectPartC f (g.named_part_with_default n value e d h v k) = form.named-default-both _ f d h (expressionC v).claim k
  objectPartC f (g.keyed_part k q e d h p i) = form.keyed-both _ f (keyC d) h (partC f p) i

  -- ## Functions

  parametersC : (f : Flags) {ts us : List Filled} {es : List Parameter} → AreParameters (with_in f) ts es us → ParametersBoth f ts es us
  parametersC f (g.no_parameter h) = form.no-parameter f h
  parametersC f (g.rest_parameter n e h d q k) = form.rest-parameter f h d q k
  parametersC f (g.last_parameter q e d h k) = form.last-parameter f (partC f d) h k
  parametersC f (g.next_parameter q e e' es d h k ds) = form.next-parameter f (partC f d) h k (parametersC f ds)

  arrowC : {f : Flags} {a : Filled} {ts us : List Filled} {es : List Parameter} → AreArrowParameters f ts es (a ∷ us) → IsMark marks.Arrow a → IsOnLine a → ParametersClaim f ts (a ∷ us) es
  arrowC (g.one_name n e d k) h o = name-parameter _ d k
  arrowC (g.parenthesized {f = f} es p d) h o = list-parameters f p (parametersC f d).list h o

  bodyC : {f : Flags} {ts us : List Filled} {x : ArrowBody} → IsArrowBody f ts x us → BodyClaim f ts x us
  bodyC (g.value_body y x n d e) = value_claim (left-brace _ n) (expressionC d).claim e
  bodyC (g.block_body b x d e) = block_claim (blockC d).brace (form.open-block _ (blockC d)) e

  functionC : {lacks : Bool} {ts us : List Filled} {h : Function} → IsFunction lacks ts h us → FunctionClaim lacks ts h us
  functionC (g.named_function n es body h w s d r e) = function_read w (function-named _ s d (signatureC r) e)
  functionC (g.unnamed_function es body h w s r e) = function_read w (function-unnamed s (signatureC r) e)

  signatureC : {generator : Bool} {ts us : List Filled} {es : List Parameter} {body : List Statement} → IsSignature generator ts es body us → SignatureClaim generator ts us es body
  signatureC (g.signature {generator = generator} es body p d q ss) = signature-claim generator p (parametersC (of_function generator) d).reads q (statementsC ss).reads

  getterC : {ts us : List Filled} {body : List Statement} → IsSignature false ts [] body us → AccessorClaim false ts us [] body
  getterC (g.signature es body p (g.no_parameter c) q ss) = getter-tail p c (body-reads false q (statementsC ss).reads)

  setterC : {ts us : List Filled} {e : Parameter} {body : List Statement} (q : Part) → IsSignature false ts (e ∷ []) body us → e ≡ SingleParameter q → AccessorClaim true ts us (e ∷ []) body
  setterC q (g.signature es body p (g.last_parameter q' e d h k) b ss) i = setter-tail p (parameter-claim (of_function false) ((partC (of_function false) d).bound refl)) h k (body-reads false b (statementsC ss).reads)
  setterC q (g.signature es body p (g.rest_parameter n e h d c k) b ss) i = absurd (form.no-rest e q _ _ i k)

  methodC : {f : Flags} {ts us : List Filled} {m : Method} → IsMethod f ts m us → MethodClaim f ts us m
  methodC (g.plain_method k es body m d s e) = plain-method _ (keyC d) (signatureC s) e
  methodC (g.generator_method k es body m h d s e) = generator-method _ h (keyC d) (signatureC s) e
  methodC (g.getter k body m w d s e) = accessor-method _ false w (keyC d) (getterC s) e
  methodC (g.setter k q e body m w d s i j) = accessor-method _ true w (keyC d) (setterC q s i) j

  -- ## Classes

  classC : {f : Flags} {lacks : Bool} {ts us : List Filled} {c : Class} → IsClass f lacks ts c us → ClassClaim f lacks ts c us
  classC (g.named_class n h ms c w d t e) = class_read w (class-named _ _ d (classTailC t) e)
  classC (g.unnamed_class h ms c w t e) = class_read w (class-unnamed _ (classTailC t) e)

  classTailC : {f : Flags} {ts us : List Filled} {h : Option Expression} {ms : List ClassMember} → IsClassTail f ts h ms us → ClassTailClaim f ts us h ms
  classTailC (g.base_class ms h d) = base-class _ h (membersC d)
  classTailC (g.derived_class y ms w d h ds) = derived-class _ w (expressionC d).claim h (membersC ds)

  membersC : {f : Flags} {ts us : List Filled} {ms : List ClassMember} → AreMembers f ts ms us → MembersRead f ts ms us
  membersC (g.no_member h) = members-none _ h
  membersC (g.semicolon_member ms h d) = members-semicolon _ h (membersC d)
  membersC (g.instance_member m c ms d e ds) = members-instance _ (methodC d) e (membersC ds)
  membersC (g.static_member m c ms w d e ds) = members-static _ w (methodC d) e (membersC ds)

  -- ## Statements

  statementsC : {f : Flags} {ts us : List Filled} {xs : List Statement} → AreStatements f ts xs us → StatementsClaim f ts xs us
  statementsC (g.no_statement h) = form.no-statement _ h
  statementsC (g.next_statement x xs d ds) = form.next-statement _ (listedC d) (statementsC ds)

  listedC : {f : Flags} {ts us : List Filled} {x : Statement} → IsListed f ts x us → StatementClaim f Listed ts us x
  listedC (g.listed_statement x d) = statementC Listed d
  listedC (g.listed_declaration x d) = declaration-claim _ (declarationC d)

  declarationC : {f : Flags} {ts us : List Filled} {x : Statement} → IsDeclaration f ts x us → DeclarationClaim f ts x us
  declarationC (g.function_declaration h x d e) = function-declared _ (functionC d) e
  declarationC (g.class_declaration c x d e) = class-declared _ (classC d) e
  declarationC (g.lexical_declaration kind qs x l w d h e) = lexical_claim kind l w (variables-reads _ kind (variablesC d) h e)

  variablesC : {f : Flags} {ts us : List Filled} {qs : List Part} → AreVariables f ts qs us → VariableItems f ts qs us
  variablesC (g.last_variable q d) = item_last (variableC d)
  variablesC (g.next_variable q r qs d h ds) = item_next (variableC d) h (variablesC ds)

  variableC : {f : Flags} {ts us : List Filled} {q : Part} → IsVariable f ts q us → VariableClaim f ts us q
  variableC (g.bare_variable n q d e) = bare-claim _ d e
  variableC (g.initialized_variable {f = f} y value q d h v e) = statements.initialized-claim f (form.bound-read f f refl (targetC d)) h (expressionC v).claim e

  statementC : {f : Flags} {ts us : List Filled} {x : Statement} → (stand : Stand) → IsStatement f ts x us → StatementClaim f stand ts us x
  statementC stand (g.block b x d e) = block-statement _ stand (blockC d) e
  statementC stand (g.var qs x w d h e) = var-claim _ stand w (λ k. variables-reads _ Var (variablesC d) h e)
  statementC stand (g.empty x h e) = empty-claim _ stand h e
  statementC stand (g.expression y x a b c d h e) = expression-claim _ stand a b c (expressionC d).claim h e
  statementC stand (g.if c more last x d e) = if-claim _ stand (ifC d) e
  statementC stand (g.do_while b y x w s u p d q h e) = do-claim _ stand w (λ k. do-reads _ (statementC Under s) u p (expressionC d).claim q h e)
  statementC stand (g.while y b x w p d q s e) = while-claim _ stand w (λ k. while-reads _ p (expressionC d).claim q (statementC Under s) e k)
  statementC stand (g.for first test update b x w p d t h u q s e) = for-claim _ stand w (λ k. for-reads _ p (for-header _ first (firstC d) (optionalC t) h (optionalC u) q) (statementC Under s) e k)
  statementC stand (g.for_of target y b x w p d u v q s e) = for-claim _ stand w (λ k. for-reads _ p (form.in-turn _ (turnC d) u (expressionC v).claim q) (statementC Under s) e k)
  statementC stand (g.continue label x w l h e) = continue-claim _ stand w (λ k. continue-reads (label-of l refl h) h e)
  statementC stand (g.break label x w l h e) = break-claim _ stand w (λ k. break-reads (label-of l refl h) h e)
  statementC stand (g.return_bare x r w h e) = return-claim _ stand r w (λ k. return-bare-reads _ h e)
  statementC stand (g.return_value y x r w o d h e) = return-claim _ stand r w (λ k. return-value-reads _ o (expressionC d).claim h e)
  statementC stand (g.switch y cs x w p d q b ds e) = switch-claim _ stand w (λ k. switch-reads _ p (expressionC d).claim q b (casesC ds) e)
  statementC stand (g.labelled label b x d p s e) = labelled-claim _ stand d p (statementC Labelled s) e
  statementC stand (g.labelled_function label h x d p n r e) = labelled-claim _ stand d p (function-under-label _ (functionC r) n) e
  statementC stand (g.throw y x w o d h e) = throw-claim _ stand w (λ k. throw-reads _ o (expressionC d).claim h e)
  statementC stand (g.try_catch b c x w d h e) = try-claim _ stand w (λ k. try-catch-reads _ (blockC d) (catchC h) e k)
  statementC stand (g.try_finally b last x w d u l e) = try-claim _ stand w (λ k. try-finally-reads _ (blockC d) u (blockC l) e)
  statementC stand (g.try_both b last c x w d h u l e) = try-claim _ stand w (λ k. try-both-reads _ (blockC d) (catchC h) u (blockC l) e)
  statementC stand (g.debugger x w h e) = debugger-claim _ stand w (λ k. debugger-reads h e)

  blockC : {f : Flags} {ts us : List Filled} {b : Block} → IsBlock f ts b us → BlockClaim f ts us b
  blockC (g.braces body b h ss e) = block-claim _ h (statementsC ss).reads e

  ifC : {f : Flags} {ts us : List Filled} {c : Condition} {more : List Condition} {last : Option Statement} → IsIf f ts c more last us → IfClaim f ts c more last us
  ifC (g.no_else c d n) = no-else _ (conditionC d) n
  ifC (g.last_else c s d w n e) = last-else _ (conditionC d) w n (statementC Under e)
  ifC (g.else_if c c' more last d w ds) = else-if _ (conditionC d) w (ifC ds)

  conditionC : {f : Flags} {ts us : List Filled} {c : Condition} → IsCondition f ts c us → ConditionClaim f ts us c
  conditionC (g.condition y b c w p d q s e) = condition-claim _ w p (expressionC d).claim q (statementC Under s) e

  firstC : {f : Flags} {ts us : List Filled} {x : ForFirst} → IsForFirst f ts x us → FirstRead f ts x us
  firstC (g.nothing_first x h e) = form.no-first _ h e
  firstC (g.variables_first kind qs x w d h e) = first-variables _ kind w (variablesC d) h e
  firstC (g.expression_first y x d h e) = first-expression _ (expressionC d).claim h e

  turnC : {f : Flags} {ts us : List Filled} {x : ForTarget} → IsForTarget f ts x us → TurnClaim f ts x us
  turnC (g.declared_target kind y x w d e) = form.declared-turn _ kind w (targetC d) e
  turnC (g.assigned_in_turn y x d e) = form.assigned-turn _ (assignedC d) e

  optionalC : {f : Flags} {ts us : List Filled} {o : Option Expression} → IsOptional f ts o us → OptionalClaim f ts o us
  optionalC g.absent = absent_claim
  optionalC (g.present y d) = present_claim (expressionC d).claim

  casesC : {f : Flags} {may : Bool} {ts us : List Filled} {cs : List Case} → AreCases f may ts cs us → CasesRead f may ts cs us
  casesC (g.no_case h) = cases-none _ _ h
  casesC (g.case_clause y body c cs w d h b e ds) = case-reads _ _ w (expressionC d).claim h (inCaseC b).reads (cases-begin ds) e (casesC ds)
  casesC (g.default_clause body c cs w h b e ds) = default-reads _ w h (inCaseC b).reads (cases-begin ds) e (casesC ds)

  inCaseC : {f : Flags} {ts us : List Filled} {xs : List Statement} → AreInCase f ts xs us → InCaseClaim f ts xs us
  inCaseC g.no_more_in_case = form.no-more-in-case _ _
  inCaseC (g.next_in_case x xs d ds) = form.next-in-case _ (listedC d) (inCaseC ds)

  catchC : {f : Flags} {ts us : List Filled} {c : Catch} → IsCatch f ts c us → CatchClaim f ts us c
  catchC (g.handler {f = f} y b c w p d q s e) = catch-claim f w p (form.bound-read (with_in f) (with_in f) refl (targetC d)) q (blockC s) e

pub expression-read : {f : Flags} {least : ℕ} {ts us : List Filled} {x : Expression} → IsExpression f least ts x us → Claim f least ts us x
expression-read d = (expressionC d).claim

pub listed-read : {f : Flags} {ts us : List Filled} {x : Statement} → IsListed f ts x us → StatementClaim f Listed ts us x
listed-read d = listedC d

parts-are-read : PartsAreRead
parts-are-read = record {
  expression = λ ts us x d. (expressionC d).claim;
  function = λ ts us h d. functionC d;
  class = λ ts us c d. classC d;
  declaration = λ ts us x d. declarationC d;
  statement = λ ts us x d. statementC Listed d;
  listed = λ ts us x d. listedC d;
}

pub what-is-derived-is-read : IsComplete
what-is-derived-is-read = modules-are-read parts-are-read
