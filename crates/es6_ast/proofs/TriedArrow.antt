-- Derived by the grammar, token for token: a constant that is an arrow function.
--     const f = (a, b = 1) => a + b;
use Rattle.std.proofs.Common.{pos, true, false, List, [], ◌∷◌, codes, Some, None, refl, lit≤}
use Rattle.es6_lexer.specs.declared.token.TokenKind.TheVariants as kind
use Rattle.es6_lexer.specs.declared.token.NumberToken.TheVariants.{Whole}
use Rattle.es6_lexer.specs.declared.token.Punctuator.TheVariants as mark
use Rattle.es6_ast.specs.declared.operators.BinaryOperator.TheVariants as binary
use Rattle.es6_ast.specs.declared.operators.Literal.TheVariants as literals
use Rattle.es6_ast.specs.declared.operators.VariableKind.TheVariants.{Const}
use Rattle.es6_ast.specs.declared.tree.Identifier.{Identifier}
use Rattle.es6_ast.specs.declared.tree.Expression.{Expression}
use Rattle.es6_ast.specs.declared.tree.Statement.{Statement}
use Rattle.es6_ast.specs.declared.tree.Pattern.{Pattern}
use Rattle.es6_ast.specs.declared.tree.Parameter.{Parameter}
use Rattle.es6_ast.specs.declared.tree.ArrowBody.{ArrowBody}
use Rattle.es6_ast.specs.declared.tree.Expression.TheVariants as expr
use Rattle.es6_ast.specs.declared.tree.Statement.TheVariants as stat
use Rattle.es6_ast.specs.declared.tree.Parameter.TheVariants.{SingleParameter}
use Rattle.es6_ast.specs.declared.tree.ArrowBody.TheVariants.{ValueBody}
use Rattle.es6_ast.specs.declared.tree.Arrow.{Arrow}
use Rattle.es6_ast.specs.declared.tree.Operand.{Operand}
use Rattle.es6_ast.specs.declared.tree.Part.{Part}
use Rattle.es6_ast.specs.declared.tree.Arrow.{roll-Arrow}
use Rattle.es6_ast.specs.declared.tree.Operand.{roll-Operand}
use Rattle.es6_ast.specs.declared.tree.Part.{roll-Part}
use Rattle.es6_ast.specs.declared.module.Module.{Module}
use Rattle.es6_ast.specs.declared.module.Item.{Item}
use Rattle.es6_ast.specs.declared.module.Item.TheVariants as item
use Rattle.es6_ast.specs.declared.settings.Flags.{Flags}
use Rattle.es6_ast.specs.Tokens.{Read, Filled}
use Rattle.es6_ast.specs.Grammar.{IsName, name, IsExpression, at_level, IsNode, reference, literal, binary_chain, arrow, AreLinks, no_link, AreOperands, no_operand, next_operand, IsTarget, bound_name, IsPart, part_alone, part_with_default, AreParameters, last_parameter, next_parameter, AreArrowParameters, parenthesized, IsArrowBody, value_body, IsListed, listed_declaration, IsDeclaration, lexical_declaration, AreVariables, last_variable, IsVariable, initialized_variable, name_target}
use Rattle.es6_ast.specs.Modules.{IsItem, statement_item, AreItems, no_item, next_item, IsModule, module_}
use Rattle.es_outside.specs.HostNames.{reserved_words}

abbrev pub flags_100 : Flags
flags_100 = record { has_in = true; has_yield = false; has_return = false }

abbrev pub arrow_token0 : Filled
arrow_token0 = record { kind = Read (kind.Word (codes "const")); span = record { begin = 0; end = 5 }; newline = false }

abbrev pub arrow_token1 : Filled
arrow_token1 = record { kind = Read (kind.Word (codes "f")); span = record { begin = 6; end = 7 }; newline = false }

abbrev pub arrow_token2 : Filled
arrow_token2 = record { kind = Read (kind.Punctuator mark.Assign); span = record { begin = 8; end = 9 }; newline = false }

abbrev pub arrow_token3 : Filled
arrow_token3 = record { kind = Read (kind.Punctuator mark.LeftParenthesis); span = record { begin = 10; end = 11 }; newline = false }

abbrev pub arrow_token4 : Filled
arrow_token4 = record { kind = Read (kind.Word (codes "a")); span = record { begin = 11; end = 12 }; newline = false }

abbrev pub arrow_token5 : Filled
arrow_token5 = record { kind = Read (kind.Punctuator mark.Comma); span = record { begin = 12; end = 13 }; newline = false }

abbrev pub arrow_token6 : Filled
arrow_token6 = record { kind = Read (kind.Word (codes "b")); span = record { begin = 14; end = 15 }; newline = false }

abbrev pub arrow_token7 : Filled
arrow_token7 = record { kind = Read (kind.Punctuator mark.Assign); span = record { begin = 16; end = 17 }; newline = false }

abbrev pub arrow_token8 : Filled
arrow_token8 = record { kind = Read (kind.Number (Whole (pos 1))); span = record { begin = 18; end = 19 }; newline = false }

abbrev pub arrow_token9 : Filled
arrow_token9 = record { kind = Read (kind.Punctuator mark.RightParenthesis); span = record { begin = 19; end = 20 }; newline = false }

abbrev pub arrow_token10 : Filled
arrow_token10 = record { kind = Read (kind.Punctuator mark.Arrow); span = record { begin = 21; end = 23 }; newline = false }

abbrev pub arrow_token11 : Filled
arrow_token11 = record { kind = Read (kind.Word (codes "a")); span = record { begin = 24; end = 25 }; newline = false }

abbrev pub arrow_token12 : Filled
arrow_token12 = record { kind = Read (kind.Punctuator mark.Plus); span = record { begin = 26; end = 27 }; newline = false }

abbrev pub arrow_token13 : Filled
arrow_token13 = record { kind = Read (kind.Word (codes "b")); span = record { begin = 28; end = 29 }; newline = false }

abbrev pub arrow_token14 : Filled
arrow_token14 = record { kind = Read (kind.Punctuator mark.Semicolon); span = record { begin = 29; end = 30 }; newline = false }

abbrev pub arrow_token15 : Filled
arrow_token15 = record { kind = Read kind.End; span = record { begin = 30; end = 30 }; newline = false }

abbrev pub arrow_rest16 : List Filled
arrow_rest16 = []

abbrev pub arrow_rest15 : List Filled
arrow_rest15 = arrow_token15 ∷ arrow_rest16

abbrev pub arrow_rest14 : List Filled
arrow_rest14 = arrow_token14 ∷ arrow_rest15

abbrev pub arrow_rest13 : List Filled
arrow_rest13 = arrow_token13 ∷ arrow_rest14

abbrev pub arrow_rest12 : List Filled
arrow_rest12 = arrow_token12 ∷ arrow_rest13

abbrev pub arrow_rest11 : List Filled
arrow_rest11 = arrow_token11 ∷ arrow_rest12

abbrev pub arrow_rest10 : List Filled
arrow_rest10 = arrow_token10 ∷ arrow_rest11

abbrev pub arrow_rest9 : List Filled
arrow_rest9 = arrow_token9 ∷ arrow_rest10

abbrev pub arrow_rest8 : List Filled
arrow_rest8 = arrow_token8 ∷ arrow_rest9

abbrev pub arrow_rest7 : List Filled
arrow_rest7 = arrow_token7 ∷ arrow_rest8

abbrev pub arrow_rest6 : List Filled
arrow_rest6 = arrow_token6 ∷ arrow_rest7

abbrev pub arrow_rest5 : List Filled
arrow_rest5 = arrow_token5 ∷ arrow_rest6

abbrev pub arrow_rest4 : List Filled
arrow_rest4 = arrow_token4 ∷ arrow_rest5

abbrev pub arrow_rest3 : List Filled
arrow_rest3 = arrow_token3 ∷ arrow_rest4

abbrev pub arrow_rest2 : List Filled
arrow_rest2 = arrow_token2 ∷ arrow_rest3

abbrev pub arrow_rest1 : List Filled
arrow_rest1 = arrow_token1 ∷ arrow_rest2

abbrev pub arrow_rest0 : List Filled
arrow_rest0 = arrow_token0 ∷ arrow_rest1

abbrev pub arrow_node1 : Identifier
arrow_node1 = record { span = (record { begin = 6; end = 7 }); name = codes "f" }

arrow_step2 : IsName arrow_rest1 arrow_node1 arrow_rest2
unfolding reserved_words
arrow_step2 = name (codes "f") refl refl refl

abbrev pub arrow_node3 : Pattern
arrow_node3 = name_target arrow_node1

arrow_step4 : IsTarget flags_100 true arrow_rest1 arrow_node3 arrow_rest2
arrow_step4 = bound_name arrow_node1 arrow_node3 arrow_step2 refl

abbrev pub arrow_node5 : Identifier
arrow_node5 = record { span = (record { begin = 11; end = 12 }); name = codes "a" }

arrow_step6 : IsName arrow_rest4 arrow_node5 arrow_rest5
unfolding reserved_words
arrow_step6 = name (codes "a") refl refl refl

abbrev pub arrow_node7 : Pattern
arrow_node7 = name_target arrow_node5

arrow_step8 : IsTarget flags_100 true arrow_rest4 arrow_node7 arrow_rest5
arrow_step8 = bound_name arrow_node5 arrow_node7 arrow_step6 refl

abbrev pub arrow_node9 : Part
arrow_node9 = roll-Part (record { span = (record { begin = 11; end = 12 }); pattern = arrow_node7; default = None })

arrow_step10 : IsPart flags_100 true arrow_rest4 arrow_node9 arrow_rest5
arrow_step10 = part_alone arrow_node7 arrow_node9 arrow_step8 refl

abbrev pub arrow_node11 : Parameter
arrow_node11 = SingleParameter arrow_node9

abbrev pub arrow_node12 : Identifier
arrow_node12 = record { span = (record { begin = 14; end = 15 }); name = codes "b" }

arrow_step13 : IsName arrow_rest6 arrow_node12 arrow_rest7
unfolding reserved_words
arrow_step13 = name (codes "b") refl refl refl

abbrev pub arrow_node14 : Pattern
arrow_node14 = name_target arrow_node12

arrow_step15 : IsTarget flags_100 true arrow_rest6 arrow_node14 arrow_rest7
arrow_step15 = bound_name arrow_node12 arrow_node14 arrow_step13 refl

abbrev pub arrow_node16 : Expression
arrow_node16 = expr.Literal (record { begin = 18; end = 19 }) (literals.Integer (pos 1))

arrow_step17 : IsNode flags_100 19 arrow_rest8 arrow_node16 arrow_rest9
arrow_step17 = literal (literals.Integer (pos 1)) arrow_node16 refl refl

arrow_step18 : AreLinks flags_100 false arrow_rest9 [] arrow_rest9
arrow_step18 = no_link

arrow_step19 : IsExpression flags_100 1 arrow_rest8 arrow_node16 arrow_rest9
arrow_step19 = at_level 19 arrow_node16 (lit≤ tt) arrow_step17

abbrev pub arrow_node20 : Part
arrow_node20 = roll-Part (record { span = (record { begin = 14; end = 19 }); pattern = arrow_node14; default = Some arrow_node16 })

arrow_step21 : IsPart flags_100 true arrow_rest6 arrow_node20 arrow_rest9
arrow_step21 = part_with_default arrow_node14 arrow_node16 arrow_node20 arrow_step15 refl arrow_step19 refl

abbrev pub arrow_node22 : Parameter
arrow_node22 = SingleParameter arrow_node20

arrow_step23 : AreParameters flags_100 arrow_rest6 (arrow_node22 ∷ []) arrow_rest10
arrow_step23 = last_parameter arrow_node20 arrow_node22 arrow_step21 refl refl

arrow_step24 : AreParameters flags_100 arrow_rest4 (arrow_node11 ∷ (arrow_node22 ∷ [])) arrow_rest10
arrow_step24 = next_parameter arrow_node9 arrow_node11 arrow_node22 [] arrow_step10 refl refl arrow_step23

arrow_step25 : AreArrowParameters flags_100 arrow_rest3 (arrow_node11 ∷ (arrow_node22 ∷ [])) arrow_rest10
arrow_step25 = parenthesized (arrow_node11 ∷ (arrow_node22 ∷ [])) refl arrow_step24

abbrev pub arrow_node30 : Identifier
arrow_node30 = record { span = (record { begin = 24; end = 25 }); name = codes "a" }

arrow_step31 : IsName arrow_rest11 arrow_node30 arrow_rest12
unfolding reserved_words
arrow_step31 = name (codes "a") refl refl refl

abbrev pub arrow_node32 : Expression
arrow_node32 = expr.Name (record { begin = 24; end = 25 }) (codes "a")

arrow_step33 : IsNode flags_100 19 arrow_rest11 arrow_node32 arrow_rest12
arrow_step33 = reference arrow_node30 arrow_node32 arrow_step31 refl

arrow_step34 : AreLinks flags_100 false arrow_rest12 [] arrow_rest12
arrow_step34 = no_link

arrow_step35 : IsExpression flags_100 12 arrow_rest11 arrow_node32 arrow_rest12
arrow_step35 = at_level 19 arrow_node32 (lit≤ tt) arrow_step33

abbrev pub arrow_node36 : Identifier
arrow_node36 = record { span = (record { begin = 28; end = 29 }); name = codes "b" }

arrow_step37 : IsName arrow_rest13 arrow_node36 arrow_rest14
unfolding reserved_words
arrow_step37 = name (codes "b") refl refl refl

abbrev pub arrow_node38 : Expression
arrow_node38 = expr.Name (record { begin = 28; end = 29 }) (codes "b")

arrow_step39 : IsNode flags_100 19 arrow_rest13 arrow_node38 arrow_rest14
arrow_step39 = reference arrow_node36 arrow_node38 arrow_step37 refl

arrow_step40 : AreLinks flags_100 false arrow_rest14 [] arrow_rest14
arrow_step40 = no_link

arrow_step41 : IsExpression flags_100 12 arrow_rest13 arrow_node38 arrow_rest14
arrow_step41 = at_level 19 arrow_node38 (lit≤ tt) arrow_step39

arrow_step42 : AreOperands flags_100 11 arrow_rest14 [] arrow_rest14
arrow_step42 = no_operand

abbrev pub arrow_node43 : Operand
arrow_node43 = roll-Operand (record { operator = binary.Add; value = arrow_node38 })

arrow_step44 : AreOperands flags_100 11 arrow_rest12 (arrow_node43 ∷ []) arrow_rest14
arrow_step44 = next_operand binary.Add arrow_node38 arrow_node43 [] refl refl refl arrow_step41 refl arrow_step42

abbrev pub arrow_node45 : Expression
arrow_node45 = expr.Binary (record { begin = 24; end = 29 }) arrow_node32 (arrow_node43 ∷ [])

arrow_step46 : IsNode flags_100 11 arrow_rest11 arrow_node45 arrow_rest14
arrow_step46 = binary_chain arrow_node32 arrow_node43 [] arrow_node45 arrow_step35 arrow_step44 refl

arrow_step47 : IsExpression flags_100 1 arrow_rest11 arrow_node45 arrow_rest14
arrow_step47 = at_level 11 arrow_node45 (lit≤ tt) arrow_step46

abbrev pub arrow_node48 : ArrowBody
arrow_node48 = ValueBody arrow_node45

arrow_step49 : IsArrowBody flags_100 arrow_rest11 arrow_node48 arrow_rest14
arrow_step49 = value_body arrow_node45 arrow_node48 refl arrow_step47 refl

abbrev pub arrow_node50 : Arrow
arrow_node50 = roll-Arrow (record { span = (record { begin = 10; end = 29 }); parameters = (arrow_node11 ∷ (arrow_node22 ∷ [])); body = arrow_node48 })

abbrev pub arrow_node51 : Expression
arrow_node51 = expr.Arrow arrow_node50

arrow_step52 : IsNode flags_100 1 arrow_rest3 arrow_node51 arrow_rest14
arrow_step52 = arrow (arrow_node11 ∷ (arrow_node22 ∷ [])) arrow_node48 arrow_node51 arrow_step25 refl refl arrow_step49 refl

arrow_step53 : IsExpression flags_100 1 arrow_rest3 arrow_node51 arrow_rest14
arrow_step53 = at_level 1 arrow_node51 (lit≤ tt) arrow_step52

abbrev pub arrow_node54 : Part
arrow_node54 = roll-Part (record { span = (record { begin = 6; end = 29 }); pattern = arrow_node3; default = Some arrow_node51 })

arrow_step55 : IsVariable flags_100 arrow_rest1 arrow_node54 arrow_rest14
arrow_step55 = initialized_variable arrow_node3 arrow_node51 arrow_node54 arrow_step4 refl arrow_step53 refl

arrow_step56 : AreVariables flags_100 arrow_rest1 (arrow_node54 ∷ []) arrow_rest14
arrow_step56 = last_variable arrow_node54 arrow_step55

abbrev pub arrow_node57 : Statement
arrow_node57 = stat.Variables (record { begin = 0; end = 30 }) Const (arrow_node54 ∷ [])

arrow_step58 : IsDeclaration flags_100 arrow_rest0 arrow_node57 arrow_rest15
arrow_step58 = lexical_declaration Const (arrow_node54 ∷ []) arrow_node57 refl refl arrow_step56 refl refl

arrow_step59 : IsListed flags_100 arrow_rest0 arrow_node57 arrow_rest15
arrow_step59 = listed_declaration arrow_node57 arrow_step58

abbrev pub arrow_node60 : Item
arrow_node60 = item.Statement arrow_node57

arrow_step61 : IsItem arrow_rest0 arrow_node60 arrow_rest15
arrow_step61 = statement_item arrow_node57 arrow_node60 arrow_step59 refl

arrow_step62 : AreItems arrow_rest15 [] arrow_rest15
arrow_step62 = no_item

arrow_step63 : AreItems arrow_rest0 (arrow_node60 ∷ []) arrow_rest15
arrow_step63 = next_item arrow_node60 [] arrow_step61 arrow_step62

abbrev pub arrow_node64 : Module
arrow_node64 = record { span = record { begin = 0; end = 30 }; items = (arrow_node60 ∷ []) }

-- the module
pub arrow_module : IsModule arrow_rest0 arrow_node64
arrow_module = module_ (arrow_node60 ∷ []) arrow_node64 arrow_step63 refl refl
