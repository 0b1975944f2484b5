-- Derived by the grammar, token for token: a for-of with a pattern.
--     for (const [a, ...b] of c) a;
use Rattle.std.proofs.Common.{true, false, List, [], ◌∷◌, codes, None, refl, lit≤}
use Rattle.es6_lexer.specs.declared.token.TokenKind.TheVariants as kind
use Rattle.es6_lexer.specs.declared.token.Punctuator.TheVariants as mark
use Rattle.es6_ast.specs.declared.operators.VariableKind.TheVariants.{Const}
use Rattle.es6_ast.specs.declared.tree.Identifier.{Identifier}
use Rattle.es6_ast.specs.declared.tree.Expression.{Expression}
use Rattle.es6_ast.specs.declared.tree.Statement.{Statement}
use Rattle.es6_ast.specs.declared.tree.Pattern.{Pattern}
use Rattle.es6_ast.specs.declared.tree.ArrayPart.{ArrayPart}
use Rattle.es6_ast.specs.declared.tree.ForTarget.{ForTarget}
use Rattle.es6_ast.specs.declared.tree.Expression.TheVariants as expr
use Rattle.es6_ast.specs.declared.tree.Statement.TheVariants as stat
use Rattle.es6_ast.specs.declared.tree.Pattern.TheVariants as pattern
use Rattle.es6_ast.specs.declared.tree.ArrayPart.TheVariants.{SinglePart, RestPart}
use Rattle.es6_ast.specs.declared.tree.ForTarget.TheVariants.{Declared}
use Rattle.es6_ast.specs.declared.tree.Part.{Part}
use Rattle.es6_ast.specs.declared.tree.Part.{roll-Part}
use Rattle.es6_ast.specs.declared.module.Module.{Module}
use Rattle.es6_ast.specs.declared.module.Item.{Item}
use Rattle.es6_ast.specs.declared.module.Item.TheVariants as item
use Rattle.es6_ast.specs.declared.settings.Flags.{Flags}
use Rattle.es6_ast.specs.Tokens.{Read, Filled}
use Rattle.es6_ast.specs.Grammar.{IsName, name, IsExpression, at_level, IsNode, reference, AreLinks, no_link, IsPattern, array_pattern, IsTarget, bound_name, nested_pattern, IsPart, part_alone, AreArrayParts, rest_part, next_array_part, IsRest, bound_rest, IsListed, listed_statement, IsStatement, expression, for_of, IsForTarget, declared_target, name_target}
use Rattle.es6_ast.specs.Modules.{IsItem, statement_item, AreItems, no_item, next_item, IsModule, module_}
use Rattle.es_outside.specs.HostNames.{reserved_words}

abbrev pub flags_100 : Flags
flags_100 = record { has_in = true; has_yield = false; has_return = false }

abbrev pub for_of_token0 : Filled
for_of_token0 = record { kind = Read (kind.Word (codes "for")); span = record { begin = 0; end = 3 }; newline = false }

abbrev pub for_of_token1 : Filled
for_of_token1 = record { kind = Read (kind.Punctuator mark.LeftParenthesis); span = record { begin = 4; end = 5 }; newline = false }

abbrev pub for_of_token2 : Filled
for_of_token2 = record { kind = Read (kind.Word (codes "const")); span = record { begin = 5; end = 10 }; newline = false }

abbrev pub for_of_token3 : Filled
for_of_token3 = record { kind = Read (kind.Punctuator mark.LeftBracket); span = record { begin = 11; end = 12 }; newline = false }

abbrev pub for_of_token4 : Filled
for_of_token4 = record { kind = Read (kind.Word (codes "a")); span = record { begin = 12; end = 13 }; newline = false }

abbrev pub for_of_token5 : Filled
for_of_token5 = record { kind = Read (kind.Punctuator mark.Comma); span = record { begin = 13; end = 14 }; newline = false }

abbrev pub for_of_token6 : Filled
for_of_token6 = record { kind = Read (kind.Punctuator mark.Ellipsis); span = record { begin = 15; end = 18 }; newline = false }

abbrev pub for_of_token7 : Filled
for_of_token7 = record { kind = Read (kind.Word (codes "b")); span = record { begin = 18; end = 19 }; newline = false }

abbrev pub for_of_token8 : Filled
for_of_token8 = record { kind = Read (kind.Punctuator mark.RightBracket); span = record { begin = 19; end = 20 }; newline = false }

abbrev pub for_of_token9 : Filled
for_of_token9 = record { kind = Read (kind.Word (codes "of")); span = record { begin = 21; end = 23 }; newline = false }

abbrev pub for_of_token10 : Filled
for_of_token10 = record { kind = Read (kind.Word (codes "c")); span = record { begin = 24; end = 25 }; newline = false }

abbrev pub for_of_token11 : Filled
for_of_token11 = record { kind = Read (kind.Punctuator mark.RightParenthesis); span = record { begin = 25; end = 26 }; newline = false }

abbrev pub for_of_token12 : Filled
for_of_token12 = record { kind = Read (kind.Word (codes "a")); span = record { begin = 27; end = 28 }; newline = false }

abbrev pub for_of_token13 : Filled
for_of_token13 = record { kind = Read (kind.Punctuator mark.Semicolon); span = record { begin = 28; end = 29 }; newline = false }

abbrev pub for_of_token14 : Filled
for_of_token14 = record { kind = Read kind.End; span = record { begin = 29; end = 29 }; newline = false }

abbrev pub for_of_rest15 : List Filled
for_of_rest15 = []

abbrev pub for_of_rest14 : List Filled
for_of_rest14 = for_of_token14 ∷ for_of_rest15

abbrev pub for_of_rest13 : List Filled
for_of_rest13 = for_of_token13 ∷ for_of_rest14

abbrev pub for_of_rest12 : List Filled
for_of_rest12 = for_of_token12 ∷ for_of_rest13

abbrev pub for_of_rest11 : List Filled
for_of_rest11 = for_of_token11 ∷ for_of_rest12

abbrev pub for_of_rest10 : List Filled
for_of_rest10 = for_of_token10 ∷ for_of_rest11

abbrev pub for_of_rest9 : List Filled
for_of_rest9 = for_of_token9 ∷ for_of_rest10

abbrev pub for_of_rest8 : List Filled
for_of_rest8 = for_of_token8 ∷ for_of_rest9

abbrev pub for_of_rest7 : List Filled
for_of_rest7 = for_of_token7 ∷ for_of_rest8

abbrev pub for_of_rest6 : List Filled
for_of_rest6 = for_of_token6 ∷ for_of_rest7

abbrev pub for_of_rest5 : List Filled
for_of_rest5 = for_of_token5 ∷ for_of_rest6

abbrev pub for_of_rest4 : List Filled
for_of_rest4 = for_of_token4 ∷ for_of_rest5

abbrev pub for_of_rest3 : List Filled
for_of_rest3 = for_of_token3 ∷ for_of_rest4

abbrev pub for_of_rest2 : List Filled
for_of_rest2 = for_of_token2 ∷ for_of_rest3

abbrev pub for_of_rest1 : List Filled
for_of_rest1 = for_of_token1 ∷ for_of_rest2

abbrev pub for_of_rest0 : List Filled
for_of_rest0 = for_of_token0 ∷ for_of_rest1

abbrev pub for_of_node1 : Identifier
for_of_node1 = record { span = (record { begin = 12; end = 13 }); name = codes "a" }

for_of_step2 : IsName for_of_rest4 for_of_node1 for_of_rest5
unfolding reserved_words
for_of_step2 = name (codes "a") refl refl refl

abbrev pub for_of_node3 : Pattern
for_of_node3 = name_target for_of_node1

for_of_step4 : IsTarget flags_100 true for_of_rest4 for_of_node3 for_of_rest5
for_of_step4 = bound_name for_of_node1 for_of_node3 for_of_step2 refl

abbrev pub for_of_node5 : Part
for_of_node5 = roll-Part (record { span = (record { begin = 12; end = 13 }); pattern = for_of_node3; default = None })

for_of_step6 : IsPart flags_100 true for_of_rest4 for_of_node5 for_of_rest5
for_of_step6 = part_alone for_of_node3 for_of_node5 for_of_step4 refl

abbrev pub for_of_node7 : ArrayPart
for_of_node7 = SinglePart for_of_node5

abbrev pub for_of_node8 : Identifier
for_of_node8 = record { span = (record { begin = 18; end = 19 }); name = codes "b" }

for_of_step9 : IsName for_of_rest7 for_of_node8 for_of_rest8
unfolding reserved_words
for_of_step9 = name (codes "b") refl refl refl

abbrev pub for_of_node10 : Pattern
for_of_node10 = name_target for_of_node8

for_of_step11 : IsRest flags_100 true for_of_rest7 for_of_node10 for_of_rest8
for_of_step11 = bound_rest for_of_node8 for_of_node10 for_of_step9 refl

abbrev pub for_of_node12 : ArrayPart
for_of_node12 = RestPart (record { begin = 15; end = 19 }) for_of_node10

for_of_step13 : AreArrayParts flags_100 true for_of_rest6 (for_of_node12 ∷ []) for_of_rest9
for_of_step13 = rest_part for_of_node10 for_of_node12 refl for_of_step11 refl refl

for_of_step14 : AreArrayParts flags_100 true for_of_rest4 (for_of_node7 ∷ (for_of_node12 ∷ [])) for_of_rest9
for_of_step14 = next_array_part for_of_node5 for_of_node7 (for_of_node12 ∷ []) for_of_step6 refl refl for_of_step13

abbrev pub for_of_node15 : Pattern
for_of_node15 = pattern.ArrayPattern (record { begin = 11; end = 20 }) (for_of_node7 ∷ (for_of_node12 ∷ []))

for_of_step16 : IsPattern flags_100 true for_of_rest3 for_of_node15 for_of_rest9
for_of_step16 = array_pattern (for_of_node7 ∷ (for_of_node12 ∷ [])) for_of_node15 refl for_of_step14 refl

for_of_step17 : IsTarget flags_100 true for_of_rest3 for_of_node15 for_of_rest9
for_of_step17 = nested_pattern for_of_node15 for_of_step16

abbrev pub for_of_node18 : ForTarget
for_of_node18 = Declared (record { begin = 5; end = 20 }) Const for_of_node15

for_of_step19 : IsForTarget flags_100 for_of_rest2 for_of_node18 for_of_rest9
for_of_step19 = declared_target Const for_of_node15 for_of_node18 refl for_of_step17 refl

abbrev pub for_of_node24 : Identifier
for_of_node24 = record { span = (record { begin = 24; end = 25 }); name = codes "c" }

for_of_step25 : IsName for_of_rest10 for_of_node24 for_of_rest11
unfolding reserved_words
for_of_step25 = name (codes "c") refl refl refl

abbrev pub for_of_node26 : Expression
for_of_node26 = expr.Name (record { begin = 24; end = 25 }) (codes "c")

for_of_step27 : IsNode flags_100 19 for_of_rest10 for_of_node26 for_of_rest11
for_of_step27 = reference for_of_node24 for_of_node26 for_of_step25 refl

for_of_step28 : AreLinks flags_100 false for_of_rest11 [] for_of_rest11
for_of_step28 = no_link

for_of_step29 : IsExpression flags_100 1 for_of_rest10 for_of_node26 for_of_rest11
for_of_step29 = at_level 19 for_of_node26 (lit≤ tt) for_of_step27

abbrev pub for_of_node34 : Identifier
for_of_node34 = record { span = (record { begin = 27; end = 28 }); name = codes "a" }

for_of_step35 : IsName for_of_rest12 for_of_node34 for_of_rest13
unfolding reserved_words
for_of_step35 = name (codes "a") refl refl refl

abbrev pub for_of_node36 : Expression
for_of_node36 = expr.Name (record { begin = 27; end = 28 }) (codes "a")

for_of_step37 : IsNode flags_100 19 for_of_rest12 for_of_node36 for_of_rest13
for_of_step37 = reference for_of_node34 for_of_node36 for_of_step35 refl

for_of_step38 : AreLinks flags_100 false for_of_rest13 [] for_of_rest13
for_of_step38 = no_link

for_of_step39 : IsExpression flags_100 0 for_of_rest12 for_of_node36 for_of_rest13
for_of_step39 = at_level 19 for_of_node36 (lit≤ tt) for_of_step37

abbrev pub for_of_node40 : Statement
for_of_node40 = stat.Expression (record { begin = 27; end = 29 }) for_of_node36

for_of_step41 : IsStatement flags_100 for_of_rest12 for_of_node40 for_of_rest14
for_of_step41 = expression for_of_node36 for_of_node40 refl refl refl for_of_step39 refl refl

abbrev pub for_of_node42 : Statement
for_of_node42 = stat.ForOf (record { begin = 0; end = 29 }) for_of_node18 for_of_node26 for_of_node40

for_of_step43 : IsStatement flags_100 for_of_rest0 for_of_node42 for_of_rest14
for_of_step43 = for_of for_of_node18 for_of_node26 for_of_node40 for_of_node42 refl refl for_of_step19 refl for_of_step29 refl for_of_step41 refl

for_of_step44 : IsListed flags_100 for_of_rest0 for_of_node42 for_of_rest14
for_of_step44 = listed_statement for_of_node42 for_of_step43

abbrev pub for_of_node45 : Item
for_of_node45 = item.Statement for_of_node42

for_of_step46 : IsItem for_of_rest0 for_of_node45 for_of_rest14
for_of_step46 = statement_item for_of_node42 for_of_node45 for_of_step44 refl

for_of_step47 : AreItems for_of_rest14 [] for_of_rest14
for_of_step47 = no_item

for_of_step48 : AreItems for_of_rest0 (for_of_node45 ∷ []) for_of_rest14
for_of_step48 = next_item for_of_node45 [] for_of_step46 for_of_step47

abbrev pub for_of_node49 : Module
for_of_node49 = record { span = record { begin = 0; end = 29 }; items = (for_of_node45 ∷ []) }

-- the module
pub for_of_module : IsModule for_of_rest0 for_of_node49
for_of_module = module_ (for_of_node45 ∷ []) for_of_node49 for_of_step48 refl refl
