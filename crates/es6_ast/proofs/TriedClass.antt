-- Derived by the grammar, token for token: a class with a generator method.
--     class A { *g(k) { yield k; } }
use Rattle.std.proofs.Common.{true, false, List, [], ◌∷◌, codes, Some, None, refl, lit≤}
use Rattle.es6_lexer.specs.declared.token.TokenKind.TheVariants as kind
use Rattle.es6_lexer.specs.declared.token.Punctuator.TheVariants as mark
use Rattle.es6_ast.specs.declared.operators.MethodKind.TheVariants.{GeneratorMethod}
use Rattle.es6_ast.specs.declared.tree.Identifier.{Identifier}
use Rattle.es6_ast.specs.declared.tree.Expression.{Expression}
use Rattle.es6_ast.specs.declared.tree.Statement.{Statement}
use Rattle.es6_ast.specs.declared.tree.Pattern.{Pattern}
use Rattle.es6_ast.specs.declared.tree.Parameter.{Parameter}
use Rattle.es6_ast.specs.declared.tree.Key.{Key}
use Rattle.es6_ast.specs.declared.tree.Expression.TheVariants as expr
use Rattle.es6_ast.specs.declared.tree.Statement.TheVariants as stat
use Rattle.es6_ast.specs.declared.tree.Parameter.TheVariants.{SingleParameter}
use Rattle.es6_ast.specs.declared.tree.Key.TheVariants.{WordKey}
use Rattle.es6_ast.specs.declared.tree.Class.{Class}
use Rattle.es6_ast.specs.declared.tree.ClassMember.{ClassMember}
use Rattle.es6_ast.specs.declared.tree.Method.{Method}
use Rattle.es6_ast.specs.declared.tree.Part.{Part}
use Rattle.es6_ast.specs.declared.tree.Class.{roll-Class}
use Rattle.es6_ast.specs.declared.tree.ClassMember.{roll-ClassMember}
use Rattle.es6_ast.specs.declared.tree.Part.{roll-Part}
use Rattle.es6_ast.specs.declared.module.Module.{Module}
use Rattle.es6_ast.specs.declared.module.Item.{Item}
use Rattle.es6_ast.specs.declared.module.Item.TheVariants as item
use Rattle.es6_ast.specs.declared.settings.Flags.{Flags}
use Rattle.es6_ast.specs.Tokens.{Read, Filled}
use Rattle.es6_ast.specs.Grammar.{IsName, name, IsExpression, at_level, IsNode, reference, yield_value, AreLinks, no_link, IsKey, word_key, IsTarget, bound_name, IsPart, part_alone, AreParameters, last_parameter, IsSignature, signature, IsMethod, generator_method, IsClass, named_class, IsClassTail, base_class, AreMembers, no_member, instance_member, AreStatements, no_statement, next_statement, IsListed, listed_statement, listed_declaration, IsDeclaration, class_declaration, IsStatement, expression, name_target, method_of}
use Rattle.es6_ast.specs.Modules.{IsItem, statement_item, AreItems, no_item, next_item, IsModule, module_}
use Rattle.es_outside.specs.HostNames.{reserved_words}

abbrev pub flags_100 : Flags
flags_100 = record { has_in = true; has_yield = false; has_return = false }

abbrev pub flags_111 : Flags
flags_111 = record { has_in = true; has_yield = true; has_return = true }

abbrev pub class_token0 : Filled
class_token0 = record { kind = Read (kind.Word (codes "class")); span = record { begin = 0; end = 5 }; newline = false }

abbrev pub class_token1 : Filled
class_token1 = record { kind = Read (kind.Word (codes "A")); span = record { begin = 6; end = 7 }; newline = false }

abbrev pub class_token2 : Filled
class_token2 = record { kind = Read (kind.Punctuator mark.LeftBrace); span = record { begin = 8; end = 9 }; newline = false }

abbrev pub class_token3 : Filled
class_token3 = record { kind = Read (kind.Punctuator mark.Star); span = record { begin = 10; end = 11 }; newline = false }

abbrev pub class_token4 : Filled
class_token4 = record { kind = Read (kind.Word (codes "g")); span = record { begin = 11; end = 12 }; newline = false }

abbrev pub class_token5 : Filled
class_token5 = record { kind = Read (kind.Punctuator mark.LeftParenthesis); span = record { begin = 12; end = 13 }; newline = false }

abbrev pub class_token6 : Filled
class_token6 = record { kind = Read (kind.Word (codes "k")); span = record { begin = 13; end = 14 }; newline = false }

abbrev pub class_token7 : Filled
class_token7 = record { kind = Read (kind.Punctuator mark.RightParenthesis); span = record { begin = 14; end = 15 }; newline = false }

abbrev pub class_token8 : Filled
class_token8 = record { kind = Read (kind.Punctuator mark.LeftBrace); span = record { begin = 16; end = 17 }; newline = false }

abbrev pub class_token9 : Filled
class_token9 = record { kind = Read (kind.Word (codes "yield")); span = record { begin = 18; end = 23 }; newline = false }

abbrev pub class_token10 : Filled
class_token10 = record { kind = Read (kind.Word (codes "k")); span = record { begin = 24; end = 25 }; newline = false }

abbrev pub class_token11 : Filled
class_token11 = record { kind = Read (kind.Punctuator mark.Semicolon); span = record { begin = 25; end = 26 }; newline = false }

abbrev pub class_token12 : Filled
class_token12 = record { kind = Read (kind.Punctuator mark.RightBrace); span = record { begin = 27; end = 28 }; newline = false }

abbrev pub class_token13 : Filled
class_token13 = record { kind = Read (kind.Punctuator mark.RightBrace); span = record { begin = 29; end = 30 }; newline = false }

abbrev pub class_token14 : Filled
class_token14 = record { kind = Read kind.End; span = record { begin = 30; end = 30 }; newline = false }

abbrev pub class_rest15 : List Filled
class_rest15 = []

abbrev pub class_rest14 : List Filled
class_rest14 = class_token14 ∷ class_rest15

abbrev pub class_rest13 : List Filled
class_rest13 = class_token13 ∷ class_rest14

abbrev pub class_rest12 : List Filled
class_rest12 = class_token12 ∷ class_rest13

abbrev pub class_rest11 : List Filled
class_rest11 = class_token11 ∷ class_rest12

abbrev pub class_rest10 : List Filled
class_rest10 = class_token10 ∷ class_rest11

abbrev pub class_rest9 : List Filled
class_rest9 = class_token9 ∷ class_rest10

abbrev pub class_rest8 : List Filled
class_rest8 = class_token8 ∷ class_rest9

abbrev pub class_rest7 : List Filled
class_rest7 = class_token7 ∷ class_rest8

abbrev pub class_rest6 : List Filled
class_rest6 = class_token6 ∷ class_rest7

abbrev pub class_rest5 : List Filled
class_rest5 = class_token5 ∷ class_rest6

abbrev pub class_rest4 : List Filled
class_rest4 = class_token4 ∷ class_rest5

abbrev pub class_rest3 : List Filled
class_rest3 = class_token3 ∷ class_rest4

abbrev pub class_rest2 : List Filled
class_rest2 = class_token2 ∷ class_rest3

abbrev pub class_rest1 : List Filled
class_rest1 = class_token1 ∷ class_rest2

abbrev pub class_rest0 : List Filled
class_rest0 = class_token0 ∷ class_rest1

abbrev pub class_node1 : Identifier
class_node1 = record { span = (record { begin = 6; end = 7 }); name = codes "A" }

class_step2 : IsName class_rest1 class_node1 class_rest2
unfolding reserved_words
class_step2 = name (codes "A") refl refl refl

abbrev pub class_node3 : Key
class_node3 = WordKey (record { begin = 11; end = 12 }) (codes "g")

class_step4 : IsKey flags_100 class_rest4 class_node3 class_rest5
class_step4 = word_key (codes "g") class_node3 refl refl

abbrev pub class_node5 : Identifier
class_node5 = record { span = (record { begin = 13; end = 14 }); name = codes "k" }

class_step6 : IsName class_rest6 class_node5 class_rest7
unfolding reserved_words
class_step6 = name (codes "k") refl refl refl

abbrev pub class_node7 : Pattern
class_node7 = name_target class_node5

class_step8 : IsTarget flags_111 true class_rest6 class_node7 class_rest7
class_step8 = bound_name class_node5 class_node7 class_step6 refl

abbrev pub class_node9 : Part
class_node9 = roll-Part (record { span = (record { begin = 13; end = 14 }); pattern = class_node7; default = None })

class_step10 : IsPart flags_111 true class_rest6 class_node9 class_rest7
class_step10 = part_alone class_node7 class_node9 class_step8 refl

abbrev pub class_node11 : Parameter
class_node11 = SingleParameter class_node9

class_step12 : AreParameters flags_111 class_rest6 (class_node11 ∷ []) class_rest8
class_step12 = last_parameter class_node9 class_node11 class_step10 refl refl

abbrev pub class_node17 : Identifier
class_node17 = record { span = (record { begin = 24; end = 25 }); name = codes "k" }

class_step18 : IsName class_rest10 class_node17 class_rest11
unfolding reserved_words
class_step18 = name (codes "k") refl refl refl

abbrev pub class_node19 : Expression
class_node19 = expr.Name (record { begin = 24; end = 25 }) (codes "k")

class_step20 : IsNode flags_111 19 class_rest10 class_node19 class_rest11
class_step20 = reference class_node17 class_node19 class_step18 refl

class_step21 : AreLinks flags_111 false class_rest11 [] class_rest11
class_step21 = no_link

class_step22 : IsExpression flags_111 1 class_rest10 class_node19 class_rest11
class_step22 = at_level 19 class_node19 (lit≤ tt) class_step20

abbrev pub class_node23 : Expression
class_node23 = expr.Yield (record { begin = 18; end = 25 }) (Some class_node19)

class_step24 : IsNode flags_111 1 class_rest9 class_node23 class_rest11
class_step24 = yield_value class_node19 class_node23 refl refl refl class_step22 refl

class_step25 : IsExpression flags_111 0 class_rest9 class_node23 class_rest11
class_step25 = at_level 1 class_node23 (lit≤ tt) class_step24

abbrev pub class_node26 : Statement
class_node26 = stat.Expression (record { begin = 18; end = 26 }) class_node23

class_step27 : IsStatement flags_111 class_rest9 class_node26 class_rest12
class_step27 = expression class_node23 class_node26 refl refl refl class_step25 refl refl

class_step28 : IsListed flags_111 class_rest9 class_node26 class_rest12
class_step28 = listed_statement class_node26 class_step27

class_step29 : AreStatements flags_111 class_rest12 [] class_rest13
class_step29 = no_statement refl

class_step30 : AreStatements flags_111 class_rest9 (class_node26 ∷ []) class_rest13
class_step30 = next_statement class_node26 [] class_step28 class_step29

class_step31 : IsSignature true class_rest5 (class_node11 ∷ []) (class_node26 ∷ []) class_rest13
class_step31 = signature (class_node11 ∷ []) (class_node26 ∷ []) refl class_step12 refl class_step30

abbrev pub class_node32 : Method
class_node32 = method_of (record { begin = 10; end = 28 }) GeneratorMethod class_node3 (record { begin = 12; end = 28 }) (class_node11 ∷ []) (class_node26 ∷ [])

class_step33 : IsMethod flags_100 class_rest3 class_node32 class_rest13
class_step33 = generator_method class_node3 (class_node11 ∷ []) (class_node26 ∷ []) class_node32 refl class_step4 class_step31 refl

abbrev pub class_node34 : ClassMember
class_node34 = roll-ClassMember (record { span = (record { begin = 10; end = 28 }); is_static = false; method = class_node32 })

class_step35 : AreMembers flags_100 class_rest13 [] class_rest14
class_step35 = no_member refl

class_step36 : AreMembers flags_100 class_rest3 (class_node34 ∷ []) class_rest14
class_step36 = instance_member class_node32 class_node34 [] class_step33 refl class_step35

class_step37 : IsClassTail flags_100 class_rest2 None (class_node34 ∷ []) class_rest14
class_step37 = base_class (class_node34 ∷ []) refl class_step36

abbrev pub class_node38 : Class
class_node38 = roll-Class (record { span = (record { begin = 0; end = 30 }); name = Some class_node1; heritage = None; members = (class_node34 ∷ []) })

class_step39 : IsClass flags_100 false class_rest0 class_node38 class_rest14
class_step39 = named_class class_node1 None (class_node34 ∷ []) class_node38 refl class_step2 class_step37 refl

abbrev pub class_node40 : Statement
class_node40 = stat.ClassDeclaration class_node38

class_step41 : IsDeclaration flags_100 class_rest0 class_node40 class_rest14
class_step41 = class_declaration class_node38 class_node40 class_step39 refl

class_step42 : IsListed flags_100 class_rest0 class_node40 class_rest14
class_step42 = listed_declaration class_node40 class_step41

abbrev pub class_node43 : Item
class_node43 = item.Statement class_node40

class_step44 : IsItem class_rest0 class_node43 class_rest14
class_step44 = statement_item class_node40 class_node43 class_step42 refl

class_step45 : AreItems class_rest14 [] class_rest14
class_step45 = no_item

class_step46 : AreItems class_rest0 (class_node43 ∷ []) class_rest14
class_step46 = next_item class_node43 [] class_step44 class_step45

abbrev pub class_node47 : Module
class_node47 = record { span = record { begin = 0; end = 30 }; items = (class_node43 ∷ []) }

-- the module
pub class_module : IsModule class_rest0 class_node47
class_module = module_ (class_node43 ∷ []) class_node47 class_step46 refl refl
