-- Derived by the grammar, token for token: a do-while, a line terminator and the end, where semicolons are inserted.
--     do ; while (a) b  c
use Rattle.std.proofs.Common.{true, false, List, [], ◌∷◌, codes, refl, lit≤}
use Rattle.es6_lexer.specs.declared.token.TokenKind.TheVariants as kind
use Rattle.es6_lexer.specs.declared.token.Punctuator.TheVariants as mark
use Rattle.es6_ast.specs.declared.tree.Identifier.{Identifier}
use Rattle.es6_ast.specs.declared.tree.Expression.{Expression}
use Rattle.es6_ast.specs.declared.tree.Statement.{Statement}
use Rattle.es6_ast.specs.declared.tree.Expression.TheVariants as expr
use Rattle.es6_ast.specs.declared.tree.Statement.TheVariants as stat
use Rattle.es6_ast.specs.declared.module.Module.{Module}
use Rattle.es6_ast.specs.declared.module.Item.{Item}
use Rattle.es6_ast.specs.declared.module.Item.TheVariants as item
use Rattle.es6_ast.specs.declared.settings.Flags.{Flags}
use Rattle.es6_ast.specs.Tokens.{Read, Inserted, Filled}
use Rattle.es6_ast.specs.Grammar.{IsName, name, IsExpression, at_level, IsNode, reference, AreLinks, no_link, IsListed, listed_statement, IsStatement, empty, expression, do_while}
use Rattle.es6_ast.specs.Modules.{IsItem, statement_item, AreItems, no_item, next_item, IsModule, module_}
use Rattle.es_outside.specs.HostNames.{reserved_words}

abbrev pub flags_100 : Flags
flags_100 = record { has_in = true; has_yield = false; has_return = false }

abbrev pub inserted_token0 : Filled
inserted_token0 = record { kind = Read (kind.Word (codes "do")); span = record { begin = 0; end = 2 }; newline = false }

abbrev pub inserted_token1 : Filled
inserted_token1 = record { kind = Read (kind.Punctuator mark.Semicolon); span = record { begin = 3; end = 4 }; newline = false }

abbrev pub inserted_token2 : Filled
inserted_token2 = record { kind = Read (kind.Word (codes "while")); span = record { begin = 5; end = 10 }; newline = false }

abbrev pub inserted_token3 : Filled
inserted_token3 = record { kind = Read (kind.Punctuator mark.LeftParenthesis); span = record { begin = 11; end = 12 }; newline = false }

abbrev pub inserted_token4 : Filled
inserted_token4 = record { kind = Read (kind.Word (codes "a")); span = record { begin = 12; end = 13 }; newline = false }

abbrev pub inserted_token5 : Filled
inserted_token5 = record { kind = Read (kind.Punctuator mark.RightParenthesis); span = record { begin = 13; end = 14 }; newline = false }

abbrev pub inserted_token6 : Filled
inserted_token6 = record { kind = Inserted true; span = record { begin = 14; end = 14 }; newline = false }

abbrev pub inserted_token7 : Filled
inserted_token7 = record { kind = Read (kind.Word (codes "b")); span = record { begin = 17; end = 18 }; newline = false }

abbrev pub inserted_token8 : Filled
inserted_token8 = record { kind = Inserted false; span = record { begin = 18; end = 18 }; newline = false }

abbrev pub inserted_token9 : Filled
inserted_token9 = record { kind = Read (kind.Word (codes "c")); span = record { begin = 20; end = 21 }; newline = true }

abbrev pub inserted_token10 : Filled
inserted_token10 = record { kind = Inserted false; span = record { begin = 21; end = 21 }; newline = false }

abbrev pub inserted_token11 : Filled
inserted_token11 = record { kind = Read kind.End; span = record { begin = 22; end = 22 }; newline = false }

abbrev pub inserted_rest12 : List Filled
inserted_rest12 = []

abbrev pub inserted_rest11 : List Filled
inserted_rest11 = inserted_token11 ∷ inserted_rest12

abbrev pub inserted_rest10 : List Filled
inserted_rest10 = inserted_token10 ∷ inserted_rest11

abbrev pub inserted_rest9 : List Filled
inserted_rest9 = inserted_token9 ∷ inserted_rest10

abbrev pub inserted_rest8 : List Filled
inserted_rest8 = inserted_token8 ∷ inserted_rest9

abbrev pub inserted_rest7 : List Filled
inserted_rest7 = inserted_token7 ∷ inserted_rest8

abbrev pub inserted_rest6 : List Filled
inserted_rest6 = inserted_token6 ∷ inserted_rest7

abbrev pub inserted_rest5 : List Filled
inserted_rest5 = inserted_token5 ∷ inserted_rest6

abbrev pub inserted_rest4 : List Filled
inserted_rest4 = inserted_token4 ∷ inserted_rest5

abbrev pub inserted_rest3 : List Filled
inserted_rest3 = inserted_token3 ∷ inserted_rest4

abbrev pub inserted_rest2 : List Filled
inserted_rest2 = inserted_token2 ∷ inserted_rest3

abbrev pub inserted_rest1 : List Filled
inserted_rest1 = inserted_token1 ∷ inserted_rest2

abbrev pub inserted_rest0 : List Filled
inserted_rest0 = inserted_token0 ∷ inserted_rest1

abbrev pub inserted_node1 : Statement
inserted_node1 = stat.Empty (record { begin = 3; end = 4 })

inserted_step2 : IsStatement flags_100 inserted_rest1 inserted_node1 inserted_rest2
inserted_step2 = empty inserted_node1 refl refl

abbrev pub inserted_node7 : Identifier
inserted_node7 = record { span = (record { begin = 12; end = 13 }); name = codes "a" }

inserted_step8 : IsName inserted_rest4 inserted_node7 inserted_rest5
unfolding reserved_words
inserted_step8 = name (codes "a") refl refl refl

abbrev pub inserted_node9 : Expression
inserted_node9 = expr.Name (record { begin = 12; end = 13 }) (codes "a")

inserted_step10 : IsNode flags_100 19 inserted_rest4 inserted_node9 inserted_rest5
inserted_step10 = reference inserted_node7 inserted_node9 inserted_step8 refl

inserted_step11 : AreLinks flags_100 false inserted_rest5 [] inserted_rest5
inserted_step11 = no_link

inserted_step12 : IsExpression flags_100 0 inserted_rest4 inserted_node9 inserted_rest5
inserted_step12 = at_level 19 inserted_node9 (lit≤ tt) inserted_step10

abbrev pub inserted_node13 : Statement
inserted_node13 = stat.DoWhile (record { begin = 0; end = 14 }) inserted_node1 inserted_node9

inserted_step14 : IsStatement flags_100 inserted_rest0 inserted_node13 inserted_rest7
inserted_step14 = do_while inserted_node1 inserted_node9 inserted_node13 refl inserted_step2 refl refl inserted_step12 refl refl refl

inserted_step15 : IsListed flags_100 inserted_rest0 inserted_node13 inserted_rest7
inserted_step15 = listed_statement inserted_node13 inserted_step14

abbrev pub inserted_node16 : Item
inserted_node16 = item.Statement inserted_node13

inserted_step17 : IsItem inserted_rest0 inserted_node16 inserted_rest7
inserted_step17 = statement_item inserted_node13 inserted_node16 inserted_step15 refl

abbrev pub inserted_node22 : Identifier
inserted_node22 = record { span = (record { begin = 17; end = 18 }); name = codes "b" }

inserted_step23 : IsName inserted_rest7 inserted_node22 inserted_rest8
unfolding reserved_words
inserted_step23 = name (codes "b") refl refl refl

abbrev pub inserted_node24 : Expression
inserted_node24 = expr.Name (record { begin = 17; end = 18 }) (codes "b")

inserted_step25 : IsNode flags_100 19 inserted_rest7 inserted_node24 inserted_rest8
inserted_step25 = reference inserted_node22 inserted_node24 inserted_step23 refl

inserted_step26 : AreLinks flags_100 false inserted_rest8 [] inserted_rest8
inserted_step26 = no_link

inserted_step27 : IsExpression flags_100 0 inserted_rest7 inserted_node24 inserted_rest8
inserted_step27 = at_level 19 inserted_node24 (lit≤ tt) inserted_step25

abbrev pub inserted_node28 : Statement
inserted_node28 = stat.Expression (record { begin = 17; end = 18 }) inserted_node24

inserted_step29 : IsStatement flags_100 inserted_rest7 inserted_node28 inserted_rest9
inserted_step29 = expression inserted_node24 inserted_node28 refl refl refl inserted_step27 refl refl

inserted_step30 : IsListed flags_100 inserted_rest7 inserted_node28 inserted_rest9
inserted_step30 = listed_statement inserted_node28 inserted_step29

abbrev pub inserted_node31 : Item
inserted_node31 = item.Statement inserted_node28

inserted_step32 : IsItem inserted_rest7 inserted_node31 inserted_rest9
inserted_step32 = statement_item inserted_node28 inserted_node31 inserted_step30 refl

abbrev pub inserted_node37 : Identifier
inserted_node37 = record { span = (record { begin = 20; end = 21 }); name = codes "c" }

inserted_step38 : IsName inserted_rest9 inserted_node37 inserted_rest10
unfolding reserved_words
inserted_step38 = name (codes "c") refl refl refl

abbrev pub inserted_node39 : Expression
inserted_node39 = expr.Name (record { begin = 20; end = 21 }) (codes "c")

inserted_step40 : IsNode flags_100 19 inserted_rest9 inserted_node39 inserted_rest10
inserted_step40 = reference inserted_node37 inserted_node39 inserted_step38 refl

inserted_step41 : AreLinks flags_100 false inserted_rest10 [] inserted_rest10
inserted_step41 = no_link

inserted_step42 : IsExpression flags_100 0 inserted_rest9 inserted_node39 inserted_rest10
inserted_step42 = at_level 19 inserted_node39 (lit≤ tt) inserted_step40

abbrev pub inserted_node43 : Statement
inserted_node43 = stat.Expression (record { begin = 20; end = 21 }) inserted_node39

inserted_step44 : IsStatement flags_100 inserted_rest9 inserted_node43 inserted_rest11
inserted_step44 = expression inserted_node39 inserted_node43 refl refl refl inserted_step42 refl refl

inserted_step45 : IsListed flags_100 inserted_rest9 inserted_node43 inserted_rest11
inserted_step45 = listed_statement inserted_node43 inserted_step44

abbrev pub inserted_node46 : Item
inserted_node46 = item.Statement inserted_node43

inserted_step47 : IsItem inserted_rest9 inserted_node46 inserted_rest11
inserted_step47 = statement_item inserted_node43 inserted_node46 inserted_step45 refl

inserted_step48 : AreItems inserted_rest11 [] inserted_rest11
inserted_step48 = no_item

inserted_step49 : AreItems inserted_rest9 (inserted_node46 ∷ []) inserted_rest11
inserted_step49 = next_item inserted_node46 [] inserted_step47 inserted_step48

inserted_step50 : AreItems inserted_rest7 (inserted_node31 ∷ (inserted_node46 ∷ [])) inserted_rest11
inserted_step50 = next_item inserted_node31 (inserted_node46 ∷ []) inserted_step32 inserted_step49

inserted_step51 : AreItems inserted_rest0 (inserted_node16 ∷ (inserted_node31 ∷ (inserted_node46 ∷ []))) inserted_rest11
inserted_step51 = next_item inserted_node16 (inserted_node31 ∷ (inserted_node46 ∷ [])) inserted_step17 inserted_step50

abbrev pub inserted_node52 : Module
inserted_node52 = record { span = record { begin = 0; end = 22 }; items = (inserted_node16 ∷ (inserted_node31 ∷ (inserted_node46 ∷ []))) }

-- the module
pub inserted_module : IsModule inserted_rest0 inserted_node52
inserted_module = module_ (inserted_node16 ∷ (inserted_node31 ∷ (inserted_node46 ∷ []))) inserted_node52 inserted_step51 refl refl
