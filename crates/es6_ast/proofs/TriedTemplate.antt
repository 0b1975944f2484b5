-- Derived by the grammar, token for token: a tagged template.
--     f`a${b}c`;
use Rattle.std.proofs.Common.{true, false, List, [], ◌∷◌, codes, refl, lit≤}
use Rattle.es6_lexer.specs.declared.token.TokenKind.TheVariants as kind
use Rattle.es6_lexer.specs.declared.token.Punctuator.TheVariants as mark
use Rattle.es6_ast.specs.declared.tree.Identifier.{Identifier}
use Rattle.es6_ast.specs.declared.tree.Expression.{Expression}
use Rattle.es6_ast.specs.declared.tree.Statement.{Statement}
use Rattle.es6_ast.specs.declared.tree.Link.{Link}
use Rattle.es6_ast.specs.declared.tree.Expression.TheVariants as expr
use Rattle.es6_ast.specs.declared.tree.Statement.TheVariants as stat
use Rattle.es6_ast.specs.declared.tree.Link.TheVariants as link
use Rattle.es6_ast.specs.declared.tree.TemplatePart.{TemplatePart}
use Rattle.es6_ast.specs.declared.tree.Template.{roll-Template}
use Rattle.es6_ast.specs.declared.tree.TemplatePart.{roll-TemplatePart}
use Rattle.es6_ast.specs.declared.tree.Template.{Template as Template'}
use Rattle.es6_ast.specs.declared.module.Module.{Module}
use Rattle.es6_ast.specs.declared.module.Item.{Item}
use Rattle.es6_ast.specs.declared.module.Item.TheVariants as item
use Rattle.es6_ast.specs.declared.settings.Flags.{Flags}
use Rattle.es6_ast.specs.Tokens.{Read, Filled}
use Rattle.es6_ast.specs.Grammar.{IsName, name, IsExpression, at_level, IsNode, reference, chain, AreLinks, no_link, tag_link, IsTemplate, parted_template, AreTemplateParts, last_template_part, IsListed, listed_statement, IsStatement, expression}
use Rattle.es6_ast.specs.Modules.{IsItem, statement_item, AreItems, no_item, next_item, IsModule, module_}
use Rattle.es_outside.specs.HostNames.{reserved_words}

abbrev pub flags_100 : Flags
flags_100 = record { has_in = true; has_yield = false; has_return = false }

abbrev pub template_token0 : Filled
template_token0 = record { kind = Read (kind.Word (codes "f")); span = record { begin = 0; end = 1 }; newline = false }

abbrev pub template_token1 : Filled
template_token1 = record { kind = Read (kind.Template (codes "a") (codes "a") true false); span = record { begin = 1; end = 5 }; newline = false }

abbrev pub template_token2 : Filled
template_token2 = record { kind = Read (kind.Word (codes "b")); span = record { begin = 5; end = 6 }; newline = false }

abbrev pub template_token3 : Filled
template_token3 = record { kind = Read (kind.Template (codes "c") (codes "c") false true); span = record { begin = 6; end = 9 }; newline = false }

abbrev pub template_token4 : Filled
template_token4 = record { kind = Read (kind.Punctuator mark.Semicolon); span = record { begin = 9; end = 10 }; newline = false }

abbrev pub template_token5 : Filled
template_token5 = record { kind = Read kind.End; span = record { begin = 10; end = 10 }; newline = false }

abbrev pub template_rest6 : List Filled
template_rest6 = []

abbrev pub template_rest5 : List Filled
template_rest5 = template_token5 ∷ template_rest6

abbrev pub template_rest4 : List Filled
template_rest4 = template_token4 ∷ template_rest5

abbrev pub template_rest3 : List Filled
template_rest3 = template_token3 ∷ template_rest4

abbrev pub template_rest2 : List Filled
template_rest2 = template_token2 ∷ template_rest3

abbrev pub template_rest1 : List Filled
template_rest1 = template_token1 ∷ template_rest2

abbrev pub template_rest0 : List Filled
template_rest0 = template_token0 ∷ template_rest1

abbrev pub template_node5 : Identifier
template_node5 = record { span = (record { begin = 0; end = 1 }); name = codes "f" }

template_step6 : IsName template_rest0 template_node5 template_rest1
unfolding reserved_words
template_step6 = name (codes "f") refl refl refl

abbrev pub template_node7 : Expression
template_node7 = expr.Name (record { begin = 0; end = 1 }) (codes "f")

template_step8 : IsNode flags_100 19 template_rest0 template_node7 template_rest1
template_step8 = reference template_node5 template_node7 template_step6 refl

abbrev pub template_node13 : Identifier
template_node13 = record { span = (record { begin = 5; end = 6 }); name = codes "b" }

template_step14 : IsName template_rest2 template_node13 template_rest3
unfolding reserved_words
template_step14 = name (codes "b") refl refl refl

abbrev pub template_node15 : Expression
template_node15 = expr.Name (record { begin = 5; end = 6 }) (codes "b")

template_step16 : IsNode flags_100 19 template_rest2 template_node15 template_rest3
template_step16 = reference template_node13 template_node15 template_step14 refl

template_step17 : AreLinks flags_100 false template_rest3 [] template_rest3
template_step17 = no_link

template_step18 : IsExpression flags_100 0 template_rest2 template_node15 template_rest3
template_step18 = at_level 19 template_node15 (lit≤ tt) template_step16

abbrev pub template_node19 : TemplatePart
template_node19 = roll-TemplatePart (record { value = template_node15; after = record { span = (record { begin = 6; end = 9 }); cooked = codes "c"; raw = codes "c" } })

template_step20 : AreTemplateParts flags_100 template_rest2 (template_node19 ∷ []) template_rest4
template_step20 = last_template_part template_node15 (codes "c") (codes "c") template_node19 template_step18 refl refl

abbrev pub template_node21 : Template'
template_node21 = roll-Template (record { span = (record { begin = 1; end = 9 }); first = record { span = (record { begin = 1; end = 5 }); cooked = codes "a"; raw = codes "a" }; rest = (template_node19 ∷ []) })

template_step22 : IsTemplate flags_100 template_rest1 template_node21 template_rest4
template_step22 = parted_template (codes "a") (codes "a") (template_node19 ∷ []) template_node21 refl template_step20 refl

abbrev pub template_node23 : Link
template_node23 = link.Tagged template_node21

template_step24 : AreLinks flags_100 false template_rest4 [] template_rest4
template_step24 = no_link

template_step25 : AreLinks flags_100 false template_rest1 (template_node23 ∷ []) template_rest4
template_step25 = tag_link template_node21 template_node23 [] template_step22 refl template_step24

template_step26 : IsExpression flags_100 19 template_rest0 template_node7 template_rest1
template_step26 = at_level 19 template_node7 (lit≤ tt) template_step8

abbrev pub template_node27 : Expression
template_node27 = expr.Chain (record { begin = 0; end = 9 }) template_node7 (template_node23 ∷ [])

template_step28 : IsNode flags_100 18 template_rest0 template_node27 template_rest4
template_step28 = chain template_node7 template_node23 [] template_node27 template_step26 template_step25 refl

template_step29 : IsExpression flags_100 0 template_rest0 template_node27 template_rest4
template_step29 = at_level 18 template_node27 (lit≤ tt) template_step28

abbrev pub template_node30 : Statement
template_node30 = stat.Expression (record { begin = 0; end = 10 }) template_node27

template_step31 : IsStatement flags_100 template_rest0 template_node30 template_rest5
template_step31 = expression template_node27 template_node30 refl refl refl template_step29 refl refl

template_step32 : IsListed flags_100 template_rest0 template_node30 template_rest5
template_step32 = listed_statement template_node30 template_step31

abbrev pub template_node33 : Item
template_node33 = item.Statement template_node30

template_step34 : IsItem template_rest0 template_node33 template_rest5
template_step34 = statement_item template_node30 template_node33 template_step32 refl

template_step35 : AreItems template_rest5 [] template_rest5
template_step35 = no_item

template_step36 : AreItems template_rest0 (template_node33 ∷ []) template_rest5
template_step36 = next_item template_node33 [] template_step34 template_step35

abbrev pub template_node37 : Module
template_node37 = record { span = record { begin = 0; end = 10 }; items = (template_node33 ∷ []) }

-- the module
pub template_module : IsModule template_rest0 template_node37
template_module = module_ (template_node33 ∷ []) template_node37 template_step36 refl refl
