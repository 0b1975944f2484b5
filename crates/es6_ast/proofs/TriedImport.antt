-- Derived by the grammar, token for token: an import and an export.
--     import {a as b} from "m";  export default b;
use Rattle.std.proofs.Common.{true, false, List, [], ◌∷◌, codes, None, refl, lit≤}
use Rattle.es6_lexer.specs.declared.token.TokenKind.TheVariants as kind
use Rattle.es6_lexer.specs.declared.token.Punctuator.TheVariants as mark
use Rattle.es6_ast.specs.declared.tree.Identifier.{Identifier}
use Rattle.es6_ast.specs.declared.tree.Expression.{Expression}
use Rattle.es6_ast.specs.declared.tree.Expression.TheVariants as expr
use Rattle.es6_ast.specs.declared.module.Module.{Module}
use Rattle.es6_ast.specs.declared.module.Item.{Item}
use Rattle.es6_ast.specs.declared.module.Specifier.{Specifier}
use Rattle.es6_ast.specs.declared.module.ImportedNames.{ImportedNames}
use Rattle.es6_ast.specs.declared.module.ImportName.{ImportName}
use Rattle.es6_ast.specs.declared.module.Item.TheVariants as item
use Rattle.es6_ast.specs.declared.module.ImportedNames.TheVariants.{Listed}
use Rattle.es6_ast.specs.declared.module.DefaultExport.TheVariants.{DefaultValue}
use Rattle.es6_ast.specs.declared.settings.Flags.{Flags}
use Rattle.es6_ast.specs.Tokens.{Read, Filled}
use Rattle.es6_ast.specs.Grammar.{IsName, name, IsAnyName, any_name, IsExpression, at_level, IsNode, reference, AreLinks, no_link}
use Rattle.es6_ast.specs.Modules.{IsSpecifier, specifier, IsFrom, from, IsImport, renamed_import, AreImports, last_import, AreNames, listed, IsClause, names_alone, IsItem, import_from, default_value, AreItems, no_item, next_item, IsModule, module_}
use Rattle.es_outside.specs.HostNames.{reserved_words}

abbrev pub flags_100 : Flags
flags_100 = record { has_in = true; has_yield = false; has_return = false }

abbrev pub import_token0 : Filled
import_token0 = record { kind = Read (kind.Word (codes "import")); span = record { begin = 0; end = 6 }; newline = false }

abbrev pub import_token1 : Filled
import_token1 = record { kind = Read (kind.Punctuator mark.LeftBrace); span = record { begin = 7; end = 8 }; newline = false }

abbrev pub import_token2 : Filled
import_token2 = record { kind = Read (kind.Word (codes "a")); span = record { begin = 8; end = 9 }; newline = false }

abbrev pub import_token3 : Filled
import_token3 = record { kind = Read (kind.Word (codes "as")); span = record { begin = 10; end = 12 }; newline = false }

abbrev pub import_token4 : Filled
import_token4 = record { kind = Read (kind.Word (codes "b")); span = record { begin = 13; end = 14 }; newline = false }

abbrev pub import_token5 : Filled
import_token5 = record { kind = Read (kind.Punctuator mark.RightBrace); span = record { begin = 14; end = 15 }; newline = false }

abbrev pub import_token6 : Filled
import_token6 = record { kind = Read (kind.Word (codes "from")); span = record { begin = 16; end = 20 }; newline = false }

abbrev pub import_token7 : Filled
import_token7 = record { kind = Read (kind.Text (codes "m")); span = record { begin = 21; end = 24 }; newline = false }

abbrev pub import_token8 : Filled
import_token8 = record { kind = Read (kind.Punctuator mark.Semicolon); span = record { begin = 24; end = 25 }; newline = false }

abbrev pub import_token9 : Filled
import_token9 = record { kind = Read (kind.Word (codes "export")); span = record { begin = 26; end = 32 }; newline = true }

abbrev pub import_token10 : Filled
import_token10 = record { kind = Read (kind.Word (codes "default")); span = record { begin = 33; end = 40 }; newline = false }

abbrev pub import_token11 : Filled
import_token11 = record { kind = Read (kind.Word (codes "b")); span = record { begin = 41; end = 42 }; newline = false }

abbrev pub import_token12 : Filled
import_token12 = record { kind = Read (kind.Punctuator mark.Semicolon); span = record { begin = 42; end = 43 }; newline = false }

abbrev pub import_token13 : Filled
import_token13 = record { kind = Read kind.End; span = record { begin = 43; end = 43 }; newline = false }

abbrev pub import_rest14 : List Filled
import_rest14 = []

abbrev pub import_rest13 : List Filled
import_rest13 = import_token13 ∷ import_rest14

abbrev pub import_rest12 : List Filled
import_rest12 = import_token12 ∷ import_rest13

abbrev pub import_rest11 : List Filled
import_rest11 = import_token11 ∷ import_rest12

abbrev pub import_rest10 : List Filled
import_rest10 = import_token10 ∷ import_rest11

abbrev pub import_rest9 : List Filled
import_rest9 = import_token9 ∷ import_rest10

abbrev pub import_rest8 : List Filled
import_rest8 = import_token8 ∷ import_rest9

abbrev pub import_rest7 : List Filled
import_rest7 = import_token7 ∷ import_rest8

abbrev pub import_rest6 : List Filled
import_rest6 = import_token6 ∷ import_rest7

abbrev pub import_rest5 : List Filled
import_rest5 = import_token5 ∷ import_rest6

abbrev pub import_rest4 : List Filled
import_rest4 = import_token4 ∷ import_rest5

abbrev pub import_rest3 : List Filled
import_rest3 = import_token3 ∷ import_rest4

abbrev pub import_rest2 : List Filled
import_rest2 = import_token2 ∷ import_rest3

abbrev pub import_rest1 : List Filled
import_rest1 = import_token1 ∷ import_rest2

abbrev pub import_rest0 : List Filled
import_rest0 = import_token0 ∷ import_rest1

abbrev pub import_node1 : Identifier
import_node1 = record { span = (record { begin = 8; end = 9 }); name = codes "a" }

import_step2 : IsAnyName import_rest2 import_node1 import_rest3
import_step2 = any_name (codes "a") refl refl

abbrev pub import_node3 : Identifier
import_node3 = record { span = (record { begin = 13; end = 14 }); name = codes "b" }

import_step4 : IsName import_rest4 import_node3 import_rest5
unfolding reserved_words
import_step4 = name (codes "b") refl refl refl

abbrev pub import_node5 : ImportName
import_node5 = record { span = (record { begin = 8; end = 14 }); imported = import_node1; local = import_node3 }

import_step6 : IsImport import_rest2 import_node5 import_rest5
import_step6 = renamed_import import_node1 import_node3 import_node5 import_step2 refl import_step4 refl

import_step7 : AreImports import_rest2 (import_node5 ∷ []) import_rest6
import_step7 = last_import import_node5 import_step6 refl

abbrev pub import_node8 : ImportedNames
import_node8 = Listed (import_node5 ∷ [])

import_step9 : AreNames import_rest1 import_node8 import_rest6
import_step9 = listed (import_node5 ∷ []) import_node8 refl import_step7 refl

import_step10 : IsClause import_rest1 None import_node8 import_rest6
import_step10 = names_alone import_node8 import_step9

abbrev pub import_node11 : Specifier
import_node11 = record { span = (record { begin = 21; end = 24 }); text = codes "m" }

import_step12 : IsSpecifier import_rest7 import_node11 import_rest8
import_step12 = specifier (codes "m") import_node11 refl refl

import_step13 : IsFrom import_rest6 import_node11 import_rest9
import_step13 = from import_node11 refl import_step12 refl

abbrev pub import_node14 : Item
import_node14 = item.Import (record { begin = 0; end = 25 }) None import_node8 import_node11

import_step15 : IsItem import_rest0 import_node14 import_rest9
import_step15 = import_from None import_node8 import_node11 import_node14 refl import_step10 import_step13 refl

abbrev pub import_node20 : Identifier
import_node20 = record { span = (record { begin = 41; end = 42 }); name = codes "b" }

import_step21 : IsName import_rest11 import_node20 import_rest12
unfolding reserved_words
import_step21 = name (codes "b") refl refl refl

abbrev pub import_node22 : Expression
import_node22 = expr.Name (record { begin = 41; end = 42 }) (codes "b")

import_step23 : IsNode flags_100 19 import_rest11 import_node22 import_rest12
import_step23 = reference import_node20 import_node22 import_step21 refl

import_step24 : AreLinks flags_100 false import_rest12 [] import_rest12
import_step24 = no_link

import_step25 : IsExpression flags_100 1 import_rest11 import_node22 import_rest12
import_step25 = at_level 19 import_node22 (lit≤ tt) import_step23

abbrev pub import_node26 : Item
import_node26 = item.ExportDefault (record { begin = 26; end = 43 }) (record { begin = 33; end = 40 }) (DefaultValue import_node22)

import_step27 : IsItem import_rest9 import_node26 import_rest13
import_step27 = default_value import_node22 import_node26 refl refl refl refl import_step25 refl refl

import_step28 : AreItems import_rest13 [] import_rest13
import_step28 = no_item

import_step29 : AreItems import_rest9 (import_node26 ∷ []) import_rest13
import_step29 = next_item import_node26 [] import_step27 import_step28

import_step30 : AreItems import_rest0 (import_node14 ∷ (import_node26 ∷ [])) import_rest13
import_step30 = next_item import_node14 (import_node26 ∷ []) import_step15 import_step29

abbrev pub import_node31 : Module
import_node31 = record { span = record { begin = 0; end = 43 }; items = (import_node14 ∷ (import_node26 ∷ [])) }

-- the module
pub import_module : IsModule import_rest0 import_node31
import_module = module_ (import_node14 ∷ (import_node26 ∷ [])) import_node31 import_step30 refl refl
