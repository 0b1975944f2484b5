-- Parts of classes (ECMA-262, 6th edition, 14.5).
use Rattle.std.specs.Prelude.{List}
use Rattle.es6_lexer.specs.declared.token.Punctuator.TheVariants as marks
use Rattle.es6_ast.specs.declared.tree.ClassMember.{ClassMember}
use Rattle.es6_ast.specs.declared.settings.Flags.{Flags}
use Rattle.es6_reading.specs.Parser.{Inner, Parser, group}
use Rattle.es6_reading.specs.Parts.{members}

-- the members in their braces
unfoldable pub class_body : Inner → Flags → Parser (List ClassMember)
class_body i f = group i marks.LeftBrace (members i f i.fuel)
