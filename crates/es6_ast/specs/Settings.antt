-- Where operands stand.
use Rattle.std.specs.Prelude.{Bool, true, false}
use Rattle.es6_ast.specs.declared.settings.Role.{Role}
use Rattle.es6_ast.specs.declared.settings.Role.TheVariants.{Leading, Among, Heritage, Callee}

abbrev pub is_leading : Role → Bool
is_leading Leading = true
is_leading Among = false
is_leading Heritage = false
is_leading Callee = false

-- calls are no part of a MemberExpression (12.3)
abbrev pub has_calls : Role → Bool
has_calls Leading = true
has_calls Among = true
has_calls Heritage = true
has_calls Callee = false
