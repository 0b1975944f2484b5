-- Classes: the constructor, and the other members (ECMA-262, 6th edition, 14.5.3, 14.5.6).
use Rattle.std.specs.List.{filter}
use Rattle.std.specs.Prelude.{Bool, List, codes, false, not, true, ◌&&◌}
use Rattle.std.specs.Str.{bytes_eq}
use Rattle.es6_ast.specs.Spans.{Open}
use Rattle.es6_ast.specs.declared.operators.MethodKind.{MethodKind}
use Rattle.es6_ast.specs.declared.operators.MethodKind.TheVariants.{PlainMethod}
use Rattle.es6_ast.specs.declared.tree.Argument.TheOpen as layer
use Rattle.es6_ast.specs.declared.tree.Argument.TheOpen.{Key-F}
use Rattle.es6_ast.specs.declared.tree.ClassMember.{ClassMember, out-ClassMember}
use Rattle.es6_ast.specs.declared.tree.Key.{out-Key}
use Rattle.es6_ast.specs.declared.tree.Method.{out-Method}

abbrev pub is_plain_method : MethodKind → Bool
is_plain_method PlainMethod = true
is_plain_method k = false

abbrev pub is_constructor_key : Open Key-F → Bool
is_constructor_key (layer.WordKey span name) = bytes_eq (codes "constructor") name
is_constructor_key (layer.TextKey span units) = bytes_eq (codes "constructor") units
is_constructor_key k = false

abbrev pub is_constructor : ClassMember → Bool
is_constructor m =
    not (out-ClassMember m).is_static && is_plain_method (out-Method (out-ClassMember m).method).kind
    && is_constructor_key (out-Key (out-Method (out-ClassMember m).method).key)

abbrev pub other_members : List ClassMember → List ClassMember
other_members ms = filter (λ m. not (is_constructor m)) ms
