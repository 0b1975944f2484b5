-- Parameters and arrows (ECMA-262, 6th edition, 9.2.12, 14.1 and 14.2).
use Rattle.std.specs.Prelude.{ℕ, ◌+◌, length, List, [], ◌∷◌, ◌++◌, map, Option, None, Some}
use Rattle.std.specs.List.{flat_map}
use Rattle.core_ast.specs.declared.parts.CoreHead.TheVariants as head
use Rattle.core_ast.specs.declared.parts.Primitive.TheVariants.{RestList}
use Rattle.core_ast.specs.declared.tree.CoreExpr.{CoreExpr}
use Rattle.core_ast.specs.declared.tree.CoreStat.{CoreStat}
use Rattle.core_ast.specs.declared.tree.CoreStat.TheVariants as stat
use Rattle.core_ast.specs.declared.whole.CoreFunction.{CoreFunction}
use Rattle.core_ast.specs.declared.whole.CoreKind.TheVariants.{Arrow}
use Rattle.core_ast.specs.Made.{expression, variable}
use Rattle.lowering_rules.specs.declared.functions.BodyVar.{BodyVar}
use Rattle.lowering_rules.specs.declared.functions.Parameter.{Parameter}
use Rattle.lowering_rules.specs.declared.functions.ParameterScope.{ParameterScope}
use Rattle.lowering_rules.specs.declared.functions.RestParameter.{RestParameter}
use Rattle.lowering_rules.specs.Making.{defaulted, initialize, number, through, uninitialized}

-- ---- parameters

-- ExpectedArgumentCount (14.1.6): those before the first default; a rest isn't counted
unfoldable pub counted : Option CoreExpr → ℕ → ℕ
counted None n = n + 1
counted (Some x) n = 0

abbrev pub expected_count : List Parameter → ℕ
expected_count [] = 0
expected_count (p ∷ ps) = counted p.default (expected_count ps)

-- IteratorBindingInitialization (14.1.18): the default where there is no value, and then the names
abbrev pub bound : Parameter → List CoreStat
bound p = defaulted p.formal p.default ++ p.bound

-- a rest takes the arguments from this place on
unfoldable pub rest_bound : ℕ → Option RestParameter → List CoreStat
rest_bound n None = []
rest_bound n (Some r) = initialize r.list (through (number n) RestList) ∷ r.bound

-- a variable of the body that is named as a parameter begins with its value (9.2.12, step 28)
abbrev pub begun : BodyVar → CoreStat
begun b = initialize b.var (variable b.parameter)

-- no name is initialized before its parameter is reached, and they are from left to right (9.2.12, steps 21 to 26)
abbrev pub parameters_bound : List Parameter → Option RestParameter → ParameterScope → List CoreStat
parameters_bound ps rest scope =
    map uninitialized scope.names ++ flat_map bound ps ++ rest_bound (length ps) rest ++ map begun scope.body

abbrev pub with_parameters : List Parameter → Option RestParameter → ParameterScope → CoreFunction → CoreFunction
with_parameters ps rest scope f = record f {
  parameters = map (λ p. p.formal) ps;
  length = expected_count ps;
  locals = f.locals ++ scope.names;
  setup = f.setup ++ parameters_bound ps rest scope;
}

-- ---- functions

-- the function goes into the table, and the expression is its closure
abbrev pub closure : List CoreFunction → CoreExpr
closure functions = expression None (head.Function (record { 0 = length functions })) []

-- an arrow (14.2.16): `this` in it is that of the function round it
abbrev pub arrow : CoreFunction → CoreFunction
arrow f = record f { kind = Arrow }

-- the value of an expression that is the whole body is returned (14.2.15)
abbrev pub concise : CoreExpr → List CoreStat
concise x = stat.Return x ∷ []
