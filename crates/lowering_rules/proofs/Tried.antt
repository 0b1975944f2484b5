-- Small inputs, with what the definitions give of them.
use Rattle.std.proofs.Common.{◌≡◌, ℕ, List, [], ◌∷◌, true, false, None, Some, refl}
use Rattle.core_ast.specs.declared.parts.Binary.TheVariants.{Add, NotSame, Same}
use Rattle.core_ast.specs.declared.parts.Constant.TheVariants.{Text}
use Rattle.core_ast.specs.declared.parts.CoreHead.TheVariants as head
use Rattle.core_ast.specs.declared.parts.CoreOp.TheVariants as op
use Rattle.core_ast.specs.declared.parts.FunctionId.{FunctionId}
use Rattle.core_ast.specs.declared.parts.Key.TheVariants.{WordKey}
use Rattle.core_ast.specs.declared.parts.Primitive.TheVariants.{CheckReady, ClassMake, IterClose, IterStart, IterStep, IterValue, MethodPut, RefuseConst, RestList, SpreadList, SuperConstruct, ThisBind, ToText}
use Rattle.core_ast.specs.declared.parts.ScopedName.{ScopedName}
use Rattle.core_ast.specs.declared.parts.Var.{Var}
use Rattle.core_ast.specs.declared.tree.CoreExpr.{CoreExpr}
use Rattle.core_ast.specs.declared.tree.CoreLink.TheVariants as link
use Rattle.core_ast.specs.declared.tree.CoreStat.{CoreStat}
use Rattle.core_ast.specs.declared.tree.CoreStat.TheVariants as stat
use Rattle.core_ast.specs.Made.{act, acting, expression, linked, undefined, variable}
use Rattle.lowering_rules.specs.declared.classes.ClassKey.TheVariants.{TextName}
use Rattle.lowering_rules.specs.declared.classes.ClassNames.{ClassNames}
use Rattle.lowering_rules.specs.declared.classes.MemberKind.TheVariants.{Method}
use Rattle.lowering_rules.specs.declared.expressions.ListPart.TheVariants.{Missing, Single, Spread}
use Rattle.lowering_rules.specs.declared.naming.Iteration.{Iteration}
use Rattle.lowering_rules.specs.declared.patterns.ArrayPart.TheVariants.{Element, Elision}
use Rattle.lowering_rules.specs.declared.patterns.PropertyName.TheVariants.{Literal}
use Rattle.lowering_rules.specs.Classes as classes
use Rattle.lowering_rules.specs.Expressions as expressions
use Rattle.lowering_rules.specs.Functions as functions
use Rattle.lowering_rules.specs.Iteration as iteration
use Rattle.lowering_rules.specs.Making.{defaulted, flag, initialize, number, primitive, set, stored, text, then, uninitialized, when}
use Rattle.lowering_rules.specs.Patterns as patterns

-- `a${x}b`: x becomes a text before what stands behind it is reached
pub template_with_a_value : (a b : List ℕ) (x : CoreExpr) →
    expressions.template a (record { value = x; text = b } ∷ [])
    ≡ expression None (head.Constant (Text a))
    (acting (op.Operator Add) (linked x (act (op.Primitive ToText))) ∷ acting (op.Operator Add) (text b) ∷ [])
template_with_a_value a b x = refl

-- [x, ...y, ,]
pub array_with_all_parts : (x y : CoreExpr) →
    expressions.array (Single x ∷ Spread y ∷ Missing ∷ [])
    ≡ expression None head.ArrayList
    (acting op.Element x ∷ link.Strict (op.Primitive SpreadList) (y ∷ number 1 ∷ []) None ∷ act op.Hole ∷ [])
unfolding expressions.list_link
array_with_all_parts x y = refl

-- (a, b = x, ...c): a is a formal itself; b and c are uninitialized until they are reached
pub parameters_of_each_form : (a p b c : Var) (x : CoreExpr) →
    functions.parameters_bound
    (record { formal = a; default = None; bound = [] }
    ∷ record { formal = p; default = Some x; bound = initialize b (variable p) ∷ [] }
    ∷ [])
    (Some (record { list = c; bound = [] }))
    (record { names = b ∷ c ∷ []; body = [] })
    ≡ uninitialized b
    ∷ uninitialized c
    ∷ when (linked (variable p) (acting (op.Operator Same) undefined)) (set p x ∷ [])
    ∷ initialize b (variable p)
    ∷ initialize c (linked (number 2) (act (op.Primitive RestList)))
    ∷ []
unfolding defaulted functions.rest_bound
parameters_of_each_form a p b c x = refl

-- their count for `length` is 1
pub counted_of_each_form : (a p b c : Var) (x : CoreExpr) →
    functions.expected_count
    (record { formal = a; default = None; bound = [] }
    ∷ record { formal = p; default = Some x; bound = initialize b (variable p) ∷ [] }
    ∷ record { formal = c; default = None; bound = [] }
    ∷ [])
    ≡ 1
unfolding functions.counted
counted_of_each_form a p b c x = refl

-- for (const x of y) body
pub loop_over_values : (i : Iteration) (x : ScopedName) (y : CoreExpr) (body : CoreStat) →
    iteration.for_of i (record {
      dead = [];
      subject = y;
      labels = [];
      names = x ∷ [];
      turn = initialize x.var (variable i.value) ∷ body ∷ [];
    })
    ≡ set i.iterator (linked y (acting (op.Primitive IterStart) (number 0)))
    ∷ set i.is_open (flag false)
    ∷ stat.TryFinally
    (stat.TryCatch
    (stat.Loop []
    (Some (then
    (then (stored i.is_open (flag false)) (stored i.result (linked (variable i.iterator) (act (op.Primitive IterStep)))))
    (linked (variable i.result) (acting (op.Operator NotSame) (flag false)))))
    None
    (set i.value (linked (variable i.result) (act (op.Primitive IterValue)))
    ∷ set i.is_open (flag true)
    ∷ stat.Scoped (x ∷ []) (initialize x.var (variable i.value) ∷ body ∷ [])
    ∷ [])
    ∷ [])
    i.thrown
    []
    (when (variable i.is_open)
    (set i.is_open (flag false)
    ∷ stat.Do (linked (variable i.iterator) (acting (op.Primitive IterClose) (flag true)))
    ∷ [])
    ∷ stat.Throw (variable i.thrown)
    ∷ [])
    ∷ [])
    (when (variable i.is_open) (stat.Do (linked (variable i.iterator) (acting (op.Primitive IterClose) (flag false))) ∷ [])
    ∷ [])
    ∷ []
loop_over_values i x y body = refl

-- [, x] on y: the value of the first step isn't read
pub pattern_with_a_hole : (i : Iteration) (x : Var) (y : CoreExpr) →
    patterns.array_pattern i y
    (Elision ∷ Element (record { before = []; default = None; after = patterns.initialized x i.value }) ∷ [])
    ≡ set i.iterator (linked y (acting (op.Primitive IterStart) (number 0)))
    ∷ set i.is_open (flag true)
    ∷ iteration.closing i
    (when (variable i.is_open)
    (set i.is_open (flag false)
    ∷ stat.Do (stored i.result (linked (variable i.iterator) (act (op.Primitive IterStep))))
    ∷ when (linked (variable i.result) (acting (op.Operator NotSame) (flag false))) (set i.is_open (flag true) ∷ [])
    ∷ [])
    ∷ set i.value undefined
    ∷ when (variable i.is_open)
    (set i.is_open (flag false)
    ∷ stat.Do (stored i.result (linked (variable i.iterator) (act (op.Primitive IterStep))))
    ∷ when (linked (variable i.result) (acting (op.Operator NotSame) (flag false)))
    (set i.value (linked (variable i.result) (act (op.Primitive IterValue))) ∷ set i.is_open (flag true) ∷ [])
    ∷ [])
    ∷ initialize x (variable i.value)
    ∷ [])
    ∷ []
unfolding patterns.array_part defaulted
pattern_with_a_hole i x y = refl

-- {k: x = y} on the variable s
pub pattern_with_a_default : (s v x k : Var) (name : List ℕ) (y : CoreExpr) →
    patterns.object_pattern s v
    (record {
      name = Literal (WordKey name);
      target = record { before = []; default = Some y; after = patterns.initialized x v };
    }
    ∷ [])
    ≡ patterns.base_check s
    ∷ set v (linked (variable s) (act (op.Member (WordKey name))))
    ∷ when (linked (variable v) (acting (op.Operator Same) undefined)) (set v y ∷ [])
    ∷ initialize x (variable v)
    ∷ []
unfolding patterns.name_kept patterns.property_read defaulted
pattern_with_a_default s v x k name y = refl

-- an assignment to a constant that may be uninitialized is refused behind the check
pub constant_assigned : (x v : Var) →
    patterns.assigned (record { var = x; checked = true; constant = true }) v
    ≡ stat.Do (linked (variable x) (act (op.Primitive CheckReady))) ∷ stat.Do (primitive RefuseConst) ∷ []
constant_assigned x v = refl

-- class C extends p { static k() {} }
pub class_with_a_parent : (c : ClassNames) (x : ScopedName) (p : CoreExpr) (f m : FunctionId) (k : List ℕ) →
    classes.class_statements c (Some x) (Some p) f
    (record { is_static = true; kind = Method; key = TextName k; function = m } ∷ [])
    ≡ stat.Scoped (x ∷ [])
    (set c.class (linked (flag true) (link.Strict (op.Primitive ClassMake) (p ∷ expression None (head.Function f) [] ∷ []) None))
    ∷ set c.prototype (linked (variable c.class) (act (op.Member (WordKey classes.prototype_name))))
    ∷ stat.Do (linked (variable c.class)
    (link.Strict (op.Primitive MethodPut) (text k ∷ expression None (head.Function m) [] ∷ flag true ∷ []) None))
    ∷ initialize x.var (variable c.class)
    ∷ [])
    ∷ []
unfolding classes.class_statements classes.made classes.key_kept classes.key_of classes.put
class_with_a_parent c x p f m k = refl

-- the constructor of a derived class that isn't written hands all arguments on
pub derived_by_default :
    classes.default_body true
    ≡ stat.Do (expression None head.ArgumentList
    (link.Strict (op.Primitive SpreadList) (linked (number 0) (act (op.Primitive RestList)) ∷ number 1 ∷ []) None
    ∷ act (op.Primitive SuperConstruct)
    ∷ act (op.Primitive ThisBind)
    ∷ []))
    ∷ []
unfolding expressions.list_link
derived_by_default = refl
