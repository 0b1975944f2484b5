-- What is asked of an expression's tree, of one in which no function, class or object literal and no pattern with parts stands: hosts are
-- only called, numbers are safe, and it yields in a generator's body alone.
use Rattle.std.specs.Prelude.{◌≡◌, ℕ, Bool, true, false, List, [], ◌∷◌, None, Some, IsTrue}
use Rattle.es_text.specs.declared.Span.{Span}
use Rattle.es6_ast.specs.declared.operators.AssignOperator.{AssignOperator}
use Rattle.es6_ast.specs.declared.operators.BinaryOperator.{BinaryOperator}
use Rattle.es6_ast.specs.declared.operators.Literal.{Literal}
use Rattle.es6_ast.specs.declared.operators.Literal.TheVariants as literal
use Rattle.es6_ast.specs.declared.operators.UnaryOperator.{UnaryOperator}
use Rattle.es6_ast.specs.declared.operators.UpdateOperator.{UpdateOperator}
use Rattle.es6_ast.specs.declared.tree.Argument.{Argument}
use Rattle.es6_ast.specs.declared.tree.Argument.TheVariants as argument
use Rattle.es6_ast.specs.declared.tree.Element.{Element}
use Rattle.es6_ast.specs.declared.tree.Element.TheVariants as element
use Rattle.es6_ast.specs.declared.tree.Expression.{Expression}
use Rattle.es6_ast.specs.declared.tree.Expression.TheVariants as x
use Rattle.es6_ast.specs.declared.tree.Identifier.{Identifier}
use Rattle.es6_ast.specs.declared.tree.Link.{Link}
use Rattle.es6_ast.specs.declared.tree.Link.TheVariants as link
use Rattle.es6_ast.specs.declared.tree.Operand.{Operand, roll-Operand}
use Rattle.es6_ast.specs.declared.tree.Pattern.TheVariants as pattern
use Rattle.es6_ast.specs.declared.tree.Stretch.{Stretch}
use Rattle.es6_ast.specs.declared.tree.Template.{roll-Template}
use Rattle.es6_ast.specs.declared.tree.TemplatePart.{TemplatePart, roll-TemplatePart}
use Rattle.core_ast.specs.Lawful.{Round, is_safe}
use Rattle.module_lowering.specs.Bindings.{Bindings, found}
use Rattle.module_lowering.specs.Expressions.{whole}
use Rattle.module_lowering.specs.Lowered.{expression_lowered}
use Rattle.module_lowering.specs.declared.context.Context.{Context}
use Rattle.lowered_cores_are_lawful.specs.Conditions.{finds_host}
use Rattle.lowered_cores_are_lawful.specs.Nodes.{ExpressedIs}

abbrev pub literal_safe : Literal → Bool
literal_safe literal.Null = true
literal_safe (literal.Truth b) = true
literal_safe (literal.Integer n) = is_safe (whole n)
literal_safe (literal.Text units) = true

-- by what stands round it, and whether it is the name of a host
mutual
  pub data Fits (b : Bindings) (c : Context) (r : Round) : Bool → Expression → Type 0 where
    this : (span : Span) → Fits b c r false (x.This span)
    name : (span : Span) (name : List ℕ) → finds_host b (found b c span.begin) ≡ false → Fits b c r false (x.Name span name)
    host : (span : Span) (name : List ℕ) → Fits b c r true (x.Name span name)
    written : (span : Span) (l : Literal) → IsTrue (literal_safe l) → Fits b c r false (x.Literal span l)
    template : (span : Span) (first : Stretch) (rest : List TemplatePart) → PartsFit b c r rest → Fits b c r false (x.Template (roll-Template (record { span = span; first = first; rest = rest })))
    array : (span : Span) (elements : List Element) (comma : Bool) → ElementsFit b c r elements → Fits b c r false (x.ArrayList span elements comma)
    chain : (span : Span) (head : Expression) (links : List Link) → Fits b c r false head → LinksFit b c r links → Fits b c r false (x.Chain span head links)
    called : (span : Span) (head : Expression) (at : Span) (arguments : List Argument) (links : List Link) → Fits b c r true head → ArgumentsFit b c r arguments → LinksFit b c r links → Fits b c r false (x.Chain span head (link.Call at arguments ∷ links))
    super_member : (span : Span) (name : Identifier) → Fits b c r false (x.SuperMember span name)
    super_index : (span : Span) (index : Expression) → Fits b c r false index → Fits b c r false (x.SuperIndex span index)
    super_call : (span : Span) (arguments : List Argument) → ArgumentsFit b c r arguments → Fits b c r false (x.SuperCall span arguments)
    new_target : (span : Span) → Fits b c r false (x.NewTarget span)
    new_value : (span : Span) (callee : Expression) (arguments : List Argument) → Fits b c r false callee → ArgumentsFit b c r arguments → Fits b c r false (x.New span callee arguments)
    update : (span : Span) (o : UpdateOperator) (e : Expression) → Fits b c r false e → Fits b c r false (x.Update span o e)
    unary : (span : Span) (o : UnaryOperator) (e : Expression) → Fits b c r false e → Fits b c r false (x.Unary span o e)
    power : (span : Span) (e f : Expression) → Fits b c r false e → Fits b c r false f → Fits b c r false (x.Power span e f)
    binary : (span : Span) (e : Expression) (rest : List Operand) → Fits b c r false e → OperandsFit b c r rest → Fits b c r false (x.Binary span e rest)
    conditional : (span : Span) (e f g : Expression) → Fits b c r false e → Fits b c r false f → Fits b c r false g → Fits b c r false (x.Conditional span e f g)
    assign : (span : Span) (o : AssignOperator) (target e : Expression) → Fits b c r false target → Fits b c r false e → Fits b c r false (x.Assign span o (pattern.Target target) e)
    sequence : (span : Span) (e : Expression) (rest : List Expression) → Fits b c r false e → AllFit b c r rest → Fits b c r false (x.Sequence span e rest)
    yield_nothing : (span : Span) → IsTrue r.yields → Fits b c r false (x.Yield span None)
    yield_value : (span : Span) (e : Expression) → IsTrue r.yields → Fits b c r false e → Fits b c r false (x.Yield span (Some e))
    delegate : (span : Span) (e : Expression) → IsTrue r.yields → Fits b c r false e → Fits b c r false (x.Delegate span e)
    group : {i : Bool} (span : Span) (e : Expression) → Fits b c r i e → Fits b c r i (x.Group span e)

  pub data AllFit (b : Bindings) (c : Context) (r : Round) : List Expression → Type 0 where
    no_expression : AllFit b c r []
    one_expression : {e : Expression} {es : List Expression} → Fits b c r false e → AllFit b c r es → AllFit b c r (e ∷ es)

  pub data PartsFit (b : Bindings) (c : Context) (r : Round) : List TemplatePart → Type 0 where
    no_part : PartsFit b c r []
    one_part : {ps : List TemplatePart} (e : Expression) (text : Stretch) → Fits b c r false e → PartsFit b c r ps → PartsFit b c r (roll-TemplatePart (record { value = e; after = text }) ∷ ps)

  pub data ArgumentFits (b : Bindings) (c : Context) (r : Round) : Argument → Type 0 where
    single : (e : Expression) → Fits b c r false e → ArgumentFits b c r (argument.Single e)
    spread : (span : Span) (e : Expression) → Fits b c r false e → ArgumentFits b c r (argument.Spread span e)

  pub data ArgumentsFit (b : Bindings) (c : Context) (r : Round) : List Argument → Type 0 where
    no_argument : ArgumentsFit b c r []
    one_argument : {a : Argument} {as_ : List Argument} → ArgumentFits b c r a → ArgumentsFit b c r as_ → ArgumentsFit b c r (a ∷ as_)

  pub data ElementsFit (b : Bindings) (c : Context) (r : Round) : List Element → Type 0 where
    no_element : ElementsFit b c r []
    hole : {es : List Element} → ElementsFit b c r es → ElementsFit b c r (element.Hole ∷ es)
    present : {es : List Element} (a : Argument) → ArgumentFits b c r a → ElementsFit b c r es → ElementsFit b c r (element.Present a ∷ es)

  pub data LinksFit (b : Bindings) (c : Context) (r : Round) : List Link → Type 0 where
    no_link : LinksFit b c r []
    member : {ls : List Link} (span : Span) (name : Identifier) → LinksFit b c r ls → LinksFit b c r (link.Member span name ∷ ls)
    index : {ls : List Link} (span : Span) (e : Expression) → Fits b c r false e → LinksFit b c r ls → LinksFit b c r (link.Index span e ∷ ls)
    call : {ls : List Link} (span : Span) (arguments : List Argument) → ArgumentsFit b c r arguments → LinksFit b c r ls → LinksFit b c r (link.Call span arguments ∷ ls)

  pub data OperandsFit (b : Bindings) (c : Context) (r : Round) : List Operand → Type 0 where
    no_operand : OperandsFit b c r []
    one_operand : {os : List Operand} (o : BinaryOperator) (e : Expression) → Fits b c r false e → OperandsFit b c r os → OperandsFit b c r (roll-Operand (record { operator = o; value = e }) ∷ os)

abbrev pub FitLaw : Type 0
FitLaw = (b : Bindings) (c : Context) (r : Round) (i : Bool) (e : Expression) → Fits b c r i e → ExpressedIs b c r i (expression_lowered e)
