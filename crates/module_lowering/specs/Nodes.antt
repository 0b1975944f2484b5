-- What is made of each kind of node.
use Rattle.std.specs.Prelude.{ℕ, Bool, List, [], Option}
use Rattle.es6_ast.specs.declared.operators.MethodKind.{MethodKind}
use Rattle.es6_ast.specs.declared.tree.Identifier.{Identifier}
use Rattle.es6_ast.specs.declared.tree.Stretch.{Stretch}
use Rattle.core_ast.specs.declared.parts.FunctionId.{FunctionId}
use Rattle.core_ast.specs.declared.parts.Key.{Key}
use Rattle.core_ast.specs.declared.parts.Var.{Var}
use Rattle.core_ast.specs.declared.tree.CoreCase.{CoreCase}
use Rattle.core_ast.specs.declared.tree.CoreExpr.{CoreExpr}
use Rattle.core_ast.specs.declared.tree.CoreStat.{CoreStat}
use Rattle.lowering_rules.specs.declared.expressions.ListPart.{ListPart}
use Rattle.lowering_rules.specs.declared.naming.Iteration.{Iteration}
use Rattle.lowering_rules.specs.declared.reference_rules.objects.ObjectMember.{ObjectMember}
use Rattle.lowering_rules.specs.declared.patterns.ArrayPart.{ArrayPart}
use Rattle.lowering_rules.specs.declared.patterns.ObjectPart.{ObjectPart}
use Rattle.lowering_rules.specs.declared.patterns.Target.{Target}
use Rattle.lowering_rules.specs.declared.reference_rules.references.Reached.{Reached}
use Rattle.module_lowering.specs.declared.context.FunctionForm.{FunctionForm}
use Rattle.module_lowering.specs.declared.context.JumpForm.{JumpForm}
use Rattle.module_lowering.specs.declared.context.Role.{Role}
use Rattle.module_lowering.specs.Lowering.{Lowering}

-- An expression: the name that it is, in parentheses too, and without them; the place of `Symbol`, where it may be Symbol.iterator;
-- and what it comes to.
pub record Expressed : Type 0 where
  pub name : Option Identifier
  pub bare : Option Identifier
  pub symbol : Option ℕ
  pub reached : Lowering Reached

-- a chain of accesses and calls so far, and whether one of its calls has its place, as at most one has
pub record Chained : Type 0 where
  pub reached : Reached
  pub sited : Bool

-- an access or a call: the name of a member, and what it makes of the chain before it, which begins at a place
pub record Linked : Type 0 where
  pub member : Option (List ℕ)
  pub lowered : ℕ → Chained → Lowering Chained

-- a property name: a written one as a key and as a text, or the expression in its brackets
pub data Keyed : Type 0 where
  WrittenKey : Key → List ℕ → Keyed
  BracketKey : Expressed → Keyed

-- a value of a template, and the stretch of characters behind it
pub record TemplateParted : Type 0 where
  pub value : Lowering CoreExpr
  pub after : Stretch

pub record Templated : Type 0 where
  pub first : Stretch
  pub rest : List TemplateParted

-- what something is assigned to
pub data Form : Type 0 where
  NameForm : Identifier → Form
  MemberForm : Lowering Reached → Form
  PartsForm : Form

-- A pattern: the names that it binds, where it declares some; whether an expression stands in it (14.1.5); its form; what goes to it
-- from a variable, with a default, as a part of another pattern; and the statements by which it takes a value.
pub record Patterned : Type 0 where
  pub names : List Identifier
  pub has_expression : Bool
  pub form : Form
  pub taken : Role → Option (Lowering CoreExpr) → Var → Lowering Target
  pub bound : Role → CoreExpr → Lowering (List CoreStat)

pub record Parted : Type 0 where
  pub pattern : Patterned
  pub default : Option (Lowering CoreExpr)

pub record ArrayParted : Type 0 where
  pub names : List Identifier
  pub has_expression : Bool
  pub lowered : Role → Iteration → Lowering ArrayPart

pub record ObjectParted : Type 0 where
  pub names : List Identifier
  pub has_expression : Bool
  pub lowered : Role → Var → Lowering ObjectPart

pub record Parametered : Type 0 where
  pub part : Parted
  pub is_rest : Bool

-- a function declaration: where its name is declared, and the function
pub record Hoisted : Type 0 where
  pub at : ℕ
  pub made : Lowering FunctionId

-- Statements of one list, of a function's body or of a scope: the names that `var` declares in them (13.3.2.2), the places of the
-- names of its lexical declarations but functions (13.2.6), its functions, and what the statements become.
pub record Listed : Type 0 where
  pub variables : List Identifier
  pub lexicals : List ℕ
  pub functions : List Hoisted
  pub statements : Lowering (List CoreStat)

-- what a jump goes to in it
pub record Exited : Type 0 where
  pub at : ℕ
  pub form : JumpForm

-- A statement as a list of one, and where a jump with a label before it goes to, if there is such a place already.
pub record Stated : Type 0 where
  pub listed : Listed
  pub exit : Option Exited

pub record Cased : Type 0 where
  pub test : Option (Lowering CoreExpr)
  pub body : Listed

-- a statement under a test
pub record Conditioned : Type 0 where
  pub variables : List Identifier
  pub lowered : Lowering CoreCase

-- a catch clause: its parameter, and its block
pub record Caught : Type 0 where
  pub parameter : Patterned
  pub block : Listed

-- what stands before the first semicolon of a for
pub record ForBegun : Type 0 where
  pub variables : List Identifier
  pub lexicals : List ℕ
  pub statements : Lowering (List CoreStat)

-- what stands before the `of` of a for-of: the statements that bind the value in a variable
pub record ForTargeted : Type 0 where
  pub variables : List Identifier
  pub lexicals : List ℕ
  pub bound : Var → Lowering (List CoreStat)

-- a function that is no arrow: its name, and the function in the table
pub record Functioned : Type 0 where
  pub name : Option Identifier
  pub lowered : FunctionForm → Lowering FunctionId

pub record Methoded : Type 0 where
  pub kind : MethodKind
  pub key : Keyed
  pub lowered : FunctionForm → Lowering FunctionId

pub record Membered : Type 0 where
  pub is_static : Bool
  pub method : Methoded

-- a class: the variable that keeps it, and the statements that define it
pub record ClassMade : Type 0 where
  pub class : Var
  pub statements : List CoreStat

pub record Classed : Type 0 where
  pub name : Option Identifier
  pub lowered : Lowering ClassMade

-- an operator with the operand behind it, on the value before it
abbrev pub Operated : Type 0
Operated = CoreExpr → Lowering CoreExpr

-- the types of results, in the order of the kinds of nodes
abbrev pub Layer : (Type 0 → Type 0 → Type 0 → Type 0 → Type 0 → Type 0 → Type 0 → Type 0 → Type 0 → Type 0 → Type 0 → Type 0 → Type 0 → Type 0 → Type 0 → Type 0 → Type 0 → Type 0 → Type 0 → Type 0 → Type 0 → Type 0 → Type 0 → Type 0 → Type 0 → Type 0 → Type 0 → Type 0) → Type 0
Layer Of = Of (Lowering ListPart) ArrayParted Listed (Lowering ListPart) Expressed ForBegun ForTargeted Keyed Linked ObjectParted Parametered Patterned (Lowering ObjectMember) Stated (Lowering FunctionId) Listed Cased Caught Classed Membered Conditioned Functioned Methoded Operated Parted Templated TemplateParted

-- ---- lists of statements

abbrev pub nothing : Listed
nothing = record { variables = []; lexicals = []; functions = []; statements = λ bindings context state. ([], state) }
