-- In every derivation so many constructs are open at once, and no more.
use Rattle.std.proofs.Common.{ℕ, zero, suc, ◌+◌, ◌≤◌, Bool, List, Option, arith}
use Rattle.es5_ast.specs.declared.tree.Stat5.{Stat5}
use Rattle.es5_ast.specs.declared.tree.Declared5.{Declared5}
use Rattle.es5_ast.specs.declared.tree.Block5.{Block5}
use Rattle.es5_ast.specs.declared.tree.Condition5.{Condition5}
use Rattle.es5_ast.specs.declared.tree.ForFirst5.{ForFirst5}
use Rattle.es5_ast.specs.declared.tree.Case5.{Case5}
use Rattle.es5_ast.specs.declared.tree.Catch5.{Catch5}
use Rattle.es5_ast.specs.declared.tree.Function5.{Function5}
use Rattle.es5_ast.specs.declared.tree.Expr5.{Expr5}
use Rattle.es5_ast.specs.declared.tree.Element5.{Element5}
use Rattle.es5_ast.specs.declared.tree.Property5.{Property5}
use Rattle.es5_ast.specs.declared.tree.Link5.{Link5}
use Rattle.es5_ast.specs.declared.tree.Operand5.{Operand5}
use Rattle.es5_ast.specs.Lexical.{Token5}
use Rattle.es5_ast.specs.Grammar as g
use Rattle.es5_ast.specs.Grammar.{Mode5, IsExpr, IsNode, IsNewCallee, AreElements, AreProperties, IsProperty, IsAccessor, AreLinks, AreArguments, AreOperands, AreParts, IsFunction, AreStats, IsStat, IsBlock, AreDeclared, IsDeclared, IsIf, IsCondition, IsForFirst, IsOptional, IsClosed, IsReturned, AreCases, AreInCase, IsCatch, IsProgram}
use Rattle.es5_ast.specs.Within.{Opens, ExprWithin, NodeWithin, NewCalleeWithin, ElementsWithin, PropertiesWithin, PropertyWithin, AccessorWithin, LinksWithin, ArgumentsWithin, OperandsWithin, PartsWithin, FunctionWithin, StatsWithin, StatWithin, BlockWithin, DeclaredListWithin, DeclaredWithin, IfWithin, ConditionWithin, ForFirstWithin, OptionalWithin, ClosedWithin, ReturnedWithin, CasesWithin, InCaseWithin, CatchWithin, ProgramWithin}

-- this holds wherever at least so many may open
pub record Room (W : ℕ → Type 0) : Type 0 where
  pub bound : ℕ
  pub fits : (n : ℕ) → bound ≤ n → W n

any : Room (λ n. Unit {0})
any = record { bound = 0; fits = λ n l. tt }

two : {A B : ℕ → Type 0} → Room A → Room B → Room (λ n. A n × B n)
two a b = record { bound = a.bound + b.bound; fits = λ n l. (a.fits n (left a.bound b.bound n l), b.fits n (right a.bound b.bound n l)) }
  where
    left : (a b n : ℕ) → a + b ≤ n → a ≤ n
    left a b n l = omega arith

    right : (a b n : ℕ) → a + b ≤ n → b ≤ n
    right a b n l = omega arith

three : {A B C : ℕ → Type 0} → Room A → Room B → Room C → Room (λ n. A n × B n × C n)
three a b c = record { bound = a.bound + b.bound + c.bound; fits = λ n l. (a.fits n (left a.bound b.bound c.bound n l), b.fits n (middle a.bound b.bound c.bound n l), c.fits n (right a.bound b.bound c.bound n l)) }
  where
    left : (a b c n : ℕ) → a + b + c ≤ n → a ≤ n
    left a b c n l = omega arith

    middle : (a b c n : ℕ) → a + b + c ≤ n → b ≤ n
    middle a b c n l = omega arith

    right : (a b c n : ℕ) → a + b + c ≤ n → c ≤ n
    right a b c n l = omega arith

opens : {W : ℕ → Type 0} → Room W → Room (λ n. Opens n (λ m. W m))
opens {W = W} a = record { bound = suc a.bound; fits = at }
  where
    none : (b : ℕ) → suc b ≤ zero → ⊥
    none b l = omega arith

    down : (b n : ℕ) → suc b ≤ suc n → b ≤ n
    down b n l = omega arith

    at : (n : ℕ) → suc a.bound ≤ n → Opens n (λ m. W m)
    at zero l = absurd (none a.bound l)
    at (suc n) l = a.fits n (down a.bound n l)

mutual
  exprE : {mode : Mode5} {k : Bool} {least : ℕ} {ts us : List Token5} {x : Expr5} (d : IsExpr mode k least ts x us) → Room (λ n. ExprWithin d n)
  exprE (g.bare _ _ a) = nodeE a
  exprE (g.group _ a _) = opens (exprE a)

  nodeE : {mode : Mode5} {k : Bool} {level : ℕ} {ts us : List Token5} {x : Expr5} (d : IsNode mode k level ts x us) → Room (λ n. NodeWithin d n)
  nodeE (g.this _ _ _ _) = any
  nodeE (g.identifier _ _ _ _ _ _) = any
  nodeE (g.literal _ _ _ _ _) = any
  nodeE (g.array _ _ _ _ _ a) = opens (elementsE a)
  nodeE (g.object _ _ _ _ _ a) = opens (propertiesE a)
  nodeE (g.function _ _ a) = functionE a
  nodeE (g.chain _ _ _ _ _ _ _ _ a b) = two (exprE a) (linksE b)
  nodeE (g.new_call _ _ _ _ _ _ a _ b) = two (opens (exprE a)) (opens (argumentsE b))
  nodeE (g.new_bare _ _ _ _ _ a) = opens (newCalleeE a)
  nodeE (g.update_after _ _ _ _ _ _ a _ _) = exprE a
  nodeE (g.update_before _ _ _ _ _ _ _ a) = opens (exprE a)
  nodeE (g.unary _ _ _ _ _ _ a) = opens (exprE a)
  nodeE (g.binary_chain _ _ _ _ _ _ _ a b) = two (exprE a) (operandsE b)
  nodeE (g.conditional _ _ _ _ _ _ a _ b _ c) = three (exprE a) (opens (exprE b)) (opens (exprE c))
  nodeE (g.assignment _ _ _ _ _ _ a _ b) = two (exprE a) (opens (exprE b))
  nodeE (g.sequence _ _ _ _ _ _ a b) = two (exprE a) (partsE b)

  newCalleeE : {mode : Mode5} {ts us : List Token5} {x : Expr5} (d : IsNewCallee mode ts x us) → Room (λ n. NewCalleeWithin d n)
  newCalleeE (g.another_new a) = nodeE a
  newCalleeE (g.member a) = exprE a

  elementsE : {mode : Mode5} {ts us : List Token5} {xs : List Element5} (d : AreElements mode ts xs us) → Room (λ n. ElementsWithin d n)
  elementsE (g.no_element _) = any
  elementsE (g.hole _ a) = elementsE a
  elementsE (g.last_element a _) = exprE a
  elementsE (g.next_element a _ b) = two (exprE a) (elementsE b)

  propertiesE : {mode : Mode5} {ts us : List Token5} {xs : List Property5} (d : AreProperties mode ts xs us) → Room (λ n. PropertiesWithin d n)
  propertiesE (g.no_property _) = any
  propertiesE (g.last_property a _) = propertyE a
  propertiesE (g.next_property a _ b) = two (propertyE a) (propertiesE b)

  propertyE : {mode : Mode5} {ts us : List Token5} {x : Property5} (d : IsProperty mode ts x us) → Room (λ n. PropertyWithin d n)
  propertyE (g.plain _ _ _ _ _ _ _ a) = exprE a
  propertyE (g.getter _ _ _ _ _ _ _ a) = accessorE a
  propertyE (g.setter _ _ _ _ _ _ _ a) = accessorE a

  accessorE : {mode : Mode5} {setter : Bool} {ts us : List Token5} {x : Function5} (d : IsAccessor mode setter ts x us) → Room (λ n. AccessorWithin d n)
  accessorE (g.no_value _ _ _ _ _ _ _ a) = two (opens any) (opens (statsE a))
  accessorE (g.one_value _ _ _ _ _ _ _ _ _ a) = two (opens any) (opens (statsE a))

  linksE : {mode : Mode5} {calls : Bool} {ts us : List Token5} {xs : List Link5} (d : AreLinks mode calls ts xs us) → Room (λ n. LinksWithin d n)
  linksE g.no_link = any
  linksE (g.member_link _ _ _ _ _ _ a) = linksE a
  linksE (g.index_link _ _ _ _ _ a _ b) = two (opens (exprE a)) (linksE b)
  linksE (g.call_link _ _ _ _ _ _ a b) = two (opens (argumentsE a)) (linksE b)

  argumentsE : {mode : Mode5} {ts us : List Token5} {xs : List Expr5} (d : AreArguments mode ts xs us) → Room (λ n. ArgumentsWithin d n)
  argumentsE (g.no_argument _) = any
  argumentsE (g.last_argument a _) = exprE a
  argumentsE (g.next_argument a _ b) = two (exprE a) (argumentsE b)

  operandsE : {mode : Mode5} {k : Bool} {level : ℕ} {ts us : List Token5} {xs : List Operand5} (d : AreOperands mode k level ts xs us) → Room (λ n. OperandsWithin d n)
  operandsE g.no_operand = any
  operandsE (g.next_operand _ _ _ _ _ _ a b) = two (exprE a) (operandsE b)

  partsE : {mode : Mode5} {k : Bool} {ts us : List Token5} {xs : List Expr5} (d : AreParts mode k ts xs us) → Room (λ n. PartsWithin d n)
  partsE g.no_part = any
  partsE (g.next_part _ a b) = two (exprE a) (partsE b)

  functionE : {mode : Mode5} {ts us : List Token5} {x : Function5} (d : IsFunction mode ts x us) → Room (λ n. FunctionWithin d n)
  functionE (g.anonymous _ _ _ _ _ _ _ _ _ a) = two (opens any) (opens (statsE a))
  functionE (g.named _ _ _ _ _ _ _ _ _ _ _ a) = two (opens any) (opens (statsE a))

  statsE : {mode : Mode5} {inside top : Bool} {ts us : List Token5} {xs : List Stat5} (d : AreStats mode inside top ts xs us) → Room (λ n. StatsWithin d n)
  statsE (g.no_stat _) = any
  statsE (g.next_stat a b) = two (statE a) (statsE b)

  statE : {mode : Mode5} {inside top : Bool} {ts us : List Token5} {x : Stat5} (d : IsStat mode inside top ts x us) → Room (λ n. StatWithin d n)
  statE (g.block _ _ a) = blockE a
  statE (g.var _ _ _ _ _ a _) = declaredsE a
  statE (g.empty _ _ _ _) = any
  statE (g.expression _ _ _ _ _ _ a _) = exprE a
  statE (g.if _ _ _ _ _ _ a) = ifE a
  statE (g.do_while _ _ _ _ _ _ a _ _ b _ _) = two (opens (statE a)) (opens (exprE b))
  statE (g.while _ _ _ _ _ _ _ a _ b) = two (opens (exprE a)) (opens (statE b))
  statE (g.for _ _ _ _ _ _ _ _ _ a b _ c d) = two (opens (three (firstE a) (optionalE b) (closedE c))) (opens (statE d))
  statE (g.continue _ _ _ _ _ _ _) = any
  statE (g.break _ _ _ _ _ _ _) = any
  statE (g.return _ _ _ _ _ a _) = returnedE a
  statE (g.switch _ _ _ _ _ _ _ a _ _ b) = two (opens (exprE a)) (opens (casesE b))
  statE (g.labelled _ _ _ _ _ _ _ a) = opens (statE a)
  statE (g.throw _ _ _ _ _ _ a _) = exprE a
  statE (g.try_catch _ _ _ _ _ _ a b) = two (blockE a) (catchE b)
  statE (g.try_finally _ _ _ _ _ _ a _ b) = two (blockE a) (blockE b)
  statE (g.try_both _ _ _ _ _ _ _ a b _ c) = three (blockE a) (catchE b) (blockE c)
  statE (g.debugger _ _ _ _ _) = any
  statE (g.declaration _ _ _ _ _ a) = functionE a

  blockE : {mode : Mode5} {inside : Bool} {ts us : List Token5} {x : Block5} (d : IsBlock mode inside ts x us) → Room (λ n. BlockWithin d n)
  blockE (g.braces _ _ _ _ _ a) = opens (statsE a)

  declaredsE : {mode : Mode5} {k : Bool} {ts us : List Token5} {xs : List Declared5} (d : AreDeclared mode k ts xs us) → Room (λ n. DeclaredListWithin d n)
  declaredsE (g.last_declared a) = declaredE a
  declaredsE (g.next_declared a _ b) = two (declaredE a) (declaredsE b)

  declaredE : {mode : Mode5} {k : Bool} {ts us : List Token5} {x : Declared5} (d : IsDeclared mode k ts x us) → Room (λ n. DeclaredWithin d n)
  declaredE (g.uninitialized _ _ _ _ _) = any
  declaredE (g.initialized _ _ _ _ _ _ _ a) = opens (exprE a)

  ifE : {mode : Mode5} {inside : Bool} {ts us : List Token5} {x : Condition5} {xs : List Condition5} {last : Option Stat5} (d : IsIf mode inside ts x xs last us) → Room (λ n. IfWithin d n)
  ifE (g.no_else a _) = conditionE a
  ifE (g.last_else a _ _ b) = two (conditionE a) (opens (statE b))
  ifE (g.else_if a _ b) = two (conditionE a) (ifE b)

  conditionE : {mode : Mode5} {inside : Bool} {ts us : List Token5} {x : Condition5} (d : IsCondition mode inside ts x us) → Room (λ n. ConditionWithin d n)
  conditionE (g.condition _ _ _ _ _ _ _ a _ b) = two (opens (exprE a)) (opens (statE b))

  firstE : {mode : Mode5} {ts us : List Token5} {x : ForFirst5} (d : IsForFirst mode ts x us) → Room (λ n. ForFirstWithin d n)
  firstE (g.nothing_first _) = any
  firstE (g.var_first _ _ _ a _) = declaredsE a
  firstE (g.expression_first _ _ a _) = exprE a

  optionalE : {mode : Mode5} {ts us : List Token5} {x : Option Expr5} (d : IsOptional mode ts x us) → Room (λ n. OptionalWithin d n)
  optionalE g.absent = any
  optionalE (g.present a) = exprE a

  closedE : {mode : Mode5} {ts us : List Token5} {x : Option Expr5} (d : IsClosed mode ts x us) → Room (λ n. ClosedWithin d n)
  closedE (g.closed a _) = optionalE a

  returnedE : {mode : Mode5} {ts us : List Token5} {x : Option Expr5} (d : IsReturned mode ts x us) → Room (λ n. ReturnedWithin d n)
  returnedE g.no_value_returned = any
  returnedE (g.value_returned _ a) = exprE a

  casesE : {mode : Mode5} {inside may : Bool} {ts us : List Token5} {xs : List Case5} (d : AreCases mode inside may ts xs us) → Room (λ n. CasesWithin d n)
  casesE (g.no_case _) = any
  casesE (g.case_clause _ _ _ _ _ _ a _ b c) = three (exprE a) (inCaseE b) (casesE c)
  casesE (g.default_clause _ _ _ _ _ _ a b) = two (inCaseE a) (casesE b)

  inCaseE : {mode : Mode5} {inside : Bool} {ts us : List Token5} {xs : List Stat5} (d : AreInCase mode inside ts xs us) → Room (λ n. InCaseWithin d n)
  inCaseE g.no_more_in_case = any
  inCaseE (g.next_in_case a b) = two (statE a) (inCaseE b)

  catchE : {mode : Mode5} {inside : Bool} {ts us : List Token5} {x : Catch5} (d : IsCatch mode inside ts x us) → Room (λ n. CatchWithin d n)
  catchE (g.handler _ _ _ _ _ _ _ _ _ a) = two (opens any) (blockE a)

pub enough : {mode : Mode5} {ts : List Token5} {xs : List Stat5} (d : IsProgram mode ts xs) → Room (λ n. ProgramWithin d n)
enough g.no_more = any
enough (g.one_more a b) = two (statE a) (enough b)
