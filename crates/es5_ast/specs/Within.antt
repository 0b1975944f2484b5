-- How many constructs, as Depth.antt has them, are open at once in a derivation: what is proved of readers counts so.
use Rattle.std.specs.Prelude.{ℕ, zero, suc, Bool, List, Option}
use Rattle.es5_ast.specs.declared.tree.Element5.{Element5}
use Rattle.es5_ast.specs.declared.tree.Property5.{Property5}
use Rattle.es5_ast.specs.declared.tree.Link5.{Link5}
use Rattle.es5_ast.specs.declared.tree.Operand5.{Operand5}
use Rattle.es5_ast.specs.declared.tree.Function5.{Function5}
use Rattle.es5_ast.specs.declared.tree.Expr5.{Expr5}
use Rattle.es5_ast.specs.declared.tree.Stat5.{Stat5}
use Rattle.es5_ast.specs.declared.tree.Block5.{Block5}
use Rattle.es5_ast.specs.declared.tree.Declared5.{Declared5}
use Rattle.es5_ast.specs.declared.tree.Condition5.{Condition5}
use Rattle.es5_ast.specs.declared.tree.ForFirst5.{ForFirst5}
use Rattle.es5_ast.specs.declared.tree.Case5.{Case5}
use Rattle.es5_ast.specs.declared.tree.Catch5.{Catch5}
use Rattle.es5_ast.specs.Lexical.{Token5}
use Rattle.es5_ast.specs.Grammar.{Mode5, AreArguments, AreCases, AreDeclared, AreElements, AreInCase, AreLinks, AreOperands, AreParts, AreProperties, AreStats, IsAccessor, IsBlock, IsCatch, IsClosed, IsCondition, IsDeclared, IsExpr, IsForFirst, IsFunction, IsIf, IsNewCallee, IsNode, IsOptional, IsProgram, IsProperty, IsReturned, IsStat, absent, anonymous, another_new, array, assignment, bare, binary_chain, block, braces, break, call_link, case_clause, chain, closed, condition, conditional, continue, debugger, declaration, default_clause, do_while, else_if, empty, expression, expression_first, for, function, getter, group, handler, hole, identifier, if, index_link, initialized, labelled, last_argument, last_declared, last_element, last_else, last_property, literal, member, member_link, named, new_bare, new_call, next_argument, next_declared, next_element, next_in_case, next_operand, next_part, next_property, next_stat, no_argument, no_case, no_element, no_else, no_link, no_more_in_case, no_operand, no_part, no_property, no_stat, no_value, no_value_returned, nothing_first, object, one_more, one_value, plain, present, return, sequence, setter, switch, this, throw, try_both, try_catch, try_finally, unary, uninitialized, update_after, update_before, value_returned, var, var_first, while, no_more}

-- one more construct opens, and this holds of what is inside
abbrev pub Opens : ℕ → (ℕ → Type 0) → Type 0
Opens zero inside = ⊥
Opens (suc n) inside = inside n

-- at most so many are open
abbrev mutual
  pub ExprWithin : {mode : Mode5} {no_in : Bool} {least : ℕ} {ts : List Token5} {x : Expr5} {us : List Token5} → IsExpr mode no_in least ts x us → ℕ → Type 0
  ExprWithin (bare _ _ a) n = NodeWithin a n
  ExprWithin (group _ a _) n = Opens n (λ m. ExprWithin a m)

  pub NodeWithin : {mode : Mode5} {no_in : Bool} {level : ℕ} {ts : List Token5} {x : Expr5} {us : List Token5} → IsNode mode no_in level ts x us → ℕ → Type 0
  NodeWithin (this _ _ _ _) n = Unit {0}
  NodeWithin (identifier _ _ _ _ _ _) n = Unit {0}
  NodeWithin (literal _ _ _ _ _) n = Unit {0}
  NodeWithin (array _ _ _ _ _ a) n = Opens n (λ m. ElementsWithin a m)
  NodeWithin (object _ _ _ _ _ a) n = Opens n (λ m. PropertiesWithin a m)
  NodeWithin (function _ _ a) n = FunctionWithin a n
  NodeWithin (chain _ _ _ _ _ _ _ _ a b) n = ExprWithin a n × LinksWithin b n
  NodeWithin (new_call _ _ _ _ _ _ a _ b) n = Opens n (λ m. ExprWithin a m) × Opens n (λ m. ArgumentsWithin b m)
  NodeWithin (new_bare _ _ _ _ _ a) n = Opens n (λ m. NewCalleeWithin a m)
  NodeWithin (update_after _ _ _ _ _ _ a _ _) n = ExprWithin a n
  NodeWithin (update_before _ _ _ _ _ _ _ a) n = Opens n (λ m. ExprWithin a m)
  NodeWithin (unary _ _ _ _ _ _ a) n = Opens n (λ m. ExprWithin a m)
  NodeWithin (binary_chain _ _ _ _ _ _ _ a b) n = ExprWithin a n × OperandsWithin b n
  NodeWithin (conditional _ _ _ _ _ _ a _ b _ c) n = ExprWithin a n × Opens n (λ m. ExprWithin b m) × Opens n (λ m. ExprWithin c m)
  NodeWithin (assignment _ _ _ _ _ _ a _ b) n = ExprWithin a n × Opens n (λ m. ExprWithin b m)
  NodeWithin (sequence _ _ _ _ _ _ a b) n = ExprWithin a n × PartsWithin b n

  pub NewCalleeWithin : {mode : Mode5} {ts : List Token5} {x : Expr5} {us : List Token5} → IsNewCallee mode ts x us → ℕ → Type 0
  NewCalleeWithin (another_new a) n = NodeWithin a n
  NewCalleeWithin (member a) n = ExprWithin a n

  pub ElementsWithin : {mode : Mode5} {ts : List Token5} {xs : List Element5} {us : List Token5} → AreElements mode ts xs us → ℕ → Type 0
  ElementsWithin (no_element _) n = Unit {0}
  ElementsWithin (hole _ a) n = ElementsWithin a n
  ElementsWithin (last_element a _) n = ExprWithin a n
  ElementsWithin (next_element a _ b) n = ExprWithin a n × ElementsWithin b n

  pub PropertiesWithin : {mode : Mode5} {ts : List Token5} {xs : List Property5} {us : List Token5} → AreProperties mode ts xs us → ℕ → Type 0
  PropertiesWithin (no_property _) n = Unit {0}
  PropertiesWithin (last_property a _) n = PropertyWithin a n
  PropertiesWithin (next_property a _ b) n = PropertyWithin a n × PropertiesWithin b n

  pub PropertyWithin : {mode : Mode5} {ts : List Token5} {x : Property5} {us : List Token5} → IsProperty mode ts x us → ℕ → Type 0
  PropertyWithin (plain _ _ _ _ _ _ _ a) n = ExprWithin a n
  PropertyWithin (getter _ _ _ _ _ _ _ a) n = AccessorWithin a n
  PropertyWithin (setter _ _ _ _ _ _ _ a) n = AccessorWithin a n

  pub AccessorWithin : {mode : Mode5} {setter : Bool} {ts : List Token5} {x : Function5} {us : List Token5} → IsAccessor mode setter ts x us → ℕ → Type 0
  AccessorWithin (no_value _ _ _ _ _ _ _ a) n = Opens n (λ m. Unit {0}) × Opens n (λ m. StatsWithin a m)
  AccessorWithin (one_value _ _ _ _ _ _ _ _ _ a) n = Opens n (λ m. Unit {0}) × Opens n (λ m. StatsWithin a m)

  pub LinksWithin : {mode : Mode5} {calls : Bool} {ts : List Token5} {xs : List Link5} {us : List Token5} → AreLinks mode calls ts xs us → ℕ → Type 0
  LinksWithin no_link n = Unit {0}
  LinksWithin (member_link _ _ _ _ _ _ a) n = LinksWithin a n
  LinksWithin (index_link _ _ _ _ _ a _ b) n = Opens n (λ m. ExprWithin a m) × LinksWithin b n
  LinksWithin (call_link _ _ _ _ _ _ a b) n = Opens n (λ m. ArgumentsWithin a m) × LinksWithin b n

  pub ArgumentsWithin : {mode : Mode5} {ts : List Token5} {xs : List Expr5} {us : List Token5} → AreArguments mode ts xs us → ℕ → Type 0
  ArgumentsWithin (no_argument _) n = Unit {0}
  ArgumentsWithin (last_argument a _) n = ExprWithin a n
  ArgumentsWithin (next_argument a _ b) n = ExprWithin a n × ArgumentsWithin b n

  pub OperandsWithin : {mode : Mode5} {no_in : Bool} {level : ℕ} {ts : List Token5} {xs : List Operand5} {us : List Token5} → AreOperands mode no_in level ts xs us → ℕ → Type 0
  OperandsWithin no_operand n = Unit {0}
  OperandsWithin (next_operand _ _ _ _ _ _ a b) n = ExprWithin a n × OperandsWithin b n

  pub PartsWithin : {mode : Mode5} {no_in : Bool} {ts : List Token5} {xs : List Expr5} {us : List Token5} → AreParts mode no_in ts xs us → ℕ → Type 0
  PartsWithin no_part n = Unit {0}
  PartsWithin (next_part _ a b) n = ExprWithin a n × PartsWithin b n

  pub FunctionWithin : {mode : Mode5} {ts : List Token5} {x : Function5} {us : List Token5} → IsFunction mode ts x us → ℕ → Type 0
  FunctionWithin (anonymous _ _ _ _ _ _ _ _ _ a) n = Opens n (λ m. Unit {0}) × Opens n (λ m. StatsWithin a m)
  FunctionWithin (named _ _ _ _ _ _ _ _ _ _ _ a) n = Opens n (λ m. Unit {0}) × Opens n (λ m. StatsWithin a m)

  pub StatsWithin : {mode : Mode5} {inside top : Bool} {ts : List Token5} {xs : List Stat5} {us : List Token5} → AreStats mode inside top ts xs us → ℕ → Type 0
  StatsWithin (no_stat _) n = Unit {0}
  StatsWithin (next_stat a b) n = StatWithin a n × StatsWithin b n

  pub StatWithin : {mode : Mode5} {inside top : Bool} {ts : List Token5} {x : Stat5} {us : List Token5} → IsStat mode inside top ts x us → ℕ → Type 0
  StatWithin (block _ _ a) n = BlockWithin a n
  StatWithin (var _ _ _ _ _ a _) n = DeclaredListWithin a n
  StatWithin (empty _ _ _ _) n = Unit {0}
  StatWithin (expression _ _ _ _ _ _ a _) n = ExprWithin a n
  StatWithin (if _ _ _ _ _ _ a) n = IfWithin a n
  StatWithin (do_while _ _ _ _ _ _ a _ _ b _ _) n = Opens n (λ m. StatWithin a m) × Opens n (λ m. ExprWithin b m)
  StatWithin (while _ _ _ _ _ _ _ a _ b) n = Opens n (λ m. ExprWithin a m) × Opens n (λ m. StatWithin b m)
  StatWithin (for _ _ _ _ _ _ _ _ _ a b _ c d) n = Opens n (λ m. ForFirstWithin a m × OptionalWithin b m × ClosedWithin c m) × Opens n (λ m. StatWithin d m)
  StatWithin (continue _ _ _ _ _ _ _) n = Unit {0}
  StatWithin (break _ _ _ _ _ _ _) n = Unit {0}
  StatWithin (return _ _ _ _ _ a _) n = ReturnedWithin a n
  StatWithin (switch _ _ _ _ _ _ _ a _ _ b) n = Opens n (λ m. ExprWithin a m) × Opens n (λ m. CasesWithin b m)
  StatWithin (labelled _ _ _ _ _ _ _ a) n = Opens n (λ m. StatWithin a m)
  StatWithin (throw _ _ _ _ _ _ a _) n = ExprWithin a n
  StatWithin (try_catch _ _ _ _ _ _ a b) n = BlockWithin a n × CatchWithin b n
  StatWithin (try_finally _ _ _ _ _ _ a _ b) n = BlockWithin a n × BlockWithin b n
  StatWithin (try_both _ _ _ _ _ _ _ a b _ c) n = BlockWithin a n × CatchWithin b n × BlockWithin c n
  StatWithin (debugger _ _ _ _ _) n = Unit {0}
  StatWithin (declaration _ _ _ _ _ a) n = FunctionWithin a n

  pub BlockWithin : {mode : Mode5} {inside : Bool} {ts : List Token5} {x : Block5} {us : List Token5} → IsBlock mode inside ts x us → ℕ → Type 0
  BlockWithin (braces _ _ _ _ _ a) n = Opens n (λ m. StatsWithin a m)

  pub DeclaredListWithin : {mode : Mode5} {no_in : Bool} {ts : List Token5} {xs : List Declared5} {us : List Token5} → AreDeclared mode no_in ts xs us → ℕ → Type 0
  DeclaredListWithin (last_declared a) n = DeclaredWithin a n
  DeclaredListWithin (next_declared a _ b) n = DeclaredWithin a n × DeclaredListWithin b n

  pub DeclaredWithin : {mode : Mode5} {no_in : Bool} {ts : List Token5} {x : Declared5} {us : List Token5} → IsDeclared mode no_in ts x us → ℕ → Type 0
  DeclaredWithin (uninitialized _ _ _ _ _) n = Unit {0}
  DeclaredWithin (initialized _ _ _ _ _ _ _ a) n = Opens n (λ m. ExprWithin a m)

  pub IfWithin : {mode : Mode5} {inside : Bool} {ts : List Token5} {x : Condition5} {xs : List Condition5} {last : Option Stat5} {us : List Token5} → IsIf mode inside ts x xs last us → ℕ → Type 0
  IfWithin (no_else a _) n = ConditionWithin a n
  IfWithin (last_else a _ _ b) n = ConditionWithin a n × Opens n (λ m. StatWithin b m)
  IfWithin (else_if a _ b) n = ConditionWithin a n × IfWithin b n

  pub ConditionWithin : {mode : Mode5} {inside : Bool} {ts : List Token5} {x : Condition5} {us : List Token5} → IsCondition mode inside ts x us → ℕ → Type 0
  ConditionWithin (condition _ _ _ _ _ _ _ a _ b) n = Opens n (λ m. ExprWithin a m) × Opens n (λ m. StatWithin b m)

  pub ForFirstWithin : {mode : Mode5} {ts : List Token5} {x : ForFirst5} {us : List Token5} → IsForFirst mode ts x us → ℕ → Type 0
  ForFirstWithin (nothing_first _) n = Unit {0}
  ForFirstWithin (var_first _ _ _ a _) n = DeclaredListWithin a n
  ForFirstWithin (expression_first _ _ a _) n = ExprWithin a n

  pub OptionalWithin : {mode : Mode5} {ts : List Token5} {x : Option Expr5} {us : List Token5} → IsOptional mode ts x us → ℕ → Type 0
  OptionalWithin absent n = Unit {0}
  OptionalWithin (present a) n = ExprWithin a n

  pub ClosedWithin : {mode : Mode5} {ts : List Token5} {x : Option Expr5} {us : List Token5} → IsClosed mode ts x us → ℕ → Type 0
  ClosedWithin (closed a _) n = OptionalWithin a n

  pub ReturnedWithin : {mode : Mode5} {ts : List Token5} {x : Option Expr5} {us : List Token5} → IsReturned mode ts x us → ℕ → Type 0
  ReturnedWithin no_value_returned n = Unit {0}
  ReturnedWithin (value_returned _ a) n = ExprWithin a n

  pub CasesWithin : {mode : Mode5} {inside may : Bool} {ts : List Token5} {xs : List Case5} {us : List Token5} → AreCases mode inside may ts xs us → ℕ → Type 0
  CasesWithin (no_case _) n = Unit {0}
  CasesWithin (case_clause _ _ _ _ _ _ a _ b c) n = ExprWithin a n × InCaseWithin b n × CasesWithin c n
  CasesWithin (default_clause _ _ _ _ _ _ a b) n = InCaseWithin a n × CasesWithin b n

  pub InCaseWithin : {mode : Mode5} {inside : Bool} {ts : List Token5} {xs : List Stat5} {us : List Token5} → AreInCase mode inside ts xs us → ℕ → Type 0
  InCaseWithin no_more_in_case n = Unit {0}
  InCaseWithin (next_in_case a b) n = StatWithin a n × InCaseWithin b n

  pub CatchWithin : {mode : Mode5} {inside : Bool} {ts : List Token5} {x : Catch5} {us : List Token5} → IsCatch mode inside ts x us → ℕ → Type 0
  CatchWithin (handler _ _ _ _ _ _ _ _ _ a) n = Opens n (λ m. Unit {0}) × BlockWithin a n

abbrev pub ProgramWithin : {mode : Mode5} {ts : List Token5} {xs : List Stat5} → IsProgram mode ts xs → ℕ → Type 0
ProgramWithin no_more n = Unit {0}
ProgramWithin (one_more a b) n = StatWithin a n × ProgramWithin b n
