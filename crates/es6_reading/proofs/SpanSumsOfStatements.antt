-- How many spans of constructs in statements lie round a place, as sums over what they are made of.
use Rattle.std.proofs.Common.{◌≡◌, ◌∙◌, ℕ, ◌+◌, List, [], ◌++◌, map, Option, Some, None, ap, sym, refl}
use Rattle.es_text.specs.declared.Span.{Span}
use Rattle.es6_ast.specs.declared.operators.VariableKind.{VariableKind}
use Rattle.es6_ast.specs.declared.tree.Identifier.{Identifier}
use Rattle.es6_ast.specs.declared.tree.Expression.{Expression}
use Rattle.es6_ast.specs.declared.tree.ForFirst.{ForFirst}
use Rattle.es6_ast.specs.declared.tree.ForFirst.TheVariants as for_first
use Rattle.es6_ast.specs.declared.tree.ForTarget.{ForTarget}
use Rattle.es6_ast.specs.declared.tree.ForTarget.TheVariants as for_target
use Rattle.es6_ast.specs.declared.tree.Pattern.{Pattern}
use Rattle.es6_ast.specs.declared.tree.Statement.{Statement}
use Rattle.es6_ast.specs.declared.tree.Statement.TheVariants as stat
use Rattle.es6_ast.specs.declared.tree.Block.{Block, roll-Block}
use Rattle.es6_ast.specs.declared.tree.Case.{Case, roll-Case}
use Rattle.es6_ast.specs.declared.tree.Catch.{Catch, roll-Catch}
use Rattle.es6_ast.specs.declared.tree.Class.{Class}
use Rattle.es6_ast.specs.declared.tree.Condition.{Condition, roll-Condition}
use Rattle.es6_ast.specs.declared.tree.Function.{Function}
use Rattle.es6_ast.specs.declared.tree.Part.{Part}
use Rattle.es6_ast.specs.declared.tree.Argument.TheOpen as layer
use Rattle.es6_ast.specs.Depth.{spanned, counted, maybe, joined, all_of}
use Rattle.es6_reading.proofs.SpanCounts.{around, spans_expression, spans_for_first, spans_for_target, spans_pattern, spans_statement, spans_block, spans_case, spans_catch, spans_class, spans_condition, spans_function, spans_part, in_expression, in_for_first, in_for_target, in_pattern, in_statement, with_statement, in_block, in_case, in_catch, in_class, in_condition, in_function, in_part, sum_of, in_some, mapped, plus, all-in, joined-in, maybe-with, maybe-in, maybe-all}
use Rattle.es6_reading.proofs.SpanLayers.{rolled_for_first, rolled_for_target, rolled_statement, rolled_block, rolled_case, rolled_catch, rolled_condition}

no_first-rolled : spans_for_first for_first.NoFirst ≡ []
no_first-rolled = ap spans_for_first (sym for_first.rolls-NoFirst) ∙ rolled_for_first layer.NoFirst

pub in-no_first : (at : ℕ) → in_for_first for_first.NoFirst at ≡ 0
in-no_first at = ap (λ z. around z at) no_first-rolled

first_variables-rolled : (span : Span) (kind : VariableKind) (parts : List Part) → spans_for_first (for_first.FirstVariables span kind parts) ≡ all_of (map spans_part parts)
first_variables-rolled span kind parts = ap spans_for_first (sym (for_first.rolls-FirstVariables span kind parts)) ∙ rolled_for_first (layer.FirstVariables span kind parts)

pub in-first_variables : (span : Span) (kind : VariableKind) (parts : List Part) (at : ℕ) → in_for_first (for_first.FirstVariables span kind parts) at ≡ sum_of in_part parts at
in-first_variables span kind parts at = ap (λ z. around z at) (first_variables-rolled span kind parts) ∙ (all-in at spans_part parts)

first_expression-rolled : (x : Expression) → spans_for_first (for_first.FirstExpression x) ≡ (spans_expression x).inner
first_expression-rolled x = ap spans_for_first (sym (for_first.rolls-FirstExpression x)) ∙ rolled_for_first (layer.FirstExpression x)

pub in-first_expression : (x : Expression) (at : ℕ) → in_for_first (for_first.FirstExpression x) at ≡ in_expression x at
in-first_expression x at = ap (λ z. around z at) (first_expression-rolled x)

declared-rolled : (span : Span) (kind : VariableKind) (x : Pattern) → spans_for_target (for_target.Declared span kind x) ≡ spans_pattern x
declared-rolled span kind x = ap spans_for_target (sym (for_target.rolls-Declared span kind x)) ∙ rolled_for_target (layer.Declared span kind x)

pub in-declared : (span : Span) (kind : VariableKind) (x : Pattern) (at : ℕ) → in_for_target (for_target.Declared span kind x) at ≡ in_pattern x at
in-declared span kind x at = ap (λ z. around z at) (declared-rolled span kind x)

assigned-rolled : (x : Pattern) → spans_for_target (for_target.Assigned x) ≡ spans_pattern x
assigned-rolled x = ap spans_for_target (sym (for_target.rolls-Assigned x)) ∙ rolled_for_target (layer.Assigned x)

pub in-assigned : (x : Pattern) (at : ℕ) → in_for_target (for_target.Assigned x) at ≡ in_pattern x at
in-assigned x at = ap (λ z. around z at) (assigned-rolled x)

block_statement-rolled : (x : Block) → spans_statement (stat.Block x) ≡ spans_block x
block_statement-rolled x = ap spans_statement (sym (stat.rolls-Block x)) ∙ rolled_statement (layer.Block x)

pub in-block_statement : (x : Block) (at : ℕ) → in_statement (stat.Block x) at ≡ in_block x at
in-block_statement x at = ap (λ z. around z.inner at) (block_statement-rolled x)

pub span-block_statement : (x : Block) → (spans_statement (stat.Block x)).span ≡ (spans_block x).span
span-block_statement x = ap (λ z. z.span) (block_statement-rolled x)

variables-rolled : (span : Span) (kind : VariableKind) (parts : List Part) → spans_statement (stat.Variables span kind parts) ≡ spanned span (all_of (map spans_part parts))
variables-rolled span kind parts = ap spans_statement (sym (stat.rolls-Variables span kind parts)) ∙ rolled_statement (layer.Variables span kind parts)

pub in-variables : (span : Span) (kind : VariableKind) (parts : List Part) (at : ℕ) → in_statement (stat.Variables span kind parts) at ≡ sum_of in_part parts at
in-variables span kind parts at = ap (λ z. around z.inner at) (variables-rolled span kind parts) ∙ (all-in at spans_part parts)

pub span-variables : (span : Span) (kind : VariableKind) (parts : List Part) → (spans_statement (stat.Variables span kind parts)).span ≡ span
span-variables span kind parts = ap (λ z. z.span) (variables-rolled span kind parts)

empty-rolled : (span : Span) → spans_statement (stat.Empty span) ≡ spanned span []
empty-rolled span = ap spans_statement (sym (stat.rolls-Empty span)) ∙ rolled_statement (layer.Empty span)

pub in-empty : (span : Span) (at : ℕ) → in_statement (stat.Empty span) at ≡ 0
in-empty span at = ap (λ z. around z.inner at) (empty-rolled span)

pub span-empty : (span : Span) → (spans_statement (stat.Empty span)).span ≡ span
span-empty span = ap (λ z. z.span) (empty-rolled span)

expression_statement-rolled : (span : Span) (x : Expression) → spans_statement (stat.Expression span x) ≡ spanned span ((spans_expression x).inner)
expression_statement-rolled span x = ap spans_statement (sym (stat.rolls-Expression span x)) ∙ rolled_statement (layer.Expression span x)

pub in-expression_statement : (span : Span) (x : Expression) (at : ℕ) → in_statement (stat.Expression span x) at ≡ in_expression x at
in-expression_statement span x at = ap (λ z. around z.inner at) (expression_statement-rolled span x)

pub span-expression_statement : (span : Span) (x : Expression) → (spans_statement (stat.Expression span x)).span ≡ span
span-expression_statement span x = ap (λ z. z.span) (expression_statement-rolled span x)

if-rolled : (span : Span) (first : Condition) (more : List Condition) (otherwise : Option Statement) → spans_statement (stat.If span first more otherwise) ≡ spanned span ((spans_condition first ++ all_of (map spans_condition more)) ++ maybe counted (mapped spans_statement otherwise))
if-rolled span first more None = ap spans_statement (sym (stat.rolls-If span first more None)) ∙ rolled_statement (layer.If span first more None)
if-rolled span first more (Some otherwise) = ap spans_statement (sym (stat.rolls-If span first more (Some otherwise))) ∙ rolled_statement (layer.If span first more (Some otherwise))

pub in-if : (span : Span) (first : Condition) (more : List Condition) (otherwise : Option Statement) (at : ℕ) → in_statement (stat.If span first more otherwise) at ≡ in_condition first at + sum_of in_condition more at + in_some with_statement otherwise at
in-if span first more otherwise at = ap (λ z. around z.inner at) (if-rolled span first more otherwise) ∙ (plus at (spans_condition first ++ all_of (map spans_condition more)) (maybe counted (mapped spans_statement otherwise)) (plus at (spans_condition first) (all_of (map spans_condition more)) refl (all-in at spans_condition more)) (maybe-with at spans_statement otherwise))

pub span-if : (span : Span) (first : Condition) (more : List Condition) (otherwise : Option Statement) → (spans_statement (stat.If span first more otherwise)).span ≡ span
span-if span first more otherwise = ap (λ z. z.span) (if-rolled span first more otherwise)

do_while-rolled : (span : Span) (body : Statement) (x : Expression) → spans_statement (stat.DoWhile span body x) ≡ spanned span (counted (spans_statement body) ++ (spans_expression x).inner)
do_while-rolled span body x = ap spans_statement (sym (stat.rolls-DoWhile span body x)) ∙ rolled_statement (layer.DoWhile span body x)

pub in-do_while : (span : Span) (body : Statement) (x : Expression) (at : ℕ) → in_statement (stat.DoWhile span body x) at ≡ with_statement body at + in_expression x at
in-do_while span body x at = ap (λ z. around z.inner at) (do_while-rolled span body x) ∙ (plus at (counted (spans_statement body)) ((spans_expression x).inner) refl refl)

pub span-do_while : (span : Span) (body : Statement) (x : Expression) → (spans_statement (stat.DoWhile span body x)).span ≡ span
span-do_while span body x = ap (λ z. z.span) (do_while-rolled span body x)

while-rolled : (span : Span) (x : Expression) (body : Statement) → spans_statement (stat.While span x body) ≡ spanned span ((spans_expression x).inner ++ counted (spans_statement body))
while-rolled span x body = ap spans_statement (sym (stat.rolls-While span x body)) ∙ rolled_statement (layer.While span x body)

pub in-while : (span : Span) (x : Expression) (body : Statement) (at : ℕ) → in_statement (stat.While span x body) at ≡ in_expression x at + with_statement body at
in-while span x body at = ap (λ z. around z.inner at) (while-rolled span x body) ∙ (plus at ((spans_expression x).inner) (counted (spans_statement body)) refl refl)

pub span-while : (span : Span) (x : Expression) (body : Statement) → (spans_statement (stat.While span x body)).span ≡ span
span-while span x body = ap (λ z. z.span) (while-rolled span x body)

for-rolled : (span : Span) (first : ForFirst) (test : Option Expression) (update : Option Expression) (body : Statement) → spans_statement (stat.For span first test update body) ≡ spanned span (((spans_for_first first ++ maybe (λ y. y.inner) (mapped spans_expression test)) ++ maybe (λ y. y.inner) (mapped spans_expression update)) ++ counted (spans_statement body))
for-rolled span first None None body = ap spans_statement (sym (stat.rolls-For span first None None body)) ∙ rolled_statement (layer.For span first None None body)
for-rolled span first None (Some update) body = ap spans_statement (sym (stat.rolls-For span first None (Some update) body)) ∙ rolled_statement (layer.For span first None (Some update) body)
for-rolled span first (Some test) None body = ap spans_statement (sym (stat.rolls-For span first (Some test) None body)) ∙ rolled_statement (layer.For span first (Some test) None body)
for-rolled span first (Some test) (Some update) body = ap spans_statement (sym (stat.rolls-For span first (Some test) (Some update) body)) ∙ rolled_statement (layer.For span first (Some test) (Some update) body)

pub in-for : (span : Span) (first : ForFirst) (test : Option Expression) (update : Option Expression) (body : Statement) (at : ℕ) → in_statement (stat.For span first test update body) at ≡ in_for_first first at + in_some in_expression test at + in_some in_expression update at + with_statement body at
in-for span first test update body at = ap (λ z. around z.inner at) (for-rolled span first test update body) ∙ (plus at ((spans_for_first first ++ maybe (λ y. y.inner) (mapped spans_expression test)) ++ maybe (λ y. y.inner) (mapped spans_expression update)) (counted (spans_statement body)) (plus at (spans_for_first first ++ maybe (λ y. y.inner) (mapped spans_expression test)) (maybe (λ y. y.inner) (mapped spans_expression update)) (plus at (spans_for_first first) (maybe (λ y. y.inner) (mapped spans_expression test)) refl (maybe-in at spans_expression test)) (maybe-in at spans_expression update)) refl)

pub span-for : (span : Span) (first : ForFirst) (test : Option Expression) (update : Option Expression) (body : Statement) → (spans_statement (stat.For span first test update body)).span ≡ span
span-for span first test update body = ap (λ z. z.span) (for-rolled span first test update body)

for_of-rolled : (span : Span) (target : ForTarget) (x : Expression) (body : Statement) → spans_statement (stat.ForOf span target x body) ≡ spanned span ((spans_for_target target ++ (spans_expression x).inner) ++ counted (spans_statement body))
for_of-rolled span target x body = ap spans_statement (sym (stat.rolls-ForOf span target x body)) ∙ rolled_statement (layer.ForOf span target x body)

pub in-for_of : (span : Span) (target : ForTarget) (x : Expression) (body : Statement) (at : ℕ) → in_statement (stat.ForOf span target x body) at ≡ in_for_target target at + in_expression x at + with_statement body at
in-for_of span target x body at = ap (λ z. around z.inner at) (for_of-rolled span target x body) ∙ (plus at (spans_for_target target ++ (spans_expression x).inner) (counted (spans_statement body)) (plus at (spans_for_target target) ((spans_expression x).inner) refl refl) refl)

pub span-for_of : (span : Span) (target : ForTarget) (x : Expression) (body : Statement) → (spans_statement (stat.ForOf span target x body)).span ≡ span
span-for_of span target x body = ap (λ z. z.span) (for_of-rolled span target x body)

continue-rolled : (span : Span) (label : Option Identifier) → spans_statement (stat.Continue span label) ≡ spanned span []
continue-rolled span label = ap spans_statement (sym (stat.rolls-Continue span label)) ∙ rolled_statement (layer.Continue span label)

pub in-continue : (span : Span) (label : Option Identifier) (at : ℕ) → in_statement (stat.Continue span label) at ≡ 0
in-continue span label at = ap (λ z. around z.inner at) (continue-rolled span label)

pub span-continue : (span : Span) (label : Option Identifier) → (spans_statement (stat.Continue span label)).span ≡ span
span-continue span label = ap (λ z. z.span) (continue-rolled span label)

break-rolled : (span : Span) (label : Option Identifier) → spans_statement (stat.Break span label) ≡ spanned span []
break-rolled span label = ap spans_statement (sym (stat.rolls-Break span label)) ∙ rolled_statement (layer.Break span label)

pub in-break : (span : Span) (label : Option Identifier) (at : ℕ) → in_statement (stat.Break span label) at ≡ 0
in-break span label at = ap (λ z. around z.inner at) (break-rolled span label)

pub span-break : (span : Span) (label : Option Identifier) → (spans_statement (stat.Break span label)).span ≡ span
span-break span label = ap (λ z. z.span) (break-rolled span label)

return-rolled : (span : Span) (x : Option Expression) → spans_statement (stat.Return span x) ≡ spanned span (maybe (λ y. y.inner) (mapped spans_expression x))
return-rolled span None = ap spans_statement (sym (stat.rolls-Return span None)) ∙ rolled_statement (layer.Return span None)
return-rolled span (Some x) = ap spans_statement (sym (stat.rolls-Return span (Some x))) ∙ rolled_statement (layer.Return span (Some x))

pub in-return : (span : Span) (x : Option Expression) (at : ℕ) → in_statement (stat.Return span x) at ≡ in_some in_expression x at
in-return span x at = ap (λ z. around z.inner at) (return-rolled span x) ∙ (maybe-in at spans_expression x)

pub span-return : (span : Span) (x : Option Expression) → (spans_statement (stat.Return span x)).span ≡ span
span-return span x = ap (λ z. z.span) (return-rolled span x)

switch-rolled : (span : Span) (x : Expression) (cases : List Case) → spans_statement (stat.Switch span x cases) ≡ spanned span ((spans_expression x).inner ++ all_of (map spans_case cases))
switch-rolled span x cases = ap spans_statement (sym (stat.rolls-Switch span x cases)) ∙ rolled_statement (layer.Switch span x cases)

pub in-switch : (span : Span) (x : Expression) (cases : List Case) (at : ℕ) → in_statement (stat.Switch span x cases) at ≡ in_expression x at + sum_of in_case cases at
in-switch span x cases at = ap (λ z. around z.inner at) (switch-rolled span x cases) ∙ (plus at ((spans_expression x).inner) (all_of (map spans_case cases)) refl (all-in at spans_case cases))

pub span-switch : (span : Span) (x : Expression) (cases : List Case) → (spans_statement (stat.Switch span x cases)).span ≡ span
span-switch span x cases = ap (λ z. z.span) (switch-rolled span x cases)

labelled-rolled : (span : Span) (label : Identifier) (body : Statement) → spans_statement (stat.Labelled span label body) ≡ spanned span (counted (spans_statement body))
labelled-rolled span label body = ap spans_statement (sym (stat.rolls-Labelled span label body)) ∙ rolled_statement (layer.Labelled span label body)

pub in-labelled : (span : Span) (label : Identifier) (body : Statement) (at : ℕ) → in_statement (stat.Labelled span label body) at ≡ with_statement body at
in-labelled span label body at = ap (λ z. around z.inner at) (labelled-rolled span label body)

pub span-labelled : (span : Span) (label : Identifier) (body : Statement) → (spans_statement (stat.Labelled span label body)).span ≡ span
span-labelled span label body = ap (λ z. z.span) (labelled-rolled span label body)

throw-rolled : (span : Span) (x : Expression) → spans_statement (stat.Throw span x) ≡ spanned span ((spans_expression x).inner)
throw-rolled span x = ap spans_statement (sym (stat.rolls-Throw span x)) ∙ rolled_statement (layer.Throw span x)

pub in-throw : (span : Span) (x : Expression) (at : ℕ) → in_statement (stat.Throw span x) at ≡ in_expression x at
in-throw span x at = ap (λ z. around z.inner at) (throw-rolled span x)

pub span-throw : (span : Span) (x : Expression) → (spans_statement (stat.Throw span x)).span ≡ span
span-throw span x = ap (λ z. z.span) (throw-rolled span x)

try-rolled : (span : Span) (block : Block) (handler : Option Catch) (last : Option Block) → spans_statement (stat.Try span block handler last) ≡ spanned span (((spans_block block).inner ++ maybe (λ y. y) (mapped spans_catch handler)) ++ maybe (λ y. y.inner) (mapped spans_block last))
try-rolled span block None None = ap spans_statement (sym (stat.rolls-Try span block None None)) ∙ rolled_statement (layer.Try span block None None)
try-rolled span block None (Some last) = ap spans_statement (sym (stat.rolls-Try span block None (Some last))) ∙ rolled_statement (layer.Try span block None (Some last))
try-rolled span block (Some handler) None = ap spans_statement (sym (stat.rolls-Try span block (Some handler) None)) ∙ rolled_statement (layer.Try span block (Some handler) None)
try-rolled span block (Some handler) (Some last) = ap spans_statement (sym (stat.rolls-Try span block (Some handler) (Some last))) ∙ rolled_statement (layer.Try span block (Some handler) (Some last))

pub in-try : (span : Span) (block : Block) (handler : Option Catch) (last : Option Block) (at : ℕ) → in_statement (stat.Try span block handler last) at ≡ in_block block at + in_some in_catch handler at + in_some in_block last at
in-try span block handler last at = ap (λ z. around z.inner at) (try-rolled span block handler last) ∙ (plus at ((spans_block block).inner ++ maybe (λ y. y) (mapped spans_catch handler)) (maybe (λ y. y.inner) (mapped spans_block last)) (plus at ((spans_block block).inner) (maybe (λ y. y) (mapped spans_catch handler)) refl (maybe-all at spans_catch handler)) (maybe-in at spans_block last))

pub span-try : (span : Span) (block : Block) (handler : Option Catch) (last : Option Block) → (spans_statement (stat.Try span block handler last)).span ≡ span
span-try span block handler last = ap (λ z. z.span) (try-rolled span block handler last)

debugger-rolled : (span : Span) → spans_statement (stat.Debugger span) ≡ spanned span []
debugger-rolled span = ap spans_statement (sym (stat.rolls-Debugger span)) ∙ rolled_statement (layer.Debugger span)

pub in-debugger : (span : Span) (at : ℕ) → in_statement (stat.Debugger span) at ≡ 0
in-debugger span at = ap (λ z. around z.inner at) (debugger-rolled span)

pub span-debugger : (span : Span) → (spans_statement (stat.Debugger span)).span ≡ span
span-debugger span = ap (λ z. z.span) (debugger-rolled span)

function_declaration-rolled : (x : Function) → spans_statement (stat.FunctionDeclaration x) ≡ spans_function x
function_declaration-rolled x = ap spans_statement (sym (stat.rolls-FunctionDeclaration x)) ∙ rolled_statement (layer.FunctionDeclaration x)

pub in-function_declaration : (x : Function) (at : ℕ) → in_statement (stat.FunctionDeclaration x) at ≡ in_function x at
in-function_declaration x at = ap (λ z. around z.inner at) (function_declaration-rolled x)

pub span-function_declaration : (x : Function) → (spans_statement (stat.FunctionDeclaration x)).span ≡ (spans_function x).span
span-function_declaration x = ap (λ z. z.span) (function_declaration-rolled x)

class_declaration-rolled : (x : Class) → spans_statement (stat.ClassDeclaration x) ≡ spans_class x
class_declaration-rolled x = ap spans_statement (sym (stat.rolls-ClassDeclaration x)) ∙ rolled_statement (layer.ClassDeclaration x)

pub in-class_declaration : (x : Class) (at : ℕ) → in_statement (stat.ClassDeclaration x) at ≡ in_class x at
in-class_declaration x at = ap (λ z. around z.inner at) (class_declaration-rolled x)

pub span-class_declaration : (x : Class) → (spans_statement (stat.ClassDeclaration x)).span ≡ (spans_class x).span
span-class_declaration x = ap (λ z. z.span) (class_declaration-rolled x)

block-rolled : (span : Span) (statements : List Statement) → spans_block (roll-Block (record { span = span; statements = statements })) ≡ spanned span (joined (λ y. y.inner) (map spans_statement statements))
block-rolled span statements = rolled_block (record { span = span; statements = statements })

pub in-block : (span : Span) (statements : List Statement) (at : ℕ) → in_block (roll-Block (record { span = span; statements = statements })) at ≡ sum_of in_statement statements at
in-block span statements at = ap (λ z. around z.inner at) (block-rolled span statements) ∙ (joined-in at spans_statement statements)

pub span-block : (span : Span) (statements : List Statement) → (spans_block (roll-Block (record { span = span; statements = statements }))).span ≡ span
span-block span statements = ap (λ z. z.span) (block-rolled span statements)

case-rolled : (span : Span) (test : Option Expression) (body : List Statement) → spans_case (roll-Case (record { span = span; test = test; body = body })) ≡ maybe (λ y. y.inner) (mapped spans_expression test) ++ joined (λ y. y.inner) (map spans_statement body)
case-rolled span None body = rolled_case (record { span = span; test = None; body = body })
case-rolled span (Some test) body = rolled_case (record { span = span; test = (Some test); body = body })

pub in-case : (span : Span) (test : Option Expression) (body : List Statement) (at : ℕ) → in_case (roll-Case (record { span = span; test = test; body = body })) at ≡ in_some in_expression test at + sum_of in_statement body at
in-case span test body at = ap (λ z. around z at) (case-rolled span test body) ∙ (plus at (maybe (λ y. y.inner) (mapped spans_expression test)) (joined (λ y. y.inner) (map spans_statement body)) (maybe-in at spans_expression test) (joined-in at spans_statement body))

catch-rolled : (span : Span) (parameter : Pattern) (body : Block) → spans_catch (roll-Catch (record { span = span; parameter = parameter; body = body })) ≡ spans_pattern parameter ++ (spans_block body).inner
catch-rolled span parameter body = rolled_catch (record { span = span; parameter = parameter; body = body })

pub in-catch : (span : Span) (parameter : Pattern) (body : Block) (at : ℕ) → in_catch (roll-Catch (record { span = span; parameter = parameter; body = body })) at ≡ in_pattern parameter at + in_block body at
in-catch span parameter body at = ap (λ z. around z at) (catch-rolled span parameter body) ∙ (plus at (spans_pattern parameter) ((spans_block body).inner) refl refl)

condition-rolled : (span : Span) (test : Expression) (body : Statement) → spans_condition (roll-Condition (record { span = span; test = test; body = body })) ≡ (spans_expression test).inner ++ counted (spans_statement body)
condition-rolled span test body = rolled_condition (record { span = span; test = test; body = body })

pub in-condition : (span : Span) (test : Expression) (body : Statement) (at : ℕ) → in_condition (roll-Condition (record { span = span; test = test; body = body })) at ≡ in_expression test at + with_statement body at
in-condition span test body at = ap (λ z. around z at) (condition-rolled span test body) ∙ (plus at ((spans_expression test).inner) (counted (spans_statement body)) refl refl)
