-- How many constructs are open at a token. Open from its first token to its end is a group in parentheses, brackets or
-- braces; the statement under an `if`, a loop, a label, or an `else` that no `if` follows; the operand of a prefix operator
-- or of `new`; what follows an assignment operator or the `=` of an initializer; and each branch of a conditional
-- expression. Chains of operators, accesses, calls, commas and `else if` count nothing.
use Rattle.std.specs.Prelude.{ℕ, ◌+◌, ◌-◌, ◌==◌, Bool, true, false, ◌&&◌, ◌||◌, not, nat_le, List, [], ◌∷◌, ◌++◌, cond, codes, Option, Some, None, count_by}
use Rattle.es_text.specs.declared.Span.{Span}
use Rattle.es5_ast.specs.declared.operators.UpdateOperator5.{UpdateOperator5}
use Rattle.es5_ast.specs.declared.tree.Stat5.{Stat5, fold-Stat5}
use Rattle.es5_ast.specs.declared.tree.Element5.TheOpen as layer
use Rattle.es5_ast.specs.declared.tree.Element5.TheOpen.{Element5-F, Expr5-F, ForFirst5-F, Link5-F, Property5-F, Stat5-F, Block5-F, Case5-F, Catch5-F, Condition5-F, Declared5-F, Function5-F, Operand5-F}
use Rattle.es5_ast.specs.Lexical.{Kind5, Token5}
use Rattle.es5_ast.specs.Grammar.{is_mark, is_before}

-- how many may be open at one token
abbrev pub most_open : ℕ
most_open = 2048

-- ## Groups, by the tokens

abbrev pub opens_group : Kind5 → ℕ
opens_group k = cond (is_mark (codes "(") k || is_mark (codes "[") k || is_mark (codes "{") k) 1 0

abbrev pub closes_group : Kind5 → ℕ
closes_group k = cond (is_mark (codes ")") k || is_mark (codes "]") k || is_mark (codes "}") k) 1 0

-- the groups that are open behind the token, where so many were before it
abbrev pub groups_behind : ℕ → Token5 → ℕ
groups_behind open_ t = open_ + opens_group t.kind - closes_group t.kind

-- the groups that are open at the last of these tokens
abbrev pub open_groups : ℕ → List Token5 → ℕ
open_groups open_ [] = open_
open_groups open_ (t ∷ []) = open_ + opens_group t.kind
open_groups open_ (t ∷ u ∷ ts) = open_groups (groups_behind open_ t) (u ∷ ts)

-- ## The other constructs, by the tree

-- an expression, a statement, a block and a function give their spans and those of the constructs in them, any other node
-- the latter
pub record Spanned : Type 0 where
  pub span : Span
  pub inner : List Span

abbrev pub spanned : Span → List Span → Spanned
spanned span inner = record { span = span; inner = inner }

abbrev pub counted : Spanned → List Span
counted x = x.span ∷ x.inner

abbrev pub maybe : {A : Type 0} → (A → List Span) → Option A → List Span
maybe f None = []
maybe f (Some x) = f x

abbrev pub joined : {A : Type 0} → (A → List Span) → List A → List Span
joined f [] = []
joined f (x ∷ xs) = f x ++ joined f xs

abbrev pub all_of : List (List Span) → List Span
all_of xs = joined (λ x. x) xs

abbrev pub Layer : (Type 0 → Type 0 → Type 0 → Type 0 → Type 0 → Type 0 → Type 0 → Type 0 → Type 0 → Type 0 → Type 0 → Type 0 → Type 0 → Type 0) → Type 0
Layer Of = Of (List Span) Spanned (List Span) (List Span) (List Span) Spanned Spanned (List Span) (List Span) (List Span) (List Span) Spanned (List Span)

abbrev pub element_step : Layer Element5-F → List Span
element_step layer.Hole = []
element_step (layer.Element x) = x.inner

abbrev pub expr_step : Layer Expr5-F → Spanned
expr_step (layer.This span) = spanned span []
expr_step (layer.Name span name) = spanned span []
expr_step (layer.Literal span value) = spanned span []
expr_step (layer.ArrayList span elements) = spanned span (all_of elements)
expr_step (layer.ObjectList span properties) = spanned span (all_of properties)
expr_step (layer.Function f) = f
expr_step (layer.Chain span head links) = spanned span (head.inner ++ all_of links)
expr_step (layer.New span callee arguments) = spanned span (counted callee ++ joined (λ x. x.inner) arguments)
expr_step (layer.Update span operator target) = spanned span (cond (is_before operator) (counted target) target.inner)
expr_step (layer.Unary span operator operand) = spanned span (counted operand)
expr_step (layer.Binary span first rest) = spanned span (first.inner ++ all_of rest)
expr_step (layer.Conditional span test yes_ no_) = spanned span (test.inner ++ counted yes_ ++ counted no_)
expr_step (layer.Assign span operator target value) = spanned span (target.inner ++ counted value)
expr_step (layer.Sequence span first rest) = spanned span (first.inner ++ joined (λ x. x.inner) rest)

abbrev pub for_first_step : Layer ForFirst5-F → List Span
for_first_step layer.NoFirst = []
for_first_step (layer.FirstVar declared) = all_of declared
for_first_step (layer.FirstExpression x) = x.inner

abbrev pub link_step : Layer Link5-F → List Span
link_step (layer.Member span name) = []
link_step (layer.Index span index) = index.inner
link_step (layer.Call span arguments site) = joined (λ x. x.inner) arguments

abbrev pub property_step : Layer Property5-F → List Span
property_step (layer.Plain span key value) = value.inner
property_step (layer.Getter span key function) = function.inner
property_step (layer.Setter span key function) = function.inner

abbrev pub stat_step : Layer Stat5-F → Spanned
stat_step (layer.Var span declared) = spanned span (all_of declared)
stat_step (layer.FunctionDeclaration function) = function
stat_step (layer.Block block) = block
stat_step (layer.Empty span) = spanned span []
stat_step (layer.Expression span x) = spanned span x.inner
stat_step (layer.If span first more otherwise) = spanned span (first ++ all_of more ++ maybe counted otherwise)
stat_step (layer.DoWhile span body test) = spanned span (counted body ++ test.inner)
stat_step (layer.While span test body) = spanned span (test.inner ++ counted body)
stat_step (layer.For span first test update body) = spanned span (first ++ maybe (λ x. x.inner) test ++ maybe (λ x. x.inner) update ++ counted body)
stat_step (layer.Continue span label) = spanned span []
stat_step (layer.Break span label) = spanned span []
stat_step (layer.Return span value) = spanned span (maybe (λ x. x.inner) value)
stat_step (layer.Switch span subject cases) = spanned span (subject.inner ++ all_of cases)
stat_step (layer.Labelled span label body) = spanned span (counted body)
stat_step (layer.Throw span value) = spanned span value.inner
stat_step (layer.Try span block handler last) = spanned span (block.inner ++ maybe (λ h. h) handler ++ maybe (λ b. b.inner) last)
stat_step (layer.Debugger span) = spanned span []

abbrev pub block_step : Layer Block5-F → Spanned
block_step x = spanned x.span (joined (λ s. s.inner) x.statements)

abbrev pub case_step : Layer Case5-F → List Span
case_step x = maybe (λ y. y.inner) x.test ++ joined (λ s. s.inner) x.body

abbrev pub catch_step : Layer Catch5-F → List Span
catch_step x = x.body.inner

abbrev pub condition_step : Layer Condition5-F → List Span
condition_step x = x.test.inner ++ counted x.body

abbrev pub declared_step : Layer Declared5-F → List Span
declared_step x = maybe counted x.init

abbrev pub function_step : Layer Function5-F → Spanned
function_step x = spanned x.span (joined (λ s. s.inner) x.body)

abbrev pub operand_step : Layer Operand5-F → List Span
operand_step x = x.value.inner

abbrev pub statement_spans : Stat5 → List Span
statement_spans s =
    (fold-Stat5 (List Span) Spanned (List Span) (List Span) (List Span) Spanned Spanned (List Span) (List Span) (List Span) (List Span) Spanned (List Span)
    element_step expr_step for_first_step link_step property_step stat_step block_step case_step catch_step condition_step declared_step function_step operand_step s).inner

-- ## Both

-- Parentheses round an expression have no node: such a construct begins with those that stand directly before its span, and
-- ends with those that close them. The tokens, from its first one to one before the last, hold no such end.
abbrev pub is_unended : ℕ → ℕ → List Token5 → Bool
is_unended end open_ [] = true
is_unended end open_ (t ∷ []) = true
is_unended end open_ (t ∷ u ∷ ts) = not ((groups_behind open_ t == 0) && nat_le end t.end) && is_unended end (groups_behind open_ t) (u ∷ ts)

-- the same with the tokens before it; `run` are those opening parentheses that stand directly before
abbrev pub is_open_at : Span → List Token5 → List Token5 → Bool
is_open_at span run [] = false
is_open_at span run (t ∷ ts) =
    cond (t.begin == span.begin) (is_unended span.end 0 (run ++ t ∷ ts)) (is_open_at span (cond (is_mark (codes "(") t.kind) (run ++ t ∷ []) []) ts)

-- the constructs that are open at the last of the tokens, with which the script begins
abbrev pub open_constructs : List Token5 → List Stat5 → ℕ
open_constructs tokens statements = open_groups 0 tokens + count_by (λ span. is_open_at span [] tokens) (joined statement_spans statements)
