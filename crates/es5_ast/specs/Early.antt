-- The pairs of a rule and a place by which a script of the grammar is none of the profile: the early errors of strict code
-- (ECMA-262, 5.1 edition, 11.1.5, 11.3, 11.4, 11.13, 12.2.1, 12.7, 12.8, 12.12, 12.14.1, 13.1, annex C), and two references
-- that the profile leaves out. docs/ES5_PROFILE.md has the tables.
use Rattle.std.specs.Prelude.{◌≡◌, ℕ, Bool, true, false, ◌&&◌, ◌||◌, not, cond, if◌then◌else◌, ◌==◌, nat_lt, List, [], ◌∷◌, ◌++◌, fold, codes, Option, Some, None, All, Contains}
use Rattle.std.specs.List.{list_any}
use Rattle.std.specs.Fmt.{decimal}
use Rattle.std.specs.Str.{bytes_eq}
use Rattle.es_text.specs.declared.Span.{Span}
use Rattle.es5_ast.specs.declared.operators.UnaryOperator5.{UnaryOperator5}
use Rattle.es5_ast.specs.declared.operators.UnaryOperator5.TheVariants.{Delete, Void, Typeof, Plus, Minus, BitNot, Not}
use Rattle.es5_ast.specs.declared.operators.Key5.{Key5}
use Rattle.es5_ast.specs.declared.operators.Key5.TheVariants.{WordKey, TextKey, IntegerKey}
use Rattle.es5_ast.specs.declared.tree.Identifier5.{Identifier5}
use Rattle.es5_ast.specs.declared.tree.Stat5.{Stat5, fold-Stat5}
use Rattle.es5_ast.specs.declared.tree.Element5.TheOpen as layer
use Rattle.es5_ast.specs.declared.tree.Element5.TheOpen.{Element5-F, Expr5-F, ForFirst5-F, Link5-F, Property5-F, Stat5-F, Block5-F, Case5-F, Catch5-F, Condition5-F, Declared5-F, Function5-F, Operand5-F}
use Rattle.es5_ast.specs.Lexical.{is_one_of}

-- a rule's number, whether it is an early error (F) or outside the profile (V), and the place
pub data Rule5 : Type 0 where
  F : ℕ → Rule5
  V : ℕ → Rule5

pub record Pair5 : Type 0 where
  pub rule : Rule5
  pub at : ℕ

-- Which of two pairs comes first: by place, at one place an early error before what is outside the profile, then by number.
abbrev pub rule_comes_first : Rule5 → Rule5 → Bool
rule_comes_first (F m) (F n) = nat_lt m n
rule_comes_first (F m) (V n) = true
rule_comes_first (V m) (F n) = false
rule_comes_first (V m) (V n) = nat_lt m n

abbrev pub comes_first : Pair5 → Pair5 → Bool
comes_first p q = nat_lt p.at q.at || ((p.at == q.at) && rule_comes_first p.rule q.rule)

abbrev pub earlier : Option Pair5 → Pair5 → Option Pair5
earlier None p = Some p
earlier (Some q) p = Some (if comes_first p q then p else q)

-- the pair is one of these, and none of them comes before it
abbrev pub IsFirst : Pair5 → List Pair5 → Type 0
IsFirst p pairs = Contains pairs p × All (λ q. comes_first q p ≡ false) pairs

-- the pair that is reported of these: the one that comes first
abbrev pub least_pair : List Pair5 → Option Pair5
least_pair pairs = fold earlier None pairs

abbrev pub when : Bool → Rule5 → ℕ → List Pair5
when test rule at = cond test (record { rule = rule; at = at } ∷ []) []

abbrev pub joined : {A : Type 0} → (A → List Pair5) → List A → List Pair5
joined f [] = []
joined f (x ∷ xs) = f x ++ joined f xs

-- What counts for labels, `break` and `continue` inside the innermost function: the labels round the place, those of
-- loops among them, those that stand directly before the statement, and whether a loop, or a loop or switch, is round it.
-- `inside` says that there is a function round it.
pub record Round5 : Type 0 where
  pub inside : Bool
  pub labels : List (List ℕ)
  pub loops : List (List ℕ)
  pub before : List (List ℕ)
  pub in_loop : Bool
  pub in_switch : Bool

abbrev pub of_function : Bool → Round5
of_function inside = record { inside = inside; labels = []; loops = []; before = []; in_loop = false; in_switch = false }

abbrev pub under : Round5 → Round5
under r = record r { before = [] }

abbrev pub under_loop : Round5 → Round5
under_loop r = record r { loops = r.before ++ r.loops; before = []; in_loop = true }

abbrev pub under_switch : Round5 → Round5
under_switch r = record r { before = []; in_switch = true }

abbrev pub under_label : List ℕ → Round5 → Round5
under_label name r = record r { labels = name ∷ r.labels; before = name ∷ r.before }

-- what an expression is as a target
pub data Target5 : Type 0 where
  NameTarget : List ℕ → Target5
  PropertyTarget : Target5
  NoTarget : Target5

-- an expression: what it is as a target, and its first token's place, parentheses round it aside
pub record Found5 : Type 0 where
  pub target : Target5
  pub begin : ℕ
  -- the pairs in the expression, by whether a function is round it
  pub pairs : Bool → List Pair5

-- a function: its first token's place, and its pairs, which nothing round it changes
pub record Whole5 : Type 0 where
  pub begin : ℕ
  pub pairs : List Pair5

abbrev pub bare_pairs : Target5 → Span → (Bool → List Pair5) → Found5
bare_pairs target span pairs = record { target = target; begin = span.begin; pairs = pairs }

-- `eval` and `arguments` (11.3, 11.4.4, 11.4.5, 11.13.1, 12.2.1, 12.14.1, 13.1)
abbrev pub is_restricted : List ℕ → Bool
is_restricted name = is_one_of name (codes "eval" ∷ codes "arguments" ∷ [])

-- F2 at a name that is bound
abbrev pub bound : Identifier5 → List Pair5
bound x = when (is_restricted x.name) (F 2) x.span.begin

-- F2 and F5 at a target that is assigned or updated
abbrev pub assigned_target : Target5 → ℕ → List Pair5
assigned_target (NameTarget name) at = when (is_restricted name) (F 2) at
assigned_target PropertyTarget at = []
assigned_target NoTarget at = when true (F 5) at

abbrev pub assigned : Found5 → List Pair5
assigned x = assigned_target x.target x.begin

abbrev pub is_name_target : Target5 → Bool
is_name_target (NameTarget name) = true
is_name_target PropertyTarget = false
is_name_target NoTarget = false

-- F3
abbrev pub deleted : UnaryOperator5 → Target5 → ℕ → List Pair5
deleted Delete x at = when (is_name_target x) (F 3) at
deleted Void x at = []
deleted Typeof x at = []
deleted Plus x at = []
deleted Minus x at = []
deleted BitNot x at = []
deleted Not x at = []

-- F1 at a parameter whose name stands before it
abbrev pub parameter_pairs : List (List ℕ) → List Identifier5 → List Pair5
parameter_pairs seen [] = []
parameter_pairs seen (x ∷ xs) = when (is_one_of x.name seen) (F 1) x.span.begin ++ bound x ++ parameter_pairs (x.name ∷ seen) xs

-- a property of an object literal: its name, and whether it is data, a getter or a setter (11.1.5)
pub data Sort5 : Type 0 where
  Data : Sort5
  Get : Sort5
  Set : Sort5

abbrev pub clashes : Sort5 → Sort5 → Bool
clashes Data other = true
clashes Get Data = true
clashes Get Get = true
clashes Get Set = false
clashes Set Data = true
clashes Set Get = false
clashes Set Set = true

pub record Held5 : Type 0 where
  pub name : List ℕ
  pub sort : Sort5
  pub at : ℕ
  pub pairs : Bool → List Pair5

abbrev pub key_text : Key5 → List ℕ
key_text (WordKey name) = name
key_text (TextKey units) = units
key_text (IntegerKey value) = decimal value

-- F4
abbrev pub property_pairs : List Held5 → List Held5 → Bool → List Pair5
property_pairs seen [] inside = []
property_pairs seen (p ∷ ps) inside = when (list_any (λ q. bytes_eq p.name q.name && clashes q.sort p.sort) seen) (F 4) p.at ++ p.pairs inside ++ property_pairs (p ∷ seen) ps inside

-- F7 at a label that is not round the place, or at the word
abbrev pub jump_pairs : Option Identifier5 → List (List ℕ) → Bool → Span → List Pair5
jump_pairs None labels allowed span = when (not allowed) (F 7) span.begin
jump_pairs (Some x) labels allowed span = when (not (is_one_of x.name labels)) (F 7) x.span.begin

abbrev pub option_pairs : {A : Type 0} → (A → List Pair5) → Option A → List Pair5
option_pairs f None = []
option_pairs f (Some x) = f x

-- What each node gives, by what its children give: an expression a Found5, a property a Held5, a function a Whole5, an
-- element, link, variable and operand their pairs by whether a function is round them, and a statement and its parts theirs
-- by what is round them.
abbrev pub Inside : Type 0
Inside = Bool → List Pair5

abbrev pub Around : Type 0
Around = Round5 → List Pair5

-- whether the last link of a chain is an access
abbrev pub ends_in_access : List (Bool × Inside) → Bool
ends_in_access [] = false
ends_in_access (l ∷ []) = l.0
ends_in_access (l ∷ m ∷ ls) = ends_in_access (m ∷ ls)

abbrev pub Layer : (Type 0 → Type 0 → Type 0 → Type 0 → Type 0 → Type 0 → Type 0 → Type 0 → Type 0 → Type 0 → Type 0 → Type 0 → Type 0 → Type 0) → Type 0
Layer Of = Of Inside Found5 Around (Bool × Inside) Held5 Around Around Around Around Around Inside Whole5 Inside

abbrev pub element_step : Layer Element5-F → Inside
element_step layer.Hole = λ inside. []
element_step (layer.Element x) = x.pairs

abbrev pub expr_step : Layer Expr5-F → Found5
expr_step (layer.This span) = bare_pairs NoTarget span (λ inside. when (not inside) (V 6) span.begin)
expr_step (layer.Name span name) = bare_pairs (NameTarget name) span (λ inside. when (bytes_eq name (codes "eval")) (V 7) span.begin)
expr_step (layer.Literal span value) = bare_pairs NoTarget span (λ inside. [])
expr_step (layer.ArrayList span elements) = bare_pairs NoTarget span (λ inside. joined (λ e. e inside) elements)
expr_step (layer.ObjectList span properties) = bare_pairs NoTarget span (property_pairs [] properties)
expr_step (layer.Function f) = record { target = NoTarget; begin = f.begin; pairs = λ inside. f.pairs }
expr_step (layer.Chain span head links) = bare_pairs (cond (ends_in_access links) PropertyTarget NoTarget) span (λ inside. head.pairs inside ++ joined (λ l. l.1 inside) links)
expr_step (layer.New span callee arguments) = bare_pairs NoTarget span (λ inside. callee.pairs inside ++ joined (λ x. x.pairs inside) arguments)
expr_step (layer.Update span operator target) = bare_pairs NoTarget span (λ inside. assigned target ++ target.pairs inside)
expr_step (layer.Unary span operator operand) = bare_pairs NoTarget span (λ inside. deleted operator operand.target span.begin ++ operand.pairs inside)
expr_step (layer.Binary span first rest) = bare_pairs NoTarget span (λ inside. first.pairs inside ++ joined (λ o. o inside) rest)
expr_step (layer.Conditional span test yes_ no_) = bare_pairs NoTarget span (λ inside. test.pairs inside ++ yes_.pairs inside ++ no_.pairs inside)
expr_step (layer.Assign span operator target value) = bare_pairs NoTarget span (λ inside. assigned target ++ target.pairs inside ++ value.pairs inside)
expr_step (layer.Sequence span first rest) = bare_pairs NoTarget span (λ inside. first.pairs inside ++ joined (λ x. x.pairs inside) rest)

abbrev pub for_first_step : Layer ForFirst5-F → Around
for_first_step layer.NoFirst = λ r. []
for_first_step (layer.FirstVar declared) = λ r. joined (λ d. d r.inside) declared
for_first_step (layer.FirstExpression x) = λ r. x.pairs r.inside

abbrev pub link_step : Layer Link5-F → Bool × Inside
link_step (layer.Member span name) = (true, λ inside. [])
link_step (layer.Index span index) = (true, index.pairs)
link_step (layer.Call span arguments site) = (false, λ inside. joined (λ x. x.pairs inside) arguments)

abbrev pub property_step : Layer Property5-F → Held5
property_step (layer.Plain span key value) = record { name = key_text key.key; sort = Data; at = key.span.begin; pairs = value.pairs }
property_step (layer.Getter span key function) = record { name = key_text key.key; sort = Get; at = key.span.begin; pairs = λ inside. function.pairs }
property_step (layer.Setter span key function) = record { name = key_text key.key; sort = Set; at = key.span.begin; pairs = λ inside. function.pairs }

abbrev pub stat_step : Layer Stat5-F → Around
stat_step (layer.Var span declared) = λ r. joined (λ d. d r.inside) declared
stat_step (layer.FunctionDeclaration function) = λ r. function.pairs
stat_step (layer.Block block) = λ r. block (under r)
stat_step (layer.Empty span) = λ r. []
stat_step (layer.Expression span x) = λ r. x.pairs r.inside
stat_step (layer.If span first more otherwise) = λ r. first (under r) ++ joined (λ c. c (under r)) more ++ option_pairs (λ s. s (under r)) otherwise
stat_step (layer.DoWhile span body test) = λ r. body (under_loop r) ++ test.pairs r.inside
stat_step (layer.While span test body) = λ r. test.pairs r.inside ++ body (under_loop r)
stat_step (layer.For span first test update body) = λ r. first r ++ option_pairs (λ x. x.pairs r.inside) test ++ option_pairs (λ x. x.pairs r.inside) update ++ body (under_loop r)
stat_step (layer.Continue span label) = λ r. jump_pairs label r.loops r.in_loop span
stat_step (layer.Break span label) = λ r. jump_pairs label r.labels (r.in_loop || r.in_switch) span
stat_step (layer.Return span value) = λ r. option_pairs (λ x. x.pairs r.inside) value
stat_step (layer.Switch span subject cases) = λ r. subject.pairs r.inside ++ joined (λ c. c (under_switch r)) cases
stat_step (layer.Labelled span label body) = λ r. when (is_one_of label.name r.labels) (F 6) label.span.begin ++ body (under_label label.name r)
stat_step (layer.Throw span value) = λ r. value.pairs r.inside
stat_step (layer.Try span block handler last) = λ r. block (under r) ++ option_pairs (λ h. h (under r)) handler ++ option_pairs (λ b. b (under r)) last
stat_step (layer.Debugger span) = λ r. []

abbrev pub block_step : Layer Block5-F → Around
block_step b = λ r. joined (λ s. s r) b.statements

abbrev pub case_step : Layer Case5-F → Around
case_step c = λ r. option_pairs (λ x. x.pairs r.inside) c.test ++ joined (λ s. s r) c.body

abbrev pub catch_step : Layer Catch5-F → Around
catch_step c = λ r. bound c.parameter ++ c.body r

abbrev pub condition_step : Layer Condition5-F → Around
condition_step c = λ r. c.test.pairs r.inside ++ c.body r

abbrev pub declared_step : Layer Declared5-F → Inside
declared_step d = λ inside. bound d.name ++ option_pairs (λ x. x.pairs inside) d.init

abbrev pub function_step : Layer Function5-F → Whole5
function_step f = record { begin = f.span.begin; pairs = option_pairs bound f.name ++ parameter_pairs [] f.parameters ++ joined (λ s. s (of_function true)) f.body }

abbrev pub operand_step : Layer Operand5-F → Inside
operand_step o = o.value.pairs

abbrev pub stat_pairs : Stat5 → Around
stat_pairs =
    fold-Stat5 Inside Found5 Around (Bool × Inside) Held5 Around Around Around Around Around Inside Whole5 Inside
    element_step expr_step for_first_step link_step property_step stat_step block_step case_step catch_step condition_step declared_step function_step operand_step

-- the pairs of a script's statements, in no order of their own
abbrev pub script_pairs : List Stat5 → List Pair5
script_pairs statements = joined (λ s. stat_pairs s (of_function false)) statements
