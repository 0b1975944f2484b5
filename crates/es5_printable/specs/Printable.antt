-- Which scripts may be printed, computed: a fold says of each node whether the grammar of strict code has it (ECMA-262, 5.1 edition,
-- 7, 11 to 14), and es5_ast's early errors come on top.
use Rattle.std.specs.Prelude.{ℕ, ◌+◌, Bool, true, false, ◌&&◌, ◌||◌, not, ◌==◌, nat_le, nat_lt, List, [], ◌∷◌, length, codes, map, Option, Some, None, is_some}
use Rattle.std.specs.List.{list_all}
use Rattle.std.specs.Str.{bytes_eq}
use Rattle.es5_ast.specs.declared.operators.Literal5.{Literal5}
use Rattle.es5_ast.specs.declared.operators.Literal5.TheVariants as literals
use Rattle.es5_ast.specs.declared.operators.Key5.{Key5}
use Rattle.es5_ast.specs.declared.operators.Key5.TheVariants as keys
use Rattle.es5_ast.specs.declared.tree.Identifier5.{Identifier5}
use Rattle.es5_ast.specs.declared.tree.Element5.{Element5, fold-Element5}
use Rattle.es5_ast.specs.declared.tree.Expr5.{Expr5, fold-Expr5}
use Rattle.es5_ast.specs.declared.tree.ForFirst5.{ForFirst5, fold-ForFirst5}
use Rattle.es5_ast.specs.declared.tree.Link5.{Link5, fold-Link5}
use Rattle.es5_ast.specs.declared.tree.Property5.{Property5, fold-Property5}
use Rattle.es5_ast.specs.declared.tree.Stat5.{Stat5, fold-Stat5}
use Rattle.es5_ast.specs.declared.tree.Block5.{Block5, fold-Block5}
use Rattle.es5_ast.specs.declared.tree.Case5.{Case5, fold-Case5}
use Rattle.es5_ast.specs.declared.tree.Catch5.{Catch5, fold-Catch5}
use Rattle.es5_ast.specs.declared.tree.Condition5.{Condition5, fold-Condition5}
use Rattle.es5_ast.specs.declared.tree.Declared5.{Declared5, fold-Declared5}
use Rattle.es5_ast.specs.declared.tree.Function5.{Function5, fold-Function5}
use Rattle.es5_ast.specs.declared.tree.Operand5.{Operand5, fold-Operand5}
use Rattle.es5_ast.specs.declared.tree.Script.{Script}
use Rattle.es5_ast.specs.declared.tree.Element5.TheOpen as layer
use Rattle.es5_ast.specs.declared.tree.Element5.TheOpen.{Element5-F, Expr5-F, ForFirst5-F, Link5-F, Property5-F, Stat5-F, Block5-F, Case5-F, Catch5-F, Condition5-F, Declared5-F, Function5-F, Operand5-F}
use Rattle.es5_ast.specs.Lexical.{is_identifier_name}
use Rattle.es5_ast.specs.Grammar.{is_identifier, binary_level, some_site}
use Rattle.es5_ast.specs.Early.{Pair5, script_pairs}

-- Identifier: an IdentifierName that is no reserved word (7.6)
abbrev pub is_name : List ℕ → Bool
is_name name = is_identifier_name name && is_identifier name

abbrev pub names_fit : List Identifier5 → Bool
names_fit xs = list_all (λ x. is_name x.name) xs

abbrev pub label_fits : Option Identifier5 → Bool
label_fits None = true
label_fits (Some x) = is_name x.name

-- a whole number that every reader has exactly (7.8.3), and units of 16 bits (7.8.4)
abbrev pub is_integer : ℕ → Bool
is_integer value = nat_le value 9007199254740991

abbrev pub are_units : List ℕ → Bool
are_units units = list_all (λ u. nat_lt u 65536) units

-- Literal (7.8)
abbrev pub is_literal : Literal5 → Bool
is_literal literals.Null = true
is_literal (literals.Truth truth) = true
is_literal (literals.Integer value) = is_integer value
is_literal (literals.Text units) = are_units units

-- PropertyName (11.1.5)
abbrev pub is_key : Key5 → Bool
is_key (keys.WordKey name) = is_identifier_name name
is_key (keys.TextKey units) = are_units units
is_key (keys.IntegerKey value) = is_integer value

-- the literal of the directive of strict code (14.1)
abbrev pub is_strict_text : Literal5 → Bool
is_strict_text literals.Null = false
is_strict_text (literals.Truth truth) = false
is_strict_text (literals.Integer value) = false
is_strict_text (literals.Text units) = bytes_eq units (codes "use strict")

-- What each node gives: whether it fits, and what the node round it asks of it.
pub record FitExpr : Type 0 where
  pub fits : Bool
  pub is_strict : Bool

-- with the number of sites that it carries
pub record FitLink : Type 0 where
  pub fits : Bool
  pub sites : ℕ

pub record FitOperand : Type 0 where
  pub fits : Bool
  pub level : ℕ

pub record FitFunction : Type 0 where
  pub is_named : Bool
  pub parameters : ℕ
  pub fits : Bool

-- A statement fits by whether a function is round it, and whether a declaration of a function may stand there. It is open if
-- it ends in an `if` without `else`, to which an `else` after it would belong (12.5).
pub record FitStat : Type 0 where
  pub fits : Bool → Bool → Bool
  pub is_if : Bool
  pub is_open : Bool
  pub is_strict : Bool

pub record FitCase : Type 0 where
  pub is_default : Bool
  pub fits : Bool → Bool

pub record FitCondition : Type 0 where
  pub fits : Bool → Bool
  pub is_open : Bool

abbrev pub every : List Bool → Bool
every fits = list_all (λ b. b) fits

-- at least one, and each of them
abbrev pub some_every : List Bool → Bool
some_every [] = false
some_every (b ∷ bs) = b && every bs

abbrev pub exprs_fit : List FitExpr → Bool
exprs_fit xs = list_all (λ x. x.fits) xs

abbrev pub option_fits : Option FitExpr → Bool
option_fits None = true
option_fits (Some x) = x.fits

-- statements, by whether a function is round them, and whether declarations of functions may stand among them
abbrev pub stats_fit : Bool → Bool → List FitStat → Bool
stats_fit inside top ss = list_all (λ s. s.fits inside top) ss

-- 11.14: at least two parts
abbrev pub parts_fit : List FitExpr → Bool
parts_fit [] = false
parts_fit (x ∷ xs) = exprs_fit (x ∷ xs)

abbrev pub sites_in : List FitLink → ℕ
sites_in [] = 0
sites_in (l ∷ ls) = l.sites + sites_in ls

-- 11.2: at least one access or call; of the calls, which all begin at one token, at most one carries a site
abbrev pub links_fit : List FitLink → Bool
links_fit [] = false
links_fit (l ∷ ls) = list_all (λ k. k.fits) (l ∷ ls) && nat_le (sites_in (l ∷ ls)) 1

-- 11.5 to 11.11: at least one operator, and all of one level
abbrev pub operands_fit : List FitOperand → Bool
operands_fit [] = false
operands_fit (o ∷ os) = list_all (λ p. p.fits && (p.level == o.level)) (o ∷ os)

abbrev pub Layer : (Type 0 → Type 0 → Type 0 → Type 0 → Type 0 → Type 0 → Type 0 → Type 0 → Type 0 → Type 0 → Type 0 → Type 0 → Type 0 → Type 0) → Type 0
Layer Of = Of Bool FitExpr Bool FitLink Bool FitStat (Bool → Bool) FitCase (Bool → Bool) FitCondition Bool FitFunction FitOperand

abbrev pub element_step : Layer Element5-F → Bool
element_step layer.Hole = true
element_step (layer.Element x) = x.fits

abbrev pub plain : Bool → FitExpr
plain fits = record { fits = fits; is_strict = false }

-- 11. What is assigned or updated may be any expression in parentheses; that it is a reference is an early error's (11.13.1).
abbrev pub expr_step : Layer Expr5-F → FitExpr
expr_step (layer.This span) = plain true
expr_step (layer.Name span name) = plain (is_name name)
expr_step (layer.Literal span value) = record { fits = is_literal value; is_strict = is_strict_text value }
expr_step (layer.ArrayList span elements) = plain (every elements)
expr_step (layer.ObjectList span properties) = plain (every properties)
expr_step (layer.Function f) = plain f.fits
expr_step (layer.Chain span head links) = plain (head.fits && links_fit links)
expr_step (layer.New span callee arguments) = plain (callee.fits && exprs_fit arguments)
expr_step (layer.Update span operator target) = plain target.fits
expr_step (layer.Unary span operator operand) = plain operand.fits
expr_step (layer.Binary span first operands) = plain (first.fits && operands_fit operands)
expr_step (layer.Conditional span test yes_ no_) = plain (test.fits && yes_.fits && no_.fits)
expr_step (layer.Assign span operator target value) = plain (target.fits && value.fits)
expr_step (layer.Sequence span first parts) = plain (first.fits && parts_fit parts)

-- 12.6.3
abbrev pub for_first_step : Layer ForFirst5-F → Bool
for_first_step layer.NoFirst = true
for_first_step (layer.FirstVar declared) = some_every declared
for_first_step (layer.FirstExpression x) = x.fits

abbrev pub link_step : Layer Link5-F → FitLink
link_step (layer.Member span name) = record { fits = is_identifier_name name; sites = 0 }
link_step (layer.Index span index) = record { fits = index.fits; sites = 0 }
link_step (layer.Call span arguments site) = record { fits = exprs_fit arguments; sites = length (some_site site) }

-- 11.1.5: a getter has no parameter, a setter one
abbrev pub property_step : Layer Property5-F → Bool
property_step (layer.Plain span key value) = is_key key.key && value.fits
property_step (layer.Getter span key f) = is_key key.key && f.fits && not f.is_named && (f.parameters == 0)
property_step (layer.Setter span key f) = is_key key.key && f.fits && not f.is_named && (f.parameters == 1)

-- 12.5: what stands before an `else` isn't open, and the last `else` has no `if` of its own
abbrev pub if_fits : Bool → FitCondition → List FitCondition → Option FitStat → Bool
if_fits inside c [] None = c.fits inside
if_fits inside c [] (Some s) = c.fits inside && not c.is_open && s.fits inside false && not s.is_if
if_fits inside c (d ∷ more) otherwise = c.fits inside && not c.is_open && if_fits inside d more otherwise

abbrev pub ends_open : Option FitStat → Bool
ends_open None = true
ends_open (Some s) = s.is_open

-- 12.11: at most one default clause; the second mark says that one may still come
abbrev pub cases_fit : Bool → Bool → List FitCase → Bool
cases_fit inside may [] = true
cases_fit inside may (c ∷ cs) = c.fits inside && (not c.is_default || may) && cases_fit inside (not c.is_default && may) cs

-- 12.14: a catch, a finally or both
abbrev pub ends_fit : Bool → Option (Bool → Bool) → Option (Bool → Bool) → Bool
ends_fit inside None None = false
ends_fit inside None (Some b) = b inside
ends_fit inside (Some h) None = h inside
ends_fit inside (Some h) (Some b) = h inside && b inside

abbrev pub closed : (Bool → Bool → Bool) → FitStat
closed fits = record { fits = fits; is_if = false; is_open = false; is_strict = false }

-- a statement that ends in another one
abbrev pub open_as : FitStat → (Bool → Bool → Bool) → FitStat
open_as body fits = record { fits = fits; is_if = false; is_open = body.is_open; is_strict = false }

-- 12, 13
abbrev pub stat_step : Layer Stat5-F → FitStat
stat_step (layer.Var span declared) = closed (λ inside top. some_every declared)
stat_step (layer.FunctionDeclaration f) = closed (λ inside top. top && f.is_named && f.fits)
stat_step (layer.Block b) = closed (λ inside top. b inside)
stat_step (layer.Empty span) = closed (λ inside top. true)
stat_step (layer.Expression span x) = record { fits = λ inside top. x.fits; is_if = false; is_open = false; is_strict = x.is_strict }
stat_step (layer.If span first more otherwise) = record { fits = λ inside top. if_fits inside first more otherwise; is_if = true; is_open = ends_open otherwise; is_strict = false }
stat_step (layer.DoWhile span body test) = closed (λ inside top. body.fits inside false && test.fits)
stat_step (layer.While span test body) = open_as body (λ inside top. test.fits && body.fits inside false)
stat_step (layer.For span first test update body) = open_as body (λ inside top. first && option_fits test && option_fits update && body.fits inside false)
stat_step (layer.Continue span label) = closed (λ inside top. label_fits label)
stat_step (layer.Break span label) = closed (λ inside top. label_fits label)
stat_step (layer.Return span value) = closed (λ inside top. inside && option_fits value)
stat_step (layer.Switch span subject cases) = closed (λ inside top. subject.fits && cases_fit inside true cases)
stat_step (layer.Labelled span label body) = open_as body (λ inside top. is_name label.name && body.fits inside false)
stat_step (layer.Throw span value) = closed (λ inside top. value.fits)
stat_step (layer.Try span b handler last) = closed (λ inside top. b inside && ends_fit inside handler last)
stat_step (layer.Debugger span) = closed (λ inside top. true)

abbrev pub block_step : Layer Block5-F → Bool → Bool
block_step b inside = stats_fit inside false b.statements

abbrev pub case_step : Layer Case5-F → FitCase
case_step c = record { is_default = not (is_some c.test); fits = λ inside. option_fits c.test && stats_fit inside false c.body }

abbrev pub catch_step : Layer Catch5-F → Bool → Bool
catch_step c inside = is_name c.parameter.name && c.body inside

abbrev pub condition_step : Layer Condition5-F → FitCondition
condition_step c = record { fits = λ inside. c.test.fits && c.body.fits inside false; is_open = c.body.is_open }

abbrev pub declared_step : Layer Declared5-F → Bool
declared_step d = is_name d.name.name && option_fits d.init

abbrev pub function_step : Layer Function5-F → FitFunction
function_step f = record { is_named = is_some f.name; parameters = length f.parameters; fits = label_fits f.name && names_fit f.parameters && stats_fit true true f.body }

abbrev pub operand_step : Layer Operand5-F → FitOperand
operand_step o = record { fits = o.value.fits; level = binary_level o.operator }

abbrev pub element_fit : Element5 → Bool
element_fit =
    fold-Element5 Bool FitExpr Bool FitLink Bool FitStat (Bool → Bool) FitCase (Bool → Bool) FitCondition Bool FitFunction FitOperand
    element_step expr_step for_first_step link_step property_step stat_step block_step case_step catch_step condition_step declared_step function_step operand_step

abbrev pub expr_fit : Expr5 → FitExpr
expr_fit =
    fold-Expr5 Bool FitExpr Bool FitLink Bool FitStat (Bool → Bool) FitCase (Bool → Bool) FitCondition Bool FitFunction FitOperand
    element_step expr_step for_first_step link_step property_step stat_step block_step case_step catch_step condition_step declared_step function_step operand_step

abbrev pub for_first_fit : ForFirst5 → Bool
for_first_fit =
    fold-ForFirst5 Bool FitExpr Bool FitLink Bool FitStat (Bool → Bool) FitCase (Bool → Bool) FitCondition Bool FitFunction FitOperand
    element_step expr_step for_first_step link_step property_step stat_step block_step case_step catch_step condition_step declared_step function_step operand_step

abbrev pub link_fit : Link5 → FitLink
link_fit =
    fold-Link5 Bool FitExpr Bool FitLink Bool FitStat (Bool → Bool) FitCase (Bool → Bool) FitCondition Bool FitFunction FitOperand
    element_step expr_step for_first_step link_step property_step stat_step block_step case_step catch_step condition_step declared_step function_step operand_step

abbrev pub property_fit : Property5 → Bool
property_fit =
    fold-Property5 Bool FitExpr Bool FitLink Bool FitStat (Bool → Bool) FitCase (Bool → Bool) FitCondition Bool FitFunction FitOperand
    element_step expr_step for_first_step link_step property_step stat_step block_step case_step catch_step condition_step declared_step function_step operand_step

abbrev pub stat_fit : Stat5 → FitStat
stat_fit =
    fold-Stat5 Bool FitExpr Bool FitLink Bool FitStat (Bool → Bool) FitCase (Bool → Bool) FitCondition Bool FitFunction FitOperand
    element_step expr_step for_first_step link_step property_step stat_step block_step case_step catch_step condition_step declared_step function_step operand_step

abbrev pub block_fit : Block5 → Bool → Bool
block_fit =
    fold-Block5 Bool FitExpr Bool FitLink Bool FitStat (Bool → Bool) FitCase (Bool → Bool) FitCondition Bool FitFunction FitOperand
    element_step expr_step for_first_step link_step property_step stat_step block_step case_step catch_step condition_step declared_step function_step operand_step

abbrev pub case_fit : Case5 → FitCase
case_fit =
    fold-Case5 Bool FitExpr Bool FitLink Bool FitStat (Bool → Bool) FitCase (Bool → Bool) FitCondition Bool FitFunction FitOperand
    element_step expr_step for_first_step link_step property_step stat_step block_step case_step catch_step condition_step declared_step function_step operand_step

abbrev pub catch_fit : Catch5 → Bool → Bool
catch_fit =
    fold-Catch5 Bool FitExpr Bool FitLink Bool FitStat (Bool → Bool) FitCase (Bool → Bool) FitCondition Bool FitFunction FitOperand
    element_step expr_step for_first_step link_step property_step stat_step block_step case_step catch_step condition_step declared_step function_step operand_step

abbrev pub condition_fit : Condition5 → FitCondition
condition_fit =
    fold-Condition5 Bool FitExpr Bool FitLink Bool FitStat (Bool → Bool) FitCase (Bool → Bool) FitCondition Bool FitFunction FitOperand
    element_step expr_step for_first_step link_step property_step stat_step block_step case_step catch_step condition_step declared_step function_step operand_step

abbrev pub declared_fit : Declared5 → Bool
declared_fit =
    fold-Declared5 Bool FitExpr Bool FitLink Bool FitStat (Bool → Bool) FitCase (Bool → Bool) FitCondition Bool FitFunction FitOperand
    element_step expr_step for_first_step link_step property_step stat_step block_step case_step catch_step condition_step declared_step function_step operand_step

abbrev pub function_fit : Function5 → FitFunction
function_fit =
    fold-Function5 Bool FitExpr Bool FitLink Bool FitStat (Bool → Bool) FitCase (Bool → Bool) FitCondition Bool FitFunction FitOperand
    element_step expr_step for_first_step link_step property_step stat_step block_step case_step catch_step condition_step declared_step function_step operand_step

abbrev pub operand_fit : Operand5 → FitOperand
operand_fit =
    fold-Operand5 Bool FitExpr Bool FitLink Bool FitStat (Bool → Bool) FitCase (Bool → Bool) FitCondition Bool FitFunction FitOperand
    element_step expr_step for_first_step link_step property_step stat_step block_step case_step catch_step condition_step declared_step function_step operand_step

-- the first statement is the directive (14.1)
abbrev pub begins_strict : List FitStat → Bool
begins_strict [] = false
begins_strict (s ∷ ss) = s.is_strict

abbrev pub are_none : List Pair5 → Bool
are_none [] = true
are_none (p ∷ pairs) = false

-- A script may be printed: the directive comes first, each statement fits at the top level of a program (14), and it has no early
-- error nor a reference outside the profile.
abbrev pub is_printable : Script → Bool
is_printable script =
    begins_strict (map stat_fit script.statements) && stats_fit false true (map stat_fit script.statements) && are_none (script_pairs script.statements)
