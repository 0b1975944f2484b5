-- What is written for each node of a script: tokens, the places where a call that carries a site begins, and the ends of
-- lines. A `Write` puts what is written for a node before what follows it.
use Rattle.std.specs.Prelude.{ℕ, ◌+◌, Bool, true, false, ◌&&◌, ◌||◌, not, nat_le, List, [], ◌∷◌, codes, map, Option, Some, None, is_some}
use Rattle.es_outside.specs.declared.events.Site.{Site}
use Rattle.es5_ast.specs.declared.operators.BinaryOperator5.{BinaryOperator5}
use Rattle.es5_ast.specs.declared.operators.UpdateOperator5.{UpdateOperator5}
use Rattle.es5_ast.specs.declared.operators.Key5.{Key5}
use Rattle.es5_ast.specs.declared.tree.Identifier5.{Identifier5}
use Rattle.es5_ast.specs.declared.tree.Stat5.{Stat5, fold-Stat5}
use Rattle.es5_ast.specs.declared.tree.Element5.{Element5, fold-Element5}
use Rattle.es5_ast.specs.declared.tree.Expr5.{Expr5, fold-Expr5}
use Rattle.es5_ast.specs.declared.tree.ForFirst5.{ForFirst5, fold-ForFirst5}
use Rattle.es5_ast.specs.declared.tree.Link5.{Link5, fold-Link5}
use Rattle.es5_ast.specs.declared.tree.Property5.{Property5, fold-Property5}
use Rattle.es5_ast.specs.declared.tree.Block5.{Block5, fold-Block5}
use Rattle.es5_ast.specs.declared.tree.Case5.{Case5, fold-Case5}
use Rattle.es5_ast.specs.declared.tree.Catch5.{Catch5, fold-Catch5}
use Rattle.es5_ast.specs.declared.tree.Condition5.{Condition5, fold-Condition5}
use Rattle.es5_ast.specs.declared.tree.Declared5.{Declared5, fold-Declared5}
use Rattle.es5_ast.specs.declared.tree.Function5.{Function5, fold-Function5}
use Rattle.es5_ast.specs.declared.tree.Operand5.{Operand5, fold-Operand5}
use Rattle.es5_ast.specs.declared.tree.Element5.TheOpen as layer
use Rattle.es5_ast.specs.declared.tree.Element5.TheOpen.{Element5-F, Expr5-F, ForFirst5-F, Link5-F, Property5-F, Stat5-F, Block5-F, Case5-F, Catch5-F, Condition5-F, Declared5-F, Function5-F, Operand5-F}
use Rattle.es5_ast.specs.Lexical.{Kind5, Word, Punctuator}
use Rattle.es5_ast.specs.Grammar.{is_word, is_mark, some_site, literal_kind, key_kind, unary_kind, update_kind, binary_kind, binary_level, assign_kind, is_before, is_in, chain_level, level_sequence, level_assignment, level_conditional, level_unary, level_postfix, level_left_hand_side, level_member, level_primary}

pub data Piece : Type 0 where
  Lexeme : Kind5 → Piece
  -- the next token begins a call that carries this site
  Begins : Site → Piece
  LineEnd : Piece

abbrev pub Write : Type 0
Write = List Piece → List Piece

abbrev pub word : List ℕ → Write
word w rest = Lexeme (Word w) ∷ rest

abbrev pub mark : List ℕ → Write
mark p rest = Lexeme (Punctuator p) ∷ rest

-- one after the other
abbrev pub all : List Write → Write
all [] rest = rest
all (w ∷ ws) rest = w (all ws rest)

-- a comma between what is written before and what follows, if there is something before
abbrev pub comma : Bool → Write
comma true rest = mark (codes ",") rest
comma false rest = rest

abbrev pub separated : Bool → List Write → Write
separated again [] rest = rest
separated again (w ∷ ws) rest = comma again (w (separated true ws rest))

abbrev pub grouped : Bool → Write → Write
grouped true w rest = mark (codes "(") (w (mark (codes ")") rest))
grouped false w rest = w rest

-- whether a line may be broken before the first token, as it may where a call with a site begins
abbrev pub begins_call : List Piece → Bool
begins_call [] = false
begins_call (Lexeme kind ∷ pieces) = false
begins_call (Begins site ∷ pieces) = true
begins_call (LineEnd ∷ pieces) = true

-- whether the first token is `{` or `function`, with which an expression statement doesn't begin (12.4)
abbrev pub opens : List Piece → Bool
opens [] = false
opens (Lexeme kind ∷ pieces) = is_mark (codes "{") kind || is_word (codes "function") kind
opens (Begins site ∷ pieces) = opens pieces
opens (LineEnd ∷ pieces) = opens pieces

-- An expression: its own level, whether it has an operator `in` of its own, and what is written for it where `in` may
-- stand bare and where not (the mark says not).
pub record Shown : Type 0 where
  pub level : ℕ
  pub has_in : Bool
  pub node : Bool → Write

abbrev pub leaf : Write → Shown
leaf w = record { level = level_primary; has_in = false; node = λ no_in. w }

-- whether an expression stands without parentheses where this level is the least
abbrev pub is_bare : Shown → Bool → ℕ → Bool
is_bare x no_in least = nat_le least x.level && not (no_in && x.has_in)

abbrev pub placed : Bool → Shown → Bool → Write
placed true x no_in = x.node no_in
placed false x no_in = grouped true (x.node false)

abbrev pub in_place : Shown → Bool → ℕ → Write
in_place x no_in least = placed (is_bare x no_in least) x no_in

abbrev pub whole : Shown → Write
whole x = in_place x false level_sequence

abbrev pub maybe : Option Shown → Write
maybe None rest = rest
maybe (Some x) rest = whole x rest

pub record ShownLink : Type 0 where
  pub is_call : Bool
  pub sites : List Site
  pub link : Write

pub record ShownOperand : Type 0 where
  pub operator : BinaryOperator5
  pub value : Shown

pub record ShownFunction : Type 0 where
  pub name : Option Identifier5
  -- the parameters and the body
  pub after : Write

abbrev pub name_of : Option Identifier5 → Write
name_of None rest = rest
name_of (Some x) rest = word x.name rest

abbrev pub function_of : ShownFunction → Write
function_of f rest = word (codes "function") (name_of f.name (f.after rest))

-- the elements of an array literal; the mark says that one stands before without its comma
abbrev pub element_of : Option Shown → Write
element_of None rest = mark (codes ",") rest
element_of (Some x) rest = in_place x false level_assignment rest

abbrev pub elements_of : Bool → List (Option Shown) → Write
elements_of again [] rest = rest
elements_of again (e ∷ es) rest = comma again (element_of e (elements_of (is_some e) es rest))

abbrev pub sites_of : List Site → Write
sites_of [] rest = rest
sites_of (s ∷ ss) rest = Begins s ∷ sites_of ss rest

abbrev pub begins_of : List ShownLink → Write
begins_of [] rest = rest
begins_of (l ∷ ls) rest = sites_of l.sites (begins_of ls rest)

abbrev pub links_of : List ShownLink → Write
links_of [] rest = rest
links_of (l ∷ ls) rest = l.link (links_of ls rest)

abbrev pub has_call : List ShownLink → Bool
has_call [] = false
has_call (l ∷ ls) = l.is_call || has_call ls

abbrev pub level_of : List ShownOperand → ℕ
level_of [] = level_sequence
level_of (o ∷ os) = binary_level o.operator

abbrev pub any_in : List ShownOperand → Bool
any_in [] = false
any_in (o ∷ os) = is_in o.operator || any_in os

abbrev pub operands_of : Bool → ℕ → List ShownOperand → Write
operands_of no_in level [] rest = rest
operands_of no_in level (o ∷ os) rest = Lexeme (binary_kind o.operator) ∷ in_place o.value no_in (level + 1) (operands_of no_in level os rest)

abbrev pub arguments_of : Bool → List Shown → Write
arguments_of again [] rest = rest
arguments_of again (x ∷ xs) rest = comma again (in_place x false level_assignment (arguments_of true xs rest))

abbrev pub parenthesized_arguments : List Shown → Write
parenthesized_arguments xs rest = mark (codes "(") (arguments_of false xs (mark (codes ")") rest))

abbrev pub parts_of : Bool → List Shown → Write
parts_of no_in [] rest = rest
parts_of no_in (x ∷ xs) rest = mark (codes ",") (in_place x no_in level_assignment (parts_of no_in xs rest))

abbrev pub parameters_of : Bool → List Identifier5 → Write
parameters_of again [] rest = rest
parameters_of again (x ∷ xs) rest = comma again (word x.name (parameters_of true xs rest))

abbrev pub parenthesized_parameters : List Identifier5 → Write
parenthesized_parameters xs rest = mark (codes "(") (parameters_of false xs (mark (codes ")") rest))

abbrev pub declared_of : Bool → Bool → List (Bool → Write) → Write
declared_of no_in again [] rest = rest
declared_of no_in again (d ∷ ds) rest = comma again (d no_in (declared_of no_in true ds rest))

abbrev pub update_level : Bool → ℕ
update_level true = level_unary
update_level false = level_postfix

abbrev pub update_of : Bool → UpdateOperator5 → Shown → Write
update_of true operator target rest = Lexeme (update_kind operator) ∷ in_place target false level_unary rest
update_of false operator target rest = in_place target false level_left_hand_side (Lexeme (update_kind operator) ∷ rest)

abbrev pub Layer : (Type 0 → Type 0 → Type 0 → Type 0 → Type 0 → Type 0 → Type 0 → Type 0 → Type 0 → Type 0 → Type 0 → Type 0 → Type 0 → Type 0) → Type 0
Layer Of = Of (Option Shown) Shown Write ShownLink Write Write Write Write Write Write (Bool → Write) ShownFunction ShownOperand

abbrev pub element_step : Layer Element5-F → Option Shown
element_step layer.Hole = None
element_step (layer.Element x) = Some x

abbrev pub expr_step : Layer Expr5-F → Shown
expr_step (layer.This span) = leaf (word (codes "this"))
expr_step (layer.Name span name) = leaf (word name)
expr_step (layer.Literal span value) = leaf (λ rest. Lexeme (literal_kind value) ∷ rest)
expr_step (layer.ArrayList span elements) = leaf (λ rest. mark (codes "[") (elements_of false elements (mark (codes "]") rest)))
expr_step (layer.ObjectList span properties) = leaf (λ rest. mark (codes "{") (separated false properties (mark (codes "}") rest)))
expr_step (layer.Function f) = leaf (function_of f)
expr_step (layer.Chain span head links) = record { level = chain_level (has_call links); has_in = false; node = λ no_in rest. begins_of links (in_place head false level_primary (links_of links rest)) }
expr_step (layer.New span callee arguments) = leaf (λ rest. word (codes "new") (in_place callee false level_member (parenthesized_arguments arguments rest)))
expr_step (layer.Update span operator target) = record { level = update_level (is_before operator); has_in = false; node = λ no_in. update_of (is_before operator) operator target }
expr_step (layer.Unary span operator operand) = record { level = level_unary; has_in = false; node = λ no_in rest. Lexeme (unary_kind operator) ∷ in_place operand false level_unary rest }
expr_step (layer.Binary span first operands) = record { level = level_of operands; has_in = any_in operands; node = λ no_in rest. in_place first no_in (level_of operands + 1) (operands_of no_in (level_of operands) operands rest) }
expr_step (layer.Conditional span test yes_ no_) = record { level = level_conditional; has_in = false; node = λ no_in rest. in_place test no_in (level_conditional + 1) (mark (codes "?") (in_place yes_ false level_assignment (mark (codes ":") (in_place no_ no_in level_assignment rest)))) }
expr_step (layer.Assign span operator target value) = record { level = level_assignment; has_in = false; node = λ no_in rest. in_place target false level_left_hand_side (Lexeme (assign_kind operator) ∷ in_place value no_in level_assignment rest) }
expr_step (layer.Sequence span first parts) = record { level = level_sequence; has_in = false; node = λ no_in rest. in_place first no_in level_assignment (parts_of no_in parts rest) }

-- with the semicolon after it
abbrev pub for_first_step : Layer ForFirst5-F → Write
for_first_step layer.NoFirst rest = mark (codes ";") rest
for_first_step (layer.FirstVar declared) rest = word (codes "var") (declared_of true false declared (mark (codes ";") rest))
for_first_step (layer.FirstExpression x) rest = in_place x true level_sequence (mark (codes ";") rest)

abbrev pub link_step : Layer Link5-F → ShownLink
link_step (layer.Member span name) = record { is_call = false; sites = []; link = λ rest. mark (codes ".") (word name rest) }
link_step (layer.Index span index) = record { is_call = false; sites = []; link = λ rest. mark (codes "[") (whole index (mark (codes "]") rest)) }
link_step (layer.Call span arguments site) = record { is_call = true; sites = some_site site; link = parenthesized_arguments arguments }

abbrev pub key_of : Key5 → Write
key_of key rest = Lexeme (key_kind key) ∷ rest

abbrev pub property_step : Layer Property5-F → Write
property_step (layer.Plain span key value) rest = key_of key.key (mark (codes ":") (in_place value false level_assignment rest))
property_step (layer.Getter span key f) rest = word (codes "get") (key_of key.key (f.after rest))
property_step (layer.Setter span key f) rest = word (codes "set") (key_of key.key (f.after rest))

abbrev pub end_of : Write
end_of rest = mark (codes ";") (LineEnd ∷ rest)

-- an expression between parentheses, as after `if`
abbrev pub header_of : Shown → Write
header_of x rest = mark (codes "(") (whole x (mark (codes ")") rest))

abbrev pub more_of : List Write → Write
more_of [] rest = rest
more_of (c ∷ cs) rest = word (codes "else") (c (more_of cs rest))

abbrev pub otherwise_of : Option Write → Write
otherwise_of None rest = rest
otherwise_of (Some s) rest = word (codes "else") (s rest)

-- what follows `return` or `throw`: an expression that begins with a call that carries a site is put in parentheses, since a
-- line may be broken before it (7.9.1)
abbrev pub value_of : Shown → Write
value_of x rest = grouped (begins_call (whole x rest)) (whole x) rest

-- an expression statement that would begin with `{` or `function` is put in parentheses
abbrev pub opened_of : Shown → Write
opened_of x rest = grouped (opens (whole x rest)) (whole x) rest

abbrev pub returned_of : Option Shown → Write
returned_of None rest = rest
returned_of (Some x) rest = value_of x rest

abbrev pub finally_of : Option Write → Write
finally_of None rest = rest
finally_of (Some b) rest = word (codes "finally") (b rest)

abbrev pub catch_of : Option Write → Write
catch_of None rest = rest
catch_of (Some c) rest = c rest

-- statements or clauses in braces
abbrev pub body_of : List Write → Write
body_of ss rest = mark (codes "{") (LineEnd ∷ all ss (mark (codes "}") rest))

abbrev pub stat_step : Layer Stat5-F → Write
stat_step (layer.Var span declared) rest = word (codes "var") (declared_of false false declared (end_of rest))
stat_step (layer.FunctionDeclaration f) rest = function_of f (LineEnd ∷ rest)
stat_step (layer.Block block) rest = block (LineEnd ∷ rest)
stat_step (layer.Empty span) rest = end_of rest
stat_step (layer.Expression span x) rest = opened_of x (end_of rest)
stat_step (layer.If span first more otherwise) rest = first (more_of more (otherwise_of otherwise rest))
stat_step (layer.DoWhile span body test) rest = word (codes "do") (body (word (codes "while") (header_of test (end_of rest))))
stat_step (layer.While span test body) rest = word (codes "while") (header_of test (body rest))
stat_step (layer.For span first test update body) rest = word (codes "for") (mark (codes "(") (first (maybe test (mark (codes ";") (maybe update (mark (codes ")") (body rest)))))))
stat_step (layer.Continue span label) rest = word (codes "continue") (name_of label (end_of rest))
stat_step (layer.Break span label) rest = word (codes "break") (name_of label (end_of rest))
stat_step (layer.Return span value) rest = word (codes "return") (returned_of value (end_of rest))
stat_step (layer.Switch span subject cases) rest = word (codes "switch") (header_of subject (body_of cases (LineEnd ∷ rest)))
stat_step (layer.Labelled span label body) rest = word label.name (mark (codes ":") (body rest))
stat_step (layer.Throw span value) rest = word (codes "throw") (value_of value (end_of rest))
stat_step (layer.Try span block handler last) rest = word (codes "try") (block (catch_of handler (finally_of last (LineEnd ∷ rest))))
stat_step (layer.Debugger span) rest = word (codes "debugger") (end_of rest)

abbrev pub block_step : Layer Block5-F → Write
block_step b = body_of b.statements

abbrev pub case_test : Option Shown → Write
case_test None rest = word (codes "default") rest
case_test (Some x) rest = word (codes "case") (whole x rest)

abbrev pub case_step : Layer Case5-F → Write
case_step c rest = case_test c.test (mark (codes ":") (LineEnd ∷ all c.body rest))

abbrev pub catch_step : Layer Catch5-F → Write
catch_step c rest = word (codes "catch") (mark (codes "(") (word c.parameter.name (mark (codes ")") (c.body rest))))

abbrev pub condition_step : Layer Condition5-F → Write
condition_step c rest = word (codes "if") (header_of c.test (c.body rest))

abbrev pub init_of : Bool → Option Shown → Write
init_of no_in None rest = rest
init_of no_in (Some x) rest = mark (codes "=") (in_place x no_in level_assignment rest)

abbrev pub declared_step : Layer Declared5-F → Bool → Write
declared_step d no_in rest = word d.name.name (init_of no_in d.init rest)

abbrev pub function_step : Layer Function5-F → ShownFunction
function_step f = record { name = f.name; after = λ rest. parenthesized_parameters f.parameters (body_of f.body rest) }

abbrev pub operand_step : Layer Operand5-F → ShownOperand
operand_step o = record { operator = o.operator; value = o.value }

abbrev pub element_shown : Element5 → Option Shown
element_shown =
    fold-Element5 (Option Shown) Shown Write ShownLink Write Write Write Write Write Write (Bool → Write) ShownFunction ShownOperand
    element_step expr_step for_first_step link_step property_step stat_step block_step case_step catch_step condition_step declared_step function_step operand_step

abbrev pub shown : Expr5 → Shown
shown =
    fold-Expr5 (Option Shown) Shown Write ShownLink Write Write Write Write Write Write (Bool → Write) ShownFunction ShownOperand
    element_step expr_step for_first_step link_step property_step stat_step block_step case_step catch_step condition_step declared_step function_step operand_step

abbrev pub for_first_shown : ForFirst5 → Write
for_first_shown =
    fold-ForFirst5 (Option Shown) Shown Write ShownLink Write Write Write Write Write Write (Bool → Write) ShownFunction ShownOperand
    element_step expr_step for_first_step link_step property_step stat_step block_step case_step catch_step condition_step declared_step function_step operand_step

abbrev pub link_shown : Link5 → ShownLink
link_shown =
    fold-Link5 (Option Shown) Shown Write ShownLink Write Write Write Write Write Write (Bool → Write) ShownFunction ShownOperand
    element_step expr_step for_first_step link_step property_step stat_step block_step case_step catch_step condition_step declared_step function_step operand_step

abbrev pub property_shown : Property5 → Write
property_shown =
    fold-Property5 (Option Shown) Shown Write ShownLink Write Write Write Write Write Write (Bool → Write) ShownFunction ShownOperand
    element_step expr_step for_first_step link_step property_step stat_step block_step case_step catch_step condition_step declared_step function_step operand_step

abbrev pub stat_shown : Stat5 → Write
stat_shown =
    fold-Stat5 (Option Shown) Shown Write ShownLink Write Write Write Write Write Write (Bool → Write) ShownFunction ShownOperand
    element_step expr_step for_first_step link_step property_step stat_step block_step case_step catch_step condition_step declared_step function_step operand_step

abbrev pub block_shown : Block5 → Write
block_shown =
    fold-Block5 (Option Shown) Shown Write ShownLink Write Write Write Write Write Write (Bool → Write) ShownFunction ShownOperand
    element_step expr_step for_first_step link_step property_step stat_step block_step case_step catch_step condition_step declared_step function_step operand_step

abbrev pub case_shown : Case5 → Write
case_shown =
    fold-Case5 (Option Shown) Shown Write ShownLink Write Write Write Write Write Write (Bool → Write) ShownFunction ShownOperand
    element_step expr_step for_first_step link_step property_step stat_step block_step case_step catch_step condition_step declared_step function_step operand_step

abbrev pub catch_shown : Catch5 → Write
catch_shown =
    fold-Catch5 (Option Shown) Shown Write ShownLink Write Write Write Write Write Write (Bool → Write) ShownFunction ShownOperand
    element_step expr_step for_first_step link_step property_step stat_step block_step case_step catch_step condition_step declared_step function_step operand_step

abbrev pub condition_shown : Condition5 → Write
condition_shown =
    fold-Condition5 (Option Shown) Shown Write ShownLink Write Write Write Write Write Write (Bool → Write) ShownFunction ShownOperand
    element_step expr_step for_first_step link_step property_step stat_step block_step case_step catch_step condition_step declared_step function_step operand_step

abbrev pub declared_shown : Declared5 → Bool → Write
declared_shown =
    fold-Declared5 (Option Shown) Shown Write ShownLink Write Write Write Write Write Write (Bool → Write) ShownFunction ShownOperand
    element_step expr_step for_first_step link_step property_step stat_step block_step case_step catch_step condition_step declared_step function_step operand_step

abbrev pub function_shown : Function5 → ShownFunction
function_shown =
    fold-Function5 (Option Shown) Shown Write ShownLink Write Write Write Write Write Write (Bool → Write) ShownFunction ShownOperand
    element_step expr_step for_first_step link_step property_step stat_step block_step case_step catch_step condition_step declared_step function_step operand_step

abbrev pub operand_shown : Operand5 → ShownOperand
operand_shown =
    fold-Operand5 (Option Shown) Shown Write ShownLink Write Write Write Write Write Write (Bool → Write) ShownFunction ShownOperand
    element_step expr_step for_first_step link_step property_step stat_step block_step case_step catch_step condition_step declared_step function_step operand_step

abbrev pub stats_pieces : List Stat5 → List Piece
stats_pieces statements = all (map stat_shown statements) []
