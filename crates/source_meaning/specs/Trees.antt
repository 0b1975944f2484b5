-- What the rows ask of the tree: the names that its parts declare, and what the parameters of a function are (ECMA-262, 6th
-- edition, 9.2.12, 13.2, 13.3, 14.1, 14.5.3).
use Rattle.std.specs.Char.Escape.{encode_utf16}
use Rattle.std.specs.List.{flat_map, list_all, list_any}
use Rattle.std.specs.Prelude.{Bool, List, None, Option, Some, [], codes, cond, false, if◌then◌else◌, is_none, map, suc, true, ℕ, ◌&&◌, ◌++◌, ◌||◌, ◌∷◌}
use Rattle.std.specs.Str.{bytes_eq, chars}
use Rattle.es_value.specs.declared.value.Value.{Value}
use Rattle.es_value.specs.declared.value.Value.TheVariants as value
use Rattle.es6_ast.specs.Spans.{Open}
use Rattle.es6_ast.specs.declared.operators.Literal.{Literal}
use Rattle.es6_ast.specs.declared.operators.Literal.TheVariants as literals
use Rattle.es6_ast.specs.declared.operators.VariableKind.{VariableKind}
use Rattle.es6_ast.specs.declared.operators.VariableKind.TheVariants as variable
use Rattle.es6_ast.specs.declared.tree.Argument.TheOpen as layer
use Rattle.es6_ast.specs.declared.tree.Argument.TheOpen.{Expression-F, Link-F, Parameter-F, Pattern-F, Statement-F}
use Rattle.es6_ast.specs.declared.tree.Class.{out-Class}
use Rattle.es6_ast.specs.declared.tree.ClassMember.{ClassMember, out-ClassMember}
use Rattle.es6_ast.specs.declared.tree.Expression.{out-Expression}
use Rattle.es6_ast.specs.declared.tree.Function.{Function, out-Function}
use Rattle.es6_ast.specs.declared.tree.Identifier.{Identifier}
use Rattle.es6_ast.specs.declared.tree.Link.{Link, out-Link}
use Rattle.es6_ast.specs.declared.tree.Method.{out-Method}
use Rattle.es6_ast.specs.declared.tree.Parameter.{Parameter, out-Parameter}
use Rattle.es6_ast.specs.declared.tree.Part.{Part, out-Part}
use Rattle.es6_ast.specs.declared.tree.Pattern.{Pattern, out-Pattern}
use Rattle.es6_ast.specs.declared.tree.Statement.{Statement, out-Statement}
use Rattle.es6_static_semantics.specs.Early.{parameter_found, part_found, pattern_found, statement_found}
use Rattle.es6_static_semantics.specs.Findings.{joined}
use Rattle.scope_rules.specs.Marks.{parameter_marked, statement_marked}
use Rattle.scope_rules.specs.declared.kinds.Kind.{Kind}
use Rattle.scope_rules.specs.declared.kinds.Kind.TheVariants as kind
use Rattle.scope_rules.specs.declared.kinds.Role.TheVariants as role
use Rattle.scope_rules.specs.declared.mark.Mark.{Mark}
use Rattle.scope_rules.specs.declared.mark.Mark.TheVariants as mark
use Rattle.source_state.specs.Members.{is_constructor}

-- ---- names, which are kept in UTF-8, and literals

abbrev pub name_units : List ℕ → List ℕ
name_units name = flat_map encode_utf16 (chars name)

abbrev pub literal_value : Literal → Value
literal_value literals.Null = value.Null
literal_value (literals.Truth b) = value.Bool b
literal_value (literals.Integer n) = value.Number n
literal_value (literals.Text units) = value.Text units

abbrev pub name_of : Identifier → List ℕ
name_of x = x.name

abbrev pub optional_name : Option Identifier → Option (List ℕ)
optional_name None = None
optional_name (Some x) = Some x.name

abbrev pub has_name : List (List ℕ) → List ℕ → Bool
has_name names name = list_any (bytes_eq name) names

-- ---- BoundNames (13.3.1.2, 13.3.3.1, 14.1.3)

abbrev pub pattern_names : Pattern → List (List ℕ)
pattern_names p = map name_of (pattern_found p).names

abbrev pub parts_names : List Part → List (List ℕ)
parts_names ps = joined (λ p. map name_of (part_found p).names) ps

abbrev pub parameters_names : List Parameter → List (List ℕ)
parameters_names ps = joined (λ p. map name_of (parameter_found p).names) ps

-- ---- VarDeclaredNames (13.2.11, 14.1.18)

abbrev pub variables_in : List Statement → List (List ℕ)
variables_in ss = joined (λ s. map name_of (statement_found s).vars) ss

-- ---- LexicallyScopedDeclarations (13.2.6, 14.1.15): names, and whether they can be written

pub record Lexical : Type 0 where
  pub name : List ℕ
  pub mutable : Bool

abbrev pub lexical : Bool → List ℕ → Lexical
lexical mutable name = record { name = name; mutable = mutable }

abbrev pub lexical_of : VariableKind → List (List ℕ) → List Lexical
lexical_of variable.Var names = []
lexical_of variable.Let names = map (lexical true) names
lexical_of variable.Const names = map (lexical false) names

abbrev pub named_once : Bool → Option Identifier → List Lexical
named_once mutable None = []
named_once mutable (Some x) = lexical mutable x.name ∷ []

abbrev pub declared_in : Open Statement-F → List Lexical
declared_in (layer.Variables span kind parts) = lexical_of kind (parts_names parts)
declared_in (layer.ClassDeclaration c) = named_once true (out-Class c).name
declared_in s = []

abbrev pub lexicals_in : List Statement → List Lexical
lexicals_in ss = joined (λ s. declared_in (out-Statement s)) ss

-- the functions that statements declare
abbrev pub function_in : Open Statement-F → List Function
function_in (layer.FunctionDeclaration f) = f ∷ []
function_in s = []

abbrev pub functions_in : List Statement → List Function
functions_in ss = joined (λ s. function_in (out-Statement s)) ss

abbrev pub function_names : List Function → List (List ℕ)
function_names fs = joined (λ f. map name_of (found (out-Function f).name)) fs
  where
    found : Option Identifier → List Identifier
    found None = []
    found (Some x) = x ∷ []

-- at the top level of a block they are lexical names too (13.2.6)
abbrev pub block_lexicals : List Statement → List Lexical
block_lexicals ss = lexicals_in ss ++ map (lexical true) (function_names (functions_in ss))

-- of the functions of one name the last one counts (9.2.12, step 10)
abbrev pub last_ones : List Function → List Function
last_ones [] = []
last_ones (f ∷ fs) =
    if list_any (has_name (function_names fs)) (function_names (f ∷ [])) then last_ones fs else f ∷ last_ones fs

-- ---- parameters (9.2.12, 14.1.6, 14.1.12)

-- a name without a default
abbrev pub is_name_in : Open Pattern-F → Bool
is_name_in (layer.Target x) = true
is_name_in p = false

abbrev pub is_plain_part : Part → Bool
is_plain_part p = is_name_in (out-Pattern (out-Part p).pattern) && is_none (out-Part p).default

abbrev pub is_plain_in : Open Parameter-F → Bool
is_plain_in (layer.SingleParameter p) = is_plain_part p
is_plain_in (layer.RestParameter span p) = false

-- IsSimpleParameterList (14.1.12)
abbrev pub are_simple : List Parameter → Bool
are_simple ps = list_all (λ p. is_plain_in (out-Parameter p)) ps

-- ContainsExpression (14.1.5)
abbrev pub have_expression : List Parameter → Bool
have_expression ps = list_any (λ p. (parameter_marked p).has_expression) ps

-- ExpectedArgumentCount (14.1.6): the parameters before the first default or rest
abbrev pub counts : Open Parameter-F → Bool
counts (layer.SingleParameter p) = is_none (out-Part p).default
counts (layer.RestParameter span p) = false

abbrev pub expected_count : List Parameter → ℕ
expected_count [] = 0
expected_count (p ∷ ps) = if counts (out-Parameter p) then suc (expected_count ps) else 0

-- Whether `arguments` is referred to, in arrows too: a scope that has its own counts for nothing. The number is how many scopes are
-- open inside such a one.
abbrev pub is_arguments : Kind → Bool
is_arguments kind.Arguments = true
is_arguments k = false

abbrev pub within_scope : Option ℕ → Option ℕ
within_scope None = None
within_scope (Some n) = Some (suc n)

abbrev pub behind_scope : Option ℕ → Option ℕ
behind_scope (Some (suc n)) = Some n
behind_scope n = None

abbrev pub mentions : Option ℕ → List Mark → Bool
mentions n [] = false
mentions None (mark.Refers name at ∷ ms) = bytes_eq (codes "arguments") name || mentions None ms
mentions None (mark.Declares k name at end ∷ ms) = mentions (cond (is_arguments k) (Some 0) None) ms
mentions n (mark.ScopeBegins k at ∷ ms) = mentions (within_scope n) ms
mentions n (mark.ScopeEnds ∷ ms) = mentions (behind_scope n) ms
mentions n (m ∷ ms) = mentions n ms

abbrev pub mentions_arguments : List Parameter → List Statement → Bool
mentions_arguments ps ss =
    mentions None (joined (λ p. (parameter_marked p).marks (role.Declared kind.Parameter 0)) ps ++ joined statement_marked ss)

-- ---- classes: the constructor (14.5.3)

abbrev pub constructor_in : List ClassMember → Option Function
constructor_in [] = None
constructor_in (m ∷ ms) = if is_constructor m then Some (out-Method (out-ClassMember m).method).function else constructor_in ms

-- ---- [Symbol.iterator] as a key, where no scope has the name Symbol

abbrev pub is_symbol_name : Open Expression-F → Bool
is_symbol_name (layer.Name span name) = bytes_eq (codes "Symbol") name
is_symbol_name x = false

abbrev pub is_iterator_link : Open Link-F → Bool
is_iterator_link (layer.Member span x) = bytes_eq (codes "iterator") x.name
is_iterator_link l = false

abbrev pub are_iterator_links : List Link → Bool
are_iterator_links [] = false
are_iterator_links (l ∷ []) = is_iterator_link (out-Link l)
are_iterator_links (l ∷ m ∷ ls) = false

abbrev pub is_symbol_iterator : Open Expression-F → Bool
is_symbol_iterator (layer.Chain span head links) = is_symbol_name (out-Expression head) && are_iterator_links links
is_symbol_iterator x = false
