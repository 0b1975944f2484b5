-- The grammar of strict code (ECMA-262, 5.1 edition, 11 to 14) over tokens, semicolons that are inserted included. Each
-- relation says which tokens spell a node, and which follow it: `IsStat .. ts s us` says that `ts` begin with tokens that
-- spell `s`, and go on with `us`. The mode says what is held of spans and sites.
use Rattle.std.specs.Prelude.{◌≡◌, ℕ, ◌+◌, ◌-◌, ◌≤◌, Bool, true, false, ◌&&◌, not, List, [], ◌∷◌, ◌++◌, length, take, codes, Option, Some, None}
use Rattle.std.specs.List.{Contains}
use Rattle.std.specs.Str.{bytes_eq}
use Rattle.es_text.specs.declared.Span.{Span}
use Rattle.es_outside.specs.declared.events.Site.{Site}
use Rattle.es5_ast.specs.declared.operators.UnaryOperator5.{UnaryOperator5}
use Rattle.es5_ast.specs.declared.operators.UnaryOperator5.TheVariants.{Delete, Void, Typeof, Plus, Minus, BitNot, Not}
use Rattle.es5_ast.specs.declared.operators.UpdateOperator5.{UpdateOperator5}
use Rattle.es5_ast.specs.declared.operators.UpdateOperator5.TheVariants.{IncrementBefore, DecrementBefore, IncrementAfter, DecrementAfter}
use Rattle.es5_ast.specs.declared.operators.BinaryOperator5.{BinaryOperator5}
use Rattle.es5_ast.specs.declared.operators.BinaryOperator5.TheVariants as binary
use Rattle.es5_ast.specs.declared.operators.AssignOperator5.{AssignOperator5}
use Rattle.es5_ast.specs.declared.operators.AssignOperator5.TheVariants as assign
use Rattle.es5_ast.specs.declared.operators.Literal5.{Literal5}
use Rattle.es5_ast.specs.declared.operators.Literal5.TheVariants as literals
use Rattle.es5_ast.specs.declared.operators.Key5.{Key5}
use Rattle.es5_ast.specs.declared.operators.Key5.TheVariants as keys
use Rattle.es5_ast.specs.declared.tree.Identifier5.{Identifier5}
use Rattle.es5_ast.specs.declared.tree.PlacedKey5.{PlacedKey5}
use Rattle.es5_ast.specs.declared.tree.Stat5.{Stat5}
use Rattle.es5_ast.specs.declared.tree.Stat5.TheVariants as stat
use Rattle.es5_ast.specs.declared.tree.Declared5.{Declared5, roll-Declared5}
use Rattle.es5_ast.specs.declared.tree.Block5.{Block5, roll-Block5}
use Rattle.es5_ast.specs.declared.tree.Condition5.{Condition5, roll-Condition5}
use Rattle.es5_ast.specs.declared.tree.ForFirst5.{ForFirst5}
use Rattle.es5_ast.specs.declared.tree.ForFirst5.TheVariants as for_first
use Rattle.es5_ast.specs.declared.tree.Case5.{Case5, roll-Case5}
use Rattle.es5_ast.specs.declared.tree.Catch5.{Catch5, roll-Catch5}
use Rattle.es5_ast.specs.declared.tree.Function5.{Function5, roll-Function5}
use Rattle.es5_ast.specs.declared.tree.Expr5.{Expr5}
use Rattle.es5_ast.specs.declared.tree.Expr5.TheVariants as expr
use Rattle.es5_ast.specs.declared.tree.Element5.{Element5}
use Rattle.es5_ast.specs.declared.tree.Element5.TheVariants as element
use Rattle.es5_ast.specs.declared.tree.Property5.{Property5}
use Rattle.es5_ast.specs.declared.tree.Property5.TheVariants as property
use Rattle.es5_ast.specs.declared.tree.Link5.{Link5, out-Link5}
use Rattle.es5_ast.specs.declared.tree.Element5.TheOpen.{Link5-F}
use Rattle.es5_ast.specs.declared.tree.Element5.TheOpen as layer
use Rattle.es5_ast.specs.declared.tree.Link5.TheVariants as link
use Rattle.es5_ast.specs.declared.tree.Operand5.{Operand5, roll-Operand5}
use Rattle.es5_ast.specs.Lexical.{Kind5, Word, Integer, Text, Punctuator, Inserted, Token5, is_one_of, reserved_words}

abbrev pub IsWord : List ℕ → Token5 → Type 0
IsWord w t = t.kind ≡ Word w

abbrev pub IsMark : List ℕ → Token5 → Type 0
IsMark p t = t.kind ≡ Punctuator p

abbrev pub is_word : List ℕ → Kind5 → Bool
is_word w (Word v) = bytes_eq v w
is_word w (Integer n) = false
is_word w (Text us) = false
is_word w (Punctuator p) = false
is_word w Inserted = false

abbrev pub is_mark : List ℕ → Kind5 → Bool
is_mark p (Word v) = false
is_mark p (Integer n) = false
is_mark p (Text us) = false
is_mark p (Punctuator q) = bytes_eq q p
is_mark p Inserted = false

abbrev pub begins : (Kind5 → Bool) → List Token5 → Bool
begins test [] = false
begins test (t ∷ ts) = test t.kind

-- [no LineTerminator here]
abbrev pub IsOnLine : List Token5 → Type 0
IsOnLine [] = Unit {0}
IsOnLine (t ∷ ts) = t.after_line ≡ false

-- the span of the tokens of `ts` that stand before `us`
abbrev pub begin_of : List Token5 → ℕ
begin_of [] = 0
begin_of (t ∷ ts) = t.begin

abbrev pub end_of : ℕ → List Token5 → ℕ
end_of at [] = at
end_of at (t ∷ ts) = end_of t.end ts

abbrev pub across : List Token5 → List Token5 → Span
across ts us = record { begin = begin_of ts; end = end_of 0 (take (length ts - length us) ts) }

-- What is held of spans and sites. `Exact`: the spans are those of the tokens, and no call carries a site. `Aside`: both may
-- be any. `Marked`: spans may be any, and each site of a call stands in the list with the offset of its first token.
pub data Mode5 : Type 0 where
  Exact : Mode5
  Aside : Mode5
  Marked : List (ℕ × Site) → Mode5

abbrev pub Spans : Mode5 → List Token5 → List Token5 → Span → Type 0
Spans Exact ts us span = span ≡ across ts us
Spans Aside ts us span = Unit {0}
Spans (Marked marks) ts us span = Unit {0}

-- the sites of the calls of a chain (11.2.3), in text order
abbrev pub some_site : Option Site → List Site
some_site None = []
some_site (Some site) = site ∷ []

abbrev pub link_sites : List Link5 → List Site
link_sites [] = []
link_sites (l ∷ links) = here (out-Link5 l) ++ link_sites links
  where
    here : Link5-F Element5 Expr5 ForFirst5 Link5 Property5 Stat5 Block5 Case5 Catch5 Condition5 Declared5 Function5 Operand5 → List Site
    here (layer.Member span name) = []
    here (layer.Index span index) = []
    here (layer.Call span arguments site) = some_site site

-- Of two calls that begin at the same token, as those of one chain do, at most one carries a site.
abbrev pub Sites : Mode5 → List Token5 → List Link5 → Type 0
Sites Exact ts links = link_sites links ≡ []
Sites Aside ts links = length (link_sites links) ≤ 1
Sites (Marked marks) ts links = AllMarked (link_sites links)
  where
    AllMarked : List Site → Type 0
    AllMarked [] = Unit {0}
    AllMarked (site ∷ sites) = Contains marks (begin_of ts, site) × AllMarked sites

-- Identifier (7.6): an IdentifierName that is no reserved word
abbrev pub is_identifier : List ℕ → Bool
is_identifier name = not (is_one_of name reserved_words)

pub record IsIdentifier (mode : Mode5) (ts : List Token5) (x : Identifier5) (us : List Token5) : Type 0 where
  pub token : Token5
  pub first : ts ≡ token ∷ us
  pub word : IsWord x.name token
  pub free : is_identifier x.name ≡ true
  pub spans : Spans mode ts us x.span

-- Literal (7.8)
abbrev pub literal_kind : Literal5 → Kind5
literal_kind literals.Null = Word (codes "null")
literal_kind (literals.Truth true) = Word (codes "true")
literal_kind (literals.Truth false) = Word (codes "false")
literal_kind (literals.Integer value) = Integer value
literal_kind (literals.Text units) = Text units

-- PropertyName (11.1.5)
abbrev pub key_kind : Key5 → Kind5
key_kind (keys.WordKey name) = Word name
key_kind (keys.TextKey units) = Text units
key_kind (keys.IntegerKey value) = Integer value

pub record IsKey (mode : Mode5) (ts : List Token5) (x : PlacedKey5) (us : List Token5) : Type 0 where
  pub token : Token5
  pub first : ts ≡ token ∷ us
  pub kind : token.kind ≡ key_kind x.key
  pub spans : Spans mode ts us x.span

-- The levels of expressions, each of which includes the next: Expression (11.14), AssignmentExpression (11.13),
-- ConditionalExpression (11.12), those with binary operators (11.11 to 11.5), UnaryExpression (11.4), PostfixExpression
-- (11.3), LeftHandSideExpression, CallExpression, MemberExpression (11.2), and what member accesses begin with.
abbrev pub level_sequence : ℕ
level_sequence = 0

abbrev pub level_assignment : ℕ
level_assignment = 1

abbrev pub level_conditional : ℕ
level_conditional = 2

abbrev pub level_unary : ℕ
level_unary = 13

abbrev pub level_postfix : ℕ
level_postfix = 14

abbrev pub level_left_hand_side : ℕ
level_left_hand_side = 15

abbrev pub level_call : ℕ
level_call = 16

abbrev pub level_member : ℕ
level_member = 17

abbrev pub level_primary : ℕ
level_primary = 18

abbrev pub binary_level : BinaryOperator5 → ℕ
binary_level binary.Or = 3
binary_level binary.And = 4
binary_level binary.BitOr = 5
binary_level binary.BitXor = 6
binary_level binary.BitAnd = 7
binary_level binary.Equal = 8
binary_level binary.NotEqual = 8
binary_level binary.Same = 8
binary_level binary.NotSame = 8
binary_level binary.Less = 9
binary_level binary.Greater = 9
binary_level binary.AtMost = 9
binary_level binary.AtLeast = 9
binary_level binary.InstanceOf = 9
binary_level binary.In = 9
binary_level binary.ShiftLeft = 10
binary_level binary.ShiftRight = 10
binary_level binary.ShiftRightUnsigned = 10
binary_level binary.Add = 11
binary_level binary.Subtract = 11
binary_level binary.Multiply = 12
binary_level binary.Divide = 12
binary_level binary.Remainder = 12

abbrev pub binary_kind : BinaryOperator5 → Kind5
binary_kind binary.Or = Punctuator (codes "||")
binary_kind binary.And = Punctuator (codes "&&")
binary_kind binary.BitOr = Punctuator (codes "|")
binary_kind binary.BitXor = Punctuator (codes "^")
binary_kind binary.BitAnd = Punctuator (codes "&")
binary_kind binary.Equal = Punctuator (codes "==")
binary_kind binary.NotEqual = Punctuator (codes "!=")
binary_kind binary.Same = Punctuator (codes "===")
binary_kind binary.NotSame = Punctuator (codes "!==")
binary_kind binary.Less = Punctuator (codes "<")
binary_kind binary.Greater = Punctuator (codes ">")
binary_kind binary.AtMost = Punctuator (codes "<=")
binary_kind binary.AtLeast = Punctuator (codes ">=")
binary_kind binary.InstanceOf = Word (codes "instanceof")
binary_kind binary.In = Word (codes "in")
binary_kind binary.ShiftLeft = Punctuator (codes "<<")
binary_kind binary.ShiftRight = Punctuator (codes ">>")
binary_kind binary.ShiftRightUnsigned = Punctuator (codes ">>>")
binary_kind binary.Add = Punctuator (codes "+")
binary_kind binary.Subtract = Punctuator (codes "-")
binary_kind binary.Multiply = Punctuator (codes "*")
binary_kind binary.Divide = Punctuator (codes "/")
binary_kind binary.Remainder = Punctuator (codes "%")

-- the operators that the grammar's NoIn forms leave out
abbrev pub is_in : BinaryOperator5 → Bool
is_in op = is_word (codes "in") (binary_kind op)

abbrev pub unary_kind : UnaryOperator5 → Kind5
unary_kind Delete = Word (codes "delete")
unary_kind Void = Word (codes "void")
unary_kind Typeof = Word (codes "typeof")
unary_kind Plus = Punctuator (codes "+")
unary_kind Minus = Punctuator (codes "-")
unary_kind BitNot = Punctuator (codes "~")
unary_kind Not = Punctuator (codes "!")

abbrev pub update_kind : UpdateOperator5 → Kind5
update_kind IncrementBefore = Punctuator (codes "++")
update_kind DecrementBefore = Punctuator (codes "--")
update_kind IncrementAfter = Punctuator (codes "++")
update_kind DecrementAfter = Punctuator (codes "--")

abbrev pub is_before : UpdateOperator5 → Bool
is_before IncrementBefore = true
is_before DecrementBefore = true
is_before IncrementAfter = false
is_before DecrementAfter = false

abbrev pub assign_kind : AssignOperator5 → Kind5
assign_kind assign.Assign = Punctuator (codes "=")
assign_kind assign.MultiplyAssign = Punctuator (codes "*=")
assign_kind assign.DivideAssign = Punctuator (codes "/=")
assign_kind assign.RemainderAssign = Punctuator (codes "%=")
assign_kind assign.AddAssign = Punctuator (codes "+=")
assign_kind assign.SubtractAssign = Punctuator (codes "-=")
assign_kind assign.ShiftLeftAssign = Punctuator (codes "<<=")
assign_kind assign.ShiftRightAssign = Punctuator (codes ">>=")
assign_kind assign.ShiftRightUnsignedAssign = Punctuator (codes ">>>=")
assign_kind assign.BitAndAssign = Punctuator (codes "&=")
assign_kind assign.BitXorAssign = Punctuator (codes "^=")
assign_kind assign.BitOrAssign = Punctuator (codes "|=")

-- whether one of the links is a call, which MemberExpression leaves out (11.2)
abbrev pub chain_level : Bool → ℕ
chain_level true = level_call
chain_level false = level_member

-- what ends a statement: a semicolon, or one that is inserted (7.9)
abbrev pub ends : Kind5 → Bool
ends (Word v) = false
ends (Integer n) = false
ends (Text us) = false
ends (Punctuator p) = bytes_eq p (codes ";")
ends Inserted = true

abbrev pub IsEnd : Token5 → Type 0
IsEnd t = ends t.kind ≡ true

-- FormalParameterList (13) and the closing parenthesis
pub data AreParameters (mode : Mode5) : List Token5 → List Identifier5 → List Token5 → Type 0 where
  no_parameter : {close : Token5} {ts : List Token5} → IsMark (codes ")") close → AreParameters mode (close ∷ ts) [] ts
  last_parameter : {x : Identifier5} {close : Token5} {ts us : List Token5} → IsIdentifier mode ts x (close ∷ us) → IsMark (codes ")") close → AreParameters mode ts (x ∷ []) us
  next_parameter : {x y : Identifier5} {xs : List Identifier5} {comma : Token5} {ts us vs : List Token5} → IsIdentifier mode ts x (comma ∷ us) → IsMark (codes ",") comma → AreParameters mode us (y ∷ xs) vs → AreParameters mode ts (x ∷ y ∷ xs) vs

-- Expressions (11). `no_in` marks the NoIn forms. In `IsExpr` the number is the least level that the place takes, in
-- `IsNode` the level that the node has by itself.
mutual
  pub data IsExpr (mode : Mode5) : Bool → ℕ → List Token5 → Expr5 → List Token5 → Type 0 where
    bare : {no_in : Bool} {least : ℕ} (level : ℕ) {x : Expr5} {ts us : List Token5} → least ≤ level → IsNode mode no_in level ts x us → IsExpr mode no_in least ts x us
    -- `( Expression )` (11.1.6), which has no node
    group : {no_in : Bool} {least : ℕ} {open_ close : Token5} {x : Expr5} {ts us : List Token5} → IsMark (codes "(") open_ → IsExpr mode false level_sequence ts x (close ∷ us) → IsMark (codes ")") close → IsExpr mode no_in least (open_ ∷ ts) x us

  pub data IsNode (mode : Mode5) : Bool → ℕ → List Token5 → Expr5 → List Token5 → Type 0 where
    -- 11.1.1
    this : {no_in : Bool} {t : Token5} {ts : List Token5} {x : Expr5} (span : Span) → x ≡ expr.This span → Spans mode (t ∷ ts) ts span → IsWord (codes "this") t → IsNode mode no_in level_primary (t ∷ ts) x ts
    -- 11.1.2
    identifier : {no_in : Bool} {t : Token5} {ts : List Token5} {x : Expr5} (span : Span) (name : List ℕ) → x ≡ expr.Name span name → Spans mode (t ∷ ts) ts span → IsWord name t → is_identifier name ≡ true → IsNode mode no_in level_primary (t ∷ ts) x ts
    -- 11.1.3
    literal : {no_in : Bool} {t : Token5} {ts : List Token5} {x : Expr5} (span : Span) (value : Literal5) → x ≡ expr.Literal span value → Spans mode (t ∷ ts) ts span → t.kind ≡ literal_kind value → IsNode mode no_in level_primary (t ∷ ts) x ts
    -- 11.1.4
    array : {no_in : Bool} {t : Token5} {ts us : List Token5} {x : Expr5} (span : Span) (elements : List Element5) → x ≡ expr.ArrayList span elements → Spans mode (t ∷ ts) us span → IsMark (codes "[") t → AreElements mode ts elements us → IsNode mode no_in level_primary (t ∷ ts) x us
    -- 11.1.5
    object : {no_in : Bool} {t : Token5} {ts us : List Token5} {x : Expr5} (span : Span) (properties : List Property5) → x ≡ expr.ObjectList span properties → Spans mode (t ∷ ts) us span → IsMark (codes "{") t → AreProperties mode ts properties us → IsNode mode no_in level_primary (t ∷ ts) x us
    -- FunctionExpression (13)
    function : {no_in : Bool} {ts us : List Token5} {x : Expr5} (f : Function5) → x ≡ expr.Function f → IsFunction mode ts f us → IsNode mode no_in level_primary ts x us
    -- 11.2.1, 11.2.3: the accesses and calls of a MemberExpression or a CallExpression
    chain : {no_in : Bool} {ts us vs : List Token5} {x : Expr5} (calls : Bool) (span : Span) (head : Expr5) (l : Link5) (links : List Link5) → x ≡ expr.Chain span head (l ∷ links) → Spans mode ts vs span → Sites mode ts (l ∷ links) → IsExpr mode false level_primary ts head us → AreLinks mode calls us (l ∷ links) vs → IsNode mode no_in (chain_level calls) ts x vs
    -- 11.2.2: `new` with arguments, which accesses may follow, and without
    new_call : {no_in : Bool} {t open_ : Token5} {ts us vs : List Token5} {x : Expr5} (span : Span) (callee : Expr5) (arguments : List Expr5) → x ≡ expr.New span callee arguments → Spans mode (t ∷ ts) vs span → IsWord (codes "new") t → IsExpr mode false level_member ts callee (open_ ∷ us) → IsMark (codes "(") open_ → AreArguments mode us arguments vs → IsNode mode no_in level_primary (t ∷ ts) x vs
    new_bare : {no_in : Bool} {t : Token5} {ts us : List Token5} {x : Expr5} (span : Span) (callee : Expr5) → x ≡ expr.New span callee [] → Spans mode (t ∷ ts) us span → IsWord (codes "new") t → IsNewCallee mode ts callee us → IsNode mode no_in level_left_hand_side (t ∷ ts) x us
    -- 11.3
    update_after : {no_in : Bool} {t : Token5} {ts us : List Token5} {x : Expr5} (span : Span) (operator : UpdateOperator5) (target : Expr5) → x ≡ expr.Update span operator target → Spans mode ts us span → is_before operator ≡ false → IsExpr mode false level_left_hand_side ts target (t ∷ us) → t.kind ≡ update_kind operator → t.after_line ≡ false → IsNode mode no_in level_postfix ts x us
    -- 11.4.4, 11.4.5
    update_before : {no_in : Bool} {t : Token5} {ts us : List Token5} {x : Expr5} (span : Span) (operator : UpdateOperator5) (target : Expr5) → x ≡ expr.Update span operator target → Spans mode (t ∷ ts) us span → is_before operator ≡ true → t.kind ≡ update_kind operator → IsExpr mode false level_unary ts target us → IsNode mode no_in level_unary (t ∷ ts) x us
    -- 11.4
    unary : {no_in : Bool} {t : Token5} {ts us : List Token5} {x : Expr5} (span : Span) (operator : UnaryOperator5) (operand : Expr5) → x ≡ expr.Unary span operator operand → Spans mode (t ∷ ts) us span → t.kind ≡ unary_kind operator → IsExpr mode false level_unary ts operand us → IsNode mode no_in level_unary (t ∷ ts) x us
    -- 11.5 to 11.11: operators of one level, from left to right
    binary_chain : {no_in : Bool} {ts us vs : List Token5} {x : Expr5} (level : ℕ) (span : Span) (first : Expr5) (o : Operand5) (rest : List Operand5) → x ≡ expr.Binary span first (o ∷ rest) → Spans mode ts vs span → IsExpr mode no_in (level + 1) ts first us → AreOperands mode no_in level us (o ∷ rest) vs → IsNode mode no_in level ts x vs
    -- 11.12
    conditional : {no_in : Bool} {question colon : Token5} {ts us vs ws : List Token5} {x : Expr5} (span : Span) (test yes_ no_ : Expr5) → x ≡ expr.Conditional span test yes_ no_ → Spans mode ts ws span → IsExpr mode no_in (level_conditional + 1) ts test (question ∷ us) → IsMark (codes "?") question → IsExpr mode false level_assignment us yes_ (colon ∷ vs) → IsMark (codes ":") colon → IsExpr mode no_in level_assignment vs no_ ws → IsNode mode no_in level_conditional ts x ws
    -- 11.13
    assignment : {no_in : Bool} {t : Token5} {ts us vs : List Token5} {x : Expr5} (span : Span) (operator : AssignOperator5) (target value : Expr5) → x ≡ expr.Assign span operator target value → Spans mode ts vs span → IsExpr mode false level_left_hand_side ts target (t ∷ us) → t.kind ≡ assign_kind operator → IsExpr mode no_in level_assignment us value vs → IsNode mode no_in level_assignment ts x vs
    -- 11.14
    sequence : {no_in : Bool} {ts us vs : List Token5} {x : Expr5} (span : Span) (first y : Expr5) (rest : List Expr5) → x ≡ expr.Sequence span first (y ∷ rest) → Spans mode ts vs span → IsExpr mode no_in level_assignment ts first us → AreParts mode no_in us (y ∷ rest) vs → IsNode mode no_in level_sequence ts x vs

  -- NewExpression after `new` (11.2): one with `new`, or a MemberExpression
  pub data IsNewCallee (mode : Mode5) : List Token5 → Expr5 → List Token5 → Type 0 where
    another_new : {ts us : List Token5} {x : Expr5} → IsNode mode false level_left_hand_side ts x us → IsNewCallee mode ts x us
    member : {ts us : List Token5} {x : Expr5} → IsExpr mode false level_member ts x us → IsNewCallee mode ts x us

  -- ElementList with Elision (11.1.4), and the closing bracket; a comma after the last element adds none
  pub data AreElements (mode : Mode5) : List Token5 → List Element5 → List Token5 → Type 0 where
    no_element : {close : Token5} {ts : List Token5} → IsMark (codes "]") close → AreElements mode (close ∷ ts) [] ts
    hole : {comma : Token5} {xs : List Element5} {ts us : List Token5} → IsMark (codes ",") comma → AreElements mode ts xs us → AreElements mode (comma ∷ ts) (element.Hole ∷ xs) us
    last_element : {x : Expr5} {close : Token5} {ts us : List Token5} → IsExpr mode false level_assignment ts x (close ∷ us) → IsMark (codes "]") close → AreElements mode ts (element.Element x ∷ []) us
    next_element : {x : Expr5} {comma : Token5} {xs : List Element5} {ts us vs : List Token5} → IsExpr mode false level_assignment ts x (comma ∷ us) → IsMark (codes ",") comma → AreElements mode us xs vs → AreElements mode ts (element.Element x ∷ xs) vs

  -- PropertyNameAndValueList (11.1.5), and the closing brace
  pub data AreProperties (mode : Mode5) : List Token5 → List Property5 → List Token5 → Type 0 where
    no_property : {close : Token5} {ts : List Token5} → IsMark (codes "}") close → AreProperties mode (close ∷ ts) [] ts
    last_property : {x : Property5} {close : Token5} {ts us : List Token5} → IsProperty mode ts x (close ∷ us) → IsMark (codes "}") close → AreProperties mode ts (x ∷ []) us
    next_property : {x : Property5} {comma : Token5} {xs : List Property5} {ts us vs : List Token5} → IsProperty mode ts x (comma ∷ us) → IsMark (codes ",") comma → AreProperties mode us xs vs → AreProperties mode ts (x ∷ xs) vs

  pub data IsProperty (mode : Mode5) : List Token5 → Property5 → List Token5 → Type 0 where
    plain : {colon : Token5} {ts us vs : List Token5} {x : Property5} (span : Span) (k : PlacedKey5) (value : Expr5) → x ≡ property.Plain span k value → Spans mode ts vs span → IsKey mode ts k (colon ∷ us) → IsMark (codes ":") colon → IsExpr mode false level_assignment us value vs → IsProperty mode ts x vs
    getter : {t : Token5} {ts us vs : List Token5} {x : Property5} (span : Span) (k : PlacedKey5) (f : Function5) → x ≡ property.Getter span k f → Spans mode (t ∷ ts) vs span → IsWord (codes "get") t → IsKey mode ts k us → IsAccessor mode false us f vs → IsProperty mode (t ∷ ts) x vs
    setter : {t : Token5} {ts us vs : List Token5} {x : Property5} (span : Span) (k : PlacedKey5) (f : Function5) → x ≡ property.Setter span k f → Spans mode (t ∷ ts) vs span → IsWord (codes "set") t → IsKey mode ts k us → IsAccessor mode true us f vs → IsProperty mode (t ∷ ts) x vs

  -- what follows an accessor's name: no parameter, or a setter's one, and the body (11.1.5)
  pub data IsAccessor (mode : Mode5) : Bool → List Token5 → Function5 → List Token5 → Type 0 where
    no_value : {open_ close brace : Token5} {ts us : List Token5} {x : Function5} (span : Span) (body : List Stat5) → x ≡ roll-Function5 (record { span = span; name = None; parameters = []; body = body }) → Spans mode (open_ ∷ close ∷ brace ∷ ts) us span → IsMark (codes "(") open_ → IsMark (codes ")") close → IsMark (codes "{") brace → AreStats mode true true ts body us → IsAccessor mode false (open_ ∷ close ∷ brace ∷ ts) x us
    one_value : {open_ close brace : Token5} {ts us vs : List Token5} {x : Function5} (span : Span) (p : Identifier5) (body : List Stat5) → x ≡ roll-Function5 (record { span = span; name = None; parameters = p ∷ []; body = body }) → Spans mode (open_ ∷ ts) vs span → IsMark (codes "(") open_ → IsIdentifier mode ts p (close ∷ brace ∷ us) → IsMark (codes ")") close → IsMark (codes "{") brace → AreStats mode true true us body vs → IsAccessor mode true (open_ ∷ ts) x vs

  -- accesses and calls (11.2), and whether one of them is a call
  pub data AreLinks (mode : Mode5) : Bool → List Token5 → List Link5 → List Token5 → Type 0 where
    no_link : {ts : List Token5} → AreLinks mode false ts [] ts
    member_link : {calls : Bool} {dot t : Token5} {l : Link5} {links : List Link5} {ts us : List Token5} (span : Span) (name : List ℕ) → l ≡ link.Member span name → Spans mode (dot ∷ t ∷ ts) ts span → IsMark (codes ".") dot → IsWord name t → AreLinks mode calls ts links us → AreLinks mode calls (dot ∷ t ∷ ts) (l ∷ links) us
    index_link : {calls : Bool} {open_ close : Token5} {l : Link5} {links : List Link5} {ts us vs : List Token5} (span : Span) (index : Expr5) → l ≡ link.Index span index → Spans mode (open_ ∷ ts) us span → IsMark (codes "[") open_ → IsExpr mode false level_sequence ts index (close ∷ us) → IsMark (codes "]") close → AreLinks mode calls us links vs → AreLinks mode calls (open_ ∷ ts) (l ∷ links) vs
    call_link : {calls : Bool} {open_ : Token5} {l : Link5} {links : List Link5} {ts us vs : List Token5} (span : Span) (arguments : List Expr5) (site : Option Site) → l ≡ link.Call span arguments site → Spans mode (open_ ∷ ts) us span → IsMark (codes "(") open_ → AreArguments mode ts arguments us → AreLinks mode calls us links vs → AreLinks mode true (open_ ∷ ts) (l ∷ links) vs

  -- Arguments (11.2) after the opening parenthesis
  pub data AreArguments (mode : Mode5) : List Token5 → List Expr5 → List Token5 → Type 0 where
    no_argument : {close : Token5} {ts : List Token5} → IsMark (codes ")") close → AreArguments mode (close ∷ ts) [] ts
    last_argument : {x : Expr5} {close : Token5} {ts us : List Token5} → IsExpr mode false level_assignment ts x (close ∷ us) → IsMark (codes ")") close → AreArguments mode ts (x ∷ []) us
    next_argument : {x y : Expr5} {comma : Token5} {xs : List Expr5} {ts us vs : List Token5} → IsExpr mode false level_assignment ts x (comma ∷ us) → IsMark (codes ",") comma → AreArguments mode us (y ∷ xs) vs → AreArguments mode ts (x ∷ y ∷ xs) vs

  -- operators of a level, each with its operand
  pub data AreOperands (mode : Mode5) : Bool → ℕ → List Token5 → List Operand5 → List Token5 → Type 0 where
    no_operand : {no_in : Bool} {level : ℕ} {ts : List Token5} → AreOperands mode no_in level ts [] ts
    next_operand : {no_in : Bool} {level : ℕ} {t : Token5} {o : Operand5} {rest : List Operand5} {ts us vs : List Token5} (operator : BinaryOperator5) (value : Expr5) → o ≡ roll-Operand5 (record { operator = operator; value = value }) → binary_level operator ≡ level → no_in && is_in operator ≡ false → t.kind ≡ binary_kind operator → IsExpr mode no_in (level + 1) ts value us → AreOperands mode no_in level us rest vs → AreOperands mode no_in level (t ∷ ts) (o ∷ rest) vs

  -- the parts of an Expression after its first (11.14)
  pub data AreParts (mode : Mode5) : Bool → List Token5 → List Expr5 → List Token5 → Type 0 where
    no_part : {no_in : Bool} {ts : List Token5} → AreParts mode no_in ts [] ts
    next_part : {no_in : Bool} {comma : Token5} {x : Expr5} {xs : List Expr5} {ts us vs : List Token5} → IsMark (codes ",") comma → IsExpr mode no_in level_assignment ts x us → AreParts mode no_in us xs vs → AreParts mode no_in (comma ∷ ts) (x ∷ xs) vs

  -- `function`, a name or none, the parameters and the body (13)
  pub data IsFunction (mode : Mode5) : List Token5 → Function5 → List Token5 → Type 0 where
    anonymous : {t open_ brace : Token5} {ts us vs : List Token5} {x : Function5} (span : Span) (parameters : List Identifier5) (body : List Stat5) → x ≡ roll-Function5 (record { span = span; name = None; parameters = parameters; body = body }) → Spans mode (t ∷ open_ ∷ ts) vs span → IsWord (codes "function") t → IsMark (codes "(") open_ → AreParameters mode ts parameters (brace ∷ us) → IsMark (codes "{") brace → AreStats mode true true us body vs → IsFunction mode (t ∷ open_ ∷ ts) x vs
    named : {t open_ brace : Token5} {ts us vs ws : List Token5} {x : Function5} (span : Span) (name : Identifier5) (parameters : List Identifier5) (body : List Stat5) → x ≡ roll-Function5 (record { span = span; name = Some name; parameters = parameters; body = body }) → Spans mode (t ∷ ts) ws span → IsWord (codes "function") t → IsIdentifier mode ts name (open_ ∷ us) → IsMark (codes "(") open_ → AreParameters mode us parameters (brace ∷ vs) → IsMark (codes "{") brace → AreStats mode true true vs body ws → IsFunction mode (t ∷ ts) x ws

  -- Statements, and a closing brace. The first mark says that they stand in a function, the second that a declaration of
  -- a function may stand there: at the top level of the script or of a function (14, and 12's note).
  pub data AreStats (mode : Mode5) : Bool → Bool → List Token5 → List Stat5 → List Token5 → Type 0 where
    no_stat : {inside top : Bool} {close : Token5} {ts : List Token5} → IsMark (codes "}") close → AreStats mode inside top (close ∷ ts) [] ts
    next_stat : {inside top : Bool} {s : Stat5} {ss : List Stat5} {ts us vs : List Token5} → IsStat mode inside top ts s us → AreStats mode inside top us ss vs → AreStats mode inside top ts (s ∷ ss) vs

  pub data IsStat (mode : Mode5) : Bool → Bool → List Token5 → Stat5 → List Token5 → Type 0 where
    -- 12.1
    block : {inside top : Bool} {ts us : List Token5} {s : Stat5} (b : Block5) → s ≡ stat.Block b → IsBlock mode inside ts b us → IsStat mode inside top ts s us
    -- 12.2
    var : {inside top : Bool} {t end : Token5} {ts us : List Token5} {s : Stat5} (span : Span) (declared : List Declared5) → s ≡ stat.Var span declared → Spans mode (t ∷ ts) us span → IsWord (codes "var") t → AreDeclared mode false ts declared (end ∷ us) → IsEnd end → IsStat mode inside top (t ∷ ts) s us
    -- 12.3: no semicolon is inserted as an empty statement
    empty : {inside top : Bool} {t : Token5} {ts : List Token5} {s : Stat5} (span : Span) → s ≡ stat.Empty span → Spans mode (t ∷ ts) ts span → IsMark (codes ";") t → IsStat mode inside top (t ∷ ts) s ts
    -- 12.4
    expression : {inside top : Bool} {end : Token5} {ts us : List Token5} {s : Stat5} (span : Span) (x : Expr5) → s ≡ stat.Expression span x → Spans mode ts us span → begins (is_mark (codes "{")) ts ≡ false → begins (is_word (codes "function")) ts ≡ false → IsExpr mode false level_sequence ts x (end ∷ us) → IsEnd end → IsStat mode inside top ts s us
    -- 12.5
    if : {inside top : Bool} {ts us : List Token5} {s : Stat5} (span : Span) (first : Condition5) (more : List Condition5) (otherwise : Option Stat5) → s ≡ stat.If span first more otherwise → Spans mode ts us span → IsIf mode inside ts first more otherwise us → IsStat mode inside top ts s us
    -- 12.6.1
    do_while : {inside top : Bool} {t w open_ close end : Token5} {ts us vs : List Token5} {s : Stat5} (span : Span) (body : Stat5) (test : Expr5) → s ≡ stat.DoWhile span body test → Spans mode (t ∷ ts) vs span → IsWord (codes "do") t → IsStat mode inside false ts body (w ∷ open_ ∷ us) → IsWord (codes "while") w → IsMark (codes "(") open_ → IsExpr mode false level_sequence us test (close ∷ end ∷ vs) → IsMark (codes ")") close → IsEnd end → IsStat mode inside top (t ∷ ts) s vs
    -- 12.6.2
    while : {inside top : Bool} {t open_ close : Token5} {ts us vs : List Token5} {s : Stat5} (span : Span) (test : Expr5) (body : Stat5) → s ≡ stat.While span test body → Spans mode (t ∷ open_ ∷ ts) vs span → IsWord (codes "while") t → IsMark (codes "(") open_ → IsExpr mode false level_sequence ts test (close ∷ us) → IsMark (codes ")") close → IsStat mode inside false us body vs → IsStat mode inside top (t ∷ open_ ∷ ts) s vs
    -- 12.6.3: no semicolon is inserted in the header
    for : {inside top : Bool} {t open_ end : Token5} {ts us vs ws xs : List Token5} {s : Stat5} (span : Span) (first : ForFirst5) (test update : Option Expr5) (body : Stat5) → s ≡ stat.For span first test update body → Spans mode (t ∷ open_ ∷ ts) xs span → IsWord (codes "for") t → IsMark (codes "(") open_ → IsForFirst mode ts first us → IsOptional mode us test (end ∷ vs) → IsMark (codes ";") end → IsClosed mode vs update ws → IsStat mode inside false ws body xs → IsStat mode inside top (t ∷ open_ ∷ ts) s xs
    -- 12.7, 12.8
    continue : {inside top : Bool} {t end : Token5} {ts us : List Token5} {s : Stat5} (span : Span) (label : Option Identifier5) → s ≡ stat.Continue span label → Spans mode (t ∷ ts) us span → IsWord (codes "continue") t → IsLabel mode ts label (end ∷ us) → IsEnd end → IsStat mode inside top (t ∷ ts) s us
    break : {inside top : Bool} {t end : Token5} {ts us : List Token5} {s : Stat5} (span : Span) (label : Option Identifier5) → s ≡ stat.Break span label → Spans mode (t ∷ ts) us span → IsWord (codes "break") t → IsLabel mode ts label (end ∷ us) → IsEnd end → IsStat mode inside top (t ∷ ts) s us
    -- 12.9: only in a function
    return : {top : Bool} {t end : Token5} {ts us : List Token5} {s : Stat5} (span : Span) (value : Option Expr5) → s ≡ stat.Return span value → Spans mode (t ∷ ts) us span → IsWord (codes "return") t → IsReturned mode ts value (end ∷ us) → IsEnd end → IsStat mode true top (t ∷ ts) s us
    -- 12.11
    switch : {inside top : Bool} {t open_ close brace : Token5} {ts us vs : List Token5} {s : Stat5} (span : Span) (subject : Expr5) (cases : List Case5) → s ≡ stat.Switch span subject cases → Spans mode (t ∷ open_ ∷ ts) vs span → IsWord (codes "switch") t → IsMark (codes "(") open_ → IsExpr mode false level_sequence ts subject (close ∷ brace ∷ us) → IsMark (codes ")") close → IsMark (codes "{") brace → AreCases mode inside true us cases vs → IsStat mode inside top (t ∷ open_ ∷ ts) s vs
    -- 12.12
    labelled : {inside top : Bool} {colon : Token5} {ts us vs : List Token5} {s : Stat5} (span : Span) (label : Identifier5) (body : Stat5) → s ≡ stat.Labelled span label body → Spans mode ts vs span → IsIdentifier mode ts label (colon ∷ us) → IsMark (codes ":") colon → IsStat mode inside false us body vs → IsStat mode inside top ts s vs
    -- 12.13
    throw : {inside top : Bool} {t end : Token5} {ts us : List Token5} {s : Stat5} (span : Span) (value : Expr5) → s ≡ stat.Throw span value → Spans mode (t ∷ ts) us span → IsWord (codes "throw") t → IsOnLine ts → IsExpr mode false level_sequence ts value (end ∷ us) → IsEnd end → IsStat mode inside top (t ∷ ts) s us
    -- 12.14
    try_catch : {inside top : Bool} {t : Token5} {ts us vs : List Token5} {s : Stat5} (span : Span) (b : Block5) (handler : Catch5) → s ≡ stat.Try span b (Some handler) None → Spans mode (t ∷ ts) vs span → IsWord (codes "try") t → IsBlock mode inside ts b us → IsCatch mode inside us handler vs → IsStat mode inside top (t ∷ ts) s vs
    try_finally : {inside top : Bool} {t f : Token5} {ts us vs : List Token5} {s : Stat5} (span : Span) (b last : Block5) → s ≡ stat.Try span b None (Some last) → Spans mode (t ∷ ts) vs span → IsWord (codes "try") t → IsBlock mode inside ts b (f ∷ us) → IsWord (codes "finally") f → IsBlock mode inside us last vs → IsStat mode inside top (t ∷ ts) s vs
    try_both : {inside top : Bool} {t f : Token5} {ts us vs ws : List Token5} {s : Stat5} (span : Span) (b last : Block5) (handler : Catch5) → s ≡ stat.Try span b (Some handler) (Some last) → Spans mode (t ∷ ts) ws span → IsWord (codes "try") t → IsBlock mode inside ts b us → IsCatch mode inside us handler (f ∷ vs) → IsWord (codes "finally") f → IsBlock mode inside vs last ws → IsStat mode inside top (t ∷ ts) s ws
    -- 12.15
    debugger : {inside top : Bool} {t end : Token5} {ts : List Token5} {s : Stat5} (span : Span) → s ≡ stat.Debugger span → Spans mode (t ∷ end ∷ ts) ts span → IsWord (codes "debugger") t → IsEnd end → IsStat mode inside top (t ∷ end ∷ ts) s ts
    -- FunctionDeclaration (13)
    declaration : {inside : Bool} {t : Token5} {ts us : List Token5} {s : Stat5} (span : Span) (name : Identifier5) (parameters : List Identifier5) (body : List Stat5) → s ≡ stat.FunctionDeclaration (roll-Function5 (record { span = span; name = Some name; parameters = parameters; body = body })) → IsFunction mode (t ∷ ts) (roll-Function5 (record { span = span; name = Some name; parameters = parameters; body = body })) us → IsStat mode inside true (t ∷ ts) s us

  pub data IsBlock (mode : Mode5) : Bool → List Token5 → Block5 → List Token5 → Type 0 where
    braces : {inside : Bool} {t : Token5} {ts us : List Token5} {x : Block5} (span : Span) (body : List Stat5) → x ≡ roll-Block5 (record { span = span; statements = body }) → Spans mode (t ∷ ts) us span → IsMark (codes "{") t → AreStats mode inside false ts body us → IsBlock mode inside (t ∷ ts) x us

  -- VariableDeclarationList (12.2)
  pub data AreDeclared (mode : Mode5) : Bool → List Token5 → List Declared5 → List Token5 → Type 0 where
    last_declared : {no_in : Bool} {d : Declared5} {ts us : List Token5} → IsDeclared mode no_in ts d us → AreDeclared mode no_in ts (d ∷ []) us
    next_declared : {no_in : Bool} {comma : Token5} {d e : Declared5} {ds : List Declared5} {ts us vs : List Token5} → IsDeclared mode no_in ts d (comma ∷ us) → IsMark (codes ",") comma → AreDeclared mode no_in us (e ∷ ds) vs → AreDeclared mode no_in ts (d ∷ e ∷ ds) vs

  pub data IsDeclared (mode : Mode5) : Bool → List Token5 → Declared5 → List Token5 → Type 0 where
    uninitialized : {no_in : Bool} {ts us : List Token5} {d : Declared5} (span : Span) (name : Identifier5) → d ≡ roll-Declared5 (record { span = span; name = name; init = None }) → Spans mode ts us span → IsIdentifier mode ts name us → IsDeclared mode no_in ts d us
    initialized : {no_in : Bool} {equals : Token5} {ts us vs : List Token5} {d : Declared5} (span : Span) (name : Identifier5) (init : Expr5) → d ≡ roll-Declared5 (record { span = span; name = name; init = Some init }) → Spans mode ts vs span → IsIdentifier mode ts name (equals ∷ us) → IsMark (codes "=") equals → IsExpr mode no_in level_assignment us init vs → IsDeclared mode no_in ts d vs

  -- An `else` belongs to the nearest `if` before it that can have one, so an `if` without one stands only before what
  -- begins with no `else` (12.5).
  pub data IsIf (mode : Mode5) : Bool → List Token5 → Condition5 → List Condition5 → Option Stat5 → List Token5 → Type 0 where
    no_else : {inside : Bool} {c : Condition5} {ts us : List Token5} → IsCondition mode inside ts c us → begins (is_word (codes "else")) us ≡ false → IsIf mode inside ts c [] None us
    last_else : {inside : Bool} {e : Token5} {c : Condition5} {s : Stat5} {ts us vs : List Token5} → IsCondition mode inside ts c (e ∷ us) → IsWord (codes "else") e → begins (is_word (codes "if")) us ≡ false → IsStat mode inside false us s vs → IsIf mode inside ts c [] (Some s) vs
    else_if : {inside : Bool} {e : Token5} {c d : Condition5} {more : List Condition5} {otherwise : Option Stat5} {ts us vs : List Token5} → IsCondition mode inside ts c (e ∷ us) → IsWord (codes "else") e → IsIf mode inside us d more otherwise vs → IsIf mode inside ts c (d ∷ more) otherwise vs

  pub data IsCondition (mode : Mode5) : Bool → List Token5 → Condition5 → List Token5 → Type 0 where
    condition : {inside : Bool} {t open_ close : Token5} {ts us vs : List Token5} {x : Condition5} (span : Span) (test : Expr5) (body : Stat5) → x ≡ roll-Condition5 (record { span = span; test = test; body = body }) → Spans mode (t ∷ open_ ∷ ts) vs span → IsWord (codes "if") t → IsMark (codes "(") open_ → IsExpr mode false level_sequence ts test (close ∷ us) → IsMark (codes ")") close → IsStat mode inside false us body vs → IsCondition mode inside (t ∷ open_ ∷ ts) x vs

  -- what stands before the first semicolon of a for header, and that semicolon (12.6.3)
  pub data IsForFirst (mode : Mode5) : List Token5 → ForFirst5 → List Token5 → Type 0 where
    nothing_first : {end : Token5} {ts : List Token5} → IsMark (codes ";") end → IsForFirst mode (end ∷ ts) for_first.NoFirst ts
    var_first : {t end : Token5} {ts us : List Token5} {x : ForFirst5} (declared : List Declared5) → x ≡ for_first.FirstVar declared → IsWord (codes "var") t → AreDeclared mode true ts declared (end ∷ us) → IsMark (codes ";") end → IsForFirst mode (t ∷ ts) x us
    expression_first : {end : Token5} {ts us : List Token5} {x : ForFirst5} (e : Expr5) → x ≡ for_first.FirstExpression e → IsExpr mode true level_sequence ts e (end ∷ us) → IsMark (codes ";") end → IsForFirst mode ts x us

  -- an expression that may be absent
  pub data IsOptional (mode : Mode5) : List Token5 → Option Expr5 → List Token5 → Type 0 where
    absent : {ts : List Token5} → IsOptional mode ts None ts
    present : {x : Expr5} {ts us : List Token5} → IsExpr mode false level_sequence ts x us → IsOptional mode ts (Some x) us

  pub data IsClosed (mode : Mode5) : List Token5 → Option Expr5 → List Token5 → Type 0 where
    closed : {close : Token5} {x : Option Expr5} {ts us : List Token5} → IsOptional mode ts x (close ∷ us) → IsMark (codes ")") close → IsClosed mode ts x us

  -- the label of a continue or a break (12.7, 12.8), and the value of a return (12.9), on the line of the word before
  pub data IsLabel (mode : Mode5) : List Token5 → Option Identifier5 → List Token5 → Type 0 where
    no_label : {ts : List Token5} → IsLabel mode ts None ts
    label : {x : Identifier5} {ts us : List Token5} → IsOnLine ts → IsIdentifier mode ts x us → IsLabel mode ts (Some x) us

  pub data IsReturned (mode : Mode5) : List Token5 → Option Expr5 → List Token5 → Type 0 where
    no_value_returned : {ts : List Token5} → IsReturned mode ts None ts
    value_returned : {x : Expr5} {ts us : List Token5} → IsOnLine ts → IsExpr mode false level_sequence ts x us → IsReturned mode ts (Some x) us

  -- The clauses of a switch and the closing brace (12.11). The second mark says that a default clause may still come.
  pub data AreCases (mode : Mode5) : Bool → Bool → List Token5 → List Case5 → List Token5 → Type 0 where
    no_case : {inside may : Bool} {close : Token5} {ts : List Token5} → IsMark (codes "}") close → AreCases mode inside may (close ∷ ts) [] ts
    case_clause : {inside may : Bool} {t colon : Token5} {c : Case5} {cs : List Case5} {ts us vs ws : List Token5} (span : Span) (test : Expr5) (body : List Stat5) → c ≡ roll-Case5 (record { span = span; test = Some test; body = body }) → Spans mode (t ∷ ts) vs span → IsWord (codes "case") t → IsExpr mode false level_sequence ts test (colon ∷ us) → IsMark (codes ":") colon → AreInCase mode inside us body vs → AreCases mode inside may vs cs ws → AreCases mode inside may (t ∷ ts) (c ∷ cs) ws
    default_clause : {inside : Bool} {t colon : Token5} {c : Case5} {cs : List Case5} {ts us vs : List Token5} (span : Span) (body : List Stat5) → c ≡ roll-Case5 (record { span = span; test = None; body = body }) → Spans mode (t ∷ colon ∷ ts) us span → IsWord (codes "default") t → IsMark (codes ":") colon → AreInCase mode inside ts body us → AreCases mode inside false us cs vs → AreCases mode inside true (t ∷ colon ∷ ts) (c ∷ cs) vs

  -- the statements of a clause
  pub data AreInCase (mode : Mode5) : Bool → List Token5 → List Stat5 → List Token5 → Type 0 where
    no_more_in_case : {inside : Bool} {ts : List Token5} → AreInCase mode inside ts [] ts
    next_in_case : {inside : Bool} {s : Stat5} {ss : List Stat5} {ts us vs : List Token5} → IsStat mode inside false ts s us → AreInCase mode inside us ss vs → AreInCase mode inside ts (s ∷ ss) vs

  -- 12.14
  pub data IsCatch (mode : Mode5) : Bool → List Token5 → Catch5 → List Token5 → Type 0 where
    handler : {inside : Bool} {t open_ close : Token5} {ts us vs : List Token5} {x : Catch5} (span : Span) (parameter : Identifier5) (body : Block5) → x ≡ roll-Catch5 (record { span = span; parameter = parameter; body = body }) → Spans mode (t ∷ open_ ∷ ts) vs span → IsWord (codes "catch") t → IsMark (codes "(") open_ → IsIdentifier mode ts parameter (close ∷ us) → IsMark (codes ")") close → IsBlock mode inside us body vs → IsCatch mode inside (t ∷ open_ ∷ ts) x vs

-- Program (14): statements to the end
pub data IsProgram (mode : Mode5) : List Token5 → List Stat5 → Type 0 where
  no_more : IsProgram mode [] []
  one_more : {s : Stat5} {ss : List Stat5} {ts us : List Token5} → IsStat mode false true ts s us → IsProgram mode us ss → IsProgram mode ts (s ∷ ss)
