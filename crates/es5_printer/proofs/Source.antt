-- What a text of the script says of its tokens: characters spell each, and the directive comes first.
use Rattle.std.proofs.Common.{◌≡◌, ℕ, suc, ◌+◌, ◌-◌, ◌/◌, ◌%◌, ◌<◌, Bool, true, false, ◌||◌, ◌&&◌, nat_le, nat_lt, ◌==◌, List, [], ◌∷◌, ◌++◌, Option, refl, sym, ap, subst, ◌∙◌, arith, inl, inr}
use Rattle.std.specs.Prelude.{codes, if◌then◌else◌}
use Rattle.std.specs.List.{list_all}
use Rattle.std.specs.Str.{chars, IsUtf8}
use Rattle.std.specs.Char.{digit_value, is_ascii_hexdigit}
use Rattle.std.proofs.lemmas.Str.{scalars-chars}
use Rattle.std.proofs.Math.Utf8.{scalar, scalars, scalar_cases}
use Rattle.std.proofs.lemmas.Bool.{false≢true, eqb-true, leb-true, le-leb, and_parts}
use Rattle.std.proofs.lemmas.Bool.Decides.{nat_tests}
use Rattle.std.proofs.lemmas.List.Folds.{list_all-append}
use Rattle.es_text.specs.declared.Span.{Span}
use Rattle.es5_ast.specs.declared.operators.UnaryOperator5.{UnaryOperator5}
use Rattle.es5_ast.specs.declared.operators.UnaryOperator5.TheVariants.{Delete, Void, Typeof, Plus, Minus, BitNot, Not}
use Rattle.es5_ast.specs.declared.operators.UpdateOperator5.{UpdateOperator5}
use Rattle.es5_ast.specs.declared.operators.UpdateOperator5.TheVariants.{IncrementBefore, DecrementBefore, IncrementAfter, DecrementAfter}
use Rattle.es5_ast.specs.declared.operators.BinaryOperator5.{BinaryOperator5}
use Rattle.es5_ast.specs.declared.operators.BinaryOperator5.TheVariants as binary
use Rattle.es5_ast.specs.declared.operators.AssignOperator5.{AssignOperator5}
use Rattle.es5_ast.specs.declared.operators.AssignOperator5.TheVariants as assign
use Rattle.es5_ast.specs.declared.operators.Literal5.{Literal5}
use Rattle.es5_ast.specs.declared.operators.Literal5.TheVariants as literals
use Rattle.es5_ast.specs.declared.tree.Identifier5.{Identifier5}
use Rattle.es5_ast.specs.declared.tree.Stat5.{Stat5}
use Rattle.es5_ast.specs.declared.tree.Stat5.TheVariants as stat
use Rattle.es5_ast.specs.declared.tree.Block5.{Block5}
use Rattle.es5_ast.specs.declared.tree.Condition5.{Condition5}
use Rattle.es5_ast.specs.declared.tree.Function5.{Function5}
use Rattle.es5_ast.specs.declared.tree.Expr5.{Expr5}
use Rattle.es5_ast.specs.declared.tree.Expr5.TheVariants as expr
use Rattle.es5_ast.specs.declared.tree.Link5.{Link5}
use Rattle.es5_ast.specs.declared.tree.Operand5.{Operand5}
use Rattle.es5_ast.specs.Lexical.{Kind5, Word, Text, Punctuator, Inserted, Token5, is_single_escape, units_of, hex_value, StringCharacters, none, itself, single, non_escape, null_unit, hexadecimal, unicode, continuation, SpellsToken, word, decimal_integer, hexadecimal_integer, double_quoted, single_quoted, punctuator, Tokens5, finished, white_space, line_terminator, single_line_comment, multi_line_comment, token}
use Rattle.es5_ast.specs.Grammar as g
use Rattle.es5_ast.specs.Grammar.{Aside, is_word, begins, ends, literal_kind, update_kind, unary_kind, binary_kind, assign_kind, IsIdentifier, IsExpr, IsNode, AreLinks, AreOperands, AreParts, IsFunction, IsStat, IsBlock, IsIf}
use Rattle.es5_ast.specs.Script.{Fills, at_end, keeps, inserts, inserts_at_end}
use Rattle.es5_printer.proofs.Tokens.{IsKnown, AreKnown}
use Rattle.es5_printer.proofs.Starting.{if_of_if}

abbrev is_unit : ℕ → Bool
is_unit u = nat_lt u 65536

unit_by : (u : ℕ) → u < 65536 → is_unit u ≡ true
unit_by u h = le-leb (suc u) 65536 h

all_append : (xs ys : List ℕ) → list_all is_unit xs ≡ true → list_all is_unit ys ≡ true → list_all is_unit (xs ++ ys) ≡ true
all_append xs ys a b = list_all-append is_unit xs ys ∙ ap (λ x. x && list_all is_unit ys) a ∙ b

one_more : (u : ℕ) (us : List ℕ) → u < 65536 → list_all is_unit us ≡ true → list_all is_unit (u ∷ us) ≡ true
one_more u us h e = ap (λ x. x && list_all is_unit us) (unit_by u h) ∙ e

scalar_below : (c : ℕ) → scalar c ≡ true → c < 1114112
scalar_below c e = elim (scalar_cases c e) [ inl h ↦ omega arith | inr h ↦ omega arith ]

units_by : (c : ℕ) (b : Bool) → nat_le c 65535 ≡ b → c < 1114112 → list_all is_unit (if b then c ∷ [] else (55296 + (c - 65536) / 1024) ∷ (56320 + (c - 65536) % 1024) ∷ []) ≡ true
units_by c true e h = let le = leb-true c 65535 e in one_more c [] (omega arith) refl
units_by c false e h = one_more (55296 + (c - 65536) / 1024) ((56320 + (c - 65536) % 1024) ∷ []) (omega arith) (one_more (56320 + (c - 65536) % 1024) [] (omega arith) refl)

units_known : (c : ℕ) → scalar c ≡ true → list_all is_unit (units_of c) ≡ true
units_known c e = units_by c (nat_le c 65535) refl (scalar_below c e)

or_elim : {R : Type 0} (a b : Bool) → (a || b) ≡ true → (a ≡ true → R) → (b ≡ true → R) → R
or_elim true b e f h = f refl
or_elim false b e f h = h e

escape_row : (c u a n : ℕ) (rest : Bool) → n < 65536 → ((a == c) && (n == u)) || rest ≡ true → (rest ≡ true → u < 65536) → u < 65536
escape_row c u a n rest h e later = or_elim ((a == c) && (n == u)) rest e (λ p. subst (λ z. z < 65536) (eqb-true n u (and_parts (a == c) (n == u) p).1) h) later

escape_small : (c u : ℕ) → is_single_escape c u ≡ true → u < 65536
escape_small c u e =
    escape_row c u 98 8 _ (omega arith) e (λ e. escape_row c u 116 9 _ (omega arith) e (λ e. escape_row c u 110 10 _ (omega arith) e (λ e. escape_row c u 118 11 _ (omega arith) e (λ e. escape_row c u 102 12 _ (omega arith) e (λ e. escape_row c u 114 13 _ (omega arith) e (λ e. escape_row c u 34 34 _ (omega arith) e (λ e. escape_row c u 39 39 _ (omega arith) e (λ e. escape_row c u 92 92 _ (omega arith) e (λ e. absurd (false≢true e))))))))))

hex_small : (c : ℕ) → is_ascii_hexdigit c ≡ true → digit_value c < 16
hex_small c e = grind (arith, nat_tests)

two_small : (a b : ℕ) → list_all is_ascii_hexdigit (a ∷ b ∷ []) ≡ true → hex_value (a ∷ b ∷ []) < 65536
two_small a b e =
    let p = and_parts (is_ascii_hexdigit a) (list_all is_ascii_hexdigit (b ∷ [])) e in
    let q = and_parts (is_ascii_hexdigit b) true p.1 in
    let x = hex_small a p.0 in
    let y = hex_small b q.0 in
    omega arith

four_small : (a b c d : ℕ) → list_all is_ascii_hexdigit (a ∷ b ∷ c ∷ d ∷ []) ≡ true → hex_value (a ∷ b ∷ c ∷ d ∷ []) < 65536
four_small a b c d e =
    let p = and_parts (is_ascii_hexdigit a) (list_all is_ascii_hexdigit (b ∷ c ∷ d ∷ [])) e in
    let q = and_parts (is_ascii_hexdigit b) (list_all is_ascii_hexdigit (c ∷ d ∷ [])) p.1 in
    let r = and_parts (is_ascii_hexdigit c) (list_all is_ascii_hexdigit (d ∷ [])) q.1 in
    let s = and_parts (is_ascii_hexdigit d) true r.1 in
    let x = hex_small a p.0 in
    let y = hex_small b q.0 in
    let z = hex_small c r.0 in
    let w = hex_small d s.0 in
    omega arith

abbrev AreChars : List ℕ → Type 0
AreChars cs = list_all scalar cs ≡ true

tail_chars : (c : ℕ) (cs : List ℕ) → AreChars (c ∷ cs) → AreChars cs
tail_chars c cs e = (and_parts (scalar c) (list_all scalar cs) e).1

split_chars : (xs ys : List ℕ) → AreChars (xs ++ ys) → AreChars xs × AreChars ys
split_chars xs ys e = and_parts (list_all scalar xs) (list_all scalar ys) (sym (list_all-append scalar xs ys) ∙ e)

string_known : {quote : ℕ} {cs us : List ℕ} → StringCharacters quote cs us → AreChars cs → list_all is_unit us ≡ true
string_known none e = refl
string_known (itself {c = c} {cs = cs} {us = us} q b l d) e = let p = and_parts (scalar c) (list_all scalar cs) e in all_append (units_of c) us (units_known c p.0) (string_known d p.1)
string_known (single {c = c} {u = u} {cs = cs} {us = us} s d) e = one_more u us (escape_small c u s) (string_known d (tail_chars c cs (tail_chars 92 (c ∷ cs) e)))
string_known (non_escape {c = c} {cs = cs} {us = us} n d) e = let p = and_parts (scalar c) (list_all scalar cs) (tail_chars 92 (c ∷ cs) e) in all_append (units_of c) us (units_known c p.0) (string_known d p.1)
string_known (null_unit {cs = cs} {us = us} n d) e = one_more 0 us (omega arith) (string_known d (tail_chars 48 cs (tail_chars 92 (48 ∷ cs) e)))
string_known (hexadecimal {a = a} {b = b} {cs = cs} {us = us} h d) e = one_more (hex_value (a ∷ b ∷ [])) us (two_small a b h) (string_known d (tail_chars b cs (tail_chars a (b ∷ cs) (tail_chars 120 (a ∷ b ∷ cs) (tail_chars 92 (120 ∷ a ∷ b ∷ cs) e)))))
string_known (unicode {a = a} {b = b} {c = c} {d = d} {cs = cs} {us = us} h s) e = one_more (hex_value (a ∷ b ∷ c ∷ d ∷ [])) us (four_small a b c d h) (string_known s (tail_chars d cs (tail_chars c (d ∷ cs) (tail_chars b (c ∷ d ∷ cs) (tail_chars a (b ∷ c ∷ d ∷ cs) (tail_chars 117 (a ∷ b ∷ c ∷ d ∷ cs) (tail_chars 92 (117 ∷ a ∷ b ∷ c ∷ d ∷ cs) e)))))))
string_known (continuation line {cs = cs} l n d) e = string_known d (split_chars (92 ∷ line) cs e).1

kind_known : (kind : Kind5) (text : List ℕ) → SpellsToken kind text → AreChars text → IsKnown kind
kind_known kind text (word e) h = e
kind_known kind text (decimal_integer e) h = e
kind_known kind text (hexadecimal_integer x a e) h = e
kind_known kind text (double_quoted {cs = cs} d) h = string_known d (split_chars cs (34 ∷ []) (tail_chars 34 (cs ++ 34 ∷ []) h)).0
kind_known kind text (single_quoted {cs = cs} d) h = string_known d (split_chars cs (39 ∷ []) (tail_chars 39 (cs ++ 39 ∷ []) h)).0
kind_known kind text (punctuator e) h = e

tokens_known : {at : ℕ} {line : Bool} {cs : List ℕ} {ts : List Token5} → Tokens5 at line cs ts → AreChars cs → AreKnown ts
tokens_known finished h = tt
tokens_known (white_space {c = c} {cs = cs} e d) h = tokens_known d (tail_chars c cs h)
tokens_known (line_terminator {c = c} {cs = cs} e d) h = tokens_known d (tail_chars c cs h)
tokens_known (single_line_comment text body rest a b c d) h = tokens_known d (split_chars text rest h).1
tokens_known (multi_line_comment text body rest a b d) h = tokens_known d (split_chars text rest h).1
tokens_known (token text rest kind sp wh d) h = let p = split_chars text rest h in (kind_known kind text sp p.0, tokens_known d p.1)

fills_known : {before ts filled : List Token5} → Fills before ts filled → AreKnown ts → AreKnown filled
fills_known at_end v = tt
fills_known (keeps d) v = (v.0, fills_known d v.1)
fills_known (inserts b a d) v = (tt, fills_known d v)
fills_known (inserts_at_end w d) v = (tt, fills_known d v)

scalars_all : (cs : List ℕ) → scalars cs ≡ true → AreChars cs
scalars_all [] e = refl
scalars_all (c ∷ cs) e = let p = and_parts (scalar c) (scalars cs) e in ap (λ x. x && list_all scalar cs) p.0 ∙ scalars_all cs p.1

-- the tokens of a text are known
pub source_known : (bytes : List ℕ) {tokens filled : List Token5} → IsUtf8 bytes → Tokens5 0 false (chars bytes) tokens → Fills [] tokens filled → AreKnown filled
source_known bytes utf8 lexed fills = fills_known fills (tokens_known lexed (scalars_all (chars bytes) (scalars-chars bytes utf8)))

-- What begins with a text and goes on with the end of a statement is that text alone.
abbrev pub first_kind : List Token5 → Kind5
first_kind [] = Inserted
first_kind (t ∷ ts) = t.kind

abbrev pub second_ends : List Token5 → Bool
second_ends [] = false
second_ends (t ∷ ts) = begins ends ts

abbrev IsText : List ℕ → Expr5 → Type 0
IsText units x = (span : Span) × (x ≡ expr.Literal span (literals.Text units))

word_is_none : (k : Kind5) (w units : List ℕ) → k ≡ Word w → k ≡ Text units → ⊥
word_is_none k w units a b = cc

mark_is_none : (k : Kind5) (p units : List ℕ) → k ≡ Punctuator p → k ≡ Text units → ⊥
mark_is_none k p units a b = cc

literal_text : (value : Literal5) (units : List ℕ) → literal_kind value ≡ Text units → value ≡ literals.Text units
literal_text literals.Null units e = absurd (word_is_none (Word (codes "null")) (codes "null") units refl e)
literal_text (literals.Truth true) units e = absurd (word_is_none (Word (codes "true")) (codes "true") units refl e)
literal_text (literals.Truth false) units e = absurd (word_is_none (Word (codes "false")) (codes "false") units refl e)
literal_text (literals.Integer value) units e = cc
literal_text (literals.Text us) units e = let same : us ≡ units = cc in ap literals.Text same

update_is_none : (op : UpdateOperator5) (units : List ℕ) → update_kind op ≡ Text units → ⊥
update_is_none IncrementBefore units e = mark_is_none (Punctuator (codes "++")) (codes "++") units refl e
update_is_none DecrementBefore units e = mark_is_none (Punctuator (codes "--")) (codes "--") units refl e
update_is_none IncrementAfter units e = mark_is_none (Punctuator (codes "++")) (codes "++") units refl e
update_is_none DecrementAfter units e = mark_is_none (Punctuator (codes "--")) (codes "--") units refl e

unary_is_none : (op : UnaryOperator5) (units : List ℕ) → unary_kind op ≡ Text units → ⊥
unary_is_none Delete units e = word_is_none (Word (codes "delete")) (codes "delete") units refl e
unary_is_none Void units e = word_is_none (Word (codes "void")) (codes "void") units refl e
unary_is_none Typeof units e = word_is_none (Word (codes "typeof")) (codes "typeof") units refl e
unary_is_none Plus units e = mark_is_none (Punctuator (codes "+")) (codes "+") units refl e
unary_is_none Minus units e = mark_is_none (Punctuator (codes "-")) (codes "-") units refl e
unary_is_none BitNot units e = mark_is_none (Punctuator (codes "~")) (codes "~") units refl e
unary_is_none Not units e = mark_is_none (Punctuator (codes "!")) (codes "!") units refl e

update_goes_on : (op : UpdateOperator5) → ends (update_kind op) ≡ false
update_goes_on IncrementBefore = refl
update_goes_on DecrementBefore = refl
update_goes_on IncrementAfter = refl
update_goes_on DecrementAfter = refl

assign_goes_on : (op : AssignOperator5) → ends (assign_kind op) ≡ false
assign_goes_on assign.Assign = refl
assign_goes_on assign.MultiplyAssign = refl
assign_goes_on assign.DivideAssign = refl
assign_goes_on assign.RemainderAssign = refl
assign_goes_on assign.AddAssign = refl
assign_goes_on assign.SubtractAssign = refl
assign_goes_on assign.ShiftLeftAssign = refl
assign_goes_on assign.ShiftRightAssign = refl
assign_goes_on assign.ShiftRightUnsignedAssign = refl
assign_goes_on assign.BitAndAssign = refl
assign_goes_on assign.BitXorAssign = refl
assign_goes_on assign.BitOrAssign = refl

binary_goes_on : (op : BinaryOperator5) → ends (binary_kind op) ≡ false
binary_goes_on binary.Or = refl
binary_goes_on binary.And = refl
binary_goes_on binary.BitOr = refl
binary_goes_on binary.BitXor = refl
binary_goes_on binary.BitAnd = refl
binary_goes_on binary.Equal = refl
binary_goes_on binary.NotEqual = refl
binary_goes_on binary.Same = refl
binary_goes_on binary.NotSame = refl
binary_goes_on binary.Less = refl
binary_goes_on binary.Greater = refl
binary_goes_on binary.AtMost = refl
binary_goes_on binary.AtLeast = refl
binary_goes_on binary.InstanceOf = refl
binary_goes_on binary.In = refl
binary_goes_on binary.ShiftLeft = refl
binary_goes_on binary.ShiftRight = refl
binary_goes_on binary.ShiftRightUnsigned = refl
binary_goes_on binary.Add = refl
binary_goes_on binary.Subtract = refl
binary_goes_on binary.Multiply = refl
binary_goes_on binary.Divide = refl
binary_goes_on binary.Remainder = refl

-- a token that goes on doesn't end
goes_on : {A : Type 0} (k m : Kind5) → k ≡ m → ends m ≡ false → ends k ≡ true → A
goes_on k m e more stops = absurd (false≢true (sym more ∙ ap ends (sym e) ∙ stops))

links_go_on : {A : Type 0} {calls : Bool} {ts : List Token5} {l : Link5} {links : List Link5} {us : List Token5} → AreLinks Aside calls ts (l ∷ links) us → begins ends ts ≡ true → A
links_go_on (g.member_link {dot = dot} span name e sp md w ds) h = goes_on dot.kind (Punctuator (codes ".")) md refl h
links_go_on (g.index_link {open_ = t} span index e sp mo dx mc ds) h = goes_on t.kind (Punctuator (codes "[")) mo refl h
links_go_on (g.call_link {open_ = t} span arguments site e sp mo da ds) h = goes_on t.kind (Punctuator (codes "(")) mo refl h

operands_go_on : {A : Type 0} {no_in : Bool} {level : ℕ} {ts : List Token5} {o : Operand5} {operands : List Operand5} {us : List Token5} → AreOperands Aside no_in level ts (o ∷ operands) us → begins ends ts ≡ true → A
operands_go_on (g.next_operand {t = t} operator value e bl ni k dx ds) h = goes_on t.kind (binary_kind operator) k (binary_goes_on operator) h

parts_go_on : {A : Type 0} {no_in : Bool} {ts : List Token5} {x : Expr5} {parts : List Expr5} {us : List Token5} → AreParts Aside no_in ts (x ∷ parts) us → begins ends ts ≡ true → A
parts_go_on (g.next_part {comma = t} m d ds) h = goes_on t.kind (Punctuator (codes ",")) m refl h

function_is_none : {ts : List Token5} {f : Function5} {us : List Token5} (units : List ℕ) → IsFunction Aside ts f us → first_kind ts ≡ Text units → ⊥
function_is_none units (g.anonymous {t = t} span parameters body e sp w mo dp mb d) h = word_is_none t.kind (codes "function") units w h
function_is_none units (g.named {t = t} span name parameters body e sp w di mo dp mb d) h = word_is_none t.kind (codes "function") units w h

mutual
  text_expr : {no_in : Bool} {least : ℕ} {ts : List Token5} {x : Expr5} {us : List Token5} → IsExpr Aside no_in least ts x us → (units : List ℕ) → first_kind ts ≡ Text units → second_ends ts ≡ true → IsText units x × (begins ends us ≡ true)
  text_expr (g.bare level le d) units k n = text_node d units k n
  text_expr (g.group {open_ = t} mo d mc) units k n = absurd (mark_is_none t.kind (codes "(") units mo k)

  text_node : {no_in : Bool} {level : ℕ} {ts : List Token5} {x : Expr5} {us : List Token5} → IsNode Aside no_in level ts x us → (units : List ℕ) → first_kind ts ≡ Text units → second_ends ts ≡ true → IsText units x × (begins ends us ≡ true)
  text_node (g.this {t = t} span e sp w) units k n = absurd (word_is_none t.kind (codes "this") units w k)
  text_node (g.identifier {t = t} span name e sp w free) units k n = absurd (word_is_none t.kind name units w k)
  text_node (g.literal span value e sp v) units k n = ((span, e ∙ ap (expr.Literal span) (literal_text value units (sym v ∙ k))), n)
  text_node (g.array {t = t} span elements e sp m ds) units k n = absurd (mark_is_none t.kind (codes "[") units m k)
  text_node (g.object {t = t} span properties e sp m ds) units k n = absurd (mark_is_none t.kind (codes "{") units m k)
  text_node (g.function f e d) units k n = absurd (function_is_none units d k)
  text_node (g.chain calls span head l links e sp ss dh dl) units k n = links_go_on dl (text_expr dh units k n).1
  text_node (g.new_call {t = t} span callee arguments e sp w dc m da) units k n = absurd (word_is_none t.kind (codes "new") units w k)
  text_node (g.new_bare {t = t} span callee e sp w dc) units k n = absurd (word_is_none t.kind (codes "new") units w k)
  text_node (g.update_after {t = t} span operator target e sp b dt v l) units k n = goes_on t.kind (update_kind operator) v (update_goes_on operator) (text_expr dt units k n).1
  text_node (g.update_before span operator target e sp b v dt) units k n = absurd (update_is_none operator units (sym v ∙ k))
  text_node (g.unary span operator operand e sp v d) units k n = absurd (unary_is_none operator units (sym v ∙ k))
  text_node (g.binary_chain level span first o operands e sp df ds) units k n = operands_go_on ds (text_expr df units k n).1
  text_node (g.conditional {question = t} span test yes_ no_ e sp dt mq dy mc dn) units k n = goes_on t.kind (Punctuator (codes "?")) mq refl (text_expr dt units k n).1
  text_node (g.assignment {t = t} span operator target value e sp dt v dv) units k n = goes_on t.kind (assign_kind operator) v (assign_goes_on operator) (text_expr dt units k n).1
  text_node (g.sequence span first y parts e sp df dp) units k n = parts_go_on dp (text_expr df units k n).1

block_is_none : {inside : Bool} {ts : List Token5} {b : Block5} {us : List Token5} (units : List ℕ) → IsBlock Aside inside ts b us → first_kind ts ≡ Text units → ⊥
block_is_none units (g.braces {t = t} span body e sp m d) h = mark_is_none t.kind (codes "{") units m h

if_is_none : {inside : Bool} {ts : List Token5} {c : Condition5} {more : List Condition5} {otherwise : Option Stat5} {us : List Token5} (units : List ℕ) → IsIf Aside inside ts c more otherwise us → first_kind ts ≡ Text units → ⊥
if_is_none {ts = []} units d h = cc
if_is_none {ts = t ∷ ts} units d h = if_of_if (λ n. record { begin = 0; end = 0; broken = false }) d (ap (is_word (codes "if")) h)

label_is_none : {ts : List Token5} {x : Identifier5} {us : List Token5} (units : List ℕ) → IsIdentifier Aside ts x us → first_kind ts ≡ Text units → ⊥
label_is_none {x = x} units d h = word_is_none d.token.kind x.name units d.word (ap first_kind (sym d.first) ∙ h)

pub record IsTextStat (units : List ℕ) (x : Stat5) : Type 0 where
  pub span : Span
  pub inner : Span
  pub is : x ≡ stat.Expression span (expr.Literal inner (literals.Text units))

pub text_stat : {inside top : Bool} {ts : List Token5} {x : Stat5} {us : List Token5} → IsStat Aside inside top ts x us → (units : List ℕ) → first_kind ts ≡ Text units → second_ends ts ≡ true → IsTextStat units x
text_stat (g.block b e d) units k n = absurd (block_is_none units d k)
text_stat (g.var {t = t} span declared e sp w d en) units k n = absurd (word_is_none t.kind (codes "var") units w k)
text_stat (g.empty {t = t} span e sp m) units k n = absurd (mark_is_none t.kind (codes ";") units m k)
text_stat (g.expression span x e sp nb nf d en) units k n = let r = (text_expr d units k n).0 in record { span = span; inner = r.0; is = e ∙ ap (stat.Expression span) r.1 }
text_stat (g.if span first more otherwise e sp d) units k n = absurd (if_is_none units d k)
text_stat (g.do_while {t = t} span body test e sp w ds ww mo dx mc en) units k n = absurd (word_is_none t.kind (codes "do") units w k)
text_stat (g.while {t = t} span test body e sp w mo dx mc ds) units k n = absurd (word_is_none t.kind (codes "while") units w k)
text_stat (g.for {t = t} span first test update body e sp w mo df dt m dc ds) units k n = absurd (word_is_none t.kind (codes "for") units w k)
text_stat (g.continue {t = t} span label e sp w d en) units k n = absurd (word_is_none t.kind (codes "continue") units w k)
text_stat (g.break {t = t} span label e sp w d en) units k n = absurd (word_is_none t.kind (codes "break") units w k)
text_stat (g.return {t = t} span value e sp w d en) units k n = absurd (word_is_none t.kind (codes "return") units w k)
text_stat (g.switch {t = t} span subject cases e sp w mo dx mc mb dc) units k n = absurd (word_is_none t.kind (codes "switch") units w k)
text_stat (g.labelled span label body e sp di m ds) units k n = absurd (label_is_none units di k)
text_stat (g.throw {t = t} span value e sp w l d en) units k n = absurd (word_is_none t.kind (codes "throw") units w k)
text_stat (g.try_catch {t = t} span b handler e sp w db dh) units k n = absurd (word_is_none t.kind (codes "try") units w k)
text_stat (g.try_finally {t = t} span b last e sp w db wf dl) units k n = absurd (word_is_none t.kind (codes "try") units w k)
text_stat (g.try_both {t = t} span b last handler e sp w db dh wf dl) units k n = absurd (word_is_none t.kind (codes "try") units w k)
text_stat (g.debugger {t = t} span e sp w en) units k n = absurd (word_is_none t.kind (codes "debugger") units w k)
text_stat (g.declaration span name parameters body e d) units k n = absurd (function_is_none units d k)
