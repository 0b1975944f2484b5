-- What is written spells a script of the whole grammar, whose nodes are those of the module.
use Rattle.std.proofs.Common.{◌≡◌, ℕ, ◌+◌, ◌≤◌, Bool, true, false, ◌||◌, List, [], ◌∷◌, ◌++◌, Some, None, length, refl, sym, ◌∙◌, ap, subst, ◌⊎◌, inl, inr, arith}
use Rattle.std.specs.Prelude.{codes, if◌then◌else◌, ◌==◌}
use Rattle.std.specs.List.{list_all}
use Rattle.std.specs.Str.{bytes_eq}
use Rattle.std.proofs.lemmas.Str.{chars-IsAscii, IsUtf8-from_ascii}
use denote.Hole.Carrier as carrier
use Rattle.es_text.specs.declared.Span.{Span}
use Rattle.first_trees.specs.declared.Module.{Module}
use Rattle.first_trees.specs.declared.Item.{Item}
use Rattle.first_trees.specs.declared.Item.TheVariants as item
use Rattle.first_trees.specs.declared.Expression.{Expression}
use Rattle.first_trees.specs.declared.Expression.TheVariants as expression
use Rattle.first_trees.specs.declared.Call.{Call}
use Rattle.first_trees.specs.declared.Sum.{Sum}
use Rattle.first_trees.specs.declared.Term.{Term}
use Rattle.first_trees.specs.declared.Term.TheVariants as term
use Rattle.first_target.specs.declared.Stat5.{Stat5}
use Rattle.first_target.specs.declared.Stat5.TheVariants as stat
use Rattle.first_target.specs.declared.Expr5.{Expr5}
use Rattle.first_target.specs.declared.Expr5.TheVariants as expr
use Rattle.first_target.specs.declared.Call5.{Call5}
use Rattle.first_target.specs.declared.Sum5.{Sum5}
use Rattle.first_target.specs.declared.Term5.{Term5}
use Rattle.first_target.specs.declared.Term5.TheVariants as term5
use Rattle.first_target.specs.Parts.{IsTermOf, AreAddedOf, IsSumOf, AreArgumentsOf, IsCallOf, IsExprOf, AreStatsOf, IsPart}
use Rattle.es5_ast.specs.declared.operators.BinaryOperator5.TheVariants.{Add}
use Rattle.es5_ast.specs.declared.operators.Literal5.TheVariants as literal
use Rattle.es5_ast.specs.declared.tree.Script.{Script}
use Rattle.es5_ast.specs.declared.tree.Stat5.{Stat5 as WholeStat}
use Rattle.es5_ast.specs.declared.tree.Stat5.TheVariants as whole_stat
use Rattle.es5_ast.specs.declared.tree.Declared5.{roll-Declared5}
use Rattle.es5_ast.specs.declared.tree.Expr5.{Expr5 as WholeExpr}
use Rattle.es5_ast.specs.declared.tree.Expr5.TheVariants as whole
use Rattle.es5_ast.specs.declared.tree.Link5 as link5
use Rattle.es5_ast.specs.declared.tree.Link5.TheVariants as link
use Rattle.es5_ast.specs.declared.tree.Operand5.{Operand5, roll-Operand5}
use Rattle.es5_ast.specs.Lexical.{Token5, Tokens5, width, is_whole, finished, white_space, line_terminator}
use Rattle.es5_ast.specs.Lexical as lexical
use Rattle.es5_ast.specs.Grammar as g
use Rattle.es5_ast.specs.Grammar.{Exact, IsExpr, IsNode, AreArguments, AreOperands, IsProgram, across, link_sites, level_call, level_primary}
use Rattle.es5_ast.specs.Script.{Spells5, Fills, at_end, keeps}
use Rattle.es5_ast.specs.Early.{script_pairs}
use Rattle.first_forms.specs.Names.{is_one_of, IsBindable}
use Rattle.first_forms.specs.WellFormed.{Scope, with_declared, IsTerm, AreTerms, IsSum, AreSums, IsCall, IsInitializer, AreImports, AreItems, AreModuleItems, IsWellFormed}
use Rattle.first_script.specs.Pieces.{Token, Name, Integer, Text, LeftParen, RightParen, Equals, spelling, Piece, Lexeme, Gap, text_of, term_token, added_pieces, sum_pieces, more_pieces, argument_pieces, call_pieces, expression_pieces, end_pieces, items_pieces, script_pieces}
use Rattle.first_script.specs.Suffix.{suffix_for}
use Rattle.first_script.proofs.Names.{name_cases, is_one_of-more, true_not_false}
use Rattle.first_script.proofs.Fresh.{IsUsable, usable_with_suffix, usable, usable_not_function, usable_not_eval}
use Rattle.first_script.proofs.Chars.{kind_of, IsToken, spells, spelling_width, is_printable, spelling_printable, printable_ascii, Stops, name_whole, integer_whole, left_whole, right_whole, comma_whole, semicolon_whole, plus_whole, equals_whole}
use Rattle.first_script.proofs.Clean.{IsClean, AreCleanOperands, AreCleanArguments, clean_name, clean_literal, clean_operand, clean_binary, clean_argument, clean_call, clean_var, clean_expression, clean_stats}
use Rattle.first_script.proofs.Lowered.{LowersTerm, low_integer, low_text, low_name, LowersTerms, no_terms, more_terms, LowersSum, LowersSums, no_sums, more_sums, LowersCall, low_call, LowersExpression, low_sum, low_called, LowersItems, no_items, low_declaration, low_statement, LowersModule, low_import, low_plain}
use Rattle.first_script.proofs.Related.{directive}

-- each token stands by itself, and nothing after it makes a longer one
abbrev AreWritten : List Piece → Type 0
AreWritten [] = Unit {0}
AreWritten (Lexeme token ∷ pieces) = IsToken token × (is_whole (kind_of token) (spelling token) (text_of pieces) ≡ true) × AreWritten pieces
AreWritten (Gap b ∷ pieces) = ((b ≡ 32) ⊎ (b ≡ 10)) × AreWritten pieces

-- the tokens of what is written from an offset on, where a line feed stands before it or none
abbrev tokens_at : ℕ → Bool → List Piece → List Token5
tokens_at at line [] = []
tokens_at at line (Lexeme token ∷ pieces) =
    record { begin = at; end = at + length (spelling token); after_line = line; kind = kind_of token } ∷ tokens_at (at + length (spelling token)) false pieces
tokens_at at line (Gap b ∷ pieces) = tokens_at (at + 1) (if b == 10 then true else line) pieces

gap_lexed : (at : ℕ) (line : Bool) (b : ℕ) (pieces : List Piece) → (b ≡ 32) ⊎ (b ≡ 10) → ((l : Bool) → Tokens5 (at + 1) l (text_of pieces) (tokens_at (at + 1) l pieces)) → Tokens5 at line (b ∷ text_of pieces) (tokens_at at line (Gap b ∷ pieces))
gap_lexed at line b pieces (inl e) later = subst (λ c. Tokens5 at line (c ∷ text_of pieces) (tokens_at at line (Gap c ∷ pieces))) (sym e) (white_space refl (later line))
gap_lexed at line b pieces (inr e) later = subst (λ c. Tokens5 at line (c ∷ text_of pieces) (tokens_at at line (Gap c ∷ pieces))) (sym e) (line_terminator refl (later true))

token_lexed : (at : ℕ) (line : Bool) (token : Token) (rest : List ℕ) (ts : List Token5) → IsToken token → is_whole (kind_of token) (spelling token) rest ≡ true → Tokens5 (at + length (spelling token)) false rest ts → Tokens5 at line (spelling token ++ rest) (record { begin = at; end = at + length (spelling token); after_line = line; kind = kind_of token } ∷ ts)
token_lexed at line token rest ts i whole_ later =
    let same = spelling_width token i in
    subst (λ n. Tokens5 at line (spelling token ++ rest) (record { begin = at; end = at + n; after_line = line; kind = kind_of token } ∷ ts)) same
    (lexical.token (spelling token) rest (kind_of token) (spells token i) whole_ (subst (λ n. Tokens5 (at + n) false rest ts) (sym same) later))

lexed : (at : ℕ) (line : Bool) (pieces : List Piece) → AreWritten pieces → Tokens5 at line (text_of pieces) (tokens_at at line pieces)
lexed at line [] w = finished
lexed at line (Lexeme token ∷ pieces) w = token_lexed at line token (text_of pieces) (tokens_at (at + length (spelling token)) false pieces) w.0 w.1 (lexed (at + length (spelling token)) false pieces w.2)
lexed at line (Gap b ∷ pieces) w = gap_lexed at line b pieces w.0 (λ l. lexed (at + 1) l pieces w.1)

gap_printable : (b : ℕ) (rest : List ℕ) → (b ≡ 32) ⊎ (b ≡ 10) → list_all is_printable rest ≡ true → list_all is_printable (b ∷ rest) ≡ true
gap_printable b rest (inl e) later = subst (λ c. list_all is_printable (c ∷ rest) ≡ true) (sym e) later
gap_printable b rest (inr e) later = subst (λ c. list_all is_printable (c ∷ rest) ≡ true) (sym e) later

printable : (pieces : List Piece) → AreWritten pieces → list_all is_printable (text_of pieces) ≡ true
printable [] w = refl
printable (Lexeme token ∷ pieces) w = spelling_printable token (text_of pieces) w.0 (printable pieces w.2)
printable (Gap b ∷ pieces) w = gap_printable b (text_of pieces) w.0 (printable pieces w.1)

-- tokens to which no semicolon is added
all_kept : (before ts : List Token5) → Fills before ts ts
all_kept before [] = at_end
all_kept before (t ∷ ts) = keeps (all_kept (before ++ t ∷ []) ts)

-- neither an identifier nor a number goes on with what follows
abbrev EndsName : List Piece → Type 0
EndsName pieces = Stops (text_of pieces)

call_without_site : (span : Span) (xs : List WholeExpr) → link_sites (link.Call span xs None ∷ []) ≡ []
unfolding link5.out-Link5 carrier.out
call_without_site span xs = refl

-- the names of a scope can be bound
record IsGood (s : Scope) : Type 0 where
  declared : (name : List ℕ) → is_one_of name s.declared ≡ true → IsBindable name
  imported : (name : List ℕ) → is_one_of name s.imported ≡ true → IsBindable name

good_after : (s : Scope) (x : List ℕ) → IsBindable x → IsGood s → IsGood (with_declared s x)
good_after s x b good = record {
  declared = λ name m. by_case name (is_one_of-more x s.declared name m);
  imported = good.imported;
}
  where
    by_case : (name : List ℕ) → (x ≡ name) ⊎ (is_one_of name s.declared ≡ true) → IsBindable name
    by_case name (inl e) = subst IsBindable e b
    by_case name (inr m) = good.declared name m

module _ (hosts : List (List ℕ)) where
  abbrev suffix : List ℕ
  suffix = suffix_for hosts

  term_is_token : (s : Scope) (x : Term) → IsGood s → IsTerm s x → IsToken (term_token suffix x)
  term_is_token s (term.Integer at value) good i = i
  term_is_token s (term.Text at units) good i = i
  term_is_token s (term.Name at name) good i = (usable_with_suffix hosts name (good.declared name i)).identifier

  term_is_whole : (x : Term) (rest : List Piece) → EndsName rest → is_whole (kind_of (term_token suffix x)) (spelling (term_token suffix x)) (text_of rest) ≡ true
  term_is_whole (term.Integer at value) rest e = integer_whole value (text_of rest) e
  term_is_whole (term.Text at units) rest e = refl
  term_is_whole (term.Name at name) rest e = name_whole (name ++ suffix) (text_of rest) e

  added_ends : (xs : List Term) (rest : List Piece) → EndsName rest → EndsName (added_pieces suffix xs rest)
  added_ends [] rest e = e
  added_ends (x ∷ xs) rest e = refl

  added_written : (s : Scope) (xs : List Term) (rest : List Piece) → IsGood s → AreTerms s xs → EndsName rest → AreWritten rest → AreWritten (added_pieces suffix xs rest)
  added_written s [] rest good i e w = w
  added_written s (x ∷ xs) rest good i e w =
      (inl refl, (tt, plus_whole (text_of (Lexeme (term_token suffix x) ∷ added_pieces suffix xs rest)), (inl refl, (term_is_token s x good i.0, term_is_whole x (added_pieces suffix xs rest) (added_ends xs rest e), added_written s xs rest good i.1 e w))))

  sum_written : (s : Scope) (x : Sum) (rest : List Piece) → IsGood s → IsSum s x → EndsName rest → AreWritten rest → AreWritten (sum_pieces suffix x rest)
  sum_written s x rest good i e w =
      (term_is_token s x.first good i.1, term_is_whole x.first (added_pieces suffix x.rest rest) (added_ends x.rest rest e), added_written s x.rest rest good i.2 e w)

  more_ends : (xs : List Sum) (rest : List Piece) → EndsName rest → EndsName (more_pieces suffix xs rest)
  more_ends [] rest e = e
  more_ends (x ∷ xs) rest e = refl

  more_written : (s : Scope) (xs : List Sum) (rest : List Piece) → IsGood s → AreSums s xs → EndsName rest → AreWritten rest → AreWritten (more_pieces suffix xs rest)
  more_written s [] rest good i e w = w
  more_written s (x ∷ xs) rest good i e w =
      (tt, comma_whole (text_of (Gap 32 ∷ sum_pieces suffix x (more_pieces suffix xs rest))), (inl refl, sum_written s x (more_pieces suffix xs rest) good i.0 (more_ends xs rest e) (more_written s xs rest good i.1 e w)))

  arguments_written : (s : Scope) (xs : List Sum) (rest : List Piece) → IsGood s → AreSums s xs → EndsName rest → AreWritten rest → AreWritten (argument_pieces suffix xs rest)
  arguments_written s [] rest good i e w = w
  arguments_written s (x ∷ xs) rest good i e w = sum_written s x (more_pieces suffix xs rest) good i.0 (more_ends xs rest e) (more_written s xs rest good i.1 e w)

  call_written : (s : Scope) (c : Call) (rest : List Piece) → IsGood s → IsCall s c → AreWritten rest → AreWritten (call_pieces suffix c rest)
  call_written s c rest good i w =
      ((good.imported c.callee i.0).identifier, name_whole c.callee (text_of (Lexeme LeftParen ∷ argument_pieces suffix c.args (Lexeme RightParen ∷ rest))) refl, (tt, left_whole (text_of (argument_pieces suffix c.args (Lexeme RightParen ∷ rest))), arguments_written s c.args (Lexeme RightParen ∷ rest) good i.1 refl (tt, right_whole (text_of rest), w)))

  expression_written : (s : Scope) (x : Expression) (rest : List Piece) → IsGood s → IsInitializer s x → EndsName rest → AreWritten rest → AreWritten (expression_pieces suffix x rest)
  expression_written s (expression.Sum x) rest good i e w = sum_written s x rest good i e w
  expression_written s (expression.Call c) rest good i e w = call_written s c rest good i w

  end_written : (rest : List Piece) → AreWritten rest → AreWritten (end_pieces rest)
  end_written rest w = (tt, semicolon_whole (text_of (Gap 10 ∷ rest)), (inr refl, w))

  items_written : (s : Scope) (items : List Item) → IsGood s → AreItems s items → AreWritten (items_pieces suffix items [])
  items_written s [] good i = tt
  items_written s (item.Import names ∷ items) good i = absurd i
  items_written s (item.Declaration kind x e ∷ items) good i =
      let rest = items_pieces suffix items [] in
      let value = expression_pieces suffix e (end_pieces rest) in
      let assigned : List Piece = Gap 32 ∷ Lexeme Equals ∷ Gap 32 ∷ value in
      (refl, name_whole (codes "var") (text_of (Gap 32 ∷ Lexeme (Name (x ++ suffix)) ∷ assigned)) refl, (inl refl, ((usable_with_suffix hosts x (i.0).bindable).identifier, name_whole (x ++ suffix) (text_of assigned) refl, (inl refl, (tt, equals_whole (text_of value), (inl refl, expression_written s e (end_pieces rest) good i.1 refl (end_written rest (items_written (with_declared s x) items (good_after s x (i.0).bindable good) i.2))))))))
  items_written s (item.Expression c ∷ items) good i =
      call_written s c (end_pieces (items_pieces suffix items [])) good i.0 (end_written (items_pieces suffix items []) (items_written s items good i.1))

  -- Each node is spelled by the tokens of what is written for it, before any rest, and has no early error.
  record SpelledTerm (x : Term) (at : ℕ) (line : Bool) (rest : List Piece) : Type 0 where
    y : Term5
    low : LowersTerm suffix x y
    tree : WholeExpr
    node : IsNode Exact false level_primary (tokens_at at line (Lexeme (term_token suffix x) ∷ rest)) tree (tokens_at (at + length (spelling (term_token suffix x))) false rest)
    part : IsTermOf at y tree
    clean : IsClean tree

  -- the span of the tokens of the first pieces, which the others follow
  abbrev span_of : ℕ → Bool → List Piece → ℕ → Bool → List Piece → Span
  span_of at line pieces next after rest = across (tokens_at at line pieces) (tokens_at next after rest)

  term_spelled : (s : Scope) (x : Term) (at : ℕ) (line : Bool) (rest : List Piece) → IsGood s → IsTerm s x → SpelledTerm x at line rest
  term_spelled s (term.Integer place value) at line rest good i =
      let span = span_of at line (Lexeme (Integer value) ∷ rest) (at + length (spelling (Integer value))) false rest in
      record {
        y = term5.Integer value;
        low = low_integer;
        tree = whole.Literal span (literal.Integer value);
        node = g.literal span (literal.Integer value) refl refl refl;
        part = (span.end, refl);
        clean = clean_literal span (literal.Integer value);
      }
  term_spelled s (term.Text place units) at line rest good i =
      let span = span_of at line (Lexeme (Text units) ∷ rest) (at + length (spelling (Text units))) false rest in
      record {
        y = term5.Text units;
        low = low_text;
        tree = whole.Literal span (literal.Text units);
        node = g.literal span (literal.Text units) refl refl refl;
        part = (span.end, refl);
        clean = clean_literal span (literal.Text units);
      }
  term_spelled s (term.Name place name) at line rest good i =
      let span = span_of at line (Lexeme (Name (name ++ suffix)) ∷ rest) (at + length (name ++ suffix)) false rest in
      let u = usable_with_suffix hosts name (good.declared name i) in
      record {
        y = term5.Name at (name ++ suffix);
        low = low_name;
        tree = whole.Name span (name ++ suffix);
        node = g.identifier span (name ++ suffix) refl refl refl u.free;
        part = (span.end, refl, refl);
        clean = clean_name span (name ++ suffix) (usable_not_eval (name ++ suffix) u);
      }

  -- the operands after the first, of which there is one
  record SpelledTerms (x : Term) (xs : List Term) (at : ℕ) (rest : List Piece) : Type 0 where
    next : ℕ
    y : Term5
    ys : List Term5
    low : LowersTerms suffix (x ∷ xs) (y ∷ ys)
    o : Operand5
    os : List Operand5
    derived : AreOperands Exact false 11 (tokens_at at false (added_pieces suffix (x ∷ xs) rest)) (o ∷ os) (tokens_at next false rest)
    part : AreAddedOf (y ∷ ys) (o ∷ os)
    clean : AreCleanOperands (o ∷ os)

  added_spelled : (s : Scope) (x : Term) (xs : List Term) (at : ℕ) (rest : List Piece) → IsGood s → IsTerm s x → AreTerms s xs → SpelledTerms x xs at rest
  added_spelled s x [] at rest good i is =
      let begin = at + 1 + 1 + 1 in
      let t = term_spelled s x begin false rest good i in
      record {
        next = begin + length (spelling (term_token suffix x));
        y = t.y;
        ys = [];
        low = more_terms t.low no_terms;
        o = roll-Operand5 (record { operator = Add; value = t.tree });
        os = [];
        derived = g.next_operand Add t.tree refl refl refl refl (g.bare level_primary (omega arith) t.node) g.no_operand;
        part = ((begin, t.tree, refl, t.part), tt);
        clean = clean_operand Add t.tree [] t.clean (λ inside. refl);
      }
  added_spelled s x (z ∷ zs) at rest good i is =
      let begin = at + 1 + 1 + 1 in
      let t = term_spelled s x begin false (added_pieces suffix (z ∷ zs) rest) good i in
      let m = added_spelled s z zs (begin + length (spelling (term_token suffix x))) rest good is.0 is.1 in
      record {
        next = m.next;
        y = t.y;
        ys = m.y ∷ m.ys;
        low = more_terms t.low m.low;
        o = roll-Operand5 (record { operator = Add; value = t.tree });
        os = m.o ∷ m.os;
        derived = g.next_operand Add t.tree refl refl refl refl (g.bare level_primary (omega arith) t.node) m.derived;
        part = ((begin, t.tree, refl, t.part), m.part);
        clean = clean_operand Add t.tree (m.o ∷ m.os) t.clean m.clean;
      }

  record SpelledSum (x : Sum) (at : ℕ) (line : Bool) (rest : List Piece) : Type 0 where
    next : ℕ
    y : Sum5
    low : LowersSum suffix x y
    tree : WholeExpr
    level : ℕ
    high : 11 ≤ level
    node : IsNode Exact false level (tokens_at at line (sum_pieces suffix x rest)) tree (tokens_at next false rest)
    part : IsSumOf y.at y.first y.rest tree
    clean : IsClean tree

  sum_spelled_by : (s : Scope) (place : ℕ) (x : Term) (xs : List Term) (at : ℕ) (line : Bool) (rest : List Piece) → IsGood s → IsTerm s x → AreTerms s xs → SpelledSum (record { at = place; first = x; rest = xs }) at line rest
  sum_spelled_by s place x [] at line rest good i is =
      let t = term_spelled s x at line rest good i in
      record {
        next = at + length (spelling (term_token suffix x));
        y = record { at = at; first = t.y; rest = [] };
        low = record { first = t.low; rest = no_terms };
        tree = t.tree;
        level = level_primary;
        high = omega arith;
        node = t.node;
        part = t.part;
        clean = t.clean;
      }
  sum_spelled_by s place x (z ∷ zs) at line rest good i is =
      let t = term_spelled s x at line (added_pieces suffix (z ∷ zs) rest) good i in
      let m = added_spelled s z zs (at + length (spelling (term_token suffix x))) rest good is.0 is.1 in
      let span = span_of at line (Lexeme (term_token suffix x) ∷ added_pieces suffix (z ∷ zs) rest) m.next false rest in
      record {
        next = m.next;
        y = record { at = at; first = t.y; rest = m.y ∷ m.ys };
        low = record { first = t.low; rest = m.low };
        tree = whole.Binary span t.tree (m.o ∷ m.os);
        level = 11;
        high = omega arith;
        node = g.binary_chain 11 span t.tree m.o m.os refl refl (g.bare level_primary (omega arith) t.node) m.derived;
        part = (span.end, t.tree, m.o ∷ m.os, refl, t.part, m.part);
        clean = clean_binary span t.tree (m.o ∷ m.os) t.clean m.clean;
      }

  sum_spelled : (s : Scope) (x : Sum) (at : ℕ) (line : Bool) (rest : List Piece) → IsGood s → IsSum s x → SpelledSum x at line rest
  sum_spelled s x at line rest good i = sum_spelled_by s x.at x.first x.rest at line rest good i.1 i.2

  -- the arguments, of which there is one, and the closing parenthesis
  record SpelledSums (x : Sum) (xs : List Sum) (at : ℕ) (rest : List Piece) : Type 0 where
    next : ℕ
    y : Sum5
    ys : List Sum5
    low : LowersSums suffix (x ∷ xs) (y ∷ ys)
    tree : WholeExpr
    trees : List WholeExpr
    derived : AreArguments Exact (tokens_at at false (sum_pieces suffix x (more_pieces suffix xs (Lexeme RightParen ∷ rest)))) (tree ∷ trees) (tokens_at next false rest)
    part : AreArgumentsOf (y ∷ ys) (tree ∷ trees)
    clean : AreCleanArguments (tree ∷ trees)

  more_spelled : (s : Scope) (x : Sum) (xs : List Sum) (at : ℕ) (rest : List Piece) → IsGood s → IsSum s x → AreSums s xs → SpelledSums x xs at rest
  more_spelled s x [] at rest good i is =
      let m = sum_spelled s x at false (Lexeme RightParen ∷ rest) good i in
      let high = m.high in
      record {
        next = m.next + 1;
        y = m.y;
        ys = [];
        low = more_sums m.low no_sums;
        tree = m.tree;
        trees = [];
        derived = g.last_argument (g.bare m.level (omega arith) m.node) refl;
        part = (m.part, tt);
        clean = clean_argument m.tree [] m.clean (λ inside. refl);
      }
  more_spelled s x (z ∷ zs) at rest good i is =
      let m = sum_spelled s x at false (more_pieces suffix (z ∷ zs) (Lexeme RightParen ∷ rest)) good i in
      let high = m.high in
      let l = more_spelled s z zs (m.next + 1 + 1) rest good is.0 is.1 in
      record {
        next = l.next;
        y = m.y;
        ys = l.y ∷ l.ys;
        low = more_sums m.low l.low;
        tree = m.tree;
        trees = l.tree ∷ l.trees;
        derived = g.next_argument (g.bare m.level (omega arith) m.node) refl l.derived;
        part = (m.part, l.part);
        clean = clean_argument m.tree (l.tree ∷ l.trees) m.clean l.clean;
      }

  record SpelledCall (c : Call) (at : ℕ) (line : Bool) (rest : List Piece) : Type 0 where
    next : ℕ
    y : Call5
    low : LowersCall suffix c y
    tree : WholeExpr
    node : IsNode Exact false level_call (tokens_at at line (call_pieces suffix c rest)) tree (tokens_at next false rest)
    part : IsCallOf y tree
    clean : IsClean tree

  -- a call, by its arguments
  record SpelledArguments (xs : List Sum) (at : ℕ) (rest : List Piece) : Type 0 where
    next : ℕ
    ys : List Sum5
    low : LowersSums suffix xs ys
    trees : List WholeExpr
    derived : AreArguments Exact (tokens_at at false (argument_pieces suffix xs (Lexeme RightParen ∷ rest))) trees (tokens_at next false rest)
    part : AreArgumentsOf ys trees
    clean : AreCleanArguments trees

  arguments_spelled : (s : Scope) (xs : List Sum) (at : ℕ) (rest : List Piece) → IsGood s → AreSums s xs → SpelledArguments xs at rest
  arguments_spelled s [] at rest good is =
      record { next = at + 1; ys = []; low = no_sums; trees = []; derived = g.no_argument refl; part = tt; clean = λ inside. refl }
  arguments_spelled s (x ∷ xs) at rest good is =
      let l = more_spelled s x xs at rest good is.0 is.1 in
      record { next = l.next; ys = l.y ∷ l.ys; low = l.low; trees = l.tree ∷ l.trees; derived = l.derived; part = l.part; clean = l.clean }

  call_spelled_by : (s : Scope) (place : ℕ) (callee : List ℕ) (xs : List Sum) (at : ℕ) (line : Bool) (rest : List Piece) → IsUsable callee → IsGood s → AreSums s xs → SpelledCall (record { at = place; callee = callee; args = xs }) at line rest
  call_spelled_by s place callee xs at line rest u good is =
      let arguments = argument_pieces suffix xs (Lexeme RightParen ∷ rest) in
      let l = arguments_spelled s xs (at + length callee + 1) rest good is in
      let span = span_of at line (Lexeme (Name callee) ∷ Lexeme LeftParen ∷ arguments) l.next false rest in
      let before = span_of at line (Lexeme (Name callee) ∷ Lexeme LeftParen ∷ arguments) (at + length callee) false (Lexeme LeftParen ∷ arguments) in
      let after = span_of (at + length callee) false (Lexeme LeftParen ∷ arguments) l.next false rest in
      record {
        next = l.next;
        y = record { at = at; callee = callee; args = l.ys };
        low = low_call l.low;
        tree = whole.Chain span (whole.Name before callee) (link.Call after l.trees None ∷ []);
        node = g.chain true span (whole.Name before callee) (link.Call after l.trees None) [] refl refl (call_without_site after l.trees) (g.bare level_primary (omega arith) (g.identifier before callee refl refl refl u.free)) (g.call_link after l.trees None refl refl refl l.derived g.no_link);
        part = (span.end, before.end, after, l.trees, refl, l.part);
        clean = clean_call span after (whole.Name before callee) l.trees (clean_name before callee (usable_not_eval callee u)) l.clean;
      }

  call_spelled : (s : Scope) (c : Call) (at : ℕ) (line : Bool) (rest : List Piece) → IsGood s → IsCall s c → SpelledCall c at line rest
  call_spelled s c at line rest good i = call_spelled_by s c.at c.callee c.args at line rest (usable c.callee (good.imported c.callee i.0)) good i.1

  record SpelledExpression (x : Expression) (at : ℕ) (line : Bool) (rest : List Piece) : Type 0 where
    next : ℕ
    y : Expr5
    low : LowersExpression suffix x y
    tree : WholeExpr
    level : ℕ
    high : 11 ≤ level
    node : IsNode Exact false level (tokens_at at line (expression_pieces suffix x rest)) tree (tokens_at next false rest)
    part : IsExprOf y tree
    clean : IsClean tree

  expression_spelled : (s : Scope) (x : Expression) (at : ℕ) (line : Bool) (rest : List Piece) → IsGood s → IsInitializer s x → SpelledExpression x at line rest
  expression_spelled s (expression.Sum x) at line rest good i =
      let m = sum_spelled s x at line rest good i in
      record { next = m.next; y = expr.Sum m.y; low = low_sum m.low; tree = m.tree; level = m.level; high = m.high; node = m.node; part = m.part; clean = m.clean }
  expression_spelled s (expression.Call c) at line rest good i =
      let m = call_spelled s c at line rest good i in
      record { next = m.next; y = expr.Call m.y; low = low_called m.low; tree = m.tree; level = level_call; high = omega arith; node = m.node; part = m.part; clean = m.clean }

  record SpelledItems (items : List Item) (at : ℕ) (line : Bool) : Type 0 where
    stats : List Stat5
    low : LowersItems suffix items stats
    trees : List WholeStat
    derived : IsProgram Exact (tokens_at at line (items_pieces suffix items [])) trees
    part : AreStatsOf stats trees
    clean : script_pairs trees ≡ []

  items_spelled : (s : Scope) (items : List Item) (at : ℕ) (line : Bool) → IsGood s → AreItems s items → SpelledItems items at line
  items_spelled s [] at line good i = record { stats = []; low = no_items; trees = []; derived = g.no_more; part = tt; clean = refl }
  items_spelled s (item.Import names ∷ items) at line good i = absurd i
  items_spelled s (item.Declaration kind x e ∷ items) at line good i =
      let rest = items_pieces suffix items [] in
      let u = usable_with_suffix hosts x (i.0).bindable in
      let name_at = at + 3 + 1 in
      let begin = name_at + length (x ++ suffix) + 1 + 1 + 1 in
      let m = expression_spelled s e begin false (end_pieces rest) good i.1 in
      let high = m.high in
      let l = items_spelled (with_declared s x) items (m.next + 1 + 1) true (good_after s x (i.0).bindable good) i.2 in
      let value = expression_pieces suffix e (end_pieces rest) in
      let assigned : List Piece = Gap 32 ∷ Lexeme Equals ∷ Gap 32 ∷ value in
      let declared : List Piece = Lexeme (Name (x ++ suffix)) ∷ assigned in
      let span = span_of at line (Lexeme (Name (codes "var")) ∷ Gap 32 ∷ declared) (m.next + 1 + 1) true rest in
      let inner = span_of name_at false declared m.next false (end_pieces rest) in
      let place = span_of name_at false declared (name_at + length (x ++ suffix)) false assigned in
      let variable = roll-Declared5 (record { span = inner; name = record { span = place; name = x ++ suffix }; init = Some m.tree }) in
      record {
        stats = stat.Var at (x ++ suffix) m.y ∷ l.stats;
        low = low_declaration m.low l.low;
        trees = whole_stat.Var span (variable ∷ []) ∷ l.trees;
        derived = g.one_more (g.var span (variable ∷ []) refl refl refl (g.last_declared (g.initialized inner (record { span = place; name = x ++ suffix }) m.tree refl refl (record { token = _; first = refl; word = refl; free = u.free; spans = refl }) refl (g.bare m.level (omega arith) m.node))) refl) l.derived;
        part = ((span.end, inner, place, m.tree, refl, m.part), l.part);
        clean = clean_stats (whole_stat.Var span (variable ∷ [])) l.trees (clean_var span inner (record { span = place; name = x ++ suffix }) m.tree u.unrestricted m.clean) l.clean;
      }
  items_spelled s (item.Expression c ∷ items) at line good i =
      let rest = items_pieces suffix items [] in
      let m = call_spelled s c at line (end_pieces rest) good i.0 in
      let l = items_spelled s items (m.next + 1 + 1) true good i.1 in
      let span = span_of at line (call_pieces suffix c (end_pieces rest)) (m.next + 1 + 1) true rest in
      record {
        stats = stat.Expression (expr.Call m.y) ∷ l.stats;
        low = low_statement m.low l.low;
        trees = whole_stat.Expression span m.tree ∷ l.trees;
        derived = g.one_more (g.expression span m.tree refl refl refl (usable_not_function c.callee (usable c.callee (good.imported c.callee (i.0).0))) (g.bare level_call (omega arith) m.node) refl) l.derived;
        part = ((span, m.tree, refl, m.part), l.part);
        clean = clean_stats (whole_stat.Expression span m.tree) l.trees (clean_expression span m.tree m.clean) l.clean;
      }

  -- the names of an import can be bound
  imports_good : (taken names : List (List ℕ)) → AreImports hosts taken names → (name : List ℕ) → is_one_of name names ≡ true → IsBindable name
  imports_good taken [] i name m = absurd (true_not_false false m refl)
  imports_good taken (n ∷ names) i name m = by_name (name_cases name n) (λ h. imports_good (taken ++ n ∷ []) names i.1 name h)
    where
      by_name : (name ≡ n) ⊎ (bytes_eq name n ≡ false) → (is_one_of name names ≡ true → IsBindable name) → IsBindable name
      by_name (inl e) later = subst IsBindable (sym e) (i.0).bindable
      by_name (inr differs) later = later (sym (ap (λ b. b || is_one_of name names) differs) ∙ m)

  good_at_start : (names : List (List ℕ)) → AreImports hosts [] names → IsGood (record { imported = names; declared = [] })
  good_at_start names i = record {
    declared = λ name h. absurd (true_not_false false h refl);
    imported = imports_good [] names i;
  }

  record SpelledModule (items : List Item) (at : ℕ) : Type 0 where
    stats : List Stat5
    low : LowersModule suffix items stats
    trees : List WholeStat
    derived : IsProgram Exact (tokens_at at true (items_pieces suffix items [])) trees
    part : AreStatsOf stats trees
    clean : script_pairs trees ≡ []
    written : AreWritten (items_pieces suffix items [])

  plain_spelled : (items : List Item) (at : ℕ) → AreItems (record { imported = []; declared = [] }) items → SpelledModule items at
  plain_spelled items at i =
      let good = good_at_start [] tt in
      let l = items_spelled (record { imported = []; declared = [] }) items at true good i in
      record { stats = l.stats; low = low_plain l.low; trees = l.trees; derived = l.derived; part = l.part; clean = l.clean; written = items_written (record { imported = []; declared = [] }) items good i }

  module_spelled : (items : List Item) (at : ℕ) → AreModuleItems hosts items → SpelledModule items at
  module_spelled [] at i = plain_spelled [] at i
  module_spelled (item.Import [] ∷ items) at i = absurd i
  module_spelled (item.Import (n ∷ names) ∷ items) at i =
      let s : Scope = record { imported = n ∷ names; declared = [] } in
      let good = good_at_start (n ∷ names) i.0 in
      let l = items_spelled s items at true good i.1 in
      record { stats = l.stats; low = low_import l.low; trees = l.trees; derived = l.derived; part = l.part; clean = l.clean; written = items_written s items good i.1 }
  module_spelled (item.Declaration kind x e ∷ items) at i = plain_spelled (item.Declaration kind x e ∷ items) at i
  module_spelled (item.Expression c ∷ items) at i = plain_spelled (item.Expression c ∷ items) at i

  -- what is written spells a script, whose statements after the directive are the module's
  pub record IsSpelled (m : Module) : Type 0 where
    pub stats : List Stat5
    pub low : LowersModule suffix m.items stats
    pub script : Script
    pub spells : Spells5 (text_of (script_pieces suffix m)) script
    pub is_part : IsPart (record { statements = directive 0 ∷ stats }) script

  pub script_spelled : (m : Module) → IsWellFormed hosts m → IsSpelled m
  script_spelled m i =
      let l = module_spelled m.items 14 i in
      let pieces = script_pieces suffix m in
      let tokens = tokens_at 0 false pieces in
      let items = items_pieces suffix m.items [] in
      let span = across tokens (tokens_at 14 true items) in
      let inner = across tokens (tokens_at 12 false (end_pieces items)) in
      let text = whole.Literal inner (literal.Text (codes "use strict")) in
      let written : AreWritten pieces = (refl, refl, end_written items l.written) in
      let ascii = printable_ascii (text_of pieces) (printable pieces written) in
      record {
        stats = l.stats;
        low = l.low;
        script = record { span = across tokens []; statements = whole_stat.Expression span text ∷ l.trees };
        spells = record {
          utf8 = IsUtf8-from_ascii (text_of pieces) ascii;
          tokens = tokens;
          lexed = subst (λ cs. Tokens5 0 false cs tokens) (sym (chars-IsAscii (text_of pieces) ascii)) (lexed 0 false pieces written);
          filled = tokens;
          fills = all_kept [] tokens;
          strict = record { directive = _; end = _; rest = tokens_at 14 true items; first = refl; text = refl; plain = refl; ends = refl };
          parsed = g.one_more (g.expression span text refl refl refl refl (g.bare level_primary (omega arith) (g.literal inner (literal.Text (codes "use strict")) refl refl refl)) refl) l.derived;
          spans = refl;
          legal = clean_stats (whole_stat.Expression span text) l.trees (clean_expression span text (clean_literal inner (literal.Text (codes "use strict")))) l.clean;
        };
        is_part = ((span, text, refl, (inner.end, refl)), l.part);
      }
