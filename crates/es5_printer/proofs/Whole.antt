-- What is printed for a script that is the tree of some text.
use Rattle.std.proofs.Common.{◌≡◌, ℕ, ◌+◌, Bool, true, false, List, [], ◌∷◌, ◌++◌, map, refl, sym, ap, subst, ◌∙◌}
use Rattle.std.specs.Prelude.{codes, Result, Ok, Err, IfOk}
use Rattle.std.specs.Str.{chars, IsAscii}
use Rattle.std.proofs.lemmas.Bool.{false≢true}
use Rattle.std.proofs.lemmas.Str.{chars-IsAscii, IsUtf8-from_ascii}
use Rattle.es_text.specs.declared.Span.{Span}
use Rattle.es5_ast.specs.declared.operators.Literal5.TheVariants as literals
use Rattle.es5_ast.specs.declared.tree.Expr5.TheVariants as expr
use Rattle.es5_ast.specs.declared.tree.Stat5.{Stat5}
use Rattle.es5_ast.specs.declared.tree.Stat5.TheVariants as stat
use Rattle.es5_ast.specs.declared.tree.Script.{Script}
use Rattle.es5_ast.specs.Lexical.{Text, Token5, Tokens5}
use Rattle.es5_ast.specs.Grammar as g
use Rattle.es5_ast.specs.Grammar.{Aside, Marked, ends, IsProgram}
use Rattle.es5_ast.specs.Script.{Fills, keeps, at_end, IsStrict, Spells, IsTree}
use Rattle.es5_printer.specs.declared.mark.Mark.{Mark}
use Rattle.es5_printer.specs.Pieces.{Piece, Lexeme, all, end_of, opened_of, stat_shown, stats_pieces}
use Rattle.es5_printer.specs.Layout.{Written, written, blank, text_of}
use Rattle.es5_printer.specs.Printed.{Call, AreMarksOf, IsRising, IsPrinted}
use Rattle.es5_script_laws.proofs.OneScript.{one-tree}
use Rattle.es5_printer.proofs.Shown as s
use Rattle.es5_printer.proofs.Tokens.{Spots, tokens, AreKnown, AreSpelled}
use Rattle.es5_printer.proofs.Spelling.{program_printed}
use Rattle.es5_printer.proofs.Lexing.{text, written_bytes, spots_from, Agrees, agrees, lexed}
use Rattle.es5_printer.proofs.Placing.{marks_from, calls_from, token_calls, all_marked, calls_same, written_marks, written_placed, blank_placed, marks_placed, calls_rise, ends_line_by, printable_ascii}
use Rattle.es5_printer.proofs.Marking.{program_gives, call_sites}
use Rattle.es5_printer.proofs.Source.{first_kind, second_ends, IsTextStat, text_stat, source_known}

-- tokens to which no semicolon is added
all_kept : (before ts : List Token5) → Fills before ts ts
all_kept before [] = at_end
all_kept before (t ∷ ts) = keeps (all_kept (before ++ t ∷ []) ts)

abbrev directive_pieces : List Piece → List Piece
directive_pieces rest = Lexeme (Text (codes "use strict")) ∷ end_of rest

directive_written : (x : Stat5) (span inner : Span) (rest : List Piece) → x ≡ stat.Expression span (expr.Literal inner (literals.Text (codes "use strict"))) → stat_shown x rest ≡ directive_pieces rest
directive_written x span inner rest e =
    ap (λ w. w rest) (ap stat_shown e ∙ s.stat_shown-Expression span (expr.Literal inner (literals.Text (codes "use strict"))))
    ∙ ap (λ w. opened_of w (end_of rest)) (s.shown-Literal inner (literals.Text (codes "use strict")))

-- the statements begin with the directive
record Begun (pieces : List Piece) : Type 0 where
  rest : List Piece
  is : pieces ≡ directive_pieces rest

begun : {ts : List Token5} {xs : List Stat5} → IsProgram Aside ts xs → (d e : Token5) (rest : List Token5) → ts ≡ d ∷ e ∷ rest → d.kind ≡ Text (codes "use strict") → ends e.kind ≡ true → Begun (stats_pieces xs)
begun g.no_more d e rest same k h = cc
begun (g.one_more {s = x} {ss = ss} ds dss) d e rest same k h =
    let t : IsTextStat (codes "use strict") x = text_stat ds (codes "use strict") (ap first_kind same ∙ k) (ap second_ends same ∙ h) in
    record { rest = all (map stat_shown ss) []; is = directive_written x t.span t.inner (all (map stat_shown ss) []) t.is }

strict_by : (spots : Spots) (line : Bool) (pieces rest : List Piece) → pieces ≡ directive_pieces rest → Agrees spots blank pieces → IsStrict (tokens spots line pieces)
strict_by spots line pieces rest e a =
    let ps = directive_pieces rest in
    let P : List Piece → Type 0 = λ z. Agrees spots blank z → IsStrict (tokens spots line z) in
    subst P (sym e) (λ a'. record {
      directive = _;
      end = _;
      rest = tokens spots true rest;
      first = refl;
      text = refl;
      plain = ap (λ z. z.end) a'.0 ∙ ap (λ z. z.begin + 12) (sym a'.0);
      ends = refl;
    }) a

not_empty : (pieces : List Piece) → Begun pieces → AreSpelled true pieces → AreSpelled false pieces
not_empty pieces b q = subst (AreSpelled false) (sym b.is) (subst (AreSpelled true) b.is q)

pub printed : (script : Script) → IsTree script → IsPrinted script (written blank (stats_pieces script.statements)).bytes (written blank (stats_pieces script.statements)).marks
printed script tree =
    let source = tree.1 in
    let ps = stats_pieces script.statements in
    let spots = spots_from blank ps in
    let a : Agrees spots blank ps = agrees blank ps in
    let known : AreKnown source.filled = source_known tree.0 source.utf8 source.lexed source.fills in
    let calls : List Call = token_calls spots ps in
    let (parsed, q) = program_printed spots calls source.parsed known false (all_marked spots ps) in
    let bytes = (written blank ps).bytes in
    let is_text : bytes ≡ text blank ps = written_bytes blank ps in
    let placed = written_placed true blank ps blank_placed q in
    let ascii : IsAscii bytes = printable_ascii bytes placed.printable in
    let same_chars : chars bytes ≡ bytes = chars-IsAscii bytes ascii in
    let lex : Tokens5 0 false (text blank ps) (tokens spots false ps) = lexed true spots blank ps 0 false refl a q in
    let same_calls : calls ≡ calls_from blank ps = calls_same true spots blank ps a q in
    let same_marks : (written blank ps).marks ≡ marks_from blank ps = written_marks blank ps in
    let start : Begun ps = begun source.parsed source.strict.directive source.strict.end source.strict.rest source.strict.first source.strict.text source.strict.ends in
    let spelled : Spells (Marked calls) bytes script = record {
      utf8 = IsUtf8-from_ascii bytes ascii;
      tokens = tokens spots false ps;
      lexed = subst (λ cs. Tokens5 0 false cs (tokens spots false ps)) (sym (same_chars ∙ is_text)) lex;
      filled = tokens spots false ps;
      fills = all_kept [] (tokens spots false ps);
      strict = strict_by spots false ps start.rest start.is a;
      parsed = parsed;
      spans = tt;
      legal = source.legal;
    } in
    record {
      calls = calls;
      spelled = spelled;
      only = λ mode other s. one-tree mode (Marked calls) bytes other script s spelled;
      sites = call_sites spots ps ∙ program_gives source.parsed;
      marked = subst (λ cs. AreMarksOf cs calls (written blank ps).marks) (sym same_chars) (subst (λ c. AreMarksOf bytes c (written blank ps).marks) (sym same_calls) (subst (AreMarksOf bytes (calls_from blank ps)) (sym same_marks) (marks_placed true bytes blank ps is_text ascii blank_placed q)));
      rising = subst (IsRising 0) (sym same_calls) (calls_rise true blank ps q);
      printable = placed.printable;
      ended = ends_line_by false blank ps (λ e. absurd (false≢true e)) (not_empty ps start q);
    }

-- what the code has written
pub written_as : (statements stats : List Stat5) (start out : Written) → stats ≡ statements → start ≡ blank → ((rest : List Piece) → written out rest ≡ written start (all (map stat_shown stats) rest)) → out ≡ text_of statements
unfolding written
written_as statements stats start out es eb h = h [] ∙ ap (λ z. written z (all (map stat_shown stats) [])) eb ∙ ap (λ xs. written blank (all (map stat_shown xs) [])) es

pub printed_as : (script : Script) → IsTree script → (bytes : List ℕ) (marks : List Mark) → bytes ≡ (text_of script.statements).bytes → marks ≡ (text_of script.statements).marks → IsPrinted script bytes marks
printed_as script tree bytes marks ebytes emarks =
    subst (λ z. IsPrinted script z marks) (sym ebytes) (subst (λ z. IsPrinted script (text_of script.statements).bytes z) (sym emarks) (printed script tree))

pub printed_result : {A E : Type 0} (script : Script) → IsTree script → (result : Result A E) (bytes : A → List ℕ) (marks : A → List Mark)
    → IfOk result (λ out. bytes out ≡ (text_of script.statements).bytes) → IfOk result (λ out. marks out ≡ (text_of script.statements).marks) → IfOk result (λ out. IsPrinted script (bytes out) (marks out))
printed_result script tree (Ok out) bytes marks b m = printed_as script tree (bytes out) (marks out) b m
printed_result script tree (Err e) bytes marks b m = tt
