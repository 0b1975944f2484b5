-- A script is printable exactly where it may be printed.
use Rattle.std.proofs.Common.{◌≡◌, ◌+◌, true, false, ◌&&◌, List, [], ◌∷◌, ◌++◌, map, refl, sym, ap, subst, ◌∙◌, arith}
use Rattle.std.specs.Prelude.{codes}
use Rattle.std.specs.Str.{IsAscii}
use Rattle.std.proofs.lemmas.Bool.{false≢true, and_parts}
use Rattle.std.proofs.lemmas.Str.{chars-IsAscii, IsUtf8-from_ascii}
use Rattle.std.proofs.lemmas.Slice.Eq.{bytes_eq-Decides}
use Rattle.es_text.specs.declared.Span.{Span}
use Rattle.es5_ast.specs.declared.operators.Literal5.{Literal5}
use Rattle.es5_ast.specs.declared.operators.Literal5.TheVariants as literals
use Rattle.es5_ast.specs.declared.tree.Expr5.{Expr5, roll-Expr5, out-Expr5, roll-out-Expr5}
use Rattle.es5_ast.specs.declared.tree.Expr5.TheVariants as expr
use Rattle.es5_ast.specs.declared.tree.Stat5.{Stat5, roll-Stat5, out-Stat5, roll-out-Stat5}
use Rattle.es5_ast.specs.declared.tree.Stat5.TheVariants as stat
use Rattle.es5_ast.specs.declared.tree.Element5.TheOpen as layer
use Rattle.es5_ast.specs.declared.tree.Element5.TheOpen.{Expr5-F, Stat5-F}
use Rattle.es5_ast.specs.Lexical.{Text, Token5, Tokens5}
use Rattle.es5_ast.specs.Grammar as g
use Rattle.es5_ast.specs.Grammar.{Aside, IsProgram}
use Rattle.es5_ast.specs.Script.{Fills, keeps, at_end, IsTree}
use Rattle.es5_ast.specs.Early.{Pair5, script_pairs}
use Rattle.es5_printer.specs.Pieces.{Piece, Lexeme, LineEnd, mark}
use Rattle.es5_printer.specs.Layout.{written, blank}
use Rattle.es5_printer.proofs.Tokens.{Spots, tokens, AreSpelled, sign}
use Rattle.es5_printer.proofs.Lexing.{text, written_bytes, spots_from, Agrees, agrees, lexed}
use Rattle.es5_printer.proofs.Placing.{written_placed, blank_placed, printable_ascii}
use Rattle.es5_printable.specs.Printable.{expr_fit, stat_fit, expr_step, stat_step, is_strict_text, stats_fit, begins_strict, are_none}
use Rattle.es5_printable.specs.Laws.{PrintableAreTrees}
use Rattle.es5_printable.proofs.Shapes.{toks, NotFirst}
use Rattle.es5_printable.proofs.Layers.{Open, fit_expr, fit_stat, expr-roll, stat-roll}
use Rattle.es5_printable.proofs.Every.{stat_every}

-- the directive's literal, and the statement of it alone
abbrev IsStrictText : Expr5 → Type 0
IsStrictText x = (span : Span) × (x ≡ expr.Literal span (literals.Text (codes "use strict")))

abbrev IsDirective : Stat5 → Type 0
IsDirective s = (span : Span) × (inner : Span) × (s ≡ stat.Expression span (expr.Literal inner (literals.Text (codes "use strict"))))

strict_literal : (value : Literal5) → is_strict_text value ≡ true → value ≡ literals.Text (codes "use strict")
strict_literal literals.Null h = absurd (false≢true h)
strict_literal (literals.Truth truth) h = absurd (false≢true h)
strict_literal (literals.Integer value) h = absurd (false≢true h)
strict_literal (literals.Text units) h = ap literals.Text ((bytes_eq-Decides units (codes "use strict")).0 h)

strict_layer : (y : Open Expr5-F) → (expr_step (fit_expr y)).is_strict ≡ true → IsStrictText (roll-Expr5 y)
strict_layer (layer.Literal span value) h = (span, expr.rolls-Literal span value ∙ ap (expr.Literal span) (strict_literal value h))
strict_layer (layer.This span) h = absurd (false≢true h)
strict_layer (layer.Name span name) h = absurd (false≢true h)
strict_layer (layer.ArrayList span xs) h = absurd (false≢true h)
strict_layer (layer.ObjectList span xs) h = absurd (false≢true h)
strict_layer (layer.Function f) h = absurd (false≢true h)
strict_layer (layer.Chain span x ls) h = absurd (false≢true h)
strict_layer (layer.New span x xs) h = absurd (false≢true h)
strict_layer (layer.Update span o x) h = absurd (false≢true h)
strict_layer (layer.Unary span o x) h = absurd (false≢true h)
strict_layer (layer.Binary span x os) h = absurd (false≢true h)
strict_layer (layer.Conditional span x y z) h = absurd (false≢true h)
strict_layer (layer.Assign span o x y) h = absurd (false≢true h)
strict_layer (layer.Sequence span x xs) h = absurd (false≢true h)

strict_text : (x : Expr5) → (expr_fit x).is_strict ≡ true → IsStrictText x
strict_text x h =
    let e = roll-out-Expr5 x in
    subst IsStrictText e (strict_layer (out-Expr5 x) (sym (ap (λ z. z.is_strict) (expr-roll (out-Expr5 x))) ∙ ap (λ z. (expr_fit z).is_strict) e ∙ h))

directive_layer : (y : Open Stat5-F) → (stat_step (fit_stat y)).is_strict ≡ true → IsDirective (roll-Stat5 y)
directive_layer (layer.Expression span x) h = let (inner, e) = strict_text x h in (span, inner, stat.rolls-Expression span x ∙ ap (stat.Expression span) e)
directive_layer (layer.Var span ds) h = absurd (false≢true h)
directive_layer (layer.FunctionDeclaration f) h = absurd (false≢true h)
directive_layer (layer.Block b) h = absurd (false≢true h)
directive_layer (layer.Empty span) h = absurd (false≢true h)
directive_layer (layer.If span first more otherwise) h = absurd (false≢true h)
directive_layer (layer.DoWhile span body test) h = absurd (false≢true h)
directive_layer (layer.While span test body) h = absurd (false≢true h)
directive_layer (layer.For span first test update body) h = absurd (false≢true h)
directive_layer (layer.Continue span label) h = absurd (false≢true h)
directive_layer (layer.Break span label) h = absurd (false≢true h)
directive_layer (layer.Return span x) h = absurd (false≢true h)
directive_layer (layer.Switch span x cases) h = absurd (false≢true h)
directive_layer (layer.Labelled span label body) h = absurd (false≢true h)
directive_layer (layer.Throw span x) h = absurd (false≢true h)
directive_layer (layer.Try span b handler last) h = absurd (false≢true h)
directive_layer (layer.Debugger span) h = absurd (false≢true h)

directive : (s : Stat5) → (stat_fit s).is_strict ≡ true → IsDirective s
directive s h =
    let e = roll-out-Stat5 s in
    subst IsDirective e (directive_layer (out-Stat5 s) (sym (ap (λ z. z.is_strict) (stat-roll (out-Stat5 s))) ∙ ap (λ z. (stat_fit z).is_strict) e ∙ h))

-- statements to the end, on one line
record Rest (ss : List Stat5) : Type 0 where
  pieces : List Piece
  no_else : NotFirst (codes "else") pieces
  derived : (spots : Spots) → IsProgram Aside (toks spots pieces) ss
  spelled : AreSpelled false pieces

rest_made : (ss : List Stat5) → stats_fit false true (map stat_fit ss) ≡ true → Rest ss
rest_made [] h = record { pieces = LineEnd ∷ []; no_else = λ spots. refl; derived = λ spots. g.no_more; spelled = tt }
rest_made (s ∷ ss) h =
    let p = and_parts ((stat_fit s).fits false true) (stats_fit false true (map stat_fit ss)) h in
    let r = rest_made ss p.1 in
    let m = stat_every s false true p.0 r.pieces (λ _. r.no_else) in
    record { pieces = m.pieces; no_else = m.no_else; derived = λ spots. g.one_more (m.derived spots) (r.derived spots); spelled = m.spelled r.spelled }

-- tokens to which no semicolon is added
all_kept : (before ts : List Token5) → Fills before ts ts
all_kept before [] = at_end
all_kept before (t ∷ ts) = keeps (all_kept (before ++ t ∷ []) ts)

no_pair : (pairs : List Pair5) → are_none pairs ≡ true → pairs ≡ []
no_pair [] h = refl
no_pair (p ∷ pairs) h = absurd (false≢true h)

abbrev pieces_of : List Piece → List Piece
pieces_of rest = Lexeme (Text (codes "use strict")) ∷ mark (codes ";") rest

program_tree : (span : Span) (s : Stat5) (ss : List Stat5) → IsDirective s → Rest ss → script_pairs (s ∷ ss) ≡ [] → IsTree (record { span = span; statements = s ∷ ss })
program_tree span s ss (outer, inner, e) r legal =
    let ps = pieces_of r.pieces in
    let spots = spots_from blank ps in
    let a : Agrees spots blank ps = agrees blank ps in
    let q : AreSpelled true ps = (refl, (sign.semicolon, r.spelled)) in
    let bytes = (written blank ps).bytes in
    let is_text : bytes ≡ text blank ps = written_bytes blank ps in
    let placed = written_placed true blank ps blank_placed q in
    let ascii : IsAscii bytes = printable_ascii bytes placed.printable in
    let lex : Tokens5 0 false (text blank ps) (tokens spots false ps) = lexed true spots blank ps 0 false refl a q in (
      bytes,
      record {
        utf8 = IsUtf8-from_ascii bytes ascii;
        tokens = tokens spots false ps;
        lexed = subst (λ cs. Tokens5 0 false cs (tokens spots false ps)) (sym (chars-IsAscii bytes ascii ∙ is_text)) lex;
        filled = tokens spots false ps;
        fills = all_kept [] (tokens spots false ps);
        strict = record {
          directive = _;
          end = _;
          rest = toks spots r.pieces;
          first = refl;
          text = refl;
          plain = ap (λ z. z.end) a.0 ∙ ap (λ z. z.begin + 12) (sym a.0);
          ends = refl;
        };
        parsed = g.one_more (g.expression outer (expr.Literal inner (literals.Text (codes "use strict"))) e tt refl refl (g.bare g.level_primary (omega arith) (g.literal inner (literals.Text (codes "use strict")) refl tt refl)) refl) (r.derived spots);
        spans = tt;
        legal = legal;
      },
    )

of_statements : (span : Span) (ss : List Stat5) → begins_strict (map stat_fit ss) && stats_fit false true (map stat_fit ss) && are_none (script_pairs ss) ≡ true → IsTree (record { span = span; statements = ss })
of_statements span [] h = absurd (false≢true h)
of_statements span (s ∷ ss) h =
    let p = and_parts ((stat_fit s).is_strict && stats_fit false true (map stat_fit (s ∷ ss))) (are_none (script_pairs (s ∷ ss))) h in
    let q = and_parts (stat_fit s).is_strict (stats_fit false true (map stat_fit (s ∷ ss))) p.0 in
    let r = and_parts ((stat_fit s).fits false true) (stats_fit false true (map stat_fit ss)) q.1 in
    program_tree span s ss (directive s q.0) (rest_made ss r.1) (no_pair (script_pairs (s ∷ ss)) p.1)

pub printable_tree : PrintableAreTrees
printable_tree script h = of_statements script.span script.statements h
