-- Each statement that fits is made of pieces, by what is shown of its parts.
use Rattle.std.proofs.Common.{◌≡◌, Bool, true, false, ◌&&◌, List, ◌∷◌, map, Option, Some, None, refl, sym, ap, subst, ◌∙◌}
use Rattle.std.specs.Prelude.{codes}
use Rattle.std.specs.Option.{option_map}
use Rattle.std.proofs.lemmas.Bool.{false≢true, and_parts}
use Rattle.es_text.specs.declared.Span.{Span}
use Rattle.es5_ast.specs.declared.tree.Stat5.{Stat5, roll-Stat5}
use Rattle.es5_ast.specs.declared.tree.Stat5.TheVariants as stat
use Rattle.es5_ast.specs.declared.tree.Element5.TheOpen as layer
use Rattle.es5_ast.specs.declared.tree.Element5.TheOpen.{Stat5-F}
use Rattle.es5_ast.specs.Lexical.{Kind5, Word, Punctuator}
use Rattle.es5_ast.specs.Grammar as g
use Rattle.es5_ast.specs.Grammar.{Aside, is_word, IsFunction, IsStat, level_sequence}
use Rattle.es5_printer.specs.Pieces.{Piece, Lexeme, word, mark}
use Rattle.es5_printer.proofs.Tokens.{IsSpelled, sign, free_else, free_if}
use Rattle.es5_printable.specs.Printable.{is_name, option_fits, cases_fit, expr_fit, stat_fit, block_fit, case_fit, catch_fit, function_fit, for_first_fit, stat_step}
use Rattle.es5_printable.proofs.Shapes.{toks, MadeAfter, NotFirst, StatMade, StatOf, OfExpr, OfForFirst, OfStat, placed, identifier_made}
use Rattle.es5_printable.proofs.Layers.{With, Shown, bare_stat, fit_stat}
use Rattle.es5_printable.proofs.Lists as l
use Rattle.es5_printable.proofs.Lists.{nodes, named}

-- a statement that begins with a token that is neither `else` nor `if`
begun : {is_if inside top : Bool} {s : Stat5} {rest : List Piece} (kind : Kind5) → IsSpelled kind → is_word (codes "else") kind ≡ false → is_word (codes "if") kind ≡ false
    → MadeAfter kind (λ ts us. IsStat Aside inside top ts s us) rest → StatMade is_if inside top s rest
begun kind known no_else no_if (ps, d, s) = record { pieces = Lexeme kind ∷ ps; no_else = λ spots. no_else; no_if = λ _ spots. no_if; derived = d; spelled = λ q. (known, s q) }

for_made : (span : Span) (x : With OfForFirst) (test update : Option (With OfExpr)) (body : With OfStat) (inside top : Bool) → for_first_fit x.0 ≡ true → option_fits (option_map expr_fit (option_map (λ e. e.0) test)) ≡ true
    → option_fits (option_map expr_fit (option_map (λ e. e.0) update)) ≡ true → (stat_fit body.0).fits inside false ≡ true → (s : Stat5) → s ≡ stat.For span x.0 (option_map (λ e. e.0) test) (option_map (λ e. e.0) update) body.0
    → (rest : List Piece) → ((stat_fit body.0).is_open ≡ true → NotFirst (codes "else") rest) → StatMade false inside top s rest
for_made span x test update body inside top hx ht hu hb s e rest no_else =
    let m = body.1 inside false hb rest no_else in
    let (us, du, su) = l.optional_made update hu (mark (codes ")") m.pieces) in
    let (ts, dt, st) = l.optional_made test ht (mark (codes ";") us) in
    let (ps, d, sp) = x.1 hx ts in
    begun (Word (codes "for")) refl refl refl (mark (codes "(") ps, λ spots. g.for span x.0 (option_map (λ e. e.0) test) (option_map (λ e. e.0) update) body.0 e tt refl refl (d spots) (dt spots) refl (g.closed (du spots) refl) (m.derived spots), λ q. (sign.left_paren, sp (st (sign.semicolon, su (sign.right_paren, m.spelled q)))))

return_made : (span : Span) (x : Option (With OfExpr)) (inside top : Bool) → (inside && option_fits (option_map expr_fit (option_map (λ e. e.0) x))) ≡ true → (s : Stat5) → s ≡ stat.Return span (option_map (λ e. e.0) x)
    → (rest : List Piece) → StatMade false inside top s rest
return_made span x inside top h s e rest =
    let p = and_parts inside (option_fits (option_map expr_fit (option_map (λ e. e.0) x))) h in
    let (ps, d, t) = l.returned_made x p.1 (mark (codes ";") rest) in
    begun (Word (codes "return")) refl refl refl (ps, λ spots. subst (λ b. IsStat Aside b top (toks spots (word (codes "return") ps)) s (toks spots rest)) (sym p.0) (g.return span (option_map (λ e. e.0) x) e tt refl (d spots) refl), λ q. t (sign.semicolon, q))

for_parts : (a b c d : Bool) → a && b && c && d ≡ true → (a ≡ true) × (b ≡ true) × (c ≡ true) × (d ≡ true)
for_parts a b c d h = let p = and_parts (a && b && c) d h in let q = and_parts (a && b) c p.0 in let r = and_parts a b q.0 in (r.0, r.1, q.1, p.1)

pub stat_made : (y : Shown Stat5-F) → StatOf (stat_step (fit_stat (bare_stat y))) (roll-Stat5 (bare_stat y))
stat_made (layer.Var span ds) inside top h rest no_else =
    let (ps, d, s) = l.declared_made ds h (mark (codes ";") rest) in
    begun (Word (codes "var")) refl refl refl (ps, λ spots. g.var span (nodes ds) (stat.rolls-Var span (nodes ds)) tt refl (d spots false) refl, λ q. s (sign.semicolon, q))
stat_made (layer.FunctionDeclaration f) inside top h rest no_else =
    let n = function_fit f.0 in
    let p = and_parts (top && n.is_named) n.fits h in
    let q = and_parts top n.is_named p.0 in
    let k = f.1.named q.1 in
    let (ps, d, s) = f.1.made p.1 rest in
    let e = stat.rolls-FunctionDeclaration f.0 ∙ ap stat.FunctionDeclaration k.is in
    let ts = word (codes "function") ps in
    begun (Word (codes "function")) refl refl refl (ps, λ spots. subst (λ b. IsStat Aside inside b (toks spots ts) (roll-Stat5 (layer.FunctionDeclaration f.0)) (toks spots rest)) (sym q.0) (g.declaration k.span k.name k.parameters k.body e (subst (λ z. IsFunction Aside (toks spots ts) z (toks spots rest)) k.is (d spots))), s)
stat_made (layer.Block b) inside top h rest no_else =
    let (ps, d, s) = b.1 inside h rest in
    begun (Punctuator (codes "{")) sign.left_brace refl refl (ps, λ spots. g.block b.0 (stat.rolls-Block b.0) (d spots), s)
stat_made (layer.Empty span) inside top h rest no_else = begun (Punctuator (codes ";")) sign.semicolon refl refl (rest, λ spots. g.empty span (stat.rolls-Empty span) tt refl, λ q. q)
stat_made (layer.Expression span x) inside top h rest no_else =
    let (ps, d, s) = x.1 h (mark (codes ";") rest) in
    begun (Punctuator (codes "(")) sign.left_paren refl refl (ps, λ spots. g.expression span x.0 (stat.rolls-Expression span x.0) tt refl refl (d spots false level_sequence) refl, λ q. s (sign.semicolon, q))
stat_made (layer.If span first more None) inside top h rest no_else =
    let (ps, d, s) = l.if_made inside first more None h rest no_else in
    record { pieces = word (codes "if") ps; no_else = λ spots. refl; no_if = λ e. absurd (false≢true (sym e)); derived = λ spots. g.if span first.0 (nodes more) None (stat.rolls-If span first.0 (nodes more) None) tt (d spots); spelled = λ q. (refl, s q) }
stat_made (layer.If span first more (Some x)) inside top h rest no_else =
    let (ps, d, s) = l.if_made inside first more (Some x) h rest no_else in
    record { pieces = word (codes "if") ps; no_else = λ spots. refl; no_if = λ e. absurd (false≢true (sym e)); derived = λ spots. g.if span first.0 (nodes more) (Some x.0) (stat.rolls-If span first.0 (nodes more) (Some x.0)) tt (d spots); spelled = λ q. (refl, s q) }
stat_made (layer.DoWhile span body test) inside top h rest no_else =
    let p = and_parts ((stat_fit body.0).fits inside false) (expr_fit test.0).fits h in
    let (ps, d, s) = placed (test.1 p.1) (mark (codes ")") (mark (codes ";") rest)) in
    let m = body.1 inside false p.0 (word (codes "while") (mark (codes "(") ps)) (λ _ spots. refl) in
    begun (Word (codes "do")) refl refl refl (m.pieces, λ spots. g.do_while span body.0 test.0 (stat.rolls-DoWhile span body.0 test.0) tt refl (m.derived spots) refl refl (d spots false level_sequence) refl refl, λ q. m.spelled (refl, (sign.left_paren, s (sign.right_paren, (sign.semicolon, q)))))
stat_made (layer.While span test body) inside top h rest no_else =
    let p = and_parts (expr_fit test.0).fits ((stat_fit body.0).fits inside false) h in
    let m = body.1 inside false p.1 rest no_else in
    let (ps, d, s) = placed (test.1 p.0) (mark (codes ")") m.pieces) in
    begun (Word (codes "while")) refl refl refl (mark (codes "(") ps, λ spots. g.while span test.0 body.0 (stat.rolls-While span test.0 body.0) tt refl refl (d spots false level_sequence) refl (m.derived spots), λ q. (sign.left_paren, s (sign.right_paren, m.spelled q)))
stat_made (layer.For span first None None body) inside top h rest no_else =
    let (hx, ht, hu, hb) = for_parts (for_first_fit first.0) true true ((stat_fit body.0).fits inside false) h in
    for_made span first None None body inside top hx ht hu hb (roll-Stat5 (layer.For span first.0 None None body.0)) (stat.rolls-For span first.0 None None body.0) rest no_else
stat_made (layer.For span first None (Some u) body) inside top h rest no_else =
    let (hx, ht, hu, hb) = for_parts (for_first_fit first.0) true (expr_fit u.0).fits ((stat_fit body.0).fits inside false) h in
    for_made span first None (Some u) body inside top hx ht hu hb (roll-Stat5 (layer.For span first.0 None (Some u.0) body.0)) (stat.rolls-For span first.0 None (Some u.0) body.0) rest no_else
stat_made (layer.For span first (Some x) None body) inside top h rest no_else =
    let (hx, ht, hu, hb) = for_parts (for_first_fit first.0) (expr_fit x.0).fits true ((stat_fit body.0).fits inside false) h in
    for_made span first (Some x) None body inside top hx ht hu hb (roll-Stat5 (layer.For span first.0 (Some x.0) None body.0)) (stat.rolls-For span first.0 (Some x.0) None body.0) rest no_else
stat_made (layer.For span first (Some x) (Some u) body) inside top h rest no_else =
    let (hx, ht, hu, hb) = for_parts (for_first_fit first.0) (expr_fit x.0).fits (expr_fit u.0).fits ((stat_fit body.0).fits inside false) h in
    for_made span first (Some x) (Some u) body inside top hx ht hu hb (roll-Stat5 (layer.For span first.0 (Some x.0) (Some u.0) body.0)) (stat.rolls-For span first.0 (Some x.0) (Some u.0) body.0) rest no_else
stat_made (layer.Continue span label) inside top h rest no_else =
    let (ps, d, s) = l.label_made label h (mark (codes ";") rest) in
    begun (Word (codes "continue")) refl refl refl (ps, λ spots. g.continue span label (stat.rolls-Continue span label) tt refl (d spots) refl, λ q. s (sign.semicolon, q))
stat_made (layer.Break span label) inside top h rest no_else =
    let (ps, d, s) = l.label_made label h (mark (codes ";") rest) in
    begun (Word (codes "break")) refl refl refl (ps, λ spots. g.break span label (stat.rolls-Break span label) tt refl (d spots) refl, λ q. s (sign.semicolon, q))
stat_made (layer.Return span None) inside top h rest no_else = return_made span None inside top h (roll-Stat5 (layer.Return span None)) (stat.rolls-Return span None) rest
stat_made (layer.Return span (Some x)) inside top h rest no_else = return_made span (Some x) inside top h (roll-Stat5 (layer.Return span (Some x.0))) (stat.rolls-Return span (Some x.0)) rest
stat_made (layer.Switch span subject cases) inside top h rest no_else =
    let p = and_parts (expr_fit subject.0).fits (cases_fit inside true (map case_fit (nodes cases))) h in
    let (cs, no_else', dc, sc) = l.cases_made inside true cases p.1 rest in
    let (ps, d, s) = placed (subject.1 p.0) (mark (codes ")") (mark (codes "{") cs)) in
    begun (Word (codes "switch")) refl refl refl (mark (codes "(") ps, λ spots. g.switch span subject.0 (nodes cases) (stat.rolls-Switch span subject.0 (nodes cases)) tt refl refl (d spots false level_sequence) refl refl (dc spots), λ q. (sign.left_paren, s (sign.right_paren, (sign.left_brace, sc q))))
stat_made (layer.Labelled span label body) inside top h rest no_else =
    let p = and_parts (is_name label.name) ((stat_fit body.0).fits inside false) h in
    let n = named label.name p.0 in
    let m = body.1 inside false p.1 rest no_else in
    let after = mark (codes ":") m.pieces in
    begun (Word label.name) n.0 (free_else label.name n.1) (free_if label.name n.1) (after, λ spots. g.labelled span label body.0 (stat.rolls-Labelled span label body.0) tt (identifier_made spots label after n.1) refl (m.derived spots), λ q. (sign.colon, m.spelled q))
stat_made (layer.Throw span x) inside top h rest no_else =
    let (ps, d, s) = x.1 h (mark (codes ";") rest) in
    begun (Word (codes "throw")) refl refl refl (mark (codes "(") ps, λ spots. g.throw span x.0 (stat.rolls-Throw span x.0) tt refl refl (d spots false level_sequence) refl, λ q. (sign.left_paren, s (sign.semicolon, q)))
stat_made (layer.Try span b None None) inside top h rest no_else = absurd (false≢true (and_parts (block_fit b.0 inside) false h).1)
stat_made (layer.Try span b None (Some last)) inside top h rest no_else =
    let p = and_parts (block_fit b.0 inside) (block_fit last.0 inside) h in
    let (ps, d, s) = last.1 inside p.1 rest in
    let (qs, e, t) = b.1 inside p.0 (word (codes "finally") (mark (codes "{") ps)) in
    begun (Word (codes "try")) refl refl refl (mark (codes "{") qs, λ spots. g.try_finally span b.0 last.0 (stat.rolls-Try span b.0 None (Some last.0)) tt refl (e spots) refl (d spots), λ q. (sign.left_brace, t (refl, (sign.left_brace, s q))))
stat_made (layer.Try span b (Some handler) None) inside top h rest no_else =
    let p = and_parts (block_fit b.0 inside) (catch_fit handler.0 inside) h in
    let (ps, d, s) = handler.1 inside p.1 rest in
    let (qs, e, t) = b.1 inside p.0 ps in
    begun (Word (codes "try")) refl refl refl (mark (codes "{") qs, λ spots. g.try_catch span b.0 handler.0 (stat.rolls-Try span b.0 (Some handler.0) None) tt refl (e spots) (d spots), λ q. (sign.left_brace, t (s q)))
stat_made (layer.Try span b (Some handler) (Some last)) inside top h rest no_else =
    let p = and_parts (block_fit b.0 inside) (catch_fit handler.0 inside && block_fit last.0 inside) h in
    let r = and_parts (catch_fit handler.0 inside) (block_fit last.0 inside) p.1 in
    let (ps, d, s) = last.1 inside r.1 rest in
    let (qs, e, t) = handler.1 inside r.0 (word (codes "finally") (mark (codes "{") ps)) in
    let (ns, f, u) = b.1 inside p.0 qs in
    begun (Word (codes "try")) refl refl refl (mark (codes "{") ns, λ spots. g.try_both span b.0 last.0 handler.0 (stat.rolls-Try span b.0 (Some handler.0) (Some last.0)) tt refl (f spots) (e spots) refl (d spots), λ q. (sign.left_brace, u (t (refl, (sign.left_brace, s q)))))
stat_made (layer.Debugger span) inside top h rest no_else = begun (Word (codes "debugger")) refl refl refl (mark (codes ";") rest, λ spots. g.debugger span (stat.rolls-Debugger span) tt refl refl, λ q. (sign.semicolon, q))
