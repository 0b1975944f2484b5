-- The tree of a text is printable.
use Rattle.std.proofs.Common.{◌≡◌, true, List, [], ◌∷◌, map, sym, ap, ◌∙◌}
use Rattle.std.specs.Prelude.{codes}
use Rattle.es5_ast.specs.declared.operators.Literal5.TheVariants as literals
use Rattle.es5_ast.specs.declared.tree.Expr5.TheVariants as expr
use Rattle.es5_ast.specs.declared.tree.Stat5.{Stat5}
use Rattle.es5_ast.specs.declared.tree.Stat5.TheVariants as stat
use Rattle.es5_ast.specs.declared.tree.Element5.TheOpen as layer
use Rattle.es5_ast.specs.Lexical.{Token5}
use Rattle.es5_ast.specs.Grammar as g
use Rattle.es5_ast.specs.Grammar.{Aside, IsProgram}
use Rattle.es5_ast.specs.Script.{IsStrict}
use Rattle.es5_printer.proofs.Source.{source_known, first_kind, second_ends, IsTextStat, text_stat}
use Rattle.es5_printable.specs.Printable.{stat_fit, expr_fit, begins_strict, are_none}
use Rattle.es5_printable.specs.Laws.{TreesArePrintable}
use Rattle.es5_printable.proofs.Layers.{expr-roll, stat-roll}
use Rattle.es5_printable.proofs.Converse.{both, program_fits}

strict_stat : (s : Stat5) → IsTextStat (codes "use strict") s → (stat_fit s).is_strict ≡ true
strict_stat s t =
    let x = expr.Literal t.inner (literals.Text (codes "use strict")) in
    ap (λ u. (stat_fit u).is_strict) (t.is ∙ sym (stat.rolls-Expression t.span x)) ∙ ap (λ u. u.is_strict) (stat-roll (layer.Expression t.span x))
    ∙ ap (λ u. (expr_fit u).is_strict) (sym (expr.rolls-Literal t.inner (literals.Text (codes "use strict")))) ∙ ap (λ u. u.is_strict) (expr-roll (layer.Literal t.inner (literals.Text (codes "use strict"))))

no_token : {t : Token5} {ts : List Token5} → [] ≡ t ∷ ts → ⊥
no_token e = cc

strict_first : {ts : List Token5} {ss : List Stat5} → IsProgram Aside ts ss → IsStrict ts → begins_strict (map stat_fit ss) ≡ true
strict_first g.no_more k = absurd (no_token k.first)
strict_first (g.one_more {s = s} d ds) k = strict_stat s (text_stat d (codes "use strict") (ap first_kind k.first ∙ k.text) (ap second_ends k.first ∙ k.ends))

pub tree_printable : TreesArePrintable
tree_printable script (bytes, s) = both (both (strict_first s.parsed s.strict) (program_fits (source_known bytes s.utf8 s.lexed s.fills) s.parsed)) (ap are_none s.legal)
