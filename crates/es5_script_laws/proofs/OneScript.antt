-- No bytes spell two scripts, as no text has two lists of tokens and no tokens spell two scripts.
use Rattle.std.proofs.Common.{◌≡◌, ℕ, List, [], sym, ap, subst, ◌∙◌}
use Rattle.std.specs.Str.{chars}
use Rattle.es_text.specs.declared.Span.{Span}
use Rattle.es5_ast.specs.declared.tree.Script.{Script}
use Rattle.es5_ast.specs.declared.tree.Stat5.{Stat5}
use Rattle.es5_ast.specs.Lexical.{Token5}
use Rattle.es5_ast.specs.Grammar.{Mode5, Exact, across, IsProgram}
use Rattle.es5_ast.specs.Script.{Fills, Spells}
use Rattle.es5_token_laws.proofs.Lexed.{one_list}
use Rattle.es5_reading.proofs.OneScript.{unambiguous, alike, filled-once}
use Rattle.es5_reading.proofs.Filled.{read-exactly}
use Rattle.es5_script_laws.specs.Laws.{AreUnique, AreAlike}

-- the tokens of the second are those of the first
refill : {mode other : Mode5} {bytes : List ℕ} {a b : Script} (s : Spells mode bytes a) (t : Spells other bytes b) → Fills [] s.tokens t.filled
refill {bytes = bytes} s t = subst (λ ts. Fills [] ts t.filled) (one_list (chars bytes) t.tokens s.tokens t.lexed s.lexed) t.fills

pub one-tree : AreAlike
one-tree mode other bytes a b s t = (filled-once (alike (unambiguous read-exactly)) mode other s.tokens s.filled t.filled a.statements b.statements s.fills (refill s t) s.parsed t.parsed).1

abbrev script_of : Span → List Stat5 → Script
script_of span statements = record { span = span; statements = statements }

same-script : (a b : Script) → a.span ≡ b.span → a.statements ≡ b.statements → a ≡ b
same-script a b h k = ap (λ span. script_of span a.statements) h ∙ ap (λ statements. script_of b.span statements) k

pub one-script : AreUnique
one-script bytes a b s t =
    let filled = (filled-once (alike (unambiguous read-exactly)) Exact Exact s.tokens s.filled t.filled a.statements b.statements s.fills (refill s t) s.parsed t.parsed).0 in
    let statements = unambiguous read-exactly s.filled a.statements b.statements s.parsed (subst (λ ts. IsProgram Exact ts b.statements) (sym filled) t.parsed) in
    let tokens = one_list (chars bytes) t.tokens s.tokens t.lexed s.lexed in
    same-script a b (same-span a b s.tokens s.spans (subst (λ ts. b.span ≡ across ts []) tokens t.spans)) statements
  where
    same-span : (a b : Script) (ts : List Token5) → a.span ≡ across ts [] → b.span ≡ across ts [] → a.span ≡ b.span
    same-span a b ts h k = h ∙ sym k
