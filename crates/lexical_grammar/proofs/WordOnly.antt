-- A word that is spelled is read so.
use Rattle.unicode_ident.proofs.IdentLemmas.{is_xid_continue-ascii}
use Rattle.std.proofs.Common.{lit<, ◌≡◌, ℕ, suc, ◌+◌, Bool, true, false, cond, List, [], ◌∷◌, ◌++◌, length, eq-eqb, refl, sym, ap, ◌∙◌, arith}
use Rattle.std.specs.Prelude.{eqb, slice_index}
use Rattle.std.specs.List.{list_all}
use Rattle.std.proofs.lemmas.Bool.{cond-true, cond-false}
use Rattle.std.proofs.lemmas.List.{get_or-append-add}
use Rattle.es6_lexer.specs.declared.token.LexicalKind.TheVariants.{IdentifierEscape}
use Rattle.es6_lexer.specs.declared.shape.Element.{Element}
use Rattle.es6_lexer.specs.declared.shape.Element.TheVariants.{Finished, Skip, Take, Stop}
use Rattle.es6_lexer.specs.declared.shape.Shape.TheVariants.{OfWord, OfPunctuator, OfNumber, OfText, OfTemplate}
use Rattle.es6_lexer.specs.Classes.{run_of, goes_on, is_identifier_part}
use Rattle.es6_lexer.specs.Elements.{word_element}
use Rattle.lexical_grammar.specs.Grammar.{IsWordOrFault}
use Rattle.lexical_grammar.proofs.Escapes.{both}
use Rattle.lexical_grammar.proofs.TextOnly.{is_ne}

-- a run ends where its test fails
pub run_only : (p : ℕ → Bool) (parts after : List ℕ) → list_all p parts ≡ true → goes_on p after ≡ false → run_of p (parts ++ after) ≡ length parts
run_only p [] [] h f = refl
run_only p [] (c ∷ cs) h f = cond-false (p c) (suc (run_of p cs)) 0 f
run_only p (c ∷ cs) after h f = let two = both (p c) (list_all p cs) h in cond-true (p c) (suc (run_of p (cs ++ after))) 0 two.0 ∙ ap suc (run_only p cs after two.1 f)

word_at : (c : ℕ) (rest : List ℕ) (n : ℕ) → run_of is_identifier_part rest ≡ n → word_element (c ∷ rest) ≡ cond (eqb (slice_index (c ∷ rest) (1 + n)) 92) (Stop IdentifierEscape (1 + n)) (Take OfWord (1 + n))
word_at c rest n e = ap (λ m. cond (eqb (slice_index (c ∷ rest) (1 + m)) 92) (Stop IdentifierEscape (1 + m)) (Take OfWord (1 + m))) e

behind : (c : ℕ) (parts after rest : List ℕ) → rest ≡ parts ++ after → slice_index (c ∷ rest) (1 + length parts) ≡ slice_index after 0
behind c parts after rest e =
    let one : 1 + length parts ≡ suc (length parts) = omega arith in
    let none : length parts + 0 ≡ length parts = omega arith in
    ap (slice_index (c ∷ rest)) one ∙ ap (λ x. slice_index x (length parts)) e ∙ ap (slice_index (parts ++ after)) (sym none) ∙ get_or-append-add parts after 0 0

part_is_no_slash : is_identifier_part 92 ≡ false
part_is_no_slash = is_xid_continue-ascii 92 (lit< tt)

pub word_only : (c : ℕ) (rest : List ℕ) (e : Element) → IsWordOrFault rest e → word_element (c ∷ rest) ≡ e
word_only c rest (Take OfWord n) (parts, after, split, size, all, ends, clean) =
    let run = ap (run_of is_identifier_part) split ∙ run_only is_identifier_part parts after all ends in
    word_at c rest (length parts) run ∙ cond-false _ _ _ (is_ne _ 92 (λ s. clean (sym (behind c parts after rest split) ∙ s))) ∙ ap (Take OfWord) (sym size)
word_only c rest (Stop kind at) (parts, after, split, place, all, k) =
    let run = ap (run_of is_identifier_part) split ∙ run_only is_identifier_part parts (92 ∷ after) all part_is_no_slash in
    let same : Stop IdentifierEscape (1 + length parts) ≡ Stop kind at = cc in
    word_at c rest (length parts) run ∙ cond-true _ _ _ (eq-eqb _ 92 (behind c parts (92 ∷ after) rest split)) ∙ same
word_only c rest Finished h = absurd h
word_only c rest (Skip n line) h = absurd h
word_only c rest (Take OfText n) h = absurd h
word_only c rest (Take (OfPunctuator p) n) h = absurd h
word_only c rest (Take (OfNumber v) n) h = absurd h
word_only c rest (Take (OfTemplate last) n) h = absurd h
