-- What is read at the start of an identifier.
use Rattle.std.proofs.Common.{◌≡◌, ℕ, suc, true, List, ◌∷◌, take, drop, sym, arith}
use Rattle.std.specs.List.{prefix_len}
use Rattle.std.specs.Char.{is_ascii_digit}
use Rattle.std.proofs.lemmas.Bool.{or_left, and_from, not_from_false}
use Rattle.std.proofs.lemmas.List.{take-append-drop, length-take-le}
use Rattle.es5_ast.specs.Lexical.{is_identifier_start, is_identifier_part, is_identifier_name, word}
use Rattle.es5_tokens.specs.Elements.{word_element}
use Rattle.es5_tokens.proofs.Prefixes.{run_more, run_within, run_passes, run_ends}
use Rattle.es5_tokens.proofs.Read.{IsRead}

pub word_is : (c : ℕ) (cs : List ℕ) → is_identifier_start c ≡ true → IsRead (c ∷ cs) (word_element (c ∷ cs))
word_is c cs start =
    let n = prefix_len is_identifier_part (c ∷ cs) in
    let m = prefix_len is_identifier_part cs in
    let more : n ≡ suc m = run_more is_identifier_part c cs (or_left (is_identifier_start c) (is_ascii_digit c) start) in
    let size = length-take-le n (c ∷ cs) (run_within is_identifier_part (c ∷ cs)) in
    let name : is_identifier_name (take n (c ∷ cs)) ≡ true = rw more (and_from (is_identifier_start c) _ start (run_passes is_identifier_part cs)) in (
      take n (c ∷ cs),
      drop n (c ∷ cs),
      sym (take-append-drop n (c ∷ cs)),
      sym size,
      omega (arith, more),
      word name,
      not_from_false _ (run_ends is_identifier_part (c ∷ cs)),
    )
