-- The end and the begin of the last line, a byte at a time.
use Rattle.std.proofs.Common.{◌≡◌, ◌≢◌, ℕ, zero, suc, ◌-◌, ◌<◌, ◌≤◌, List, ◌++◌, get_or, length, take, drop, true, Ok, Err, refl, sym, ap, ap₂, ◌∙◌, subst, arith}
use Rattle.std.specs.Prelude.{◌↔◌}
use Rattle.std.proofs.lemmas.Bool.{ne_eqb}
use Rattle.std.proofs.lemmas.List.{take-append-drop}
use lib.Pointwise.{bytes_decides}
use Rattle.base64.specs.Engines.{standard}
use Rattle.base64.specs.GeneralPurpose.{decode_of, encode_of}
use Rattle.base64.specs.declared.decode.DecodeError.{DecodeError}
use Rattle.source_map.specs.declared.line.TheConstants.{HEAD}
use Rattle.source_map.specs.Line.{text_end, line_begin, has_head, line_of}

pub text_end-feed : (s : List ℕ) (n : ℕ) → 0 < n → get_or s (n - 1) 0 ≡ 10 → text_end s (n - 1) ≡ text_end s n
unfolding text_end
text_end-feed s zero h e = absurd (omega arith)
text_end-feed s (suc m) h e =
    let p : suc m - 1 ≡ m = omega arith in
    let is : get_or s m 0 ≡ 10 = subst (λ j. get_or s j 0 ≡ 10) p e in
    rw (p, is) refl

pub text_end-other : (s : List ℕ) (n : ℕ) → 0 < n → get_or s (n - 1) 0 ≢ 10 → text_end s n ≡ n
unfolding text_end
text_end-other s zero h e = absurd (omega arith)
text_end-other s (suc m) h e =
    let p : suc m - 1 ≡ m = omega arith in
    let is : get_or s m 0 ≢ 10 = subst (λ j. get_or s j 0 ≢ 10) p e in
    rw (ne_eqb (get_or s m 0) 10 is) refl

pub text_end-zero : (s : List ℕ) (n : ℕ) → n ≤ 0 → text_end s n ≡ n
unfolding text_end
text_end-zero s zero h = refl
text_end-zero s (suc m) h = absurd (omega arith)

pub line_begin-feed : (s : List ℕ) (n : ℕ) → 0 < n → get_or s (n - 1) 0 ≡ 10 → line_begin s n ≡ n
unfolding line_begin
line_begin-feed s zero h e = absurd (omega arith)
line_begin-feed s (suc m) h e =
    let p : suc m - 1 ≡ m = omega arith in
    let is : get_or s m 0 ≡ 10 = subst (λ j. get_or s j 0 ≡ 10) p e in
    rw is refl

pub line_begin-other : (s : List ℕ) (n : ℕ) → 0 < n → get_or s (n - 1) 0 ≢ 10 → line_begin s (n - 1) ≡ line_begin s n
unfolding line_begin
line_begin-other s zero h e = absurd (omega arith)
line_begin-other s (suc m) h e =
    let p : suc m - 1 ≡ m = omega arith in
    let is : get_or s m 0 ≢ 10 = subst (λ j. get_or s j 0 ≢ 10) p e in
    rw (p, ne_eqb (get_or s m 0) 10 is) refl

pub line_begin-zero : (s : List ℕ) (n : ℕ) → n ≤ 0 → line_begin s n ≡ n
unfolding line_begin
line_begin-zero s zero h = refl
line_begin-zero s (suc m) h = absurd (omega arith)

-- ---- the line of a map

pub headed : (line rest text : List ℕ) → has_head line ≡ true → rest ≡ drop (length HEAD.now) line → rest ≡ encode_of standard text → line ≡ line_of text
headed line rest text h r e =
    sym (take-append-drop (length HEAD.now) line) ∙ ap₂ (λ a b. a ++ b) ((bytes_decides (take (length HEAD.now) line) HEAD.now).0 h) (sym r ∙ e)

pub not_headed : (line rest text : List ℕ) (d : DecodeError) → rest ≡ drop (length HEAD.now) line → decode_of standard rest ≡ Err d
    → ((decode_of standard rest ≡ Ok text) ↔ (rest ≡ encode_of standard text)) → line ≢ line_of text
not_headed line rest text d r failed decodes e =
    let same : rest ≡ encode_of standard text = r ∙ ap (drop (length HEAD.now)) e in
    absurd (cc (failed, decodes.1 same))
