-- The characters that are laid out have exactly the tokens of the pieces, each where its `Spot` says.
use Rattle.std.proofs.Common.{◌≡◌, ℕ, ◌+◌, ◌<◌, Bool, true, false, ◌||◌, not, ◌==◌, List, [], ◌∷◌, ◌++◌, length, refl, sym, ap, subst, ◌∙◌, arith, length-append, append_assoc, cond, eqb}
use Rattle.std.proofs.lemmas.Bool.{eqb-true}
use Rattle.std.proofs.lemmas.List.{append-nil}
use Rattle.es5_ast.specs.Lexical.{Kind5, Token5, width, next_is, is_whole, SpellsToken, Tokens5, finished, white_space, line_terminator, token}
use Rattle.es5_printer.specs.declared.mark.Last.{Last}
use Rattle.es5_printer.specs.declared.mark.Last.TheVariants as last
use Rattle.es5_printer.specs.Pieces.{Piece, Lexeme, Begins, LineEnd}
use Rattle.es5_printer.specs.Layout.{Written, spelling, first_of, gap, space, is_full, settled, with_piece, written}
use Rattle.es5_printer.proofs.Tokens.{Spot, Spots, tokens, AreSpelled}
use Rattle.es5_printer.proofs.Chars.{clean_width, spelling_clean, spelling_nonempty, spells, may_follow, whole_before}

-- what is written for a piece
abbrev pub settled_text : Bool → Written → List ℕ
settled_text true s = 10 ∷ []
settled_text false s = space (gap s.last 0)

abbrev pub added : Written → Piece → List ℕ
added s (Lexeme kind) = space (gap s.last (first_of (spelling kind))) ++ spelling kind
added s (Begins site) = settled_text (is_full s) s
added s LineEnd = 10 ∷ []

abbrev pub text : Written → List Piece → List ℕ
text s [] = []
text s (p ∷ ps) = added s p ++ text (with_piece s p) ps

settled_bytes : (b : Bool) (s : Written) → (settled b s).bytes ≡ s.bytes ++ settled_text b s
settled_bytes true s = refl
settled_bytes false s = refl

pub piece_bytes : (s : Written) (p : Piece) → (with_piece s p).bytes ≡ s.bytes ++ added s p
piece_bytes s (Lexeme kind) = append_assoc s.bytes (space (gap s.last (first_of (spelling kind)))) (spelling kind)
piece_bytes s (Begins site) = settled_bytes (is_full s) s
piece_bytes s LineEnd = refl

pub written_bytes : (s : Written) (ps : List Piece) → (written s ps).bytes ≡ s.bytes ++ text s ps
unfolding written
written_bytes s [] = sym (append-nil s.bytes)
written_bytes s (p ∷ ps) =
    written_bytes (with_piece s p) ps ∙ ap (λ z. z ++ text (with_piece s p) ps) (piece_bytes s p) ∙ append_assoc s.bytes (added s p) (text (with_piece s p) ps)

-- where a piece stands
abbrev pub spot_of : Written → Piece → Spot
spot_of s (Lexeme kind) = record { begin = length s.bytes + length (space (gap s.last (first_of (spelling kind)))); end = length s.bytes + length (space (gap s.last (first_of (spelling kind)))) + length (spelling kind); broken = false }
spot_of s (Begins site) = record { begin = 0; end = 0; broken = is_full s }
spot_of s LineEnd = record { begin = 0; end = 0; broken = false }

abbrev pub Agrees : Spots → Written → List Piece → Type 0
Agrees spots s [] = Unit {0}
Agrees spots s (p ∷ ps) = (spots (length ps) ≡ spot_of s p) × Agrees spots (with_piece s p) ps

-- the spots of a layout
abbrev pub spots_from : Written → List Piece → Spots
spots_from s [] n = record { begin = 0; end = 0; broken = false }
spots_from s (p ∷ ps) n = cond (eqb n (length ps)) (spot_of s p) (spots_from (with_piece s p) ps n)

eqb_same : (n : ℕ) → eqb n n ≡ true
eqb_same n = grind arith

eqb_below : (n m : ℕ) → n < m → eqb n m ≡ false
eqb_below n m h = by_case (eqb n m) refl
  where
    by_case : (b : Bool) → eqb n m ≡ b → eqb n m ≡ false
    by_case true e = let same = eqb-true n m e in absurd (omega arith)
    by_case false e = e

agrees_by : (spots : Spots) (s : Written) (ps : List Piece) → ((n : ℕ) → n < length ps → spots n ≡ spots_from s ps n) → Agrees spots s ps
agrees_by spots s [] h = tt
agrees_by spots s (p ∷ ps) h =
    let here : length ps < length (p ∷ ps) = omega arith in
    (h (length ps) here ∙ ap (λ b. cond b (spot_of s p) (spots_from (with_piece s p) ps (length ps))) (eqb_same (length ps)), agrees_by spots (with_piece s p) ps (λ n lt. let more : n < length (p ∷ ps) = omega arith in h n more ∙ ap (λ b. cond b (spot_of s p) (spots_from (with_piece s p) ps n)) (eqb_below n (length ps) lt)))

pub agrees : (s : Written) (ps : List Piece) → Agrees (spots_from s ps) s ps
agrees s ps = agrees_by (spots_from s ps) s ps (λ n lt. refl)

or_true : (b : Bool) → (b || true) ≡ true
or_true true = refl
or_true false = refl

or_false : (b : Bool) → (b || false) ≡ b
or_false true = refl
or_false false = refl

-- what begins the rest may stand directly after what came last
abbrev Follows : Last → List ℕ → Type 0
Follows l rest = next_is (λ c. not (may_follow l c)) rest ≡ false

follows_by_or : (a : Bool) → not (a || true) ≡ false
follows_by_or a = ap not (or_true a)

token_follows : (g : Bool) (l : Last) (cs rest : List ℕ) → gap l (first_of cs) ≡ g → 0 < length cs → Follows l ((space g ++ cs) ++ rest)
token_follows true l cs rest e n = refl
token_follows false l [] rest e n = absurd (omega arith)
token_follows false l (c ∷ cs) rest e n = ap (λ z. not ((c == 32) || (c == 10) || not z)) e ∙ follows_by_or ((c == 32) || (c == 10))

any_follows : (rest : List ℕ) → Follows last.Space rest
any_follows [] = refl
any_follows (c ∷ cs) = follows_by_or ((c == 32) || (c == 10))

gap_follows : (l : Last) (rest : List ℕ) → Follows l (space (gap l 0) ++ rest)
gap_follows last.Space rest = any_follows rest
gap_follows last.Point rest = refl
gap_follows last.Word rest = refl
gap_follows last.Number rest = refl
gap_follows last.Sign rest = refl

settled_follows : (b : Bool) (s : Written) (rest : List ℕ) → Follows s.last (settled_text b s ++ rest)
settled_follows true s rest = refl
settled_follows false s rest = gap_follows s.last rest

follows : (ended : Bool) (s : Written) (ps : List Piece) → AreSpelled ended ps → Follows s.last (text s ps)
follows ended s [] q = refl
follows ended s (Lexeme kind ∷ ps) q = token_follows (gap s.last (first_of (spelling kind))) s.last (spelling kind) (text (with_piece s (Lexeme kind)) ps) refl (spelling_nonempty kind q.0)
follows ended s (Begins site ∷ ps) q = settled_follows (is_full s) s (text (with_piece s (Begins site)) ps)
follows ended s (LineEnd ∷ ps) q = refl

-- a token, and a space before it or none
token_lexed : (kind : Kind5) (cs rest : List ℕ) (ts : List Token5) (line : Bool) (at begin end next : ℕ) → SpellsToken kind cs → is_whole kind cs rest ≡ true → at ≡ begin → at + width cs ≡ end → at + width cs ≡ next → Tokens5 next false rest ts → Tokens5 at line (cs ++ rest) (record { begin = begin; end = end; after_line = line; kind = kind } ∷ ts)
token_lexed kind cs rest ts line at begin end next sp wh eb ee en d =
    subst (λ b. Tokens5 at line (cs ++ rest) (record { begin = b; end = end; after_line = line; kind = kind } ∷ ts)) eb
    (subst (λ z. Tokens5 at line (cs ++ rest) (record { begin = at; end = z; after_line = line; kind = kind } ∷ ts)) ee
    (token cs rest kind sp wh (subst (λ n. Tokens5 n false rest ts) (sym en) d)))

gap_lexed : (g : Bool) (line : Bool) (at : ℕ) (cs rest : List ℕ) (ts : List Token5) → Tokens5 (at + length (space g)) line (cs ++ rest) ts → Tokens5 at line ((space g ++ cs) ++ rest) ts
gap_lexed true line at cs rest ts d = white_space refl d
gap_lexed false line at cs rest ts d = let same : at + 0 ≡ at = omega arith in subst (λ n. Tokens5 n line (cs ++ rest) ts) same d

space_lexed : (g : Bool) (line : Bool) (at : ℕ) (rest : List ℕ) (ts : List Token5) → Tokens5 (at + length (space g)) line rest ts → Tokens5 at line (space g ++ rest) ts
space_lexed true line at rest ts d = white_space refl d
space_lexed false line at rest ts d = let same : at + 0 ≡ at = omega arith in subst (λ n. Tokens5 n line rest ts) same d

settled_lexed : (b line broken : Bool) (s : Written) (at next : ℕ) (rest : List ℕ) (ts : Bool → List Token5) → broken ≡ b → next ≡ at + length (settled_text b s) → ((l : Bool) → Tokens5 next l rest (ts l)) → Tokens5 at line (settled_text b s ++ rest) (ts (line || broken))
settled_lexed true line broken s at next rest ts eb en d =
    subst (λ l. Tokens5 at line (10 ∷ rest) (ts l)) (sym (ap (λ z. line || z) eb ∙ or_true line)) (line_terminator refl (subst (λ n. Tokens5 n true rest (ts true)) en (d true)))
settled_lexed false line broken s at next rest ts eb en d =
    subst (λ l. Tokens5 at line (space (gap s.last 0) ++ rest) (ts l)) (sym (ap (λ z. line || z) eb ∙ or_false line)) (space_lexed (gap s.last 0) line at rest (ts line) (subst (λ n. Tokens5 n line rest (ts line)) en (d line)))

pub piece_length : (s : Written) (p : Piece) → length (with_piece s p).bytes ≡ length s.bytes + length (added s p)
piece_length s p = ap length (piece_bytes s p) ∙ length-append s.bytes (added s p)

pub lexed : (ended : Bool) (spots : Spots) (s : Written) (ps : List Piece) (at : ℕ) (line : Bool) → at ≡ length s.bytes → Agrees spots s ps → AreSpelled ended ps → Tokens5 at line (text s ps) (tokens spots line ps)
lexed ended spots s [] at line e a q = finished
lexed ended spots s (Lexeme kind ∷ ps) at line e a q =
    let cs = spelling kind in
    let g = gap s.last (first_of cs) in
    let s' = with_piece s (Lexeme kind) in
    let d = lexed false spots s' ps (length s'.bytes) false refl a.1 q.1 in
    let w : width cs ≡ length cs = clean_width cs (spelling_clean kind q.0) in
    let len : length s'.bytes ≡ length s.bytes + length (added s (Lexeme kind)) = piece_length s (Lexeme kind) in
    let parts : length (added s (Lexeme kind)) ≡ length (space g) + length cs = length-append (space g) cs in
    let begin : (spots (length ps)).begin ≡ length s.bytes + length (space g) = ap (λ z. z.begin) a.0 in
    let end : (spots (length ps)).end ≡ length s.bytes + length (space g) + length cs = ap (λ z. z.end) a.0 in
    gap_lexed g line at cs (text s' ps) (tokens spots line (Lexeme kind ∷ ps))
    (token_lexed kind cs (text s' ps) (tokens spots false ps) line (at + length (space g)) (spots (length ps)).begin (spots (length ps)).end (length s'.bytes) (spells kind q.0) (whole_before kind q.0 (text s' ps) (follows false s' ps q.1)) (omega arith) (omega arith) (omega arith) d)
lexed ended spots s (Begins site ∷ ps) at line e a q =
    let s' = with_piece s (Begins site) in
    let len : length s'.bytes ≡ length s.bytes + length (added s (Begins site)) = piece_length s (Begins site) in
    settled_lexed (is_full s) line (spots (length ps)).broken s at (length s'.bytes) (text s' ps) (λ l. tokens spots l ps) (ap (λ z. z.broken) a.0) (omega arith) (λ l. lexed false spots s' ps (length s'.bytes) l refl a.1 q.1)
lexed ended spots s (LineEnd ∷ ps) at line e a q =
    let s' = with_piece s LineEnd in
    let len : length s'.bytes ≡ length s.bytes + 1 = piece_length s LineEnd in
    let next : at + 1 ≡ length s'.bytes = omega arith in
    line_terminator refl (lexed true spots s' ps (at + 1) true next a.1 q)
