-- The marks that are laid out stand where their calls begin, and all characters are printable.
use Rattle.std.proofs.Common.{◌≡◌, ℕ, zero, suc, ◌+◌, ◌-◌, ◌/◌, ◌%◌, ◌≤◌, ◌<◌, Bool, true, false, ◌||◌, ◌&&◌, nat_le, ◌==◌, List, [], ◌∷◌, ◌++◌, length, take, refl, sym, ap, subst, ◌∙◌, arith, length-append, append_assoc, cond}
use Rattle.std.specs.Prelude.{if◌then◌else◌}
use Rattle.std.specs.List.{list_all, Contains}
use Rattle.std.specs.Str.{IsAscii}
use Rattle.std.proofs.lemmas.Bool.{false≢true, eqb-true, leb-false, le-leb, and_parts}
use Rattle.std.proofs.lemmas.Bool.Decides.{nat_tests}
use Rattle.std.proofs.lemmas.List.{append-nil}
use Rattle.std.proofs.lemmas.Str.{encodes-IsAscii, IsAscii-take}
use Rattle.std.proofs.Math.Seq.{take-append_seam, get_or-append_seam}
use Rattle.es_text.specs.declared.Place.{Place}
use Rattle.es_text.specs.Units.{units_of_code_point}
use Rattle.es_text.specs.Places.{ends_line, place_after, place_from, IsPlace}
use Rattle.es_outside.specs.declared.events.Site.{Site}
use Rattle.es5_ast.specs.Lexical.{Kind5}
use Rattle.es5_ast.specs.Grammar.{begin_of}
use Rattle.es5_printer.specs.declared.mark.Mark.{Mark}
use Rattle.es5_printer.specs.declared.mark.Last.TheVariants as last
use Rattle.es5_printer.specs.Pieces.{Piece, Lexeme, Begins, LineEnd}
use Rattle.es5_printer.specs.Layout.{Written, spelling, first_of, gap, space, with_line, with_gap, with_mark, limit, is_full, settled, with_piece, written, blank}
use Rattle.es5_printer.specs.Printed.{Call, IsMarkOf, AreMarksOf, IsRising, is_printable, EndsLine}
use Rattle.es5_printer.proofs.Tokens.{Spots, tokens, AreMarked, IsSpelled, AreSpelled, is_token_first}
use Rattle.es5_printer.proofs.Chars.{is_clean, clean_bounds, spelling_clean, spelling_nonempty}
use Rattle.es5_printer.proofs.Lexing.{added, text, piece_bytes, Agrees, piece_length}

-- a place after a printable character, and after several
abbrev pub step : Place → ℕ → Place
step p c = (if c == 10 then record { line = p.line + 1; column = 0 } else record { line = p.line; column = p.column + 1 })

abbrev pub walk : Place → List ℕ → Place
walk p [] = p
walk p (c ∷ cs) = walk (step p c) cs

walk_append : (p : Place) (xs ys : List ℕ) → walk p (xs ++ ys) ≡ walk (walk p xs) ys
walk_append p [] ys = refl
walk_append p (c ∷ xs) ys = walk_append (step p c) xs ys

not_feed : (c : ℕ) → 32 ≤ c → (c == 10) ≡ false
not_feed c h = grind (arith, nat_tests)

no_line : (c : ℕ) (rest : List ℕ) → 32 ≤ c → c ≤ 126 → ends_line c rest ≡ false
no_line c rest a b = grind (arith, nat_tests)

one_unit : (c : ℕ) → c ≤ 126 → length (units_of_code_point c) ≡ 1
one_unit c h = let small : suc c ≤ 65536 = omega arith in ap (λ b. length (cond b (c ∷ []) ((55296 + (c - 65536) / 1024) ∷ (56320 + (c - 65536) % 1024) ∷ []))) (le-leb (suc c) 65536 small)

clean_step : (p : Place) (c : ℕ) (rest : List ℕ) → 32 ≤ c → c ≤ 126 → place_after p c rest ≡ step p c
clean_step p c rest a b =
    ap (λ z. (if z then record { line = p.line + 1; column = 0 } else record { line = p.line; column = p.column + length (units_of_code_point c) })) (no_line c rest a b)
    ∙ ap (λ n. record { line = p.line; column = p.column + n }) (one_unit c b)
    ∙ sym (ap (λ z. (if z then record { line = p.line + 1; column = 0 } else record { line = p.line; column = p.column + 1 })) (not_feed c a))

printable_step : (p : Place) (c : ℕ) (rest : List ℕ) (b : Bool) → nat_le 32 c && nat_le c 126 ≡ b → is_printable c ≡ true → place_after p c rest ≡ step p c
printable_step p c rest true e h = let r = clean_bounds c e in clean_step p c rest r.0 r.1
printable_step p c rest false e h =
    let feed : (c == 10) ≡ true = sym (ap (λ z. z || (c == 10)) e) ∙ h in
    subst (λ z. place_after p z rest ≡ step p z) (sym (eqb-true c 10 feed)) refl

place_zero : (p : Place) (cs : List ℕ) → place_from p cs 0 ≡ p
unfolding place_from
place_zero p [] = refl
place_zero p (c ∷ cs) = refl

place_walk : (p : Place) (xs ys : List ℕ) → list_all is_printable xs ≡ true → place_from p (xs ++ ys) (length xs) ≡ walk p xs
unfolding place_from
place_walk p [] ys e = place_zero p ys
place_walk p (c ∷ xs) ys e =
    let h = and_parts (is_printable c) (list_all is_printable xs) e in
    place_walk (place_after p c (xs ++ ys)) xs ys h.1 ∙ ap (λ z. walk z xs) (printable_step p c (xs ++ ys) (nat_le 32 c && nat_le c 126) refl h.0)

walk_clean : (p : Place) (cs : List ℕ) → list_all is_clean cs ≡ true → walk p cs ≡ record { line = p.line; column = p.column + length cs }
walk_clean p [] e = let same : p.column ≡ p.column + 0 = omega arith in ap (λ n. record { line = p.line; column = n }) same
walk_clean p (c ∷ cs) e =
    let h = and_parts (is_clean c) (list_all is_clean cs) e in
    let b = clean_bounds c h.0 in
    let same : p.column + 1 + length cs ≡ p.column + length (c ∷ cs) = omega arith in
    ap (λ z. walk (if z then record { line = p.line + 1; column = 0 } else record { line = p.line; column = p.column + 1 }) cs) (not_feed c b.0)
    ∙ walk_clean (record { line = p.line; column = p.column + 1 }) cs h.1
    ∙ ap (λ n. record { line = p.line; column = n }) same

all_append : (p : ℕ → Bool) (xs ys : List ℕ) → list_all p xs ≡ true → list_all p ys ≡ true → list_all p (xs ++ ys) ≡ true
all_append p [] ys a b = b
all_append p (x ∷ xs) ys a b = let h = and_parts (p x) (list_all p xs) a in ap (λ z. z && list_all p (xs ++ ys)) h.0 ∙ all_append p xs ys h.1 b

clean_printable : (cs : List ℕ) → list_all is_clean cs ≡ true → list_all is_printable cs ≡ true
clean_printable [] e = refl
clean_printable (c ∷ cs) e =
    let h = and_parts (is_clean c) (list_all is_clean cs) e in
    ap (λ z. (z || (c == 10)) && list_all is_printable cs) h.0 ∙ clean_printable cs h.1

abbrev pub here : Written → Place
here s = record { line = s.line; column = length s.bytes - s.start }

-- the line and the column are those of the end of the bytes
pub record IsPlaced (s : Written) : Type 0 where
  pub place : walk (record { line = 0; column = 0 }) s.bytes ≡ here s
  pub start : s.start ≤ length s.bytes
  pub printable : list_all is_printable s.bytes ≡ true

pub blank_placed : IsPlaced blank
blank_placed = record { place = refl; start = omega arith; printable = refl }

space_clean : (g : Bool) → list_all is_clean (space g) ≡ true
space_clean true = refl
space_clean false = refl

-- after characters of the same line
clean_placed : (s t : Written) (cs : List ℕ) → t.bytes ≡ s.bytes ++ cs → t.line ≡ s.line → t.start ≡ s.start → list_all is_clean cs ≡ true → IsPlaced s → IsPlaced t
clean_placed s t cs eb el es c h =
    let len : length t.bytes ≡ length s.bytes + length cs = ap length eb ∙ length-append s.bytes cs in
    let below = h.start in
    let column : length s.bytes - s.start + length cs ≡ length t.bytes - t.start = omega arith in
    record {
      place = ap (walk (record { line = 0; column = 0 })) eb ∙ walk_append (record { line = 0; column = 0 }) s.bytes cs ∙ ap (λ z. walk z cs) h.place ∙ walk_clean (here s) cs c ∙ ap (λ n. record { line = s.line; column = n }) column ∙ ap (λ n. record { line = n; column = length t.bytes - t.start }) (sym el);
      start = omega arith;
      printable = ap (list_all is_printable) eb ∙ all_append is_printable s.bytes cs h.printable (clean_printable cs c);
    }

line_placed : (s : Written) → IsPlaced s → IsPlaced (with_line s)
line_placed s h =
    let len : length (s.bytes ++ 10 ∷ []) ≡ length s.bytes + 1 = length-append s.bytes (10 ∷ []) in
    let column : 0 ≡ length (s.bytes ++ 10 ∷ []) - (length s.bytes + 1) = omega arith in
    record {
      place = walk_append (record { line = 0; column = 0 }) s.bytes (10 ∷ []) ∙ ap (λ z. walk z (10 ∷ [])) h.place ∙ ap (λ n. record { line = s.line + 1; column = n }) column;
      start = omega arith;
      printable = all_append is_printable s.bytes (10 ∷ []) h.printable refl;
    }

settled_placed : (b : Bool) (s : Written) → IsPlaced s → IsPlaced (settled b s)
settled_placed true s h = line_placed s h
settled_placed false s h = clean_placed s (with_gap s) (space (gap s.last 0)) refl refl refl (space_clean (gap s.last 0)) h

mark_placed : (s : Written) (site : Site) → IsPlaced s → IsPlaced (with_mark s site)
mark_placed s site h = record { place = h.place; start = h.start; printable = h.printable }

token_placed : (s : Written) (kind : Kind5) → IsSpelled kind → IsPlaced s → IsPlaced (with_piece s (Lexeme kind))
token_placed s kind q h =
    let cs = space (gap s.last (first_of (spelling kind))) ++ spelling kind in
    clean_placed s (with_piece s (Lexeme kind)) cs (piece_bytes s (Lexeme kind)) refl refl (all_append is_clean (space (gap s.last (first_of (spelling kind)))) (spelling kind) (space_clean (gap s.last (first_of (spelling kind)))) (spelling_clean kind q)) h

-- the marks and the calls of a layout
abbrev pub marks_from : Written → List Piece → List Mark
marks_from s [] = []
marks_from s (Lexeme kind ∷ ps) = marks_from (with_piece s (Lexeme kind)) ps
marks_from s (Begins site ∷ ps) = record { generated = here (settled (is_full s) s); site = site } ∷ marks_from (with_piece s (Begins site)) ps
marks_from s (LineEnd ∷ ps) = marks_from (with_piece s LineEnd) ps

abbrev pub calls_from : Written → List Piece → List Call
calls_from s [] = []
calls_from s (Lexeme kind ∷ ps) = calls_from (with_piece s (Lexeme kind)) ps
calls_from s (Begins site ∷ ps) = (length (settled (is_full s) s).bytes, site) ∷ calls_from (with_piece s (Begins site)) ps
calls_from s (LineEnd ∷ ps) = calls_from (with_piece s LineEnd) ps

settled_marks : (b : Bool) (s : Written) → (settled b s).marks ≡ s.marks
settled_marks true s = refl
settled_marks false s = refl

pub written_marks : (s : Written) (ps : List Piece) → (written s ps).marks ≡ s.marks ++ marks_from s ps
unfolding written
written_marks s [] = sym (append-nil s.marks)
written_marks s (Lexeme kind ∷ ps) = written_marks (with_piece s (Lexeme kind)) ps
written_marks s (Begins site ∷ ps) =
    let m : Mark = record { generated = here (settled (is_full s) s); site = site } in
    written_marks (with_piece s (Begins site)) ps ∙ ap (λ z. (z ++ m ∷ []) ++ marks_from (with_piece s (Begins site)) ps) (settled_marks (is_full s) s) ∙ append_assoc s.marks (m ∷ []) (marks_from (with_piece s (Begins site)) ps)
written_marks s (LineEnd ∷ ps) = written_marks (with_piece s LineEnd) ps

gap_near : (g : Bool) (bytes : List ℕ) (start : ℕ) → length bytes - start < 100 → length (bytes ++ space g) - start ≤ limit
gap_near true bytes start h = let len : length (bytes ++ 32 ∷ []) ≡ length bytes + 1 = length-append bytes (32 ∷ []) in omega arith
gap_near false bytes start h = let len : length (bytes ++ []) ≡ length bytes = ap length (append-nil bytes) in omega arith

settled_near : (b : Bool) (s : Written) → is_full s ≡ b → (here (settled b s)).column ≤ limit
settled_near true s e =
    let len : length (s.bytes ++ 10 ∷ []) ≡ length s.bytes + 1 = length-append s.bytes (10 ∷ []) in
    omega arith
settled_near false s e = gap_near (gap s.last 0) s.bytes s.start (leb-false 100 (length s.bytes - s.start) e)

settled_last : (b : Bool) (s : Written) → (settled b s).last ≡ last.Space
settled_last true s = refl
settled_last false s = refl

settled_longer : (b : Bool) (s : Written) → length s.bytes ≤ length (settled b s).bytes
settled_longer true s = let len = length-append s.bytes (10 ∷ []) in omega arith
settled_longer false s = let len = length-append s.bytes (space (gap s.last 0)) in omega arith

-- a token after a marked place begins right there
begin_there : (spots : Spots) (s : Written) (ps : List Piece) → Agrees spots s ps → s.last ≡ last.Space → is_token_first ps ≡ true → begin_of (tokens spots false ps) ≡ length s.bytes
begin_there spots s [] a e f = absurd (false≢true f)
begin_there spots s (Lexeme kind ∷ ps) a e f =
    let none : length (space (gap s.last (first_of (spelling kind)))) ≡ 0 = ap (λ l. length (space (gap l (first_of (spelling kind))))) e in
    let begin : (spots (length ps)).begin ≡ length s.bytes + length (space (gap s.last (first_of (spelling kind)))) = ap (λ z. z.begin) a.0 in
    omega arith
begin_there spots s (Begins site ∷ ps) a e f = absurd (false≢true f)
begin_there spots s (LineEnd ∷ ps) a e f = absurd (false≢true f)

contains_here : (before after : List Call) (c : Call) → Contains (before ++ c ∷ after) c
contains_here before after c =
    let len : length (before ++ c ∷ after) ≡ length before + length (c ∷ after) = length-append before (c ∷ after) in
    let more : length before < length (before ++ c ∷ after) = omega arith in
    (length before, more, get_or-append_seam before c after c)

-- the calls by their tokens
abbrev pub token_calls : Spots → List Piece → List Call
token_calls spots [] = []
token_calls spots (Lexeme kind ∷ ps) = token_calls spots ps
token_calls spots (Begins site ∷ ps) = (begin_of (tokens spots false ps), site) ∷ token_calls spots ps
token_calls spots (LineEnd ∷ ps) = token_calls spots ps

marked_by : (spots : Spots) (ps : List Piece) (calls before : List Call) → calls ≡ before ++ token_calls spots ps → AreMarked spots calls ps
marked_by spots [] calls before e = tt
marked_by spots (Lexeme kind ∷ ps) calls before e = marked_by spots ps calls before e
marked_by spots (Begins site ∷ ps) calls before e =
    let c : Call = (begin_of (tokens spots false ps), site) in
    (subst (λ z. Contains z c) (sym e) (contains_here before (token_calls spots ps) c), marked_by spots ps calls (before ++ c ∷ []) (e ∙ sym (append_assoc before (c ∷ []) (token_calls spots ps))))
marked_by spots (LineEnd ∷ ps) calls before e = marked_by spots ps calls before e

-- each call's place is in the list
pub all_marked : (spots : Spots) (ps : List Piece) → AreMarked spots (token_calls spots ps) ps
all_marked spots ps = marked_by spots ps (token_calls spots ps) [] refl

pub calls_same : (ended : Bool) (spots : Spots) (s : Written) (ps : List Piece) → Agrees spots s ps → AreSpelled ended ps → token_calls spots ps ≡ calls_from s ps
calls_same ended spots s [] a q = refl
calls_same ended spots s (Lexeme kind ∷ ps) a q = calls_same false spots (with_piece s (Lexeme kind)) ps a.1 q.1
calls_same ended spots s (Begins site ∷ ps) a q =
    let s' = with_piece s (Begins site) in
    let begin : begin_of (tokens spots false ps) ≡ length s'.bytes = begin_there spots s' ps a.1 (settled_last (is_full s) s) q.0 in
    ap (λ at. (at, site) ∷ token_calls spots ps) begin ∙ ap (λ cs. (length s'.bytes, site) ∷ cs) (calls_same false spots s' ps a.1 q.1)
calls_same ended spots s (LineEnd ∷ ps) a q = calls_same true spots (with_piece s LineEnd) ps a.1 q

-- printable bytes are ASCII
ascii_by : (cs : List ℕ) → list_all is_printable cs ≡ true → IsAscii cs
ascii_by [] e i = omega arith
ascii_by (c ∷ cs) e zero = let h = and_parts (is_printable c) (list_all is_printable cs) e in printable_small c (nat_le 32 c && nat_le c 126) refl h.0
  where
    printable_small : (c : ℕ) (b : Bool) → nat_le 32 c && nat_le c 126 ≡ b → is_printable c ≡ true → c < 128
    printable_small c true f h = let r = clean_bounds c f in omega arith
    printable_small c false f h = let same = eqb-true c 10 (sym (ap (λ z. z || (c == 10)) f) ∙ h) in omega arith
ascii_by (c ∷ cs) e (suc i) = ascii_by cs (and_parts (is_printable c) (list_all is_printable cs) e).1 i

pub printable_ascii : (cs : List ℕ) → list_all is_printable cs ≡ true → IsAscii cs
printable_ascii = ascii_by

place_there : (bytes front rest : List ℕ) (p : Place) → bytes ≡ front ++ rest → IsAscii bytes → list_all is_printable front ≡ true → walk (record { line = 0; column = 0 }) front ≡ p → IsPlace bytes (length front) p
place_there bytes front rest p e ascii printable w =
    let len : length bytes ≡ length front + length rest = ap length e ∙ length-append front rest in
    let same : take (length front) bytes ≡ front = ap (take (length front)) e ∙ take-append_seam front rest in
    record {
      index = length front;
      inside = omega arith;
      offset_is = sym (ap length (encodes-IsAscii (take (length front) bytes) (IsAscii-take bytes (length front) ascii) ∙ same));
      place_is = sym w ∙ sym (place_walk (record { line = 0; column = 0 }) front rest printable) ∙ ap (λ z. place_from (record { line = 0; column = 0 }) z (length front)) (sym e);
    }

mark_of_call : (bytes : List ℕ) (s : Written) (site : Site) (rest : List ℕ) → IsPlaced s → IsAscii bytes → bytes ≡ (settled (is_full s) s).bytes ++ rest → IsMarkOf bytes (length (settled (is_full s) s).bytes, site) (record { generated = here (settled (is_full s) s); site = site })
mark_of_call bytes s site rest h ascii e =
    let placed = settled_placed (is_full s) s h in
    record {
      place = place_there bytes (settled (is_full s) s).bytes rest (here (settled (is_full s) s)) e ascii placed.printable placed.place;
      site = refl;
      near = settled_near (is_full s) s refl;
    }

piece_text : (bytes : List ℕ) (s : Written) (p : Piece) (ps : List Piece) → bytes ≡ s.bytes ++ text s (p ∷ ps) → bytes ≡ (with_piece s p).bytes ++ text (with_piece s p) ps
piece_text bytes s p ps e = e ∙ sym (append_assoc s.bytes (added s p) (text (with_piece s p) ps)) ∙ ap (λ z. z ++ text (with_piece s p) ps) (sym (piece_bytes s p))

pub marks_placed : (ended : Bool) (bytes : List ℕ) (s : Written) (ps : List Piece) → bytes ≡ s.bytes ++ text s ps → IsAscii bytes → IsPlaced s → AreSpelled ended ps → AreMarksOf bytes (calls_from s ps) (marks_from s ps)
marks_placed ended bytes s [] e ascii h q = tt
marks_placed ended bytes s (Lexeme kind ∷ ps) e ascii h q = marks_placed false bytes (with_piece s (Lexeme kind)) ps (piece_text bytes s (Lexeme kind) ps e) ascii (token_placed s kind q.0 h) q.1
marks_placed ended bytes s (Begins site ∷ ps) e ascii h q =
    let s' = with_piece s (Begins site) in
    let e' = piece_text bytes s (Begins site) ps e in
    (mark_of_call bytes s site (text s' ps) h ascii e', marks_placed false bytes s' ps e' ascii (mark_placed (settled (is_full s) s) site (settled_placed (is_full s) s h)) q.1)
marks_placed ended bytes s (LineEnd ∷ ps) e ascii h q = marks_placed true bytes (with_piece s LineEnd) ps (piece_text bytes s LineEnd ps e) ascii (line_placed s h) q

-- the end of what is written
pub written_placed : (ended : Bool) (s : Written) (ps : List Piece) → IsPlaced s → AreSpelled ended ps → IsPlaced (written s ps)
unfolding written
written_placed ended s [] h q = h
written_placed ended s (Lexeme kind ∷ ps) h q = written_placed false (with_piece s (Lexeme kind)) ps (token_placed s kind q.0 h) q.1
written_placed ended s (Begins site ∷ ps) h q = written_placed false (with_piece s (Begins site)) ps (mark_placed (settled (is_full s) s) site (settled_placed (is_full s) s h)) q.1
written_placed ended s (LineEnd ∷ ps) h q = written_placed true (with_piece s LineEnd) ps (line_placed s h) q

-- the calls go up
rising : (ended : Bool) (s : Written) (ps : List Piece) (least : ℕ) → least ≤ length s.bytes → AreSpelled ended ps → IsRising least (calls_from s ps)
rising ended s [] least le q = tt
rising ended s (Lexeme kind ∷ ps) least le q =
    let len = piece_length s (Lexeme kind) in
    let more : least ≤ length (with_piece s (Lexeme kind)).bytes = omega arith in
    rising false (with_piece s (Lexeme kind)) ps least more q.1
rising ended s (Begins site ∷ Lexeme kind ∷ ps) least le q =
    let s' = with_piece s (Begins site) in
    let longer = settled_longer (is_full s) s in
    let len = piece_length s' (Lexeme kind) in
    let cut = length-append (space (gap s'.last (first_of (spelling kind)))) (spelling kind) in
    let some = spelling_nonempty kind q.1.0 in
    let up : least ≤ length s'.bytes = omega arith in
    let more : length s'.bytes + 1 ≤ length (with_piece s' (Lexeme kind)).bytes = omega arith in
    (up, rising false (with_piece s' (Lexeme kind)) ps (length s'.bytes + 1) more q.1.1)
rising ended s (Begins site ∷ []) least le q = absurd (false≢true q.0)
rising ended s (Begins site ∷ Begins other ∷ ps) least le q = absurd (false≢true q.0)
rising ended s (Begins site ∷ LineEnd ∷ ps) least le q = absurd (false≢true q.0)
rising ended s (LineEnd ∷ ps) least le q =
    let len = piece_length s LineEnd in
    let more : least ≤ length (with_piece s LineEnd).bytes = omega arith in
    rising true (with_piece s LineEnd) ps least more q

pub calls_rise : (ended : Bool) (s : Written) (ps : List Piece) → AreSpelled ended ps → IsRising 0 (calls_from s ps)
calls_rise ended s ps q = let low : 0 ≤ length s.bytes = omega arith in rising ended s ps 0 low q

-- the text ends with a line feed
pub ends_line_by : (ended : Bool) (s : Written) (ps : List Piece) → (ended ≡ true → EndsLine s.bytes) → AreSpelled ended ps → EndsLine (written s ps).bytes
unfolding written
ends_line_by true s [] h q = h refl
ends_line_by false s [] h q = absurd q
ends_line_by ended s (Lexeme kind ∷ ps) h q = ends_line_by false (with_piece s (Lexeme kind)) ps (λ e. absurd (false≢true e)) q.1
ends_line_by ended s (Begins site ∷ ps) h q = ends_line_by false (with_piece s (Begins site)) ps (λ e. absurd (false≢true e)) q.1
ends_line_by ended s (LineEnd ∷ ps) h q = ends_line_by true (with_piece s LineEnd) ps (λ e. (s.bytes, refl)) q
