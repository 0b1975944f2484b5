-- Names that are exported, the word `default`, and the end of the text.
use Rattle.std.proofs.Common.{◌≡◌, ℕ, Bool, true, false, ◌&&◌, cond, List, [], ◌∷◌, Some, None, refl, sym, ap, ◌∙◌}
use Rattle.std.specs.Prelude.{codes}
use Rattle.std.specs.List.{list_all}
use Rattle.es_text.specs.declared.Span.{Span}
use Rattle.es6_ast.specs.declared.module.ExportName.{ExportName}
use Rattle.es6_ast.specs.declared.module.Item.{Item}
use Rattle.es6_ast.specs.declared.module.Module.{Module}
use Rattle.es6_ast.specs.Tokens.{Filled, is_identifier}
use Rattle.es6_reading.specs.Parser.{Input, Inner, Took, Parser, after, returns, on, on_taken, take_as, word, next_word, next_is, if_next, refused, group}
use Rattle.es6_lexer.specs.declared.token.Punctuator.TheVariants as marks
use Rattle.es6_cursor.specs.Readers.{inner, turns}
use Rattle.es6_cursor.proofs.Rooms.{fuel_turns}
use Rattle.es6_read_modules.specs.Exports.{after_names}
use Rattle.es6_reading.specs.Modules.{are_own, export_default, export_names, exports, is_end, end_at}
use Rattle.es6_cursor.specs.Takes.{TakesAs, place_of, next_of, passed}
use Rattle.es6_cursor.proofs.Choices.{on_word_at, off_word_at}

-- what stands after the end of the text
closed : List Item → Filled → Parser Module
closed xs end = if_next (λ t. true) refused (returns (record { span = record { begin = 0; end = end.span.end }; items = xs }))

-- the end of the text is taken
pub at_end : (xs : List Item) (c : Input) → next_is is_end c.tokens ≡ true → after {B = Module} (take_as end_at c) (λ end. if_next (λ t. true) refused (returns (record { span = record { begin = 0; end = end.span.end }; items = xs }))) ≡ if_next (λ t. true) refused (returns (record { span = record { begin = 0; end = (passed true c).last }; items = xs })) (passed true c)
unfolding closed
at_end xs c h = at c.tokens c.last h
  where
    at : (ts : List Filled) (last : ℕ) → next_is is_end ts ≡ true → after (take_as end_at (record { tokens = ts; last = last })) (closed xs) ≡ if_next (λ t. true) refused (returns (record { span = record { begin = 0; end = (next_of ts (record { tokens = ts; last = last })).last }; items = xs })) (next_of ts (record { tokens = ts; last = last }))
    at [] last e = absurd (cc)
    at (t ∷ ts) last e = ap (λ b. after (on_taken (cond b (Some t) None) t ts (λ x. returns x) refused (record { tokens = t ∷ ts; last = last })) (closed xs)) e

-- no end of the text is next
pub no_end : {A : Type 0} (q : Filled → Parser A) (c : Input) → next_is is_end c.tokens ≡ false → after (take_as end_at c) q ≡ refused c
unfolding refused
no_end q c h = at c.tokens c.last h
  where
    at : (ts : List Filled) (last : ℕ) → next_is is_end ts ≡ false → after (take_as end_at (record { tokens = ts; last = last })) q ≡ refused (record { tokens = ts; last = last })
    at [] last e = refl
    at (t ∷ ts) last e = ap (λ b. after (on_taken (cond b (Some t) None) t ts (λ x. returns x) refused (record { tokens = t ∷ ts; last = last })) q) e

pub default_at : (i : Inner) (begin : ℕ) (q : Parser Item) (c d : Input) (span : Span) → TakesAs (place_of (next_word (codes "default"))) c (Some span) d → on (word (codes "default")) (λ t. export_default i begin t.span) q c ≡ export_default i begin span d
default_at i begin q c d span h = on_word_at (codes "default") (export_default i begin) q c d span h

pub default_missed : (i : Inner) (begin : ℕ) (q : Parser Item) (c d : Input) → TakesAs (place_of (next_word (codes "default"))) c None d → on (word (codes "default")) (λ t. export_default i begin t.span) q c ≡ q d
default_missed i begin q c d h = off_word_at (codes "default") (export_default i begin) q c d h

pub are_own_is : (names : List ExportName) → list_all (λ name. is_identifier name.local.name) names ≡ are_own names
are_own_is [] = refl
are_own_is (n ∷ ns) = ap (λ b. is_identifier n.local.name && b) (are_own_is ns)

pub export_names_is : (room begin : ℕ) (c : Input) → export_names (inner room) begin c ≡ after (group (inner room) marks.LeftBrace (exports turns) c) (λ ns. after_names (inner room) begin ns)
unfolding export_names after_names
export_names_is room begin c = ap (λ n. after (group (inner room) marks.LeftBrace (exports n) c) (λ ns. after_names (inner room) begin ns)) (fuel_turns room)
