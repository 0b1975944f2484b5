-- One turn of the list of an array literal's elements (ECMA-262, 6th edition, 12.2.5).
use Rattle.std.proofs.Common.{◌≡◌, true, false, ℕ, ◌+◌, ◌-◌, ◌<◌, List, [], ◌∷◌, ◌++◌, refl, sym, ap, ◌∙◌, append_assoc, append-nil}
use Rattle.es6_lexer.specs.declared.token.Punctuator.TheVariants as marks
use Rattle.es6_ast.specs.declared.tree.Argument.{Argument}
use Rattle.es6_ast.specs.declared.tree.Element.{Element}
use Rattle.es6_ast.specs.declared.tree.Element.TheVariants.{Hole, Present}
use Rattle.es6_ast.specs.declared.settings.Flags.{Flags}
use Rattle.es6_ast.specs.declared.settings.Stop.{Stop}
use Rattle.es6_ast.specs.declared.settings.Stop.TheVariants.{Endless}
use Rattle.es6_ast.specs.Tokens.{Filled}
use Rattle.es6_reading.specs.Parser.{Input, Inner, Outcome, Took, Fault, after, returns, on, take_as, mark, next_mark}
use Rattle.es6_reading.specs.Expressions.{Listing, with_element, argument, elements}
use Rattle.es6_cursor.specs.Readers.{turns}
use Rattle.es6_cursor.specs.Takes.{Takes}
use Rattle.es6_cursor.proofs.Choices.{on_mark, off_mark}
use Rattle.es6_cursor.proofs.Loops.{turn, then}
use Rattle.es6_read_primaries.specs.Lists.{before_listing}
use Rattle.es6_read_primaries.proofs.Follows.{halts}

elements_turn : (i : Inner) (f : Flags) (n : ℕ) (c : Input) → n < turns → elements i f (turns - n) c
    ≡ on (mark marks.RightBracket) (λ _. returns (record { elements = []; ends_in_comma = false })) (on (mark marks.Comma) (λ _ d. after (elements i f (turns - (n + 1)) d) (λ l. returns (with_element Hole l)))
    (λ d. after (argument i f d) (λ a. on (mark marks.Comma) (λ _. on (mark marks.RightBracket) (λ _. returns (record { elements = Present a ∷ []; ends_in_comma = true })) (λ e. after (elements i f (turns - (n + 1)) e) (λ l. returns (with_element (Present a) l))))
    (λ e. after (take_as (mark marks.RightBracket) e) (λ _. returns (record { elements = Present a ∷ []; ends_in_comma = false })))))) c
unfolding elements
elements_turn i f n c h = ap (λ m. elements i f m c) (turn n h)

pub all_listed : (o : Outcome Listing) → before_listing [] o ≡ o
all_listed (Took l c) = refl
all_listed (Fault stop ts) = refl

one_listed : (front : List Element) (e : Element) (o : Outcome Listing) → before_listing front (after o (λ l. returns (with_element e l))) ≡ before_listing (front ++ e ∷ []) o
one_listed front e (Took l c) = ap (λ es. Took (record { elements = es; ends_in_comma = l.ends_in_comma }) c) (sym (append_assoc front (e ∷ []) l.elements))
one_listed front e (Fault stop ts) = refl

pub elements_begin : (i : Inner) (f : Flags) (n : ℕ) (c : Input) → elements i f n c ≡ before_listing [] (elements i f n c)
elements_begin i f n c = sym (all_listed (elements i f n c))

module _ (i : Inner) (f : Flags) (n : ℕ) (front : List Element) where
  pub elements_end : (c d : Input) → n < turns → Takes (next_mark marks.RightBracket) c true d
      → before_listing front (elements i f (turns - n) c) ≡ Took (record { elements = front; ends_in_comma = false }) d
  elements_end c d lt taken =
      ap (before_listing front) (elements_turn i f n c lt ∙ on_mark marks.RightBracket _ _ c d taken)
      ∙ ap (λ es. Took (record { elements = es; ends_in_comma = false }) d) (append-nil front)

  pub elements_hole : (c d e : Input) → n < turns → Takes (next_mark marks.RightBracket) c false d → Takes (next_mark marks.Comma) d true e
      → before_listing front (elements i f (turns - n) c) ≡ before_listing (front ++ Hole ∷ []) (elements i f (turns - (n + 1)) e)
  elements_hole c d e lt none comma =
      ap (before_listing front) (elements_turn i f n c lt ∙ off_mark marks.RightBracket _ _ c d none ∙ on_mark marks.Comma _ _ d e comma)
      ∙ one_listed front Hole (elements i f (turns - (n + 1)) e)

  pub elements_fault : (c d e : Input) (stop : Stop) (ts : List Filled) → n < turns → Takes (next_mark marks.RightBracket) c false d → Takes (next_mark marks.Comma) d false e → argument i f e ≡ Fault stop ts
      → before_listing front (elements i f (turns - n) c) ≡ Fault stop ts
  elements_fault c d e stop ts lt none hole read = ap (before_listing front) (elements_turn i f n c lt ∙ off_mark marks.RightBracket _ _ c d none ∙ off_mark marks.Comma _ _ d e hole ∙ halts _ read)

  -- after an element
  module _ (a : Argument) (c d e g h : Input) (lt : n < turns) (none : Takes (next_mark marks.RightBracket) c false d) (hole : Takes (next_mark marks.Comma) d false e) (read : argument i f e ≡ Took a g) where
    pub elements_more : (k : Input) → Takes (next_mark marks.Comma) g true h → Takes (next_mark marks.RightBracket) h false k
        → before_listing front (elements i f (turns - n) c) ≡ before_listing (front ++ Present a ∷ []) (elements i f (turns - (n + 1)) k)
    elements_more k comma open_ =
        ap (before_listing front) (elements_turn i f n c lt ∙ off_mark marks.RightBracket _ _ c d none ∙ off_mark marks.Comma _ _ d e hole ∙ then _ read ∙ on_mark marks.Comma _ _ g h comma ∙ off_mark marks.RightBracket _ _ h k open_)
        ∙ one_listed front (Present a) (elements i f (turns - (n + 1)) k)

    pub elements_comma : (k : Input) → Takes (next_mark marks.Comma) g true h → Takes (next_mark marks.RightBracket) h true k
        → before_listing front (elements i f (turns - n) c) ≡ Took (record { elements = front ++ Present a ∷ []; ends_in_comma = true }) k
    elements_comma k comma close = ap (before_listing front) (elements_turn i f n c lt ∙ off_mark marks.RightBracket _ _ c d none ∙ off_mark marks.Comma _ _ d e hole ∙ then _ read ∙ on_mark marks.Comma _ _ g h comma ∙ on_mark marks.RightBracket _ _ h k close)

    pub elements_last : (k : Input) (t : Filled) → Takes (next_mark marks.Comma) g false h → take_as (mark marks.RightBracket) h ≡ Took t k
        → before_listing front (elements i f (turns - n) c) ≡ Took (record { elements = front ++ Present a ∷ []; ends_in_comma = false }) k
    elements_last k t comma close = ap (before_listing front) (elements_turn i f n c lt ∙ off_mark marks.RightBracket _ _ c d none ∙ off_mark marks.Comma _ _ d e hole ∙ then _ read ∙ off_mark marks.Comma _ _ g h comma ∙ then _ close)

    pub elements_open : (stop : Stop) (ts : List Filled) → Takes (next_mark marks.Comma) g false h → take_as (mark marks.RightBracket) h ≡ Fault stop ts
        → before_listing front (elements i f (turns - n) c) ≡ Fault stop ts
    elements_open stop ts comma close = ap (before_listing front) (elements_turn i f n c lt ∙ off_mark marks.RightBracket _ _ c d none ∙ off_mark marks.Comma _ _ d e hole ∙ then _ read ∙ off_mark marks.Comma _ _ g h comma ∙ halts _ close)

  pub elements_endless : (c : Input) → turns - n ≡ 0 → before_listing front (elements i f (turns - n) c) ≡ Fault Endless c.tokens
  unfolding elements
  elements_endless c h = ap (λ m. before_listing front (elements i f m c)) h

-- what the reader's proof goes by
pub ruleset elements_turns = (all_listed, elements_end, elements_hole, elements_fault, elements_more, elements_comma, elements_last, elements_open, elements_endless)
