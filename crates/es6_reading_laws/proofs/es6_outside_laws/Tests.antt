-- What tests tell of a token that tells of a construct outside the profile, and of those that are put in its place.
use Rattle.std.specs.Prelude.{codes, cond, is_some, ◌&&◌, ◌||◌, not, ◌⊎◌, pos}
use Rattle.std.specs.Str.{bytes_eq}
use Rattle.std.proofs.Common.{◌≡◌, inl, inr, ℕ, Bool, true, false, List, [], ◌∷◌, Option, Some, None, refl, sym, ap, subst}
use Rattle.std.proofs.lemmas.Bool.{false≢true}
use Rattle.es_text.specs.declared.Span.{Span}
use Rattle.es_outside.specs.HostNames.{reserved_words}
use Rattle.es6_lexer.specs.Punctuators.{spelling}
use Rattle.es6_lexer.specs.declared.token.TokenKind.{TokenKind}
use Rattle.es6_lexer.specs.declared.token.TokenKind.TheVariants.{Word, Punctuator, Number}
use Rattle.es6_lexer.specs.declared.token.NumberToken.TheVariants.{Whole, TooLarge, Marked}
use Rattle.es6_lexer.specs.declared.token.Punctuator.{Punctuator as Mark}
use Rattle.es6_lexer.specs.declared.token.Punctuator.TheVariants as marks
use Rattle.es6_ast.specs.declared.operators.BinaryOperator.{BinaryOperator}
use Rattle.es6_ast.specs.declared.settings.Flags.{Flags}
use Rattle.es6_ast.specs.declared.settings.Role.{Role}
use Rattle.es6_ast.specs.Settings.{is_leading}
use Rattle.es6_ast.specs.declared.settings.Stop.TheVariants.{Syntax}
use Rattle.es6_ast.specs.Tokens.{Filled}
use Rattle.es6_reading.specs.Parser.{kept_if, ends_block, Outcome, Fault, Parser, on, mark, word, next_mark, next_word, refused, take_as, ending}
use Rattle.es6_reading.specs.Words.{any_name, free_name, text_at, accessor_at, stretch_at, before_at, after_at, assign_at, assign_operators, binary_at, binary_operators, unless, is_arrow, arrow_at, kind_at, lexical_kind_at}
use Rattle.es6_reading.specs.Parts.{begins_class_tail}
use Rattle.es6_reading.specs.Expressions.{star_at, ends_yield, ends_name}
use Rattle.es6_reading.specs.Statements.{goes_on, begins_line, ends_case, begins_declaration}
use Rattle.es6_reading.specs.Modules.{begins_names, is_end, end_at}
use Rattle.es6_reading_laws.proofs.es6_outside_laws.Exchanged.{Exchange, for_in, slash, slash_assign, marked, too_large, with_, Place, at_kind, it, one_of, two_of, input, none, left, Over, Rel, here, gone, before, stuck, passed, KeepsIf, Keeps, stopped, next, next-by, done, Agree, takes, misses, Unseen, Alike}

abbrev pub place : {k one two : TokenKind} {r : ℕ} {s : Bool} → Exchange k one two r s → Span → Bool → Place
place {k = k} {one = one} {two = two} {r = r} {s = s} x span newline = record { kind = k; one = one; two = two; rule = r; strict = s; exchange = x; span = span; newline = newline }

pub each : (P : Place → Type 0) → ((s : Span) (n : Bool) → P (place for_in s n)) → ((s : Span) (n : Bool) → P (place slash s n)) → ((s : Span) (n : Bool) → P (place slash_assign s n)) → ((s : Span) (n : Bool) → P (place marked s n)) → ((s : Span) (n : Bool) → P (place too_large s n)) → ((s : Span) (n : Bool) → P (place with_ s n)) → (e : Place) → P e
each P a b c d f g e = by e.exchange
  where
    by : {k one two : TokenKind} {r : ℕ} {s : Bool} (x : Exchange k one two r s) → P (place x e.span e.newline)
    by for_in = a e.span e.newline
    by slash = b e.span e.newline
    by slash_assign = c e.span e.newline
    by marked = d e.span e.newline
    by too_large = f e.span e.newline
    by with_ = g e.span e.newline

-- a test that knows none of them
abbrev Misses : {B : Type 0} → (Filled → Option B) → TokenKind → Type 0
Misses test k = (s : Span) (n : Bool) → test (at_kind s n k) ≡ None

pub quiet : {e : Place} {B : Type 0} {test : Filled → Option B} → Misses test (Word (codes "in")) → Misses test (Word (codes "of")) → Misses test (Word (codes "from")) → Misses test (Word (codes "with")) → Misses test (Word (codes "debugger"))
    → Misses test (Punctuator marks.Slash) → Misses test (Punctuator marks.SlashAssign) → Misses test (Punctuator marks.Exclamation) → Misses test (Number Marked) → Misses test (Number TooLarge) → Misses test (Number (Whole (pos 0))) → Agree e test
quiet {e = e} {test = test} in_ of from with debugger slash_ assign exclamation marked_ large zero_ = each (λ e. Agree e test)
    (λ s n. misses (in_ s n) (of s n) (from s n)) (λ s n. misses (slash_ s n) (exclamation s n) (exclamation s n)) (λ s n. misses (assign s n) (exclamation s n) (exclamation s n))
    (λ s n. misses (marked_ s n) (zero_ s n) (zero_ s n)) (λ s n. misses (large s n) (zero_ s n) (zero_ s n)) (λ s n. misses (with s n) (debugger s n) (debugger s n)) e

abbrev Blind : (Filled → Bool) → TokenKind → Type 0
Blind test k = (s : Span) (n : Bool) → test (at_kind s n k) ≡ false

pub unseen : {e : Place} {test : Filled → Bool} → Blind test (Word (codes "in")) → Blind test (Word (codes "of")) → Blind test (Word (codes "from")) → Blind test (Word (codes "with")) → Blind test (Word (codes "debugger"))
    → Blind test (Punctuator marks.Slash) → Blind test (Punctuator marks.SlashAssign) → Blind test (Punctuator marks.Exclamation) → Blind test (Number Marked) → Blind test (Number TooLarge) → Blind test (Number (Whole (pos 0))) → Unseen e test
unseen {e = e} {test = test} in_ of from with debugger slash_ assign exclamation marked_ large zero_ = each (λ e. Unseen e test)
    (λ s n. record { its = in_ s n; ones = of s n; twos = from s n }) (λ s n. record { its = slash_ s n; ones = exclamation s n; twos = exclamation s n }) (λ s n. record { its = assign s n; ones = exclamation s n; twos = exclamation s n })
    (λ s n. record { its = marked_ s n; ones = zero_ s n; twos = zero_ s n }) (λ s n. record { its = large s n; ones = zero_ s n; twos = zero_ s n }) (λ s n. record { its = with s n; ones = debugger s n; twos = debugger s n }) e

-- ## Marks and words

abbrev pub other_mark : Mark → Bool
other_mark m = not (bytes_eq (spelling marks.Slash) (spelling m)) && not (bytes_eq (spelling marks.SlashAssign) (spelling m)) && not (bytes_eq (spelling marks.Exclamation) (spelling m))

abbrev pub other_word : List ℕ → Bool
other_word w = not (bytes_eq (codes "in") w) && not (bytes_eq (codes "of") w) && not (bytes_eq (codes "from") w) && not (bytes_eq (codes "with") w) && not (bytes_eq (codes "debugger") w)

not-false : (a : Bool) → not a ≡ true → a ≡ false
not-false true h = absurd (false≢true h)
not-false false h = refl

and-left : (a b : Bool) → (a && b) ≡ true → a ≡ true
and-left true b h = refl
and-left false b h = absurd (false≢true h)

and-right : (a b : Bool) → (a && b) ≡ true → b ≡ true
and-right true b h = h
and-right false b h = absurd (false≢true h)

three : (a b c : Bool) → (not a && not b && not c) ≡ true → (a ≡ false) × (b ≡ false) × (c ≡ false)
three true b c h = absurd (false≢true h)
three false true c h = absurd (false≢true h)
three false false true h = absurd (false≢true h)
three false false false h = (refl, refl, refl)

five : (a b c d f : Bool) → (not a && not b && not c && not d && not f) ≡ true → (a ≡ false) × (b ≡ false) × (c ≡ false) × (d ≡ false) × (f ≡ false)
five true b c d f h = absurd (false≢true h)
five false true c d f h = absurd (false≢true h)
five false false true d f h = absurd (false≢true h)
five false false false true f h = absurd (false≢true h)
five false false false false true h = absurd (false≢true h)
five false false false false false h = (refl, refl, refl, refl, refl)

pub u-mark : {e : Place} (m : Mark) → other_mark m ≡ true → Unseen e (next_mark m)
u-mark m h =
    let q = three (bytes_eq (spelling marks.Slash) (spelling m)) (bytes_eq (spelling marks.SlashAssign) (spelling m)) (bytes_eq (spelling marks.Exclamation) (spelling m)) h in
    unseen (λ s n. refl) (λ s n. refl) (λ s n. refl) (λ s n. refl) (λ s n. refl) (λ s n. q.0) (λ s n. q.1) (λ s n. q.2) (λ s n. refl) (λ s n. refl) (λ s n. refl)

pub u-word : {e : Place} (w : List ℕ) → other_word w ≡ true → Unseen e (next_word w)
u-word w h =
    let q = five (bytes_eq (codes "in") w) (bytes_eq (codes "of") w) (bytes_eq (codes "from") w) (bytes_eq (codes "with") w) (bytes_eq (codes "debugger") w) h in
    unseen (λ s n. q.0) (λ s n. q.1) (λ s n. q.2) (λ s n. q.3) (λ s n. q.4) (λ s n. refl) (λ s n. refl) (λ s n. refl) (λ s n. refl) (λ s n. refl) (λ s n. refl)

kept-none : (t : Filled) (b : Bool) → b ≡ false → kept_if b t ≡ None
kept-none t b h = ap (λ b. kept_if b t) h

pub a-mark : {e : Place} (m : Mark) → other_mark m ≡ true → Agree e (mark m)
a-mark {e = e} m h = let u = u-mark {e = e} m h in misses (kept-none _ _ u.its) (kept-none _ _ u.ones) (kept-none _ _ u.twos)

pub a-word : {e : Place} (w : List ℕ) → other_word w ≡ true → Agree e (word w)
a-word {e = e} w h = let u = u-word {e = e} w h in misses (kept-none _ _ u.its) (kept-none _ _ u.ones) (kept-none _ _ u.twos)

-- ## Other tests

pub a-any : {e : Place} → Agree e any_name
a-any {e = e} = each (λ e. Agree e any_name) (λ s n. takes refl) (λ s n. misses refl refl refl) (λ s n. misses refl refl refl) (λ s n. misses refl refl refl) (λ s n. misses refl refl refl) (λ s n. takes refl) e

pub a-text : {e : Place} → Agree e text_at
a-text = quiet (λ s n. refl) (λ s n. refl) (λ s n. refl) (λ s n. refl) (λ s n. refl) (λ s n. refl) (λ s n. refl) (λ s n. refl) (λ s n. refl) (λ s n. refl) (λ s n. refl)

pub u-text : {e : Place} → Unseen e (λ t. is_some (text_at t))
u-text = unseen (λ s n. refl) (λ s n. refl) (λ s n. refl) (λ s n. refl) (λ s n. refl) (λ s n. refl) (λ s n. refl) (λ s n. refl) (λ s n. refl) (λ s n. refl) (λ s n. refl)

pub a-accessor : {e : Place} → Agree e accessor_at
a-accessor = quiet (λ s n. refl) (λ s n. refl) (λ s n. refl) (λ s n. refl) (λ s n. refl) (λ s n. refl) (λ s n. refl) (λ s n. refl) (λ s n. refl) (λ s n. refl) (λ s n. refl)

pub a-stretch : {e : Place} (first last : Bool) → Agree e (stretch_at first last)
a-stretch first last = quiet (λ s n. refl) (λ s n. refl) (λ s n. refl) (λ s n. refl) (λ s n. refl) (λ s n. refl) (λ s n. refl) (λ s n. refl) (λ s n. refl) (λ s n. refl) (λ s n. refl)

pub u-stretch : {e : Place} (first last : Bool) → Unseen e (λ t. is_some (stretch_at first last t))
u-stretch first last = unseen (λ s n. refl) (λ s n. refl) (λ s n. refl) (λ s n. refl) (λ s n. refl) (λ s n. refl) (λ s n. refl) (λ s n. refl) (λ s n. refl) (λ s n. refl) (λ s n. refl)

pub a-before : {e : Place} → Agree e before_at
a-before = quiet (λ s n. refl) (λ s n. refl) (λ s n. refl) (λ s n. refl) (λ s n. refl) (λ s n. refl) (λ s n. refl) (λ s n. refl) (λ s n. refl) (λ s n. refl) (λ s n. refl)

unless-none : {A : Type 0} (b : Bool) → unless {A = A} b None ≡ None
unless-none true = refl
unless-none false = refl

pub a-after : {e : Place} → Agree e after_at
a-after = quiet (λ s n. unless-none n) (λ s n. unless-none n) (λ s n. unless-none n) (λ s n. unless-none n) (λ s n. unless-none n) (λ s n. unless-none n) (λ s n. unless-none n) (λ s n. unless-none n) (λ s n. unless-none n) (λ s n. unless-none n) (λ s n. unless-none n)

pub a-assign : {e : Place} → Agree e assign_at
unfolding assign_operators
a-assign {e = e} = each (λ e. Agree e assign_at) (λ s n. misses refl refl refl) (λ s n. misses refl refl refl) (λ s n. takes refl) (λ s n. misses refl refl refl) (λ s n. misses refl refl refl) (λ s n. misses refl refl refl) e

unless-agrees : {e : Place} {test : Filled → Option BinaryOperator} (b : Bool) (op : BinaryOperator) → test (it e) ≡ unless b (Some op) → test (one_of e) ≡ None → test (two_of e) ≡ None → Agree e test
unless-agrees true op h k m = misses h k m
unless-agrees false op h k m = takes h

pub a-binary : {e : Place} (f : Flags) (level : ℕ) → Agree e (binary_at f level)
unfolding binary_operators
a-binary {e = e} f level = each (λ e. Agree e (binary_at f level)) (λ s n. unless-agrees _ _ refl refl refl) (λ s n. unless-agrees _ _ refl refl refl) (λ s n. misses refl refl refl) (λ s n. misses refl refl refl) (λ s n. misses refl refl refl) (λ s n. misses refl refl refl) e

starless : (b : Bool) → ◌≡◌ {A = Option Filled} (cond b None None) None
starless true = refl
starless false = refl

pub a-star : {e : Place} → Agree e star_at
a-star = quiet (λ s n. starless n) (λ s n. starless n) (λ s n. starless n) (λ s n. starless n) (λ s n. starless n) (λ s n. starless n) (λ s n. starless n) (λ s n. starless n) (λ s n. starless n) (λ s n. starless n) (λ s n. starless n)

pub a-arrow : {e : Place} → Agree e arrow_at
a-arrow = quiet (λ s n. unless-none n) (λ s n. unless-none n) (λ s n. unless-none n) (λ s n. unless-none n) (λ s n. unless-none n) (λ s n. unless-none n) (λ s n. unless-none n) (λ s n. unless-none n) (λ s n. unless-none n) (λ s n. unless-none n) (λ s n. unless-none n)

pub u-arrow : {e : Place} → Unseen e is_arrow
u-arrow = unseen (λ s n. refl) (λ s n. refl) (λ s n. refl) (λ s n. refl) (λ s n. refl) (λ s n. refl) (λ s n. refl) (λ s n. refl) (λ s n. refl) (λ s n. refl) (λ s n. refl)

pub a-kind : {e : Place} → Agree e kind_at
a-kind = quiet (λ s n. refl) (λ s n. refl) (λ s n. refl) (λ s n. refl) (λ s n. refl) (λ s n. refl) (λ s n. refl) (λ s n. refl) (λ s n. refl) (λ s n. refl) (λ s n. refl)

pub a-lexical : {e : Place} → Agree e lexical_kind_at
a-lexical = quiet (λ s n. refl) (λ s n. refl) (λ s n. refl) (λ s n. refl) (λ s n. refl) (λ s n. refl) (λ s n. refl) (λ s n. refl) (λ s n. refl) (λ s n. refl) (λ s n. refl)

pub a-ending : {e : Place} (do_while : Bool) → Agree e (ending do_while)
a-ending do_while = quiet (λ s n. refl) (λ s n. refl) (λ s n. refl) (λ s n. refl) (λ s n. refl) (λ s n. refl) (λ s n. refl) (λ s n. refl) (λ s n. refl) (λ s n. refl) (λ s n. refl)

pub a-end : {e : Place} → Agree e end_at
a-end = quiet (λ s n. refl) (λ s n. refl) (λ s n. refl) (λ s n. refl) (λ s n. refl) (λ s n. refl) (λ s n. refl) (λ s n. refl) (λ s n. refl) (λ s n. refl) (λ s n. refl)

pub u-end : {e : Place} → Unseen e is_end
u-end = unseen (λ s n. refl) (λ s n. refl) (λ s n. refl) (λ s n. refl) (λ s n. refl) (λ s n. refl) (λ s n. refl) (λ s n. refl) (λ s n. refl) (λ s n. refl) (λ s n. refl)

pub u-class-tail : {e : Place} → Unseen e begins_class_tail
u-class-tail = unseen (λ s n. refl) (λ s n. refl) (λ s n. refl) (λ s n. refl) (λ s n. refl) (λ s n. refl) (λ s n. refl) (λ s n. refl) (λ s n. refl) (λ s n. refl) (λ s n. refl)

pub u-declaration : {e : Place} → Unseen e begins_declaration
u-declaration = unseen (λ s n. refl) (λ s n. refl) (λ s n. refl) (λ s n. refl) (λ s n. refl) (λ s n. refl) (λ s n. refl) (λ s n. refl) (λ s n. refl) (λ s n. refl) (λ s n. refl)

pub u-names : {e : Place} → Unseen e begins_names
u-names = unseen (λ s n. refl) (λ s n. refl) (λ s n. refl) (λ s n. refl) (λ s n. refl) (λ s n. refl) (λ s n. refl) (λ s n. refl) (λ s n. refl) (λ s n. refl) (λ s n. refl)

pub u-ends-name : {e : Place} → Unseen e ends_name
u-ends-name = unseen (λ s n. refl) (λ s n. refl) (λ s n. refl) (λ s n. refl) (λ s n. refl) (λ s n. refl) (λ s n. refl) (λ s n. refl) (λ s n. refl) (λ s n. refl) (λ s n. refl)

pub u-value-or-method : {e : Place} → Unseen e (λ t. next_mark marks.Colon t || next_mark marks.LeftParenthesis t)
u-value-or-method = unseen (λ s n. refl) (λ s n. refl) (λ s n. refl) (λ s n. refl) (λ s n. refl) (λ s n. refl) (λ s n. refl) (λ s n. refl) (λ s n. refl) (λ s n. refl) (λ s n. refl)

pub u-case : {e : Place} → Unseen e ends_case
u-case = unseen (λ s n. refl) (λ s n. refl) (λ s n. refl) (λ s n. refl) (λ s n. refl) (λ s n. refl) (λ s n. refl) (λ s n. refl) (λ s n. refl) (λ s n. refl) (λ s n. refl)

and-false : (b : Bool) → (b && false) ≡ false
and-false true = refl
and-false false = refl

pub u-dots : {e : Place} (role : Role) → Unseen e (λ t. is_leading role && next_mark marks.Ellipsis t)
u-dots role = unseen (λ s n. and-false _) (λ s n. and-false _) (λ s n. and-false _) (λ s n. and-false _) (λ s n. and-false _) (λ s n. and-false _) (λ s n. and-false _) (λ s n. and-false _) (λ s n. and-false _) (λ s n. and-false _) (λ s n. and-false _)

pub l-true : {e : Place} → Alike e (λ t. true)
l-true = record { ones = refl; twos = refl }

pub l-line : {e : Place} → Alike e begins_line
l-line = record { ones = refl; twos = refl }

pub l-goes-on : {e : Place} → Alike e goes_on
l-goes-on {e = e} = each (λ e. Alike e goes_on) (λ s n. record { ones = refl; twos = refl }) (λ s n. record { ones = refl; twos = refl }) (λ s n. record { ones = refl; twos = refl }) (λ s n. record { ones = refl; twos = refl }) (λ s n. record { ones = refl; twos = refl }) (λ s n. record { ones = refl; twos = refl }) e

pub l-yield : {e : Place} → Alike e (λ t. not (ends_yield t))
unfolding ends_yield
l-yield {e = e} = each (λ e. Alike e (λ t. not (ends_yield t))) (λ s n. record { ones = refl; twos = refl }) (λ s n. record { ones = refl; twos = refl }) (λ s n. record { ones = refl; twos = refl }) (λ s n. record { ones = refl; twos = refl }) (λ s n. record { ones = refl; twos = refl }) (λ s n. record { ones = refl; twos = refl }) e

pub l-insertable : {e : Place} → Alike e (λ t. t.newline || ends_block t.kind)
l-insertable {e = e} = each (λ e. Alike e (λ t. t.newline || ends_block t.kind)) (λ s n. record { ones = refl; twos = refl }) (λ s n. record { ones = refl; twos = refl }) (λ s n. record { ones = refl; twos = refl }) (λ s n. record { ones = refl; twos = refl }) (λ s n. record { ones = refl; twos = refl }) (λ s n. record { ones = refl; twos = refl }) e

-- ## Single tokens

pub nowhere : {e : Place} {A : Type 0} {C : Type 0} {W : A → Type 0} → KeepsIf e {A = A} C W refused (λ l. refused)
unfolding refused
nowhere {e = e} {A = A} {C = C} {W = W} = record {
  onward = record {
    more = λ ts us vs t m last. before m;
    there = λ c last. each (λ e. Rel e {A = A} W (λ l. refused (input (one_of e ∷ []) last)) (λ l. refused (input (two_of e ∷ []) last)) (refused (input (it e ∷ []) last)))
        (λ s n. here (stuck (λ k. absurd (cc)) (λ l. (Syntax, refl, tt)))) (λ s n. here (stuck (λ k. absurd (cc)) (λ l. (Syntax, refl, tt)))) (λ s n. here (stuck (λ k. absurd (cc)) (λ l. (Syntax, refl, tt))))
        (λ s n. here (stuck (λ k. absurd (cc)) (λ l. (Syntax, refl, tt)))) (λ s n. here (stuck (λ k. absurd (cc)) (λ l. (Syntax, refl, tt)))) (λ s n. here (stuck (λ k. absurd (cc)) (λ l. (Syntax, refl, tt)))) e;
    first = λ last. refl;
  };
  second = λ l last. stopped;
}

pub take : {e : Place} {B : Type 0} {test : Filled → Option B} → Agree e test → Keeps e (take_as test) (λ l. take_as test)
take a = next a (λ x. done (λ ts us last. refl)) nowhere

-- where no `in` may stand
abbrev pub Fated : {A : Type 0} → Parser A → Type 0
Fated q = (s : Span) (n : Bool) (last : ℕ) → (left (q (input (at_kind s n (Word (codes "in")) ∷ []) last)) ≡ []) ⊎ (q (input (at_kind s n (Word (codes "in")) ∷ []) last) ≡ Fault Syntax (at_kind s n (Word (codes "in")) ∷ []))

-- a name that isn't reserved
pub free : {e : Place} {A : Type 0} {C : Type 0} {W : A → Type 0} {p : List ℕ → Parser A} {p' : ℕ → List ℕ → Parser A} {q : Parser A} {q' : ℕ → Parser A} → ((x : List ℕ) → KeepsIf e (Unit {0}) W (p x) (λ l. p' l x)) → KeepsIf e C W q q' → Fated q → KeepsIf e C W (on free_name p q) (λ l. on free_name (p' l) (q' l))
unfolding reserved_words
free {e = e} {A = A} {C = C} {W = W} {p = p} {p' = p'} {q = q} {q' = q'} f g fate = next-by free_name (λ x. (f x).onward) g (λ c last. each (λ e. Made e last) (λ s n. by-in s n last) (λ s n k m. m) (λ s n k m. m) (λ s n k m. m) (λ s n k m. m) (λ s n k m. m) e (λ x. (f x).second) (g.onward.there c last))
  where
    Made : Place → ℕ → Type 0
    Made e last = ((x : List ℕ) (l m : ℕ) → Over W (p' l x (none m))) → Rel e W (λ l. q' l (input (one_of e ∷ []) last)) (λ l. q' l (input (two_of e ∷ []) last)) (q (input (it e ∷ []) last))
        → Rel e W (λ l. on free_name (p' l) (q' l) (input (one_of e ∷ []) last)) (λ l. on free_name (p' l) (q' l) (input (two_of e ∷ []) last)) (on free_name p q (input (it e ∷ []) last))

    by-fate : (s : Span) (n : Bool) (last : ℕ) (o : Outcome A) → (left o ≡ []) ⊎ (o ≡ Fault Syntax (at_kind s n (Word (codes "in")) ∷ [])) → ((x : List ℕ) (l m : ℕ) → Over W (p' l x (none m))) → Rel (place for_in s n) W (λ l. p' l (codes "of") (none s.end)) (λ l. p' l (codes "from") (none s.end)) o
    by-fate s n last o (inl h) k = gone h
    by-fate s n last o (inr h) k = subst (λ o. Rel (place for_in s n) W (λ l. p' l (codes "of") (none s.end)) (λ l. p' l (codes "from") (none s.end)) o) (sym h) (here (passed (λ k. absurd (cc)) refl (0, λ l m. inl (k (codes "from") l s.end))))

    by-in : (s : Span) (n : Bool) (last : ℕ) → Made (place for_in s n) last
    by-in s n last k m = by-fate s n last (q (input (at_kind s n (Word (codes "in")) ∷ []) last)) (fate s n last) k
