-- What the parser makes of words is what they say.
use Rattle.std.proofs.Common.{◌≡◌, ◌∙◌, ℕ, ◌&&◌, ◌||◌, Bool, true, false, refl, sym, ap, ap₂, subst, List, [], ◌∷◌, ◌++◌, Option, Some, None, codes, cond, append_assoc, append-nil, inl, inr}
use Rattle.std.proofs.lemmas.Bool.{cases_Bool}
use Rattle.std.specs.Prelude.{slice_get, ⊤}
use Rattle.std.specs.List.{fold}
use Rattle.std.specs.Option.{is_some, option_map, option_map_or}
use Rattle.std.specs.Str.{bytes_eq, chars, IsUtf8}
use Rattle.clap.specs.Walk.{Held, Row, Rule, Text, Waiting, Walk, idle, positional, option, walked, nothing_held, settled, settled_rows, finished, has_row, rows_of, walk}
use Rattle.clap.specs.Kinds.{Kinds, or_else}
use Rattle.clap.specs.Simple.{Shape, built, entered, matches_of}
use Rattle.clap.specs.Matches.{found_of}
use Rattle.clap.specs.Lexer.{long_of, short_of}
use Rattle.clap.specs.Faults.{walk_fault, turn_fault, settle_fault, fault_of, flags_fault, defaults_fault, entered_fault, level_fault}
use Rattle.clap.specs.declared.parser.matches.ArgMatches.{ArgMatches}
use Rattle.clap.specs.declared.parser.matches.ValueSource.TheVariants.{CommandLine}
use Rattle.command_words.specs.Said.{Parts, said, with_plain, with_steps}
use Rattle.command_words.specs.Grammar.{grammar, parts_found, values_or_none, IsMatched}
use Rattle.command_words.proofs.Rows.{values, values-more, values-other, values-found}
use Rattle.command_words.proofs.Views.{View, dashes, steps, long, short, plain, view, first_char}

-- the command as the parser builds it, and its arguments
abbrev top : Shape
top = (built grammar).top

abbrev rules : List Rule
rules = top.rules

abbrev Pending : Type 0
Pending = Option (Text × List Text)

abbrev held : Pending → List Row → Held
held pending rows = record { rows = rows; pending = pending; skip = 0 }

abbrev walk_at : Bool → Waiting → Pending → List Row → Walk
walk_at trailing waiting pending rows = record { held = held pending rows; waiting = waiting; position = 1; is_trailing = trailing; stopped = None }

-- where no option waits
abbrev spot : Bool → Waiting
spot true = positional
spot false = idle

-- `--steps` waits for its text
abbrev steps_pending : Pending
steps_pending = Some (codes "steps", [])

abbrev faults : Walk → List Text → Kinds
faults w words = or_else (walk_fault top [] w words) (settle_fault rules false (fold (walked rules []) w words).held)

abbrev ends : Walk → List Text → List Row
ends w words = (settled rules (fold (walked rules []) w words).held).rows

-- The walk ends as what is said asks, behind what was said before.
abbrev Ends : Option Parts → List Text → List Text → Kinds → List Row → Type 0
Ends None before given kinds rows = kinds ≡ [] → ⊥
Ends (Some p) before given kinds rows = (kinds ≡ []) × ((values (codes "word") rows ≡ before ++ p.plain) × (values (codes "steps") rows ≡ given ++ p.steps))

abbrev EndsAt : Option Parts → List Text → List Text → Walk → List Text → Type 0
EndsAt said before given w words = Ends said before given (faults w words) (ends w words)

-- What is pending is used without a fault, and this was said before.
record Calm (pending : Pending) (rows : List Row) (before given : List Text) : Type 0 where
  settles : settle_fault rules false (held pending rows) ≡ []
  plains : values (codes "word") (settled_rows rules pending rows) ≡ before
  texts : values (codes "steps") (settled_rows rules pending rows) ≡ given

or_else-first : (a b : Kinds) → or_else a b ≡ [] → a ≡ []
or_else-first [] b e = refl
or_else-first (k ∷ ks) b e = e

or_else-nil : (a : Kinds) → or_else a [] ≡ a
or_else-nil [] = refl
or_else-nil (k ∷ ks) = refl

and-false : (a : Bool) → (a && false) ≡ false
and-false true = refl
and-false false = refl

or-true : (a : Bool) → (a || true) ≡ true
or-true true = refl
or-true false = refl

goes : (said : Option Parts) (before given : List Text) (w next : Walk) (x : Text) (words : List Text)
    → turn_fault top [] w x ≡ [] → walked rules [] w x ≡ next → EndsAt said before given next words → EndsAt said before given w (x ∷ words)
unfolding walk_fault
goes said before given w next x words none is e =
    let P : Walk → Type 0 = λ v. EndsAt said before given v words in
    let Q : Kinds → Type 0 = λ k. Ends said before given (or_else (or_else k (walk_fault top [] (walked rules [] w x) words)) (settle_fault rules false (fold (walked rules []) w (x ∷ words)).held)) (ends w (x ∷ words)) in
    subst Q (sym none) (subst P (sym is) e)

stops : (before given : List Text) (w : Walk) (x : Text) (words : List Text) → (turn_fault top [] w x ≡ [] → ⊥) → EndsAt None before given w (x ∷ words)
unfolding walk_fault
stops before given w x words some e = some (or_else-first _ _ (or_else-first _ _ e))

-- ---- a plain word

plain_turn : (b : Bool) (pending : Pending) (rows : List Row) (x : Text) → bytes_eq x (codes "--") ≡ false → long_of x ≡ None → short_of x ≡ None
    → turn_fault top [] (walk_at false (spot b) pending rows) x ≡ settle_fault rules false (held pending rows)
plain_turn true pending rows x f l s = rw f (rw l (rw s (rw (and-false (option_map_or (λ q. bytes_eq q.0 (codes "word")) pending false)) refl)))
plain_turn false pending rows x f l s = rw f (rw l (rw s (rw (and-false (option_map_or (λ q. bytes_eq q.0 (codes "word")) pending false)) refl)))

plain_next : (b : Bool) (pending : Pending) (rows : List Row) (x : Text) → bytes_eq x (codes "--") ≡ false → long_of x ≡ None → short_of x ≡ None
    → walked rules [] (walk_at false (spot b) pending rows) x ≡ walk_at false positional (Some (codes "word", x ∷ [])) (settled_rows rules pending rows)
unfolding walked
plain_next true pending rows x f l s = rw f (rw l (rw s (rw (and-false (option_map_or (λ q. bytes_eq q.0 (codes "word")) pending false)) refl)))
plain_next false pending rows x f l s = rw f (rw l (rw s (rw (and-false (option_map_or (λ q. bytes_eq q.0 (codes "word")) pending false)) refl)))

trailing_turn : (waiting : Waiting) (pending : Pending) (rows : List Row) (x : Text) → turn_fault top [] (walk_at true waiting pending rows) x ≡ settle_fault rules false (held pending rows)
trailing_turn waiting pending rows x = rw (and-false (option_map_or (λ q. bytes_eq q.0 (codes "word")) pending false)) refl

trailing_next : (waiting : Waiting) (pending : Pending) (rows : List Row) (x : Text)
    → walked rules [] (walk_at true waiting pending rows) x ≡ walk_at true positional (Some (codes "word", x ∷ [])) (settled_rows rules pending rows)
unfolding walked
trailing_next waiting pending rows x = rw (and-false (option_map_or (λ q. bytes_eq q.0 (codes "word")) pending false)) refl

-- one more plain word is said
calm_word : (rows : List Row) (x : Text) (before given : List Text) → values (codes "word") rows ≡ before → values (codes "steps") rows ≡ given → Calm (Some (codes "word", x ∷ [])) rows (before ++ x ∷ []) given
calm_word rows x before given p s = record {
  settles = refl;
  plains = values-more (codes "word") _ CommandLine (x ∷ []) rows refl ∙ ap (λ v. v ++ x ∷ []) p;
  texts = values-other (codes "word") (codes "steps") _ CommandLine (x ∷ []) rows refl ∙ s;
}

-- and one more text of `--steps`, which is still pending or not
calm_text : (rows : List Row) (x : Text) (before given : List Text) → values (codes "word") rows ≡ before → values (codes "steps") rows ≡ given → Calm (Some (codes "steps", x ∷ [])) rows before (given ++ x ∷ [])
calm_text rows x before given p s = record {
  settles = refl;
  plains = values-other (codes "steps") (codes "word") _ CommandLine (x ∷ []) rows refl ∙ p;
  texts = values-more (codes "steps") _ CommandLine (x ∷ []) rows refl ∙ ap (λ v. v ++ x ∷ []) s;
}

said_plain : (s : Option Parts) (x : Text) (before given : List Text) (w : Walk) (words : List Text) → EndsAt s (before ++ x ∷ []) given w words → EndsAt (option_map (with_plain x) s) before given w words
said_plain None x before given w words e = e
said_plain (Some p) x before given w words e = (e.0, (e.1.0 ∙ append_assoc before (x ∷ []) p.plain, e.1.1))

said_text : (s : Option Parts) (x : Text) (before given : List Text) (w : Walk) (words : List Text) → EndsAt s before (given ++ x ∷ []) w words → EndsAt (option_map (with_steps x) s) before given w words
said_text None x before given w words e = e
said_text (Some p) x before given w words e = (e.0, (e.1.0, e.1.1 ∙ append_assoc given (x ∷ []) p.steps))

-- ---- behind `--`

abbrev all_plain : List Text → Option Parts
all_plain words = Some (record { plain = words; steps = [] })

trailing_walk : (words : List Text) (waiting : Waiting) (pending : Pending) (rows : List Row) (before given : List Text) → Calm pending rows before given → EndsAt (all_plain words) before given (walk_at true waiting pending rows) words
unfolding walk_fault
trailing_walk [] waiting pending rows before given c = (c.settles, (c.plains ∙ sym (append-nil before), c.texts ∙ sym (append-nil given)))
trailing_walk (x ∷ words) waiting pending rows before given c =
    said_plain (all_plain words) x before given (walk_at true waiting pending rows) (x ∷ words)
    (goes (all_plain words) (before ++ x ∷ []) given _ _ x words (trailing_turn waiting pending rows x ∙ c.settles) (trailing_next waiting pending rows x)
    (trailing_walk words positional _ _ (before ++ x ∷ []) given (calm_word (settled_rows rules pending rows) x before given c.plains c.texts)))

-- where `--steps` waits for a text
broken_walk : (words : List Text) (waiting : Waiting) (rows : List Row) (before given : List Text) → EndsAt None before given (walk_at true waiting steps_pending rows) words
unfolding walk_fault
broken_walk [] waiting rows before given e = absurd (cc)
broken_walk (x ∷ words) waiting rows before given e = stops before given (walk_at true waiting steps_pending rows) x words (λ k. let same = trailing_turn waiting steps_pending rows x in absurd (cc)) e

-- ---- where no option waits

dashes_turn : (b : Bool) (pending : Pending) (rows : List Row) (x : Text) → bytes_eq x (codes "--") ≡ true → turn_fault top [] (walk_at false (spot b) pending rows) x ≡ []
dashes_turn true pending rows x t = rw t refl
dashes_turn false pending rows x t = rw t refl

dashes_next : (b : Bool) (pending : Pending) (rows : List Row) (x : Text) → bytes_eq x (codes "--") ≡ true → walked rules [] (walk_at false (spot b) pending rows) x ≡ walk_at true (spot b) pending rows
unfolding walked
dashes_next true pending rows x t = rw t refl
dashes_next false pending rows x t = rw t refl

text_turn : (b : Bool) (pending : Pending) (rows : List Row) (x name text : Text) → bytes_eq x (codes "--") ≡ false → long_of x ≡ Some (name, Some text) → bytes_eq (codes "steps") name ≡ true
    → settle_fault rules false (held pending rows) ≡ [] → turn_fault top [] (walk_at false (spot b) pending rows) x ≡ []
text_turn true pending rows x name text f l n c = rw f (rw l (rw n (rw c refl)))
text_turn false pending rows x name text f l n c = rw f (rw l (rw n (rw c refl)))

text_next : (b : Bool) (pending : Pending) (rows : List Row) (x name text : Text) → bytes_eq x (codes "--") ≡ false → long_of x ≡ Some (name, Some text) → bytes_eq (codes "steps") name ≡ true
    → walked rules [] (walk_at false (spot b) pending rows) x ≡ walk_at false idle None (settled_rows rules (Some (codes "steps", text ∷ [])) (settled_rows rules pending rows))
unfolding walked
text_next true pending rows x name text f l n = rw f (rw l (rw n refl))
text_next false pending rows x name text f l n = rw f (rw l (rw n refl))

steps_turn : (b : Bool) (pending : Pending) (rows : List Row) (x name : Text) → bytes_eq x (codes "--") ≡ false → long_of x ≡ Some (name, None) → bytes_eq (codes "steps") name ≡ true
    → turn_fault top [] (walk_at false (spot b) pending rows) x ≡ or_else (settle_fault rules false (held pending rows)) []
steps_turn true pending rows x name f l n = rw f (rw l (rw n refl))
steps_turn false pending rows x name f l n = rw f (rw l (rw n refl))

steps_next : (b : Bool) (pending : Pending) (rows : List Row) (x name : Text) → bytes_eq x (codes "--") ≡ false → long_of x ≡ Some (name, None) → bytes_eq (codes "steps") name ≡ true
    → walked rules [] (walk_at false (spot b) pending rows) x ≡ walk_at false (option (codes "steps")) steps_pending (settled_rows rules pending rows)
unfolding walked
steps_next true pending rows x name f l n = rw f (rw l (rw n refl))
steps_next false pending rows x name f l n = rw f (rw l (rw n refl))

-- a name that is no argument's, where no option waits, or one does
long_turn : (b : Bool) (pending : Pending) (rows : List Row) (x name : Text) (text : Option Text) → bytes_eq x (codes "--") ≡ false → long_of x ≡ Some (name, text) → bytes_eq (codes "steps") name ≡ false
    → turn_fault top [] (walk_at false (spot b) pending rows) x ≡ [] → ⊥
long_turn true pending rows x name text f l n = rw f (rw l (rw n (λ e. absurd (cc))))
long_turn false pending rows x name text f l n = rw f (rw l (rw n (λ e. absurd (cc))))

short_turn : (b : Bool) (pending : Pending) (rows : List Row) (x : Text) (f : ℕ) (fs : List ℕ) (ch : ℕ) → bytes_eq x (codes "--") ≡ false → long_of x ≡ None → short_of x ≡ Some (f ∷ fs) → slice_get (chars (f ∷ fs)) 0 ≡ Some ch
    → turn_fault top [] (walk_at false (spot b) pending rows) x ≡ [] → ⊥
unfolding flags_fault
short_turn true pending rows x f fs ch apart l s c = rw apart (rw l (rw s (rw c (λ e. absurd (cc)))))
short_turn false pending rows x f fs ch apart l s c = rw apart (rw l (rw s (rw c (λ e. absurd (cc)))))

-- ---- where `--steps` waits for its text

abbrev wanting : List Row → Walk
wanting rows = walk_at false (option (codes "steps")) steps_pending rows

wanted_dashes : (rows : List Row) (x : Text) → bytes_eq x (codes "--") ≡ true → turn_fault top [] (wanting rows) x ≡ []
wanted_dashes rows x t = rw t refl

wanted_dashes_next : (rows : List Row) (x : Text) → bytes_eq x (codes "--") ≡ true → walked rules [] (wanting rows) x ≡ walk_at true (option (codes "steps")) steps_pending rows
unfolding walked
wanted_dashes_next rows x t = rw t refl

wanted_name : (rows : List Row) (x name : Text) (text : Option Text) → bytes_eq x (codes "--") ≡ false → long_of x ≡ Some (name, text) → turn_fault top [] (wanting rows) x ≡ [] → ⊥
wanted_name rows x name (Some t) f l = elim (cases_Bool (bytes_eq (codes "steps") name)) [
  | inl n ↦ rw f (rw l (rw n (λ e. absurd (cc))))
  | inr n ↦ rw f (rw l (rw n (λ e. absurd (cc))))
]
wanted_name rows x name None f l = elim (cases_Bool (bytes_eq (codes "steps") name)) [
  | inl n ↦ rw f (rw l (rw n (λ e. absurd (cc))))
  | inr n ↦ rw f (rw l (rw n (λ e. absurd (cc))))
]

wanted_short : (rows : List Row) (x : Text) (f : ℕ) (fs : List ℕ) (ch : ℕ) → bytes_eq x (codes "--") ≡ false → long_of x ≡ None → short_of x ≡ Some (f ∷ fs) → slice_get (chars (f ∷ fs)) 0 ≡ Some ch
    → turn_fault top [] (wanting rows) x ≡ [] → ⊥
unfolding flags_fault
wanted_short rows x f fs ch apart l s c = rw apart (rw l (rw s (rw c (λ e. absurd (cc)))))

wanted_plain : (rows : List Row) (x : Text) → bytes_eq x (codes "--") ≡ false → long_of x ≡ None → short_of x ≡ None → turn_fault top [] (wanting rows) x ≡ []
wanted_plain rows x f l s = rw f (rw l (rw s refl))

wanted_plain_next : (rows : List Row) (x : Text) → bytes_eq x (codes "--") ≡ false → long_of x ≡ None → short_of x ≡ None → walked rules [] (wanting rows) x ≡ walk_at false idle (Some (codes "steps", x ∷ [])) rows
unfolding walked
wanted_plain_next rows x f l s = rw f (rw l (rw s refl))

-- ---- words as they are said

abbrev pub AllTexts : List Text → Type 0
AllTexts [] = ⊤
AllTexts (x ∷ xs) = IsUtf8 x × AllTexts xs

-- what is said from here on, where no option waits, and where one does
record IsWalked (words : List Text) : Type 0 where
  calm : (b : Bool) (pending : Pending) (rows : List Row) (before given : List Text) → Calm pending rows before given → EndsAt (said false words) before given (walk_at false (spot b) pending rows) words
  wants : (rows : List Row) (before given : List Text) → values (codes "word") rows ≡ before → values (codes "steps") rows ≡ given → EndsAt (said true words) before given (wanting rows) words

calm_step : (x : Text) (words : List Text) → IsUtf8 x → IsWalked words → View x → (b : Bool) (pending : Pending) (rows : List Row) (before given : List Text) → Calm pending rows before given → EndsAt (said false (x ∷ words)) before given (walk_at false (spot b) pending rows) (x ∷ words)
calm_step x words u more (dashes t o) b pending rows before given c =
    let e = goes (all_plain words) before given (walk_at false (spot b) pending rows) _ x words (dashes_turn b pending rows x t) (dashes_next b pending rows x t) (trailing_walk words (spot b) pending rows before given c) in
    rw t e
calm_step x words u more (steps name (Some text) f o s l n) b pending rows before given c =
    let w = walk_at false (spot b) pending rows in
    let used = settled_rows rules pending rows in
    let next = calm_text used text before given c.plains c.texts in
    let e = goes (said false words) before (given ++ text ∷ []) w _ x words (text_turn b pending rows x name text f l n c.settles) (text_next b pending rows x name text f l n)
    (more.calm false None (settled_rows rules (Some (codes "steps", text ∷ [])) used) before (given ++ text ∷ []) (record { settles = refl; plains = next.plains; texts = next.texts })) in
    rw f (rw s (said_text (said false words) text before given w (x ∷ words) e))
calm_step x words u more (steps name None f o s l n) b pending rows before given c =
    let w = walk_at false (spot b) pending rows in
    let e = goes (said true words) before given w _ x words (steps_turn b pending rows x name f l n ∙ or_else-nil _ ∙ c.settles) (steps_next b pending rows x name f l n) (more.wants (settled_rows rules pending rows) before given c.plains c.texts) in
    rw f (rw s e)
calm_step x words u more (long name text f o s l n) b pending rows before given c =
    let e = stops before given (walk_at false (spot b) pending rows) x words (long_turn b pending rows x name text f l n) in
    rw f (rw s (rw o e))
calm_step x words u more (short g gs is f o s l h) b pending rows before given c =
    let P : Text → Type 0 = λ z. IsUtf8 z in
    let ch = first_char g gs (subst P is u) in
    let e = stops before given (walk_at false (spot b) pending rows) x words (short_turn b pending rows x g gs ch.0 f l h ch.1) in
    rw f (rw s (rw o e))
calm_step x words u more (plain f o s l h) b pending rows before given c =
    let w = walk_at false (spot b) pending rows in
    let used = settled_rows rules pending rows in
    let e = goes (said false words) (before ++ x ∷ []) given w _ x words (plain_turn b pending rows x f l h ∙ c.settles) (plain_next b pending rows x f l h)
    (more.calm true (Some (codes "word", x ∷ [])) used (before ++ x ∷ []) given (calm_word used x before given c.plains c.texts)) in
    rw f (rw s (rw o (said_plain (said false words) x before given w (x ∷ words) e)))

wants_step : (x : Text) (words : List Text) → IsUtf8 x → IsWalked words → View x → (rows : List Row) (before given : List Text) → values (codes "word") rows ≡ before → values (codes "steps") rows ≡ given → EndsAt (said true (x ∷ words)) before given (wanting rows) (x ∷ words)
wants_step x words u more (dashes t o) rows before given p q =
    let e = goes None before given (wanting rows) _ x words (wanted_dashes rows x t) (wanted_dashes_next rows x t) (broken_walk words (option (codes "steps")) rows before given) in
    rw o e
wants_step x words u more (steps name text f o s l n) rows before given p q = let e = stops before given (wanting rows) x words (wanted_name rows x name text f l) in rw o e
wants_step x words u more (long name text f o s l n) rows before given p q = let e = stops before given (wanting rows) x words (wanted_name rows x name text f l) in rw o e
wants_step x words u more (short g gs is f o s l h) rows before given p q =
    let P : Text → Type 0 = λ z. IsUtf8 z in
    let ch = first_char g gs (subst P is u) in
    let e = stops before given (wanting rows) x words (wanted_short rows x g gs ch.0 f l h ch.1) in
    rw o e
wants_step x words u more (plain f o s l h) rows before given p q =
    let e = goes (said false words) before (given ++ x ∷ []) (wanting rows) _ x words (wanted_plain rows x f l h) (wanted_plain_next rows x f l h)
    (more.calm false (Some (codes "steps", x ∷ [])) rows before (given ++ x ∷ []) (calm_text rows x before given p q)) in
    rw o (said_text (said false words) x before given (wanting rows) (x ∷ words) e)

is_walked : (words : List Text) → AllTexts words → IsWalked words
unfolding walk_fault
is_walked [] u = record {
  calm = λ b pending rows before given c. (c.settles, (c.plains ∙ sym (append-nil before), c.texts ∙ sym (append-nil given)));
  wants = λ rows before given p q e. absurd (cc);
}
is_walked (x ∷ words) u = record {
  calm = calm_step x words u.0 (is_walked words u.1) (view x);
  wants = wants_step x words u.0 (is_walked words u.1) (view x);
}

-- ---- after the walk

same-either : (b : Bool) (rows : List Row) → cond b rows rows ≡ rows
same-either true rows = refl
same-either false rows = refl

no_defaults : (rows : List Row) → defaults_fault rows rules ≡ []
unfolding defaults_fault
no_defaults rows = rw (or-true (has_row (codes "word") rows)) (rw (or-true (has_row (codes "steps") (cond (has_row (codes "word") rows) rows rows))) refl)

all_found : (h : Held) → finished rules h ≡ (settled rules h).rows
all_found h =
    let rows = (settled rules h).rows in
    rw (same-either (has_row (codes "word") rows) rows) (rw (same-either (has_row (codes "steps") rows) rows) refl)

no_subcommand : (stop : Option (Text × List Text)) → (entered_fault (built grammar) stop ≡ []) × (is_some (entered (built grammar) stop) ≡ false)
no_subcommand None = (refl, refl)
no_subcommand (Some p) = (refl, refl)

-- the words behind a command's name, before any is read
abbrev begun : Walk
begun = walk_at false idle None []

level : (has : Bool) (below : Kinds) (words : List Text) → has ≡ false → below ≡ [] → level_fault top [] nothing_held words has below ≡ faults begun words
level has below words h b = rw h (rw b (rw (no_defaults (settled rules (fold (walked rules []) begun words).held).rows) (ap (or_else (walk_fault top [] begun words)) (or_else-nil (settle_fault rules false (fold (walked rules []) begun words).held)))))

all_faults : (words : List Text) → fault_of grammar words ≡ faults begun words
all_faults words =
    let stop = (walk rules [] nothing_held words).stopped in
    level (is_some (entered (built grammar) stop)) (entered_fault (built grammar) stop) words (no_subcommand stop).1 (no_subcommand stop).0

ended : (words : List Text) → AllTexts words → EndsAt (said false words) [] [] begun words
ended words u = (is_walked words u).calm false None [] [] [] (record { settles = refl; plains = refl; texts = refl })

-- where the parser finds no fault, it found what is said
pub what_is_found : (words : List Text) (m : ArgMatches) → AllTexts words → fault_of grammar words ≡ [] → rows_of (found_of m) ≡ matches_of grammar words → IsMatched words m
what_is_found words m u none rows = go (said false words) (ended words u)
  where
    read : (id : Text) → values_or_none (found_of m) id ≡ values id (ends begun words)
    read id = sym (values-found (found_of m) id) ∙ ap (values id) (rows ∙ all_found (fold (walked rules []) begun words).held)

    go : (s : Option Parts) → EndsAt s [] [] begun words → s ≡ Some (parts_found m)
    go None e = absurd (e (sym (all_faults words) ∙ none))
    go (Some p) e =
        let plains : p.plain ≡ values_or_none (found_of m) (codes "word") = sym (read (codes "word") ∙ e.1.0) in
        let texts : p.steps ≡ values_or_none (found_of m) (codes "steps") = sym (read (codes "steps") ∙ e.1.1) in
        ap₂ (λ a b. Some (record { plain = a; steps = b })) plains texts

-- where it finds one, a word is wrong
pub what_is_refused : (words : List Text) → AllTexts words → (fault_of grammar words ≡ [] → ⊥) → said false words ≡ None
what_is_refused words u some = go (said false words) (ended words u)
  where
    go : (s : Option Parts) → EndsAt s [] [] begun words → s ≡ None
    go None e = refl
    go (Some p) e = absurd (some (all_faults words ∙ e.0))
