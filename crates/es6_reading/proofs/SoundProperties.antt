-- What the reader of an object literal's property gives is derived, if the readers for one construct deeper are sound.
use Rattle.std.proofs.Common.{◌≡◌, ℕ, Bool, true, false, List, refl, sym, ap}
use Rattle.es_outside.specs.HostNames.{reserved_words}
use Rattle.es6_lexer.specs.declared.token.Punctuator.TheVariants as marks
use Rattle.es6_ast.specs.declared.tree.Identifier.{Identifier}
use Rattle.es6_ast.specs.declared.tree.Key.{Key}
use Rattle.es6_ast.specs.declared.tree.Key.TheVariants.{WordKey}
use Rattle.es6_ast.specs.declared.tree.Method.{Method}
use Rattle.es6_ast.specs.declared.tree.Property.TheVariants as property
use Rattle.es6_ast.specs.declared.settings.Flags.{Flags}
use Rattle.es6_ast.specs.Tokens.{Filled, IsWord, IsMark, begin_of, is_identifier}
use Rattle.es6_ast.specs.Grammar as g
use Rattle.es6_ast.specs.Grammar.{with_in, level_assignment, IsName, IsKey}
use Rattle.es6_reading.specs.Parser.{Input, mark, Reading, Inner}
use Rattle.es6_reading.specs.Words.{free_name, accessor_at, accessor_name}
use Rattle.es6_reading.specs.Expressions.{value_of_key, method_of_key, after_key, shorthand, after_name, after_accessor_word, one_property}
use Rattle.es6_reading.proofs.Posts.{Holds, took, bind, if-holds}
use Rattle.es6_reading.proofs.Meanings.{mark-means, free-name-means, accessor-means}
use Rattle.es6_reading.proofs.Spans.{◌⟫◌, span-across}
use Rattle.es6_reading.proofs.Derived.{ReadWhole, NameIn, PropertyIn, Sound, Next, next, on-means, one, step, IsFree, on-mark}
use Rattle.es6_reading.proofs.SoundPatterns.{name-rule, KeyIn, sound-key}
use Rattle.es6_reading.proofs.SoundFunctions.{both, MethodIn, sound-plain-method, sound-generator-method, sound-accessor}
use Rattle.es6_reading.proofs.SoundLevels.{sound-assignment}

value-rule : (f : Flags) {s a b c : Input} {k : Key} (x : Reading) → KeyIn f s k a → Next (IsMark marks.Colon) a b → ReadWhole (with_in f) level_assignment b x c → PropertyIn f s (property.Plain (record { begin = begin_of s.tokens; end = c.last }) k x.value) c
value-rule f {k = k} x (m, d) (next p) r = (m ⟫ one ⟫ r.moves, g.plain_property k x.value _ d p r.derived (ap (λ span. property.Plain span k x.value) (span-across (m ⟫ one ⟫ r.moves))))

method-rule : (f : Flags) {s c : Input} {m : Method} → MethodIn f s m c → PropertyIn f s (property.Defined m) c
method-rule f {m = m} d = (d.0, g.method_property m _ d.1 refl)

sound-after-key : (i : Inner) (sound : Sound i) (f : Flags) (k : Key) (s a : Input) → KeyIn f s k a → Holds (PropertyIn f s) (after_key i f (begin_of s.tokens) k a)
unfolding after_key value_of_key method_of_key
sound-after-key i sound f k s a d = on-mark _ _ _ a
    (λ t b p. bind (sound-assignment i sound (with_in f) b) λ x c r. took (value-rule f x d p r))
    (λ m. bind (sound-plain-method i sound f k s a d) λ m c d'. took (method-rule f d'))

-- the `=` that was taken
abbrev IsEquals : Filled → Filled → Type 0
IsEquals u t = IsMark marks.Assign t × (t ≡ u)

initialized-rule : (f : Flags) {s a b c : Input} {n : Identifier} (equals : Filled) (x : Reading) → NameIn s n a → Next (IsEquals equals) a b → ReadWhole (with_in f) level_assignment b x c
    → PropertyIn f s (property.Initialized (record { begin = begin_of s.tokens; end = c.last }) n equals.span x.value) c
initialized-rule f {n = n} equals x (m, d) (next p) r =
    (m ⟫ one ⟫ r.moves, g.initialized_property n x.value _ d p.0 r.derived (both (λ span t. property.Initialized span n t.span x.value) (span-across (m ⟫ one ⟫ r.moves)) (sym p.1)))

sound-shorthand : (i : Inner) (sound : Sound i) (f : Flags) (n : Identifier) (s a : Input) → NameIn s n a → Holds (PropertyIn f s) (shorthand i f (begin_of s.tokens) n a)
unfolding shorthand
sound-shorthand i sound f n s a d = on-means (mark marks.Assign) IsEquals (λ u t h. mark-means marks.Assign t u h) _ _ a
    (λ equals b p. bind (sound.assignment (with_in f) b) λ x c r. took (initialized-rule f equals x d p r))
    (λ m. took (d.0, g.shorthand_property n _ d.1 refl))

sound-after-name : (i : Inner) (sound : Sound i) (f : Flags) (n : Identifier) (s a : Input) → KeyIn f s (WordKey n.span n.name) a → NameIn s n a → Holds (PropertyIn f s) (after_name i f (begin_of s.tokens) n a)
unfolding after_name
sound-after-name i sound f n s a k d = if-holds _ _ _ a (λ h. sound-after-key i sound f (WordKey n.span n.name) s a k) (λ h. sound-shorthand i sound f n s a d)

free-key : (f : Flags) {s a : Input} {name : List ℕ} → Next (IsFree name) s a → KeyIn f s (WordKey (record { begin = begin_of s.tokens; end = a.last }) name) a
free-key f {name = name} (next e) = (one, g.word_key name _ e.0 refl)

-- `get` and `set` are not reserved
accessor-free : (setter : Bool) → is_identifier (accessor_name setter) ≡ true
unfolding reserved_words
accessor-free true = refl
accessor-free false = refl

as-free : (setter : Bool) {s a : Input} → Next (IsWord (accessor_name setter)) s a → Next (IsFree (accessor_name setter)) s a
as-free setter (next w) = next (w, accessor-free setter)

sound-accessor-word : (i : Inner) (sound : Sound i) (f : Flags) (setter : Bool) (s a : Input) → Next (IsWord (accessor_name setter)) s a → Holds (PropertyIn f s) (after_accessor_word i f (begin_of s.tokens) setter a)
unfolding after_accessor_word
sound-accessor-word i sound f setter s a w = if-holds _ _ _ a
    (λ h. sound-after-name i sound f _ s a (free-key f (as-free setter w)) (step w, name-rule (as-free setter w)))
    (λ h. bind (sound-accessor i sound f setter s a w) λ m c d. took (method-rule f d))

pub sound-property : (i : Inner) (sound : Sound i) (f : Flags) (s : Input) → Holds (PropertyIn f s) (one_property i f s)
unfolding one_property
sound-property i sound f s = on-mark _ _ _ s (λ t a p. bind (sound-generator-method i sound f s a p) λ m c d. took (method-rule f d)) (λ m.
    on-means accessor_at (λ setter t. IsWord (accessor_name setter) t) accessor-means _ _ s (λ setter a w. sound-accessor-word i sound f setter s a w) (λ m.
    on-means free_name IsFree free-name-means _ _ s (λ name a h. sound-after-name i sound f _ s a (free-key f h) (step h, name-rule h)) (λ m.
    bind (sound-key i sound f s) λ k a d. sound-after-key i sound f k s a d)))
