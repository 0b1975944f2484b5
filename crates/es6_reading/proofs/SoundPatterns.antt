-- What the readers of names, keys, patterns and parameters give is derived, if the readers for one construct deeper are sound.
use Rattle.std.proofs.Common.{◌≡◌, ℕ, zero, suc, true, List, [], ◌∷◌, Some, None, refl, sym, ap, ◌∙◌, subst}
use Rattle.es_text.specs.declared.Span.{Span}
use Rattle.es6_lexer.specs.declared.token.Punctuator.TheVariants as marks
use Rattle.es6_ast.specs.declared.tree.Identifier.{Identifier}
use Rattle.es6_ast.specs.declared.tree.Pattern.{Pattern}
use Rattle.es6_ast.specs.declared.tree.Pattern.TheVariants as pattern
use Rattle.es6_ast.specs.declared.tree.ArrayPart.{ArrayPart}
use Rattle.es6_ast.specs.declared.tree.ArrayPart.TheVariants.{SkippedPart, SinglePart, RestPart}
use Rattle.es6_ast.specs.declared.tree.ObjectPart.{ObjectPart}
use Rattle.es6_ast.specs.declared.tree.ObjectPart.TheVariants.{NamedPart, KeyedPart}
use Rattle.es6_ast.specs.declared.tree.Parameter.{Parameter}
use Rattle.es6_ast.specs.declared.tree.Parameter.TheVariants.{SingleParameter, RestParameter}
use Rattle.es6_ast.specs.declared.tree.Key.{Key}
use Rattle.es6_ast.specs.declared.tree.Key.TheVariants.{WordKey, ComputedKey}
use Rattle.es6_ast.specs.declared.tree.Part.{Part, roll-Part}
use Rattle.es6_ast.specs.declared.settings.Flags.{Flags}
use Rattle.es6_ast.specs.Tokens.{Filled, IsWord, IsMark, across, begin_of}
use Rattle.es6_ast.specs.Grammar as g
use Rattle.es6_ast.specs.Grammar.{with_in, level_assignment, name_target, name_alone, IsName, IsAnyName, IsKey, IsPattern, IsTarget, IsPart, AreArrayParts, AreObjectParts, IsObjectPart, AreParameters}
use Rattle.es6_reading.specs.Parser.{Input, Reading, Inner}
use Rattle.es6_reading.specs.Words.{any_name, free_name, KeyToken, WordToken, TextToken, IntegerToken, key_at}
use Rattle.es6_reading.specs.Parts.{identifier, name_of_any_kind, key_of, computed_key, key, rest_part, array_parts, object_parts, binding_pattern, binding, initialized, one_part, keyed_part, named_part, one_object_part, rest_parameter, more_parameters, parameters}
use Rattle.es6_reading.proofs.Posts.{Holds, took, fault, bind, weaken, refused-holds, no-number-holds}
use Rattle.es6_reading.proofs.Meanings.{any-name-means, free-name-means, key_kind, key-means}
use Rattle.es6_reading.proofs.Spans.{Moves, ◌⟫◌, span-across}
use Rattle.es6_reading.proofs.Derived.{ReadWhole, NameIn, TargetIn, PartIn, ObjectPartIn, IsInitialized, lone_name, lone_pattern, with_initializer, InitializedIn, Sound, Next, next, on-means, take-means, one, step, IsKind, IsFree, on-mark, take-mark, group-holds}

-- ## Names and keys

pub name-rule : {s c : Input} {name : List ℕ} → Next (IsFree name) s c → IsName s.tokens (record { span = record { begin = begin_of s.tokens; end = c.last }; name = name }) c.tokens
name-rule {name = name} (next e) = g.name name e.0 e.1 refl

pub sound-identifier : (s : Input) → Holds (NameIn s) (identifier s)
unfolding identifier
sound-identifier s = bind (take-means free_name IsFree free-name-means s) λ name c h. took (step h, name-rule h)

abbrev pub AnyNameIn : Input → Identifier → Input → Type 0
AnyNameIn s n c = Moves s c × IsAnyName s.tokens n c.tokens

any-name-rule : {s c : Input} {name : List ℕ} → Next (IsWord name) s c → IsAnyName s.tokens (record { span = record { begin = begin_of s.tokens; end = c.last }; name = name }) c.tokens
any-name-rule {name = name} (next e) = g.any_name name e refl

pub sound-any-name : (s : Input) → Holds (AnyNameIn s) (name_of_any_kind s)
unfolding name_of_any_kind
sound-any-name s = bind (take-means any_name (λ name t. IsWord name t) any-name-means s) λ name c h. took (step h, any-name-rule h)

abbrev pub KeyIn : Flags → Input → Key → Input → Type 0
KeyIn f s k c = Moves s c × IsKey f s.tokens k c.tokens

pub key-rule : (f : Flags) {s c : Input} (k : KeyToken) → Next (IsKind (key_kind k)) s c → KeyIn f s (key_of (record { begin = begin_of s.tokens; end = c.last }) k) c
key-rule f (WordToken name) (next e) = (one, g.word_key name _ e refl)
key-rule f (TextToken units) (next e) = (one, g.text_key units _ e refl)
key-rule f (IntegerToken value) (next e) = (one, g.integer_key value _ e refl)

computed-rule : (f : Flags) {s a b c : Input} (x : Reading) → Next (IsMark marks.LeftBracket) s a → ReadWhole (with_in f) level_assignment a x b → Next (IsMark marks.RightBracket) b c
    → KeyIn f s (ComputedKey (record { begin = begin_of s.tokens; end = c.last }) x.value) c
computed-rule f x (next p) r (next q) = (one ⟫ r.moves ⟫ one, g.computed_key x.value _ p r.derived q (ap (λ span. ComputedKey span x.value) (span-across (one {last = 0} ⟫ r.moves ⟫ one))))

pub sound-key : (i : Inner) (sound : Sound i) (f : Flags) (s : Input) → Holds (KeyIn f s) (key i f s)
unfolding key computed_key
sound-key i sound f s = on-means key_at (λ k t. IsKind (key_kind k) t) key-means _ _ s (λ k c h. took (key-rule f k h))
    (λ m. group-holds i _ _ _ s (λ a p. bind (sound.assignment (with_in f) a) λ x b r. bind (take-mark _ b) λ t c q. took (computed-rule f x p r q)) (λ m. no-number-holds s))

pub key-to : (f h : Flags) {ts us : List Filled} {k : Key} → with_in f ≡ with_in h → IsKey f ts k us → IsKey h ts k us
key-to f h e (g.word_key word x w r) = g.word_key word x w r
key-to f h e (g.text_key units x w r) = g.text_key units x w r
key-to f h e (g.integer_key value x w r) = g.integer_key value x w r
key-to f h e (g.computed_key {close = close} {ts = ts} {us = us} value x p d q r) = g.computed_key value x p (subst (λ i. g.IsExpression i level_assignment ts value (close ∷ us)) e d) q r

-- ## What binds

pub pattern-to : (f h : Flags) {ts us : List Filled} {x : Pattern} → with_in f ≡ with_in h → IsPattern f true ts x us → IsPattern h true ts x us
pattern-to f h {us = us} e (g.array_pattern {ts = ts} parts x p d r) = g.array_pattern parts x p (subst (λ i. AreArrayParts i true ts parts us) e d) r
pattern-to f h {us = us} e (g.object_pattern {ts = ts} parts x p d r) = g.object_pattern parts x p (subst (λ i. AreObjectParts i true ts parts us) e d) r

-- what is bound doesn't depend on whether `in` is an operator around it
pub target-to : (f h : Flags) {ts us : List Filled} {x : Pattern} → with_in f ≡ with_in h → IsTarget f true ts x us → IsTarget h true ts x us
target-to f h e (g.bound_name n x d r) = g.bound_name n x d r
target-to f h e (g.nested_pattern x d) = g.nested_pattern x (pattern-to f h e d)

pub name-span : {ts us : List Filled} {n : Identifier} → IsName ts n us → across ts us ≡ n.span
name-span (g.name {t = t} {ts = ts} word w free same) = sym (span-across (one {t = t} {ts = ts} {last = 0})) ∙ sym (ap (λ m. m.span) same)

abbrev alone : Span → Pattern → Part
alone span y = roll-Part (record { span = span; pattern = y; default = None })

initialized-alone : (f h : Flags) {ts us : List Filled} {y : Pattern} → IsTarget f true ts y us → IsInitialized f h ts (alone (across ts us) y) us
initialized-alone f h (g.bound_name n y d r) = lone_name n d (ap (λ span. alone span y) (name-span d) ∙ ap (λ z. alone n.span z) r)
initialized-alone f h (g.nested_pattern y d) = lone_pattern y d refl

-- a binding element, whose initializer has `in`
pub part-of : (f : Flags) {ts us : List Filled} {q : Part} → IsInitialized f (with_in f) ts q us → IsPart (with_in f) true ts q us
part-of f (lone_name n d e) = g.part_alone (name_target n) _ (g.bound_name n _ d refl) (e ∙ ap (λ span. alone span (name_target n)) (sym (name-span d)))
part-of f (lone_pattern y d e) = g.part_alone y _ (g.nested_pattern y (pattern-to f (with_in f) refl d)) e
part-of f (with_initializer y value d p v e) = g.part_with_default y value _ (target-to f (with_in f) refl d) p v e

-- ## Array patterns

abbrev ArrayPartsIn : Flags → Input → List ArrayPart → Input → Type 0
ArrayPartsIn f s es c = Moves s c × AreArrayParts (with_in f) true s.tokens es c.tokens

array-none : (f : Flags) {s c : Input} → Next (IsMark marks.RightBracket) s c → ArrayPartsIn f s [] c
array-none f (next e) = (one, g.no_array_part e)

array-skipped : (f : Flags) {s a c : Input} {es : List ArrayPart} → Next (IsMark marks.Comma) s a → ArrayPartsIn f a es c → ArrayPartsIn f s (SkippedPart ∷ es) c
array-skipped f (next e) (m, d) = (one ⟫ m, g.skipped_part _ _ e refl d)

array-rest : (f : Flags) {s a b c : Input} {n : Identifier} → Next (IsMark marks.Ellipsis) s a → NameIn a n b → Next (IsMark marks.RightBracket) b c → ArrayPartsIn f s (RestPart (record { begin = begin_of s.tokens; end = b.last }) (name_target n) ∷ []) c
array-rest f {n = n} (next p) (m, d) (next q) = (one ⟫ m ⟫ one, g.rest_part (name_target n) _ p (g.bound_rest n _ d refl) q (ap (λ span. RestPart span (name_target n)) (span-across (one {last = 0} ⟫ m))))

array-next : (f : Flags) {s a b c : Input} {q : Part} {es : List ArrayPart} → PartIn (with_in f) s q a → Next (IsMark marks.Comma) a b → ArrayPartsIn f b es c → ArrayPartsIn f s (SinglePart q ∷ es) c
array-next f {q = q} (m, d) (next e) (m', ds) = (m ⟫ one ⟫ m', g.next_array_part q _ _ d e refl ds)

array-last : (f : Flags) {s a c : Input} {q : Part} → PartIn (with_in f) s q a → Next (IsMark marks.RightBracket) a c → ArrayPartsIn f s (SinglePart q ∷ []) c
array-last f {q = q} (m, d) (next e) = (m ⟫ one, g.last_array_part q _ d e refl)

sound-array-parts : (i : Inner) (sound : Sound i) (f : Flags) (turns : ℕ) (s : Input) → Holds (ArrayPartsIn f s) (array_parts i f turns s)
unfolding array_parts rest_part
sound-array-parts i sound f zero s = fault
sound-array-parts i sound f (suc turns) s = on-mark _ _ _ s (λ t c h. took (array-none f h)) (λ m. on-mark _ _ _ s
    (λ t a h. bind (sound-array-parts i sound f turns a) λ es c ds. took (array-skipped f h ds))
    (λ m. on-mark _ _ _ s
    (λ t a h. bind (sound-identifier a) λ n b d. bind (take-mark _ b) λ u c q. took (array-rest f h d q))
    (λ m. bind (sound.part f s) λ q a d. on-mark _ _ _ a
    (λ t b h. bind (sound-array-parts i sound f turns b) λ es c ds. took (array-next f d h ds))
    (λ m. bind (take-mark _ a) λ t c h. took (array-last f d h)))))

-- ## Object patterns

abbrev ObjectPartsIn : Flags → Input → List ObjectPart → Input → Type 0
ObjectPartsIn f s es c = Moves s c × AreObjectParts (with_in f) true s.tokens es c.tokens

object-none : (f : Flags) {s c : Input} → Next (IsMark marks.RightBrace) s c → ObjectPartsIn f s [] c
object-none f (next e) = (one, g.no_object_part e)

object-next : (f : Flags) {s a b c : Input} {e : ObjectPart} {es : List ObjectPart} → ObjectPartIn (with_in f) s e a → Next (IsMark marks.Comma) a b → ObjectPartsIn f b es c → ObjectPartsIn f s (e ∷ es) c
object-next f (m, d) (next e) (m', ds) = (m ⟫ one ⟫ m', g.next_object_part _ _ d e ds)

object-last : (f : Flags) {s a c : Input} {e : ObjectPart} → ObjectPartIn (with_in f) s e a → Next (IsMark marks.RightBrace) a c → ObjectPartsIn f s (e ∷ []) c
object-last f (m, d) (next e) = (m ⟫ one, g.last_object_part _ d e)

sound-object-parts : (i : Inner) (sound : Sound i) (f : Flags) (turns : ℕ) (s : Input) → Holds (ObjectPartsIn f s) (object_parts i f turns s)
unfolding object_parts
sound-object-parts i sound f zero s = fault
sound-object-parts i sound f (suc turns) s = on-mark _ _ _ s (λ t c h. took (object-none f h)) (λ m. bind (sound.object_part f s) λ e a d. on-mark _ _ _ a
    (λ t b h. bind (sound-object-parts i sound f turns b) λ es c ds. took (object-next f d h ds))
    (λ m. bind (take-mark _ a) λ t c h. took (object-last f d h)))

-- ## Targets and parts

array-rule : (f : Flags) {s a c : Input} {es : List ArrayPart} → Next (IsMark marks.LeftBracket) s a → ArrayPartsIn f a es c → TargetIn f s (pattern.ArrayPattern (record { begin = begin_of s.tokens; end = c.last }) es) c
array-rule f {es = es} (next p) (m, d) = (one ⟫ m, g.nested_pattern _ (g.array_pattern es _ p d (ap (λ span. pattern.ArrayPattern span es) (span-across (one {last = 0} ⟫ m)))))

object-rule : (f : Flags) {s a c : Input} {es : List ObjectPart} → Next (IsMark marks.LeftBrace) s a → ObjectPartsIn f a es c → TargetIn f s (pattern.ObjectPattern (record { begin = begin_of s.tokens; end = c.last }) es) c
object-rule f {es = es} (next p) (m, d) = (one ⟫ m, g.nested_pattern _ (g.object_pattern es _ p d (ap (λ span. pattern.ObjectPattern span es) (span-across (one {last = 0} ⟫ m)))))

bound-rule : (f : Flags) {s c : Input} {name : List ℕ} → Next (IsFree name) s c → TargetIn f s (name_target (record { span = record { begin = begin_of s.tokens; end = c.last }; name = name })) c
bound-rule f h = (step h, g.bound_name _ _ (name-rule h) refl)

pub sound-binding : (i : Inner) (sound : Sound i) (f : Flags) (s : Input) → Holds (TargetIn f s) (binding i f s)
unfolding binding binding_pattern
sound-binding i sound f s = on-means free_name IsFree free-name-means _ _ s (λ name c h. took (bound-rule f h)) (λ m. group-holds i _ _ _ s
    (λ a p. bind (sound-array-parts i sound f i.fuel a) λ es c ds. took (array-rule f p ds))
    (λ m. group-holds i _ _ _ s (λ a p. bind (sound-object-parts i sound f i.fuel a) λ es c ds. took (object-rule f p ds)) (λ m. refused-holds s)))

alone-rule : (f h : Flags) {s c : Input} {y : Pattern} → TargetIn f s y c → InitializedIn f h s (alone (record { begin = begin_of s.tokens; end = c.last }) y) c
alone-rule f h {s = s} {c = c} {y = y} (m, d) = (m, subst (λ span. IsInitialized f h s.tokens (alone span y) c.tokens) (sym (span-across m)) (initialized-alone f h d))

initialized-rule : (f h : Flags) {s a b c : Input} {y : Pattern} (x : Reading) → TargetIn f s y a → Next (IsMark marks.Assign) a b → ReadWhole h level_assignment b x c
    → InitializedIn f h s (roll-Part (record { span = record { begin = begin_of s.tokens; end = c.last }; pattern = y; default = Some x.value })) c
initialized-rule f h {y = y} x (m, d) (next p) r = (m ⟫ one ⟫ r.moves, with_initializer y x.value d p r.derived (ap (λ span. roll-Part (record { span = span; pattern = y; default = Some x.value })) (span-across (m ⟫ one ⟫ r.moves))))

pub sound-initialized : (i : Inner) (sound : Sound i) (f h : Flags) (s : Input) → Holds (InitializedIn f h s) (initialized i f h s)
unfolding initialized
sound-initialized i sound f h s = bind (sound-binding i sound f s) λ y a d. on-mark _ _ _ a
    (λ t b p. bind (sound.assignment h b) λ x c r. took (initialized-rule f h x d p r))
    (λ m. took (alone-rule f h d))

pub sound-part : (i : Inner) (sound : Sound i) (f : Flags) (s : Input) → Holds (PartIn (with_in f) s) (one_part i f s)
unfolding one_part
sound-part i sound f s = weaken (sound-initialized i sound f (with_in f) s) (λ q c d. (d.0, part-of f d.1))

keyed-rule : (f : Flags) {s a b c : Input} {k : Key} {q : Part} → KeyIn (with_in f) s k a → Next (IsMark marks.Colon) a b → PartIn (with_in f) b q c → ObjectPartIn (with_in f) s (KeyedPart (record { begin = begin_of s.tokens; end = c.last }) k q) c
keyed-rule f {k = k} {q = q} (m, d) (next p) (m', d') = (m ⟫ one ⟫ m', g.keyed_part k q _ d p d' (ap (λ span. KeyedPart span k q) (span-across (m ⟫ one ⟫ m'))))

sound-keyed : (i : Inner) (sound : Sound i) (f : Flags) (k : Key) (s a b : Input) → KeyIn (with_in f) s k a → Next (IsMark marks.Colon) a b → Holds (ObjectPartIn (with_in f) s) (keyed_part i f (begin_of s.tokens) k b)
unfolding keyed_part
sound-keyed i sound f k s a b d p = bind (sound-part i sound f b) λ q c d'. took (keyed-rule f d p d')

named-rule : (f : Flags) {s a b c : Input} {n : Identifier} (x : Reading) → NameIn s n a → Next (IsMark marks.Assign) a b → ReadWhole (with_in f) level_assignment b x c
    → ObjectPartIn (with_in f) s (NamedPart (roll-Part (record { span = record { begin = begin_of s.tokens; end = c.last }; pattern = name_target n; default = Some x.value }))) c
named-rule f {n = n} x (m, d) (next p) r =
    (m ⟫ one ⟫ r.moves, g.named_part_with_default n x.value _ d p r.derived (ap (λ span. NamedPart (roll-Part (record { span = span; pattern = name_target n; default = Some x.value }))) (span-across (m ⟫ one ⟫ r.moves))))

sound-named : (i : Inner) (sound : Sound i) (f : Flags) (n : Identifier) (s a : Input) → NameIn s n a → Holds (ObjectPartIn (with_in f) s) (named_part i f (begin_of s.tokens) n a)
unfolding named_part
sound-named i sound f n s a d = on-mark _ _ _ a
    (λ t b p. bind (sound.assignment (with_in f) b) λ x c r. took (named-rule f x d p r))
    (λ m. took (d.0, g.named_part n _ d.1 refl))

word-key-rule : (f : Flags) {s a : Input} {name : List ℕ} → Next (IsFree name) s a → KeyIn f s (WordKey (record { begin = begin_of s.tokens; end = a.last }) name) a
word-key-rule f {name = name} (next e) = (one, g.word_key name _ e.0 refl)

pub sound-object-part : (i : Inner) (sound : Sound i) (f : Flags) (s : Input) → Holds (ObjectPartIn (with_in f) s) (one_object_part i f s)
unfolding one_object_part
sound-object-part i sound f s = on-means free_name IsFree free-name-means _ _ s
    (λ name a h. on-mark _ _ _ a (λ t b p. sound-keyed i sound f _ s a b (word-key-rule (with_in f) h) p) (λ m. sound-named i sound f _ s a (step h, name-rule h)))
    (λ m. bind (sound-key i sound f s) λ k a d. bind (take-mark _ a) λ t b p. sound-keyed i sound f k s a b (d.0, key-to f (with_in f) refl d.1) p)

-- ## Parameters

abbrev pub ParametersIn : Flags → Input → List Parameter → Input → Type 0
ParametersIn f s es c = Moves s c × AreParameters (with_in f) s.tokens es c.tokens

-- the parameters after a comma are one at least
data MoreParameters (f : Flags) : Input → List Parameter → Input → Type 0 where
  more_of : {s c : Input} {e : Parameter} {es : List Parameter} → Moves s c → AreParameters (with_in f) s.tokens (e ∷ es) c.tokens → MoreParameters f s (e ∷ es) c

parameters-rest : (f : Flags) {s a b c : Input} {n : Identifier} → Next (IsMark marks.Ellipsis) s a → NameIn a n b → Next (IsMark marks.RightParenthesis) b c → MoreParameters f s (RestParameter (record { begin = begin_of s.tokens; end = b.last }) (name_target n) ∷ []) c
parameters-rest f {n = n} (next p) (m, d) (next q) = more_of (one ⟫ m ⟫ one) (g.rest_parameter n _ p d q (ap (λ span. RestParameter span (name_target n)) (span-across (one {last = 0} ⟫ m))))

parameters-next : (f : Flags) {s a b c : Input} {q : Part} {es : List Parameter} → PartIn (with_in f) s q a → Next (IsMark marks.Comma) a b → MoreParameters f b es c → MoreParameters f s (SingleParameter q ∷ es) c
parameters-next f {q = q} (m, d) (next p) (more_of m' ds) = more_of (m ⟫ one ⟫ m') (g.next_parameter q _ _ _ d p refl ds)

parameters-last : (f : Flags) {s a c : Input} {q : Part} → PartIn (with_in f) s q a → Next (IsMark marks.RightParenthesis) a c → MoreParameters f s (SingleParameter q ∷ []) c
parameters-last f {q = q} (m, d) (next p) = more_of (m ⟫ one) (g.last_parameter q _ d p refl)

sound-rest : (f : Flags) (s a : Input) → Next (IsMark marks.Ellipsis) s a → Holds (λ e c. MoreParameters f s (e ∷ []) c) (rest_parameter (begin_of s.tokens) a)
unfolding rest_parameter
sound-rest f s a p = bind (sound-identifier a) λ n b d. bind (take-mark _ b) λ u c q. took (parameters-rest f p d q)

sound-more-parameters : (i : Inner) (sound : Sound i) (f : Flags) (turns : ℕ) (s : Input) → Holds (MoreParameters f s) (more_parameters i f turns s)
unfolding more_parameters
sound-more-parameters i sound f zero s = fault
sound-more-parameters i sound f (suc turns) s = on-mark _ _ _ s
    (λ t a p. bind (sound-rest f s a p) λ e c d. took d)
    (λ m. bind (sound.part f s) λ q a d. on-mark _ _ _ a
    (λ t b p. bind (sound-more-parameters i sound f turns b) λ es c ds. took (parameters-next f d p ds))
    (λ m. bind (take-mark _ a) λ t c p. took (parameters-last f d p)))

parameters-none : (f : Flags) {s c : Input} → Next (IsMark marks.RightParenthesis) s c → ParametersIn f s [] c
parameters-none f (next e) = (one, g.no_parameter e)

parameters-some : (f : Flags) {s c : Input} {es : List Parameter} → MoreParameters f s es c → ParametersIn f s es c
parameters-some f (more_of m d) = (m, d)

pub sound-parameters : (i : Inner) (sound : Sound i) (f : Flags) (s : Input) → Holds (ParametersIn f s) (parameters i f s)
unfolding parameters
sound-parameters i sound f s = on-mark _ _ _ s (λ t c h. took (parameters-none f h)) (λ m. weaken (sound-more-parameters i sound f i.fuel s) (λ es c d. parameters-some f d))
