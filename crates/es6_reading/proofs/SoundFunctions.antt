-- What the readers of functions, methods, classes and templates give is derived, if the readers for one construct deeper are sound.
use Rattle.std.proofs.Common.{◌≡◌, ℕ, zero, suc, Bool, true, false, List, [], ◌∷◌, Option, Some, None, refl, ap, ◌∙◌}
use Rattle.std.proofs.lemmas.Bool.{true≢false}
use Rattle.std.specs.Prelude.{codes, is_some}
use Rattle.es_text.specs.declared.Span.{Span}
use Rattle.es6_lexer.specs.declared.token.TokenKind.TheVariants as kinds
use Rattle.es6_lexer.specs.declared.token.Punctuator.TheVariants as marks
use Rattle.es6_ast.specs.declared.operators.MethodKind.TheVariants.{PlainMethod, GetterMethod, SetterMethod, GeneratorMethod}
use Rattle.es6_ast.specs.declared.tree.Identifier.{Identifier}
use Rattle.es6_ast.specs.declared.tree.Expression.{Expression}
use Rattle.es6_ast.specs.declared.tree.Statement.{Statement}
use Rattle.es6_ast.specs.declared.tree.Parameter.{Parameter}
use Rattle.es6_ast.specs.declared.tree.Parameter.TheVariants.{SingleParameter}
use Rattle.es6_ast.specs.declared.tree.Key.{Key}
use Rattle.es6_ast.specs.declared.tree.Key.TheVariants.{WordKey}
use Rattle.es6_ast.specs.declared.tree.Block.{roll-Block}
use Rattle.es6_ast.specs.declared.tree.Class.{Class, roll-Class}
use Rattle.es6_ast.specs.declared.tree.ClassMember.{ClassMember}
use Rattle.es6_ast.specs.declared.tree.Function.{Function, roll-Function}
use Rattle.es6_ast.specs.declared.tree.Method.{Method}
use Rattle.es6_ast.specs.declared.tree.Part.{Part}
use Rattle.es6_ast.specs.declared.tree.Stretch.{Stretch}
use Rattle.es6_ast.specs.declared.tree.Template.{Template, roll-Template}
use Rattle.es6_ast.specs.declared.tree.TemplatePart.{TemplatePart}
use Rattle.es6_ast.specs.declared.settings.Flags.{Flags}
use Rattle.es6_ast.specs.declared.settings.Stand.TheVariants.{Listed}
use Rattle.es6_ast.specs.Tokens.{Filling, Read, Inserted, Filled, IsWord, IsMark, begin_of}
use Rattle.es6_ast.specs.Grammar as g
use Rattle.es6_ast.specs.Grammar.{with_in, of_function, level_sequence, level_left_hand_side, method_of, IsName, IsStar, IsKey, AreParameters, IsFunction, IsSignature, IsMethod, IsClass, IsClassTail, AreMembers, AreStatements, IsBlock, IsTemplate, AreTemplateParts, IsExpression}
use Rattle.es6_reading.specs.Parser.{Input, Parser, next_is, Reading, Inner, group}
use Rattle.es6_reading.specs.Words.{WordToken, accessor_at, accessor_name, stretch_in, stretch_at, is_template_head}
use Rattle.es6_reading.specs.Parts.{statements, block, function_body, signature, star, rest_of_function, named_function, function_after_word, method_after_key, no_parameter, one_parameter, accessor_parameters, accessor_kind, accessor, generator_method, method_after_accessor_word, method, member_of, member_after_static, one_member, members, heritage, rest_of_class, named_class, class_after_word, template_part, template_parts, parted_template, on_template}
use Rattle.es6_reading.proofs.Posts.{Holds, took, fault, bind, weaken, Misses, choose-holds, if-holds, refused-holds}
use Rattle.es6_reading.proofs.Meanings.{accessor-means, IsStretch, stretch-means}
use Rattle.es6_reading.proofs.Spans.{Moves, Goes, stays, goes, then-goes, ◌⟫◌, span-across}
use Rattle.es6_reading.proofs.Derived.{ReadAmong, ReadWhole, NameIn, BlockIn, PartIn, MemberIn, StatementIn, Sound, Next, next, on-means, take-means, one, on-mark, take-mark, on-word, group-holds}
use Rattle.es6_reading.proofs.SoundPatterns.{sound-identifier, KeyIn, key-rule, sound-key, sound-parameters}

-- ## Statements in braces

abbrev StatementsIn : Flags → Input → List Statement → Input → Type 0
StatementsIn f s xs c = Moves s c × AreStatements f s.tokens xs c.tokens

statements-none : (f : Flags) {s c : Input} → Next (IsMark marks.RightBrace) s c → StatementsIn f s [] c
statements-none f (next e) = (one, g.no_statement e)

statements-next : (f : Flags) {s a c : Input} {x : Statement} {xs : List Statement} → StatementIn f Listed s x a → StatementsIn f a xs c → StatementsIn f s (x ∷ xs) c
statements-next f (m, d) (m', ds) = (m ⟫ m', g.next_statement _ _ d ds)

sound-statements : (i : Inner) (sound : Sound i) (f : Flags) (turns : ℕ) (s : Input) → Holds (StatementsIn f s) (statements i f turns s)
unfolding statements
sound-statements i sound f zero s = fault
sound-statements i sound f (suc turns) s = on-mark _ _ _ s (λ t c h. took (statements-none f h)) (λ m.
    bind (sound.statement f Listed s) λ x a d. bind (sound-statements i sound f turns a) λ xs c ds. took (statements-next f d ds))

-- an opening brace, statements and a closing brace
data BracedIn (f : Flags) : Input → List Statement → Input → Type 0 where
  braced : {s a c : Input} {xs : List Statement} → Next (IsMark marks.LeftBrace) s a → StatementsIn f a xs c → BracedIn f s xs c

sound-braced : (i : Inner) (sound : Sound i) (f : Flags) (s : Input) → Holds (BracedIn f s) (group i marks.LeftBrace (statements i f i.fuel) s)
sound-braced i sound f s = group-holds i _ _ _ s (λ a h. weaken (sound-statements i sound f i.fuel a) (λ xs c d. braced h d)) (λ m. refused-holds s)

block-rule : (f : Flags) {s a c : Input} {xs : List Statement} → Next (IsMark marks.LeftBrace) s a → StatementsIn f a xs c → BlockIn f s (roll-Block (record { span = record { begin = begin_of s.tokens; end = c.last }; statements = xs })) c
block-rule f {xs = xs} (next p) (m, d) = (one ⟫ m, g.braces xs _ p d (ap (λ span. roll-Block (record { span = span; statements = xs })) (span-across (one {last = 0} ⟫ m))))

pub sound-block : (i : Inner) (sound : Sound i) (f : Flags) (s : Input) → Holds (BlockIn f s) (block i f s)
unfolding block
sound-block i sound f s = group-holds i _ _ _ s (λ a h. bind (sound-statements i sound f i.fuel a) λ xs c d. took (block-rule f h d)) (λ m. refused-holds s)

-- ## Functions

data ParenthesizedIn (f : Flags) : Input → List Parameter → Input → Type 0 where
  parenthesized : {s a c : Input} {es : List Parameter} → Next (IsMark marks.LeftParenthesis) s a → Moves a c → AreParameters f a.tokens es c.tokens → ParenthesizedIn f s es c

-- parameters and a body
abbrev pub SignatureIn : Bool → Input → List Parameter → List Statement → Input → Type 0
SignatureIn generator s es ss c = Moves s c × IsSignature generator s.tokens es ss c.tokens

signature-rule : (generator : Bool) {s a c : Input} {es : List Parameter} {ss : List Statement} → ParenthesizedIn (of_function generator) s es a → BracedIn (of_function generator) a ss c → SignatureIn generator s es ss c
signature-rule generator (parenthesized (next p) m d) (braced (next b) (m', d')) = (one ⟫ m ⟫ one ⟫ m', g.signature _ _ p d b d')

pub sound-signature : (i : Inner) (sound : Sound i) (generator : Bool) (s : Input) → Holds (λ r c. SignatureIn generator s r.parameters r.body c) (signature i generator s)
unfolding signature function_body
sound-signature i sound generator s =
    bind (group-holds {Q = ParenthesizedIn (of_function generator) s} i _ _ _ s (λ a h. weaken (sound-parameters i sound (of_function generator) a) (λ es c d. parenthesized h d.0 d.1)) (λ m. refused-holds s)) λ es a ps.
    bind (sound-braced i sound (of_function generator) a) λ ss c bs. took (signature-rule generator ps bs)

abbrev pub StarIn : Input → Bool → Input → Type 0
StarIn s generator c = Goes s c × IsStar generator s.tokens c.tokens

star-rule : {s c : Input} → Next (IsMark marks.Star) s c → StarIn s true c
star-rule (next e) = (goes one, g.star e)

pub sound-star : (s : Input) → Holds (StarIn s) (star s)
unfolding star
sound-star s = on-mark _ _ _ s (λ t c h. took (star-rule h)) (λ m. took (stays s, g.no_star))

abbrev pub FunctionIn : Bool → Input → Function → Input → Type 0
FunctionIn lacks s x c = Moves s c × IsFunction lacks s.tokens x c.tokens

abbrev function_of : Bool → Option Identifier → List Parameter → List Statement → Span → Function
function_of generator name es ss span = roll-Function (record { span = span; is_generator = generator; name = name; parameters = es; body = ss })

unnamed-rule : (generator : Bool) {s a b c : Input} {es : List Parameter} {ss : List Statement} → Next (IsWord (codes "function")) s a → StarIn a generator b → SignatureIn generator b es ss c
    → FunctionIn true s (function_of generator None es ss (record { begin = begin_of s.tokens; end = c.last })) c
unnamed-rule generator {es = es} {ss = ss} (next w) (m, d) (m', d') = (then-goes one m ⟫ m', g.unnamed_function es ss _ w d d' (ap (function_of generator None es ss) (span-across (then-goes (one {last = 0}) m ⟫ m'))))

named-function-rule : (lacks generator : Bool) {s a b d c : Input} {n : Identifier} {es : List Parameter} {ss : List Statement} → Next (IsWord (codes "function")) s a → StarIn a generator b → NameIn b n d → SignatureIn generator d es ss c
    → FunctionIn lacks s (function_of generator (Some n) es ss (record { begin = begin_of s.tokens; end = c.last })) c
named-function-rule lacks generator {n = n} {es = es} {ss = ss} (next w) (m, d) (m'', d'') (m', d') =
    (then-goes one m ⟫ m'' ⟫ m', g.named_function n es ss _ w d d'' d' (ap (function_of generator (Some n) es ss) (span-across (then-goes (one {last = 0}) m ⟫ m'' ⟫ m'))))

-- a function with a name, after its `function` and its star
pub sound-named-function : (i : Inner) (sound : Sound i) (lacks generator : Bool) (s a b : Input) → Next (IsWord (codes "function")) s a → StarIn a generator b → Holds (FunctionIn lacks s) (named_function i (begin_of s.tokens) generator b)
unfolding named_function rest_of_function
sound-named-function i sound lacks generator s a b w d = bind (sound-identifier b) λ n e d'. bind (sound-signature i sound generator e) λ r c d''. took (named-function-rule lacks generator w d d' d'')

sound-unnamed : (i : Inner) (sound : Sound i) (generator : Bool) (s a b : Input) → Next (IsWord (codes "function")) s a → StarIn a generator b → Holds (FunctionIn true s) (rest_of_function i (begin_of s.tokens) generator None b)
unfolding rest_of_function
sound-unnamed i sound generator s a b w d = bind (sound-signature i sound generator b) λ r c d'. took (unnamed-rule generator w d d')

-- a function after its `function`
pub sound-function : (i : Inner) (sound : Sound i) (lacks : Bool) (s a : Input) → Next (IsWord (codes "function")) s a → Holds (FunctionIn lacks s) (function_after_word i lacks (begin_of s.tokens) a)
unfolding function_after_word
sound-function i sound true s a w = bind (sound-star a) λ generator b d. if-holds _ _ _ b (λ h. sound-unnamed i sound generator s a b w d) (λ h. sound-named-function i sound true generator s a b w d)
sound-function i sound false s a w = bind (sound-star a) λ generator b d. sound-named-function i sound false generator s a b w d

-- ## Methods

abbrev pub MethodIn : Flags → Input → Method → Input → Type 0
MethodIn f s x c = Moves s c × IsMethod f s.tokens x c.tokens

abbrev placed : ℕ → ℕ → Span
placed begin end = record { begin = begin; end = end }

pub both : {A B C : Type 0} (make : A → B → C) {a b : A} {c d : B} → a ≡ b → c ≡ d → make a c ≡ make b d
both make {a = a} {d = d} e h = ap (λ span. make a span) h ∙ ap (λ span. make span d) e

plain-rule : (f : Flags) {s a c : Input} {k : Key} {es : List Parameter} {ss : List Statement} → KeyIn f s k a → SignatureIn false a es ss c
    → MethodIn f s (method_of (placed (begin_of s.tokens) c.last) PlainMethod k (placed (begin_of a.tokens) c.last) es ss) c
plain-rule f {k = k} {es = es} {ss = ss} (m, d) (m', d') = (m ⟫ m', g.plain_method k es ss _ d d' (both (λ whole from_parameters. method_of whole PlainMethod k from_parameters es ss) (span-across (m ⟫ m')) (span-across m')))

pub sound-plain-method : (i : Inner) (sound : Sound i) (f : Flags) (k : Key) (s a : Input) → KeyIn f s k a → Holds (MethodIn f s) (method_after_key i PlainMethod false (begin_of s.tokens) k a)
unfolding method_after_key
sound-plain-method i sound f k s a d = bind (sound-signature i sound false a) λ r c d'. took (plain-rule f d d')

generator-rule : (f : Flags) {s a b c : Input} {k : Key} {es : List Parameter} {ss : List Statement} → Next (IsMark marks.Star) s a → KeyIn f a k b → SignatureIn true b es ss c
    → MethodIn f s (method_of (placed (begin_of s.tokens) c.last) GeneratorMethod k (placed (begin_of b.tokens) c.last) es ss) c
generator-rule f {k = k} {es = es} {ss = ss} (next p) (m, d) (m', d') =
    (one ⟫ m ⟫ m', g.generator_method k es ss _ p d d' (both (λ whole from_parameters. method_of whole GeneratorMethod k from_parameters es ss) (span-across (one {last = 0} ⟫ m ⟫ m')) (span-across m')))

pub sound-generator-method : (i : Inner) (sound : Sound i) (f : Flags) (s a : Input) → Next (IsMark marks.Star) s a → Holds (MethodIn f s) (generator_method i f (begin_of s.tokens) a)
unfolding generator_method method_after_key
sound-generator-method i sound f s a p = bind (sound-key i sound f a) λ k b d. bind (sound-signature i sound true b) λ r c d'. took (generator-rule f p d d')

-- an accessor's parameters and the closing parenthesis
data AccessorParameters : Bool → Input → List Parameter → Input → Type 0 where
  no_value : {s c : Input} → Next (IsMark marks.RightParenthesis) s c → AccessorParameters false s [] c
  one_value : {s a c : Input} (q : Part) → PartIn (of_function false) s q a → Next (IsMark marks.RightParenthesis) a c → AccessorParameters true s (SingleParameter q ∷ []) c

sound-accessor-parameters : (i : Inner) (sound : Sound i) (setter : Bool) (s : Input) → Holds (AccessorParameters setter s) (accessor_parameters i setter s)
unfolding accessor_parameters one_parameter no_parameter
sound-accessor-parameters i sound true s = bind (sound.part (of_function false) s) λ q a d. bind (take-mark _ a) λ t c h. took (one_value q d h)
sound-accessor-parameters i sound false s = bind (take-mark _ s) λ t c h. took (no_value h)

data AccessorGroup (setter : Bool) : Input → List Parameter → Input → Type 0 where
  accessor_group : {s a c : Input} {es : List Parameter} → Next (IsMark marks.LeftParenthesis) s a → AccessorParameters setter a es c → AccessorGroup setter s es c

-- the parameters that an accessor has
data AreAccessors : Bool → List Parameter → Type 0 where
  none_of_getter : AreAccessors false []
  one_of_setter : (q : Part) → AreAccessors true (SingleParameter q ∷ [])

accessor-signature : {setter : Bool} {s a c : Input} {es : List Parameter} {ss : List Statement} → AccessorGroup setter s es a → BracedIn (of_function false) a ss c → SignatureIn false s es ss c × AreAccessors setter es
accessor-signature (accessor_group (next p) (no_value (next q))) (braced (next b) (m, d)) = ((one ⟫ one ⟫ one ⟫ m, g.signature _ _ p (g.no_parameter q) b d), none_of_getter)
accessor-signature (accessor_group (next p) (one_value v (m', d') (next q))) (braced (next b) (m, d)) =
    ((one ⟫ m' ⟫ one ⟫ one ⟫ m, g.signature _ _ p (g.last_parameter v _ d' q refl) b d), one_of_setter v)

accessor-rule : (f : Flags) {setter : Bool} {s a b c : Input} {k : Key} {es : List Parameter} {ss : List Statement} → Next (IsWord (accessor_name setter)) s a → KeyIn f a k b → SignatureIn false b es ss c → AreAccessors setter es
    → MethodIn f s (method_of (placed (begin_of s.tokens) c.last) (accessor_kind setter) k (placed (begin_of b.tokens) c.last) es ss) c
accessor-rule f {k = k} {ss = ss} (next w) (m, d) (m', d') none_of_getter =
    (one ⟫ m ⟫ m', g.getter k ss _ w d d' (both (λ whole from_parameters. method_of whole GetterMethod k from_parameters [] ss) (span-across (one {last = 0} ⟫ m ⟫ m')) (span-across m')))
accessor-rule f {k = k} {ss = ss} (next w) (m, d) (m', d') (one_of_setter v) =
    (one ⟫ m ⟫ m', g.setter k v (SingleParameter v) ss _ w d d' refl (both (λ whole from_parameters. method_of whole SetterMethod k from_parameters (SingleParameter v ∷ []) ss) (span-across (one {last = 0} ⟫ m ⟫ m')) (span-across m')))

-- an accessor after its `get` or `set`
pub sound-accessor : (i : Inner) (sound : Sound i) (f : Flags) (setter : Bool) (s a : Input) → Next (IsWord (accessor_name setter)) s a → Holds (MethodIn f s) (accessor i f (begin_of s.tokens) setter a)
unfolding accessor function_body
sound-accessor i sound f setter s a w = bind (sound-key i sound f a) λ k b d.
    bind (group-holds {Q = AccessorGroup setter b} i _ _ _ b (λ e h. weaken (sound-accessor-parameters i sound setter e) (λ es c d'. accessor_group h d')) (λ m. refused-holds b)) λ es e ps.
    bind (sound-braced i sound (of_function false) e) λ ss c bs. took (let r = accessor-signature ps bs in accessor-rule f w d r.0 r.1)

word-key : (f : Flags) (name : List ℕ) {s a : Input} → Next (IsWord name) s a → KeyIn f s (WordKey (placed (begin_of s.tokens) a.last) name) a
word-key f name w = key-rule f (WordToken name) w

sound-accessor-word : (i : Inner) (sound : Sound i) (f : Flags) (setter : Bool) (s a : Input) → Next (IsWord (accessor_name setter)) s a → Holds (MethodIn f s) (method_after_accessor_word i f (begin_of s.tokens) setter a)
unfolding method_after_accessor_word
sound-accessor-word i sound f setter s a w = if-holds _ _ _ a (λ h. sound-plain-method i sound f _ s a (word-key f (accessor_name setter) w)) (λ h. sound-accessor i sound f setter s a w)

-- a method from its place on, which may lie before it
pub sound-method : (i : Inner) (sound : Sound i) (f : Flags) (s : Input) → Holds (MethodIn f s) (method i f s)
unfolding method
sound-method i sound f s = on-mark _ _ _ s (λ t a p. sound-generator-method i sound f s a p) (λ m. on-means accessor_at (λ setter t. IsWord (accessor_name setter) t) accessor-means _ _ s
    (λ setter a w. sound-accessor-word i sound f setter s a w)
    (λ m. bind (sound-key i sound f s) λ k a d. sound-plain-method i sound f k s a d))

-- ## Classes

instance-rule : (f : Flags) {s c : Input} {m : Method} → MethodIn f s m c → MemberIn f s (member_of false m (placed (begin_of s.tokens) c.last)) c
instance-rule f {m = m} (moves, d) = record { moves = moves; derived = λ ms us ds. g.instance_member m _ ms d (ap (member_of false m) (span-across moves)) ds }

static-rule : (f : Flags) {s a c : Input} {m : Method} → Next (IsWord (codes "static")) s a → MethodIn f a m c → MemberIn f s (member_of true m (placed (begin_of s.tokens) c.last)) c
static-rule f {m = m} (next w) (moves, d) = record { moves = one ⟫ moves; derived = λ ms us ds. g.static_member m _ ms w d (ap (member_of true m) (span-across (one {last = 0} ⟫ moves))) ds }

sound-static : (i : Inner) (sound : Sound i) (f : Flags) (s a : Input) → Next (IsWord (codes "static")) s a → Holds (MemberIn f s) (member_after_static i f (begin_of s.tokens) a)
unfolding member_after_static
sound-static i sound f s a w = if-holds _ _ _ a
    (λ h. bind (sound-plain-method i sound f _ s a (word-key f (codes "static") w)) λ m c d. took (instance-rule f d))
    (λ h. bind (sound-method i sound f a) λ m c d. took (static-rule f w d))

pub sound-member : (i : Inner) (sound : Sound i) (f : Flags) (s : Input) → Holds (MemberIn f s) (one_member i f s)
unfolding one_member
sound-member i sound f s = on-word _ _ _ s (λ t a w. sound-static i sound f s a w) (λ m. bind (sound-method i sound f s) λ m c d. took (instance-rule f d))

abbrev MembersIn : Flags → Input → List ClassMember → Input → Type 0
MembersIn f s ms c = Moves s c × AreMembers f s.tokens ms c.tokens

members-none : (f : Flags) {s c : Input} → Next (IsMark marks.RightBrace) s c → MembersIn f s [] c
members-none f (next e) = (one, g.no_member e)

members-semicolon : (f : Flags) {s a c : Input} {ms : List ClassMember} → Next (IsMark marks.Semicolon) s a → MembersIn f a ms c → MembersIn f s ms c
members-semicolon f (next e) (m, d) = (one ⟫ m, g.semicolon_member _ e d)

members-next : (f : Flags) {s a c : Input} {x : ClassMember} {ms : List ClassMember} → MemberIn f s x a → MembersIn f a ms c → MembersIn f s (x ∷ ms) c
members-next f {c = c} {ms = ms} r (m, d) = (r.moves ⟫ m, r.derived ms c.tokens d)

sound-members : (i : Inner) (sound : Sound i) (f : Flags) (turns : ℕ) (s : Input) → Holds (MembersIn f s) (members i f turns s)
unfolding members
sound-members i sound f zero s = fault
sound-members i sound f (suc turns) s = on-mark _ _ _ s (λ t c h. took (members-none f h)) (λ m. on-mark _ _ _ s
    (λ t a h. weaken (sound-members i sound f turns a) (λ ms c d. members-semicolon f h d))
    (λ m. bind (sound.member f s) λ x a r. bind (sound-members i sound f turns a) λ ms c d. took (members-next f r d)))

data HeritageIn (f : Flags) : Input → Option Expression → Input → Type 0 where
  no_heritage : {s : Input} → HeritageIn f s None s
  extends : {s a c : Input} (x : Reading) → Next (IsWord (codes "extends")) s a → ReadAmong f level_left_hand_side a x c → HeritageIn f s (Some x.value) c

sound-heritage : (i : Inner) (sound : Sound i) (f : Flags) (s : Input) → Holds (HeritageIn f s) (heritage i f s)
unfolding heritage
sound-heritage i sound f s = on-word _ _ _ s (λ t a w. bind (sound.heritage f a) λ x c r. took (extends x w r)) (λ m. took no_heritage)

data MembersGroup (f : Flags) : Input → List ClassMember → Input → Type 0 where
  members_group : {s a c : Input} {ms : List ClassMember} → Next (IsMark marks.LeftBrace) s a → MembersIn f a ms c → MembersGroup f s ms c

abbrev TailIn : Flags → Input → Option Expression → List ClassMember → Input → Type 0
TailIn f s h ms c = Moves s c × IsClassTail f s.tokens h ms c.tokens

tail-rule : (f : Flags) {s a c : Input} {h : Option Expression} {ms : List ClassMember} → HeritageIn f s h a → MembersGroup f a ms c → TailIn f s h ms c
tail-rule f no_heritage (members_group (next p) (m, d)) = (one ⟫ m, g.base_class _ p d)
tail-rule f (extends x (next w) r) (members_group (next p) (m, d)) = (one ⟫ r.moves ⟫ one ⟫ m, g.derived_class x.value _ w r.derived p d)

abbrev pub ClassIn : Flags → Bool → Input → Class → Input → Type 0
ClassIn f lacks s x c = Moves s c × IsClass f lacks s.tokens x c.tokens

abbrev class_of : Option Identifier → Option Expression → List ClassMember → Span → Class
class_of name h ms span = roll-Class (record { span = span; name = name; heritage = h; members = ms })

unnamed-class-rule : (f : Flags) {s a c : Input} {h : Option Expression} {ms : List ClassMember} → Next (IsWord (codes "class")) s a → TailIn f a h ms c → ClassIn f true s (class_of None h ms (placed (begin_of s.tokens) c.last)) c
unnamed-class-rule f {h = h} {ms = ms} (next w) (m, d) = (one ⟫ m, g.unnamed_class h ms _ w d (ap (class_of None h ms) (span-across (one {last = 0} ⟫ m))))

named-class-rule : (f : Flags) (lacks : Bool) {s a b c : Input} {n : Identifier} {h : Option Expression} {ms : List ClassMember} → Next (IsWord (codes "class")) s a → NameIn a n b → TailIn f b h ms c
    → ClassIn f lacks s (class_of (Some n) h ms (placed (begin_of s.tokens) c.last)) c
named-class-rule f lacks {n = n} {h = h} {ms = ms} (next w) (m, d) (m', d') = (one ⟫ m ⟫ m', g.named_class n h ms _ w d d' (ap (class_of (Some n) h ms) (span-across (one {last = 0} ⟫ m ⟫ m'))))

sound-tail : (i : Inner) (sound : Sound i) (f : Flags) (name : Option Identifier) {Q : Class → Input → Type 0} (at : ℕ) (s : Input)
    → ((h : Option Expression) (ms : List ClassMember) (c : Input) → TailIn f s h ms c → Q (class_of name h ms (placed at c.last)) c) → Holds Q (rest_of_class i f at name s)
unfolding rest_of_class
sound-tail i sound f name at s rule = bind (sound-heritage i sound f s) λ h a d.
    bind (group-holds {Q = MembersGroup f a} i _ _ _ a (λ b p. weaken (sound-members i sound f i.fuel b) (λ ms c ds. members_group p ds)) (λ m. refused-holds a)) λ ms c ds. took (rule h ms c (tail-rule f d ds))

sound-named-class : (i : Inner) (sound : Sound i) (f : Flags) (lacks : Bool) (s a : Input) → Next (IsWord (codes "class")) s a → Holds (ClassIn f lacks s) (named_class i f (begin_of s.tokens) a)
unfolding named_class
sound-named-class i sound f lacks s a w = bind (sound-identifier a) λ n b d. sound-tail i sound f (Some n) (begin_of s.tokens) b (λ h ms c t. named-class-rule f lacks w d t)

-- a class after its `class`
pub sound-class : (i : Inner) (sound : Sound i) (f : Flags) (lacks : Bool) (s a : Input) → Next (IsWord (codes "class")) s a → Holds (ClassIn f lacks s) (class_after_word i f lacks (begin_of s.tokens) a)
unfolding class_after_word
sound-class i sound f true s a w = if-holds _ _ _ a (λ m. sound-tail i sound f None (begin_of s.tokens) a (λ h ms c t. unnamed-class-rule f w t)) (λ m. sound-named-class i sound f true s a w)
sound-class i sound f false s a w = sound-named-class i sound f false s a w

-- ## Templates

abbrev pub TemplateIn : Flags → Input → Template → Input → Type 0
TemplateIn f s m c = Moves s c × IsTemplate f s.tokens m c.tokens

abbrev TemplatePartsIn : Flags → Input → List TemplatePart → Input → Type 0
TemplatePartsIn f s ms c = Moves s c × AreTemplateParts f s.tokens ms c.tokens

parts-last : (f : Flags) {s a c : Input} (x : Reading) (r : Stretch) → ReadWhole (with_in f) level_sequence s x a → Next (IsStretch false true r) a c → TemplatePartsIn f s (template_part x.value r ∷ []) c
parts-last f x r d (next e) = (d.moves ⟫ one, g.last_template_part x.value r.cooked r.raw _ d.derived e.0 (ap (λ span. template_part x.value (record { span = span; cooked = r.cooked; raw = r.raw })) e.1))

parts-next : (f : Flags) {s a b c : Input} (x : Reading) (r : Stretch) {ms : List TemplatePart} → ReadWhole (with_in f) level_sequence s x a → Next (IsStretch false false r) a b → TemplatePartsIn f b ms c → TemplatePartsIn f s (template_part x.value r ∷ ms) c
parts-next f x r {ms = ms} d (next e) (m, ds) = (d.moves ⟫ one ⟫ m, g.next_template_part x.value r.cooked r.raw _ ms d.derived e.0 (ap (λ span. template_part x.value (record { span = span; cooked = r.cooked; raw = r.raw })) e.1) ds)

sound-template-parts : (i : Inner) (sound : Sound i) (f : Flags) (turns : ℕ) (s : Input) → Holds (TemplatePartsIn f s) (template_parts i f turns s)
unfolding template_parts
sound-template-parts i sound f zero s = fault
sound-template-parts i sound f (suc turns) s = bind (sound.sequence (with_in f) s) λ x a d. on-means (stretch_at false true) (IsStretch false true) (stretch-means false true) _ _ a
    (λ r c h. took (parts-last f x r d h))
    (λ m. bind (take-means (stretch_at false false) (IsStretch false false) (stretch-means false false) a) λ r b h. bind (sound-template-parts i sound f turns b) λ ms c ds. took (parts-next f x r d h ds))

abbrev template_of : Stretch → List TemplatePart → Span → Template
template_of r ms span = roll-Template (record { span = span; first = r; rest = ms })

placed-stretch : (r : Stretch) (span : Span) → r.span ≡ span → r ≡ record { span = span; cooked = r.cooked; raw = r.raw }
placed-stretch r span e = ap (λ at. record { span = at; cooked = r.cooked; raw = r.raw }) e

whole-rule : (f : Flags) {s c : Input} (r : Stretch) → Next (IsStretch true true r) s c → TemplateIn f s (template_of r [] (placed (begin_of s.tokens) c.last)) c
whole-rule f r (next {t = t} e) = (one, g.whole_template r.cooked r.raw _ e.0 (ap (λ q. template_of q [] t.span) (placed-stretch r t.span e.1)))

parted-rule : (f : Flags) {s a c : Input} (r : Stretch) {ms : List TemplatePart} → Next (IsStretch true false r) s a → TemplatePartsIn f a ms c → TemplateIn f s (template_of r ms (placed (begin_of s.tokens) c.last)) c
parted-rule f r {ms = ms} (next {t = t} e) (m, d) = (one ⟫ m, g.parted_template r.cooked r.raw ms _ e.0 d (both (λ span q. template_of q ms span) (span-across (one {t = t} {last = 0} ⟫ m)) (placed-stretch r t.span e.1)))

sound-parted : (i : Inner) (sound : Sound i) (f : Flags) (r : Stretch) (s a : Input) → Next (IsStretch true false r) s a → Holds (TemplateIn f s) (parted_template i f (begin_of s.tokens) r a)
unfolding parted_template
sound-parted i sound f r s a h = bind (sound-template-parts i sound f i.fuel a) λ ms c ds. took (parted-rule f r h ds)

-- where neither a whole template begins nor one with parts, none does
no-head : (k : Filling) (span : Span) → stretch_in true true span k ≡ None → stretch_in true false span k ≡ None → is_template_head k ≡ false
no-head (Read (kinds.Template cooked raw true true)) span h k = absurd (cc)
no-head (Read (kinds.Template cooked raw true false)) span h k = absurd (cc)
no-head (Read (kinds.Template cooked raw false last)) span h k = refl
no-head (Read (kinds.Word name)) span h k = refl
no-head (Read (kinds.Punctuator p)) span h k = refl
no-head (Read (kinds.Number n)) span h k = refl
no-head (Read (kinds.Text units)) span h k = refl
no-head (Read (kinds.Fault e)) span h k = refl
no-head (Read kinds.End) span h k = refl
no-head (Inserted do_while) span h k = refl

abbrev pub NoTemplate : List Filled → Type 0
NoTemplate ts = next_is (λ t. is_template_head t.kind) ts ≡ false

no-template : (ts : List Filled) → Misses (stretch_at true true) ts → Misses (stretch_at true false) ts → NoTemplate ts
no-template [] h k = refl
no-template (t ∷ ts) h k = no-head t.kind t.span h k

none-of : {B : Type 0} (o : Option B) → is_some o ≡ false → o ≡ None
none-of None h = refl
none-of (Some x) h = absurd (true≢false h)

none-missed : {B : Type 0} (test : Filled → Option B) (ts : List Filled) → next_is (λ t. is_some (test t)) ts ≡ false → Misses test ts
none-missed test [] h = tt
none-missed test (t ∷ ts) h = none-of (test t) h

pub template-holds : {A : Type 0} {Q : A → Input → Type 0} (i : Inner) (sound : Sound i) (f : Flags) (p : Template → Parser A) (q : Parser A) (s : Input)
    → ((m : Template) (c : Input) → TemplateIn f s m c → Holds Q (p m c)) → (NoTemplate s.tokens → Holds Q (q s)) → Holds Q (on_template i f (begin_of s.tokens) p q s)
template-holds i sound f p q s here there = on-means (stretch_at true true) (IsStretch true true) (stretch-means true true) _ _ s
    (λ r c h. here _ c (whole-rule f r h))
    (λ w. if-holds _ _ _ s (λ h. choose-holds _ _ i.may_open s (λ o. on-means (stretch_at true false) (IsStretch true false) (stretch-means true false) _ _ s
    (λ r a h. bind (sound-parted i sound f r s a h) λ m c d. here m c d)
    (λ v. there (no-template s.tokens w v))) (λ o. fault))
    (λ h. there (no-template s.tokens w (none-missed (stretch_at true false) s.tokens h))))
