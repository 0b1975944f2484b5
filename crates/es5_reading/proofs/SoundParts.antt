-- What the readers of a construct's inside give, if those of one construct deeper give derivations of the grammar: functions,
-- literals of objects and arrays, arguments.
use Rattle.std.proofs.Common.{◌≡◌, ℕ, zero, suc, Bool, true, false, List, [], ◌∷◌, Option, Some, None, refl}
use Rattle.std.specs.Prelude.{codes}
use Rattle.es5_ast.specs.declared.tree.Identifier5.{Identifier5}
use Rattle.es5_ast.specs.declared.tree.PlacedKey5.{PlacedKey5}
use Rattle.es5_ast.specs.declared.tree.Stat5.{Stat5}
use Rattle.es5_ast.specs.declared.tree.Declared5.{Declared5}
use Rattle.es5_ast.specs.declared.tree.Function5.{Function5, roll-Function5}
use Rattle.es5_ast.specs.declared.tree.Expr5.{Expr5}
use Rattle.es5_ast.specs.declared.tree.Element5.{Element5}
use Rattle.es5_ast.specs.declared.tree.Element5.TheVariants as element
use Rattle.es5_ast.specs.declared.tree.Property5.{Property5}
use Rattle.es5_ast.specs.declared.tree.Property5.TheVariants as property
use Rattle.es5_ast.specs.declared.operators.Key5.{Key5}
use Rattle.es5_ast.specs.Lexical.{Kind5, Token5}
use Rattle.es5_ast.specs.Grammar as g
use Rattle.es5_ast.specs.Grammar.{Mode5, Exact, IsExpr, IsIdentifier, IsKey, AreParameters, IsFunction, AreStats, IsStat, AreElements, AreProperties, IsProperty, IsAccessor, AreArguments, IsNewCallee, IsDeclared, IsMark, IsWord, is_identifier, key_kind, begin_of}
use Rattle.es5_ast.specs.Within.{Opens, ExprWithin, ElementsWithin, PropertiesWithin, PropertyWithin, AccessorWithin, ArgumentsWithin, FunctionWithin, StatsWithin, StatWithin, NewCalleeWithin, DeclaredWithin}
use Rattle.es5_reading.specs.Parser.{Input5, next_is, next_mark, Read5, Inner5, group}
use Rattle.es5_reading.specs.Expressions.{free_name, key_at, accessor_name, accessor_of, identifier, key, more_parameters, parameters, statements, body, rest_of_function, function_expression, no_parameter, one_parameter, accessor_parameters, accessor_function, properties, elements, more_arguments, arguments}
use Rattle.es5_reading.proofs.Posts.{Holds, took, fault, bind, weaken, if-holds}
use Rattle.es5_reading.proofs.Meanings.{free-name-means, key-means}
use Rattle.es5_reading.proofs.Spans.{Moves, ◌⟫◌, span-across}
use Rattle.es5_reading.proofs.Derived.{ExprOpen, ReadOpen, both_open, Next, next, take-means, one, step, on-mark, take-mark, group-holds}

-- the next token goes on with no access, and with no call where the mark says so
abbrev pub Stopped : Bool → List Token5 → Type 0
Stopped calls ts = (next_is (next_mark (codes ".")) ts ≡ false) × (next_is (next_mark (codes "[")) ts ≡ false) × (calls ≡ true → next_is (next_mark (codes "(")) ts ≡ false)

-- what `new` has before its arguments
pub record CalleeOpen (n : ℕ) (s : Input5) (x : Read5) (c : Input5) : Type 0 where
  pub moves : Moves s c
  pub callee : (d : IsNewCallee Exact s.tokens x.value c.tokens) × Opens n (NewCalleeWithin d)
  pub member : next_is (next_mark (codes "(")) c.tokens ≡ true → ExprOpen n false 17 s x.value c
  pub stopped : Stopped false c.tokens

abbrev pub StatOpen : ℕ → Bool → Bool → Input5 → Stat5 → Input5 → Type 0
StatOpen n inside top s x c = Moves s c × (d : IsStat Exact inside top s.tokens x c.tokens) × Opens n (StatWithin d)

abbrev pub PropertyOpen : ℕ → Input5 → Property5 → Input5 → Type 0
PropertyOpen n s x c = Moves s c × (d : IsProperty Exact s.tokens x c.tokens) × Opens n (PropertyWithin d)

abbrev pub DeclaredOpen : ℕ → Bool → Input5 → Declared5 → Input5 → Type 0
DeclaredOpen n k s x c = Moves s c × (d : IsDeclared Exact k s.tokens x c.tokens) × Opens n (DeclaredWithin d)

-- The readers for one construct deeper give derivations, and at most so many constructs are open with theirs. No
-- semicolon is inserted.
pub record Sound (i : Inner5) (n : ℕ) : Type 0 where
  pub plain : i.inserting ≡ false
  pub opens : i.may_open ≡ true → Opens n (λ m. Unit {0})
  pub sequence : (k : Bool) (s : Input5) → Holds (ReadOpen n k 0 s) (i.sequence k s)
  pub assignment : (k : Bool) (s : Input5) → Holds (ReadOpen n k 1 s) (i.assignment k s)
  pub unary : (s : Input5) → Holds (ReadOpen n false 13 s) (i.unary s)
  pub callee : (s : Input5) → Holds (CalleeOpen n s) (i.callee s)
  pub property : (s : Input5) → Holds (PropertyOpen n s) (i.property s)
  pub declared : (k : Bool) (s : Input5) → Holds (DeclaredOpen n k s) (i.declared k s)
  pub statement : (inside top : Bool) (s : Input5) → Holds (StatOpen n inside top s) (i.statement inside top s)

-- ## Identifiers and parameters

abbrev pub IdentifierIn : Input5 → Identifier5 → Input5 → Type 0
IdentifierIn s x c = Moves s c × IsIdentifier Exact s.tokens x c.tokens

abbrev pub IsFree : List ℕ → Token5 → Type 0
IsFree name t = IsWord name t × (is_identifier name ≡ true)

pub identifier-rule : {s c : Input5} {name : List ℕ} → Next (IsFree name) s c → IsIdentifier Exact s.tokens (record { span = record { begin = begin_of s.tokens; end = c.last }; name = name }) c.tokens
identifier-rule (next {t = t} {ts = ts} {last = last} e) = record { token = t; first = refl; word = e.0; free = e.1; spans = span-across (one {t = t} {ts = ts} {last = last}) }

pub sound-identifier : (s : Input5) → Holds (IdentifierIn s) (identifier s)
unfolding identifier
sound-identifier s = bind (take-means free_name IsFree free-name-means s) λ name c h. took (step h, identifier-rule h)

abbrev pub KeyIn : Input5 → PlacedKey5 → Input5 → Type 0
KeyIn s x c = Moves s c × IsKey Exact s.tokens x c.tokens

abbrev pub IsKind : Kind5 → Token5 → Type 0
IsKind k t = t.kind ≡ k

pub key-rule : {s c : Input5} (k : Key5) → Next (IsKind (key_kind k)) s c → IsKey Exact s.tokens (record { span = record { begin = begin_of s.tokens; end = c.last }; key = k }) c.tokens
key-rule k (next {t = t} {ts = ts} {last = last} e) = record { token = t; first = refl; kind = e; spans = span-across (one {t = t} {ts = ts} {last = last}) }

pub sound-key : (s : Input5) → Holds (KeyIn s) (key s)
unfolding key
sound-key s = bind (take-means key_at (λ k t. IsKind (key_kind k) t) key-means s) λ k c h. took (step h, key-rule k h)

abbrev pub ParametersIn : Input5 → List Identifier5 → Input5 → Type 0
ParametersIn s xs c = Moves s c × AreParameters Exact s.tokens xs c.tokens

-- the parameters after a comma are one at least
data MoreParameters : Input5 → List Identifier5 → Input5 → Type 0 where
  more_of : {s c : Input5} {x : Identifier5} {xs : List Identifier5} → Moves s c → AreParameters Exact s.tokens (x ∷ xs) c.tokens → MoreParameters s (x ∷ xs) c

parameters-last : {s a c : Input5} {x : Identifier5} → IdentifierIn s x a → Next (IsMark (codes ")")) a c → MoreParameters s (x ∷ []) c
parameters-last (m, d) (next e) = more_of (m ⟫ one) (g.last_parameter d e)

parameters-next : {s a b c : Input5} {x : Identifier5} {xs : List Identifier5} → IdentifierIn s x a → Next (IsMark (codes ",")) a b → MoreParameters b xs c → MoreParameters s (x ∷ xs) c
parameters-next (m, d) (next e) (more_of m' ds) = more_of (m ⟫ one ⟫ m') (g.next_parameter d e ds)

parameters-none : {s c : Input5} → Next (IsMark (codes ")")) s c → ParametersIn s [] c
parameters-none (next e) = (one, g.no_parameter e)

parameters-some : {s c : Input5} {xs : List Identifier5} → MoreParameters s xs c → ParametersIn s xs c
parameters-some (more_of m d) = (m, d)

sound-more-parameters : (turns : ℕ) (s : Input5) → Holds (MoreParameters s) (more_parameters turns s)
unfolding more_parameters
sound-more-parameters zero s = fault
sound-more-parameters (suc turns) s = bind (sound-identifier s) λ x a d. on-mark _ _ _ a
    (λ t b h. bind (sound-more-parameters turns b) λ xs c ds. took (parameters-next d h ds))
    (λ m. bind (take-mark _ a) λ t c h. took (parameters-last d h))

pub sound-parameters : (i : Inner5) (s : Input5) → Holds (ParametersIn s) (parameters i s)
unfolding parameters
sound-parameters i s = on-mark _ _ _ s (λ t c h. took (parameters-none h)) (λ m. weaken (sound-more-parameters i.fuel s) (λ xs c d. parameters-some d))

-- ## Functions

abbrev pub StatsOpen : ℕ → Bool → Bool → Input5 → List Stat5 → Input5 → Type 0
StatsOpen n inside top s xs c = Moves s c × (d : AreStats Exact inside top s.tokens xs c.tokens) × Opens n (StatsWithin d)

stats-none : (n : ℕ) {inside top : Bool} {s c : Input5} → Opens n (λ m. Unit {0}) → Next (IsMark (codes "}")) s c → StatsOpen n inside top s [] c
stats-none n o (next e) = (one, g.no_stat e, o)

stats-next : (n : ℕ) {inside top : Bool} {s a c : Input5} {x : Stat5} {xs : List Stat5} → StatOpen n inside top s x a → StatsOpen n inside top a xs c → StatsOpen n inside top s (x ∷ xs) c
stats-next n (m, d, w) (m', ds, ws) = (m ⟫ m', g.next_stat d ds, both_open n _ _ w ws)

pub sound-statements : (i : Inner5) (n : ℕ) (sound : Sound i n) (open_ : Opens n (λ m. Unit {0})) (inside top : Bool) (turns : ℕ) (s : Input5) → Holds (StatsOpen n inside top s) (statements i inside top turns s)
unfolding statements
sound-statements i n sound open_ inside top zero s = fault
sound-statements i n sound open_ inside top (suc turns) s = on-mark _ _ _ s (λ t c h. took (stats-none n open_ h)) (λ m.
    bind (sound.statement inside top s) λ x a d. bind (sound-statements i n sound open_ inside top turns a) λ xs c ds. took (stats-next n d ds))

-- an opening brace, statements and a closing brace
pub data BracedOpen (n : ℕ) (inside top : Bool) : Input5 → List Stat5 → Input5 → Type 0 where
  braced : {s a c : Input5} {xs : List Stat5} → Next (IsMark (codes "{")) s a → Moves a c → (d : AreStats Exact inside top a.tokens xs c.tokens) → Opens n (StatsWithin d) → BracedOpen n inside top s xs c

pub sound-braced : (i : Inner5) (n : ℕ) (sound : Sound i n) (inside top : Bool) (turns : ℕ) (s : Input5) → Holds (BracedOpen n inside top s) (group i (codes "{") (statements i inside top turns) s)
sound-braced i n sound inside top turns s = group-holds i _ _ _ s (λ o c h. weaken (sound-statements i n sound (sound.opens o) inside top turns c) (λ xs d ds. braced h ds.0 ds.1 ds.2)) (λ m. fault)

pub sound-body : (i : Inner5) (n : ℕ) (sound : Sound i n) (s : Input5) → Holds (BracedOpen n true true s) (body i s)
unfolding body
sound-body i n sound s = sound-braced i n sound true true i.fuel s

-- parameters in parentheses
pub data ParametersOpen (n : ℕ) : Input5 → List Identifier5 → Input5 → Type 0 where
  parenthesized : {s a c : Input5} {xs : List Identifier5} → Opens n (λ m. Unit {0}) → Next (IsMark (codes "(")) s a → Moves a c → AreParameters Exact a.tokens xs c.tokens → ParametersOpen n s xs c

pub data FunctionRest (n : ℕ) (begin : ℕ) (name : Option Identifier5) : Input5 → Function5 → Input5 → Type 0 where
  rest_of : {s a c : Input5} {xs : List Identifier5} {ss : List Stat5} {f : Function5} → f ≡ roll-Function5 (record { span = record { begin = begin; end = c.last }; name = name; parameters = xs; body = ss })
      → ParametersOpen n s xs a → BracedOpen n true true a ss c → FunctionRest n begin name s f c

pub sound-rest-of-function : (i : Inner5) (n : ℕ) (sound : Sound i n) (at : ℕ) (name : Option Identifier5) (s : Input5) → Holds (FunctionRest n at name s) (rest_of_function i at name s)
unfolding rest_of_function
sound-rest-of-function i n sound at name s =
    bind (group-holds {Q = ParametersOpen n s} i _ _ _ s (λ o c h. weaken (sound-parameters i c) (λ xs d ds. parenthesized (sound.opens o) h ds.0 ds.1)) (λ m. fault)) λ xs a ps.
    bind (sound-body i n sound a) λ ss c bs. took (rest_of refl ps bs)

abbrev pub FunctionIn : ℕ → Input5 → Function5 → Input5 → Type 0
FunctionIn n s f c = Moves s c × (d : IsFunction Exact s.tokens f c.tokens) × FunctionWithin d n

anonymous-rule : (n : ℕ) {s a c : Input5} {f : Function5} → Next (IsWord (codes "function")) s a → FunctionRest n (begin_of s.tokens) None a f c → FunctionIn n s f c
anonymous-rule n (next w) (rest_of e (parenthesized o (next p) m ps) (braced (next b) m' ss v)) =
    (one ⟫ one ⟫ m ⟫ one ⟫ m', g.anonymous _ _ _ e (span-across (one {last = 0} ⟫ one ⟫ m ⟫ one ⟫ m')) w p ps b ss, (o, v))

named-rule : (n : ℕ) {s a b c : Input5} {x : Identifier5} {f : Function5} → Next (IsWord (codes "function")) s a → IdentifierIn a x b → FunctionRest n (begin_of s.tokens) (Some x) b f c → FunctionIn n s f c
named-rule n (next w) (m0, d) (rest_of e (parenthesized o (next p) m ps) (braced (next b) m' ss v)) =
    (one ⟫ m0 ⟫ one ⟫ m ⟫ one ⟫ m', g.named _ _ _ _ e (span-across (one {last = 0} ⟫ m0 ⟫ one ⟫ m ⟫ one ⟫ m')) w d p ps b ss, (o, v))

pub sound-function : (i : Inner5) (n : ℕ) (sound : Sound i n) (s a : Input5) → Next (IsWord (codes "function")) s a → Holds (FunctionIn n s) (function_expression i (begin_of s.tokens) a)
unfolding function_expression
sound-function i n sound s a w = if-holds _ _ _ a
    (λ h. weaken (sound-rest-of-function i n sound (begin_of s.tokens) None a) (λ f c d. anonymous-rule n w d))
    (λ h. bind (sound-identifier a) λ x b d. weaken (sound-rest-of-function i n sound (begin_of s.tokens) (Some x) b) (λ f c r. named-rule n w d r))

-- ## Object literals

-- an accessor's parameters and the closing parenthesis
data AccessorParameters : Bool → Input5 → List Identifier5 → Input5 → Type 0 where
  no_value : {s c : Input5} → Next (IsMark (codes ")")) s c → AccessorParameters false s [] c
  one_value : {s a c : Input5} {x : Identifier5} → IdentifierIn s x a → Next (IsMark (codes ")")) a c → AccessorParameters true s (x ∷ []) c

sound-accessor-parameters : (setter : Bool) (s : Input5) → Holds (AccessorParameters setter s) (accessor_parameters setter s)
unfolding accessor_parameters one_parameter no_parameter
sound-accessor-parameters true s = bind (sound-identifier s) λ x a d. bind (take-mark _ a) λ t c h. took (one_value d h)
sound-accessor-parameters false s = bind (take-mark _ s) λ t c h. took (no_value h)

data AccessorGroup (n : ℕ) (setter : Bool) : Input5 → List Identifier5 → Input5 → Type 0 where
  accessor_group : {s a c : Input5} {xs : List Identifier5} → Opens n (λ m. Unit {0}) → Next (IsMark (codes "(")) s a → AccessorParameters setter a xs c → AccessorGroup n setter s xs c

abbrev pub AccessorIn : ℕ → Bool → Input5 → Function5 → Input5 → Type 0
AccessorIn n setter s f c = Moves s c × (d : IsAccessor Exact setter s.tokens f c.tokens) × AccessorWithin d n

accessor-rule : (n : ℕ) {setter : Bool} {s a c : Input5} {xs : List Identifier5} {ss : List Stat5} → AccessorGroup n setter s xs a → BracedOpen n true true a ss c
    → AccessorIn n setter s (roll-Function5 (record { span = record { begin = begin_of s.tokens; end = c.last }; name = None; parameters = xs; body = ss })) c
accessor-rule n (accessor_group o (next p) (no_value (next q))) (braced (next b) m d w) =
    (one ⟫ one ⟫ one ⟫ m, g.no_value _ _ refl (span-across (one {last = 0} ⟫ one ⟫ one ⟫ m)) p q b d, (o, w))
accessor-rule n (accessor_group o (next p) (one_value (m0, x) (next q))) (braced (next b) m d w) =
    (one ⟫ m0 ⟫ one ⟫ one ⟫ m, g.one_value _ _ _ refl (span-across (one {last = 0} ⟫ m0 ⟫ one ⟫ one ⟫ m)) p x q b d, (o, w))

pub sound-accessor-function : (i : Inner5) (n : ℕ) (sound : Sound i n) (setter : Bool) (s : Input5) → Holds (AccessorIn n setter s) (accessor_function i setter s)
unfolding accessor_function
sound-accessor-function i n sound setter s =
    bind (group-holds {Q = AccessorGroup n setter s} i _ _ _ s (λ o c h. weaken (sound-accessor-parameters setter c) (λ xs d ps. accessor_group (sound.opens o) h ps)) (λ m. fault)) λ xs a ps.
    bind (sound-body i n sound a) λ ss c bs. took (accessor-rule n ps bs)

abbrev pub PropertyIn : ℕ → Input5 → Property5 → Input5 → Type 0
PropertyIn n s x c = Moves s c × (d : IsProperty Exact s.tokens x c.tokens) × PropertyWithin d n

pub accessor-property-rule : (n : ℕ) (setter : Bool) {s a b c : Input5} {k : PlacedKey5} {f : Function5} → Next (IsWord (accessor_name setter)) s a → KeyIn a k b → AccessorIn n setter b f c
    → PropertyIn n s (accessor_of setter (record { begin = begin_of s.tokens; end = c.last }) k f) c
accessor-property-rule n true (next w) (m, k) (m', d, v) = (one ⟫ m ⟫ m', g.setter _ _ _ refl (span-across (one {last = 0} ⟫ m ⟫ m')) w k d, v)
accessor-property-rule n false (next w) (m, k) (m', d, v) = (one ⟫ m ⟫ m', g.getter _ _ _ refl (span-across (one {last = 0} ⟫ m ⟫ m')) w k d, v)

pub plain-property-rule : (n : ℕ) {s a b c : Input5} {k : PlacedKey5} (x : Read5) → KeyIn s k a → Next (IsMark (codes ":")) a b → Moves b c → (d : IsExpr Exact false 1 b.tokens x.value c.tokens) → ExprWithin d n
    → PropertyIn n s (property.Plain (record { begin = begin_of s.tokens; end = c.last }) k x.value) c
plain-property-rule n x (m, k) (next e) m' d w = (m ⟫ one ⟫ m', g.plain _ _ _ refl (span-across (m ⟫ one ⟫ m')) k e d, w)

abbrev pub PropertiesOpen : ℕ → Input5 → List Property5 → Input5 → Type 0
PropertiesOpen n s xs c = Moves s c × (d : AreProperties Exact s.tokens xs c.tokens) × Opens n (PropertiesWithin d)

properties-none : (n : ℕ) {s c : Input5} → Opens n (λ m. Unit {0}) → Next (IsMark (codes "}")) s c → PropertiesOpen n s [] c
properties-none n o (next e) = (one, g.no_property e, o)

properties-last : (n : ℕ) {s a c : Input5} {x : Property5} → PropertyOpen n s x a → Next (IsMark (codes "}")) a c → PropertiesOpen n s (x ∷ []) c
properties-last n (m, d, w) (next e) = (m ⟫ one, g.last_property d e, w)

properties-next : (n : ℕ) {s a b c : Input5} {x : Property5} {xs : List Property5} → PropertyOpen n s x a → Next (IsMark (codes ",")) a b → PropertiesOpen n b xs c → PropertiesOpen n s (x ∷ xs) c
properties-next n (m, d, w) (next e) (m', ds, ws) = (m ⟫ one ⟫ m', g.next_property d e ds, both_open n _ _ w ws)

pub sound-properties : (i : Inner5) (n : ℕ) (sound : Sound i n) (open_ : Opens n (λ m. Unit {0})) (turns : ℕ) (s : Input5) → Holds (PropertiesOpen n s) (properties i turns s)
unfolding properties
sound-properties i n sound open_ zero s = fault
sound-properties i n sound open_ (suc turns) s = on-mark _ _ _ s (λ t c h. took (properties-none n open_ h)) (λ m. bind (sound.property s) λ x a d. on-mark _ _ _ a
    (λ t b h. bind (sound-properties i n sound open_ turns b) λ xs c ds. took (properties-next n d h ds))
    (λ m. bind (take-mark _ a) λ t c h. took (properties-last n d h)))

-- ## Array literals and arguments

abbrev pub ElementsOpen : ℕ → Input5 → List Element5 → Input5 → Type 0
ElementsOpen n s xs c = Moves s c × (d : AreElements Exact s.tokens xs c.tokens) × Opens n (ElementsWithin d)

elements-none : (n : ℕ) {s c : Input5} → Opens n (λ m. Unit {0}) → Next (IsMark (codes "]")) s c → ElementsOpen n s [] c
elements-none n o (next e) = (one, g.no_element e, o)

elements-hole : (n : ℕ) {s a c : Input5} {xs : List Element5} → Next (IsMark (codes ",")) s a → ElementsOpen n a xs c → ElementsOpen n s (element.Hole ∷ xs) c
elements-hole n (next e) (m, d, w) = (one ⟫ m, g.hole e d, w)

elements-last : (n : ℕ) {s a c : Input5} (x : Read5) → ReadOpen n false 1 s x a → Next (IsMark (codes "]")) a c → ElementsOpen n s (element.Element x.value ∷ []) c
elements-last n x r (next e) = (r.moves ⟫ one, g.last_element r.derived.0 e, r.derived.1)

elements-next : (n : ℕ) {s a b c : Input5} (x : Read5) {xs : List Element5} → ReadOpen n false 1 s x a → Next (IsMark (codes ",")) a b → ElementsOpen n b xs c → ElementsOpen n s (element.Element x.value ∷ xs) c
elements-next n x r (next e) (m, d, w) = (r.moves ⟫ one ⟫ m, g.next_element r.derived.0 e d, both_open n _ _ r.derived.1 w)

pub sound-elements : (i : Inner5) (n : ℕ) (sound : Sound i n) (open_ : Opens n (λ m. Unit {0})) (turns : ℕ) (s : Input5) → Holds (ElementsOpen n s) (elements i turns s)
unfolding elements
sound-elements i n sound open_ zero s = fault
sound-elements i n sound open_ (suc turns) s = on-mark _ _ _ s (λ t c h. took (elements-none n open_ h)) (λ m. on-mark _ _ _ s
    (λ t a h. bind (sound-elements i n sound open_ turns a) λ xs c ds. took (elements-hole n h ds))
    (λ m. bind (sound.assignment false s) λ x a d. on-mark _ _ _ a
    (λ t b h. bind (sound-elements i n sound open_ turns b) λ xs c ds. took (elements-next n x d h ds))
    (λ m. bind (take-mark _ a) λ t c h. took (elements-last n x d h))))

abbrev pub ArgumentsOpen : ℕ → Input5 → List Expr5 → Input5 → Type 0
ArgumentsOpen n s xs c = Moves s c × (d : AreArguments Exact s.tokens xs c.tokens) × Opens n (ArgumentsWithin d)

data MoreArguments (n : ℕ) : Input5 → List Expr5 → Input5 → Type 0 where
  more_arguments_of : {s c : Input5} {x : Expr5} {xs : List Expr5} → Moves s c → (d : AreArguments Exact s.tokens (x ∷ xs) c.tokens) → Opens n (ArgumentsWithin d) → MoreArguments n s (x ∷ xs) c

arguments-none : (n : ℕ) {s c : Input5} → Opens n (λ m. Unit {0}) → Next (IsMark (codes ")")) s c → ArgumentsOpen n s [] c
arguments-none n o (next e) = (one, g.no_argument e, o)

arguments-last : (n : ℕ) {s a c : Input5} (x : Read5) → ReadOpen n false 1 s x a → Next (IsMark (codes ")")) a c → MoreArguments n s (x.value ∷ []) c
arguments-last n x r (next e) = more_arguments_of (r.moves ⟫ one) (g.last_argument r.derived.0 e) r.derived.1

arguments-next : (n : ℕ) {s a b c : Input5} (x : Read5) {xs : List Expr5} → ReadOpen n false 1 s x a → Next (IsMark (codes ",")) a b → MoreArguments n b xs c → MoreArguments n s (x.value ∷ xs) c
arguments-next n x r (next e) (more_arguments_of m d w) = more_arguments_of (r.moves ⟫ one ⟫ m) (g.next_argument r.derived.0 e d) (both_open n _ _ r.derived.1 w)

arguments-some : (n : ℕ) {s c : Input5} {xs : List Expr5} → MoreArguments n s xs c → ArgumentsOpen n s xs c
arguments-some n (more_arguments_of m d w) = (m, d, w)

sound-more-arguments : (i : Inner5) (n : ℕ) (sound : Sound i n) (turns : ℕ) (s : Input5) → Holds (MoreArguments n s) (more_arguments i turns s)
unfolding more_arguments
sound-more-arguments i n sound zero s = fault
sound-more-arguments i n sound (suc turns) s = bind (sound.assignment false s) λ x a d. on-mark _ _ _ a
    (λ t b h. bind (sound-more-arguments i n sound turns b) λ xs c ds. took (arguments-next n x d h ds))
    (λ m. bind (take-mark _ a) λ t c h. took (arguments-last n x d h))

pub sound-arguments : (i : Inner5) (n : ℕ) (sound : Sound i n) (open_ : Opens n (λ m. Unit {0})) (s : Input5) → Holds (ArgumentsOpen n s) (arguments i s)
unfolding arguments
sound-arguments i n sound open_ s = on-mark _ _ _ s (λ t c h. took (arguments-none n open_ h)) (λ m. weaken (sound-more-arguments i n sound i.fuel s) (λ xs c d. arguments-some n d))
