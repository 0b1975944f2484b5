-- Each production of expressions is read, if its parts are.
use Rattle.std.proofs.Common.{◌≡◌, ℕ, suc, Bool, true, false, List, [], ◌∷◌, Option, Some, None, refl, sym, ap, subst, arith}
use Rattle.std.proofs.lemmas.Bool.{false≢true}
use Rattle.std.specs.Prelude.{codes}
use Rattle.es_text.specs.declared.Span.{Span}
use Rattle.es5_ast.specs.declared.operators.Key5.{Key5}
use Rattle.es5_ast.specs.declared.operators.Key5.TheVariants as keys
use Rattle.es5_ast.specs.declared.tree.Identifier5.{Identifier5}
use Rattle.es5_ast.specs.declared.tree.PlacedKey5.{PlacedKey5}
use Rattle.es5_ast.specs.declared.tree.Expr5.{Expr5}
use Rattle.es5_ast.specs.declared.tree.Stat5.{Stat5}
use Rattle.es5_ast.specs.declared.tree.Function5.{Function5, roll-Function5}
use Rattle.es5_ast.specs.declared.tree.Property5.{Property5}
use Rattle.es5_ast.specs.declared.tree.Element5.{Element5}
use Rattle.es5_ast.specs.declared.tree.Element5.TheVariants as element
use Rattle.es5_ast.specs.Lexical.{Token5, Word, Integer, Text, Punctuator, is_one_of}
use Rattle.es5_ast.specs.Grammar as g
use Rattle.es5_ast.specs.Grammar.{Exact, IsIdentifier, IsKey, AreParameters, IsMark, IsWord, is_mark, is_word, is_identifier, key_kind, begin_of, across}
use Rattle.es5_ast.specs.Within.{Opens}
use Rattle.es5_reading.specs.Parser.{Input5, Read5, next_is, kept_if, take_as, mark, word, next_mark, group}
use Rattle.es5_reading.specs.Expressions.{name_if, free_name, key_at, identifier, key, more_parameters, parameters, statements, body, rest_of_function, no_parameter, one_parameter, accessor_parameters, accessor_function, one_property, properties, elements, more_arguments, arguments, binary_from}
use Rattle.es5_reading.specs.Programs.{readers}
use Rattle.es5_reading.proofs.Posts.{Misses}
use Rattle.es5_reading.proofs.Meanings.{bytes_eq-refl}
use Rattle.es5_reading.proofs.Spans.{Moves, ◌⟫◌, span-across}
use Rattle.es5_reading.proofs.Derived.{one}
use Rattle.es5_reading.proofs.Reading.{ReadsOf, reads_, Reads, done, later, placed, bind-reads, on-hit, on-miss, take-hit, group-hit, Eventually, always, both, pair, deeper, inside_, turn, once, begin}
use Rattle.es5_reading.proofs.CompleteTokens.{at-kind, operand_marks, prefix_marks, operand_name, First, first_operand, BeginsFirst, begins_first_at, first-no-mark, Closes, closes-up, mark-miss, closes-close, closes-square, closes-comma}
use Rattle.es5_reading.proofs.CompleteLevels.{R, at-fuel, reading, ChainReads, sequence_level, assignment_level, binary_level_, Claim}

-- ## Tokens

kept-some : (b : Bool) (t : Token5) → b ≡ true → kept_if b t ≡ Some t
kept-some true t h = refl
kept-some false t h = absurd (false≢true h)

pub is-mark-true : (p : List ℕ) (t : Token5) → IsMark p t → is_mark p t.kind ≡ true
is-mark-true p t h = rw h (bytes_eq-refl p)

pub is-word-true : (w : List ℕ) (t : Token5) → IsWord w t → is_word w t.kind ≡ true
is-word-true w t h = rw h (bytes_eq-refl w)

pub mark-hit : (p : List ℕ) (t : Token5) → IsMark p t → mark p t ≡ Some t
mark-hit p t h = kept-some (is_mark p t.kind) t (is-mark-true p t h)

pub word-hit : (w : List ℕ) (t : Token5) → IsWord w t → word w t ≡ Some t
word-hit w t h = kept-some (is_word w t.kind) t (is-word-true w t h)

pub mark-other : (p q : List ℕ) (t : Token5) → is_mark p (Punctuator q) ≡ false → IsMark q t → mark p t ≡ None
mark-other p q t h e = mark-miss p t (subst (λ k. is_mark p k ≡ false) (sym e) h)

pub take-mark : (p : List ℕ) (t : Token5) (ts : List Token5) (last : ℕ) → IsMark p t → ReadsOf (λ c. Moves (record { tokens = t ∷ ts; last = last }) c) t ts (take_as (mark p) (record { tokens = t ∷ ts; last = last }))
take-mark p t ts last e = take-hit (mark p) t t ts last (mark-hit p t e)

pub first-misses : (p : List ℕ) (ts : List Token5) → is_one_of p operand_marks ≡ false → is_one_of p prefix_marks ≡ false → BeginsFirst ts → Misses (mark p) ts
first-misses p ts n m (begins_first_at {t = t} h) = mark-miss p t (first-no-mark p t.kind n m h)

name-is : (name : List ℕ) (t : Token5) → IsWord name t → is_identifier name ≡ true → free_name t ≡ Some name
name-is name t e h = at-kind (λ u. free_name u ≡ Some name) t (Word name) e (ap (λ b. name_if b name) h)

-- a name of an identifier
abbrev pub identifier_of : Span → List ℕ → Identifier5
identifier_of span name = record { span = span; name = name }

pub identifier-reads : {ts us : List Token5} {x : Identifier5} → IsIdentifier Exact ts x us → Reads identifier x ts us
unfolding identifier
identifier-reads {ts = ts} {us = us} {x = x} d last = subst (λ vs. ReadsOf (λ c. Moves (record { tokens = vs; last = last }) c) x us (identifier (record { tokens = vs; last = last }))) (sym d.first)
    (bind-reads _ (take-hit free_name d.token x.name us last (name-is x.name d.token d.word d.free)) (λ n m. done (placed (λ z. identifier_of z x.name) m refl (subst (λ vs. x.span ≡ across vs us) d.first d.spans)) m))

key-is : (k : Key5) (t : Token5) → t.kind ≡ key_kind k → key_at t ≡ Some k
key-is (keys.WordKey name) t e = at-kind (λ u. key_at u ≡ Some (keys.WordKey name)) t (Word name) e refl
key-is (keys.TextKey units) t e = at-kind (λ u. key_at u ≡ Some (keys.TextKey units)) t (Text units) e refl
key-is (keys.IntegerKey value) t e = at-kind (λ u. key_at u ≡ Some (keys.IntegerKey value)) t (Integer value) e refl

abbrev pub key_of : Span → Key5 → PlacedKey5
key_of span k = record { span = span; key = k }

pub key-reads : {ts us : List Token5} {x : PlacedKey5} → IsKey Exact ts x us → Reads key x ts us
unfolding key
key-reads {ts = ts} {us = us} {x = x} d last = subst (λ vs. ReadsOf (λ c. Moves (record { tokens = vs; last = last }) c) x us (key (record { tokens = vs; last = last }))) (sym d.first)
    (bind-reads _ (take-hit key_at d.token x.key us last (key-is x.key d.token d.kind)) (λ n m. done (placed (λ z. key_of z x.key) m refl (subst (λ vs. x.span ≡ across vs us) d.first d.spans)) m))

-- ## Parameters

identifier-first : {ts us : List Token5} {x : Identifier5} → IsIdentifier Exact ts x us → BeginsFirst ts
identifier-first {us = us} {x = x} d = subst (λ vs. BeginsFirst vs) (sym d.first) (begins_first_at (subst (λ k. First k) (sym d.word) (first_operand (operand_name d.free))))

-- parameters that are one at least, and any
data ParametersClaim (n : ℕ) : List Token5 → List Identifier5 → List Token5 → Type 0 where
  no_parameters_claim : {t : Token5} {us : List Token5} → IsMark (codes ")") t → ParametersClaim n (t ∷ us) [] us
  parameters_claim : {ts us : List Token5} {xs : List Identifier5} → BeginsFirst ts → Eventually n (λ t f r. Reads (more_parameters t) xs ts us) → ParametersClaim n ts xs us

more-parameters : {n : ℕ} {ts us : List Token5} {x : Identifier5} {xs : List Identifier5} → AreParameters Exact ts (x ∷ xs) us → Eventually n (λ t f r. Reads (more_parameters t) (x ∷ xs) ts us)
unfolding more_parameters
more-parameters (g.last_parameter {close = c} {us = us} d p) = once (λ t f r last. bind-reads _ (identifier-reads d last) (λ n m. on-miss (mark (codes ",")) _ _ (c ∷ us) n (mark-other (codes ",") (codes ")") c refl p) (bind-reads _ (take-mark (codes ")") c us n p) (λ z m'. reads_ (m ⟫ m')))))
more-parameters (g.next_parameter {comma = c} {us = us} d p ds) = turn (more-parameters ds) (λ t f r h last. bind-reads _ (identifier-reads d last) (λ n m. on-hit (mark (codes ",")) _ _ c c us n (mark-hit (codes ",") c p) (bind-reads _ (h c.end) (λ z m'. reads_ (m ⟫ one ⟫ m')))))

parameters-claim : {n : ℕ} {ts us : List Token5} {xs : List Identifier5} → AreParameters Exact ts xs us → ParametersClaim n ts xs us
parameters-claim (g.no_parameter p) = no_parameters_claim p
parameters-claim (g.last_parameter d p) = parameters_claim (identifier-first d) (more-parameters (g.last_parameter d p))
parameters-claim (g.next_parameter d p ds) = parameters_claim (identifier-first d) (more-parameters (g.next_parameter d p ds))

parameters-read : {n : ℕ} {ts us : List Token5} {xs : List Identifier5} → ParametersClaim n ts xs us → Eventually n (λ t f r. Reads (parameters (R f r)) xs ts us)
unfolding parameters operand_marks prefix_marks
parameters-read (no_parameters_claim {t = t} {us = us} p) = always (λ t' f r last. on-hit (mark (codes ")")) _ _ t t us last (mark-hit (codes ")") t p) (reads_ one))
parameters-read (parameters_claim {ts = ts} {us = us} {xs = xs} o h) = begin h (λ t f r x last. on-miss (mark (codes ")")) _ _ ts last (first-misses (codes ")") ts refl refl o) (at-fuel (λ n. more_parameters n) xs ts us f r x last))

pub parameters-reads : {n : ℕ} {ts us : List Token5} {xs : List Identifier5} → AreParameters Exact ts xs us → Eventually n (λ t f r. Reads (parameters (R f r)) xs ts us)
parameters-reads d = parameters-read (parameters-claim d)

-- ## What stands one construct deeper

pub opened : {n : ℕ} → Eventually (suc n) (λ t f r. (R f r).may_open ≡ true)
unfolding readers
opened = deeper (always {P = λ t f r. Unit {0}} (λ t f r. tt)) (λ t f r h. refl)

pub open-assignment : {n : ℕ} (k : Bool) (ts : List Token5) {x : Expr5} (us : List Token5) → (c : Claim n k 1 ts x us) → Closes k 1 us → Eventually (suc n) (λ t f r. Reads ((R f r).assignment k) (reading x c.shape) ts us)
unfolding readers
open-assignment k ts us c h = deeper (c.levels 1 assignment_level (omega arith) h) (λ t f r x. x)

pub open-sequence : {n : ℕ} (k : Bool) (ts : List Token5) {x : Expr5} (us : List Token5) → (c : Claim n k 0 ts x us) → Closes k 0 us → Eventually (suc n) (λ t f r. Reads ((R f r).sequence k) (reading x c.shape) ts us)
unfolding readers
open-sequence k ts us c h = deeper (c.levels 0 sequence_level (omega arith) h) (λ t f r x. x)

pub open-unary : {n : ℕ} (ts : List Token5) {x : Expr5} (us : List Token5) → (c : Claim n false 13 ts x us) → Closes false 13 us → Eventually (suc n) (λ t f r. Reads ((R f r).unary) (reading x c.shape) ts us)
unfolding readers binary_from
open-unary ts us c h = deeper (c.levels 13 (binary_level_ 0 refl (omega arith)) (omega arith) h) (λ t f r x. x)

pub open-callee : {n : ℕ} (ts : List Token5) {x : Read5} (us : List Token5) → ChainReads n false ts x us → Eventually (suc n) (λ t f r. Reads ((R f r).callee) x ts us)
unfolding readers
open-callee ts us c = deeper c (λ t f r x. x)

-- ## Elements, properties, arguments

abbrev pub ElementsRead : ℕ → List Token5 → List Element5 → List Token5 → Type 0
ElementsRead n ts xs us = Eventually (suc n) (λ t f r. Reads (elements (R f r) t) xs ts us)

pub elements-none : {n : ℕ} (c : Token5) (us : List Token5) → IsMark (codes "]") c → ElementsRead n (c ∷ us) [] us
unfolding elements
elements-none c us p = once (λ t f r last. on-hit (mark (codes "]")) _ _ c c us last (mark-hit (codes "]") c p) (reads_ one))

pub elements-hole : {n : ℕ} (c : Token5) (ts : List Token5) {xs : List Element5} (us : List Token5) → IsMark (codes ",") c → ElementsRead n ts xs us → ElementsRead n (c ∷ ts) (element.Hole ∷ xs) us
unfolding elements
elements-hole c ts us p h = turn h (λ t f r x last. on-miss (mark (codes "]")) _ _ (c ∷ ts) last (mark-other (codes "]") (codes ",") c refl p)
    (on-hit (mark (codes ",")) _ _ c c ts last (mark-hit (codes ",") c p) (bind-reads _ (x c.end) (λ n m. reads_ (one ⟫ m)))))

pub elements-last : {n : ℕ} (ts : List Token5) (c : Token5) (us : List Token5) {x : Expr5} → Claim n false 1 ts x (c ∷ us) → IsMark (codes "]") c → ElementsRead n ts (element.Element x ∷ []) us
unfolding elements operand_marks prefix_marks
elements-last ts c us x p = turn (open-assignment false ts (c ∷ us) x (closes-up false 0 1 (c ∷ us) (omega arith) (closes-square false us c p))) (λ t f r h last.
    on-miss (mark (codes "]")) _ _ ts last (first-misses (codes "]") ts refl refl x.first) (on-miss (mark (codes ",")) _ _ ts last (first-misses (codes ",") ts refl refl x.first)
    (bind-reads _ (h last) (λ n m. on-miss (mark (codes ",")) _ _ (c ∷ us) n (mark-other (codes ",") (codes "]") c refl p) (bind-reads _ (take-mark (codes "]") c us n p) (λ z m'. reads_ (m ⟫ m')))))))

pub elements-next : {n : ℕ} (ts : List Token5) (c : Token5) (us vs : List Token5) {x : Expr5} {xs : List Element5} → Claim n false 1 ts x (c ∷ us) → IsMark (codes ",") c → ElementsRead n us xs vs → ElementsRead n ts (element.Element x ∷ xs) vs
unfolding elements operand_marks prefix_marks
elements-next ts c us vs x p e = turn (pair (open-assignment false ts (c ∷ us) x (closes-comma false us c p)) e) (λ t f r h last.
    on-miss (mark (codes "]")) _ _ ts last (first-misses (codes "]") ts refl refl x.first) (on-miss (mark (codes ",")) _ _ ts last (first-misses (codes ",") ts refl refl x.first)
    (bind-reads _ (h.0 last) (λ n m. on-hit (mark (codes ",")) _ _ c c us n (mark-hit (codes ",") c p) (bind-reads _ (h.1 c.end) (λ z m'. reads_ (m ⟫ one ⟫ m')))))))

abbrev pub ArgumentsRead : ℕ → List Token5 → List Expr5 → List Token5 → Type 0
ArgumentsRead n ts xs us = Eventually (suc n) (λ t f r. Reads (more_arguments (R f r) t) xs ts us)

pub arguments-last : {n : ℕ} (ts : List Token5) (c : Token5) (us : List Token5) {x : Expr5} → Claim n false 1 ts x (c ∷ us) → IsMark (codes ")") c → ArgumentsRead n ts (x ∷ []) us
unfolding more_arguments
arguments-last ts c us x p = turn (open-assignment false ts (c ∷ us) x (closes-up false 0 1 (c ∷ us) (omega arith) (closes-close false us c p))) (λ t f r h last.
    bind-reads _ (h last) (λ n m. on-miss (mark (codes ",")) _ _ (c ∷ us) n (mark-other (codes ",") (codes ")") c refl p) (bind-reads _ (take-mark (codes ")") c us n p) (λ z m'. reads_ (m ⟫ m')))))

pub arguments-next : {n : ℕ} (ts : List Token5) (c : Token5) (us vs : List Token5) {x : Expr5} {xs : List Expr5} → Claim n false 1 ts x (c ∷ us) → IsMark (codes ",") c → ArgumentsRead n us xs vs → ArgumentsRead n ts (x ∷ xs) vs
unfolding more_arguments
arguments-next ts c us vs x p e = turn (pair (open-assignment false ts (c ∷ us) x (closes-comma false us c p)) e) (λ t f r h last.
    bind-reads _ (h.0 last) (λ n m. on-hit (mark (codes ",")) _ _ c c us n (mark-hit (codes ",") c p) (bind-reads _ (h.1 c.end) (λ z m'. reads_ (m ⟫ one ⟫ m')))))

-- arguments and the closing parenthesis
pub data ArgumentsClaim (n : ℕ) : List Token5 → List Expr5 → List Token5 → Type 0 where
  no_arguments_claim : {t : Token5} {us : List Token5} → IsMark (codes ")") t → ArgumentsClaim n (t ∷ us) [] us
  arguments_claim : {ts us : List Token5} {xs : List Expr5} → BeginsFirst ts → ArgumentsRead n ts xs us → ArgumentsClaim n ts xs us

pub arguments-reads : {n : ℕ} {ts us : List Token5} {xs : List Expr5} → ArgumentsClaim n ts xs us → Eventually (suc n) (λ t f r. Reads (arguments (R f r)) xs ts us)
unfolding arguments operand_marks prefix_marks
arguments-reads (no_arguments_claim {t = t} {us = us} p) = always (λ t' f r last. on-hit (mark (codes ")")) _ _ t t us last (mark-hit (codes ")") t p) (reads_ one))
arguments-reads (arguments_claim {ts = ts} {us = us} {xs = xs} o h) = begin h (λ t f r x last. on-miss (mark (codes ")")) _ _ ts last (first-misses (codes ")") ts refl refl o) (at-fuel (λ n. more_arguments (R f r) n) xs ts us f r x last))

abbrev pub PropertyRead : ℕ → List Token5 → Property5 → List Token5 → Type 0
PropertyRead n ts x us = Eventually n (λ t f r. Reads (one_property (R f r)) x ts us)

abbrev pub PropertiesRead : ℕ → List Token5 → List Property5 → List Token5 → Type 0
PropertiesRead n ts xs us = Eventually (suc n) (λ t f r. Reads (properties (R f r) t) xs ts us)

open-property : {n : ℕ} (ts : List Token5) (x : Property5) (us : List Token5) → PropertyRead n ts x us → Eventually (suc n) (λ t f r. Reads ((R f r).property) x ts us)
unfolding readers
open-property ts x us h = deeper h (λ t f r y. y)

-- a property, and that it begins with no closing brace
pub record PropertyClaim (n : ℕ) (ts : List Token5) (x : Property5) (us : List Token5) : Type 0 where
  pub first : Misses (mark (codes "}")) ts
  pub reads : PropertyRead n ts x us

pub properties-none : {n : ℕ} (c : Token5) (us : List Token5) → IsMark (codes "}") c → PropertiesRead n (c ∷ us) [] us
unfolding properties
properties-none c us p = once (λ t f r last. on-hit (mark (codes "}")) _ _ c c us last (mark-hit (codes "}") c p) (reads_ one))

pub properties-last : {n : ℕ} (ts : List Token5) (c : Token5) (us : List Token5) (x : Property5) → PropertyClaim n ts x (c ∷ us) → IsMark (codes "}") c → PropertiesRead n ts (x ∷ []) us
unfolding properties
properties-last ts c us x h p = turn (open-property ts x (c ∷ us) h.reads) (λ t f r y last. on-miss (mark (codes "}")) _ _ ts last h.first
    (bind-reads _ (y last) (λ n m. on-miss (mark (codes ",")) _ _ (c ∷ us) n (mark-other (codes ",") (codes "}") c refl p) (bind-reads _ (take-mark (codes "}") c us n p) (λ z m'. reads_ (m ⟫ m'))))))

pub properties-next : {n : ℕ} (ts : List Token5) (c : Token5) (us vs : List Token5) (x : Property5) {xs : List Property5} → PropertyClaim n ts x (c ∷ us) → IsMark (codes ",") c → PropertiesRead n us xs vs → PropertiesRead n ts (x ∷ xs) vs
unfolding properties
properties-next ts c us vs x h p e = turn (pair (open-property ts x (c ∷ us) h.reads) e) (λ t f r y last. on-miss (mark (codes "}")) _ _ ts last h.first
    (bind-reads _ (y.0 last) (λ n m. on-hit (mark (codes ",")) _ _ c c us n (mark-hit (codes ",") c p) (bind-reads _ (y.1 c.end) (λ z m'. reads_ (m ⟫ one ⟫ m'))))))

-- ## Functions

-- statements up to a closing brace, and those inside one construct
abbrev pub StatsRead : ℕ → Bool → Bool → List Token5 → List Stat5 → List Token5 → Type 0
StatsRead n inside top ts xs us = Eventually (suc n) (λ t f r. Reads (statements (R f r) inside top t) xs ts us)

pub braced-reads : {n : ℕ} (inside top : Bool) (b : Token5) (ts : List Token5) (xs : List Stat5) (us : List Token5) → IsMark (codes "{") b → StatsRead n inside top ts xs us → Eventually (suc n) (λ t f r. Reads (group (R f r) (codes "{") (statements (R f r) inside top (R f r).fuel)) xs (b ∷ ts) us)
braced-reads inside top b ts xs us p h = both opened (begin h (λ t f r x. at-fuel (λ n. statements (R f r) inside top n) xs ts us f r x)) (λ t f r o x last. group-hit (R f r) _ _ _ b ts last (is-mark-true (codes "{") b p) o (later one (x b.end)))

-- what a function of these parts is, in this span
abbrev pub function_of : Span → Option Identifier5 → List Identifier5 → List Stat5 → Function5
function_of span name xs ss = roll-Function5 (record { span = span; name = name; parameters = xs; body = ss })

-- The parameters and the body of a function that began before them.
abbrev pub RestRead : ℕ → List Token5 → List Identifier5 → List Stat5 → List Token5 → Type 0
RestRead n ts xs ss us = Eventually n (λ t f r. (s : Input5) (last : ℕ) (name : Option Identifier5) → Moves s (record { tokens = ts; last = last }) → ReadsOf (λ c. Moves s c) (function_of (across s.tokens us) name xs ss) us (rest_of_function (R f r) (begin_of s.tokens) name (record { tokens = ts; last = last })))

pub rest-reads : {n : ℕ} (o b : Token5) (ts us vs : List Token5) {xs : List Identifier5} {ss : List Stat5} → IsMark (codes "(") o → AreParameters Exact ts xs (b ∷ us) → IsMark (codes "{") b → Opens n (λ m. StatsRead m true true us ss vs) → RestRead n (o ∷ ts) xs ss vs
unfolding rest_of_function body
rest-reads {n = n} o b ts us vs {xs = xs} {ss = ss} p d q h = inside_ n h (λ l k. both (pair opened (parameters-reads d)) (braced-reads true true b us ss vs q k) (λ t f r x y s last name v.
    bind-reads _ (group-hit {y = xs} (R f r) _ _ _ o ts last (is-mark-true (codes "(") o p) x.0 (later one (x.1 o.end))) (λ j m. bind-reads _ (y j) (λ i m'. done (ap (λ z. function_of z name xs ss) (span-across (v ⟫ m ⟫ m'))) (v ⟫ m ⟫ m')))))

-- what follows `function`
pub data FunctionClaim (n : ℕ) : List Token5 → Option Identifier5 → Function5 → List Token5 → Type 0 where
  anonymous_claim : {t : Token5} {ts us : List Token5} {f : Function5} {xs : List Identifier5} {ss : List Stat5} → IsWord (codes "function") t → next_is (next_mark (codes "(")) ts ≡ true → f ≡ function_of (across (t ∷ ts) us) None xs ss → RestRead n ts xs ss us → FunctionClaim n (t ∷ ts) None f us
  named_claim : {t : Token5} {ts us vs : List Token5} {f : Function5} (x : Identifier5) {xs : List Identifier5} {ss : List Stat5} → IsWord (codes "function") t → Reads identifier x ts us → next_is (next_mark (codes "(")) ts ≡ false → f ≡ function_of (across (t ∷ ts) vs) (Some x) xs ss → RestRead n us xs ss vs → FunctionClaim n (t ∷ ts) (Some x) f vs

-- ## Accessors and properties

abbrev pub AccessorRead : ℕ → Bool → List Token5 → Function5 → List Token5 → Type 0
AccessorRead n setter ts f us = Eventually n (λ t k r. Reads (accessor_function (R k r) setter) f ts us)

pub no-value-reads : {n : ℕ} (o c b : Token5) (ts us : List Token5) {f : Function5} {ss : List Stat5} {span : Span} → IsMark (codes "(") o → IsMark (codes ")") c → IsMark (codes "{") b → Opens n (λ m. StatsRead m true true ts ss us) → f ≡ function_of span None [] ss → span ≡ across (o ∷ c ∷ b ∷ ts) us → AccessorRead n false (o ∷ c ∷ b ∷ ts) f us
unfolding accessor_function accessor_parameters no_parameter body
no-value-reads {n = n} o c b ts us {ss = ss} p q s h e w = inside_ n h (λ l k. both opened (braced-reads true true b ts ss us s k) (λ t f r a y last.
    bind-reads {x = []} {M = λ i. Moves (record { tokens = o ∷ c ∷ b ∷ ts; last = last }) i} _ (group-hit (R f r) _ _ _ o (c ∷ b ∷ ts) last (is-mark-true (codes "(") o p) a (bind-reads _ (take-mark (codes ")") c (b ∷ ts) o.end q) (λ z m. reads_ (one ⟫ m)))) (λ z m. bind-reads _ (y z) (λ i m'. done (placed (λ z. function_of z None [] ss) (m ⟫ m') e w) (m ⟫ m')))))

pub one-value-reads : {n : ℕ} (x : Identifier5) (o c b : Token5) (ts us vs : List Token5) {f : Function5} {ss : List Stat5} {span : Span} → IsMark (codes "(") o → IsIdentifier Exact ts x (c ∷ b ∷ us) → IsMark (codes ")") c → IsMark (codes "{") b → Opens n (λ m. StatsRead m true true us ss vs) → f ≡ function_of span None (x ∷ []) ss → span ≡ across (o ∷ ts) vs → AccessorRead n true (o ∷ ts) f vs
unfolding accessor_function accessor_parameters one_parameter body
one-value-reads {n = n} x o c b ts us vs {ss = ss} p d q s h e w = inside_ n h (λ l k. both opened (braced-reads true true b us ss vs s k) (λ t f r a y last.
    bind-reads {x = x ∷ []} {M = λ i. Moves (record { tokens = o ∷ ts; last = last }) i} _ (group-hit (R f r) _ _ _ o ts last (is-mark-true (codes "(") o p) a (bind-reads _ (identifier-reads d o.end) (λ j m. bind-reads _ (take-mark (codes ")") c (b ∷ us) j q) (λ i m'. reads_ (one ⟫ m ⟫ m'))))) (λ z m. bind-reads _ (y z) (λ i m'. done (placed (λ z. function_of z None (x ∷ []) ss) (m ⟫ m') e w) (m ⟫ m')))))
