-- The bytes of a file are read as one module, or have one fault, up to the place that is told of it.
use Rattle.std.proofs.Common.{◌≡◌, ℕ, zero, suc, ◌<◌, ◌≤◌, ◌⊎◌, inl, inr, false, ◌&&◌, ◌||◌, nat_lt, ◌==◌, List, [], ◌∷◌, length, map, take, Some, refl, sym, ap, ◌∙◌, subst, arith, All, Contains, chars}
use Rattle.std.proofs.lemmas.Bool.Decides.{nat_tests}
use Rattle.std.specs.Prelude.{Ok}
use Rattle.std.specs.Str.{IsUtf8, IsValidUpTo}
use Rattle.es_text.specs.declared.Place.{Place}
use Rattle.es6_lexer.specs.declared.token.Token.{Token}
use Rattle.es6_lexer.proofs.Unique.{same_tokens}
use Rattle.es6_ast.specs.declared.graph.EndOf.{EndOf}
use Rattle.es6_ast.specs.declared.graph.LoadedModule.{LoadedModule}
use Rattle.es6_ast.specs.declared.graph.Request.{Request}
use Rattle.es6_ast.specs.declared.module.Module.{Module}
use Rattle.es6_ast.specs.declared.settings.Stop.{Stop}
use Rattle.es6_ast.specs.Tokens.{Filled, read}
use Rattle.es6_reading.specs.Modules.{read_module}
use Rattle.es6_reading.specs.Parser.{Input, Outcome, Took, Fault}
use Rattle.es6_cursor.specs.Readers.{turns}
use Rattle.es6_expr.specs.declared.fault.ParseFault.{ParseFault}
use Rattle.es6_expr.specs.Faults.{fault_of, place_of}
use Rattle.es6_expr.specs.es6_module.Parsed.{Answers, Refuses, out_of_memory, stopped}
use Rattle.es6_static_semantics.specs.Early.{early_pairs}
use Rattle.es6_static_semantics.specs.Findings.{IsFirst, Pair, comes_first}
use Rattle.es6_static_semantics.specs.Graphs.{specifiers}
use Rattle.es6_static_semantics.specs.Outside.{outside_pairs}
use Rattle.module_linker.specs.declared.module_checks.fault.ModuleFault.{ModuleFault}
use Rattle.module_linker.specs.declared.module_checks.fault.ModuleFault.TheVariants.{FileTooLong, NotUtf8, Parse, Early, Outside, OutOfMemory}
use Rattle.module_linker.specs.module_checks.Alike.{AreAlike}
use Rattle.module_linker.specs.module_checks.Faults.{HasFault, IsFound, IsNoModule, offset_of}
use Rattle.module_linker.specs.module_checks.Reading.{IsLexed, IsRead, IsSpelled}
use Rattle.module_requests.specs.Requests.{open_request}

one_text : (bytes : List ℕ) (ts us : List Token) → IsLexed bytes ts → IsLexed bytes us → ts ≡ us
one_text bytes ts us p q = same_tokens _ _ _ _ ts us p.lexed q.lexed

took_one : (t u : Module) (a b : Input) → Took t a ≡ Took u b → t ≡ u
took_one t u a b e = cc

-- what the model reads of one list of tokens
one_reading : (ts us : List Token) (t u : Module) → ts ≡ us → Answers ts (read_module turns (map read ts)) (Ok t) → Answers us (read_module turns (map read us)) (Ok u) → t ≡ u
one_reading ts us t u e p q = took_one t u p.0 q.0 (sym p.1 ∙ ap (λ (list : List Token). read_module turns (map read list)) e ∙ q.1)

pub one_tree : (bytes : List ℕ) (t u : Module) → IsSpelled bytes t → IsSpelled bytes u → t ≡ u
one_tree bytes t u p q = one_reading p.tokens q.tokens t u (one_text bytes p.tokens q.tokens p.lexed q.lexed) p.reads q.reads

-- a fault that has a place stands where the model stops
record StopsAt (tokens : List Token) (fault : ParseFault) : Type 0 where
  stop : Stop
  rest : List Filled
  outcome_is : read_module turns (map read tokens) ≡ Fault stop rest
  fault_is : fault ≡ fault_of stop (place_of (map read tokens) rest)

stops : (tokens : List Token) (fault : ParseFault) (at : ℕ) → offset_of fault ≡ Some at → Refuses tokens (read_module turns (map read tokens)) fault → StopsAt tokens fault
stops tokens fault at stands (out_of_memory e) = (let none = sym (ap offset_of e) ∙ stands in absurd (cc))
stops tokens fault at stands (stopped stop rest o f) = record { stop = stop; rest = rest; outcome_is = o; fault_is = f }

abbrev is_stopped : Stop → List Filled → Outcome Module
is_stopped s rest = Fault s rest

stopped_once : (s r : Stop) (a b : List Filled) (all : List Filled) → is_stopped s a ≡ is_stopped r b → fault_of s (place_of all a) ≡ fault_of r (place_of all b)
stopped_once s r a b all e =
    let one : s ≡ r = cc in
    let two : a ≡ b = cc in
    ap (λ (x : Stop). fault_of x (place_of all a)) one ∙ ap (λ (x : List Filled). fault_of r (place_of all x)) two

one_stop : (ts us : List Token) (f g : ParseFault) → ts ≡ us → StopsAt ts f → StopsAt us g → f ≡ g
one_stop ts us f g e p q =
    p.fault_is ∙ stopped_once p.stop q.stop p.rest q.rest (map read ts) (sym p.outcome_is ∙ ap (λ (list : List Token). read_module turns (map read list)) e ∙ q.outcome_is)
    ∙ ap (λ (list : List Token). fault_of q.stop (place_of (map read list) q.rest)) e ∙ sym q.fault_is

pub one_parse_fault : (bytes : List ℕ) (f g : ParseFault) (p q : Place) → IsNoModule bytes f p → IsNoModule bytes g q → f ≡ g
one_parse_fault bytes f g p q x y =
    one_stop x.tokens y.tokens f g (one_text bytes x.tokens y.tokens x.lexed y.lexed) (stops x.tokens f x.at x.stands x.reads) (stops y.tokens g y.at y.stands y.reads)

-- what is read has no such fault
took_no_fault : (t : Module) (a : Input) (s : Stop) (r : List Filled) → Took t a ≡ Fault s r → ⊥
took_no_fault t a s r e = absurd (cc)

no_stop : (ts us : List Token) (t : Module) (f : ParseFault) → ts ≡ us → Answers ts (read_module turns (map read ts)) (Ok t) → StopsAt us f → ⊥
no_stop ts us t f e p q = took_no_fault t p.0 q.stop q.rest (sym p.1 ∙ ap (λ (list : List Token). read_module turns (map read list)) e ∙ q.outcome_is)

pub spelled_no_fault : (bytes : List ℕ) (t : Module) (f : ParseFault) (place : Place) → IsSpelled bytes t → IsNoModule bytes f place → ⊥
spelled_no_fault bytes t f place p q = no_stop p.tokens q.tokens t f (one_text bytes p.tokens q.tokens p.lexed q.lexed) p.reads (stops q.tokens f q.at q.stands q.reads)

-- ## Findings

same_rule : (a b m n : ℕ) → nat_lt a b || ((a == b) && nat_lt m n) ≡ false → nat_lt b a || ((b == a) && nat_lt n m) ≡ false → m ≡ n
same_rule a b m n x y = grind (arith, nat_tests)

at_each : {A : Type 0} (P : A → Type 0) (xs : List A) (x : A) → All P xs → Contains xs x → P x
at_each P xs x all c = subst P c.2 (all c.0 x c.1)

pub one_rule : (p q : Pair) (pairs : List Pair) → IsFirst p pairs → IsFirst q pairs → p.rule ≡ q.rule
one_rule p q pairs x y =
    same_rule p.at q.at p.rule q.rule (at_each (λ (r : Pair). comes_first r q ≡ false) pairs p y.1 x.0) (at_each (λ (r : Pair). comes_first r p ≡ false) pairs q x.1 y.0)

none_contained : {A : Type 0} (x : A) → Contains [] x → ⊥
none_contained x h = absurd (omega (arith, h.1))

-- where there is no pair, none is found
not_found : (lines : List ℕ) (pairs : List Pair) (rule : ℕ) (place : Place) → pairs ≡ [] → IsFound lines pairs rule place → ⊥
not_found lines pairs rule place none f =
    let p : Pair = record { rule = rule; at = f.at } in
    none_contained p (subst (λ (ps : List Pair). Contains ps p) none f.first.0)

found_once : (lines : List ℕ) (pairs : List Pair) (rule rule2 : ℕ) (p q : Place) → IsFound lines pairs rule p → IsFound lines pairs rule2 q → rule ≡ rule2
found_once lines pairs rule rule2 p q x y = one_rule (record { rule = rule; at = x.at }) (record { rule = rule2; at = y.at }) pairs x.first y.first

-- ## Encodings

take_all : {A : Type 0} (xs : List A) → take (length xs) xs ≡ xs
take_all [] = refl
take_all (x ∷ xs) = ap (λ rest. x ∷ rest) (take_all xs)

not_valid : (bytes : List ℕ) (at : ℕ) → IsUtf8 bytes → IsValidUpTo bytes at → ⊥
not_valid bytes at utf8 v = v.longest (length bytes) v.short (subst (λ (bs : List ℕ). IsUtf8 bs) (sym (take_all bytes)) utf8)

order_of : (a b : ℕ) → (a ≡ b) ⊎ ((a < b) ⊎ (b < a))
order_of zero zero = inl refl
order_of zero (suc b) = inr (inl (omega arith))
order_of (suc a) zero = inr (inr (omega arith))
order_of (suc a) (suc b) = elim (order_of a b) [
  | inl e ↦ inl (ap suc e)
  | inr apart ↦ elim apart [ inl below ↦ inr (inl (omega (arith, below))) | inr above ↦ inr (inr (omega (arith, above))) ]
]

valid_once : (bytes : List ℕ) (a b : ℕ) → IsValidUpTo bytes a → IsValidUpTo bytes b → a ≡ b
valid_once bytes a b p q = elim (order_of a b) [
  | inl e ↦ e
  | inr apart ↦ elim apart [ inl below ↦ absurd (p.longest b below q.front) | inr above ↦ absurd (q.longest a above p.front) ]
]

-- ## Modules

same_module : (m n : LoadedModule) → m.path ≡ n.path → m.lines ≡ n.lines → m.tree ≡ n.tree → m.requests ≡ n.requests → m.endings ≡ n.endings → m ≡ n
same_module m n path lines tree requests endings =
    let with_path : List ℕ → LoadedModule = λ x. record m { path = x } in
    let with_lines : List ℕ → LoadedModule = λ x. record m { path = n.path; lines = x } in
    let with_tree : Module → LoadedModule = λ x. record m { path = n.path; lines = n.lines; tree = x } in
    let with_requests : List Request → LoadedModule = λ x. record m { path = n.path; lines = n.lines; tree = n.tree; requests = x } in
    let with_endings : List EndOf → LoadedModule = λ x. record n { endings = x } in
    ap with_path path ∙ ap with_lines lines ∙ ap with_tree tree ∙ ap with_requests requests ∙ ap with_endings endings

-- bytes are read as one module
pub one_module : (path bytes : List ℕ) (m n : LoadedModule) → IsRead path bytes m → IsRead path bytes n → m ≡ n
one_module path bytes m n p q =
    let tree : m.tree ≡ n.tree = one_tree bytes m.tree n.tree p.spelled q.spelled in
    same_module m n (p.path_is ∙ sym q.path_is) (p.lines_are ∙ sym q.lines_are) tree
    (p.requests_are ∙ ap (λ (t : Module). map open_request (specifiers t)) tree ∙ sym q.requests_are) (p.unlinked ∙ sym q.unlinked)

no_early : (bytes : List ℕ) (t u : Module) (rule : ℕ) (place : Place) → IsSpelled bytes t → early_pairs t ≡ [] → IsSpelled bytes u → IsFound (chars bytes) (early_pairs u) rule place → ⊥
no_early bytes t u rule place p legal q f =
    not_found (chars bytes) (early_pairs u) rule place (ap (λ (m : Module). early_pairs m) (one_tree bytes u t q p) ∙ legal) f

no_outside : (bytes : List ℕ) (t u : Module) (rule : ℕ) (place : Place) → IsSpelled bytes t → outside_pairs t ≡ [] → IsSpelled bytes u → IsFound (chars bytes) (outside_pairs u) rule place → ⊥
no_outside bytes t u rule place p inside q f =
    not_found (chars bytes) (outside_pairs u) rule place (ap (λ (m : Module). outside_pairs m) (one_tree bytes u t q p) ∙ inside) f

-- what is read has no fault
pub read_no_fault : (path bytes : List ℕ) (m : LoadedModule) (f : ModuleFault) → IsRead path bytes m → HasFault bytes f → ⊥
read_no_fault path bytes m FileTooLong r h = (let short = r.spelled.lexed.short in absurd (omega (arith, short, h)))
read_no_fault path bytes m (NotUtf8 at) r h = not_valid bytes at r.spelled.lexed.utf8 h.1
read_no_fault path bytes m (Parse place f) r h = spelled_no_fault bytes m.tree f place r.spelled h
read_no_fault path bytes m (Early place rule) r h = no_early bytes m.tree h.tree rule place r.spelled r.legal h.spelled h.misfit
read_no_fault path bytes m (Outside place rule) r h = no_outside bytes m.tree h.tree rule place r.spelled r.inside h.spelled h.misfit.1
read_no_fault path bytes m OutOfMemory r h = h

too_long : (bytes : List ℕ) → 4194304 < length bytes → length bytes ≤ 4194304 → ⊥
too_long bytes long short = absurd (omega (arith, long, short))

-- faults of the same bytes are the same, up to their places
pub one_fault : (bytes : List ℕ) (f g : ModuleFault) → HasFault bytes f → HasFault bytes g → AreAlike f g
one_fault bytes FileTooLong FileTooLong h k = tt
one_fault bytes FileTooLong (NotUtf8 b) h k = absurd (too_long bytes h k.0)
one_fault bytes FileTooLong (Parse q g) h k = absurd (too_long bytes h k.lexed.short)
one_fault bytes FileTooLong (Early q s) h k = absurd (too_long bytes h k.spelled.lexed.short)
one_fault bytes FileTooLong (Outside q s) h k = absurd (too_long bytes h k.spelled.lexed.short)
one_fault bytes FileTooLong OutOfMemory h k = absurd k
one_fault bytes (NotUtf8 a) FileTooLong h k = absurd (too_long bytes k h.0)
one_fault bytes (NotUtf8 a) (NotUtf8 b) h k = valid_once bytes a b h.1 k.1
one_fault bytes (NotUtf8 a) (Parse q g) h k = absurd (not_valid bytes a k.lexed.utf8 h.1)
one_fault bytes (NotUtf8 a) (Early q s) h k = absurd (not_valid bytes a k.spelled.lexed.utf8 h.1)
one_fault bytes (NotUtf8 a) (Outside q s) h k = absurd (not_valid bytes a k.spelled.lexed.utf8 h.1)
one_fault bytes (NotUtf8 a) OutOfMemory h k = absurd k
one_fault bytes (Parse p f) FileTooLong h k = absurd (too_long bytes k h.lexed.short)
one_fault bytes (Parse p f) (NotUtf8 b) h k = absurd (not_valid bytes b h.lexed.utf8 k.1)
one_fault bytes (Parse p f) (Parse q g) h k = one_parse_fault bytes f g p q h k
one_fault bytes (Parse p f) (Early q s) h k = absurd (spelled_no_fault bytes k.tree f p k.spelled h)
one_fault bytes (Parse p f) (Outside q s) h k = absurd (spelled_no_fault bytes k.tree f p k.spelled h)
one_fault bytes (Parse p f) OutOfMemory h k = absurd k
one_fault bytes (Early p r) FileTooLong h k = absurd (too_long bytes k h.spelled.lexed.short)
one_fault bytes (Early p r) (NotUtf8 b) h k = absurd (not_valid bytes b h.spelled.lexed.utf8 k.1)
one_fault bytes (Early p r) (Parse q g) h k = absurd (spelled_no_fault bytes h.tree g q h.spelled k)
one_fault bytes (Early p r) (Early q s) h k =
    found_once (chars bytes) (early_pairs k.tree) r s p q
    (subst (λ (t : Module). IsFound (chars bytes) (early_pairs t) r p) (one_tree bytes h.tree k.tree h.spelled k.spelled) h.misfit) k.misfit
one_fault bytes (Early p r) (Outside q s) h k = absurd (no_early bytes k.tree h.tree r p k.spelled k.misfit.0 h.spelled h.misfit)
one_fault bytes (Early p r) OutOfMemory h k = absurd k
one_fault bytes (Outside p r) FileTooLong h k = absurd (too_long bytes k h.spelled.lexed.short)
one_fault bytes (Outside p r) (NotUtf8 b) h k = absurd (not_valid bytes b h.spelled.lexed.utf8 k.1)
one_fault bytes (Outside p r) (Parse q g) h k = absurd (spelled_no_fault bytes h.tree g q h.spelled k)
one_fault bytes (Outside p r) (Early q s) h k = absurd (no_early bytes h.tree k.tree s q h.spelled h.misfit.0 k.spelled k.misfit)
one_fault bytes (Outside p r) (Outside q s) h k =
    found_once (chars bytes) (outside_pairs k.tree) r s p q
    (subst (λ (t : Module). IsFound (chars bytes) (outside_pairs t) r p) (one_tree bytes h.tree k.tree h.spelled k.spelled) h.misfit.1) k.misfit.1
one_fault bytes (Outside p r) OutOfMemory h k = absurd k
one_fault bytes OutOfMemory g h k = absurd h
