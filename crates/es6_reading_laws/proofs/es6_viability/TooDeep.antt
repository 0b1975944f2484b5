-- Where a reader stops for depth at a token, more constructs than may be are open there, in whatever tokens of a text spell that begin so,
-- and no more at the tokens that it passes.
use Rattle.std.proofs.Common.{◌≡◌, ◌∙◌, ℕ, zero, suc, ◌+◌, ◌<◌, ◌≤◌, true, List, [], ◌∷◌, ◌++◌, append_assoc, length, map, take, ap, refl, sym, subst, arith}
use Rattle.std.proofs.lemmas.List.{append-nil}
use Rattle.es6_lexer.specs.declared.token.Token.{Token}
use Rattle.es6_ast.specs.declared.module.Module.{Module}
use Rattle.es6_ast.specs.declared.settings.Stand.TheVariants.{Listed}
use Rattle.es6_ast.specs.declared.settings.Flags.{Flags}
use Rattle.es6_ast.specs.declared.tree.Expression.{Expression}
use Rattle.es6_ast.specs.declared.tree.Statement.{Statement}
use Rattle.es6_ast.specs.Dead.{AreInOrder, IsTooDeep}
use Rattle.es6_ast.specs.Semicolons.{SpellsModule}
use Rattle.es6_ast.specs.Tokens.{Filled, read}
use Rattle.es6_reading.specs.Expressions.{sequence}
use Rattle.es6_reading.specs.Modules.{most_open, read_module, readers, whole_module}
use Rattle.es6_reading.specs.Parser.{Input, Outcome, Took, Parser, Reading}
use Rattle.es6_reading.specs.Statements.{statement}
use Rattle.es6_reading.proofs.Completeness.{what-is-derived-is-read}
use Rattle.es6_reading.proofs.Follows.{plus}
use Rattle.es6_reading_laws.specs.es6_viability.Fronts.{BeginWithExpression, BeginWithStatement}
use Rattle.es6_reading_laws.specs.es6_viability.TooDeep.{AreOfText, ExpressionsAreTooDeep, StatementsAreTooDeep, ModulesAreTooDeep, StopsWhereTooManyAreOpen, open_in_expression, open_in_module, open_in_statement}
use Rattle.es6_reading_laws.specs.es6_viability.TooDeep.{ExpressionsPassNoDeepToken, NoDeepTokenIsPassed, Passes, PassesWhereFewAreOpen, StatementsPassNoDeepToken}
use Rattle.es6_reading_laws.proofs.es6_viability.DeepLaws.{IsDeep, expressions, statements, modules}
use Rattle.es6_reading_laws.proofs.es6_viability.Fronts.{expression-is-read, statement-is-read, more-left}
use Rattle.es6_reading_laws.proofs.es6_viability.FewOpen as few'
use Rattle.es6_reading_laws.proofs.es6_viability.FewOpen.{IsFew}
use Rattle.es6_reading_laws.proofs.es6_viability.Longer.{Keeps, Later, same, gave_up}
use Rattle.es6_reading_laws.proofs.es6_viability.LongerExpressions as x'
use Rattle.es6_reading_laws.proofs.es6_viability.LongerModules as m'
use Rattle.es6_reading_laws.proofs.es6_viability.LongerReaders.{longer, depth-stays}
use Rattle.es6_reading_laws.proofs.es6_viability.Passed.{take-next}
use Rattle.es6_reading_laws.proofs.es6_viability.ReadInserted.{read-spelled}
use Rattle.es6_reading_laws.proofs.es6_viability.Texts.{text-of}

abbrev before : List Token → Input
before tokens = record { tokens = map read tokens; last = 0 }

-- how something spelled is read, by a reader of which more may open, beside one with as many turns that may open no more than the first
record IsReadBeside {A B : Type 0} (made : A → B) (Beside : Parser A → Parser A → Type 0) (p : Parser A) (tokens : List Token) (x : B) : Type 0 where
  with_turns : Parser A
  with_more : Parser A
  later : (s : Input) → Keeps p with_turns s
  beside : Beside with_turns with_more
  value : A
  same_value : made value ≡ x
  after : Input
  taken : with_more (before tokens) ≡ Took value after

passes-later : {A : Type 0} {o o' : Outcome A} (n : ℕ) → Later o o' → Passes n o → Passes n o'
passes-later n same h = h
passes-later n gave_up h = absurd (h.0 refl)

module _ {A B : Type 0} (room : ℕ) (count : B → List Token → ℕ) (Spell : List Token → B → Type 0) (made : A → B) (p : Parser A) where
  too-deep : ((tokens : List Token) (x : B) → Spell tokens x → IsReadBeside made (IsDeep room (λ y. count (made y))) p tokens x) → StopsWhereTooManyAreOpen room count Spell p
  too-deep reads front [] h = λ text x spells.
      let r = reads front x spells in
      r.beside.inside front text (depth-stays (r.later (before front)) (ap (λ ts. p (before ts)) (sym (append-nil front)) ∙ h)) r.value r.after r.taken
  too-deep reads front (t ∷ ts) h = λ others text x spells.
      let r = reads (front ++ t ∷ others) x spells in
      subst (λ y. room < count y (front ++ t ∷ [])) r.same_value (r.beside.deep front ts t (depth-stays (r.later (before (front ++ t ∷ ts))) h) others text r.value r.after r.taken)

  few-open : ((tokens : List Token) (x : B) → Spell tokens x → IsReadBeside made (IsFew room (λ y. count (made y))) p tokens x) → PassesWhereFewAreOpen room count Spell p
  few-open reads front behind t h others text x spells =
      let r = reads (front ++ t ∷ others) x spells in
      subst (λ y. count y (front ++ t ∷ []) ≤ room) r.same_value (r.beside front behind t (passes-later (length behind) (r.later (before (front ++ t ∷ behind))) h) others text r.value r.after r.taken)

module _ (fuel room : ℕ) (f : Flags) (Beside : Parser Reading → Parser Reading → Type 0) (beside : (turns l : ℕ) → Beside (sequence (readers true turns room) f) (sequence (readers true turns (plus room l)) f)) where
  read-expression : (tokens : List Token) (x : Expression) → BeginWithExpression f tokens x → IsReadBeside (λ (y : Reading). y.value) Beside (sequence (readers true fuel room) f) tokens x
  read-expression tokens x d =
      let r = expression-is-read fuel room f tokens d.0 x d.1 in
      let l : ℕ = r.taken.more in
      record {
        with_turns = sequence (readers true (plus fuel l) room) f;
        with_more = sequence (readers true (plus fuel l) (plus room l)) f;
        later = λ s. x'.sequence (readers true fuel room) (readers true (plus fuel l) room) (longer true fuel l room) f s;
        beside = beside (plus fuel l) l;
        value = r.reading;
        same_value = r.same_value;
        after = record { tokens = map read d.0; last = r.taken.last };
        taken = r.taken.taken;
      }

module _ (fuel room : ℕ) (f : Flags) (Beside : Parser Statement → Parser Statement → Type 0) (beside : (turns l : ℕ) → Beside (statement (readers true turns room) f Listed) (statement (readers true turns (plus room l)) f Listed)) where
  read-statement : (tokens : List Token) (x : Statement) → BeginWithStatement f tokens x → IsReadBeside (λ (y : Statement). y) Beside (statement (readers true fuel room) f Listed) tokens x
  read-statement tokens x d =
      let r = statement-is-read fuel room f tokens d.0 x d.1 in
      let l : ℕ = r.more in
      record {
        with_turns = statement (readers true (plus fuel l) room) f Listed;
        with_more = statement (readers true (plus fuel l) (plus room l)) f Listed;
        later = λ s. m'.statement (readers true fuel room) (readers true (plus fuel l) room) (longer true fuel l room) f Listed s;
        beside = beside (plus fuel l) l;
        value = x;
        same_value = refl;
        after = record { tokens = map read d.0; last = r.last };
        taken = r.taken;
      }

module _ (fuel room : ℕ) (Beside : Parser Module → Parser Module → Type 0) (beside : (turns l : ℕ) → Beside (whole_module (readers true turns room)) (whole_module (readers true turns (plus room l)))) where
  read-module : (tokens : List Token) (m : Module) → SpellsModule tokens m → IsReadBeside (λ (n : Module). n) Beside (whole_module (readers true fuel room)) tokens m
  read-module tokens m spells =
      let r = read-spelled what-is-derived-is-read tokens m spells in
      let l : ℕ = r.0 in
      let k = r.1 (plus fuel l) (plus room l) (more-left fuel l) (more-left room l) in
      record {
        with_turns = whole_module (readers true (plus fuel l) room);
        with_more = whole_module (readers true (plus fuel l) (plus room l));
        later = λ s. m'.whole_module (readers true fuel room) (readers true (plus fuel l) room) (longer true fuel l room) s;
        beside = beside (plus fuel l) l;
        value = m;
        same_value = refl;
        after = k.0;
        taken = k.1;
      }

-- ## Where a reader stops

pub expressions-are-too-deep : ExpressionsAreTooDeep
expressions-are-too-deep fuel room f = too-deep room open_in_expression (BeginWithExpression f) (λ (r : Reading). r.value) (sequence (readers true fuel room) f) (read-expression fuel room f _ (λ turns l. expressions turns room l f))

pub statements-are-too-deep : StatementsAreTooDeep
statements-are-too-deep fuel room f = too-deep room open_in_statement (BeginWithStatement f) (λ (s : Statement). s) (statement (readers true fuel room) f Listed) (read-statement fuel room f _ (λ turns l. statements turns room l f Listed))

pub modules-are-too-deep : ModulesAreTooDeep
modules-are-too-deep fuel room = too-deep room open_in_module SpellsModule (λ (m : Module). m) (whole_module (readers true fuel room)) (read-module fuel room _ (λ turns l. modules turns room l))

-- ## What it passes

pub expressions-pass-none : ExpressionsPassNoDeepToken
expressions-pass-none fuel room f = few-open room open_in_expression (BeginWithExpression f) (λ (r : Reading). r.value) (sequence (readers true fuel room) f) (read-expression fuel room f _ (λ turns l. few'.expressions turns room l f))

pub statements-pass-none : StatementsPassNoDeepToken
statements-pass-none fuel room f = few-open room open_in_statement (BeginWithStatement f) (λ (s : Statement). s) (statement (readers true fuel room) f Listed) (read-statement fuel room f _ (λ turns l. few'.statements turns room l f Listed))

modules-pass-none : (fuel : ℕ) → PassesWhereFewAreOpen most_open open_in_module SpellsModule (whole_module (readers true fuel most_open))
modules-pass-none fuel = few-open most_open open_in_module SpellsModule (λ (m : Module). m) (whole_module (readers true fuel most_open)) (read-module fuel most_open _ (λ turns l. few'.modules turns l))

module-read : (fuel : ℕ) (tokens : List Filled) → read_module fuel tokens ≡ whole_module (readers true fuel most_open) (record { tokens = tokens; last = 0 })
unfolding read_module
module-read fuel tokens = refl

-- tokens in order that spell a module are those of a text
pub spelled-text : (tokens : List Token) (m : Module) → SpellsModule tokens m → AreInOrder tokens → AreOfText tokens
spelled-text tokens m spells order =
    let r = read-spelled what-is-derived-is-read tokens m spells in
    let k = r.1 r.0 r.0 (same-low r.0) (same-low r.0) in
    text-of r.0 r.0 tokens m k.0 k.1 order
  where
    same-low : (n : ℕ) → n ≤ n
    same-low n = omega arith

never-more : (a b : ℕ) → b < a → a ≤ b → ⊥
never-more a b h k = omega arith

none-behind : (fuel : ℕ) (front behind : List Token) (t : Token) → Passes (length behind) (read_module fuel (map read (front ++ t ∷ behind))) → IsTooDeep (front ++ t ∷ behind) (length front) → ⊥
none-behind fuel front behind t h d =
    let next : length front + 1 ≡ suc (length front) = omega arith in
    let row : take (length front + 1) (front ++ t ∷ behind) ≡ front ++ t ∷ [] = ap (λ n. take n (front ++ t ∷ behind)) next ∙ take-next front t behind in
    let whole : take (length front + 1) (front ++ t ∷ behind) ++ d.rest ≡ front ++ t ∷ d.rest = ap (λ ts. ts ++ d.rest) row ∙ append_assoc front (t ∷ []) d.rest in
    let spells : SpellsModule (front ++ t ∷ d.rest) d.tree = subst (λ ts. SpellsModule ts d.tree) whole d.spelled in
    let text = spelled-text (front ++ t ∷ d.rest) d.tree spells (subst AreInOrder whole d.placed) in
    let few = modules-pass-none fuel front behind t (subst (λ o. Passes (length behind) o) (module-read fuel (map read (front ++ t ∷ behind))) h) d.rest text d.tree spells in
    never-more (open_in_module d.tree (front ++ t ∷ [])) most_open (subst (λ ts. most_open < open_in_module d.tree ts) row d.deep) few

-- the tokens before one, and those behind it
record Parted (tokens : List Token) (p behind : ℕ) : Type 0 where
  front : List Token
  token : Token
  rest : List Token
  whole : tokens ≡ front ++ token ∷ rest
  there : length front ≡ p
  left_ : length rest ≡ behind

part : (tokens : List Token) (p behind : ℕ) → p + suc behind ≡ length tokens → Parted tokens p behind
part [] p behind e = absurd (omega (arith, e))
part (t ∷ tokens) zero behind e = record { front = []; token = t; rest = tokens; whole = refl; there = refl; left_ = omega (arith, e) }
part (t ∷ tokens) (suc p) behind e =
    let r = part tokens p behind (omega (arith, e)) in
    record { front = t ∷ r.front; token = r.token; rest = r.rest; whole = ap (λ ts. t ∷ ts) r.whole; there = ap (λ n. suc n) r.there; left_ = r.left_ }

pub none-too-deep : NoDeepTokenIsPassed
none-too-deep fuel tokens p behind e h d =
    let r = part tokens p behind e in
    let whole : read_module fuel (map read tokens) ≡ read_module fuel (map read (r.front ++ r.token ∷ r.rest)) = ap (λ ts. read_module fuel (map read ts)) r.whole in
    none-behind fuel r.front r.rest r.token (subst (λ n. Passes n (read_module fuel (map read (r.front ++ r.token ∷ r.rest)))) (sym r.left_) (subst (λ o. Passes behind o) whole h))
    (subst (λ n. IsTooDeep (r.front ++ r.token ∷ r.rest) n) (sym r.there) (subst (λ ts. IsTooDeep ts p) r.whole d))
