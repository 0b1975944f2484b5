-- A reader takes a token with which what it reads begins: of that token alone it leaves nothing, and no turns are wanting.
use Rattle.std.specs.Prelude.{codes, is_some, not}
use Rattle.std.specs.List.{list_any}
use Rattle.std.proofs.Common.{◌≡◌, ◌∙◌, ℕ, zero, suc, ◌+◌, Bool, true, false, ◌&&◌, ◌||◌, List, [], ◌∷◌, Option, Some, None, ap, refl, sym, subst}
use Rattle.std.specs.Str.{bytes_eq}
use Rattle.std.proofs.lemmas.Bool.{false≢true}
use Rattle.es6_lexer.specs.declared.token.Punctuator.{Punctuator as Mark}
use Rattle.es6_lexer.specs.declared.token.Punctuator.TheVariants as marks
use Rattle.es6_lexer.specs.declared.token.TokenKind.TheVariants as kinds
use Rattle.es_outside.specs.HostNames.{reserved_words}
use Rattle.es6_ast.specs.declared.operators.VariableKind.{VariableKind}
use Rattle.es6_ast.specs.declared.operators.VariableKind.TheVariants.{Var}
use Rattle.es6_ast.specs.declared.settings.Flags.{Flags}
use Rattle.es6_ast.specs.declared.settings.Role.{Role}
use Rattle.es6_ast.specs.declared.settings.Role.TheVariants.{Leading, Among}
use Rattle.es6_ast.specs.declared.settings.Stand.{Stand}
use Rattle.es6_ast.specs.declared.settings.Stand.TheVariants.{Listed, Under, Labelled}
use Rattle.es6_ast.specs.declared.settings.Stop.TheVariants.{Depth, Endless, Syntax}
use Rattle.es6_ast.specs.declared.tree.Expression.{Expression}
use Rattle.es6_ast.specs.declared.tree.Identifier.{Identifier}
use Rattle.es6_ast.specs.declared.tree.Stretch.{Stretch}
use Rattle.es6_ast.specs.Grammar.{with_in}
use Rattle.es6_ast.specs.Settings.{has_calls, is_leading}
use Rattle.es6_ast.specs.Tokens.{Filled, Filling, Read, is_word}
use Rattle.es6_reading.specs.Parser.{Input, Outcome, Took, Fault, Parser, Reading, fails, after, on, on_taken, choose, if_next, is_mark, is_left, mark, next_mark, word, next_word, take_as, refused, no_expression, semicolon, Inner, on_group}
use Rattle.es6_reading.specs.Words.{begins_expression, begins_operand, begins_unary, before_at, free_name, is_any_word, is_template_head, lexical_kind_at, literal_at, operand_words, stretch_at, stretch_in, unary_at, unary_operators}
use Rattle.es6_reading.specs.Parts as t6
use Rattle.es6_reading.specs.Expressions as e
use Rattle.es6_reading.specs.Statements as s6
use Rattle.es6_reading.specs.Statements.{begins_declaration, begins_statement, statement_words}
use Rattle.es6_reading.proofs.CompleteTokens.{no-word, word-miss}
use Rattle.es6_reading.proofs.LocalLimits.{sequence-limit}
use Rattle.es6_reading_laws.proofs.es6_viability.Viable.{left}
use Rattle.es6_reading.proofs.Meanings.{bytes_eq-refl, mark-misses, same_bytes, word-misses}

-- nothing is left of it, and no turns were wanting
abbrev pub Over : {A : Type 0} → Outcome A → Type 0
Over (Took x c) = c.tokens ≡ []
Over (Fault stop ts) = (stop ≡ Endless → ⊥) × (ts ≡ [])

abbrev alone : Filled → ℕ → Input
alone t last = record { tokens = t ∷ []; last = last }

abbrev none : ℕ → Input
none last = record { tokens = []; last = last }

over-fault : {A : Type 0} {o : Outcome A} → o ≡ Fault Syntax [] → Over o
over-fault e = subst (λ o. Over o) (sym e) ((λ k. absurd (cc)), refl)

over-took : {A : Type 0} {o : Outcome A} {x : A} {last : ℕ} → o ≡ Took x (none last) → Over o
over-took e = subst (λ o. Over o) (sym e) refl

pub over-left : {A : Type 0} (o : Outcome A) → Over o → left o ≡ []
over-left (Took x c) h = h
over-left (Fault stop ts) h = h.1

over-bind : {A B : Type 0} (o : Outcome A) (q : A → Parser B) → Over o → ((x : A) (last : ℕ) → Over (q x (none last))) → Over (after o q)
over-bind (Took x c) q h f = subst (λ ts. Over (q x (record { tokens = ts; last = c.last }))) (sym h) (f x c.last)
over-bind (Fault stop ts) q h f = h

-- where a part of a reader stops, the reader stops
stops-with : {A B : Type 0} {o : Outcome A} (q : A → Parser B) → o ≡ Fault Syntax [] → after o q ≡ Fault Syntax []
stops-with q h = ap (λ o. after o q) h

over-choice : {A : Type 0} (b : Bool) (p q : Parser A) (c : Input) → (b ≡ true → Over (p c)) → (b ≡ false → Over (q c)) → Over (choose b p q c)
over-choice true p q c f g = f refl
over-choice false p q c f g = g refl

choice-stops : {A : Type 0} (b : Bool) (p q : Parser A) (c : Input) → p c ≡ Fault Syntax [] → q c ≡ Fault Syntax [] → choose b p q c ≡ Fault Syntax []
choice-stops true p q c f g = f
choice-stops false p q c f g = g

over-on : {A B : Type 0} (test : Filled → Option B) (p : B → Parser A) (q : Parser A) (t : Filled) (last : ℕ) → ((x : B) → Over (p x (none t.span.end))) → (test t ≡ None → Over (q (alone t last))) → Over (on test p q (alone t last))
over-on {A = A} {B = B} test p q t last f g = by (test t) refl
  where
    by : (o : Option B) → test t ≡ o → Over (on_taken o t [] p q (alone t last))
    by (Some x) k = f x
    by None k = g k

over-take : {B : Type 0} (test : Filled → Option B) (t : Filled) (last : ℕ) → (test t ≡ None → ⊥) → Over (take_as test (alone t last))
over-take test t last h = over-on test _ _ t last (λ x. refl) (λ k. absurd (h k))

mark-missed : (m : Mark) (t : Filled) → next_mark m t ≡ true → mark m t ≡ None → ⊥
mark-missed m t h k = false≢true (sym (mark-misses m t k) ∙ h)

word-missed : (w : List ℕ) (t : Filled) → next_word w t ≡ true → word w t ≡ None → ⊥
word-missed w t h k = false≢true (sym (word-misses w t k) ∙ h)

over-group : {A : Type 0} (j : Inner) → j.may_open ≡ true → (m : Mark) (p q : Parser A) (t : Filled) (last : ℕ) → Over (p (none t.span.end)) → (next_mark m t ≡ false → Over (q (alone t last))) → Over (on_group j m p q (alone t last))
over-group j o m p q t last f g = over-choice (next_mark m t) (choose j.may_open (on (mark m) (λ x. p) q) (fails Depth)) q (alone t last)
    (λ seen. subst (λ b. Over (choose b (on (mark m) (λ x. p) q) (fails Depth) (alone t last))) (sym o) (over-on (mark m) (λ x. p) q t last (λ x. f) (λ k. absurd (mark-missed m t seen k)))) g

none-some : {A : Type 0} {o : Option A} → o ≡ None → is_some o ≡ true → ⊥
none-some {o = o} e h = false≢true (sym (ap (λ z. is_some z) e) ∙ h)

over-opening : {A B : Type 0} (j : Inner) → j.may_open ≡ true → (test : Filled → Option B) (p : B → Parser A) (q : Parser A) (t : Filled) (last : ℕ) → ((x : B) → Over (p x (none t.span.end))) → (is_some (test t) ≡ false → Over (q (alone t last)))
    → Over (if_next (λ u. is_some (test u)) (choose j.may_open (on test p q) (fails Depth)) q (alone t last))
over-opening j o test p q t last f g = over-choice (is_some (test t)) (choose j.may_open (on test p q) (fails Depth)) q (alone t last)
    (λ seen. subst (λ b. Over (choose b (on test p q) (fails Depth) (alone t last))) (sym o) (over-on test p q t last f (λ k. absurd (none-some k seen)))) g

-- ## What begins so is something

abbrev NoWords : List (List ℕ) → Filled → Type 0
NoWords [] t = Unit {0}
NoWords (w ∷ ws) t = (word w t ≡ None) × NoWords ws t

module _ (t : Filled) (name : List ℕ) (e : t.kind ≡ Read (kinds.Word name)) where
  none-named : (words : List (List ℕ)) → NoWords words t → list_any (λ w. bytes_eq w name) words ≡ true → ⊥
  none-named [] n h = false≢true h
  none-named (w ∷ ws) n h = either (bytes_eq w name) refl h (none-named ws n.1)
    where
      either : (b : Bool) → bytes_eq w name ≡ b → (b || list_any (λ v. bytes_eq v name) ws) ≡ true → (list_any (λ v. bytes_eq v name) ws ≡ true → ⊥) → ⊥
      either true k m rest = word-missed w t (ap (is_word w) e ∙ ap (λ v. bytes_eq v w) (sym (same_bytes w name k)) ∙ bytes_eq-refl w) n.0
      either false k m rest = rest m

no-words : (words : List (List ℕ)) (t : Filled) (k : Filling) → t.kind ≡ k → NoWords words t → is_any_word words k ≡ true → ⊥
no-words words t (Read (kinds.Word name)) e n h = none-named t name e words n h
no-words words t k e n h = absurd (cc)

one-of-seven : (a b c d x y z : Bool) → (a || b || c || d || x || y || z) ≡ true → (a ≡ true → ⊥) → (b ≡ true → ⊥) → (c ≡ true → ⊥) → (d ≡ true → ⊥) → (x ≡ true → ⊥) → (y ≡ true → ⊥) → (z ≡ true → ⊥) → ⊥
one-of-seven true b c d x y z h na nb nc nd nx ny nz = na refl
one-of-seven false true c d x y z h na nb nc nd nx ny nz = nb refl
one-of-seven false false true d x y z h na nb nc nd nx ny nz = nc refl
one-of-seven false false false true x y z h na nb nc nd nx ny nz = nd refl
one-of-seven false false false false true y z h na nb nc nd nx ny nz = nx refl
one-of-seven false false false false false true z h na nb nc nd nx ny nz = ny refl
one-of-seven false false false false false false z h na nb nc nd nx ny nz = nz h

no-head : (t : Filled) (k : Filling) → t.kind ≡ k → stretch_at true true t ≡ None → is_some (stretch_at true false t) ≡ false → is_template_head k ≡ true → ⊥
no-head t (Read (kinds.Template cooked raw true true)) e whole opening h = none-some (sym (ap (stretch_in true true t.span) e) ∙ whole) refl
no-head t (Read (kinds.Template cooked raw true false)) e whole opening h = false≢true (sym opening ∙ ap (λ k. is_some (stretch_in true false t.span k)) e)
no-head t k e whole opening h = absurd (cc)

-- what a token isn't that begins no operand
record NoneOf (t : Filled) : Type 0 where
  free : free_name t ≡ None
  literal : literal_at t ≡ None
  words : NoWords operand_words t
  whole : stretch_at true true t ≡ None
  opening : is_some (stretch_at true false t) ≡ false
  parenthesis : next_mark marks.LeftParenthesis t ≡ false
  bracket : next_mark marks.LeftBracket t ≡ false
  brace : next_mark marks.LeftBrace t ≡ false

none-begins : (t : Filled) → NoneOf t → begins_operand t ≡ true → ⊥
unfolding begins_operand
none-begins t n h = one-of-seven (is_some (free_name t)) (is_some (literal_at t)) (is_any_word operand_words t.kind) (is_template_head t.kind) (is_mark marks.LeftParenthesis t.kind) (is_mark marks.LeftBracket t.kind) (is_mark marks.LeftBrace t.kind) h
    (none-some n.free) (none-some n.literal) (no-words operand_words t t.kind refl n.words) (no-head t t.kind refl n.whole n.opening)
    (λ k. false≢true (sym n.parenthesis ∙ k)) (λ k. false≢true (sym n.bracket ∙ k)) (λ k. false≢true (sym n.brace ∙ k))

or-left : (x y z : Bool) → (x || (y && z)) ≡ true → (y ≡ true → z ≡ true → ⊥) → x ≡ true
or-left true y z h never = refl
or-left false true true h never = absurd (never refl refl)
or-left false true false h never = absurd (false≢true h)
or-left false false z h never = absurd (false≢true h)

and-first : (x y : Bool) → (x && y) ≡ true → x ≡ true
and-first true y h = refl
and-first false y h = absurd (false≢true h)

and-second : (x y : Bool) → (x && y) ≡ true → y ≡ true
and-second true y h = h
and-second false y h = absurd (false≢true h)

and-none : (x : Bool) → (x && false) ≡ false
and-none true = refl
and-none false = refl

not-true : (x : Bool) → not x ≡ true → x ≡ false
not-true true h = absurd (false≢true h)
not-true false h = refl

neither : (x y : Bool) → x ≡ false → y ≡ false → (x || y) ≡ false
neither true y h k = h
neither false y h k = k

one-of-three : (x y z : Bool) → (x || y || z) ≡ true → (y ≡ true → ⊥) → (z ≡ true → ⊥) → x ≡ true
one-of-three true y z h ny nz = refl
one-of-three false true z h ny nz = absurd (ny refl)
one-of-three false false z h ny nz = absurd (nz h)

last-of-five : (a b c d x : Bool) → (a || b || c || d || x) ≡ true → (a ≡ true → ⊥) → (b ≡ true → ⊥) → (c ≡ true → ⊥) → (d ≡ true → ⊥) → x ≡ true
last-of-five true b c d x h na nb nc nd = absurd (na refl)
last-of-five false true c d x h na nb nc nd = absurd (nb refl)
last-of-five false false true d x h na nb nc nd = absurd (nc refl)
last-of-five false false false true x h na nb nc nd = absurd (nd refl)
last-of-five false false false false x h na nb nc nd = h

-- ## Readers

-- what reads inside another stops where there is nothing
pub record Bare (j : Inner) : Type 0 where
  pub may_open : j.may_open ≡ true
  pub sequence : (f : Flags) (last : ℕ) → j.sequence f (none last) ≡ Fault Syntax []
  pub assignment : (f : Flags) (last : ℕ) → j.assignment f (none last) ≡ Fault Syntax []
  pub unary : (f : Flags) (last : ℕ) → j.unary f (none last) ≡ Fault Syntax []
  pub callee : (f : Flags) (last : ℕ) → j.callee f (none last) ≡ Fault Syntax []
  pub property : (f : Flags) (last : ℕ) → j.property f (none last) ≡ Fault Syntax []
  pub listed : (f : Flags) (last : ℕ) → j.statement f Listed (none last) ≡ Fault Syntax []
  pub under : (f : Flags) (last : ℕ) → j.statement f Under (none last) ≡ Fault Syntax []

module _ (j : Inner) (n : ℕ) (turns : j.fuel ≡ suc n) (b : Bare j) where
  -- where nothing follows
  after-new : (f : Flags) (at last : ℕ) → e.after_new j f at (none last) ≡ Fault Syntax []
  unfolding e.after_new
  after-new f at last = stops-with _ (b.callee f last)

  after-super : (f : Flags) (role : Role) (at last : ℕ) → e.after_super j f role at (none last) ≡ Fault Syntax []
  unfolding e.after_super e.super_call refused
  after-super f role at last = choice-stops (has_calls role) _ _ (none last) refl refl

  named-function : (at : ℕ) (generator : Bool) (last : ℕ) → t6.named_function j at generator (none last) ≡ Fault Syntax []
  unfolding t6.named_function t6.identifier refused
  named-function at generator last = refl

  function : (lacks : Bool) (at last : ℕ) → t6.function_after_word j lacks at (none last) ≡ Fault Syntax []
  unfolding t6.function_after_word t6.star
  function lacks at last = choice-stops lacks _ _ (none last) (named-function at false last) (named-function at false last)

  named-class : (f : Flags) (at last : ℕ) → t6.named_class j f at (none last) ≡ Fault Syntax []
  unfolding t6.named_class t6.identifier refused
  named-class f at last = refl

  class : (f : Flags) (lacks : Bool) (at last : ℕ) → t6.class_after_word j f lacks at (none last) ≡ Fault Syntax []
  unfolding t6.class_after_word
  class f lacks at last = choice-stops lacks _ _ (none last) (named-class f at last) (named-class f at last)

  parted : (f : Flags) (at : ℕ) (r : Stretch) (last : ℕ) → t6.parted_template j f at r (none last) ≡ Fault Syntax []
  unfolding t6.parted_template t6.template_parts
  parted f at r last = stops-with _ (ap (λ m. t6.template_parts j f m (none last)) turns ∙ stops-with _ (b.sequence (with_in f) last))

  held-group : (f : Flags) (role : Role) (at last : ℕ) → e.held_group j f role at (none last) ≡ Fault Syntax []
  unfolding e.held_group e.held_parts
  held-group f role at last = stops-with _ (ap (λ m. e.held_parts j f role m (none last)) turns ∙ stops-with _ (b.assignment (with_in f) last))

  grouped : (f : Flags) (role : Role) (at last : ℕ) → e.grouped j f role at (none last) ≡ Fault Syntax []
  unfolding e.grouped
  grouped f role at last = choice-stops (is_leading role) _ _ (none last) (held-group f role at last) (held-group f role at last)

  elements : (f : Flags) (last : ℕ) → e.elements j f j.fuel (none last) ≡ Fault Syntax []
  unfolding e.elements e.argument
  elements f last = ap (λ m. e.elements j f m (none last)) turns ∙ stops-with _ (stops-with _ (b.assignment (with_in f) last))

  properties : (f : Flags) (last : ℕ) → e.properties j f j.fuel (none last) ≡ Fault Syntax []
  unfolding e.properties
  properties f last = ap (λ m. e.properties j f m (none last)) turns ∙ stops-with _ (b.property f last)

  links : (f : Flags) (calls : Bool) (last : ℕ) → e.links j f calls j.fuel (none last) ≡ Took [] (none last)
  unfolding e.links
  links f calls last = ap (λ m. e.links j f calls m (none last)) turns ∙ by calls
    where
      by : (v : Bool) → e.links j f v (suc n) (none last) ≡ Took [] (none last)
      by true = refl
      by false = refl

  -- ## Operands

  module _ (t : Filled) where
    bracketed : (f : Flags) (role : Role) (at last : ℕ) → (next_mark marks.LeftBracket t ≡ false → next_mark marks.LeftBrace t ≡ false → ⊥) → Over (e.bracketed j f role at (alone t last))
    unfolding e.bracketed
    bracketed f role at last never = over-group j b.may_open marks.LeftBracket _ _ t last (over-fault (stops-with _ (elements f t.span.end)))
        (λ u. over-group j b.may_open marks.LeftBrace _ _ t last (over-fault (stops-with _ (properties f t.span.end))) (λ v. absurd (never u v)))

    head : (f : Flags) (role : Role) (at last : ℕ) → begins_operand t ≡ true → Over (e.head j f role at (alone t last))
    unfolding e.head e.primary e.composed operand_words
    head f role at last h = over-on (word (codes "new")) _ _ t last (λ x. over-fault (after-new f at t.span.end)) (λ new_.
        over-on (word (codes "super")) _ _ t last (λ x. over-fault (after-super f role at t.span.end)) (λ super_.
        over-on (word (codes "this")) _ _ t last (λ x. refl) (λ this_.
        over-on free_name _ _ t last (λ x. refl) (λ free.
        over-on literal_at _ _ t last (λ x. refl) (λ literal.
        over-on (word (codes "function")) _ _ t last (λ x. over-fault (stops-with _ (function true at t.span.end))) (λ function_.
        over-on (word (codes "class")) _ _ t last (λ x. over-fault (stops-with _ (class f true at t.span.end))) (λ class_.
        over-on (stretch_at true true) _ _ t last (λ x. refl) (λ whole.
        over-opening j b.may_open (stretch_at true false) _ _ t last (λ r. over-fault (stops-with _ (parted f at r t.span.end)))
        (λ opening. over-group j b.may_open marks.LeftParenthesis _ _ t last (over-fault (grouped f role at t.span.end)) (λ parenthesis.
        bracketed f role at last (λ bracket brace. none-begins t
        (record { free = free; literal = literal; words = (this_, (function_, (class_, (new_, (super_, tt))))); whole = whole; opening = opening; parenthesis = parenthesis; bracket = bracket; brace = brace }) h)))))))))))

    pub chain : (f : Flags) (role : Role) (last : ℕ) → begins_operand t ≡ true → Over (e.chain j f role (alone t last))
    unfolding e.chain
    chain f role last h = over-bind (e.head j f role t.span.begin (alone t last)) _ (head f role t.span.begin last h) (λ x end. over-bind (e.links j f (has_calls role) j.fuel (none end)) _ (over-took (links f (has_calls role) end)) (λ ls last. refl))

    -- ## Operators

    postfix : (f : Flags) (role : Role) (last : ℕ) → begins_operand t ≡ true → Over (e.postfix j f role (alone t last))
    unfolding e.postfix
    postfix f role last h = over-bind (e.chain j f role (alone t last)) _ (chain f role last h) (λ x end. refl)

    update : (f : Flags) (role : Role) (last : ℕ) → (before_at t ≡ None → begins_operand t ≡ true) → Over (e.update j f role (alone t last))
    unfolding e.update e.updated
    update f role last h = over-on before_at _ _ t last (λ op. over-fault (stops-with _ (b.unary f t.span.end))) (λ k. postfix f role last (h k))

    operand-left : begins_unary t ≡ true → unary_at t ≡ None → before_at t ≡ None → begins_operand t ≡ true
    unfolding begins_unary
    operand-left h u k = one-of-three (begins_operand t) (is_some (unary_at t)) (is_some (before_at t)) h (none-some u) (none-some k)

    pub unary : (f : Flags) (last : ℕ) → begins_unary t ≡ true → Over (e.unary j f (alone t last))
    unfolding e.unary e.prefixed
    unary f last h = over-on unary_at _ _ t last (λ op. over-fault (stops-with _ (b.unary f t.span.end))) (λ u. update f Among last (operand-left h u))

    pub power : (f : Flags) (role : Role) (last : ℕ) → begins_unary t ≡ true → Over (e.power j f role (alone t last))
    unfolding e.power e.prefixed e.raised
    power f role last h = over-on unary_at _ _ t last (λ op. over-fault (stops-with _ (b.unary f t.span.end))) (λ u. over-bind (e.update j f role (alone t last)) _ (update f role last (operand-left h u)) (λ x end. refl))

    operands : (f : Flags) (level : ℕ) (q : Parser Reading) (last : ℕ) → e.operands q f level j.fuel (none last) ≡ Took [] (none last)
    unfolding e.operands
    operands f level q last = ap (λ m. e.operands q f level m (none last)) turns

    binary : (f : Flags) (role : Role) (up level last : ℕ) → begins_unary t ≡ true → Over (e.binary_from j f role up level (alone t last))
    unfolding e.binary_from
    binary f role zero level last h = power f role last h
    binary f role (suc up) level last h = over-bind (e.binary_from j f role up (level + 1) (alone t last)) _ (binary f role up (level + 1) last h)
        (λ x end. over-bind (e.operands (e.binary_from j f Among up (level + 1)) f level j.fuel (none end)) _ (over-took (operands f level (e.binary_from j f Among up (level + 1)) end)) (λ os last. refl))

    conditional : (f : Flags) (last : ℕ) → begins_unary t ≡ true → Over (e.conditional j f (alone t last))
    unfolding e.conditional
    conditional f last h = over-bind (e.binary_from j f Leading 10 3 (alone t last)) _ (binary f Leading 10 3 last h) (λ x end. refl)

    without-yield : (f : Flags) (at last : ℕ) → begins_unary t ≡ true → Over (e.without_yield j f at (alone t last))
    unfolding e.without_yield e.after_conditional
    without-yield f at last h = over-bind (e.conditional j f (alone t last)) _ (conditional f last h) (λ x end. over-choice (is_left x.shape) _ _ (none end) (λ k. refl) (λ k. refl))

    yield-left : (f : Flags) → begins_expression f t ≡ true → (f.has_yield ≡ true → word (codes "yield") t ≡ None) → begins_unary t ≡ true
    unfolding begins_expression
    yield-left f h k = or-left (begins_unary t) f.has_yield (is_word (codes "yield") t.kind) h (λ y z. word-missed (codes "yield") t z (k y))

    pub assignment : (f : Flags) (last : ℕ) → begins_expression f t ≡ true → Over (e.assignment j f (alone t last))
    unfolding e.assignment e.after_yield
    assignment f last h = over-choice f.has_yield _ _ (alone t last)
        (λ y. over-on (word (codes "yield")) _ _ t last (λ x. refl) (λ k. without-yield f t.span.begin last (yield-left f h (λ z. k))))
        (λ y. without-yield f t.span.begin last (yield-left f h (λ z. absurd (false≢true (sym y ∙ z)))))

    pub sequence : (f : Flags) (last : ℕ) → begins_expression f t ≡ true → Over (e.sequence j f (alone t last))
    unfolding e.sequence
    sequence f last h = over-bind (e.assignment j f (alone t last)) _ (assignment f last h) (λ x end. refl)

    -- ## Statements

    semicolon-stops : (last : ℕ) → semicolon j (none last) ≡ Fault Syntax []
    unfolding semicolon refused
    semicolon-stops last = choice-stops j.inserting _ _ (none last) refl refl

    parenthesized : (f : Flags) (last : ℕ) → s6.parenthesized j f (none last) ≡ Fault Syntax []
    unfolding s6.parenthesized refused
    parenthesized f last = refl

    block-stops : (f : Flags) (last : ℕ) → t6.block j f (none last) ≡ Fault Syntax []
    unfolding t6.block refused
    block-stops f last = refl

    sequence-stops : (f : Flags) (last : ℕ) → e.sequence j f (none last) ≡ Fault Syntax []
    unfolding no_expression
    sequence-stops f last = sequence-limit j f [] last refl

    variables-stop : (f : Flags) (at : ℕ) (kind : VariableKind) (last : ℕ) → s6.variables_statement j f at kind (none last) ≡ Fault Syntax []
    unfolding s6.variables_statement s6.variables s6.one_variable t6.initialized t6.binding t6.binding_pattern refused
    variables-stop f at kind last = stops-with _ (ap (λ m. s6.variables (t6.initialized j f f) m (none last)) turns)

    pub block : (f : Flags) (last : ℕ) → next_mark marks.LeftBrace t ≡ true → Over (t6.block j f (alone t last))
    unfolding t6.block t6.statements
    block f last h = over-group j b.may_open marks.LeftBrace _ _ t last (over-fault (stops-with _ (ap (λ m. t6.statements j f m (none t.span.end)) turns ∙ stops-with _ (b.listed f t.span.end)))) (λ k. absurd (false≢true (sym k ∙ h)))

    otherwise-none : (f : Flags) (last : ℕ) → s6.otherwise j f j.fuel (none last) ≡ Took (record { more = []; last = None }) (none last)
    unfolding s6.otherwise
    otherwise-none f last = ap (λ m. s6.otherwise j f m (none last)) turns

    if-statement : (f : Flags) (at last : ℕ) → next_word (codes "if") t ≡ true → Over (s6.if_statement j f at (alone t last))
    unfolding s6.if_statement s6.condition
    if-statement f at last h = over-bind (s6.condition j f (alone t last)) _ (over-bind (take_as (word (codes "if")) (alone t last)) _ (over-take (word (codes "if")) t last (word-missed (codes "if") t h)) (λ x end. over-fault (stops-with _ (parenthesized f end))))
        (λ x end. over-bind (s6.otherwise j f j.fuel (none end)) _ (over-took (otherwise-none f end)) (λ r last. refl))

    label-stops : (f : Flags) (at : ℕ) (label : Option Identifier) (x : Expression) (last : ℕ) → s6.label_or_end j f at label x (none last) ≡ Fault Syntax []
    unfolding s6.expression_end
    label-stops f at (Some m) x last = stops-with _ (semicolon-stops last)
    label-stops f at None x last = stops-with _ (semicolon-stops last)

    not-with : (f : Flags) → begins_expression f t ≡ true → next_word (codes "with") t ≡ false
    unfolding begins_expression begins_unary begins_operand unary_operators reserved_words operand_words
    not-with f h = no-word (begins_expression f) (codes "with") t h (and-none f.has_yield)

    plain : (f : Flags) (at last : ℕ) → begins_expression f t ≡ true → begins_declaration t ≡ false → Over (s6.plain_statement j f at (alone t last))
    unfolding s6.plain_statement s6.expression_statement
    plain f at last h d = over-choice (next_word (codes "with") t) _ _ (alone t last) (λ k. absurd (false≢true (sym (not-with f h) ∙ k)))
        (λ k. over-choice (begins_declaration t) _ _ (alone t last) (λ m. absurd (false≢true (sym d ∙ m))) (λ m. over-bind (e.sequence j f (alone t last)) _ (sequence f last h) (λ x end. over-fault (label-stops f at (s6.label_of x.shape x.value) x.value end))))

    more : (f : Flags) (stand : Stand) (at last : ℕ) → (begins_expression f t && s6.may_declare stand t) ≡ true → Over (s6.on_more j f stand at (s6.plain_statement j f at) (alone t last))
    unfolding s6.function_declaration s6.class_declaration s6.labelled_function
    more f Listed at last h = over-on (word (codes "function")) _ _ t last (λ x. over-fault (stops-with _ (function false at t.span.end))) (λ function_.
        over-on (word (codes "class")) _ _ t last (λ x. over-fault (stops-with _ (class f false at t.span.end))) (λ class_.
        over-on lexical_kind_at _ _ t last (λ kind. over-fault (variables-stop f at kind t.span.end)) (λ lexical.
        plain f at last (and-first (begins_expression f t) true h) (neither (next_word (codes "function") t) (next_word (codes "class") t) (word-misses (codes "function") t function_) (word-misses (codes "class") t class_)))))
    more f Under at last h = plain f at last (and-first (begins_expression f t) (not (begins_declaration t)) h) (not-true (begins_declaration t) (and-second (begins_expression f t) (not (begins_declaration t)) h))
    more f Labelled at last h = over-on (word (codes "function")) _ _ t last (λ x. over-fault (stops-with _ (named-function at false t.span.end))) (λ function_.
        plain f at last (and-first (begins_expression f t) (not (next_word (codes "class") t)) h) (neither (next_word (codes "function") t) (next_word (codes "class") t) (word-misses (codes "function") t function_) (not-true (next_word (codes "class") t) (and-second (begins_expression f t) (not (next_word (codes "class") t)) h))))

    for-stops : (f : Flags) (at last : ℕ) → s6.for_statement j f at (none last) ≡ Fault Syntax []
    unfolding s6.for_statement refused
    for-stops f at last = refl

    continue-stops : (at last : ℕ) → s6.continue_statement j at (none last) ≡ Fault Syntax []
    unfolding s6.continue_statement s6.optional_label
    continue-stops at last = stops-with _ (semicolon-stops last)

    break-stops : (at last : ℕ) → s6.break_statement j at (none last) ≡ Fault Syntax []
    unfolding s6.break_statement s6.optional_label
    break-stops at last = stops-with _ (semicolon-stops last)

    return-stops : (f : Flags) (at last : ℕ) → s6.return_statement j f at (none last) ≡ Fault Syntax []
    unfolding s6.return_statement s6.returned
    return-stops f at last = stops-with _ (semicolon-stops last)

    statement-left : (f : Flags) (stand : Stand) → begins_statement f stand t ≡ true → next_mark marks.LeftBrace t ≡ false → mark marks.Semicolon t ≡ None → NoWords statement_words t → (f.has_return ≡ true → word (codes "return") t ≡ None) → (begins_expression f t && s6.may_declare stand t) ≡ true
    unfolding begins_statement
    statement-left f stand h brace empty words return_ = last-of-five (is_mark marks.LeftBrace t.kind) (is_mark marks.Semicolon t.kind) (is_any_word statement_words t.kind) (f.has_return && is_word (codes "return") t.kind) (begins_expression f t && s6.may_declare stand t) h
        (λ k. false≢true (sym brace ∙ k)) (λ k. false≢true (sym (mark-misses marks.Semicolon t empty) ∙ k)) (no-words statement_words t t.kind refl words)
        (λ k. word-missed (codes "return") t (and-second f.has_return (is_word (codes "return") t.kind) k) (return_ (and-first f.has_return (is_word (codes "return") t.kind) k)))

    pub statement : (f : Flags) (stand : Stand) (last : ℕ) → begins_statement f stand t ≡ true → Over (s6.statement j f stand (alone t last))
    unfolding s6.statement s6.block_statement s6.compound_statement s6.jump_statement s6.do_statement s6.while_statement s6.switch_statement s6.try_statement s6.throw_statement s6.debugger_statement statement_words
    statement f stand last h =
        let at : ℕ = t.span.begin in
        let end : ℕ = t.span.end in
        over-choice (next_mark marks.LeftBrace t) _ _ (alone t last) (λ k. over-bind (t6.block j f (alone t last)) _ (block f last k) (λ x end. refl)) (λ brace.
        over-choice (next_word (codes "if") t) _ _ (alone t last) (λ k. if-statement f at last k) (λ if_.
        over-on (mark marks.Semicolon) _ _ t last (λ x. refl) (λ empty.
        over-on (word (codes "var")) _ _ t last (λ x. over-fault (variables-stop f at Var end)) (λ var_.
        over-on (word (codes "do")) _ _ t last (λ x. over-fault (stops-with _ (b.under f end))) (λ do_.
        over-on (word (codes "while")) _ _ t last (λ x. over-fault (stops-with _ (parenthesized f end))) (λ while_.
        over-on (word (codes "for")) _ _ t last (λ x. over-fault (for-stops f at end)) (λ for_.
        over-on (word (codes "switch")) _ _ t last (λ x. over-fault (stops-with _ (parenthesized f end))) (λ switch_.
        over-on (word (codes "try")) _ _ t last (λ x. over-fault (stops-with _ (block-stops f end))) (λ try_.
        over-on (word (codes "continue")) _ _ t last (λ x. over-fault (continue-stops at end)) (λ continue_.
        over-on (word (codes "break")) _ _ t last (λ x. over-fault (break-stops at end)) (λ break_.
        over-on (word (codes "throw")) _ _ t last (λ x. over-fault (stops-with _ (sequence-stops (with_in f) end))) (λ throw_.
        over-on (word (codes "debugger")) _ _ t last (λ x. over-fault (stops-with _ (semicolon-stops end))) (λ debugger_.
        let words : NoWords statement_words t = (var_, (word-miss (codes "if") t if_, (do_, (while_, (for_, (switch_, (try_, (continue_, (break_, (throw_, (debugger_, tt))))))))))) in
        over-choice f.has_return _ _ (alone t last)
        (λ may. over-on (word (codes "return")) _ _ t last (λ x. over-fault (return-stops f at end)) (λ return_. more f stand at last (statement-left f stand h brace empty words (λ z. return_))))
        (λ may. more f stand at last (statement-left f stand h brace empty words (λ z. absurd (false≢true (sym may ∙ z))))))))))))))))))
