-- What completes constructs, and what may follow what is completed.
use Rattle.std.specs.Prelude.{codes, is_some, not}
use Rattle.std.proofs.Common.{◌≡◌, ◌∙◌, ◌⊎◌, inl, inr, ℕ, suc, ◌≤◌, Bool, true, false, List, [], ◌∷◌, Some, None, refl, sym}
use Rattle.std.proofs.lemmas.Bool.{false≢true}
use Rattle.es_outside.specs.HostNames.{reserved_words}
use Rattle.es_text.specs.declared.Span.{Span}
use Rattle.es6_lexer.specs.declared.token.TokenKind.{TokenKind}
use Rattle.es6_lexer.specs.declared.token.TokenKind.TheVariants.{Word, Punctuator, Template, End}
use Rattle.es6_lexer.specs.declared.token.Punctuator.TheVariants as marks
use Rattle.es6_ast.specs.declared.settings.Flags.{Flags}
use Rattle.es6_ast.specs.declared.settings.Role.{Role}
use Rattle.es6_ast.specs.declared.settings.Shape.{Shape}
use Rattle.es6_ast.specs.declared.settings.Shape.TheVariants.{Bare, Grouped, Covered, LeftHandSide, Other}
use Rattle.es6_ast.specs.declared.settings.Stand.{Stand}
use Rattle.es6_ast.specs.declared.tree.Expression.{Expression}
use Rattle.es6_ast.specs.declared.tree.Parameter.{Parameter}
use Rattle.es6_ast.specs.declared.tree.Part.{Part}
use Rattle.es6_ast.specs.Settings.{is_leading}
use Rattle.es6_ast.specs.Tokens.{Filled}
use Rattle.es6_reading.specs.Parser.{Input, Outcome, next_is, mark, word, next_mark, Reading, Inner}
use Rattle.es6_reading.specs.Refine.{Fits, refine_parameters}
use Rattle.es6_reading.specs.Words.{free_name, stretch_at, after_at, assign_at, assign_operators, binary_at, binary_operators, is_arrow, unary_at, unary_operators}
use Rattle.es6_reading.specs.Expressions.{star_at, ends_yield}
use Rattle.es6_reading.proofs.Derived.{Sound}
use Rattle.es6_reading.proofs.Locality.{Turns}
use Rattle.es6_reading.proofs.Posts.{Misses}
use Rattle.es6_reading_laws.proofs.es6_viability.Viable.{put, Goes, Head, head, Any, Partly, Viable, Limit, goes-within}

-- a name
abbrev pub x_ : TokenKind
x_ = Word (codes "x")

-- behind which anything may stand
abbrev pub Free : {A : Type 0} → A → List Filled → Type 0
Free y us = Unit {0}

-- What may follow an expression that is completed: nothing, a mark that closes or separates, and behind a heritage a brace.
pub data Closer : Bool → List Filled → Type 0 where
  parenthesis : {b : Bool} {span : Span} {us : List Filled} → Closer b (put (Punctuator marks.RightParenthesis) span ∷ us)
  bracket : {b : Bool} {span : Span} {us : List Filled} → Closer b (put (Punctuator marks.RightBracket) span ∷ us)
  brace : {b : Bool} {span : Span} {us : List Filled} → Closer b (put (Punctuator marks.RightBrace) span ∷ us)
  semicolon : {b : Bool} {span : Span} {us : List Filled} → Closer b (put (Punctuator marks.Semicolon) span ∷ us)
  colon : {b : Bool} {span : Span} {us : List Filled} → Closer b (put (Punctuator marks.Colon) span ∷ us)
  tail : {b : Bool} {span : Span} {us : List Filled} → Closer b (put (Template [] [] false true) span ∷ us)
  nothing : {b : Bool} → Closer b []
  opening : {span : Span} {us : List Filled} → Closer true (put (Punctuator marks.LeftBrace) span ∷ us)

-- the same, or `=>`
pub data After : List Filled → Type 0 where
  closes : {us : List Filled} → Closer true us → After us
  arrow : {span : Span} {us : List Filled} → After (put (Punctuator marks.Arrow) span ∷ us)

pub wider : (us : List Filled) → Closer false us → Closer true us
wider us parenthesis = parenthesis
wider us bracket = bracket
wider us brace = brace
wider us semicolon = semicolon
wider us colon = colon
wider us tail = tail
wider us nothing = nothing

pub after-closer : (us : List Filled) → Closer false us → After us
after-closer us h = closes (wider us h)

-- behind a statement
pub data Behind : List Filled → Type 0 where
  behind_brace : {span : Span} {us : List Filled} → Behind (put (Punctuator marks.RightBrace) span ∷ us)
  behind_while : {span : Span} {us : List Filled} → Behind (put (Word (codes "while")) span ∷ us)
  behind_end : {span : Span} {us : List Filled} → Behind (put End span ∷ us)
  behind_nothing : Behind []

-- ## Parentheses that only an arrow's parameters have

-- they stand before `=>`
abbrev pub FollowOf : Shape → List Filled → Type 0
FollowOf Bare us = After us
FollowOf Grouped us = After us
FollowOf Covered us = Head (Punctuator marks.Arrow) us
FollowOf LeftHandSide us = After us
FollowOf Other us = After us

abbrev pub Follow : Reading → List Filled → Type 0
Follow x us = FollowOf x.shape us

-- where no more operators follow
abbrev pub EndOf : Shape → List Filled → Type 0
EndOf Bare us = Closer false us
EndOf Grouped us = Closer false us
EndOf Covered us = Head (Punctuator marks.Arrow) us
EndOf LeftHandSide us = Closer false us
EndOf Other us = Closer false us

abbrev pub End_ : Reading → List Filled → Type 0
End_ x us = EndOf x.shape us

pub end-follow : (sh : Shape) (us : List Filled) → EndOf sh us → FollowOf sh us
end-follow Bare us h = after-closer us h
end-follow Grouped us h = after-closer us h
end-follow Covered us h = h
end-follow LeftHandSide us h = after-closer us h
end-follow Other us h = after-closer us h

pub follow-after : (sh : Shape) (us : List Filled) → FollowOf sh us → After us
follow-after Bare us h = h
follow-after Grouped us h = h
follow-after Covered us head = arrow
follow-after LeftHandSide us h = h
follow-after Other us h = h

-- and are parameters, where they may stand
abbrev pub Refines : ℕ → Expression → Type 0
Refines n x = (es : List Parameter) × (refine_parameters n x ≡ Fits es)

abbrev pub AllowedOf : Role → ℕ → Shape → Expression → Type 0
AllowedOf role n Bare x = Unit {0}
AllowedOf role n Grouped x = Unit {0}
AllowedOf role n Covered x = (is_leading role ≡ true) × Refines n x
AllowedOf role n LeftHandSide x = Unit {0}
AllowedOf role n Other x = Unit {0}

abbrev pub Allowed : Role → ℕ → Reading → Type 0
Allowed role n x = AllowedOf role n x.shape x.value

abbrev pub HasDefault : Part → Type 0
HasDefault q = is_some q.default ≡ true

-- ## Readers of what stands one construct deeper

-- the limit of what stands in a group, which a reader doesn't come to that may open none
abbrev pub inside : Limit → Bool → Limit
inside lim b = record { allows = lim.allows; grows = lim.grows; shallow = lim.shallow ⊎ (b ≡ false) }

pub opened : (A : Type 0) (b : Bool) → b ≡ true → A ⊎ (b ≡ false) → A
opened A b e (inl a) = a
opened A b e (inr n) = absurd (false≢true (sym n ∙ e))

-- what is read anywhere is read in a group
pub into : {A : Type 0} {F : A → List Filled → Type 0} {P : A → Type 0} {S : List Filled → Type 0} {run : List Filled → Outcome A} {ts : List Filled} {o : Outcome A} {lim : Limit} {b : Bool} → Goes lim F P S run ts o → Goes (inside lim b) F P S run ts o
into g = goes-within (λ n a. a) inl g

pub record Better (lim : Limit) (l : ℕ) (i j : Inner) : Type 0 where
  pub sound : i.inserting ≡ false → Sound i
  -- a reader gives up only what has more tokens than loops have turns
  pub gives_up : (m : ℕ) → (i.inserting ≡ false → i.fuel ≤ suc m) → lim.allows m
  pub mode : j.inserting ≡ i.inserting
  pub turns : Turns (suc l) i.fuel j.fuel
  pub opens : j.may_open ≡ true
  pub sequence : (f : Flags) (s : Input) → Viable lim (λ y us. Closer false us) Any (λ us. Head x_ us) (i.sequence f) (j.sequence f) s
  pub assignment : (f : Flags) (s : Input) → Viable lim (λ y us. Closer false us) Any (λ us. Head x_ us) (i.assignment f) (j.assignment f) s
  pub power : (f : Flags) (s : Input) → Viable lim (λ y us. After us) Any (λ us. Head x_ us) (i.power f) (j.power f) s
  pub unary : (f : Flags) (s : Input) → Viable lim (λ y us. After us) Any (λ us. Head x_ us) (i.unary f) (j.unary f) s
  pub callee : (f : Flags) (s : Input) → Viable lim (λ y us. After us) Any (λ us. Head x_ us) (i.callee f) (j.callee f) s
  pub heritage : (f : Flags) (s : Input) → Viable lim (λ y us. After us) Any (λ us. Head x_ us) (i.heritage f) (j.heritage f) s
  pub block : (f : Flags) (s : Input) → next_is (next_mark marks.LeftBrace) s.tokens ≡ true → Partly lim Free Any (i.block f) (j.block f) s
  pub property : (f : Flags) (s : Input) → Viable (inside lim i.may_open) (λ y us. Head (Punctuator marks.RightBrace) us) Any (λ us. Head x_ us) (i.property f) (j.property f) s
  pub target : (f : Flags) (s : Input) → Viable (inside lim i.may_open) Free Any (λ us. Head x_ us) (i.target f) (j.target f) s
  pub part : (f : Flags) (s : Input) → Viable (inside lim i.may_open) (λ y us. Closer false us) Any (λ us. Head x_ us) (i.part f) (j.part f) s
  pub object_part : (f : Flags) (s : Input) → Viable (inside lim i.may_open) (λ y us. Head (Punctuator marks.RightBrace) us) Any (λ us. Head x_ us) (i.object_part f) (j.object_part f) s
  pub variable : (f : Flags) (s : Input) → Viable (inside lim i.may_open) (λ y us. Closer false us) HasDefault (λ us. Head x_ us) (i.variable f) (j.variable f) s
  pub member : (f : Flags) (s : Input) → Viable (inside lim i.may_open) Free Any (λ us. Head x_ us) (i.member f) (j.member f) s
  pub statement : (f : Flags) (stand : Stand) (s : Input) → Viable lim (λ y us. Behind us) Any (λ us. Head (Punctuator marks.Semicolon) us) (i.statement f stand) (j.statement f stand) s

-- ## Tests of what follows

pub each-closer : (Q : List Filled → Type 0) → ((span : Span) (us : List Filled) → Q (put (Punctuator marks.RightParenthesis) span ∷ us)) → ((span : Span) (us : List Filled) → Q (put (Punctuator marks.RightBracket) span ∷ us)) → ((span : Span) (us : List Filled) → Q (put (Punctuator marks.RightBrace) span ∷ us))
    → ((span : Span) (us : List Filled) → Q (put (Punctuator marks.Semicolon) span ∷ us)) → ((span : Span) (us : List Filled) → Q (put (Punctuator marks.Colon) span ∷ us)) → ((span : Span) (us : List Filled) → Q (put (Template [] [] false true) span ∷ us)) → Q [] → (us : List Filled) → Closer false us → Q us
each-closer Q a b c d e f z us (parenthesis {span = span} {us = vs}) = a span vs
each-closer Q a b c d e f z us (bracket {span = span} {us = vs}) = b span vs
each-closer Q a b c d e f z us (brace {span = span} {us = vs}) = c span vs
each-closer Q a b c d e f z us (semicolon {span = span} {us = vs}) = d span vs
each-closer Q a b c d e f z us (colon {span = span} {us = vs}) = e span vs
each-closer Q a b c d e f z us (tail {span = span} {us = vs}) = f span vs
each-closer Q a b c d e f z us nothing = z

pub each : (Q : List Filled → Type 0) → ((span : Span) (us : List Filled) → Q (put (Punctuator marks.RightParenthesis) span ∷ us)) → ((span : Span) (us : List Filled) → Q (put (Punctuator marks.RightBracket) span ∷ us)) → ((span : Span) (us : List Filled) → Q (put (Punctuator marks.RightBrace) span ∷ us))
    → ((span : Span) (us : List Filled) → Q (put (Punctuator marks.Semicolon) span ∷ us)) → ((span : Span) (us : List Filled) → Q (put (Punctuator marks.Colon) span ∷ us)) → ((span : Span) (us : List Filled) → Q (put (Template [] [] false true) span ∷ us)) → ((span : Span) (us : List Filled) → Q (put (Punctuator marks.LeftBrace) span ∷ us))
    → ((span : Span) (us : List Filled) → Q (put (Punctuator marks.Arrow) span ∷ us)) → Q [] → (us : List Filled) → After us → Q us
each Q a b c d e f g h z us (closes (parenthesis {span = span} {us = vs})) = a span vs
each Q a b c d e f g h z us (closes (bracket {span = span} {us = vs})) = b span vs
each Q a b c d e f g h z us (closes (brace {span = span} {us = vs})) = c span vs
each Q a b c d e f g h z us (closes (semicolon {span = span} {us = vs})) = d span vs
each Q a b c d e f g h z us (closes (colon {span = span} {us = vs})) = e span vs
each Q a b c d e f g h z us (closes (tail {span = span} {us = vs})) = f span vs
each Q a b c d e f g h z us (closes (opening {span = span} {us = vs})) = g span vs
each Q a b c d e f g h z us (closes nothing) = z
each Q a b c d e f g h z us (arrow {span = span} {us = vs}) = h span vs

pub no-dot : (us : List Filled) → After us → Misses (mark marks.Dot) us
no-dot us k = each (λ us. Misses (mark marks.Dot) us) (λ span us. refl) (λ span us. refl) (λ span us. refl) (λ span us. refl) (λ span us. refl) (λ span us. refl) (λ span us. refl) (λ span us. refl) tt us k

pub no-index : (us : List Filled) → After us → next_is (next_mark marks.LeftBracket) us ≡ false
no-index us k = each (λ us. next_is (next_mark marks.LeftBracket) us ≡ false) (λ span us. refl) (λ span us. refl) (λ span us. refl) (λ span us. refl) (λ span us. refl) (λ span us. refl) (λ span us. refl) (λ span us. refl) refl us k

pub no-call : (us : List Filled) → After us → next_is (next_mark marks.LeftParenthesis) us ≡ false
no-call us k = each (λ us. next_is (next_mark marks.LeftParenthesis) us ≡ false) (λ span us. refl) (λ span us. refl) (λ span us. refl) (λ span us. refl) (λ span us. refl) (λ span us. refl) (λ span us. refl) (λ span us. refl) refl us k

pub no-template : (us : List Filled) → After us → Misses (stretch_at true true) us
no-template us k = each (λ us. Misses (stretch_at true true) us) (λ span us. refl) (λ span us. refl) (λ span us. refl) (λ span us. refl) (λ span us. refl) (λ span us. refl) (λ span us. refl) (λ span us. refl) tt us k

pub no-parted : (us : List Filled) → After us → next_is (λ t. is_some (stretch_at true false t)) us ≡ false
no-parted us k = each (λ us. next_is (λ t. is_some (stretch_at true false t)) us ≡ false) (λ span us. refl) (λ span us. refl) (λ span us. refl) (λ span us. refl) (λ span us. refl) (λ span us. refl) (λ span us. refl) (λ span us. refl) refl us k

pub no-postfix : (us : List Filled) → After us → Misses after_at us
no-postfix us k = each (λ us. Misses after_at us) (λ span us. refl) (λ span us. refl) (λ span us. refl) (λ span us. refl) (λ span us. refl) (λ span us. refl) (λ span us. refl) (λ span us. refl) tt us k

pub no-power : (us : List Filled) → After us → Misses (mark marks.StarStar) us
no-power us k = each (λ us. Misses (mark marks.StarStar) us) (λ span us. refl) (λ span us. refl) (λ span us. refl) (λ span us. refl) (λ span us. refl) (λ span us. refl) (λ span us. refl) (λ span us. refl) tt us k

pub no-binary : (f : Flags) (level : ℕ) (us : List Filled) → After us → Misses (binary_at f level) us
unfolding binary_operators
no-binary f level us k = each (λ us. Misses (binary_at f level) us) (λ span us. refl) (λ span us. refl) (λ span us. refl) (λ span us. refl) (λ span us. refl) (λ span us. refl) (λ span us. refl) (λ span us. refl) tt us k

pub no-question : (us : List Filled) → After us → Misses (mark marks.Question) us
no-question us k = each (λ us. Misses (mark marks.Question) us) (λ span us. refl) (λ span us. refl) (λ span us. refl) (λ span us. refl) (λ span us. refl) (λ span us. refl) (λ span us. refl) (λ span us. refl) tt us k

pub no-arrow : (us : List Filled) → Closer false us → next_is is_arrow us ≡ false
no-arrow us k = each-closer (λ us. next_is is_arrow us ≡ false) (λ span us. refl) (λ span us. refl) (λ span us. refl) (λ span us. refl) (λ span us. refl) (λ span us. refl) refl us k

pub no-assign : (us : List Filled) → Closer false us → Misses assign_at us
unfolding assign_operators
no-assign us k = each-closer (λ us. Misses assign_at us) (λ span us. refl) (λ span us. refl) (λ span us. refl) (λ span us. refl) (λ span us. refl) (λ span us. refl) tt us k

pub no-initializer : (us : List Filled) → Closer false us → Misses (mark marks.Assign) us
no-initializer us k = each-closer (λ us. Misses (mark marks.Assign) us) (λ span us. refl) (λ span us. refl) (λ span us. refl) (λ span us. refl) (λ span us. refl) (λ span us. refl) tt us k

pub no-comma : (us : List Filled) → Closer false us → Misses (mark marks.Comma) us
no-comma us k = each-closer (λ us. Misses (mark marks.Comma) us) (λ span us. refl) (λ span us. refl) (λ span us. refl) (λ span us. refl) (λ span us. refl) (λ span us. refl) tt us k

pub no-star : (us : List Filled) → Closer false us → Misses star_at us
no-star us k = each-closer (λ us. Misses star_at us) (λ span us. refl) (λ span us. refl) (λ span us. refl) (λ span us. refl) (λ span us. refl) (λ span us. refl) tt us k

pub no-value : (us : List Filled) → Closer false us → next_is (λ t. not (ends_yield t)) us ≡ false
unfolding ends_yield
no-value us k = each-closer (λ us. next_is (λ t. not (ends_yield t)) us ≡ false) (λ span us. refl) (λ span us. refl) (λ span us. refl) (λ span us. refl) (λ span us. refl) (λ span us. refl) refl us k

pub no-else : (us : List Filled) → Behind us → Misses (word (codes "else")) us
no-else us behind_brace = refl
no-else us behind_while = refl
no-else us behind_end = refl
no-else us behind_nothing = tt

pub no-finally : (us : List Filled) → Behind us → Misses (word (codes "finally")) us
no-finally us behind_brace = refl
no-finally us behind_while = refl
no-finally us behind_end = refl
no-finally us behind_nothing = tt

-- ## The name

pub x-free : (span : Span) → free_name (put x_ span) ≡ Some (codes "x")
unfolding reserved_words
x-free span = refl

pub x-no-unary : (span : Span) → unary_at (put x_ span) ≡ None
unfolding unary_operators
x-no-unary span = refl
