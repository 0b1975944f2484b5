-- What is claimed of an expression of a level that is derived.
use Rattle.std.proofs.Common.{◌≡◌, ℕ, suc, ◌≤◌, Bool, true, false, ◌&&◌, ◌||◌, List, [], ◌∷◌, None, refl, ap, ◌∙◌, arith}
use Rattle.std.proofs.lemmas.Bool.{false≢true}
use Rattle.es6_ast.specs.declared.tree.Expression.{Expression}
use Rattle.es6_ast.specs.declared.settings.Flags.{Flags}
use Rattle.es6_ast.specs.declared.settings.Role.{Role}
use Rattle.es6_ast.specs.declared.settings.Role.TheVariants.{Leading, Among, Heritage, Callee}
use Rattle.es6_ast.specs.declared.settings.Shape.{Shape}
use Rattle.es6_ast.specs.Settings.{has_calls}
use Rattle.es6_ast.specs.Tokens.{Filled, Read}
use Rattle.es6_lexer.specs.declared.token.TokenKind.TheVariants as kinds
use Rattle.es6_lexer.specs.declared.token.Punctuator.{Punctuator as Mark}
use Rattle.es6_lexer.specs.declared.token.Punctuator.TheVariants as marks
use Rattle.es_outside.specs.HostNames.{reserved_words}
use Rattle.es6_reading.specs.Parser.{next_is, mark, Reading, is_left}
use Rattle.es6_reading.proofs.Posts.{Misses}
use Rattle.es6_reading.specs.Words.{unary_at, unary_operators, operand_words, begins_operand, begins_unary, begins_expression}
use Rattle.es6_reading.specs.Expressions.{binary_from}
use Rattle.es6_reading.specs.Modules.{readers}
use Rattle.es6_reading.proofs.Reading.{Eventually, deeper}
use Rattle.es6_reading.proofs.Exactly.{ReadsExactly}
use Rattle.es6_reading.proofs.CompleteTokens.{no-mark, mark-miss, operand-begins, expression-begins, Closes, closes-up, EndsYield}
use Rattle.es6_reading.proofs.CompleteImports.{R}
use Rattle.es6_reading.proofs.CompleteLevels.{reading, Stops, HeadReads, ChainReads, head-chain, UpdateReads, chain-update, update-unary, update-power, no-unary, Stand, leads, among, Level, sequence_level, assignment_level, binary_level_, unary_level, LevelReads, ConditionalReads, power-conditional, level-at-most, from-unary}

pub record Claim (f : Flags) (level : ℕ) (ts us : List Filled) (x : Expression) : Type 0 where
  pub shape : Shape
  pub begins : next_is (begins_expression f) ts ≡ true
  pub first : 2 ≤ level → next_is begins_unary ts ≡ true
  pub operand : 16 ≤ level → next_is begins_operand ts ≡ true
  pub no_unary : 15 ≤ level → Misses unary_at ts
  pub left : 16 ≤ level → is_left shape ≡ true
  pub heads : 19 ≤ level → (role : Role) → HeadReads f role (reading x shape) ts us
  -- with calls, and without
  pub chains : 16 ≤ level → Stops true us → (role : Role) → has_calls role ≡ true → ChainReads f role (reading x shape) ts us
  pub members : 18 ≤ level → Stops false us → ChainReads f Callee (reading x shape) ts us
  pub updates : 15 ≤ level → Closes f 14 us → (role : Role) → has_calls role ≡ true → UpdateReads f role (reading x shape) ts us
  -- before an assignment operator or an arrow
  pub conditionals : 16 ≤ level → Closes f 2 us → ConditionalReads f (reading x shape) ts us
  pub levels : (least : ℕ) (v : Level least) → least ≤ level → Closes f least us → EndsYield level us → LevelReads f (reading x shape) ts us v

le-trans : (a b c : ℕ) → a ≤ b → b ≤ c → a ≤ c
le-trans a b c h k = omega arith

pub claim-down : (f : Flags) (a b : ℕ) (ts us : List Filled) (x : Expression) → a ≤ b → Claim f b ts us x → Claim f a ts us x
claim-down f a b ts us x h c = record {
  shape = c.shape;
  begins = c.begins;
  first = λ l. c.first (le-trans 2 a b l h);
  operand = λ l. c.operand (le-trans 16 a b l h);
  no_unary = λ l. c.no_unary (le-trans 15 a b l h);
  left = λ l. c.left (le-trans 16 a b l h);
  heads = λ l. c.heads (le-trans 19 a b l h);
  chains = λ l. c.chains (le-trans 16 a b l h);
  members = λ l. c.members (le-trans 18 a b l h);
  updates = λ l. c.updates (le-trans 15 a b l h);
  conditionals = λ l. c.conditionals (le-trans 16 a b l h);
  levels = λ least v l k e. c.levels least v (le-trans least a b l h) k (λ m. e (le-trans a b 2 h m));
}

-- ## First tokens

pub unary-if-operand : (ts : List Filled) → next_is begins_operand ts ≡ true → next_is begins_unary ts ≡ true
unary-if-operand [] h = absurd (false≢true h)
unary-if-operand (t ∷ ts) h = operand-begins t h

pub expression-if-unary : (f : Flags) (ts : List Filled) → next_is begins_unary ts ≡ true → next_is (begins_expression f) ts ≡ true
expression-if-unary f [] h = absurd (false≢true h)
expression-if-unary f (t ∷ ts) h = expression-begins f t h

-- ## Left-hand-side expressions

pub stops-if : (f : Flags) (least : ℕ) (us : List Filled) → least ≤ 17 → Closes f least us → Stops true us
stops-if f least us h c = record { dot = c.dot; bracket = c.bracket; template = c.template; paren = λ e. c.paren h }

stops-for : (role : Role) {us : List Filled} → Stops true us → Stops (has_calls role) us
stops-for role s = record { dot = s.dot; bracket = s.bracket; template = s.template; paren = λ e. s.paren refl }

pub stand-calls : {role : Role} → Stand role → has_calls role ≡ true
stand-calls leads = refl
stand-calls among = refl

abbrev ChainsRead : Flags → Reading → List Filled → List Filled → Type 0
ChainsRead f x ts us = Stops true us → (role : Role) → has_calls role ≡ true → ChainReads f role x ts us

left-updates : (f : Flags) (x : Reading) (ts us : List Filled) → next_is begins_operand ts ≡ true → ChainsRead f x ts us → (least : ℕ) → least ≤ 14 → Closes f least us → (role : Role) → has_calls role ≡ true → UpdateReads f role x ts us
left-updates f x ts us o h least l c role e = chain-update f role x ts us (h (stops-if f least us (le-trans least 14 17 l (omega arith)) c) role e) o (c.after (le-trans least 14 15 l (omega arith)))

left-levels : (f : Flags) (x : Reading) (ts us : List Filled) → next_is begins_operand ts ≡ true → ChainsRead f x ts us → (least : ℕ) (v : Level least) → Closes f least us → LevelReads f x ts us v
left-levels f x ts us o h least v c =
    let u = left-updates f x ts us o h least (level-at-most v) c in
    from-unary f x ts us (unary-if-operand ts o) (update-unary f x ts us (u Among refl) (no-unary ts o)) (λ s role stand. update-power f role x ts us (u role (stand-calls stand)) (no-unary ts o) s) least v c

left-conditional : (f : Flags) (x : Reading) (ts us : List Filled) → next_is begins_operand ts ≡ true → ChainsRead f x ts us → Closes f 2 us → ConditionalReads f x ts us
left-conditional f x ts us o h c = power-conditional f x ts us (update-power f Leading x ts us (left-updates f x ts us o h 2 (omega arith) c Leading refl) (no-unary ts o) (c.raised (omega arith))) c

-- a primary expression
pub claim-primary : (f : Flags) (ts us : List Filled) (x : Expression) (shape : Shape) → is_left shape ≡ true → next_is begins_operand ts ≡ true → ((role : Role) → HeadReads f role (reading x shape) ts us) → Claim f 19 ts us x
claim-primary f ts us x shape l o h =
    let chains : ChainsRead f (reading x shape) ts us = λ s role e. head-chain f role (reading x shape) ts us (h role) (stops-for role s) in
    record {
      shape = shape;
      begins = expression-if-unary f ts (unary-if-operand ts o);
      first = λ m. unary-if-operand ts o;
      operand = λ m. o;
      no_unary = λ m. no-unary ts o;
      left = λ m. l;
      heads = λ m. h;
      chains = λ m. chains;
      members = λ m s. head-chain f Callee (reading x shape) ts us (h Callee) s;
      updates = λ m c. left-updates f (reading x shape) ts us o chains 14 (omega arith) c;
      conditionals = λ m c. left-conditional f (reading x shape) ts us o chains c;
      levels = λ least v m c e. left-levels f (reading x shape) ts us o chains least v c;
    }

no-level : (a b : ℕ) → suc b ≤ a → a ≤ b → ⊥
no-level a b h k = omega arith

-- a chain, a call of `super`, or `new` without arguments
pub claim-left : (f : Flags) (level : ℕ) (ts us : List Filled) (x : Expression) (shape : Shape) → level ≤ 18 → is_left shape ≡ true → next_is begins_operand ts ≡ true → ChainsRead f (reading x shape) ts us → (18 ≤ level → Stops false us → ChainReads f Callee (reading x shape) ts us) → Claim f level ts us x
claim-left f level ts us x shape low l o chains members = record {
  shape = shape;
  begins = expression-if-unary f ts (unary-if-operand ts o);
  first = λ m. unary-if-operand ts o;
  operand = λ m. o;
  no_unary = λ m. no-unary ts o;
  left = λ m. l;
  heads = λ m. absurd (no-level 19 level (omega (arith, low)) m);
  chains = λ m. chains;
  members = members;
  updates = λ m c. left-updates f (reading x shape) ts us o chains 14 (omega arith) c;
  conditionals = λ m c. left-conditional f (reading x shape) ts us o chains c;
  levels = λ least v m c e. left-levels f (reading x shape) ts us o chains least v c;
}

-- an update
pub claim-update : (f : Flags) (ts us : List Filled) (x : Expression) (shape : Shape) → next_is begins_unary ts ≡ true → (Closes f 14 us → (role : Role) → has_calls role ≡ true → UpdateReads f role (reading x shape) ts us) → Misses unary_at ts → Claim f 15 ts us x
claim-update f ts us x shape o u m = record {
  shape = shape;
  begins = expression-if-unary f ts o;
  first = λ l. o;
  operand = λ l. absurd (no-level 16 15 (omega arith) l);
  no_unary = λ l. m;
  left = λ l. absurd (no-level 16 15 (omega arith) l);
  heads = λ l. absurd (no-level 19 15 (omega arith) l);
  chains = λ l. absurd (no-level 16 15 (omega arith) l);
  members = λ l. absurd (no-level 18 15 (omega arith) l);
  updates = λ l c. u c;
  conditionals = λ l. absurd (no-level 16 15 (omega arith) l);
  levels = λ least v l c e. let w = u (closes-up f least 14 us (level-at-most v) c) in from-unary f (reading x shape) ts us o (update-unary f (reading x shape) ts us (w Among refl) m) (λ s role stand. update-power f role (reading x shape) ts us (w role (stand-calls stand)) m s) least v c;
}

-- any other expression that is no left-hand side
pub claim-other : (f : Flags) (level : ℕ) (ts us : List Filled) (x : Expression) (shape : Shape) → level ≤ 14 → next_is (begins_expression f) ts ≡ true → (2 ≤ level → next_is begins_unary ts ≡ true) → ((least : ℕ) (v : Level least) → least ≤ level → Closes f least us → EndsYield level us → LevelReads f (reading x shape) ts us v) → Claim f level ts us x
claim-other f level ts us x shape low b o h = record {
  shape = shape;
  begins = b;
  first = o;
  operand = λ m. absurd (no-level 16 level (omega (arith, low)) m);
  no_unary = λ m. absurd (no-level 15 level (omega (arith, low)) m);
  left = λ m. absurd (no-level 16 level (omega (arith, low)) m);
  heads = λ m. absurd (no-level 19 level (omega (arith, low)) m);
  chains = λ m. absurd (no-level 16 level (omega (arith, low)) m);
  members = λ m. absurd (no-level 18 level (omega (arith, low)) m);
  updates = λ m. absurd (no-level 15 level (omega (arith, low)) m);
  conditionals = λ m. absurd (no-level 16 level (omega (arith, low)) m);
  levels = h;
}

-- ## What no expression begins with

and-no : (b : Bool) → (b && false) ≡ false
and-no true = refl
and-no false = refl

no-mark-here : (f : Flags) (p : Mark) (t : Filled) → begins_expression f t ≡ true → begins_unary (record { kind = Read (kinds.Punctuator p); span = t.span; newline = t.newline }) ≡ false → mark p t ≡ None
unfolding begins_expression
no-mark-here f p t h n = mark-miss p t (no-mark (begins_expression f) p t h (ap (λ b. b || (f.has_yield && false)) n ∙ and-no f.has_yield))

pub begins-no-close : (f : Flags) (ts : List Filled) → next_is (begins_expression f) ts ≡ true → Misses (mark marks.RightParenthesis) ts
unfolding begins_unary begins_operand reserved_words operand_words unary_operators
begins-no-close f [] h = tt
begins-no-close f (t ∷ ts) h = no-mark-here f marks.RightParenthesis t h refl

pub begins-no-square : (f : Flags) (ts : List Filled) → next_is (begins_expression f) ts ≡ true → Misses (mark marks.RightBracket) ts
unfolding begins_unary begins_operand reserved_words operand_words unary_operators
begins-no-square f [] h = tt
begins-no-square f (t ∷ ts) h = no-mark-here f marks.RightBracket t h refl

pub begins-no-brace : (f : Flags) (ts : List Filled) → next_is (begins_expression f) ts ≡ true → Misses (mark marks.RightBrace) ts
unfolding begins_unary begins_operand reserved_words operand_words unary_operators
begins-no-brace f [] h = tt
begins-no-brace f (t ∷ ts) h = no-mark-here f marks.RightBrace t h refl

pub begins-no-comma : (f : Flags) (ts : List Filled) → next_is (begins_expression f) ts ≡ true → Misses (mark marks.Comma) ts
unfolding begins_unary begins_operand reserved_words operand_words unary_operators
begins-no-comma f [] h = tt
begins-no-comma f (t ∷ ts) h = no-mark-here f marks.Comma t h refl

pub begins-no-ellipsis : (f : Flags) (ts : List Filled) → next_is (begins_expression f) ts ≡ true → Misses (mark marks.Ellipsis) ts
unfolding begins_unary begins_operand reserved_words operand_words unary_operators
begins-no-ellipsis f [] h = tt
begins-no-ellipsis f (t ∷ ts) h = no-mark-here f marks.Ellipsis t h refl

pub begins-no-semicolon : (f : Flags) (ts : List Filled) → next_is (begins_expression f) ts ≡ true → Misses (mark marks.Semicolon) ts
unfolding begins_unary begins_operand reserved_words operand_words unary_operators
begins-no-semicolon f [] h = tt
begins-no-semicolon f (t ∷ ts) h = no-mark-here f marks.Semicolon t h refl

pub begins-no-colon : (f : Flags) (ts : List Filled) → next_is (begins_expression f) ts ≡ true → Misses (mark marks.Colon) ts
unfolding begins_unary begins_operand reserved_words operand_words unary_operators
begins-no-colon f [] h = tt
begins-no-colon f (t ∷ ts) h = no-mark-here f marks.Colon t h refl

pub begins-no-star : (f : Flags) (ts : List Filled) → next_is (begins_expression f) ts ≡ true → Misses (mark marks.Star) ts
unfolding begins_unary begins_operand reserved_words operand_words unary_operators
begins-no-star f [] h = tt
begins-no-star f (t ∷ ts) h = no-mark-here f marks.Star t h refl

-- ## One construct deeper

pub open-sequence : {f : Flags} {least : ℕ} {ts us : List Filled} {x : Expression} → (c : Claim f least ts us x) → Closes f 0 us → EndsYield least us → Eventually (λ t k r. ReadsExactly ((R k r).sequence f) (reading x c.shape) ts us)
unfolding readers
open-sequence c h e = deeper (c.levels 0 sequence_level (omega arith) h e) (λ t k r y. y)

pub open-assignment : {f : Flags} {ts us : List Filled} {x : Expression} → (c : Claim f 1 ts us x) → Closes f 1 us → EndsYield 1 us → Eventually (λ t k r. ReadsExactly ((R k r).assignment f) (reading x c.shape) ts us)
unfolding readers
open-assignment c h e = deeper (c.levels 1 assignment_level (omega arith) h e) (λ t k r y. y)

pub open-power : {f : Flags} {ts us : List Filled} {x : Expression} → (c : Claim f 13 ts us x) → Closes f 13 us → EndsYield 13 us → Eventually (λ t k r. ReadsExactly ((R k r).power f) (reading x c.shape) ts us)
unfolding readers binary_from
open-power c h e = deeper (c.levels 13 (binary_level_ Among among 0 refl (omega arith)) (omega arith) h e) (λ t k r y. y)

pub open-unary : {f : Flags} {ts us : List Filled} {x : Expression} → (c : Claim f 14 ts us x) → Closes f 14 us → EndsYield 14 us → Eventually (λ t k r. ReadsExactly ((R k r).unary f) (reading x c.shape) ts us)
unfolding readers
open-unary c h e = deeper (c.levels 14 unary_level (omega arith) h e) (λ t k r y. y)

pub open-callee : (f : Flags) {ts us : List Filled} {x : Expression} {shape : Shape} → ChainReads f Callee (reading x shape) ts us → Eventually (λ t k r. ReadsExactly ((R k r).callee f) (reading x shape) ts us)
unfolding readers
open-callee f h = deeper h (λ t k r y. y)

pub open-heritage : (f : Flags) {ts us : List Filled} {x : Expression} {shape : Shape} → ChainReads f Heritage (reading x shape) ts us → Eventually (λ t k r. ReadsExactly ((R k r).heritage f) (reading x shape) ts us)
unfolding readers
open-heritage f h = deeper h (λ t k r y. y)
