-- The readers tied into one another can be completed, each by those with more room; and so the tokens before a fault are alive, and the
-- token at which one stands for depth.
use Rattle.std.specs.Prelude.{codes}
use Rattle.std.proofs.Common.{◌≡◌, ◌∙◌, ◌||◌, ◌&&◌, inr, ℕ, zero, suc, ◌+◌, ◌≤◌, arith, Bool, true, false, List, [], ◌∷◌, ◌++◌, map, Some, None, refl, sym, ap, subst, append_assoc}
use Rattle.std.proofs.lemmas.Bool.{false≢true}
use Rattle.std.proofs.lemmas.List.{append_cancel_right, map-append, append-nil}
use Rattle.es_outside.specs.HostNames.{reserved_words}
use Rattle.es6_lexer.specs.declared.token.Token.{Token}
use Rattle.es6_lexer.specs.declared.token.TokenKind.{TokenKind}
use Rattle.es6_lexer.specs.declared.token.TokenKind.TheVariants as kinds
use Rattle.es6_lexer.specs.declared.token.TokenKind.TheVariants.{Word, Punctuator}
use Rattle.es6_lexer.specs.declared.token.Punctuator.TheVariants as marks
use Rattle.es6_ast.specs.Dead.{IsAlive}
use Rattle.es6_ast.specs.Modules.{IsModule}
use Rattle.es6_ast.specs.Semicolons as semicolons'
use Rattle.es6_ast.specs.Semicolons.{Fills, SpellsModule}
use Rattle.es6_ast.specs.Settings.{is_leading, has_calls}
use Rattle.es6_ast.specs.Tokens.{Filled, Read, is_word, read}
use Rattle.es6_ast.specs.declared.module.Module.{Module}
use Rattle.es6_ast.specs.declared.settings.Flags.{Flags}
use Rattle.es6_ast.specs.declared.settings.Role.{Role}
use Rattle.es6_ast.specs.declared.settings.Role.TheVariants.{Leading, Among, Heritage, Callee}
use Rattle.es6_ast.specs.declared.settings.Shape.{Shape}
use Rattle.es6_ast.specs.declared.settings.Shape.TheVariants.{Bare, Grouped, Covered, LeftHandSide, Other}
use Rattle.es6_ast.specs.declared.settings.Stand.{Stand}
use Rattle.es6_ast.specs.declared.settings.Stand.TheVariants.{Listed, Under}
use Rattle.es6_ast.specs.declared.settings.Stop.{Stop}
use Rattle.es6_ast.specs.declared.settings.Stop.TheVariants.{Depth, Endless, Outside, Syntax}
use Rattle.es6_ast.specs.declared.tree.Expression.{Expression}
use Rattle.es6_ast.specs.declared.tree.Expression.TheVariants as expr
use Rattle.es6_ast.specs.declared.tree.Statement.{Statement}
use Rattle.es6_ast.specs.declared.tree.Statement.TheVariants as stat
use Rattle.es6_ast.specs.declared.tree.Block.{roll-Block}
use Rattle.es6_ast.specs.declared.tree.Key.TheVariants.{WordKey}
use Rattle.es6_ast.specs.declared.tree.ObjectPart.TheVariants.{NamedPart}
use Rattle.es6_ast.specs.declared.tree.Part.{roll-Part}
use Rattle.es6_ast.specs.declared.tree.Property.TheVariants as property
use Rattle.es6_ast.specs.declared.operators.MethodKind.TheVariants.{PlainMethod}
use Rattle.es6_ast.specs.Grammar.{name_target, name_alone, method_of}
use Rattle.es6_reading.specs.Laws.{IsComplete, IsReadAlone}
use Rattle.es6_reading.specs.Modules.{readers, whole_module, most_open, read_module}
use Rattle.es6_reading.specs.Parser.{Input, Outcome, Took, Fault, Parser, fails, after, choose, next_is, if_next, on, mark, next_mark, word, next_word, made, no_expression, no_number, is_mark, Reading, Inner}
use Rattle.es6_reading.specs.Words.{after_at, assign_at, begins_expression, begins_operand, begins_unary, is_any_word, is_arrow, operand_words, unary_operators}
use Rattle.es6_reading.specs.Parts as t6
use Rattle.es6_reading.specs.Expressions as e6
use Rattle.es6_reading.specs.Statements as s6
use Rattle.es6_reading.proofs.Filled.{derived-of, followed-module, gaps-fill, left-over}
use Rattle.es6_reading.proofs.Follows.{plus}
use Rattle.es6_reading.proofs.Derived.{Sound}
use Rattle.es6_reading.proofs.Soundness.{sound-readers}
use Rattle.es6_reading.proofs.LocalLimits.{assignment-limit as assignment-stops, operand-limit as operand-stops, sequence-limit as sequence-stops, statement-limit as statement-stops, unary-limit as unary-stops}
use Rattle.es6_reading.proofs.Locality.{Turns, over, turn}
use Rattle.es6_reading_laws.specs.es6_viability.Alive.{DepthFaultsAreAlive, TokensBeforeFaultsAreAlive}
use Rattle.es6_reading_laws.proofs.es6_viability.Begun as begun
use Rattle.es6_reading_laws.proofs.es6_viability.Begun.{Bare as IsBare, Over, over-left}
use Rattle.es6_reading_laws.proofs.es6_viability.Viable.{Limit, put, at_place, fills, Head, head, Any, Stays, Ends, Half, stands, some, beyond, gives_up, Fresh, Begins, Partly, run_of, left, stops, expression-by, number-by, weaken, on-missed, no-next}
use Rattle.es6_reading_laws.proofs.es6_viability.Completions.{x_, Free, Closer, After, after-closer, FollowOf, AllowedOf, HasDefault, Better, into, Behind, no-postfix, no-power, no-question, no-arrow, no-assign, no-comma, no-initializer}
use Rattle.es6_reading_laws.proofs.es6_viability.Parts as parts'
use Rattle.es6_reading_laws.proofs.es6_viability.Expressions as expressions'
use Rattle.es6_reading_laws.proofs.es6_viability.Expressions.{links-none, operands-none}
use Rattle.es6_reading_laws.proofs.es6_viability.Statements as statements'

-- ## A name is read, whatever else may open

abbrev x_reading : ℕ → Reading
x_reading here = record { value = expr.Name (at_place here) (codes "x"); shape = Bare }

abbrev x_then : ℕ → List Filled → ℕ → Input
x_then here us last = record { tokens = put x_ (at_place here) ∷ us; last = last }

abbrev Reads : ℕ → Parser Reading → List Filled → ℕ → Type 0
Reads here p us last = p (x_then here us last) ≡ Took (x_reading here) (record { tokens = us; last = suc here })

module _ (j : Inner) (n : ℕ) (turns : j.fuel ≡ suc n) (f : Flags) (here : ℕ) where
  chain-reads : (role : Role) (us : List Filled) (last : ℕ) → After us → Reads here (e6.chain j f role) us last
  unfolding e6.chain e6.head e6.primary reserved_words
  chain-reads role us last k = ap (λ m. after (e6.links j f (has_calls role) m (record { tokens = us; last = suc here })) (λ ls. made here (e6.chained (x_reading here) ls))) turns ∙ ap (λ o. after o (λ ls. made here (e6.chained (x_reading here) ls))) (links-none j f (has_calls role) n us (suc here) k)

  update-reads : (role : Role) (us : List Filled) (last : ℕ) → After us → Reads here (e6.update j f role) us last
  unfolding e6.update e6.postfix
  update-reads role us last k = ap (λ o. after o (λ x. on after_at (λ op. made here (λ span. e6.other (expr.Update span op x.value))) (λ c. Took x c))) (chain-reads role us last k) ∙ on-missed after_at _ _ us (suc here) (no-postfix us k)

  unary-reads : (us : List Filled) (last : ℕ) → After us → Reads here (e6.unary j f) us last
  unfolding e6.unary unary_operators
  unary-reads us last k = update-reads Among us last k

  power-reads : (role : Role) (us : List Filled) (last : ℕ) → After us → Reads here (e6.power j f role) us last
  unfolding e6.power e6.raised unary_operators
  power-reads role us last k = ap (λ o. after o (λ x. e6.raised j f here x)) (update-reads role us last k) ∙ on-missed (mark marks.StarStar) _ _ us (suc here) (no-power us k)

  binary-reads : (role : Role) (up level : ℕ) (us : List Filled) (last : ℕ) → After us → Reads here (e6.binary_from j f role up level) us last
  unfolding e6.binary_from
  binary-reads role zero level us last k = power-reads role us last k
  binary-reads role (suc up) level us last k = ap (λ o. after o (λ x. (λ c. after (e6.operands (e6.binary_from j f Among up (level + 1)) f level j.fuel c) (λ os. made here (e6.operated x os))))) (binary-reads role up (level + 1) us last k)
      ∙ ap (λ m. after (e6.operands (e6.binary_from j f Among up (level + 1)) f level m (record { tokens = us; last = suc here })) (λ os. made here (e6.operated (x_reading here) os))) turns
      ∙ ap (λ o. after o (λ os. made here (e6.operated (x_reading here) os))) (operands-none f level (e6.binary_from j f Among up (level + 1)) n us (suc here) k)

  conditional-reads : (us : List Filled) (last : ℕ) → After us → Reads here (e6.conditional j f) us last
  unfolding e6.conditional
  conditional-reads us last k = ap (λ o. after o (λ x. on (mark marks.Question) (λ t. e6.branches j f here x.value) (λ c. Took x c))) (binary-reads Leading 10 3 us last k) ∙ on-missed (mark marks.Question) _ _ us (suc here) (no-question us k)

  without-reads : (us : List Filled) (last : ℕ) → Closer false us → Reads here (e6.without_yield j f here) us last
  unfolding e6.without_yield e6.after_conditional
  without-reads us last k = ap (λ o. after o (λ x. e6.after_conditional j f here x)) (conditional-reads us last (after-closer us k)) ∙ no-next is_arrow _ _ us (suc here) (no-arrow us k) ∙ on-missed assign_at _ _ us (suc here) (no-assign us k)

  assignment-reads : (us : List Filled) (last : ℕ) → Closer false us → Reads here (e6.assignment j f) us last
  unfolding e6.assignment
  assignment-reads us last k = by f.has_yield ∙ without-reads us last k
    where
      by : (b : Bool) → choose b (on (word (codes "yield")) (λ t. e6.after_yield j f here) (e6.without_yield j f here)) (e6.without_yield j f here) (x_then here us last) ≡ e6.without_yield j f here (x_then here us last)
      by true = refl
      by false = refl

  sequence-reads : (us : List Filled) (last : ℕ) → Closer false us → Reads here (e6.sequence j f) us last
  unfolding e6.sequence
  sequence-reads us last k = ap (λ o. after o (λ x. on (mark marks.Comma) (λ t. e6.more_parts j f here x.value) (λ c. Took x c))) (assignment-reads us last k) ∙ on-missed (mark marks.Comma) _ _ us (suc here) (no-comma us k)

-- ## The least readers

module _ (mode : Bool) (n : ℕ) where
  abbrev least : ℕ → Inner
  least room = readers mode (suc n) room

  least-fuel : (room : ℕ) → (least room).fuel ≡ suc n
  unfolding readers
  least-fuel zero = refl
  least-fuel (suc room) = refl

  by-name : {K : List Filled → Type 0} (p : Parser Reading) (last : ℕ) → ((here : ℕ) (us : List Filled) → K us → Reads here p us last) → Begins (λ y us. K us) Any (λ us. Head x_ us) p last
  by-name p last r = λ n. record { more = x_ ∷ []; value = x_reading n; last = suc n; ok = tt; reads = λ us h a. r n us h; starts = λ us h. head }

  block-fresh : (room : ℕ) (f : Flags) (last : ℕ) → Begins Free Any (λ us. Head (Punctuator marks.LeftBrace) us) (t6.block (least (suc room)) f) last
  unfolding readers t6.block t6.statements
  block-fresh room f last = λ at. record { more = Punctuator marks.LeftBrace ∷ Punctuator marks.RightBrace ∷ []; value = roll-Block (record { span = record { begin = at; end = suc (suc at) }; statements = [] }); last = suc (suc at); ok = tt; reads = λ us h a. refl; starts = λ us h. head }

  property-fresh : (k : Inner) (f : Flags) (last : ℕ) → Begins (λ y us. Head (Punctuator marks.RightBrace) us) Any (λ us. Head x_ us) (e6.one_property k f) last
  unfolding e6.one_property e6.after_name e6.shorthand reserved_words
  property-fresh k f last = λ at. record { more = x_ ∷ []; value = property.Shorthand (at_place at) (codes "x"); last = suc at; ok = tt; reads = λ us h a. by at us h; starts = λ us h. head }
    where
      by : (at : ℕ) (us : List Filled) → Head (Punctuator marks.RightBrace) us → e6.one_property k f (x_then at us last) ≡ Took (property.Shorthand (at_place at) (codes "x")) (record { tokens = us; last = suc at })
      by at us head = refl

  target-fresh : (k : Inner) (f : Flags) (last : ℕ) → Begins Free Any (λ us. Head x_ us) (t6.binding k f) last
  unfolding t6.binding reserved_words
  target-fresh k f last = λ at. record { more = x_ ∷ []; value = name_target (record { span = at_place at; name = codes "x" }); last = suc at; ok = tt; reads = λ us h a. refl; starts = λ us h. head }

  part-fresh : (k : Inner) (f : Flags) (last : ℕ) → Begins (λ y us. Closer false us) Any (λ us. Head x_ us) (t6.one_part k f) last
  unfolding t6.one_part t6.initialized t6.binding reserved_words
  part-fresh k f last = λ at. record { more = x_ ∷ []; value = roll-Part (record { span = at_place at; pattern = name_target (record { span = at_place at; name = codes "x" }); default = None }); last = suc at; ok = tt; reads = λ us h a. on-missed (mark marks.Assign) _ _ us (suc at) (no-initializer us h); starts = λ us h. head }

  object-part-fresh : (k : Inner) (f : Flags) (last : ℕ) → Begins (λ y us. Head (Punctuator marks.RightBrace) us) Any (λ us. Head x_ us) (t6.one_object_part k f) last
  unfolding t6.one_object_part t6.named_part reserved_words
  object-part-fresh k f last = λ at. record { more = x_ ∷ []; value = NamedPart (name_alone (record { span = at_place at; name = codes "x" })); last = suc at; ok = tt; reads = λ us h a. by at us h; starts = λ us h. head }
    where
      by : (at : ℕ) (us : List Filled) → Head (Punctuator marks.RightBrace) us → t6.one_object_part k f (x_then at us last) ≡ Took (NamedPart (name_alone (record { span = at_place at; name = codes "x" }))) (record { tokens = us; last = suc at })
      by at us head = refl

  variable-fresh : (room : ℕ) (f : Flags) (last : ℕ) → Begins (λ y us. Closer false us) HasDefault (λ us. Head x_ us) (t6.initialized (least (suc room)) f f) last
  unfolding readers t6.initialized t6.binding reserved_words
  variable-fresh room f last = λ at. record { more = x_ ∷ Punctuator marks.Assign ∷ x_ ∷ []; value = roll-Part (record { span = record { begin = at; end = suc (suc (suc at)) }; pattern = name_target (record { span = at_place at; name = codes "x" }); default = Some (x_reading (suc (suc at))).value }); last = suc (suc (suc at)); ok = refl; reads = λ us h a. ap (λ o. after o (λ y. made at (λ span. roll-Part (record { span = span; pattern = name_target (record { span = at_place at; name = codes "x" }); default = Some y.value })))) (assignment-reads (least room) n (least-fuel room) f (suc (suc at)) us (suc (suc at)) h); starts = λ us h. head }

  abbrev member-end : ℕ → ℕ
  member-end at = suc (suc (suc (suc (suc at))))

  member-fresh : (room : ℕ) (f : Flags) (last : ℕ) → Begins Free Any (λ us. Head x_ us) (t6.one_member (least (suc room)) f) last
  unfolding readers t6.one_member t6.method t6.key t6.method_after_key t6.signature t6.parameters t6.function_body t6.statements
  member-fresh room f last = λ at. record { more = x_ ∷ Punctuator marks.LeftParenthesis ∷ Punctuator marks.RightParenthesis ∷ Punctuator marks.LeftBrace ∷ Punctuator marks.RightBrace ∷ []; value = t6.member_of false (method_of (record { begin = at; end = member-end at }) PlainMethod (WordKey (at_place at) (codes "x")) (record { begin = suc at; end = member-end at }) [] []) (record { begin = at; end = member-end at }); last = member-end at; ok = tt; reads = λ us h a. refl; starts = λ us h. head }

  statement-fresh : (k : Inner) (f : Flags) (stand : Stand) (last : ℕ) → Begins (λ y us. Behind us) Any (λ us. Head (Punctuator marks.Semicolon) us) (s6.statement k f stand) last
  unfolding s6.statement
  statement-fresh k f stand last = λ at. record { more = Punctuator marks.Semicolon ∷ []; value = stat.Empty (at_place at); last = suc at; ok = tt; reads = λ us h a. refl; starts = λ us h. head }

-- ## Where no construct may open any more

plain-follow : (role : Role) → is_leading role ≡ false → (n : ℕ) (sh : Shape) (x : Expression) → AllowedOf role n sh x → (us : List Filled) → After us → FollowOf sh us
plain-follow role e n Bare x ok us k = k
plain-follow role e n Grouped x ok us k = k
plain-follow role e n Covered x (leads, r) us k = absurd (false≢true (sym e ∙ leads))
plain-follow role e n LeftHandSide x ok us k = k
plain-follow role e n Other x ok us k = k

-- how readers that may open no construct are completed by those that may
record Limits (lim : Limit) (i j : Inner) : Type 0 where
  sequence : (f : Flags) (s : Input) → Partly lim (λ y us. Closer false us) Any (i.sequence f) (j.sequence f) s
  assignment : (f : Flags) (s : Input) → Partly lim (λ y us. Closer false us) Any (i.assignment f) (j.assignment f) s
  power : (f : Flags) (s : Input) → Partly lim (λ y us. After us) Any (i.power f) (j.power f) s
  unary : (f : Flags) (s : Input) → Partly lim (λ y us. After us) Any (i.unary f) (j.unary f) s
  callee : (f : Flags) (s : Input) → Partly lim (λ y us. After us) Any (i.callee f) (j.callee f) s
  heritage : (f : Flags) (s : Input) → Partly lim (λ y us. After us) Any (i.heritage f) (j.heritage f) s
  block : (f : Flags) (s : Input) → next_is (next_mark marks.LeftBrace) s.tokens ≡ true → Partly lim Free Any (i.block f) (j.block f) s
  statement : (f : Flags) (stand : Stand) (s : Input) → Partly lim (λ y us. Behind us) Any (i.statement f stand) (j.statement f stand) s

module _ {A : Type 0} {F : A → List Filled → Type 0} {P : A → Type 0} where
  limit-choice : {lim : Limit} {run : List Filled → Outcome A} (stop : Stop) → (stop ≡ Depth → lim.shallow) → (b : Bool) (q : Parser A) (s : Input) → Half lim F P run s.tokens (q s) → Half lim F P run s.tokens (choose b (fails stop) q s)
  limit-choice stop h true q s g = stops h
  limit-choice stop h false q s g = g

-- what stands where no statement begins
abbrev no_statement : Parser Statement
no_statement = if_next (next_word (codes "with")) (fails (Outside 5)) no_expression

no-statement : {lim : Limit} {F : Statement → List Filled → Type 0} {P : Statement → Type 0} (p' : Parser Statement) (s : Input) → Partly lim F P no_statement p' s
no-statement p' s = limit-choice (Outside 5) (λ e. absurd (cc)) (next_is (next_word (codes "with")) s.tokens) no_expression s (expression-by p' s)

-- ## Where a token at which they stop need complete nothing

module _ {lim : Limit} (any : lim.shallow) where
  expression-limit : {F : Reading → List Filled → Type 0} {P : Reading → Type 0} (test : Filled → Bool) (p' : Parser Reading) (s : Input) → Partly lim F P (e6.expression_at_limit test) p' s
  unfolding e6.expression_at_limit
  expression-limit test p' s = limit-choice Depth (λ e. any) (next_is test s.tokens) no_expression s (expression-by p' s)

  operand-limit : {F : Reading → List Filled → Type 0} {P : Reading → Type 0} (p' : Parser Reading) (s : Input) → Partly lim F P e6.operand_at_limit p' s
  unfolding e6.operand_at_limit
  operand-limit p' s = limit-choice Depth (λ e. any) (next_is begins_operand s.tokens) no_number s (number-by p' s)

  statement-limit : {F : Statement → List Filled → Type 0} {P : Statement → Type 0} (f : Flags) (stand : Stand) (p' : Parser Statement) (s : Input) → Partly lim F P (s6.statement_at_limit f stand) p' s
  unfolding s6.statement_at_limit
  statement-limit f stand p' s = limit-choice Depth (λ e. any) (next_is (s6.begins_statement f stand) s.tokens) _ s (no-statement p' s)

  shallow-limits : (mode : Bool) (fuel n room : ℕ) → Limits lim (readers mode fuel zero) (readers mode n (suc room))
  unfolding readers
  shallow-limits mode fuel n room =
      let k : Inner = readers mode n room in
      record {
        sequence = λ f s. expression-limit _ (e6.sequence k f) s;
        assignment = λ f s. expression-limit _ (e6.assignment k f) s;
        power = λ f s. expression-limit _ (e6.power k f Among) s;
        unary = λ f s. expression-limit _ (e6.unary k f) s;
        callee = λ f s. operand-limit (e6.chain k f Callee) s;
        heritage = λ f s. operand-limit (e6.chain k f Heritage) s;
        block = λ f s seen. stops (λ e. any);
        statement = λ f stand s. statement-limit f stand (s6.statement k f stand) s;
      }

turns-more : (n : ℕ) → Turns 1 n (suc n)
turns-more zero = over
turns-more (suc n) = turn (turns-more n)

-- ## All readers

-- readers completed by those with so many more turns and so much more room
module _ (mode : Bool) (fuel n l extra : ℕ) (lim : Limit) (w : Turns (suc l) fuel (suc n)) (gives : (m : ℕ) → (mode ≡ false → fuel ≤ suc m) → lim.allows m) (limits : Limits lim (readers mode fuel zero) (readers mode (suc n) (suc (suc (suc extra))))) where
  grow : (room : ℕ) → Better lim l (readers mode fuel room) (readers mode (suc n) (plus room (suc (suc (suc extra)))))
  unfolding readers
  grow zero =
      let k : Inner = readers mode (suc n) (suc (suc extra)) in
      record {
        sound = λ e. subst (λ b. Sound (readers b fuel zero)) (sym e) (sound-readers fuel zero);
        gives_up = gives;
        mode = refl;
        turns = w;
        opens = refl;
        sequence = λ f s. record { half = limits.sequence f s; fresh = by-name mode n (e6.sequence k f) s.last (λ here us h. sequence-reads k n (least-fuel mode n (suc (suc extra))) f here us s.last h) };
        assignment = λ f s. record { half = limits.assignment f s; fresh = by-name mode n (e6.assignment k f) s.last (λ here us h. assignment-reads k n (least-fuel mode n (suc (suc extra))) f here us s.last h) };
        power = λ f s. record { half = limits.power f s; fresh = by-name mode n (e6.power k f Among) s.last (λ here us h. power-reads k n (least-fuel mode n (suc (suc extra))) f here Among us s.last h) };
        unary = λ f s. record { half = limits.unary f s; fresh = by-name mode n (e6.unary k f) s.last (λ here us h. unary-reads k n (least-fuel mode n (suc (suc extra))) f here us s.last h) };
        callee = λ f s. record { half = limits.callee f s; fresh = by-name mode n (e6.chain k f Callee) s.last (λ here us h. chain-reads k n (least-fuel mode n (suc (suc extra))) f here Callee us s.last h) };
        heritage = λ f s. record { half = limits.heritage f s; fresh = by-name mode n (e6.chain k f Heritage) s.last (λ here us h. chain-reads k n (least-fuel mode n (suc (suc extra))) f here Heritage us s.last h) };
        block = limits.block;
        property = λ f s. record { half = stops (λ e. inr refl); fresh = property-fresh mode n k f s.last };
        target = λ f s. record { half = stops (λ e. inr refl); fresh = target-fresh mode n k f s.last };
        part = λ f s. record { half = stops (λ e. inr refl); fresh = part-fresh mode n k f s.last };
        object_part = λ f s. record { half = stops (λ e. inr refl); fresh = object-part-fresh mode n k f s.last };
        variable = λ f s. record { half = stops (λ e. inr refl); fresh = variable-fresh mode n (suc extra) f s.last };
        member = λ f s. record { half = stops (λ e. inr refl); fresh = member-fresh mode n (suc extra) f s.last };
        statement = λ f stand s. record { half = limits.statement f stand s; fresh = statement-fresh mode n k f stand s.last };
      }
  grow (suc room) =
      let i : Inner = readers mode fuel room in
      let j : Inner = readers mode (suc n) (plus room (suc (suc (suc extra)))) in
      let h : Better lim l i j = grow room in
      record {
        sound = λ e. subst (λ b. Sound (readers b fuel (suc room))) (sym e) (sound-readers fuel (suc room));
        gives_up = gives;
        mode = refl;
        turns = w;
        opens = refl;
        sequence = λ f s. expressions'.sequence i j h f s;
        assignment = λ f s. expressions'.assignment i j h f s;
        power = λ f s. weaken (λ y ok. tt) (λ y us ok k. plain-follow Among refl j.fuel y.shape y.value ok us k) (expressions'.power i j h f Among s);
        unary = λ f s. weaken (λ y ok. tt) (λ y us ok k. plain-follow Among refl j.fuel y.shape y.value ok us k) (expressions'.unary i j h f s);
        callee = λ f s. weaken (λ y ok. tt) (λ y us ok k. plain-follow Callee refl j.fuel y.shape y.value ok us k) (expressions'.chain i j h f Callee s);
        heritage = λ f s. weaken (λ y ok. tt) (λ y us ok k. plain-follow Heritage refl j.fuel y.shape y.value ok us k) (expressions'.chain i j h f Heritage s);
        block = λ f s seen. (parts'.block i j h f s).half;
        property = λ f s. into (expressions'.property i j h f s);
        target = λ f s. into (parts'.binding i j h f s);
        part = λ f s. into (parts'.one-part i j h f s);
        object_part = λ f s. into (parts'.object-part i j h f s);
        variable = λ f s. into (parts'.with-default i j h f f s);
        member = λ f s. into (parts'.member i j h f s);
        statement = λ f stand s. statements'.statement i j h f stand s;
      }

-- a reader that inserts no semicolon gives up only what has more tokens than loops have turns
pub lasting-grows : (fuel m k : ℕ) → m ≤ k → fuel ≤ suc m → fuel ≤ suc k
lasting-grows fuel m k l a = omega arith

abbrev pub lasting : Bool → ℕ → Limit
lasting mode fuel = record { allows = λ m. mode ≡ false → fuel ≤ suc m; grows = λ m k l a e. lasting-grows fuel m k l (a e); shallow = Unit {0} }

pub better : (mode : Bool) (fuel room : ℕ) → Better (lasting mode fuel) 0 (readers mode fuel room) (readers mode (suc fuel) (plus room 3))
better mode fuel room = grow mode fuel fuel 0 0 (lasting mode fuel) (turns-more fuel) (λ m a. a) (shallow-limits tt mode fuel (suc fuel) 2) room

-- ## Where a token at which they stop is completed

-- what is completed of a token alone that is taken
token-ends : {lim : Limit} {A : Type 0} {F : A → List Filled → Type 0} {P : A → Type 0} {run : List Filled → Outcome A} {o : Outcome A} (t : Filled) → Half lim F P run (t ∷ []) o → Over o → Ends F P run (t ∷ [])
token-ends {A = A} {F = F} {P = P} {run = run} t (stands {o = o} e k) h = absurd (never (e ∙ over-left o h))
  where
    never : t ∷ [] ≡ [] → ⊥
    never e = absurd (cc)
token-ends {A = A} {F = F} {P = P} {run = run} t (some {o = o} u front e k n) h = subst (λ vs. Ends F P run vs) (sym (e ∙ ap (λ vs. (u ∷ front) ++ vs) (over-left o h) ∙ append-nil (u ∷ front))) n
token-ends t (beyond front e z n) h = absurd (never h.1)
  where
    never : {u : Filled} {us : List Filled} → u ∷ us ≡ [] → ⊥
    never e = absurd (cc)
token-ends t (gives_up a) h = absurd (h.0 refl)

abbrev pub deepest : Bool → ℕ → Limit
deepest mode fuel = record { allows = λ m. mode ≡ false → fuel ≤ suc m; grows = λ m k l a e. lasting-grows fuel m k l (a e); shallow = ⊥ }

-- nothing begins with the end of the text
and-false : (b : Bool) → (b && false) ≡ false
and-false true = refl
and-false false = refl

end-operand : (t : Filled) → t.kind ≡ Read kinds.End → begins_operand t ≡ false
unfolding begins_operand operand_words reserved_words
end-operand t e = subst (λ k. begins_operand (record { kind = k; span = t.span; newline = t.newline }) ≡ false) (sym e) refl

end-unary : (t : Filled) → t.kind ≡ Read kinds.End → begins_unary t ≡ false
unfolding begins_unary begins_operand operand_words reserved_words unary_operators
end-unary t e = subst (λ k. begins_unary (record { kind = k; span = t.span; newline = t.newline }) ≡ false) (sym e) refl

end-expression : (f : Flags) (t : Filled) → t.kind ≡ Read kinds.End → begins_expression f t ≡ false
unfolding begins_expression
end-expression f t e = ap (λ b. b || (f.has_yield && is_word (codes "yield") t.kind)) (end-unary t e) ∙ ap (λ k. f.has_yield && is_word (codes "yield") k) e ∙ and-false f.has_yield

end-statement : (f : Flags) (stand : Stand) (t : Filled) → t.kind ≡ Read kinds.End → s6.begins_statement f stand t ≡ false
unfolding s6.begins_statement
end-statement f stand t e =
    ap (λ k. is_mark marks.LeftBrace k || is_mark marks.Semicolon k || is_any_word s6.statement_words k || (f.has_return && is_word (codes "return") k) || (begins_expression f t && s6.may_declare stand t)) e
    ∙ ap (λ b. b || (begins_expression f t && s6.may_declare stand t)) (and-false f.has_return) ∙ ap (λ b. b && s6.may_declare stand t) (end-expression f t e)

at-limit-ends : {lim : Limit} {A : Type 0} {F : A → List Filled → Type 0} {P : A → Type 0} (test : Filled → Bool) (p' q : Parser A) → ((s : Input) → Partly lim F P q p' s) → ((t : Filled) → t.kind ≡ Read kinds.End → test t ≡ false) → ((t : Filled) (last : ℕ) → test t ≡ true → Ends F P (run_of p' last) (t ∷ [])) → (s : Input) → Partly lim F P (if_next test (fails Depth) q) p' s
at-limit-ends {lim = lim} {A = A} {F = F} {P = P} test p' q g closed h s = by s.tokens s.last
  where
    known : (t : Filled) (ts : List Filled) (last : ℕ) (b : Bool) → test t ≡ b → Half lim F P (run_of p' last) (t ∷ ts) (choose b (fails Depth) q (record { tokens = t ∷ ts; last = last }))
    known t ts last true e = beyond [] refl (λ k. false≢true (sym (closed t k) ∙ e)) (h t last e)
    known t ts last false e = g (record { tokens = t ∷ ts; last = last })

    by : (ts : List Filled) (last : ℕ) → Half lim F P (run_of p' last) ts (if_next test (fails Depth) q (record { tokens = ts; last = last }))
    by [] last = g (record { tokens = []; last = last })
    by (t ∷ ts) last = known t ts last (test t) refl

listed-none : (i : Inner) (f : Flags) (last : ℕ) → s6.statement i f Listed (record { tokens = []; last = last }) ≡ Fault Syntax []
unfolding s6.statement s6.compound_statement s6.jump_statement s6.plain_statement s6.expression_statement no_expression
listed-none i f last = by f.has_return
  where
    end : Input
    end = record { tokens = []; last = last }

    plain : s6.plain_statement i f 0 end ≡ Fault Syntax []
    plain = ap (λ o. after o (λ x. s6.label_or_end i f 0 (s6.label_of x.shape x.value) x.value)) (sequence-stops i f [] last refl)

    by : (b : Bool) → choose b (on (word (codes "return")) (λ _. s6.return_statement i f 0) (s6.on_more i f Listed 0 (s6.plain_statement i f 0))) (s6.on_more i f Listed 0 (s6.plain_statement i f 0)) end ≡ Fault Syntax []
    by true = plain
    by false = plain

bare : (mode : Bool) (fuel room : ℕ) → IsBare (readers mode fuel (suc room))
unfolding readers no_expression no_number e6.one_property e6.after_accessor_word t6.key
bare mode fuel room =
    let i : Inner = readers mode fuel room in
    record {
      may_open = refl;
      sequence = λ f last. sequence-stops i f [] last refl;
      assignment = λ f last. assignment-stops i f [] last refl;
      unary = λ f last. unary-stops i f [] last refl;
      callee = λ f last. operand-stops i f [] last refl;
      property = λ f last. refl;
      listed = λ f last. listed-none i f last;
      under = λ f last. statement-stops i f Under (λ u. absurd (cc)) [] last refl;
    }

module _ (mode : Bool) (fuel : ℕ) where
  abbrev taking : Inner
  taking = readers mode (suc (suc fuel)) 2

  abbrev ending_ : Inner
  ending_ = readers mode (suc (suc (suc fuel))) 5

  abbrev completes : Better (lasting mode (suc (suc fuel))) 0 (readers mode (suc (suc fuel)) 2) (readers mode (suc (suc (suc fuel))) 5)
  completes = better mode (suc (suc fuel)) 2

  turns-taking : taking.fuel ≡ suc (suc fuel)
  unfolding readers
  turns-taking = refl

  bare-taking : IsBare taking
  bare-taking = bare mode (suc (suc fuel)) 1

  ends-sequence : (f : Flags) (t : Filled) (last : ℕ) → begins_expression f t ≡ true → Ends (λ y us. Closer false us) Any (run_of (e6.sequence ending_ f) last) (t ∷ [])
  ends-sequence f t last e = token-ends t (expressions'.sequence taking ending_ completes f (record { tokens = t ∷ []; last = last })).half (begun.sequence taking (suc fuel) turns-taking bare-taking t f last e)

  ends-assignment : (f : Flags) (t : Filled) (last : ℕ) → begins_expression f t ≡ true → Ends (λ y us. Closer false us) Any (run_of (e6.assignment ending_ f) last) (t ∷ [])
  ends-assignment f t last e = token-ends t (expressions'.assignment taking ending_ completes f (record { tokens = t ∷ []; last = last })).half (begun.assignment taking (suc fuel) turns-taking bare-taking t f last e)

  ends-power : (f : Flags) (t : Filled) (last : ℕ) → begins_unary t ≡ true → Ends (λ y us. After us) Any (run_of (e6.power ending_ f Among) last) (t ∷ [])
  ends-power f t last e = token-ends t (weaken (λ y ok. tt) (λ y us ok k. plain-follow Among refl ending_.fuel y.shape y.value ok us k) (expressions'.power taking ending_ completes f Among (record { tokens = t ∷ []; last = last }))).half (begun.power taking (suc fuel) turns-taking bare-taking t f Among last e)

  ends-unary : (f : Flags) (t : Filled) (last : ℕ) → begins_unary t ≡ true → Ends (λ y us. After us) Any (run_of (e6.unary ending_ f) last) (t ∷ [])
  ends-unary f t last e = token-ends t (weaken (λ y ok. tt) (λ y us ok k. plain-follow Among refl ending_.fuel y.shape y.value ok us k) (expressions'.unary taking ending_ completes f (record { tokens = t ∷ []; last = last }))).half (begun.unary taking (suc fuel) turns-taking bare-taking t f last e)

  ends-chain : (role : Role) → is_leading role ≡ false → (f : Flags) (t : Filled) (last : ℕ) → begins_operand t ≡ true → Ends (λ y us. After us) Any (run_of (e6.chain ending_ f role) last) (t ∷ [])
  ends-chain role plain f t last e = token-ends t (weaken (λ y ok. tt) (λ y us ok k. plain-follow role plain ending_.fuel y.shape y.value ok us k) (expressions'.chain taking ending_ completes f role (record { tokens = t ∷ []; last = last }))).half (begun.chain taking (suc fuel) turns-taking bare-taking t f role last e)

  ends-statement : (f : Flags) (stand : Stand) (t : Filled) (last : ℕ) → s6.begins_statement f stand t ≡ true → Ends (λ y us. Behind us) Any (run_of (s6.statement ending_ f stand) last) (t ∷ [])
  ends-statement f stand t last e = token-ends t (statements'.statement taking ending_ completes f stand (record { tokens = t ∷ []; last = last })).half (begun.statement taking (suc fuel) turns-taking bare-taking t f stand last e)

  ends-block : (f : Flags) (ts : List Filled) (last : ℕ) → next_is (next_mark marks.LeftBrace) ts ≡ true → Half (deepest mode fuel) Free Any (run_of (t6.block ending_ f) last) ts (Fault Depth ts)
  ends-block f [] last seen = absurd (false≢true seen)
  ends-block f (t ∷ ts) last seen = beyond [] refl (λ k. false≢true (sym (ap (λ x. is_mark marks.LeftBrace x) k) ∙ seen)) (token-ends t (parts'.block taking ending_ completes f (record { tokens = t ∷ []; last = last })).half (begun.block taking (suc fuel) turns-taking bare-taking t f last seen))

  deep-limits : Limits (deepest mode fuel) (readers mode fuel zero) (readers mode (suc (suc (suc fuel))) 6)
  unfolding readers e6.expression_at_limit e6.operand_at_limit s6.statement_at_limit
  deep-limits = record {
    sequence = λ f s. at-limit-ends (begins_expression f) (e6.sequence ending_ f) no_expression (λ c. expression-by (e6.sequence ending_ f) c) (end-expression f) (ends-sequence f) s;
    assignment = λ f s. at-limit-ends (begins_expression f) (e6.assignment ending_ f) no_expression (λ c. expression-by (e6.assignment ending_ f) c) (end-expression f) (ends-assignment f) s;
    power = λ f s. at-limit-ends begins_unary (e6.power ending_ f Among) no_expression (λ c. expression-by (e6.power ending_ f Among) c) end-unary (ends-power f) s;
    unary = λ f s. at-limit-ends begins_unary (e6.unary ending_ f) no_expression (λ c. expression-by (e6.unary ending_ f) c) end-unary (ends-unary f) s;
    callee = λ f s. at-limit-ends begins_operand (e6.chain ending_ f Callee) no_number (λ c. number-by (e6.chain ending_ f Callee) c) end-operand (ends-chain Callee refl f) s;
    heritage = λ f s. at-limit-ends begins_operand (e6.chain ending_ f Heritage) no_number (λ c. number-by (e6.chain ending_ f Heritage) c) end-operand (ends-chain Heritage refl f) s;
    block = λ f s seen. ends-block f s.tokens s.last seen;
    statement = λ f stand s. at-limit-ends (s6.begins_statement f stand) (s6.statement ending_ f stand) no_statement (λ c. no-statement (s6.statement ending_ f stand) c) (end-statement f stand) (ends-statement f stand) s;
  }

turns-three : (n : ℕ) → Turns 3 n (suc (suc (suc n)))
turns-three zero = over
turns-three (suc n) = turn (turns-three n)

pub deepest-completed : (mode : Bool) (fuel room : ℕ) → Better (deepest mode fuel) 2 (readers mode fuel room) (readers mode (suc (suc (suc fuel))) (plus room 6))
deepest-completed mode fuel room = grow mode fuel (suc (suc fuel)) 2 3 (deepest mode fuel) (turns-three fuel) (λ m a. a) (deep-limits mode fuel) room

-- ## What is read is spelled

self-low : (n : ℕ) → n ≤ n
self-low n = omega arith

low : (n l : ℕ) → l ≤ n + l
low n l = omega arith

fills-less : {Full Less : List Filled → Type 0} → ((row : List Filled) → Less row → Full row) → {before filled : List Filled} {ts us : List Token} → Fills Full before ts filled us → Fills Less before ts filled us
fills-less f semicolons'.done = semicolons'.done
fills-less f (semicolons'.keeps g) = semicolons'.keeps (fills-less f g)
fills-less f (semicolons'.inserts d n m g) = semicolons'.inserts d (λ b. n (b.0, f _ b.1)) m (fills-less f g)

read-alone : IsComplete → (fuel room : ℕ) (row : List Filled) → (n : Module) × IsModule row n → IsReadAlone fuel room row
read-alone complete fuel room row (n, d) =
    let c = complete row n d in
    let r = c.1 (fuel + c.0) (room + c.0) 0 (low fuel c.0) (low room c.0) in
    (c.0, n, r.0, r.1)

pub spelled : IsComplete → (fuel room : ℕ) (tokens : List Token) (m : Module) (after : Input) → whole_module (readers true fuel room) (record { tokens = map read tokens; last = 0 }) ≡ Took m after → SpellsModule tokens m
spelled complete fuel room tokens m after k =
    let r = followed-module fuel room (map read tokens) m after k in
    let n = left-over fuel room (map read tokens) m after k in
    record {
      filled = r.filled;
      fills = fills-less (read-alone complete fuel room) (gaps-fill fuel room tokens r.gaps refl n);
      spelled = derived-of fuel room (map read tokens) m after r n;
    }

-- ## The tokens before a fault

-- tokens that are put in from a place on
abbrev pub token_at : ℕ → TokenKind → Token
token_at n k = record { kind = k; span = at_place n; newline = false }

abbrev pub tokens_at : ℕ → List TokenKind → List Token
tokens_at n [] = []
tokens_at n (k ∷ ks) = token_at n k ∷ tokens_at (suc n) ks

pub tokens-of : (n : ℕ) (ks : List TokenKind) → fills n ks ≡ map read (tokens_at n ks)
tokens-of n [] = refl
tokens-of n (k ∷ ks) = ap (λ us. put k (at_place n) ∷ us) (tokens-of (suc n) ks)

row-of : (front : List Token) (n : ℕ) (ks : List TokenKind) → map read front ++ (fills n ks ++ []) ≡ map read (front ++ tokens_at n ks)
row-of front n ks = ap (λ us. map read front ++ us) (append-nil (fills n ks) ∙ tokens-of n ks) ∙ sym (map-append read front (tokens_at n ks))

seen-alive : (front behind : List Token) (t : Token) → IsAlive (front ++ t ∷ []) → IsAlive front
seen-alive front behind t a = (t ∷ a.0, a.1, subst (λ ts. SpellsModule ts a.1) (append_assoc front (t ∷ []) a.0) a.2)

fault-rest : {A : Type 0} {stop other : Stop} {us vs : List Filled} → ◌≡◌ {A = Outcome A} (Fault stop us) (Fault other vs) → us ≡ vs
fault-rest e = cc

head-is : {t u : Filled} {ts us : List Filled} → t ∷ ts ≡ u ∷ us → t ≡ u
head-is e = cc

nothing-there : {t : Filled} {ts : List Filled} → t ∷ ts ≡ [] → ⊥
nothing-there e = absurd (cc)

module _ (complete : IsComplete) (n room : ℕ) where
  abbrev run : List Filled → Outcome Module
  run us = whole_module (readers true n room) (record { tokens = us; last = 0 })

  -- the tokens and those that complete them, wherever these begin
  abbrev IsPlaced : List Token → Type 0
  IsPlaced front = (at : ℕ) → (ks : List TokenKind) × (m : Module) × SpellsModule (front ++ tokens_at at ks) m

  placed-with : (front : List Token) (at : ℕ) (ks : List TokenKind) (m : Module) (last : ℕ) → run (map read front ++ (fills at ks ++ [])) ≡ Took m (record { tokens = []; last = last }) → SpellsModule (front ++ tokens_at at ks) m
  placed-with front at ks m last r = spelled complete n room (front ++ tokens_at at ks) m (record { tokens = []; last = last }) (ap run (sym (row-of front at ks)) ∙ r)

  alive-with : (front : List Token) (more : List TokenKind) (m : Module) (last : ℕ) → run (map read front ++ (fills 0 more ++ [])) ≡ Took m (record { tokens = []; last = last }) → IsAlive front
  alive-with front more m last r = (tokens_at 0 more, m, placed-with front 0 more m last r)

  -- with the token at which a reader stopped for depth
  alive-beyond : (front behind : List Token) (t : Token) (taken : List Filled) {u : Filled} {us : List Filled} → map read (front ++ t ∷ behind) ≡ taken ++ u ∷ us → u ∷ us ≡ map read (t ∷ behind) → Ends (λ (y : Module) vs. vs ≡ []) Any run (taken ++ u ∷ []) → IsPlaced (front ++ t ∷ [])
  alive-beyond front behind t taken {u = u} e k ends = λ at.
      let more = ends at in
      let same-front : map read front ≡ taken = append_cancel_right (map read front) taken (map read (t ∷ behind)) (sym (map-append read front (t ∷ behind)) ∙ e ∙ ap (λ vs. taken ++ vs) k) in
      let row : map read (front ++ t ∷ []) ≡ taken ++ u ∷ [] = map-append read front (t ∷ []) ∙ ap (λ vs. vs ++ read t ∷ []) same-front ∙ ap (λ v. taken ++ v ∷ []) (sym (head-is k)) in
      (more.more, more.value, placed-with (front ++ t ∷ []) at more.more more.value more.last (ap (λ vs. run (vs ++ (fills at more.more ++ []))) row ∙ more.reads [] refl tt))

  placed-alive : (front : List Token) → IsPlaced front → IsAlive front
  placed-alive front p = let q = p 0 in (tokens_at 0 q.0, q.1, q.2)

  alive-seen : (front behind : List Token) (taken : List Filled) {u : Filled} {us : List Filled} → map read (front ++ behind) ≡ taken ++ u ∷ us → u ∷ us ≡ map read behind → Ends (λ (y : Module) vs. vs ≡ []) Any run (taken ++ u ∷ []) → IsAlive front
  alive-seen front [] taken e k more = absurd (nothing-there k)
  alive-seen front (t ∷ behind) taken e k more = seen-alive front behind t (placed-alive (front ++ t ∷ []) (alive-beyond front behind t taken e k more))

  alive-by : {fuel : ℕ} (front behind : List Token) (stop : Stop) {o : Outcome Module} → (stop ≡ Endless → ⊥) → o ≡ Fault stop (map read behind) → Half (lasting true fuel) (λ y us. us ≡ []) Any run (map read (front ++ behind)) o → Fresh (λ y us. us ≡ []) Any (λ us. Head kinds.End us) run → IsAlive front
  alive-by front behind stop {o = o} final k (stands e t) fresh = let f = fresh 0 in alive-with front f.more f.value f.last (ap (λ us. run (us ++ (fills 0 f.more ++ []))) none ∙ f.reads [] refl tt)
    where
      none : map read front ≡ []
      none = append_cancel_right (map read front) [] (map read behind) (sym (map-append read front behind) ∙ e ∙ ap left k)
  alive-by front behind stop {o = o} final k (some t before e l ends) f = let more = ends 0 in alive-with front more.more more.value more.last (ap (λ us. run (us ++ (fills 0 more.more ++ []))) whole ∙ more.reads [] refl tt)
    where
      whole : map read front ≡ t ∷ before
      whole = append_cancel_right (map read front) (t ∷ before) (map read behind) (sym (map-append read front behind) ∙ e ∙ ap (λ us. (t ∷ before) ++ us) (ap left k))
  alive-by front behind stop final k (beyond taken e z more) f = alive-seen front behind taken e (fault-rest k) more
  alive-by front behind stop final k (gives_up a) f = absurd (final (stop-of k))
    where
      stop-of : {us vs : List Filled} → ◌≡◌ {A = Outcome Module} (Fault Endless us) (Fault stop vs) → stop ≡ Endless
      stop-of e = cc

  alive-deep : {fuel : ℕ} (front behind : List Token) (t : Token) {o : Outcome Module} → o ≡ Fault Depth (map read (t ∷ behind)) → Half (deepest true fuel) (λ y us. us ≡ []) Any run (map read (front ++ t ∷ behind)) o → (t.kind ≡ kinds.End → ⊥) × IsPlaced (front ++ t ∷ [])
  alive-deep {fuel = fuel} front behind t k (stands e l) = absurd (subst (λ o. Stays (deepest true fuel) run [] o) k l refl)
  alive-deep {fuel = fuel} front behind t k (some u before e l more) = absurd (subst (λ o. Stays (deepest true fuel) run (u ∷ before) o) k l refl)
  alive-deep front behind t k (beyond taken e z more) = (λ h. z (ap (λ x. x.kind) (head-is (fault-rest k)) ∙ ap Read h), alive-beyond front behind t taken e (fault-rest k) more)
  alive-deep front behind t k (gives_up a) = absurd (cc)

pub tokens-alive : IsComplete → TokensBeforeFaultsAreAlive
unfolding read_module
tokens-alive complete fuel front behind stop k final =
    let g = statements'.whole-module (readers true fuel most_open) (readers true (suc fuel) (plus most_open 3)) (better true fuel most_open) (record { tokens = map read (front ++ behind); last = 0 }) in
    alive-by complete (suc fuel) (plus most_open 3) front behind stop final k g.half g.fresh

-- it isn't the end, and the completing tokens stand where they are to
pub depth-placed : IsComplete → (fuel : ℕ) (front behind : List Token) (t : Token) → read_module fuel (map read (front ++ t ∷ behind)) ≡ Fault Depth (map read (t ∷ behind)) → (t.kind ≡ kinds.End → ⊥) × ((at : ℕ) → (ks : List TokenKind) × (m : Module) × SpellsModule ((front ++ t ∷ []) ++ tokens_at at ks) m)
unfolding read_module
depth-placed complete fuel front behind t k =
    let g = statements'.whole-module (readers true fuel most_open) (readers true (suc (suc (suc fuel))) (plus most_open 6)) (deepest-completed true fuel most_open) (record { tokens = map read (front ++ t ∷ behind); last = 0 }) in
    alive-deep complete (suc (suc (suc fuel))) (plus most_open 6) front behind t k g.half

pub depth-alive : IsComplete → DepthFaultsAreAlive
depth-alive complete fuel front behind t k = let q = (depth-placed complete fuel front behind t k).1 0 in (tokens_at 0 q.0, q.1, q.2)
