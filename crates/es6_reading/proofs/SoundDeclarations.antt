-- What the readers of labels and declarations give is derived, and so is every statement, if the readers for one construct deeper
-- are sound.
use Rattle.std.proofs.Common.{◌≡◌, ℕ, false, List, [], ◌∷◌, Option, Some, None, refl, ap, ◌∙◌}
use Rattle.std.specs.Prelude.{codes}
use Rattle.es6_lexer.specs.declared.token.TokenKind.TheVariants as kinds
use Rattle.es6_lexer.specs.declared.token.Punctuator.TheVariants as marks
use Rattle.es6_ast.specs.declared.operators.VariableKind.TheVariants.{Var}
use Rattle.es6_ast.specs.declared.tree.Identifier.{Identifier}
use Rattle.es6_ast.specs.declared.tree.Statement.{Statement}
use Rattle.es6_ast.specs.declared.tree.Statement.TheVariants as stat
use Rattle.es6_ast.specs.declared.tree.Block.{Block}
use Rattle.es6_ast.specs.declared.tree.Function.{Function}
use Rattle.es6_ast.specs.declared.settings.Flags.{Flags}
use Rattle.es6_ast.specs.declared.settings.Stand.{Stand}
use Rattle.es6_ast.specs.declared.settings.Stand.TheVariants.{Listed, Under, Labelled}
use Rattle.es6_ast.specs.Tokens.{Filling, Read, Filled, IsWord, IsMark, is_left_brace, begin_of, across}
use Rattle.es6_ast.specs.Grammar as g
use Rattle.es6_ast.specs.Grammar.{with_in, level_sequence, level_assignment, ends, NotBrace, NotStar, NotWord, IsEnd, IsName, IsStar, IsExpression, IsTarget, IsFunction, IsStatement, IsDeclaration, IsListed, IsLabel, IsCatch, AreCases, AreInCase}
use Rattle.es6_reading.specs.Parser.{Input, Outcome, Took, Fault, Parser, next_is, is_mark, next_mark, next_word, Reading, Inner}
use Rattle.es6_reading.specs.Words.{lexical_kind_at}
use Rattle.es6_reading.specs.Parts.{named_function}
use Rattle.es6_reading.specs.Statements.{expression_end, labelled, label_of, label_or_end, expression_statement, function_declaration, class_declaration, on_declaration, labelled_function, on_more, begins_declaration, plain_statement, jump_statement, compound_statement, block_statement, statement}
use Rattle.es6_reading.proofs.Posts.{Holds, took, fault, bind, weaken, choose-holds, if-holds}
use Rattle.es6_reading.proofs.Meanings.{or_false, lexical-kind-means}
use Rattle.es6_reading.proofs.Spans.{Moves, stays, ◌⟫◌, span-across}
use Rattle.es6_reading.proofs.Derived.{ReadWhole, BlockIn, IsUnderLabel, statement_under, function_under, StatementIn, Sound, Next, next, on-means, one, on-mark, on-word}
use Rattle.es6_reading.proofs.SoundPatterns.{sound-identifier}
use Rattle.es6_reading.proofs.SoundFunctions.{sound-block, FunctionIn, sound-named-function, sound-function, sound-class}
use Rattle.es6_reading.proofs.SoundStatements.{sound-semicolon, not-word, sound-declares, var-rule, lexical-rule, sound-if, sound-do, sound-while}
use Rattle.es6_reading.proofs.SoundLevels.{sound-sequence}
use Rattle.es6_reading.proofs.SoundLoops.{sound-for}
use Rattle.es6_reading.proofs.SoundCompound.{sound-continue, sound-break, sound-return, sound-throw, sound-debugger, sound-switch, sound-try}

-- ## First tokens

brace-means : (k : Filling) → is_mark marks.LeftBrace k ≡ false → is_left_brace k ≡ false
brace-means (Read (kinds.Punctuator marks.LeftBrace)) h = absurd (cc)
brace-means k h = refl

not-brace : (ts : List Filled) → next_is (next_mark marks.LeftBrace) ts ≡ false → NotBrace ts
not-brace [] h = refl
not-brace (t ∷ ts) h = brace-means t.kind h

name-no-star : {ts us : List Filled} {n : Identifier} → IsName ts n us → NotStar ts
name-no-star (g.name word w i e) = rw w refl

-- an expression statement begins with neither a brace nor the word of a declaration
pub record BeginsExpression (s : Input) : Type 0 where
  pub brace : NotBrace s.tokens
  pub function : NotWord (codes "function") s.tokens
  pub class : NotWord (codes "class") s.tokens

no-declaration : (ts : List Filled) → next_is begins_declaration ts ≡ false → (next_is (next_word (codes "function")) ts ≡ false) × (next_is (next_word (codes "class")) ts ≡ false)
no-declaration [] h = (refl, refl)
no-declaration (t ∷ ts) h = or_false (next_word (codes "function") t) (next_word (codes "class") t) h

begins-expression : (s : Input) → next_is (next_mark marks.LeftBrace) s.tokens ≡ false → next_is begins_declaration s.tokens ≡ false → BeginsExpression s
begins-expression s h k =
    let e = no-declaration s.tokens k in
    record { brace = not-brace s.tokens h; function = not-word (codes "function") s.tokens e.0; class = not-word (codes "class") s.tokens e.1 }

-- ## Expressions and labels

expression-rule : (f : Flags) {s a c : Input} (x : Reading) → BeginsExpression s → ReadWhole f level_sequence s x a → Next IsEnd a c → StatementIn f Under s (stat.Expression (record { begin = begin_of s.tokens; end = c.last }) x.value) c
expression-rule f x h r (next e) = (r.moves ⟫ one, g.expression x.value _ h.brace h.function h.class r.derived e (ap (λ span. stat.Expression span x.value) (span-across (r.moves ⟫ one))))

sound-expression-end : (i : Inner) (sound : Sound i) (f : Flags) (s a : Input) (x : Reading) → BeginsExpression s → ReadWhole f level_sequence s x a → Holds (StatementIn f Under s) (expression_end i (begin_of s.tokens) x.value a)
unfolding expression_end
sound-expression-end i sound f s a x h r = bind (sound-semicolon i sound a) λ u c q. took (expression-rule f x h r q)

label-statement : (f : Flags) {s a b c : Input} {x : Identifier} {body : Statement} → Moves s a → IsName s.tokens x a.tokens → Next (IsMark marks.Colon) a b → Moves b c → IsUnderLabel f b.tokens body c.tokens
    → StatementIn f Under s (stat.Labelled (record { begin = begin_of s.tokens; end = c.last }) x body) c
label-statement f {x = x} {body = body} m n (next e) m' (statement_under d) = (m ⟫ one ⟫ m', g.labelled x body _ n e d (ap (λ span. stat.Labelled span x body) (span-across (m ⟫ one ⟫ m'))))
label-statement f {s = s} {c = c} {x = x} {body = body} m n (next e) m' (function_under k star d r) = (m ⟫ one ⟫ m', g.labelled_function x k _ n e star d (ap (λ span. stat.Labelled span x body) (span-across (m ⟫ one ⟫ m')) ∙ ap (λ y. stat.Labelled (across s.tokens c.tokens) x y) r))

sound-labelled : (i : Inner) (sound : Sound i) (f : Flags) (label : Identifier) (s a b : Input) → Moves s a → IsName s.tokens label a.tokens → Next (IsMark marks.Colon) a b → Holds (StatementIn f Under s) (labelled i f (begin_of s.tokens) label b)
unfolding labelled
sound-labelled i sound f label s a b m n e = bind (sound.statement f Labelled b) λ body c d. took (label-statement f m n e d.0 d.1)

sound-label-or-end : (i : Inner) (sound : Sound i) (f : Flags) (s a : Input) (x : Reading) → BeginsExpression s → ReadWhole f level_sequence s x a → (o : Option Identifier) → label_of x.shape x.value ≡ o
    → Holds (StatementIn f Under s) (label_or_end i f (begin_of s.tokens) o x.value a)
sound-label-or-end i sound f s a x h r (Some label) e = on-mark _ _ _ a (λ t b q. sound-labelled i sound f label s a b r.moves (r.named label e) q) (λ m. sound-expression-end i sound f s a x h r)
sound-label-or-end i sound f s a x h r None e = sound-expression-end i sound f s a x h r

sound-expression-statement : (i : Inner) (sound : Sound i) (f : Flags) (s : Input) → BeginsExpression s → Holds (StatementIn f Under s) (expression_statement i f (begin_of s.tokens) s)
unfolding expression_statement
sound-expression-statement i sound f s h = bind (sound-sequence i sound f s) λ x a r. sound-label-or-end i sound f s a x h r (label_of x.shape x.value) refl

sound-plain : (i : Inner) (sound : Sound i) (f : Flags) (s : Input) → next_is (next_mark marks.LeftBrace) s.tokens ≡ false → Holds (StatementIn f Under s) (plain_statement i f (begin_of s.tokens) s)
unfolding plain_statement
sound-plain i sound f s brace = if-holds _ _ _ s (λ w. fault) (λ w. if-holds _ _ _ s (λ k. fault) (λ k. sound-expression-statement i sound f s (begins-expression s brace k)))

-- ## Declarations

abbrev pub DeclarationIn : Flags → Input → Statement → Input → Type 0
DeclarationIn f s x c = Moves s c × IsDeclaration f s.tokens x c.tokens

sound-function-declaration : (i : Inner) (sound : Sound i) (f : Flags) (s a : Input) → Next (IsWord (codes "function")) s a → Holds (DeclarationIn f s) (function_declaration i (begin_of s.tokens) a)
unfolding function_declaration
sound-function-declaration i sound f s a w = bind (sound-function i sound false s a w) λ k c d. took (d.0, g.function_declaration k _ d.1 refl)

sound-class-declaration : (i : Inner) (sound : Sound i) (f : Flags) (s a : Input) → Next (IsWord (codes "class")) s a → Holds (DeclarationIn f s) (class_declaration i f (begin_of s.tokens) a)
unfolding class_declaration
sound-class-declaration i sound f s a w = bind (sound-class i sound f false s a w) λ k c d. took (d.0, g.class_declaration k _ d.1 refl)

-- a declaration, or what is read where none begins
pub declaration-holds : {Q : Statement → Input → Type 0} (i : Inner) (sound : Sound i) (f : Flags) (q : Parser Statement) (s : Input) → ((x : Statement) (c : Input) → DeclarationIn f s x c → Q x c) → Holds Q (q s) → Holds Q (on_declaration i f (begin_of s.tokens) q s)
declaration-holds i sound f q s here there =
    on-word _ _ _ s (λ t a w. weaken (sound-function-declaration i sound f s a w) here) (λ m.
    on-word _ _ _ s (λ t a w. weaken (sound-class-declaration i sound f s a w) here) (λ m.
    on-means lexical_kind_at _ lexical-kind-means _ _ s (λ kind a w. weaken (sound-declares i sound f kind s a) (λ x c d. here x c (lexical-rule f kind w d))) (λ m. there)))

-- of two facts of what a reader takes, both hold
both-hold : {A : Type 0} {P Q : A → Input → Type 0} {o : Outcome A} → Holds P o → Holds Q o → Holds (λ x c. P x c × Q x c) o
both-hold (took h) (took k) = took (h, k)
both-hold fault k = fault

whatever : {A : Type 0} {Q : A → Input → Type 0} (o : Outcome A) → ((x : A) (c : Input) → Q x c) → Holds Q o
whatever (Took x c) h = took (h x c)
whatever (Fault stop tokens) h = fault

-- a function with a name is no generator
named-no-star : (i : Inner) (at : ℕ) (s : Input) → Holds (λ k c. NotStar s.tokens) (named_function i at false s)
unfolding named_function
named-no-star i at s = bind (sound-identifier s) λ n a d. whatever _ (λ k c. name-no-star d.1)

under-label-rule : (f : Flags) {s a c : Input} {k : Function} → Next (IsWord (codes "function")) s a → NotStar a.tokens → FunctionIn false s k c → StatementIn f Labelled s (stat.FunctionDeclaration k) c
under-label-rule f {k = k} (next w) h (m, d) = (m, function_under k h d refl)

sound-labelled-function : (i : Inner) (sound : Sound i) (f : Flags) (s a : Input) → Next (IsWord (codes "function")) s a → Holds (StatementIn f Labelled s) (labelled_function i (begin_of s.tokens) a)
unfolding labelled_function
sound-labelled-function i sound f s a w = bind (both-hold (sound-named-function i sound false false s a a w (stays a, g.no_star)) (named-no-star i (begin_of s.tokens) a)) λ k c d. took (under-label-rule f w d.1 d.0)

-- ## All together

pub at-stand : (f : Flags) (stand : Stand) {s c : Input} {x : Statement} → StatementIn f Under s x c → StatementIn f stand s x c
at-stand f Listed (m, d) = (m, g.listed_statement _ d)
at-stand f Under (m, d) = (m, d)
at-stand f Labelled (m, d) = (m, statement_under d)

sound-more : (i : Inner) (sound : Sound i) (f : Flags) (stand : Stand) (s : Input) → next_is (next_mark marks.LeftBrace) s.tokens ≡ false → Holds (StatementIn f stand s) (on_more i f stand (begin_of s.tokens) (plain_statement i f (begin_of s.tokens)) s)
sound-more i sound f Listed s brace = declaration-holds i sound f _ s (λ x c d. (d.0, g.listed_declaration x d.1)) (weaken (sound-plain i sound f s brace) (λ x c d. at-stand f Listed d))
sound-more i sound f Under s brace = sound-plain i sound f s brace
sound-more i sound f Labelled s brace = on-word _ _ _ s (λ t a w. sound-labelled-function i sound f s a w) (λ m. weaken (sound-plain i sound f s brace) (λ x c d. at-stand f Labelled d))

sound-jump : (i : Inner) (sound : Sound i) (f : Flags) (stand : Stand) (s : Input) → next_is (next_mark marks.LeftBrace) s.tokens ≡ false → Holds (StatementIn f stand s) (jump_statement i f stand (begin_of s.tokens) s)
unfolding jump_statement
sound-jump i sound f stand s brace =
    on-word _ _ _ s (λ t a w. stands (sound-continue i sound f s a w)) (λ m.
    on-word _ _ _ s (λ t a w. stands (sound-break i sound f s a w)) (λ m.
    on-word _ _ _ s (λ t a w. stands (sound-throw i sound f s a w)) (λ m.
    on-word _ _ _ s (λ t a w. stands (sound-debugger i sound f s a w)) (λ m.
    choose-holds _ _ f.has_return s
    (λ h. on-word _ _ _ s (λ t a w. stands (sound-return i sound f s a h w)) (λ m. sound-more i sound f stand s brace))
    (λ h. sound-more i sound f stand s brace)))))
  where
    stands : {o : Outcome Statement} → Holds (StatementIn f Under s) o → Holds (StatementIn f stand s) o
    stands h = weaken h (λ x c d. at-stand f stand d)

sound-compound : (i : Inner) (sound : Sound i) (f : Flags) (stand : Stand) (s : Input) → next_is (next_mark marks.LeftBrace) s.tokens ≡ false → Holds (StatementIn f stand s) (compound_statement i f stand (begin_of s.tokens) s)
unfolding compound_statement
sound-compound i sound f stand s brace =
    on-word _ _ _ s (λ t a w. stands (sound-do i sound f s a w)) (λ m.
    on-word _ _ _ s (λ t a w. stands (sound-while i sound f s a w)) (λ m.
    on-word _ _ _ s (λ t a w. stands (sound-for i sound f s a w)) (λ m.
    on-word _ _ _ s (λ t a w. stands (sound-switch i sound f s a w)) (λ m.
    on-word _ _ _ s (λ t a w. stands (sound-try i sound f s a w)) (λ m. sound-jump i sound f stand s brace)))))
  where
    stands : {o : Outcome Statement} → Holds (StatementIn f Under s) o → Holds (StatementIn f stand s) o
    stands h = weaken h (λ x c d. at-stand f stand d)

empty-rule : (f : Flags) {s c : Input} → Next (IsMark marks.Semicolon) s c → StatementIn f Under s (stat.Empty (record { begin = begin_of s.tokens; end = c.last })) c
empty-rule f (next {t = t} {ts = ts} e) = (one, g.empty _ e refl)

block-statement-rule : (f : Flags) {s c : Input} {b : Block} → BlockIn f s b c → StatementIn f Under s (stat.Block b) c
block-statement-rule f (m, d) = (m, g.block _ _ d refl)

pub sound-statement : (i : Inner) (sound : Sound i) (f : Flags) (stand : Stand) (s : Input) → Holds (StatementIn f stand s) (statement i f stand s)
unfolding statement block_statement
sound-statement i sound f stand s = if-holds _ _ _ s
    (λ h. bind (sound-block i sound f s) λ b c d. took (at-stand f stand (block-statement-rule f d)))
    (λ brace. if-holds _ _ _ s (λ h. stands (sound-if i sound f s))
    (λ h. on-mark _ _ _ s (λ t c e. took (at-stand f stand (empty-rule f e)))
    (λ m. on-word _ _ _ s (λ t a w. weaken (sound-declares i sound f Var s a) (λ x c d. at-stand f stand (var-rule f w d))) (λ m. sound-compound i sound f stand s brace))))
  where
    stands : {o : Outcome Statement} → Holds (StatementIn f Under s) o → Holds (StatementIn f stand s) o
    stands h = weaken h (λ x c d. at-stand f stand d)
