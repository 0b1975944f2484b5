-- What the readers of semicolons, variables, conditions and loops give is derived, if the readers for one construct deeper are
-- sound.
use Rattle.std.proofs.Common.{◌≡◌, ℕ, zero, suc, true, false, List, [], ◌∷◌, Some, None, refl, sym, ap, ◌∙◌}
use Rattle.std.proofs.lemmas.Bool.{true≢false}
use Rattle.std.specs.Prelude.{codes}
use Rattle.es_text.specs.declared.Span.{Span}
use Rattle.es6_lexer.specs.declared.token.Punctuator.TheVariants as marks
use Rattle.es6_ast.specs.declared.operators.VariableKind.{VariableKind}
use Rattle.es6_ast.specs.declared.operators.VariableKind.TheVariants.{Var}
use Rattle.es6_ast.specs.declared.tree.Expression.{Expression}
use Rattle.es6_ast.specs.declared.tree.Statement.{Statement}
use Rattle.es6_ast.specs.declared.tree.Statement.TheVariants as stat
use Rattle.es6_ast.specs.declared.tree.Pattern.{Pattern}
use Rattle.es6_ast.specs.declared.tree.Pattern.TheVariants as pattern
use Rattle.es6_ast.specs.declared.tree.Condition.{Condition, roll-Condition}
use Rattle.es6_ast.specs.declared.tree.Part.{Part, roll-Part}
use Rattle.es6_ast.specs.declared.settings.Flags.{Flags}
use Rattle.es6_ast.specs.declared.settings.Stand.TheVariants.{Under}
use Rattle.es6_ast.specs.Tokens.{Filled, IsWord, IsMark, begin_of}
use Rattle.es6_ast.specs.Grammar as g
use Rattle.es6_ast.specs.Grammar.{with_in, without_in, level_sequence, level_assignment, kind_word, is_lexical, NotWord, IsEnd, IsDoWhileEnd, IsExpression, IsTarget, IsVariable, AreVariables, IsDeclaration, IsCondition, IsIf, IsForFirst, IsForTarget, IsOptional}
use Rattle.es6_reading.specs.Parser.{Input, Parser, next_is, word, next_word, ending, Inner, semicolon, semicolon_of_do_while}
use Rattle.es6_reading.specs.Statements.{is_whole, one_variable, variables, variables_statement, parenthesized, condition, Otherwise, with_condition, otherwise, if_statement, do_statement, while_statement}
use Rattle.es6_reading.proofs.Posts.{Holds, took, fault, bind, Misses, choose-holds, if-holds, refused-holds}
use Rattle.es6_reading.proofs.Meanings.{ending-means, do-while-ending-means, word-misses}
use Rattle.es6_reading.proofs.Spans.{Moves, Goes, stays, goes, goes-on, then-goes, ◌⟫◌, span-across}
use Rattle.es6_reading.proofs.Derived.{IsInitialized, lone_name, lone_pattern, with_initializer, InitializedIn, StatementIn, Sound, Next, next, on-means, one, on-mark, take-mark, on-word, take-word, group-holds}
use Rattle.es6_reading.proofs.SoundPatterns.{sound-initialized}

-- ## Ends of statements, and what the next token is not

pub sound-semicolon : (i : Inner) (sound : Sound i) (s : Input) → Holds (λ u c. Next IsEnd s c) (semicolon i s)
unfolding semicolon
sound-semicolon i sound s = on-means (ending false) (λ u t. IsEnd t) (λ u t h. ending-means t u h) _ _ s (λ u c h. took h)
    (λ m. choose-holds _ _ i.inserting s (λ h. absurd (true≢false (sym h ∙ sound.plain))) (λ h. refused-holds s))

sound-semicolon-of-do-while : (i : Inner) (sound : Sound i) (s : Input) → Holds (λ u c. Next IsDoWhileEnd s c) (semicolon_of_do_while i s)
unfolding semicolon_of_do_while
sound-semicolon-of-do-while i sound s = on-means (ending true) (λ u t. IsDoWhileEnd t) (λ u t h. do-while-ending-means t u h) _ _ s (λ u c h. took h)
    (λ m. choose-holds _ _ i.inserting s (λ h. absurd (true≢false (sym h ∙ sound.plain))) (λ h. refused-holds s))

pub not-word : (w : List ℕ) (ts : List Filled) → next_is (next_word w) ts ≡ false → NotWord w ts
not-word w [] h = refl
not-word w (t ∷ ts) h = h

pub misses-word : (w : List ℕ) (ts : List Filled) → Misses (word w) ts → NotWord w ts
misses-word w [] h = refl
misses-word w (t ∷ ts) h = word-misses w t h

-- ## Variables

no-default : (y : Pattern) (span : Span) (q : Part) → q ≡ roll-Part (record { span = span; pattern = y; default = None }) → is_whole (roll-Part (record { span = span; pattern = y; default = None })) ≡ false → is_whole q ≡ true → ⊥
no-default y span q e h k = true≢false (sym k ∙ ap is_whole e ∙ h)

-- what has an initializer, or is a name, is a variable
pub variable-of : (f : Flags) {ts us : List Filled} {q : Part} → IsInitialized f f ts q us → is_whole q ≡ true → IsVariable f ts q us
variable-of f (lone_name n d e) h = g.bare_variable n _ d e
variable-of f {q = q} (lone_pattern y (g.array_pattern parts y' m ds k) e) h = absurd (no-default y _ q e (rw (k, pattern.outs-ArrayPattern) refl) h)
variable-of f {q = q} (lone_pattern y (g.object_pattern parts y' m ds k) e) h = absurd (no-default y _ q e (rw (k, pattern.outs-ObjectPattern) refl) h)
variable-of f (with_initializer y value d p v e) h = g.initialized_variable y value _ d p v e

abbrev pub VariableIn : Flags → Input → Part → Input → Type 0
VariableIn f s q c = Moves s c × IsVariable f s.tokens q c.tokens

sound-variable : (f : Flags) (p : Parser Part) (sound : (s : Input) → Holds (InitializedIn f f s) (p s)) (s : Input) → Holds (VariableIn f s) (one_variable p s)
unfolding one_variable
sound-variable f p sound s = bind (sound s) λ q a d. choose-holds _ _ (is_whole q) a (λ h. took (d.0, variable-of f d.1 h)) (λ h. refused-holds a)

pub data VariablesIn (f : Flags) : Input → List Part → Input → Type 0 where
  variables_in : {s c : Input} {q : Part} {qs : List Part} → Moves s c → AreVariables f s.tokens (q ∷ qs) c.tokens → VariablesIn f s (q ∷ qs) c

pub variables-next : {f : Flags} {s a b c : Input} {q : Part} {qs : List Part} → VariableIn f s q a → Next (IsMark marks.Comma) a b → VariablesIn f b qs c → VariablesIn f s (q ∷ qs) c
variables-next (m, d) (next e) (variables_in m' ds) = variables_in (m ⟫ one ⟫ m') (g.next_variable _ _ _ d e ds)

pub variables-last : {f : Flags} {s c : Input} {q : Part} → VariableIn f s q c → VariablesIn f s (q ∷ []) c
variables-last (m, d) = variables_in m (g.last_variable _ d)

pub sound-variables : (f : Flags) (p : Parser Part) (sound : (s : Input) → Holds (InitializedIn f f s) (p s)) (turns : ℕ) (s : Input) → Holds (VariablesIn f s) (variables p turns s)
unfolding variables
sound-variables f p sound zero s = fault
sound-variables f p sound (suc turns) s = bind (sound-variable f p sound s) λ q a d. on-mark _ _ _ a
    (λ t b h. bind (sound-variables f p sound turns b) λ qs c ds. took (variables-next d h ds))
    (λ m. took (variables-last d))

-- variables and the end of their statement, after its word
pub data DeclaresIn (f : Flags) (kind : VariableKind) (s a : Input) : Statement → Input → Type 0 where
  declares : {b c : Input} {qs : List Part} → VariablesIn f a qs b → Next IsEnd b c → DeclaresIn f kind s a (stat.Variables (record { begin = begin_of s.tokens; end = c.last }) kind qs) c

pub sound-declares : (i : Inner) (sound : Sound i) (f : Flags) (kind : VariableKind) (s a : Input) → Holds (DeclaresIn f kind s a) (variables_statement i f (begin_of s.tokens) kind a)
unfolding variables_statement
sound-declares i sound f kind s a = bind (sound-variables f _ (λ b. sound-initialized i sound f f b) i.fuel a) λ qs b d. bind (sound-semicolon i sound b) λ u c e. took (declares d e)

pub var-rule : (f : Flags) {s a c : Input} {x : Statement} → Next (IsWord (codes "var")) s a → DeclaresIn f Var s a x c → StatementIn f Under s x c
var-rule f (next w) (declares {qs = qs} (variables_in m ds) (next e)) = (one ⟫ m ⟫ one, g.var _ _ w ds e (ap (λ span. stat.Variables span Var qs) (span-across (one {last = 0} ⟫ m ⟫ one))))

pub lexical-rule : (f : Flags) (kind : VariableKind) {s a c : Input} {x : Statement} → Next (λ t. IsWord (kind_word kind) t × (is_lexical kind ≡ true)) s a → DeclaresIn f kind s a x c → Moves s c × IsDeclaration f s.tokens x c.tokens
lexical-rule f kind (next w) (declares {qs = qs} (variables_in m ds) (next e)) = (one ⟫ m ⟫ one, g.lexical_declaration kind _ _ w.1 w.0 ds e (ap (λ span. stat.Variables span kind qs) (span-across (one {last = 0} ⟫ m ⟫ one))))

-- ## If

-- an expression in parentheses
pub data ParenIn (f : Flags) : Input → Expression → Input → Type 0 where
  paren : {s a b c : Input} {x : Expression} → Next (IsMark marks.LeftParenthesis) s a → Moves a b → IsExpression (with_in f) level_sequence a.tokens x b.tokens → Next (IsMark marks.RightParenthesis) b c → ParenIn f s x c

pub sound-paren : (i : Inner) (sound : Sound i) (f : Flags) (s : Input) → Holds (ParenIn f s) (parenthesized i f s)
unfolding parenthesized
sound-paren i sound f s = group-holds i _ _ _ s (λ a p. bind (sound.sequence (with_in f) a) λ x b r. bind (take-mark _ b) λ t c q. took (paren p r.moves r.derived q)) (λ m. refused-holds s)

abbrev ConditionIn : Flags → Input → Condition → Input → Type 0
ConditionIn f s x c = Moves s c × IsCondition f s.tokens x c.tokens

condition-rule : (f : Flags) {s a b c : Input} {x : Expression} {body : Statement} → Next (IsWord (codes "if")) s a → ParenIn f a x b → StatementIn f Under b body c
    → ConditionIn f s (roll-Condition (record { span = record { begin = begin_of s.tokens; end = c.last }; test = x; body = body })) c
condition-rule f {x = x} {body = body} (next w) (paren (next p) m d (next q)) (m', d') =
    (one ⟫ one ⟫ m ⟫ one ⟫ m', g.condition _ _ _ w p d q d' (ap (λ span. roll-Condition (record { span = span; test = x; body = body })) (span-across (one {last = 0} ⟫ one ⟫ m ⟫ one ⟫ m'))))

sound-condition : (i : Inner) (sound : Sound i) (f : Flags) (s : Input) → Holds (ConditionIn f s) (condition i f s)
unfolding condition
sound-condition i sound f s = bind (take-word _ s) λ t a w. bind (sound-paren i sound f a) λ x b p. bind (sound.statement f Under b) λ body c d. took (condition-rule f w p d)

-- what follows a condition, whatever condition it is
record OtherwiseIn (f : Flags) (s : Input) (r : Otherwise) (c : Input) : Type 0 where
  goes_ : Goes s c
  derived : (a : Input) (x : Condition) → ConditionIn f a x s → IsIf f a.tokens x r.more r.last c.tokens

last-else-rule : (f : Flags) {s a c : Input} {x : Statement} → Next (IsWord (codes "else")) s a → next_is (next_word (codes "if")) a.tokens ≡ false → StatementIn f Under a x c → OtherwiseIn f s (record { more = []; last = Some x }) c
last-else-rule f (next {ts = ts} e) h (m, d) = record { goes_ = goes (one ⟫ m); derived = λ b y k. g.last_else _ _ k.1 e (not-word (codes "if") ts h) d }

else-if-rule : (f : Flags) {s a b c : Input} {x : Condition} (r : Otherwise) → Next (IsWord (codes "else")) s a → ConditionIn f a x b → OtherwiseIn f b r c → OtherwiseIn f s (with_condition x r) c
else-if-rule f {a = a} {x = x} r (next e) k o = record { goes_ = goes-on (goes (one ⟫ k.0)) o.goes_; derived = λ b y k'. g.else_if _ _ _ _ k'.1 e (o.derived a x k) }

sound-otherwise : (i : Inner) (sound : Sound i) (f : Flags) (turns : ℕ) (s : Input) → Holds (OtherwiseIn f s) (otherwise i f turns s)
unfolding otherwise
sound-otherwise i sound f zero s = fault
sound-otherwise i sound f (suc turns) s = on-word _ _ _ s
    (λ t a e. if-holds _ _ _ a
    (λ h. bind (sound-condition i sound f a) λ x b k. bind (sound-otherwise i sound f turns b) λ r c o. took (else-if-rule f r e k o))
    (λ h. bind (sound.statement f Under a) λ x c d. took (last-else-rule f e h d)))
    (λ m. took (record { goes_ = stays s; derived = λ b y k. g.no_else _ k.1 (misses-word (codes "else") s.tokens m) }))

if-rule : (f : Flags) {s b c : Input} {x : Condition} (r : Otherwise) → ConditionIn f s x b → OtherwiseIn f b r c → StatementIn f Under s (stat.If (record { begin = begin_of s.tokens; end = c.last }) x r.more r.last) c
if-rule f {s = s} {x = x} r k o = (then-goes k.0 o.goes_, g.if _ _ _ _ (o.derived s x k) (ap (λ span. stat.If span x r.more r.last) (span-across (then-goes k.0 o.goes_))))

pub sound-if : (i : Inner) (sound : Sound i) (f : Flags) (s : Input) → Holds (StatementIn f Under s) (if_statement i f (begin_of s.tokens) s)
unfolding if_statement
sound-if i sound f s = bind (sound-condition i sound f s) λ x b k. bind (sound-otherwise i sound f i.fuel b) λ r c o. took (if-rule f r k o)

-- ## While

do-rule : (f : Flags) {s a b d e c : Input} {body : Statement} {x : Expression} → Next (IsWord (codes "do")) s a → StatementIn f Under a body b → Next (IsWord (codes "while")) b d → ParenIn f d x e → Next IsDoWhileEnd e c
    → StatementIn f Under s (stat.DoWhile (record { begin = begin_of s.tokens; end = c.last }) body x) c
do-rule f {body = body} {x = x} (next w) (m, d) (next u) (paren (next p) m' d' (next q)) (next e) =
    (one ⟫ m ⟫ one ⟫ one ⟫ m' ⟫ one ⟫ one, g.do_while _ _ _ w d u p d' q e (ap (λ span. stat.DoWhile span body x) (span-across (one {last = 0} ⟫ m ⟫ one ⟫ one ⟫ m' ⟫ one ⟫ one))))

pub sound-do : (i : Inner) (sound : Sound i) (f : Flags) (s a : Input) → Next (IsWord (codes "do")) s a → Holds (StatementIn f Under s) (do_statement i f (begin_of s.tokens) a)
unfolding do_statement
sound-do i sound f s a w = bind (sound.statement f Under a) λ body b d. bind (take-word _ b) λ t e u. bind (sound-paren i sound f e) λ x k p. bind (sound-semicolon-of-do-while i sound k) λ v c h. took (do-rule f w d u p h)

while-rule : (f : Flags) {s a b c : Input} {body : Statement} {x : Expression} → Next (IsWord (codes "while")) s a → ParenIn f a x b → StatementIn f Under b body c
    → StatementIn f Under s (stat.While (record { begin = begin_of s.tokens; end = c.last }) x body) c
while-rule f {body = body} {x = x} (next w) (paren (next p) m d (next q)) (m', d') =
    (one ⟫ one ⟫ m ⟫ one ⟫ m', g.while _ _ _ w p d q d' (ap (λ span. stat.While span x body) (span-across (one {last = 0} ⟫ one ⟫ m ⟫ one ⟫ m'))))

pub sound-while : (i : Inner) (sound : Sound i) (f : Flags) (s a : Input) → Next (IsWord (codes "while")) s a → Holds (StatementIn f Under s) (while_statement i f (begin_of s.tokens) a)
unfolding while_statement
sound-while i sound f s a w = bind (sound-paren i sound f a) λ x b p. bind (sound.statement f Under b) λ body c d. took (while-rule f w p d)
