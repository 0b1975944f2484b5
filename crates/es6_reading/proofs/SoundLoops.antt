-- What the readers of for statements give is derived, if the readers for one construct deeper are sound.
use Rattle.std.proofs.Common.{◌≡◌, true, false, List, [], ◌∷◌, Option, refl, sym, ap, ◌∙◌}
use Rattle.std.proofs.lemmas.Bool.{true≢false}
use Rattle.std.specs.Prelude.{codes, is_some}
use Rattle.es6_lexer.specs.declared.token.Punctuator.{Punctuator as Mark}
use Rattle.es6_lexer.specs.declared.token.Punctuator.TheVariants as marks
use Rattle.es6_ast.specs.declared.operators.AssignOperator.TheVariants as assign
use Rattle.es6_ast.specs.declared.operators.VariableKind.{VariableKind}
use Rattle.es6_ast.specs.declared.tree.Expression.{Expression}
use Rattle.es6_ast.specs.declared.tree.Statement.{Statement}
use Rattle.es6_ast.specs.declared.tree.Statement.TheVariants as stat
use Rattle.es6_ast.specs.declared.tree.ForFirst.{ForFirst}
use Rattle.es6_ast.specs.declared.tree.ForFirst.TheVariants.{NoFirst, FirstVariables, FirstExpression}
use Rattle.es6_ast.specs.declared.tree.ForTarget.{ForTarget}
use Rattle.es6_ast.specs.declared.tree.ForTarget.TheVariants.{Declared, Assigned}
use Rattle.es6_ast.specs.declared.tree.Part.{Part}
use Rattle.es6_ast.specs.declared.settings.Flags.{Flags}
use Rattle.es6_ast.specs.declared.settings.Stand.TheVariants.{Under}
use Rattle.es6_ast.specs.Tokens.{Filled, IsWord, IsMark, begin_of}
use Rattle.es6_ast.specs.Grammar as g
use Rattle.es6_ast.specs.Grammar.{with_in, without_in, level_sequence, level_assignment, kind_word, IsExpression, IsTarget, IsForFirst, IsForTarget, IsOptional}
use Rattle.es6_reading.specs.Parser.{Input, mark, Reading, is_left, Inner}
use Rattle.es6_reading.specs.Words.{kind_at}
use Rattle.es6_reading.specs.Refine.{target_before}
use Rattle.es6_reading.specs.Statements.{is_whole, Header, ForHeader, OfHeader, optional, rest_of_for, rest_of_of, first_variables, after_first_variable, after_bare_variable, for_variables, first_expression, assigned_in_turn, for_expression, for_header, loop_of, for_statement}
use Rattle.es6_reading.proofs.Posts.{Holds, took, fault, bind, weaken, choose-holds, if-holds, refused-holds}
use Rattle.es6_reading.proofs.Meanings.{kind-means}
use Rattle.es6_reading.proofs.Spans.{Moves, Goes, stays, goes, then-goes, ◌⟫◌, span-across}
use Rattle.es6_reading.proofs.Derived.{ReadWhole, IsInitialized, lone_name, lone_pattern, with_initializer, InitializedIn, StatementIn, Sound, Next, next, on-means, one, on-mark, take-mark, on-word, take-word, group-holds}
use Rattle.es6_reading.proofs.SoundPatterns.{target-to}
use Rattle.es6_reading.proofs.SoundPrimary.{refined-so}
use Rattle.es6_reading.proofs.SoundLevels.{fitting-holds}
use Rattle.es6_reading.proofs.RefineMisfits.{assigned}
use Rattle.es6_reading.proofs.SoundStatements.{variable-of, VariableIn, VariablesIn, variables_in, variables-next, variables-last, sound-variables}

-- ## What follows the first semicolon

-- an expression, if there is one, and the mark after it
data OptionalIn (f : Flags) (p : Mark) : Input → Option Expression → Input → Type 0 where
  optional_in : {s a c : Input} {x : Option Expression} → Goes s a → IsOptional f s.tokens x a.tokens → Next (IsMark p) a c → OptionalIn f p s x c

sound-optional : (i : Inner) (sound : Sound i) (f : Flags) (p : Mark) (s : Input) → Holds (OptionalIn f p s) (optional i f (mark p) s)
unfolding optional
sound-optional i sound f p s = on-mark p _ _ s (λ t c h. took (optional_in (stays s) g.absent h))
    (λ m. bind (sound.sequence (with_in f) s) λ x a r. bind (take-mark p a) λ t c h. took (optional_in (goes r.moves) (g.present x.value r.derived) h))

data HeaderIn (f : Flags) : Input → Header → Input → Type 0 where
  for_in : {s a b c : Input} {first : ForFirst} {test update : Option Expression} → Moves s a → IsForFirst f s.tokens first a.tokens → OptionalIn f marks.Semicolon a test b → OptionalIn f marks.RightParenthesis b update c → HeaderIn f s (ForHeader first test update) c
  of_in : {s a b d c : Input} {target : ForTarget} {x : Expression} → Moves s a → IsForTarget f s.tokens target a.tokens → Next (IsWord (codes "of")) a b → Moves b d → IsExpression (with_in f) level_assignment b.tokens x d.tokens → Next (IsMark marks.RightParenthesis) d c → HeaderIn f s (OfHeader target x) c

abbrev FirstIn : Flags → Input → ForFirst → Input → Type 0
FirstIn f s x c = Moves s c × IsForFirst f s.tokens x c.tokens

abbrev TurnIn : Flags → Input → ForTarget → Input → Type 0
TurnIn f s x c = Moves s c × IsForTarget f s.tokens x c.tokens

sound-rest-of-for : (i : Inner) (sound : Sound i) (f : Flags) (first : ForFirst) (s a : Input) → FirstIn f s first a → Holds (HeaderIn f s) (rest_of_for i f first a)
unfolding rest_of_for
sound-rest-of-for i sound f first s a d = bind (sound-optional i sound f marks.Semicolon a) λ test b t. bind (sound-optional i sound f marks.RightParenthesis b) λ update c u. took (for_in d.0 d.1 t u)

sound-rest-of-of : (i : Inner) (sound : Sound i) (f : Flags) (target : ForTarget) (s a b : Input) → TurnIn f s target a → Next (IsWord (codes "of")) a b → Holds (HeaderIn f s) (rest_of_of i f target b)
unfolding rest_of_of
sound-rest-of-of i sound f target s a b d w = bind (sound.assignment (with_in f) b) λ x e r. bind (take-mark _ e) λ t c q. took (of_in d.0 d.1 w r.moves r.derived q)

-- ## Variables first

abbrev IsKindWord : VariableKind → Filled → Type 0
IsKindWord kind t = IsWord (kind_word kind) t

first-none : (f : Flags) {s c : Input} → Next (IsMark marks.Semicolon) s c → FirstIn f s NoFirst c
first-none f (next e) = (one, g.nothing_first _ e refl)

first-variables : (f : Flags) (kind : VariableKind) {s a b c : Input} {qs : List Part} → Next (IsKindWord kind) s a → VariablesIn (without_in f) a qs b → Next (IsMark marks.Semicolon) b c
    → FirstIn f s (FirstVariables (record { begin = begin_of s.tokens; end = b.last }) kind qs) c
first-variables f kind (next w) (variables_in {q = q} {qs = qs} m ds) (next e) = (one ⟫ m ⟫ one, g.variables_first kind _ _ w ds e (ap (λ span. FirstVariables span kind (q ∷ qs)) (span-across (one {last = 0} ⟫ m))))

sound-first-variables : (i : Inner) (sound : Sound i) (f : Flags) (kind : VariableKind) (qs : List Part) (s a b : Input) → Next (IsKindWord kind) s a → VariablesIn (without_in f) a qs b → Holds (HeaderIn f s) (first_variables i f (begin_of s.tokens) kind qs b)
unfolding first_variables
sound-first-variables i sound f kind qs s a b w ds = bind (take-mark _ b) λ t c e. sound-rest-of-for i sound f _ s c (first-variables f kind w ds e)

sound-after-first : (i : Inner) (sound : Sound i) (f : Flags) (kind : VariableKind) (q : Part) (s a b : Input) → Next (IsKindWord kind) s a → InitializedIn (without_in f) (without_in f) a q b → Holds (HeaderIn f s) (after_first_variable i f (begin_of s.tokens) kind q b)
unfolding after_first_variable
sound-after-first i sound f kind q s a b w (m, d) = choose-holds _ _ (is_whole q) b
    (λ h. let v : VariableIn (without_in f) a q b = (m, variable-of (without_in f) d h) in
    on-mark _ _ _ b
    (λ t c k. bind (sound-variables (without_in f) _ (λ y. sound.variable (without_in f) y) i.fuel c) λ qs e ds. sound-first-variables i sound f kind (q ∷ qs) s a e w (variables-next v k ds))
    (λ k. sound-first-variables i sound f kind (q ∷ []) s a b w (variables-last v)))
    (λ h. refused-holds b)

-- what is declared and has no initializer
bare-target : (f : Flags) {ts us : List Filled} {q : Part} → IsInitialized (without_in f) (without_in f) ts q us → is_some q.default ≡ false → IsTarget f true ts q.pattern us
bare-target f (lone_name n d e) h = rw e (g.bound_name n _ d refl)
bare-target f (lone_pattern y d e) h = rw e (target-to (without_in f) f refl (g.nested_pattern y d))
bare-target f (with_initializer y value d p v e) h = absurd (true≢false (sym (ap (λ r. is_some r.default) e) ∙ h))

declared-turn : (f : Flags) (kind : VariableKind) {s a c : Input} {q : Part} → Next (IsKindWord kind) s a → InitializedIn (without_in f) (without_in f) a q c → is_some q.default ≡ false
    → TurnIn f s (Declared (record { begin = begin_of s.tokens; end = c.last }) kind q.pattern) c
declared-turn f kind {q = q} (next w) (m, d) h = (one ⟫ m, g.declared_target kind q.pattern _ w (bare-target f d h) (ap (λ span. Declared span kind q.pattern) (span-across (one {last = 0} ⟫ m))))

sound-after-bare : (i : Inner) (sound : Sound i) (f : Flags) (kind : VariableKind) (q : Part) (s a b : Input) → Next (IsKindWord kind) s a → InitializedIn (without_in f) (without_in f) a q b → is_some q.default ≡ false → Holds (HeaderIn f s) (after_bare_variable i f (begin_of s.tokens) kind q b)
unfolding after_bare_variable
sound-after-bare i sound f kind q s a b w d h = if-holds _ _ _ b (λ k. fault) (λ k. if-holds _ _ _ b
    (λ o. bind (take-word _ b) λ t c e. sound-rest-of-of i sound f _ s b c (declared-turn f kind w d h) e)
    (λ o. sound-after-first i sound f kind q s a b w d))

sound-for-variables : (i : Inner) (sound : Sound i) (f : Flags) (kind : VariableKind) (s a : Input) → Next (IsKindWord kind) s a → Holds (HeaderIn f s) (for_variables i f (begin_of s.tokens) kind a)
unfolding for_variables
sound-for-variables i sound f kind s a w = bind (sound.variable (without_in f) a) λ q b d. choose-holds _ _ (is_some q.default) b
    (λ h. sound-after-first i sound f kind q s a b w d)
    (λ h. sound-after-bare i sound f kind q s a b w d h)

-- ## An expression first

first-expression : (f : Flags) {s a c : Input} (x : Reading) → ReadWhole (without_in f) level_sequence s x a → Next (IsMark marks.Semicolon) a c → FirstIn f s (FirstExpression x.value) c
first-expression f x r (next e) = (r.moves ⟫ one, g.expression_first x.value _ r.derived e refl)

sound-first-expression : (i : Inner) (sound : Sound i) (f : Flags) (x : Reading) (s a : Input) → ReadWhole (without_in f) level_sequence s x a → Holds (HeaderIn f s) (first_expression i f x.value a)
unfolding first_expression
sound-first-expression i sound f x s a r = bind (take-mark _ a) λ t c e. sound-rest-of-for i sound f _ s c (first-expression f x r e)

sound-in-turn : (i : Inner) (sound : Sound i) (f : Flags) (x : Reading) (s a b : Input) → ReadWhole (without_in f) level_sequence s x a → is_left x.shape ≡ true → Next (IsWord (codes "of")) a b → Holds (HeaderIn f s) (assigned_in_turn i f x.value b)
unfolding assigned_in_turn
sound-in-turn i sound f x s a b r h w = fitting-holds (target_before i.fuel assign.Assign x.value) _ b
    (λ p e. sound-rest-of-of i sound f (Assigned p) s a b (r.moves, g.assigned_in_turn p _ (refined-so (assigned i.fuel (without_in f) assign.Assign s.tokens a.tokens x.value (r.left_side h)) e) refl) w)

sound-for-expression : (i : Inner) (sound : Sound i) (f : Flags) (s : Input) → Holds (HeaderIn f s) (for_expression i f s)
unfolding for_expression
sound-for-expression i sound f s = bind (sound.sequence (without_in f) s) λ x a r. choose-holds _ _ (is_left x.shape) a
    (λ h. if-holds _ _ _ a (λ k. fault) (λ k. on-word _ _ _ a (λ t b w. sound-in-turn i sound f x s a b r h w) (λ m. sound-first-expression i sound f x s a r)))
    (λ h. sound-first-expression i sound f x s a r)

-- ## For statements

sound-header : (i : Inner) (sound : Sound i) (f : Flags) (s : Input) → Holds (HeaderIn f s) (for_header i f s)
unfolding for_header
sound-header i sound f s = on-mark _ _ _ s (λ t a h. sound-rest-of-for i sound f NoFirst s a (first-none f h))
    (λ m. on-means kind_at IsKindWord kind-means _ _ s (λ kind a w. sound-for-variables i sound f kind s a w) (λ k. sound-for-expression i sound f s))

data HeaderGroup (f : Flags) : Input → Header → Input → Type 0 where
  header_group : {s a c : Input} {h : Header} → Next (IsMark marks.LeftParenthesis) s a → HeaderIn f a h c → HeaderGroup f s h c

for-rule : (f : Flags) {s a b c : Input} {h : Header} {body : Statement} → Next (IsWord (codes "for")) s a → HeaderGroup f a h b → StatementIn f Under b body c
    → StatementIn f Under s (loop_of h body (record { begin = begin_of s.tokens; end = c.last })) c
for-rule f {body = body} (next w) (header_group (next p) (for_in {first = first} {test = test} {update = update} mf df (optional_in mt dt (next e)) (optional_in mu du (next q)))) (m, d) =
    (then-goes (then-goes (one ⟫ one ⟫ mf) mt ⟫ one) mu ⟫ one ⟫ m, g.for first test update body _ w p df dt e du q d (ap (λ span. stat.For span first test update body) (span-across (then-goes (then-goes (one {last = 0} ⟫ one ⟫ mf) mt ⟫ one) mu ⟫ one ⟫ m))))
for-rule f {body = body} (next w) (header_group (next p) (of_in {target = target} {x = x} mt dt (next o) mx dx (next q))) (m, d) =
    (one ⟫ one ⟫ mt ⟫ one ⟫ mx ⟫ one ⟫ m, g.for_of target x body _ w p dt o dx q d (ap (λ span. stat.ForOf span target x body) (span-across (one {last = 0} ⟫ one ⟫ mt ⟫ one ⟫ mx ⟫ one ⟫ m))))

pub sound-for : (i : Inner) (sound : Sound i) (f : Flags) (s a : Input) → Next (IsWord (codes "for")) s a → Holds (StatementIn f Under s) (for_statement i f (begin_of s.tokens) a)
unfolding for_statement
sound-for i sound f s a w =
    bind (group-holds {Q = HeaderGroup f a} i _ _ _ a (λ b p. weaken (sound-header i sound f b) (λ h c d. header_group p d)) (λ m. refused-holds a)) λ h b d.
    bind (sound.statement f Under b) λ body c e. took (for-rule f w d e)
