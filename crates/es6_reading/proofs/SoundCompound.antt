-- What the readers of jumps, switches and tries give is derived, if the readers for one construct deeper are sound.
use Rattle.std.proofs.Common.{◌≡◌, ℕ, zero, suc, Bool, true, false, ◌||◌, List, [], ◌∷◌, Option, Some, None, refl, sym, ap, subst}
use Rattle.std.specs.Prelude.{codes}
use Rattle.es6_lexer.specs.declared.token.Punctuator.TheVariants as marks
use Rattle.es6_ast.specs.declared.tree.Identifier.{Identifier}
use Rattle.es6_ast.specs.declared.tree.Expression.{Expression}
use Rattle.es6_ast.specs.declared.tree.Statement.{Statement}
use Rattle.es6_ast.specs.declared.tree.Statement.TheVariants as stat
use Rattle.es6_ast.specs.declared.tree.Pattern.{Pattern}
use Rattle.es6_ast.specs.declared.tree.Block.{Block}
use Rattle.es6_ast.specs.declared.tree.Case.{Case, roll-Case}
use Rattle.es6_ast.specs.declared.tree.Catch.{Catch, roll-Catch}
use Rattle.es6_ast.specs.declared.settings.Flags.{Flags}
use Rattle.es6_ast.specs.declared.settings.Stand.TheVariants.{Listed, Under}
use Rattle.es6_ast.specs.Tokens.{Filled, IsWord, IsMark, IsOnLine, begin_of}
use Rattle.es6_ast.specs.Grammar as g
use Rattle.es6_ast.specs.Grammar.{with_in, level_sequence, level_assignment, ends, NotBrace, NotStar, NotWord, IsEnd, IsName, IsStar, IsExpression, IsTarget, IsFunction, IsStatement, IsDeclaration, IsListed, IsLabel, IsCatch, AreCases, AreInCase}
use Rattle.es6_reading.specs.Parser.{Input, next_is, Reading, Inner, ends_block}
use Rattle.es6_reading.specs.Words.{free_name}
use Rattle.es6_reading.specs.Statements.{label_if, label_at, optional_label, continue_statement, break_statement, is_inserted, goes_on, returned, return_statement, begins_line, throw_statement, in_case, case_clause, default_clause, cases, switch_statement, catch_parameter, handler, after_handler, only_finally, try_statement, debugger_statement}
use Rattle.es6_reading.proofs.Posts.{Holds, took, fault, bind, weaken, choose-holds, if-holds, refused-holds}
use Rattle.es6_reading.proofs.Meanings.{or_false, not_true, free-name-means}
use Rattle.es6_reading.proofs.Spans.{Moves, Goes, stays, goes, goes-on, then-goes, ◌⟫◌, span-across}
use Rattle.es6_reading.proofs.Derived.{ReadWhole, BlockIn, StatementIn, Sound, Next, next, on-means, one, on-mark, take-mark, on-word, take-word, group-holds, IsFree}
use Rattle.es6_reading.proofs.SoundPatterns.{name-rule}
use Rattle.es6_reading.proofs.SoundFunctions.{sound-block}
use Rattle.es6_reading.proofs.SoundStatements.{sound-semicolon, ParenIn, paren, sound-paren}
use Rattle.es6_reading.proofs.SoundLevels.{sound-sequence}

-- ## Jumps

abbrev IsLabelToken : List ℕ → Filled → Type 0
IsLabelToken name t = (t.newline ≡ false) × IsFree name t

label-if-is : (b : Bool) (o : Option (List ℕ)) (name : List ℕ) → label_if b o ≡ Some name → (b ≡ false) × (o ≡ Some name)
label-if-is true o name h = absurd (cc)
label-if-is false o name h = (refl, h)

label-means : (name : List ℕ) (t : Filled) → label_at t ≡ Some name → IsLabelToken name t
label-means name t h = let e = label-if-is t.newline (free_name t) name h in (e.0, free-name-means name t e.1)

data LabelIn : Input → Option Identifier → Input → Type 0 where
  label_in : {s c : Input} {x : Option Identifier} → Goes s c → IsLabel s.tokens x c.tokens → LabelIn s x c

label-rule : {s c : Input} {name : List ℕ} → Next (IsLabelToken name) s c → LabelIn s (Some (record { span = record { begin = begin_of s.tokens; end = c.last }; name = name })) c
label-rule (next {t = t} {ts = ts} {last = last} e) = label_in (goes one) (g.label _ e.0 (name-rule (next {t = t} {ts = ts} {last = last} e.1)))

sound-label : (s : Input) → Holds (LabelIn s) (optional_label s)
unfolding optional_label
sound-label s = on-means label_at IsLabelToken label-means _ _ s (λ name c h. took (label-rule h)) (λ m. took (label_in (stays s) g.no_label))

continue-rule : (f : Flags) {s a b c : Input} {x : Option Identifier} → Next (IsWord (codes "continue")) s a → LabelIn a x b → Next IsEnd b c → StatementIn f Under s (stat.Continue (record { begin = begin_of s.tokens; end = c.last }) x) c
continue-rule f {x = x} (next w) (label_in m d) (next e) = (then-goes one m ⟫ one, g.continue x _ w d e (ap (λ span. stat.Continue span x) (span-across (then-goes (one {last = 0}) m ⟫ one))))

break-rule : (f : Flags) {s a b c : Input} {x : Option Identifier} → Next (IsWord (codes "break")) s a → LabelIn a x b → Next IsEnd b c → StatementIn f Under s (stat.Break (record { begin = begin_of s.tokens; end = c.last }) x) c
break-rule f {x = x} (next w) (label_in m d) (next e) = (then-goes one m ⟫ one, g.break x _ w d e (ap (λ span. stat.Break span x) (span-across (then-goes (one {last = 0}) m ⟫ one))))

pub sound-continue : (i : Inner) (sound : Sound i) (f : Flags) (s a : Input) → Next (IsWord (codes "continue")) s a → Holds (StatementIn f Under s) (continue_statement i (begin_of s.tokens) a)
unfolding continue_statement
sound-continue i sound f s a w = bind (sound-label a) λ x b d. bind (sound-semicolon i sound b) λ u c e. took (continue-rule f w d e)

pub sound-break : (i : Inner) (sound : Sound i) (f : Flags) (s a : Input) → Next (IsWord (codes "break")) s a → Holds (StatementIn f Under s) (break_statement i (begin_of s.tokens) a)
unfolding break_statement
sound-break i sound f s a w = bind (sound-label a) λ x b d. bind (sound-semicolon i sound b) λ u c e. took (break-rule f w d e)

-- a value on the line of the word before it
data ValueIn (f : Flags) : Input → Expression → Input → Type 0 where
  value_in : {u : Filled} {ts : List Filled} {last : ℕ} {x : Expression} {c : Input} → IsOnLine u → Moves (record { tokens = u ∷ ts; last = last }) c → IsExpression (with_in f) level_sequence (u ∷ ts) x c.tokens → ValueIn f (record { tokens = u ∷ ts; last = last }) x c

no-moves : {last : ℕ} {c : Input} → Moves (record { tokens = []; last = last }) c → ⊥
no-moves m = cc (m.all)

value-on-line : (f : Flags) (ts : List Filled) (last : ℕ) (x : Reading) (c : Input) → next_is begins_line ts ≡ false → ReadWhole (with_in f) level_sequence (record { tokens = ts; last = last }) x c → ValueIn f (record { tokens = ts; last = last }) x.value c
value-on-line f [] last x c h r = absurd (no-moves r.moves)
value-on-line f (u ∷ ts) last x c h r = value_in h r.moves r.derived

on-line : (ts : List Filled) → next_is goes_on ts ≡ true → next_is begins_line ts ≡ false
on-line [] h = refl
on-line (t ∷ ts) h =
    let read = or_false ((t.newline || ends false t.kind) || ends_block t.kind) (is_inserted t.kind) (not_true (((t.newline || ends false t.kind) || ends_block t.kind) || is_inserted t.kind) h) in
    (or_false t.newline (ends false t.kind) (or_false (t.newline || ends false t.kind) (ends_block t.kind) read.0).0).0

data ReturnedIn (f : Flags) : Input → Option Expression → Input → Type 0 where
  returns_nothing : {s : Input} → ReturnedIn f s None s
  returns_value : {s c : Input} {x : Expression} → ValueIn f s x c → ReturnedIn f s (Some x) c

sound-returned : (i : Inner) (sound : Sound i) (f : Flags) (s : Input) → Holds (ReturnedIn f s) (returned i f s)
unfolding returned
sound-returned i sound f s = if-holds _ _ _ s
    (λ h. bind (sound-sequence i sound (with_in f) s) λ x c r. took (returns_value (value-on-line f s.tokens s.last x c (on-line s.tokens h) r)))
    (λ h. took returns_nothing)

return-rule : (f : Flags) {s a b c : Input} {x : Option Expression} → f.has_return ≡ true → Next (IsWord (codes "return")) s a → ReturnedIn f a x b → Next IsEnd b c → StatementIn f Under s (stat.Return (record { begin = begin_of s.tokens; end = c.last }) x) c
return-rule f h (next {t = t} w) returns_nothing (next {t = u} {ts = us} e) = (one ⟫ one, g.return_bare _ h w e (ap (λ span. stat.Return span None) (span-across (one {t = t} {last = 0} ⟫ one {t = u} {ts = us}))))
return-rule f h (next w) (returns_value (value_in {x = x} l m d)) (next e) = (one ⟫ m ⟫ one, g.return_value x _ h w l d e (ap (λ span. stat.Return span (Some x)) (span-across (one {last = 0} ⟫ m ⟫ one))))

pub sound-return : (i : Inner) (sound : Sound i) (f : Flags) (s a : Input) → f.has_return ≡ true → Next (IsWord (codes "return")) s a → Holds (StatementIn f Under s) (return_statement i f (begin_of s.tokens) a)
unfolding return_statement
sound-return i sound f s a h w = bind (sound-returned i sound f a) λ x b d. bind (sound-semicolon i sound b) λ u c e. took (return-rule f h w d e)

throw-rule : (f : Flags) {s a b c : Input} {x : Expression} → Next (IsWord (codes "throw")) s a → ValueIn f a x b → Next IsEnd b c → StatementIn f Under s (stat.Throw (record { begin = begin_of s.tokens; end = c.last }) x) c
throw-rule f {x = x} (next w) (value_in l m d) (next e) = (one ⟫ m ⟫ one, g.throw x _ w l d e (ap (λ span. stat.Throw span x) (span-across (one {last = 0} ⟫ m ⟫ one))))

pub sound-throw : (i : Inner) (sound : Sound i) (f : Flags) (s a : Input) → Next (IsWord (codes "throw")) s a → Holds (StatementIn f Under s) (throw_statement i f (begin_of s.tokens) a)
unfolding throw_statement
sound-throw i sound f s a w = if-holds _ _ _ a (λ h. refused-holds a)
    (λ h. bind (sound-sequence i sound (with_in f) a) λ x b r. bind (sound-semicolon i sound b) λ u c e. took (throw-rule f w (value-on-line f a.tokens a.last x b h r) e))

debugger-rule : (f : Flags) {s a c : Input} → Next (IsWord (codes "debugger")) s a → Next IsEnd a c → StatementIn f Under s (stat.Debugger (record { begin = begin_of s.tokens; end = c.last })) c
debugger-rule f (next {t = t} w) (next {t = u} {ts = ts} e) = (one ⟫ one, g.debugger _ w e (ap (λ span. stat.Debugger span) (span-across (one {t = t} {last = 0} ⟫ one {t = u} {ts = ts}))))

pub sound-debugger : (i : Inner) (sound : Sound i) (f : Flags) (s a : Input) → Next (IsWord (codes "debugger")) s a → Holds (StatementIn f Under s) (debugger_statement i (begin_of s.tokens) a)
unfolding debugger_statement
sound-debugger i sound f s a w = bind (sound-semicolon i sound a) λ u c e. took (debugger-rule f w e)

-- ## Switch

data InCaseIn (f : Flags) : Input → List Statement → Input → Type 0 where
  in_case_of : {s c : Input} {xs : List Statement} → Goes s c → AreInCase f s.tokens xs c.tokens → InCaseIn f s xs c

in-case-next : (f : Flags) {s a c : Input} {x : Statement} {xs : List Statement} → StatementIn f Listed s x a → InCaseIn f a xs c → InCaseIn f s (x ∷ xs) c
in-case-next f (m, d) (in_case_of m' ds) = in_case_of (goes-on (goes m) m') (g.next_in_case _ _ d ds)

sound-in-case : (i : Inner) (sound : Sound i) (f : Flags) (turns : ℕ) (s : Input) → Holds (InCaseIn f s) (in_case i f turns s)
unfolding in_case
sound-in-case i sound f zero s = fault
sound-in-case i sound f (suc turns) s = if-holds _ _ _ s (λ h. took (in_case_of (stays s) g.no_more_in_case))
    (λ h. bind (sound.statement f Listed s) λ x a d. bind (sound-in-case i sound f turns a) λ xs c ds. took (in-case-next f d ds))

abbrev CasesIn : Flags → Bool → Input → List Case → Input → Type 0
CasesIn f may s xs c = Moves s c × AreCases f may s.tokens xs c.tokens

cases-none : (f : Flags) (may : Bool) {s c : Input} → Next (IsMark marks.RightBrace) s c → CasesIn f may s [] c
cases-none f may (next e) = (one, g.no_case e)

-- a clause, which others may follow; the marks say whether a default clause may come then and may stand here
data ClauseIn (f : Flags) (then_ here : Bool) : Input → Case → Input → Type 0 where
  clause : {s c : Input} {x : Case} → ((xs : List Case) (d : Input) → CasesIn f then_ c xs d → CasesIn f here s (x ∷ xs) d) → ClauseIn f then_ here s x c

clause-next : {f : Flags} {then_ here : Bool} {s a c : Input} {x : Case} {xs : List Case} → ClauseIn f then_ here s x a → CasesIn f then_ a xs c → CasesIn f here s (x ∷ xs) c
clause-next (clause h) d = h _ _ d

case-rule : (f : Flags) (may : Bool) {s a b d c : Input} (x : Reading) {ss : List Statement} → Next (IsWord (codes "case")) s a → ReadWhole (with_in f) level_sequence a x b → Next (IsMark marks.Colon) b d → InCaseIn f d ss c
    → ClauseIn f may may s (roll-Case (record { span = record { begin = begin_of s.tokens; end = c.last }; test = Some x.value; body = ss })) c
case-rule f may x {ss = ss} (next w) r (next e) (in_case_of m d) = clause (λ xs k cs. (
  then-goes (one ⟫ r.moves ⟫ one) m ⟫ cs.0,
  g.case_clause x.value ss _ xs w r.derived e d (ap (λ span. roll-Case (record { span = span; test = Some x.value; body = ss })) (span-across (then-goes (one {last = 0} ⟫ r.moves ⟫ one) m))) cs.1,
))

default-rule : (f : Flags) {s a b c : Input} {ss : List Statement} → Next (IsWord (codes "default")) s a → Next (IsMark marks.Colon) a b → InCaseIn f b ss c
    → ClauseIn f false true s (roll-Case (record { span = record { begin = begin_of s.tokens; end = c.last }; test = None; body = ss })) c
default-rule f {ss = ss} (next w) (next e) (in_case_of m d) = clause (λ xs k cs. (
  then-goes (one ⟫ one) m ⟫ cs.0,
  g.default_clause ss _ xs w e d (ap (λ span. roll-Case (record { span = span; test = None; body = ss })) (span-across (then-goes (one {last = 0} ⟫ one) m))) cs.1,
))

sound-cases : (i : Inner) (sound : Sound i) (f : Flags) (may : Bool) (turns : ℕ) (s : Input) → Holds (CasesIn f may s) (cases i f may turns s)
unfolding cases case_clause default_clause
sound-cases i sound f may zero s = fault
sound-cases i sound f may (suc turns) s = on-mark _ _ _ s (λ t c h. took (cases-none f may h)) (λ m. on-word _ _ _ s
    (λ t a w. bind (case-of a w) λ x b d. bind (sound-cases i sound f may turns b) λ xs c ds. took (clause-next d ds))
    (λ m. choose-holds _ _ may s
    (λ h. on-word _ _ _ s
    (λ t a w. bind (default-of a w) λ x b d. bind (sound-cases i sound f false turns b) λ xs c ds. took (clause-next (subst (λ y. ClauseIn f false y s x b) (sym h) d) ds))
    (λ m. refused-holds s))
    (λ h. refused-holds s)))
  where
    case-of : (a : Input) → Next (IsWord (codes "case")) s a → Holds (ClauseIn f may may s) (case_clause i f (begin_of s.tokens) a)
    case-of a w = bind (sound.sequence (with_in f) a) λ x b r. bind (take-mark _ b) λ t d e. bind (sound-in-case i sound f i.fuel d) λ ss c v. took (case-rule f may x w r e v)

    default-of : (a : Input) → Next (IsWord (codes "default")) s a → Holds (ClauseIn f false true s) (default_clause i f (begin_of s.tokens) a)
    default-of a w = bind (take-mark _ a) λ t d e. bind (sound-in-case i sound f i.fuel d) λ ss c v. took (default-rule f w e v)

data CasesGroup (f : Flags) : Input → List Case → Input → Type 0 where
  cases_group : {s a c : Input} {xs : List Case} → Next (IsMark marks.LeftBrace) s a → CasesIn f true a xs c → CasesGroup f s xs c

switch-rule : (f : Flags) {s a b c : Input} {x : Expression} {xs : List Case} → Next (IsWord (codes "switch")) s a → ParenIn f a x b → CasesGroup f b xs c
    → StatementIn f Under s (stat.Switch (record { begin = begin_of s.tokens; end = c.last }) x xs) c
switch-rule f {x = x} {xs = xs} (next w) (paren (next p) m d (next q)) (cases_group (next b) (m', d')) =
    (one ⟫ one ⟫ m ⟫ one ⟫ one ⟫ m', g.switch x xs _ w p d q b d' (ap (λ span. stat.Switch span x xs) (span-across (one {last = 0} ⟫ one ⟫ m ⟫ one ⟫ one ⟫ m'))))

pub sound-switch : (i : Inner) (sound : Sound i) (f : Flags) (s a : Input) → Next (IsWord (codes "switch")) s a → Holds (StatementIn f Under s) (switch_statement i f (begin_of s.tokens) a)
unfolding switch_statement
sound-switch i sound f s a w = bind (sound-paren i sound f a) λ x b p.
    bind (group-holds {Q = CasesGroup f b} i _ _ _ b (λ d h. weaken (sound-cases i sound f true i.fuel d) (λ xs c cs. cases_group h cs)) (λ m. refused-holds b)) λ xs c cs. took (switch-rule f w p cs)

-- ## Try

data CatchGroup (f : Flags) : Input → Pattern → Input → Type 0 where
  catch_group : {s a b c : Input} {x : Pattern} → Next (IsMark marks.LeftParenthesis) s a → Moves a b → IsTarget (with_in f) true a.tokens x b.tokens → Next (IsMark marks.RightParenthesis) b c → CatchGroup f s x c

abbrev CatchIn : Flags → Input → Catch → Input → Type 0
CatchIn f s x c = Moves s c × IsCatch f s.tokens x c.tokens

catch-rule : (f : Flags) {s a b c : Input} {x : Pattern} {body : Block} → Next (IsWord (codes "catch")) s a → CatchGroup f a x b → BlockIn f b body c
    → CatchIn f s (roll-Catch (record { span = record { begin = begin_of s.tokens; end = c.last }; parameter = x; body = body })) c
catch-rule f {x = x} {body = body} (next w) (catch_group (next p) m d (next q)) (m', d') =
    (one ⟫ one ⟫ m ⟫ one ⟫ m', g.handler x body _ w p d q d' (ap (λ span. roll-Catch (record { span = span; parameter = x; body = body })) (span-across (one {last = 0} ⟫ one ⟫ m ⟫ one ⟫ m'))))

sound-catch : (i : Inner) (sound : Sound i) (f : Flags) (s : Input) → Holds (CatchIn f s) (handler i f s)
unfolding handler catch_parameter
sound-catch i sound f s = bind (take-word _ s) λ t a w.
    bind (group-holds {Q = CatchGroup f a} i _ _ _ a (λ b p. bind (sound.target (with_in f) b) λ x c d. bind (take-mark _ c) λ u e q. took (catch_group p d.0 d.1 q)) (λ m. refused-holds a)) λ x b k.
    bind (sound-block i sound f b) λ body c d. took (catch-rule f w k d)

try-catch-rule : (f : Flags) {s a b c : Input} {x : Block} {h : Catch} → Next (IsWord (codes "try")) s a → BlockIn f a x b → CatchIn f b h c → StatementIn f Under s (stat.Try (record { begin = begin_of s.tokens; end = c.last }) x (Some h) None) c
try-catch-rule f {x = x} {h = h} (next w) (m, d) (m', d') = (one ⟫ m ⟫ m', g.try_catch x h _ w d d' (ap (λ span. stat.Try span x (Some h) None) (span-across (one {last = 0} ⟫ m ⟫ m'))))

try-finally-rule : (f : Flags) {s a b d c : Input} {x y : Block} → Next (IsWord (codes "try")) s a → BlockIn f a x b → Next (IsWord (codes "finally")) b d → BlockIn f d y c → StatementIn f Under s (stat.Try (record { begin = begin_of s.tokens; end = c.last }) x None (Some y)) c
try-finally-rule f {x = x} {y = y} (next w) (m, d) (next u) (m', d') = (one ⟫ m ⟫ one ⟫ m', g.try_finally x y _ w d u d' (ap (λ span. stat.Try span x None (Some y)) (span-across (one {last = 0} ⟫ m ⟫ one ⟫ m'))))

try-both-rule : (f : Flags) {s a b e d c : Input} {x y : Block} {h : Catch} → Next (IsWord (codes "try")) s a → BlockIn f a x b → CatchIn f b h e → Next (IsWord (codes "finally")) e d → BlockIn f d y c
    → StatementIn f Under s (stat.Try (record { begin = begin_of s.tokens; end = c.last }) x (Some h) (Some y)) c
try-both-rule f {x = x} {y = y} {h = h} (next w) (m, d) (m', d') (next u) (m'', d'') = (one ⟫ m ⟫ m' ⟫ one ⟫ m'', g.try_both x y h _ w d d' u d'' (ap (λ span. stat.Try span x (Some h) (Some y)) (span-across (one {last = 0} ⟫ m ⟫ m' ⟫ one ⟫ m''))))

pub sound-try : (i : Inner) (sound : Sound i) (f : Flags) (s a : Input) → Next (IsWord (codes "try")) s a → Holds (StatementIn f Under s) (try_statement i f (begin_of s.tokens) a)
unfolding try_statement after_handler only_finally
sound-try i sound f s a w = bind (sound-block i sound f a) λ x b d. if-holds _ _ _ b
    (λ h. bind (sound-catch i sound f b) λ k e c. on-word _ _ _ e
    (λ t j u. bind (sound-block i sound f j) λ y o z. took (try-both-rule f w d c u z))
    (λ m. took (try-catch-rule f w d c)))
    (λ h. bind (take-word _ b) λ t j u. bind (sound-block i sound f j) λ y o z. took (try-finally-rule f w d u z))
