-- Labels and declarations that are derived are read exactly so, if their parts are.
use Rattle.std.proofs.Common.{◌≡◌, ℕ, Bool, true, false, List, [], ◌∷◌, Option, Some, None, refl, sym, ap, subst, ◌∙◌, arith}
use Rattle.std.proofs.lemmas.Bool.{false≢true}
use Rattle.std.specs.Prelude.{codes, is_some}
use Rattle.es_outside.specs.HostNames.{reserved_words}
use Rattle.es6_lexer.specs.declared.token.TokenKind.TheVariants as kinds
use Rattle.es6_lexer.specs.declared.token.Punctuator.TheVariants as marks
use Rattle.es6_ast.specs.declared.operators.VariableKind.{VariableKind}
use Rattle.es6_ast.specs.declared.operators.VariableKind.TheVariants.{Var, Let, Const}
use denote.Hole.Carrier as carrier
use Rattle.es6_ast.specs.declared.tree.Identifier.{Identifier}
use Rattle.es6_ast.specs.declared.tree.Expression as tree
use Rattle.es6_ast.specs.declared.tree.Expression.{Expression}
use Rattle.es6_ast.specs.declared.tree.Expression.TheVariants as expr
use Rattle.es6_ast.specs.declared.tree.Statement.{Statement}
use Rattle.es6_ast.specs.declared.tree.Statement.TheVariants as stat
use Rattle.es6_ast.specs.declared.tree.Function.{Function}
use Rattle.es6_ast.specs.declared.tree.Class.{Class}
use Rattle.es6_ast.specs.declared.settings.Flags.{Flags}
use Rattle.es6_ast.specs.declared.settings.Role.{Role}
use Rattle.es6_ast.specs.declared.settings.Role.TheVariants.{Among}
use Rattle.es6_ast.specs.declared.settings.Stand.{Stand}
use Rattle.es6_ast.specs.declared.settings.Stand.TheVariants.{Listed, Labelled}
use Rattle.es6_ast.specs.declared.settings.Shape.TheVariants.{Bare}
use Rattle.es6_ast.specs.Settings.{has_calls}
use Rattle.es6_ast.specs.Tokens.{Filled, Filling, Read, IsWord, IsMark, is_star, across, begin_of, is_identifier}
use Rattle.es6_ast.specs.Grammar as g
use Rattle.es6_ast.specs.Grammar.{IsName, NotStar, is_lexical, kind_word}
use Rattle.es6_reading.specs.Parser.{Input, Outcome, Parser, after, next_is, is_mark, mark, word, next_mark, next_word, choose, Inner}
use Rattle.es6_reading.specs.Words.{name_if, free_name, begins_operand}
use Rattle.es6_reading.specs.Expressions.{primary, head}
use Rattle.es6_reading.specs.Parts.{star, named_function, function_after_word, class_after_word}
use Rattle.es6_reading.specs.Statements.{variables_statement, labelled, label_of, label_or_end, expression_statement, function_declaration, class_declaration, labelled_function, jump_statement, compound_statement, statement}
use Rattle.es6_reading.proofs.Posts.{Misses}
use Rattle.es6_reading.proofs.Spans.{◌⟫◌, span-across}
use Rattle.es6_reading.proofs.Derived.{one}
use Rattle.es6_reading.proofs.Reading.{on-miss-is, Eventually, always, then_, both}
use Rattle.es6_reading.proofs.Exactly.{Exactly, equal, done, and_then, later, hit, miss, mark-hit}
use Rattle.es6_reading.proofs.CompleteTokens.{at-kind, no-word, name-begins, mark-miss, word-miss, closes-colon}
use Rattle.es6_reading.proofs.CompleteImports.{R}
use Rattle.es6_reading.proofs.CompleteLevels.{reading, sequence_level, Stops, LevelReads, HeadReads, head-chain, UpdateReads, chain-update, update-unary, update-power, no-unary, from-unary}
use Rattle.es6_reading.proofs.CompleteClaims.{unary-if-operand, stops-if, stand-calls}
use Rattle.es6_reading.proofs.CompletePrimary.{name-claim}
use Rattle.es6_reading.proofs.CompleteStatements.{StatementClaim, open-statement, AfterWord, word-claim}
use Rattle.es6_reading.proofs.CompletePlain.{Plain, plain-claim}

-- ## Labels (13.13)

is-free : (name : List ℕ) (t : Filled) → IsWord name t → is_identifier name ≡ true → free_name t ≡ Some name
is-free name t w i = at-kind (λ u. free_name u ≡ Some name) t _ w (ap (λ b. name_if b name) i)

-- a name is read as one that nothing stands round
pub bare-head : (f : Flags) (role : Role) {ts us : List Filled} {n : Identifier} → IsName ts n us → HeadReads f role (reading (expr.Name n.span n.name) Bare) ts us
unfolding head primary reserved_words
bare-head f role (g.name {t = t} {ts = ts} name w i j) = always (λ n k r last.
    miss (word (codes "new")) _ _ (t ∷ ts) last (other (codes "new") refl) (miss (word (codes "super")) _ _ (t ∷ ts) last (other (codes "super") refl) (miss (word (codes "this")) _ _ (t ∷ ts) last (other (codes "this") refl)
    (hit free_name _ _ t name ts last (is-free name t w i) (done (ap (λ m. reading (expr.Name m.span m.name) Bare) (sym j)) one)))))
  where
    other : (v : List ℕ) → is_some (free_name (record { kind = Read (kinds.Word v); span = t.span; newline = t.newline })) ≡ false → word v t ≡ None
    other v h = word-miss v t (no-word (λ u. is_some (free_name u)) v t (ap (λ o. is_some o) (is-free name t w i)) h)

pub name-operand : {ts us : List Filled} {n : Identifier} → IsName ts n us → next_is begins_operand ts ≡ true
name-operand (g.name {t = t} name w i j) = name-begins name t w i

stops-for : (role : Role) {us : List Filled} → Stops true us → Stops (has_calls role) us
stops-for role s = record { dot = s.dot; bracket = s.bracket; template = s.template; paren = λ e. s.paren refl }

label-sequence : (f : Flags) {c : Filled} {ts us : List Filled} {n : Identifier} → IsName ts n (c ∷ us) → IsMark marks.Colon c → LevelReads f (reading (expr.Name n.span n.name) Bare) ts (c ∷ us) sequence_level
label-sequence f {c = c} {ts = ts} {us = us} {n = n} d p =
    let o = name-operand d in
    let k = closes-colon f us c p in
    let x = reading (expr.Name n.span n.name) Bare in
    let u : (role : Role) → has_calls role ≡ true → UpdateReads f role x ts (c ∷ us) = λ role e. chain-update f role x ts (c ∷ us) (head-chain f role x ts (c ∷ us) (bare-head f role d) (stops-for role (stops-if f 0 (c ∷ us) (omega arith) k))) o (k.after (omega arith)) in
    from-unary f x ts (c ∷ us) (unary-if-operand ts o) (update-unary f x ts (c ∷ us) (u Among refl) (no-unary ts o)) (λ s role stand. update-power f role x ts (c ∷ us) (u role (stand-calls stand)) (no-unary ts o) s) 0 sequence_level k

name-label : (n : Identifier) → label_of Bare (expr.Name n.span n.name) ≡ Some n
unfolding tree.out-Expression carrier.out
name-label n = refl

label-then : {x : Statement} {s : Input} {vs : List Filled} (i : Inner) (f : Flags) (at : ℕ) (o : Option Identifier) (label : Identifier) (y : Expression) (c : Filled) (us : List Filled) (last : ℕ) → o ≡ Some label → IsMark marks.Colon c → Exactly x s vs (labelled i f at label (record { tokens = us; last = c.span.end })) → Exactly x s vs (label_or_end i f at o y (record { tokens = c ∷ us; last = last }))
label-then {x = x} {s = s} {vs = vs} i f at o label y c us last e p r = subst (λ w. Exactly x s vs (label_or_end i f at w y (record { tokens = c ∷ us; last = last }))) (sym e) (hit (mark marks.Colon) _ _ c c us last (mark-hit marks.Colon c p) r)

name-plain : (f : Flags) {ts us : List Filled} {n : Identifier} → IsName ts n us → Plain f ts
unfolding reserved_words
name-plain f (g.name {t = t} {ts = ts} name w h k) = record {
  begins_ = (name-claim f (g.name {t = t} {ts = ts} name w h k) refl).begins;
  no_brace = at-kind (λ u. next_mark marks.LeftBrace u ≡ false) t _ w refl;
  no_function = other (codes "function") refl;
  no_class = other (codes "class") refl;
}
  where
    other : (v : List ℕ) → is_some (free_name (record { kind = Read (kinds.Word v); span = t.span; newline = t.newline })) ≡ false → next_word v t ≡ false
    other v m = no-word (λ u. is_some (free_name u)) v t (ap (λ o. is_some o) (is-free name t w h)) m

pub labelled-claim : (f : Flags) (stand : Stand) {c : Filled} {ts us vs : List Filled} {label : Identifier} {body x : Statement} → IsName ts label (c ∷ us) → IsMark marks.Colon c → StatementClaim f Labelled us vs body → x ≡ stat.Labelled (across ts vs) label body → StatementClaim f stand ts vs x
unfolding expression_statement labelled
labelled-claim f stand {c = c} {ts = ts} {us = us} {vs = vs} {label = label} {body = body} d p s e = plain-claim f stand (name-plain f d) (λ q. both (label-sequence f d p) (open-statement s q) (λ n k r y z last.
    and_then _ (y last) (λ end mv. label-then (R k r) f (begin_of ts) (label_of Bare (expr.Name label.span label.name)) label (expr.Name label.span label.name) c us end (name-label label) p
    (and_then _ (later (mv ⟫ one) (z c.span.end)) (λ end' mv'. done (ap (λ v. stat.Labelled v label body) (span-across mv') ∙ sym e) mv')))))

-- ## Declarations (13.3.1, 14.1, 14.4, 14.5)

-- a function or a class, after its word, which is the first token
abbrev pub FunctionRead : Bool → Filled → List Filled → Function → List Filled → Type 0
FunctionRead lacks t ts g us = Eventually (λ n k r. (last : ℕ) → Exactly g (record { tokens = t ∷ ts; last = last }) us (function_after_word (R k r) lacks t.span.begin (record { tokens = ts; last = t.span.end })))

abbrev pub ClassRead : Flags → Bool → Filled → List Filled → Class → List Filled → Type 0
ClassRead f lacks t ts c us = Eventually (λ n k r. (last : ℕ) → Exactly c (record { tokens = t ∷ ts; last = last }) us (class_after_word (R k r) f lacks t.span.begin (record { tokens = ts; last = t.span.end })))

pub function-reads : {t : Filled} {ts us : List Filled} {h : Function} {x : Statement} → FunctionRead false t ts h us → x ≡ stat.FunctionDeclaration h → AfterWord (λ i at. function_declaration i at) t ts x us
unfolding function_declaration
function-reads d e = then_ d (λ n k r y last. and_then _ (y last) (λ end mv. done (sym e) mv))

pub class-reads : (f : Flags) {t : Filled} {ts us : List Filled} {c : Class} {x : Statement} → ClassRead f false t ts c us → x ≡ stat.ClassDeclaration c → AfterWord (λ i at. class_declaration i f at) t ts x us
unfolding class_declaration
class-reads f d e = then_ d (λ n k r y last. and_then _ (y last) (λ end mv. done (sym e) mv))

pub data DeclarationClaim (f : Flags) : List Filled → Statement → List Filled → Type 0 where
  function_claim : {t : Filled} {ts us : List Filled} {x : Statement} → IsWord (codes "function") t → AfterWord (λ i at. function_declaration i at) t ts x us → DeclarationClaim f (t ∷ ts) x us
  class_claim : {t : Filled} {ts us : List Filled} {x : Statement} → IsWord (codes "class") t → AfterWord (λ i at. class_declaration i f at) t ts x us → DeclarationClaim f (t ∷ ts) x us
  lexical_claim : {t : Filled} {ts us : List Filled} {x : Statement} (kind : VariableKind) → is_lexical kind ≡ true → IsWord (kind_word kind) t → AfterWord (λ i at. variables_statement i f at kind) t ts x us → DeclarationClaim f (t ∷ ts) x us

choose-any : {A : Type 0} (b : Bool) (p q : Parser A) (c : Input) (o : Outcome A) → p c ≡ o → q c ≡ o → choose b p q c ≡ o
choose-any true p q c o h k = h
choose-any false p q c o h k = k

pub declaration-claim : (f : Flags) {ts us : List Filled} {x : Statement} → DeclarationClaim f ts x us → StatementClaim f Listed ts us x
unfolding statement compound_statement jump_statement
declaration-claim f (function_claim w a) = word-claim f Listed (λ i at. function_declaration i at) (codes "function") w refl refl refl (λ i last. choose-any f.has_return _ _ _ _ refl refl) (λ q. a)
declaration-claim f (class_claim w a) = word-claim f Listed (λ i at. class_declaration i f at) (codes "class") w refl refl refl (λ i last. choose-any f.has_return _ _ _ _ refl refl) (λ q. a)
declaration-claim f (lexical_claim Var h w a) = absurd (false≢true h)
declaration-claim f (lexical_claim Let h w a) = word-claim f Listed (λ i at. variables_statement i f at Let) (codes "let") w refl refl refl (λ i last. choose-any f.has_return _ _ _ _ refl refl) (λ q. a)
declaration-claim f (lexical_claim Const h w a) = word-claim f Listed (λ i at. variables_statement i f at Const) (codes "const") w refl refl refl (λ i last. choose-any f.has_return _ _ _ _ refl refl) (λ q. a)

-- ## A function under a label

star-missed : (ts : List Filled) → NotStar ts → Misses (mark marks.Star) ts
star-missed [] h = tt
star-missed (t ∷ ts) h = mark-miss marks.Star t (at t.kind h)
  where
    at : (k : Filling) → is_star k ≡ false → is_mark marks.Star k ≡ false
    at (Read (kinds.Punctuator p)) h = by p h
      where
        by : (p : _) → is_star (Read (kinds.Punctuator p)) ≡ false → is_mark marks.Star (Read (kinds.Punctuator p)) ≡ false
        by marks.Star h = absurd (cc)
        by p h = refl
    at k h = refl

no-generator : (i : Inner) (at : ℕ) (ts : List Filled) (last : ℕ) → NotStar ts → function_after_word i false at (record { tokens = ts; last = last }) ≡ named_function i at false (record { tokens = ts; last = last })
unfolding function_after_word star
no-generator i at ts last h = ap (λ o. after o (λ generator. named_function i at generator)) (on-miss-is (mark marks.Star) _ _ ts last (star-missed ts h))

pub labelled-function-claim : (f : Flags) {t : Filled} {ts us : List Filled} {h : Function} {x : Statement} → IsWord (codes "function") t → NotStar ts → FunctionRead false t ts h us → x ≡ stat.FunctionDeclaration h → StatementClaim f Labelled (t ∷ ts) us x
unfolding statement compound_statement jump_statement labelled_function
labelled-function-claim f {t = t} {ts = ts} w m d e = word-claim f Labelled (λ i at. labelled_function i at) (codes "function") w refl refl refl (λ i last. choose-any f.has_return _ _ _ _ refl refl) (λ q. then_ d (λ n k r y last.
    and_then _ (equal (sym (no-generator (R k r) t.span.begin ts t.span.end m)) (y last)) (λ end mv. done (sym e) mv)))
