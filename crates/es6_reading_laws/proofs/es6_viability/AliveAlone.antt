-- Some expression, or some statement or declaration, begins with the tokens before a fault, and with the token at which one stands for depth.
use Rattle.std.specs.Prelude.{codes}
use Rattle.std.proofs.Common.{◌≡◌, ◌∙◌, ℕ, suc, true, false, List, [], ◌∷◌, ◌++◌, map, refl, sym, ap, subst, append_assoc}
use Rattle.std.proofs.lemmas.List.{append_cancel_right, map-append}
use Rattle.es6_lexer.specs.declared.token.Token.{Token}
use Rattle.es6_lexer.specs.declared.token.TokenKind.{TokenKind}
use Rattle.es6_lexer.specs.declared.token.TokenKind.TheVariants as kinds
use Rattle.es6_lexer.specs.declared.token.Punctuator.TheVariants as marks
use Rattle.es6_ast.specs.declared.tree.Statement.{Statement}
use Rattle.es6_ast.specs.declared.settings.Stand.TheVariants.{Listed}
use Rattle.es6_ast.specs.declared.settings.Stop.{Stop}
use Rattle.es6_ast.specs.declared.settings.Stop.TheVariants.{Depth, Endless}
use Rattle.es6_ast.specs.Grammar.{level_sequence}
use Rattle.es6_ast.specs.Semicolons.{SpellsExpression, SpellsStatement}
use Rattle.es6_ast.specs.Tokens.{Filled, Read, read}
use Rattle.es6_reading.specs.Expressions.{sequence}
use Rattle.es6_reading.specs.Modules.{readers}
use Rattle.es6_reading.specs.Parser.{Outcome, Took, Fault, Reading}
use Rattle.es6_reading.specs.Statements.{statement}
use Rattle.es6_reading.proofs.Follows.{plus}
use Rattle.es6_reading.specs.Laws.{BeginWith}
use Rattle.es6_reading_laws.specs.Fronts.{EndsThere, parenthesis as ended}
use Rattle.es6_reading_laws.specs.es6_viability.Alive.{DepthFaultsBeginExpressions, DepthFaultsBeginStatements, IsBegun, TokensBeforeFaultsBeginExpressions, TokensBeforeFaultsBeginStatements}
use Rattle.es6_reading_laws.proofs.es6_viability.Completions.{Closer, parenthesis, Behind, behind_end}
use Rattle.es6_reading_laws.proofs.es6_viability.Expressions as expressions'
use Rattle.es6_reading_laws.proofs.es6_viability.Readers.{better, deepest, deepest-completed, lasting, token_at, tokens_at, tokens-of}
use Rattle.es6_reading_laws.proofs.es6_viability.SpelledAlone.{Spelled, expression-spelled, statement-spelled}
use Rattle.es6_reading_laws.proofs.es6_viability.Statements as statements'
use Rattle.es6_reading_laws.proofs.es6_viability.Viable.{put, at_place, fills, behind as behind_them, left, Any, Stays, Ends as Completed, Fresh, Half, stands, some, beyond, gives_up}

-- what ends them
abbrev end_at : ℕ → TokenKind → Filled
end_at at k = put k (at_place at)

row-of : (front : List Token) (ks : List TokenKind) (k : TokenKind) → map read front ++ (fills 0 ks ++ end_at (behind_them 0 ks) k ∷ []) ≡ map read ((front ++ tokens_at 0 ks) ++ token_at (behind_them 0 ks) k ∷ [])
row-of front ks k =
    ap (λ us. map read front ++ (us ++ end_at (behind_them 0 ks) k ∷ [])) (tokens-of 0 ks)
    ∙ sym (append_assoc (map read front) (map read (tokens_at 0 ks)) (end_at (behind_them 0 ks) k ∷ []))
    ∙ ap (λ us. us ++ end_at (behind_them 0 ks) k ∷ []) (sym (map-append read front (tokens_at 0 ks)))
    ∙ sym (map-append read (front ++ tokens_at 0 ks) (token_at (behind_them 0 ks) k ∷ []))

kind-of : {j k : TokenKind} → Read j ≡ Read k → j ≡ k
kind-of e = cc

read-same : (t u : Token) → read t ≡ read u → t ≡ u
read-same t u e =
    let kinds' : t.kind ≡ u.kind = kind-of (ap (λ x. x.kind) e) in
    let spans : t.span ≡ u.span = ap (λ x. x.span) e in
    let lines : t.newline ≡ u.newline = ap (λ x. x.newline) e in
    ap (λ k. record { kind = k; span = t.span; newline = t.newline }) kinds' ∙ ap (λ s. record { kind = u.kind; span = s; newline = t.newline }) spans ∙ ap (λ n. record { kind = u.kind; span = u.span; newline = n }) lines

head-of : {t u : Filled} {ts us : List Filled} → t ∷ ts ≡ u ∷ us → t ≡ u
head-of e = cc

nothing-there : {t : Filled} {ts : List Filled} → t ∷ ts ≡ [] → ⊥
nothing-there e = absurd (cc)

fault-rest : {A : Type 0} {stop other : Stop} {us vs : List Filled} → ◌≡◌ {A = Outcome A} (Fault stop us) (Fault other vs) → us ≡ vs
fault-rest e = cc

-- one token is left
last-left : (rest : List Token) (at : ℕ) (k : TokenKind) → end_at at k ∷ [] ≡ map read rest → rest ≡ token_at at k ∷ []
last-left [] at k e = absurd (cc)
last-left (t ∷ []) at k e = ap (λ u. u ∷ []) (read-same t (token_at at k) (sym (head-of e)))
last-left (t ∷ u ∷ rest) at k e = absurd (cc)

module _ {A : Type 0} (Spells : A → List Token → List Token → Type 0) (k : TokenKind) (run : List Filled → Outcome A) (spelled : (at : ℕ) (tokens : List Token) (x : A) (last : ℕ) → run (map read tokens) ≡ Took x (record { tokens = end_at at k ∷ []; last = last }) → Spelled (Spells x) tokens (end_at at k ∷ [])) (F : A → List Filled → Type 0) (ends : (x : A) (at : ℕ) → F x (end_at at k ∷ [])) where
  alive-with : (front : List Token) (more : List TokenKind) (x : A) (last : ℕ) → run (map read front ++ (fills 0 more ++ end_at (behind_them 0 more) k ∷ [])) ≡ Took x (record { tokens = end_at (behind_them 0 more) k ∷ []; last = last }) → IsBegun Spells front
  alive-with front more x last r =
      let at : ℕ = behind_them 0 more in
      let tokens : List Token = (front ++ tokens_at 0 more) ++ token_at at k ∷ [] in
      let s = spelled at tokens x last (ap run (sym (row-of front more k)) ∙ r) in
      record { more = tokens_at 0 more; rest = token_at at k ∷ []; value = x; spelled = subst (λ ts. Spells x ts (token_at at k ∷ [])) (append_assoc front (tokens_at 0 more) (token_at at k ∷ [])) (subst (λ ts. Spells x tokens ts) (last-left s.rest at k s.left_) s.spelled) }

  -- with what completes it
  completed : (front : List Token) (taken : List Filled) → map read front ≡ taken → Completed F Any run taken → IsBegun Spells front
  completed front taken e ends_ =
      let n = ends_ 0 in
      let end : List Filled = end_at (behind_them 0 n.more) k ∷ [] in
      alive-with front n.more n.value n.last (ap (λ us. run (us ++ (fills 0 n.more ++ end))) e ∙ n.reads end (ends n.value (behind_them 0 n.more)) refl)

  from-nothing : {S : List Filled → Type 0} (front : List Token) → map read front ≡ [] → Fresh F Any S run → IsBegun Spells front
  from-nothing front e fresh =
      let n = fresh 0 in
      let end : List Filled = end_at (behind_them 0 n.more) k ∷ [] in
      alive-with front n.more n.value n.last (ap (λ us. run (us ++ (fills 0 n.more ++ end))) e ∙ n.reads end (ends n.value (behind_them 0 n.more)) refl)

  alive-beyond : (front behind : List Token) (t : Token) (taken : List Filled) {u : Filled} {us : List Filled} → map read (front ++ t ∷ behind) ≡ taken ++ u ∷ us → u ∷ us ≡ map read (t ∷ behind) → Completed F Any run (taken ++ u ∷ []) → IsBegun Spells (front ++ t ∷ [])
  alive-beyond front behind t taken {u = u} e h more =
      let same-front : map read front ≡ taken = append_cancel_right (map read front) taken (map read (t ∷ behind)) (sym (map-append read front (t ∷ behind)) ∙ e ∙ ap (λ vs. taken ++ vs) h) in
      let row : map read (front ++ t ∷ []) ≡ taken ++ u ∷ [] = map-append read front (t ∷ []) ∙ ap (λ vs. vs ++ read t ∷ []) same-front ∙ ap (λ v. taken ++ v ∷ []) (sym (head-of h)) in
      completed (front ++ t ∷ []) (taken ++ u ∷ []) row more

  alive-seen : (front behind : List Token) (taken : List Filled) {u : Filled} {us : List Filled} → map read (front ++ behind) ≡ taken ++ u ∷ us → u ∷ us ≡ map read behind → Completed F Any run (taken ++ u ∷ []) → IsBegun Spells front
  alive-seen front [] taken e h more = absurd (nothing-there h)
  alive-seen front (t ∷ behind) taken e h more =
      let b = alive-beyond front behind t taken e h more in
      record { more = t ∷ b.more; rest = b.rest; value = b.value; spelled = subst (λ ts. Spells b.value ts b.rest) (append_assoc front (t ∷ []) (b.more ++ b.rest)) b.spelled }

  alive-by : {fuel : ℕ} {S : List Filled → Type 0} (front behind : List Token) (stop : Stop) {o : Outcome A} → (stop ≡ Endless → ⊥) → o ≡ Fault stop (map read behind) → Half (lasting true fuel) F Any run (map read (front ++ behind)) o → Fresh F Any S run → IsBegun Spells front
  alive-by front behind stop {o = o} final h (stands e t) f = from-nothing front none f
    where
      none : map read front ≡ []
      none = append_cancel_right (map read front) [] (map read behind) (sym (map-append read front behind) ∙ e ∙ ap left h)
  alive-by front behind stop {o = o} final h (some t before e l n) f = completed front (t ∷ before) whole n
    where
      whole : map read front ≡ t ∷ before
      whole = append_cancel_right (map read front) (t ∷ before) (map read behind) (sym (map-append read front behind) ∙ e ∙ ap (λ us. (t ∷ before) ++ us) (ap left h))
  alive-by front behind stop final h (beyond taken e z more) f = alive-seen front behind taken e (fault-rest h) more
  alive-by front behind stop final h (gives_up a) f = absurd (final (stop-of h))
    where
      stop-of : {us vs : List Filled} → ◌≡◌ {A = Outcome A} (Fault Endless us) (Fault stop vs) → stop ≡ Endless
      stop-of e = cc

  alive-deep : {fuel : ℕ} (front behind : List Token) (t : Token) {o : Outcome A} → o ≡ Fault Depth (map read (t ∷ behind)) → Half (deepest true fuel) F Any run (map read (front ++ t ∷ behind)) o → IsBegun Spells (front ++ t ∷ [])
  alive-deep {fuel = fuel} front behind t h (stands e l) = absurd (subst (λ o. Stays (deepest true fuel) run [] o) h l refl)
  alive-deep {fuel = fuel} front behind t h (some u before e l more) = absurd (subst (λ o. Stays (deepest true fuel) run (u ∷ before) o) h l refl)
  alive-deep front behind t h (beyond taken e z more) = alive-beyond front behind t taken e (fault-rest h) more
  alive-deep front behind t h (gives_up a) = absurd (cc)

-- one token ends what is spelled before it
abbrev Ends : {A : Type 0} → (A → List Token → List Token → Type 0) → (List Filled → Type 0) → A → List Token → List Token → Type 0
Ends Spells After x tokens rest = Spells x tokens rest × After (map read rest)

with-end : {A : Type 0} (Spells : A → List Token → List Token → Type 0) (After : List Filled → Type 0) (x : A) {tokens : List Token} {us : List Filled} → After us → Spelled (Spells x) tokens us → Spelled (Ends Spells After x) tokens us
with-end Spells After x a s = record { front = s.front; rest = s.rest; parts = s.parts; left_ = s.left_; spelled = (s.spelled, subst After s.left_ a) }

no-finally : (at : ℕ) → BeginWith (Read (kinds.Word (codes "finally"))) (end_at at kinds.End ∷ []) → ⊥
no-finally at e = absurd (cc)

pub expressions-begin : TokensBeforeFaultsBeginExpressions
expressions-begin fuel room f front behind stop h final =
    let g = expressions'.sequence (readers true fuel room) (readers true (suc fuel) (plus room 3)) (better true fuel room) f (record { tokens = map read (front ++ behind); last = 0 }) in
    let b = alive-by (Ends (λ (x : Reading) tokens rest. SpellsExpression f level_sequence tokens x.value rest) EndsThere) (kinds.Punctuator marks.RightParenthesis) (λ us. sequence (readers true (suc fuel) (plus room 3)) f (record { tokens = us; last = 0 }))
    (λ at tokens x last e. with-end (λ (y : Reading) ts rest. SpellsExpression f level_sequence ts y.value rest) EndsThere x (ended refl) (expression-spelled (suc fuel) (plus room 3) f tokens x (record { tokens = end_at at (kinds.Punctuator marks.RightParenthesis) ∷ []; last = last }) e))
    (λ x us. Closer false us) (λ x at. parenthesis) front behind stop final h g.half g.fresh in
    record { more = b.more; rest = b.rest; value = b.value.value; spelled = b.spelled }

pub statements-begin : TokensBeforeFaultsBeginStatements
statements-begin fuel room f front behind stop h final =
    let g = statements'.statement (readers true fuel room) (readers true (suc fuel) (plus room 3)) (better true fuel room) f Listed (record { tokens = map read (front ++ behind); last = 0 }) in
    alive-by (Ends (λ (x : Statement) tokens rest. SpellsStatement f tokens x rest) (λ us. BeginWith (Read (kinds.Word (codes "finally"))) us → ⊥)) kinds.End (λ us. statement (readers true (suc fuel) (plus room 3)) f Listed (record { tokens = us; last = 0 }))
    (λ at tokens x last e. with-end (λ (y : Statement) ts rest. SpellsStatement f ts y rest) (λ us. BeginWith (Read (kinds.Word (codes "finally"))) us → ⊥) x (no-finally at) (statement-spelled (suc fuel) (plus room 3) f tokens x (record { tokens = end_at at kinds.End ∷ []; last = last }) e))
    (λ x us. Behind us) (λ x at. behind_end) front behind stop final h g.half g.fresh

pub depth-begins-expressions : DepthFaultsBeginExpressions
depth-begins-expressions fuel room f front behind t h =
    let g = expressions'.sequence (readers true fuel room) (readers true (suc (suc (suc fuel))) (plus room 6)) (deepest-completed true fuel room) f (record { tokens = map read (front ++ t ∷ behind); last = 0 }) in
    let b = alive-deep (Ends (λ (x : Reading) tokens rest. SpellsExpression f level_sequence tokens x.value rest) EndsThere) (kinds.Punctuator marks.RightParenthesis) (λ us. sequence (readers true (suc (suc (suc fuel))) (plus room 6)) f (record { tokens = us; last = 0 }))
    (λ at tokens x last e. with-end (λ (y : Reading) ts rest. SpellsExpression f level_sequence ts y.value rest) EndsThere x (ended refl) (expression-spelled (suc (suc (suc fuel))) (plus room 6) f tokens x (record { tokens = end_at at (kinds.Punctuator marks.RightParenthesis) ∷ []; last = last }) e))
    (λ x us. Closer false us) (λ x at. parenthesis) front behind t h g.half in
    record { more = b.more; rest = b.rest; value = b.value.value; spelled = b.spelled }

pub depth-begins-statements : DepthFaultsBeginStatements
depth-begins-statements fuel room f front behind t h =
    let g = statements'.statement (readers true fuel room) (readers true (suc (suc (suc fuel))) (plus room 6)) (deepest-completed true fuel room) f Listed (record { tokens = map read (front ++ t ∷ behind); last = 0 }) in
    alive-deep (Ends (λ (x : Statement) tokens rest. SpellsStatement f tokens x rest) (λ us. BeginWith (Read (kinds.Word (codes "finally"))) us → ⊥)) kinds.End (λ us. statement (readers true (suc (suc (suc fuel))) (plus room 6)) f Listed (record { tokens = us; last = 0 }))
    (λ at tokens x last e. with-end (λ (y : Statement) ts rest. SpellsStatement f ts y rest) (λ us. BeginWith (Read (kinds.Word (codes "finally"))) us → ⊥) x (no-finally at) (statement-spelled (suc (suc (suc fuel))) (plus room 6) f tokens x (record { tokens = end_at at kinds.End ∷ []; last = last }) e))
    (λ x us. Behind us) (λ x at. behind_end) front behind t h g.half
