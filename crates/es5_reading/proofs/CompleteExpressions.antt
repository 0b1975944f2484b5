-- Each production of expressions gives what is claimed of its level, if its parts do.
use Rattle.std.proofs.Common.{◌≡◌, ℕ, suc, ◌+◌, ◌-◌, ◌≤◌, Bool, true, false, ◌&&◌, cond, List, [], ◌∷◌, Option, Some, None, refl, sym, ap, subst, ◌∙◌, arith}
use Rattle.std.proofs.lemmas.Bool.{true≢false}
use Rattle.std.specs.Prelude.{codes}
use Rattle.std.specs.Str.{bytes_eq}
use Rattle.es_text.specs.declared.Span.{Span}
use Rattle.es5_ast.specs.declared.operators.UnaryOperator5.{UnaryOperator5}
use Rattle.es5_ast.specs.declared.operators.UpdateOperator5.{UpdateOperator5}
use Rattle.es5_ast.specs.declared.operators.BinaryOperator5.{BinaryOperator5}
use Rattle.es5_ast.specs.declared.operators.BinaryOperator5.TheVariants as binary
use Rattle.es5_ast.specs.declared.operators.AssignOperator5.{AssignOperator5}
use Rattle.es5_ast.specs.declared.operators.Literal5.{Literal5}
use Rattle.es5_ast.specs.declared.operators.Literal5.TheVariants as literals
use Rattle.es5_ast.specs.declared.operators.Key5.{Key5}
use Rattle.es5_ast.specs.declared.operators.Key5.TheVariants as keys
use Rattle.es5_ast.specs.declared.tree.Identifier5.{Identifier5}
use Rattle.es5_ast.specs.declared.tree.PlacedKey5.{PlacedKey5}
use Rattle.es5_ast.specs.declared.tree.Expr5.{Expr5}
use Rattle.es5_ast.specs.declared.tree.Expr5.TheVariants as expr
use Rattle.es5_ast.specs.declared.tree.Function5.{Function5}
use Rattle.es5_ast.specs.declared.tree.Element5.{Element5}
use Rattle.es5_ast.specs.declared.tree.Property5.{Property5}
use Rattle.es5_ast.specs.declared.tree.Property5.TheVariants as property
use Rattle.es5_ast.specs.declared.tree.Link5.{Link5}
use Rattle.es5_ast.specs.declared.tree.Link5.TheVariants as link
use Rattle.es5_ast.specs.declared.tree.Operand5.{Operand5, roll-Operand5}
use Rattle.es5_ast.specs.Lexical.{Token5, Kind5, Word, Integer, Text, Punctuator, is_one_of, reserved_words}
use Rattle.es5_ast.specs.Grammar as g
use Rattle.es5_ast.specs.Grammar.{Mode5, Exact, IsKey, AreOperands, IsMark, IsWord, is_mark, is_word, is_identifier, is_in, is_before, unary_kind, update_kind, assign_kind, binary_kind, binary_level, literal_kind, key_kind, chain_level, begin_of, across}
use Rattle.es5_ast.specs.Within.{Opens}
use Rattle.es5_reading.specs.Parser.{◌>>=◌, Input5, Took, next_is, returns, mark, word, next_mark, Shape5, Bare, LeftHandSide, Other, is_left, Inner5, on_group}
use Rattle.es5_reading.specs.Expressions.{name_if, any_name, free_name, accessor_at, accessor_in, accessor_word, accessor_name, accessor_of, key, function_expression, accessor, value_of_key, plain_property, after_accessor_word, one_property, properties, elements, left, grouped, bracketed, primary, after_callee, head, member_link, index_link, call_link, links, chain, postfix, prefixed, updated, unary, operands, binary_from, branches, conditional, assigned, assignment, parts, more_parts, sequence, unary_at, before_at, after_at, assign_at, binary_at}
use Rattle.es5_reading.proofs.Posts.{Misses}
use Rattle.es5_reading.proofs.Meanings.{same_bytes, some_same}
use Rattle.es5_reading.proofs.Spans.{Moves, ◌⟫◌, stays, then-goes, span-across}
use Rattle.es5_reading.proofs.Derived.{one}
use Rattle.es5_reading.proofs.Reading.{ReadsOf, reads_, Reads, Passes, reads-as, done, passes-of, placed, bind-reads, on-hit, on-miss, take-hit, if-true, if-false, choose-either, group-hit, group-miss, Eventually, always, then_, both, pair, inside_, inside-shape, map-opens, turn, once, begin}
use Rattle.es5_reading.proofs.CompleteTokens.{at-kind, not-reserved, operand_words, operand_marks, Operand, operand_name, operand_word, operand_integer, operand_text, operand_mark, First, BeginsOperand, begins_operand_at, BeginsFirst, begins_first_at, operand-no-unary, operand-no-before, Closes, closes-up, closes-any, mark-miss, word-miss, assign-hit, unary-hit, unary-first, before-hit, before-first, after-hit, update-stops, closes-assign, closes-operator, closes-question, closes-colon, closes-close, closes-square, closes-comma, binary-hit, level-high}
use Rattle.es5_reading.proofs.CompleteLevels.{R, at-fuel, at-fuel', reading, links-none, HeadReads, ChainReads, head-chain, sequence_level, assignment_level, binary_level_, from-binary, from-conditional, from-assignment, from-sequence, Claim, low-level, level-thirteen, left-conditional, left-levels, claim-primary, claim-left, claim-other}
use Rattle.es5_reading.proofs.CompleteParts.{is-mark-true, mark-hit, mark-other, take-mark, key-reads, key_of, opened, open-assignment, open-sequence, open-unary, open-callee, ElementsRead, ArgumentsClaim, arguments-reads, PropertiesRead, PropertyClaim, AccessorRead, FunctionClaim, anonymous_claim, named_claim}

-- ## Properties

no-accessor-none : (k : Key5) (t : Token5) (p : List ℕ) → t.kind ≡ key_kind k → mark p t ≡ None
no-accessor-none (keys.WordKey name) t p e = mark-miss p t (subst (λ j. is_mark p j ≡ false) (sym e) refl)
no-accessor-none (keys.TextKey units) t p e = mark-miss p t (subst (λ j. is_mark p j ≡ false) (sym e) refl)
no-accessor-none (keys.IntegerKey value) t p e = mark-miss p t (subst (λ j. is_mark p j ≡ false) (sym e) refl)

key-misses : {ts us : List Token5} {k : PlacedKey5} (p : List ℕ) → IsKey Exact ts k us → Misses (mark p) ts
key-misses {k = k} p d = subst (λ vs. Misses (mark p) vs) (sym d.first) (no-accessor-none k.key d.token p d.kind)

-- the value after a property's key and colon
abbrev ValueRead : ℕ → PlacedKey5 → List Token5 → Expr5 → List Token5 → Type 0
ValueRead n k us x vs = Eventually n (λ t f r. (s : Input5) (last : ℕ) → Moves s (record { tokens = us; last = last }) → ReadsOf (λ c. Moves s c) (property.Plain (across s.tokens vs) k x) vs (value_of_key (R f r) (begin_of s.tokens) k (record { tokens = us; last = last })))

value-reads : {n : ℕ} (k : PlacedKey5) (us : List Token5) (x : Expr5) (vs : List Token5) → Claim n false 1 us x vs → Closes false 1 vs → ValueRead n k us x vs
unfolding value_of_key
value-reads k us x vs c h = then_ (c.levels 1 assignment_level (omega arith) h) (λ t f r y s last v. bind-reads _ (y last) (λ j m. done (ap (λ z. property.Plain z k x) (span-across (v ⟫ m))) (v ⟫ m)))

-- the names of accessors before a colon are keys
accessor-word : (setter : Bool) (name : List ℕ) → accessor_word name ≡ Some setter → accessor_name setter ≡ name
accessor-word setter name h = by setter (bytes_eq name (codes "get")) (bytes_eq name (codes "set")) refl refl h
  where
    by : (setter g s : Bool) → bytes_eq name (codes "get") ≡ g → bytes_eq name (codes "set") ≡ s → cond g (Some false) (cond s (Some true) None) ≡ Some setter → accessor_name setter ≡ name
    by setter true s e q h = subst (λ b. accessor_name b ≡ name) (some_same h) (sym (same_bytes name (codes "get") e))
    by setter false true e q h = subst (λ b. accessor_name b ≡ name) (some_same h) (sym (same_bytes name (codes "set") q))
    by setter false false e q h = absurd (cc)

no-accessor-text : (setter : Bool) (t : Token5) (k : Key5) → t.kind ≡ key_kind k → accessor_in (key_kind k) ≡ Some setter → keys.WordKey (accessor_name setter) ≡ k
no-accessor-text setter t (keys.WordKey name) e h = ap (λ w. keys.WordKey w) (accessor-word setter name h)
no-accessor-text setter t (keys.TextKey units) e h = absurd (cc)
no-accessor-text setter t (keys.IntegerKey value) e h = absurd (cc)

accessor-key : (setter : Bool) (t : Token5) (k : Key5) → accessor_at t ≡ Some setter → t.kind ≡ key_kind k → keys.WordKey (accessor_name setter) ≡ k
accessor-key setter t k e h = no-accessor-text setter t k h (subst (λ j. accessor_in j ≡ Some setter) h e)

pub plain-claim : {n : ℕ} (ts : List Token5) (c : Token5) (us vs : List Token5) (k : PlacedKey5) (x : Expr5) {p : Property5} {span : Span} → p ≡ property.Plain span k x → span ≡ across ts vs → IsKey Exact ts k (c ∷ us) → IsMark (codes ":") c → Claim n false 1 us x vs → Closes false 1 vs → PropertyClaim n ts p vs
unfolding one_property after_accessor_word plain_property
plain-claim {n = n} ts c us vs k x {p = y} {span = span} e w d p h l = record {
  first = key-misses (codes "}") d;
  reads = then_ (value-reads k us x vs h l) (λ t f r z last. subst (λ q. ReadsOf (λ o. Moves (record { tokens = ts; last = last }) o) q vs (one_property (R f r) (record { tokens = ts; last = last }))) (ap (λ q. property.Plain q k x) (sym w) ∙ sym e)
      (subst (λ ws. ReadsOf (λ o. Moves (record { tokens = ws; last = last }) o) (property.Plain (across ws vs) k x) vs (one_property (R f r) (record { tokens = ws; last = last }))) (sym d.first) (at f r z last (accessor_at d.token) refl)));
}
  where
    made-key : (setter : Bool) → accessor_at d.token ≡ Some setter → key_of (across (d.token ∷ c ∷ us) (c ∷ us)) (keys.WordKey (accessor_name setter)) ≡ k
    made-key setter q = ap (λ z. key_of z (keys.WordKey (accessor_name setter))) (sym (subst (λ ws. k.span ≡ across ws (c ∷ us)) d.first d.spans)) ∙ ap (λ z. key_of k.span z) (accessor-key setter d.token k.key q d.kind)

    at : (f r : ℕ) → ((s : Input5) (last : ℕ) → Moves s (record { tokens = us; last = last }) → ReadsOf (λ o. Moves s o) (property.Plain (across s.tokens vs) k x) vs (value_of_key (R f r) (begin_of s.tokens) k (record { tokens = us; last = last })))
        → (last : ℕ) (o : Option Bool) → accessor_at d.token ≡ o → ReadsOf (λ i. Moves (record { tokens = d.token ∷ c ∷ us; last = last }) i) (property.Plain (across (d.token ∷ c ∷ us) vs) k x) vs (one_property (R f r) (record { tokens = d.token ∷ c ∷ us; last = last }))
    at f r z last (Some setter) q = on-hit accessor_at _ _ d.token setter (c ∷ us) last q (on-hit (mark (codes ":")) _ _ c c us d.token.end (mark-hit (codes ":") c p)
        (subst (λ j. ReadsOf (λ i. Moves (record { tokens = d.token ∷ c ∷ us; last = last }) i) (property.Plain (across (d.token ∷ c ∷ us) vs) k x) vs (value_of_key (R f r) d.token.begin j (record { tokens = us; last = c.end })))
        (sym (ap (λ v. key_of v (keys.WordKey (accessor_name setter))) (span-across (one {t = d.token} {ts = c ∷ us} {last = last})) ∙ made-key setter q)) (z (record { tokens = d.token ∷ c ∷ us; last = last }) c.end (one ⟫ one))))
    at f r z last None q = on-miss accessor_at _ _ (d.token ∷ c ∷ us) last q (bind-reads _ (subst (λ ws. ReadsOf (λ i. Moves (record { tokens = ws; last = last }) i) k (c ∷ us) (key (record { tokens = ws; last = last }))) d.first (key-reads d last)) (λ j m. bind-reads _ (take-mark (codes ":") c us j p) (λ i m'. z (record { tokens = d.token ∷ c ∷ us; last = last }) i (m ⟫ m'))))

accessor-hit : (setter : Bool) (t : Token5) → IsWord (accessor_name setter) t → accessor_at t ≡ Some setter
accessor-hit true t e = at-kind (λ u. accessor_at u ≡ Some true) t (Word (codes "set")) e refl
accessor-hit false t e = at-kind (λ u. accessor_at u ≡ Some false) t (Word (codes "get")) e refl

pub accessor-claim : {n : ℕ} (setter : Bool) (t : Token5) (ts us vs : List Token5) (k : PlacedKey5) (f : Function5) {p : Property5} {span : Span} → p ≡ accessor_of setter span k f → span ≡ across (t ∷ ts) vs → IsWord (accessor_name setter) t → IsKey Exact ts k us → AccessorRead n setter us f vs → PropertyClaim n (t ∷ ts) p vs
unfolding one_property after_accessor_word accessor
accessor-claim setter t ts us vs k f e q w d h = record {
  first = mark-miss (codes "}") t (subst (λ j. is_mark (codes "}") j ≡ false) (sym w) (no-brace setter));
  reads = then_ h (λ n f' r y last. on-hit accessor_at _ _ t setter ts last (accessor-hit setter t w) (on-miss (mark (codes ":")) _ _ ts t.end (key-misses (codes ":") d)
      (bind-reads _ (key-reads d t.end) (λ j m. bind-reads _ (y j) (λ i m'. done (placed (λ z. accessor_of setter z k f) (one {last = last} ⟫ m ⟫ m') e q) (one ⟫ m ⟫ m'))))));
}
  where
    no-brace : (setter : Bool) → is_mark (codes "}") (Word (accessor_name setter)) ≡ false
    no-brace setter = refl

-- ## Primary expressions

pub this-claim : {n : ℕ} (k : Bool) (t : Token5) (ts : List Token5) {x : Expr5} {span : Span} → x ≡ expr.This span → span ≡ across (t ∷ ts) ts → IsWord (codes "this") t → Claim n k 18 (t ∷ ts) x ts
unfolding head primary operand_words
this-claim k t ts {x = x} e w h = claim-primary k (t ∷ ts) x LeftHandSide ts refl (begins_operand_at (subst (λ j. Operand j) (sym h) (operand_word refl)))
    (always (λ n f r last. reads-as (at-kind (λ u. head (R f r) t.begin (record { tokens = u ∷ ts; last = last }) ≡ Took (left (expr.This (record { begin = t.begin; end = u.end }))) (record { tokens = ts; last = u.end })) t (Word (codes "this")) h refl)
    (done (ap left (placed (λ z. expr.This z) (one {t = t} {ts = ts} {last = last}) e w)) one)))

is-free : (name : List ℕ) (t : Token5) → IsWord name t → is_identifier name ≡ true → free_name t ≡ Some name
is-free name t e h = at-kind (λ u. free_name u ≡ Some name) t (Word name) e (ap (λ b. name_if b name) h)

name-head : {n : ℕ} (name : List ℕ) (t : Token5) (ts : List Token5) → IsWord name t → is_identifier name ≡ true → HeadReads n (t ∷ ts) (reading (expr.Name (across (t ∷ ts) ts) name) Bare) ts
unfolding head primary reserved_words
name-head name t ts e h = always (λ n f r last. on-miss (word (codes "new")) _ _ (t ∷ ts) last (miss (codes "new") refl) (on-miss (word (codes "this")) _ _ (t ∷ ts) last (miss (codes "this") refl) (on-hit free_name _ _ t name ts last (is-free name t e h)
    (done (ap (λ z. reading (expr.Name z name) Bare) (span-across (one {t = t} {ts = ts} {last = last}))) one))))
  where
    miss : (w : List ℕ) → is_one_of w reserved_words ≡ true → word w t ≡ None
    miss w r = word-miss w t (subst (λ j. is_word w j ≡ false) (sym e) (not-reserved name w h r))

-- an identifier is read as one that may be a label
pub name-sequence : {n : ℕ} (name : List ℕ) (t : Token5) (ts : List Token5) → IsWord name t → is_identifier name ≡ true → Closes false 0 ts → Eventually n (λ n f r. Reads (sequence (R f r) false) (reading (expr.Name (across (t ∷ ts) ts) name) Bare) (t ∷ ts) ts)
name-sequence name t ts e h c =
    let x = reading (expr.Name (across (t ∷ ts) ts) name) Bare in
    left-levels false (t ∷ ts) x ts (begins_operand_at (subst (λ j. Operand j) (sym e) (operand_name h))) (λ d b p. head-chain true (t ∷ ts) x ts (name-head name t ts e h) d b (λ q. p)) 0 sequence_level c

pub name-claim : {n : ℕ} (k : Bool) (name : List ℕ) (t : Token5) (ts : List Token5) {x : Expr5} {span : Span} → x ≡ expr.Name span name → span ≡ across (t ∷ ts) ts → IsWord name t → is_identifier name ≡ true → Claim n k 18 (t ∷ ts) x ts
name-claim {n = n} k name t ts {x = x} e v w h = claim-primary k (t ∷ ts) x Bare ts refl (begins_operand_at (subst (λ j. Operand j) (sym w) (operand_name h)))
    (subst (λ y. HeadReads n (t ∷ ts) (reading y Bare) ts) (ap (λ z. expr.Name z name) (sym v) ∙ sym e) (name-head name t ts w h))

literal-operand : (value : Literal5) → Operand (literal_kind value)
unfolding operand_words
literal-operand literals.Null = operand_word refl
literal-operand (literals.Truth true) = operand_word refl
literal-operand (literals.Truth false) = operand_word refl
literal-operand (literals.Integer value) = operand_integer
literal-operand (literals.Text units) = operand_text

literal-is : (value : Literal5) (i : Inner5) (t : Token5) (ts : List Token5) (last : ℕ) → t.kind ≡ literal_kind value → head i t.begin (record { tokens = t ∷ ts; last = last }) ≡ Took (left (expr.Literal (record { begin = t.begin; end = t.end }) value)) (record { tokens = ts; last = t.end })
unfolding head primary reserved_words
literal-is literals.Null i t ts last e = at-kind (λ u. head i u.begin (record { tokens = u ∷ ts; last = last }) ≡ Took (left (expr.Literal (record { begin = u.begin; end = u.end }) literals.Null)) (record { tokens = ts; last = u.end })) t (Word (codes "null")) e refl
literal-is (literals.Truth true) i t ts last e = at-kind (λ u. head i u.begin (record { tokens = u ∷ ts; last = last }) ≡ Took (left (expr.Literal (record { begin = u.begin; end = u.end }) (literals.Truth true))) (record { tokens = ts; last = u.end })) t (Word (codes "true")) e refl
literal-is (literals.Truth false) i t ts last e = at-kind (λ u. head i u.begin (record { tokens = u ∷ ts; last = last }) ≡ Took (left (expr.Literal (record { begin = u.begin; end = u.end }) (literals.Truth false))) (record { tokens = ts; last = u.end })) t (Word (codes "false")) e refl
literal-is (literals.Integer value) i t ts last e = at-kind (λ u. head i u.begin (record { tokens = u ∷ ts; last = last }) ≡ Took (left (expr.Literal (record { begin = u.begin; end = u.end }) (literals.Integer value))) (record { tokens = ts; last = u.end })) t (Integer value) e refl
literal-is (literals.Text units) i t ts last e = at-kind (λ u. head i u.begin (record { tokens = u ∷ ts; last = last }) ≡ Took (left (expr.Literal (record { begin = u.begin; end = u.end }) (literals.Text units))) (record { tokens = ts; last = u.end })) t (Text units) e refl

pub literal-claim : {n : ℕ} (k : Bool) (value : Literal5) (t : Token5) (ts : List Token5) {x : Expr5} {span : Span} → x ≡ expr.Literal span value → span ≡ across (t ∷ ts) ts → t.kind ≡ literal_kind value → Claim n k 18 (t ∷ ts) x ts
literal-claim k value t ts {x = x} e w h = claim-primary k (t ∷ ts) x LeftHandSide ts refl (begins_operand_at (subst (λ j. Operand j) (sym h) (literal-operand value)))
    (always (λ n f r last. reads-as (literal-is value (R f r) t ts last h) (done (ap left (placed (λ z. expr.Literal z value) (one {t = t} {ts = ts} {last = last}) e w)) one)))

square-head : (i : Inner5) (at : ℕ) (t : Token5) (ts : List Token5) (last : ℕ) → IsMark (codes "[") t → head i at (record { tokens = t ∷ ts; last = last }) ≡ bracketed i at (record { tokens = t ∷ ts; last = last })
unfolding head primary
square-head i at t ts last e = at-kind (λ u. head i at (record { tokens = u ∷ ts; last = last }) ≡ bracketed i at (record { tokens = u ∷ ts; last = last })) t (Punctuator (codes "[")) e refl

brace-head : (i : Inner5) (at : ℕ) (t : Token5) (ts : List Token5) (last : ℕ) → IsMark (codes "{") t → head i at (record { tokens = t ∷ ts; last = last }) ≡ bracketed i at (record { tokens = t ∷ ts; last = last })
unfolding head primary
brace-head i at t ts last e = at-kind (λ u. head i at (record { tokens = u ∷ ts; last = last }) ≡ bracketed i at (record { tokens = u ∷ ts; last = last })) t (Punctuator (codes "{")) e refl

paren-head : (i : Inner5) (at : ℕ) (t : Token5) (ts : List Token5) (last : ℕ) → IsMark (codes "(") t → head i at (record { tokens = t ∷ ts; last = last }) ≡ on_group i (codes "(") (grouped i) (bracketed i at) (record { tokens = t ∷ ts; last = last })
unfolding head primary
paren-head i at t ts last e = at-kind (λ u. head i at (record { tokens = u ∷ ts; last = last }) ≡ on_group i (codes "(") (grouped i) (bracketed i at) (record { tokens = u ∷ ts; last = last })) t (Punctuator (codes "(")) e refl

mark-operand : (p : List ℕ) (t : Token5) → IsMark p t → is_one_of p operand_marks ≡ true → Operand t.kind
mark-operand p t e h = subst (λ j. Operand j) (sym e) (operand_mark h)

-- a literal that nothing goes on with
pub literal-sequence : {n : ℕ} (value : Literal5) (t : Token5) (ts : List Token5) → t.kind ≡ literal_kind value → Closes false 0 ts → Eventually n (λ n f r. Reads (sequence (R f r) false) (left (expr.Literal (across (t ∷ ts) ts) value)) (t ∷ ts) ts)
literal-sequence value t ts h c =
    let x = left (expr.Literal (across (t ∷ ts) ts) value) in
    left-levels false (t ∷ ts) x ts (begins_operand_at (subst (λ j. Operand j) (sym h) (literal-operand value))) (λ d b p. head-chain true (t ∷ ts) x ts
    (always (λ n f r last. reads-as (literal-is value (R f r) t ts last h) (done (ap left (placed (λ z. expr.Literal z value) (one {t = t} {ts = ts} {last = last}) refl refl)) one))) d b (λ q. p)) 0 sequence_level c

pub array-claim : (n : ℕ) (k : Bool) (t : Token5) (ts us : List Token5) {x : Expr5} (xs : List Element5) {span : Span} → x ≡ expr.ArrayList span xs → span ≡ across (t ∷ ts) us → IsMark (codes "[") t → Opens n (λ m. ElementsRead m ts xs us) → Claim n k 18 (t ∷ ts) x us
unfolding bracketed operand_marks
array-claim n k t ts us {x = x} xs e w p h = claim-primary k (t ∷ ts) x LeftHandSide us refl (begins_operand_at (mark-operand (codes "[") t p refl))
    (inside_ n h (λ l y. both opened (begin y (λ n f r z. at-fuel (λ m. elements (R f r) m) xs ts us f r z)) (λ n f r o z last. reads-as (square-head (R f r) t.begin t ts last p)
    (group-hit (R f r) _ _ _ t ts last (is-mark-true (codes "[") t p) o (bind-reads _ (z t.end) (λ j m. done (ap left (placed (λ q. expr.ArrayList q xs) (one {last = last} ⟫ m) e w)) (one ⟫ m)))))))

pub object-claim : (n : ℕ) (k : Bool) (t : Token5) (ts us : List Token5) {x : Expr5} (xs : List Property5) {span : Span} → x ≡ expr.ObjectList span xs → span ≡ across (t ∷ ts) us → IsMark (codes "{") t → Opens n (λ m. PropertiesRead m ts xs us) → Claim n k 18 (t ∷ ts) x us
unfolding bracketed operand_marks
object-claim n k t ts us {x = x} xs e w p h = claim-primary k (t ∷ ts) x LeftHandSide us refl (begins_operand_at (mark-operand (codes "{") t p refl))
    (inside_ n h (λ l y. both opened (begin y (λ n f r z. at-fuel (λ m. properties (R f r) m) xs ts us f r z)) (λ n f r o z last. reads-as (brace-head (R f r) t.begin t ts last p)
    (group-miss (R f r) _ _ _ (t ∷ ts) last (subst (λ j. is_mark (codes "[") j ≡ false) (sym p) refl) (group-hit (R f r) _ _ _ t ts last (is-mark-true (codes "{") t p) o
    (bind-reads _ (z t.end) (λ j m. done (ap left (placed (λ q. expr.ObjectList q xs) (one {last = last} ⟫ m) e w)) (one ⟫ m))))))))

pub group-claim : (n : ℕ) (k : Bool) (t : Token5) (ts : List Token5) (c : Token5) (us : List Token5) (x : Expr5) → IsMark (codes "(") t → Opens n (λ m. Claim m false 0 ts x (c ∷ us)) → IsMark (codes ")") c → Claim n k 18 (t ∷ ts) x us
unfolding grouped operand_marks
group-claim n k t ts c us x e h p = claim-primary k (t ∷ ts) x LeftHandSide us refl (begins_operand_at (mark-operand (codes "(") t e refl))
    (inside_ n h (λ l y. both opened (open-sequence false ts (c ∷ us) y (closes-close false us c p)) (λ n f r o z last. reads-as (paren-head (R f r) t.begin t ts last e)
    (group-hit (R f r) _ _ _ t ts last (is-mark-true (codes "(") t e) o (bind-reads _ (z t.end) (λ j m. bind-reads _ (take-mark (codes ")") c us j p) (λ i m'. reads_ (one ⟫ m ⟫ m'))))))))

function-head : (i : Inner5) (at : ℕ) (t : Token5) (ts : List Token5) (last : ℕ) → IsWord (codes "function") t → head i at (record { tokens = t ∷ ts; last = last }) ≡ ◌>>=◌ (function_expression i at) (λ f. returns (left (expr.Function f))) (record { tokens = ts; last = t.end })
unfolding head primary reserved_words
function-head i at t ts last e = at-kind (λ u. head i at (record { tokens = u ∷ ts; last = last }) ≡ ◌>>=◌ (function_expression i at) (λ f. returns (left (expr.Function f))) (record { tokens = ts; last = u.end })) t (Word (codes "function")) e refl

pub function-claim : {n : ℕ} (k : Bool) {ts us : List Token5} {name : Option Identifier5} {x : Expr5} {f : Function5} → x ≡ expr.Function f → FunctionClaim n ts name f us → Claim n k 18 ts x us
unfolding function_expression operand_words
function-claim k {x = x} e (anonymous_claim {t = t} {ts = ts} {us = us} w p q h) = claim-primary k (t ∷ ts) x LeftHandSide us refl (begins_operand_at (subst (λ j. Operand j) (sym w) (operand_word refl)))
    (then_ h (λ n f r y last. reads-as (function-head (R f r) t.begin t ts last w) (bind-reads _ (if-true _ _ _ ts t.end p (y (record { tokens = t ∷ ts; last = last }) t.end None one)) (λ j m. done (ap (λ z. left (expr.Function z)) (sym q) ∙ ap left (sym e)) m))))
function-claim k {x = x} e (named_claim {t = t} {ts = ts} {us = us} {vs = vs} name w d p q h) = claim-primary k (t ∷ ts) x LeftHandSide vs refl (begins_operand_at (subst (λ j. Operand j) (sym w) (operand_word refl)))
    (then_ h (λ n f r y last. reads-as (function-head (R f r) t.begin t ts last w) (bind-reads _ (if-false _ _ _ ts t.end p (bind-reads _ (d t.end) (λ j m. y (record { tokens = t ∷ ts; last = last }) j (Some name) (one ⟫ m)))) (λ j m. done (ap (λ z. left (expr.Function z)) (sym q) ∙ ap left (sym e)) m))))

-- ## New

new-head : (i : Inner5) (at : ℕ) (t : Token5) (ts : List Token5) (last : ℕ) → IsWord (codes "new") t → head i at (record { tokens = t ∷ ts; last = last }) ≡ ◌>>=◌ i.callee (λ c. after_callee i at c.value) (record { tokens = ts; last = t.end })
unfolding head
new-head i at t ts last e = at-kind (λ u. head i at (record { tokens = u ∷ ts; last = last }) ≡ ◌>>=◌ i.callee (λ c. after_callee i at c.value) (record { tokens = ts; last = u.end })) t (Word (codes "new")) e refl

paren-none : (p : List ℕ) (t : Token5) → is_mark p (Punctuator (codes "(")) ≡ false → IsMark (codes "(") t → is_mark p t.kind ≡ false
paren-none p t h e = subst (λ j. is_mark p j ≡ false) (sym e) h

pub new-call-claim : (n : ℕ) (k : Bool) (t : Token5) (ts : List Token5) (o : Token5) (us vs : List Token5) {x : Expr5} (callee : Expr5) (xs : List Expr5) {span : Span} → x ≡ expr.New span callee xs → span ≡ across (t ∷ ts) vs → IsWord (codes "new") t → Opens n (λ m. Claim m false 17 ts callee (o ∷ us) × ArgumentsClaim m us xs vs) → IsMark (codes "(") o → Claim n k 18 (t ∷ ts) x vs
unfolding after_callee operand_words
new-call-claim n k t ts o us vs {x = x} callee xs e v w h p = claim-primary k (t ∷ ts) x LeftHandSide vs refl (begins_operand_at (subst (λ j. Operand j) (sym w) (operand_word refl)))
    (inside_ n h (λ l q. both (pair opened (open-callee ts (o ∷ us) (q.0.members (omega arith) (paren-none (codes ".") o refl p) (paren-none (codes "[") o refl p)))) (arguments-reads q.1) (λ n f r y z last. reads-as (new-head (R f r) t.begin t ts last w)
    (bind-reads _ (y.1 t.end) (λ j m. group-hit (R f r) _ _ _ o us j (is-mark-true (codes "(") o p) y.0 (bind-reads _ (z o.end) (λ i m'. done (ap left (placed (λ q'. expr.New q' callee xs) (one {last = last} ⟫ m ⟫ one ⟫ m') e v)) (one ⟫ m ⟫ one ⟫ m'))))))))

-- what is read after `new`, where no access or call follows
pub record NewClaim (n : ℕ) (ts : List Token5) (x : Expr5) (us : List Token5) : Type 0 where
  pub shape : Shape5
  pub first : BeginsOperand ts
  pub reads : next_is (next_mark (codes ".")) us ≡ false → next_is (next_mark (codes "[")) us ≡ false → next_is (next_mark (codes "(")) us ≡ false → ChainReads n false ts (reading x shape) us

new-bare-head : (n : ℕ) (t : Token5) (ts us : List Token5) {x : Expr5} (callee : Expr5) {span : Span} → x ≡ expr.New span callee [] → span ≡ across (t ∷ ts) us → IsWord (codes "new") t → Opens n (λ m. NewClaim m ts callee us) → next_is (next_mark (codes ".")) us ≡ false → next_is (next_mark (codes "[")) us ≡ false → next_is (next_mark (codes "(")) us ≡ false → HeadReads n (t ∷ ts) (reading x LeftHandSide) us
unfolding after_callee
new-bare-head n t ts us callee e v w h d b p = inside_ n h (λ l q. then_ (open-callee ts us (q.reads d b p)) (λ n f r y last. reads-as (new-head (R f r) t.begin t ts last w)
    (bind-reads _ (y t.end) (λ j m. group-miss (R f r) _ _ _ us j p (done (ap left (placed (λ q'. expr.New q' callee []) (one {last = last} ⟫ m) e v)) (one ⟫ m))))))

pub new-bare-claim : (n : ℕ) (k : Bool) (t : Token5) (ts us : List Token5) {x : Expr5} (callee : Expr5) {span : Span} → x ≡ expr.New span callee [] → span ≡ across (t ∷ ts) us → IsWord (codes "new") t → Opens n (λ m. NewClaim m ts callee us) → Claim n k 15 (t ∷ ts) x us
unfolding operand_words
new-bare-claim n k t ts us {x = x} callee e v w h = claim-left k 15 (t ∷ ts) x us (omega arith) (begins_operand_at (subst (λ j. Operand j) (sym w) (operand_word refl)))
    (λ d b p. head-chain true (t ∷ ts) (reading x LeftHandSide) us (new-bare-head n t ts us callee e v w h d b p) d b (λ q. p)) (λ l. absurd (no-fifteen l))
  where
    no-fifteen : 17 ≤ 15 → ⊥
    no-fifteen l = omega arith

pub new-bare-new : (n : ℕ) (t : Token5) (ts us : List Token5) {x : Expr5} (callee : Expr5) {span : Span} → x ≡ expr.New span callee [] → span ≡ across (t ∷ ts) us → IsWord (codes "new") t → Opens n (λ m. NewClaim m ts callee us) → NewClaim n (t ∷ ts) x us
unfolding operand_words
new-bare-new n t ts us {x = x} callee e v w h = record {
  shape = LeftHandSide;
  first = begins_operand_at (subst (λ j. Operand j) (sym w) (operand_word refl));
  reads = λ d b p. head-chain false (t ∷ ts) (reading x LeftHandSide) us (new-bare-head n t ts us callee e v w h d b p) d b (λ q. p);
}

pub member-new : {n : ℕ} {ts us : List Token5} {x : Expr5} → Claim n false 17 ts x us → NewClaim n ts x us
member-new x = record { shape = x.shape; first = x.operand (omega arith); reads = λ d b p. x.members (omega arith) d b }

-- ## Accesses and calls

-- the links are read by a reader that takes calls where there are some
abbrev pub LinksClaim : ℕ → Bool → List Token5 → List Link5 → List Token5 → Type 0
LinksClaim n has_call ts ls us = next_is (next_mark (codes ".")) us ≡ false → next_is (next_mark (codes "[")) us ≡ false → (c : Bool) → (has_call ≡ true → c ≡ true) → (c ≡ true → next_is (next_mark (codes "(")) us ≡ false)
    → Eventually n (λ t f r. Passes (links (R f r) c t) ls ts us)

any-name-hit : (name : List ℕ) (t : Token5) → IsWord name t → any_name t ≡ Some name
any-name-hit name t e = at-kind (λ u. any_name u ≡ Some name) t (Word name) e refl

pub no-links : {n : ℕ} (us : List Token5) → LinksClaim n false us [] us
no-links us d b c h p = links-none c us d b p

pub member-links : {n : ℕ} (has_call : Bool) (name : List ℕ) (dot t : Token5) (ts us : List Token5) {l : Link5} (ls : List Link5) {span : Span} → l ≡ link.Member span name → span ≡ across (dot ∷ t ∷ ts) ts → IsMark (codes ".") dot → IsWord name t → LinksClaim n has_call ts ls us → LinksClaim n has_call (dot ∷ t ∷ ts) (l ∷ ls) us
unfolding links member_link
member-links has_call name dot t ts us {l = l} ls e v p w x d b c h q = turn (x d b c h q) (λ n f r y last. passes-of (on-hit (mark (codes ".")) _ _ dot dot (t ∷ ts) last (mark-hit (codes ".") dot p)
    (bind-reads {x = l} {M = λ i. Moves (record { tokens = dot ∷ t ∷ ts; last = last }) i} _ (bind-reads _ (take-hit any_name t name ts dot.end (any-name-hit name t w)) (λ j m. done (placed (λ z. link.Member z name) (one {last = last} ⟫ m) e v) (one ⟫ m)))
    (λ j m. bind-reads _ (y j) (λ i g. reads_ (then-goes m g))))))

pub index-links : (n : ℕ) (has_call : Bool) (o : Token5) (ts : List Token5) (c : Token5) (us vs : List Token5) {l : Link5} (index : Expr5) (ls : List Link5) {span : Span} → l ≡ link.Index span index → span ≡ across (o ∷ ts) us → IsMark (codes "[") o → Opens n (λ m. Claim m false 0 ts index (c ∷ us)) → IsMark (codes "]") c → LinksClaim n has_call us ls vs → LinksClaim n has_call (o ∷ ts) (l ∷ ls) vs
unfolding links index_link
index-links n has_call o ts c us vs {l = l} index ls e v p i q x d b k h m =
    let read = inside-shape (λ s t f r. ((R f r).may_open ≡ true) × Reads ((R f r).sequence false) (reading index s) ts (c ∷ us)) n i (λ n' a. (a.shape, pair opened (open-sequence false ts (c ∷ us) a (closes-square false us c q)))) in
    turn (pair read.1 (x d b k h m)) (λ n f r y last.
    passes-of (on-miss (mark (codes ".")) _ _ (o ∷ ts) last (mark-other (codes ".") (codes "[") o refl p) (group-hit (R f r) _ _ _ o ts last (is-mark-true (codes "[") o p) y.0.0
    (bind-reads {x = l} {M = λ z. Moves (record { tokens = o ∷ ts; last = last }) z} _ (bind-reads _ (y.0.1 o.end) (λ j a. bind-reads _ (take-mark (codes "]") c us j q) (λ w a'. done (placed (λ z. link.Index z index) (one {last = last} ⟫ a ⟫ a') e v) (one ⟫ a ⟫ a'))))
    (λ j a. bind-reads _ (y.1 j) (λ w g. reads_ (then-goes a g)))))))

pub call-links : (n : ℕ) (o : Token5) (ts us vs : List Token5) {l : Link5} (xs : List Expr5) (ls : List Link5) {span : Span} → l ≡ link.Call span xs None → span ≡ across (o ∷ ts) us → IsMark (codes "(") o → Opens n (λ m. ArgumentsClaim m ts xs us) → (has_call : Bool) → LinksClaim n has_call us ls vs → LinksClaim n true (o ∷ ts) (l ∷ ls) vs
unfolding links call_link
call-links n o ts us vs {l = l} xs ls e v p i has_call x d b k h m = turn (pair (inside_ n i (λ n' a. pair opened (arguments-reads a))) (x d b k (λ e'. h refl) m)) (λ n f r y last.
    passes-of (on-miss (mark (codes ".")) _ _ (o ∷ ts) last (mark-other (codes ".") (codes "(") o refl p) (group-miss (R f r) _ _ _ (o ∷ ts) last (subst (λ j. is_mark (codes "[") j ≡ false) (sym p) refl)
    (choose-either k _ _ (record { tokens = o ∷ ts; last = last })
    (λ e'. group-hit (R f r) _ _ _ o ts last (is-mark-true (codes "(") o p) y.0.0 (bind-reads {x = l} {M = λ z. Moves (record { tokens = o ∷ ts; last = last }) z} _ (bind-reads _ (y.0.1 o.end) (λ j a. done (placed (λ z. link.Call z xs None) (one {last = last} ⟫ a) e v) (one ⟫ a)))
    (λ j a. bind-reads _ (y.1 j) (λ w g. reads_ (then-goes a g)))))
    (λ e'. absurd (true≢false (sym (h refl) ∙ e')))))))

chain-reads : {n : ℕ} (c : Bool) (ts us vs : List Token5) {x : Expr5} (h : Expr5) (shape : Shape5) (l : Link5) (ls : List Link5) {span : Span} → x ≡ expr.Chain span h (l ∷ ls) → span ≡ across ts vs → HeadReads n ts (reading h shape) us → Eventually n (λ t f r. Passes (links (R f r) c t) (l ∷ ls) us vs) → ChainReads n c ts (reading x LeftHandSide) vs
unfolding chain
chain-reads c ts us vs h shape l ls e v y z = both y (begin z (λ n f r y'. at-fuel' (λ m. links (R f r) c m) (l ∷ ls) us vs f r y')) (λ n f r a b last.
    bind-reads _ (a last) (λ j m. bind-reads _ (b j) (λ i g. done (ap left (placed (λ q. expr.Chain q h (l ∷ ls)) (then-goes m g) e v)) (then-goes m g))))

chain-low : (c : Bool) → chain_level c ≤ 17
chain-low true = omega arith
chain-low false = omega arith

chain-seventeen : (c : Bool) → 17 ≤ chain_level c → c ≡ true → false ≡ true
chain-seventeen true l e = absurd (none l)
  where
    none : 17 ≤ 16 → ⊥
    none l = omega arith
chain-seventeen false l e = e

pub chain-claim : {n : ℕ} (k has_call : Bool) (ts us vs : List Token5) {x : Expr5} (h : Expr5) (l : Link5) (ls : List Link5) {span : Span} → x ≡ expr.Chain span h (l ∷ ls) → span ≡ across ts vs → Claim n false 18 ts h us → LinksClaim n has_call us (l ∷ ls) vs → Claim n k (chain_level has_call) ts x vs
chain-claim k has_call ts us vs {x = x} h l ls e v c y = claim-left k (chain_level has_call) ts x vs (chain-low has_call) (c.operand (omega arith))
    (λ d b p. chain-reads true ts us vs h c.shape l ls e v (c.heads (omega arith)) (y d b true (λ e'. refl) (λ e'. p)))
    (λ low d b. chain-reads false ts us vs h c.shape l ls e v (c.heads (omega arith)) (y d b false (chain-seventeen has_call low) (λ e'. absurd (cc))))

-- ## Operators

operator-first : (t : Token5) (ts : List Token5) (k : Kind5) → t.kind ≡ k → First k → BeginsFirst (t ∷ ts)
operator-first t ts k e h = begins_first_at (subst (λ j. First j) (sym e) h)

pub unary-claim : (n : ℕ) (k : Bool) (op : UnaryOperator5) (t : Token5) (ts us : List Token5) {x : Expr5} (operand : Expr5) {span : Span} → x ≡ expr.Unary span op operand → span ≡ across (t ∷ ts) us → t.kind ≡ unary_kind op → Opens n (λ m. Claim m false 13 ts operand us) → Claim n k 13 (t ∷ ts) x us
unfolding binary_from unary prefixed
unary-claim n k op t ts us {x = x} operand e' w e h = claim-other k 13 (t ∷ ts) x us (omega arith) (operator-first t ts (unary_kind op) e (unary-first op)) (λ least v l c.
    from-binary 0 13 k (reading x Other) (t ∷ ts) us refl (omega arith) (inside_ n h (λ n' y. then_ (open-unary ts us y (closes-any k false 13 us (omega arith) (closes-up k least 13 us l c)))
    (λ n f r z last. on-hit unary_at _ _ t op ts last (unary-hit t op e) (bind-reads _ (z t.end) (λ j m. done (ap (λ q. reading q Other) (placed (λ q. expr.Unary q op operand) (one {last = last} ⟫ m) e' w)) (one ⟫ m)))))) least v l c)

pub before-claim : (n : ℕ) (k : Bool) (op : UpdateOperator5) (t : Token5) (ts us : List Token5) {x : Expr5} (target : Expr5) {span : Span} → x ≡ expr.Update span op target → span ≡ across (t ∷ ts) us → is_before op ≡ true → t.kind ≡ update_kind op → Opens n (λ m. Claim m false 13 ts target us) → Claim n k 13 (t ∷ ts) x us
unfolding binary_from unary updated
before-claim n k op t ts us {x = x} target e' w b e h = claim-other k 13 (t ∷ ts) x us (omega arith) (operator-first t ts (update_kind op) e (before-first op)) (λ least v l c.
    from-binary 0 13 k (reading x Other) (t ∷ ts) us refl (omega arith) (inside_ n h (λ n' y. then_ (open-unary ts us y (closes-any k false 13 us (omega arith) (closes-up k least 13 us l c)))
    (λ n f r z last. on-miss unary_at _ _ (t ∷ ts) last (before-hit t op b e).0 (on-hit before_at _ _ t op ts last (before-hit t op b e).1 (bind-reads _ (z t.end) (λ j m. done (ap (λ q. reading q Other) (placed (λ q. expr.Update q op target) (one {last = last} ⟫ m) e' w)) (one ⟫ m))))))) least v l c)

after-reads : {n : ℕ} (op : UpdateOperator5) (t : Token5) (ts us : List Token5) {x : Expr5} (target : Expr5) (shape : Shape5) {span : Span} → x ≡ expr.Update span op target → span ≡ across ts us → is_before op ≡ false → t.after_line ≡ false → t.kind ≡ update_kind op → BeginsOperand ts → ChainReads n true ts (reading target shape) (t ∷ us) → Eventually n (λ n f r. Reads (unary (R f r)) (reading x Other) ts us)
unfolding unary postfix
after-reads op t ts us target shape e' w b a e (begins_operand_at {t = u} {ts = vs} o) h = then_ h (λ n f r y last.
    on-miss unary_at _ _ (u ∷ vs) last (operand-no-unary u o) (on-miss before_at _ _ (u ∷ vs) last (operand-no-before u o)
    (bind-reads _ (y last) (λ j m. on-hit after_at _ _ t op us j (after-hit t op b a e) (done (ap (λ q. reading q Other) (placed (λ q. expr.Update q op target) (m ⟫ one) e' w)) (m ⟫ one))))))

pub after-claim : {n : ℕ} (k : Bool) (op : UpdateOperator5) (ts : List Token5) (t : Token5) (us : List Token5) {x : Expr5} (target : Expr5) {span : Span} → x ≡ expr.Update span op target → span ≡ across ts us → is_before op ≡ false → Claim n false 15 ts target (t ∷ us) → t.kind ≡ update_kind op → t.after_line ≡ false → Claim n k 14 ts x us
unfolding binary_from
after-claim k op ts t us {x = y} target e' w b x e a =
    let s = update-stops t op e in
    claim-other k 14 ts y us (omega arith) x.first (λ least v l c. from-binary 0 13 k (reading y Other) ts us refl (omega arith) (after-reads op t ts us target x.shape e' w b a e (x.operand (omega arith)) (x.chains (omega arith) s.0 s.1 s.2)) least v (level-thirteen v) c)

-- ## Binary operators

abbrev pub OperandsClaim : ℕ → Bool → ℕ → List Token5 → List Operand5 → List Token5 → Type 0
OperandsClaim n k level ts os us = (above : ℕ) → above + (level + 1) ≡ 13 → 3 ≤ level → Closes k level us → Eventually n (λ t f r. Passes (operands (binary_from (R f r) k above (level + 1)) k level t) os ts us)

operands-end : {n : ℕ} (k : Bool) (level : ℕ) (us : List Token5) → (above : ℕ) → level ≤ 12 → Closes k level us → Eventually n (λ t f r. Passes (operands (binary_from (R f r) k above (level + 1)) k level t) [] us us)
unfolding operands
operands-end k level us above h c = once (λ t f r last. on-miss (binary_at k level) _ _ us last (c.operator level (self level) h) (reads_ (stays _)))
  where
    self : (n : ℕ) → n ≤ n
    self n = omega arith

low-twelve : (above level : ℕ) → above + (level + 1) ≡ 13 → level ≤ 12
low-twelve above level e = omega arith

pub no-operands : {n : ℕ} (k : Bool) (level : ℕ) (us : List Token5) → OperandsClaim n k level us [] us
no-operands k level us above e h c = operands-end k level us above (low-twelve above level e) c

more-three : (level : ℕ) → 3 ≤ level → 3 ≤ level + 1
more-three level h = omega arith

same-level : (level : ℕ) → level + 1 ≤ level + 1
same-level level = omega arith

pub operand-claim : {n : ℕ} (k : Bool) (level : ℕ) (op : BinaryOperator5) (t : Token5) (ts us vs : List Token5) (value : Expr5) {x : Operand5} (os : List Operand5) → x ≡ roll-Operand5 (record { operator = op; value = value }) → binary_level op ≡ level → (k && is_in op) ≡ false → t.kind ≡ binary_kind op → Claim n k (level + 1) ts value us → (Closes k level vs → Closes k (level + 1) us) → OperandsClaim n k level us os vs → OperandsClaim n k level (t ∷ ts) (x ∷ os) vs
unfolding operands
operand-claim k level op t ts us vs value os e' b n e x f o above s h c = turn (pair (x.levels (level + 1) (binary_level_ above s (more-three level h)) (same-level level) (f c)) (o above s h c)) (λ m f' r y last.
    passes-of (on-hit (binary_at k level) _ _ t op ts last (binary-hit k level t op e b n) (bind-reads _ (y.0 t.end) (λ j a. bind-reads _ (y.1 j) (λ i g. done (ap (λ q. q ∷ os) (sym e')) (then-goes (one ⟫ a) g))))))

pub operands-close : {mode : Mode5} {k : Bool} {level : ℕ} {us vs : List Token5} {os : _} → AreOperands mode k level us os vs → Closes k level vs → Closes k (level + 1) us
operands-close (g.no_operand {no_in = k} {level = level} {ts = ts}) c = closes-up k level (level + 1) ts (next-up level) c
  where
    next-up : (n : ℕ) → n ≤ n + 1
    next-up n = omega arith
operands-close (g.next_operand {no_in = k} {level = level} {t = t} {ts = ts} op value e b n d x os) c = closes-operator k ts t op level d b

level-low : (op : BinaryOperator5) → 3 ≤ binary_level op
level-low binary.Or = omega arith
level-low binary.And = omega arith
level-low binary.BitOr = omega arith
level-low binary.BitXor = omega arith
level-low binary.BitAnd = omega arith
level-low binary.Equal = omega arith
level-low binary.NotEqual = omega arith
level-low binary.Same = omega arith
level-low binary.NotSame = omega arith
level-low binary.Less = omega arith
level-low binary.Greater = omega arith
level-low binary.AtMost = omega arith
level-low binary.AtLeast = omega arith
level-low binary.InstanceOf = omega arith
level-low binary.In = omega arith
level-low binary.ShiftLeft = omega arith
level-low binary.ShiftRight = omega arith
level-low binary.ShiftRightUnsigned = omega arith
level-low binary.Add = omega arith
level-low binary.Subtract = omega arith
level-low binary.Multiply = omega arith
level-low binary.Divide = omega arith
level-low binary.Remainder = omega arith

-- where there is an operand, its operator's level is one of binary operators
pub operands-level : {mode : Mode5} {k : Bool} {level : ℕ} {us vs : List Token5} {o : _} {os : _} → AreOperands mode k level us (o ∷ os) vs → (3 ≤ level) × (level ≤ 12)
operands-level (g.next_operand op value e b n d x os) = (subst (λ l. 3 ≤ l) b (level-low op), subst (λ l. l ≤ 12) b (level-high op))

sum-above : (level : ℕ) → level ≤ 12 → (above : ℕ) × (above + (level + 1) ≡ 13)
sum-above level h = (12 - level, at level h)
  where
    at : (level : ℕ) → level ≤ 12 → (12 - level) + (level + 1) ≡ 13
    at level h = omega arith

pub binary-claim : {n : ℕ} (k : Bool) (level : ℕ) (ts us vs : List Token5) {y : Expr5} (first : Expr5) (o : Operand5) (os : List Operand5) {span : Span} → y ≡ expr.Binary span first (o ∷ os) → span ≡ across ts vs → Claim n k (level + 1) ts first us → (Closes k level vs → Closes k (level + 1) us) → OperandsClaim n k level us (o ∷ os) vs → (3 ≤ level) × (level ≤ 12) → Claim n k level ts y vs
unfolding binary_from
binary-claim k level ts us vs {y = y} first o os e w x f c' h = claim-other k level ts y vs (fourteen level h.1) x.first (λ least v l c.
    let a = sum-above level h.1 in
    from-binary (suc a.0) level k (reading y Other) ts vs (plus-one a.0 level a.1) h.0
    (both (x.levels (level + 1) (binary_level_ a.0 a.1 (more-three level h.0)) (same-level level) (f (closes-up k least level vs l c)))
    (begin (c' a.0 a.1 h.0 (closes-up k least level vs l c)) (λ n f' r z. at-fuel' (λ m. operands (binary_from (R f' r) k a.0 (level + 1)) k level m) (o ∷ os) us vs f' r z))
    (λ n f' r z z' last. bind-reads _ (z last) (λ j m. bind-reads _ (z' j) (λ i g. done (ap (λ q. reading q Other) (placed (λ q. expr.Binary q first (o ∷ os)) (then-goes m g) e w)) (then-goes m g))))) least v l c)
  where
    fourteen : (level : ℕ) → level ≤ 12 → level ≤ 14
    fourteen level h = omega arith

    plus-one : (a level : ℕ) → a + (level + 1) ≡ 13 → suc a + level ≡ 13
    plus-one a level e = omega arith

-- ## Conditional expressions, assignments, commas

-- an assignment expression inside one construct more
open-branch : (n : ℕ) (k : Bool) (ts us : List Token5) (x : Expr5) → Opens n (λ m. Claim m k 1 ts x us) → Closes k 1 us → (s : Shape5) × Eventually n (λ t f r. Reads ((R f r).assignment k) (reading x s) ts us)
open-branch n k ts us x h c = inside-shape (λ s t f r. Reads ((R f r).assignment k) (reading x s) ts us) n h (λ l y. (y.shape, open-assignment k ts us y c))

pub conditional-claim : (n : ℕ) (k : Bool) (ts : List Token5) (q : Token5) (us : List Token5) (c : Token5) (vs ws : List Token5) {e : Expr5} (test yes_ no_ : Expr5) {span : Span} → e ≡ expr.Conditional span test yes_ no_ → span ≡ across ts ws → Claim n k 3 ts test (q ∷ us) → IsMark (codes "?") q → Opens n (λ m. Claim m false 1 us yes_ (c ∷ vs) × Claim m k 1 vs no_ ws) → IsMark (codes ":") c → Claim n k 2 ts e ws
unfolding conditional branches
conditional-claim n k ts q us c vs ws {e = e} test yes_ no_ e' w x p y s = claim-other k 2 ts e ws (omega arith) x.first (λ least v l d. from-conditional k (reading e Other) ts ws
    (both (x.levels 3 (binary_level_ 10 refl (omega arith)) (omega arith) (closes-question k us q p))
    (pair (open-branch n false us (c ∷ vs) yes_ (map-opens n (λ m z. z.0) y) (closes-up false 0 1 (c ∷ vs) (omega arith) (closes-colon false vs c s))).1 (open-branch n k vs ws no_ (map-opens n (λ m z. z.1) y) (closes-up k least 1 ws (low-level v l) d)).1)
    (λ n f r a b last. bind-reads _ (a last) (λ j m. on-hit (mark (codes "?")) _ _ q q us j (mark-hit (codes "?") q p)
    (bind-reads _ (b.0 q.end) (λ i m'. bind-reads _ (take-mark (codes ":") c vs i s) (λ i' m''. bind-reads _ (b.1 i') (λ i4 m4.
    done (ap (λ z. reading z Other) (placed (λ z. expr.Conditional z test yes_ no_) (m ⟫ one ⟫ m' ⟫ m'' ⟫ m4) e' w)) (m ⟫ one ⟫ m' ⟫ m'' ⟫ m4)))))))) least v l d)

pub assignment-claim : (n : ℕ) (k : Bool) (op : AssignOperator5) (ts : List Token5) (t : Token5) (us vs : List Token5) {z : Expr5} (target value : Expr5) {span : Span} → z ≡ expr.Assign span op target value → span ≡ across ts vs → Claim n false 15 ts target (t ∷ us) → t.kind ≡ assign_kind op → Opens n (λ m. Claim m k 1 us value vs) → Claim n k 1 ts z vs
unfolding assignment assigned
assignment-claim n k op ts t us vs {z = z} target value e' w x e y =
    let c = closes-assign k us t op e in
    claim-other k 1 ts z vs (omega arith) x.first (λ least v l d. from-assignment k (reading z Other) ts vs
    (both (left-conditional k ts (reading target x.shape) (t ∷ us) (x.operand (omega arith)) (x.chains (omega arith) c.dot c.bracket (c.paren (omega arith))) c) (open-branch n k us vs value y (closes-up k least 1 vs l d)).1
    (λ n f r a b last. bind-reads _ (a last) (λ j m. choose-either (is_left x.shape) _ _ (record { tokens = t ∷ us; last = j })
    (λ h. on-hit assign_at _ _ t op us j (assign-hit t op e) (bind-reads _ (b t.end) (λ i m'. done (ap (λ q. reading q Other) (placed (λ q. expr.Assign q op target value) (m ⟫ one ⟫ m') e' w)) (m ⟫ one ⟫ m'))))
    (λ h. absurd (true≢false (sym (x.left (omega arith)) ∙ h)))))) least v l d)

-- the parts after the first of an expression
pub data PartsClaim (n : ℕ) (k : Bool) : List Token5 → List Expr5 → List Token5 → Type 0 where
  no_parts_claim : {us : List Token5} → PartsClaim n k us [] us
  parts_claim : {t : Token5} {ts us : List Token5} {xs : List Expr5} → IsMark (codes ",") t → Eventually n (λ n f r. Reads (parts (R f r) k n) xs ts us) → PartsClaim n k (t ∷ ts) xs us

part-reads : {n : ℕ} (k : Bool) (ts us vs : List Token5) (x : Expr5) {xs : List Expr5} → Claim n k 1 ts x us → Closes k 0 vs → PartsClaim n k us xs vs → Eventually n (λ n f r. Reads (parts (R f r) k n) (x ∷ xs) ts vs)
unfolding parts
part-reads k ts us vs x h c no_parts_claim = turn (h.levels 1 assignment_level (omega arith) (closes-up k 0 1 us (omega arith) c)) (λ n f r y last. bind-reads _ (y last) (λ j m. on-miss (mark (codes ",")) _ _ us j (c.comma (omega arith)) (reads_ m)))
part-reads k ts us vs x h c (parts_claim {t = t} {ts = ws} p q) = turn (pair (h.levels 1 assignment_level (omega arith) (closes-comma k ws t p)) q) (λ n f r y last. bind-reads _ (y.0 last) (λ j m. on-hit (mark (codes ",")) _ _ t t ws j (mark-hit (codes ",") t p) (bind-reads _ (y.1 t.end) (λ i m'. reads_ (m ⟫ one ⟫ m')))))

pub next-part-claim : {n : ℕ} (k : Bool) (t : Token5) (ts us vs : List Token5) (x : Expr5) {xs : List Expr5} → IsMark (codes ",") t → Claim n k 1 ts x us → Closes k 0 vs → PartsClaim n k us xs vs → PartsClaim n k (t ∷ ts) (x ∷ xs) vs
next-part-claim k t ts us vs x p h c o = parts_claim p (part-reads k ts us vs x h c o)

-- the first part and those after it, of which there is one at least
pub sequence-claim : {n : ℕ} (k : Bool) (ts : List Token5) (t : Token5) (us ws vs : List Token5) {z : Expr5} (first y : Expr5) (ys : List Expr5) {span : Span} → z ≡ expr.Sequence span first (y ∷ ys) → span ≡ across ts vs → Claim n k 1 ts first (t ∷ us) → IsMark (codes ",") t → Claim n k 1 us y ws → (Closes k 0 vs → PartsClaim n k ws ys vs) → Claim n k 0 ts z vs
unfolding sequence more_parts
sequence-claim k ts t us ws vs {z = z} first y ys e w x p c f = claim-other k 0 ts z vs (omega arith) x.first (λ least v l c'.
    let d = closes-up k least 0 vs l c' in from-sequence k (reading z Other) ts vs
    (both (x.levels 1 assignment_level (omega arith) (closes-comma k us t p)) (begin (part-reads k us ws vs y c d (f d)) (λ n f r a. at-fuel (λ m. parts (R f r) k m) (y ∷ ys) us vs f r a)) (λ n f r a b last.
    bind-reads _ (a last) (λ j m. on-hit (mark (codes ",")) _ _ t t us j (mark-hit (codes ",") t p) (bind-reads _ (b t.end) (λ i m'.
    done (ap (λ q. reading q Other) (placed (λ q. expr.Sequence q first (y ∷ ys)) (m ⟫ one ⟫ m') e w)) (m ⟫ one ⟫ m')))))) least v l)
