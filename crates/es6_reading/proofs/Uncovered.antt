-- Where no arrow's parameters may stand, no parentheses are read that only such parameters have.
use Rattle.std.proofs.Common.{◌≡◌, ℕ, zero, suc, ◌+◌, true, false, ◌&&◌, List, [], ◌∷◌, refl, sym, ◌∙◌}
use Rattle.std.proofs.lemmas.Bool.{false≢true}
use Rattle.std.specs.Prelude.{codes}
use Rattle.es_text.specs.declared.Span.{Span}
use Rattle.es6_lexer.specs.declared.token.Punctuator.TheVariants as marks
use Rattle.es6_ast.specs.declared.tree.Expression.{Expression}
use Rattle.es6_ast.specs.declared.tree.Link.{Link}
use Rattle.es6_ast.specs.declared.tree.Operand.{Operand}
use Rattle.es6_ast.specs.declared.settings.Flags.{Flags}
use Rattle.es6_ast.specs.declared.settings.Role.{Role}
use Rattle.es6_ast.specs.declared.settings.Role.TheVariants.{Leading, Among, Heritage, Callee}
use Rattle.es6_ast.specs.Settings.{is_leading, has_calls}
use Rattle.es6_ast.specs.Tokens.{Filled, begin_of}
use Rattle.es6_ast.specs.Grammar.{with_in}
use Rattle.es6_reading.specs.Parser.{Input, take_as, mark, word, next_is, next_mark, is_covered, Reading, Inner}
use Rattle.es6_reading.specs.Words.{free_name, literal_at, unary_at, before_at, after_at}
use Rattle.es6_reading.specs.Expressions.{arguments, elements, properties, Held, held_first, held_parts, held_group, closed_group, grouped, bracketed, composed, primary, after_callee, after_new, super_call, after_super, head, links, chained, chain, postfix, prefixed, updated, update, unary, raised, power, operands, operated, binary_from}
use Rattle.es6_reading.specs.Parts.{name_of_any_kind, function_after_word, class_after_word}
use Rattle.es6_reading.proofs.Posts.{Holds, took, fault, any, bind, on-holds, choose-holds, if-holds, refused-holds}
use Rattle.es6_reading.proofs.Derived.{Sound, group-holds}
use Rattle.es6_reading.proofs.SoundFunctions.{template-holds}
use Rattle.es6_reading.proofs.SoundPrimary.{no-operand}

pub data Plain : Reading → Input → Type 0 where
  plain : {x : Reading} {c : Input} → is_covered x.shape ≡ false → Plain x c

pub uncovered : {x : Reading} {c : Input} → Plain x c → is_covered x.shape ≡ false
uncovered (plain h) = h

-- ## Groups

no-rest : (role : Role) → is_leading role ≡ false → (ts : List Filled) → next_is (λ t. is_leading role && next_mark marks.Ellipsis t) ts ≡ false
no-rest Leading h ts = absurd (cc)
no-rest Among h [] = refl
no-rest Among h (t ∷ ts) = refl
no-rest Heritage h [] = refl
no-rest Heritage h (t ∷ ts) = refl
no-rest Callee h [] = refl
no-rest Callee h (t ∷ ts) = refl

-- no rest follows
data NoRest : Held → Input → Type 0 where
  no_rest : {h : Held} {c : Input} → h.before_rest ≡ false → NoRest h c

more-held : (x : Expression) {h : Held} {b c : Input} → NoRest h b → NoRest (held_first x h) c
more-held x (no_rest e) = no_rest e

held-before-none : (i : Inner) (f : Flags) (role : Role) → is_leading role ≡ false → (turns : ℕ) (s : Input) → Holds NoRest (held_parts i f role turns s)
unfolding held_parts
held-before-none i f role l zero s = fault
held-before-none i f role l (suc turns) s = bind (any (i.assignment (with_in f) s)) λ x a u. on-holds (mark marks.Comma) _ _ a
    (λ t b p. if-holds (λ t. is_leading role && next_mark marks.Ellipsis t) _ _ b
    (λ h. absurd (false≢true (sym (no-rest role l b.tokens) ∙ h)))
    (λ h. bind (held-before-none i f role l turns b) λ held c e. took (more-held x.value e)))
    (λ m. took (no_rest refl))

no-rest-after : {h : Held} {c : Input} → NoRest h c → h.before_rest ≡ false
no-rest-after (no_rest e) = e

plain-held : (i : Inner) (f : Flags) (role : Role) → is_leading role ≡ false → (at : ℕ) (s : Input) → Holds Plain (held_group i f role at s)
unfolding held_group closed_group
plain-held i f role l at s = bind (held-before-none i f role l i.fuel s) λ h b e. choose-holds _ _ h.before_rest b
    (λ k. absurd (false≢true (sym (no-rest-after e) ∙ k)))
    (λ k. bind (any (take_as (mark marks.RightParenthesis) b)) λ t c u. took (plain refl))

plain-grouped : (i : Inner) (f : Flags) (role : Role) → is_leading role ≡ false → (at : ℕ) (s : Input) → Holds Plain (grouped i f role at s)
unfolding grouped
plain-grouped i f role l at s = choose-holds _ _ (is_leading role) s (λ k. absurd (false≢true (sym l ∙ k))) (λ k. plain-held i f role l at s)

-- ## Primary expressions

plain-bracketed : (i : Inner) (f : Flags) (role : Role) (at : ℕ) (s : Input) → Holds Plain (bracketed i f role at s)
unfolding bracketed
plain-bracketed i f role at s = group-holds i marks.LeftBracket _ _ s (λ a p. bind (any (elements i f i.fuel a)) λ l c u. took (plain refl)) (λ m. group-holds i marks.LeftBrace _ _ s (λ a p. bind (any (properties i f i.fuel a)) λ xs c u. took (plain refl)) (λ m. no-operand role s))

plain-composed : (i : Inner) (sound : Sound i) (f : Flags) (role : Role) → is_leading role ≡ false → (s : Input) → Holds Plain (composed i f role (begin_of s.tokens) s)
unfolding composed
plain-composed i sound f role l s = on-holds (word (codes "function")) _ _ s
    (λ t a w. bind (any (function_after_word i true (begin_of s.tokens) a)) λ k c u. took (plain refl))
    (λ m. on-holds (word (codes "class")) _ _ s
    (λ t a w. bind (any (class_after_word i f true (begin_of s.tokens) a)) λ k c u. took (plain refl))
    (λ m. template-holds i sound f _ _ s
    (λ k c d. took (plain refl))
    (λ m. group-holds i marks.LeftParenthesis _ _ s (λ a p. plain-grouped i f role l _ a) (λ m. plain-bracketed i f role _ s))))

plain-primary : (i : Inner) (sound : Sound i) (f : Flags) (role : Role) → is_leading role ≡ false → (s : Input) → Holds Plain (primary i f role (begin_of s.tokens) s)
unfolding primary
plain-primary i sound f role l s = on-holds (word (codes "this")) _ _ s (λ t c w. took (plain refl)) (λ m. on-holds free_name _ _ s (λ name c h. took (plain refl)) (λ m. on-holds literal_at _ _ s (λ value c h. took (plain refl)) (λ m. plain-composed i sound f role l s)))

-- ## Left-hand-side expressions

plain-new : (i : Inner) (f : Flags) (at : ℕ) (s : Input) → Holds Plain (after_new i f at s)
unfolding after_new after_callee
plain-new i f at s = on-holds (mark marks.Dot) _ _ s (λ t a p. bind (any (take_as (word (codes "target")) a)) λ w c u. took (plain refl)) (λ m. bind (any (i.callee f s)) λ x a u. group-holds i marks.LeftParenthesis _ _ a (λ b p. bind (any (arguments i f b)) λ xs c v. took (plain refl)) (λ m. took (plain refl)))

plain-super : (i : Inner) (f : Flags) (role : Role) (at : ℕ) (s : Input) → Holds Plain (after_super i f role at s)
unfolding after_super super_call
plain-super i f role at s = on-holds (mark marks.Dot) _ _ s
    (λ t a p. bind (any (name_of_any_kind a)) λ n c u. took (plain refl))
    (λ m. group-holds i marks.LeftBracket _ _ s
    (λ a p. bind (any (i.sequence (with_in f) a)) λ x b u. bind (any (take_as (mark marks.RightBracket) b)) λ t c v. took (plain refl))
    (λ m. choose-holds _ _ (has_calls role) s
    (λ may. group-holds i marks.LeftParenthesis _ _ s (λ a p. bind (any (arguments i f a)) λ xs c u. took (plain refl)) (λ m. refused-holds s))
    (λ may. refused-holds s)))

plain-head : (i : Inner) (sound : Sound i) (f : Flags) (role : Role) → is_leading role ≡ false → (s : Input) → Holds Plain (head i f role (begin_of s.tokens) s)
unfolding head
plain-head i sound f role l s = on-holds (word (codes "new")) _ _ s (λ t a w. plain-new i f _ a) (λ m. on-holds (word (codes "super")) _ _ s (λ t a w. plain-super i f role _ a) (λ m. plain-primary i sound f role l s))

plain-chained : (x : Reading) (ls : List Link) (span : Span) {a c : Input} → Plain x a → Plain (chained x ls span) c
plain-chained x [] span h = plain (uncovered h)
plain-chained x (l ∷ ls) span h = plain refl

pub plain-chain : (i : Inner) (sound : Sound i) (f : Flags) (role : Role) → is_leading role ≡ false → (s : Input) → Holds Plain (chain i f role s)
unfolding chain
plain-chain i sound f role l s = bind (plain-head i sound f role l s) λ x a h. bind (any (links i f (has_calls role) i.fuel a)) λ ls c u. took (plain-chained x ls _ h)

-- ## Operators

plain-postfix : (i : Inner) (sound : Sound i) (f : Flags) (role : Role) → is_leading role ≡ false → (s : Input) → Holds Plain (postfix i f role s)
unfolding postfix
plain-postfix i sound f role l s = bind (plain-chain i sound f role l s) λ x a h. on-holds after_at _ _ a (λ op c t. took (plain refl)) (λ m. took h)

plain-update : (i : Inner) (sound : Sound i) (f : Flags) (role : Role) → is_leading role ≡ false → (s : Input) → Holds Plain (update i f role s)
unfolding update updated
plain-update i sound f role l s = on-holds before_at _ _ s (λ op a t. bind (any (i.unary f a)) λ x c u. took (plain refl)) (λ m. plain-postfix i sound f role l s)

pub plain-unary : (i : Inner) (sound : Sound i) (f : Flags) (s : Input) → Holds Plain (unary i f s)
unfolding unary prefixed
plain-unary i sound f s = on-holds unary_at _ _ s (λ op a t. bind (any (i.unary f a)) λ x c u. took (plain refl)) (λ m. plain-update i sound f Among refl s)

pub plain-power : (i : Inner) (sound : Sound i) (f : Flags) (role : Role) → is_leading role ≡ false → (s : Input) → Holds Plain (power i f role s)
unfolding power raised prefixed
plain-power i sound f role l s = on-holds unary_at _ _ s
    (λ op a t. bind (any (i.unary f a)) λ x c u. took (plain refl))
    (λ m. bind (plain-update i sound f role l s) λ x a h. on-holds (mark marks.StarStar) _ _ a (λ t b p. bind (any (i.power f b)) λ y c u. took (plain refl)) (λ m. took h))

plain-operated : (x : Reading) (os : List Operand) (span : Span) {a c : Input} → Plain x a → Plain (operated x os span) c
plain-operated x [] span h = plain (uncovered h)
plain-operated x (o ∷ os) span h = plain refl

pub plain-binary : (i : Inner) (sound : Sound i) (f : Flags) (role : Role) → is_leading role ≡ false → (above level : ℕ) (s : Input) → Holds Plain (binary_from i f role above level s)
unfolding binary_from
plain-binary i sound f role l zero level s = plain-power i sound f role l s
plain-binary i sound f role l (suc above) level s = bind (plain-binary i sound f role l above (level + 1) s) λ x a h. bind (any (operands (binary_from i f Among above (level + 1)) f level i.fuel a)) λ os c u. took (plain-operated x os _ h)
