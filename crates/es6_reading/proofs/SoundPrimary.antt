-- What the readers of literals, groups and primary expressions give is derived, if the readers for one construct deeper are sound.
use Rattle.std.proofs.Common.{◌≡◌, ℕ, zero, suc, ◌≤◌, Bool, true, false, List, [], ◌∷◌, Option, Some, None, refl, sym, ap, ◌∙◌, subst, arith}
use Rattle.std.proofs.lemmas.Bool.{false≢true, true≢false}
use Rattle.std.specs.Prelude.{codes}
use Rattle.es_text.specs.declared.Span.{Span}
use Rattle.es6_lexer.specs.declared.token.Punctuator.TheVariants as marks
use Rattle.es6_ast.specs.declared.operators.Literal.{Literal}
use Rattle.es6_ast.specs.declared.tree.Identifier.{Identifier}
use Rattle.es6_ast.specs.declared.tree.Argument.{Argument}
use Rattle.es6_ast.specs.declared.tree.Argument.TheVariants.{Spread}
use Rattle.es6_ast.specs.declared.tree.Element.{Element}
use Rattle.es6_ast.specs.declared.tree.Element.TheVariants.{Hole, Present}
use Rattle.es6_ast.specs.declared.tree.Expression as x6
use Rattle.es6_ast.specs.declared.tree.Expression.{Expression}
use Rattle.es6_ast.specs.declared.tree.Expression.TheVariants as expr
use Rattle.es6_ast.specs.declared.tree.Parameter.{Parameter}
use Rattle.es6_ast.specs.declared.tree.Property.{Property}
use Rattle.es6_ast.specs.declared.tree.Rest.{Rest}
use denote.Hole.Carrier as carrier
use Rattle.es6_ast.specs.declared.settings.Flags.{Flags}
use Rattle.es6_ast.specs.declared.settings.Role.{Role}
use Rattle.es6_ast.specs.declared.settings.Role.TheVariants.{Leading, Among, Heritage, Callee}
use Rattle.es6_ast.specs.declared.settings.Shape.TheVariants.{Bare, Grouped, Covered}
use Rattle.es6_ast.specs.Settings.{is_leading}
use Rattle.es6_ast.specs.Tokens.{Filled, IsWord, IsMark, across, begin_of}
use Rattle.es6_ast.specs.Grammar as g
use Rattle.es6_ast.specs.Grammar.{with_in, level_sequence, level_assignment, level_left_hand_side, level_primary, literal_kind, name_alone, IsName, IsExpression, IsNode, IsArgument, AreArguments, AreElements, AreProperties, AreMore, AreParameters, AreArrowParameters}
use Rattle.es6_reading.specs.Parser.{Input, choose, next_is, next_mark, from, Reading, Inner}
use Rattle.es6_reading.specs.Words.{free_name, literal_at, is_arrow}
use Rattle.es6_reading.specs.Refine.{Refined, Fits, Misfit, TooNested, parameters_of}
use Rattle.es6_reading.specs.Refinements.{IfFits, fits, misfits, too_nested, IsCover, empty_cover, rest_cover, held_cover}
use Rattle.es6_reading.specs.Expressions.{left, no_operand, argument, Listing, with_element, elements, more_arguments, arguments, properties, covered, covered_rest, rest_after, Held, held_first, held_parts, sequenced, closed_group, whole, held_group, grouped, bracketed, composed, primary}
use Rattle.es6_reading.specs.Statements.{label_of}
use Rattle.es6_reading.proofs.Posts.{Holds, took, fault, bind, weaken, choose-holds, if-holds, refused-holds, no-number-holds, no-expression-holds}
use Rattle.es6_reading.proofs.Meanings.{is-mark-true, free-name-means, literal-means, some_same}
use Rattle.es6_reading.proofs.Spans.{Moves, ◌⟫◌, span-across}
use Rattle.es6_reading.proofs.Derived.{ReadIn, ReadWhole, NameIn, PropertyIn, Sound, Next, next, on-means, one, step, IsKind, IsFree, on-mark, take-mark, on-word, group-holds}
use Rattle.es6_reading.proofs.SoundPatterns.{name-rule, sound-identifier}
use Rattle.es6_reading.proofs.Refinement.{refinement}
use Rattle.es6_reading.proofs.SoundFunctions.{sound-function, sound-class, template-holds}

-- ## Arguments

abbrev ArgumentIn : Flags → Input → Argument → Input → Type 0
ArgumentIn f s a c = Moves s c × IsArgument f s.tokens a c.tokens

spread-rule : (f : Flags) {s a c : Input} (x : Reading) → Next (IsMark marks.Ellipsis) s a → ReadWhole (with_in f) level_assignment a x c → ArgumentIn f s (Spread (record { begin = begin_of s.tokens; end = c.last }) x.value) c
spread-rule f x (next p) r = (one ⟫ r.moves, g.spread_argument x.value _ p r.derived (ap (λ span. Spread span x.value) (span-across (one {last = 0} ⟫ r.moves))))

sound-argument : (i : Inner) (sound : Sound i) (f : Flags) (s : Input) → Holds (ArgumentIn f s) (argument i f s)
unfolding argument
sound-argument i sound f s = on-mark _ _ _ s (λ t a p. bind (sound.assignment (with_in f) a) λ x c r. took (spread-rule f x p r))
    (λ m. bind (sound.assignment (with_in f) s) λ x c r. took (r.moves, g.single_argument x.value _ r.derived refl))

abbrev pub ArgumentsIn : Flags → Input → List Argument → Input → Type 0
ArgumentsIn f s xs c = Moves s c × AreArguments f s.tokens xs c.tokens

-- the arguments after a comma are one at least
data MoreArguments (f : Flags) : Input → List Argument → Input → Type 0 where
  more_of : {s c : Input} {x : Argument} {xs : List Argument} → Moves s c → AreArguments f s.tokens (x ∷ xs) c.tokens → MoreArguments f s (x ∷ xs) c

arguments-last : (f : Flags) {s a c : Input} {x : Argument} → ArgumentIn f s x a → Next (IsMark marks.RightParenthesis) a c → MoreArguments f s (x ∷ []) c
arguments-last f (m, d) (next p) = more_of (m ⟫ one) (g.last_argument _ d p)

arguments-next : (f : Flags) {s a b c : Input} {x : Argument} {xs : List Argument} → ArgumentIn f s x a → Next (IsMark marks.Comma) a b → MoreArguments f b xs c → MoreArguments f s (x ∷ xs) c
arguments-next f (m, d) (next p) (more_of m' ds) = more_of (m ⟫ one ⟫ m') (g.next_argument _ _ _ d p ds)

sound-more-arguments : (i : Inner) (sound : Sound i) (f : Flags) (turns : ℕ) (s : Input) → Holds (MoreArguments f s) (more_arguments i f turns s)
unfolding more_arguments
sound-more-arguments i sound f zero s = fault
sound-more-arguments i sound f (suc turns) s = bind (sound-argument i sound f s) λ x a d. on-mark _ _ _ a
    (λ t b p. bind (sound-more-arguments i sound f turns b) λ xs c ds. took (arguments-next f d p ds))
    (λ m. bind (take-mark _ a) λ t c p. took (arguments-last f d p))

arguments-none : (f : Flags) {s c : Input} → Next (IsMark marks.RightParenthesis) s c → ArgumentsIn f s [] c
arguments-none f (next p) = (one, g.no_argument p)

arguments-some : (f : Flags) {s c : Input} {xs : List Argument} → MoreArguments f s xs c → ArgumentsIn f s xs c
arguments-some f (more_of m d) = (m, d)

pub sound-arguments : (i : Inner) (sound : Sound i) (f : Flags) (s : Input) → Holds (ArgumentsIn f s) (arguments i f s)
unfolding arguments
sound-arguments i sound f s = on-mark _ _ _ s (λ t c p. took (arguments-none f p)) (λ m. weaken (sound-more-arguments i sound f i.fuel s) (λ xs c d. arguments-some f d))

-- ## Array literals

abbrev ElementsIn : Flags → Input → Listing → Input → Type 0
ElementsIn f s l c = Moves s c × AreElements f l.ends_in_comma s.tokens l.elements c.tokens

elements-none : (f : Flags) {s c : Input} → Next (IsMark marks.RightBracket) s c → ElementsIn f s (record { elements = []; ends_in_comma = false }) c
elements-none f (next p) = (one, g.no_element p)

elements-hole : (f : Flags) {s a c : Input} (l : Listing) → Next (IsMark marks.Comma) s a → ElementsIn f a l c → ElementsIn f s (with_element Hole l) c
elements-hole f l (next p) (m, d) = (one ⟫ m, g.hole _ _ p refl d)

elements-comma : (f : Flags) {s a b c : Input} {x : Argument} → ArgumentIn f s x a → Next (IsMark marks.Comma) a b → Next (IsMark marks.RightBracket) b c → ElementsIn f s (record { elements = Present x ∷ []; ends_in_comma = true }) c
elements-comma f (m, d) (next p) (next q) = (m ⟫ one ⟫ one, g.comma_element _ _ d p q refl)

elements-last : (f : Flags) {s a c : Input} {x : Argument} → ArgumentIn f s x a → Next (IsMark marks.RightBracket) a c → ElementsIn f s (record { elements = Present x ∷ []; ends_in_comma = false }) c
elements-last f (m, d) (next p) = (m ⟫ one, g.last_element _ _ d p refl)

-- where no closing bracket stands, an element does
next-element : (f : Flags) (comma_after : Bool) {comma : Filled} {ts us vs : List Filled} (x : Argument) (es : List Element) → IsArgument f ts x (comma ∷ us) → IsMark marks.Comma comma → next_is (next_mark marks.RightBracket) us ≡ false
    → AreElements f comma_after us es vs → AreElements f comma_after ts (Present x ∷ es) vs
next-element f comma_after x [] d p h (g.no_element {close = close} q) = absurd (false≢true (sym h ∙ is-mark-true marks.RightBracket close q))
next-element f comma_after x (e ∷ es) d p h ds = g.next_element _ _ _ x d p refl ds

elements-next : (f : Flags) {s a b c : Input} {x : Argument} (l : Listing) → ArgumentIn f s x a → Next (IsMark marks.Comma) a b → next_is (next_mark marks.RightBracket) b.tokens ≡ false → ElementsIn f b l c → ElementsIn f s (with_element (Present x) l) c
elements-next f {x = x} l (m, d) (next p) h (m', ds) = (m ⟫ one ⟫ m', next-element f l.ends_in_comma x l.elements d p h ds)

sound-elements : (i : Inner) (sound : Sound i) (f : Flags) (turns : ℕ) (s : Input) → Holds (ElementsIn f s) (elements i f turns s)
unfolding elements
sound-elements i sound f zero s = fault
sound-elements i sound f (suc turns) s = on-mark _ _ _ s (λ t c p. took (elements-none f p)) (λ m. on-mark _ _ _ s
    (λ t a p. bind (sound-elements i sound f turns a) λ l c ds. took (elements-hole f l p ds))
    (λ m. bind (sound-argument i sound f s) λ x a d. on-mark _ _ _ a
    (λ t b p. on-mark _ _ _ b
    (λ t c q. took (elements-comma f d p q))
    (λ h. bind (sound-elements i sound f turns b) λ l c ds. took (elements-next f l d p h ds)))
    (λ m. bind (take-mark _ a) λ t c p. took (elements-last f d p))))

-- ## Object literals

abbrev PropertiesIn : Flags → Input → List Property → Input → Type 0
PropertiesIn f s xs c = Moves s c × AreProperties f s.tokens xs c.tokens

properties-none : (f : Flags) {s c : Input} → Next (IsMark marks.RightBrace) s c → PropertiesIn f s [] c
properties-none f (next p) = (one, g.no_property p)

properties-last : (f : Flags) {s a c : Input} {x : Property} → PropertyIn f s x a → Next (IsMark marks.RightBrace) a c → PropertiesIn f s (x ∷ []) c
properties-last f (m, d) (next p) = (m ⟫ one, g.last_property _ d p)

properties-next : (f : Flags) {s a b c : Input} {x : Property} {xs : List Property} → PropertyIn f s x a → Next (IsMark marks.Comma) a b → PropertiesIn f b xs c → PropertiesIn f s (x ∷ xs) c
properties-next f (m, d) (next p) (m', ds) = (m ⟫ one ⟫ m', g.next_property _ _ d p ds)

sound-properties : (i : Inner) (sound : Sound i) (f : Flags) (turns : ℕ) (s : Input) → Holds (PropertiesIn f s) (properties i f turns s)
unfolding properties
sound-properties i sound f zero s = fault
sound-properties i sound f (suc turns) s = on-mark _ _ _ s (λ t c p. took (properties-none f p)) (λ m. bind (sound.property f s) λ x a d. on-mark _ _ _ a
    (λ t b p. bind (sound-properties i sound f turns b) λ xs c ds. took (properties-next f d p ds))
    (λ m. bind (take-mark _ a) λ t c p. took (properties-last f d p)))

-- ## Levels and shapes

le-trans : (a b c : ℕ) → a ≤ b → b ≤ c → a ≤ c
le-trans a b c h k = omega arith

-- an expression of a level is one of each lower level
pub lower : (f : Flags) (a b : ℕ) {ts us : List Filled} {x : Expression} → a ≤ b → IsExpression f b ts x us → IsExpression f a ts x us
lower f a b h (g.at_level level x l d) = g.at_level level x (le-trans a b level h l) d

-- a left-hand side with no name and no parentheses by itself
pub left-read : (f : Flags) {s c : Input} {x : Expression} → Moves s c → IsNode f level_primary s.tokens x c.tokens → ReadIn f level_primary s (left x) c
left-read f m d = record {
  moves = m;
  derived = λ h. g.at_level level_primary _ (omega arith) d;
  left_side = λ e. g.at_level level_primary _ (omega arith) d;
  named = λ label e. absurd (cc);
  parameters = λ n es e. absurd (cc);
}

-- ## Groups

fits_same : {A : Type 0} {x y : A} → Fits x ≡ Fits y → x ≡ y
fits_same {A = A} {x = x} h = ap (λ r. value r) h
  where
    value : Refined A → A
    value (Fits z) = z
    value (Misfit place) = x
    value TooNested = x

-- parts with commas between them
data AreHeld (f : Flags) : List Filled → Expression → List Expression → List Filled → Type 0 where
  last_held : {ts us : List Filled} (x : Expression) → IsExpression (with_in f) level_assignment ts x us → AreHeld f ts x [] us
  next_held : {comma : Filled} {ts us vs : List Filled} (x y : Expression) (ys : List Expression) → IsExpression (with_in f) level_assignment ts x (comma ∷ us) → IsMark marks.Comma comma → AreHeld f us y ys vs → AreHeld f ts x (y ∷ ys) vs

held-more : (f : Flags) {comma : Filled} {ts us : List Filled} {x : Expression} {xs : List Expression} → IsMark marks.Comma comma → AreHeld f ts x xs us → AreMore (with_in f) (comma ∷ ts) (x ∷ xs) us
held-more f p (last_held x d) = g.one_more_part x [] p d g.no_more_parts
held-more f p (next_held x y ys d q ds) = g.one_more_part x (y ∷ ys) p d (held-more f q ds)

held-expression : (f : Flags) {ts us : List Filled} {x : Expression} {xs : List Expression} → AreHeld f ts x xs us → IsExpression (with_in f) level_sequence ts (sequenced x xs (across ts us)) us
held-expression f (last_held x d) = lower (with_in f) level_sequence level_assignment (omega arith) d
held-expression f (next_held x y ys d p ds) = g.at_level level_sequence _ (omega arith) (g.sequence x y ys _ d (held-more f p ds) refl)

-- all parts of a group, or those before the comma before a rest
data HeldIn (f : Flags) : Input → Held → Input → Type 0 where
  held_alone_in : {s c : Input} {x : Expression} {xs : List Expression} → Moves s c → AreHeld f s.tokens x xs c.tokens → HeldIn f s (record { first = x; more = xs; end = c.last; before_rest = false }) c
  held_comma_in : {s a c : Input} {x : Expression} {xs : List Expression} → Moves s a → AreHeld f s.tokens x xs a.tokens → Next (IsMark marks.Comma) a c → HeldIn f s (record { first = x; more = xs; end = a.last; before_rest = true }) c

held-next : (f : Flags) {s a b c : Input} (x : Reading) {h : Held} → ReadWhole (with_in f) level_assignment s x a → Next (IsMark marks.Comma) a b → HeldIn f b h c → HeldIn f s (held_first x.value h) c
held-next f x r (next p) (held_alone_in m ds) = held_alone_in (r.moves ⟫ one ⟫ m) (next_held x.value _ _ r.derived p ds)
held-next f x r (next p) (held_comma_in m ds q) = held_comma_in (r.moves ⟫ one ⟫ m) (next_held x.value _ _ r.derived p ds) q

sound-held : (i : Inner) (sound : Sound i) (f : Flags) (role : Role) (turns : ℕ) (s : Input) → Holds (HeldIn f s) (held_parts i f role turns s)
unfolding held_parts
sound-held i sound f role zero s = fault
sound-held i sound f role (suc turns) s = bind (sound.assignment (with_in f) s) λ x a r. on-mark _ _ _ a
    (λ t b p. if-holds _ _ _ b
    (λ h. took (held_comma_in r.moves (last_held x.value r.derived) p))
    (λ h. bind (sound-held i sound f role turns b) λ held c ds. took (held-next f x r p ds)))
    (λ m. took (held_alone_in r.moves (last_held x.value r.derived)))

-- what is held, from the begin of its first part to the end of its last
held-whole : (f : Flags) {s c : Input} {x : Expression} {xs : List Expression} → Moves s c → AreHeld f s.tokens x xs c.tokens
    → IsExpression (with_in f) level_sequence s.tokens (sequenced x xs (record { begin = begin_of s.tokens; end = c.last })) c.tokens
held-whole f {s = s} {c = c} {x = x} {xs = xs} m ds = subst (λ span. IsExpression (with_in f) level_sequence s.tokens (sequenced x xs span) c.tokens) (sym (span-across m)) (held-expression f ds)

pub refined-so : {A : Type 0} {Q : A → Type 0} {r : Refined A} {x : A} → IfFits Q r → r ≡ Fits x → Q x
refined-so {Q = Q} (fits h) e = subst Q (fits_same e) h
refined-so misfits e = absurd (cc)
refined-so too_nested e = absurd (cc)

group-rule : (f : Flags) {s a b c : Input} {held : Expression} → Next (IsMark marks.LeftParenthesis) s a → Moves a b → IsExpression (with_in f) level_sequence a.tokens held b.tokens → Next (IsMark marks.RightParenthesis) b c
    → ReadIn f level_primary s (record { value = expr.Group (record { begin = begin_of s.tokens; end = c.last }) held; shape = Grouped }) c
group-rule f {c = c} {held = held} (next {t = t} {ts = ts} {last = last} p) m d (next q) =
    let moves = one {t = t} {ts = ts} {last = last} ⟫ m ⟫ one in
    let whole_group : IsExpression f level_primary (t ∷ ts) (expr.Group (record { begin = t.span.begin; end = c.last }) held) c.tokens = g.at_level level_primary _ (omega arith) (g.group held _ p d q (ap (λ span. expr.Group span held) (span-across moves))) in
    record {
      moves = moves;
      derived = λ h. whole_group;
      left_side = λ e. lower f level_left_hand_side level_primary (omega arith) whole_group;
      named = λ label e. absurd (cc);
      parameters = λ n es e. refined-so (refinement.parameters n f level_primary _ _ _ whole_group) e;
    }

-- ## Parentheses before an arrow

cover-read : (f : Flags) {s c : Input} {x : Expression} → Moves s c → IsCover f s.tokens x c.tokens → next_is is_arrow c.tokens ≡ true → ReadIn f level_primary s (record { value = x; shape = Covered }) c
cover-read f m d h = record {
  moves = m;
  derived = λ k. absurd (true≢false (sym h ∙ k));
  left_side = λ e. absurd (cc);
  named = λ label e. absurd (cc);
  parameters = λ n es e. refined-so (refinement.covered n f _ _ _ d) e;
}

sound-covered : (f : Flags) (held : Option Expression) (rest : Option Rest) (s c : Input) → Moves s c → ((span : Span) → IsCover f s.tokens (expr.Cover span held rest) c.tokens) → Holds (ReadIn f level_primary s) (covered (begin_of s.tokens) held rest c)
unfolding covered
sound-covered f held rest s c m d = if-holds _ _ _ c (λ h. took (cover-read f m (d _) h)) (λ h. refused-holds c)

-- what stands before the `...` in parentheses
data BeforeRest (f : Flags) (s : Input) : Option Expression → Input → Type 0 where
  nothing_before : {a : Input} → Next (IsMark marks.LeftParenthesis) s a → BeforeRest f s None a
  held_before : {a b c : Input} (held : Expression) → Next (IsMark marks.LeftParenthesis) s a → Moves a b → IsExpression (with_in f) level_sequence a.tokens held b.tokens → Next (IsMark marks.Comma) b c → BeforeRest f s (Some held) c

placed-rest : (span : Span) {at to : Span} (held : Option Expression) (n : Identifier) → at ≡ to → expr.Cover span held (Some (record { span = at; name = n })) ≡ expr.Cover span held (Some (record { span = to; name = n }))
placed-rest span held n e = ap (λ place. expr.Cover span held (Some (record { span = place; name = n }))) e

rest-rule : (f : Flags) {s a b d c : Input} {held : Option Expression} {n : Identifier} → BeforeRest f s held a → Next (IsMark marks.Ellipsis) a b → NameIn b n d → Next (IsMark marks.RightParenthesis) d c
    → Moves s c × ((span : Span) → IsCover f s.tokens (expr.Cover span held (Some (record { span = record { begin = begin_of a.tokens; end = d.last }; name = n }))) c.tokens)
rest-rule f {n = n} (nothing_before (next o)) (next {t = t} e) (m, d) (next q) =
    (one ⟫ one ⟫ m ⟫ one, λ span. rest_cover span n _ o e d q (placed-rest span None n (span-across (one {t = t} {last = 0} ⟫ m))))
rest-rule f {n = n} (held_before held (next o) m' d' (next k)) (next {t = t} e) (m, d) (next q) =
    (one ⟫ m' ⟫ one ⟫ one ⟫ m ⟫ one, λ span. held_cover span held n _ o d' k e d q (placed-rest span (Some held) n (span-across (one {t = t} {last = 0} ⟫ m))))

sound-covered-rest : (f : Flags) (held : Option Expression) (s a b : Input) → BeforeRest f s held a → Next (IsMark marks.Ellipsis) a b → Holds (ReadIn f level_primary s) (covered_rest (begin_of s.tokens) (begin_of a.tokens) held b)
unfolding covered_rest
sound-covered-rest f held s a b h e = bind (sound-identifier b) λ n d d'. bind (take-mark _ d) λ t c q. let r = rest-rule f h e d' q in sound-covered f held _ s c r.0 r.1

sound-rest-after : (f : Flags) (held : Expression) (r : Refined (List Parameter)) (s a : Input) → BeforeRest f s (Some held) a → Holds (ReadIn f level_primary s) (rest_after (begin_of s.tokens) (begin_of a.tokens) held r a)
sound-rest-after f held (Fits es) s a h = on-mark _ _ _ a (λ t b e. sound-covered-rest f (Some held) s a b h e) (λ m. refused-holds a)
sound-rest-after f held (Misfit place) s a h = refused-holds a
sound-rest-after f held TooNested s a h = fault

sound-held-group : (i : Inner) (sound : Sound i) (f : Flags) (role : Role) (s a : Input) → Next (IsMark marks.LeftParenthesis) s a → Holds (ReadIn f level_primary s) (held_group i f role (begin_of s.tokens) a)
unfolding held_group closed_group
sound-held-group i sound f role s a o = bind (sound-held i sound f role i.fuel a) λ h b d. after h b d
  where
    after : (h : Held) (b : Input) → HeldIn f a h b → Holds (ReadIn f level_primary s) (choose h.before_rest (from (λ dots. rest_after (begin_of s.tokens) dots (whole (begin_of a.tokens) h) (parameters_of i.fuel (h.first ∷ h.more)))) (closed_group (begin_of s.tokens) (whole (begin_of a.tokens) h)) b)
    after h b (held_alone_in m ds) = bind (take-mark _ b) λ t c q. took (group-rule f o m (held-whole f m ds) q)
    after h b (held_comma_in m ds p) = sound-rest-after f _ _ s b (held_before _ o m (held-whole f m ds) p)

empty-rule : (f : Flags) {s a c : Input} → Next (IsMark marks.LeftParenthesis) s a → Next (IsMark marks.RightParenthesis) a c → Moves s c × ((span : Span) → IsCover f s.tokens (expr.Cover span None None) c.tokens)
empty-rule f (next p) (next q) = (one ⟫ one, λ span. empty_cover span _ p q refl)

sound-grouped : (i : Inner) (sound : Sound i) (f : Flags) (role : Role) (s a : Input) → Next (IsMark marks.LeftParenthesis) s a → Holds (ReadIn f level_primary s) (grouped i f role (begin_of s.tokens) a)
unfolding grouped
sound-grouped i sound f role s a o = choose-holds _ _ (is_leading role) a
    (λ l. on-mark _ _ _ a
    (λ t c q. let r = empty-rule f o q in sound-covered f None None s c r.0 r.1)
    (λ m. on-mark _ _ _ a (λ t b e. sound-covered-rest f None s a b (nothing_before o) e) (λ m. sound-held-group i sound f role s a o)))
    (λ l. sound-held-group i sound f role s a o)

-- ## Primary expressions

this-rule : (f : Flags) {s c : Input} → Next (IsWord (codes "this")) s c → ReadIn f level_primary s (left (expr.This (record { begin = begin_of s.tokens; end = c.last }))) c
this-rule f (next w) = left-read f one (g.this _ w refl)

literal-rule : (f : Flags) (value : Literal) {s c : Input} → Next (IsKind (literal_kind value)) s c → ReadIn f level_primary s (left (expr.Literal (record { begin = begin_of s.tokens; end = c.last }) value)) c
literal-rule f value (next e) = left-read f one (g.literal value _ e refl)

array-rule : (f : Flags) {s a c : Input} (l : Listing) → Next (IsMark marks.LeftBracket) s a → ElementsIn f a l c → ReadIn f level_primary s (left (expr.ArrayList (record { begin = begin_of s.tokens; end = c.last }) l.elements l.ends_in_comma)) c
array-rule f l (next p) (m, d) = left-read f (one ⟫ m) (g.array l.elements _ p d (ap (λ span. expr.ArrayList span l.elements l.ends_in_comma) (span-across (one {last = 0} ⟫ m))))

object-rule : (f : Flags) {s a c : Input} {xs : List Property} → Next (IsMark marks.LeftBrace) s a → PropertiesIn f a xs c → ReadIn f level_primary s (left (expr.ObjectList (record { begin = begin_of s.tokens; end = c.last }) xs)) c
object-rule f {xs = xs} (next p) (m, d) = left-read f (one ⟫ m) (g.object xs _ p d (ap (λ span. expr.ObjectList span xs) (span-across (one {last = 0} ⟫ m))))

label-name : (span : Span) (name : List ℕ) (label : Identifier) → label_of Bare (expr.Name span name) ≡ Some label → ◌≡◌ {A = Identifier} (record { span = span; name = name }) label
unfolding x6.out-Expression carrier.out
label-name span name label h = some_same h

reference-read : (f : Flags) {s c : Input} (n : Identifier) → Moves s c → IsName s.tokens n c.tokens → ReadIn f level_primary s (record { value = expr.Name n.span n.name; shape = Bare }) c
reference-read f {s = s} {c = c} n m d = record {
  moves = m;
  derived = λ h. g.at_level level_primary _ (omega arith) (g.reference n _ d refl);
  left_side = λ e. g.at_level level_primary _ (omega arith) (g.reference n _ d refl);
  named = λ label e. subst (λ l. IsName s.tokens l c.tokens) (label-name n.span n.name label e) d;
  parameters = λ k es e. refined-so (refinement.parameters k f level_primary _ _ _ (g.at_level level_primary _ (omega arith) (g.reference n _ d refl))) e;
}

pub no-operand : {Q : Reading → Input → Type 0} (role : Role) (s : Input) → Holds Q (no_operand role s)
no-operand Leading s = no-expression-holds s
no-operand Among s = no-expression-holds s
no-operand Heritage s = no-number-holds s
no-operand Callee s = no-number-holds s

sound-bracketed : (i : Inner) (sound : Sound i) (f : Flags) (role : Role) (s : Input) → Holds (ReadIn f level_primary s) (bracketed i f role (begin_of s.tokens) s)
unfolding bracketed
sound-bracketed i sound f role s = group-holds i _ _ _ s
    (λ a p. bind (sound-elements i sound f i.fuel a) λ l c d. took (array-rule f l p d))
    (λ m. group-holds i _ _ _ s
    (λ a p. bind (sound-properties i sound f i.fuel a) λ xs c d. took (object-rule f p d))
    (λ m. no-operand role s))

sound-composed : (i : Inner) (sound : Sound i) (f : Flags) (role : Role) (s : Input) → Holds (ReadIn f level_primary s) (composed i f role (begin_of s.tokens) s)
unfolding composed
sound-composed i sound f role s = on-word _ _ _ s
    (λ t a w. bind (sound-function i sound true s a w) λ k c d. took (left-read f d.0 (g.function k _ d.1 refl)))
    (λ m. on-word _ _ _ s
    (λ t a w. bind (sound-class i sound f true s a w) λ k c d. took (left-read f d.0 (g.class k _ d.1 refl)))
    (λ m. template-holds i sound f _ _ s
    (λ k c d. took (left-read f d.0 (g.template k _ d.1 refl)))
    (λ m. group-holds i _ _ _ s (λ a p. sound-grouped i sound f role s a p) (λ m. sound-bracketed i sound f role s))))

pub sound-primary : (i : Inner) (sound : Sound i) (f : Flags) (role : Role) (s : Input) → Holds (ReadIn f level_primary s) (primary i f role (begin_of s.tokens) s)
unfolding primary
sound-primary i sound f role s = on-word _ _ _ s (λ t c w. took (this-rule f w)) (λ m.
    on-means free_name IsFree free-name-means _ _ s (λ name c h. took (reference-read f _ (step h) (name-rule h))) (λ m.
    on-means literal_at (λ v t. IsKind (literal_kind v) t) literal-means _ _ s (λ value c h. took (literal-rule f value h)) (λ m. sound-composed i sound f role s)))
