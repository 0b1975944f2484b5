-- Readers of expressions, of tokens of which one is exchanged.
use Rattle.std.specs.Prelude.{codes, pos, ◌&&◌}
use Rattle.std.proofs.Common.{◌≡◌, ◌∙◌, inl, inr, ℕ, zero, suc, ◌+◌, Bool, true, false, List, [], ◌∷◌, Option, Some, None, refl, sym, ap, subst}
use Rattle.std.proofs.lemmas.Bool.{false≢true}
use Rattle.es_text.specs.declared.Span.{Span}
use Rattle.es6_lexer.specs.declared.token.TokenKind.TheVariants.{Word, Punctuator, Number}
use Rattle.es6_lexer.specs.declared.token.NumberToken.TheVariants.{Whole, TooLarge, Marked}
use Rattle.es6_lexer.specs.declared.token.Punctuator.TheVariants as marks
use Rattle.es6_ast.specs.declared.operators.AssignOperator.{AssignOperator}
use Rattle.es6_ast.specs.declared.operators.MethodKind.TheVariants.{PlainMethod}
use Rattle.es6_ast.specs.declared.operators.UnaryOperator.{UnaryOperator}
use Rattle.es6_ast.specs.declared.operators.UnaryOperator.TheVariants.{Not}
use Rattle.es6_ast.specs.declared.tree.Property.TheVariants as property
use Rattle.es6_ast.specs.declared.tree.Expression.{Expression}
use Rattle.es6_ast.specs.declared.tree.Expression.TheVariants as expr
use Rattle.es6_ast.specs.declared.tree.Identifier.{Identifier}
use Rattle.es6_ast.specs.declared.tree.Key.{Key}
use Rattle.es6_ast.specs.declared.tree.Link.{Link}
use Rattle.es6_ast.specs.declared.tree.Link.TheVariants as link
use Rattle.es6_ast.specs.declared.tree.Parameter.{Parameter}
use Rattle.es6_ast.specs.declared.tree.Rest.{Rest}
use Rattle.es6_ast.specs.declared.settings.Flags.{Flags}
use Rattle.es6_ast.specs.declared.settings.Role.{Role}
use Rattle.es6_ast.specs.declared.settings.Role.TheVariants.{Leading, Among, Heritage, Callee}
use Rattle.es6_ast.specs.declared.settings.Stop.TheVariants.{Endless, Outside, Syntax}
use Rattle.es6_ast.specs.Settings.{is_leading, has_calls}
use Rattle.es6_ast.specs.Tokens.{Filled}
use Rattle.es6_ast.specs.Grammar.{with_in, of_function, of_arrow}
use Rattle.es6_reading.specs.Parser.{Outcome, Fault, Parser, Reading, Inner, fails, after, choose, on, if_next, from, mark, next_mark, refused, no_number, no_expression, take_as, made, returns, is_left, is_covered}
use Rattle.es6_reading.specs.Refine.{Refined, Fits, Misfit, TooNested, target_before, parameters_of}
use Rattle.es6_reading.specs.Words.{literal_at, unary_at, unary_operators, accessor_name}
use Rattle.es6_reading.specs.Parts as t6
use Rattle.es6_reading.specs.Expressions as e6
use Rattle.es6_reading.proofs.Follows.{plus}
use Rattle.es6_reading.proofs.FollowPrimary as primary'
use Rattle.es6_reading.proofs.FollowLevels as levels'
use Rattle.es6_reading.proofs.RefineMore.{Kept, kept-before, kept-parameters-of, kept-parameters-before}
use Rattle.es6_reading.proofs.Locality.{Deeper, as_before, nested_less, deeper, turns-plus}
use Rattle.es6_reading_laws.proofs.es6_outside_laws.Exchanged.{slash, slash_assign, marked, too_large, Place, at_kind, it, one_of, two_of, input, none, Any, Over, Rel, here, before, limit, outside, stuck, Onward, KeepsIf, Keeps, stopped, over-bind, onward-along, onward-bind, onward-either, easier, bind, bind-parts, either, begins, next, next-by, next-onward, looks, looks-more, looks-alike, took, done}
use Rattle.es6_reading_laws.proofs.es6_outside_laws.Tests.{place, each, a-mark, a-word, a-before, a-after, a-assign, a-binary, a-star, a-arrow, a-accessor, u-mark, u-arrow, u-dots, u-ends-name, u-value-or-method, l-yield, nowhere, take, free}
use Rattle.es6_reading_laws.proofs.es6_outside_laws.ExchangedParts.{gave-up, turned, valued, Pairs, NoNumber, number, group, identifier, any-name, key, function, class, on-template, method-after-key, accessor, generator-method}

-- ## What is refined

gave-onward : {e : Place} {A : Type 0} {C : Type 0} {W : A → Type 0} {p' : ℕ → Parser A} → Onward e C W (fails Endless) p'
gave-onward = record { more = λ ts us vs t m last. before m; there = λ c last. here (limit (λ k. k)); first = λ last. refl }

same-fit : {A : Type 0} {m : ℕ} {r r' : Refined A} → (r ≡ TooNested → ⊥) → Deeper m r r' → r' ≡ r
same-fit n as_before = refl
same-fit n (nested_less s) = absurd (n refl)

-- the refinements of a reader, and of those with more turns
pub deep : {A : Type 0} {n : ℕ} {m : ℕ → ℕ} (r : ℕ → Refined A) → ((l : ℕ) → m l ≡ plus n (suc l)) → ((k l : ℕ) → Kept (r k) (r (plus k l))) → (l : ℕ) → Deeper (suc l) (r n) (r (m l))
deep {n = n} r h k l = subst (λ v. Deeper (suc l) (r n) (r v)) (sym (h l)) (deeper r k (turns-plus n (suc l)))

pub fitting : {e : Place} {A : Type 0} {r : Refined A} {r' : ℕ → Refined A} → ((l : ℕ) → Deeper (suc l) r (r' l)) → Onward e (Unit {0}) Any (e6.fitting r) (λ l. e6.fitting (r' l))
unfolding refused
fitting {r = Fits x} d = onward-along (λ l. ap (λ r. e6.fitting r) (same-fit (λ k. absurd (cc)) (d l))) (done λ a b n. refl).onward
fitting {r = Misfit at} d = onward-along (λ l. ap (λ r. e6.fitting r) (same-fit (λ k. absurd (cc)) (d l))) nowhere.onward
fitting {r = TooNested} d = gave-onward

covered : {e : Place} (at : ℕ) (held : Option Expression) (rest : Option Rest) → Keeps e (e6.covered at held rest) (λ l. e6.covered at held rest)
unfolding e6.covered
covered at held rest = looks u-arrow (done λ a b n. refl) nowhere

covered-rest : {e : Place} (at dots : ℕ) (held : Option Expression) → Keeps e (e6.covered_rest at dots held) (λ l. e6.covered_rest at dots held)
unfolding e6.covered_rest
covered-rest at dots held = bind identifier λ n. valued (λ r c. after (take_as (mark marks.RightParenthesis) c) (λ t. e6.covered at held (Some r))) (λ l r c. after (take_as (mark marks.RightParenthesis) c) (λ t. e6.covered at held (Some r))) (λ c. record { span = record { begin = dots; end = c.last }; name = n }) (λ a b n. refl)
    (λ r. bind (take (a-mark marks.RightParenthesis refl)) λ t. covered at held (Some r))

rest-after : {e : Place} (at dots : ℕ) (held : Expression) {r : Refined (List Parameter)} {r' : ℕ → Refined (List Parameter)} → ((l : ℕ) → Deeper (suc l) r (r' l)) → Onward e (Unit {0}) Any (e6.rest_after at dots held r) (λ l. e6.rest_after at dots held (r' l))
rest-after at dots held {r = Fits x} d = onward-along (λ l. ap (λ r. e6.rest_after at dots held r) (same-fit (λ k. absurd (cc)) (d l))) (next (a-mark marks.Ellipsis refl) (λ t. covered-rest at dots (Some held)) nowhere).onward
rest-after at dots held {r = Misfit place} d = onward-along (λ l. ap (λ r. e6.rest_after at dots held r) (same-fit (λ k. absurd (cc)) (d l))) nowhere.onward
rest-after at dots held {r = TooNested} d = gave-onward

-- ## Where no operand stands

abbrev pub is_tail : Role → Bool
is_tail Leading = false
is_tail Among = false
is_tail Heritage = true
is_tail Callee = true

-- a slash is looked at before where an operator may stand, and a number before what no literal is
abbrev pub Calm : Place → Role → Type 0
Calm e role = e.rule ≡ 2 → is_tail role ≡ true

abbrev pub Plain : Place → Role → Type 0
Plain e role = Calm e role × NoNumber e

no-expression : {e : Place} {A : Type 0} {W : A → Type 0} (role : Role) → is_tail role ≡ false → KeepsIf e {A = A} (Plain e role) W no_expression (λ l. no_expression)
unfolding no_expression
no-expression {e = e} {A = A} {W = W} role tail = record {
  onward = record {
    more = λ ts us vs t m last. before m;
    there = λ c last. each (λ e. Plain e role → Rel e {A = A} W (λ l. no_expression (input (one_of e ∷ []) last)) (λ l. no_expression (input (two_of e ∷ []) last)) (no_expression (input (it e ∷ []) last)))
        (λ s n c. here (stuck (λ k. absurd (cc)) (λ l. (Syntax, refl, tt)))) (λ s n c. absurd (false≢true (sym tail ∙ c.0 refl))) (λ s n c. absurd (false≢true (sym tail ∙ c.0 refl)))
        (λ s n c. absurd (c.1.0 refl)) (λ s n c. absurd (c.1.1 refl)) (λ s n c. here (stuck (λ k. absurd (cc)) (λ l. (Syntax, refl, tt)))) e c;
    first = λ last. refl;
  };
  second = λ l last. stopped;
}

no-operand : {e : Place} {A : Type 0} {W : A → Type 0} (role : Role) → KeepsIf e {A = A} (Plain e role) W (e6.no_operand role) (λ l. e6.no_operand role)
no-operand Leading = no-expression Leading refl
no-operand Among = no-expression Among refl
no-operand Heritage = easier (λ c. c.1) number
no-operand Callee = easier (λ c. c.1) number

-- nothing of a group but its last part may stand before a rest
abbrev IsClosed : e6.Held → Type 0
IsClosed h = h.before_rest ≡ false

module _ {e : Place} {i : Inner} {j : ℕ → Inner} (h : Pairs e i j) where
  -- ## Arrays, arguments, objects and groups

  argument : (f : Flags) → Keeps e (e6.argument i f) (λ l. e6.argument (j l) f)
  unfolding e6.argument
  argument f = begins (primary'.argument_from i f) (λ l. primary'.argument_from (j l) f) (λ at. next (a-mark marks.Ellipsis refl) (λ t. bind (h.assignment (with_in f)) λ x. done λ a b n. refl) (bind (h.assignment (with_in f)) λ x. done λ a b n. refl))

  elements : (f : Flags) (n : ℕ) → Keeps e (e6.elements i f n) (λ l. e6.elements (j l) f (plus n (suc l)))
  unfolding e6.elements refused
  elements f zero = gave-up (λ l last. over-bind Any Any (e6.argument (j l) f (none last)) _ ((argument f).second l last) (λ q w n. stopped))
  elements f (suc n) = next (a-mark marks.RightBracket refl) (λ t. done λ a b n. refl) (next (a-mark marks.Comma refl) (λ t. bind (elements f n) λ l. done λ a b n. refl) (bind (argument f) λ a. next (a-mark marks.Comma refl) (λ t. next (a-mark marks.RightBracket refl) (λ u. done λ a b n. refl) (bind (elements f n) λ l. done λ a b n. refl)) (bind (take (a-mark marks.RightBracket refl)) λ t. done λ a b n. refl)))

  more-arguments : (f : Flags) (n : ℕ) → Keeps e (e6.more_arguments i f n) (λ l. e6.more_arguments (j l) f (plus n (suc l)))
  unfolding e6.more_arguments refused
  more-arguments f zero = gave-up (λ l last. over-bind Any Any (e6.argument (j l) f (none last)) _ ((argument f).second l last) (λ q w n. stopped))
  more-arguments f (suc n) = bind (argument f) λ a. next (a-mark marks.Comma refl) (λ t. bind (more-arguments f n) λ x. done λ a b n. refl) (bind (take (a-mark marks.RightParenthesis refl)) λ t. done λ a b n. refl)

  arguments : (f : Flags) → Keeps e (e6.arguments i f) (λ l. e6.arguments (j l) f)
  unfolding e6.arguments
  arguments f = next (a-mark marks.RightParenthesis refl) (λ t. done λ a b n. refl) (turned i.fuel (λ l m. e6.more_arguments (j l) f m) h.fuel (more-arguments f i.fuel))

  properties : (f : Flags) (n : ℕ) → Keeps e (e6.properties i f n) (λ l. e6.properties (j l) f (plus n (suc l)))
  unfolding e6.properties refused
  properties f zero = gave-up (λ l last. over-bind Any Any ((j l).property f (none last)) _ ((h.property f).second l last) (λ q w n. stopped))
  properties f (suc n) = next (a-mark marks.RightBrace refl) (λ t. done λ a b n. refl) (bind (h.property f) λ x. next (a-mark marks.Comma refl) (λ t. bind (properties f n) λ y. done λ a b n. refl) (bind (take (a-mark marks.RightBrace refl)) λ t. done λ a b n. refl))

  held-parts : (f : Flags) (role : Role) (n : ℕ) → KeepsIf e (Unit {0}) IsClosed (e6.held_parts i f role n) (λ l. e6.held_parts (j l) f role (plus n (suc l)))
  unfolding e6.held_parts
  held-parts f role zero = gave-up (λ l last. over-bind Any IsClosed ((j l).assignment (with_in f) (none last)) _ ((h.assignment (with_in f)).second l last) (λ q w n. (refl, refl)))
  held-parts f role (suc n) = bind (h.assignment (with_in f)) λ x. valued
      (λ end. on (mark marks.Comma) (λ t. if_next (λ t. is_leading role && next_mark marks.Ellipsis t) (returns (e6.held_alone x.value end true)) (λ c. after (e6.held_parts i f role n c) (λ y. returns (e6.held_first x.value y)))) (returns (e6.held_alone x.value end false)))
      (λ l end. on (mark marks.Comma) (λ t. if_next (λ t. is_leading role && next_mark marks.Ellipsis t) (returns (e6.held_alone x.value end true)) (λ c. after (e6.held_parts (j l) f role (plus n (suc l)) c) (λ y. returns (e6.held_first x.value y)))) (returns (e6.held_alone x.value end false)))
      (λ c. c.last) (λ a b n. refl)
      (λ end. next (a-mark marks.Comma refl) (λ t. looks-more (u-dots role) (took {g = λ c. e6.held_alone x.value end true} λ a b n. refl).more (bind-parts (held-parts f role n) (λ y. took λ a b n. refl) (λ y w l last. (refl, w)))) (record { onward = took λ a b n. refl; second = λ l last. (refl, refl) }))

  closed-group : (at : ℕ) (held : Expression) → Keeps e (e6.closed_group at held) (λ l. e6.closed_group at held)
  unfolding e6.closed_group
  closed-group at held = bind (take (a-mark marks.RightParenthesis refl)) λ t. done λ a b n. refl

  held-group : (f : Flags) (role : Role) (at : ℕ) → Keeps e (e6.held_group i f role at) (λ l. e6.held_group (j l) f role at)
  unfolding e6.held_group
  held-group f role at = begins (primary'.held_group_from i f role at) (λ l. primary'.held_group_from (j l) f role at) (λ inside. bind-parts (turned i.fuel (λ l m. e6.held_parts (j l) f role m) h.fuel (held-parts f role i.fuel))
      (λ x. onward-either x.before_rest (dotted inside x) (closed-group at (e6.whole inside x)).onward)
      (λ x w l last. subst (λ b. Over Any (choose b (from λ dots. e6.rest_after at dots (e6.whole inside x) (parameters_of (j l).fuel (x.first ∷ x.more))) (e6.closed_group at (e6.whole inside x)) (none last))) (sym w) ((closed-group at (e6.whole inside x)).second l last)))
    where
      dotted : (inside : ℕ) (x : e6.Held) → Onward e (Unit {0}) Any (from λ dots. e6.rest_after at dots (e6.whole inside x) (parameters_of i.fuel (x.first ∷ x.more))) (λ l. from λ dots. e6.rest_after at dots (e6.whole inside x) (parameters_of (j l).fuel (x.first ∷ x.more)))
      dotted inside x =
          let k : (dots : ℕ) → Onward e (Unit {0}) Any (e6.rest_after at dots (e6.whole inside x) (parameters_of i.fuel (x.first ∷ x.more))) (λ l. e6.rest_after at dots (e6.whole inside x) (parameters_of (j l).fuel (x.first ∷ x.more))) = λ dots. rest-after at dots (e6.whole inside x) (deep (λ n. parameters_of n (x.first ∷ x.more)) h.fuel (λ k more. kept-parameters-of k more (x.first ∷ x.more))) in
          record { more = λ ts us vs t m last. (k t.span.begin).more ts us vs t m last; there = λ c last. (k e.span.begin).there c last; first = λ last. (k 0).first last }

  grouped : (f : Flags) (role : Role) (at : ℕ) → Keeps e (e6.grouped i f role at) (λ l. e6.grouped (j l) f role at)
  unfolding e6.grouped
  grouped f role at = either (is_leading role) (next (a-mark marks.RightParenthesis refl) (λ t. covered at None None) (begins (primary'.dots_from i f role at) (λ l. primary'.dots_from (j l) f role at) (λ dots. next (a-mark marks.Ellipsis refl) (λ t. covered-rest at dots None) (held-group f role at)))) (held-group f role at)

  -- ## Primary expressions

  bracketed : (f : Flags) (role : Role) (at : ℕ) → KeepsIf e (Plain e role) Any (e6.bracketed i f role at) (λ l. e6.bracketed (j l) f role at)
  unfolding e6.bracketed
  bracketed f role at = group h marks.LeftBracket refl (bind (turned i.fuel (λ l m. e6.elements (j l) f m) h.fuel (elements f i.fuel)) λ l. done λ a b n. refl) (group h marks.LeftBrace refl (bind (turned i.fuel (λ l m. e6.properties (j l) f m) h.fuel (properties f i.fuel)) λ x. done λ a b n. refl) (no-operand role))

  composed : (f : Flags) (role : Role) (at : ℕ) → KeepsIf e (Plain e role) Any (e6.composed i f role at) (λ l. e6.composed (j l) f role at)
  unfolding e6.composed
  composed f role at = next (a-word (codes "function") refl) (λ t. bind (function h true at) λ x. done λ a b n. refl) (next (a-word (codes "class") refl) (λ t. bind (class h f true at) λ x. done λ a b n. refl) (on-template h f at (λ m. returns (e6.left (expr.Template m))) (λ l m. returns (e6.left (expr.Template m))) (λ m. done λ a b n. refl) (group h marks.LeftParenthesis refl (grouped f role at) (bracketed f role at))))

  -- where neither a name nor a literal stands
  in-stops : (f : Flags) (role : Role) (at last : ℕ) (s : Span) (n : Bool) → e6.composed i f role at (input (at_kind s n (Word (codes "in")) ∷ []) last) ≡ Fault Syntax (at_kind s n (Word (codes "in")) ∷ [])
  unfolding e6.composed e6.bracketed no_expression no_number
  in-stops f Leading at last s n = refl
  in-stops f Among at last s n = refl
  in-stops f Heritage at last s n = refl
  in-stops f Callee at last s n = refl

  marked-stops : (f : Flags) (role : Role) (at last : ℕ) (s : Span) (n : Bool) → e6.composed i f role at (input (at_kind s n (Number Marked) ∷ []) last) ≡ Fault (Outside 3) (at_kind s n (Number Marked) ∷ [])
  unfolding e6.composed e6.bracketed no_expression no_number
  marked-stops f Leading at last s n = refl
  marked-stops f Among at last s n = refl
  marked-stops f Heritage at last s n = refl
  marked-stops f Callee at last s n = refl

  large-stops : (f : Flags) (role : Role) (at last : ℕ) (s : Span) (n : Bool) → e6.composed i f role at (input (at_kind s n (Number TooLarge) ∷ []) last) ≡ Fault (Outside 4) (at_kind s n (Number TooLarge) ∷ [])
  unfolding e6.composed e6.bracketed no_expression no_number
  large-stops f Leading at last s n = refl
  large-stops f Among at last s n = refl
  large-stops f Heritage at last s n = refl
  large-stops f Callee at last s n = refl

  literal : (f : Flags) (role : Role) (at : ℕ) → KeepsIf e (Calm e role) Any (on literal_at (λ value. made at (λ span. e6.left (expr.Literal span value))) (e6.composed i f role at)) (λ l. on literal_at (λ value. made at (λ span. e6.left (expr.Literal span value))) (e6.composed (j l) f role at))
  literal f role at = next-by literal_at (λ value. (done λ a b n. refl).onward) (composed f role at) (λ c last. each (λ e. Made e last)
      (λ s n d k. k (d, ((λ m. absurd (cc)), (λ m. absurd (cc))))) (λ s n d k. k (d, ((λ m. absurd (cc)), (λ m. absurd (cc))))) (λ s n d k. k (d, ((λ m. absurd (cc)), (λ m. absurd (cc)))))
      (λ s n d k. subst (λ o. Rel (place marked s n) Any (λ l. literals (j l) (at_kind s n (Number (Whole (pos 0)))) last) (λ l. literals (j l) (at_kind s n (Number (Whole (pos 0)))) last) o) (sym (marked-stops f role at last s n)) (here (outside (0, λ l m. inl (refl, tt)) (λ y. absurd (false≢true y)))))
      (λ s n d k. subst (λ o. Rel (place too_large s n) Any (λ l. literals (j l) (at_kind s n (Number (Whole (pos 0)))) last) (λ l. literals (j l) (at_kind s n (Number (Whole (pos 0)))) last) o) (sym (large-stops f role at last s n)) (here (outside (0, λ l m. inl (refl, tt)) (λ y. absurd (false≢true y)))))
      (λ s n d k. k (d, ((λ m. absurd (cc)), (λ m. absurd (cc))))) e c (λ d. (composed f role at).onward.there d last))
    where
      literals : Inner → Filled → ℕ → Outcome Reading
      literals i t last = on literal_at (λ value. made at (λ span. e6.left (expr.Literal span value))) (e6.composed i f role at) (input (t ∷ []) last)

      Made : Place → ℕ → Type 0
      Made e last = Calm e role → (Plain e role → Rel e Any (λ l. e6.composed (j l) f role at (input (one_of e ∷ []) last)) (λ l. e6.composed (j l) f role at (input (two_of e ∷ []) last)) (e6.composed i f role at (input (it e ∷ []) last)))
          → Rel e Any (λ l. literals (j l) (one_of e) last) (λ l. literals (j l) (two_of e) last) (literals i (it e) last)

  primary : (f : Flags) (role : Role) (at : ℕ) → KeepsIf e (Calm e role) Any (e6.primary i f role at) (λ l. e6.primary (j l) f role at)
  unfolding e6.primary
  primary f role at = next (a-word (codes "this") refl) (λ t. done λ a b n. refl) (free (λ name. done λ a b n. refl) (literal f role at) (λ s n last. inr (in-stops f role at last s n)))

  -- ## Accesses and calls

  after-new : (f : Flags) (at : ℕ) → Keeps e (e6.after_new i f at) (λ l. e6.after_new (j l) f at)
  unfolding e6.after_new e6.after_callee
  after-new f at = next (a-mark marks.Dot refl) (λ t. bind (take (a-word (codes "target") refl)) λ u. done λ a b n. refl) (bind (h.callee f) λ x. group h marks.LeftParenthesis refl (bind (arguments f) λ y. done λ a b n. refl) (done λ a b n. refl))

  after-super : (f : Flags) (role : Role) (at : ℕ) → Keeps e (e6.after_super i f role at) (λ l. e6.after_super (j l) f role at)
  unfolding e6.after_super e6.super_call
  after-super f role at = next (a-mark marks.Dot refl) (λ t. bind any-name λ n. done λ a b n. refl) (group h marks.LeftBracket refl (bind (h.sequence (with_in f)) λ x. bind (take (a-mark marks.RightBracket refl)) λ t. done λ a b n. refl) (either (has_calls role) (group h marks.LeftParenthesis refl (bind (arguments f) λ x. done λ a b n. refl) nowhere) nowhere))

  head : (f : Flags) (role : Role) (at : ℕ) → KeepsIf e (Calm e role) Any (e6.head i f role at) (λ l. e6.head (j l) f role at)
  unfolding e6.head
  head f role at = next (a-word (codes "new") refl) (λ t. after-new f at) (next (a-word (codes "super") refl) (λ t. after-super f role at) (primary f role at))

  member-link : (at : ℕ) → Keeps e (e6.member_link at) (λ l. e6.member_link at)
  unfolding e6.member_link
  member-link at = bind any-name λ n. done λ a b n. refl

  index : (f : Flags) (at : ℕ) → Keeps e (e6.index_link i f at) (λ l. e6.index_link (j l) f at)
  unfolding e6.index_link
  index f at = bind (h.sequence (with_in f)) λ x. bind (take (a-mark marks.RightBracket refl)) λ t. done λ a b n. refl

  call : (f : Flags) (at : ℕ) → Keeps e (e6.call_link i f at) (λ l. e6.call_link (j l) f at)
  unfolding e6.call_link
  call f at = bind (arguments f) λ x. done λ a b n. refl

  on-link : (f : Flags) (calls : Bool) (at : ℕ) (p : Link → Parser (List Link)) (p' : ℕ → Link → Parser (List Link)) {q : Parser (List Link)} {q' : ℕ → Parser (List Link)} → ((x : Link) → Keeps e (p x) (λ l. p' l x)) → Keeps e q q' → Keeps e (e6.on_link i f calls at p q) (λ l. e6.on_link (j l) f calls at (p' l) (q' l))
  on-link f calls at p p' k g = next (a-mark marks.Dot refl) (λ t. bind (member-link at) λ x. k x) (group h marks.LeftBracket refl (bind (index f at) λ x. k x) (on-template h f at (λ m. p (link.Tagged m)) (λ l m. p' l (link.Tagged m)) (λ m. k (link.Tagged m)) (either calls (group h marks.LeftParenthesis refl (bind (call f at) λ x. k x) g) g)))

  links : (f : Flags) (calls : Bool) (n : ℕ) → Keeps e (e6.links i f calls n) (λ l. e6.links (j l) f calls (plus n (suc l)))
  unfolding e6.links
  links f true zero = gave-up (λ l last. (refl, tt))
  links f false zero = gave-up (λ l last. (refl, tt))
  links f calls (suc n) = begins (primary'.links_from i f calls (e6.links i f calls n)) (λ l. primary'.links_from (j l) f calls (e6.links (j l) f calls (plus n (suc l)))) (λ at. on-link f calls at (λ x c. after (e6.links i f calls n c) (λ ls. returns (x ∷ ls))) (λ l x c. after (e6.links (j l) f calls (plus n (suc l)) c) (λ ls. returns (x ∷ ls))) (λ x. bind (links f calls n) λ ls. done λ a b n. refl) (done λ a b n. refl))

  pub chain : (f : Flags) (role : Role) → KeepsIf e (Calm e role) Any (e6.chain i f role) (λ l. e6.chain (j l) f role)
  unfolding e6.chain
  chain f role = begins (primary'.chain_from i f role) (λ l. primary'.chain_from (j l) f role) (λ at. bind (head f role at) λ x. bind (turned i.fuel (λ l m. e6.links (j l) f (has_calls role) m) h.fuel (links f (has_calls role) i.fuel)) λ ls. done λ a b n. refl)

  -- ## Operators

  postfix : (f : Flags) (role : Role) → KeepsIf e (Calm e role) Any (e6.postfix i f role) (λ l. e6.postfix (j l) f role)
  unfolding e6.postfix
  postfix f role = begins (levels'.postfix_from i f role) (λ l. levels'.postfix_from (j l) f role) (λ at. bind (chain f role) λ x. next a-after (λ op. done λ a b n. refl) (done λ a b n. refl))

  prefixed : (f : Flags) (at : ℕ) (op : UnaryOperator) → Keeps e (e6.prefixed i f at op) (λ l. e6.prefixed (j l) f at op)
  unfolding e6.prefixed
  prefixed f at op = bind (h.unary f) λ x. done λ a b n. refl

  update : (f : Flags) (role : Role) → KeepsIf e (Calm e role) Any (e6.update i f role) (λ l. e6.update (j l) f role)
  unfolding e6.update e6.updated
  update f role = begins (levels'.update_from i f role) (λ l. levels'.update_from (j l) f role) (λ at. next a-before (λ op. bind (h.unary f) λ x. done λ a b n. refl) (postfix f role))

  -- a slash where an expression may begin
  slash-stops : (f : Flags) (role : Role) → is_tail role ≡ false → (last : ℕ) (s : Span) (n : Bool) → e6.update i f role (input (at_kind s n (Punctuator marks.Slash) ∷ []) last) ≡ Fault (Outside 2) (at_kind s n (Punctuator marks.Slash) ∷ [])
  unfolding e6.update e6.postfix e6.chain e6.head e6.primary e6.composed e6.bracketed no_expression
  slash-stops f Leading e last s n = refl
  slash-stops f Among e last s n = refl
  slash-stops f Heritage e last s n = absurd (false≢true (sym e))
  slash-stops f Callee e last s n = absurd (false≢true (sym e))

  assign-stops : (f : Flags) (role : Role) → is_tail role ≡ false → (last : ℕ) (s : Span) (n : Bool) → e6.update i f role (input (at_kind s n (Punctuator marks.SlashAssign) ∷ []) last) ≡ Fault (Outside 2) (at_kind s n (Punctuator marks.SlashAssign) ∷ [])
  unfolding e6.update e6.postfix e6.chain e6.head e6.primary e6.composed e6.bracketed no_expression
  assign-stops f Leading e last s n = refl
  assign-stops f Among e last s n = refl
  assign-stops f Heritage e last s n = absurd (false≢true (sym e))
  assign-stops f Callee e last s n = absurd (false≢true (sym e))

  -- what begins with an operator before an operand, or with what is updated
  operated : (f : Flags) (role : Role) (at : ℕ) (q : Parser Reading) (q' : ℕ → Parser Reading) → KeepsIf e (Calm e role) Any q q'
      → ((last : ℕ) (s : Span) (n : Bool) → q (input (at_kind s n (Punctuator marks.Slash) ∷ []) last) ≡ Fault (Outside 2) (at_kind s n (Punctuator marks.Slash) ∷ []))
      → ((last : ℕ) (s : Span) (n : Bool) → q (input (at_kind s n (Punctuator marks.SlashAssign) ∷ []) last) ≡ Fault (Outside 2) (at_kind s n (Punctuator marks.SlashAssign) ∷ []))
      → Keeps e (on unary_at (λ op. e6.prefixed i f at op) q) (λ l. on unary_at (λ op. e6.prefixed (j l) f at op) (q' l))
  unfolding unary_operators
  operated f role at q q' k slashes assigns = next-by unary_at (λ op. (prefixed f at op).onward) k (λ c last. each (λ e. Made e last)
      (λ s n d m. m (λ y. absurd (cc)))
      (λ s n d m. subst (λ o. Rel (place slash s n) Any (λ l. e6.prefixed (j l) f at Not (none s.end)) (λ l. e6.prefixed (j l) f at Not (none s.end)) o) (sym (slashes last s n)) (here (outside (0, λ l y. inl (d l s.end)) (λ y. absurd (false≢true y)))))
      (λ s n d m. subst (λ o. Rel (place slash_assign s n) Any (λ l. e6.prefixed (j l) f at Not (none s.end)) (λ l. e6.prefixed (j l) f at Not (none s.end)) o) (sym (assigns last s n)) (here (outside (0, λ l y. inl (d l s.end)) (λ y. absurd (false≢true y)))))
      (λ s n d m. m (λ y. absurd (cc))) (λ s n d m. m (λ y. absurd (cc))) (λ s n d m. m (λ y. absurd (cc))) e (λ l last. (prefixed f at Not).second l last) (λ d. k.onward.there d last))
    where
      Made : Place → ℕ → Type 0
      Made e last = ((l last : ℕ) → Over Any (e6.prefixed (j l) f at Not (none last))) → (Calm e role → Rel e Any (λ l. q' l (input (one_of e ∷ []) last)) (λ l. q' l (input (two_of e ∷ []) last)) (q (input (it e ∷ []) last)))
          → Rel e Any (λ l. on unary_at (λ op. e6.prefixed (j l) f at op) (q' l) (input (one_of e ∷ []) last)) (λ l. on unary_at (λ op. e6.prefixed (j l) f at op) (q' l) (input (two_of e ∷ []) last)) (on unary_at (λ op. e6.prefixed i f at op) q (input (it e ∷ []) last))

  raised : (f : Flags) (at : ℕ) (x : Reading) → Keeps e (e6.raised i f at x) (λ l. e6.raised (j l) f at x)
  unfolding e6.raised
  raised f at x = next (a-mark marks.StarStar refl) (λ t. bind (h.power f) λ y. done λ a b n. refl) (done λ a b n. refl)

  pub power : (f : Flags) (role : Role) → is_tail role ≡ false → Keeps e (e6.power i f role) (λ l. e6.power (j l) f role)
  unfolding e6.power
  power f role tail = begins (levels'.power_from i f role) (λ l. levels'.power_from (j l) f role) (λ at. operated f role at (λ c. after (e6.update i f role c) (λ x. e6.raised i f at x)) (λ l c. after (e6.update (j l) f role c) (λ x. e6.raised (j l) f at x)) (bind (update f role) λ x. raised f at x)
      (λ last s n. ap (λ o. after o (λ x. e6.raised i f at x)) (slash-stops f role tail last s n)) (λ last s n. ap (λ o. after o (λ x. e6.raised i f at x)) (assign-stops f role tail last s n)))

  operands : (f : Flags) (level : ℕ) (q : Parser Reading) (q' : ℕ → Parser Reading) → Keeps e q q' → (n : ℕ) → Keeps e (e6.operands q f level n) (λ l. e6.operands (q' l) f level (plus n (suc l)))
  unfolding e6.operands
  operands f level q q' k zero = gave-up (λ l last. (refl, tt))
  operands f level q q' k (suc n) = next (a-binary f level) (λ op. bind k λ x. bind (operands f level q q' k n) λ y. done λ a b n. refl) (done λ a b n. refl)

  binary : (f : Flags) (role : Role) → is_tail role ≡ false → (up level : ℕ) → Keeps e (e6.binary_from i f role up level) (λ l. e6.binary_from (j l) f role up level)
  unfolding e6.binary_from
  binary f role tail zero level = power f role tail
  binary f role tail (suc up) level = begins (levels'.binary_body i f role up level) (λ l. levels'.binary_body (j l) f role up level) (λ at. bind (binary f role tail up (level + 1)) λ x. bind (turned i.fuel (λ l m. e6.operands (e6.binary_from (j l) f Among up (level + 1)) f level m) h.fuel (operands f level _ _ (binary f Among refl up (level + 1)) i.fuel)) λ y. done λ a b n. refl)

  conditional : (f : Flags) → Keeps e (e6.conditional i f) (λ l. e6.conditional (j l) f)
  unfolding e6.conditional e6.branches
  conditional f = begins (levels'.conditional_from i f) (λ l. levels'.conditional_from (j l) f) (λ at. bind (binary f Leading refl 10 3) λ x. next (a-mark marks.Question refl) (λ t. bind (h.assignment (with_in f)) λ y. bind (take (a-mark marks.Colon refl)) λ u. bind (h.assignment f) λ z. done λ a b n. refl) (done λ a b n. refl))

  -- ## Arrow functions, assignment and yield

  arrow-body : (f : Flags) (at : ℕ) (es : List Parameter) → Keeps e (e6.arrow_body i f at es) (λ l. e6.arrow_body (j l) f at es)
  unfolding e6.arrow_body
  arrow-body f at es = looks (u-mark marks.LeftBrace refl) (bind (h.block (of_function false)) λ b. done λ a b n. refl) (bind (h.assignment (of_arrow f)) λ x. done λ a b n. refl)

  arrow-if : (f : Flags) (at : ℕ) (x : Reading) (r : Refined (List Parameter)) (r' : ℕ → Refined (List Parameter)) → ((l : ℕ) → Deeper (suc l) r (r' l)) → Onward e (Unit {0}) Any (e6.arrow_if i f at x r) (λ l. e6.arrow_if (j l) f at x (r' l))
  arrow-if f at x (Fits es) r' d = onward-along (λ l. ap (λ r. e6.arrow_if (j l) f at x r) (same-fit (λ k. absurd (cc)) (d l))) (next a-arrow (λ t. arrow-body f at es) nowhere).onward
  arrow-if f at x (Misfit place) r' d = onward-along (λ l. ap (λ r. e6.arrow_if (j l) f at x r) (same-fit (λ k. absurd (cc)) (d l))) (either (is_covered x.shape) nowhere (done λ a b n. refl)).onward
  arrow-if f at x TooNested r' d = gave-onward

  assigned-with : (f : Flags) (at : ℕ) (x : Expression) (op : AssignOperator) → Onward e (Unit {0}) Any (e6.assigned_with i f at x op) (λ l. e6.assigned_with (j l) f at x op)
  unfolding e6.assigned_with
  assigned-with f at x op = onward-bind (fitting (deep (λ n. target_before n op x) h.fuel (λ k more. kept-before k more op x))) (λ q. (bind (h.assignment f) λ y. done λ a b n. refl).onward) (λ q w l last. over-bind Any Any ((j l).assignment f (none last)) _ ((h.assignment f).second l last) (λ y v m. (refl, tt)))

  after-conditional : (f : Flags) (at : ℕ) (x : Reading) → Keeps e (e6.after_conditional i f at x) (λ l. e6.after_conditional (j l) f at x)
  unfolding e6.after_conditional
  after-conditional f at x = looks-more u-arrow (arrow-if f at x (e6.parameters_before i.fuel x.shape x.value) (λ l. e6.parameters_before (j l).fuel x.shape x.value) (deep (λ n. e6.parameters_before n x.shape x.value) h.fuel (λ k more. kept-parameters-before k more x.shape x.value))).more (either (is_left x.shape) (next-onward a-assign (λ op. assigned-with f at x.value op) (done λ a b n. refl)) (done λ a b n. refl))

  after-yield : (f : Flags) (at : ℕ) → Keeps e (e6.after_yield i f at) (λ l. e6.after_yield (j l) f at)
  unfolding e6.after_yield
  after-yield f at = next a-star (λ t. bind (h.assignment f) λ x. done λ a b n. refl) (looks-alike l-yield (bind (h.assignment f) λ x. done λ a b n. refl) (done λ a b n. refl))

  without-yield : (f : Flags) (at : ℕ) → Keeps e (e6.without_yield i f at) (λ l. e6.without_yield (j l) f at)
  unfolding e6.without_yield
  without-yield f at = bind (conditional f) λ x. after-conditional f at x

  pub assignment : (f : Flags) → Keeps e (e6.assignment i f) (λ l. e6.assignment (j l) f)
  unfolding e6.assignment
  assignment f = begins (levels'.assignment_from i f) (λ l. levels'.assignment_from (j l) f) (λ at. either f.has_yield (next (a-word (codes "yield") refl) (λ t. after-yield f at) (without-yield f at)) (without-yield f at))

  parts : (f : Flags) (n : ℕ) → Keeps e (e6.parts i f n) (λ l. e6.parts (j l) f (plus n (suc l)))
  unfolding e6.parts
  parts f zero = gave-up (λ l last. over-bind Any Any (e6.assignment (j l) f (none last)) _ ((assignment f).second l last) (λ x w n. (refl, tt)))
  parts f (suc n) = bind (assignment f) λ x. next (a-mark marks.Comma refl) (λ t. bind (parts f n) λ y. done λ a b n. refl) (done λ a b n. refl)

  pub sequence : (f : Flags) → Keeps e (e6.sequence i f) (λ l. e6.sequence (j l) f)
  unfolding e6.sequence e6.more_parts
  sequence f = begins (levels'.sequence_from i f) (λ l. levels'.sequence_from (j l) f) (λ at. bind (assignment f) λ x. next (a-mark marks.Comma refl) (λ t. bind (turned i.fuel (λ l m. e6.parts (j l) f m) h.fuel (parts f i.fuel)) λ y. done λ a b n. refl) (done λ a b n. refl))

  pub unary : (f : Flags) → Keeps e (e6.unary i f) (λ l. e6.unary (j l) f)
  unfolding e6.unary
  unary f = begins (levels'.unary_from i f) (λ l. levels'.unary_from (j l) f) (λ at. operated f Among at (e6.update i f Among) (λ l. e6.update (j l) f Among) (update f Among) (slash-stops f Among refl) (assign-stops f Among refl))

  -- ## Properties

  after-key : (f : Flags) (at : ℕ) (k : Key) → Keeps e (e6.after_key i f at k) (λ l. e6.after_key (j l) f at k)
  unfolding e6.after_key e6.value_of_key e6.method_of_key
  after-key f at k = next (a-mark marks.Colon refl) (λ t. bind (assignment (with_in f)) λ x. done λ a b n. refl) (bind (method-after-key h PlainMethod false at k) λ m. done λ a b n. refl)

  after-name : (f : Flags) (at : ℕ) (n : Identifier) → Keeps e (e6.after_name i f at n) (λ l. e6.after_name (j l) f at n)
  unfolding e6.after_name e6.shorthand
  after-name f at n = looks u-value-or-method (after-key f at _) (next (a-mark marks.Assign refl) (λ t. bind (h.assignment (with_in f)) λ x. done λ a b n. refl) (done λ a b n. refl))

  after-accessor-word : (f : Flags) (at : ℕ) (setter : Bool) → Keeps e (e6.after_accessor_word i f at setter) (λ l. e6.after_accessor_word (j l) f at setter)
  unfolding e6.after_accessor_word
  after-accessor-word f at setter = valued (λ n. if_next e6.ends_name (e6.after_name i f at n) (λ c. after (t6.accessor i f at setter c) (λ m. returns (property.Defined m)))) (λ l n. if_next e6.ends_name (e6.after_name (j l) f at n) (λ c. after (t6.accessor (j l) f at setter c) (λ m. returns (property.Defined m)))) (λ c. record { span = record { begin = at; end = c.last }; name = accessor_name setter }) (λ a b n. refl)
      (λ n. looks u-ends-name (after-name f at n) (bind (accessor h f at setter) λ m. done λ a b n. refl))

  pub property_ : (f : Flags) → Keeps e (e6.one_property i f) (λ l. e6.one_property (j l) f)
  unfolding e6.one_property t6.key e6.after_key e6.method_of_key t6.method_after_key t6.signature refused
  property_ f = begins (levels'.property_from i f) (λ l. levels'.property_from (j l) f) (λ at. next (a-mark marks.Star refl) (λ t. bind (generator-method h f at) λ m. done λ a b n. refl) (next a-accessor (λ setter. after-accessor-word f at setter) (free
      (λ name. valued (λ n. e6.after_name i f at n) (λ l n. e6.after_name (j l) f at n) (λ c. record { span = record { begin = at; end = c.last }; name = name }) (λ a b n. refl) (λ n. after-name f at n))
      (bind (key h f) λ k. after-key f at k) (λ s n last. inl refl))))
