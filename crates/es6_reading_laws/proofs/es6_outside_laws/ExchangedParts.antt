-- Readers of names, keys, patterns, parameters, functions, classes and templates, of tokens of which one is exchanged.
use Rattle.std.specs.Prelude.{codes, ◌||◌}
use Rattle.std.proofs.Common.{◌≡◌, inl, inr, ℕ, zero, suc, ◌≤◌, Bool, true, false, List, [], ◌∷◌, Option, Some, None, refl, sym, ap, subst}
use Rattle.std.proofs.lemmas.Bool.{false≢true}
use Rattle.es6_lexer.specs.declared.token.Punctuator.{Punctuator as Mark}
use Rattle.es6_lexer.specs.declared.token.Punctuator.TheVariants as marks
use Rattle.es6_ast.specs.declared.operators.AssignOperator.TheVariants as assign
use Rattle.es6_ast.specs.declared.operators.MethodKind.{MethodKind}
use Rattle.es6_ast.specs.declared.operators.MethodKind.TheVariants.{PlainMethod}
use Rattle.es6_ast.specs.declared.tree.Identifier.{Identifier}
use Rattle.es6_ast.specs.declared.tree.Key.{Key}
use Rattle.es6_ast.specs.declared.tree.Key.TheVariants.{WordKey}
use Rattle.es6_ast.specs.declared.tree.ArrayPart.TheVariants.{RestPart}
use Rattle.es6_ast.specs.declared.tree.Parameter.TheVariants.{RestParameter}
use Rattle.es6_ast.specs.declared.tree.Stretch.{Stretch}
use Rattle.es6_ast.specs.declared.tree.Template.{Template, roll-Template}
use Rattle.es6_ast.specs.declared.settings.Flags.{Flags}
use Rattle.es6_ast.specs.declared.settings.Stand.{Stand}
use Rattle.es6_ast.specs.declared.settings.Stand.TheVariants.{Listed}
use Rattle.es6_ast.specs.declared.settings.Stop.{Stop}
use Rattle.es6_ast.specs.declared.settings.Stop.TheVariants.{Depth, Endless, Syntax}
use Rattle.es6_ast.specs.Tokens.{Filled}
use Rattle.es6_ast.specs.Grammar.{with_in, of_function, name_target}
use Rattle.es6_reading.specs.Laws.{IsFinal}
use Rattle.es6_reading.specs.Parser.{ends_block, Input, Outcome, Took, Fault, Parser, Reading, Inner, fails, after, on, choose, if_next, on_group, returns, made, next_mark, mark, refused, no_number, take_as, semicolon, semicolon_of_do_while, inserts, inserts_anywhere}
use Rattle.es6_reading.specs.Refine.{TooNested, target_before}
use Rattle.es6_reading.specs.Words.{free_name, key_at, accessor_name}
use Rattle.es6_reading.specs.Parts as t6
use Rattle.es6_reading.proofs.Follows.{plus}
use Rattle.es6_reading.proofs.FollowParts as parts'
use Rattle.es6_reading_laws.proofs.es6_outside_laws.Exchanged.{Place, it, one_of, two_of, input, none, Any, Over, Rel, here, gone, before, limit, outside, stuck, KeepsIf, Keeps, stopped, over-bind, along, bind, either, begins, next, next-by, looks, looks-alike, swap, done}
use Rattle.es6_reading_laws.proofs.es6_outside_laws.Tests.{other_mark, each, a-mark, a-word, a-any, a-accessor, a-stretch, a-ending, u-mark, u-stretch, u-class-tail, l-true, l-insertable, nowhere, take, free}

-- ## Limits

pub halts : {e : Place} {A : Type 0} {C : Type 0} {W : A → Type 0} (stop : Stop) → (IsFinal stop → ⊥) → (stop ≡ Endless → ⊥) → KeepsIf e {A = A} C W (fails stop) (λ l. fails stop)
halts stop h k = record { onward = record { more = λ ts us vs t m last. before m; there = λ c last. here (limit h); first = λ last. refl }; second = λ l last. (k, refl) }

pub gave-up : {e : Place} {A : Type 0} {C : Type 0} {W : A → Type 0} {p' : ℕ → Parser A} → ((l last : ℕ) → Over W (p' l (none last))) → KeepsIf e C W (fails Endless) p'
gave-up h = record { onward = record { more = λ ts us vs t m last. before m; there = λ c last. here (limit (λ k. k)); first = λ last. refl }; second = h }

module _ {e : Place} {A : Type 0} {C : Type 0} {W : A → Type 0} where
  pub opened : {p : Parser A} {p' : ℕ → Parser A} {b : Bool} {b' : ℕ → Bool} → ((l : ℕ) → b' l ≡ b) → KeepsIf e C W p p' → KeepsIf e C W (choose b p (fails Depth)) (λ l. choose (b' l) (p' l) (fails Depth))
  opened {p' = p'} {b = b} h k = along (λ l. ap (λ v. choose v (p' l) (fails Depth)) (h l)) (either b k (halts Depth (λ k. k) (λ k. absurd (cc))))

  pub turned : {p : Parser A} {m : ℕ → ℕ} (n : ℕ) (p' : ℕ → ℕ → Parser A) → ((l : ℕ) → m l ≡ plus n (suc l)) → KeepsIf e C W p (λ l. p' l (plus n (suc l))) → KeepsIf e C W p (λ l. p' l (m l))
  turned n p' h k = along (λ l. ap (λ v. p' l v) (h l)) k

  pub inserted : {p : Parser A} {b : Bool} {b' : ℕ → Bool} → ((l : ℕ) → b' l ≡ b) → KeepsIf e C W p (λ l. p) → KeepsIf e C W (choose b p refused) (λ l. choose (b' l) p refused)
  inserted {p = p} {b = b} h k = along (λ l. ap (λ v. choose v p refused) (h l)) (either b k nowhere)

-- what depends on the end of the last token
pub valued : {e : Place} {X A : Type 0} {C : Type 0} {W : A → Type 0} (p : X → Parser A) (p' : ℕ → X → Parser A) (g : Input → X) → ((ts us : List Filled) (last : ℕ) → g (input us last) ≡ g (input ts last)) → ((x : X) → KeepsIf e C W (p x) (λ l. p' l x)) → KeepsIf e C W (λ c. p (g c) c) (λ l c. p' l (g c) c)
valued {e = e} p p' g h k = record {
  onward = record {
    more = λ ts us vs t m last. swap (λ l. ap (λ x. p' l x (input (t ∷ us) last)) (h (t ∷ ts) (t ∷ us) last)) (λ l. ap (λ x. p' l x (input (t ∷ vs) last)) (h (t ∷ ts) (t ∷ vs) last)) ((k (g (input (t ∷ ts) last))).onward.more ts us vs t m last);
    there = λ c last. swap (λ l. ap (λ x. p' l x (input (one_of e ∷ []) last)) (h (it e ∷ []) (one_of e ∷ []) last)) (λ l. ap (λ x. p' l x (input (two_of e ∷ []) last)) (h (it e ∷ []) (two_of e ∷ []) last)) ((k (g (input (it e ∷ []) last))).onward.there c last);
    first = λ last. (k (g (none last))).onward.first last;
  };
  second = λ l last. (k (g (none last))).second l last;
}

abbrev pub Halts : {A : Type 0} → Outcome A → Type 0
Halts o = (stop : Stop) × (o ≡ Fault stop []) × (stop ≡ Endless → ⊥)

pub over-halt : {A B : Type 0} (V : B → Type 0) (o : Outcome A) (q : A → Parser B) → Halts o → Over V (after o q)
over-halt V o q h = subst (λ o. Over V (after o q)) (sym h.1) (h.2, refl)

-- Where readers read inside themselves, of which the loops of the others have more turns: these stop where nothing follows, if they take
-- a token; and what is assigned in turn isn't nested too far for some turns.
pub record Pairs (e : Place) (i : Inner) (j : ℕ → Inner) : Type 0 where
  pub inserting : i.inserting ≡ true
  pub mode : (l : ℕ) → (j l).inserting ≡ i.inserting
  pub opens : (l : ℕ) → (j l).may_open ≡ i.may_open
  pub fuel : (l : ℕ) → (j l).fuel ≡ plus i.fuel (suc l)
  pub sequence : (f : Flags) → Keeps e (i.sequence f) (λ l. (j l).sequence f)
  pub assignment : (f : Flags) → Keeps e (i.assignment f) (λ l. (j l).assignment f)
  pub power : (f : Flags) → Keeps e (i.power f) (λ l. (j l).power f)
  pub unary : (f : Flags) → Keeps e (i.unary f) (λ l. (j l).unary f)
  pub callee : (f : Flags) → Keeps e (i.callee f) (λ l. (j l).callee f)
  pub heritage : (f : Flags) → Keeps e (i.heritage f) (λ l. (j l).heritage f)
  pub block : (f : Flags) → Keeps e (i.block f) (λ l. (j l).block f)
  pub property : (f : Flags) → Keeps e (i.property f) (λ l. (j l).property f)
  pub target : (f : Flags) → Keeps e (i.target f) (λ l. (j l).target f)
  pub part : (f : Flags) → Keeps e (i.part f) (λ l. (j l).part f)
  pub object_part : (f : Flags) → Keeps e (i.object_part f) (λ l. (j l).object_part f)
  pub variable : (f : Flags) → Keeps e (i.variable f) (λ l. (j l).variable f)
  pub member : (f : Flags) → Keeps e (i.member f) (λ l. (j l).member f)
  pub statement : (f : Flags) (stand : Stand) → Keeps e (i.statement f stand) (λ l. (j l).statement f stand)
  pub sequence_ends : (f : Flags) (l last : ℕ) → Halts ((j l).sequence f (none last))
  pub member_ends : (f : Flags) (l last : ℕ) → Halts ((j l).member f (none last))
  pub statement_ends : (f : Flags) (stand : Stand) (l last : ℕ) → Halts ((j l).statement f stand (none last))
  pub nests : (f : Flags) (s c : Input) (x : Reading) → i.sequence f s ≡ Took x c → (b : ℕ) × ((n : ℕ) → b ≤ n → target_before n assign.Assign x.value ≡ TooNested → ⊥)

-- ## Semicolons

pub insertion : {e : Place} → Keeps e inserts (λ l. inserts)
insertion {e = e} = looks-alike {test = λ t. t.newline || ends_block t.kind} l-insertable (done λ a b n. refl) nowhere

pub insertion-anywhere : {e : Place} → Keeps e inserts_anywhere (λ l. inserts_anywhere)
insertion-anywhere = looks-alike l-true (done λ a b n. refl) nowhere

pub semicolon_ : {e : Place} (i : Inner) (j : ℕ → Inner) → ((l : ℕ) → (j l).inserting ≡ i.inserting) → Keeps e (semicolon i) (λ l. semicolon (j l))
unfolding semicolon
semicolon_ i j h = next (a-ending false) (λ t. done λ a b n. refl) (inserted h insertion)

pub do-while-end : {e : Place} (i : Inner) (j : ℕ → Inner) → ((l : ℕ) → (j l).inserting ≡ i.inserting) → Keeps e (semicolon_of_do_while i) (λ l. semicolon_of_do_while (j l))
unfolding semicolon_of_do_while
do-while-end i j h = next (a-ending true) (λ t. done λ a b n. refl) (inserted h insertion-anywhere)

-- ## Names and numbers

pub name-taken : {e : Place} → Keeps e (take_as free_name) (λ l. take_as free_name)
unfolding refused
name-taken = free (λ x. done λ a b n. refl) nowhere (λ s n last. inr refl)

pub identifier : {e : Place} → Keeps e t6.identifier (λ l. t6.identifier)
unfolding t6.identifier
identifier = begins parts'.identifier_from (λ l. parts'.identifier_from) (λ at. bind name-taken λ x. done λ a b n. refl)

pub any-name : {e : Place} → Keeps e t6.name_of_any_kind (λ l. t6.name_of_any_kind)
unfolding t6.name_of_any_kind
any-name = begins parts'.any_name_from (λ l. parts'.any_name_from) (λ at. bind (take a-any) λ x. done λ a b n. refl)

abbrev pub NoNumber : Place → Type 0
NoNumber e = (e.rule ≡ 3 → ⊥) × (e.rule ≡ 4 → ⊥)

pub number : {e : Place} {A : Type 0} {W : A → Type 0} → KeepsIf e {A = A} (NoNumber e) W no_number (λ l. no_number)
unfolding no_number
number {e = e} {A = A} {W = W} = record {
  onward = record {
    more = λ ts us vs t m last. before m;
    there = λ c last. each (λ e. NoNumber e → Rel e {A = A} W (λ l. no_number (input (one_of e ∷ []) last)) (λ l. no_number (input (two_of e ∷ []) last)) (no_number (input (it e ∷ []) last)))
        (λ s n c. here (stuck (λ k. absurd (cc)) (λ l. (Syntax, refl, tt)))) (λ s n c. here (stuck (λ k. absurd (cc)) (λ l. (Syntax, refl, tt)))) (λ s n c. here (stuck (λ k. absurd (cc)) (λ l. (Syntax, refl, tt))))
        (λ s n c. absurd (c.0 refl)) (λ s n c. absurd (c.1 refl)) (λ s n c. here (stuck (λ k. absurd (cc)) (λ l. (Syntax, refl, tt)))) e c;
    first = λ last. refl;
  };
  second = λ l last. stopped;
}

-- an opening mark, and what stands inside
pub group : {e : Place} {A : Type 0} {C : Type 0} {W : A → Type 0} {p q : Parser A} {p' q' : ℕ → Parser A} {i : Inner} {j : ℕ → Inner} → Pairs e i j → (m : Mark) → (◌≡◌ {A = Bool} (other_mark m) true) → KeepsIf e (Unit {0}) W p p' → KeepsIf e C W q q' → KeepsIf e C W (on_group i m p q) (λ l. on_group (j l) m (p' l) (q' l))
group h m k f g = looks (u-mark m k) (opened h.opens (next (a-mark m k) (λ t. f) g)) g

module _ {e : Place} {i : Inner} {j : ℕ → Inner} (h : Pairs e i j) where
  computed-key : (f : Flags) (at : ℕ) → Keeps e (t6.computed_key i f at) (λ l. t6.computed_key (j l) f at)
  unfolding t6.computed_key
  computed-key f at = bind (h.assignment (with_in f)) λ x. bind (take (a-mark marks.RightBracket refl)) λ t. done λ a b n. refl

  key-choice : (f : Flags) (at : ℕ) → Keeps e (parts'.key_from i f at) (λ l. parts'.key_from (j l) f at)
  unfolding no_number
  key-choice f at = next-by key_at (λ k. (done λ a b n. refl).onward) otherwise (λ c last. each (λ e. Made e last)
      (λ s n k. gone refl) (λ s n k. k ((λ m. absurd (cc)), (λ m. absurd (cc)))) (λ s n k. k ((λ m. absurd (cc)), (λ m. absurd (cc))))
      (λ s n k. here (outside (0, λ l m. inl (refl, tt)) (λ y. absurd (false≢true y)))) (λ s n k. here (outside (0, λ l m. inl (refl, tt)) (λ y. absurd (false≢true y)))) (λ s n k. gone refl) e (λ d. otherwise.onward.there d last))
    where
      otherwise : KeepsIf e (NoNumber e) Any (on_group i marks.LeftBracket (t6.computed_key i f at) no_number) (λ l. on_group (j l) marks.LeftBracket (t6.computed_key (j l) f at) no_number)
      otherwise = group h marks.LeftBracket refl (computed-key f at) number

      Made : Place → ℕ → Type 0
      Made e last = (NoNumber e → Rel e Any (λ l. on_group (j l) marks.LeftBracket (t6.computed_key (j l) f at) no_number (input (one_of e ∷ []) last)) (λ l. on_group (j l) marks.LeftBracket (t6.computed_key (j l) f at) no_number (input (two_of e ∷ []) last)) (on_group i marks.LeftBracket (t6.computed_key i f at) no_number (input (it e ∷ []) last)))
          → Rel e Any (λ l. parts'.key_from (j l) f at (input (one_of e ∷ []) last)) (λ l. parts'.key_from (j l) f at (input (two_of e ∷ []) last)) (parts'.key_from i f at (input (it e ∷ []) last))

  pub key : (f : Flags) → Keeps e (t6.key i f) (λ l. t6.key (j l) f)
  unfolding t6.key
  key f = begins (parts'.key_from i f) (λ l. parts'.key_from (j l) f) (λ at. key-choice f at)

  -- ## Patterns

  rest-part : (at : ℕ) → Keeps e (t6.rest_part at) (λ l. t6.rest_part at)
  unfolding t6.rest_part
  rest-part at = bind identifier λ n. valued (λ x. λ c. after (take_as (mark marks.RightBracket) c) (λ t. returns (x ∷ []))) (λ l x. λ c. after (take_as (mark marks.RightBracket) c) (λ t. returns (x ∷ []))) (λ c. RestPart (record { begin = at; end = c.last }) (name_target n)) (λ a b n. refl) (λ x. bind (take (a-mark marks.RightBracket refl)) λ t. done λ a b n. refl)

  array-parts : (f : Flags) (n : ℕ) → Keeps e (t6.array_parts i f n) (λ l. t6.array_parts (j l) f (plus n (suc l)))
  unfolding t6.array_parts refused
  array-parts f zero = gave-up (λ l last. over-bind Any Any ((j l).part f (none last)) _ ((h.part f).second l last) (λ q w n. stopped))
  array-parts f (suc n) = begins (parts'.array_parts_from i f (t6.array_parts i f n)) (λ l. parts'.array_parts_from (j l) f (t6.array_parts (j l) f (plus n (suc l)))) (λ at. next (a-mark marks.RightBracket refl) (λ t. done λ a b n. refl) (next (a-mark marks.Comma refl) (λ t. bind (array-parts f n) λ x. done λ a b n. refl) (next (a-mark marks.Ellipsis refl) (λ t. rest-part at) (bind (h.part f) λ q. next (a-mark marks.Comma refl) (λ t. bind (array-parts f n) λ x. done λ a b n. refl) (bind (take (a-mark marks.RightBracket refl)) λ t. done λ a b n. refl)))))

  object-parts : (f : Flags) (n : ℕ) → Keeps e (t6.object_parts i f n) (λ l. t6.object_parts (j l) f (plus n (suc l)))
  unfolding t6.object_parts refused
  object-parts f zero = gave-up (λ l last. over-bind Any Any ((j l).object_part f (none last)) _ ((h.object_part f).second l last) (λ q w n. stopped))
  object-parts f (suc n) = next (a-mark marks.RightBrace refl) (λ t. done λ a b n. refl) (bind (h.object_part f) λ q. next (a-mark marks.Comma refl) (λ t. bind (object-parts f n) λ x. done λ a b n. refl) (bind (take (a-mark marks.RightBrace refl)) λ t. done λ a b n. refl))

  binding-pattern : (f : Flags) (at : ℕ) → Keeps e (t6.binding_pattern i f at) (λ l. t6.binding_pattern (j l) f at)
  unfolding t6.binding_pattern
  binding-pattern f at = group h marks.LeftBracket refl (bind (turned i.fuel (λ l m. t6.array_parts (j l) f m) h.fuel (array-parts f i.fuel)) λ x. done λ a b n. refl) (group h marks.LeftBrace refl (bind (turned i.fuel (λ l m. t6.object_parts (j l) f m) h.fuel (object-parts f i.fuel)) λ x. done λ a b n. refl) nowhere)

  pub binding : (f : Flags) → Keeps e (t6.binding i f) (λ l. t6.binding (j l) f)
  unfolding t6.binding t6.binding_pattern refused
  binding f = begins (parts'.binding_from i f) (λ l. parts'.binding_from (j l) f) (λ at. free (λ x. done λ a b n. refl) (binding-pattern f at) (λ s n last. inr refl))

  pub initialized : (f g : Flags) → Keeps e (t6.initialized i f g) (λ l. t6.initialized (j l) f g)
  unfolding t6.initialized
  initialized f g = begins (parts'.initialized_from i f g) (λ l. parts'.initialized_from (j l) f g) (λ at. bind (binding f) λ y. next (a-mark marks.Assign refl) (λ t. bind (h.assignment g) λ x. done λ a b n. refl) (done λ a b n. refl))

  pub one-part : (f : Flags) → Keeps e (t6.one_part i f) (λ l. t6.one_part (j l) f)
  unfolding t6.one_part
  one-part f = initialized f (with_in f)

  keyed-part : (f : Flags) (at : ℕ) (k : Key) → Keeps e (t6.keyed_part i f at k) (λ l. t6.keyed_part (j l) f at k)
  unfolding t6.keyed_part
  keyed-part f at k = bind (one-part f) λ q. done λ a b n. refl

  named-part : (f : Flags) (at : ℕ) (n : Identifier) → Keeps e (t6.named_part i f at n) (λ l. t6.named_part (j l) f at n)
  unfolding t6.named_part
  named-part f at n = next (a-mark marks.Assign refl) (λ t. bind (h.assignment (with_in f)) λ x. done λ a b n. refl) (done λ a b n. refl)

  named-or-keyed : (f : Flags) (at : ℕ) (n : Identifier) → Keeps e (on (mark marks.Colon) (λ t. t6.keyed_part i f at (WordKey n.span n.name)) (t6.named_part i f at n)) (λ l. on (mark marks.Colon) (λ t. t6.keyed_part (j l) f at (WordKey n.span n.name)) (t6.named_part (j l) f at n))
  named-or-keyed f at n = next (a-mark marks.Colon refl) (λ t. keyed-part f at _) (named-part f at n)

  pub object-part : (f : Flags) → Keeps e (t6.one_object_part i f) (λ l. t6.one_object_part (j l) f)
  unfolding t6.one_object_part t6.key refused
  object-part f = begins (parts'.object_part_from i f) (λ l. parts'.object_part_from (j l) f) (λ at. free
      (λ name. valued (λ n. on (mark marks.Colon) (λ t. t6.keyed_part i f at (WordKey n.span n.name)) (t6.named_part i f at n)) (λ l n. on (mark marks.Colon) (λ t. t6.keyed_part (j l) f at (WordKey n.span n.name)) (t6.named_part (j l) f at n)) (λ c. record { span = record { begin = at; end = c.last }; name = name }) (λ a b n. refl) (λ n. named-or-keyed f at n))
      (bind (key f) λ k. bind (take (a-mark marks.Colon refl)) λ t. keyed-part f at k) (λ s n last. inl refl))

  -- ## Parameters and functions

  rest-parameter : (at : ℕ) → Keeps e (t6.rest_parameter at) (λ l. t6.rest_parameter at)
  unfolding t6.rest_parameter
  rest-parameter at = bind identifier λ n. valued (λ x. λ c. after (take_as (mark marks.RightParenthesis) c) (λ t. returns x)) (λ l x. λ c. after (take_as (mark marks.RightParenthesis) c) (λ t. returns x)) (λ c. RestParameter (record { begin = at; end = c.last }) (name_target n)) (λ a b n. refl) (λ x. bind (take (a-mark marks.RightParenthesis refl)) λ t. done λ a b n. refl)

  more-parameters : (f : Flags) (n : ℕ) → Keeps e (t6.more_parameters i f n) (λ l. t6.more_parameters (j l) f (plus n (suc l)))
  unfolding t6.more_parameters refused
  more-parameters f zero = gave-up (λ l last. over-bind Any Any ((j l).part f (none last)) _ ((h.part f).second l last) (λ q w n. stopped))
  more-parameters f (suc n) = begins (parts'.more_parameters_from i f (t6.more_parameters i f n)) (λ l. parts'.more_parameters_from (j l) f (t6.more_parameters (j l) f (plus n (suc l)))) (λ at. next (a-mark marks.Ellipsis refl) (λ t. bind (rest-parameter at) λ x. done λ a b n. refl) (bind (h.part f) λ q. next (a-mark marks.Comma refl) (λ t. bind (more-parameters f n) λ x. done λ a b n. refl) (bind (take (a-mark marks.RightParenthesis refl)) λ t. done λ a b n. refl)))

  parameters : (f : Flags) → Keeps e (t6.parameters i f) (λ l. t6.parameters (j l) f)
  unfolding t6.parameters
  parameters f = next (a-mark marks.RightParenthesis refl) (λ t. done λ a b n. refl) (turned i.fuel (λ l m. t6.more_parameters (j l) f m) h.fuel (more-parameters f i.fuel))

  statements : (f : Flags) (n : ℕ) → Keeps e (t6.statements i f n) (λ l. t6.statements (j l) f (plus n (suc l)))
  unfolding t6.statements
  statements f zero = gave-up (λ l last. over-halt Any ((j l).statement f Listed (none last)) _ (h.statement_ends f Listed l last))
  statements f (suc n) = next (a-mark marks.RightBrace refl) (λ t. done λ a b n. refl) (bind (h.statement f Listed) λ x. bind (statements f n) λ y. done λ a b n. refl)

  pub block : (f : Flags) → Keeps e (t6.block i f) (λ l. t6.block (j l) f)
  unfolding t6.block
  block f = begins (parts'.block_from i f) (λ l. parts'.block_from (j l) f) (λ at. group h marks.LeftBrace refl (bind (turned i.fuel (λ l m. t6.statements (j l) f m) h.fuel (statements f i.fuel)) λ x. done λ a b n. refl) nowhere)

  function-body : (generator : Bool) → Keeps e (t6.function_body i generator) (λ l. t6.function_body (j l) generator)
  unfolding t6.function_body
  function-body generator = group h marks.LeftBrace refl (turned i.fuel (λ l m. t6.statements (j l) (of_function generator) m) h.fuel (statements (of_function generator) i.fuel)) nowhere

  signature : (generator : Bool) → Keeps e (t6.signature i generator) (λ l. t6.signature (j l) generator)
  unfolding t6.signature
  signature generator = bind (group h marks.LeftParenthesis refl (parameters (of_function generator)) nowhere) λ x. bind (function-body generator) λ y. done λ a b n. refl

  rest-of-function : (at : ℕ) (generator : Bool) (name : Option Identifier) → Keeps e (t6.rest_of_function i at generator name) (λ l. t6.rest_of_function (j l) at generator name)
  unfolding t6.rest_of_function
  rest-of-function at generator name = bind (signature generator) λ x. done λ a b n. refl

  pub named-function : (at : ℕ) (generator : Bool) → Keeps e (t6.named_function i at generator) (λ l. t6.named_function (j l) at generator)
  unfolding t6.named_function
  named-function at generator = bind identifier λ n. rest-of-function at generator (Some n)

  star : Keeps e t6.star (λ l. t6.star)
  unfolding t6.star
  star = next (a-mark marks.Star refl) (λ t. done λ a b n. refl) (done λ a b n. refl)

  pub function : (lacks : Bool) (at : ℕ) → Keeps e (t6.function_after_word i lacks at) (λ l. t6.function_after_word (j l) lacks at)
  unfolding t6.function_after_word
  function lacks at = bind star λ generator. either lacks (looks (u-mark marks.LeftParenthesis refl) (rest-of-function at generator None) (named-function at generator)) (named-function at generator)

  pub method-after-key : (kind : MethodKind) (generator : Bool) (at : ℕ) (k : Key) → Keeps e (t6.method_after_key i kind generator at k) (λ l. t6.method_after_key (j l) kind generator at k)
  unfolding t6.method_after_key
  method-after-key kind generator at k = begins (parts'.method_parameters_from i kind generator at k) (λ l. parts'.method_parameters_from (j l) kind generator at k) (λ place. bind (signature generator) λ x. done λ a b n. refl)

  accessor-parameters : (setter : Bool) → Keeps e (t6.accessor_parameters i setter) (λ l. t6.accessor_parameters (j l) setter)
  unfolding t6.accessor_parameters t6.one_parameter t6.no_parameter
  accessor-parameters true = bind (h.part (of_function false)) λ q. bind (take (a-mark marks.RightParenthesis refl)) λ t. done λ a b n. refl
  accessor-parameters false = bind (take (a-mark marks.RightParenthesis refl)) λ t. done λ a b n. refl

  pub accessor : (f : Flags) (at : ℕ) (setter : Bool) → Keeps e (t6.accessor i f at setter) (λ l. t6.accessor (j l) f at setter)
  unfolding t6.accessor
  accessor f at setter = bind (key f) λ k. begins (parts'.accessor_parameters_from i at setter k) (λ l. parts'.accessor_parameters_from (j l) at setter k) (λ place. bind (group h marks.LeftParenthesis refl (accessor-parameters setter) nowhere) λ x. bind (function-body false) λ y. done λ a b n. refl)

  pub generator-method : (f : Flags) (at : ℕ) → Keeps e (t6.generator_method i f at) (λ l. t6.generator_method (j l) f at)
  unfolding t6.generator_method
  generator-method f at = bind (key f) λ k. method-after-key _ true at k

  accessor-word : (f : Flags) (at : ℕ) (setter : Bool) → Keeps e (t6.method_after_accessor_word i f at setter) (λ l. t6.method_after_accessor_word (j l) f at setter)
  unfolding t6.method_after_accessor_word
  accessor-word f at setter = valued (λ k. if_next (next_mark marks.LeftParenthesis) (t6.method_after_key i PlainMethod false at k) (t6.accessor i f at setter)) (λ l k. if_next (next_mark marks.LeftParenthesis) (t6.method_after_key (j l) PlainMethod false at k) (t6.accessor (j l) f at setter)) (λ c. WordKey (record { begin = at; end = c.last }) (accessor_name setter)) (λ a b n. refl)
      (λ k. looks (u-mark marks.LeftParenthesis refl) (method-after-key PlainMethod false at k) (accessor f at setter))

  method : (f : Flags) → Keeps e (t6.method i f) (λ l. t6.method (j l) f)
  unfolding t6.method
  method f = begins (parts'.method_from i f) (λ l. parts'.method_from (j l) f) (λ at. next (a-mark marks.Star refl) (λ t. generator-method f at) (next a-accessor (λ setter. accessor-word f at setter) (bind (key f) λ k. method-after-key PlainMethod false at k)))

  -- ## Classes

  after-static : (f : Flags) (at : ℕ) → Keeps e (t6.member_after_static i f at) (λ l. t6.member_after_static (j l) f at)
  unfolding t6.member_after_static
  after-static f at = valued (λ k. if_next (next_mark marks.LeftParenthesis) (λ c. after (t6.method_after_key i PlainMethod false at k c) (λ m. made at (t6.member_of false m))) (λ c. after (t6.method i f c) (λ m. made at (t6.member_of true m)))) (λ l k. if_next (next_mark marks.LeftParenthesis) (λ c. after (t6.method_after_key (j l) PlainMethod false at k c) (λ m. made at (t6.member_of false m))) (λ c. after (t6.method (j l) f c) (λ m. made at (t6.member_of true m)))) (λ c. WordKey (record { begin = at; end = c.last }) (codes "static")) (λ a b n. refl)
      (λ k. looks (u-mark marks.LeftParenthesis refl) (bind (method-after-key PlainMethod false at k) λ m. done λ a b n. refl) (bind (method f) λ m. done λ a b n. refl))

  pub member : (f : Flags) → Keeps e (t6.one_member i f) (λ l. t6.one_member (j l) f)
  unfolding t6.one_member
  member f = begins (parts'.member_from i f) (λ l. parts'.member_from (j l) f) (λ at. next (a-word (codes "static") refl) (λ t. after-static f at) (bind (method f) λ m. done λ a b n. refl))

  members : (f : Flags) (n : ℕ) → Keeps e (t6.members i f n) (λ l. t6.members (j l) f (plus n (suc l)))
  unfolding t6.members
  members f zero = gave-up (λ l last. over-halt Any ((j l).member f (none last)) _ (h.member_ends f l last))
  members f (suc n) = next (a-mark marks.RightBrace refl) (λ t. done λ a b n. refl) (next (a-mark marks.Semicolon refl) (λ t. members f n) (bind (h.member f) λ m. bind (members f n) λ ms. done λ a b n. refl))

  heritage : (f : Flags) → Keeps e (t6.heritage i f) (λ l. t6.heritage (j l) f)
  unfolding t6.heritage
  heritage f = next (a-word (codes "extends") refl) (λ t. bind (h.heritage f) λ x. done λ a b n. refl) (done λ a b n. refl)

  rest-of-class : (f : Flags) (at : ℕ) (name : Option Identifier) → Keeps e (t6.rest_of_class i f at name) (λ l. t6.rest_of_class (j l) f at name)
  unfolding t6.rest_of_class
  rest-of-class f at name = bind (heritage f) λ x. bind (group h marks.LeftBrace refl (turned i.fuel (λ l m. t6.members (j l) f m) h.fuel (members f i.fuel)) nowhere) λ ms. done λ a b n. refl

  named-class : (f : Flags) (at : ℕ) → Keeps e (t6.named_class i f at) (λ l. t6.named_class (j l) f at)
  unfolding t6.named_class
  named-class f at = bind identifier λ n. rest-of-class f at (Some n)

  pub class : (f : Flags) (lacks : Bool) (at : ℕ) → Keeps e (t6.class_after_word i f lacks at) (λ l. t6.class_after_word (j l) f lacks at)
  unfolding t6.class_after_word
  class f lacks at = either lacks (looks u-class-tail (rest-of-class f at None) (named-class f at)) (named-class f at)

  -- ## Templates

  template-parts : (f : Flags) (n : ℕ) → Keeps e (t6.template_parts i f n) (λ l. t6.template_parts (j l) f (plus n (suc l)))
  unfolding t6.template_parts
  template-parts f zero = gave-up (λ l last. over-halt Any ((j l).sequence (with_in f) (none last)) _ (h.sequence_ends (with_in f) l last))
  template-parts f (suc n) = bind (h.sequence (with_in f)) λ x. next (a-stretch false true) (λ r. done λ a b n. refl) (bind (take (a-stretch false false)) λ r. bind (template-parts f n) λ ms. done λ a b n. refl)

  parted : (f : Flags) (at : ℕ) (r : Stretch) → Keeps e (t6.parted_template i f at r) (λ l. t6.parted_template (j l) f at r)
  unfolding t6.parted_template
  parted f at r = bind (turned i.fuel (λ l m. t6.template_parts (j l) f m) h.fuel (template-parts f i.fuel)) λ ms. done λ a b n. refl

  pub on-template : {A : Type 0} {C : Type 0} {W : A → Type 0} (f : Flags) (at : ℕ) (p : Template → Parser A) (p' : ℕ → Template → Parser A) {q : Parser A} {q' : ℕ → Parser A} → ((m : Template) → KeepsIf e (Unit {0}) W (p m) (λ l. p' l m)) → KeepsIf e C W q q' → KeepsIf e C W (t6.on_template i f at p q) (λ l. t6.on_template (j l) f at (p' l) (q' l))
  on-template f at p p' k g = next (a-stretch true true) (λ r. valued p p' (λ c. roll-Template (record { span = record { begin = at; end = c.last }; first = r; rest = [] })) (λ a b n. refl) k) (looks (u-stretch true false) (opened h.opens (next (a-stretch true false) (λ r. bind (parted f at r) λ m. k m) g)) g)
