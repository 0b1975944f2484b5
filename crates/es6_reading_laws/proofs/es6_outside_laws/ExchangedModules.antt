-- Readers of imports, exports and modules, of tokens of which one is exchanged.
use Rattle.std.specs.Prelude.{codes}
use Rattle.std.proofs.Common.{◌≡◌, ◌∙◌, inl, ℕ, zero, suc, Bool, true, false, List, [], ◌∷◌, Option, Some, None, refl, sym, ap, subst}
use Rattle.std.proofs.lemmas.Bool.{false≢true}
use Rattle.es_text.specs.declared.Span.{Span}
use Rattle.es_outside.specs.HostNames.{reserved_words}
use Rattle.es6_lexer.specs.declared.token.TokenKind.TheVariants.{Word}
use Rattle.es6_lexer.specs.declared.token.Punctuator.TheVariants as marks
use Rattle.es6_ast.specs.declared.operators.VariableKind.TheVariants.{Var}
use Rattle.es6_ast.specs.declared.tree.Identifier.{Identifier}
use Rattle.es6_ast.specs.declared.module.ExportName.{ExportName}
use Rattle.es6_ast.specs.declared.module.ImportedNames.{ImportedNames}
use Rattle.es6_ast.specs.declared.module.Item.{Item}
use Rattle.es6_ast.specs.declared.module.Item.TheVariants as item
use Rattle.es6_ast.specs.declared.settings.Stand.TheVariants.{Listed}
use Rattle.es6_ast.specs.declared.settings.Stop.{Stop}
use Rattle.es6_ast.specs.declared.settings.Stop.TheVariants.{Depth, Endless, Outside, Syntax}
use Rattle.es6_ast.specs.Tokens.{Filled, is_identifier}
use Rattle.es6_ast.specs.Grammar.{of_module}
use Rattle.es6_reading.specs.Parser.{Outcome, Took, Fault, Parser, Inner, after, choose, on, on_taken, if_next, from, mark, word, next_word, fails, on_group, refused, no_expression, take_as, made, returns, ending, semicolon, inserts}
use Rattle.es6_reading.specs.Words.{begins_expression, begins_unary, begins_operand, operand_words, unary_operators}
use Rattle.es6_reading.specs.Statements as s6
use Rattle.es6_reading.specs.Modules as m6
use Rattle.es6_reading.proofs.Follows.{plus}
use Rattle.es6_reading.proofs.FollowModules as modules'
use Rattle.es6_reading.proofs.LocalLimits.{sequence-limit}
use Rattle.es6_reading_laws.proofs.es6_outside_laws.Exchanged.{for_in, Place, at_kind, it, one_of, two_of, Lock, last_one, further, input, none, left, Any, Over, Rel, both, gone, before, here, stuck, passed, Agree, takes, misses, Unseen, Keeps, stopped, over-bind, rel-bind, gone-bind, told-bind, swap, bind, either, begins, next, next-by, looks, looks-alike, done}
use Rattle.es6_reading_laws.proofs.es6_outside_laws.Tests.{place, each, a-mark, a-word, a-text, a-end, u-mark, u-text, u-names, u-end, l-true, nowhere, take}
use Rattle.es6_reading_laws.proofs.es6_outside_laws.ExchangedParts.{gave-up, turned, over-halt, Pairs, group, semicolon_, identifier, any-name, function, class}
use Rattle.es6_reading_laws.proofs.es6_outside_laws.ExchangedExpressions.{assignment}
use Rattle.es6_reading_laws.proofs.es6_outside_laws.ExchangedStatements.{variables-statement, on-declaration, statement}

-- ## Names

specifier : {e : Place} → Keeps e m6.specifier (λ l. m6.specifier)
unfolding m6.specifier
specifier = begins modules'.specifier_from (λ l. modules'.specifier_from) (λ at. bind (take a-text) λ units. done λ a b n. refl)

from-taken : {e : Place} → Keeps e (take_as (word (codes "from"))) (λ l. take_as (word (codes "from")))
unfolding refused
from-taken {e = e} = next-by (word (codes "from")) (λ x. (done λ a b n. refl).onward) {D = Unit {0}} nowhere (λ c last. each (λ e. Made e last) (λ s n k. here (stuck (λ y. absurd (cc)) (λ l. (Syntax, refl, tt)))) (λ s n k. k) (λ s n k. k) (λ s n k. k) (λ s n k. k) (λ s n k. k) e ((nowhere {C = Unit {0}}).onward.there tt last))
  where
    Made : Place → ℕ → Type 0
    Made e last = Rel e {A = Filled} Any (λ l. refused (input (one_of e ∷ []) last)) (λ l. refused (input (two_of e ∷ []) last)) (refused (input (it e ∷ []) last))
        → Rel e Any (λ l. take_as (word (codes "from")) (input (one_of e ∷ []) last)) (λ l. take_as (word (codes "from")) (input (two_of e ∷ []) last)) (take_as (word (codes "from")) (input (it e ∷ []) last))

one-import : {e : Place} → Keeps e m6.one_import (λ l. m6.one_import)
unfolding m6.one_import
one-import = begins modules'.import_from (λ l. modules'.import_from) (λ at. bind any-name λ n. next (a-word (codes "as") refl) (λ t. bind identifier λ m. done λ a b n. refl) (either (is_identifier n.name) (done λ a b n. refl) nowhere))

imports : {e : Place} (n : ℕ) → Keeps e (m6.imports n) (λ l. m6.imports (plus n (suc l)))
unfolding m6.imports refused
imports {e = e} zero = gave-up (λ l last. over-bind Any Any (m6.one_import (none last)) _ ((one-import {e = e}).second l last) (λ q w n. stopped))
imports (suc n) = next (a-mark marks.RightBrace refl) (λ t. done λ a b n. refl) (bind one-import λ x. next (a-mark marks.Comma refl) (λ t. bind (imports n) λ y. done λ a b n. refl) (bind (take (a-mark marks.RightBrace refl)) λ t. done λ a b n. refl))

one-export : {e : Place} → Keeps e m6.one_export (λ l. m6.one_export)
unfolding m6.one_export
one-export = begins modules'.export_from (λ l. modules'.export_from) (λ at. bind any-name λ n. next (a-word (codes "as") refl) (λ t. bind any-name λ m. done λ a b n. refl) (done λ a b n. refl))

exports : {e : Place} (n : ℕ) → Keeps e (m6.exports n) (λ l. m6.exports (plus n (suc l)))
unfolding m6.exports refused
exports {e = e} zero = gave-up (λ l last. over-bind Any Any (m6.one_export (none last)) _ ((one-export {e = e}).second l last) (λ q w n. stopped))
exports (suc n) = next (a-mark marks.RightBrace refl) (λ t. done λ a b n. refl) (bind one-export λ x. next (a-mark marks.Comma refl) (λ t. bind (exports n) λ y. done λ a b n. refl) (bind (take (a-mark marks.RightBrace refl)) λ t. done λ a b n. refl))

namespace : {e : Place} → Keeps e m6.namespace (λ l. m6.namespace)
unfolding m6.namespace
namespace = bind (take (a-word (codes "as") refl)) λ t. bind identifier λ n. done λ a b n. refl

-- ## Items

-- As before; or the first two stand before their tokens, while the last one went over its own, and stops for want of more.
data Lag (e : Place) {A : Type 0} (os ps : ℕ → Outcome A) : Outcome A → Type 0 where
  usual : {o : Outcome A} → Rel e Any os ps o → Lag e os ps o
  lingers : {x : A} {last : ℕ} → e.strict ≡ true → ((l : ℕ) → ps l ≡ Fault Syntax []) → Lag e os ps (Took x (record { tokens = it e ∷ []; last = last }))

-- so it is of readers of items
record KeepsItem (e : Place) {A : Type 0} (p : Parser A) (p' : ℕ → Parser A) : Type 0 where
  more : (ts us vs : List Filled) (t : Filled) → Lock e ts us vs → (last : ℕ) → Lag e (λ l. p' l (input (t ∷ us) last)) (λ l. p' l (input (t ∷ vs) last)) (p (input (t ∷ ts) last))
  there : (last : ℕ) → Rel e Any (λ l. p' l (input (one_of e ∷ []) last)) (λ l. p' l (input (two_of e ∷ []) last)) (p (input (it e ∷ []) last))
  first : (last : ℕ) → left (p (none last)) ≡ []
  second : (l last : ℕ) → Over Any (p' l (none last))

module _ {e : Place} {A : Type 0} where
  as-item : {p : Parser A} {p' : ℕ → Parser A} → Keeps e p p' → KeepsItem e p p'
  as-item k = record { more = λ ts us vs t m last. usual (k.onward.more ts us vs t m last); there = λ last. k.onward.there tt last; first = k.onward.first; second = k.second }

  swap-lag : {os ps os' ps' : ℕ → Outcome A} {o : Outcome A} → ((l : ℕ) → os' l ≡ os l) → ((l : ℕ) → ps' l ≡ ps l) → Lag e os ps o → Lag e os' ps' o
  swap-lag h k (usual r) = usual (swap h k r)
  swap-lag h k (lingers y s) = lingers y (λ l. k l ∙ s l)

  lag-locked : {p : Parser A} {p' : ℕ → Parser A} → KeepsItem e p p' → {ts us vs : List Filled} → Lock e ts us vs → (last : ℕ) → Lag e (λ l. p' l (input us last)) (λ l. p' l (input vs last)) (p (input ts last))
  lag-locked k last_one last = usual (k.there last)
  lag-locked k (further {ts = ts} {us = us} {vs = vs} t m) last = k.more ts us vs t m last

  item-on : {B : Type 0} {test : Filled → Option B} {p : B → Parser A} {p' : ℕ → B → Parser A} {q : Parser A} {q' : ℕ → Parser A} → Agree e test → ((x : B) → KeepsItem e (p x) (λ l. p' l x)) → KeepsItem e q q' → KeepsItem e (on test p q) (λ l. on test (p' l) (q' l))
  item-on {B = B} {test = test} {p = p} {p' = p'} {q = q} {q' = q'} a f g = record { more = λ ts us vs t m last. known t m last (test t); there = λ last. agreed a last; first = g.first; second = g.second }
    where
      known : {ts us vs : List Filled} (t : Filled) → Lock e ts us vs → (last : ℕ) (v : Option B) → Lag e (λ l. on_taken v t us (p' l) (q' l) (input (t ∷ us) last)) (λ l. on_taken v t vs (p' l) (q' l) (input (t ∷ vs) last)) (on_taken v t ts p q (input (t ∷ ts) last))
      known t m last (Some x) = lag-locked (f x) m t.span.end
      known {ts = ts} {us = us} {vs = vs} t m last None = g.more ts us vs t m last

      agreed : Agree e test → (last : ℕ) → Rel e Any (λ l. on test (p' l) (q' l) (input (one_of e ∷ []) last)) (λ l. on test (p' l) (q' l) (input (two_of e ∷ []) last)) (on test p q (input (it e ∷ []) last))
      agreed (takes {x = x} h) last = gone (ap (λ v. left (on_taken v (it e) [] p q (input (it e ∷ []) last))) h ∙ (f x).first e.span.end)
      agreed (misses h h1 h2) last = swap (λ l. ap (λ v. on_taken v (one_of e) [] (p' l) (q' l) (input (one_of e ∷ []) last)) h1) (λ l. ap (λ v. on_taken v (two_of e) [] (p' l) (q' l) (input (two_of e ∷ []) last)) h2)
          (subst (λ v. Rel e Any (λ l. q' l (input (one_of e ∷ []) last)) (λ l. q' l (input (two_of e ∷ []) last)) (on_taken v (it e) [] p q (input (it e ∷ []) last))) (sym h) (g.there last))

  item-looks : {test : Filled → Bool} {p q : Parser A} {p' q' : ℕ → Parser A} → Unseen e test → KeepsItem e p p' → Keeps e q q' → KeepsItem e (if_next test p q) (λ l. if_next test (p' l) (q' l))
  item-looks {test = test} {p = p} {q = q} {p' = p'} {q' = q'} u f g = record {
    more = λ ts us vs t m last. known t m last (test t);
    there = λ last. swap (λ l. ap (λ b. choose b (p' l) (q' l) (input (one_of e ∷ []) last)) u.ones) (λ l. ap (λ b. choose b (p' l) (q' l) (input (two_of e ∷ []) last)) u.twos) (subst (λ b. Rel e Any (λ l. q' l (input (one_of e ∷ []) last)) (λ l. q' l (input (two_of e ∷ []) last)) (choose b p q (input (it e ∷ []) last))) (sym u.its) (g.onward.there tt last));
    first = g.onward.first;
    second = g.second;
  }
    where
      known : {ts us vs : List Filled} (t : Filled) → Lock e ts us vs → (last : ℕ) (b : Bool) → Lag e (λ l. choose b (p' l) (q' l) (input (t ∷ us) last)) (λ l. choose b (p' l) (q' l) (input (t ∷ vs) last)) (choose b p q (input (t ∷ ts) last))
      known {ts = ts} {us = us} {vs = vs} t m last true = f.more ts us vs t m last
      known {ts = ts} {us = us} {vs = vs} t m last false = usual (g.onward.more ts us vs t m last)

  item-begins : (p : ℕ → Parser A) (p' : ℕ → ℕ → Parser A) → ((at : ℕ) → KeepsItem e (p at) (λ l. p' l at)) → KeepsItem e (from p) (λ l. from (p' l))
  item-begins p p' f = record { more = λ ts us vs t m last. (f t.span.begin).more ts us vs t m last; there = λ last. (f e.span.begin).there last; first = λ last. (f 0).first last; second = λ l last. (f 0).second l last }

-- what follows an item; and where `in` stands, that is none
item-then : {e : Place} {A B : Type 0} {p : Parser A} {p' : ℕ → Parser A} {q : A → Parser B} {q' : ℕ → A → Parser B} → KeepsItem e p p' → ((x : A) → Keeps e (q x) (λ l. q' l x)) → (e.strict ≡ true → (x : A) (last : ℕ) → (stop : Stop) × (q x (input (it e ∷ []) last) ≡ Fault stop (it e ∷ [])) × (stop ≡ Outside e.rule → ⊥))
    → Keeps e (λ c. after (p c) q) (λ l c. after (p' l c) (q' l))
item-then {e = e} {A = A} {p = p} {p' = p'} {q = q} {q' = q'} h k w = record {
  onward = record {
    more = λ ts us vs t m last. by (h.more ts us vs t m last);
    there = λ c last. by (usual (h.there last));
    first = λ last. gone-after (p (none last)) (h.first last);
  };
  second = λ l last. over-bind Any Any (p' l (none last)) (q' l) (h.second l last) (λ x w n. (k x).second l n);
}
  where
    by : {os ps : ℕ → Outcome A} {o : Outcome A} → Lag e os ps o → Rel e Any (λ l. after (os l) (q' l)) (λ l. after (ps l) (q' l)) (after o q)
    by (usual r) = rel-bind q q' r (λ x. (k x).onward) (λ x w l last. (k x).second l last)
    by {os = os} {ps = ps} (lingers {x = x} {last = last} y s) =
        let f = w y x last in
        subst (λ o. Rel e Any (λ l. after (os l) (q' l)) (λ l. after (ps l) (q' l)) o) (sym f.1) (here (passed f.2 y (0, λ l m. inl (subst (λ o. Over Any (after o (q' l))) (sym (s l)) stopped))))

    gone-after : (o : Outcome A) → left o ≡ [] → left (after o q) ≡ []
    gone-after (Took x c) n = subst (λ ts. left (q x (input ts c.last)) ≡ []) (sym n) ((k x).onward.first c.last)
    gone-after (Fault stop ts) n = n

module _ {e : Place} {i : Inner} {j : ℕ → Inner} (h : Pairs e i j) where
  -- ## Imports

  from-clause : Keeps e (m6.from_clause i) (λ l. m6.from_clause (j l))
  unfolding m6.from_clause
  from-clause = bind from-taken λ t. bind specifier λ x. bind (semicolon_ i j h.mode) λ u. done λ a b n. refl

  imported-names : Keeps e (m6.imported_names i) (λ l. m6.imported_names (j l))
  unfolding m6.imported_names
  imported-names = next (a-mark marks.Star refl) (λ t. namespace) (group h marks.LeftBrace refl (bind (turned i.fuel (λ l m. m6.imports m) h.fuel (imports i.fuel)) λ x. done λ a b n. refl) nowhere)

  rest-of-import : (at : ℕ) (n : Option Identifier) (names : ImportedNames) → Keeps e (m6.rest_of_import i at n names) (λ l. m6.rest_of_import (j l) at n names)
  unfolding m6.rest_of_import
  rest-of-import at n names = bind from-clause λ x. done λ a b n. refl

  default-import : (at : ℕ) → Keeps e (m6.default_import i at) (λ l. m6.default_import (j l) at)
  unfolding m6.default_import
  default-import at = bind identifier λ n. next (a-mark marks.Comma refl) (λ t. bind imported-names λ x. rest-of-import at _ x) (rest-of-import at _ _)

  import-alone : (at : ℕ) → Keeps e (m6.import_alone i at) (λ l. m6.import_alone (j l) at)
  unfolding m6.import_alone
  import-alone at = bind specifier λ x. bind (semicolon_ i j h.mode) λ t. done λ a b n. refl

  import-item : (at : ℕ) → Keeps e (m6.import_item i at) (λ l. m6.import_item (j l) at)
  unfolding m6.import_item
  import-item at = looks u-text (import-alone at) (looks u-names (bind imported-names λ x. rest-of-import at _ x) (default-import at))

  -- ## Exports

  own-names : (at : ℕ) (ns : List ExportName) → Keeps e (m6.own_names i at ns) (λ l. m6.own_names (j l) at ns)
  unfolding m6.own_names
  own-names at ns = either (m6.are_own ns) (bind (semicolon_ i j h.mode) λ t. done λ a b n. refl) nowhere

  named-from : Inner → ℕ → List ExportName → Parser Item
  named-from i at ns c = after (m6.from_clause i c) (λ s. made at (λ span. item.ExportNames span ns (Some s)))

  exported-names : Inner → ℕ → List ExportName → Parser Item
  exported-names i at ns = if_next (next_word (codes "from")) (named-from i at ns) (m6.own_names i at ns)

  from-named : (at : ℕ) (ns : List ExportName) → Keeps e (named-from i at ns) (λ l. named-from (j l) at ns)
  unfolding named-from
  from-named at ns = bind from-clause λ x. done λ a b n. refl

  -- after an inserted semicolon `in` is none of an item
  after-names : (at : ℕ) (ns : List ExportName) (last : ℕ) → Lag e (λ l. exported-names (j l) at ns (input (one_of e ∷ []) last)) (λ l. exported-names (j l) at ns (input (two_of e ∷ []) last)) (exported-names i at ns (input (it e ∷ []) last))
  unfolding exported-names named-from m6.from_clause m6.specifier m6.own_names semicolon refused
  after-names at ns last = each (λ e. Made e) (λ s n k. by s n (m6.are_own ns)) (λ s n k. usual k) (λ s n k. usual k) (λ s n k. usual k) (λ s n k. usual k) (λ s n k. usual k) e ((own-names at ns).onward.there tt last)
    where
      Made : Place → Type 0
      Made e = Rel e Any (λ l. m6.own_names (j l) at ns (input (one_of e ∷ []) last)) (λ l. m6.own_names (j l) at ns (input (two_of e ∷ []) last)) (m6.own_names i at ns (input (it e ∷ []) last))
          → Lag e (λ l. exported-names (j l) at ns (input (one_of e ∷ []) last)) (λ l. exported-names (j l) at ns (input (two_of e ∷ []) last)) (exported-names i at ns (input (it e ∷ []) last))

      ending' : Bool → Parser Item
      ending' m c = after (on (ending false) (λ t. returns tt) (choose m inserts refused) c) (λ t. made at (λ span. item.ExportNames span ns None))

      of' : Inner → Bool → Span → Bool → Outcome Item
      of' i b s n = choose b (ending' i.inserting) refused (input (at_kind s n (Word (codes "of")) ∷ []) last)

      from' : Inner → Span → Bool → Outcome Item
      from' i s n = exported-names i at ns (input (at_kind s n (Word (codes "from")) ∷ []) last)

      never : (b m : Bool) (s : Span) → choose b (ending' m) refused (input (at_kind s false (Word (codes "of")) ∷ []) last) ≡ Fault Syntax (at_kind s false (Word (codes "of")) ∷ [])
      never true true s = refl
      never true false s = refl
      never false true s = refl
      never false false s = refl

      first-never : (b m : Bool) (s : Span) → choose b (ending' m) refused (input (at_kind s false (Word (codes "in")) ∷ []) last) ≡ Fault Syntax (at_kind s false (Word (codes "in")) ∷ [])
      first-never true true s = refl
      first-never true false s = refl
      first-never false true s = refl
      first-never false false s = refl

      by : (s : Span) (n : Bool) (b : Bool) → Lag (place for_in s n) (λ l. of' (j l) b s n) (λ l. from' (j l) s n) (choose b (ending' i.inserting) refused (input (at_kind s n (Word (codes "in")) ∷ []) last))
      by s false b = subst (λ o. Lag (place for_in s false) (λ l. of' (j l) b s false) (λ l. from' (j l) s false) o) (sym (first-never b i.inserting s)) (usual (here (stuck (λ y. absurd (cc)) (λ l. (Syntax, never b (j l).inserting s, tt)))))
      by s true false = usual (here (stuck (λ y. absurd (cc)) (λ l. (Syntax, refl, tt))))
      by s true true = subst (λ m. Lag (place for_in s true) (λ l. of' (j l) true s true) (λ l. from' (j l) s true) (ending' m (input (at_kind s true (Word (codes "in")) ∷ []) last))) (sym h.inserting) (lingers refl (λ l. refl))

  names-locked : (at : ℕ) (ns : List ExportName) {ts us vs : List Filled} → Lock e ts us vs → (last : ℕ) → Lag e (λ l. exported-names (j l) at ns (input us last)) (λ l. exported-names (j l) at ns (input vs last)) (exported-names i at ns (input ts last))
  unfolding exported-names
  names-locked at ns last_one last = after-names at ns last
  names-locked at ns (further {ts = ts} {us = us} {vs = vs} t m) last = known (next_word (codes "from") t)
    where
      known : (b : Bool) → Lag e (λ l. choose b (named-from (j l) at ns) (m6.own_names (j l) at ns) (input (t ∷ us) last)) (λ l. choose b (named-from (j l) at ns) (m6.own_names (j l) at ns) (input (t ∷ vs) last)) (choose b (named-from i at ns) (m6.own_names i at ns) (input (t ∷ ts) last))
      known true = usual ((from-named at ns).onward.more ts us vs t m last)
      known false = usual ((own-names at ns).onward.more ts us vs t m last)

  export-list : Inner → Parser (List ExportName)
  export-list i = on_group i marks.LeftBrace (m6.exports i.fuel) refused

  listed : Keeps e (export-list i) (λ l. export-list (j l))
  unfolding export-list
  listed = group h marks.LeftBrace refl (turned i.fuel (λ l m. m6.exports m) h.fuel (exports i.fuel)) nowhere

  -- the names, and what follows them
  names-after : (at : ℕ) (os ps : ℕ → Outcome (List ExportName)) (o : Outcome (List ExportName)) → Rel e Any os ps o → Lag e (λ l. after (os l) (λ ns. exported-names (j l) at ns)) (λ l. after (ps l) (λ ns. exported-names (j l) at ns)) (after o (λ ns. exported-names i at ns))
  unfolding exported-names
  names-after at os ps o (both {x = x} {last = last} m a b) = swap-lag (λ l. ap (λ o. after o (λ ns. exported-names (j l) at ns)) (a l)) (λ l. ap (λ o. after o (λ ns. exported-names (j l) at ns)) (b l)) (names-locked at x m last)
  names-after at os ps o (gone n) = usual (gone (gone-bind o (λ ns. exported-names i at ns) n (λ x last. (own-names at x).onward.first last)))
  names-after at os ps o (before m) = usual (before m)
  names-after at os ps o (here t) = usual (here (told-bind (λ l ns. exported-names (j l) at ns) t (λ x w l last. (own-names at x).second l last)))

  export-names : (at : ℕ) → KeepsItem e (m6.export_names i at) (λ l. m6.export_names (j l) at)
  unfolding m6.export_names exported-names named-from export-list refused
  export-names at = record {
    more = λ ts us vs t m last. names-after at (λ l. export-list (j l) (input (t ∷ us) last)) (λ l. export-list (j l) (input (t ∷ vs) last)) (export-list i (input (t ∷ ts) last)) (listed.onward.more ts us vs t m last);
    there = λ last. let u = u-mark {e = e} marks.LeftBrace refl in swap (λ l. ap (λ b. after (opening (j l) b (one_of e) last) (λ ns. exported-names (j l) at ns)) u.ones) (λ l. ap (λ b. after (opening (j l) b (two_of e) last) (λ ns. exported-names (j l) at ns)) u.twos)
        (subst (λ b. Rel e Any (λ l. refused (input (one_of e ∷ []) last)) (λ l. refused (input (two_of e ∷ []) last)) (after (opening i b (it e) last) (λ ns. exported-names i at ns))) (sym u.its) ((nowhere {C = Unit {0}}).onward.there tt last));
    first = λ last. refl;
    second = λ l last. stopped;
  }
    where
      opening : Inner → Bool → Filled → ℕ → Outcome (List ExportName)
      opening i b t last = choose b (choose i.may_open (on (mark marks.LeftBrace) (λ t. m6.exports i.fuel) refused) (fails Depth)) refused (input (t ∷ []) last)

  export-all : (at : ℕ) → Keeps e (m6.export_all i at) (λ l. m6.export_all (j l) at)
  unfolding m6.export_all
  export-all at = bind from-clause λ x. done λ a b n. refl

  default-value : (at : ℕ) (span : Span) → Keeps e (m6.default_value i at span) (λ l. m6.default_value (j l) at span)
  unfolding m6.default_value
  default-value at span = bind (assignment h of_module) λ x. bind (semicolon_ i j h.mode) λ t. done λ a b n. refl

  export-default : (at : ℕ) (span : Span) → Keeps e (m6.export_default i at span) (λ l. m6.export_default (j l) at span)
  unfolding m6.export_default
  export-default at span = begins (modules'.default_from i at span) (λ l. modules'.default_from (j l) at span) (λ inside. next (a-word (codes "function") refl) (λ t. bind (function h true inside) λ g. done λ a b n. refl) (next (a-word (codes "class") refl) (λ t. bind (class h of_module true inside) λ x. done λ a b n. refl) (default-value at span)))

  exported-declaration : Keeps e (m6.exported_declaration i) (λ l. m6.exported_declaration (j l))
  unfolding m6.exported_declaration
  exported-declaration = begins (modules'.declaration_from i) (λ l. modules'.declaration_from (j l)) (λ inside. next (a-word (codes "var") refl) (λ t. variables-statement h of_module inside Var) (on-declaration h of_module inside nowhere))

  export-declaration : (at : ℕ) → Keeps e (m6.export_declaration i at) (λ l. m6.export_declaration (j l) at)
  unfolding m6.export_declaration
  export-declaration at = bind exported-declaration λ x. done λ a b n. refl

  export-item : (at : ℕ) → KeepsItem e (m6.export_item i at) (λ l. m6.export_item (j l) at)
  unfolding m6.export_item
  export-item at = item-on (a-mark marks.Star refl) (λ t. as-item (export-all at)) (item-on (a-word (codes "default") refl) (λ t. as-item (export-default at t.span)) (item-looks (u-mark marks.LeftBrace refl) (export-names at) (export-declaration at)))

  -- ## Modules

  statement-item : Keeps e (m6.statement_item i) (λ l. m6.statement_item (j l))
  unfolding m6.statement_item
  statement-item = bind (statement h of_module Listed) λ x. done λ a b n. refl

  one-item : KeepsItem e (m6.one_item i) (λ l. m6.one_item (j l))
  unfolding m6.one_item
  one-item = item-begins (modules'.item_from i) (λ l. modules'.item_from (j l)) (λ at. item-on (a-word (codes "import") refl) (λ t. as-item (import-item at)) (item-on (a-word (codes "export") refl) (λ t. export-item at) (as-item statement-item)))

-- an item begins with a token
module _ (i : Inner) where
  no-item : (last : ℕ) → m6.one_item i (none last) ≡ Fault Syntax []
  unfolding m6.one_item m6.statement_item s6.statement s6.compound_statement s6.jump_statement s6.plain_statement s6.expression_statement no_expression
  no-item last = ap (λ o. after (after o (λ x. s6.label_or_end i of_module 0 (s6.label_of x.shape x.value) x.value)) (λ s. returns (item.Statement s))) (sequence-limit i of_module [] last refl)

  no-in-item : (last : ℕ) (s : Span) (n : Bool) → m6.one_item i (input (at_kind s n (Word (codes "in")) ∷ []) last) ≡ Fault Syntax (at_kind s n (Word (codes "in")) ∷ [])
  unfolding m6.one_item m6.statement_item s6.statement s6.compound_statement s6.jump_statement s6.plain_statement s6.expression_statement no_expression begins_expression begins_unary begins_operand operand_words unary_operators reserved_words
  no-in-item last s n = ap (λ o. after (after o (λ x. s6.label_or_end i of_module s.begin (s6.label_of x.shape x.value) x.value)) (λ s. returns (item.Statement s))) (sequence-limit i of_module (at_kind s n (Word (codes "in")) ∷ []) last refl)

  no-in-items : (k : ℕ) (last : ℕ) (s : Span) (n : Bool) → (stop : Stop) × (m6.items i k (input (at_kind s n (Word (codes "in")) ∷ []) last) ≡ Fault stop (at_kind s n (Word (codes "in")) ∷ [])) × (stop ≡ Outside 1 → ⊥)
  unfolding m6.items
  no-in-items zero last s n = (Endless, refl, λ y. absurd (cc))
  no-in-items (suc k) last s n = (Syntax, ap (λ o. after o (λ x c. after (m6.items i k c) (λ xs. returns (x ∷ xs)))) (no-in-item last s n), λ y. absurd (cc))

module _ {e : Place} {i : Inner} {j : ℕ → Inner} (h : Pairs e i j) where
  in-ends : (k : ℕ) → e.strict ≡ true → (x : Item) (last : ℕ) → (stop : Stop) × (after (m6.items i k (input (it e ∷ []) last)) (λ xs. returns (x ∷ xs)) ≡ Fault stop (it e ∷ [])) × (stop ≡ Outside e.rule → ⊥)
  in-ends k = each (λ e. e.strict ≡ true → (x : Item) (last : ℕ) → (stop : Stop) × (after (m6.items i k (input (it e ∷ []) last)) (λ xs. returns (x ∷ xs)) ≡ Fault stop (it e ∷ [])) × (stop ≡ Outside e.rule → ⊥))
      (λ s n y x last. let q = no-in-items i k last s n in (q.0, ap (λ o. after o (λ xs. returns (x ∷ xs))) q.1, q.2))
      (λ s n y. absurd (false≢true y)) (λ s n y. absurd (false≢true y)) (λ s n y. absurd (false≢true y)) (λ s n y. absurd (false≢true y)) (λ s n y. absurd (false≢true y)) e

  items : (n : ℕ) → Keeps e (m6.items i n) (λ l. m6.items (j l) (plus n (suc l)))
  unfolding m6.items
  items zero = gave-up (λ l last. over-halt Any (m6.one_item (j l) (none last)) _ (Syntax, no-item (j l) last, λ y. absurd (cc)))
  items (suc n) = looks u-end (done λ a b n. refl) (item-then (one-item h) (λ x. bind (items n) λ y. done λ a b n. refl) (in-ends n))

  pub whole-module : Keeps e (m6.whole_module i) (λ l. m6.whole_module (j l))
  unfolding m6.whole_module
  whole-module = bind (turned i.fuel (λ l m. m6.items (j l) m) h.fuel (items i.fuel)) λ xs. bind (take a-end) λ t. looks-alike l-true nowhere (done λ a b n. refl)
