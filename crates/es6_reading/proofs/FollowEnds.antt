-- The relation of a run that inserts semicolons to one over the filled tokens, where a statement ends.
use Rattle.std.proofs.Common.{◌≡◌, ℕ, Bool, true, false, List, [], ◌∷◌, ◌++◌, refl, sym, ap, subst, ◌∙◌, append_assoc}
use Rattle.std.proofs.lemmas.Bool.{false≢true, true≢false}
use Rattle.es_text.specs.declared.Span.{Span}
use Rattle.es6_ast.specs.declared.settings.Flags.{Flags}
use Rattle.es6_ast.specs.declared.settings.Stand.{Stand}
use Rattle.es6_ast.specs.Tokens.{Filled}
use Rattle.es6_reading.specs.Parser.{Input, Took, Parser, after, ◌>>=◌, on_taken, choose, next_is, returns, refused, made, Inner, is_insertable, inserts, inserts_anywhere, ending, semicolon, semicolon_of_do_while}
use Rattle.es6_reading.specs.Refine.{Refined, Fits, Misfit, TooNested}
use Rattle.es6_reading.specs.Expressions.{fitting}
use Rattle.es6_reading.proofs.Posts.{Holds, took, fault, bind, Misses, on-holds, choose-holds, if-holds, refused-holds}
use Rattle.es6_reading.proofs.Spans.{end-append}
use Rattle.es6_reading.proofs.Follows.{plus, semi, SameHead, nothing, same, Near, Whatever, Never, Dead, MayInsert, before_line, after_do_while, Gaps, stop, keep, insert, gaps-each, gaps-append, FollowedBy, Followed, FirmBy, bind-followed, stands-less, returns-followed}
use Rattle.es6_reading.proofs.FollowChoices.{Runs, on-hit, StopsAtSemi, stopped, firm-followed-by}
use Rattle.es6_reading.proofs.RefineMore.{Kept, as_it_was}

-- The readers for one construct deeper, that insert and that do not. What follows a property in a literal is no semicolon.
pub record Follows (i : Inner) (i' : ℕ → Inner) : Type 0 where
  pub plain : (l : ℕ) → (i' l).inserting ≡ false
  pub fuel : (l : ℕ) → (i' l).fuel ≡ plus i.fuel l
  pub opens : i.may_open ≡ true → (l : ℕ) → (i' l).may_open ≡ true
  pub sequence : (f : Flags) (s : Input) → Runs (λ l. (i' l).sequence f) (i.sequence f) s
  pub assignment : (f : Flags) (s : Input) → Runs (λ l. (i' l).assignment f) (i.assignment f) s
  pub power : (f : Flags) (s : Input) → Runs (λ l. (i' l).power f) (i.power f) s
  pub unary : (f : Flags) (s : Input) → Runs (λ l. (i' l).unary f) (i.unary f) s
  pub callee : (f : Flags) (s : Input) → Runs (λ l. (i' l).callee f) (i.callee f) s
  pub heritage : (f : Flags) (s : Input) → Runs (λ l. (i' l).heritage f) (i.heritage f) s
  pub block : (f : Flags) (s : Input) → Runs (λ l. (i' l).block f) (i.block f) s
  pub property : (f : Flags) (s : Input) → Holds (FollowedBy SameHead (λ l. (i' l).property f) s) (i.property f s)
  pub target : (f : Flags) (s : Input) → Runs (λ l. (i' l).target f) (i.target f) s
  pub part : (f : Flags) (s : Input) → Runs (λ l. (i' l).part f) (i.part f) s
  pub object_part : (f : Flags) (s : Input) → Runs (λ l. (i' l).object_part f) (i.object_part f) s
  pub variable : (f : Flags) (s : Input) → Runs (λ l. (i' l).variable f) (i.variable f) s
  pub member : (f : Flags) (s : Input) → Runs (λ l. (i' l).member f) (i.member f) s
  pub statement : (f : Flags) (stand : Stand) (s : Input) → Runs (λ l. (i' l).statement f stand) (i.statement f stand) s
  pub assignment_stops : (f : Flags) → StopsAtSemi (λ l. (i' l).assignment f)
  pub block_stops : (f : Flags) → StopsAtSemi (λ l. (i' l).block f)
  pub statement_stops : (f : Flags) (stand : Stand) → StopsAtSemi (λ l. (i' l).statement f stand)

-- ## Semicolons

misses-same : (d : Bool) {ts us : List Filled} → SameHead ts us → Misses (ending d) ts → Misses (ending d) us
misses-same d nothing m = m
misses-same d same m = m

semicolon-none : (i : Inner) (ts : List Filled) (last : ℕ) → i.inserting ≡ false → Misses (ending false) ts → Never (semicolon i (record { tokens = ts; last = last }))
unfolding semicolon
semicolon-none i [] last e m = choose-holds inserts refused i.inserting (record { tokens = []; last = last }) (λ h. absurd (true≢false (sym h ∙ e))) (λ h. refused-holds _)
semicolon-none i (t ∷ ts) last e m = subst (λ o. Never (on_taken o t ts (λ u. returns tt) (choose i.inserting inserts refused) (record { tokens = t ∷ ts; last = last }))) (sym m)
    (choose-holds inserts refused i.inserting (record { tokens = t ∷ ts; last = last }) (λ h. absurd (true≢false (sym h ∙ e))) (λ h. refused-holds _))

semicolon-put : (i' : ℕ → Inner) (s : Input) → ((l : ℕ) → (i' l).inserting ≡ false) → Misses (ending false) s.tokens → is_insertable s.tokens ≡ true → Followed (λ l. semicolon (i' l)) s tt s
unfolding semicolon
semicolon-put i' s plain m n = record {
  filled = semi false s.last ∷ [];
  ends = refl;
  gaps = insert false s.last refl (λ l rest h. semicolon-none (i' l) rest s.last (plain l) (misses-same false h m)) (before_line n) stop;
  run = λ l rest h. refl;
}

pub semicolon-follows : (i : Inner) (i' : ℕ → Inner) (f : Follows i i') (s : Input) → Runs (λ l. semicolon (i' l)) (semicolon i) s
unfolding semicolon
semicolon-follows i i' f s = on-holds (ending false) _ _ s
    (λ u c h. took (on-hit (ending false) (λ l u. returns tt) (λ l. choose (i' l).inserting inserts refused) h (returns-followed tt c)))
    (λ m. choose-holds inserts refused i.inserting s
    (λ h. choose-holds (returns tt) refused (is_insertable s.tokens) s (λ n. took (semicolon-put i' s f.plain m n)) (λ n. refused-holds s))
    (λ h. refused-holds s))

-- ## The semicolon that ends a do-while

do-while-none : (i : Inner) (ts : List Filled) (last : ℕ) → i.inserting ≡ false → Misses (ending true) ts → Never (semicolon_of_do_while i (record { tokens = ts; last = last }))
unfolding semicolon_of_do_while
do-while-none i [] last e m = choose-holds inserts_anywhere refused i.inserting (record { tokens = []; last = last }) (λ h. absurd (true≢false (sym h ∙ e))) (λ h. refused-holds _)
do-while-none i (t ∷ ts) last e m = subst (λ o. Never (on_taken o t ts (λ u. returns tt) (choose i.inserting inserts_anywhere refused) (record { tokens = t ∷ ts; last = last }))) (sym m)
    (choose-holds inserts_anywhere refused i.inserting (record { tokens = t ∷ ts; last = last }) (λ h. absurd (true≢false (sym h ∙ e))) (λ h. refused-holds _))

-- it stands there, or is put there
data EndsDoWhile (i' : ℕ → Inner) (s : Input) : Unit {0} → Input → Type 0 where
  stands_there : {c : Input} → Followed (λ l. semicolon_of_do_while (i' l)) s tt c → EndsDoWhile i' s tt c
  put_there : Misses (ending true) s.tokens → next_is (λ t. true) s.tokens ≡ true → EndsDoWhile i' s tt s

do-while-end : (i : Inner) (i' : ℕ → Inner) (s : Input) → Holds (EndsDoWhile i' s) (semicolon_of_do_while i s)
unfolding semicolon_of_do_while
do-while-end i i' s = on-holds (ending true) _ _ s
    (λ u c h. took (stands_there (on-hit (ending true) (λ l u. returns tt) (λ l. choose (i' l).inserting inserts_anywhere refused) h (returns-followed tt c))))
    (λ m. choose-holds inserts_anywhere refused i.inserting s (λ h. if-holds (λ t. true) (returns tt) refused s (λ n. took (put_there m n)) (λ n. refused-holds s)) (λ h. refused-holds s))

may-do-while : (u : Filled) (before ts : List Filled) → next_is (λ t. true) ts ≡ true → MayInsert true (u ∷ before) ts
may-do-while u before [] h = absurd (false≢true h)
may-do-while u before (t ∷ ts) h = after_do_while

abbrev ended : {A B : Type 0} → (A → Span → B) → ℕ → Inner → A → Parser B
ended make at i x = ◌>>=◌ (semicolon_of_do_while i) (λ u. made at (make x))

put-run : {A B : Type 0} (make : A → Span → B) (at : ℕ) (i : Inner) (x : A) (rest : List Filled) (last : ℕ) → ended make at i x (record { tokens = semi true last ∷ rest; last = last }) ≡ Took (make x (record { begin = at; end = last })) (record { tokens = rest; last = last })
unfolding semicolon_of_do_while
put-run make at i x rest last = refl

put-followed : {A B : Type 0} (make : A → Span → B) (at : ℕ) (i' : ℕ → Inner) (p : ℕ → Parser A) (s b : Input) (x : A) → ((l : ℕ) → (i' l).inserting ≡ false) → FirmBy Whatever p s x b → Misses (ending true) b.tokens → next_is (λ t. true) b.tokens ≡ true
    → Followed (λ l. ◌>>=◌ (p l) (ended make at (i' l))) s (make x (record { begin = at; end = b.last })) b
put-followed {B = B} make at i' p s b x plain r m n = record {
  filled = r.first ∷ r.filled ++ semi true b.last ∷ [];
  ends = sym (end-append r.first.span.end r.filled (semi true b.last ∷ []));
  gaps = subst (λ ts. Gaps Stuck s.last [] ts b.tokens (r.first ∷ r.filled ++ semi true b.last ∷ [])) (sym r.all)
      (keep (gaps-append Stuck s.last (gaps-each (λ before ts dead l rest h. stopped _ (dead l rest h)) r.gaps)
      (insert true b.last r.ends stuck (may-do-while r.first r.filled b.tokens n) stop)));
  run = λ l rest h. ap (λ ts. after (p l (record { tokens = r.first ∷ ts; last = s.last })) (ended make at (i' l))) (append_assoc r.filled (semi true b.last ∷ []) rest)
      ∙ ap (λ o. after o (ended make at (i' l))) (r.run l (semi true b.last ∷ rest) tt) ∙ put-run make at (i' l) x rest b.last;
}
  where
    Stuck : List Filled → List Filled → Type 0
    Stuck = Dead (λ l. ◌>>=◌ (p l) (ended make at (i' l))) s.last

    stuck : Stuck (r.first ∷ r.filled) b.tokens
    stuck l rest h = subst (λ o. Never (after o (ended make at (i' l)))) (sym (r.run l rest tt)) (stopped _ (do-while-none (i' l) rest b.last (plain l) (misses-same true h m)))

made-followed : {A : Type 0} (make : Span → A) (at : ℕ) (s : Input) → Followed (λ l. made at make) s (make (record { begin = at; end = s.last })) s
made-followed make at s = record { filled = []; ends = refl; gaps = stop; run = λ l rest k. refl }

pub do-while-follows : {A B : Type 0} (i : Inner) (i' : ℕ → Inner) (f : Follows i i') (make : A → Span → B) (at : ℕ) (p : Parser A) (p' : ℕ → Parser A) (s : Input) → Holds (FirmBy Whatever p' s) (p s)
    → Holds (Followed (λ l. ◌>>=◌ (p' l) (ended make at (i' l))) s) (after (p s) (ended make at i))
do-while-follows {A = A} {B = B} i i' f make at p p' s h = bind h (λ x b r. bind (do-while-end i i' b) (λ u c e. took (at_end x b r u c e)))
  where
    at_end : (x : A) (b : Input) → FirmBy Whatever p' s x b → (u : Unit {0}) (c : Input) → EndsDoWhile i' b u c → Followed (λ l. ◌>>=◌ (p' l) (ended make at (i' l))) s (make x (record { begin = at; end = c.last })) c
    at_end x b r _ c (stands_there e) =
        let value : B = make x (record { begin = at; end = c.last }) in
        bind-followed Near (λ ts us k. k) p' (λ l. ended make at (i' l)) s b c x value (stands-less {more = Whatever} (λ ts us k. tt) (firm-followed-by r))
        (bind-followed Near (λ ts us k. k) (λ l. semicolon_of_do_while (i' l)) (λ l u. made at (make x)) b c c tt value e (made-followed (make x) at c))
    at_end x b r _ _ (put_there m n) = put-followed make at i' p' s b x f.plain r m n

-- ## Refinements

-- what is refined, by what looks at more of its nesting
pub fitting-follows : {A : Type 0} (r : Refined A) (r' : ℕ → Refined A) (s : Input) → ((l : ℕ) → Kept r (r' l)) → Runs (λ l. fitting (r' l)) (fitting r) s
fitting-follows {A = A} (Fits x) r' s h = took (record { filled = []; ends = refl; gaps = stop; run = λ l rest k. fits (r' l) (h l) rest })
  where
    fits : (o : Refined A) → Kept (Fits x) o → (rest : List Filled) → fitting o (record { tokens = rest; last = s.last }) ≡ Took x (record { tokens = rest; last = s.last })
    fits o as_it_was rest = refl
fitting-follows (Misfit place) r' s h = refused-holds s
fitting-follows TooNested r' s h = fault

pub kept-fits : {A : Type 0} {x : A} {o : Refined A} → Kept (Fits x) o → o ≡ Fits x
kept-fits as_it_was = refl

pub kept-misfit : {A : Type 0} {place : ℕ} {o : Refined A} → Kept (Misfit place) o → o ≡ Misfit place
kept-misfit as_it_was = refl
