-- Accesses and calls are read one by one.
use Rattle.std.proofs.Common.{◌≡◌, ℕ, suc, ◌+◌, ◌-◌, ◌<◌, ◌≤◌, Bool, true, false, List, [], ◌∷◌, ◌++◌, Option, Some, None, refl, ap, ◌∙◌}
use Rattle.std.specs.Prelude.{codes}
use Rattle.es5_ast.specs.declared.tree.Link5.{Link5}
use Rattle.es5_ast.specs.Lexical.{Token5}
use Rattle.es5_ast.specs.Grammar.{is_mark}
use Rattle.es5_reading.specs.Parser.{Input5, Inner5, Stop5, Outcome5, Took, Fault, Endless, Depth, Parser, after, returns, fails, on, on_taken, mark, next_mark, next_is, choose, on_group}
use Rattle.es5_reading.specs.Expressions.{links, member_link, index_link, call_link}
use Rattle.es5_cursor.specs.Readers.{turns, before}
use Rattle.es5_read_expressions.specs.Links.{one_link}
use Rattle.es5_cursor.proofs.Loops.{turn, no_turn, one_before, ended, then}

-- ## What follows a choice follows each of its ways

module _ {A B : Type 0} (k : A → Parser B) where
  after_choice : (b : Bool) (p q : Parser A) (p' q' : Parser B) (c : Input5) → p' c ≡ after (p c) k → q' c ≡ after (q c) k → choose b p' q' c ≡ after (choose b p q c) k
  after_choice true p q p' q' c f g = f
  after_choice false p q p' q' c f g = g

  pub after_on : {C : Type 0} (test : Token5 → Option C) (p : C → Parser A) (q : Parser A) (p' : C → Parser B) (q' : Parser B) (c : Input5) → ((x : C) (d : Input5) → p' x d ≡ after (p x d) k) → q' c ≡ after (q c) k → on test p' q' c ≡ after (on test p q c) k
  after_on {C = C} test p q p' q' c f g = at c.tokens c.last g
    where
      at : (ts : List Token5) (last : ℕ) → q' (record { tokens = ts; last = last }) ≡ after (q (record { tokens = ts; last = last })) k → on test p' q' (record { tokens = ts; last = last }) ≡ after (on test p q (record { tokens = ts; last = last })) k
      at [] last g = g
      at (t ∷ ts) last g = known (test t) g
        where
          known : (o : Option C) → q' (record { tokens = t ∷ ts; last = last }) ≡ after (q (record { tokens = t ∷ ts; last = last })) k → on_taken o t ts p' q' (record { tokens = t ∷ ts; last = last }) ≡ after (on_taken o t ts p q (record { tokens = t ∷ ts; last = last })) k
          known (Some x) g = f x (record { tokens = ts; last = t.end })
          known None g = g

  after_group : (i : Inner5) (m : List ℕ) (p q : Parser A) (p' q' : Parser B) (c : Input5) → ((d : Input5) → p' d ≡ after (p d) k) → q' c ≡ after (q c) k → on_group i m p' q' c ≡ after (on_group i m p q c) k
  after_group i m p q p' q' c f g =
      after_choice (next_is (next_mark m) c.tokens) _ _ _ _ c
      (after_choice i.may_open _ _ _ _ c (after_on (mark m) (λ t. p) q (λ t. p') q' c (λ t d. f d) g) refl) g

-- what follows a link, or the end of the list
pub linked : Parser (List Link5) → Option Link5 → Parser (List Link5)
linked more None = returns []
linked more (Some l) = λ c. after (more c) (λ ls. returns (l ∷ ls))

one_of : (o : Outcome5 Link5) (more : Parser (List Link5)) → after o (λ l c. after (more c) (λ ls. returns (l ∷ ls))) ≡ after (after o (λ l. returns (Some l))) (linked more)
unfolding linked
one_of (Took l c) more = refl
one_of (Fault stop ts) more = refl

step : (i : Inner5) (calls : Bool) (m : ℕ) (c : Input5) → links i calls (suc m) c ≡ after (one_link i calls c) (linked (links i calls m))
unfolding links one_link linked
step i calls m c =
    after_on (linked (links i calls m)) (mark (codes ".")) _ _ _ _ c (λ t d. one_of (member_link _ d) (links i calls m))
    (after_group (linked (links i calls m)) i (codes "[") _ _ _ _ c (λ d. one_of (index_link i _ d) (links i calls m))
    (after_choice (linked (links i calls m)) calls _ _ _ _ c
    (after_group (linked (links i calls m)) i (codes "(") _ _ _ _ c (λ d. one_of (call_link i _ d) (links i calls m)) refl) refl))

pub links_turn : (i : Inner5) (calls : Bool) (n : ℕ) (c : Input5) → n < turns → links i calls (turns - n) c ≡ after (one_link i calls c) (linked (links i calls (turns - (n + 1))))
links_turn i calls n c h = ap (λ m. links i calls m c) (turn n h) ∙ step i calls (turns - (n + 1)) c

pub links_more : (i : Inner5) (calls : Bool) (n : ℕ) (front : List Link5) (c d : Input5) (l : Link5) → n < turns → one_link i calls c ≡ Took (Some l) d → before front (links i calls (turns - n) c) ≡ before (front ++ l ∷ []) (links i calls (turns - (n + 1)) d)
unfolding linked
links_more i calls n front c d l lt read = ap (before front) (links_turn i calls n c lt ∙ then _ read) ∙ one_before front l (links i calls (turns - (n + 1)) d)

pub links_end : (i : Inner5) (calls : Bool) (n : ℕ) (front : List Link5) (c d : Input5) → n < turns → one_link i calls c ≡ Took None d → before front (links i calls (turns - n) c) ≡ Took front d
unfolding linked
links_end i calls n front c d lt read = ended front (links_turn i calls n c lt ∙ then _ read)

pub links_fault : (i : Inner5) (calls : Bool) (n : ℕ) (front : List Link5) (c : Input5) (stop : Stop5) (ts : List Token5) → n < turns → one_link i calls c ≡ Fault stop ts → before front (links i calls (turns - n) c) ≡ Fault stop ts
links_fault i calls n front c stop ts lt read = ap (before front) (links_turn i calls n c lt ∙ ap (λ o. after o (linked (links i calls (turns - (n + 1))))) read)

pub links_stop : (i : Inner5) (calls : Bool) (n : ℕ) (front : List Link5) (c : Input5) → turns ≤ n → before front (links i calls (turns - n) c) ≡ Fault Endless c.tokens
unfolding links
links_stop i calls n front c h = ap (λ m. before front (links i calls m c)) (no_turn n h)
