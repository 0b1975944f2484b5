-- Reading with a stack does what the readers of the levels do.
use Rattle.std.proofs.Common.{◌≡◌, ℕ, zero, suc, ◌+◌, ◌-◌, ◌<◌, ◌≤◌, Bool, true, false, List, [], ◌∷◌, ◌++◌, Option, None, Some, refl, sym, ap, subst, ◌∙◌, arith, lit≤, ◌&&◌, ◌||◌, not, eqb-true, eq-eqb, append_assoc, append-nil}
use Rattle.std.specs.Prelude.{◌==◌}
use Rattle.es5_ast.specs.declared.operators.BinaryOperator5.{BinaryOperator5}
use Rattle.es5_ast.specs.declared.tree.Operand5.{Operand5, roll-Operand5}
use Rattle.es5_ast.specs.Lexical.{Token5}
use Rattle.es5_ast.specs.declared.operators.BinaryOperator5.TheVariants as binary
use Rattle.es5_ast.specs.Grammar.{begin_of, binary_kind, binary_level, is_in}
use Rattle.es5_reading.specs.Parser.{Input5, Inner5, Stop5, Parser, Outcome5, Took, Fault, Read5, after, returns, made}
use Rattle.es5_reading.specs.Expressions.{unary, binary_from, operands, operated, binary_at, binary_operators, look_up, operator_of_level, unless}
use Rattle.es5_cursor.specs.Takes.{known_as, next_binary, passed, TakesAs, unless_in}
use Rattle.es5_cursor.proofs.Choices.{on_as, off_as}
use Rattle.es5_read_expressions.specs.declared.binary.Pending.{Pending}
use Rattle.es5_read_expressions.specs.Levels.{climb, operand_after, with_operand, closed, completed, level_of, resumed, top, IsRising, standing, IsSilent}

after_after : {A B C : Type 0} (o : Outcome5 A) (p : A → Parser B) (q : B → Parser C) → after (after o p) q ≡ after o (λ x c. after (p x c) q)
after_after (Took x c) p q = refl
after_after (Fault stop ts) p q = refl

after_same : {A B : Type 0} (o : Outcome5 A) (p q : A → Parser B) → ((x : A) (c : Input5) → p x c ≡ q x c) → after o p ≡ after o q
after_same (Took x c) p q h = h x c
after_same (Fault stop ts) p q h = refl

after_returns : {A : Type 0} (o : Outcome5 A) → after o (λ x. returns x) ≡ o
after_returns (Took x c) = refl
after_returns (Fault stop ts) = refl

module _ (i : Inner5) (no_in : Bool) where
  -- ## One level, and several

  one_level : (above level m : ℕ) (c : Input5) → level + 1 ≡ m → binary_from i no_in (suc above) level c ≡ after (binary_from i no_in above m c) (λ x d. after (operands (binary_from i no_in above m) no_in level i.fuel d) (λ rest. made (begin_of c.tokens) (λ span. operated x rest span)))
  unfolding binary_from
  one_level above level m c e = rw (← e) refl

  pub climbs : (n above k level : ℕ) (c : Input5) → k ≡ n + above → binary_from i no_in k level c ≡ after (binary_from i no_in above (level + n) c) (climb i no_in (begin_of c.tokens) n above level)
  unfolding climb
  climbs zero above k level c e =
      let a : k ≡ above = omega arith in
      let b : level + 0 ≡ level = omega arith in
      rw (a, b) (sym (after_returns (binary_from i no_in above level c)))
  climbs (suc n) above k level c e =
      climbs n (suc above) k level c (omega arith)
      ∙ ap (λ o. after o (climb i no_in (begin_of c.tokens) n (suc above) level)) (one_level above (level + n) (level + suc n) c (omega arith))
      ∙ after_after (binary_from i no_in above (level + suc n) c) _ _
      ∙ after_same (binary_from i no_in above (level + suc n) c) _ _ (λ x d. after_after (operands (binary_from i no_in above (level + suc n)) no_in (level + n) i.fuel d) _ _)

  -- ## Levels with no operator

  quiet : (operand : Parser Read5) (level f turns : ℕ) (c : Input5) → turns ≡ suc f → known_as (binary_at no_in level) c.tokens ≡ None → operands operand no_in level turns c ≡ Took [] c
  unfolding operands
  quiet operand level f turns c e h = rw e (off_as _ _ _ c c (record { known = sym h; input = refl }))

  pub passes : (at m n k above beyond level f : ℕ) (x : Read5) (c : Input5) → i.fuel ≡ suc f → k ≡ m + n → beyond ≡ m + above → ((l : ℕ) → level + n ≤ l → known_as (binary_at no_in l) c.tokens ≡ None) → climb i no_in at k above level x c ≡ climb i no_in at n beyond level x c
  unfolding climb
  passes at zero n k above beyond level f x c fuel e g silent =
      let a : k ≡ n = omega arith in
      let b : beyond ≡ above = omega arith in
      rw (a, b) refl
  passes at (suc m) n k above beyond level f x c fuel e g silent =
      let a : k ≡ suc (m + n) = omega arith in
      rw a
      (ap (λ o. after o (λ rest d. climb i no_in at (m + n) (suc above) level (operated x rest (record { begin = at; end = d.last })) d))
      (quiet (binary_from i no_in above (level + suc (m + n))) (level + (m + n)) f i.fuel c fuel (silent (level + (m + n)) (omega arith)))
      ∙ passes at m n (m + n) (suc above) beyond level f x c fuel refl (omega arith) silent)

  -- an operand that was read, before an operator of the level or below it
  pub starts : (floor level f : ℕ) (x : Read5) (c d : Input5) → floor ≤ 12 → level ≤ 12 → i.fuel ≡ suc f → unary i c ≡ Took x d → IsSilent no_in level d → operand_after i no_in floor c ≡ standing i no_in floor level (begin_of c.tokens) x d
  unfolding binary_from
  starts floor level f x c d low high fuel read silent =
      climbs (12 - floor) 0 (12 - floor) (floor + 1) c (omega arith)
      ∙ ap (λ o. after o (climb i no_in (begin_of c.tokens) (12 - floor) 0 (floor + 1))) read
      ∙ passes (begin_of c.tokens) ((12 - floor) - (level - floor)) (level - floor) (12 - floor) 0 (12 - (floor + (level - floor))) (floor + 1) f x d fuel (omega arith) (omega arith) (λ l h. silent l (omega arith))

  pub starts_fault : (floor : ℕ) (c : Input5) (stop : Stop5) (ts : List Token5) → floor ≤ 12 → unary i c ≡ Fault stop ts → operand_after i no_in floor c ≡ Fault stop ts
  unfolding binary_from
  starts_fault floor c stop ts low read =
      climbs (12 - floor) 0 (12 - floor) (floor + 1) c (omega arith)
      ∙ ap (λ o. after o (climb i no_in (begin_of c.tokens) (12 - floor) 0 (floor + 1))) read

  -- what waits is closed where the next operator is below it
  pub closes : (floor level f t : ℕ) (w : Pending) (x : Read5) (c : Input5) → floor < w.level → w.level ≤ 12 → level < w.level → w.turns ≡ suc t → i.fuel ≡ suc f → IsSilent no_in level c → completed i no_in floor w x c ≡ standing i no_in floor level w.begin (closed w x c.last) c
  unfolding completed
  closes floor level f t w x c low high below left fuel silent =
      ap (λ o. after o (λ rest d. climb i no_in w.begin (w.level - (floor + 1)) (13 - w.level) (floor + 1) (operated w.first (with_operand w.rest w.operator x ++ rest) (record { begin = w.begin; end = d.last })) d))
      (quiet (operand_after i no_in w.level) w.level t w.turns c left (silent w.level below))
      ∙ ap (λ l. climb i no_in w.begin (w.level - (floor + 1)) (13 - w.level) (floor + 1) (operated w.first l (record { begin = w.begin; end = c.last })) c) (append-nil (with_operand w.rest w.operator x))
      ∙ passes w.begin ((w.level - (floor + 1)) - (level - floor)) (level - floor) (w.level - (floor + 1)) (13 - w.level) (12 - (floor + (level - floor))) (floor + 1) f (closed w x c.last) c fuel (omega arith) (omega arith) (λ l h. silent l (omega arith))

  -- ## Operators that are taken

  taken : (operand : Parser Read5) (level t turns : ℕ) (op : BinaryOperator5) (c d : Input5) → turns ≡ suc t → TakesAs (binary_at no_in level) c (Some op) d
      → operands operand no_in level turns c ≡ after (operand d) (λ x e. after (operands operand no_in level t e) (λ rest. returns (roll-Operand5 (record { operator = op; value = x.value }) ∷ rest)))
  unfolding operands
  taken operand level t turns op c d e h = rw e (on_as _ _ _ c d op h)

  -- one more operand of the level of what waits
  pub goes_on : (floor t : ℕ) (w : Pending) (op : BinaryOperator5) (x : Read5) (c d : Input5) → w.turns ≡ suc t → TakesAs (binary_at no_in w.level) c (Some op) d
      → completed i no_in floor w x c ≡ after (operand_after i no_in w.level d) (completed i no_in floor (record w { rest = with_operand w.rest w.operator x; operator = op; turns = t }))
  unfolding completed
  goes_on floor t w op x c d left h =
      ap (λ o. after o (λ rest d. climb i no_in w.begin (w.level - (floor + 1)) (13 - w.level) (floor + 1) (operated w.first (with_operand w.rest w.operator x ++ rest) (record { begin = w.begin; end = d.last })) d))
      (taken (operand_after i no_in w.level) w.level t w.turns op c d left h)
      ∙ after_after (operand_after i no_in w.level d) _ _
      ∙ after_same (operand_after i no_in w.level d) _ _ (λ y e. after_after (operands (operand_after i no_in w.level) no_in w.level t e) _ _
      ∙ after_same (operands (operand_after i no_in w.level) no_in w.level t e) _ _ (λ rest g. ap (λ l. climb i no_in w.begin (w.level - (floor + 1)) (13 - w.level) (floor + 1) (operated w.first l (record { begin = w.begin; end = g.last })) g)
      (sym (append_assoc (with_operand w.rest w.operator x) (roll-Operand5 (record { operator = op; value = y.value }) ∷ []) rest))))

  -- an operand of an operator that binds tighter
  pub waits : (floor at level t : ℕ) (op : BinaryOperator5) (x : Read5) (c d : Input5) → floor < level → level ≤ 12 → i.fuel ≡ suc t → TakesAs (binary_at no_in level) c (Some op) d
      → standing i no_in floor level at x c ≡ after (operand_after i no_in level d) (completed i no_in floor (record { begin = at; level = level; first = x; rest = []; operator = op; turns = t }))
  unfolding completed climb
  waits floor at level t op x c d low high fuel h =
      let n = level - (floor + 1) in
      let a : level - floor ≡ suc n = omega arith in
      let b : 12 - (floor + suc n) ≡ 12 - level = omega arith in
      let e : floor + 1 + suc n ≡ level + 1 = omega arith in
      let g : floor + 1 + n ≡ level = omega arith in
      let k : suc (12 - level) ≡ 13 - level = omega arith in
      rw (a, b, e, g, k)
      (ap (λ o. after o (λ rest d. climb i no_in at n (13 - level) (floor + 1) (operated x rest (record { begin = at; end = d.last })) d))
      (taken (operand_after i no_in level) level t i.fuel op c d fuel h)
      ∙ after_after (operand_after i no_in level d) _ _
      ∙ after_same (operand_after i no_in level d) _ _ (λ y z. after_after (operands (operand_after i no_in level) no_in level t z) _ _))

  -- ## The stack

  pub resumed_last : (floor : ℕ) (fs : List Pending) (f : Pending) (o : Outcome5 Read5) → resumed i no_in floor (fs ++ f ∷ []) o ≡ resumed i no_in floor fs (after o (completed i no_in (top floor fs) f))
  unfolding resumed
  resumed_last floor [] f o = refl
  resumed_last floor (g ∷ gs) f o = ap (λ p. after p (completed i no_in floor g)) (resumed_last g.level gs f o)

  pub resumed_fault : (floor : ℕ) (fs : List Pending) (stop : Stop5) (ts : List Token5) → resumed i no_in floor fs (Fault stop ts) ≡ Fault stop ts
  unfolding resumed
  resumed_fault floor [] stop ts = refl
  resumed_fault floor (f ∷ fs) stop ts = ap (λ p. after p (completed i no_in floor f)) (resumed_fault f.level fs stop ts)

pub top_last : (floor : ℕ) (fs : List Pending) (f : Pending) → top floor (fs ++ f ∷ []) ≡ f.level
top_last floor [] f = refl
top_last floor (g ∷ gs) f = top_last g.level gs f

pub rising_last : (floor : ℕ) (fs : List Pending) (f : Pending) → IsRising floor fs → top floor fs < f.level → f.level ≤ 12 → 0 < f.turns → IsRising floor (fs ++ f ∷ [])
rising_last floor [] f h low high left = (low, high, left, tt)
rising_last floor (g ∷ gs) f h low high left = (h.0, h.1, h.2, rising_last g.level gs f h.3 low high left)

-- the last of those that wait, and the others
pub record Last (floor : ℕ) (fs : List Pending) (f : Pending) : Type 0 where
  pub front : IsRising floor fs
  pub low : top floor fs < f.level
  pub high : f.level ≤ 12
  pub left : 0 < f.turns

pub rising_front : (floor : ℕ) (fs : List Pending) (f : Pending) → IsRising floor (fs ++ f ∷ []) → Last floor fs f
rising_front floor [] f h = record { front = tt; low = h.0; high = h.1; left = h.2 }
rising_front floor (g ∷ gs) f h =
    let e = rising_front g.level gs f h.3 in
    record { front = (h.0, h.1, h.2, e.front); low = e.low; high = e.high; left = e.left }

pub rising_top : (floor : ℕ) (fs : List Pending) → IsRising floor fs → floor ≤ 12 → (floor ≤ top floor fs) × (top floor fs ≤ 12)
rising_top floor [] h high = (omega arith, high)
rising_top floor (g ∷ gs) h high =
    let e = rising_top g.level gs h.3 h.1 in
    (omega arith, e.1)

pub none_wait : (floor : ℕ) (fs : List Pending) → IsRising floor fs → top floor fs ≤ floor → fs ≡ []
none_wait floor [] h low = refl
none_wait floor (g ∷ gs) h low =
    let e = rising_top g.level gs h.3 h.1 in
    absurd (omega arith)

pub rising_split : (floor : ℕ) (stack fs : List Pending) (f : Pending) → stack ≡ fs ++ f ∷ [] → IsRising floor stack → Last floor fs f
rising_split floor stack fs f e h = rising_front floor fs f (subst (IsRising floor) e h)

-- what is taken from the stack and put back
pub rising_again : (stack new fs : List Pending) (f : Pending) (level : ℕ) → stack ≡ fs ++ f ∷ [] → new ≡ fs ++ f ∷ [] → IsRising 2 stack → f.level ≤ level → IsRising 2 new × (top 2 new ≤ level)
rising_again stack new fs f level e g h low =
    let r : IsRising 2 (fs ++ f ∷ []) = subst (IsRising 2) e h in
    rw g (r, omega (arith, top_last 2 fs f))

low_level : (op : BinaryOperator5) → (3 ≤ binary_level op) × (binary_level op ≤ 12)
low_level binary.Or = (lit≤ tt, lit≤ tt)
low_level _ = (lit≤ tt, lit≤ tt)

pub above_two : (op : BinaryOperator5) → 3 ≤ binary_level op
above_two op = (low_level op).0

pub below_twelve : (op : BinaryOperator5) → binary_level op ≤ 12
below_twelve op = (low_level op).1

-- ## What the functions do with the stack

module _ (i : Inner5) (no_in : Bool) where
  pub close_one : (level f : ℕ) (fs : List Pending) (w : Pending) (at : ℕ) (x : Read5) (c : Input5) → i.fuel ≡ suc f → IsRising 2 (fs ++ w ∷ []) → level < w.level → IsSilent no_in level c
      → resumed i no_in 2 (fs ++ w ∷ []) (standing i no_in (top 2 (fs ++ w ∷ [])) level at x c) ≡ resumed i no_in 2 fs (standing i no_in (top 2 fs) level w.begin (closed w x c.last) c)
  unfolding climb
  close_one level f fs w at x c fuel rising below silent =
      let h = rising_front 2 fs w rising in
      let a : level - w.level ≡ 0 = omega arith in
      let t : w.turns ≡ suc (w.turns - 1) = omega (arith, h.left) in
      rw (top_last 2 fs w, a)
      (resumed_last i no_in 2 fs w (Took x c)
      ∙ ap (resumed i no_in 2 fs) (closes i no_in (top 2 fs) level f (w.turns - 1) w x c h.low h.high below t fuel silent))

  pub close_stack : (level f : ℕ) (stack fs : List Pending) (w : Pending) (at : ℕ) (x : Read5) (c : Input5) → i.fuel ≡ suc f → stack ≡ fs ++ w ∷ [] → IsRising 2 stack → level < w.level → IsSilent no_in level c
      → resumed i no_in 2 stack (standing i no_in (top 2 stack) level at x c) ≡ resumed i no_in 2 fs (standing i no_in (top 2 fs) level w.begin (closed w x c.last) c)
  close_stack level f stack fs w at x c fuel e rising below silent = rw e (close_one level f fs w at x c fuel (subst (IsRising 2) e rising) below silent)

  pub wait_first : (t : ℕ) (fs : List Pending) (w : Pending) (c d : Input5) → i.fuel ≡ suc t → w.turns ≡ t → w.rest ≡ [] → IsRising 2 fs → top 2 fs < w.level → w.level ≤ 12 → TakesAs (binary_at no_in w.level) c (Some w.operator) d
      → resumed i no_in 2 fs (standing i no_in (top 2 fs) w.level w.begin w.first c) ≡ resumed i no_in 2 (fs ++ w ∷ []) (operand_after i no_in (top 2 (fs ++ w ∷ [])) d)
  wait_first t fs w c d fuel left none rising low high h =
      ap (resumed i no_in 2 fs) (waits i no_in (top 2 fs) w.begin w.level t w.operator w.first c d low high fuel h
      ∙ ap (λ v. after (operand_after i no_in w.level d) (completed i no_in (top 2 fs) v)) (same w left none))
      ∙ sym (resumed_last i no_in 2 fs w (operand_after i no_in w.level d))
      ∙ ap (λ l. resumed i no_in 2 (fs ++ w ∷ []) (operand_after i no_in l d)) (sym (top_last 2 fs w))
    where
      same : (w : Pending) → w.turns ≡ t → w.rest ≡ [] → record { begin = w.begin; level = w.level; first = w.first; rest = []; operator = w.operator; turns = t } ≡ w
      same w e g = rw (← e, ← g) refl

  pub wait_more : (fs : List Pending) (w : Pending) (t at : ℕ) (op : BinaryOperator5) (x : Read5) (c d : Input5) → w.turns ≡ suc t → TakesAs (binary_at no_in w.level) c (Some op) d
      → resumed i no_in 2 (fs ++ w ∷ []) (standing i no_in (top 2 (fs ++ w ∷ [])) w.level at x c)
      ≡ resumed i no_in 2 (fs ++ record w { rest = with_operand w.rest w.operator x; operator = op; turns = t } ∷ []) (operand_after i no_in (top 2 (fs ++ record w { rest = with_operand w.rest w.operator x; operator = op; turns = t } ∷ [])) d)
  unfolding climb
  wait_more fs w t at op x c d left h =
      let v = record w { rest = with_operand w.rest w.operator x; operator = op; turns = t } in
      let a : w.level - w.level ≡ 0 = omega arith in
      rw (top_last 2 fs w, a)
      (resumed_last i no_in 2 fs w (Took x c)
      ∙ ap (resumed i no_in 2 fs) (goes_on i no_in (top 2 fs) t w op x c d left h)
      ∙ sym (resumed_last i no_in 2 fs v (operand_after i no_in w.level d))
      ∙ ap (λ l. resumed i no_in 2 (fs ++ v ∷ []) (operand_after i no_in l d)) (sym (top_last 2 fs v)))

  -- an operator of a level of its own is taken
  pub started : (l at : ℕ) (op : BinaryOperator5) (x : Read5) (c d : Input5) (stack new : List Pending) (w : Pending) → i.fuel ≡ suc 67108864 → l ≡ binary_level op
      → w ≡ record { begin = at; level = l; first = x; rest = []; operator = op; turns = 67108864 } → new ≡ stack ++ w ∷ [] → IsRising 2 stack → top 2 stack < l → d ≡ passed true c → known_as (binary_at no_in (binary_level op)) c.tokens ≡ Some op
      → resumed i no_in 2 stack (standing i no_in (top 2 stack) (binary_level op) at x c) ≡ resumed i no_in 2 new (operand_after i no_in (top 2 new) d)
  started l at op x c d stack new w fuel le we ne rising low de known =
      let high : l ≤ 12 = omega (arith, below_twelve op) in
      let take : TakesAs (binary_at no_in l) c (Some op) d = record { known = sym (ap (λ m. known_as (binary_at no_in m) c.tokens) le ∙ known); input = de } in
      rw (← le, ne, we) (wait_first 67108864 stack (record { begin = at; level = l; first = x; rest = []; operator = op; turns = 67108864 }) c d fuel refl refl rising low high take)

  -- an operator of the level of what waits is taken
  pub grown : (at : ℕ) (op : BinaryOperator5) (x : Read5) (c d : Input5) (stack new fs : List Pending) (w v : Pending) → w.level ≡ binary_level op → 1 < w.turns
      → v ≡ record w { rest = with_operand w.rest w.operator x; operator = op; turns = w.turns - 1 } → stack ≡ fs ++ w ∷ [] → new ≡ fs ++ v ∷ [] → d ≡ passed true c → known_as (binary_at no_in (binary_level op)) c.tokens ≡ Some op
      → resumed i no_in 2 stack (standing i no_in (top 2 stack) (binary_level op) at x c) ≡ resumed i no_in 2 new (operand_after i no_in (top 2 new) d)
  grown at op x c d stack new fs w v le left ve se ne de known =
      let take : TakesAs (binary_at no_in w.level) c (Some op) d = record { known = sym (ap (λ m. known_as (binary_at no_in m) c.tokens) le ∙ known); input = de } in
      rw (← le, se, ne, ve) (wait_more fs w (w.turns - 1) at op x c d (omega arith) take)

pub rising_started : (stack new : List Pending) (w : Pending) → new ≡ stack ++ w ∷ [] → IsRising 2 stack → top 2 stack < w.level → w.level ≤ 12 → 0 < w.turns → IsRising 2 new
rising_started stack new w e rising low high left = rw e (rising_last 2 stack w rising low high left)

pub rising_grown : (stack new fs : List Pending) (w v : Pending) → stack ≡ fs ++ w ∷ [] → new ≡ fs ++ v ∷ [] → v.level ≡ w.level → 0 < v.turns → IsRising 2 stack → IsRising 2 new
rising_grown stack new fs w v e g le left rising =
    let split = rising_split 2 stack fs w e rising in
    let low : top 2 fs < v.level = omega (arith, split.low) in
    let high : v.level ≤ 12 = omega (arith, split.high) in
    rw g (rising_last 2 fs v split.front low high left)

-- ## The loop over operands

unless_same : (no_in : Bool) (o : Option BinaryOperator5) (l : ℕ) → level_of (unless_in no_in o) < l → operator_of_level no_in l o ≡ None
unless_same no_in None l h = refl
unless_same no_in (Some op) l h = at (no_in && is_in op) h
  where
    at : (b : Bool) → level_of (unless b (Some op)) < l → unless (not (binary_level op == l) || b) (Some op) ≡ None
    at true h = differs (binary_level op == l)
      where
        differs : (e : Bool) → unless (not e || true) (Some op) ≡ None
        differs true = refl
        differs false = refl
    at false h = differs (binary_level op == l) refl
      where
        differs : (e : Bool) → (binary_level op == l) ≡ e → unless (not e || false) (Some op) ≡ None
        differs true g = absurd (omega (arith, eqb-true (binary_level op) l g))
        differs false g = refl

unless_known : (no_in : Bool) (o : Option BinaryOperator5) (op : BinaryOperator5) → unless_in no_in o ≡ Some op → operator_of_level no_in (binary_level op) o ≡ Some op
unless_known no_in None op h = absurd (cc)
unless_known no_in (Some p) op h = at (no_in && is_in p) h
  where
    at : (b : Bool) → unless b (Some p) ≡ Some op → unless (not (binary_level p == binary_level op) || b) (Some p) ≡ Some op
    at true h = absurd (cc)
    at false h =
        let e : p ≡ op = cc in
        rw (e, eq-eqb (binary_level op) (binary_level op) refl) refl

pub silent : (no_in : Bool) (o : Option BinaryOperator5) (level : ℕ) (c : Input5) → o ≡ known_as (next_binary no_in) c.tokens → level ≡ level_of o → IsSilent no_in level c
silent no_in o level c e g = at c.tokens (g ∙ ap level_of e)
  where
    at : (ts : List Token5) → level ≡ level_of (known_as (next_binary no_in) ts) → (l : ℕ) → level < l → known_as (binary_at no_in l) ts ≡ None
    at [] g l h = refl
    at (t ∷ ts) g l h = unless_same no_in (look_up binary_kind binary_operators t.kind) l (omega (arith, g, h))

pub known : (no_in : Bool) (o : Option BinaryOperator5) (op : BinaryOperator5) (c : Input5) → o ≡ known_as (next_binary no_in) c.tokens → o ≡ Some op → known_as (binary_at no_in (binary_level op)) c.tokens ≡ Some op
known no_in o op c e g = at c.tokens (sym e ∙ g)
  where
    at : (ts : List Token5) → known_as (next_binary no_in) ts ≡ Some op → known_as (binary_at no_in (binary_level op)) ts ≡ Some op
    at [] h = absurd (cc)
    at (t ∷ ts) h = unless_known no_in (look_up binary_kind binary_operators t.kind) op h

pub none_rising : (stack : List Pending) → stack ≡ [] → IsRising 2 stack
none_rising stack e = rw e tt

module _ (i : Inner5) (no_in : Bool) where
  pub begins_with : (stack : List Pending) (c : Input5) → stack ≡ [] → binary_from i no_in 10 3 c ≡ resumed i no_in 2 stack (operand_after i no_in (top 2 stack) c)
  unfolding resumed
  begins_with stack c e = rw e refl

  pub unary_fault : (stack : List Pending) (c : Input5) (stop : Stop5) (ts : List Token5) → IsRising 2 stack → unary i c ≡ Fault stop ts → resumed i no_in 2 stack (operand_after i no_in (top 2 stack) c) ≡ Fault stop ts
  unary_fault stack c stop ts rising read = ap (resumed i no_in 2 stack) (starts_fault i no_in (top 2 stack) c stop ts (rising_top 2 stack rising (lit≤ tt)).1 read) ∙ resumed_fault i no_in 2 stack stop ts

  pub reads_on : (level : ℕ) (stack : List Pending) (x : Read5) (c d : Input5) → i.fuel ≡ suc 67108864 → level ≤ 12 → IsRising 2 stack → unary i c ≡ Took x d → IsSilent no_in level d
      → resumed i no_in 2 stack (operand_after i no_in (top 2 stack) c) ≡ resumed i no_in 2 stack (standing i no_in (top 2 stack) level (begin_of c.tokens) x d)
  reads_on level stack x c d fuel high rising read silent = ap (resumed i no_in 2 stack) (starts i no_in (top 2 stack) level 67108864 x c d (rising_top 2 stack rising (lit≤ tt)).1 high fuel read silent)

  pub finishes : (level : ℕ) (stack : List Pending) (at : ℕ) (x : Read5) (c : Input5) → level ≡ 2 → IsRising 2 stack → top 2 stack ≤ level → resumed i no_in 2 stack (standing i no_in (top 2 stack) level at x c) ≡ Took x c
  unfolding resumed climb
  finishes level stack at x c two rising low =
      let none : stack ≡ [] = none_wait 2 stack rising (omega arith) in
      rw (none, two) refl
