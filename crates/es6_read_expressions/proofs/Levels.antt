-- Reading with a stack does what the readers of the levels do.
use Rattle.std.proofs.Common.{◌≡◌, ℕ, zero, suc, ◌+◌, ◌-◌, ◌<◌, ◌≤◌, Bool, true, false, List, [], ◌∷◌, ◌++◌, Option, None, Some, refl, sym, ap, subst, ◌∙◌, arith, lit≤, ◌||◌, not, eqb-true, eq-eqb, append_assoc, append-nil}
use Rattle.std.specs.Prelude.{◌==◌}
use Rattle.es6_ast.specs.declared.operators.BinaryOperator.{BinaryOperator}
use Rattle.es6_ast.specs.declared.operators.BinaryOperator.TheVariants as binary
use Rattle.es6_ast.specs.declared.tree.Operand.{roll-Operand}
use Rattle.es6_ast.specs.declared.settings.Flags.{Flags}
use Rattle.es6_ast.specs.declared.settings.Role.{Role}
use Rattle.es6_ast.specs.declared.settings.Role.TheVariants.{Leading, Among}
use Rattle.es6_ast.specs.declared.settings.Stop.{Stop}
use Rattle.es6_ast.specs.Tokens.{Filled, begin_of}
use Rattle.es6_ast.specs.Grammar.{binary_kind, binary_level, is_in}
use Rattle.es6_reading.specs.Parser.{Input, Inner, Parser, Outcome, Took, Fault, Reading, after, returns, made}
use Rattle.es6_reading.specs.Words.{binary_at, binary_operators, look_up, operator_of_level, unless}
use Rattle.es6_reading.specs.Expressions.{power, binary_from, operands, operated}
use Rattle.es6_cursor.specs.Reads.{Halts}
use Rattle.es6_cursor.specs.declared.halt.Halt.{Halt}
use Rattle.es6_cursor.specs.declared.halt.Halt.TheVariants.{Stopped, OutOfMemory}
use Rattle.es6_cursor.specs.Takes.{known_as, next_binary, passed, TakesAs, unless_in}
use Rattle.es6_cursor.proofs.Choices.{on_as, off_as}
use Rattle.es6_read_primaries.proofs.Follows.{after_after, after_same}
use Rattle.es6_read_expressions.specs.Levels.{Waiting, climb, operand_after, with_operand, closed, completed, level_of, resumed, top, IsRising, standing, IsSilent}

after_returns : {A : Type 0} (o : Outcome A) → after o (λ x. returns x) ≡ o
after_returns (Took x c) = refl
after_returns (Fault stop ts) = refl

module _ (i : Inner) (flags : Flags) where
  -- ## One level, and several

  one_level : (role : Role) (above level m : ℕ) (c : Input) → level + 1 ≡ m → binary_from i flags role (suc above) level c ≡ after (binary_from i flags role above m c) (λ x d. after (operands (binary_from i flags Among above m) flags level i.fuel d) (λ rest. made (begin_of c.tokens) (λ span. operated x rest span)))
  unfolding binary_from
  one_level role above level m c e = rw (← e) refl

  pub climbs : (role : Role) (n above k level : ℕ) (c : Input) → k ≡ n + above → binary_from i flags role k level c ≡ after (binary_from i flags role above (level + n) c) (climb i flags (begin_of c.tokens) n above level)
  unfolding climb
  climbs role zero above k level c e =
      let a : k ≡ above = omega arith in
      let b : level + 0 ≡ level = omega arith in
      rw (a, b) (sym (after_returns (binary_from i flags role above level c)))
  climbs role (suc n) above k level c e =
      climbs role n (suc above) k level c (omega arith)
      ∙ ap (λ o. after o (climb i flags (begin_of c.tokens) n (suc above) level)) (one_level role above (level + n) (level + suc n) c (omega arith))
      ∙ after_after (binary_from i flags role above (level + suc n) c) _ _
      ∙ after_same (binary_from i flags role above (level + suc n) c) _ _ (λ x d. after_after (operands (binary_from i flags Among above (level + suc n)) flags (level + n) i.fuel d) _ _)

  -- ## Levels with no operator

  quiet : (operand : Parser Reading) (level f turns : ℕ) (c : Input) → turns ≡ suc f → known_as (binary_at flags level) c.tokens ≡ None → operands operand flags level turns c ≡ Took [] c
  unfolding operands
  quiet operand level f turns c e h = rw e (off_as _ _ _ c c (record { known = sym h; input = refl }))

  pub passes : (at m n k above beyond level f : ℕ) (x : Reading) (c : Input) → i.fuel ≡ suc f → k ≡ m + n → beyond ≡ m + above → ((l : ℕ) → level + n ≤ l → known_as (binary_at flags l) c.tokens ≡ None) → climb i flags at k above level x c ≡ climb i flags at n beyond level x c
  unfolding climb
  passes at zero n k above beyond level f x c fuel e g silent =
      let a : k ≡ n = omega arith in
      let b : beyond ≡ above = omega arith in
      rw (a, b) refl
  passes at (suc m) n k above beyond level f x c fuel e g silent =
      let a : k ≡ suc (m + n) = omega arith in
      rw a
      (ap (λ o. after o (λ rest d. climb i flags at (m + n) (suc above) level (operated x rest (record { begin = at; end = d.last })) d))
      (quiet (binary_from i flags Among above (level + suc (m + n))) (level + (m + n)) f i.fuel c fuel (silent (level + (m + n)) (omega arith)))
      ∙ passes at m n (m + n) (suc above) beyond level f x c fuel refl (omega arith) silent)

  -- an operand that was read, before an operator of the level or below it
  pub starts : (role : Role) (floor level f : ℕ) (x : Reading) (c d : Input) → floor ≤ 12 → level ≤ 12 → i.fuel ≡ suc f → power i flags role c ≡ Took x d → IsSilent flags level d → operand_after i flags role floor c ≡ standing i flags floor level (begin_of c.tokens) x d
  unfolding binary_from
  starts role floor level f x c d low high fuel read silent =
      climbs role (12 - floor) 0 (12 - floor) (floor + 1) c (omega arith)
      ∙ ap (λ o. after o (climb i flags (begin_of c.tokens) (12 - floor) 0 (floor + 1))) read
      ∙ passes (begin_of c.tokens) ((12 - floor) - (level - floor)) (level - floor) (12 - floor) 0 (12 - (floor + (level - floor))) (floor + 1) f x d fuel (omega arith) (omega arith) (λ l h. silent l (omega arith))

  pub starts_fault : (role : Role) (floor : ℕ) (c : Input) (stop : Stop) (ts : List Filled) → floor ≤ 12 → power i flags role c ≡ Fault stop ts → operand_after i flags role floor c ≡ Fault stop ts
  unfolding binary_from
  starts_fault role floor c stop ts low read =
      climbs role (12 - floor) 0 (12 - floor) (floor + 1) c (omega arith)
      ∙ ap (λ o. after o (climb i flags (begin_of c.tokens) (12 - floor) 0 (floor + 1))) read

  -- what waits is closed where the next operator is below it
  pub closes : (floor level f t : ℕ) (w : Waiting) (x : Reading) (c : Input) → floor < w.level → w.level ≤ 12 → level < w.level → w.turns ≡ suc t → i.fuel ≡ suc f → IsSilent flags level c → completed i flags floor w x c ≡ standing i flags floor level w.begin (closed w x c.last) c
  unfolding completed
  closes floor level f t w x c low high below left fuel silent =
      ap (λ o. after o (λ rest d. climb i flags w.begin (w.level - (floor + 1)) (13 - w.level) (floor + 1) (operated w.first (with_operand w.rest w.operator x ++ rest) (record { begin = w.begin; end = d.last })) d))
      (quiet (operand_after i flags Among w.level) w.level t w.turns c left (silent w.level below))
      ∙ ap (λ l. climb i flags w.begin (w.level - (floor + 1)) (13 - w.level) (floor + 1) (operated w.first l (record { begin = w.begin; end = c.last })) c) (append-nil (with_operand w.rest w.operator x))
      ∙ passes w.begin ((w.level - (floor + 1)) - (level - floor)) (level - floor) (w.level - (floor + 1)) (13 - w.level) (12 - (floor + (level - floor))) (floor + 1) f (closed w x c.last) c fuel (omega arith) (omega arith) (λ l h. silent l (omega arith))

  -- ## Operators that are taken

  taken : (operand : Parser Reading) (level t turns : ℕ) (op : BinaryOperator) (c d : Input) → turns ≡ suc t → TakesAs (binary_at flags level) c (Some op) d
      → operands operand flags level turns c ≡ after (operand d) (λ x e. after (operands operand flags level t e) (λ rest. returns (roll-Operand (record { operator = op; value = x.value }) ∷ rest)))
  unfolding operands
  taken operand level t turns op c d e h = rw e (on_as _ _ _ c d op h)

  -- one more operand of the level of what waits
  pub goes_on : (floor t : ℕ) (w : Waiting) (op : BinaryOperator) (x : Reading) (c d : Input) → w.turns ≡ suc t → TakesAs (binary_at flags w.level) c (Some op) d
      → completed i flags floor w x c ≡ after (operand_after i flags Among w.level d) (completed i flags floor (record w { rest = with_operand w.rest w.operator x; operator = op; turns = t }))
  unfolding completed
  goes_on floor t w op x c d left h =
      ap (λ o. after o (λ rest d. climb i flags w.begin (w.level - (floor + 1)) (13 - w.level) (floor + 1) (operated w.first (with_operand w.rest w.operator x ++ rest) (record { begin = w.begin; end = d.last })) d))
      (taken (operand_after i flags Among w.level) w.level t w.turns op c d left h)
      ∙ after_after (operand_after i flags Among w.level d) _ _
      ∙ after_same (operand_after i flags Among w.level d) _ _ (λ y e. after_after (operands (operand_after i flags Among w.level) flags w.level t e) _ _
      ∙ after_same (operands (operand_after i flags Among w.level) flags w.level t e) _ _ (λ rest g. ap (λ l. climb i flags w.begin (w.level - (floor + 1)) (13 - w.level) (floor + 1) (operated w.first l (record { begin = w.begin; end = g.last })) g)
      (sym (append_assoc (with_operand w.rest w.operator x) (roll-Operand (record { operator = op; value = y.value }) ∷ []) rest))))

  -- an operand of an operator that binds tighter
  pub waits : (floor at level t : ℕ) (op : BinaryOperator) (x : Reading) (c d : Input) → floor < level → level ≤ 12 → i.fuel ≡ suc t → TakesAs (binary_at flags level) c (Some op) d
      → standing i flags floor level at x c ≡ after (operand_after i flags Among level d) (completed i flags floor (record { begin = at; level = level; first = x; rest = []; operator = op; turns = t }))
  unfolding completed climb
  waits floor at level t op x c d low high fuel h =
      let n = level - (floor + 1) in
      let a : level - floor ≡ suc n = omega arith in
      let b : 12 - (floor + suc n) ≡ 12 - level = omega arith in
      let e : floor + 1 + suc n ≡ level + 1 = omega arith in
      let g : floor + 1 + n ≡ level = omega arith in
      let k : suc (12 - level) ≡ 13 - level = omega arith in
      rw (a, b, e, g, k)
      (ap (λ o. after o (λ rest d. climb i flags at n (13 - level) (floor + 1) (operated x rest (record { begin = at; end = d.last })) d))
      (taken (operand_after i flags Among level) level t i.fuel op c d fuel h)
      ∙ after_after (operand_after i flags Among level d) _ _
      ∙ after_same (operand_after i flags Among level d) _ _ (λ y z. after_after (operands (operand_after i flags Among level) flags level t z) _ _))

  -- ## The stack

  pub resumed_last : (floor : ℕ) (fs : List Waiting) (f : Waiting) (o : Outcome Reading) → resumed i flags floor (fs ++ f ∷ []) o ≡ resumed i flags floor fs (after o (completed i flags (top floor fs) f))
  unfolding resumed
  resumed_last floor [] f o = refl
  resumed_last floor (g ∷ gs) f o = ap (λ p. after p (completed i flags floor g)) (resumed_last g.level gs f o)

  pub resumed_fault : (floor : ℕ) (fs : List Waiting) (stop : Stop) (ts : List Filled) → resumed i flags floor fs (Fault stop ts) ≡ Fault stop ts
  unfolding resumed
  resumed_fault floor [] stop ts = refl
  resumed_fault floor (f ∷ fs) stop ts = ap (λ p. after p (completed i flags floor f)) (resumed_fault f.level fs stop ts)

pub top_last : (floor : ℕ) (fs : List Waiting) (f : Waiting) → top floor (fs ++ f ∷ []) ≡ f.level
top_last floor [] f = refl
top_last floor (g ∷ gs) f = top_last g.level gs f

pub rising_last : (floor : ℕ) (fs : List Waiting) (f : Waiting) → IsRising floor fs → top floor fs < f.level → f.level ≤ 12 → 0 < f.turns → IsRising floor (fs ++ f ∷ [])
rising_last floor [] f h low high left = (low, high, left, tt)
rising_last floor (g ∷ gs) f h low high left = (h.0, h.1, h.2, rising_last g.level gs f h.3 low high left)

-- the last of those that wait, and the others
pub record Last (floor : ℕ) (fs : List Waiting) (f : Waiting) : Type 0 where
  pub front : IsRising floor fs
  pub low : top floor fs < f.level
  pub high : f.level ≤ 12
  pub left : 0 < f.turns

pub rising_front : (floor : ℕ) (fs : List Waiting) (f : Waiting) → IsRising floor (fs ++ f ∷ []) → Last floor fs f
rising_front floor [] f h = record { front = tt; low = h.0; high = h.1; left = h.2 }
rising_front floor (g ∷ gs) f h =
    let e = rising_front g.level gs f h.3 in
    record { front = (h.0, h.1, h.2, e.front); low = e.low; high = e.high; left = e.left }

pub rising_top : (floor : ℕ) (fs : List Waiting) → IsRising floor fs → floor ≤ 12 → (floor ≤ top floor fs) × (top floor fs ≤ 12)
rising_top floor [] h high = (omega arith, high)
rising_top floor (g ∷ gs) h high =
    let e = rising_top g.level gs h.3 h.1 in
    (omega arith, e.1)

pub none_wait : (floor : ℕ) (fs : List Waiting) → IsRising floor fs → top floor fs ≤ floor → fs ≡ []
none_wait floor [] h low = refl
none_wait floor (g ∷ gs) h low =
    let e = rising_top g.level gs h.3 h.1 in
    absurd (omega arith)

pub rising_split : (floor : ℕ) (stack fs : List Waiting) (f : Waiting) → stack ≡ fs ++ f ∷ [] → IsRising floor stack → Last floor fs f
rising_split floor stack fs f e h = rising_front floor fs f (subst (IsRising floor) e h)

-- what is taken from the stack and put back
pub rising_again : (stack new fs : List Waiting) (f : Waiting) (level : ℕ) → stack ≡ fs ++ f ∷ [] → new ≡ fs ++ f ∷ [] → IsRising 2 stack → f.level ≤ level → IsRising 2 new × (top 2 new ≤ level)
rising_again stack new fs f level e g h low =
    let r : IsRising 2 (fs ++ f ∷ []) = subst (IsRising 2) e h in
    rw g (r, omega (arith, top_last 2 fs f))

low_level : (op : BinaryOperator) → (3 ≤ binary_level op) × (binary_level op ≤ 12)
low_level binary.Or = (lit≤ tt, lit≤ tt)
low_level _ = (lit≤ tt, lit≤ tt)

pub above_two : (op : BinaryOperator) → 3 ≤ binary_level op
above_two op = (low_level op).0

pub below_twelve : (op : BinaryOperator) → binary_level op ≤ 12
below_twelve op = (low_level op).1

-- ## What the functions do with the stack

module _ (i : Inner) (flags : Flags) where
  pub close_one : (level f : ℕ) (fs : List Waiting) (w : Waiting) (at : ℕ) (x : Reading) (c : Input) → i.fuel ≡ suc f → IsRising 2 (fs ++ w ∷ []) → level < w.level → IsSilent flags level c
      → resumed i flags 2 (fs ++ w ∷ []) (standing i flags (top 2 (fs ++ w ∷ [])) level at x c) ≡ resumed i flags 2 fs (standing i flags (top 2 fs) level w.begin (closed w x c.last) c)
  unfolding climb
  close_one level f fs w at x c fuel rising below silent =
      let h = rising_front 2 fs w rising in
      let a : level - w.level ≡ 0 = omega arith in
      let t : w.turns ≡ suc (w.turns - 1) = omega (arith, h.left) in
      rw (top_last 2 fs w, a)
      (resumed_last i flags 2 fs w (Took x c)
      ∙ ap (resumed i flags 2 fs) (closes i flags (top 2 fs) level f (w.turns - 1) w x c h.low h.high below t fuel silent))

  pub close_stack : (level f : ℕ) (stack fs : List Waiting) (w : Waiting) (at : ℕ) (x : Reading) (c : Input) → i.fuel ≡ suc f → stack ≡ fs ++ w ∷ [] → IsRising 2 stack → level < w.level → IsSilent flags level c
      → resumed i flags 2 stack (standing i flags (top 2 stack) level at x c) ≡ resumed i flags 2 fs (standing i flags (top 2 fs) level w.begin (closed w x c.last) c)
  close_stack level f stack fs w at x c fuel e rising below silent = rw e (close_one level f fs w at x c fuel (subst (IsRising 2) e rising) below silent)

  pub wait_first : (t : ℕ) (fs : List Waiting) (w : Waiting) (c d : Input) → i.fuel ≡ suc t → w.turns ≡ t → w.rest ≡ [] → IsRising 2 fs → top 2 fs < w.level → w.level ≤ 12 → TakesAs (binary_at flags w.level) c (Some w.operator) d
      → resumed i flags 2 fs (standing i flags (top 2 fs) w.level w.begin w.first c) ≡ resumed i flags 2 (fs ++ w ∷ []) (operand_after i flags Among (top 2 (fs ++ w ∷ [])) d)
  wait_first t fs w c d fuel left none rising low high h =
      ap (resumed i flags 2 fs) (waits i flags (top 2 fs) w.begin w.level t w.operator w.first c d low high fuel h
      ∙ ap (λ v. after (operand_after i flags Among w.level d) (completed i flags (top 2 fs) v)) (same w left none))
      ∙ sym (resumed_last i flags 2 fs w (operand_after i flags Among w.level d))
      ∙ ap (λ l. resumed i flags 2 (fs ++ w ∷ []) (operand_after i flags Among l d)) (sym (top_last 2 fs w))
    where
      same : (w : Waiting) → w.turns ≡ t → w.rest ≡ [] → record { begin = w.begin; level = w.level; first = w.first; rest = []; operator = w.operator; turns = t } ≡ w
      same w e g = rw (← e, ← g) refl

  pub wait_more : (fs : List Waiting) (w : Waiting) (t at : ℕ) (op : BinaryOperator) (x : Reading) (c d : Input) → w.turns ≡ suc t → TakesAs (binary_at flags w.level) c (Some op) d
      → resumed i flags 2 (fs ++ w ∷ []) (standing i flags (top 2 (fs ++ w ∷ [])) w.level at x c)
      ≡ resumed i flags 2 (fs ++ record w { rest = with_operand w.rest w.operator x; operator = op; turns = t } ∷ []) (operand_after i flags Among (top 2 (fs ++ record w { rest = with_operand w.rest w.operator x; operator = op; turns = t } ∷ [])) d)
  unfolding climb
  wait_more fs w t at op x c d left h =
      let v = record w { rest = with_operand w.rest w.operator x; operator = op; turns = t } in
      let a : w.level - w.level ≡ 0 = omega arith in
      rw (top_last 2 fs w, a)
      (resumed_last i flags 2 fs w (Took x c)
      ∙ ap (resumed i flags 2 fs) (goes_on i flags (top 2 fs) t w op x c d left h)
      ∙ sym (resumed_last i flags 2 fs v (operand_after i flags Among w.level d))
      ∙ ap (λ l. resumed i flags 2 (fs ++ v ∷ []) (operand_after i flags Among l d)) (sym (top_last 2 fs v)))

  -- an operator of a level of its own is taken
  pub started : (l at : ℕ) (op : BinaryOperator) (x : Reading) (c d : Input) (stack new : List Waiting) (w : Waiting) → i.fuel ≡ suc 67108864 → l ≡ binary_level op
      → w ≡ record { begin = at; level = l; first = x; rest = []; operator = op; turns = 67108864 } → new ≡ stack ++ w ∷ [] → IsRising 2 stack → top 2 stack < l → d ≡ passed true c → known_as (binary_at flags (binary_level op)) c.tokens ≡ Some op
      → resumed i flags 2 stack (standing i flags (top 2 stack) (binary_level op) at x c) ≡ resumed i flags 2 new (operand_after i flags Among (top 2 new) d)
  started l at op x c d stack new w fuel le we ne rising low de known =
      let high : l ≤ 12 = omega (arith, below_twelve op) in
      let take : TakesAs (binary_at flags l) c (Some op) d = record { known = sym (ap (λ m. known_as (binary_at flags m) c.tokens) le ∙ known); input = de } in
      rw (← le, ne, we) (wait_first 67108864 stack (record { begin = at; level = l; first = x; rest = []; operator = op; turns = 67108864 }) c d fuel refl refl rising low high take)

  -- an operator of the level of what waits is taken
  pub grown : (at : ℕ) (op : BinaryOperator) (x : Reading) (c d : Input) (stack new fs : List Waiting) (w v : Waiting) → w.level ≡ binary_level op → 1 < w.turns
      → v ≡ record w { rest = with_operand w.rest w.operator x; operator = op; turns = w.turns - 1 } → stack ≡ fs ++ w ∷ [] → new ≡ fs ++ v ∷ [] → d ≡ passed true c → known_as (binary_at flags (binary_level op)) c.tokens ≡ Some op
      → resumed i flags 2 stack (standing i flags (top 2 stack) (binary_level op) at x c) ≡ resumed i flags 2 new (operand_after i flags Among (top 2 new) d)
  grown at op x c d stack new fs w v le left ve se ne de known =
      let take : TakesAs (binary_at flags w.level) c (Some op) d = record { known = sym (ap (λ m. known_as (binary_at flags m) c.tokens) le ∙ known); input = de } in
      rw (← le, se, ne, ve) (wait_more fs w (w.turns - 1) at op x c d (omega arith) take)

pub rising_started : (stack new : List Waiting) (w : Waiting) → new ≡ stack ++ w ∷ [] → IsRising 2 stack → top 2 stack < w.level → w.level ≤ 12 → 0 < w.turns → IsRising 2 new
rising_started stack new w e rising low high left = rw e (rising_last 2 stack w rising low high left)

pub rising_grown : (stack new fs : List Waiting) (w v : Waiting) → stack ≡ fs ++ w ∷ [] → new ≡ fs ++ v ∷ [] → v.level ≡ w.level → 0 < v.turns → IsRising 2 stack → IsRising 2 new
rising_grown stack new fs w v e g le left rising =
    let split = rising_split 2 stack fs w e rising in
    let low : top 2 fs < v.level = omega (arith, split.low) in
    let high : v.level ≤ 12 = omega (arith, split.high) in
    rw g (rising_last 2 fs v split.front low high left)

-- ## The loop over operands

unless_same : (flags : Flags) (o : Option BinaryOperator) (l : ℕ) → level_of (unless_in flags o) < l → operator_of_level flags l o ≡ None
unless_same flags None l h = refl
unless_same flags (Some op) l h = at (not (flags.has_in || not (is_in op))) h
  where
    at : (b : Bool) → level_of (unless b (Some op)) < l → unless (not (binary_level op == l) || b) (Some op) ≡ None
    at true h = differs (binary_level op == l)
      where
        differs : (e : Bool) → unless (not e || true) (Some op) ≡ None
        differs true = refl
        differs false = refl
    at false h = differs (binary_level op == l) refl
      where
        differs : (e : Bool) → (binary_level op == l) ≡ e → unless (not e || false) (Some op) ≡ None
        differs true g = absurd (omega (arith, eqb-true (binary_level op) l g))
        differs false g = refl

unless_known : (flags : Flags) (o : Option BinaryOperator) (op : BinaryOperator) → unless_in flags o ≡ Some op → operator_of_level flags (binary_level op) o ≡ Some op
unless_known flags None op h = absurd (cc)
unless_known flags (Some p) op h = at (not (flags.has_in || not (is_in p))) h
  where
    at : (b : Bool) → unless b (Some p) ≡ Some op → unless (not (binary_level p == binary_level op) || b) (Some p) ≡ Some op
    at true h = absurd (cc)
    at false h =
        let e : p ≡ op = cc in
        rw (e, eq-eqb (binary_level op) (binary_level op) refl) refl

pub silent : (flags : Flags) (o : Option BinaryOperator) (level : ℕ) (c : Input) → o ≡ known_as (next_binary flags) c.tokens → level ≡ level_of o → IsSilent flags level c
silent flags o level c e g = at c.tokens (g ∙ ap level_of e)
  where
    at : (ts : List Filled) → level ≡ level_of (known_as (next_binary flags) ts) → (l : ℕ) → level < l → known_as (binary_at flags l) ts ≡ None
    at [] g l h = refl
    at (t ∷ ts) g l h = unless_same flags (look_up binary_kind binary_operators t.kind) l (omega (arith, g, h))

pub known : (flags : Flags) (o : Option BinaryOperator) (op : BinaryOperator) (c : Input) → o ≡ known_as (next_binary flags) c.tokens → o ≡ Some op → known_as (binary_at flags (binary_level op)) c.tokens ≡ Some op
known flags o op c e g = at c.tokens (sym e ∙ g)
  where
    at : (ts : List Filled) → known_as (next_binary flags) ts ≡ Some op → known_as (binary_at flags (binary_level op)) ts ≡ Some op
    at [] h = absurd (cc)
    at (t ∷ ts) h = unless_known flags (look_up binary_kind binary_operators t.kind) op h

pub none_rising : (stack : List Waiting) → stack ≡ [] → IsRising 2 stack
none_rising stack e = rw e tt

module _ (i : Inner) (flags : Flags) where
  pub begins_with : (stack : List Waiting) (c : Input) → stack ≡ [] → binary_from i flags Leading 10 3 c ≡ resumed i flags 2 stack (operand_after i flags Leading (top 2 stack) c)
  unfolding resumed
  begins_with stack c e = rw e refl

  pub operand_fault : (role : Role) (stack : List Waiting) (c : Input) (stop : Stop) (ts : List Filled) → IsRising 2 stack → power i flags role c ≡ Fault stop ts → resumed i flags 2 stack (operand_after i flags role (top 2 stack) c) ≡ Fault stop ts
  operand_fault role stack c stop ts rising read = ap (resumed i flags 2 stack) (starts_fault i flags role (top 2 stack) c stop ts (rising_top 2 stack rising (lit≤ tt)).1 read) ∙ resumed_fault i flags 2 stack stop ts

  pub operand_halts : (role : Role) (stack : List Waiting) (c : Input) (halt : Halt) (ts : List Filled) → IsRising 2 stack → Halts (power i flags role c) halt ts → Halts (resumed i flags 2 stack (operand_after i flags role (top 2 stack) c)) halt ts
  operand_halts role stack c (Stopped stop) ts rising read = operand_fault role stack c stop ts rising read
  operand_halts role stack c OutOfMemory ts rising read = tt

  pub reads_on : (role : Role) (level : ℕ) (stack : List Waiting) (x : Reading) (c d : Input) → i.fuel ≡ suc 67108864 → level ≤ 12 → IsRising 2 stack → power i flags role c ≡ Took x d → IsSilent flags level d
      → resumed i flags 2 stack (operand_after i flags role (top 2 stack) c) ≡ resumed i flags 2 stack (standing i flags (top 2 stack) level (begin_of c.tokens) x d)
  reads_on role level stack x c d fuel high rising read silent = ap (resumed i flags 2 stack) (starts i flags role (top 2 stack) level 67108864 x c d (rising_top 2 stack rising (lit≤ tt)).1 high fuel read silent)

  pub finishes : (level : ℕ) (stack : List Waiting) (at : ℕ) (x : Reading) (c : Input) → level ≡ 2 → IsRising 2 stack → top 2 stack ≤ level → resumed i flags 2 stack (standing i flags (top 2 stack) level at x c) ≡ Took x c
  unfolding resumed climb
  finishes level stack at x c two rising low =
      let none : stack ≡ [] = none_wait 2 stack rising (omega arith) in
      rw (none, two) refl
