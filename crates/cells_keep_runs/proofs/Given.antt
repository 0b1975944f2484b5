-- What a value does at the top frame.
use Rattle.std.proofs.Common.{◌≡◌, ℕ, List, [], ◌∷◌, map, None, Some, refl, sym, subst}
use Rattle.std.specs.Prelude.{Err, Ok, Result, ℤ}
use Rattle.es_value.specs.declared.arithmetic.Exit.{Exit}
use Rattle.es_value.specs.declared.value.Value.{Value}
use Rattle.es_value.specs.declared.value.Value.TheVariants as value
use Rattle.es_heap.specs.Heaps.{Heap, made, next_id}
use Rattle.es_heap.specs.declared.class.Class.TheVariants as class
use Rattle.es_heap.specs.declared.key.Key.{Key}
use Rattle.es_heap.specs.declared.key.Key.TheVariants.{Text}
use Rattle.es_operators.specs.Primitives.{truth_of}
use Rattle.es_operations.specs.Numbers as number
use Rattle.es_operations.specs.Turning.{key_operand}
use Rattle.core_ast.specs.declared.parts.Update.{Update}
use Rattle.core_ast.specs.declared.whole.Core.{Core}
use Rattle.core_meaning.specs.Calls.{constructed, making}
use Rattle.core_meaning.specs.Expressions.{step_value, stepped, with_result, with_step}
use Rattle.core_meaning.specs.Marks.{CoreNext, CoreState, CoreWork, Mark}
use Rattle.core_meaning.specs.Modules.{rows}
use Rattle.core_meaning.specs.Properties.{puts}
use Rattle.core_meaning.specs.Rows.{calls, controls, hands, with_heap}
use Rattle.core_meaning.specs.State.{Calls, CoreValue, Done, Extra, Frame, Gives, Hand, Has, Made, Making, Operation, Reference, Returns, Run, Throws, Turn, User}
use Rattle.core_meaning.specs.Statements.{choose, run_turn}
use Rattle.core_meaning.specs.Step.{given, hand, keyed, received, step}
use Rattle.pass_rules.specs.Scopes.{case_flat, stats_flat}
use Rattle.cells_keep_runs.specs.Alike.{Alike, Along, Config, IsPlain, LinkFrame, OfAfter, OfBehind, OfKeyed, OfStepAt, OfStore, link_frame}
use Rattle.cells_keep_runs.specs.Given.{LinksTakeValues, PlainFramesTakeValues, StatFrames, StatementsTakeValues, given_to, of_choice, of_return, of_test, of_throw, of_update}
use Rattle.cells_keep_runs.specs.Opened.{opened}
use Rattle.cells_keep_runs.specs.Related.{Related, Seats, at_same, cell_along, loop_flat, plain}
use Rattle.cells_keep_runs.proofs.Alike.{either_way, operated, under_at_heap, went}
use Rattle.cells_keep_runs.proofs.Carried.{B, U, carries, stand_heap, stand_pushed}
use Rattle.cells_keep_runs.proofs.Statements.{choose_alike, loop_alike, run_at}

handed_on : (core : Core) (v : CoreValue Mark) (f : Frame Mark CoreWork) (st : CoreState) → given_to core v f st ≡ given (rows core) core v st f
unfolding step hand
handed_on core v f st = refl

module _ (core core2 : Core) (owners : List ℕ) (seats : Seats) where
  abbrev R : Config → Config → Type 0
  R = Related owners seats

  abbrev A : CoreNext → CoreNext → Type 0
  A = Alike R

  by_given : (v : CoreValue Mark) (f g : Frame Mark CoreWork) (s t : CoreState) → A (given (rows core) core v s f) (given (rows core2) core2 v t g) → A (given_to core v f s) (given_to core2 v g t)
  by_given v f g s t a =
      subst (λ n. A n (given_to core2 v g t)) (sym (handed_on core v f s)) (subst (λ n. A (given (rows core) core v s f) n) (sym (handed_on core2 v g t)) a)

  -- ---- frames that wait with links

  keyed_alike : (p q : Along) (base v : Value) → B owners seats p q → A (keyed base p.links p.state v) (keyed base q.links q.state v)
  keyed_alike p q base (value.Text us) b = went R (B owners seats) (U owners seats) (carries owners seats) p q (Reference base (Text us)) b
  keyed_alike p q base v b = tt

  put_alike : (p q : Along) (given base : Value) (k : Key) (v : Value) → B owners seats p q → A (puts given base k v p.links p.state) (puts given base k v q.links q.state)
  put_alike p q given base k v b = operated R (B owners seats) (U owners seats) (carries owners seats) p q (OfBehind (User given)) number.put_number base (key_operand k ∷ v ∷ []) b

  abbrev stepped_at : Update → ℤ → Value → Key → Along → ℤ → CoreNext
  stepped_at u n base k p m = puts (step_value u n m) base k (value.Number m) p.links p.state

  result_alike : (p q : Along) (u : Update) (n : ℤ) (base : Value) (k : Key) (r : Result ℤ Exit) → B owners seats p q → A (with_result r p.state (stepped_at u n base k p)) (with_result r q.state (stepped_at u n base k q))
  result_alike p q u n base k (Ok m) b = put_alike p q (step_value u n m) base k (value.Number m) b
  result_alike p q u n base k (Err x) b = tt

  abbrev put_at : Value → Key → Along → Value → Value → CoreNext
  put_at base k p n result = puts result base k n p.links p.state

  step_alike : (p q : Along) (u : Update) (base : Value) (k : Key) (v : Value) → B owners seats p q → A (with_step u v p.state (put_at base k p)) (with_step u v q.state (put_at base k q))
  step_alike p q u base k (value.Number n) b = result_alike p q u n base k (stepped u n) b
  step_alike p q u base k v b = tt

  pub link_given : (p q : Along) (f : LinkFrame) (v : CoreValue Mark) → B owners seats p q → A (given (rows core) core v p.state (link_frame f p.links)) (given (rows core2) core2 v q.state (link_frame f q.links))
  unfolding given
  link_given p q OfAfter v b = went R (B owners seats) (U owners seats) (carries owners seats) p q (Has v) b
  link_given p q (OfBehind w) v b = went R (B owners seats) (U owners seats) (carries owners seats) p q (Has w) b
  link_given p q (OfKeyed base) (User v) b = keyed_alike p q base v b
  link_given p q (OfKeyed base) (Extra m) b = tt
  link_given p q (OfStore base k) (User v) b = put_alike p q v base k v b
  link_given p q (OfStore base k) (Extra m) b = tt
  link_given p q (OfStepAt u base k) (User v) b = step_alike p q u base k v b
  link_given p q (OfStepAt u base k) (Extra m) b = tt

  -- ---- plain frames

  making_alike : (s t : CoreState) (f : Value) (args : List Value) (target v : Value) → U owners seats s t → A (making f args target s v) (making f args target t v)
  making_alike s t f args target (value.Object proto) b =
      let o : Heap → Value = λ h. value.Object (next_id h) in
      let h2 : Heap = made s.heap (Some proto) class.Object in
      let s2 : CoreState = with_heap h2 s in
      let t2 : CoreState = with_heap h2 t in
      under_at_heap R (B owners seats) (U owners seats) (carries owners seats) s t b (making f args target s (value.Object proto))
      (λ h. calls (Made (o h)) (record { function = f; receiver = o h; args = args; target = Some target; site = None }) (with_heap (made h (Some proto) class.Object) t)) (
        _,
        refl,
        at_same (Calls (record { function = f; receiver = o s.heap; args = args; target = Some target; site = None })) tt
            (stand_pushed owners seats s2 t2 (Made (o s.heap)) (Made (o s.heap)) (stand_heap owners seats s t h2 b.0)) (plain tt b.1),
      )
  making_alike s t f args target v b = tt

  pub plain_given : (s t : CoreState) (f : Frame Mark CoreWork) (v : CoreValue Mark) → IsPlain f → U owners seats s t → A (given (rows core) core v s f) (given (rows core2) core2 v t f)
  unfolding given
  plain_given s t (Operation site c) (User v) is b = (_, refl, at_same (Turn site (received c v)) tt b.0 b.1)
  plain_given s t (Operation site c) (Extra m) is b = tt
  plain_given s t (Making f args target) (User v) is b = making_alike s t f args target v b
  plain_given s t (Making f args target) (Extra m) is b = tt
  plain_given s t (Made o) (User v) is b = (_, refl, at_same (Hand (Gives (User (constructed o v)))) tt b.0 b.1)
  plain_given s t (Made o) (Extra m) is b = tt
  plain_given s t f v is b = absurd is

  -- ---- statements

  pub stat_given : (s t : CoreState) (f g : Frame Mark CoreWork) (v : CoreValue Mark) → StatFrames owners f g → U owners seats s t → A (given (rows core) core v s f) (given (rows core2) core2 v t g)
  unfolding given
  stat_given s t f g (User v) (of_choice body cases) b =
      either_way R (B owners seats) (U owners seats) (carries owners seats) (truth_of v) (controls (Run body) s) (choose cases s) (controls (Run (stats_flat owners body)) t) (choose (map (case_flat owners) cases) t)
      (_, refl, run_at core core2 owners seats s t body b.0 b.1) (choose_alike core core2 owners seats s t cases b.0 b.1)
  stat_given s t f g (Extra m) (of_choice body cases) b = tt
  stat_given s t f g (User v) (of_test l) b =
      either_way R (B owners seats) (U owners seats) (carries owners seats) (truth_of v) (run_turn l s) (hands Done s) (run_turn (loop_flat owners l) t) (hands Done t)
      (loop_alike core core2 owners seats s t l None b.0 b.1) (_, refl, at_same (Hand Done) tt b.0 b.1)
  stat_given s t f g (Extra m) (of_test l) b = tt
  stat_given s t f g v (of_update l) b = loop_alike core core2 owners seats s t l l.test b.0 b.1
  stat_given s t f g v of_return b = (_, refl, at_same (Hand (Returns v)) tt b.0 b.1)
  stat_given s t f g (User v) of_throw b = (_, refl, at_same (Hand (Throws v)) tt b.0 b.1)
  stat_given s t f g (Extra m) of_throw b = tt

pub links_take : LinksTakeValues
links_take core core2 owners seats f v links s t stand below =
    let ls2 = (opened owners (cell_along seats s.context.environment) links).links in
    let p : Along = record { links = links; state = s } in
    let q : Along = record { links = ls2; state = t } in
    by_given core core2 owners seats v (link_frame f links) (link_frame f ls2) s t (link_given core core2 owners seats p q f v (stand, below, refl))

pub plain_take : PlainFramesTakeValues
plain_take core core2 owners seats f v s t is stand r = by_given core core2 owners seats v f f s t (plain_given core core2 owners seats s t f v is (stand, r))

pub statements_take : StatementsTakeValues
statements_take core core2 owners seats f g v s t is stand r = by_given core core2 owners seats v f g s t (stat_given core core2 owners seats s t f g v is (stand, r))
