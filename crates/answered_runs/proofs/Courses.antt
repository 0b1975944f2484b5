-- The course of a run whose hosts answer undefined.
use Rattle.std.proofs.Common.{◌≡◌, ℕ, zero, suc, ◌+◌, add-one, ◌<◌, refl, sym, ◌∙◌, ap, subst, List, [], ◌∷◌, ◌++◌, Option, Some, None, arith}
use Rattle.std.proofs.lemmas.List.{map-append}
use Rattle.runs.specs.Laws.{IsRunning}
use Rattle.runs.specs.Run.{Running, Over, Left, Goes, Asks, trace}
use Rattle.runs.specs.Standing.{AtState, moved, one_more, standing_after, seen_of}
use Rattle.runs.proofs.Machines.{lasting}
use Rattle.runs.proofs.Stands.{answers_wait, seen_where_it_stands}
use Rattle.shared_meaning.specs.Ending as end
use Rattle.shared_meaning.specs.Ending.{Finish, Exit}
use Rattle.es_outside.specs.declared.events.Ending.{Ending}
use Rattle.es_outside.specs.declared.events.Ending.TheVariants as ending
use Rattle.es_outside.specs.declared.events.Event.{Event}
use Rattle.es_outside.specs.declared.host.Reply.{Reply}
use Rattle.es_outside.specs.declared.host.Reply.TheVariants.{Give}
use Rattle.es_outside.specs.declared.primitive.Primitive.TheVariants.{Undefined}
use Rattle.program_runs.specs.Outcomes.{ProgramView, behaviour, ending_of}
use Rattle.program_runs.specs.Positions.{At, Next, Position, next_of_ending}
use Rattle.answered_runs.specs.Answers.{IsAnswered, Turns, went, asked, over, answers_to}

-- Where the loop has come to: the run stands at a state, and all its events are answered.
pub record Course {S : Type 0} (machine : S → Next S) (start : S) (done : ℕ) (events : List Event) (position : Position S) : Type 0 where
  pub state : S
  pub stands : standing_after machine done start (answers_to events) ≡ AtState events state []
  pub at : position ≡ At state

-- before the first step
pub begun : {S : Type 0} (machine : S → Next S) (start : S) (events : List Event) (position : Position S) → events ≡ [] → position ≡ At start → Course machine start zero events position
begun machine start events position none at = subst (λ (es : List Event). Course machine start zero es position) (sym none) (record { state = start; stands = refl; at = at })

answers_more : (events : List Event) (event : Event) → answers_to (events ++ event ∷ []) ≡ answers_to events ++ Give Undefined ∷ []
answers_more events event = map-append (λ e. Give Undefined) events (event ∷ [])

module _ {S : Type 0} (machine : S → Next S) (start : S) (done : ℕ) (events : List Event) (state : S)
    (stands : standing_after machine done start (answers_to events) ≡ AtState events state []) where
  next_at : (next : Next S) → machine state ≡ next → standing_after machine (suc done) start (answers_to events) ≡ moved next events []
  next_at next is = ap (λ y. one_more machine y) stands ∙ ap (λ x. moved x events []) is

  answered_at : (event : Event) (follow : Reply → S) → machine state ≡ Asks event follow
      → standing_after machine (suc done) start (answers_to (events ++ event ∷ [])) ≡ AtState (events ++ event ∷ []) (follow (Give Undefined)) []
  answered_at event follow is =
      ap (λ (rs : List Reply). standing_after machine (suc done) start rs) (answers_more events event)
      ∙ ap (λ y. one_more machine y) (answers_wait machine (Give Undefined ∷ []) done start state (answers_to events) [] events stands)
      ∙ ap (λ x. moved x events (Give Undefined ∷ [])) is

  view_after : (next : Next S) → machine state ≡ next → behaviour machine start (answers_to events) (suc done) ≡ seen_of (moved next events [])
  view_after next is = seen_where_it_stands machine (suc done) start (answers_to events) ∙ ap (λ y. seen_of y) (next_at next is)

  -- the end of the run, within the steps
  at_end : (steps : ℕ) → done < steps → (ending : Ending) (view : ProgramView) → (IsRunning view → ⊥) → trace view ≡ events → ending_of view ≡ Some ending
      → behaviour machine start (answers_to events) (suc done) ≡ view → IsAnswered (behaviour machine start) steps events (Some ending)
  at_end steps within ending view stops events_are ends is = record {
    view = view;
    seen = lasting machine (suc done) steps start (answers_to events) (omega (arith, within)) (λ runs. stops (subst (λ v. IsRunning v) is runs)) ∙ is;
    events_are = events_are;
    over_is = ends;
  }

  ended_at : (steps : ℕ) → done < steps → (ending : Ending) → machine state ≡ next_of_ending ending → IsAnswered (behaviour machine start) steps events (Some ending)
  ended_at steps within ending.Ended is =
      at_end steps within ending.Ended (Over events end.Ended) (λ r. r) refl refl (view_after (next_of_ending ending.Ended) is)
  ended_at steps within (ending.Threw seen) is =
      at_end steps within (ending.Threw seen) (Over events (end.Threw seen)) (λ r. r) refl refl (view_after (next_of_ending (ending.Threw seen)) is)
  ended_at steps within (ending.Left exit site) is =
      at_end steps within (ending.Left exit site) (Left events (record { number = exit; site = site })) (λ r. r) refl refl (view_after (next_of_ending (ending.Left exit site)) is)

  further_at : (new : List Event) (after : Position S) (o : Option Ending) → o ≡ None → Turns (machine state) events new after o → Course machine start (suc done) new after
  further_at new after _ none (went t is at same) =
      subst (λ (es : List Event). Course machine start (suc done) es after) (sym same) (record { state = t; stands = next_at (Goes t) is; at = at })
  further_at new after _ none (asked event follow is at grown) =
      subst (λ (es : List Event). Course machine start (suc done) es after) (sym grown) (record { state = follow (Give Undefined); stands = answered_at event follow is; at = at })
  further_at new after _ none (over ending is same) = absurd (cc)

  over_at : (steps : ℕ) → done < steps → (new : List Event) (after : Position S) (o : Option Ending) (ending : Ending) → o ≡ Some ending → Turns (machine state) events new after o
      → IsAnswered (behaviour machine start) steps new (Some ending)
  over_at steps within new after _ ending some (went t is at same) = absurd (cc)
  over_at steps within new after _ ending some (asked event follow is at grown) = absurd (cc)
  over_at steps within new after _ ending some (over e is same) =
      subst (λ (es : List Event). IsAnswered (behaviour machine start) steps es (Some ending)) (sym same)
      (subst (λ (o : Option Ending). IsAnswered (behaviour machine start) steps events o) some (ended_at steps within e is))

module _ {S : Type 0} (machine here : S → Next S) (start : S) (done : ℕ) (events new : List Event) (position after : Position S)
    (same : here ≡ machine) (course : Course machine start done events position) (o : Option Ending)
    (turns : (state : S) → position ≡ At state → Turns (here state) events new after o) where
  turned : Turns (machine course.state) events new after o
  turned = subst (λ (m : S → Next S). Turns (m course.state) events new after o) same (turns course.state course.at)

  pub further : o ≡ None → Course machine start (done + 1) new after
  further none = subst (λ (n : ℕ). Course machine start n new after) (sym (add-one done)) (further_at machine start done events course.state course.stands new after o none turned)

  pub over_then : (steps : ℕ) → done < steps → (ending : Ending) → o ≡ Some ending → IsAnswered (behaviour machine start) steps new (Some ending)
  over_then steps within ending some = over_at machine start done events course.state course.stands steps within new after o ending some turned

-- after the last step
pub spent : {S : Type 0} (machine : S → Next S) (start : S) (steps done : ℕ) (events : List Event) (position : Position S)
    → done ≡ steps → Course machine start done events position → IsAnswered (behaviour machine start) steps events None
spent machine start steps done events position all course =
    subst (λ (n : ℕ). IsAnswered (behaviour machine start) n events None) all
    (record {
      view = Running events;
      seen = seen_where_it_stands machine done start (answers_to events) ∙ ap (λ y. seen_of y) course.stands;
      events_are = refl;
      over_is = refl;
    })
