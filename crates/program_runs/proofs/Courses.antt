-- The course of a run: what each step with its talk adds to what was said before.
use Rattle.std.proofs.Common.{◌≡◌, ℕ, zero, suc, ◌+◌, nat_lt, add-one, ◌<◌, ◌≤◌, refl, sym, ◌∙◌, ap, subst, Bool, true, false, List, [], ◌∷◌, ◌++◌, append-nil, Option, Some, None, Result, Ok, Err, length, take, map, arith}
use Rattle.std.proofs.lemmas.Bool.{ltb-true, ltb-false}
use Rattle.std.proofs.lemmas.Grind.{flat_map-append}
use Rattle.std.proofs.lemmas.List.{map-append}
use Rattle.runs.specs.Run.{View, Running, Waits, Over, Left, Goes, Asks, trace}
use Rattle.runs.specs.Laws.{IsRunning}
use Rattle.runs.specs.Standing.{Standing, AtState, AtWait, AtEnding, AtExit, moved, one_more, standing_after, seen_of}
use Rattle.runs.proofs.Machines.{lasting}
use Rattle.runs.proofs.Stands.{answers_wait, seen_where_it_stands}
use Rattle.shared_meaning.specs.Ending as end
use Rattle.shared_meaning.specs.Ending.{Finish, Exit}
use Rattle.es_outside.proofs.SinkLemmas.{Adds-then}
use Rattle.es_outside.specs.Counts.{CountRose}
use Rattle.es_outside.specs.Sinks.{Adds}
use Rattle.es_outside.specs.declared.events.Event.{Event}
use Rattle.es_outside.specs.declared.events.Ending.{Ending}
use Rattle.es_outside.specs.declared.events.Ending.TheVariants as ending
use Rattle.es_outside.specs.declared.host.HostAnswer.{HostAnswer}
use Rattle.es_outside.specs.declared.host.HostAnswer.TheVariants as answer
use Rattle.es_outside.specs.declared.host.Reply.{Reply}
use Rattle.program_runs.specs.declared.end.Halt.{Halt}
use Rattle.program_runs.specs.declared.end.Halt.TheVariants as halt
use Rattle.program_runs.specs.Around.{Around, Hosted, Output, Keeps, KeepsHosts, faults_at}
use Rattle.program_runs.specs.Positions.{Next, Position, At, next_of_ending}
use Rattle.program_runs.specs.Talks.{Talks, Turn, answer_of, asked, events_of, replies_of, talked}
use Rattle.program_runs.specs.Turns.{HasAdded, HasFailed, line_of, Replies, replied, failed, unheard, unhanded, Tells, told_and_asked, told_only, untold, cut_off, Turns, went, told, over, unstepped}
use Rattle.program_runs.specs.Outcomes.{ProgramView, behaviour, lines_of, ending_of, IsSeen, answered, waits, IsTold, HasCut, IsHalted, host_failed, event_cut, no_memory, Runs, stopped, stopped_before}
use Rattle.program_runs.proofs.Talking.{adds_nothing}

-- ---- what is kept

pub keeps_refl : (a : Around) → Keeps a a
keeps_refl a = record { hosts = record { names = refl; faults = λ n. omega arith }; output = omega arith }

pub keeps_trans : (a b c : Around) → Keeps a b → Keeps b c → Keeps a c
keeps_trans a b c first second = record {
  hosts = record {
    names = second.hosts.names ∙ first.hosts.names;
    faults = λ n. omega (arith, first.hosts.faults n, second.hosts.faults n);
  };
  output = omega (arith, first.output, second.output);
}

-- a count that rose from a later value rose
pub rose_from : (a b c : ℕ) → a ≤ b → CountRose b c → CountRose a c
rose_from a b c up rose = λ short. omega (arith, up, rose short)

-- ---- the last of several turns

events_more : (turns : List Turn) (turn : Turn) → events_of (turns ++ turn ∷ []) ≡ events_of turns ++ turn.event ∷ []
events_more turns turn = map-append (λ t. t.event) turns (turn ∷ [])

replies_more : (turns : List Turn) (turn : Turn) → replies_of (turns ++ turn ∷ []) ≡ replies_of turns ++ turn.reply ∷ []
replies_more turns turn = map-append (λ t. t.reply) turns (turn ∷ [])

talked_more : (turns : List Turn) (turn : Turn) (talks : Talks)
    → talked (turns ++ turn ∷ []) talks ≡ asked turn.event (answer_of turn.reply) (talked turns talks)
talked_more [] turn talks = refl
talked_more (t ∷ turns) turn talks = talked_more turns turn (asked t.event (answer_of t.reply) talks)

lines_more : (names : List (List ℕ)) (events : List Event) (event : Event)
    → lines_of names (events ++ event ∷ []) ≡ lines_of names events ++ line_of names event
lines_more names events event =
    flat_map-append (line_of names) events (event ∷ []) ∙ ap (λ (line : List ℕ). lines_of names events ++ line) (append-nil (line_of names event))

-- ---- one step

module _ {S : Type 0} (machine : S → Next S) (start : S) where
  -- what is seen where the run stands
  view_at : (n : ℕ) (turns : List Turn) (x : Standing S Event Reply Finish Exit)
      → standing_after machine n start (replies_of turns) ≡ x → behaviour machine start (replies_of turns) n ≡ seen_of x
  view_at n turns x stands = seen_where_it_stands machine n start (replies_of turns) ∙ ap (λ y. seen_of y) stands

  -- the state after the next step
  next_at : (n : ℕ) (turns : List Turn) (state : S) (next : Next S)
      → standing_after machine n start (replies_of turns) ≡ AtState (events_of turns) state [] → machine state ≡ next
      → standing_after machine (suc n) start (replies_of turns) ≡ moved next (events_of turns) []
  next_at n turns state next stands is =
      ap (λ y. one_more machine y) stands ∙ ap (λ x. moved x (events_of turns) []) is

  -- the state after the next step, whose event has a reply
  replied_at : (n : ℕ) (turns : List Turn) (state : S) (turn : Turn) (follow : Reply → S)
      → standing_after machine n start (replies_of turns) ≡ AtState (events_of turns) state [] → machine state ≡ Asks turn.event follow
      → standing_after machine (suc n) start (replies_of (turns ++ turn ∷ [])) ≡ AtState (events_of (turns ++ turn ∷ [])) (follow turn.reply) []
  replied_at n turns state turn follow stands is =
      ap (λ (rs : List Reply). standing_after machine (suc n) start rs) (replies_more turns turn)
      ∙ ap (λ y. one_more machine y) (answers_wait machine (turn.reply ∷ []) n start state (replies_of turns) [] (events_of turns) stands)
      ∙ ap (λ x. moved x (events_of turns) (turn.reply ∷ [])) is
      ∙ ap (λ (es : List Event). AtState es (follow turn.reply) []) (sym (events_more turns turn))

-- Where the loop has come to: the run stands at a state; or, after the last step, an event waits whose host isn't asked.
pub data Course {S : Type 0} (machine : S → Next S) (start : S) (steps done : ℕ) (old new : Around) (position : Position S) : Type 0 where
  going : (turns : List Turn) (state : S) → standing_after machine done start (replies_of turns) ≡ AtState (events_of turns) state [] → position ≡ At state → new.hosts.talks ≡ talked turns old.hosts.talks → HasAdded (lines_of old.hosts.names (events_of turns)) old.output new.output → Course machine start steps done old new position
  waiting : (view : ProgramView) → done ≡ steps → IsTold (behaviour machine start) steps old.hosts new.hosts view → HasAdded (lines_of old.hosts.names (trace view)) old.output new.output → ending_of view ≡ None → Course machine start steps done old new position

-- where the loop is after a step with this result
abbrev pub AfterTurn : {S : Type 0} → (S → Next S) → S → ℕ → ℕ → Around → Around → Position S → Result (Option Ending) Halt → Type 0
AfterTurn machine start steps done old new after (Ok None) = Course machine start steps (suc done) old new after
AfterTurn machine start steps done old new after (Ok (Some ending)) = Runs (behaviour machine start) steps old new (Ok (Some ending))
AfterTurn machine start steps done old new after (Err halt) = Runs (behaviour machine start) steps old new (Err halt)

-- before the first step
pub begun : {S : Type 0} (machine : S → Next S) (start : S) (steps : ℕ) (a : Around) (position : Position S) → position ≡ At start → Course machine start steps zero a a position
begun machine start steps a position at = going [] start refl at refl (adds_nothing a.output.bytes)

module _ {S : Type 0} (machine : S → Next S) (start : S) (steps done : ℕ) (within : done < steps) (asks : Bool)
    (more : asks ≡ true → suc done < steps) (last : asks ≡ false → suc done ≡ steps) (old mid new : Around) (kept : Keeps old mid) (keeps : Keeps mid new)
    (turns : List Turn) (state : S) (stands : standing_after machine done start (replies_of turns) ≡ AtState (events_of turns) state [])
    (talks : mid.hosts.talks ≡ talked turns old.hosts.talks) (lines : HasAdded (lines_of old.hosts.names (events_of turns)) old.output mid.output)
    (after : Position S) where
  -- the run goes on without an event
  same_lines : HasAdded [] mid.output new.output → HasAdded (lines_of old.hosts.names (events_of turns)) old.output new.output
  same_lines added = subst (λ (bytes : List ℕ). HasAdded bytes old.output new.output) (append-nil (lines_of old.hosts.names (events_of turns)))
      (Adds-then (lines_of old.hosts.names (events_of turns)) [] old.output.bytes mid.output.bytes new.output.bytes lines added)

  running_here : IsSeen (behaviour machine start) done turns (Running (events_of turns))
  running_here = answered (view_at machine start done turns (AtState (events_of turns) state []) stands) refl

  told_here : new.hosts.talks ≡ mid.hosts.talks → IsTold (behaviour machine start) done old.hosts new.hosts (Running (events_of turns))
  told_here same = record { turns = turns; seen = running_here; talks = same ∙ talks }

  module _ (event : Event) (follow : Reply → S) (is : machine state ≡ Asks event follow) where
    more_lines : HasAdded (line_of mid.hosts.names event) mid.output new.output
        → HasAdded (lines_of old.hosts.names (events_of turns ++ event ∷ [])) old.output new.output
    more_lines added = subst (λ (bytes : List ℕ). HasAdded bytes old.output new.output) (sym (lines_more old.hosts.names (events_of turns) event))
        (Adds-then (lines_of old.hosts.names (events_of turns)) (line_of old.hosts.names event) old.output.bytes mid.output.bytes new.output.bytes lines
        (subst (λ (names : List (List ℕ)). HasAdded (line_of names event) mid.output new.output) kept.hosts.names added))

    suc_same : (n : ℕ) → suc n ≡ suc done → n ≡ done
    suc_same n same = omega (arith, same)

    waiting_here : IsSeen (behaviour machine start) (suc done) turns (Waits (events_of turns ++ event ∷ []))
    waiting_here = waits event
        (view_at machine start (suc done) turns (AtWait (events_of turns ++ event ∷ []) follow) (next_at machine start done turns state (Asks event follow) stands is))
        (λ n same. ap (λ (k : ℕ). behaviour machine start (replies_of turns) k) (suc_same n same)
        ∙ view_at machine start done turns (AtState (events_of turns) state []) stands)

    cut_behind : HasFailed (line_of old.hosts.names event) mid.output new.output
        → HasCut (lines_of old.hosts.names (events_of turns)) (line_of old.hosts.names event) old.output new.output
    cut_behind cut = (
      cut.0.0,
      cut.0.1,
      Adds-then (lines_of old.hosts.names (events_of turns)) (take cut.0.0 (line_of old.hosts.names event)) old.output.bytes mid.output.bytes new.output.bytes lines cut.0.2,
      rose_from old.output.faults mid.output.faults new.output.faults kept.output cut.1,
    )

    talks_more : (reply : Reply) → new.hosts.talks ≡ asked event (answer_of reply) mid.hosts.talks
        → new.hosts.talks ≡ talked (turns ++ record { event = event; reply = reply } ∷ []) old.hosts.talks
    talks_more reply heard =
        heard ∙ ap (λ t. asked event (answer_of reply) t) talks ∙ sym (talked_more turns (record { event = event; reply = reply }) old.hosts.talks)

    lines_told : (reply : Reply) → HasAdded (lines_of old.hosts.names (events_of turns ++ event ∷ [])) old.output new.output
        → HasAdded (lines_of old.hosts.names (events_of (turns ++ record { event = event; reply = reply } ∷ []))) old.output new.output
    lines_told reply added =
        subst (λ (es : List Event). HasAdded (lines_of old.hosts.names es) old.output new.output) (sym (events_more turns (record { event = event; reply = reply }))) added

    after_replies : (r : Result (Option Ending) Halt) → suc done < steps → event.host < length mid.hosts.names
        → HasAdded (lines_of old.hosts.names (events_of turns ++ event ∷ [])) old.output new.output
        → Replies event follow mid.hosts new.hosts after r → AfterTurn machine start steps done old new after r
    after_replies _ early inside added (replied reply heard at) =
        going (turns ++ record { event = event; reply = reply } ∷ []) (follow reply)
        (replied_at machine start done turns state (record { event = event; reply = reply }) follow stands is) at (talks_more reply heard) (lines_told reply added)
    after_replies _ early inside added (failed heard rose) =
        stopped_before (host_failed turns event (suc done) early waiting_here (heard ∙ ap (λ t. asked event answer.Failed t) talks) added
        (subst (λ (names : List (List ℕ)). event.host < length names) kept.hosts.names inside)
        (rose_from (faults_at old.hosts event.host) (faults_at mid.hosts event.host) (faults_at new.hosts event.host) (kept.hosts.faults event.host) rose))
    after_replies _ early inside added (unheard same) =
        stopped_before (no_memory (Waits (events_of turns ++ event ∷ [])) (suc done) (omega (arith, within))
        (record { turns = turns; seen = waiting_here; talks = same ∙ talks }) added)
    after_replies _ early inside added (unhanded reply heard) =
        stopped_before (no_memory (Running (events_of (turns ++ record { event = event; reply = reply } ∷ []))) (suc done) (omega (arith, within))
        (record {
          turns = turns ++ record { event = event; reply = reply } ∷ [];
          seen = answered (view_at machine start (suc done) (turns ++ record { event = event; reply = reply } ∷ [])
              (AtState (events_of (turns ++ record { event = event; reply = reply } ∷ [])) (follow reply) [])
              (replied_at machine start done turns state (record { event = event; reply = reply }) follow stands is)) refl;
          talks = talks_more reply heard;
        }) (lines_told reply added))

    after_tells : (r : Result (Option Ending) Halt) → Tells asks event follow mid new after r → AfterTurn machine start steps done old new after r
    after_tells r (told_and_asked asked inside added replies) = after_replies r (more asked) inside (more_lines added) replies
    after_tells _ (told_only unasked added same) =
        waiting (Waits (events_of turns ++ event ∷ [])) (last unasked)
        (record {
          turns = turns;
          seen = subst (λ (n : ℕ). IsSeen (behaviour machine start) n turns (Waits (events_of turns ++ event ∷ []))) (last unasked) waiting_here;
          talks = same ∙ talks;
        }) (more_lines added) refl
    after_tells _ (untold added same) =
        stopped_before (no_memory (Running (events_of turns)) done (omega (arith, within)) (told_here same) (same_lines added))
    after_tells _ (cut_off cut same) =
        stopped_before (event_cut turns event (suc done) (omega (arith, within)) waiting_here (same ∙ talks)
        (cut_behind (subst (λ (names : List (List ℕ)). HasFailed (line_of names event) mid.output new.output) kept.hosts.names cut)))

  -- the end of the run, within the steps
  over_view : (view : ProgramView) → (IsRunning view → ⊥) → behaviour machine start (replies_of turns) (suc done) ≡ view
      → behaviour machine start (replies_of turns) steps ≡ view
  over_view view stops is =
      lasting machine (suc done) steps start (replies_of turns) (omega (arith, within)) (λ runs. stops (subst (λ v. IsRunning v) is runs)) ∙ is

  after_end : (ending : Ending) (view : ProgramView) → (IsRunning view → ⊥) → trace view ≡ events_of turns → ending_of view ≡ Some ending
      → behaviour machine start (replies_of turns) (suc done) ≡ view → new.hosts.talks ≡ mid.hosts.talks → HasAdded [] mid.output new.output
      → Runs (behaviour machine start) steps old new (Ok (Some ending))
  after_end ending view stops events ends is same added =
      stopped view (record { turns = turns; seen = answered (over_view view stops is) events; talks = same ∙ talks })
      (subst (λ (es : List Event). HasAdded (lines_of old.hosts.names es) old.output new.output) (sym events) (same_lines added)) ends

  after_over : (ending : Ending) → machine state ≡ next_of_ending ending → new.hosts.talks ≡ mid.hosts.talks → HasAdded [] mid.output new.output
      → Runs (behaviour machine start) steps old new (Ok (Some ending))
  after_over ending.Ended is same added =
      after_end ending.Ended (Over (events_of turns) end.Ended) (λ r. r) refl refl
      (view_at machine start (suc done) turns _ (next_at machine start done turns state _ stands is)) same added
  after_over (ending.Threw seen) is same added =
      after_end (ending.Threw seen) (Over (events_of turns) (end.Threw seen)) (λ r. r) refl refl
      (view_at machine start (suc done) turns _ (next_at machine start done turns state _ stands is)) same added
  after_over (ending.Left exit site) is same added =
      after_end (ending.Left exit site) (Left (events_of turns) (record { number = exit; site = site })) (λ r. r) refl refl
      (view_at machine start (suc done) turns _ (next_at machine start done turns state _ stands is)) same added

  pub after_turns : (r : Result (Option Ending) Halt) → Turns asks (machine state) mid new after r → AfterTurn machine start steps done old new after r
  after_turns _ (went t is at added same) =
      going turns t (next_at machine start done turns state (Goes t) stands is) at (same ∙ talks) (same_lines added)
  after_turns r (told event follow is tells) = after_tells event follow is r tells
  after_turns _ (over ending is added same) = after_over ending is same added
  after_turns _ (unstepped added same) =
      stopped_before (no_memory (Running (events_of turns)) done (omega (arith, within)) (told_here same) (same_lines added))

-- a step with its talk, from where the loop has come to
pub after_turn : {S : Type 0} (machine : S → Next S) (start : S) (steps done : ℕ) (asks : Bool) (old mid new : Around) (position after : Position S)
    (r : Result (Option Ending) Halt) → done < steps → (asks ≡ true → suc done < steps) → (asks ≡ false → suc done ≡ steps)
    → Keeps old mid → Keeps mid new → ((state : S) → position ≡ At state → Turns asks (machine state) mid new after r)
    → Course machine start steps done old mid position → AfterTurn machine start steps done old new after r
after_turn machine start steps done asks old mid new position after r within more last kept keeps turns (going ts state stands at talks lines) =
    after_turns machine start steps done within asks more last old mid new kept keeps ts state stands talks lines after r (turns state at)
after_turn machine start steps done asks old mid new position after r within more last kept keeps turns (waiting view is heard lines ends) =
    absurd (omega (arith, within, is))

module _ {S : Type 0} (machine here : S → Next S) (start : S) (steps done : ℕ) (old mid new : Around) (position after : Position S)
    (same : here ≡ machine) (within : done < steps) (kept : Keeps old mid) (keeps : Keeps mid new) (course : Course machine start steps done old mid position) where
  turned : (r : Result (Option Ending) Halt) → ((state : S) → position ≡ At state → Turns (nat_lt (done + 1) steps) (here state) mid new after r)
      → AfterTurn machine start steps done old new after r
  turned r turns = after_turn machine start steps done (nat_lt (done + 1) steps) old mid new position after r within
      (λ early. omega (arith, ltb-true (done + 1) steps early)) (λ late. omega (arith, within, ltb-false (done + 1) steps late)) kept keeps
      (λ state at. subst (λ (m : S → Next S). Turns (nat_lt (done + 1) steps) (m state) mid new after r) same (turns state at)) course

  pub further : (found : Option Ending) → found ≡ None → ((state : S) → position ≡ At state → Turns (nat_lt (done + 1) steps) (here state) mid new after (Ok found))
      → Course machine start steps (done + 1) old new after
  further found none turns = subst (λ (n : ℕ). Course machine start steps n old new after) (sym (add-one done))
      (turned (Ok None) (λ state at. subst (λ (o : Option Ending). Turns (nat_lt (done + 1) steps) (here state) mid new after (Ok o)) none (turns state at)))

  pub over_then : (ending : Ending) (found : Option Ending) → found ≡ Some ending
      → ((state : S) → position ≡ At state → Turns (nat_lt (done + 1) steps) (here state) mid new after (Ok found))
      → Runs (behaviour machine start) steps old new (Ok (Some ending))
  over_then ending found some turns =
      turned (Ok (Some ending)) (λ state at. subst (λ (o : Option Ending). Turns (nat_lt (done + 1) steps) (here state) mid new after (Ok o)) some (turns state at))

  pub halted_then : (halt : Halt) → ((state : S) → position ≡ At state → Turns (nat_lt (done + 1) steps) (here state) mid new after (Err halt))
      → Runs (behaviour machine start) steps old new (Err halt)
  halted_then halt turns = turned (Err halt) turns

-- the loop stands at a state before each step
pub is_going : {S : Type 0} (machine : S → Next S) (start : S) (steps done : ℕ) (old new : Around) (position : Position S) → done < steps
    → Course machine start steps done old new position → (state : S) × (position ≡ At state)
is_going machine start steps done old new position within (going turns state stands at talks lines) = (state, at)
is_going machine start steps done old new position within (waiting view is heard lines ends) = absurd (omega (arith, within, is))

-- after the last step
spent_all : {S : Type 0} (machine : S → Next S) (start : S) (steps : ℕ) (old new : Around) (position : Position S)
    → Course machine start steps steps old new position → Runs (behaviour machine start) steps old new (Ok None)
spent_all machine start steps old new position (going turns state stands at talks lines) =
    stopped (Running (events_of turns))
    (record { turns = turns; seen = answered (view_at machine start steps turns (AtState (events_of turns) state []) stands) refl; talks = talks }) lines refl
spent_all machine start steps old new position (waiting view is heard lines ends) = stopped view heard lines ends

pub spent : {S : Type 0} (machine : S → Next S) (start : S) (steps done : ℕ) (old new : Around) (position : Position S)
    → done ≡ steps → Course machine start steps done old new position → Runs (behaviour machine start) steps old new (Ok None)
spent machine start steps done old new position all course =
    spent_all machine start steps old new position (subst (λ (n : ℕ). Course machine start steps n old new position) all course)
