-- The environments of a state whose code stands with what is round it: those that contexts end with are of the same activation, and all but the present
-- one are of other activations than a new record's.
use Rattle.std.proofs.Common.{◌≡◌, ◌⊎◌, inl, inr, ℕ, List, [], ◌∷◌, length, Some, refl, sym, subst, ◌∙◌}
use Rattle.core_ast.specs.declared.parts.Var.{Var}
use Rattle.core_ast.specs.declared.whole.Core.{Core}
use Rattle.core_meaning.specs.Marks.{AtStart, AtYield, Completed, CoreState, CoreWork, Executing, Generator, Mark, Own}
use Rattle.core_meaning.specs.State.{Closure, Context, Environment, Frame, Restore}
use Rattle.cells_keep_runs.specs.Alike.{Config}
use Rattle.cells_keep_runs.specs.Counted.{Contexts1, bottom}
use Rattle.cells_keep_runs.specs.Entering.{AllElsewhere, AllEndBelow, AllGeneratorsElsewhere, AllGeneratorsEndBelow, StateEndsBelow}
use Rattle.cells_keep_runs.specs.Fitting.{Naming, any_shapes, fit_standing}
use Rattle.cells_keep_runs.specs.Floors.{AllContexts, AllOf, Floor, FrameAt, FramesAt, GeneratorAt, Standing, StateAt, anywhere, Bottom, floor_of}
use Rattle.cells_keep_runs.specs.Found.{Bound}
use Rattle.cells_keep_runs.specs.Memory.{Seat, Seats}
use Rattle.cells_keep_runs.specs.Places.{Below}
use Rattle.cells_keep_runs.specs.Placing.{below_frame}
use Rattle.cells_keep_runs.specs.Related.{All, Closures, Related, States, at_copy, at_exit, at_expression, at_links, at_same, at_statements, past_cells}
use Rattle.cells_keep_runs.specs.Rounds.{IsTail, activation_at, grouped}
use Rattle.cells_keep_runs.specs.Standings.{Known, StaysAt}
use Rattle.cells_keep_runs.proofs.Both.{both}
use Rattle.cells_keep_runs.proofs.GoingOn.{with_shapes}
use Rattle.cells_keep_runs.proofs.Grown.{below_rest}
use Rattle.cells_keep_runs.proofs.StateMoved.{AllOk, SavedAs}
use Rattle.scopes_keep_runs.proofs.Instance.{names_on}
use Rattle.scopes_keep_runs.proofs.Limits.{Elsewhere}
use Rattle.scopes_keep_runs.proofs.Small.{tail_self}

-- the standing of names beside that of code that fits
abbrev pub standing_at : Core → Known → Environment → Naming → Seats → Bound → (List (List Var) → Type 0) → Standing
standing_at core k ends nm seats bound shapes = with_shapes (both (names_on k ends seats bound any_shapes nm.fixed) (fit_standing core nm)) shapes

-- what related configurations have, but for frames
pub states_of : (owners : List ℕ) (seats : Seats) (s t : Config) → Related owners seats s t → States owners seats s.state t.state
states_of owners seats s t (at_same c bare stand frames) = stand.states
states_of owners seats s t (at_copy n drops stand frames) = stand.states
states_of owners seats s t (at_expression x stand frames) = stand.states
states_of owners seats s t (at_links ls currents stand below) = stand.states
states_of owners seats s t (at_statements xs stand below) = stand.states
states_of owners seats s t (at_exit c early stand below) = stand.states
states_of owners seats s t (past_cells c ls early stand below) = stand.states

pub closures_below : (owners : List ℕ) (seats : Seats) (cs ds : List (Closure Own)) → All (Closures owners seats) cs ds → AllOf (λ (c : Closure Own). Below (length seats) c.environment) cs
closures_below owners seats [] [] all = tt
closures_below owners seats (c ∷ cs) (d ∷ ds) (at, all) = (at.below, closures_below owners seats cs ds all)
closures_below owners seats [] (d ∷ ds) all = absurd all
closures_below owners seats (c ∷ cs) [] all = absurd all

module _ (core : Core) (k : Known) (ends : Environment) (nm : Naming) (seats : Seats) (bound : Bound) (shapes : List (List Var) → Type 0) where
  abbrev K : Standing
  K = standing_at core k ends nm seats bound shapes

  -- ---- the environment that a context ends with

  same_frame : (e : Environment) (b : Floor) (f : Frame Mark CoreWork) → FrameAt K e b f → activation_at k.whole seats (below_frame e f) ≡ activation_at k.whole seats e
  same_frame e b (Restore o) (free, (((n, is, same), unbound), fit)) = sym same
  same_frame e b f at = refl

  pub same_activation : (below : Environment → Type 0) (e : Environment) (fs : List (Frame Mark CoreWork)) → FramesAt K below e fs → activation_at k.whole seats (bottom e fs) ≡ activation_at k.whole seats e
  same_activation below e [] at = refl
  same_activation below e (f ∷ fs) (at, all) = same_activation below (below_frame e f) fs all ∙ same_frame e (floor_of fs) f at

  frame_below : (n : ℕ) (e : Environment) (b : Floor) (f : Frame Mark CoreWork) → Below n e → FrameAt K e b f → Below n (below_frame e f)
  frame_below n e b (Restore o) h (free, (((i, is, same), unbound), fit)) = below_rest n i o (subst (λ a. Below n a) is h)
  frame_below n e b f h at = h

  pub bottom_below : (n : ℕ) (below : Environment → Type 0) (e : Environment) (fs : List (Frame Mark CoreWork)) → Below n e → FramesAt K below e fs → Below n (bottom e fs)
  bottom_below n below e [] h at = h
  bottom_below n below e (f ∷ fs) h (at, all) = bottom_below n below (below_frame e f) fs (frame_below n e (floor_of fs) f h at) all

  contexts_below : (ks : Contexts1) → AllContexts K ks → AllEndBelow (length seats) ks
  contexts_below [] all = tt
  contexts_below (c ∷ ks) ((frames, inside), all) = (bottom_below (length seats) (Bottom K ks) c.environment c.frames inside.0 frames, contexts_below ks all)

  generators_below : (gs : List Generator) → AllOf (GeneratorAt K) gs → AllGeneratorsEndBelow (length seats) gs
  generators_below [] all = tt
  generators_below (AtStart c ∷ gs) ((frames, free, inside), all) = (bottom_below (length seats) anywhere c.environment c.frames inside.0 frames, generators_below gs all)
  generators_below (AtYield c ∷ gs) ((frames, free, inside), all) = (bottom_below (length seats) anywhere c.environment c.frames inside.0 frames, generators_below gs all)
  generators_below (Executing ∷ gs) (at, all) = (tt, generators_below gs all)
  generators_below (Completed ∷ gs) (at, all) = (tt, generators_below gs all)

  pub ends_below : (st : CoreState) → StateAt K st → StateEndsBelow (length seats) st
  ends_below st b = (
    bottom_below (length seats) (Bottom K st.callers) st.context.environment st.context.frames b.2.inside.0 b.0,
    contexts_below st.callers b.1,
    generators_below st.store.generators b.2.generators_at,
  )

  -- ---- the environment that the outermost context ends with

  pub bottom_outer : (below : Environment → Type 0) (e : Environment) (fs : List (Frame Mark CoreWork)) → FramesAt K below e fs → below (bottom e fs)
  bottom_outer below e [] at = at
  bottom_outer below e (f ∷ fs) (at, all) = bottom_outer below (below_frame e f) fs all

  frame_tail : (b e : Environment) (o : Floor) (f : Frame Mark CoreWork) → FrameAt K e o f → IsTail b (below_frame e f) → IsTail b e
  frame_tail b e o (Restore p) (free, (((i, is, same), unbound), fit)) tail = subst (λ a. IsTail b a) (sym is) (inr tail)
  frame_tail b e o f at tail = tail

  pub bottom_tail : (below : Environment → Type 0) (e : Environment) (fs : List (Frame Mark CoreWork)) → FramesAt K below e fs → IsTail (bottom e fs) e
  bottom_tail below e [] at = tail_self e
  bottom_tail below e (f ∷ fs) (at, all) = frame_tail (bottom (below_frame e f) fs) e (floor_of fs) f at (bottom_tail below (below_frame e f) fs all)

  -- it has records, and it is the present one's, or that of a context elsewhere
  abbrev Outer : ℕ → Environment → List (Frame Mark CoreWork) → Type 0
  Outer a e fs = Below (length seats) ends × ((bottom e fs ≡ ends) ⊎ (activation_at k.whole seats ends ≡ Some a → ⊥))

  callers_outer : (a : ℕ) (c : Context Mark Own CoreWork) (ks : Contexts1) → AllContexts K (c ∷ ks) → AllElsewhere k.whole seats a (c ∷ ks) → Below (length seats) ends × (activation_at k.whole seats ends ≡ Some a → ⊥)
  callers_outer a c [] ((frames, inside), all) (here, away) =
      let is : bottom c.environment c.frames ≡ ends = (bottom_outer (Bottom K []) c.environment c.frames frames).0 in (
        subst (λ b. Below (length seats) b) is (bottom_below (length seats) (Bottom K []) c.environment c.frames inside.0 frames),
        λ same. here (subst (λ b. activation_at k.whole seats b ≡ Some a) (sym is) same),
      )
  callers_outer a c (d ∷ ks) (at, all) (here, away) = callers_outer a d ks all away

  outer_by : (a : ℕ) (e : Environment) (fs : List (Frame Mark CoreWork)) (ks : Contexts1) → Below (length seats) e → FramesAt K (Bottom K ks) e fs → AllContexts K ks → AllElsewhere k.whole seats a ks → Outer a e fs
  outer_by a e fs [] inside frames all away =
      let is : bottom e fs ≡ ends = (bottom_outer (Bottom K []) e fs frames).0 in
      (subst (λ b. Below (length seats) b) is (bottom_below (length seats) (Bottom K []) e fs inside frames), inl is)
  outer_by a e fs (c ∷ ks) inside frames all away = let at = callers_outer a c ks all away in (at.0, inr at.1)

  pub outer_is : (a : ℕ) (st : CoreState) → StateAt K st → Elsewhere k.whole seats a st → Outer a st.context.environment st.context.frames
  outer_is a st b away = outer_by a st.context.environment st.context.frames st.callers b.2.inside.0 b.0 b.1 away.0

  -- ---- all contexts but the present one are elsewhere

  module _ (new : Seat) (present : Environment) (Ok : Environment → Type 0) (into : (e : Environment) → StaysAt k seats new present e → Ok e) where
    abbrev act : ℕ
    act = grouped k.whole new.home

    elsewhere_ok : (below : Environment → Type 0) (e : Environment) (fs : List (Frame Mark CoreWork)) → Below (length seats) e → FramesAt K below e fs → (activation_at k.whole seats (bottom e fs) ≡ Some act → ⊥) → Ok e
    elsewhere_ok below e fs inside frames away = into e (record { below = inside; apart = inr (λ here. away (same_activation below e fs frames ∙ here)) })

    pub contexts_ok : (ks : Contexts1) → AllContexts K ks → AllElsewhere k.whole seats act ks → AllOf (λ (c : Context Mark Own CoreWork). Ok c.environment) ks
    contexts_ok [] all away = tt
    contexts_ok (c ∷ ks) ((frames, inside), all) (here, away) = (elsewhere_ok (Bottom K ks) c.environment c.frames inside.0 frames here, contexts_ok ks all away)

    pub generators_ok : (gs : List Generator) → AllOf (GeneratorAt K) gs → AllGeneratorsElsewhere k.whole seats act gs → AllOf (SavedAs Ok) gs
    generators_ok [] all away = tt
    generators_ok (AtStart c ∷ gs) ((frames, free, inside), all) (here, away) = (elsewhere_ok anywhere c.environment c.frames inside.0 frames here, generators_ok gs all away)
    generators_ok (AtYield c ∷ gs) ((frames, free, inside), all) (here, away) = (elsewhere_ok anywhere c.environment c.frames inside.0 frames here, generators_ok gs all away)
    generators_ok (Executing ∷ gs) (at, all) (here, away) = (tt, generators_ok gs all away)
    generators_ok (Completed ∷ gs) (at, all) (here, away) = (tt, generators_ok gs all away)

    -- that of the outermost context is further out of the present one, or elsewhere
    pub ends_ok : (st : CoreState) → StateAt K st → Elsewhere k.whole seats act st → IsTail (bottom st.context.environment st.context.frames) present → Ok ends
    ends_ok st b away tail =
        let at = outer_is act st b away in
        by_case at.0 at.1
      where
        by_case : Below (length seats) ends → (bottom st.context.environment st.context.frames ≡ ends) ⊎ (activation_at k.whole seats ends ≡ Some act → ⊥) → Ok ends
        by_case below (inl is) = into ends (record { below = below; apart = inl (subst (λ b. IsTail b present) is tail) })
        by_case below (inr other) = into ends (record { below = below; apart = inr other })

    -- So the environments stay as they are where the new record comes, if the present one does.
    pub stays_all : (s t : Config) (owners : List ℕ) → Related owners seats s t → StateAt K s.state → Elsewhere k.whole seats act s.state → Ok s.state.context.environment
        → AllOk Ok (λ (e : Environment). Below (length seats) e) s
    stays_all s t owners related b away here = record {
      present = here;
      callers = contexts_ok s.state.callers b.1 away.0;
      generators = generators_ok s.state.store.generators b.2.generators_at away.1;
      closures = closures_below owners seats s.state.closures t.state.closures (states_of owners seats s t related).closures;
    }
