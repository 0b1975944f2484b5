-- At the beginning of a run the code of modules stands by the names of the core.
use Rattle.std.proofs.Common.{◌≡◌, ℕ, zero, suc, Bool, true, List, [], ◌∷◌, map, Option, None, Some, length, slice_get, refl, sym, subst}
use Rattle.std.proofs.lemmas.Bool.{and_parts}
use Rattle.core_ast.specs.declared.parts.Var.{Var}
use Rattle.core_ast.specs.declared.tree.CoreStat.{CoreStat}
use Rattle.core_ast.specs.declared.whole.Core.{Core}
use Rattle.core_ast.specs.declared.whole.CorePart.{CorePart}
use Rattle.core_meaning.specs.Marks.{Mark}
use Rattle.core_meaning.specs.Modules.{bodies_of, body_in, part_body, part_record, start}
use Rattle.core_meaning.specs.State.{Environment, EnvironmentRecord}
use Rattle.cells_keep_runs.specs.Fitting.{IsFitting, any_shapes, fit_standing}
use Rattle.cells_keep_runs.specs.Floors.{AllOf, BindingFits, BodyAt, Everywhere, RecordsFit, Standing}
use Rattle.cells_keep_runs.specs.Found.{Bound}
use Rattle.cells_keep_runs.specs.Kept.{NoneKept, first_seats, kept_of}
use Rattle.cells_keep_runs.specs.KeptFound.{naming}
use Rattle.cells_keep_runs.specs.MayBeFlattened.{Round, each, stat_may, stats_may, whole_of}
use Rattle.cells_keep_runs.specs.Memory.{Seats}
use Rattle.cells_keep_runs.specs.Places.{Below}
use Rattle.cells_keep_runs.specs.Standings.{Around}
use Rattle.cells_keep_runs.specs.Started.{owners_of}
use Rattle.cells_keep_runs.proofs.FitRuns.{Undeclared, fit_start}
use Rattle.cells_keep_runs.proofs.Floored.{all_joined}
use Rattle.cells_keep_runs.proofs.GoingOn.{Exactly, beside, bound_in}
use Rattle.cells_keep_runs.proofs.Outset.{modules_round}
use Rattle.cells_keep_runs.proofs.RoundParts.{StatRound}
use Rattle.scopes_keep_runs.specs.Instance.{ends_of, known_of}
use Rattle.scopes_keep_runs.proofs.Instance.{StandsBy, names_by}
use Rattle.scopes_keep_runs.proofs.NamesMay.{NamesMay, part_parts, part_round}

all_got : {A B : Type 0} (P : B → Type 0) (f : A → B) (xs : List A) → ((n : ℕ) (x : A) → slice_get xs n ≡ Some x → P (f x)) → AllOf P (map f xs)
all_got P f [] h = tt
all_got P f (x ∷ xs) h = (h zero x refl, all_got P f xs (λ n y got. h (suc n) y got))

module _ (core : Core) (fixed : Var → Bool) (none_kept : NoneKept core) (fitting : IsFitting core (naming core fixed)) (undeclared : Undeclared core) (may : NamesMay core)
    (below : Below (length (first_seats core)) (ends_of core)) where
  abbrev seats : Seats
  seats = first_seats core

  abbrev bound : Bound
  bound = bound_in (start core)

  abbrev A : Standing
  A = names_by core fixed seats bound

  abbrev B : Standing
  B = fit_standing core (naming core fixed)

  abbrev K : Standing
  K = beside (names_by core fixed) core (naming core fixed) seats bound (Exactly bound)

  abbrev Here : Environment → Round → Type 0
  Here e r = Around (known_of core) seats bound e r

  -- ---- the bodies of modules

  around : (n : ℕ) (p : CorePart) → slice_get core.parts n ≡ Some p → Here (ends_of core) (part_round core p)
  around n p got = modules_round (whole_of core) (kept_of core) (known_of core).declarer (owners_of core) core.parts n p (length core.functions) got refl may.modules (λ x. refl)

  stats_round : (r : Round) (xs : List CoreStat) → Here (ends_of core) r → stats_may (whole_of core) xs r ≡ true → AllOf (StatRound (whole_of core) Here (ends_of core)) xs
  stats_round r [] at is = tt
  stats_round r (x ∷ xs) at is =
      let both = and_parts (stat_may (whole_of core) x r) (each (map (stat_may (whole_of core)) xs) r) is in
      ((r, both.0, at), stats_round r xs at both.1)

  body_round : (r : Round) (xs : List CoreStat) → Here (ends_of core) r → stats_may (whole_of core) xs r ≡ true → BodyAt A xs
  body_round r xs at is = λ e out. subst (λ a. AllOf (StatRound (whole_of core) Here a) xs) (sym out) (stats_round r xs at is)

  instantiated : AllOf (BodyAt A) (map (λ (p : CorePart). p.instantiate) core.parts)
  instantiated =
      all_got (BodyAt A) (λ (p : CorePart). p.instantiate) core.parts
      (λ n p got. body_round (part_round core p) p.instantiate (around n p got) (part_parts core n p may got).instantiate)

  body_by : (n : ℕ) (o : Option CorePart) → slice_get core.parts n ≡ o → BodyAt A (body_in o)
  body_by n None got = λ e out. tt
  body_by n (Some p) got = body_round (part_round core p) p.body (around n p got) (part_parts core n p may got).body

  ordered : (order : List ℕ) → AllOf (BodyAt A) (map (part_body core) order)
  ordered [] = tt
  ordered (n ∷ order) = (body_by n (slice_get core.parts n) refl, ordered order)

  both_bodies : (bs : List (List CoreStat)) → AllOf (BodyAt A) bs → AllOf (BodyAt B) bs → AllOf (BodyAt K) bs
  both_bodies [] all all2 = tt
  both_bodies (b ∷ bs) (at, all) (at2, all2) = (λ e out. (at e out.0, at2 e out.1), both_bodies bs all all2)

  -- ---- the records of modules

  bindings_same : (bs : EnvironmentRecord Mark) → AllOf (BindingFits B) bs → AllOf (BindingFits K) bs
  bindings_same [] all = tt
  bindings_same (b ∷ bs) (here, all) = (here, bindings_same bs all)

  records_same : (rs : List (EnvironmentRecord Mark)) → RecordsFit B rs → RecordsFit K rs
  records_same [] all = tt
  records_same (r ∷ rs) (here, all) = (bindings_same r here, records_same rs all)

  fits : Everywhere B (start core)
  fits = fit_start core (naming core fixed) any_shapes (λ bound xs at. tt) fitting none_kept undeclared tt

  pub stands_first : StandsBy core fixed seats (start core)
  stands_first = (
    (
      (refl, tt),
      tt,
      record {
        inside = (below, tt);
        generators_at = tt;
        records_fit = records_same (map part_record core.parts) fits.0.2.records_fit;
        shapes = refl;
        closures_at = tt;
        ahead_at = both_bodies (bodies_of core)
            (all_joined (BodyAt A) (map (λ (p : CorePart). p.instantiate) core.parts) (map (part_body core) core.order) instantiated (ordered core.order)) fits.0.2.ahead_at;
      },
    ),
    tt,
  )
