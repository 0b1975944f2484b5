-- Where code stands with what is round it, both machines find what a step asks for.
use Rattle.std.proofs.Common.{◌≡◌, ℕ, Bool, true, false, List, [], ◌∷◌, ◌++◌, map, Option, None, Some, length, refl, sym, ap, subst, ◌∙◌}
use Rattle.std.specs.Prelude.{◌&&◌, cond}
use Rattle.std.proofs.lemmas.Bool.{and_parts}
use Rattle.core_ast.specs.declared.parts.CoreHead.{CoreHead}
use Rattle.core_ast.specs.declared.parts.CoreHead.TheVariants as head
use Rattle.core_ast.specs.declared.parts.CoreOp.{CoreOp}
use Rattle.core_ast.specs.declared.parts.CoreOp.TheVariants as op
use Rattle.core_ast.specs.declared.parts.FunctionId.{FunctionId}
use Rattle.core_ast.specs.declared.parts.Primitive.{Primitive}
use Rattle.core_ast.specs.declared.parts.Primitive.TheVariants as primitive
use Rattle.core_ast.specs.declared.parts.ScopedName.{ScopedName}
use Rattle.core_ast.specs.declared.parts.Var.{Var}
use Rattle.core_ast.specs.declared.tree.CoreCase.{CoreCase}
use Rattle.core_ast.specs.declared.tree.CoreExpr.{CoreExpr, fold_out-CoreExpr, out-CoreExpr}
use Rattle.core_ast.specs.declared.tree.CoreLink.{CoreLink, fold_out-CoreLink, out-CoreLink}
use Rattle.core_ast.specs.declared.tree.CoreLink.TheOpen as layer
use Rattle.core_ast.specs.declared.tree.CoreLink.TheOpen.{CoreLink-F, CoreStat-F}
use Rattle.core_ast.specs.declared.tree.CoreStat.{CoreStat, fold_out-CoreStat, out-CoreStat}
use Rattle.core_ast.specs.declared.whole.Core.{Core}
use Rattle.core_meaning.specs.Marks.{CoreState, CoreWork, Heritage, Mark, Unmade}
use Rattle.core_meaning.specs.Rows.{with_frames}
use Rattle.core_meaning.specs.State.{After, Begin, Calls, Catching, Control, CoreValue, Current, Done, Environment, Extra, Frame, Gives, Go, Hand, Has, Jumps, Part, Returns, Run, Throws, Turn, User, Work}
use Rattle.pass_rules.specs.Cells.{is_among, is_shared}
use Rattle.pass_rules.proofs.pass_laws.Related.{Fold, in_expr, in_link, in_stat}
use Rattle.cells_keep_runs.specs.Alike.{Config}
use Rattle.cells_keep_runs.specs.Copied.{Copyable}
use Rattle.cells_keep_runs.specs.Fitting.{Naming, fit_standing}
use Rattle.cells_keep_runs.specs.Floors.{AllOf, ControlAt, Everywhere, Fits, FrameAt, FramesAt, Standing, ToMake, Wanted, floor_of, part_wanted, under, wanted_along}
use Rattle.cells_keep_runs.specs.Found.{names_of}
use Rattle.cells_keep_runs.specs.MayBeFlattened.{Round, Test, Whole, case_step, closure_may, copy_may, each, expr_may, expr_step, head_may, in_handler, link_may, link_step, op_may, parameter_may, scope_may, stat_may, stat_step, within}
use Rattle.cells_keep_runs.specs.Callings.{outer_for}
use Rattle.cells_keep_runs.specs.Memory.{Seats, kept_along}
use Rattle.cells_keep_runs.specs.Opened.{write_in, written_by}
use Rattle.cells_keep_runs.specs.Owed.{ControlFound, CopyFound, FunctionKept, GivesFound, GoesFound, HeadFound, LinkFound, ListFound, NameFound, OpFound, PartsFound, StatFound, ThrowFound, ValuesFound}
use Rattle.cells_keep_runs.specs.Places.{Below}
use Rattle.cells_keep_runs.specs.Ready.{WriteSeen, WritesSeen}
use Rattle.cells_keep_runs.specs.Rounds.{InnermostAt}
use Rattle.cells_keep_runs.specs.Standings.{Around, Known}
use Rattle.cells_keep_runs.proofs.Both.{both}
use Rattle.cells_keep_runs.proofs.Copies.{rounds_go_on}
use Rattle.cells_keep_runs.proofs.Floored.{LastFits, last_fits}
use Rattle.cells_keep_runs.proofs.Foundness.{function_kept, name_found, name_ready, scope_found, write_seen}
use Rattle.cells_keep_runs.proofs.GoingOn.{with_shapes}
use Rattle.cells_keep_runs.proofs.Grown.{below_rest}
use Rattle.cells_keep_runs.proofs.RoundParts.{LinkRound, StatRound}
use Rattle.cells_keep_runs.proofs.Standings.{names_standing}

module _ (known : Known) (core : Core) (naming : Naming) (ends : Environment) (seats : Seats) (names_shapes shapes : List (List Var) → Type 0)
    (among_outer : (f : FunctionId) (x : Var) → is_among x (known.kept f) ≡ true → is_among x (outer_for known.whole f.0) ≡ true) (kept_shared : (f : FunctionId) (x : Var) → is_among x (known.kept f) ≡ true → is_shared known.whole.owners x ≡ true)
    (keep : (e : Environment) (f : FunctionId) (x : Var) → kept_along seats e f x ≡ true → is_among x (known.kept f) ≡ true) where
  abbrev whole : Whole
  whole = known.whole

  abbrev owners : List ℕ
  owners = known.whole.owners

  -- the standing of names at a state, beside that of code that fits
  abbrev K : CoreState → Standing
  K s = with_shapes (both (names_standing known ends seats (names_of s.records) names_shapes naming.fixed) (fit_standing core naming)) shapes

  abbrev Here : CoreState → Round → Type 0
  Here s r = Around known seats (names_of s.records) s.context.environment r

  abbrev Layer : Type 0
  Layer = CoreLink-F CoreLink CoreStat CoreCase CoreExpr

  abbrev test_fold : Fold
  test_fold = record {
    Link = Test;
    Stat = Test;
    Case = Test;
    Expr = Test;
    link_step = link_step whole;
    stat_step = stat_step whole;
    case_step = case_step whole;
    expr_step = expr_step whole;
  }

  stat_out : (x : CoreStat) (r : Round) → stat_may whole x r ≡ stat_step whole (in_stat test_fold (out-CoreStat x)) r
  stat_out x r = ap (λ f. f r) (fold_out-CoreStat Test Test Test Test (link_step whole) (stat_step whole) (case_step whole) (expr_step whole) x)

  expr_out : (x : CoreExpr) (r : Round) → expr_may whole x r ≡ expr_step whole (in_expr test_fold (out-CoreExpr x)) r
  expr_out x r = ap (λ f. f r) (fold_out-CoreExpr Test Test Test Test (link_step whole) (stat_step whole) (case_step whole) (expr_step whole) x)

  link_out : (l : CoreLink) (r : Round) → link_may whole l r ≡ link_step whole (in_link test_fold (out-CoreLink l)) r
  link_out l r = ap (λ f. f r) (fold_out-CoreLink Test Test Test Test (link_step whole) (stat_step whole) (case_step whole) (expr_step whole) l)

  -- ---- links

  op_of : (r : Round) (o : CoreOp) (parts : List CoreExpr) → op_may o r && each (map (expr_may whole) parts) r ≡ true → op_may o r ≡ true
  op_of r o parts is = (and_parts (op_may o r) (each (map (expr_may whole) parts) r) is).0

  write_of : (s : CoreState) (r : Round) (y : Layer) → Here s r → link_step whole (in_link test_fold y) r ≡ true → WriteSeen owners seats s (write_in owners y)
  write_of s r (layer.Strict o parts site) at is = write_seen whole known.kept known.declarer seats s r o at (op_of r o parts is)
  write_of s r (layer.Lazy when taken other) at is = tt
  write_of s r (layer.Run body) at is = tt

  writes_of : (s : CoreState) (r : Round) (ls : List CoreLink) → Here s r → each (map (link_may whole) ls) r ≡ true → WritesSeen owners seats s ls
  writes_of s r [] at is = tt
  writes_of s r (l ∷ ls) at is =
      let both = and_parts (link_may whole l r) (each (map (link_may whole) ls) r) is in
      (write_of s r (out-CoreLink l) at (sym (link_out l r) ∙ both.0), writes_of s r ls at both.1)

  op_found : (s : CoreState) (r : Round) (o : CoreOp) → Here s r → op_may o r ≡ true → OpFound owners seats s o
  op_found s r (op.Set x) at is = name_found whole known.kept known.declarer seats s r x at is
  op_found s r (op.Init x) at is = name_found whole known.kept known.declarer seats s r x at is
  op_found s r o at is = tt

  link_found : (s : CoreState) (r : Round) (y : Layer) → Here s r → link_step whole (in_link test_fold y) r ≡ true → LinkFound owners seats s y
  link_found s r (layer.Strict o parts site) at is = op_found s r o at (op_of r o parts is)
  link_found s r (layer.Lazy when taken other) at is = tt
  link_found s r (layer.Run body) at is = tt

  goes_found : (s : CoreState) (c : Current Mark) (ls : List CoreLink) → AllOf (LinkRound whole (Around known seats (names_of s.records)) s.context.environment) ls → GoesFound owners seats s c ls
  goes_found s (Has v) (l ∷ ls) ((r, is, at), all) = link_found s r (out-CoreLink l) at (sym (link_out l r) ∙ is)
  goes_found s (Has v) [] all = tt
  goes_found s c ls all = tt

  shared_one : (x y : Var) (b : Bool) → cond b (Some x) None ≡ Some y → x ≡ y
  shared_one x y true is = cc
  shared_one x y false is = cc

  written_found : (s : CoreState) (r : Round) (y : Layer) (x : Var) → Here s r → link_step whole (in_link test_fold y) r ≡ true → write_in owners y ≡ Some x → NameFound owners seats s x
  unfolding written_by
  written_found s r (layer.Strict (op.Set z) parts site) x at is written =
      subst (λ v. NameFound owners seats s v) (shared_one z x (is_shared owners z) written) (op_found s r (op.Set z) at (op_of r (op.Set z) parts is))
  written_found s r (layer.Strict (op.Init z) parts site) x at is written =
      subst (λ v. NameFound owners seats s v) (shared_one z x (is_shared owners z) written) (op_found s r (op.Init z) at (op_of r (op.Init z) parts is))
  written_found s r (layer.Strict o parts site) x at is written = cc
  written_found s r (layer.Lazy when taken other) x at is written = cc
  written_found s r (layer.Run body) x at is written = cc

  -- ---- heads

  kept_at : (s : CoreState) (f : FunctionId) (r : Round) → Here s r → closure_may whole f r ≡ true → FunctionKept known.kept owners seats s f
  kept_at s f r at may = function_kept whole known.kept known.declarer seats s among_outer kept_shared keep f r at may

  copy_found : (s : CoreState) (xs : List Var) (r : Round) (o : Option (List ScopedName)) → r.innermost ≡ o → copy_may whole xs o ≡ true → Here s r → Below (length seats) s.context.environment → length seats ≡ length s.records → CopyFound owners seats s xs
  copy_found s xs r None inner may at below long = cc
  copy_found s xs r (Some names) inner may at below long =
      let scope = subst (λ o. InnermostAt seats (names_of s.records) s.context.environment r.here o) inner at.innermost in
      let n = scope.number in
      let o = scope.outer in
      let at2 = subst (λ e. Around known seats (names_of s.records) e r) scope.is at in
      let below2 = below_rest (length seats) n o (subst (λ e. Below (length seats) e) scope.is below) in
      let made = rounds_go_on.copies whole known.kept known.declarer seats s.records n o names xs 0 r at2 inner may below2 long in
      record { number = n; outer = o; innermost = scope.is; copyable = subst (λ e. Copyable owners seats s.records e n xs) (sym scope.is) made.0 }

  head_found : (s : CoreState) (h : CoreHead) (r : Round) → Here s r → head_may whole h r ≡ true → Below (length seats) s.context.environment → length seats ≡ length s.records → HeadFound known.kept owners seats s h
  head_found s (head.Variable y) r at may below long = λ q is. name_ready whole known.kept known.declarer seats s r y q at may is
  head_found s (head.Function f) r at may below long = kept_at s f r at may
  head_found s (head.Copy xs) r at may below long = copy_found s xs r r.innermost refl may at below long
  head_found s h r at may below long = tt

  -- ---- statements

  stat_found : (s : CoreState) (y : CoreStat-F CoreLink CoreStat CoreCase CoreExpr) (r : Round) → Here s r → stat_step whole (in_stat test_fold y) r ≡ true → StatFound seats s y
  stat_found s (layer.Scoped names body) r at is = scope_found whole known.kept known.declarer seats s r names at (and_parts (scope_may whole names r) (each (map (stat_may whole) body) (within names r)) is).0
  stat_found s y r at is = tt

  list_found : (s : CoreState) (xs : List CoreStat) → AllOf (StatRound whole (Around known seats (names_of s.records)) s.context.environment) xs → ListFound seats s xs
  list_found s [] all = tt
  list_found s (x ∷ xs) ((r, is, at), all) = stat_found s (out-CoreStat x) r at (sym (stat_out x r) ∙ is)

  -- ---- what is handed to frames

  values_found : (s : CoreState) (vs : List (CoreValue Mark)) → LastFits core (K s) s.context.environment ToMake vs → ValuesFound known.kept owners seats s vs
  values_found s (User heritage ∷ Extra (Unmade f) ∷ []) ((r, may, at), other) = kept_at s f r at may
  values_found s vs at = tt

  class_found : (s : CoreState) (us : List (CoreValue Mark)) (v : CoreValue Mark) (parts : List CoreExpr) → Fits (K s).unmade s.context.environment ToMake v → PartsFound known.kept owners seats s (op.Primitive primitive.ClassMake) (us ++ v ∷ []) parts
  class_found s us v [] at = values_found s (us ++ v ∷ []) (last_fits core (K s) s.context.environment ToMake us v at)
  class_found s us v (x ∷ xs) at = tt

  made_found : (s : CoreState) (q : Primitive) (us : List (CoreValue Mark)) (v : CoreValue Mark) (parts : List CoreExpr) (w : Wanted) → Fits (K s).unmade s.context.environment (part_wanted (op.Primitive q) w) v → PartsFound known.kept owners seats s (op.Primitive q) (us ++ v ∷ []) parts
  made_found s primitive.ClassMake us v parts w at = class_found s us v parts at
  made_found s q us v parts w at = tt

  parts_found : (s : CoreState) (o : CoreOp) (us : List (CoreValue Mark)) (v : CoreValue Mark) (parts : List CoreExpr) (w : Wanted) → Fits (K s).unmade s.context.environment (part_wanted o w) v → PartsFound known.kept owners seats s o (us ++ v ∷ []) parts
  parts_found s (op.Primitive q) us v parts w at = made_found s q us v parts w at
  parts_found s o us v parts w at = tt

  work_found : (s : CoreState) (v : CoreValue Mark) (w : CoreWork) (fs : List (Frame Mark CoreWork)) → FrameAt (K s) s.context.environment (floor_of fs) (Work w) → GivesFound known.kept owners seats v s (Work w ∷ fs)
  work_found s v (Heritage f heritage links) fs (((r, may, at), other), ls) = kept_at (with_frames fs s) f r at may
  work_found s v w fs at = tt

  after_found : (s : CoreState) (l : CoreLink) (ls : List CoreLink) → AllOf (LinkRound whole (Around known seats (names_of s.records)) s.context.environment) (l ∷ ls) → (x : Var) → write_in owners (out-CoreLink l) ≡ Some x → NameFound owners seats s x
  after_found s l ls ((r, is, at), all) x written = written_found s r (out-CoreLink l) x at (sym (link_out l r) ∙ is) written

  given_found : (s : CoreState) (v : CoreValue Mark) (f : Frame Mark CoreWork) (fs : List (Frame Mark CoreWork)) → FrameAt (K s) s.context.environment (floor_of fs) f → Fits (K s).unmade s.context.environment (under f (floor_of fs)).wanted v → GivesFound known.kept owners seats v s (f ∷ fs)
  given_found s v (After []) fs at fits = tt
  given_found s v (After (l ∷ ls)) fs at fits = λ x written. after_found (with_frames fs s) l ls at.0 x written
  given_found s v (Part p) fs at fits = parts_found (with_frames fs s) p.op p.values v p.parts (wanted_along p.links (floor_of fs).wanted) fits
  given_found s v (Work w) fs at fits = work_found s v w fs at
  given_found s v f fs at fits = tt

  gives_found : (s : CoreState) (v : CoreValue Mark) (below : Environment → Type 0) (fs : List (Frame Mark CoreWork)) → FramesAt (K s) below s.context.environment fs → Fits (K s).unmade s.context.environment (floor_of fs).wanted v → GivesFound known.kept owners seats v s fs
  gives_found s v below [] all fits = tt
  gives_found s v below (f ∷ fs) all fits = given_found s v f fs all.0 fits

  throw_found : (s : CoreState) (below : Environment → Type 0) (fs : List (Frame Mark CoreWork)) → FramesAt (K s) below s.context.environment fs → ThrowFound seats s fs
  throw_found s below [] all = tt
  throw_found s below (Catching x names handler ∷ fs) ((free, ((r, is, at), other)), all) =
      let both = and_parts (parameter_may whole x names r && scope_may whole names r) (each (map (stat_may whole) handler) (in_handler x names r)) is in
      scope_found whole known.kept known.declarer seats s r names at (and_parts (parameter_may whole x names r) (scope_may whole names r) both.0).1
  throw_found s below (f ∷ fs) all = tt

  control_found : (s : CoreState) (c : Control Mark) (below : Environment → Type 0) → FramesAt (K s) below s.context.environment s.context.frames → Below (length seats) s.context.environment → length seats ≡ length s.records
      → ControlAt (K s) s.context.environment (floor_of s.context.frames) c → ControlFound known.kept owners seats s c
  control_found s (Begin x) below frames inside long ((r, is, at), other) =
      let both = and_parts (head_may whole (out-CoreExpr x).head r) (each (map (link_may whole) (out-CoreExpr x).links) r) (sym (expr_out x r) ∙ is) in
      (writes_of s r (out-CoreExpr x).links at both.1, head_found s (out-CoreExpr x).head r at both.0 inside long)
  control_found s (Go c links) below frames inside long at = goes_found s c links at.0.0
  control_found s (Run xs) below frames inside long at = list_found s xs at.1.0
  control_found s (Hand (Gives v)) below frames inside long at = gives_found s v below s.context.frames frames at
  control_found s (Hand (Throws v)) below frames inside long at = throw_found s below s.context.frames frames
  control_found s (Hand Done) below frames inside long at = tt
  control_found s (Hand (Returns v)) below frames inside long at = tt
  control_found s (Hand (Jumps goes_on label)) below frames inside long at = tt
  control_found s (Turn site c) below frames inside long at = tt
  control_found s (Calls c) below frames inside long at = tt

  -- Where code stands, both machines find what the next step asks for.
  pub found_from : (s : Config) → length seats ≡ length s.state.records → Everywhere (K s.state) s → ControlFound known.kept owners seats s.state s.control
  found_from s long (b, at) = control_found s.state s.control _ b.0 b.2.inside.0 long at
