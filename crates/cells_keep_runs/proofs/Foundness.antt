-- What stands in the scopes of its names is found by both machines.
use Rattle.std.specs.List.{list_all}
use Rattle.std.proofs.Common.{◌≡◌, inl, inr, ℕ, Bool, true, false, not, ◌&&◌, ◌||◌, cond, List, [], ◌∷◌, get_or, nat_eq, nat_lt, None, Some, refl, sym, ap, subst, ◌∙◌}
use Rattle.std.proofs.lemmas.Bool.{and_parts, eq-eqb, eqb-true}
use Rattle.core_ast.specs.declared.parts.CoreOp.{CoreOp}
use Rattle.core_ast.specs.declared.parts.CoreOp.TheVariants as op
use Rattle.core_ast.specs.declared.parts.FunctionId.{FunctionId}
use Rattle.core_ast.specs.declared.parts.ScopedName.{ScopedName}
use Rattle.core_ast.specs.declared.parts.Var.{Var}
use Rattle.core_meaning.specs.Marks.{CoreState, Mark}
use Rattle.core_meaning.specs.Names.{Resolved, resolve}
use Rattle.core_meaning.specs.State.{Environment}
use Rattle.pass_rules.specs.Cells.{is_among, is_shared}
use Rattle.cells_keep_runs.specs.Callings.{outer_for}
use Rattle.cells_keep_runs.specs.Closed.{AllSeen, SeenShared}
use Rattle.cells_keep_runs.specs.Found.{Bound, FoundAt, FoundIn, names_of}
use Rattle.cells_keep_runs.specs.MayBeFlattened.{Round, Whole, closure_may, looped, op_may, scope_may}
use Rattle.cells_keep_runs.specs.Memory.{Keeping, Seats, kept_along}
use Rattle.cells_keep_runs.specs.Opened.{written_by}
use Rattle.cells_keep_runs.specs.Owed.{FunctionKept, NameFound, ScopeFound}
use Rattle.cells_keep_runs.specs.Ready.{WriteSeen}
use Rattle.cells_keep_runs.specs.Rounds.{NameAt, RoundAt, once}
use Rattle.cells_keep_runs.specs.Seen.{Sees}
use Rattle.cells_keep_runs.proofs.Found.{first_found, found_ready, found_seen, lasting_found}
use Rattle.cells_keep_runs.proofs.Rounds.{all_local, clear_at, local_of, or_later, targets}
use Rattle.cells_keep_runs.proofs.Writes.{same_var}

-- what is said of all names of a list
said_in : (said : Var → Bool) (xs : List Var) (x : Var) → ((y z : Var) → y ≡ z → said y ≡ true → said z ≡ true) → list_all said xs ≡ true → is_among x xs ≡ true → said x ≡ true
said_in said [] x same all among = cc
said_in said (y ∷ xs) x same all among =
    let both = and_parts (said y) (list_all said xs) all in
    by_name (nat_eq y.0 x.0) refl among both.0 (λ further. said_in said xs x same both.1 further)
  where
    by_name : (b : Bool) → nat_eq y.0 x.0 ≡ b → b || is_among x xs ≡ true → said y ≡ true → (is_among x xs ≡ true → said x ≡ true) → said x ≡ true
    by_name true e here is on = same y x (same_var y x (eqb-true y.0 x.0 e)) is
    by_name false e here is on = on here

-- a loop is round the same
pub round_looped : (whole : Whole) (kept : Keeping) (declarer : Var → ℕ) (seats : Seats) (bound : Bound) (e : Environment) (r : Round) → RoundAt whole kept declarer seats bound e r → RoundAt whole kept declarer seats bound e (looped r)
round_looped whole kept declarer seats bound e r at = record {
  names = at.names;
  base = at.base;
  activation = at.activation;
  at_home = at.at_home;
  locals = at.locals;
  unbound = at.unbound;
  innermost = at.innermost;
  above = at.above;
  declared = at.declared;
  keeps = at.keeps;
}

module _ (whole : Whole) (kept : Keeping) (declarer : Var → ℕ) (seats : Seats) (s : CoreState) where
  abbrev pub Here : Round → Type 0
  Here r = RoundAt whole kept declarer seats (names_of s.records) s.context.environment r

  found_by : (here : List Var) (x : Var) → NameAt whole seats (names_of s.records) s.context.environment here x → FoundAt whole.owners seats (names_of s.records) s.context.environment x
  found_by here x (inl l) = lasting_found whole.owners (once whole) seats (names_of s.records) s.context.environment x l
  found_by here x (inr o) = o.found

  -- ---- a name

  pub name_found : (r : Round) (x : Var) → Here r → is_among x r.names ≡ true → NameFound whole.owners seats s x
  name_found r x at among =
      let f : FoundAt whole.owners seats (names_of s.records) s.context.environment x = found_by r.here x (at.names x among) in
      let there : FoundIn s f.number x = first_found s f.number x f.first in
      record { found = there.found; finds = there.is; sees = subst (λ n. Sees whole.owners seats s.context.environment n x) (sym there.at) f.sees }

  pub name_ready : (r : Round) (x : Var) (q : Resolved Mark) → Here r → is_among x r.names ≡ true → resolve s x ≡ Some q → Sees whole.owners seats s.context.environment q.at x
  name_ready r x q at among is = found_ready whole.owners seats s x q (found_by r.here x (at.names x among)) is

  pub name_seen : (r : Round) (x : Var) → Here r → is_among x r.names ≡ true → is_shared whole.owners x ≡ true → SeenShared whole.owners seats s x
  name_seen r x at among shared = found_seen whole.owners seats s x (found_by r.here x (at.names x among)) shared

  -- ---- the shared names that links write

  write_by : (r : Round) (x : Var) (b : Bool) → is_shared whole.owners x ≡ b → Here r → is_among x r.names ≡ true → WriteSeen whole.owners seats s (cond b (Some x) None)
  write_by r x true is at among = name_seen r x at among is
  write_by r x false is at among = tt

  pub write_seen : (r : Round) (o : CoreOp) → Here r → op_may o r ≡ true → WriteSeen whole.owners seats s (written_by whole.owners o)
  unfolding written_by
  write_seen r (op.Set x) at is = write_by r x (is_shared whole.owners x) refl at is
  write_seen r (op.Init x) at is = write_by r x (is_shared whole.owners x) refl at is
  write_seen r o at is = tt

  -- ---- the function that a closure is made of

  module _ (among_outer : (f : FunctionId) (x : Var) → is_among x (kept f) ≡ true → is_among x (outer_for whole f.0) ≡ true) (kept_shared : (f : FunctionId) (x : Var) → is_among x (kept f) ≡ true → is_shared whole.owners x ≡ true)
      (keep : (e : Environment) (f : FunctionId) (x : Var) → kept_along seats e f x ≡ true → is_among x (kept f) ≡ true) where
    or_after : (y x : Var) (xs : List Var) → is_among y xs ≡ true → is_among y (x ∷ xs) ≡ true
    or_after y x xs among = or_later (nat_eq x.0 y.0) (is_among y xs) among

    all_seen : (xs : List Var) (r : Round) → Here r → ((x : Var) → is_among x xs ≡ true → (is_among x r.names ≡ true) × (is_shared whole.owners x ≡ true)) → AllSeen whole.owners seats s xs
    all_seen [] r at h = tt
    all_seen (x ∷ xs) r at h =
        let first = h x (ap (λ b. b || is_among x xs) (eq-eqb x.0 x.0 refl)) in
        (name_seen r x at first.0 first.1, all_seen xs r at (λ y among. h y (or_after y x xs among)))

    -- a name that the function mentions further out is round it
    outer_named : (f : FunctionId) (r : Round) → closure_may whole f r ≡ true → (x : Var) → is_among x (outer_for whole f.0) ≡ true → is_among x r.names ≡ true
    outer_named f r may x among =
        let said = λ (y : Var). is_among y r.names && (not (is_among y r.here && is_shared whole.owners y) || is_among y (get_or whole.kept f.0 [])) in
        let all = (and_parts (nat_lt f.0 r.functions) (list_all said (outer_for whole f.0)) may).1 in
        (and_parts (is_among x r.names) (not (is_among x r.here && is_shared whole.owners x) || is_among x (get_or whole.kept f.0 [])) (said_in said (outer_for whole f.0) x (λ y z same is. ap (λ v. said v) (sym same) ∙ is) all among)).0

    pub function_kept : (f : FunctionId) (r : Round) → Here r → closure_may whole f r ≡ true → FunctionKept kept whole.owners seats s f
    function_kept f r at may = record {
      seen = all_seen (kept f) r at (λ x among. (outer_named f r may x (among_outer f x among), kept_shared f x among));
      all = λ x along. keep s.context.environment f x along;
    }

  -- ---- a scope

  pub scope_found : (r : Round) (names : List ScopedName) → Here r → scope_may whole names r ≡ true → ScopeFound seats s names
  scope_found r names at may = record {
    number = at.base.number;
    seat = at.base.seat;
    home = at.base.home;
    seated = at.base.seated;
    image = at.base.image;
    at = targets whole kept declarer seats s r at names (λ x among. (at.locals x (local_of whole kept declarer seats s r at names may x among)).target);
    locals = all_local whole kept declarer seats s r at names (λ x among. (at.locals x (local_of whole kept declarer seats s r at names may x among)).local);
    clear = clear_at whole kept declarer seats s r at names may;
    unkept = λ x among. (at.locals x (local_of whole kept declarer seats s r at names may x among)).unkept;
  }
