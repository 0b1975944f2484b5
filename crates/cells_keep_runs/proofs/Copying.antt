-- When the innermost record may be copied.
use Rattle.std.proofs.Common.{◌≡◌, ◌<◌, ℕ, Bool, true, false, ◌||◌, List, [], ◌∷◌, ◌++◌, map, Some, length, nat_eq, slice_get, refl, sym, ap, subst, ◌∙◌}
use Rattle.std.proofs.lemmas.Bool.{eq-eqb}
use Rattle.std.proofs.lemmas.List.{get_or_append_left, get_or_at}
use Rattle.core_ast.specs.declared.parts.ScopedName.{ScopedName}
use Rattle.core_ast.specs.declared.parts.Var.{Var}
use Rattle.core_meaning.specs.Cells.{uninitialized}
use Rattle.core_meaning.specs.Marks.{Mark}
use Rattle.core_meaning.specs.Names.{binding_in, record_at}
use Rattle.core_meaning.specs.State.{Binding, EnvironmentRecord}
use Rattle.pass_rules.specs.Cells.{is_among}
use Rattle.pass_rules.specs.Scopes.{vars}
use Rattle.cells_keep_runs.specs.Copied.{AllBound, content_in, copy_renewals}
use Rattle.cells_keep_runs.specs.Copying.{CopiesMayBeCopied, CopyableStays, ScopesMayBeCopied}
use Rattle.cells_keep_runs.specs.Entered.{entered_seats, reset_of}
use Rattle.cells_keep_runs.specs.Memory.{Seat, Seats}
use Rattle.cells_keep_runs.specs.Renewed.{scope_seat}
use Rattle.cells_keep_runs.proofs.Named.{some_there}
use Rattle.cells_keep_runs.proofs.Renewed.{got_below, got_last, still_got}
use Rattle.cells_keep_runs.proofs.Stays.{all_at, last_newest, newest_stays, past_scope, past_target, target_stays}

abbrev Bindings1 : Type 0
Bindings1 = EnvironmentRecord Mark

-- ---- names that are bound

uninitialized_names : (names : List ScopedName) → map (λ b. b.var) (uninitialized names) ≡ vars names
uninitialized_names [] = refl
uninitialized_names (n ∷ names) = ap (λ xs. n.var ∷ xs) (uninitialized_names names)

bound_in : (names : List ScopedName) (x : Var) → is_among x (vars names) ≡ true → (b : Binding Mark) × (binding_in (uninitialized names) x ≡ Some b)
bound_in names x among = some_there (uninitialized names) x (ap (λ ys. is_among x ys) (uninitialized_names names) ∙ among)

or_right : (a b : Bool) → b ≡ true → a || b ≡ true
or_right true b is = refl
or_right false b is = is

or_left : (a b : Bool) → a ≡ true → a || b ≡ true
or_left true b is = refl
or_left false b is = cc

all_bound : (owners : List ℕ) (names : List ScopedName) (xs : List Var) → ((x : Var) → is_among x xs ≡ true → is_among x (vars names) ≡ true) → AllBound owners (uninitialized names) xs
all_bound owners names [] named = tt
all_bound owners names (x ∷ xs) named = (
  λ shared. bound_in names x (named x (or_left (nat_eq x.0 x.0) (is_among x xs) (eq-eqb x.0 x.0 refl))),
  all_bound owners names xs (λ y among. named y (or_right (nat_eq x.0 y.0) (is_among y xs) among)),
)

-- ---- a scope

last_record : (rs : List Bindings1) (bindings : Bindings1) (n : ℕ) → n ≡ length rs → record_at (rs ++ bindings ∷ []) n ≡ bindings
last_record rs bindings n is = ap (λ i. record_at (rs ++ bindings ∷ []) i) is ∙ get_or_at rs bindings [] [] (length rs) refl

pub scopes_copied : ScopesMayBeCopied
scopes_copied owners seats s names k xs r below seated copies =
    let new : Seat = scope_seat r.home (vars names) k (map reset_of names) in
    let seats2 : Seats = entered_seats seats r.home names k in
    let at : slice_get seats2 (length seats) ≡ Some new = got_last seats new in
    record {
      seat = new;
      seated = at;
      scope = refl;
      newest = λ x among. last_newest seats new x;
      found = λ x among. past_target seats2 new (length seats) s.context.environment x at refl ∙ target_stays seats (new ∷ []) s.context.environment x below
          ∙ all_at seats s.context.environment r.home names x r.at among;
      listed = copies.listed;
      bound = subst (λ bs. AllBound owners bs xs) (sym (last_record s.records (uninitialized names) (length seats) seated)) (all_bound owners names xs copies.named);
      apart = copies.apart;
    }

-- ---- a copy

pub copies_copied : CopiesMayBeCopied
copies_copied owners seats rs n o xs k c below seated =
    let new : Seat = scope_seat c.seat.home c.seat.scoped k (copy_renewals owners (content_in (record_at rs n)) xs) in
    let seats2 : Seats = seats ++ new ∷ [] in
    let at : slice_get seats2 (length seats) ≡ Some new = got_last seats new in
    record {
      seat = new;
      seated = at;
      scope = refl;
      newest = λ x among. last_newest seats new x;
      found = λ x among. past_scope seats2 new (length seats) o x at refl ∙ target_stays seats (new ∷ []) o x below ∙ sym (past_scope seats c.seat n o x c.seated c.scope) ∙ c.found x among;
      listed = c.listed;
      bound = subst (λ bs. AllBound owners bs xs) (sym (last_record rs (record_at rs n) (length seats) seated)) c.bound;
      apart = c.apart;
    }

-- ---- a record more

pub copyable_stays : CopyableStays
copyable_stays owners seats rs bindings new e n xs c below seated away =
    let lower : n < length seats = got_below seats n c.seat c.seated in
    let same : record_at (rs ++ bindings ∷ []) n ≡ record_at rs n = get_or_append_left rs (bindings ∷ []) [] n (subst (λ m. n < m) seated lower) in
    record {
      seat = c.seat;
      seated = still_got seats new n c.seat c.seated;
      scope = c.scope;
      newest = λ x among. newest_stays seats c.seat new n x c.seated (λ home. away home x among) (c.newest x among);
      found = λ x among. target_stays seats (new ∷ []) e x below ∙ c.found x among;
      listed = c.listed;
      bound = subst (λ bs. AllBound owners bs xs) (sym same) c.bound;
      apart = c.apart;
    }
