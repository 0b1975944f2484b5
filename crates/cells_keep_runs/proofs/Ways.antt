-- What the machine does at what the flattening of scopes makes, step by step.
use Rattle.std.proofs.Common.{◌≡◌, ℕ, zero, suc, ◌+◌, Bool, true, false, cond, List, [], ◌∷◌, ◌++◌, map, Option, None, Some, length, nat_eq, slice_get, ◌&&◌, refl, sym, ap, arith, subst, ◌∙◌}
use Rattle.std.specs.Option.{option_map}
use Rattle.std.specs.Prelude.{if◌then◌else◌}
use Rattle.runs.specs.Simulation.{Reaches}
use Rattle.es_outside.specs.declared.events.Site.{Site}
use Rattle.es_value.specs.declared.value.Value.{Value}
use Rattle.core_ast.specs.declared.parts.CoreHead.{CoreHead}
use Rattle.core_ast.specs.declared.parts.CoreHead.TheVariants as head
use Rattle.core_ast.specs.declared.parts.CoreOp.{CoreOp}
use Rattle.core_ast.specs.declared.parts.CoreOp.TheVariants as op
use Rattle.core_ast.specs.declared.parts.Primitive.TheVariants.{CellMake}
use Rattle.core_ast.specs.declared.parts.ScopedName.{ScopedName}
use Rattle.core_ast.specs.declared.parts.Var.{Var}
use Rattle.core_ast.specs.declared.tree.CoreExpr.{CoreExpr, out-roll-CoreExpr}
use Rattle.core_ast.specs.declared.tree.CoreLink.{CoreLink}
use Rattle.core_ast.specs.declared.tree.CoreLink.TheVariants as link
use Rattle.core_ast.specs.declared.tree.CoreStat.{CoreStat}
use Rattle.core_ast.specs.declared.tree.CoreStat.TheVariants as stat
use Rattle.core_ast.specs.declared.whole.Core.{Core}
use Rattle.core_ast.specs.Made.{act, acting, expression}
use Rattle.core_meaning.specs.Cells.{with_cell}
use Rattle.core_meaning.specs.Expressions.{begin_head}
use Rattle.core_meaning.specs.Marks.{Cell, CoreState, CoreStore, CoreWork, Mark, empty, sorts, value_in, value_or_empty}
use Rattle.core_meaning.specs.Modules.{core_step, primitive_act, rows}
use Rattle.core_meaning.specs.Names.{Resolved, initialize_found, initialized, read_found, resolve, stored_at, write, write_found, if_mutable}
use Rattle.core_meaning.specs.Rows.{controls, pushed, with_control, with_option}
use Rattle.core_meaning.specs.State.{Begin, Completion, Configuration, CoreValue, Done, Extra, Frame, Gives, Go, Hand, Has, Jumps, Part, Rest, Returns, Run, Throws}
use Rattle.core_meaning.specs.Statements.{begin_stat}
use Rattle.core_meaning.specs.Step.{abrupt, act_by, given, go, go_value, hand, parts, step, strict_of}
use Rattle.pass_rules.specs.Scopes.{copied, reset}
use Rattle.cells_keep_runs.specs.Places.{rebound}
use Rattle.cells_keep_runs.specs.Ways.{AreOpen, Holds, IsAbrupt, IsOpen, Way, all_reset, reset_in, reset_steps, with_new_cell, with_own_cell, writing}
use Rattle.cells_keep_runs.proofs.Places.{seen}

-- ---- names that may be written

pub new_cell_open : (v : Option Value) (st : CoreState) (x : Var) → IsOpen st x → IsOpen (with_new_cell v st) x
unfolding resolve
new_cell_open v st x h = h

frame_open : (f : Frame Mark CoreWork) (st : CoreState) (x : Var) → IsOpen st x → IsOpen (pushed f st) x
unfolding resolve
frame_open f st x h = h

frame_found : (f : Frame Mark CoreWork) (st : CoreState) (x : Var) → resolve (pushed f st) x ≡ resolve st x
unfolding resolve
frame_found f st x = refl

-- a write goes under a frame
under : (f : Frame Mark CoreWork) (x : Var) (v : CoreValue Mark) (st : CoreState) → initialized x v (pushed f st) ≡ pushed f (initialized x v st)
unfolding initialized resolve
under f x v st = by_found (resolve st x)
  where
    by_found : (o : Option (Resolved Mark)) → initialize_found x v (pushed f st) o ≡ pushed f (initialize_found x v st o)
    by_found None = refl
    by_found (Some r) = refl

-- a name may be written behind a write
mutable_if : (n : ℕ) (x : Var) (v : CoreValue Mark) (r : Resolved Mark) (b : Bool) → r.binding.mutable ≡ true → (if b then record r { binding = record r.binding { value = v } } else r).binding.mutable ≡ true
mutable_if n x v r true h = h
mutable_if n x v r false h = h

open_by : (x : Var) (v : CoreValue Mark) (st : CoreState) (y : Var) (o : Option (Resolved Mark)) → IsOpen st y → IsOpen (initialize_found x v st o) y
unfolding resolve
open_by x v st y None h = h
open_by x v st y (Some r) (q, e, is) =
    (rebound r.at x v y q, seen st.records r.at x v st.context.environment y ∙ ap (λ o. option_map (rebound r.at x v y) o) e, mutable_if r.at x v q (nat_eq y.0 x.0 && nat_eq q.at r.at) is)

pub open_behind : (x : Var) (v : CoreValue Mark) (st : CoreState) (y : Var) → IsOpen st y → IsOpen (initialized x v st) y
unfolding initialized
open_behind x v st y h = open_by x v st y (resolve st x) h

open_reset : (n : ScopedName) (st : CoreState) (y : Var) (shared : Bool) → IsOpen st y → IsOpen (cond shared (with_own_cell n.var None st) (initialized n.var empty st)) y
open_reset n st y true h = open_behind n.var (Extra (Cell (length st.store.cells))) (with_new_cell None st) y (new_cell_open None st y h)
open_reset n st y false h = open_behind n.var empty st y h

all_open : (n : ScopedName) (st : CoreState) (names : List ScopedName) → AreOpen st names → AreOpen (reset_in n st) names
all_open n st [] h = tt
all_open n st (y ∷ names) (h, hs) = (λ shared. open_reset n st y.var n.shared (h shared), all_open n st names hs)

-- ---- ways

abbrev pub Config : Type 0
Config = Configuration sorts CoreStore

module _ (core : Core) where
  pub joined : (j k : ℕ) (s t u : Config) → Reaches (core_step core) j s t → Reaches (core_step core) k t u → Reaches (core_step core) (j + k) s u
  joined zero k s t u e b = let z : 0 + k ≡ k = omega arith in subst (λ n. Reaches (core_step core) n s u) (sym z) (subst (λ v. Reaches (core_step core) k v u) (sym e) b)
  joined (suc j) k s t u (v, e, r) b = let z : suc j + k ≡ suc (j + k) = omega arith in subst (λ n. Reaches (core_step core) n s u) (sym z) (v, e, joined j k v t u r b)

  -- ---- single steps

  pub begin_at : (site : Option Site) (h : CoreHead) (ls : List CoreLink) (st : CoreState) → core_step core (with_control (Begin (expression site h ls)) st) ≡ begin_head (rows core) core h ls st
  unfolding step
  begin_at site h ls st = ap (λ y. begin_head (rows core) core y.head y.links st) (out-roll-CoreExpr (record { site = site; head = h; links = ls }))

  pub begin_read : (site : Option Site) (x : Var) (ls : List CoreLink) (st : CoreState) (r : Resolved Mark) (v : CoreValue Mark) → resolve st x ≡ Some r → r.binding.value ≡ v → core_step core (with_control (Begin (expression site (head.Variable x) ls)) st) ≡ controls (Go (Has v) ls) st
  unfolding begin_head
  begin_read site x ls st r v e is = begin_at site (head.Variable x) ls st ∙ ap (λ o. read_found (rows core) x ls st o) e ∙ ap (λ w. controls (Go (Has w) ls) st) is

  begin_empty : (site : Option Site) (ls : List CoreLink) (st : CoreState) → core_step core (with_control (Begin (expression site head.Empty ls)) st) ≡ controls (Go (Has empty) ls) st
  unfolding begin_head
  begin_empty site ls st = begin_at site head.Empty ls st

  go_strict : (v : CoreValue Mark) (o : CoreOp) (xs : List CoreExpr) (site : Option Site) (ls : List CoreLink) (st : CoreState) → core_step core (with_control (Go (Has v) (link.Strict o xs site ∷ ls)) st) ≡ parts (rows core) core (strict_of o site (Has v) xs ls) st
  unfolding step go
  go_strict v o xs site ls st = ap (λ y. go_value (rows core) core (Has v) ls st y) (link.outs-Strict o xs site)

  pub go_end : (v : CoreValue Mark) (st : CoreState) → core_step core (with_control (Go (Has v) []) st) ≡ controls (Hand (Gives v)) st
  unfolding step go
  go_end v st = refl

  run_do : (e : CoreExpr) (xs : List CoreStat) (st : CoreState) → core_step core (with_control (Run (stat.Do e ∷ xs)) st) ≡ controls (Begin e) (pushed (Rest xs) st)
  unfolding step begin_stat
  run_do e xs st = ap (λ y. begin_stat (rows core) (stat.Do e) (pushed (Rest xs) st) y) (stat.outs-Do e)

  hand_rest : (v : CoreValue Mark) (xs : List CoreStat) (st : CoreState) → core_step core (with_control (Hand (Gives v)) (pushed (Rest xs) st)) ≡ controls (Run xs) st
  unfolding step hand given
  hand_rest v xs st = refl

  -- ---- operations

  go_content : (n : ℕ) (v : Option Value) (ls : List CoreLink) (st : CoreState) → slice_get st.store.cells n ≡ Some v → core_step core (with_control (Go (Has (Extra (Cell n))) (act op.Content ∷ ls)) st) ≡ controls (Go (Has (value_or_empty v)) ls) st
  unfolding act_by
  go_content n v ls st e = go_strict (Extra (Cell n)) op.Content [] None ls st ∙ ap (λ o. with_option o st (λ w. controls (Go (Has (value_or_empty w)) ls) st)) e

  go_make : (x : Var) (v : CoreValue Mark) (ls : List CoreLink) (st : CoreState) → core_step core (with_control (Go (Has v) (act (op.Primitive (CellMake x)) ∷ ls)) st) ≡ controls (Go (Has (Extra (Cell (length st.store.cells)))) ls) (with_new_cell (value_in v) st)
  unfolding act_by primitive_act
  go_make x v ls st = go_strict v (op.Primitive (CellMake x)) [] None ls st

  go_init : (x : Var) (v : CoreValue Mark) (ls : List CoreLink) (st : CoreState) → core_step core (with_control (Go (Has v) (act (op.Init x) ∷ ls)) st) ≡ controls (Go (Has v) ls) (initialized x v st)
  unfolding act_by
  go_init x v ls st = go_strict v (op.Init x) [] None ls st

  pub stored_is : (x : Var) (v : CoreValue Mark) (st : CoreState) (r : Resolved Mark) → resolve st x ≡ Some r → stored_at r.at x v st ≡ initialized x v st
  unfolding initialized
  stored_is x v st r e = ap (λ o. initialize_found x v st o) (sym e)

  go_set : (x : Var) (v : CoreValue Mark) (ls : List CoreLink) (st : CoreState) → IsOpen st x → core_step core (with_control (Go (Has v) (act (op.Set x) ∷ ls)) st) ≡ controls (Go (Has v) ls) (initialized x v st)
  unfolding act_by write
  go_set x v ls st (r, e, is) =
      go_strict v (op.Set x) [] None ls st
      ∙ ap (λ o. write_found (rows core) x v v ls st o) e
      ∙ ap (λ b. if_mutable b st (controls (Go (Has v) ls) (stored_at r.at x v st))) is
      ∙ ap (λ u. controls (Go (Has v) ls) u) (stored_is x v st r e)

  -- ---- reading and writing

  pub read_cell : (st : CoreState) (x : Var) (n : ℕ) (v : Option Value) (site : Option Site) (links : List CoreLink) → Holds st x n → slice_get st.store.cells n ≡ Some v → Way core 2 (Begin (expression site (head.Variable x) (act op.Content ∷ links))) st (Go (Has (value_or_empty v)) links) st
  read_cell st x n v site links (r, e, is) h =
      (_, begin_read site x (act op.Content ∷ links) st r (Extra (Cell n)) e is, (_, go_content n v links st h, refl))

  go_part : (v : CoreValue Mark) (o : CoreOp) (e : CoreExpr) (ls : List CoreLink) (st : CoreState) → core_step core (with_control (Go (Has v) (acting o e ∷ ls)) st) ≡ controls (Begin e) (pushed (Part (strict_of o None (Has v) [] ls)) st)
  go_part v o e ls st = go_strict v o (e ∷ []) None ls st

  pub begin_write : (st : CoreState) (x : Var) (n : ℕ) (e : CoreExpr) (links : List CoreLink) → Holds st x n → Way core 2 (Begin (expression None (head.Variable x) (acting op.SetContent e ∷ links))) st (Begin e) (pushed (Part (writing n links)) st)
  begin_write st x n e links (r, h, is) =
      (_, begin_read None x (acting op.SetContent e ∷ links) st r (Extra (Cell n)) h is, (_, go_part (Extra (Cell n)) op.SetContent e links st, refl))

  pub fill_cell : (st : CoreState) (n : ℕ) (links : List CoreLink) (v : CoreValue Mark) → core_step core (with_control (Hand (Gives v)) (pushed (Part (writing n links)) st)) ≡ controls (Go (Has v) links) (with_cell n (value_in v) st)
  unfolding step hand given act_by
  fill_cell st n links v = refl

  pub leave_write : (st : CoreState) (n : ℕ) (links : List CoreLink) (c : Completion Mark) → IsAbrupt c → core_step core (with_control (Hand c) (pushed (Part (writing n links)) st)) ≡ controls (Hand c) st
  unfolding step hand abrupt
  leave_write st n links (Throws v) h = refl
  leave_write st n links (Returns v) h = refl
  leave_write st n links (Jumps goes_on label) h = refl
  leave_write st n links (Gives v) h = absurd h
  leave_write st n links Done h = absurd h

  -- ---- resets

  reset_plain : (x : Var) (xs : List CoreStat) (st : CoreState) → Way core 5 (Run (stat.Do (expression None head.Empty (act (op.Init x) ∷ [])) ∷ xs)) st (Run xs) (initialized x empty st)
  reset_plain x xs st = (
    _,
    run_do (expression None head.Empty (act (op.Init x) ∷ [])) xs st,
    (
      _,
      begin_empty None (act (op.Init x) ∷ []) (pushed (Rest xs) st),
      (
        _,
        go_init x empty [] (pushed (Rest xs) st),
        (
          _,
          go_end empty (initialized x empty (pushed (Rest xs) st)) ∙ ap (λ u. controls (Hand (Gives empty)) u) (under (Rest xs) x empty st),
          (_, hand_rest empty xs (initialized x empty st), refl),
        ),
      ),
    ),
  )

  reset_held : (x : Var) (xs : List CoreStat) (st : CoreState) → IsOpen st x → Way core 6 (Run (stat.Do (expression None head.Empty (act (op.Primitive (CellMake x)) ∷ act (op.Set x) ∷ [])) ∷ xs)) st (Run xs) (with_own_cell x None st)
  reset_held x xs st h =
      let cell : CoreValue Mark = Extra (Cell (length st.store.cells)) in
      let made : CoreState = with_new_cell None st in (
        _,
        run_do (expression None head.Empty (act (op.Primitive (CellMake x)) ∷ act (op.Set x) ∷ [])) xs st,
        (
          _,
          begin_empty None (act (op.Primitive (CellMake x)) ∷ act (op.Set x) ∷ []) (pushed (Rest xs) st),
          (
            _,
            go_make x empty (act (op.Set x) ∷ []) (pushed (Rest xs) st),
            (
              _,
              go_set x cell [] (pushed (Rest xs) made) (frame_open (Rest xs) made x (new_cell_open None st x h)),
              (
                _,
                go_end cell (initialized x cell (pushed (Rest xs) made)) ∙ ap (λ u. controls (Hand (Gives cell)) u) (under (Rest xs) x cell made),
                (_, hand_rest cell xs (initialized x cell made), refl),
              ),
            ),
          ),
        ),
      )

  abbrev reset_links : ScopedName → Bool → List CoreLink
  reset_links n shared = cond shared (act (op.Primitive (CellMake n.var)) ∷ act (op.Set n.var) ∷ []) (act (op.Init n.var) ∷ [])

  reset_by : (n : ScopedName) (xs : List CoreStat) (st : CoreState) (shared : Bool) → (shared ≡ true → IsOpen st n.var)
      → Way core (cond shared 6 5) (Run (stat.Do (expression None head.Empty (reset_links n shared)) ∷ xs)) st (Run xs) (cond shared (with_own_cell n.var None st) (initialized n.var empty st))
  reset_by n xs st true h = reset_held n.var xs st (h refl)
  reset_by n xs st false h = reset_plain n.var xs st

  pub resets : (names : List ScopedName) (xs : List CoreStat) (st : CoreState) → AreOpen st names → Way core (reset_steps names) (Run (map reset names ++ xs)) st (Run xs) (all_reset names st)
  resets [] xs st h = refl
  resets (n ∷ names) xs st (h, hs) =
      joined (cond n.shared 6 5) (reset_steps names) (with_control (Run (reset n ∷ map reset names ++ xs)) st) (with_control (Run (map reset names ++ xs)) (reset_in n st)) (with_control (Run xs) (all_reset names (reset_in n st)))
      (reset_by n (map reset names ++ xs) st n.shared h) (resets names xs (reset_in n st) (all_open n st names hs))

  -- ---- copies

  hand_then : (v w : CoreValue Mark) (ls : List CoreLink) (st : CoreState) → core_step core (with_control (Hand (Gives v)) (pushed (Part (strict_of op.Then None (Has w) [] ls)) st)) ≡ controls (Go (Has v) ls) st
  unfolding step hand given act_by
  hand_then v w ls st = refl

  value_back : (v : Option Value) → value_in (value_or_empty v) ≡ v
  value_back None = refl
  value_back (Some v) = refl

  abbrev copied_links : Var → List CoreLink
  copied_links x = act op.Content ∷ act (op.Primitive (CellMake x)) ∷ act (op.Set x) ∷ []

  pub copy_made : (st : CoreState) (x : Var) (n : ℕ) (v : Option Value) (w : CoreValue Mark) (links : List CoreLink) → Holds st x n → IsOpen st x → slice_get st.store.cells n ≡ Some v
      → Way core 7 (Go (Has w) (copied x ∷ links)) st (Go (Has (Extra (Cell (length st.store.cells)))) links) (with_own_cell x v st)
  copy_made st x n v w links (r, e, is) h there =
      let f : Frame Mark CoreWork = Part (strict_of op.Then None (Has w) [] links) in
      let cell : CoreValue Mark = Extra (Cell (length st.store.cells)) in
      let made : CoreState = with_new_cell v st in (
        _,
        go_part w op.Then (expression None (head.Variable x) (copied_links x)) links st,
        (
          _,
          begin_read None x (copied_links x) (pushed f st) r (Extra (Cell n)) (frame_found f st x ∙ e) is,
          (
            _,
            go_content n v (act (op.Primitive (CellMake x)) ∷ act (op.Set x) ∷ []) (pushed f st) there,
            (
              _,
              go_make x (value_or_empty v) (act (op.Set x) ∷ []) (pushed f st) ∙ ap (λ o. controls (Go (Has cell) (act (op.Set x) ∷ [])) (with_new_cell o (pushed f st))) (value_back v),
              (
                _,
                go_set x cell [] (pushed f made) (frame_open f made x (new_cell_open v st x h)),
                (
                  _,
                  go_end cell (initialized x cell (pushed f made)) ∙ ap (λ u. controls (Hand (Gives cell)) u) (under f x cell made),
                  (_, hand_then cell w links (initialized x cell made), refl),
                ),
              ),
            ),
          ),
        ),
      )
