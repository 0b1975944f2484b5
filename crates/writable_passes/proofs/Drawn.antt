-- The passes draw no more names than are counted before them.
use Rattle.std.proofs.Common.{◌≡◌, ℕ, ◌+◌, ◌≤◌, Bool, true, false, cond, length, List, [], ◌∷◌, ◌++◌, map, arith}
use Rattle.std.proofs.lemmas.Bool.{ltb-true, lt-ltb}
use Rattle.core_ast.specs.declared.naming.Fresh.{Fresh}
use Rattle.core_ast.specs.declared.parts.Var.{Var}
use Rattle.core_ast.specs.declared.whole.CoreFunction.{CoreFunction}
use Rattle.core_ast.specs.declared.whole.CorePart.{CorePart}
use Rattle.core_ast.specs.Lawful.{is_generator}
use Rattle.core_ast.specs.Mentions.{function_mentions}
use Rattle.pass_rules.specs.Cells.{all_free, cells_at, found, holders, owners}
use Rattle.pass_rules.specs.Scopes as s
use Rattle.pass_rules.specs.Scopes.{without_scopes}
use Rattle.pass_rules.specs.pass_laws.Marks.{total}
use Rattle.pass_rules.specs.state_rules.States.{with_machines}
use Rattle.pass_rules.specs.yield_rules.Yields as y
use Rattle.pass_rules.specs.yield_rules.Yields.{with_yields_flat}
use Rattle.pass_rules.proofs.pass_laws.FlatCores.{scopes_keep_law}
use Rattle.lawful_passes.specs.StatesBefore as before
use Rattle.lawful_passes.specs.Told.{function_told, part_told}
use Rattle.lawful_passes.proofs.Scoping.{scopes_keep_labels}
use Rattle.lawful_passes.proofs.StatesScoped.{flat_below}
use Rattle.lawful_passes.proofs.StatesSpilled.{states_below}
use Rattle.writable_passes.specs.Drawn.{draws, function_draws, part_draws, stats_slots}
use Rattle.writable_passes.specs.Laws.{NamesWillFit}
use Rattle.writable_passes.proofs.MachineDraws.{generator_draws, machines_drawn}
use Rattle.writable_passes.proofs.Slots.{slots_scoped}
use Rattle.writable_passes.proofs.Used.{functions_slots, parts_slots, size, yields_drawn}

function_scoped : (owners : List ℕ) (cells : List Var) (f : CoreFunction) → (function_told (s.function_flat owners cells f)).slots ≤ stats_slots f.setup + stats_slots f.body + stats_slots f.step
function_scoped owners cells f = let a = slots_scoped owners f.setup [] in let b = slots_scoped owners f.body [] in let c = slots_scoped owners f.step [] in omega arith

part_scoped : (owners : List ℕ) (p : CorePart) → (part_told (s.part_flat owners p)).slots ≤ part_draws p
part_scoped owners p = let a = slots_scoped owners p.instantiate [] in let b = slots_scoped owners p.body [] in omega arith

-- a generator's machine is made behind both flattenings
generator_before : (owners : List ℕ) (cells : List Var) (f : CoreFunction) (fresh : Fresh) → generator_draws (y.one_function (s.function_flat owners cells f) fresh).made ≤ cond (is_generator f.kind) (7 + before.stats_states f.body) 0
generator_before owners cells f fresh =
    let g = s.function_flat owners cells f in let p = y.begins (function_mentions g) fresh in
    let a = flat_below owners f.body [] in let b = states_below g.body p [] in
    by_kind (is_generator f.kind) _ (before.stats_states f.body) (omega arith)
  where
    by_kind : (b : Bool) (less most : ℕ) → less ≤ most → cond b (7 + less) 0 ≤ cond b (7 + most) 0
    by_kind true less most l = omega arith
    by_kind false less most l = omega arith

total_one : {A : Type 0} (f : A → ℕ) (xs : List A) (x : A) → total (map f (xs ++ x ∷ [])) ≡ total (map f xs) + f x
total_one f [] x = omega arith
total_one f (z ∷ xs) x = let e = total_one f xs x in omega arith

functions_before : (owners holders : List ℕ) (all : List (List Var)) (place : ℕ) (fs made : List CoreFunction) (fresh : Fresh)
    → functions_slots (s.functions_flat owners holders all place fs) + total (map generator_draws (y.all_functions (s.functions_flat owners holders all place fs) made fresh).made) ≤ total (map generator_draws made) + total (map function_draws fs)
functions_before owners holders all place [] made fresh = omega arith
functions_before owners holders all place (f ∷ fs) made fresh =
    let cells = cells_at owners holders all place in let g = y.one_function (s.function_flat owners cells f) fresh in
    let a = function_scoped owners cells f in let b = generator_before owners cells f fresh in let c = total_one generator_draws made g.made in
    let d = functions_before owners holders all (place + 1) fs (made ++ g.made ∷ []) g.fresh in omega arith

parts_before : (owners : List ℕ) (ps : List CorePart) → parts_slots (map (s.part_flat owners) ps) ≤ total (map part_draws ps)
parts_before owners [] = omega arith
parts_before owners (p ∷ ps) = let a = part_scoped owners p in let b = parts_before owners ps in omega arith

pub names_will_fit : NamesWillFit
names_will_fit hosts core h none labels room =
    let flat = without_scopes core in let spilled = with_yields_flat flat in
    let a = yields_drawn hosts flat (scopes_keep_law hosts core h none) (scopes_keep_labels core labels) in
    let b = machines_drawn spilled.functions [] spilled.fresh in
    let ms = found core in let table = owners (length core.fresh.hints) ms in
    let c = functions_before table (holders (length core.functions) ms) (all_free table [] ms) 0 core.functions [] core.fresh in let d = parts_before table core.parts in
    let e = ltb-true (size core.fresh + draws core + hosts) 18446744073709551616 room in
    lt-ltb (size (with_machines spilled).fresh + hosts) 18446744073709551616 (omega arith)
