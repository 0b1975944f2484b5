-- Labels have as much room behind the flattening of scopes, and turns have theirs behind that of yields; so all passes keep what can be written.
use Rattle.std.specs.List.{list_all}
use Rattle.std.proofs.Common.{◌≡◌, ℕ, ◌+◌, ◌≤◌, ◌<◌, Bool, true, false, not, ◌||◌, cond, nat_eq, nat_lt, length, length-append, List, [], ◌∷◌, ◌++◌, map, refl, sym, ap, arith, ◌∙◌}
use Rattle.std.proofs.lemmas.Bool.{false≢true, ltb-true, lt-ltb}
use Rattle.core_ast.specs.declared.naming.Fresh.{Fresh}
use Rattle.core_ast.specs.declared.parts.Var.{Var}
use Rattle.core_ast.specs.declared.tree.CoreStat.{CoreStat}
use Rattle.core_ast.specs.declared.whole.Core.{Core}
use Rattle.core_ast.specs.declared.whole.CoreFunction.{CoreFunction}
use Rattle.core_ast.specs.declared.whole.CorePart.{CorePart}
use Rattle.core_ast.specs.Lawful.{has_number, is_generator}
use Rattle.core_ast.specs.Mentions.{function_mentions, part_mentions}
use Rattle.emission_laws.specs.Writable as w
use Rattle.lawful_passes.specs.StatesBefore as before
use Rattle.lawful_passes.specs.Told as t
use Rattle.lawful_passes.specs.Told.{Told, function_told, part_told, stats_told}
use Rattle.lawful_passes.proofs.Labels.{has_left, has_right, or_second}
use Rattle.lawful_passes.proofs.MachineKept.{all_keep_law}
use Rattle.lawful_passes.proofs.Mentioned.{function_labels, label_below, part_labels}
use Rattle.lawful_passes.proofs.Scoping.{Less, flat_less, less_both}
use Rattle.lawful_passes.proofs.StatesScoped.{flat_below}
use Rattle.pass_rules.specs.declared.yield_rules.spilling.Place.{Place}
use Rattle.pass_rules.specs.Cells.{cells_at}
use Rattle.pass_rules.specs.Scopes as s
use Rattle.pass_rules.specs.Scopes.{without_scopes}
use Rattle.pass_rules.specs.state_rules.States.{with_machines}
use Rattle.pass_rules.specs.yield_rules.Yields as y
use Rattle.pass_rules.specs.yield_rules.Yields.{label_behind, with_yields_flat}
use Rattle.pass_rules.proofs.pass_laws.Distinct.{count}
use Rattle.pass_rules.proofs.pass_laws.Faces.{machines_keep}
use Rattle.pass_rules.proofs.pass_laws.Within.{left, right, both, more}
use Rattle.writable_passes.specs.Laws.{AllKeepWritable, ScopesKeepRoom, YieldsLeaveRoom}
use Rattle.writable_passes.specs.Ready.{ReadyMayBeEmitted}
use Rattle.writable_passes.specs.Rooms as rooms
use Rattle.writable_passes.specs.Rooms.{NamesFit, turn_fits}
use Rattle.writable_passes.proofs.Below.{Under, behind_below, stats_below, stats_under}
use Rattle.writable_passes.proofs.Fits.{Are, parted, top}
use Rattle.writable_passes.proofs.Machines.{machines_keep_writable}
use Rattle.writable_passes.proofs.Scopes.{scopes_keep_writable}
use Rattle.writable_passes.proofs.Yields.{stats_spilled_are, yields_keep_writable}

-- ## Scopes

-- a number that stands in a list is counted
counted : (i : ℕ) (xs : List ℕ) → has_number i xs ≡ true → 1 ≤ count i xs
counted i [] h = absurd (false≢true h)
counted i (x ∷ xs) h = by_first (nat_eq i x) h (counted i xs)
  where
    by_first : (c : Bool) → (c || has_number i xs) ≡ true → (has_number i xs ≡ true → 1 ≤ count i xs) → 1 ≤ cond c 1 0 + count i xs
    by_first true h f = omega arith
    by_first false h f = let a = f h in omega arith

stands : (i : ℕ) (xs : List ℕ) → 1 ≤ count i xs → has_number i xs ≡ true
stands i [] h = let z : ⊥ = omega arith in absurd z
stands i (x ∷ xs) h = by_first (nat_eq i x) h (stands i xs)
  where
    by_first : (c : Bool) → 1 ≤ cond c 1 0 + count i xs → (1 ≤ count i xs → has_number i xs ≡ true) → (c || has_number i xs) ≡ true
    by_first true h f = refl
    by_first false h f = f (omega arith)

less_under : (n : ℕ) (a b : Told) → Less a b → Under n b → Under n a
less_under n a b l u i e = let c = counted i a.labels e in let d = l.labels i in u i (stands i b.labels (omega arith))

fits_less : (less most : ℕ) → less ≤ most → rooms.fits most ≡ true → rooms.fits less ≡ true
fits_less less most l h = let a = ltb-true most 18446744073709551616 h in lt-ltb less 18446744073709551616 (omega arith)

function_room : (owners : List ℕ) (cells : List Var) (f : CoreFunction) → rooms.fits (rooms.function_behind f) ≡ true → rooms.fits (rooms.function_behind (s.function_flat owners cells f)) ≡ true
function_room owners cells f h =
    let g = s.function_flat owners cells f in let n = label_behind (function_mentions f).labels 0 in
    let l : Less (function_told g) (function_told f) = less_both _ _ _ _ (less_both _ _ _ _ (flat_less owners f.setup) (flat_less owners f.body)) (flat_less owners f.step) in
    let u : Under n (function_told f) = λ i e. label_below (function_mentions f).labels 0 i (ap (has_number i) (function_labels f) ∙ e) in
    let v = less_under n (function_told g) (function_told f) l u in
    let a = behind_below (function_mentions g).labels 0 n (omega arith) (λ i e. v i (sym (ap (has_number i) (function_labels g)) ∙ e)) in
    let b = flat_below owners f.setup [] in let c = flat_below owners f.body [] in let d = flat_below owners f.step [] in
    fits_less (rooms.function_behind g) (rooms.function_behind f) (omega arith) h

functions_room : (owners holders : List ℕ) (all : List (List Var)) (place : ℕ) (fs : List CoreFunction) → list_all (λ f. rooms.fits (rooms.function_behind f)) fs ≡ true → list_all (λ f. rooms.fits (rooms.function_behind f)) (s.functions_flat owners holders all place fs) ≡ true
functions_room owners holders all place [] h = refl
functions_room owners holders all place (f ∷ fs) h = both (function_room owners (cells_at owners holders all place) f (left _ _ h)) (functions_room owners holders all (place + 1) fs (right _ _ h))

part_room : (owners : List ℕ) (p : CorePart) → rooms.fits (rooms.part_behind p) ≡ true → rooms.fits (rooms.part_behind (s.part_flat owners p)) ≡ true
part_room owners p h =
    let g = s.part_flat owners p in let n = label_behind (part_mentions p).labels 0 in
    let l : Less (part_told g) (part_told p) = less_both _ _ _ _ (flat_less owners p.instantiate) (flat_less owners p.body) in
    let u : Under n (part_told p) = λ i e. label_below (part_mentions p).labels 0 i (ap (has_number i) (part_labels p) ∙ e) in
    let v = less_under n (part_told g) (part_told p) l u in
    let a = behind_below (part_mentions g).labels 0 n (omega arith) (λ i e. v i (sym (ap (has_number i) (part_labels g)) ∙ e)) in
    let b = flat_below owners p.instantiate [] in let c = flat_below owners p.body [] in
    fits_less (rooms.part_behind g) (rooms.part_behind p) (omega arith) h

parts_room : (owners : List ℕ) (ps : List CorePart) → list_all (λ p. rooms.fits (rooms.part_behind p)) ps ≡ true → list_all (λ p. rooms.fits (rooms.part_behind p)) (map (s.part_flat owners) ps) ≡ true
parts_room owners [] h = refl
parts_room owners (p ∷ ps) h = both (part_room owners p (left _ _ h)) (parts_room owners ps (right _ _ h))

pub scopes_keep_room : ScopesKeepRoom
scopes_keep_room core h = (functions_room _ _ _ 0 core.functions h.0, parts_room _ core.parts h.1)

-- ## Yields

under_three : (n : ℕ) (a b c : Told) → Under n a → Under n b → Under n c → Under n (t.both (t.both a b) c)
under_three n a b c h k m i e = split (a.labels ++ b.labels) c.labels (split a.labels b.labels (h i) (k i)) (m i) e
  where
    split : (xs ys : List ℕ) → (has_number i xs ≡ true → i < n) → (has_number i ys ≡ true → i < n) → has_number i (xs ++ ys) ≡ true → i < n
    split [] ys f g e = g e
    split (x ∷ xs) ys f g e = by_first (nat_eq i x) refl e (split xs ys (λ d. f (or_second (nat_eq i x) _ d)) g)
      where
        by_first : (c : Bool) → nat_eq i x ≡ c → (c || has_number i (xs ++ ys)) ≡ true → (has_number i (xs ++ ys) ≡ true → i < n) → i < n
        by_first true d e k = f (ap (λ c. c || has_number i xs) d)
        by_first false d e k = k e

turned : (n : ℕ) (ss : List CoreStat) (p : Place) → p.label + before.stats_states ss ≤ n → Under n (stats_told ss) → Are top ss → Under n (stats_told (y.stats_spilled ss p))
turned n ss p l u h = stats_under n (y.stats_spilled ss p) (stats_spilled_are n ss p l (stats_below top n ss u h) [] refl)

fits_turn : (b : Bool) (n : ℕ) → n < 18446744073709551616 → (not b || nat_lt n 18446744073709551616) ≡ true
fits_turn b n l = or_second (not b) _ (lt-ltb n 18446744073709551616 l)

function_turns : (f : CoreFunction) (fresh : Fresh) → rooms.fits (rooms.function_behind f) ≡ true → w.function_fits f ≡ true → turn_fits (y.one_function f fresh).made ≡ true
function_turns f fresh r h =
    let q = parted f h in let p = y.begins (function_mentions f) fresh in let n = rooms.function_behind f in let g = (y.one_function f fresh).made in
    let a = stats_told f.setup in let b = stats_told f.body in let c = stats_told f.step in
    let under = λ (i : ℕ) (e : has_number i (function_told f).labels ≡ true). (let z = label_below (function_mentions f).labels 0 i (ap (has_number i) (function_labels f) ∙ e) in let m : i < n = omega arith in m) in
    let u = turned n f.setup p (omega arith) (λ i e. under i (has_left i (a.labels ++ b.labels) c.labels (has_left i a.labels b.labels e))) q.setup in
    let v = turned n f.body p (omega arith) (λ i e. under i (has_left i (a.labels ++ b.labels) c.labels (has_right i a.labels b.labels e))) q.body in
    let x = turned n f.step p (omega arith) (λ i e. under i (has_right i (a.labels ++ b.labels) c.labels e)) q.step in
    let all = under_three n (stats_told g.setup) (stats_told g.body) (stats_told g.step) u v x in
    let k = behind_below (function_mentions g).labels 0 n (omega arith) (λ i e. all i (sym (ap (has_number i) (function_labels g)) ∙ e)) in
    let l = ltb-true n 18446744073709551616 r in
    fits_turn (is_generator g.kind) (label_behind (function_mentions g).labels 0) (omega arith)

functions_turn : (fs made : List CoreFunction) (fresh : Fresh) → list_all (λ f. rooms.fits (rooms.function_behind f)) fs ≡ true → list_all w.function_fits fs ≡ true → list_all turn_fits made ≡ true → list_all turn_fits (y.all_functions fs made fresh).made ≡ true
functions_turn [] made fresh r h k = k
functions_turn (f ∷ fs) made fresh r h k =
    let g = y.one_function f fresh in
    functions_turn fs (made ++ g.made ∷ []) g.fresh (right _ _ r) (right _ _ h) (more turn_fits made g.made k (function_turns f fresh (left _ _ r) (left _ _ h)))

pub yields_leave_room : YieldsLeaveRoom
yields_leave_room hosts core h r = functions_turn core.functions [] core.fresh r.0 h.0 refl

-- ## All passes

-- the names that there are before the last pass are among those behind it
names_before : (hosts : ℕ) (core : Core) → NamesFit hosts (with_machines core) → NamesFit hosts core
names_before hosts core h =
    let k = machines_keep core in let a = ap length k.names in let b = length-append core.fresh.hints k.more in
    let c = ltb-true (length (with_machines core).fresh.hints + hosts) 18446744073709551616 h in
    lt-ltb (length core.fresh.hints + hosts) 18446744073709551616 (omega arith)

pub all_keep_writable : AllKeepWritable
all_keep_writable hosts core h r names =
    let flat = without_scopes core in let spilled = with_yields_flat flat in
    let a = scopes_keep_writable hosts core h in let room = scopes_keep_room core r in
    machines_keep_writable hosts spilled (yields_keep_writable hosts flat a room (names_before hosts spilled names)) (yields_leave_room hosts flat a room) names

pub ready_may_be_emitted : ReadyMayBeEmitted
ready_may_be_emitted hosts core q names = (all_keep_law hosts core q.lawful q.without_cells q.labels q.states, all_keep_writable hosts core q.writable q.room names)
