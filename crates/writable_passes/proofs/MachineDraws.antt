-- A generator's machine draws no more names than it has states, besides those of its registers.
use Rattle.std.proofs.Common.{◌≡◌, ℕ, ◌+◌, ◌≤◌, Bool, true, false, cond, length, length-append, List, [], ◌∷◌, ◌++◌, map, Option, None, Some, refl, ap, arith, ◌∙◌}
use Rattle.core_ast.specs.declared.naming.Fresh.{Fresh}
use Rattle.core_ast.specs.declared.parts.Label.{Label}
use Rattle.core_ast.specs.declared.parts.Var.{Var}
use Rattle.core_ast.specs.declared.tree.CoreExpr.{CoreExpr}
use Rattle.core_ast.specs.declared.tree.CoreLink.{CoreLink}
use Rattle.core_ast.specs.declared.tree.CoreLink.TheOpen as layer
use Rattle.core_ast.specs.declared.tree.CoreStat.{CoreStat}
use Rattle.core_ast.specs.declared.tree.CoreStat.TheVariants as stat
use Rattle.core_ast.specs.declared.whole.CoreFunction.{CoreFunction}
use Rattle.core_ast.specs.Lawful.{is_generator}
use Rattle.core_ast.specs.Made.{undefined}
use Rattle.pass_rules.specs.declared.state_rules.states.Machine.{Machine}
use Rattle.pass_rules.specs.declared.state_rules.states.Place.{Place}
use Rattle.pass_rules.specs.declared.state_rules.states.Registers.{Registers}
use Rattle.pass_rules.specs.pass_laws.Marks.{total}
use Rattle.pass_rules.specs.state_rules.States as s
use Rattle.pass_rules.specs.state_rules.States.{Branch, Part}
use Rattle.pass_rules.specs.yield_rules.Yields.{Made}
use Rattle.pass_rules.proofs.pass_laws.Machines.{machines}
use Rattle.pass_rules.proofs.pass_laws.Related.{Relates, Keeps, Pair, Links, Stats, Exprs, link_first, link_second, stat_first, stat_second, case_first, case_second, expr_first, expr_second, of_stat, stat_related}
use Rattle.pass_rules.proofs.pass_laws.Within.{either}
use Rattle.lawful_passes.specs.States as states
use Rattle.lawful_passes.proofs.Bodies.{needs}
use Rattle.lawful_passes.proofs.Growing.{pair_size}
use Rattle.writable_passes.proofs.Used.{size}

-- no more than so many names are drawn
abbrev Draws : ℕ → (Machine → Machine) → Type 0
Draws k f = (m : Machine) → size (f m).fresh ≤ size m.fresh + k

-- none is
abbrev Same : Machine → Machine → Type 0
Same m n = n.fresh ≡ m.fresh

says_same : (x : CoreStat) (m : Machine) → Same m (s.says x m)
says_same x m = either (Same m) m.over refl refl

ends_same : (ss : List CoreStat) (m : Machine) → Same m (s.ends ss m)
ends_same ss m = either (Same m) m.over refl refl

goes_then_same : (p : Place) (n here : ℕ) (m : Machine) → Same m (s.goes_then p n here m)
goes_then_same p n here m = ends_same (s.goes p n) m

hands_out_same : (p : Place) (how : ℕ) (x : CoreExpr) (m : Machine) → Same m (s.hands_out p how x m)
hands_out_same p how x m = ends_same (s.handing p how x m.next) m

yielded_same : (p : Place) (x : CoreExpr) (kind : Option Var) (result : Var) (m : Machine) → Same m (s.yielded p x kind result m)
yielded_same p x None result m =
    let h = s.hands_out p 0 x m in let a = s.says (s.handed_on p p.registers.resumption) h in
    says_same (s.moved result p.registers.resumption.value) a ∙ says_same (s.handed_on p p.registers.resumption) h ∙ hands_out_same p 0 x m
yielded_same p x (Some kind) result m =
    let h = s.hands_out p 1 x m in let a = s.says (s.moved kind p.registers.resumption.kind) h in
    says_same (s.moved result p.registers.resumption.value) a ∙ says_same (s.moved kind p.registers.resumption.kind) h ∙ hands_out_same p 1 x m

jumped_same : (p : Place) (goes_on : Bool) (label : Option Label) (m : Machine) → Same m (s.jumped p goes_on label m)
jumped_same p goes_on None m = ends_same _ m
jumped_same p goes_on (Some l) m = ends_same _ m

tested_same : (p : Place) (after : ℕ) (test : Option CoreExpr) (m : Machine) → Same m (s.tested p after test m)
tested_same p after None m = refl
tested_same p after (Some t) m = says_same _ m

updated_same : (update : Option CoreExpr) (m : Machine) → Same m (s.updated update m)
updated_same None m = refl
updated_same (Some u) m = says_same _ m

headed_same : (p : Place) (test : Option CoreExpr) (head : ℕ) (m : Machine) → Same m (s.headed p test head m)
headed_same p test head m = let n = s.draws 3 m in tested_same p (head + 2) test (s.goes_then p head head n) ∙ goes_then_same p head head n

turned_same : (p : Place) (update : Option CoreExpr) (head : ℕ) (m : Machine) → Same m (s.turned p update head m)
turned_same p update head m =
    let n = s.goes_then p (head + 1) (head + 1) m in
    goes_then_same p head (head + 2) (s.updated update n) ∙ updated_same update n ∙ goes_then_same p (head + 1) (head + 1) m

region_same : (p : Place) (row : List CoreStat) (locals : List Var) (m : Machine) → Same m (s.region_with p row locals m)
region_same p row locals m = says_same (s.set_number p.registers.region m.regions) _

-- ## What is shown

abbrev OfLink : ℕ → CoreLink → Type 0
OfLink k x = Unit {0}

abbrev OfExpr : ℕ → CoreExpr → Type 0
OfExpr k x = Unit {0}

abbrev OfStat : ℕ → Part → Type 0
OfStat k x = (p : Place) → Draws k (x.adds p)

abbrev OfCase : ℕ → Branch → Type 0
OfCase k x = (p : Place) → Draws k (x.adds p)

abbrev relation : Relates needs machines
relation = record { Link = OfLink; Stat = OfStat; Case = OfCase; Expr = OfExpr }

add_draws : (k : ℕ) (x : Part) → OfStat k x → (p : Place) → Draws k (s.add p x)
add_draws k x h p m =
    either (λ (n : Machine). size n.fresh ≤ size m.fresh + k) (x.stays []) {x = s.says x.whole m} {y = x.adds p m} (let a = ap size (says_same x.whole m) in omega arith) (h p m)

add_all_draws : (ps : List (Pair OfStat)) (p : Place) → Draws (total (map (λ q. q.0) ps)) (s.add_all p (map (λ q. q.1) ps))
add_all_draws [] p m = omega arith
add_all_draws (q ∷ ps) p m = let a = add_draws q.0 q.1 q.2 p m in let b = add_all_draws ps p (s.add p q.1 m) in omega arith

add_cases_draw : (cs : List (Pair OfCase)) (p : Place) (falls : Bool) (after n : ℕ) → Draws (total (map (λ q. q.0) cs)) (s.add_cases p falls after n (map (λ q. q.1) cs))
add_cases_draw [] p falls after n m = omega arith
add_cases_draw (q ∷ cs) p falls after n m =
    let next = cond falls (n + 1) after in let one = q.1.adds p (s.begins n m) in
    let a = q.2 p (s.begins n m) in let b = ap size (ends_same (s.goes p next) one) in let c = add_cases_draw cs p falls after (n + 1) (s.add_case p n next q.1 m) in omega arith

-- the cases of an if, or of a switch
chosen_draws : (cs : List (Pair OfCase)) (p : Place) (falls : Bool) (choice : CoreStat) (count after first : ℕ) (m : Machine) → size (s.add_cases p falls after first (map (λ q. q.1) cs) (s.dispatching p choice count after m)).fresh ≤ size m.fresh + total (map (λ q. q.0) cs)
chosen_draws cs p falls choice count after first m =
    let a = ap size (ends_same (choice ∷ s.goes p after) (s.draws 1 (s.draws count m))) in let b = add_cases_draw cs p falls after first (s.dispatching p choice count after m) in omega arith

looped_draws : (body : List (Pair OfStat)) (p : Place) (labels : List Label) (test update : Option CoreExpr) → Draws (total (map (λ q. q.0) body)) (s.looped p labels test update (map (λ q. q.1) body))
looped_draws body p labels test update m =
    let h = s.headed p test m.next m in let q = s.under p (m.next + 2) (m.next + 1) labels in
    let a = ap size (headed_same p test m.next m) in let b = add_all_draws body q h in let c = ap size (turned_same p update m.next (s.add_all q (map (λ q. q.1) body) h)) in omega arith

labelled_draws : (body : List (Pair OfStat)) (p : Place) (label : Label) → Draws (total (map (λ q. q.0) body)) (s.labelled p label (map (λ q. q.1) body))
labelled_draws body p label m =
    let q = s.under p m.next m.next (label ∷ []) in let h = s.draws 1 m in
    let b = add_all_draws body q h in let c = ap size (goes_then_same p m.next m.next (s.add_all q (map (λ q. q.1) body) h)) in omega arith

caught_draws : (block handler : List (Pair OfStat)) (p : Place) (parameter : Var) → Draws (total (map (λ q. q.0) block) + total (map (λ q. q.0) handler)) (s.caught p (map (λ q. q.1) block) parameter (map (λ q. q.1) handler))
caught_draws block handler p parameter m =
    let g = s.guarded p parameter m in let q = s.within p m.regions p.finals in let n = m.next in
    let b = s.add_all q (map (λ q. q.1) block) g in let e = s.begins n (s.ends (s.moves p p.region (n + 1)) b) in let h = s.add_all p (map (λ q. q.1) handler) e in
    let i = ap size (region_same p (s.catching p parameter n) (parameter ∷ []) m) in let j = add_all_draws block q g in
    let k = ap size (ends_same (s.moves p p.region (n + 1)) b) in let l = add_all_draws handler p e in let o = ap size (goes_then_same p (n + 1) (n + 1) h) in omega arith

ensured_draws : (block last : List (Pair OfStat)) (p : Place) → Draws (2 + (total (map (λ q. q.0) block) + total (map (λ q. q.0) last))) (s.ensured p (map (λ q. q.1) block) (map (λ q. q.1) last))
ensured_draws block last p m =
    let c = s.pair m.fresh in let g = s.kept_region p c m in let q = s.within p m.regions (p.finals + 1) in let n = m.next in
    let b = s.add_all q (map (λ q. q.1) block) g in let e = s.begins n (s.ends (s.nothing_kept p c n) b) in let h = s.add_all p (map (λ q. q.1) last) e in let u = s.says (s.handed_on p c) h in
    let i = ap size (region_same p (s.keeping p c n) (c.kind ∷ c.value ∷ []) (record m { fresh = s.after_pair m.fresh })) in let two = pair_size m.fresh in let j = add_all_draws block q g in
    let k = ap size (ends_same (s.nothing_kept p c n) b) in let l = add_all_draws last p e in let v = ap size (says_same (s.handed_on p c) h) in let o = ap size (goes_then_same p (n + 1) (n + 1) u) in omega arith

cases_length : (cs : List (Pair OfCase)) → length (map (λ q. q.1) cs) ≡ length (map (λ q. q.0) cs)
cases_length [] = refl
cases_length (q ∷ cs) = let a = cases_length cs in omega arith

stat_draws : (z : Stats relation) → OfStat (states.stat_step (stat_first relation z)) (s.stat_step (stat_second relation z))
stat_draws (layer.Do x) p m = let a = ap size (says_same (stat.Do x.1) m) in omega arith
stat_draws (layer.If cases) p m = let a = chosen_draws cases p false (stat.If (s.dispatched p m.next (map (λ q. q.1) cases))) (length (map (λ q. q.1) cases)) (m.next + length (map (λ q. q.1) cases)) m.next m in omega arith
stat_draws (layer.Switch subject cases) p m = let a = chosen_draws cases p true (stat.Switch subject.1 (s.dispatched p m.next (map (λ q. q.1) cases))) (length (map (λ q. q.1) cases)) (m.next + length (map (λ q. q.1) cases)) m.next m in omega arith
stat_draws (layer.Loop labels None None body) p m = let a = looped_draws body p labels None None m in omega arith
stat_draws (layer.Loop labels None (Some u) body) p m = let a = looped_draws body p labels None (Some u.1) m in omega arith
stat_draws (layer.Loop labels (Some t) None body) p m = let a = looped_draws body p labels (Some t.1) None m in omega arith
stat_draws (layer.Loop labels (Some t) (Some u) body) p m = let a = looped_draws body p labels (Some t.1) (Some u.1) m in omega arith
stat_draws (layer.Labelled label body) p m = let a = labelled_draws body p label m in omega arith
stat_draws (layer.Jump goes_on label) p m = let a = ap size (jumped_same p goes_on label m) in omega arith
stat_draws (layer.Return x) p m = let a = ap size (ends_same (s.unwinds p 2 x.1) m) in omega arith
stat_draws (layer.Throw x) p m = let a = ap size (says_same (stat.Throw x.1) m) in omega arith
stat_draws (layer.TryCatch block parameter names handler) p m = let a = caught_draws block handler p parameter m in omega arith
stat_draws (layer.TryFinally block last) p m = ensured_draws block last p m
stat_draws (layer.Scoped names body) p m = add_all_draws body p m
stat_draws (layer.Yield value kind result) p m = let a = ap size (yielded_same p value.1 kind result m) in omega arith

case_draws : (test : Option (Pair OfExpr)) (body : List (Pair OfStat)) → OfCase (states.case_step (case_first relation (record { test = test; body = body }))) (s.case_step (case_second relation (record { test = test; body = body })))
case_draws None body p m = add_all_draws body p m
case_draws (Some x) body p m = add_all_draws body p m

link_none : (z : Links relation) → OfLink (states.link_step (link_first relation z)) (s.link_step (link_second relation z))
link_none z = tt

expr_none : (z : Exprs relation) → OfExpr (states.expr_step (expr_first relation z)) (s.expr_step (expr_second relation z))
expr_none z = tt

kept : Keeps relation
kept = record { link = link_none; stat = stat_draws; case = λ z. case_draws z.test z.body; expr = expr_none }

stats_draw : (ss : List CoreStat) (p : Place) → Draws (states.stats_states ss) (s.add_all p (map s.part ss))
stats_draw [] p m = omega arith
stats_draw (x ∷ ss) p m = let a = add_draws (of_stat needs x) (s.part x) (stat_related relation kept x) p m in let b = stats_draw ss p (s.add p (s.part x) m) in omega arith

-- ## Functions

machine_drawn : (r : Registers) (body : List CoreStat) (fresh : Fresh) → size (s.machine r body fresh).fresh ≤ size fresh + states.stats_states body
machine_drawn r body fresh =
    let p = s.outermost r in let b = s.add_all p (map s.part body) (s.started r fresh) in
    let a = stats_draw body p (s.started r fresh) in let c = ap size (ends_same (s.unwinds p 2 undefined) b) in omega arith

seven : (fresh : Fresh) → size (s.after_registers fresh) ≡ size fresh + 7
seven fresh =
    let f2 = s.after_pair fresh in let f4 = s.after_pair f2 in let f6 = s.after_pair f4 in
    let a = pair_size fresh in let b = pair_size f2 in let c = pair_size f4 in let d = length-append f6.hints (None ∷ []) in omega arith

abbrev pub generator_draws : CoreFunction → ℕ
generator_draws f = cond (is_generator f.kind) (7 + states.stats_states f.body) 0

function_drawn : (f : CoreFunction) (fresh : Fresh) → size (s.one_function f fresh).fresh ≤ size fresh + generator_draws f
function_drawn f fresh = by_kind (is_generator f.kind)
  where
    made_by : Bool → Made CoreFunction
    made_by b = cond b (s.generator f fresh) (record { made = f; fresh = fresh })

    by_kind : (b : Bool) → size (made_by b).fresh ≤ size fresh + cond b (7 + states.stats_states f.body) 0
    by_kind true = let a = machine_drawn (s.registers fresh (s.turn_label f)) f.body (s.after_registers fresh) in let b = seven fresh in omega arith
    by_kind false = omega arith

pub machines_drawn : (fs made : List CoreFunction) (fresh : Fresh) → size (s.all_functions fs made fresh).fresh ≤ size fresh + total (map generator_draws fs)
machines_drawn [] made fresh = omega arith
machines_drawn (f ∷ fs) made fresh = let g = s.one_function f fresh in let a = function_drawn f fresh in let b = machines_drawn fs (made ++ g.made ∷ []) g.fresh in omega arith
