-- machines: the body of each generator function becomes states, and its step runs them until a value is handed out. A statement
-- stays as it is where no yield, no return and no jump leaves it; each other ends the state that is open and begins new ones. Blocks
-- of a try are regions, and one unwinder hands a completion from region to region. A fold over the four types.
use Rattle.std.specs.Prelude.{ℕ, ◌+◌, Bool, true, false, cond, ◌&&◌, nat_eq, length, List, [], ◌∷◌, ◌++◌, map, Option, None, Some}
use Rattle.std.specs.List.{list_all}
use Rattle.core_ast.specs.declared.naming.Fresh.{Fresh}
use Rattle.core_ast.specs.declared.parts.Var.{Var}
use Rattle.core_ast.specs.declared.parts.Label.{Label}
use Rattle.core_ast.specs.declared.parts.Binary.TheVariants.{Add, NotSame}
use Rattle.core_ast.specs.declared.parts.Unary.TheVariants.{Not}
use Rattle.core_ast.specs.declared.parts.CoreHead.TheVariants as head
use Rattle.core_ast.specs.declared.parts.CoreOp.TheVariants as op
use Rattle.core_ast.specs.declared.parts.Primitive.TheVariants.{GeneratorMake}
use Rattle.core_ast.specs.declared.tree.CoreExpr.{CoreExpr, fold-CoreExpr}
use Rattle.core_ast.specs.declared.tree.CoreCase.{CoreCase, fold-CoreCase}
use Rattle.core_ast.specs.declared.tree.CoreLink.{CoreLink, fold-CoreLink}
use Rattle.core_ast.specs.declared.tree.CoreLink.TheVariants as link
use Rattle.core_ast.specs.declared.tree.CoreStat.{CoreStat, fold-CoreStat}
use Rattle.core_ast.specs.declared.tree.CoreStat.TheVariants as stat
use Rattle.core_ast.specs.declared.tree.CoreLink.TheOpen as layer
use Rattle.core_ast.specs.declared.tree.CoreLink.TheOpen.{CoreLink-F, CoreStat-F, CoreCase-F, CoreExpr-F}
use Rattle.core_ast.specs.declared.whole.Core.{Core}
use Rattle.core_ast.specs.declared.whole.CoreFunction.{CoreFunction}
use Rattle.core_ast.specs.Lawful.{has_label, is_generator}
use Rattle.core_ast.specs.Mentions.{function_mentions}
use Rattle.core_ast.specs.Made.{act, acting, expression, linked, undefined, variable}
use Rattle.core_ast.specs.Names.{next, with_hint}
use Rattle.pass_rules.specs.yield_rules.Yields.{Made, case_of, is_same, label_behind, number, two, when}
use Rattle.pass_rules.specs.declared.state_rules.states.Completion.{Completion}
use Rattle.pass_rules.specs.declared.state_rules.states.Machine.{Machine}
use Rattle.pass_rules.specs.declared.state_rules.states.Place.{Place}
use Rattle.pass_rules.specs.declared.state_rules.states.Registers.{Registers}
use Rattle.pass_rules.specs.declared.state_rules.states.Target.{Target}

-- ---- small statements

abbrev pub set : Var → CoreExpr → CoreStat
set x e = stat.Do (linked e (act (op.Set x)))

abbrev pub set_number : Var → ℕ → CoreStat
set_number x n = set x (number n)

abbrev pub moved : Var → Var → CoreStat
moved x y = set x (variable y)

abbrev pub holds_number : Var → ℕ → CoreExpr
holds_number x n = is_same (variable x) (number n)

-- what a step gives: how it ends (0 hands a value out, 1 hands a result object out as it is, 2 returns), and the value
abbrev pub given : ℕ → CoreExpr → CoreStat
given how x = stat.Return (expression None head.ArgumentList (acting op.Element (number how) ∷ acting op.Element x ∷ []))

-- ---- where a state goes on

abbrev pub again : Place → CoreStat
again p = stat.Jump true (Some p.registers.turn)

abbrev pub goes : Place → ℕ → List CoreStat
goes p n = set_number p.registers.state n ∷ again p ∷ []

-- to a state of another region
abbrev pub moves : Place → ℕ → ℕ → List CoreStat
moves p region n = set_number p.registers.region region ∷ goes p n

abbrev pub goes_to : Place → ℕ → ℕ → List CoreStat
goes_to p region n = cond (nat_eq region p.region) (goes p n) (moves p region n)

-- a completion is under way
abbrev pub unwinds : Place → ℕ → CoreExpr → List CoreStat
unwinds p kind x = set p.registers.ending.value x ∷ set_number p.registers.ending.kind kind ∷ again p ∷ []

abbrev pub is_there : Completion → CoreExpr
is_there c = two (variable c.kind) (op.Operator NotSame) (number 0)

abbrev pub handed_on : Place → Completion → CoreStat
handed_on p c = when (is_there c) (moved p.registers.ending.kind c.kind ∷ moved p.registers.ending.value c.value ∷ again p ∷ [])

-- ---- the machine so far: nothing is said behind a jump

abbrev pub says : CoreStat → Machine → Machine
says s m = cond m.over m (record m { stats = m.stats ++ s ∷ [] })

abbrev pub ends : List CoreStat → Machine → Machine
ends ss m = cond m.over m (record m { stats = m.stats ++ ss; over = true })

-- the state that was open is done, and this one is open
abbrev pub begins : ℕ → Machine → Machine
begins n m = record m { states = m.states ++ case_of (Some (number m.here)) m.stats ∷ []; here = n; stats = []; over = false }

abbrev pub draws : ℕ → Machine → Machine
draws n m = record m { next = m.next + n }

abbrev pub goes_then : Place → ℕ → ℕ → Machine → Machine
goes_then p n here m = begins here (ends (goes p n) m)

-- ---- yields: a state ends, and the next one takes the resumption (a delegating one of any kind)

abbrev pub handing : Place → ℕ → CoreExpr → ℕ → List CoreStat
handing p how x n = set_number p.registers.state n ∷ given how x ∷ []

abbrev pub hands_out : Place → ℕ → CoreExpr → Machine → Machine
hands_out p how x m = begins m.next (draws 1 (ends (handing p how x m.next) m))

abbrev pub yielded : Place → CoreExpr → Option Var → Var → Machine → Machine
yielded p x None result m =
    says (moved result p.registers.resumption.value) (says (handed_on p p.registers.resumption) (hands_out p 0 x m))
yielded p x (Some kind) result m =
    says (moved result p.registers.resumption.value) (says (moved kind p.registers.resumption.kind) (hands_out p 1 x m))

-- ---- jumps: one that no finally is told of goes straight on

abbrev pub found : Label → List Target → Option Target
found l [] = None
found l (t ∷ ts) = cond (nat_eq t.label.0 l.0) (Some t) (found l ts)

abbrev pub state_of : Bool → Target → ℕ
state_of goes_on t = cond goes_on t.goes_on t.leaves

abbrev pub reaches : Place → ℕ → Target → List CoreStat
reaches p n t = cond (nat_eq t.finals p.finals) (goes_to p t.region n) (unwinds p (t.region + 3) (number n))

abbrev pub jumps_to : Place → Bool → Label → Option Target → List CoreStat
jumps_to p goes_on l None = stat.Jump goes_on (Some l) ∷ []
jumps_to p goes_on l (Some t) = reaches p (state_of goes_on t) t

abbrev pub jumped : Place → Bool → Option Label → Machine → Machine
jumped p goes_on None m = ends (stat.Jump goes_on None ∷ []) m
jumped p goes_on (Some l) m = ends (jumps_to p goes_on l (found l p.targets)) m

abbrev pub target : Place → ℕ → ℕ → Label → Target
target p leaves goes_on l = record { label = l; region = p.region; finals = p.finals; leaves = leaves; goes_on = goes_on }

abbrev pub under : Place → ℕ → ℕ → List Label → Place
under p leaves goes_on ls = record p { targets = p.targets ++ map (target p leaves goes_on) ls }

-- ---- what the fold gives of a statement and of a case: itself, whether it stays as it is inside statements with these labels, and
-- what it adds to a machine

abbrev pub Adds : Type 0
Adds = Place → Machine → Machine

pub record Part : Type 0 where
  pub whole : CoreStat
  pub stays : List Label → Bool
  pub adds : Adds

pub record Branch : Type 0 where
  pub whole : CoreCase
  pub test : Option CoreExpr
  pub stays : List Label → Bool
  pub adds : Adds

abbrev pub Layer : (Type 0 → Type 0 → Type 0 → Type 0 → Type 0) → Type 0
Layer Of = Of CoreLink Part Branch CoreExpr

abbrev pub wholes : List Part → List CoreStat
wholes xs = map (λ x. x.whole) xs

abbrev pub whole_cases : List Branch → List CoreCase
whole_cases xs = map (λ x. x.whole) xs

abbrev pub all_stay : List Part → List Label → Bool
all_stay xs inside = list_all (λ x. x.stays inside) xs

abbrev pub cases_stay : List Branch → List Label → Bool
cases_stay xs inside = list_all (λ x. x.stays inside) xs

abbrev pub add : Place → Part → Machine → Machine
add p x m = cond (x.stays []) (says x.whole m) (x.adds p m)

abbrev pub add_all : Place → List Part → Machine → Machine
add_all p [] m = m
add_all p (x ∷ xs) m = add_all p xs (add p x m)

-- ---- cases: each has a state, behind which an if goes on after it, and a switch with the next

abbrev pub dispatched : Place → ℕ → List Branch → List CoreCase
dispatched p n [] = []
dispatched p n (c ∷ cs) = case_of c.test (goes p n) ∷ dispatched p (n + 1) cs

abbrev pub add_case : Place → ℕ → ℕ → Branch → Machine → Machine
add_case p n next c m = ends (goes p next) (c.adds p (begins n m))

abbrev pub add_cases : Place → Bool → ℕ → ℕ → List Branch → Machine → Machine
add_cases p falls after n [] m = m
add_cases p falls after n (c ∷ cs) m =
    add_cases p falls after (n + 1) cs (add_case p n (cond falls (n + 1) after) c m)

abbrev pub dispatching : Place → CoreStat → ℕ → ℕ → Machine → Machine
dispatching p choice count after m = ends (choice ∷ goes p after) (draws 1 (draws count m))

abbrev pub chosen : Place → List Branch → Machine → Machine
chosen p cs m =
    let after = m.next + length cs in
    begins after (add_cases p false after m.next cs
    (dispatching p (stat.If (dispatched p m.next cs)) (length cs) after m))

abbrev pub switched : Place → CoreExpr → List Branch → Machine → Machine
switched p subject cs m =
    let after = m.next + length cs in
    begins after (add_cases p true after m.next cs
    (dispatching p (stat.Switch subject (dispatched p m.next cs)) (length cs) after m))

-- ---- loops: a state for the test and the body, one for the update, and one behind

abbrev pub tested : Place → ℕ → Option CoreExpr → Machine → Machine
tested p after None m = m
tested p after (Some t) m = says (when (linked t (act (op.Unary Not))) (goes p after)) m

abbrev pub updated : Option CoreExpr → Machine → Machine
updated None m = m
updated (Some u) m = says (stat.Do u) m

abbrev pub headed : Place → Option CoreExpr → ℕ → Machine → Machine
headed p test head m = tested p (head + 2) test (goes_then p head head (draws 3 m))

abbrev pub turned : Place → Option CoreExpr → ℕ → Machine → Machine
turned p update head m = goes_then p head (head + 2) (updated update (goes_then p (head + 1) (head + 1) m))

abbrev pub looped : Place → List Label → Option CoreExpr → Option CoreExpr → List Part → Machine → Machine
looped p labels test update body m =
    turned p update m.next (add_all (under p (m.next + 2) (m.next + 1) labels) body (headed p test m.next m))

abbrev pub labelled : Place → Label → List Part → Machine → Machine
labelled p l body m = goes_then p m.next m.next (add_all (under p m.next m.next (l ∷ [])) body (draws 1 m))

-- ---- regions: a handler's takes a throw, and hands on all else; one with a finally keeps the completion, and the end of the
-- finally hands it on

abbrev pub within : Place → ℕ → ℕ → Place
within p region finals = record p { region = region; finals = finals }

abbrev pub region_with : Place → List CoreStat → List Var → Machine → Machine
region_with p row locals m = says (set_number p.registers.region m.regions) (record m {
  next = m.next + 2;
  rows = m.rows ++ case_of (Some (number m.regions)) row ∷ [];
  regions = m.regions + 1;
  locals = m.locals ++ locals;
})

abbrev pub takes_throw : Place → Var → ℕ → CoreStat
takes_throw p parameter handler = when (holds_number p.registers.ending.kind 1)
    (set_number p.registers.ending.kind 0 ∷ moved parameter p.registers.ending.value ∷ set_number p.registers.state handler ∷ [])

abbrev pub catching : Place → Var → ℕ → List CoreStat
catching p parameter handler =
    set_number p.registers.region p.region ∷ takes_throw p parameter handler ∷ again p ∷ []

abbrev pub guarded : Place → Var → Machine → Machine
guarded p parameter m = region_with p (catching p parameter m.next) (parameter ∷ []) m

abbrev pub handled : Place → List Part → ℕ → Machine → Machine
handled p handler n m =
    goes_then p (n + 1) (n + 1) (add_all p handler (begins n (ends (moves p p.region (n + 1)) m)))

abbrev pub caught : Place → List Part → Var → List Part → Machine → Machine
caught p block parameter handler m =
    handled p handler m.next (add_all (within p m.regions p.finals) block (guarded p parameter m))

-- two names
abbrev pub pair : Fresh → Completion
pair fresh = record { kind = next fresh; value = next (with_hint None fresh) }

abbrev pub after_pair : Fresh → Fresh
after_pair fresh = with_hint None (with_hint None fresh)

abbrev pub keeping : Place → Completion → ℕ → List CoreStat
keeping p kept last =
    moved kept.kind p.registers.ending.kind ∷ moved kept.value p.registers.ending.value
    ∷ set_number p.registers.ending.kind 0 ∷ moves p p.region last

abbrev pub kept_region : Place → Completion → Machine → Machine
kept_region p kept m =
    region_with p (keeping p kept m.next) (kept.kind ∷ kept.value ∷ []) (record m { fresh = after_pair m.fresh })

abbrev pub nothing_kept : Place → Completion → ℕ → List CoreStat
nothing_kept p kept n = set_number kept.kind 0 ∷ moves p p.region n

abbrev pub finished : Place → Completion → List Part → ℕ → Machine → Machine
finished p kept last n m =
    goes_then p (n + 1) (n + 1) (says (handed_on p kept)
    (add_all p last (begins n (ends (nothing_kept p kept n) m))))

abbrev pub ensured : Place → List Part → List Part → Machine → Machine
ensured p block last m =
    finished p (pair m.fresh) last m.next
    (add_all (within p m.regions (p.finals + 1)) block (kept_region p (pair m.fresh) m))

-- ---- the walk

abbrev pub link_step : Layer CoreLink-F → CoreLink
link_step (layer.Strict o parts site) = link.Strict o parts site
link_step (layer.Lazy w taken other) = link.Lazy w taken other
link_step (layer.Run body) = link.Run (wholes body)

abbrev pub expr_step : Layer CoreExpr-F → CoreExpr
expr_step x = expression x.site x.head x.links

abbrev pub case_step : Layer CoreCase-F → Branch
case_step x = record {
  whole = case_of x.test (wholes x.body);
  test = x.test;
  stays = λ inside. all_stay x.body inside;
  adds = λ p m. add_all p x.body m;
}

abbrev pub whole_stat : Layer CoreStat-F → CoreStat
whole_stat (layer.Do x) = stat.Do x
whole_stat (layer.If cases) = stat.If (whole_cases cases)
whole_stat (layer.Switch subject cases) = stat.Switch subject (whole_cases cases)
whole_stat (layer.Loop labels test update body) = stat.Loop labels test update (wholes body)
whole_stat (layer.Labelled l body) = stat.Labelled l (wholes body)
whole_stat (layer.Jump goes_on l) = stat.Jump goes_on l
whole_stat (layer.Return x) = stat.Return x
whole_stat (layer.Throw x) = stat.Throw x
whole_stat (layer.TryCatch block parameter names handler) = stat.TryCatch (wholes block) parameter names (wholes handler)
whole_stat (layer.TryFinally block last) = stat.TryFinally (wholes block) (wholes last)
whole_stat (layer.Scoped names body) = stat.Scoped names (wholes body)
whole_stat (layer.Yield value kind result) = stat.Yield value kind result

abbrev pub jump_stays : Option Label → List Label → Bool
jump_stays None inside = true
jump_stays (Some l) inside = has_label l inside

abbrev pub stays : Layer CoreStat-F → List Label → Bool
stays (layer.Do x) inside = true
stays (layer.If cases) inside = cases_stay cases inside
stays (layer.Switch subject cases) inside = cases_stay cases inside
stays (layer.Loop labels test update body) inside = all_stay body (labels ++ inside)
stays (layer.Labelled l body) inside = all_stay body (l ∷ inside)
stays (layer.Jump goes_on l) inside = jump_stays l inside
stays (layer.Return x) inside = false
stays (layer.Throw x) inside = true
stays (layer.TryCatch block parameter names handler) inside = all_stay block inside && all_stay handler inside
stays (layer.TryFinally block last) inside = all_stay block inside && all_stay last inside
stays (layer.Scoped names body) inside = all_stay body inside
stays (layer.Yield value kind result) inside = false

abbrev pub adds : Layer CoreStat-F → Adds
adds (layer.Do x) p m = says (stat.Do x) m
adds (layer.If cases) p m = chosen p cases m
adds (layer.Switch subject cases) p m = switched p subject cases m
adds (layer.Loop labels test update body) p m = looped p labels test update body m
adds (layer.Labelled l body) p m = labelled p l body m
adds (layer.Jump goes_on l) p m = jumped p goes_on l m
adds (layer.Return x) p m = ends (unwinds p 2 x) m
adds (layer.Throw x) p m = says (stat.Throw x) m
adds (layer.TryCatch block parameter names handler) p m = caught p block parameter handler m
adds (layer.TryFinally block last) p m = ensured p block last m
adds (layer.Scoped names body) p m = add_all p body m
adds (layer.Yield value kind result) p m = yielded p value kind result m

abbrev pub stat_step : Layer CoreStat-F → Part
stat_step x = record { whole = whole_stat x; stays = λ inside. stays x inside; adds = λ p m. adds x p m }

abbrev pub expr_whole : CoreExpr → CoreExpr
expr_whole = fold-CoreExpr CoreLink Part Branch CoreExpr link_step stat_step case_step expr_step

abbrev pub link_whole : CoreLink → CoreLink
link_whole = fold-CoreLink CoreLink Part Branch CoreExpr link_step stat_step case_step expr_step

abbrev pub part : CoreStat → Part
part = fold-CoreStat CoreLink Part Branch CoreExpr link_step stat_step case_step expr_step

abbrev pub branch : CoreCase → Branch
branch = fold-CoreCase CoreLink Part Branch CoreExpr link_step stat_step case_step expr_step

abbrev pub add_stats : Place → List CoreStat → Machine → Machine
add_stats p stats m = add_all p (map part stats) m

-- ---- a function: the names of its registers are new, and its label is behind those that stand in it

abbrev pub registers : Fresh → Label → Registers
registers fresh turn =
    let f2 = after_pair fresh in
    let f4 = after_pair f2 in
    record {
      resumption = pair fresh;
      ending = pair f2;
      state = next f4;
      region = next (with_hint None f4);
      thrown = next (after_pair f4);
      turn = turn;
    }

abbrev pub after_registers : Fresh → Fresh
after_registers fresh = with_hint None (after_pair (after_pair (after_pair fresh)))

abbrev pub turn_label : CoreFunction → Label
turn_label f = record { 0 = label_behind (function_mentions f).labels 0 }

abbrev pub outermost : Registers → Place
outermost r = record { registers = r; region = 0; finals = 0; targets = [] }

-- the function's own region throws or returns
abbrev pub last_row : Registers → CoreCase
last_row r = case_of (Some (number 0))
    (when (holds_number r.ending.kind 1) (stat.Throw (variable r.ending.value) ∷ []) ∷ given 2 (variable r.ending.value) ∷ [])

-- the state 0 is open
abbrev pub started : Registers → Fresh → Machine
started r fresh = record {
  states = [];
  here = 0;
  stats = [];
  over = false;
  next = 1;
  rows = last_row r ∷ [];
  regions = 1;
  locals = r.ending.kind ∷ r.ending.value ∷ r.state ∷ r.region ∷ [];
  fresh = fresh;
}

abbrev pub machine_of : Registers → List Part → Fresh → Machine
machine_of r body fresh =
    let p = outermost r in
    begins 0 (ends (unwinds p 2 undefined) (add_all p body (started r fresh)))

abbrev pub machine : Registers → List CoreStat → Fresh → Machine
machine r body fresh = machine_of r (map part body) fresh

-- ---- the step: a completion under way arrives, or its region's row takes it, and then the next state runs; what is thrown is a
-- completion, unless the function's own region throws it

abbrev pub has_arrived : Registers → CoreExpr
has_arrived r = is_same (variable r.ending.kind) (two (variable r.region) (op.Operator Add) (number 3))

abbrev pub arrival : Registers → CoreStat
arrival r = when (has_arrived r)
    (moved r.state r.ending.value ∷ set_number r.ending.kind 0 ∷ again (outermost r) ∷ [])

abbrev pub unwinder : Registers → List CoreCase → CoreStat
unwinder r rows = when (is_there r.ending) (arrival r ∷ stat.Switch (variable r.region) rows ∷ [])

abbrev pub passed_on : Registers → CoreStat
passed_on r = when (holds_number r.ending.kind 1)
    (when (holds_number r.region 0) (stat.Throw (variable r.thrown) ∷ []) ∷ [])

abbrev pub caught_step : Registers → List CoreStat
caught_step r = passed_on r ∷ moved r.ending.value r.thrown ∷ set_number r.ending.kind 1 ∷ []

abbrev pub guarded_step : Registers → List CoreCase → List CoreCase → CoreStat
guarded_step r rows states =
    stat.TryCatch (unwinder r rows ∷ stat.Switch (variable r.state) states ∷ []) r.thrown [] (caught_step r)

abbrev pub step : Registers → List CoreCase → List CoreCase → List CoreStat
step r rows states = stat.Loop (r.turn ∷ []) None None (guarded_step r rows states ∷ []) ∷ []

-- the body makes the generator, whose machine is at the state 0
abbrev pub making : Registers → List CoreStat
making r =
    set_number r.ending.kind 0 ∷ set_number r.state 0 ∷ set_number r.region 0
    ∷ stat.Return (expression None (head.Primitive GeneratorMake) []) ∷ []

abbrev pub with_machine : CoreFunction → Registers → Machine → CoreFunction
with_machine f r m = record f {
  locals = f.locals ++ m.locals;
  body = making r;
  resumption = Some (record { kind = r.resumption.kind; value = r.resumption.value });
  step = step r m.rows m.states;
}

abbrev pub generator : CoreFunction → Fresh → Made CoreFunction
generator f fresh =
    let r = registers fresh (turn_label f) in
    let m = machine r f.body (after_registers fresh) in
    record { made = with_machine f r m; fresh = m.fresh }

abbrev pub one_function : CoreFunction → Fresh → Made CoreFunction
one_function f fresh = cond (is_generator f.kind) (generator f fresh) (record { made = f; fresh = fresh })

abbrev pub all_functions : List CoreFunction → List CoreFunction → Fresh → Made (List CoreFunction)
all_functions [] made fresh = record { made = made; fresh = fresh }
all_functions (f ∷ fs) made fresh =
    let m = one_function f fresh in
    all_functions fs (made ++ m.made ∷ []) m.fresh

abbrev pub with_machines : Core → Core
with_machines core =
    let fs = all_functions core.functions [] core.fresh in
    record core { functions = fs.made; fresh = fs.fresh }
