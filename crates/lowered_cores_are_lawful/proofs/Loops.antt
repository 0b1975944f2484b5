-- `for`, for-of and `switch` are lowered to lawful ones, where their parts are.
use Rattle.std.specs.List.{list_all}
use Rattle.std.proofs.Common.{◌≡◌, ℕ, Bool, true, false, nat_lt, List, [], ◌∷◌, ◌++◌, Option, None, Some, refl, arith}
use Rattle.es6_static_semantics.specs.Findings.{joined}
use Rattle.core_ast.specs.declared.parts.ScopedName.{ScopedName}
use Rattle.core_ast.specs.declared.tree.CoreCase.{CoreCase, roll-CoreCase}
use Rattle.core_ast.specs.declared.tree.CoreExpr.{CoreExpr}
use Rattle.core_ast.specs.declared.tree.CoreStat.{CoreStat}
use Rattle.core_ast.specs.Lawful.{Round, in_loop, is_new, names_drawn, under}
use Rattle.lowering_laws.specs.InRound.{AreLawful, IsLawful, case_lawful, declared_lawful, if_lawful}
use Rattle.lowering_laws.specs.Statements.{IterationIsDrawn}
use Rattle.lowering_laws.proofs.Statements.{for_is_lawful, for_of_is_lawful, switches_are_lawful}
use Rattle.lawful_passes.proofs.Far.{case_is, default_is}
use Rattle.lowering_rules.specs.Naming.{drawn_iteration}
use Rattle.lowering_rules.specs.statement_rules.Statements.{exit_label}
use Rattle.module_lowering.specs.Bindings.{Bindings}
use Rattle.module_lowering.specs.Expressions.{optional, valued}
use Rattle.module_lowering.specs.Functions.{all_hoisted}
use Rattle.module_lowering.specs.Lowering.{drawing, each_by, option, raw, temporary}
use Rattle.module_lowering.specs.Names.{scoped_names}
use Rattle.module_lowering.specs.Nodes.{Cased, Exited, Expressed, ForBegun, ForTargeted, Stated}
use Rattle.module_lowering.specs.Statements as m
use Rattle.module_lowering.specs.declared.context.Context.{Context}
use Rattle.module_lowering.specs.declared.context.Dead.{Dead}
use Rattle.module_lowering.specs.declared.context.JumpForm.TheVariants.{Cases, Turns}
use Rattle.module_lowering.specs.declared.context.JumpTarget.{JumpTarget}
use Rattle.pass_rules.proofs.pass_laws.Within.{left, right, both}
use Rattle.lowered_cores_are_lawful.specs.Nodes.{CasedIs, ForTargetedIs, HoistedIs, Reaches, StatedIs, TargetIs, TargetsAre, VarIs, form_stands, stands}
use Rattle.lowered_cores_are_lawful.specs.Standing.{AllOf, Every, IfOf, IfThere, Makes, Of, Stands, dead_drawn, held, here, size}
use Rattle.lowered_cores_are_lawful.proofs.Expressions.{optional_is, valued_is}
use Rattle.lowered_cores_are_lawful.proofs.Flow.{cases_grow}
use Rattle.lowered_cores_are_lawful.proofs.Making.{Grows, after, all_grow, declared_grow, each_by_is, exprs_grow, giving, if_grow, later, list_both, option_is, raw_is, stats_both, stats_grow, temporary_is, vars_grow}
use Rattle.lowered_cores_are_lawful.proofs.Naming.{scopes_drawn}
use Rattle.lowered_cores_are_lawful.proofs.Patterns.{iteration_grows, iteration_is}
use Rattle.lowered_cores_are_lawful.proofs.Statements.{all_hoisted_is, every_both, if_some, label_first, loop_is, loop_targets, pending, running_is, settled}

-- ## `for`

in_loop_there : (r : Round) (at : ℕ) → form_stands (exit_label at ∷ r.labels) (exit_label at ∷ r.loops) at (Turns false) ≡ true
in_loop_there r at = both (label_first (exit_label at) r.labels) (label_first (exit_label at) r.loops)

abbrev IfLawful : Round → Option CoreExpr → Type 0
IfLawful = Of (λ q x. if_lawful x q)

optional_made : (b : Bindings) (c : Context) (r : Round) (x : Option Expressed) → IfThere (Reaches b c r) x → Makes IfLawful b c r (option (optional x))
optional_made b c r x h s k = let y = option (optional x) b c s in let q = option_is IsLawful b c r (optional x) (optional_is b c r x h) s k in giving (IfOf IsLawful) IfLawful b c r s y y.0 q (if_some (here y.1 r) y.0 q.lawful)

pub for_is : (b : Bindings) (c : Context) (r : Round) (at : ℕ) (first : ForBegun) (test update : Option Expressed) (body : Stated) → is_new r (exit_label at) ≡ true
    → (let e : Exited = record { at = at; form = Turns false } in let c1 = m.targeting None e c in Makes AreLawful b c1 r first.statements → IfThere (Reaches b c1 r) test → IfThere (Reaches b c1 r) update → StatedIs b c1 (in_loop (exit_label at ∷ []) r) body
    → StatedIs b c r (m.loop at false (first.variables ++ body.listed.variables) (m.for_lowered at first test update body)))
for_is b c r at first test update body new h d u i =
    let e : Exited = record { at = at; form = Turns false } in let c1 = m.targeting None e c in let l = exit_label at in let r1 = in_loop (l ∷ []) r in
    loop_is b c r at false (first.variables ++ body.listed.variables) (m.for_lowered at first test update body)
    (λ t s k. let names = scoped_names first.lexicals b c1 in
    let w = first.statements b c1 s in let p1 = h s k in
    let x = option (optional test) b c1 w.1 in let p2 = optional_made b c1 r test d w.1 p1.stands in
    let y = option (optional update) b c1 x.1 in let p3 = optional_made b c1 r update u x.1 p2.stands in
    let z = body.listed.statements b c1 y.1 in let p4 = i.statements (loop_targets r (l ∷ []) at (Turns false) c.targets (in_loop_there r at) t) y.1 p3.stands in
    record {
      names = let a = p1.names in let f = p2.names in let g = p3.names in let o = p4.names in omega arith;
      functions = let a = p1.functions in let f = p2.functions in let g = p3.functions in let o = p4.functions in omega arith;
      stands = p4.stands;
      lawful = for_is_lawful (here z.1 r) (record { names = names; first = w.0; turns = record { label = l; test = x.0; update = y.0; body = z.0 } })
          (scopes_drawn b c1 r.hosts first.lexicals (here z.1 r) p4.stands.bindings)
          (stats_grow (here y.1 r) (size z.1) (held z.1) w.0 p4.names p4.functions (later AreLawful IfLawful b c1 r x.1 w.0 y stats_grow p3 (later AreLawful IfLawful b c1 r w.1 w.0 x stats_grow p2 p1.lawful)))
          new
          (if_grow (here y.1 r) (size z.1) (held z.1) x.0 p4.names p4.functions (later IfLawful IfLawful b c1 r x.1 x.0 y if_grow p3 p2.lawful))
          (if_grow (here y.1 r) (size z.1) (held z.1) y.0 p4.names p4.functions p3.lawful)
          p4.lawful;
    })

-- ## for-of: while its subject is evaluated other variables stand for the names of its head

abbrev DeadIs : Round → Dead → Bool
DeadIs q d = nat_lt d.stand_in.0 q.names

dead_grows : Grows (Of DeadIs)
dead_grows q n g d l k h = vars_grow q n g d.stand_in l k h

dead_name_is : (b : Bindings) (c : Context) (r : Round) (n : ScopedName) → Makes (Of DeadIs) b c r (m.dead_name n)
dead_name_is b c r n s k = let x = raw b c s in let q = raw_is b c r s k in giving VarIs (Of DeadIs) b c r s x (record { name = n.var; stand_in = x.0 }) q q.lawful

dead_names_are : (b : Bindings) (c : Context) (r : Round) (ns : List ScopedName) → Every (λ n. Makes (Of DeadIs) b c r (m.dead_name n)) ns
dead_names_are b c r [] = tt
dead_names_are b c r (n ∷ ns) = (dead_name_is b c r n, dead_names_are b c r ns)

stand_ins_drawn : (q : Round) (ns : List ScopedName) (ds : List Dead) → list_all (DeadIs q) ds ≡ true → names_drawn (m.stand_ins ns ds) q ≡ true
stand_ins_drawn q [] ds h = refl
stand_ins_drawn q (n ∷ ns) [] h = refl
stand_ins_drawn q (n ∷ ns) (d ∷ ds) h = both (left _ _ h) (stand_ins_drawn q ns ds (right _ _ h))

dead_left : (n : ℕ) (xs ys : List Dead) → dead_drawn n (xs ++ ys) ≡ true → dead_drawn n ys ≡ true
dead_left n [] ys h = h
dead_left n (x ∷ xs) ys h = dead_left n xs ys (right _ _ h)

pub for_of_is : (b : Bindings) (c : Context) (r : Round) (at : ℕ) (target : ForTargeted) (subject : Expressed) (body : Stated) → is_new r (exit_label at) ≡ true
    → (let e : Exited = record { at = at; form = Turns false } in let c1 = m.targeting None e c in let r1 = in_loop (exit_label at ∷ []) r in
    ForTargetedIs b c1 r1 target → ((ds : List Dead) → Reaches b (m.in_subject ds c1) r subject) → StatedIs b c1 r1 body
    → StatedIs b c r (m.loop at false (target.variables ++ body.listed.variables) (m.for_of_lowered at target subject body)))
for_of_is b c r at target subject body new h d u =
    let e : Exited = record { at = at; form = Turns false } in let c1 = m.targeting None e c in let l = exit_label at in let r1 = in_loop (l ∷ []) r in
    loop_is b c r at false (target.variables ++ body.listed.variables) (m.for_of_lowered at target subject body)
    (λ t s k. let names = scoped_names target.lexicals b c1 in
    let i = drawing drawn_iteration b c1 s in let p1 = iteration_is b c1 r s k in
    let ds = each_by m.dead_name names b c1 i.1 in let p2 = each_by_is DeadIs b c1 r dead_grows m.dead_name names (dead_names_are b c1 r names) i.1 p1.stands in
    let c2 = m.in_subject ds.0 c1 in
    let k2 : Stands b c2 r.hosts ds.1 = record { bindings = p2.stands.bindings; this = p2.stands.this; dead = list_both (λ (x : Dead). nat_lt x.stand_in.0 (size ds.1)) ds.0 c.dead p2.lawful p2.stands.dead; locals = p2.stands.locals; functions = p2.stands.functions } in
    let x = valued subject b c2 ds.1 in let p3 = valued_is b c2 r subject (d ds.0) ds.1 k2 in
    let k3 : Stands b c1 r.hosts x.1 = record { bindings = p3.stands.bindings; this = p3.stands.this; dead = dead_left (size x.1) ds.0 c.dead p3.stands.dead; locals = p3.stands.locals; functions = p3.stands.functions } in
    let v = i.0.value in
    let i2 = later IterationIsDrawn (AllOf DeadIs) b c1 r i.1 i.0 ds iteration_grows p2 p1.lawful in
    let i3 = later IterationIsDrawn IsLawful b c2 r ds.1 i.0 x iteration_grows p3 i2 in
    let y = target.bound v b c1 x.1 in let p4 = h v x.1 k3 i3.3 in
    let z = body.listed.statements b c1 y.1 in let p5 = u.statements (loop_targets r (l ∷ []) at (Turns false) c.targets (in_loop_there r at) t) y.1 p4.stands in
    let i4 = iteration_grows (here x.1 r) (size y.1) (held y.1) i.0 p4.names p4.functions i3 in
    let ds3 = later (AllOf DeadIs) IsLawful b c2 r ds.1 ds.0 x (all_grow DeadIs dead_grows) p3 p2.lawful in
    let ds4 = all_grow DeadIs dead_grows (here x.1 r) (size y.1) (held y.1) ds.0 p4.names p4.functions ds3 in
    let x4 = exprs_grow (here x.1 r) (size y.1) (held y.1) x.0 p4.names p4.functions p3.lawful in
    record {
      names = let a = p1.names in let f = p2.names in let g = p3.names in let o = p4.names in let w = p5.names in omega arith;
      functions = let a = p1.functions in let f = p2.functions in let g = p3.functions in let o = p4.functions in let w = p5.functions in omega arith;
      stands = p5.stands;
      lawful = for_of_is_lawful (here z.1 r) i.0 (record { dead = m.stand_ins names ds.0; subject = x.0; labels = l ∷ []; names = names; turn = y.0 ++ z.0 })
          (iteration_grows (here y.1 r) (size z.1) (held z.1) i.0 p5.names p5.functions i4)
          (stand_ins_drawn (here z.1 r) names ds.0 (all_grow DeadIs dead_grows (here y.1 r) (size z.1) (held z.1) ds.0 p5.names p5.functions ds4))
          (exprs_grow (here y.1 r) (size z.1) (held z.1) x.0 p5.names p5.functions x4)
          (both (both new refl) refl)
          (scopes_drawn b c1 r.hosts target.lexicals (here z.1 r) p5.stands.bindings)
          (stats_both (here z.1 r1) y.0 z.0 (later AreLawful AreLawful b c1 r1 y.1 y.0 z stats_grow p5 p4.lawful) p5.lawful);
    })

-- ## `switch`

case_made : (q : Round) (test : Option CoreExpr) (body : List CoreStat) → if_lawful test q ≡ true → AreLawful q body → case_lawful (roll-CoreCase (record { test = test; body = body })) q ≡ true
case_made q None body h k = default_is q body k
case_made q (Some t) body h k = case_is q t body h k

case_is_lowered : (b : Bindings) (c : Context) (r : Round) → TargetsAre r None c.targets → (x : Cased) → CasedIs b c r x → Makes (Of (λ r (v : CoreCase). case_lawful v r)) b c r (m.case_lowered x)
case_is_lowered b c r t x h s k =
    let T : Round → CoreCase → Bool = λ p v. case_lawful v p in
    let y = option x.test b c s in let p = option_is IsLawful b c r x.test h.test s k in
    let z = x.body.statements b c y.1 in let q = h.body.statements t y.1 p.stands in
    after (IfOf IsLawful) (Of T) b c r s y _ p (giving AreLawful (Of T) b c r y.1 z (roll-CoreCase (record { test = y.0; body = z.0 })) q
    (case_made (here z.1 r) y.0 z.0 (later IfLawful AreLawful b c r y.1 y.0 z if_grow q (if_some (here y.1 r) y.0 p.lawful)) q.lawful))

cases_are_lowered : (b : Bindings) (c : Context) (r : Round) → TargetsAre r None c.targets → (xs : List Cased) → Every (CasedIs b c r) xs → Every (λ x. Makes (Of (λ r (v : CoreCase). case_lawful v r)) b c r (m.case_lowered x)) xs
cases_are_lowered b c r t [] h = tt
cases_are_lowered b c r t (x ∷ xs) h = (case_is_lowered b c r t x h.0, cases_are_lowered b c r t xs h.1)

case_functions : (b : Bindings) (c : Context) (r : Round) (xs : List Cased) → Every (CasedIs b c r) xs → Every (HoistedIs b c.home) (joined (λ (x : Cased). x.body.functions) xs)
case_functions b c r [] h = tt
case_functions b c r (x ∷ xs) h = every_both (HoistedIs b c.home) x.body.functions _ h.0.body.functions (case_functions b c r xs h.1)

-- what stands round the cases
case_targets : (r : Round) (at : ℕ) (ts : List JumpTarget) → TargetsAre r None ts → Every (TargetIs (exit_label at ∷ r.labels) r.loops None) (record { label = None; at = at; form = Cases } ∷ ts)
case_targets r at ts t =
    let e : Exited = record { at = at; form = Cases } in let there = label_first (exit_label at) r.labels in
    (stands there, settled r.labels r.loops (exit_label at ∷ []) [] e ts there (pending r e ts t))

pub switch_is : (b : Bindings) (c : Context) (r : Round) (at : ℕ) (subject : Expressed) (xs : List Cased) → is_new r (exit_label at) ≡ true → Reaches b c r subject
    → (let e : Exited = record { at = at; form = Cases } in Every (CasedIs b (m.targeting None e c) (under (exit_label at) r)) xs
    → StatedIs b c r (m.running (joined (λ (x : Cased). x.body.variables) xs) (m.switch_lowered at subject xs)))
switch_is b c r at subject xs new h d =
    let e : Exited = record { at = at; form = Cases } in let c1 = m.targeting None e c in let l = exit_label at in let r1 = under l r in
    running_is b c r (joined (λ (x : Cased). x.body.variables) xs) (m.switch_lowered at subject xs)
    (λ t s k. let T : Round → CoreCase → Bool = λ p v. case_lawful v p in let ats = m.cases_scope xs in let fs = joined (λ (x : Cased). x.body.functions) xs in
    let v = temporary b c s in let p1 = temporary_is b c r s k in
    let x = valued subject b c v.1 in let p2 = valued_is b c r subject h v.1 p1.stands in
    let f = all_hoisted fs b c x.1 in let p3 = all_hoisted_is b c r fs (case_functions b c1 r1 xs d) x.1 p2.stands in
    let t1 = case_targets r at c.targets t in
    let z = each_by m.case_lowered xs b c1 f.1 in let p4 = each_by_is T b c1 r1 cases_grow m.case_lowered xs (cases_are_lowered b c1 r1 t1 xs d) f.1 p3.stands in
    let v3 = later VarIs (AllOf declared_lawful) b c r x.1 v.0 f vars_grow p3 (later VarIs IsLawful b c r v.1 v.0 x vars_grow p2 p1.lawful) in
    let x3 = later IsLawful (AllOf declared_lawful) b c r x.1 x.0 f exprs_grow p3 p2.lawful in
    record {
      names = let a = p1.names in let g = p2.names in let o = p3.names in let w = p4.names in omega arith;
      functions = let a = p1.functions in let g = p2.functions in let o = p3.functions in let w = p4.functions in omega arith;
      stands = p4.stands;
      lawful = switches_are_lawful (here z.1 r) (record { label = l; kept = v.0; subject = x.0; names = scoped_names ats b c; functions = f.0; cases = z.0 })
          (vars_grow (here f.1 r) (size z.1) (held z.1) v.0 p4.names p4.functions v3)
          (exprs_grow (here f.1 r) (size z.1) (held z.1) x.0 p4.names p4.functions x3)
          new
          (scopes_drawn b c r.hosts ats (here z.1 r) p4.stands.bindings)
          (all_grow declared_lawful declared_grow (here f.1 r) (size z.1) (held z.1) f.0 p4.names p4.functions p3.lawful)
          p4.lawful;
    })
