-- Loops, choices and tries are lowered to lawful ones, where their parts are.
use Rattle.std.specs.Option.{option_map}
use Rattle.std.proofs.Common.{◌≡◌, ℕ, Bool, true, false, ◌||◌, not, nat_eq, List, [], ◌∷◌, Option, None, Some, refl, sym, arith}
use Rattle.std.proofs.lemmas.Bool.{eqb-true}
use Rattle.core_ast.specs.declared.tree.CoreCase.{CoreCase}
use Rattle.core_ast.specs.declared.tree.CoreStat.{CoreStat}
use Rattle.core_ast.specs.Lawful.{Round, has_label, in_loop, is_new, names_drawn, under}
use Rattle.core_ast.specs.Made.{variable}
use Rattle.lawful_passes.proofs.Far.{variable_is}
use Rattle.lowering_laws.specs.InRound.{AreLawful, case_lawful}
use Rattle.lowering_laws.specs.Statements.{ElseIsLawful, HandlerIsLawful}
use Rattle.lowering_laws.proofs.Statements.{choices_are_lawful, do_while_is_lawful, places_differ, tries_are_lawful}
use Rattle.lowering_rules.specs.statement_rules.Statements as rules
use Rattle.lowering_rules.specs.statement_rules.Statements.{body_label, exit_label}
use Rattle.lowering_rules.specs.declared.statement_rules.statements.Handler.{Handler}
use Rattle.module_lowering.specs.Bindings.{Bindings}
use Rattle.module_lowering.specs.Expressions.{valued}
use Rattle.module_lowering.specs.Lowering.{Lowering, each_by, option, raw}
use Rattle.module_lowering.specs.Names.{places, scoped_names}
use Rattle.module_lowering.specs.Nodes.{Caught, Conditioned, Exited, Expressed, Listed, Stated}
use Rattle.module_lowering.specs.Statements as m
use Rattle.module_lowering.specs.declared.context.Context.{Context}
use Rattle.module_lowering.specs.declared.context.JumpForm.TheVariants.{Turns}
use Rattle.module_lowering.specs.declared.context.Role.TheVariants.{Initializes}
use Rattle.pass_rules.proofs.pass_laws.Within.{left, both}
use Rattle.lowered_cores_are_lawful.specs.Nodes.{CaughtIs, ConditionedIs, ListedIs, Reaches, StatedIs, TargetsAre, VarIs, form_stands}
use Rattle.lowered_cores_are_lawful.specs.Standing.{AllOf, Every, IfOf, IfThere, Makes, Of, held, here, size}
use Rattle.lowered_cores_are_lawful.proofs.Expressions.{valued_is}
use Rattle.lowered_cores_are_lawful.proofs.Grown.{cases_grown}
use Rattle.lowered_cores_are_lawful.proofs.Making.{Grows, after, all_grow, each_by_is, giving, later, option_is, raw_is, scoped_grow, stats_grow, vars_grow}
use Rattle.lowered_cores_are_lawful.proofs.Naming.{scopes_drawn}
use Rattle.lowered_cores_are_lawful.proofs.Statements.{block_is, label_behind, label_first, loop_is, loop_targets, running_is}

-- ## `do`: its test stands in the loop, and its body under a label of its own

-- the label of a body isn't that of the loop
body_new : (r : Round) (at : ℕ) → is_new r (body_label at) ≡ true → is_new (in_loop (exit_label at ∷ []) r) (body_label at) ≡ true
body_new r at h = other (nat_eq (body_label at).0 (exit_label at).0) (λ e. (places_differ at at).2 (sym (eqb-true (body_label at).0 (exit_label at).0 e))) h
  where
    other : (i : Bool) → (i ≡ true → ⊥) → not (has_label (body_label at) r.labels) ≡ true → not (i || has_label (body_label at) r.labels) ≡ true
    other true f k = absurd (f refl)
    other false f k = k

pub do_while_is : (b : Bindings) (c : Context) (r : Round) (at : ℕ) (body : Stated) (test : Expressed) → is_new r (exit_label at) ≡ true → is_new r (body_label at) ≡ true
    → (let e : Exited = record { at = at; form = Turns true } in let c1 = m.targeting None e c in let r1 = in_loop (exit_label at ∷ []) r in StatedIs b c1 (under (body_label at) r1) body → Reaches b c1 r1 test
    → StatedIs b c r (m.loop at true body.listed.variables (m.do_while_lowered at body test)))
do_while_is b c r at body test new inside h d =
    let e : Exited = record { at = at; form = Turns true } in let c1 = m.targeting None e c in let l = exit_label at in let i = body_label at in let r1 = in_loop (l ∷ []) r in
    let there : form_stands (i ∷ l ∷ r.labels) (l ∷ r.loops) at (Turns true) ≡ true = both (both (label_behind l (i ∷ []) (l ∷ r.labels) (label_first l r.labels)) (label_first l r.loops)) (label_first i (l ∷ r.labels)) in
    loop_is b c r at true body.listed.variables (m.do_while_lowered at body test)
    (λ t s k. let y = body.listed.statements b c1 s in let q = h.statements (loop_targets r (i ∷ l ∷ []) at (Turns true) c.targets there t) s k in
    let x = valued test b c1 y.1 in let p = valued_is b c1 r1 test d y.1 q.stands in
    record {
      names = let u = p.names in let v = q.names in omega arith;
      functions = let u = p.functions in let v = q.functions in omega arith;
      stands = p.stands;
      lawful = both (do_while_is_lawful (here x.1 r) l i y.0 x.0 new (body_new r at inside) (stats_grow (here y.1 (under i r1)) (size x.1) (held x.1) y.0 p.names p.functions q.lawful) p.lawful) refl;
    })

-- ## `if`

pub cases_grow : Grows (Of (λ r (k : CoreCase). case_lawful k r))
cases_grow q n g x l k h = left _ _ (cases_grown n g (x ∷ []) q l k (both h refl))

conditions_are : (b : Bindings) (c : Context) (r : Round) → TargetsAre r None c.targets → (cs : List Conditioned) → Every (ConditionedIs b c r) cs → Every (λ (x : Conditioned). Makes (Of (λ r (k : CoreCase). case_lawful k r)) b c r x.lowered) cs
conditions_are b c r t [] h = tt
conditions_are b c r t (x ∷ cs) h = (h.0 t, conditions_are b c r t cs h.1)

unders : (b : Bindings) (c : Context) (r : Round) → TargetsAre r None c.targets → (x : Option Stated) → IfThere (StatedIs b c r) x → IfThere (Makes AreLawful b c r) (option_map m.under x)
unders b c r t None h = tt
unders b c r t (Some x) h = h.statements t

pub else_is : (q : Round) (x : Option (List CoreStat)) → IfOf AreLawful q x → ElseIsLawful q x
else_is q None h = refl
else_is q (Some x) h = h

pub if_is : (b : Bindings) (c : Context) (r : Round) (first : Conditioned) (more : List Conditioned) (otherwise : Option Stated) → ConditionedIs b c r first → Every (ConditionedIs b c r) more → IfThere (StatedIs b c r) otherwise
    → StatedIs b c r (m.running (m.if_variables first more otherwise) (m.if_lowered first more otherwise))
if_is b c r first more otherwise h d e = running_is b c r (m.if_variables first more otherwise) (m.if_lowered first more otherwise)
    (λ t s k. let T : Round → CoreCase → Bool = λ p v. case_lawful v p in let f : Conditioned → Lowering CoreCase = λ v. v.lowered in
    let x = first.lowered b c s in let i = h t s k in
    let y = each_by f more b c x.1 in let j = each_by_is T b c r cases_grow f more (conditions_are b c r t more d) x.1 i.stands in
    let z = option (option_map m.under otherwise) b c y.1 in let o = option_is AreLawful b c r (option_map m.under otherwise) (unders b c r t otherwise e) y.1 j.stands in
    let x1 = later (Of T) (IfOf AreLawful) b c r y.1 x.0 z cases_grow o (later (Of T) (AllOf T) b c r x.1 x.0 y cases_grow j i.lawful) in
    let y1 = later (AllOf T) (IfOf AreLawful) b c r y.1 y.0 z (all_grow T cases_grow) o j.lawful in
    after (Of T) AreLawful b c r s x _ i (after (AllOf T) AreLawful b c r x.1 y _ j (giving (IfOf AreLawful) AreLawful b c r y.1 z (rules.if_chain x.0 y.0 z.0 ∷ []) o
    (both (choices_are_lawful (here z.1 r) x.0 y.0 z.0 (both x1 y1) (else_is (here z.1 r) z.0 o.lawful)) refl))))

-- ## `try`

blocks_if : (b : Bindings) (c : Context) (r : Round) → TargetsAre r None c.targets → (x : Option Listed) → IfThere (ListedIs b c r) x → IfThere (Makes AreLawful b c r) (option_map m.block_made x)
blocks_if b c r t None h = tt
blocks_if b c r t (Some x) h = block_is b c r x h t

record HandlerIs (q : Round) (h : Handler) : Type 0 where
  thrown : VarIs q h.thrown
  names : names_drawn h.names q ≡ true
  bound : AreLawful q h.bound
  block : AreLawful q h.block

handler_grows : Grows HandlerIs
handler_grows q n g h l k i = record { thrown = vars_grow q n g h.thrown l k i.thrown; names = scoped_grow q n g h.names l k i.names; bound = stats_grow q n g h.bound l k i.bound; block = stats_grow q n g h.block l k i.block }

-- in the pattern of its parameter the names of that may be uninitialized
handler_is : (b : Bindings) (c : Context) (r : Round) (x : Caught) → CaughtIs b c r x → TargetsAre r None c.targets → Makes HandlerIs b c r (m.handler x)
handler_is b c r x h t s k =
    let ats = places x.parameter.names in let names = scoped_names ats b c in let c1 = m.in_catch x.parameter c in
    let v = raw b c s in let i = raw_is b c r s k in
    let y = x.parameter.bound Initializes (variable v.0) b c1 v.1 in let j = h.parameter.bound Initializes (variable v.0) v.1 i.stands (variable_is (here v.1 r) v.0 i.lawful) in
    let z = m.block_made x.block b c y.1 in let q = block_is b c r x.block h.block t y.1 j.stands in
    record {
      names = let u = i.names in let o = j.names in let w = q.names in omega arith;
      functions = let u = i.functions in let o = j.functions in let w = q.functions in omega arith;
      stands = q.stands;
      lawful = record {
        thrown = later VarIs AreLawful b c r y.1 v.0 z vars_grow q (later VarIs AreLawful b c1 r v.1 v.0 y vars_grow j i.lawful);
        names = scopes_drawn b c r.hosts ats (here z.1 r) q.stands.bindings;
        bound = later AreLawful AreLawful b c r y.1 y.0 z stats_grow q j.lawful;
        block = q.lawful;
      };
    }

handlers_if : (b : Bindings) (c : Context) (r : Round) → TargetsAre r None c.targets → (x : Option Caught) → IfThere (CaughtIs b c r) x → IfThere (Makes HandlerIs b c r) (option_map m.handler x)
handlers_if b c r t None h = tt
handlers_if b c r t (Some x) h = handler_is b c r x h t

handler_lawful : (q : Round) (x : Option Handler) → IfOf HandlerIs q x → HandlerIsLawful q x
handler_lawful q None h = refl
handler_lawful q (Some x) h = (h.thrown, h.names, h.bound, h.block)

if_handler_grows : Grows (IfOf HandlerIs)
if_handler_grows q n g None l k h = tt
if_handler_grows q n g (Some x) l k h = handler_grows q n g x l k h

pub try_is : (b : Bindings) (c : Context) (r : Round) (tried : Listed) (caught : Option Caught) (last : Option Listed) → ListedIs b c r tried → IfThere (CaughtIs b c r) caught → IfThere (ListedIs b c r) last
    → StatedIs b c r (m.running (m.try_variables tried caught last) (m.try_lowered tried caught last))
try_is b c r tried caught last h d e = running_is b c r (m.try_variables tried caught last) (m.try_lowered tried caught last)
    (λ t s k. let x = m.block_made tried b c s in let i = block_is b c r tried h t s k in
    let y = option (option_map m.handler caught) b c x.1 in let j = option_is HandlerIs b c r (option_map m.handler caught) (handlers_if b c r t caught d) x.1 i.stands in
    let z = option (option_map m.block_made last) b c y.1 in let o = option_is AreLawful b c r (option_map m.block_made last) (blocks_if b c r t last e) y.1 j.stands in
    let x1 = later AreLawful (IfOf AreLawful) b c r y.1 x.0 z stats_grow o (later AreLawful (IfOf HandlerIs) b c r x.1 x.0 y stats_grow j i.lawful) in
    let y1 = later (IfOf HandlerIs) (IfOf AreLawful) b c r y.1 y.0 z if_handler_grows o j.lawful in
    after AreLawful AreLawful b c r s x _ i (after (IfOf HandlerIs) AreLawful b c r x.1 y _ j (giving (IfOf AreLawful) AreLawful b c r y.1 z (rules.attempt x.0 y.0 z.0) o
    (tries_are_lawful (here z.1 r) x.0 y.0 z.0 x1 (handler_lawful (here z.1 r) y.0 y1) (else_is (here z.1 r) z.0 o.lawful)))))
