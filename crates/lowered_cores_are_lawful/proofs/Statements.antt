-- Statements are lowered to lawful ones, where their parts are.
use Rattle.std.specs.Option.{option_map}
use Rattle.std.proofs.Common.{◌≡◌, ℕ, Bool, true, false, ◌||◌, cond, nat_eq, List, [], ◌∷◌, ◌++◌, Option, None, Some, refl, sym, ap, arith, subst}
use Rattle.std.proofs.lemmas.Bool.{eq-eqb, false≢true}
use Rattle.es6_static_semantics.specs.Findings.{joined}
use Rattle.es6_ast.specs.declared.tree.Identifier.{Identifier}
use Rattle.core_ast.specs.declared.parts.Label.{Label}
use Rattle.core_ast.specs.declared.tree.CoreExpr.{CoreExpr}
use Rattle.core_ast.specs.declared.tree.CoreStat.{CoreStat}
use Rattle.core_ast.specs.declared.tree.CoreStat.TheVariants as stat
use Rattle.core_ast.specs.Lawful.{Round, has_label, in_loop, is_new, under}
use Rattle.core_ast.specs.Made.{undefined}
use Rattle.lowering_laws.specs.InRound.{AreLawful, IsLawful, IsLawfulStat, case_lawful, declared_lawful, if_lawful}
use Rattle.lowering_laws.proofs.Bodies.{declared_are_lawful}
use Rattle.lowering_laws.proofs.Operators.{evaluations_are_lawful}
use Rattle.lowering_laws.proofs.Statements.{blocks_are_lawful, branches_are_lawful, jumps_are_lawful, labelled_are_lawful, returns_are_lawful, undefined_is, while_is_lawful}
use Rattle.lowering_rules.specs.statement_rules.Statements as rules
use Rattle.lowering_rules.specs.statement_rules.Statements.{body_label, branch, exit_label}
use Rattle.module_lowering.specs.Bindings.{Bindings, declared_var}
use Rattle.module_lowering.specs.Expressions.{optional, valued}
use Rattle.module_lowering.specs.Functions.{all_hoisted, hoisted}
use Rattle.module_lowering.specs.Lowering.{Lowering, option, within}
use Rattle.module_lowering.specs.Names.{scoped_names}
use Rattle.module_lowering.specs.Nodes.{Classed, Exited, Expressed, Hoisted, Listed, Parted, Patterned, Stated}
use Rattle.module_lowering.specs.Statements as m
use Rattle.module_lowering.specs.declared.context.Context.{Context}
use Rattle.module_lowering.specs.declared.context.JumpForm.{JumpForm}
use Rattle.module_lowering.specs.declared.context.JumpForm.TheVariants.{Cases, Stays, Turns}
use Rattle.module_lowering.specs.declared.context.JumpTarget.{JumpTarget}
use Rattle.module_lowering.specs.declared.context.Role.{Role}
use Rattle.module_lowering.specs.declared.context.Role.TheVariants.{Assigns, Initializes, Sets}
use Rattle.pass_rules.proofs.pass_laws.Within.{left, right, both}
use Rattle.lowered_cores_are_lawful.specs.Conditions.{finds_loop, takes}
use Rattle.lowered_cores_are_lawful.specs.Nodes.{ClassMadeIs, Entered, HoistedIs, IdIs, ListedIs, PartedIs, PatternedIs, Reaches, StatedIs, TargetIs, TargetsAre, ValueMakes, form_stands, pends, stands}
use Rattle.lowered_cores_are_lawful.specs.Standing.{AllOf, Every, IfOf, IfThere, Makes, Of, held, here, size}
use Rattle.lowered_cores_are_lawful.proofs.Expressions.{optional_is, valued_is}
use Rattle.lowered_cores_are_lawful.proofs.Making.{after, all_by_is, all_grow, declared_grow, each_by_is, exprs_grow, giving, later, option_is, stay}
use Rattle.lowered_cores_are_lawful.proofs.Naming.{declared_drawn, scopes_drawn}

-- ## Lists of statements

pub every_both : {A : Type 0} (P : A → Type 0) (xs ys : List A) → Every P xs → Every P ys → Every P (xs ++ ys)
every_both P [] ys h k = k
every_both P (x ∷ xs) ys h k = (h.0, every_both P xs ys h.1 k)

functions_are : (b : Bindings) (c : Context) (r : Round) (xs : List Stated) → Every (StatedIs b c r) xs → Every (HoistedIs b c.home) (joined (λ (x : Stated). x.listed.functions) xs)
functions_are b c r [] h = tt
functions_are b c r (x ∷ xs) h = every_both (HoistedIs b c.home) x.listed.functions _ h.0.functions (functions_are b c r xs h.1)

statements_are : (b : Bindings) (c : Context) (r : Round) → TargetsAre r None c.targets → (xs : List Stated) → Every (StatedIs b c r) xs → Every (λ (x : Stated). Makes AreLawful b c r x.listed.statements) xs
statements_are b c r t [] h = tt
statements_are b c r t (x ∷ xs) h = (h.0.statements t, statements_are b c r t xs h.1)

pub listed_is : (b : Bindings) (c : Context) (r : Round) (xs : List Stated) → Every (StatedIs b c r) xs → ListedIs b c r (m.listed xs)
listed_is b c r xs h = record { functions = functions_are b c r xs h; statements = λ t. all_by_is b c r (λ (x : Stated). x.listed.statements) xs (statements_are b c r t xs h) }

pub hoisted_is : (b : Bindings) (c : Context) (r : Round) (h : Hoisted) → HoistedIs b c.home h → Makes (Of declared_lawful) b c r (hoisted h)
hoisted_is b c r h i s k =
    let x = h.made b c s in let q = i c r refl s k in
    giving IdIs (Of declared_lawful) b c r s x (record { var = declared_var b c h.at; function = x.0 }) q (both (declared_drawn b c r.hosts (size x.1) h.at q.stands.bindings) q.lawful)

all_made : (b : Bindings) (c : Context) (r : Round) (hs : List Hoisted) → Every (HoistedIs b c.home) hs → Every (λ h. Makes (Of declared_lawful) b c r (hoisted h)) hs
all_made b c r [] h = tt
all_made b c r (x ∷ hs) h = (hoisted_is b c r x h.0, all_made b c r hs h.1)

pub all_hoisted_is : (b : Bindings) (c : Context) (r : Round) (hs : List Hoisted) → Every (HoistedIs b c.home) hs → Makes (AllOf declared_lawful) b c r (all_hoisted hs)
all_hoisted_is b c r hs h = each_by_is declared_lawful b c r declared_grow hoisted hs (all_made b c r hs h)

pub block_is : (b : Bindings) (c : Context) (r : Round) (l : Listed) → ListedIs b c r l → TargetsAre r None c.targets → Makes AreLawful b c r (m.block_made l)
block_is b c r l h t s k =
    let names = scoped_names (m.scope_places l) b c in
    let f = all_hoisted l.functions b c s in let p = all_hoisted_is b c r l.functions h.functions s k in
    let x = l.statements b c f.1 in let q = h.statements t f.1 p.stands in
    after (AllOf declared_lawful) AreLawful b c r s f _ p (giving AreLawful AreLawful b c r f.1 x (rules.block names f.0 x.0) q
    (blocks_are_lawful (here x.1 r) names f.0 x.0 (scopes_drawn b c r.hosts (m.scope_places l) (here x.1 r) q.stands.bindings) (later (AllOf declared_lawful) AreLawful b c r f.1 f.0 x (all_grow declared_lawful declared_grow) q p.lawful) q.lawful))

-- ---- statements that declare nothing for what is round them but by `var`

pub running_is : (b : Bindings) (c : Context) (r : Round) (variables : List Identifier) (a : Lowering (List CoreStat)) → (TargetsAre r None c.targets → Makes AreLawful b c r a) → StatedIs b c r (m.running variables a)
running_is b c r variables a h = record { functions = tt; statements = h; entered = tt }

pub doing_is : (b : Bindings) (c : Context) (r : Round) (a : Lowering (List CoreStat)) → Makes AreLawful b c r a → StatedIs b c r (m.doing a)
doing_is b c r a h = running_is b c r [] a (λ t. h)

pub declaring_is : (b : Bindings) (c : Context) (r : Round) (l : Listed) → ListedIs b c r l → StatedIs b c r (m.declaring l)
declaring_is b c r l h = record { functions = h.functions; statements = h.statements; entered = tt }

pub nothing_is : (b : Bindings) (c : Context) (r : Round) → Makes AreLawful b c r (λ bindings context state. ([], state))
nothing_is b c r s k = stay AreLawful b c r s [] k refl

pub evaluated_is : (b : Bindings) (c : Context) (r : Round) (x : Expressed) → Reaches b c r x → Makes AreLawful b c r (m.one_of stat.Do (valued x))
evaluated_is b c r x h s k = let y = valued x b c s in let q = valued_is b c r x h s k in giving IsLawful AreLawful b c r s y (stat.Do y.0 ∷ []) q (both (evaluations_are_lawful (here y.1 r) y.0 (record { 0 = 0 }) q.lawful).0 refl)

pub thrown_is : (b : Bindings) (c : Context) (r : Round) (x : Expressed) → Reaches b c r x → Makes AreLawful b c r (m.one_of stat.Throw (valued x))
thrown_is b c r x h s k = let y = valued x b c s in let q = valued_is b c r x h s k in giving IsLawful AreLawful b c r s y (stat.Throw y.0 ∷ []) q (both (evaluations_are_lawful (here y.1 r) y.0 (record { 0 = 0 }) q.lawful).1 refl)

pub if_some : (q : Round) (x : Option CoreExpr) → IfOf IsLawful q x → if_lawful x q ≡ true
if_some q None h = refl
if_some q (Some x) h = h

-- in a function
pub returning_is : (b : Bindings) (c : Context) (r : Round) (x : Option Expressed) → r.returns ≡ true → IfThere (Reaches b c r) x → Makes AreLawful b c r (m.returning x)
returning_is b c r x f h s k =
    let y = option (optional x) b c s in let q = option_is IsLawful b c r (optional x) (optional_is b c r x h) s k in
    giving (IfOf IsLawful) AreLawful b c r s y (rules.returned y.0 ∷ []) q (both (returns_are_lawful (here y.1 r) y.0 f (if_some (here y.1 r) y.0 q.lawful)) refl)

-- ---- declarations

undefined_bound_is : (b : Bindings) (c : Context) (r : Round) (p : Patterned) → PatternedIs b c r p → (role : Role) → Makes AreLawful b c r (m.undefined_bound p role)
undefined_bound_is b c r p h Sets s k = stay AreLawful b c r s [] k refl
undefined_bound_is b c r p h Assigns s k = h.bound Assigns undefined s k (undefined_is (here s r))
undefined_bound_is b c r p h Initializes s k = h.bound Initializes undefined s k (undefined_is (here s r))

declarator_is : (b : Bindings) (c : Context) (r : Round) (role : Role) (p : Patterned) → PatternedIs b c r p → (d : Option (Lowering CoreExpr)) → IfThere (ValueMakes b c r) d → Makes AreLawful b c r (m.declarator role p d)
declarator_is b c r role p h None d s k = undefined_bound_is b c r p h role s k
declarator_is b c r role p h (Some a) d s k = let x = a b c s in let q = d s k in after IsLawful AreLawful b c r s x _ q (h.bound role x.0 x.1 q.stands q.lawful)

declarators_all : (b : Bindings) (c : Context) (r : Round) (role : Role) (ps : List Parted) → Every (PartedIs b c r) ps → Every (λ (p : Parted). Makes AreLawful b c r (m.declarator role p.pattern p.default)) ps
declarators_all b c r role [] h = tt
declarators_all b c r role (p ∷ ps) h = (declarator_is b c r role p.pattern h.0.pattern p.default h.0.default, declarators_all b c r role ps h.1)

pub declarators_are : (b : Bindings) (c : Context) (r : Round) (role : Role) (ps : List Parted) → Every (PartedIs b c r) ps → Makes AreLawful b c r (m.declarators role ps)
declarators_are b c r role ps h = all_by_is b c r (λ (p : Parted). m.declarator role p.pattern p.default) ps (declarators_all b c r role ps h)

pub class_at_is : (b : Bindings) (c : Context) (r : Round) (at : ℕ) (x : Classed) → Makes ClassMadeIs b c r x.lowered → Makes AreLawful b c r (m.class_at at x)
class_at_is b c r at x h s k =
    let y = x.lowered b c s in let q = h s k in let v = declared_var b c at in
    giving ClassMadeIs AreLawful b c r s y (rules.class_declared v y.0.class y.0.statements) q
    ((declared_are_lawful (here y.1 r) v y.0.class y.0.statements undefined (declared_drawn b c r.hosts (size y.1) at q.stands.bindings)).0 q.lawful.class q.lawful.statements)

-- ## Jumps

or_either : (a d : Bool) → d ≡ true → (a || d) ≡ true
or_either true d h = refl
or_either false d h = h

pub label_behind : (l : Label) (xs ys : List Label) → has_label l ys ≡ true → has_label l (xs ++ ys) ≡ true
label_behind l [] ys h = h
label_behind l (x ∷ xs) ys h = or_either (nat_eq l.0 x.0) _ (label_behind l xs ys h)

pub label_first : (l : Label) (xs : List Label) → has_label l (l ∷ xs) ≡ true
label_first l xs = ap (λ a. a || has_label l xs) (eq-eqb l.0 l.0 refl)

jump_to_is : (r : Round) (goes_on : Bool) (at : ℕ) (form : JumpForm) → form_stands r.labels r.loops at form ≡ true → takes goes_on form ≡ true → IsLawfulStat r (m.jump_to goes_on at form)
jump_to_is r true at (Turns true) h k = (jumps_are_lawful r (body_label at)).1 (right _ _ h)
jump_to_is r true at (Turns false) h k = (jumps_are_lawful r (exit_label at)).0 (right _ _ h)
jump_to_is r true at Cases h k = absurd (false≢true k)
jump_to_is r true at Stays h k = absurd (false≢true k)
jump_to_is r false at (Turns true) h k = (jumps_are_lawful r (exit_label at)).1 (left _ _ (left _ _ h))
jump_to_is r false at (Turns false) h k = (jumps_are_lawful r (exit_label at)).1 (left _ _ h)
jump_to_is r false at Cases h k = (jumps_are_lawful r (exit_label at)).1 h
jump_to_is r false at Stays h k = (jumps_are_lawful r (exit_label at)).1 h

target_stands : (r : Round) (t : JumpTarget) → TargetIs r.labels r.loops None t → form_stands r.labels r.loops t.at t.form ≡ true
target_stands r t (stands h) = h
target_stands r t (pends h) = absurd h

by_target : (r : Round) (goes_on : Bool) (t : JumpTarget) (i rest : Bool) (others : List CoreStat) → TargetIs r.labels r.loops None t → cond i (takes goes_on t.form) rest ≡ true → (rest ≡ true → AreLawful r others) → AreLawful r (cond i (m.jump_to goes_on t.at t.form ∷ []) others)
by_target r goes_on t true rest others h k o = both (jump_to_is r goes_on t.at t.form (target_stands r t h) k) refl
by_target r goes_on t false rest others h k o = o k

jumps_to : (r : Round) (goes_on : Bool) (label : Option (List ℕ)) (ts : List JumpTarget) → TargetsAre r None ts → finds_loop goes_on label ts ≡ true → AreLawful r (m.jumps goes_on label ts)
jumps_to r goes_on label [] h k = refl
jumps_to r goes_on label (t ∷ ts) h k = by_target r goes_on t (m.is_target goes_on label t) (finds_loop goes_on label ts) (m.jumps goes_on label ts) h.0 k (jumps_to r goes_on label ts h.1)

-- a jump of which what it goes to stands round it; a continue goes to a loop
pub jumping_is : (b : Bindings) (c : Context) (r : Round) (goes_on : Bool) (label : Option Identifier) → finds_loop goes_on (option_map (λ (x : Identifier). x.name) label) c.targets ≡ true → StatedIs b c r (m.jumping goes_on label)
jumping_is b c r goes_on label k = running_is b c r [] _ (λ t s stands. stay AreLawful b c r s _ stands (jumps_to (here s r) goes_on (option_map (λ (x : Identifier). x.name) label) c.targets t k))

-- ## Labels and loops

forms_more : (xs ys ls ks : List Label) (at : ℕ) (form : JumpForm) → form_stands xs ys at form ≡ true → form_stands (ls ++ xs) (ks ++ ys) at form ≡ true
forms_more xs ys ls ks at (Turns true) h = both (both (label_behind (exit_label at) ls xs (left _ _ (left _ _ h))) (label_behind (exit_label at) ks ys (right _ _ (left _ _ h)))) (label_behind (body_label at) ls xs (right _ _ h))
forms_more xs ys ls ks at (Turns false) h = both (label_behind (exit_label at) ls xs (left _ _ h)) (label_behind (exit_label at) ks ys (right _ _ h))
forms_more xs ys ls ks at Cases h = label_behind (exit_label at) ls xs h
forms_more xs ys ls ks at Stays h = label_behind (exit_label at) ls xs h

-- what pends stands where its own labels are there
settled_target : (xs ys ls ks : List Label) (e : Exited) (t : JumpTarget) → form_stands (ls ++ xs) (ks ++ ys) e.at e.form ≡ true → TargetIs xs ys (Some e) t → TargetIs (ls ++ xs) (ks ++ ys) None t
settled_target xs ys ls ks e t k (stands h) = stands (forms_more xs ys ls ks t.at t.form h)
settled_target xs ys ls ks e t k (pends h) =
    stands (subst (λ at. form_stands (ls ++ xs) (ks ++ ys) at t.form ≡ true) (sym h.0) (subst (λ f. form_stands (ls ++ xs) (ks ++ ys) e.at f ≡ true) (sym h.1) k))

pub settled : (xs ys ls ks : List Label) (e : Exited) (ts : List JumpTarget) → form_stands (ls ++ xs) (ks ++ ys) e.at e.form ≡ true → Every (TargetIs xs ys (Some e)) ts → Every (TargetIs (ls ++ xs) (ks ++ ys) None) ts
settled xs ys ls ks e [] k h = tt
settled xs ys ls ks e (t ∷ ts) k h = (settled_target xs ys ls ks e t k h.0, settled xs ys ls ks e ts k h.1)

pending_target : (xs ys : List Label) (e : Exited) (t : JumpTarget) → TargetIs xs ys None t → TargetIs xs ys (Some e) t
pending_target xs ys e t (stands h) = stands h
pending_target xs ys e t (pends h) = absurd h

pub pending : (r : Round) (e : Exited) (ts : List JumpTarget) → TargetsAre r None ts → TargetsAre r (Some e) ts
pending r e [] h = tt
pending r e (t ∷ ts) h = (pending_target r.labels r.loops e t h.0, pending r e ts h.1)

-- a label before what has a place already is that place's
pub labelled_loop_is : (b : Bindings) (c : Context) (r : Round) (at : ℕ) (name : List ℕ) (l : Listed) (e : Exited) → Every (HoistedIs b c.home) l.functions → Entered b (m.targeting (Some name) e c) r l.statements (Some e) → StatedIs b c r (m.with_label at name l (Some e))
labelled_loop_is b c r at name l e f h =
    let lowered : TargetsAre r (Some e) c.targets → Makes AreLawful b c r (within (m.targeting (Some name) e) l.statements) =
    λ t s k. let q = h (pends (refl, refl), t) s k in record { names = q.names; functions = q.functions; stands = q.stands; lawful = q.lawful } in
    record { functions = f; statements = λ t. lowered (pending r e c.targets t); entered = lowered }

-- and before another statement it is of that
pub labelled_is : (b : Bindings) (c : Context) (r : Round) (at : ℕ) (name : List ℕ) (l : Listed) → is_new r (exit_label at) ≡ true → Every (HoistedIs b c.home) l.functions
    → (let e : Exited = record { at = at; form = Stays } in let c1 = m.targeting (Some name) e c in let r1 = under (exit_label at) r in TargetsAre r1 None c1.targets → Makes AreLawful b c1 r1 l.statements)
    → StatedIs b c r (m.with_label at name l None)
labelled_is b c r at name l new f h =
    let e : Exited = record { at = at; form = Stays } in let r1 = under (exit_label at) r in
    let there : form_stands (exit_label at ∷ r.labels) r.loops at Stays ≡ true = label_first (exit_label at) r.labels in
    let lowered : TargetsAre r (Some e) c.targets → Makes AreLawful b c r (m.labelled_at at (within (m.targeting (Some name) e) l.statements)) =
    λ t s k. let q = h (stands there, settled r.labels r.loops (exit_label at ∷ []) [] e c.targets there t) s k in
    record { names = q.names; functions = q.functions; stands = q.stands; lawful = both (labelled_are_lawful (here (l.statements b (m.targeting (Some name) e c) s).1 r) (exit_label at) (l.statements b (m.targeting (Some name) e c) s).0 new q.lawful) refl } in
    record { functions = f; statements = λ t. lowered (pending r e c.targets t); entered = lowered }

-- what stands round a loop's body
pub loop_targets : (r : Round) (ls : List Label) (at : ℕ) (form : JumpForm) (ts : List JumpTarget) → form_stands (ls ++ r.labels) (exit_label at ∷ r.loops) at form ≡ true → (let e : Exited = record { at = at; form = form } in TargetsAre r (Some e) ts
    → Every (TargetIs (ls ++ r.labels) (exit_label at ∷ r.loops) None) (record { label = None; at = at; form = form } ∷ ts))
loop_targets r ls at form ts k t = (stands k, settled r.labels r.loops ls (exit_label at ∷ []) (record { at = at; form = form }) ts k t)

pub loop_is : (b : Bindings) (c : Context) (r : Round) (at : ℕ) (tests_last : Bool) (variables : List Identifier) (a : Lowering (List CoreStat))
    → (let e : Exited = record { at = at; form = Turns tests_last } in TargetsAre r (Some e) c.targets → Makes AreLawful b (m.targeting None e c) r a) → StatedIs b c r (m.loop at tests_last variables a)
loop_is b c r at tests_last variables a h =
    let e : Exited = record { at = at; form = Turns tests_last } in
    let lowered : TargetsAre r (Some e) c.targets → Makes AreLawful b c r (m.with_target at (Turns tests_last) a) =
    λ t s k. let q = h t s k in record { names = q.names; functions = q.functions; stands = q.stands; lawful = q.lawful } in
    record { functions = tt; statements = λ t. lowered (pending r e c.targets t); entered = lowered }

-- the test stands outside of the loop, and the body in it
pub while_is : (b : Bindings) (c : Context) (r : Round) (at : ℕ) (test : Expressed) (body : Stated) → is_new r (exit_label at) ≡ true
    → (let e : Exited = record { at = at; form = Turns false } in let c1 = m.targeting None e c in Reaches b c1 r test → StatedIs b c1 (in_loop (exit_label at ∷ []) r) body
    → StatedIs b c r (m.loop at false body.listed.variables (m.while_lowered at test body)))
while_is b c r at test body new h d =
    let e : Exited = record { at = at; form = Turns false } in let c1 = m.targeting None e c in let l = exit_label at in let r1 = in_loop (l ∷ []) r in
    let there : form_stands (l ∷ r.labels) (l ∷ r.loops) at (Turns false) ≡ true = both (label_first l r.labels) (label_first l r.loops) in
    loop_is b c r at false body.listed.variables (m.while_lowered at test body)
    (λ t s k. let x = valued test b c1 s in let p = valued_is b c1 r test h s k in
    let y = body.listed.statements b c1 x.1 in let q = d.statements (loop_targets r (l ∷ []) at (Turns false) c.targets there t) x.1 p.stands in
    record {
      names = let i = p.names in let j = q.names in omega arith;
      functions = let i = p.functions in let j = q.functions in omega arith;
      stands = q.stands;
      lawful = both (while_is_lawful (here y.1 r) l x.0 y.0 new (exprs_grow (here x.1 r) (size y.1) (held y.1) x.0 q.names q.functions p.lawful) q.lawful) refl;
    })

-- ## `if`

pub condition_is : (b : Bindings) (c : Context) (r : Round) (test : Expressed) (body : Stated) → Reaches b c r test → StatedIs b c r body → TargetsAre r None c.targets → Makes (Of (λ r k. case_lawful k r)) b c r (m.case_of (valued test) (m.under body))
condition_is b c r test body h d t s k =
    let x = valued test b c s in let p = valued_is b c r test h s k in let y = body.listed.statements b c x.1 in let q = d.statements t x.1 p.stands in
    after IsLawful (Of (λ r k. case_lawful k r)) b c r s x _ p (giving AreLawful (Of (λ r k. case_lawful k r)) b c r x.1 y (branch x.0 y.0) q
    (branches_are_lawful (here y.1 r) x.0 y.0 (later IsLawful AreLawful b c r x.1 x.0 y exprs_grow q p.lawful) q.lawful))
