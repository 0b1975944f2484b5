-- Statements of lawful parts are lawful.
use Rattle.std.specs.List.{list_all}
use Rattle.std.proofs.Common.{◌≡◌, Bool, true, false, ◌&&◌, ◌||◌, nat_lt, List, [], ◌∷◌, ◌++◌, map, Option, None, Some, refl, ap, arith, subst, ◌∙◌}
use Rattle.std.proofs.lemmas.Bool.{eq-eqb}
use Rattle.core_ast.specs.declared.parts.Constant.TheVariants.{Truth, Undefined}
use Rattle.core_ast.specs.declared.parts.CoreHead.TheVariants as head
use Rattle.core_ast.specs.declared.parts.CoreOp.TheVariants as op
use Rattle.core_ast.specs.declared.parts.Binary.TheVariants.{NotSame}
use Rattle.core_ast.specs.declared.parts.Label.{Label}
use Rattle.core_ast.specs.declared.parts.Primitive.TheVariants.{IterClose, IterStart, IterStep, IterValue}
use Rattle.core_ast.specs.declared.parts.ScopedName.{ScopedName}
use Rattle.core_ast.specs.declared.parts.Unary.TheVariants.{Not}
use Rattle.core_ast.specs.declared.parts.Var.{Var}
use Rattle.core_ast.specs.declared.tree.CoreCase.{CoreCase}
use Rattle.core_ast.specs.declared.tree.CoreExpr.{CoreExpr}
use Rattle.core_ast.specs.declared.tree.CoreLink.TheOpen as layer
use Rattle.core_ast.specs.declared.tree.CoreStat.{CoreStat}
use Rattle.core_ast.specs.declared.tree.CoreStat.TheVariants as stat
use Rattle.core_ast.specs.declared.whole.Declared.{Declared}
use Rattle.core_ast.specs.Lawful as lawful
use Rattle.core_ast.specs.Lawful.{Plain, Round, is_empty}
use Rattle.core_ast.specs.Made.{undefined, variable}
use Rattle.lawful_passes.proofs.Far.{Are, AreCases, Is, constant_is, case_is, default_is, do_is, if_is, joined, labelled_is, number_is, return_is, rolled_is, switch_is, variable_is, when_is}
use Rattle.lawful_passes.proofs.Spilling.{Sound}
use Rattle.lowering_laws.specs.InRound.{Drawn, IsLawfulIfThere, case_lawful, declared_lawful}
use Rattle.lowering_laws.specs.Statements.{BlocksAreLawful, BranchesAreLawful, ChoicesAreLawful, DeclarationsAreLawful, DoWhileIsLawful, ElseIsLawful, ForIsLawful, ForOfIsLawful, HandlerIsLawful, IterationIsDrawn, JumpsAreLawful, LabelledAreLawful, PlacesDiffer, ReturnsAreLawful, SwitchesAreLawful, TriesAreLawful, WhileIsLawful}
use Rattle.lowering_laws.proofs.Expressions.{acted, behind, list_is, plainly}
use Rattle.lowering_rules.specs.Classes.{closure}
use Rattle.lowering_rules.specs.Iteration as i
use Rattle.lowering_rules.specs.Making.{flag, initialize, number, scoped, set, stored, then, when}
use Rattle.lowering_rules.specs.declared.naming.Iteration.{Iteration}
use Rattle.lowering_rules.specs.declared.statement_rules.statements.Handler.{Handler}
use Rattle.lowering_rules.specs.statement_rules.Statements as s
use Rattle.pass_rules.proofs.pass_laws.Within.{left, right, both, either}

-- ## Small statements

pub stored_is : (r : Round) (x : Var) (e : CoreExpr) → Drawn r x → Sound r e → Sound r (stored x e)
stored_is r x e d h = acted r (op.Set x) e plainly refl refl d h

pub set_is : (r : Round) (x : Var) (e : CoreExpr) → Drawn r x → Sound r e → Is r (set x e)
set_is r x e d h = do_is r _ (stored_is r x e d h)

pub initialize_is : (r : Round) (x : Var) (e : CoreExpr) → Drawn r x → Sound r e → Is r (initialize x e)
initialize_is r x e d h = do_is r _ (acted r (op.Init x) e plainly refl refl d h)

pub undefined_is : (r : Round) → Sound r undefined
undefined_is r = constant_is r Undefined refl

pub flag_is : (r : Round) (b : Bool) → Sound r (flag b)
flag_is r b = constant_is r (Truth b) refl

pub then_is : (r : Round) (x y : CoreExpr) → Sound r x → Sound r y → Sound r (then x y)
then_is r x y h k = behind r op.Then (y ∷ []) x plainly refl refl refl (both k refl) h

pub scoped_are : (r : Round) (names : List ScopedName) (body : List CoreStat) → lawful.names_drawn names r ≡ true → Are r body → Are r (scoped names body)
scoped_are r names body h k = either (Are r) (is_empty names) {x = body} {y = stat.Scoped names body ∷ []} k (both (rolled_is r _ (layer.Scoped names body) (stat.rolls-Scoped names body) (both h k)) refl)

pub hoisted_are : (r : Round) (functions : List Declared) → list_all (declared_lawful r) functions ≡ true → Are r (map s.hoisted functions)
hoisted_are r [] h = refl
hoisted_are r (d ∷ functions) h = both (initialize_is r d.var (closure d.function) (left _ _ (left _ _ h)) (list_is r (head.Function d.function) [] refl (right _ _ (left _ _ h)) tt)) (hoisted_are r functions (right _ _ h))

pub blocks_are_lawful : BlocksAreLawful
blocks_are_lawful r names functions body h k m = scoped_are r names _ h (joined r (map s.hoisted functions) body (hoisted_are r functions k) m)

lexical_is : (r : Round) (x : Var) (value : Option CoreExpr) → Drawn r x → IsLawfulIfThere r value → Is r (s.lexical x value)
unfolding s.lexical
lexical_is r x None d h = initialize_is r x undefined d (undefined_is r)
lexical_is r x (Some e) d h = initialize_is r x e d h

assigned_are : (r : Round) (x : Var) (value : Option CoreExpr) → Drawn r x → IsLawfulIfThere r value → Are r (s.assigned_var x value)
unfolding s.assigned_var
assigned_are r x None d h = refl
assigned_are r x (Some e) d h = both (set_is r x e d h) refl

pub declarations_are_lawful : DeclarationsAreLawful
declarations_are_lawful r x value d h = (lexical_is r x value d h, assigned_are r x value d h)

pub jumps_are_lawful : JumpsAreLawful
jumps_are_lawful r l = (λ h. rolled_is r _ (layer.Jump true (Some l)) (stat.rolls-Jump true (Some l)) h, λ h. rolled_is r _ (layer.Jump false (Some l)) (stat.rolls-Jump false (Some l)) h)

pub labelled_are_lawful : LabelledAreLawful
labelled_are_lawful r l body h k = labelled_is r l body h k

-- ## Choices

cases_are : (r : Round) (cs ds : List CoreCase) → list_all (λ c. case_lawful c r) cs ≡ true → AreCases r ds → AreCases r (cs ++ ds)
cases_are r [] ds h k = k
cases_are r (c ∷ cs) ds h k = both (left _ _ h) (cases_are r cs ds (right _ _ h) k)

otherwise_are : (r : Round) (other : Option (List CoreStat)) → ElseIsLawful r other → AreCases r (s.otherwise other)
unfolding s.otherwise
otherwise_are r None h = refl
otherwise_are r (Some body) h = both (default_is r body h) refl

pub branches_are_lawful : BranchesAreLawful
branches_are_lawful r test body h k = case_is r test body h k

pub choices_are_lawful : ChoicesAreLawful
choices_are_lawful r first more other h k = if_is r _ (cases_are r (first ∷ more) (s.otherwise other) h (otherwise_are r other k))

-- ## Loops

pub loop_is : (r : Round) (labels : List Label) (test update : Option CoreExpr) (body : List CoreStat) → (list_all (lawful.is_new r) labels && lawful.all_differ (map (λ (l : Label). l.0) labels)) ≡ true → IsLawfulIfThere r test → IsLawfulIfThere r update → Are (lawful.in_loop labels r) body → Is r (stat.Loop labels test update body)
loop_is r labels None None body a t u h = rolled_is r _ (layer.Loop labels None None body) (stat.rolls-Loop labels None None body) (both (both (both a refl) refl) h)
loop_is r labels None (Some y) body a t u h = rolled_is r _ (layer.Loop labels None (Some y) body) (stat.rolls-Loop labels None (Some y) body) (both (both (both a refl) u) h)
loop_is r labels (Some x) None body a t u h = rolled_is r _ (layer.Loop labels (Some x) None body) (stat.rolls-Loop labels (Some x) None body) (both (both (both a t) refl) h)
loop_is r labels (Some x) (Some y) body a t u h = rolled_is r _ (layer.Loop labels (Some x) (Some y) body) (stat.rolls-Loop labels (Some x) (Some y) body) (both (both (both a t) u) h)

one_label : (r : Round) (l : Label) → lawful.is_new r l ≡ true → (list_all (lawful.is_new r) (l ∷ []) && lawful.all_differ (map (λ (k : Label). k.0) (l ∷ []))) ≡ true
one_label r l h = both (both h refl) refl

pub while_is_lawful : WhileIsLawful
while_is_lawful r l test body n t h = loop_is r (l ∷ []) (Some test) None body (one_label r l n) t refl h

own_label : (l : Label) (ls : List Label) → lawful.has_label l (l ∷ ls) ≡ true
own_label l ls = ap (λ c. c || lawful.has_label l ls) (eq-eqb l.0 l.0 refl)

pub do_while_is_lawful : DoWhileIsLawful
do_while_is_lawful r exit inside body test n m h t =
    let round = lawful.in_loop (exit ∷ []) r in
    loop_is r (exit ∷ []) None None _ (one_label r exit n) refl refl
    (both (labelled_is round inside body m h)
    (both (when_is round _ _ (acted round (op.Unary Not) test plainly refl refl refl t) (both (rolled_is round _ (layer.Jump false (Some exit)) (stat.rolls-Jump false (Some exit)) (own_label exit r.labels)) refl)) refl))

turn_names_drawn : (r : Round) (names : List ScopedName) → lawful.names_drawn names r ≡ true → list_all (lawful.is_drawn r) (s.turn_names names) ≡ true
turn_names_drawn r [] h = refl
turn_names_drawn r (n ∷ names) h = either (λ xs. list_all (lawful.is_drawn r) xs ≡ true) n.mutable {x = n.var ∷ s.turn_names names} {y = s.turn_names names} (both (left _ _ h) (turn_names_drawn r names (right _ _ h))) (turn_names_drawn r names (right _ _ h))

copied_is : (r : Round) (xs : List Var) → list_all (lawful.is_drawn r) xs ≡ true → Sound r (s.copied xs)
copied_is r xs h = list_is r (head.Copy xs) [] refl h tt

followed_is : (r : Round) (x : CoreExpr) (y : Option CoreExpr) → Sound r x → IsLawfulIfThere r y → Sound r (s.followed x y)
unfolding s.followed
followed_is r x None h k = h
followed_is r x (Some y) h k = then_is r x y h k

pub for_is_lawful : ForIsLawful
for_is_lawful r f names first new test update body =
    let t = f.turns in let xs = s.turn_names f.names in let drawn = turn_names_drawn r f.names names in
    scoped_are r f.names _ names (joined r f.first _ first (either (Are r) (is_empty xs) {x = s.turns t t.update ∷ []} {y = s.own_turns t xs}
    (both (loop_is r (t.label ∷ []) t.test t.update t.body (one_label r t.label new) test update body) refl)
    (both (do_is r _ (copied_is r xs drawn)) (both (loop_is r (t.label ∷ []) t.test (Some (s.followed (s.copied xs) t.update)) t.body (one_label r t.label new) test (followed_is r (s.copied xs) t.update (copied_is r xs drawn) update) body) refl))))

pub switches_are_lawful : SwitchesAreLawful
switches_are_lawful r p kept subject new names functions cases =
    let round = lawful.under p.label r in
    both (set_is r p.kept p.subject kept subject) (both (labelled_is r p.label _ new
    (blocks_are_lawful round p.names p.functions _ (names_same r round p.names refl names) (functions_same p.functions functions)
    (both (switch_is round _ p.cases (variable_is round p.kept kept) (subst (λ cs. AreCases round cs) (with_nothing p.cases) (cases_are round p.cases [] cases refl))) refl))) refl)
  where
    names_same : (r round : Round) (names : List ScopedName) → round.names ≡ r.names → lawful.names_drawn names r ≡ true → lawful.names_drawn names round ≡ true
    names_same r round [] e h = refl
    names_same r round (n ∷ names) e h = both (ap (λ k. nat_lt n.var.0 k) e ∙ left _ _ h) (names_same r round names e (right _ _ h))

    functions_same : (functions : List Declared) → list_all (declared_lawful r) functions ≡ true → list_all (declared_lawful (lawful.under p.label r)) functions ≡ true
    functions_same [] h = refl
    functions_same (d ∷ functions) h = both (left _ _ h) (functions_same functions (right _ _ h))

    with_nothing : (cs : List CoreCase) → cs ++ [] ≡ cs
    with_nothing [] = refl
    with_nothing (c ∷ cs) = ap (λ ds. c ∷ ds) (with_nothing cs)

-- ## Returns and tries

pub returns_are_lawful : ReturnsAreLawful
unfolding s.returned
returns_are_lawful r None e h = return_is r undefined e (undefined_is r)
returns_are_lawful r (Some x) e h = return_is r x e h

caught_are : (r : Round) (stats : List CoreStat) (handler : Option Handler) → Are r stats → HandlerIsLawful r handler → Are r (s.caught stats handler)
unfolding s.caught
caught_are r stats None h k = h
caught_are r stats (Some c) h k = both (rolled_is r _ (layer.TryCatch stats c.thrown c.names (c.bound ++ c.block)) (stat.rolls-TryCatch stats c.thrown c.names (c.bound ++ c.block)) (both (both (both h k.0) k.1) (joined r c.bound c.block k.2 k.3))) refl

ended_are : (r : Round) (stats : List CoreStat) (last : Option (List CoreStat)) → Are r stats → ElseIsLawful r last → Are r (s.ended stats last)
unfolding s.ended
ended_are r stats None h k = h
ended_are r stats (Some last) h k = both (rolled_is r _ (layer.TryFinally stats last) (stat.rolls-TryFinally stats last) (both h k)) refl

pub tries_are_lawful : TriesAreLawful
tries_are_lawful r stats handler last h k m = ended_are r _ last (caught_are r stats handler h k) m

-- ## For-of

pub stepped_is : (r : Round) (p : Iteration) → IterationIsDrawn r p → Sound r (i.stepped p)
stepped_is r p d = stored_is r p.result _ d.2 (acted r (op.Primitive IterStep) (variable p.iterator) plainly refl refl refl (variable_is r p.iterator d.0))

step_is : (r : Round) (p : Iteration) → IterationIsDrawn r p → Sound r (i.next_turn p)
step_is r p d =
    then_is r _ _ (then_is r _ _ (stored_is r p.is_open (flag false) d.1 (flag_is r false)) (stepped_is r p d))
    (behind r (op.Operator NotSame) (flag false ∷ []) (variable p.result) plainly refl refl refl (both (flag_is r false) refl) (variable_is r p.result d.2))

closed_is : (r : Round) (p : Iteration) (throws : Bool) → IterationIsDrawn r p → Is r (i.closed p throws)
closed_is r p throws d = do_is r _ (behind r (op.Primitive IterClose) (flag throws ∷ []) (variable p.iterator) plainly refl refl refl (both (flag_is r throws) refl) (variable_is r p.iterator d.0))

pub closing_is : (r : Round) (p : Iteration) (body : List CoreStat) → IterationIsDrawn r p → Are r body → Is r (i.closing p body)
closing_is r p body d h =
    let is_open = variable_is r p.is_open d.1 in
    let block = stat.TryCatch body p.thrown [] (i.closed_by_throw p) ∷ [] in let last = when (variable p.is_open) (i.closed p false ∷ []) ∷ [] in
    rolled_is r _ (layer.TryFinally block last) (stat.rolls-TryFinally block last) (both
    (both (rolled_is r _ (layer.TryCatch body p.thrown [] (i.closed_by_throw p)) (stat.rolls-TryCatch body p.thrown [] (i.closed_by_throw p)) (both (both (both h d.4) refl)
    (both (when_is r _ _ is_open (both (set_is r p.is_open (flag false) d.1 (flag_is r false)) (both (closed_is r p true d) refl))) (both (rolled_is r _ (layer.Throw (variable p.thrown)) (stat.rolls-Throw (variable p.thrown)) (variable_is r p.thrown d.4)) refl)))) refl)
    (both (when_is r _ _ is_open (both (closed_is r p false d) refl)) refl))

pub for_of_is_lawful : ForOfIsLawful
for_of_is_lawful r p f d dead subject labels names turn =
    let round = lawful.in_loop f.labels r in
    joined r (i.begun p f.dead f.subject) _ (scoped_are r f.dead _ dead (both (set_is r p.iterator _ d.0 (behind r (op.Primitive IterStart) (number 0 ∷ []) f.subject plainly refl refl refl (both (number_is r 0 refl) refl) subject)) refl))
    (both (set_is r p.is_open (flag false) d.1 (flag_is r false)) (both (closing_is r p _ d (both (loop_is r f.labels (Some (i.next_turn p)) None _ labels (step_is r p d) refl
    (both (set_is round p.value _ d.3 (acted round (op.Primitive IterValue) (variable p.result) plainly refl refl refl (variable_is round p.result d.2)))
    (both (set_is round p.is_open (flag true) d.1 (flag_is round true)) (scoped_are round f.names _ (names_same f.names names) turn)))) refl)) refl))
  where
    names_same : (names : List ScopedName) → lawful.names_drawn names r ≡ true → lawful.names_drawn names (lawful.in_loop f.labels r) ≡ true
    names_same [] h = refl
    names_same (n ∷ names) h = both (left _ _ h) (names_same names (right _ _ h))

-- ## Labels of places

pub places_differ : PlacesDiffer
places_differ a b = (λ h. omega arith, λ h. omega arith, λ h. omega arith)
