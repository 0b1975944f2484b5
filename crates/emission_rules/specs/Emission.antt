-- Emission: expressions and statements of a core as those of a script. A fold over the four types; a link goes on with the current
-- value, a statement with a list.
use Rattle.std.specs.Prelude.{ℕ, Bool, true, false, codes, decimal, List, [], ◌∷◌, ◌++◌, map, Option, None, Some}
use Rattle.core_ast.specs.declared.parts.Label.{Label}
use Rattle.core_ast.specs.declared.parts.Var.{Var}
use Rattle.core_ast.specs.declared.tree.CoreExpr.{CoreExpr, fold-CoreExpr}
use Rattle.core_ast.specs.declared.tree.CoreCase.{CoreCase, fold-CoreCase}
use Rattle.core_ast.specs.declared.tree.CoreLink.{CoreLink, fold-CoreLink}
use Rattle.core_ast.specs.declared.tree.CoreStat.{CoreStat, fold-CoreStat}
use Rattle.core_ast.specs.declared.tree.CoreLink.TheOpen as layer
use Rattle.core_ast.specs.declared.tree.CoreLink.TheOpen.{CoreLink-F, CoreStat-F, CoreCase-F, CoreExpr-F}
use Rattle.es5_ast.specs.declared.tree.Identifier5.{Identifier5}
use Rattle.es5_ast.specs.declared.tree.Expr5.{Expr5}
use Rattle.es5_ast.specs.declared.tree.ForFirst5.TheVariants.{NoFirst}
use Rattle.es5_ast.specs.declared.tree.Stat5.{Stat5}
use Rattle.es5_ast.specs.declared.tree.Stat5.TheVariants as stat
use Rattle.es5_ast.specs.declared.tree.Case5.{Case5, roll-Case5, out-Case5}
use Rattle.es5_ast.specs.declared.tree.Catch5.{roll-Catch5}
use Rattle.es5_ast.specs.declared.tree.Condition5.{Condition5, roll-Condition5}
use Rattle.emission_rules.specs.declared.scene.Current.{Current}
use Rattle.emission_rules.specs.Expressions.{head_emitted, lazy_emitted, op_emitted}
use Rattle.emission_rules.specs.Nodes.{block, expression, identifier, nowhere}
use Rattle.emission_rules.specs.Scenes.{Emits, Made, gives, in_turn, name_of, present, threaded}

-- ---- labels (7.6), which are no names of values

abbrev pub label_text : Label → List ℕ
label_text l = codes "l" ++ decimal l.0

abbrev pub label : Label → Identifier5
label l = identifier (label_text l)

unfoldable pub label_if : Option Label → Option Identifier5
label_if None = None
label_if (Some l) = Some (label l)

abbrev pub labelled : Label → Stat5 → Stat5
labelled l s = stat.Labelled nowhere (label l) s

-- the last label stands first
abbrev pub labelled_by : List Label → Stat5 → Stat5
labelled_by [] s = s
labelled_by (l ∷ ls) s = labelled_by ls (labelled l s)

-- ---- statements whose parts are there

abbrev pub then : List Stat5 → Stat5 → List Stat5
then xs x = xs ++ x ∷ []

abbrev pub case : Option Expr5 → List Stat5 → Case5
case test body = roll-Case5 (record { span = nowhere; test = test; body = body })

abbrev pub condition : Expr5 → List Stat5 → Condition5
condition test body =
    roll-Condition5 (record { span = nowhere; test = test; body = stat.Block (block body) })

abbrev pub conditions_from : Option Expr5 → List Stat5 → List Condition5 → List Condition5
conditions_from None body cs = []
conditions_from (Some t) body cs = condition t body ∷ cs

abbrev pub otherwise_from : Option Expr5 → List Stat5 → Option Stat5 → Option Stat5
otherwise_from None body s = Some (stat.Block (block body))
otherwise_from (Some t) body s = s

-- 12.5: the tests up to the first case without one, which is the else
abbrev pub conditions : List Case5 → List Condition5
conditions [] = []
conditions (c ∷ cs) = conditions_from (out-Case5 c).test (out-Case5 c).body (conditions cs)

abbrev pub otherwise : List Case5 → Option Stat5
otherwise [] = None
otherwise (c ∷ cs) = otherwise_from (out-Case5 c).test (out-Case5 c).body (otherwise cs)

-- what is left without a test is a block
abbrev pub chosen_by : List Condition5 → Option Stat5 → List Stat5 → List Stat5
chosen_by [] None xs = xs
chosen_by [] (Some s) xs = then xs s
chosen_by (c ∷ cs) s xs = then xs (stat.If nowhere c cs s)

unfoldable pub chosen : List Case5 → List Stat5 → List Stat5
chosen cases xs = chosen_by (conditions cases) (otherwise cases) xs

abbrev pub looped : List Label → Option Expr5 → Option Expr5 → List Stat5 → Stat5
looped labels test update body =
    labelled_by labels (stat.For nowhere NoFirst test update (stat.Block (block body)))

unfoldable pub jumped : Bool → Option Label → Stat5
jumped true l = stat.Continue nowhere (label_if l)
jumped false l = stat.Break nowhere (label_if l)

abbrev pub caught : List Stat5 → List ℕ → List Stat5 → Stat5
caught body parameter handler = stat.Try nowhere (block body)
    (Some (roll-Catch5 (record { span = nowhere; parameter = identifier parameter; body = block handler }))) None

abbrev pub finished : List Stat5 → List Stat5 → Stat5
finished body last = stat.Try nowhere (block body) None (Some (block last))

-- ---- statements that end in statements

abbrev pub looped_by : List Label → Option Expr5 → Option Expr5 → Made (List Stat5) → Made Stat5
looped_by labels test update body = gives (looped labels test update body.value) body.scene

abbrev pub caught_by : List Stat5 → Var → Made (List Stat5) → Made Stat5
caught_by body parameter handler = gives (caught body (name_of handler.scene parameter) handler.value) handler.scene

abbrev pub finished_by : List Stat5 → Made (List Stat5) → Made Stat5
finished_by body last = gives (finished body last.value) last.scene

-- ---- the walk

abbrev pub Goes : Type 0 → Type 0
Goes A = A → Emits A

abbrev pub Layer : (Type 0 → Type 0 → Type 0 → Type 0 → Type 0) → Type 0
Layer Of = Of (Goes Current) (Goes (List Stat5)) (Emits Case5) (Emits Expr5)

-- the parts are evaluated behind the current value, and statements in expressions are gone by now
abbrev pub link_step : Layer CoreLink-F → Goes Current
link_step (layer.Strict o parts site) c s = let ps = in_turn parts [] s in op_emitted o ps.value site c ps.scene
link_step (layer.Lazy when taken other) c s =
    let a = taken s in
    let b = present other a.scene in
    gives (lazy_emitted when a.value b.value c) b.scene
link_step (layer.Run body) c s = gives c s

abbrev pub expr_step : Layer CoreExpr-F → Emits Expr5
expr_step x s =
    let begin = head_emitted x.head s in
    let made = threaded x.links begin.value begin.scene in
    gives made.value.value made.scene

abbrev pub case_step : Layer CoreCase-F → Emits Case5
case_step x s =
    let test = present x.test s in
    let body = threaded x.body [] test.scene in
    gives (case test.value body.value) body.scene

abbrev pub one : (Expr5 → Stat5) → Emits Expr5 → Goes (List Stat5)
one f x xs s = let m = x s in gives (then xs (f m.value)) m.scene

abbrev pub stat_step : Layer CoreStat-F → Goes (List Stat5)
stat_step (layer.Do x) xs s = one expression x xs s
stat_step (layer.If cases) xs s = let cs = in_turn cases [] s in gives (chosen cs.value xs) cs.scene
stat_step (layer.Switch subject cases) xs s =
    let on = subject s in
    let cs = in_turn cases [] on.scene in
    gives (then xs (stat.Switch nowhere on.value cs.value)) cs.scene
stat_step (layer.Loop labels test update body) xs s =
    let t = present test s in
    let u = present update t.scene in
    let b = threaded body [] u.scene in
    gives (then xs (looped labels t.value u.value b.value)) b.scene
stat_step (layer.Labelled l body) xs s =
    let b = threaded body [] s in
    gives (then xs (labelled l (stat.Block (block b.value)))) b.scene
stat_step (layer.Jump goes_on l) xs s = gives (then xs (jumped goes_on l)) s
stat_step (layer.Return x) xs s = one (λ y. stat.Return nowhere (Some y)) x xs s
stat_step (layer.Throw x) xs s = one (λ y. stat.Throw nowhere y) x xs s
stat_step (layer.TryCatch body parameter names handler) xs s =
    let b = threaded body [] s in
    let h = threaded handler [] b.scene in
    gives (then xs (caught b.value (name_of h.scene parameter) h.value)) h.scene
stat_step (layer.TryFinally body last) xs s =
    let b = threaded body [] s in
    let l = threaded last [] b.scene in
    gives (then xs (finished b.value l.value)) l.scene
stat_step (layer.Scoped names body) xs s = threaded body xs s
stat_step (layer.Yield value kind result) xs s = one expression value xs s

abbrev pub expr_emitted : CoreExpr → Emits Expr5
expr_emitted =
    fold-CoreExpr (Goes Current) (Goes (List Stat5)) (Emits Case5) (Emits Expr5) link_step stat_step case_step expr_step

abbrev pub link_emitted : CoreLink → Goes Current
link_emitted =
    fold-CoreLink (Goes Current) (Goes (List Stat5)) (Emits Case5) (Emits Expr5) link_step stat_step case_step expr_step

abbrev pub case_emitted : CoreCase → Emits Case5
case_emitted =
    fold-CoreCase (Goes Current) (Goes (List Stat5)) (Emits Case5) (Emits Expr5) link_step stat_step case_step expr_step

abbrev pub stat_emitted : CoreStat → Goes (List Stat5)
stat_emitted =
    fold-CoreStat (Goes Current) (Goes (List Stat5)) (Emits Case5) (Emits Expr5) link_step stat_step case_step expr_step

abbrev pub stats_emitted : List CoreStat → Goes (List Stat5)
stats_emitted stats xs s = threaded (map stat_emitted stats) xs s

abbrev pub exprs_emitted : List CoreExpr → Emits (List Expr5)
exprs_emitted xs s = in_turn (map expr_emitted xs) [] s

abbrev pub cases_emitted : List CoreCase → Emits (List Case5)
cases_emitted xs s = in_turn (map case_emitted xs) [] s
