-- What a loop and the blocks of a try add to a machine.
use Rattle.std.proofs.Common.{◌≡◌, ◌+◌, List, map, option_map, rules, sym, ap, ◌∙◌}
use Rattle.std.specs.Prelude.{Option}
use Rattle.core_ast.specs.declared.parts.Var.{Var}
use Rattle.core_ast.specs.declared.parts.Label.{Label}
use Rattle.core_ast.specs.declared.parts.ScopedName.{ScopedName}
use Rattle.core_ast.specs.declared.tree.CoreExpr.{CoreExpr}
use Rattle.core_ast.specs.declared.tree.CoreStat.{CoreStat, fold-CoreStat}
use Rattle.core_ast.specs.declared.tree.CoreStat.TheVariants as stat
use Rattle.core_ast.specs.declared.tree.CoreLink.TheFolds.{the_lemmas}
use Rattle.core_ast.specs.declared.tree.CoreLink.TheOpen as layer
use Rattle.core_ast.specs.declared.tree.CoreLink.TheOpen.{CoreLink-F, CoreStat-F, CoreCase-F, CoreExpr-F}
use Rattle.core_ast.specs.declared.tree.CoreLink.{CoreLink}
use Rattle.pass_rules.specs.state_rules.States.{Branch, Part, add_all, case_step, caught, ensured, expr_step, expr_whole, finished, guarded, handled, headed, kept_region, link_step, looped, pair, part, stat_step, turned, under, within}
use Rattle.pass_rules.specs.declared.state_rules.states.Completion.{Completion}
use Rattle.pass_rules.specs.declared.state_rules.states.Machine.{Machine}
use Rattle.pass_rules.specs.declared.state_rules.states.Place.{Place}

loop_part : (ls : List Label) (t u : Option CoreExpr) (b : List CoreStat) → stat_step (layer.Loop ls (option_map expr_whole t) (option_map expr_whole u) (map part b)) ≡ part (stat.Loop ls t u b)
loop_part ls t u b = search (rules, the_lemmas)

caught_part : (b h : List CoreStat) (x : Var) (ns : List ScopedName) → stat_step (layer.TryCatch (map part b) x ns (map part h)) ≡ part (stat.TryCatch b x ns h)
caught_part b h x ns = search (rules, the_lemmas)

finally_folds : (L S C E : Type 0) (on_link : CoreLink-F L S C E → L) (on_stat : CoreStat-F L S C E → S) (on_case : CoreCase-F L S C E → C) (on_expr : CoreExpr-F L S C E → E) (b l : List CoreStat) → on_stat (layer.TryFinally (map (fold-CoreStat L S C E on_link on_stat on_case on_expr) b) (map (fold-CoreStat L S C E on_link on_stat on_case on_expr) l)) ≡ fold-CoreStat L S C E on_link on_stat on_case on_expr (stat.TryFinally b l)
finally_folds L S C E on_link on_stat on_case on_expr b l = search (rules, the_lemmas)

ensured_part : (b l : List CoreStat) → stat_step (layer.TryFinally (map part b) (map part l)) ≡ part (stat.TryFinally b l)
ensured_part b l = finally_folds CoreLink Part Branch CoreExpr link_step stat_step case_step expr_step b l

loop_is : (ls : List Label) (t u : Option CoreExpr) (b : List CoreStat) (p : Place) (m : Machine) → looped p ls (option_map expr_whole t) (option_map expr_whole u) (map part b) m ≡ (part (stat.Loop ls t u b)).adds p m
loop_is ls t u b p m = ap (λ (z : Part). z.adds p m) (loop_part ls t u b)

caught_is : (b h : List CoreStat) (x : Var) (ns : List ScopedName) (p : Place) (m : Machine) → caught p (map part b) x (map part h) m ≡ (part (stat.TryCatch b x ns h)).adds p m
caught_is b h x ns p m = ap (λ (z : Part). z.adds p m) (caught_part b h x ns)

ensured_is : (b l : List CoreStat) (p : Place) (m : Machine) → ensured p (map part b) (map part l) m ≡ (part (stat.TryFinally b l)).adds p m
ensured_is b l p m = ap (λ (z : Part). z.adds p m) (ensured_part b l)

pub loop_adds : (s : CoreStat) (ls ms : List Label) (t u made : Option CoreExpr) (b c : List CoreStat) (p : Place) (m after : Machine) → s ≡ stat.Loop ls t u b → ms ≡ ls → c ≡ b → made ≡ option_map expr_whole t → after ≡ turned p (option_map expr_whole u) m.next (add_all (under p (m.next + 2) (m.next + 1) ms) (map part c) (headed p made m.next m)) → after ≡ (part s).adds p m
loop_adds s ls ms t u made b c p m after is el eb et a =
    let one = ap (λ (z : Option CoreExpr). looped p ms z (option_map expr_whole u) (map part c) m) et in
    let two = ap (λ (z : List Label). looped p z (option_map expr_whole t) (option_map expr_whole u) (map part c) m) el in
    let three = ap (λ (z : List CoreStat). looped p ls (option_map expr_whole t) (option_map expr_whole u) (map part z) m) eb in
    a ∙ one ∙ two ∙ three ∙ loop_is ls t u b p m ∙ ap (λ (z : CoreStat). (part z).adds p m) (sym is)

pub caught_adds : (s : CoreStat) (b c h k : List CoreStat) (x : Var) (ns : List ScopedName) (p : Place) (m inside after : Machine) → s ≡ stat.TryCatch b x ns h → c ≡ b → k ≡ h → inside ≡ add_all (within p m.regions p.finals) (map part c) (guarded p x m) → after ≡ handled p (map part k) m.next inside → after ≡ (part s).adds p m
caught_adds s b c h k x ns p m inside after is eb eh i a =
    let one = ap (λ (z : Machine). handled p (map part k) m.next z) i in
    let two = ap (λ (z : List CoreStat). caught p (map part c) x (map part z) m) eh in
    let three = ap (λ (z : List CoreStat). caught p (map part z) x (map part h) m) eb in
    a ∙ one ∙ two ∙ three ∙ caught_is b h x ns p m ∙ ap (λ (z : CoreStat). (part z).adds p m) (sym is)

pub ensured_adds : (s : CoreStat) (b c l k : List CoreStat) (kept : Completion) (p : Place) (m inside after : Machine) → s ≡ stat.TryFinally b l → c ≡ b → k ≡ l → kept ≡ pair m.fresh → inside ≡ add_all (within p m.regions (p.finals + 1)) (map part c) (kept_region p (pair m.fresh) m) → after ≡ finished p kept (map part k) m.next inside → after ≡ (part s).adds p m
ensured_adds s b c l k kept p m inside after is eb el ek i a =
    let one = ap (λ (z : Completion). finished p z (map part k) m.next inside) ek in
    let two = ap (λ (z : Machine). finished p (pair m.fresh) (map part k) m.next z) i in
    let three = ap (λ (z : List CoreStat). ensured p (map part c) (map part z) m) el in
    let four = ap (λ (z : List CoreStat). ensured p (map part z) (map part l) m) eb in
    a ∙ one ∙ two ∙ three ∙ four ∙ ensured_is b l p m ∙ ap (λ (z : CoreStat). (part z).adds p m) (sym is)
