-- Code that stands where it may by one relation, and fits by another, may stand by both.
use Rattle.std.proofs.Common.{Bool, false, List, [], ◌∷◌, ◌++◌, Option, None, Some}
use Rattle.core_ast.specs.declared.parts.CoreHead.{CoreHead}
use Rattle.core_ast.specs.declared.parts.CoreHead.TheVariants as head
use Rattle.core_ast.specs.declared.parts.FunctionId.{FunctionId}
use Rattle.core_ast.specs.declared.parts.Primitive.TheVariants as primitive
use Rattle.core_ast.specs.declared.parts.Var.{Var}
use Rattle.core_ast.specs.declared.tree.CoreCase.{CoreCase, out-CoreCase}
use Rattle.core_ast.specs.declared.tree.CoreExpr.{CoreExpr, out-CoreExpr}
use Rattle.core_ast.specs.declared.tree.CoreLink.{CoreLink, out-CoreLink}
use Rattle.core_ast.specs.declared.tree.CoreLink.TheOpen as layer
use Rattle.core_ast.specs.declared.tree.CoreLink.TheOpen.{CoreLink-F, CoreStat-F}
use Rattle.core_ast.specs.declared.tree.CoreStat.{CoreStat, out-CoreStat}
use Rattle.core_ast.specs.declared.whole.Core.{Core}
use Rattle.core_meaning.specs.State.{Environment, Loop}
use Rattle.cells_keep_runs.specs.Floors.{AllOf, CaseAt, HeadAt, LinkAt, LoopAt, Perhaps, Placed, Standing, StatAt, ToUse, Wanted, part_wanted, wanted_along}
use Rattle.cells_keep_runs.specs.Placing.{Handler}

-- what stands by both; the second says which names aren't assigned
abbrev pub both : Standing → Standing → Standing
both A B = record {
  stats = λ (e : Environment) (own : Bool) (xs : List CoreStat). A.stats e own xs × B.stats e own xs;
  expr = λ (e : Environment) (w : Wanted) (in_scope : Bool) (x : CoreExpr). A.expr e w in_scope x × B.expr e w in_scope x;
  links = λ (e : Environment) (w : Wanted) (ls : List CoreLink). A.links e w ls × B.links e w ls;
  handler = λ (e : Environment) (h : Handler). A.handler e h × B.handler e h;
  unmade = λ (e : Environment) (f : FunctionId). A.unmade e f × B.unmade e f;
  makes = λ (e : Environment) (f : FunctionId). A.makes e f × B.makes e f;
  inside = λ (e : Environment). A.inside e × B.inside e;
  leads = λ (e o : Environment). A.leads e o × B.leads e o;
  outermost = λ (e : Environment). A.outermost e × B.outermost e;
  shapes = λ (bound : List (List Var)). A.shapes bound × B.shapes bound;
  fixed = B.fixed;
}

-- ---- the parts of code, whatever is wanted of it

abbrev pub StatParts : Standing → Environment → Bool → CoreStat-F CoreLink CoreStat CoreCase CoreExpr → Type 0
StatParts A e own (layer.Yield value kind result) = Unit {0}
StatParts A e own y = StatAt A e own y

abbrev pub LinkParts : Standing → Environment → Wanted → CoreLink-F CoreLink CoreStat CoreCase CoreExpr → Type 0
LinkParts A e w (layer.Strict o parts site) = AllOf (A.expr e (part_wanted o w) false) parts
LinkParts A e w (layer.Lazy when taken other) = A.expr e w false taken × Perhaps (A.expr e w false) other
LinkParts A e w (layer.Run body) = A.stats e false body

abbrev pub HeadParts : Standing → Environment → CoreHead → Type 0
HeadParts A e (head.Function f) = A.unmade e f
HeadParts A e h = Unit {0}

-- Where code may stand, its parts may.
pub record HasParts (A : Standing) : Type 0 where
  pub made : (e : Environment) (f : FunctionId) → A.unmade e f → A.makes e f
  pub none : (e : Environment) (own : Bool) → A.stats e own []
  pub back : (e o : Environment) → A.leads e o → A.inside e → A.inside o
  pub joined : (e : Environment) (own : Bool) (xs ys : List CoreStat) → A.stats e own xs → A.stats e own ys → A.stats e own (xs ++ ys)
  pub rest : (e : Environment) (own : Bool) (x : CoreStat) (xs : List CoreStat) → A.stats e own (x ∷ xs) → A.stats e own xs
  pub stat : (e : Environment) (own : Bool) (x : CoreStat) (xs : List CoreStat) → A.stats e own (x ∷ xs) → StatParts A e own (out-CoreStat x)
  pub head : (e : Environment) (w : Wanted) (in_scope : Bool) (x : CoreExpr) → A.expr e w in_scope x → HeadParts A e (out-CoreExpr x).head
  pub links : (e : Environment) (w : Wanted) (in_scope : Bool) (x : CoreExpr) → A.expr e w in_scope x → A.links e w (out-CoreExpr x).links
  pub further : (e : Environment) (w : Wanted) (l : CoreLink) (ls : List CoreLink) → A.links e w (l ∷ ls) → A.links e w ls
  pub link : (e : Environment) (w : Wanted) (l : CoreLink) (ls : List CoreLink) → A.links e w (l ∷ ls) → LinkParts A e (wanted_along ls w) (out-CoreLink l)

module _ (core : Core) (A B : Standing) (parts : HasParts A) (placed : Placed core B) where
  abbrev K : Standing
  K = both A B

  all_both : {X : Type 0} (P Q : X → Type 0) (xs : List X) → AllOf P xs → AllOf Q xs → AllOf (λ (x : X). P x × Q x) xs
  all_both P Q [] at at2 = tt
  all_both P Q (x ∷ xs) (at, all) (at2, all2) = ((at, at2), all_both P Q xs all all2)

  perhaps_both : {X : Type 0} (P Q : X → Type 0) (o : Option X) → Perhaps P o → Perhaps Q o → Perhaps (λ (x : X). P x × Q x) o
  perhaps_both P Q None at at2 = tt
  perhaps_both P Q (Some x) at at2 = (at, at2)

  exprs_both : (e : Environment) (w : Wanted) (xs : List CoreExpr) → AllOf (A.expr e w false) xs → AllOf (B.expr e w false) xs → AllOf (K.expr e w false) xs
  exprs_both e w xs at at2 = all_both (A.expr e w false) (B.expr e w false) xs at at2

  maybe_both : (e : Environment) (w : Wanted) (c : Bool) (o : Option CoreExpr) → Perhaps (A.expr e w c) o → Perhaps (B.expr e w c) o → Perhaps (K.expr e w c) o
  maybe_both e w c o at at2 = perhaps_both (A.expr e w c) (B.expr e w c) o at at2

  cases_both : (e : Environment) (own : Bool) (cs : List CoreCase) → AllOf (CaseAt A e own) cs → AllOf (CaseAt B e own) cs → AllOf (CaseAt K e own) cs
  cases_both e own [] at at2 = tt
  cases_both e own (c ∷ cs) ((test, body), all) ((test2, body2), all2) = ((maybe_both e ToUse false (out-CoreCase c).test test test2, (body, body2)), cases_both e own cs all all2)

  loop_both : (e : Environment) (c : Bool) (l : Loop) → LoopAt A e c l → LoopAt B e c l → LoopAt K e c l
  loop_both e c l (test, update, body) (test2, update2, body2) = (maybe_both e ToUse false l.test test test2, maybe_both e ToUse c l.update update update2, (body, body2))

  stat_both : (e : Environment) (own : Bool) (y : CoreStat-F CoreLink CoreStat CoreCase CoreExpr) → StatParts A e own y → StatAt B e own y → StatAt K e own y
  stat_both e own (layer.Do x) at at2 = (at, at2)
  stat_both e own (layer.If cases) at at2 = cases_both e false cases at at2
  stat_both e own (layer.Switch subject cases) at at2 = ((at.0, at2.0), cases_both e false cases at.1 at2.1)
  stat_both e own (layer.Loop labels test update body) at at2 = loop_both e own (record { labels = labels; test = test; update = update; body = body }) at at2
  stat_both e own (layer.Labelled label body) at at2 = (at, at2)
  stat_both e own (layer.Jump goes_on label) at at2 = tt
  stat_both e own (layer.Return x) at at2 = (at, at2)
  stat_both e own (layer.Throw x) at at2 = (at, at2)
  stat_both e own (layer.TryCatch block x names handler) at at2 = ((at.0, at2.0), (at.1, at2.1))
  stat_both e own (layer.TryFinally block last) at at2 = ((at.0, at2.0), (at.1, at2.1))
  stat_both e own (layer.Scoped names body) at at2 = tt
  stat_both e own (layer.Yield value kind result) at at2 = at2

  link_both : (e : Environment) (w : Wanted) (y : CoreLink-F CoreLink CoreStat CoreCase CoreExpr) → LinkParts A e w y → LinkAt B e w y → LinkAt K e w y
  link_both e w (layer.Strict o xs site) at (may, at2) = (may, exprs_both e (part_wanted o w) xs at at2)
  link_both e w (layer.Lazy when taken other) (at, more) (at2, more2) = ((at, at2), maybe_both e w false other more more2)
  link_both e w (layer.Run body) at (free, at2) = (free, (at, at2))

  head_both : (e : Environment) (w : Wanted) (c : Bool) (h : CoreHead) → HeadParts A e h → HeadAt B core e w c h → HeadAt K core e w c h
  head_both e w c (head.Function f) at (at2, fits) = ((at, at2), fits)
  head_both e w c head.ArgumentList at at2 = at2
  head_both e w c (head.Primitive primitive.GeneratorMake) at at2 = at2
  head_both e w c (head.Primitive q) at at2 = tt
  head_both e w c (head.Copy xs) at at2 = at2
  head_both e w c h at at2 = tt

  pub both_placed : Placed core K
  both_placed = record {
    uncelled = placed.uncelled;
    made = λ e f at. (parts.made e f at.0, placed.made e f at.1);
    none = λ e own. (parts.none e own, placed.none e own);
    back = λ e o leads inside. (parts.back e o leads.0 inside.0, placed.back e o leads.1 inside.1);
    joined = λ e own xs ys at at2. (parts.joined e own xs ys at.0 at2.0, placed.joined e own xs ys at.1 at2.1);
    rest = λ e own x xs at. (parts.rest e own x xs at.0, placed.rest e own x xs at.1);
    stat = λ e own x xs at. stat_both e own (out-CoreStat x) (parts.stat e own x xs at.0) (placed.stat e own x xs at.1);
    head = λ e w c x at. head_both e (wanted_along (out-CoreExpr x).links w) c (out-CoreExpr x).head (parts.head e w c x at.0) (placed.head e w c x at.1);
    links = λ e w c x at. (parts.links e w c x at.0, placed.links e w c x at.1);
    further = λ e w l ls at. (parts.further e w l ls at.0, placed.further e w l ls at.1);
    link = λ e w l ls at. link_both e (wanted_along ls w) (out-CoreLink l) (parts.link e w l ls at.0) (placed.link e w l ls at.1);
  }
