-- What is put behind the statements before, and what comes out of each layer.
use Rattle.std.proofs.Common.{◌≡◌, ℕ, List, [], ◌∷◌, ◌++◌, map, Option, None, Some, refl, sym, ap, ◌∙◌}
use Rattle.std.proofs.lemmas.List.{append-nil, append_assoc}
use Rattle.core_ast.specs.declared.parts.CoreOp.{CoreOp}
use Rattle.core_ast.specs.declared.parts.CoreOp.TheVariants as op
use Rattle.core_ast.specs.declared.tree.CoreCase.{CoreCase}
use Rattle.core_ast.specs.declared.tree.CoreExpr.{CoreExpr, out-CoreExpr, fold_out-CoreExpr}
use Rattle.core_ast.specs.declared.tree.CoreLink.{CoreLink, out-CoreLink, fold_out-CoreLink}
use Rattle.core_ast.specs.declared.tree.CoreLink.TheOpen as layer
use Rattle.core_ast.specs.declared.tree.CoreLink.TheOpen.{CoreLink-F, CoreStat-F}
use Rattle.core_ast.specs.declared.tree.CoreStat.{CoreStat, out-CoreStat, fold_out-CoreStat}
use Rattle.core_ast.specs.declared.tree.CoreStat.TheVariants as stat
use Rattle.core_ast.specs.declared.tree.CoreLink.TheVariants as link
use Rattle.core_ast.specs.Walks.{along}
use Rattle.es_outside.specs.declared.events.Site.{Site}
use Rattle.pass_rules.specs.Scopes.{Extends, begun, case_step, expr_flat, expr_step, link_flat, link_step, reset, stat_flat, stat_step, stats_flat, strict}
use Rattle.pass_rules.proofs.pass_laws.Related.{Pair, in_stat, in_link}
use Rattle.pass_rules.proofs.pass_laws.Induced.{Shows, Keeps, Stats, stat_second, stat_induced}
use Rattle.pass_rules.proofs.pass_laws.Scopes.{flat}
use Rattle.cells_keep_runs.specs.Shapes.{all_behind, became, behind, strict_behind, ExpressionsAreBegunAndLinked, ListsAreFlattenedByParts, StatementsBecome}

-- ---- each statement is put behind those before it

abbrev Adds : Extends (List CoreStat) → Type 0
Adds f = (ys : List CoreStat) → f ys ≡ ys ++ f []

abbrev adds : (owners : List ℕ) → Shows (flat owners)
adds owners = record { Link = λ x f. Unit {0}; Stat = λ x f. Adds f; Case = λ x c. Unit {0}; Expr = λ x e. Unit {0} }

abbrev Added : Type 0
Added = Pair (λ (x : CoreStat) (f : Extends (List CoreStat)). Adds f)

along_adds : (ps : List Added) → Adds (along (map (λ p. p.1) ps))
along_adds [] ys = sym (append-nil ys)
along_adds (p ∷ ps) ys =
    along_adds ps (p.1 ys)
    ∙ ap (λ zs. zs ++ along (map (λ p. p.1) ps) []) (p.2 ys)
    ∙ append_assoc ys (p.1 []) (along (map (λ p. p.1) ps) [])
    ∙ ap (λ zs. ys ++ zs) (sym (along_adds ps (p.1 [])))

stat_adds : (owners : List ℕ) (z : Stats (adds owners)) → Adds ((flat owners).stat_step (stat_second (adds owners) z))
stat_adds owners (layer.Do x) ys = refl
stat_adds owners (layer.If cases) ys = refl
stat_adds owners (layer.Switch subject cases) ys = refl
stat_adds owners (layer.Loop labels None None body) ys = refl
stat_adds owners (layer.Loop labels None (Some u) body) ys = refl
stat_adds owners (layer.Loop labels (Some t) None body) ys = refl
stat_adds owners (layer.Loop labels (Some t) (Some u) body) ys = refl
stat_adds owners (layer.Labelled label body) ys = refl
stat_adds owners (layer.Jump goes_on label) ys = refl
stat_adds owners (layer.Return x) ys = refl
stat_adds owners (layer.Throw x) ys = refl
stat_adds owners (layer.TryCatch block parameter names handler) ys = refl
stat_adds owners (layer.TryFinally block last) ys = refl
stat_adds owners (layer.Scoped names body) ys =
    along_adds body (ys ++ map reset names)
    ∙ append_assoc ys (map reset names) (along (map (λ p. p.1) body) [])
    ∙ ap (λ zs. ys ++ zs) (sym (along_adds body (map reset names)))
stat_adds owners (layer.Yield value kind result) ys = refl

adds_kept : (owners : List ℕ) → Keeps (adds owners)
adds_kept owners = record { link = λ z. tt; stat = stat_adds owners; case = λ z. tt; expr = λ z. tt }

pub added : (owners : List ℕ) (x : CoreStat) → Adds (stat_flat owners x)
added owners x = stat_induced (adds owners) (adds_kept owners) x

pub all_added : (owners : List ℕ) (xs : List CoreStat) → Adds (along (map (stat_flat owners) xs))
all_added owners [] ys = sym (append-nil ys)
all_added owners (x ∷ xs) ys =
    all_added owners xs (stat_flat owners x ys)
    ∙ ap (λ zs. zs ++ stats_flat owners xs) (added owners x ys)
    ∙ append_assoc ys (stat_flat owners x []) (stats_flat owners xs)
    ∙ ap (λ zs. ys ++ zs) (sym (all_added owners xs (stat_flat owners x [])))

pub stats_cons : (owners : List ℕ) (x : CoreStat) (xs : List CoreStat) → stats_flat owners (x ∷ xs) ≡ stat_flat owners x [] ++ stats_flat owners xs
stats_cons owners x xs = all_added owners xs (stat_flat owners x [])

pub by_parts : ListsAreFlattenedByParts
by_parts owners [] ys = refl
by_parts owners (x ∷ xs) ys =
    stats_cons owners x (xs ++ ys)
    ∙ ap (λ zs. stat_flat owners x [] ++ zs) (by_parts owners xs ys)
    ∙ sym (append_assoc (stat_flat owners x []) (stats_flat owners xs) (stats_flat owners ys))
    ∙ ap (λ zs. zs ++ stats_flat owners ys) (sym (stats_cons owners x xs))

-- ---- each layer

became_of : (owners : List ℕ) (y : CoreStat-F CoreLink CoreStat CoreCase CoreExpr) → stat_step (in_stat (flat owners) y) [] ≡ became owners y
unfolding became
became_of owners (layer.Do x) = refl
became_of owners (layer.If cases) = refl
became_of owners (layer.Switch subject cases) = refl
became_of owners (layer.Loop labels None None body) = refl
became_of owners (layer.Loop labels None (Some u) body) = refl
became_of owners (layer.Loop labels (Some t) None body) = refl
became_of owners (layer.Loop labels (Some t) (Some u) body) = refl
became_of owners (layer.Labelled label body) = refl
became_of owners (layer.Jump goes_on label) = refl
became_of owners (layer.Return x) = refl
became_of owners (layer.Throw x) = refl
became_of owners (layer.TryCatch block parameter names handler) =
    ap (λ hs. stat.TryCatch (stats_flat owners block) parameter [] hs ∷ []) (all_added owners handler (map reset names))
became_of owners (layer.TryFinally block last) = refl
became_of owners (layer.Scoped names body) = all_added owners body (map reset names)
became_of owners (layer.Yield value kind result) = refl

pub stat_out : (owners : List ℕ) (x : CoreStat) → stat_flat owners x [] ≡ became owners (out-CoreStat x)
stat_out owners x =
    ap (λ f. f []) (fold_out-CoreStat (Extends CoreExpr) (Extends (List CoreStat)) CoreCase CoreExpr (link_step owners) stat_step case_step (expr_step owners) x)
    ∙ became_of owners (out-CoreStat x)

pub statements_become : StatementsBecome
statements_become owners x xs = stats_cons owners x xs ∙ ap (λ zs. zs ++ stats_flat owners xs) (stat_out owners x)

-- ---- expressions

strict_of : (owners : List ℕ) (e : CoreExpr) (o : CoreOp) (parts : List CoreExpr) (site : Option Site) → strict owners o (map (expr_flat owners) parts) site e ≡ strict_behind owners e o parts (link.Strict o (map (expr_flat owners) parts) site)
unfolding strict strict_behind
strict_of owners e (op.Set x) parts site = refl
strict_of owners e (op.Init x) parts site = refl
strict_of owners e o parts site = refl

behind_of : (owners : List ℕ) (e : CoreExpr) (y : CoreLink-F CoreLink CoreStat CoreCase CoreExpr) → link_step owners (in_link (flat owners) y) e ≡ behind owners e y
unfolding behind
behind_of owners e (layer.Strict o parts site) = strict_of owners e o parts site
behind_of owners e (layer.Lazy w taken None) = refl
behind_of owners e (layer.Lazy w taken (Some other)) = refl
behind_of owners e (layer.Run body) = refl

pub link_out : (owners : List ℕ) (l : CoreLink) (e : CoreExpr) → link_flat owners l e ≡ behind owners e (out-CoreLink l)
link_out owners l e =
    ap (λ f. f e) (fold_out-CoreLink (Extends CoreExpr) (Extends (List CoreStat)) CoreCase CoreExpr (link_step owners) stat_step case_step (expr_step owners) l)
    ∙ behind_of owners e (out-CoreLink l)

links_out : (owners : List ℕ) (ls : List CoreLink) (e : CoreExpr) → along (map (link_flat owners) ls) e ≡ all_behind owners e ls
links_out owners [] e = refl
links_out owners (l ∷ ls) e = links_out owners ls (link_flat owners l e) ∙ ap (λ x. all_behind owners x ls) (link_out owners l e)

pub begun_and_linked : ExpressionsAreBegunAndLinked
begun_and_linked owners x =
    fold_out-CoreExpr (Extends CoreExpr) (Extends (List CoreStat)) CoreCase CoreExpr (link_step owners) stat_step case_step (expr_step owners) x
    ∙ links_out owners (out-CoreExpr x).links (begun owners (out-CoreExpr x).site (out-CoreExpr x).head)
