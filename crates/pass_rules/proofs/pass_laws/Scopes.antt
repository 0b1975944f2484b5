-- The flattening of scopes leaves no scopes, and brings nothing back.
use Rattle.std.specs.List.{list_all}
use Rattle.std.proofs.Common.{◌≡◌, ℕ, ◌+◌, Bool, true, false, cond, List, [], ◌∷◌, map, Option, None, Some, refl, sym, subst, ◌∙◌}
use Rattle.es_outside.specs.declared.events.Site.{Site}
use Rattle.core_ast.specs.declared.parts.Var.{Var}
use Rattle.core_ast.specs.declared.parts.ScopedName.{ScopedName}
use Rattle.core_ast.specs.declared.parts.CoreHead.{CoreHead}
use Rattle.core_ast.specs.declared.parts.CoreHead.TheVariants as head
use Rattle.core_ast.specs.declared.parts.Constant.TheVariants.{Undefined}
use Rattle.core_ast.specs.declared.parts.CoreOp.{CoreOp}
use Rattle.core_ast.specs.declared.parts.CoreOp.TheVariants as op
use Rattle.core_ast.specs.declared.parts.Primitive.TheVariants.{CellMake}
use Rattle.core_ast.specs.declared.tree.CoreStat.{CoreStat}
use Rattle.core_ast.specs.declared.tree.CoreCase.{CoreCase}
use Rattle.core_ast.specs.declared.tree.CoreExpr.{CoreExpr}
use Rattle.core_ast.specs.declared.tree.CoreLink.TheOpen as layer
use Rattle.core_ast.specs.declared.whole.Core.{Core}
use Rattle.core_ast.specs.declared.whole.CoreFunction.{CoreFunction}
use Rattle.core_ast.specs.declared.whole.CorePart.{CorePart}
use Rattle.core_ast.specs.Lawful.{is_generator}
use Rattle.core_ast.specs.Walks.{along}
use Rattle.pass_rules.specs.Cells.{cells_at, is_shared}
use Rattle.pass_rules.specs.Scopes.{Extends, reset, copied, copies, begun, stored, strict, link_step, stat_step, case_step, expr_step, then, entered, stat_flat, stats_flat, function_flat, functions_flat, part_flat, without_scopes}
use Rattle.pass_rules.specs.pass_laws.Levels.{Level, Test, all_within, is_bare, op_within, link_within, stat_within, case_within, expr_within, unscoped, body_level, function_within, part_within, IsWithin}
use Rattle.pass_rules.proofs.pass_laws.Related.{Fold, Relates, Keeps, Pair, Links, Stats, Cases, Exprs, link_first, link_second, stat_first, stat_second, case_first, case_second, expr_first, expr_second, stat_related}
use Rattle.pass_rules.proofs.pass_laws.Within.{within, left, right, both, either, Are, Is, AreParts, AreCases, AreLinks, and_more, and_one, strict_is, lazy_is, run_is, expression_is, case_is, do_is, if_is, switch_is, loop_is, labelled_is, jump_is, return_is, throw_is, catch_is, finally_is, yield_is, linked_is, act_is, acting_is}

abbrev pub flat : List ℕ → Fold
flat owners = record {
  Link = Extends CoreExpr;
  Stat = Extends (List CoreStat);
  Case = CoreCase;
  Expr = CoreExpr;
  link_step = link_step owners;
  stat_step = stat_step;
  case_step = case_step;
  expr_step = expr_step owners;
}

abbrev OfLink : Level → Test → Extends CoreExpr → Type 0
OfLink l t f = t l ≡ true → (x : CoreExpr) → Is (unscoped l) x → Is (unscoped l) (f x)

abbrev OfStat : Level → Test → Extends (List CoreStat) → Type 0
OfStat l t f = t l ≡ true → (xs : List CoreStat) → Are (unscoped l) xs → Are (unscoped l) (f xs)

abbrev OfCase : Level → Test → CoreCase → Type 0
OfCase l t c = t l ≡ true → case_within c (unscoped l) ≡ true

abbrev OfExpr : Level → Test → CoreExpr → Type 0
OfExpr l t x = t l ≡ true → Is (unscoped l) x

abbrev pub relation : (l : Level) (owners : List ℕ) → Relates within (flat owners)
relation l owners = record { Link = OfLink l; Stat = OfStat l; Case = OfCase l; Expr = OfExpr l }

-- ## Lists of related things

stats_kept : (l : Level) (ps : List (Pair (OfStat l))) → all_within (map (λ p. p.0) ps) l ≡ true → (xs : List CoreStat) → Are (unscoped l) xs → Are (unscoped l) (along (map (λ p. p.1) ps) xs)
stats_kept l [] h xs k = k
stats_kept l (p ∷ ps) h xs k = stats_kept l ps (right _ _ h) (p.1 xs) (p.2 (left _ _ h) xs k)

links_kept : (l : Level) (ps : List (Pair (OfLink l))) → all_within (map (λ p. p.0) ps) l ≡ true → (x : CoreExpr) → Is (unscoped l) x → Is (unscoped l) (along (map (λ p. p.1) ps) x)
links_kept l [] h x k = k
links_kept l (p ∷ ps) h x k = links_kept l ps (right _ _ h) (p.1 x) (p.2 (left _ _ h) x k)

parts_kept : (l : Level) (ps : List (Pair (OfExpr l))) → all_within (map (λ p. p.0) ps) l ≡ true → AreParts (unscoped l) (map (λ p. p.1) ps)
parts_kept l [] h = refl
parts_kept l (p ∷ ps) h = both (p.2 (left _ _ h)) (parts_kept l ps (right _ _ h))

cases_kept : (l : Level) (ps : List (Pair (OfCase l))) → all_within (map (λ p. p.0) ps) l ≡ true → AreCases (unscoped l) (map (λ p. p.1) ps)
cases_kept l [] h = refl
cases_kept l (p ∷ ps) h = both (p.2 (left _ _ h)) (cases_kept l ps (right _ _ h))

-- ## What is made

op_kept : (l : Level) (o : CoreOp) (bare : Bool) → op_within o bare l ≡ op_within o bare (unscoped l)
op_kept l op.Yield bare = refl
op_kept l op.Delegate bare = refl
op_kept l o bare = refl

reset_is : (l : Level) (n : ScopedName) → stat_within (reset n) l ≡ true
reset_is l n = do_is l _ (expression_is l None head.Empty _ refl
    (either (AreLinks l) n.shared (both (act_is l (op.Primitive (CellMake n.var)) refl) (both (act_is l (op.Set n.var) refl) refl)) (both (act_is l (op.Init n.var) refl) refl)))

resets_are : (l : Level) (names : List ScopedName) → Are l (map reset names)
resets_are l [] = refl
resets_are l (n ∷ names) = both (reset_is l n) (resets_are l names)

entered_are : (l : Level) (names : List ScopedName) (xs : List CoreStat) → Are l xs → Are l (entered names xs)
entered_are l names xs h = and_more stat_within l xs (map reset names) h (resets_are l names)

copied_is : (l : Level) (x : Var) → link_within (copied x) l ≡ true
copied_is l x = acting_is l op.Then _ refl (expression_is l None (head.Variable x) _ refl (both (act_is l op.Content refl) (both (act_is l (op.Primitive (CellMake x)) refl) (both (act_is l (op.Set x) refl) refl))))

copies_are : (l : Level) (owners : List ℕ) (xs : List Var) → AreLinks l (copies owners xs)
copies_are l owners [] = refl
copies_are l owners (x ∷ xs) = either (AreLinks l) (is_shared owners x) (both (copied_is l x) (copies_are l owners xs)) (copies_are l owners xs)

-- ## Expressions

begun_is : (l : Level) (owners : List ℕ) (site : Option Site) (h : CoreHead) → Is (unscoped l) (begun owners site h)
unfolding begun
begun_is l owners site (head.Variable x) = expression_is (unscoped l) site (head.Variable x) _ refl (either (AreLinks (unscoped l)) (is_shared owners x) (both (act_is (unscoped l) op.Content refl) refl) refl)
begun_is l owners site (head.Copy xs) = expression_is (unscoped l) site (head.Constant Undefined) _ refl (copies_are (unscoped l) owners xs)
begun_is l owners site h = expression_is (unscoped l) site h [] refl refl

stored_is : (l : Level) (x : Var) (e : CoreExpr) → Is l e → Is l (stored x e)
stored_is l x e h = expression_is l None (head.Variable x) _ refl (both (acting_is l op.SetContent e refl h) refl)

bare_parts : (l : Level) (ps : List (Pair (OfExpr l))) → is_bare (map (λ p. p.0) ps) ≡ is_bare (map expr_within (map (λ p. p.1) ps))
bare_parts l [] = refl
bare_parts l (p ∷ ps) = refl

strict_kept : (l : Level) (owners : List ℕ) (o : CoreOp) (parts : List CoreExpr) (site : Option Site) (e : CoreExpr) → op_within o (is_bare (map expr_within parts)) l ≡ true → AreParts l parts → Is l e → Is l (strict owners o parts site e)
unfolding strict
strict_kept l owners (op.Set x) parts site e h k m = either (Is l) (is_shared owners x) (stored_is l x e m) (linked_is l e _ m (strict_is l (op.Set x) parts site h k))
strict_kept l owners (op.Init x) parts site e h k m = either (Is l) (is_shared owners x) (stored_is l x e m) (linked_is l e _ m (strict_is l (op.Init x) parts site h k))
strict_kept l owners o parts site e h k m = linked_is l e _ m (strict_is l o parts site h k)

link_kept : (l : Level) (owners : List ℕ) (z : Links (relation l owners)) → OfLink l (within.link_step (link_first (relation l owners) z)) ((flat owners).link_step (link_second (relation l owners) z))
link_kept l owners (layer.Strict o parts site) h x k = strict_kept (unscoped l) owners o (map (λ p. p.1) parts) site x
    (subst (λ b. op_within o b (unscoped l) ≡ true) (bare_parts l parts) (sym (op_kept l o (is_bare (map (λ p. p.0) parts))) ∙ left _ _ h))
    (parts_kept l parts (right _ _ h)) k
link_kept l owners (layer.Lazy w taken None) h x k = linked_is (unscoped l) x _ k (lazy_is (unscoped l) w taken.1 None (taken.2 (left _ _ h)) refl)
link_kept l owners (layer.Lazy w taken (Some other)) h x k = linked_is (unscoped l) x _ k (lazy_is (unscoped l) w taken.1 (Some other.1) (taken.2 (left _ _ h)) (other.2 (right _ _ h)))
link_kept l owners (layer.Run body) h x k = linked_is (unscoped l) x _ k (run_is (unscoped l) _ (left _ _ h) (stats_kept l body (right _ _ h) [] refl))

expr_kept : (l : Level) (owners : List ℕ) (z : Exprs (relation l owners)) → OfExpr l (within.expr_step (expr_first (relation l owners) z)) ((flat owners).expr_step (expr_second (relation l owners) z))
expr_kept l owners z h = links_kept l z.links (right _ _ h) (begun owners z.site z.head) (begun_is l owners z.site z.head)

-- ## Statements

then_is : (l : Level) (xs : List CoreStat) (s : CoreStat) → Are l xs → stat_within s l ≡ true → Are l (then xs s)
then_is l xs s h k = and_one stat_within l xs s h k

case_of : (l : Level) (owners : List ℕ) (test : Option (Pair (OfExpr l))) (body : List (Pair (OfStat l))) → OfCase l (within.case_step (case_first (relation l owners) (record { test = test; body = body }))) ((flat owners).case_step (case_second (relation l owners) (record { test = test; body = body })))
case_of l owners None body h = case_is (unscoped l) None _ refl (stats_kept l body h [] refl)
case_of l owners (Some t) body h = case_is (unscoped l) (Some t.1) _ (t.2 (left _ _ h)) (stats_kept l body (right _ _ h) [] refl)

case_kept : (l : Level) (owners : List ℕ) (z : Cases (relation l owners)) → OfCase l (within.case_step (case_first (relation l owners) z)) ((flat owners).case_step (case_second (relation l owners) z))
case_kept l owners z = case_of l owners z.test z.body

stat_kept : (l : Level) (owners : List ℕ) (z : Stats (relation l owners)) → OfStat l (within.stat_step (stat_first (relation l owners) z)) ((flat owners).stat_step (stat_second (relation l owners) z))
stat_kept l owners (layer.Do x) h xs k = then_is _ xs _ k (do_is _ _ (x.2 h))
stat_kept l owners (layer.If cases) h xs k = then_is _ xs _ k (if_is _ _ (cases_kept l cases h))
stat_kept l owners (layer.Switch subject cases) h xs k = then_is _ xs _ k (switch_is _ _ _ (subject.2 (left _ _ h)) (cases_kept l cases (right _ _ h)))
stat_kept l owners (layer.Loop labels None None body) h xs k = then_is _ xs _ k (loop_is _ labels None None _ refl refl (stats_kept l body h [] refl))
stat_kept l owners (layer.Loop labels None (Some u) body) h xs k = then_is _ xs _ k (loop_is _ labels None (Some u.1) _ refl (u.2 (left _ _ h)) (stats_kept l body (right _ _ h) [] refl))
stat_kept l owners (layer.Loop labels (Some t) None body) h xs k = then_is _ xs _ k (loop_is _ labels (Some t.1) None _ (t.2 (left _ _ (left _ _ h))) refl (stats_kept l body (right _ _ h) [] refl))
stat_kept l owners (layer.Loop labels (Some t) (Some u) body) h xs k = then_is _ xs _ k (loop_is _ labels (Some t.1) (Some u.1) _ (t.2 (left _ _ (left _ _ h))) (u.2 (right _ _ (left _ _ h))) (stats_kept l body (right _ _ h) [] refl))
stat_kept l owners (layer.Labelled label body) h xs k = then_is _ xs _ k (labelled_is _ label _ (stats_kept l body h [] refl))
stat_kept l owners (layer.Jump goes_on label) h xs k = then_is _ xs _ k (jump_is _ goes_on label)
stat_kept l owners (layer.Return x) h xs k = then_is _ xs _ k (return_is _ _ (x.2 h))
stat_kept l owners (layer.Throw x) h xs k = then_is _ xs _ k (throw_is _ _ (x.2 h))
stat_kept l owners (layer.TryCatch block parameter names handler) h xs k = then_is _ xs _ k (catch_is _ _ parameter [] _ refl
    (stats_kept l block (right _ _ (left _ _ h)) [] refl) (stats_kept l handler (right _ _ h) (entered names []) (entered_are _ names [] refl)))
stat_kept l owners (layer.TryFinally block last) h xs k = then_is _ xs _ k (finally_is _ _ _ (stats_kept l block (left _ _ h) [] refl) (stats_kept l last (right _ _ h) [] refl))
stat_kept l owners (layer.Scoped names body) h xs k = stats_kept l body (right _ _ h) (entered names xs) (entered_are _ names xs k)
stat_kept l owners (layer.Yield value kind result) h xs k = then_is _ xs _ k (yield_is _ _ kind result (left _ _ h) (value.2 (right _ _ h)))

pub kept : (l : Level) (owners : List ℕ) → Keeps (relation l owners)
kept l owners = record { link = link_kept l owners; stat = stat_kept l owners; case = case_kept l owners; expr = expr_kept l owners }

-- ## Functions, parts and the core

pub stats_flat_are : (l : Level) (owners : List ℕ) (ss xs : List CoreStat) → Are l ss → Are (unscoped l) xs → Are (unscoped l) (along (map (stat_flat owners) ss) xs)
stats_flat_are l owners [] xs h k = k
stats_flat_are l owners (s ∷ ss) xs h k = stats_flat_are l owners ss (stat_flat owners s xs) (right _ _ h) (stat_related (relation l owners) (kept l owners) s (left _ _ h) xs k)

-- of the same kind, so that the body's level is the same
level_same : (g e : Level) (b : Bool) → unscoped (cond b g e) ≡ cond b (unscoped g) (unscoped e)
level_same g e true = refl
level_same g e false = refl

function_is : (g e : Level) (owners : List ℕ) (cells : List Var) (f : CoreFunction) → function_within g e f ≡ true → function_within (unscoped g) (unscoped e) (function_flat owners cells f) ≡ true
function_is g e owners cells f h = both (both
    (stats_flat_are e owners f.setup [] (left _ _ (left _ _ h)) refl)
    (subst (λ l. Are l (stats_flat owners f.body)) (level_same g e (is_generator f.kind)) (stats_flat_are (body_level g e f) owners f.body [] (right _ _ (left _ _ h)) refl)))
    (stats_flat_are e owners f.step [] (right _ _ h) refl)

functions_are : (g e : Level) (owners holders : List ℕ) (all : List (List Var)) (place : ℕ) (fs : List CoreFunction) → list_all (function_within g e) fs ≡ true → list_all (function_within (unscoped g) (unscoped e)) (functions_flat owners holders all place fs) ≡ true
functions_are g e owners holders all place [] h = refl
functions_are g e owners holders all place (f ∷ fs) h = both (function_is g e owners (cells_at owners holders all place) f (left _ _ h)) (functions_are g e owners holders all (place + 1) fs (right _ _ h))

part_is : (e : Level) (owners : List ℕ) (p : CorePart) → part_within e p ≡ true → part_within (unscoped e) (part_flat owners p) ≡ true
part_is e owners p h = both (stats_flat_are e owners p.instantiate [] (left _ _ h) refl) (stats_flat_are e owners p.body [] (right _ _ h) refl)

parts_are : (e : Level) (owners : List ℕ) (ps : List CorePart) → list_all (part_within e) ps ≡ true → list_all (part_within (unscoped e)) (map (part_flat owners) ps) ≡ true
parts_are e owners [] h = refl
parts_are e owners (p ∷ ps) h = both (part_is e owners p (left _ _ h)) (parts_are e owners ps (right _ _ h))

pub scopes_out : (g e : Level) (core : Core) → IsWithin g e core → IsWithin (unscoped g) (unscoped e) (without_scopes core)
scopes_out g e core h = (functions_are g e _ _ _ 0 core.functions h.0, parts_are e _ core.parts h.1)
