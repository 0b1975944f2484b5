-- A core that can be written can be so where scopes are flattened.
use Rattle.std.specs.List.{list_all}
use Rattle.std.proofs.Common.{◌≡◌, ℕ, ◌+◌, Bool, true, ◌&&◌, ◌||◌, not, List, [], ◌∷◌, map, Option, None, Some, refl, sym, ap, subst, ◌∙◌}
use Rattle.std.proofs.lemmas.Bool.{false≢true}
use Rattle.es_outside.specs.declared.events.Site.{Site}
use Rattle.core_ast.specs.declared.gathering.Mentions.{Mentions}
use Rattle.core_ast.specs.declared.parts.CoreHead.{CoreHead}
use Rattle.core_ast.specs.declared.parts.CoreHead.TheVariants as head
use Rattle.core_ast.specs.declared.parts.Constant.TheVariants.{Undefined}
use Rattle.core_ast.specs.declared.parts.CoreOp.{CoreOp}
use Rattle.core_ast.specs.declared.parts.CoreOp.TheVariants as op
use Rattle.core_ast.specs.declared.parts.Primitive.TheVariants.{CellMake}
use Rattle.core_ast.specs.declared.parts.ScopedName.{ScopedName}
use Rattle.core_ast.specs.declared.parts.Var.{Var}
use Rattle.core_ast.specs.declared.tree.CoreCase.{CoreCase}
use Rattle.core_ast.specs.declared.tree.CoreExpr.{CoreExpr}
use Rattle.core_ast.specs.declared.tree.CoreLink.{CoreLink}
use Rattle.core_ast.specs.declared.tree.CoreLink.TheOpen as layer
use Rattle.core_ast.specs.declared.tree.CoreStat.{CoreStat}
use Rattle.core_ast.specs.declared.whole.CoreFunction.{CoreFunction}
use Rattle.core_ast.specs.declared.whole.CorePart.{CorePart}
use Rattle.core_ast.specs.Made.{act, acting, expression}
use Rattle.core_ast.specs.Walks.{along}
use Rattle.emission_laws.specs.Writable as w
use Rattle.es5_ast.specs.Lexical.{is_one_of}
use Rattle.emission_laws.specs.Writable.{Choice, Piece}
use Rattle.pass_rules.specs.Cells.{all_free, cells_at, found, is_shared}
use Rattle.pass_rules.specs.Scopes as s
use Rattle.pass_rules.specs.Scopes.{Extends}
use Rattle.pass_rules.proofs.pass_laws.Related.{Relates, Keeps, Pair, Links, Stats, Exprs, link_first, link_second, stat_first, stat_second, case_first, case_second, expr_first, expr_second, stat_related, of_case, of_expr}
use Rattle.pass_rules.proofs.pass_laws.Scopes.{flat}
use Rattle.pass_rules.proofs.pass_laws.Within.{left, right, both, either}
use Rattle.writable_passes.specs.Laws.{ScopesKeepWritable}
use Rattle.writable_passes.proofs.Cells.{cells_differ}
use Rattle.writable_passes.proofs.Fits.{Are, AreCases, AreParts, Far, Fits, Is, Keys, begun_far, case_is, case_no_default, catch_is, default_choice, default_is, do_is, expression_fits, far_fits, finally_is, if_is, jump_is, keys_after, labelled_is, lazy_piece, lazy_pieces, linked_far, loop_is, more, one, piece, pieces, return_is, run_piece, strict_far, strict_piece, switch_is, throw_is, top, writes, yield_is}

abbrev OfLink : ℕ → Piece → Extends CoreExpr → Type 0
OfLink n p f = p.fits ≡ true → (keys : Keys) (x : CoreExpr) → w.is_new keys p.key ≡ true → Far n keys x → Far n (w.with_key keys p.key) (f x)

abbrev OfStat : ℕ → Bool → Extends (List CoreStat) → Type 0
OfStat n b f = b ≡ true → (xs : List CoreStat) → Are n xs → Are n (f xs)

record CaseIs (n : ℕ) (c : Choice) (x : CoreCase) : Type 0 where
  fits : (of_case (writes n) x).fits ≡ true
  default : (of_case (writes n) x).is_default ≡ c.is_default

abbrev OfCase : ℕ → Choice → CoreCase → Type 0
OfCase n c x = c.fits ≡ true → CaseIs n c x

abbrev OfExpr : ℕ → Bool → CoreExpr → Type 0
OfExpr n b x = b ≡ true → Fits n x

abbrev relation : (n : ℕ) (owners : List ℕ) → Relates (writes n) (flat owners)
relation n owners = record { Link = OfLink n; Stat = OfStat n; Case = OfCase n; Expr = OfExpr n }

-- ## Lists

stats_kept : (n : ℕ) (ps : List (Pair (OfStat n))) → w.every (map (λ p. p.0) ps) ≡ true → (xs : List CoreStat) → Are n xs → Are n (along (map (λ p. p.1) ps) xs)
stats_kept n [] h xs k = k
stats_kept n (p ∷ ps) h xs k = stats_kept n ps (right _ _ h) (p.1 xs) (p.2 (left _ _ h) xs k)

links_kept : (n : ℕ) (ps : List (Pair (OfLink n))) (keys : Keys) → w.links_fit keys (map (λ p. p.0) ps) ≡ true → (x : CoreExpr) → Far n keys x → Fits n (along (map (λ p. p.1) ps) x)
links_kept n [] keys h x k = far_fits n keys x k
links_kept n (p ∷ ps) keys h x k = links_kept n ps (w.with_key keys p.0.key) (right _ _ h) (p.1 x) (p.2 (left _ _ (left _ _ h)) keys x (right _ _ (left _ _ h)) k)

parts_kept : (n : ℕ) (ps : List (Pair (OfExpr n))) → w.every (map (λ p. p.0) ps) ≡ true → AreParts n (map (λ p. p.1) ps)
parts_kept n [] h = refl
parts_kept n (p ∷ ps) h = both (p.2 (left _ _ h)) (parts_kept n ps (right _ _ h))

cases_kept : (n : ℕ) (ps : List (Pair (OfCase n))) → w.choices_fit (map (λ p. p.0) ps) ≡ true → AreCases n (map (λ p. p.1) ps)
cases_kept n [] h = refl
cases_kept n (p ∷ ps) h = both (p.2 (left _ _ h)).fits (cases_kept n ps (right _ _ h))

default_kept : (n : ℕ) (ps : List (Pair (OfCase n))) (may : Bool) → w.choices_fit (map (λ p. p.0) ps) ≡ true → w.one_default may (map (λ p. p.0) ps) ≡ true → w.one_default may (map (of_case (writes n)) (map (λ p. p.1) ps)) ≡ true
default_kept n [] may h k = refl
default_kept n (p ∷ ps) may h k = subst (λ c. ((not c || may) && w.one_default (not c && may) (map (of_case (writes n)) (map (λ q. q.1) ps))) ≡ true) (sym (p.2 (left _ _ h)).default)
    (both (left _ _ k) (default_kept n ps _ (right _ _ h) (right _ _ k)))

-- ## What is made

-- links that define no key
record Silent (n : ℕ) (ls : List CoreLink) : Type 0 where
  fits : (keys : Keys) → w.links_fit keys (pieces n ls) ≡ true
  after : (keys : Keys) → keys_after keys (pieces n ls) ≡ keys

nothing_silent : (n : ℕ) → Silent n []
nothing_silent n = record { fits = λ keys. refl; after = λ keys. refl }

silent_one : (n : ℕ) (l : CoreLink) (ls : List CoreLink) (f : Bool) → piece n l ≡ record { key = None; fits = f } → f ≡ true → Silent n ls → Silent n (l ∷ ls)
silent_one n l ls f e k h = record {
  fits = λ keys. subst (λ q. w.links_fit keys (q ∷ pieces n ls) ≡ true) (sym e) (both (both k refl) (h.fits keys));
  after = λ keys. ap (λ q. keys_after keys (q ∷ pieces n ls)) e ∙ h.after keys;
}

silent_act : (n : ℕ) (o : CoreOp) (ls : List CoreLink) → w.defined o ≡ None → w.op_fits o ≡ true → Silent n ls → Silent n (act o ∷ ls)
silent_act n o ls d k h = silent_one n (act o) ls (w.op_fits o && true) (strict_piece n o [] None ∙ ap (λ key. record { key = key; fits = w.op_fits o && true }) d) (both k refl) h

silent_acting : (n : ℕ) (o : CoreOp) (x : CoreExpr) (ls : List CoreLink) → w.defined o ≡ None → w.op_fits o ≡ true → Fits n x → Silent n ls → Silent n (acting o x ∷ ls)
silent_acting n o x ls d k f h = silent_one n (acting o x) ls (w.op_fits o && (of_expr (writes n) x && true)) (strict_piece n o (x ∷ []) None ∙ ap (λ key. record { key = key; fits = w.op_fits o && (of_expr (writes n) x && true) }) d) (both k (both f refl)) h

silent_far : (n : ℕ) (keys : Keys) (site : Option Site) (h : CoreHead) (ls : List CoreLink) → w.head_fits h ≡ true → Silent n ls → Far n keys (expression site h ls)
silent_far n keys site h ls k q = record { head = k; links = q.fits []; among = λ i e. absurd (false≢true (sym (ap (is_one_of i) (q.after [])) ∙ e)) }

silent_fits : (n : ℕ) (site : Option Site) (h : CoreHead) (ls : List CoreLink) → w.head_fits h ≡ true → Silent n ls → Fits n (expression site h ls)
silent_fits n site h ls k q = expression_fits n site h ls k (q.fits [])

reset_is : (n : ℕ) (x : ScopedName) → Is n (s.reset x)
reset_is n x = do_is n _ (silent_fits n None head.Empty _ refl (either (Silent n) x.shared {x = act (op.Primitive (CellMake x.var)) ∷ act (op.Set x.var) ∷ []} {y = act (op.Init x.var) ∷ []}
    (silent_act n (op.Primitive (CellMake x.var)) _ refl refl (silent_act n (op.Set x.var) [] refl refl (nothing_silent n)))
    (silent_act n (op.Init x.var) [] refl refl (nothing_silent n))))

resets_are : (n : ℕ) (names : List ScopedName) → Are n (map s.reset names)
resets_are n [] = refl
resets_are n (x ∷ names) = both (reset_is n x) (resets_are n names)

entered_are : (n : ℕ) (names : List ScopedName) (xs : List CoreStat) → Are n xs → Are n (s.entered names xs)
entered_are n names xs h = more n xs (map s.reset names) h (resets_are n names)

copy_fits : (n : ℕ) (x : Var) → Fits n (expression None (head.Variable x) (act op.Content ∷ act (op.Primitive (CellMake x)) ∷ act (op.Set x) ∷ []))
copy_fits n x = silent_fits n None (head.Variable x) _ refl (silent_act n op.Content _ refl refl (silent_act n (op.Primitive (CellMake x)) _ refl refl (silent_act n (op.Set x) [] refl refl (nothing_silent n))))

copies_silent : (n : ℕ) (owners : List ℕ) (xs : List Var) → Silent n (s.copies owners xs)
copies_silent n owners [] = nothing_silent n
copies_silent n owners (x ∷ xs) = either (Silent n) (is_shared owners x) {x = s.copied x ∷ s.copies owners xs} {y = s.copies owners xs}
    (silent_acting n op.Then _ (s.copies owners xs) refl refl (copy_fits n x) (copies_silent n owners xs)) (copies_silent n owners xs)

-- ## Expressions

begun_is : (n : ℕ) (owners : List ℕ) (site : Option Site) (h : CoreHead) → w.head_fits h ≡ true → Far n [] (s.begun owners site h)
unfolding s.begun
begun_is n owners site (head.Variable x) k = silent_far n [] site (head.Variable x) _ refl (either (Silent n) (is_shared owners x) {x = act op.Content ∷ []} {y = []} (silent_act n op.Content [] refl refl (nothing_silent n)) (nothing_silent n))
begun_is n owners site (head.Copy xs) k = silent_far n [] site (head.Constant Undefined) _ refl (copies_silent n owners xs)
begun_is n owners site (head.Constant c) k = begun_far n [] site (head.Constant c) k
begun_is n owners site h k = begun_far n [] site h refl

stored_far : (n : ℕ) (keys : Keys) (x : Var) (e : CoreExpr) → Fits n e → Far n keys (s.stored x e)
stored_far n keys x e h = silent_far n keys None (head.Variable x) _ refl (silent_acting n op.SetContent e [] refl refl h (nothing_silent n))

strict_kept : (n : ℕ) (owners : List ℕ) (o : CoreOp) (parts : List CoreExpr) (site : Option Site) (keys : Keys) (e : CoreExpr) → w.op_fits o ≡ true → AreParts n parts → w.is_new keys (w.defined o) ≡ true → Far n keys e → Far n (w.with_key keys (w.defined o)) (s.strict owners o parts site e)
unfolding s.strict
strict_kept n owners (op.Set x) parts site keys e k m new h = either (Far n keys) (is_shared owners x) (stored_far n keys x e (far_fits n keys e h)) (strict_far n keys e (op.Set x) parts site h k m new)
strict_kept n owners (op.Init x) parts site keys e k m new h = either (Far n keys) (is_shared owners x) (stored_far n keys x e (far_fits n keys e h)) (strict_far n keys e (op.Init x) parts site h k m new)
strict_kept n owners o parts site keys e k m new h = strict_far n keys e o parts site h k m new

link_kept : (n : ℕ) (owners : List ℕ) (z : Links (relation n owners)) → OfLink n ((writes n).link_step (link_first (relation n owners) z)) ((flat owners).link_step (link_second (relation n owners) z))
link_kept n owners (layer.Strict o parts site) h keys x new k = strict_kept n owners o (map (λ p. p.1) parts) site keys x (left _ _ h) (parts_kept n parts (right _ _ h)) new k
link_kept n owners (layer.Lazy x taken None) h keys e new k = linked_far n keys e _ _ (lazy_piece n x taken.1) k (both (taken.2 (left _ _ h)) refl) refl
link_kept n owners (layer.Lazy x taken (Some other)) h keys e new k = linked_far n keys e _ _ (lazy_pieces n x taken.1 other.1) k (both (taken.2 (left _ _ h)) (other.2 (right _ _ h))) refl
link_kept n owners (layer.Run body) h keys e new k = linked_far n keys e _ _ (run_piece n (along (map (λ p. p.1) body) [])) k (stats_kept n body h [] refl) refl

expr_kept : (n : ℕ) (owners : List ℕ) (z : Exprs (relation n owners)) → OfExpr n ((writes n).expr_step (expr_first (relation n owners) z)) ((flat owners).expr_step (expr_second (relation n owners) z))
expr_kept n owners z h = links_kept n z.links [] (right _ _ h) (s.begun owners z.site z.head) (begun_is n owners z.site z.head (left _ _ h))

-- ## Statements

case_by : (n : ℕ) (owners : List ℕ) (test : Option (Pair (OfExpr n))) (body : List (Pair (OfStat n))) → OfCase n ((writes n).case_step (case_first (relation n owners) (record { test = test; body = body }))) ((flat owners).case_step (case_second (relation n owners) (record { test = test; body = body })))
case_by n owners None body h = let b = along (map (λ p. p.1) body) [] in record { fits = default_is n b (stats_kept n body h [] refl); default = ap (λ c. c.is_default) (default_choice n b) }
case_by n owners (Some x) body h = let b = along (map (λ p. p.1) body) [] in record { fits = case_is n x.1 b (x.2 (left _ _ h)) (stats_kept n body (right _ _ h) [] refl); default = case_no_default n x.1 b }

stat_kept : (n : ℕ) (owners : List ℕ) (z : Stats (relation n owners)) → OfStat n ((writes n).stat_step (stat_first (relation n owners) z)) ((flat owners).stat_step (stat_second (relation n owners) z))
stat_kept n owners (layer.Do x) h xs k = one n xs _ k (do_is n _ (x.2 h))
stat_kept n owners (layer.If cases) h xs k = one n xs _ k (if_is n _ (cases_kept n cases h))
stat_kept n owners (layer.Switch subject cases) h xs k = one n xs _ k (switch_is n _ _ (subject.2 (left _ _ (left _ _ h))) (cases_kept n cases (right _ _ (left _ _ h))) (default_kept n cases true (right _ _ (left _ _ h)) (right _ _ h)))
stat_kept n owners (layer.Loop labels None None body) h xs k = one n xs _ k (loop_is n labels None None _ (left _ _ (left _ _ (left _ _ h))) tt tt (stats_kept n body (right _ _ h) [] refl))
stat_kept n owners (layer.Loop labels None (Some u) body) h xs k = one n xs _ k (loop_is n labels None (Some u.1) _ (left _ _ (left _ _ (left _ _ h))) tt (u.2 (right _ _ (left _ _ h))) (stats_kept n body (right _ _ h) [] refl))
stat_kept n owners (layer.Loop labels (Some t) None body) h xs k = one n xs _ k (loop_is n labels (Some t.1) None _ (left _ _ (left _ _ (left _ _ h))) (t.2 (right _ _ (left _ _ (left _ _ h)))) tt (stats_kept n body (right _ _ h) [] refl))
stat_kept n owners (layer.Loop labels (Some t) (Some u) body) h xs k = one n xs _ k (loop_is n labels (Some t.1) (Some u.1) _ (left _ _ (left _ _ (left _ _ h))) (t.2 (right _ _ (left _ _ (left _ _ h)))) (u.2 (right _ _ (left _ _ h))) (stats_kept n body (right _ _ h) [] refl))
stat_kept n owners (layer.Labelled label body) h xs k = one n xs _ k (labelled_is n label _ (left _ _ h) (stats_kept n body (right _ _ h) [] refl))
stat_kept n owners (layer.Jump goes_on label) h xs k = one n xs _ k (jump_is n goes_on label)
stat_kept n owners (layer.Return x) h xs k = one n xs _ k (return_is n _ (x.2 h))
stat_kept n owners (layer.Throw x) h xs k = one n xs _ k (throw_is n _ (x.2 h))
stat_kept n owners (layer.TryCatch block parameter names handler) h xs k = one n xs _ k (catch_is n _ parameter [] _ (stats_kept n block (left _ _ h) [] refl) (stats_kept n handler (right _ _ h) (s.entered names []) (entered_are n names [] refl)))
stat_kept n owners (layer.TryFinally block last) h xs k = one n xs _ k (finally_is n _ _ (stats_kept n block (left _ _ h) [] refl) (stats_kept n last (right _ _ h) [] refl))
stat_kept n owners (layer.Scoped names body) h xs k = stats_kept n body h (s.entered names xs) (entered_are n names xs k)
stat_kept n owners (layer.Yield value kind result) h xs k = one n xs _ k (yield_is n _ kind result (value.2 h))

kept : (n : ℕ) (owners : List ℕ) → Keeps (relation n owners)
kept n owners = record { link = link_kept n owners; stat = stat_kept n owners; case = λ z. case_by n owners z.test z.body; expr = expr_kept n owners }

pub stats_flat_are : (n : ℕ) (owners : List ℕ) (ss xs : List CoreStat) → Are n ss → Are n xs → Are n (along (map (s.stat_flat owners) ss) xs)
stats_flat_are n owners [] xs h k = k
stats_flat_are n owners (y ∷ ss) xs h k = stats_flat_are n owners ss (s.stat_flat owners y xs) (right _ _ h) (stat_related (relation n owners) (kept n owners) y (left _ _ h) xs k)

-- ## Functions, parts and the core

function_is : (owners holders : List ℕ) (ms : List Mentions) (place : ℕ) (f : CoreFunction) → w.function_fits f ≡ true → w.function_fits (s.function_flat owners (cells_at owners holders (all_free owners [] ms) place) f) ≡ true
function_is owners holders ms place f h = both (both (both (both (cells_differ owners holders ms place) (right _ _ (left _ _ (left _ _ (left _ _ h)))))
    (stats_flat_are top owners f.setup [] (right _ _ (left _ _ (left _ _ h))) refl)) (stats_flat_are top owners f.body [] (right _ _ (left _ _ h)) refl)) (stats_flat_are top owners f.step [] (right _ _ h) refl)

functions_are : (owners holders : List ℕ) (ms : List Mentions) (place : ℕ) (fs : List CoreFunction) → list_all w.function_fits fs ≡ true → list_all w.function_fits (s.functions_flat owners holders (all_free owners [] ms) place fs) ≡ true
functions_are owners holders ms place [] h = refl
functions_are owners holders ms place (f ∷ fs) h = both (function_is owners holders ms place f (left _ _ h)) (functions_are owners holders ms (place + 1) fs (right _ _ h))

parts_are : (owners : List ℕ) (ps : List CorePart) → list_all w.part_fits ps ≡ true → list_all w.part_fits (map (s.part_flat owners) ps) ≡ true
parts_are owners [] h = refl
parts_are owners (p ∷ ps) h = both (both (stats_flat_are top owners p.instantiate [] (left _ _ (left _ _ h)) refl) (stats_flat_are top owners p.body [] (right _ _ (left _ _ h)) refl)) (parts_are owners ps (right _ _ h))

pub scopes_keep_writable : ScopesKeepWritable
scopes_keep_writable hosts core h = (functions_are _ _ (found core) 0 core.functions h.0, parts_are _ core.parts h.1, h.2)
