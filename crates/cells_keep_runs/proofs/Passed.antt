-- Scopes that are entered, copied and left, and the places of related frames.
use Rattle.std.proofs.Common.{◌≡◌, ℕ, suc, List, [], ◌∷◌, ◌++◌, Option, None, Some, refl, sym, ap, ◌∙◌}
use Rattle.es_outside.specs.declared.events.Site.{Site}
use Rattle.core_ast.specs.declared.parts.CoreHead.TheVariants as head
use Rattle.core_ast.specs.declared.parts.Var.{Var}
use Rattle.core_ast.specs.declared.tree.CoreExpr.{out-roll-CoreExpr}
use Rattle.core_ast.specs.declared.tree.CoreLink.{CoreLink, out-CoreLink}
use Rattle.core_ast.specs.declared.tree.CoreStat.{CoreStat}
use Rattle.core_ast.specs.declared.tree.CoreStat.TheVariants as stat
use Rattle.core_ast.specs.declared.whole.Core.{Core}
use Rattle.core_meaning.specs.Expressions.{begin_head}
use Rattle.core_meaning.specs.Marks.{CoreState, CoreWork, Mark}
use Rattle.core_meaning.specs.Modules.{core_step, rows, stat_of}
use Rattle.core_meaning.specs.Rows.{controls, nearest, or_else, pushed, site_in, with_control}
use Rattle.core_meaning.specs.State.{Completion, Done, Environment, Frame, Gives, Hand, Jumps, Rest, Restore, Returns, Throws}
use Rattle.core_meaning.specs.Statements.{begin_stat}
use Rattle.core_meaning.specs.Step.{abrupt, done, hand, step}
use Rattle.cells_keep_runs.specs.Opened.{Opened, link_in, opened, opened_by, write_in}
use Rattle.cells_keep_runs.specs.Passed.{CopiesAreTaken, PlacesAreKept, ScopesAreEntered, ScopesAreLeft, ScopesEnd, placed}
use Rattle.cells_keep_runs.specs.Related.{Seats, Tail, Waits, a_scope, cell_along, catching, choice, derived, fetch, finishing, instantiates, loop_body, loop_test, loop_update, matching, no_scope, none, part, pending, plain, prototype, rest, restore, resumes, returning, starts, subject, target, throwing, waiting, waits, waits_for_cell, WaitsAfter, WaitsBehind, WaitsDelegate, WaitsDelegateDone, WaitsDelegateStart, WaitsDelegateTurn, WaitsDelegateValue, WaitsHeritage, WaitsKeyed, WaitsPrototype, WaitsSpread, WaitsSpreadStep, WaitsSpreadValue, WaitsToStep, WaitsToStore, WaitsYield}
use Rattle.cells_keep_runs.specs.Ways.{IsAbrupt}

pub entered : ScopesAreEntered
unfolding step begin_stat
entered core names body xs st = (
  _,
  ap (λ y. begin_stat (rows core) (stat.Scoped names body) (pushed (Rest xs) st) y) (stat.outs-Scoped names body)
      ∙ ap (λ y. stat_of (pushed (Rest xs) st) y) (stat.outs-Scoped names body),
  refl,
)

pub ended : ScopesEnd
unfolding step hand done
ended core e xs st = (_, refl, (_, refl, refl))

pub taken : CopiesAreTaken
unfolding step begin_head
taken core site xs links st =
    (_, ap (λ y. begin_head (rows core) core y.head y.links st) (out-roll-CoreExpr (record { site = site; head = head.Copy xs; links = links })), refl)

pub past_restore : (core : Core) (c : Completion Mark) (n : ℕ) (e : Environment) (fs : List (Frame Mark CoreWork)) (st : CoreState) → IsAbrupt c → core_step core (with_control (Hand c) (placed (n ∷ e) (Restore e ∷ fs) st)) ≡ controls (Hand c) (placed e fs st)
unfolding step hand abrupt
past_restore core (Throws v) n e fs st h = refl
past_restore core (Returns v) n e fs st h = refl
past_restore core (Jumps goes_on label) n e fs st h = refl
past_restore core (Gives v) n e fs st h = absurd h
past_restore core Done n e fs st h = absurd h

pub past_rest : (core : Core) (c : Completion Mark) (e : Environment) (xs : List CoreStat) (fs : List (Frame Mark CoreWork)) (st : CoreState) → IsAbrupt c → core_step core (with_control (Hand c) (placed e (Rest xs ∷ fs) st)) ≡ controls (Hand c) (placed e fs st)
unfolding step hand abrupt
past_rest core (Throws v) e xs fs st h = refl
past_rest core (Returns v) e xs fs st h = refl
past_rest core (Jumps goes_on label) e xs fs st h = refl
past_rest core (Gives v) e xs fs st h = absurd h
past_rest core Done e xs fs st h = absurd h

pub left : ScopesAreLeft
left core owners seats st c e e2 fs gs ys h no_scope = (0, refl)
left core owners seats st c e e2 fs gs ys h (a_scope {n = n} {e = e3} {fs = fs3} xs is_scope tail) =
    let (k, way) = left core owners seats st c _ _ _ _ _ h tail in
    (suc (suc k), (_, past_restore core c n e3 (Rest xs ∷ fs3) st h, (_, past_rest core c e3 xs fs3 st h, way)))

-- ---- places

opened_by_place : (cell : Var → ℕ) (w : Option Var) (l : CoreLink) (o : Opened) (gs : List (Frame Mark CoreWork)) (site : Site) → nearest (o.frames ++ gs) site ≡ nearest gs site → nearest ((opened_by cell w l o).frames ++ gs) site ≡ nearest gs site
opened_by_place cell None l o gs site h = h
opened_by_place cell (Some x) l o gs site h = h

opened_place : (owners : List ℕ) (cell : Var → ℕ) (ls : List CoreLink) (gs : List (Frame Mark CoreWork)) (site : Site) → nearest ((opened owners cell ls).frames ++ gs) site ≡ nearest gs site
opened_place owners cell [] gs site = refl
opened_place owners cell (l ∷ ls) gs site =
    opened_by_place cell (write_in owners (out-CoreLink l)) (link_in owners (out-CoreLink l)) (opened owners cell ls) gs site (opened_place owners cell ls gs site)

waiting_site : (w : Waits) (ls : List CoreLink) → site_in (waiting w ls) ≡ None
waiting_site WaitsAfter ls = refl
waiting_site (WaitsBehind v) ls = refl
waiting_site (WaitsKeyed base) ls = refl
waiting_site (WaitsToStore base k) ls = refl
waiting_site (WaitsToStep u base k) ls = refl
waiting_site (WaitsSpread list) ls = refl
waiting_site (WaitsSpreadStep list it) ls = refl
waiting_site (WaitsSpreadValue list it) ls = refl
waiting_site (WaitsHeritage f heritage) ls = refl
waiting_site WaitsPrototype ls = refl
waiting_site WaitsYield ls = refl
waiting_site (WaitsDelegate it) ls = refl
waiting_site WaitsDelegateStart ls = refl
waiting_site (WaitsDelegateTurn it kind v) ls = refl
waiting_site (WaitsDelegateDone it kind v) ls = refl
waiting_site (WaitsDelegateValue kind) ls = refl

waiting_place : (w : Waits) (ls : List CoreLink) (fs : List (Frame Mark CoreWork)) (site : Site) → nearest (waiting w ls ∷ fs) site ≡ nearest fs site
waiting_place w ls fs site = ap (λ s. or_else s (nearest fs site)) (waiting_site w ls)

tail_place : (owners : List ℕ) (seats : Seats) (e e2 : Environment) (fs gs : List (Frame Mark CoreWork)) (ys : List CoreStat) (site : Site) → Tail owners seats e fs ys e2 gs → nearest fs site ≡ nearest gs site
tail_place owners seats e e2 fs gs ys site no_scope = refl
tail_place owners seats e e2 fs gs ys site (a_scope xs is_scope tail) = tail_place owners seats _ _ _ _ _ site tail

pub places : PlacesAreKept
places owners seats e fs gs site none = refl
places owners seats e fs gs site (plain {f = f} h r) = ap (λ at. or_else (site_in f) at) (places owners seats _ _ _ site r)
places owners seats e fs gs site (waits {e = e2} {fs = fs2} {gs = gs2} w ls r) =
    let o = opened owners (cell_along seats e2) ls in
    waiting_place w o.links (o.frames ++ gs2) site ∙ opened_place owners _ ls gs2 site ∙ places owners seats _ _ _ site r ∙ sym (waiting_place w ls fs2 site)
places owners seats e fs gs site (waits_for_cell {gs = gs2} x l ls h r) = opened_place owners _ ls gs2 site ∙ places owners seats _ _ _ site r
places owners seats e fs gs site (part {gs = gs2} p h r) = ap (λ at. or_else p.site at) (opened_place owners _ p.links gs2 site ∙ places owners seats _ _ _ site r)
places owners seats e fs gs site (fetch {gs = gs2} base k p r) = opened_place owners _ p.links gs2 site ∙ places owners seats _ _ _ site r
places owners seats e fs gs site (rest xs tail r) = places owners seats _ _ _ site r ∙ sym (tail_place owners seats _ _ _ _ _ site tail)
places owners seats e fs gs site (choice body cases r) = places owners seats _ _ _ site r
places owners seats e fs gs site (subject cases r) = places owners seats _ _ _ site r
places owners seats e fs gs site (matching v cases all r) = places owners seats _ _ _ site r
places owners seats e fs gs site (loop_test l r) = places owners seats _ _ _ site r
places owners seats e fs gs site (loop_body l r) = places owners seats _ _ _ site r
places owners seats e fs gs site (loop_update l r) = places owners seats _ _ _ site r
places owners seats e fs gs site (target label r) = places owners seats _ _ _ site r
places owners seats e fs gs site (returning r) = places owners seats _ _ _ site r
places owners seats e fs gs site (throwing r) = places owners seats _ _ _ site r
places owners seats e fs gs site (catching x names handler r) = places owners seats _ _ _ site r
places owners seats e fs gs site (finishing last r) = places owners seats _ _ _ site r
places owners seats e fs gs site (pending c r) = places owners seats _ _ _ site r
places owners seats e fs gs site (restore h r) = places owners seats _ _ _ site r
places owners seats e fs gs site (derived n r) = places owners seats _ _ _ site r
places owners seats e fs gs site (instantiates body r) = places owners seats _ _ _ site r
places owners seats e fs gs site (prototype body r) = places owners seats _ _ _ site r
places owners seats e fs gs site (starts body r) = places owners seats _ _ _ site r
places owners seats e fs gs site (resumes n r) = places owners seats _ _ _ site r
