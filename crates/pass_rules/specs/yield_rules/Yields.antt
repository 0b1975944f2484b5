-- flatten_yields: each yield becomes a statement, a yield* becomes a loop with a delegating yield, and the statements that stand in
-- expressions stand before these. What has to be kept across them goes into slots, temporaries of the function that are numbered by
-- depth. A fold over the four types; each node is a function of the first slot that is free.
use Rattle.std.specs.Prelude.{ℕ, zero, suc, ◌+◌, ◌-◌, max, Bool, true, false, cond, not, ◌&&◌, ◌||◌, nat_lt, length, List, [], ◌∷◌, ◌++◌, map, Option, None, Some}
use Rattle.std.specs.List.{list_any}
use Rattle.es_outside.specs.declared.events.Site.{Site}
use Rattle.core_ast.specs.declared.gathering.Mentions.{Mentions}
use Rattle.core_ast.specs.declared.naming.Fresh.{Fresh}
use Rattle.core_ast.specs.declared.parts.Var.{Var}
use Rattle.core_ast.specs.declared.parts.Label.{Label}
use Rattle.core_ast.specs.declared.parts.ScopedName.{ScopedName}
use Rattle.core_ast.specs.declared.parts.Binary.{Binary}
use Rattle.core_ast.specs.declared.parts.Binary.TheVariants.{Same}
use Rattle.core_ast.specs.declared.parts.Unary.TheVariants.{Not}
use Rattle.core_ast.specs.declared.parts.Key.{Key}
use Rattle.core_ast.specs.declared.parts.Key.TheVariants.{WordKey, TextKey}
use Rattle.core_ast.specs.declared.parts.When.{When}
use Rattle.core_ast.specs.declared.parts.When.TheVariants.{Falsy}
use Rattle.core_ast.specs.declared.parts.Constant.TheVariants.{Truth, Integer}
use Rattle.core_ast.specs.declared.parts.CoreHead.{CoreHead}
use Rattle.core_ast.specs.declared.parts.CoreHead.TheVariants as head
use Rattle.core_ast.specs.declared.parts.CoreOp.{CoreOp}
use Rattle.core_ast.specs.declared.parts.CoreOp.TheVariants as op
use Rattle.core_ast.specs.declared.parts.Primitive.TheVariants.{DelegateStep, IterStart, ToText}
use Rattle.core_ast.specs.declared.tree.CoreExpr.{CoreExpr, out-CoreExpr, fold-CoreExpr}
use Rattle.core_ast.specs.declared.tree.CoreCase.{CoreCase, roll-CoreCase, fold-CoreCase}
use Rattle.core_ast.specs.declared.tree.CoreLink.{CoreLink, fold-CoreLink}
use Rattle.core_ast.specs.declared.tree.CoreLink.TheVariants as link
use Rattle.core_ast.specs.declared.tree.CoreStat.{CoreStat, fold-CoreStat}
use Rattle.core_ast.specs.declared.tree.CoreStat.TheVariants as stat
use Rattle.core_ast.specs.declared.tree.CoreLink.TheOpen as layer
use Rattle.core_ast.specs.declared.tree.CoreLink.TheOpen.{CoreLink-F, CoreStat-F, CoreCase-F, CoreExpr-F}
use Rattle.core_ast.specs.declared.whole.Core.{Core}
use Rattle.core_ast.specs.declared.whole.CoreFunction.{CoreFunction}
use Rattle.core_ast.specs.declared.whole.CorePart.{CorePart}
use Rattle.core_ast.specs.Lawful.{is_empty}
use Rattle.core_ast.specs.Mentions.{function_mentions, part_mentions}
use Rattle.core_ast.specs.Made.{act, acting, constant, expression, linked, undefined, variable}
use Rattle.core_ast.specs.Names.{next, with_hint}
use Rattle.pass_rules.specs.declared.yield_rules.spilling.Chain.{Chain}
use Rattle.pass_rules.specs.declared.yield_rules.spilling.Matching.{Matching}
use Rattle.pass_rules.specs.declared.yield_rules.spilling.Place.{Place}
use Rattle.pass_rules.specs.declared.yield_rules.spilling.Reference.{Reference}
use Rattle.pass_rules.specs.declared.yield_rules.spilling.Reference.TheVariants.{Named, Keyed}
use Rattle.pass_rules.specs.declared.yield_rules.spilling.Settled.{Settled}
use Rattle.pass_rules.specs.declared.yield_rules.spilling.Spilled.{Spilled}
use Rattle.pass_rules.specs.declared.yield_rules.spilling.SpilledCase.{SpilledCase}

-- ---- slots

abbrev pub slot : Place → Var
slot p = record { 0 = p.slot }

abbrev pub label : Place → Label
label p = record { 0 = p.label }

-- with so many slots taken
abbrev pub deeper : ℕ → Place → Place
deeper n p = record { slot = p.slot + n; label = p.label }

-- under a statement with the place's label
abbrev pub under : Place → Place
under p = record { slot = p.slot; label = p.label + 1 }

-- the value goes into the slot
abbrev pub kept : Place → CoreExpr → CoreStat
kept p x = stat.Do (linked x (act (op.Set (slot p))))

abbrev pub in_slot : Place → CoreExpr
in_slot p = variable (slot p)

-- ---- an expression so far: statements before it, and what is left, where a reference to a property stands apart

abbrev pub referring : Reference → CoreLink
referring (Named key site) = link.Strict (op.Member key) [] site
referring (Keyed keys site) = link.Strict op.Index keys site

abbrev pub whole : CoreExpr → Option Reference → CoreExpr
whole x None = x
whole x (Some r) = linked x (referring r)

abbrev pub rest : Chain → CoreExpr
rest c = whole c.base c.reference

abbrev pub going_on : List CoreStat → CoreExpr → Chain
going_on before x = record { before = before; base = x; reference = None }

unfoldable pub is_constant : CoreHead → Bool
is_constant (head.Constant c) = true
is_constant h = false

-- a host is no value
unfoldable pub is_host : CoreHead → Bool
is_host (head.Host h) = true
is_host h = false

abbrev pub is_bare_constant : CoreExpr → Bool
is_bare_constant x = is_constant (out-CoreExpr x).head && is_empty (out-CoreExpr x).links

abbrev pub is_bare_host : CoreExpr → Bool
is_bare_host x = is_host (out-CoreExpr x).head && is_empty (out-CoreExpr x).links

-- what is evaluated for its effect goes behind these; a constant has none
abbrev pub with_effects : CoreExpr → List CoreStat → List CoreStat
with_effects x xs = cond (is_bare_constant x) xs (xs ++ stat.Do x ∷ [])

-- ---- parts: up to the last that has statements, each goes into a slot

abbrev pub has : Spilled → Bool
has s = not (is_empty s.before)

-- the place behind the last that has statements, of these from the place i on; it was so far
abbrev pub behind_last : ℕ → ℕ → List Spilled → ℕ
behind_last i last [] = last
behind_last i last (s ∷ ss) = behind_last (i + 1) (cond (has s) (i + 1) last) ss

abbrev pub settle_one : Place → Bool → Spilled → Settled → Settled
settle_one p goes_on s t = cond goes_on
    (record { before = t.before ++ s.before ++ kept p s.rest ∷ []; parts = t.parts ++ in_slot p ∷ [] })
    (record { before = t.before ++ s.before; parts = t.parts ++ s.rest ∷ [] })

abbrev pub settle : Place → ℕ → ℕ → List Spilled → Settled → Settled
settle p i last [] t = t
settle p i last (s ∷ ss) t = settle (deeper 1 p) (i + 1) last ss (settle_one p (nat_lt (i + 1) last) s t)

abbrev pub settled : Place → List Spilled → Settled
settled p ss = settle p 0 (behind_last 0 0 ss) ss (record { before = []; parts = [] })

-- each is turned with one slot more taken than that before it
abbrev pub each_at : List (Place → Spilled) → Place → List Spilled
each_at [] p = []
each_at (f ∷ fs) p = f p ∷ each_at fs (deeper 1 p)

-- ---- strict links

-- how many slots stand before those of the parts: of the current value, of a reference its base and its key or the function, and of
-- the old value
unfoldable pub room : CoreOp → ℕ
room op.Call = 2
room op.Put = 2
room (op.Update b) = 3
room o = 1

-- throws where the base has no properties, since no property has this name
abbrev pub base_check : Place → CoreStat
base_check p = stat.Do (linked (in_slot p) (act (op.Member (TextKey (64 ∷ 64 ∷ 98 ∷ 97 ∷ 115 ∷ 101 ∷ [])))))

abbrev pub last_of : {A : Type 0} → List A → Option A
last_of [] = None
last_of (x ∷ []) = Some x
last_of (x ∷ y ∷ ys) = last_of (y ∷ ys)

abbrev pub key_kept : Place → Option CoreExpr → List CoreStat → List CoreStat
key_kept p None xs = xs
key_kept p (Some key) xs = xs ++ kept (deeper 1 p) (linked key (act (op.Primitive ToText))) ∷ []

-- a reference whose base stands in a slot is kept: the base is checked, and its converted key goes into the next slot
unfoldable pub fixed : Place → Reference → List CoreStat → List CoreStat
fixed p (Named key site) xs = xs ++ base_check p ∷ []
fixed p (Keyed keys site) xs = key_kept p (last_of keys) (xs ++ base_check p ∷ [])

unfoldable pub target : Place → Reference → CoreExpr
target p (Named key site) = linked (in_slot p) (link.Strict (op.Member key) [] site)
target p (Keyed keys site) = linked (in_slot p) (link.Strict op.Index (in_slot (deeper 1 p) ∷ []) site)

-- the current value is kept before the parts
abbrev pub behind_slot : Place → CoreOp → Settled → Option Site → Chain → Chain
behind_slot p o t site c = going_on (c.before ++ kept p (rest c) ∷ [] ++ t.before) (linked (in_slot p) (link.Strict o t.parts site))

-- a host's arguments have nothing before them
abbrev pub called_host : CoreOp → Settled → Option Site → Chain → Chain
called_host o t site c = going_on (c.before ++ t.before) (linked c.base (link.Strict o t.parts site))

-- a method is read before its arguments, into the slot behind its object
abbrev pub method_kept : Place → CoreExpr → Reference → List CoreStat → List CoreStat
method_kept p base r xs = xs ++ kept p base ∷ [] ++ kept (deeper 1 p) (linked (in_slot p) (referring r)) ∷ []

abbrev pub method_call : Place → List CoreExpr → Option Site → CoreExpr
method_call p parts site = linked (in_slot (deeper 1 p)) (link.Strict op.CallWith (in_slot p ∷ parts) site)

abbrev pub called_method : Place → Settled → Option Site → List CoreStat → CoreExpr → Reference → Chain
called_method p t site before base r = going_on (method_kept p base r before ++ t.before) (method_call p t.parts site)

abbrev pub called_function : Place → CoreOp → Settled → Option Site → Chain → Chain
called_function p o t site c = cond (is_bare_host c.base) (called_host o t site c) (behind_slot p o t site c)

abbrev pub called : Place → Settled → Option Site → Chain → Option Reference → Chain
called p t site c None = called_function p op.Call t site c
called p t site c (Some r) = called_method p t site c.before c.base r

abbrev pub reference_kept : Place → CoreExpr → Reference → List CoreStat → List CoreStat
reference_kept p base r xs = fixed p r (xs ++ kept p base ∷ [])

abbrev pub put : Place → Settled → Option Site → Chain → Option Reference → Chain
put p t site c None = behind_slot p op.Put t site c
put p t site c (Some r) = going_on
    (reference_kept p c.base r c.before ++ t.before)
    (linked (target p r) (link.Strict op.Put t.parts site))

-- the old value is read before the part
abbrev pub old_kept : Place → CoreExpr → Reference → List CoreStat → List CoreStat
old_kept p base r xs = reference_kept p base r xs ++ kept (deeper 2 p) (target p r) ∷ []

abbrev pub changed : Place → Binary → List CoreExpr → CoreExpr
changed p b parts = linked (in_slot (deeper 2 p)) (link.Strict (op.Operator b) parts None)

abbrev pub updated : Place → Binary → Settled → Option Site → Chain → Option Reference → Chain
updated p b t site c None = behind_slot p (op.Update b) t site c
updated p b t site c (Some r) = going_on
    (old_kept p c.base r c.before ++ t.before)
    (linked (target p r) (link.Strict op.Put (changed p b t.parts ∷ []) site))

-- the current value of a comma is but its effect
abbrev pub then_part : Settled → Option Site → Chain → Chain
then_part t site c = going_on (with_effects (rest c) c.before ++ t.before) (linked undefined (link.Strict op.Then t.parts site))

abbrev pub indexed : Place → Settled → Option Site → Chain → Chain
indexed p t site c = record {
  before = c.before ++ kept p (rest c) ∷ [] ++ t.before;
  base = in_slot p;
  reference = Some (Keyed t.parts site);
}

unfoldable pub behind_statements : Place → CoreOp → Settled → Option Site → Chain → Chain
behind_statements p op.Index t site c = indexed p t site c
behind_statements p op.Call t site c = called p t site c c.reference
behind_statements p op.CallList t site c = called_function p op.CallList t site c
behind_statements p op.Put t site c = put p t site c c.reference
behind_statements p (op.Update b) t site c = updated p b t site c c.reference
behind_statements p op.Then t site c = then_part t site c
behind_statements p o t site c = behind_slot p o t site c

-- ---- yields

-- the statement hands the value out, and leaves what comes back in the slot
abbrev pub yielded : Place → Chain → Chain
yielded p c = going_on (c.before ++ stat.Yield (rest c) None (slot p) ∷ []) (in_slot p)

abbrev pub two : CoreExpr → CoreOp → CoreExpr → CoreExpr
two x o y = linked x (acting o y)

abbrev pub when : CoreExpr → List CoreStat → CoreStat
when test body = stat.If (roll-CoreCase (record { test = Some test; body = body }) ∷ [])

abbrev pub number : ℕ → CoreExpr
number n = constant (Integer n)

abbrev pub is_same : CoreExpr → CoreExpr → CoreExpr
is_same x y = two x (op.Operator Same) y

abbrev pub property : Place → List ℕ → CoreExpr
property p name = linked (in_slot p) (act (op.Member (WordKey name)))

abbrev pub leave : Place → CoreStat
leave p = stat.Jump false (Some (label p))

-- `yield*` (6th edition, 14.4.14): in slots the iterator, the kind of the last resumption (0 next, 1 throw, 2 return), its value, and
-- the result object, which is handed out as it is
abbrev pub value_name : List ℕ
value_name = 118 ∷ 97 ∷ 108 ∷ 117 ∷ 101 ∷ []

abbrev pub done_name : List ℕ
done_name = 100 ∷ 111 ∷ 110 ∷ 101 ∷ []

abbrev pub delegate_step : Place → CoreExpr
delegate_step p =
    linked (in_slot p) (link.Strict (op.Primitive DelegateStep) (in_slot (deeper 1 p) ∷ in_slot (deeper 2 p) ∷ []) None)

-- the iterator has no `return`, so its return is the generator's
abbrev pub no_return : Place → CoreStat
no_return p = when (is_same (in_slot (deeper 3 p)) undefined) (stat.Return (in_slot (deeper 2 p)) ∷ [])

-- a return that is done is the generator's
abbrev pub returned : Place → CoreStat
returned p = when (is_same (in_slot (deeper 1 p)) (number 2)) (stat.Return (property (deeper 3 p) value_name) ∷ [])

abbrev pub is_done : Place → CoreStat
is_done p = when (property (deeper 3 p) done_name) (returned p ∷ leave p ∷ [])

abbrev pub delegating : Place → CoreStat
delegating p = stat.Yield (in_slot (deeper 3 p)) (Some (slot (deeper 1 p))) (slot (deeper 2 p))

abbrev pub delegate_body : Place → List CoreStat
delegate_body p = kept (deeper 3 p) (delegate_step p) ∷ no_return p ∷ is_done p ∷ delegating p ∷ []

abbrev pub delegate_loop : Place → CoreStat
delegate_loop p = stat.Loop (label p ∷ []) None None (delegate_body p)

abbrev pub delegate_begin : Place → CoreExpr → List CoreStat → List CoreStat
delegate_begin p x xs =
    xs ++ kept p (two x (op.Primitive IterStart) (number 0)) ∷ [] ++ kept (deeper 1 p) (number 0) ∷ []
    ++ kept (deeper 2 p) undefined ∷ []

abbrev pub delegated : Place → Chain → Chain
delegated p c = going_on (delegate_begin p (rest c) c.before ++ delegate_loop p ∷ []) (property (deeper 3 p) value_name)

-- ---- links

abbrev pub refers : Chain → Reference → Chain
refers c r = record { before = c.before; base = rest c; reference = Some r }

abbrev pub plain : CoreOp → List CoreExpr → Option Site → Chain → Chain
plain o parts site c = going_on c.before (linked (rest c) (link.Strict o parts site))

abbrev pub member : Key → List CoreExpr → Option Site → Chain → Chain
member key parts site c = cond (is_empty parts) (refers c (Named key site)) (plain (op.Member key) parts site c)

unfoldable pub behind_value : Place → CoreOp → List CoreExpr → Option Site → Chain → Chain
behind_value p op.Yield parts site c = yielded p c
behind_value p op.Delegate parts site c = delegated p c
behind_value p (op.Member key) parts site c = member key parts site c
behind_value p op.Index parts site c = refers c (Keyed parts site)
behind_value p o parts site c = plain o parts site c

abbrev pub strict : Place → CoreOp → Settled → Option Site → Chain → Chain
strict p o t site c = cond (is_empty t.before) (behind_value p o t.parts site c) (behind_statements p o t site c)

unfoldable pub test_of : Place → When → CoreExpr
test_of p Falsy = linked (in_slot p) (act (op.Unary Not))
test_of p w = in_slot p

-- a branch leaves its value in the slot
abbrev pub branch : Place → Spilled → List CoreStat
branch p s = s.before ++ kept p s.rest ∷ []

abbrev pub case_of : Option CoreExpr → List CoreStat → CoreCase
case_of test body = roll-CoreCase (record { test = test; body = body })

-- the current value goes into the slot, and the cases leave theirs there
abbrev pub branched : Place → List CoreCase → Chain → Chain
branched p cases c = going_on (c.before ++ kept p (rest c) ∷ [] ++ stat.If cases ∷ []) (in_slot p)

abbrev pub first_case : Place → When → Spilled → CoreCase
first_case p w s = case_of (Some (test_of p w)) (branch p s)

abbrev pub one_branch : Place → When → Spilled → Chain → Chain
one_branch p w taken c = cond (has taken)
    (branched p (first_case p w taken ∷ []) c)
    (going_on c.before (linked (rest c) (link.Lazy w taken.rest None)))

abbrev pub two_cases : Place → When → Spilled → Spilled → List CoreCase
two_cases p w taken other = first_case p w taken ∷ case_of None (branch p other) ∷ []

abbrev pub two_branches : Place → When → Spilled → Spilled → Chain → Chain
two_branches p w taken other c = cond (has taken || has other)
    (branched p (two_cases p w taken other) c)
    (going_on c.before (linked (rest c) (link.Lazy w taken.rest (Some other.rest))))

-- ---- the walk

abbrev pub Spills : Type 0
Spills = Place → Spilled

abbrev pub Turns : Type 0
Turns = Place → Chain → Chain

abbrev pub Adds : Type 0
Adds = Place → List CoreStat → List CoreStat

-- a case, by the places of its test and of its body
abbrev pub Cased : Type 0
Cased = Place → Place → SpilledCase

abbrev pub Layer : (Type 0 → Type 0 → Type 0 → Type 0 → Type 0) → Type 0
Layer Of = Of Turns Adds Cased Spills

abbrev pub all_at : {A : Type 0} → List (Place → A → A) → Place → A → A
all_at [] p x = x
all_at (f ∷ fs) p x = all_at fs p (f p x)

abbrev pub parts_settled : Place → CoreOp → List Spills → Settled
parts_settled p o parts = settled (deeper (room o) p) (each_at parts (deeper (room o) p))

abbrev pub link_step : Layer CoreLink-F → Turns
link_step (layer.Strict o parts site) p c = strict p o (parts_settled p o parts) site c
link_step (layer.Lazy w taken None) p c = one_branch p w (taken (deeper 1 p)) c
link_step (layer.Lazy w taken (Some other)) p c = two_branches p w (taken (deeper 1 p)) (other (deeper 1 p)) c
link_step (layer.Run body) p c = going_on (all_at body p (with_effects (rest c) c.before)) undefined

abbrev pub finished : Chain → Spilled
finished c = record { before = c.before; rest = rest c }

abbrev pub begun : Option Site → CoreHead → Chain
begun site h = going_on [] (expression site h [])

abbrev pub expr_step : Layer CoreExpr-F → Spills
expr_step x p = finished (all_at x.links p (begun x.site x.head))

abbrev pub cased : Option Spilled → List CoreStat → SpilledCase
cased None body = record { before = []; test = None; body = body }
cased (Some s) body = record { before = s.before; test = Some s.rest; body = body }

abbrev pub perhaps_at : Option Spills → Place → Option Spilled
perhaps_at None p = None
perhaps_at (Some f) p = Some (f p)

abbrev pub case_step : Layer CoreCase-F → Cased
case_step x q p = cased (perhaps_at x.test q) (all_at x.body p [])

-- ---- statements

abbrev pub said : (CoreExpr → CoreStat) → Spilled → List CoreStat → List CoreStat
said f s xs = xs ++ s.before ++ f s.rest ∷ []

abbrev pub cases_at : List Cased → Place → Place → List SpilledCase
cases_at cs q p = map (λ f. f q p) cs

abbrev pub case_has : SpilledCase → Bool
case_has c = not (is_empty c.before)

abbrev pub any_case_has : List SpilledCase → Bool
any_case_has cs = list_any case_has cs

abbrev pub later_has : List SpilledCase → Bool
later_has [] = false
later_has (c ∷ cs) = any_case_has cs

abbrev pub cases_left : List SpilledCase → List CoreCase
cases_left cs = map (λ c. case_of c.test c.body) cs

-- the statements before the tests, of which but the first has any
abbrev pub cases_before : List SpilledCase → List CoreStat → List CoreStat
cases_before [] xs = xs
cases_before (c ∷ cs) xs = cases_before cs (xs ++ c.before)

-- a test after the other, behind a label that each case leaves in the end
abbrev pub tested : Place → SpilledCase → Option CoreExpr → List CoreStat → List CoreStat
tested p c None xs = xs ++ c.body
tested p c (Some t) xs = xs ++ c.before ++ when t (c.body ++ leave p ∷ []) ∷ []

abbrev pub all_tested : Place → List SpilledCase → List CoreStat → List CoreStat
all_tested p [] xs = xs
all_tested p (c ∷ cs) xs = all_tested p cs (tested p c c.test xs)

abbrev pub chosen : Place → List SpilledCase → List CoreStat → List CoreStat
chosen p cs xs = cond (later_has cs)
    (xs ++ stat.Labelled (label p) (all_tested p cs []) ∷ [])
    (cases_before cs xs ++ stat.If (cases_left cs) ∷ [])

-- of a switch the number of the case that is meant goes into the second slot, and a switch on the numbers follows
abbrev pub match_case : Place → ℕ → List CoreStat → CoreExpr → List CoreStat → List CoreStat
match_case p i before t xs =
    xs ++ before ++ when (is_same (in_slot p) t) (kept (deeper 1 p) (number i) ∷ leave p ∷ []) ∷ []

abbrev pub matched_test : Place → ℕ → SpilledCase → Option CoreExpr → Matching → Matching
matched_test p i c None m = record { tests = m.tests; cases = m.cases ++ case_of (Some (number i)) c.body ∷ []; default = Some i }
matched_test p i c (Some t) m = record {
  tests = match_case p i c.before t m.tests;
  cases = m.cases ++ case_of (Some (number i)) c.body ∷ [];
  default = m.default;
}

abbrev pub all_matched : Place → ℕ → List SpilledCase → Matching → Matching
all_matched p i [] m = m
all_matched p i (c ∷ cs) m = all_matched p (i + 1) cs (matched_test p i c c.test m)

abbrev pub default_number : ℕ → Option ℕ → ℕ
default_number none None = none
default_number none (Some i) = i

abbrev pub switched_late : Place → Matching → ℕ → List CoreStat
switched_late p m count =
    stat.Labelled (label p) (m.tests ++ kept (deeper 1 p) (number (default_number count m.default)) ∷ [])
    ∷ stat.Switch (in_slot (deeper 1 p)) m.cases ∷ []

abbrev pub no_match : Matching
no_match = record { tests = []; cases = []; default = None }

abbrev pub switched : Place → Spilled → List SpilledCase → List CoreStat → List CoreStat
switched p s cs xs = cond (any_case_has cs)
    (xs ++ s.before ++ kept p s.rest ∷ [] ++ switched_late p (all_matched p 0 cs no_match) (length cs))
    (cases_before cs (xs ++ s.before) ++ stat.Switch s.rest (cases_left cs) ∷ [])

-- ---- loops

abbrev pub has_maybe : Option Spilled → Bool
has_maybe None = false
has_maybe (Some s) = has s

abbrev pub rest_maybe : Option Spilled → Option CoreExpr
rest_maybe None = None
rest_maybe (Some s) = Some s.rest

-- where an update has statements, a slot says whether a turn was made
abbrev pub loop_place : Place → Option Spilled → Place
loop_place p u = cond (has_maybe u) (deeper 1 (under p)) (under p)

abbrev pub flag : Bool → CoreExpr
flag b = constant (Truth b)

abbrev pub exit : Place → Option Spilled → List CoreStat
exit p None = []
exit p (Some s) = s.before ++ when (linked s.rest (act (op.Unary Not))) (leave p ∷ []) ∷ []

abbrev pub turn : Place → Option Spilled → List CoreStat
turn p None = []
turn p (Some s) = when (in_slot p) (s.before ++ stat.Do s.rest ∷ []) ∷ [] ++ kept p (flag true) ∷ []

-- a loop with its test, and its update, in its body
abbrev pub headed : Place → List Label → Option Spilled → Option CoreExpr → List CoreStat → CoreStat
headed p labels t u body = stat.Loop (labels ++ label p ∷ []) None u (exit p t ++ body)

abbrev pub turned : Place → List Label → Option Spilled → Option Spilled → List CoreStat → CoreStat
turned p labels t u body = stat.Loop (labels ++ label p ∷ []) None None (turn p u ++ exit p t ++ body)

abbrev pub looped : Place → List Label → Option Spilled → Option Spilled → List CoreStat → List CoreStat → List CoreStat
looped p labels t u body xs = cond (has_maybe u)
    (xs ++ kept p (flag false) ∷ [] ++ turned p labels t u body ∷ [])
    (cond (has_maybe t)
    (xs ++ headed p labels t (rest_maybe u) body ∷ [])
    (xs ++ stat.Loop labels (rest_maybe t) (rest_maybe u) body ∷ []))

abbrev pub loop_flat : Place → List Label → Option Spills → Option Spilled → List Adds → List CoreStat → List CoreStat
loop_flat p labels test u body xs =
    looped p labels (perhaps_at test (loop_place p u)) u (all_at body (loop_place p u) []) xs

abbrev pub stat_step : Layer CoreStat-F → Adds
stat_step (layer.Do x) p xs = said (λ e. stat.Do e) (x p) xs
stat_step (layer.If cases) p xs = chosen p (cases_at cases (under p) (under p)) xs
stat_step (layer.Switch subject cases) p xs = switched p (subject p) (cases_at cases (deeper 2 (under p)) (under p)) xs
stat_step (layer.Loop labels test update body) p xs = loop_flat p labels test (perhaps_at update (deeper 1 (under p))) body xs
stat_step (layer.Labelled l body) p xs = xs ++ stat.Labelled l (all_at body p []) ∷ []
stat_step (layer.Jump goes_on l) p xs = xs ++ stat.Jump goes_on l ∷ []
stat_step (layer.Return x) p xs = said (λ e. stat.Return e) (x p) xs
stat_step (layer.Throw x) p xs = said (λ e. stat.Throw e) (x p) xs
stat_step (layer.TryCatch block parameter names handler) p xs =
    xs ++ stat.TryCatch (all_at block p []) parameter names (all_at handler p []) ∷ []
stat_step (layer.TryFinally block last) p xs = xs ++ stat.TryFinally (all_at block p []) (all_at last p []) ∷ []
stat_step (layer.Scoped names body) p xs = xs ++ stat.Scoped names (all_at body p []) ∷ []
stat_step (layer.Yield value kind result) p xs = said (λ e. stat.Yield e kind result) (value p) xs

abbrev pub expr_spilled : CoreExpr → Spills
expr_spilled = fold-CoreExpr Turns Adds Cased Spills link_step stat_step case_step expr_step

abbrev pub link_spilled : CoreLink → Turns
link_spilled = fold-CoreLink Turns Adds Cased Spills link_step stat_step case_step expr_step

abbrev pub stat_spilled : CoreStat → Adds
stat_spilled = fold-CoreStat Turns Adds Cased Spills link_step stat_step case_step expr_step

abbrev pub case_spilled : CoreCase → Cased
case_spilled = fold-CoreCase Turns Adds Cased Spills link_step stat_step case_step expr_step

abbrev pub stats_spilled : List CoreStat → Place → List CoreStat
stats_spilled stats p = all_at (map stat_spilled stats) p []

-- ---- functions and parts: labels begin behind theirs, slots are new names, as many as are used

abbrev pub label_behind : List Label → ℕ → ℕ
label_behind [] n = n
label_behind (l ∷ ls) n = label_behind ls (max n (l.0 + 1))

abbrev pub name_behind : List Var → ℕ → ℕ
name_behind [] n = n
name_behind (x ∷ xs) n = name_behind xs (max n (x.0 + 1))

abbrev pub begins : Mentions → Fresh → Place
begins m fresh = record { slot = length fresh.hints; label = label_behind m.labels 0 }

-- how many slots are used behind the names that are drawn
abbrev pub slots : Mentions → Fresh → ℕ
slots m fresh = name_behind m.uses (length fresh.hints) - length fresh.hints

-- the names of so many slots, and what is drawn then
pub record Drawn : Type 0 where
  pub names : List Var
  pub fresh : Fresh

abbrev pub one_drawn : Drawn → Drawn
one_drawn d = record { names = d.names ++ next d.fresh ∷ []; fresh = with_hint None d.fresh }

abbrev pub drawn : ℕ → Fresh → Drawn
drawn zero fresh = record { names = []; fresh = fresh }
drawn (suc n) fresh = one_drawn (drawn n fresh)

abbrev pub function_at : Place → CoreFunction → CoreFunction
function_at p f = record f { setup = stats_spilled f.setup p; body = stats_spilled f.body p; step = stats_spilled f.step p }

pub record Made (A : Type 0) : Type 0 where
  pub made : A
  pub fresh : Fresh

abbrev pub with_slots : CoreFunction → List Var → CoreFunction
with_slots f names = record f { locals = f.locals ++ names }

abbrev pub slotted : CoreFunction → Drawn → Made CoreFunction
slotted f d = record { made = with_slots f d.names; fresh = d.fresh }

abbrev pub one_function : CoreFunction → Fresh → Made CoreFunction
one_function f fresh =
    let g = function_at (begins (function_mentions f) fresh) f in
    slotted g (drawn (slots (function_mentions g) fresh) fresh)

abbrev pub all_functions : List CoreFunction → List CoreFunction → Fresh → Made (List CoreFunction)
all_functions [] made fresh = record { made = made; fresh = fresh }
all_functions (f ∷ fs) made fresh =
    let m = one_function f fresh in
    all_functions fs (made ++ m.made ∷ []) m.fresh

abbrev pub part_at : Place → CorePart → CorePart
part_at p x = record x { instantiate = stats_spilled x.instantiate p; body = stats_spilled x.body p }

-- a slot as a name of a module
abbrev pub slot_name : Var → ScopedName
slot_name x = record { var = x; shared = false; mutable = true }

abbrev pub part_with_slots : CorePart → List Var → CorePart
part_with_slots x names = record x { names = x.names ++ map slot_name names }

abbrev pub slotted_part : CorePart → Drawn → Made CorePart
slotted_part x d = record { made = part_with_slots x d.names; fresh = d.fresh }

abbrev pub one_part : CorePart → Fresh → Made CorePart
one_part x fresh =
    let y = part_at (begins (part_mentions x) fresh) x in
    slotted_part y (drawn (slots (part_mentions y) fresh) fresh)

abbrev pub all_parts : List CorePart → List CorePart → Fresh → Made (List CorePart)
all_parts [] made fresh = record { made = made; fresh = fresh }
all_parts (x ∷ xs) made fresh =
    let m = one_part x fresh in
    all_parts xs (made ++ m.made ∷ []) m.fresh

abbrev pub with_yields_flat : Core → Core
with_yields_flat core =
    let fs = all_functions core.functions [] core.fresh in
    let ps = all_parts core.parts [] fs.fresh in
    record core { functions = fs.made; parts = ps.made; fresh = ps.fresh }
