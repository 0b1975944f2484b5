-- A lawful core is lawful where scopes are flattened.
use Rattle.std.specs.List.{list_all, filter, flat_map}
use Rattle.std.proofs.Common.{◌≡◌, ℕ, ◌+◌, ◌<◌, suc, zero, Bool, true, false, ◌&&◌, not, cond, nat_eq, nat_lt, length, get_or, set, replicate, List, [], ◌∷◌, ◌++◌, map, refl, sym, ap, arith, subst, ◌∙◌}
use Rattle.std.proofs.lemmas.Bool.{false≢true, lt-ltb}
use Rattle.std.proofs.lemmas.List.{length-set, length-replicate}
use Rattle.core_ast.specs.declared.gathering.Mentions.{Mentions}
use Rattle.core_ast.specs.declared.parts.FunctionId.{FunctionId}
use Rattle.core_ast.specs.declared.parts.ScopedName.{ScopedName}
use Rattle.core_ast.specs.declared.parts.Var.{Var}
use Rattle.core_ast.specs.declared.whole.Core.{Core}
use Rattle.core_ast.specs.declared.whole.CoreFunction.{CoreFunction}
use Rattle.core_ast.specs.declared.whole.CorePart.{CorePart}
use Rattle.core_ast.specs.declared.tree.CoreStat.{CoreStat}
use Rattle.core_ast.specs.Lawful as lawful
use Rattle.core_ast.specs.Lawful.{IsLawfulFor, declared_in, held_in, is_generator, number_of, numbers, own_names, resumed, scoped_numbers}
use Rattle.core_ast.specs.Mentions.{function_mentions, none, part_mentions, stats_mentions}
use Rattle.pass_rules.specs.Cells as c
use Rattle.pass_rules.specs.Cells.{cells_at, is_foreign, is_shared, found, owners}
use Rattle.pass_rules.specs.Scopes as s
use Rattle.pass_rules.specs.pass_laws.Operations as ops
use Rattle.pass_rules.specs.pass_laws.Operations.{AllSuch, no_content}
use Rattle.pass_rules.proofs.pass_laws.Distinct.{count, count_more, each_once, all_differ_by}
use Rattle.pass_rules.proofs.pass_laws.FlatLaws.{stats_stay_lawful}
use Rattle.pass_rules.proofs.pass_laws.FlatMentions.{Like, flat_like}
use Rattle.pass_rules.proofs.pass_laws.Scoped.{stats_drawn, stats_none}
use Rattle.pass_rules.proofs.pass_laws.Scopes.{stats_flat_are}
use Rattle.pass_rules.proofs.pass_laws.Starts.{any_stats}
use Rattle.pass_rules.specs.pass_laws.Levels.{anything}
use Rattle.pass_rules.proofs.pass_laws.Within.{left, right, both, either, more}

-- ## Cells: what a closure keeps is shared, and so is drawn

abbrev Shared : List ℕ → List Var → Type 0
Shared owners xs = list_all (is_shared owners) xs ≡ true

noted_by : (owners : List ℕ) (number : ℕ) (x : Var) (xs : List Var) (b : Bool) → (is_foreign owners number x && not (c.is_among x xs)) ≡ b → Shared owners xs → Shared owners (cond b (xs ++ x ∷ []) xs)
noted_by owners number x xs true e h = more (is_shared owners) xs x h (left _ _ (left _ _ e))
noted_by owners number x xs false e h = h

noted_shared : (owners : List ℕ) (number : ℕ) (x : Var) (xs : List Var) → Shared owners xs → Shared owners (c.noted owners number x xs)
noted_shared owners number x xs h = noted_by owners number x xs (is_foreign owners number x && not (c.is_among x xs)) refl h

all_noted_shared : (owners : List ℕ) (number : ℕ) (ys xs : List Var) → Shared owners xs → Shared owners (c.all_noted owners number ys xs)
all_noted_shared owners number [] xs h = h
all_noted_shared owners number (y ∷ ys) xs h = all_noted_shared owners number ys (c.noted owners number y xs) (noted_shared owners number y xs h)

all_held_shared : (owners : List ℕ) (number : ℕ) (before : List (List Var)) (fs : List FunctionId) (xs : List Var) → Shared owners xs → Shared owners (c.all_held owners number before fs xs)
all_held_shared owners number before [] xs h = h
all_held_shared owners number before (f ∷ fs) xs h = all_held_shared owners number before fs _ (all_noted_shared owners number (get_or before f.0 []) xs h)

abbrev AllShared : List ℕ → List (List Var) → Type 0
AllShared owners xss = list_all (λ xs. list_all (is_shared owners) xs) xss ≡ true

free_shared : (owners : List ℕ) (before : List (List Var)) (a : Mentions) → Shared owners (c.free owners before a)
free_shared owners before a = all_held_shared owners (length before + 1) before a.functions _ (all_noted_shared owners (length before + 1) a.uses [] refl)

all_free_shared : (owners : List ℕ) (before : List (List Var)) (ms : List Mentions) → AllShared owners before → AllShared owners (c.all_free owners before ms)
all_free_shared owners before [] h = h
all_free_shared owners before (a ∷ ms) h = all_free_shared owners (before ++ c.free owners before a ∷ []) ms (more (λ xs. list_all (is_shared owners) xs) before (c.free owners before a) h (free_shared owners before a))

at_shared : (owners : List ℕ) (xss : List (List Var)) (i : ℕ) → AllShared owners xss → Shared owners (get_or xss i [])
at_shared owners [] i h = refl
at_shared owners (xs ∷ xss) zero h = left _ _ h
at_shared owners (xs ∷ xss) (suc i) h = at_shared owners xss i (right _ _ h)

filter_shared : (owners : List ℕ) (f : Var → Bool) (xs : List Var) → Shared owners xs → Shared owners (filter f xs)
filter_shared owners f [] h = refl
filter_shared owners f (x ∷ xs) h = either (Shared owners) (f x) {x = x ∷ filter f xs} {y = filter f xs} (both (left _ _ h) (filter_shared owners f xs (right _ _ h))) (filter_shared owners f xs (right _ _ h))

cells_shared : (owners holders : List ℕ) (all : List (List Var)) (place : ℕ) → AllShared owners all → Shared owners (cells_at owners holders all place)
cells_shared owners holders all place h = filter_shared owners _ _ (at_shared owners all place h)

in_range : (xs : List ℕ) (i : ℕ) → not (nat_eq (get_or xs i 0) 0) ≡ true → i < length xs
in_range [] i h = absurd (false≢true h)
in_range (x ∷ xs) zero h = omega arith
in_range (x ∷ xs) (suc i) h = let e = in_range xs i h in omega arith

-- ## The table of owners is as long as the list of names

with_owners_length : (number : ℕ) (names : List ScopedName) (table : List ℕ) → length (c.with_owners number names table) ≡ length table
with_owners_length number [] table = refl
with_owners_length number (n ∷ names) table = with_owners_length number names (c.with_owner number n table) ∙ either (λ xs. length xs ≡ length table) n.shared {x = set table n.var.0 number} {y = table} (length-set table n.var.0 number) refl

all_owners_length : (number : ℕ) (ms : List Mentions) (table : List ℕ) → length (c.all_owners number ms table) ≡ length table
all_owners_length number [] table = refl
all_owners_length number (a ∷ ms) table = all_owners_length (number + 1) ms _ ∙ with_owners_length (number + 1) a.scoped table

owners_length : (names : ℕ) (ms : List Mentions) → length (owners names ms) ≡ names
owners_length names ms = all_owners_length 0 ms (replicate names 0) ∙ length-replicate names 0

-- ## Names below a number

abbrev Below : ℕ → List ℕ → Type 0
Below names xs = list_all (λ n. nat_lt n names) xs ≡ true

below_more : (names : ℕ) (xs ys : List ℕ) → Below names xs → Below names ys → Below names (xs ++ ys)
below_more names [] ys h k = k
below_more names (x ∷ xs) ys h k = both (left _ _ h) (below_more names xs ys (right _ _ h) k)

below_front : (names : ℕ) (xs ys : List ℕ) → Below names (xs ++ ys) → Below names xs
below_front names [] ys h = refl
below_front names (x ∷ xs) ys h = both (left _ _ h) (below_front names xs ys (right _ _ h))

below_back : (names : ℕ) (xs ys : List ℕ) → Below names (xs ++ ys) → Below names ys
below_back names [] ys h = h
below_back names (x ∷ xs) ys h = below_back names xs ys (right _ _ h)

shared_below : (owners : List ℕ) (xs : List Var) → Shared owners xs → Below (length owners) (numbers xs)
shared_below owners [] h = refl
shared_below owners (x ∷ xs) h = both (lt-ltb x.0 (length owners) (in_range owners x.0 (left _ _ h))) (shared_below owners xs (right _ _ h))

scoped_below : (names : ℕ) (xs : List ScopedName) → list_all (λ n. nat_lt n.var.0 names) xs ≡ true → Below names (numbers (s.vars xs))
scoped_below names [] h = refl
scoped_below names (x ∷ xs) h = both (left _ _ h) (scoped_below names xs (right _ _ h))

numbers_more : (xs ys : List Var) → numbers (xs ++ ys) ≡ numbers xs ++ numbers ys
numbers_more [] ys = refl
numbers_more (x ∷ xs) ys = ap (λ ns. x.0 ∷ ns) (numbers_more xs ys)

vars_numbers : (xs : List ScopedName) → numbers (s.vars xs) ≡ scoped_numbers xs
vars_numbers [] = refl
vars_numbers (x ∷ xs) = ap (λ ns. x.var.0 ∷ ns) (vars_numbers xs)

-- ## What functions mention

-- lawful, so to say: its statements are
record StatsAre (names hosts number : ℕ) (f : CoreFunction) : Type 0 where
  setup : lawful.stats_lawful f.setup (lawful.round_function names hosts number false) ≡ true
  body : lawful.stats_lawful f.body (lawful.round_function names hosts number (is_generator f.kind)) ≡ true
  step : lawful.stats_lawful f.step (lawful.round_function names hosts number false) ≡ true

stats_of : (names hosts number : ℕ) (f : CoreFunction) → lawful.function_lawful names hosts number f ≡ true → StatsAre names hosts number f
stats_of names hosts number f h = record { setup = right _ _ (left _ _ (left _ _ h)); body = right _ _ (left _ _ h); step = right _ _ h }

function_like : (names hosts number : ℕ) (owners : List ℕ) (cells : List Var) (f : CoreFunction) → lawful.function_lawful names hosts number f ≡ true → Like (function_mentions (s.function_flat owners cells f)) (function_mentions f)
function_like names hosts number owners cells f h =
    let q = stats_of names hosts number f h in
    flat_like owners f.step _ q.step _ _ (flat_like owners f.body _ q.body _ _ (flat_like owners f.setup _ q.setup none none (record { functions = refl; caught = refl })))

flat_none : (owners : List ℕ) (ss : List CoreStat) (a : Mentions) → (stats_mentions (s.stats_flat owners ss) a).scoped ≡ a.scoped
flat_none owners ss a = stats_none (s.stats_flat owners ss) (stats_flat_are anything owners ss [] (any_stats ss) refl) a

function_none : (owners : List ℕ) (cells : List Var) (f : CoreFunction) → (function_mentions (s.function_flat owners cells f)).scoped ≡ []
function_none owners cells f = flat_none owners f.step _ ∙ flat_none owners f.body _ ∙ flat_none owners f.setup none

function_drawn : (names hosts number : ℕ) (f : CoreFunction) → lawful.function_lawful names hosts number f ≡ true → list_all (λ n. nat_lt n.var.0 names) (function_mentions f).scoped ≡ true
function_drawn names hosts number f h =
    let q = stats_of names hosts number f h in
    stats_drawn f.step (lawful.round_function names hosts number false) q.step _ (stats_drawn f.body (lawful.round_function names hosts number (is_generator f.kind)) q.body _ (stats_drawn f.setup (lawful.round_function names hosts number false) q.setup none refl))

-- ## Functions

names_below : (names : ℕ) (f : CoreFunction) (cells more_locals : List Var) (owners : List ℕ) → Below names (own_names f ++ numbers f.cells) → Below names (numbers more_locals) → Below names (numbers cells)
    → Below names ((((number_of f.own ++ numbers f.parameters) ++ number_of f.arguments) ++ numbers (f.locals ++ more_locals)) ++ resumed f.resumption ++ numbers cells)
names_below names f cells more_locals owners h k m =
    let own = below_front names (own_names f) (numbers f.cells) h in
    let front = (number_of f.own ++ numbers f.parameters) ++ number_of f.arguments in
    let most = below_front names (front ++ numbers f.locals) (resumed f.resumption) own in
    below_more names _ (numbers cells) (below_more names _ (resumed f.resumption)
    (below_more names front (numbers (f.locals ++ more_locals)) (below_front names front (numbers f.locals) most)
    (subst (λ ns. Below names ns) (sym (numbers_more f.locals more_locals)) (below_more names (numbers f.locals) (numbers more_locals) (below_back names front (numbers f.locals) most) k)))
    (below_back names (front ++ numbers f.locals) (resumed f.resumption) own)) m

function_stays : (names hosts number : ℕ) (owners : List ℕ) (cells : List Var) (f : CoreFunction) → length owners ≡ names → Shared owners cells → lawful.function_lawful names hosts number f ≡ true → ops.function_such no_content f ≡ true
    → lawful.function_lawful names hosts number (s.function_flat owners cells f) ≡ true
function_stays names hosts number owners cells f e d h u =
    let q = stats_of names hosts number f h in
    both (both (both (both (both
    (names_below names f cells (s.vars (function_mentions f).scoped) owners (left _ _ (left _ _ (left _ _ (left _ _ (left _ _ h))))) (scoped_below names _ (function_drawn names hosts number f h)) (subst (λ n. Below n (numbers cells)) e (shared_below owners cells d)))
    (right _ _ (left _ _ (left _ _ (left _ _ (left _ _ h))))))
    (right _ _ (left _ _ (left _ _ (left _ _ h)))))
    (stats_stay_lawful owners f.setup [] (lawful.round_function names hosts number false) q.setup (left _ _ (left _ _ u)) refl))
    (stats_stay_lawful owners f.body [] (lawful.round_function names hosts number (is_generator f.kind)) q.body (right _ _ (left _ _ u)) refl))
    (stats_stay_lawful owners f.step [] (lawful.round_function names hosts number false) q.step (right _ _ u) refl)

functions_stay : (names hosts number : ℕ) (owners holders : List ℕ) (all : List (List Var)) (place : ℕ) (fs : List CoreFunction) → length owners ≡ names → AllShared owners all → lawful.functions_lawful names hosts number fs ≡ true → list_all (ops.function_such no_content) fs ≡ true
    → lawful.functions_lawful names hosts number (s.functions_flat owners holders all place fs) ≡ true
functions_stay names hosts number owners holders all place [] e d h u = refl
functions_stay names hosts number owners holders all place (f ∷ fs) e d h u =
    both (function_stays names hosts number owners (cells_at owners holders all place) f e (cells_shared owners holders all place d) (left _ _ h) (left _ _ u))
    (functions_stay names hosts (number + 1) owners holders all (place + 1) fs e d (right _ _ h) (right _ _ u))

-- ## Parts

part_like : (names hosts functions : ℕ) (owners : List ℕ) (p : CorePart) → lawful.part_lawful names hosts functions p ≡ true → Like (part_mentions (s.part_flat owners p)) (part_mentions p)
part_like names hosts functions owners p h = flat_like owners p.body _ (right _ _ h) _ _ (flat_like owners p.instantiate _ (right _ _ (left _ _ h)) none none (record { functions = refl; caught = refl }))

part_none : (owners : List ℕ) (p : CorePart) → (part_mentions (s.part_flat owners p)).scoped ≡ []
part_none owners p = flat_none owners p.body _ ∙ flat_none owners p.instantiate none

part_drawn : (names hosts functions : ℕ) (p : CorePart) → lawful.part_lawful names hosts functions p ≡ true → list_all (λ n. nat_lt n.var.0 names) (part_mentions p).scoped ≡ true
part_drawn names hosts functions p h = stats_drawn p.body (lawful.round_part names hosts functions) (right _ _ h) _ (stats_drawn p.instantiate (lawful.round_part names hosts functions) (right _ _ (left _ _ h)) none refl)

locals_drawn : (names : ℕ) (xs ys : List ScopedName) → list_all (λ n. nat_lt n.var.0 names) xs ≡ true → list_all (λ n. nat_lt n.var.0 names) ys ≡ true → list_all (λ n. nat_lt n.var.0 names) (xs ++ map s.local ys) ≡ true
locals_drawn names [] [] h k = refl
locals_drawn names [] (y ∷ ys) h k = both (left _ _ k) (locals_drawn names [] ys refl (right _ _ k))
locals_drawn names (x ∷ xs) ys h k = both (left _ _ h) (locals_drawn names xs ys (right _ _ h) k)

part_stays : (names hosts functions : ℕ) (owners : List ℕ) (p : CorePart) → lawful.part_lawful names hosts functions p ≡ true → ops.part_such no_content p ≡ true → lawful.part_lawful names hosts functions (s.part_flat owners p) ≡ true
part_stays names hosts functions owners p h u = both (both (locals_drawn names p.names _ (left _ _ (left _ _ h)) (part_drawn names hosts functions p h))
    (stats_stay_lawful owners p.instantiate [] (lawful.round_part names hosts functions) (right _ _ (left _ _ h)) (left _ _ u) refl))
    (stats_stay_lawful owners p.body [] (lawful.round_part names hosts functions) (right _ _ h) (right _ _ u) refl)

parts_stay : (names hosts functions : ℕ) (owners : List ℕ) (ps : List CorePart) → list_all (lawful.part_lawful names hosts functions) ps ≡ true → list_all (ops.part_such no_content) ps ≡ true → list_all (lawful.part_lawful names hosts functions) (map (s.part_flat owners) ps) ≡ true
parts_stay names hosts functions owners [] h u = refl
parts_stay names hosts functions owners (p ∷ ps) h u = both (part_stays names hosts functions owners p (left _ _ h) (left _ _ u)) (parts_stay names hosts functions owners ps (right _ _ h) (right _ _ u))

-- ## Names are declared once, and functions held once

locals_numbers : (xs : List ScopedName) → scoped_numbers (map s.local xs) ≡ scoped_numbers xs
locals_numbers [] = refl
locals_numbers (x ∷ xs) = ap (λ ns. x.var.0 ∷ ns) (locals_numbers xs)

scoped_more : (xs ys : List ScopedName) → scoped_numbers (xs ++ ys) ≡ scoped_numbers xs ++ scoped_numbers ys
scoped_more [] ys = refl
scoped_more (x ∷ xs) ys = ap (λ ns. x.var.0 ∷ ns) (scoped_more xs ys)

-- how often a number is declared by what is mentioned
mentioned_count : (n : ℕ) (a : Mentions) → count n (declared_in a) ≡ count n (scoped_numbers a.scoped) + count n (numbers a.caught)
mentioned_count n a = count_more n (scoped_numbers a.scoped) (numbers a.caught)

own_count : (n : ℕ) (f : CoreFunction) → count n (own_names f) ≡ count n (number_of f.own) + count n (numbers f.parameters) + count n (number_of f.arguments) + count n (numbers f.locals) + count n (resumed f.resumption)
own_count n f =
    let a = count_more n (((number_of f.own ++ numbers f.parameters) ++ number_of f.arguments) ++ numbers f.locals) (resumed f.resumption) in
    let b = count_more n ((number_of f.own ++ numbers f.parameters) ++ number_of f.arguments) (numbers f.locals) in
    let d = count_more n (number_of f.own ++ numbers f.parameters) (number_of f.arguments) in
    let e = count_more n (number_of f.own) (numbers f.parameters) in omega arith

function_declares : CoreFunction → List ℕ
function_declares f = own_names f ++ declared_in (function_mentions f)

function_count : (n names hosts number : ℕ) (owners : List ℕ) (cells : List Var) (f : CoreFunction) → lawful.function_lawful names hosts number f ≡ true
    → count n (own_names (s.function_flat owners cells f) ++ declared_in (function_mentions (s.function_flat owners cells f))) ≡ count n (own_names f ++ declared_in (function_mentions f))
function_count n names hosts number owners cells f h =
    let g = s.function_flat owners cells f in
    let a = count_more n (own_names g) (declared_in (function_mentions g)) in let b = count_more n (own_names f) (declared_in (function_mentions f)) in
    let d = own_count n g in let e = own_count n f in
    let i = mentioned_count n (function_mentions g) in let j = mentioned_count n (function_mentions f) in
    let k = ap (λ xs. count n (scoped_numbers xs)) (function_none owners cells f) in
    let l = ap (λ xs. count n (numbers xs)) (function_like names hosts number owners cells f h).caught in
    let o = ap (count n) (numbers_more f.locals (s.vars (function_mentions f).scoped)) in let p = count_more n (numbers f.locals) (numbers (s.vars (function_mentions f).scoped)) in
    let q = ap (count n) (vars_numbers (function_mentions f).scoped) in omega arith

functions_count : (n names hosts number : ℕ) (owners holders : List ℕ) (all : List (List Var)) (place : ℕ) (fs : List CoreFunction) → lawful.functions_lawful names hosts number fs ≡ true
    → count n (flat_map (λ f. own_names f ++ declared_in (function_mentions f)) (s.functions_flat owners holders all place fs)) ≡ count n (flat_map (λ f. own_names f ++ declared_in (function_mentions f)) fs)
functions_count n names hosts number owners holders all place [] h = refl
functions_count n names hosts number owners holders all place (f ∷ fs) h =
    let g = s.function_flat owners (cells_at owners holders all place) f in
    let a = count_more n (own_names g ++ declared_in (function_mentions g)) (flat_map (λ x. own_names x ++ declared_in (function_mentions x)) (s.functions_flat owners holders all (place + 1) fs)) in
    let b = count_more n (own_names f ++ declared_in (function_mentions f)) (flat_map (λ x. own_names x ++ declared_in (function_mentions x)) fs) in
    let d = function_count n names hosts number owners (cells_at owners holders all place) f (left _ _ h) in
    let e = functions_count n names hosts (number + 1) owners holders all (place + 1) fs (right _ _ h) in omega arith

part_count : (n names hosts functions : ℕ) (owners : List ℕ) (p : CorePart) → lawful.part_lawful names hosts functions p ≡ true
    → count n (scoped_numbers (s.part_flat owners p).names ++ declared_in (part_mentions (s.part_flat owners p))) ≡ count n (scoped_numbers p.names ++ declared_in (part_mentions p))
part_count n names hosts functions owners p h =
    let g = s.part_flat owners p in
    let a = count_more n (scoped_numbers g.names) (declared_in (part_mentions g)) in let b = count_more n (scoped_numbers p.names) (declared_in (part_mentions p)) in
    let i = mentioned_count n (part_mentions g) in let j = mentioned_count n (part_mentions p) in
    let k = ap (λ xs. count n (scoped_numbers xs)) (part_none owners p) in
    let l = ap (λ xs. count n (numbers xs)) (part_like names hosts functions owners p h).caught in
    let o = ap (count n) (scoped_more p.names (map s.local (part_mentions p).scoped)) in let q = count_more n (scoped_numbers p.names) (scoped_numbers (map s.local (part_mentions p).scoped)) in
    let r = ap (count n) (locals_numbers (part_mentions p).scoped) in omega arith

parts_count : (n names hosts functions : ℕ) (owners : List ℕ) (ps : List CorePart) → list_all (lawful.part_lawful names hosts functions) ps ≡ true
    → count n (flat_map (λ p. scoped_numbers p.names ++ declared_in (part_mentions p)) (map (s.part_flat owners) ps)) ≡ count n (flat_map (λ p. scoped_numbers p.names ++ declared_in (part_mentions p)) ps)
parts_count n names hosts functions owners [] h = refl
parts_count n names hosts functions owners (p ∷ ps) h =
    let g = s.part_flat owners p in
    let a = count_more n (scoped_numbers g.names ++ declared_in (part_mentions g)) (flat_map (λ x. scoped_numbers x.names ++ declared_in (part_mentions x)) (map (s.part_flat owners) ps)) in
    let b = count_more n (scoped_numbers p.names ++ declared_in (part_mentions p)) (flat_map (λ x. scoped_numbers x.names ++ declared_in (part_mentions x)) ps) in
    let d = part_count n names hosts functions owners p (left _ _ h) in
    let e = parts_count n names hosts functions owners ps (right _ _ h) in omega arith

held_by : (a b : Mentions) → Like a b → held_in a ≡ held_in b
held_by a b h = ap (λ fs. map (λ f. f.0) fs) h.functions

pair_more : {A : Type 0} {xs ys us vs : List A} → xs ≡ ys → us ≡ vs → xs ++ us ≡ ys ++ vs
pair_more {ys = ys} {us = us} e d = ap (λ zs. zs ++ us) e ∙ ap (λ zs. ys ++ zs) d

functions_held : (names hosts number : ℕ) (owners holders : List ℕ) (all : List (List Var)) (place : ℕ) (fs : List CoreFunction) → lawful.functions_lawful names hosts number fs ≡ true
    → flat_map (λ f. held_in (function_mentions f)) (s.functions_flat owners holders all place fs) ≡ flat_map (λ f. held_in (function_mentions f)) fs
functions_held names hosts number owners holders all place [] h = refl
functions_held names hosts number owners holders all place (f ∷ fs) h =
    pair_more (held_by _ _ (function_like names hosts number owners (cells_at owners holders all place) f (left _ _ h))) (functions_held names hosts (number + 1) owners holders all (place + 1) fs (right _ _ h))

parts_held : (names hosts functions : ℕ) (owners : List ℕ) (ps : List CorePart) → list_all (lawful.part_lawful names hosts functions) ps ≡ true
    → flat_map (λ p. held_in (part_mentions p)) (map (s.part_flat owners) ps) ≡ flat_map (λ p. held_in (part_mentions p)) ps
parts_held names hosts functions owners [] h = refl
parts_held names hosts functions owners (p ∷ ps) h = pair_more (held_by _ _ (part_like names hosts functions owners p (left _ _ h))) (parts_held names hosts functions owners ps (right _ _ h))

-- ## The core

flat_length : (owners holders : List ℕ) (all : List (List Var)) (place : ℕ) (fs : List CoreFunction) → length (s.functions_flat owners holders all place fs) ≡ length fs
flat_length owners holders all place [] = refl
flat_length owners holders all place (f ∷ fs) = ap (λ n. suc n) (flat_length owners holders all (place + 1) fs)

map_length : (f : CorePart → CorePart) (ps : List CorePart) → length (map f ps) ≡ length ps
map_length f [] = refl
map_length f (p ∷ ps) = ap (λ n. suc n) (map_length f ps)

pub scopes_keep_law : (hosts : ℕ) (core : Core) → IsLawfulFor hosts core → AllSuch no_content core → IsLawfulFor hosts (s.without_scopes core)
scopes_keep_law hosts core h u =
    let names = length core.fresh.hints in
    let functions = length core.functions in
    let ms = found core in
    let table = owners names ms in
    let held_functions = c.holders functions ms in
    let all = c.all_free table [] ms in
    let e = owners_length names ms in
    let after = s.without_scopes core in (
      functions_stay names hosts 0 table held_functions all 0 core.functions e (all_free_shared table [] ms refl) h.0 u.0,
      subst (λ n. list_all (lawful.part_lawful names hosts n) (map (s.part_flat table) core.parts) ≡ true) (sym (flat_length table held_functions all 0 core.functions)) (parts_stay names hosts functions table core.parts h.1 u.1),
      subst (λ n. list_all (λ i. nat_lt i n) core.order ≡ true) (sym (map_length (s.part_flat table) core.parts)) h.2,
      all_differ_by (lawful.declarations after) (λ n.
          let a = each_once (lawful.declarations core) h.3 n in
          let b = count_more n (flat_map (λ f. own_names f ++ declared_in (function_mentions f)) core.functions) (flat_map (λ p. scoped_numbers p.names ++ declared_in (part_mentions p)) core.parts) in
          let d = count_more n (flat_map (λ f. own_names f ++ declared_in (function_mentions f)) after.functions) (flat_map (λ p. scoped_numbers p.names ++ declared_in (part_mentions p)) after.parts) in
          let i = functions_count n names hosts 0 table held_functions all 0 core.functions h.0 in
          let j = parts_count n names hosts functions table core.parts h.1 in omega arith),
      subst (λ ns. lawful.all_differ ns ≡ true) (sym (pair_more (functions_held names hosts 0 table held_functions all 0 core.functions h.0) (parts_held names hosts functions table core.parts h.1))) h.4,
    )
