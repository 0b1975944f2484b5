-- The order of modules, the faces of functions and the names are kept.
use Rattle.std.proofs.Common.{◌≡◌, ℕ, ◌+◌, suc, zero, Bool, true, false, cond, List, [], ◌∷◌, ◌++◌, map, length, Option, None, Some, refl, ap, append_assoc, arith, ◌∙◌}
use Rattle.core_ast.specs.declared.naming.Fresh.{Fresh}
use Rattle.core_ast.specs.declared.parts.Var.{Var}
use Rattle.core_ast.specs.declared.parts.Label.{Label}
use Rattle.core_ast.specs.declared.tree.CoreExpr.{CoreExpr}
use Rattle.core_ast.specs.declared.tree.CoreStat.{CoreStat}
use Rattle.core_ast.specs.declared.tree.CoreStat.TheVariants as stat
use Rattle.core_ast.specs.declared.tree.CoreLink.TheOpen as layer
use Rattle.core_ast.specs.declared.whole.Core.{Core}
use Rattle.core_ast.specs.declared.whole.CoreFunction.{CoreFunction}
use Rattle.core_ast.specs.declared.whole.CorePart.{CorePart}
use Rattle.core_ast.specs.Lawful.{is_generator}
use Rattle.core_ast.specs.Made.{undefined}
use Rattle.core_ast.specs.Mentions.{function_mentions, part_mentions}
use Rattle.core_ast.specs.Names.{with_hint}
use Rattle.pass_rules.specs.Scopes.{functions_flat, without_scopes}
use Rattle.pass_rules.specs.declared.state_rules.states.Completion.{Completion}
use Rattle.pass_rules.specs.declared.state_rules.states.Machine.{Machine}
use Rattle.pass_rules.specs.declared.state_rules.states.Place.{Place}
use Rattle.pass_rules.specs.state_rules.States.{Part, Branch}
use Rattle.pass_rules.specs.state_rules.States as m
use Rattle.pass_rules.specs.yield_rules.Yields as y
use Rattle.pass_rules.proofs.pass_laws.Related.{Pair}
use Rattle.pass_rules.proofs.pass_laws.Induced.{Shows, Keeps, Stats, stat_second, stat_induced}
use Rattle.pass_rules.proofs.pass_laws.Machines.{machines}
use Rattle.pass_rules.proofs.pass_laws.Within.{either}
use Rattle.pass_rules.specs.pass_laws.Kept.{face, IsKept}

nothing_more : {A : Type 0} (xs : List A) → xs ≡ xs ++ []
nothing_more [] = refl
nothing_more (x ∷ xs) = ap (λ ys. x ∷ ys) (nothing_more xs)

-- ## Scopes

flat_faces : (owners holders : List ℕ) (all : List (List Var)) (place : ℕ) (fs : List CoreFunction) → map face (functions_flat owners holders all place fs) ≡ map face fs
flat_faces owners holders all place [] = refl
flat_faces owners holders all place (f ∷ fs) = ap (λ xs. face f ∷ xs) (flat_faces owners holders all (place + 1) fs)

map_length : {A B : Type 0} (f : A → B) (xs : List A) → length (map f xs) ≡ length xs
map_length f [] = refl
map_length f (x ∷ xs) = ap (λ n. suc n) (map_length f xs)

pub scopes_keep : (core : Core) → IsKept core (without_scopes core)
scopes_keep core = record { parts = map_length _ core.parts; order = refl; functions = flat_faces _ _ _ 0 core.functions; more = []; names = nothing_more core.fresh.hints }

-- ## Yields: names behind the others

record Grows (a b : Fresh) : Type 0 where
  more : List (Option (List ℕ))
  names : b.hints ≡ a.hints ++ more

grows_not : (a : Fresh) → Grows a a
grows_not a = record { more = []; names = nothing_more a.hints }

grows_by : (a : Fresh) (hint : Option (List ℕ)) → Grows a (with_hint hint a)
grows_by a hint = record { more = hint ∷ []; names = refl }

grows_more : (a b c : Fresh) → Grows a b → Grows b c → Grows a c
grows_more a b c h k = record { more = h.more ++ k.more; names = k.names ∙ ap (λ xs. xs ++ k.more) h.names ∙ append_assoc a.hints h.more k.more }

drawn_grows : (n : ℕ) (fresh : Fresh) → Grows fresh (y.drawn n fresh).fresh
drawn_grows zero fresh = grows_not fresh
drawn_grows (suc n) fresh = grows_more fresh _ _ (drawn_grows n fresh) (grows_by (y.drawn n fresh).fresh None)

one_grows : (f : CoreFunction) (fresh : Fresh) → Grows fresh (y.one_function f fresh).fresh
one_grows f fresh = drawn_grows (y.slots (function_mentions (y.function_at (y.begins (function_mentions f) fresh) f)) fresh) fresh

part_grows : (x : CorePart) (fresh : Fresh) → Grows fresh (y.one_part x fresh).fresh
part_grows x fresh = drawn_grows (y.slots (part_mentions (y.part_at (y.begins (part_mentions x) fresh) x)) fresh) fresh

functions_grow : (fs made : List CoreFunction) (fresh : Fresh) → Grows fresh (y.all_functions fs made fresh).fresh
functions_grow [] made fresh = grows_not fresh
functions_grow (f ∷ fs) made fresh = grows_more fresh _ _ (one_grows f fresh) (functions_grow fs (made ++ (y.one_function f fresh).made ∷ []) (y.one_function f fresh).fresh)

parts_grow : (xs made : List CorePart) (fresh : Fresh) → Grows fresh (y.all_parts xs made fresh).fresh
parts_grow [] made fresh = grows_not fresh
parts_grow (x ∷ xs) made fresh = grows_more fresh _ _ (part_grows x fresh) (parts_grow xs (made ++ (y.one_part x fresh).made ∷ []) (y.one_part x fresh).fresh)

map_one : {A B : Type 0} (f : A → B) (xs : List A) (x : A) (ys : List B) → map f (xs ++ x ∷ []) ++ ys ≡ map f xs ++ f x ∷ ys
map_one f [] x ys = refl
map_one f (z ∷ xs) x ys = ap (λ zs. f z ∷ zs) (map_one f xs x ys)

yield_faces : (fs made : List CoreFunction) (fresh : Fresh) → map face (y.all_functions fs made fresh).made ≡ map face made ++ map face fs
yield_faces [] made fresh = nothing_more (map face made)
yield_faces (f ∷ fs) made fresh = yield_faces fs _ _ ∙ map_one face made _ (map face fs)

length_one : {A : Type 0} (xs : List A) (x : A) → length (xs ++ x ∷ []) ≡ suc (length xs)
length_one [] x = refl
length_one (y ∷ xs) x = ap (λ n. suc n) (length_one xs x)

parts_length : (xs made : List CorePart) (fresh : Fresh) → length (y.all_parts xs made fresh).made ≡ length made + length xs
parts_length [] made fresh = omega arith
parts_length (x ∷ xs) made fresh = let e = parts_length xs (made ++ (y.one_part x fresh).made ∷ []) (y.one_part x fresh).fresh in let d = length_one made (y.one_part x fresh).made in omega arith

pub yields_keep : (core : Core) → IsKept core (y.with_yields_flat core)
yields_keep core =
    let fs = functions_grow core.functions [] core.fresh in
    let g = grows_more core.fresh _ _ fs (parts_grow core.parts [] (y.all_functions core.functions [] core.fresh).fresh) in
    let e = parts_length core.parts [] (y.all_functions core.functions [] core.fresh).fresh in
    record { parts = omega arith; order = refl; functions = yield_faces core.functions [] core.fresh; more = g.more; names = g.names }

-- ## Machines: what is added to one draws names behind the others

record From (a : Fresh) (x : Machine) : Type 0 where
  grows : Grows a x.fresh

abbrev Draws : Fresh → (Machine → Machine) → Type 0
Draws a f = (x : Machine) → From a x → From a (f x)

record BranchDraws (x : Branch) : Type 0 where
  adds : (a : Fresh) (p : Place) → Draws a (x.adds p)

record PartDraws (x : Part) : Type 0 where
  adds : (a : Fresh) (p : Place) → Draws a (x.adds p)

abbrev shown : Shows machines
shown = record { Link = λ x y. true ≡ true; Stat = λ x y. PartDraws y; Case = λ x y. BranchDraws y; Expr = λ x y. true ≡ true }

says_draws : (a : Fresh) (s : CoreStat) → Draws a (m.says s)
says_draws a s x h = either (From a) x.over {x = x} {y = record x { stats = x.stats ++ s ∷ [] }} h (record { grows = h.grows })

ends_draws : (a : Fresh) (ss : List CoreStat) → Draws a (m.ends ss)
ends_draws a ss x h = either (From a) x.over {x = x} {y = record x { stats = x.stats ++ ss; over = true }} h (record { grows = h.grows })

begins_draws : (a : Fresh) (n : ℕ) → Draws a (m.begins n)
begins_draws a n x h = record { grows = h.grows }

numbers_drawn : (a : Fresh) (n : ℕ) → Draws a (m.draws n)
numbers_drawn a n x h = record { grows = h.grows }

goes_then_draws : (a : Fresh) (p : Place) (n here : ℕ) → Draws a (m.goes_then p n here)
goes_then_draws a p n here x h = begins_draws a here _ (ends_draws a _ x h)

hands_out_draws : (a : Fresh) (p : Place) (how : ℕ) (e : CoreExpr) → Draws a (m.hands_out p how e)
hands_out_draws a p how e x h = begins_draws a x.next _ (numbers_drawn a 1 _ (ends_draws a _ x h))

yielded_draws : (a : Fresh) (p : Place) (e : CoreExpr) (kind : Option Var) (result : Var) → Draws a (m.yielded p e kind result)
yielded_draws a p e None result x h = says_draws a _ _ (says_draws a _ _ (hands_out_draws a p 0 e x h))
yielded_draws a p e (Some kind) result x h = says_draws a _ _ (says_draws a _ _ (hands_out_draws a p 1 e x h))

jumped_draws : (a : Fresh) (p : Place) (goes_on : Bool) (label : Option Label) → Draws a (m.jumped p goes_on label)
jumped_draws a p goes_on None = ends_draws a _
jumped_draws a p goes_on (Some l) = ends_draws a _

add_draws : (a : Fresh) (p : Place) (y : Part) → PartDraws y → Draws a (m.add p y)
add_draws a p y h x k = either (From a) (y.stays []) {x = m.says y.whole x} {y = y.adds p x} (says_draws a y.whole x k) (h.adds a p x k)

add_all_draws : (a : Fresh) (p : Place) (ps : List (Pair shown.Stat)) → Draws a (m.add_all p (map (λ q. q.1) ps))
add_all_draws a p [] x h = h
add_all_draws a p (q ∷ ps) x h = add_all_draws a p ps (m.add p q.1 x) (add_draws a p q.1 q.2 x h)

add_cases_draws : (a : Fresh) (p : Place) (falls : Bool) (after n : ℕ) (cs : List (Pair shown.Case)) → Draws a (m.add_cases p falls after n (map (λ q. q.1) cs))
add_cases_draws a p falls after n [] x h = h
add_cases_draws a p falls after n (q ∷ cs) x h = add_cases_draws a p falls after (n + 1) cs _ (ends_draws a (m.goes p (cond falls (n + 1) after)) _ (q.2.adds a p _ (begins_draws a n x h)))

dispatching_draws : (a : Fresh) (p : Place) (choice : CoreStat) (count after : ℕ) → Draws a (m.dispatching p choice count after)
dispatching_draws a p choice count after x h = ends_draws a _ _ (numbers_drawn a 1 _ (numbers_drawn a count x h))

chosen_draws : (a : Fresh) (p : Place) (cs : List (Pair shown.Case)) → Draws a (m.chosen p (map (λ q. q.1) cs))
chosen_draws a p cs x h =
    let after = x.next + length (map (λ q. q.1) cs) in
    begins_draws a after _ (add_cases_draws a p false after x.next cs _ (dispatching_draws a p (stat.If (m.dispatched p x.next (map (λ q. q.1) cs))) (length (map (λ q. q.1) cs)) after x h))

switched_draws : (a : Fresh) (p : Place) (subject : CoreExpr) (cs : List (Pair shown.Case)) → Draws a (m.switched p subject (map (λ q. q.1) cs))
switched_draws a p subject cs x h =
    let after = x.next + length (map (λ q. q.1) cs) in
    begins_draws a after _ (add_cases_draws a p true after x.next cs _ (dispatching_draws a p (stat.Switch subject (m.dispatched p x.next (map (λ q. q.1) cs))) (length (map (λ q. q.1) cs)) after x h))

tested_draws : (a : Fresh) (p : Place) (after : ℕ) (test : Option CoreExpr) → Draws a (m.tested p after test)
tested_draws a p after None x h = h
tested_draws a p after (Some t) x h = says_draws a _ x h

updated_draws : (a : Fresh) (update : Option CoreExpr) → Draws a (m.updated update)
updated_draws a None x h = h
updated_draws a (Some u) x h = says_draws a _ x h

looped_draws : (a : Fresh) (p : Place) (labels : List Label) (test update : Option CoreExpr) (body : List (Pair shown.Stat)) → Draws a (m.looped p labels test update (map (λ q. q.1) body))
looped_draws a p labels test update body x h =
    goes_then_draws a p x.next (x.next + 2) _ (updated_draws a update _ (goes_then_draws a p (x.next + 1) (x.next + 1) _
    (add_all_draws a (m.under p (x.next + 2) (x.next + 1) labels) body _
    (tested_draws a p (x.next + 2) test _ (goes_then_draws a p x.next x.next _ (numbers_drawn a 3 x h))))))

labelled_draws : (a : Fresh) (p : Place) (label : Label) (body : List (Pair shown.Stat)) → Draws a (m.labelled p label (map (λ q. q.1) body))
labelled_draws a p label body x h = goes_then_draws a p x.next x.next _ (add_all_draws a (m.under p x.next x.next (label ∷ [])) body _ (numbers_drawn a 1 x h))

region_with_draws : (a : Fresh) (p : Place) (row : List CoreStat) (locals : List Var) → Draws a (m.region_with p row locals)
region_with_draws a p row locals x h = says_draws a (m.set_number p.registers.region x.regions) (record x {
  next = x.next + 2;
  rows = x.rows ++ y.case_of (Some (y.number x.regions)) row ∷ [];
  regions = x.regions + 1;
  locals = x.locals ++ locals;
}) (record { grows = h.grows })

handled_draws : (a : Fresh) (p : Place) (handler : List (Pair shown.Stat)) (n : ℕ) → Draws a (m.handled p (map (λ q. q.1) handler) n)
handled_draws a p handler n x h = goes_then_draws a p (n + 1) (n + 1) _ (add_all_draws a p handler _ (begins_draws a n _ (ends_draws a _ x h)))

caught_draws : (a : Fresh) (p : Place) (block : List (Pair shown.Stat)) (parameter : Var) (handler : List (Pair shown.Stat)) → Draws a (m.caught p (map (λ q. q.1) block) parameter (map (λ q. q.1) handler))
caught_draws a p block parameter handler x h =
    handled_draws a p handler x.next _ (add_all_draws a (m.within p x.regions p.finals) block _ (region_with_draws a p (m.catching p parameter x.next) (parameter ∷ []) x h))

kept_region_draws : (a : Fresh) (p : Place) (c : Completion) → Draws a (m.kept_region p c)
kept_region_draws a p c x h = region_with_draws a p (m.keeping p c x.next) (c.kind ∷ c.value ∷ []) (record x { fresh = m.after_pair x.fresh })
    (record { grows = grows_more a (with_hint None x.fresh) (m.after_pair x.fresh) (grows_more a x.fresh (with_hint None x.fresh) h.grows (grows_by x.fresh None)) (grows_by (with_hint None x.fresh) None) })

ensured_draws : (a : Fresh) (p : Place) (block last : List (Pair shown.Stat)) → Draws a (m.ensured p (map (λ q. q.1) block) (map (λ q. q.1) last))
ensured_draws a p block last x h =
    let c = m.pair x.fresh in
    goes_then_draws a p (x.next + 1) (x.next + 1) _ (says_draws a (m.handed_on p c) _ (add_all_draws a p last _ (begins_draws a x.next _ (ends_draws a (m.nothing_kept p c x.next) _
    (add_all_draws a (m.within p x.regions (p.finals + 1)) block _ (kept_region_draws a p c x h))))))

stat_draws : (z : Stats shown) → PartDraws (machines.stat_step (stat_second shown z))
stat_draws (layer.Do e) = record { adds = λ a p. says_draws a _ }
stat_draws (layer.If cases) = record { adds = λ a p. chosen_draws a p cases }
stat_draws (layer.Switch subject cases) = record { adds = λ a p. switched_draws a p subject.1 cases }
stat_draws (layer.Loop labels test update body) = record { adds = λ a p. looped_draws a p labels _ _ body }
stat_draws (layer.Labelled l body) = record { adds = λ a p. labelled_draws a p l body }
stat_draws (layer.Jump goes_on l) = record { adds = λ a p. jumped_draws a p goes_on l }
stat_draws (layer.Return e) = record { adds = λ a p. ends_draws a _ }
stat_draws (layer.Throw e) = record { adds = λ a p. says_draws a _ }
stat_draws (layer.TryCatch block parameter names handler) = record { adds = λ a p. caught_draws a p block parameter handler }
stat_draws (layer.TryFinally block last) = record { adds = λ a p. ensured_draws a p block last }
stat_draws (layer.Scoped names body) = record { adds = λ a p. add_all_draws a p body }
stat_draws (layer.Yield value kind result) = record { adds = λ a p. yielded_draws a p value.1 kind result }

drawn : Keeps shown
drawn = record { link = λ z. refl; stat = stat_draws; case = λ z. record { adds = λ a p. add_all_draws a p z.body }; expr = λ z. refl }

body_draws : (a : Fresh) (p : Place) (ss : List CoreStat) → Draws a (m.add_all p (map m.part ss))
body_draws a p [] x h = h
body_draws a p (s ∷ ss) x h = body_draws a p ss (m.add p (m.part s) x) (add_draws a p (m.part s) (stat_induced shown drawn s) x h)

registers_grow : (fresh : Fresh) → Grows fresh (m.after_registers fresh)
registers_grow fresh = record { more = None ∷ None ∷ None ∷ None ∷ None ∷ None ∷ None ∷ []; names = simp append_assoc }

generator_grows : (f : CoreFunction) (fresh : Fresh) → Grows fresh (m.generator f fresh).fresh
generator_grows f fresh =
    let r = m.registers fresh (m.turn_label f) in
    (ends_draws fresh (m.unwinds (m.outermost r) 2 undefined) _ (body_draws fresh (m.outermost r) f.body (m.started r (m.after_registers fresh)) (record { grows = registers_grow fresh }))).grows

made_grows : (f : CoreFunction) (fresh : Fresh) (b : Bool) → Grows fresh (cond b (m.generator f fresh) (record { made = f; fresh = fresh })).fresh
made_grows f fresh true = generator_grows f fresh
made_grows f fresh false = grows_not fresh

made_face : (f : CoreFunction) (fresh : Fresh) (b : Bool) → face (cond b (m.generator f fresh) (record { made = f; fresh = fresh })).made ≡ face f
made_face f fresh true = refl
made_face f fresh false = refl

machines_grow : (fs made : List CoreFunction) (fresh : Fresh) → Grows fresh (m.all_functions fs made fresh).fresh
machines_grow [] made fresh = grows_not fresh
machines_grow (f ∷ fs) made fresh = grows_more fresh (m.one_function f fresh).fresh _ (made_grows f fresh (is_generator f.kind)) (machines_grow fs (made ++ (m.one_function f fresh).made ∷ []) (m.one_function f fresh).fresh)

machine_faces : (fs made : List CoreFunction) (fresh : Fresh) → map face (m.all_functions fs made fresh).made ≡ map face made ++ map face fs
machine_faces [] made fresh = nothing_more (map face made)
machine_faces (f ∷ fs) made fresh = machine_faces fs (made ++ (m.one_function f fresh).made ∷ []) (m.one_function f fresh).fresh
    ∙ map_one face made (m.one_function f fresh).made (map face fs) ∙ ap (λ x. map face made ++ x ∷ map face fs) (made_face f fresh (is_generator f.kind))

pub machines_keep : (core : Core) → IsKept core (m.with_machines core)
machines_keep core =
    let g = machines_grow core.functions [] core.fresh in
    record { parts = refl; order = refl; functions = machine_faces core.functions [] core.fresh; more = g.more; names = g.names }
