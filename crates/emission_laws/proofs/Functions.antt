-- Functions that are emitted of lawful functions that may be written.
use Rattle.std.specs.List.{list_all}
use Rattle.std.specs.Cmp.Lexicographic.{bytes_decides}
use Rattle.std.proofs.Common.{◌≡◌, ℕ, zero, suc, ◌+◌, ◌≤◌, Bool, true, false, ◌&&◌, not, nat_eq, nat_lt, take, drop, List, [], ◌∷◌, ◌++◌, map, length, Option, None, Some, refl, sym, ap, arith, subst, ◌∙◌}
use Rattle.std.proofs.lemmas.Bool.{false≢true, ltb-true, leb-true, le-leb, eq-eqb, eqb-true}
use Rattle.core_ast.specs.declared.parts.Var.{Var}
use Rattle.core_ast.specs.declared.parts.Primitive.TheVariants as primitive
use Rattle.core_ast.specs.declared.tree.CoreStat.{CoreStat}
use Rattle.core_ast.specs.declared.whole.CoreFunction.{CoreFunction}
use Rattle.core_ast.specs.declared.whole.CoreKind.{CoreKind}
use Rattle.core_ast.specs.declared.whole.Resumption.{Resumption}
use Rattle.core_ast.specs.Lawful as lawful
use Rattle.core_ast.specs.Lawful.{Round, all_differ, has_number, is_empty, is_generator, number_of, numbers, own_names, resumed}
use Rattle.es5_ast.specs.declared.operators.Key5.TheVariants.{WordKey}
use Rattle.es5_ast.specs.declared.tree.Identifier5.{Identifier5}
use Rattle.es5_ast.specs.declared.tree.Expr5.{Expr5}
use Rattle.es5_ast.specs.declared.tree.Expr5.TheVariants as expr
use Rattle.es5_ast.specs.declared.tree.Link5.TheVariants as link
use Rattle.es5_ast.specs.declared.tree.Declared5.{Declared5}
use Rattle.es5_ast.specs.declared.tree.Function5.{roll-Function5}
use Rattle.es5_ast.specs.declared.tree.Stat5.{Stat5}
use Rattle.es5_ast.specs.declared.tree.Stat5.TheVariants as stat
use Rattle.es5_ast.specs.declared.tree.Element5.TheOpen as layer
use Rattle.es5_ast.specs.declared.tree.Element5.TheOpen.{Function5-F}
use Rattle.es5_ast.specs.Lexical as lexical
use Rattle.es5_ast.specs.Lexical.{is_one_of}
use Rattle.es5_ast.specs.Early as e
use Rattle.es5_ast.specs.Early.{Around, Held5, Inside, Round5}
use Rattle.es5_printable.specs.Printable as p
use Rattle.es5_printable.specs.Printable.{declared_fit, function_fit, stat_fit}
use Rattle.emission_rules.specs.declared.scene.Scene.{Scene}
use Rattle.emission_rules.specs.declared.scene.Uses.{Uses}
use Rattle.emission_rules.specs.Emission as m
use Rattle.emission_rules.specs.Functions as f
use Rattle.emission_rules.specs.Nodes as n
use Rattle.emission_rules.specs.Nodes.{nowhere}
use Rattle.emission_rules.specs.Primitives as q
use Rattle.emission_rules.specs.Primitives.{helper_name}
use Rattle.emission_rules.specs.Scenes.{name_of}
use Rattle.emission_laws.specs.Writable as w
use Rattle.pass_rules.proofs.pass_laws.Within as b
use Rattle.pass_rules.proofs.pass_laws.Within.{both, either}
use Rattle.emission_laws.proofs.Layers.{Open, stat_found, declared_found, fit_declared-roll, found_declared-roll, fit_function-roll, found_function-roll}
use Rattle.emission_laws.proofs.Good.{Good, Goods, GoodName, Out, good_at, keys_at, Plain, none, when_not, named_plain, integer_plain, this_plain, function_plain, index_access, chained_good, chained_top, call_link, call_sites, applied_plain}
use Rattle.emission_laws.proofs.Operators.{properties_good, property_is}
use Rattle.emission_laws.proofs.Ready.{Ready, frame_good, callee_good, passed_good, arguments_plain, helped_plain, slots_more}
use Rattle.emission_laws.proofs.Stats.{Stands, GoodStats, IfGood, Tidy, no_stats, stats_fit_by, stats_pairs, stats_more, stat_by, return_good}
use Rattle.emission_laws.proofs.Texts.{or_both, or_left, or_right, unnot, no_by}
use Rattle.emission_laws.proofs.Walk.{stats_emitted_in}

-- ## Declarations (12.2)

pub record GoodDeclared (d : Declared5) : Type 0 where
  pub fits : declared_fit d ≡ true
  pub pairs : declared_found d true ≡ []

declared_good : (t : List ℕ) (init : Option Expr5) → GoodName t → IfGood init → GoodDeclared (n.declared t init)
declared_good t None h k = record {
  fits = fit_declared-roll (record { span = nowhere; name = n.identifier t; init = None }) ∙ both h.is refl;
  pairs = ap (λ v. v true) (found_declared-roll (record { span = nowhere; name = n.identifier t; init = None })) ∙ none (when_not _ (e.F 2) 0 h.free) refl;
}
declared_good t (Some y) h k = record {
  fits = fit_declared-roll (record { span = nowhere; name = n.identifier t; init = Some y }) ∙ both h.is k.fits;
  pairs = ap (λ v. v true) (found_declared-roll (record { span = nowhere; name = n.identifier t; init = Some y })) ∙ none (when_not _ (e.F 2) 0 h.free) k.pairs;
}

pub declared_is : (t : List ℕ) (init : Option Expr5) → GoodName t → IfGood init → GoodDeclared (n.declared t init)
declared_is = declared_good

abbrev pub AllDeclared : List Declared5 → Type 0
AllDeclared [] = Unit {0}
AllDeclared (d ∷ ds) = GoodDeclared d × AllDeclared ds

pub declared_more : (ds es : List Declared5) → AllDeclared ds → AllDeclared es → AllDeclared (ds ++ es)
declared_more [] es h k = k
declared_more (d ∷ ds) es h k = (h.0, declared_more ds es h.1 k)

all_fit : (ds : List Declared5) → AllDeclared ds → p.every (map declared_fit ds) ≡ true
all_fit [] h = refl
all_fit (d ∷ ds) h = both h.0.fits (all_fit ds h.1)

all_pairs : (r : Round5) (ds : List Declared5) → r.inside ≡ true → AllDeclared ds → e.joined (λ (d : Inside). d r.inside) (map declared_found ds) ≡ []
all_pairs r [] i h = refl
all_pairs r (d ∷ ds) i h = none (ap (λ c. declared_found d c) i ∙ h.0.pairs) (all_pairs r ds i h.1)

pub variables_good : (r : Round5) (ds : List Declared5) → r.inside ≡ true → AllDeclared ds → GoodStats r (n.variables ds)
variables_good r [] i h = tt
variables_good r (d ∷ ds) i h = (stat_by r _ (layer.Var nowhere (d ∷ ds)) (stat.rolls-Var nowhere (d ∷ ds)) (λ top. both h.0.fits (all_fit ds h.1)) (all_pairs r (d ∷ ds) i h), tt)

-- ## Functions (13)

abbrev pub OwnGood : Option Identifier5 → Type 0
OwnGood None = Unit {0}
OwnGood (Some i) = GoodName i.name

own_fits : (o : Option Identifier5) → OwnGood o → p.label_fits o ≡ true
own_fits None h = refl
own_fits (Some i) h = h.is

own_pairs : (o : Option Identifier5) → OwnGood o → e.option_pairs e.bound o ≡ []
own_pairs None h = refl
own_pairs (Some i) h = when_not _ (e.F 2) i.span.begin h.free

-- parameters whose names are good and differ
pub record GoodParameters (ps : List Identifier5) : Type 0 where
  pub fit : p.names_fit ps ≡ true
  pub pairs : e.parameter_pairs [] ps ≡ []

pub no_parameters : GoodParameters []
no_parameters = record { fit = refl; pairs = refl }

pub function_by : (own : Option Identifier5) (ps : List Identifier5) (body : List Stat5) → OwnGood own → GoodParameters ps → p.stats_fit true true (map stat_fit body) ≡ true → e.joined (λ (s : Around). s (e.of_function true)) (map stat_found body) ≡ [] → Plain (n.function own ps body)
function_by own ps body h g k u =
    let y : Open Function5-F = record { span = nowhere; name = own; parameters = ps; body = body } in
    function_plain (roll-Function5 y) (ap (λ v. v.fits) (fit_function-roll y) ∙ both (both (own_fits own h) g.fit) k) (ap (λ v. v.pairs) (found_function-roll y) ∙ none (none (own_pairs own h) g.pairs) u)

pub function_good : (own : Option Identifier5) (ps : List Identifier5) (body : List Stat5) → OwnGood own → GoodParameters ps → GoodStats (e.of_function true) body → Plain (n.function own ps body)
function_good own ps body h g k = function_by own ps body h g (stats_fit_by (e.of_function true) body true k) (stats_pairs (e.of_function true) body k)

-- ## Parameters, whose numbers differ

abbrev Drawn : ℕ → List Var → Type 0
Drawn names vs = list_all (λ i. nat_lt i names) (numbers vs) ≡ true

name_absent : (names hosts : ℕ) (s : Scene) (v : Var) (seen : List Var) → Ready names hosts s → nat_lt v.0 names ≡ true → Drawn names seen → has_number v.0 (numbers seen) ≡ false → is_one_of (name_of s v) (map (name_of s) seen) ≡ false
name_absent names hosts s v [] r h d k = refl
name_absent names hosts s v (u ∷ seen) r h d k =
    or_both _ _ (no_by _ (λ a. false≢true (sym (or_left _ _ k) ∙ eq-eqb v.0 u.0 (r.differ v.0 u.0 (ltb-true _ _ h) (ltb-true _ _ (b.left _ _ d)) ((bytes_decides _ _).0 a)))))
    (name_absent names hosts s v seen r h (b.right _ _ d) (or_right (nat_eq v.0 u.0) _ k))

parameters_fit : (names hosts : ℕ) (s : Scene) (vs : List Var) → Ready names hosts s → Drawn names vs → p.names_fit (f.identifiers s vs) ≡ true
parameters_fit names hosts s [] r d = refl
parameters_fit names hosts s (v ∷ vs) r d = both (r.names v.0 (ltb-true _ _ (b.left _ _ d))).is (parameters_fit names hosts s vs r (b.right _ _ d))

-- none of these is among those
abbrev Apart : List Var → List Var → Type 0
Apart [] seen = Unit {0}
Apart (v ∷ vs) seen = (has_number v.0 (numbers seen) ≡ false) × Apart vs seen

eq_turned : (i j : ℕ) → nat_eq i j ≡ false → nat_eq j i ≡ false
eq_turned i j h = no_by _ (λ a. false≢true (sym h ∙ eq-eqb i j (sym (eqb-true j i a))))

apart_more : (v : Var) (vs seen : List Var) → has_number v.0 (numbers vs) ≡ false → Apart vs seen → Apart vs (v ∷ seen)
apart_more v [] seen h a = tt
apart_more v (u ∷ vs) seen h a = (or_both _ _ (eq_turned v.0 u.0 (or_left _ _ h)) a.0, apart_more v vs seen (or_right (nat_eq v.0 u.0) _ h) a.1)

apart_none : (vs : List Var) → Apart vs []
apart_none [] = tt
apart_none (v ∷ vs) = (refl, apart_none vs)

parameters_pairs : (names hosts : ℕ) (s : Scene) (seen vs : List Var) → Ready names hosts s → Drawn names seen → Drawn names vs → Apart vs seen → all_differ (numbers vs) ≡ true → e.parameter_pairs (map (name_of s) seen) (f.identifiers s vs) ≡ []
parameters_pairs names hosts s seen [] r d c a h = refl
parameters_pairs names hosts s seen (v ∷ vs) r d c a h =
    none (none (when_not _ (e.F 1) 0 (name_absent names hosts s v seen r (b.left _ _ c) d a.0)) (when_not _ (e.F 2) 0 (r.names v.0 (ltb-true _ _ (b.left _ _ c))).free))
    (parameters_pairs names hosts s (v ∷ seen) vs r (both (b.left _ _ c) d) (b.right _ _ c) (apart_more v vs seen (unnot _ (b.left _ _ h)) a.1) (b.right _ _ h))

pub parameters_good : (names hosts : ℕ) (s : Scene) (vs : List Var) → Ready names hosts s → Drawn names vs → all_differ (numbers vs) ≡ true → GoodParameters (f.identifiers s vs)
parameters_good names hosts s vs r d h = record { fit = parameters_fit names hosts s vs r d; pairs = parameters_pairs names hosts s [] vs r refl d (apart_none vs) h }

-- the first of them
drawn_take : (names k : ℕ) (vs : List Var) → Drawn names vs → Drawn names (take k vs)
drawn_take names zero vs d = refl
drawn_take names (suc k) [] d = refl
drawn_take names (suc k) (v ∷ vs) d = both (b.left _ _ d) (drawn_take names k vs (b.right _ _ d))

absent_take : (i k : ℕ) (vs : List Var) → has_number i (numbers vs) ≡ false → has_number i (numbers (take k vs)) ≡ false
absent_take i zero vs h = refl
absent_take i (suc k) [] h = refl
absent_take i (suc k) (v ∷ vs) h = or_both _ _ (or_left _ _ h) (absent_take i k vs (or_right (nat_eq i v.0) _ h))

differ_take : (k : ℕ) (vs : List Var) → all_differ (numbers vs) ≡ true → all_differ (numbers (take k vs)) ≡ true
differ_take zero vs h = refl
differ_take (suc k) [] h = refl
differ_take (suc k) (v ∷ vs) h = both (ap not (absent_take v.0 k vs (unnot _ (b.left _ _ h)))) (differ_take k vs (b.right _ _ h))

-- ## What a function declares

names_only_good : (names hosts : ℕ) (s : Scene) (vs : List Var) → Ready names hosts s → Drawn names vs → AllDeclared (f.names_only s vs)
names_only_good names hosts s [] r d = tt
names_only_good names hosts s (v ∷ vs) r d = (declared_good (name_of s v) None (r.names v.0 (ltb-true _ _ (b.left _ _ d))) tt, names_only_good names hosts s vs r (b.right _ _ d))

self_good : Good (expr.ObjectList nowhere (f.property q.self_key n.this ∷ []))
self_good = properties_good nowhere [] (WordKey q.self_key) n.this (refl, refl) refl refl this_plain.good

self_layer : Out (layer.ObjectList nowhere (f.property q.self_key n.this ∷ []))
self_layer = (good_at _ _ (expr.rolls-ObjectList nowhere (f.property q.self_key n.this ∷ [])) self_good)

self_key_is : is_one_of q.target_key (keys_at (layer.ObjectList nowhere (f.property q.self_key n.this ∷ []))) ≡ false
self_key_is = ap (λ (v : Held5). is_one_of q.target_key (v.name ∷ [])) (property_is (WordKey q.self_key) n.this)

frame_by : (target : Bool) → Good (expr.ObjectList nowhere (f.frame_properties target))
frame_by true = properties_good nowhere (f.property q.self_key n.this ∷ []) (WordKey q.target_key) _ self_layer self_key_is refl (helped_plain primitive.NewTarget (n.name q.callee_name ∷ []) ((named_plain q.callee_name callee_good).good, tt)).good
frame_by false = self_good

frame_value_good : (k : CoreKind) (u : Uses) → IfGood (f.frame_value k u)
frame_value_good k u = either IfGood (f.is_class k) tt (frame_by u.target)

pub frame_declared_good : (k : CoreKind) (u : Uses) → AllDeclared (f.frame_declared k u)
frame_declared_good k u = either AllDeclared (u.frame && not (f.is_arrow k)) (declared_good q.frame_name (f.frame_value k u) frame_good (frame_value_good k u), tt) tt

abbrev IfDrawn : ℕ → Option Var → Type 0
IfDrawn names o = list_all (λ i. nat_lt i names) (number_of o) ≡ true

own_declared_good : (names hosts : ℕ) (s : Scene) (o : Option Var) (c : Bool) → Ready names hosts s → IfDrawn names o → AllDeclared (f.own_declared s o c)
own_declared_good names hosts s None c r d = tt
own_declared_good names hosts s (Some v) c r d = either AllDeclared c (declared_good q.callee_name (Some (n.name (name_of s v))) callee_good (named_plain (name_of s v) (r.names v.0 (ltb-true _ _ (b.left _ _ d)))).good, tt) tt

passed_declared_good : (s : Scene) → AllDeclared (f.passed_declared s)
passed_declared_good s = either AllDeclared (s.keeps && s.uses.passed)
    (declared_good q.passed_name (Some _) passed_good (helped_plain primitive.RestList (n.name q.arguments_name ∷ n.integer 0 ∷ []) (arguments_plain.good, ((integer_plain 0 refl).good, tt))).good, tt) tt

arguments_declared_good : (names hosts : ℕ) (s : Scene) (o : Option Var) → Ready names hosts s → IfDrawn names o → AllDeclared (f.arguments_declared s o)
arguments_declared_good names hosts s None r d = tt
arguments_declared_good names hosts s (Some v) r d = (declared_good (name_of s v) (Some _) (r.names v.0 (ltb-true _ _ (b.left _ _ d))) (helped_plain primitive.ArgumentsPut (n.name q.arguments_name ∷ []) (arguments_plain.good, tt)).good, tt)

-- numbers of parameters from this one on
abbrev Safe : ℕ → List Var → Type 0
Safe at [] = Unit {0}
Safe at (v ∷ vs) = (at ≤ 9007199254740991) × Safe (at + 1) vs

all_safe : (at : ℕ) (vs : List Var) → at + length vs ≤ 9007199254740991 → Safe at vs
all_safe at [] h = tt
all_safe at (v ∷ vs) h = (omega arith, all_safe (at + 1) vs (omega arith))

late_safe : (at k : ℕ) (vs : List Var) → at + length vs ≤ 9007199254740991 → Safe (at + k) (drop k vs)
late_safe at zero vs h = all_safe (at + zero) vs (omega arith)
late_safe at (suc k) [] h = tt
late_safe at (suc k) (v ∷ vs) h = subst (λ i. Safe i (drop k vs)) (let a : (at + 1) + k ≡ at + suc k = omega arith in a) (late_safe (at + 1) k vs (omega arith))

index_good : (at : ℕ) → at ≤ 9007199254740991 → Good (n.index (n.name q.arguments_name) (n.integer at))
index_good at h =
    let l = index_access (n.integer at) (integer_plain at (le-leb at 9007199254740991 h)).good in let a = l.sites in let c = (arguments_plain.top 0 []).sites in
    chained_good (n.name q.arguments_name) (link.Index nowhere (n.integer at)) arguments_plain.good l.good (omega arith)

late_good : (names hosts : ℕ) (s : Scene) (at : ℕ) (vs : List Var) → Ready names hosts s → Drawn names vs → Safe at vs → AllDeclared (f.late_parameters s at vs)
late_good names hosts s at [] r d h = tt
late_good names hosts s at (v ∷ vs) r d h = (declared_good (name_of s v) (Some _) (r.names v.0 (ltb-true _ _ (b.left _ _ d))) (index_good at h.0), late_good names hosts s (at + 1) vs r (b.right _ _ d) h.1)

drawn_drop : (names k : ℕ) (vs : List Var) → Drawn names vs → Drawn names (drop k vs)
drawn_drop names zero vs d = d
drawn_drop names (suc k) [] d = refl
drawn_drop names (suc k) (v ∷ vs) d = drawn_drop names k vs (b.right _ _ d)

-- ## Lists of numbers

below_left : (names : ℕ) (is js : List ℕ) → list_all (λ i. nat_lt i names) (is ++ js) ≡ true → list_all (λ i. nat_lt i names) is ≡ true
below_left names [] js h = refl
below_left names (i ∷ is) js h = both (b.left _ _ h) (below_left names is js (b.right _ _ h))

below_right : (names : ℕ) (is js : List ℕ) → list_all (λ i. nat_lt i names) (is ++ js) ≡ true → list_all (λ i. nat_lt i names) js ≡ true
below_right names [] js h = h
below_right names (i ∷ is) js h = below_right names is js (b.right _ _ h)

absent_left : (i : ℕ) (is js : List ℕ) → has_number i (is ++ js) ≡ false → has_number i is ≡ false
absent_left i [] js h = refl
absent_left i (k ∷ is) js h = or_both _ _ (or_left _ _ h) (absent_left i is js (or_right (nat_eq i k) _ h))

pub differ_left : (is js : List ℕ) → all_differ (is ++ js) ≡ true → all_differ is ≡ true
differ_left [] js h = refl
differ_left (i ∷ is) js h = both (ap not (absent_left i is js (unnot _ (b.left _ _ h)))) (differ_left is js (b.right _ _ h))

pub differ_right : (is js : List ℕ) → all_differ (is ++ js) ≡ true → all_differ js ≡ true
differ_right [] js h = h
differ_right (i ∷ is) js h = differ_right is js (b.right _ _ h)

-- what a function's own names are
record Owns (names : ℕ) (g : CoreFunction) : Type 0 where
  own : IfDrawn names g.own
  parameters : Drawn names g.parameters
  arguments : IfDrawn names g.arguments
  locals : Drawn names g.locals
  resumed : list_all (λ i. nat_lt i names) (resumed g.resumption) ≡ true
  cells : Drawn names g.cells

owns : (names : ℕ) (g : CoreFunction) → list_all (λ i. nat_lt i names) (own_names g ++ numbers g.cells) ≡ true → Owns names g
owns names g h =
    let o = number_of g.own in let ps = numbers g.parameters in let ar = number_of g.arguments in let ls = numbers g.locals in let rs = lawful.resumed g.resumption in
    let a = below_left names (own_names g) (numbers g.cells) h in
    let c = below_left names (((o ++ ps) ++ ar) ++ ls) rs a in let d = below_left names ((o ++ ps) ++ ar) ls c in let i = below_left names (o ++ ps) ar d in
    record {
      own = below_left names o ps i;
      parameters = below_right names o ps i;
      arguments = below_right names (o ++ ps) ar d;
      locals = below_right names ((o ++ ps) ++ ar) ls c;
      resumed = below_right names (((o ++ ps) ++ ar) ++ ls) rs a;
      cells = below_right names (own_names g) (numbers g.cells) h;
    }

resumed_differ : (g : CoreFunction) → all_differ (own_names g) ≡ true → all_differ (resumed g.resumption) ≡ true
resumed_differ g h = differ_right (((number_of g.own ++ numbers g.parameters) ++ number_of g.arguments) ++ numbers g.locals) (lawful.resumed g.resumption) h

declarations_good : (names hosts : ℕ) (s : Scene) (g : CoreFunction) → Ready names hosts s → Owns names g → lawful.is_safe (length g.parameters) ≡ true → AllDeclared (f.declarations s g)
declarations_good names hosts s g r o h =
    let few = leb-true (length g.parameters) 9007199254740991 h in
    let late = late_safe 0 g.length g.parameters (omega arith) in
    let own = f.own_declared s g.own (f.wants_own g.kind s.uses) in let frame = f.frame_declared g.kind s.uses in let passed = f.passed_declared s in
    let arguments = f.arguments_declared s g.arguments in let more = f.late_parameters s g.length (drop g.length g.parameters) in
    declared_more ((((own ++ frame) ++ passed) ++ arguments) ++ more) (f.names_only s g.locals)
    (declared_more (((own ++ frame) ++ passed) ++ arguments) more
    (declared_more ((own ++ frame) ++ passed) arguments
    (declared_more (own ++ frame) passed
    (declared_more own frame (own_declared_good names hosts s g.own _ r o.own) (frame_declared_good g.kind s.uses))
    (passed_declared_good s))
    (arguments_declared_good names hosts s g.arguments r o.arguments))
    (late_good names hosts s g.length (drop g.length g.parameters) r (drawn_drop names g.length g.parameters o.parameters) (subst (λ i. Safe i (drop g.length g.parameters)) (let a : 0 + g.length ≡ g.length = omega arith in a) late)))
    (names_only_good names hosts s g.locals r o.locals)

-- ## Functions

own_identifier_good : (names hosts : ℕ) (s : Scene) (o : Option Var) (c : Bool) → Ready names hosts s → IfDrawn names o → OwnGood (f.own_identifier s o c)
own_identifier_good names hosts s None c r d = either OwnGood c callee_good tt
own_identifier_good names hosts s (Some v) c r d = r.names v.0 (ltb-true _ _ (b.left _ _ d))

-- in a function nothing is round its statements
pub in_function : (round : Round) → round.labels ≡ [] → round.loops ≡ [] → Stands round (e.of_function true)
in_function round h k = record { inside = refl; labels = ap (λ ls. map m.label_text ls) (sym h); loops = ap (λ ls. map m.label_text ls) (sym k); before = refl; small = ap (list_all w.label_fits) h }

pub tidy_function : (round : Round) → round.loops ≡ [] → Tidy round
tidy_function round h = record { loops = λ l a. absurd (false≢true (sym (ap (lawful.has_label l) h) ∙ a)) }

names_are : (names hosts : ℕ) (s : Scene) (vs : List Var) → Ready names hosts s → Drawn names vs → Goods (f.expressions s vs)
names_are names hosts s [] r d = tt
names_are names hosts s (v ∷ vs) r d = ((named_plain (name_of s v) (r.names v.0 (ltb-true _ _ (b.left _ _ d)))).good, names_are names hosts s vs r (b.right _ _ d))

-- what is called at once
pub called_plain : (y : Expr5) (ys : List Expr5) → Plain y → Goods ys → Plain (n.called y ys None)
called_plain y ys h g =
    let l = link.Call nowhere ys None in let u = call_sites ys None in let v = (h.top 0 []).sites in
    record { good = chained_good y l h.good (call_link ys None g) (omega arith); top = λ i ks. chained_top y l i ks (omega arith) }

keeping_plain : (names hosts : ℕ) (s : Scene) (cells : List Var) (y : Expr5) → Ready names hosts s → Drawn names cells → all_differ (numbers cells) ≡ true → Plain y → Plain (f.keeping s cells y)
keeping_plain names hosts s cells y r d h k = either Plain (is_empty cells) k
    (called_plain _ _ (function_good None (f.identifiers s cells) _ tt (parameters_good names hosts s cells r d h) (return_good (e.of_function true) y refl k.good, tt)) (names_are names hosts s cells r d))

generator_plain : (k : CoreKind) (y : Expr5) → Plain y → Plain (f.as_generator k y)
unfolding lexical.reserved_words
generator_plain k y h = either Plain (is_generator k) (applied_plain f.generator_name (y ∷ []) refl refl (h.good, tt)) h

value_plain : (names hosts : ℕ) (s : Scene) (g : CoreFunction) (body : List Stat5) → Ready names hosts s → Owns names g → all_differ (numbers g.parameters) ≡ true → lawful.is_safe (length g.parameters) ≡ true → GoodStats (e.of_function true) body → Plain (f.function_value g body s)
value_plain names hosts s g body r o h i k = function_good _ _ _
    (own_identifier_good names hosts s g.own _ r o.own)
    (parameters_good names hosts s (take g.length g.parameters) r (drawn_take names g.length g.parameters o.parameters) (differ_take g.length g.parameters h))
    (stats_more (e.of_function true) (n.variables (f.declarations s g)) body (variables_good (e.of_function true) _ refl (declarations_good names hosts s g r o i)) k)

-- the step of a generator
resumed_good : (names hosts : ℕ) (s : Scene) (a : Resumption) → Ready names hosts s → list_all (λ i. nat_lt i names) (lawful.resumed (Some a)) ≡ true → all_differ (lawful.resumed (Some a)) ≡ true → GoodParameters (f.resumed s a)
resumed_good names hosts s a r d h = parameters_good names hosts s (a.kind ∷ a.value ∷ []) r d h

stepped_ready : (names hosts number : ℕ) (o : Option Resumption) (step : List CoreStat) (s : Scene) → Ready names hosts s → list_all (λ i. nat_lt i names) (lawful.resumed o) ≡ true → all_differ (lawful.resumed o) ≡ true
    → lawful.stats_lawful step (lawful.round_function names hosts number false) ≡ true → w.stats_fit step ≡ true → Ready names hosts (f.stepped o step s)
stepped_ready names hosts number None step s r d h l u = r
stepped_ready names hosts number (Some a) step s r d h l u =
    let round = lawful.round_function names hosts number false in
    let k = stats_emitted_in step round (tidy_function round refl) l u [] (record s { framed = true }) (record { names = r.names; hosts = r.hosts; slots = r.slots; step = r.step; differ = r.differ; all = r.all }) (no_stats round) in
    let t = k.ready in
    record {
      names = t.names;
      hosts = t.hosts;
      slots = t.slots;
      step = (function_good None _ _ tt (resumed_good names hosts _ a t d h) (k.stats (e.of_function true) (in_function round refl refl))).good;
      differ = t.differ;
      all = t.all;
    }

entered_ready : (names hosts : ℕ) (framed keeps : Bool) (s : Scene) → Ready names hosts s → Ready names hosts (f.entered framed keeps s)
entered_ready names hosts framed keeps s r = record { names = r.names; hosts = r.hosts; slots = r.slots; step = tt; differ = r.differ; all = r.all }

pub function_ready : (names hosts number : ℕ) (g : CoreFunction) (s : Scene) → lawful.function_lawful names hosts number g ≡ true → w.function_fits g ≡ true → all_differ (own_names g) ≡ true → Ready names hosts s → Ready names hosts (f.function_emitted g s)
function_ready names hosts number g s h u v r =
    let step_round = lawful.round_function names hosts number false in
    let body_round = lawful.round_function names hosts number (is_generator g.kind) in
    let l5 = h in let l4 = b.left _ _ h in let l3 = b.left _ _ l4 in let l2 = b.left _ _ l3 in let l1 = b.left _ _ l2 in
    let u4 = b.left _ _ u in let u3 = b.left _ _ u4 in let u2 = b.left _ _ u3 in
    let o = owns names g (b.left _ _ l1) in
    let begun = stepped_ready names hosts number g.resumption g.step (f.entered (f.is_framed g.kind) (f.keeps_apart g) s) (entered_ready names hosts _ _ s r) o.resumed (resumed_differ g v) (b.right _ _ h) (b.right _ _ u) in
    let setup = stats_emitted_in g.setup step_round (tidy_function step_round refl) (b.right _ _ l3) (b.right _ _ u3) [] _ begun (no_stats step_round) in
    let body = stats_emitted_in g.body body_round (tidy_function body_round refl) (b.right _ _ l4) (b.right _ _ u4) _ _ setup.ready (λ a k. setup.stats a (record { inside = k.inside; labels = k.labels; loops = k.loops; before = k.before; small = k.small })) in
    let t = body.ready in
    let value = value_plain names hosts _ g _ t o (b.right _ _ l1) (b.right _ _ u2) (body.stats (e.of_function true) (in_function body_round refl refl)) in
    record {
      names = t.names;
      hosts = t.hosts;
      slots = slots_more _ _ t.slots (keeping_plain names hosts _ g.cells _ t o.cells (b.left _ _ u2) (generator_plain g.kind _ value));
      step = t.step;
      differ = t.differ;
      all = t.all;
    }
