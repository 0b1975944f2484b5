-- The script of a lawful core that may be written may be printed.
use Rattle.std.specs.List.{list_all, flat_map}
use Rattle.std.specs.Str.{bytes_eq}
use Rattle.std.specs.Cmp.Lexicographic.{bytes_decides}
use Rattle.std.proofs.Common.{◌≡◌, ℕ, zero, suc, ◌+◌, true, false, nat_lt, codes, List, [], ◌∷◌, ◌++◌, map, length, Option, None, Some, refl, sym, ap, arith, ◌∙◌}
use Rattle.std.proofs.lemmas.Bool.{false≢true, ltb-true}
use Rattle.core_ast.specs.declared.parts.ScopedName.{ScopedName}
use Rattle.core_ast.specs.declared.tree.CoreStat.{CoreStat}
use Rattle.core_ast.specs.declared.whole.CoreFunction.{CoreFunction}
use Rattle.core_ast.specs.declared.whole.CoreKind.TheVariants as kind
use Rattle.core_ast.specs.declared.whole.CorePart.{CorePart}
use Rattle.core_ast.specs.Lawful as lawful
use Rattle.core_ast.specs.Lawful.{all_differ, declared_in, is_empty, own_names, scoped_numbers}
use Rattle.core_ast.specs.Mentions.{function_mentions, part_mentions}
use Rattle.es_outside.specs.HostNames.{is_host_name}
use Rattle.es5_ast.specs.declared.operators.BinaryOperator5.TheVariants.{Same}
use Rattle.es5_ast.specs.declared.operators.Literal5.{Literal5}
use Rattle.es5_ast.specs.declared.operators.Literal5.TheVariants as literal
use Rattle.es5_ast.specs.declared.operators.UnaryOperator5.TheVariants as unary5
use Rattle.es5_ast.specs.declared.tree.Expr5.{Expr5, roll-Expr5}
use Rattle.es5_ast.specs.declared.tree.Expr5.TheVariants as expr
use Rattle.es5_ast.specs.declared.tree.Declared5.{Declared5}
use Rattle.es5_ast.specs.declared.tree.Function5.{Function5}
use Rattle.es5_ast.specs.declared.tree.Link5.TheVariants as link
use Rattle.es5_ast.specs.declared.tree.Stat5.{Stat5}
use Rattle.es5_ast.specs.declared.tree.Stat5.TheVariants as stat
use Rattle.es5_ast.specs.declared.tree.Element5.TheOpen as layer
use Rattle.es5_ast.specs.declared.tree.Element5.TheOpen.{Expr5-F}
use Rattle.es5_ast.specs.Lexical as lexical
use Rattle.es5_ast.specs.Lexical.{is_one_of}
use Rattle.es5_ast.specs.Early as e
use Rattle.es5_ast.specs.Early.{Around, Found5, Pair5}
use Rattle.es5_printable.specs.Printable as p
use Rattle.es5_printable.specs.Printable.{FitStat, expr_fit, stat_fit}
use Rattle.emission_rules.specs.declared.scene.Scene.{Scene}
use Rattle.emission_rules.specs.Emission as m
use Rattle.emission_rules.specs.Functions as f
use Rattle.emission_rules.specs.Naming.{helped_names, hosts_from, sign, with_names}
use Rattle.emission_rules.specs.Nodes as n
use Rattle.emission_rules.specs.Nodes.{nowhere}
use Rattle.emission_rules.specs.Primitives as q
use Rattle.emission_rules.specs.Scenes.{Made, name_of}
use Rattle.emission_laws.specs.Laws.{AreHosts, EmittedArePrintable, MayStandInside, names_differ}
use Rattle.emission_laws.specs.Writable as w
use Rattle.pass_rules.proofs.pass_laws.Within as b
use Rattle.pass_rules.proofs.pass_laws.Within.{both, either}
use Rattle.emission_laws.proofs.Layers.{Open, expr_found, link_found, stat_found, found_expr, found_expr-roll, found_link-roll, found_operand-roll, fit_expr-roll, fit_stat-roll, found_stat-roll}
use Rattle.emission_laws.proofs.Good.{Good, Goods, GoodName, GoodNames, none, first_none, second_none, when_not, not_eval, out_is, named_plain, name_plain, nothing_plain, text_plain, unary_plain, empty_object_plain}
use Rattle.emission_laws.proofs.Operators.{operated_plain, conditional_plain}
use Rattle.emission_laws.proofs.Ready.{Ready, HostsApart, empty_good, call_good, apply_good, member_plain}
use Rattle.emission_laws.proofs.Stats.{GoodStats, no_stats, expression_good, stats_fit_by, stats_pairs, stats_one}
use Rattle.emission_laws.proofs.Texts.{or_both, or_left, or_right, unnot, no_by}
use Rattle.emission_laws.proofs.Walk.{stats_emitted_in}
use Rattle.emission_laws.proofs.Names.{host_good, names_good, names_apart, name_at, hosts_good, hosts_differ, hosts_length, there_behind}
use Rattle.emission_laws.proofs.Functions.{AllDeclared, GoodParameters, declared_is, declared_more, variables_good, frame_declared_good, function_good, function_by, called_plain, differ_left, differ_right, in_function, tidy_function, function_ready}

-- ## Functions

functions_ready : (names hosts number : ℕ) (gs : List CoreFunction) (s : Scene) → lawful.functions_lawful names hosts number gs ≡ true → list_all w.function_fits gs ≡ true → all_differ (flat_map (λ g. own_names g ++ declared_in (function_mentions g)) gs) ≡ true → Ready names hosts s → Ready names hosts (f.functions_emitted gs s)
functions_ready names hosts number [] s h u d r = r
functions_ready names hosts number (g ∷ gs) s h u d r = functions_ready names hosts (number + 1) gs (f.function_emitted g s) (b.right _ _ h) (b.right _ _ u) (differ_right (own_names g ++ declared_in (function_mentions g)) _ d)
    (function_ready names hosts number g s (b.left _ _ h) (b.left _ _ u) (differ_left (own_names g) _ (differ_left (own_names g ++ declared_in (function_mentions g)) _ d)) r)

-- ## Modules

record ModulesMade (names hosts : ℕ) (made : Made (List Stat5)) : Type 0 where
  stats : GoodStats (e.of_function true) made.value
  ready : Ready names hosts made.scene

module_made : (names hosts functions : ℕ) (stats : List CoreStat) (xs : List Stat5) (s : Scene) → lawful.stats_lawful stats (lawful.round_part names hosts functions) ≡ true → w.stats_fit stats ≡ true → Ready names hosts s → GoodStats (e.of_function true) xs → ModulesMade names hosts (f.module_emitted stats xs s)
module_made names hosts functions stats xs s h u r k =
    let round = lawful.round_part names hosts functions in
    let uses = (m.stats_emitted stats [] (f.entered false false s)).scene.uses in
    let made = stats_emitted_in stats round (tidy_function round refl) h u [] (f.entered false false s) (record { names = r.names; hosts = r.hosts; slots = r.slots; step = tt; differ = r.differ; all = r.all }) (no_stats round) in
    either (ModulesMade names hosts) (is_empty stats) (record { stats = k; ready = r }) (record {
      stats = stats_one (e.of_function true) xs _ k (expression_good (e.of_function true) _ refl (called_plain _ [] (function_good None [] _ tt (record { fit = refl; pairs = refl })
          (stats_joined _ _ (variables_good (e.of_function true) _ refl (frame_declared_good kind.Plain uses)) (made.stats (e.of_function true) (in_function round refl refl)))) tt).good);
      ready = made.ready;
    })
  where
    stats_joined : (ss ts : List Stat5) → GoodStats (e.of_function true) ss → GoodStats (e.of_function true) ts → GoodStats (e.of_function true) (ss ++ ts)
    stats_joined [] ts h k = k
    stats_joined (s ∷ ss) ts h k = (h.0, stats_joined ss ts h.1 k)

begun_made : (names hosts functions : ℕ) (parts : List CorePart) (xs : List Stat5) (s : Scene) → list_all (lawful.part_lawful names hosts functions) parts ≡ true → list_all w.part_fits parts ≡ true → Ready names hosts s → GoodStats (e.of_function true) xs → ModulesMade names hosts (f.instantiations parts xs s)
begun_made names hosts functions [] xs s h u r k = record { stats = k; ready = r }
begun_made names hosts functions (a ∷ parts) xs s h u r k =
    let d = module_made names hosts functions a.instantiate xs s (b.right _ _ (b.left _ _ (b.left _ _ h))) (b.left _ _ (b.left _ _ u)) r k in
    begun_made names hosts functions parts _ _ (b.right _ _ h) (b.right _ _ u) d.ready d.stats

body_lawful : (names hosts functions : ℕ) (parts : List CorePart) (i : ℕ) → list_all (lawful.part_lawful names hosts functions) parts ≡ true → lawful.stats_lawful (f.body_at parts i) (lawful.round_part names hosts functions) ≡ true
body_lawful names hosts functions [] i h = refl
body_lawful names hosts functions (a ∷ parts) zero h = b.right _ _ (b.left _ _ h)
body_lawful names hosts functions (a ∷ parts) (suc i) h = body_lawful names hosts functions parts i (b.right _ _ h)

body_fits : (parts : List CorePart) (i : ℕ) → list_all w.part_fits parts ≡ true → w.stats_fit (f.body_at parts i) ≡ true
body_fits [] i h = refl
body_fits (a ∷ parts) zero h = b.right _ _ (b.left _ _ h)
body_fits (a ∷ parts) (suc i) h = body_fits parts i (b.right _ _ h)

bodies_made : (names hosts functions : ℕ) (parts : List CorePart) (order : List ℕ) (xs : List Stat5) (s : Scene) → list_all (lawful.part_lawful names hosts functions) parts ≡ true → list_all w.part_fits parts ≡ true → Ready names hosts s → GoodStats (e.of_function true) xs → ModulesMade names hosts (f.bodies parts order xs s)
bodies_made names hosts functions parts [] xs s h u r k = record { stats = k; ready = r }
bodies_made names hosts functions parts (i ∷ order) xs s h u r k =
    let d = module_made names hosts functions (f.body_at parts i) xs s (body_lawful names hosts functions parts i h) (body_fits parts i u) r k in
    bodies_made names hosts functions parts order _ _ h u d.ready d.stats

-- ## What a script declares

method_plain : (k : List ℕ) → Good (n.name (codes "Object")) → lexical.is_identifier_name k ≡ true → Good (f.function_method k)
unfolding lexical.reserved_words
method_plain k h i = (member_plain _ k (member_plain (n.name (codes "Object")) (codes "create") (name_plain (codes "Object") refl refl) refl) i).good

own_good : AllDeclared f.own_declarations
unfolding lexical.reserved_words
own_good = (declared_is q.empty_name (Some _) empty_good empty_object_plain.good, (declared_is q.call_name (Some _) call_good (method_plain q.call_name (name_plain (codes "Object") refl refl).good refl), (declared_is q.apply_name (Some _) apply_good (method_plain q.apply_name (name_plain (codes "Object") refl refl).good refl), tt)))

scoped_good : (names hosts functions : ℕ) (s : Scene) (ns : List ScopedName) → Ready names hosts s → lawful.names_drawn ns (lawful.round_part names hosts functions) ≡ true → AllDeclared (f.scoped_names s ns)
scoped_good names hosts functions s [] r h = tt
scoped_good names hosts functions s (a ∷ ns) r h = (declared_is (name_of s a.var) None (r.names a.var.0 (ltb-true _ _ (b.left _ _ h))) tt, scoped_good names hosts functions s ns r (b.right _ _ h))

modules_good : (names hosts functions : ℕ) (s : Scene) (parts : List CorePart) → Ready names hosts s → list_all (lawful.part_lawful names hosts functions) parts ≡ true → AllDeclared (f.module_names s parts)
modules_good names hosts functions s [] r h = tt
modules_good names hosts functions s (a ∷ parts) r h = declared_more (f.scoped_names s a.names) _ (scoped_good names hosts functions s a.names r (b.left _ _ (b.left _ _ (b.left _ _ h)))) (modules_good names hosts functions s parts r (b.right _ _ h))

-- ## The hosts that are handed in, outside any function

record Outer (x : Expr5) : Type 0 where
  pairs : (expr_found x).pairs false ≡ []

outer_by : (x : Expr5) (y : Open Expr5-F) → roll-Expr5 y ≡ x → (e.expr_step (found_expr y)).pairs false ≡ [] → Outer x
outer_by x y r h = record { pairs = ap (λ z. (expr_found z).pairs false) (sym r) ∙ ap (λ v. v.pairs false) (found_expr-roll y) ∙ h }

name_outer : (t : List ℕ) → GoodName t → Outer (n.name t)
name_outer t h = outer_by _ (layer.Name nowhere t) (expr.rolls-Name nowhere t) (when_not _ (e.V 7) 0 (not_eval t h.free))

literal_outer : (l : Literal5) → Outer (expr.Literal nowhere l)
literal_outer l = outer_by _ (layer.Literal nowhere l) (expr.rolls-Literal nowhere l) refl

typeof_outer : (x : Expr5) → Outer x → Outer (expr.Unary nowhere unary5.Typeof x)
typeof_outer x h = outer_by _ (layer.Unary nowhere unary5.Typeof x) (expr.rolls-Unary nowhere unary5.Typeof x) h.pairs

nothing_outer : Outer n.nothing
nothing_outer = outer_by _ (layer.Unary nowhere unary5.Void (n.integer 0)) (expr.rolls-Unary nowhere unary5.Void (n.integer 0)) (literal_outer (literal.Integer 0)).pairs

missing_is : (t : List ℕ) → f.is_missing t ≡ expr.Binary nowhere (expr.Unary nowhere unary5.Typeof (n.name t)) (n.operand Same (n.text (codes "undefined")) ∷ [])
unfolding n.operated
missing_is t = ap (n.operated_layer (expr.Unary nowhere unary5.Typeof (n.name t)) Same (n.text (codes "undefined"))) (out_is _ (layer.Unary nowhere unary5.Typeof (n.name t)) (expr.rolls-Unary nowhere unary5.Typeof (n.name t)))

missing_outer : (t : List ℕ) → GoodName t → Outer (f.is_missing t)
missing_outer t h =
    let o = n.operand Same (n.text (codes "undefined")) in let x = expr.Unary nowhere unary5.Typeof (n.name t) in
    outer_by _ (layer.Binary nowhere x (o ∷ [])) (expr.rolls-Binary nowhere x (o ∷ []) ∙ sym (missing_is t))
    (none (typeof_outer (n.name t) (name_outer t h)).pairs (none (ap (λ v. v false) (found_operand-roll (record { operator = Same; value = n.text (codes "undefined") })) ∙ (literal_outer (literal.Text (codes "undefined"))).pairs) refl))

handed_outer : (t : List ℕ) → GoodName t → Outer (f.handed_host t)
handed_outer t h = outer_by _ (layer.Conditional nowhere (f.is_missing t) n.nothing (n.name t)) (expr.rolls-Conditional nowhere (f.is_missing t) n.nothing (n.name t))
    (none (none (missing_outer t h).pairs nothing_outer.pairs) (name_outer t h).pairs)

handed_good : (t : List ℕ) → GoodName t → Good (f.handed_host t)
handed_good t h = (conditional_plain _ _ _ (operated_plain _ Same _ (unary_plain unary5.Typeof (n.name t) (named_plain t h).good refl).good (text_plain (codes "undefined") refl).good).good nothing_plain.good (named_plain t h).good).good

all_handed : (hosts : List (List ℕ)) → list_all is_host_name hosts ≡ true → Goods (f.handed hosts)
all_handed [] h = tt
all_handed (t ∷ hosts) h = (handed_good t (host_good t (b.left _ _ h)), all_handed hosts (b.right _ _ h))

handed_pairs : (hosts : List (List ℕ)) → list_all is_host_name hosts ≡ true → e.joined (λ (x : Found5). x.pairs false) (map expr_found (f.handed hosts)) ≡ []
handed_pairs [] h = refl
handed_pairs (t ∷ hosts) h = none (handed_outer t (host_good t (b.left _ _ h))).pairs (handed_pairs hosts (b.right _ _ h))

-- a function that is called outside any other
called_is : (g : Function5) (ys : List Expr5) → n.called (expr.Function g) ys None ≡ expr.Chain nowhere (expr.Function g) (link.Call nowhere ys None ∷ [])
unfolding n.chained
called_is g ys = ap (n.chained_layer (expr.Function g) (link.Call nowhere ys None)) (out_is _ (layer.Function g) (expr.rolls-Function g))

function_pairs : (g : Function5) → Good (expr.Function g) → (expr_found (expr.Function g)).pairs false ≡ []
function_pairs g h =
    let a = ap expr_found (sym (expr.rolls-Function g)) ∙ found_expr-roll (layer.Function g) in
    ap (λ (v : Found5). v.pairs false) a ∙ sym (ap (λ (v : Found5). v.pairs true) a) ∙ h.pairs

called_outer : (g : Function5) (ys : List Expr5) → Good (expr.Function g) → e.joined (λ (x : Found5). x.pairs false) (map expr_found ys) ≡ [] → Outer (n.called (expr.Function g) ys None)
called_outer g ys h k =
    let l = link.Call nowhere ys None in
    outer_by _ (layer.Chain nowhere (expr.Function g) (l ∷ [])) (expr.rolls-Chain nowhere (expr.Function g) (l ∷ []) ∙ sym (called_is g ys))
    (none (function_pairs g h) (none (ap (λ z. (link_found z).1 false) (sym (link.rolls-Call nowhere ys None)) ∙ ap (λ v. v.1 false) (found_link-roll (layer.Call nowhere ys None)) ∙ k) refl))

-- ## Parameters of the script

abbrev NotIn : List (List ℕ) → List (List ℕ) → Type 0
NotIn seen [] = Unit {0}
NotIn seen (t ∷ ts) = (is_one_of t seen ≡ false) × NotIn seen ts

not_in_more : (t : List ℕ) (seen ts : List (List ℕ)) → is_one_of t ts ≡ false → NotIn seen ts → NotIn (t ∷ seen) ts
not_in_more t seen [] h k = tt
not_in_more t seen (u ∷ ts) h k = (or_both _ _ (turned (or_left _ _ h)) k.0, not_in_more t seen ts (or_right (bytes_eq t u) _ h) k.1)
  where
    turned : bytes_eq t u ≡ false → bytes_eq u t ≡ false
    turned d = no_by _ (λ a. false≢true (sym d ∙ (bytes_decides t u).1 (sym ((bytes_decides u t).0 a))))

not_in_none : (ts : List (List ℕ)) → NotIn [] ts
not_in_none [] = tt
not_in_none (t ∷ ts) = (refl, not_in_none ts)

hosts_fit : (ts : List (List ℕ)) → GoodNames ts → p.names_fit (map (λ t. n.identifier t) ts) ≡ true
hosts_fit [] g = refl
hosts_fit (t ∷ ts) g = both g.0.is (hosts_fit ts g.1)

hosts_pairs : (seen ts : List (List ℕ)) → GoodNames ts → names_differ ts ≡ true → NotIn seen ts → e.parameter_pairs seen (map (λ t. n.identifier t) ts) ≡ []
hosts_pairs seen [] g d k = refl
hosts_pairs seen (t ∷ ts) g d k = none (none (when_not _ (e.F 1) 0 k.0) (when_not _ (e.F 2) 0 g.0.free)) (hosts_pairs (t ∷ seen) ts g.1 (b.right _ _ d) (not_in_more t seen ts (unnot _ (b.left _ _ d)) k.1))

parameters_of : (ts : List (List ℕ)) → HostsApart ts → GoodParameters (map (λ t. n.identifier t) ts)
parameters_of ts h = record { fit = hosts_fit ts h.good; pairs = hosts_pairs [] ts h.good h.differ (not_in_none ts) }

-- ## The body of the script

fits_more : (ss ts : List Stat5) → p.stats_fit true true (map stat_fit ss) ≡ true → p.stats_fit true true (map stat_fit ts) ≡ true → p.stats_fit true true (map stat_fit (ss ++ ts)) ≡ true
fits_more [] ts h k = k
fits_more (s ∷ ss) ts h k = both (b.left _ _ h) (fits_more ss ts (b.right _ _ h) k)

abbrev Legal : List Stat5 → Type 0
Legal ss = e.joined (λ (s : Around). s (e.of_function true)) (map stat_found ss) ≡ []

legal_more : (ss ts : List Stat5) → Legal ss → Legal ts → Legal (ss ++ ts)
legal_more [] ts h k = k
legal_more (s ∷ ss) ts h k = none (first_none (stat_found s (e.of_function true)) _ h) (legal_more ss ts (second_none (stat_found s (e.of_function true)) _ h) k)

legal_mapped : (ss : List Stat5) → e.joined (λ s. e.stat_pairs s (e.of_function true)) ss ≡ [] → Legal ss
legal_mapped [] h = refl
legal_mapped (s ∷ ss) h = none (first_none (e.stat_pairs s (e.of_function true)) _ h) (legal_mapped ss (second_none (e.stat_pairs s (e.of_function true)) _ h))

-- ## The script

strict_fit : stat_fit (n.expression (n.text (codes "use strict"))) ≡ record { fits = λ inside top. (expr_fit (n.text (codes "use strict"))).fits; is_if = false; is_open = false; is_strict = (expr_fit (n.text (codes "use strict"))).is_strict }
strict_fit = ap stat_fit (sym (stat.rolls-Expression nowhere (n.text (codes "use strict")))) ∙ fit_stat-roll (layer.Expression nowhere (n.text (codes "use strict")))

text_strict : (expr_fit (n.text (codes "use strict"))).is_strict ≡ true
text_strict = ap (λ z. (expr_fit z).is_strict) (sym (expr.rolls-Literal nowhere (literal.Text (codes "use strict")))) ∙ ap (λ v. v.is_strict) (fit_expr-roll (layer.Literal nowhere (literal.Text (codes "use strict"))))

said_fits : (x : Expr5) → Good x → (stat_fit (n.expression x)).fits false true ≡ true
said_fits x h = ap (λ z. (stat_fit z).fits false true) (sym (stat.rolls-Expression nowhere x)) ∙ ap (λ (v : FitStat). v.fits false true) (fit_stat-roll (layer.Expression nowhere x)) ∙ h.fits

said_pairs : (x : Expr5) → Outer x → e.stat_pairs (n.expression x) (e.of_function false) ≡ []
said_pairs x h = ap (λ z. stat_found z (e.of_function false)) (sym (stat.rolls-Expression nowhere x)) ∙ ap (λ v. v (e.of_function false)) (found_stat-roll (layer.Expression nowhere x)) ∙ h.pairs

script_printable : (parameters hosts : List (List ℕ)) (body : List Stat5) → HostsApart parameters → list_all is_host_name hosts ≡ true → p.stats_fit true true (map stat_fit body) ≡ true → Legal body → p.is_printable (f.script parameters hosts body) ≡ true
script_printable parameters hosts body a h k l =
    let u = n.text (codes "use strict") in
    let g = function_by None (map (λ t. n.identifier t) parameters) body tt (parameters_of parameters a) k l in
    let x = n.called (n.function None (map (λ t. n.identifier t) parameters) body) (f.handed hosts) None in
    let c = called_plain _ (f.handed hosts) g (all_handed hosts h) in
    both (both (ap (λ v. v.is_strict) strict_fit ∙ text_strict) (both (said_fits u (text_plain (codes "use strict") refl).good) (both (said_fits x c.good) refl)))
    (ap p.are_none (none (said_pairs u (literal_outer _)) (none (said_pairs x (called_outer _ (f.handed hosts) g.good (handed_pairs hosts h))) refl)))

begin_ready : (hints : List (Option (List ℕ))) (hosts : List (List ℕ)) (helpers : List Stat5) → nat_lt (length hints + length hosts) 18446744073709551616 ≡ true → AreHosts hosts → Ready (length hints) (length hosts) (f.scene_by hints hosts helpers)
begin_ready hints hosts helpers h a =
    let few = ltb-true (length hints + length hosts) 18446744073709551616 h in
    let helped = helped_names helpers in let taken = with_names [] helped in
    let good = hosts_good (helped ++ hosts) taken (length hints) hosts (omega arith) a.named in
    let size = hosts_length (helped ++ hosts) taken (length hints) hosts in
    record {
      names = λ i l. names_good (helped ++ hosts) (with_names taken hosts) 0 hints i (omega arith) l;
      hosts = λ i l. name_at (hosts_from (sign (helped ++ hosts)) taken (length hints) hosts) i (omega arith) good;
      slots = tt;
      step = tt;
      differ = λ i j l k same. names_apart (helped ++ hosts) (with_names taken hosts) hints i j (omega arith) l k same;
      all = record { good = good; differ = hosts_differ (helped ++ hosts) taken (length hints) hosts (omega arith) (there_behind helped hosts) a.differ };
    }

-- what stands in the one function: names, the helpers, and the modules
body_printable : (parameters hosts : List (List ℕ)) (ds : List Declared5) (helpers run : List Stat5) → HostsApart parameters → list_all is_host_name hosts ≡ true → AllDeclared ds → MayStandInside helpers → GoodStats (e.of_function true) run
    → p.is_printable (f.script parameters hosts ((n.variables ds ++ helpers) ++ run)) ≡ true
body_printable parameters hosts ds helpers run a h d k r =
    let declared = variables_good (e.of_function true) ds refl d in
    script_printable parameters hosts ((n.variables ds ++ helpers) ++ run) a h
    (fits_more (n.variables ds ++ helpers) run (fits_more (n.variables ds) helpers (stats_fit_by (e.of_function true) (n.variables ds) true declared) k.fit) (stats_fit_by (e.of_function true) run true r))
    (legal_more (n.variables ds ++ helpers) run (legal_more (n.variables ds) helpers (stats_pairs (e.of_function true) (n.variables ds) declared) (legal_mapped helpers k.legal)) (stats_pairs (e.of_function true) run r))

pub emitted_are_printable : EmittedArePrintable
emitted_are_printable core hosts helpers h u a k =
    let names = length core.fresh.hints in let functions = length core.functions in
    let made = f.functions_emitted core.functions (f.scene_by core.fresh.hints hosts helpers) in
    let differ = differ_left (flat_map (λ g. own_names g ++ declared_in (function_mentions g)) core.functions) (flat_map (λ x. scoped_numbers x.names ++ declared_in (part_mentions x)) core.parts) h.3 in
    let s = functions_ready names (length hosts) 0 core.functions _ h.0 u.0 differ (begin_ready core.fresh.hints hosts helpers u.2 a) in
    let begun = begun_made names (length hosts) functions core.parts [] made h.1 u.1 s tt in
    let run = bodies_made names (length hosts) functions core.parts core.order _ _ h.1 u.1 begun.ready begun.stats in
    body_printable made.hosts hosts (f.own_declarations ++ f.module_names made core.parts) helpers _ s.all a.named
    (declared_more f.own_declarations (f.module_names made core.parts) own_good (modules_good names (length hosts) functions made core.parts s h.1)) k run.stats
