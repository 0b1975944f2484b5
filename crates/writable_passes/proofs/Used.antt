-- The flattening of yields draws no more names than there are slots: what comes out is lawful with these, and uses no others.
use Rattle.std.specs.List.{list_all}
use Rattle.std.proofs.Common.{◌≡◌, ℕ, zero, suc, ◌+◌, ◌≤◌, ◌<◌, max, true, false, nat_lt, List, [], ◌∷◌, ◌++◌, map, length, length-append, Option, None, Some, refl, sym, ap, arith, ◌∙◌}
use Rattle.std.proofs.lemmas.Bool.{false≢true, ltb-true, lt-ltb}
use Rattle.core_ast.specs.declared.gathering.Mentions.{Mentions}
use Rattle.core_ast.specs.declared.naming.Fresh.{Fresh}
use Rattle.core_ast.specs.declared.parts.CoreHead.{CoreHead}
use Rattle.core_ast.specs.declared.parts.CoreHead.TheVariants as head
use Rattle.core_ast.specs.declared.parts.CoreOp.{CoreOp}
use Rattle.core_ast.specs.declared.parts.CoreOp.TheVariants as op
use Rattle.core_ast.specs.declared.parts.Label.{Label}
use Rattle.core_ast.specs.declared.parts.Var.{Var}
use Rattle.core_ast.specs.declared.tree.CoreStat.{CoreStat}
use Rattle.core_ast.specs.declared.tree.CoreLink.TheOpen as layer
use Rattle.core_ast.specs.declared.whole.Core.{Core}
use Rattle.core_ast.specs.declared.whole.CoreFunction.{CoreFunction}
use Rattle.core_ast.specs.declared.whole.CorePart.{CorePart}
use Rattle.core_ast.specs.Lawful as lawful
use Rattle.core_ast.specs.Lawful.{Current, Joint, Round, Test, all_differ, has_label, has_number, is_generator}
use Rattle.core_ast.specs.Mentions as m
use Rattle.core_ast.specs.Mentions.{Adds, function_mentions, none, part_mentions, stats_mentions}
use Rattle.core_ast.specs.Walks.{along}
use Rattle.pass_rules.specs.declared.yield_rules.spilling.Place.{Place}
use Rattle.pass_rules.specs.pass_laws.Marks.{total}
use Rattle.pass_rules.specs.yield_rules.Yields as y
use Rattle.pass_rules.proofs.pass_laws.Related.{Relates, Keeps, Pair, Links, Stats, Exprs, link_first, link_second, stat_first, stat_second, case_first, case_second, expr_first, expr_second, of_stat, stat_related}
use Rattle.pass_rules.proofs.pass_laws.Starts.{laws}
use Rattle.pass_rules.proofs.pass_laws.Within.{left, right, both}
use Rattle.lawful_passes.specs.Told.{LabelsDiffer, function_told, part_told, stats_told, tells_apart}
use Rattle.lawful_passes.proofs.Labels.{differ_left, differ_right, has_left, has_right}
use Rattle.lawful_passes.proofs.Mentioned.{function_labels, label_below, part_labels}
use Rattle.lawful_passes.proofs.Places.{At}
use Rattle.lawful_passes.proofs.Rebound.{Below, renamed}
use Rattle.lawful_passes.proofs.Tallies.{mentions}
use Rattle.lawful_passes.proofs.Turned.{stats_turned}

abbrev pub size : Fresh → ℕ
size fresh = length fresh.hints

-- ## Lawful statements use but names that are drawn

abbrev AllBelow : ℕ → List Var → Type 0
AllBelow n xs = list_all (λ (x : Var). nat_lt x.0 n) xs ≡ true

below_more : (n : ℕ) (xs ys : List Var) → AllBelow n xs → AllBelow n ys → AllBelow n (xs ++ ys)
below_more n [] ys h k = k
below_more n (x ∷ xs) ys h k = both (left _ _ h) (below_more n xs ys (right _ _ h) k)

raised : (n : ℕ) (r : Round) (x : Var) → r.names ≤ n → lawful.is_drawn r x ≡ true → nat_lt x.0 n ≡ true
raised n r x l h = let a = ltb-true x.0 r.names h in lt-ltb x.0 n (omega arith)

all_raised : (n : ℕ) (r : Round) (xs : List Var) → r.names ≤ n → list_all (lawful.is_drawn r) xs ≡ true → AllBelow n xs
all_raised n r [] l h = refl
all_raised n r (x ∷ xs) l h = both (raised n r x l (left _ _ h)) (all_raised n r xs l (right _ _ h))

abbrev Uses : Test → Adds → Type 0
Uses f g = (n : ℕ) (r : Round) (a : Mentions) → r.names ≤ n → f r ≡ true → Below n a → Below n (g a)

abbrev JointUses : Joint → Adds → Type 0
JointUses j g = Uses j.lawful g

abbrev uses : Relates laws mentions
uses = record { Link = JointUses; Stat = Uses; Case = Uses; Expr = Uses }

head_uses : (h : CoreHead) → Uses (lawful.head_lawful h) (m.of_head h)
unfolding m.of_head
head_uses (head.Variable x) n r a l h b = below_more n a.uses (x ∷ []) b (both (raised n r x l h) refl)
head_uses (head.TypeOf x) n r a l h b = absurd (false≢true h)
head_uses (head.Copy xs) n r a l h b = below_more n a.uses xs b (all_raised n r xs l h)
head_uses (head.Function f) n r a l h b = b
head_uses x n r a l h b = b

op_uses : (o : CoreOp) → Uses (lawful.op_lawful o) (m.of_op o)
unfolding m.of_op
op_uses (op.Set x) n r a l h b = below_more n a.uses (x ∷ []) b (both (raised n r x l h) refl)
op_uses (op.Init x) n r a l h b = below_more n a.uses (x ∷ []) b (both (raised n r x l h) refl)
op_uses (op.StepVariable u x) n r a l h b = absurd (false≢true h)
op_uses o n r a l h b = b

yield_uses : (kind : Option Var) (result : Var) (n : ℕ) (r : Round) (a : Mentions) → r.names ≤ n → lawful.is_drawn r result ≡ true → list_all (λ i. nat_lt i r.names) (lawful.number_of kind) ≡ true → Below n a → Below n (m.of_yield kind result a)
unfolding m.of_yield
yield_uses None result n r a l h k b = below_more n a.uses (result ∷ []) b (both (raised n r result l h) refl)
yield_uses (Some kind) result n r a l h k b = below_more n a.uses (kind ∷ result ∷ []) b (both (raised n r kind l (left _ _ k)) (both (raised n r result l h) refl))

tests_use : (ps : List (Pair Uses)) → Uses (lawful.all_lawful (map (λ q. q.0) ps)) (along (map (λ q. q.1) ps))
tests_use [] n r a l h b = b
tests_use (q ∷ ps) n r a l h b = tests_use ps n r (q.1 a) l (right _ _ h) (q.2 n r a l (left _ _ h) b)

links_use : (ps : List (Pair JointUses)) (c : Current) → Uses (lawful.links_lawful c (map (λ q. q.0) ps)) (along (map (λ q. q.1) ps))
links_use [] c n r a l h b = b
links_use (q ∷ ps) c n r a l h b = links_use ps (lawful.after q.0.ends) n r (q.1 a) l (right _ _ h) (q.2 n r a l (right _ _ (left _ _ h)) b)

link_uses : (z : Links uses) → JointUses (laws.link_step (link_first uses z)) (mentions.link_step (link_second uses z))
link_uses (layer.Strict o parts site) n r a l h b = op_uses o n r (along (map (λ q. q.1) parts) a) l (right _ _ (left _ _ h)) (tests_use parts n r a l (right _ _ h) b)
link_uses (layer.Lazy w taken None) n r a l h b = taken.2 n r a l (left _ _ h) b
link_uses (layer.Lazy w taken (Some other)) n r a l h b = other.2 n r (taken.1 a) l (right _ _ h) (taken.2 n r a l (left _ _ h) b)
link_uses (layer.Run body) n r a l h b = tests_use body n r a l h b

expr_uses : (z : Exprs uses) → Uses (laws.expr_step (expr_first uses z)) (mentions.expr_step (expr_second uses z))
expr_uses z n r a l h b = links_use z.links (lawful.begins z.head) n r (m.of_head z.head a) l (right _ _ (left _ _ h)) (head_uses z.head n r a l (right _ _ (left _ _ (left _ _ h))) b)

case_uses : (test : Option (Pair Uses)) (body : List (Pair Uses)) → Uses (laws.case_step (case_first uses (record { test = test; body = body }))) (mentions.case_step (case_second uses (record { test = test; body = body })))
case_uses None body n r a l h b = tests_use body n r a l h b
case_uses (Some t) body n r a l h b = tests_use body n r (t.1 a) l (right _ _ h) (t.2 n r a l (left _ _ h) b)

stat_uses : (z : Stats uses) → Uses (laws.stat_step (stat_first uses z)) (mentions.stat_step (stat_second uses z))
stat_uses (layer.Do x) n r a l h b = x.2 n r a l h b
stat_uses (layer.If cases) n r a l h b = tests_use cases n r a l h b
stat_uses (layer.Switch subject cases) n r a l h b = tests_use cases n r (subject.1 a) l (right _ _ h) (subject.2 n r a l (left _ _ h) b)
stat_uses (layer.Loop labels None None body) n r a l h b = tests_use body n (lawful.in_loop labels r) (m.labelled labels a) l (right _ _ h) b
stat_uses (layer.Loop labels None (Some v) body) n r a l h b = tests_use body n (lawful.in_loop labels r) (v.1 (m.labelled labels a)) l (right _ _ h) (v.2 n r (m.labelled labels a) l (right _ _ (left _ _ h)) b)
stat_uses (layer.Loop labels (Some u) None body) n r a l h b = tests_use body n (lawful.in_loop labels r) (u.1 (m.labelled labels a)) l (right _ _ h) (u.2 n r (m.labelled labels a) l (right _ _ (left _ _ (left _ _ h))) b)
stat_uses (layer.Loop labels (Some u) (Some v) body) n r a l h b =
    tests_use body n (lawful.in_loop labels r) (v.1 (u.1 (m.labelled labels a))) l (right _ _ h)
    (v.2 n r (u.1 (m.labelled labels a)) l (right _ _ (left _ _ h)) (u.2 n r (m.labelled labels a) l (right _ _ (left _ _ (left _ _ h))) b))
stat_uses (layer.Labelled label body) n r a l h b = tests_use body n (lawful.under label r) (m.labelled (label ∷ []) a) l (right _ _ h) b
stat_uses (layer.Jump goes_on label) n r a l h b = b
stat_uses (layer.Return x) n r a l h b = x.2 n r a l (right _ _ h) b
stat_uses (layer.Throw x) n r a l h b = x.2 n r a l h b
stat_uses (layer.TryCatch block parameter names handler) n r a l h b =
    tests_use handler n r (m.scopes names (m.catches parameter (along (map (λ q. q.1) block) a))) l (right _ _ h) (tests_use block n r a l (left _ _ (left _ _ (left _ _ h))) b)
stat_uses (layer.TryFinally block last) n r a l h b = tests_use last n r (along (map (λ q. q.1) block) a) l (right _ _ h) (tests_use block n r a l (left _ _ h) b)
stat_uses (layer.Scoped names body) n r a l h b = tests_use body n r (m.scopes names a) l (right _ _ h) b
stat_uses (layer.Yield value kind result) n r a l h b =
    yield_uses kind result n r (value.1 a) l (right _ _ (left _ _ h)) (right _ _ h) (value.2 n r a l (right _ _ (left _ _ (left _ _ h))) b)

kept : Keeps uses
kept = record { link = link_uses; stat = stat_uses; case = λ z. case_uses z.test z.body; expr = expr_uses }

stats_use : (ss : List CoreStat) → Uses (lawful.stats_lawful ss) (stats_mentions ss)
stats_use [] n r a l h b = b
stats_use (x ∷ ss) n r a l h b = stats_use ss n r (of_stat mentions x a) l (right _ _ h) (stat_related uses kept x n r a l (left _ _ h) b)

-- ## So what is turned uses but these and its slots

record Whole (round : Round) : Type 0 where
  labels : round.labels ≡ []
  loops : round.loops ≡ []
  hands : round.yields ≡ true → round.returns ≡ true

turned_uses : (ss : List CoreStat) (round : Round) (p : Place) (top : ℕ) (a : Mentions) → Whole round → round.names ≤ p.slot → p.slot + (stats_told ss).slots ≤ top → all_differ (stats_told ss).labels ≡ true → (stats_told ss).few ≡ true
    → ((i : ℕ) → has_number i (stats_told ss).labels ≡ true → i < p.label) → lawful.stats_lawful ss round ≡ true → Below top a → Below top (stats_mentions (y.stats_spilled ss p) a)
turned_uses ss round p top a f l n differ few under h b =
    let many = p.slot + (stats_told ss).slots in let r = renamed many round in
    let no_label = λ (k : Label). ap (has_label k) f.labels in
    let at : At round r (stats_told ss) p = record {
      hosts = refl;
      functions = refl;
      returns = λ e. e;
      yields = λ e. e;
      hands = f.hands;
      names = omega arith;
      slots = omega arith;
      labels = λ k e. e;
      loops = λ k e. e;
      below = λ k e. absurd (false≢true (sym (no_label k) ∙ e));
      apart = λ k e. no_label k;
      under = under;
      differ = differ;
      few = few;
    } in
    stats_use (y.stats_spilled ss p) top r a n (stats_turned ss round r p at h [] refl) b

behind_below : (xs : List Var) (n top : ℕ) → n ≤ top → AllBelow top xs → y.name_behind xs n ≤ top
behind_below [] n top l h = l
behind_below (x ∷ xs) n top l h = let a = ltb-true x.0 top (left _ _ h) in behind_below xs (max n (x.0 + 1)) top (omega arith) (right _ _ h)

drawn_size : (k : ℕ) (fresh : Fresh) → size (y.drawn k fresh).fresh ≡ size fresh + k
drawn_size zero fresh = omega arith
drawn_size (suc k) fresh = let a = drawn_size k fresh in let b = length-append (y.drawn k fresh).fresh.hints (None ∷ []) in omega arith

-- no fewer names, and no more than so many more
record Drawn (fresh : Fresh) (k : ℕ) (last : Fresh) : Type 0 where
  least : size fresh ≤ size last
  most : size last ≤ size fresh + k

after : (first next last : Fresh) (k m : ℕ) → Drawn first k next → Drawn next m last → Drawn first (k + m) last
after first next last k m a b = let c = a.least in let d = a.most in let e = b.least in let f = b.most in record { least = omega arith; most = omega arith }

enough : (names : ℕ) (first next : Fresh) (k : ℕ) → names ≤ size first → Drawn first k next → names ≤ size next
enough names first next k l a = let c = a.least in omega arith

slots_drawn : (a : Mentions) (fresh : Fresh) (k : ℕ) → Below (size fresh + k) a → Drawn fresh k (y.drawn (y.slots a fresh) fresh).fresh
slots_drawn a fresh k b =
    let c = drawn_size (y.slots a fresh) fresh in let d = behind_below a.uses (size fresh) (size fresh + k) (omega arith) b in
    record { least = omega arith; most = omega arith }

-- ## Functions and parts

function_drawn : (names hosts number : ℕ) (f : CoreFunction) (fresh : Fresh) → lawful.function_lawful names hosts number f ≡ true → tells_apart (function_told f) ≡ true → names ≤ size fresh
    → Drawn fresh (function_told f).slots (y.one_function f fresh).fresh
function_drawn names hosts number f fresh h apart l =
    let u = stats_told f.setup in let v = stats_told f.body in let w = stats_told f.step in
    let p = y.begins (function_mentions f) fresh in let g = y.function_at p f in let top = size fresh + (function_told f).slots in
    let under = λ (i : ℕ) (e : has_number i (function_told f).labels ≡ true). label_below (function_mentions f).labels 0 i (ap (has_number i) (function_labels f) ∙ e) in
    let a : size fresh + u.slots ≤ top = omega arith in let b : size fresh + v.slots ≤ top = omega arith in let c : size fresh + w.slots ≤ top = omega arith in
    let differ = left _ _ apart in let few = right _ _ apart in
    let two = differ_left (u.labels ++ v.labels) w.labels differ in
    let plain = lawful.round_function names hosts number false in let inner = lawful.round_function names hosts number (is_generator f.kind) in
    let setup = turned_uses f.setup plain p top none (record { labels = refl; loops = refl; hands = λ e. refl }) l a (differ_left u.labels v.labels two) (left _ _ (left _ _ few))
    (λ i e. under i (has_left i (u.labels ++ v.labels) w.labels (has_left i u.labels v.labels e))) (right _ _ (left _ _ (left _ _ h))) refl in
    let body = turned_uses f.body inner p top (stats_mentions g.setup none) (record { labels = refl; loops = refl; hands = λ e. refl }) l b (differ_right u.labels v.labels two) (right _ _ (left _ _ few))
    (λ i e. under i (has_left i (u.labels ++ v.labels) w.labels (has_right i u.labels v.labels e))) (right _ _ (left _ _ h)) setup in
    let step = turned_uses f.step plain p top (stats_mentions g.body (stats_mentions g.setup none)) (record { labels = refl; loops = refl; hands = λ e. refl }) l c (differ_right (u.labels ++ v.labels) w.labels differ) (right _ _ few)
    (λ i e. under i (has_right i (u.labels ++ v.labels) w.labels e)) (right _ _ h) body in
    slots_drawn (function_mentions g) fresh (function_told f).slots step

part_drawn : (names hosts functions : ℕ) (x : CorePart) (fresh : Fresh) → lawful.part_lawful names hosts functions x ≡ true → tells_apart (part_told x) ≡ true → names ≤ size fresh
    → Drawn fresh (part_told x).slots (y.one_part x fresh).fresh
part_drawn names hosts functions x fresh h apart l =
    let u = stats_told x.instantiate in let v = stats_told x.body in
    let p = y.begins (part_mentions x) fresh in let g = y.part_at p x in let top = size fresh + (part_told x).slots in
    let under = λ (i : ℕ) (e : has_number i (part_told x).labels ≡ true). label_below (part_mentions x).labels 0 i (ap (has_number i) (part_labels x) ∙ e) in
    let a : size fresh + u.slots ≤ top = omega arith in let b : size fresh + v.slots ≤ top = omega arith in
    let differ = left _ _ apart in let few = right _ _ apart in let plain = lawful.round_part names hosts functions in
    let begun = turned_uses x.instantiate plain p top none (record { labels = refl; loops = refl; hands = λ e. absurd (false≢true e) }) l a (differ_left u.labels v.labels differ) (left _ _ few)
    (λ i e. under i (has_left i u.labels v.labels e)) (right _ _ (left _ _ h)) refl in
    let body = turned_uses x.body plain p top (stats_mentions g.instantiate none) (record { labels = refl; loops = refl; hands = λ e. absurd (false≢true e) }) l b (differ_right u.labels v.labels differ) (right _ _ few)
    (λ i e. under i (has_right i u.labels v.labels e)) (right _ _ h) begun in
    slots_drawn (part_mentions g) fresh (part_told x).slots body

abbrev pub functions_slots : List CoreFunction → ℕ
functions_slots fs = total (map (λ f. (function_told f).slots) fs)

abbrev pub parts_slots : List CorePart → ℕ
parts_slots ps = total (map (λ p. (part_told p).slots) ps)

functions_drawn : (names hosts number : ℕ) (fs made : List CoreFunction) (fresh : Fresh) → lawful.functions_lawful names hosts number fs ≡ true → list_all (λ f. tells_apart (function_told f)) fs ≡ true → names ≤ size fresh
    → Drawn fresh (functions_slots fs) (y.all_functions fs made fresh).fresh
functions_drawn names hosts number [] made fresh h apart l = record { least = omega arith; most = omega arith }
functions_drawn names hosts number (f ∷ fs) made fresh h apart l =
    let g = y.one_function f fresh in let a = function_drawn names hosts number f fresh (left _ _ h) (left _ _ apart) l in
    after fresh g.fresh _ (function_told f).slots (functions_slots fs) a (functions_drawn names hosts (number + 1) fs (made ++ g.made ∷ []) g.fresh (right _ _ h) (right _ _ apart) (enough names fresh g.fresh (function_told f).slots l a))

parts_drawn : (names hosts functions : ℕ) (xs made : List CorePart) (fresh : Fresh) → list_all (lawful.part_lawful names hosts functions) xs ≡ true → list_all (λ p. tells_apart (part_told p)) xs ≡ true → names ≤ size fresh
    → Drawn fresh (parts_slots xs) (y.all_parts xs made fresh).fresh
parts_drawn names hosts functions [] made fresh h apart l = record { least = omega arith; most = omega arith }
parts_drawn names hosts functions (x ∷ xs) made fresh h apart l =
    let g = y.one_part x fresh in let a = part_drawn names hosts functions x fresh (left _ _ h) (left _ _ apart) l in
    after fresh g.fresh _ (part_told x).slots (parts_slots xs) a (parts_drawn names hosts functions xs (made ++ g.made ∷ []) g.fresh (right _ _ h) (right _ _ apart) (enough names fresh g.fresh (part_told x).slots l a))

pub yields_drawn : (hosts : ℕ) (core : Core) → lawful.IsLawfulFor hosts core → LabelsDiffer core → size (y.with_yields_flat core).fresh ≤ size core.fresh + (functions_slots core.functions + parts_slots core.parts)
yields_drawn hosts core h apart =
    let names = size core.fresh in let fs = y.all_functions core.functions [] core.fresh in
    let a = functions_drawn names hosts 0 core.functions [] core.fresh h.0 apart.0 (omega arith) in let c = a.least in let d = a.most in
    let b = parts_drawn names hosts (length core.functions) core.parts [] fs.fresh h.1 apart.1 c in let e = b.most in omega arith
