-- What every core is within, and what a lawful one is.
use Rattle.std.specs.List.{list_all}
use Rattle.std.proofs.Common.{◌≡◌, ℕ, ◌+◌, Bool, true, false, ◌&&◌, ◌||◌, cond, nat_eq, List, [], ◌∷◌, map, length, Option, None, Some, refl, suc, arith}
use Rattle.std.proofs.lemmas.Bool.{eqb-true}
use Rattle.core_ast.specs.declared.parts.CoreHead.{CoreHead}
use Rattle.core_ast.specs.declared.parts.CoreHead.TheVariants as head
use Rattle.core_ast.specs.declared.parts.CoreOp.{CoreOp}
use Rattle.core_ast.specs.declared.parts.CoreOp.TheVariants as op
use Rattle.core_ast.specs.declared.tree.CoreStat.{CoreStat}
use Rattle.core_ast.specs.declared.tree.CoreLink.TheOpen as layer
use Rattle.core_ast.specs.declared.whole.Core.{Core}
use Rattle.core_ast.specs.declared.whole.CoreFunction.{CoreFunction}
use Rattle.core_ast.specs.declared.whole.CorePart.{CorePart}
use Rattle.core_ast.specs.Lawful as lawful
use Rattle.core_ast.specs.Lawful.{Round, Joint, Current, IsLawful, is_generator}
use Rattle.pass_rules.specs.pass_laws.Levels.{Level, Test, all_within, is_bare, head_within, op_within, function_within, part_within, IsWithin, anything, lawful_inside, lawful_outside}
use Rattle.pass_rules.proofs.pass_laws.Related.{Fold, Relates, Keeps, Pair, Links, Stats, Exprs, link_first, link_second, stat_first, stat_second, case_first, case_second, expr_first, expr_second, stat_related}
use Rattle.pass_rules.proofs.pass_laws.Within.{within, left, right, both, Are}

-- ## Anything

abbrev OfTest : Test → Test → Type 0
OfTest t u = t anything ≡ true

abbrev anyone : Relates within within
anyone = record { Link = OfTest; Stat = OfTest; Case = OfTest; Expr = OfTest }

all_hold : (ps : List (Pair OfTest)) → all_within (map (λ q. q.0) ps) anything ≡ true
all_hold [] = refl
all_hold (q ∷ ps) = both q.2 (all_hold ps)

or_true : (b : Bool) → (b || true) ≡ true
or_true true = refl
or_true false = refl

any_op : (o : CoreOp) (b : Bool) → op_within o b anything ≡ true
any_op op.Yield b = or_true b
any_op op.Delegate b = or_true b
any_op o b = refl

any_head : (h : CoreHead) → head_within h anything ≡ true
any_head (head.Copy xs) = refl
any_head h = refl

any_link : (z : Links anyone) → within.link_step (link_first anyone z) anything ≡ true
any_link (layer.Strict o parts site) = both (any_op o _) (all_hold parts)
any_link (layer.Lazy w taken None) = both taken.2 refl
any_link (layer.Lazy w taken (Some other)) = both taken.2 other.2
any_link (layer.Run body) = all_hold body

any_stat : (z : Stats anyone) → within.stat_step (stat_first anyone z) anything ≡ true
any_stat (layer.Do x) = x.2
any_stat (layer.If cases) = all_hold cases
any_stat (layer.Switch subject cases) = both subject.2 (all_hold cases)
any_stat (layer.Loop labels None None body) = all_hold body
any_stat (layer.Loop labels None (Some u) body) = both u.2 (all_hold body)
any_stat (layer.Loop labels (Some t) None body) = both (both t.2 refl) (all_hold body)
any_stat (layer.Loop labels (Some t) (Some u) body) = both (both t.2 u.2) (all_hold body)
any_stat (layer.Labelled label body) = all_hold body
any_stat (layer.Jump goes_on label) = refl
any_stat (layer.Return x) = x.2
any_stat (layer.Throw x) = x.2
any_stat (layer.TryCatch block parameter names handler) = both (both (or_true (is_bare names)) (all_hold block)) (all_hold handler)
any_stat (layer.TryFinally block last) = both (all_hold block) (all_hold last)
any_stat (layer.Scoped names body) = all_hold body
any_stat (layer.Yield value kind result) = value.2

any_case_of : (test : Option (Pair OfTest)) (body : List (Pair OfTest)) → within.case_step (case_first anyone (record { test = test; body = body })) anything ≡ true
any_case_of None body = all_hold body
any_case_of (Some t) body = both t.2 (all_hold body)

any_kept : Keeps anyone
any_kept = record { link = any_link; stat = any_stat; case = λ z. any_case_of z.test z.body; expr = λ z. both (any_head z.head) (all_hold z.links) }

pub any_stats : (ss : List CoreStat) → Are anything ss
any_stats [] = refl
any_stats (x ∷ ss) = both (stat_related anyone any_kept x) (any_stats ss)

any_level : (b : Bool) (ss : List CoreStat) → Are (cond b anything anything) ss
any_level true ss = any_stats ss
any_level false ss = any_stats ss

any_functions : (fs : List CoreFunction) → list_all (function_within anything anything) fs ≡ true
any_functions [] = refl
any_functions (f ∷ fs) = both (both (both (any_stats f.setup) (any_level (is_generator f.kind) f.body)) (any_stats f.step)) (any_functions fs)

any_parts : (ps : List CorePart) → list_all (part_within anything) ps ≡ true
any_parts [] = refl
any_parts (p ∷ ps) = both (both (any_stats p.instantiate) (any_stats p.body)) (any_parts ps)

pub any_core : (core : Core) → IsWithin anything anything core
any_core core = (any_functions core.functions, any_parts core.parts)

-- ## Lawful statements

abbrev pub laws : Fold
laws = record {
  Link = Joint;
  Stat = lawful.Test;
  Case = lawful.Test;
  Expr = lawful.Test;
  link_step = lawful.link_step;
  stat_step = lawful.stat_step;
  case_step = lawful.case_step;
  expr_step = lawful.expr_step;
}

-- by whether there may be yields
abbrev at : Bool → Level
at b = record { scopes = true; runs = true; links = b; parted = false; yields = b }

abbrev OfJoint : Test → Joint → Type 0
OfJoint t j = (round : Round) → j.lawful round ≡ true → t (at round.yields) ≡ true

abbrev OfLawful : Test → lawful.Test → Type 0
OfLawful t u = (round : Round) → u round ≡ true → t (at round.yields) ≡ true

abbrev relation : Relates within laws
relation = record { Link = OfJoint; Stat = OfLawful; Case = OfLawful; Expr = OfLawful }

all_kept : (ps : List (Pair OfLawful)) (round : Round) → lawful.all_lawful (map (λ q. q.1) ps) round ≡ true → all_within (map (λ q. q.0) ps) (at round.yields) ≡ true
all_kept [] round h = refl
all_kept (q ∷ ps) round h = both (q.2 round (left _ _ h)) (all_kept ps round (right _ _ h))

links_kept : (ps : List (Pair OfJoint)) (c : Current) (round : Round) → lawful.links_lawful c (map (λ q. q.1) ps) round ≡ true → all_within (map (λ q. q.0) ps) (at round.yields) ≡ true
links_kept [] c round h = refl
links_kept (q ∷ ps) c round h = both (q.2 round (right _ _ (left _ _ h))) (links_kept ps (lawful.after q.1.ends) round (right _ _ h))

head_is : (h : CoreHead) (b : Bool) → head_within h (at b) ≡ true
head_is (head.Copy xs) b = refl
head_is h b = refl

yields_are : (b : Bool) → b ≡ true → (b && (true || false)) ≡ true
yields_are b h = both h refl

pub not_bare : (n : ℕ) → nat_eq (suc n) 0 ≡ true → ⊥
not_bare n h = let e : suc n ≡ 0 = eqb-true (suc n) 0 h in omega arith

op_is : (o : CoreOp) (ps : List (Pair OfLawful)) (round : Round) → lawful.takes o (length (map (λ q. q.1) ps)) ≡ true → lawful.op_lawful o round ≡ true → op_within o (is_bare (map (λ q. q.0) ps)) (at round.yields) ≡ true
op_is op.Yield [] round h k = yields_are round.yields k
op_is op.Yield (q ∷ ps) round h k = absurd (not_bare _ h)
op_is op.Delegate [] round h k = yields_are round.yields k
op_is op.Delegate (q ∷ ps) round h k = absurd (not_bare _ h)
op_is o ps round h k = refl

link_kept : (z : Links relation) → OfJoint (within.link_step (link_first relation z)) (laws.link_step (link_second relation z))
link_kept (layer.Strict o parts site) round h = both (op_is o parts round (left _ _ (left _ _ h)) (right _ _ (left _ _ h))) (all_kept parts round (right _ _ h))
link_kept (layer.Lazy w taken None) round h = both (taken.2 round (left _ _ h)) refl
link_kept (layer.Lazy w taken (Some other)) round h = both (taken.2 round (left _ _ h)) (other.2 round (right _ _ h))
link_kept (layer.Run body) round h = all_kept body round h

expr_kept : (z : Exprs relation) → OfLawful (within.expr_step (expr_first relation z)) (laws.expr_step (expr_second relation z))
expr_kept z round h = both (head_is z.head round.yields) (links_kept z.links (lawful.begins z.head) round (right _ _ (left _ _ h)))

case_of : (test : Option (Pair OfLawful)) (body : List (Pair OfLawful)) → OfLawful (within.case_step (case_first relation (record { test = test; body = body }))) (laws.case_step (case_second relation (record { test = test; body = body })))
case_of None body round h = all_kept body round h
case_of (Some t) body round h = both (t.2 round (left _ _ h)) (all_kept body round (right _ _ h))

stat_kept : (z : Stats relation) → OfLawful (within.stat_step (stat_first relation z)) (laws.stat_step (stat_second relation z))
stat_kept (layer.Do x) round h = x.2 round h
stat_kept (layer.If cases) round h = all_kept cases round h
stat_kept (layer.Switch subject cases) round h = both (subject.2 round (left _ _ h)) (all_kept cases round (right _ _ h))
stat_kept (layer.Loop labels None None body) round h = all_kept body (lawful.in_loop labels round) (right _ _ h)
stat_kept (layer.Loop labels None (Some u) body) round h = both (u.2 round (right _ _ (left _ _ h))) (all_kept body (lawful.in_loop labels round) (right _ _ h))
stat_kept (layer.Loop labels (Some t) None body) round h = both (both (t.2 round (right _ _ (left _ _ (left _ _ h)))) refl) (all_kept body (lawful.in_loop labels round) (right _ _ h))
stat_kept (layer.Loop labels (Some t) (Some u) body) round h = both (both (t.2 round (right _ _ (left _ _ (left _ _ h)))) (u.2 round (right _ _ (left _ _ h)))) (all_kept body (lawful.in_loop labels round) (right _ _ h))
stat_kept (layer.Labelled label body) round h = all_kept body (lawful.under label round) (right _ _ h)
stat_kept (layer.Jump goes_on label) round h = refl
stat_kept (layer.Return x) round h = x.2 round (right _ _ h)
stat_kept (layer.Throw x) round h = x.2 round h
stat_kept (layer.TryCatch block parameter names handler) round h = both (both (or_true (is_bare names)) (all_kept block round (left _ _ (left _ _ (left _ _ h))))) (all_kept handler round (right _ _ h))
stat_kept (layer.TryFinally block last) round h = both (all_kept block round (left _ _ h)) (all_kept last round (right _ _ h))
stat_kept (layer.Scoped names body) round h = all_kept body round (right _ _ h)
stat_kept (layer.Yield value kind result) round h = both (left _ _ (left _ _ (left _ _ h))) (value.2 round (right _ _ (left _ _ (left _ _ h))))

kept : Keeps relation
kept = record { link = link_kept; stat = stat_kept; case = λ z. case_of z.test z.body; expr = expr_kept }

-- ## Lawful cores

stats_are : (ss : List CoreStat) (round : Round) → lawful.stats_lawful ss round ≡ true → Are (at round.yields) ss
stats_are [] round h = refl
stats_are (x ∷ ss) round h = both (stat_related relation kept x round (left _ _ h)) (stats_are ss round (right _ _ h))

level_is : (b : Bool) (ss : List CoreStat) → Are (at b) ss → Are (cond b lawful_inside lawful_outside) ss
level_is true ss h = h
level_is false ss h = h

function_is : (names hosts number : ℕ) (f : CoreFunction) → lawful.function_lawful names hosts number f ≡ true → function_within lawful_inside lawful_outside f ≡ true
function_is names hosts number f h = both (both
    (stats_are f.setup (lawful.round_function names hosts number false) (right _ _ (left _ _ (left _ _ h))))
    (level_is (is_generator f.kind) f.body (stats_are f.body (lawful.round_function names hosts number (is_generator f.kind)) (right _ _ (left _ _ h)))))
    (stats_are f.step (lawful.round_function names hosts number false) (right _ _ h))

functions_are : (names hosts number : ℕ) (fs : List CoreFunction) → lawful.functions_lawful names hosts number fs ≡ true → list_all (function_within lawful_inside lawful_outside) fs ≡ true
functions_are names hosts number [] h = refl
functions_are names hosts number (f ∷ fs) h = both (function_is names hosts number f (left _ _ h)) (functions_are names hosts (number + 1) fs (right _ _ h))

part_is : (names hosts functions : ℕ) (p : CorePart) → lawful.part_lawful names hosts functions p ≡ true → part_within lawful_outside p ≡ true
part_is names hosts functions p h = both (stats_are p.instantiate (lawful.round_part names hosts functions) (right _ _ (left _ _ h))) (stats_are p.body (lawful.round_part names hosts functions) (right _ _ h))

parts_are : (names hosts functions : ℕ) (ps : List CorePart) → list_all (lawful.part_lawful names hosts functions) ps ≡ true → list_all (part_within lawful_outside) ps ≡ true
parts_are names hosts functions [] h = refl
parts_are names hosts functions (p ∷ ps) h = both (part_is names hosts functions p (left _ _ h)) (parts_are names hosts functions ps (right _ _ h))

pub lawful_core : (core : Core) → IsLawful core → IsWithin lawful_inside lawful_outside core
lawful_core core h = (functions_are _ h.0 0 core.functions h.1.0, parts_are _ h.0 _ core.parts h.1.1)
