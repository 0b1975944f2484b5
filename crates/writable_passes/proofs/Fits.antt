-- What can be written with labels below a number, node by node.
use Rattle.std.specs.List.{list_all}
use Rattle.std.specs.Str.{bytes_eq}
use Rattle.std.proofs.Common.{◌≡◌, ℕ, Bool, true, false, ◌&&◌, ◌||◌, not, nat_lt, length, List, [], ◌∷◌, ◌++◌, map, Option, None, Some, refl, sym, ap, subst, ◌∙◌}
use Rattle.std.proofs.lemmas.Bool.{false≢true}
use Rattle.es_outside.specs.declared.events.Site.{Site}
use Rattle.core_ast.specs.declared.parts.Constant.TheVariants.{Integer, Undefined}
use Rattle.core_ast.specs.declared.parts.CoreHead.{CoreHead}
use Rattle.core_ast.specs.declared.parts.CoreHead.TheVariants as head
use Rattle.core_ast.specs.declared.parts.CoreOp.{CoreOp}
use Rattle.core_ast.specs.declared.parts.CoreOp.TheVariants as op
use Rattle.core_ast.specs.declared.parts.Label.{Label}
use Rattle.core_ast.specs.declared.parts.ScopedName.{ScopedName}
use Rattle.core_ast.specs.declared.parts.Var.{Var}
use Rattle.core_ast.specs.declared.parts.When.{When}
use Rattle.core_ast.specs.declared.tree.CoreCase.{CoreCase}
use Rattle.core_ast.specs.declared.tree.CoreExpr.{CoreExpr, out-CoreExpr, fold_out-CoreExpr}
use Rattle.core_ast.specs.declared.tree.CoreLink.{CoreLink}
use Rattle.core_ast.specs.declared.tree.CoreLink.TheVariants as link
use Rattle.core_ast.specs.declared.tree.CoreLink.TheOpen as layer
use Rattle.core_ast.specs.declared.tree.CoreLink.TheOpen.{CoreLink-F, CoreStat-F, CoreCase-F, CoreExpr-F}
use Rattle.core_ast.specs.declared.tree.CoreStat.{CoreStat, roll-CoreStat}
use Rattle.core_ast.specs.declared.tree.CoreStat.TheVariants as stat
use Rattle.core_ast.specs.declared.whole.CoreFunction.{CoreFunction}
use Rattle.core_ast.specs.Lawful.{all_differ, is_safe, numbers}
use Rattle.core_ast.specs.Made.{act, acting, expression, linked, undefined, variable}
use Rattle.emission_laws.specs.Writable as w
use Rattle.emission_laws.specs.Writable.{Choice, Layer, Piece}
use Rattle.es5_ast.specs.Lexical.{is_one_of}
use Rattle.pass_rules.specs.yield_rules.Yields.{case_of, number, when}
use Rattle.pass_rules.proofs.pass_laws.Related.{Fold, of_link, of_stat, of_case, of_expr, in_stat, link_rolled, stat_rolled, case_rolled, expr_rolled}
use Rattle.pass_rules.proofs.pass_laws.Within.{left, right, both}

-- labels are below n; of all else as it can be written
abbrev pub below : ℕ → Label → Bool
below n l = nat_lt l.0 n

abbrev pub stat_step : ℕ → Layer CoreStat-F → Bool
stat_step n (layer.Do x) = x
stat_step n (layer.If cases) = w.choices_fit cases
stat_step n (layer.Switch subject cases) = subject && w.choices_fit cases && w.one_default true cases
stat_step n (layer.Loop labels test update body) = list_all (below n) labels && w.if_there test && w.if_there update && w.every body
stat_step n (layer.Labelled label body) = below n label && w.every body
stat_step n (layer.Jump goes_on label) = true
stat_step n (layer.Return x) = x
stat_step n (layer.Throw x) = x
stat_step n (layer.TryCatch block parameter names handler) = w.every block && w.every handler
stat_step n (layer.TryFinally block last) = w.every block && w.every last
stat_step n (layer.Scoped names body) = w.every body
stat_step n (layer.Yield value kind result) = value

abbrev pub writes : ℕ → Fold
writes n = record { Link = Piece; Stat = Bool; Case = Choice; Expr = Bool; link_step = w.link_step; stat_step = stat_step n; case_step = w.case_step; expr_step = w.expr_step }

abbrev pub Fits : ℕ → CoreExpr → Type 0
Fits n x = of_expr (writes n) x ≡ true

abbrev pub Is : ℕ → CoreStat → Type 0
Is n x = of_stat (writes n) x ≡ true

abbrev pub Are : ℕ → List CoreStat → Type 0
Are n ss = w.every (map (of_stat (writes n)) ss) ≡ true

abbrev pub AreParts : ℕ → List CoreExpr → Type 0
AreParts n xs = w.every (map (of_expr (writes n)) xs) ≡ true

abbrev pub AreCases : ℕ → List CoreCase → Type 0
AreCases n cs = w.choices_fit (map (of_case (writes n)) cs) ≡ true

abbrev pub HasDefault : ℕ → List CoreCase → Type 0
HasDefault n cs = w.one_default true (map (of_case (writes n)) cs) ≡ true

abbrev pub piece : ℕ → CoreLink → Piece
piece n l = of_link (writes n) l

abbrev pub pieces : ℕ → List CoreLink → List Piece
pieces n ls = map (of_link (writes n)) ls

-- ## Lists

pub every_more : (xs ys : List Bool) → w.every xs ≡ true → w.every ys ≡ true → w.every (xs ++ ys) ≡ true
every_more [] ys h k = k
every_more (x ∷ xs) ys h k = both (left _ _ h) (every_more xs ys (right _ _ h) k)

pub more : (n : ℕ) (xs ys : List CoreStat) → Are n xs → Are n ys → Are n (xs ++ ys)
more n [] ys h k = k
more n (x ∷ xs) ys h k = both (left _ _ h) (more n xs ys (right _ _ h) k)

pub one : (n : ℕ) (xs : List CoreStat) (x : CoreStat) → Are n xs → Is n x → Are n (xs ++ x ∷ [])
one n xs x h k = more n xs (x ∷ []) h (both k refl)

pub part_one : (n : ℕ) (xs : List CoreExpr) (x : CoreExpr) → AreParts n xs → Fits n x → AreParts n (xs ++ x ∷ [])
part_one n [] x h k = both k refl
part_one n (y ∷ xs) x h k = both (left _ _ h) (part_one n xs x (right _ _ h) k)

-- ## Links

pub strict_piece : (n : ℕ) (o : CoreOp) (parts : List CoreExpr) (site : Option Site) → piece n (link.Strict o parts site) ≡ record { key = w.defined o; fits = w.op_fits o && w.every (map (of_expr (writes n)) parts) }
strict_piece n o parts site = ap (piece n) (sym (link.rolls-Strict o parts site)) ∙ link_rolled (writes n) (layer.Strict o parts site)

pub lazy_piece : (n : ℕ) (x : When) (taken : CoreExpr) → piece n (link.Lazy x taken None) ≡ record { key = None; fits = of_expr (writes n) taken && true }
lazy_piece n x taken = ap (piece n) (sym (link.rolls-Lazy x taken None)) ∙ link_rolled (writes n) (layer.Lazy x taken None)

pub lazy_pieces : (n : ℕ) (x : When) (taken other : CoreExpr) → piece n (link.Lazy x taken (Some other)) ≡ record { key = None; fits = of_expr (writes n) taken && of_expr (writes n) other }
lazy_pieces n x taken other = ap (piece n) (sym (link.rolls-Lazy x taken (Some other))) ∙ link_rolled (writes n) (layer.Lazy x taken (Some other))

pub run_piece : (n : ℕ) (body : List CoreStat) → piece n (link.Run body) ≡ record { key = None; fits = w.every (map (of_stat (writes n)) body) }
run_piece n body = ap (piece n) (sym (link.rolls-Run body)) ∙ link_rolled (writes n) (layer.Run body)

-- ## Expressions so far: the keys that they define are among these

abbrev pub Keys : Type 0
Keys = List (List ℕ)

abbrev pub keys_after : Keys → List Piece → Keys
keys_after keys [] = keys
keys_after keys (l ∷ ls) = keys_after (w.with_key keys l.key) ls

abbrev pub Among : Keys → Keys → Type 0
Among less more = (k : List ℕ) → is_one_of k less ≡ true → is_one_of k more ≡ true

pub record Far (n : ℕ) (keys : Keys) (x : CoreExpr) : Type 0 where
  pub head : w.head_fits (out-CoreExpr x).head ≡ true
  pub links : w.links_fit [] (pieces n (out-CoreExpr x).links) ≡ true
  pub among : Among (keys_after [] (pieces n (out-CoreExpr x).links)) keys

pub nothing_among : (keys : Keys) → Among [] keys
nothing_among keys k h = absurd (false≢true h)

pub key_among : (less most : Keys) (key : Option (List ℕ)) → Among less most → Among (w.with_key less key) (w.with_key most key)
key_among less most None f k h = f k h
key_among less most (Some key) f k h = by_first (bytes_eq k key) h
  where
    by_first : (b : Bool) → (b || is_one_of k less) ≡ true → (b || is_one_of k most) ≡ true
    by_first true h = refl
    by_first false h = f k h

new_among : (less most : Keys) (key : Option (List ℕ)) → Among less most → w.is_new most key ≡ true → w.is_new less key ≡ true
new_among less most None f h = refl
new_among less most (Some k) f h = by_two (is_one_of k less) (is_one_of k most) h (f k)
  where
    by_two : (a b : Bool) → not b ≡ true → (a ≡ true → b ≡ true) → not a ≡ true
    by_two true b h g = absurd (false≢true (ap not (sym (g refl)) ∙ h))
    by_two false b h g = refl

links_more : (ps : List Piece) (l : Piece) (keys : Keys) → w.links_fit keys ps ≡ true → l.fits ≡ true → w.is_new (keys_after keys ps) l.key ≡ true → w.links_fit keys (ps ++ l ∷ []) ≡ true
links_more [] l keys h k m = both (both k m) refl
links_more (p ∷ ps) l keys h k m = both (left _ _ h) (links_more ps l (w.with_key keys p.key) (right _ _ h) k m)

keys_more : (ps : List Piece) (l : Piece) (keys : Keys) → keys_after keys (ps ++ l ∷ []) ≡ w.with_key (keys_after keys ps) l.key
keys_more [] l keys = refl
keys_more (p ∷ ps) l keys = keys_more ps l (w.with_key keys p.key)

pieces_one : (n : ℕ) (ls : List CoreLink) (l : CoreLink) → pieces n (ls ++ l ∷ []) ≡ pieces n ls ++ piece n l ∷ []
pieces_one n [] l = refl
pieces_one n (k ∷ ls) l = ap (λ ps. piece n k ∷ ps) (pieces_one n ls l)

linked_by : (n : ℕ) (keys : Keys) (x : CoreExpr) (l : CoreLink) → Far n keys x → (piece n l).fits ≡ true → w.is_new keys (piece n l).key ≡ true → Far n (w.with_key keys (piece n l).key) (linked x l)
linked_by n keys x l h k m =
    let ls = (out-CoreExpr x).links in let ps = pieces n ls in let e = pieces_one n ls l in
    record {
      head = h.head;
      links = subst (λ qs. w.links_fit [] qs ≡ true) (sym e) (links_more ps (piece n l) [] h.links k (new_among (keys_after [] ps) keys (piece n l).key h.among m));
      among = subst (λ qs. Among (keys_after [] qs) (w.with_key keys (piece n l).key)) (sym e)
          (subst (λ qs. Among qs (w.with_key keys (piece n l).key)) (sym (keys_more ps (piece n l) [])) (key_among (keys_after [] ps) keys (piece n l).key h.among));
    }

-- with a link that is such a piece
pub linked_far : (n : ℕ) (keys : Keys) (x : CoreExpr) (l : CoreLink) (p : Piece) → piece n l ≡ p → Far n keys x → p.fits ≡ true → w.is_new keys p.key ≡ true → Far n (w.with_key keys p.key) (linked x l)
linked_far n keys x l p e h k m = subst (λ q. Far n (w.with_key keys q.key) (linked x l)) e (linked_by n keys x l h (ap (λ q. q.fits) e ∙ k) (ap (λ q. w.is_new keys q.key) e ∙ m))

pub strict_far : (n : ℕ) (keys : Keys) (x : CoreExpr) (o : CoreOp) (parts : List CoreExpr) (site : Option Site) → Far n keys x → w.op_fits o ≡ true → AreParts n parts → w.is_new keys (w.defined o) ≡ true → Far n (w.with_key keys (w.defined o)) (linked x (link.Strict o parts site))
strict_far n keys x o parts site h k m e = linked_far n keys x _ _ (strict_piece n o parts site) h (both k m) e

pub more_keys : (n : ℕ) (less most : Keys) (x : CoreExpr) → Among less most → Far n less x → Far n most x
more_keys n less most x f h = record { head = h.head; links = h.links; among = λ k e. f k (h.among k e) }

pub far_fits : (n : ℕ) (keys : Keys) (x : CoreExpr) → Far n keys x → Fits n x
far_fits n keys x h = fold_out-CoreExpr (writes n).Link (writes n).Stat (writes n).Case (writes n).Expr (writes n).link_step (writes n).stat_step (writes n).case_step (writes n).expr_step x ∙ both h.head h.links

-- the keys of an expression itself
abbrev pub own_keys : ℕ → CoreExpr → Keys
own_keys n x = keys_after [] (pieces n (out-CoreExpr x).links)

pub fits_far : (n : ℕ) (x : CoreExpr) → Fits n x → Far n (own_keys n x) x
fits_far n x h =
    let e = sym (fold_out-CoreExpr (writes n).Link (writes n).Stat (writes n).Case (writes n).Expr (writes n).link_step (writes n).stat_step (writes n).case_step (writes n).expr_step x) ∙ h in
    record { head = left _ _ e; links = right _ _ e; among = λ k i. i }

-- one that begins
pub begun_far : (n : ℕ) (keys : Keys) (site : Option Site) (h : CoreHead) → w.head_fits h ≡ true → Far n keys (expression site h [])
begun_far n keys site h k = record { head = k; links = refl; among = nothing_among keys }

pub expression_fits : (n : ℕ) (site : Option Site) (h : CoreHead) (ls : List CoreLink) → w.head_fits h ≡ true → w.links_fit [] (pieces n ls) ≡ true → Fits n (expression site h ls)
expression_fits n site h ls k m = expr_rolled (writes n) (record { site = site; head = h; links = ls }) ∙ both k m

pub variable_far : (n : ℕ) (keys : Keys) (x : Var) → Far n keys (variable x)
variable_far n keys x = begun_far n keys None (head.Variable x) refl

pub variable_fits : (n : ℕ) (x : Var) → Fits n (variable x)
variable_fits n x = far_fits n [] (variable x) (variable_far n [] x)

pub undefined_far : (n : ℕ) (keys : Keys) → Far n keys undefined
undefined_far n keys = begun_far n keys None (head.Constant Undefined) refl

pub undefined_fits : (n : ℕ) → Fits n undefined
undefined_fits n = far_fits n [] undefined (undefined_far n [])

pub number_fits : (n i : ℕ) → Fits n (number i)
number_fits n i = far_fits n [] (number i) (begun_far n [] None (head.Constant (Integer i)) refl)

-- an operation that defines no key, behind any expression
pub strict_fits : (n : ℕ) (x : CoreExpr) (o : CoreOp) (parts : List CoreExpr) (site : Option Site) → w.defined o ≡ None → w.op_fits o ≡ true → AreParts n parts → Fits n x → Fits n (linked x (link.Strict o parts site))
strict_fits n x o parts site d k m h = far_fits n _ _ (strict_far n (own_keys n x) x o parts site (fits_far n x h) k m (ap (w.is_new (own_keys n x)) d))

pub act_fits : (n : ℕ) (x : CoreExpr) (o : CoreOp) → w.defined o ≡ None → w.op_fits o ≡ true → Fits n x → Fits n (linked x (act o))
act_fits n x o d k h = strict_fits n x o [] None d k refl h

pub acting_fits : (n : ℕ) (x : CoreExpr) (o : CoreOp) (y : CoreExpr) → w.defined o ≡ None → w.op_fits o ≡ true → Fits n x → Fits n y → Fits n (linked x (acting o y))
acting_fits n x o y d k h m = strict_fits n x o (y ∷ []) None d k (both m refl) h

-- ## Statements

pub rolled_is : (n : ℕ) (x : CoreStat) (y : CoreStat-F CoreLink CoreStat CoreCase CoreExpr) → roll-CoreStat y ≡ x → stat_step n (in_stat (writes n) y) ≡ true → Is n x
rolled_is n x y e h = ap (of_stat (writes n)) (sym e) ∙ stat_rolled (writes n) y ∙ h

pub do_is : (n : ℕ) (x : CoreExpr) → Fits n x → Is n (stat.Do x)
do_is n x h = rolled_is n _ (layer.Do x) (stat.rolls-Do x) h

pub set_is : (n : ℕ) (x : Var) (e : CoreExpr) → Fits n e → Is n (stat.Do (linked e (act (op.Set x))))
set_is n x e h = do_is n _ (act_fits n e (op.Set x) refl refl h)

pub case_choice : (n : ℕ) (test : CoreExpr) (body : List CoreStat) → of_case (writes n) (case_of (Some test) body) ≡ record { is_default = false; fits = of_expr (writes n) test && w.every (map (of_stat (writes n)) body) }
case_choice n test body = case_rolled (writes n) (record { test = Some test; body = body })

pub default_choice : (n : ℕ) (body : List CoreStat) → of_case (writes n) (case_of None body) ≡ record { is_default = true; fits = true && w.every (map (of_stat (writes n)) body) }
default_choice n body = case_rolled (writes n) (record { test = None; body = body })

pub case_is : (n : ℕ) (test : CoreExpr) (body : List CoreStat) → Fits n test → Are n body → (of_case (writes n) (case_of (Some test) body)).fits ≡ true
case_is n test body h k = ap (λ c. c.fits) (case_choice n test body) ∙ both h k

pub default_is : (n : ℕ) (body : List CoreStat) → Are n body → (of_case (writes n) (case_of None body)).fits ≡ true
default_is n body k = ap (λ c. c.fits) (default_choice n body) ∙ both refl k

pub case_no_default : (n : ℕ) (test : CoreExpr) (body : List CoreStat) → (of_case (writes n) (case_of (Some test) body)).is_default ≡ false
case_no_default n test body = ap (λ c. c.is_default) (case_choice n test body)

pub if_is : (n : ℕ) (cs : List CoreCase) → AreCases n cs → Is n (stat.If cs)
if_is n cs h = rolled_is n _ (layer.If cs) (stat.rolls-If cs) h

pub when_is : (n : ℕ) (test : CoreExpr) (body : List CoreStat) → Fits n test → Are n body → Is n (when test body)
when_is n test body h k = if_is n _ (both (case_is n test body h k) refl)

pub switch_is : (n : ℕ) (x : CoreExpr) (cs : List CoreCase) → Fits n x → AreCases n cs → HasDefault n cs → Is n (stat.Switch x cs)
switch_is n x cs h k m = rolled_is n _ (layer.Switch x cs) (stat.rolls-Switch x cs) (both (both h k) m)

abbrev pub MaybeFits : ℕ → Option CoreExpr → Type 0
MaybeFits n None = Unit {0}
MaybeFits n (Some x) = Fits n x

pub loop_is : (n : ℕ) (labels : List Label) (test update : Option CoreExpr) (body : List CoreStat) → list_all (below n) labels ≡ true → MaybeFits n test → MaybeFits n update → Are n body → Is n (stat.Loop labels test update body)
loop_is n labels None None body h k m e = rolled_is n _ (layer.Loop labels None None body) (stat.rolls-Loop labels None None body) (both (both (both h refl) refl) e)
loop_is n labels None (Some u) body h k m e = rolled_is n _ (layer.Loop labels None (Some u) body) (stat.rolls-Loop labels None (Some u) body) (both (both (both h refl) m) e)
loop_is n labels (Some t) None body h k m e = rolled_is n _ (layer.Loop labels (Some t) None body) (stat.rolls-Loop labels (Some t) None body) (both (both (both h k) refl) e)
loop_is n labels (Some t) (Some u) body h k m e = rolled_is n _ (layer.Loop labels (Some t) (Some u) body) (stat.rolls-Loop labels (Some t) (Some u) body) (both (both (both h k) m) e)

pub labelled_is : (n : ℕ) (label : Label) (body : List CoreStat) → below n label ≡ true → Are n body → Is n (stat.Labelled label body)
labelled_is n label body h k = rolled_is n _ (layer.Labelled label body) (stat.rolls-Labelled label body) (both h k)

pub jump_is : (n : ℕ) (goes_on : Bool) (label : Option Label) → Is n (stat.Jump goes_on label)
jump_is n goes_on None = rolled_is n _ (layer.Jump goes_on None) (stat.rolls-Jump goes_on None) refl
jump_is n goes_on (Some label) = rolled_is n _ (layer.Jump goes_on (Some label)) (stat.rolls-Jump goes_on (Some label)) refl

pub return_is : (n : ℕ) (x : CoreExpr) → Fits n x → Is n (stat.Return x)
return_is n x h = rolled_is n _ (layer.Return x) (stat.rolls-Return x) h

pub throw_is : (n : ℕ) (x : CoreExpr) → Fits n x → Is n (stat.Throw x)
throw_is n x h = rolled_is n _ (layer.Throw x) (stat.rolls-Throw x) h

pub catch_is : (n : ℕ) (block : List CoreStat) (parameter : Var) (names : List ScopedName) (handler : List CoreStat) → Are n block → Are n handler → Is n (stat.TryCatch block parameter names handler)
catch_is n block parameter names handler h k = rolled_is n _ (layer.TryCatch block parameter names handler) (stat.rolls-TryCatch block parameter names handler) (both h k)

pub finally_is : (n : ℕ) (block last : List CoreStat) → Are n block → Are n last → Is n (stat.TryFinally block last)
finally_is n block last h k = rolled_is n _ (layer.TryFinally block last) (stat.rolls-TryFinally block last) (both h k)

pub scoped_is : (n : ℕ) (names : List ScopedName) (body : List CoreStat) → Are n body → Is n (stat.Scoped names body)
scoped_is n names body h = rolled_is n _ (layer.Scoped names body) (stat.rolls-Scoped names body) h

pub yield_is : (n : ℕ) (x : CoreExpr) (kind : Option Var) (result : Var) → Fits n x → Is n (stat.Yield x kind result)
yield_is n x kind result h = rolled_is n _ (layer.Yield x kind result) (stat.rolls-Yield x kind result) h

-- ## Functions

-- labels in a script are below this
abbrev pub top : ℕ
top = 18446744073709551616

pub record FunctionIs (f : CoreFunction) : Type 0 where
  pub cells : all_differ (numbers f.cells) ≡ true
  pub parameters : is_safe (length f.parameters) ≡ true
  pub setup : Are top f.setup
  pub body : Are top f.body
  pub step : Are top f.step

all_five : (a b c d e : Bool) → a ≡ true → b ≡ true → c ≡ true → d ≡ true → e ≡ true → (a && b && c && d && e) ≡ true
all_five a b c d e h i j k l = both (both (both (both h i) j) k) l

of_five : (a b c d e : Bool) → (a && b && c && d && e) ≡ true → (a ≡ true) × (b ≡ true) × (c ≡ true) × (d ≡ true) × (e ≡ true)
of_five a b c d e h =
    let four = left (a && b && c && d) e h in let three = left (a && b && c) d four in let two = left (a && b) c three in
    (left a b two, right a b two, right (a && b) c three, right (a && b && c) d four, right (a && b && c && d) e h)

pub parted : (f : CoreFunction) → w.function_fits f ≡ true → FunctionIs f
parted f h =
    let q = of_five (all_differ (numbers f.cells)) (is_safe (length f.parameters)) (w.stats_fit f.setup) (w.stats_fit f.body) (w.stats_fit f.step) h in
    record { cells = q.0; parameters = q.1; setup = q.2; body = q.3; step = q.4 }

pub joined : (f : CoreFunction) → FunctionIs f → w.function_fits f ≡ true
joined f q = all_five (all_differ (numbers f.cells)) (is_safe (length f.parameters)) (w.stats_fit f.setup) (w.stats_fit f.body) (w.stats_fit f.step) q.cells q.parameters q.setup q.body q.step
