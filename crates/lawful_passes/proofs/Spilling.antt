-- The flattening of yields makes lawful parts of lawful ones: expressions.
use Rattle.std.specs.List.{list_all}
use Rattle.std.proofs.Common.{◌≡◌, ℕ, ◌+◌, ◌≤◌, ◌<◌, Bool, true, false, ◌&&◌, ◌||◌, not, nat_eq, nat_lt, suc, List, [], ◌∷◌, ◌++◌, map, length, Option, None, Some, refl, sym, ap, arith, subst, ◌∙◌}
use Rattle.std.proofs.lemmas.Bool.{false≢true, lt-ltb, le-leb, eq-eqb, eqb-true}
use Rattle.es_outside.specs.declared.events.Site.{Site}
use Rattle.core_ast.specs.declared.parts.Var.{Var}
use Rattle.core_ast.specs.declared.parts.Label.{Label}
use Rattle.core_ast.specs.declared.parts.Binary.{Binary}
use Rattle.core_ast.specs.declared.parts.Binary.TheVariants as binary
use Rattle.core_ast.specs.declared.parts.Key.TheVariants.{WordKey}
use Rattle.core_ast.specs.declared.parts.Constant.TheVariants.{Undefined}
use Rattle.core_ast.specs.declared.parts.CoreHead.{CoreHead}
use Rattle.core_ast.specs.declared.parts.CoreHead.TheVariants as head
use Rattle.core_ast.specs.declared.parts.CoreOp.{CoreOp}
use Rattle.core_ast.specs.declared.parts.CoreOp.TheVariants as op
use Rattle.core_ast.specs.declared.parts.Primitive.TheVariants.{DelegateStep, IterStart, ToText}
use Rattle.core_ast.specs.declared.tree.CoreLink.{CoreLink}
use Rattle.core_ast.specs.declared.tree.CoreStat.{CoreStat}
use Rattle.core_ast.specs.declared.tree.CoreExpr.{CoreExpr, out-CoreExpr}
use Rattle.core_ast.specs.declared.tree.CoreStat.TheVariants as stat
use Rattle.core_ast.specs.declared.tree.CoreLink.TheOpen as layer
use Rattle.core_ast.specs.Lawful as lawful
use Rattle.core_ast.specs.Lawful.{Round, Joint, Current, Plain, Property, Named, Hosted, is_empty}
use Rattle.core_ast.specs.Made.{act, linked, undefined}
use Rattle.pass_rules.specs.declared.yield_rules.spilling.Chain.{Chain}
use Rattle.pass_rules.specs.declared.yield_rules.spilling.Place.{Place}
use Rattle.pass_rules.specs.declared.yield_rules.spilling.Reference.{Reference}
use Rattle.pass_rules.specs.declared.yield_rules.spilling.Reference.TheVariants as ref
use Rattle.pass_rules.specs.declared.yield_rules.spilling.Settled.{Settled}
use Rattle.pass_rules.specs.declared.yield_rules.spilling.Spilled.{Spilled}
use Rattle.pass_rules.specs.yield_rules.Yields as s
use Rattle.pass_rules.specs.yield_rules.Yields.{number, two, when}
use Rattle.pass_rules.proofs.pass_laws.Related.{of_expr}
use Rattle.pass_rules.proofs.pass_laws.Starts.{laws}
use Rattle.pass_rules.proofs.pass_laws.Within.{left, right, both}
use Rattle.pass_rules.proofs.pass_laws.YieldMarks.{by_test, empty_is}
use Rattle.lawful_passes.proofs.Far.{SoFar, Are, Is, joints, ends_at, joint, site_count, more_sites, done_is, strict_far, act_far, acting_far, variable_far, variable_is, constant_far, number_is, one, joined, rolled_is, do_is, when_is, jump_is, return_is, set_is}

-- ## Truths

pub no_by : (a : Bool) → (a ≡ true → ⊥) → a ≡ false
no_by true h = absurd (h refl)
no_by false h = refl

pub unnot : (a : Bool) → not a ≡ true → a ≡ false
unnot true h = sym h
unnot false h = refl

pub own_label : (l : Label) (ls : List Label) → lawful.has_label l (l ∷ ls) ≡ true
own_label l ls = ap (λ b. b || lawful.has_label l ls) (eq-eqb l.0 l.0 refl)

-- ## Slots

abbrev pub Drawn : Round → Place → Type 0
Drawn r p = lawful.is_drawn r (s.slot p) ≡ true

pub drawn_by : (r : Round) (p : Place) (k : ℕ) → p.slot + k < r.names → Drawn r (s.deeper k p)
drawn_by r p k h = lt-ltb (p.slot + k) r.names h

pub slot_far : (r : Round) (p : Place) → Drawn r p → SoFar r Named 0 (s.in_slot p)
slot_far r p d = variable_far r (s.slot p) d

pub slot_is : (r : Round) (p : Place) → Drawn r p → of_expr laws (s.in_slot p) r ≡ true
slot_is r p d = variable_is r (s.slot p) d

pub kept_is : (r : Round) (at : Current) (p : Place) (x : CoreExpr) → lawful.is_hosted at ≡ false → Drawn r p → SoFar r at 1 x → Is r (s.kept p x)
kept_is r at p x h d k = set_is r at (s.slot p) x h d k

abbrev pub Sound : Round → CoreExpr → Type 0
Sound r x = of_expr laws x r ≡ true

abbrev pub Parts : Round → List CoreExpr → Type 0
Parts r xs = lawful.all_lawful (map (of_expr laws) xs) r ≡ true

-- an expression of which more may be made
pub record Whole (r : Round) (x : CoreExpr) : Type 0 where
  pub at : Current
  pub plain : lawful.is_hosted at ≡ false
  pub far : SoFar r at 1 x

pub whole_sound : (r : Round) (x : CoreExpr) → Whole r x → Sound r x
whole_sound r x h = done_is r h.at x h.far h.plain

abbrev pub Wholes : Round → List CoreExpr → Type 0
Wholes r [] = Unit {0}
Wholes r (x ∷ xs) = Whole r x × Wholes r xs

pub wholes_sound : (r : Round) (xs : List CoreExpr) → Wholes r xs → Parts r xs
wholes_sound r [] h = refl
wholes_sound r (x ∷ xs) h = both (whole_sound r x h.0) (wholes_sound r xs h.1)

wholes_one : (r : Round) (xs : List CoreExpr) (x : CoreExpr) → Wholes r xs → Whole r x → Wholes r (xs ++ x ∷ [])
wholes_one r [] x h k = (k, tt)
wholes_one r (y ∷ xs) x h k = (h.0, wholes_one r xs x h.1 k)

pub slot_whole : (r : Round) (p : Place) → Drawn r p → Whole r (s.in_slot p)
slot_whole r p d = record { at = Named; plain = refl; far = more_sites r Named 0 1 _ (omega arith) (slot_far r p d) }

pub kept_whole : (r : Round) (p : Place) (x : CoreExpr) → Drawn r p → Whole r x → Is r (s.kept p x)
kept_whole r p x d h = kept_is r h.at p x h.plain d h.far

pub acted_whole : (r : Round) (o : CoreOp) (x : CoreExpr) → lawful.may_stand_behind Plain o ≡ true → lawful.is_hosted (lawful.gives o) ≡ false → lawful.takes o 0 ≡ true → lawful.op_lawful o r ≡ true → ((at : Current) → lawful.is_hosted at ≡ false → lawful.may_stand_behind at o ≡ true) → Whole r x → Whole r (linked x (act o))
acted_whole r o x b g t m f h = record { at = lawful.gives o; plain = g; far = act_far r h.at 1 o x (f h.at h.plain) t m h.far }

pub undefined_whole : (r : Round) → Whole r undefined
undefined_whole r = record { at = Plain; plain = refl; far = more_sites r Plain 0 1 _ (omega arith) (constant_far r Undefined refl) }

-- ## Chains: behind what may stand behind this

-- what stands behind the one may stand behind the other
pub data Fits : Current → Current → Type 0 where
  same : {c : Current} → Fits c c
  plain : {c : Current} → lawful.is_hosted c ≡ false → Fits Plain c

pub fits_op : (c d : Current) (o : CoreOp) → Fits c d → lawful.may_stand_behind c o ≡ true → lawful.may_stand_behind d o ≡ true
fits_op c d o same k = k
fits_op c d op.Call (plain h) k = refl
fits_op c d op.CallList (plain h) k = refl
fits_op c d op.Put (plain h) k = absurd (false≢true k)
fits_op c d op.Delete (plain h) k = absurd (false≢true k)
fits_op c d (op.Update b) (plain h) k = absurd (false≢true k)
fits_op c d (op.Step u) (plain h) k = absurd (false≢true k)
fits_op c d op.Content (plain h) k = absurd (false≢true k)
fits_op c d op.SetContent (plain h) k = absurd (false≢true k)
fits_op c d o (plain h) k = ap not h

pub fits_hosted : (c d : Current) → Fits c d → lawful.is_hosted c ≡ false → lawful.is_hosted d ≡ false
fits_hosted c d same h = h
fits_hosted c d (plain k) h = k

-- the key of a reference
abbrev pub Refers : Round → Reference → Type 0
Refers r (ref.Named key site) = lawful.key_lawful key ≡ true
Refers r (ref.Keyed keys site) = (length keys ≡ 1) × Wholes r keys

abbrev pub reference_sites : Reference → ℕ
reference_sites (ref.Named key site) = site_count site
reference_sites (ref.Keyed keys site) = site_count site

pub record Value (r : Round) (at : Current) (n : ℕ) (x : CoreExpr) : Type 0 where
  pub current : Current
  pub fits : Fits at current
  pub no_reference : lawful.is_property at ≡ false
  pub far : SoFar r current n x

pub record Referred (r : Round) (at : Current) (n : ℕ) (x : CoreExpr) (y : Reference) : Type 0 where
  pub is : lawful.is_property at ≡ true
  pub current : Current
  pub plain : lawful.is_hosted current ≡ false
  pub base : ℕ
  pub far : SoFar r current base x
  pub refers : Refers r y
  pub sites : base + reference_sites y ≤ n

abbrev pub Based : Round → Current → ℕ → CoreExpr → Option Reference → Type 0
Based r at n x None = Value r at n x
Based r at n x (Some y) = Referred r at n x y

pub record ChainFar (r : Round) (at : Current) (n : ℕ) (c : Chain) : Type 0 where
  pub before : Are r c.before
  pub based : Based r at n c.base c.reference

pub length_map : (xs : List CoreExpr) → length (map (of_expr laws) xs) ≡ length xs
length_map [] = refl
length_map (x ∷ xs) = ap (λ n. suc n) (length_map xs)

referring_far : (r : Round) (at : Current) (n : ℕ) (x : CoreExpr) (y : Reference) → lawful.is_hosted at ≡ false → SoFar r at n x → Refers r y → SoFar r Property (n + reference_sites y) (linked x (s.referring y))
referring_far r at n x (ref.Named key site) p h k = strict_far r at n (op.Member key) [] site x (ap not p) refl k refl h
referring_far r at n x (ref.Keyed keys site) p h k = strict_far r at n op.Index keys site x (ap not p) (ap (λ i. nat_eq i 1) (length_map keys ∙ k.0)) refl (wholes_sound r keys k.1) h

-- the whole of a chain
pub record Rest (r : Round) (at : Current) (n : ℕ) (x : CoreExpr) : Type 0 where
  pub current : Current
  pub fits : Fits at current
  pub far : SoFar r current n x

property_is : (at : Current) → lawful.is_property at ≡ true → at ≡ Property
property_is Plain h = absurd (false≢true h)
property_is Property h = refl
property_is Named h = absurd (false≢true h)
property_is Hosted h = absurd (false≢true h)

rest_by : (r : Round) (at : Current) (n : ℕ) (x : CoreExpr) (y : Option Reference) → Based r at n x y → Rest r at n (s.whole x y)
rest_by r at n x None h = record { current = h.current; fits = h.fits; far = h.far }
rest_by r at n x (Some y) h = record { current = Property; fits = subst (λ c. Fits c Property) (sym (property_is at h.is)) same; far = more_sites r Property (h.base + reference_sites y) n _ h.sites (referring_far r h.current h.base x y h.plain h.far h.refers) }

pub rest_is : (r : Round) (at : Current) (n : ℕ) (c : Chain) → ChainFar r at n c → Rest r at n (s.rest c)
rest_is r at n c h = rest_by r at n c.base c.reference h.based

pub rest_whole : (r : Round) (at : Current) (n : ℕ) (c : Chain) → n ≤ 1 → lawful.is_hosted at ≡ false → ChainFar r at n c → Whole r (s.rest c)
rest_whole r at n c l p h = let a = rest_is r at n c h in record { at = a.current; plain = fits_hosted at a.current a.fits p; far = more_sites r a.current n 1 _ l a.far }

-- with more sites
more_based : (r : Round) (at : Current) (n m : ℕ) (x : CoreExpr) (y : Option Reference) → n ≤ m → Based r at n x y → Based r at m x y
more_based r at n m x None l h = record { current = h.current; fits = h.fits; no_reference = h.no_reference; far = more_sites r h.current n m x l h.far }
more_based r at n m x (Some y) l h = record { is = h.is; current = h.current; plain = h.plain; base = h.base; far = h.far; refers = h.refers; sites = let a = h.sites in omega arith }

pub more_chain : (r : Round) {at : Current} (n m : ℕ) (c : Chain) → n ≤ m → ChainFar r at n c → ChainFar r at m c
more_chain r {at} n m c l h = record { before = h.before; based = more_based r at n m c.base c.reference l h.based }

-- what goes on with this
goes_far : (r : Round) (at : Current) (n : ℕ) (before : List CoreStat) (x : CoreExpr) (current : Current) → Fits at current → lawful.is_property at ≡ false → Are r before → SoFar r current n x → ChainFar r at n (s.going_on before x)
goes_far r at n before x current f p h k = record { before = h; based = record { current = current; fits = f; no_reference = p; far = k } }

-- behind an operation
pub gone_far : (r : Round) (n : ℕ) (before : List CoreStat) (x : CoreExpr) (current : Current) → lawful.is_hosted current ≡ false → Are r before → SoFar r current n x → ChainFar r Plain n (s.going_on before x)
gone_far r n before x current f h k = goes_far r Plain n before x current (plain f) refl h k

pub effects_are : (r : Round) (x : CoreExpr) (xs : List CoreStat) → Whole r x → Are r xs → Are r (s.with_effects x xs)
effects_are r x xs h k = by_test (Are r) (s.is_bare_constant x) xs (xs ++ stat.Do x ∷ []) (λ b. k) (λ b. one r xs (stat.Do x) k (do_is r x (whole_sound r x h)))

-- ## Parts

pub record SpilledIs (r : Round) (x : Spilled) : Type 0 where
  pub before : Are r x.before
  pub rest : Whole r x.rest

abbrev pub AllSpilled : Round → List Spilled → Type 0
AllSpilled r [] = Unit {0}
AllSpilled r (x ∷ xs) = SpilledIs r x × AllSpilled r xs

pub record SettledIs (r : Round) (t : Settled) : Type 0 where
  pub before : Are r t.before
  pub parts : Wholes r t.parts

settle_one_is : (r : Round) (p : Place) (goes_on : Bool) (x : Spilled) (t : Settled) → Drawn r p → SpilledIs r x → SettledIs r t → SettledIs r (s.settle_one p goes_on x t)
settle_one_is r p true x t d h k = record { before = one r (t.before ++ x.before) (s.kept p x.rest) (joined r t.before x.before k.before h.before) (kept_whole r p x.rest d h.rest); parts = wholes_one r t.parts (s.in_slot p) k.parts (slot_whole r p d) }
settle_one_is r p false x t d h k = record { before = joined r t.before x.before k.before h.before; parts = wholes_one r t.parts x.rest k.parts h.rest }

settle_is : (r : Round) (p : Place) (i last : ℕ) (xs : List Spilled) (t : Settled) → p.slot + length xs ≤ r.names → AllSpilled r xs → SettledIs r t → SettledIs r (s.settle p i last xs t)
settle_is r p i last [] t l h k = k
settle_is r p i last (x ∷ xs) t l h k = settle_is r (s.deeper 1 p) (i + 1) last xs _ (omega arith) h.1 (settle_one_is r p (nat_lt (i + 1) last) x t (lt-ltb p.slot r.names (omega arith)) h.0 k)

pub settled_is : (r : Round) (p : Place) (xs : List Spilled) → p.slot + length xs ≤ r.names → AllSpilled r xs → SettledIs r (s.settled p xs)
settled_is r p xs l h = settle_is r p 0 (s.behind_last 0 0 xs) xs _ l h (record { before = refl; parts = tt })

settle_length : (p : Place) (i last : ℕ) (xs : List Spilled) (t : Settled) → length (s.settle p i last xs t).parts ≡ length t.parts + length xs
settle_length p i last [] t = omega arith
settle_length p i last (x ∷ xs) t = let a = settle_length (s.deeper 1 p) (i + 1) last xs (s.settle_one p (nat_lt (i + 1) last) x t) in let b = one_more (nat_lt (i + 1) last) in omega arith
  where
    length_one : (ys : List CoreExpr) (y : CoreExpr) → length (ys ++ y ∷ []) ≡ length ys + 1
    length_one [] y = refl
    length_one (z ∷ ys) y = let a = length_one ys y in omega arith

    one_more : (b : Bool) → length (s.settle_one p b x t).parts ≡ length t.parts + 1
    one_more true = length_one t.parts (s.in_slot p)
    one_more false = length_one t.parts x.rest

pub settled_length : (p : Place) (xs : List Spilled) → length (s.settled p xs).parts ≡ length xs
settled_length p xs = settle_length p 0 (s.behind_last 0 0 xs) xs (record { before = []; parts = [] }) ∙ (let a : 0 + length xs ≡ length xs = omega arith in a)

-- ## Strict links

-- of the parts as they are taken: as many, and lawful
pub record Taken (r : Round) (o : CoreOp) (t : Settled) : Type 0 where
  pub settled : SettledIs r t
  pub takes : lawful.takes o (length (map (of_expr laws) t.parts)) ≡ true
  pub op : lawful.op_lawful o r ≡ true

-- the operations that stay behind a slot
abbrev pub Behinds : CoreOp → Type 0
Behinds o = lawful.may_stand_behind Named o ≡ true

behind_slot_is : (r : Round) (p : Place) (o : CoreOp) (t : Settled) (site : Option Site) (at : Current) (n : ℕ) (c : Chain) → n + site_count site ≤ 1 → Drawn r p → lawful.is_hosted at ≡ false → lawful.gives o ≡ Plain → Behinds o → Taken r o t → ChainFar r at n c
    → ChainFar r Plain (n + site_count site) (s.behind_slot p o t site c)
behind_slot_is r p o t site at n c l d a g b k h =
    let x = rest_whole r at n c (omega arith) a h in
    gone_far r (n + site_count site) _ _ (lawful.gives o) (ap lawful.is_hosted g)
    (joined r (c.before ++ s.kept p (s.rest c) ∷ []) t.before (one r c.before _ h.before (kept_whole r p (s.rest c) d x)) k.settled.before)
    (more_sites r (lawful.gives o) (0 + site_count site) (n + site_count site) _ (omega arith) (strict_far r Named 0 o t.parts site (s.in_slot p) b k.takes k.op (wholes_sound r t.parts k.settled.parts) (slot_far r p d)))

base_check_is : (r : Round) (p : Place) → Drawn r p → Is r (s.base_check p)
base_check_is r p d = do_is r _ (done_is r Property _ (more_sites r Property 0 1 _ (omega arith) (act_far r Named 0 _ (s.in_slot p) refl refl refl (slot_far r p d))) refl)

abbrev pub IfWhole : Round → Option CoreExpr → Type 0
IfWhole r None = Unit {0}
IfWhole r (Some x) = Whole r x

key_kept_are : (r : Round) (p : Place) (key : Option CoreExpr) (xs : List CoreStat) → Drawn r (s.deeper 1 p) → IfWhole r key → Are r xs → Are r (s.key_kept p key xs)
key_kept_are r p None xs d h k = k
key_kept_are r p (Some key) xs d h k = one r xs _ k (kept_is r Plain (s.deeper 1 p) _ refl d (act_far r h.at 1 (op.Primitive ToText) key (ap not h.plain) refl refl h.far))

last_whole : (r : Round) (keys : List CoreExpr) → Wholes r keys → IfWhole r (s.last_of keys)
last_whole r [] h = tt
last_whole r (x ∷ []) h = h.0
last_whole r (x ∷ y ∷ ys) h = last_whole r (y ∷ ys) h.1

fixed_are : (r : Round) (p : Place) (y : Reference) (xs : List CoreStat) → Drawn r p → Drawn r (s.deeper 1 p) → Refers r y → Are r xs → Are r (s.fixed p y xs)
unfolding s.fixed
fixed_are r p (ref.Named key site) xs d e h k = one r xs _ k (base_check_is r p d)
fixed_are r p (ref.Keyed keys site) xs d e h k = key_kept_are r p (s.last_of keys) _ e (last_whole r keys h.1) (one r xs _ k (base_check_is r p d))

target_far : (r : Round) (p : Place) (y : Reference) → Drawn r p → Drawn r (s.deeper 1 p) → Refers r y → SoFar r Property (reference_sites y) (s.target p y)
unfolding s.target
target_far r p (ref.Named key site) d e h = more_sites r Property (0 + site_count site) (site_count site) _ (omega arith) (strict_far r Named 0 (op.Member key) [] site (s.in_slot p) refl refl h refl (slot_far r p d))
target_far r p (ref.Keyed keys site) d e h = more_sites r Property (0 + site_count site) (site_count site) _ (omega arith) (strict_far r Named 0 op.Index (s.in_slot (s.deeper 1 p) ∷ []) site (s.in_slot p) refl refl refl (both (slot_is r (s.deeper 1 p) e) refl) (slot_far r p d))

-- ## Hosts: a chain is one's name alone exactly where a host is current

gives_not_hosted : (o : CoreOp) → lawful.is_hosted (lawful.gives o) ≡ false
gives_not_hosted (op.Member k) = refl
gives_not_hosted op.Index = refl
gives_not_hosted o = refl

after_not_hosted : (o : Option CoreOp) → lawful.is_hosted (lawful.after o) ≡ false
after_not_hosted None = refl
after_not_hosted (Some o) = gives_not_hosted o

never_hosted : (c : Current) (ls : List CoreLink) → lawful.is_hosted c ≡ false → lawful.is_hosted (ends_at c (joints ls)) ≡ false
never_hosted c [] h = h
never_hosted c (l ∷ ls) h = never_hosted (lawful.after (joint l).ends) ls (after_not_hosted (joint l).ends)

hosted_head : (h : CoreHead) → lawful.is_hosted (lawful.begins h) ≡ true → s.is_host h ≡ true
unfolding s.is_host
hosted_head (head.Variable v) k = absurd (false≢true k)
hosted_head (head.Host i) k = refl
hosted_head h k = absurd (false≢true k)

head_hosted : (h : CoreHead) → s.is_host h ≡ true → lawful.is_hosted (lawful.begins h) ≡ true
unfolding s.is_host
head_hosted (head.Host i) k = refl
head_hosted h k = absurd (false≢true k)

hosted_by : (h : CoreHead) (ls : List CoreLink) → lawful.is_hosted (ends_at (lawful.begins h) (joints ls)) ≡ true → (s.is_host h && is_empty ls) ≡ true
hosted_by h [] k = both (hosted_head h k) refl
hosted_by h (l ∷ ls) k = absurd (false≢true (sym (never_hosted (lawful.after (joint l).ends) ls (after_not_hosted (joint l).ends)) ∙ k))

hosted_bare : (r : Round) (c : Current) (n : ℕ) (x : CoreExpr) → SoFar r c n x → lawful.is_hosted c ≡ true → s.is_bare_host x ≡ true
hosted_bare r c n x h k = hosted_by (out-CoreExpr x).head (out-CoreExpr x).links (ap lawful.is_hosted h.ends ∙ k)

bare_hosted : (r : Round) (c : Current) (n : ℕ) (x : CoreExpr) → SoFar r c n x → s.is_bare_host x ≡ true → lawful.is_hosted c ≡ true
bare_hosted r c n x h b =
    ap lawful.is_hosted (sym h.ends) ∙ ap (λ ls. lawful.is_hosted (ends_at (lawful.begins (out-CoreExpr x).head) (joints ls))) (empty_is (out-CoreExpr x).links (right _ _ b)) ∙ head_hosted (out-CoreExpr x).head (left _ _ b)

fits_when : (c d : Current) → Fits c d → lawful.is_hosted c ≡ true → lawful.is_hosted d ≡ true
fits_when c d same h = h
fits_when c d (plain k) h = absurd (false≢true h)

property_not_hosted : (at : Current) → lawful.is_property at ≡ true → lawful.is_hosted at ≡ false
property_not_hosted Plain h = absurd (false≢true h)
property_not_hosted Property h = refl
property_not_hosted Named h = absurd (false≢true h)
property_not_hosted Hosted h = absurd (false≢true h)

no_host : (r : Round) (at : Current) (n : ℕ) (x : CoreExpr) (y : Option Reference) → Based r at n x y → s.is_bare_host x ≡ false → lawful.is_hosted at ≡ false
no_host r at n x None h b = no_by (lawful.is_hosted at) (λ k. false≢true (sym b ∙ hosted_bare r h.current n x h.far (fits_when at h.current h.fits k)))
no_host r at n x (Some y) h b = property_not_hosted at h.is

-- any call may stand behind anything
abbrev IsCall : CoreOp → Type 0
IsCall o = ((c : Current) → lawful.may_stand_behind c o ≡ true) × (lawful.gives o ≡ Plain)

called_host_is : (r : Round) (o : CoreOp) (t : Settled) (site : Option Site) (at : Current) (n : ℕ) (c : Chain) (y : Option Reference) → IsCall o → Taken r o t → Are r c.before → Based r at n c.base y → s.is_bare_host c.base ≡ true
    → ChainFar r Plain (n + site_count site) (s.called_host o t site c)
called_host_is r o t site at n c None g k h f b =
    gone_far r (n + site_count site) _ _ (lawful.gives o) (gives_not_hosted o) (joined r c.before t.before h k.settled.before)
    (strict_far r f.current n o t.parts site c.base (g.0 f.current) k.takes k.op (wholes_sound r t.parts k.settled.parts) f.far)
called_host_is r o t site at n c (Some y) g k h f b = absurd (false≢true (sym f.plain ∙ bare_hosted r f.current f.base c.base f.far b))

called_function_is : (r : Round) (p : Place) (o : CoreOp) (t : Settled) (site : Option Site) (at : Current) (n : ℕ) (c : Chain) → n + site_count site ≤ 1 → Drawn r p → IsCall o → Taken r o t → ChainFar r at n c
    → ChainFar r Plain (n + site_count site) (s.called_function p o t site c)
called_function_is r p o t site at n c l d g k h = by_test (ChainFar r Plain (n + site_count site)) (s.is_bare_host c.base) (s.called_host o t site c) (s.behind_slot p o t site c)
    (λ b. called_host_is r o t site at n c c.reference g k h.before h.based b)
    (λ b. behind_slot_is r p o t site at n c l d (no_host r at n c.base c.reference h.based b) g.1 (g.0 Named) k h)

-- ## Methods, writes and changes

method_kept_are : (r : Round) (p : Place) (at : Current) (n : ℕ) (x : CoreExpr) (y : Reference) (xs : List CoreStat) → n ≤ 1 → Drawn r p → Drawn r (s.deeper 1 p) → Referred r at n x y → Are r xs → Are r (s.method_kept p x y xs)
method_kept_are r p at n x y xs l d e h k =
    let a = h.sites in
    one r (xs ++ s.kept p x ∷ []) _ (one r xs _ k (kept_is r h.current p x h.plain d (more_sites r h.current h.base 1 x (omega arith) h.far)))
    (kept_is r Property (s.deeper 1 p) _ refl e (more_sites r Property (0 + reference_sites y) 1 _ (omega arith) (referring_far r Named 0 (s.in_slot p) y refl (slot_far r p d) h.refers)))

called_method_is : (r : Round) (p : Place) (t : Settled) (site : Option Site) (at : Current) (n : ℕ) (before : List CoreStat) (x : CoreExpr) (y : Reference) → n + site_count site ≤ 1 → Drawn r p → Drawn r (s.deeper 1 p) → Taken r op.Call t → Are r before → Referred r at n x y
    → ChainFar r Plain (n + site_count site) (s.called_method p t site before x y)
called_method_is r p t site at n before x y l d e k b h =
    gone_far r (n + site_count site) _ _ Plain refl (joined r (s.method_kept p x y before) t.before (method_kept_are r p at n x y before (omega arith) d e h b) k.settled.before)
    (more_sites r Plain (0 + site_count site) (n + site_count site) _ (omega arith)
    (strict_far r Named 0 op.CallWith (s.in_slot p ∷ t.parts) site (s.in_slot (s.deeper 1 p)) refl (le-leb 1 (length (map (of_expr laws) (s.in_slot p ∷ t.parts))) (omega arith)) refl (both (slot_is r p d) (wholes_sound r t.parts k.settled.parts)) (slot_far r (s.deeper 1 p) e)))

called_is : (r : Round) (p : Place) (t : Settled) (site : Option Site) (at : Current) (n : ℕ) (c : Chain) (y : Option Reference) → c.reference ≡ y → n + site_count site ≤ 1 → Drawn r p → Drawn r (s.deeper 1 p) → Taken r op.Call t → ChainFar r at n c → Based r at n c.base y
    → ChainFar r Plain (n + site_count site) (s.called p t site c y)
called_is r p t site at n c None e l d f k h b = called_function_is r p op.Call t site at n c l d ((λ a. refl), refl) k h
called_is r p t site at n c (Some y) e l d f k h b = called_method_is r p t site at n c.before c.base y l d f k h.before b

reference_kept_are : (r : Round) (p : Place) (at : Current) (n : ℕ) (x : CoreExpr) (y : Reference) (xs : List CoreStat) → n ≤ 1 → Drawn r p → Drawn r (s.deeper 1 p) → Referred r at n x y → Are r xs → Are r (s.reference_kept p x y xs)
reference_kept_are r p at n x y xs l d e h k =
    let a = h.sites in fixed_are r p y _ d e h.refers (one r xs _ k (kept_is r h.current p x h.plain d (more_sites r h.current h.base 1 x (omega arith) h.far)))

put_is : (r : Round) (p : Place) (t : Settled) (site : Option Site) (at : Current) (n : ℕ) (c : Chain) (y : Option Reference) → n + site_count site ≤ 1 → lawful.is_property at ≡ true → Drawn r p → Drawn r (s.deeper 1 p) → Taken r op.Put t → Are r c.before → Based r at n c.base y
    → ChainFar r Plain (n + site_count site) (s.put p t site c y)
put_is r p t site at n c None l a d e k h b = absurd (false≢true (sym b.no_reference ∙ a))
put_is r p t site at n c (Some y) l a d e k h b =
    let i = b.sites in
    gone_far r (n + site_count site) _ _ Plain refl (joined r (s.reference_kept p c.base y c.before) t.before (reference_kept_are r p at n c.base y c.before (omega arith) d e b h) k.settled.before)
    (more_sites r Plain (reference_sites y + site_count site) (n + site_count site) _ (omega arith) (strict_far r Property (reference_sites y) op.Put t.parts site (s.target p y) refl k.takes refl (wholes_sound r t.parts k.settled.parts) (target_far r p y d e b.refers)))

updated_is : (r : Round) (p : Place) (o : Binary) (t : Settled) (site : Option Site) (at : Current) (n : ℕ) (c : Chain) (y : Option Reference) → n + site_count site ≤ 1 → lawful.is_property at ≡ true → Drawn r p → Drawn r (s.deeper 1 p) → Drawn r (s.deeper 2 p) → Taken r (op.Update o) t → Are r c.before → Based r at n c.base y
    → ChainFar r Plain (n + site_count site) (s.updated p o t site c y)
updated_is r p o t site at n c None l a d e f k h b = absurd (false≢true (sym b.no_reference ∙ a))
updated_is r p o t site at n c (Some y) l a d e f k h b =
    let i = b.sites in let target = target_far r p y d e b.refers in
    let changed = done_is r Plain (s.changed p o t.parts) (more_sites r Plain (0 + 0) 1 _ (omega arith) (strict_far r Named 0 (op.Operator o) t.parts None (s.in_slot (s.deeper 2 p)) refl k.takes refl (wholes_sound r t.parts k.settled.parts) (slot_far r (s.deeper 2 p) f))) refl in
    gone_far r (n + site_count site) _ _ Plain refl
    (joined r (s.old_kept p c.base y c.before) t.before (one r (s.reference_kept p c.base y c.before) _ (reference_kept_are r p at n c.base y c.before (omega arith) d e b h) (kept_is r Property (s.deeper 2 p) _ refl f (more_sites r Property (reference_sites y) 1 _ (omega arith) target))) k.settled.before)
    (more_sites r Plain (reference_sites y + site_count site) (n + site_count site) _ (omega arith) (strict_far r Property (reference_sites y) op.Put (s.changed p o t.parts ∷ []) site (s.target p y) refl refl refl (both changed refl) target))

then_part_is : (r : Round) (t : Settled) (site : Option Site) (at : Current) (n : ℕ) (c : Chain) → n + site_count site ≤ 1 → lawful.is_hosted at ≡ false → Taken r op.Then t → ChainFar r at n c → ChainFar r Plain (n + site_count site) (s.then_part t site c)
then_part_is r t site at n c l a k h =
    gone_far r (n + site_count site) _ _ Plain refl (joined r (s.with_effects (s.rest c) c.before) t.before (effects_are r (s.rest c) c.before (rest_whole r at n c (omega arith) a h) h.before) k.settled.before)
    (more_sites r Plain (0 + site_count site) (n + site_count site) _ (omega arith) (strict_far r Plain 0 op.Then t.parts site undefined refl k.takes refl (wholes_sound r t.parts k.settled.parts) (constant_far r Undefined refl)))

one_part : (r : Round) (o : CoreOp) (t : Settled) → ((i : ℕ) → lawful.takes o i ≡ true → i ≡ 1) → Taken r o t → length t.parts ≡ 1
one_part r o t f k = sym (length_map t.parts) ∙ f _ k.takes

indexed_is : (r : Round) (p : Place) (t : Settled) (site : Option Site) (at : Current) (n : ℕ) (c : Chain) → n + site_count site ≤ 1 → lawful.is_hosted at ≡ false → Drawn r p → Taken r op.Index t → ChainFar r at n c → ChainFar r Property (n + site_count site) (s.indexed p t site c)
indexed_is r p t site at n c l a d k h = record {
  before = joined r (c.before ++ s.kept p (s.rest c) ∷ []) t.before (one r c.before _ h.before (kept_whole r p (s.rest c) d (rest_whole r at n c (omega arith) a h))) k.settled.before;
  based = record { is = refl; current = Named; plain = refl; base = 0; far = slot_far r p d; refers = (one_part r op.Index t (λ i b. eqb-true i 1 b) k, k.settled.parts); sites = omega arith };
}

pub not_hosted : (c : Current) → not (lawful.is_hosted c) ≡ true → lawful.is_hosted c ≡ false
not_hosted c h = unnot (lawful.is_hosted c) h

named_not_hosted : (c : Current) → lawful.is_named c ≡ true → lawful.is_hosted c ≡ false
named_not_hosted Plain h = absurd (false≢true h)
named_not_hosted Property h = absurd (false≢true h)
named_not_hosted Named h = refl
named_not_hosted Hosted h = absurd (false≢true h)

-- with parts that have statements before them, of which there are some
pub statements_are : (r : Round) (p : Place) (o : CoreOp) (t : Settled) (site : Option Site) (at : Current) (n : ℕ) (c : Chain) → n + site_count site ≤ 1 → lawful.may_stand_behind at o ≡ true → Drawn r p → Drawn r (s.deeper 1 p) → Drawn r (s.deeper 2 p) → Taken r o t
    → (length (map (of_expr laws) t.parts) ≡ 0 → ⊥) → ChainFar r at n c → ChainFar r (lawful.gives o) (n + site_count site) (s.behind_statements p o t site c)
unfolding s.behind_statements
statements_are r p (op.Member key) t site at n c l b d e f k z h = absurd (z (eqb-true _ 0 k.takes))
statements_are r p op.Index t site at n c l b d e f k z h = indexed_is r p t site at n c l (not_hosted at b) d k h
statements_are r p op.Call t site at n c l b d e f k z h = called_is r p t site at n c c.reference refl l d e k h h.based
statements_are r p op.CallList t site at n c l b d e f k z h = called_function_is r p op.CallList t site at n c l d ((λ a. refl), refl) k h
statements_are r p op.Put t site at n c l b d e f k z h = put_is r p t site at n c c.reference l b d e k h.before h.based
statements_are r p op.Delete t site at n c l b d e f k z h = absurd (z (eqb-true _ 0 k.takes))
statements_are r p (op.Update o) t site at n c l b d e f k z h = updated_is r p o t site at n c c.reference l b d e f k h.before h.based
statements_are r p (op.Step u) t site at n c l b d e f k z h = absurd (z (eqb-true _ 0 k.takes))
statements_are r p (op.Unary u) t site at n c l b d e f k z h = absurd (z (eqb-true _ 0 k.takes))
statements_are r p op.Then t site at n c l b d e f k z h = then_part_is r t site at n c l (not_hosted at b) k h
statements_are r p (op.Set v) t site at n c l b d e f k z h = absurd (z (eqb-true _ 0 k.takes))
statements_are r p (op.Init v) t site at n c l b d e f k z h = absurd (z (eqb-true _ 0 k.takes))
statements_are r p (op.StepVariable u v) t site at n c l b d e f k z h = absurd (z (eqb-true _ 0 k.takes))
statements_are r p op.Hole t site at n c l b d e f k z h = absurd (z (eqb-true _ 0 k.takes))
statements_are r p op.Content t site at n c l b d e f k z h = absurd (z (eqb-true _ 0 k.takes))
statements_are r p op.SetContent t site at n c l b d e f k z h = behind_slot_is r p op.SetContent t site at n c l d (named_not_hosted at b) refl refl k h
statements_are r p op.Yield t site at n c l b d e f k z h = absurd (z (eqb-true _ 0 k.takes))
statements_are r p op.Delegate t site at n c l b d e f k z h = absurd (z (eqb-true _ 0 k.takes))
statements_are r p o t site at n c l b d e f k z h = behind_slot_is r p o t site at n c l d (not_hosted at b) refl refl k h

-- ## Yields

abbrev MayYield : Round → Type 0
MayYield r = (r.yields ≡ true) × (r.returns ≡ true)

pub yield_is : (r : Round) (x : CoreExpr) (kind : Option Var) (result : Var) → r.yields ≡ true → Sound r x → lawful.is_drawn r result ≡ true → list_all (λ i. nat_lt i r.names) (lawful.number_of kind) ≡ true → Is r (stat.Yield x kind result)
yield_is r x kind result y h d k = rolled_is r _ (layer.Yield x kind result) (stat.rolls-Yield x kind result) (both (both (both y h) d) k)

yielded_is : (r : Round) (p : Place) (at : Current) (n : ℕ) (c : Chain) → n ≤ 1 → lawful.is_hosted at ≡ false → r.yields ≡ true → Drawn r p → ChainFar r at n c → ChainFar r Plain n (s.yielded p c)
yielded_is r p at n c l a y d h = gone_far r n _ _ Named refl (one r c.before _ h.before (yield_is r (s.rest c) None (s.slot p) y (whole_sound r (s.rest c) (rest_whole r at n c l a h)) d refl)) (more_sites r Named 0 n _ (omega arith) (slot_far r p d))

two_is : (r : Round) (at : Current) (x : CoreExpr) (o : CoreOp) (y : CoreExpr) → lawful.may_stand_behind at o ≡ true → lawful.is_hosted (lawful.gives o) ≡ false → lawful.takes o 1 ≡ true → lawful.op_lawful o r ≡ true → SoFar r at 1 x → Sound r y → Sound r (two x o y)
two_is r at x o y b g t m h k = done_is r (lawful.gives o) _ (acting_far r at 1 o y x b t m k h) g

pub slot_same : (r : Round) (p : Place) (y : CoreExpr) → Drawn r p → Sound r y → Sound r (s.is_same (s.in_slot p) y)
slot_same r p y d k = two_is r Named (s.in_slot p) (op.Operator binary.Same) y refl refl refl refl (more_sites r Named 0 1 _ (omega arith) (slot_far r p d)) k

property_far : (r : Round) (p : Place) (t : List ℕ) → Drawn r p → SoFar r Property 0 (s.property p t)
property_far r p t d = act_far r Named 0 (op.Member (WordKey t)) (s.in_slot p) refl refl refl (slot_far r p d)

property_sound : (r : Round) (p : Place) (t : List ℕ) → Drawn r p → Sound r (s.property p t)
property_sound r p t d = done_is r Property _ (more_sites r Property 0 1 _ (omega arith) (property_far r p t d)) refl

-- the slots of a delegating yield, whose label is new
pub record Delegates (r : Round) (p : Place) : Type 0 where
  pub zero : Drawn r p
  pub one : Drawn r (s.deeper 1 p)
  pub two : Drawn r (s.deeper 2 p)
  pub three : Drawn r (s.deeper 3 p)
  pub yields : r.yields ≡ true
  pub returns : r.returns ≡ true

delegate_step_is : (r : Round) (p : Place) → Delegates r p → Whole r (s.delegate_step p)
delegate_step_is r p h = record { at = Plain; plain = refl; far = more_sites r Plain (0 + 0) 1 _ (omega arith) (strict_far r Named 0 (op.Primitive DelegateStep) (s.in_slot (s.deeper 1 p) ∷ s.in_slot (s.deeper 2 p) ∷ []) None (s.in_slot p) refl refl refl (both (slot_is r (s.deeper 1 p) h.one) (both (slot_is r (s.deeper 2 p) h.two) refl)) (slot_far r p h.zero)) }

in_label : (r : Round) (p : Place) → Delegates r p → Delegates (lawful.in_loop (s.label p ∷ []) r) p
in_label r p h = record { zero = h.zero; one = h.one; two = h.two; three = h.three; yields = h.yields; returns = h.returns }

pub leave_is : (r : Round) (p : Place) → lawful.has_label (s.label p) r.labels ≡ true → Is r (s.leave p)
leave_is r p h = jump_is r (s.label p) h

delegate_body_are : (r : Round) (p : Place) → Delegates r p → lawful.has_label (s.label p) r.labels ≡ true → Are r (s.delegate_body p)
delegate_body_are r p h l =
    both (kept_whole r (s.deeper 3 p) (s.delegate_step p) h.three (delegate_step_is r p h))
    (both (when_is r _ _ (slot_same r (s.deeper 3 p) undefined h.three (whole_sound r undefined (undefined_whole r))) (both (return_is r _ h.returns (slot_is r (s.deeper 2 p) h.two)) refl))
    (both (when_is r _ _ (property_sound r (s.deeper 3 p) s.done_name h.three)
    (both (when_is r _ _ (slot_same r (s.deeper 1 p) (number 2) h.one (number_is r 2 refl)) (both (return_is r _ h.returns (property_sound r (s.deeper 3 p) s.value_name h.three)) refl)) (both (leave_is r p l) refl)))
    (both (yield_is r _ _ _ h.yields (slot_is r (s.deeper 3 p) h.three) h.two (both h.one refl)) refl)))

delegate_loop_is : (r : Round) (p : Place) → Delegates r p → lawful.is_new r (s.label p) ≡ true → Is r (s.delegate_loop p)
delegate_loop_is r p h k = rolled_is r _ (layer.Loop (s.label p ∷ []) None None (s.delegate_body p)) (stat.rolls-Loop (s.label p ∷ []) None None (s.delegate_body p))
    (both (both (both (both (both k refl) refl) refl) refl) (delegate_body_are (lawful.in_loop (s.label p ∷ []) r) p (in_label r p h) (own_label (s.label p) r.labels)))

delegated_is : (r : Round) (p : Place) (at : Current) (n : ℕ) (c : Chain) → n ≤ 1 → lawful.is_hosted at ≡ false → Delegates r p → lawful.is_new r (s.label p) ≡ true → ChainFar r at n c → ChainFar r Plain n (s.delegated p c)
delegated_is r p at n c l a d k h =
    let x = rest_whole r at n c l a h in
    gone_far r n _ _ Property refl
    (one r _ _ (one r _ _ (one r _ _ (one r c.before _ h.before
    (kept_is r Plain p _ refl d.zero (acting_far r x.at 1 (op.Primitive IterStart) (number 0) (s.rest c) (ap not x.plain) refl refl (number_is r 0 refl) x.far)))
    (kept_is r Plain (s.deeper 1 p) _ refl d.one (more_sites r Plain 0 1 _ (omega arith) (constant_far r _ refl))))
    (kept_whole r (s.deeper 2 p) undefined d.two (undefined_whole r)))
    (delegate_loop_is r p d k))
    (more_sites r Property 0 n _ (omega arith) (property_far r (s.deeper 3 p) s.value_name d.three))

-- ## Links without statements

plain_is : (r : Round) (o : CoreOp) (parts : List CoreExpr) (site : Option Site) (at : Current) (n : ℕ) (c : Chain) → lawful.gives o ≡ Plain → lawful.may_stand_behind at o ≡ true → lawful.takes o (length (map (of_expr laws) parts)) ≡ true → lawful.op_lawful o r ≡ true → Wholes r parts → ChainFar r at n c
    → ChainFar r Plain (n + site_count site) (s.plain o parts site c)
plain_is r o parts site at n c g b t m q h =
    let a = rest_is r at n c h in
    gone_far r (n + site_count site) _ _ (lawful.gives o) (gives_not_hosted o) h.before (strict_far r a.current n o parts site (s.rest c) (fits_op at a.current o a.fits b) t m (wholes_sound r parts q) a.far)

refers_is : (r : Round) (at : Current) (n : ℕ) (c : Chain) (y : Reference) → lawful.is_hosted at ≡ false → Refers r y → ChainFar r at n c → ChainFar r Property (n + reference_sites y) (s.refers c y)
refers_is r at n c y p k h =
    let a = rest_is r at n c h in
    record { before = h.before; based = record { is = refl; current = a.current; plain = fits_hosted at a.current a.fits p; base = n; far = a.far; refers = k; sites = omega arith } }

-- what an operation asks of the place
pub record Room (r : Round) (p : Place) : Type 0 where
  pub slots : p.slot + 4 ≤ r.names
  pub new : lawful.is_new r (s.label p) ≡ true
  pub yields : r.yields ≡ true → r.returns ≡ true

pub room_drawn : (r : Round) (p : Place) (k : ℕ) → k < 4 → Room r p → Drawn r (s.deeper k p)
room_drawn r p k l h = let a = h.slots in drawn_by r p k (omega arith)

pub room_first : (r : Round) (p : Place) → Room r p → Drawn r p
room_first r p h = let a = h.slots in lt-ltb p.slot r.names (omega arith)

pub value_is : (r : Round) (p : Place) (o : CoreOp) (parts : List CoreExpr) (site : Option Site) (at : Current) (n : ℕ) (c : Chain) → n + site_count site ≤ 1 → lawful.may_stand_behind at o ≡ true → Room r p → lawful.takes o (length (map (of_expr laws) parts)) ≡ true → lawful.op_lawful o r ≡ true → Wholes r parts → ChainFar r at n c
    → ChainFar r (lawful.gives o) (n + site_count site) (s.behind_value p o parts site c)
unfolding s.behind_value
value_is r p op.Yield parts site at n c l b d t m q h = more_chain r n (n + site_count site) _ (omega arith) (yielded_is r p at n c (omega arith) (not_hosted at b) m (room_first r p d) h)
value_is r p op.Delegate parts site at n c l b d t m q h = more_chain r n (n + site_count site) _ (omega arith) (delegated_is r p at n c (omega arith) (not_hosted at b)
    (record { zero = room_first r p d; one = room_drawn r p 1 (omega arith) d; two = room_drawn r p 2 (omega arith) d; three = room_drawn r p 3 (omega arith) d; yields = m; returns = d.yields m }) d.new h)
value_is r p (op.Member key) parts site at n c l b d t m q h = by_test (ChainFar r Property (n + site_count site)) (is_empty parts) (s.refers c (ref.Named key site)) (s.plain (op.Member key) parts site c)
    (λ e. refers_is r at n c (ref.Named key site) (not_hosted at b) m h)
    (λ e. absurd (false≢true (sym e ∙ ap (λ i. nat_eq i 0) (sym (length_map parts)) ∙ t)))
value_is r p op.Index parts site at n c l b d t m q h = refers_is r at n c (ref.Keyed parts site) (not_hosted at b) (sym (length_map parts) ∙ eqb-true _ 1 t, q) h
value_is r p o parts site at n c l b d t m q h = plain_is r o parts site at n c refl b t m q h
