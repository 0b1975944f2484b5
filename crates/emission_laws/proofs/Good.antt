-- What is emitted, node by node: the grammar has it, and inside a function it has no early error. Expressions.
use Rattle.std.specs.List.{list_all}
use Rattle.std.specs.Str.{bytes_eq}
use Rattle.std.proofs.Common.{◌≡◌, ℕ, ◌+◌, ◌≤◌, Bool, true, false, cond, codes, List, [], ◌∷◌, ◌++◌, map, length, Option, None, Some, refl, sym, ap, arith, subst, ◌∙◌}
use Rattle.std.proofs.lemmas.Bool.{false≢true, le-leb}
use Rattle.es_outside.specs.declared.events.Site.{Site}
use Rattle.es5_ast.specs.declared.operators.UnaryOperator5.{UnaryOperator5}
use Rattle.es5_ast.specs.declared.operators.Literal5.{Literal5}
use Rattle.es5_ast.specs.declared.tree.Expr5.{Expr5, roll-Expr5, out-Expr5, out-roll-Expr5}
use Rattle.es5_ast.specs.declared.tree.Expr5.TheVariants as expr
use Rattle.es5_ast.specs.declared.tree.Link5.{Link5, roll-Link5}
use Rattle.es5_ast.specs.declared.tree.Link5.TheVariants as link
use Rattle.es5_ast.specs.declared.tree.Function5.{Function5}
use Rattle.es5_ast.specs.declared.tree.Element5.TheOpen as layer
use Rattle.es5_ast.specs.declared.tree.Element5.TheOpen.{Expr5-F, Link5-F}
use Rattle.es5_ast.specs.Grammar.{some_site}
use Rattle.es5_ast.specs.Lexical.{is_identifier_name, is_one_of}
use Rattle.es5_ast.specs.Early as e
use Rattle.es5_ast.specs.Early.{Found5, Held5, Inside, Pair5, Rule5, Target5, NameTarget, PropertyTarget, NoTarget, Sort5, Data}
use Rattle.es5_printable.specs.Printable as p
use Rattle.es5_printable.specs.Printable.{FitExpr, FitLink, FitOperand, element_fit, expr_fit, link_fit, property_fit, function_fit, operand_fit}
use Rattle.emission_rules.specs.Nodes as n
use Rattle.emission_rules.specs.Nodes.{nowhere}
use Rattle.pass_rules.proofs.pass_laws.Within.{left, right, both}
use Rattle.pass_rules.proofs.pass_laws.YieldMarks.{or_false}
use Rattle.emission_laws.proofs.Layers.{Open, expr_found, link_found, property_found, function_found, fit_expr, fit_link, found_expr, found_link, fit_expr-roll, fit_link-roll, found_expr-roll, found_link-roll, fit_expr-out, found_expr-out}

-- ## Lists

pub none : {A : Type 0} {xs ys : List A} → xs ≡ [] → ys ≡ [] → xs ++ ys ≡ []
none {ys = ys} h k = ap (λ zs. zs ++ ys) h ∙ k

abbrev is_nil : {A : Type 0} → List A → Bool
is_nil [] = true
is_nil (x ∷ xs) = false

pub first_none : {A : Type 0} (xs ys : List A) → xs ++ ys ≡ [] → xs ≡ []
first_none [] ys h = refl
first_none (x ∷ xs) ys h = absurd (false≢true (ap is_nil h))

pub second_none : {A : Type 0} (xs ys : List A) → xs ++ ys ≡ [] → ys ≡ []
second_none [] ys h = h
second_none (x ∷ xs) ys h = absurd (false≢true (ap is_nil h))

pub all_one : {A B : Type 0} (f : A → B) (q : B → Bool) (xs : List A) (y : A) → list_all q (map f xs) ≡ true → q (f y) ≡ true → list_all q (map f (xs ++ y ∷ [])) ≡ true
all_one f q [] y h k = both k refl
all_one f q (x ∷ xs) y h k = both (left _ _ h) (all_one f q xs y (right _ _ h) k)

pub joined_one : {A B : Type 0} (f : A → B) (q : B → List Pair5) (xs : List A) (y : A) → e.joined q (map f xs) ≡ [] → q (f y) ≡ [] → e.joined q (map f (xs ++ y ∷ [])) ≡ []
joined_one f q [] y h k = none k refl
joined_one f q (x ∷ xs) y h k = none (first_none (q (f x)) _ h) (joined_one f q xs y (second_none (q (f x)) _ h) k)

pub when_not : (b : Bool) (rule : Rule5) (at : ℕ) → b ≡ false → e.when b rule at ≡ []
when_not b rule at h = ap (λ c. cond c (record { rule = rule; at = at } ∷ []) []) h

-- ## Names

pub record GoodName (t : List ℕ) : Type 0 where
  pub is : p.is_name t ≡ true
  pub free : e.is_restricted t ≡ false

pub not_eval : (t : List ℕ) → e.is_restricted t ≡ false → bytes_eq t (codes "eval") ≡ false
not_eval t h = (or_false (bytes_eq t (codes "eval")) _ h).0

abbrev pub GoodNames : List (List ℕ) → Type 0
GoodNames [] = Unit {0}
GoodNames (t ∷ ts) = GoodName t × GoodNames ts

-- ## Expressions

pub record Good (x : Expr5) : Type 0 where
  pub fits : (expr_fit x).fits ≡ true
  pub pairs : (expr_found x).pairs true ≡ []

-- the same of a layer
abbrev pub Out : Open Expr5-F → Type 0
Out y = ((p.expr_step (fit_expr y)).fits ≡ true) × ((e.expr_step (found_expr y)).pairs true ≡ [])

pub good_by : (x : Expr5) (y : Open Expr5-F) → roll-Expr5 y ≡ x → (p.expr_step (fit_expr y)).fits ≡ true → (e.expr_step (found_expr y)).pairs true ≡ [] → Good x
good_by x y r f m = record {
  fits = ap (λ z. (expr_fit z).fits) (sym r) ∙ ap (λ v. v.fits) (fit_expr-roll y) ∙ f;
  pairs = ap (λ z. (expr_found z).pairs true) (sym r) ∙ ap (λ v. v.pairs true) (found_expr-roll y) ∙ m;
}

pub good_out : (x : Expr5) → Good x → Out (out-Expr5 x)
good_out x h = (ap (λ v. v.fits) (sym (fit_expr-out x)) ∙ h.fits, ap (λ v. v.pairs true) (sym (found_expr-out x)) ∙ h.pairs)

-- of the layer that a node is rolled of
pub good_at : (x : Expr5) (y : Open Expr5-F) → roll-Expr5 y ≡ x → Good x → Out y
good_at x y r h = (ap (λ v. v.fits) (sym (fit_expr-roll y)) ∙ ap (λ z. (expr_fit z).fits) r ∙ h.fits, ap (λ v. v.pairs true) (sym (found_expr-roll y)) ∙ ap (λ z. (expr_found z).pairs true) r ∙ h.pairs)

abbrev pub Goods : List Expr5 → Type 0
Goods [] = Unit {0}
Goods (x ∷ xs) = Good x × Goods xs

pub goods_fit : (xs : List Expr5) → Goods xs → p.exprs_fit (map expr_fit xs) ≡ true
goods_fit [] h = refl
goods_fit (x ∷ xs) h = both h.0.fits (goods_fit xs h.1)

pub goods_pairs : (xs : List Expr5) → Goods xs → e.joined (λ (x : Found5). x.pairs true) (map expr_found xs) ≡ []
goods_pairs [] h = refl
goods_pairs (x ∷ xs) h = none h.0.pairs (goods_pairs xs h.1)

pub goods_more : (xs : List Expr5) (y : Expr5) → Goods xs → Good y → Goods (xs ++ y ∷ [])
goods_more [] y h k = (k, tt)
goods_more (x ∷ xs) y h k = (h.0, goods_more xs y h.1 k)

-- ## What stands at the top: the sites of a chain's calls, and the keys of a literal's properties

abbrev pub sites_at : Open Expr5-F → ℕ
sites_at (layer.Chain span h ls) = p.sites_in (map link_fit ls)
sites_at y = 0

abbrev pub keys_at : Open Expr5-F → List (List ℕ)
keys_at (layer.ObjectList span ps) = map (λ q. (property_found q).name) ps
keys_at y = []

-- at most so many sites, and no other keys
pub record Top (m : ℕ) (ks : List (List ℕ)) (x : Expr5) : Type 0 where
  pub sites : sites_at (out-Expr5 x) ≤ m
  pub keys : (k : List ℕ) → is_one_of k ks ≡ false → is_one_of k (keys_at (out-Expr5 x)) ≡ false

pub out_is : (x : Expr5) (y : Open Expr5-F) → roll-Expr5 y ≡ x → out-Expr5 x ≡ y
out_is x y r = ap out-Expr5 (sym r) ∙ out-roll-Expr5 y

pub top_by : (m : ℕ) (ks : List (List ℕ)) (x : Expr5) (y : Open Expr5-F) → roll-Expr5 y ≡ x → sites_at y ≤ m → ((k : List ℕ) → is_one_of k ks ≡ false → is_one_of k (keys_at y) ≡ false) → Top m ks x
top_by m ks x y r h k = record {
  sites = subst (λ z. sites_at z ≤ m) (sym (out_is x y r)) h;
  keys = subst (λ z. (j : List ℕ) → is_one_of j ks ≡ false → is_one_of j (keys_at z) ≡ false) (sym (out_is x y r)) k;
}

pub top_bare : (m : ℕ) (ks : List (List ℕ)) (x : Expr5) (y : Open Expr5-F) → roll-Expr5 y ≡ x → sites_at y ≡ 0 → keys_at y ≡ [] → Top m ks x
top_bare m ks x y r h k = top_by m ks x y r (omega (arith, h)) (λ j i. ap (is_one_of j) k)

pub target_by : (x : Expr5) (y : Open Expr5-F) → roll-Expr5 y ≡ x → (expr_found x).target ≡ (e.expr_step (found_expr y)).target
target_by x y r = ap (λ z. (expr_found z).target) (sym r) ∙ ap (λ v. v.target) (found_expr-roll y)

-- an expression whose own top has neither
pub record Plain (x : Expr5) : Type 0 where
  pub good : Good x
  pub top : (m : ℕ) (ks : List (List ℕ)) → Top m ks x

pub plain_by : (x : Expr5) (y : Open Expr5-F) → roll-Expr5 y ≡ x → (p.expr_step (fit_expr y)).fits ≡ true → (e.expr_step (found_expr y)).pairs true ≡ [] → sites_at y ≡ 0 → keys_at y ≡ [] → Plain x
plain_by x y r f m h k = record { good = good_by x y r f m; top = λ i ks. top_bare i ks x y r h k }

-- ## Leaves

pub name_plain : (t : List ℕ) → p.is_name t ≡ true → bytes_eq t (codes "eval") ≡ false → Plain (n.name t)
name_plain t h k = plain_by _ (layer.Name nowhere t) (expr.rolls-Name nowhere t) h (when_not _ (e.V 7) 0 k) refl refl

pub named_plain : (t : List ℕ) → GoodName t → Plain (n.name t)
named_plain t h = name_plain t h.is (not_eval t h.free)

pub literal_plain : (l : Literal5) → p.is_literal l ≡ true → Plain (expr.Literal nowhere l)
literal_plain l h = plain_by _ (layer.Literal nowhere l) (expr.rolls-Literal nowhere l) h refl refl refl

pub integer_plain : (m : ℕ) → p.is_integer m ≡ true → Plain (n.integer m)
integer_plain m h = literal_plain _ h

pub text_plain : (us : List ℕ) → p.are_units us ≡ true → Plain (n.text us)
text_plain us h = literal_plain _ h

pub unary_plain : (o : UnaryOperator5) (x : Expr5) → Good x → e.deleted o (expr_found x).target 0 ≡ [] → Plain (expr.Unary nowhere o x)
unary_plain o x h d = plain_by _ (layer.Unary nowhere o x) (expr.rolls-Unary nowhere o x) h.fits (none d h.pairs) refl refl

pub nothing_plain : Plain n.nothing
nothing_plain = unary_plain _ (n.integer 0) (integer_plain 0 refl).good refl

pub this_plain : Plain n.this
this_plain = plain_by _ (layer.This nowhere) (expr.rolls-This nowhere) refl refl refl refl

pub empty_array_plain : Plain (expr.ArrayList nowhere [])
empty_array_plain = plain_by _ (layer.ArrayList nowhere []) (expr.rolls-ArrayList nowhere []) refl refl refl refl

pub empty_object_plain : Plain (expr.ObjectList nowhere [])
empty_object_plain = plain_by _ (layer.ObjectList nowhere []) (expr.rolls-ObjectList nowhere []) refl refl refl refl

pub function_plain : (f : Function5) → (function_fit f).fits ≡ true → (function_found f).pairs ≡ [] → Plain (expr.Function f)
function_plain f h k = plain_by _ (layer.Function f) (expr.rolls-Function f) h k refl refl

-- ## Links

pub record GoodLink (l : Link5) : Type 0 where
  pub fits : (link_fit l).fits ≡ true
  pub pairs : (link_found l).1 true ≡ []

link_by : (l : Link5) (y : Open Link5-F) → roll-Link5 y ≡ l → (p.link_step (fit_link y)).fits ≡ true → (e.link_step (found_link y)).1 true ≡ [] → GoodLink l
link_by l y r f m = record {
  fits = ap (λ z. (link_fit z).fits) (sym r) ∙ ap (λ v. v.fits) (fit_link-roll y) ∙ f;
  pairs = ap (λ z. (link_found z).1 true) (sym r) ∙ ap (λ v. v.1 true) (found_link-roll y) ∙ m;
}

link_sites_by : (l : Link5) (y : Open Link5-F) → roll-Link5 y ≡ l → (link_fit l).sites ≡ (p.link_step (fit_link y)).sites
link_sites_by l y r = ap (λ z. (link_fit z).sites) (sym r) ∙ ap (λ v. v.sites) (fit_link-roll y)

link_access_by : (l : Link5) (y : Open Link5-F) → roll-Link5 y ≡ l → (link_found l).0 ≡ (e.link_step (found_link y)).0
link_access_by l y r = ap (λ z. (link_found z).0) (sym r) ∙ ap (λ v. v.0) (found_link-roll y)

-- an access
pub record Access (l : Link5) : Type 0 where
  pub good : GoodLink l
  pub sites : (link_fit l).sites ≡ 0
  pub is : (link_found l).0 ≡ true

pub member_access : (t : List ℕ) → is_identifier_name t ≡ true → Access (link.Member nowhere t)
member_access t h =
    let r = link.rolls-Member nowhere t in
    record { good = link_by _ (layer.Member nowhere t) r h refl; sites = link_sites_by _ (layer.Member nowhere t) r; is = link_access_by _ (layer.Member nowhere t) r }

pub index_access : (x : Expr5) → Good x → Access (link.Index nowhere x)
index_access x h =
    let r = link.rolls-Index nowhere x in
    record { good = link_by _ (layer.Index nowhere x) r h.fits h.pairs; sites = link_sites_by _ (layer.Index nowhere x) r; is = link_access_by _ (layer.Index nowhere x) r }

pub call_link : (xs : List Expr5) (site : Option Site) → Goods xs → GoodLink (link.Call nowhere xs site)
call_link xs site h = link_by _ (layer.Call nowhere xs site) (link.rolls-Call nowhere xs site) (goods_fit xs h) (goods_pairs xs h)

abbrev pub site_count : Option Site → ℕ
site_count None = 0
site_count (Some site) = 1

count_is : (site : Option Site) → length (some_site site) ≡ site_count site
count_is None = refl
count_is (Some site) = refl

pub call_sites : (xs : List Expr5) (site : Option Site) → (link_fit (link.Call nowhere xs site)).sites ≡ site_count site
call_sites xs site = link_sites_by _ (layer.Call nowhere xs site) (link.rolls-Call nowhere xs site) ∙ count_is site

-- ## Chains

sites_one : (ls : List Link5) (l : Link5) → p.sites_in (map link_fit (ls ++ l ∷ [])) ≡ p.sites_in (map link_fit ls) + (link_fit l).sites
sites_one [] l = omega arith
sites_one (k ∷ ls) l = let a = sites_one ls l in omega arith

links_one : (ls : List Link5) (l : Link5) → p.links_fit (map link_fit ls) ≡ true → (link_fit l).fits ≡ true → p.sites_in (map link_fit ls) + (link_fit l).sites ≤ 1 → p.links_fit (map link_fit (ls ++ l ∷ [])) ≡ true
links_one [] l h k m = absurd (false≢true h)
links_one (j ∷ ls) l h k m = both (all_one link_fit (λ q. q.fits) (j ∷ ls) l (left _ _ h) k) (le-leb _ 1 (let a = sites_one (j ∷ ls) l in omega arith))

ends_one : (ls : List Link5) (l : Link5) → e.ends_in_access (map link_found (ls ++ l ∷ [])) ≡ (link_found l).0
ends_one [] l = refl
ends_one (k ∷ []) l = refl
ends_one (k ∷ j ∷ ls) l = ends_one (j ∷ ls) l

chained_by : (x : Expr5) (l : Link5) (y : Open Expr5-F) → Good x → Out y → GoodLink l → sites_at y + (link_fit l).sites ≤ 1 → Good (n.chained_layer x l y)
chained_by x l (layer.Chain span h ls) g o k m = good_by _ (layer.Chain span h (ls ++ l ∷ [])) (expr.rolls-Chain span h (ls ++ l ∷ []))
    (both (left _ _ o.0) (links_one ls l (right _ _ o.0) k.fits m))
    (none (first_none _ _ o.1) (joined_one link_found (λ q. q.1 true) ls l (second_none _ _ o.1) k.pairs))
chained_by x l y g o k m = good_by _ (layer.Chain nowhere x (l ∷ [])) (expr.rolls-Chain nowhere x (l ∷ []))
    (both g.fits (both (both k.fits refl) (le-leb _ 1 (omega arith)))) (none g.pairs (none k.pairs refl))

pub chained_good : (x : Expr5) (l : Link5) → Good x → GoodLink l → sites_at (out-Expr5 x) + (link_fit l).sites ≤ 1 → Good (n.chained x l)
unfolding n.chained
chained_good x l h k m = chained_by x l (out-Expr5 x) h (good_out x h) k m

top_of_chain : (x : Expr5) (l : Link5) (y : Open Expr5-F) (i : ℕ) (ks : List (List ℕ)) → sites_at y + (link_fit l).sites ≤ i → Top i ks (n.chained_layer x l y)
top_of_chain x l (layer.Chain span h ls) i ks m = top_by i ks _ (layer.Chain span h (ls ++ l ∷ [])) (expr.rolls-Chain span h (ls ++ l ∷ [])) (let a = sites_one ls l in omega arith) (λ j a. refl)
top_of_chain x l y i ks m = top_by i ks _ (layer.Chain nowhere x (l ∷ [])) (expr.rolls-Chain nowhere x (l ∷ [])) (omega arith) (λ j a. refl)

pub chained_top : (x : Expr5) (l : Link5) (i : ℕ) (ks : List (List ℕ)) → sites_at (out-Expr5 x) + (link_fit l).sites ≤ i → Top i ks (n.chained x l)
unfolding n.chained
chained_top x l i ks m = top_of_chain x l (out-Expr5 x) i ks m

target_of_chain : (x : Expr5) (l : Link5) (y : Open Expr5-F) → (expr_found (n.chained_layer x l y)).target ≡ cond (link_found l).0 PropertyTarget NoTarget
target_of_chain x l (layer.Chain span h ls) = target_by _ (layer.Chain span h (ls ++ l ∷ [])) (expr.rolls-Chain span h (ls ++ l ∷ [])) ∙ ap (λ b. cond b PropertyTarget NoTarget) (ends_one ls l)
target_of_chain x l y = target_by _ (layer.Chain nowhere x (l ∷ [])) (expr.rolls-Chain nowhere x (l ∷ []))

pub chained_target : (x : Expr5) (l : Link5) → (link_found l).0 ≡ true → (expr_found (n.chained x l)).target ≡ PropertyTarget
unfolding n.chained
chained_target x l h = target_of_chain x l (out-Expr5 x) ∙ ap (λ b. cond b PropertyTarget NoTarget) h

-- a call of a name
pub applied_plain : (t : List ℕ) (xs : List Expr5) → p.is_name t ≡ true → bytes_eq t (codes "eval") ≡ false → Goods xs → Plain (n.applied t xs)
applied_plain t xs h k g =
    let l = link.Call nowhere xs None in let x = name_plain t h k in let c = call_link xs None g in let s = call_sites xs None in
    let y = layer.Chain nowhere (n.name t) (l ∷ []) in let r = expr.rolls-Chain nowhere (n.name t) (l ∷ []) in
    record {
      good = good_by _ y r (both x.good.fits (both (both c.fits refl) (le-leb _ 1 (omega arith)))) (none x.good.pairs (none c.pairs refl));
      top = λ i ks. top_by i ks _ y r (omega arith) (λ j a. refl);
    }

pub called_by_good : (t : List ℕ) (xs : List Expr5) (site : Option Site) → p.is_name t ≡ true → bytes_eq t (codes "eval") ≡ false → Goods xs → Good (n.called_by t xs site)
called_by_good t xs site h k g =
    let l = link.Call nowhere xs site in let m = link.Member nowhere (codes "call") in let x = name_plain t h k in let c = call_link xs site g in let s = call_sites xs site in let a = member_access (codes "call") refl in
    let b = a.sites in
    good_by _ (layer.Chain nowhere (n.name t) (m ∷ l ∷ [])) (expr.rolls-Chain nowhere (n.name t) (m ∷ l ∷ []))
    (both x.good.fits (both (both a.good.fits (both c.fits refl)) (le-leb _ 1 (at_most site _ _ s b)))) (none x.good.pairs (none a.good.pairs (none c.pairs refl)))
  where
    at_most : (site : Option Site) (u v : ℕ) → u ≡ site_count site → v ≡ 0 → v + (u + 0) ≤ 1
    at_most None u v h k = omega (arith, h, k)
    at_most (Some z) u v h k = omega (arith, h, k)

pub called_by_top : (t : List ℕ) (xs : List Expr5) (site : Option Site) (i : ℕ) (ks : List (List ℕ)) → site_count site ≤ i → Top i ks (n.called_by t xs site)
called_by_top t xs site i ks h =
    let l = link.Call nowhere xs site in let m = link.Member nowhere (codes "call") in let s = call_sites xs site in let b = (member_access (codes "call") refl).sites in
    top_by i ks _ (layer.Chain nowhere (n.name t) (m ∷ l ∷ [])) (expr.rolls-Chain nowhere (n.name t) (m ∷ l ∷ [])) (omega arith) (λ j a. refl)
