-- What is emitted of operations, behind what may stand before them.
use Rattle.std.proofs.Common.{◌≡◌, ℕ, ◌+◌, ◌≤◌, Bool, true, false, not, cond, List, [], ◌∷◌, Option, Some, refl, sym, ap, arith}
use Rattle.std.proofs.lemmas.Bool.{false≢true, ltb-true}
use Rattle.es_outside.specs.declared.events.Site.{Site}
use Rattle.core_ast.specs.declared.parts.Key.{Key}
use Rattle.core_ast.specs.declared.parts.CoreOp.{CoreOp}
use Rattle.core_ast.specs.declared.parts.CoreOp.TheVariants as op
use Rattle.core_ast.specs.declared.parts.Primitive.TheVariants as primitive
use Rattle.core_ast.specs.declared.parts.Unary.{Unary}
use Rattle.core_ast.specs.declared.parts.Unary.TheVariants as unary
use Rattle.core_ast.specs.declared.parts.When.{When}
use Rattle.core_ast.specs.declared.parts.When.TheVariants as when
use Rattle.core_ast.specs.Lawful as lawful
use Rattle.core_ast.specs.Lawful.{Round}
use Rattle.es5_ast.specs.declared.operators.UnaryOperator5.TheVariants as unary5
use Rattle.es5_ast.specs.declared.tree.Expr5.{Expr5, out-Expr5}
use Rattle.es5_ast.specs.declared.tree.Expr5.TheVariants as expr
use Rattle.es5_ast.specs.declared.tree.Link5.{Link5}
use Rattle.es5_ast.specs.declared.tree.Link5.TheVariants as link
use Rattle.es5_ast.specs.declared.tree.Element5.TheOpen as layer
use Rattle.es5_ast.specs.declared.tree.Element5.TheOpen.{Expr5-F}
use Rattle.es5_ast.specs.Lexical.{is_one_of}
use Rattle.es5_ast.specs.Early as e
use Rattle.es5_ast.specs.Early.{NameTarget, PropertyTarget, NoTarget}
use Rattle.emission_rules.specs.declared.scene.Current.{Current}
use Rattle.emission_rules.specs.declared.scene.Scene.{Scene}
use Rattle.emission_rules.specs.Nodes as n
use Rattle.emission_rules.specs.Nodes.{is_ascii, key_name, key_value, keyed, nowhere, word_units}
use Rattle.emission_rules.specs.Primitives as q
use Rattle.emission_rules.specs.Primitives.{helper_name}
use Rattle.emission_rules.specs.Expressions as x
use Rattle.emission_rules.specs.Scenes.{gives, name_of}
use Rattle.emission_laws.specs.Writable as w
use Rattle.emission_laws.proofs.Layers.{Open, expr_found}
use Rattle.emission_laws.proofs.Good.{Good, Goods, GoodName, Out, Top, Plain, Access, good_out, literal_plain, integer_plain, unary_plain, nothing_plain, member_access, index_access, call_link, call_sites, site_count, sites_at, keys_at, chained_good, chained_top, chained_target, called_by_good, called_by_top, not_eval}
use Rattle.emission_laws.proofs.Operators.{operated_plain, then_plain, sequence_plain, assigned_plain, property_target, stored_plain, update_plain, conditional_plain, new_plain, elements_plain, properties_good, properties_top}
use Rattle.emission_laws.proofs.Ready.{Ready, Done, Far, plain_far, done_by, helped_plain, primitive_done, apply_good, call_good, key_access, key_good, key_is}

-- ## Operations that are calls

first_good : (ys : List Expr5) → Goods ys → Good (x.first ys)
first_good [] h = nothing_plain.good
first_good (y ∷ ys) h = h.0

-- what is called, with no more sites
record Callee (m : ℕ) (y : Expr5) : Type 0 where
  good : Good y
  sites : sites_at (out-Expr5 y) ≤ m

callee_by : (m : ℕ) (c : Bool) (y : Expr5) → Good y → sites_at (out-Expr5 y) ≤ m → Callee m (cond c (expr.Sequence nowhere (n.integer 0) (y ∷ [])) y)
callee_by m true y h k = let a = sequence_plain (n.integer 0) y (integer_plain 0 refl).good h in record { good = a.good; sites = (a.top m []).sites }
callee_by m false y h k = record { good = h; sites = k }

access_far : (m : ℕ) (ks : List (List ℕ)) (y : Expr5) (l : Link5) → m ≤ 1 → Good y → sites_at (out-Expr5 y) ≤ m → Access l → Far lawful.Property m ks (n.chained y l)
access_far m ks y l u h k a =
    let z = a.sites in
    record { good = chained_good y l h a.good (omega arith); top = chained_top y l m ks (omega arith); access = λ i. chained_target y l a.is }

called_far : (m : ℕ) (ks : List (List ℕ)) (y : Expr5) (ys : List Expr5) (site : Option Site) → m + site_count site ≤ 1 → Callee m y → Goods ys → Far lawful.Plain (m + site_count site) ks (n.called y ys site)
called_far m ks y ys site u h g =
    let l = link.Call nowhere ys site in let z = call_sites ys site in let k = h.sites in
    record { good = chained_good y l h.good (call_link ys site g) (omega arith); top = chained_top y l (m + site_count site) ks (omega arith); access = λ i. absurd (false≢true i) }

by_name_far : (m : ℕ) (ks : List (List ℕ)) (t : List ℕ) (ys : List Expr5) (site : Option Site) → GoodName t → Goods ys → Far lawful.Plain (m + site_count site) ks (n.called_by t ys site)
by_name_far m ks t ys site h g = record { good = called_by_good t ys site h.is (not_eval t h.free) g; top = called_by_top t ys site (m + site_count site) ks (omega arith); access = λ i. absurd (false≢true i) }

-- ## Elements and properties

element_by : (y z : Expr5) (o : Open Expr5-F) → Out o → Good y → Good z → Plain (x.element_layer y z o)
element_by y z (layer.ArrayList span es) u h k = elements_plain span es z u k
element_by y z o u h k = helped_plain primitive.SpreadList (y ∷ z ∷ n.integer 0 ∷ []) (h, (k, ((integer_plain 0 refl).good, tt)))

element_plain : (y z : Expr5) → Good y → Good z → Plain (x.with_element y z)
unfolding x.with_element
element_plain y z h k = element_by y z (out-Expr5 y) (good_out y h) h k

flag_good : (t : Bool) → Good (x.flag t)
flag_good t = (literal_plain _ refl).good

property_by : (m : ℕ) (ks : List (List ℕ)) (y : Expr5) (k : Key) (z : Expr5) (o : Open Expr5-F) → Out o → Good y → ((j : List ℕ) → is_one_of j ks ≡ false → is_one_of j (keys_at o) ≡ false) → lawful.key_lawful k ≡ true → w.key_fits k ≡ true → is_one_of (e.key_text (key_name k)) ks ≡ false → Good z
    → Far lawful.Plain m (e.key_text (key_name k) ∷ ks) (x.property_layer y k z o)
property_by m ks y k z (layer.ObjectList span ps) u h t i f j g = record {
  good = properties_good span ps (key_name k) z u (t (e.key_text (key_name k)) j) (key_is k i f) g;
  top = properties_top span ps (key_name k) z m ks t;
  access = λ a. absurd (false≢true a);
}
property_by m ks y k z o u h t i f j g = plain_far lawful.Plain m (e.key_text (key_name k) ∷ ks) _ refl (helped_plain primitive.MethodPut (y ∷ key_value k ∷ z ∷ x.flag false ∷ []) (h, (key_good k i f, (g, (flag_good false, tt)))))

property_far : (m : ℕ) (ks : List (List ℕ)) (y : Expr5) (k : Key) (z : Expr5) → Good y → Top m ks y → lawful.key_lawful k ≡ true → w.key_fits k ≡ true → is_one_of (e.key_text (key_name k)) ks ≡ false → Good z
    → Far lawful.Plain m (e.key_text (key_name k) ∷ ks) (x.with_property y k z)
unfolding x.with_property
property_far m ks y k z h t i f j g = property_by m ks y k z (out-Expr5 y) (good_out y h) h t.keys i f j g

accessor_plain : (y : Expr5) (k : Key) (z : Expr5) (t : Bool) → Good y → lawful.key_lawful k ≡ true → w.key_fits k ≡ true → Good z → Plain (n.applied (helper_name primitive.AccessorPut) (y ∷ key_value k ∷ z ∷ x.flag t ∷ []))
accessor_plain y k z t h i f g = helped_plain primitive.AccessorPut (y ∷ key_value k ∷ z ∷ x.flag t ∷ []) (h, (key_good k i f, (g, (flag_good t, tt))))

-- ## Operations

pub more_sites : (at : lawful.Current) (m i : ℕ) (ks : List (List ℕ)) (y : Expr5) → Far at m ks y → Far at (m + i) ks y
more_sites at m i ks y h = record { good = h.good; top = record { sites = let a = h.top.sites in omega arith; keys = h.top.keys }; access = h.access }

-- what is kept as it is, and is no reference any more
pub kept_far : (at : lawful.Current) (m : ℕ) (ks : List (List ℕ)) (y : Expr5) → Far at m ks y → Far lawful.Plain m ks y
kept_far at m ks y h = record { good = h.good; top = h.top; access = λ a. absurd (false≢true a) }

unary_by : (o : Unary) (y : Expr5) → Good y → Plain (expr.Unary nowhere (x.unary_operator o) y)
unfolding x.unary_operator
unary_by unary.Void y h = unary_plain _ y h refl
unary_by unary.Typeof y h = unary_plain _ y h refl
unary_by unary.Plus y h = unary_plain _ y h refl
unary_by unary.Minus y h = unary_plain _ y h refl
unary_by unary.BitNot y h = unary_plain _ y h refl
unary_by unary.Not y h = unary_plain _ y h refl

delete_plain : (y : Expr5) → Good y → (expr_found y).target ≡ PropertyTarget → Plain (expr.Unary nowhere unary5.Delete y)
delete_plain y h k = unary_plain unary5.Delete y h (ap (λ t. e.deleted unary5.Delete t 0) k)

content_far : (m : ℕ) (ks : List (List ℕ)) (y : Expr5) → m ≤ 1 → Good y → sites_at (out-Expr5 y) ≤ m → Far lawful.Property m ks (x.content y)
content_far m ks y u h k = access_far m ks y (link.Member nowhere q.cell_key) u h k (member_access q.cell_key refl)

new_key : (j : List ℕ) (ks : List (List ℕ)) → w.is_new ks (Some j) ≡ true → is_one_of j ks ≡ false
new_key j ks h = unnot (is_one_of j ks) h
  where
    unnot : (c : Bool) → not c ≡ true → c ≡ false
    unnot true h = sym h
    unnot false h = refl

abbrev Behind : CoreOp → List Expr5 → Option Site → Current → Scene → Round → lawful.Current → ℕ → List (List ℕ) → Type 0
Behind o parts site c s round at m ks =
    Done round.names round.hosts (lawful.gives o) (m + site_count site) (w.with_key ks (w.defined o)) (x.op_emitted o parts site c s)

shown_done : (names hosts : ℕ) (at : lawful.Current) (m : ℕ) (ks : List (List ℕ)) (y : Expr5) (s : Scene) → Far at m ks y → Ready names hosts s → Done names hosts at m ks (gives (q.shown y) s)
shown_done names hosts at m ks y s h r = record { far = h; ready = r }

pub op_done : (o : CoreOp) (parts : List Expr5) (site : Option Site) (c : Current) (s : Scene) (round : Round) (at : lawful.Current) (m : ℕ) (ks : List (List ℕ))
    → lawful.may_stand_behind at o ≡ true → lawful.op_lawful o round ≡ true → w.op_fits o ≡ true → w.is_new ks (w.defined o) ≡ true → m + site_count site ≤ 1 → Goods parts → Ready round.names round.hosts s → Far at m ks c.value
    → Behind o parts site c s round at m ks
unfolding x.op_emitted x.call_emitted x.alone_emitted x.part_emitted
op_done (op.Member k) parts site c s round at m ks b l f i u g r h = shown_done _ _ lawful.Property _ ks _ s (more_sites _ m _ ks _ (access_far m ks c.value (keyed k) (omega arith) h.good h.top.sites (key_access k l f))) r
op_done op.Index parts site c s round at m ks b l f i u g r h = shown_done _ _ lawful.Property _ ks _ s (more_sites _ m _ ks _ (access_far m ks c.value (link.Index nowhere (x.first parts)) (omega arith) h.good h.top.sites (index_access _ (first_good parts g)))) r
op_done op.Call parts site c s round at m ks b l f i u g r h = shown_done _ _ lawful.Plain _ ks _ s (called_far m ks (x.callee c) parts site u (callee_by m c.hidden c.value h.good h.top.sites) g) r
op_done op.CallList parts site c s round at m ks b l f i u g r h = shown_done _ _ lawful.Plain _ ks _ s (by_name_far m ks q.apply_name (c.value ∷ n.nothing ∷ parts) site apply_good (h.good, (nothing_plain.good, g))) r
op_done op.CallWith parts site c s round at m ks b l f i u g r h = shown_done _ _ lawful.Plain _ ks _ s (by_name_far m ks q.call_name (c.value ∷ parts) site call_good (h.good, g)) r
op_done op.CallListWith parts site c s round at m ks b l f i u g r h = shown_done _ _ lawful.Plain _ ks _ s (by_name_far m ks q.apply_name (c.value ∷ parts) site apply_good (h.good, g)) r
op_done op.New parts site c s round at m ks b l f i u g r h = shown_done _ _ lawful.Plain _ ks _ s (plain_far lawful.Plain _ ks _ refl (new_plain c.value parts h.good g)) r
op_done op.NewList parts site c s round at m ks b l f i u g r h = shown_done _ _ lawful.Plain _ ks _ s (plain_far lawful.Plain _ ks _ refl (helped_plain primitive.Construct (c.value ∷ parts) (h.good, g))) r
op_done op.Put parts site c s round at m ks b l f i u g r h = shown_done _ _ lawful.Plain _ ks _ s (plain_far lawful.Plain _ ks _ refl (assigned_plain _ c.value _ h.good (first_good parts g) (property_target c.value (h.access b)))) r
op_done op.Delete parts site c s round at m ks b l f i u g r h = shown_done _ _ lawful.Plain _ ks _ s (plain_far lawful.Plain _ ks _ refl (delete_plain c.value h.good (h.access b))) r
op_done (op.Update a) parts site c s round at m ks b l f i u g r h = shown_done _ _ lawful.Plain _ ks _ s (plain_far lawful.Plain _ ks _ refl (assigned_plain (x.assign_operator a) c.value _ h.good (first_good parts g) (property_target c.value (h.access b)))) r
op_done (op.Step a) parts site c s round at m ks b l f i u g r h = shown_done _ _ lawful.Plain _ ks _ s (plain_far lawful.Plain _ ks _ refl (update_plain (x.update_operator a) c.value h.good (property_target c.value (h.access b)))) r
op_done (op.Operator a) parts site c s round at m ks b l f i u g r h = shown_done _ _ lawful.Plain _ ks _ s (plain_far lawful.Plain _ ks _ refl (operated_plain c.value (x.binary_operator a) _ h.good (first_good parts g))) r
op_done (op.Unary a) parts site c s round at m ks b l f i u g r h = shown_done _ _ lawful.Plain _ ks _ s (plain_far lawful.Plain _ ks _ refl (unary_by a c.value h.good)) r
op_done op.Then parts site c s round at m ks b l f i u g r h = shown_done _ _ lawful.Plain _ ks _ s (plain_far lawful.Plain _ ks _ refl (then_plain c.value _ h.good (first_good parts g))) r
op_done (op.Set v) parts site c s round at m ks b l f i u g r h = shown_done _ _ lawful.Plain _ ks _ s (plain_far lawful.Plain _ ks _ refl (stored_plain (name_of s v) c.value (r.names v.0 (ltb-true v.0 round.names l)) h.good)) r
op_done (op.Init v) parts site c s round at m ks b l f i u g r h = shown_done _ _ lawful.Plain _ ks _ s (plain_far lawful.Plain _ ks _ refl (stored_plain (name_of s v) c.value (r.names v.0 (ltb-true v.0 round.names l)) h.good)) r
op_done (op.StepVariable a v) parts site c s round at m ks b l f i u g r h = absurd (false≢true l)
op_done op.Element parts site c s round at m ks b l f i u g r h = shown_done _ _ lawful.Plain _ ks _ s (plain_far lawful.Plain _ ks _ refl (element_plain c.value _ h.good (first_good parts g))) r
op_done op.Hole parts site c s round at m ks b l f i u g r h = shown_done _ _ lawful.Plain _ ks _ s (plain_far lawful.Plain _ ks _ refl (helped_plain primitive.SpreadList (c.value ∷ n.nothing ∷ n.integer 2 ∷ []) (h.good, (nothing_plain.good, ((integer_plain 2 refl).good, tt))))) r
op_done (op.Define k) parts site c s round at m ks b l f i u g r h = shown_done _ _ lawful.Plain _ (e.key_text (key_name k) ∷ ks) _ s (more_sites _ m _ _ _ (property_far m ks c.value k _ h.good h.top l f (new_key _ ks i) (first_good parts g))) r
op_done (op.Getter k) parts site c s round at m ks b l f i u g r h = shown_done _ _ lawful.Plain _ ks _ s (plain_far lawful.Plain _ ks _ refl (accessor_plain c.value k _ false h.good l f (first_good parts g))) r
op_done (op.Setter k) parts site c s round at m ks b l f i u g r h = shown_done _ _ lawful.Plain _ ks _ s (plain_far lawful.Plain _ ks _ refl (accessor_plain c.value k _ true h.good l f (first_good parts g))) r
op_done op.Content parts site c s round at m ks b l f i u g r h = record { far = kept_far _ _ ks _ (more_sites _ m _ ks _ (content_far m ks c.value (omega arith) h.good h.top.sites)); ready = r }
op_done op.SetContent parts site c s round at m ks b l f i u g r h =
    let d = content_far m ks c.value (omega arith) h.good h.top.sites in
    shown_done _ _ lawful.Plain _ ks _ s (plain_far lawful.Plain _ ks _ refl (assigned_plain _ (x.content c.value) _ d.good (first_good parts g) (property_target (x.content c.value) (d.access refl)))) r
op_done (op.Primitive a) parts site c s round at m ks b l f i u g r h = done_by _ _ lawful.Plain _ ks _ refl (primitive_done _ _ a (c.value ∷ parts) s (h.good, g) r)
op_done op.Yield parts site c s round at m ks b l f i u g r h = record { far = kept_far _ _ ks _ (more_sites _ m _ ks _ h); ready = r }
op_done op.Delegate parts site c s round at m ks b l f i u g r h = record { far = kept_far _ _ ks _ (more_sites _ m _ ks _ h); ready = r }

-- ## `&&`, `||` and `? :`

pub lazy_far : (o : When) (y : Expr5) (other : Option Expr5) (c : Current) (m : ℕ) (ks : List (List ℕ)) → Good c.value → Good y → Good (q.or_nothing other) → Far lawful.Plain m ks (x.lazy_emitted o y other c).value
unfolding x.lazy_emitted
lazy_far when.Truthy y other c m ks h k l = plain_far lawful.Plain m ks _ refl (operated_plain c.value _ y h k)
lazy_far when.Falsy y other c m ks h k l = plain_far lawful.Plain m ks _ refl (operated_plain c.value _ y h k)
lazy_far when.Choice y other c m ks h k l = plain_far lawful.Plain m ks _ refl (conditional_plain c.value y _ h k l)
