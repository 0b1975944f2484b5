-- What is emitted of primitives, heads and operations, in a scene whose names, hosts and closures are good.
use Rattle.std.specs.Str.{bytes_eq}
use Rattle.std.proofs.Common.{◌≡◌, ℕ, ◌<◌, zero, suc, Bool, true, false, cond, nat_lt, codes, List, [], ◌∷◌, ◌++◌, Option, None, Some, refl, sym, arith, ◌∙◌}
use Rattle.std.proofs.lemmas.Bool.{false≢true, ltb-true, lt-ltb}
use Rattle.core_ast.specs.declared.parts.Constant.{Constant}
use Rattle.core_ast.specs.declared.parts.Constant.TheVariants as constant
use Rattle.core_ast.specs.declared.parts.Global.{Global}
use Rattle.core_ast.specs.declared.parts.Global.TheVariants as global
use Rattle.core_ast.specs.declared.parts.Key.{Key}
use Rattle.core_ast.specs.declared.parts.Key.TheVariants as key
use Rattle.core_ast.specs.declared.parts.CoreHead.{CoreHead}
use Rattle.core_ast.specs.declared.parts.CoreHead.TheVariants as head
use Rattle.core_ast.specs.declared.parts.Primitive.{Primitive}
use Rattle.core_ast.specs.declared.parts.Primitive.TheVariants as primitive
use Rattle.core_ast.specs.Lawful as lawful
use Rattle.core_ast.specs.Lawful.{Round}
use Rattle.es5_ast.specs.declared.operators.Key5.TheVariants as key5
use Rattle.es5_ast.specs.declared.tree.Expr5.{Expr5}
use Rattle.es5_ast.specs.declared.tree.Link5.TheVariants as link
use Rattle.es5_ast.specs.Lexical as lexical
use Rattle.es5_ast.specs.Lexical.{is_identifier_name, is_one_of}
use Rattle.es5_ast.specs.Early.{PropertyTarget}
use Rattle.es5_printable.specs.Printable as p
use Rattle.es5_printable.specs.Printable.{expr_fit, link_fit}
use Rattle.emission_rules.specs.declared.scene.Closure.{Closure}
use Rattle.emission_rules.specs.declared.scene.Current.{Current}
use Rattle.emission_rules.specs.declared.scene.Scene.{Scene}
use Rattle.emission_rules.specs.declared.scene.Uses.{Uses}
use Rattle.emission_rules.specs.Nodes as n
use Rattle.emission_rules.specs.Nodes.{is_ascii, key_name, key_value, keyed, nowhere, word_units}
use Rattle.emission_rules.specs.Primitives as q
use Rattle.emission_rules.specs.Primitives.{helper_name}
use Rattle.emission_rules.specs.Expressions as x
use Rattle.emission_rules.specs.Scenes.{Made, asking, name_of, text_at}
use Rattle.emission_rules.specs.Slots.{left, taken}
use Rattle.emission_laws.specs.Laws.{names_differ}
use Rattle.emission_laws.specs.Writable as w
use Rattle.pass_rules.proofs.pass_laws.Within as b
use Rattle.pass_rules.proofs.pass_laws.Within.{both, either}
use Rattle.emission_laws.proofs.Layers.{expr_found}
use Rattle.emission_laws.proofs.Good.{Good, Goods, GoodName, GoodNames, Top, Plain, Access, named_plain, name_plain, literal_plain, integer_plain, text_plain, nothing_plain, this_plain, empty_array_plain, empty_object_plain, member_access, index_access, chained_good, chained_top, applied_plain}
use Rattle.emission_laws.proofs.Operators.{stored_plain}

-- ## Scenes

abbrev pub SlotReady : Option Closure → Type 0
SlotReady None = Unit {0}
SlotReady (Some c) = Plain c.value

abbrev pub SlotsReady : List (Option Closure) → Type 0
SlotsReady [] = Unit {0}
SlotsReady (o ∷ os) = SlotReady o × SlotsReady os

abbrev pub StepReady : Option Expr5 → Type 0
StepReady None = Unit {0}
StepReady (Some y) = Good y

-- hosts whose names are good and differ
pub record HostsApart (ts : List (List ℕ)) : Type 0 where
  pub good : GoodNames ts
  pub differ : names_differ ts ≡ true

pub record Ready (drawn given : ℕ) (s : Scene) : Type 0 where
  pub names : (i : ℕ) → i < drawn → GoodName (text_at s.names i)
  pub hosts : (i : ℕ) → i < given → GoodName (text_at s.hosts i)
  pub slots : SlotsReady s.functions
  pub step : StepReady s.step
  pub all : HostsApart s.hosts
  pub differ : (i j : ℕ) → i < drawn → j < drawn → text_at s.names i ≡ text_at s.names j → i ≡ j

pub slot_ready : (os : List (Option Closure)) (i : ℕ) → SlotsReady os → SlotReady (taken os i)
slot_ready [] i h = tt
slot_ready (o ∷ os) zero h = h.0
slot_ready (o ∷ os) (suc i) h = slot_ready os i h.1

pub left_ready : (os : List (Option Closure)) (i : ℕ) → SlotsReady os → SlotsReady (left os i)
left_ready [] i h = tt
left_ready (o ∷ os) zero h = (tt, h.1)
left_ready (o ∷ os) (suc i) h = (h.0, left_ready os i h.1)

pub slots_more : (os : List (Option Closure)) (o : Option Closure) → SlotsReady os → SlotReady o → SlotsReady (os ++ o ∷ [])
slots_more [] o h k = (k, tt)
slots_more (a ∷ os) o h k = (h.0, slots_more os o h.1 k)

-- ## Primitives

pub record Named (t : List ℕ) : Type 0 where
  pub is : p.is_name t ≡ true
  pub free : bytes_eq t (codes "eval") ≡ false

helper_named : (a : Primitive) → Named (helper_name a)
unfolding helper_name lexical.reserved_words
helper_named primitive.CheckReady = record { is = refl; free = refl }
helper_named primitive.RefuseConst = record { is = refl; free = refl }
helper_named (primitive.CellMake v) = record { is = refl; free = refl }
helper_named primitive.ToText = record { is = refl; free = refl }
helper_named primitive.IterStart = record { is = refl; free = refl }
helper_named primitive.IterStep = record { is = refl; free = refl }
helper_named primitive.IterValue = record { is = refl; free = refl }
helper_named primitive.IterClose = record { is = refl; free = refl }
helper_named primitive.RestList = record { is = refl; free = refl }
helper_named primitive.SpreadList = record { is = refl; free = refl }
helper_named primitive.Construct = record { is = refl; free = refl }
helper_named primitive.NamespaceMake = record { is = refl; free = refl }
helper_named primitive.ClassMake = record { is = refl; free = refl }
helper_named primitive.ClassGuard = record { is = refl; free = refl }
helper_named primitive.NewTarget = record { is = refl; free = refl }
helper_named primitive.SuperConstruct = record { is = refl; free = refl }
helper_named primitive.ThisBind = record { is = refl; free = refl }
helper_named primitive.SuperGet = record { is = refl; free = refl }
helper_named primitive.MethodPut = record { is = refl; free = refl }
helper_named primitive.AccessorPut = record { is = refl; free = refl }
helper_named primitive.ArgumentsPut = record { is = refl; free = refl }
helper_named primitive.GeneratorMake = record { is = refl; free = refl }
helper_named primitive.GeneratorResume = record { is = refl; free = refl }
helper_named primitive.DelegateStep = record { is = refl; free = refl }
helper_named primitive.Power = record { is = refl; free = refl }
helper_named primitive.TemplateObject = record { is = refl; free = refl }
helper_named primitive.IncludesPut = record { is = refl; free = refl }

pub helped_plain : (a : Primitive) (ys : List Expr5) → Goods ys → Plain (n.applied (helper_name a) ys)
helped_plain a ys h = applied_plain (helper_name a) ys (helper_named a).is (helper_named a).free h

pub frame_good : GoodName q.frame_name
unfolding lexical.reserved_words
frame_good = record { is = refl; free = refl }

pub callee_good : GoodName q.callee_name
unfolding lexical.reserved_words
callee_good = record { is = refl; free = refl }

pub passed_good : GoodName q.passed_name
unfolding lexical.reserved_words
passed_good = record { is = refl; free = refl }

pub empty_good : GoodName q.empty_name
unfolding lexical.reserved_words
empty_good = record { is = refl; free = refl }

pub call_good : GoodName q.call_name
unfolding lexical.reserved_words
call_good = record { is = refl; free = refl }

pub apply_good : GoodName q.apply_name
unfolding lexical.reserved_words
apply_good = record { is = refl; free = refl }

-- `arguments` is read, and never bound or written
pub arguments_plain : Plain (n.name q.arguments_name)
unfolding lexical.reserved_words
arguments_plain = name_plain q.arguments_name refl refl

given_plain : (s : Scene) → Plain (n.name (q.arguments_given s))
given_plain s = either (λ t. Plain (n.name t)) s.keeps (named_plain q.passed_name passed_good) arguments_plain

pub member_plain : (y : Expr5) (t : List ℕ) → Plain y → is_identifier_name t ≡ true → Plain (n.member y t)
member_plain y t h k =
    let a = member_access t k in let u = a.sites in let v = (h.top 0 []).sites in
    record { good = chained_good y (link.Member nowhere t) h.good a.good (omega arith); top = λ i ks. chained_top y (link.Member nowhere t) i ks (omega arith) }

framed_plain : (t : List ℕ) → is_identifier_name t ≡ true → Plain (q.framed t).value
framed_plain t h = member_plain (n.name q.frame_name) t (named_plain q.frame_name frame_good) h

pub record Emitted (names hosts : ℕ) (m : Made Current) : Type 0 where
  pub plain : Plain m.value.value
  pub ready : Ready names hosts m.scene

asked_ready : (names hosts : ℕ) (u : Uses) (s : Scene) → Ready names hosts s → Ready names hosts (asking u s)
asked_ready names hosts u s h = record { names = h.names; hosts = h.hosts; slots = h.slots; step = h.step; differ = h.differ; all = h.all }

step_good : (o : Option Expr5) → StepReady o → Good (q.or_nothing o)
step_good None h = nothing_plain.good
step_good (Some y) h = h

pub option_good : (o : Option Expr5) → StepReady o → Good (q.or_nothing o)
option_good = step_good

pub primitive_done : (names hosts : ℕ) (a : Primitive) (ys : List Expr5) (s : Scene) → Goods ys → Ready names hosts s → Emitted names hosts (q.primitive_emitted a ys s)
unfolding q.primitive_emitted
primitive_done names hosts primitive.ClassGuard ys s g h = record {
  plain = stored_plain q.frame_name _ frame_good (helped_plain primitive.ClassGuard (n.name q.callee_name ∷ ys) ((named_plain q.callee_name callee_good).good, g)).good;
  ready = asked_ready names hosts _ s h;
}
primitive_done names hosts primitive.NewTarget ys s g h = record { plain = framed_plain q.target_key refl; ready = asked_ready names hosts _ s h }
primitive_done names hosts primitive.SuperConstruct ys s g h = record { plain = helped_plain primitive.SuperConstruct (n.name q.frame_name ∷ ys) ((named_plain q.frame_name frame_good).good, g); ready = asked_ready names hosts _ s h }
primitive_done names hosts primitive.ThisBind ys s g h = record { plain = helped_plain primitive.ThisBind (n.name q.frame_name ∷ ys) ((named_plain q.frame_name frame_good).good, g); ready = asked_ready names hosts _ s h }
primitive_done names hosts primitive.SuperGet ys s g h = record { plain = helped_plain primitive.SuperGet (n.name q.callee_name ∷ ys) ((named_plain q.callee_name callee_good).good, g); ready = asked_ready names hosts _ s h }
primitive_done names hosts primitive.RestList ys s g h = record { plain = helped_plain primitive.RestList (n.name (q.arguments_given s) ∷ ys) ((given_plain s).good, g); ready = asked_ready names hosts _ s h }
primitive_done names hosts primitive.ArgumentsPut ys s g h = record { plain = helped_plain primitive.ArgumentsPut (n.name q.arguments_name ∷ ys) (arguments_plain.good, g); ready = h }
primitive_done names hosts primitive.GeneratorMake ys s g h = record {
  plain = helped_plain primitive.GeneratorMake (n.name q.callee_name ∷ q.or_nothing s.step ∷ ys) ((named_plain q.callee_name callee_good).good, (step_good s.step h.step, g));
  ready = record { names = h.names; hosts = h.hosts; slots = h.slots; step = tt; differ = h.differ; all = h.all };
}
primitive_done names hosts a ys s g h = record { plain = helped_plain a ys g; ready = h }

-- ## An expression so far: behind what may stand behind this, with at most so many sites and no other keys

pub record Far (at : lawful.Current) (m : ℕ) (ks : List (List ℕ)) (y : Expr5) : Type 0 where
  pub good : Good y
  pub top : Top m ks y
  pub access : lawful.is_property at ≡ true → (expr_found y).target ≡ PropertyTarget

pub record Done (names hosts : ℕ) (at : lawful.Current) (m : ℕ) (ks : List (List ℕ)) (made : Made Current) : Type 0 where
  pub far : Far at m ks made.value.value
  pub ready : Ready names hosts made.scene

pub plain_far : (at : lawful.Current) (m : ℕ) (ks : List (List ℕ)) (y : Expr5) → lawful.is_property at ≡ false → Plain y → Far at m ks y
plain_far at m ks y e h = record { good = h.good; top = h.top m ks; access = λ a. absurd (false≢true (sym e ∙ a)) }

pub done_by : (names hosts : ℕ) (at : lawful.Current) (m : ℕ) (ks : List (List ℕ)) (made : Made Current) → lawful.is_property at ≡ false → Emitted names hosts made → Done names hosts at m ks made
done_by names hosts at m ks made e h = record { far = plain_far at m ks made.value.value e h.plain; ready = h.ready }

-- ## Heads

global_good : (g : Global) → GoodName (x.global_name g)
unfolding x.global_name lexical.reserved_words
global_good global.ObjectGlobal = record { is = refl; free = refl }
global_good global.ArrayGlobal = record { is = refl; free = refl }
global_good global.StringGlobal = record { is = refl; free = refl }
global_good global.ErrorGlobal = record { is = refl; free = refl }
global_good global.TypeErrorGlobal = record { is = refl; free = refl }
global_good global.ReferenceErrorGlobal = record { is = refl; free = refl }
global_good global.RangeErrorGlobal = record { is = refl; free = refl }

constant_plain : (c : Constant) (round : Round) → lawful.head_lawful (head.Constant c) round ≡ true → w.head_fits (head.Constant c) ≡ true → Plain (x.constant_emitted c)
unfolding x.constant_emitted
constant_plain constant.Undefined round h k = nothing_plain
constant_plain constant.Null round h k = literal_plain _ refl
constant_plain (constant.Truth t) round h k = literal_plain _ refl
constant_plain (constant.Integer i) round h k = integer_plain i h
constant_plain (constant.Text us) round h k = text_plain us k

closure_done : (names hosts : ℕ) (o : Option Closure) (s : Scene) → SlotReady o → Ready names hosts s → Emitted names hosts (x.closure_or_nothing o s)
closure_done names hosts None s h k = record { plain = nothing_plain; ready = k }
closure_done names hosts (Some c) s h k = record { plain = h; ready = asked_ready names hosts c.uses s k }

this_done : (names hosts : ℕ) (s : Scene) → Ready names hosts s → Emitted names hosts (x.this_emitted s)
this_done names hosts s h = either (Emitted names hosts) s.framed
    (record { plain = framed_plain q.self_key refl; ready = asked_ready names hosts _ s h }) (record { plain = this_plain; ready = h })

pub head_done : (h : CoreHead) (s : Scene) (round : Round) → lawful.head_lawful h round ≡ true → w.head_fits h ≡ true → Ready round.names round.hosts s → Done round.names round.hosts (lawful.begins h) 0 [] (x.head_emitted h s)
unfolding x.head_emitted
head_done (head.Constant c) s round h k r = done_by _ _ _ 0 [] _ refl (record { plain = constant_plain c round h k; ready = r })
head_done head.Empty s round h k r = done_by _ _ _ 0 [] _ refl (record { plain = named_plain q.empty_name empty_good; ready = r })
head_done (head.Variable v) s round h k r = done_by _ _ _ 0 [] _ refl (record { plain = named_plain (name_of s v) (r.names v.0 (ltb-true v.0 round.names h)); ready = r })
head_done (head.TypeOf v) s round h k r = absurd (false≢true h)
head_done (head.Global g) s round h k r = done_by _ _ _ 0 [] _ refl (record { plain = named_plain (x.global_name g) (global_good g); ready = r })
head_done (head.Host i) s round h k r = done_by _ _ _ 0 [] _ refl (record { plain = named_plain (text_at s.hosts i) (r.hosts i (ltb-true i round.hosts h)); ready = r })
head_done head.This s round h k r = done_by _ _ _ 0 [] _ refl (this_done _ _ s r)
head_done head.ArrayList s round h k r = done_by _ _ _ 0 [] _ refl (record { plain = empty_array_plain; ready = r })
head_done head.ObjectList s round h k r = done_by _ _ _ 0 [] _ refl (record { plain = empty_object_plain; ready = r })
head_done head.ArgumentList s round h k r = done_by _ _ _ 0 [] _ refl (record { plain = empty_array_plain; ready = r })
head_done (head.Function f) s round h k r = done_by _ _ _ 0 [] _ refl (closure_done _ _ (taken s.functions f.0) (record s { functions = left s.functions f.0 }) (slot_ready s.functions f.0 r.slots)
    (record { names = r.names; hosts = r.hosts; slots = left_ready s.functions f.0 r.slots; step = r.step; differ = r.differ; all = r.all }))
head_done (head.Primitive a) s round h k r = done_by _ _ _ 0 [] _ refl (primitive_done _ _ a [] s tt r)
head_done (head.Copy vs) s round h k r = done_by _ _ _ 0 [] _ refl (record { plain = nothing_plain; ready = r })

-- ## Keys

small_units : (us : List ℕ) → is_ascii us ≡ true → p.are_units us ≡ true
small_units [] h = refl
small_units (u ∷ us) h = both (small u (b.left _ _ h)) (small_units us (b.right _ _ h))
  where
    small : (u : ℕ) → nat_lt u 128 ≡ true → nat_lt u 65536 ≡ true
    small u h = let a = ltb-true u 128 h in lt-ltb u 65536 (omega arith)

word_access : (t : List ℕ) → cond (is_ascii t) (is_identifier_name t) (w.are_units (word_units t)) ≡ true → Access (cond (is_ascii t) (link.Member nowhere t) (link.Index nowhere (n.text (word_units t))))
word_access t h = word_by (is_ascii t) h
  where
    word_by : (c : Bool) → cond c (is_identifier_name t) (w.are_units (word_units t)) ≡ true → Access (cond c (link.Member nowhere t) (link.Index nowhere (n.text (word_units t))))
    word_by true h = member_access t h
    word_by false h = index_access _ (text_plain (word_units t) h).good

pub key_access : (k : Key) → lawful.key_lawful k ≡ true → w.key_fits k ≡ true → Access (keyed k)
unfolding keyed
key_access (key.WordKey t) h f = word_access t f
key_access (key.TextKey us) h f = index_access _ (text_plain us f).good
key_access (key.IntegerKey i) h f = index_access _ (integer_plain i h).good

word_text : (t : List ℕ) (c : Bool) → is_ascii t ≡ c → cond c (is_identifier_name t) (w.are_units (word_units t)) ≡ true → p.are_units (cond c t (word_units t)) ≡ true
word_text t true i h = small_units t i
word_text t false i h = h

pub key_good : (k : Key) → lawful.key_lawful k ≡ true → w.key_fits k ≡ true → Good (key_value k)
unfolding key_value
key_good (key.WordKey t) h f = (text_plain _ (word_text t (is_ascii t) refl f)).good
key_good (key.TextKey us) h f = (text_plain us f).good
key_good (key.IntegerKey i) h f = (integer_plain i h).good

word_key : (t : List ℕ) (c : Bool) → cond c (is_identifier_name t) (w.are_units (word_units t)) ≡ true → p.is_key (cond c (key5.WordKey t) (key5.TextKey (word_units t))) ≡ true
word_key t true h = h
word_key t false h = h

pub key_is : (k : Key) → lawful.key_lawful k ≡ true → w.key_fits k ≡ true → p.is_key (key_name k) ≡ true
unfolding key_name
key_is (key.WordKey t) h f = word_key t (is_ascii t) f
key_is (key.TextKey us) h f = f
key_is (key.IntegerKey i) h f = h
