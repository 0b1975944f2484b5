-- What names stand for is lawful, but for hosts, which may be called.
use Rattle.std.specs.List.{list_all}
use Rattle.std.specs.Str.{bytes_eq}
use Rattle.std.proofs.Common.{◌≡◌, ℕ, Bool, true, false, get_or, nat_eq, nat_lt, List, [], ◌∷◌, zero, suc, Option, None, Some, refl, sym, ap, subst}
use Rattle.std.proofs.lemmas.Bool.{false≢true, lt-ltb}
use Rattle.es6_ast.specs.declared.tree.Identifier.{Identifier}
use Rattle.core_ast.specs.declared.parts.Var.{Var}
use Rattle.core_ast.specs.Lawful.{Round, is_drawn, names_drawn}
use Rattle.binding_tables.specs.declared.ids.BindingId.{BindingId}
use Rattle.binding_tables.specs.declared.ids.BindingId.TheVariants.{Global as OutsideScopes, Host, Own}
use Rattle.scope_analysis.specs.Answers.{declared_ids, own_binding, referred_ids}
use Rattle.scope_rules.specs.declared.scope_tables.binding.Binding.{Binding}
use Rattle.lowering_laws.specs.References.{named_lawful}
use Rattle.lowering_laws.proofs.References.{found_are_lawful}
use Rattle.lowering_rules.specs.declared.reference_rules.references.NamedValue.{NamedValue}
use Rattle.lowering_rules.specs.declared.reference_rules.references.NamedValue.TheVariants.{GlobalName, HostName, UndefinedName, VariableName}
use Rattle.lowering_rules.specs.reference_rules.References as references
use Rattle.module_lowering.specs.Bindings.{Bindings, Found, declared_var, finds_arguments, first_id, found, found_by, found_value, global_among, globals, inner_name, last_id, meaning, name_value, own_var, scoped_name, scoped_of, stand_in, target_of, value_found, var_of, with_binding}
use Rattle.module_lowering.specs.Lowering.{marking, sees_arguments}
use Rattle.module_lowering.specs.Names.{declared_at, name_lowered, name_target, scoped_names, vars_at}
use Rattle.module_lowering.specs.declared.context.Context.{Context}
use Rattle.module_lowering.specs.declared.context.Dead.{Dead}
use Rattle.module_lowering.specs.declared.lowerer.Lowerer.{Lowerer}
use Rattle.module_lowering.specs.declared.meaning.Meaning.{Meaning}
use Rattle.module_lowering.specs.declared.meaning.Meaning.TheVariants.{Elsewhere, Itself, NamespaceOf, OfHost}
use Rattle.pass_rules.proofs.pass_laws.Within.{left, right, both, either}
use Rattle.lowered_cores_are_lawful.specs.Conditions.{finds_host, is_host}
use Rattle.lowered_cores_are_lawful.specs.Nodes.{MayBeCalled, ReachedIs, VarIs, a_host, a_value}
use Rattle.lowered_cores_are_lawful.specs.Standing.{BindingsAreDrawn, Made, Makes, dead_drawn, here, ids_drawn, meaning_drawn, size}
use Rattle.lowered_cores_are_lawful.proofs.Making.{stay}

-- ## Variables of bindings

zero_drawn : (b : Bindings) (hosts names : ℕ) → BindingsAreDrawn b hosts names → nat_lt 0 names ≡ true
zero_drawn b hosts names k = lt-ltb 0 names k.some

first_drawn : (b : Bindings) (names : ℕ) (ids : List BindingId) → nat_lt 0 names ≡ true → ids_drawn b names ids ≡ true → nat_lt (var_of b (first_id ids)).0 names ≡ true
first_drawn b names [] z h = z
first_drawn b names (x ∷ ids) z h = left _ _ h

last_drawn : (b : Bindings) (names : ℕ) (ids : List BindingId) → nat_lt 0 names ≡ true → ids_drawn b names ids ≡ true → nat_lt (var_of b (last_id ids)).0 names ≡ true
last_drawn b names [] z h = z
last_drawn b names (x ∷ []) z h = left _ _ h
last_drawn b names (x ∷ y ∷ ids) z h = last_drawn b names (y ∷ ids) z (right _ _ h)

pub declared_drawn : (b : Bindings) (c : Context) (hosts names at : ℕ) → BindingsAreDrawn b hosts names → nat_lt (declared_var b c at).0 names ≡ true
declared_drawn b c hosts names at k = first_drawn b names (declared_ids b.scopes c.home at) (zero_drawn b hosts names k) (k.declared c.home at)

scoped_of_drawn : (b : Bindings) (names : ℕ) (id : Option BindingId) → nat_lt (var_of b id).0 names ≡ true → nat_lt (scoped_of b id).var.0 names ≡ true
scoped_of_drawn b names None h = h
scoped_of_drawn b names (Some x) h = h

pub scoped_drawn : (b : Bindings) (c : Context) (hosts names at : ℕ) → BindingsAreDrawn b hosts names → nat_lt (scoped_name b c at).var.0 names ≡ true
scoped_drawn b c hosts names at k = scoped_of_drawn b names _ (declared_drawn b c hosts names at k)

pub inner_drawn : (b : Bindings) (c : Context) (hosts names at : ℕ) → BindingsAreDrawn b hosts names → nat_lt (inner_name b c at).var.0 names ≡ true
inner_drawn b c hosts names at k = scoped_of_drawn b names (last_id (declared_ids b.scopes c.home at)) (last_drawn b names (declared_ids b.scopes c.home at) (zero_drawn b hosts names k) (k.declared c.home at))

pub scopes_drawn : (b : Bindings) (c : Context) (hosts : ℕ) (ats : List ℕ) (r : Round) → BindingsAreDrawn b hosts r.names → names_drawn (scoped_names ats b c) r ≡ true
scopes_drawn b c hosts [] r k = refl
scopes_drawn b c hosts (at ∷ ats) r k = both (scoped_drawn b c hosts r.names at k) (scopes_drawn b c hosts ats r k)

pub all_vars_drawn : (b : Bindings) (c : Context) (hosts : ℕ) (ats : List ℕ) (r : Round) → BindingsAreDrawn b hosts r.names → list_all (is_drawn r) (vars_at ats b c) ≡ true
all_vars_drawn b c hosts [] r k = refl
all_vars_drawn b c hosts (at ∷ ats) r k = both (declared_drawn b c hosts r.names at k) (all_vars_drawn b c hosts ats r k)

pub declared_is : (b : Bindings) (c : Context) (r : Round) (at : ℕ) → Makes VarIs b c r (declared_at at)
declared_is b c r at s k = stay VarIs b c r s (declared_var b c at) k (declared_drawn b c r.hosts (size s) at k.bindings)

-- ## References

pub meaning_at : (hosts names : ℕ) (ms : List Meaning) (n : ℕ) → list_all (meaning_drawn hosts names) ms ≡ true → meaning_drawn hosts names (get_or ms n Itself) ≡ true
meaning_at hosts names [] n h = refl
meaning_at hosts names (m ∷ ms) zero h = left _ _ h
meaning_at hosts names (m ∷ ms) (suc n) h = meaning_at hosts names ms n (right _ _ h)

stands_in_drawn : (names : ℕ) (x : Var) (ds : List Dead) → nat_lt x.0 names ≡ true → dead_drawn names ds ≡ true → nat_lt (stand_in x ds).0 names ≡ true
stands_in_drawn names x [] h k = h
stands_in_drawn names x (d ∷ ds) h k = either (λ (y : Var). nat_lt y.0 names ≡ true) (nat_eq d.name.0 x.0) (left _ _ k) (stands_in_drawn names x ds h (right _ _ k))

all_named : (r : Round) (name : List ℕ) (gs : List (List ℕ × NamedValue)) → list_all (λ g. named_lawful r g.1) gs ≡ true → named_lawful r (global_among name gs) ≡ true
all_named r name [] h = refl
all_named r name (g ∷ gs) h = either (λ v. named_lawful r v ≡ true) (bytes_eq g.0 name) (left _ _ h) (all_named r name gs (right _ _ h))

-- what is found, among the names so far
abbrev FoundIs : ℕ → Option Found → Type 0
FoundIs names None = Unit {0}
FoundIs names (Some f) = nat_lt f.var.0 names ≡ true

with_binding_is : (names : ℕ) (x : Var) (y : Option Binding) → nat_lt x.0 names ≡ true → FoundIs names (with_binding x y)
with_binding_is names x None h = tt
with_binding_is names x (Some y) h = h

found_by_is : (b : Bindings) (names : ℕ) (ids : List BindingId) → ids_drawn b names ids ≡ true → FoundIs names (found_by b (first_id ids))
found_by_is b names [] h = tt
found_by_is b names (Own home number ∷ ids) h = with_binding_is names (own_var b home number) (own_binding b.scopes (Own home number)) (left _ _ h)
found_by_is b names (OutsideScopes number ∷ ids) h = tt
found_by_is b names (Host number ∷ ids) h = tt

found_is : (b : Bindings) (c : Context) (hosts names at : ℕ) → BindingsAreDrawn b hosts names → FoundIs names (found b c at)
found_is b c hosts names at k = found_by_is b names (referred_ids b.scopes c.home at) (k.referred c.home at)

-- a value, or a host
data NamedIs (r : Round) (v : NamedValue) : Type 0 where
  variable : named_lawful r v ≡ true → NamedIs r v
  hosted : (h : ℕ) → nat_lt h r.hosts ≡ true → v ≡ HostName h → NamedIs r v

value_by : (b : Bindings) (c : Context) (r : Round) (at : ℕ) (f : Found) (m : Meaning) → nat_lt f.var.0 r.names ≡ true → dead_drawn r.names c.dead ≡ true → meaning_drawn r.hosts r.names m ≡ true → NamedIs r (found_value b c at f m)
value_by b c r at f Itself h d k = variable (stands_in_drawn r.names f.var c.dead h d)
value_by b c r at f (Elsewhere x) h d k = variable k
value_by b c r at f (NamespaceOf x) h d k = variable k
value_by b c r at f (OfHost x) h d k = hosted x k refl

plain_by : (b : Bindings) (c : Context) (r : Round) (at : ℕ) (f : Found) (m : Meaning) → is_host m ≡ false → nat_lt f.var.0 r.names ≡ true → dead_drawn r.names c.dead ≡ true → meaning_drawn r.hosts r.names m ≡ true → named_lawful r (found_value b c at f m) ≡ true
plain_by b c r at f Itself e h d k = stands_in_drawn r.names f.var c.dead h d
plain_by b c r at f (Elsewhere x) e h d k = k
plain_by b c r at f (NamespaceOf x) e h d k = k
plain_by b c r at f (OfHost x) e h d k = absurd (false≢true (sym e))

value_is : (b : Bindings) (c : Context) (r : Round) (at : ℕ) (name : List ℕ) (f : Option Found) → FoundIs r.names f → dead_drawn r.names c.dead ≡ true → BindingsAreDrawn b r.hosts r.names → NamedIs r (value_found b c at name f)
value_is b c r at name None h d k = variable (all_named r name globals refl)
value_is b c r at name (Some f) h d k = value_by b c r at f (meaning b f.var) h d (meaning_at r.hosts r.names b.meanings f.var.0 k.meanings)

plain_is : (b : Bindings) (c : Context) (r : Round) (at : ℕ) (name : List ℕ) (f : Option Found) → finds_host b f ≡ false → FoundIs r.names f → dead_drawn r.names c.dead ≡ true → BindingsAreDrawn b r.hosts r.names → named_lawful r (value_found b c at name f) ≡ true
plain_is b c r at name None e h d k = all_named r name globals refl
plain_is b c r at name (Some f) e h d k = plain_by b c r at f (meaning b f.var) e h d (meaning_at r.hosts r.names b.meanings f.var.0 k.meanings)

-- that an arguments object is met changes nothing of this
marked : {A : Type 0} (Q : Round → A → Type 0) (b : Bindings) (c : Context) (r : Round) (s : Lowerer) (x : A) (m : Bool) → Made Q b c r s (x, s) → Made Q b c r s (x, marking m sees_arguments s)
marked Q b c r s x true h = record { names = h.names; functions = h.functions; stands = record { bindings = h.stands.bindings; this = h.stands.this; dead = h.stands.dead; locals = h.stands.locals; functions = h.stands.functions }; lawful = h.lawful }
marked Q b c r s x false h = h

callable : (r : Round) (v : NamedValue) → NamedIs r v → MayBeCalled r (references.found v)
callable r v (variable h) = a_value (found_are_lawful r v h)
callable r v (hosted h k e) = a_host h k (ap references.found e)

pub name_called : (b : Bindings) (c : Context) (r : Round) (x : Identifier) → Makes MayBeCalled b c r (name_lowered x)
name_called b c r x s k =
    let at = x.span.begin in
    marked MayBeCalled b c r s _ (finds_arguments (found b c at)) (stay MayBeCalled b c r s (references.found (name_value b c at x.name)) k
    (callable (here s r) (name_value b c at x.name) (value_is b c (here s r) at x.name (found b c at) (found_is b c r.hosts (size s) at k.bindings) k.dead k.bindings)))

pub name_reached : (b : Bindings) (c : Context) (r : Round) (x : Identifier) → finds_host b (found b c x.span.begin) ≡ false → Makes ReachedIs b c r (name_lowered x)
name_reached b c r x e s k =
    let at = x.span.begin in
    marked ReachedIs b c r s _ (finds_arguments (found b c at)) (stay ReachedIs b c r s (references.found (name_value b c at x.name)) k
    (found_are_lawful (here s r) (name_value b c at x.name) (plain_is b c (here s r) at x.name (found b c at) e (found_is b c r.hosts (size s) at k.bindings) k.dead k.bindings)))

-- ---- names that patterns write

target_drawn : (r : Round) (v : NamedValue) → NamedIs r v → nat_lt 0 r.names ≡ true → nat_lt (target_of v).var.0 r.names ≡ true
target_drawn r v (variable h) z = of_value v h
  where
    of_value : (w : NamedValue) → named_lawful r w ≡ true → nat_lt (target_of w).var.0 r.names ≡ true
    of_value UndefinedName q = z
    of_value (GlobalName g) q = z
    of_value (HostName host) q = z
    of_value (VariableName t imported) q = q
target_drawn r v (hosted h k e) z = subst (λ w. nat_lt (target_of w).var.0 r.names ≡ true) (sym e) z

pub target_is : (b : Bindings) (c : Context) (r : Round) (x : Identifier) → Makes (λ q t. VarIs q t.var) b c r (name_target x)
target_is b c r x s k =
    let at = x.span.begin in
    stay (λ q t. VarIs q t.var) b c r s (target_of (name_value b c at x.name)) k
    (target_drawn (here s r) (name_value b c at x.name) (value_is b c (here s r) at x.name (found b c at) (found_is b c r.hosts (size s) at k.bindings) k.dead k.bindings) (zero_drawn b r.hosts (size s) k.bindings))
