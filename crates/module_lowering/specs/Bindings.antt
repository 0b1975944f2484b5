-- What names stand for in the core.
use Rattle.std.specs.Prelude.{ℕ, ◌+◌, ◌&&◌, Bool, true, false, cond, nat_eq, get_or, not, List, [], ◌∷◌, Option, Some, None}
use Rattle.std.specs.List.{list_any}
use Rattle.std.specs.Str.{bytes_eq}
use Rattle.std.specs.Prelude.{codes}
use Rattle.core_ast.specs.declared.parts.Global.TheVariants.{ArrayGlobal, ErrorGlobal, ObjectGlobal, RangeErrorGlobal, ReferenceErrorGlobal, StringGlobal, TypeErrorGlobal}
use Rattle.core_ast.specs.declared.parts.ScopedName.{ScopedName}
use Rattle.core_ast.specs.declared.parts.Var.{Var}
use Rattle.binding_tables.specs.declared.ids.BindingId.{BindingId}
use Rattle.binding_tables.specs.declared.ids.BindingId.TheVariants.{Global as OutsideScopes, Host, Own}
use Rattle.scope_rules.specs.declared.kinds.Kind.{Kind}
use Rattle.scope_rules.specs.declared.kinds.Kind.TheVariants as kind
use Rattle.scope_rules.specs.declared.scope_tables.binding.Binding.{Binding}
use Rattle.scope_analysis.specs.declared.scopes.Scopes.{Scopes}
use Rattle.scope_analysis.specs.Answers.{declared_ids, is_captured, is_in_loop, is_unsure, own_binding, referred_ids}
use Rattle.lowering_rules.specs.declared.patterns.VariableTarget.{VariableTarget}
use Rattle.lowering_rules.specs.declared.reference_rules.references.NamedValue.{NamedValue}
use Rattle.lowering_rules.specs.declared.reference_rules.references.NamedValue.TheVariants.{GlobalName, HostName, UndefinedName, VariableName}
use Rattle.lowering_rules.specs.reference_rules.References.{plain_target}
use Rattle.module_lowering.specs.declared.context.Context.{Context}
use Rattle.module_lowering.specs.declared.context.Dead.{Dead}
use Rattle.module_lowering.specs.declared.meaning.Meaning.{Meaning}
use Rattle.module_lowering.specs.declared.meaning.Meaning.TheVariants.{Elsewhere, Itself, NamespaceOf, OfHost}

-- the scopes, of each module the variable of its first binding, and of each of these variables what the binding stands for
pub record Bindings : Type 0 where
  pub scopes : Scopes
  pub offsets : List ℕ
  pub meanings : List Meaning

-- ---- bindings and their variables

abbrev pub own_var : Bindings → ℕ → ℕ → Var
own_var b home number = record { 0 = get_or b.offsets home 0 + number }

-- of a binding of a module; no other is declared
abbrev pub id_var : Bindings → BindingId → Var
id_var b (Own home number) = own_var b home number
id_var b (OutsideScopes number) = record { 0 = 0 }
id_var b (Host number) = record { 0 = 0 }

-- the first that there is
abbrev pub first_id : List BindingId → Option BindingId
first_id [] = None
first_id (x ∷ xs) = Some x

abbrev pub last_id : List BindingId → Option BindingId
last_id [] = None
last_id (x ∷ []) = Some x
last_id (x ∷ y ∷ xs) = last_id (y ∷ xs)

abbrev pub var_of : Bindings → Option BindingId → Var
var_of b None = record { 0 = 0 }
var_of b (Some x) = id_var b x

-- what the name at a place declares: of a class declaration the outer name, which is a binding of its own
abbrev pub declared_var : Bindings → Context → ℕ → Var
declared_var b c at = var_of b (first_id (declared_ids b.scopes c.home at))

-- a name may be declared several times in one scope; it counts where that is done first
abbrev pub is_place_of : ℕ → Option Binding → Bool
is_place_of at None = false
is_place_of at (Some x) = nat_eq x.at at

abbrev pub is_first : Bindings → ℕ → Option BindingId → Bool
is_first b at None = false
is_first b at (Some x) = is_place_of at (own_binding b.scopes x)

abbrev pub declares_first : Bindings → Context → ℕ → Bool
declares_first b c at = is_first b at (first_id (declared_ids b.scopes c.home at))

-- ---- kinds of names (8.1.1.1)

-- a name that refuses to be written
abbrev pub is_constant : Kind → Bool
is_constant kind.Constant = true
is_constant kind.OwnClass = true
is_constant kind.OwnFunction = true
is_constant kind.Import = true
is_constant kind.HostImport = true
is_constant k = false

-- a name that can be uninitialized: everywhere, or where its parameter list or catch parameter is round the reference
abbrev pub can_be_unready : Kind → Bool → Bool
can_be_unready kind.Let in_head = true
can_be_unready kind.Constant in_head = true
can_be_unready kind.Class in_head = true
can_be_unready kind.OwnClass in_head = true
can_be_unready kind.Default in_head = true
can_be_unready kind.Parameter in_head = in_head
can_be_unready kind.Caught in_head = in_head
can_be_unready k in_head = false

abbrev pub is_arguments : Kind → Bool
is_arguments kind.Arguments = true
is_arguments k = false

-- ---- references

abbrev pub is_head : Context → ℕ → Bool
is_head c at = list_any (nat_eq at) c.heads

abbrev pub is_checked : Bindings → Context → ℕ → Binding → Bool
is_checked b c at x = can_be_unready x.kind (is_head c x.at) && is_unsure b.scopes c.home at

-- in the subject of a for-of another variable stands for a name of the head
abbrev pub stand_in : Var → List Dead → Var
stand_in x [] = x
stand_in x (d ∷ ds) = cond (nat_eq d.name.0 x.0) d.stand_in (stand_in x ds)

abbrev pub meaning : Bindings → Var → Meaning
meaning b x = get_or b.meanings x.0 Itself

-- the binding that a reference finds, if it is one of a module
pub record Found : Type 0 where
  pub var : Var
  pub binding : Binding

abbrev pub with_binding : Var → Option Binding → Option Found
with_binding x None = None
with_binding x (Some y) = Some (record { var = x; binding = y })

abbrev pub found_by : Bindings → Option BindingId → Option Found
found_by b (Some (Own home number)) = with_binding (own_var b home number) (own_binding b.scopes (Own home number))
found_by b (Some (OutsideScopes number)) = None
found_by b (Some (Host number)) = None
found_by b None = None

abbrev pub found : Bindings → Context → ℕ → Option Found
found b c at = found_by b (first_id (referred_ids b.scopes c.home at))

-- ---- what a name stands for (12.1.6)

-- a global name of table B; `undefined` is no variable (18.1, 19)
abbrev pub global_among : List ℕ → List (List ℕ × NamedValue) → NamedValue
global_among name [] = UndefinedName
global_among name (g ∷ gs) = cond (bytes_eq g.0 name) g.1 (global_among name gs)

abbrev pub globals : List (List ℕ × NamedValue)
globals =
    (codes "Object", GlobalName ObjectGlobal)
    ∷ (codes "Array", GlobalName ArrayGlobal)
    ∷ (codes "String", GlobalName StringGlobal)
    ∷ (codes "Error", GlobalName ErrorGlobal)
    ∷ (codes "TypeError", GlobalName TypeErrorGlobal)
    ∷ (codes "ReferenceError", GlobalName ReferenceErrorGlobal)
    ∷ (codes "RangeError", GlobalName RangeErrorGlobal)
    ∷ []

-- a variable of another module is constant, and may be uninitialized like one of this module
abbrev pub own_value : Bindings → Context → ℕ → Found → NamedValue
own_value b c at f = VariableName
    (record { var = stand_in f.var c.dead; checked = is_checked b c at f.binding; constant = is_constant f.binding.kind })
    false

abbrev pub imported_value : Var → Bool → NamedValue
imported_value x checked = VariableName (record { var = x; checked = checked; constant = true }) true

abbrev pub found_value : Bindings → Context → ℕ → Found → Meaning → NamedValue
found_value b c at f Itself = own_value b c at f
found_value b c at f (Elsewhere x) = imported_value x (is_unsure b.scopes c.home at)
found_value b c at f (NamespaceOf x) = imported_value x false
found_value b c at f (OfHost host) = HostName host

abbrev pub value_found : Bindings → Context → ℕ → List ℕ → Option Found → NamedValue
value_found b c at name None = global_among name globals
value_found b c at name (Some f) = found_value b c at f (meaning b f.var)

-- what the name at this place stands for
abbrev pub name_value : Bindings → Context → ℕ → List ℕ → NamedValue
name_value b c at name = value_found b c at name (found b c at)

abbrev pub finds_arguments : Option Found → Bool
finds_arguments None = false
finds_arguments (Some f) = is_arguments f.binding.kind

abbrev pub finds_none : Option Found → Bool
finds_none None = true
finds_none (Some f) = false

-- ---- names that patterns write (8.1.1.1.5); each is found

abbrev pub target_of : NamedValue → VariableTarget
target_of (VariableName t imported) = plain_target t imported
target_of UndefinedName = record { var = record { 0 = 0 }; checked = false; constant = true }
target_of (GlobalName g) = record { var = record { 0 = 0 }; checked = false; constant = true }
target_of (HostName host) = record { var = record { 0 = 0 }; checked = false; constant = true }

-- ---- names of scopes

abbrev pub is_mutable : Option Binding → Bool
is_mutable None = true
is_mutable (Some x) = not (is_constant x.kind)

-- shared: closures of several turns of a loop may capture it
abbrev pub scoped_id : Bindings → BindingId → ScopedName
scoped_id b x = record {
  var = id_var b x;
  shared = is_captured b.scopes x && is_in_loop (own_binding b.scopes x);
  mutable = is_mutable (own_binding b.scopes x);
}

abbrev pub scoped_of : Bindings → Option BindingId → ScopedName
scoped_of b None = record { var = record { 0 = 0 }; shared = false; mutable = true }
scoped_of b (Some x) = scoped_id b x

abbrev pub scoped_name : Bindings → Context → ℕ → ScopedName
scoped_name b c at = scoped_of b (first_id (declared_ids b.scopes c.home at))

-- the name that a class has inside itself (14.5.14)
abbrev pub inner_name : Bindings → Context → ℕ → ScopedName
inner_name b c at = scoped_of b (last_id (declared_ids b.scopes c.home at))
