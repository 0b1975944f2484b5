-- What is asked of names on the way.
use Rattle.std.specs.Prelude.{ℕ, Bool, true, false, cond, nat_eq, List, [], ◌∷◌, map, Option, Some, None}
use Rattle.std.specs.Char.Escape.{encode_utf16}
use Rattle.std.specs.List.{filter, filter_map, flat_map, list_any}
use Rattle.std.specs.Str.{bytes_eq, chars}
use Rattle.es_outside.specs.declared.events.Site.{Site}
use Rattle.es6_ast.specs.declared.tree.Identifier.{Identifier}
use Rattle.core_ast.specs.declared.parts.ScopedName.{ScopedName}
use Rattle.core_ast.specs.declared.parts.Var.{Var}
use Rattle.lowering_rules.specs.declared.functions.BodyVar.{BodyVar}
use Rattle.lowering_rules.specs.declared.reference_rules.references.Reached.{Reached}
use Rattle.lowering_rules.specs.declared.patterns.VariableTarget.{VariableTarget}
use Rattle.lowering_rules.specs.reference_rules.References as references
use Rattle.module_lowering.specs.declared.context.Context.{Context}
use Rattle.module_lowering.specs.Bindings.{Bindings, declared_var, declares_first, finds_arguments, finds_none, found, name_value, scoped_name, target_of}
use Rattle.module_lowering.specs.Lowering.{Lowering, marking, sees_arguments, ◌>>=◌}
use Rattle.module_lowering.specs.Nodes.{Hoisted}

-- the text of a name (11.8.4.1)
abbrev pub units_of : List ℕ → List ℕ
units_of name = flat_map encode_utf16 (chars name)

abbrev pub places : List Identifier → List ℕ
places xs = map (λ x. x.span.begin) xs

-- ---- references

-- a function in which its arguments object is met has one
abbrev pub name_lowered : Identifier → Lowering Reached
name_lowered x bindings context state = (
  references.found (name_value bindings context x.span.begin x.name),
  marking (finds_arguments (found bindings context x.span.begin)) sees_arguments state,
)

-- a name that a pattern writes
abbrev pub name_target : Identifier → Lowering VariableTarget
name_target x bindings context state = (target_of (name_value bindings context x.span.begin x.name), state)

-- the place of a call or of `new`, unless its chain has one already
abbrev pub site_at : Bool → ℕ → Context → Option Site
site_at true at context = None
site_at false at context = Some (record { «module» = context.home; at = at })

abbrev pub site : Bool → ℕ → Lowering (Option Site)
site sited at bindings context state = (site_at sited at context, state)

-- whether the name at a place is one that no scope declares
abbrev pub is_global : ℕ → Lowering Bool
is_global at bindings context state = (finds_none (found bindings context at), state)

-- ---- declarations

abbrev pub declared_at : ℕ → Lowering Var
declared_at at bindings context state = (declared_var bindings context at, state)

abbrev pub vars_at : List ℕ → Bindings → Context → List Var
vars_at ats b c = map (declared_var b c) ats

-- those that no declaration before declares in the same scope
abbrev pub first_vars : List ℕ → Bindings → Context → List Var
first_vars ats b c = vars_at (filter (declares_first b c) ats) b c

abbrev pub scoped_names : List ℕ → Bindings → Context → List ScopedName
scoped_names ats b c = map (scoped_name b c) ats

-- of the functions that a body declares under one name the last one counts (9.2.12, step 10)
abbrev pub is_declared_by : Bindings → Context → ℕ → Hoisted → Bool
is_declared_by b c at h = nat_eq (declared_var b c h.at).0 (declared_var b c at).0

abbrev pub last_ones : Bindings → Context → List Hoisted → List Hoisted
last_ones b c [] = []
last_ones b c (h ∷ hs) = cond (list_any (is_declared_by b c h.at) hs) (last_ones b c hs) (h ∷ last_ones b c hs)

-- ---- variables of a body that are named as parameters, where these are names of another scope (9.2.12, step 28)

abbrev pub parameter_named : List ℕ → List Identifier → Option Identifier
parameter_named name [] = None
parameter_named name (p ∷ ps) = cond (bytes_eq p.name name) (Some p) (parameter_named name ps)

abbrev pub body_var_of : Bindings → Context → ℕ → Option Identifier → Option BodyVar
body_var_of b c at None = None
body_var_of b c at (Some p) = Some (record { var = declared_var b c at; parameter = declared_var b c p.span.begin })

abbrev pub body_var : Bindings → Context → List Identifier → Identifier → Option BodyVar
body_var b c parameters x = body_var_of b c x.span.begin (parameter_named x.name parameters)

abbrev pub body_vars : List Identifier → List Identifier → Bindings → Context → List BodyVar
body_vars parameters variables b c =
    filter_map (body_var b c parameters) (filter (λ x. declares_first b c x.span.begin) variables)
