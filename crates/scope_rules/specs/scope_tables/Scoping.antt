-- Which binding each reference of a module finds, by the module's marks in text order (ECMA-262, 6th edition, 8.1.1 and 8.1.2.1).
use Rattle.std.specs.Prelude.{ℕ, ◌+◌, ◌-◌, ◌&&◌, nat_eq, nat_le, Bool, true, false, not, cond, is_some, List, [], ◌∷◌, ◌++◌, length, reverse, take, slice_get, slice_index_or, Option, Some, None}
use Rattle.std.specs.Str.{bytes_eq}
use Rattle.scope_rules.specs.declared.mark.Mark.{Mark}
use Rattle.scope_rules.specs.declared.mark.Mark.TheVariants.{ScopeBegins, ScopeEnds, LoopBegins, LoopEnds, HeadBegins, HeadEnds, Declares, Refers}
use Rattle.scope_rules.specs.declared.kinds.ScopeKind.{ScopeKind}
use Rattle.scope_rules.specs.declared.kinds.ScopeKind.TheVariants as scope
use Rattle.scope_rules.specs.declared.kinds.Kind.{Kind}
use Rattle.scope_rules.specs.declared.kinds.Kind.TheVariants.{Variable, Let, Constant, Class, Parameter, Caught, OwnClass, Import, HostImport}
use Rattle.scope_rules.specs.declared.scope_tables.declarations.Declared.{Declared}
use Rattle.scope_rules.specs.declared.scope_tables.place.Place.{Place}
use Rattle.scope_rules.specs.declared.scope_tables.binding.Binding.{Binding}
use Rattle.scope_rules.specs.declared.scope_tables.reference.Found.{Found}
use Rattle.scope_rules.specs.declared.scope_tables.reference.Reference.{Reference}

-- ---- places

abbrev pub outermost : Place
outermost = record { scope = 0; function = 0; variables = 0; is_cases = false; in_loop = false; in_head = false }

-- in a scope of this number that begins there
abbrev pub entered : ScopeKind → ℕ → Place → Place
entered scope.Module n p = record { scope = n; function = n; variables = n; is_cases = false; in_loop = false; in_head = false }
entered scope.Function n p = record { scope = n; function = n; variables = n; is_cases = false; in_loop = false; in_head = false }
entered scope.Body n p = record { scope = n; function = p.function; variables = n; is_cases = false; in_loop = p.in_loop; in_head = false }
entered scope.Block n p = record { scope = n; function = p.function; variables = p.variables; is_cases = false; in_loop = p.in_loop; in_head = false }
entered scope.Cases n p = record { scope = n; function = p.function; variables = p.variables; is_cases = true; in_loop = p.in_loop; in_head = false }

-- the places that stand round the next mark, the innermost last, and where the scopes so far begin
pub record Stand : Type 0 where
  pub places : List Place
  pub begins : List ℕ

abbrev pub start : Stand
start = record { places = []; begins = [] }

abbrev pub top : List Place → Place
top places = slice_index_or places (length places - 1) outermost

abbrev pub inside : Place → Stand → Stand
inside p s = record s { places = s.places ++ p ∷ [] }

abbrev pub outside : Stand → Stand
outside s = record s { places = take (length s.places - 1) s.places }

-- behind a mark
abbrev pub moved : Mark → Stand → Stand
moved (ScopeBegins k at) s = inside (entered k (length s.begins) (top s.places)) (record s { begins = s.begins ++ at ∷ [] })
moved ScopeEnds s = outside s
moved LoopBegins s = inside (record (top s.places) { in_loop = true }) s
moved LoopEnds s = outside s
moved HeadBegins s = inside (record (top s.places) { in_head = true }) s
moved HeadEnds s = outside s
moved (Declares k name at end) s = s
moved (Refers name at) s = s

-- ---- what is declared: by `var` in the function's scope, by all else in the innermost (8.1.1, 13.3.2)

abbrev pub declaring_scope : Kind → Place → ℕ
declaring_scope Variable p = p.variables
declaring_scope _ p = p.scope

abbrev pub declared_in_loop : Kind → Place → Bool
declared_in_loop Variable p = false
declared_in_loop _ p = p.in_loop

abbrev pub binding_at : Kind → List ℕ → ℕ → ℕ → Place → Binding
binding_at k name at end p = record { name = name; kind = k; at = at; end = end; scope = declaring_scope k p; in_loop = declared_in_loop k p }

abbrev pub is_of : ℕ → List ℕ → Binding → Bool
is_of scope name b = nat_eq scope b.scope && bytes_eq name b.name

-- the number of the binding that a scope has for a name
abbrev pub number_from : ℕ → ℕ → List ℕ → List Binding → Option ℕ
number_from k scope name [] = None
number_from k scope name (b ∷ bs) = cond (is_of scope name b) (Some k) (number_from (k + 1) scope name bs)

abbrev pub number_of : ℕ → List ℕ → List Binding → Option ℕ
number_of scope name bs = number_from 0 scope name bs

-- a name that its scope has already is the same binding
abbrev pub with_binding : Binding → List Binding → List Binding
with_binding b bs = cond (is_some (number_of b.scope b.name bs)) bs (bs ++ b ∷ [])

abbrev pub bound : Mark → Place → List Binding → List Binding
bound (Declares k name at end) p bs = with_binding (binding_at k name at end p) bs
bound _ p bs = bs

abbrev pub all_bindings : List Mark → Stand → List Binding → List Binding
all_bindings [] s bs = bs
all_bindings (m ∷ ms) s bs = all_bindings ms (moved m s) (bound m (top s.places) bs)

abbrev pub module_bindings : List Mark → List Binding
module_bindings marks = all_bindings marks start []

-- which binding each name declares where it stands, in text order
abbrev pub declared_as : ℕ → Option ℕ → List Declared
declared_as at None = []
declared_as at (Some n) = record { at = at; binding = n } ∷ []

abbrev pub declared_by : List Binding → Mark → Place → List Declared
declared_by bs (Declares k name at end) p = declared_as at (number_of (declaring_scope k p) name bs)
declared_by bs _ p = []

abbrev pub all_declared : List Binding → List Mark → Stand → List Declared
all_declared bs [] s = []
all_declared bs (m ∷ ms) s = declared_by bs m (top s.places) ++ all_declared bs ms (moved m s)

abbrev pub module_declared : List Mark → List Declared
module_declared marks = all_declared (module_bindings marks) marks start

-- ---- what is found: the binding of the innermost scope that has the name (8.1.2.1)

abbrev pub nearer : Option ℕ → Place → Option Found → Option Found
nearer None p outer = outer
nearer (Some n) p outer = Some (record { number = n; place = p })

abbrev pub found : List ℕ → List Binding → List Place → Option Found
found name bs [] = None
found name bs (p ∷ ps) = nearer (number_of p.scope name bs) p (found name bs ps)

-- The names of a for-of's head have no value in its subject (13.7.5.12). An imported binding stands in another module.
abbrev pub has_begun : Kind → Bool → Bool
has_begun Let in_head = not in_head
has_begun Constant in_head = not in_head
has_begun Import in_head = false
has_begun HostImport in_head = false
has_begun _ in_head = true

-- The binding has its value at every evaluation of the reference: its declarator ends before, no function begins between its
-- scope and the reference, the scope isn't that of a switch, and its names have begun there.
abbrev pub is_certain : ℕ → Place → Place → Binding → Bool
is_certain at from_ p b = nat_le b.end at && nat_eq p.function from_.function && not p.is_cases && has_begun b.kind p.in_head

-- names that can be without a value: those of let, const, class and import, and of parameters among the parameters
abbrev pub is_counted : Kind → Bool → Bool
is_counted Let in_head = true
is_counted Constant in_head = true
is_counted Class in_head = true
is_counted OwnClass in_head = true
is_counted Import in_head = true
is_counted Parameter in_head = in_head
is_counted Caught in_head = in_head
is_counted _ in_head = false

abbrev pub free_reference : List ℕ → ℕ → Reference
free_reference name at = record { name = name; at = at; binding = None; is_captured = false; is_certain = false; is_uncertain = false }

abbrev pub bound_reference : List ℕ → ℕ → Place → Found → Binding → Reference
bound_reference name at from_ f b = record {
  name = name;
  at = at;
  binding = Some f.number;
  is_captured = not (nat_eq f.place.function from_.function);
  is_certain = is_certain at from_ f.place b;
  is_uncertain = is_counted b.kind f.place.in_head && not (is_certain at from_ f.place b);
}

abbrev pub reference_by : List ℕ → ℕ → Place → Found → Option Binding → Reference
reference_by name at from_ f None = free_reference name at
reference_by name at from_ f (Some b) = bound_reference name at from_ f b

abbrev pub reference_to : List Binding → List ℕ → ℕ → Place → Found → Reference
reference_to bs name at from_ f = reference_by name at from_ f (slice_get bs f.number)

abbrev pub reference_of : List Binding → List ℕ → ℕ → Place → Option Found → Reference
reference_of bs name at from_ None = free_reference name at
reference_of bs name at from_ (Some f) = reference_to bs name at from_ f

abbrev pub reference : List Binding → List ℕ → ℕ → List Place → Reference
reference bs name at places = reference_of bs name at (top places) (found name bs (reverse places))

abbrev pub referred : List Binding → Mark → List Place → List Reference
referred bs (Refers name at) places = reference bs name at places ∷ []
referred bs _ places = []

abbrev pub all_references : List Binding → List Mark → Stand → List Reference
all_references bs [] s = []
all_references bs (m ∷ ms) s = referred bs m s.places ++ all_references bs ms (moved m s)

-- the references of a module, in text order
abbrev pub module_references : List Mark → List Reference
module_references marks = all_references (module_bindings marks) marks start
