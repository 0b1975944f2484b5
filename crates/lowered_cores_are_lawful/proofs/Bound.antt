-- What names declare and find are variables that the core of a graph begins with, where its scopes have them.
use Rattle.std.specs.List.{list_all}
use Rattle.std.proofs.Common.{◌≡◌, ℕ, ◌+◌, ◌<◌, Bool, true, false, get_or, is_some, length, length-append, nat_lt, replicate, slice_get, sum_by, zero, suc, List, [], ◌∷◌, Option, None, Some, refl, arith}
use Rattle.std.proofs.lemmas.Bool.{false≢true, lt-ltb, ltb-true}
use Rattle.std.proofs.lemmas.List.Sums.{sum_by-cons}
use Rattle.std.proofs.lemmas.List.{length-replicate}
use Rattle.core_ast.specs.declared.parts.Var.{Var}
use Rattle.es6_ast.specs.declared.graph.Graph.{Graph}
use Rattle.binding_tables.specs.declared.ids.BindingId.{BindingId}
use Rattle.binding_tables.specs.declared.ids.BindingId.TheVariants.{Global, Host, Own}
use Rattle.scope_analysis.specs.Answers.{binding_in, declared_ids, end_ids, own_binding, referred_ids}
use Rattle.scope_analysis.specs.declared.scopes.Scopes.{Scopes}
use Rattle.scope_analysis.specs.declared.tables.ModuleScopes.{ModuleScopes}
use Rattle.scope_rules.specs.declared.scope_tables.binding.Binding.{Binding}
use Rattle.module_lowering.specs.Bindings.{first_id, id_var, own_var}
use Rattle.module_lowering.specs.Modules as m
use Rattle.module_lowering.specs.declared.meaning.Meaning.{Meaning}
use Rattle.module_lowering.specs.declared.meaning.Meaning.TheVariants.{Elsewhere, Itself, NamespaceOf, OfHost}
use Rattle.pass_rules.proofs.pass_laws.Within.{left, right, both}
use Rattle.lowered_cores_are_lawful.specs.Bound.{BoundLaw, ScopesAreBound, is_there, space_is_there}
use Rattle.lowered_cores_are_lawful.specs.Standing.{ids_drawn, meaning_drawn}
use Rattle.lowered_cores_are_lawful.proofs.Making.{list_both}
use Rattle.lowered_cores_are_lawful.proofs.Modules.{hints_count, space_drawn}

abbrev lengths : List ModuleScopes → ℕ
lengths ms = sum_by (λ (x : ModuleScopes). length x.names) ms

-- ## Variables of bindings

is_below : (xs : List Binding) (n : ℕ) → is_some (slice_get xs n) ≡ true → n < length xs
is_below [] n h = absurd (false≢true h)
is_below (x ∷ xs) zero h = omega arith
is_below (x ∷ xs) (suc n) h = let a = is_below xs n h in omega arith

offset_below : (k : ℕ) (ms : List ModuleScopes) (home n : ℕ) → is_some (binding_in n (slice_get ms home)) ≡ true → get_or (m.offsets_from k ms) home 0 + n < k + lengths ms
offset_below k [] home n h = absurd (false≢true h)
offset_below k (x ∷ ms) zero n h = let a = is_below x.names n h in let d : lengths (x ∷ ms) ≡ length x.names + lengths ms = sum_by-cons (λ (y : ModuleScopes). length y.names) x ms in omega arith
offset_below k (x ∷ ms) (suc home) n h = let a = offset_below (k + length x.names) ms home n h in let d : lengths (x ∷ ms) ≡ length x.names + lengths ms = sum_by-cons (λ (y : ModuleScopes). length y.names) x ms in omega arith

count_within : (g : Graph) (t : Scopes) → m.bindings_count t + length g.modules ≡ length (m.first_names g t).hints
count_within g t =
    let none : Option (List ℕ) = None in
    let a : length (m.first_names g t).hints ≡ length (m.hints t.modules.items) + length (replicate (length g.modules) none) = length-append (m.hints t.modules.items) (replicate (length g.modules) none) in
    let d : length (replicate (length g.modules) none) ≡ length g.modules = length-replicate (length g.modules) none in
    let e : length (m.hints t.modules.items) ≡ m.bindings_count t = hints_count t.modules.items in
    omega arith

abbrev names : Graph → Scopes → ℕ
names g t = length (m.first_names g t).hints

own_drawn : (g : Graph) (t : Scopes) (home n : ℕ) → is_some (own_binding t (Own home n)) ≡ true → nat_lt (own_var (m.bindings_of g t) home n).0 (names g t) ≡ true
own_drawn g t home n h =
    let a = offset_below 0 t.modules.items home n h in let d = count_within g t in
    lt-ltb (get_or (m.offsets_from 0 t.modules.items) home 0 + n) (names g t) (omega arith)

id_drawn : (g : Graph) (t : Scopes) (hosts : ℕ) (i : BindingId) → nat_lt 0 (names g t) ≡ true → is_there t hosts i ≡ true → nat_lt (id_var (m.bindings_of g t) i).0 (names g t) ≡ true
id_drawn g t hosts (Own home n) z h = own_drawn g t home n h
id_drawn g t hosts (Global n) z h = z
id_drawn g t hosts (Host n) z h = z

all_drawn : (g : Graph) (t : Scopes) (hosts : ℕ) (is_ : List BindingId) → nat_lt 0 (names g t) ≡ true → list_all (is_there t hosts) is_ ≡ true → ids_drawn (m.bindings_of g t) (names g t) is_ ≡ true
all_drawn g t hosts [] z h = refl
all_drawn g t hosts (i ∷ is_) z h = both (id_drawn g t hosts i z (left _ _ h)) (all_drawn g t hosts is_ z (right _ _ h))

-- ## What bindings stand for

space_means : (g : Graph) (t : Scopes) (hosts : ℕ) (n : Option ℕ) → space_is_there (length g.modules) n ≡ true → meaning_drawn hosts (names g t) (m.space_of t n) ≡ true
space_means g t hosts None h = refl
space_means g t hosts (Some n) h = space_drawn g t n (let a = ltb-true n (length g.modules) h in omega arith)

own_means : (g : Graph) (t : Scopes) (hosts home : ℕ) (x : Option Binding) → ScopesAreBound g t hosts → meaning_drawn hosts (names g t) (m.own_meaning g t home x) ≡ true
own_means g t hosts home None k = refl
own_means g t hosts home (Some x) k = space_means g t hosts (m.space_in x.at (slice_get g.modules home)) (k.spaces home x.at)

if_means : (hosts n : ℕ) (i : Bool) (x : Meaning) → meaning_drawn hosts n x ≡ true → meaning_drawn hosts n (m.if_import i x) ≡ true
if_means hosts n true x h = h
if_means hosts n false x h = refl

name_means : (g : Graph) (t : Scopes) (hosts home number : ℕ) → ScopesAreBound g t hosts → meaning_drawn hosts (names g t) (m.name_meaning g t home number) ≡ true
name_means g t hosts home number k = let x = own_binding t (Own home number) in if_means hosts (names g t) (m.is_import x) (m.own_meaning g t home x) (own_means g t hosts home x k)

unless_means : (hosts n : ℕ) (x : Var) (y : Meaning) → nat_lt x.0 n ≡ true → meaning_drawn hosts n y ≡ true → meaning_drawn hosts n (m.unless_itself x y) ≡ true
unless_means hosts n x Itself h k = h
unless_means hosts n x (Elsewhere z) h k = k
unless_means hosts n x (NamespaceOf z) h k = k
unless_means hosts n x (OfHost z) h k = k

ended_means : (g : Graph) (t : Scopes) (hosts home number : ℕ) (ids : List BindingId) → list_all (is_there t hosts) ids ≡ true → ScopesAreBound g t hosts → meaning_drawn hosts (names g t) (m.ended_at g t home number (first_id ids)) ≡ true
ended_means g t hosts home number [] h k = name_means g t hosts home number k
ended_means g t hosts home number (Own o n ∷ ids) h k = unless_means hosts (names g t) (m.variable_of t o n) (m.name_meaning g t o n) (own_drawn g t o n (left _ _ h)) (name_means g t hosts o n k)
ended_means g t hosts home number (Global n ∷ ids) h k = refl
ended_means g t hosts home number (Host n ∷ ids) h k = left _ _ h

module_means : (g : Graph) (t : Scopes) (hosts home number : ℕ) (xs : List Binding) → ScopesAreBound g t hosts → list_all (meaning_drawn hosts (names g t)) (m.meanings_from g t home number xs) ≡ true
module_means g t hosts home number [] k = refl
module_means g t hosts home number (x ∷ xs) k = both (ended_means g t hosts home number (end_ids t (Own home number)) (k.ends home number) k) (module_means g t hosts home (number + 1) xs k)

all_means : (g : Graph) (t : Scopes) (hosts home : ℕ) (ms : List ModuleScopes) → ScopesAreBound g t hosts → list_all (meaning_drawn hosts (names g t)) (m.all_meanings g t home ms) ≡ true
all_means g t hosts home [] k = refl
all_means g t hosts home (x ∷ ms) k = list_both (meaning_drawn hosts (names g t)) (m.meanings_from g t home 0 x.names) (m.all_meanings g t (home + 1) ms) (module_means g t hosts home 0 x.names k) (all_means g t hosts (home + 1) ms k)

pub bound_is : BoundLaw
bound_is g t hosts k =
    let e = count_within g t in let a = k.some in
    let z = lt-ltb 0 (names g t) (omega arith) in
    record {
      some = omega arith;
      declared = λ home at. all_drawn g t hosts (declared_ids t home at) z (k.declared home at);
      referred = λ home at. all_drawn g t hosts (referred_ids t home at) z (k.referred home at);
      meanings = all_means g t hosts 0 t.modules.items k;
    }
