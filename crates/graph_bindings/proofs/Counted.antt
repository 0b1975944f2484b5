-- The modules of a graph, one by one.
use Rattle.std.proofs.Common.{◌≡◌, ℕ, zero, suc, ◌+◌, ◌<◌, ◌++◌, List, [], ◌∷◌, length, drop, map, Option, Some, None, refl, sym, ap, ◌∙◌, add-one, arith}
use Rattle.std.specs.Prelude.{slice_get, sum_by}
use Rattle.std.proofs.lemmas.List.Sums.{sum_by-cons}
use Rattle.es6_ast.specs.declared.graph.Graph.{Graph}
use Rattle.es6_ast.specs.declared.graph.LoadedModule.{LoadedModule}
use Rattle.scope_rules.specs.declared.scope_tables.binding.Binding.{Binding}
use Rattle.scope_analysis.specs.Answers.{AreScopes}
use Rattle.scope_analysis.specs.declared.scopes.Scopes.{Scopes}
use Rattle.scope_analysis.specs.Scopes.{AreAllScopes, no_module, one_module}
use Rattle.scope_analysis.specs.declared.tables.ModuleScopes.{ModuleScopes}
use Rattle.module_lowering.specs.declared.meaning.Meaning.{Meaning}
use Rattle.module_lowering.specs.Modules.{hints, offsets_from}
use Rattle.lower_walk.specs.lower_names.Names.{names_in}
use Rattle.graph_bindings.specs.declared.numbering.Numbering.{Numbering}
use Rattle.graph_bindings.specs.Meanings.{all_meanings_by, meanings_by}

record IsRead (ms : List ModuleScopes) (n : ℕ) : Type 0 where
  read : ModuleScopes
  rest : drop n ms ≡ read ∷ drop (n + 1) ms
  names : names_in (slice_get ms n) ≡ read.names

one-read : (ms : List ModuleScopes) (n : ℕ) → n < length ms → (m : ModuleScopes) × (drop n ms ≡ m ∷ drop (suc n) ms) × (names_in (slice_get ms n) ≡ m.names)
one-read [] n h = absurd (omega (arith, h))
one-read (m ∷ ms) zero h = (m, refl, refl)
one-read (m ∷ ms) (suc n) h = one-read ms n (omega (arith, h))

module_read : (ms : List ModuleScopes) (n : ℕ) → n < length ms → IsRead ms n
module_read ms n h =
    let r = one-read ms n h in
    record { read = r.0; rest = r.1 ∙ ap (λ (k : ℕ). r.0 ∷ drop k ms) (sym (add-one n)); names = r.2 }

pub offsets_turn : (ms : List ModuleScopes) (n k : ℕ) → n < length ms → offsets_from k (drop n ms) ≡ k ∷ offsets_from (k + length (names_in (slice_get ms n))) (drop (n + 1) ms)
offsets_turn ms n k h =
    let r : IsRead ms n = module_read ms n h in
    ap (λ (rest : List ModuleScopes). offsets_from k rest) r.rest
    ∙ ap (λ (bs : List Binding). k ∷ offsets_from (k + length bs) (drop (n + 1) ms)) (sym r.names)

pub count_turn : (ms : List ModuleScopes) (n : ℕ) → n < length ms → sum_by (λ m. length m.names) (drop n ms) ≡ length (names_in (slice_get ms n)) + sum_by (λ m. length m.names) (drop (n + 1) ms)
count_turn ms n h =
    let r : IsRead ms n = module_read ms n h in
    ap (λ (rest : List ModuleScopes). sum_by (λ m. length m.names) rest) r.rest
    ∙ sum_by-cons (λ m. length m.names) r.read (drop (n + 1) ms)
    ∙ ap (λ (bs : List Binding). length bs + sum_by (λ m. length m.names) (drop (n + 1) ms)) (sym r.names)

pub hints_turn : (ms : List ModuleScopes) (n : ℕ) → n < length ms → hints (drop n ms) ≡ map (λ b. Some b.name) (names_in (slice_get ms n)) ++ hints (drop (n + 1) ms)
hints_turn ms n h =
    let r : IsRead ms n = module_read ms n h in
    ap (λ (rest : List ModuleScopes). hints rest) r.rest
    ∙ ap (λ (bs : List Binding). map (λ b. Some b.name) bs ++ hints (drop (n + 1) ms)) (sym r.names)

pub meanings_turn : (x : Numbering) (ms : List ModuleScopes) (n : ℕ) → n < length ms → all_meanings_by x n (drop n ms) ≡ meanings_by x n 0 (names_in (slice_get ms n)) ++ all_meanings_by x (n + 1) (drop (n + 1) ms)
meanings_turn x ms n h =
    let r : IsRead ms n = module_read ms n h in
    ap (λ (rest : List ModuleScopes). all_meanings_by x n rest) r.rest
    ∙ ap (λ (bs : List Binding). meanings_by x n 0 bs ++ all_meanings_by x (n + 1) (drop (n + 1) ms)) (sym r.names)

pub as_many : (ms : List LoadedModule) (ss : List ModuleScopes) (home : ℕ) (globals : List (List ℕ)) → AreAllScopes home globals ms ss → length ms ≡ length ss
as_many [] [] home globals no_module = refl
as_many [] (s ∷ ss) home globals x = elim x [ ]
as_many (m ∷ ms) [] home globals x = elim x [ ]
as_many (m ∷ ms) (s ∷ ss) home globals (one_module is are) = ap (λ (n : ℕ). suc n) (as_many ms ss _ _ are)

pub scopes_as_many : (g : Graph) (s : Scopes) → AreScopes g s → length g.modules ≡ length s.modules.items
scopes_as_many g s are = as_many g.modules s.modules.items _ _ are.modules
