-- The names of a namespace object, by its number.
use Rattle.std.proofs.Common.{◌≡◌, ℕ, List, [], sym, ap, ◌∙◌, None, Some, refl}
use Rattle.std.proofs.lemmas.Option.{unwrap_or-slice_get}
use Rattle.std.specs.List.{slice_get, slice_index_or}
use Rattle.std.specs.Option.{unwrap_or}
use Rattle.es_heap.specs.declared.key.Key.{Key}
use Rattle.es_heap.specs.declared.key.Key.TheVariants.{Iterator, Text}
use Rattle.source_meaning.specs.Modules.{export_in}
use Rattle.source_meaning.specs.State.{Exported}

pub no_export : (k : Key) → None ≡ export_in [] k
no_export Iterator = refl
no_export (Text units) = refl

exports_by : (all : List (List Exported)) (n : ℕ) → slice_index_or all n [] ≡ unwrap_or (slice_get all n) []
exports_by all n =
    let d : List Exported = [] in
    sym (unwrap_or-slice_get all n d)

pub export_none : (all : List (List Exported)) (n : ℕ) (k : Key) → slice_get all n ≡ None → None ≡ export_in (slice_index_or all n []) k
export_none all n k e =
    let d : List Exported = [] in
    no_export k ∙ sym (ap (λ es. export_in es k) (exports_by all n ∙ ap (λ o. unwrap_or o d) e))

pub export_some : (all : List (List Exported)) (n : ℕ) (es : List Exported) (k : Key) → slice_get all n ≡ Some es → export_in es k ≡ export_in (slice_index_or all n []) k
export_some all n es k e =
    let d : List Exported = [] in
    sym (ap (λ xs. export_in xs k) (exports_by all n ∙ ap (λ o. unwrap_or o d) e))
