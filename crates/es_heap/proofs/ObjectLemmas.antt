-- Outcomes of operations on objects.
use Rattle.std.proofs.Common.{◌≡◌, ◌++◌, ◌&&◌, ℕ, Bool, true, false, true≢false, cond, if◌then◌else◌, List, Option, None, Some, Err, is_some, refl, sym, ap, ◌∙◌}
use Rattle.std.specs.Map.{lookup}
use Rattle.indexmap.specs.IndexMap.{swap_remove_entry}
use Rattle.es_heap.specs.declared.key.Key.{Key}
use Rattle.es_heap.specs.declared.prop.Prop.{Prop}
use Rattle.es_heap.specs.declared.prop.HeapFault.{HeapFault}
use Rattle.es_heap.specs.declared.prop.HeapFault.TheVariants.{NotWritable, NotConfigurable, NotExtensible, BadLength, OutOfMemory}
use Rattle.es_heap.specs.Keys.{same_key, length_key}
use Rattle.es_heap.specs.Tables.{is_configurable}
use Rattle.es_heap.proofs.TableLemmas.{swap_remove_after}
use Rattle.es_heap.specs.Objects.{Object, Outcome, Comes, refused, own, length_entry, length_property, refusal, ordinary_define, validate_and_apply, unless_refused, with_own, without_own, after_delete, delete_found}

-- a refusal that leaves everything as it was
pub Comes-refused : {S : Type 0} (U : Type 0) (s : S) (f : HeapFault) (outcome : Outcome S) → outcome ≡ refused s f → Comes {U = U} s s (Err f) outcome
Comes-refused U s NotWritable outcome e = (ap (λ o. o.fault) (sym e), ap (λ o. o.after) (sym e))
Comes-refused U s NotConfigurable outcome e = (ap (λ o. o.fault) (sym e), ap (λ o. o.after) (sym e))
Comes-refused U s NotExtensible outcome e = (ap (λ o. o.fault) (sym e), ap (λ o. o.after) (sym e))
Comes-refused U s BadLength outcome e = (ap (λ o. o.fault) (sym e), ap (λ o. o.after) (sym e))
Comes-refused U s OutOfMemory outcome e = refl

-- a key that isn't an array's `length` is looked up among the others
pub lookup-apart : (l : Option (ℕ × Bool)) (es : List (Key × Prop)) (k : Key) → is_some l && same_key k length_key ≡ false → lookup (same_key k) (length_entry l ++ es) ≡ lookup (same_key k) es
lookup-apart None es k h = refl
lookup-apart (Some l) es k h = ap (λ c. cond c (Some (length_property l.0 l.1)) (lookup (same_key k) es)) h

-- what refuses a property its successor refuses the definition
pub ordinary_define-refused : (o : Object) (k : Key) (now next : Prop) (f : HeapFault) → own o k ≡ Some now → refusal now next ≡ Some f → ordinary_define o k next ≡ refused o f
ordinary_define-refused o k now next f found why =
    ap (λ p. validate_and_apply o k p next) found ∙ ap (λ r. unless_refused o r (with_own o k next)) why

abbrev configurable_in : Option Prop → Bool
configurable_in None = false
configurable_in (Some p) = is_configurable p

-- a property that may go isn't an array's `length`, so it is taken out from among the others
pub remove-apart : (l : Option (ℕ × Bool)) (es : List (Key × Prop)) (k : Key) (p : Prop) → lookup (same_key k) (length_entry l ++ es) ≡ Some p → is_configurable p ≡ true
    → length_entry l ++ swap_remove_entry (same_key k) es ≡ swap_remove_entry (same_key k) (length_entry l ++ es)
remove-apart None es k p found goes = refl
remove-apart (Some l) es k p found goes = by (same_key k length_key) refl
  where
    by : (b : Bool) → same_key k length_key ≡ b → length_entry (Some l) ++ swap_remove_entry (same_key k) es ≡ swap_remove_entry (same_key k) (length_entry (Some l) ++ es)
    by true e =
        let fixed : Some (length_property l.0 l.1) ≡ Some p = sym (ap (λ c. cond c (Some (length_property l.0 l.1)) (lookup (same_key k) es)) e) ∙ found in
        absurd (true≢false (sym goes ∙ ap configurable_in (sym fixed)))
    by false e = sym (swap_remove_after (same_key k) (length_key, length_property l.0 l.1) es e)

-- an object without a property that may go
pub deleted-found : (o : Object) (k : Key) (p : Prop) (rest : List (Key × Prop)) → own o k ≡ Some p → is_configurable p ≡ true → rest ≡ swap_remove_entry (same_key k) o.properties
    → record o { properties = rest } ≡ after_delete o k
deleted-found o k p rest found goes e =
    ap (λ r. record o { properties = r }) e ∙ sym (ap (λ q. delete_found o k q) found ∙ ap (λ b. if b then without_own o k else o) goes)
