-- How a step goes on with what names a property.
use Rattle.std.proofs.Common.{◌≡◌, Bool, true, false, if◌then◌else◌, refl, sym, ap, ◌∙◌}
use Rattle.es_heap.specs.declared.key.Key.{Key as PropertyKey}
use Rattle.es_heap.specs.declared.key.Key.TheVariants.{Iterator}
use Rattle.es6_ast.specs.Spans.{Open}
use Rattle.es6_ast.specs.declared.tree.Argument.TheOpen as layer
use Rattle.es6_ast.specs.declared.tree.Argument.TheOpen.{Key-F}
use Rattle.es6_ast.specs.declared.tree.Expression.{Expression}
use Rattle.es6_ast.specs.declared.tree.Key.{Key, out-Key}
use Rattle.source_meaning.specs.References.{is_iterator_key, key_by, with_key}
use Rattle.source_meaning.specs.State.{KeyValue, Naming, State}
use Rattle.source_meaning.specs.Steps.{Next, begins}
use Rattle.source_keys.specs.Keys.{found_key}
use Rattle.source_keys.specs.declared.keys.FoundKey.{FoundKey}
use Rattle.source_keys.specs.declared.keys.FoundKey.TheVariants.{Computed, Known}

-- a step goes on with a known key, or begins a computed one
abbrev on_found : Naming → State → (PropertyKey → State → Next) → FoundKey → Next
on_found naming st f (Known k) = f k st
on_found naming st f (Computed x) = begins (KeyValue naming) x st

by_iterator : (naming : Naming) (st : State) (f : PropertyKey → State → Next) (x : Expression) (b : Bool) → (if b then f Iterator st else begins (KeyValue naming) x st) ≡ on_found naming st f (if b then Known Iterator else Computed x)
by_iterator naming st f x true = refl
by_iterator naming st f x false = refl

key_on : (naming : Naming) (st : State) (f : PropertyKey → State → Next) (k : Open Key-F) → key_by naming st f k ≡ on_found naming st f (found_key st k)
key_on naming st f (layer.WordKey span name) = refl
key_on naming st f (layer.TextKey span units) = refl
key_on naming st f (layer.IntegerKey span n) = refl
key_on naming st f (layer.ComputedKey span x) = by_iterator naming st f x (is_iterator_key x st)

pub with_known : (k : Key) (naming : Naming) (st : State) (f : PropertyKey → State → Next) (p : PropertyKey) → Known p ≡ found_key st (out-Key k) → with_key k naming st f ≡ f p st
with_known k naming st f p e = key_on naming st f (out-Key k) ∙ sym (ap (on_found naming st f) e)

pub with_computed : (k : Key) (naming : Naming) (st : State) (f : PropertyKey → State → Next) (x : Expression) → Computed x ≡ found_key st (out-Key k) → with_key k naming st f ≡ begins (KeyValue naming) x st
with_computed k naming st f x e = key_on naming st f (out-Key k) ∙ sym (ap (on_found naming st f) e)
