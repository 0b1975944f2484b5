-- An array pattern from the first of its parts that asks for something.
use Rattle.std.proofs.Common.{◌≡◌, Bool, true, false, if◌then◌else◌, ◌&&◌, List, [], ◌∷◌, refl, ap, ◌∙◌, sym}
use Rattle.es_value.specs.declared.value.Value.{Value}
use Rattle.es6_ast.specs.Spans.{Open}
use Rattle.es6_ast.specs.declared.tree.Argument.TheOpen as layer
use Rattle.es6_ast.specs.declared.tree.Argument.TheOpen.{ArrayPart-F}
use Rattle.es6_ast.specs.declared.tree.ArrayPart.{ArrayPart, out-ArrayPart}
use Rattle.source_meaning.specs.Patterns.{closes_unless, elements_on, one_element}
use Rattle.source_meaning.specs.State.{Binds, Done, State, Taking}
use Rattle.source_meaning.specs.Steps.{Next}
use Rattle.source_patterns.specs.ArrayParts.{is_skipped, part_begun, parts_from}

abbrev taking : Binds → Value → List ArrayPart → Taking
taking b iterator ps = record { binds = b; iterator = iterator; parts = ps }

abbrev elements_at : Binds → Value → Bool → State → List ArrayPart → Next
elements_at b iterator done st [] = closes_unless done iterator Done st
elements_at b iterator done st (p ∷ ps) = part_begun done (taking b iterator ps) st (out-ArrayPart p)

one_part : (done : Bool) (t : Taking) (st : State) (next : Bool → State → Next) (o : Open ArrayPart-F) → one_element done t st next o ≡ (if done && is_skipped o then next true st else part_begun done t st o)
one_part true t st next layer.SkippedPart = refl
one_part true t st next (layer.SinglePart p) = refl
one_part true t st next (layer.RestPart span p) = refl
one_part false t st next layer.SkippedPart = refl
one_part false t st next (layer.SinglePart p) = refl
one_part false t st next (layer.RestPart span p) = refl

one_more : (b : Binds) (iterator : Value) (p : ArrayPart) (ps : List ArrayPart) (done here : Bool) (st : State) → elements_on b iterator ps true st ≡ elements_at b iterator true st (parts_from true ps) → (done && is_skipped (out-ArrayPart p)) ≡ here → (if here then elements_on b iterator ps true st else part_begun done (taking b iterator ps) st (out-ArrayPart p)) ≡ elements_at b iterator done st (if here then parts_from done ps else p ∷ ps)
one_more b iterator p ps true true st ih e = ih
one_more b iterator p ps false true st ih e = cc
one_more b iterator p ps done false st ih e = refl

elements_by : (b : Binds) (iterator : Value) (ps : List ArrayPart) (done : Bool) (st : State) → elements_on b iterator ps done st ≡ elements_at b iterator done st (parts_from done ps)
elements_by b iterator [] done st = refl
elements_by b iterator (p ∷ ps) done st =
    one_part done (taking b iterator ps) st (elements_on b iterator ps) (out-ArrayPart p)
    ∙ one_more b iterator p ps done (done && is_skipped (out-ArrayPart p)) st (elements_by b iterator ps true st) refl

pub elements_none : (b : Binds) (iterator : Value) (ps : List ArrayPart) (done : Bool) (st : State) → parts_from done ps ≡ [] → elements_on b iterator ps done st ≡ closes_unless done iterator Done st
elements_none b iterator ps done st e = elements_by b iterator ps done st ∙ ap (elements_at b iterator done st) e

pub elements_some : (b : Binds) (iterator : Value) (ps : List ArrayPart) (done : Bool) (st : State) (q : ArrayPart) (qs : List ArrayPart) → parts_from done ps ≡ q ∷ qs → elements_on b iterator ps done st ≡ part_begun done (taking b iterator qs) st (out-ArrayPart q)
elements_some b iterator ps done st q qs e = elements_by b iterator ps done st ∙ ap (elements_at b iterator done st) e
