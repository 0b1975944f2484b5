-- The function of `export default`.
use Rattle.std.proofs.Common.{◌≡◌, ℕ, Bor, List, [], ◌∷◌, ◌++◌, map, refl, ap, ◌∙◌, sym}
use Rattle.std.proofs.lemmas.List.{map-append}
use Rattle.es6_ast.specs.declared.tree.Function.{Function, out-Function}
use Rattle.lower_listed.specs.declared.functions.HoistedAt.{HoistedAt}
use Rattle.lower_listed.specs.Hoisted.{hoisted_of}
use Rattle.lower_walk.proofs.Layers.{function_out}
use Rattle.module_lowering.specs.declared.context.FunctionForm.TheVariants.{PlainForm}
use Rattle.module_lowering.specs.Lowered.{function_lowered}
use Rattle.module_lowering.specs.Modules.{default_function, place_or}
use Rattle.module_lowering.specs.Nodes.{Functioned, Hoisted}

abbrev pub hoisted_at : ℕ → Functioned → Hoisted
hoisted_at at f = record { at = at; made = f.lowered PlainForm }

pub hoisted_pushed : (at place : ℕ) (f : Function) (function : Bor Function) (old new : List HoistedAt) → new ≡ old ++ record { at = place; function = function } ∷ [] → place ≡ place_or at (out-Function f).name → function.now ≡ f
    → map hoisted_of new ≡ map hoisted_of old ++ (default_function at (function_lowered f)).functions
hoisted_pushed at place f function old new grown placed same =
    ap (λ (hs : List HoistedAt). map hoisted_of hs) grown
    ∙ map-append hoisted_of old (record { at = place; function = function } ∷ [])
    ∙ ap (λ (g : Function). map hoisted_of old ++ hoisted_at place (function_lowered g) ∷ []) same
    ∙ ap (λ (k : ℕ). map hoisted_of old ++ hoisted_at k (function_lowered f) ∷ []) (placed ∙ ap (λ (x : Functioned). place_or at x.name) (sym (function_out f)))
