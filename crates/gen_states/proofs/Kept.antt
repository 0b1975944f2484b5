-- A core without generators stays as it is.
use Rattle.std.proofs.Common.{◌≡◌, Bool, true, false, List, [], ◌∷◌, ◌++◌, ◌&&◌, not, refl, sym, ap, ◌∙◌}
use Rattle.std.proofs.lemmas.Bool.{cond-false, not-true}
use Rattle.std.proofs.lemmas.List.{append-nil, append_assoc}
use Rattle.core_ast.specs.declared.naming.Fresh.{Fresh}
use Rattle.core_ast.specs.declared.whole.Core.{Core}
use Rattle.core_ast.specs.declared.whole.CoreFunction.{CoreFunction}
use Rattle.core_ast.specs.Lawful.{is_generator}
use Rattle.pass_rules.specs.yield_rules.Yields.{Made}
use Rattle.pass_rules.specs.state_rules.States.{all_functions, generator, one_function, with_machines}
use Rattle.gen_states.specs.Kept.{are_no_generators, has_no_generator}

both : (a b : Bool) → (a && b) ≡ true → (a ≡ true) × (b ≡ true)
both true b h = (refl, h)
both false b h = absurd (cc)

abbrev functions_made : List CoreFunction → Fresh → Made (List CoreFunction)
functions_made fs fresh = record { made = fs; fresh = fresh }

one_kept : (f : CoreFunction) (fresh : Fresh) → is_generator f.kind ≡ false → one_function f fresh ≡ record { made = f; fresh = fresh }
one_kept f fresh h = cond-false (is_generator f.kind) (generator f fresh) (record { made = f; fresh = fresh }) h

functions_kept : (fs made : List CoreFunction) (fresh : Fresh) → are_no_generators fs ≡ true → all_functions fs made fresh ≡ functions_made (made ++ fs) fresh
functions_kept [] made fresh h = ap (λ xs. functions_made xs fresh) (sym (append-nil made))
functions_kept (f ∷ fs) made fresh h =
    let none = both (not (is_generator f.kind)) (are_no_generators fs) h in
    let one = one_kept f fresh (not-true (is_generator f.kind) none.0) in
    let step : all_functions (f ∷ fs) made fresh ≡ all_functions fs (made ++ f ∷ []) fresh = ap (λ (m : Made CoreFunction). all_functions fs (made ++ m.made ∷ []) m.fresh) one in
    step ∙ functions_kept fs (made ++ f ∷ []) fresh none.1 ∙ ap (λ xs. functions_made xs fresh) (append_assoc made (f ∷ []) fs)

pub core_kept : (core : Core) → has_no_generator core ≡ true → with_machines core ≡ core
core_kept core h = ap (λ (m : Made (List CoreFunction)). record core { functions = m.made; fresh = m.fresh }) (functions_kept core.functions [] core.fresh h)
