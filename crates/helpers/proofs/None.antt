-- A script that calls no primitive is given no definition.
use Rattle.std.proofs.Common.{◌≡◌, ℕ, Bool, false, cond, List, [], ◌∷◌, refl, ap, ◌∙◌}
use Rattle.std.specs.List.{list_any}
use Rattle.es5_ast.specs.declared.tree.Stat5.{Stat5}
use Rattle.core_primitives.specs.declared.used.UsedPrimitives.{UsedPrimitives}
use Rattle.core_primitives.specs.Used.{none}
use Rattle.emission_rules.specs.Naming.{declares}
use Rattle.helpers.specs.Table.{classes, generators, iterators, lists, templates, values}
use Rattle.helpers.specs.Wanted.{asked, asked_class, asked_generator, asked_iteration, asked_object, asked_value, is_kept, kept, wanted, with_rows}

nothing_asked : (rows : List (List (List ℕ))) → with_rows none [] rows ≡ []
unfolding asked asked_value asked_iteration asked_class asked_object asked_generator
nothing_asked [] = refl
nothing_asked ([] ∷ rows) = nothing_asked rows
nothing_asked ((name ∷ uses) ∷ rows) = nothing_asked rows

nothing_behind : (names : List (List ℕ)) (rows : List (List (List ℕ))) → names ≡ [] → with_rows none names rows ≡ []
nothing_behind names rows e = ap (λ ns. with_rows none ns rows) e ∙ nothing_asked rows

nothing_wanted : wanted none ≡ []
nothing_wanted =
    nothing_behind _ values (nothing_behind _ iterators (nothing_behind _ lists (nothing_behind _ classes
    (nothing_behind _ generators (nothing_asked templates)))))

none_passes : {X : Type 0} (xs : List X) → list_any (λ x. false) xs ≡ false
none_passes [] = refl
none_passes (x ∷ xs) = none_passes xs

second-of : {X : Type 0} (b : Bool) (x y : X) → b ≡ false → cond b x y ≡ y
second-of b x y e = ap (λ t. cond t x y) e

nothing_kept : (statements : List Stat5) → kept [] statements ≡ []
nothing_kept [] = refl
nothing_kept (s ∷ ss) = second-of (is_kept [] s) (s ∷ kept [] ss) (kept [] ss) (none_passes (declares s)) ∙ nothing_kept ss

pub none_kept : (u : UsedPrimitives) (statements : List Stat5) → u ≡ none → kept (wanted u) statements ≡ []
none_kept u statements e =
    ap (λ v. kept (wanted v) statements) e ∙ ap (λ names. kept names statements) nothing_wanted ∙ nothing_kept statements
