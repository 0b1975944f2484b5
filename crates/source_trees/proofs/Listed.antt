-- Names of lists of nodes, one by one.
use Rattle.std.proofs.Common.{◌≡◌, ℕ, Bool, true, false, ◌||◌, ◌<◌, zero, suc, List, [], ◌∷◌, ◌++◌, map, drop, length, get_or, arith, append_assoc, refl, sym, ap, ◌∙◌, if◌then◌else◌}
use Rattle.std.specs.List.{list_any}
use Rattle.std.proofs.lemmas.List.{map-append}
use Rattle.es6_ast.specs.declared.tree.Function.{Function}
use Rattle.es6_ast.specs.declared.tree.Parameter.{Parameter}
use Rattle.es6_ast.specs.declared.tree.Part.{Part}
use Rattle.es6_ast.specs.declared.tree.Statement.{Statement, out-Statement}
use Rattle.es6_static_semantics.specs.Early.{parameter_found, parameter_names, part_found}
use Rattle.es6_static_semantics.specs.Findings.{joined}
use Rattle.scope_rules.specs.Marks as marked
use Rattle.source_meaning.specs.Environments.{unbound}
use Rattle.source_meaning.specs.Trees.{declared_in, function_names, has_name, have_expression, last_ones, lexicals_in, name_of, parameters_names, parts_names}
use Rattle.source_trees.specs.Last.{unless_named}

map_joined : {A B C D : Type 0} (f : C → D) (g : B → List C) (h : A → B) (xs : List A) → map f (joined g (map h xs)) ≡ joined (λ x. map f (g (h x))) xs
map_joined f g h [] = refl
map_joined f g h (x ∷ xs) = map-append f (g (h x)) (joined g (map h xs)) ∙ ap (λ ys. map f (g (h x)) ++ ys) (map_joined f g h xs)

pub parts_listed : (ps : List Part) → map name_of (parameter_names (map part_found ps)) ≡ parts_names ps
parts_listed ps = map_joined name_of (λ p. p.names) part_found ps

pub parameters_listed : (ps : List Parameter) → map name_of (parameter_names (map parameter_found ps)) ≡ parameters_names ps
parameters_listed ps = map_joined name_of (λ p. p.names) parameter_found ps

any_listed : {A B : Type 0} (p : B → Bool) (h : A → B) (xs : List A) → list_any p (map h xs) ≡ list_any (λ x. p (h x)) xs
any_listed p h [] = refl
any_listed p h (x ∷ xs) = ap (λ b. p (h x) || b) (any_listed p h xs)

pub expressions_listed : (ps : List Parameter) → marked.have_expression (map marked.parameter_marked ps) ≡ have_expression ps
expressions_listed ps = any_listed (λ p. p.has_expression) marked.parameter_marked ps

pub lexicals_step : (s : Statement) (ss : List Statement) → map unbound (lexicals_in (s ∷ ss)) ≡ map unbound (declared_in (out-Statement s)) ++ map unbound (lexicals_in ss)
lexicals_step s ss = map-append unbound (declared_in (out-Statement s)) (lexicals_in ss)

-- the function at a place, and those behind it
kept_or : (b : Bool) (f : Function) (fs : List Function) → (if b then fs else f ∷ fs) ≡ (if b then [] else f ∷ []) ++ fs
kept_or true f fs = refl
kept_or false f fs = refl

last_next : (fs : List Function) (i : ℕ) (d : Function) → i < length fs → last_ones (drop i fs) ≡ unless_named (function_names (drop (suc i) fs)) (get_or fs i d) ++ last_ones (drop (suc i) fs)
last_next [] i d h = absurd (omega arith)
last_next (f ∷ fs) zero d h = kept_or (list_any (has_name (function_names fs)) (function_names (f ∷ []))) f (last_ones fs)
last_next (f ∷ fs) (suc i) d h = last_next fs i d (omega arith)

pub last_step : (last fs : List Function) (i : ℕ) (d : Function) → i < length fs → (last ++ unless_named (function_names (drop (suc i) fs)) (get_or fs i d)) ++ last_ones (drop (suc i) fs) ≡ last ++ last_ones (drop i fs)
last_step last fs i d h = append_assoc last _ _ ∙ ap (λ ys. last ++ ys) (sym (last_next fs i d h))
