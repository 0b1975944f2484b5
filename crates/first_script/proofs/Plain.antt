-- The texts of a well-formed module are written as they are.
use Rattle.std.proofs.Common.{◌≡◌, ℕ, Bool, true, ◌&&◌, List, [], ◌∷◌, refl, ◌∙◌, ap}
use Rattle.std.specs.List.{list_all}
use Rattle.first_trees.specs.declared.Module.{Module}
use Rattle.first_trees.specs.declared.Item.{Item}
use Rattle.first_trees.specs.declared.Item.TheVariants as item
use Rattle.first_trees.specs.declared.Expression.{Expression}
use Rattle.first_trees.specs.declared.Expression.TheVariants as expression
use Rattle.first_trees.specs.declared.Sum.{Sum}
use Rattle.first_trees.specs.declared.Term.{Term}
use Rattle.first_trees.specs.declared.Term.TheVariants as term
use Rattle.first_forms.specs.WellFormed.{Scope, with_declared, IsTerm, AreTerms, IsSum, AreSums, IsInitializer, AreItems, AreModuleItems, IsWellFormed}
use Rattle.first_script.specs.Pieces.{is_plain_term, is_plain_sum, is_plain_expression, is_plain_item}

both : (a b : Bool) → a ≡ true → b ≡ true → (a && b) ≡ true
both a b h k = ap (λ c. c && b) h ∙ k

plain_term : (s : Scope) (x : Term) → IsTerm s x → is_plain_term x ≡ true
plain_term s (term.Integer at value) i = refl
plain_term s (term.Text at units) i = i
plain_term s (term.Name at name) i = refl

plain_terms : (s : Scope) (xs : List Term) → AreTerms s xs → list_all is_plain_term xs ≡ true
plain_terms s [] i = refl
plain_terms s (x ∷ xs) i = both (is_plain_term x) (list_all is_plain_term xs) (plain_term s x i.0) (plain_terms s xs i.1)

plain_sum : (s : Scope) (x : Sum) → IsSum s x → is_plain_sum x ≡ true
plain_sum s x i = both (is_plain_term x.first) (list_all is_plain_term x.rest) (plain_term s x.first i.1) (plain_terms s x.rest i.2)

plain_sums : (s : Scope) (xs : List Sum) → AreSums s xs → list_all is_plain_sum xs ≡ true
plain_sums s [] i = refl
plain_sums s (x ∷ xs) i = both (is_plain_sum x) (list_all is_plain_sum xs) (plain_sum s x i.0) (plain_sums s xs i.1)

plain_expression : (s : Scope) (x : Expression) → IsInitializer s x → is_plain_expression x ≡ true
plain_expression s (expression.Sum x) i = plain_sum s x i
plain_expression s (expression.Call c) i = plain_sums s c.args i.1

plain_items : (s : Scope) (items : List Item) → AreItems s items → list_all is_plain_item items ≡ true
plain_items s [] i = refl
plain_items s (item.Import names ∷ items) i = absurd i
plain_items s (item.Declaration kind x e ∷ items) i = both (is_plain_expression e) (list_all is_plain_item items) (plain_expression s e i.1) (plain_items (with_declared s x) items i.2)
plain_items s (item.Expression c ∷ items) i = both (is_plain_item (item.Expression c)) (list_all is_plain_item items) (plain_sums s c.args (i.0).1) (plain_items s items i.1)

module_items : (hosts : List (List ℕ)) (items : List Item) → AreModuleItems hosts items → list_all is_plain_item items ≡ true
module_items hosts [] i = refl
module_items hosts (item.Import [] ∷ items) i = absurd i
module_items hosts (item.Import (n ∷ names) ∷ items) i = plain_items (record { imported = n ∷ names; declared = [] }) items i.1
module_items hosts (item.Declaration kind x e ∷ items) i = plain_items (record { imported = []; declared = [] }) (item.Declaration kind x e ∷ items) i
module_items hosts (item.Expression c ∷ items) i = plain_items (record { imported = []; declared = [] }) (item.Expression c ∷ items) i

pub plain_module : (hosts : List (List ℕ)) (m : Module) → IsWellFormed hosts m → list_all is_plain_item m.items ≡ true
plain_module hosts m i = module_items hosts m.items i
