-- What a module has to keep besides its grammar: which names stand where (ECMA-262, 6th edition, 12.1.1 and 15.2.1.1), and the
-- bounds of this project's profile.
use Rattle.std.specs.Prelude.{◌≡◌, ℕ, ◌≤◌, Bool, true, false, ◌&&◌, not, ◌==◌, List, [], ◌∷◌, ◌++◌, nat_le}
use Rattle.std.specs.List.{list_all}
use Rattle.first_trees.specs.declared.Module.{Module}
use Rattle.first_trees.specs.declared.Item.{Item}
use Rattle.first_trees.specs.declared.Item.TheVariants as item
use Rattle.first_trees.specs.declared.Expression.{Expression}
use Rattle.first_trees.specs.declared.Expression.TheVariants as expression
use Rattle.first_trees.specs.declared.Call.{Call}
use Rattle.first_trees.specs.declared.Sum.{Sum}
use Rattle.first_trees.specs.declared.Term.{Term}
use Rattle.first_trees.specs.declared.Term.TheVariants as term
use Rattle.first_forms.specs.Names.{is_one_of, IsBindable}

-- the names that are imported, and those that are declared so far, both in text order
pub record Scope : Type 0 where
  pub imported : List (List ℕ)
  pub declared : List (List ℕ)

abbrev pub with_declared : Scope → List ℕ → Scope
with_declared s name = record s { declared = s.declared ++ name ∷ [] }

-- the greatest safe integer, 2^53 - 1
abbrev pub max_integer : ℕ
max_integer = 9007199254740991

-- a printable ASCII character but for `"` and `\`
abbrev pub is_text_unit : ℕ → Bool
is_text_unit u = nat_le 0x20 u && nat_le u 0x7e && not (u == 34) && not (u == 92)

abbrev pub place_of : Term → ℕ
place_of (term.Integer place value) = place
place_of (term.Text place units) = place
place_of (term.Name place name) = place

-- a name is declared by an earlier item
abbrev pub IsTerm : Scope → Term → Type 0
IsTerm s (term.Integer place value) = value ≤ max_integer
IsTerm s (term.Text place units) = list_all is_text_unit units ≡ true
IsTerm s (term.Name place name) = is_one_of name s.declared ≡ true

abbrev pub AreTerms : Scope → List Term → Type 0
AreTerms s [] = Unit {0}
AreTerms s (x ∷ xs) = IsTerm s x × AreTerms s xs

-- a sum stands where its first term stands
abbrev pub IsSum : Scope → Sum → Type 0
IsSum s x = (x.at ≡ place_of x.first) × IsTerm s x.first × AreTerms s x.rest

abbrev pub AreSums : Scope → List Sum → Type 0
AreSums s [] = Unit {0}
AreSums s (x ∷ xs) = IsSum s x × AreSums s xs

-- the callee is imported
abbrev pub IsCall : Scope → Call → Type 0
IsCall s c = (is_one_of c.callee s.imported ≡ true) × AreSums s c.args

abbrev pub IsInitializer : Scope → Expression → Type 0
IsInitializer s (expression.Sum x) = IsSum s x
IsInitializer s (expression.Call c) = IsCall s c

-- no name is bound twice
pub record CanDeclare (s : Scope) (name : List ℕ) : Type 0 where
  pub bindable : IsBindable name
  pub not_imported : is_one_of name s.imported ≡ false
  pub not_declared : is_one_of name s.declared ≡ false

-- the items after the import; a name is in scope from the item after its declaration on
abbrev pub AreItems : Scope → List Item → Type 0
AreItems s [] = Unit {0}
AreItems s (item.Import names ∷ items) = ⊥
AreItems s (item.Declaration kind name init ∷ items) =
    CanDeclare s name × IsInitializer s init × AreItems (with_declared s name) items
AreItems s (item.Expression c ∷ items) = IsCall s c × AreItems s items

-- a host's name, imported once
pub record CanImport (hosts imported : List (List ℕ)) (name : List ℕ) : Type 0 where
  pub host : is_one_of name hosts ≡ true
  pub bindable : IsBindable name
  pub once : is_one_of name imported ≡ false

-- the names of the import, where those of `imported` stand before them
abbrev pub AreImports : List (List ℕ) → List (List ℕ) → List (List ℕ) → Type 0
AreImports hosts imported [] = Unit {0}
AreImports hosts imported (n ∷ ns) = CanImport hosts imported n × AreImports hosts (imported ++ n ∷ []) ns

-- an import stands at most once, at first, and imports a name at least
abbrev pub AreModuleItems : List (List ℕ) → List Item → Type 0
AreModuleItems hosts (item.Import [] ∷ items) = ⊥
AreModuleItems hosts (item.Import (n ∷ ns) ∷ items) =
    AreImports hosts [] (n ∷ ns) × AreItems (record { imported = n ∷ ns; declared = [] }) items
AreModuleItems hosts items = AreItems (record { imported = []; declared = [] }) items

abbrev pub IsWellFormed : List (List ℕ) → Module → Type 0
IsWellFormed hosts m = AreModuleItems hosts m.items
