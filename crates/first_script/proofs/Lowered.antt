-- What each node of a module becomes in the script: the same node, where each declared name has the suffix.
use Rattle.std.proofs.Common.{ℕ, List, [], ◌∷◌, ◌++◌}
use Rattle.first_trees.specs.declared.Item.{Item}
use Rattle.first_trees.specs.declared.Item.TheVariants as item
use Rattle.first_trees.specs.declared.DeclarationKind.{DeclarationKind}
use Rattle.first_trees.specs.declared.Expression.{Expression}
use Rattle.first_trees.specs.declared.Expression.TheVariants as expression
use Rattle.first_trees.specs.declared.Call.{Call}
use Rattle.first_trees.specs.declared.Sum.{Sum}
use Rattle.first_trees.specs.declared.Term.{Term}
use Rattle.first_trees.specs.declared.Term.TheVariants as term
use Rattle.first_target.specs.declared.Stat5.{Stat5}
use Rattle.first_target.specs.declared.Stat5.TheVariants as stat
use Rattle.first_target.specs.declared.Expr5.{Expr5}
use Rattle.first_target.specs.declared.Expr5.TheVariants as expr
use Rattle.first_target.specs.declared.Call5.{Call5}
use Rattle.first_target.specs.declared.Sum5.{Sum5}
use Rattle.first_target.specs.declared.Term5.{Term5}
use Rattle.first_target.specs.declared.Term5.TheVariants as term5

pub data LowersTerm (suffix : List ℕ) : Term → Term5 → Type 0 where
  low_integer : {at value : ℕ} → LowersTerm suffix (term.Integer at value) (term5.Integer value)
  low_text : {at : ℕ} {units : List ℕ} → LowersTerm suffix (term.Text at units) (term5.Text units)
  low_name : {at at5 : ℕ} {name : List ℕ} → LowersTerm suffix (term.Name at name) (term5.Name at5 (name ++ suffix))

pub data LowersTerms (suffix : List ℕ) : List Term → List Term5 → Type 0 where
  no_terms : LowersTerms suffix [] []
  more_terms : {x : Term} {y : Term5} {xs : List Term} {ys : List Term5} → LowersTerm suffix x y → LowersTerms suffix xs ys → LowersTerms suffix (x ∷ xs) (y ∷ ys)

pub record LowersSum (suffix : List ℕ) (x : Sum) (y : Sum5) : Type 0 where
  pub first : LowersTerm suffix x.first y.first
  pub rest : LowersTerms suffix x.rest y.rest

pub data LowersSums (suffix : List ℕ) : List Sum → List Sum5 → Type 0 where
  no_sums : LowersSums suffix [] []
  more_sums : {x : Sum} {y : Sum5} {xs : List Sum} {ys : List Sum5} → LowersSum suffix x y → LowersSums suffix xs ys → LowersSums suffix (x ∷ xs) (y ∷ ys)

pub data LowersCall (suffix : List ℕ) : Call → Call5 → Type 0 where
  low_call : {at at5 : ℕ} {callee : List ℕ} {xs : List Sum} {ys : List Sum5} → LowersSums suffix xs ys → LowersCall suffix (record { at = at; callee = callee; args = xs }) (record { at = at5; callee = callee; args = ys })

pub data LowersExpression (suffix : List ℕ) : Expression → Expr5 → Type 0 where
  low_sum : {x : Sum} {y : Sum5} → LowersSum suffix x y → LowersExpression suffix (expression.Sum x) (expr.Sum y)
  low_called : {x : Call} {y : Call5} → LowersCall suffix x y → LowersExpression suffix (expression.Call x) (expr.Call y)

-- an import has no statement
pub data LowersItems (suffix : List ℕ) : List Item → List Stat5 → Type 0 where
  no_items : LowersItems suffix [] []
  low_declaration : {at5 : ℕ} {kind : DeclarationKind} {name : List ℕ} {e : Expression} {e5 : Expr5} {items : List Item} {stats : List Stat5} → LowersExpression suffix e e5 → LowersItems suffix items stats → LowersItems suffix (item.Declaration kind name e ∷ items) (stat.Var at5 (name ++ suffix) e5 ∷ stats)
  low_statement : {c : Call} {c5 : Call5} {items : List Item} {stats : List Stat5} → LowersCall suffix c c5 → LowersItems suffix items stats → LowersItems suffix (item.Expression c ∷ items) (stat.Expression (expr.Call c5) ∷ stats)

-- the statements of a module after the directive: a first import has none
pub data LowersModule (suffix : List ℕ) : List Item → List Stat5 → Type 0 where
  low_import : {names : List (List ℕ)} {items : List Item} {stats : List Stat5} → LowersItems suffix items stats → LowersModule suffix (item.Import names ∷ items) stats
  low_plain : {items : List Item} {stats : List Stat5} → LowersItems suffix items stats → LowersModule suffix items stats
