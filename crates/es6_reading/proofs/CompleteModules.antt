-- Modules that are derived are read, if statements, declarations, functions, classes and expressions are.
use Rattle.std.proofs.Common.{◌≡◌, true, List, [], ◌∷◌, refl}
use Rattle.es6_lexer.specs.declared.token.TokenKind.TheVariants as kinds
use Rattle.es6_ast.specs.declared.tree.Class.{Class}
use Rattle.es6_ast.specs.declared.tree.Expression.{Expression}
use Rattle.es6_ast.specs.declared.tree.Function.{Function}
use Rattle.es6_ast.specs.declared.tree.Statement.{Statement}
use Rattle.es6_ast.specs.declared.operators.VariableKind.TheVariants.{Var}
use Rattle.es6_ast.specs.declared.module.Module.{Module}
use Rattle.es6_ast.specs.declared.module.Item.{Item}
use Rattle.es6_ast.specs.declared.settings.Stand.TheVariants.{Listed}
use Rattle.es6_ast.specs.Tokens.{Filled, Read}
use Rattle.es6_ast.specs.Grammar.{of_module, IsExpression, level_assignment, IsFunction, IsClass, IsDeclaration, IsStatement, IsListed}
use Rattle.es6_ast.specs.Modules as m
use Rattle.es6_ast.specs.Modules.{IsItem, AreItems, IsModule}
use Rattle.es6_reading.specs.Laws.{IsComplete}
use Rattle.es6_reading.proofs.CompleteImports.{alone-exact, clause-exact}
use Rattle.es6_reading.proofs.CompleteExports.{export-all-exact, export-from-exact, export-names-exact}
use Rattle.es6_reading.proofs.CompleteClaims.{Claim}
use Rattle.es6_reading.proofs.CompleteStatements.{Quiet, quiet-kind, StatementClaim}
use Rattle.es6_reading.proofs.CompleteDeclarations.{DeclarationClaim}
use Rattle.es6_reading.proofs.CompleteItems.{ItemClaim, statement-claim, import-claim, export-claim, ItemsRead, items-none, items-next, ModuleRead, module-read}
use Rattle.es6_reading.proofs.CompleteFunctions.{FunctionClaim}
use Rattle.es6_reading.proofs.CompleteClasses.{ClassClaim}
use Rattle.es6_reading.proofs.CompleteDeclared.{default-function-item, default-class-item, default-value-item, declaration-item, variables-item}

-- what stands in items is read
pub record PartsAreRead : Type 0 where
  pub expression : (ts us : List Filled) (x : Expression) → IsExpression of_module level_assignment ts x us → Claim of_module 1 ts us x
  pub function : (ts us : List Filled) (h : Function) → IsFunction true ts h us → FunctionClaim true ts h us
  pub class : (ts us : List Filled) (c : Class) → IsClass of_module true ts c us → ClassClaim of_module true ts c us
  pub declaration : (ts us : List Filled) (x : Statement) → IsDeclaration of_module ts x us → DeclarationClaim of_module ts x us
  pub statement : (ts us : List Filled) (x : Statement) → IsStatement of_module ts x us → StatementClaim of_module Listed ts us x
  pub listed : (ts us : List Filled) (x : Statement) → IsListed of_module ts x us → StatementClaim of_module Listed ts us x

item-claim : PartsAreRead → {ts us : List Filled} {x : Item} → IsItem ts x us → ItemClaim ts us x
item-claim p (m.import_alone s x w d h e) = import-claim w (alone-exact d h e)
item-claim p (m.import_from default_ names s x w d fr e) = import-claim w (clause-exact d fr e)
item-claim p (m.export_all s x w q fr e) = export-claim w (export-all-exact q fr e)
item-claim p (m.export_from ns s x w q d fr e) = export-claim w (export-from-exact q d fr e)
item-claim p (m.export_names ns x w q d h e) = export-claim w (export-names-exact q d h e)
item-claim p (m.export_variables span parts x w d e) = variables-item span Var parts w d (p.statement _ _ _ d) e
item-claim p (m.export_declaration s x w d e) = declaration-item w (p.declaration _ _ s d) e
item-claim p (m.default_function g x w d h e) = default-function-item w d (p.function _ _ g h) e
item-claim p (m.default_class c x w d h e) = default-class-item w d (p.class _ _ c h) e
item-claim p (m.default_value y x w d n n' v h e) = default-value-item w d n n' (p.expression _ _ y v) h e
item-claim p (m.statement_item s x d e) = statement-claim (p.listed _ _ s d) e

-- the items up to the end of the text
record ItemsClaim (ts us : List Filled) (xs : List Item) : Type 0 where
  quiet : Quiet ts
  reads : ItemsRead ts xs us

items-claim : PartsAreRead → {e : Filled} {ts : List Filled} {xs : List Item} → AreItems ts xs (e ∷ []) → e.kind ≡ Read kinds.End → ItemsClaim ts (e ∷ []) xs
items-claim p {e = e} m.no_item h = record { quiet = quiet-kind e [] _ h refl; reads = items-none h }
items-claim p (m.next_item x xs d ds) h = let c = item-claim p d in let rest = items-claim p ds h in record { quiet = c.quiet; reads = items-next c rest.quiet rest.reads }

module-claim : PartsAreRead → (tokens : List Filled) (x : Module) → IsModule tokens x → ModuleRead tokens x
module-claim p tokens x (m.module_ items x' d h e) = module-read (items-claim p d h).reads h e

pub modules-are-read : PartsAreRead → IsComplete
modules-are-read p tokens x d = let c = module-claim p tokens x d in (c.bound, λ fuel room last a b. c.reads fuel fuel room a a b last)
