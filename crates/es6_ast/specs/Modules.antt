-- The grammar of modules: imports, exports and the whole (ECMA-262, 6th edition, 15.2).
use Rattle.std.specs.Prelude.{◌≡◌, ℕ, Bool, true, false, List, [], ◌∷◌, codes, Option, Some, None}
use Rattle.es_text.specs.declared.Span.{Span}
use Rattle.es6_lexer.specs.declared.token.TokenKind.TheVariants.{Text, End}
use Rattle.es6_lexer.specs.declared.token.Punctuator.TheVariants as mark
use Rattle.es6_ast.specs.declared.operators.VariableKind.TheVariants.{Var}
use Rattle.es6_ast.specs.declared.tree.Identifier.{Identifier}
use Rattle.es6_ast.specs.declared.tree.Expression.{Expression}
use Rattle.es6_ast.specs.declared.tree.Statement.{Statement}
use Rattle.es6_ast.specs.declared.tree.Statement.TheVariants as stat
use Rattle.es6_ast.specs.declared.tree.Part.{Part}
use Rattle.es6_ast.specs.declared.tree.Function.{Function}
use Rattle.es6_ast.specs.declared.tree.Class.{Class}
use Rattle.es6_ast.specs.declared.module.Module.{Module}
use Rattle.es6_ast.specs.declared.module.Item.{Item}
use Rattle.es6_ast.specs.declared.module.Item.TheVariants as item
use Rattle.es6_ast.specs.declared.module.Specifier.{Specifier}
use Rattle.es6_ast.specs.declared.module.ImportedNames.{ImportedNames}
use Rattle.es6_ast.specs.declared.module.ImportedNames.TheVariants.{NoNames, Namespace, Listed}
use Rattle.es6_ast.specs.declared.module.ImportName.{ImportName}
use Rattle.es6_ast.specs.declared.module.ExportName.{ExportName}
use Rattle.es6_ast.specs.declared.module.DefaultExport.TheVariants.{DefaultFunction, DefaultClass, DefaultValue}
use Rattle.es6_ast.specs.Tokens.{Read, Filled, IsWord, IsMark, across}
use Rattle.es6_ast.specs.Grammar.{IsEnd, NotWord, IsName, IsAnyName, IsExpression, level_assignment, of_module, IsFunction, IsClass, IsListed, IsDeclaration, IsStatement}

-- ModuleSpecifier
pub data IsSpecifier : List Filled → Specifier → List Filled → Type 0 where
  specifier : {t : Filled} {ts : List Filled} (units : List ℕ) (x : Specifier) → t.kind ≡ Read (Text units) → x ≡ record { span = t.span; text = units } → IsSpecifier (t ∷ ts) x ts

-- FromClause, and the semicolon after it
pub data IsFrom : List Filled → Specifier → List Filled → Type 0 where
  from : {t end : Filled} {ts us : List Filled} (x : Specifier) → IsWord (codes "from") t → IsSpecifier ts x (end ∷ us) → IsEnd end → IsFrom (t ∷ ts) x us

-- ImportSpecifier (15.2.2)
pub data IsImport : List Filled → ImportName → List Filled → Type 0 where
  plain_import : {ts us : List Filled} (n : Identifier) (x : ImportName) → IsName ts n us → x ≡ record { span = n.span; imported = n; local = n } → IsImport ts x us
  renamed_import : {t : Filled} {ts us vs : List Filled} (n m : Identifier) (x : ImportName) → IsAnyName ts n (t ∷ us) → IsWord (codes "as") t → IsName us m vs → x ≡ record { span = across ts vs; imported = n; local = m } → IsImport ts x vs

-- ImportsList, and the closing brace
pub data AreImports : List Filled → List ImportName → List Filled → Type 0 where
  no_import : {close : Filled} {ts : List Filled} → IsMark mark.RightBrace close → AreImports (close ∷ ts) [] ts
  last_import : {close : Filled} {ts us : List Filled} (n : ImportName) → IsImport ts n (close ∷ us) → IsMark mark.RightBrace close → AreImports ts (n ∷ []) us
  next_import : {comma : Filled} {ts us vs : List Filled} (n : ImportName) (ns : List ImportName) → IsImport ts n (comma ∷ us) → IsMark mark.Comma comma → AreImports us ns vs → AreImports ts (n ∷ ns) vs

-- NameSpaceImport and NamedImports
pub data AreNames : List Filled → ImportedNames → List Filled → Type 0 where
  namespace : {star t : Filled} {ts us : List Filled} (n : Identifier) (x : ImportedNames) → IsMark mark.Star star → IsWord (codes "as") t → IsName ts n us → x ≡ Namespace n → AreNames (star ∷ t ∷ ts) x us
  listed : {open_ : Filled} {ts us : List Filled} (ns : List ImportName) (x : ImportedNames) → IsMark mark.LeftBrace open_ → AreImports ts ns us → x ≡ Listed ns → AreNames (open_ ∷ ts) x us

-- ImportClause
pub data IsClause : List Filled → Option Identifier → ImportedNames → List Filled → Type 0 where
  default_alone : {ts us : List Filled} (n : Identifier) → IsName ts n us → IsClause ts (Some n) NoNames us
  names_alone : {ts us : List Filled} (names : ImportedNames) → AreNames ts names us → IsClause ts None names us
  default_and_names : {comma : Filled} {ts us vs : List Filled} (n : Identifier) (names : ImportedNames) → IsName ts n (comma ∷ us) → IsMark mark.Comma comma → AreNames us names vs → IsClause ts (Some n) names vs

-- The name before `as` in an ExportSpecifier (15.2.3): one that may be reserved only where the names come from elsewhere.
pub data IsExported : Bool → List Filled → Identifier → List Filled → Type 0 where
  own_name : {ts us : List Filled} (n : Identifier) → IsName ts n us → IsExported false ts n us
  others_name : {ts us : List Filled} (n : Identifier) → IsAnyName ts n us → IsExported true ts n us

pub data IsExport : Bool → List Filled → ExportName → List Filled → Type 0 where
  plain_export : {others : Bool} {ts us : List Filled} (n : Identifier) (x : ExportName) → IsExported others ts n us → x ≡ record { span = n.span; local = n; exported = n } → IsExport others ts x us
  renamed_export : {others : Bool} {t : Filled} {ts us vs : List Filled} (n m : Identifier) (x : ExportName) → IsExported others ts n (t ∷ us) → IsWord (codes "as") t → IsAnyName us m vs → x ≡ record { span = across ts vs; local = n; exported = m } → IsExport others ts x vs

-- ExportsList, and the closing brace
pub data AreExports : Bool → List Filled → List ExportName → List Filled → Type 0 where
  no_export : {others : Bool} {close : Filled} {ts : List Filled} → IsMark mark.RightBrace close → AreExports others (close ∷ ts) [] ts
  last_export : {others : Bool} {close : Filled} {ts us : List Filled} (n : ExportName) → IsExport others ts n (close ∷ us) → IsMark mark.RightBrace close → AreExports others ts (n ∷ []) us
  next_export : {others : Bool} {comma : Filled} {ts us vs : List Filled} (n : ExportName) (ns : List ExportName) → IsExport others ts n (comma ∷ us) → IsMark mark.Comma comma → AreExports others us ns vs → AreExports others ts (n ∷ ns) vs

-- ModuleItem (15.2.1)
pub data IsItem : List Filled → Item → List Filled → Type 0 where
  -- ImportDeclaration (15.2.2)
  import_alone : {t end : Filled} {ts us : List Filled} (s : Specifier) (x : Item) → IsWord (codes "import") t → IsSpecifier ts s (end ∷ us) → IsEnd end → x ≡ item.Import (across (t ∷ ts) us) None NoNames s → IsItem (t ∷ ts) x us
  import_from : {t : Filled} {ts us vs : List Filled} (default_ : Option Identifier) (names : ImportedNames) (s : Specifier) (x : Item) → IsWord (codes "import") t → IsClause ts default_ names us → IsFrom us s vs → x ≡ item.Import (across (t ∷ ts) vs) default_ names s → IsItem (t ∷ ts) x vs
  -- ExportDeclaration (15.2.3)
  export_all : {t star : Filled} {ts us : List Filled} (s : Specifier) (x : Item) → IsWord (codes "export") t → IsMark mark.Star star → IsFrom ts s us → x ≡ item.ExportAll (across (t ∷ star ∷ ts) us) s → IsItem (t ∷ star ∷ ts) x us
  export_from : {t open_ : Filled} {ts us vs : List Filled} (ns : List ExportName) (s : Specifier) (x : Item) → IsWord (codes "export") t → IsMark mark.LeftBrace open_ → AreExports true ts ns us → IsFrom us s vs → x ≡ item.ExportNames (across (t ∷ open_ ∷ ts) vs) ns (Some s) → IsItem (t ∷ open_ ∷ ts) x vs
  export_names : {t open_ end : Filled} {ts us : List Filled} (ns : List ExportName) (x : Item) → IsWord (codes "export") t → IsMark mark.LeftBrace open_ → AreExports false ts ns (end ∷ us) → IsEnd end → x ≡ item.ExportNames (across (t ∷ open_ ∷ ts) us) ns None → IsItem (t ∷ open_ ∷ ts) x us
  export_variables : {t : Filled} {ts us : List Filled} (span : Span) (parts : List Part) (x : Item) → IsWord (codes "export") t → IsStatement of_module ts (stat.Variables span Var parts) us → x ≡ item.ExportDeclaration (across (t ∷ ts) us) (stat.Variables span Var parts) → IsItem (t ∷ ts) x us
  export_declaration : {t : Filled} {ts us : List Filled} (s : Statement) (x : Item) → IsWord (codes "export") t → IsDeclaration of_module ts s us → x ≡ item.ExportDeclaration (across (t ∷ ts) us) s → IsItem (t ∷ ts) x us
  default_function : {t d : Filled} {ts us : List Filled} (g : Function) (x : Item) → IsWord (codes "export") t → IsWord (codes "default") d → IsFunction true ts g us → x ≡ item.ExportDefault (across (t ∷ d ∷ ts) us) d.span (DefaultFunction g) → IsItem (t ∷ d ∷ ts) x us
  default_class : {t d : Filled} {ts us : List Filled} (c : Class) (x : Item) → IsWord (codes "export") t → IsWord (codes "default") d → IsClass of_module true ts c us → x ≡ item.ExportDefault (across (t ∷ d ∷ ts) us) d.span (DefaultClass c) → IsItem (t ∷ d ∷ ts) x us
  default_value : {t d end : Filled} {ts us : List Filled} (y : Expression) (x : Item) → IsWord (codes "export") t → IsWord (codes "default") d → NotWord (codes "function") ts → NotWord (codes "class") ts → IsExpression of_module level_assignment ts y (end ∷ us) → IsEnd end → x ≡ item.ExportDefault (across (t ∷ d ∷ ts) us) d.span (DefaultValue y) → IsItem (t ∷ d ∷ ts) x us
  -- StatementListItem
  statement_item : {ts us : List Filled} (s : Statement) (x : Item) → IsListed of_module ts s us → x ≡ item.Statement s → IsItem ts x us

-- ModuleItemList
pub data AreItems : List Filled → List Item → List Filled → Type 0 where
  no_item : {ts : List Filled} → AreItems ts [] ts
  next_item : {ts us vs : List Filled} (x : Item) (xs : List Item) → IsItem ts x us → AreItems us xs vs → AreItems ts (x ∷ xs) vs

-- Module (15.2.1): items up to the end of the text
pub data IsModule : List Filled → Module → Type 0 where
  module_ : {end : Filled} {ts : List Filled} (items : List Item) (m : Module) → AreItems ts items (end ∷ []) → end.kind ≡ Read End → m ≡ record { span = record { begin = 0; end = end.span.end }; items = items } → IsModule ts m
