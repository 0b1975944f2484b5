-- Which tokens of a text spell a module: those that its grammar derives once semicolons are inserted among them (ECMA-262,
-- 6th edition, 11.9).
use Rattle.std.specs.Prelude.{◌≡◌, ℕ, Bool, true, false, ◌||◌, List, [], ◌∷◌, ◌++◌, map}
use Rattle.es6_lexer.specs.declared.token.Token.{Token}
use Rattle.es6_lexer.specs.declared.token.TokenKind.{TokenKind}
use Rattle.es6_lexer.specs.declared.token.TokenKind.TheVariants.{Punctuator, End}
use Rattle.es6_lexer.specs.declared.token.Punctuator.TheVariants.{RightBrace}
use Rattle.es6_ast.specs.declared.tree.Expression.{Expression}
use Rattle.es6_ast.specs.declared.tree.Statement.{Statement}
use Rattle.es6_ast.specs.declared.module.Module.{Module}
use Rattle.es6_ast.specs.declared.settings.Flags.{Flags}
use Rattle.es6_ast.specs.Tokens.{Inserted, Filled, read, end_of}
use Rattle.es6_ast.specs.Grammar.{IsExpression, IsListed}
use Rattle.es6_ast.specs.Modules.{IsModule}

-- some row of the grammar begins with these tokens
abbrev pub Begins : (List Filled → Type 0) → List Filled → Type 0
Begins Full tokens = (rest : List Filled) × Full (tokens ++ rest)

-- the semicolon that is inserted after these tokens
abbrev pub inserted : Bool → List Filled → Filled
inserted do_while before = record { kind = Inserted do_while; span = record { begin = end_of 0 before; end = end_of 0 before }; newline = false }

abbrev pub ends_group : TokenKind → Bool
ends_group (Punctuator RightBrace) = true
ends_group End = true
ends_group _ = false

-- A semicolon is inserted before a token that a line terminator precedes, before `}` and at the end. One that ends a
-- do-while is inserted before any token.
abbrev pub may_precede : Bool → Token → Bool
may_precede true t = true
may_precede false t = t.newline || ends_group t.kind

-- The tokens that stand before the second list, with semicolons inserted, after the filled tokens `before`. A semicolon is
-- inserted only before a token with which no row of the grammar goes on. The grammar itself takes none as an empty statement,
-- in a for header, or with the wrong mark for a do-while.
pub data Fills (Full : List Filled → Type 0) : List Filled → List Token → List Filled → List Token → Type 0 where
  done : {before : List Filled} {us : List Token} → Fills Full before us [] us
  keeps : {before filled : List Filled} {t : Token} {ts us : List Token} → Fills Full (before ++ read t ∷ []) ts filled us → Fills Full before (t ∷ ts) (read t ∷ filled) us
  inserts : {before filled : List Filled} {t : Token} {ts us : List Token} (do_while : Bool) → (Begins Full (before ++ read t ∷ []) → ⊥) → may_precede do_while t ≡ true → Fills Full (before ++ inserted do_while before ∷ []) (t ∷ ts) filled us → Fills Full before (t ∷ ts) (inserted do_while before ∷ filled) us

-- the tokens, up to the end of the text, spell the module
pub record SpellsModule (tokens : List Token) (m : Module) : Type 0 where
  pub filled : List Filled
  pub fills : Fills (λ row. (n : Module) × IsModule row n) [] tokens filled []
  pub spelled : IsModule filled m

-- Tokens that go on with `rest` begin with an Expression, or with a statement or declaration, by itself: its semicolons are
-- inserted in the same way, by its own production.
pub record SpellsExpression (f : Flags) (level : ℕ) (tokens : List Token) (x : Expression) (rest : List Token) : Type 0 where
  pub filled : List Filled
  pub fills : Fills (λ row. (y : Expression) × IsExpression f level row y []) [] tokens filled rest
  pub spelled : IsExpression f level (filled ++ map read rest) x (map read rest)

pub record SpellsStatement (f : Flags) (tokens : List Token) (s : Statement) (rest : List Token) : Type 0 where
  pub filled : List Filled
  pub fills : Fills (λ row. (r : Statement) × IsListed f row r []) [] tokens filled rest
  pub spelled : IsListed f (filled ++ map read rest) s (map read rest)
