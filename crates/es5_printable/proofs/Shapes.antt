-- What is shown of each node that fits: before any pieces that follow, pieces exist whose tokens are the node, wherever they stand.
use Rattle.std.proofs.Common.{◌≡◌, ℕ, ◌+◌, ◌≤◌, Bool, true, false, ◌&&◌, ◌||◌, not, List, ◌∷◌, length, Some, refl, arith}
use Rattle.std.specs.Prelude.{codes}
use Rattle.std.proofs.lemmas.Bool.{leb-true}
use Rattle.es_text.specs.declared.Span.{Span}
use Rattle.es5_ast.specs.declared.operators.Literal5.{Literal5}
use Rattle.es5_ast.specs.declared.operators.Literal5.TheVariants as literals
use Rattle.es5_ast.specs.declared.operators.Key5.{Key5}
use Rattle.es5_ast.specs.declared.operators.Key5.TheVariants as keys
use Rattle.es5_ast.specs.declared.tree.Identifier5.{Identifier5}
use Rattle.es5_ast.specs.declared.tree.PlacedKey5.{PlacedKey5}
use Rattle.es5_ast.specs.declared.tree.Element5.{Element5}
use Rattle.es5_ast.specs.declared.tree.Expr5.{Expr5}
use Rattle.es5_ast.specs.declared.tree.ForFirst5.{ForFirst5}
use Rattle.es5_ast.specs.declared.tree.Link5.{Link5}
use Rattle.es5_ast.specs.declared.tree.Property5.{Property5}
use Rattle.es5_ast.specs.declared.tree.Stat5.{Stat5}
use Rattle.es5_ast.specs.declared.tree.Block5.{Block5}
use Rattle.es5_ast.specs.declared.tree.Case5.{Case5}
use Rattle.es5_ast.specs.declared.tree.Catch5.{Catch5}
use Rattle.es5_ast.specs.declared.tree.Condition5.{Condition5}
use Rattle.es5_ast.specs.declared.tree.Declared5.{Declared5}
use Rattle.es5_ast.specs.declared.tree.Function5.{Function5, roll-Function5}
use Rattle.es5_ast.specs.declared.tree.Operand5.{Operand5}
use Rattle.es5_ast.specs.Lexical.{Kind5, Word, Punctuator, Token5}
use Rattle.es5_ast.specs.Grammar as g
use Rattle.es5_ast.specs.Grammar.{Aside, is_word, begins, literal_kind, key_kind, is_identifier, IsIdentifier, IsKey, AreParameters, IsExpr, IsNode, AreElements, IsProperty, IsAccessor, AreLinks, AreOperands, IsFunction, IsStat, IsBlock, AreCases, IsCatch, IsCondition, IsForFirst, IsDeclared, IsLabel}
use Rattle.es5_printer.specs.Pieces.{Piece, Lexeme, word, mark}
use Rattle.es5_printer.proofs.Tokens.{Spots, tokens, IsSpelled, AreSpelled, sign}
use Rattle.es5_printable.specs.Printable.{FitExpr, FitLink, FitOperand, FitFunction, FitStat, FitCase, FitCondition, is_literal, is_key, element_fit, expr_fit, for_first_fit, link_fit, property_fit, stat_fit, block_fit, case_fit, catch_fit, condition_fit, declared_fit, function_fit, operand_fit}

abbrev pub toks : Spots → List Piece → List Token5
toks spots ps = tokens spots false ps

-- pieces before `rest` whose tokens are in the relation
abbrev pub Made : (List Token5 → List Token5 → Type 0) → List Piece → Type 0
Made R rest = (ps : List Piece) × ((spots : Spots) → R (toks spots ps) (toks spots rest)) × (AreSpelled false rest → AreSpelled false ps)

-- the same after a word or a mark that is given
abbrev pub MadeAfter : Kind5 → (List Token5 → List Token5 → Type 0) → List Piece → Type 0
MadeAfter kind R rest = (ps : List Piece) × ((spots : Spots) → R (toks spots (Lexeme kind ∷ ps)) (toks spots rest)) × (AreSpelled false rest → AreSpelled false ps)

abbrev pub NotFirst : List ℕ → List Piece → Type 0
NotFirst w ps = (spots : Spots) → begins (is_word w) (toks spots ps) ≡ false

-- the same, and no `else` comes first
abbrev pub MadeClosed : (List Token5 → List Token5 → Type 0) → List Piece → Type 0
MadeClosed R rest = (ps : List Piece) × NotFirst (codes "else") ps × ((spots : Spots) → R (toks spots ps) (toks spots rest)) × (AreSpelled false rest → AreSpelled false ps)

-- an expression fits in each place, since it is put in parentheses
abbrev pub IsPlaced : Expr5 → List Token5 → List Token5 → Type 0
IsPlaced x ts us = (no_in : Bool) (least : ℕ) → IsExpr Aside no_in least ts x us

abbrev pub ExprMade : Expr5 → Type 0
ExprMade x = (rest : List Piece) → MadeAfter (Punctuator (codes "(")) (IsPlaced x) rest

abbrev pub NodeMade : Expr5 → Type 0
NodeMade x = (rest : List Piece) → Made (λ ts us. (level : ℕ) × IsNode Aside false level ts x us) rest

abbrev pub ElementOf : Bool → Element5 → Type 0
ElementOf fits e = fits ≡ true → (xs : List Element5) (rest : List Piece) → Made (λ ts us. AreElements Aside ts xs us) rest → Made (λ ts us. AreElements Aside ts (e ∷ xs) us) rest

abbrev pub ExprOf : FitExpr → Expr5 → Type 0
ExprOf fit x = fit.fits ≡ true → ExprMade x

abbrev pub ForFirstOf : Bool → ForFirst5 → Type 0
ForFirstOf fits x = fits ≡ true → (rest : List Piece) → Made (λ ts us. IsForFirst Aside ts x us) rest

abbrev pub LinksMade : List Link5 → List Piece → Type 0
LinksMade links rest = Made (λ ts us. (calls : Bool) × AreLinks Aside calls ts links us) rest

abbrev pub LinkOf : FitLink → Link5 → Type 0
LinkOf fit l = (fit.fits ≡ true → (links : List Link5) (rest : List Piece) → LinksMade links rest → LinksMade (l ∷ links) rest)
    × ((links : List Link5) → length (g.link_sites (l ∷ links)) ≡ fit.sites + length (g.link_sites links))

abbrev pub PropertyOf : Bool → Property5 → Type 0
PropertyOf fits p = fits ≡ true → (rest : List Piece) → Made (λ ts us. IsProperty Aside ts p us) rest

-- a statement, before which and, if it is open, after which no `else` comes
pub record StatMade (is_if inside top : Bool) (s : Stat5) (rest : List Piece) : Type 0 where
  pub pieces : List Piece
  pub no_else : NotFirst (codes "else") pieces
  pub no_if : is_if ≡ false → NotFirst (codes "if") pieces
  pub derived : (spots : Spots) → IsStat Aside inside top (toks spots pieces) s (toks spots rest)
  pub spelled : AreSpelled false rest → AreSpelled false pieces

abbrev pub StatOf : FitStat → Stat5 → Type 0
StatOf fit s = (inside top : Bool) → fit.fits inside top ≡ true → (rest : List Piece) → (fit.is_open ≡ true → NotFirst (codes "else") rest) → StatMade fit.is_if inside top s rest

abbrev pub BlockOf : (Bool → Bool) → Block5 → Type 0
BlockOf fits b = (inside : Bool) → fits inside ≡ true → (rest : List Piece) → MadeAfter (Punctuator (codes "{")) (λ ts us. IsBlock Aside inside ts b us) rest

abbrev pub CaseOf : FitCase → Case5 → Type 0
CaseOf fit c = (inside may : Bool) → fit.fits inside ≡ true → (not fit.is_default || may) ≡ true → (cs : List Case5) (rest : List Piece)
    → MadeClosed (λ ts us. AreCases Aside inside (not fit.is_default && may) ts cs us) rest → MadeClosed (λ ts us. AreCases Aside inside may ts (c ∷ cs) us) rest

abbrev pub CatchOf : (Bool → Bool) → Catch5 → Type 0
CatchOf fits c = (inside : Bool) → fits inside ≡ true → (rest : List Piece) → Made (λ ts us. IsCatch Aside inside ts c us) rest

abbrev pub ConditionOf : FitCondition → Condition5 → Type 0
ConditionOf fit c = (inside : Bool) → fit.fits inside ≡ true → (rest : List Piece) → (fit.is_open ≡ true → NotFirst (codes "else") rest)
    → MadeAfter (Word (codes "if")) (λ ts us. IsCondition Aside inside ts c us) rest

abbrev pub DeclaredOf : Bool → Declared5 → Type 0
DeclaredOf fits d = fits ≡ true → (rest : List Piece) → Made (λ ts us. (no_in : Bool) → IsDeclared Aside no_in ts d us) rest

pub record IsNamed (f : Function5) : Type 0 where
  pub span : Span
  pub name : Identifier5
  pub parameters : List Identifier5
  pub body : List Stat5
  pub is : f ≡ roll-Function5 (record { span = span; name = Some name; parameters = parameters; body = body })

pub record FunctionOf (fit : FitFunction) (f : Function5) : Type 0 where
  pub made : fit.fits ≡ true → (rest : List Piece) → MadeAfter (Word (codes "function")) (λ ts us. IsFunction Aside ts f us) rest
  pub named : fit.is_named ≡ true → IsNamed f
  pub getter : fit.fits ≡ true → fit.is_named ≡ false → fit.parameters ≡ 0 → (rest : List Piece) → Made (λ ts us. IsAccessor Aside false ts f us) rest
  pub setter : fit.fits ≡ true → fit.is_named ≡ false → fit.parameters ≡ 1 → (rest : List Piece) → Made (λ ts us. IsAccessor Aside true ts f us) rest

abbrev pub OperandOf : FitOperand → Operand5 → Type 0
OperandOf fit o = fit.fits ≡ true → (level : ℕ) → fit.level ≡ level → (os : List Operand5) (rest : List Piece)
    → Made (λ ts us. AreOperands Aside false level ts os us) rest → Made (λ ts us. AreOperands Aside false level ts (o ∷ os) us) rest

-- the same by what the fold gives for the node
abbrev pub OfElement : Element5 → Type 0
OfElement x = ElementOf (element_fit x) x

abbrev pub OfExpr : Expr5 → Type 0
OfExpr x = ExprOf (expr_fit x) x

abbrev pub OfForFirst : ForFirst5 → Type 0
OfForFirst x = ForFirstOf (for_first_fit x) x

abbrev pub OfLink : Link5 → Type 0
OfLink x = LinkOf (link_fit x) x

abbrev pub OfProperty : Property5 → Type 0
OfProperty x = PropertyOf (property_fit x) x

abbrev pub OfStat : Stat5 → Type 0
OfStat x = StatOf (stat_fit x) x

abbrev pub OfBlock : Block5 → Type 0
OfBlock x = BlockOf (block_fit x) x

abbrev pub OfCase : Case5 → Type 0
OfCase x = CaseOf (case_fit x) x

abbrev pub OfCatch : Catch5 → Type 0
OfCatch x = CatchOf (catch_fit x) x

abbrev pub OfCondition : Condition5 → Type 0
OfCondition x = ConditionOf (condition_fit x) x

abbrev pub OfDeclared : Declared5 → Type 0
OfDeclared x = DeclaredOf (declared_fit x) x

abbrev pub OfFunction : Function5 → Type 0
OfFunction x = FunctionOf (function_fit x) x

abbrev pub OfOperand : Operand5 → Type 0
OfOperand x = OperandOf (operand_fit x) x

pub grouped : {x : Expr5} → NodeMade x → ExprMade x
grouped n rest =
    let (ps, d, s) = n (mark (codes ")") rest) in
    (ps, λ spots no_in least. g.group refl (g.bare (d spots).0 (from_zero (d spots).0) (d spots).1) refl, λ q. s (sign.right_paren, q))
  where
    from_zero : (n : ℕ) → 0 ≤ n
    from_zero n = omega arith

pub placed : {x : Expr5} → ExprMade x → (rest : List Piece) → Made (IsPlaced x) rest
placed m rest = let (ps, d, s) = m rest in (mark (codes "(") ps, d, λ q. (sign.left_paren, s q))

pub literal_known : (value : Literal5) → is_literal value ≡ true → IsSpelled (literal_kind value)
literal_known literals.Null h = refl
literal_known (literals.Truth true) h = refl
literal_known (literals.Truth false) h = refl
literal_known (literals.Integer value) h = leb-true value 9007199254740991 h
literal_known (literals.Text units) h = h

pub key_known : (key : Key5) → is_key key ≡ true → IsSpelled (key_kind key)
key_known (keys.WordKey name) h = h
key_known (keys.TextKey units) h = h
key_known (keys.IntegerKey value) h = leb-true value 9007199254740991 h

pub key_made : (spots : Spots) (k : PlacedKey5) (rest : List Piece) → IsKey Aside (toks spots (Lexeme (key_kind k.key) ∷ rest)) k (toks spots rest)
key_made spots k rest = record { token = _; first = refl; kind = refl; spans = tt }

pub identifier_made : (spots : Spots) (x : Identifier5) (rest : List Piece) → is_identifier x.name ≡ true → IsIdentifier Aside (toks spots (word x.name rest)) x (toks spots rest)
identifier_made spots x rest free = record { token = _; first = refl; word = refl; free = free; spans = tt }
