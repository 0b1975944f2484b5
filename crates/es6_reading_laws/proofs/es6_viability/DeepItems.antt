-- How many constructs are open where a reader of imports, exports and items stops.
use Rattle.std.proofs.Common.{◌≡◌, ℕ, true, false, List, Option, refl, arith}
use Rattle.std.specs.Prelude.{codes}
use Rattle.es_text.specs.declared.Span.{Span}
use Rattle.es6_lexer.specs.declared.token.Punctuator.TheVariants as marks
use Rattle.es6_ast.specs.declared.operators.VariableKind.TheVariants.{Var}
use Rattle.es6_ast.specs.declared.tree.Identifier.{Identifier}
use Rattle.es6_ast.specs.declared.module.ExportName.{ExportName}
use Rattle.es6_ast.specs.declared.module.ImportedNames.{ImportedNames}
use Rattle.es6_ast.specs.declared.settings.Stand.TheVariants.{Listed}
use Rattle.es6_ast.specs.Tokens.{Filled, is_identifier}
use Rattle.es6_ast.specs.Grammar.{of_module}
use Rattle.es6_reading.specs.Parser.{take_as, Inner}
use Rattle.es6_reading.specs.Modules as m6
use Rattle.es6_reading.proofs.ShallowItems.{in_item}
use Rattle.es6_reading.proofs.ShallowTokens.{a-word, comma, a-star, right-brace, text}
use Rattle.es6_reading.proofs.SpanCounts.{sum_of}
use Rattle.es6_reading_laws.proofs.es6_viability.Beside.{Both, over, turn}
use Rattle.es6_reading_laws.proofs.es6_viability.Deep.{Spot, At, Ready, ready, begin, and, recount, forget, no_spans, Deep, took, fault, bind, refused-holds, next, ends, on-both, take, close, either, looks, group}
use Rattle.es6_reading_laws.proofs.es6_viability.DeepParts.{Deeper, identifier, name, semicolon_, function, class}
use Rattle.es6_reading_laws.proofs.es6_viability.DeepLevels.{assignment}
use Rattle.es6_reading_laws.proofs.es6_viability.DeepStatements.{StatementAt, variables_statement, on_declaration, statement}

-- ## Imports and exports of names, in which nothing else is open

module _ {all : List Filled} {room g h : ℕ} {s : Spot all} {D : ℕ → ℕ} where
  specifier : (c : Spot all) → At true room s g h c D → Deep (λ x d. At true room s g h d D) m6.specifier m6.specifier c
  unfolding m6.specifier
  specifier c a = bind _ _ (take text a) λ x d b. took _ b

  from_clause : (i j : Inner) → j.inserting ≡ i.inserting → (c : Spot all) → At true room s g h c D → Deep (λ x d. At true room s g h d D) (m6.from_clause i) (m6.from_clause j) c
  unfolding m6.from_clause
  from_clause i j q c a = bind _ _ (take (a-word (codes "from")) a) λ t d b. bind _ _ (specifier d b) λ x e m. bind _ _ (semicolon_ i j q e m) λ u k n. took _ n

  one_import : (c : Spot all) → At true room s g h c D → Deep (λ x d. At true room s g h d D) m6.one_import m6.one_import c
  unfolding m6.one_import
  one_import c a = bind _ _ (name c a) λ n d b. next (a-word (codes "as")) _ _ _ _ b (λ t e k m. bind _ _ (identifier e m) λ x o p. took _ p) (either (is_identifier n.name) _ _ _ _ d (took _ b) (refused-holds d))

  one_export : (c : Spot all) → At true room s g h c D → Deep (λ x d. At true room s g h d D) m6.one_export m6.one_export c
  unfolding m6.one_export
  one_export c a = bind _ _ (name c a) λ n d b. next (a-word (codes "as")) _ _ _ _ b (λ t e k m. bind _ _ (name e m) λ x o p. took _ p) (took _ b)

  namespace : (c : Spot all) → At true room s g h c D → Deep (λ x d. At true room s g h d D) m6.namespace m6.namespace c
  unfolding m6.namespace
  namespace c a = bind _ _ (take (a-word (codes "as")) a) λ t d b. bind _ _ (identifier d b) λ n e m. took _ m

module _ {all : List Filled} {room g : ℕ} {s : Spot all} {D : ℕ → ℕ} where
  imports : {n m : ℕ} (w : Both n m) (c : Spot all) → At true room s g 1 c D → Deep (λ x d. At true room s g 0 d D) (m6.imports n) (m6.imports m) c
  unfolding m6.imports
  imports over c a = fault
  imports (turn {n = n} {m = m} w) c a = ends right-brace _ _ _ _ a (λ t d b. took _ b) (bind _ _ (one_import c a) λ x d b. next comma _ _ _ _ b (λ t e k m. bind _ _ (imports w e m) λ y o p. took _ p) (bind _ _ (close right-brace b) λ t e m. took _ m))

  exports : {n m : ℕ} (w : Both n m) (c : Spot all) → At true room s g 1 c D → Deep (λ x d. At true room s g 0 d D) (m6.exports n) (m6.exports m) c
  unfolding m6.exports
  exports over c a = fault
  exports (turn {n = n} {m = m} w) c a = ends right-brace _ _ _ _ a (λ t d b. took _ b) (bind _ _ (one_export c a) λ x d b. next comma _ _ _ _ b (λ t e k m. bind _ _ (exports w e m) λ y o p. took _ p) (bind _ _ (close right-brace b) λ t e m. took _ m))

-- ## Items

module _ {all : List Filled} (i j : Inner) (room : ℕ) (h : Deeper all i j room) where
  imported_names : {s : Spot all} {D : ℕ → ℕ} (c : Spot all) → At true room s 0 0 c D → Deep (λ x d. At true room s 0 0 d D) (m6.imported_names i) (m6.imported_names j) c
  unfolding m6.imported_names
  imported_names c a = next a-star _ _ _ _ a (λ t d k b. namespace d b) (group i j marks.LeftBrace _ _ _ _ h.opens (refl, refl, refl) a (λ d b. bind _ _ (imports h.turns d b) λ x e m. took _ m) (refused-holds c))

  rest_of_import : {s : Spot all} (at : ℕ) (n : Option Identifier) (names : ImportedNames) (c : Spot all) → At true room s 0 0 c no_spans → Deep (λ x d. At true room s 0 0 d (in_item x)) (m6.rest_of_import i at n names) (m6.rest_of_import j at n names) c
  unfolding m6.rest_of_import
  rest_of_import at n names c a = bind _ _ (from_clause i j h.mode c a) λ x d b. took _ (recount b (λ k. omega arith))

  default_import : {s : Spot all} (at : ℕ) (c : Spot all) → At true room s 0 0 c no_spans → Deep (λ x d. At true room s 0 0 d (in_item x)) (m6.default_import i at) (m6.default_import j at) c
  unfolding m6.default_import
  default_import at c a = bind _ _ (identifier c a) λ n d b. next comma _ _ _ _ b (λ t e k m. bind _ _ (imported_names e m) λ x o p. rest_of_import at _ x o p) (rest_of_import at _ _ d b)

  import_alone : {s : Spot all} (at : ℕ) (c : Spot all) → At true room s 0 0 c no_spans → Deep (λ x d. At true room s 0 0 d (in_item x)) (m6.import_alone i at) (m6.import_alone j at) c
  unfolding m6.import_alone
  import_alone at c a = bind _ _ (specifier c a) λ x d b. bind _ _ (semicolon_ i j h.mode d b) λ t e m. took _ (recount m (λ k. omega arith))

  import_item : {s : Spot all} (at : ℕ) (c : Spot all) → At true room s 0 0 c no_spans → Deep (λ x d. At true room s 0 0 d (in_item x)) (m6.import_item i at) (m6.import_item j at) c
  unfolding m6.import_item
  import_item at c a = looks _ _ _ _ _ c (import_alone at c a) (looks _ _ _ _ _ c (bind _ _ (imported_names c a) λ x d b. rest_of_import at _ x d b) (default_import at c a))

  own_names : {s : Spot all} (at : ℕ) (ns : List ExportName) (c : Spot all) → At true room s 0 0 c no_spans → Deep (λ x d. At true room s 0 0 d (in_item x)) (m6.own_names i at ns) (m6.own_names j at ns) c
  unfolding m6.own_names
  own_names at ns c a = either (m6.are_own ns) _ _ _ _ c (bind _ _ (semicolon_ i j h.mode c a) λ t d b. took _ (recount b (λ k. omega arith))) (refused-holds c)

  export_names : {s : Spot all} (at : ℕ) (c : Spot all) → At true room s 0 0 c no_spans → Deep (λ x d. At true room s 0 0 d (in_item x)) (m6.export_names i at) (m6.export_names j at) c
  unfolding m6.export_names
  export_names at c a = bind _ _ (group i j marks.LeftBrace _ _ _ _ h.opens (refl, refl, refl) a (λ d b. exports h.turns d b) (refused-holds c)) λ ns d b. looks _ _ _ _ _ d (bind _ _ (from_clause i j h.mode d b) λ x e m. took _ (recount m (λ k. omega arith))) (own_names at ns d b)

  export_all : {s : Spot all} (at : ℕ) (c : Spot all) → At true room s 0 0 c no_spans → Deep (λ x d. At true room s 0 0 d (in_item x)) (m6.export_all i at) (m6.export_all j at) c
  unfolding m6.export_all
  export_all at c a = bind _ _ (from_clause i j h.mode c a) λ x d b. took _ (recount b (λ k. omega arith))

  default_value : {s : Spot all} (at : ℕ) (span : Span) (c : Spot all) → At true room s 0 0 c no_spans → Deep (λ x d. At true room s 0 0 d (in_item x)) (m6.default_value i at span) (m6.default_value j at span) c
  unfolding m6.default_value
  default_value at span c a = bind _ _ (assignment i j room h of_module c (ready a)) λ x d b. bind _ _ (semicolon_ i j h.mode d (and a b.0)) λ t e m. took _ (recount m (λ k. omega arith))

  export_default : {s : Spot all} (at : ℕ) (span : Span) (c : Spot all) → At true room s 0 0 c no_spans → Deep (λ x d. At true room s 0 0 d (in_item x)) (m6.export_default i at span) (m6.export_default j at span) c
  unfolding m6.export_default
  export_default at span c a = let r = begin c (ready a) in
      next (a-word (codes "function")) _ _ _ _ r (λ t d k b. bind _ _ (function i j room h true d b) λ g e m. took _ (recount (and a m.0) (λ n. omega arith)))
      (next (a-word (codes "class")) _ _ _ _ r (λ t d k b. bind _ _ (class i j room h of_module true d b) λ g e m. took _ (recount (and a m.0) (λ n. omega arith))) (default_value at span c a))

  exported_declaration : (s : Spot all) → Ready room 0 s → Deep (StatementAt room s) (m6.exported_declaration i) (m6.exported_declaration j) s
  unfolding m6.exported_declaration
  exported_declaration s r = next (a-word (codes "var")) _ _ _ _ (begin s r) (λ t c k a. variables_statement i j room h of_module Var c a) (on_declaration i j room h of_module _ _ s r (refused-holds s))

  export_declaration : {s : Spot all} (at : ℕ) (c : Spot all) → At true room s 0 0 c no_spans → Deep (λ x d. At true room s 0 0 d (in_item x)) (m6.export_declaration i at) (m6.export_declaration j at) c
  unfolding m6.export_declaration
  export_declaration at c a = bind _ _ (exported_declaration c (ready a)) λ x d b. took _ (recount (and a b.0) (λ k. omega arith))

  export_item : {s : Spot all} (at : ℕ) (c : Spot all) → At true room s 0 0 c no_spans → Deep (λ x d. At true room s 0 0 d (in_item x)) (m6.export_item i at) (m6.export_item j at) c
  unfolding m6.export_item
  export_item at c a = next a-star _ _ _ _ a (λ t d k b. export_all at d b) (next (a-word (codes "default")) _ _ _ _ a (λ t d k b. export_default at _ d b) (looks _ _ _ _ _ c (export_names at c a) (export_declaration at c a)))

  one_item : (s : Spot all) → Ready room 0 s → Deep (λ x c. At true room s 0 0 c (in_item x)) (m6.one_item i) (m6.one_item j) s
  unfolding m6.one_item m6.statement_item
  one_item s r = let a = begin s r in next (a-word (codes "import")) _ _ _ _ a (λ t c k b. import_item _ c b) (next (a-word (codes "export")) _ _ _ _ a (λ t c k b. export_item _ c b) (bind _ _ (statement i j room h of_module Listed s r) λ x c b. took _ (recount b.0 (λ at. omega arith))))

  pub items : {n m : ℕ} (w : Both n m) (s : Spot all) → Ready room 0 s → Deep (λ xs c. At false room s 0 0 c (sum_of in_item xs)) (m6.items i n) (m6.items j m) s
  unfolding m6.items
  items over s r = fault
  items (turn {n = n} {m = m} w) s r = looks _ _ _ _ _ s (took _ (recount (begin s r) (λ at. omega arith))) (bind _ _ (one_item s r) λ x c a. bind _ _ (items w c (ready a)) λ xs d b. took _ (forget (recount (and a b) (λ at. omega arith))))

  -- ## Modules

  any-take : {B : Type 0} (test : Filled → Option B) (c : Spot all) → Deep (λ (x : B) d. d.mode ≡ c.mode) (take_as test) (take_as test) c
  any-take test c = on-both test _ _ _ _ c.mode c.input (λ x d u. took 0 refl) (refused-holds c)

  pub whole : (s : Spot all) → Ready room 0 s → Deep (λ m d. (c : Spot all) × (d.mode ≡ c.mode) × At false room s 0 0 c (sum_of in_item m.items)) (m6.whole_module i) (m6.whole_module j) s
  unfolding m6.whole_module
  whole s r = bind _ _ (items h.turns s r) λ xs c a. bind _ _ (any-take m6.end_at c) λ t d u. looks _ _ _ _ _ d (refused-holds d) (took 0 (c, u, a))
