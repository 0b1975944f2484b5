-- How many constructs are open at what is read as imports, exports and items.
use Rattle.std.proofs.Common.{ℕ, zero, suc, Bool, true, List, Option, refl, arith}
use Rattle.std.specs.Prelude.{codes}
use Rattle.std.proofs.lemmas.Bool.{false≢true}
use Rattle.es_text.specs.declared.Span.{Span}
use Rattle.es6_lexer.specs.declared.token.Punctuator.TheVariants as marks
use Rattle.es6_ast.specs.declared.operators.VariableKind.TheVariants.{Var}
use Rattle.es6_ast.specs.declared.tree.Identifier.{Identifier}
use Rattle.es6_ast.specs.declared.tree.Statement.{Statement}
use Rattle.es6_ast.specs.declared.module.ExportName.{ExportName}
use Rattle.es6_ast.specs.declared.module.ImportedNames.{ImportedNames}
use Rattle.es6_ast.specs.declared.module.Item.{Item}
use Rattle.es6_ast.specs.declared.settings.Flags.{Flags}
use Rattle.es6_ast.specs.declared.settings.Role.TheVariants.{Among, Heritage, Callee}
use Rattle.es6_ast.specs.declared.settings.Stand.{Stand}
use Rattle.es6_ast.specs.declared.settings.Stand.TheVariants.{Listed}
use Rattle.es6_ast.specs.Depth.{item_spans}
use Rattle.es6_ast.specs.Tokens.{Filled, is_identifier}
use Rattle.es6_ast.specs.Grammar.{of_module}
use Rattle.es6_reading.specs.Parser.{Input, Reading, Inner}
use Rattle.es6_reading.specs.Parts as t6
use Rattle.es6_reading.specs.Expressions as e
use Rattle.es6_reading.specs.Statements as s6
use Rattle.es6_reading.specs.Modules as m6
use Rattle.es6_reading.proofs.Posts.{Holds, took, fault, bind, weaken, refused-holds, no-number-holds, no-expression-holds}
use Rattle.es6_reading.proofs.SpanCounts.{around, sum_of, spans_block, spans_expression, spans_statement, in_block, in_expression, in_statement}
use Rattle.es6_reading.proofs.Shallow.{Sorted, At, Ready, ready, begin, and, less, inside, opened, next, ends, take, close, either, looks, group}
use Rattle.es6_reading.proofs.ShallowTokens.{a-word, comma, a-star, right-brace, text}
use Rattle.es6_reading.proofs.ShallowParts.{Shallow, identifier, name, semicolon_, binding, initialized, one_part, object_part, block, function, member, class}
use Rattle.es6_reading.proofs.ShallowExpressions.{chain}
use Rattle.es6_reading.proofs.ShallowLevels.{unary, power, assignment, sequence, property, none-chain, none-unary, none-power, none-assignment}
use Rattle.es6_reading.proofs.ShallowStatements.{StatementAt, variables_statement, on_declaration, statement, none-block, none-statement}

-- ## The readers tied into one another

expression_stops : {Q : Reading → Input → Type 0} (test : Filled → Bool) (s : Input) → Holds Q (e.expression_at_limit test s)
unfolding e.expression_at_limit
expression_stops test s = looks _ _ _ s fault (no-expression-holds s)

operand_stops : {Q : Reading → Input → Type 0} (s : Input) → Holds Q (e.operand_at_limit s)
unfolding e.operand_at_limit
operand_stops s = looks _ _ _ s fault (no-number-holds s)

statement_stops : {Q : Statement → Input → Type 0} (f : Flags) (stand : Stand) (s : Input) → Holds Q (s6.statement_at_limit f stand s)
unfolding s6.statement_at_limit
statement_stops f stand s = looks _ _ _ s fault (looks _ _ _ s fault (no-expression-holds s))

fresh : {room : ℕ} (s : Input) → Sorted s.last s.tokens → Ready room 0 s
fresh s h = record { sorted = h; fits = omega arith }

pub shallow : (mode : Bool) (fuel room : ℕ) → Shallow (m6.readers mode fuel room) room
unfolding m6.readers
shallow mode fuel zero = record {
  opens = λ h. absurd (false≢true h);
  sequence = λ f s h. expression_stops _ s;
  assignment = λ f s h. expression_stops _ s;
  power = λ f s h. expression_stops _ s;
  unary = λ f s h. expression_stops _ s;
  callee = λ f s h. operand_stops s;
  heritage = λ f s h. operand_stops s;
  block = λ f s h. fault;
  property = λ f s h. fault;
  target = λ f s h. fault;
  part = λ f s h. fault;
  object_part = λ f s h. fault;
  variable = λ f s h. fault;
  member = λ f s h. fault;
  statement = λ f stand s h. statement_stops f stand s;
}
shallow mode fuel (suc room) =
    let i = m6.readers mode fuel room in
    let deeper = shallow mode fuel room in
    record {
      opens = λ h. omega arith;
      sequence = λ f s h. weaken (sequence i room deeper f s (fresh s h)) (λ x c a. inside a.0);
      assignment = λ f s h. opened (e.assignment i f) (λ x. in_expression x.value) (λ x. (spans_expression x.value).span) s (none-assignment i room deeper f) h (assignment i room deeper f s (fresh s h));
      power = λ f s h. opened (e.power i f Among) (λ x. in_expression x.value) (λ x. (spans_expression x.value).span) s (none-power i room deeper f Among) h (power i room deeper f Among s (fresh s h));
      unary = λ f s h. opened (e.unary i f) (λ x. in_expression x.value) (λ x. (spans_expression x.value).span) s (none-unary i room deeper f) h (unary i room deeper f s (fresh s h));
      callee = λ f s h. opened (e.chain i f Callee) (λ x. in_expression x.value) (λ x. (spans_expression x.value).span) s (none-chain i room deeper f Callee) h (chain i room deeper f Callee s (fresh s h));
      heritage = λ f s h. opened (e.chain i f Heritage) (λ x. in_expression x.value) (λ x. (spans_expression x.value).span) s (none-chain i room deeper f Heritage) h (chain i room deeper f Heritage s (fresh s h));
      block = λ f s h. opened (t6.block i f) in_block (λ x. (spans_block x).span) s (none-block i room deeper f) h (block i room deeper f s (fresh s h));
      property = λ f s h. weaken (property i room deeper f s (fresh s h)) (λ x c a. inside a);
      target = λ f s h. weaken (binding i room deeper f s (fresh s h)) (λ x c a. inside a);
      part = λ f s h. weaken (one_part i room deeper f s (fresh s h)) (λ x c a. inside a);
      object_part = λ f s h. weaken (object_part i room deeper f s (fresh s h)) (λ x c a. inside a);
      variable = λ f s h. weaken (initialized i room deeper f f s (fresh s h)) (λ x c a. inside a);
      member = λ f s h. weaken (member i room deeper f s (fresh s h)) (λ x c a. inside a);
      statement = λ f stand s h. opened (s6.statement i f stand) in_statement (λ x. (spans_statement x).span) s (none-statement i room deeper f stand) h (statement i room deeper f stand s (fresh s h));
    }

-- ## Imports and exports of names, in which nothing else is open

module _ {room g h : ℕ} {s : Input} {D : ℕ → ℕ} where
  specifier : (c : Input) → At room s g h c D → Holds (λ x d. At room s g h d D) (m6.specifier c)
  unfolding m6.specifier
  specifier c a = bind (take text a) λ x d b. took b

  from_clause : (i : Inner) (c : Input) → At room s g h c D → Holds (λ x d. At room s g h d D) (m6.from_clause i c)
  unfolding m6.from_clause
  from_clause i c a = bind (take (a-word (codes "from")) a) λ t d b. bind (specifier d b) λ x e m. bind (semicolon_ i e m) λ u k n. took n

  one_import : (c : Input) → At room s g h c D → Holds (λ x d. At room s g h d D) (m6.one_import c)
  unfolding m6.one_import
  one_import c a = bind (name c a) λ n d b. next (a-word (codes "as")) _ b (λ t e k m. bind (identifier e m) λ x o p. took p) (either (is_identifier n.name) _ _ d (took b) (refused-holds d))

  one_export : (c : Input) → At room s g h c D → Holds (λ x d. At room s g h d D) (m6.one_export c)
  unfolding m6.one_export
  one_export c a = bind (name c a) λ n d b. next (a-word (codes "as")) _ b (λ t e k m. bind (name e m) λ x o p. took p) (took b)

  namespace : (c : Input) → At room s g h c D → Holds (λ x d. At room s g h d D) (m6.namespace c)
  unfolding m6.namespace
  namespace c a = bind (take (a-word (codes "as")) a) λ t d b. bind (identifier d b) λ n e m. took m

module _ {room g : ℕ} {s : Input} {D : ℕ → ℕ} where
  imports : (n : ℕ) (c : Input) → At room s g 1 c D → Holds (λ x d. At room s g 0 d D) (m6.imports n c)
  unfolding m6.imports
  imports zero c a = fault
  imports (suc n) c a = ends right-brace _ a (λ t d b. took b) (bind (one_import c a) λ x d b. next comma _ b (λ t e k m. bind (imports n e m) λ y o p. took p) (bind (close right-brace b) λ t e m. took m))

  exports : (n : ℕ) (c : Input) → At room s g 1 c D → Holds (λ x d. At room s g 0 d D) (m6.exports n c)
  unfolding m6.exports
  exports zero c a = fault
  exports (suc n) c a = ends right-brace _ a (λ t d b. took b) (bind (one_export c a) λ x d b. next comma _ b (λ t e k m. bind (exports n e m) λ y o p. took p) (bind (close right-brace b) λ t e m. took m))

-- ## Items

abbrev pub in_item : Item → ℕ → ℕ
in_item x at = around (item_spans x) at

module _ (i : Inner) (room : ℕ) (h : Shallow i room) where
  imported_names : {s : Input} {D : ℕ → ℕ} (c : Input) → At room s 0 0 c D → Holds (λ x d. At room s 0 0 d D) (m6.imported_names i c)
  unfolding m6.imported_names
  imported_names c a = next a-star _ a (λ t d k b. namespace d b) (group i marks.LeftBrace _ h.opens (refl, refl, refl) a (λ d b. bind (imports i.fuel d b) λ x e m. took m) (refused-holds c))

  rest_of_import : {s : Input} {D : ℕ → ℕ} (at : ℕ) (n : Option Identifier) (names : ImportedNames) (c : Input) → At room s 0 0 c D → Holds (λ x d. At room s 0 0 d (in_item x)) (m6.rest_of_import i at n names c)
  unfolding m6.rest_of_import
  rest_of_import at n names c a = bind (from_clause i c a) λ x d b. took (less b (λ k. omega arith))

  default_import : {s : Input} {D : ℕ → ℕ} (at : ℕ) (c : Input) → At room s 0 0 c D → Holds (λ x d. At room s 0 0 d (in_item x)) (m6.default_import i at c)
  unfolding m6.default_import
  default_import at c a = bind (identifier c a) λ n d b. next comma _ b (λ t e k m. bind (imported_names e m) λ x o p. rest_of_import at _ x o p) (rest_of_import at _ _ d b)

  import_alone : {s : Input} {D : ℕ → ℕ} (at : ℕ) (c : Input) → At room s 0 0 c D → Holds (λ x d. At room s 0 0 d (in_item x)) (m6.import_alone i at c)
  unfolding m6.import_alone
  import_alone at c a = bind (specifier c a) λ x d b. bind (semicolon_ i d b) λ t e m. took (less m (λ k. omega arith))

  import_item : {s : Input} {D : ℕ → ℕ} (at : ℕ) (c : Input) → At room s 0 0 c D → Holds (λ x d. At room s 0 0 d (in_item x)) (m6.import_item i at c)
  unfolding m6.import_item
  import_item at c a = looks _ _ _ c (import_alone at c a) (looks _ _ _ c (bind (imported_names c a) λ x d b. rest_of_import at _ x d b) (default_import at c a))

  own_names : {s : Input} {D : ℕ → ℕ} (at : ℕ) (ns : List ExportName) (c : Input) → At room s 0 0 c D → Holds (λ x d. At room s 0 0 d (in_item x)) (m6.own_names i at ns c)
  unfolding m6.own_names
  own_names at ns c a = either (m6.are_own ns) _ _ c (bind (semicolon_ i c a) λ t d b. took (less b (λ k. omega arith))) (refused-holds c)

  export_names : {s : Input} {D : ℕ → ℕ} (at : ℕ) (c : Input) → At room s 0 0 c D → Holds (λ x d. At room s 0 0 d (in_item x)) (m6.export_names i at c)
  unfolding m6.export_names
  export_names at c a = bind (group i marks.LeftBrace _ h.opens (refl, refl, refl) a (λ d b. exports i.fuel d b) (refused-holds c)) λ ns d b. looks _ _ _ d (bind (from_clause i d b) λ x e m. took (less m (λ k. omega arith))) (own_names at ns d b)

  export_all : {s : Input} {D : ℕ → ℕ} (at : ℕ) (c : Input) → At room s 0 0 c D → Holds (λ x d. At room s 0 0 d (in_item x)) (m6.export_all i at c)
  unfolding m6.export_all
  export_all at c a = bind (from_clause i c a) λ x d b. took (less b (λ k. omega arith))

  default_value : {s : Input} {D : ℕ → ℕ} (at : ℕ) (span : Span) (c : Input) → At room s 0 0 c D → Holds (λ x d. At room s 0 0 d (in_item x)) (m6.default_value i at span c)
  unfolding m6.default_value
  default_value at span c a = bind (assignment i room h of_module c (ready a)) λ x d b. bind (semicolon_ i d (and a b.0)) λ t e m. took (less m (λ k. omega arith))

  export_default : {s : Input} {D : ℕ → ℕ} (at : ℕ) (span : Span) (c : Input) → At room s 0 0 c D → Holds (λ x d. At room s 0 0 d (in_item x)) (m6.export_default i at span c)
  unfolding m6.export_default
  export_default at span c a = let r = begin c (ready a) in
      next (a-word (codes "function")) _ r (λ t d k b. bind (function i room h true d b) λ g e m. took (less (and a m.0) (λ n. omega arith)))
      (next (a-word (codes "class")) _ r (λ t d k b. bind (class i room h of_module true d b) λ g e m. took (less (and a m.0) (λ n. omega arith))) (default_value at span c a))

  exported_declaration : (s : Input) → Ready room 0 s → Holds (StatementAt room s) (m6.exported_declaration i s)
  unfolding m6.exported_declaration
  exported_declaration s r = next (a-word (codes "var")) _ (begin s r) (λ t c k a. variables_statement i room h of_module Var c a) (on_declaration i room h of_module _ s r (refused-holds s))

  export_declaration : {s : Input} {D : ℕ → ℕ} (at : ℕ) (c : Input) → At room s 0 0 c D → Holds (λ x d. At room s 0 0 d (in_item x)) (m6.export_declaration i at c)
  unfolding m6.export_declaration
  export_declaration at c a = bind (exported_declaration c (ready a)) λ x d b. took (less (and a b.0) (λ k. omega arith))

  export_item : {s : Input} {D : ℕ → ℕ} (at : ℕ) (c : Input) → At room s 0 0 c D → Holds (λ x d. At room s 0 0 d (in_item x)) (m6.export_item i at c)
  unfolding m6.export_item
  export_item at c a = next a-star _ a (λ t d k b. export_all at d b) (next (a-word (codes "default")) _ a (λ t d k b. export_default at _ d b) (looks _ _ _ c (export_names at c a) (export_declaration at c a)))

  one_item : (s : Input) → Ready room 0 s → Holds (λ x c. At room s 0 0 c (in_item x)) (m6.one_item i s)
  unfolding m6.one_item m6.statement_item
  one_item s r = let a = begin s r in next (a-word (codes "import")) _ a (λ t c k b. import_item _ c b) (next (a-word (codes "export")) _ a (λ t c k b. export_item _ c b) (bind (statement i room h of_module Listed s r) λ x c b. took (less b.0 (λ at. omega arith))))

  pub items : (n : ℕ) (s : Input) → Ready room 0 s → Holds (λ xs c. At room s 0 0 c (sum_of in_item xs)) (m6.items i n s)
  unfolding m6.items
  items zero s r = fault
  items (suc n) s r = looks _ _ _ s (took (less (begin s r) (λ at. omega arith))) (bind (one_item s r) λ x c a. bind (items n c (ready a)) λ xs d b. took (less (and a b) (λ at. omega arith)))
