-- The readers of statements of all kinds, imports and exports with insertion follow those without it.
use Rattle.std.proofs.Common.{◌≡◌, ℕ, zero, suc, Bool, true, false, List, ◌∷◌, Option, Some, None, refl, ap}
use Rattle.std.specs.Prelude.{codes, is_some}
use Rattle.es_text.specs.declared.Span.{Span}
use Rattle.es6_lexer.specs.declared.token.Punctuator.TheVariants as marks
use Rattle.es6_ast.specs.declared.operators.VariableKind.TheVariants.{Var}
use Rattle.es6_ast.specs.declared.tree.Identifier.{Identifier}
use Rattle.es6_ast.specs.declared.tree.Expression.{Expression}
use Rattle.es6_ast.specs.declared.tree.Statement.{Statement}
use Rattle.es6_ast.specs.declared.tree.Statement.TheVariants as stat
use Rattle.es6_ast.specs.declared.module.Item.{Item}
use Rattle.es6_ast.specs.declared.module.Item.TheVariants as item
use Rattle.es6_ast.specs.declared.module.DefaultExport.TheVariants.{DefaultFunction, DefaultClass}
use Rattle.es6_ast.specs.declared.module.Specifier.{Specifier}
use Rattle.es6_ast.specs.declared.module.ImportedNames.{ImportedNames}
use Rattle.es6_ast.specs.declared.module.ImportedNames.TheVariants.{NoNames}
use Rattle.es6_ast.specs.declared.module.ImportName.{ImportName}
use Rattle.es6_ast.specs.declared.module.ExportName.{ExportName}
use Rattle.es6_ast.specs.declared.settings.Flags.{Flags}
use Rattle.es6_ast.specs.declared.settings.Stand.{Stand}
use Rattle.es6_ast.specs.declared.settings.Stand.TheVariants.{Listed, Under, Labelled}
use Rattle.es6_ast.specs.declared.settings.Stop.TheVariants.{Syntax, Outside}
use Rattle.es6_ast.specs.Tokens.{Filled, begin_of, is_identifier}
use Rattle.es6_ast.specs.Grammar.{of_module}
use Rattle.es6_reading.specs.Parser.{Input, Parser, fails, ◌>>=◌, refused, on, choose, if_next, take_as, mark, word, next_mark, next_word, made, Inner}
use Rattle.es6_reading.specs.Words.{text_at, lexical_kind_at}
use Rattle.es6_reading.specs.Parts.{identifier, name_of_any_kind, block, function_after_word, class_after_word}
use Rattle.es6_reading.specs.Statements.{if_statement, variables_statement, expression_end, labelled, label_of, label_or_end, expression_statement, function_declaration, class_declaration, on_declaration, labelled_function, on_more, begins_declaration, plain_statement, jump_statement, compound_statement, block_statement, statement}
use Rattle.es6_reading.specs.Modules.{specifier, from_clause, import_of, one_import, imports, namespace, imported_names, rest_of_import, default_import, import_alone, begins_names, import_item, export_of, one_export, exports, are_own, own_names, export_names, export_all, default_value, export_default, exported_declaration, export_declaration, export_item, statement_item, one_item}
use Rattle.es6_reading.proofs.Posts.{Holds, fault, choose-holds, refused-holds}
use Rattle.es6_reading.proofs.Follows.{plus, semi, Followed, bind-follows}
use Rattle.es6_reading.proofs.FollowChoices.{Runs, on-follows, take-follows, mark-follows, choose-follows, StopsAtSemi, stopped, if-follows, only-group-follows, from-follows, from-firm, made-follows, returns-follows, spelled-follows}
use Rattle.es6_reading.proofs.FollowEnds.{Follows}
use Rattle.es6_reading.proofs.FollowParts.{follow-identifier, follow-any-name, word-follows, follow-named-function, follow-function, follow-class, follow-block}
use Rattle.es6_reading.proofs.FollowLevels.{sequence-stops, follow-sequence, follow-assignment}
use Rattle.es6_reading.proofs.FollowStatements.{follow-semicolon, follow-variables-statement, if-statement-stops, follow-if, follow-do, follow-while, follow-for, follow-continue, follow-break, follow-return, follow-throw, follow-debugger, follow-switch, follow-try}

abbrev pub statement_from : Inner → Flags → Stand → ℕ → Parser Statement
statement_from i f stand at = if_next (next_mark marks.LeftBrace) (block_statement i f) (if_next (next_word (codes "if")) (if_statement i f at)
    (on (mark marks.Semicolon) (λ _. made at (λ span. stat.Empty span)) (on (word (codes "var")) (λ _. variables_statement i f at Var) (compound_statement i f stand at))))

abbrev pub specifier_from : ℕ → Parser Specifier
specifier_from at = ◌>>=◌ (take_as text_at) (λ units. made at (λ span. record { span = span; text = units }))

abbrev pub import_from : ℕ → Parser ImportName
import_from at = ◌>>=◌ name_of_any_kind (λ n. on (word (codes "as")) (λ _. ◌>>=◌ identifier (λ m. made at (import_of n m))) (choose (is_identifier n.name) (made at (import_of n n)) refused))

abbrev pub export_from : ℕ → Parser ExportName
export_from at = ◌>>=◌ name_of_any_kind (λ n. on (word (codes "as")) (λ _. ◌>>=◌ name_of_any_kind (λ m. made at (export_of n m))) (made at (export_of n n)))

abbrev pub default_from : Inner → ℕ → Span → ℕ → Parser Item
default_from i at word_span inside = on (word (codes "function")) (λ _. ◌>>=◌ (function_after_word i true inside) (λ g. made at (λ span. item.ExportDefault span word_span (DefaultFunction g))))
    (on (word (codes "class")) (λ _. ◌>>=◌ (class_after_word i of_module true inside) (λ c. made at (λ span. item.ExportDefault span word_span (DefaultClass c)))) (default_value i at word_span))

abbrev pub declaration_from : Inner → ℕ → Parser Statement
declaration_from i inside = on (word (codes "var")) (λ _. variables_statement i of_module inside Var) (on_declaration i of_module inside refused)

abbrev pub item_from : Inner → ℕ → Parser Item
item_from i at = on (word (codes "import")) (λ _. import_item i at) (on (word (codes "export")) (λ _. export_item i at) (statement_item i))

specifier-free : (l place place' : ℕ) (d : Bool) (at : ℕ) (us : List Filled) (last : ℕ) → specifier_from place (record { tokens = semi d at ∷ us; last = last }) ≡ specifier_from place' (record { tokens = semi d at ∷ us; last = last })
unfolding refused
specifier-free l place place' d at us last = refl

follow-specifier : (s : Input) → Runs (λ l. specifier) specifier s
unfolding specifier
follow-specifier s = from-follows specifier_from (λ l. specifier_from) s specifier-free (bind-follows _ _ _ _ s (take-follows text_at (λ d at. refl) s) (λ units c. made-follows _ c (λ _ _ _. refl)))

import-free : (l place place' : ℕ) (d : Bool) (at : ℕ) (us : List Filled) (last : ℕ) → import_from place (record { tokens = semi d at ∷ us; last = last }) ≡ import_from place' (record { tokens = semi d at ∷ us; last = last })
unfolding name_of_any_kind refused
import-free l place place' d at us last = refl

follow-import : (s : Input) → Runs (λ l. one_import) one_import s
unfolding one_import
follow-import s = from-follows import_from (λ l. import_from) s import-free
    (bind-follows _ _ _ _ s (follow-any-name s) (λ n c. on-follows (word (codes "as")) (λ d at. refl) _ _ _ _ c (λ t d k. bind-follows _ _ _ _ d (follow-identifier d) (λ m e. made-follows _ e (λ _ _ _. refl)))
    (λ m. choose-follows (is_identifier n.name) _ _ refused (λ l. refused) c (λ e. made-follows _ c (λ _ _ _. refl)) (λ e. refused-holds c))))

follow-imports : (turns : ℕ) (s : Input) → Runs (λ l. imports (plus turns l)) (imports turns) s
unfolding imports
follow-imports zero s = fault
follow-imports (suc turns) s = on-follows (mark marks.RightBrace) (λ d at. refl) _ _ _ _ s (λ t c k. returns-follows _ c) (λ m. bind-follows _ _ _ _ s (follow-import s) (λ n c.
    on-follows (mark marks.Comma) (λ d at. refl) _ _ _ _ c (λ t d k. bind-follows _ _ _ _ d (follow-imports turns d) (λ ns e. returns-follows _ e))
    (λ m. bind-follows _ _ _ _ c (mark-follows marks.RightBrace c) (λ t d. returns-follows _ d))))

follow-namespace : (s : Input) → Runs (λ l. namespace) namespace s
unfolding namespace
follow-namespace s = bind-follows _ _ _ _ s (word-follows (codes "as") s) (λ t c. bind-follows _ _ _ _ c (follow-identifier c) (λ n d. returns-follows _ d))

export-free : (l place place' : ℕ) (d : Bool) (at : ℕ) (us : List Filled) (last : ℕ) → export_from place (record { tokens = semi d at ∷ us; last = last }) ≡ export_from place' (record { tokens = semi d at ∷ us; last = last })
unfolding name_of_any_kind refused
export-free l place place' d at us last = refl

follow-export : (s : Input) → Runs (λ l. one_export) one_export s
unfolding one_export
follow-export s = from-follows export_from (λ l. export_from) s export-free
    (bind-follows _ _ _ _ s (follow-any-name s) (λ n c. on-follows (word (codes "as")) (λ d at. refl) _ _ _ _ c (λ t d k. bind-follows _ _ _ _ d (follow-any-name d) (λ m e. made-follows _ e (λ _ _ _. refl)))
    (λ m. made-follows _ c (λ _ _ _. refl))))

follow-exports : (turns : ℕ) (s : Input) → Runs (λ l. exports (plus turns l)) (exports turns) s
unfolding exports
follow-exports zero s = fault
follow-exports (suc turns) s = on-follows (mark marks.RightBrace) (λ d at. refl) _ _ _ _ s (λ t c k. returns-follows _ c) (λ m. bind-follows _ _ _ _ s (follow-export s) (λ n c.
    on-follows (mark marks.Comma) (λ d at. refl) _ _ _ _ c (λ t d k. bind-follows _ _ _ _ d (follow-exports turns d) (λ ns e. returns-follows _ e))
    (λ m. bind-follows _ _ _ _ c (mark-follows marks.RightBrace c) (λ t d. returns-follows _ d))))

module _ (i' : ℕ → Inner) where
  plain-stops : (f : Flags) (at : ℕ) → StopsAtSemi (λ l. plain_statement (i' l) f at)
  unfolding plain_statement expression_statement
  plain-stops f at l d place us last = stopped _ (sequence-stops i' f l d place us last)

  on-more-stops : (f : Flags) (stand : Stand) (at : ℕ) → StopsAtSemi (λ l. on_more (i' l) f stand at (plain_statement (i' l) f at))
  on-more-stops f Listed at l d place us last = plain-stops f at l d place us last
  on-more-stops f Under at l d place us last = plain-stops f at l d place us last
  on-more-stops f Labelled at l d place us last = plain-stops f at l d place us last

  jump-stops : (f : Flags) (stand : Stand) (at : ℕ) → StopsAtSemi (λ l. jump_statement (i' l) f stand at)
  unfolding jump_statement
  jump-stops f stand at l d place us last = choose-holds _ _ f.has_return _ (λ e. on-more-stops f stand at l d place us last) (λ e. on-more-stops f stand at l d place us last)

  statement-from-stops : (f : Flags) (stand : Stand) (at : ℕ) → StopsAtSemi (λ l. statement_from (i' l) f stand at)
  unfolding compound_statement
  statement-from-stops f stand at l d place us last = jump-stops f stand at l d place us last

  pub statement-stops : (f : Flags) (stand : Stand) → StopsAtSemi (λ l. statement (i' l) f stand)
  unfolding statement
  statement-stops f stand l d at us last = statement-from-stops f stand at l d at us last

  pub block-stops : (f : Flags) → StopsAtSemi (λ l. block (i' l) f)
  unfolding block refused
  block-stops f l d at us last = fault

module _ (i : Inner) (i' : ℕ → Inner) (h : Follows i i') where
  -- ## Expressions and labels

  follow-expression-end : (at : ℕ) (x : Expression) (s : Input) → Runs (λ l. expression_end (i' l) at x) (expression_end i at x) s
  unfolding expression_end
  follow-expression-end at x s = bind-follows _ _ _ _ s (follow-semicolon i i' h s) (λ u d. made-follows _ d (λ _ _ _. refl))

  follow-labelled : (f : Flags) (at : ℕ) (x : Identifier) (s : Input) → Runs (λ l. labelled (i' l) f at x) (labelled i f at x) s
  unfolding labelled
  follow-labelled f at x s = bind-follows _ _ _ _ s (h.statement f Labelled s) (λ y d. made-follows _ d (λ _ _ _. refl))

  follow-label-or-end : (f : Flags) (at : ℕ) (o : Option Identifier) (x : Expression) (s : Input) → Runs (λ l. label_or_end (i' l) f at o x) (label_or_end i f at o x) s
  follow-label-or-end f at (Some y) x s = on-follows (mark marks.Colon) (λ d at. refl) (λ t. labelled i f at y) (λ l t. labelled (i' l) f at y) (expression_end i at x) (λ l. expression_end (i' l) at x) s (λ t c n. follow-labelled f at y c) (λ m. follow-expression-end at x s)
  follow-label-or-end f at None x s = follow-expression-end at x s

  follow-expression-statement : (f : Flags) (at : ℕ) (s : Input) → Runs (λ l. expression_statement (i' l) f at) (expression_statement i f at) s
  unfolding expression_statement
  follow-expression-statement f at s = bind-follows _ _ _ _ s (follow-sequence i i' h f s) (λ x c. follow-label-or-end f at (label_of x.shape x.value) x.value c)

  -- ## Declarations

  follow-function-declaration : (at : ℕ) (s : Input) → Runs (λ l. function_declaration (i' l) at) (function_declaration i at) s
  unfolding function_declaration
  follow-function-declaration at s = bind-follows _ _ _ _ s (follow-function i i' h false at s) (λ g c. returns-follows _ c)

  follow-class-declaration : (f : Flags) (at : ℕ) (s : Input) → Runs (λ l. class_declaration (i' l) f at) (class_declaration i f at) s
  unfolding class_declaration
  follow-class-declaration f at s = bind-follows _ _ _ _ s (follow-class i i' h f false at s) (λ g c. returns-follows _ c)

  declaration-follows : (f : Flags) (at : ℕ) (q : Parser Statement) (q' : ℕ → Parser Statement) (s : Input) → Holds (Followed q' s) (q s) → Holds (Followed (λ l. on_declaration (i' l) f at (q' l)) s) (on_declaration i f at q s)
  declaration-follows f at q q' s g = on-follows (word (codes "function")) (λ d at. refl) _ _ _ _ s (λ t c n. follow-function-declaration at c) (λ m.
      on-follows (word (codes "class")) (λ d at. refl) _ _ _ _ s (λ t c n. follow-class-declaration f at c) (λ m.
      on-follows lexical_kind_at (λ d at. refl) _ _ _ _ s (λ kind c n. follow-variables-statement i i' h f at kind c) (λ m. g)))

  follow-labelled-function : (at : ℕ) (s : Input) → Runs (λ l. labelled_function (i' l) at) (labelled_function i at) s
  unfolding labelled_function
  follow-labelled-function at s = bind-follows _ _ _ _ s (follow-named-function i i' h at false s) (λ g c. returns-follows _ c)

  -- ## All together

  follow-plain : (f : Flags) (at : ℕ) (s : Input) → Runs (λ l. plain_statement (i' l) f at) (plain_statement i f at) s
  unfolding plain_statement
  follow-plain f at s = if-follows (next_word (codes "with")) (λ d at. refl) (fails (Outside 5)) (λ l. fails (Outside 5)) _ _ s (λ l d at us last. fault) (λ e. fault)
      (λ e. if-follows begins_declaration (λ d at. refl) (fails Syntax) (λ l. fails Syntax) (expression_statement i f at) (λ l. expression_statement (i' l) f at) s (λ l d at us last. fault) (λ k. fault) (λ k. follow-expression-statement f at s))

  follow-on-more : (f : Flags) (stand : Stand) (at : ℕ) (s : Input) → Runs (λ l. on_more (i' l) f stand at (plain_statement (i' l) f at)) (on_more i f stand at (plain_statement i f at)) s
  follow-on-more f Listed at s = declaration-follows f at (plain_statement i f at) (λ l. plain_statement (i' l) f at) s (follow-plain f at s)
  follow-on-more f Under at s = follow-plain f at s
  follow-on-more f Labelled at s = on-follows (word (codes "function")) (λ d at. refl) (λ _. labelled_function i at) (λ l _. labelled_function (i' l) at) (plain_statement i f at) (λ l. plain_statement (i' l) f at) s (λ t c n. follow-labelled-function at c) (λ m. follow-plain f at s)

  follow-jump : (f : Flags) (stand : Stand) (at : ℕ) (s : Input) → Runs (λ l. jump_statement (i' l) f stand at) (jump_statement i f stand at) s
  unfolding jump_statement
  follow-jump f stand at s = on-follows (word (codes "continue")) (λ d at. refl) _ _ _ _ s (λ t c n. follow-continue i i' h at c) (λ m.
      on-follows (word (codes "break")) (λ d at. refl) _ _ _ _ s (λ t c n. follow-break i i' h at c) (λ m.
      on-follows (word (codes "throw")) (λ d at. refl) _ _ _ _ s (λ t c n. follow-throw i i' h f at c) (λ m.
      on-follows (word (codes "debugger")) (λ d at. refl) _ _ _ _ s (λ t c n. follow-debugger i i' h at c) (λ m.
      choose-follows f.has_return _ _ (on_more i f stand at (plain_statement i f at)) (λ l. on_more (i' l) f stand at (plain_statement (i' l) f at)) s
      (λ e. on-follows (word (codes "return")) (λ d at. refl) _ _ (on_more i f stand at (plain_statement i f at)) (λ l. on_more (i' l) f stand at (plain_statement (i' l) f at)) s (λ t c n. follow-return i i' h f at c) (λ m. follow-on-more f stand at s))
      (λ e. follow-on-more f stand at s)))))

  follow-compound : (f : Flags) (stand : Stand) (at : ℕ) (s : Input) → Runs (λ l. compound_statement (i' l) f stand at) (compound_statement i f stand at) s
  unfolding compound_statement
  follow-compound f stand at s = on-follows (word (codes "do")) (λ d at. refl) _ _ _ _ s (λ t c n. follow-do i i' h f at c) (λ m.
      on-follows (word (codes "while")) (λ d at. refl) _ _ _ _ s (λ t c n. follow-while i i' h f at c) (λ m.
      on-follows (word (codes "for")) (λ d at. refl) _ _ _ _ s (λ t c n. follow-for i i' h f at c) (λ m.
      on-follows (word (codes "switch")) (λ d at. refl) _ _ _ _ s (λ t c n. follow-switch i i' h f at c) (λ m.
      on-follows (word (codes "try")) (λ d at. refl) _ _ _ _ s (λ t c n. follow-try i i' h f at c) (λ m. follow-jump f stand at s)))))

  follow-block-statement : (f : Flags) (s : Input) → Runs (λ l. block_statement (i' l) f) (block_statement i f) s
  unfolding block_statement
  follow-block-statement f s = bind-follows _ _ _ _ s (follow-block i i' h f s) (λ x c. returns-follows _ c)

  block-statement-stops : (f : Flags) → StopsAtSemi (λ l. block_statement (i' l) f)
  unfolding block_statement
  block-statement-stops f l d at us last = stopped _ (block-stops i' f l d at us last)

  pub follow-statement : (f : Flags) (stand : Stand) (s : Input) → Runs (λ l. statement (i' l) f stand) (statement i f stand) s
  unfolding statement
  follow-statement f stand s = from-firm (statement_from i f stand) (λ l. statement_from (i' l) f stand) s (statement-from-stops i' f stand)
      (if-follows (next_mark marks.LeftBrace) (λ d at. refl) _ _ _ _ s (block-statement-stops f) (λ e. follow-block-statement f s)
      (λ e. if-follows (next_word (codes "if")) (λ d at. refl) _ _ _ _ s (if-statement-stops i i' h f (begin_of s.tokens)) (λ k. follow-if i i' h f (begin_of s.tokens) s)
      (λ k. on-follows (mark marks.Semicolon) (λ d at. refl) _ _ _ _ s (λ t c n. made-follows _ c (λ _ _ _. refl))
      (λ m. on-follows (word (codes "var")) (λ d at. refl) _ _ _ _ s (λ t c n. follow-variables-statement i i' h f (begin_of s.tokens) Var c) (λ m. follow-compound f stand (begin_of s.tokens) s)))))

  -- ## Imports

  follow-from-clause : (s : Input) → Runs (λ l. from_clause (i' l)) (from_clause i) s
  unfolding from_clause
  follow-from-clause s = bind-follows _ _ _ _ s (word-follows (codes "from") s) (λ t c. bind-follows _ _ _ _ c (follow-specifier c) (λ x d. bind-follows _ _ _ _ d (follow-semicolon i i' h d) (λ u e. returns-follows _ e)))

  from-clause-stops : StopsAtSemi (λ l. from_clause (i' l))
  unfolding from_clause refused
  from-clause-stops l d at us last = fault

  follow-imported-names : (s : Input) → Runs (λ l. imported_names (i' l)) (imported_names i) s
  unfolding imported_names
  follow-imported-names s = on-follows (mark marks.Star) (λ d at. refl) _ _ _ _ s (λ t c n. follow-namespace c)
      (λ m. only-group-follows i i' marks.LeftBrace _ _ s h.opens (λ c. bind-follows _ _ _ _ c (spelled-follows _ (λ l. imports (plus i.fuel l)) c (λ l. ap (λ n. imports n) (h.fuel l)) (follow-imports i.fuel c)) (λ ns d. returns-follows _ d)))

  imported-names-stop : StopsAtSemi (λ l. imported_names (i' l))
  unfolding imported_names refused
  imported-names-stop l d at us last = fault

  follow-rest-of-import : (at : ℕ) (default_ : Option Identifier) (names : ImportedNames) (s : Input) → Runs (λ l. rest_of_import (i' l) at default_ names) (rest_of_import i at default_ names) s
  unfolding rest_of_import
  follow-rest-of-import at default_ names s = bind-follows _ _ _ _ s (follow-from-clause s) (λ x c. made-follows _ c (λ _ _ _. refl))

  follow-default-import : (at : ℕ) (s : Input) → Runs (λ l. default_import (i' l) at) (default_import i at) s
  unfolding default_import
  follow-default-import at s = bind-follows _ _ _ _ s (follow-identifier s) (λ n c. on-follows (mark marks.Comma) (λ d at. refl) _ _ _ _ c
      (λ t d k. bind-follows _ _ _ _ d (follow-imported-names d) (λ names e. follow-rest-of-import at (Some n) names e)) (λ m. follow-rest-of-import at (Some n) NoNames c))

  follow-import-alone : (at : ℕ) (s : Input) → Runs (λ l. import_alone (i' l) at) (import_alone i at) s
  unfolding import_alone
  follow-import-alone at s = bind-follows _ _ _ _ s (follow-specifier s) (λ x c. bind-follows _ _ _ _ c (follow-semicolon i i' h c) (λ u d. made-follows _ d (λ _ _ _. refl)))

  import-alone-stops : (at : ℕ) → StopsAtSemi (λ l. import_alone (i' l) at)
  unfolding import_alone specifier refused
  import-alone-stops at l d place us last = fault

  follow-import-item : (at : ℕ) (s : Input) → Runs (λ l. import_item (i' l) at) (import_item i at) s
  unfolding import_item
  follow-import-item at s = if-follows (λ t. is_some (text_at t)) (λ d at. refl) _ _ _ _ s (import-alone-stops at) (λ e. follow-import-alone at s)
      (λ e. if-follows begins_names (λ d at. refl) _ _ _ _ s (λ l d place us last. stopped _ (imported-names-stop l d place us last))
      (λ k. bind-follows _ _ _ _ s (follow-imported-names s) (λ names c. follow-rest-of-import at None names c)) (λ k. follow-default-import at s))

  -- ## Exports

  follow-own-names : (at : ℕ) (ns : List ExportName) (s : Input) → Runs (λ l. own_names (i' l) at ns) (own_names i at ns) s
  unfolding own_names
  follow-own-names at ns s = choose-follows (are_own ns) _ _ refused (λ l. refused) s (λ e. bind-follows _ _ _ _ s (follow-semicolon i i' h s) (λ u c. made-follows _ c (λ _ _ _. refl))) (λ e. refused-holds s)

  follow-export-names : (at : ℕ) (s : Input) → Runs (λ l. export_names (i' l) at) (export_names i at) s
  unfolding export_names
  follow-export-names at s = bind-follows _ _ _ _ s
      (only-group-follows i i' marks.LeftBrace _ _ s h.opens (λ c. spelled-follows _ (λ l. exports (plus i.fuel l)) c (λ l. ap (λ n. exports n) (h.fuel l)) (follow-exports i.fuel c)))
      (λ ns c. if-follows (next_word (codes "from")) (λ d at. refl) _ _ _ _ c (λ l d place us last. stopped _ (from-clause-stops l d place us last))
      (λ e. bind-follows _ _ _ _ c (follow-from-clause c) (λ x d. made-follows _ d (λ _ _ _. refl))) (λ e. follow-own-names at ns c))

  export-names-stop : (at : ℕ) → StopsAtSemi (λ l. export_names (i' l) at)
  unfolding export_names refused
  export-names-stop at l d place us last = fault

  follow-export-all : (at : ℕ) (s : Input) → Runs (λ l. export_all (i' l) at) (export_all i at) s
  unfolding export_all
  follow-export-all at s = bind-follows _ _ _ _ s (follow-from-clause s) (λ x c. made-follows _ c (λ _ _ _. refl))

  follow-default-value : (at : ℕ) (word_span : Span) (s : Input) → Runs (λ l. default_value (i' l) at word_span) (default_value i at word_span) s
  unfolding default_value
  follow-default-value at word_span s = bind-follows _ _ _ _ s (follow-assignment i i' h of_module s) (λ x c. bind-follows _ _ _ _ c (follow-semicolon i i' h c) (λ u d. made-follows _ d (λ _ _ _. refl)))

  follow-export-default : (at : ℕ) (word_span : Span) (s : Input) → Runs (λ l. export_default (i' l) at word_span) (export_default i at word_span) s
  unfolding export_default
  follow-export-default at word_span s = from-follows (default_from i at word_span) (λ l. default_from (i' l) at word_span) s (λ l place place' d at us last. refl)
      (on-follows (word (codes "function")) (λ d at. refl) _ _ _ _ s (λ t c n. bind-follows _ _ _ _ c (follow-function i i' h true _ c) (λ g d. made-follows _ d (λ _ _ _. refl))) (λ m.
      on-follows (word (codes "class")) (λ d at. refl) _ _ _ _ s (λ t c n. bind-follows _ _ _ _ c (follow-class i i' h of_module true _ c) (λ g d. made-follows _ d (λ _ _ _. refl))) (λ m. follow-default-value at word_span s)))

  follow-exported : (s : Input) → Runs (λ l. exported_declaration (i' l)) (exported_declaration i) s
  unfolding exported_declaration
  follow-exported s = from-follows (declaration_from i) (λ l. declaration_from (i' l)) s (λ l place place' d at us last. refl)
      (on-follows (word (codes "var")) (λ d at. refl) (λ _. variables_statement i of_module (begin_of s.tokens) Var) (λ l _. variables_statement (i' l) of_module (begin_of s.tokens) Var) (on_declaration i of_module (begin_of s.tokens) refused) (λ l. on_declaration (i' l) of_module (begin_of s.tokens) refused) s
      (λ t c n. follow-variables-statement i i' h of_module (begin_of s.tokens) Var c) (λ m. declaration-follows of_module (begin_of s.tokens) refused (λ l. refused) s (refused-holds s)))

  follow-export-declaration : (at : ℕ) (s : Input) → Runs (λ l. export_declaration (i' l) at) (export_declaration i at) s
  unfolding export_declaration
  follow-export-declaration at s = bind-follows _ _ _ _ s (follow-exported s) (λ x c. made-follows _ c (λ _ _ _. refl))

  follow-export-item : (at : ℕ) (s : Input) → Runs (λ l. export_item (i' l) at) (export_item i at) s
  unfolding export_item
  follow-export-item at s = on-follows (mark marks.Star) (λ d at. refl) _ _ _ _ s (λ t c n. follow-export-all at c) (λ m.
      on-follows (word (codes "default")) (λ d at. refl) _ _ _ _ s (λ t c n. follow-export-default at t.span c) (λ m.
      if-follows (next_mark marks.LeftBrace) (λ d at. refl) _ _ _ _ s (export-names-stop at) (λ e. follow-export-names at s) (λ e. follow-export-declaration at s)))

  follow-statement-item : (s : Input) → Runs (λ l. statement_item (i' l)) (statement_item i) s
  unfolding statement_item
  follow-statement-item s = bind-follows _ _ _ _ s (follow-statement of_module Listed s) (λ x c. returns-follows _ c)

  pub follow-item : (s : Input) → Runs (λ l. one_item (i' l)) (one_item i) s
  unfolding one_item
  follow-item s = from-follows (item_from i) (λ l. item_from (i' l)) s (λ l place place' d at us last. refl)
      (on-follows (word (codes "import")) (λ d at. refl) _ _ _ _ s (λ t c n. follow-import-item _ c) (λ m.
      on-follows (word (codes "export")) (λ d at. refl) _ _ _ _ s (λ t c n. follow-export-item _ c) (λ m. follow-statement-item s)))
