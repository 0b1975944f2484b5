-- One turn of each list.
use Rattle.std.proofs.Common.{◌≡◌, ℕ, true, false, ◌+◌, ◌-◌, ◌<◌, List, [], ◌∷◌, ◌++◌, ap, ◌∙◌}
use Rattle.es6_lexer.specs.declared.token.Punctuator.TheVariants as marks
use Rattle.es6_ast.specs.declared.module.ExportName.{ExportName}
use Rattle.es6_ast.specs.declared.module.ImportName.{ImportName}
use Rattle.es6_ast.specs.declared.module.Item.{Item}
use Rattle.es6_reading.specs.Parser.{Input, Inner, Took, after, returns, on, take_as, mark, next_mark, next_is, if_next}
use Rattle.es6_reading.specs.Modules.{exports, one_export, imports, one_import, items, one_item, is_end}
use Rattle.es6_cursor.specs.Readers.{turns, before}
use Rattle.es6_cursor.specs.Takes.{Takes}
use Rattle.es6_cursor.proofs.Choices.{on_mark, off_mark, chose, passed_by}
use Rattle.es6_cursor.proofs.Loops.{turn, one_before, ended, then}

-- ## Names that are exported

pub exports_turn : (n : ℕ) (c : Input) → n < turns → exports (turns - n) c ≡ on (mark marks.RightBrace) (λ _. returns []) (λ d. after (one_export d) (λ x. on (mark marks.Comma) (λ _ e. after (exports (turns - (n + 1)) e) (λ xs. returns (x ∷ xs))) (λ e. after (take_as (mark marks.RightBrace) e) (λ _. returns (x ∷ []))))) c
unfolding exports
exports_turn n c h = ap (λ m. exports m c) (turn n h)

pub exports_more : (n : ℕ) (front : List ExportName) (c d e f : Input) (x : ExportName) → n < turns → Takes (next_mark marks.RightBrace) c false d → one_export d ≡ Took x e → Takes (next_mark marks.Comma) e true f → before front (exports (turns - n) c) ≡ before (front ++ x ∷ []) (exports (turns - (n + 1)) f)
exports_more n front c d e f x lt none read comma = ap (before front) (exports_turn n c lt ∙ off_mark marks.RightBrace (returns []) _ c d none ∙ then _ read ∙ on_mark marks.Comma (λ g. after (exports (turns - (n + 1)) g) (λ xs. returns (x ∷ xs))) _ e f comma) ∙ one_before front x (exports (turns - (n + 1)) f)

pub exports_end : (n : ℕ) (front : List ExportName) (c d : Input) → n < turns → Takes (next_mark marks.RightBrace) c true d → before front (exports (turns - n) c) ≡ Took front d
exports_end n front c d lt taken = ended front (exports_turn n c lt ∙ on_mark marks.RightBrace (returns []) _ c d taken)

pub ruleset export_turns = (exports_turn, exports_more, exports_end)

-- ## Names that are imported

pub imports_turn : (n : ℕ) (c : Input) → n < turns → imports (turns - n) c ≡ on (mark marks.RightBrace) (λ _. returns []) (λ d. after (one_import d) (λ x. on (mark marks.Comma) (λ _ e. after (imports (turns - (n + 1)) e) (λ xs. returns (x ∷ xs))) (λ e. after (take_as (mark marks.RightBrace) e) (λ _. returns (x ∷ []))))) c
unfolding imports
imports_turn n c h = ap (λ m. imports m c) (turn n h)

pub imports_more : (n : ℕ) (front : List ImportName) (c d e f : Input) (x : ImportName) → n < turns → Takes (next_mark marks.RightBrace) c false d → one_import d ≡ Took x e → Takes (next_mark marks.Comma) e true f → before front (imports (turns - n) c) ≡ before (front ++ x ∷ []) (imports (turns - (n + 1)) f)
imports_more n front c d e f x lt none read comma = ap (before front) (imports_turn n c lt ∙ off_mark marks.RightBrace (returns []) _ c d none ∙ then _ read ∙ on_mark marks.Comma (λ g. after (imports (turns - (n + 1)) g) (λ xs. returns (x ∷ xs))) _ e f comma) ∙ one_before front x (imports (turns - (n + 1)) f)

pub imports_end : (n : ℕ) (front : List ImportName) (c d : Input) → n < turns → Takes (next_mark marks.RightBrace) c true d → before front (imports (turns - n) c) ≡ Took front d
imports_end n front c d lt taken = ended front (imports_turn n c lt ∙ on_mark marks.RightBrace (returns []) _ c d taken)

pub ruleset import_turns = (imports_turn, imports_more, imports_end)

-- ## Items

pub items_turn : (i : Inner) (n : ℕ) (c : Input) → n < turns → items i (turns - n) c ≡ if_next is_end (returns []) (λ d. after (one_item i d) (λ x e. after (items i (turns - (n + 1)) e) (λ xs. returns (x ∷ xs)))) c
unfolding items
items_turn i n c h = ap (λ m. items i m c) (turn n h)

pub items_more : (i : Inner) (n : ℕ) (front : List Item) (c d : Input) (x : Item) → n < turns → next_is is_end c.tokens ≡ false → one_item i c ≡ Took x d → before front (items i (turns - n) c) ≡ before (front ++ x ∷ []) (items i (turns - (n + 1)) d)
items_more i n front c d x lt none read = ap (before front) (items_turn i n c lt ∙ passed_by _ _ _ c none ∙ then _ read) ∙ one_before front x (items i (turns - (n + 1)) d)

pub items_end : (i : Inner) (n : ℕ) (front : List Item) (c : Input) → n < turns → next_is is_end c.tokens ≡ true → before front (items i (turns - n) c) ≡ Took front c
items_end i n front c lt found = ended front (items_turn i n c lt ∙ chose _ _ _ c found)

pub ruleset item_turns = (items_turn, items_more, items_end)
