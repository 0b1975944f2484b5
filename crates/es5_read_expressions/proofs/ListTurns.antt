-- One turn of each list.
use Rattle.std.proofs.Common.{◌≡◌, Bool, true, false, ℕ, ◌+◌, ◌-◌, ◌<◌, List, [], ◌∷◌, ◌++◌, ap, ◌∙◌}
use Rattle.std.specs.Prelude.{codes}
use Rattle.es5_ast.specs.declared.tree.Identifier5.{Identifier5}
use Rattle.es5_reading.specs.Parser.{Input5, Inner5, Read5, Took, after, returns, on, take_as, mark, next_mark}
use Rattle.es5_reading.specs.Expressions.{identifier, more_parameters, statements, properties, elements, more_arguments, links, parts, assignment}
use Rattle.es5_ast.specs.declared.tree.Stat5.{Stat5}
use Rattle.es5_ast.specs.declared.tree.Expr5.{Expr5}
use Rattle.es5_ast.specs.declared.tree.Element5.{Element5}
use Rattle.es5_ast.specs.declared.tree.Element5.TheVariants as element
use Rattle.es5_ast.specs.declared.tree.Property5.{Property5}
use Rattle.es5_ast.specs.declared.tree.Link5.{Link5}
use Rattle.es5_cursor.specs.Readers.{turns, before}
use Rattle.es5_cursor.proofs.Loops.{turn, one_before, ended, then}
use Rattle.es5_cursor.specs.Takes.{Takes}
use Rattle.es5_cursor.proofs.Choices.{on_mark, off_mark}

pub statements_turn : (i : Inner5) (inside top : Bool) (n : ℕ) (c : Input5) → n < turns → statements i inside top (turns - n) c ≡ on (mark (codes "}")) (λ _. returns []) (λ d. after (i.statement inside top d) (λ s e. after (statements i inside top (turns - (n + 1)) e) (λ ss. returns (s ∷ ss)))) c
unfolding statements
statements_turn i inside top n c h = ap (λ m. statements i inside top m c) (turn n h)

pub statements_more : (i : Inner5) (inside top : Bool) (n : ℕ) (front : List Stat5) (c d e : Input5) (s : Stat5) → n < turns → Takes (next_mark (codes "}")) c false d → i.statement inside top d ≡ Took s e → before front (statements i inside top (turns - n) c) ≡ before (front ++ s ∷ []) (statements i inside top (turns - (n + 1)) e)
statements_more i inside top n front c d e s lt none read = ap (before front) (statements_turn i inside top n c lt ∙ off_mark _ _ _ c d none ∙ then _ read) ∙ one_before front s (statements i inside top (turns - (n + 1)) e)

pub statements_end : (i : Inner5) (inside top : Bool) (n : ℕ) (front : List Stat5) (c d : Input5) → n < turns → Takes (next_mark (codes "}")) c true d → before front (statements i inside top (turns - n) c) ≡ Took front d
statements_end i inside top n front c d lt taken = ended front (statements_turn i inside top n c lt ∙ on_mark _ _ _ c d taken)

pub properties_turn : (i : Inner5) (n : ℕ) (c : Input5) → n < turns → properties i (turns - n) c ≡ on (mark (codes "}")) (λ _. returns []) (λ d. after (i.property d) (λ x. on (mark (codes ",")) (λ _ e. after (properties i (turns - (n + 1)) e) (λ xs. returns (x ∷ xs))) (λ e. after (take_as (mark (codes "}")) e) (λ _. returns (x ∷ []))))) c
unfolding properties
properties_turn i n c h = ap (λ m. properties i m c) (turn n h)

pub properties_more : (i : Inner5) (n : ℕ) (front : List Property5) (c d e f : Input5) (x : Property5) → n < turns → Takes (next_mark (codes "}")) c false d → i.property d ≡ Took x e → Takes (next_mark (codes ",")) e true f → before front (properties i (turns - n) c) ≡ before (front ++ x ∷ []) (properties i (turns - (n + 1)) f)
properties_more i n front c d e f x lt none read comma = ap (before front) (properties_turn i n c lt ∙ off_mark _ _ _ c d none ∙ then _ read ∙ on_mark _ _ _ e f comma) ∙ one_before front x (properties i (turns - (n + 1)) f)

pub properties_end : (i : Inner5) (n : ℕ) (front : List Property5) (c d : Input5) → n < turns → Takes (next_mark (codes "}")) c true d → before front (properties i (turns - n) c) ≡ Took front d
properties_end i n front c d lt taken = ended front (properties_turn i n c lt ∙ on_mark _ _ _ c d taken)

pub elements_turn : (i : Inner5) (n : ℕ) (c : Input5) → n < turns → elements i (turns - n) c ≡ on (mark (codes "]")) (λ _. returns []) (on (mark (codes ",")) (λ _ d. after (elements i (turns - (n + 1)) d) (λ xs. returns (element.Hole ∷ xs))) (λ d. after (i.assignment false d) (λ x. on (mark (codes ",")) (λ _ e. after (elements i (turns - (n + 1)) e) (λ xs. returns (element.Element x.value ∷ xs))) (λ e. after (take_as (mark (codes "]")) e) (λ _. returns (element.Element x.value ∷ [])))))) c
unfolding elements
elements_turn i n c h = ap (λ m. elements i m c) (turn n h)

pub elements_hole : (i : Inner5) (n : ℕ) (front : List Element5) (c d e : Input5) → n < turns → Takes (next_mark (codes "]")) c false d → Takes (next_mark (codes ",")) d true e → before front (elements i (turns - n) c) ≡ before (front ++ element.Hole ∷ []) (elements i (turns - (n + 1)) e)
elements_hole i n front c d e lt none comma = ap (before front) (elements_turn i n c lt ∙ off_mark _ _ _ c d none ∙ on_mark _ _ _ d e comma) ∙ one_before front element.Hole (elements i (turns - (n + 1)) e)

pub elements_more : (i : Inner5) (n : ℕ) (front : List Element5) (c d e f g : Input5) (x : Read5) → n < turns → Takes (next_mark (codes "]")) c false d → Takes (next_mark (codes ",")) d false e → i.assignment false e ≡ Took x f → Takes (next_mark (codes ",")) f true g → before front (elements i (turns - n) c) ≡ before (front ++ element.Element x.value ∷ []) (elements i (turns - (n + 1)) g)
elements_more i n front c d e f g x lt none hole read comma = ap (before front) (elements_turn i n c lt ∙ off_mark _ _ _ c d none ∙ off_mark _ _ _ d e hole ∙ then _ read ∙ on_mark _ _ _ f g comma) ∙ one_before front (element.Element x.value) (elements i (turns - (n + 1)) g)

pub elements_end : (i : Inner5) (n : ℕ) (front : List Element5) (c d : Input5) → n < turns → Takes (next_mark (codes "]")) c true d → before front (elements i (turns - n) c) ≡ Took front d
elements_end i n front c d lt taken = ended front (elements_turn i n c lt ∙ on_mark _ _ _ c d taken)

pub arguments_turn : (i : Inner5) (n : ℕ) (c : Input5) → n < turns → more_arguments i (turns - n) c ≡ after (i.assignment false c) (λ x. on (mark (codes ",")) (λ _ d. after (more_arguments i (turns - (n + 1)) d) (λ xs. returns (x.value ∷ xs))) (λ d. after (take_as (mark (codes ")")) d) (λ _. returns (x.value ∷ []))))
unfolding more_arguments
arguments_turn i n c h = ap (λ m. more_arguments i m c) (turn n h)

pub arguments_more : (i : Inner5) (n : ℕ) (front : List Expr5) (c d e : Input5) (x : Read5) → n < turns → i.assignment false c ≡ Took x d → Takes (next_mark (codes ",")) d true e → before front (more_arguments i (turns - n) c) ≡ before (front ++ x.value ∷ []) (more_arguments i (turns - (n + 1)) e)
arguments_more i n front c d e x lt read taken = ap (before front) (arguments_turn i n c lt ∙ then _ read ∙ on_mark _ _ _ d e taken) ∙ one_before front x.value (more_arguments i (turns - (n + 1)) e)

pub parts_turn : (i : Inner5) (no_in : Bool) (n : ℕ) (c : Input5) → n < turns → parts i no_in (turns - n) c ≡ after (assignment i no_in c) (λ x. on (mark (codes ",")) (λ _ d. after (parts i no_in (turns - (n + 1)) d) (λ xs. returns (x.value ∷ xs))) (returns (x.value ∷ [])))
unfolding parts
parts_turn i no_in n c h = ap (λ m. parts i no_in m c) (turn n h)

pub parts_more : (i : Inner5) (no_in : Bool) (n : ℕ) (front : List Expr5) (c d e : Input5) (x : Read5) → n < turns → assignment i no_in c ≡ Took x d → Takes (next_mark (codes ",")) d true e → before front (parts i no_in (turns - n) c) ≡ before (front ++ x.value ∷ []) (parts i no_in (turns - (n + 1)) e)
parts_more i no_in n front c d e x lt read taken = ap (before front) (parts_turn i no_in n c lt ∙ then _ read ∙ on_mark _ _ _ d e taken) ∙ one_before front x.value (parts i no_in (turns - (n + 1)) e)
