-- What may be printed at the top of a script may be printed in the body of a function: `return` alone asks for one round it, and so does
-- `this`. By induction over the tree.
use Rattle.std.proofs.Common.{◌≡◌, Bool, true, false, List, [], ◌∷◌, ◌++◌, map, Option, None, Some, refl, sym, subst}
use Rattle.std.proofs.lemmas.Bool.{false≢true}
use Rattle.es5_ast.specs.declared.tree.Element5.{Element5, roll-Element5, map-Element5}
use Rattle.es5_ast.specs.declared.tree.Expr5.{Expr5, roll-Expr5, map-Expr5}
use Rattle.es5_ast.specs.declared.tree.ForFirst5.{ForFirst5, roll-ForFirst5, map-ForFirst5}
use Rattle.es5_ast.specs.declared.tree.Link5.{Link5, roll-Link5, map-Link5}
use Rattle.es5_ast.specs.declared.tree.Property5.{Property5, roll-Property5, map-Property5}
use Rattle.es5_ast.specs.declared.tree.Stat5.{Stat5, roll-Stat5, map-Stat5, ind-Stat5}
use Rattle.es5_ast.specs.declared.tree.Block5.{Block5, roll-Block5, map-Block5}
use Rattle.es5_ast.specs.declared.tree.Case5.{Case5, roll-Case5, map-Case5}
use Rattle.es5_ast.specs.declared.tree.Catch5.{Catch5, roll-Catch5, map-Catch5}
use Rattle.es5_ast.specs.declared.tree.Condition5.{Condition5, roll-Condition5, map-Condition5}
use Rattle.es5_ast.specs.declared.tree.Declared5.{Declared5, roll-Declared5, map-Declared5}
use Rattle.es5_ast.specs.declared.tree.Function5.{Function5, map-Function5}
use Rattle.es5_ast.specs.declared.tree.Operand5.{Operand5, roll-Operand5, map-Operand5}
use Rattle.es5_ast.specs.declared.tree.Element5.TheOpen as layer
use Rattle.es5_ast.specs.declared.tree.Element5.TheOpen.{Element5-F, Expr5-F, ForFirst5-F, Link5-F, Property5-F, Stat5-F, Block5-F, Case5-F, Catch5-F, Condition5-F, Declared5-F, Function5-F, Operand5-F}
use Rattle.es5_ast.specs.Early as e
use Rattle.es5_ast.specs.Early.{Around, Held5, Inside, Pair5, Round5}
use Rattle.es5_printable.specs.Printable as p
use Rattle.es5_printable.specs.Printable.{block_fit, case_fit, catch_fit, condition_fit, stat_fit}
use Rattle.pass_rules.proofs.pass_laws.Within.{left, right, both}
use Rattle.emission_laws.proofs.Good.{first_none, none, second_none}
use Rattle.emission_laws.proofs.Layers.{Open, element_found, expr_found, for_first_found, link_found, property_found, stat_found, block_found, case_found, catch_found, condition_found, declared_found, operand_found, found_element, found_expr, found_for_first, found_link, found_property, found_stat, found_block, found_case, found_catch, found_condition, found_declared, found_operand, found_element-roll, found_expr-roll, found_for_first-roll, found_link-roll, found_property-roll, found_stat-roll, found_block-roll, found_case-roll, found_catch-roll, found_condition-roll, found_declared-roll, found_operand-roll, fit_stat, fit_block, fit_case, fit_catch, fit_condition, fit_stat-roll, fit_block-roll, fit_case-roll, fit_catch-roll, fit_condition-roll}

-- ## What is shown: where a function is round a node, it has no more pairs, and fits still

abbrev Enters : Inside → Type 0
Enters f = f false ≡ [] → f true ≡ []

abbrev at : Bool → Round5 → Round5
at inside r = record r { inside = inside }

abbrev EntersRound : Around → Type 0
EntersRound f = (r : Round5) → f (at false r) ≡ [] → f (at true r) ≡ []

abbrev Rises : (Bool → Bool) → Type 0
Rises f = f false ≡ true → f true ≡ true

abbrev OfElement : Element5 → Type 0
OfElement x = Enters (element_found x)

abbrev OfDeclared : Declared5 → Type 0
OfDeclared x = Enters (declared_found x)

abbrev OfOperand : Operand5 → Type 0
OfOperand x = Enters (operand_found x)

abbrev OfExpr : Expr5 → Type 0
OfExpr x = Enters (expr_found x).pairs

abbrev OfForFirst : ForFirst5 → Type 0
OfForFirst x = EntersRound (for_first_found x)

abbrev OfLink : Link5 → Type 0
OfLink x = Enters (link_found x).1

abbrev OfProperty : Property5 → Type 0
OfProperty x = Enters (property_found x).pairs

abbrev OfFunction : Function5 → Type 0
OfFunction f = Unit {0}

pub record OfStat (s : Stat5) : Type 0 where
  pub fits : (top : Bool) → (stat_fit s).fits false top ≡ true → (stat_fit s).fits true top ≡ true
  pub pairs : EntersRound (stat_found s)

record OfBlock (b : Block5) : Type 0 where
  fits : Rises (block_fit b)
  pairs : EntersRound (block_found b)

record OfCase (c : Case5) : Type 0 where
  fits : Rises (case_fit c).fits
  pairs : EntersRound (case_found c)

record OfCatch (c : Catch5) : Type 0 where
  fits : Rises (catch_fit c)
  pairs : EntersRound (catch_found c)

record OfCondition (c : Condition5) : Type 0 where
  fits : Rises (condition_fit c).fits
  pairs : EntersRound (condition_found c)

-- ## Layers whose parts come with what is shown of them

abbrev With : {A : Type 0} → (A → Type 0) → Type 0
With {A} P = (x : A) × P x

abbrev Shown : (Type 0 → Type 0 → Type 0 → Type 0 → Type 0 → Type 0 → Type 0 → Type 0 → Type 0 → Type 0 → Type 0 → Type 0 → Type 0 → Type 0) → Type 0
Shown Of = Of (With OfElement) (With OfExpr) (With OfForFirst) (With OfLink) (With OfProperty) (With OfStat) (With OfBlock) (With OfCase) (With OfCatch) (With OfCondition) (With OfDeclared) (With OfFunction) (With OfOperand)

abbrev bare_element : Shown Element5-F → Open Element5-F
bare_element = map-Element5 (With OfElement) (With OfExpr) (With OfForFirst) (With OfLink) (With OfProperty) (With OfStat) (With OfBlock) (With OfCase) (With OfCatch) (With OfCondition) (With OfDeclared) (With OfFunction) (With OfOperand) Element5 Expr5 ForFirst5 Link5 Property5 Stat5 Block5 Case5 Catch5 Condition5 Declared5 Function5 Operand5 (λ e. e.0) (λ e. e.0) (λ e. e.0) (λ e. e.0) (λ e. e.0) (λ e. e.0) (λ e. e.0) (λ e. e.0) (λ e. e.0) (λ e. e.0) (λ e. e.0) (λ e. e.0) (λ e. e.0)

abbrev bare_expr : Shown Expr5-F → Open Expr5-F
bare_expr = map-Expr5 (With OfElement) (With OfExpr) (With OfForFirst) (With OfLink) (With OfProperty) (With OfStat) (With OfBlock) (With OfCase) (With OfCatch) (With OfCondition) (With OfDeclared) (With OfFunction) (With OfOperand) Element5 Expr5 ForFirst5 Link5 Property5 Stat5 Block5 Case5 Catch5 Condition5 Declared5 Function5 Operand5 (λ e. e.0) (λ e. e.0) (λ e. e.0) (λ e. e.0) (λ e. e.0) (λ e. e.0) (λ e. e.0) (λ e. e.0) (λ e. e.0) (λ e. e.0) (λ e. e.0) (λ e. e.0) (λ e. e.0)

abbrev bare_for_first : Shown ForFirst5-F → Open ForFirst5-F
bare_for_first = map-ForFirst5 (With OfElement) (With OfExpr) (With OfForFirst) (With OfLink) (With OfProperty) (With OfStat) (With OfBlock) (With OfCase) (With OfCatch) (With OfCondition) (With OfDeclared) (With OfFunction) (With OfOperand) Element5 Expr5 ForFirst5 Link5 Property5 Stat5 Block5 Case5 Catch5 Condition5 Declared5 Function5 Operand5 (λ e. e.0) (λ e. e.0) (λ e. e.0) (λ e. e.0) (λ e. e.0) (λ e. e.0) (λ e. e.0) (λ e. e.0) (λ e. e.0) (λ e. e.0) (λ e. e.0) (λ e. e.0) (λ e. e.0)

abbrev bare_link : Shown Link5-F → Open Link5-F
bare_link = map-Link5 (With OfElement) (With OfExpr) (With OfForFirst) (With OfLink) (With OfProperty) (With OfStat) (With OfBlock) (With OfCase) (With OfCatch) (With OfCondition) (With OfDeclared) (With OfFunction) (With OfOperand) Element5 Expr5 ForFirst5 Link5 Property5 Stat5 Block5 Case5 Catch5 Condition5 Declared5 Function5 Operand5 (λ e. e.0) (λ e. e.0) (λ e. e.0) (λ e. e.0) (λ e. e.0) (λ e. e.0) (λ e. e.0) (λ e. e.0) (λ e. e.0) (λ e. e.0) (λ e. e.0) (λ e. e.0) (λ e. e.0)

abbrev bare_property : Shown Property5-F → Open Property5-F
bare_property = map-Property5 (With OfElement) (With OfExpr) (With OfForFirst) (With OfLink) (With OfProperty) (With OfStat) (With OfBlock) (With OfCase) (With OfCatch) (With OfCondition) (With OfDeclared) (With OfFunction) (With OfOperand) Element5 Expr5 ForFirst5 Link5 Property5 Stat5 Block5 Case5 Catch5 Condition5 Declared5 Function5 Operand5 (λ e. e.0) (λ e. e.0) (λ e. e.0) (λ e. e.0) (λ e. e.0) (λ e. e.0) (λ e. e.0) (λ e. e.0) (λ e. e.0) (λ e. e.0) (λ e. e.0) (λ e. e.0) (λ e. e.0)

abbrev bare_stat : Shown Stat5-F → Open Stat5-F
bare_stat = map-Stat5 (With OfElement) (With OfExpr) (With OfForFirst) (With OfLink) (With OfProperty) (With OfStat) (With OfBlock) (With OfCase) (With OfCatch) (With OfCondition) (With OfDeclared) (With OfFunction) (With OfOperand) Element5 Expr5 ForFirst5 Link5 Property5 Stat5 Block5 Case5 Catch5 Condition5 Declared5 Function5 Operand5 (λ e. e.0) (λ e. e.0) (λ e. e.0) (λ e. e.0) (λ e. e.0) (λ e. e.0) (λ e. e.0) (λ e. e.0) (λ e. e.0) (λ e. e.0) (λ e. e.0) (λ e. e.0) (λ e. e.0)

abbrev bare_block : Shown Block5-F → Open Block5-F
bare_block = map-Block5 (With OfElement) (With OfExpr) (With OfForFirst) (With OfLink) (With OfProperty) (With OfStat) (With OfBlock) (With OfCase) (With OfCatch) (With OfCondition) (With OfDeclared) (With OfFunction) (With OfOperand) Element5 Expr5 ForFirst5 Link5 Property5 Stat5 Block5 Case5 Catch5 Condition5 Declared5 Function5 Operand5 (λ e. e.0) (λ e. e.0) (λ e. e.0) (λ e. e.0) (λ e. e.0) (λ e. e.0) (λ e. e.0) (λ e. e.0) (λ e. e.0) (λ e. e.0) (λ e. e.0) (λ e. e.0) (λ e. e.0)

abbrev bare_case : Shown Case5-F → Open Case5-F
bare_case = map-Case5 (With OfElement) (With OfExpr) (With OfForFirst) (With OfLink) (With OfProperty) (With OfStat) (With OfBlock) (With OfCase) (With OfCatch) (With OfCondition) (With OfDeclared) (With OfFunction) (With OfOperand) Element5 Expr5 ForFirst5 Link5 Property5 Stat5 Block5 Case5 Catch5 Condition5 Declared5 Function5 Operand5 (λ e. e.0) (λ e. e.0) (λ e. e.0) (λ e. e.0) (λ e. e.0) (λ e. e.0) (λ e. e.0) (λ e. e.0) (λ e. e.0) (λ e. e.0) (λ e. e.0) (λ e. e.0) (λ e. e.0)

abbrev bare_catch : Shown Catch5-F → Open Catch5-F
bare_catch = map-Catch5 (With OfElement) (With OfExpr) (With OfForFirst) (With OfLink) (With OfProperty) (With OfStat) (With OfBlock) (With OfCase) (With OfCatch) (With OfCondition) (With OfDeclared) (With OfFunction) (With OfOperand) Element5 Expr5 ForFirst5 Link5 Property5 Stat5 Block5 Case5 Catch5 Condition5 Declared5 Function5 Operand5 (λ e. e.0) (λ e. e.0) (λ e. e.0) (λ e. e.0) (λ e. e.0) (λ e. e.0) (λ e. e.0) (λ e. e.0) (λ e. e.0) (λ e. e.0) (λ e. e.0) (λ e. e.0) (λ e. e.0)

abbrev bare_condition : Shown Condition5-F → Open Condition5-F
bare_condition = map-Condition5 (With OfElement) (With OfExpr) (With OfForFirst) (With OfLink) (With OfProperty) (With OfStat) (With OfBlock) (With OfCase) (With OfCatch) (With OfCondition) (With OfDeclared) (With OfFunction) (With OfOperand) Element5 Expr5 ForFirst5 Link5 Property5 Stat5 Block5 Case5 Catch5 Condition5 Declared5 Function5 Operand5 (λ e. e.0) (λ e. e.0) (λ e. e.0) (λ e. e.0) (λ e. e.0) (λ e. e.0) (λ e. e.0) (λ e. e.0) (λ e. e.0) (λ e. e.0) (λ e. e.0) (λ e. e.0) (λ e. e.0)

abbrev bare_declared : Shown Declared5-F → Open Declared5-F
bare_declared = map-Declared5 (With OfElement) (With OfExpr) (With OfForFirst) (With OfLink) (With OfProperty) (With OfStat) (With OfBlock) (With OfCase) (With OfCatch) (With OfCondition) (With OfDeclared) (With OfFunction) (With OfOperand) Element5 Expr5 ForFirst5 Link5 Property5 Stat5 Block5 Case5 Catch5 Condition5 Declared5 Function5 Operand5 (λ e. e.0) (λ e. e.0) (λ e. e.0) (λ e. e.0) (λ e. e.0) (λ e. e.0) (λ e. e.0) (λ e. e.0) (λ e. e.0) (λ e. e.0) (λ e. e.0) (λ e. e.0) (λ e. e.0)

abbrev bare_function : Shown Function5-F → Open Function5-F
bare_function = map-Function5 (With OfElement) (With OfExpr) (With OfForFirst) (With OfLink) (With OfProperty) (With OfStat) (With OfBlock) (With OfCase) (With OfCatch) (With OfCondition) (With OfDeclared) (With OfFunction) (With OfOperand) Element5 Expr5 ForFirst5 Link5 Property5 Stat5 Block5 Case5 Catch5 Condition5 Declared5 Function5 Operand5 (λ e. e.0) (λ e. e.0) (λ e. e.0) (λ e. e.0) (λ e. e.0) (λ e. e.0) (λ e. e.0) (λ e. e.0) (λ e. e.0) (λ e. e.0) (λ e. e.0) (λ e. e.0) (λ e. e.0)

abbrev bare_operand : Shown Operand5-F → Open Operand5-F
bare_operand = map-Operand5 (With OfElement) (With OfExpr) (With OfForFirst) (With OfLink) (With OfProperty) (With OfStat) (With OfBlock) (With OfCase) (With OfCatch) (With OfCondition) (With OfDeclared) (With OfFunction) (With OfOperand) Element5 Expr5 ForFirst5 Link5 Property5 Stat5 Block5 Case5 Catch5 Condition5 Declared5 Function5 Operand5 (λ e. e.0) (λ e. e.0) (λ e. e.0) (λ e. e.0) (λ e. e.0) (λ e. e.0) (λ e. e.0) (λ e. e.0) (λ e. e.0) (λ e. e.0) (λ e. e.0) (λ e. e.0) (λ e. e.0)

-- ## Lists

joined_enters : {A B : Type 0} (f : A → B) (P : A → Type 0) (g h : B → List Pair5) → ((x : A) → P x → g (f x) ≡ [] → h (f x) ≡ []) → (qs : List (With P)) → e.joined g (map f (map (λ q. q.0) qs)) ≡ [] → e.joined h (map f (map (λ q. q.0) qs)) ≡ []
joined_enters f P g h k [] n = refl
joined_enters f P g h k (q ∷ qs) n = none (k q.0 q.1 (first_none (g (f q.0)) _ n)) (joined_enters f P g h k qs (second_none (g (f q.0)) _ n))

exprs_enter : (xs : List (With OfExpr)) → e.joined (λ x. x.pairs false) (map expr_found (map (λ q. q.0) xs)) ≡ [] → e.joined (λ x. x.pairs true) (map expr_found (map (λ q. q.0) xs)) ≡ []
exprs_enter xs n = joined_enters expr_found OfExpr (λ x. x.pairs false) (λ x. x.pairs true) (λ x k i. k i) xs n

all_declared : (ds : List (With OfDeclared)) → e.joined (λ d. d false) (map declared_found (map (λ q. q.0) ds)) ≡ [] → e.joined (λ d. d true) (map declared_found (map (λ q. q.0) ds)) ≡ []
all_declared ds n = joined_enters declared_found OfDeclared (λ d. d false) (λ d. d true) (λ x k i. k i) ds n

stats_enter : (r : Round5) (ss : List (With OfStat)) → e.joined (λ s. s (at false r)) (map stat_found (map (λ q. q.0) ss)) ≡ [] → e.joined (λ s. s (at true r)) (map stat_found (map (λ q. q.0) ss)) ≡ []
stats_enter r ss n = joined_enters stat_found OfStat (λ s. s (at false r)) (λ s. s (at true r)) (λ x k i. k.pairs r i) ss n

properties_enter : (seen : List Held5) (ps : List (With OfProperty)) → e.property_pairs seen (map property_found (map (λ q. q.0) ps)) false ≡ [] → e.property_pairs seen (map property_found (map (λ q. q.0) ps)) true ≡ []
properties_enter seen [] n = refl
properties_enter seen (q ∷ ps) n =
    let two = first_none _ (e.property_pairs (property_found q.0 ∷ seen) (map property_found (map (λ p. p.0) ps)) false) n in
    none (none (first_none _ ((property_found q.0).pairs false) two) (q.1 (second_none _ ((property_found q.0).pairs false) two))) (properties_enter (property_found q.0 ∷ seen) ps (second_none _ (e.property_pairs (property_found q.0 ∷ seen) (map property_found (map (λ p. p.0) ps)) false) n))

stats_rise : (top : Bool) (ss : List (With OfStat)) → p.stats_fit false top (map stat_fit (map (λ q. q.0) ss)) ≡ true → p.stats_fit true top (map stat_fit (map (λ q. q.0) ss)) ≡ true
stats_rise top [] h = refl
stats_rise top (s ∷ ss) h = both (s.1.fits top (left _ _ h)) (stats_rise top ss (right _ _ h))

cases_rise : (cs : List (With OfCase)) (may : Bool) → p.cases_fit false may (map case_fit (map (λ q. q.0) cs)) ≡ true → p.cases_fit true may (map case_fit (map (λ q. q.0) cs)) ≡ true
cases_rise [] may h = refl
cases_rise (c ∷ cs) may h = both (both (c.1.fits (left _ _ (left _ _ h))) (right _ _ (left _ _ h))) (cases_rise cs _ (right _ _ h))

if_rises : (c : With OfCondition) (more : List (With OfCondition)) → p.if_fits false (condition_fit c.0) (map condition_fit (map (λ q. q.0) more)) None ≡ true → p.if_fits true (condition_fit c.0) (map condition_fit (map (λ q. q.0) more)) None ≡ true
if_rises c [] h = c.1.fits h
if_rises c (d ∷ more) h = both (both (c.1.fits (left _ _ (left _ _ h))) (right _ _ (left _ _ h))) (if_rises d more (right _ _ h))

else_rises : (s : With OfStat) (c : With OfCondition) (more : List (With OfCondition)) → p.if_fits false (condition_fit c.0) (map condition_fit (map (λ q. q.0) more)) (Some (stat_fit s.0)) ≡ true → p.if_fits true (condition_fit c.0) (map condition_fit (map (λ q. q.0) more)) (Some (stat_fit s.0)) ≡ true
else_rises s c [] h = both (both (both (c.1.fits (left _ _ (left _ _ (left _ _ h)))) (right _ _ (left _ _ (left _ _ h)))) (s.1.fits false (right _ _ (left _ _ h)))) (right _ _ h)
else_rises s c (d ∷ more) h = both (both (c.1.fits (left _ _ (left _ _ h))) (right _ _ (left _ _ h))) (else_rises s d more (right _ _ h))

-- ## Expressions

element_enters : (y : Shown Element5-F) → Enters (e.element_step (found_element (bare_element y)))
element_enters layer.Hole n = refl
element_enters (layer.Element x) n = x.1 n

expr_enters : (y : Shown Expr5-F) → Enters (e.expr_step (found_expr (bare_expr y))).pairs
expr_enters (layer.This span) n = refl
expr_enters (layer.Name span name) n = n
expr_enters (layer.Literal span value) n = refl
expr_enters (layer.ArrayList span elements) n = joined_enters element_found OfElement (λ f. f false) (λ f. f true) (λ x k i. k i) elements n
expr_enters (layer.ObjectList span properties) n = properties_enter [] properties n
expr_enters (layer.Function f) n = n
expr_enters (layer.Chain span head links) n =
    none (head.1 (first_none ((expr_found head.0).pairs false) _ n)) (joined_enters link_found OfLink (λ l. l.1 false) (λ l. l.1 true) (λ x k i. k i) links (second_none ((expr_found head.0).pairs false) _ n))
expr_enters (layer.New span callee arguments) n = none (callee.1 (first_none ((expr_found callee.0).pairs false) _ n)) (exprs_enter arguments (second_none ((expr_found callee.0).pairs false) _ n))
expr_enters (layer.Update span operator target) n = none (first_none _ ((expr_found target.0).pairs false) n) (target.1 (second_none _ ((expr_found target.0).pairs false) n))
expr_enters (layer.Unary span operator operand) n = none (first_none _ ((expr_found operand.0).pairs false) n) (operand.1 (second_none _ ((expr_found operand.0).pairs false) n))
expr_enters (layer.Binary span first rest) n =
    none (first.1 (first_none ((expr_found first.0).pairs false) _ n)) (joined_enters operand_found OfOperand (λ f. f false) (λ f. f true) (λ x k i. k i) rest (second_none ((expr_found first.0).pairs false) _ n))
expr_enters (layer.Conditional span test yes_ no_) n =
    let two = first_none _ ((expr_found no_.0).pairs false) n in
    none (none (test.1 (first_none _ ((expr_found yes_.0).pairs false) two)) (yes_.1 (second_none _ ((expr_found yes_.0).pairs false) two))) (no_.1 (second_none _ ((expr_found no_.0).pairs false) n))
expr_enters (layer.Assign span operator target value) n =
    let two = first_none _ ((expr_found value.0).pairs false) n in
    none (none (first_none _ ((expr_found target.0).pairs false) two) (target.1 (second_none _ ((expr_found target.0).pairs false) two))) (value.1 (second_none _ ((expr_found value.0).pairs false) n))
expr_enters (layer.Sequence span first rest) n = none (first.1 (first_none ((expr_found first.0).pairs false) _ n)) (exprs_enter rest (second_none ((expr_found first.0).pairs false) _ n))

for_first_enters : (y : Shown ForFirst5-F) → EntersRound (e.for_first_step (found_for_first (bare_for_first y)))
for_first_enters layer.NoFirst r n = refl
for_first_enters (layer.FirstVar declared) r n = all_declared declared n
for_first_enters (layer.FirstExpression x) r n = x.1 n

link_enters : (y : Shown Link5-F) → Enters (e.link_step (found_link (bare_link y))).1
link_enters (layer.Member span name) n = refl
link_enters (layer.Index span index) n = index.1 n
link_enters (layer.Call span arguments site) n = exprs_enter arguments n

property_enters : (y : Shown Property5-F) → Enters (e.property_step (found_property (bare_property y))).pairs
property_enters (layer.Plain span key value) n = value.1 n
property_enters (layer.Getter span key function) n = n
property_enters (layer.Setter span key function) n = n

-- ## Statements: they fit

stat_rises : (y : Shown Stat5-F) (top : Bool) → (p.stat_step (fit_stat (bare_stat y))).fits false top ≡ true → (p.stat_step (fit_stat (bare_stat y))).fits true top ≡ true
stat_rises (layer.Var span declared) top h = h
stat_rises (layer.FunctionDeclaration function) top h = h
stat_rises (layer.Block block) top h = block.1.fits h
stat_rises (layer.Empty span) top h = h
stat_rises (layer.Expression span x) top h = h
stat_rises (layer.If span first more None) top h = if_rises first more h
stat_rises (layer.If span first more (Some s)) top h = else_rises s first more h
stat_rises (layer.DoWhile span body test) top h = both (body.1.fits false (left _ _ h)) (right _ _ h)
stat_rises (layer.While span test body) top h = both (left _ _ h) (body.1.fits false (right _ _ h))
stat_rises (layer.For span first test update body) top h = both (left _ _ h) (body.1.fits false (right _ _ h))
stat_rises (layer.Continue span label) top h = h
stat_rises (layer.Break span label) top h = h
stat_rises (layer.Return span value) top h = absurd (false≢true h)
stat_rises (layer.Switch span subject cases) top h = both (left _ _ h) (cases_rise cases true (right _ _ h))
stat_rises (layer.Labelled span label body) top h = both (left _ _ h) (body.1.fits false (right _ _ h))
stat_rises (layer.Throw span value) top h = h
stat_rises (layer.Try span block None None) top h = both (block.1.fits (left _ _ h)) (right _ _ h)
stat_rises (layer.Try span block None (Some last)) top h = both (block.1.fits (left _ _ h)) (last.1.fits (right _ _ h))
stat_rises (layer.Try span block (Some handler) None) top h = both (block.1.fits (left _ _ h)) (handler.1.fits (right _ _ h))
stat_rises (layer.Try span block (Some handler) (Some last)) top h = both (block.1.fits (left _ _ h)) (both (handler.1.fits (left _ _ (right _ _ h))) (last.1.fits (right _ _ (right _ _ h))))
stat_rises (layer.Debugger span) top h = h

-- ## And they have no pairs

conditions_enter : (r : Round5) (cs : List (With OfCondition)) → e.joined (λ c. c (at false r)) (map condition_found (map (λ q. q.0) cs)) ≡ [] → e.joined (λ c. c (at true r)) (map condition_found (map (λ q. q.0) cs)) ≡ []
conditions_enter r cs n = joined_enters condition_found OfCondition (λ c. c (at false r)) (λ c. c (at true r)) (λ x k i. k.pairs r i) cs n

cases_enter : (r : Round5) (cs : List (With OfCase)) → e.joined (λ c. c (at false r)) (map case_found (map (λ q. q.0) cs)) ≡ [] → e.joined (λ c. c (at true r)) (map case_found (map (λ q. q.0) cs)) ≡ []
cases_enter r cs n = joined_enters case_found OfCase (λ c. c (at false r)) (λ c. c (at true r)) (λ x k i. k.pairs r i) cs n

-- two parts one after the other
two_enter : (a b c d : List Pair5) → (a ≡ [] → c ≡ []) → (b ≡ [] → d ≡ []) → a ++ b ≡ [] → c ++ d ≡ []
two_enter a b c d f g n = none (f (first_none a b n)) (g (second_none a b n))

stat_enters : (y : Shown Stat5-F) → EntersRound (e.stat_step (found_stat (bare_stat y)))
stat_enters (layer.Var span declared) r n = all_declared declared n
stat_enters (layer.FunctionDeclaration function) r n = n
stat_enters (layer.Block block) r n = block.1.pairs (e.under r) n
stat_enters (layer.Empty span) r n = refl
stat_enters (layer.Expression span x) r n = x.1 n
stat_enters (layer.If span first more None) r n = two_enter _ [] _ [] (two_enter _ _ _ _ (first.1.pairs (e.under r)) (conditions_enter (e.under r) more)) (λ i. i) n
stat_enters (layer.If span first more (Some s)) r n = two_enter _ _ _ _ (two_enter _ _ _ _ (first.1.pairs (e.under r)) (conditions_enter (e.under r) more)) (s.1.pairs (e.under r)) n
stat_enters (layer.DoWhile span body test) r n = two_enter _ _ _ _ (body.1.pairs (e.under_loop r)) test.1 n
stat_enters (layer.While span test body) r n = two_enter _ _ _ _ test.1 (body.1.pairs (e.under_loop r)) n
stat_enters (layer.For span first None None body) r n = two_enter _ _ _ _ (two_enter _ [] _ [] (two_enter _ [] _ [] (first.1 r) (λ i. i)) (λ i. i)) (body.1.pairs (e.under_loop r)) n
stat_enters (layer.For span first None (Some update) body) r n = two_enter _ _ _ _ (two_enter _ _ _ _ (two_enter _ [] _ [] (first.1 r) (λ i. i)) update.1) (body.1.pairs (e.under_loop r)) n
stat_enters (layer.For span first (Some test) None body) r n = two_enter _ _ _ _ (two_enter _ [] _ [] (two_enter _ _ _ _ (first.1 r) test.1) (λ i. i)) (body.1.pairs (e.under_loop r)) n
stat_enters (layer.For span first (Some test) (Some update) body) r n = two_enter _ _ _ _ (two_enter _ _ _ _ (two_enter _ _ _ _ (first.1 r) test.1) update.1) (body.1.pairs (e.under_loop r)) n
stat_enters (layer.Continue span label) r n = n
stat_enters (layer.Break span label) r n = n
stat_enters (layer.Return span None) r n = refl
stat_enters (layer.Return span (Some value)) r n = value.1 n
stat_enters (layer.Switch span subject cases) r n = two_enter _ _ _ _ subject.1 (cases_enter (e.under_switch r) cases) n
stat_enters (layer.Labelled span label body) r n = two_enter _ _ _ _ (λ i. i) (body.1.pairs (e.under_label label.name r)) n
stat_enters (layer.Throw span value) r n = value.1 n
stat_enters (layer.Try span block None None) r n = two_enter _ [] _ [] (two_enter _ [] _ [] (block.1.pairs (e.under r)) (λ i. i)) (λ i. i) n
stat_enters (layer.Try span block None (Some last)) r n = two_enter _ _ _ _ (two_enter _ [] _ [] (block.1.pairs (e.under r)) (λ i. i)) (last.1.pairs (e.under r)) n
stat_enters (layer.Try span block (Some handler) None) r n = two_enter _ [] _ [] (two_enter _ _ _ _ (block.1.pairs (e.under r)) (handler.1.pairs (e.under r))) (λ i. i) n
stat_enters (layer.Try span block (Some handler) (Some last)) r n = two_enter _ _ _ _ (two_enter _ _ _ _ (block.1.pairs (e.under r)) (handler.1.pairs (e.under r))) (last.1.pairs (e.under r)) n
stat_enters (layer.Debugger span) r n = refl

-- ## Their parts

block_rises : (y : Shown Block5-F) → Rises (p.block_step (fit_block (bare_block y)))
block_rises y h = stats_rise false y.statements h

block_enters : (y : Shown Block5-F) → EntersRound (e.block_step (found_block (bare_block y)))
block_enters y r n = stats_enter r y.statements n

case_rises : (y : Shown Case5-F) → Rises (p.case_step (fit_case (bare_case y))).fits
case_rises y h = both (left _ _ h) (stats_rise false y.body (right _ _ h))

case_enters : (y : Shown Case5-F) → EntersRound (e.case_step (found_case (bare_case y)))
case_enters y = by_test y.test
  where
    by_test : (test : Option (With OfExpr)) → EntersRound (e.case_step (found_case (bare_case (record { span = y.span; test = test; body = y.body }))))
    by_test None r n = stats_enter r y.body n
    by_test (Some x) r n = two_enter _ _ _ _ x.1 (stats_enter r y.body) n

catch_rises : (y : Shown Catch5-F) → Rises (p.catch_step (fit_catch (bare_catch y)))
catch_rises y h = both (left _ _ h) (y.body.1.fits (right _ _ h))

catch_enters : (y : Shown Catch5-F) → EntersRound (e.catch_step (found_catch (bare_catch y)))
catch_enters y r n = two_enter _ _ _ _ (λ i. i) (y.body.1.pairs r) n

condition_rises : (y : Shown Condition5-F) → Rises (p.condition_step (fit_condition (bare_condition y))).fits
condition_rises y h = both (left _ _ h) (y.body.1.fits false (right _ _ h))

condition_enters : (y : Shown Condition5-F) → EntersRound (e.condition_step (found_condition (bare_condition y)))
condition_enters y r n = two_enter _ _ _ _ y.test.1 (y.body.1.pairs r) n

declared_enters : (y : Shown Declared5-F) → Enters (e.declared_step (found_declared (bare_declared y)))
declared_enters y = by_init y.init
  where
    by_init : (init : Option (With OfExpr)) → Enters (e.declared_step (found_declared (bare_declared (record { span = y.span; name = y.name; init = init }))))
    by_init None n = n
    by_init (Some x) n = two_enter _ _ _ _ (λ i. i) x.1 n

operand_enters : (y : Shown Operand5-F) → Enters (e.operand_step (found_operand (bare_operand y)))
operand_enters y n = y.value.1 n

-- ## So each node

element_shown : (y : Shown Element5-F) → OfElement (roll-Element5 (bare_element y))
element_shown y = subst Enters (sym (found_element-roll (bare_element y))) (element_enters y)

declared_shown : (y : Shown Declared5-F) → OfDeclared (roll-Declared5 (bare_declared y))
declared_shown y = subst Enters (sym (found_declared-roll (bare_declared y))) (declared_enters y)

operand_shown : (y : Shown Operand5-F) → OfOperand (roll-Operand5 (bare_operand y))
operand_shown y = subst Enters (sym (found_operand-roll (bare_operand y))) (operand_enters y)

expr_shown : (y : Shown Expr5-F) → OfExpr (roll-Expr5 (bare_expr y))
expr_shown y = subst (λ v. Enters v.pairs) (sym (found_expr-roll (bare_expr y))) (expr_enters y)

for_first_shown : (y : Shown ForFirst5-F) → OfForFirst (roll-ForFirst5 (bare_for_first y))
for_first_shown y = subst EntersRound (sym (found_for_first-roll (bare_for_first y))) (for_first_enters y)

link_shown : (y : Shown Link5-F) → OfLink (roll-Link5 (bare_link y))
link_shown y = subst (λ v. Enters v.1) (sym (found_link-roll (bare_link y))) (link_enters y)

property_shown : (y : Shown Property5-F) → OfProperty (roll-Property5 (bare_property y))
property_shown y = subst (λ v. Enters v.pairs) (sym (found_property-roll (bare_property y))) (property_enters y)

stat_shown : (y : Shown Stat5-F) → OfStat (roll-Stat5 (bare_stat y))
stat_shown y = record {
  fits = subst (λ (v : p.FitStat). (top : Bool) → v.fits false top ≡ true → v.fits true top ≡ true) (sym (fit_stat-roll (bare_stat y))) (stat_rises y);
  pairs = subst EntersRound (sym (found_stat-roll (bare_stat y))) (stat_enters y);
}

block_shown : (y : Shown Block5-F) → OfBlock (roll-Block5 (bare_block y))
block_shown y = record {
  fits = subst Rises (sym (fit_block-roll (bare_block y))) (block_rises y);
  pairs = subst EntersRound (sym (found_block-roll (bare_block y))) (block_enters y);
}

case_shown : (y : Shown Case5-F) → OfCase (roll-Case5 (bare_case y))
case_shown y = record {
  fits = subst (λ v. Rises v.fits) (sym (fit_case-roll (bare_case y))) (case_rises y);
  pairs = subst EntersRound (sym (found_case-roll (bare_case y))) (case_enters y);
}

catch_shown : (y : Shown Catch5-F) → OfCatch (roll-Catch5 (bare_catch y))
catch_shown y = record {
  fits = subst Rises (sym (fit_catch-roll (bare_catch y))) (catch_rises y);
  pairs = subst EntersRound (sym (found_catch-roll (bare_catch y))) (catch_enters y);
}

condition_shown : (y : Shown Condition5-F) → OfCondition (roll-Condition5 (bare_condition y))
condition_shown y = record {
  fits = subst (λ v. Rises v.fits) (sym (fit_condition-roll (bare_condition y))) (condition_rises y);
  pairs = subst EntersRound (sym (found_condition-roll (bare_condition y))) (condition_enters y);
}

pub stat_every : (s : Stat5) → OfStat s
stat_every =
    ind-Stat5 OfElement OfExpr OfForFirst OfLink OfProperty OfStat OfBlock OfCase OfCatch OfCondition OfDeclared OfFunction OfOperand
    (λ x y is. subst (λ z. OfElement (roll-Element5 z)) is (element_shown y))
    (λ x y is. subst (λ z. OfExpr (roll-Expr5 z)) is (expr_shown y))
    (λ x y is. subst (λ z. OfForFirst (roll-ForFirst5 z)) is (for_first_shown y))
    (λ x y is. subst (λ z. OfLink (roll-Link5 z)) is (link_shown y))
    (λ x y is. subst (λ z. OfProperty (roll-Property5 z)) is (property_shown y))
    (λ x y is. subst (λ z. OfStat (roll-Stat5 z)) is (stat_shown y))
    (λ x y is. subst (λ z. OfBlock (roll-Block5 z)) is (block_shown y))
    (λ x y is. subst (λ z. OfCase (roll-Case5 z)) is (case_shown y))
    (λ x y is. subst (λ z. OfCatch (roll-Catch5 z)) is (catch_shown y))
    (λ x y is. subst (λ z. OfCondition (roll-Condition5 z)) is (condition_shown y))
    (λ x y is. subst (λ z. OfDeclared (roll-Declared5 z)) is (declared_shown y))
    (λ x y is. tt)
    (λ x y is. subst (λ z. OfOperand (roll-Operand5 z)) is (operand_shown y))
