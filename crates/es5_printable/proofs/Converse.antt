-- The tree of a text is printable: by induction over the derivation, each node that tokens of a text spell fits.
use Rattle.std.proofs.Common.{◌≡◌, ℕ, ◌+◌, ◌≤◌, Bool, true, false, ◌&&◌, not, ◌==◌, List, [], ◌∷◌, length, map, Option, Some, None, refl, sym, ap, subst, ◌∙◌}
use Rattle.std.specs.Prelude.{codes}
use Rattle.std.specs.List.{list_all}
use Rattle.std.proofs.lemmas.Bool.{false≢true, eq-eqb, le-leb}
use Rattle.es5_ast.specs.declared.operators.Literal5.{Literal5}
use Rattle.es5_ast.specs.declared.operators.Literal5.TheVariants as literals
use Rattle.es5_ast.specs.declared.operators.Key5.{Key5}
use Rattle.es5_ast.specs.declared.operators.Key5.TheVariants as keys
use Rattle.es5_ast.specs.declared.tree.Identifier5.{Identifier5}
use Rattle.es5_ast.specs.declared.tree.PlacedKey5.{PlacedKey5}
use Rattle.es5_ast.specs.declared.tree.Element5.{Element5, roll-Element5}
use Rattle.es5_ast.specs.declared.tree.Element5.TheVariants as element
use Rattle.es5_ast.specs.declared.tree.Expr5.{Expr5, roll-Expr5}
use Rattle.es5_ast.specs.declared.tree.Expr5.TheVariants as expr
use Rattle.es5_ast.specs.declared.tree.ForFirst5.{ForFirst5, roll-ForFirst5}
use Rattle.es5_ast.specs.declared.tree.ForFirst5.TheVariants as for_first
use Rattle.es5_ast.specs.declared.tree.Link5.{Link5, roll-Link5}
use Rattle.es5_ast.specs.declared.tree.Link5.TheVariants as link
use Rattle.es5_ast.specs.declared.tree.Property5.{Property5, roll-Property5}
use Rattle.es5_ast.specs.declared.tree.Property5.TheVariants as property
use Rattle.es5_ast.specs.declared.tree.Stat5.{Stat5, roll-Stat5}
use Rattle.es5_ast.specs.declared.tree.Stat5.TheVariants as stat
use Rattle.es5_ast.specs.declared.tree.Block5.{Block5}
use Rattle.es5_ast.specs.declared.tree.Case5.{Case5}
use Rattle.es5_ast.specs.declared.tree.Catch5.{Catch5}
use Rattle.es5_ast.specs.declared.tree.Condition5.{Condition5}
use Rattle.es5_ast.specs.declared.tree.Declared5.{Declared5}
use Rattle.es5_ast.specs.declared.tree.Function5.{Function5, roll-Function5}
use Rattle.es5_ast.specs.declared.tree.Operand5.{Operand5}
use Rattle.es5_ast.specs.declared.tree.Element5.TheOpen as layer
use Rattle.es5_ast.specs.declared.tree.Element5.TheOpen.{Element5-F, Expr5-F, ForFirst5-F, Link5-F, Property5-F, Stat5-F}
use Rattle.es5_ast.specs.Lexical.{Kind5, Word, Token5}
use Rattle.es5_ast.specs.Grammar as g
use Rattle.es5_ast.specs.Grammar.{Aside, is_word, begins, literal_kind, key_kind, is_identifier, link_sites, IsIdentifier, IsKey, AreParameters, IsExpr, IsNode, IsNewCallee, AreElements, AreProperties, IsProperty, IsAccessor, AreLinks, AreArguments, AreOperands, AreParts, IsFunction, AreStats, IsStat, IsBlock, AreDeclared, IsDeclared, IsIf, IsCondition, IsForFirst, IsOptional, IsClosed, IsLabel, IsReturned, AreCases, AreInCase, IsCatch, IsProgram}
use Rattle.es5_printer.proofs.Tokens.{IsKnown, AreKnown}
use Rattle.es5_printable.specs.Printable.{FitExpr, FitStat, is_name, names_fit, label_fits, is_literal, is_key, every, some_every, exprs_fit, option_fits, stats_fit, sites_in, operands_fit, if_fits, ends_open, cases_fit, element_fit, expr_fit, for_first_fit, link_fit, property_fit, stat_fit, block_fit, case_fit, catch_fit, condition_fit, declared_fit, function_fit, operand_fit, element_step, expr_step, for_first_step, link_step, property_step, stat_step}
use Rattle.es5_printable.proofs.Layers.{Open, fit_element, fit_expr, fit_for_first, fit_link, fit_property, fit_stat, element-roll, expr-roll, for_first-roll, link-roll, property-roll, stat-roll, block-roll, case-roll, catch-roll, condition-roll, declared-roll, function-roll, operand-roll}
use Rattle.es5_printable.proofs.Nodes.{link_counted}

pub both : {a b : Bool} → a ≡ true → b ≡ true → (a && b) ≡ true
both {b = b} h k = ap (λ x. x && b) h ∙ k

no : {b : Bool} → b ≡ false → not b ≡ true
no h = ap not h

-- ## What a node is gives what its layer gives

abbrev Fits : Expr5 → Type 0
Fits x = (expr_fit x).fits ≡ true

element_is : {x z : Element5} (y : Open Element5-F) → x ≡ z → roll-Element5 y ≡ z → element_step (fit_element y) ≡ true → element_fit x ≡ true
element_is y e r h = ap (λ u. element_fit u) (e ∙ sym r) ∙ element-roll y ∙ h

expr_is : {x z : Expr5} (y : Open Expr5-F) → x ≡ z → roll-Expr5 y ≡ z → (expr_step (fit_expr y)).fits ≡ true → Fits x
expr_is y e r h = ap (λ u. (expr_fit u).fits) (e ∙ sym r) ∙ ap (λ u. u.fits) (expr-roll y) ∙ h

for_first_is : {x z : ForFirst5} (y : Open ForFirst5-F) → x ≡ z → roll-ForFirst5 y ≡ z → for_first_step (fit_for_first y) ≡ true → for_first_fit x ≡ true
for_first_is y e r h = ap (λ u. for_first_fit u) (e ∙ sym r) ∙ for_first-roll y ∙ h

link_is : {x z : Link5} (y : Open Link5-F) → x ≡ z → roll-Link5 y ≡ z → (link_step (fit_link y)).fits ≡ true → (link_fit x).fits ≡ true
link_is y e r h = ap (λ u. (link_fit u).fits) (e ∙ sym r) ∙ ap (λ u. u.fits) (link-roll y) ∙ h

-- the sites of links with this one in front
link_sites_are : {x z : Link5} (y : Open Link5-F) (ls : List Link5) → x ≡ z → roll-Link5 y ≡ z → length (link_sites ls) ≡ sites_in (map link_fit ls) → length (link_sites (x ∷ ls)) ≡ sites_in (map link_fit (x ∷ ls))
link_sites_are y ls e r h = subst (λ u. length (link_sites (u ∷ ls)) ≡ sites_in (map link_fit (u ∷ ls))) (r ∙ sym e) (link_counted y ls ∙ ap (λ n. (link_step (fit_link y)).sites + n) h ∙ ap (λ u. u.sites + sites_in (map link_fit ls)) (sym (link-roll y)))

property_is : {x z : Property5} (y : Open Property5-F) → x ≡ z → roll-Property5 y ≡ z → property_step (fit_property y) ≡ true → property_fit x ≡ true
property_is y e r h = ap (λ u. property_fit u) (e ∙ sym r) ∙ property-roll y ∙ h

stat_is : {x z : Stat5} (y : Open Stat5-F) → x ≡ z → roll-Stat5 y ≡ z → stat_fit x ≡ stat_step (fit_stat y)
stat_is y e r = ap (λ u. stat_fit u) (e ∙ sym r) ∙ stat-roll y

-- ## Tokens

is_literal_of : (value : Literal5) → IsKnown (literal_kind value) → is_literal value ≡ true
is_literal_of literals.Null h = refl
is_literal_of (literals.Truth truth) h = refl
is_literal_of (literals.Integer value) h = le-leb value 9007199254740991 h
is_literal_of (literals.Text units) h = h

is_key_of : (key : Key5) → IsKnown (key_kind key) → is_key key ≡ true
is_key_of (keys.WordKey name) h = h
is_key_of (keys.TextKey units) h = h
is_key_of (keys.IntegerKey value) h = le-leb value 9007199254740991 h

is_name_of : (name : List ℕ) (t : Token5) → t.kind ≡ Word name → IsKnown t.kind → is_identifier name ≡ true → is_name name ≡ true
is_name_of name t w v free = both (subst IsKnown w v) free

identifier_fits : {ts us : List Token5} {x : Identifier5} → AreKnown ts → IsIdentifier Aside ts x us → (is_name x.name ≡ true) × AreKnown us
identifier_fits {x = x} v d = let k = subst AreKnown d.first v in (is_name_of x.name d.token d.word k.0 d.free, k.1)

key_fits : {ts us : List Token5} {x : PlacedKey5} → AreKnown ts → IsKey Aside ts x us → (is_key x.key ≡ true) × AreKnown us
key_fits {x = x} v d = let k = subst AreKnown d.first v in (is_key_of x.key (subst IsKnown d.kind k.0), k.1)

parameters_fit : {ts us : List Token5} {xs : List Identifier5} → AreKnown ts → AreParameters Aside ts xs us → (names_fit xs ≡ true) × AreKnown us
parameters_fit v (g.no_parameter p) = (refl, v.1)
parameters_fit v (g.last_parameter d p) = let r = identifier_fits v d in (both r.0 refl, r.1.1)
parameters_fit v (g.next_parameter d p ds) = let r = identifier_fits v d in let rs = parameters_fit r.1.1 ds in (both r.0 rs.0, rs.1)

labels_fit : {ts us : List Token5} {x : Option Identifier5} → AreKnown ts → IsLabel Aside ts x us → (label_fits x ≡ true) × AreKnown us
labels_fit v g.no_label = (refl, v)
labels_fit v (g.label l d) = identifier_fits v d

-- a token that is a word, where none of that word comes first
not_first : {A : Type 0} (w : List ℕ) (k : Kind5) → k ≡ Word w → is_word w (Word w) ≡ true → is_word w k ≡ false → A
not_first w k e same h = absurd (false≢true (sym h ∙ ap (is_word w) e ∙ same))

-- ## Each relation

abbrev Else : List Token5 → Type 0
Else us = begins (is_word (codes "else")) us ≡ true

record StatFits (inside top : Bool) (s : Stat5) (ts us : List Token5) : Type 0 where
  fits : (stat_fit s).fits inside top ≡ true
  closed : Else us → (stat_fit s).is_open ≡ false
  no_if : begins (is_word (codes "if")) ts ≡ false → (stat_fit s).is_if ≡ false
  known : AreKnown us

record ConditionFits (inside : Bool) (c : Condition5) (us : List Token5) : Type 0 where
  fits : (condition_fit c).fits inside ≡ true
  closed : Else us → (condition_fit c).is_open ≡ false
  known : AreKnown us

abbrev stat_option : Option Stat5 → Option FitStat
stat_option None = None
stat_option (Some s) = Some (stat_fit s)

record IfFits (inside : Bool) (c : Condition5) (more : List Condition5) (otherwise : Option Stat5) (ts us : List Token5) : Type 0 where
  fits : if_fits inside (condition_fit c) (map condition_fit more) (stat_option otherwise) ≡ true
  closed : Else us → ends_open (stat_option otherwise) ≡ false
  first : begins (is_word (codes "if")) ts ≡ true
  known : AreKnown us

record FunctionFits (f : Function5) (us : List Token5) : Type 0 where
  fits : (function_fit f).fits ≡ true
  known : AreKnown us

record AccessorFits (f : Function5) (parameters : ℕ) (us : List Token5) : Type 0 where
  fits : (function_fit f).fits ≡ true
  unnamed : (function_fit f).is_named ≡ false
  counted : (function_fit f).parameters ≡ parameters
  known : AreKnown us

abbrev expr_option : Option Expr5 → Option FitExpr
expr_option None = None
expr_option (Some x) = Some (expr_fit x)

-- a statement of this kind, which isn't open and no `if`
plain_stat : {inside top : Bool} {s z : Stat5} {ts us : List Token5} (y : Open Stat5-F) → s ≡ z → roll-Stat5 y ≡ z → (stat_step (fit_stat y)).fits inside top ≡ true → (stat_step (fit_stat y)).is_open ≡ false → (stat_step (fit_stat y)).is_if ≡ false
    → AreKnown us → StatFits inside top s ts us
plain_stat {inside = inside} {top = top} y e r h o i v =
    let q = stat_is y e r in
    record { fits = ap (λ u. u.fits inside top) q ∙ h; closed = λ _. ap (λ u. u.is_open) q ∙ o; no_if = λ _. ap (λ u. u.is_if) q ∙ i; known = v }

-- one that is open as its body is
open_stat : {inside top : Bool} {s z : Stat5} {ts us : List Token5} (y : Open Stat5-F) → s ≡ z → roll-Stat5 y ≡ z → (stat_step (fit_stat y)).fits inside top ≡ true → (Else us → (stat_step (fit_stat y)).is_open ≡ false) → (stat_step (fit_stat y)).is_if ≡ false
    → AreKnown us → StatFits inside top s ts us
open_stat {inside = inside} {top = top} y e r h o i v =
    let q = stat_is y e r in
    record { fits = ap (λ u. u.fits inside top) q ∙ h; closed = λ k. ap (λ u. u.is_open) q ∙ o k; no_if = λ _. ap (λ u. u.is_if) q ∙ i; known = v }

operand_cons : {level : ℕ} (o : Operand5) (os : List Operand5) → (operand_fit o).fits ≡ true → (operand_fit o).level ≡ level → list_all (λ p. p.fits && (p.level == level)) (map operand_fit os) ≡ true → list_all (λ p. p.fits && (p.level == level)) (map operand_fit (o ∷ os)) ≡ true
operand_cons {level = level} o os h k rest = both (both h (eq-eqb (operand_fit o).level level k)) rest

operands_of : {level : ℕ} (o : Operand5) (os : List Operand5) → (operand_fit o).level ≡ level → list_all (λ p. p.fits && (p.level == level)) (map operand_fit (o ∷ os)) ≡ true → operands_fit (map operand_fit (o ∷ os)) ≡ true
operands_of {level = level} o os k h = subst (λ n. list_all (λ p. p.fits && (p.level == n)) (map operand_fit (o ∷ os)) ≡ true) (sym k) h

first_level : {k : Bool} {level : ℕ} {ts us : List Token5} {o : Operand5} {os : List Operand5} → AreOperands Aside k level ts (o ∷ os) us → (operand_fit o).level ≡ level
first_level (g.next_operand op x e l k t d ds) = ap (λ u. u.level) (ap (λ u. operand_fit u) e ∙ operand-roll (record { operator = op; value = x })) ∙ l

begins_if : {inside : Bool} {ts us : List Token5} {c : Condition5} → IsCondition Aside inside ts c us → begins (is_word (codes "if")) ts ≡ true
begins_if (g.condition span test body e s w p x q d) = ap (is_word (codes "if")) w

abbrev parameters_of : Bool → ℕ
parameters_of false = 0
parameters_of true = 1

mutual
  expr_fits : {k : Bool} {least : ℕ} {ts us : List Token5} {x : Expr5} → AreKnown ts → IsExpr Aside k least ts x us → Fits x × AreKnown us
  expr_fits v (g.bare level h d) = node_fits v d
  expr_fits v (g.group p d q) = let r = expr_fits v.1 d in (r.0, r.1.1)

  node_fits : {k : Bool} {level : ℕ} {ts us : List Token5} {x : Expr5} → AreKnown ts → IsNode Aside k level ts x us → Fits x × AreKnown us
  node_fits v (g.this span e s w) = (expr_is (layer.This span) e (expr.rolls-This span) refl, v.1)
  node_fits v (g.identifier {t = t} span name e s w f) = (expr_is (layer.Name span name) e (expr.rolls-Name span name) (is_name_of name t w v.0 f), v.1)
  node_fits v (g.literal span value e s w) = (expr_is (layer.Literal span value) e (expr.rolls-Literal span value) (is_literal_of value (subst IsKnown w v.0)), v.1)
  node_fits v (g.array span xs e s p d) = let r = elements_fit v.1 d in (expr_is (layer.ArrayList span xs) e (expr.rolls-ArrayList span xs) r.0, r.1)
  node_fits v (g.object span xs e s p d) = let r = properties_fit v.1 d in (expr_is (layer.ObjectList span xs) e (expr.rolls-ObjectList span xs) r.0, r.1)
  node_fits v (g.function f e d) = let r = function_fits v d in (expr_is (layer.Function f) e (expr.rolls-Function f) r.fits, r.known)
  node_fits v (g.chain calls span x l ls e s q d ds) = let r = expr_fits v d in let rs = links_fits r.1 ds in
      (expr_is (layer.Chain span x (l ∷ ls)) e (expr.rolls-Chain span x (l ∷ ls)) (both r.0 (both rs.0 (le-leb (sites_in (map link_fit (l ∷ ls))) 1 (subst (λ n. n ≤ 1) rs.1 q)))), rs.2)
  node_fits v (g.new_call span c xs e s w d p ds) = let r = expr_fits v.1 d in let rs = arguments_fit r.1.1 ds in (expr_is (layer.New span c xs) e (expr.rolls-New span c xs) (both r.0 rs.0), rs.1)
  node_fits v (g.new_bare span c e s w d) = let r = callee_fits v.1 d in (expr_is (layer.New span c []) e (expr.rolls-New span c []) (both r.0 refl), r.1)
  node_fits v (g.update_after span op x e s h d t a) = let r = expr_fits v d in (expr_is (layer.Update span op x) e (expr.rolls-Update span op x) r.0, r.1.1)
  node_fits v (g.update_before span op x e s h t d) = let r = expr_fits v.1 d in (expr_is (layer.Update span op x) e (expr.rolls-Update span op x) r.0, r.1)
  node_fits v (g.unary span op x e s t d) = let r = expr_fits v.1 d in (expr_is (layer.Unary span op x) e (expr.rolls-Unary span op x) r.0, r.1)
  node_fits v (g.binary_chain level span x o os e s d ds) = let r = expr_fits v d in let rs = operands_fits r.1 ds in
      (expr_is (layer.Binary span x (o ∷ os)) e (expr.rolls-Binary span x (o ∷ os)) (both r.0 (operands_of o os (first_level ds) rs.0)), rs.1)
  node_fits v (g.conditional span x y z e s d p a q c) = let r = expr_fits v d in let ra = expr_fits r.1.1 a in let rc = expr_fits ra.1.1 c in
      (expr_is (layer.Conditional span x y z) e (expr.rolls-Conditional span x y z) (both (both r.0 ra.0) rc.0), rc.1)
  node_fits v (g.assignment span op x y e s d t c) = let r = expr_fits v d in let rc = expr_fits r.1.1 c in (expr_is (layer.Assign span op x y) e (expr.rolls-Assign span op x y) (both r.0 rc.0), rc.1)
  node_fits v (g.sequence span x y ys e s d ds) = let r = expr_fits v d in let rs = parts_fits r.1 ds in (expr_is (layer.Sequence span x (y ∷ ys)) e (expr.rolls-Sequence span x (y ∷ ys)) (both r.0 rs.0), rs.1)

  callee_fits : {ts us : List Token5} {x : Expr5} → AreKnown ts → IsNewCallee Aside ts x us → Fits x × AreKnown us
  callee_fits v (g.another_new d) = node_fits v d
  callee_fits v (g.member d) = expr_fits v d

  elements_fit : {ts us : List Token5} {xs : List Element5} → AreKnown ts → AreElements Aside ts xs us → (every (map element_fit xs) ≡ true) × AreKnown us
  elements_fit v (g.no_element p) = (refl, v.1)
  elements_fit v (g.hole p d) = let r = elements_fit v.1 d in (both (element_is layer.Hole refl element.rolls-Hole refl) r.0, r.1)
  elements_fit v (g.last_element {x = x} d p) = let r = expr_fits v d in (both (element_is (layer.Element x) refl (element.rolls-Element x) r.0) refl, r.1.1)
  elements_fit v (g.next_element {x = x} d p ds) = let r = expr_fits v d in let rs = elements_fit r.1.1 ds in (both (element_is (layer.Element x) refl (element.rolls-Element x) r.0) rs.0, rs.1)

  properties_fit : {ts us : List Token5} {xs : List Property5} → AreKnown ts → AreProperties Aside ts xs us → (every (map property_fit xs) ≡ true) × AreKnown us
  properties_fit v (g.no_property p) = (refl, v.1)
  properties_fit v (g.last_property d p) = let r = property_fits v d in (both r.0 refl, r.1.1)
  properties_fit v (g.next_property d p ds) = let r = property_fits v d in let rs = properties_fit r.1.1 ds in (both r.0 rs.0, rs.1)

  property_fits : {ts us : List Token5} {x : Property5} → AreKnown ts → IsProperty Aside ts x us → (property_fit x ≡ true) × AreKnown us
  property_fits v (g.plain span k x e s d p y) = let rk = key_fits v d in let r = expr_fits rk.1.1 y in (property_is (layer.Plain span k x) e (property.rolls-Plain span k x) (both rk.0 r.0), r.1)
  property_fits v (g.getter span k f e s w d a) = let rk = key_fits v.1 d in let r = accessor_fits rk.1 a in
      (property_is (layer.Getter span k f) e (property.rolls-Getter span k f) (both (both (both rk.0 r.fits) (no r.unnamed)) (eq-eqb (function_fit f).parameters 0 r.counted)), r.known)
  property_fits v (g.setter span k f e s w d a) = let rk = key_fits v.1 d in let r = accessor_fits rk.1 a in
      (property_is (layer.Setter span k f) e (property.rolls-Setter span k f) (both (both (both rk.0 r.fits) (no r.unnamed)) (eq-eqb (function_fit f).parameters 1 r.counted)), r.known)

  accessor_fits : {setter : Bool} {ts us : List Token5} {x : Function5} → AreKnown ts → IsAccessor Aside setter ts x us → AccessorFits x (parameters_of setter) us
  accessor_fits v (g.no_value span ss e s p q w d) = let r = stats_fits v.1.1.1 d in
      let q = ap (λ u. function_fit u) e ∙ function-roll (record { span = span; name = None; parameters = []; body = ss }) in
      record { fits = ap (λ u. u.fits) q ∙ r.0; unnamed = ap (λ u. u.is_named) q; counted = ap (λ u. u.parameters) q; known = r.1 }
  accessor_fits v (g.one_value span x ss e s p i q w d) = let rx = identifier_fits v.1 i in let r = stats_fits rx.1.1.1 d in
      let q = ap (λ u. function_fit u) e ∙ function-roll (record { span = span; name = None; parameters = x ∷ []; body = ss }) in
      record { fits = ap (λ u. u.fits) q ∙ both (both rx.0 refl) r.0; unnamed = ap (λ u. u.is_named) q; counted = ap (λ u. u.parameters) q; known = r.1 }

  links_fits : {calls : Bool} {ts us : List Token5} {xs : List Link5} → AreKnown ts → AreLinks Aside calls ts xs us → (list_all (λ k. k.fits) (map link_fit xs) ≡ true) × (length (link_sites xs) ≡ sites_in (map link_fit xs)) × AreKnown us
  links_fits v g.no_link = (refl, refl, v)
  links_fits v (g.member_link {links = ls} span name e s p w d) = let r = links_fits v.1.1 d in
      (both (link_is (layer.Member span name) e (link.rolls-Member span name) (subst IsKnown w v.1.0)) r.0, link_sites_are (layer.Member span name) ls e (link.rolls-Member span name) r.1, r.2)
  links_fits v (g.index_link {links = ls} span x e s p a q d) = let rx = expr_fits v.1 a in let r = links_fits rx.1.1 d in
      (both (link_is (layer.Index span x) e (link.rolls-Index span x) rx.0) r.0, link_sites_are (layer.Index span x) ls e (link.rolls-Index span x) r.1, r.2)
  links_fits v (g.call_link {links = ls} span xs site e s p a d) = let rx = arguments_fit v.1 a in let r = links_fits rx.1 d in
      (both (link_is (layer.Call span xs site) e (link.rolls-Call span xs site) rx.0) r.0, link_sites_are (layer.Call span xs site) ls e (link.rolls-Call span xs site) r.1, r.2)

  arguments_fit : {ts us : List Token5} {xs : List Expr5} → AreKnown ts → AreArguments Aside ts xs us → (exprs_fit (map expr_fit xs) ≡ true) × AreKnown us
  arguments_fit v (g.no_argument p) = (refl, v.1)
  arguments_fit v (g.last_argument d p) = let r = expr_fits v d in (both r.0 refl, r.1.1)
  arguments_fit v (g.next_argument d p ds) = let r = expr_fits v d in let rs = arguments_fit r.1.1 ds in (both r.0 rs.0, rs.1)

  operands_fits : {k : Bool} {level : ℕ} {ts us : List Token5} {xs : List Operand5} → AreKnown ts → AreOperands Aside k level ts xs us → (list_all (λ p. p.fits && (p.level == level)) (map operand_fit xs) ≡ true) × AreKnown us
  operands_fits v g.no_operand = (refl, v)
  operands_fits v (g.next_operand {o = o} {rest = os} op x e l k t d ds) = let r = expr_fits v.1 d in let rs = operands_fits r.1 ds in
      let q = ap (λ u. operand_fit u) e ∙ operand-roll (record { operator = op; value = x }) in
      (operand_cons o os (ap (λ u. u.fits) q ∙ r.0) (ap (λ u. u.level) q ∙ l) rs.0, rs.1)

  parts_fits : {k : Bool} {ts us : List Token5} {xs : List Expr5} → AreKnown ts → AreParts Aside k ts xs us → (exprs_fit (map expr_fit xs) ≡ true) × AreKnown us
  parts_fits v g.no_part = (refl, v)
  parts_fits v (g.next_part p d ds) = let r = expr_fits v.1 d in let rs = parts_fits r.1 ds in (both r.0 rs.0, rs.1)

  function_fits : {ts us : List Token5} {x : Function5} → AreKnown ts → IsFunction Aside ts x us → FunctionFits x us
  function_fits v (g.anonymous span ps ss e s w p d b c) = let rp = parameters_fit v.1.1 d in let r = stats_fits rp.1.1 c in
      let q = ap (λ u. function_fit u) e ∙ function-roll (record { span = span; name = None; parameters = ps; body = ss }) in
      record { fits = ap (λ u. u.fits) q ∙ both (both refl rp.0) r.0; known = r.1 }
  function_fits v (g.named span n ps ss e s w i p d b c) = let rn = identifier_fits v.1 i in let rp = parameters_fit rn.1.1 d in let r = stats_fits rp.1.1 c in
      let q = ap (λ u. function_fit u) e ∙ function-roll (record { span = span; name = Some n; parameters = ps; body = ss }) in
      record { fits = ap (λ u. u.fits) q ∙ both (both rn.0 rp.0) r.0; known = r.1 }

  stats_fits : {inside top : Bool} {ts us : List Token5} {xs : List Stat5} → AreKnown ts → AreStats Aside inside top ts xs us → (stats_fit inside top (map stat_fit xs) ≡ true) × AreKnown us
  stats_fits v (g.no_stat p) = (refl, v.1)
  stats_fits v (g.next_stat d ds) = let r = stat_fits v d in let rs = stats_fits r.known ds in (both r.fits rs.0, rs.1)

  stat_fits : {inside top : Bool} {ts us : List Token5} {x : Stat5} → AreKnown ts → IsStat Aside inside top ts x us → StatFits inside top x ts us
  stat_fits v (g.block b e d) = let r = block_fits v d in plain_stat (layer.Block b) e (stat.rolls-Block b) r.0 refl refl r.1
  stat_fits v (g.var span ds e s w d n) = let r = declared_fits v.1 d in plain_stat (layer.Var span ds) e (stat.rolls-Var span ds) r.0 refl refl r.1.1
  stat_fits v (g.empty span e s p) = plain_stat (layer.Empty span) e (stat.rolls-Empty span) refl refl refl v.1
  stat_fits v (g.expression span x e s nb nf d n) = let r = expr_fits v d in plain_stat (layer.Expression span x) e (stat.rolls-Expression span x) r.0 refl refl r.1.1
  stat_fits {inside = inside} {top = top} v (g.if span c more None e s d) = let r = if_fits_so v d in
      let q = stat_is (layer.If span c more None) e (stat.rolls-If span c more None) in
      record { fits = ap (λ u. u.fits inside top) q ∙ r.fits; closed = λ k. ap (λ u. u.is_open) q ∙ r.closed k; no_if = λ k. absurd (false≢true (sym k ∙ r.first)); known = r.known }
  stat_fits {inside = inside} {top = top} v (g.if span c more (Some o) e s d) = let r = if_fits_so v d in
      let q = stat_is (layer.If span c more (Some o)) e (stat.rolls-If span c more (Some o)) in
      record { fits = ap (λ u. u.fits inside top) q ∙ r.fits; closed = λ k. ap (λ u. u.is_open) q ∙ r.closed k; no_if = λ k. absurd (false≢true (sym k ∙ r.first)); known = r.known }
  stat_fits v (g.do_while span body test e s w d ww p x q n) = let r = stat_fits v.1 d in let rx = expr_fits r.known.1.1 x in plain_stat (layer.DoWhile span body test) e (stat.rolls-DoWhile span body test) (both r.fits rx.0) refl refl rx.1.1.1
  stat_fits v (g.while span test body e s w p x q d) = let rx = expr_fits v.1.1 x in let r = stat_fits rx.1.1 d in open_stat (layer.While span test body) e (stat.rolls-While span test body) (both rx.0 r.fits) r.closed refl r.known
  stat_fits v (g.for span f None None body e s w p df dt m dc d) = let rf = for_first_fits v.1.1 df in let rt = optional_fits rf.1 dt in let rc = closed_fits rt.1.1 dc in let r = stat_fits rc.1 d in
      open_stat (layer.For span f None None body) e (stat.rolls-For span f None None body) (both (both (both rf.0 rt.0) rc.0) r.fits) r.closed refl r.known
  stat_fits v (g.for span f None (Some y) body e s w p df dt m dc d) = let rf = for_first_fits v.1.1 df in let rt = optional_fits rf.1 dt in let rc = closed_fits rt.1.1 dc in let r = stat_fits rc.1 d in
      open_stat (layer.For span f None (Some y) body) e (stat.rolls-For span f None (Some y) body) (both (both (both rf.0 rt.0) rc.0) r.fits) r.closed refl r.known
  stat_fits v (g.for span f (Some x) None body e s w p df dt m dc d) = let rf = for_first_fits v.1.1 df in let rt = optional_fits rf.1 dt in let rc = closed_fits rt.1.1 dc in let r = stat_fits rc.1 d in
      open_stat (layer.For span f (Some x) None body) e (stat.rolls-For span f (Some x) None body) (both (both (both rf.0 rt.0) rc.0) r.fits) r.closed refl r.known
  stat_fits v (g.for span f (Some x) (Some y) body e s w p df dt m dc d) = let rf = for_first_fits v.1.1 df in let rt = optional_fits rf.1 dt in let rc = closed_fits rt.1.1 dc in let r = stat_fits rc.1 d in
      open_stat (layer.For span f (Some x) (Some y) body) e (stat.rolls-For span f (Some x) (Some y) body) (both (both (both rf.0 rt.0) rc.0) r.fits) r.closed refl r.known
  stat_fits v (g.continue span label e s w d n) = let r = labels_fit v.1 d in plain_stat (layer.Continue span label) e (stat.rolls-Continue span label) r.0 refl refl r.1.1
  stat_fits v (g.break span label e s w d n) = let r = labels_fit v.1 d in plain_stat (layer.Break span label) e (stat.rolls-Break span label) r.0 refl refl r.1.1
  stat_fits v (g.return span None e s w d n) = let r = returned_fits v.1 d in plain_stat (layer.Return span None) e (stat.rolls-Return span None) r.0 refl refl r.1.1
  stat_fits v (g.return span (Some x) e s w d n) = let r = returned_fits v.1 d in plain_stat (layer.Return span (Some x)) e (stat.rolls-Return span (Some x)) r.0 refl refl r.1.1
  stat_fits v (g.switch span x cs e s w p d q b c) = let r = expr_fits v.1.1 d in let rs = cases_fits r.1.1.1 c in plain_stat (layer.Switch span x cs) e (stat.rolls-Switch span x cs) (both r.0 rs.0) refl refl rs.1
  stat_fits v (g.labelled span label body e s i p d) = let ri = identifier_fits v i in let r = stat_fits ri.1.1 d in open_stat (layer.Labelled span label body) e (stat.rolls-Labelled span label body) (both ri.0 r.fits) r.closed refl r.known
  stat_fits v (g.throw span x e s w l d n) = let r = expr_fits v.1 d in plain_stat (layer.Throw span x) e (stat.rolls-Throw span x) r.0 refl refl r.1.1
  stat_fits v (g.try_catch span b h e s w d c) = let rb = block_fits v.1 d in let rh = catch_fits rb.1 c in plain_stat (layer.Try span b (Some h) None) e (stat.rolls-Try span b (Some h) None) (both rb.0 rh.0) refl refl rh.1
  stat_fits v (g.try_finally span b l e s w d f c) = let rb = block_fits v.1 d in let rl = block_fits rb.1.1 c in plain_stat (layer.Try span b None (Some l)) e (stat.rolls-Try span b None (Some l)) (both rb.0 rl.0) refl refl rl.1
  stat_fits v (g.try_both span b l h e s w d c f k) = let rb = block_fits v.1 d in let rh = catch_fits rb.1 c in let rl = block_fits rh.1.1 k in
      plain_stat (layer.Try span b (Some h) (Some l)) e (stat.rolls-Try span b (Some h) (Some l)) (both rb.0 (both rh.0 rl.0)) refl refl rl.1
  stat_fits v (g.debugger span e s w n) = plain_stat (layer.Debugger span) e (stat.rolls-Debugger span) refl refl refl v.1.1
  stat_fits v (g.declaration span n ps ss e d) = let r = function_fits v d in
      let f = roll-Function5 (record { span = span; name = Some n; parameters = ps; body = ss }) in
      plain_stat (layer.FunctionDeclaration f) e (stat.rolls-FunctionDeclaration f) (both (ap (λ u. u.is_named) (function-roll (record { span = span; name = Some n; parameters = ps; body = ss }))) r.fits) refl refl r.known

  block_fits : {inside : Bool} {ts us : List Token5} {x : Block5} → AreKnown ts → IsBlock Aside inside ts x us → (block_fit x inside ≡ true) × AreKnown us
  block_fits {inside = inside} v (g.braces span body e s p d) = let r = stats_fits v.1 d in (ap (λ u. u inside) (ap (λ u. block_fit u) e ∙ block-roll (record { span = span; statements = body })) ∙ r.0, r.1)

  declared_fits : {k : Bool} {ts us : List Token5} {xs : List Declared5} → AreKnown ts → AreDeclared Aside k ts xs us → (some_every (map declared_fit xs) ≡ true) × AreKnown us
  declared_fits v (g.last_declared d) = let r = one_declared_fits v d in (both r.0 refl, r.1)
  declared_fits v (g.next_declared d p ds) = let r = one_declared_fits v d in let rs = declared_fits r.1.1 ds in (both r.0 rs.0, rs.1)

  one_declared_fits : {k : Bool} {ts us : List Token5} {x : Declared5} → AreKnown ts → IsDeclared Aside k ts x us → (declared_fit x ≡ true) × AreKnown us
  one_declared_fits v (g.uninitialized span n e s i) = let r = identifier_fits v i in (ap (λ u. declared_fit u) e ∙ declared-roll (record { span = span; name = n; init = None }) ∙ both r.0 refl, r.1)
  one_declared_fits v (g.initialized span n x e s i p d) = let r = identifier_fits v i in let rx = expr_fits r.1.1 d in (ap (λ u. declared_fit u) e ∙ declared-roll (record { span = span; name = n; init = Some x }) ∙ both r.0 rx.0, rx.1)

  if_fits_so : {inside : Bool} {ts us : List Token5} {c : Condition5} {more : List Condition5} {otherwise : Option Stat5} → AreKnown ts → IsIf Aside inside ts c more otherwise us → IfFits inside c more otherwise ts us
  if_fits_so v (g.no_else d n) = let r = condition_fits v d in record { fits = r.fits; closed = λ k. absurd (false≢true (sym n ∙ k)); first = begins_if d; known = r.known }
  if_fits_so v (g.last_else {e = t} d w n b) = let r = condition_fits v d in let rs = stat_fits r.known.1 b in
      record { fits = both (both (both r.fits (no (r.closed (ap (is_word (codes "else")) w)))) rs.fits) (no (rs.no_if n)); closed = rs.closed; first = begins_if d; known = rs.known }
  if_fits_so v (g.else_if d w ds) = let r = condition_fits v d in let rs = if_fits_so r.known.1 ds in
      record { fits = both (both r.fits (no (r.closed (ap (is_word (codes "else")) w)))) rs.fits; closed = rs.closed; first = begins_if d; known = rs.known }

  condition_fits : {inside : Bool} {ts us : List Token5} {x : Condition5} → AreKnown ts → IsCondition Aside inside ts x us → ConditionFits inside x us
  condition_fits {inside = inside} v (g.condition span test body e s w p x q d) = let rx = expr_fits v.1.1 x in let r = stat_fits rx.1.1 d in
      let q = ap (λ u. condition_fit u) e ∙ condition-roll (record { span = span; test = test; body = body }) in
      record { fits = ap (λ u. u.fits inside) q ∙ both rx.0 r.fits; closed = λ k. ap (λ u. u.is_open) q ∙ r.closed k; known = r.known }

  for_first_fits : {ts us : List Token5} {x : ForFirst5} → AreKnown ts → IsForFirst Aside ts x us → (for_first_fit x ≡ true) × AreKnown us
  for_first_fits v (g.nothing_first p) = (for_first_is layer.NoFirst refl for_first.rolls-NoFirst refl, v.1)
  for_first_fits v (g.var_first ds e w d p) = let r = declared_fits v.1 d in (for_first_is (layer.FirstVar ds) e (for_first.rolls-FirstVar ds) r.0, r.1.1)
  for_first_fits v (g.expression_first x e d p) = let r = expr_fits v d in (for_first_is (layer.FirstExpression x) e (for_first.rolls-FirstExpression x) r.0, r.1.1)

  optional_fits : {ts us : List Token5} {x : Option Expr5} → AreKnown ts → IsOptional Aside ts x us → (option_fits (expr_option x) ≡ true) × AreKnown us
  optional_fits v g.absent = (refl, v)
  optional_fits v (g.present d) = expr_fits v d

  closed_fits : {ts us : List Token5} {x : Option Expr5} → AreKnown ts → IsClosed Aside ts x us → (option_fits (expr_option x) ≡ true) × AreKnown us
  closed_fits v (g.closed d p) = let r = optional_fits v d in (r.0, r.1.1)

  returned_fits : {ts us : List Token5} {x : Option Expr5} → AreKnown ts → IsReturned Aside ts x us → (option_fits (expr_option x) ≡ true) × AreKnown us
  returned_fits v g.no_value_returned = (refl, v)
  returned_fits v (g.value_returned l d) = expr_fits v d

  cases_fits : {inside may : Bool} {ts us : List Token5} {xs : List Case5} → AreKnown ts → AreCases Aside inside may ts xs us → (cases_fit inside may (map case_fit xs) ≡ true) × AreKnown us
  cases_fits v (g.no_case p) = (refl, v.1)
  cases_fits {inside = inside} {may = may} v (g.case_clause {cs = cs} span x body e s w d p b c) = let r = expr_fits v.1 d in let rb = in_case_fits r.1.1 b in let rs = cases_fits rb.1 c in
      let q = ap (λ u. case_fit u) e ∙ case-roll (record { span = span; test = Some x; body = body }) in
      (subst (λ z. cases_fit inside may (z ∷ map case_fit cs) ≡ true) (sym q) (both (both (both r.0 rb.0) refl) rs.0), rs.1)
  cases_fits {inside = inside} v (g.default_clause {cs = cs} span body e s w p b c) = let rb = in_case_fits v.1.1 b in let rs = cases_fits rb.1 c in
      let q = ap (λ u. case_fit u) e ∙ case-roll (record { span = span; test = None; body = body }) in
      (subst (λ z. cases_fit inside true (z ∷ map case_fit cs) ≡ true) (sym q) (both (both (both refl rb.0) refl) rs.0), rs.1)

  in_case_fits : {inside : Bool} {ts us : List Token5} {xs : List Stat5} → AreKnown ts → AreInCase Aside inside ts xs us → (stats_fit inside false (map stat_fit xs) ≡ true) × AreKnown us
  in_case_fits v g.no_more_in_case = (refl, v)
  in_case_fits v (g.next_in_case d ds) = let r = stat_fits v d in let rs = in_case_fits r.known ds in (both r.fits rs.0, rs.1)

  catch_fits : {inside : Bool} {ts us : List Token5} {x : Catch5} → AreKnown ts → IsCatch Aside inside ts x us → (catch_fit x inside ≡ true) × AreKnown us
  catch_fits {inside = inside} v (g.handler span n b e s w p i q d) = let r = identifier_fits v.1.1 i in let rb = block_fits r.1.1 d in
      (ap (λ u. u inside) (ap (λ u. catch_fit u) e ∙ catch-roll (record { span = span; parameter = n; body = b })) ∙ both r.0 rb.0, rb.1)

-- the statements of a program, whose directive comes first
pub program_fits : {ts : List Token5} {ss : List Stat5} → AreKnown ts → IsProgram Aside ts ss → stats_fit false true (map stat_fit ss) ≡ true
program_fits v g.no_more = refl
program_fits v (g.one_more d ds) = let r = stat_fits v d in both r.fits (program_fits r.known ds)
