-- Lists of nodes, each with what is shown of it.
use Rattle.std.proofs.Common.{◌≡◌, ℕ, ◌+◌, Bool, true, false, ◌&&◌, ◌||◌, not, ◌==◌, List, [], ◌∷◌, length, map, Option, Some, None, refl, sym, ap, ◌∙◌}
use Rattle.std.specs.Prelude.{codes}
use Rattle.std.specs.Option.{option_map}
use Rattle.std.specs.List.{list_all}
use Rattle.std.proofs.lemmas.Bool.{false≢true, and_parts, eqb-true}
use Rattle.es5_ast.specs.declared.tree.Identifier5.{Identifier5}
use Rattle.es5_ast.specs.Lexical.{Word, is_identifier_name}
use Rattle.es5_ast.specs.Grammar as g
use Rattle.es5_ast.specs.Grammar.{Aside, AreParameters, AreElements, AreProperties, AreLinks, AreArguments, AreOperands, AreParts, AreStats, AreDeclared, AreCases, AreInCase, IsIf, IsLabel, IsOptional, IsClosed, IsReturned, level_assignment, is_identifier}
use Rattle.es5_printer.specs.Pieces.{Piece, word, mark}
use Rattle.es5_printer.proofs.Tokens.{sign}
use Rattle.es5_printable.specs.Printable.{is_name, names_fit, label_fits, option_fits, every, some_every, exprs_fit, sites_in, stats_fit, cases_fit, if_fits, ends_open, element_fit, expr_fit, link_fit, property_fit, stat_fit, case_fit, condition_fit, declared_fit, operand_fit}
use Rattle.es5_printable.proofs.Shapes.{Made, MadeAfter, MadeClosed, NotFirst, LinksMade, OfElement, OfExpr, OfLink, OfProperty, OfStat, OfCase, OfCondition, OfDeclared, OfOperand, placed, identifier_made}
use Rattle.es5_printable.proofs.Layers.{With}

pub not_true : (b : Bool) → not b ≡ true → b ≡ false
not_true true e = sym e
not_true false e = refl

-- the two halves of a name
pub named : (name : List ℕ) → is_name name ≡ true → (is_identifier_name name ≡ true) × (is_identifier name ≡ true)
named name h = and_parts (is_identifier_name name) (is_identifier name) h

abbrev pub nodes : {A : Type 0} {P : A → Type 0} → List (With P) → List A
nodes xs = map (λ e. e.0) xs

pub elements_made : (xs : List (With OfElement)) → every (map element_fit (nodes xs)) ≡ true → (rest : List Piece) → Made (λ ts us. AreElements Aside ts (nodes xs) us) rest
elements_made [] h rest = (mark (codes "]") rest, λ spots. g.no_element refl, λ q. (sign.right_bracket, q))
elements_made (x ∷ xs) h rest = let p = and_parts (element_fit x.0) (every (map element_fit (nodes xs))) h in x.1 p.0 (nodes xs) rest (elements_made xs p.1 rest)

pub properties_made : (xs : List (With OfProperty)) → every (map property_fit (nodes xs)) ≡ true → (rest : List Piece) → Made (λ ts us. AreProperties Aside ts (nodes xs) us) rest
properties_made [] h rest = (mark (codes "}") rest, λ spots. g.no_property refl, λ q. (sign.right_brace, q))
properties_made (x ∷ xs) h rest =
    let p = and_parts (property_fit x.0) (every (map property_fit (nodes xs))) h in
    let (ps, d, s) = properties_made xs p.1 rest in
    let (qs, e, t) = x.1 p.0 (mark (codes ",") ps) in
    (qs, λ spots. g.next_property (e spots) refl (d spots), λ q. t (sign.comma, s q))

pub arguments_made : (xs : List (With OfExpr)) → exprs_fit (map expr_fit (nodes xs)) ≡ true → (rest : List Piece) → Made (λ ts us. AreArguments Aside ts (nodes xs) us) rest
arguments_made [] h rest = (mark (codes ")") rest, λ spots. g.no_argument refl, λ q. (sign.right_paren, q))
arguments_made (x ∷ []) h rest =
    let (ps, d, s) = placed (x.1 (and_parts (expr_fit x.0).fits true h).0) (mark (codes ")") rest) in
    (ps, λ spots. g.last_argument (d spots false level_assignment) refl, λ q. s (sign.right_paren, q))
arguments_made (x ∷ y ∷ xs) h rest =
    let p = and_parts (expr_fit x.0).fits (exprs_fit (map expr_fit (nodes (y ∷ xs)))) h in
    let (ps, d, s) = arguments_made (y ∷ xs) p.1 rest in
    let (qs, e, t) = placed (x.1 p.0) (mark (codes ",") ps) in
    (qs, λ spots. g.next_argument (e spots false level_assignment) refl (d spots), λ q. t (sign.comma, s q))

pub parts_made : (xs : List (With OfExpr)) → exprs_fit (map expr_fit (nodes xs)) ≡ true → (rest : List Piece) → Made (λ ts us. AreParts Aside false ts (nodes xs) us) rest
parts_made [] h rest = (rest, λ spots. g.no_part, λ q. q)
parts_made (x ∷ xs) h rest =
    let p = and_parts (expr_fit x.0).fits (exprs_fit (map expr_fit (nodes xs))) h in
    let (ps, d, s) = parts_made xs p.1 rest in
    let (qs, e, t) = placed (x.1 p.0) ps in
    (mark (codes ",") qs, λ spots. g.next_part refl (e spots false level_assignment) (d spots), λ q. (sign.comma, t (s q)))

pub links_made : (xs : List (With OfLink)) → list_all (λ k. k.fits) (map link_fit (nodes xs)) ≡ true → (rest : List Piece) → LinksMade (nodes xs) rest
links_made [] h rest = (rest, λ spots. (false, g.no_link), λ q. q)
links_made (x ∷ xs) h rest = let p = and_parts (link_fit x.0).fits (list_all (λ k. k.fits) (map link_fit (nodes xs))) h in x.1.0 p.0 (nodes xs) rest (links_made xs p.1 rest)

pub sites_counted : (xs : List (With OfLink)) → length (g.link_sites (nodes xs)) ≡ sites_in (map link_fit (nodes xs))
sites_counted [] = refl
sites_counted (x ∷ xs) = x.1.1 (nodes xs) ∙ ap (λ n. (link_fit x.0).sites + n) (sites_counted xs)

pub operands_made : (level : ℕ) (xs : List (With OfOperand)) → list_all (λ p. p.fits && (p.level == level)) (map operand_fit (nodes xs)) ≡ true → (rest : List Piece) → Made (λ ts us. AreOperands Aside false level ts (nodes xs) us) rest
operands_made level [] h rest = (rest, λ spots. g.no_operand, λ q. q)
operands_made level (x ∷ xs) h rest =
    let p = and_parts ((operand_fit x.0).fits && ((operand_fit x.0).level == level)) (list_all (λ p. p.fits && (p.level == level)) (map operand_fit (nodes xs))) h in
    let r = and_parts (operand_fit x.0).fits ((operand_fit x.0).level == level) p.0 in
    x.1 r.0 level (eqb-true (operand_fit x.0).level level r.1) (nodes xs) rest (operands_made level xs p.1 rest)

pub parameters_made : (xs : List Identifier5) → names_fit xs ≡ true → (rest : List Piece) → Made (λ ts us. AreParameters Aside ts xs us) rest
parameters_made [] h rest = (mark (codes ")") rest, λ spots. g.no_parameter refl, λ q. (sign.right_paren, q))
parameters_made (x ∷ []) h rest =
    let p = named x.name (and_parts (is_name x.name) true h).0 in
    (word x.name (mark (codes ")") rest), λ spots. g.last_parameter (identifier_made spots x (mark (codes ")") rest) p.1) refl, λ q. (p.0, (sign.right_paren, q)))
parameters_made (x ∷ y ∷ xs) h rest =
    let e = and_parts (is_name x.name) (names_fit (y ∷ xs)) h in
    let p = named x.name e.0 in
    let (ps, d, s) = parameters_made (y ∷ xs) e.1 rest in
    (word x.name (mark (codes ",") ps), λ spots. g.next_parameter (identifier_made spots x (mark (codes ",") ps) p.1) refl (d spots), λ q. (p.0, (sign.comma, s q)))

pub declared_made : (xs : List (With OfDeclared)) → some_every (map declared_fit (nodes xs)) ≡ true → (rest : List Piece) → Made (λ ts us. (no_in : Bool) → AreDeclared Aside no_in ts (nodes xs) us) rest
declared_made [] h rest = absurd (false≢true h)
declared_made (x ∷ []) h rest =
    let (ps, d, s) = x.1 (and_parts (declared_fit x.0) true h).0 rest in
    (ps, λ spots no_in. g.last_declared (d spots no_in), s)
declared_made (x ∷ y ∷ xs) h rest =
    let p = and_parts (declared_fit x.0) (some_every (map declared_fit (nodes (y ∷ xs)))) h in
    let (ps, d, s) = declared_made (y ∷ xs) p.1 rest in
    let (qs, e, t) = x.1 p.0 (mark (codes ",") ps) in
    (qs, λ spots no_in. g.next_declared (e spots no_in) refl (d spots no_in), λ q. t (sign.comma, s q))

pub stats_made : (inside top : Bool) (xs : List (With OfStat)) → stats_fit inside top (map stat_fit (nodes xs)) ≡ true → (rest : List Piece) → MadeClosed (λ ts us. AreStats Aside inside top ts (nodes xs) us) rest
stats_made inside top [] h rest = (mark (codes "}") rest, λ spots. refl, λ spots. g.no_stat refl, λ q. (sign.right_brace, q))
stats_made inside top (x ∷ xs) h rest =
    let p = and_parts ((stat_fit x.0).fits inside top) (stats_fit inside top (map stat_fit (nodes xs))) h in
    let (ps, no_else, d, s) = stats_made inside top xs p.1 rest in
    let m = x.1 inside top p.0 ps (λ _. no_else) in
    (m.pieces, m.no_else, λ spots. g.next_stat (m.derived spots) (d spots), λ q. m.spelled (s q))

pub in_case_made : (inside : Bool) (xs : List (With OfStat)) → stats_fit inside false (map stat_fit (nodes xs)) ≡ true → (rest : List Piece) → NotFirst (codes "else") rest → MadeClosed (λ ts us. AreInCase Aside inside ts (nodes xs) us) rest
in_case_made inside [] h rest no_else = (rest, no_else, λ spots. g.no_more_in_case, λ q. q)
in_case_made inside (x ∷ xs) h rest no_else =
    let p = and_parts ((stat_fit x.0).fits inside false) (stats_fit inside false (map stat_fit (nodes xs))) h in
    let (ps, no_else', d, s) = in_case_made inside xs p.1 rest no_else in
    let m = x.1 inside false p.0 ps (λ _. no_else') in
    (m.pieces, m.no_else, λ spots. g.next_in_case (m.derived spots) (d spots), λ q. m.spelled (s q))

pub cases_made : (inside may : Bool) (xs : List (With OfCase)) → cases_fit inside may (map case_fit (nodes xs)) ≡ true → (rest : List Piece) → MadeClosed (λ ts us. AreCases Aside inside may ts (nodes xs) us) rest
cases_made inside may [] h rest = (mark (codes "}") rest, λ spots. refl, λ spots. g.no_case refl, λ q. (sign.right_brace, q))
cases_made inside may (x ∷ xs) h rest =
    let c = case_fit x.0 in
    let p = and_parts (c.fits inside && (not c.is_default || may)) (cases_fit inside (not c.is_default && may) (map case_fit (nodes xs))) h in
    let r = and_parts (c.fits inside) (not c.is_default || may) p.0 in
    x.1 inside may r.0 r.1 (nodes xs) rest (cases_made inside (not c.is_default && may) xs p.1 rest)

-- a condition before an `else` isn't open
not_open : {A : Type 0} (b : Bool) → not b ≡ true → b ≡ true → A
not_open b h e = absurd (false≢true (sym (not_true b h) ∙ e))

pub if_made : (inside : Bool) (c : With OfCondition) (more : List (With OfCondition)) (otherwise : Option (With OfStat))
    → if_fits inside (condition_fit c.0) (map condition_fit (nodes more)) (option_map stat_fit (option_map (λ e. e.0) otherwise)) ≡ true → (rest : List Piece)
    → (ends_open (option_map stat_fit (option_map (λ e. e.0) otherwise)) ≡ true → NotFirst (codes "else") rest)
    → MadeAfter (Word (codes "if")) (λ ts us. IsIf Aside inside ts c.0 (nodes more) (option_map (λ e. e.0) otherwise) us) rest
if_made inside c [] None h rest no_else =
    let (ps, d, s) = c.1 inside h rest (λ _. no_else refl) in
    (ps, λ spots. g.no_else (d spots) (no_else refl spots), s)
if_made inside c [] (Some x) h rest no_else =
    let k = condition_fit c.0 in
    let f = stat_fit x.0 in
    let p = and_parts (k.fits inside && not k.is_open && f.fits inside false) (not f.is_if) h in
    let q = and_parts (k.fits inside && not k.is_open) (f.fits inside false) p.0 in
    let r = and_parts (k.fits inside) (not k.is_open) q.0 in
    let m = x.1 inside false q.1 rest no_else in
    let (ps, d, s) = c.1 inside r.0 (word (codes "else") m.pieces) (not_open k.is_open r.1) in
    (ps, λ spots. g.last_else (d spots) refl (m.no_if (not_true f.is_if p.1) spots) (m.derived spots), λ z. s (refl, m.spelled z))
if_made inside c (x ∷ more) otherwise h rest no_else =
    let k = condition_fit c.0 in
    let left = if_fits inside (condition_fit x.0) (map condition_fit (nodes more)) (option_map stat_fit (option_map (λ e. e.0) otherwise)) in
    let p = and_parts (k.fits inside && not k.is_open) left h in
    let q = and_parts (k.fits inside) (not k.is_open) p.0 in
    let (qs, e, t) = if_made inside x more otherwise p.1 rest no_else in
    let (ps, d, s) = c.1 inside q.0 (word (codes "else") (word (codes "if") qs)) (not_open k.is_open q.1) in
    (ps, λ spots. g.else_if (d spots) refl (e spots), λ z. s (refl, (refl, t z)))

pub label_made : (x : Option Identifier5) → label_fits x ≡ true → (rest : List Piece) → Made (λ ts us. IsLabel Aside ts x us) rest
label_made None h rest = (rest, λ spots. g.no_label, λ q. q)
label_made (Some x) h rest = let p = named x.name h in (word x.name rest, λ spots. g.label refl (identifier_made spots x rest p.1), λ q. (p.0, q))

pub optional_made : (x : Option (With OfExpr)) → option_fits (option_map expr_fit (option_map (λ e. e.0) x)) ≡ true → (rest : List Piece) → Made (λ ts us. IsOptional Aside ts (option_map (λ e. e.0) x) us) rest
optional_made None h rest = (rest, λ spots. g.absent, λ q. q)
optional_made (Some x) h rest = let (ps, d, s) = placed (x.1 h) rest in (ps, λ spots. g.present (d spots false g.level_sequence), s)

pub returned_made : (x : Option (With OfExpr)) → option_fits (option_map expr_fit (option_map (λ e. e.0) x)) ≡ true → (rest : List Piece) → Made (λ ts us. IsReturned Aside ts (option_map (λ e. e.0) x) us) rest
returned_made None h rest = (rest, λ spots. g.no_value_returned, λ q. q)
returned_made (Some x) h rest = let (ps, d, s) = x.1 h rest in (mark (codes "(") ps, λ spots. g.value_returned refl (d spots false g.level_sequence), λ q. (sign.left_paren, s q))
