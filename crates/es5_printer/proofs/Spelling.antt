-- What is written for a tree that some text has is spelled by that very tree: by induction over the text's own derivation,
-- each node's tokens derive it in the grammar's mode that holds each site to the first token of its call.
use Rattle.std.proofs.Common.{◌≡◌, ℕ, ◌+◌, ◌≤◌, Bool, true, false, ◌||◌, ◌&&◌, not, nat_le, List, [], ◌∷◌, length, map, Option, Some, None, refl, sym, ap, subst, ◌∙◌, arith}
use Rattle.std.specs.Prelude.{codes}
use Rattle.std.specs.Option.{option_map}
use Rattle.std.specs.List.{Contains}
use Rattle.std.proofs.lemmas.Bool.{false≢true, leb-true}
use Rattle.es_text.specs.declared.Span.{Span}
use Rattle.es_outside.specs.declared.events.Site.{Site}
use Rattle.es5_ast.specs.declared.operators.UpdateOperator5.{UpdateOperator5}
use Rattle.es5_ast.specs.declared.tree.Identifier5.{Identifier5}
use Rattle.es5_ast.specs.declared.tree.PlacedKey5.{PlacedKey5}
use Rattle.es5_ast.specs.declared.tree.Stat5.{Stat5}
use Rattle.es5_ast.specs.declared.tree.Declared5.{Declared5}
use Rattle.es5_ast.specs.declared.tree.Block5.{Block5}
use Rattle.es5_ast.specs.declared.tree.Condition5.{Condition5}
use Rattle.es5_ast.specs.declared.tree.ForFirst5.{ForFirst5}
use Rattle.es5_ast.specs.declared.tree.Case5.{Case5}
use Rattle.es5_ast.specs.declared.tree.Catch5.{Catch5}
use Rattle.es5_ast.specs.declared.tree.Function5.{Function5, roll-Function5}
use Rattle.es5_ast.specs.declared.tree.Expr5.{Expr5}
use Rattle.es5_ast.specs.declared.tree.Expr5.TheVariants as expr
use Rattle.es5_ast.specs.declared.tree.Element5.{Element5}
use Rattle.es5_ast.specs.declared.tree.Element5.TheVariants as element
use Rattle.es5_ast.specs.declared.tree.Property5.{Property5}
use Rattle.es5_ast.specs.declared.tree.Link5.{Link5}
use Rattle.es5_ast.specs.declared.tree.Link5.TheVariants as link
use Rattle.es5_ast.specs.declared.tree.Operand5.{Operand5}
use Rattle.es5_ast.specs.Lexical.{Word, Token5}
use Rattle.es5_ast.specs.Grammar as g
use Rattle.es5_ast.specs.Grammar.{Mode5, Aside, Marked, is_word, is_mark, IsWord, IsOnLine, begins, begin_of, is_identifier, key_kind, update_kind, binary_level, is_before, is_in, Sites, some_site, IsIdentifier, IsKey, AreParameters, IsExpr, IsNode, IsNewCallee, AreElements, AreProperties, IsProperty, IsAccessor, AreLinks, AreArguments, AreOperands, AreParts, IsFunction, AreStats, IsStat, IsBlock, AreDeclared, IsDeclared, IsIf, IsCondition, IsForFirst, IsOptional, IsClosed, IsLabel, IsReturned, AreCases, AreInCase, IsCatch, IsProgram}
use Rattle.es5_printer.specs.Pieces.{Piece, Lexeme, Begins, LineEnd, Write, Shown, ShownLink, ShownOperand, ShownFunction, word, mark, all, comma, separated, grouped, whole, placed, is_bare, in_place, maybe, name_of, function_of, elements_of, sites_of, begins_of, links_of, has_call, operands_of, any_in, level_of, arguments_of, parenthesized_arguments, parts_of, parameters_of, parenthesized_parameters, declared_of, update_level, update_of, key_of, end_of, more_of, otherwise_of, returned_of, body_of, begins_call, opens, element_shown, shown, for_first_shown, link_shown, property_shown, stat_shown, block_shown, case_shown, catch_shown, condition_shown, declared_shown, function_shown, operand_shown}
use Rattle.es5_printer.proofs.Shown as s
use Rattle.es5_printer.proofs.Tokens.{Spots, tokens, AreMarked, IsSpelled, or_false, AreKnown, AreSpelled, after_line, known_word, literal_spelled, key_spelled, unary_spelled, update_spelled, binary_spelled, assign_spelled, sign}
use Rattle.es5_printer.proofs.Heads.{and_true, joined_is, begins_spelled, head_first}
use Rattle.es5_printer.proofs.Starting.{begins_else, stat_starts}

and_false : (a b : Bool) → a && b ≡ false → (c : Bool) → a && (b || c) ≡ false → (a && c ≡ false)
and_false false b h c e = refl
and_false true false h c e = e
and_false true true h c e = absurd (false≢true (sym h))

and_first : (a b c : Bool) → a && (b || c) ≡ false → a && b ≡ false
and_first false b c e = refl
and_first true false c e = refl
and_first true true c e = e

not_true : (b : Bool) → not b ≡ true → b ≡ false
not_true true e = sym e
not_true false e = refl

module _ (spots : Spots) (marks : List (ℕ × Site)) where
  abbrev M : Mode5
  M = Marked marks

  abbrev Good : List Piece → Type 0
  Good ps = AreMarked spots marks ps

  abbrev toks : Bool → List Piece → List Token5
  toks line ps = tokens spots line ps

  -- a node is spelled by what is written for it, before `rest`; the marks in the rest hold still; the source's tokens after
  -- the node are known; and what is written are spelled tokens
  abbrev Out : Type 0 → List Piece → List Token5 → List Piece → Type 0
  Out R rest us ps = R × Good rest × AreKnown us × (AreSpelled false rest → AreSpelled false ps)

  -- the same of a statement, after which the line ends
  abbrev OutLine : Type 0 → List Piece → List Token5 → List Piece → Type 0
  OutLine R rest us ps = R × Good rest × AreKnown us × (AreSpelled true rest → AreSpelled false ps)

  -- the same of statements, before which a line has ended
  abbrev OutBody : Type 0 → List Piece → List Token5 → List Piece → Type 0
  OutBody R rest us ps = R × Good rest × AreKnown us × (AreSpelled false rest → AreSpelled true ps)

  abbrev OutLines : Type 0 → List Piece → List Token5 → List Piece → Type 0
  OutLines R rest us ps = R × Good rest × AreKnown us × (AreSpelled true rest → AreSpelled true ps)

  abbrev ExprP : Shown → Expr5 → List Token5 → Type 0
  ExprP w x us = (no_in : Bool) (least : ℕ) (line : Bool) (rest : List Piece) → Good (in_place w no_in least rest) → Out (IsExpr M no_in least (toks line (in_place w no_in least rest)) x (toks false rest)) rest us (in_place w no_in least rest)

  abbrev NodeP : Shown → Expr5 → List Token5 → Type 0
  NodeP w x us = (no_in : Bool) → no_in && w.has_in ≡ false → (line : Bool) (rest : List Piece) → Good (w.node no_in rest) → Out (IsNode M no_in w.level (toks line (w.node no_in rest)) x (toks false rest)) rest us (w.node no_in rest)

  placed_printed : (w : Shown) {x : Expr5} (us : List Token5) → NodeP w x us → (no_in : Bool) (least : ℕ) (line : Bool) (rest : List Piece) (b : Bool) → is_bare w no_in least ≡ b → Good (placed b w no_in rest) → Out (IsExpr M no_in least (toks line (placed b w no_in rest)) x (toks false rest)) rest us (placed b w no_in rest)
  placed_printed w us n no_in least line rest true e good =
      let h = and_true (nat_le least w.level) (not (no_in && w.has_in)) e in
      let (d, good', v, r) = n no_in (not_true (no_in && w.has_in) h.1) line rest good in
      (g.bare w.level (leb-true least w.level h.0) d, good', v, r)
  placed_printed w us n no_in least line rest false e good =
      let (d, good', v, r) = n false refl false (mark (codes ")") rest) good in
      let le : 0 ≤ w.level = omega arith in
      (g.group refl (g.bare w.level le d) refl, good', v, λ q. (sign.left_paren, r (sign.right_paren, q)))

  from_node : (w : Shown) {x : Expr5} (us : List Token5) → NodeP w x us → ExprP w x us
  from_node w us n no_in least line rest good = placed_printed w us n no_in least line rest (is_bare w no_in least) refl good

  at_node : (us : List Token5) {w : Shown} {x n : Expr5} → x ≡ n → shown n ≡ w → NodeP w x us → NodeP (shown x) x us
  at_node us {x = x} e f p = subst (λ z. NodeP z x us) (sym (ap shown e ∙ f)) p

  -- elements and the bracket after them
  abbrev ElementsP : List (Option Shown) → List Element5 → List Token5 → Type 0
  ElementsP ws xs us = (rest : List Piece) → Good (elements_of false ws (mark (codes "]") rest)) → Out (AreElements M (toks false (elements_of false ws (mark (codes "]") rest))) xs (toks false rest)) rest us (elements_of false ws (mark (codes "]") rest))

  element_then : (w : Shown) {x : Expr5} (us vs : List Token5) (xs : List Element5) → ExprP w x us → (AreKnown us → ElementsP (map element_shown xs) xs vs) → ElementsP (Some w ∷ map element_shown xs) (element.Element x ∷ xs) vs
  element_then w us vs [] p ps rest good =
      let (d, good1, v, r) = p false g.level_assignment false (mark (codes "]") rest) good in
      let (d2, good2, v2, r2) = ps v rest good1 in
      (g.last_element d refl, good2, v2, λ q. r (sign.right_bracket, q))
  element_then w us vs (y ∷ ys) p ps rest good =
      let (d, good1, v, r) = p false g.level_assignment false (mark (codes ",") (elements_of false (map element_shown (y ∷ ys)) (mark (codes "]") rest))) good in
      let (d2, good2, v2, r2) = ps v rest good1 in
      (g.next_element d refl d2, good2, v2, λ q. r (sign.comma, r2 q))

  at_element : (us : List Token5) {x n : Element5} {w : Option Shown} (xs : List Element5) → x ≡ n → element_shown n ≡ w → ElementsP (w ∷ map element_shown xs) (x ∷ xs) us → ElementsP (map element_shown (x ∷ xs)) (x ∷ xs) us
  at_element us {x} xs e f p = subst (λ z. ElementsP (z ∷ map element_shown xs) (x ∷ xs) us) (sym (ap element_shown e ∙ f)) p

  abbrev PropertyP : Write → Property5 → List Token5 → Type 0
  PropertyP w x us = (line : Bool) (rest : List Piece) → Good (w rest) → Out (IsProperty M (toks line (w rest)) x (toks false rest)) rest us (w rest)

  at_property : (us : List Token5) {w : Write} {x n : Property5} → x ≡ n → property_shown n ≡ w → PropertyP w x us → PropertyP (property_shown x) x us
  at_property us {x = x} e f p = subst (λ z. PropertyP z x us) (sym (ap property_shown e ∙ f)) p

  abbrev PropertiesP : List Property5 → List Token5 → Type 0
  PropertiesP xs us = (rest : List Piece) → Good (separated false (map property_shown xs) (mark (codes "}") rest)) → Out (AreProperties M (toks false (separated false (map property_shown xs) (mark (codes "}") rest))) xs (toks false rest)) rest us (separated false (map property_shown xs) (mark (codes "}") rest))

  property_then : {x : Property5} (us vs : List Token5) (xs : List Property5) → PropertyP (property_shown x) x us → (AreKnown us → PropertiesP xs vs) → PropertiesP (x ∷ xs) vs
  property_then us vs [] p ps rest good =
      let (d, good1, v, r) = p false (mark (codes "}") rest) good in
      let (d2, good2, v2, r2) = ps v rest good1 in
      (g.last_property d refl, good2, v2, λ q. r (sign.right_brace, q))
  property_then us vs (y ∷ ys) p ps rest good =
      let (d, good1, v, r) = p false (mark (codes ",") (separated false (map property_shown (y ∷ ys)) (mark (codes "}") rest))) good in
      let (d2, good2, v2, r2) = ps v rest good1 in
      (g.next_property d refl d2, good2, v2, λ q. r (sign.comma, r2 q))

  key_printed : (line : Bool) (k : PlacedKey5) (rest : List Piece) → IsKey M (toks line (key_of k.key rest)) k (toks false rest)
  key_printed line k rest = record { token = _; first = refl; kind = refl; spans = tt }

  known_key : {ts us : List Token5} {k : PlacedKey5} → IsKey Aside ts k us → AreKnown ts → IsSpelled (key_kind k.key) × AreKnown us
  known_key {k = k} d v = let v' = subst AreKnown d.first v in (key_spelled d.token k.key d.kind v'.0, v'.1)

  identifier_printed : (line : Bool) (x : Identifier5) (rest : List Piece) → is_identifier x.name ≡ true → IsIdentifier M (toks line (word x.name rest)) x (toks false rest)
  identifier_printed line x rest free = record { token = _; first = refl; word = refl; free = free; spans = tt }

  known_identifier : {ts us : List Token5} {x : Identifier5} → IsIdentifier Aside ts x us → AreKnown ts → IsSpelled (Word x.name) × AreKnown us
  known_identifier {x = x} d v = let v' = subst AreKnown d.first v in (known_word d.token x.name d.word v'.0, v'.1)

  abbrev ParametersP : List Identifier5 → List Token5 → Type 0
  ParametersP xs us = (rest : List Piece) → Good (parameters_of false xs (mark (codes ")") rest)) → Out (AreParameters M (toks false (parameters_of false xs (mark (codes ")") rest))) xs (toks false rest)) rest us (parameters_of false xs (mark (codes ")") rest))

  parameters_printed : {ts : List Token5} {xs : List Identifier5} {us : List Token5} → AreParameters Aside ts xs us → AreKnown ts → ParametersP xs us
  parameters_printed (g.no_parameter m) v rest good = (g.no_parameter refl, good, v.1, λ q. (sign.right_paren, q))
  parameters_printed (g.last_parameter {x = x} d m) v rest good =
      let (k, v1) = known_identifier d v in
      (g.last_parameter (identifier_printed false x (mark (codes ")") rest) d.free) refl, good, v1.1, λ q. (k, (sign.right_paren, q)))
  parameters_printed (g.next_parameter {x = x} {y = y} {xs = xs} d m ds) v rest good =
      let (k, v1) = known_identifier d v in
      let (d2, good2, v2, r2) = parameters_printed ds v1.1 rest good in
      (g.next_parameter (identifier_printed false x (mark (codes ",") (parameters_of false (y ∷ xs) (mark (codes ")") rest))) d.free) refl d2, good2, v2, λ q. (k, (sign.comma, r2 q)))

  -- the sites of a chain stand at its first token
  abbrev Held : ℕ → List Site → Type 0
  Held at [] = Unit {0}
  Held at (site ∷ sites) = Contains marks (at, site) × Held at sites

  abbrev AllHeld : ℕ → List ShownLink → Type 0
  AllHeld at [] = Unit {0}
  AllHeld at (l ∷ ls) = Held at l.sites × AllHeld at ls

  begin_same : (line : Bool) (ps : List Piece) → begin_of (toks line ps) ≡ begin_of (toks false ps)
  begin_same line [] = refl
  begin_same line (Lexeme kind ∷ ps) = refl
  begin_same line (Begins site ∷ ps) = begin_same (line || (spots (length ps)).broken) ps ∙ sym (begin_same (spots (length ps)).broken ps)
  begin_same line (LineEnd ∷ ps) = refl

  begin_sites : (ss : List Site) (rest : List Piece) → begin_of (toks false (sites_of ss rest)) ≡ begin_of (toks false rest)
  begin_sites [] rest = refl
  begin_sites (site ∷ ss) rest = begin_same (spots (length (sites_of ss rest))).broken (sites_of ss rest) ∙ begin_sites ss rest

  begin_begins : (ls : List ShownLink) (rest : List Piece) → begin_of (toks false (begins_of ls rest)) ≡ begin_of (toks false rest)
  begin_begins [] rest = refl
  begin_begins (l ∷ ls) rest = begin_sites l.sites (begins_of ls rest) ∙ begin_begins ls rest

  held_sites : (ss : List Site) (rest : List Piece) → Good (sites_of ss rest) → Held (begin_of (toks false rest)) ss × Good rest
  held_sites [] rest good = (tt, good)
  held_sites (site ∷ ss) rest good =
      let (h, good1) = held_sites ss rest good.1 in
      ((subst (λ at. Contains marks (at, site)) (begin_sites ss rest) good.0, h), good1)

  held_begins : (ls : List ShownLink) (rest : List Piece) → Good (begins_of ls rest) → AllHeld (begin_of (toks false rest)) ls × Good rest
  held_begins [] rest good = (tt, good)
  held_begins (l ∷ ls) rest good =
      let (h, good1) = held_sites l.sites (begins_of ls rest) good in
      let (hs, good2) = held_begins ls rest good1 in
      ((subst (λ at. Held at l.sites) (begin_begins ls rest) h, hs), good2)

  sites_line : (ss : List Site) (line : Bool) (rest : List Piece) → (last : Bool) × (toks line (sites_of ss rest) ≡ toks last rest)
  sites_line [] line rest = (line, refl)
  sites_line (site ∷ ss) line rest = sites_line ss (line || (spots (length (sites_of ss rest))).broken) rest

  begins_line : (ls : List ShownLink) (line : Bool) (rest : List Piece) → (last : Bool) × (toks line (begins_of ls rest) ≡ toks last rest)
  begins_line [] line rest = (line, refl)
  begins_line (l ∷ ls) line rest =
      let (line1, e1) = sites_line l.sites line (begins_of ls rest) in
      let (line2, e2) = begins_line ls line1 rest in
      (line2, e1 ∙ e2)

  site_held : (at : ℕ) (ts : List Token5) (span : Span) (arguments : List Expr5) (site : Option Site) (links : List Link5) → begin_of ts ≡ at → Held at (some_site site) → Sites M ts links → Sites M ts (link.Call span arguments site ∷ links)
  site_held at ts span arguments None links e h hs = rw (link.outs-Call span arguments None) hs
  site_held at ts span arguments (Some site) links e h hs = rw (link.outs-Call span arguments (Some site)) (subst (λ a. Contains marks (a, site)) (sym e) h.0, hs)

  links_held : {calls : Bool} {ts : List Token5} {xs : List Link5} {us : List Token5} → AreLinks Aside calls ts xs us → (vs : List Token5) (at : ℕ) → begin_of vs ≡ at → AllHeld at (map link_shown xs) → Sites M vs xs
  links_held g.no_link vs at e h = tt
  links_held (g.member_link {links = links} span name el sp md w ds) vs at e h =
      subst (λ z. Sites M vs (z ∷ links)) (sym el) (rw (link.outs-Member span name) (links_held ds vs at e h.1))
  links_held (g.index_link {links = links} span index el sp mo dx mc ds) vs at e h =
      subst (λ z. Sites M vs (z ∷ links)) (sym el) (rw (link.outs-Index span index) (links_held ds vs at e h.1))
  links_held (g.call_link {links = links} span arguments site el sp mo da ds) vs at e h =
      subst (λ z. Sites M vs (z ∷ links)) (sym el) (site_held at vs span arguments site links e (subst (λ z. Held at z.sites) (ap link_shown el ∙ s.link_shown-Call span arguments site) h.0) (links_held ds vs at e h.1))

  abbrev LinksP : List ShownLink → List Link5 → List Token5 → Type 0
  LinksP ws xs us = (rest : List Piece) → Good (links_of ws rest) → Out (AreLinks M (has_call ws) (toks false (links_of ws rest)) xs (toks false rest)) rest us (links_of ws rest)

  at_link : (us : List Token5) {x n : Link5} {w : ShownLink} (xs : List Link5) → x ≡ n → link_shown n ≡ w → LinksP (w ∷ map link_shown xs) (x ∷ xs) us → LinksP (map link_shown (x ∷ xs)) (x ∷ xs) us
  at_link us {x} xs e f p = subst (λ z. LinksP (z ∷ map link_shown xs) (x ∷ xs) us) (sym (ap link_shown e ∙ f)) p

  abbrev ArgumentsP : List Shown → List Expr5 → List Token5 → Type 0
  ArgumentsP ws xs us = (rest : List Piece) → Good (arguments_of false ws (mark (codes ")") rest)) → Out (AreArguments M (toks false (arguments_of false ws (mark (codes ")") rest))) xs (toks false rest)) rest us (arguments_of false ws (mark (codes ")") rest))

  abbrev OperandsP : ℕ → List ShownOperand → List Operand5 → List Token5 → Type 0
  OperandsP level ws xs us = (no_in : Bool) → no_in && any_in ws ≡ false → (rest : List Piece) → Good (operands_of no_in level ws rest) → Out (AreOperands M no_in level (toks false (operands_of no_in level ws rest)) xs (toks false rest)) rest us (operands_of no_in level ws rest)

  at_operand : (us : List Token5) {x n : Operand5} {w : ShownOperand} {level : ℕ} (xs : List Operand5) → x ≡ n → operand_shown n ≡ w → OperandsP level (w ∷ map operand_shown xs) (x ∷ xs) us → OperandsP level (map operand_shown (x ∷ xs)) (x ∷ xs) us
  at_operand us {x} {level = level} xs e f p = subst (λ z. OperandsP level (z ∷ map operand_shown xs) (x ∷ xs) us) (sym (ap operand_shown e ∙ f)) p

  abbrev PartsP : List Shown → List Expr5 → List Token5 → Type 0
  PartsP ws xs us = (no_in : Bool) (rest : List Piece) → Good (parts_of no_in ws rest) → Out (AreParts M no_in (toks false (parts_of no_in ws rest)) xs (toks false rest)) rest us (parts_of no_in ws rest)

  abbrev FunctionP : ShownFunction → Function5 → List Token5 → Type 0
  FunctionP w x us = (line : Bool) (rest : List Piece) → Good (function_of w rest) → Out (IsFunction M (toks line (function_of w rest)) x (toks false rest)) rest us (function_of w rest)

  at_function : (us : List Token5) {w : ShownFunction} {x n : Function5} → x ≡ n → function_shown n ≡ w → FunctionP w x us → FunctionP (function_shown x) x us
  at_function us {x = x} e f p = subst (λ z. FunctionP z x us) (sym (ap function_shown e ∙ f)) p

  abbrev AccessorP : Bool → ShownFunction → Function5 → List Token5 → Type 0
  AccessorP setter w x us = (rest : List Piece) → Good (w.after rest) → Out (IsAccessor M setter (toks false (w.after rest)) x (toks false rest)) rest us (w.after rest)

  at_accessor : (us : List Token5) {w : ShownFunction} {setter : Bool} {x n : Function5} → x ≡ n → function_shown n ≡ w → AccessorP setter w x us → AccessorP setter (function_shown x) x us
  at_accessor us {setter = setter} {x = x} e f p = subst (λ z. AccessorP setter z x us) (sym (ap function_shown e ∙ f)) p

  abbrev StatsP : Bool → Bool → List Stat5 → List Token5 → Type 0
  StatsP inside top xs us = (rest : List Piece) → Good (all (map stat_shown xs) (mark (codes "}") rest)) → OutBody (AreStats M inside top (toks true (all (map stat_shown xs) (mark (codes "}") rest))) xs (toks false rest)) rest us (all (map stat_shown xs) (mark (codes "}") rest))

  -- what follows a statement begins with `else` only if that of the source does
  abbrev KeepsElse : List Token5 → List Piece → Type 0
  KeepsElse us rest = begins_else us ≡ false → begins_else (toks true rest) ≡ false

  abbrev StatP : Bool → Bool → Write → Stat5 → List Token5 → Type 0
  StatP inside top w x us = (line : Bool) (rest : List Piece) → KeepsElse us rest → Good (w rest) → OutLine (IsStat M inside top (toks line (w rest)) x (toks true rest)) rest us (w rest)

  at_stat : (us : List Token5) {inside top : Bool} {w : Write} {x n : Stat5} → x ≡ n → stat_shown n ≡ w → StatP inside top w x us → StatP inside top (stat_shown x) x us
  at_stat us {inside} {top} {x = x} e f p = subst (λ z. StatP inside top z x us) (sym (ap stat_shown e ∙ f)) p

  abbrev BlockP : Bool → Write → Block5 → List Token5 → Type 0
  BlockP inside w x us = (rest : List Piece) (line : Bool) → Good (w rest) → Out (IsBlock M inside (toks line (w rest)) x (toks false rest)) rest us (w rest)

  at_block : (us : List Token5) {inside : Bool} {w : Write} {x n : Block5} → x ≡ n → block_shown n ≡ w → BlockP inside w x us → BlockP inside (block_shown x) x us
  at_block us {inside} {x = x} e f p = subst (λ z. BlockP inside z x us) (sym (ap block_shown e ∙ f)) p

  abbrev DeclaredP : Bool → (Bool → Write) → Declared5 → List Token5 → Type 0
  DeclaredP no_in w x us = (rest : List Piece) → Good (w no_in rest) → Out (IsDeclared M no_in (toks false (w no_in rest)) x (toks false rest)) rest us (w no_in rest)

  at_declared : (us : List Token5) {no_in : Bool} {w : Bool → Write} {x n : Declared5} → x ≡ n → declared_shown n ≡ w → DeclaredP no_in w x us → DeclaredP no_in (declared_shown x) x us
  at_declared us {no_in} {x = x} e f p = subst (λ z. DeclaredP no_in z x us) (sym (ap declared_shown e ∙ f)) p

  abbrev DeclaredListP : Bool → List Declared5 → List Token5 → Type 0
  DeclaredListP no_in xs us = (rest : List Piece) → Good (declared_of no_in false (map declared_shown xs) rest) → Out (AreDeclared M no_in (toks false (declared_of no_in false (map declared_shown xs) rest)) xs (toks false rest)) rest us (declared_of no_in false (map declared_shown xs) rest)

  abbrev ConditionP : Bool → Write → Condition5 → List Token5 → Type 0
  ConditionP inside w x us = (line : Bool) (rest : List Piece) → KeepsElse us rest → Good (w rest) → OutLine (IsCondition M inside (toks line (w rest)) x (toks true rest)) rest us (w rest)

  at_condition : (us : List Token5) {inside : Bool} {w : Write} {x n : Condition5} → x ≡ n → condition_shown n ≡ w → ConditionP inside w x us → ConditionP inside (condition_shown x) x us
  at_condition us {inside} {x = x} e f p = subst (λ z. ConditionP inside z x us) (sym (ap condition_shown e ∙ f)) p

  abbrev IfP : Bool → Condition5 → List Condition5 → Option Stat5 → List Token5 → Type 0
  IfP inside c more otherwise us = (line : Bool) (rest : List Piece) → KeepsElse us rest → Good (condition_shown c (more_of (map condition_shown more) (otherwise_of (option_map stat_shown otherwise) rest))) → OutLine (IsIf M inside (toks line (condition_shown c (more_of (map condition_shown more) (otherwise_of (option_map stat_shown otherwise) rest)))) c more otherwise (toks true rest)) rest us (condition_shown c (more_of (map condition_shown more) (otherwise_of (option_map stat_shown otherwise) rest)))

  abbrev ForFirstP : Write → ForFirst5 → List Token5 → Type 0
  ForFirstP w x us = (rest : List Piece) → Good (w rest) → Out (IsForFirst M (toks false (w rest)) x (toks false rest)) rest us (w rest)

  at_for_first : (us : List Token5) {w : Write} {x n : ForFirst5} → x ≡ n → for_first_shown n ≡ w → ForFirstP w x us → ForFirstP (for_first_shown x) x us
  at_for_first us {x = x} e f p = subst (λ z. ForFirstP z x us) (sym (ap for_first_shown e ∙ f)) p

  abbrev OptionalP : Option Expr5 → List Token5 → Type 0
  OptionalP x us = (rest : List Piece) → Good (maybe (option_map shown x) rest) → Out (IsOptional M (toks false (maybe (option_map shown x) rest)) x (toks false rest)) rest us (maybe (option_map shown x) rest)

  abbrev ClosedP : Option Expr5 → List Token5 → Type 0
  ClosedP x us = (rest : List Piece) → Good (maybe (option_map shown x) (mark (codes ")") rest)) → Out (IsClosed M (toks false (maybe (option_map shown x) (mark (codes ")") rest))) x (toks false rest)) rest us (maybe (option_map shown x) (mark (codes ")") rest))

  abbrev ReturnedP : Option Expr5 → List Token5 → Type 0
  ReturnedP x us = (rest : List Piece) → Good (returned_of (option_map shown x) rest) → Out (IsReturned M (toks false (returned_of (option_map shown x) rest)) x (toks false rest)) rest us (returned_of (option_map shown x) rest)

  abbrev CasesP : Bool → Bool → List Case5 → List Token5 → Type 0
  CasesP inside may xs us = (rest : List Piece) → Good (all (map case_shown xs) (mark (codes "}") rest)) → OutBody (AreCases M inside may (toks true (all (map case_shown xs) (mark (codes "}") rest))) xs (toks false rest)) rest us (all (map case_shown xs) (mark (codes "}") rest))

  at_case : (us : List Token5) {inside may : Bool} {w : Write} {x n : Case5} (xs : List Case5) → x ≡ n → case_shown n ≡ w → ((rest : List Piece) → Good (w (all (map case_shown xs) (mark (codes "}") rest))) → OutBody (AreCases M inside may (toks true (w (all (map case_shown xs) (mark (codes "}") rest)))) (x ∷ xs) (toks false rest)) rest us (w (all (map case_shown xs) (mark (codes "}") rest)))) → CasesP inside may (x ∷ xs) us
  at_case us {inside} {may} {x = x} xs e f p = subst (λ z. (rest : List Piece) → Good (z (all (map case_shown xs) (mark (codes "}") rest))) → OutBody (AreCases M inside may (toks true (z (all (map case_shown xs) (mark (codes "}") rest)))) (x ∷ xs) (toks false rest)) rest us (z (all (map case_shown xs) (mark (codes "}") rest)))) (sym (ap case_shown e ∙ f)) p

  -- the statements of a clause, before another clause or a brace
  abbrev InCaseP : Bool → List Stat5 → List Token5 → Type 0
  InCaseP inside xs us = (rest : List Piece) → begins_else (toks true rest) ≡ false → Good (all (map stat_shown xs) rest) → OutLines (AreInCase M inside (toks true (all (map stat_shown xs) rest)) xs (toks true rest)) rest us (all (map stat_shown xs) rest)

  abbrev CatchP : Bool → Write → Catch5 → List Token5 → Type 0
  CatchP inside w x us = (rest : List Piece) → Good (w rest) → Out (IsCatch M inside (toks false (w rest)) x (toks false rest)) rest us (w rest)

  at_catch : (us : List Token5) {inside : Bool} {w : Write} {x n : Catch5} → x ≡ n → catch_shown n ≡ w → CatchP inside w x us → CatchP inside (catch_shown x) x us
  at_catch us {inside} {x = x} e f p = subst (λ z. CatchP inside z x us) (sym (ap catch_shown e ∙ f)) p

  -- no statement begins with `else`, nor a clause or a brace
  stats_no_else : {inside top : Bool} {ts : List Token5} {xs : List Stat5} {us : List Token5} → AreStats Aside inside top ts xs us → (rest : List Piece) → begins_else (toks true (all (map stat_shown xs) (mark (codes "}") rest))) ≡ false
  stats_no_else (g.no_stat m) rest = refl
  stats_no_else (g.next_stat {ss = ss} d ds) rest = (stat_starts spots d).no_else true (all (map stat_shown ss) (mark (codes "}") rest))

  in_case_no_else : {inside : Bool} {ts : List Token5} {xs : List Stat5} {us : List Token5} → AreInCase Aside inside ts xs us → (rest : List Piece) → begins_else (toks true rest) ≡ false → begins_else (toks true (all (map stat_shown xs) rest)) ≡ false
  in_case_no_else g.no_more_in_case rest h = h
  in_case_no_else (g.next_in_case {ss = ss} d ds) rest h = (stat_starts spots d).no_else true (all (map stat_shown ss) rest)

  cases_no_else : {inside may : Bool} {ts : List Token5} {xs : List Case5} {us : List Token5} → AreCases Aside inside may ts xs us → (rest : List Piece) → begins_else (toks true (all (map case_shown xs) (mark (codes "}") rest))) ≡ false
  cases_no_else (g.no_case m) rest = refl
  cases_no_else (g.case_clause {cs = cs} span test body e sp w dx m db ds) rest = subst (λ z. begins_else (toks true (z (all (map case_shown cs) (mark (codes "}") rest)))) ≡ false) (sym (ap case_shown e ∙ s.case_shown-roll span (Some test) body)) refl
  cases_no_else (g.default_clause {cs = cs} span body e sp w m db ds) rest = subst (λ z. begins_else (toks true (z (all (map case_shown cs) (mark (codes "}") rest)))) ≡ false) (sym (ap case_shown e ∙ s.case_shown-roll span None body)) refl

  -- an expression that is put in parentheses if need be
  grouped_printed : (w : Shown) {x : Expr5} (us : List Token5) (b : Bool) → ExprP w x us → (line : Bool) (rest : List Piece) → Good (grouped b (whole w) rest) → Out (IsExpr M false g.level_sequence (toks line (grouped b (whole w) rest)) x (toks false rest)) rest us (grouped b (whole w) rest)
  grouped_printed w us true p line rest good =
      let (d, good1, v, r) = p false g.level_sequence false (mark (codes ")") rest) good in
      (g.group refl d refl, good1, v, λ q. (sign.left_paren, r (sign.right_paren, q)))
  grouped_printed w us false p line rest good = p false g.level_sequence line rest good

  on_line : (ps : List Piece) → begins_call ps ≡ false → IsOnLine (toks false ps)
  on_line [] e = tt
  on_line (Lexeme kind ∷ ps) e = refl
  on_line (Begins site ∷ ps) e = absurd (false≢true (sym e))
  on_line (LineEnd ∷ ps) e = absurd (false≢true (sym e))

  no_brace : (line : Bool) (ps : List Piece) → opens ps ≡ false → (begins (is_mark (codes "{")) (toks line ps) ≡ false) × (begins (is_word (codes "function")) (toks line ps) ≡ false)
  no_brace line [] e = (refl, refl)
  no_brace line (Lexeme kind ∷ ps) e = or_false (is_mark (codes "{") kind) (is_word (codes "function") kind) e
  no_brace line (Begins site ∷ ps) e = no_brace (line || (spots (length ps)).broken) ps e
  no_brace line (LineEnd ∷ ps) e = no_brace true ps e

  grouped_opens : (w : Shown) (line : Bool) (rest : List Piece) (b : Bool) → opens (whole w rest) ≡ b → (begins (is_mark (codes "{")) (toks line (grouped b (whole w) rest)) ≡ false) × (begins (is_word (codes "function")) (toks line (grouped b (whole w) rest)) ≡ false)
  grouped_opens w line rest true e = (refl, refl)
  grouped_opens w line rest false e = no_brace line (whole w rest) e

  grouped_on_line : (w : Shown) (rest : List Piece) (b : Bool) → begins_call (whole w rest) ≡ b → IsOnLine (toks false (grouped b (whole w) rest))
  grouped_on_line w rest true e = refl
  grouped_on_line w rest false e = on_line (whole w rest) e

  label_printed : {ts : List Token5} {x : Option Identifier5} {us : List Token5} → IsLabel Aside ts x us → AreKnown ts → (rest : List Piece) → IsLabel M (toks false (name_of x rest)) x (toks false rest) × AreKnown us × (AreSpelled false rest → AreSpelled false (name_of x rest))
  label_printed g.no_label v rest = (g.no_label, v, λ q. q)
  label_printed (g.label {x = x} l d) v rest =
      let (k, v1) = known_identifier d v in
      (g.label refl (identifier_printed false x rest d.free), v1, λ q. (k, q))

  label_good : (x : Option Identifier5) (rest : List Piece) → Good (name_of x rest) → Good rest
  label_good None rest good = good
  label_good (Some x) rest good = good

  else_here : (t : Token5) (ts : List Token5) → IsWord (codes "else") t → begins_else (t ∷ ts) ≡ false → ⊥
  else_here t ts w h = false≢true (sym h ∙ ap (is_word (codes "else")) w)

  after_printed : (span : Span) (operator : UpdateOperator5) (target : Expr5) {x : Expr5} (t : Token5) (us : List Token5) → x ≡ expr.Update span operator target → (b : Bool) → is_before operator ≡ b → b ≡ false → ExprP (shown target) target (t ∷ us) → NodeP (record { level = update_level b; has_in = false; node = λ no_in. update_of b operator (shown target) }) x us
  after_printed span operator target t us e true eb f p = absurd (false≢true (sym f))
  after_printed span operator target t us e false eb f p = λ no_in h line rest good.
      let (d1, good1, v1, r1) = p false g.level_left_hand_side line (Lexeme (update_kind operator) ∷ rest) good in
      (g.update_after span operator target e tt eb d1 refl refl, good1, v1.1, λ q. r1 (update_spelled operator, q))

  before_printed : (span : Span) (operator : UpdateOperator5) (target : Expr5) {x : Expr5} (us : List Token5) → x ≡ expr.Update span operator target → (b : Bool) → is_before operator ≡ b → b ≡ true → ExprP (shown target) target us → NodeP (record { level = update_level b; has_in = false; node = λ no_in. update_of b operator (shown target) }) x us
  before_printed span operator target us e false eb f p = absurd (false≢true f)
  before_printed span operator target us e true eb f p = λ no_in h line rest good.
      let (d1, good1, v1, r1) = p false g.level_unary false rest good in
      (g.update_before span operator target e tt eb refl d1, good1, v1, λ q. (update_spelled operator, r1 q))

  operands_level : {no_in : Bool} {level : ℕ} {ts : List Token5} {o : Operand5} {operands : List Operand5} {us : List Token5} → AreOperands Aside no_in level ts (o ∷ operands) us → level_of (map operand_shown (o ∷ operands)) ≡ level
  operands_level (g.next_operand operator value e bl ni k dx ds) = ap (λ z. binary_level z.operator) (ap operand_shown e ∙ s.operand_shown-roll operator value) ∙ bl

  mutual
    pub expr_printed : {no_in : Bool} {least : ℕ} {ts : List Token5} {x : Expr5} {us : List Token5} → IsExpr Aside no_in least ts x us → AreKnown ts → ExprP (shown x) x us
    expr_printed (g.bare level le d) v = from_node _ _ (node_printed d v)
    expr_printed (g.group mo d mc) v = λ no_in least line rest good.
        let (d1, good1, v1, r1) = expr_printed d v.1 no_in least line rest good in
        (d1, good1, v1.1, r1)

    node_printed : {no_in : Bool} {level : ℕ} {ts : List Token5} {x : Expr5} {us : List Token5} → IsNode Aside no_in level ts x us → AreKnown ts → NodeP (shown x) x us
    node_printed (g.this span e sp w) v = at_node _ e (s.shown-This span) (λ no_in h line rest good. (g.this span e tt refl, good, v.1, λ q. (refl, q)))
    node_printed (g.identifier {t = t} span name e sp w free) v = at_node _ e (s.shown-Name span name) (λ no_in h line rest good. (g.identifier span name e tt refl free, good, v.1, λ q. (known_word t name w v.0, q)))
    node_printed (g.literal {t = t} span value e sp k) v = at_node _ e (s.shown-Literal span value) (λ no_in h line rest good. (g.literal span value e tt refl, good, v.1, λ q. (literal_spelled t value k v.0, q)))
    node_printed (g.array span elements e sp m ds) v = at_node _ e (s.shown-ArrayList span elements) (λ no_in h line rest good.
        let (d1, good1, v1, r1) = elements_printed ds v.1 rest good in
        (g.array span elements e tt refl d1, good1, v1, λ q. (sign.left_bracket, r1 q)))
    node_printed (g.object span properties e sp m ds) v = at_node _ e (s.shown-ObjectList span properties) (λ no_in h line rest good.
        let (d1, good1, v1, r1) = properties_printed ds v.1 rest good in
        (g.object span properties e tt refl d1, good1, v1, λ q. (sign.left_brace, r1 q)))
    node_printed (g.function f e d) v = at_node _ e (s.shown-Function f) (λ no_in h line rest good.
        let (d1, good1, v1, r1) = function_printed d v line rest good in
        (g.function f e d1, good1, v1, r1))
    node_printed (g.chain {x = x} calls span head l links e sp ss dh dl) v = at_node _ e (s.shown-Chain span head (l ∷ links)) (λ no_in h line rest good.
        let ws = map link_shown (l ∷ links) in
        let after = in_place (shown head) false g.level_primary (links_of ws rest) in
        let (held, good0) = held_begins ws after good in
        let (line1, le) = begins_line ws line after in
        let (d1, good1, v1, r1) = expr_printed dh v false g.level_primary line1 (links_of ws rest) good0 in
        let (d2, good2, v2, r2) = links_printed dl v1 rest good1 in
        let few = subst (λ z. length z ≤ 1) (joined_is dl) ss in
        let sites = links_held dl (toks line1 after) (begin_of (toks false after)) (begin_same line1 after) held in
        (subst (λ ts. IsNode M no_in (g.chain_level (has_call ws)) ts x (toks false rest)) (sym le) (g.chain (has_call ws) span head l links e tt sites d1 d2), good2, v2, λ q. begins_spelled ws after few (head_first dh (links_of ws rest)) (r1 (r2 q))))
    node_printed (g.new_call span callee arguments e sp w dc m da) v = at_node _ e (s.shown-New span callee arguments) (λ no_in h line rest good.
        let (d1, good1, v1, r1) = expr_printed dc v.1 false g.level_member false (parenthesized_arguments (map shown arguments) rest) good in
        let (d2, good2, v2, r2) = arguments_printed da v1.1 rest good1 in
        (g.new_call span callee arguments e tt refl d1 refl d2, good2, v2, λ q. (refl, r1 (sign.left_paren, r2 q))))
    node_printed (g.new_bare span callee e sp w dc) v = at_node _ e (s.shown-New span callee []) (λ no_in h line rest good.
        let (d1, good1, v1, r1) = new_callee_printed dc v.1 false g.level_member false (parenthesized_arguments [] rest) good in
        (g.new_call span callee [] e tt refl d1 refl (g.no_argument refl), good1, v1, λ q. (refl, r1 (sign.left_paren, (sign.right_paren, q)))))
    node_printed (g.update_after {t = t} {us = us} span operator target e sp b dt k l) v = at_node _ e (s.shown-Update span operator target) (after_printed span operator target t us e (is_before operator) refl b (expr_printed dt v))
    node_printed (g.update_before {us = us} span operator target e sp b k dt) v = at_node _ e (s.shown-Update span operator target) (before_printed span operator target us e (is_before operator) refl b (expr_printed dt v.1))
    node_printed (g.unary span operator operand e sp k d) v = at_node _ e (s.shown-Unary span operator operand) (λ no_in h line rest good.
        let (d1, good1, v1, r1) = expr_printed d v.1 false g.level_unary false rest good in
        (g.unary span operator operand e tt refl d1, good1, v1, λ q. (unary_spelled operator, r1 q)))
    node_printed (g.binary_chain {vs = vs} level span first o operands e sp df ds) v = at_node _ e (s.shown-Binary span first (o ∷ operands)) (λ no_in h line rest good.
        let ws = map operand_shown (o ∷ operands) in
        let (d1, good1, v1, r1) = expr_printed df v no_in (level_of ws + 1) line (operands_of no_in (level_of ws) ws rest) good in
        let (d2, good2, v2, r2) = subst (λ l. OperandsP l ws (o ∷ operands) vs) (sym (operands_level ds)) (operands_printed ds v1) no_in h rest good1 in
        (g.binary_chain (level_of ws) span first o operands e tt d1 d2, good2, v2, λ q. r1 (r2 q)))
    node_printed (g.conditional span test yes_ no_ e sp dt mq dy mc dn) v = at_node _ e (s.shown-Conditional span test yes_ no_) (λ no_in h line rest good.
        let (d1, good1, v1, r1) = expr_printed dt v no_in (g.level_conditional + 1) line _ good in
        let (d2, good2, v2, r2) = expr_printed dy v1.1 false g.level_assignment false _ good1 in
        let (d3, good3, v3, r3) = expr_printed dn v2.1 no_in g.level_assignment false rest good2 in
        (g.conditional span test yes_ no_ e tt d1 refl d2 refl d3, good3, v3, λ q. r1 (sign.question, r2 (sign.colon, r3 q))))
    node_printed (g.assignment span operator target value e sp dt k dv) v = at_node _ e (s.shown-Assign span operator target value) (λ no_in h line rest good.
        let (d1, good1, v1, r1) = expr_printed dt v false g.level_left_hand_side line _ good in
        let (d2, good2, v2, r2) = expr_printed dv v1.1 no_in g.level_assignment false rest good1 in
        (g.assignment span operator target value e tt d1 refl d2, good2, v2, λ q. r1 (assign_spelled operator, r2 q)))
    node_printed (g.sequence span first y parts e sp df dp) v = at_node _ e (s.shown-Sequence span first (y ∷ parts)) (λ no_in h line rest good.
        let (d1, good1, v1, r1) = expr_printed df v no_in g.level_assignment line _ good in
        let (d2, good2, v2, r2) = parts_printed dp v1 no_in rest good1 in
        (g.sequence span first y parts e tt d1 d2, good2, v2, λ q. r1 (r2 q)))

    new_callee_printed : {ts : List Token5} {x : Expr5} {us : List Token5} → IsNewCallee Aside ts x us → AreKnown ts → ExprP (shown x) x us
    new_callee_printed (g.another_new d) v = from_node _ _ (node_printed d v)
    new_callee_printed (g.member d) v = expr_printed d v

    elements_printed : {ts : List Token5} {xs : List Element5} {us : List Token5} → AreElements Aside ts xs us → AreKnown ts → ElementsP (map element_shown xs) xs us
    elements_printed (g.no_element m) v = λ rest good. (g.no_element refl, good, v.1, λ q. (sign.right_bracket, q))
    elements_printed (g.hole {xs = xs} m ds) v = at_element _ xs refl s.element_shown-Hole (λ rest good.
        let (d1, good1, v1, r1) = elements_printed ds v.1 rest good in
        (g.hole refl d1, good1, v1, λ q. (sign.comma, r1 q)))
    elements_printed (g.last_element {x = x} d m) v = at_element _ [] refl (s.element_shown-Element x) (λ rest good.
        let (d1, good1, v1, r1) = expr_printed d v false g.level_assignment false (mark (codes "]") rest) good in
        (g.last_element d1 refl, good1, v1.1, λ q. r1 (sign.right_bracket, q)))
    elements_printed (g.next_element {x = x} {comma = comma} {xs = xs} {us = us} {vs = vs} d m ds) v = at_element _ xs refl (s.element_shown-Element x) (element_then (shown x) (comma ∷ us) vs xs (expr_printed d v) (λ v1. elements_printed ds v1.1))

    properties_printed : {ts : List Token5} {xs : List Property5} {us : List Token5} → AreProperties Aside ts xs us → AreKnown ts → PropertiesP xs us
    properties_printed (g.no_property m) v = λ rest good. (g.no_property refl, good, v.1, λ q. (sign.right_brace, q))
    properties_printed (g.last_property d m) v = λ rest good.
        let (d1, good1, v1, r1) = property_printed d v false (mark (codes "}") rest) good in
        (g.last_property d1 refl, good1, v1.1, λ q. r1 (sign.right_brace, q))
    properties_printed (g.next_property {comma = comma} {xs = xs} {us = us} {vs = vs} d m ds) v = property_then (comma ∷ us) vs xs (property_printed d v) (λ v1. properties_printed ds v1.1)

    property_printed : {ts : List Token5} {x : Property5} {us : List Token5} → IsProperty Aside ts x us → AreKnown ts → PropertyP (property_shown x) x us
    property_printed (g.plain span k value e sp dk m dx) v = at_property _ e (s.property_shown-Plain span k value) (λ line rest good.
        let (kk, v1) = known_key dk v in
        let (d2, good2, v2, r2) = expr_printed dx v1.1 false g.level_assignment false rest good in
        (g.plain span k value e tt (key_printed line k (mark (codes ":") (in_place (shown value) false g.level_assignment rest))) refl d2, good2, v2, λ q. (kk, (sign.colon, r2 q))))
    property_printed (g.getter span k f e sp w dk da) v = at_property _ e (s.property_shown-Getter span k f) (λ line rest good.
        let (kk, v1) = known_key dk v.1 in
        let (d2, good2, v2, r2) = accessor_printed da v1 rest good in
        (g.getter span k f e tt refl (key_printed false k ((function_shown f).after rest)) d2, good2, v2, λ q. (refl, (kk, r2 q))))
    property_printed (g.setter span k f e sp w dk da) v = at_property _ e (s.property_shown-Setter span k f) (λ line rest good.
        let (kk, v1) = known_key dk v.1 in
        let (d2, good2, v2, r2) = accessor_printed da v1 rest good in
        (g.setter span k f e tt refl (key_printed false k ((function_shown f).after rest)) d2, good2, v2, λ q. (refl, (kk, r2 q))))

    accessor_printed : {setter : Bool} {ts : List Token5} {x : Function5} {us : List Token5} → IsAccessor Aside setter ts x us → AreKnown ts → AccessorP setter (function_shown x) x us
    accessor_printed (g.no_value span body e sp mo mc mb d) v = at_accessor _ e (s.function_shown-roll span None [] body) (λ rest good.
        let (d1, good1, v1, r1) = stats_printed d v.1.1.1 rest good in
        (g.no_value span body e tt refl refl refl d1, good1, v1, λ q. (sign.left_paren, (sign.right_paren, (sign.left_brace, r1 q)))))
    accessor_printed (g.one_value span p body e sp mo di mc mb d) v = at_accessor _ e (s.function_shown-roll span None (p ∷ []) body) (λ rest good.
        let (k, v0) = known_identifier di v.1 in
        let (d1, good1, v1, r1) = stats_printed d v0.1.1 rest good in
        (g.one_value span p body e tt refl (identifier_printed false p (mark (codes ")") (body_of (map stat_shown body) rest)) di.free) refl refl d1, good1, v1, λ q. (sign.left_paren, (k, (sign.right_paren, (sign.left_brace, r1 q))))))

    links_printed : {calls : Bool} {ts : List Token5} {xs : List Link5} {us : List Token5} → AreLinks Aside calls ts xs us → AreKnown ts → LinksP (map link_shown xs) xs us
    links_printed g.no_link v = λ rest good. (g.no_link, good, v, λ q. q)
    links_printed (g.member_link {t = t} {links = links} span name e sp md w ds) v = at_link _ links e (s.link_shown-Member span name) (λ rest good.
        let (d1, good1, v1, r1) = links_printed ds v.1.1 rest good in
        (g.member_link span name e tt refl refl d1, good1, v1, λ q. (sign.point, (known_word t name w v.1.0, r1 q))))
    links_printed (g.index_link {links = links} span index e sp mo dx mc ds) v = at_link _ links e (s.link_shown-Index span index) (λ rest good.
        let (d1, good1, v1, r1) = expr_printed dx v.1 false g.level_sequence false _ good in
        let (d2, good2, v2, r2) = links_printed ds v1.1 rest good1 in
        (g.index_link span index e tt refl d1 refl d2, good2, v2, λ q. (sign.left_bracket, r1 (sign.right_bracket, r2 q))))
    links_printed (g.call_link {links = links} span arguments site e sp mo da ds) v = at_link _ links e (s.link_shown-Call span arguments site) (λ rest good.
        let (d1, good1, v1, r1) = arguments_printed da v.1 (links_of (map link_shown links) rest) good in
        let (d2, good2, v2, r2) = links_printed ds v1 rest good1 in
        (g.call_link span arguments site e tt refl d1 d2, good2, v2, λ q. (sign.left_paren, r1 (r2 q))))

    arguments_printed : {ts : List Token5} {xs : List Expr5} {us : List Token5} → AreArguments Aside ts xs us → AreKnown ts → ArgumentsP (map shown xs) xs us
    arguments_printed (g.no_argument m) v = λ rest good. (g.no_argument refl, good, v.1, λ q. (sign.right_paren, q))
    arguments_printed (g.last_argument d m) v = λ rest good.
        let (d1, good1, v1, r1) = expr_printed d v false g.level_assignment false (mark (codes ")") rest) good in
        (g.last_argument d1 refl, good1, v1.1, λ q. r1 (sign.right_paren, q))
    arguments_printed (g.next_argument d m ds) v = λ rest good.
        let (d1, good1, v1, r1) = expr_printed d v false g.level_assignment false _ good in
        let (d2, good2, v2, r2) = arguments_printed ds v1.1 rest good1 in
        (g.next_argument d1 refl d2, good2, v2, λ q. r1 (sign.comma, r2 q))

    operands_printed : {no_in : Bool} {level : ℕ} {ts : List Token5} {xs : List Operand5} {us : List Token5} → AreOperands Aside no_in level ts xs us → AreKnown ts → OperandsP level (map operand_shown xs) xs us
    operands_printed g.no_operand v = λ no_in h rest good. (g.no_operand, good, v, λ q. q)
    operands_printed (g.next_operand {level = level} {rest = operands} operator value e bl ni k dx ds) v = at_operand _ operands e (s.operand_shown-roll operator value) (λ no_in h rest good.
        let h1 = and_first no_in (is_in operator) (any_in (map operand_shown operands)) h in
        let (d1, good1, v1, r1) = expr_printed dx v.1 no_in (level + 1) false _ good in
        let (d2, good2, v2, r2) = operands_printed ds v1 no_in (and_false no_in (is_in operator) h1 (any_in (map operand_shown operands)) h) rest good1 in
        (g.next_operand operator value e bl h1 refl d1 d2, good2, v2, λ q. (binary_spelled operator, r1 (r2 q))))

    parts_printed : {no_in : Bool} {ts : List Token5} {xs : List Expr5} {us : List Token5} → AreParts Aside no_in ts xs us → AreKnown ts → PartsP (map shown xs) xs us
    parts_printed g.no_part v = λ no_in rest good. (g.no_part, good, v, λ q. q)
    parts_printed (g.next_part m d ds) v = λ no_in rest good.
        let (d1, good1, v1, r1) = expr_printed d v.1 no_in g.level_assignment false _ good in
        let (d2, good2, v2, r2) = parts_printed ds v1 no_in rest good1 in
        (g.next_part refl d1 d2, good2, v2, λ q. (sign.comma, r1 (r2 q)))

    function_printed : {ts : List Token5} {x : Function5} {us : List Token5} → IsFunction Aside ts x us → AreKnown ts → FunctionP (function_shown x) x us
    function_printed (g.anonymous span parameters body e sp w mo dp mb d) v = at_function _ e (s.function_shown-roll span None parameters body) (λ line rest good.
        let (d1, good1, v1, r1) = parameters_printed dp v.1.1 (body_of (map stat_shown body) rest) good in
        let (d2, good2, v2, r2) = stats_printed d v1.1 rest good1 in
        (g.anonymous span parameters body e tt refl refl d1 refl d2, good2, v2, λ q. (refl, (sign.left_paren, r1 (sign.left_brace, r2 q)))))
    function_printed (g.named span name parameters body e sp w di mo dp mb d) v = at_function _ e (s.function_shown-roll span (Some name) parameters body) (λ line rest good.
        let (k, v0) = known_identifier di v.1 in
        let (d1, good1, v1, r1) = parameters_printed dp v0.1 (body_of (map stat_shown body) rest) good in
        let (d2, good2, v2, r2) = stats_printed d v1.1 rest good1 in
        (g.named span name parameters body e tt refl (identifier_printed false name (parenthesized_parameters parameters (body_of (map stat_shown body) rest)) di.free) refl d1 refl d2, good2, v2, λ q. (refl, (k, (sign.left_paren, r1 (sign.left_brace, r2 q))))))

    stats_printed : {inside top : Bool} {ts : List Token5} {xs : List Stat5} {us : List Token5} → AreStats Aside inside top ts xs us → AreKnown ts → StatsP inside top xs us
    stats_printed (g.no_stat m) v = λ rest good. (g.no_stat refl, good, v.1, λ q. (sign.right_brace, q))
    stats_printed (g.next_stat {s = x} {ss = ss} d ds) v = λ rest good.
        let (d1, good1, v1, r1) = stat_printed d v true _ (λ h0. stats_no_else ds rest) good in
        let (d2, good2, v2, r2) = stats_printed ds v1 rest good1 in
        (g.next_stat d1 d2, good2, v2, λ q. after_line (stat_shown x (all (map stat_shown ss) (mark (codes "}") rest))) (r1 (r2 q)))

    pub stat_printed : {inside top : Bool} {ts : List Token5} {x : Stat5} {us : List Token5} → IsStat Aside inside top ts x us → AreKnown ts → StatP inside top (stat_shown x) x us
    stat_printed (g.block b e d) v = at_stat _ e (s.stat_shown-Block b) (λ line rest keeps good.
        let (d1, good1, v1, r1) = block_printed d v (LineEnd ∷ rest) line good in
        (g.block b e d1, good1, v1, λ q. r1 q))
    stat_printed (g.var span declared e sp w d en) v = at_stat _ e (s.stat_shown-Var span declared) (λ line rest keeps good.
        let (d1, good1, v1, r1) = declared_list_printed d v.1 (end_of rest) good in
        (g.var span declared e tt refl d1 refl, good1, v1.1, λ q. (refl, r1 (sign.semicolon, q))))
    stat_printed (g.empty span e sp m) v = at_stat _ e (s.stat_shown-Empty span) (λ line rest keeps good. (g.empty span e tt refl, good, v.1, λ q. (sign.semicolon, q)))
    stat_printed (g.expression {end = end} {us = us} span x e sp nb nf d en) v = at_stat _ e (s.stat_shown-Expression span x) (λ line rest keeps good.
        let (d1, good1, v1, r1) = grouped_printed (shown x) (end ∷ us) (opens (whole (shown x) (end_of rest))) (expr_printed d v) line (end_of rest) good in
        let (nb1, nf1) = grouped_opens (shown x) line (end_of rest) (opens (whole (shown x) (end_of rest))) refl in
        (g.expression span x e tt nb1 nf1 d1 refl, good1, v1.1, λ q. r1 (sign.semicolon, q)))
    stat_printed (g.if span first more otherwise e sp d) v = at_stat _ e (s.stat_shown-If span first more otherwise) (λ line rest keeps good.
        let (d1, good1, v1, r1) = if_printed d v line rest keeps good in
        (g.if span first more otherwise e tt d1, good1, v1, r1))
    stat_printed (g.do_while span body test e sp w ds ww mo dx mc en) v = at_stat _ e (s.stat_shown-DoWhile span body test) (λ line rest keeps good.
        let (d1, good1, v1, r1) = stat_printed ds v.1 false _ (λ h0. refl) good in
        let (d2, good2, v2, r2) = expr_printed dx v1.1.1 false g.level_sequence false _ good1 in
        (g.do_while span body test e tt refl d1 refl refl d2 refl refl, good2, v2.1.1, λ q. (refl, r1 (refl, (sign.left_paren, r2 (sign.right_paren, (sign.semicolon, q)))))))
    stat_printed (g.while span test body e sp w mo dx mc ds) v = at_stat _ e (s.stat_shown-While span test body) (λ line rest keeps good.
        let (d1, good1, v1, r1) = expr_printed dx v.1.1 false g.level_sequence false _ good in
        let (d2, good2, v2, r2) = stat_printed ds v1.1 false rest keeps good1 in
        (g.while span test body e tt refl refl d1 refl d2, good2, v2, λ q. (refl, (sign.left_paren, r1 (sign.right_paren, r2 q)))))
    stat_printed (g.for span first test update body e sp w mo df dt m dc ds) v = at_stat _ e (s.stat_shown-For span first test update body) (λ line rest keeps good.
        let (d1, good1, v1, r1) = for_first_printed df v.1.1 _ good in
        let (d2, good2, v2, r2) = optional_printed dt v1 _ good1 in
        let (d3, good3, v3, r3) = closed_printed dc v2.1 _ good2 in
        let (d4, good4, v4, r4) = stat_printed ds v3 false rest keeps good3 in
        (g.for span first test update body e tt refl refl d1 d2 refl d3 d4, good4, v4, λ q. (refl, (sign.left_paren, r1 (r2 (sign.semicolon, r3 (r4 q)))))))
    stat_printed (g.continue span label e sp w d en) v = at_stat _ e (s.stat_shown-Continue span label) (λ line rest keeps good.
        let (d1, v1, r1) = label_printed d v.1 (end_of rest) in
        (g.continue span label e tt refl d1 refl, label_good label (end_of rest) good, v1.1, λ q. (refl, r1 (sign.semicolon, q))))
    stat_printed (g.break span label e sp w d en) v = at_stat _ e (s.stat_shown-Break span label) (λ line rest keeps good.
        let (d1, v1, r1) = label_printed d v.1 (end_of rest) in
        (g.break span label e tt refl d1 refl, label_good label (end_of rest) good, v1.1, λ q. (refl, r1 (sign.semicolon, q))))
    stat_printed (g.return span value e sp w d en) v = at_stat _ e (s.stat_shown-Return span value) (λ line rest keeps good.
        let (d1, good1, v1, r1) = returned_printed d v.1 (end_of rest) good in
        (g.return span value e tt refl d1 refl, good1, v1.1, λ q. (refl, r1 (sign.semicolon, q))))
    stat_printed (g.switch span subject cases e sp w mo dx mc mb dc) v = at_stat _ e (s.stat_shown-Switch span subject cases) (λ line rest keeps good.
        let (d1, good1, v1, r1) = expr_printed dx v.1.1 false g.level_sequence false _ good in
        let (d2, good2, v2, r2) = cases_printed dc v1.1.1 (LineEnd ∷ rest) good1 in
        (g.switch span subject cases e tt refl refl d1 refl refl d2, good2, v2, λ q. (refl, (sign.left_paren, r1 (sign.right_paren, (sign.left_brace, r2 q))))))
    stat_printed (g.labelled span label body e sp di m ds) v = at_stat _ e (s.stat_shown-Labelled span label body) (λ line rest keeps good.
        let (k, v0) = known_identifier di v in
        let (d1, good1, v1, r1) = stat_printed ds v0.1 false rest keeps good in
        (g.labelled span label body e tt (identifier_printed line label (mark (codes ":") (stat_shown body rest)) di.free) refl d1, good1, v1, λ q. (k, (sign.colon, r1 q))))
    stat_printed (g.throw {end = end} {us = us} span value e sp w l d en) v = at_stat _ e (s.stat_shown-Throw span value) (λ line rest keeps good.
        let b = begins_call (whole (shown value) (end_of rest)) in
        let (d1, good1, v1, r1) = grouped_printed (shown value) (end ∷ us) b (expr_printed d v.1) false (end_of rest) good in
        (g.throw span value e tt refl (grouped_on_line (shown value) (end_of rest) b refl) d1 refl, good1, v1.1, λ q. (refl, r1 (sign.semicolon, q))))
    stat_printed (g.try_catch span b handler e sp w db dh) v = at_stat _ e (s.stat_shown-Try span b (Some handler) None) (λ line rest keeps good.
        let (d1, good1, v1, r1) = block_printed db v.1 _ false good in
        let (d2, good2, v2, r2) = catch_printed dh v1 (LineEnd ∷ rest) good1 in
        (g.try_catch span b handler e tt refl d1 d2, good2, v2, λ q. (refl, r1 (r2 q))))
    stat_printed (g.try_finally span b last e sp w db wf dl) v = at_stat _ e (s.stat_shown-Try span b None (Some last)) (λ line rest keeps good.
        let (d1, good1, v1, r1) = block_printed db v.1 _ false good in
        let (d2, good2, v2, r2) = block_printed dl v1.1 (LineEnd ∷ rest) false good1 in
        (g.try_finally span b last e tt refl d1 refl d2, good2, v2, λ q. (refl, r1 (refl, r2 q))))
    stat_printed (g.try_both span b last handler e sp w db dh wf dl) v = at_stat _ e (s.stat_shown-Try span b (Some handler) (Some last)) (λ line rest keeps good.
        let (d1, good1, v1, r1) = block_printed db v.1 _ false good in
        let (d2, good2, v2, r2) = catch_printed dh v1 _ good1 in
        let (d3, good3, v3, r3) = block_printed dl v2.1 (LineEnd ∷ rest) false good2 in
        (g.try_both span b last handler e tt refl d1 d2 refl d3, good3, v3, λ q. (refl, r1 (r2 (refl, r3 q)))))
    stat_printed (g.debugger span e sp w en) v = at_stat _ e (s.stat_shown-Debugger span) (λ line rest keeps good. (g.debugger span e tt refl refl, good, v.1.1, λ q. (refl, (sign.semicolon, q))))
    stat_printed (g.declaration span name parameters body e d) v = at_stat _ e (s.stat_shown-FunctionDeclaration (roll-Function5 (record { span = span; name = Some name; parameters = parameters; body = body }))) (λ line rest keeps good.
        let (d1, good1, v1, r1) = function_printed d v line (LineEnd ∷ rest) good in
        (g.declaration span name parameters body e d1, good1, v1, r1))

    block_printed : {inside : Bool} {ts : List Token5} {x : Block5} {us : List Token5} → IsBlock Aside inside ts x us → AreKnown ts → BlockP inside (block_shown x) x us
    block_printed (g.braces span body e sp m d) v = at_block _ e (s.block_shown-roll span body) (λ rest line good.
        let (d1, good1, v1, r1) = stats_printed d v.1 rest good in
        (g.braces span body e tt refl d1, good1, v1, λ q. (sign.left_brace, r1 q)))

    declared_list_printed : {no_in : Bool} {ts : List Token5} {xs : List Declared5} {us : List Token5} → AreDeclared Aside no_in ts xs us → AreKnown ts → DeclaredListP no_in xs us
    declared_list_printed (g.last_declared d) v = λ rest good.
        let (d1, good1, v1, r1) = declared_printed d v rest good in
        (g.last_declared d1, good1, v1, r1)
    declared_list_printed (g.next_declared d m ds) v = λ rest good.
        let (d1, good1, v1, r1) = declared_printed d v _ good in
        let (d2, good2, v2, r2) = declared_list_printed ds v1.1 rest good1 in
        (g.next_declared d1 refl d2, good2, v2, λ q. r1 (sign.comma, r2 q))

    declared_printed : {no_in : Bool} {ts : List Token5} {x : Declared5} {us : List Token5} → IsDeclared Aside no_in ts x us → AreKnown ts → DeclaredP no_in (declared_shown x) x us
    declared_printed (g.uninitialized span name e sp di) v = at_declared _ e (s.declared_shown-roll span name None) (λ rest good.
        let (k, v1) = known_identifier di v in
        (g.uninitialized span name e tt (identifier_printed false name rest di.free), good, v1, λ q. (k, q)))
    declared_printed (g.initialized {no_in = no_in} span name init e sp di m d) v = at_declared _ e (s.declared_shown-roll span name (Some init)) (λ rest good.
        let (k, v1) = known_identifier di v in
        let (d2, good2, v2, r2) = expr_printed d v1.1 no_in g.level_assignment false rest good in
        (g.initialized span name init e tt (identifier_printed false name (mark (codes "=") (in_place (shown init) no_in g.level_assignment rest)) di.free) refl d2, good2, v2, λ q. (k, (sign.equals, r2 q))))

    if_printed : {inside : Bool} {ts : List Token5} {c : Condition5} {more : List Condition5} {otherwise : Option Stat5} {us : List Token5} → IsIf Aside inside ts c more otherwise us → AreKnown ts → IfP inside c more otherwise us
    if_printed (g.no_else d b) v = λ line rest keeps good.
        let (d1, good1, v1, r1) = condition_printed d v line rest keeps good in
        (g.no_else d1 (keeps b), good1, v1, r1)
    if_printed (g.last_else {e = e} {s = otherwise} {us = us} d w b ds) v = λ line rest keeps good.
        let (d1, good1, v1, r1) = condition_printed d v line (word (codes "else") (stat_shown otherwise rest)) (λ h0. absurd (else_here e us w h0)) good in
        let (d2, good2, v2, r2) = stat_printed ds v1.1 false rest keeps good1 in
        (g.last_else d1 refl ((stat_starts spots ds).no_if b false rest) d2, good2, v2, λ q. r1 (refl, r2 q))
    if_printed (g.else_if {e = e} {us = us} d w di) v = λ line rest keeps good.
        let (d1, good1, v1, r1) = condition_printed d v line (word (codes "else") _) (λ h0. absurd (else_here e us w h0)) good in
        let (d2, good2, v2, r2) = if_printed di v1.1 false rest keeps good1 in
        (g.else_if d1 refl d2, good2, v2, λ q. r1 (refl, r2 q))

    condition_printed : {inside : Bool} {ts : List Token5} {x : Condition5} {us : List Token5} → IsCondition Aside inside ts x us → AreKnown ts → ConditionP inside (condition_shown x) x us
    condition_printed (g.condition span test body e sp w mo dx mc ds) v = at_condition _ e (s.condition_shown-roll span test body) (λ line rest keeps good.
        let (d1, good1, v1, r1) = expr_printed dx v.1.1 false g.level_sequence false _ good in
        let (d2, good2, v2, r2) = stat_printed ds v1.1 false rest keeps good1 in
        (g.condition span test body e tt refl refl d1 refl d2, good2, v2, λ q. (refl, (sign.left_paren, r1 (sign.right_paren, r2 q)))))

    for_first_printed : {ts : List Token5} {x : ForFirst5} {us : List Token5} → IsForFirst Aside ts x us → AreKnown ts → ForFirstP (for_first_shown x) x us
    for_first_printed (g.nothing_first m) v = at_for_first _ refl s.for_first_shown-NoFirst (λ rest good. (g.nothing_first refl, good, v.1, λ q. (sign.semicolon, q)))
    for_first_printed (g.var_first declared e w d m) v = at_for_first _ e (s.for_first_shown-FirstVar declared) (λ rest good.
        let (d1, good1, v1, r1) = declared_list_printed d v.1 (mark (codes ";") rest) good in
        (g.var_first declared e refl d1 refl, good1, v1.1, λ q. (refl, r1 (sign.semicolon, q))))
    for_first_printed (g.expression_first x e d m) v = at_for_first _ e (s.for_first_shown-FirstExpression x) (λ rest good.
        let (d1, good1, v1, r1) = expr_printed d v true g.level_sequence false (mark (codes ";") rest) good in
        (g.expression_first x e d1 refl, good1, v1.1, λ q. r1 (sign.semicolon, q)))

    optional_printed : {ts : List Token5} {x : Option Expr5} {us : List Token5} → IsOptional Aside ts x us → AreKnown ts → OptionalP x us
    optional_printed g.absent v = λ rest good. (g.absent, good, v, λ q. q)
    optional_printed (g.present d) v = λ rest good.
        let (d1, good1, v1, r1) = expr_printed d v false g.level_sequence false rest good in
        (g.present d1, good1, v1, r1)

    closed_printed : {ts : List Token5} {x : Option Expr5} {us : List Token5} → IsClosed Aside ts x us → AreKnown ts → ClosedP x us
    closed_printed (g.closed d m) v = λ rest good.
        let (d1, good1, v1, r1) = optional_printed d v (mark (codes ")") rest) good in
        (g.closed d1 refl, good1, v1.1, λ q. r1 (sign.right_paren, q))

    returned_printed : {ts : List Token5} {x : Option Expr5} {us : List Token5} → IsReturned Aside ts x us → AreKnown ts → ReturnedP x us
    returned_printed g.no_value_returned v = λ rest good. (g.no_value_returned, good, v, λ q. q)
    returned_printed (g.value_returned {x = x} {us = us} l d) v = λ rest good.
        let b = begins_call (whole (shown x) rest) in
        let (d1, good1, v1, r1) = grouped_printed (shown x) us b (expr_printed d v) false rest good in
        (g.value_returned (grouped_on_line (shown x) rest b refl) d1, good1, v1, r1)

    cases_printed : {inside may : Bool} {ts : List Token5} {xs : List Case5} {us : List Token5} → AreCases Aside inside may ts xs us → AreKnown ts → CasesP inside may xs us
    cases_printed (g.no_case m) v = λ rest good. (g.no_case refl, good, v.1, λ q. (sign.right_brace, q))
    cases_printed (g.case_clause {cs = cs} span test body e sp w dx m db ds) v = at_case _ cs e (s.case_shown-roll span (Some test) body) (λ rest good.
        let (d1, good1, v1, r1) = expr_printed dx v.1 false g.level_sequence false _ good in
        let (d2, good2, v2, r2) = in_case_printed db v1.1 _ (cases_no_else ds rest) good1 in
        let (d3, good3, v3, r3) = cases_printed ds v2 rest good2 in
        (g.case_clause span test body e tt refl d1 refl d2 d3, good3, v3, λ q. (refl, r1 (sign.colon, r2 (r3 q)))))
    cases_printed (g.default_clause {cs = cs} span body e sp w m db ds) v = at_case _ cs e (s.case_shown-roll span None body) (λ rest good.
        let (d2, good2, v2, r2) = in_case_printed db v.1.1 _ (cases_no_else ds rest) good in
        let (d3, good3, v3, r3) = cases_printed ds v2 rest good2 in
        (g.default_clause span body e tt refl refl d2 d3, good3, v3, λ q. (refl, (sign.colon, r2 (r3 q)))))

    in_case_printed : {inside : Bool} {ts : List Token5} {xs : List Stat5} {us : List Token5} → AreInCase Aside inside ts xs us → AreKnown ts → InCaseP inside xs us
    in_case_printed g.no_more_in_case v = λ rest none good. (g.no_more_in_case, good, v, λ q. q)
    in_case_printed (g.next_in_case {s = x} {ss = ss} d ds) v = λ rest none good.
        let (d1, good1, v1, r1) = stat_printed d v true _ (λ h0. in_case_no_else ds rest none) good in
        let (d2, good2, v2, r2) = in_case_printed ds v1 rest none good1 in
        (g.next_in_case d1 d2, good2, v2, λ q. after_line (stat_shown x (all (map stat_shown ss) rest)) (r1 (r2 q)))

    catch_printed : {inside : Bool} {ts : List Token5} {x : Catch5} {us : List Token5} → IsCatch Aside inside ts x us → AreKnown ts → CatchP inside (catch_shown x) x us
    catch_printed (g.handler span parameter body e sp w mo di mc db) v = at_catch _ e (s.catch_shown-roll span parameter body) (λ rest good.
        let (k, v0) = known_identifier di v.1.1 in
        let (d1, good1, v1, r1) = block_printed db v0.1 rest false good in
        (g.handler span parameter body e tt refl refl (identifier_printed false parameter (mark (codes ")") (block_shown body rest)) di.free) refl d1, good1, v1, λ q. (refl, (sign.left_paren, (k, (sign.right_paren, r1 q))))))

  program_no_else : {ts : List Token5} {xs : List Stat5} → IsProgram Aside ts xs → begins_else (toks true (all (map stat_shown xs) [])) ≡ false
  program_no_else g.no_more = refl
  program_no_else (g.one_more {ss = ss} d ds) = (stat_starts spots d).no_else true (all (map stat_shown ss) [])

  -- what is written for a program's statements
  pub program_printed : {ts : List Token5} {xs : List Stat5} → IsProgram Aside ts xs → AreKnown ts → (line : Bool) → Good (all (map stat_shown xs) []) → IsProgram M (toks line (all (map stat_shown xs) [])) xs × AreSpelled true (all (map stat_shown xs) [])
  program_printed g.no_more v line good = (g.no_more, tt)
  program_printed (g.one_more {s = x} {ss = ss} d ds) v line good =
      let (d1, good1, v1, r1) = stat_printed d v line _ (λ h0. program_no_else ds) good in
      let (d2, r2) = program_printed ds v1 true good1 in
      (g.one_more d1 d2, after_line (stat_shown x (all (map stat_shown ss) [])) (r1 r2))
