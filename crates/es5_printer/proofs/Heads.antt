-- With what chains begin: at most one call with a site, and then a token.
use Rattle.std.proofs.Common.{◌≡◌, ℕ, ◌≤◌, Bool, true, false, ◌&&◌, nat_le, List, [], ◌∷◌, ◌++◌, length, map, Option, Some, None, refl, sym, ap, subst, ◌∙◌, arith}
use Rattle.std.proofs.lemmas.Bool.{false≢true}
use Rattle.es_text.specs.declared.Span.{Span}
use Rattle.es_outside.specs.declared.events.Site.{Site}
use Rattle.es5_ast.specs.declared.operators.BinaryOperator5.{BinaryOperator5}
use Rattle.es5_ast.specs.declared.operators.BinaryOperator5.TheVariants as binary
use Rattle.es5_ast.specs.declared.tree.Expr5.{Expr5}
use Rattle.es5_ast.specs.declared.tree.Link5.{Link5}
use Rattle.es5_ast.specs.declared.tree.Link5.TheVariants as link
use Rattle.es5_ast.specs.Lexical.{Token5}
use Rattle.es5_ast.specs.Grammar as g
use Rattle.es5_ast.specs.Grammar.{Aside, binary_level, is_before, link_sites, some_site, IsExpr, IsNode, AreLinks}
use Rattle.es5_printer.specs.Pieces.{Piece, Begins, Shown, ShownLink, placed, is_bare, in_place, sites_of, begins_of, has_call, update_level, shown, link_shown, operand_shown}
use Rattle.es5_printer.proofs.Shown as s
use Rattle.es5_printer.proofs.Tokens.{is_token_first, AreSpelled}

pub and_true : (a b : Bool) → a && b ≡ true → (a ≡ true) × (b ≡ true)
and_true true b e = (refl, e)
and_true false b e = (e, absurd (false≢true e))

-- the sites of the links
abbrev pub joined_sites : List ShownLink → List Site
joined_sites [] = []
joined_sites (l ∷ ls) = l.sites ++ joined_sites ls

sites_joined : (ss rr : List Site) (rest : List Piece) → sites_of (ss ++ rr) rest ≡ sites_of ss (sites_of rr rest)
sites_joined [] rr rest = refl
sites_joined (site ∷ ss) rr rest = ap (λ ps. Begins site ∷ ps) (sites_joined ss rr rest)

begins_joined : (ls : List ShownLink) (rest : List Piece) → begins_of ls rest ≡ sites_of (joined_sites ls) rest
begins_joined [] rest = refl
begins_joined (l ∷ ls) rest = ap (sites_of l.sites) (begins_joined ls rest) ∙ sym (sites_joined l.sites (joined_sites ls) rest)

-- at most one site, before a token
few_spelled : (ss : List Site) (rest : List Piece) → length ss ≤ 1 → is_token_first rest ≡ true → AreSpelled false rest → AreSpelled false (sites_of ss rest)
few_spelled [] rest few first q = q
few_spelled (site ∷ []) rest few first q = (first, q)
few_spelled (site ∷ other ∷ ss) rest few first q = absurd (omega arith)

pub begins_spelled : (ls : List ShownLink) (rest : List Piece) → length (joined_sites ls) ≤ 1 → is_token_first rest ≡ true → AreSpelled false rest → AreSpelled false (begins_of ls rest)
begins_spelled ls rest few first q = subst (AreSpelled false) (sym (begins_joined ls rest)) (few_spelled (joined_sites ls) rest few first q)

joined_call : (span : Span) (arguments : List Expr5) (site : Option Site) (links : List Link5) (ss : List Site) → link_sites links ≡ ss → link_sites (link.Call span arguments site ∷ links) ≡ some_site site ++ ss
joined_call span arguments None links ss h = rw (link.outs-Call span arguments None) h
joined_call span arguments (Some site) links ss h = rw (link.outs-Call span arguments (Some site)) (ap (λ rr. site ∷ rr) h)

pub joined_is : {calls : Bool} {ts : List Token5} {xs : List Link5} {us : List Token5} → AreLinks Aside calls ts xs us → link_sites xs ≡ joined_sites (map link_shown xs)
joined_is g.no_link = refl
joined_is (g.member_link {links = links} span name el sp md w ds) =
    subst (λ z. link_sites (z ∷ links) ≡ joined_sites (link_shown z ∷ map link_shown links)) (sym el) (subst (λ z. link_sites (link.Member span name ∷ links) ≡ joined_sites (z ∷ map link_shown links)) (sym (s.link_shown-Member span name)) (rw (link.outs-Member span name) (joined_is ds)))
joined_is (g.index_link {links = links} span index el sp mo dx mc ds) =
    subst (λ z. link_sites (z ∷ links) ≡ joined_sites (link_shown z ∷ map link_shown links)) (sym el) (subst (λ z. link_sites (link.Index span index ∷ links) ≡ joined_sites (z ∷ map link_shown links)) (sym (s.link_shown-Index span index)) (rw (link.outs-Index span index) (joined_is ds)))
joined_is (g.call_link {links = links} span arguments site el sp mo da ds) =
    subst (λ z. link_sites (z ∷ links) ≡ joined_sites (link_shown z ∷ map link_shown links)) (sym el) (subst (λ z. link_sites (link.Call span arguments site ∷ links) ≡ joined_sites (z ∷ map link_shown links)) (sym (s.link_shown-Call span arguments site)) (joined_call span arguments site links (joined_sites (map link_shown links)) (joined_is ds)))

-- what a chain may begin with without parentheses begins with a token
abbrev TokenFirst : Shown → Type 0
TokenFirst w = (no_in : Bool) (rest : List Piece) → nat_le g.level_primary w.level ≡ true → is_token_first (w.node no_in rest) ≡ true

at_first : {x n : Expr5} {w : Shown} → x ≡ n → shown n ≡ w → TokenFirst w → TokenFirst (shown x)
at_first e f p = subst TokenFirst (sym (ap shown e ∙ f)) p

low : {A : Type 0} → false ≡ true → A
low e = absurd (false≢true e)

chain_low : (b : Bool) → nat_le g.level_primary (g.chain_level b) ≡ false
chain_low true = refl
chain_low false = refl

update_low : (b : Bool) → nat_le g.level_primary (update_level b) ≡ false
update_low true = refl
update_low false = refl

binary_low : (op : BinaryOperator5) → nat_le g.level_primary (binary_level op) ≡ false
binary_low binary.Or = refl
binary_low binary.And = refl
binary_low binary.BitOr = refl
binary_low binary.BitXor = refl
binary_low binary.BitAnd = refl
binary_low binary.Equal = refl
binary_low binary.NotEqual = refl
binary_low binary.Same = refl
binary_low binary.NotSame = refl
binary_low binary.Less = refl
binary_low binary.Greater = refl
binary_low binary.AtMost = refl
binary_low binary.AtLeast = refl
binary_low binary.InstanceOf = refl
binary_low binary.In = refl
binary_low binary.ShiftLeft = refl
binary_low binary.ShiftRight = refl
binary_low binary.ShiftRightUnsigned = refl
binary_low binary.Add = refl
binary_low binary.Subtract = refl
binary_low binary.Multiply = refl
binary_low binary.Divide = refl
binary_low binary.Remainder = refl

node_first : {no_in : Bool} {level : ℕ} {ts : List Token5} {x : Expr5} {us : List Token5} → IsNode Aside no_in level ts x us → TokenFirst (shown x)
node_first (g.this span e sp w) = at_first e (s.shown-This span) (λ no_in rest h. refl)
node_first (g.identifier span name e sp w free) = at_first e (s.shown-Name span name) (λ no_in rest h. refl)
node_first (g.literal span value e sp k) = at_first e (s.shown-Literal span value) (λ no_in rest h. refl)
node_first (g.array span elements e sp m ds) = at_first e (s.shown-ArrayList span elements) (λ no_in rest h. refl)
node_first (g.object span properties e sp m ds) = at_first e (s.shown-ObjectList span properties) (λ no_in rest h. refl)
node_first (g.function f e d) = at_first e (s.shown-Function f) (λ no_in rest h. refl)
node_first (g.chain calls span head l links e sp ss dh dl) = at_first e (s.shown-Chain span head (l ∷ links)) (λ no_in rest h. low (sym (chain_low (has_call (map link_shown (l ∷ links)))) ∙ h))
node_first (g.new_call span callee arguments e sp w dc m da) = at_first e (s.shown-New span callee arguments) (λ no_in rest h. refl)
node_first (g.new_bare span callee e sp w dc) = at_first e (s.shown-New span callee []) (λ no_in rest h. refl)
node_first (g.update_after span operator target e sp b dt k l) = at_first e (s.shown-Update span operator target) (λ no_in rest h. low (sym (update_low (is_before operator)) ∙ h))
node_first (g.update_before span operator target e sp b k dt) = at_first e (s.shown-Update span operator target) (λ no_in rest h. low (sym (update_low (is_before operator)) ∙ h))
node_first (g.unary span operator operand e sp k d) = at_first e (s.shown-Unary span operator operand) (λ no_in rest h. low h)
node_first (g.binary_chain level span first o operands e sp df ds) = at_first e (s.shown-Binary span first (o ∷ operands)) (λ no_in rest h. low (sym (binary_low (operand_shown o).operator) ∙ h))
node_first (g.conditional span test yes_ no_ e sp dt mq dy mc dn) = at_first e (s.shown-Conditional span test yes_ no_) (λ no_in rest h. low h)
node_first (g.assignment span operator target value e sp dt k dv) = at_first e (s.shown-Assign span operator target value) (λ no_in rest h. low h)
node_first (g.sequence span first y parts e sp df dp) = at_first e (s.shown-Sequence span first (y ∷ parts)) (λ no_in rest h. low h)

placed_first : (w : Shown) → TokenFirst w → (rest : List Piece) (b : Bool) → is_bare w false g.level_primary ≡ b → is_token_first (placed b w false rest) ≡ true
placed_first w p rest true e = p false rest (and_true (nat_le g.level_primary w.level) true e).0
placed_first w p rest false e = refl

pub head_first : {no_in : Bool} {least : ℕ} {ts : List Token5} {x : Expr5} {us : List Token5} → IsExpr Aside no_in least ts x us → (rest : List Piece) → is_token_first (in_place (shown x) false g.level_primary rest) ≡ true
head_first (g.bare level {x = x} le d) rest = placed_first (shown x) (node_first d) rest (is_bare (shown x) false g.level_primary) refl
head_first (g.group mo d mc) rest = head_first d rest
