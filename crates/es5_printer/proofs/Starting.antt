-- With what the tokens of a node begin: never with `else`, and with `if` only where the node's own text does.
use Rattle.std.proofs.Common.{◌≡◌, ℕ, Bool, true, false, ◌||◌, List, [], ◌∷◌, length, map, Option, Some, None, refl, sym, ap, subst, ◌∙◌}
use Rattle.std.specs.Prelude.{codes}
use Rattle.std.proofs.lemmas.Bool.{false≢true}
use Rattle.es_outside.specs.declared.events.Site.{Site}
use Rattle.es5_ast.specs.declared.operators.UnaryOperator5.{UnaryOperator5}
use Rattle.es5_ast.specs.declared.operators.UnaryOperator5.TheVariants.{Delete, Void, Typeof, Plus, Minus, BitNot, Not}
use Rattle.es5_ast.specs.declared.operators.UpdateOperator5.{UpdateOperator5}
use Rattle.es5_ast.specs.declared.operators.UpdateOperator5.TheVariants.{IncrementBefore, DecrementBefore, IncrementAfter, DecrementAfter}
use Rattle.es5_ast.specs.declared.operators.Literal5.{Literal5}
use Rattle.es5_ast.specs.declared.operators.Literal5.TheVariants as literals
use Rattle.es5_ast.specs.declared.tree.Identifier5.{Identifier5}
use Rattle.es5_ast.specs.declared.tree.Stat5.{Stat5}
use Rattle.es5_ast.specs.declared.tree.Block5.{Block5}
use Rattle.es5_ast.specs.declared.tree.Condition5.{Condition5}
use Rattle.es5_ast.specs.declared.tree.Function5.{roll-Function5}
use Rattle.es5_ast.specs.declared.tree.Expr5.{Expr5}
use Rattle.es5_ast.specs.Lexical.{Kind5, Word, Integer, Text, Punctuator, Token5}
use Rattle.es5_ast.specs.Grammar as g
use Rattle.es5_ast.specs.Grammar.{Mode5, Aside, is_word, begins, is_identifier, literal_kind, update_kind, unary_kind, is_before, IsIdentifier, IsExpr, IsNode, IsStat, IsBlock, IsIf, IsCondition}
use Rattle.es5_printer.specs.Pieces.{Piece, Lexeme, LineEnd, Write, Shown, ShownLink, word, mark, grouped, whole, placed, is_bare, in_place, sites_of, begins_of, links_of, update_of, end_of, opens, shown, link_shown, stat_shown, block_shown, condition_shown}
use Rattle.es5_printer.proofs.Shown as s
use Rattle.es5_printer.proofs.Tokens.{Spots, tokens, free_else, free_if}

abbrev pub begins_else : List Token5 → Bool
begins_else ts = begins (is_word (codes "else")) ts

abbrev pub begins_if : List Token5 → Bool
begins_if ts = begins (is_word (codes "if")) ts

pub record Starts (ts : List Token5) : Type 0 where
  pub no_else : begins_else ts ≡ false
  pub no_if : begins_if ts ≡ false

starts_alike : (ts us : List Token5) → ts ≡ us → Starts us → Starts ts
starts_alike ts us e h = subst Starts (sym e) h

module _ (spots : Spots) where
  -- the pieces that stand for sites alone change no token but whether it is after a line
  abbrev pub StartsAll : Write → Type 0
  StartsAll w = (line : Bool) (rest : List Piece) → Starts (tokens spots line (w rest))

  sites_starts : (ss : List Site) (w : Write) → StartsAll w → StartsAll (λ rest. sites_of ss (w rest))
  sites_starts [] w h line rest = h line rest
  sites_starts (site ∷ ss) w h line rest = sites_starts ss w h (line || (spots (length (sites_of ss (w rest)))).broken) rest

  begins_starts : (ls : List ShownLink) (w : Write) → StartsAll w → StartsAll (λ rest. begins_of ls (w rest))
  begins_starts [] w h line rest = h line rest
  begins_starts (l ∷ ls) w h line rest = sites_starts l.sites (λ r. begins_of ls (w r)) (begins_starts ls w h) line rest

  abbrev StartsNode : Shown → Type 0
  StartsNode x = (no_in line : Bool) (rest : List Piece) → Starts (tokens spots line (x.node no_in rest))

  abbrev pub StartsExpr : Shown → Type 0
  StartsExpr x = (no_in : Bool) (least : ℕ) → StartsAll (in_place x no_in least)

  placed_starts : (x : Shown) → StartsNode x → (bare no_in line : Bool) (rest : List Piece) → Starts (tokens spots line (placed bare x no_in rest))
  placed_starts x h true no_in line rest = h no_in line rest
  placed_starts x h false no_in line rest = record { no_else = refl; no_if = refl }

  expr_starts_as_node : (x : Shown) → StartsNode x → StartsExpr x
  expr_starts_as_node x h no_in least line rest = placed_starts x h (is_bare x no_in least) no_in line rest

  at : {x n : Expr5} {y : Shown} → x ≡ n → shown n ≡ y → StartsNode y → StartsNode (shown x)
  at e f h = subst StartsNode (sym (ap shown e ∙ f)) h

  -- a token of this kind
  kind_starts : (kind : Kind5) → is_word (codes "else") kind ≡ false → is_word (codes "if") kind ≡ false → (line : Bool) (rest : List Piece) → Starts (tokens spots line (Lexeme kind ∷ rest))
  kind_starts kind e i line rest = record { no_else = e; no_if = i }

  literal_starts : (value : Literal5) → StartsAll (λ rest. Lexeme (literal_kind value) ∷ rest)
  literal_starts literals.Null = kind_starts (Word (codes "null")) refl refl
  literal_starts (literals.Truth true) = kind_starts (Word (codes "true")) refl refl
  literal_starts (literals.Truth false) = kind_starts (Word (codes "false")) refl refl
  literal_starts (literals.Integer value) = kind_starts (Integer value) refl refl
  literal_starts (literals.Text units) = kind_starts (Text units) refl refl

  update_starts : (op : UpdateOperator5) → StartsAll (λ rest. Lexeme (update_kind op) ∷ rest)
  update_starts IncrementBefore = kind_starts (Punctuator (codes "++")) refl refl
  update_starts DecrementBefore = kind_starts (Punctuator (codes "--")) refl refl
  update_starts IncrementAfter = kind_starts (Punctuator (codes "++")) refl refl
  update_starts DecrementAfter = kind_starts (Punctuator (codes "--")) refl refl

  unary_starts : (op : UnaryOperator5) → StartsAll (λ rest. Lexeme (unary_kind op) ∷ rest)
  unary_starts Delete = kind_starts (Word (codes "delete")) refl refl
  unary_starts Void = kind_starts (Word (codes "void")) refl refl
  unary_starts Typeof = kind_starts (Word (codes "typeof")) refl refl
  unary_starts Plus = kind_starts (Punctuator (codes "+")) refl refl
  unary_starts Minus = kind_starts (Punctuator (codes "-")) refl refl
  unary_starts BitNot = kind_starts (Punctuator (codes "~")) refl refl
  unary_starts Not = kind_starts (Punctuator (codes "!")) refl refl

  update_of_starts : (b : Bool) (op : UpdateOperator5) (x : Shown) → StartsExpr x → StartsAll (update_of b op x)
  update_of_starts true op x h line rest = update_starts op line (in_place x false g.level_unary rest)
  update_of_starts false op x h line rest = h false g.level_left_hand_side line (Lexeme (update_kind op) ∷ rest)

  name_starts : (name : List ℕ) → is_identifier name ≡ true → StartsAll (word name)
  name_starts name free = kind_starts (Word name) (free_else name free) (free_if name free)

  mutual
    pub expr_starts : {no_in : Bool} {least : ℕ} {ts : List Token5} {x : Expr5} {us : List Token5} → IsExpr Aside no_in least ts x us → StartsExpr (shown x)
    expr_starts (g.bare level {x = x} le d) = expr_starts_as_node (shown x) (node_starts d)
    expr_starts (g.group mo d mc) = expr_starts d

    node_starts : {no_in : Bool} {level : ℕ} {ts : List Token5} {x : Expr5} {us : List Token5} → IsNode Aside no_in level ts x us → StartsNode (shown x)
    node_starts (g.this span e sp w) = at e (s.shown-This span) (λ no_in. kind_starts (Word (codes "this")) refl refl)
    node_starts (g.identifier span name e sp w free) = at e (s.shown-Name span name) (λ no_in. name_starts name free)
    node_starts (g.literal span value e sp k) = at e (s.shown-Literal span value) (λ no_in. literal_starts value)
    node_starts (g.array span elements e sp m ds) = at e (s.shown-ArrayList span elements) (λ no_in line rest. record { no_else = refl; no_if = refl })
    node_starts (g.object span properties e sp m ds) = at e (s.shown-ObjectList span properties) (λ no_in line rest. record { no_else = refl; no_if = refl })
    node_starts (g.function f e d) = at e (s.shown-Function f) (λ no_in line rest. record { no_else = refl; no_if = refl })
    node_starts (g.chain calls span head l links e sp ss dh dl) = at e (s.shown-Chain span head (l ∷ links)) (λ no_in. begins_starts (map link_shown (l ∷ links)) (λ rest. in_place (shown head) false g.level_primary (links_of (map link_shown (l ∷ links)) rest)) (λ line rest. expr_starts dh false g.level_primary line (links_of (map link_shown (l ∷ links)) rest)))
    node_starts (g.new_call span callee arguments e sp w dc m da) = at e (s.shown-New span callee arguments) (λ no_in line rest. record { no_else = refl; no_if = refl })
    node_starts (g.new_bare span callee e sp w dc) = at e (s.shown-New span callee []) (λ no_in line rest. record { no_else = refl; no_if = refl })
    node_starts (g.update_after span operator target e sp b dt k l) = at e (s.shown-Update span operator target) (λ no_in. update_of_starts (is_before operator) operator (shown target) (expr_starts dt))
    node_starts (g.update_before span operator target e sp b k dt) = at e (s.shown-Update span operator target) (λ no_in. update_of_starts (is_before operator) operator (shown target) (expr_starts dt))
    node_starts (g.unary span operator operand e sp k d) = at e (s.shown-Unary span operator operand) (λ no_in line rest. unary_starts operator line (in_place (shown operand) false g.level_unary rest))
    node_starts (g.binary_chain level span first o operands e sp df ds) = at e (s.shown-Binary span first (o ∷ operands)) (λ no_in line rest. expr_starts df no_in _ line _)
    node_starts (g.conditional span test yes_ no_ e sp dt mq dy mc dn) = at e (s.shown-Conditional span test yes_ no_) (λ no_in line rest. expr_starts dt no_in _ line _)
    node_starts (g.assignment span operator target value e sp dt k dv) = at e (s.shown-Assign span operator target value) (λ no_in line rest. expr_starts dt false _ line _)
    node_starts (g.sequence span first y parts e sp df dp) = at e (s.shown-Sequence span first (y ∷ parts)) (λ no_in line rest. expr_starts df no_in _ line _)

  -- a statement begins with `if` only if its own tokens do
  pub record StartsStat (ts : List Token5) (s : Write) : Type 0 where
    pub no_else : (line : Bool) (rest : List Piece) → begins_else (tokens spots line (s rest)) ≡ false
    pub no_if : begins_if ts ≡ false → (line : Bool) (rest : List Piece) → begins_if (tokens spots line (s rest)) ≡ false

  stat_at : {ts : List Token5} {x n : Stat5} {w : Write} → x ≡ n → stat_shown n ≡ w → StartsStat ts w → StartsStat ts (stat_shown x)
  stat_at {ts} e f h = subst (StartsStat ts) (sym (ap stat_shown e ∙ f)) h

  starts_with : {ts : List Token5} {w : Write} → StartsAll w → StartsStat ts w
  starts_with h = record { no_else = λ line rest. (h line rest).no_else; no_if = λ i line rest. (h line rest).no_if }

  grouped_starts : (b : Bool) (x : Shown) → StartsExpr x → StartsAll (grouped b (whole x))
  grouped_starts true x h line rest = record { no_else = refl; no_if = refl }
  grouped_starts false x h line rest = h false g.level_sequence line rest

  if_of : {ts us : List Token5} {c : Condition5} {mode : Mode5} {inside : Bool} → IsCondition mode inside ts c us → begins_if ts ≡ false → ⊥
  if_of (g.condition {t = t} span test body e sp w mo dx mc ds) h = false≢true (sym h ∙ ap (is_word (codes "if")) w)

  pub if_of_if : {ts us : List Token5} {c : Condition5} {more : List Condition5} {otherwise : Option Stat5} {inside : Bool} → IsIf Aside inside ts c more otherwise us → begins_if ts ≡ false → ⊥
  if_of_if (g.no_else d b) = if_of d
  if_of_if (g.last_else d w b ds) = if_of d
  if_of_if (g.else_if d w di) = if_of d

  condition_no_else : (c : Condition5) (line : Bool) (rest : List Piece) {ts us : List Token5} {inside : Bool} → IsCondition Aside inside ts c us → begins_else (tokens spots line (condition_shown c rest)) ≡ false
  condition_no_else c line rest (g.condition span test body e sp w mo dx mc ds) = subst (λ z. begins_else (tokens spots line (z rest)) ≡ false) (sym (ap condition_shown e ∙ s.condition_shown-roll span test body)) refl

  first_condition : {ts us : List Token5} {c : Condition5} {more : List Condition5} {otherwise : Option Stat5} {inside : Bool} → IsIf Aside inside ts c more otherwise us → (line : Bool) (rest : List Piece) → begins_else (tokens spots line (condition_shown c rest)) ≡ false
  first_condition (g.no_else {c = c} d b) line rest = condition_no_else c line rest d
  first_condition (g.last_else {c = c} d w b ds) line rest = condition_no_else c line rest d
  first_condition (g.else_if {c = c} d w di) line rest = condition_no_else c line rest d

  identifier_starts : {ts us : List Token5} {x : Identifier5} → IsIdentifier Aside ts x us → StartsAll (word x.name)
  identifier_starts {x = x} d = name_starts x.name d.free

  fixed : {ts : List Token5} {w : Write} → StartsAll w → StartsStat ts w
  fixed h = starts_with h

  block_starts : {inside : Bool} {ts us : List Token5} {b : Block5} → IsBlock Aside inside ts b us → (k : Write) → StartsAll (λ rest. block_shown b (k rest))
  block_starts (g.braces span body e sp m d) k line rest = subst (λ z. Starts (tokens spots line (z (k rest)))) (sym (ap block_shown e ∙ s.block_shown-roll span body)) (record { no_else = refl; no_if = refl })

  pub stat_starts : {inside top : Bool} {ts us : List Token5} {x : Stat5} → IsStat Aside inside top ts x us → StartsStat ts (stat_shown x)
  stat_starts (g.block b e d) = stat_at e (s.stat_shown-Block b) (fixed (block_starts d (λ rest. LineEnd ∷ rest)))
  stat_starts (g.var span declared e sp w d en) = stat_at e (s.stat_shown-Var span declared) (fixed (λ line rest. record { no_else = refl; no_if = refl }))
  stat_starts (g.empty span e sp m) = stat_at e (s.stat_shown-Empty span) (fixed (λ line rest. record { no_else = refl; no_if = refl }))
  stat_starts (g.expression span x e sp nb nf d en) = stat_at e (s.stat_shown-Expression span x) (fixed (λ line rest. grouped_starts (opens (whole (shown x) (end_of rest))) (shown x) (expr_starts d) line (end_of rest)))
  stat_starts (g.if span first more otherwise e sp d) = stat_at e (s.stat_shown-If span first more otherwise) (record { no_else = λ line rest. first_condition d line _; no_if = λ h. absurd (if_of_if d h) })
  stat_starts (g.do_while span body test e sp w ds ww mo dx mc en) = stat_at e (s.stat_shown-DoWhile span body test) (fixed (λ line rest. record { no_else = refl; no_if = refl }))
  stat_starts (g.while span test body e sp w mo dx mc ds) = stat_at e (s.stat_shown-While span test body) (fixed (λ line rest. record { no_else = refl; no_if = refl }))
  stat_starts (g.for span first test update body e sp w mo df dt m dc ds) = stat_at e (s.stat_shown-For span first test update body) (fixed (λ line rest. record { no_else = refl; no_if = refl }))
  stat_starts (g.continue span label e sp w d en) = stat_at e (s.stat_shown-Continue span label) (fixed (λ line rest. record { no_else = refl; no_if = refl }))
  stat_starts (g.break span label e sp w d en) = stat_at e (s.stat_shown-Break span label) (fixed (λ line rest. record { no_else = refl; no_if = refl }))
  stat_starts (g.return span value e sp w d en) = stat_at e (s.stat_shown-Return span value) (fixed (λ line rest. record { no_else = refl; no_if = refl }))
  stat_starts (g.switch span subject cases e sp w mo dx mc mb dc) = stat_at e (s.stat_shown-Switch span subject cases) (fixed (λ line rest. record { no_else = refl; no_if = refl }))
  stat_starts (g.labelled span label body e sp di m ds) = stat_at e (s.stat_shown-Labelled span label body) (fixed (λ line rest. identifier_starts di line (mark (codes ":") (stat_shown body rest))))
  stat_starts (g.throw span value e sp w l d en) = stat_at e (s.stat_shown-Throw span value) (fixed (λ line rest. record { no_else = refl; no_if = refl }))
  stat_starts (g.try_catch span b handler e sp w db dh) = stat_at e (s.stat_shown-Try span b (Some handler) None) (fixed (λ line rest. record { no_else = refl; no_if = refl }))
  stat_starts (g.try_finally span b last e sp w db wf dl) = stat_at e (s.stat_shown-Try span b None (Some last)) (fixed (λ line rest. record { no_else = refl; no_if = refl }))
  stat_starts (g.try_both span b last handler e sp w db dh wf dl) = stat_at e (s.stat_shown-Try span b (Some handler) (Some last)) (fixed (λ line rest. record { no_else = refl; no_if = refl }))
  stat_starts (g.debugger span e sp w en) = stat_at e (s.stat_shown-Debugger span) (fixed (λ line rest. record { no_else = refl; no_if = refl }))
  stat_starts (g.declaration span name parameters body e d) = stat_at e (s.stat_shown-FunctionDeclaration (roll-Function5 (record { span = span; name = Some name; parameters = parameters; body = body }))) (fixed (λ line rest. record { no_else = refl; no_if = refl }))
