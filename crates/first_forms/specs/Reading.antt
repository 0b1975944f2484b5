-- What the reader does with a token. Nobody has to believe this: the contract of `read_module` is over the spelling alone.
use Rattle.std.specs.Prelude.{◌≡◌, ℕ, Bool, true, false, ◌&&◌, not, List, [], ◌∷◌, ◌++◌, Option, Some, None, if◌then◌else◌, nat_le, nat_lt, length, fold, codes}
use Rattle.std.specs.Option.{option_and_then}
use Rattle.std.specs.List.{list_all}
use Rattle.std.specs.Str.{bytes_eq}
use Rattle.first_trees.specs.declared.Module.{Module}
use Rattle.first_trees.specs.declared.Item.{Item}
use Rattle.first_trees.specs.declared.Item.TheVariants as item
use Rattle.first_trees.specs.declared.DeclarationKind.{DeclarationKind}
use Rattle.first_trees.specs.declared.DeclarationKind.TheVariants.{Let, Const}
use Rattle.first_trees.specs.declared.Expression.{Expression}
use Rattle.first_trees.specs.declared.Expression.TheVariants as expression
use Rattle.first_trees.specs.declared.Sum.{Sum}
use Rattle.first_trees.specs.declared.Term.{Term}
use Rattle.first_trees.specs.declared.Term.TheVariants as term
use Rattle.first_forms.specs.Names.{is_one_of, is_identifier_name, unbindable_names}
use Rattle.first_forms.specs.WellFormed.{is_text_unit, max_integer}
use Rattle.first_forms.specs.declared.token.Token.{Token}
use Rattle.first_forms.specs.declared.token.TokenKind.{TokenKind}
use Rattle.first_forms.specs.declared.token.TokenKind.TheVariants as kind
use Rattle.first_forms.specs.declared.reader.Reader.{Reader}
use Rattle.first_forms.specs.declared.reader.Binding.{Binding}
use Rattle.first_forms.specs.declared.reader.CallOwner.{CallOwner}
use Rattle.first_forms.specs.declared.reader.CallOwner.TheVariants as call_owner
use Rattle.first_forms.specs.declared.reader.OpenCall.{OpenCall}
use Rattle.first_forms.specs.declared.reader.SumOwner.{SumOwner}
use Rattle.first_forms.specs.declared.reader.SumOwner.TheVariants as sum_owner
use Rattle.first_forms.specs.declared.reader.OpenSum.{OpenSum}
use Rattle.first_forms.specs.declared.reader.State.{State}
use Rattle.first_forms.specs.declared.reader.State.TheVariants as state
use Rattle.first_forms.specs.declared.reader.ReadFault.{ReadFault}
use Rattle.first_forms.specs.declared.reader.ReadFault.TheVariants as fault

abbrev pub is_bindable : List ℕ → Bool
is_bindable name = is_identifier_name name && not (is_one_of name unbindable_names)

-- the names with this one at the end, unless it is among them
abbrev pub with_name : List (List ℕ) → List ℕ → List (List ℕ)
with_name names name = if is_one_of name names then names else names ++ name ∷ []

abbrev pub with_host : List (List ℕ) → List ℕ → List (List ℕ)
with_host names host = if is_bindable host then with_name names host else names

unfoldable pub importable : List (List ℕ) → List (List ℕ)
importable hosts = fold with_host [] hosts

-- the reader and the state after a token, or nothing where no module allows it
abbrev pub Outcome : Type 0
Outcome = Option (Reader × State)

abbrev pub after : Reader → Option State → Outcome
after r None = None
after r (Some s) = Some (r, s)

-- ## Terms and sums

unfoldable pub term_at : List (List ℕ) → ℕ → TokenKind → Option Term
term_at declared place (kind.Integer value) = if nat_le value max_integer then Some (term.Integer place value) else None
term_at declared place (kind.Text units) = if list_all is_text_unit units then Some (term.Text place units) else None
term_at declared place (kind.Name name) = if is_one_of name declared then Some (term.Name place name) else None
term_at declared place k = None

abbrev pub term_of : Reader → Token → Option Term
term_of r t = term_at r.declared t.at t.kind

abbrev pub first_term : SumOwner → ℕ → Option Term → Option State
first_term owner place None = None
first_term owner place (Some x) =
    Some (state.AfterTerm (record { owner = owner; sum = record { at = place; first = x; rest = [] } }))

abbrev pub with_term : Sum → Term → Sum
with_term s x = record s { rest = s.rest ++ x ∷ [] }

abbrev pub next_term : OpenSum → Option Term → Option State
next_term o None = None
next_term o (Some x) = Some (state.AfterTerm (record o { sum = with_term o.sum x }))

unfoldable pub term_step : Reader → OpenSum → Token → Option State
term_step r o t = next_term o (term_of r t)

-- ## Calls

abbrev pub with_argument : OpenCall → Sum → OpenCall
with_argument c x = record c { call = record c.call { args = c.call.args ++ x ∷ [] } }

abbrev pub new_call : CallOwner → ℕ → List ℕ → State
new_call owner place name = state.CallOpen (record { owner = owner; call = record { at = place; callee = name; args = [] } })

unfoldable pub call_open : OpenCall → TokenKind → Option State
call_open c kind.LeftParen = Some (state.FirstArgument c)
call_open c k = None

unfoldable pub argument_step : Reader → OpenCall → Token → Option State
argument_step r c t = first_term (sum_owner.Argument c) t.at (term_of r t)

abbrev pub is_right_paren : TokenKind → Bool
is_right_paren kind.RightParen = true
is_right_paren k = false

unfoldable pub first_argument : Reader → OpenCall → Token → Option State
first_argument r c t = if is_right_paren t.kind then Some (state.CallEnd c) else argument_step r c t

-- ## Declarations and items

abbrev pub with_item : Reader → Item → Reader
with_item r x = record r { items = r.items ++ x ∷ [] }

abbrev pub with_declaration : Reader → Binding → Expression → Reader
with_declaration r b init =
    record r { declared = with_name r.declared b.name; items = r.items ++ item.Declaration b.kind b.name init ∷ [] }

abbrev pub with_call : Reader → OpenCall → Reader
with_call r c = elim c.owner [
  | call_owner.Statement ↦ with_item r (item.Expression c.call)
  | call_owner.Declaration b ↦ with_declaration r b (expression.Call c.call)
]

unfoldable pub call_end : Reader → OpenCall → TokenKind → Outcome
call_end r c kind.Semicolon = Some (with_call r c, state.Item)
call_end r c k = None

unfoldable pub after_declaration : Reader → Binding → Sum → TokenKind → Outcome
after_declaration r b x kind.Semicolon = Some (with_declaration r b (expression.Sum x), state.Item)
after_declaration r b x k = None

unfoldable pub after_argument : OpenCall → Sum → TokenKind → Option State
after_argument c x kind.Comma = Some (state.Argument (with_argument c x))
after_argument c x kind.RightParen = Some (state.CallEnd (with_argument c x))
after_argument c x k = None

abbrev pub sum_end : Reader → SumOwner → Sum → TokenKind → Outcome
sum_end r (sum_owner.Declaration b) x k = after_declaration r b x k
sum_end r (sum_owner.Argument c) x k = after r (after_argument c x k)

abbrev pub is_plus : TokenKind → Bool
is_plus kind.Plus = true
is_plus k = false

unfoldable pub after_term : Reader → OpenSum → TokenKind → Outcome
after_term r o k = if is_plus k then Some (r, state.Term o) else sum_end r o.owner o.sum k

unfoldable pub initializer_at : Reader → Binding → ℕ → TokenKind → Option State
initializer_at r b place (kind.Name name) =
    if is_one_of name r.imported then Some (new_call (call_owner.Declaration b) place name)
    else first_term (sum_owner.Declaration b) place (term_at r.declared place (kind.Name name))
initializer_at r b place k = first_term (sum_owner.Declaration b) place (term_at r.declared place k)

abbrev pub initializer_step : Reader → Binding → Token → Option State
initializer_step r b t = initializer_at r b t.at t.kind

unfoldable pub declaration_equals : Binding → TokenKind → Option State
declaration_equals b kind.Equals = Some (state.Initializer b)
declaration_equals b k = None

abbrev pub can_declare : Reader → List ℕ → Bool
can_declare r name = is_bindable name && not (is_one_of name r.imported) && not (is_one_of name r.declared)

unfoldable pub declaration_name : Reader → DeclarationKind → TokenKind → Option State
declaration_name r word (kind.Name name) =
    if can_declare r name then Some (state.DeclarationEquals (record { kind = word; name = name })) else None
declaration_name r word k = None

unfoldable pub item_name : Reader → ℕ → List ℕ → Option State
item_name r place name =
    if is_one_of name r.imported then Some (new_call call_owner.Statement place name)
    else (if bytes_eq name (codes "let") then Some (state.DeclarationName Let)
    else (if bytes_eq name (codes "const") then Some (state.DeclarationName Const)
    else None))

unfoldable pub item_at : Reader → ℕ → TokenKind → Option State
item_at r place (kind.Name name) = item_name r place name
item_at r place kind.End = Some state.Done
item_at r place k = None

abbrev pub item_step : Reader → Token → Option State
item_step r t = item_at r t.at t.kind

-- ## The import

abbrev pub is_import : TokenKind → Bool
is_import (kind.Name name) = bytes_eq name (codes "import")
is_import k = false

abbrev pub import_step : Reader → Option State
import_step r = if nat_lt 0 (length r.hosts) then Some state.ImportOpen else None

abbrev pub start_step : Reader → Token → Option State
start_step r t = if is_import t.kind then import_step r else item_step r t

unfoldable pub import_open : TokenKind → Option State
import_open kind.LeftBrace = Some state.ImportName
import_open k = None

unfoldable pub import_name : Reader → TokenKind → Outcome
import_name r (kind.Name name) =
    if is_one_of name r.hosts && not (is_one_of name r.imported)
    then Some (record r { imported = with_name r.imported name }, state.ImportNext) else None
import_name r k = None

unfoldable pub import_next : Reader → TokenKind → Option State
import_next r kind.Comma = if nat_lt (length r.imported) (length r.hosts) then Some state.ImportName else None
import_next r kind.RightBrace = Some state.ImportFrom
import_next r k = None

unfoldable pub import_from : TokenKind → Option State
import_from (kind.Name name) = if bytes_eq name (codes "from") then Some state.ImportHost else None
import_from k = None

unfoldable pub import_host : TokenKind → Option State
import_host (kind.Text units) = if bytes_eq units (codes "host") then Some state.ImportEnd else None
import_host k = None

unfoldable pub import_end : TokenKind → Option State
import_end kind.Semicolon = Some state.Item
import_end k = None

-- ## All together

unfoldable pub step : Reader → State → Token → Outcome
step r state.Start t = after r (start_step r t)
step r state.ImportOpen t = after r (import_open t.kind)
step r state.ImportName t = import_name r t.kind
step r state.ImportNext t = after r (import_next r t.kind)
step r state.ImportFrom t = after r (import_from t.kind)
step r state.ImportHost t = after r (import_host t.kind)
step r state.ImportEnd t = after r (import_end t.kind)
step r state.Item t = after r (item_step r t)
step r (state.DeclarationName word) t = after r (declaration_name r word t.kind)
step r (state.DeclarationEquals b) t = after r (declaration_equals b t.kind)
step r (state.Initializer b) t = after r (initializer_step r b t)
step r (state.CallOpen c) t = after r (call_open c t.kind)
step r (state.FirstArgument c) t = after r (first_argument r c t)
step r (state.Argument c) t = after r (argument_step r c t)
step r (state.CallEnd c) t = call_end r c t.kind
step r (state.AfterTerm o) t = after_term r o t.kind
step r (state.Term o) t = after r (term_step r o t)
step r state.Done t = None

-- the reader before the first token
abbrev pub start : List (List ℕ) → Reader
start hosts = record { hosts = importable hosts; imported = []; declared = []; items = [] }

abbrev pub import_items : List (List ℕ) → List Item
import_items [] = []
import_items (n ∷ ns) = item.Import (n ∷ ns) ∷ []

-- what is read, as a module
abbrev pub module_of : Reader → Module
module_of r = record { items = import_items r.imported ++ r.items }

-- the reader and the state after all these tokens
abbrev pub run : Reader → State → List Token → Outcome
run r s [] = Some (r, s)
run r s (t ∷ ts) = option_and_then (λ next. run next.0 next.1 ts) (step r s t)

-- this reader has read all these tokens
abbrev pub ReadsTo : List (List ℕ) → List Token → Reader → Type 0
ReadsTo hosts tokens r = (s : State) × (run (start hosts) state.Start tokens ≡ Some (r, s))

-- why a token at this place isn't read, by what the reader does with it
abbrev pub StopsWith : Outcome → ℕ → ReadFault → Type 0
StopsWith outcome place (fault.NotBuilt stop) = (stop ≡ place) × (outcome ≡ None)
StopsWith outcome place fault.OutOfMemory = Unit {0}
