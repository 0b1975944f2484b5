-- What the reader has read at each state, and what it keeps.
use Rattle.std.proofs.Common.{◌≡◌, ℕ, ◌<◌, Bool, true, false, cond, List, [], ◌∷◌, ◌++◌, Some, None, length, refl, sym, ap, subst, ◌∙◌, append_assoc}
use Rattle.std.specs.Prelude.{codes}
use Rattle.std.proofs.lemmas.List.{append-nil}
use Rattle.first_trees.specs.declared.Item.{Item}
use Rattle.first_trees.specs.declared.Item.TheVariants as item
use Rattle.first_trees.specs.declared.Expression.{Expression}
use Rattle.first_trees.specs.declared.Expression.TheVariants as expression
use Rattle.first_trees.specs.declared.Call.{Call}
use Rattle.first_trees.specs.declared.Sum.{Sum}
use Rattle.first_trees.specs.declared.Term.{Term}
use Rattle.first_forms.specs.declared.token.Token.{Token}
use Rattle.first_forms.specs.declared.token.TokenKind.TheVariants as kind
use Rattle.first_forms.specs.declared.reader.Reader.{Reader}
use Rattle.first_forms.specs.declared.reader.Binding.{Binding}
use Rattle.first_forms.specs.declared.reader.CallOwner.{CallOwner}
use Rattle.first_forms.specs.declared.reader.CallOwner.TheVariants as call_owner
use Rattle.first_forms.specs.declared.reader.OpenCall.{OpenCall}
use Rattle.first_forms.specs.declared.reader.SumOwner.{SumOwner}
use Rattle.first_forms.specs.declared.reader.SumOwner.TheVariants as sum_owner
use Rattle.first_forms.specs.declared.reader.State.{State}
use Rattle.first_forms.specs.declared.reader.State.TheVariants as state
use Rattle.first_forms.specs.Names.{is_one_of}
use Rattle.first_forms.specs.Spelling.{Pattern, anywhere, at, Matches, name_token, term_token, added_tokens, sum_tokens, more_argument_tokens, argument_tokens, more_name_tokens, name_tokens, keyword, item_tokens, module_tokens}
use Rattle.first_forms.specs.WellFormed.{Scope, with_declared, IsSum, IsCall, IsInitializer, CanDeclare, AreItems, CanImport, AreImports}
use Rattle.first_forms.specs.Reading.{Outcome, after, with_item, with_declaration, with_call, import_items, with_name, is_bindable, importable}
use Rattle.first_forms.proofs.Scopes.{test-bindable, with_name-new, importable-host}
use Rattle.first_forms.proofs.Accepted.{scope}

-- ## What is read so far, and then the rest

abbrev pub more_names_front : List (List ℕ) → List Pattern → List Pattern
more_names_front [] rest = rest
more_names_front (n ∷ ns) rest = anywhere kind.Comma ∷ name_token n ∷ more_names_front ns rest

abbrev pub names_front : List (List ℕ) → List Pattern → List Pattern
names_front [] rest = rest
names_front (n ∷ ns) rest = name_token n ∷ more_names_front ns rest

-- the names, up to where another one stands
abbrev pub before_name : List (List ℕ) → List Pattern → List Pattern
before_name [] rest = rest
before_name (n ∷ ns) rest = names_front (n ∷ ns) (anywhere kind.Comma ∷ rest)

abbrev pub import_front : List Pattern → List Pattern
import_front rest = name_token (codes "import") ∷ anywhere kind.LeftBrace ∷ rest

abbrev pub items_front : List Item → List Pattern → List Pattern
items_front [] rest = rest
items_front (x ∷ xs) rest = item_tokens x (items_front xs rest)

abbrev pub front : Reader → List Pattern → List Pattern
front r rest = items_front (import_items r.imported ++ r.items) rest

abbrev pub declaration_front : Binding → List Pattern → List Pattern
declaration_front b rest = name_token (keyword b.kind) ∷ name_token b.name ∷ anywhere kind.Equals ∷ rest

abbrev pub owner_front : Reader → CallOwner → List Pattern → List Pattern
owner_front r call_owner.Statement rest = front r rest
owner_front r (call_owner.Declaration b) rest = front r (declaration_front b rest)

abbrev pub more_arguments_front : List Sum → List Pattern → List Pattern
more_arguments_front [] rest = rest
more_arguments_front (x ∷ xs) rest = anywhere kind.Comma ∷ sum_tokens x (more_arguments_front xs rest)

abbrev pub arguments_front : List Sum → List Pattern → List Pattern
arguments_front [] rest = rest
arguments_front (x ∷ xs) rest = sum_tokens x (more_arguments_front xs rest)

-- the arguments, up to where another one stands
abbrev pub before_argument : List Sum → List Pattern → List Pattern
before_argument [] rest = rest
before_argument (x ∷ xs) rest = arguments_front (x ∷ xs) (anywhere kind.Comma ∷ rest)

abbrev pub call_front : Call → List Pattern → List Pattern
call_front c rest = at c.at (kind.Name c.callee) ∷ anywhere kind.LeftParen ∷ rest

abbrev pub sum_front : Reader → SumOwner → List Pattern → List Pattern
sum_front r (sum_owner.Declaration b) rest = front r (declaration_front b rest)
sum_front r (sum_owner.Argument c) rest = owner_front r c.owner (call_front c.call (before_argument c.call.args rest))

unfoldable pub so_far : Reader → State → List Pattern → List Pattern
so_far r state.Start rest = rest
so_far r state.ImportOpen rest = name_token (codes "import") ∷ rest
so_far r state.ImportName rest = import_front (before_name r.imported rest)
so_far r state.ImportNext rest = import_front (names_front r.imported rest)
so_far r state.ImportFrom rest = import_front (names_front r.imported (anywhere kind.RightBrace ∷ rest))
so_far r state.ImportHost rest = import_front (names_front r.imported (anywhere kind.RightBrace ∷ name_token (codes "from") ∷ rest))
so_far r state.ImportEnd rest =
    import_front (names_front r.imported (anywhere kind.RightBrace ∷ name_token (codes "from") ∷ anywhere (kind.Text (codes "host")) ∷ rest))
so_far r state.Item rest = front r rest
so_far r (state.DeclarationName word) rest = front r (name_token (keyword word) ∷ rest)
so_far r (state.DeclarationEquals b) rest = front r (name_token (keyword b.kind) ∷ name_token b.name ∷ rest)
so_far r (state.Initializer b) rest = front r (declaration_front b rest)
so_far r (state.CallOpen c) rest = owner_front r c.owner (at c.call.at (kind.Name c.call.callee) ∷ rest)
so_far r (state.FirstArgument c) rest = owner_front r c.owner (call_front c.call rest)
so_far r (state.Argument c) rest = owner_front r c.owner (call_front c.call (before_argument c.call.args rest))
so_far r (state.CallEnd c) rest = owner_front r c.owner (call_front c.call (arguments_front c.call.args (anywhere kind.RightParen ∷ rest)))
so_far r (state.AfterTerm o) rest = sum_front r o.owner (sum_tokens o.sum rest)
so_far r (state.Term o) rest = sum_front r o.owner (sum_tokens o.sum (anywhere kind.Plus ∷ rest))
so_far r state.Done rest = front r (anywhere kind.End ∷ rest)

-- ## One more at the end

pub items_front-push : (xs : List Item) (x : Item) (rest : List Pattern) → items_front (xs ++ x ∷ []) rest ≡ items_front xs (item_tokens x rest)
items_front-push [] x rest = refl
items_front-push (y ∷ xs) x rest = ap (item_tokens y) (items_front-push xs x rest)

pub added-push : (xs : List Term) (x : Term) (rest : List Pattern) → added_tokens (xs ++ x ∷ []) rest ≡ added_tokens xs (anywhere kind.Plus ∷ term_token x ∷ rest)
added-push [] x rest = refl
added-push (y ∷ xs) x rest = ap (λ ps. anywhere kind.Plus ∷ term_token y ∷ ps) (added-push xs x rest)

more_arguments-push : (xs : List Sum) (x : Sum) (rest : List Pattern) → more_arguments_front (xs ++ x ∷ []) rest ≡ more_arguments_front xs (anywhere kind.Comma ∷ sum_tokens x rest)
more_arguments-push [] x rest = refl
more_arguments-push (y ∷ xs) x rest = ap (λ ps. anywhere kind.Comma ∷ sum_tokens y ps) (more_arguments-push xs x rest)

pub arguments-push : (xs : List Sum) (x : Sum) (rest : List Pattern) → arguments_front (xs ++ x ∷ []) rest ≡ before_argument xs (sum_tokens x rest)
arguments-push [] x rest = refl
arguments-push (y ∷ xs) x rest = ap (sum_tokens y) (more_arguments-push xs x rest)

more_names-push : (ns : List (List ℕ)) (n : List ℕ) (rest : List Pattern) → more_names_front (ns ++ n ∷ []) rest ≡ more_names_front ns (anywhere kind.Comma ∷ name_token n ∷ rest)
more_names-push [] n rest = refl
more_names-push (m ∷ ns) n rest = ap (λ ps. anywhere kind.Comma ∷ name_token m ∷ ps) (more_names-push ns n rest)

pub names-push : (ns : List (List ℕ)) (n : List ℕ) (rest : List Pattern) → names_front (ns ++ n ∷ []) rest ≡ before_name ns (name_token n ∷ rest)
names-push [] n rest = refl
names-push (m ∷ ns) n rest = ap (λ ps. name_token m ∷ ps) (more_names-push ns n rest)

-- ## What closes a list

more_names-close : (ns : List (List ℕ)) (rest : List Pattern) → more_names_front ns (anywhere kind.RightBrace ∷ rest) ≡ more_name_tokens ns rest
more_names-close [] rest = refl
more_names-close (n ∷ ns) rest = ap (λ ps. anywhere kind.Comma ∷ name_token n ∷ ps) (more_names-close ns rest)

pub names-close : (ns : List (List ℕ)) (rest : List Pattern) → names_front ns (anywhere kind.RightBrace ∷ rest) ≡ name_tokens ns rest
names-close [] rest = refl
names-close (n ∷ ns) rest = ap (λ ps. name_token n ∷ ps) (more_names-close ns rest)

more_arguments-close : (xs : List Sum) (rest : List Pattern) → more_arguments_front xs (anywhere kind.RightParen ∷ rest) ≡ more_argument_tokens xs rest
more_arguments-close [] rest = refl
more_arguments-close (x ∷ xs) rest = ap (λ ps. anywhere kind.Comma ∷ sum_tokens x ps) (more_arguments-close xs rest)

pub arguments-close : (xs : List Sum) (rest : List Pattern) → arguments_front xs (anywhere kind.RightParen ∷ rest) ≡ argument_tokens xs rest
arguments-close [] rest = refl
arguments-close (x ∷ xs) rest = ap (sum_tokens x) (more_arguments-close xs rest)

pub items-close : (xs : List Item) → items_front xs (anywhere kind.End ∷ []) ≡ module_tokens xs
items-close [] = refl
items-close (x ∷ xs) = ap (item_tokens x) (items-close xs)

-- ## What the reader keeps

abbrev pub declared_by : List Item → List (List ℕ)
declared_by [] = []
declared_by (item.Import names ∷ xs) = declared_by xs
declared_by (item.Declaration word name init ∷ xs) = name ∷ declared_by xs
declared_by (item.Expression c ∷ xs) = declared_by xs

abbrev pub IsItem : Scope → Item → Type 0
IsItem s (item.Import names) = ⊥
IsItem s (item.Declaration word name init) = CanDeclare s name × IsInitializer s init
IsItem s (item.Expression c) = IsCall s c

-- the scope behind the items
abbrev pub behind : Scope → List Item → Scope
behind s xs = record s { declared = s.declared ++ declared_by xs }

pub AreItems-push : (xs : List Item) (x : Item) (s : Scope) → AreItems s xs → IsItem (behind s xs) x → AreItems s (xs ++ x ∷ [])
AreItems-push [] (item.Import names) s h m = absurd m
AreItems-push [] (item.Declaration word name init) s h m =
    let n : CanDeclare s name × IsInitializer s init = subst (λ ns. IsItem (record s { declared = ns }) (item.Declaration word name init)) (append-nil s.declared) m in (n.0, n.1, tt)
AreItems-push [] (item.Expression c) s h m = (subst (λ ns. IsItem (record s { declared = ns }) (item.Expression c)) (append-nil s.declared) m, tt)
AreItems-push (item.Import names ∷ xs) x s h m = absurd h
AreItems-push (item.Declaration word name init ∷ xs) x s h m = (
  h.0,
  h.1,
  AreItems-push xs x (with_declared s name) h.2
      (subst (λ ns. IsItem (record s { declared = ns }) x) (sym (append_assoc s.declared (name ∷ []) (declared_by xs))) m),
)
AreItems-push (item.Expression c ∷ xs) x s h m = (h.0, AreItems-push xs x s h.1 m)

declared_by-push : (xs : List Item) (x : Item) → declared_by (xs ++ x ∷ []) ≡ declared_by xs ++ declared_by (x ∷ [])
declared_by-push [] x = refl
declared_by-push (item.Import names ∷ xs) x = declared_by-push xs x
declared_by-push (item.Declaration word name init ∷ xs) x = ap (λ ns. name ∷ ns) (declared_by-push xs x)
declared_by-push (item.Expression c ∷ xs) x = declared_by-push xs x

AreImports-push : (hosts ns before : List (List ℕ)) (n : List ℕ) → AreImports hosts before ns → CanImport hosts (before ++ ns) n → AreImports hosts before (ns ++ n ∷ [])
AreImports-push hosts [] before n h m = (subst (λ ms. CanImport hosts ms n) (append-nil before) m, tt)
AreImports-push hosts (k ∷ ns) before n h m =
    (h.0, AreImports-push hosts ns (before ++ k ∷ []) n h.1 (subst (λ ms. CanImport hosts ms n) (sym (append_assoc before (k ∷ []) ns)) m))

-- at each state
pub record IsKept (hosts : List (List ℕ)) (r : Reader) : Type 0 where
  pub hosts_are : r.hosts ≡ importable hosts
  pub imports : AreImports hosts [] r.imported
  pub items : AreItems (record { imported = r.imported; declared = [] }) r.items
  pub declared : r.declared ≡ declared_by r.items

abbrev pub IsCallOwner : Reader → CallOwner → Type 0
IsCallOwner r call_owner.Statement = Unit {0}
IsCallOwner r (call_owner.Declaration b) = CanDeclare (scope r) b.name

abbrev pub IsOpenCall : Reader → OpenCall → Type 0
IsOpenCall r c = IsCallOwner r c.owner × IsCall (scope r) c.call

abbrev pub IsSumOwner : Reader → SumOwner → Type 0
IsSumOwner r (sum_owner.Declaration b) = CanDeclare (scope r) b.name
IsSumOwner r (sum_owner.Argument c) = IsOpenCall r c

abbrev pub IsImporting : Reader → Type 0
IsImporting r = (r.items ≡ []) × (n : List ℕ) × (ns : List (List ℕ)) × (r.imported ≡ n ∷ ns)

unfoldable pub AtState : Reader → State → Type 0
AtState r state.Start = (r.imported ≡ []) × (r.items ≡ [])
AtState r state.ImportOpen = (r.imported ≡ []) × (r.items ≡ []) × (0 < length r.hosts)
AtState r state.ImportName = (r.items ≡ []) × (length r.imported < length r.hosts)
AtState r state.ImportNext = IsImporting r
AtState r state.ImportFrom = IsImporting r
AtState r state.ImportHost = IsImporting r
AtState r state.ImportEnd = IsImporting r
AtState r state.Item = Unit {0}
AtState r (state.DeclarationName word) = Unit {0}
AtState r (state.DeclarationEquals b) = CanDeclare (scope r) b.name
AtState r (state.Initializer b) = CanDeclare (scope r) b.name
AtState r (state.CallOpen c) = IsOpenCall r c × (c.call.args ≡ [])
AtState r (state.FirstArgument c) = IsOpenCall r c × (c.call.args ≡ [])
AtState r (state.Argument c) = IsOpenCall r c
AtState r (state.CallEnd c) = IsOpenCall r c
AtState r (state.AfterTerm o) = IsSumOwner r o.owner × IsSum (scope r) o.sum
AtState r (state.Term o) = IsSumOwner r o.owner × IsSum (scope r) o.sum
AtState r state.Done = Unit {0}

-- what holds after a token: it fits what is read, and the reader keeps what it has to
pub record Fits (hosts : List (List ℕ)) (r : Reader) (s : State) (t : Token) (r' : Reader) (s' : State) : Type 0 where
  pub pattern : Pattern
  pub matches : Matches t pattern
  pub shifts : (rest : List Pattern) → so_far r s (pattern ∷ rest) ≡ so_far r' s' rest
  pub kept : IsKept hosts r'
  pub at_state : AtState r' s'

unfoldable pub FitsAll : List (List ℕ) → Reader → State → Token → Outcome → Type 0
FitsAll hosts r s t None = Unit {0}
FitsAll hosts r s t (Some next) = Fits hosts r s t next.0 next.1

pub fits-none : (hosts : List (List ℕ)) (r : Reader) (s : State) (t : Token) → FitsAll hosts r s t None
unfolding FitsAll
fits-none hosts r s t = tt

pub fits-some : (hosts : List (List ℕ)) (r : Reader) (s : State) (t : Token) (r' : Reader) (s' : State) → Fits hosts r s t r' s' → FitsAll hosts r s t (Some (r', s'))
unfolding FitsAll
fits-some hosts r s t r' s' f = f

pub fits-of : (hosts : List (List ℕ)) (r : Reader) (s : State) (t : Token) (o : Outcome) (r' : Reader) (s' : State) → FitsAll hosts r s t o → o ≡ Some (r', s') → Fits hosts r s t r' s'
unfolding FitsAll
fits-of hosts r s t o r' s' f e = subst (FitsAll hosts r s t) e f

pub fits-if : (hosts : List (List ℕ)) (r : Reader) (s : State) (t : Token) (b : Bool) (x : State) → (b ≡ true → Fits hosts r s t r x) → FitsAll hosts r s t (after r (cond b (Some x) None))
fits-if hosts r s t true x f = fits-some hosts r s t r x (f refl)
fits-if hosts r s t false x f = fits-none hosts r s t

-- an item more
pub kept-item : (hosts : List (List ℕ)) (r : Reader) (c : Call) → IsKept hosts r → IsCall (scope r) c → IsKept hosts (with_item r (item.Expression c))
kept-item hosts r c k h = record {
  hosts_are = k.hosts_are;
  imports = k.imports;
  items = AreItems-push r.items (item.Expression c) (record { imported = r.imported; declared = [] }) k.items
      (subst (λ ns. IsCall (record { imported = r.imported; declared = ns }) c) k.declared h);
  declared = k.declared ∙ sym (declared_by-push r.items (item.Expression c) ∙ append-nil (declared_by r.items));
}

pub kept-declaration : (hosts : List (List ℕ)) (r : Reader) (b : Binding) (init : Expression) → IsKept hosts r → CanDeclare (scope r) b.name → IsInitializer (scope r) init
    → IsKept hosts (with_declaration r b init)
kept-declaration hosts r b init k h i = record {
  hosts_are = k.hosts_are;
  imports = k.imports;
  items = AreItems-push r.items (item.Declaration b.kind b.name init) (record { imported = r.imported; declared = [] }) k.items
      (subst (λ ns. CanDeclare (record { imported = r.imported; declared = ns }) b.name × IsInitializer (record { imported = r.imported; declared = ns }) init) k.declared (h, i));
  declared = with_name-new r.declared b.name h.not_declared ∙ ap (λ ns. ns ++ b.name ∷ []) k.declared ∙ sym (declared_by-push r.items (item.Declaration b.kind b.name init));
}

pub kept-call : (hosts : List (List ℕ)) (r : Reader) (owner : CallOwner) (c : Call) → IsKept hosts r → IsCallOwner r owner → IsCall (scope r) c
    → IsKept hosts (with_call r (record { owner = owner; call = c }))
kept-call hosts r call_owner.Statement c k o h = kept-item hosts r c k h
kept-call hosts r (call_owner.Declaration b) c k o h = kept-declaration hosts r b (expression.Call c) k o h

pub kept-import : (hosts : List (List ℕ)) (r : Reader) (n : List ℕ) → IsKept hosts r → r.items ≡ [] → is_one_of n r.hosts ≡ true → is_one_of n r.imported ≡ false
    → IsKept hosts (record r { imported = with_name r.imported n })
kept-import hosts r n k none h new =
    let there : (is_one_of n hosts ≡ true) × (is_bindable n ≡ true) = importable-host n hosts (subst (λ ns. is_one_of n ns ≡ true) k.hosts_are h) in
    let can : CanImport hosts r.imported n = record { host = there.0; bindable = test-bindable n there.1; once = new } in
    record {
      hosts_are = k.hosts_are;
      imports = subst (λ ns. AreImports hosts [] ns) (sym (with_name-new r.imported n new)) (AreImports-push hosts r.imported [] n k.imports can);
      items = subst (λ xs. AreItems (record { imported = with_name r.imported n; declared = [] }) xs) (sym none) tt;
      declared = k.declared;
    }
