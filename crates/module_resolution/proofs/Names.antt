-- The names that a module without early errors exports differ, so a name's first source is its only one.
use Rattle.std.proofs.Common.{◌≡◌, ℕ, zero, suc, ◌||◌, Bool, true, false, true≢false, cond, List, [], ◌∷◌, ◌++◌, length, map, Option, Some, None, refl, sym, ap, ◌∙◌, subst, inl, inr}
use Rattle.std.specs.Prelude.{slice_get, codes}
use Rattle.std.specs.List.{Contains, list_any}
use Rattle.std.specs.Str.{bytes_eq}
use Rattle.std.specs.Cmp.Lexicographic.{bytes_decides}
use Rattle.std.proofs.lemmas.Bool.{cases_Bool}
use Rattle.std.proofs.lemmas.List.{map-append}
use Rattle.std.proofs.lemmas.List.Elements.{Contains-append_right}
use Rattle.es6_ast.specs.declared.tree.Identifier.{Identifier}
use Rattle.es6_ast.specs.declared.graph.Request.{Request}
use Rattle.es_text.specs.declared.Span.{Span}
use Rattle.es6_ast.specs.declared.module.Module.{Module}
use Rattle.es6_ast.specs.declared.module.Specifier.{Specifier}
use Rattle.es6_ast.specs.declared.module.Item.{Item}
use Rattle.es6_ast.specs.declared.module.Item.TheVariants as item
use Rattle.es6_ast.specs.declared.module.ExportName.{ExportName}
use Rattle.es6_ast.specs.declared.module.DefaultExport.{DefaultExport}
use Rattle.es6_ast.specs.declared.module.DefaultExport.TheVariants.{DefaultFunction, DefaultClass, DefaultValue}
use Rattle.es6_static_semantics.specs.Findings.{Pair, is_name_of, joined, repeated, when}
use Rattle.es6_static_semantics.specs.Early.{ItemFound, default_found, early_pairs, item_found, undeclared, scope_pairs}
use Rattle.es6_static_semantics.specs.Endings.{ExportEntry, ImportEntry, export_source, exports, imports, item_exports, own_entry}
use Rattle.module_endings.specs.declared.place.Place.{Place}
use Rattle.module_endings.specs.Ends.{first_source}
use Rattle.module_endings.proofs.Gets.{contains-get, get-contains, get-left, some-same}
use Rattle.module_resolution.specs.Summaries.{export_of, source_place}

-- two lists that joined are empty are empty
nil-left : {A : Type 0} (xs ys : List A) → xs ++ ys ≡ [] → xs ≡ []
nil-left [] ys e = refl
nil-left (x ∷ xs) ys e = absurd (cc)

nil-right : {A : Type 0} (xs ys : List A) → xs ++ ys ≡ [] → ys ≡ []
nil-right [] ys e = e
nil-right (x ∷ xs) ys e = absurd (cc)

-- E23 stands nowhere
no-repeated : (m : Module) → early_pairs m ≡ [] → repeated 23 [] (joined (λ x. x.exported) (map item_found m.items)) ≡ []
no-repeated m e =
    let found : List ItemFound = map item_found m.items in
    let lexical : List Identifier = joined (λ x. x.lexical) found in
    let vars : List Identifier = joined (λ x. x.vars) found in
    let twice : List Pair = repeated 23 [] (joined (λ x. x.exported) found) in
    let first : List Pair = joined (λ x. x.pairs) found ++ (joined (λ x. x.scopes) found ++ scope_pairs lexical vars) in
    let last : List Pair = undeclared (lexical ++ vars) (joined (λ x. x.local) found) in
    nil-right first twice (nil-left (first ++ twice) last e)

when-nil : (test : Bool) (rule at : ℕ) → when test rule at ≡ [] → test ≡ false
when-nil true rule at e = absurd (cc)
when-nil false rule at e = refl

or-true : (b c : Bool) → c ≡ true → (b || c) ≡ true
or-true true c e = refl
or-true false c e = e

-- a name that stands in a list
any-at : (name : List ℕ) (xs : List Identifier) (k : ℕ) (x : Identifier) → slice_get xs k ≡ Some x → bytes_eq x.name name ≡ true → is_name_of name xs ≡ true
any-at name [] k x e same = absurd (cc)
any-at name (y ∷ xs) zero x e same = ap (λ b. b || is_name_of name xs) (ap (λ z. bytes_eq z.name name) (some-same e) ∙ same)
any-at name (y ∷ xs) (suc k) x e same = or-true (bytes_eq y.name name) (is_name_of name xs) (any-at name xs k x e same)

-- a name that is in none of the lists of pairs stands once
stands-once : (before xs : List Identifier) (rule : ℕ) → repeated rule before xs ≡ [] → (j : ℕ) (y : Identifier) → slice_get before j ≡ Some y → (k : ℕ) (x : Identifier) → slice_get xs k ≡ Some x
    → bytes_eq y.name x.name ≡ true → ⊥
stands-once before [] rule none j y there k x e same = absurd (cc)
stands-once before (z ∷ xs) rule none j y there zero x e same =
    let absent : is_name_of z.name before ≡ false = when-nil (is_name_of z.name before) rule z.span.begin (nil-left (when (is_name_of z.name before) rule z.span.begin) (repeated rule (before ++ z ∷ []) xs) none) in
    true≢false (sym (any-at z.name before j y there (ap (λ w. bytes_eq y.name w.name) (some-same e) ∙ same)) ∙ absent)
stands-once before (z ∷ xs) rule none j y there (suc k) x e same =
    stands-once (before ++ z ∷ []) xs rule (nil-right (when (is_name_of z.name before) rule z.span.begin) (repeated rule (before ++ z ∷ []) xs) none) j y (get-left before (z ∷ []) j y there) k x e same

get-end : {A : Type 0} (xs : List A) (x : A) → slice_get (xs ++ x ∷ []) (length xs) ≡ Some x
get-end [] x = refl
get-end (y ∷ xs) x = get-end xs x

-- an identifier with the name of an entry, where the names of both lists are the same
named-at : (es : List ExportEntry) (xs : List Identifier) → map (λ e. e.name) es ≡ map (λ x. x.name) xs → (k : ℕ) (e : ExportEntry) → slice_get es k ≡ Some e
    → (x : Identifier) × (slice_get xs k ≡ Some x) × (x.name ≡ e.name)
named-at [] xs same k e there = absurd (cc)
named-at (f ∷ es) [] same k e there = absurd (cc)
named-at (f ∷ es) (y ∷ xs) same zero e there = (y, refl, sym (cons-head same) ∙ ap (λ z. z.name) (some-same there))
  where
    cons-head : {m n : List ℕ} {ms ns : List (List ℕ)} → m ∷ ms ≡ n ∷ ns → m ≡ n
    cons-head c = cc
named-at (f ∷ es) (y ∷ xs) same (suc k) e there = named-at es xs (cons-tail same) k e there
  where
    cons-tail : {m n : List ℕ} {ms ns : List (List ℕ)} → m ∷ ms ≡ n ∷ ns → ms ≡ ns
    cons-tail c = cc

-- the first source of an exported name is its own
first-own : (number : ℕ) (requests : List Request) (before xs : List Identifier) (es : List ExportEntry) (rule : ℕ) → map (λ e. e.name) es ≡ map (λ x. x.name) xs → repeated rule before xs ≡ []
    → (k : ℕ) (e : ExportEntry) → slice_get es k ≡ Some e → first_source (map (export_of number requests) es) e.name ≡ Some (source_place number requests e.source)
first-own number requests before xs [] rule same none k e there = absurd (cc)
first-own number requests before [] (f ∷ es) rule same none k e there = absurd (cc)
first-own number requests before (y ∷ xs) (f ∷ es) rule same none zero e there =
    let is : f ≡ e = some-same there in
    let P : ExportEntry → Type 0 = λ z. cond (bytes_eq f.name z.name) (Some (source_place number requests f.source)) (first_source (map (export_of number requests) es) z.name) ≡ Some (source_place number requests z.source) in
    subst P is (ap (λ b. cond b (Some (source_place number requests f.source)) (first_source (map (export_of number requests) es) f.name)) ((bytes_decides f.name f.name).1 refl))
first-own number requests before (y ∷ xs) (f ∷ es) rule same none (suc k) e there =
    let rest : first_source (map (export_of number requests) es) e.name ≡ Some (source_place number requests e.source) =
    first-own number requests (before ++ y ∷ []) xs es rule (cons-tail same) (nil-right (when (is_name_of y.name before) rule y.span.begin) (repeated rule (before ++ y ∷ []) xs) none) k e there in
    elim (cases_Bool (bytes_eq f.name e.name)) [
      | inl hit ↦ absurd (later hit)
      | inr miss ↦ ap (λ b. cond b (Some (source_place number requests f.source)) (first_source (map (export_of number requests) es) e.name)) miss ∙ rest
    ]
  where
    cons-head : {m n : List ℕ} {ms ns : List (List ℕ)} → m ∷ ms ≡ n ∷ ns → m ≡ n
    cons-head c = cc

    cons-tail : {m n : List ℕ} {ms ns : List (List ℕ)} → m ∷ ms ≡ n ∷ ns → ms ≡ ns
    cons-tail c = cc

    later : bytes_eq f.name e.name ≡ true → ⊥
    later hit =
        let x = named-at es xs (cons-tail same) k e there in
        let none_later : repeated rule (before ++ y ∷ []) xs ≡ [] = nil-right (when (is_name_of y.name before) rule y.span.begin) (repeated rule (before ++ y ∷ []) xs) none in
        stands-once (before ++ y ∷ []) xs rule none_later (length before) y (get-end before y) k x.0 x.1
        (ap (λ n. bytes_eq n x.0.name) (sym (cons-head same)) ∙ ap (λ n. bytes_eq f.name n) x.2 ∙ hit)

-- a name with no source is not exported, and the other way round
pub none-exported : (number : ℕ) (requests : List Request) (es : List ExportEntry) (name : List ℕ) → first_source (map (export_of number requests) es) name ≡ None → list_any (λ e. bytes_eq e.name name) es ≡ false
none-exported number requests [] name none = refl
none-exported number requests (f ∷ es) name none = elim (cases_Bool (bytes_eq f.name name)) [
  | inl hit ↦ absurd (some-none (ap (λ b. cond b (Some (source_place number requests f.source)) (first_source (map (export_of number requests) es) name)) (sym hit) ∙ none))
  | inr miss ↦ ap (λ b. b || list_any (λ e. bytes_eq e.name name) es) miss ∙ none-exported number requests es name (ap (λ b. cond b (Some (source_place number requests f.source)) (first_source (map (export_of number requests) es) name)) (sym miss) ∙ none)
]
  where
    some-none : {A : Type 0} {x : A} → Some x ≡ None → ⊥
    some-none e = cc

pub exported-none : (number : ℕ) (requests : List Request) (es : List ExportEntry) (name : List ℕ) → list_any (λ e. bytes_eq e.name name) es ≡ false → first_source (map (export_of number requests) es) name ≡ None
exported-none number requests [] name none = refl
exported-none number requests (f ∷ es) name none =
    ap (λ b. cond b (Some (source_place number requests f.source)) (first_source (map (export_of number requests) es) name)) (or-left (bytes_eq f.name name) (list_any (λ e. bytes_eq e.name name) es) none)
    ∙ exported-none number requests es name (or-right (bytes_eq f.name name) (list_any (λ e. bytes_eq e.name name) es) none)
  where
    or-left : (b c : Bool) → (b || c) ≡ false → b ≡ false
    or-left true c e = absurd (true≢false e)
    or-left false c e = refl

    or-right : (b c : Bool) → (b || c) ≡ false → c ≡ false
    or-right true c e = absurd (true≢false e)
    or-right false c e = e

-- a source is that of an entry
pub source-entry : (number : ℕ) (requests : List Request) (es : List ExportEntry) (name : List ℕ) (p : Place) → first_source (map (export_of number requests) es) name ≡ Some p
    → (e : ExportEntry) × Contains es e × (e.name ≡ name) × (source_place number requests e.source ≡ p)
source-entry number requests [] name p found = absurd (cc)
source-entry number requests (f ∷ es) name p found = elim (cases_Bool (bytes_eq f.name name)) [
  | inl hit ↦ (
    f,
    contains-get (f ∷ es) 0 f refl,
    (bytes_decides f.name name).0 hit,
    some-same (ap (λ b. cond b (Some (source_place number requests f.source)) (first_source (map (export_of number requests) es) name)) (sym hit) ∙ found),
  )
  | inr miss ↦ (let rest = source-entry number requests es name p (ap (λ b. cond b (Some (source_place number requests f.source)) (first_source (map (export_of number requests) es) name)) (sym miss) ∙ found) in
      (rest.0, Contains-append_right (f ∷ []) es rest.0 rest.1, rest.2, rest.3))
]

map-map : {A B C : Type 0} (f : B → C) (g : A → B) (xs : List A) → map f (map g xs) ≡ map (λ x. f (g x)) xs
map-map f g [] = refl
map-map f g (x ∷ xs) = ap (λ rest. f (g x) ∷ rest) (map-map f g xs)

abbrev entry_of : List ImportEntry → Option Specifier → ExportName → ExportEntry
entry_of known from n = record { name = n.exported.name; source = export_source known from n }

listed-names : (known : List ImportEntry) (from : Option Specifier) (ns : List ExportName)
    → map (λ (e : ExportEntry). e.name) (map (λ n. entry_of known from n) ns) ≡ map (λ (x : Identifier). x.name) (joined (λ n. n.exported ∷ []) ns)
listed-names known from [] = refl
listed-names known from (n ∷ ns) = ap (λ rest. n.exported.name ∷ rest) (listed-names known from ns)

default-names : (x : DefaultExport) (word : Span) → codes "default" ∷ [] ≡ map (λ (i : Identifier). i.name) (default_found x word).exported
default-names (DefaultFunction f) word = refl
default-names (DefaultClass c) word = refl
default-names (DefaultValue x) word = refl

item-names : (known : List ImportEntry) (i : Item) → map (λ e. e.name) (item_exports known i) ≡ map (λ x. x.name) (item_found i).exported
item-names known (item.Import span default_ names from) = refl
item-names known (item.ExportNames span names from) = listed-names known from names
item-names known (item.ExportAll span from) = refl
item-names known (item.ExportDeclaration span s) = map-map (λ e. e.name) (λ n. own_entry n.name n.name) (item_found (item.ExportDeclaration span s)).exported
item-names known (item.ExportDefault span word x) = default-names x word
item-names known (item.Statement s) = refl

all-names : (known : List ImportEntry) (items : List Item) → map (λ e. e.name) (joined (item_exports known) items) ≡ map (λ x. x.name) (joined (λ x. x.exported) (map item_found items))
all-names known [] = refl
all-names known (i ∷ items) =
    map-append (λ e. e.name) (item_exports known i) (joined (item_exports known) items)
    ∙ ap (λ ns. ns ++ map (λ e. e.name) (joined (item_exports known) items)) (item-names known i)
    ∙ ap (λ ns. map (λ x. x.name) (item_found i).exported ++ ns) (all-names known items)
    ∙ sym (map-append (λ x. x.name) (item_found i).exported (joined (λ x. x.exported) (map item_found items)))

-- the source of an entry of a module without early errors
pub first-source : (number : ℕ) (requests : List Request) (m : Module) → early_pairs m ≡ [] → (e : ExportEntry) → Contains (exports m) e
    → first_source (map (export_of number requests) (exports m)) e.name ≡ Some (source_place number requests e.source)
first-source number requests m legal e c =
    let at = get-contains (exports m) e c in
    first-own number requests [] (joined (λ x. x.exported) (map item_found m.items)) (exports m) 23 (all-names (imports m) m.items) (no-repeated m legal) at.0 e at.1
