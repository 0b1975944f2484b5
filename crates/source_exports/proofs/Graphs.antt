-- That the summaries of a graph's modules tell what its namespace objects have.
use Rattle.std.proofs.Common.{◌≡◌, ℕ, zero, suc, ◌+◌, ◌*◌, Bool, true, false, if◌then◌else◌, List, [], ◌∷◌, ◌++◌, None, Option, Some, arith, length, map, sum_by, refl, sym, ap, ◌∙◌}
use Rattle.std.proofs.lemmas.List.Sums.{sum_by-cons}
use Rattle.std.specs.List.{filter, filter_map, list_any, slice_get}
use Rattle.std.specs.Option.{option_map}
use Rattle.std.specs.Str.{bytes_eq}
use Rattle.es6_ast.specs.declared.graph.Graph.{Graph}
use Rattle.es6_ast.specs.declared.graph.LoadedModule.{LoadedModule}
use Rattle.es6_ast.specs.declared.graph.Request.{Request}
use Rattle.es6_static_semantics.specs.Endings.{ExportEntry, OtherName, OwnBinding, Source, exports, requested, stars}
use Rattle.es6_static_semantics.specs.Findings.{joined}
use Rattle.module_endings.specs.declared.summary.Summary.{Summary}
use Rattle.module_resolution.specs.Summaries.{AreSummaries, export_of, home_of, requested_home, source_place, summary_of}
use Rattle.source_exports.specs.Known as known
use Rattle.source_meaning.specs.Modules as graph
use Rattle.source_meaning.specs.Modules.{Pair, home_in, is_default, is_number, is_pair}

-- ---- lists

joined_map : {A B C : Type 0} (f : B → List C) (h : A → B) (xs : List A) → joined f (map h xs) ≡ joined (λ x. f (h x)) xs
joined_map f h [] = refl
joined_map f h (x ∷ xs) = ap (λ ys. f (h x) ++ ys) (joined_map f h xs)

joined_same : {A B : Type 0} (f g : A → List B) (xs : List A) → ((x : A) → f x ≡ g x) → joined f xs ≡ joined g xs
joined_same f g [] same = refl
joined_same f g (x ∷ xs) same = ap (λ ys. f x ++ ys) (joined_same f g xs same) ∙ ap (λ ys. ys ++ joined g xs) (same x)

filter_map_same : {A B : Type 0} (f g : A → Option B) (xs : List A) → ((x : A) → f x ≡ g x) → filter_map f xs ≡ filter_map g xs
filter_map_same f g [] same = refl
filter_map_same f g (x ∷ xs) same = rw (same x, filter_map_same f g xs same) refl

filter_by : {A B : Type 0} (f : B → Bool) (h : A → B) (x : A) (xs : List A) (b : Bool) → f (h x) ≡ b → filter f (map h xs) ≡ map h (filter (λ x. f (h x)) xs) → filter f (map h (x ∷ xs)) ≡ map h (filter (λ x. f (h x)) (x ∷ xs))
filter_by f h x xs true is e = rw is (ap (λ ys. h x ∷ ys) e)
filter_by f h x xs false is e = rw is e

filter_over : {A B : Type 0} (f : B → Bool) (h : A → B) (xs : List A) → filter f (map h xs) ≡ map h (filter (λ x. f (h x)) xs)
filter_over f h [] = refl
filter_over f h (x ∷ xs) = filter_by f h x xs (f (h x)) refl (filter_over f h xs)

none_alike : {A B : Type 0} (xs : List A) (ys : List B) (n : ℕ) → length ys ≡ length xs → slice_get xs n ≡ None → slice_get ys n ≡ None
none_alike [] [] n e h = refl
none_alike [] (y ∷ ys) n e h = absurd (omega arith)
none_alike (x ∷ xs) [] n e h = absurd (omega arith)
none_alike (x ∷ xs) (y ∷ ys) zero e h = cc
none_alike (x ∷ xs) (y ∷ ys) (suc n) e h = none_alike xs ys n (omega arith) h

-- ---- the summary of a module, and what it exports

summary_at : (ms : List LoadedModule) (ss : List Summary) → AreSummaries ms ss → (n : ℕ) (o : Option LoadedModule) → slice_get ms n ≡ o → slice_get ss n ≡ option_map (summary_of n) o
summary_at ms ss are n (Some m) e = are.each n m e
summary_at ms ss are n None e = none_alike ms ss n are.size e

abbrev entries_in : Option LoadedModule → List ExportEntry
entries_in None = []
entries_in (Some m) = exports m.tree

entries_are : (g : Graph) (n : ℕ) (o : Option LoadedModule) → slice_get g.modules n ≡ o → graph.exports_of g n ≡ entries_in o
entries_are g n None e = rw e refl
entries_are g n (Some m) e = rw e refl

home_same : (o : Option (Option ℕ)) → known.module_home (home_of o) ≡ home_in o
home_same None = refl
home_same (Some None) = refl
home_same (Some (Some n)) = refl

no_binding : (o : Option (Option ℕ)) → known.binding_home (home_of o) ≡ []
no_binding None = refl
no_binding (Some None) = refl
no_binding (Some (Some n)) = refl

stars_same : (n : ℕ) (o : Option LoadedModule) → known.stars_in (option_map (summary_of n) o) ≡ graph.star_homes o
stars_same n None = refl
stars_same n (Some m) =
    joined_map known.module_home (requested_home m.requests) (stars m.tree)
    ∙ joined_same (λ from. known.module_home (requested_home m.requests from)) (λ from. home_in (requested m.requests from)) (stars m.tree) (λ from. home_same (requested m.requests from))

stars_are : (g : Graph) (ss : List Summary) → AreSummaries g.modules ss → (n : ℕ) → known.stars_of ss n ≡ graph.stars_of g n
stars_are g ss are n =
    let o = slice_get g.modules n in
    ap known.stars_in (summary_at g.modules ss are n o refl) ∙ stars_same n o

-- ---- one step

end_same : (n : ℕ) (rs : List Request) (s : Source) → known.place_ends (source_place n rs s) ≡ graph.source_ends n s
end_same n rs (OwnBinding local) = refl
end_same n rs (OtherName other) = ap (map (λ home. known.pair home other.name)) (no_binding (requested rs other.from))

ends_by : (n : ℕ) (name : List ℕ) (o : Option LoadedModule) → known.entry_ends (filter (λ e. bytes_eq e.name name) (known.exports_in (option_map (summary_of n) o))) ≡ joined (λ e. graph.source_ends n e.source) (filter (λ e. bytes_eq e.name name) (entries_in o))
ends_by n name None = refl
ends_by n name (Some m) =
    let named = filter (λ e. bytes_eq e.name name) (exports m.tree) in
    ap known.entry_ends (filter_over (λ e. bytes_eq e.name name) (export_of n m.requests) (exports m.tree))
    ∙ joined_map (λ e. known.place_ends e.source) (export_of n m.requests) named
    ∙ joined_same (λ e. known.place_ends (source_place n m.requests e.source)) (λ e. graph.source_ends n e.source) named (λ e. end_same n m.requests e.source)

ends_are : (g : Graph) (ss : List Summary) → AreSummaries g.modules ss → (p : Pair) → known.entry_ends (known.entries_named ss p) ≡ joined (λ e. graph.source_ends p.home e.source) (graph.entries_named g p)
ends_are g ss are p =
    let o = slice_get g.modules p.home in
    ap (λ s. known.entry_ends (filter (λ e. bytes_eq e.name p.name) (known.exports_in s))) (summary_at g.modules ss are p.home o refl)
    ∙ ends_by p.home p.name o
    ∙ sym (ap (λ es. joined (λ e. graph.source_ends p.home e.source) (filter (λ e. bytes_eq e.name p.name) es)) (entries_are g p.home o refl))

pair_same : (g : Graph) (n : ℕ) (m : LoadedModule) → slice_get g.modules n ≡ Some m → (s : Source) → known.place_pairs (source_place n m.requests s) ≡ graph.source_pairs g n s
pair_same g n m is (OwnBinding local) = refl
pair_same g n m is (OtherName other) = rw is (ap (map (λ home. known.pair home other.name)) (home_same (requested m.requests other.from)))

star_pairs_are : (g : Graph) (ss : List Summary) → AreSummaries g.modules ss → (p : Pair) → known.star_pairs ss p.home p.name ≡ graph.star_pairs g p.home p.name
star_pairs_are g ss are p =
    ap (λ homes. if is_default p.name then [] else map (λ home. known.pair home p.name) homes) (stars_are g ss are p.home)

pairs_of : (g : Graph) (ss : List Summary) → AreSummaries g.modules ss → (p : Pair) (m : LoadedModule) → slice_get g.modules p.home ≡ Some m → (es : List ExportEntry) → known.pairs_by ss p (map (export_of p.home m.requests) es) ≡ graph.pairs_by g p es
pairs_of g ss are p m is [] = star_pairs_are g ss are p
pairs_of g ss are p m is (e ∷ es) =
    joined_map (λ e. known.place_pairs e.source) (export_of p.home m.requests) (e ∷ es)
    ∙ joined_same (λ e. known.place_pairs (source_place p.home m.requests e.source)) (λ e. graph.source_pairs g p.home e.source) (e ∷ es) (λ e. pair_same g p.home m is e.source)

pairs_by : (g : Graph) (ss : List Summary) → AreSummaries g.modules ss → (p : Pair) (o : Option LoadedModule) → slice_get g.modules p.home ≡ o → known.pairs_by ss p (filter (λ e. bytes_eq e.name p.name) (known.exports_in (option_map (summary_of p.home) o))) ≡ graph.pairs_by g p (filter (λ e. bytes_eq e.name p.name) (entries_in o))
pairs_by g ss are p None is = star_pairs_are g ss are p
pairs_by g ss are p (Some m) is =
    ap (known.pairs_by ss p) (filter_over (λ e. bytes_eq e.name p.name) (export_of p.home m.requests) (exports m.tree))
    ∙ pairs_of g ss are p m is (filter (λ e. bytes_eq e.name p.name) (exports m.tree))

pairs_are : (g : Graph) (ss : List Summary) → AreSummaries g.modules ss → (p : Pair) → known.pairs_by ss p (known.entries_named ss p) ≡ graph.pairs_by g p (graph.entries_named g p)
pairs_are g ss are p =
    let o = slice_get g.modules p.home in
    ap (λ s. known.pairs_by ss p (filter (λ e. bytes_eq e.name p.name) (known.exports_in s))) (summary_at g.modules ss are p.home o refl)
    ∙ pairs_by g ss are p o refl
    ∙ sym (ap (λ es. graph.pairs_by g p (filter (λ e. bytes_eq e.name p.name) es)) (entries_are g p.home o refl))

-- ---- all steps

endings_are : (g : Graph) (ss : List Summary) → AreSummaries g.modules ss → (depth : ℕ) (seen : List Pair) (p : Pair) → known.endings_within depth ss seen p ≡ graph.endings_within depth g seen p
endings_are g ss are zero seen p = refl
endings_are g ss are (suc depth) seen p =
    let pairs = known.pairs_by ss p (known.entries_named ss p) in
    let below : joined (known.endings_within depth ss (p ∷ seen)) pairs ≡ joined (graph.endings_within depth g (p ∷ seen)) (graph.pairs_by g p (graph.entries_named g p)) =
    joined_same (known.endings_within depth ss (p ∷ seen)) (graph.endings_within depth g (p ∷ seen)) pairs (λ q. endings_are g ss are depth (p ∷ seen) q)
    ∙ ap (joined (graph.endings_within depth g (p ∷ seen))) (pairs_are g ss are p) in
    ap (λ es. if list_any (is_pair p) seen then [] else es)
    (ap (λ es. es ++ joined (known.endings_within depth ss (p ∷ seen)) pairs) (ends_are g ss are p)
    ∙ ap (λ es. joined (λ e. graph.source_ends p.home e.source) (graph.entries_named g p) ++ es) below)

length_map : {A B : Type 0} (f : A → B) (xs : List A) → length (map f xs) ≡ length xs
length_map f [] = refl
length_map f (x ∷ xs) = ap suc (length_map f xs)

counts_are : (ms : List LoadedModule) (ss : List Summary) (f : ℕ → ℕ) → length ss ≡ length ms → ((i : ℕ) (m : LoadedModule) → slice_get ms i ≡ Some m → slice_get ss i ≡ Some (summary_of (f i) m)) → sum_by (λ s. length s.exports) ss ≡ sum_by (λ m. length (exports m.tree)) ms
counts_are [] [] f size each = refl
counts_are [] (s ∷ ss) f size each = absurd (omega arith)
counts_are (m ∷ ms) [] f size each = absurd (omega arith)
counts_are (m ∷ ms) (s ∷ ss) f size each =
    let first : Some s ≡ Some (summary_of (f 0) m) = each 0 m refl in
    let is : s ≡ summary_of (f 0) m = cc in
    let own : length s.exports ≡ length (exports m.tree) = ap (λ s. length s.exports) is ∙ length_map (export_of (f 0) m.requests) (exports m.tree) in
    let rest : sum_by (λ s. length s.exports) ss ≡ sum_by (λ m. length (exports m.tree)) ms =
    counts_are ms ss (λ i. f (suc i)) (omega arith) (λ i n e. each (suc i) n e) in
    sum_by-cons (λ s. length s.exports) s ss
    ∙ ap (λ k. k + sum_by (λ s. length s.exports) ss) own
    ∙ ap (λ k. length (exports m.tree) + k) rest
    ∙ sym (sum_by-cons (λ m. length (exports m.tree)) m ms)

limits_are : (g : Graph) (ss : List Summary) → AreSummaries g.modules ss → known.path_limit ss ≡ graph.path_limit g
limits_are g ss are =
    ap (λ k. suc (k * suc (sum_by (λ s. length s.exports) ss))) are.size
    ∙ ap (λ k. suc (length g.modules * suc k)) (counts_are g.modules ss (λ i. i) are.size are.each)

ends_alone_are : (g : Graph) (ss : List Summary) → AreSummaries g.modules ss → (n : ℕ) (name : List ℕ) → known.ends_alone ss n name ≡ graph.ends_alone g n name
ends_alone_are g ss are n name =
    ap (λ k. graph.alone (known.endings_within k ss [] (known.pair n name))) (limits_are g ss are)
    ∙ ap graph.alone (endings_are g ss are (graph.path_limit g) [] (known.pair n name))

-- ---- the names

name_map : (n : ℕ) (rs : List Request) (es : List ExportEntry) → map (λ e. e.name) (map (export_of n rs) es) ≡ map (λ e. e.name) es
name_map n rs [] = refl
name_map n rs (e ∷ es) = ap (λ names. e.name ∷ names) (name_map n rs es)

own_names : (n : ℕ) (o : Option LoadedModule) → map (λ e. e.name) (known.exports_in (option_map (summary_of n) o)) ≡ map (λ e. e.name) (entries_in o)
own_names n None = refl
own_names n (Some m) = name_map n m.requests (exports m.tree)

own_names_are : (g : Graph) (ss : List Summary) → AreSummaries g.modules ss → (n : ℕ) → map (λ e. e.name) (known.exports_of ss n) ≡ map (λ e. e.name) (graph.exports_of g n)
own_names_are g ss are n =
    let o = slice_get g.modules n in
    ap (λ s. map (λ e. e.name) (known.exports_in s)) (summary_at g.modules ss are n o refl)
    ∙ own_names n o
    ∙ sym (ap (map (λ e. e.name)) (entries_are g n o refl))

names_are : (g : Graph) (ss : List Summary) → AreSummaries g.modules ss → (depth : ℕ) (seen : List ℕ) (n : ℕ) → known.names_within depth ss seen n ≡ graph.names_within depth g seen n
names_are g ss are zero seen n = refl
names_are g ss are (suc depth) seen n =
    let below : joined (known.names_within depth ss (n ∷ seen)) (known.stars_of ss n) ≡ joined (graph.names_within depth g (n ∷ seen)) (graph.stars_of g n) =
    joined_same (known.names_within depth ss (n ∷ seen)) (graph.names_within depth g (n ∷ seen)) (known.stars_of ss n) (λ k. names_are g ss are depth (n ∷ seen) k)
    ∙ ap (joined (graph.names_within depth g (n ∷ seen))) (stars_are g ss are n) in
    ap (λ names. if is_number n seen then [] else names)
    (ap (λ names. names ++ known.other_names (joined (known.names_within depth ss (n ∷ seen)) (known.stars_of ss n))) (own_names_are g ss are n)
    ∙ ap (λ names. map (λ e. e.name) (graph.exports_of g n) ++ known.other_names names) below)

exported_by : (g : Graph) (n : ℕ) (name : List ℕ) (o : Option Pair) → graph.ends_alone g n name ≡ o → known.exported_by name o ≡ graph.exported_at g n name
exported_by g n name None e = rw e refl
exported_by g n name (Some p) e = rw e refl

exported_are : (g : Graph) (ss : List Summary) → AreSummaries g.modules ss → (n : ℕ) (name : List ℕ) → known.exported_by name (known.ends_alone ss n name) ≡ graph.exported_at g n name
exported_are g ss are n name =
    ap (known.exported_by name) (ends_alone_are g ss are n name) ∙ exported_by g n name (graph.ends_alone g n name) refl

pub namespace_by : (g : Graph) (ss : List Summary) (n : ℕ) → AreSummaries g.modules ss → known.namespace_of ss n ≡ graph.namespace_of g n
namespace_by g ss n are =
    filter_map_same (λ name. known.exported_by name (known.ends_alone ss n name)) (graph.exported_at g n) (known.names_within (suc (length ss)) ss [] n) (λ name. exported_are g ss are n name)
    ∙ ap (λ k. filter_map (graph.exported_at g n) (known.names_within (suc k) ss [] n)) are.size
    ∙ ap (filter_map (graph.exported_at g n)) (names_are g ss are (suc (length g.modules)) [] n)
