-- One module more.
use Rattle.std.proofs.Common.{◌≡◌, ℕ, suc, ◌+◌, ◌<◌, ◌≤◌, List, [], ◌∷◌, ◌++◌, length, drop, get_or, sym, ap, ◌∙◌, subst, append_assoc, append-nil, length-append, drop-cons, add-one}
use Rattle.std.proofs.lemmas.List.{drop_all}
use Rattle.es6_ast.specs.declared.graph.LoadedModule.{LoadedModule}
use Rattle.binding_tables.specs.Rows.{rows_of}
use Rattle.binding_tables.specs.declared.ids.Row.{Row}
use Rattle.scope_analysis.specs.Ends.{AreAllEnds, end_rows, no_ends, one_ends, want_places}
use Rattle.scope_analysis.specs.Scopes.{AreAllScopes, AreScopesOf, no_module, one_module, tree_references, with_globals}
use Rattle.scope_analysis.specs.declared.tables.ModuleScopes.{ModuleScopes}

-- what stands at an index is the first of what is left
drop-one : {A : Type 0} (xs : List A) (i : ℕ) (x : A) → i < length xs → x ≡ get_or xs i x → drop i xs ≡ x ∷ drop (i + 1) xs
drop-one xs i x within there = drop-cons xs i x within ∙ ap (λ y. y ∷ drop (suc i) xs) (sym there) ∙ ap (λ n. x ∷ drop n xs) (sym (add-one i))

-- what is made of the modules that are left goes behind what is made
abbrev pub Continues : List LoadedModule → List ModuleScopes → ℕ → List (List ℕ) → List LoadedModule → Type 0
Continues all done k globals rest = (ss : List ModuleScopes) → AreAllScopes k globals rest ss → AreAllScopes 0 [] all (done ++ ss)

pub one_more : (all : List LoadedModule) (done : List ModuleScopes) (k : ℕ) (globals : List (List ℕ)) (m : LoadedModule) (rest : List LoadedModule) (s : ModuleScopes) → Continues all done k globals (m ∷ rest)
    → AreScopesOf k (with_globals globals (tree_references m.tree)) m.tree s → Continues all (done ++ s ∷ []) (k + 1) (with_globals globals (tree_references m.tree)) rest
one_more all done k globals m rest s before is ss are = subst (AreAllScopes 0 [] all) (sym (append_assoc done (s ∷ []) ss)) (before (s ∷ ss) (one_module is are))

pub scopes_more : (all : List LoadedModule) (i : ℕ) (m : LoadedModule) (done more : List ModuleScopes) (n : ℕ) (s : ModuleScopes) (globals grown : List (List ℕ)) → i < length all → m ≡ get_or all i m
    → Continues all done (length done) globals (drop i all) → n ≡ length done → grown ≡ with_globals globals (tree_references m.tree) → AreScopesOf n grown m.tree s → more ≡ done ++ s ∷ []
    → Continues all more (length more) grown (drop (i + 1) all)
scopes_more all i m done more n s globals grown within there before size names is pushed =
    let rest : List LoadedModule = drop (i + 1) all in
    let grow : List (List ℕ) = with_globals globals (tree_references m.tree) in
    let B : List LoadedModule → Type 0 = λ ms. Continues all done (length done) globals ms in
    let H : ℕ → Type 0 = λ k. AreScopesOf k grown m.tree s in
    let G : List (List ℕ) → Type 0 = λ g. AreScopesOf (length done) g m.tree s in
    let K : ℕ → Type 0 = λ k. Continues all (done ++ s ∷ []) k grow rest in
    let N : List (List ℕ) → Type 0 = λ g. Continues all (done ++ s ∷ []) (length (done ++ s ∷ [])) g rest in
    let M : List ModuleScopes → Type 0 = λ list. Continues all list (length list) grown rest in
    let turned : K (length done + 1) = one_more all done (length done) globals m rest s (subst B (drop-one all i m within there) before) (subst G names (subst H size is)) in
    subst M (sym pushed) (subst N (sym names) (subst K (sym (length-append done (s ∷ []))) turned))

pub scopes_begin : (all : List LoadedModule) (done : List ModuleScopes) (globals : List (List ℕ)) → done ≡ [] → globals ≡ [] → Continues all done (length done) globals all
scopes_begin all done globals none nameless ss are =
    let D : List ModuleScopes → Type 0 = λ list. AreAllScopes 0 [] all (list ++ ss) in
    let G : List (List ℕ) → Type 0 = λ g. AreAllScopes 0 g all ss in
    let N : List ModuleScopes → Type 0 = λ list. AreAllScopes (length list) globals all ss in
    subst D (sym none) (subst G nameless (subst N none are))

pub all_are : (all : List LoadedModule) (i : ℕ) (done : List ModuleScopes) (globals : List (List ℕ)) → length all ≤ i → Continues all done (length done) globals (drop i all) → AreAllScopes 0 [] all done
all_are all i done globals past before =
    let B : List LoadedModule → Type 0 = λ ms. Continues all done (length done) globals ms in
    subst (AreAllScopes 0 [] all) (append-nil done) (subst B (drop_all i all past) before [] no_module)

abbrev pub ContinuesEnds : List ModuleScopes → List LoadedModule → List (List Row) → List LoadedModule → Type 0
ContinuesEnds all modules done rest = (ts : List (List Row)) → AreAllEnds all rest ts → AreAllEnds all modules (done ++ ts)

pub one_more_ends : (all : List ModuleScopes) (modules : List LoadedModule) (done : List (List Row)) (m : LoadedModule) (rest : List LoadedModule) (t : List Row) → ContinuesEnds all modules done (m ∷ rest)
    → ((at : ℕ) → rows_of at t ≡ rows_of at (end_rows all (want_places m.tree) m.endings)) → ContinuesEnds all modules (done ++ t ∷ []) rest
one_more_ends all modules done m rest t before is ts are = subst (AreAllEnds all modules) (sym (append_assoc done (t ∷ []) ts)) (before (t ∷ ts) (one_ends is are))

pub ends_more : (all : List ModuleScopes) (modules : List LoadedModule) (i : ℕ) (m : LoadedModule) (done more : List (List Row)) (t : List Row) → i < length modules → m ≡ get_or modules i m
    → ContinuesEnds all modules done (drop i modules) → ((at : ℕ) → rows_of at t ≡ rows_of at (end_rows all (want_places m.tree) m.endings)) → more ≡ done ++ t ∷ []
    → ContinuesEnds all modules more (drop (i + 1) modules)
ends_more all modules i m done more t within there before is pushed =
    let rest : List LoadedModule = drop (i + 1) modules in
    let B : List LoadedModule → Type 0 = λ ms. ContinuesEnds all modules done ms in
    let M : List (List Row) → Type 0 = λ list. ContinuesEnds all modules list rest in
    subst M (sym pushed) (one_more_ends all modules done m rest t (subst B (drop-one modules i m within there) before) is)

pub ends_begin : (all : List ModuleScopes) (modules : List LoadedModule) (done : List (List Row)) → done ≡ [] → ContinuesEnds all modules done modules
ends_begin all modules done none ts are =
    let D : List (List Row) → Type 0 = λ list. AreAllEnds all modules (list ++ ts) in
    subst D (sym none) are

pub all_end : (all : List ModuleScopes) (modules : List LoadedModule) (i : ℕ) (done : List (List Row)) → length modules ≤ i → ContinuesEnds all modules done (drop i modules) → AreAllEnds all modules done
all_end all modules i done past before =
    let B : List LoadedModule → Type 0 = λ ms. ContinuesEnds all modules done ms in
    subst (AreAllEnds all modules) (append-nil done) (subst B (drop_all i modules past) before [] no_ends)
