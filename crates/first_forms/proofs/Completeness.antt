-- What is spelled is read: items, imports and modules.
use Rattle.std.proofs.Common.{◌≡◌, ℕ, ◌<◌, Bool, true, false, cond, not, List, [], ◌∷◌, ◌++◌, Some, None, length, refl, sym, ap, subst, ◌∙◌, append_assoc, ⊎_elim}
use Rattle.std.specs.Prelude.{codes}
use Rattle.std.proofs.lemmas.List.{append-nil}
use Rattle.std.proofs.lemmas.Bool.{lt-ltb, false≢true}
use Rattle.std.specs.Option.{option_and_then}
use Rattle.first_trees.specs.declared.Module.{Module}
use Rattle.first_trees.specs.declared.Item.{Item}
use Rattle.first_trees.specs.declared.Item.TheVariants as item
use Rattle.first_trees.specs.declared.DeclarationKind.{DeclarationKind}
use Rattle.first_trees.specs.declared.DeclarationKind.TheVariants.{Let, Const}
use Rattle.first_trees.specs.declared.Expression.{Expression}
use Rattle.first_trees.specs.declared.Expression.TheVariants as expression
use Rattle.first_trees.specs.declared.Call.{Call}
use Rattle.first_trees.specs.declared.Sum.{Sum}
use Rattle.first_trees.specs.declared.Term.{Term}
use Rattle.first_trees.specs.declared.Term.TheVariants as term
use Rattle.first_forms.specs.declared.token.Token.{Token}
use Rattle.first_forms.specs.declared.token.TokenKind.{TokenKind}
use Rattle.first_forms.specs.declared.token.TokenKind.TheVariants as kind
use Rattle.first_forms.specs.declared.reader.Reader.{Reader}
use Rattle.first_forms.specs.declared.reader.Binding.{Binding}
use Rattle.first_forms.specs.declared.reader.CallOwner.TheVariants as call_owner
use Rattle.first_forms.specs.declared.reader.OpenCall.{OpenCall}
use Rattle.first_forms.specs.declared.reader.SumOwner.TheVariants as sum_owner
use Rattle.first_forms.specs.declared.reader.State.{State}
use Rattle.first_forms.specs.declared.reader.State.TheVariants as state
use Rattle.first_forms.specs.Names.{is_one_of, unbindable_names}
use Rattle.first_forms.specs.Spelling.{Pattern, anywhere, Matches, MatchesAll, name_token, term_token, initializer_tokens, more_name_tokens, keyword, item_tokens, module_tokens}
use Rattle.first_forms.specs.WellFormed.{IsTerm, IsCall, IsInitializer, CanDeclare, AreItems, CanImport, AreImports, AreModuleItems}
use Rattle.first_forms.specs.Modules.{Spells}
use Rattle.first_forms.specs.Reading.{after, run, step, term_at, first_term, with_item, with_declaration, with_call, call_end, after_declaration, after_term, initializer_at, declaration_equals, can_declare, declaration_name, item_name, item_at, item_step, is_import, import_step, import_open, import_name, import_next, import_from, import_host, import_end, start, import_items, module_of, is_bindable, importable}
use Rattle.first_forms.proofs.Scopes.{bool_cases, bindable-test, with_name-new, push-cases, and_both, AllNew, AllNew-push, AreAmong, imports-importable, count-room, host-importable, importable-host}
use Rattle.first_forms.proofs.Accepted.{scope, ReadsTerm, ReadsCallee, sum-taken, call-taken}
use Rattle.first_forms.proofs.Runs.{same_outcome, Takes, takes-one, takes-then, run-step}

-- the imported names can be bound, and none of them is declared
pub record IsReady (r : Reader) : Type 0 where
  pub bindable : (n : List ℕ) → is_one_of n r.imported ≡ true → is_bindable n ≡ true
  pub apart : (n : List ℕ) → is_one_of n r.declared ≡ true → is_one_of n r.imported ≡ false

-- ## Initializers

names_import : Reader → TokenKind → Bool
names_import r (kind.Name name) = is_one_of name r.imported
names_import r k = false

initializer_at-term : (r : Reader) (b : Binding) (place : ℕ) (k : TokenKind) → names_import r k ≡ false
    → initializer_at r b place k ≡ first_term (sum_owner.Declaration b) place (term_at r.declared place k)
unfolding initializer_at names_import
initializer_at-term r b place (kind.Name name) h = rw h refl
initializer_at-term r b place k h = refl

term-not-imported : (r : Reader) (x : Term) (t : Token) → IsReady r → IsTerm (scope r) x → Matches t (term_token x) → names_import r t.kind ≡ false
unfolding names_import
term-not-imported r (term.Integer place value) t ready h m = rw m.1 refl
term-not-imported r (term.Text place units) t ready h m = rw m.1 refl
term-not-imported r (term.Name place name) t ready h m = rw m.1 (ready.apart name h)

initializer-reads : (r : Reader) (b : Binding) (x : Term) → IsReady r → IsTerm (scope r) x → ReadsTerm r (state.Initializer b) (sum_owner.Declaration b) x
unfolding step
initializer-reads r b x ready h t m e =
    ap (after r) (initializer_at-term r b t.at t.kind (term-not-imported r x t ready h m) ∙ ap (first_term (sum_owner.Declaration b) t.at) e)

initializer-reads-callee : (r : Reader) (b : Binding) (name : List ℕ) → is_one_of name r.imported ≡ true → ReadsCallee r (state.Initializer b) (call_owner.Declaration b) name
unfolding step initializer_at
initializer-reads-callee r b name h t m = rw (m, h) refl

end-sum-read : (r : Reader) (b : Binding) (x : Sum) (t : Token) → Matches t (anywhere kind.Semicolon)
    → step r (state.AfterTerm (record { owner = sum_owner.Declaration b; sum = x })) t ≡ Some (with_declaration r b (expression.Sum x), state.Item)
unfolding step after_term after_declaration
end-sum-read r b x t m = rw m refl

end-call-read : (r : Reader) (c : OpenCall) (t : Token) → Matches t (anywhere kind.Semicolon) → step r (state.CallEnd c) t ≡ Some (with_call r c, state.Item)
unfolding step call_end
end-call-read r c t m = rw m refl

initializer-taken : (r : Reader) (b : Binding) (init : Expression) (ps : List Pattern) (ts : List Token) → IsReady r
    → MatchesAll ts (initializer_tokens init (anywhere kind.Semicolon ∷ ps)) → IsInitializer (scope r) init
    → Takes r (state.Initializer b) ts (with_declaration r b init) state.Item ps
initializer-taken r b (expression.Sum x) ps ts ready m h =
    let s : State = state.AfterTerm (record { owner = sum_owner.Declaration b; sum = x }) in
    takes-then r (state.Initializer b) ts r s (anywhere kind.Semicolon ∷ ps) (with_declaration r b (expression.Sum x)) state.Item ps
    (sum-taken r (state.Initializer b) (sum_owner.Declaration b) x (anywhere kind.Semicolon ∷ ps) ts (initializer-reads r b x.first ready h.1) m h)
    (λ us n. takes-one r s us (with_declaration r b (expression.Sum x)) state.Item (anywhere kind.Semicolon) ps n (end-sum-read r b x))
initializer-taken r b (expression.Call c) ps ts ready m h =
    let d : OpenCall = record { owner = call_owner.Declaration b; call = c } in
    takes-then r (state.Initializer b) ts r (state.CallEnd d) (anywhere kind.Semicolon ∷ ps) (with_declaration r b (expression.Call c)) state.Item ps
    (call-taken r (state.Initializer b) (call_owner.Declaration b) c (anywhere kind.Semicolon ∷ ps) ts (initializer-reads-callee r b c.callee h.0) m h.1)
    (λ us n. takes-one r (state.CallEnd d) us (with_declaration r b (expression.Call c)) state.Item (anywhere kind.Semicolon) ps n (end-call-read r d))

-- ## Items

item-reads-callee : (r : Reader) (name : List ℕ) → is_one_of name r.imported ≡ true → ReadsCallee r state.Item call_owner.Statement name
unfolding step item_at item_name
item-reads-callee r name h t m = rw (m, h) refl

keyword-free : (r : Reader) (word : DeclarationKind) → IsReady r → is_one_of (keyword word) r.imported ≡ false
unfolding unbindable_names
keyword-free r Let ready =
    ⊎_elim (λ (m : is_one_of (codes "let") r.imported ≡ true). let b : is_bindable (codes "let") ≡ true = ready.bindable (codes "let") m in absurd (false≢true b)) (λ e. e) (bool_cases (is_one_of (codes "let") r.imported))
keyword-free r Const ready =
    ⊎_elim (λ (m : is_one_of (codes "const") r.imported ≡ true). let b : is_bindable (codes "const") ≡ true = ready.bindable (codes "const") m in absurd (false≢true b)) (λ e. e) (bool_cases (is_one_of (codes "const") r.imported))

keyword-read : (r : Reader) (word : DeclarationKind) → is_one_of (keyword word) r.imported ≡ false → (t : Token) → Matches t (name_token (keyword word))
    → step r state.Item t ≡ Some (r, state.DeclarationName word)
unfolding step item_at item_name
keyword-read r Let h t m = rw (m, h) refl
keyword-read r Const h t m = rw (m, h) refl

can-declare : (r : Reader) (name : List ℕ) → CanDeclare (scope r) name → can_declare r name ≡ true
can-declare r name h = and_both _ _ (and_both _ _ (bindable-test name h.bindable) (ap not h.not_imported)) (ap not h.not_declared)

pub name-read : (r : Reader) (word : DeclarationKind) (name : List ℕ) → CanDeclare (scope r) name → (t : Token) → Matches t (name_token name)
    → step r (state.DeclarationName word) t ≡ Some (r, state.DeclarationEquals (record { kind = word; name = name }))
unfolding step declaration_name
name-read r word name h t m = rw m (ap (λ c. after r (cond c (Some (state.DeclarationEquals (record { kind = word; name = name }))) None)) (can-declare r name h))

equals-read : (r : Reader) (b : Binding) (t : Token) → Matches t (anywhere kind.Equals) → step r (state.DeclarationEquals b) t ≡ Some (r, state.Initializer b)
unfolding step declaration_equals
equals-read r b t m = rw m refl

end-read : (r : Reader) (t : Token) → Matches t (anywhere kind.End) → step r state.Item t ≡ Some (r, state.Done)
unfolding step item_at
end-read r t m = rw m refl

declaration-taken : (r : Reader) (word : DeclarationKind) (name : List ℕ) (init : Expression) (ps : List Pattern) (ts : List Token) → IsReady r
    → MatchesAll ts (item_tokens (item.Declaration word name init) ps) → CanDeclare (scope r) name → IsInitializer (scope r) init
    → Takes r state.Item ts (with_declaration r (record { kind = word; name = name }) init) state.Item ps
declaration-taken r word name init ps ts ready m h g =
    let b : Binding = record { kind = word; name = name } in
    let after_init : List Pattern = initializer_tokens init (anywhere kind.Semicolon ∷ ps) in
    let end : Reader = with_declaration r b init in
    takes-then r state.Item ts r (state.DeclarationName word) (name_token name ∷ anywhere kind.Equals ∷ after_init) end state.Item ps
    (takes-one r state.Item ts r (state.DeclarationName word) (name_token (keyword word)) (name_token name ∷ anywhere kind.Equals ∷ after_init) m (keyword-read r word (keyword-free r word ready)))
    (λ us n. takes-then r (state.DeclarationName word) us r (state.DeclarationEquals b) (anywhere kind.Equals ∷ after_init) end state.Item ps
    (takes-one r (state.DeclarationName word) us r (state.DeclarationEquals b) (name_token name) (anywhere kind.Equals ∷ after_init) n (name-read r word name h))
    (λ vs k. takes-then r (state.DeclarationEquals b) vs r (state.Initializer b) after_init end state.Item ps
    (takes-one r (state.DeclarationEquals b) vs r (state.Initializer b) (anywhere kind.Equals) after_init k (equals-read r b))
    (λ ws l. initializer-taken r b init ps ws ready l g)))

statement-taken : (r : Reader) (c : Call) (ps : List Pattern) (ts : List Token)
    → MatchesAll ts (item_tokens (item.Expression c) ps) → IsCall (scope r) c → Takes r state.Item ts (with_item r (item.Expression c)) state.Item ps
statement-taken r c ps ts m h =
    let d : OpenCall = record { owner = call_owner.Statement; call = c } in
    takes-then r state.Item ts r (state.CallEnd d) (anywhere kind.Semicolon ∷ ps) (with_item r (item.Expression c)) state.Item ps
    (call-taken r state.Item call_owner.Statement c (anywhere kind.Semicolon ∷ ps) ts (item-reads-callee r c.callee h.0) m h.1)
    (λ us n. takes-one r (state.CallEnd d) us (with_item r (item.Expression c)) state.Item (anywhere kind.Semicolon) ps n (end-call-read r d))

declared-ready : (r : Reader) (b : Binding) (init : Expression) → IsReady r → CanDeclare (scope r) b.name → IsReady (with_declaration r b init)
declared-ready r b init ready h = record {
  bindable = ready.bindable;
  apart = λ n e. ⊎_elim (ready.apart n) (λ (s : n ≡ b.name). subst (λ w. is_one_of w r.imported ≡ false) (sym s) h.not_imported)
      (push-cases n b.name r.declared (subst (λ ns. is_one_of n ns ≡ true) (with_name-new r.declared b.name h.not_declared) e));
}

-- the run ends with these items behind those that the reader had
pub record Ends (r : Reader) (s : State) (xs : List Item) (ts : List Token) : Type 0 where
  pub final : Reader
  pub runs : run r s ts ≡ Some (final, state.Done)
  pub items : final.items ≡ r.items ++ xs
  pub imported : final.imported ≡ r.imported

ends-after : (r : Reader) (x : Item) (xs : List Item) (ts : List Token) (r1 : Reader) (took : Takes r state.Item ts r1 state.Item (module_tokens xs))
    → r1.items ≡ r.items ++ x ∷ [] → r1.imported ≡ r.imported → Ends r1 state.Item xs took.rest → Ends r state.Item (x ∷ xs) ts
ends-after r x xs ts r1 took i n e = record {
  final = e.final;
  runs = took.runs ∙ e.runs;
  items = e.items ∙ ap (λ ys. ys ++ xs) i ∙ append_assoc r.items (x ∷ []) xs;
  imported = e.imported ∙ n;
}

pub items-read : (xs : List Item) (r : Reader) (ts : List Token) → IsReady r → MatchesAll ts (module_tokens xs) → AreItems (scope r) xs → Ends r state.Item xs ts
items-read [] r [] ready m h = absurd m
items-read [] r (t ∷ []) ready m h =
    record { final = r; runs = run-step t [] r state.Item r state.Done (end-read r t m.0); items = sym (append-nil r.items); imported = refl }
items-read [] r (t ∷ u ∷ us) ready m h = absurd m.1
items-read (item.Import names ∷ xs) r ts ready m h = absurd h
items-read (item.Declaration word name init ∷ xs) r ts ready m h =
    let b : Binding = record { kind = word; name = name } in
    let r1 : Reader = with_declaration r b init in
    let took : Takes r state.Item ts r1 state.Item (module_tokens xs) = declaration-taken r word name init (module_tokens xs) ts ready m h.0 h.1 in
    let next : AreItems (scope r1) xs =
    subst (λ ns. AreItems (record { imported = r.imported; declared = ns }) xs) (sym (with_name-new r.declared name h.0.not_declared)) h.2 in
    ends-after r (item.Declaration word name init) xs ts r1 took refl refl (items-read xs r1 took.rest (declared-ready r b init ready h.0) took.matches next)
items-read (item.Expression c ∷ xs) r ts ready m h =
    let r1 : Reader = with_item r (item.Expression c) in
    let took : Takes r state.Item ts r1 state.Item (module_tokens xs) = statement-taken r c (module_tokens xs) ts m h.0 in
    ends-after r (item.Expression c) xs ts r1 took refl refl
    (items-read xs r1 took.rest (record { bindable = ready.bindable; apart = ready.apart }) took.matches h.1)

-- ## The import

-- the reader behind an import of these names
abbrev pub importing : List (List ℕ) → List (List ℕ) → Reader
importing hosts names = record { hosts = importable hosts; imported = names; declared = []; items = [] }

import-name-read : (hosts names : List (List ℕ)) (n : List ℕ) → CanImport hosts names n → (t : Token) → Matches t (name_token n)
    → step (importing hosts names) state.ImportName t ≡ Some (importing hosts (names ++ n ∷ []), state.ImportNext)
unfolding step import_name
import-name-read hosts names n h t m =
    rw (m, host-importable n hosts h.host (bindable-test n h.bindable), h.once) refl

import-comma-read : (hosts names : List (List ℕ)) → length names < length (importable hosts) → (t : Token) → Matches t (anywhere kind.Comma)
    → step (importing hosts names) state.ImportNext t ≡ Some (importing hosts names, state.ImportName)
unfolding step import_next
import-comma-read hosts names h t m = rw (m, lt-ltb (length names) (length (importable hosts)) h) refl

import-close-read : (hosts names : List (List ℕ)) (t : Token) → Matches t (anywhere kind.RightBrace)
    → step (importing hosts names) state.ImportNext t ≡ Some (importing hosts names, state.ImportFrom)
unfolding step import_next
import-close-read hosts names t m = rw m refl

push-among : (hosts names : List (List ℕ)) (n : List ℕ) → CanImport hosts names n → AreAmong names (importable hosts) → AreAmong (names ++ n ∷ []) (importable hosts)
push-among hosts names n h among =
    λ q e. ⊎_elim (among q) (λ (s : q ≡ n). subst (λ w. is_one_of w (importable hosts) ≡ true) (sym s) (host-importable n hosts h.host (bindable-test n h.bindable))) (push-cases q n names e)

more-names-taken : (hosts ns names : List (List ℕ)) (ps : List Pattern) (ts : List Token) → AllNew [] names → AreAmong names (importable hosts)
    → MatchesAll ts (more_name_tokens ns ps) → AreImports hosts names ns
    → Takes (importing hosts names) state.ImportNext ts (importing hosts (names ++ ns)) state.ImportFrom ps
more-names-taken hosts [] names ps ts new among m h =
    subst (λ ns. Takes (importing hosts names) state.ImportNext ts (importing hosts ns) state.ImportFrom ps) (sym (append-nil names))
    (takes-one (importing hosts names) state.ImportNext ts (importing hosts names) state.ImportFrom (anywhere kind.RightBrace) ps m (import-close-read hosts names))
more-names-taken hosts (n ∷ ns) names ps ts new among m h =
    let r : Reader = importing hosts names in
    let r1 : Reader = importing hosts (names ++ n ∷ []) in
    let end : Reader = importing hosts (names ++ n ∷ ns) in
    let room : length names < length (importable hosts) = count-room names (importable hosts) n new among (host-importable n hosts h.0.host (bindable-test n h.0.bindable)) h.0.once in
    takes-then r state.ImportNext ts r state.ImportName (name_token n ∷ more_name_tokens ns ps) end state.ImportFrom ps
    (takes-one r state.ImportNext ts r state.ImportName (anywhere kind.Comma) (name_token n ∷ more_name_tokens ns ps) m (import-comma-read hosts names room))
    (λ us k. takes-then r state.ImportName us r1 state.ImportNext (more_name_tokens ns ps) end state.ImportFrom ps
    (takes-one r state.ImportName us r1 state.ImportNext (name_token n) (more_name_tokens ns ps) k (import-name-read hosts names n h.0))
    (λ vs l. subst (λ ms. Takes r1 state.ImportNext vs (importing hosts ms) state.ImportFrom ps) (append_assoc names (n ∷ []) ns)
    (more-names-taken hosts ns (names ++ n ∷ []) ps vs (AllNew-push names [] n new h.0.once) (push-among hosts names n h.0 among) l h.1)))

import-read : (hosts : List (List ℕ)) → 0 < length (importable hosts) → (t : Token) → Matches t (name_token (codes "import"))
    → step (importing hosts []) state.Start t ≡ Some (importing hosts [], state.ImportOpen)
unfolding step
import-read hosts h t m = rw (m, lt-ltb 0 (length (importable hosts)) h) refl

brace-read : (r : Reader) (t : Token) → Matches t (anywhere kind.LeftBrace) → step r state.ImportOpen t ≡ Some (r, state.ImportName)
unfolding step import_open
brace-read r t m = rw m refl

from-read : (r : Reader) (t : Token) → Matches t (name_token (codes "from")) → step r state.ImportFrom t ≡ Some (r, state.ImportHost)
unfolding step import_from
from-read r t m = rw m refl

host-read : (r : Reader) (t : Token) → Matches t (anywhere (kind.Text (codes "host"))) → step r state.ImportHost t ≡ Some (r, state.ImportEnd)
unfolding step import_host
host-read r t m = rw m refl

import-end-read : (r : Reader) (t : Token) → Matches t (anywhere kind.Semicolon) → step r state.ImportEnd t ≡ Some (r, state.Item)
unfolding step import_end
import-end-read r t m = rw m refl

from-taken : (r : Reader) (ps : List Pattern) (ts : List Token)
    → MatchesAll ts (name_token (codes "from") ∷ anywhere (kind.Text (codes "host")) ∷ anywhere kind.Semicolon ∷ ps) → Takes r state.ImportFrom ts r state.Item ps
from-taken r ps ts m =
    takes-then r state.ImportFrom ts r state.ImportHost (anywhere (kind.Text (codes "host")) ∷ anywhere kind.Semicolon ∷ ps) r state.Item ps
    (takes-one r state.ImportFrom ts r state.ImportHost (name_token (codes "from")) (anywhere (kind.Text (codes "host")) ∷ anywhere kind.Semicolon ∷ ps) m (from-read r))
    (λ us n. takes-then r state.ImportHost us r state.ImportEnd (anywhere kind.Semicolon ∷ ps) r state.Item ps
    (takes-one r state.ImportHost us r state.ImportEnd (anywhere (kind.Text (codes "host"))) (anywhere kind.Semicolon ∷ ps) n (host-read r))
    (λ vs k. takes-one r state.ImportEnd vs r state.Item (anywhere kind.Semicolon) ps k (import-end-read r)))

import-taken : (hosts ns : List (List ℕ)) (n : List ℕ) (ps : List Pattern) (ts : List Token)
    → MatchesAll ts (item_tokens (item.Import (n ∷ ns)) ps) → AreImports hosts [] (n ∷ ns)
    → Takes (importing hosts []) state.Start ts (importing hosts (n ∷ ns)) state.Item ps
import-taken hosts ns n ps ts m h =
    let r : Reader = importing hosts [] in
    let one : Reader = importing hosts (n ∷ []) in
    let end : Reader = importing hosts (n ∷ ns) in
    let tail : List Pattern = name_token (codes "from") ∷ anywhere (kind.Text (codes "host")) ∷ anywhere kind.Semicolon ∷ ps in
    let there : is_one_of n (importable hosts) ≡ true = host-importable n hosts h.0.host (bindable-test n h.0.bindable) in
    let none : AreAmong [] (importable hosts) = λ q (e : false ≡ true). absurd (false≢true e) in
    let room : 0 < length (importable hosts) = count-room [] (importable hosts) n tt none there refl in
    takes-then r state.Start ts r state.ImportOpen (anywhere kind.LeftBrace ∷ name_token n ∷ more_name_tokens ns tail) end state.Item ps
    (takes-one r state.Start ts r state.ImportOpen (name_token (codes "import")) (anywhere kind.LeftBrace ∷ name_token n ∷ more_name_tokens ns tail) m (import-read hosts room))
    (λ us k. takes-then r state.ImportOpen us r state.ImportName (name_token n ∷ more_name_tokens ns tail) end state.Item ps
    (takes-one r state.ImportOpen us r state.ImportName (anywhere kind.LeftBrace) (name_token n ∷ more_name_tokens ns tail) k (brace-read r))
    (λ vs l. takes-then r state.ImportName vs one state.ImportNext (more_name_tokens ns tail) end state.Item ps
    (takes-one r state.ImportName vs one state.ImportNext (name_token n) (more_name_tokens ns tail) l (import-name-read hosts [] n h.0))
    (λ ws o. takes-then one state.ImportNext ws end state.ImportFrom tail end state.Item ps
    (more-names-taken hosts ns (n ∷ []) tail ws (refl, tt) (push-among hosts [] n h.0 none) o h.1)
    (λ xs p. from-taken end ps xs p))))

-- ## Modules

start-as-item : (r : Reader) (t : Token) (ts : List Token) → is_import t.kind ≡ false → run r state.Start (t ∷ ts) ≡ run r state.Item (t ∷ ts)
unfolding step
start-as-item r t ts h = ap (λ b. option_and_then (λ n. run n.0 n.1 ts) (after r (cond b (import_step r) (item_step r t)))) h

items-start : (r : Reader) (xs : List Item) (ts : List Token) → MatchesAll ts (module_tokens xs) → AreItems (record { imported = []; declared = [] }) xs
    → run r state.Start ts ≡ run r state.Item ts
items-start r [] [] m h = absurd m
items-start r [] (t ∷ ts) m h = start-as-item r t ts (rw m.0 refl)
items-start r (item.Import names ∷ xs) ts m h = absurd h
items-start r (item.Declaration word name init ∷ xs) [] m h = absurd m
items-start r (item.Declaration Let name init ∷ xs) (t ∷ ts) m h = start-as-item r t ts (rw m.0 refl)
items-start r (item.Declaration Const name init ∷ xs) (t ∷ ts) m h = start-as-item r t ts (rw m.0 refl)
items-start r (item.Expression c ∷ xs) ts m h = absurd (false≢true h.0.0)

-- a reader that has nothing but imports
importing-ready : (hosts names : List (List ℕ)) → AreImports hosts [] names → IsReady (importing hosts names)
importing-ready hosts names h = record {
  bindable = λ n e. (importable-host n hosts (imports-importable hosts names [] h n e)).1;
  apart = λ n (e : false ≡ true). absurd (false≢true e);
}

-- the run over what spells a module ends with that module
pub record Reads (hosts : List (List ℕ)) (tokens : List Token) (m : Module) : Type 0 where
  pub final : Reader
  pub runs : run (start hosts) state.Start tokens ≡ Some (final, state.Done)
  pub same : module_of final ≡ m

reads-plain : (hosts : List (List ℕ)) (xs : List Item) (ts : List Token) → MatchesAll ts (module_tokens xs) → AreItems (record { imported = []; declared = [] }) xs
    → Reads hosts ts (record { items = xs })
reads-plain hosts xs ts m h =
    let e : Ends (start hosts) state.Item xs ts = items-read xs (start hosts) ts (importing-ready hosts [] tt) m h in
    record {
      final = e.final;
      runs = items-start (start hosts) xs ts m h ∙ e.runs;
      same = ap (λ ns. record { items = import_items ns ++ e.final.items }) e.imported ∙ ap (λ ys. record { items = ys }) e.items;
    }

pub module-read : (hosts : List (List ℕ)) (xs : List Item) (ts : List Token) → MatchesAll ts (module_tokens xs) → AreModuleItems hosts xs
    → Reads hosts ts (record { items = xs })
module-read hosts (item.Import [] ∷ xs) ts m h = absurd h
module-read hosts (item.Import (n ∷ ns) ∷ xs) ts m h =
    let r : Reader = importing hosts (n ∷ ns) in
    let took : Takes (start hosts) state.Start ts r state.Item (module_tokens xs) = import-taken hosts ns n (module_tokens xs) ts m h.0 in
    let e : Ends r state.Item xs took.rest = items-read xs r took.rest (importing-ready hosts (n ∷ ns) h.0) took.matches h.1 in
    record {
      final = e.final;
      runs = took.runs ∙ e.runs;
      same = ap (λ ms. record { items = import_items ms ++ e.final.items }) e.imported ∙ ap (λ ys. record { items = item.Import (n ∷ ns) ∷ ys }) e.items;
    }
module-read hosts [] ts m h = reads-plain hosts [] ts m h
module-read hosts (item.Declaration word name init ∷ xs) ts m h = reads-plain hosts (item.Declaration word name init ∷ xs) ts m h
module-read hosts (item.Expression c ∷ xs) ts m h = reads-plain hosts (item.Expression c ∷ xs) ts m h

-- what spells a module is read as that module
pub spelled-read : (hosts : List (List ℕ)) (tokens : List Token) (m : Module) → Spells hosts tokens m → Reads hosts tokens m
spelled-read hosts tokens m s = module-read hosts m.items tokens s.spelled s.well_formed

-- no tokens spell two modules
pub one-module : (hosts : List (List ℕ)) (tokens : List Token) (m n : Module) → Spells hosts tokens m → Spells hosts tokens n → m ≡ n
one-module hosts tokens m n s t =
    let a : Reads hosts tokens m = spelled-read hosts tokens m s in
    let b : Reads hosts tokens n = spelled-read hosts tokens n t in
    let f : (a.final ≡ b.final) × (state.Done ≡ state.Done) = same_outcome a.final b.final state.Done state.Done (sym a.runs ∙ b.runs) in
    sym a.same ∙ ap module_of f.0 ∙ b.same
