-- Wherever the reader stands, some tokens go on to the end of a module; so a fault stands at the first token with which none do.
use Rattle.std.proofs.Common.{◌≡◌, ℕ, suc, ◌+◌, ◌<◌, ◌≤◌, true, false, cond, not, List, [], ◌∷◌, ◌++◌, Some, None, length, refl, sym, ap, subst, ◌∙◌, append_assoc, ⊎_elim, get_or, take, drop}
use Rattle.std.specs.Prelude.{codes}
use Rattle.std.specs.Option.{option_and_then}
use Rattle.std.proofs.Math.Seq.{drop-cons}
use Rattle.std.proofs.lemmas.List.{take-append-drop, take_more, take_all}
use Rattle.first_forms.specs.Lexing.{token}
use Rattle.first_trees.specs.declared.Module.{Module}
use Rattle.first_trees.specs.declared.DeclarationKind.{DeclarationKind}
use Rattle.first_trees.specs.declared.Expression.TheVariants as expression
use Rattle.first_trees.specs.declared.Sum.{Sum}
use Rattle.first_trees.specs.declared.Term.{Term}
use Rattle.first_trees.specs.declared.Term.TheVariants as term
use Rattle.first_forms.specs.declared.token.Token.{Token}
use Rattle.first_forms.specs.declared.token.TokenKind.TheVariants as kind
use Rattle.first_forms.specs.declared.reader.Reader.{Reader}
use Rattle.first_forms.specs.declared.reader.Binding.{Binding}
use Rattle.first_forms.specs.declared.reader.OpenCall.{OpenCall}
use Rattle.first_forms.specs.declared.reader.SumOwner.{SumOwner}
use Rattle.first_forms.specs.declared.reader.SumOwner.TheVariants as sum_owner
use Rattle.first_forms.specs.declared.reader.OpenSum.{OpenSum}
use Rattle.first_forms.specs.declared.reader.State.{State}
use Rattle.first_forms.specs.declared.reader.State.TheVariants as state
use Rattle.first_forms.specs.declared.reader.ReadFault.{ReadFault}
use Rattle.first_forms.specs.declared.reader.ReadFault.TheVariants as fault
use Rattle.first_forms.specs.Faults.{IsFault}
use Rattle.first_forms.specs.Names.{is_one_of}
use Rattle.first_forms.specs.Modules.{Spells, IsAlive, IsDead, StopsAt, IsClosed}
use Rattle.first_forms.specs.Reading.{Outcome, run, step, term_at, with_term, term_step, with_argument, call_open, argument_step, first_argument, with_declaration, with_call, call_end, after_declaration, after_argument, sum_end, after_term, initializer_at, declaration_equals, declaration_name, item_at, import_open, import_name, import_next, import_from, import_host, import_end, start, module_of, with_name, is_bindable, ReadsTo, StopsWith}
use Rattle.first_forms.proofs.Scopes.{test-bindable, fresh, some-left, importable-new, and_both, AllNew}
use Rattle.first_forms.proofs.Completeness.{name-read, Reads, spelled-read}
use Rattle.first_forms.proofs.Front.{IsKept, AtState}
use Rattle.first_forms.proofs.Soundness.{Spans, run-spans, start-kept, start-at, read-spelled}
use Rattle.first_forms.proofs.Runs.{run-append, run-stop, run-push, run-step}

-- some tokens go on to the end
record Completes (r : Reader) (s : State) : Type 0 where
  tokens : List Token
  final : Reader
  runs : run r s tokens ≡ Some (final, state.Done)

completes-step : (r : Reader) (s : State) (t : Token) (r' : Reader) (s' : State) → step r s t ≡ Some (r', s') → Completes r' s' → Completes r s
completes-step r s t r' s' e c = record { tokens = t ∷ c.tokens; final = c.final; runs = run-step t c.tokens r s r' s' e ∙ c.runs }

completes-done : (r : Reader) → Completes r state.Done
completes-done r = record { tokens = []; final = r; runs = refl }

completes-item : (r : Reader) → Completes r state.Item
unfolding step item_at
completes-item r = completes-step r state.Item (token 0 kind.End) r state.Done refl (completes-done r)

completes-start : (r : Reader) → Completes r state.Start
unfolding step item_at
completes-start r = completes-step r state.Start (token 0 kind.End) r state.Done refl (completes-done r)

completes-call-end : (r : Reader) (c : OpenCall) → Completes r (state.CallEnd c)
unfolding step call_end
completes-call-end r c = completes-step r (state.CallEnd c) (token 0 kind.Semicolon) (with_call r c) state.Item refl (completes-item (with_call r c))

completes-sum : (r : Reader) (owner : SumOwner) (x : Sum) → Completes r (state.AfterTerm (record { owner = owner; sum = x }))
unfolding step after_term after_declaration after_argument
completes-sum r (sum_owner.Declaration b) x =
    completes-step r (state.AfterTerm (record { owner = sum_owner.Declaration b; sum = x })) (token 0 kind.Semicolon) (with_declaration r b (expression.Sum x)) state.Item refl
    (completes-item (with_declaration r b (expression.Sum x)))
completes-sum r (sum_owner.Argument c) x =
    completes-step r (state.AfterTerm (record { owner = sum_owner.Argument c; sum = x })) (token 0 kind.RightParen) r (state.CallEnd (with_argument c x)) refl
    (completes-call-end r (with_argument c x))

zero_term : Term
zero_term = term.Integer 0 0

open_sum : SumOwner → OpenSum
open_sum owner = record { owner = owner; sum = record { at = 0; first = term.Integer 0 0; rest = [] } }

completes-term : (r : Reader) (o : OpenSum) → Completes r (state.Term o)
unfolding step term_step term_at
completes-term r o =
    completes-step r (state.Term o) (token 0 (kind.Integer 0)) r (state.AfterTerm (record o { sum = with_term o.sum (term.Integer 0 0) })) refl
    (completes-sum r o.owner (with_term o.sum (term.Integer 0 0)))

completes-argument : (r : Reader) (c : OpenCall) → Completes r (state.Argument c)
unfolding step argument_step term_at open_sum
completes-argument r c =
    completes-step r (state.Argument c) (token 0 (kind.Integer 0)) r (state.AfterTerm (open_sum (sum_owner.Argument c))) refl
    (completes-sum r (sum_owner.Argument c) (open_sum (sum_owner.Argument c)).sum)

completes-first-argument : (r : Reader) (c : OpenCall) → Completes r (state.FirstArgument c)
unfolding step first_argument
completes-first-argument r c = completes-step r (state.FirstArgument c) (token 0 kind.RightParen) r (state.CallEnd c) refl (completes-call-end r c)

completes-call-open : (r : Reader) (c : OpenCall) → Completes r (state.CallOpen c)
unfolding step call_open
completes-call-open r c = completes-step r (state.CallOpen c) (token 0 kind.LeftParen) r (state.FirstArgument c) refl (completes-first-argument r c)

completes-initializer : (r : Reader) (b : Binding) → Completes r (state.Initializer b)
unfolding step initializer_at term_at open_sum
completes-initializer r b =
    completes-step r (state.Initializer b) (token 0 (kind.Integer 0)) r (state.AfterTerm (open_sum (sum_owner.Declaration b))) refl
    (completes-sum r (sum_owner.Declaration b) (open_sum (sum_owner.Declaration b)).sum)

completes-equals : (r : Reader) (b : Binding) → Completes r (state.DeclarationEquals b)
unfolding step declaration_equals
completes-equals r b = completes-step r (state.DeclarationEquals b) (token 0 kind.Equals) r (state.Initializer b) refl (completes-initializer r b)

completes-name : (r : Reader) (word : DeclarationKind) → Completes r (state.DeclarationName word)
completes-name r word =
    let n : (q : List ℕ) × (is_bindable q ≡ true) × (is_one_of q r.imported ≡ false) × (is_one_of q r.declared ≡ false) = fresh r.imported r.declared in
    let b : Binding = record { kind = word; name = n.0 } in
    completes-step r (state.DeclarationName word) (token 0 (kind.Name n.0)) r (state.DeclarationEquals b)
    (name-read r word n.0 (record { bindable = test-bindable n.0 n.1; not_imported = n.2; not_declared = n.3 }) (token 0 (kind.Name n.0)) refl)
    (completes-equals r b)

completes-import-end : (r : Reader) → Completes r state.ImportEnd
unfolding step import_end
completes-import-end r = completes-step r state.ImportEnd (token 0 kind.Semicolon) r state.Item refl (completes-item r)

completes-import-host : (r : Reader) → Completes r state.ImportHost
unfolding step import_host
completes-import-host r = completes-step r state.ImportHost (token 0 (kind.Text (codes "host"))) r state.ImportEnd refl (completes-import-end r)

completes-import-from : (r : Reader) → Completes r state.ImportFrom
unfolding step import_from
completes-import-from r = completes-step r state.ImportFrom (token 0 (kind.Name (codes "from"))) r state.ImportHost refl (completes-import-host r)

completes-import-next : (r : Reader) → Completes r state.ImportNext
unfolding step import_next
completes-import-next r = completes-step r state.ImportNext (token 0 kind.RightBrace) r state.ImportFrom refl (completes-import-from r)

import-name-step : (r : Reader) (n : List ℕ) → is_one_of n r.hosts ≡ true → is_one_of n r.imported ≡ false
    → step r state.ImportName (token 0 (kind.Name n)) ≡ Some (record r { imported = with_name r.imported n }, state.ImportNext)
unfolding step import_name
import-name-step r n there new =
    ap (λ b. cond b (Some (record r { imported = with_name r.imported n }, state.ImportNext)) None) (and_both (is_one_of n r.hosts) (not (is_one_of n r.imported)) there (ap not new))

completes-import-name : (hosts : List (List ℕ)) (r : Reader) → IsKept hosts r → length r.imported < length r.hosts → Completes r state.ImportName
completes-import-name hosts r kept less =
    let new : AllNew [] r.hosts = subst (AllNew []) (sym kept.hosts_are) (importable-new hosts) in
    let n : (q : List ℕ) × (is_one_of q r.hosts ≡ true) × (is_one_of q r.imported ≡ false) = some-left r.imported r.hosts new less in
    completes-step r state.ImportName (token 0 (kind.Name n.0)) (record r { imported = with_name r.imported n.0 }) state.ImportNext
    (import-name-step r n.0 n.1 n.2) (completes-import-next (record r { imported = with_name r.imported n.0 }))

completes-import-open : (hosts : List (List ℕ)) (r : Reader) → IsKept hosts r → length r.imported < length r.hosts → Completes r state.ImportOpen
unfolding step import_open
completes-import-open hosts r kept less =
    completes-step r state.ImportOpen (token 0 kind.LeftBrace) r state.ImportName refl (completes-import-name hosts r kept less)

completes : (hosts : List (List ℕ)) (r : Reader) (s : State) → IsKept hosts r → AtState r s → Completes r s
unfolding AtState
completes hosts r state.Start kept h = completes-start r
completes hosts r state.ImportOpen kept h = completes-import-open hosts r kept (subst (λ ns. length ns < length r.hosts) (sym h.0) h.2)
completes hosts r state.ImportName kept h = completes-import-name hosts r kept h.1
completes hosts r state.ImportNext kept h = completes-import-next r
completes hosts r state.ImportFrom kept h = completes-import-from r
completes hosts r state.ImportHost kept h = completes-import-host r
completes hosts r state.ImportEnd kept h = completes-import-end r
completes hosts r state.Item kept h = completes-item r
completes hosts r (state.DeclarationName word) kept h = completes-name r word
completes hosts r (state.DeclarationEquals b) kept h = completes-equals r b
completes hosts r (state.Initializer b) kept h = completes-initializer r b
completes hosts r (state.CallOpen c) kept h = completes-call-open r c
completes hosts r (state.FirstArgument c) kept h = completes-first-argument r c
completes hosts r (state.Argument c) kept h = completes-argument r c
completes hosts r (state.CallEnd c) kept h = completes-call-end r c
completes hosts r (state.AfterTerm o) kept h = completes-sum r o.owner o.sum
completes hosts r (state.Term o) kept h = completes-term r o
completes hosts r state.Done kept h = completes-done r

-- ## Faults

-- what is read so far begins a module
read-alive : (hosts : List (List ℕ)) (ts : List Token) (r : Reader) (s : State) → run (start hosts) state.Start ts ≡ Some (r, s) → IsAlive hosts ts
read-alive hosts ts r s e =
    let m : Spans hosts (start hosts) state.Start ts r s = run-spans hosts ts (start hosts) state.Start r s (start-kept hosts) (start-at hosts) e in
    let c : Completes r s = completes hosts r s m.kept m.at_state in
    (c.tokens, module_of c.final, read-spelled hosts (ts ++ c.tokens) c.final (run-append ts c.tokens (start hosts) state.Start r s e ∙ c.runs))

none-some : (o : Outcome) (n : Reader × State) → o ≡ None → o ≡ Some n → ⊥
none-some o n e f = cc

-- what the reader refuses begins none
refused-dead : (hosts : List (List ℕ)) (ts : List Token) (t : Token) (r : Reader) (s : State) → run (start hosts) state.Start ts ≡ Some (r, s) → step r s t ≡ None → IsDead hosts (ts ++ t ∷ [])
refused-dead hosts ts t r s e n =
    λ rest m spelled.
    let a : Reads hosts ((ts ++ t ∷ []) ++ rest) m = spelled-read hosts ((ts ++ t ∷ []) ++ rest) m spelled in
    let b : run (start hosts) state.Start (ts ++ t ∷ rest) ≡ None = run-stop ts rest t (start hosts) state.Start r s e n in
    let c : run (start hosts) state.Start ((ts ++ t ∷ []) ++ rest) ≡ None = ap (run (start hosts) state.Start) (append_assoc ts (t ∷ []) rest) ∙ b in
    none-some (run (start hosts) state.Start ((ts ++ t ∷ []) ++ rest)) (a.final, state.Done) c a.runs

-- a fault at the i-th token
pub stops-at : (hosts : List (List ℕ)) (tokens : List Token) (i : ℕ) (t : Token) (r : Reader) (s : State) → i < length tokens → t ≡ get_or tokens i t
    → run (start hosts) state.Start (take i tokens) ≡ Some (r, s) → step r s t ≡ None → StopsAt hosts tokens t.at
stops-at hosts tokens i t r s h is e n = record {
  before = take i tokens;
  token = t;
  after = drop (suc i) tokens;
  split = sym (take-append-drop i tokens) ∙ ap (λ ts. take i tokens ++ ts) (drop-cons tokens i t h ∙ ap (λ u. u ∷ drop (suc i) tokens) (sym is));
  stands = refl;
  alive = read-alive hosts (take i tokens) r s e;
  dead = refused-dead hosts (take i tokens) t r s e n;
}

-- where the reader stops at the i-th token, a fault stands there
pub stop-fault : (hosts : List (List ℕ)) (tokens : List Token) (i : ℕ) (t : Token) (r : Reader) (s : State) (e : ReadFault) → i < length tokens → t ≡ get_or tokens i t
    → run (start hosts) state.Start (take i tokens) ≡ Some (r, s) → StopsWith (step r s t) t.at e → IsFault hosts tokens e
stop-fault hosts tokens i t r s (fault.NotBuilt stop) h is e n = subst (StopsAt hosts tokens) (sym n.0) (stops-at hosts tokens i t r s h is e n.1)
stop-fault hosts tokens i t r s fault.OutOfMemory h is e n = tt

-- where a fault stands, nothing is spelled
pub stopped-unspelled : (hosts : List (List ℕ)) (tokens : List Token) (place : ℕ) (m : Module) → StopsAt hosts tokens place → Spells hosts tokens m → ⊥
stopped-unspelled hosts tokens place m f s =
    f.dead f.after m (subst (λ ts. Spells hosts ts m) (f.split ∙ sym (append_assoc f.before (f.token ∷ []) f.after)) s)

pub spelled-memory : (hosts : List (List ℕ)) (tokens : List Token) (m : Module) (e : ReadFault) → IsFault hosts tokens e → Spells hosts tokens m → e ≡ fault.OutOfMemory
spelled-memory hosts tokens m (fault.NotBuilt stop) f s = absurd (stopped-unspelled hosts tokens stop m f s)
spelled-memory hosts tokens m fault.OutOfMemory f s = refl

-- one more token is read
pub run-more : (hosts : List (List ℕ)) (tokens : List Token) (i : ℕ) (t : Token) (r : Reader) (s : State) (r' : Reader) (s' : State) → i < length tokens → t ≡ get_or tokens i t
    → run (start hosts) state.Start (take i tokens) ≡ Some (r, s) → step r s t ≡ Some (r', s') → run (start hosts) state.Start (take (i + 1) tokens) ≡ Some (r', s')
run-more hosts tokens i t r s r' s' h is e n =
    ap (run (start hosts) state.Start) (take_more tokens i t h ∙ ap (λ u. take i tokens ++ u ∷ []) (sym is)) ∙ run-push (take i tokens) t (start hosts) state.Start r s r' s' e n

-- ## The end

-- what comes last leads to the end, if to anything
EndsAll : Outcome → Type 0
EndsAll None = Unit {0}
EndsAll (Some n) = n.1 ≡ state.Done

sum-end-last : (r : Reader) (owner : SumOwner) (x : Sum) → EndsAll (sum_end r owner x kind.End)
unfolding EndsAll after_declaration after_argument
sum-end-last r (sum_owner.Declaration b) x = tt
sum-end-last r (sum_owner.Argument c) x = tt

sum-bad-last : (r : Reader) (owner : SumOwner) (x : Sum) → EndsAll (sum_end r owner x kind.Bad)
unfolding EndsAll after_declaration after_argument
sum-bad-last r (sum_owner.Declaration b) x = tt
sum-bad-last r (sum_owner.Argument c) x = tt

end-last : (r : Reader) (s : State) (place : ℕ) → EndsAll (step r s (token place kind.End))
unfolding EndsAll step term_step term_at call_open argument_step first_argument call_end after_term initializer_at declaration_equals declaration_name item_at import_open import_name import_next import_from import_host import_end
end-last r (state.AfterTerm o) place = sum-end-last r o.owner o.sum
end-last r state.Start place = refl
end-last r state.Item place = refl
end-last r s place = tt

bad-last : (r : Reader) (s : State) (place : ℕ) → EndsAll (step r s (token place kind.Bad))
unfolding EndsAll step term_step term_at call_open argument_step first_argument call_end after_term initializer_at declaration_equals declaration_name item_at import_open import_name import_next import_from import_host import_end
bad-last r (state.AfterTerm o) place = sum-bad-last r o.owner o.sum
bad-last r s place = tt

ends-at : (o : Outcome) (r : Reader) (s : State) → EndsAll o → o ≡ Some (r, s) → s ≡ state.Done
unfolding EndsAll
ends-at o r s h e = subst EndsAll e h

last-done : (r : Reader) (s : State) (t : Token) (r' : Reader) (s' : State) → IsClosed (t ∷ []) → step r s t ≡ Some (r', s') → s' ≡ state.Done
last-done r s t r' s' c e =
    ⊎_elim
    (λ (k : t.kind ≡ kind.End). ends-at (step r s (token t.at kind.End)) r' s' (end-last r s t.at) (ap (λ x. step r s (token t.at x)) (sym k) ∙ e))
    (λ (k : t.kind ≡ kind.Bad). ends-at (step r s (token t.at kind.Bad)) r' s' (bad-last r s t.at) (ap (λ x. step r s (token t.at x)) (sym k) ∙ e))
    c

-- a list that is read and closed is read to its end
pub run-done : (ts : List Token) (r : Reader) (s : State) (r' : Reader) (s' : State) → IsClosed ts → run r s ts ≡ Some (r', s') → s' ≡ state.Done
run-done [] r s r' s' c e = absurd c
run-done (t ∷ []) r s r' s' c e =
    elim (step r s t) as (λ o. step r s t ≡ o → option_and_then (λ n. run n.0 n.1 []) o ≡ Some (r', s') → s' ≡ state.Done) [
      | None ↦ λ _ e. cc
      | Some n ↦ λ f e. last-done r s t r' s' c (f ∙ e)
    ] refl e
run-done (t ∷ u ∷ ts) r s r' s' c e =
    elim (step r s t) as (λ o. option_and_then (λ n. run n.0 n.1 (u ∷ ts)) o ≡ Some (r', s') → s' ≡ state.Done) [
      | None ↦ λ e. cc
      | Some n ↦ λ e. run-done (u ∷ ts) n.0 n.1 r' s' c e
    ] e

-- where as many tokens are read as there are, all are
pub reads-all : (hosts : List (List ℕ)) (tokens : List Token) (i : ℕ) (r : Reader) (s : State) → length tokens ≤ i
    → run (start hosts) state.Start (take i tokens) ≡ Some (r, s) → ReadsTo hosts tokens r
reads-all hosts tokens i r s h e = (s, ap (run (start hosts) state.Start) (sym (take_all i tokens h)) ∙ e)

-- a closed list that is read is spelled
pub closed-spelled : (hosts : List (List ℕ)) (tokens : List Token) (r : Reader) → IsClosed tokens → ReadsTo hosts tokens r → Spells hosts tokens (module_of r)
closed-spelled hosts tokens r c f =
    read-spelled hosts tokens r (subst (λ x. run (start hosts) state.Start tokens ≡ Some (r, x)) (run-done tokens (start hosts) state.Start r f.0 c f.1) f.1)
