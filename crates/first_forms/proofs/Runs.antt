-- Runs of the reader over lists of tokens.
use Rattle.std.proofs.Common.{◌≡◌, List, [], ◌∷◌, ◌++◌, Some, None, refl, ap, ◌∙◌}
use Rattle.std.specs.Option.{option_and_then}
use Rattle.first_forms.specs.declared.token.Token.{Token}
use Rattle.first_forms.specs.declared.reader.Reader.{Reader}
use Rattle.first_forms.specs.declared.reader.State.{State}
use Rattle.first_forms.specs.Spelling.{Pattern, Matches, MatchesAll}
use Rattle.first_forms.specs.Reading.{run, step}

-- a run over a list that goes on
pub run-append : (ts us : List Token) (r : Reader) (s : State) (r' : Reader) (s' : State) → run r s ts ≡ Some (r', s') → run r s (ts ++ us) ≡ run r' s' us
run-append [] us r s r' s' e = ap (λ o. option_and_then (λ n. run n.0 n.1 us) o) e
run-append (t ∷ ts) us r s r' s' e =
    elim (step r s t) as (λ o. option_and_then (λ n. run n.0 n.1 ts) o ≡ Some (r', s') → option_and_then (λ n. run n.0 n.1 (ts ++ us)) o ≡ run r' s' us) [
      | None ↦ λ e. cc
      | Some n ↦ λ e. run-append ts us n.0 n.1 r' s' e
    ] e

-- a run that ends at a token
pub run-stop : (ts us : List Token) (t : Token) (r : Reader) (s : State) (r' : Reader) (s' : State) → run r s ts ≡ Some (r', s') → step r' s' t ≡ None → run r s (ts ++ t ∷ us) ≡ None
run-stop ts us t r s r' s' e n = run-append ts (t ∷ us) r s r' s' e ∙ ap (λ o. option_and_then (λ n. run n.0 n.1 us) o) n

pub run-step : (t : Token) (us : List Token) (r : Reader) (s : State) (r' : Reader) (s' : State) → step r s t ≡ Some (r', s') → run r s (t ∷ us) ≡ run r' s' us
run-step t us r s r' s' e = ap (λ o. option_and_then (λ n. run n.0 n.1 us) o) e

-- one more token
pub run-push : (ts : List Token) (t : Token) (r : Reader) (s : State) (r' : Reader) (s' : State) (r'' : Reader) (s'' : State)
    → run r s ts ≡ Some (r', s') → step r' s' t ≡ Some (r'', s'') → run r s (ts ++ t ∷ []) ≡ Some (r'', s'')
run-push ts t r s r' s' r'' s'' e n = run-append ts (t ∷ []) r s r' s' e ∙ run-step t [] r' s' r'' s'' n

-- The reader takes the tokens from ts on up to some that match ps, and is then at r' and s'.
pub record Takes (r : Reader) (s : State) (ts : List Token) (r' : Reader) (s' : State) (ps : List Pattern) : Type 0 where
  pub rest : List Token
  pub matches : MatchesAll rest ps
  pub runs : run r s ts ≡ run r' s' rest

pub takes-none : (r : Reader) (s : State) (ts : List Token) (ps : List Pattern) → MatchesAll ts ps → Takes r s ts r s ps
takes-none r s ts ps m = record { rest = ts; matches = m; runs = refl }

pub takes-one : (r : Reader) (s : State) (ts : List Token) (r' : Reader) (s' : State) (p : Pattern) (ps : List Pattern)
    → MatchesAll ts (p ∷ ps) → ((t : Token) → Matches t p → step r s t ≡ Some (r', s')) → Takes r s ts r' s' ps
takes-one r s [] r' s' p ps m h = absurd m
takes-one r s (t ∷ ts) r' s' p ps m h = record { rest = ts; matches = m.1; runs = run-step t ts r s r' s' (h t m.0) }

pub takes-then : (r : Reader) (s : State) (ts : List Token) (r1 : Reader) (s1 : State) (ps : List Pattern) (r2 : Reader) (s2 : State) (qs : List Pattern)
    → Takes r s ts r1 s1 ps → ((us : List Token) → MatchesAll us ps → Takes r1 s1 us r2 s2 qs) → Takes r s ts r2 s2 qs
takes-then r s ts r1 s1 ps r2 s2 qs a f =
    let b : Takes r1 s1 a.rest r2 s2 qs = f a.rest a.matches in
    record { rest = b.rest; matches = b.matches; runs = a.runs ∙ b.runs }

some-same : (a b : Reader × State) → Some a ≡ Some b → a ≡ b
some-same a b e = cc

abbrev state_at : Reader → State → Reader × State
state_at r s = (r, s)

pub same_outcome : (r r' : Reader) (s s' : State) → Some (state_at r s) ≡ Some (state_at r' s') → (r ≡ r') × (s ≡ s')
same_outcome r r' s s' e =
    let f : state_at r s ≡ state_at r' s' = some-same (state_at r s) (state_at r' s') e in
    (ap (λ n. n.0) f, ap (λ n. n.1) f)
