-- What is spelled is read: the reader takes the tokens of each part of a module.
use Rattle.std.proofs.Common.{◌≡◌, ℕ, false, List, [], ◌∷◌, ◌++◌, Some, refl, sym, ap, subst, ◌∙◌, append_assoc}
use Rattle.std.proofs.lemmas.List.{append-nil}
use Rattle.std.proofs.lemmas.Bool.{le-leb}
use Rattle.first_trees.specs.declared.Call.{Call}
use Rattle.first_trees.specs.declared.Sum.{Sum}
use Rattle.first_trees.specs.declared.Term.{Term}
use Rattle.first_trees.specs.declared.Term.TheVariants as term
use Rattle.first_forms.specs.declared.token.Token.{Token}
use Rattle.first_forms.specs.declared.token.TokenKind.TheVariants as kind
use Rattle.first_forms.specs.declared.reader.Reader.{Reader}
use Rattle.first_forms.specs.declared.reader.CallOwner.{CallOwner}
use Rattle.first_forms.specs.declared.reader.OpenCall.{OpenCall}
use Rattle.first_forms.specs.declared.reader.SumOwner.{SumOwner}
use Rattle.first_forms.specs.declared.reader.SumOwner.TheVariants as sum_owner
use Rattle.first_forms.specs.declared.reader.OpenSum.{OpenSum}
use Rattle.first_forms.specs.declared.reader.State.{State}
use Rattle.first_forms.specs.declared.reader.State.TheVariants as state
use Rattle.first_forms.specs.Spelling.{Pattern, anywhere, at, Matches, MatchesAll, term_token, added_tokens, sum_tokens, more_argument_tokens, argument_tokens, call_tokens}
use Rattle.first_forms.specs.WellFormed.{Scope, max_integer, place_of, IsTerm, AreTerms, IsSum, AreSums}
use Rattle.first_forms.specs.Reading.{step, term_at, term_of, with_term, term_step, with_argument, new_call, call_open, argument_step, is_right_paren, first_argument, after_argument, after_term}
use Rattle.first_forms.proofs.Runs.{Takes, takes-none, takes-one, takes-then}

abbrev pub scope : Reader → Scope
scope r = record { imported = r.imported; declared = r.declared }

-- ## Terms and sums

pub term-read : (r : Reader) (x : Term) (t : Token) → Matches t (term_token x) → IsTerm (scope r) x → term_of r t ≡ Some x
unfolding term_at
term-read r (term.Integer place value) t m h = rw (m.0, m.1, le-leb value max_integer h) refl
term-read r (term.Text place units) t m h = rw (m.0, m.1, h) refl
term-read r (term.Name place name) t m h = rw (m.0, m.1, h) refl

term-place : (x : Term) (t : Token) → Matches t (term_token x) → t.at ≡ place_of x
term-place (term.Integer place value) t m = m.0
term-place (term.Text place units) t m = m.0
term-place (term.Name place name) t m = m.0

term-no-paren : (x : Term) (t : Token) → Matches t (term_token x) → is_right_paren t.kind ≡ false
term-no-paren (term.Integer place value) t m = rw m.1 refl
term-no-paren (term.Text place units) t m = rw m.1 refl
term-no-paren (term.Name place name) t m = rw m.1 refl

abbrev open_sum : SumOwner → ℕ → Term → List Term → State
open_sum owner place first rest = state.AfterTerm (record { owner = owner; sum = record { at = place; first = first; rest = rest } })

plus-read : (r : Reader) (o : OpenSum) (t : Token) → Matches t (anywhere kind.Plus) → step r (state.AfterTerm o) t ≡ Some (r, state.Term o)
unfolding step after_term
plus-read r o t m = rw m refl

next-read : (r : Reader) (o : OpenSum) (x : Term) → IsTerm (scope r) x → (t : Token) → Matches t (term_token x)
    → step r (state.Term o) t ≡ Some (r, state.AfterTerm (record o { sum = with_term o.sum x }))
unfolding step term_step
next-read r o x h t m = rw (term-read r x t m h) refl

added-taken : (r : Reader) (owner : SumOwner) (place : ℕ) (first : Term) (rest xs : List Term) (ps : List Pattern) (ts : List Token)
    → MatchesAll ts (added_tokens xs ps) → AreTerms (scope r) xs → Takes r (open_sum owner place first rest) ts r (open_sum owner place first (rest ++ xs)) ps
added-taken r owner place first rest [] ps ts m h =
    subst (λ ys. Takes r (open_sum owner place first rest) ts r (open_sum owner place first ys) ps) (sym (append-nil rest)) (takes-none r (open_sum owner place first rest) ts ps m)
added-taken r owner place first rest (x ∷ xs) ps ts m h =
    let o : OpenSum = record { owner = owner; sum = record { at = place; first = first; rest = rest } } in
    let goal : State = open_sum owner place first (rest ++ x ∷ xs) in
    takes-then r (state.AfterTerm o) ts r (state.Term o) (term_token x ∷ added_tokens xs ps) r goal ps
    (takes-one r (state.AfterTerm o) ts r (state.Term o) (anywhere kind.Plus) (term_token x ∷ added_tokens xs ps) m (plus-read r o))
    (λ us n. takes-then r (state.Term o) us r (open_sum owner place first (rest ++ x ∷ [])) (added_tokens xs ps) r goal ps
    (takes-one r (state.Term o) us r (open_sum owner place first (rest ++ x ∷ [])) (term_token x) (added_tokens xs ps) n (next-read r o x h.0))
    (λ vs k. subst (λ ys. Takes r (open_sum owner place first (rest ++ x ∷ [])) vs r (open_sum owner place first ys) ps) (append_assoc rest (x ∷ []) xs)
    (added-taken r owner place first (rest ++ x ∷ []) xs ps vs k h.1)))

-- a sum, from a state in which its first term is read
abbrev pub ReadsTerm : Reader → State → SumOwner → Term → Type 0
ReadsTerm r s owner x = (t : Token) → Matches t (term_token x) → term_of r t ≡ Some x → step r s t ≡ Some (r, open_sum owner t.at x [])

pub sum-taken : (r : Reader) (s : State) (owner : SumOwner) (x : Sum) (ps : List Pattern) (ts : List Token)
    → ReadsTerm r s owner x.first → MatchesAll ts (sum_tokens x ps) → IsSum (scope r) x → Takes r s ts r (state.AfterTerm (record { owner = owner; sum = x })) ps
sum-taken r s owner x ps ts reads m h =
    takes-then r s ts r (open_sum owner x.at x.first []) (added_tokens x.rest ps) r (state.AfterTerm (record { owner = owner; sum = x })) ps
    (takes-one r s ts r (open_sum owner x.at x.first []) (term_token x.first) (added_tokens x.rest ps) m
    (λ t n. reads t n (term-read r x.first t n h.1) ∙ ap (λ place. Some (r, open_sum owner place x.first [])) (term-place x.first t n ∙ sym h.0)))
    (λ us n. added-taken r owner x.at x.first [] x.rest ps us n h.2)

-- ## Calls

abbrev with_arguments : OpenCall → List Sum → OpenCall
with_arguments c xs = record c { call = record c.call { args = xs } }

argument-reads : (r : Reader) (c : OpenCall) (x : Term) → ReadsTerm r (state.Argument c) (sum_owner.Argument c) x
unfolding step argument_step
argument-reads r c x t m e = rw e refl

first-argument-reads : (r : Reader) (c : OpenCall) (x : Term) → ReadsTerm r (state.FirstArgument c) (sum_owner.Argument c) x
unfolding step first_argument argument_step
first-argument-reads r c x t m e = rw (term-no-paren x t m, e) refl

comma-read : (r : Reader) (c : OpenCall) (x : Sum) (t : Token) → Matches t (anywhere kind.Comma)
    → step r (state.AfterTerm (record { owner = sum_owner.Argument c; sum = x })) t ≡ Some (r, state.Argument (with_argument c x))
unfolding step after_term after_argument
comma-read r c x t m = rw m refl

close-read : (r : Reader) (c : OpenCall) (x : Sum) (t : Token) → Matches t (anywhere kind.RightParen)
    → step r (state.AfterTerm (record { owner = sum_owner.Argument c; sum = x })) t ≡ Some (r, state.CallEnd (with_argument c x))
unfolding step after_term after_argument
close-read r c x t m = rw m refl

more-arguments-taken : (r : Reader) (c : OpenCall) (x : Sum) (xs : List Sum) (ps : List Pattern) (ts : List Token)
    → MatchesAll ts (more_argument_tokens xs ps) → AreSums (scope r) xs
    → Takes r (state.AfterTerm (record { owner = sum_owner.Argument c; sum = x })) ts r (state.CallEnd (with_arguments c (c.call.args ++ x ∷ xs))) ps
more-arguments-taken r c x [] ps ts m h =
    takes-one r _ ts r (state.CallEnd (with_argument c x)) (anywhere kind.RightParen) ps m (close-read r c x)
more-arguments-taken r c x (y ∷ ys) ps ts m h =
    let s : State = state.AfterTerm (record { owner = sum_owner.Argument c; sum = x }) in
    let d : OpenCall = with_argument c x in
    let goal : State = state.CallEnd (with_arguments c (c.call.args ++ x ∷ y ∷ ys)) in
    takes-then r s ts r (state.Argument d) (sum_tokens y (more_argument_tokens ys ps)) r goal ps
    (takes-one r s ts r (state.Argument d) (anywhere kind.Comma) (sum_tokens y (more_argument_tokens ys ps)) m (comma-read r c x))
    (λ us n. takes-then r (state.Argument d) us r (state.AfterTerm (record { owner = sum_owner.Argument d; sum = y })) (more_argument_tokens ys ps) r goal ps
    (sum-taken r (state.Argument d) (sum_owner.Argument d) y (more_argument_tokens ys ps) us (argument-reads r d y.first) n h.0)
    (λ vs k. subst (λ zs. Takes r (state.AfterTerm (record { owner = sum_owner.Argument d; sum = y })) vs r (state.CallEnd (with_arguments c zs)) ps)
    (append_assoc c.call.args (x ∷ []) (y ∷ ys)) (more-arguments-taken r d y ys ps vs k h.1)))

no-argument-read : (r : Reader) (c : OpenCall) (t : Token) → Matches t (anywhere kind.RightParen) → step r (state.FirstArgument c) t ≡ Some (r, state.CallEnd c)
unfolding step first_argument
no-argument-read r c t m = rw m refl

abbrev open_call : CallOwner → ℕ → List ℕ → List Sum → OpenCall
open_call owner place name args = record { owner = owner; call = record { at = place; callee = name; args = args } }

arguments-taken : (r : Reader) (owner : CallOwner) (place : ℕ) (name : List ℕ) (xs : List Sum) (ps : List Pattern) (ts : List Token)
    → MatchesAll ts (argument_tokens xs ps) → AreSums (scope r) xs
    → Takes r (state.FirstArgument (open_call owner place name [])) ts r (state.CallEnd (open_call owner place name xs)) ps
arguments-taken r owner place name [] ps ts m h =
    takes-one r _ ts r (state.CallEnd (open_call owner place name [])) (anywhere kind.RightParen) ps m (no-argument-read r (open_call owner place name []))
arguments-taken r owner place name (x ∷ xs) ps ts m h =
    let c : OpenCall = open_call owner place name [] in
    takes-then r (state.FirstArgument c) ts r (state.AfterTerm (record { owner = sum_owner.Argument c; sum = x })) (more_argument_tokens xs ps) r (state.CallEnd (open_call owner place name (x ∷ xs))) ps
    (sum-taken r (state.FirstArgument c) (sum_owner.Argument c) x (more_argument_tokens xs ps) ts (first-argument-reads r c x.first) m h.0)
    (λ us n. more-arguments-taken r c x xs ps us n h.1)

open-read : (r : Reader) (c : OpenCall) (t : Token) → Matches t (anywhere kind.LeftParen) → step r (state.CallOpen c) t ≡ Some (r, state.FirstArgument c)
unfolding step call_open
open-read r c t m = rw m refl

-- a call, from a state in which its callee is read
abbrev pub ReadsCallee : Reader → State → CallOwner → List ℕ → Type 0
ReadsCallee r s owner name = (t : Token) → t.kind ≡ kind.Name name → step r s t ≡ Some (r, new_call owner t.at name)

pub call-taken : (r : Reader) (s : State) (owner : CallOwner) (c : Call) (ps : List Pattern) (ts : List Token)
    → ReadsCallee r s owner c.callee → MatchesAll ts (call_tokens c ps) → AreSums (scope r) c.args
    → Takes r s ts r (state.CallEnd (record { owner = owner; call = c })) ps
call-taken r s owner c ps ts reads m h =
    let qs : List Pattern = argument_tokens c.args ps in
    let goal : State = state.CallEnd (record { owner = owner; call = c }) in
    let d : OpenCall = open_call owner c.at c.callee [] in
    takes-then r s ts r (state.CallOpen d) (anywhere kind.LeftParen ∷ qs) r goal ps
    (takes-one r s ts r (state.CallOpen d) (at c.at (kind.Name c.callee)) (anywhere kind.LeftParen ∷ qs) m
    (λ t n. reads t n.1 ∙ ap (λ place. Some (r, new_call owner place c.callee)) n.0))
    (λ us n. takes-then r (state.CallOpen d) us r (state.FirstArgument d) qs r goal ps
    (takes-one r (state.CallOpen d) us r (state.FirstArgument d) (anywhere kind.LeftParen) qs n (open-read r d))
    (λ vs k. arguments-taken r owner c.at c.callee c.args ps vs k h))
