-- What the model does at a mark that opens a construct, by what the cursor answers.
use Rattle.std.proofs.Common.{◌≡◌, ◌⊎◌, inl, inr, Bool, true, false, List, ℕ, refl, sym, ◌∙◌, ap}
use Rattle.es5_ast.specs.Lexical.{Token5}
use Rattle.es5_reading.specs.Parser.{Input5, Inner5, Stop5, Syntax, Depth, Took, Fault, Parser, next_is, returns, fails, next_mark, choose, on_group, group}
use Rattle.es5_cursor.specs.Takes.{passed}
use Rattle.es5_cursor.proofs.Choices.{on_mark}
use Rattle.es5_cursor.specs.Groups.{Enters}

chosen : {A : Type 0} {b e : Bool} (p q : Parser A) (c : Input5) → b ≡ e → choose b p q c ≡ choose e p q c
chosen p q c h = ap (λ b. choose b p q c) h

pub on_open : {A : Type 0} (i : Inner5) (p : List ℕ) (r q : Parser A) (c d : Input5) → Enters i p c true d → on_group i p r q c ≡ r d
on_open i p r q c d h = chosen _ _ c (sym h.taken.known) ∙ chosen _ _ c (h.may refl) ∙ on_mark p r q c d h.taken

pub off_open : {A : Type 0} (i : Inner5) (p : List ℕ) (r q : Parser A) (c d : Input5) → Enters i p c false d → on_group i p r q c ≡ q d
off_open i p r q c d h = chosen _ _ c (sym h.taken.known) ∙ ap q (sym h.taken.input)

pub shut : {A : Type 0} (i : Inner5) (p : List ℕ) (r q : Parser A) (c : Input5) → next_is (next_mark p) c.tokens ≡ true → i.may_open ≡ false → on_group i p r q c ≡ Fault Depth c.tokens
shut i p r q c found may = chosen _ _ c found ∙ chosen _ _ c may

-- what two readers do there
Both : {A B : Type 0} (i : Inner5) (p : List ℕ) (r q : Parser A) (s t : Parser B) (c : Input5) → Type 0
Both i p r q s t c = ((on_group i p r q c ≡ q c) × (on_group i p s t c ≡ t c)) ⊎ (((on_group i p r q c ≡ Fault Depth c.tokens) × (on_group i p s t c ≡ Fault Depth c.tokens)) ⊎ ((d : Input5) × (on_group i p r q c ≡ r d) × (on_group i p s t c ≡ s d)))

both : {A B : Type 0} (i : Inner5) (p : List ℕ) (r q : Parser A) (s t : Parser B) (c : Input5) → Both i p r q s t c
unfolding Both
both i p r q s t c = at (next_is (next_mark p) c.tokens) i.may_open refl refl
  where
    at : (b m : Bool) → next_is (next_mark p) c.tokens ≡ b → i.may_open ≡ m → Both i p r q s t c
    at false m e f = inl (chosen _ _ c e, chosen _ _ c e)
    at true false e f = inr (inl (shut i p r q c e f, shut i p s t c e f))
    at true true e f =
        let h : Enters i p c true (passed true c) = record { taken = record { known = sym e; input = refl }; may = λ _. f } in
        inr (inr (passed true c, on_open i p r q c (passed true c) h, on_open i p s t c (passed true c) h))

-- a fault at the mark is one whatever is read behind it or in its place
pub shut_open : {A : Type 0} (i : Inner5) (p : List ℕ) (r q : Parser A) (c : Input5) (stop : Stop5) (ts : List Token5) → on_group i p (returns (tt {0})) (returns (tt {0})) c ≡ Fault stop ts → on_group i p r q c ≡ Fault stop ts
unfolding Both
shut_open i p r q c stop ts h = elim (both i p (returns (tt {0})) (returns (tt {0})) r q c) [
  | inl e ↦ let f = e.0 in absurd (cc)
  | inr e ↦ elim e [
    | inl e ↦ let f = e.0 in let g = e.1 in cc
    | inr e ↦ let f = e.1 in absurd (cc)
  ]
]

-- the same where nothing else may stand there
pub entered : {A : Type 0} (i : Inner5) (p : List ℕ) (r : Parser A) (c d : Input5) (x : Unit {0}) → group i p (returns (tt {0})) c ≡ Took x d → group i p r c ≡ r d
unfolding Both
entered i p r c d x h = elim (both i p (returns (tt {0})) (fails Syntax) r (fails Syntax) c) [
  | inl e ↦ let f = e.0 in absurd (cc)
  | inr e ↦ elim e [
    | inl e ↦ let f = e.0 in absurd (cc)
    | inr e ↦ let f = e.1 in let g = e.2 in cc
  ]
]

pub refused : {A : Type 0} (i : Inner5) (p : List ℕ) (r : Parser A) (c : Input5) (stop : Stop5) (ts : List Token5) → group i p (returns (tt {0})) c ≡ Fault stop ts → group i p r c ≡ Fault stop ts
unfolding Both
refused i p r c stop ts h = elim (both i p (returns (tt {0})) (fails Syntax) r (fails Syntax) c) [
  | inl e ↦ let f = e.0 in let g = e.1 in cc
  | inr e ↦ elim e [
    | inl e ↦ let f = e.0 in let g = e.1 in cc
    | inr e ↦ let f = e.1 in absurd (cc)
  ]
]
