-- What is read at a quote.
use Rattle.std.proofs.Common.{◌≡◌, ℕ, zero, suc, ◌+◌, ◌<◌, ◌≤◌, inl, inr, true, List, [], ◌∷◌, ◌++◌, length, take, drop, refl, sym, ap, subst, ◌∙◌, arith, length-append, length-drop, append_assoc, append-nil}
use Rattle.std.specs.Prelude.{eqb}
use Rattle.std.proofs.lemmas.Bool.{eqb-true, or_cases}
use Rattle.std.proofs.lemmas.List.{take-append-drop, length-take-le}
use Rattle.es5_ast.specs.Lexical.{StringCharacters, none, itself, is_line_terminator, units_of, double_quoted, single_quoted, SpellsToken}
use Rattle.es5_ast.specs.Lexical as lexical
use Rattle.es5_tokens.specs.declared.shape.Element.{Element}
use Rattle.es5_tokens.specs.declared.shape.Element.TheVariants.{Finished, Skip, Take, Stop}
use Rattle.es5_tokens.specs.declared.token.TokenKind.TheVariants.{Word, Integer, Text, Punctuator}
use Rattle.es5_tokens.specs.declared.token.TokenFault.TheVariants.{Lexical, Number}
use Rattle.es5_tokens.specs.declared.shape.Escape.{Escape}
use Rattle.es5_tokens.specs.declared.shape.Escape.TheVariants.{Cut, Wrong, Stands, Continues}
use Rattle.es5_tokens.specs.Quoted.{escape, text_from, text_element, is_quote}
use Rattle.es5_tokens.proofs.Prefixes.{by_cases}
use Rattle.es5_tokens.proofs.Steps.{text_skip}
use Rattle.es5_tokens.proofs.Escapes.{IsEscape, escape_is}
use Rattle.es5_tokens.proofs.Read.{IsRead}

-- a text, or a fault before m
abbrev Gives : (List ℕ → ℕ → Type 0) → ℕ → Element → Type 0
Gives P m (Take (Text us) n) = P us n
Gives P m (Take (Word name) n) = ⊥
Gives P m (Take (Integer value) n) = ⊥
Gives P m (Take (Punctuator p) n) = ⊥
Gives P m (Stop Lexical at) = at < m
Gives P m (Stop Number at) = ⊥
Gives P m (Skip n line) = ⊥
Gives P m Finished = ⊥

gives_more : (P Q : List ℕ → ℕ → Type 0) (m k : ℕ) (e : Element) → m ≤ k → ((us : List ℕ) (n : ℕ) → P us n → Q us n) → Gives P m e → Gives Q k e
gives_more P Q m k (Take (Text us) n) l f h = f us n h
gives_more P Q m k (Take (Word name) n) l f h = absurd h
gives_more P Q m k (Take (Integer value) n) l f h = absurd h
gives_more P Q m k (Take (Punctuator p) n) l f h = absurd h
gives_more P Q m k (Stop Lexical at) l f h = omega arith
gives_more P Q m k (Stop Number at) l f h = absurd h
gives_more P Q m k (Skip n line) l f h = absurd h
gives_more P Q m k Finished l f h = absurd h

-- Behind i characters, characters of a literal up to its quote give these units behind those so far.
abbrev IsText : ℕ → List ℕ → ℕ → List ℕ → List ℕ → ℕ → Type 0
IsText q us i cs vs n = (body : List ℕ) × (after : List ℕ) × (ws : List ℕ) × (cs ≡ body ++ (q ∷ after)) × (n ≡ i + length body + 1) × (vs ≡ us ++ ws) × StringCharacters q body ws

-- characters in front that stand for units, of which they have at least one
with_front : (q : ℕ) (us units : List ℕ) (i k : ℕ) (front cs vs : List ℕ) (n : ℕ) → k ≡ length front
    → ((body after ws : List ℕ) → cs ≡ body ++ (q ∷ after) → StringCharacters q body ws → StringCharacters q (front ++ body) (units ++ ws))
    → IsText q (us ++ units) (i + k) cs vs n → IsText q us i (front ++ cs) vs n
with_front q us units i k front cs vs n size add (body, after, ws, split, count, all, characters) = (
  front ++ body,
  after,
  units ++ ws,
  ap (λ x. front ++ x) split ∙ sym (append_assoc front body (q ∷ after)),
  omega (arith, count, size, length-append front body),
  all ∙ append_assoc us units ws,
  add body after ws split characters,
)

at_escape : (q : ℕ) (us : List ℕ) (i : ℕ) (cs : List ℕ) (e : Escape) → IsEscape q cs e
    → ((vs : List ℕ) (k : ℕ) → Gives (IsText q vs (i + 1 + k) (drop k cs)) (i + 1 + k + length (drop k cs)) (text_from q vs (i + 1 + k) 0 (drop k cs)))
    → Gives (IsText q us i (92 ∷ cs)) (i + suc (length cs)) (elim e [ Cut ↦ Stop Lexical 0 | Wrong ↦ Stop Lexical i | Stands code n ↦ text_from q (us ++ units_of code) (i + 1) n cs | Continues n ↦ text_from q us (i + 1) n cs ])
at_escape q us i cs Cut h ih = omega arith
at_escape q us i cs Wrong h ih = omega arith
at_escape q us i cs (Stands code n) h ih =
    let P : List ℕ → ℕ → Type 0 = IsText q us i (92 ∷ cs) in
    let size = length-take-le n cs h.0 in
    let place : i + 1 + n ≡ i + suc n = omega arith in
    let whole : 92 ∷ (take n cs ++ drop n cs) ≡ 92 ∷ cs = ap (λ x. 92 ∷ x) (take-append-drop n cs) in
    subst (Gives P (i + suc (length cs))) (sym (text_skip q (us ++ units_of code) n (i + 1) cs))
    (gives_more (IsText q (us ++ units_of code) (i + 1 + n) (drop n cs)) P _ _ _ (omega (arith, h.0, length-drop n cs))
    (λ vs m t. subst (λ x. IsText q us i x vs m) whole
    (with_front q us (units_of code) i (suc n) (92 ∷ take n cs) (drop n cs) vs m (omega (arith, size)) (λ body after ws e s. h.1 body after ws e s)
    (subst (λ k. IsText q (us ++ units_of code) k (drop n cs) vs m) place t)))
    (ih (us ++ units_of code) n))
at_escape q us i cs (Continues n) h ih =
    let P : List ℕ → ℕ → Type 0 = IsText q us i (92 ∷ cs) in
    let size = length-take-le n cs h.0 in
    let place : i + 1 + n ≡ i + suc n = omega arith in
    let whole : 92 ∷ (take n cs ++ drop n cs) ≡ 92 ∷ cs = ap (λ x. 92 ∷ x) (take-append-drop n cs) in
    subst (Gives P (i + suc (length cs))) (sym (text_skip q us n (i + 1) cs))
    (gives_more (IsText q us (i + 1 + n) (drop n cs)) P _ _ _ (omega (arith, h.0, length-drop n cs))
    (λ vs m t. subst (λ x. IsText q us i x vs m) whole
    (with_front q us [] i (suc n) (92 ∷ take n cs) (drop n cs) vs m (omega (arith, size)) (λ body after ws e s. h.1 body after ws e s)
    (subst (λ v. IsText q v (i + suc n) (drop n cs) vs m) (sym (append-nil us)) (subst (λ k. IsText q us k (drop n cs) vs m) place t))))
    (ih us n))

text_is : (m q : ℕ) (us : List ℕ) (i : ℕ) (cs : List ℕ) → length cs ≤ m → 1 ≤ i → Gives (IsText q us i cs) (i + length cs) (text_from q us i 0 cs)
unfolding text_from
text_is m q us i [] h l = omega arith
text_is zero q us i (c ∷ cs) h l = absurd (omega arith)
text_is (suc m) q us i (c ∷ cs) h l =
    let G : Element → Type 0 = Gives (IsText q us i (c ∷ cs)) (i + suc (length cs)) in
    by_cases G (eqb c q) _ _ (λ t. ([], cs, [], ap (λ x. x ∷ cs) (eqb-true c q t), omega arith, sym (append-nil us), none))
    (λ f. by_cases G (eqb c 92) _ _
    (λ t. subst (λ x. Gives (IsText q us i (x ∷ cs)) (i + suc (length cs)) (elim (escape cs) [ Cut ↦ Stop Lexical 0 | Wrong ↦ Stop Lexical i | Stands code n ↦ text_from q (us ++ units_of code) (i + 1) n cs | Continues n ↦ text_from q us (i + 1) n cs ])) (sym (eqb-true c 92 t))
    (at_escape q us i cs (escape cs) (escape_is q cs) (λ vs k. text_is m q vs (i + 1 + k) (drop k cs) (omega (arith, length-drop k cs)) (omega arith))))
    (λ b. by_cases G (is_line_terminator c) _ _ (λ t. omega arith)
    (λ n. gives_more (IsText q (us ++ units_of c) (i + 1) cs) (IsText q us i (c ∷ cs)) (i + 1 + length cs) (i + suc (length cs)) _ (omega arith)
    (λ vs k t. with_front q us (units_of c) i 1 (c ∷ []) cs vs k refl (λ body after ws e s. itself f b n s) t)
    (text_is m q (us ++ units_of c) (i + 1) cs (omega arith) (omega arith)))))

quoted_is : (q : ℕ) (body us : List ℕ) → is_quote q ≡ true → StringCharacters q body us → SpellsToken (lexical.Text us) (q ∷ (body ++ (q ∷ [])))
quoted_is q body us e s = elim (or_cases (eqb q 34) (eqb q 39) e) [
  | inl a ↦ (let is = eqb-true q 34 a in subst (λ x. SpellsToken (lexical.Text us) (x ∷ (body ++ (x ∷ [])))) (sym is) (double_quoted (subst (λ x. StringCharacters x body us) is s)))
  | inr a ↦ (let is = eqb-true q 39 a in subst (λ x. SpellsToken (lexical.Text us) (x ∷ (body ++ (x ∷ [])))) (sym is) (single_quoted (subst (λ x. StringCharacters x body us) is s)))
]

read_text : (q : ℕ) (cs : List ℕ) (e : Element) → is_quote q ≡ true → Gives (IsText q [] 1 cs) (1 + length cs) e → IsRead (q ∷ cs) e
read_text q cs (Take (Text us) n) quote (body, after, ws, split, size, all, characters) = (
  q ∷ (body ++ (q ∷ [])),
  after,
  ap (λ x. q ∷ x) (split ∙ sym (append_assoc body (q ∷ []) after)),
  omega (arith, size, length-append body (q ∷ [])),
  omega (arith, size),
  quoted_is q body us quote (subst (λ x. StringCharacters q body x) (sym all) characters),
  refl,
)
read_text q cs (Take (Word name) n) quote h = absurd h
read_text q cs (Take (Integer value) n) quote h = absurd h
read_text q cs (Take (Punctuator p) n) quote h = absurd h
read_text q cs (Stop Lexical at) quote h = omega arith
read_text q cs (Stop Number at) quote h = absurd h
read_text q cs (Skip n line) quote h = absurd h
read_text q cs Finished quote h = absurd h

pub text_element_is : (q : ℕ) (cs : List ℕ) → is_quote q ≡ true → IsRead (q ∷ cs) (text_element (q ∷ cs))
text_element_is q cs quote = read_text q cs _ quote (text_is (length cs) q [] 1 cs (omega arith) (omega arith))
