-- What laws of a reader say of what is answered by it.
use Rattle.std.proofs.Common.{◌≡◌, ℕ, suc, ◌+◌, ◌-◌, ◌<◌, ◌≤◌, List, [], ◌∷◌, ◌++◌, length, take, drop, map, refl, sym, ap, subst, ◌∙◌, append_assoc, length-append, arith}
use Rattle.std.specs.Prelude.{Result, Ok, Err, IfOk, IfErr}
use Rattle.std.proofs.Math.Seq.{drop-append_seam}
use Rattle.std.proofs.lemmas.List.{length-drop, length-map, take-append-drop}
use Rattle.es6_lexer.specs.declared.token.Token.{Token}
use Rattle.es6_ast.specs.declared.settings.Stop.{Stop}
use Rattle.es6_ast.specs.declared.settings.Stop.TheVariants as stops
use Rattle.es6_ast.specs.Tokens.{Filled, read}
use Rattle.es6_reading.specs.Parser.{Input, Outcome, Took, Fault, Parser}
use Rattle.es6_reading.specs.Laws.{Says}
use Rattle.es6_reading.proofs.Places.{Rest, all, less, Leaves, fault_rest}
use Rattle.es6_reading_laws.specs.Fronts.{Settles, reads}
use Rattle.es6_reading_laws.specs.es6_viability.TooDeep.{IsShallowIn, Passes}
use Rattle.es6_reading_laws.proofs.es6_viability.Passed.{split}
use Rattle.es6_reading_laws.proofs.es6_viability.SpelledAlone.{Spelled}
use Rattle.es6_expr.specs.declared.fault.ParseFault.{ParseFault}
use Rattle.es6_expr.specs.Faults.{fault_of, place_of}
use Rattle.es6_expr.specs.Parsed.{Answers, Gives, Refuses, IsFaultIn, IsShallow, IsTheOnly, Stands, input_at, took, out_of_memory, stopped}

-- ## What is taken

-- The tokens behind what is read are those from the number on that is answered.
rest-at : (whole front rest : List Token) (from at : ℕ) → drop from whole ≡ front ++ rest → at ≡ length whole - length rest → drop at whole ≡ rest
rest-at whole front rest from at e h =
    let parts : whole ≡ (take from whole ++ front) ++ rest = sym (take-append-drop from whole) ∙ ap (λ l. take from whole ++ l) e ∙ sym (append_assoc (take from whole) front rest) in
    let n : at ≡ length (take from whole ++ front) = omega (arith, ap length parts, length-append (take from whole ++ front) rest, h) in
    ap (λ k. drop k whole) n ∙ ap (λ l. drop (length (take from whole ++ front)) l) parts ∙ drop-append_seam (take from whole ++ front) rest

within : (n k at : ℕ) → at ≡ n - k → at ≤ n
within n k at e = omega arith

-- what is left behind the token isn't longer than the tokens behind it
left-behind : (n from left front behind at : ℕ) → n - from ≡ front + suc behind → at ≡ n - left → from + front < at → left ≤ behind
left-behind n from left front behind at e h b = omega arith

taken-so : {A B : Type 0} {made : A → B} {x : B} {us : List Filled} {y : A} {c : Input} → Settles made x us (Took y c) → (made y ≡ x) × (c.tokens ≡ us)
taken-so (reads h t) = (h, t)

module _ {A B : Type 0} (made : A → B) (tokens : List Token) (from : ℕ) (p : Parser A) where
  abbrev AnswersBy : Result (B × ℕ) ParseFault → Type 0
  AnswersBy r = Answers made tokens (p (input_at tokens from)) r

  -- ## What it is spelled by

  module _ (Spells : B → List Token → List Token → Type 0) (spelled : (y : A) (c : Input) → p (input_at tokens from) ≡ Took y c → Spelled (Spells (made y)) (drop from tokens) c.tokens) where
    abbrev IsSpelled : B × ℕ → Type 0
    IsSpelled r = (r.1 ≤ length tokens) × Spells r.0 (drop from tokens) (drop r.1 tokens)

    spelled-of : (x : B) (at : ℕ) → Gives made tokens (p (input_at tokens from)) x at → IsSpelled (x, at)
    spelled-of x at (took y c e v h) =
        let s = spelled y c e in
        let rest : drop at tokens ≡ s.rest = rest-at tokens s.front s.rest from at s.parts (h ∙ ap (λ n. length tokens - n) (ap length s.left_ ∙ length-map s.rest read)) in
        (within (length tokens) (length c.tokens) at h, subst (λ z. Spells z (drop from tokens) (drop at tokens)) (sym v) (subst (λ us. Spells (made y) (drop from tokens) us) (sym rest) s.spelled))

    pub spelled-in : (r : Result (B × ℕ) ParseFault) → AnswersBy r → IfOk r IsSpelled
    spelled-in (Ok r) h = spelled-of r.0 r.1 h
    spelled-in (Err fault) h = tt

  -- ## How many constructs are open in it

  module _ (room : ℕ) (count : B → List Token → ℕ) (shallow : IsShallowIn room (λ y. count (made y)) p) where
    shallow-of : (x : B) (at : ℕ) → Gives made tokens (p (input_at tokens from)) x at → IsShallow room count tokens from (x, at)
    shallow-of x at (took y c e v h) text front behind t whole below =
        let lengths : length tokens - from ≡ length front + suc (length behind) = sym (length-drop from tokens) ∙ ap length whole ∙ length-append front (t ∷ behind) in
        subst (λ z. count z (front ++ t ∷ []) ≤ room) (sym v) (shallow (drop from tokens) text y c e front behind t whole (left-behind (length tokens) from (length c.tokens) (length front) (length behind) at lengths h below))

    pub shallow-in : (r : Result (B × ℕ) ParseFault) → AnswersBy r → IfOk r (IsShallow room count tokens from)
    shallow-in (Ok r) h = shallow-of r.0 r.1 h
    shallow-in (Err fault) h = tt

  -- ## That it is the only one

  module _ (Begins : B → List Token → Type 0) (settles : (x : B) (rest : List Token) → Begins x rest → Settles made x (map read rest) (p (input_at tokens from))) where
    only-of : (x : B) (at : ℕ) → Gives made tokens (p (input_at tokens from)) x at → IsTheOnly Begins tokens (x, at)
    only-of x at (took y c e v h) z rest b =
        let s = taken-so (subst (λ r. Settles made z (map read rest) r) e (settles z rest b)) in
        (v ∙ s.0, h ∙ ap (λ us. length tokens - length us) s.1 ∙ ap (λ n. length tokens - n) (length-map rest read))

    pub only-in : (r : Result (B × ℕ) ParseFault) → AnswersBy r → IfOk r (IsTheOnly Begins tokens)
    only-in (Ok r) h = only-of r.0 r.1 h
    only-in (Err fault) h = tt

-- ## Faults

parts-of : {ts us : List Filled} → Rest ts us → (front : List Filled) × (ts ≡ front ++ us)
parts-of all = ([], refl)
parts-of (less {t = t} h) = let f = parts-of h in (t ∷ f.0, ap (λ vs. t ∷ vs) f.1)

of-fault : {A : Type 0} {ts us : List Filled} {stop : Stop} → Leaves {A = A} ts (Fault stop us) → Says stop us × Rest ts us
of-fault (fault_rest k r) = (k, r)

module _ {A B : Type 0} (made : A → B) (Begins : List Token → Type 0) (Few : List Token → Token → Type 0) (Stops : Stop → List Token → List Token → Type 0) (p : Parser A) (leaves : (s : Input) → Leaves s.tokens (p s))
    (begins : (front behind : List Token) (stop : Stop) → p (record { tokens = map read (front ++ behind); last = 0 }) ≡ Fault stop (map read behind) → (stop ≡ stops.Endless → ⊥) → Begins front)
    (few_so : (front behind : List Token) (t : Token) → Passes (length behind) (p (record { tokens = map read (front ++ t ∷ behind); last = 0 })) → Few front t)
    (stops_so : (front rest : List Token) (stop : Stop) → p (record { tokens = map read (front ++ rest); last = 0 }) ≡ Fault stop (map read rest) → Stops stop front rest) (tokens : List Token) (from : ℕ) where
  few-before : (front rest before behind : List Token) (t : Token) (stop : Stop) → front ≡ before ++ t ∷ behind → p (record { tokens = map read (front ++ rest); last = 0 }) ≡ Fault stop (map read rest) → (stop ≡ stops.Endless → ⊥) → Few before t
  few-before front rest before behind t stop e h final =
      let whole : front ++ rest ≡ before ++ t ∷ (behind ++ rest) = ap (λ ts. ts ++ rest) e ∙ append_assoc before (t ∷ behind) rest in
      let there : p (record { tokens = map read (before ++ t ∷ (behind ++ rest)); last = 0 }) ≡ Fault stop (map read rest) = ap (λ ts. p (record { tokens = map read ts; last = 0 })) (sym whole) ∙ h in
      few_so before (behind ++ rest) t (subst (λ o. Passes (length (behind ++ rest)) o) (sym there) (final, omega (arith, length-map rest read, length-append behind rest)))

  stands : (stop : Stop) (ts : List Filled) → p (input_at tokens from) ≡ Fault stop ts → (stop ≡ stops.Endless → ⊥) → Stands Begins Few Stops tokens from stop (place_of (map read tokens) ts)
  stands stop ts e final =
      let g = of-fault {A = A} {stop = stop} (subst (λ q. Leaves (map read (drop from tokens)) q) e (leaves (input_at tokens from))) in
      let r = parts-of g.1 in
      let s = split (drop from tokens) r.0 ts r.1 in
      let there : p (record { tokens = map read (s.front ++ s.behind); last = 0 }) ≡ Fault stop (map read s.behind) =
      ap (λ us. p (record { tokens = map read us; last = 0 })) (sym s.whole) ∙ e ∙ ap (λ us. Fault stop us) (sym s.left_) in
      record {
        front = s.front;
        rest = s.behind;
        parts = s.whole;
        place = ap (place_of (map read tokens)) (sym s.left_);
        begins = begins s.front s.behind stop there final;
        few = λ before behind t w. few-before s.front s.behind before behind t stop w there final;
        stops = stops_so s.front s.behind stop there;
        says = subst (λ us. Says stop us) (sym s.left_) g.0;
      }

  fault-in : (stop : Stop) (at : ℕ) → ((stop ≡ stops.Endless → ⊥) → Stands Begins Few Stops tokens from stop at) → IsFaultIn Begins Few Stops tokens from (fault_of stop at)
  fault-in stops.Syntax at h = h (λ e. absurd (cc))
  fault-in (stops.Lexical kind) at h = h (λ e. absurd (cc))
  fault-in (stops.Outside rule) at h = h (λ e. absurd (cc))
  fault-in stops.Depth at h = h (λ e. absurd (cc))
  fault-in stops.Endless at h = tt

  fault-of : (fault : ParseFault) → Refuses tokens (p (input_at tokens from)) fault → IsFaultIn Begins Few Stops tokens from fault
  fault-of fault (out_of_memory e) = subst (IsFaultIn Begins Few Stops tokens from) (sym e) tt
  fault-of fault (stopped stop ts e f) = subst (IsFaultIn Begins Few Stops tokens from) (sym f) (fault-in stop (place_of (map read tokens) ts) (λ final. stands stop ts e final))

  pub faults-in : (r : Result (B × ℕ) ParseFault) → Answers made tokens (p (input_at tokens from)) r → IfErr r (IsFaultIn Begins Few Stops tokens from)
  faults-in (Ok r) h = tt
  faults-in (Err fault) h = fault-of fault h
