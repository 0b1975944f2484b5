-- What no reader makes of a token at a break: where something may go on, it doesn't go on with that.
use Rattle.std.proofs.Common.{◌≡◌, ◌∙◌, Bool, true, false, ◌||◌, ◌&&◌, not, ℕ, List, Option, Some, None, refl, sym, ap, subst, eq-eqb}
use Rattle.std.proofs.lemmas.Bool.{false≢true}
use Rattle.std.specs.Prelude.{codes, ◌==◌}
use Rattle.es5_ast.specs.declared.operators.BinaryOperator5.{BinaryOperator5}
use Rattle.es5_ast.specs.Lexical.{Kind5, Punctuator, Token5}
use Rattle.es5_ast.specs.Grammar.{is_mark, binary_kind, binary_level, is_in}
use Rattle.es5_reading.specs.Parser.{kept_if, mark, ending}
use Rattle.es5_reading.specs.Expressions.{after_at, assign_at, binary_at, look_up, binary_operators, operator_of_level, unless}
use Rattle.es5_reading.specs.Statements.{label_at, goes_on}
use Rattle.es5_reading.proofs.CompleteTokens.{mark-miss}
use Rattle.es5_reading.proofs.Meanings.{mark-is, assign-means, binary-means}
use Rattle.es5_break_laws.specs.Breaks.{GoesOn, operator, assignment, IsBreak}

none-if : {A : Type 0} (o : Option A) → ((x : A) → o ≡ Some x → ⊥) → o ≡ None
none-if None f = refl
none-if (Some x) f = absurd (f x refl)

false-if : (b : Bool) → (b ≡ true → ⊥) → b ≡ false
false-if false f = refl
false-if true f = absurd (f refl)

module _ (t : Token5) (q : IsBreak t) where
  pub no-mark : (p : List ℕ) → GoesOn (Punctuator p) → is_mark p t.kind ≡ false
  no-mark p g = false-if (is_mark p t.kind) (λ e. q.plain (subst GoesOn (sym (mark-is p t.kind e)) g))

  pub mark-none : (p : List ℕ) → GoesOn (Punctuator p) → mark p t ≡ None
  mark-none p g = mark-miss p t (no-mark p g)

  pub binary-none : (k : Bool) (level : ℕ) → binary_at k level t ≡ None
  binary-none k level = none-if (binary_at k level t) (λ op e. q.plain (subst GoesOn (sym (binary-means k level op t e).0) (operator op)))

  pub assign-none : assign_at t ≡ None
  assign-none = none-if (assign_at t) (λ op e. q.plain (subst GoesOn (sym (assign-means op t e)) (assignment op)))

  -- at any level
  pub operator-none : look_up binary_kind binary_operators t.kind ≡ None
  operator-none = none-if (look_up binary_kind binary_operators t.kind) (λ op e. found op (sym (ap (λ o. operator_of_level false (binary_level op) o) e) ∙ binary-none false (binary_level op)))
    where
      found : (op : BinaryOperator5) → operator_of_level false (binary_level op) (Some op) ≡ None → ⊥
      found op h = at (binary_level op == binary_level op) (eq-eqb (binary_level op) (binary_level op) refl) h
        where
          at : (b : Bool) → b ≡ true → unless (not b || (false && is_in op)) (Some op) ≡ None → ⊥
          at true e h = absurd (cc)
          at false e h = absurd (false≢true e)

  pub ending-none : ending t ≡ None
  ending-none = ap (λ b. kept_if b t) q.no_end

  -- a closing brace, or a token that begins a line
  on-line : (P : Bool → Kind5 → Type 0) → ((k : Kind5) → P true k) → P false (Punctuator (codes "}")) → P t.after_line t.kind
  on-line P first brace = by t.after_line t.kind q.line
    where
      by : (b : Bool) (k : Kind5) → (b || is_mark (codes "}") k) ≡ true → P b k
      by true k h = first k
      by false k h = subst (P false) (sym (mark-is (codes "}") k h)) brace

  pub after-none : after_at t ≡ None
  after-none = on-line (λ b k. after_at (record { begin = t.begin; end = t.end; after_line = b; kind = k }) ≡ None) (λ k. refl) refl

  pub label-none : label_at t ≡ None
  label-none = on-line (λ b k. label_at (record { begin = t.begin; end = t.end; after_line = b; kind = k }) ≡ None) (λ k. refl) refl

  pub value-none : goes_on t ≡ false
  value-none = on-line (λ b k. goes_on (record { begin = t.begin; end = t.end; after_line = b; kind = k }) ≡ false) (λ k. refl) refl
