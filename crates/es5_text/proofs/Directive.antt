-- How a script begins, by what is known of its first two tokens.
use Rattle.std.proofs.Common.{◌≡◌, ℕ, zero, suc, true, false, List, [], ◌∷◌, Some, None, refl, sym, ap, ◌∙◌}
use Rattle.std.specs.Prelude.{cond}
use Rattle.es5_ast.specs.Lexical.{Token5}
use Rattle.es5_reading.specs.Parser.{Input5, Stop5, Syntax, Outside, Fault, next_is}
use Rattle.es5_ast.specs.Depth.{most_open}
use Rattle.es5_reading.specs.Programs.{readers, program, is_directive, second_fault, directive_fault, unless_fault, script}
use Rattle.es5_cursor.specs.Takes.{passed}
use Rattle.es5_text.specs.Directive.{continues_behind}
use Rattle.es5_cursor.specs.Readers.{turns, inner}

pub no_directive : (ts : List Token5) → next_is is_directive ts ≡ false → directive_fault ts ≡ Some (Outside 1, ts)
no_directive [] h = refl
no_directive (t ∷ ts) h = ap (λ b. cond b (second_fault ts) (Some (Outside 1, t ∷ ts))) h

pub goes_on : (c d : Input5) → next_is is_directive c.tokens ≡ true → continues_behind c.tokens ≡ true → d ≡ passed true c → directive_fault c.tokens ≡ Some (Syntax, d.tokens)
goes_on c d h k e = at c.tokens c.last h k ∙ ap (λ x. Some (Syntax, x.tokens)) (sym e)
  where
    at : (ts : List Token5) (last : ℕ) → next_is is_directive ts ≡ true → continues_behind ts ≡ true → directive_fault ts ≡ Some (Syntax, (passed true (record { tokens = ts; last = last })).tokens)
    at [] last h k = absurd (cc)
    at (t ∷ []) last h k = absurd (cc)
    at (t ∷ u ∷ ts) last h k = ap (λ b. cond b (second_fault (u ∷ ts)) (Some (Outside 1, t ∷ u ∷ ts))) h ∙ ap (λ b. cond b (Some (Syntax, u ∷ ts)) None) k

pub is_alone : (ts : List Token5) → next_is is_directive ts ≡ true → continues_behind ts ≡ false → directive_fault ts ≡ None
is_alone [] h k = absurd (cc)
is_alone (t ∷ []) h k = ap (λ b. cond b (second_fault []) (Some (Outside 1, t ∷ []))) h
is_alone (t ∷ u ∷ ts) h k = ap (λ b. cond b (second_fault (u ∷ ts)) (Some (Outside 1, t ∷ u ∷ ts))) h ∙ ap (λ b. cond b (Some (Syntax, u ∷ ts)) None) k

fuel_turns : (room : ℕ) → (inner room).fuel ≡ turns
unfolding readers
fuel_turns zero = refl
fuel_turns (suc room) = refl

pub script_begins : (c : Input5) → c.last ≡ 0 → directive_fault c.tokens ≡ None → script turns c.tokens ≡ program (inner most_open) (inner most_open).fuel c
unfolding script
script_begins c e h =
    ap (λ f. unless_fault f (program (inner most_open) turns (record { tokens = c.tokens; last = 0 }))) h
    ∙ ap (λ n. program (inner most_open) n (record { tokens = c.tokens; last = 0 })) (sym (fuel_turns most_open))
    ∙ ap (λ n. program (inner most_open) (inner most_open).fuel (record { tokens = c.tokens; last = n })) (sym e)

pub script_stops : (ts us : List Token5) (stop : Stop5) → directive_fault ts ≡ Some (stop, us) → script turns ts ≡ Fault stop us
unfolding script
script_stops ts us stop h = ap (λ f. unless_fault f (program (inner most_open) turns (record { tokens = ts; last = 0 }))) h
