-- What is answered for the tokens of a text, by what the model of es5_reading reads of them.
use Rattle.std.specs.Prelude.{◌≡◌, ℕ, ◌==◌, Bool, false, cond, List, [], ◌∷◌, Option, Some, None, Result, Ok, Err}
use Rattle.es_text.specs.declared.units.TextFault.{TextFault}
use Rattle.es_text.specs.declared.units.TextFault.TheVariants as text_fault
use Rattle.es5_ast.specs.declared.tree.Stat5.{Stat5}
use Rattle.es5_ast.specs.Lexical.{Token5}
use Rattle.es5_early.specs.declared.pair.Pair.{Pair}
use Rattle.es5_early.specs.declared.pair.Rule.{Rule}
use Rattle.es5_early.specs.declared.pair.Rule.TheVariants.{Early, Outside}
use Rattle.es5_tokens.specs.declared.token.TokenFault.{TokenFault}
use Rattle.es5_tokens.specs.declared.token.TokenFault.TheVariants.{Lexical, Number}
use Rattle.es5_reading.specs.Parser as p
use Rattle.es5_reading.specs.Parser.{Stop5, Outcome5}
use Rattle.es5_text.specs.declared.fault.Fault5.{Fault5}
use Rattle.es5_text.specs.declared.fault.Fault5.TheVariants.{Lexical5, Syntax5, Early5, Outside5, Depth5, OutOfMemory}

-- ## Of the parts of the reading

abbrev pub of_text : TextFault → Fault5
of_text (text_fault.NotUtf8 at) = Lexical5 at
of_text text_fault.OutOfMemory = OutOfMemory

abbrev pub by_rule : Rule → ℕ → Fault5
by_rule (Early rule) at = Early5 rule at
by_rule (Outside rule) at = Outside5 rule at

abbrev pub of_pair : Pair → Fault5
of_pair pair = by_rule pair.rule pair.at

-- ## Of what the model reads

abbrev pub of_token : TokenFault → ℕ → Fault5
of_token Lexical at = Lexical5 at
of_token Number at = Outside5 5 at

abbrev pub of_stop : Stop5 → ℕ → Fault5
of_stop p.Syntax at = Syntax5 at
of_stop p.Depth at = Depth5 at
of_stop (p.Outside rule) at = Outside5 rule at
of_stop p.Endless at = OutOfMemory

-- whether the directive is missing, which goes before a number that is outside the profile
abbrev pub is_missing : Stop5 → Bool
is_missing (p.Outside rule) = rule == 1
is_missing p.Syntax = false
is_missing p.Depth = false
is_missing p.Endless = false

-- where the tokens end, or a fault of theirs stands
abbrev pub at_end : Stop5 → ℕ → Option TokenFault → Fault5
at_end stop end None = of_stop stop end
at_end stop end (Some Lexical) = of_token Lexical end
at_end stop end (Some Number) = cond (is_missing stop) (of_stop stop end) (of_token Number end)

abbrev pub stopped : Stop5 → List Token5 → ℕ → Option TokenFault → Fault5
stopped stop [] end fault = at_end stop end fault
stopped stop (t ∷ ts) end fault = of_stop stop t.begin

-- what is answered for tokens, by what is read of them
abbrev pub answer_of : Outcome5 (List Stat5) → ℕ → Option TokenFault → Result (List Stat5) Fault5
answer_of (p.Took xs c) end None = Ok xs
answer_of (p.Took xs c) end (Some fault) = Err (of_token fault end)
answer_of (p.Fault stop rest) end fault = Err (stopped stop rest end fault)

-- memory that runs out says nothing
abbrev pub Answers : Result (List Stat5) Fault5 → Result (List Stat5) Fault5 → Type 0
Answers (Ok xs) wanted = wanted ≡ Ok xs
Answers (Err (Lexical5 at)) wanted = wanted ≡ Err (Lexical5 at)
Answers (Err (Syntax5 at)) wanted = wanted ≡ Err (Syntax5 at)
Answers (Err (Early5 rule at)) wanted = wanted ≡ Err (Early5 rule at)
Answers (Err (Outside5 rule at)) wanted = wanted ≡ Err (Outside5 rule at)
Answers (Err (Depth5 at)) wanted = wanted ≡ Err (Depth5 at)
Answers (Err OutOfMemory) wanted = Unit {0}
