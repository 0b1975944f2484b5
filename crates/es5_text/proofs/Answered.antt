-- What is answered for the tokens of a text is a fault of it, or its script.
use Rattle.std.proofs.Common.{◌≡◌, inl, inr, ℕ, Bool, true, false, List, [], ◌∷◌, ◌++◌, map, Option, Some, None, refl, sym, ap, subst}
use Rattle.std.specs.Prelude.{Result, Ok, Err, IfOk, IfErr, cond}
use Rattle.std.specs.Str.{chars, IsUtf8}
use Rattle.es_text.specs.declared.Span.{Span}
use Rattle.es_text.specs.declared.units.TextFault.{TextFault}
use Rattle.es_text.specs.declared.units.TextFault.TheVariants as text_fault
use Rattle.es_text.specs.Units.{IsTextFault}
use Rattle.es5_ast.specs.declared.tree.Script.{Script}
use Rattle.es5_ast.specs.declared.tree.Stat5.{Stat5}
use Rattle.es5_ast.specs.Lexical.{Token5}
use Rattle.es5_ast.specs.Grammar.{across}
use Rattle.es5_ast.specs.Early.{IsFirst, script_pairs}
use Rattle.es5_early.specs.declared.pair.Pair.{Pair}
use Rattle.es5_early.specs.declared.pair.Rule.{Rule}
use Rattle.es5_early.specs.declared.pair.Rule.TheVariants.{Early, Outside}
use Rattle.es5_early.specs.Pairs.{rule_of, pair_of}
use Rattle.es5_tokens.specs.declared.token.Token.{Token}
use Rattle.es5_tokens.specs.declared.token.TokenFault.{TokenFault}
use Rattle.es5_tokens.specs.declared.token.TokenFault.TheVariants.{Lexical, Number}
use Rattle.es5_tokens.specs.Lexes.{LexesFrom}
use Rattle.es5_tokens.specs.Tokens.{token5, Reads}
use Rattle.es5_reading.specs.Parser as p
use Rattle.es5_reading.specs.Parser.{Input5, Stop5, Outcome5}
use Rattle.es5_reading.specs.Programs.{script}
use Rattle.es5_reading.proofs.Filled.{complete}
use Rattle.es5_reading.proofs.Places.{places}
use Rattle.es5_reading.proofs.Stays.{full-readings}
use Rattle.es5_reading_laws.specs.Laws.{IsFinal, Says}
use Rattle.es5_reading_laws.proofs.DeadFaults.{faults-say, faults-stay}
use Rattle.es5_break_laws.proofs.WholeScripts.{whole-dead}
use Rattle.es5_cursor.specs.Readers.{turns}
use Rattle.es5_text.specs.declared.fault.Fault5.{Fault5}
use Rattle.es5_text.specs.declared.fault.Fault5.TheVariants.{Lexical5, Syntax5, Early5, Outside5, Depth5, OutOfMemory}
use Rattle.es5_text.specs.Accepted.{NoneGoesOn}
use Rattle.es5_text.specs.Parsed.{IsDerived, IsParsed}
use Rattle.es5_text.specs.Answer.{Answers, answer_of, at_end, by_rule, of_pair, of_stop, of_text, is_missing, stopped}
use Rattle.es5_text.specs.Faults.{IsFault, IsReached, Lexed5, place_of}
use Rattle.es5_text.specs.Read.{IsRead, IsRefused, out_of_memory, not_utf8, unread, paired, statements_of}
use Rattle.es5_text.proofs.Parsed.{derived_of, parsed_of}

abbrev IsAnswer : List ℕ → Result (List Stat5) Fault5 → Type 0
IsAnswer bytes (Ok xs) = Unit {0}
IsAnswer bytes (Err fault) = IsFault bytes fault

-- where the reader stops
record Stands (bytes : List ℕ) (stop : Stop5) (at : ℕ) : Type 0 where
  reached : IsReached bytes at
  dead : IsFinal stop → NoneGoesOn reached.front reached.rest
  says : Says stop reached.rest

stop_is : (bytes : List ℕ) (at : ℕ) (stop : Stop5) → Stands bytes stop at → IsFault bytes (of_stop stop at)
stop_is bytes at p.Syntax s = record { reached = s.reached; dead = s.dead tt }
stop_is bytes at p.Depth s = s.reached
stop_is bytes at (p.Outside rule) s = inr (inl (record { dead = record { reached = s.reached; dead = s.dead tt }; row = s.says }))
stop_is bytes at p.Endless s = tt

by_missing : (bytes : List ℕ) (b : Bool) (x y : Fault5) → IsFault bytes x → IsFault bytes y → IsFault bytes (cond b x y)
by_missing bytes true x y h k = h
by_missing bytes false x y h k = k

end_is : (bytes : List ℕ) (l : Lexed5 bytes) (stop : Stop5) (fault : Option TokenFault) → Stands bytes stop l.end → l.fault ≡ fault → IsFault bytes (at_end stop l.end fault)
end_is bytes l stop None s e = stop_is bytes l.end stop s
end_is bytes l stop (Some Lexical) s e = inr (record { lexed = l; ended = e; place = refl })
end_is bytes l stop (Some Number) s e = by_missing bytes (is_missing stop) _ _ (stop_is bytes l.end stop s) (inr (inr (refl, record { lexed = l; ended = e; place = refl })))

stopped_is : (bytes : List ℕ) (l : Lexed5 bytes) (stop : Stop5) (rest : List Token5) → Stands bytes stop (place_of l.end rest) → IsFault bytes (stopped stop rest l.end l.fault)
stopped_is bytes l stop [] s = end_is bytes l stop l.fault s refl
stopped_is bytes l stop (t ∷ ts) s = stop_is bytes t.begin stop s

took_is : (bytes : List ℕ) (l : Lexed5 bytes) (xs : List Stat5) (c : Input5) (fault : Option TokenFault) → l.fault ≡ fault → IsAnswer bytes (answer_of (p.Took xs c) l.end fault)
took_is bytes l xs c None e = tt
took_is bytes l xs c (Some Lexical) e = inr (record { lexed = l; ended = e; place = refl })
took_is bytes l xs c (Some Number) e = inr (inr (refl, record { lexed = l; ended = e; place = refl }))

abbrev reached : (bytes : List ℕ) (l : Lexed5 bytes) (front rest : List Token5) → map token5 l.tokens ≡ front ++ rest → IsReached bytes (place_of l.end rest)
reached bytes l front rest e = record { lexed = l; front = front; rest = rest; parts = e; place = refl }

-- a fault for want of constructs or of turns stands among the tokens, any other where no script goes on
stands : (bytes : List ℕ) (l : Lexed5 bytes) (fuel : ℕ) (stop : Stop5) (rest : List Token5) → script fuel (map token5 l.tokens) ≡ p.Fault stop rest → Stands bytes stop (place_of l.end rest)
stands bytes l fuel stop rest e = by stop e (faults-say fuel (map token5 l.tokens) stop rest e) (λ final. whole-dead (full-readings complete) faults-stay fuel (map token5 l.tokens) stop rest e final)
  where
    by : (stop : Stop5) → script fuel (map token5 l.tokens) ≡ p.Fault stop rest → Says stop rest → (IsFinal stop → (front : List Token5) × (map token5 l.tokens ≡ front ++ rest) × NoneGoesOn front rest) → Stands bytes stop (place_of l.end rest)
    by p.Syntax e m d = let h = d tt in record { reached = reached bytes l h.0 rest h.1; dead = λ final. h.2; says = m }
    by p.Depth e m d = let h = places fuel (map token5 l.tokens) p.Depth rest e in record { reached = reached bytes l h.0 rest h.1; dead = λ final. absurd final; says = m }
    by (p.Outside rule) e m d = let h = d tt in record { reached = reached bytes l h.0 rest h.1; dead = λ final. h.2; says = m }
    by p.Endless e m d = let h = places fuel (map token5 l.tokens) p.Endless rest e in record { reached = reached bytes l h.0 rest h.1; dead = λ final. absurd final; says = m }

answer_is : (bytes : List ℕ) (l : Lexed5 bytes) (fuel : ℕ) (o : Outcome5 (List Stat5)) → script fuel (map token5 l.tokens) ≡ o → IsAnswer bytes (answer_of o l.end l.fault)
answer_is bytes l fuel (p.Took xs c) e = took_is bytes l xs c l.fault refl
answer_is bytes l fuel (p.Fault stop rest) e = stopped_is bytes l stop rest (stands bytes l fuel stop rest e)

record Whole (o : Outcome5 (List Stat5)) (fault : Option TokenFault) (xs : List Stat5) : Type 0 where
  after : Input5
  read : o ≡ p.Took xs after
  ended : fault ≡ None

whole : (o : Outcome5 (List Stat5)) (end : ℕ) (fault : Option TokenFault) (xs : List Stat5) → answer_of o end fault ≡ Ok xs → Whole o fault xs
whole (p.Took ys c) end None xs e = record { after = c; read = ap (λ r. p.Took (got r) c) e; ended = refl }
  where
    got : Result (List Stat5) Fault5 → List Stat5
    got (Ok zs) = zs
    got (Err f) = []
whole (p.Took ys c) end (Some fault) xs e = absurd (cc)
whole (p.Fault stop rest) end fault xs e = absurd (cc)

-- the script of tokens that are read up to their end
derived_answer : (bytes : List ℕ) (l : Lexed5 bytes) (fuel : ℕ) (xs : List Stat5) (span : Span) → answer_of (script fuel (map token5 l.tokens)) l.end l.fault ≡ Ok xs → span ≡ across (map token5 l.tokens) []
    → IsDerived bytes (record { span = span; statements = xs })
derived_answer bytes l fuel xs span e s =
    let w = whole (script fuel (map token5 l.tokens)) l.end l.fault xs e in
    derived_of bytes l.tokens l.end fuel xs w.after span l.utf8 (subst (λ f. Reads (chars bytes) l.tokens l.end f) w.ended l.reads) w.read s

-- the pair that comes first of a script that is none of the profile
pair_is : (bytes : List ℕ) (tree : Script) (pair : Pair) → IsDerived bytes tree → IsFirst (pair_of pair) (script_pairs tree.statements) → IsFault bytes (of_pair pair)
pair_is bytes tree pair d h = at pair.rule refl
  where
    at : (rule : Rule) → pair.rule ≡ rule → IsFault bytes (by_rule rule pair.at)
    at (Early n) e = record { script = tree; derived = d; first = subst (λ r. IsFirst (record { rule = rule_of r; at = pair.at }) (script_pairs tree.statements)) e h }
    at (Outside n) e = inl (record { script = tree; derived = d; first = subst (λ r. IsFirst (record { rule = rule_of r; at = pair.at }) (script_pairs tree.statements)) e h })

-- ## Of what is read

pub parsed : (bytes : List ℕ) (r : Result Script Fault5) → IsRead bytes r → IfOk r (λ tree. IsParsed bytes tree)
parsed bytes (Ok tree) h = parsed_of bytes tree (derived_answer bytes h.lexed turns tree.statements tree.span h.read h.span) h.legal
parsed bytes (Err fault) h = tt

refusal : (bytes : List ℕ) (fault : Fault5) → IsRefused bytes fault → IsFault bytes fault
refusal bytes fault (out_of_memory e) = subst (IsFault bytes) (sym e) tt
refusal bytes fault (not_utf8 at h e) = subst (IsFault bytes) (sym e) (inl h)
refusal bytes fault (unread l e) = subst (IsAnswer bytes) e (answer_is bytes l turns _ refl)
refusal bytes fault (paired l statements pair e h f) =
    let derived = derived_answer bytes l turns statements (across (map token5 l.tokens) []) e refl in
    subst (IsFault bytes) (sym f) (pair_is bytes (record { span = across (map token5 l.tokens) []; statements = statements }) pair derived h)

pub faults : (bytes : List ℕ) (r : Result Script Fault5) → IsRead bytes r → IfErr r (λ fault. IsFault bytes fault)
faults bytes (Ok tree) h = tt
faults bytes (Err fault) h = refusal bytes fault h

-- ## Of the parts of the reading

-- the tokens that are read of a text's characters
abbrev pub lexed_of : (bytes text : List ℕ) (tokens : List Token) (end : ℕ) (fault : Option TokenFault) → IsUtf8 bytes → text ≡ chars bytes
    → LexesFrom false 0 text tokens end fault → Reads text tokens end fault → Lexed5 bytes
lexed_of bytes text tokens end fault utf8 same lexes reads = record {
  utf8 = utf8;
  tokens = tokens;
  end = end;
  fault = fault;
  lexes = subst (λ cs. LexesFrom false 0 cs tokens end fault) same lexes;
  reads = subst (λ cs. Reads cs tokens end fault) same reads;
}

pub refused : (bytes : List ℕ) (l : Lexed5 bytes) (fault : Fault5) → Answers (Err fault) (statements_of l) → IsRefused bytes fault
refused bytes l (Lexical5 at) e = unread l e
refused bytes l (Syntax5 at) e = unread l e
refused bytes l (Early5 rule at) e = unread l e
refused bytes l (Outside5 rule at) e = unread l e
refused bytes l (Depth5 at) e = unread l e
refused bytes l OutOfMemory e = out_of_memory refl

pub not_text : (bytes : List ℕ) (fault : TextFault) → IsTextFault bytes fault → IsRefused bytes (of_text fault)
not_text bytes (text_fault.NotUtf8 at) h = not_utf8 at h refl
not_text bytes text_fault.OutOfMemory h = out_of_memory refl
